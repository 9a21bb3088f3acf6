-- Scratch that serves the loops of a plan.
use Rattle.std.proofs.Common.{◌≡◌, ◌⊎◌, inl, inr, ℕ, ◌<◌, List, set, get_or, sym, ap, ◌∙◌, subst, arith, ℤ}
use Rattle.std.proofs.lemmas.Bool.{cases_eq, true≢false}
use Rattle.std.proofs.lemmas.List.{get_or-set_other, get_or-set_same, length-set}
use Rattle.fv_loopcode_machine.specs.Scratches.{Serves, AreUnsettled}
use Rattle.fv_loopcode_machine.specs.declared.scratch.Scratch.{Scratch}
use Rattle.fv_engine_tasks.specs.Block.{Parts}
use Rattle.fv_engine_tasks.specs.Jobs.{HaveScratch, ServeAll}

-- one of them after a run
pub serve_set : (p : Parts) (held : ℕ → ℤ) (ss : List Scratch) (k : ℕ) (s : Scratch) → ServeAll p held ss → k < p.count
    → Serves (p.loops.code k) held s → ServeAll p held (set ss k s)
serve_set p held ss k s all l one = record {
  count = length-set ss k s ∙ all.count;
  each = λ j d m. go j d m (cases_eq j k);
}
  where
    go : (j : ℕ) (d : Scratch) → j < p.count → (j ≡ k) ⊎ (j ≡ k → ⊥) → Serves (p.loops.code j) held (get_or (set ss k s) j d)
    go j d m (inl same) =
        let is : get_or (set ss k s) j d ≡ s = ap (λ i. get_or (set ss k s) i d) same ∙ get_or-set_same ss k s d (omega (arith, l, all.count)) in
        subst (Serves (p.loops.code j) held) (sym is) (subst (λ i. Serves (p.loops.code i) held s) (sym same) one)
    go j d m (inr apart) = subst (Serves (p.loops.code j) held) (sym (get_or-set_other ss k j s d apart)) (all.each j d m)

-- they have room
pub served_room : (p : Parts) (held : ℕ → ℤ) (ss : List Scratch) → ServeAll p held ss → HaveScratch p ss
served_room p held ss all = record { count = all.count; each = λ j d m. (all.each j d m).room }

-- none is settled, so they serve whatever values are held
pub unsettled_serve : (p : Parts) (held : ℕ → ℤ) (old new : List Scratch) → HaveScratch p old → AreUnsettled old new → ServeAll p held new
unsettled_serve p held old new all un = record {
  count = un.count ∙ all.count;
  each = λ j d m.
      let is = un.each j d (omega (arith, m, all.count)) in
      let room = all.each j d m in
      subst (Serves (p.loops.code j) held) (sym is) (record {
        room = record { regs = room.regs; rows = room.rows; last = room.last };
        settled = λ e. absurd (true≢false (sym e));
      });
}
