-- `lent` lends its cells for a lifetime of its own, and has them back as the loan ended. Assumes `Logic`.
use mathlib.Core.Path.{◌≡◌, refl, sym, ap, ◌∙◌}
use mathlib.Core.List.{List, [], ◌∷◌, ◌++◌}
use Prim.Native.Nat.{◌*◌, ◌^◌}
use lib.ListN.{length}
use lib.IntN.{ℤ}
use seplogic.Ra.Ura.{Ura}
use base.Fraction.{full_share}
use base.Logic.{SProp, emp, id⊢}
use base.Fml.{GName, ftrue, flft}
use mir.Syntax.{Args, Fn, Dict, a_type, dnil, dcons, named}
use mir.Val.{Val, vunit, vptr, vstruct, of_list}
use mir.MapTy.{inst_fn}
use prog.Memory.{Memory}
use prog.Routine.{Routine}
use prog.Wp.{WpFn, Tables}
use types.Logic.{Logic}
use types.Tokens.{lft_new, lft_end}
use types.Kit.{‵, raw, ◌⊛◌, some, later, given, learn, ◌$◌, ◌∵◌, !, qed, move, keep, drop, use0, use1, use2, use3, split, join, pick, rewrite, fsplit}
use types.Kit.{fsplit3, fjoin, fpick, feq_i, feq_l, flt_i, flt_l, suffices, await, done}
use types.Part.{whole, sub, agg}
use types.Run.{stop, fld, hop, from, addr, no_more, and_then, of_opd, unit_lit, returns, enter}
use types.ByLocal.{alloc_all, pass_all, free_all, look_at, look_in_at, get, get_in, through, sets, lands_as}
use contract.BorrowLft.{◌⊑◌}
use contract.Monad.{Fun, fact, fact_i}
use contract.Running.{tables, tables_of}
use sound.WpLaws.{fm_of, WpFn-mono}
use denote.Builtin.{i32}
use denote.Exit.{yes}
use denote.Signature.{shr_ref_to}
use denote.Param.Send.{IsSync}
use denote.FollowSlice.{heres_id}
use denote.Param.{bounded, param}
use denote.RattleType.{RattleType, owns}
use denote.Ref.{mut_vals, mut_Tells, shr_vals, shr_Tells}
use denote.Signature.{plain, types_at, named_lft}
use denote.Slice.{ShrSlice, slice_val, finally, res-finally, mut_slice_vals, mut_slice_Tells}
use denote.Steps.{heard, nothing, only}
use denote.Struct.Tuple.{Tuple}
use denote.Triple.Call.{calls_at}
use denote.Triple.Clauses.{Ended, Clauses, Lasts, lasts, closing}
use denote.Triple.Entry.{Args as Args', Vals}
use contract.Lifetimes.{Lfts}
use denote.Triple.Spec.{Meets, triple_of}
use denote.Triple.Statement.{Triple, Contract}
use denote.Triple.Table.{entered}
use denote.Triple.Walked.{Stays, stay_dropped, Goes-dropped, gave_ref, stay_slice, walk_of, walked, ends_at, says, Goes-gave_ref, Goes-slice, walk_Meets}
use borrow.Rule.Slice.Lend.{kept_f, sl_relend, sl_relent_backˡ}
use borrow.Table.Owned as row
use mir.Syntax.{erased}
use Rattle.fv_pool.specs.Row.{ends_as}
use Rattle.fv_pool.specs.contracts.loan.Ended.{the_row as E}
use Rattle.std.specs.declared.thread.Threads.{Ghosts as Threading}
use Rattle.std.specs.declared.sync.Wait.{Ghosts as Waiting}
use Rattle.fv_outside.specs.declared.gate.Gate.{Ghosts as Gating}
use Rattle.fv_engine_crew.specs.inner.Packs.{MayUse, Leaves}
use Rattle.fv_engine_crew.specs.contracts.lent.Pack.{the_row as P}
use Rattle.fv_engine_crew.specs.contracts.lent.used as G
use Rattle.fv_engine_crew.specs.contracts.lent.used.Key as used_key
use Rattle.fv_engine_crew.proofs.lent.used.Met as used_met
use Rattle.fv_engine_crew.specs.contracts.lent.lent as F
use Rattle.fv_engine_crew.specs.contracts.lent.lent.Key as key
use Rattle.fv_engine_crew.proofs.lent.lent.Statement as stated
use Rattle.fv_engine_crew.proofs.lent.lent.Code as code

module _ (X Y : RattleType) (rg : Threading X.Denot) (rd : Dict) (wg : Waiting X.Denot) (wd : Dict) (gg : Gating Y.Denot) (gd : Dict) where
  abbrev args : Args
  args = bounded (a_type ∷ a_type ∷ []) (X, (Y, tt)) (dcons rd (dcons wd (dcons gd dnil)))

  -- the pack's row
  abbrev rows : Lfts 11 → RattleType
  rows κs = P (named_lft 11 3 tt κs) (named_lft 11 4 tt κs) (named_lft 11 5 tt κs) (named_lft 11 6 tt κs) (named_lft 11 7 tt κs)

  abbrev here : Fn
  here = inst_fn args code.function

  abbrev ended : Ended
  ended = F.ended X Y rg rd wg wd gg gd

  abbrev callee : Ended
  callee = G.ended X Y rg rd wg wd gg gd

  abbrev stayed : Stays ended.signature.params ended.kept
  stayed = (
    stay_dropped (shr_ref_to (0 ∷ []) tt (plain (λ _. param 0 X))) yes,
    (
      stay_dropped (shr_ref_to (1 ∷ []) tt (plain (λ _. param 1 Y))) yes,
      (gave_ref (2 ∷ []) tt (plain rows), (stay_slice (8 ∷ []) tt (plain (λ _. i32)), tt)),
    ),
  )

  module _ {M : Type 1} {𝓤 : Ura M} (𝓛 : Logic 𝓤) (at_mem : Memory → SProp 𝓤) (run : Routine → Fun 𝓤) (𝓣 : Tables 𝓤 𝓛.H) where
    open 𝓛 use {H}

    abbrev held : Clauses 𝓤 ended
    held = F.clauses X Y rg rd wg wd gg gd 𝓛 at_mem run

    abbrev Once : Contract 𝓤
    Once = triple_of 𝓛 callee.signature (G.spec X Y rg rd wg wd gg gd 𝓛 at_mem run)

    module _ (met : Triple 𝓤 (𝓣.C (used_key.name args)) Once) where
      meets : Meets 𝓛 ended.signature (WpFn 𝓤 H 𝓣.C 𝓣.Λ here) (closing 𝓛 ended held)
      meets =
          walk_Meets 𝓛 ended stayed (
            Goes-dropped 𝓛 11 (shr_ref_to (0 ∷ []) tt (plain (λ _. param 0 X))) yes
                (λ κs x w. refl),
            (
              Goes-dropped 𝓛 11 (shr_ref_to (1 ∷ []) tt (plain (λ _. param 1 Y))) yes
                  (λ κs x w. refl),
              (Goes-gave_ref 𝓛 11 2 tt (plain rows), (Goes-slice 𝓛 11 8 tt (plain (λ _. i32)), tt)),
            ),
          ) held
          (WpFn 𝓤 H 𝓣.C 𝓣.Λ here) (WpFn-mono 𝓤 H 𝓛.laws 𝓣 here)
          (walked 𝓛 ended stayed held (WpFn 𝓤 H 𝓣.C 𝓣.Λ here) (λ κs. (shr_vals, (shr_vals, (mut_vals, (mut_slice_vals, tt)))))
          (λ κs. (
            shr_Tells (named 0) κs.0 (param 0 X),
            (
              shr_Tells (named 1) κs.1.0 (param 1 Y),
              (
                mut_Tells (named 2) κs.1.1.0 (rows κs),
                (mut_slice_Tells (named 8) κs.1.1.1.1.1.1.1.1.0 i32, tt),
              ),
            ),
          )) (λ κs qs bounds a _ are.
          let κ₀ = κs.0 in let κ₁ = κs.1.0 in let κ₂ = κs.1.1.0 in let κ₃ = κs.1.1.1.0 in let κ₄ = κs.1.1.1.1.0 in let κ₅ = κs.1.1.1.1.1.0 in
          let κ₆ = κs.1.1.1.1.1.1.0 in let κ₇ = κs.1.1.1.1.1.1.1.0 in let κ₈ = κs.1.1.1.1.1.1.1.1.0 in let κ₉ = κs.1.1.1.1.1.1.1.1.1.0 in
          let κ₁₀ = κs.1.1.1.1.1.1.1.1.1.1.0 in
          let q₀ = qs.0 in let q₁ = qs.1.0 in let q₂ = qs.1.1.0 in let q₃ = qs.1.1.1.0 in let q₄ = qs.1.1.1.1.0 in let q₅ = qs.1.1.1.1.1.0 in
          let q₆ = qs.1.1.1.1.1.1.0 in let q₇ = qs.1.1.1.1.1.1.1.0 in let q₈ = qs.1.1.1.1.1.1.1.1.0 in let q₉ = qs.1.1.1.1.1.1.1.1.1.0 in
          let q₁₀ = qs.1.1.1.1.1.1.1.1.1.1.0 in
          let t = a.0 in let g = a.1.0 in let u = a.1.1.0 in let c = a.1.1.1.0 in let b = c.ref_ptr.0 in let o = c.ref_ptr.1 in let xs : List ℤ = c.now in
          let vss : Vals ended.signature κs = (shr_vals t, (shr_vals g, (mut_vals u, (mut_slice_vals c, tt)))) in
          let y₀ : (walk_of 𝓛 ended stayed held).Ghost = ((κs, qs, bounds, a, vss), tt) in
          let May : Type 0 = MayUse u.now xs in
          qed 𝓛 (((‵ (flft κ₀ q₀) ⊛ ‵ (flft κ₁ q₁) ⊛ ‵ (flft κ₂ q₂) ⊛ ‵ (flft κ₃ q₃) ⊛ ‵ (flft κ₄ q₄) ⊛ ‵ (flft κ₅ q₅) ⊛ ‵ (flft κ₆ q₆) ⊛ ‵ (flft κ₇ q₇)
          ⊛ ‵ (flft κ₈ q₈) ⊛ ‵ (flft κ₉ q₉) ⊛ ‵ (flft κ₁₀ q₁₀) ⊛ ‵ ftrue) ⊛ ‵ (owns (types_at ended.signature.params κs) a vss))
          ∷ (raw (fact 𝓤 (κ₉ ⊑ X.lives)) ⊛ raw (fact 𝓤 (κ₁₀ ⊑ Y.lives)) ⊛ raw (fact 𝓤 (IsSync (param 0 X))) ⊛ raw (fact 𝓤 (IsSync (param 1 Y)))
          ⊛ raw (fact 𝓤 May)) ∷ []) ∵
          move ! (1 ∷ []) $ split ! $ heard ! (κ₉ ⊑ X.lives) (λ inX. split ! $ heard ! (κ₁₀ ⊑ Y.lives) (λ inY. split ! $
          heard ! (IsSync (param 0 X)) (λ syncX. split ! $ heard ! (IsSync (param 1 Y)) (λ syncY. heard ! May (λ may.
          split ! $ split ! $ move ! (1 ∷ []) $ split ! $ move ! (1 ∷ []) $ split ! $ move ! (1 ∷ []) $ split ! $ move ! (1 ∷ []) $ split ! $
          move ! (1 ∷ []) $ split ! $ move ! (1 ∷ []) $ split ! $ move ! (1 ∷ []) $ split ! $ move ! (1 ∷ []) $ split ! $
          -- [the token of κ₈; those of κ₉ and κ₁₀; κ₇ .. κ₀; what the arguments own]
          move ! (10 ∷ []) $ fsplit ! $ move ! (1 ∷ []) $ fsplit ! $ move ! (1 ∷ []) $ fsplit ! $ move ! (1 ∷ []) $ fsplit ! $
          keep ! (0 ∷ 5 ∷ 2 ∷ 3 ∷ 4 ∷ 6 ∷ 7 ∷ 8 ∷ 9 ∷ 10 ∷ 11 ∷ 12 ∷ 13 ∷ 14 ∷ []) $
          -- [the cells; κ₈; the pack; the gate; the threads; κ₉ and κ₁₀; κ₇ .. κ₀]
          fsplit ! $ fsplit ! $ feq_l ! (λ e. fsplit ! $ flt_l ! (λ fits. flt_l ! (λ bytes.
          enter ! 𝓣.C 𝓣.Λ here (vptr t.ref_ptr.0 t.ref_ptr.1 ∷ vptr g.ref_ptr.0 g.ref_ptr.1 ∷ vptr u.ref_ptr.0 u.ref_ptr.1 ∷ slice_val c.ref_ptr
          (length xs) ∷ []) _ $
          alloc_all ! (λ l. pass_all ! refl ((tt, tt), ((tt, tt), ((tt, tt), ((tt, (tt, (record { fits = fits }, tt))), tt)))) $
          sets ! (addr ! (through ! refl (stop !))) refl (tt, tt) $
          sets ! (addr ! (from ! (fld ! refl (hop ! (look_in_at ! 4 (sub ! 0 refl (whole !))) (stop !))))) refl (tt, tt) $
          sets ! (agg ! (and_then ! (get ! refl) (and_then ! (get_in ! (fld ! refl (stop !)) (sub ! 1 refl (whole !))) (no_more !)))) refl
          (tt, (tt, (record { fits = fits }, tt))) $
          lft_new ! tt (λ α. move ! (1 ∷ []) $
          flt_i ! (length xs * 4) (2 ^ 63) bytes $ flt_i ! (length xs) (2 ^ 64) fits $ fjoin ! $ fjoin ! $ move ! (0 ∷ 2 ∷ []) $
          use2 𝓛 (later (some (λ (δ : GName). ‵ ((row.MutSlice erased (α ∷ []) i32).own_val (record { ref_ptr = c.ref_ptr; ghost_name = δ; now = xs }))
          ⊛ (kept_f 𝓛 i32 κ₈ q₈ (α ∷ []) c.ghost_name δ xs b o)))) (sl_relend 𝓛 i32 κ₈ q₈ (α ∷ []) b o c.ghost_name xs) $ await ! tt $
          pick ! (λ δ. split ! $
          -- [the loan; what is kept; the token of α; the pack; the gate; the threads; κ₉ and κ₁₀; κ₇ .. κ₀]
          fsplit ! $ feq_i ! (List Val) (slice_val c.ref_ptr (length xs) ∷ []) (slice_val c.ref_ptr (length xs) ∷ []) refl $ fjoin ! $ fjoin ! $
          nothing ! $ move ! (1 ∷ 0 ∷ []) $ fjoin ! $ move ! (3 ∷ 0 ∷ []) $ fjoin ! $ move ! (3 ∷ 0 ∷ []) $ fjoin ! $ move ! (3 ∷ 0 ∷ []) $ fjoin ! $
          move ! (2 ∷ 3 ∷ []) $ join ! $ move ! (3 ∷ 0 ∷ []) $ join ! $ move ! (3 ∷ 0 ∷ []) $ join ! $ move ! (3 ∷ 0 ∷ []) $ join ! $ move ! (3 ∷ 0 ∷ []) $
          join ! $
          move ! (3 ∷ 0 ∷ []) $ join ! $ move ! (3 ∷ 0 ∷ []) $ join ! $ move ! (3 ∷ 0 ∷ []) $ join ! $ move ! (3 ∷ 0 ∷ []) $ join ! $ join ! $
          use0 𝓛 (raw (fact 𝓤 May)) (fact_i 𝓤 May (emp 𝓤) may) $ use0 𝓛 (raw (fact 𝓤 (IsSync (param 1 Y)))) (fact_i 𝓤 (IsSync (param 1 Y)) (emp 𝓤) syncY) $
          join ! $
          use0 𝓛 (raw (fact 𝓤 (IsSync (param 0 X)))) (fact_i 𝓤 (IsSync (param 0 X)) (emp 𝓤) syncX) $ join ! $
          use0 𝓛 (raw (fact 𝓤 (κ₁₀ ⊑ Y.lives))) (fact_i 𝓤 (κ₁₀ ⊑ Y.lives) (emp 𝓤) inY) $ join ! $
          use0 𝓛 (raw (fact 𝓤 (κ₉ ⊑ X.lives))) (fact_i 𝓤 (κ₉ ⊑ X.lives) (emp 𝓤) inX) $ join ! $
          move ! (1 ∷ 0 ∷ []) $ join ! $
          let κs' : Lfts 11 = (κ₀, (κ₁, (κ₂, (κ₃, (κ₄, (κ₅, (κ₆, (κ₇, (α ∷ [], (κ₉, (κ₁₀, tt))))))))))) in
          let passed : Args' callee.signature κs' = (t, (g, (u, (record { ref_ptr = c.ref_ptr; ghost_name = δ; now = xs }, tt)))) in
          let y : Once.Ghost = ((κs', (q₀, (q₁, (q₂, (q₃, (q₄, (q₅, (q₆, (q₇, (full_share, (q₉, (q₁₀, tt))))))))))), bounds, passed, vss), tt) in
          let Pair : RattleType = Tuple (ShrSlice (named 8) (α ∷ []) i32 ∷ E ∷ []) in
          use1 𝓛 (raw (Once.pre y)) (id⊢ 𝓤 (Once.pre y)) $
          calls_at ! (fm_of 𝓤 H 𝓛.laws 𝓣) Once met y (and_then ! (get ! refl) (and_then ! (get ! refl) (and_then ! (get ! refl) (and_then ! (get ! refl)
          (no_more !))))) (λ v.
          let Said : Pair.Denot → Lasts callee κs' passed → Type 0 = λ r ws. (r.1.name ≡ δ) × Leaves u.now ws.1.1.0 xs r.1.last in
          use1 𝓛 (later (some (λ (r : Pair.Denot). ((‵ (flft κ₀ q₀) ⊛ ‵ (flft κ₁ q₁) ⊛ ‵ (flft κ₂ q₂) ⊛ ‵ (flft κ₃ q₃) ⊛ ‵ (flft κ₄ q₄) ⊛ ‵ (flft κ₅ q₅)
          ⊛ ‵ (flft κ₆ q₆) ⊛ ‵ (flft κ₇ q₇) ⊛ ‵ (flft (α ∷ []) full_share) ⊛ ‵ (flft κ₉ q₉) ⊛ ‵ (flft κ₁₀ q₁₀) ⊛ ‵ ftrue) ⊛ ‵ (Pair.own_val r (v ∷ [])))
          ⊛ some (λ (ws : Lasts callee κs' passed). ‵ (lasts callee κs' passed ws) ⊛ raw (fact 𝓤 (Said r ws)))))) (id⊢ 𝓤 (Once.post y v)) $
          await ! tt $ pick ! (λ r. split ! $ move ! (1 ∷ []) $ pick ! (λ ws. split ! $ move ! (1 ∷ []) $ heard ! (Said r ws) (λ said.
          move ! (1 ∷ []) $ split ! $ split ! $ move ! (1 ∷ []) $ split ! $ move ! (1 ∷ []) $ split ! $ move ! (1 ∷ []) $ split ! $ move ! (1 ∷ []) $
          split ! $
          move ! (1 ∷ []) $ split ! $ move ! (1 ∷ []) $ split ! $ move ! (1 ∷ []) $ split ! $ move ! (1 ∷ []) $ split ! $ lft_end ! tt $
          -- [α is over; κ₉ and κ₁₀; κ₇ .. κ₀; the result; the last values; what is kept]
          move ! (10 ∷ []) $ fpick ! (λ vs. fsplit ! $ feq_l ! (λ e₀. fsplit3 ! $ fsplit ! $ fsplit ! $ feq_l ! (λ e₁. fsplit ! $
          flt_l ! (λ fits'. flt_l ! (λ _. drop ! $
          fsplit ! $ fpick ! (λ ws'. fsplit ! $ feq_l ! (λ e₂. drop ! $
          -- [how the loan ended; nothing; α is over; κ₉ and κ₁₀; κ₇ .. κ₀; the last values; what is kept]
          rewrite ! 0 (λ (γ : GName). ‵ (ends_as γ r.1.last)) said.0 refl $
          rewrite ! 0 (λ (ys : List ℤ). ‵ (ends_as δ ys)) (sym (heres_id i32 r.1.last)) refl $
          use1 𝓛 (‵ (finally i32 δ r.1.last)) (res-finally 𝓛 (named 8) (α ∷ []) i32 δ r.1.last) $ move ! (2 ∷ 13 ∷ 0 ∷ []) $
          use3 𝓛 (later (given (length r.1.last ≡ length xs) (‵ ((row.MutSlice erased κ₈ i32).own_val
          (record { ref_ptr = c.ref_ptr; ghost_name = c.ghost_name; now = r.1.last }))
          ⊛ ‵ (flft κ₈ q₈)))) (sl_relent_backˡ 𝓛 i32 κ₈ q₈ (α ∷ []) b o c.ghost_name δ xs r.1.last) $ await ! tt $ learn ! (λ same. split ! $
          -- [the cells; the token of κ₈; nothing; κ₉ and κ₁₀; κ₇ .. κ₀; the last values]
          lands_as ! (ap only e₀ ∙ (λ i. vstruct (of_list (e₁ i ++ (e₂ i ++ []))))) refl (tt, ((tt, (record { fits = fits' }, tt)), (tt, tt))) $
          sets ! (of_opd ! (unit_lit !)) refl (tt, tt) $ returns ! (look_at ! 0 refl) $ free_all ! refl $
          suffices ! _ (ends_at 𝓛 ended stayed held y₀ vunit tt (tt, (tt, (ws.1.1.0, (r.1.last, tt)))) (tt, (tt, (tt, (same, tt))))) $
          says ! (said.1, same) $
          fsplit ! $ feq_i ! (List Val) (slice_val c.ref_ptr (length xs) ∷ []) (slice_val c.ref_ptr (length r.1.last) ∷ []) (ap
          (λ n. slice_val c.ref_ptr n ∷ []) (sym same)) $ fjoin ! $ fjoin ! $
          nothing ! $ move ! (1 ∷ 0 ∷ []) $ fjoin ! $ move ! (12 ∷ []) $ fsplit ! $ move ! (1 ∷ []) $ fsplit ! $ move ! (1 ∷ []) $ fsplit ! $
          -- [the pack's last value; nothing more; nothing; nothing; the cells; κ₈; nothing; κ₉ and κ₁₀; κ₇ .. κ₀]
          move ! (0 ∷ 4 ∷ []) $ fjoin ! $ nothing ! $ fjoin ! $ nothing ! $ fjoin ! $
          feq_i ! (List Val) (vunit ∷ []) (vunit ∷ []) refl $ move ! (1 ∷ 0 ∷ []) $ join ! $
          move ! (4 ∷ 6 ∷ []) $ join ! $ move ! (6 ∷ 0 ∷ []) $ join ! $ move ! (6 ∷ 0 ∷ []) $ join ! $ move ! (6 ∷ 0 ∷ []) $ join ! $ move ! (6 ∷ 0 ∷ []) $
          join ! $
          move ! (6 ∷ 0 ∷ []) $ join ! $ move ! (6 ∷ 0 ∷ []) $ join ! $ move ! (6 ∷ 0 ∷ []) $ join ! $ move ! (6 ∷ 0 ∷ []) $ join ! $ keep ! (0 ∷ 1 ∷ []) $
          done !)))))))))))))))))))))))))

pub lent_spec : {M : Type 1} → stated.statement M
unfolding tables_of
lent_spec 𝓤 𝓛 𝓜 𝓡 wired X Y LX LY rg rd wg wd gg gd metT metW metG =
    let 𝓣 : Tables 𝓤 𝓛.H = tables_of 𝓤 𝓛.H 𝓜 (tables 𝓤 𝓛.H 𝓜 𝓡 𝓡.env) in
    entered 𝓤 𝓛.H (triple_of 𝓛 (F.signature X Y) (F.spec X Y rg rd wg wd gg gd 𝓛 𝓜.mem 𝓡.returns)) 𝓣.C 𝓣.Λ (key.name (args X Y rg rd wg wd gg gd))
    (here X Y rg rd wg wd gg gd)
    (code.unfolded 𝓤 𝓛.H 𝓜 𝓡 wired (X, (Y, tt)) rd wd gd)
    (meets X Y rg rd wg wd gg gd 𝓛 𝓜.mem 𝓡.returns 𝓣 (used_met.met 𝓤 𝓛 𝓜 𝓡
    (code.calls-fv_engine_crew::lent::used 𝓡.env wired) X Y LX LY rg rd wg wd gg gd metT metW metG))
