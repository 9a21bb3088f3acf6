-- What the walk makes of a diagram is wired as the diagram, by one induction on the tree.
use Rattle.std.proofs.Common.{◌≡◌, ℕ, suc, ◌+◌, ◌%◌, ◌<◌, ◌≤◌, get_or, List, [], ◌∷◌, ◌++◌, length, take, drop, replicate, refl, sym, ap, ap₂, ◌∙◌}
use Rattle.std.proofs.Common.{arith, pos, ℤ, length-append, nat_eq, inl, inr, Bool, false}
use Rattle.std.specs.Prelude.{slice_set}
use Rattle.std.proofs.lemmas.Bool.{cases_eq, eq-eqb, ne_eqb, cond-true, cond-false}
use Rattle.std.proofs.lemmas.List.{length-take-le, length-drop, length-set, length-map, map-append, get_or-set_same, get_or-set_other, get_or-take}
use Rattle.std.proofs.lemmas.List.{get_or-map, drop-map}
use Rattle.std.proofs.Math.Nat.{mod-lt}
use Rattle.fv_base.proofs.lemmas.Lists.{length_table, table_same, get_or_table}
use Rattle.fv_num.specs.declared.op.Op.TheVariants.{Add}
use Rattle.fv_num.specs.headline.Words.{apply_of, argument}
use Rattle.fv_num.specs.headline.Tables.{read_at}
use Rattle.fv_num.specs.headline.Frames.{table}
use Rattle.fv_num.specs.declared.primitive.Primitive.{Primitive as Prim}
use Rattle.fv_num.specs.declared.primitive.Primitive.TheVariants as prim
use Rattle.fv_diagram.specs.declared.signals.Leaf.{Leaf}
use Rattle.fv_diagram.specs.declared.signals.Leaf.TheVariants as leaf
use Rattle.fv_diagram.specs.headline.Diagram.{Diagram, Primitive, Constant, Control, Slot, Wave, Table, Bind, Par, Seq, Split, Merge, Rec, inputs, outputs}
use Rattle.fv_diagram.specs.headline.Diagram.{primitive_inputs, primitive_outputs, table_inputs, is_table_primitive}
use Rattle.fv_diagram.specs.Diagram.{IsWellFormed}
use Rattle.fv_diagram.specs.headline.Streams.{Stream, dealt, every, wrapped_sum, merged, added as add}
use Rattle.fv_diagram.specs.Wires.{Wired, carried}
use Rattle.fv_diagram.specs.Hooks.{Hooks}
use Rattle.fv_diagram.specs.Walked.{walked, one, primitive, waved, added, summed}
use Rattle.fv_diagram.proofs.lemmas.Carried.{wired_same, column_carries}
use Rattle.fv_diagram.proofs.lemmas.Counting.{place_inside}
use Rattle.std.proofs.lemmas.Bool.{true≢false}
use Rattle.fv_diagram.proofs.lemmas.Places.{carried_items}
use Rattle.fv_diagram.proofs.lemmas.Sums.{every_front}
use Rattle.fv_diagram.proofs.lemmas.Turns.{not_below}

-- The laws that need no meaning. Good s: what holds of all signals of this user. Onward s q: q has grown from s, with the same feedbacks open.
pub record AreOrderly {S : Type 0} (h : Hooks ℕ S) (Good : S → Type 0) (Onward : S → S → Type 0) : Type 0 where
  pub on_same : (s : S) → Onward s s
  pub on_both : (s p q : S) → Onward s p → Onward p q → Onward s q
  pub stays_good : (s q : S) → Onward s q → Good s → Good q
  pub leaf_on : (l : Leaf) (ins : List ℕ) (s : S) → Onward s (h.leaf l ins s).1
  pub count_on : (n : ℕ) (s : S) → Onward s (h.counted n s).1
  pub table_on : (writes : Bool) (T : List ℤ) (ins : List ℕ) (s : S) → Onward s (h.tabled writes T ins s).1
  pub open_wide : (n : ℕ) (s : S) → length (h.opened n s).0 ≡ n
  pub open_good : (n : ℕ) (s : S) → Good s → Good (h.opened n s).1
  pub close_wide : (outs : List ℕ) (s : S) → length (h.closed outs s).0 ≡ length outs
  pub close_on : (n : ℕ) (outs : List ℕ) (z s : S) → Good z → n ≤ length outs → Onward (h.opened n z).1 s → Onward z (h.closed outs s).1

module _ {S : Type 0} (h : Hooks ℕ S) (Good : S → Type 0) (Onward : S → S → Type 0) (laws : AreOrderly h Good Onward) where
  primitive_goes : (p : Prim) (ins : List ℕ) (s : S) → is_table_primitive p ≡ false → length ins ≡ primitive_inputs p →
      (length (primitive h p ins s).0 ≡ primitive_outputs p) × Onward s (primitive h p ins s).1
  primitive_goes prim.Wire ins s r n = (length-take-le 1 ins (omega (arith, n)), laws.on_same s)
  primitive_goes prim.Int ins s r n = (length-take-le 1 ins (omega (arith, n)), laws.on_same s)
  primitive_goes prim.Attach ins s r n = (length-take-le 1 ins (omega (arith, n)), laws.on_same s)
  primitive_goes prim.Cut ins s r n = (refl, laws.on_same s)
  primitive_goes prim.Mem ins s r n = (refl, laws.leaf_on leaf.Mem ins s)
  primitive_goes prim.Prefix ins s r n = (refl, laws.leaf_on leaf.Prefix ins s)
  primitive_goes prim.Delay ins s r n = (refl, laws.leaf_on leaf.Delay ins s)
  primitive_goes (prim.Point op) ins s r n = (refl, laws.leaf_on (leaf.Point op) ins s)
  primitive_goes prim.ReadTable ins s r n = absurd (true≢false r)
  primitive_goes prim.WriteTable ins s r n = absurd (true≢false r)

  waved_goes : (w : List ℤ) (s : S) → (length (waved h w s).0 ≡ 2) × Onward s (waved h w s).1
  waved_goes w s =
      let many = h.leaf (leaf.Number (pos (length w))) [] s in
      let index = h.counted (length w) many.1 in
      let a = laws.leaf_on (leaf.Number (pos (length w))) [] s in
      let b = laws.count_on (length w) many.1 in
      let c = laws.table_on false w (index.0 ∷ []) index.1 in
      (refl, laws.on_both _ _ _ (laws.on_both _ _ _ a b) c)

  added_goes : (n i : ℕ) (xs sums : List ℕ) (s : S) → (length (added h 0 n i xs sums s).0 ≡ length sums) × Onward s (added h 0 n i xs sums s).1
  added_goes n i [] sums s = (refl, laws.on_same s)
  added_goes n i (x ∷ xs) sums s =
      let ws = get_or sums (i % n) 0 ∷ x ∷ [] in
      let r = h.leaf (leaf.Point Add) ws s in
      let m = added_goes n (suc i) xs (slice_set sums (i % n) r.0) r.1 in
      (m.0 ∙ length-set sums (i % n) r.0, laws.on_both _ _ _ (laws.leaf_on (leaf.Point Add) ws s) m.1)

  summed_goes : (n : ℕ) (xs : List ℕ) (s : S) → n ≤ length xs → (length (summed h 0 n xs s).0 ≡ n) × Onward s (summed h 0 n xs s).1
  summed_goes n xs s l = let m = added_goes n n (drop n xs) (take n xs) s in (m.0 ∙ length-take-le n xs l, m.1)

  pub walk_goes : (d : Diagram) (slots : ℕ → ℕ) (ins : List ℕ) (s : S) → IsWellFormed d → length ins ≡ inputs d → Good s →
      (length (walked h 0 d slots ins s).0 ≡ outputs d) × Onward s (walked h 0 d slots ins s).1
  walk_goes (Primitive p) slots ins s wf n g = primitive_goes p ins s wf n
  walk_goes (Constant k) slots ins s wf n g = (refl, laws.leaf_on (leaf.Number k) [] s)
  walk_goes (Control k) slots ins s wf n g = (refl, laws.leaf_on (leaf.Control k) [] s)
  walk_goes (Slot k) slots ins s wf n g = (refl, laws.on_same s)
  walk_goes (Wave w) slots ins s wf n g = waved_goes w s
  walk_goes (Table T writes) slots ins s wf n g = (refl, laws.table_on writes T ins s)
  walk_goes (Bind k a) slots ins s wf n g = walk_goes a _ (drop 1 ins) s wf (length-drop 1 ins ∙ omega (arith, n)) g
  walk_goes (Par a b) slots ins s wf n g =
      let l = walked h 0 a slots (take (inputs a) ins) s in
      let ma = walk_goes a slots (take (inputs a) ins) s wf.0 (length-take-le (inputs a) ins (omega (arith, n))) g in
      let mb = walk_goes b slots (drop (inputs a) ins) l.1 wf.1 (length-drop (inputs a) ins ∙ omega (arith, n)) (laws.stays_good _ _ ma.1 g) in
      (length-append l.0 (walked h 0 b slots (drop (inputs a) ins) l.1).0 ∙ ap₂ (λ x y. x + y) ma.0 mb.0, laws.on_both _ _ _ ma.1 mb.1)
  walk_goes (Seq a b) slots ins s wf n g =
      let l = walked h 0 a slots ins s in
      let ma = walk_goes a slots ins s wf.0 n g in
      let mb = walk_goes b slots l.0 l.1 wf.1 (ma.0 ∙ wf.2) (laws.stays_good _ _ ma.1 g) in (mb.0, laws.on_both _ _ _ ma.1 mb.1)
  walk_goes (Split a b) slots ins s wf n g =
      let l = walked h 0 a slots ins s in
      let ma = walk_goes a slots ins s wf.0 n g in
      let mb = walk_goes b slots (dealt 0 (inputs b) l.0) l.1 wf.1 (length_table (inputs b) (λ i. get_or l.0 (i % length l.0) 0))
      (laws.stays_good _ _ ma.1 g) in (mb.0, laws.on_both _ _ _ ma.1 mb.1)
  walk_goes (Merge a b) slots ins s wf n g =
      let l = walked h 0 a slots ins s in
      let m = summed h 0 (inputs b) l.0 l.1 in
      let ma = walk_goes a slots ins s wf.0 n g in
      let ms = summed_goes (inputs b) l.0 l.1 (omega (arith, ma.0, not_below (outputs a) (inputs b) wf.2 wf.4)) in
      let on = laws.on_both _ _ _ ma.1 ms.1 in
      let mb = walk_goes b slots m.0 m.1 wf.1 ms.0 (laws.stays_good _ _ on g) in (mb.0, laws.on_both _ _ _ on mb.1)
  walk_goes (Rec a b) slots ins s wf n g =
      let o = h.opened (inputs b) s in
      let r = walked h 0 b slots o.0 o.1 in
      let l = walked h 0 a slots (r.0 ++ ins) r.1 in
      let taken : outputs b ≤ inputs a = wf.3 in
      let fed : inputs b ≤ outputs a = wf.2 in
      let go = laws.open_good (inputs b) s g in
      let mb = walk_goes b slots o.0 o.1 wf.1 (laws.open_wide (inputs b) s) go in
      let ma = walk_goes a slots (r.0 ++ ins) r.1 wf.0 (length-append r.0 ins ∙ omega (arith, mb.0, n, taken)) (laws.stays_good _ _ mb.1 go) in
      (laws.close_wide l.0 l.1 ∙ ma.0, laws.close_on (inputs b) l.0 s l.1 g (omega (arith, ma.0, fed)) (laws.on_both _ _ _ mb.1 ma.1))

-- What a part of the walk has to show: it leads from the signals s to r.1, and from the wires ins to r.0, which are wired as
-- the diagram d where v is right for r.1.
pub record Means {S : Type 0} (Holds : S → Type 0) (v c : ℕ → Stream) (d : Diagram) (slots : ℕ → ℕ) (ins : List ℕ) (s : S) (r : List ℕ × S) : Type 0 where
  pub holds : Holds s
  pub wired : Wired v c d slots ins r.0

-- each list of the diagram fits
abbrev pub AllLists : (List ℤ → Type 0) → Diagram → Type 0
AllLists Fits (Wave w) = Fits w
AllLists Fits (Table T writes) = Fits T
AllLists Fits (Bind s a) = AllLists Fits a
AllLists Fits (Par a b) = AllLists Fits a × AllLists Fits b
AllLists Fits (Seq a b) = AllLists Fits a × AllLists Fits b
AllLists Fits (Split a b) = AllLists Fits a × AllLists Fits b
AllLists Fits (Merge a b) = AllLists Fits a × AllLists Fits b
AllLists Fits (Rec a b) = AllLists Fits a × AllLists Fits b
AllLists Fits (Primitive p) = Unit {0}
AllLists Fits (Constant n) = Unit {0}
AllLists Fits (Control k) = Unit {0}
AllLists Fits (Slot s) = Unit {0}

-- The laws of one user of the walk. Holds s: v is right for the signals s. Onward s q: q has grown from s, with the same
-- feedbacks open.
pub record AreFaithful {S : Type 0} (h : Hooks ℕ S) (Good : S → Type 0) (Onward : S → S → Type 0) (Holds : S → Type 0) (Fits : List ℤ → Type 0)
    (v c : ℕ → Stream) : Type 0 where
  pub primitives : (p : Prim) (slots : ℕ → ℕ) (ins : List ℕ) (s : S) → Good s → is_table_primitive p ≡ false → length ins ≡ primitive_inputs p
      → Holds (primitive h p ins s).1 →
      Means Holds v c (Primitive p) slots ins s (primitive h p ins s)
  pub numbers : (n : ℤ) (slots : ℕ → ℕ) (ins : List ℕ) (s : S) → Holds (h.leaf (leaf.Number n) [] s).1 →
      Means Holds v c (Constant n) slots ins s (one (h.leaf (leaf.Number n) [] s))
  pub controls : (k : ℕ) (slots : ℕ → ℕ) (ins : List ℕ) (s : S) → Holds (h.leaf (leaf.Control k) [] s).1 →
      Means Holds v c (Control k) slots ins s (one (h.leaf (leaf.Control k) [] s))
  -- a wire that counts, modulo the length of a list that fits
  pub counts : (T : List ℤ) (s : S) → Fits T → Good s → Holds (h.counted (length T) s).1 →
      Holds s × ((t : ℕ) → v (h.counted (length T) s).0 t ≡ pos (t % length T)) × (1 ≤ length T)
  -- a table of a list that fits
  pub tables : (writes : Bool) (T : List ℤ) (slots : ℕ → ℕ) (ins : List ℕ) (s : S) → Fits T → length ins ≡ table_inputs writes
      → Holds (h.tabled writes T ins s).1 → Means Holds v c (Table T writes) slots ins s (one (h.tabled writes T ins s))
  pub opens : (n : ℕ) (s : S) → Holds (h.opened n s).1 → Holds s
  pub shuts : (outs : List ℕ) (s : S) → Holds (h.closed outs s).1 → Holds s
  -- a feedback that was opened at z and is closed at s
  pub closes : (n : ℕ) (outs : List ℕ) (z s : S) → Good z → n ≤ length outs → Onward (h.opened n z).1 s → Holds (h.opened n z).1 → Holds (h.closed outs s).1 →
      ((t : ℕ) → carried v (h.closed outs s).0 t ≡ carried v outs t)
      × (carried v (h.opened n z).0 0 ≡ replicate n (pos 0)) × ((t : ℕ) → carried v (h.opened n z).0 (suc t) ≡ take n (carried v outs t))

module _ {S : Type 0} (h : Hooks ℕ S) (Good : S → Type 0) (Onward : S → S → Type 0) (Holds : S → Type 0) (Fits : List ℤ → Type 0) (v c : ℕ → Stream)
    (orderly : AreOrderly h Good Onward) (laws : AreFaithful h Good Onward Holds Fits v c) where
  goes : (d : Diagram) (slots : ℕ → ℕ) (ins : List ℕ) (s : S) → IsWellFormed d → length ins ≡ inputs d → Good s →
      (length (walked h 0 d slots ins s).0 ≡ outputs d) × Onward s (walked h 0 d slots ins s).1
  goes d slots ins s = walk_goes h Good Onward orderly d slots ins s

  -- a sum of two wires
  add_means : (a b : ℕ) (s : S) → Good s → Holds (h.leaf (leaf.Point Add) (a ∷ b ∷ []) s).1 →
      Holds s × ((t : ℕ) → v (h.leaf (leaf.Point Add) (a ∷ b ∷ []) s).0 t ≡ apply_of Add (v a t ∷ v b t ∷ []))
  add_means a b s k g =
      let m = laws.primitives (prim.Point Add) (λ i. 0) (a ∷ b ∷ []) s k refl refl g in (
        m.holds,
        λ t. ap (λ x. get_or x 0 (pos 0)) (m.wired (suc t) t (omega arith))
            ∙ ap (apply_of Add) (get_or_table (suc t) (carried v (a ∷ b ∷ [])) t [] (omega arith)),
      )

  added_means : (n i : ℕ) (xs sums : List ℕ) (s : S) → 0 < n → length sums ≡ n → Good s → Holds (added h 0 n i xs sums s).1 →
      Holds s × ((j t : ℕ) → j < n → v (get_or (added h 0 n i xs sums s).0 j 0) t ≡ add (v (get_or sums j 0) t) (every n j i (carried v xs t)))
  added_means n i [] sums s some w k g = (g, λ j t l. refl)
  added_means n i (x ∷ xs) sums s some w k g =
      let a = get_or sums (i % n) 0 in
      let r = h.leaf (leaf.Point Add) (a ∷ x ∷ []) s in
      let next = slice_set sums (i % n) r.0 in
      let m = added_means n (suc i) xs next r.1 some (length-set sums (i % n) r.0 ∙ w)
      (orderly.stays_good _ _ (orderly.leaf_on (leaf.Point Add) (a ∷ x ∷ []) s) k) g in
      let e = add_means a x s k m.0 in (
        e.0,
        λ j t l.
            let rest = every n j (suc i) (carried v xs t) in
            m.1 j t l ∙ elim (cases_eq (i % n) j) [
              | inl f ↦
                  let here : get_or next j 0 ≡ r.0 = ap (λ z. get_or next z 0) (sym f) ∙ get_or-set_same sums (i % n) r.0 0 (omega (arith, mod-lt i some, w)) in
                  ap (λ z. add (v z t) rest) here ∙ ap (λ z. add z rest) (e.1 t) ∙ ap (λ z. add (apply_of Add (v (get_or sums z 0) t ∷ v x t ∷ [])) rest) f
                  ∙ ap (add (v (get_or sums j 0) t)) (sym (cond-true (nat_eq (i % n) j) (v x t ∷ rest) rest (eq-eqb (i % n) j f)))
              | inr f ↦
                  ap (λ z. add (v z t) rest) (get_or-set_other sums (i % n) j r.0 0 (λ z. f (sym z)))
                  ∙ ap (add (v (get_or sums j 0) t)) (sym (cond-false (nat_eq (i % n) j) (v x t ∷ rest) rest (ne_eqb (i % n) j f)))
            ],
      )

  -- sums of many
  sums_mean : (n : ℕ) (terms : List ℕ) (s : S) → 1 ≤ n → n ≤ length terms → Good s → Holds (summed h 0 n terms s).1 →
      Holds s × ((t : ℕ) → carried v (summed h 0 n terms s).0 t ≡ merged n (carried v terms t))
  sums_mean n terms s some l k g =
      let m = added_means n n (drop n terms) (take n terms) s some (length-take-le n terms l) k g in
      let wide = (summed_goes h Good Onward orderly n terms s l).0 in (
        m.0,
        λ t.
            let X = carried v terms t in
            let long : length X ≡ length terms = length-map terms (λ w. v w t) in
            carried_items v (summed h 0 n terms s).0 t ∙ ap (λ k. table k (λ j. v (get_or (summed h 0 n terms s).0 j 0) t)) wide
            ∙ table_same n _ _ (λ j b.
            m.1 j t b
            ∙ ap₂ (λ z zs. add z (every n j n zs)) (ap (λ w. v w t) (get_or-take n terms j 0 b) ∙ sym (get_or-map (λ w. v w t) terms j 0 (pos 0) (omega arith)))
            (sym (drop-map (λ w. v w t) n terms))
            ∙ ap wrapped_sum (sym (every_front n j (pos 0) X b (omega arith)))),
      )

  -- a waveform
  waved_means : (w : List ℤ) (slots : ℕ → ℕ) (ins : List ℕ) (s : S) → Fits w → Good s → Holds (waved h w s).1 →
      Means Holds v c (Wave w) slots ins s (waved h w s)
  waved_means w slots ins s fits k g =
      let n = length w in
      let many = h.leaf (leaf.Number (pos n)) [] s in
      let index = h.counted n many.1 in
      let good = orderly.stays_good s many.1 (orderly.leaf_on (leaf.Number (pos n)) [] s) k in
      let mt = laws.tables false w slots (index.0 ∷ []) index.1 fits refl g in
      let mi = laws.counts w many.1 fits good mt.holds in
      let mn = laws.numbers (pos n) slots [] s mi.0 in
      let first : (t : ℕ) → v many.0 t ≡ pos n = λ t. ap (λ x. get_or x 0 (pos 0)) (mn.wired t) in
      let second : (t : ℕ) → v (h.tabled false w (index.0 ∷ []) index.1).0 t ≡ argument w (t % n) = λ t.
      ap (λ x. get_or x 0 (pos 0)) (mt.wired (suc t) t (omega arith))
      ∙ ap (read_at w) (column_carries v (index.0 ∷ []) (suc t) 0 t (omega arith) ∙ mi.1 t)
      ∙ ap (argument w) (let below : t % n < n = mod-lt t mi.2 in place_inside n (t % n) below) in
      record { holds = mn.holds; wired = λ t. ap₂ (λ x y. x ∷ y ∷ []) (first t) (second t) }

  pub walk_means : (d : Diagram) (slots : ℕ → ℕ) (ins : List ℕ) (s : S) → IsWellFormed d → AllLists Fits d → length ins ≡ inputs d → Good s →
      Holds (walked h 0 d slots ins s).1 → Means Holds v c d slots ins s (walked h 0 d slots ins s)
  walk_means (Primitive p) slots ins s wf q n k g = laws.primitives p slots ins s k wf n g
  walk_means (Constant i) slots ins s wf q n k g = laws.numbers i slots ins s g
  walk_means (Control i) slots ins s wf q n k g = laws.controls i slots ins s g
  walk_means (Slot i) slots ins s wf q n k g = record { holds = g; wired = λ t. refl }
  walk_means (Wave w) slots ins s wf q n k g = waved_means w slots ins s q k g
  walk_means (Table T writes) slots ins s wf q n k g = laws.tables writes T slots ins s q n g
  walk_means (Bind i a) slots [] s wf q n k g = absurd (omega (arith, n))
  walk_means (Bind i a) slots (w ∷ rest) s wf q n k g =
      let m = walk_means a _ rest s wf q (omega (arith, n)) k g in record { holds = m.holds; wired = (w, rest, refl, m.wired) }
  walk_means (Par a b) slots ins s wf q n k g =
      let l = walked h 0 a slots (take (inputs a) ins) s in
      let r = walked h 0 b slots (drop (inputs a) ins) l.1 in
      let na = length-take-le (inputs a) ins (omega (arith, n)) in
      let mb = walk_means b slots (drop (inputs a) ins) l.1 wf.1 q.1 (length-drop (inputs a) ins ∙ omega (arith, n))
      (orderly.stays_good _ _ (goes a slots (take (inputs a) ins) s wf.0 na k).1 k) g in
      let ma = walk_means a slots (take (inputs a) ins) s wf.0 q.0 na k mb.holds in
      record { holds = ma.holds; wired = (l.0, r.0, ma.wired, mb.wired, λ t. map-append (λ w. v w t) l.0 r.0) }
  walk_means (Seq a b) slots ins s wf q n k g =
      let l = walked h 0 a slots ins s in
      let ga = goes a slots ins s wf.0 n k in
      let mb = walk_means b slots l.0 l.1 wf.1 q.1 (ga.0 ∙ wf.2) (orderly.stays_good _ _ ga.1 k) g in
      let ma = walk_means a slots ins s wf.0 q.0 n k mb.holds in record { holds = ma.holds; wired = (l.0, ma.wired, mb.wired) }
  walk_means (Split a b) slots ins s wf q n k g =
      let l = walked h 0 a slots ins s in
      let some : 1 ≤ outputs a = wf.2 in
      let ga = goes a slots ins s wf.0 n k in
      let mb = walk_means b slots (dealt 0 (inputs b) l.0) l.1 wf.1 q.1 (length_table (inputs b) (λ i. get_or l.0 (i % length l.0) 0))
      (orderly.stays_good _ _ ga.1 k) g in
      let ma = walk_means a slots ins s wf.0 q.0 n k mb.holds in record { holds = ma.holds; wired = (l.0, ma.wired, omega (arith, ga.0, some), mb.wired) }
  walk_means (Merge a b) slots ins s wf q n k g =
      let l = walked h 0 a slots ins s in
      let m = summed h 0 (inputs b) l.0 l.1 in
      let ga = goes a slots ins s wf.0 n k in
      let enough : inputs b ≤ length l.0 = omega (arith, ga.0, not_below (outputs a) (inputs b) wf.2 wf.4) in
      let gs = summed_goes h Good Onward orderly (inputs b) l.0 l.1 enough in
      let mb = walk_means b slots m.0 m.1 wf.1 q.1 gs.0 (orderly.stays_good _ _ gs.1 (orderly.stays_good _ _ ga.1 k)) g in
      let sums = sums_mean (inputs b) l.0 l.1 wf.3 enough (orderly.stays_good _ _ ga.1 k) mb.holds in
      let ma = walk_means a slots ins s wf.0 q.0 n k sums.0 in record { holds = ma.holds; wired = (l.0, m.0, ma.wired, sums.1, mb.wired) }
  walk_means (Rec a b) slots ins s wf q n k g =
      let o = h.opened (inputs b) s in
      let r = walked h 0 b slots o.0 o.1 in
      let l = walked h 0 a slots (r.0 ++ ins) r.1 in
      let taken : outputs b ≤ inputs a = wf.3 in
      let fed : inputs b ≤ outputs a = wf.2 in
      let ko = orderly.open_good (inputs b) s k in
      let nb = orderly.open_wide (inputs b) s in
      let gb = goes b slots o.0 o.1 wf.1 nb ko in
      let na : length (r.0 ++ ins) ≡ inputs a = length-append r.0 ins ∙ omega (arith, gb.0, n, taken) in
      let kr = orderly.stays_good _ _ gb.1 ko in
      let ga = goes a slots (r.0 ++ ins) r.1 wf.0 na kr in
      let ma = walk_means a slots (r.0 ++ ins) r.1 wf.0 q.0 na kr (laws.shuts l.0 l.1 g) in
      let mb = walk_means b slots o.0 o.1 wf.1 q.1 nb ko ma.holds in
      let cl = laws.closes (inputs b) l.0 s l.1 k (omega (arith, ga.0, fed)) (orderly.on_both _ _ _ gb.1 ga.1) mb.holds g in record {
        holds = laws.opens (inputs b) s mb.holds;
        wired = (
          o.0,
          r.0,
          cl.1,
          (λ t. cl.2 t ∙ ap (take (inputs b)) (sym (cl.0 t))),
          mb.wired,
          wired_same v c a slots (r.0 ++ ins) l.0
              (h.closed l.0 l.1).0 cl.0 ma.wired,
        );
      }
