-- A walk beside another one, whose wires and signals stay related, where something holds of the signals at its end.
use Rattle.std.proofs.Common.{◌≡◌, ℕ, zero, suc, ◌%◌, ◌<◌, ◌≤◌, List, [], ◌∷◌, ◌++◌, length, take, drop, get_or, refl, ap, ◌∙◌, subst, arith, nat_eq, true}
use Rattle.std.proofs.Common.{false, if◌then◌else◌, ℤ, length-append}
use Rattle.std.specs.Prelude.{slice_set}
use Rattle.std.proofs.lemmas.List.{length-take-le, length-drop, length-set}
use Rattle.fv_base.specs.headline.Lists.{table}
use Rattle.fv_base.proofs.lemmas.Lists.{length_table}
use Rattle.fv_num.specs.declared.op.Op.TheVariants.{Add}
use Rattle.fv_diagram.specs.Primitive.{Primitive as Prim}
use Rattle.fv_diagram.specs.Primitive.TheVariants as prim
use Rattle.fv_diagram.specs.declared.signals.Leaf.{Leaf}
use Rattle.fv_diagram.specs.declared.signals.Leaf.TheVariants as leaf
use Rattle.fv_diagram.specs.headline.Diagram.{Diagram, Primitive, Constant, Control, Slot, Wave, Table, Bind, Par, Seq, Split, Merge, Rec, inputs, outputs}
use Rattle.fv_diagram.specs.headline.Diagram.{primitive_inputs, table_inputs, is_table_primitive}
use Rattle.std.proofs.Common.{Bool, true, false, ℤ, pos}
use Rattle.std.proofs.lemmas.Bool.{true≢false}
use Rattle.fv_diagram.specs.Diagram.{IsWellFormed}
use Rattle.fv_diagram.specs.headline.Streams.{dealt}
use Rattle.fv_diagram.specs.Wires.{plugged}
use Rattle.fv_diagram.specs.Hooks.{Hooks, takes}
use Rattle.fv_diagram.specs.Walked.{walked, primitive, added, summed}
use Rattle.fv_diagram.proofs.lemmas.Meaning.{AreOrderly, walk_goes}
use Rattle.fv_diagram.proofs.lemmas.Related.{AreRelated, Gives}
use Rattle.fv_diagram.proofs.lemmas.Turns.{not_below}

-- ---- lists of related wires

module _ {W V : Type 0} (Q : W → V → Type 0) where
  pub related_length : (ws : List W) (vs : List V) → AreRelated Q ws vs → length ws ≡ length vs
  related_length [] [] h = refl
  related_length [] (v ∷ vs) h = absurd h
  related_length (w ∷ ws) [] h = absurd h
  related_length (w ∷ ws) (v ∷ vs) h = ap suc (related_length ws vs h.1)

  related_take : (n : ℕ) (ws : List W) (vs : List V) → AreRelated Q ws vs → AreRelated Q (take n ws) (take n vs)
  related_take zero ws vs h = tt
  related_take (suc n) [] [] h = tt
  related_take (suc n) [] (v ∷ vs) h = absurd h
  related_take (suc n) (w ∷ ws) [] h = absurd h
  related_take (suc n) (w ∷ ws) (v ∷ vs) h = (h.0, related_take n ws vs h.1)

  related_drop : (n : ℕ) (ws : List W) (vs : List V) → AreRelated Q ws vs → AreRelated Q (drop n ws) (drop n vs)
  related_drop zero ws vs h = h
  related_drop (suc n) [] [] h = tt
  related_drop (suc n) [] (v ∷ vs) h = absurd h
  related_drop (suc n) (w ∷ ws) [] h = absurd h
  related_drop (suc n) (w ∷ ws) (v ∷ vs) h = related_drop n ws vs h.1

  pub related_append : (ws us : List W) (vs xs : List V) → AreRelated Q ws vs → AreRelated Q us xs → AreRelated Q (ws ++ us) (vs ++ xs)
  related_append [] us [] xs h g = g
  related_append [] us (v ∷ vs) xs h g = absurd h
  related_append (w ∷ ws) us [] xs h g = absurd h
  related_append (w ∷ ws) us (v ∷ vs) xs h g = (h.0, related_append ws us vs xs h.1 g)

  related_get : (ws : List W) (vs : List V) (i : ℕ) (w : W) (v : V) → Q w v → AreRelated Q ws vs → Q (get_or ws i w) (get_or vs i v)
  related_get [] [] i w v q h = q
  related_get [] (y ∷ vs) i w v q h = absurd h
  related_get (x ∷ ws) [] i w v q h = absurd h
  related_get (x ∷ ws) (y ∷ vs) zero w v q h = h.0
  related_get (x ∷ ws) (y ∷ vs) (suc i) w v q h = related_get ws vs i w v q h.1

  -- at a place that is there
  pub related_at : (ws : List W) (vs : List V) (i : ℕ) (w : W) (v : V) → i < length ws → AreRelated Q ws vs → Q (get_or ws i w) (get_or vs i v)
  related_at [] vs i w v l h = absurd (omega arith)
  related_at (x ∷ ws) [] i w v l h = absurd h
  related_at (x ∷ ws) (y ∷ vs) zero w v l h = h.0
  related_at (x ∷ ws) (y ∷ vs) (suc i) w v l h = related_at ws vs i w v (omega arith) h.1

  -- lists that are related at each place
  pub related_places : (ws : List W) (vs : List V) (w : W) (v : V) → length ws ≡ length vs → ((i : ℕ) → i < length ws → Q (get_or ws i w) (get_or vs i v)) →
      AreRelated Q ws vs
  related_places [] [] w v e h = tt
  related_places [] (y ∷ vs) w v e h = absurd (omega (arith, e))
  related_places (x ∷ ws) [] w v e h = absurd (omega (arith, e))
  related_places (x ∷ ws) (y ∷ vs) w v e h = (h 0 (omega arith), related_places ws vs w v (omega (arith, e)) (λ i l. h (suc i) (omega arith)))

  related_set : (ws : List W) (vs : List V) (i : ℕ) (w : W) (v : V) → Q w v → AreRelated Q ws vs → AreRelated Q (slice_set ws i w) (slice_set vs i v)
  related_set [] [] i w v q h = tt
  related_set [] (y ∷ vs) i w v q h = absurd h
  related_set (x ∷ ws) [] i w v q h = absurd h
  related_set (x ∷ ws) (y ∷ vs) zero w v q h = (q, h.1)
  related_set (x ∷ ws) (y ∷ vs) (suc i) w v q h = (h.0, related_set ws vs i w v q h.1)

  related_table : (n : ℕ) (f : ℕ → W) (g : ℕ → V) → ((i : ℕ) → Q (f i) (g i)) → AreRelated Q (table n f) (table n g)
  related_table zero f g h = tt
  related_table (suc n) f g h = related_append (table n f) (f n ∷ []) (table n g) (g n ∷ []) (related_table n f g h) (h n, tt)

  related_dealt : (n : ℕ) (ws : List W) (vs : List V) (w : W) (v : V) → Q w v → AreRelated Q ws vs → AreRelated Q (dealt w n ws) (dealt v n vs)
  related_dealt n ws vs w v q h =
      related_table n _ _ (λ i. subst (λ m. Q (get_or ws (i % length ws) w) (get_or vs (i % m) v)) (related_length ws vs h)
      (related_get ws vs (i % length ws) w v q h))

  related_plugged : (slots : ℕ → W) (places : ℕ → V) (k : ℕ) (w : W) (v : V) → Q w v → ((i : ℕ) → Q (slots i) (places i)) → (i : ℕ) →
      Q (plugged slots k w i) (plugged places k v i)
  related_plugged slots places k w v q h i =
      elim (nat_eq i k) as (λ b. Q (if b then w else slots i) (if b then v else places i)) [ true ↦ q | false ↦ h i ]

-- ---- what holds at the end holds before

-- no call makes hold what did not hold before it
pub record HoldBack {S : Type 0} (h : Hooks ℕ S) (Holds : S → Type 0) : Type 0 where
  pub leaf : (l : Leaf) (ws : List ℕ) (s : S) → Holds (h.leaf l ws s).1 → Holds s
  pub opened : (n : ℕ) (s : S) → Holds (h.opened n s).1 → Holds s
  pub closed : (ws : List ℕ) (s : S) → Holds (h.closed ws s).1 → Holds s
  pub counted : (n : ℕ) (s : S) → Holds (h.counted n s).1 → Holds s
  pub tabled : (writes : Bool) (T : List ℤ) (ws : List ℕ) (s : S) → Holds (h.tabled writes T ws s).1 → Holds s

module _ {S : Type 0} (h : Hooks ℕ S) (Holds : S → Type 0) (backs : HoldBack h Holds) where
  primitive_back : (p : Prim) (ws : List ℕ) (s : S) → Holds (primitive h p ws s).1 → Holds s
  primitive_back prim.Wire ws s g = g
  primitive_back prim.Int ws s g = g
  primitive_back prim.Attach ws s g = g
  primitive_back prim.Cut ws s g = g
  primitive_back prim.Mem ws s g = backs.leaf leaf.Mem ws s g
  primitive_back prim.Prefix ws s g = backs.leaf leaf.Prefix ws s g
  primitive_back prim.Delay ws s g = backs.leaf leaf.Delay ws s g
  primitive_back (prim.Point op) ws s g = backs.leaf (leaf.Point op) ws s g
  primitive_back prim.ReadTable ws s g = g
  primitive_back prim.WriteTable ws s g = g

  added_back : (n i : ℕ) (ws us : List ℕ) (s : S) → Holds (added h 0 n i ws us s).1 → Holds s
  added_back n i [] us s g = g
  added_back n i (x ∷ ws) us s g =
      let a = h.leaf (leaf.Point Add) (get_or us (i % n) 0 ∷ x ∷ []) s in
      backs.leaf (leaf.Point Add) (get_or us (i % n) 0 ∷ x ∷ []) s (added_back n (suc i) ws (slice_set us (i % n) a.0) a.1 g)

  summed_back : (n : ℕ) (ws : List ℕ) (s : S) → Holds (summed h 0 n ws s).1 → Holds s
  summed_back n ws s g = added_back n n (drop n ws) (take n ws) s g

  pub walk_back : (d : Diagram) (slots : ℕ → ℕ) (ws : List ℕ) (s : S) → Holds (walked h 0 d slots ws s).1 → Holds s
  walk_back (Primitive p) slots ws s g = primitive_back p ws s g
  walk_back (Constant n) slots ws s g = backs.leaf (leaf.Number n) [] s g
  walk_back (Control k) slots ws s g = backs.leaf (leaf.Control k) [] s g
  walk_back (Slot k) slots ws s g = g
  walk_back (Wave w) slots ws s g =
      let many = h.leaf (leaf.Number (pos (length w))) [] s in
      let index = h.counted (length w) many.1 in
      backs.leaf (leaf.Number (pos (length w))) [] s (backs.counted (length w) many.1 (backs.tabled false w (index.0 ∷ []) index.1 g))
  walk_back (Table T writes) slots ws s g = backs.tabled writes T ws s g
  walk_back (Bind k a) slots ws s g = walk_back a (plugged slots k (get_or ws 0 0)) (drop 1 ws) s g
  walk_back (Par a b) slots ws s g =
      let x = walked h 0 a slots (take (inputs a) ws) s in
      walk_back a slots (take (inputs a) ws) s (walk_back b slots (drop (inputs a) ws) x.1 g)
  walk_back (Seq a b) slots ws s g = let x = walked h 0 a slots ws s in walk_back a slots ws s (walk_back b slots x.0 x.1 g)
  walk_back (Split a b) slots ws s g =
      let x = walked h 0 a slots ws s in walk_back a slots ws s (walk_back b slots (dealt 0 (inputs b) x.0) x.1 g)
  walk_back (Merge a b) slots ws s g =
      let x = walked h 0 a slots ws s in
      let m = summed h 0 (inputs b) x.0 x.1 in
      walk_back a slots ws s (summed_back (inputs b) x.0 x.1 (walk_back b slots m.0 m.1 g))
  walk_back (Rec a b) slots ws s g =
      let o = h.opened (inputs b) s in
      let x = walked h 0 b slots o.0 o.1 in
      let y = walked h 0 a slots (x.0 ++ ws) x.1 in
      backs.opened (inputs b) s (walk_back b slots o.0 o.1 (walk_back a slots (x.0 ++ ws) x.1 (backs.closed y.0 y.1 g)))

-- ---- related walks

-- the numbers and the controls of a leaf are of these
abbrev pub IsOfLeaf : (ℤ → Type 0) → (ℕ → Type 0) → Leaf → Type 0
IsOfLeaf N C (leaf.Number n) = N n
IsOfLeaf N C (leaf.Control k) = C k
IsOfLeaf N C leaf.Mem = Unit {0}
IsOfLeaf N C leaf.Prefix = Unit {0}
IsOfLeaf N C leaf.Delay = Unit {0}
IsOfLeaf N C (leaf.Point op) = Unit {0}

-- those of a diagram are, and its lists are of these
abbrev pub AreOfLeaves : (ℤ → Type 0) → (ℕ → Type 0) → (List ℤ → Type 0) → Diagram → Type 0
AreOfLeaves N C L (Primitive p) = Unit {0}
AreOfLeaves N C L (Constant n) = N n
AreOfLeaves N C L (Control k) = C k
AreOfLeaves N C L (Slot s) = Unit {0}
AreOfLeaves N C L (Wave w) = N (pos (length w)) × L w
AreOfLeaves N C L (Table T writes) = L T
AreOfLeaves N C L (Bind s a) = AreOfLeaves N C L a
AreOfLeaves N C L (Par a b) = AreOfLeaves N C L a × AreOfLeaves N C L b
AreOfLeaves N C L (Seq a b) = AreOfLeaves N C L a × AreOfLeaves N C L b
AreOfLeaves N C L (Split a b) = AreOfLeaves N C L a × AreOfLeaves N C L b
AreOfLeaves N C L (Merge a b) = AreOfLeaves N C L a × AreOfLeaves N C L b
AreOfLeaves N C L (Rec a b) = AreOfLeaves N C L a × AreOfLeaves N C L b

-- The calls of both keep the relation, where Holds s holds of the signals of the first after the call.
pub record KeepAlong {V S T : Type 0} (h : Hooks ℕ S) (g : Hooks V T) (N : ℤ → Type 0) (C : ℕ → Type 0) (L : List ℤ → Type 0)
    (Good Holds : S → Type 0) (Q : ℕ → V → Type 0)
    (R : S → T → Type 0) : Type 0 where
  pub leaf : (l : Leaf) (ws : List ℕ) (vs : List V) (s : S) (t : T) → IsOfLeaf N C l → length ws ≡ takes l → Good s → Holds (h.leaf l ws s).1 → R s t →
      AreRelated Q ws vs → Q (h.leaf l ws s).0 (g.leaf l vs t).0 × R (h.leaf l ws s).1 (g.leaf l vs t).1
  pub counted : (l : List ℤ) (s : S) (t : T) → L l → Good s → Holds (h.counted (length l) s).1 → R s t →
      Q (h.counted (length l) s).0 (g.counted (length l) t).0 × R (h.counted (length l) s).1 (g.counted (length l) t).1
  pub tabled : (writes : Bool) (l : List ℤ) (ws : List ℕ) (vs : List V) (s : S) (t : T) → L l → length ws ≡ table_inputs writes → Good s
      → Holds (h.tabled writes l ws s).1 → R s t → AreRelated Q ws vs
      → Q (h.tabled writes l ws s).0 (g.tabled writes l vs t).0 × R (h.tabled writes l ws s).1 (g.tabled writes l vs t).1
  pub opened : (n : ℕ) (s : S) (t : T) → Good s → Holds (h.opened n s).1 → R s t → Gives Q R (h.opened n s) (g.opened n t)
  pub closed : (ws : List ℕ) (vs : List V) (s : S) (t : T) → Good s → Holds (h.closed ws s).1 → R s t → AreRelated Q ws vs
      → Gives Q R (h.closed ws s) (g.closed vs t)

module _ {V S T : Type 0} (h : Hooks ℕ S) (g : Hooks V T) (N : ℤ → Type 0) (C : ℕ → Type 0) (L : List ℤ → Type 0) (Good : S → Type 0)
    (Onward : S → S → Type 0) (Holds : S → Type 0)
    (Q : ℕ → V → Type 0) (R : S → T → Type 0) (orderly : AreOrderly h Good Onward) (backs : HoldBack h Holds) (keeps : KeepAlong h g N C L Good Holds Q R)
    (v : V) (free : Q 0 v) where
  goes : (d : Diagram) (slots : ℕ → ℕ) (ws : List ℕ) (s : S) → IsWellFormed d → length ws ≡ inputs d → Good s →
      (length (walked h 0 d slots ws s).0 ≡ outputs d) × Onward s (walked h 0 d slots ws s).1
  goes d slots ws s = walk_goes h Good Onward orderly d slots ws s

  primitive_along : (p : Prim) (ws : List ℕ) (vs : List V) (s : S) (t : T) → is_table_primitive p ≡ false → length ws ≡ primitive_inputs p → Good s →
      Holds (primitive h p ws s).1 → R s t → AreRelated Q ws vs → Gives Q R (primitive h p ws s) (primitive g p vs t)
  primitive_along prim.Wire ws vs s t f w k o r q = (related_take Q 1 ws vs q, r)
  primitive_along prim.Int ws vs s t f w k o r q = (related_take Q 1 ws vs q, r)
  primitive_along prim.Attach ws vs s t f w k o r q = (related_take Q 1 ws vs q, r)
  primitive_along prim.Cut ws vs s t f w k o r q = (tt, r)
  primitive_along prim.Mem ws vs s t f w k o r q = let m = keeps.leaf leaf.Mem ws vs s t tt w k o r q in ((m.0, tt), m.1)
  primitive_along prim.Prefix ws vs s t f w k o r q = let m = keeps.leaf leaf.Prefix ws vs s t tt w k o r q in ((m.0, tt), m.1)
  primitive_along prim.Delay ws vs s t f w k o r q = let m = keeps.leaf leaf.Delay ws vs s t tt w k o r q in ((m.0, tt), m.1)
  primitive_along (prim.Point op) ws vs s t f w k o r q = let m = keeps.leaf (leaf.Point op) ws vs s t tt w k o r q in ((m.0, tt), m.1)
  primitive_along prim.ReadTable ws vs s t f w k o r q = absurd (true≢false f)
  primitive_along prim.WriteTable ws vs s t f w k o r q = absurd (true≢false f)

  added_along : (n i : ℕ) (ws us : List ℕ) (vs xs : List V) (s : S) (t : T) → Good s → Holds (added h 0 n i ws us s).1 → R s t → AreRelated Q ws vs →
      AreRelated Q us xs → Gives Q R (added h 0 n i ws us s) (added g v n i vs xs t)
  added_along n i [] us [] xs s t k o r q u = (u, r)
  added_along n i [] us (y ∷ vs) xs s t k o r q u = absurd q
  added_along n i (x ∷ ws) us [] xs s t k o r q u = absurd q
  added_along n i (x ∷ ws) us (y ∷ vs) xs s t k o r q u =
      let both = get_or us (i % n) 0 ∷ x ∷ [] in
      let a = h.leaf (leaf.Point Add) both s in
      let b = g.leaf (leaf.Point Add) (get_or xs (i % n) v ∷ y ∷ []) t in
      let m = keeps.leaf (leaf.Point Add) both (get_or xs (i % n) v ∷ y ∷ []) s t tt refl k
      (added_back h Holds backs n (suc i) ws (slice_set us (i % n) a.0) a.1 o) r
      (related_get Q us xs (i % n) 0 v free u, (q.0, tt)) in
      added_along n (suc i) ws (slice_set us (i % n) a.0) vs (slice_set xs (i % n) b.0) a.1 b.1
      (orderly.stays_good _ _ (orderly.leaf_on (leaf.Point Add) both s) k)
      o m.1 q.1 (related_set Q us xs (i % n) a.0 b.0 m.0 u)

  summed_along : (n : ℕ) (ws : List ℕ) (vs : List V) (s : S) (t : T) → Good s → Holds (summed h 0 n ws s).1 → R s t → AreRelated Q ws vs →
      Gives Q R (summed h 0 n ws s) (summed g v n vs t)
  summed_along n ws vs s t k o r q =
      added_along n n (drop n ws) (take n ws) (drop n vs) (take n vs) s t k o r (related_drop Q n ws vs q) (related_take Q n ws vs q)

  -- the widths and the order of sums
  added_goes : (n i : ℕ) (ws us : List ℕ) (s : S) → (length (added h 0 n i ws us s).0 ≡ length us) × Onward s (added h 0 n i ws us s).1
  added_goes n i [] us s = (refl, orderly.on_same s)
  added_goes n i (x ∷ ws) us s =
      let both = get_or us (i % n) 0 ∷ x ∷ [] in
      let a = h.leaf (leaf.Point Add) both s in
      let m = added_goes n (suc i) ws (slice_set us (i % n) a.0) a.1 in
      (m.0 ∙ length-set us (i % n) a.0, orderly.on_both _ _ _ (orderly.leaf_on (leaf.Point Add) both s) m.1)

  -- what the walk makes of a diagram for the one is related with what it makes for the other
  pub walked_along : (d : Diagram) (slots : ℕ → ℕ) (places : ℕ → V) (ws : List ℕ) (vs : List V) (s : S) (t : T) → IsWellFormed d → length ws ≡ inputs d →
      AreOfLeaves N C L d → Good s → Holds (walked h 0 d slots ws s).1 → ((i : ℕ) → Q (slots i) (places i)) → R s t → AreRelated Q ws vs →
      Gives Q R (walked h 0 d slots ws s) (walked g v d places vs t)
  walked_along (Primitive p) slots places ws vs s t wf w a k o e r q = primitive_along p ws vs s t wf w k o r q
  walked_along (Constant n) slots places ws vs s t wf w a k o e r q = let m = keeps.leaf (leaf.Number n) [] [] s t a refl k o r tt in ((m.0, tt), m.1)
  walked_along (Control n) slots places ws vs s t wf w a k o e r q = let m = keeps.leaf (leaf.Control n) [] [] s t a refl k o r tt in ((m.0, tt), m.1)
  walked_along (Slot i) slots places ws vs s t wf w a k o e r q = ((e i, tt), r)
  walked_along (Wave z) slots places ws vs s t wf w a k o e r q =
      let n = length z in
      let many = h.leaf (leaf.Number (pos n)) [] s in
      let more = g.leaf (leaf.Number (pos n)) [] t in
      let index = h.counted n many.1 in
      let at = g.counted n more.1 in
      let oi = backs.tabled false z (index.0 ∷ []) index.1 o in
      let om = backs.counted n many.1 oi in
      let km = orderly.stays_good s many.1 (orderly.leaf_on (leaf.Number (pos n)) [] s) k in
      let ki = orderly.stays_good many.1 index.1 (orderly.count_on n many.1) km in
      let x = keeps.leaf (leaf.Number (pos n)) [] [] s t a.0 refl k om r tt in
      let y = keeps.counted z many.1 more.1 a.1 km oi x.1 in
      let m = keeps.tabled false z (index.0 ∷ []) (at.0 ∷ []) index.1 at.1 a.1 refl ki o y.1 (y.0, tt) in
      ((x.0, (m.0, tt)), m.1)
  walked_along (Table z writes) slots places ws vs s t wf w a k o e r q =
      let m = keeps.tabled writes z ws vs s t a w k o r q in ((m.0, tt), m.1)
  walked_along (Bind i b) slots places ws vs s t wf w a k o e r q =
      walked_along b (plugged slots i (get_or ws 0 0)) (plugged places i (get_or vs 0 v)) (drop 1 ws) (drop 1 vs) s t wf (length-drop 1 ws ∙ omega (arith, w))
      a k o
      (related_plugged Q slots places i (get_or ws 0 0) (get_or vs 0 v) (related_get Q ws vs 0 0 v free q) e) r (related_drop Q 1 ws vs q)
  walked_along (Par b c) slots places ws vs s t wf w a k o e r q =
      let n = inputs b in
      let x = walked h 0 b slots (take n ws) s in
      let y = walked g v b places (take n vs) t in
      let nb = length-take-le n ws (omega (arith, w)) in
      let kb = orderly.stays_good _ _ (goes b slots (take n ws) s wf.0 nb k).1 k in
      let l = walked_along b slots places (take n ws) (take n vs) s t wf.0 nb a.0 k (walk_back h Holds backs c slots (drop n ws) x.1 o) e r
      (related_take Q n ws vs q) in
      let m = walked_along c slots places (drop n ws) (drop n vs) x.1 y.1 wf.1 (length-drop n ws ∙ omega (arith, w)) a.1 kb o e l.1 (related_drop Q n ws vs q)
      in
      (related_append Q x.0 (walked h 0 c slots (drop n ws) x.1).0 y.0 (walked g v c places (drop n vs) y.1).0 l.0 m.0, m.1)
  walked_along (Seq b c) slots places ws vs s t wf w a k o e r q =
      let x = walked h 0 b slots ws s in
      let y = walked g v b places vs t in
      let gb = goes b slots ws s wf.0 w k in
      let l = walked_along b slots places ws vs s t wf.0 w a.0 k (walk_back h Holds backs c slots x.0 x.1 o) e r q in
      walked_along c slots places x.0 y.0 x.1 y.1 wf.1 (gb.0 ∙ wf.2) a.1 (orderly.stays_good _ _ gb.1 k) o e l.1 l.0
  walked_along (Split b c) slots places ws vs s t wf w a k o e r q =
      let x = walked h 0 b slots ws s in
      let y = walked g v b places vs t in
      let n = inputs c in
      let gb = goes b slots ws s wf.0 w k in
      let l = walked_along b slots places ws vs s t wf.0 w a.0 k (walk_back h Holds backs c slots (dealt 0 n x.0) x.1 o) e r q in
      walked_along c slots places (dealt 0 n x.0) (dealt v n y.0) x.1 y.1 wf.1 (length_table n (λ i. get_or x.0 (i % length x.0) 0)) a.1
      (orderly.stays_good _ _ gb.1 k) o e l.1 (related_dealt Q n x.0 y.0 0 v free l.0)
  walked_along (Merge b c) slots places ws vs s t wf w a k o e r q =
      let x = walked h 0 b slots ws s in
      let y = walked g v b places vs t in
      let n = inputs c in
      let m = summed h 0 n x.0 x.1 in
      let u = summed g v n y.0 y.1 in
      let gb = goes b slots ws s wf.0 w k in
      let kb = orderly.stays_good _ _ gb.1 k in
      let gs = added_goes n n (drop n x.0) (take n x.0) x.1 in
      let os = walk_back h Holds backs c slots m.0 m.1 o in
      let wide = gs.0 ∙ length-take-le n x.0 (omega (arith, gb.0, not_below (outputs b) n wf.2 wf.4)) in
      let l = walked_along b slots places ws vs s t wf.0 w a.0 k (summed_back h Holds backs n x.0 x.1 os) e r q in
      let z = summed_along n x.0 y.0 x.1 y.1 kb os l.1 l.0 in
      walked_along c slots places m.0 u.0 m.1 u.1 wf.1 wide a.1 (orderly.stays_good _ _ gs.1 kb) o e z.1 z.0
  walked_along (Rec b c) slots places ws vs s t wf w a k o e r q =
      let n = inputs c in
      let p = h.opened n s in
      let u = g.opened n t in
      let x = walked h 0 c slots p.0 p.1 in
      let y = walked g v c places u.0 u.1 in
      let xs = walked h 0 b slots (x.0 ++ ws) x.1 in
      let ys = walked g v b places (y.0 ++ vs) y.1 in
      let taken : outputs c ≤ inputs b = wf.3 in
      let ob = backs.closed xs.0 xs.1 o in
      let oc = walk_back h Holds backs b slots (x.0 ++ ws) x.1 ob in
      let kp = orderly.open_good n s k in
      let gc = goes c slots p.0 p.1 wf.1 (orderly.open_wide n s) kp in
      let kx = orderly.stays_good _ _ gc.1 kp in
      let wb = length-append x.0 ws ∙ omega (arith, gc.0, w, taken) in
      let gx = goes b slots (x.0 ++ ws) x.1 wf.0 wb kx in
      let i = keeps.opened n s t k (walk_back h Holds backs c slots p.0 p.1 oc) r in
      let l = walked_along c slots places p.0 u.0 p.1 u.1 wf.1 (orderly.open_wide n s) a.1 kp oc e i.1 i.0 in
      let m = walked_along b slots places (x.0 ++ ws) (y.0 ++ vs) x.1 y.1 wf.0 wb a.0 kx ob e l.1 (related_append Q x.0 ws y.0 vs l.0 q) in
      keeps.closed xs.0 ys.0 xs.1 ys.1 (orderly.stays_good _ _ gx.1 kx) o m.1 m.0
