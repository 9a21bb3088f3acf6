-- Two users of the walk, whose wires and signals stay related.
use Rattle.std.proofs.Common.{◌≡◌, ℕ, zero, suc, ◌%◌, List, [], ◌∷◌, ◌++◌, length, take, drop, get_or}
use Rattle.std.proofs.Common.{refl, ap, subst, nat_eq, true, false, if◌then◌else◌, Bool, ℤ, pos}
use Rattle.std.specs.Prelude.{slice_set}
use Rattle.fv_base.specs.headline.Lists.{table}
use Rattle.fv_num.specs.declared.op.Op.TheVariants.{Add}
use Rattle.fv_num.specs.declared.primitive.Primitive.{Primitive as Prim}
use Rattle.fv_num.specs.declared.primitive.Primitive.TheVariants as prim
use Rattle.fv_diagram.specs.declared.signals.Leaf.{Leaf}
use Rattle.fv_diagram.specs.declared.signals.Leaf.TheVariants as leaf
use Rattle.fv_diagram.specs.headline.Diagram.{Diagram, Primitive, Constant, Control, Slot, Wave, Table, Bind, Par, Seq, Split, Merge, Rec, inputs}
use Rattle.fv_diagram.specs.headline.Streams.{dealt}
use Rattle.fv_diagram.specs.Wires.{plugged}
use Rattle.fv_diagram.specs.Hooks.{Hooks}
use Rattle.fv_diagram.specs.Walked.{walked, primitive, waved, added, summed}

-- the wires of two lists, one by one
abbrev pub AreRelated : {W V : Type 0} → (W → V → Type 0) → List W → List V → Type 0
AreRelated Q [] [] = Unit {0}
AreRelated Q [] (v ∷ vs) = ⊥
AreRelated Q (w ∷ ws) [] = ⊥
AreRelated Q (w ∷ ws) (v ∷ vs) = Q w v × AreRelated Q ws vs

-- what a call gives, and what it leaves
abbrev pub Gives : {W V S T : Type 0} → (W → V → Type 0) → (S → T → Type 0) → List W × S → List V × T → Type 0
Gives Q R x y = AreRelated Q x.0 y.0 × R x.1 y.1

-- the calls of both keep the relation
pub record KeepRelated {W V S T : Type 0} (h : Hooks W S) (g : Hooks V T) (Q : W → V → Type 0) (R : S → T → Type 0) : Type 0 where
  pub leaf : (l : Leaf) (ws : List W) (vs : List V) (s : S) (t : T) → R s t → AreRelated Q ws vs →
      Q (h.leaf l ws s).0 (g.leaf l vs t).0 × R (h.leaf l ws s).1 (g.leaf l vs t).1
  pub counted : (n : ℕ) (s : S) (t : T) → R s t → Q (h.counted n s).0 (g.counted n t).0 × R (h.counted n s).1 (g.counted n t).1
  pub tabled : (writes : Bool) (values : List ℤ) (ws : List W) (vs : List V) (s : S) (t : T) → R s t → AreRelated Q ws vs →
      Q (h.tabled writes values ws s).0 (g.tabled writes values vs t).0 × R (h.tabled writes values ws s).1 (g.tabled writes values vs t).1
  pub opened : (n : ℕ) (s : S) (t : T) → R s t → Gives Q R (h.opened n s) (g.opened n t)
  pub closed : (ws : List W) (vs : List V) (s : S) (t : T) → R s t → AreRelated Q ws vs → Gives Q R (h.closed ws s) (g.closed vs t)

module _ {W V : Type 0} (Q : W → V → Type 0) where
  related_length : (ws : List W) (vs : List V) → AreRelated Q ws vs → length ws ≡ length vs
  related_length [] [] h = refl
  related_length [] (v ∷ vs) h = absurd h
  related_length (w ∷ ws) [] h = absurd h
  related_length (w ∷ ws) (v ∷ vs) h = ap suc (related_length ws vs h.1)

  related_take : (n : ℕ) (ws : List W) (vs : List V) → AreRelated Q ws vs → AreRelated Q (take n ws) (take n vs)
  related_take zero ws vs h = tt
  related_take (suc n) [] [] h = tt
  related_take (suc n) [] (v ∷ vs) h = absurd h
  related_take (suc n) (w ∷ ws) [] h = absurd h
  related_take (suc n) (w ∷ ws) (v ∷ vs) h = (h.0, related_take n ws vs h.1)

  related_drop : (n : ℕ) (ws : List W) (vs : List V) → AreRelated Q ws vs → AreRelated Q (drop n ws) (drop n vs)
  related_drop zero ws vs h = h
  related_drop (suc n) [] [] h = tt
  related_drop (suc n) [] (v ∷ vs) h = absurd h
  related_drop (suc n) (w ∷ ws) [] h = absurd h
  related_drop (suc n) (w ∷ ws) (v ∷ vs) h = related_drop n ws vs h.1

  related_append : (ws us : List W) (vs xs : List V) → AreRelated Q ws vs → AreRelated Q us xs → AreRelated Q (ws ++ us) (vs ++ xs)
  related_append [] us [] xs h g = g
  related_append [] us (v ∷ vs) xs h g = absurd h
  related_append (w ∷ ws) us [] xs h g = absurd h
  related_append (w ∷ ws) us (v ∷ vs) xs h g = (h.0, related_append ws us vs xs h.1 g)

  related_get : (ws : List W) (vs : List V) (i : ℕ) (w : W) (v : V) → Q w v → AreRelated Q ws vs → Q (get_or ws i w) (get_or vs i v)
  related_get [] [] i w v q h = q
  related_get [] (y ∷ vs) i w v q h = absurd h
  related_get (x ∷ ws) [] i w v q h = absurd h
  related_get (x ∷ ws) (y ∷ vs) zero w v q h = h.0
  related_get (x ∷ ws) (y ∷ vs) (suc i) w v q h = related_get ws vs i w v q h.1

  related_set : (ws : List W) (vs : List V) (i : ℕ) (w : W) (v : V) → Q w v → AreRelated Q ws vs → AreRelated Q (slice_set ws i w) (slice_set vs i v)
  related_set [] [] i w v q h = tt
  related_set [] (y ∷ vs) i w v q h = absurd h
  related_set (x ∷ ws) [] i w v q h = absurd h
  related_set (x ∷ ws) (y ∷ vs) zero w v q h = (q, h.1)
  related_set (x ∷ ws) (y ∷ vs) (suc i) w v q h = (h.0, related_set ws vs i w v q h.1)

  related_table : (n : ℕ) (f : ℕ → W) (g : ℕ → V) → ((i : ℕ) → Q (f i) (g i)) → AreRelated Q (table n f) (table n g)
  related_table zero f g h = tt
  related_table (suc n) f g h = related_append (table n f) (f n ∷ []) (table n g) (g n ∷ []) (related_table n f g h) (h n, tt)

  related_dealt : (n : ℕ) (ws : List W) (vs : List V) (w : W) (v : V) → Q w v → AreRelated Q ws vs → AreRelated Q (dealt w n ws) (dealt v n vs)
  related_dealt n ws vs w v q h =
      related_table n _ _ (λ i. subst (λ m. Q (get_or ws (i % length ws) w) (get_or vs (i % m) v)) (related_length ws vs h)
      (related_get ws vs (i % length ws) w v q h))

  related_plugged : (slots : ℕ → W) (places : ℕ → V) (k : ℕ) (w : W) (v : V) → Q w v → ((i : ℕ) → Q (slots i) (places i)) → (i : ℕ) →
      Q (plugged slots k w i) (plugged places k v i)
  related_plugged slots places k w v q h i =
      elim (nat_eq i k) as (λ b. Q (if b then w else slots i) (if b then v else places i)) [ true ↦ q | false ↦ h i ]

module _ {W V S T : Type 0} (h : Hooks W S) (g : Hooks V T) (Q : W → V → Type 0) (R : S → T → Type 0) (keeps : KeepRelated h g Q R) (w : W) (v : V)
    (free : Q w v) where
  primitive_related : (p : Prim) (ws : List W) (vs : List V) (s : S) (t : T) → R s t → AreRelated Q ws vs → Gives Q R (primitive h p ws s) (primitive g p vs t)
  primitive_related prim.Wire ws vs s t r q = (related_take Q 1 ws vs q, r)
  primitive_related prim.Int ws vs s t r q = (related_take Q 1 ws vs q, r)
  primitive_related prim.Attach ws vs s t r q = (related_take Q 1 ws vs q, r)
  primitive_related prim.Cut ws vs s t r q = (tt, r)
  primitive_related prim.Mem ws vs s t r q = let k = keeps.leaf leaf.Mem ws vs s t r q in ((k.0, tt), k.1)
  primitive_related prim.Prefix ws vs s t r q = let k = keeps.leaf leaf.Prefix ws vs s t r q in ((k.0, tt), k.1)
  primitive_related prim.Delay ws vs s t r q = let k = keeps.leaf leaf.Delay ws vs s t r q in ((k.0, tt), k.1)
  primitive_related (prim.Point op) ws vs s t r q = let k = keeps.leaf (leaf.Point op) ws vs s t r q in ((k.0, tt), k.1)
  primitive_related prim.ReadTable ws vs s t r q = (tt, r)
  primitive_related prim.WriteTable ws vs s t r q = (tt, r)

  waved_related : (values : List ℤ) (s : S) (t : T) → R s t → Gives Q R (waved h values s) (waved g values t)
  waved_related values s t r =
      let n = leaf.Number (pos (length values)) in
      let m = h.leaf n [] s in
      let m' = g.leaf n [] t in
      let km = keeps.leaf n [] [] s t r tt in
      let i = h.counted (length values) m.1 in
      let i' = g.counted (length values) m'.1 in
      let ki = keeps.counted (length values) m.1 m'.1 km.1 in
      let kt = keeps.tabled false values (i.0 ∷ []) (i'.0 ∷ []) i.1 i'.1 ki.1 (ki.0, tt) in ((km.0, (kt.0, tt)), kt.1)

  added_related : (n i : ℕ) (ws us : List W) (vs xs : List V) (s : S) (t : T) → R s t → AreRelated Q ws vs → AreRelated Q us xs →
      Gives Q R (added h w n i ws us s) (added g v n i vs xs t)
  added_related n i [] us [] xs s t r q u = (u, r)
  added_related n i [] us (y ∷ vs) xs s t r q u = absurd q
  added_related n i (x ∷ ws) us [] xs s t r q u = absurd q
  added_related n i (x ∷ ws) us (y ∷ vs) xs s t r q u =
      let a = h.leaf (leaf.Point Add) (get_or us (i % n) w ∷ x ∷ []) s in
      let b = g.leaf (leaf.Point Add) (get_or xs (i % n) v ∷ y ∷ []) t in
      let k = keeps.leaf (leaf.Point Add) (get_or us (i % n) w ∷ x ∷ []) (get_or xs (i % n) v ∷ y ∷ []) s t r
      (related_get Q us xs (i % n) w v free u, (q.0, tt)) in
      added_related n (suc i) ws (slice_set us (i % n) a.0) vs (slice_set xs (i % n) b.0) a.1 b.1 k.1 q.1 (related_set Q us xs (i % n) a.0 b.0 k.0 u)

  summed_related : (n : ℕ) (ws : List W) (vs : List V) (s : S) (t : T) → R s t → AreRelated Q ws vs → Gives Q R (summed h w n ws s) (summed g v n vs t)
  summed_related n ws vs s t r q = added_related n n (drop n ws) (take n ws) (drop n vs) (take n vs) s t r (related_drop Q n ws vs q) (related_take Q n ws vs q)

  -- what the walk makes of a diagram for the one is related with what it makes for the other
  pub walked_related : (d : Diagram) (slots : ℕ → W) (places : ℕ → V) (ws : List W) (vs : List V) (s : S) (t : T) → ((i : ℕ) → Q (slots i) (places i)) →
      R s t → AreRelated Q ws vs →
      Gives Q R (walked h w d slots ws s) (walked g v d places vs t)
  walked_related (Primitive p) slots places ws vs s t e r q = primitive_related p ws vs s t r q
  walked_related (Constant n) slots places ws vs s t e r q = let k = keeps.leaf (leaf.Number n) [] [] s t r tt in ((k.0, tt), k.1)
  walked_related (Control n) slots places ws vs s t e r q = let k = keeps.leaf (leaf.Control n) [] [] s t r tt in ((k.0, tt), k.1)
  walked_related (Slot k) slots places ws vs s t e r q = ((e k, tt), r)
  walked_related (Wave values) slots places ws vs s t e r q = waved_related values s t r
  walked_related (Table values writes) slots places ws vs s t e r q = let k = keeps.tabled writes values ws vs s t r q in ((k.0, tt), k.1)
  walked_related (Bind k a) slots places ws vs s t e r q =
      walked_related a (plugged slots k (get_or ws 0 w)) (plugged places k (get_or vs 0 v)) (drop 1 ws) (drop 1 vs) s t
      (related_plugged Q slots places k (get_or ws 0 w) (get_or vs 0 v) (related_get Q ws vs 0 w v free q) e) r (related_drop Q 1 ws vs q)
  walked_related (Par a b) slots places ws vs s t e r q =
      let n = inputs a in
      let x = walked h w a slots (take n ws) s in
      let y = walked g v a places (take n vs) t in
      let l = walked_related a slots places (take n ws) (take n vs) s t e r (related_take Q n ws vs q) in
      let m = walked_related b slots places (drop n ws) (drop n vs) x.1 y.1 e l.1 (related_drop Q n ws vs q) in
      (related_append Q x.0 (walked h w b slots (drop n ws) x.1).0 y.0 (walked g v b places (drop n vs) y.1).0 l.0 m.0, m.1)
  walked_related (Seq a b) slots places ws vs s t e r q =
      let x = walked h w a slots ws s in
      let y = walked g v a places vs t in
      let l = walked_related a slots places ws vs s t e r q in walked_related b slots places x.0 y.0 x.1 y.1 e l.1 l.0
  walked_related (Split a b) slots places ws vs s t e r q =
      let x = walked h w a slots ws s in
      let y = walked g v a places vs t in
      let l = walked_related a slots places ws vs s t e r q in
      walked_related b slots places (dealt w (inputs b) x.0) (dealt v (inputs b) y.0) x.1 y.1 e l.1 (related_dealt Q (inputs b) x.0 y.0 w v free l.0)
  walked_related (Merge a b) slots places ws vs s t e r q =
      let x = walked h w a slots ws s in
      let y = walked g v a places vs t in
      let l = walked_related a slots places ws vs s t e r q in
      let m = summed h w (inputs b) x.0 x.1 in
      let n = summed g v (inputs b) y.0 y.1 in
      let k = summed_related (inputs b) x.0 y.0 x.1 y.1 l.1 l.0 in walked_related b slots places m.0 n.0 m.1 n.1 e k.1 k.0
  walked_related (Rec a b) slots places ws vs s t e r q =
      let o = h.opened (inputs b) s in
      let p = g.opened (inputs b) t in
      let i = keeps.opened (inputs b) s t r in
      let x = walked h w b slots o.0 o.1 in
      let y = walked g v b places p.0 p.1 in
      let l = walked_related b slots places o.0 p.0 o.1 p.1 e i.1 i.0 in
      let m = walked_related a slots places (x.0 ++ ws) (y.0 ++ vs) x.1 y.1 e l.1 (related_append Q x.0 ws y.0 vs l.0 q) in
      keeps.closed (walked h w a slots (x.0 ++ ws) x.1).0 (walked g v a places (y.0 ++ vs) y.1).0 (walked h w a slots (x.0 ++ ws) x.1).1
      (walked g v a places (y.0 ++ vs) y.1).1 m.1 m.0
