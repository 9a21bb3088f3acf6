-- The rule of tables, line by line.
use Rattle.std.proofs.Common.{inl, inr, ◌≡◌, ℕ, zero, suc, ◌+◌, ◌*◌, ◌≤◌, ◌<ℤ◌, ◌≤ℤ◌, nat_abs, Bool, true, false, List}
use Rattle.std.proofs.Common.{[], ◌∷◌, Result, Ok, Err, ℤ, pos, negsuc, refl, sym, ap, ap₂, subst, ◌∙◌, ◌<◌, arith}
use Rattle.std.specs.Prelude.{nat_eq, nat_le, if◌then◌else◌}
use Rattle.std.specs.List.{list_all}
use Rattle.std.proofs.lemmas.Bool.{and_parts, eqb-true, eq-eqb}
use Rattle.std.proofs.lemmas.Int.{ints}
use Rattle.fv_num.specs.headline.Words.{argument}
use Rattle.fv_rules.specs.ArityKind.TheVariants as kind
use Rattle.fv_diagram.specs.declared.node.Node.TheVariants as node
use Rattle.fv_diagram.specs.headline.Diagram.{Diagram, Par, Seq, Table, outputs, size, table_inputs}
use Rattle.fv_diagram.specs.Arena.{Arena, count_of, list_at, tree_of, tree_with}
use Rattle.fv_diagram_numbers.specs.headline.Numbers.{at_first}
use Rattle.fv_diagram_numbers.specs.headline.Heads.{all_outputs, cut, is_fixed, is_head, parts, table_numbers}
use Rattle.fv_diagram_numbers.proofs.lemmas.Closed.{fixed_beside}
use Rattle.fv_diagram_numbers.proofs.lemmas.Outputs.{cut_outputs, parts_outputs}
use Rattle.fv_rules.specs.declared.refusal.EvalRefusal.{EvalRefusal}
use Rattle.fv_rules.specs.declared.refusal.EvalRefusal.TheVariants.{Arity, SizeBudget, TableForm}
use Rattle.fv_rules.specs.declared.refusal.TableCause.TheVariants as cause
use Rattle.fv_rules.specs.headline.Steps.{Eval, Outcome, State, after, ◌>>=◌, give, grow, misfit, put, put_after}
use Rattle.fv_rules.specs.headline.Steps.{refuse, side_by_side, sized, table_size, tabled, tabled_by, tabled_of, unless}
use Rattle.fv_rules.specs.Puts.{Puts}
use Rattle.fv_rules.specs.headline.Rules.{from_right, start}
use Rattle.fv_eval_drawing.specs.declared.lists.Link.TheVariants as link
use Rattle.fv_eval_drawing.specs.Lists.{all_from_right, linked}
use Rattle.fv_eval_drawing.specs.Makes.{AddsDiagrams, AreThere, Becomes, Canvas, Draws, Extends, Makes, trees_of}
use Rattle.fv_eval_drawing.specs.inner.Tables.{GrowsBy}
use Rattle.fv_eval_drawing.proofs.Evals.{given_then, refused_then}
use Rattle.fv_eval_drawing.proofs.Arenas.{trees_stay}
use Rattle.fv_eval_drawing.proofs.Leaves.{makes_of, puts_makes}
use Rattle.fv_base.specs.declared.limits.TheConstants.{SIZE_LIMIT}

-- side by side is from the right
beside : (d : Diagram) (ds : List Diagram) (s : State) → side_by_side d ds s ≡ from_right Par d ds s
beside d [] s = refl
beside d (x ∷ xs) s = ap (λ o. after o (λ r. put (Par d r))) (beside x xs s)

-- what an evaluation that has become another makes
pub becomes_makes : (a b c : Canvas) (whole rest : Eval Diagram) (r : Result ℕ EvalRefusal) → Becomes a b whole rest → Makes b c rest r → Makes a c whole r
becomes_makes a b c whole rest (Ok i) w h = (h.0, λ s. w s ∙ h.1 s)
becomes_makes a b c whole rest (Err e) w (inl h) = inl h
becomes_makes a b c whole rest (Err e) w (inr h) = inr (λ s. w s ∙ h s)

-- ---- what is left of the rule: after the parts that the table takes, after the sum, after the size, after the head

abbrev pub behind_rest : Bool → ℕ → (head rest : Diagram) → Eval Diagram
behind_rest writes n h rest = sized (Seq rest (Table (table_numbers n h) writes))

abbrev pub behind_sum : Bool → ℕ → Diagram → List Diagram → Eval Diagram
behind_sum writes n h [] = refuse (TableForm cause.Head)
behind_sum writes n h (r ∷ rs) = side_by_side r rs >>= behind_rest writes n h

abbrev pub behind_size : Bool → Diagram → List Diagram → ℕ → Eval Diagram
behind_size writes h rs n = grow (n * size h) >>= λ u. behind_sum writes n h rs

abbrev pub behind_head : Bool → List Diagram → Diagram → Eval Diagram
behind_head writes rs h = table_size (argument (at_first h) 0) >>= behind_size writes h rs

-- ---- the lines

-- some diagrams have outputs
some_outputs : (writes : Bool) → all_outputs [] ≡ table_inputs writes → ⊥
some_outputs true e = cc
some_outputs false e = cc

-- the head was put
pub head_stands : (a b : Canvas) (writes : Bool) (ds rs : List Diagram) (i : ℕ) → all_outputs rs ≡ table_inputs writes
    → Makes a b (all_from_right (linked link.Parallel) ds) (Ok i) → Becomes a b (tabled_by writes ds rs) (behind_head writes rs (tree_of b.diagrams i))
head_stands a b writes [] rs i e h = let q = h.1 start in absurd (cc)
head_stands a b writes (d ∷ ds) [] i e h = absurd (some_outputs writes e)
head_stands a b writes (d ∷ ds) (r ∷ rs) i e h =
    given_then a a b (side_by_side d ds) (tree_of b.diagrams i) (tabled_by writes (d ∷ ds) (r ∷ rs)) (behind_head writes (r ∷ rs))
    (λ s. refl) (λ s. beside d ds (record s { tables = a.tables }) ∙ h.1 s)

-- it was refused
pub head_refused : (a b : Canvas) (writes : Bool) (ds rs : List Diagram) (x : EvalRefusal) → all_outputs rs ≡ table_inputs writes
    → (ds ≡ [] → ⊥) → Makes a b (all_from_right (linked link.Parallel) ds) (Err x) → Makes a b (tabled_by writes ds rs) (Err x)
head_refused a b writes [] rs x e some h = absurd (some refl)
head_refused a b writes (d ∷ ds) [] x e some h = absurd (some_outputs writes e)
head_refused a b writes (d ∷ ds) (r ∷ rs) x e some (inl h) = inl h
head_refused a b writes (d ∷ ds) (r ∷ rs) x e some (inr h) =
    refused_then a a b x (side_by_side d ds) (tabled_by writes (d ∷ ds) (r ∷ rs)) (behind_head writes (r ∷ rs))
    (λ s. refl) (inr (λ s. beside d ds (record s { tables = a.tables }) ∙ h s))

-- the size is a number from 1 on
pub size_stands : (a b : Canvas) (writes : Bool) (whole : Eval Diagram) (h : Diagram) (rs : List Diagram) (n : ℕ)
    → argument (at_first h) 0 ≡ pos n → 1 ≤ n
    → Becomes a b whole (behind_head writes rs h) → Becomes a b whole (behind_size writes h rs n)
size_stands a b writes whole h rs zero e l w = absurd (omega (arith, l))
size_stands a b writes whole h rs (suc n) e l w = λ s.
    w s ∙ ap (λ z. after (table_size z (record s { tables = b.tables })) (behind_size writes h rs)) e

-- a size from 1 on, as a natural number
size_is : (z : ℤ) → pos 1 ≤ℤ z → (z ≡ pos (nat_abs z)) × (1 ≤ nat_abs z)
size_is (pos zero) l = absurd (omega (arith, ints, l))
size_is (pos (suc n)) l = (refl, omega arith)
size_is (negsuc n) l = absurd (omega (arith, ints, l))

-- the head was put, and its size is one
pub size_so : (a b : Canvas) (writes : Bool) (ds rs : List Diagram) (i : ℕ) (z : ℤ) → all_outputs rs ≡ table_inputs writes
    → Makes a b (all_from_right (linked link.Parallel) ds) (Ok i) → z ≡ argument (at_first (tree_of b.diagrams i)) 0 → pos 1 ≤ℤ z
    → Becomes a b (tabled_by writes ds rs) (behind_size writes (tree_of b.diagrams i) rs (nat_abs z))
size_so a b writes ds rs i z t m e l =
    let n = size_is z l in
    size_stands a b writes (tabled_by writes ds rs) (tree_of b.diagrams i) rs (nat_abs z) (sym e ∙ n.0) n.1 (head_stands a b writes ds rs i t m)

-- the sum grew
pub sum_stands : (a b c : Canvas) (writes : Bool) (whole : Eval Diagram) (h : Diagram) (rs : List Diagram) (n : ℕ)
    → Becomes a b whole (behind_size writes h rs n) → GrowsBy b c (n * size h) (Ok tt) → Becomes a c whole (behind_sum writes n h rs)
sum_stands a b c writes whole h rs n w g = given_then a b c (grow (n * size h)) tt whole (λ u. behind_sum writes n h rs) w g.1

-- it is over the limit, or there was no memory
pub sum_refused : (a b c : Canvas) (writes : Bool) (whole : Eval Diagram) (h : Diagram) (rs : List Diagram) (n : ℕ) (x : EvalRefusal)
    → Becomes a b whole (behind_size writes h rs n) → GrowsBy b c (n * size h) (Err x) → Makes a c whole (Err x)
sum_refused a b c writes whole h rs n x w g = refused_then a b c x (grow (n * size h)) whole (λ u. behind_sum writes n h rs) w g.1

-- what the table takes was put
pub rest_stands : (a b c : Canvas) (writes : Bool) (whole : Eval Diagram) (h : Diagram) (rs : List Diagram) (n i : ℕ)
    → Becomes a b whole (behind_sum writes n h rs) → Makes b c (all_from_right (linked link.Parallel) rs) (Ok i)
    → Becomes a c whole (behind_rest writes n h (tree_of c.diagrams i))
rest_stands a b c writes whole h [] n i w m = let q = m.1 start in absurd (cc)
rest_stands a b c writes whole h (r ∷ rs) n i w m =
    given_then a b c (side_by_side r rs) (tree_of c.diagrams i) whole (behind_rest writes n h) w
    (λ s. beside r rs (record s { tables = b.tables }) ∙ m.1 s)

pub rest_refused : (a b c : Canvas) (writes : Bool) (whole : Eval Diagram) (h : Diagram) (rs : List Diagram) (n : ℕ) (x : EvalRefusal)
    → (rs ≡ [] → ⊥) → Becomes a b whole (behind_sum writes n h rs) → Makes b c (all_from_right (linked link.Parallel) rs) (Err x) → Makes a c whole (Err x)
rest_refused a b c writes whole h [] n x some w m = absurd (some refl)
rest_refused a b c writes whole h (r ∷ rs) n x some w (inl m) = inl m
rest_refused a b c writes whole h (r ∷ rs) n x some w (inr m) =
    refused_then a b c x (side_by_side r rs) whole (behind_rest writes n h) w (inr (λ s. beside r rs (record s { tables = b.tables }) ∙ m s))

-- the size is less than 1
pub size_refused : (a b : Canvas) (writes : Bool) (whole : Eval Diagram) (h : Diagram) (rs : List Diagram) (z : ℤ)
    → argument (at_first h) 0 ≡ z → z <ℤ pos 1 → Becomes a b whole (behind_head writes rs h) → Makes a b whole (Err (TableForm cause.Size))
size_refused a b writes whole h rs (pos zero) e l w = inr (λ s.
    w s ∙ ap (λ z. after (table_size z (record s { tables = b.tables })) (behind_size writes h rs)) e)
size_refused a b writes whole h rs (pos (suc n)) e l w = absurd (omega (arith, ints, l))
size_refused a b writes whole h rs (negsuc n) e l w = inr (λ s.
    w s ∙ ap (λ z. after (table_size z (record s { tables = b.tables })) (behind_size writes h rs)) e)

-- ---- the head among the parts

-- they are one
pub tabled_stands : (writes : Bool) (d : Diagram) (ds rs : List Diagram) → cut 2 (parts d) ≡ (ds, rs) → is_head ds ≡ true
    → tabled writes d ≡ tabled_by writes ds rs
tabled_stands writes d ds rs e h =
    ap (tabled_of writes) e ∙ ap (λ (b : Bool). if b then tabled_by writes ds rs else refuse (TableForm cause.Head)) h

-- two outputs of what stands before are the head's, and the table takes the others
pub rest_takes : (writes : Bool) (d : Diagram) (ds rs : List Diagram) → cut 2 (parts d) ≡ (ds, rs) → is_head ds ≡ true
    → outputs d ≡ 2 + table_inputs writes → all_outputs rs ≡ table_inputs writes
rest_takes writes d ds rs e h o =
    let two = eqb-true (all_outputs ds) 2 (and_parts (nat_eq (all_outputs ds) 2) (list_all is_fixed ds) h).0 in
    let all : all_outputs ds + all_outputs rs ≡ outputs d =
    ap (λ (c : List Diagram × List Diagram). all_outputs c.0 + all_outputs c.1) (sym e) ∙ cut_outputs 2 (parts d) ∙ parts_outputs d in
    omega (arith, two, all, o)

-- ---- what was put side by side

-- it gives what the parts give, and is fixed where each of them is
pub record Sides (ds : List Diagram) (d : Diagram) : Type 0 where
  pub outputs : outputs d ≡ all_outputs ds
  pub fixed : list_all is_fixed ds ≡ true → is_fixed d ≡ true

-- the same of what an evaluation gives
abbrev SidesOf : List Diagram → Outcome Diagram → Type 0
SidesOf ds (Ok x) = Sides ds x.0
SidesOf ds (Err r) = Unit {0}

one_more : (d : Diagram) (ds : List Diagram) (o : Outcome Diagram) → SidesOf ds o → SidesOf (d ∷ ds) (after o (λ r. sized (Par d r)))
one_more d ds (Err r) h = tt
one_more d ds (Ok x) h = by (nat_le (size (Par d x.0)) SIZE_LIMIT)
  where
    both : Sides (d ∷ ds) (Par d x.0)
    both = record {
      outputs = ap (λ n. outputs d + n) h.outputs;
      fixed = λ f. let p = and_parts (is_fixed d) (list_all is_fixed ds) f in fixed_beside d x.0 p.0 (h.fixed p.1);
    }

    by : (b : Bool) → SidesOf (d ∷ ds) ((if b then give (Par d x.0) else refuse (SizeBudget (size (Par d x.0)))) x.1)
    by true = both
    by false = tt

side_sides : (d : Diagram) (ds : List Diagram) (s : State) → SidesOf (d ∷ ds) (side_by_side d ds s)
side_sides d [] s = record { outputs = omega arith; fixed = λ f. (and_parts (is_fixed d) true f).0 }
side_sides d (x ∷ xs) s = one_more d (x ∷ xs) (side_by_side x xs s) (side_sides x xs s)

pub put_sides : (a b : Canvas) (ds : List Diagram) (i : ℕ) → Makes a b (all_from_right (linked link.Parallel) ds) (Ok i) → Sides ds (tree_of b.diagrams i)
put_sides a b [] i h = let q = h.1 start in absurd (cc)
put_sides a b (d ∷ ds) i h =
    let s : State = record start { tables = a.tables } in
    subst (SidesOf (d ∷ ds)) (beside d ds s ∙ h.1 start) (side_sides d ds s)

-- a head that was put gives two streams, and is fixed
pub record HeadsSo (d : Diagram) : Type 0 where
  pub two : outputs d ≡ 2
  pub fixed : is_fixed d ≡ true

pub head_put : (a b : Canvas) (ds : List Diagram) (i : ℕ) → is_head ds ≡ true → Makes a b (all_from_right (linked link.Parallel) ds) (Ok i)
    → HeadsSo (tree_of b.diagrams i)
head_put a b ds i h m =
    let p = and_parts (nat_eq (all_outputs ds) 2) (list_all is_fixed ds) h in
    let sides = put_sides a b ds i m in
    record { two = sides.outputs ∙ eqb-true (all_outputs ds) 2 p.0; fixed = sides.fixed p.1 }

-- a head has parts, and so has what a table takes
pub some_head : (ds : List Diagram) → is_head ds ≡ true → ds ≡ [] → ⊥
some_head [] h e = absurd (cc)
some_head (d ∷ ds) h e = absurd (cc)

pub some_rest : (writes : Bool) (rs : List Diagram) → all_outputs rs ≡ table_inputs writes → rs ≡ [] → ⊥
some_rest writes [] h e = some_outputs writes h
some_rest writes (r ∷ rs) h e = absurd (cc)

-- ---- a table after a diagram

pub behind_fits : (d : Diagram) (T : List ℤ) (writes : Bool) → outputs d ≡ table_inputs writes
    → put_after (misfit (Seq d (Table T writes))) (Seq d (Table T writes)) ≡ sized (Seq d (Table T writes))
behind_fits d T writes e =
    ap (λ b. put_after (unless b (Arity kind.Seq (outputs d) (table_inputs writes))) (Seq d (Table T writes)))
    (eq-eqb (outputs d) (table_inputs writes) e)

-- a list was kept, its table was put, and then the sequence
pub behind_makes : (a b c d : Canvas) (taken list table : ℕ) (T : List ℤ) (writes : Bool) (r : Result ℕ EvalRefusal) → taken < count_of a.diagrams
    → outputs (tree_of a.diagrams taken) ≡ table_inputs writes → AddsDiagrams a b → list_at b.diagrams.lists list ≡ T → AddsDiagrams b c
    → Draws c.diagrams table (tree_with b.diagrams (node.Table list writes)) → AddsDiagrams c d
    → Puts d.diagrams (tree_with c.diagrams (node.Seq taken table)) r
    → Makes a d (sized (Seq (tree_of a.diagrams taken) (Table T writes))) r
behind_makes a b c d taken list table T writes r l fits listed e tabled drawn put p =
    let t : Diagram = tree_of a.diagrams taken in
    let there : taken < count_of b.diagrams = omega (arith, l, listed.keeps.longer) in
    let same : tree_with c.diagrams (node.Seq taken table) ≡ Seq t (Table T writes) =
    ap₂ (λ (x y : Diagram). Seq x y) (tabled.keeps.trees taken there ∙ listed.keeps.trees taken l) (drawn.is ∙ ap (λ (xs : List ℤ). Table xs writes) e) in
    makes_of a c d (put_after (misfit (Seq t (Table T writes))) (Seq t (Table T writes))) (sized (Seq t (Table T writes))) r
    (tabled.tables ∙ listed.tables) (behind_fits t T writes fits)
    (subst (λ (x : Diagram). Makes c d (put_after (misfit x) x) r) same
    (puts_makes c d (tree_with c.diagrams (node.Seq taken table)) r put.tables p))

-- ---- what was there before the head was put, after the sum

pub rest_stays : (a b c : Canvas) (ids : List ℕ) → Extends a b → c.diagrams ≡ b.diagrams → AreThere a.diagrams ids
    → trees_of c.diagrams ids ≡ trees_of a.diagrams ids
rest_stays a b c ids k e h = ap (λ (x : Arena). trees_of x ids) e ∙ trees_stay a b k ids h

-- the head itself
pub head_stays : (b c d : Canvas) (whole : ℕ) → whole < count_of b.diagrams → c.diagrams ≡ b.diagrams → Extends c d
    → (whole < count_of d.diagrams) × (tree_of d.diagrams whole ≡ tree_of b.diagrams whole)
head_stays b c d whole l e k =
    let there : whole < count_of c.diagrams = subst (λ (x : Arena). whole < count_of x) (sym e) l in
    (omega (arith, there, k.longer), k.trees whole there ∙ ap (λ (x : Arena). tree_of x whole) e)
