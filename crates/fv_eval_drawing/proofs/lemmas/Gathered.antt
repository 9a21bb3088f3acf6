-- Lists that were put together, as values; and a diagram that was fed.
use Rattle.std.proofs.Common.{inl, inr, ◌≡◌, ◌⊎◌, ℕ, zero, suc, ◌-◌, ◌<◌, Bool, true, false, ◌&&◌, List, [], ◌∷◌, ◌++◌, Result, Ok, Err, refl, sym, ap}
use Rattle.std.proofs.Common.{ap₂, subst, ◌∙◌}
use Rattle.std.specs.Prelude.{nat_eq, nat_lt, Vec, if◌then◌else◌}
use Rattle.std.specs.declared.alloc.Global.{Global}
use Rattle.std.proofs.lemmas.List.{map-append}
use Rattle.std.proofs.lemmas.List.Elements.{All-append, All-cons, All-nil}
use Rattle.fv_parse_grammar.specs.Iteration.TheVariants as repetitions
use Rattle.fv_num.specs.declared.op.Op.TheVariants as op
use Rattle.fv_diagram.specs.Primitive.TheVariants as prim
use Rattle.fv_diagram.specs.headline.Diagram.{Diagram, Primitive, Par, Seq, inputs}
use Rattle.fv_diagram.specs.Arena.{count_of, tree_of}
use Rattle.fv_rules.specs.declared.refusal.EvalRefusal.{EvalRefusal}
use Rattle.fv_rules.specs.declared.refusal.EvalRefusal.TheVariants.{NoMemory, TooManyArguments}
use Rattle.fv_rules.specs.headline.Values.{Value, Flat}
use Rattle.fv_rules.specs.headline.Steps.{State, Eval, after, give, put, refuse}
use Rattle.fv_rules.specs.headline.Rules.{all_outputs, fed, flat, from_right, gathered, led, start, takes_the_right, wires}
use Rattle.fv_eval_drawing.specs.declared.lists.Link.TheVariants as link
use Rattle.fv_eval_drawing.specs.Makes.{AddsDiagrams, AreThere, Becomes, Canvas, Draws, Makes, MakesValue, trees_of}
use Rattle.fv_eval_drawing.specs.Lists.{Sides, all_from_left, all_from_right, feeding, filled, linked}
use Rattle.fv_eval_drawing.specs.Wires.{IsWired, side_by_side}
use Rattle.fv_eval_drawing.proofs.Arenas.{there_stays, trees_stay}
use Rattle.fv_eval_drawing.proofs.Operated.{made_then}
use Rattle.fv_eval_drawing.proofs.Tabling.{becomes_makes}
use Rattle.fv_eval_drawing.proofs.Wired.{packed, packed_refused}

-- a diagram as a value
pub as_value : (a b : Canvas) (m : Eval Diagram) (r : Result ℕ EvalRefusal) → Makes a b m r → MakesValue a b (flat m) r
as_value a b m (Ok i) h = (h.0, λ s. ap (λ o. after o (λ d. give (Flat d))) (h.1 s))
as_value a b m (Err e) (inl h) = inl h
as_value a b m (Err e) (inr h) = inr (λ s. ap (λ o. after o (λ d. give (Flat d))) (h s))

refused_value : (a b : Canvas) (e : EvalRefusal) (r : Result ℕ EvalRefusal) → Makes a b (refuse e) r → MakesValue a b (refuse e) r
refused_value a b e (Ok i) h = let q = h.1 start in absurd (cc)
refused_value a b e (Err x) (inl h) = inl h
refused_value a b e (Err x) (inr h) = inr (λ s. let q = h s in let k : e ≡ x = cc in ap Err k)

pub gathers_parallel : (a b : Canvas) (ds : List Diagram) (r : Result ℕ EvalRefusal)
    → Makes a b (all_from_right (linked link.Parallel) ds) r → MakesValue a b (gathered repetitions.Parallel ds) r
gathers_parallel a b [] r h = refused_value a b _ r h
gathers_parallel a b (d ∷ ds) r h = as_value a b (from_right Par d ds) r h

pub gathers_sequence : (a b : Canvas) (ds : List Diagram) (r : Result ℕ EvalRefusal)
    → Makes a b (all_from_right (linked link.Sequence) ds) r → MakesValue a b (gathered repetitions.Sequence ds) r
gathers_sequence a b [] r h = refused_value a b _ r h
gathers_sequence a b (d ∷ ds) r h = as_value a b (from_right Seq d ds) r h

pub gathers_sum : (a b : Canvas) (ds : List Diagram) (r : Result ℕ EvalRefusal)
    → Makes a b (all_from_left op.Add ds) r → MakesValue a b (gathered repetitions.Sum ds) r
gathers_sum a b [] r h = refused_value a b _ r h
gathers_sum a b (d ∷ ds) r h = as_value a b (all_from_left op.Add (d ∷ ds)) r h

pub gathers_product : (a b : Canvas) (ds : List Diagram) (r : Result ℕ EvalRefusal)
    → Makes a b (all_from_left op.Mul ds) r → MakesValue a b (gathered repetitions.Product ds) r
gathers_product a b [] r h = refused_value a b _ r h
gathers_product a b (d ∷ ds) r h = as_value a b (all_from_left op.Mul (d ∷ ds)) r h

-- ---- what a diagram is fed with

-- diagrams that are these are put side by side as those
same_sides : (a b : Canvas) (ds : List Diagram) (is : List ℕ) → b.tables ≡ a.tables → trees_of b.diagrams is ≡ ds
    → Becomes a b (all_from_right Par ds) (all_from_right Par (trees_of b.diagrams is))
same_sides a b ds is t e s = ap₂ (λ (xs : List Diagram) (k : ℕ). all_from_right Par xs (record s { tables = k })) (sym e) (sym t)

pub sides_right : (a b : Canvas) (k w : ℕ) (f : Diagram) (ids : List ℕ) (v : Vec ℕ Global) → AddsDiagrams a b
    → Draws b.diagrams w (Primitive prim.Wire) → AreThere a.diagrams ids → (takes_the_right f && nat_eq k 1) ≡ true → v.items ≡ w ∷ ids
    → Sides a b (filled k f (trees_of a.diagrams ids)) (Ok v)
sides_right a b k w f ids v g d h c e =
    let ds = trees_of a.diagrams ids in (
      subst (AreThere b.diagrams) (sym e) (All-cons (λ i. i < count_of b.diagrams) w ids d.inside (there_stays a b g.keeps ids h)),
      same_sides a b (filled k f ds) v.items g.tables
          (ap (trees_of b.diagrams) e ∙ ap₂ (λ (x : Diagram) xs. x ∷ xs) d.is (trees_stay a b g.keeps ids h)
          ∙ ap (λ (t : Bool). if t then Primitive prim.Wire ∷ ds else ds ++ wires (inputs f - k)) (sym c)),
    )

-- many wires that are one diagram
pub sides_behind : (a b : Canvas) (n w : ℕ) (ids : List ℕ) (v : Vec ℕ Global) → (n ≡ 0 → ⊥) → AddsDiagrams a b
    → IsWired b.diagrams n w → AreThere a.diagrams ids → v.items ≡ ids ++ w ∷ []
    → Sides a b (trees_of a.diagrams ids ++ wires n) (Ok v)
sides_behind a b zero w ids v some g k h e = absurd (some refl)
sides_behind a b (suc n) w ids v some g k h e =
    let ds = trees_of a.diagrams ids in let c = tree_of b.diagrams w in
    let is : ds ++ c ∷ [] ≡ trees_of b.diagrams v.items =
    sym (ap (trees_of b.diagrams) e ∙ map-append (tree_of b.diagrams) ids (w ∷ []) ∙ ap (λ xs. xs ++ c ∷ []) (trees_stay a b g.keeps ids h)) in (
      subst (AreThere b.diagrams) (sym e) (All-append (λ i. i < count_of b.diagrams) ids (w ∷ []) (there_stays a b g.keeps ids h)
          (All-cons (λ i. i < count_of b.diagrams) w [] k.inside (All-nil (λ i. i < count_of b.diagrams)))),
      λ s. packed n c ds (record s { tables = a.tables }) k.put
          ∙ ap₂ (λ (xs : List Diagram) (t : ℕ). all_from_right Par xs (record s { tables = t })) is (sym g.tables),
    )

pub sides_refused : (a b : Canvas) (n : ℕ) (ids : List ℕ) (x : EvalRefusal) → (n ≡ 0 → ⊥) → (x ≡ NoMemory) ⊎ ((s : State) → side_by_side n s ≡ Err x)
    → Sides a b (trees_of a.diagrams ids ++ wires n) (Err x)
sides_refused a b n ids x some (inl h) = inl h
sides_refused a b zero ids x some (inr h) = absurd (some refl)
sides_refused a b (suc n) ids x some (inr h) = inr (λ s. packed_refused n x (trees_of a.diagrams ids) (record s { tables = a.tables }) h)

pub sides_left : (a b : Canvas) (k n : ℕ) (f : Diagram) (ds : List Diagram) (r : Result (Vec ℕ Global) EvalRefusal)
    → (takes_the_right f && nat_eq k 1) ≡ false → n ≡ inputs f - k → Sides a b (ds ++ wires n) r → Sides a b (filled k f ds) r
sides_left a b k n f ds r c e h =
    subst (λ (xs : List Diagram). Sides a b xs r)
    (ap (λ j. ds ++ wires j) e ∙ ap (λ (t : Bool). if t then Primitive prim.Wire ∷ ds else ds ++ wires (inputs f - k)) (sym c)) h

fed_so : (b : Bool) (d f : Diagram) (ds : List Diagram) (n : ℕ)
    → (if b then led (Primitive prim.Wire) (d ∷ ds) f else led d (ds ++ wires n) f)
    ≡ feeding f (if b then Primitive prim.Wire ∷ d ∷ ds else (d ∷ ds) ++ wires n)
fed_so true d f ds n = refl
fed_so false d f ds n = refl

fed_filled : (f d : Diagram) (ds : List Diagram)
    → nat_lt (inputs f) (all_outputs (d ∷ ds)) ≡ false → fed f (d ∷ ds) ≡ flat (feeding f (filled (all_outputs (d ∷ ds)) f (d ∷ ds)))
fed_filled f d ds e =
    let k = all_outputs (d ∷ ds) in
    ap (λ (b : Bool). flat (if b then refuse (TooManyArguments k (inputs f))
    else (if takes_the_right f && nat_eq k 1 then led (Primitive prim.Wire) (d ∷ ds) f else led d (ds ++ wires (inputs f - k)) f))) e
    ∙ ap flat (fed_so (takes_the_right f && nat_eq k 1) d f ds (inputs f - k))

-- some arguments with k outputs together, which are no more than the function's inputs
pub record AreFor (f : Diagram) (k : ℕ) (xs : List Diagram) : Type 0 where
  pub given : k ≡ all_outputs xs
  pub few : nat_lt (inputs f) k ≡ false
  pub some : xs ≡ [] → ⊥

feeds_with : (a b : Canvas) (f : Diagram) (xs : List Diagram) (r : Result ℕ EvalRefusal) (k : ℕ)
    → Makes a b (feeding f (filled k f xs)) r → AreFor f k xs → MakesValue a b (fed f xs) r
feeds_with a b f [] r k h fit = absurd (fit.some refl)
feeds_with a b f (d ∷ ds) r k h fit =
    let h' : Makes a b (feeding f (filled (all_outputs (d ∷ ds)) f (d ∷ ds))) r =
    subst (λ j. Makes a b (feeding f (filled j f (d ∷ ds))) r) fit.given h in
    let l' : nat_lt (inputs f) (all_outputs (d ∷ ds)) ≡ false = subst (λ j. nat_lt (inputs f) j ≡ false) fit.given fit.few in
    subst (λ (x : Eval Value). MakesValue a b x r) (sym (fed_filled f d ds l'))
    (as_value a b (feeding f (filled (all_outputs (d ∷ ds)) f (d ∷ ds))) r h')

-- a function after what was put side by side
pub leads : (a b c : Canvas) (f g : Diagram) (all : ℕ) (r : Result ℕ EvalRefusal) (ds : List Diagram)
    → Makes a b (all_from_right (linked link.Parallel) ds) (Ok all) → g ≡ f → Makes b c (put (Seq (tree_of b.diagrams all) g)) r
    → Makes a c (feeding f ds) r
leads a b c f g all r ds m e p =
    made_then a b c (all_from_right Par ds) (λ d. put (Seq d f)) all r m
    (subst (λ (x : Diagram). Makes b c (put (Seq (tree_of b.diagrams all) x)) r) e p)

pub leads_not : (a b : Canvas) (f : Diagram) (x : EvalRefusal) (ds : List Diagram)
    → Makes a b (all_from_right (linked link.Parallel) ds) (Err x) → Makes a b (feeding f ds) (Err x)
leads_not a b f x ds (inl h) = inl h
leads_not a b f x ds (inr h) = inr (λ s. ap (λ o. after o (λ d. put (Seq d f))) (h s))

-- the inputs were filled up, and then the function was put after them
pub feeds : (a b c : Canvas) (f g : Diagram) (r : Result ℕ EvalRefusal) (k : ℕ) (xs ys : List Diagram)
    → Becomes a b (all_from_right Par (filled k f xs)) (all_from_right Par ys) → g ≡ f → Makes b c (feeding g ys) r → AreFor f k xs
    → MakesValue a c (fed f xs) r
feeds a b c f g r k xs ys w e m fit =
    feeds_with a c f xs r k (becomes_makes a b c (feeding f (filled k f xs)) (feeding f ys) r (λ s. ap (λ o. after o (λ d. put (Seq d f))) (w s))
    (subst (λ (x : Diagram). Makes b c (feeding x ys) r) e m)) fit

-- they were refused
pub feeds_refused : (a b : Canvas) (f : Diagram) (x : EvalRefusal) (k : ℕ) (xs : List Diagram)
    → (x ≡ NoMemory) ⊎ Becomes a b (all_from_right Par (filled k f xs)) (refuse x) → AreFor f k xs → MakesValue a b (fed f xs) (Err x)
feeds_refused a b f x k xs (inl h) fit = feeds_with a b f xs (Err x) k (inl h) fit
feeds_refused a b f x k xs (inr h) fit = feeds_with a b f xs (Err x) k (inr (λ s. ap (λ o. after o (λ d. put (Seq d f))) (h s))) fit
