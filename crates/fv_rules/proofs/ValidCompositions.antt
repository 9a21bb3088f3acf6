-- Compositions of valid diagrams: each is valid, or refused for a cause.
use Rattle.std.proofs.Common.{inl, inr, ◌≡◌, ◌⊎◌, ℕ, zero, suc, ◌-◌, ◌%◌, ◌≤◌, Bool, true, false, List, []}
use Rattle.std.proofs.Common.{◌∷◌, ◌++◌, Option, Some, None, Ok, Err, ℤ, pos, refl, sym, subst, arith}
use Rattle.std.specs.Prelude.{nat_le, nat_lt, nat_eq, ◌&&◌, ◌≢◌, if◌then◌else◌}
use Rattle.std.proofs.lemmas.Bool.{and_parts, leb-true, eqb-true}
use Rattle.std.proofs.lemmas.Option.{none-some}
use Rattle.fv_parse_grammar.specs.declared.form.Operator.{Operator}
use Rattle.fv_parse_grammar.specs.declared.form.Operator.TheVariants as operators
use Rattle.fv_parse_grammar.specs.Iteration.{Iteration as Repetition}
use Rattle.fv_parse_grammar.specs.Iteration.TheVariants as repetitions
use Rattle.fv_diagram.specs.Op.TheVariants as op
use Rattle.fv_diagram.specs.Primitive.{Primitive as Prim}
use Rattle.fv_diagram.specs.Primitive.TheVariants as prim
use Rattle.fv_diagram.specs.headline.Diagram.{Diagram, Primitive, Constant, Slot, Table, Bind, Par, Seq, Split, Merge, Rec, size, inputs, outputs, table_inputs}
use Rattle.fv_diagram_numbers.specs.headline.Numbers.{at_first}
use Rattle.fv_diagram.specs.Words.{argument}
use Rattle.std.specs.List.{list_all}
use Rattle.std.proofs.Common.{◌+◌, ◌*◌, length, ◌∙◌, negsuc}
use Rattle.fv_diagram.specs.Diagram.{control_bound, IsFree}
use Rattle.fv_diagram.specs.Composed.{IsComposed}
use Rattle.fv_rules.specs.declared.refusal.EvalRefusal.{EvalRefusal}
use Rattle.fv_rules.specs.declared.refusal.EvalRefusal.TheVariants.{SizeBudget, Arity, IterationCount, TooManyArguments}
use Rattle.fv_arity.specs.declared.refusal.ArityKind.TheVariants as kind
use Rattle.fv_rules.specs.headline.Values.{Flat}
use Rattle.fv_rules.specs.headline.Steps.{State, Outcome, Eval, after, give, refuse, is_multiple, unless, or_else, misfit, sized, put_after, put_as, put}
use Rattle.fv_diagram_numbers.specs.headline.Heads.{parts, cut, is_fixed, is_head, table_numbers}
use Rattle.fv_diagram_numbers.proofs.lemmas.Outputs.{cut_outputs, parts_outputs}
use Rattle.fv_rules.specs.headline.Steps.{side_by_side, table_size, grow, tabled_by, tabled, waved}
use Rattle.fv_rules.specs.declared.refusal.EvalRefusal.TheVariants.{TableForm, TableBudget}
use Rattle.fv_rules.specs.declared.refusal.TableCause.TheVariants as cause
use Rattle.fv_rules.specs.headline.Rules.{flat, operated, joined, from_right, from_left}
use Rattle.fv_rules.specs.headline.Rules.{gathered, wires, all_outputs, takes_the_right, led, fed_by, fed}
use Rattle.fv_rules.proofs.ValidValues.{IsValid, ValidValue, ValidState, keep, AllValid, keep_all, all_append}
use Rattle.fv_rules.proofs.ValidValues.{IsCause, Stays, Does, bind_does, give_does, refuse_does, choice}
use Rattle.fv_base.specs.declared.limits.TheConstants.{SIZE_LIMIT, TABLE_LIMIT}

-- ---- putting

unless_none : (b : Bool) (r : EvalRefusal) → unless b r ≡ None → b ≡ true
unless_none true r e = refl
unless_none false r e = absurd (none-some r (sym e))

or_none : (o p : Option EvalRefusal) → or_else o p ≡ None → (o ≡ None) × (p ≡ None)
or_none None p e = (refl, e)
or_none (Some r) p e = absurd (none-some r (sym e))

abbrev HasValidParts : (ℕ → Type 0) → ℕ → Diagram → Type 0
HasValidParts S k (Bind s a) = IsValid (λ t. (t ≡ s) ⊎ S t) k a
HasValidParts S k (Par a b) = IsValid S k a × IsValid S k b
HasValidParts S k (Seq a b) = IsValid S k a × IsValid S k b
HasValidParts S k (Split a b) = IsValid S k a × IsValid S k b
HasValidParts S k (Merge a b) = IsValid S k a × IsValid S k b
HasValidParts S k (Rec a b) = IsValid S k a × IsValid S k b
HasValidParts S k d = ⊥

multiple : (n m : ℕ) → is_multiple n m ≡ true → (1 ≤ n) × (1 ≤ m) × (n % m ≡ 0)
multiple n m e =
    let p = and_parts (nat_le 1 n && nat_le 1 m) (nat_eq (n % m) 0) e in
    let q = and_parts (nat_le 1 n) (nat_le 1 m) p.0 in (leb-true 1 n q.0, leb-true 1 m q.1, eqb-true (n % m) 0 p.1)

both_free : (S : ℕ → Type 0) (k : ℕ) (a b : Diagram) (s : ℕ) → IsValid S k a → IsValid S k b → IsFree s a ⊎ IsFree s b → S s
both_free S k a b s p q (inl i) = p.free s i
both_free S k a b s p q (inr i) = q.free s i

bind_free : (S : ℕ → Type 0) (s t : ℕ) → (t ≡ s) ⊎ S t → t ≢ s → S t
bind_free S s t (inl e) n = absurd (n e)
bind_free S s t (inr i) n = i

-- two valid diagrams side by side are valid, unless they are too large
both_valid : (S : ℕ → Type 0) (k : ℕ) (a b : Diagram) → IsValid S k a → IsValid S k b → size (Par a b) ≤ SIZE_LIMIT → IsValid S k (Par a b)
both_valid S k a b p q h =
    let r = p.reads in let s = q.reads in
    record { composed = (p.composed, q.composed); within = h; free = λ s i. both_free S k a b s p q i; reads = omega arith }

put_valid : (S : ℕ → Type 0) (k : ℕ) (d : Diagram) → HasValidParts S k d → misfit d ≡ None → size d ≤ SIZE_LIMIT → IsValid S k d
put_valid S k (Bind s a) g e h =
    let r = g.reads in record { composed = g.composed; within = h; free = λ t i. bind_free S s t (g.free t i.0) i.1; reads = omega arith }
put_valid S k (Par a b) g e h = both_valid S k a b g.0 g.1 h
put_valid S k (Seq a b) g e h =
    let p = both_valid S k a b g.0 g.1 h in
    let t = unless_none (nat_eq (outputs a) (inputs b)) _ e in
    record { composed = (g.0.composed, g.1.composed, eqb-true (outputs a) (inputs b) t); within = h; free = p.free; reads = p.reads }
put_valid S k (Split a b) g e h =
    let p = both_valid S k a b g.0 g.1 h in
    let t = multiple (inputs b) (outputs a) (unless_none (is_multiple (inputs b) (outputs a)) _ e) in
    record { composed = (g.0.composed, g.1.composed, t.1, t.0, t.2); within = h; free = p.free; reads = p.reads }
put_valid S k (Merge a b) g e h =
    let p = both_valid S k a b g.0 g.1 h in
    let t = multiple (outputs a) (inputs b) (unless_none (is_multiple (outputs a) (inputs b)) _ e) in
    record { composed = (g.0.composed, g.1.composed, t.0, t.1, t.2); within = h; free = p.free; reads = p.reads }
put_valid S k (Rec a b) g e h =
    let p = both_valid S k a b g.0 g.1 h in
    let t = or_none (unless (nat_le (inputs b) (outputs a)) _) (unless (nat_le (outputs b) (inputs a)) _) e in
    let u = leb-true (inputs b) (outputs a) (unless_none (nat_le (inputs b) (outputs a)) _ t.0) in
    let v = leb-true (outputs b) (inputs a) (unless_none (nat_le (outputs b) (inputs a)) _ t.1) in
    record { composed = (g.0.composed, g.1.composed, u, v); within = h; free = p.free; reads = p.reads }
put_valid S k d g e h = absurd g

abbrev MayCause : Option EvalRefusal → Type 0
MayCause None = Unit {0}
MayCause (Some r) = IsCause r

unless_cause : (b : Bool) (r : EvalRefusal) → IsCause r → MayCause (unless b r)
unless_cause true r i = tt
unless_cause false r i = i

or_cause : (o p : Option EvalRefusal) → MayCause o → MayCause p → MayCause (or_else o p)
or_cause None p i j = j
or_cause (Some r) p i j = i

misfit_cause : (d : Diagram) → MayCause (misfit d)
misfit_cause (Seq a b) = unless_cause (nat_eq (outputs a) (inputs b)) (Arity kind.Seq (outputs a) (inputs b)) tt
misfit_cause (Split a b) = unless_cause (is_multiple (inputs b) (outputs a)) (Arity kind.Split (outputs a) (inputs b)) tt
misfit_cause (Merge a b) = unless_cause (is_multiple (outputs a) (inputs b)) (Arity kind.Merge (outputs a) (inputs b)) tt
misfit_cause (Rec a b) =
    let out = Arity kind.RecOut (outputs a) (inputs b) in
    let into = Arity kind.RecIn (inputs a) (outputs b) in
    or_cause (unless (nat_le (inputs b) (outputs a)) out) (unless (nat_le (outputs b) (inputs a)) into)
    (unless_cause (nat_le (inputs b) (outputs a)) out tt) (unless_cause (nat_le (outputs b) (inputs a)) into tt)
misfit_cause d = tt

put_tried : (S : ℕ → Type 0) (k : ℕ) (d : Diagram) (b : Bool) (r : EvalRefusal) → IsCause r → HasValidParts S k d → misfit d ≡ None
    → nat_le (size d) SIZE_LIMIT ≡ b → Does (IsValid S) 0 k (if b then give d else refuse r)
put_tried S k d true r i g e t = give_does (λ n h. keep S k n d h (put_valid S k d g e (leb-true (size d) SIZE_LIMIT t)))
put_tried S k d false r i g e t = refuse_does r i

sized_does : (S : ℕ → Type 0) (k : ℕ) (d : Diagram) → HasValidParts S k d → misfit d ≡ None → Does (IsValid S) 0 k (sized d)
sized_does S k d g e = put_tried S k d (nat_le (size d) SIZE_LIMIT) (SizeBudget (size d)) tt g e refl

put_by : (S : ℕ → Type 0) (k : ℕ) (d : Diagram) (o : Option EvalRefusal) → HasValidParts S k d → misfit d ≡ o → Does (IsValid S) 0 k (put_after o d)
put_by S k d (Some r) g e = refuse_does r (subst MayCause e (misfit_cause d))
put_by S k d None g e = sized_does S k d g e

-- ---- tables

-- the parts of a valid diagram are valid
sides_valid : (S : ℕ → Type 0) (k : ℕ) (a b : Diagram) → IsValid S k (Par a b) → IsValid S k a × IsValid S k b
sides_valid S k a b g =
    let r = g.reads in let z = g.within in (
      record { composed = g.composed.0; within = omega arith; free = λ s i. g.free s (inl i); reads = omega arith },
      record { composed = g.composed.1; within = omega arith; free = λ s i. g.free s (inr i); reads = omega arith },
    )

parts_valid : (S : ℕ → Type 0) (k : ℕ) (d : Diagram) → IsValid S k d → AllValid S k (parts d)
parts_valid S k (Par a b) g =
    let h = sides_valid S k a b g in all_append S k (parts a) (parts b) (parts_valid S k a h.0) (parts_valid S k b h.1)
parts_valid S k d g = (g, tt)

-- the first parts and the others are valid
record Cuts (S : ℕ → Type 0) (k : ℕ) (c : List Diagram × List Diagram) : Type 0 where
  pub head : AllValid S k c.0
  pub rest : AllValid S k c.1

cut_valid : (S : ℕ → Type 0) (k n : ℕ) (ds : List Diagram) → AllValid S k ds → Cuts S k (cut n ds)
cut_valid S k zero ds g = record { head = tt; rest = g }
cut_valid S k (suc n) [] g = record { head = tt; rest = tt }
cut_valid S k (suc n) (d ∷ ds) g =
    let c = cut_valid S k (suc n - outputs d) ds g.1 in record { head = (g.0, c.head); rest = c.rest }

-- a valid diagram with n outputs
abbrev Gives : (ℕ → Type 0) → ℕ → ℕ → Diagram → Type 0
Gives S n k d = IsValid S k d × (outputs d ≡ n)

par_does : (S : ℕ → Type 0) (n m k : ℕ) (a b : Diagram) → Gives S n k a → Gives S m k b → Does (Gives S (n + m)) 0 k (sized (Par a b))
par_does S n m k a b g h = by (nat_le (size (Par a b)) SIZE_LIMIT) refl
  where
    by : (t : Bool) → nat_le (size (Par a b)) SIZE_LIMIT ≡ t → Does (Gives S (n + m)) 0 k (if t then give (Par a b) else refuse (SizeBudget (size (Par a b))))
    by true e = give_does (λ j l. (keep S k j (Par a b) l (both_valid S k a b g.0 h.0 (leb-true (size (Par a b)) SIZE_LIMIT e)), omega (arith, g.1, h.1)))
    by false e = refuse_does (SizeBudget (size (Par a b))) tt

side_does : (S : ℕ → Type 0) (k : ℕ) (d : Diagram) (ds : List Diagram) → IsValid S k d → AllValid S k ds
    → Does (Gives S (all_outputs (d ∷ ds))) 0 k (side_by_side d ds)
side_does S k d [] g h = give_does (λ n l. (keep S k n d l g, omega arith))
side_does S k d (x ∷ xs) g h =
    bind_does (side_does S k x xs h.0 h.1) (λ r n l q. par_does S (outputs d) (all_outputs (x ∷ xs)) n d r (keep S k n d l g, refl) q)

abbrev Any : {A : Type 0} → ℕ → A → Type 0
Any n x = Unit {0}

size_does : (k : ℕ) (z : ℤ) → Does (Any {A = ℕ}) 0 k (table_size z)
size_does k (pos zero) = refuse_does (TableForm cause.Size) tt
size_does k (pos (suc n)) = give_does (λ j l. tt)
size_does k (negsuc n) = refuse_does (TableForm cause.Size) tt

grown_stays : (n : ℕ) (s : State) (b : Bool) → ValidState s
    → Stays (Any {A = Unit}) 0 s (if b then Ok (tt, record s { tables = s.tables + n }) else Err (TableBudget (s.tables + n)))
grown_stays n s true h = (omega arith, omega arith, h, tt)
grown_stays n s false h = tt

grow_does : (k n : ℕ) → Does (Any {A = Unit}) 0 k (grow n)
grow_does k n = record { stays = λ s h b. grown_stays n s (nat_le (s.tables + n) TABLE_LIMIT) b }

pub waved_does : (S : ℕ → Type 0) (k : ℕ) (values : List ℤ) → Does (IsValid S) 0 k (waved values)
waved_does S k values = bind_does (grow_does k (length values)) (λ u n l q. give_does (λ m h.
    record { composed = tt; within = omega arith; free = λ s i. absurd i; reads = omega arith }))

table_does : (S : ℕ → Type 0) (k : ℕ) (T : List ℤ) (writes : Bool) (r : Diagram) → Gives S (table_inputs writes) k r
    → Does (IsValid S) 0 k (sized (Seq r (Table T writes)))
table_does S k T writes r g = by (nat_le (size (Seq r (Table T writes))) SIZE_LIMIT) refl
  where
    d : Diagram
    d = Seq r (Table T writes)

    free : (s : ℕ) → IsFree s r ⊎ ⊥ → S s
    free s (inl i) = g.0.free s i
    free s (inr i) = absurd i

    by : (t : Bool) → nat_le (size d) SIZE_LIMIT ≡ t → Does (IsValid S) 0 k (if t then give d else refuse (SizeBudget (size d)))
    by true e = give_does (λ n l. keep S k n d l
        (let q = g.0.reads in record {
          composed = (g.0.composed, tt, g.1);
          within = leb-true (size d) SIZE_LIMIT e;
          free = free;
          reads = omega arith;
        }))
    by false e = refuse_does (SizeBudget (size d)) tt

tabled_by_does : (S : ℕ → Type 0) (k : ℕ) (writes : Bool) (ds rs : List Diagram) → AllValid S k ds → AllValid S k rs
    → all_outputs rs ≡ table_inputs writes → Does (IsValid S) 0 k (tabled_by writes ds rs)
tabled_by_does S k writes [] rs g h e = refuse_does (TableForm cause.Head) tt
tabled_by_does S k writes (d ∷ ds) [] g h e = refuse_does (TableForm cause.Head) tt
tabled_by_does S k writes (d ∷ ds) (r ∷ rs) g h e =
    bind_does (side_does S k d ds g.0 g.1) (λ head n i p.
    bind_does (size_does n (argument (at_first head) 0)) (λ z m j q.
    bind_does (grow_does m (z * size head)) (λ u o v w.
    bind_does (side_does S o r rs (keep S k o r (omega arith) h.0) (keep_all S k o rs (omega arith) h.1)) (λ rest t x y.
    table_does S t (table_numbers z head) writes rest (y.0, y.1 ∙ e)))))

tabled_does : (S : ℕ → Type 0) (k : ℕ) (writes : Bool) (a : Diagram) → IsValid S k a → outputs a ≡ 2 + table_inputs writes
    → Does (IsValid S) 0 k (tabled writes a)
tabled_does S k writes a g e = by (is_head c.0) refl
  where
    c : List Diagram × List Diagram
    c = cut 2 (parts a)

    cuts : Cuts S k c
    cuts = cut_valid S k 2 (parts a) (parts_valid S k a g)

    by : (t : Bool) → is_head c.0 ≡ t → Does (IsValid S) 0 k (if t then tabled_by writes c.0 c.1 else refuse (TableForm cause.Head))
    by true i =
        let two = eqb-true (all_outputs c.0) 2 (and_parts (nat_eq (all_outputs c.0) 2) (list_all is_fixed c.0) i).0 in
        tabled_by_does S k writes c.0 c.1 cuts.head cuts.rest (omega (arith, two, cut_outputs 2 (parts a), parts_outputs a, e))
    by false i = refuse_does (TableForm cause.Head) tt

pub put_does : (S : ℕ → Type 0) (k : ℕ) (d : Diagram) → HasValidParts S k d → Does (IsValid S) 0 k (put d)
put_does S k (Seq a (Primitive prim.ReadTable)) g = by (misfit (Seq a (Primitive prim.ReadTable))) refl
  where
    by : (o : Option EvalRefusal) → misfit (Seq a (Primitive prim.ReadTable)) ≡ o
        → Does (IsValid S) 0 k (put_as (Some (a, false)) o (Seq a (Primitive prim.ReadTable)))
    by (Some r) e = refuse_does r (subst MayCause e (misfit_cause (Seq a (Primitive prim.ReadTable))))
    by None e = tabled_does S k false a g.0 (eqb-true (outputs a) 3 (unless_none (nat_eq (outputs a) 3) _ e))
put_does S k (Seq a (Primitive prim.WriteTable)) g = by (misfit (Seq a (Primitive prim.WriteTable))) refl
  where
    by : (o : Option EvalRefusal) → misfit (Seq a (Primitive prim.WriteTable)) ≡ o
        → Does (IsValid S) 0 k (put_as (Some (a, true)) o (Seq a (Primitive prim.WriteTable)))
    by (Some r) e = refuse_does r (subst MayCause e (misfit_cause (Seq a (Primitive prim.WriteTable))))
    by None e = tabled_does S k true a g.0 (eqb-true (outputs a) 5 (unless_none (nat_eq (outputs a) 5) _ e))
put_does S k d g = put_by S k d (misfit d) g refl

-- ---- leaves and folds
leaf_valid : (S : ℕ → Type 0) (k : ℕ) (d : Diagram) → IsComposed d → size d ≡ 1 → control_bound d ≡ 0 → ((s : ℕ) → IsFree s d → S s) → IsValid S k d
leaf_valid S k d w z c f = record { composed = w; within = omega arith; free = f; reads = omega arith }

pub prim_valid : (S : ℕ → Type 0) (k : ℕ) (p : Prim) → IsValid S k (Primitive p)
prim_valid S k p = leaf_valid S k (Primitive p) tt refl refl (λ s f. absurd f)

pub constant_valid : (S : ℕ → Type 0) (k : ℕ) (n : ℤ) → IsValid S k (Constant n)
constant_valid S k n = leaf_valid S k (Constant n) tt refl refl (λ s f. absurd f)

pub slot_valid : (S : ℕ → Type 0) (k slot : ℕ) → S slot → IsValid S k (Slot slot)
slot_valid S k slot h = leaf_valid S k (Slot slot) tt refl refl (λ s e. subst S (sym e) h)

flat_stays : (S : ℕ → Type 0) (c : ℕ) (s : State) (r : Outcome Diagram) → Stays (IsValid S) c s r → Stays (ValidValue S) c s (after r (λ d. give (Flat d)))
flat_stays S c s (Ok x) a = a
flat_stays S c s (Err r) a = a

pub flat_does : {S : ℕ → Type 0} {c k : ℕ} {m : Eval Diagram} → Does (IsValid S) c k m → Does (ValidValue S) c k (flat m)
flat_does {S} {c} {k} {m} a = record { stays = λ s h b. flat_stays S c s (m s) (a.stays s h b) }

pub operated_does : (S : ℕ → Type 0) (k : ℕ) (p : Prim) (a b : Diagram) → IsValid S k a → IsValid S k b → Does (IsValid S) 0 k (operated p a b)
operated_does S k p a b g h = bind_does (put_does S k (Par a b) (g, h)) (λ ab n i j. put_does S n (Seq ab (Primitive p)) (j, prim_valid S n p))

pub joined_does : (S : ℕ → Type 0) (k : ℕ) (o : Operator) (a b : Diagram) → IsValid S k a → IsValid S k b → Does (IsValid S) 0 k (joined o a b)
joined_does S k (operators.Infix p) a b g h = operated_does S k p a b g h
joined_does S k operators.Recursion a b g h = put_does S k (Rec a b) (g, h)
joined_does S k operators.Parallel a b g h = put_does S k (Par a b) (g, h)
joined_does S k operators.Sequence a b g h = put_does S k (Seq a b) (g, h)
joined_does S k operators.Split a b g h = put_does S k (Split a b) (g, h)
joined_does S k operators.Merge a b g h = put_does S k (Merge a b) (g, h)

-- two valid diagrams are valid parts of a composition
abbrev Composes : (ℕ → Type 0) → (Diagram → Diagram → Diagram) → Type 0
Composes S compose = (n : ℕ) (x y : Diagram) → IsValid S n x → IsValid S n y → HasValidParts S n (compose x y)

from_right_does : (S : ℕ → Type 0) (k : ℕ) (compose : Diagram → Diagram → Diagram) → Composes S compose → (d : Diagram) (ds : List Diagram)
    → IsValid S k d → AllValid S k ds → Does (IsValid S) 0 k (from_right compose d ds)
from_right_does S k compose parts d [] g h = give_does (λ n i. keep S k n d i g)
from_right_does S k compose parts d (x ∷ xs) g h =
    bind_does (from_right_does S k compose parts x xs h.0 h.1) (λ r n i j. put_does S n (compose d r) (parts n d r (keep S k n d i g) j))

from_left_does : (S : ℕ → Type 0) (k : ℕ) (p : Prim) (d : Diagram) (ds : List Diagram) → IsValid S k d → AllValid S k ds
    → Does (IsValid S) 0 k (from_left p d ds)
from_left_does S k p d [] g h = give_does (λ n i. keep S k n d i g)
from_left_does S k p d (x ∷ xs) g h = bind_does (operated_does S k p d x g h.0) (λ r n i j. from_left_does S n p r xs j (keep_all S k n xs i h.1))

pub gathered_does : (S : ℕ → Type 0) (k : ℕ) (r : Repetition) (ds : List Diagram) → AllValid S k ds → Does (ValidValue S) 0 k (gathered r ds)
gathered_does S k r [] g = refuse_does (IterationCount (pos 0)) tt
gathered_does S k repetitions.Parallel (d ∷ ds) g = flat_does (from_right_does S k Par (λ n x y i j. (i, j)) d ds g.0 g.1)
gathered_does S k repetitions.Sequence (d ∷ ds) g = flat_does (from_right_does S k Seq (λ n x y i j. (i, j)) d ds g.0 g.1)
gathered_does S k repetitions.Sum (d ∷ ds) g = flat_does (from_left_does S k (prim.Point op.Add) d ds g.0 g.1)
gathered_does S k repetitions.Product (d ∷ ds) g = flat_does (from_left_does S k (prim.Point op.Mul) d ds g.0 g.1)

wires_valid : (S : ℕ → Type 0) (k n : ℕ) → AllValid S k (wires n)
wires_valid S k zero = tt
wires_valid S k (suc n) = (prim_valid S k prim.Wire, wires_valid S k n)

led_does : (S : ℕ → Type 0) (k : ℕ) (d : Diagram) (ds : List Diagram) (f : Diagram) → IsValid S k d → AllValid S k ds → IsValid S k f
    → Does (IsValid S) 0 k (led d ds f)
led_does S k d ds f g h i =
    bind_does (from_right_does S k Par (λ n x y p q. (p, q)) d ds g h) (λ p n j q. put_does S n (Seq p f) (q, keep S k n f j i))

fed_by_does : (S : ℕ → Type 0) (k w : ℕ) (f d : Diagram) (ds : List Diagram) → IsValid S k f → IsValid S k d → AllValid S k ds
    → Does (IsValid S) 0 k (fed_by w f d ds)
fed_by_does S k w f d ds g h i =
    choice (nat_lt (inputs f) w) (refuse_does (TooManyArguments w (inputs f)) tt)
    (choice (takes_the_right f && nat_eq w 1) (led_does S k (Primitive prim.Wire) (d ∷ ds) f (prim_valid S k prim.Wire) (h, i) g)
    (led_does S k d (ds ++ wires (inputs f - w)) f h (all_append S k ds (wires (inputs f - w)) i (wires_valid S k (inputs f - w))) g))

pub fed_does : (S : ℕ → Type 0) (k : ℕ) (f : Diagram) (ds : List Diagram) → IsValid S k f → AllValid S k ds → Does (ValidValue S) 0 k (fed f ds)
fed_does S k f [] g h = give_does (λ n i. keep S k n f i g)
fed_does S k f (d ∷ ds) g h = flat_does (fed_by_does S k (all_outputs (d ∷ ds)) f d ds g h.0 h.1)
