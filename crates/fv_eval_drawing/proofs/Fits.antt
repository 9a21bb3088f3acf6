-- A diagram that is there may be put again.
use Rattle.std.proofs.Common.{◌≡◌, ℕ, ◌≤◌, ◌<◌, ◌&&◌, ◌%◌, Bool, true, Ok, refl, ap, ap₂, subst, ◌∙◌}
use Rattle.std.specs.Prelude.{None, nat_eq, if◌then◌else◌}
use Rattle.std.proofs.lemmas.Bool.{le-leb, eq-eqb}
use Rattle.fv_rules.specs.ArityKind.TheVariants as kind
use Rattle.fv_diagram.specs.headline.Diagram.{Diagram, Primitive, Constant, Control, Slot, Wave, Table, Bind, Par, Seq, Split, Merge, Rec}
use Rattle.fv_diagram.specs.headline.Diagram.{inputs, outputs, size}
use Rattle.fv_diagram.specs.Composed.{IsComposed}
use Rattle.fv_diagram.specs.Arena.{Arena, count_of, tree_of}
use Rattle.fv_rules.specs.declared.refusal.EvalRefusal.TheVariants.{Arity, SizeBudget}
use Rattle.fv_rules.specs.headline.Steps.{State, give, is_multiple, misfit, or_else, put_after, refuse, unless}
use Rattle.fv_rules.specs.Puts.{Puts}
use Rattle.fv_base.specs.declared.limits.TheConstants.{SIZE_LIMIT}

multiple : (n m : ℕ) → 1 ≤ n → 1 ≤ m → n % m ≡ 0 → is_multiple n m ≡ true
multiple n m p q r =
    ap₂ (λ (a b : Bool). a && b && nat_eq (n % m) 0) (le-leb 1 n p) (le-leb 1 m q) ∙ eq-eqb (n % m) 0 r

-- the compositions of a diagram hold, so it is not refused
composed_fits : (d : Diagram) → IsComposed d → misfit d ≡ None
composed_fits (Primitive p) h = refl
composed_fits (Constant n) h = refl
composed_fits (Control k) h = refl
composed_fits (Slot s) h = refl
composed_fits (Wave w) h = refl
composed_fits (Table t writes) h = refl
composed_fits (Bind s a) h = refl
composed_fits (Par a b) h = refl
composed_fits (Seq a b) h = ap (λ (x : Bool). unless x (Arity kind.Seq (outputs a) (inputs b))) (eq-eqb (outputs a) (inputs b) h.2)
composed_fits (Split a b) h =
    ap (λ (x : Bool). unless x (Arity kind.Split (outputs a) (inputs b))) (multiple (inputs b) (outputs a) h.3 h.2 h.4)
composed_fits (Merge a b) h =
    ap (λ (x : Bool). unless x (Arity kind.Merge (outputs a) (inputs b))) (multiple (outputs a) (inputs b) h.2 h.3 h.4)
composed_fits (Rec a b) h =
    ap₂ (λ (x y : Bool). or_else (unless x (Arity kind.RecOut (outputs a) (inputs b))) (unless y (Arity kind.RecIn (inputs a) (outputs b))))
    (le-leb (inputs b) (outputs a) h.2) (le-leb (outputs b) (inputs a) h.3)

fits : (d : Diagram) (s : State) → IsComposed d → size d ≤ SIZE_LIMIT → put_after (misfit d) d s ≡ Ok (d, s)
fits d s h l =
    ap (λ o. put_after o d s) (composed_fits d h) ∙ ap (λ (x : Bool). (if x then give d else refuse (SizeBudget (size d))) s) (le-leb (size d) SIZE_LIMIT l)

-- the diagram of a node is there, and is put again as it is
pub puts_again : (a : Arena) (d : Diagram) (i : ℕ) → i < count_of a → tree_of a i ≡ d → IsComposed (tree_of a i) → size (tree_of a i) ≤ SIZE_LIMIT
    → Puts a d (Ok i)
puts_again a d i l e h m =
    (l, e, λ s. fits d s (subst IsComposed e h) (subst (λ (x : Diagram). size x ≤ SIZE_LIMIT) e m))
