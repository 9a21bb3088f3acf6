-- When diagrams compose, and which condition fails where they do not.
use Rattle.std.specs.Prelude.{◌≡◌, ◌≢◌, ℕ, ◌%◌, ◌<◌, ◌≤◌}
use Rattle.fv_diagram.specs.headline.Diagram.{Diagram, Bind, Par, Seq, Split, Merge, Rec, inputs, outputs}
use Rattle.fv_diagram.specs.Composed.{IsComposed}
use Rattle.fv_arity.specs.declared.refusal.ArityKind.{ArityKind}
use Rattle.fv_arity.specs.declared.refusal.ArityKind.TheVariants as kind
use Rattle.fv_arity.specs.declared.refusal.ArityRefusal.{ArityRefusal}
use Rattle.fv_arity.specs.declared.refusal.ArityRefusal.TheVariants as refusal

-- n is a multiple of m, and neither is 0
abbrev pub IsMultiple : (n m : ℕ) → Type 0
IsMultiple n m = (1 ≤ n) × (1 ≤ m) × (n % m ≡ 0)

-- the condition of the outermost composition holds
abbrev pub Composes : Diagram → Type 0
Composes (Seq a b) = outputs a ≡ inputs b
Composes (Split a b) = IsMultiple (inputs b) (outputs a)
Composes (Merge a b) = IsMultiple (outputs a) (inputs b)
Composes (Rec a b) = (inputs b ≤ outputs a) × (outputs b ≤ inputs a)
Composes _ = Unit {0}

-- the parts of the outermost node are composed
abbrev pub HasComposedParts : Diagram → Type 0
HasComposedParts (Bind s a) = IsComposed a
HasComposedParts (Par a b) = IsComposed a × IsComposed b
HasComposedParts (Seq a b) = IsComposed a × IsComposed b
HasComposedParts (Split a b) = IsComposed a × IsComposed b
HasComposedParts (Merge a b) = IsComposed a × IsComposed b
HasComposedParts (Rec a b) = IsComposed a × IsComposed b
HasComposedParts _ = Unit {0}

-- the condition of this kind is that of the outermost composition, and fails at these numbers of streams
abbrev pub Fails : ArityKind → (left right : ℕ) → Diagram → Type 0
Fails kind.Seq left right (Seq a b) = (left ≡ outputs a) × (right ≡ inputs b) × (left ≢ right)
Fails kind.Split left right (Split a b) = (left ≡ outputs a) × (right ≡ inputs b) × (IsMultiple right left → ⊥)
Fails kind.Merge left right (Merge a b) = (left ≡ outputs a) × (right ≡ inputs b) × (IsMultiple left right → ⊥)
Fails kind.RecOut left right (Rec a b) = (left ≡ outputs a) × (right ≡ inputs b) × (left < right)
-- the outputs are looked at first
Fails kind.RecIn left right (Rec a b) = (left ≡ inputs a) × (right ≡ outputs b) × (inputs b ≤ outputs a) × (left < right)
Fails k left right d = ⊥

-- the refusal is that of the outermost composition
abbrev pub IsRefused : ArityRefusal → Diagram → Type 0
IsRefused (refusal.Arity k left right) d = Fails k left right d
