-- Members that are named, signal by signal.
use Rattle.std.proofs.Common.{◌≡◌, ℕ, ◌+◌, ◌<◌, ◌≤◌, List, length, get_or, sym, ap, ◌∙◌, subst, arith, inl, inr, Bool}
use Rattle.std.proofs.lemmas.Bool.{cases_lt}
use Rattle.fv_signal.specs.declared.signal.Signal.TheVariants.{Back}
use Rattle.fv_signal.specs.headline.Value.{Graph, members}
use Rattle.fv_simplify.specs.Nodes.{node}
use Rattle.fv_simplify.specs.Rebuilt.{IsMarked}
use Rattle.fv_simplify.specs.Runs.{AreNamed}

pub named_more : (g : Graph) (marks : List Bool) (old new : List ℕ) (n : ℕ) → AreNamed g marks old n → ((k : ℕ) → get_or old k 0 ≤ get_or new k 0) →
    (IsMarked marks n → (group k : ℕ) → node g n ≡ Back group k → (group < length g.groups) × (k < get_or new group 0) × (k < length (members g group))) →
    AreNamed g marks new (n + 1)
named_more g marks old new n h more here s group k l m e = elim (cases_lt s n) [
  | inl b ↦ let o = h s group k b m e in let w = o.1 in let u = more group in (o.0, omega (arith, w, u), o.2)
  | inr b ↦ let at : s ≡ n = omega (arith, b, l) in here (subst (IsMarked marks) at m) group k (sym (ap (node g) at) ∙ e)
]
