-- What stands while tasks wait that find the value of a diagram.
use Rattle.std.proofs.Common.{◌≡◌, ℕ, ◌<◌, List, [], ◌∷◌, ◌++◌, length, reverse, get_or, sym, ap, ap₂, ◌∙◌, subst, arith, ℤ, Some}
use Rattle.std.proofs.lemmas.List.{reverse-append}
use Rattle.fv_num.specs.headline.Words.{argument}
use Rattle.fv_diagram.specs.headline.Diagram.{inputs, outputs}
use Rattle.fv_diagram.specs.Arena.{Arena, tree_of}
use Rattle.fv_diagram_numbers.specs.declared.timeless.Task.{Task}
use Rattle.fv_diagram_numbers.specs.headline.Numbers.{is_timeless, number_of}
use Rattle.fv_diagram_numbers.specs.inner.Timeless.{IsReady, Leads, are_timeless, given}
use Rattle.fv_diagram_numbers.proofs.FirstValues.{has_number}

-- The tasks can be done, and lead to the value of the diagram, where it is timeless.
pub record Waits (a : Arena) (ts : List Task) (ns : List ℤ) (root : ℕ) : Type 0 where
  pub ready : IsReady a ts ns
  pub leads : Leads a (length ns) ts (argument ns) (argument (given (tree_of a root) []) 0)
  pub same : are_timeless a ts ≡ is_timeless (tree_of a root)
  pub some : 0 < length ns

-- the next task is the last one
pub next_last : (ts us : List Task) (t : Task) → ts ≡ us ++ t ∷ [] → reverse ts ≡ t ∷ reverse us
next_last ts us t e = ap reverse e ∙ reverse-append us (t ∷ [])

-- two tasks that wait, and the third one
pub three_tasks : (first step same : Task) (rs ts us more : List Task) → rs ≡ first ∷ reverse ts → ts ≡ us ++ step ∷ [] → reverse us ≡ more
    → step ≡ same → rs ≡ first ∷ same ∷ more
three_tasks first step same rs ts us more last middle others e =
    last ∙ ap (λ vs. first ∷ vs) (next_last ts us step middle) ∙ ap₂ (λ s vs. first ∷ s ∷ vs) e others

pub ended : (a : Arena) (ts : List Task) (ns : List ℤ) (root : ℕ) → inputs (tree_of a root) ≡ 0 → outputs (tree_of a root) ≡ 1 → ts ≡ []
    → Waits a ts ns root → Some (argument ns 0) ≡ number_of (tree_of a root)
ended a ts ns root closed one e w =
    let v = subst (λ ts. Waits a ts ns root) e w in
    ap Some v.leads ∙ has_number (tree_of a root) (sym v.same) closed one

-- the number in place 0, where there is one
pub front : (xs : List ℤ) (d : ℤ) → 0 < length xs → d ≡ get_or xs 0 d → d ≡ argument xs 0
front [] d h e = absurd (omega arith)
front (x ∷ xs) d h e = e
