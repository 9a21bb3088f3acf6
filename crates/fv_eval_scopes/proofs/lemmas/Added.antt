-- Arenas that integers were added to.
use Rattle.std.proofs.Common.{◌≡◌, ℕ, ◌<◌, ◌≤◌, arith, List, [], ◌∷◌, ◌++◌, length, get_or}
use Rattle.std.proofs.Common.{refl, sym, ap, ap₂, subst, ◌∙◌, ℤ, pos, append_assoc, append-nil, length-append}
use Rattle.std.proofs.lemmas.List.Elements.{All-nil, All-append}
use Rattle.fv_base.proofs.lemmas.Arena.{trees_keep, length_trees}
use Rattle.fv_base.specs.Arena.{KeepsTrees, trees_from}
use Rattle.fv_diagram.specs.declared.node.Node.{Node}
use Rattle.fv_diagram.specs.headline.Diagram.{Diagram, Constant}
use Rattle.fv_diagram.specs.Arena.{Arena, count_of, tree_of, trees, tree_in as node_diagram}
use Rattle.fv_eval_scopes.specs.declared.memo.Known.{Known}
use Rattle.fv_eval_scopes.specs.declared.memo.Known.TheVariants as known
use Rattle.fv_diagram_numbers.specs.headline.Numbers.{number_of}
use Rattle.fv_eval_scopes.specs.Memo.{Remembers, IsKnown, IsInteger, AddsIntegers}

pub adds_none : (a : Arena) → AddsIntegers a a
adds_none a = record { more = []; nodes = sym (append-nil a.nodes); lists = refl; integers = All-nil IsInteger }

pub adds_on : (a b c : Arena) → AddsIntegers a b → AddsIntegers b c → AddsIntegers a c
adds_on a b c g h = record {
  more = g.more ++ h.more;
  nodes = h.nodes ∙ ap (λ ns. ns ++ h.more) g.nodes ∙ append_assoc a.nodes g.more h.more;
  lists = h.lists ∙ g.lists;
  integers = All-append IsInteger g.more h.more g.integers h.integers;
}

trees_more : (lists : List (List ℤ)) (ns ms : List Node) → KeepsTrees (Constant (pos 0)) (trees lists ns) (trees lists (ns ++ ms))
trees_more lists ns ms =
    subst (KeepsTrees (Constant (pos 0)) (trees lists ns)) (sym (split [] ns ms)) (trees_keep build (Constant (pos 0)) (trees lists ns) ms)
  where
    build : List Diagram → Node → Diagram
    build = node_diagram lists

    split : (ts : List Diagram) (ns ms : List Node) → trees_from build ts (ns ++ ms) ≡ trees_from build (trees_from build ts ns) ms
    split ts [] ms = refl
    split ts (n ∷ ns) ms = split (ts ++ build ts n ∷ []) ns ms

-- the trees that were there stay
pub adds_keeps : (a b : Arena) → AddsIntegers a b → (i : ℕ) → i < count_of a → tree_of b i ≡ tree_of a i
adds_keeps a b g i h =
    let l : i < length (trees a.lists a.nodes) = subst (λ n. i < n) (sym (length_trees (node_diagram a.lists) a.nodes)) h in
    ap₂ (λ ls ns. get_or (trees ls ns) i (Constant (pos 0))) g.lists g.nodes ∙ (trees_more a.lists a.nodes g.more).same i l

pub adds_longer : (a b : Arena) → AddsIntegers a b → count_of a ≤ count_of b
adds_longer a b g = let e = length-append a.nodes g.more in omega (arith, e, ap length g.nodes)

-- what is remembered stays
pub known_stays : (a b : Arena) (i : ℕ) (k : Known) → AddsIntegers a b → IsKnown a i k → IsKnown b i k
known_stays a b i known.Unasked g h = h
known_stays a b i known.Without g h = let l = adds_longer a b g in (omega (arith, h.0, l), ap number_of (adds_keeps a b g i h.0) ∙ h.1)
known_stays a b i (known.Number n) g h = let l = adds_longer a b g in (omega (arith, h.0, l), ap number_of (adds_keeps a b g i h.0) ∙ h.1)

pub still_remembers : (a b : Arena) (ks : List Known) → AddsIntegers a b → Remembers a ks → Remembers b ks
still_remembers a b ks g h i k e = known_stays a b i k g (h i k e)
