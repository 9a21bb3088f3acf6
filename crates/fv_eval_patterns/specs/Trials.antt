-- What is remembered of long patterns is true: which diagrams they do not match, and what they bind (this project's profile).
use Rattle.std.specs.Prelude.{◌≡◌, ℕ, ◌+◌, ◌*◌, ◌<◌, ◌≤◌, Bool, true, false, List, [], ◌∷◌, ◌++◌, drop, length, reverse, take, Some, None, slice_get}
use Rattle.std.specs.List.{sum_by}
use Rattle.fv_diagram.specs.headline.Diagram.{size}
use Rattle.fv_diagram.specs.Arena.{Arena, count_of, tree_of}
use Rattle.fv_parse.specs.Trees.{Parsed, tree_in}
use Rattle.fv_rules.specs.headline.Values.{Flat}
use Rattle.fv_rules.specs.headline.Matching.{Bindings, and_then, matched}
use Rattle.fv_eval_scopes.specs.declared.value.Binding.{Binding}
use Rattle.fv_eval_scopes.specs.Shows.{World, ShowsBindings}
use Rattle.fv_eval_patterns.specs.declared.value_patterns.Pair.{Pair}
use Rattle.fv_eval_patterns.specs.declared.trials.Outcome.{Outcome}
use Rattle.fv_eval_patterns.specs.declared.trials.Outcome.TheVariants.{Never, Maybe, Binds as Keeps}
use Rattle.fv_eval_patterns.specs.declared.trials.Trial.{Trial}
use Rattle.fv_eval_patterns.specs.Remembered.{Remembered}
use Rattle.fv_eval_patterns.specs.Shapes.{IsSurvey}
use Rattle.fv_eval_patterns.specs.declared.long_patterns.Task.{Task}
use Rattle.fv_eval_patterns.specs.declared.long_patterns.Task.TheVariants.{Try, Note}
use Rattle.fv_eval_patterns.specs.Patterns.{IsPair, Refuses}

-- whether a pattern may match a diagram: where that is denied, it does not
abbrev pub Says : Parsed → Arena → Bool → Pair → Type 0
Says p a true x = Unit {0}
Says p a false x = (x.diagram < count_of a) × Refuses p a x

-- In each world over a text and an arena a pattern matches a diagram, and this is what it binds.
abbrev pub Binds : Parsed → Arena → Pair → List Binding → Type 0
Binds p a x found =
    (w : World) → w.tree ≡ p → w.diagrams ≡ a
    → (bs : Bindings) × (matched p.tokens (tree_in p x.pattern) (Flat (tree_of a x.diagram)) [] ≡ Some bs) × ShowsBindings w found bs

-- a pattern does not match a diagram
abbrev pub Misses : Parsed → Arena → Pair → Type 0
Misses p a x = matched p.tokens (tree_in p x.pattern) (Flat (tree_of a x.diagram)) [] ≡ None

-- what a pattern binds stands after the bindings so far
pub record AddsBound (p : Parsed) (a : Arena) (x : Pair) (before after : List Binding) : Type 0 where
  pub found : List Binding
  pub is : after ≡ before ++ found
  pub binds : Binds p a x found

-- a pattern matches a diagram where its first part matches the first part, and the second one then the second
pub record AreHalves (p : Parsed) (a : Arena) (x : Pair) (lr : Pair × Pair) : Type 0 where
  pub first : IsPair p a lr.0
  pub second : IsPair p a lr.1
  pub both : (bs : Bindings) → matched p.tokens (tree_in p x.pattern) (Flat (tree_of a x.diagram)) bs
      ≡ and_then (matched p.tokens (tree_in p lr.0.pattern) (Flat (tree_of a lr.0.diagram)) bs)
      (λ cs. matched p.tokens (tree_in p lr.1.pattern) (Flat (tree_of a lr.1.diagram)) cs)

-- it may match
abbrev pub may_match : Outcome → Bool
may_match Never = false
may_match o = true

abbrev pub outcome_of : Bool → Outcome
outcome_of true = Maybe
outcome_of false = Never

-- what is known of a pair is true
abbrev pub Tells : Parsed → Arena → List Binding → Outcome → Pair → Type 0
Tells p a kept Never x = Says p a false x
Tells p a kept Maybe x = Unit {0}
Tells p a kept (Keeps from count) x = (x.diagram < count_of a) × (from + count ≤ length kept) × Binds p a x (take count (drop from kept))

-- what trials tell of their pairs is true
abbrev pub AllTold : Parsed → Arena → List Trial → List Binding → Type 0
AllTold p a ts kept = (i : ℕ) (f : Trial) → slice_get ts i ≡ Some f → Tells p a kept f.outcome f.pair

-- What is remembered is true of a text and an arena.
pub record Recalls (p : Parsed) (a : Arena) (m : Remembered) : Type 0 where
  pub trials : AllTold p a m.trials m.bindings
  pub survey : IsSurvey p a m.survey

-- the whole does not match, and neither does any pair that is to be noted
abbrev pub AllMiss : Parsed → Arena → Pair → List Task → Type 0
AllMiss p a whole [] = Says p a false whole
AllMiss p a whole (Try x ∷ ts) = AllMiss p a whole ts
AllMiss p a whole (Note x ∷ ts) = Says p a false x × AllMiss p a whole ts

-- Where a pair that is to be tried does not match, neither does the whole, nor what is to be noted after it.
abbrev pub Leads : Parsed → Arena → Pair → List Task → Type 0
Leads p a whole [] = Unit {0}
Leads p a whole (Try x ∷ ts) = IsPair p a x × (Refuses p a x → AllMiss p a whole ts) × Leads p a whole ts
Leads p a whole (Note x ∷ ts) = Leads p a whole ts

-- how much is left to do at most
abbrev pub weight : Arena → Task → ℕ
weight a (Try x) = 2 * size (tree_of a x.diagram)
weight a (Note x) = 1

abbrev pub weights : Arena → List Task → ℕ
weights a ts = sum_by (weight a) ts

-- A pair was tried, and what it leaves to be done, the last task first, is less, and leads to the whole as it did.
pub record Splits (p : Parsed) (a : Arena) (x : Pair) (old new : List Task) : Type 0 where
  pub lighter : weights a new < weights a old + weight a (Try x)
  pub leads : (whole : Pair) → (Refuses p a x → AllMiss p a whole (reverse old)) → Leads p a whole (reverse old)
      → Leads p a whole (reverse new)
