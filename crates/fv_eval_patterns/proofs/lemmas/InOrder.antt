-- Patterns tried one after the other.
use Rattle.std.proofs.Common.{◌≡◌, ℕ, zero, suc, ◌+◌, ◌<◌, ◌≤◌, arith, Bool, true, false, List, [], ◌∷◌, length, map, drop, get_or, Option, Some}
use Rattle.std.proofs.Common.{None, refl, sym, ap, ap₂, subst, ◌∙◌, All, drop-cons, add-one}
use Rattle.std.specs.Prelude.{slice_get}
use Rattle.std.proofs.lemmas.Option.{none-some, slice_get_within, slice_get_read, get_or_from_slice_get, same_Some}
use Rattle.std.proofs.lemmas.List.{drop_all}
use Rattle.fv_diagram.specs.Arena.{Arena}
use Rattle.fv_diagram.specs.Composed.{IsComposed}
use Rattle.fv_parse.specs.Trees.{Parsed, tree_in}
use Rattle.fv_parse.specs.TreeId.{TreeId}
use Rattle.fv_eval_scopes.specs.declared.value.Value as code_value
use Rattle.fv_eval_scopes.specs.declared.value.Value.TheVariants as value
use Rattle.fv_eval_scopes.specs.declared.value.Binding as code_binding
use Rattle.fv_eval_scopes.specs.declared.memo.Known.{Known}
use Rattle.fv_rules.specs.headline.Values.{Value}
use Rattle.fv_rules.specs.headline.Matching.{Bindings, and_then, matched, all_matched}
use Rattle.fv_eval_scopes.specs.Shows.{World, ShowsValue, ShowsValues, ShowsBindings}
use Rattle.fv_eval_scopes.specs.Memo.{Remembers, AddsIntegers}
use Rattle.fv_eval_patterns.specs.Patterns.{IsValid, with_diagrams, ShowsMatched}
use Rattle.fv_eval_scopes.proofs.lemmas.Grown.{value_grows}
use Rattle.fv_eval_scopes.proofs.lemmas.Added.{adds_none, adds_on, adds_keeps, adds_longer}
use Rattle.fv_eval_patterns.proofs.lemmas.Matched.{adds_grow}

-- what an answer says of the pure one
pub said_yes : (w : World) (found : List code_binding.Binding) (o : Option Bindings) → ShowsMatched w true found o
    → (bs : Bindings) × (o ≡ Some bs) × ShowsBindings w found bs
said_yes w found (Some bs) h = (bs, refl, h)
said_yes w found None h = absurd h

pub said_no : (w : World) (found : List code_binding.Binding) (o : Option Bindings) → ShowsMatched w false found o → o ≡ None
said_no w found (Some bs) h = absurd h
said_no w found None h = refl

-- a value at a place, and none past the end
shown_at : (w : World) (us : List code_value.Value) (vs : List Value) (i : ℕ) (u : code_value.Value) → ShowsValues w us vs → slice_get us i ≡ Some u
    → (v : Value) × (drop i vs ≡ v ∷ drop (suc i) vs) × ShowsValue w u v
shown_at w us [] i u h e = absurd (none-some u (ap (λ xs. slice_get xs i) (sym h) ∙ e))
shown_at w us (v ∷ vs) zero u h e = (v, refl, subst (λ x. ShowsValue w x v) (same_Some h.0 u (ap (λ xs. slice_get xs 0) (sym h.2) ∙ e)) h.3)
shown_at w us (v ∷ vs) (suc i) u h e = shown_at w h.1 vs i u h.4 (ap (λ xs. slice_get xs (suc i)) (sym h.2) ∙ e)

shown_past : (w : World) (us : List code_value.Value) (vs : List Value) (i : ℕ) → ShowsValues w us vs → slice_get us i ≡ None → drop i vs ≡ []
shown_past w us [] zero h e = refl
shown_past w us [] (suc i) h e = refl
shown_past w us (v ∷ vs) zero h e = absurd (none-some h.0 (sym e ∙ ap (λ xs. slice_get xs 0) h.2))
shown_past w us (v ∷ vs) (suc i) h e = shown_past w h.1 vs i h.4 (ap (λ xs. slice_get xs (suc i)) (sym h.2) ∙ e)

-- a value stays valid
pub still_valid : (a b : Arena) (u : code_value.Value) → AddsIntegers a b → IsValid a u → IsValid b u
still_valid a b (value.Diagram i) g h =
    let l = adds_longer a b g in (omega (arith, h.0, l), subst IsComposed (sym (adds_keeps a b g i h.0)) h.1)
still_valid a b (value.Abstraction f n e) g h = tt
still_valid a b (value.Rules r e n i) g h = tt

pub all_valid : (a b : Arena) (us : List code_value.Value) → AddsIntegers a b → All (IsValid a) us → All (IsValid b) us
all_valid a b us g h k d l = still_valid a b (get_or us k d) g (h k d l)

pub valid_at : (a : Arena) (us : List code_value.Value) (i : ℕ) (u : code_value.Value) → All (IsValid a) us → slice_get us i ≡ Some u → IsValid a u
valid_at a us i u h e = subst (IsValid a) (get_or_from_slice_get us i u u e) (h i u (slice_get_within us i u e))

-- ---- patterns, one after the other

-- What matching i patterns one after the other leaves: the others, with the bindings so far, match as all of them do.
pub record MatchesOn (p : Parsed) (patterns : List TreeId) (arguments : List code_value.Value) (first now : Arena) (ks : List Known) (i : ℕ)
    (before after : List code_binding.Binding) : Type 0 where
  pub adds : AddsIntegers first now
  pub known : Remembers now ks
  pub meant : (w : World) (vs : List Value) (bs : Bindings) → w.tree ≡ p → w.diagrams ≡ first → ShowsValues w arguments vs → ShowsBindings w before bs
      → (cs : Bindings) × ShowsBindings (with_diagrams w now) after cs
      × (all_matched p.tokens (map (tree_in p) (drop i patterns)) (drop i vs) cs ≡ all_matched p.tokens (map (tree_in p) patterns) vs bs)

pub patterns_begin : (p : Parsed) (patterns : List TreeId) (arguments : List code_value.Value) (a : Arena) (ks : List Known)
    (before : List code_binding.Binding) → Remembers a ks → MatchesOn p patterns arguments a a ks 0 before before
patterns_begin p patterns arguments a ks before k = record {
  adds = adds_none a;
  known = k;
  meant = λ w vs bs e f h g. (bs, subst (λ c. ShowsBindings (with_diagrams w c) before bs) f g, refl);
}

-- what a pattern answers
abbrev pub AnswersTo : Parsed → TreeId → code_value.Value → Bool → Arena → Arena → (before after : List code_binding.Binding) → Type 0
AnswersTo p pattern u b a c before after =
    (w : World) (v : Value) (bs : Bindings) → w.tree ≡ p → w.diagrams ≡ a → ShowsValue w u v → ShowsBindings w before bs
    → ShowsMatched (with_diagrams w c) b after (matched p.tokens (tree_in p pattern) v bs)

-- what patterns answer together
abbrev pub AllAnswer : Parsed → List TreeId → List code_value.Value → Bool → Arena → Arena → (before after : List code_binding.Binding) → Type 0
AllAnswer p patterns arguments b a c before after =
    (w : World) (vs : List Value) (bs : Bindings) → w.tree ≡ p → w.diagrams ≡ a → ShowsValues w arguments vs → ShowsBindings w before bs
    → ShowsMatched (with_diagrams w c) b after (all_matched p.tokens (map (tree_in p) patterns) vs bs)

-- the next pattern and the next argument
pub record Next (patterns : List TreeId) (arguments : List code_value.Value) (i : ℕ) (x : TreeId) (u : code_value.Value) : Type 0 where
  pub inside : i < length patterns
  pub here : x ≡ get_or patterns i x
  pub got : slice_get arguments i ≡ Some u

pub next_of : {patterns : List TreeId} {arguments : List code_value.Value} {i : ℕ} {x : TreeId} {u : code_value.Value} → i < length patterns
    → x ≡ get_or patterns i x → i < length arguments → u ≡ get_or arguments i u → Next patterns arguments i x u
next_of {arguments = arguments} {i = i} {u = u} l here there is =
    record { inside = l; here = here; got = slice_get_read arguments (length arguments) i u refl there is }

-- the pattern and the argument were tried, with the bindings so far
pub record Tried (p : Parsed) (x : TreeId) (u : code_value.Value) (says : Bool) (b c : Arena) (between after : List code_binding.Binding) : Type 0 where
  pub adds : AddsIntegers b c
  pub answer : AnswersTo p x u says b c between after

pub tried_to : (p : Parsed) (x : TreeId) (u : code_value.Value) (says b : Bool) (a c : Arena) (between after : List code_binding.Binding) → b ≡ says
    → AddsIntegers a c → AnswersTo p x u b a c between after → Tried p x u says a c between after
tried_to p x u says b a c between after e adds answer =
    record { adds = adds; answer = subst (λ s. AnswersTo p x u s a c between after) e answer }

-- all patterns, where the others are the next one and those after it
next_pattern : (p : Parsed) {patterns : List TreeId} {arguments : List code_value.Value} {i : ℕ} {x : TreeId} {u : code_value.Value}
    → Next patterns arguments i x u → map (tree_in p) (drop i patterns) ≡ tree_in p x ∷ map (tree_in p) (drop (suc i) patterns)
next_pattern p {patterns} {i = i} {x = x} n =
    ap (map (tree_in p)) (drop-cons patterns i x n.inside) ∙ ap (λ y. tree_in p y ∷ map (tree_in p) (drop (suc i) patterns)) (sym n.here)

pub patterns_go_on : {p : Parsed} {patterns : List TreeId} {arguments : List code_value.Value} {a b c : Arena} {ks ls : List Known} {i : ℕ}
    {x : TreeId} {u : code_value.Value} {before between after : List code_binding.Binding} → MatchesOn p patterns arguments a b ks i before between
    → Next patterns arguments i x u → Tried p x u true b c between after → Remembers c ls → MatchesOn p patterns arguments a c ls (i + 1) before after
patterns_go_on {p} {patterns} {arguments} {a} {b} {c} {i = i} {x = x} {u = u} {after = after} m n test known = record {
  adds = adds_on a b c m.adds test.adds;
  known = known;
  meant = λ w vs bs e f h g.
      let old = m.meant w vs bs e f h g in
      let at = shown_at w arguments vs i u h n.got in
      let v : World = with_diagrams w b in
      let shown = value_grows w v (adds_grow w a b f m.adds) u at.0 at.2 in
      let yes = said_yes (with_diagrams w c) after (matched p.tokens (tree_in p x) at.0 old.0) (test.answer v at.0 old.0 e refl shown old.1) in (
        yes.0,
        yes.2,
        ap (λ k. all_matched p.tokens (map (tree_in p) (drop k patterns)) (drop k vs) yes.0) (add-one i)
            ∙ ap (λ o. and_then o (λ cs. all_matched p.tokens (map (tree_in p) (drop (suc i) patterns)) (drop (suc i) vs) cs)) (sym yes.1)
            ∙ ap₂ (λ ts us. all_matched p.tokens ts us old.0) (sym (next_pattern p n)) (sym at.1)
            ∙ old.2,
      );
}

pub patterns_refuse : {p : Parsed} {patterns : List TreeId} {arguments : List code_value.Value} {a b c : Arena} {ks : List Known} {i : ℕ}
    {x : TreeId} {u : code_value.Value} {before between after : List code_binding.Binding} → MatchesOn p patterns arguments a b ks i before between
    → Next patterns arguments i x u → Tried p x u false b c between after → AllAnswer p patterns arguments false a c before after
patterns_refuse {p} {patterns} {arguments} {a} {b} {c} {i = i} {x = x} {u = u} {after = after} m n test w vs bs e f h g =
    let old = m.meant w vs bs e f h g in
    let at = shown_at w arguments vs i u h n.got in
    let v : World = with_diagrams w b in
    let shown = value_grows w v (adds_grow w a b f m.adds) u at.0 at.2 in
    let no = said_no (with_diagrams w c) after (matched p.tokens (tree_in p x) at.0 old.0) (test.answer v at.0 old.0 e refl shown old.1) in
    let none : all_matched p.tokens (map (tree_in p) patterns) vs bs ≡ None =
    sym old.2 ∙ ap₂ (λ ts us. all_matched p.tokens ts us old.0) (next_pattern p n) at.1
    ∙ ap (λ o. and_then o (λ cs. all_matched p.tokens (map (tree_in p) (drop (suc i) patterns)) (drop (suc i) vs) cs)) no in
    subst (ShowsMatched (with_diagrams w c) false after) (sym none) tt

-- there are fewer arguments than patterns
pub patterns_stop : {p : Parsed} {patterns : List TreeId} {arguments : List code_value.Value} {a b : Arena} {ks : List Known} {i : ℕ}
    {before between : List code_binding.Binding} (x : TreeId) → MatchesOn p patterns arguments a b ks i before between → i < length patterns
    → slice_get arguments i ≡ None → AllAnswer p patterns arguments false a b before between
patterns_stop {p} {patterns} {arguments} {b = b} {i = i} {between = between} x m l none w vs bs e f h g =
    let old = m.meant w vs bs e f h g in
    let no : all_matched p.tokens (map (tree_in p) patterns) vs bs ≡ None =
    sym old.2
    ∙ ap₂ (λ ts us. all_matched p.tokens ts us old.0) (ap (map (tree_in p)) (drop-cons patterns i x l)) (shown_past w arguments vs i h none) in
    subst (ShowsMatched (with_diagrams w b) false between) (sym no) tt

pub patterns_end : {p : Parsed} {patterns : List TreeId} {arguments : List code_value.Value} {a b : Arena} {ks : List Known} {i : ℕ}
    {before after : List code_binding.Binding} → MatchesOn p patterns arguments a b ks i before after → length patterns ≤ i
    → AllAnswer p patterns arguments true a b before after
patterns_end {p} {patterns} {b = b} {i = i} {after = after} m l w vs bs e f h g =
    let old = m.meant w vs bs e f h g in
    subst (ShowsMatched (with_diagrams w b) true after)
    (ap (λ ts. all_matched p.tokens (map (tree_in p) ts) (drop i vs) old.0) (sym (drop_all i patterns l)) ∙ old.2) old.1
