-- What a pattern binds does not hang on what was bound before.
use Rattle.std.proofs.Common.{◌≡◌, ◌<◌, Bool, true, false, cond, List, [], ◌∷◌, ◌++◌, Option, Some, None}
use Rattle.std.proofs.Common.{refl, sym, ap, subst, ◌∙◌, append_assoc, append-nil, arith, ℕ, drop, length}
use Rattle.fv_parse.specs.Token.{Lexed}
use Rattle.fv_diagram.specs.Words.{wrap}
use Rattle.std.specs.Prelude.{pos, neg_ℤ}
use Rattle.fv_diagram.specs.headline.Diagram.{Diagram}
use Rattle.fv_diagram.specs.Arena.{Arena, count_of, tree_of}
use Rattle.fv_parse.specs.Trees.{Parsed, tree_in}
use Rattle.fv_parse_grammar.specs.headline.Tree.{Tree}
use Rattle.fv_parse_grammar.specs.headline.Tree as tree
use Rattle.fv_rules.specs.headline.Values.{Value, Flat}
use Rattle.fv_rules.specs.headline.Matching.{Bindings, and_then, is_number, matched, value_number, value_parts}
use Rattle.fv_eval_scopes.specs.declared.value.Binding as code_binding
use Rattle.fv_eval_scopes.specs.declared.value.Value.TheVariants as value
use Rattle.fv_eval_scopes.specs.Shows.{World, ShowsBindings, ShowsValue}
use Rattle.fv_eval_scopes.specs.Memo.{AddsIntegers}
use Rattle.std.proofs.Math.Seq.{drop-append_seam}
use Rattle.std.specs.Bool.{MatchBool}
use Rattle.fv_eval_scopes.proofs.lemmas.Added.{adds_keeps, adds_longer, adds_on}
use Rattle.fv_eval_patterns.proofs.lemmas.LongPatterns.{binds_grow}
use Rattle.fv_eval_scopes.proofs.lemmas.Grown.{bindings_grow}
use Rattle.fv_eval_patterns.specs.declared.value_patterns.Pair.{Pair}
use Rattle.fv_eval_patterns.specs.Patterns.{IsPair, ShowsMatched, with_diagrams}
use Rattle.fv_eval_patterns.specs.Trials.{AddsBound, AreHalves, Binds, Misses}
use Rattle.fv_eval_patterns.proofs.lemmas.Matched.{adds_grow}

-- bindings before others
abbrev pub onto : Option Bindings → Bindings → Option Bindings
onto None bs = None
onto (Some cs) bs = Some (cs ++ bs)

number_onto : (b : Bool) (bs : Bindings) → cond b (Some bs) None ≡ onto (cond b (Some []) None) bs
number_onto true bs = refl
number_onto false bs = refl

onto_twice : (o : Option Bindings) (cs bs : Bindings) → onto o (cs ++ bs) ≡ onto (onto o cs) bs
onto_twice None cs bs = refl
onto_twice (Some ds) cs bs = ap (λ es. Some es) (sym (append_assoc ds cs bs))

both_onto : (o : Option Bindings) (f : Bindings → Option Bindings) (bs : Bindings) → ((cs : Bindings) → f cs ≡ onto (f []) cs)
    → and_then (onto o bs) f ≡ onto (and_then o f) bs
both_onto None f bs h = refl
both_onto (Some cs) f bs h = h (cs ++ bs) ∙ onto_twice (f []) cs bs ∙ ap (λ o. onto o bs) (sym (h cs))

parts_onto : (ps : Option (Diagram × Diagram)) (f g : Diagram → Bindings → Option Bindings) (bs : Bindings)
    → ((d : Diagram) (cs : Bindings) → f d cs ≡ onto (f d []) cs) → ((d : Diagram) (cs : Bindings) → g d cs ≡ onto (g d []) cs)
    → and_then ps (λ ab. and_then (f ab.0 bs) (λ cs. g ab.1 cs)) ≡ onto (and_then ps (λ ab. and_then (f ab.0 []) (λ cs. g ab.1 cs))) bs
parts_onto None f g bs h k = refl
parts_onto (Some ab) f g bs h k = ap (λ o. and_then o (λ cs. g ab.1 cs)) (h ab.0 bs) ∙ both_onto (f ab.0 []) (λ cs. g ab.1 cs) bs (k ab.1)

pub matched_onto : (l : Lexed) (x : Tree) (v : Value) (bs : Bindings) → matched l x v bs ≡ onto (matched l x v []) bs
matched_onto l (tree.Named s n) v bs = refl
matched_onto l (tree.Number s n) v bs = number_onto (is_number (wrap (pos n)) (value_number v)) bs
matched_onto l (tree.Negative s n) v bs = number_onto (is_number (wrap (neg_ℤ (pos n))) (value_number v)) bs
matched_onto l (tree.Binary s o p q) v bs =
    parts_onto (value_parts o v) (λ d cs. matched l p (Flat d) cs) (λ d cs. matched l q (Flat d) cs) bs
    (λ d cs. matched_onto l p (Flat d) cs) (λ d cs. matched_onto l q (Flat d) cs)
matched_onto l x v bs = refl

-- bindings of the code after others
pub shows_append : (w : World) (xs ys : List code_binding.Binding) (bs cs : Bindings) → ShowsBindings w xs bs → ShowsBindings w ys cs
    → ShowsBindings w (xs ++ ys) (cs ++ bs)
shows_append w xs ys bs [] h k = subst (λ zs. ShowsBindings w zs bs) (sym (ap (λ zs. xs ++ zs) k ∙ append-nil xs)) h
shows_append w xs ys bs (nv ∷ cs) h k =
    (xs ++ k.0, k.1, ap (λ zs. xs ++ zs) k.2 ∙ sym (append_assoc xs k.0 (k.1 ∷ [])), k.3, k.4, shows_append w xs k.0 bs cs h k.5)

-- ---- one pattern

-- a walk that began with nothing
pub walked : (p : Parsed) (old new : Arena) (x : Pair) (b : Bool) (none found : List code_binding.Binding) → none ≡ [] → b ≡ true → AddsIntegers old new
    → x.diagram < count_of old
    → ((w : World) (bs : Bindings) → w.tree ≡ p → w.diagrams ≡ old → ShowsBindings w none bs
    → ShowsMatched (with_diagrams w new) b found (matched p.tokens (tree_in p x.pattern) (Flat (tree_of old x.diagram)) bs))
    → Binds p new x found
walked p old new x b none found empty says adds there h w e f =
    let v : World = with_diagrams w old in
    let shown = subst (λ c. ShowsMatched (with_diagrams v new) c found (matched p.tokens (tree_in p x.pattern) (Flat (tree_of old x.diagram)) [])) says
    (h v [] e refl empty) in
    go (matched p.tokens (tree_in p x.pattern) (Flat (tree_of old x.diagram)) []) refl shown
  where
    go : (o : Option Bindings) → matched p.tokens (tree_in p x.pattern) (Flat (tree_of old x.diagram)) [] ≡ o
        → ShowsMatched (with_diagrams (with_diagrams w old) new) true found o
        → (bs : Bindings) × (matched p.tokens (tree_in p x.pattern) (Flat (tree_of new x.diagram)) [] ≡ Some bs) × ShowsBindings w found bs
    go None is s = absurd s
    go (Some bs) is s = (
      bs,
      ap (λ d. matched p.tokens (tree_in p x.pattern) (Flat d) []) (adds_keeps old new adds x.diagram there) ∙ is,
      subst (λ c. ShowsBindings (with_diagrams w c) found bs) (sym f) s,
    )

pub walked_to_none : (p : Parsed) (old new : Arena) (x : Pair) (b : Bool) (none found : List code_binding.Binding) → none ≡ [] → b ≡ false
    → ((w : World) (bs : Bindings) → w.tree ≡ p → w.diagrams ≡ old → ShowsBindings w none bs
    → ShowsMatched (with_diagrams w new) b found (matched p.tokens (tree_in p x.pattern) (Flat (tree_of old x.diagram)) bs))
    → matched p.tokens (tree_in p x.pattern) (Flat (tree_of old x.diagram)) [] ≡ None
walked_to_none p old new x b none found empty says h =
    let v : World = record { tree = p; diagrams = old; scopes = []; taken = [] } in
    go (matched p.tokens (tree_in p x.pattern) (Flat (tree_of old x.diagram)) [])
    (subst (λ c. ShowsMatched (with_diagrams v new) c found (matched p.tokens (tree_in p x.pattern) (Flat (tree_of old x.diagram)) [])) says
    (h v [] refl refl empty))
  where
    go : (o : Option Bindings) → ShowsMatched (record { tree = p; diagrams = new; scopes = []; taken = [] }) false found o → o ≡ None
    go None s = refl
    go (Some bs) s = absurd s

-- what a pattern answers of a value, with bindings so far
pub answers_value : (p : Parsed) (old new : Arena) (x : Pair) (before after : List code_binding.Binding) (b : Bool) → AddsIntegers old new
    → x.diagram < count_of old → MatchBool b (AddsBound p new x before after) (Misses p old x)
    → (w : World) (v : Value) (bs : Bindings) → w.tree ≡ p → w.diagrams ≡ old → ShowsValue w (value.Diagram x.diagram) v
    → ShowsBindings w before bs → ShowsMatched (with_diagrams w new) b after (matched p.tokens (tree_in p x.pattern) v bs)
answers_value p old new x before after true adds there h w (Flat d) bs e f k g =
    let z : World = with_diagrams w new in
    let one = h.binds z e refl in
    let same : tree_of new x.diagram ≡ d = adds_keeps old new adds x.diagram there ∙ ap (λ a. tree_of a x.diagram) (sym f) ∙ k.1 in
    let is : matched p.tokens (tree_in p x.pattern) (Flat d) bs ≡ Some (one.0 ++ bs) =
    matched_onto p.tokens (tree_in p x.pattern) (Flat d) bs
    ∙ ap (λ o. onto o bs) (ap (λ t. matched p.tokens (tree_in p x.pattern) (Flat t) []) (sym same) ∙ one.1) in
    subst (λ us. ShowsMatched z true us (matched p.tokens (tree_in p x.pattern) (Flat d) bs)) (sym h.is)
    (subst (ShowsMatched z true (before ++ h.found)) (sym is)
    (shows_append z before h.found bs one.0 (bindings_grow w z (adds_grow w old new f adds) before bs g) one.2))
answers_value p old new x before after false adds there h w (Flat d) bs e f k g =
    let same : tree_of old x.diagram ≡ d = ap (λ a. tree_of a x.diagram) (sym f) ∙ k.1 in
    let is : matched p.tokens (tree_in p x.pattern) (Flat d) bs ≡ None =
    matched_onto p.tokens (tree_in p x.pattern) (Flat d) bs
    ∙ ap (λ o. onto o bs) (ap (λ t. matched p.tokens (tree_in p x.pattern) (Flat t) []) (sym same) ∙ h) in
    subst (ShowsMatched (with_diagrams w new) false after) (sym is) tt
answers_value p old new x before after b adds there h w v bs e f k g = absurd k

-- ---- two parts

-- the same in an arena that has grown
pub binds_on : (p : Parsed) (a b : Arena) (x : Pair) (found : List code_binding.Binding) → AddsIntegers a b → x.diagram < count_of a → Binds p a x found
    → Binds p b x found
binds_on p a b x found g l h = binds_grow p a b (adds_longer a b g) (adds_keeps a b g) x found l h

-- both parts match, one after the other
pub both_bind : {p : Parsed} {old mid new : Arena} {x : Pair} {lr : Pair × Pair} {before between after : List code_binding.Binding}
    → AreHalves p old x lr → IsPair p old x → AddsIntegers old mid → AddsIntegers mid new → AddsBound p mid lr.0 before between
    → AddsBound p new lr.1 between after → AddsBound p new x before after
both_bind {p} {old} {mid} {new} {x} {lr} {before} {between} {after} halves pair g k first second = record {
  found = first.found ++ second.found;
  is = second.is ∙ ap (λ us. us ++ second.found) first.is ∙ append_assoc before first.found second.found;
  binds = λ w e f.
      let l = halves.first.diagram in
      let m = adds_longer old mid g in
      let one = binds_on p mid new lr.0 first.found k (omega (arith, l, m)) first.binds w e f in
      let two = second.binds w e f in
      let all = adds_on old mid new g k in (
        two.0 ++ one.0,
        ap (λ d. matched p.tokens (tree_in p x.pattern) (Flat d) []) (adds_keeps old new all x.diagram pair.diagram)
            ∙ halves.both []
            ∙ ap (λ o. and_then o (λ cs. matched p.tokens (tree_in p lr.1.pattern) (Flat (tree_of old lr.1.diagram)) cs))
            (ap (λ d. matched p.tokens (tree_in p lr.0.pattern) (Flat d) []) (sym (adds_keeps old new all lr.0.diagram halves.first.diagram)) ∙ one.1)
            ∙ matched_onto p.tokens (tree_in p lr.1.pattern) (Flat (tree_of old lr.1.diagram)) one.0
            ∙ ap (λ o. onto o one.0)
            (ap (λ d. matched p.tokens (tree_in p lr.1.pattern) (Flat d) []) (sym (adds_keeps old new all lr.1.diagram halves.second.diagram)) ∙ two.1),
        shows_append w first.found second.found one.0 two.0 one.2 two.2,
      );
}

-- the first part does not match
pub first_misses : (p : Parsed) (a : Arena) (x : Pair) (lr : Pair × Pair) → AreHalves p a x lr → Misses p a lr.0 → Misses p a x
first_misses p a x lr halves h =
    halves.both [] ∙ ap (λ o. and_then o (λ cs. matched p.tokens (tree_in p lr.1.pattern) (Flat (tree_of a lr.1.diagram)) cs)) h

-- the second part does not
pub second_misses : (p : Parsed) (a b : Arena) (x : Pair) (lr : Pair × Pair) → AreHalves p a x lr → AddsIntegers a b → Misses p b lr.1 → Misses p a x
second_misses p a b x lr halves g h =
    halves.both [] ∙ then_none (matched p.tokens (tree_in p lr.0.pattern) (Flat (tree_of a lr.0.diagram)) [])
    (λ cs. matched p.tokens (tree_in p lr.1.pattern) (Flat (tree_of a lr.1.diagram)) cs)
    (λ cs. matched_onto p.tokens (tree_in p lr.1.pattern) (Flat (tree_of a lr.1.diagram)) cs
    ∙ ap (λ o. onto o cs) (ap (λ d. matched p.tokens (tree_in p lr.1.pattern) (Flat d) []) (sym (adds_keeps a b g lr.1.diagram halves.second.diagram)) ∙ h))
  where
    then_none : {A B : Type 0} (o : Option A) (f : A → Option B) → ((y : A) → f y ≡ None) → and_then o f ≡ None
    then_none None f k = refl
    then_none (Some y) f k = k y

-- what was added after
pub bound_behind : {p : Parsed} {a : Arena} {x : Pair} {before after : List code_binding.Binding} (n : ℕ) → AddsBound p a x before after → n ≡ length before
    → Binds p a x (drop n after)
bound_behind {p} {a} {x} {before} {after} n h e =
    subst (Binds p a x) (sym (ap (λ k. drop k after) e ∙ ap (drop (length before)) h.is ∙ drop-append_seam before h.found)) h.binds
