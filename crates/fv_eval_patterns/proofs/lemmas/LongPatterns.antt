-- Long patterns that are tried without binding anything.
use Rattle.std.proofs.Common.{◌≡◌, ◌⊎◌, inl, inr, ◌+◌, ℕ, ℤ, zero, suc, ◌<◌, ◌≤◌, arith, Bool, true, false, List, [], ◌∷◌, ◌++◌}
use Rattle.std.proofs.Common.{map, reverse, take, drop, length, set, get_or, Option, Some, None, refl, sym, ap, subst, ◌∙◌}
use Rattle.std.specs.Prelude.{IfSome, slice_get, option_to_list}
use Rattle.std.specs.Bool.{MatchBool}
use Rattle.std.proofs.lemmas.List.{reverse-append, drop-append-le, take-append-le, take_all, length-append, length-drop}
use Rattle.std.proofs.lemmas.List.{length-set, get_or-set_same, get_or-set_other, get_or_append_left, get_or_push}
use Rattle.std.proofs.Math.Seq.{drop-append_seam}
use Rattle.std.proofs.lemmas.List.Sums.{sum_by_push}
use Rattle.std.proofs.lemmas.Option.{none-some, same_Some, slice_get_within, slice_get_read, get_or_from_slice_get}
use Rattle.std.proofs.lemmas.Bool.{false≢true, cases_eq, cases_lt}
use Rattle.fv_diagram.specs.declared.node.DiagramId.{DiagramId}
use Rattle.fv_diagram.specs.Arena.{Arena, count_of, tree_of}
use Rattle.fv_diagram.proofs.lemmas.Turns.{some_size}
use Rattle.fv_rules.specs.Numbers.{number_of}
use Rattle.fv_parse.specs.Trees.{Parsed, size_of, tree_in}
use Rattle.fv_parse_grammar.specs.declared.form.Operator.{Operator}
use Rattle.fv_parse.specs.TreeId.{TreeId}
use Rattle.fv_eval_scopes.specs.declared.value.Value as code_value
use Rattle.fv_eval_scopes.specs.declared.value.Value.TheVariants as value
use Rattle.fv_eval_patterns.specs.declared.value_patterns.Pair.{Pair}
use Rattle.fv_eval_scopes.specs.declared.memo.Known.{Known}
use Rattle.fv_eval_scopes.specs.declared.value.Binding.{Binding}
use Rattle.fv_eval_patterns.specs.declared.trials.Outcome.{Outcome}
use Rattle.fv_eval_patterns.specs.declared.trials.Outcome.TheVariants as outcomes
use Rattle.fv_eval_patterns.specs.declared.trials.Trial.{Trial}
use Rattle.fv_eval_patterns.specs.Remembered.{Remembered, nothing}
use Rattle.fv_eval_patterns.specs.declared.long_patterns.Task.{Task}
use Rattle.fv_eval_patterns.specs.declared.long_patterns.Task.TheVariants.{Try, Note}
use Rattle.fv_rules.specs.headline.Values.{Value, Flat}
use Rattle.fv_rules.specs.headline.Matching.{Bindings, and_then, is_number, parts_without, matched, all_matched}
use Rattle.fv_eval_scopes.specs.Shows.{World, ShowsBindings, ShowsValue, ShowsValues}
use Rattle.fv_eval_scopes.proofs.lemmas.Grown.{bindings_grow, diagrams_come}
use Rattle.fv_eval_scopes.specs.Memo.{Remembers, AddsIntegers}
use Rattle.fv_eval_patterns.specs.Patterns.{with_diagrams, matched_on, are_parts, ArePartsOf, IsPair, Refuses}
use Rattle.fv_eval_patterns.specs.Trials.{AllMiss, AllTold, Binds, Leads, Recalls, Says, Splits, Tells, may_match, outcome_of, weight, weights}
use Rattle.fv_eval_scopes.proofs.lemmas.Added.{adds_keeps, adds_longer}
use Rattle.fv_eval_patterns.proofs.Surveys.{survey_grow}
use Rattle.fv_eval_patterns.proofs.lemmas.Matched.{IsNumber, IsPaired, and_then_some, by_parts, number_refuses}

nothing_then : {A B : Type 0} (o : Option A) (f : A → Option B) → ((x : A) → f x ≡ None) → and_then o f ≡ None
nothing_then None f h = refl
nothing_then (Some x) f h = h x

-- a pair that is refused does not match
refused_alone : (p : Parsed) (a : Arena) (x : Pair) → Refuses p a x → (bs : Bindings) →
    matched p.tokens (tree_in p x.pattern) (Flat (tree_of a x.diagram)) bs ≡ None
refused_alone p a x h bs = sym (and_then_some (matched p.tokens (tree_in p x.pattern) (Flat (tree_of a x.diagram)) bs)) ∙ h [] bs

-- ---- what is remembered stays true

module _ (p : Parsed) (a b : Arena) (longer : count_of a ≤ count_of b) (same : (i : ℕ) → i < count_of a → tree_of b i ≡ tree_of a i) where
  says_grow : (may : Bool) (x : Pair) → Says p a may x → Says p b may x
  says_grow true x h = h
  says_grow false x h = (
    omega (arith, h.0, longer),
    λ rest bs. ap (λ d. matched_on p.tokens ((tree_in p x.pattern, d) ∷ rest) bs) (same x.diagram h.0) ∙ h.1 rest bs,
  )

  pub binds_grow : (x : Pair) (found : List Binding) → x.diagram < count_of a → Binds p a x found → Binds p b x found
  binds_grow x found l h w e f =
      let v : World = with_diagrams w a in
      let old = h v e refl in
      let grown : ShowsBindings (with_diagrams w b) found old.0 = bindings_grow v (with_diagrams v b) (diagrams_come v b longer same) found old.0 old.2 in (
        old.0,
        ap (λ d. matched p.tokens (tree_in p x.pattern) (Flat d) []) (same x.diagram l) ∙ old.1,
        subst (λ c. ShowsBindings (with_diagrams w c) found old.0) (sym f) grown,
      )

  tells_grow : (kept : List Binding) (o : Outcome) (x : Pair) → Tells p a kept o x → Tells p b kept o x
  tells_grow kept outcomes.Never x h = says_grow false x h
  tells_grow kept outcomes.Maybe x h = tt
  tells_grow kept (outcomes.Binds from count) x h =
      (omega (arith, h.0, longer), h.1, binds_grow x (take count (drop from kept)) h.0 h.2)

  -- where diagrams were added
  pub recalls_grow : (m : Remembered) → Recalls p a m → Recalls p b m
  recalls_grow m h = record {
    trials = λ i f e. tells_grow m.bindings f.outcome f.pair (h.trials i f e);
    survey = survey_grow p a b longer same m.survey h.survey;
  }

-- and where these were integers
pub recalls_still : (p : Parsed) (a b : Arena) (m : Remembered) → AddsIntegers a b → Recalls p a m → Recalls p b m
recalls_still p a b m g h = recalls_grow p a b (adds_longer a b g) (adds_keeps a b g) m h

-- what remembers nothing remembers nothing wrong
pub recalls_nothing : (p : Parsed) (a : Arena) → Recalls p a nothing
recalls_nothing p a = record {
  trials = λ i f e. absurd (none-some f e);
  survey = record { steps = λ i f e. absurd (none-some (Some f) e); diagrams = λ i r e. absurd (none-some (Some r) e) };
}

-- ---- one slot

-- what is told of a pair that may match
pub tells_may : (p : Parsed) (a : Arena) (kept : List Binding) (o : Outcome) (x : Pair) → Tells p a kept o x → Says p a (may_match o) x
tells_may p a kept outcomes.Never x h = h
tells_may p a kept outcomes.Maybe x h = tt
tells_may p a kept (outcomes.Binds from count) x h = tt

pub says_told : (p : Parsed) (a : Arena) (kept : List Binding) (may : Bool) (x : Pair) → Says p a may x → Tells p a kept (outcome_of may) x
says_told p a kept true x h = tt
says_told p a kept false x h = h

-- more bindings after
tells_more : (p : Parsed) (a : Arena) (kept more : List Binding) (o : Outcome) (x : Pair) → Tells p a kept o x → Tells p a (kept ++ more) o x
tells_more p a kept more outcomes.Never x h = h
tells_more p a kept more outcomes.Maybe x h = tt
tells_more p a kept more (outcomes.Binds from count) x h =
    let long = length-append kept more in
    let rest = length-drop from kept in
    let same : take count (drop from (kept ++ more)) ≡ take count (drop from kept) =
    ap (take count) (drop-append-le from kept more (omega (arith, h.1))) ∙ take-append-le count (drop from kept) more (omega (arith, h.1, rest)) in
    (h.0, omega (arith, h.1, long), subst (Binds p a x) (sym same) h.2)

pub told_more : (p : Parsed) (a : Arena) (ts : List Trial) (kept more : List Binding) → AllTold p a ts kept → AllTold p a ts (kept ++ more)
told_more p a ts kept more h i f e = tells_more p a kept more f.outcome f.pair (h i f e)

-- one slot
pub told_set : (p : Parsed) (a : Arena) (ts : List Trial) (kept : List Binding) (i : ℕ) (t : Trial) → i < length ts
    → AllTold p a ts kept → Tells p a kept t.outcome t.pair → AllTold p a (set ts i t) kept
told_set p a ts kept i t l h tells j f e = go (cases_eq j i)
  where
    within : j < length ts
    within = omega (arith, slice_get_within (set ts i t) j f e, length-set ts i t)

    at : f ≡ get_or (set ts i t) j f
    at = sym (get_or_from_slice_get (set ts i t) j f f e)

    go : (j ≡ i) ⊎ (j ≡ i → ⊥) → Tells p a kept f.outcome f.pair
    go (inl same) =
        let is : f ≡ t = at ∙ ap (λ k. get_or (set ts i t) k f) same ∙ get_or-set_same ts i t f l in
        subst (λ (g : Trial). Tells p a kept g.outcome g.pair) (sym is) tells
    go (inr apart) =
        h j f (slice_get_read ts (length ts) j f refl within (at ∙ get_or-set_other ts i j t f apart))

-- what was just kept
pub tells_kept : (p : Parsed) (a : Arena) (kept found : List Binding) (x : Pair) → x.diagram < count_of a → Binds p a x found
    → Tells p a (kept ++ found) (outcomes.Binds (length kept) (length found)) x
tells_kept p a kept found x l h =
    let long = length-append kept found in
    let same : take (length found) (drop (length kept) (kept ++ found)) ≡ found =
    ap (take (length found)) (drop-append_seam kept found) ∙ take_all (length found) found (omega arith) in
    (l, omega (arith, long), subst (Binds p a x) (sym same) h)

-- one slot more
pub told_push : (p : Parsed) (a : Arena) (ts us : List Trial) (kept : List Binding) (t : Trial) → us ≡ ts ++ t ∷ []
    → AllTold p a ts kept → Tells p a kept t.outcome t.pair → AllTold p a us kept
told_push p a ts us kept t pushed h tells i f e = go (cases_lt i (length ts))
  where
    got : slice_get (ts ++ t ∷ []) i ≡ Some f
    got = ap (λ xs. slice_get xs i) (sym pushed) ∙ e

    within : i < length ts + 1
    within = omega (arith, slice_get_within (ts ++ t ∷ []) i f got, length-append ts (t ∷ []))

    at : f ≡ get_or (ts ++ t ∷ []) i f
    at = sym (get_or_from_slice_get (ts ++ t ∷ []) i f f got)

    go : (i < length ts) ⊎ (length ts ≤ i) → Tells p a kept f.outcome f.pair
    go (inl l) = h i f (slice_get_read ts (length ts) i f refl l (at ∙ get_or_append_left ts (t ∷ []) f i l))
    go (inr g) =
        let is : f ≡ t = at ∙ get_or_push ts t f i (omega (arith, g, within)) in
        subst (λ (x : Trial). Tells p a kept x.outcome x.pair) (sym is) tells

-- what a slot tells
pub at_slot : (p : Parsed) (a : Arena) (m : Remembered) (ts : List Trial) (i : ℕ) (t : Trial) (x : Pair) → ts ≡ m.trials → i < length m.trials
    → t ≡ get_or ts i t → t.pair ≡ x → Recalls p a m → Tells p a m.bindings t.outcome x
at_slot p a m ts i t x view l here same h =
    subst (Tells p a m.bindings t.outcome) same
    (h.trials i t (slice_get_read m.trials (length m.trials) i t refl l (here ∙ ap (λ us. get_or us i t) view)))

pub if_some : {A : Type 0} (o : Option A) (P Q : A → Type 0) → ((x : A) → P x → Q x) → IfSome o P → IfSome o Q
if_some None P Q f h = h
if_some (Some x) P Q f h = f x h

-- ---- one pair

-- the parts of a pattern and of a diagram, and the tasks that they leave
pub record BothTried (p : Parsed) (a : Arena) (x : Pair) (o : Operator) (l r : ℕ) (ij : DiagramId × DiagramId) (old new : List Task) : Type 0 where
  pub whole : IsPair p a x
  pub is : IsPaired p x o l r
  pub left : l < size_of p
  pub right : r < size_of p
  pub parts : ArePartsOf a x.diagram ij
  pub composed : parts_without (number_of (tree_of a x.diagram)) o (tree_of a x.diagram) ≡ Some (are_parts a ij)
  pub pushed : new ≡ ((old ++ Note x ∷ []) ++ Try (record { pattern = r; diagram = ij.1 }) ∷ []) ++ Try (record { pattern = l; diagram = ij.0 }) ∷ []

-- a composition: its parts are tried, and then it is noted
pub parts_split : {p : Parsed} {a : Arena} {x : Pair} {o : Operator} {l r : ℕ} {ij : DiagramId × DiagramId} {old new : List Task}
    → BothTried p a x o l r ij old new → Splits p a x old new
parts_split {p} {a} {x} {o} {l} {r} {ij} {old} {new} both = record {
  lighter =
      let e = ap (weights a) both.pushed ∙ sum_by_push (weight a) (noted ++ Try right ∷ []) (Try left) in
      let e1 = sum_by_push (weight a) noted (Try right) in
      let e2 = sum_by_push (weight a) old (Note x) in
      let s = both.parts.sizes in
      omega (arith, e, e1, e2, s);
  leads = λ whole misses rest.
      subst (Leads p a whole) (sym turned) (
        record { pattern = both.left; diagram = omega (arith, both.parts.left, there); composed = both.parts.left_composed },
        (λ h. (((there, left_refuses h)), misses (left_refuses h))),
        (
          record { pattern = both.right; diagram = omega (arith, both.parts.right, there); composed = both.parts.right_composed },
          (λ h. (((there, right_refuses h)), misses (right_refuses h))),
          rest,
        ),
      );
}
  where
    left : Pair
    left = record { pattern = l; diagram = ij.0 }

    right : Pair
    right = record { pattern = r; diagram = ij.1 }

    noted : List Task
    noted = old ++ Note x ∷ []

    there : x.diagram < count_of a
    there = both.whole.diagram

    turned : reverse new ≡ Try left ∷ Try right ∷ Note x ∷ reverse old
    turned =
        ap reverse both.pushed ∙ reverse-append (noted ++ Try right ∷ []) (Try left ∷ [])
        ∙ ap (λ ts. Try left ∷ ts) (reverse-append noted (Try right ∷ []) ∙ ap (λ ts. Try right ∷ ts) (reverse-append old (Note x ∷ [])))

    left_refuses : Refuses p a left → Refuses p a x
    left_refuses h rest bs =
        by_parts p a x o l r (Some (are_parts a ij)) both.is both.composed rest bs
        ∙ ap (λ q. and_then (and_then q (λ cs. matched p.tokens (tree_in p r) (Flat (tree_of a ij.1)) cs)) (matched_on p.tokens rest))
        (refused_alone p a left h bs)

    right_refuses : Refuses p a right → Refuses p a x
    right_refuses h rest bs =
        by_parts p a x o l r (Some (are_parts a ij)) both.is both.composed rest bs
        ∙ ap (λ q. and_then q (matched_on p.tokens rest))
        (nothing_then (matched p.tokens (tree_in p l) (Flat (tree_of a ij.0)) bs) (λ cs. matched p.tokens (tree_in p r) (Flat (tree_of a ij.1)) cs)
        (refused_alone p a right h))

-- what leaves nothing
pub nothing_left : (p : Parsed) (a : Arena) (x : Pair) (ts : List Task) → Splits p a x ts ts
nothing_left p a x ts = record { lighter = let s = some_size (tree_of a x.diagram) in omega (arith, s); leads = λ whole h k. k }

-- what is remembered of a pair
pub said : (p : Parsed) (a : Arena) (x : Pair) (ts : List Task) (may : Bool) → Says p a may x → MatchBool may (Splits p a x ts ts) (Refuses p a x)
said p a x ts true h = nothing_left p a x ts
said p a x ts false h = h.1

-- a number
pub number_said : (p : Parsed) (a : Arena) (x : Pair) (ts : List Task) (k : ℤ) (b : Bool) → IsNumber p x k
    → b ≡ is_number k (number_of (tree_of a x.diagram)) → MatchBool b (Splits p a x ts ts) (Refuses p a x)
number_said p a x ts k true is e = nothing_left p a x ts
number_said p a x ts k false is e = number_refuses p a x k is (sym e)

-- ---- tasks, one after the other

-- What stays true while pairs are tried.
pub record Attempts (p : Parsed) (a : Arena) (ks : List Known) (m : Remembered) (whole : Pair) (ts : List Task) : Type 0 where
  pub known : Remembers a ks
  pub recalls : Recalls p a m
  pub leads : Leads p a whole (reverse ts)

pub attempts_begin : (p : Parsed) (a : Arena) (ks : List Known) (m : Remembered) (whole : Pair) (none ts : List Task) → Remembers a ks → Recalls p a m
    → IsPair p a whole → none ≡ [] → ts ≡ none ++ Try whole ∷ [] → Attempts p a ks m whole ts
attempts_begin p a ks m whole none ts known recalls is empty pushed = record {
  known = known;
  recalls = recalls;
  leads =
      subst (λ xs. Leads p a whole (reverse xs)) (sym (pushed ∙ ap (λ xs. xs ++ Try whole ∷ []) empty)) (is, (λ h. (is.diagram, h)), tt);
}

-- the last task is taken off
pub record TaskTaken (ts rest : List Task) (t : Task) : Type 0 where
  pub is : ts ≡ rest ++ t ∷ []

pub task_taken : {ts : List Task} {o : Option Task} {t : Task} (rest : List Task) → ts ≡ rest ++ option_to_list o → o ≡ Some t → TaskTaken ts rest t
task_taken rest e same = record { is = e ∙ ap (λ o. rest ++ option_to_list o) same }

pub leads_next : {p : Parsed} {a : Arena} {ks : List Known} {m : Remembered} {whole : Pair} {ts rest : List Task} {t : Task}
    → Attempts p a ks m whole ts → TaskTaken ts rest t → Leads p a whole (t ∷ reverse rest)
leads_next {p} {a} {whole = whole} {rest = rest} {t = t} h off = subst (Leads p a whole) (ap reverse off.is ∙ reverse-append rest (t ∷ [])) h.leads

-- a pair may match still
pub may_split : (p : Parsed) (a : Arena) (x : Pair) (old new : List Task) (b : Bool) → b ≡ true → MatchBool b (Splits p a x old new) (Refuses p a x)
    → Splits p a x old new
may_split p a x old new true e h = h
may_split p a x old new false e h = absurd (false≢true e)

pub attempts_go_on : {p : Parsed} {a : Arena} {ks : List Known} {m : Remembered} {whole x : Pair} {ts rest : List Task} (ls : List Known) (now : List Task)
    → Attempts p a ks m whole ts → TaskTaken ts rest (Try x) → Remembers a ls → Splits p a x rest now → Attempts p a ls m whole now
attempts_go_on {whole = whole} ls now h off known split =
    let next = leads_next h off in
    record { known = known; recalls = h.recalls; leads = split.leads whole next.1 next.2 }

-- a pair does not match
pub may_not : (p : Parsed) (a : Arena) (x : Pair) (old new : List Task) (b : Bool) → b ≡ false → MatchBool b (Splits p a x old new) (Refuses p a x)
    → Refuses p a x
may_not p a x old new false e h = h
may_not p a x old new true e h = absurd (false≢true (sym e))

pub whole_misses : (p : Parsed) (a : Arena) (whole : Pair) (ts : List Task) → AllMiss p a whole ts → Says p a false whole
whole_misses p a whole [] h = h
whole_misses p a whole (Try x ∷ ts) h = whole_misses p a whole ts h
whole_misses p a whole (Note x ∷ ts) h = whole_misses p a whole ts h.1

-- what is left to be noted, where the last task is taken off
pub miss_next : {ts rest : List Task} {t : Task} (p : Parsed) (a : Arena) (whole : Pair) → TaskTaken ts rest t → AllMiss p a whole (reverse ts)
    → AllMiss p a whole (t ∷ reverse rest)
miss_next {rest = rest} {t = t} p a whole off h = subst (AllMiss p a whole) (ap reverse off.is ∙ reverse-append rest (t ∷ [])) h

-- ---- all patterns of a rule

-- a pattern that does not match a diagram
value_misses : (p : Parsed) (w : World) (x : TreeId) (d : ℕ) (v : Value) → Refuses p w.diagrams (record { pattern = x; diagram = d })
    → ShowsValue w (value.Diagram d) v → (bs : Bindings) → matched p.tokens (tree_in p x) v bs ≡ None
value_misses p w x d (Flat e) miss h bs =
    ap (λ t. matched p.tokens (tree_in p x) (Flat t) bs) (sym h.1) ∙ refused_alone p w.diagrams (record { pattern = x; diagram = d }) miss bs
value_misses p w x d v miss h bs = absurd h

-- where one pattern does not match, they do not
pub patterns_miss : (p : Parsed) (w : World) (patterns : List TreeId) (us : List code_value.Value) (vs : List Value) (i : ℕ) (x : TreeId) (d : ℕ)
    → slice_get patterns i ≡ Some x → slice_get us i ≡ Some (value.Diagram d) → ShowsValues w us vs
    → Refuses p w.diagrams (record { pattern = x; diagram = d }) → (bs : Bindings) → all_matched p.tokens (map (tree_in p) patterns) vs bs ≡ None
patterns_miss p w [] us vs i x d got at shown miss bs = absurd (none-some x got)
patterns_miss p w (y ∷ ys) us [] i x d got at shown miss bs = refl
patterns_miss p w (y ∷ ys) us (v ∷ vs) zero x d got at shown miss bs =
    let here : shown.0 ≡ value.Diagram d = same_Some shown.0 (value.Diagram d) (ap (λ xs. slice_get xs 0) (sym shown.2) ∙ at) in
    ap (λ o. and_then o (λ cs. all_matched p.tokens (map (tree_in p) ys) vs cs))
    (ap (λ z. matched p.tokens (tree_in p z) v bs) (same_Some y x got)
    ∙ value_misses p w x d v miss (subst (λ u. ShowsValue w u v) here shown.3) bs)
patterns_miss p w (y ∷ ys) us (v ∷ vs) (suc i) x d got at shown miss bs =
    nothing_then (matched p.tokens (tree_in p y) v bs) (λ cs. all_matched p.tokens (map (tree_in p) ys) vs cs)
    (patterns_miss p w ys shown.1 vs i x d got (ap (λ xs. slice_get xs (suc i)) (sym shown.2) ∙ at) shown.4 miss)
