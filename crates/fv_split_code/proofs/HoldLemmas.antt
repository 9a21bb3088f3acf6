-- Held values, one after another.
use Rattle.std.proofs.Common.{◌≡◌, ◌≢◌, ◌⊎◌, inl, inr, ℕ, zero, suc, ◌+◌, ◌<◌, ◌≤◌, List, [], ◌∷◌, ◌++◌, length, take, map, get_or, set, refl, sym, ap}
use Rattle.std.proofs.Common.{ap₂, ◌∙◌, subst, arith, ℤ, pos}
use Rattle.std.proofs.lemmas.List.{length_push, get_or_push, get_or_append_left, get_or-set_same, get_or-set_other, get_or_default, length-map, length-set}
use Rattle.std.proofs.lemmas.List.{map_push}
use Rattle.std.proofs.lemmas.List.Elements.{All-head, All-tail, All-take, All-push, All-map, All-get_or, All-nil}
use Rattle.std.proofs.lemmas.List.Elements.{Contains-append_left, Contains-push, Contains-push_cases}
use Rattle.std.proofs.lemmas.Bool.{cases_eq, cases_lt}
use Rattle.std.specs.Prelude.{All, Contains}
use Rattle.fv_num.specs.declared.op.Op.{Op}
use Rattle.fv_num.specs.headline.Words.{argument, apply_of, inputs_of}
use Rattle.fv_num.specs.headline.Frames.{Frame, Stream}
use Rattle.fv_num.specs.headline.Tables.{read_at}
use Rattle.fv_signal.specs.declared.signal.Signal.{Signal}
use Rattle.fv_signal.specs.declared.signal.Signal.TheVariants as signal
use Rattle.fv_signal.specs.declared.rate.Rate.{Rate}
use Rattle.fv_signal.specs.declared.rate.Rate.TheVariants as rate
use Rattle.fv_signal.specs.headline.Value.{Graph, table_of, value, signal_at, IsGraph, OperandsBelow, NamesWithin}
use Rattle.fv_signal.specs.headline.Rates.{faster, fastest, rate_in, rate_of, NamesControl}
use Rattle.fv_signal.proofs.lemmas.Rates.{rate_is}
use Rattle.fv_signal.proofs.lemmas.Values.{values_are_given}
use Rattle.fv_split_plan.specs.Reach.{at}
use Rattle.fv_loopcode.specs.declared.step.Step.{Step}
use Rattle.fv_loopcode.specs.declared.step.Step.TheVariants as step
use Rattle.fv_loopcode.specs.headline.State.{State, finds}
use Rattle.fv_loopcode.specs.headline.Code.{Pass, passed, stepped, opening, step_value, NamesHeld, NamesInput, IsStill}
use Rattle.fv_loopcode.specs.Code.{AreOrdered, IsWhole}
use Rattle.fv_loopcode.specs.Code.{OperandsBelow as StepOperandsBelow}
use Rattle.fv_analysis.specs.headline.Stands.{node, StandsAt}
use Rattle.fv_split_plan.proofs.lemmas.FitsLemmas.{map_take, map_map, map_get}
use Rattle.fv_split_code.proofs.ComputeLemmas.{some_inputs}
use Rattle.fv_split_plan.specs.headline.Plans.{tables_alone}
use Rattle.fv_split_code.specs.Held.{held_registers, ReadsWithin, HoldsUpTo, IsSteady, StepIs, HoldsNow, HoldsIf}

passed_push : (held input : ℕ → ℤ) (index : ℕ) (p : Pass) (xs : List Step) (x : Step) →
    passed held input index p (xs ++ x ∷ []) ≡ stepped held input index (passed held input index p xs) x
passed_push held input index p [] x = refl
passed_push held input index p (y ∷ ys) x = passed_push held input index (stepped held input index p y) ys x

length_passed : (held input : ℕ → ℤ) (index : ℕ) (p : Pass) (xs : List Step) → length (passed held input index p xs).numbers ≡ length p.numbers + length xs
length_passed held input index p [] = omega arith
length_passed held input index p (y ∷ ys) =
    let h = length_passed held input index (stepped held input index p y) ys in
    omega (arith, h, length_push p.numbers (step_value held input (finds p.state index) (argument p.numbers) y))

-- steps that load, append and write nothing leave the state as it is
still_state : (held input : ℕ → ℤ) (index : ℕ) (p : Pass) (x : Step) → IsStill x → (stepped held input index p x).state ≡ p.state
still_state held input index p (step.Load lane back max) h = absurd h
still_state held input index p (step.Append lane value) h = absurd h
still_state held input index p (step.Write cells args) h = absurd h
still_state held input index p _ h = refl

still_passed : (held input : ℕ → ℤ) (index : ℕ) (p : Pass) (xs : List Step) → All IsStill xs → (passed held input index p xs).state ≡ p.state
still_passed held input index p [] h = refl
still_passed held input index p (x ∷ xs) h =
    still_passed held input index (stepped held input index p x) xs (All-tail IsStill x xs h) ∙ still_state held input index p x (All-head IsStill x xs h)

registers_push : (tables : List (List ℤ)) (controls : ℕ → ℤ) (xs : List Step) (x : Step) → All IsStill xs →
    held_registers tables controls (xs ++ x ∷ [])
    ≡ held_registers tables controls xs
    ++ step_value controls (λ i. pos 0) (finds (tables_alone tables) 0) (argument (held_registers tables controls xs)) x ∷ []
registers_push tables controls xs x h =
    ap (λ p. p.numbers) (passed_push controls (λ i. pos 0) 0 (opening (tables_alone tables)) xs x)
    ∙ ap (λ (state : State). held_registers tables controls xs
    ++ step_value controls (λ i. pos 0) (finds state 0) (argument (held_registers tables controls xs)) x ∷ [])
    (still_passed controls (λ i. pos 0) 0 (opening (tables_alone tables)) xs h)

ordered_push : (xs : List Step) (x : Step) → AreOrdered xs → StepOperandsBelow (length xs) x → AreOrdered (xs ++ x ∷ [])
ordered_push xs x h b i d l = elim (cases_lt i (length xs)) [
  | inl m ↦ subst (StepOperandsBelow i) (sym (get_or_append_left xs (x ∷ []) d i m)) (h i d m)
  | inr m ↦
      let e : i ≡ length xs = omega (arith, length_push xs x) in
      subst (StepOperandsBelow i) (sym (get_or_push xs x d i (sym e))) (subst (λ n. StepOperandsBelow n x) (sym e) b)
]

-- ---- rates of operands

faster_held : (r q : Rate) → faster r q ≢ rate.Sample → (r ≢ rate.Sample) × (q ≢ rate.Sample)
faster_held rate.Constant q e = (λ h. cc, e)
faster_held rate.Control rate.Constant e = (λ h. cc, λ h. cc)
faster_held rate.Control rate.Control e = (λ h. cc, λ h. cc)
faster_held rate.Control rate.Sample e = absurd (e refl)
faster_held rate.Sample q e = absurd (e refl)

operands_held : (r : ℕ → Rate) (f h : ℕ → ℤ) (ws : List ℕ) → fastest (map r ws) ≢ rate.Sample → (i : ℕ) → All (λ w. w < i) ws →
    ((w : ℕ) → w < i → r w ≢ rate.Sample → f w ≡ h w) → map f ws ≡ map h ws
operands_held r f h [] e i b p = refl
operands_held r f h (w ∷ ws) e i b p =
    let q = faster_held (r w) (fastest (map r ws)) e in
    ap₂ (λ x y. x ∷ y) (p w (All-head (λ w. w < i) w ws b) q.0) (operands_held r f h ws q.1 i (All-tail (λ w. w < i) w ws b) p)

-- the number of a held value
abbrev held_number : Step → ℕ
held_number (step.Held k) = k
held_number _ = 0

-- a step that may stand among those of the held values
record MayHold (g : Graph) (n : ℕ) (x : Step) : Type 0 where
  names : (k : ℕ) → x ≡ step.Held k → NamesControl g k
  still : IsStill x
  inputs : (i : ℕ) → x ≢ step.Input i
  below : StepOperandsBelow n x
  reads : ReadsWithin g x

-- the rate of signal s is that of its node
rate_by : (g : Graph) → IsGraph g → (s : ℕ) → s < length g.signals → (n : Signal) → node g s ≡ n → rate_in (rate_of g) n ≡ rate.Sample →
    rate_of g s ≡ rate.Sample
rate_by g graph s l n e r = rate_is g graph.ordered s (signal.Const (pos 0)) l ∙ ap (rate_in (rate_of g)) e ∙ r

pub steady_node : (g : Graph) → IsGraph g → (s : ℕ) → s < length g.signals → (n : Signal) → node g s ≡ n → rate_of g s ≢ rate.Sample → IsSteady n
steady_node g graph s l (signal.Input i) e slow = slow (rate_by g graph s l (signal.Input i) e refl)
steady_node g graph s l (signal.Const n) e slow = tt
steady_node g graph s l (signal.Control k) e slow = tt
steady_node g graph s l (signal.Point op args) e slow = tt
steady_node g graph s l (signal.Delay d w max) e slow = slow (rate_by g graph s l (signal.Delay d w max) e refl)
steady_node g graph s l (signal.Back group i) e slow = slow (rate_by g graph s l (signal.Back group i) e refl)
steady_node g graph s l (signal.Member group i) e slow = slow (rate_by g graph s l (signal.Member group i) e refl)
steady_node g graph s l (signal.Read table r) e slow = tt
steady_node g graph s l (signal.Write table w y r) e slow = slow (rate_by g graph s l (signal.Write table w y r) e refl)

module _ (g : Graph) (graph : IsGraph g) (s : ℕ) (l : s < length g.signals) (numbers : List ℕ) (steps : List Step) (long : s < length numbers)
    (h : HoldsUpTo g s numbers steps) where
  -- a signal that is no held value
  holds_none : rate_of g s ≡ rate.Sample → HoldsUpTo g (suc s) numbers steps
  holds_none e = record {
    signals = h.signals;
    long = h.long;
    steady = h.steady;
    values = h.values;
    within = h.within;
    numbered = λ q m r. elim (cases_eq q s) [ inl z ↦ absurd (r (ap (rate_of g) z ∙ e)) | inr z ↦ h.numbered q (omega arith) r ];
    controls = h.controls;
    held_code = h.held_code;
    reads = h.reads;
    ordered = h.ordered;
  }

  -- the step's value, from the registers so far
  abbrev gives : (x : Step) → (controls : ℕ → ℤ) → ℤ
  gives x controls = step_value controls (λ i. pos 0) (finds (tables_alone g.tables) 0) (argument (held_registers g.tables controls steps)) x

  abbrev Gives : Step → Type 0
  Gives x =
      (X : List Frame) (c : ℕ → Stream) (t : ℕ) (controls : ℕ → ℤ) → ((k : ℕ) → NamesHeld steps k → controls k ≡ c k t) →
      ((k : ℕ) → x ≡ step.Held k → controls k ≡ c k t) →
      gives x controls ≡ value g s X c t

  -- one that is, whose step gives its value
  holds_more : (x : Step) →
      rate_of g s ≢ rate.Sample → Gives x → MayHold g (length steps) x → HoldsUpTo g (suc s) (set numbers s (length steps)) (steps ++ x ∷ [])
  holds_more x slow is may = record {
    signals = signals;
    long = omega (arith, length_push h.signals s, length_push steps x, h.long);
    steady = λ k m. elim (cases_lt k (length steps)) [
      | inl y ↦ λ e. h.steady k y (ap (rate_of g) (sym (first k y)) ∙ e)
      | inr y ↦ λ e. slow (ap (rate_of g) (sym (ap (at signals) (let z : k ≡ length steps = omega (arith, length_push steps x) in z) ∙ last)) ∙ e)
    ];
    values = λ X c t controls same.
        registers_push g.tables controls steps x h.held_code.still
        ∙ ap₂ (λ xs y. xs ++ y ∷ []) (h.values X c t controls (λ k n. same k (front k n)))
        (is X c t controls (λ k n. same k (front k n)) (λ k e. same k (subst (Contains (steps ++ x ∷ [])) e (Contains-push steps x))))
        ∙ sym (map_push (λ q. value g q X c t) h.signals s);
    within = λ q. elim (cases_eq q s) [
      | inl z ↦ let e : at new q ≡ length steps = ap (at new) z ∙ get_or-set_same numbers s (length steps) 0 long in omega (arith, e, length_push steps x)
      | inr z ↦
          let e : at new q ≡ at numbers q = get_or-set_other numbers s q (length steps) 0 z in
          let b = h.within q in
          omega (arith, e, b, length_push steps x)
    ];
    numbered = λ q m r. elim (cases_eq q s) [
      | inl z ↦
          let e : at new q ≡ length steps = ap (at new) z ∙ get_or-set_same numbers s (length steps) 0 long in
          (omega (arith, e, length_push steps x), ap (at signals) e ∙ last ∙ sym z)
      | inr z ↦
          let k = h.numbered q (omega arith) r in
          let e : at new q ≡ at numbers q = get_or-set_other numbers s q (length steps) 0 z in
          (omega (arith, e, k.0, length_push steps x), ap (at signals) e ∙ first (at numbers q) k.0 ∙ k.1)
    ];
    controls = λ k n. elim (Contains-push_cases steps x (step.Held k) n) [ inl y ↦ h.controls k y | inr y ↦ may.names k y ];
    held_code = record {
      still = All-push IsStill steps x h.held_code.still may.still;
      inputs = λ i n. elim (Contains-push_cases steps x (step.Input i) n) [ inl y ↦ h.held_code.inputs i y | inr y ↦ may.inputs i y ];
    };
    reads = All-push (ReadsWithin g) steps x h.reads may.reads;
    ordered = ordered_push steps x h.ordered may.below;
  }
    where
      signals : List ℕ
      signals = h.signals ++ s ∷ []

      new : List ℕ
      new = set numbers s (length steps)

      front : (k : ℕ) → NamesHeld steps k → NamesHeld (steps ++ x ∷ []) k
      front k n = Contains-append_left steps (x ∷ []) (step.Held k) n

      first : (k : ℕ) → k < length steps → at signals k ≡ at h.signals k
      first k m = get_or_append_left h.signals (s ∷ []) 0 k (omega (arith, h.long))

      last : at signals (length steps) ≡ s
      last = get_or_push h.signals s 0 (length steps) h.long

  node_value : (n : Signal) → node g s ≡ n → (X : List Frame) (c : ℕ → Stream) (t : ℕ) → value g s X c t ≡ signal_at g X c (λ r. value g r X c) n t
  node_value n e X c t = values_are_given g graph.ordered X c s (signal.Const (pos 0)) t l ∙ ap (λ y. signal_at g X c (λ r. value g r X c) y t) e

  -- the register of an earlier held value
  earlier : (X : List Frame) (c : ℕ → Stream) (t : ℕ) (controls : ℕ → ℤ) → ((k : ℕ) → NamesHeld steps k → controls k ≡ c k t) → (w : ℕ) → w < s →
      rate_of g w ≢ rate.Sample →
      argument (held_registers g.tables controls steps) (at numbers w) ≡ value g w X c t
  earlier X c t controls same w m r =
      let k = h.numbered w m r in
      ap (λ xs. argument xs (at numbers w)) (h.values X c t controls same) ∙ held_at (at numbers w) (omega (arith, k.0, h.long)) ∙ ap (λ q. value g q X c t) k.1
    where
      held_at : (i : ℕ) → i < length h.signals → argument (map (λ q. value g q X c t) h.signals) i ≡ value g (at h.signals i) X c t
      held_at i m =
          get_or_default (map (λ q. value g q X c t) h.signals) i (pos 0) (value g 0 X c t) (omega (arith, length-map h.signals (λ q. value g q X c t)))
          ∙ map_get (λ q. value g q X c t) h.signals i 0

  -- an operation whose operands are held values
  module _ (op : Op) (args : List ℕ) (e : node g s ≡ signal.Point op args) (slow : rate_of g s ≢ rate.Sample) where
    lower : All (λ a. a < s) args
    lower = subst (OperandsBelow g s) e (graph.ordered s (signal.Const (pos 0)) l)

    slow_operands : fastest (map (rate_of g) (take (inputs_of op) args)) ≢ rate.Sample
    slow_operands k = slow (rate_is g graph.ordered s (signal.Const (pos 0)) l ∙ ap (rate_in (rate_of g)) e ∙ k)

    -- there is a held value
    some : length args ≡ 4 → 0 < length steps
    some four =
        let w = (h.numbered (at args 0) (All-get_or (λ a. a < s) args 0 0 (omega (arith, four)) lower) (first args four)).0 in
        omega (arith, w)
      where
        head : (n : ℕ) (ws : List ℕ) → 1 ≤ n → length ws ≡ 4 → fastest (map (rate_of g) (take n ws)) ≢ rate.Sample → rate_of g (at ws 0) ≢ rate.Sample
        head zero ws a b k = absurd (omega arith)
        head (suc n) [] a b k = absurd (omega arith)
        head (suc n) (w ∷ ws) a b k = (faster_held (rate_of g w) (fastest (map (rate_of g) (take n ws))) k).0

        first : (ws : List ℕ) → length ws ≡ 4 → rate_of g (at args 0) ≢ rate.Sample
        first ws f = head (inputs_of op) args (some_inputs op) four slow_operands

    operands_there : length args ≡ 4 → All (λ a. a < length steps) (map (at numbers) args)
    operands_there four =
        All-map (λ a. a < length steps) (at numbers) args (λ k d m. let b = h.within (get_or args k d) in let z = some four in omega (arith, b, z))

    holds_point : length args ≡ 4 → HoldsUpTo g (suc s) (set numbers s (length steps)) (steps ++ step.Point op (map (at numbers) args) ∷ [])
    holds_point four = holds_more (step.Point op (map (at numbers) args)) slow (λ X c t controls same more.
        ap (apply_of op) (map_take (inputs_of op) (argument (held_registers g.tables controls steps)) (map (at numbers) args)
        ∙ ap (map (argument (held_registers g.tables controls steps))) (map_take (inputs_of op) (at numbers) args)
        ∙ map_map (argument (held_registers g.tables controls steps)) (at numbers) (take (inputs_of op) args)
        ∙ operands_held (rate_of g) (λ w. argument (held_registers g.tables controls steps) (at numbers w)) (λ w. value g w X c t)
        (take (inputs_of op) args) slow_operands s
        (All-take (λ a. a < s) (inputs_of op) args lower) (λ w m r. earlier X c t controls same w m r)
        ∙ sym (map_take (inputs_of op) (λ w. value g w X c t) args))
        ∙ sym (node_value (signal.Point op args) e X c t))
        (record { names = λ k n. absurd cc; still = tt; inputs = λ i n. cc; below = operands_there four; reads = tt })

  -- an item of a table whose index is a held value
  module _ (table w : ℕ) (e : node g s ≡ signal.Read table w) (slow : rate_of g s ≢ rate.Sample) where
    lower_index : w < s
    lower_index = subst (OperandsBelow g s) e (graph.ordered s (signal.Const (pos 0)) l)

    slow_index : rate_of g w ≢ rate.Sample
    slow_index k = slow (rate_is g graph.ordered s (signal.Const (pos 0)) l ∙ ap (rate_in (rate_of g)) e ∙ k)

    holds_read : HoldsUpTo g (suc s) (set numbers s (length steps)) (steps ++ step.Read table (at numbers w) ∷ [])
    holds_read = holds_more (step.Read table (at numbers w)) slow (λ X c t controls same more.
        ap (read_at (table_of g table)) (earlier X c t controls same w lower_index slow_index) ∙ sym (node_value (signal.Read table w) e X c t))
        (record {
          names = λ k n. absurd cc;
          still = tt;
          inputs = λ i n. cc;
          below = (h.numbered w lower_index slow_index).0;
          reads = subst (NamesWithin g) e (graph.closed s (signal.Const (pos 0)) l);
        })

  -- whatever held value it is
  abbrev Held : Step → Type 0
  Held x = HoldsUpTo g (suc s) (set numbers s (length steps)) (steps ++ x ∷ [])

  no_rate : (n : Signal) → node g s ≡ n → rate_in (rate_of g) n ≡ rate.Sample → rate_of g s ≡ rate.Sample
  no_rate n e r = rate_by g graph s l n e r

  holds_step : (n : Signal) (x : Step) → node g s ≡ n → rate_of g s ≢ rate.Sample → StepIs numbers n x → IsWhole x → Held x
  holds_step (signal.Input i) x e slow is whole = absurd (slow (no_rate (signal.Input i) e refl))
  holds_step (signal.Const n) x e slow is whole = subst Held (sym is)
      (holds_more (step.Number n) slow (λ X c t controls same more. sym (node_value (signal.Const n) e X c t)) (record {
        names = λ k n. absurd cc;
        still = tt;
        inputs = λ i n. cc;
        below = tt;
        reads = tt;
      }))
  holds_step (signal.Control k) x e slow is whole = subst Held (sym is)
      (holds_more (step.Held k) slow (λ X c t controls same more. more k refl ∙ sym (node_value (signal.Control k) e X c t))
      (record {
        names = λ m n. record { place = s; within = l; is = e ∙ ap signal.Control (ap held_number n) };
        still = tt;
        inputs = λ i n. cc;
        below = tt;
        reads = tt;
      }))
  holds_step (signal.Point op args) x e slow is whole = subst Held (sym is) (holds_point op args e slow (sym (length_numbers args) ∙ subst IsWhole is whole))
    where
      length_numbers : (ws : List ℕ) → length (map (at numbers) ws) ≡ length ws
      length_numbers [] = refl
      length_numbers (w ∷ ws) = let z = length_numbers ws in omega (arith, z)
  holds_step (signal.Delay d w max) x e slow is whole = absurd (slow (no_rate (signal.Delay d w max) e refl))
  holds_step (signal.Back group i) x e slow is whole = absurd (slow (no_rate (signal.Back group i) e refl))
  holds_step (signal.Member group i) x e slow is whole = absurd (slow (no_rate (signal.Member group i) e refl))
  holds_step (signal.Read table r) x e slow is whole = subst Held (sym is) (holds_read table r e slow)
  holds_step (signal.Write table w y r) x e slow is whole = absurd (slow (no_rate (signal.Write table w y r) e refl))

-- ---- one signal more

pub holds_begin : (g : Graph) (numbers : List ℕ) → ((q : ℕ) → at numbers q ≡ 0) → HoldsUpTo g 0 numbers []
holds_begin g numbers zeros = record {
  signals = [];
  long = refl;
  steady = λ k m. absurd (omega arith);
  values = λ X c t controls same. refl;
  within = λ q. let z = zeros q in omega (arith, z);
  numbered = λ q m r. absurd (omega arith);
  controls = λ k n. absurd (omega (arith, n.1));
  held_code = record { still = λ k d m. absurd (omega arith); inputs = λ i n. omega (arith, n.1) };
  reads = All-nil (ReadsWithin g);
  ordered = λ i d m. absurd (omega arith);
}

-- the numbers and the code hold the values below s
pub record AreHeld (g : Graph) (s : ℕ) (numbers : List ℕ) (steps : List Step) : Type 0 where
  pub long : length numbers ≡ length g.signals
  pub holds : HoldsUpTo g s numbers steps

pub holds_if : (g : Graph) → IsGraph g → (s : ℕ) (n : Signal) (r : Rate) (a : List ℕ) (b : List Step) (c : List ℕ) (d : List Step) → StandsAt g s n →
    r ≡ rate_of g s →
    HoldsIf s n r a b c d → AreHeld g s a b → AreHeld g (suc s) c d
holds_if g graph s n r a b c d at er k h = go r refl k
  where
    there : s < length a
    there = let z = at.within in let y = h.long in omega (arith, z, y)

    more : r ≢ rate.Sample → HoldsNow s n a b c d → AreHeld g (suc s) c d
    more slow k = record {
      long = ap length k.numbers ∙ length-set a s (length b) ∙ h.long;
      holds =
          subst (λ x. HoldsUpTo g (suc s) x d) (sym k.numbers) (subst (HoldsUpTo g (suc s) (set a s (length b))) (sym k.steps)
          (holds_step g graph s at.within a b there h.holds n k.step at.is (λ e. slow (er ∙ e)) k.is k.whole));
    }

    go : (q : Rate) → r ≡ q → HoldsIf s n q a b c d → AreHeld g (suc s) c d
    go rate.Sample e k = record {
      long = ap length k.0 ∙ h.long;
      holds = subst (λ x. HoldsUpTo g (suc s) x d) (sym k.0) (subst (HoldsUpTo g (suc s) a) (sym k.1) (holds_none g graph s at.within a b there h.holds
          (sym er ∙ e)));
    }
    go rate.Constant e k = more (λ z. let y = sym e ∙ z in cc) k
    go rate.Control e k = more (λ z. let y = sym e ∙ z in cc) k
