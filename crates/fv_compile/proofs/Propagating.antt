-- Graphs side by side give what diagrams side by side give.
use Rattle.std.proofs.Common.{◌≡◌, inl, inr, ℕ, zero, suc, ◌+◌, ◌-◌, ◌<◌, ◌≤◌, List, [], ◌∷◌, length}
use Rattle.std.proofs.Common.{take, drop, get_or, All, refl, sym, ap, ap₂, ◌∙◌, subst, arith, ℤ, pos}
use Rattle.std.specs.Prelude.{FitsSigned, flat_map}
use Rattle.std.specs.Int.{w32}
use Rattle.std.specs.List.{sum_by}
use Rattle.std.proofs.lemmas.Bool.{cases_lt}
use Rattle.std.proofs.lemmas.Int.{ints}
use Rattle.std.proofs.lemmas.List.{get_or_past, length-map, length-drop, length-take, length-take-le}
use Rattle.std.proofs.lemmas.List.Concat.{get_or-flat_map, length-flat_map}
use Rattle.std.proofs.lemmas.List.Sums.{sum_by-cons, sum_by_more, sum_by_more_le}
use Rattle.fv_diagram.specs.Frames.{Frame, Stream, column, frame_at}
use Rattle.fv_propagate.specs.Interval.{Interval, full}
use Rattle.fv_propagate.specs.Value.{Graph, value}
use Rattle.fv_diagram.specs.headline.Diagram.{inputs, outputs}
use Rattle.fv_diagram.specs.headline.Streams.{run}
use Rattle.fv_diagram.proofs.lemmas.Each.{each_map}
use Rattle.fv_propagate.specs.Laws.{IsOf}
use Rattle.fv_propagate.specs.SpanHooks.{control_span}
use Rattle.fv_propagate.specs.headline.Propagated.{AreTaken}
use Rattle.fv_compile.specs.declared.job.Job.{Job}
use Rattle.fv_compile.specs.Jobs as jobs_have
use Rattle.fv_compile.specs.Joined.{IsJoined, output, part_controls}
use Rattle.fv_compile.specs.headline.Parts.{part_frames}
use Rattle.fv_compile.proofs.lemmas.Values.{part_column, part_frame}
use Rattle.fv_compile.specs.OfParts.{AreOfParts, IsOfPart, JoinedPropagates}
use Rattle.fv_compile.specs.headline.Parts.{Part, side_by_side}
use Rattle.fv_compile.specs.Parts.{controls_of, spans_of}
use Rattle.fv_compile.specs.headline.Parts.{inputs_of, outputs_of}
use Rattle.fv_compile.proofs.Beside.{Has, parts_answer}
use Rattle.fv_compile.proofs.Whole.{parts_are_whole}

-- ---- places

-- an item among the items of lists that stand one after another
record Place {A : Type 0} (f : A → ℕ) (xs : List A) (i : ℕ) : Type 0 where
  pub number : ℕ
  pub within : number < length xs
  pub item : ℕ
  pub less : (d : A) → item < f (get_or xs number d)
  pub is : i ≡ sum_by f (take number xs) + item

find_place : {A : Type 0} (f : A → ℕ) (xs : List A) (i : ℕ) → i < sum_by f xs → Place f xs i
find_place f [] i l = absurd (omega (arith, l))
find_place f (x ∷ xs) i l = elim (cases_lt i (f x)) [
  | inl a ↦ record { number = 0; within = omega arith; item = i; less = λ d. a; is = omega arith }
  | inr a ↦
      let p = find_place f xs (i - f x) (omega (arith, l, a, sum_by-cons f x xs)) in
      let w = p.within in
      let e = p.is in record {
        number = suc p.number;
        within = omega (arith, w);
        item = p.item;
        less = p.less;
        is = omega (arith, e, a, sum_by-cons f x (take p.number xs));
      }
]

-- lists whose items have the same numbers have the same sums
pub same_sums : {A B : Type 0} (f : A → ℕ) (g : B → ℕ) (xs : List A) (ys : List B) (x : A) (y : B) → length xs ≡ length ys
    → ((k : ℕ) → k < length xs → f (get_or xs k x) ≡ g (get_or ys k y)) → (k : ℕ) → k ≤ length xs → sum_by f (take k xs) ≡ sum_by g (take k ys)
same_sums f g xs ys x y l h zero m = refl
same_sums f g xs ys x y l h (suc k) m =
    let more : suc k ≡ k + 1 = omega arith in
    ap (λ n. sum_by f (take n xs)) more
    ∙ sum_by_more f xs k x (omega (arith, m))
    ∙ ap₂ (λ a b. a + b) (same_sums f g xs ys x y l h k (omega (arith, m))) (h k (omega (arith, m)))
    ∙ sym (sum_by_more g ys k y (omega (arith, m, l))) ∙ ap (λ n. sum_by g (take n ys)) (sym more)

-- ---- what a part takes

of_fits : (s : Interval) (z : ℤ) → IsOf s z → FitsSigned w32 z
of_fits s z h = omega (arith, ints, h.0.lo_fits, h.0.hi_fits, h.1.above, h.1.below)

full_of : (z : ℤ) → FitsSigned w32 z → IsOf full z
full_of z f = (
  record { ordered = omega (arith, ints); lo_fits = omega (arith, ints); hi_fits = omega (arith, ints) },
  record { above = omega (arith, ints); below = omega (arith, ints) },
)

zero_fits : FitsSigned w32 (pos 0)
zero_fits = omega (arith, ints)

-- a column that a part does not have is 0
column_past : (first n i t : ℕ) (X : List Frame) → n ≤ i → column (part_frames first n X) i t ≡ pos 0
column_past first n i t X l =
    ap (λ x. get_or x i (pos 0)) (part_frame first n t X)
    ∙ get_or_past (take n (drop first (frame_at X t))) i (pos 0) (omega (arith, l, length-take n (drop first (frame_at X t))))

module _ (ps : List Part) (X : List Frame) (c : ℕ → Stream) (taken : AreTaken (side_by_side 0 ps) (spans_of ps) X c) (k : ℕ) (p : Part) (l : k < length ps)
    (is : (d : Part) → get_or ps k d ≡ p) where
  abbrev first : List Part
  first = take k ps

  room : inputs_of first + inputs p.diagram ≤ inputs_of ps
  room = omega (arith, sum_by_more_le (λ (q : Part). inputs q.diagram) ps k p l, ap (λ (q : Part). inputs q.diagram) (is p))

  pub wide_all : All (Has (inputs_of ps)) X
  wide_all = let whole = parts_are_whole 0 ps in subst (λ n. All (Has n) X) whole.inputs taken.wide

  part_controls_fit : (i t : ℕ) → IsOf (control_span p.spans i) (part_controls (controls_of first) c i t)
  part_controls_fit i t = elim (cases_lt i (length p.spans)) [
    | inl m ↦
        let spans = λ (q : Part). q.spans in
        let before : length (flat_map spans first) ≡ controls_of first = length-flat_map spans first in
        let own : length (let q = get_or ps k p in q.spans) ≡ length p.spans = ap (λ (q : Part). length q.spans) (is p) in
        let same : control_span (spans_of ps) (controls_of first + i) ≡ control_span p.spans i =
        ap (λ n. get_or (spans_of ps) (n + i) full) (sym before) ∙ get_or-flat_map spans ps k i p full l (omega (arith, m, own))
        ∙ ap (λ (q : Part). get_or q.spans i full) (is p) in
        subst (λ s. IsOf s (c (controls_of first + i) t)) same (taken.controls (controls_of first + i) t)
    | inr m ↦
        let none : full ≡ control_span p.spans i = sym (get_or_past p.spans i full m) in
        let z = c (controls_of first + i) t in
        subst (λ s. IsOf s z) none (full_of z (of_fits (control_span (spans_of ps) (controls_of first + i)) z (taken.controls (controls_of first + i) t)))
  ]

  part_numbers_fit : (i t : ℕ) → FitsSigned w32 (column (part_frames (inputs_of first) (inputs p.diagram) X) i t)
  part_numbers_fit i t = elim (cases_lt i (inputs p.diagram)) [
    | inl m ↦ subst (FitsSigned w32) (sym (part_column (inputs_of first) (inputs p.diagram) i t X m)) (taken.small (inputs_of first + i) t)
    | inr m ↦ subst (FitsSigned w32) (sym (column_past (inputs_of first) (inputs p.diagram) i t X m)) zero_fits
  ]

  pub part_taken : AreTaken p.diagram p.spans (part_frames (inputs_of first) (inputs p.diagram) X) (part_controls (controls_of first) c)
  part_taken = record {
    wide = each_map (Has (inputs_of ps)) (Has (inputs p.diagram)) (λ x. take (inputs p.diagram) (drop (inputs_of first) x)) X
        (λ x w. length-take-le (inputs p.diagram) (drop (inputs_of first) x) (omega (arith, w, room, length-drop (inputs_of first) x))) wide_all;
    small = part_numbers_fit;
    controls = part_controls_fit;
  }

-- ---- all jobs

module _ (jobs : List Job) (ps : List Part) (f : Graph) (h : AreOfParts jobs ps) (joined : IsJoined jobs f) (X : List Frame) (c e : ℕ → Stream)
    (taken : AreTaken (side_by_side 0 ps) (spans_of ps) X c) where
  -- output i of job k
  at_job : (k i t : ℕ) (job : Job) (p : Part) → k < length jobs → ((d : Job) → get_or jobs k d ≡ job) → ((d : Part) → get_or ps k d ≡ p)
      → i < length job.graph.outputs → t < length X → value f (output f (jobs_have.outputs_of (take k jobs) + i)) X c t
      ≡ column (run (side_by_side 0 ps) c e X) (jobs_have.outputs_of (take k jobs) + i) t
  at_job k i t job p l is are m u =
      let long = h.long in
      let within : k < length ps = omega (arith, l, long) in
      let first = take k ps in
      let of : IsOfPart job p = subst (λ (j : Job). IsOfPart j p) (is job) (subst (λ q. IsOfPart (get_or jobs k job) q) (are p) (h.each k job p l)) in
      let all = λ (n : ℕ) (m : n < length jobs). h.each n job p m in
      let ins = same_sums (λ (j : Job). j.inputs) (λ (q : Part). inputs q.diagram) jobs ps job p long
      (λ n m. let a = h.each n job p m in a.inputs) k (omega (arith, l)) in
      let controls = same_sums (λ (j : Job). j.controls) (λ (q : Part). length q.spans) jobs ps job p long
      (λ n m. let a = h.each n job p m in a.controls) k (omega (arith, l)) in
      let outs = same_sums (λ (j : Job). length j.graph.outputs) (λ (q : Part). outputs q.diagram) jobs ps job p long
      (λ n m. let a = h.each n job p m in a.width) k (omega (arith, l)) in
      let Y = part_frames (inputs_of first) (inputs p.diagram) X in
      let d = part_controls (controls_of first) c in
      let given : value f (output f (jobs_have.outputs_of (take k jobs) + i)) X c t
      ≡ value job.graph (output job.graph i) (part_frames (jobs_have.inputs_of (take k jobs)) job.inputs X)
      (part_controls (jobs_have.controls_of (take k jobs)) c) t =
      subst (λ (j : Job). i < length j.graph.outputs → value f (output f (jobs_have.outputs_of (take k jobs) + i)) X c t
      ≡ value j.graph (output j.graph i) (part_frames (jobs_have.inputs_of (take k jobs)) j.inputs X)
      (part_controls (jobs_have.controls_of (take k jobs)) c) t) (is job) (λ o. joined.values k job l i o X c t) m in
      let moved : value job.graph (output job.graph i) (part_frames (jobs_have.inputs_of (take k jobs)) job.inputs X)
      (part_controls (jobs_have.controls_of (take k jobs)) c) t ≡ value job.graph (output job.graph i) Y d t =
      ap (λ n. value job.graph (output job.graph i) (part_frames n job.inputs X) (part_controls (jobs_have.controls_of (take k jobs)) c) t) ins
      ∙ ap₂ (λ w n. value job.graph (output job.graph i) (part_frames (inputs_of first) w X) (part_controls n c) t) of.inputs controls in
      let told : value job.graph (output job.graph i) Y d t ≡ column (run p.diagram d e Y) i t =
      of.propagates Y d e (part_taken ps X c taken k p within are) i t m
      (omega (arith, u, length-map X (λ x. take (inputs p.diagram) (drop (inputs_of first) x)))) in
      let answered : column (run (side_by_side 0 ps) c e X) (outputs_of first + i) t ≡ column (run p.diagram d e Y) i t =
      subst (λ (q : Part). i < outputs q.diagram → column (run (side_by_side 0 ps) c e X) (outputs_of first + i) t
      ≡ column (run q.diagram d e (part_frames (inputs_of first) (inputs q.diagram) X)) i t) (are p)
      (λ o. parts_answer ps c e X h.well (wide_all ps X c taken k p within are) k p within i t o u)
      (let w = of.width in omega (arith, m, w)) in
      given ∙ moved ∙ told ∙ sym answered ∙ ap (λ n. column (run (side_by_side 0 ps) c e X) (n + i) t) (sym outs)

pub joined_propagates : (f : Graph) → JoinedPropagates f
joined_propagates f jobs ps h joined X c e taken j t l u =
    let at = find_place (λ (job : Job). length job.graph.outputs) jobs j (let w = joined.width in omega (arith, l, w)) in
    go at (first_of jobs at.number at.within) (first_of ps at.number (let w = at.within in let m = h.long in omega (arith, w, m)))
  where
    -- the item at a place, whatever stands for one that is not there
    first_of : {A : Type 0} (xs : List A) (k : ℕ) → k < length xs → (x : A) × ((d : A) → get_or xs k d ≡ x)
    first_of [] k m = absurd (omega (arith, m))
    first_of (x ∷ xs) zero m = (x, λ d. refl)
    first_of (x ∷ xs) (suc k) m = first_of xs k (omega (arith, m))

    go : (at : Place (λ (job : Job). length job.graph.outputs) jobs j) → ((job : Job) × ((d : Job) → get_or jobs at.number d ≡ job))
        → ((p : Part) × ((d : Part) → get_or ps at.number d ≡ p)) → value f (output f j) X c t ≡ column (run (side_by_side 0 ps) c e X) j t
    go at job p =
        subst (λ i. value f (output f i) X c t ≡ column (run (side_by_side 0 ps) c e X) i t) (sym at.is)
        (at_job jobs ps f h joined X c e taken at.number at.item t job.0 p.0 at.within job.1 p.1
        (subst (λ (o : Job). at.item < length o.graph.outputs) (job.1 job.0) (at.less job.0)) u)
