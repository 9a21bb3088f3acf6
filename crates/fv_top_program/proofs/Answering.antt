-- Each job answers, beside the others, what its program answers alone.
use Rattle.std.proofs.Common.{◌≡◌, ℕ, zero, suc, ◌+◌, ◌<◌, Bool, true, false, List, [], ◌∷◌, ◌++◌, length, map, take, drop, get_or, All, Ok, Err, Some, None}
use Rattle.std.proofs.Common.{refl, sym, ap, ap₂, ◌∙◌, subst, arith, ℤ}
use Rattle.std.specs.Prelude.{Option, Result, flat_map, if◌then◌else◌, nat_le, nat_lt, ◌==◌}
use Rattle.std.specs.List.{sum_by}
use Rattle.std.proofs.Math.Seq.{drop-append-add, take-append_seam}
use Rattle.std.proofs.lemmas.List.{get_or-map, length-map, map-append, take-map}
use Rattle.std.proofs.lemmas.List.Elements.{All-map}
use Rattle.std.proofs.lemmas.List.Sums.{sum_by-cons}
use Rattle.fv_diagram.specs.Frames.{Frame, column}
use Rattle.fv_diagram.specs.declared.control.ControlInfo.{ControlInfo}
use Rattle.fv_diagram.specs.headline.Diagram.{Diagram, inputs, outputs}
use Rattle.fv_diagram.specs.Diagram.{IsWellFormed}
use Rattle.fv_diagram.specs.Laws.{AnswersAlike}
use Rattle.fv_diagram.specs.headline.Samples.{no_slots}
use Rattle.fv_diagram.specs.headline.Streams.{run}
use Rattle.fv_jobs.specs.Streams.{control_streams}
use Rattle.fv_interval.specs.headline.Controls.{spans_of, span_of}
use Rattle.fv_compile.specs.Joined.{part_controls}
use Rattle.fv_jobs.specs.Changes.{JobsHear}
use Rattle.fv_jobs.specs.headline.Changes.{changes_of, controls_before}
use Rattle.fv_jobs.specs.headline.Labels.{controls_from, labelled}
use Rattle.fv_compile.specs.headline.Parts.{Part, inputs_of, part_frames}
use Rattle.fv_compile.specs.Parts.{PartsAnswer, PartsAreWhole, controls_of}
use Rattle.fv_rules.specs.Runnable.{EvaluatesToRunnables, IsRunnable}
use Rattle.fv_rules.specs.headline.Rules.{program_value}
use Rattle.fv_top_report.specs.declared.refusal.Refusal.{Refusal}
use Rattle.fv_top_report.specs.declared.refusal.Refusal.TheVariants as no
use Rattle.fv_top_report.specs.headline.Layers.{of_value}
use Rattle.fv_top_program.specs.headline.Answers.{Turned}
use Rattle.fv_top_program.specs.headline.Compiled.{Compiled}
use Rattle.fv_top_program.specs.headline.Program.{TextIs, valued}
use Rattle.fv_top_program.specs.inner.Layers.{WidthIs, ValueIs, SpellingIs, Delayed, Narrow, Evaluates}
use Rattle.fv_top_program.specs.Program.{IsOneText}
use Rattle.fv_top_program.specs.headline.Program.{delay_in, delayed, delays_in, first_bad, narrow}
use Rattle.fv_top_program.proofs.lemmas.AnswerLaws.{kept_is}
use Rattle.fv_top_program.specs.headline.Racks.{EachIs, WithFirst, part_of, rack_of, refused_job}
use Rattle.fv_top_program.specs.Runs.{JobsAnswer, RunsAgree}
use Rattle.fv_top_program.specs.headline.Runs.{answer_of, first_values, output_at, own_changes, own_frames}
use Rattle.fv_top_program.proofs.Each.{first_of, then_parts}
use Rattle.fv_top_program.proofs.lemmas.Sums.{own, sum_by_map}

-- ---- the program of a text

pub same_width : (p q : Compiled) → narrow p ≡ Ok q → p ≡ q
same_width p q is = go (outputs p.diagram == 0) (nat_lt 256 (outputs p.diagram)) (nat_lt 256 (inputs p.diagram)) is
  where
    go : (a b c : Bool) → (if a then Err (no.Channels 0 1) else (if b then Err (no.Channels (outputs p.diagram) 256)
        else (if c then Err (no.Channels (inputs p.diagram) 256) else Ok p))) ≡ Ok q → p ≡ q
    go true b c e = absurd cc
    go false true c e = absurd cc
    go false false true e = absurd cc
    go false false false e = cc

pub same_delays : (p q : Compiled) (o : Option Refusal) → delayed p o ≡ Ok q → p ≡ q
same_delays p q (Some r) is = absurd cc
same_delays p q None is = go (nat_le (delay_in p) 16777216) (no.DelayBudget (delay_in p)) is
  where
    go : (b : Bool) (r : Refusal) → (if b then Ok p else Err r) ≡ Ok q → p ≡ q
    go true r e = cc
    go false r e = absurd cc

valued_so : (p : Compiled) (r : Result (Diagram × List ControlInfo) _) → valued r ≡ Ok p → r ≡ Ok (p.diagram, p.controls)
valued_so p (Ok v) is = let same : record { diagram = v.0; controls = v.1 } ≡ p = cc in ap (λ (q : Compiled). Ok (q.diagram, q.controls)) same
valued_so p (Err e) is = absurd cc

pub runnable_text : EvaluatesToRunnables → (text : List ℕ) (p : Compiled) → TextIs text (Ok p) → IsRunnable p.diagram p.controls
runnable_text runs text p h =
    let wide = then_parts WidthIs Delayed text p (Ok p) refl h in
    let value = then_parts ValueIs Narrow text wide.0 (Ok wide.0) refl wide.1 in
    let spelled = then_parts SpellingIs (Turned of_value Evaluates) text value.0 (Ok value.0) refl value.1 in
    let is = kept_is of_value Evaluates spelled.0 value.0 spelled.2 in
    let same : value.0 ≡ p = same_width value.0 wide.0 value.2 ∙ same_delays wide.0 p (first_bad (delays_in wide.0)) wide.2 in
    subst (λ (q : Compiled). IsRunnable q.diagram q.controls) same
    (runs spelled.0.tokens spelled.0.tree value.0.diagram value.0.controls (valued_so value.0 (program_value spelled.0.tokens spelled.0.tree) is))

-- ---- the programs of texts

pub each_long : (k : ℕ) (texts : List (List ℕ)) (ps : List Compiled) → EachIs k texts (Ok ps) → length texts ≡ length ps
each_long k [] ps h = let none : [] ≡ ps = cc in ap length none
each_long k (text ∷ texts) ps h =
    let q = then_parts (Turned (refused_job k) TextIs) (WithFirst (EachIs (suc k) texts)) text ps (Ok ps) refl h in
    let first = first_of (suc k) texts q.0 ps q.2.behind q.2.is_behind q.2.is in
    ap suc (each_long (suc k) texts first.0 first.1) ∙ ap length first.2

pub each_text : (k : ℕ) (texts : List (List ℕ)) (ps : List Compiled) → EachIs k texts (Ok ps) → (i : ℕ) (d : Compiled) → i < length texts
    → TextIs (get_or texts i []) (Ok (get_or ps i d))
each_text k [] ps h i d l = absurd (omega (arith, l))
each_text k (text ∷ texts) ps h i d l =
    let q = then_parts (Turned (refused_job k) TextIs) (WithFirst (EachIs (suc k) texts)) text ps (Ok ps) refl h in
    let first = first_of (suc k) texts q.0 ps q.2.behind q.2.is_behind q.2.is in
    subst (λ (xs : List Compiled). TextIs (get_or (text ∷ texts) i []) (Ok (get_or xs i d))) first.2
    (go i l q.0 first.0 (kept_is (refused_job k) TextIs text q.0 q.1) (λ n m. each_text (suc k) texts first.0 first.1 n d m))
  where
    go : (i : ℕ) → i < suc (length texts) → (p : Compiled) (qs : List Compiled) → TextIs text (Ok p)
        → ((n : ℕ) → n < length texts → TextIs (get_or texts n []) (Ok (get_or qs n d))) → TextIs (get_or (text ∷ texts) i []) (Ok (get_or (p ∷ qs) i d))
    go zero l p qs t e = t
    go (suc i) l p qs t e = e i (omega (arith, l))

-- ---- the first values of a job's controls

begins : (k : ℕ) (ps : List Compiled) → map (λ (c : ControlInfo). c.init) (controls_from k (map own ps)) ≡ flat_map first_values ps
begins k [] = refl
begins k (p ∷ ps) =
    map-append (λ (c : ControlInfo). c.init) (labelled k p.controls) (controls_from (k + 1) (map own ps))
    ∙ ap₂ (λ xs ys. xs ++ ys) (same p.controls) (begins (k + 1) ps)
  where
    same : (cs : List ControlInfo) → map (λ (c : ControlInfo). c.init) (labelled k cs) ≡ map (λ (c : ControlInfo). c.init) cs
    same [] = refl
    same (c ∷ cs) = ap (λ xs. c.init ∷ xs) (same cs)

-- the items that one gives among those that all give
item_of : {X A : Type 0} (g : X → List A) (xs : List X) (k : ℕ) (d : X) → k < length xs
    → take (length (g (get_or xs k d))) (drop (sum_by (λ x. length (g x)) (take k xs)) (flat_map g xs)) ≡ g (get_or xs k d)
item_of g [] k d l = absurd (omega (arith, l))
item_of g (x ∷ xs) zero d l = take-append_seam (g x) (flat_map g xs)
item_of g (x ∷ xs) (suc k) d l =
    let s = sum_by (λ y. length (g y)) (take k xs) in
    let n = length (g (get_or xs k d)) in
    ap (λ m. take n (drop m (g x ++ flat_map g xs))) (sum_by-cons (λ y. length (g y)) x (take k xs))
    ∙ ap (take n) (drop-append-add (g x) (flat_map g xs) s)
    ∙ item_of g xs k d (omega (arith, l))

-- ---- each job

module _ (alike : (d : Diagram) → AnswersAlike d) (hear : JobsHear) (parts : PartsAnswer) (whole : PartsAreWhole) (runs : EvaluatesToRunnables) where
  pub jobs_answer : JobsAnswer
  jobs_answer r k d l j t m u =
      let ps = r.programs in
      let p = get_or ps k d in
      let X = r.frames in
      let before = take k (map part_of ps) in
      let initial = first_values (rack_of ps) in
      let c = control_streams r.changes initial in
      let n = length p.controls in
      let first = controls_of before in
      let long : length r.texts ≡ length ps = each_long 0 r.texts ps r.are in
      let text : (i : ℕ) (e : Compiled) → i < length ps → TextIs (get_or r.texts i []) (Ok (get_or ps i e)) =
      λ i e h. each_text 0 r.texts ps r.are i e (omega (arith, h, long)) in
      let able : (i : ℕ) (e : Compiled) → i < length ps → IsRunnable (let q = get_or ps i e in q.diagram) (let q = get_or ps i e in q.controls) =
      λ i e h. runnable_text runs (get_or r.texts i []) (get_or ps i e) (text i e h) in
      let well = All-map (λ (q : Part). IsWellFormed q.diagram) part_of ps (λ i e h. let s = able i e h in s.well) in
      let w = whole 0 (map part_of ps) in
      let wide = subst (λ i. All (λ (x : Frame). length x ≡ i) X) w.inputs r.wide in
      let at : get_or (map part_of ps) k (part_of d) ≡ part_of p = get_or-map part_of ps k d (part_of d) l in
      -- of the part, under all changes
      let of_part : output_at r k j t ≡ column (run p.diagram (part_controls first c) no_slots (own_frames r k p)) j t =
      subst (λ (q : Part). j < outputs q.diagram → output_at r k j t
      ≡ column (run q.diagram (part_controls first c) no_slots (part_frames (inputs_of before) (inputs q.diagram) X)) j t) at
      (λ o. parts (map part_of ps) c no_slots X well wide k (part_of d) (omega (arith, l, length-map ps part_of)) j t o u) m in
      -- its own controls begin where they do
      let first_is : first ≡ sum_by (λ (q : Compiled). length (first_values q)) (take k ps) =
      ap (sum_by (λ (q : Part). length q.spans)) (take-map part_of k ps)
      ∙ sum_by_map (λ (q : Part). length q.spans) part_of (take k ps)
      ∙ counts (take k ps) in
      let begin : take n (drop first initial) ≡ first_values p =
      ap₂ (λ i (xs : List ℤ). take n (drop i xs)) first_is (begins 0 ps)
      ∙ ap (λ i. take i (drop (sum_by (λ (q : Compiled). length (first_values q)) (take k ps)) (flat_map first_values ps)))
      (sym (length-map p.controls (λ (x : ControlInfo). x.init)))
      ∙ item_of first_values ps k d l in
      let place : first ≡ controls_before (map own ps) k =
      first_is ∙ sym (ap (sum_by length) (take-map own k ps) ∙ sum_by_map length own (take k ps) ∙ values (take k ps)) in
      -- and hear its own changes
      let same : run p.diagram (part_controls first c) no_slots (own_frames r k p) ≡ answer_of p (own_changes r k p) (own_frames r k p) =
      alike p.diagram (part_controls first c) (control_streams (own_changes r k p) (first_values p)) no_slots no_slots (own_frames r k p)
      (λ i s h v.
      let reads = (able k d l).reads in
      hear r.changes initial first n i s (omega (arith, h, reads))
      ∙ ap₂ (λ x (xs : List ℤ). control_streams (changes_of x n r.changes) xs i s) place begin)
      (λ i s h v. refl) in
      of_part ∙ ap (λ Y. column Y j t) same
    where
      counts : (qs : List Compiled) → sum_by (λ (q : Compiled). length (spans_of q.controls)) qs ≡ sum_by (λ (q : Compiled). length (first_values q)) qs
      counts [] = refl
      counts (q ∷ qs) =
          sum_by-cons (λ (x : Compiled). length (spans_of x.controls)) q qs
          ∙ ap₂ (λ a b. a + b) (length-map q.controls span_of ∙ sym (length-map q.controls (λ (x : ControlInfo). x.init))) (counts qs)
          ∙ sym (sum_by-cons (λ (x : Compiled). length (first_values x)) q qs)

      values : (qs : List Compiled) → sum_by (λ (q : Compiled). length q.controls) qs ≡ sum_by (λ (q : Compiled). length (first_values q)) qs
      values [] = refl
      values (q ∷ qs) =
          sum_by-cons (λ (x : Compiled). length x.controls) q qs
          ∙ ap₂ (λ a b. a + b) (sym (length-map q.controls (λ (x : ControlInfo). x.init))) (values qs)
          ∙ sym (sum_by-cons (λ (x : Compiled). length (first_values x)) q qs)

  pub runs_agree : IsOneText → RunsAgree
  runs_agree once a b k i d l n text changes frames j t m u =
      let p = get_or a.programs k d in
      let q = get_or b.programs i d in
      let long = each_long 0 a.texts a.programs a.are in
      let longer = each_long 0 b.texts b.programs b.are in
      let of_a = each_text 0 a.texts a.programs a.are k d l in
      let of_b = subst (λ (w : List ℕ). TextIs w (Ok q)) (sym text) (each_text 0 b.texts b.programs b.are i d n) in
      let both = once (get_or a.texts k []) (Ok p) (Ok q) of_a of_b in
      let same : p ≡ q = cc in
      let width = length-map a.frames (λ (x : Frame). take (inputs p.diagram) (drop (inputs_of (take k (map part_of a.programs))) x)) in
      let wider = length-map b.frames (λ (x : Frame). take (inputs p.diagram) (drop (inputs_of (take i (map part_of b.programs))) x)) in
      jobs_answer a k d (omega (arith, l, long)) j t m u
      ∙ ap₂ (λ xs Y. column (answer_of p xs Y) j t) changes frames
      ∙ ap (λ (x : Compiled). column (answer_of x (own_changes b i x) (own_frames b i x)) j t) same
      ∙ sym (jobs_answer b i d (omega (arith, n, longer)) j t (subst (λ (x : Compiled). j < outputs x.diagram) same m)
      (omega (arith, u, width, wider, ap length frames)))
