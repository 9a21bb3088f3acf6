-- What programs side by side have together.
use Rattle.std.proofs.Common.{◌≡◌, ℕ, ◌+◌, ◌*◌, ◌≤◌, List, [], ◌∷◌, ◌++◌, length, map, get_or, All, refl, sym, ap, ap₂, ◌∙◌, subst, arith}
use Rattle.std.specs.Prelude.{flat_map, sum}
use Rattle.std.specs.List.{sum_by}
use Rattle.std.proofs.lemmas.List.{length-append, length-map, map-append}
use Rattle.std.proofs.lemmas.List.Elements.{All-append, All-map, All-nil, All-head, All-tail}
use Rattle.std.proofs.lemmas.List.Folds.{flat_map-map}
use Rattle.std.proofs.lemmas.List.Sums.{sum-map, sum_by-append, sum_by-cons, sum_by-le}
use Rattle.fv_base.specs.declared.limits.TheConstants.{MOST_CHANNELS}
use Rattle.fv_diagram.specs.Controls.{IsBounded}
use Rattle.fv_diagram.specs.declared.control.ControlInfo.{ControlInfo}
use Rattle.fv_diagram.specs.headline.Diagram.{inputs, outputs}
use Rattle.fv_diagram.specs.Diagram.{control_bound, HasNoFreeSlot, IsWellFormed}
use Rattle.fv_interval.specs.headline.Controls.{spans_of, span_of}
use Rattle.fv_interval.specs.headline.Delays.{amount, amounts, delays_of}
use Rattle.fv_interval.specs.Delays.{AreDelays, IsDelay}
use Rattle.fv_jobs.specs.headline.Labels.{controls_from, labelled, renamed}
use Rattle.fv_compile.specs.headline.Parts.{Part, side_by_side}
use Rattle.fv_compile.specs.Parts.{PartsAreWhole, spans_of as spans_of_parts}
use Rattle.fv_top_program.specs.headline.Compiled.{Compiled}
use Rattle.fv_top_program.specs.Compiled.{CanPlay, compiled_of}
use Rattle.fv_top_program.specs.headline.Program.{delays_in}
use Rattle.fv_top_program.specs.headline.Racks.{part_of, rack_of}
use Rattle.fv_top_program.specs.Reads.{IsRead, programs_in}
use Rattle.fv_top_program.specs.declared.programs.Read.{Read}
use Rattle.fv_top_program.proofs.Delays.{HaveOwn, delays_beside}
use Rattle.fv_base.specs.declared.limits.TheConstants.{VISIT_LIMIT}

-- ---- sums over items that are seen otherwise

pub sum_by_map : {X Y : Type 0} (f : Y → ℕ) (g : X → Y) (xs : List X) → sum_by f (map g xs) ≡ sum_by (λ x. f (g x)) xs
sum_by_map f g [] = refl
sum_by_map f g (x ∷ xs) =
    sum_by-cons f (g x) (map g xs) ∙ ap (λ n. f (g x) + n) (sum_by_map f g xs) ∙ sym (sum_by-cons (λ y. f (g y)) x xs)

-- ---- controls

abbrev pub own : Compiled → List ControlInfo
own p = p.controls

pub long_controls : (k : ℕ) (ps : List Compiled) → length (controls_from k (map own ps)) ≡ sum_by (λ (p : Compiled). length p.controls) ps
long_controls k [] = refl
long_controls k (p ∷ ps) =
    length-append (labelled k p.controls) (controls_from (k + 1) (map own ps))
    ∙ ap₂ (λ a b. a + b) (length-map p.controls (renamed k)) (long_controls (k + 1) ps) ∙ sym (sum_by-cons (λ (q : Compiled). length q.controls) p ps)

spans_labelled : (k : ℕ) (cs : List ControlInfo) → spans_of (labelled k cs) ≡ spans_of cs
spans_labelled k [] = refl
spans_labelled k (c ∷ cs) = ap (λ xs. span_of c ∷ xs) (spans_labelled k cs)

pub spans_are : (k : ℕ) (ps : List Compiled) → spans_of (controls_from k (map own ps)) ≡ spans_of_parts (map part_of ps)
spans_are k [] = refl
spans_are k (p ∷ ps) =
    map-append span_of (labelled k p.controls) (controls_from (k + 1) (map own ps))
    ∙ ap₂ (λ xs ys. xs ++ ys) (spans_labelled k p.controls) (spans_are (k + 1) ps)

bounded_all : (k : ℕ) (ps : List Compiled) → All (λ (p : Compiled). All IsBounded p.controls) ps → All IsBounded (controls_from k (map own ps))
bounded_all k [] h = All-nil IsBounded
bounded_all k (p ∷ ps) h =
    All-append IsBounded (labelled k p.controls) (controls_from (k + 1) (map own ps))
    (All-map IsBounded (renamed k) p.controls (All-head (λ (q : Compiled). All IsBounded q.controls) p ps h))
    (bounded_all (k + 1) ps (All-tail (λ (q : Compiled). All IsBounded q.controls) p ps h))

-- ---- delays

have_own : (ps : List Compiled) → All CanPlay ps → HaveOwn (map part_of ps)
have_own [] h = tt
have_own (p ∷ ps) h =
    let first = All-head CanPlay p ps h in
    let reads = first.reads in
    (omega (arith, reads, length-map p.controls span_of), have_own ps (All-tail CanPlay p ps h))

pub delays_of_rack : (ps : List Compiled) → All CanPlay ps → delays_in (rack_of ps) ≡ flat_map delays_in ps
delays_of_rack ps h =
    ap (delays_of (side_by_side 0 (map part_of ps))) (spans_are 0 ps)
    ∙ delays_beside (map part_of ps) (have_own ps h)
    ∙ flat_map-map (λ (p : Part). delays_of p.diagram p.spans) part_of ps

none_refused : (ps : List Compiled) → All (λ (p : Compiled). AreDelays (delays_in p)) ps → AreDelays (flat_map delays_in ps)
none_refused [] h = All-nil IsDelay
none_refused (p ∷ ps) h =
    All-append IsDelay (delays_in p) (flat_map delays_in ps) (All-head (λ (q : Compiled). AreDelays (delays_in q)) p ps h)
    (none_refused ps (All-tail (λ (q : Compiled). AreDelays (delays_in q)) p ps h))

amounts_append : (a b : List _) → sum (amounts (a ++ b)) ≡ sum (amounts a) + sum (amounts b)
amounts_append a b =
    sum-map amount (a ++ b) ∙ sum_by-append amount a b ∙ sym (ap₂ (λ x y. x + y) (sum-map amount a) (sum-map amount b))

delays_are : (rs : List Read) → All IsRead rs → sum_by (λ (r : Read). sum r.delays) rs ≡ sum (amounts (flat_map delays_in (programs_in rs)))
delays_are [] h = refl
delays_are (r ∷ rs) h =
    let first = All-head IsRead r rs h in
    sum_by-cons (λ (q : Read). sum q.delays) r rs
    ∙ ap₂ (λ a b. a + b) (ap sum first.accepted.are) (delays_are rs (All-tail IsRead r rs h))
    ∙ sym (amounts_append (delays_in (compiled_of r.program)) (flat_map delays_in (programs_in rs)))

-- ---- of programs that were read

module _ (rs : List Read) (h : All IsRead rs) where
  abbrev ps : List Compiled
  ps = programs_in rs

  abbrev rack : Compiled
  rack = rack_of ps

  pub play_all : All CanPlay ps
  play_all = All-map CanPlay (λ (r : Read). compiled_of r.program) rs (λ k d l. let r = h k d l in r.plays)

  pub delays_all : AreDelays (delays_in rack)
  delays_all =
      subst AreDelays (sym (delays_of_rack ps play_all))
      (none_refused ps (All-map (λ (p : Compiled). AreDelays (delays_in p)) (λ (r : Read). compiled_of r.program) rs (λ k d l.
      let r = h k d l in r.accepted.each)))

  pub sum_all : sum_by (λ (r : Read). sum r.delays) rs ≡ sum (amounts (delays_in rack))
  sum_all = delays_are rs h ∙ ap (λ ss. sum (amounts ss)) (sym (delays_of_rack ps play_all))

  module _ (whole : PartsAreWhole) where
    pub inputs_all : sum_by (λ (r : Read). inputs (compiled_of r.program).diagram) rs ≡ inputs rack.diagram
    inputs_all =
        let w = whole 0 (map part_of ps) in
        sym (w.inputs ∙ sum_by_map (λ (p : Part). inputs p.diagram) part_of ps
        ∙ sum_by_map (λ (p : Compiled). inputs p.diagram) (λ (r : Read). compiled_of r.program) rs)

    pub outputs_all : sum_by (λ (r : Read). outputs (compiled_of r.program).diagram) rs ≡ outputs rack.diagram
    outputs_all =
        let w = whole 0 (map part_of ps) in
        sym (w.outputs ∙ sum_by_map (λ (p : Part). outputs p.diagram) part_of ps
        ∙ sum_by_map (λ (p : Compiled). outputs p.diagram) (λ (r : Read). compiled_of r.program) rs)

    pub rack_plays : length rs ≤ 16 → 1 ≤ outputs rack.diagram → outputs rack.diagram ≤ MOST_CHANNELS → inputs rack.diagram ≤ MOST_CHANNELS → CanPlay rack
    rack_plays few some most narrow =
        let w = whole 0 (map part_of ps) in
        let long : length rack.controls ≡ sum_by (λ (p : Compiled). length p.controls) ps = long_controls 0 ps in
        let own_controls : sum_by (λ (p : Compiled). length p.controls) ps ≤ length ps * VISIT_LIMIT =
        sum_by-le (λ (p : Compiled). length p.controls) VISIT_LIMIT ps
        (All-map (λ (p : Compiled). length p.controls ≤ VISIT_LIMIT) (λ (r : Read). compiled_of r.program) rs (λ k d l. let r = h k d l in r.controls)) in
        let count : length ps ≡ length rs = length-map rs (λ (r : Read). compiled_of r.program) in
        let spans : sum_by (λ (p : Part). length p.spans) (map part_of ps) ≡ sum_by (λ (p : Compiled). length (spans_of p.controls)) ps =
        sum_by_map (λ (p : Part). length p.spans) part_of ps in
        record {
          well = w.well (All-map (λ (p : Part). IsWellFormed p.diagram) part_of ps (λ k d l. let p = play_all k d l in p.well));
          closed = w.closed (All-map (λ (p : Part). HasNoFreeSlot p.diagram) part_of ps (λ k d l. let p = play_all k d l in p.closed));
          reads =
              let bound = w.controls (All-map (λ (p : Part). control_bound p.diagram ≤ length p.spans) part_of ps (λ k d l.
              let p = play_all k d l in
              let own = get_or ps k d in
              let reads = p.reads in omega (arith, reads, length-map own.controls span_of))) in
              omega (arith, bound, spans, long, same_spans ps);
          controls = omega (arith, long, own_controls, count, few);
          some = some;
          few = most;
          narrow = narrow;
          bounded = bounded_all 0 ps (λ k d l. let p = play_all k d l in p.bounded);
        }
      where
        same_spans : (qs : List Compiled) → sum_by (λ (p : Compiled). length (spans_of p.controls)) qs ≡ sum_by (λ (p : Compiled). length p.controls) qs
        same_spans [] = refl
        same_spans (q ∷ qs) =
            sum_by-cons (λ (p : Compiled). length (spans_of p.controls)) q qs
            ∙ ap₂ (λ a b. a + b) (length-map q.controls span_of) (same_spans qs) ∙ sym (sum_by-cons (λ (p : Compiled). length p.controls) q qs)
