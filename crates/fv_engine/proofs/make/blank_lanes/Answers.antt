use Rattle.std.proofs.Common.{◌≡◌, ℕ, ◌<◌, ℤ, pos, List, length, map, sum, replicate, take, refl, sym, ap, ◌∙◌, arith}
use Rattle.std.specs.Prelude.{slice_index}
use Rattle.std.proofs.lemmas.List.{length-map, length-replicate}
use Rattle.fv_pool.specs.Layout.{part}
use Rattle.fv_pool.specs.Region.{cells_of}
use Rattle.fv_lines.specs.Hold.{from_start}
use Rattle.fv_lines.specs.Solo.{start_at}
use Rattle.fv_lines.specs.declared.shape.LaneShape.{LaneShape}
use Rattle.fv_lines.specs.declared.shape.LaneState.{LaneState}
use Rattle.fv_lines.proofs.lemmas.Tables.{shapes_fit}
use Rattle.fv_split_plan.specs.headline.View.{lane_info}
use Rattle.fv_engine.proofs.Made.{all_held, starts_zero, nothing_yet}
use Rattle.fv_engine.proofs.make.blank_lanes.Goals.{In_ok-begun}
use Rattle.fv_engine.proofs.make.blank_lanes.Goals as goal

-- what the lists of the lanes hold
module _ (c : In_ok-begun) where
  abbrev shapes : List LaneShape
  shapes = c.in_ok-shapes.shapes.items

  abbrev states : List LaneState
  states = c.in_ok-states.states.items

  abbrev lengths : List ℕ
  lengths = c.in_ok-layout.layout

  abbrev cells : List ℤ
  cells = cells_of c.in_ok-region.region

  lengths_are : lengths ≡ map (λ (s : LaneShape). s.len) shapes
  lengths_are =
      c.in_ok-layout.ensures ∙ c.deref-3.ensures.value ∙ c.in_ok-lengths.ensures ∙ ap (map (λ (s : LaneShape). s.len)) c.deref.ensures.value

  count : length lengths ≡ length shapes
  count = ap length lengths_are ∙ length-map shapes (λ (s : LaneShape). s.len)

  abbrev blank : LaneState
  blank = record { start = 0 }

  states_are : states ≡ replicate (length shapes) blank
  states_are = c.in_ok-states.ensures.items_if_clones_equal (λ y e. e) ∙ ap (λ n. replicate n blank) (c.len.ensures ∙ c.in_ok-shapes.shapes.ok.0)

  starts : (i : ℕ) → i < length shapes → start_at states i ≡ 0
  starts i l = ap (λ (xs : List LaneState). start_at xs i) states_are ∙ starts_zero (length shapes) i blank refl l

  cells_are : cells ≡ replicate (sum lengths) (pos 0)
  cells_are = c.in_ok-region.ensures ∙ ap (λ n. replicate n (pos 0)) c.total.ensures

pub invariant_of-result : goal.invariant_of-result
invariant_of-result c =
    let d = (goal.at.invariant_of-result c).In_ok-begun in
    let many = count d in let long = ap length (cells_are d) ∙ length-replicate (sum (lengths d)) (pos 0) in
    let begun : length c.in_ok-begun.begun.items ≡ length (lengths d) =
    omega (arith, c.in_ok-begun.ensures.len, c.len-2.ensures, c.in_ok-shapes.shapes.ok.0, c.in_ok-begun.begun.ok.0, many) in
    record {
      entries = (sym many, ap length (states_are d) ∙ length-replicate (length (shapes d)) (blank d) ∙ sym many, begun, omega (arith, long));
      held = all_held (lengths d) (shapes d) (states d) (lengths_are d) (starts d);
    }

pub returns : goal.returns
returns c =
    let d = (goal.at.returns c).In_ok-begun in let are = c.in_ok-shapes.ensures in
    record {
      shapes = are;
      blank = λ l i v.
          let there : l < length (shapes d) = omega (arith, i, are.count) in
          let history = (lane_info c.args.plan.now l).history in let within : l < length (lengths d) = omega (arith, there, count d) in
          let fit = shapes_fit (shapes d) l there in let h = are.histories l i in
          let k = ap (λ (xs : List ℕ). slice_index xs l) (lengths_are d) in
          ap (λ s. take history (from_start s (part (lengths d) l (cells d)))) (starts d l there)
          ∙ nothing_yet (lengths d) l history (cells d) v within (omega (arith, fit, h, k)) (cells_are d);
      lists = c.in_ok-lists.ensures;
    }
