-- An engine's frames and controls: what counts is before their end.
use Rattle.std.proofs.Common.{◌+◌, length, refl, ◌∙◌, pos}
use Rattle.fv_signal.specs.Frames.{back}
use Rattle.fv_base.proofs.lemmas.Lists.{table_same}
use Rattle.fv_signal.specs.headline.Value.{value}
use Rattle.fv_signal.proofs.lemmas.Solutions.{values_look_back}
use Rattle.fv_split_plan.specs.headline.View.{lane_info}
use Rattle.fv_engine.specs.Stands.{StandsAlike}
use Rattle.fv_analysis.specs.headline.Stands.{node}
use Rattle.fv_engine.proofs.Values.{back_past, written_alike}

pub stands_alike : StandsAlike
stands_alike e g names X c d same h = record {
  histories = λ l i.
      let hist = (lane_info e.plan l).history in let x = value g (names.lane l) X c in let y = value g (names.lane l) X d in
      let as_before = values_look_back g X X c d (length X) (λ i u v. refl) same (names.lane l) in
      h.histories l i ∙ table_same hist (λ k. back x (length X + k) (pos hist)) (λ k. back y (length X + k) (pos hist))
      (λ k m. back_past x y (length X) hist k m (λ u v. as_before u v));
  cells = λ k i.
      h.cells k i
      ∙ written_alike g X X c d (length X) (λ s u l. values_look_back g X X c d (length X) (λ i u v. refl) same s u l) (node g (names.cells k));
}
