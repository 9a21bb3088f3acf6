-- What calls say beside `headline/History`: how far back the signals of a graph are read (this project's profile).
use Rattle.std.specs.Prelude.{◌≡◌, ℕ, ◌<◌, ◌≤◌}
use Rattle.fv_signal.specs.declared.signal.Signal.TheVariants.{Delay, Back}
use Rattle.fv_signal.specs.headline.Value.{Graph, definition}
use Rattle.fv_analysis.specs.headline.Stands.{stand, StandsAt}
use Rattle.fv_analysis.specs.headline.History.{history_of}

-- why a history is so long: a delay of that length, or a Back
pub data HasReason (g : Graph) (s n : ℕ) : Type 0 where
  OfDelay : (r x d : ℕ) → StandsAt g r (Delay x d n) → stand g x ≡ stand g s → HasReason g s n
  OfBack : (r group i : ℕ) → StandsAt g r (Back group i) → stand g (definition g group i) ≡ stand g s → n ≡ 1 → HasReason g s n

-- no delay and no Back looks back further than the history, and one that is not 0 has its reason
pub record HistoriesCover (g : Graph) : Type 0 where
  pub delays : (r x d most : ℕ) → StandsAt g r (Delay x d most) → most ≤ history_of g x
  pub backs : (r group i : ℕ) → StandsAt g r (Back group i) → 1 ≤ history_of g (definition g group i)
  pub least : (s : ℕ) → 0 < history_of g s → HasReason g s (history_of g s)
