-- The fields of a graph that grows.
use Rattle.fv_propagate.specs.declared.progress.Progress.TheInside.{Inside}
use Rattle.fv_propagate.specs.inner.Progress.{Progress}

-- what the fields hold
abbrev pub progress_of : Inside → Progress
progress_of a = record { draft = a.builder; delays = a.delays.items; feedbacks = a.feedbacks.items }
