-- What a diagram answers on samples (Orlarey, Fober, Letz 2004).
use Rattle.std.specs.Prelude.{ℕ, List, ℤ, pos}
pub use Rattle.fv_num.specs.headline.Frames.{joined}
use Rattle.fv_num.specs.headline.Frames.{Stream, rows}
use Rattle.fv_diagram.specs.headline.Diagram.{Diagram, inputs}
use Rattle.fv_diagram.specs.headline.Streams.{run}

-- no slot of the diagram is free, so what the slots stand for does not matter
abbrev pub no_slots : ℕ → Stream
no_slots s t = pos 0

-- the samples that the diagram answers on this many frames, under these streams of the controls
abbrev pub answer_on : Diagram → (c : ℕ → Stream) → (frames : ℕ) → (samples : List ℤ) → List ℤ
answer_on d c frames samples = joined (run d c no_slots (rows (inputs d) frames samples))
