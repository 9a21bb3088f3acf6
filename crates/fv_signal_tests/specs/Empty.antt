-- What a builder begins with.
use Rattle.std.specs.Prelude.{[]}
use Rattle.fv_share.specs.Drafts.{Draft}

-- no signals, no groups and no tables
abbrev pub empty : Draft
empty = record { signals = []; groups = []; closed = []; tables = [] }
