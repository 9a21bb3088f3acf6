-- The draft that a builder's fields hold.
use Rattle.fv_share.specs.declared.builder.Builder.TheInside.{Inside}
use Rattle.fv_share.specs.Drafts.{Draft, lists_in}

-- the draft of a builder's fields
abbrev pub draft_of : Inside → Draft
draft_of a = record { signals = a.signals.keys; groups = lists_in a.groups.items; closed = a.closed.items; tables = lists_in a.tables.items }
