-- The lists that a block works in.
use Rattle.std.specs.Prelude.{◌≡◌, ◌≤◌, [], length, vec_len}
use Rattle.std.specs.Vec.{vec_capacity}
use Rattle.fv_engine_crew.specs.Rooms.{AreRooms}
use Rattle.fv_engine_crew.specs.declared.block.SpreadBlock.{SpreadBlock}
use Rattle.fv_engine_crew.specs.declared.buffers.Buffers.{Buffers}
use Rattle.fv_engine_crew.specs.Spread.{tasks_of}

-- The lists of the loops, and empty ones with room for what comes back, while the lanes are begun.
pub record HaveRoom (b : SpreadBlock) (l : Buffers) : Type 0 where
  pub rooms : AreRooms b.plan.now (tasks_of b) b.places.now l.rooms.items
  pub no_entries : vec_len l.entries ≡ 0
  pub entries : b.plan.now.loops ≤ vec_capacity l.entries
  pub none_emptied : vec_len l.emptied ≡ 0
  pub emptied : b.plan.now.loops ≤ vec_capacity l.emptied
  pub none_back : vec_len l.back ≡ 0
  pub back : length b.plan.now.lanes ≤ vec_capacity l.back

-- the lists of a block before any lane is begun: one of them has room for the lanes as they begin
pub record AreEmpty (b : SpreadBlock) (l : Buffers) : Type 0 where
  pub others : HaveRoom b l
  pub none_begun : l.begun.items ≡ []
  pub begun : length b.plan.now.lanes ≤ vec_capacity l.begun
