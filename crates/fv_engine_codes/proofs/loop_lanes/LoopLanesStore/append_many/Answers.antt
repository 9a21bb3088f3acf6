use Rattle.std.proofs.Common.{rules, ◌≡◌, ◌<◌, ◌≤◌, ℕ, ℤ, List, length, sym, ap, ◌∙◌, arith}
use Rattle.std.proofs.lemmas.List.{set-get_or}
use Rattle.fv_loopcode.specs.Words.{argument}
use Rattle.fv_loopcode.specs.headline.Lanes.{Lane, lane_of, no_lane}
use Rattle.fv_loopcode.specs.headline.State.{State}
use Rattle.fv_loopcode.specs.State.{with_samples}
use Rattle.fv_engine_codes.specs.Lanes.{state_in, lanes_in, rest_of_cells}
use Rattle.fv_engine_codes.specs.Cells.{cells_of}
use Rattle.fv_engine_codes.specs.declared.loop_lanes.LoopLanes.{LoopLanes}
use Rattle.fv_engine_codes.proofs.Writing.{MoreSamples, lane_set, rest_set, own_lane, has_room}
use Rattle.fv_engine_codes.proofs.loop_lanes.LoopLanesStore.append_many.Goals as goal

-- no sample leaves all as it is
pub returns-then-is_empty-clause-state : goal.returns-then-is_empty-clause-state
returns-then-is_empty-clause-state c =
    let s : State = state_in c.args.self.now in
    let values : List ℤ = c.args.values.now in
    let none : length values ≡ 0 = search (rules, c.if-is_empty.true, c.is_empty.ensures) in
    sym (ap (with_samples s c.args.lane (argument values)) none
    ∙ ap (λ (ls : List Lane). record s { lanes = ls }) (set-get_or s.lanes c.args.lane no_lane))

-- a lane that takes samples is one of its own
own_there : (s : LoopLanes) (lane : ℕ) (values : List ℤ) → 0 < length values → length values ≤ (lane_of (lanes_in s) lane).room
    → lane < length s.own.items
own_there s lane values some room = has_room s.own.items s.seen.items lane (omega (arith, some, room))

pub index_mut-requires : goal.index_mut-requires
index_mut-requires c =
    let some : 0 < length c.args.values.now = search (rules, c.if-is_empty.false, c.is_empty.ensures) in
    omega (arith, own_there c.args.self.now c.args.lane c.args.values.now some c.requires.room, c.args.self.now.own.ok)

pub append_many-requires : goal.append_many-requires
append_many-requires c =
    let s : LoopLanes = c.args.self.now in
    let some : 0 < length c.args.values.now = search (rules, c.if-is_empty.false, c.is_empty.ensures) in
    let there : c.args.lane < length s.own.items = own_there s c.args.lane c.args.values.now some c.requires.room in
    omega (
      arith,
      c.requires.room,
      ap (λ z. z.room) (own_lane s.own.items s.seen.items c.args.lane c.index_mut.result.now there c.index_mut.ensures.value),
    )

more : (c : goal.After-self-1) → MoreSamples c.index_mut.result.now c.append_many.new.self c.args.values.now
more c = record {
  list = c.append_many.ensures.list;
  written = c.append_many.ensures.written;
  frames = c.append_many.ensures.rest.0;
  shape = c.append_many.ensures.rest.1;
  part = c.append_many.ensures.rest.2;
  outer = c.append_many.ensures.rest.3;
}

pub returns-clause-state : goal.returns-clause-state
returns-clause-state c =
    let s : LoopLanes = c.args.self.now in
    let some : 0 < length c.args.values.now = search (rules, c.if-is_empty.false, c.is_empty.ensures) in
    let there : c.args.lane < length s.own.items = own_there s c.args.lane c.args.values.now some c.requires.room in
    ap (λ ls. record { lanes = ls; tables = s.cells.plan.now.tables; cells = cells_of s.cells })
    (lane_set s.own.items s.seen.items c.args.lane c.index_mut.result.now c.append_many.new.self c.args.values.now there
    c.index_mut.ensures.value (more c))

pub returns-clause-kept : goal.returns-clause-kept
returns-clause-kept c =
    let s : LoopLanes = c.args.self.now in
    ap (λ o. record { own = o; seen = s.seen; cells = rest_of_cells s.cells })
    (rest_set s.own.items c.args.lane c.index_mut.result.now c.append_many.new.self c.args.values.now c.index_mut.ensures.value (more c))
