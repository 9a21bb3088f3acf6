use Rattle.std.proofs.Common.{ℤ, ◌++◌, [], ◌∷◌, ap, ◌∙◌, arith, to_z-of_z}
use Rattle.fv_engine_codes.specs.Lanes.{rest_of_cells}
use Rattle.fv_engine_codes.specs.Cells.{cells_of}
use Rattle.fv_lines.specs.Writer.{list_of}
use Rattle.fv_engine_codes.proofs.Writing.{lane_set, rest_set, own_lane, has_room}
use Rattle.fv_engine_codes.proofs.loop_lanes.LoopLanesStore.append.Goals as goal

pub index_mut-requires : goal.index_mut-requires
index_mut-requires c =
    omega (arith, has_room c.args.self.now.own.items c.args.self.now.seen.items c.args.lane c.requires.room, c.args.self.now.own.ok)

pub append-requires : goal.append-requires
append-requires c =
    let own = c.args.self.now.own.items in
    let seen = c.args.self.now.seen.items in
    omega (
      arith,
      c.requires.room,
      ap (λ z. z.room) (own_lane own seen c.args.lane c.index_mut.result.now (has_room own seen c.args.lane c.requires.room) c.index_mut.ensures.value),
    )

pub returns-clause-state : goal.returns-clause-state
returns-clause-state c =
    ap (λ ls. record { lanes = ls; tables = c.args.self.now.cells.plan.now.tables; cells = cells_of c.args.self.now.cells })
    (lane_set c.args.self.now.own.items c.args.self.now.seen.items c.args.lane c.index_mut.result.now c.append.new.self (c.args.value ∷ [])
    (has_room c.args.self.now.own.items c.args.self.now.seen.items c.args.lane c.requires.room) c.index_mut.ensures.value
    (record {
      list = c.append.ensures.list ∙ ap (λ (v : ℤ). list_of c.index_mut.result.now ++ v ∷ []) (to_z-of_z c.ranges.value);
      written = c.append.ensures.written;
      frames = c.append.ensures.rest.0;
      shape = c.append.ensures.rest.1;
      part = c.append.ensures.rest.2;
      outer = c.append.ensures.rest.3;
    }))

pub returns-clause-kept : goal.returns-clause-kept
returns-clause-kept c =
    ap (λ o. record { own = o; seen = c.args.self.now.seen; cells = rest_of_cells c.args.self.now.cells })
    (rest_set c.args.self.now.own.items c.args.lane c.index_mut.result.now c.append.new.self (c.args.value ∷ []) c.index_mut.ensures.value
    (record {
      list = c.append.ensures.list ∙ ap (λ (v : ℤ). list_of c.index_mut.result.now ++ v ∷ []) (to_z-of_z c.ranges.value);
      written = c.append.ensures.written;
      frames = c.append.ensures.rest.0;
      shape = c.append.ensures.rest.1;
      part = c.append.ensures.rest.2;
      outer = c.append.ensures.rest.3;
    }))
