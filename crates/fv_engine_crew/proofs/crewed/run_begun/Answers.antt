use Rattle.std.proofs.Common.{◌≡◌, ℕ, ◌++◌, List, length, take, drop, sym, ap, ◌∙◌, subst, arith, ℤ}
use Rattle.std.specs.Global.{Vec}
use Rattle.std.proofs.lemmas.List.{take_at}
use Rattle.fv_split_plan.specs.Rows.{lists_of}
use Rattle.fv_split_plan.specs.headline.View.{PlanView}
use Rattle.fv_engine_crew.specs.declared.block.SpreadBlock.{SpreadBlock}
use Rattle.fv_engine_crew.specs.inner.Lanes.{AreWhole}
use denote.Param.Send.{sendable}
use Rattle.fv_engine_tasks.specs.headline.Block.{vectors_of}
use Rattle.fv_engine_tasks.specs.Block.{Block}
use Rattle.fv_engine_crew.specs.declared.start.Start.{Start}
use Rattle.fv_engine_crew.specs.Spread.{block_in}
use Rattle.fv_engine_crew.specs.Collected.{AreChainParcels, AreAllWriters, AreAllCells}
use Rattle.fv_engine_crew.proofs.Sent.{parcel_send, body_sync}
use Rattle.fv_engine_crew.proofs.ReturnedWriters.{Started, whole, untouched, cells_untouched}
use Rattle.fv_engine_crew.proofs.Crewing.{entries_are, exits_are}
use Rattle.fv_engine_crew.proofs.crewed.run_begun.Given.{Over}
use Rattle.fv_engine_crew.proofs.crewed.run_begun.Goals.{After-enter-body}
use Rattle.fv_engine_crew.proofs.crewed.run_begun.Goals as goal

pub run_crew-requires-send-C : goal.run_crew-requires-send-C
run_crew-requires-send-C g c κs within = search (parcel_send, sendable) depth 20

pub run_crew-requires-sync-B : goal.run_crew-requires-sync-B
run_crew-requires-sync-B g c κs within = search (body_sync, sendable) depth 20

-- the block as its body has it
module _ (g : Over) (c : After-enter-body g) where
  abbrev key : Start
  key = c.enter-body.result.0.start

  abbrev block : Block
  block = block_in c.args.block.now

  abbrev last : ℕ
  last = vectors_of block.frames block.vector

  started : Started c.args.block.now c.args.buffers.begun.items c.args.lists.now.items key
  started = record { start = c.enter-body.ensures.start; job = c.requires.spread.job; open_lanes = c.requires.begun }

  -- as many lists come back as were lent
  kept : {v : ℕ} (xs : List (Vec ℤ)) → AreAllCells key v xs
      → take c.enter-body.new.lists.len (xs ++ drop (length xs) c.enter-body.new.lists.items) ≡ xs
  kept xs e =
      let were : length key.plan.now.cells ≡ length c.args.block.now.plan.now.cells = ap (λ (p : PlanView). length p.cells) started.start.plan in
      let many : length c.args.lists.now.items ≡ length c.args.block.now.plan.now.cells = c.requires.begun.cells in
      take_at xs (drop (length xs) c.enter-body.new.lists.items) c.enter-body.new.lists.len
      (omega (arith, e.count, were, many, c.enter-body.ensures.lists, c.enter-body.new.lists.ok))

pub collect-all-requires-clause-parcels : goal.collect-all-requires-clause-parcels
collect-all-requires-clause-parcels g c =
    let d = (goal.at.collect-all-requires-clause-parcels g c).After-enter-body in (
      last g d,
      subst (λ (x : Start). AreChainParcels x (last g d) c.in-Ok.exits.items) (sym c.start.ensures)
          (exits_are (started g d) c.in-Ok.exits.items c.in-Ok.ensures.exits),
    )

pub returns-in-Ok-clause-whole : goal.returns-in-Ok-clause-whole
returns-in-Ok-clause-whole g c =
    let d = (goal.at.returns-in-Ok-clause-whole g c).After-enter-body in
    let b : SpreadBlock = c.args.block.now in
    let chain = subst (λ (x : Start). AreChainParcels x (last g d) c.in-Ok.exits.items) (sym c.start.ensures)
    (exits_are (started g d) c.in-Ok.exits.items c.in-Ok.ensures.exits) in
    let ws : AreAllWriters (key g d) (last g d) c.collect-all.result.items =
    subst (λ (x : Start). AreAllWriters x (last g d) c.collect-all.result.items) c.start.ensures (c.collect-all.ensures.lanes (last g d) chain) in
    let rows : AreAllCells (key g d) (last g d) c.collect-all.new.cells =
    subst (λ (x : Start). AreAllCells x (last g d) c.collect-all.new.cells) c.start.ensures (c.collect-all.ensures.cells (last g d) chain) in
    subst (AreWhole (block_in b) b.plan.now.tables c.args.buffers.begun.items c.collect-all.result.items c.args.lists.now.items)
    (sym (kept g d c.collect-all.new.cells rows)) (whole (started g d) ws rows)

pub collect-all-requires-in-Err-clause-parcels : goal.collect-all-requires-in-Err-clause-parcels
collect-all-requires-in-Err-clause-parcels g c =
    let d = (goal.at.collect-all-requires-in-Err-clause-parcels g c).After-enter-body in (
      0,
      subst (λ (x : Start). AreChainParcels x 0 c.in-Err.entries.items) (sym c.start-in-Err.ensures)
          (entries_are (started g d) c.in-Err.entries.items c.in-Err.ensures.entries),
    )

pub returns-clause-untouched : goal.returns-clause-untouched
returns-clause-untouched g c =
    let d = (goal.at.returns-clause-untouched g c).After-enter-body in
    let chain = subst (λ (x : Start). AreChainParcels x 0 c.in-Err.entries.items) (sym c.start-in-Err.ensures)
    (entries_are (started g d) c.in-Err.entries.items c.in-Err.ensures.entries) in
    untouched (started g d)
    (subst (λ (x : Start). AreAllWriters x 0 c.collect-all-in-Err.result.items) c.start-in-Err.ensures (c.collect-all-in-Err.ensures.lanes 0 chain))

pub returns-clause-as_before : goal.returns-clause-as_before
returns-clause-as_before g c =
    let d = (goal.at.returns-clause-as_before g c).After-enter-body in
    let chain = subst (λ (x : Start). AreChainParcels x 0 c.in-Err.entries.items) (sym c.start-in-Err.ensures)
    (entries_are (started g d) c.in-Err.entries.items c.in-Err.ensures.entries) in
    let rows : AreAllCells (key g d) 0 c.collect-all-in-Err.new.cells =
    subst (λ (x : Start). AreAllCells x 0 c.collect-all-in-Err.new.cells) c.start-in-Err.ensures (c.collect-all-in-Err.ensures.cells 0 chain) in
    ap lists_of (kept g d c.collect-all-in-Err.new.cells rows) ∙ cells_untouched (started g d) rows
