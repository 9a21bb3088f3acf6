use Rattle.std.proofs.Common.{true≢false, List, sym, refl, ◌∙◌, subst}
use base.Fml.{GName}
use Rattle.fv_pool.specs.Uncut.{left_of, loan_of}
use Rattle.fv_lines.specs.declared.shape.LaneState.{LaneState}
use Rattle.fv_lines.specs.declared.writer.LaneWriter.{LaneWriter}
use Rattle.fv_lines.specs.Cut.{IsChain}
use Rattle.fv_engine_crew.specs.declared.block.SpreadBlock.{SpreadBlock}
use Rattle.fv_engine_crew.specs.inner.Lanes.{AreSame}
use Rattle.fv_engine_crew.proofs.Begun.{may_begin}
use Rattle.fv_engine_crew.proofs.Chains.{chain_later}
use Rattle.fv_engine_crew.proofs.Ended.{HaveEnded, are_held, as_before}
use Rattle.fv_engine_crew.proofs.Leaving.{Handed, IsJournal, are_open, are_full, readable, ran}
use Rattle.fv_engine_crew.proofs.lent.use_buffers.Given.{Over}
use Rattle.fv_engine_crew.proofs.lent.use_buffers.Goals.{After-end-rest}
use Rattle.fv_engine_crew.proofs.lent.use_buffers.Goals as goal

-- the block as its lanes begin
module _ (g : Over) (c : After-end-rest g) where
  abbrev block : SpreadBlock
  block = c.args.pack.now.block.now

  abbrev before : List LaneState
  before = c.args.pack.now.states.now

  abbrev begun : List LaneWriter
  begun = c.begin_lanes.new.all.items

  handed : Handed block before (left_of c.args.uncut) c.args.pack.now.lists.now.items begun
  handed = record { spread = c.requires.may.spread; over = c.requires.may.over; began = c.begin_lanes.ensures.begun }

  -- what comes back is of the loan of the cells
  chain : (ws : List LaneWriter) → AreSame begun ws → IsChain (loan_of c.args.uncut) c.end-rest.result.1.name ws
  chain ws same =
      subst (λ (δ : GName). IsChain (loan_of c.args.uncut) δ ws) (sym c.end-rest.ensures.ended.0)
      (chain_later begun ws (loan_of c.args.uncut) (loan_of c.begin_lanes.new.uncut) same c.begin_lanes.ensures.chain)

pub begin_lanes-requires-clause-may : goal.begin_lanes-requires-clause-may
begin_lanes-requires-clause-may g c = may_begin c.args.pack.now.block.now c.args.pack.now.states.now (left_of c.args.uncut)
    c.args.pack.now.lists.now.items c.requires.may.over

pub run_begun-requires-clause-begun : goal.run_begun-requires-clause-begun
run_begun-requires-clause-begun g c = λ κs within. are_open (handed g (goal.at.run_begun-requires-clause-begun g c).After-end-rest)

pub end_whole-ended-requires-clause-full : goal.end_whole-ended-requires-clause-full
end_whole-ended-requires-clause-full g c =
    are_full (handed g (goal.at.end_whole-ended-requires-clause-full g c).After-end-rest) c.in-Ok.ensures.whole

pub end_whole-ended-requires-clause-chain : goal.end_whole-ended-requires-clause-chain
end_whole-ended-requires-clause-chain g c =
    (loan_of c.args.uncut, chain g (goal.at.end_whole-ended-requires-clause-chain g c).After-end-rest c.in-Ok.all.items c.in-Ok.ensures.whole.same)

pub end_whole-ended-requires-clause-there : goal.end_whole-ended-requires-clause-there
end_whole-ended-requires-clause-there g c =
    readable (handed g (goal.at.end_whole-ended-requires-clause-there g c).After-end-rest) c.in-Ok.ensures.whole
    (record { ordered = c.in-Ok.ensures.journal; counted = c.in-Ok.ensures.count })

pub stop_lanes-requires-clause-chain : goal.stop_lanes-requires-clause-chain
stop_lanes-requires-clause-chain g c =
    (loan_of c.args.uncut, chain g (goal.at.stop_lanes-requires-clause-chain g c).After-end-rest c.in-Err.all.items c.in-Err.ensures.untouched.same)

pub returns-in-Ok : goal.returns-in-Ok
returns-in-Ok g c =
    let d = (goal.at.returns-in-Ok g c).After-end-rest in
    let all : List LaneWriter = c.in-Ok.all.items in
    let whole = c.in-Ok.ensures.whole in
    let journal : IsJournal (block g d) c.run_begun.new.lines.items = record { ordered = c.in-Ok.ensures.journal; counted = c.in-Ok.ensures.count } in
    let e = c.end_whole-ended.ensures in
    let ended : HaveEnded (block g d).shapes.now (before g d) (block g d).frames (left_of c.args.uncut) (begun g d) all c.end_whole-ended.new.states
    c.end_whole-ended.result.last = record {
      began = c.begin_lanes.ensures.begun;
      same = whole.same;
      rest = c.end-rest.result.1.last;
      last = e.last;
      holds = λ i d l. (e.states i d l).holds;
    } in (
      e.name (loan_of c.args.uncut) (chain g d all whole.same),
      record {
        states_are = refl;
        lines_are = refl;
        output_is = refl;
        lists_are = refl;
        kept_is = refl;
        ran = λ yes. ran (handed g d) whole journal ended e.states e.samples;
        who = λ yes. c.in-Ok.ensures.who;
        left = λ no. absurd (true≢false no);
        lists_left = λ no. absurd (true≢false no);
        untold = λ no. absurd (true≢false no);
        silent = λ no. absurd (true≢false no);
        lanes = are_held ended;
        room = c.in-Ok.ensures.room;
      },
    )

pub returns-in-Err : goal.returns-in-Err
returns-in-Err g c =
    let d = (goal.at.returns-in-Err g c).After-end-rest in
    let all : List LaneWriter = c.in-Err.all.items in
    let untouched = c.in-Err.ensures.untouched in
    let e = c.stop_lanes.ensures in
    let ended : HaveEnded (block g d).shapes.now (before g d) (block g d).frames (left_of c.args.uncut) (begun g d) all c.stop_lanes.new.states
    c.stop_lanes.result.last = record {
      began = c.begin_lanes.ensures.begun;
      same = untouched.same;
      rest = c.end-rest.result.1.last;
      last = e.last;
      holds = λ i d l. (e.states i d l).holds;
    } in (
      e.name (loan_of c.args.uncut) (chain g d all untouched.same),
      record {
        states_are = refl;
        lines_are = refl;
        output_is = refl;
        lists_are = refl;
        kept_is = refl;
        ran = λ yes. absurd (true≢false (sym yes ∙ c.requires.may.not_yet));
        who = λ yes. absurd (true≢false (sym yes ∙ c.requires.may.not_yet));
        left = λ no. as_before ended e.states untouched;
        lists_left = λ no. c.in-Err.ensures.as_before;
        untold = λ no. c.in-Err.ensures.untold;
        silent = λ no. refl;
        lanes = are_held ended;
        room = c.in-Err.ensures.room;
      },
    )
