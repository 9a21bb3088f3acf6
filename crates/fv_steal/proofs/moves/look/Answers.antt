use Rattle.std.proofs.Common.{ap, ◌∙◌}
use Rattle.fv_ready.specs.declared.view.View.{View}
use Rattle.fv_ready.specs.Seats.{view_of}
use Rattle.fv_steal.proofs.Looks.{saw_ready, looked_more}
use Rattle.fv_steal.proofs.moves.look.Goals as goal

pub returns-then-is_ready-clause-saw : goal.returns-then-is_ready-clause-saw
returns-then-is_ready-clause-saw g c = let l = c.is_ready.ensures.list in
    saw_ready c.args.t l.0 (view_of c.loop.seat) (view_of c.is_ready.new.seat) c.is_ready.result l.1 l.2 c.if-is_ready.true

pub returns-then-is_ready-clause-looked : goal.returns-then-is_ready-clause-looked
returns-then-is_ready-clause-looked g c = let l = c.is_ready.ensures.list in
    looked_more (view_of c.args.seat.now) (view_of c.loop.seat) (view_of c.is_ready.new.seat) c.args.t l.0 l.1 c.loop.invariant.2.looked

pub loop-preserved : goal.loop-preserved
loop-preserved g c = let l = c.is_ready.ensures.list in let i = c.loop.invariant.2 in (
  tt,
  tt,
  record {
    seat = c.is_ready.ensures.seat;
    looked = looked_more (view_of c.args.seat.now) (view_of c.loop.seat) (view_of c.is_ready.new.seat) c.args.t l.0 l.1 i.looked;
    numbers = ap (λ (v : View _). v.numbers) l.1 ∙ i.numbers;
    same = (c.is_ready.ensures.slots ∙ i.same.0, c.is_ready.ensures.hand ∙ i.same.1);
  },
)
