use Rattle.std.proofs.Common.{◌≡◌, ℕ, ◌+◌, ◌<◌, ◌++◌, List, [], ◌∷◌, length, get_or, sym, ap, subst, ◌∙◌, arith, ℤ}
use base.Fml.{GName}
use Rattle.fv_pool.specs.Layout.{part}
use Rattle.fv_pool.specs.declared.loan.Halves.{Halves}
use Rattle.fv_pool.specs.Uncut.{left_of, loan_of}
use Rattle.fv_lines.specs.Hold.{held}
use Rattle.fv_lines.specs.Writer.{outer_of}
use Rattle.fv_lines.specs.declared.shape.LaneShape.{LaneShape}
use Rattle.fv_lines.specs.declared.shape.LaneState.{LaneState}
use Rattle.fv_lines.specs.declared.writer.LaneWriter.{LaneWriter}
use Rattle.fv_lines.specs.Cut.{lengths_by, IsChain, IsBegun, AreBegun}
use Rattle.fv_lines.proofs.Begins.{get_any, part_is, left_next, begun_more}
use Rattle.fv_lines.proofs.Chains.{chain_push}
use Rattle.fv_lines.proofs.begin.begin_lanes.Goals as goal

pub loop-i-preserved : goal.loop-i-preserved
loop-i-preserved c =
    let shapes : List LaneShape = c.args.shapes.now in
    let states : List LaneState = c.args.states.now in
    let cells : List ℤ = left_of c.args.uncut.now in
    let i : ℕ = c.loop-i.i in
    let x : LaneShape = c.index-shapes-i-in-loop-i.result in
    let none : LaneState = record { start = 0 } in
    let s : LaneState = get_or states i none in
    let w : LaneWriter = c.begin.result in
    let ws : List LaneWriter = c.loop-i.all.items in
    let there : i < length shapes = c.loop-i-test.true in
    let x_is : get_or shapes i x ≡ x = sym c.index-shapes-i-in-loop-i.is in
    let s_is : get_or states i s ≡ s = get_any states i s none (omega (arith, there, c.requires.may.count)) in
    let len : c.len.result ≡ x.len =
    c.len.ensures ∙ ap (λ (z : LaneShape). z.len) (c.index-shapes-i.is ∙ get_any shapes i c.index-shapes-i.result x there ∙ x_is) in
    let e = c.next-part.ensures in
    let items : c.next-part.result.cells.items ≡ part (lengths_by shapes) i cells =
    part_is shapes states c.args.frames cells c.requires.may i x s there x_is s_is (left_of c.loop-i.uncut) c.next-part.result.cells.items
    c.len.result len c.loop-i.invariant.left e.cells in
    let begun : IsBegun x s.start c.args.frames (part (lengths_by shapes) i cells) w = record {
      list = c.begin.ensures.list ∙ ap (held x s.start) items;
      written = c.begin.ensures.rest.0;
      frames_are = c.begin.ensures.rest.1;
      shape_is = c.begin.ensures.rest.2;
    } in
    let outer : outer_of w ≡ c.next-part.result.halves = c.begin.ensures.rest.4 in
    record {
      room = c.push_reserved.ensures.capacity ∙ c.loop-i.invariant.room;
      left = left_next shapes states c.args.frames cells c.requires.may i x s there x_is s_is (left_of c.loop-i.uncut) (left_of c.next-part.new.self)
          c.len.result len c.loop-i.invariant.left e.left;
      begun = subst (λ (us : List LaneWriter). AreBegun shapes states c.args.frames cells (i + 1) us) (sym c.push_reserved.ensures.items)
          (begun_more shapes states c.args.frames cells c.requires.may i x s there x_is s_is ws w c.loop-i.invariant.begun begun);
      chain = subst (λ (us : List LaneWriter). IsChain (loan_of c.args.uncut.now) (loan_of c.next-part.new.self) us) (sym c.push_reserved.ensures.items)
          (subst (λ (δ : GName). IsChain (loan_of c.args.uncut.now) δ (ws ++ w ∷ [])) (ap (λ (h : Halves). h.high) outer ∙ e.high)
          (chain_push ws w (loan_of c.args.uncut.now) (loan_of c.loop-i.uncut) c.loop-i.invariant.chain (ap (λ (h : Halves). h.whole) outer ∙ e.whole)));
    }
