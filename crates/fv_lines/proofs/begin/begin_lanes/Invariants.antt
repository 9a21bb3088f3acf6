use Rattle.std.proofs.Common.{◌≡◌, sum, take, drop, vec_capacity}
use Rattle.fv_pool.specs.Uncut.{left_of, loan_of}
use Rattle.fv_lines.specs.Cut.{lengths_by, IsChain, AreBegun}
use Rattle.fv_lines.proofs.begin.begin_lanes.Given as goal

abbrev pub invariant-loop-i : goal.invariant-loop-i
invariant-loop-i l = record {
  room : vec_capacity l.all ≡ vec_capacity l.fn.all;
  left : left_of l.uncut ≡ drop (sum (take l.i (lengths_by l.shapes))) (left_of l.fn.uncut);
  begun : AreBegun l.shapes l.states l.frames (left_of l.fn.uncut) l.i l.all.items;
  chain : IsChain (loan_of l.fn.uncut) (loan_of l.uncut) l.all.items;
}
