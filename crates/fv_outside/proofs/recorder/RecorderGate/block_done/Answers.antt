use Rattle.std.proofs.Common.{◌≡◌, ◌+◌, ◌-◌, ◌<◌, ◌≤◌, [], ◌∷◌, ◌++◌, true, length, rules, arith, ap}
use Rattle.fv_outside.specs.declared.recorder.KeptBlock.{KeptBlock}
use Rattle.fv_outside.proofs.Recordings.{IsLast, recorded_more}
use Rattle.fv_outside.proofs.recorder.RecorderGate.block_done.Goals as goal

pub returns : goal.returns
returns c =
    let k = c.self.inside in
    let b : KeptBlock = record { loops = c.args.loops; vectors = c.args.vectors; reads = c.part_behind.result; lines = c.part_behind-2.result } in
    let tells : k.tells ≡ true = search rules in
    let rs : c.extend_from_slice.new.self.items ≡ k.reads.items ++ c.args.reads.now = search rules in
    let ls : c.extend_from_slice-2.new.self.items ≡ k.lines.items ++ c.args.lines.now = search rules in
    let bs : c.push_reserved.new.self.items ≡ k.blocks.items ++ b ∷ [] = search rules in
    let last : IsLast k.reads.items c.args.reads.now k.lines.items c.args.lines.now b = record {
      reads_start = let e = ap length rs in let f = c.part_behind.ensures in omega arith;
      reads_end = let e = ap length rs in let f = c.part_behind.ensures in omega arith;
      lines_start = let e = ap length ls in let f = c.part_behind-2.ensures in omega arith;
      lines_end = let e = ap length ls in let f = c.part_behind-2.ensures in omega arith;
    } in
    rw (← c.self.view_is, tells, rs, ls, bs) (recorded_more k.blocks.items k.reads.items c.args.reads.now k.lines.items c.args.lines.now k.most_blocks
    k.most_lines b c.self.invariant.0 last (search rules) (search rules) (search rules))
