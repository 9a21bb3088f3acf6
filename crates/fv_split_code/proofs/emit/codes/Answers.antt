use Rattle.std.proofs.Common.{◌≡◌, ◌+◌, suc, length, sym, ◌∙◌, subst, ap, arith, set}
use Rattle.std.proofs.lemmas.List.{get_or_read, length-set}
use Rattle.fv_split_plan.specs.Reach.{at}
use Rattle.fv_analysis.specs.headline.Stands.{StandsAt}
use Rattle.fv_split_plan.proofs.lemmas.NodeLemmas.{node_read}
use Rattle.fv_split_code.specs.Emitted.{AllServe, AddsNow, code_in}
use Rattle.fv_split_code.proofs.lemmas.AddLemmas.{all_serve_more, all_serve_none, all_serve_begins, all_serve_ends, code_read}
use Rattle.fv_split_code.proofs.emit.codes.Goals.{then-own-loops+in_ok-add, else-own-loops}
use Rattle.fv_split_code.proofs.emit.codes.Goals as goal

pub loop-s-init : goal.loop-s-init
loop-s-init c = record {
  long = c.in_ok-codes.ensures.0;
  registers = omega (arith, c.in_ok-registers.registers.ok.0, c.in_ok-registers.ensures.len, c.len.ensures);
  serve = all_serve_begins c.args.graph.now c.args.survey.now c.args.loops c.in_ok-registers.registers.items c.in_ok-codes.codes.items c.in_ok-codes.ensures.1;
}

pub loop-s-preserved : goal.loop-s-preserved
loop-s-preserved c =
    let g = c.args.graph.now in
    let t = c.args.survey.now in
    let s = c.loop-s.s in
    let own = c.index-own.result.now in
    let home : own ≡ at t.homes.items s = get_or_read t.homes.items s own (omega (arith, c.requires.homes)) c.index-own.ensures 0 in
    let z : suc s ≡ s + 1 = omega arith in
    elim c.if-own-loops.branch [
      | then-own-loops+in_ok-add w ↦
          let codes : c.if-own-loops.codes.items ≡ set c.loop-s.codes.items own w.add.new.code = ap (λ v. v.items) w.codes-is in
          let registers : c.if-own-loops.registers.items ≡ w.add.new.registers.items = ap (λ v. v.items) w.registers-is in
          let read : w.index_mut.result.now.items ≡ code_in c.loop-s.codes.items own =
          code_read c.loop-s.codes.items own w.index_mut.result.now (omega (arith, c.loop-s.invariant.long, w.if-own-loops.true)) w.index_mut.ensures.value in
          let node = w.signal-node.result in
          let stands : StandsAt g s node = record {
            within = omega arith;
            is = sym (node_read g s w.new.result node (omega arith) w.new.ensures w.signal-node.ensures.node);
          } in
          record {
            long = ap length codes ∙ length-set c.loop-s.codes.items own w.add.new.code ∙ c.loop-s.invariant.long;
            registers = ap length registers ∙ ap length w.in_ok-add.ensures.0.1 ∙ length-set c.loop-s.registers.items s w.in_ok-add.ensures.0.0
                ∙ c.loop-s.invariant.registers;
            serve =
                subst (λ n. AllServe g t c.args.loops n c.if-own-loops.registers.items c.if-own-loops.codes.items) z
                (subst (λ cs. AllServe g t c.args.loops (suc s) c.if-own-loops.registers.items cs) (sym codes)
                (subst (λ rs. AllServe g t c.args.loops (suc s) rs (set c.loop-s.codes.items own w.add.new.code)) (sym registers)
                (all_serve_more g t c.args.loops s own c.loop-s.registers.items w.add.new.registers.items c.loop-s.codes.items w.add.new.code node
                w.if-own-loops.true c.loop-s.invariant.long stands c.loop-s.invariant.registers home
                (subst (λ old. AddsNow t own s node c.loop-s.registers.items old w.add.new.registers.items w.add.new.code.items) read w.in_ok-add.ensures)
                c.loop-s.invariant.serve)));
          }
      | else-own-loops w ↦
          let codes : c.if-own-loops.codes.items ≡ c.loop-s.codes.items = ap (λ v. v.items) w.codes-is in
          let registers : c.if-own-loops.registers.items ≡ c.loop-s.registers.items = ap (λ v. v.items) w.registers-is in
          record {
            long = ap length codes ∙ c.loop-s.invariant.long;
            registers = ap length registers ∙ c.loop-s.invariant.registers;
            serve =
                subst (λ n. AllServe g t c.args.loops n c.if-own-loops.registers.items c.if-own-loops.codes.items) z
                (subst (λ cs. AllServe g t c.args.loops (suc s) c.if-own-loops.registers.items cs) (sym codes)
                (subst (λ rs. AllServe g t c.args.loops (suc s) rs c.loop-s.codes.items) (sym registers)
                (all_serve_none g t c.args.loops s c.loop-s.registers.items c.loop-s.codes.items (omega
                (arith, home, w.if-own-loops.false)) c.loop-s.invariant.serve)));
          }
    ]

pub returns : goal.returns
returns c =
    all_serve_ends c.args.graph.now c.args.survey.now c.args.loops c.loop-s.s c.loop-s.registers.items c.loop-s.codes.items
    (omega arith) c.loop-s.invariant.long c.loop-s.invariant.serve
