use Rattle.std.proofs.Common.{◌∙◌}
use Rattle.fv_parse.proofs.Known.{clash_is, keeps_first, width_on}
use Rattle.fv_parse.specs.headline.StaticErrors.{width_of}
use Rattle.std.proofs.Common.{take}
use Rattle.fv_parse.proofs.clash.first_clash.Goals as goal

pub returns-in-Some : goal.returns-in-Some
returns-in-Some c =
    let got = c.copied-found.ensures ∙ c.get.ensures.value ∙ c.loop-i.invariant.known c.text_of-name.result.now in
    clash_is c.args.among c.args.tokens.now c.args.list.now c.loop-i.i _ c.text_of-name.result.now c.copied-found.result c.clash_with.result _ _
    (record { inside = c.loop-i-test.true; named = c.text_of-name.ensures; got = got; given = c.clash_with.ensures }) c.in-Some.is c.loop-i.invariant.so_far

pub loop-i-preserved : goal.loop-i-preserved
loop-i-preserved c =
    let got = c.copied-found.ensures ∙ c.get.ensures.value ∙ c.loop-i.invariant.known c.text_of-name.result.now in
    record {
      so_far = clash_is c.args.among c.args.tokens.now c.args.list.now c.loop-i.i _ c.text_of-name.result.now c.copied-found.result c.clash_with.result _ _
          (record { inside = c.loop-i-test.true; named = c.text_of-name.ensures; got = got; given = c.clash_with.ensures })
          c.in_default.is c.loop-i.invariant.so_far;
      known =
          λ cs. keeps_first c.loop-i.seen c.insert.new.self
          (width_of c.args.tokens.now (take c.loop-i.i c.args.list.now)) c.text_of-name.result.now c.copied-found.result _ c.loop-i.invariant.known got
          (rw c.unwrap_or-first.ensures at c.in_ok-insert.ensures.updates) cs
          ∙ width_on c.args.tokens.now c.args.list.now c.loop-i.i _ c.text_of-name.result.now cs c.loop-i-test.true c.text_of-name.ensures;
    }
