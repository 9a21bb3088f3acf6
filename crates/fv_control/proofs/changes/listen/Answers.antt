use Rattle.std.proofs.Common.{◌<◌, ◌≤◌, ◌∙◌, List, ℤ, length, get_or, sym, ap, arith, rules, w32, SFits}
use Rattle.std.specs.Prelude.{slice_set}
use Rattle.std.proofs.lemmas.Int.{to_z-of_z}
use Rattle.fv_control.specs.declared.script.Change.{Change}
use Rattle.fv_control.specs.Laws.{no_change}
use Rattle.fv_control.proofs.lemmas.Listening.{applied_more, all_more, all_behind}
use Rattle.fv_control.proofs.changes.listen.Goals as goal

pub returns-then-change-frame-clause-behind : goal.returns-then-change-frame-clause-behind
returns-then-change-frame-clause-behind c = λ never. all_behind 0 c.args.frame c.changes.next c.args.changes.now no_change never (λ l. c.if-change-frame.true)

pub changes-preserved : goal.changes-preserved
changes-preserved c =
    let cs = c.args.changes.now in
    let n = c.changes.next in
    let change = get_or cs n no_change in
    let fits : SFits w32 c.value_at.result = search rules in
    let there : n < length cs = c.changes-test.true in
    record {
      within = omega arith;
      values = λ initial e.
          ap (λ (v : ℤ). slice_set c.changes.values change.control v) (to_z-of_z w32 c.value_at.result fits ∙ c.value_at.ensures)
          ∙ ap (λ (vs : List ℤ). slice_set vs change.control change.value) (c.changes.invariant.values initial e)
          ∙ sym (applied_more initial cs n no_change there);
      come = λ h. all_more (λ (b : Change). b.frame ≤ c.args.frame) cs n no_change there (c.changes.invariant.come h) c.if-change-frame.false;
    }
