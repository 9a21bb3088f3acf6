use Rattle.std.proofs.Common.{[], ◌∷◌, ◌++◌, ◌∙◌, ap, rules, SFits, w32, to_z-of_z}
use Rattle.std.proofs.lemmas.Result.{IfOk-weaker}
use Rattle.fv_split_code.specs.declared.kind.Kind.TheVariants as kind
use Rattle.fv_loopcode.specs.declared.step.Step.TheVariants as step
use Rattle.fv_split_plan.specs.Reach.{at}
use Rattle.fv_split_code.specs.Emits.{owned_by}
use Rattle.fv_split_code.proofs.StepLemmas.{means_number, means_held, means_input, means_back, means_other, means_own, means_inner, moved, of_kind, owned_yes}
use Rattle.fv_split_code.proofs.StepLemmas.{owned_no, lane_within}
use Rattle.fv_split_code.proofs.operand.operand.Goals as goal

pub returns-in-Number : goal.returns-in-Number
returns-in-Number c =
    let fits : SFits w32 c.in-Number.n = search rules in
    let regs = c.args.registers.now in
    let old = c.args.code.now.items in
    let own = owned_by c.args.owners.now c.args.own in
    let number = ap (λ n. old ++ step.Number n ∷ []) (to_z-of_z fits) in
    IfOk-weaker c.push.result _ _
    (λ w h. moved regs old _ c.push.new.code.items c.args.signal _ w c.args.kind (kind.Number c.in-Number.n) own c.in-Number.is h.0 (h.1 ∙ number)
    (means_number regs old c.args.signal c.in-Number.n own))
    c.push.ensures

pub returns-in-Held : goal.returns-in-Held
returns-in-Held c =
    let regs = c.args.registers.now in
    let old = c.args.code.now.items in
    let own = owned_by c.args.owners.now c.args.own in
    IfOk-weaker c.push-in-Held.result _ _
    (λ w h. moved regs old _ c.push-in-Held.new.code.items c.args.signal _ w c.args.kind (kind.Held c.in-Held.k) own c.in-Held.is h.0 h.1
    (means_held regs old c.args.signal c.in-Held.k own))
    c.push-in-Held.ensures

pub returns-then-owners-lane : goal.returns-then-owners-lane
returns-then-owners-lane c =
    let regs = c.args.registers.now in
    let old = c.args.code.now.items in
    let own = owned_by c.args.owners.now c.args.own in
    let mine = owned_yes c.args.owners.now c.args.own c.in-Lane.lane (lane_within _ _ c.args.kind c.in-Lane.is c.requires.lanes) c.if-owners-lane.true in
    of_kind regs old old c.args.signal (at regs c.args.signal) c.args.kind (kind.Lane c.in-Lane.lane) own c.in-Lane.is
    (means_own regs old c.args.signal c.in-Lane.lane own mine)

pub returns-else-owners-lane : goal.returns-else-owners-lane
returns-else-owners-lane c =
    let regs = c.args.registers.now in
    let old = c.args.code.now.items in
    let own = owned_by c.args.owners.now c.args.own in
    let other = owned_no c.args.owners.now c.args.own c.in-Lane.lane (lane_within _ _ c.args.kind c.in-Lane.is c.requires.lanes) c.if-owners-lane.false in
    IfOk-weaker c.lane_now.result _ _
    (λ w h. moved regs old _ c.lane_now.new.code.items c.args.signal _ w c.args.kind (kind.Lane c.in-Lane.lane) own c.in-Lane.is h.0 h.1
    (means_other regs old c.args.signal c.in-Lane.lane own other))
    c.lane_now.ensures

pub returns-in-Input : goal.returns-in-Input
returns-in-Input c =
    let regs = c.args.registers.now in
    let old = c.args.code.now.items in
    let own = owned_by c.args.owners.now c.args.own in
    IfOk-weaker c.push-in-Input.result _ _
    (λ w h. moved regs old _ c.push-in-Input.new.code.items c.args.signal _ w c.args.kind (kind.Input c.in-Input.i) own c.in-Input.is h.0 h.1
    (means_input regs old c.args.signal c.in-Input.i own))
    c.push-in-Input.ensures

pub returns-in-Back : goal.returns-in-Back
returns-in-Back c =
    let regs = c.args.registers.now in
    let old = c.args.code.now.items in
    let own = owned_by c.args.owners.now c.args.own in
    IfOk-weaker c.lane_ago.result _ _
    (λ w h. moved regs old _ c.lane_ago.new.code.items c.args.signal _ w c.args.kind (kind.Back c.in-Back.lane) own c.in-Back.is h.0 h.1
    (means_back regs old c.args.signal c.in-Back.lane own))
    c.lane_ago.ensures

pub returns-in-Inner : goal.returns-in-Inner
returns-in-Inner c =
    let regs = c.args.registers.now in
    let old = c.args.code.now.items in
    let own = owned_by c.args.owners.now c.args.own in
    of_kind regs old old c.args.signal (at regs c.args.signal) c.args.kind kind.Inner own c.in-Inner.is (means_inner regs old c.args.signal own)
