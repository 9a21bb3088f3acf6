use Rattle.std.proofs.Common.{Ok, sym, subst}
use Rattle.fv_eval.specs.declared.continuation.ForDiagram as code_for_diagram
use Rattle.fv_eval.specs.declared.continuation.Focus.TheVariants as focus
use Rattle.fv_eval_scopes.specs.declared.value.Value.TheVariants as value
use Rattle.fv_eval.specs.inner.Continuations.{gave}
use Rattle.fv_eval.proofs.Received.{Receives, received, left_receives, right_receives, later_receives, negated_receives, binding_receives, ports_receives}
use Rattle.fv_eval.proofs.Received.{turning_receives, counting_receives, body_receives, finish_receives}
use Rattle.fv_eval.proofs.machine.Machine.diagram_arrives.Goals as goal

pub returns-in-Left : goal.returns-in-Left
returns-in-Left c =
    let p = c.args.text.now in
    let m = c.args.self.now in
    let n = c.right.new.self in
    let f = c.in-Left in
    subst (λ (x : code_for_diagram.ForDiagram). Receives p m n c.right.result x c.args.diagram) (sym f.is)
    (left_receives p m n c.right.result f.binary f.env c.args.diagram c.right.ensures)

pub returns-in-Ports : goal.returns-in-Ports
returns-in-Ports c =
    let p = c.args.text.now in
    let m = c.args.self.now in
    let n = c.ports.new.self in
    let f = c.in-Ports in
    subst (λ (x : code_for_diagram.ForDiagram). Receives p m n c.ports.result x c.args.diagram) (sym f.is)
    (ports_receives p m n c.ports.result f.side c.args.diagram (c.ports.ensures p))

pub returns-in-Counting : goal.returns-in-Counting
returns-in-Counting c =
    let p = c.args.text.now in
    let m = c.args.self.now in
    let n = c.count.new.self in
    let f = c.in-Counting in
    subst (λ (x : code_for_diagram.ForDiagram). Receives p m n c.count.result x c.args.diagram) (sym f.is)
    (counting_receives p m n c.count.result f.iteration f.env c.args.diagram c.count.ensures)

pub returns-in-Finish : goal.returns-in-Finish
returns-in-Finish c =
    let p = c.args.text.now in
    let m = c.args.self.now in
    subst (λ (x : code_for_diagram.ForDiagram). Receives p m m (Ok (focus.Give (value.Diagram c.args.diagram))) x c.args.diagram) (sym c.in-Finish.is)
    (finish_receives p m c.args.diagram)

pub returns-in-Right : goal.returns-in-Right
returns-in-Right c =
    let p = c.args.text.now in
    let m = c.args.self.now in
    let r = c.join.result in
    let f = c.in-Right in
    received p m (record m { drawing = c.join.new.self }) (gave r) c.give.result c.args.continuation _ c.args.diagram c.give.ensures f.is
    (right_receives p m c.join.new.self r f.operator f.left c.args.diagram c.join.ensures.keeps c.join.ensures.makes)

pub returns-in-Later : goal.returns-in-Later
returns-in-Later c =
    let p = c.args.text.now in
    let m = c.args.self.now in
    let r = c.delay.result in
    let f = c.in-Later in
    received p m (record m { drawing = c.delay.new.self }) (gave r) c.give-in-Later.result c.args.continuation _ c.args.diagram c.give-in-Later.ensures f.is
    (later_receives p m c.delay.new.self r c.args.diagram c.delay.ensures.keeps c.delay.ensures.makes)

pub returns-in-Negated : goal.returns-in-Negated
returns-in-Negated c =
    let p = c.args.text.now in
    let m = c.args.self.now in
    let r = c.negate.result in
    let f = c.in-Negated in
    received p m (record m { drawing = c.negate.new.self }) (gave r) c.give-in-Negated.result c.args.continuation _ c.args.diagram
    c.give-in-Negated.ensures f.is
    (negated_receives p m c.negate.new.self r c.args.diagram c.negate.ensures.keeps c.negate.ensures.makes)

pub returns-in-Binding : goal.returns-in-Binding
returns-in-Binding c =
    let p = c.args.text.now in
    let m = c.args.self.now in
    let r = c.bind_all.result in
    let f = c.in-Binding in
    received p m (record m { drawing = c.bind_all.new.self }) (gave r) c.give-in-Binding.result c.args.continuation _ c.args.diagram
    c.give-in-Binding.ensures f.is
    (binding_receives p m c.bind_all.new.self r f.slot f.slots c.args.diagram c.bind_all.ensures.keeps c.bind_all.ensures.makes)

pub returns-in_ok-push-in-Turning : goal.returns-in_ok-push-in-Turning
returns-in_ok-push-in-Turning c =
    let p = c.args.text.now in
    let m = c.args.self.now in
    let r = c.next_turned.result in
    let f = c.in-Turning in
    subst (λ (x : code_for_diagram.ForDiagram). Receives p m c.next_turned.new.self r x c.args.diagram) (sym f.is)
    (turning_receives p m c.next_turned.new.self
    r f.function f.arguments f.next f.done c.push.new.self.items c.args.diagram c.in_ok-push-in-Turning.ensures.items (c.next_turned.ensures p))

pub returns-in_ok-push-in-Body : goal.returns-in_ok-push-in-Body
returns-in_ok-push-in-Body c =
    let p = c.args.text.now in
    let m = c.args.self.now in
    let r = c.next_body.result in
    let f = c.in-Body in
    subst (λ (x : code_for_diagram.ForDiagram). Receives p m c.next_body.new.self r x c.args.diagram) (sym f.is)
    (body_receives p m c.next_body.new.self
    r f.iteration f.env f.left f.done c.push-in-Body.new.self.items c.args.diagram c.in_ok-push-in-Body.ensures.items c.next_body.ensures)
