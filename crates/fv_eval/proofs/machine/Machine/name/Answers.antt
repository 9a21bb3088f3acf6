use Rattle.std.proofs.Common.{refl, sym, ap, subst, ◌∙◌}
use Rattle.fv_parse.specs.headline.Trees.{text_of}
use Rattle.fv_parse.specs.Trees.{Parsed}
use Rattle.fv_rules.specs.headline.Values.{Meaning, lookup}
use Rattle.fv_rules.specs.Machine.{begin_name}
use Rattle.fv_eval.specs.declared.machine.Machine as code_machine
use Rattle.fv_eval.specs.inner.Continuations.{Goes, state_of, world}
use Rattle.fv_eval.proofs.Named.{known_goes, body_goes, slot_is, unknown_goes}
use Rattle.fv_eval.proofs.machine.Machine.name.Goals as goal

pub returns-in-Known : goal.returns-in-Known
returns-in-Known c =
    let p = c.args.text.now in
    let m = c.args.self.now in
    let n : code_machine.Machine = record m { shortcuts = c.look_up.new.shortcuts } in
    λ x E named e Fs k. known_goes p n c.in-Known.value x (lookup p.tokens E x) Fs
    (c.in-Known.ensures.means k.0.1 (world p m) x E refl refl named e) ((k.0.0, c.in-Known.ensures.kept k.0.1, k.0.2), k.1)

pub returns-in-Body : goal.returns-in-Body
returns-in-Body c =
    let p = c.args.text.now in
    let m = c.args.self.now in
    let n : code_machine.Machine = record m { shortcuts = c.look_up.new.shortcuts } in
    λ x E named e Fs k. body_goes p n c.in-Body.body c.in-Body.env x (lookup p.tokens E x) Fs
    (c.in-Body.ensures.means k.0.1 (world p m) x E refl refl named e) ((k.0.0, c.in-Body.ensures.kept k.0.1, k.0.2), k.1)

pub returns-in_ok-name-in-Unknown : goal.returns-in_ok-name-in-Unknown
returns-in_ok-name-in-Unknown c =
    let p = c.args.text.now in
    let m = c.args.self.now in
    let n : code_machine.Machine = record m { shortcuts = c.look_up.new.shortcuts } in
    let w = c.in_ok-name-in-Unknown in
    λ x E named e Fs k. unknown_goes p n w.name x (lookup p.tokens E x) Fs (c.in-Unknown.ensures.means k.0.1 (world p m) x E refl refl named e)
    (w.ensures ∙ c.text.ensures ∙ ap (λ (q : Parsed). text_of q.tokens c.args.name) c.tree.ensures ∙ named.0)

pub returns-in-Slot : goal.returns-in-Slot
returns-in-Slot c =
    let p = c.args.text.now in
    let m = c.args.self.now in
    let n : code_machine.Machine = record m { shortcuts = c.look_up.new.shortcuts } in
    let f = c.in-Slot in
    λ x E named e Fs k.
    let shown = slot_is (world p m) f.slot x (lookup p.tokens E x) (f.ensures.means k.0.1 (world p m) x E refl refl named e) in
    subst (λ (M : Meaning). Goes p c.give_slot.new.self c.give_slot.result (begin_name x M Fs (state_of n))) (sym shown)
    (c.give_slot.ensures p Fs ((k.0.0, f.ensures.kept k.0.1, k.0.2), k.1))
