use Rattle.std.proofs.Common.{◌≡◌, ◌∷◌, length, map, take, drop, sym, ap, ◌∙◌, subst, All}
use Rattle.std.proofs.lemmas.List.{with_items_is, drop-map}
use Rattle.std.proofs.lemmas.List.Elements.{All-take}
use Rattle.fv_diagram_runner.specs.inner.Code.{code_of, written, IsRegister, fed_of}
use Rattle.fv_diagram_runner.proofs.Codes.{code_shuts}
use Rattle.fv_diagram.proofs.lemmas.Lists.{on_ok_always}
use Rattle.fv_diagram_runner.proofs.draft.DraftSignals.close.Goals as goal
use Rattle.fv_diagram_runner.proofs.draft.DraftSignals.close.Goals.{in-Some, in_default}

pub invariant_of-self : goal.invariant_of-self
invariant_of-self c =
    let l = c.in-Some.l in
    let outs = take l.count c.args.outs.now in
    let ws = with_items_is c.self.inside.sources c.overlay.new.to (c.overlay.auto.to ∙ c.deref_mut.ensures.len) in
    let wires = subst (λ m. All (IsRegister m) c.args.outs.now) (sym c.self.view_is) c.requires.wires in
    code_shuts (code_of c.self.inside) _ l _ outs c.self.invariant c.in-Some.ensures.items
    (ap length ws ∙ c.overlay.auto.to ∙ ap length c.deref_mut.ensures.value)
    (ws ∙ c.overlay.ensures ∙ ap (written l.first outs) c.deref_mut.ensures.value) (All-take (IsRegister (code_of c.self.inside)) l.count c.args.outs.now wires)

pub returns-clause-fed : goal.returns-clause-fed
returns-clause-fed c =
    let f = c.requires.fed in
    let now : fed_of c.match-pop_front.self ≡ map (λ l. l.count) c.pop_front.new.self.items =
    elim c.match-pop_front.branch [ in-Some w ↦ ap fed_of w.self-is | in_default w ↦ ap fed_of w.self-is ] in
    let same : fed_of c.args.self.now ≡ map (λ l. l.count) c.self.inside.loops.items = ap fed_of (sym c.self.view_is) in
    let rest : f.1 ≡ fed_of c.match-pop_front.self =
    ap (drop 1) (sym f.2 ∙ same) ∙ drop-map (λ l. l.count) 1 c.self.inside.loops.items ∙ ap (map (λ l. l.count)) (sym c.pop_front.ensures.rest) ∙ sym now in
    on_ok_always c.collect.result _ (f.0, f.2 ∙ ap (λ ns. f.0 ∷ ns) rest)
