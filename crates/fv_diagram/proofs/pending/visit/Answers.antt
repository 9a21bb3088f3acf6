use Rattle.std.proofs.Common.{◌<◌, ◌∷◌, [], refl, sym, ap, ◌∙◌, arith, rules, take, drop, Global, SFits, w32, to_z-of_z, All, subst, length}
use Rattle.std.specs.declared.collections.VecDeque.{VecDeque}
use Rattle.std.proofs.lemmas.Result.{IfOk-weaker}
use Rattle.fv_diagram.specs.headline.Diagram.{Constant, Wave, Table}
use Rattle.fv_diagram.specs.Arena.{count_of}
use Rattle.fv_diagram.specs.declared.pending.Task.TheVariants as task
use Rattle.fv_diagram.proofs.lemmas.Turns.{leaf_advances, slot_advances, bind_advances, par_advances}
use Rattle.fv_diagram.proofs.lemmas.Turns.{seq_advances, split_advances, merge_advances, rec_advances}
use Rattle.fv_diagram.proofs.pending.visit.Goals as goal

pub returns-in-Prim : goal.returns-in-Prim
returns-in-Prim g c = IfOk-weaker {X = VecDeque _ Global} _ _ _
    (λ v x. leaf_advances _ c.args.pending.now.tasks.items c.args.pending.now.plugs.items c.args.now.items v.items c.args.signals.now c.primitive.new.signals
    c.args.id _ c.in-Prim.ensures.tree c.requires x) c.primitive.ensures

pub returns-in-Number : goal.returns-in-Number
returns-in-Number g c =
    let f : SFits w32 c.in-Number.n = search rules in
    IfOk-weaker {X = VecDeque _ Global} _ _ _
    (λ v x. leaf_advances _ c.args.pending.now.tasks.items c.args.pending.now.plugs.items c.args.now.items v.items c.args.signals.now c.single.new.signals
    c.args.id _ (c.in-Number.ensures.tree ∙ ap Constant (sym (to_z-of_z f))) c.requires x) c.single.ensures

pub returns-in-Control : goal.returns-in-Control
returns-in-Control g c = IfOk-weaker {X = VecDeque _ Global} _ _ _
    (λ v x. leaf_advances _ c.args.pending.now.tasks.items c.args.pending.now.plugs.items c.args.now.items v.items c.args.signals.now
    c.single-in-Control.new.signals c.args.id _ c.in-Control.ensures.tree c.requires x) c.single-in-Control.ensures

pub returns-in-Slot : goal.returns-in-Slot
returns-in-Slot g c =
    IfOk-weaker {X = VecDeque _ Global} _ _ _
    (λ v x. slot_advances _ c.args.pending.now.tasks.items c.args.pending.now.plugs.items c.args.now.items v.items c.args.signals.now c.args.id c.in-Slot.slot
    c.in-Slot.ensures.tree (x ∙ ap (λ w. w ∷ []) c.plugged.ensures) c.requires) c.listed.ensures

pub returns-in_ok-push_front-in-Bind-3 : goal.returns-in_ok-push_front-in-Bind-3
returns-in_ok-push_front-in-Bind-3 g c =
    let b : c.in-Bind.body < count_of c.args.diagrams.now = omega (arith, c.in-Bind.ensures.children, c.requires.tasks.0) in
    bind_advances _ c.args.pending.now.tasks.items _ c.args.pending.now.plugs.items _ c.args.now.items _ c.args.signals.now c.args.id c.in-Bind.slot
    c.in-Bind.body c.index-wire.result.now c.in-Bind.ensures.tree b (search rules) c.pop_front.ensures.rest
    c.in_ok-push_front-in-Bind.ensures.items (c.in_ok-push_front-in-Bind-3.ensures.items ∙ ap (λ ts. task.Visit c.in-Bind.body ∷ ts)
    c.in_ok-push_front-in-Bind-2.ensures.items) c.requires

pub returns-in_ok-push_front-in-Par-2 : goal.returns-in_ok-push_front-in-Par-2
returns-in_ok-push_front-in-Par-2 g c =
    let l : c.in-Par.left < count_of c.args.diagrams.now = omega (arith, c.in-Par.ensures.children.0, c.requires.tasks.0) in
    let r : c.in-Par.right < count_of c.args.diagrams.now = omega (arith, c.in-Par.ensures.children.1, c.requires.tasks.0) in
    let n = c.from.ensures ∙ c.arity.ensures.arity.0 in
    let p = c.in_ok-first-in-Par.ensures in
    par_advances _ c.args.pending.now.tasks.items _ c.args.pending.now.plugs.items c.args.now.items _ _ c.args.signals.now c.args.id
    c.in-Par.left c.in-Par.right c.in-Par.ensures.tree l r (p.0 ∙ ap (λ n. take n c.args.now.items) n) (p.1 ∙ ap (λ n. drop n c.args.now.items) n)
    (c.in_ok-push_front-in-Par-2.ensures.items ∙ ap (λ ts. task.Visit c.in-Par.left ∷ ts) c.in_ok-push_front-in-Par.ensures.items) c.requires

pub returns-in_ok-push_front-in-Seq-2 : goal.returns-in_ok-push_front-in-Seq-2
returns-in_ok-push_front-in-Seq-2 g c =
    let l : c.in-Seq.left < count_of c.args.diagrams.now = omega (arith, c.in-Seq.ensures.children.0, c.requires.tasks.0) in
    let r : c.in-Seq.right < count_of c.args.diagrams.now = omega (arith, c.in-Seq.ensures.children.1, c.requires.tasks.0) in
    seq_advances _ c.args.pending.now.tasks.items _ c.args.pending.now.plugs.items c.args.now.items c.args.signals.now c.args.id c.in-Seq.left c.in-Seq.right
    c.in-Seq.ensures.tree l r (c.in_ok-push_front-in-Seq-2.ensures.items ∙ ap (λ ts. task.Visit c.in-Seq.left ∷ ts) c.in_ok-push_front-in-Seq.ensures.items)
    c.requires

pub returns-in_ok-put_between-in-Split : goal.returns-in_ok-put_between-in-Split
returns-in_ok-put_between-in-Split g c =
    let l : c.in-Split.left < count_of c.args.diagrams.now = omega (arith, c.in-Split.ensures.children.0, c.requires.tasks.0) in
    let r : c.in-Split.right < count_of c.args.diagrams.now = omega (arith, c.in-Split.ensures.children.1, c.requires.tasks.0) in
    split_advances _ c.args.pending.now.tasks.items _ c.args.pending.now.plugs.items c.args.now.items c.args.signals.now c.args.id c.in-Split.left
    c.in-Split.right _ c.in-Split.ensures.tree l r (c.from-to.ensures ∙ c.arity-in-Split.ensures.arity.0) c.in_ok-put_between-in-Split.ensures c.requires

pub returns-in_ok-put_between-in-Merge : goal.returns-in_ok-put_between-in-Merge
returns-in_ok-put_between-in-Merge g c =
    let l : c.in-Merge.left < count_of c.args.diagrams.now = omega (arith, c.in-Merge.ensures.children.0, c.requires.tasks.0) in
    let r : c.in-Merge.right < count_of c.args.diagrams.now = omega (arith, c.in-Merge.ensures.children.1, c.requires.tasks.0) in
    merge_advances _ c.args.pending.now.tasks.items _ c.args.pending.now.plugs.items c.args.now.items c.args.signals.now c.args.id c.in-Merge.left
    c.in-Merge.right _ c.in-Merge.ensures.tree l r (c.from-to-in-Merge.ensures ∙ c.arity-in-Merge.ensures.arity.0)
    c.in_ok-put_between-in-Merge.ensures c.requires

pub returns-in_ok-put_between-in-Rec : goal.returns-in_ok-put_between-in-Rec
returns-in_ok-put_between-in-Rec g c =
    let l : c.in-Rec.left < count_of c.args.diagrams.now = omega (arith, c.in-Rec.ensures.children.0, c.requires.tasks.0) in
    let r : c.in-Rec.right < count_of c.args.diagrams.now = omega (arith, c.in-Rec.ensures.children.1, c.requires.tasks.0) in
    let o = c.in_ok-late-in-Rec.ensures in
    let q = c.open.new.self in
    let late = c.from_vec-late.ensures.items in
    rec_advances _ c.args.pending.now.tasks.items _ c.args.pending.now.plugs.items c.args.now.items c.from_vec-late.result.items c.args.now
    c.args.signals.now q c.args.id c.in-Rec.left c.in-Rec.right _ c.in-Rec.ensures.tree l r (c.from-in-Rec.ensures ∙ c.arity-in-Rec.ensures.arity.0)
    refl (ap (λ x. (x, q)) late ∙ o.done) (ap length late ∙ o.width) (subst (All (g.S.Signals.is_wire q)) (sym late) o.wires) o.keeps o.fed
    (c.in_ok-put_between-in-Rec.ensures ∙ ap (λ ts. task.Visit c.in-Rec.right ∷ task.Before c.args.now ∷ task.Visit c.in-Rec.left ∷ ts)
    c.in_ok-push_front-in-Rec.ensures.items) c.requires

pub returns-in-Wave : goal.returns-in-Wave
returns-in-Wave g c = IfOk-weaker {X = VecDeque _ Global} _ _ _
    (λ v x. leaf_advances _ c.args.pending.now.tasks.items c.args.pending.now.plugs.items c.args.now.items v.items c.args.signals.now c.waveform.new.signals
    c.args.id _ (c.in-Wave.ensures.tree ∙ ap Wave (sym c.values.ensures.values)) c.requires x) c.waveform.ensures

pub returns-in-Table : goal.returns-in-Table
returns-in-Table g c = IfOk-weaker {X = VecDeque _ Global} _ _ _
    (λ v x. leaf_advances _ c.args.pending.now.tasks.items c.args.pending.now.plugs.items c.args.now.items v.items c.args.signals.now c.tabled.new.signals
    c.args.id _ (c.in-Table.ensures.tree ∙ ap (λ T. Table T c.in-Table.writes) (sym c.values-in-Table.ensures.values)) c.requires x) c.tabled.ensures
