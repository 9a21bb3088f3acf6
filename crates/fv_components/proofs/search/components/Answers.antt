use Rattle.std.proofs.Common.{rules, ◌<◌, length, sym, subst, arith, ap, ◌∙◌}
use Rattle.std.proofs.lemmas.Result.{IfOk-weaker}
use Rattle.fv_components.specs.Reach.{next_of}
use Rattle.fv_components.specs.inner.Search.{state_of}
use Rattle.fv_components.proofs.Runs.{starts, all_numbered, ends_in}
use Rattle.fv_components.proofs.search.components.Goals as goal

pub loop-root-init : goal.loop-root-init
loop-root-init c =
    let e = c.in_ok-search.ensures in
    record {
      running = starts (next_of c.args.links.now) (length c.args.links.now) (state_of c.in_ok-search.search) (search rules) e.rest.0 e.rest.1 e.rest.2 e.rest.3;
      empty = ap length e.rest.1;
      met = λ s l. absurd (omega arith);
    }

pub numbers-requires : goal.numbers-requires
numbers-requires c =
    let i = c.loop-root.invariant in
    λ s l. all_numbered (next_of c.args.links.now) (length c.args.links.now) (state_of c.loop-root.search) i.running i.empty (λ s l. i.met s (omega arith)) s
    (subst (λ k. s < k) i.running.search.marked.long l)

pub returns : goal.returns
returns c =
    let i = c.loop-root.invariant in
    let long = i.running.search.marked.long in
    IfOk-weaker c.numbers.result _ _
    (λ v h. ends_in (next_of c.args.links.now) (length c.args.links.now) (state_of c.loop-root.search) v.items c.requires i.running (h.long ∙ long)
    (λ s l. h.each s (subst (λ k. s < k) (sym long) l))) c.numbers.ensures
