use Rattle.std.proofs.Common.{◌<◌, reverse, sym, subst}
use Rattle.fv_diagram_numbers.proofs.Looking.{next_last}
use Rattle.fv_diagram_numbers.proofs.Parted.{Parts, all_sizes, one_smaller, parts_one}
use Rattle.fv_diagram_numbers.proofs.head.parts.Goals as goal

pub loop-id-smaller : goal.loop-id-smaller
loop-id-smaller c =
    let a = c.args.diagrams.now in
    let rest = c.pop.new.self.items in
    let last = next_last c.loop-id.waiting.items rest c.in-Some.id c.in-Some.ensures.items in
    subst (λ ws. all_sizes a (reverse rest) < all_sizes a ws) (sym last) (one_smaller a c.in-Some.id (reverse rest))

pub loop-id-preserved : goal.loop-id-preserved
loop-id-preserved c =
    let a = c.args.diagrams.now in
    let whole = c.args.whole in
    let found = c.loop-id.found.items in
    let rest = c.pop.new.self.items in
    let last = next_last c.loop-id.waiting.items rest c.in-Some.id c.in-Some.ensures.items in
    subst (λ fs. Parts a whole fs (reverse rest)) (sym c.in_ok-push-in-None.ensures.items)
    (parts_one a whole c.in-Some.id found (reverse rest) (subst (λ ws. Parts a whole found ws) last c.loop-id.invariant) c.in-None.ensures)
