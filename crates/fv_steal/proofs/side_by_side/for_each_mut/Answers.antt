use Rattle.std.proofs.Common.{◌+◌, refl, subst, arith, slice_index_or}
use Rattle.std.specs.Fork.{ChangesAt}
use Rattle.fv_steal.proofs.side_by_side.for_each_mut.Goals as goal

pub returns-then-not-is_empty : goal.returns-then-not-is_empty
returns-then-not-is_empty g c i d l = (
  refl,
  subst (λ k. ChangesAt g.F.Fn c.args.f.now k (slice_index_or c.args.s.now i d) (slice_index_or c.each_from.new.s i d)) {x = 0 + i} (omega arith)
      (c.each_from.ensures.each i d l),
)
