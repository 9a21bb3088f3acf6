use Rattle.std.proofs.Common.{◌≡◌, ◌-◌, suc, sym, ◌∙◌, subst, ap, arith}
use Rattle.std.proofs.lemmas.List.{get_or_read}
use Rattle.fv_components.specs.Reach.{next_of}
use Rattle.fv_components.specs.headline.Reach.{at}
use Rattle.fv_split_lanes.specs.inner.Homes.{bit_at, AreHomesFrom, given}
use Rattle.fv_split_lanes.proofs.HomeLemmas.{row_lower, skips, gives}
use Rattle.fv_split_lanes.proofs.home.homes.Goals as goal

pub give-requires-clause-signals : goal.give-requires-clause-signals
give-requires-clause-signals c =
    let few = c.loop-s.invariant.few in
    let long = c.loop-s.invariant.homes.long in
    λ k d l. let z = row_lower (next_of c.args.reads.now) (c.loop-s.s - 1) c.row.result.now c.requires.lower c.row.ensures k d l in omega (arith, long, few, z)

pub loop-s-preserved-then-home-loops : goal.loop-s-preserved-then-home-loops
loop-s-preserved-then-home-loops c =
    let few = c.loop-s.invariant.few in
    let z : suc (c.loop-s.s - 1) ≡ c.loop-s.s = omega arith in
    let e : c.index-home.result.now ≡ at c.loop-s.homes.items (c.loop-s.s - 1) =
    get_or_read c.loop-s.homes.items (c.loop-s.s - 1) c.index-home.result.now (omega (arith, few, c.loop-s.invariant.homes.long)) c.index-home.ensures 0 in
    let new : c.give.new.homes.items ≡ given (bit_at c.args.inner.now) c.loop-s.homes.items (next_of c.args.reads.now (c.loop-s.s - 1)) (at c.loop-s.homes.items
    (c.loop-s.s - 1)) =
    c.give.ensures ∙ ap (λ xs. given (bit_at c.args.inner.now) c.loop-s.homes.items xs c.index-home.result.now) c.row.ensures
    ∙ ap (given (bit_at c.args.inner.now) c.loop-s.homes.items (next_of c.args.reads.now (c.loop-s.s - 1))) e in
    record {
      few = omega (arith, few);
      homes = subst (AreHomesFrom (next_of c.args.reads.now) (bit_at c.args.inner.now) c.args.owners.now c.args.loops (c.loop-s.s - 1)) (sym new)
          (gives (next_of c.args.reads.now) (bit_at c.args.inner.now) c.args.owners.now c.args.loops c.requires.lower c.requires.single c.requires.laneless
          (c.loop-s.s - 1) c.loop-s.homes.items (omega (arith, few))
          (subst (λ k. AreHomesFrom (next_of c.args.reads.now) (bit_at c.args.inner.now) c.args.owners.now c.args.loops k c.loop-s.homes.items)
          (sym z) c.loop-s.invariant.homes) (omega (arith, e, c.if-home-loops.true)));
    }

pub loop-s-preserved : goal.loop-s-preserved
loop-s-preserved c =
    let z : suc (c.loop-s.s - 1) ≡ c.loop-s.s = omega arith in
    let e : c.index-home.result.now ≡ at c.loop-s.homes.items (c.loop-s.s - 1) =
    get_or_read c.loop-s.homes.items (c.loop-s.s - 1) c.index-home.result.now (omega
    (arith, c.loop-s.invariant.few, c.loop-s.invariant.homes.long)) c.index-home.ensures 0 in
    record {
      few = omega (arith, c.loop-s.invariant.few);
      homes = skips (next_of c.args.reads.now) (bit_at c.args.inner.now) c.args.owners.now c.args.loops c.requires.lower c.requires.single c.requires.laneless
          (c.loop-s.s - 1) c.loop-s.homes.items (omega (arith, c.loop-s.invariant.few))
          (subst (λ k. AreHomesFrom (next_of c.args.reads.now) (bit_at c.args.inner.now) c.args.owners.now c.args.loops k c.loop-s.homes.items)
          (sym z) c.loop-s.invariant.homes) (omega (arith, e, c.if-home-loops.false));
    }

pub returns : goal.returns
returns c =
    let z : c.loop-s.s ≡ 0 = omega arith in
    subst (λ k. AreHomesFrom (next_of c.args.reads.now) (bit_at c.args.inner.now) c.args.owners.now c.args.loops k c.loop-s.homes.items)
    z c.loop-s.invariant.homes
