use Rattle.std.proofs.Common.{◌≡◌, ℕ, suc, ◌+◌, ◌<◌, ◌++◌, List, length, take, set, get_or, refl, sym, ap, ◌∙◌, subst, arith, append-nil}
use Rattle.std.proofs.Math.Seq.{take-length}
use Rattle.fv_engine_codes.specs.inner.Numbered.{AreNumbered}
use Rattle.fv_engine_codes.proofs.Numbering.{number_more}
use Rattle.fv_engine_codes.proofs.numbers.number.Goals as goal

pub loop-k-init : goal.loop-k-init
loop-k-init c = λ before e old once. subst (AreNumbered c.args.places.now) (sym (append-nil before)) old

pub loop-k-preserved : goal.loop-k-preserved
loop-k-preserved c = λ before e old once.
    let k : ℕ = c.loop-k.k in
    let lanes : List ℕ = c.args.lanes.now in
    let x : ℕ = get_or lanes k 0 in
    let n : ℕ = c.args.from + k in
    let inside : k < length lanes = c.loop-k-test.true in
    let next : suc k ≡ k + 1 = omega arith in
    subst (λ (i : ℕ). AreNumbered (set c.loop-k.places x n) (before ++ take i lanes)) next
    (number_more c.loop-k.places before lanes k x n inside refl (omega (arith, c.requires.there k 0 inside, c.loop-k.auto.places)) (omega (arith, e)) once
    (c.loop-k.invariant before e old once))

pub returns-clause-numbered : goal.returns-clause-numbered
returns-clause-numbered c = λ before e old once.
    let lanes : List ℕ = c.args.lanes.now in
    let all : c.loop-k.k ≡ length lanes = omega arith in
    subst (λ (xs : List ℕ). AreNumbered c.loop-k.places (before ++ xs)) (ap (λ (i : ℕ). take i lanes) all ∙ take-length lanes)
    (c.loop-k.invariant before e old once)
