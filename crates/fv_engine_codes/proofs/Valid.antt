-- Steps with new numbers of their lanes are valid where what they name is there.
use Rattle.std.proofs.Common.{ℕ, ◌<◌, List, length, map, get_or, sym, subst, arith}
use Rattle.std.specs.Prelude.{All}
use Rattle.std.proofs.lemmas.List.{length-map, get_or-map}
use Rattle.fv_loopcode.specs.declared.step.Step.{Step}
use Rattle.fv_loopcode.specs.declared.step.Step.TheVariants as step
use Rattle.fv_loopcode.specs.Code.{AreOrdered, AreValid, IsValid, NamesThere, OperandsBelow}
use Rattle.fv_loopcode.specs.declared.counts.Counts.{Counts}
use Rattle.fv_engine_codes.specs.Renumbered.{renumbered}

operands_same : (place : ℕ → ℕ) (i : ℕ) (s : Step) → OperandsBelow i s → OperandsBelow i (renumbered place s)
operands_same place i (step.Number n) o = o
operands_same place i (step.Held k) o = o
operands_same place i (step.Input k) o = o
operands_same place i (step.Point op args) o = o
operands_same place i (step.Load lane back max) o = o
operands_same place i (step.Append lane value) o = o
operands_same place i (step.Read table arg) o = o
operands_same place i (step.Write cells args) o = o

pub renumbered_valid : (place : ℕ → ℕ) (counts : Counts) (steps : List Step) → AreOrdered steps
    → All (λ s. NamesThere counts (renumbered place s)) steps → AreValid counts (map (renumbered place) steps)
renumbered_valid place counts steps ordered named i d m =
    let l : i < length steps = omega (arith, m, length-map steps (renumbered place)) in
    subst (IsValid i counts) (sym (get_or-map (renumbered place) steps i d d l))
    (named i d l, operands_same place i (get_or steps i d) (ordered i d l))
