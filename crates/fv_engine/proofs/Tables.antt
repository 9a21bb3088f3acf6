-- Still code that reads tables that are there may run.
use Rattle.std.proofs.Common.{◌≡◌, ℕ, ◌+◌, List, [], ◌∷◌, ◌++◌, map, take, subst, arith, ℤ, All}
use Rattle.std.proofs.lemmas.List.Elements.{All-head, All-tail}
use Rattle.fv_signal.specs.Words.{argument, apply_of, inputs_of}
use Rattle.fv_signal.specs.Tables.{read_at}
use Rattle.fv_loopcode.specs.declared.step.Step.{Step}
use Rattle.fv_loopcode.specs.declared.step.Step.TheVariants as step
use Rattle.fv_loopcode.specs.headline.State.{list_at}
use Rattle.fv_loopcode.specs.headline.Code.{Pass, opening, ran, IsStill}
use Rattle.fv_loopcode.specs.Code.{MayPass, MayRun}
use Rattle.fv_split_plan.specs.headline.View.{PlanView}
use Rattle.fv_split_plan.specs.headline.Plans.{LoadsWithin, tables_alone}
use Rattle.fv_split_plan.proofs.lemmas.NodeLemmas.{listed}

module _ (p : PlanView) where
  abbrev Within : Step → Type 0
  Within s = LoadsWithin p s

  -- still code that reads only tables that have items may run over them
  module _ (held input : ℕ → ℤ) (index : ℕ) where
    abbrev over : List ℤ → Pass
    over numbers = record { numbers = numbers; state = tables_alone p.tables }

    may_pass : (numbers : List ℤ) (steps : List Step) → All IsStill steps → All Within steps → MayPass held input index (over numbers) steps
    may_pass numbers [] s a = tt
    may_pass numbers (step.Number n ∷ ss) s a =
        (tt, may_pass (numbers ++ n ∷ []) ss (All-tail IsStill (step.Number n) ss s) (All-tail Within (step.Number n) ss a))
    may_pass numbers (step.Held k ∷ ss) s a =
        (tt, may_pass (numbers ++ held k ∷ []) ss (All-tail IsStill (step.Held k) ss s) (All-tail Within (step.Held k) ss a))
    may_pass numbers (step.Input i ∷ ss) s a =
        (tt, may_pass (numbers ++ input i ∷ []) ss (All-tail IsStill (step.Input i) ss s) (All-tail Within (step.Input i) ss a))
    may_pass numbers (step.Point op args ∷ ss) s a = (
      tt,
      may_pass (numbers ++ apply_of op (take (inputs_of op) (map (argument numbers) args)) ∷ []) ss
          (All-tail IsStill (step.Point op args) ss s) (All-tail Within (step.Point op args) ss a),
    )
    may_pass numbers (step.Load lane back max ∷ ss) s a = absurd (All-head IsStill (step.Load lane back max) ss s)
    may_pass numbers (step.Append lane value ∷ ss) s a = absurd (All-head IsStill (step.Append lane value) ss s)
    may_pass numbers (step.Read table arg ∷ ss) s a =
        let some = All-head Within (step.Read table arg) ss a in (
          (listed p.tables table some, some),
          may_pass (numbers ++ read_at (list_at p.tables table) (argument numbers arg) ∷ []) ss
              (All-tail IsStill (step.Read table arg) ss s) (All-tail Within (step.Read table arg) ss a),
        )
    may_pass numbers (step.Write cells args ∷ ss) s a = absurd (All-head IsStill (step.Write cells args) ss s)

  -- for one sample
  pub may_hold : (held : ℕ → ℤ) (inputs : ℕ → ℕ → ℤ) → All IsStill p.held → All Within p.held → MayRun p.held held inputs 0 1 (tables_alone p.tables)
  may_hold held inputs s a = λ n l.
      let z : 0 ≡ n = omega (arith, l) in
      let May : ℕ → Type 0 = λ m. MayPass held (inputs (0 + m)) (0 + m) (opening (ran p.held held inputs 0 m (tables_alone p.tables))) p.held in
      subst May z (may_pass held (inputs 0) 0 [] p.held s a)
