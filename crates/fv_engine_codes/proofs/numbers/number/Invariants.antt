use Rattle.std.proofs.Common.{◌≡◌, ℕ, ◌++◌, List, length, take}
use Rattle.fv_engine_codes.specs.inner.Numbered.{AreNumbered, AreOnce}
use Rattle.fv_engine_codes.proofs.numbers.number.Given as goal

abbrev pub invariant-loop-k : goal.invariant-loop-k
invariant-loop-k l = (before : List ℕ) → length before ≡ l.from → AreNumbered l.fn.places before → AreOnce (before ++ l.lanes)
    → AreNumbered l.places (before ++ take l.k l.lanes)
