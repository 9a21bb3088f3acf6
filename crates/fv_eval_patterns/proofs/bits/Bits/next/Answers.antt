use Rattle.std.proofs.Common.{inl, inr, arith}
use Rattle.std.proofs.lemmas.Bool.{cases_lt}
use Rattle.fv_eval_patterns.proofs.BitSets.{found_after, passed_word}
use Rattle.fv_eval_patterns.proofs.bits.Bits.next.Goals as goal

pub returns-then-found-end-clause-skipped : goal.returns-then-found-end-clause-skipped
returns-then-found-end-clause-skipped c = λ j l m.
    let xs = c.args.self.now in
    let at = c.words.at in
    elim (cases_lt j at) [
      | inl h ↦ c.words.invariant.skipped j l h (omega (arith, h, c.words-test.true))
      | inr h ↦
          found_after xs at c.word.result j c.word.ensures c.word.type_inv c.if-rest-ne0.true h
          (omega (arith, m, c.saturating_add-found.ensures, c.from.ensures))
    ]

pub returns-else-found-end-clause-skipped : goal.returns-else-found-end-clause-skipped
returns-else-found-end-clause-skipped c = λ j l m.
    let xs = c.args.self.now in
    let at = c.words.at in
    elim (cases_lt j at) [
      | inl h ↦ c.words.invariant.skipped j l h m
      | inr h ↦
          found_after xs at c.word.result j c.word.ensures c.word.type_inv c.if-rest-ne0.true h
          (omega (arith, m, c.if-found-end.false, c.saturating_add-found.ensures, c.from.ensures))
    ]

pub words-preserved : goal.words-preserved
words-preserved c = record {
  from = omega (arith, c.words.invariant.from, c.saturating_add-at.ensures, c.words-test.true, c.ranges.end.fits);
  skipped = λ j l m k.
      let at = c.words.at in
      elim (cases_lt j at) [
        | inl h ↦ c.words.invariant.skipped j l h k
        | inr h ↦
            passed_word c.args.self.now at c.word.result j c.word.ensures c.if-rest-ne0.false h
            (omega (arith, m, c.saturating_add-at.ensures))
      ];
}
