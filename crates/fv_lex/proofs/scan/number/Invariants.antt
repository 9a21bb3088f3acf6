use Rattle.std.proofs.Common.{◌≡◌, ◌≤◌, true, length}
use Rattle.std.specs.List.{list_all}
use Rattle.fv_lex.specs.headline.Bytes.{is_digit}
use Rattle.fv_base.specs.headline.Digits.{decimal_after}
use Rattle.fv_lex.specs.headline.Symbols.{value}
use Rattle.fv_lex.proofs.scan.number.Given as goal
use Rattle.fv_base.specs.declared.limits.TheConstants.{GREATEST_LITERAL}

abbrev pub invariant-loop-rest : goal.invariant-loop-rest
invariant-loop-rest l = record {
  same : decimal_after l.n l.rest ≡ value l.digits;
  small : l.n ≤ GREATEST_LITERAL;
  digits_left : list_all is_digit l.rest ≡ true;
}

abbrev pub decreases-loop-rest : goal.decreases-loop-rest
decreases-loop-rest l = length l.rest
