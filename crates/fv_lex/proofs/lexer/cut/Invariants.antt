use Rattle.std.proofs.Common.{◌≡◌, ◌+◌, ◌-◌, ◌≤◌, length, drop, All}
use Rattle.fv_lex.specs.Spans.{tokens_in, IsWithin}
use Rattle.fv_lex.specs.Carried.{AllCarry}
use Rattle.fv_lex.specs.inner.Steps.{IsBare}
use Rattle.fv_lex.proofs.Loop.{Reads}
use Rattle.fv_lex.proofs.lexer.cut.Given as goal
use Rattle.fv_base.specs.declared.limits.TheConstants.{DEEPEST_NESTING}

abbrev pub invariant-loop-symbols : goal.invariant-loop-symbols
invariant-loop-symbols l = record {
  line : l.place.line + length l.rest ≤ 1 + length l.text;
  column : l.place.column + length l.rest ≤ 1 + length l.text;
  shallow : l.depth ≤ DEEPEST_NESTING;
  bare : IsBare l.known l.rest;
  paired : length l.symbols.items ≡ length l.spans.items;
  few : length l.spans.items + length l.rest ≤ length l.text;
  within : All (IsWithin l.text) l.spans.items;
  carried : AllCarry l.symbols.items;
  behind : l.rest ≡ drop (length l.text - length l.rest) l.text;
  so_far : Reads l.text l.rest l.place l.depth (tokens_in l.text l.symbols.items l.spans.items);
}

abbrev pub decreases-loop-symbols : goal.decreases-loop-symbols
decreases-loop-symbols l = length l.rest
