use Rattle.std.proofs.Common.{◌≡◌, ℕ, List, take, map}
use Rattle.std.specs.BTreeMap.{get_by}
use Rattle.std.specs.Ordering.{nat_cmp}
use Rattle.std.specs.Cmp.Lexicographic.{slice_cmp}
use Rattle.fv_lex.specs.headline.Token.{texts_of}
use Rattle.fv_parse.specs.Trees.{first_with}
use Rattle.fv_parse.proofs.CanonicalNumbers.{seen_in}
use Rattle.fv_parse.proofs.names.canonical_numbers.Given as goal

abbrev pub invariant-loop-i : goal.invariant-loop-i
invariant-loop-i l = record {
  so_far : l.numbers.items ≡ map (first_with (texts_of l.tokens.tokens)) (take l.i (texts_of l.tokens.tokens));
  known : (cs : List ℕ) → get_by (λ k. slice_cmp nat_cmp cs k.now) l.seen ≡ seen_in (take l.i (texts_of l.tokens.tokens)) cs;
}
