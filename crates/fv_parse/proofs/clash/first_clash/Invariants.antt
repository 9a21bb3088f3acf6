use Rattle.std.proofs.Common.{◌≡◌, ℕ, List, [], take, drop}
use Rattle.std.specs.BTreeMap.{get_by}
use Rattle.std.specs.Ordering.{nat_cmp}
use Rattle.std.specs.Cmp.Lexicographic.{slice_cmp}
use Rattle.fv_parse.specs.headline.StaticErrors.{width_of, first_clash}
use Rattle.fv_parse.proofs.clash.first_clash.Given as goal

abbrev pub invariant-loop-i : goal.invariant-loop-i
invariant-loop-i l = record {
  so_far : first_clash l.among l.tokens (take l.i l.list) (drop l.i l.list) ≡ first_clash l.among l.tokens [] l.list;
  known : (cs : List ℕ) → get_by (λ k. slice_cmp nat_cmp cs k.now) l.seen ≡ width_of l.tokens (take l.i l.list) cs;
}
