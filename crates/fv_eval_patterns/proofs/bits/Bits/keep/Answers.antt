use Rattle.std.proofs.Common.{◌≡◌, ◌<◌, ◌∙◌, length, true, sym, ap₂, subst, arith}
use Rattle.std.specs.Prelude.{bit_and, slice_set}
use Rattle.std.proofs.lemmas.List.{get_or_default}
use Rattle.fv_eval_patterns.specs.Bits.{has}
use Rattle.fv_eval_patterns.proofs.BitSets.{both_have, cut_has}
use Rattle.fv_eval_patterns.proofs.bits.Bits.keep.Goals as goal

pub loop-i-init : goal.loop-i-init
loop-i-init c =
    let o = c.others.inside.words.ok.0 in
    let cut = c.truncate.ensures.len in
    record {
      long = sym c.len-i-end.ensures;
      short = omega (arith, cut, c.len-i-end.ensures, c.len-count.ensures);
      keeps = λ j h k.
          subst (λ xs. has xs j ≡ true) (sym c.truncate.ensures.items)
          (cut_has c.self.inside.words.items c.others.inside.words.items c.len-count.result j (omega (arith, o, c.len-count.ensures))
          (subst (λ xs. has xs j ≡ true) (sym c.self.view_is) h) (subst (λ xs. has xs j ≡ true) (sym c.others.view_is) k));
    }

pub loop-i-preserved : goal.loop-i-preserved
loop-i-preserved c =
    let xs = c.loop-i.self-inside.words.items in
    let ys = c.others.inside.words.items in
    let i = c.loop-i.i in
    let inv = c.loop-i.invariant in
    let o = c.loop-i.self-inside.words.ok.0 in
    let q = c.others.inside.words.ok.0 in
    let l : i < length xs = omega (arith, o, inv.long, c.loop-i-test.true) in
    let m : i < length ys = omega (arith, q, inv.short, c.loop-i-test.true) in
    let e = ap₂ bit_and (c.index-word.ensures ∙ get_or_default xs i c.index-word.result.now 0 l)
    (c.index.ensures ∙ get_or_default ys i c.index.result.now 0 m) in
    record {
      long = inv.long;
      short = inv.short;
      keeps = λ j h k.
          subst (λ n. has (slice_set xs i n) j ≡ true) (sym e)
          (both_have xs ys i j l (inv.keeps j h k) (subst (λ zs. has zs j ≡ true) (sym c.others.view_is) k));
    }
