use Rattle.std.proofs.Common.{rules, ◌≡◌, ◌<◌, ◌≢◌, length, take, get_or, sym, ap, ◌∙◌, arith, pos, Some, w32, to_z, of_z, below_more}
use Rattle.std.specs.Option.{option_map}
use Rattle.std.proofs.lemmas.Int.{to_z-of_z}
use Rattle.std.proofs.lemmas.List.{get_or_default, length-set, get_or-set_same, get_or-set_other, get_or-take, length-take}
use Rattle.fv_num.specs.headline.Words.{apply_of, inputs_of}
use Rattle.fv_simplify.specs.Nodes.{number_at, numbers}
use Rattle.fv_simplify.specs.Passing.{so_far}
use Rattle.fv_simplify.proofs.Numbers.{numbers_some, inputs_most}
use Rattle.fv_simplify.proofs.operation.folded.Goals as goal

pub loop-i-preserved : goal.loop-i-preserved
loop-i-preserved c =
    let at = c.loop-i in
    let b = c.args.builder.now in
    let n = c.in-Some.n in
    let long : length c.args.args ≡ 4 = omega arith in
    let wide = at.invariant.wide in
    let few : at.i < 4 = omega (arith, inputs_most c.args.op) in
    let exact : to_z w32 (of_z w32 n) ≡ n = search (rules, to_z-of_z) in
    let told : Some n ≡ number_at (so_far b) (get_or c.args.args at.i c.index-args-i.result) = c.in-Some.ensures in
    let here : number_at (so_far b) (get_or c.args.args at.i 0) ≡ Some n =
    ap (number_at (so_far b)) (get_or_default c.args.args at.i 0 c.index-args-i.result (omega (arith, few, long))) ∙ sym told in
    record {
      wide = length-set at.known at.i (to_z w32 (of_z w32 n)) ∙ wide;
      are = below_more _ _
          (λ k l. let ne : k ≢ at.i = omega arith in
          at.invariant.are k l ∙ ap (λ z. Some z) (sym (get_or-set_other at.known at.i k (to_z w32 (of_z w32 n)) (pos 0) ne)))
          (here ∙ ap (λ z. Some z) (sym (get_or-set_same at.known at.i (to_z w32 (of_z w32 n)) (pos 0) (omega (arith, few, wide)) ∙ exact)));
    }

pub returns : goal.returns
returns c =
    let at = c.loop-i in
    let op = c.args.op in
    let n = inputs_of op in
    let g = so_far c.args.builder.now in
    let args = c.args.args in
    let long : length args ≡ 4 = omega arith in
    let wide = at.invariant.wide in
    let most = inputs_most op in
    let count : c.inputs-count.result ≡ n = c.inputs-count.ensures in
    let value : c.apply.result ≡ apply_of op (take n at.known) = c.apply.ensures ∙ ap (λ k. apply_of op (take k at.known)) count in
    let exact : to_z w32 (of_z w32 c.apply.result) ≡ c.apply.result = search (rules, to_z-of_z) in
    let all : numbers g (take n args) ≡ Some (take n at.known) =
    numbers_some g (take n args) (take n at.known) (omega (arith, length-take n args, length-take n at.known, long, wide))
    (λ i l. let m : i < n = omega (arith, l, length-take n args) in
    ap (number_at g) (get_or-take n args i 0 m) ∙ at.invariant.are i (omega (arith, m, c.inputs-count.ensures))
    ∙ ap (λ z. Some z) (sym (get_or-take n at.known i (pos 0) m))) in
    ap (λ z. Some z) (exact ∙ value) ∙ sym (ap (option_map (apply_of op)) all)
