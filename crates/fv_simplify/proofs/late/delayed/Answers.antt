use Rattle.std.proofs.Common.{rules, ◌≡◌, ℕ, ap, ◌∙◌, subst, ℤ, Some, w32, to_z, of_z}
use Rattle.std.specs.Prelude.{IfOk, Option}
use Rattle.std.proofs.lemmas.Int.{to_z-of_z}
use Rattle.fv_share.specs.Drafts.{Draft}
use Rattle.fv_simplify.specs.Nodes.{number_at}
use Rattle.fv_signal.specs.headline.Value.{back_by}
use Rattle.fv_simplify.specs.Passing.{so_far, by_number, delayed_by, delayed}
use Rattle.fv_simplify.proofs.late.delayed.Goals as goal

same : (d : Draft) (r : Option ℕ) (x by most k : ℕ) (z : ℤ) → k ≡ back_by most z → Some z ≡ number_at (so_far d) by → by_number d r x k ≡ delayed d r x by most
same d r x by most k z e n = ap (by_number d r x) e ∙ ap (delayed_by d r x by most) n

pub returns-in-Some-clause-value : goal.returns-in-Some-clause-value
returns-in-Some-clause-value c =
    let n : Some c.in-Some.c ≡ number_at (so_far c.args.builder.now) c.args.d = c.in-Some.ensures in
    let k : c.back_by.result ≡ back_by c.args.most c.in-Some.c = c.back_by.ensures.value
    ∙ ap (back_by c.args.most) (let e : to_z w32 (of_z w32 c.in-Some.c) ≡ c.in-Some.c = search (rules, to_z-of_z) in e) in
    subst (λ (q : ℕ × Draft). IfOk c.by_number.result (λ id. (let r : ℕ × Draft = (id, c.by_number.new.builder) in r) ≡ q))
    (same c.args.builder.now c.args.room c.args.x c.args.d c.args.most c.back_by.result c.in-Some.c k n) c.by_number.ensures.value
