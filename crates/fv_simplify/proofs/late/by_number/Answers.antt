use Rattle.std.proofs.Common.{◌≡◌, ◌+◌, ℕ, sym, ap, ◌∙◌, subst, if◌then◌else◌}
use Rattle.std.specs.Prelude.{IfOk, nat_eq}
use Rattle.fv_share.specs.Drafts.{Draft}
use Rattle.fv_simplify.specs.Rebuilt.{base}
use Rattle.fv_simplify.specs.Passing.{so_far, late}
use Rattle.fv_simplify.proofs.lemmas.Totals.{differ}
use Rattle.fv_simplify.proofs.late.by_number.Goals as goal

same : (d : Draft) (x by : ℕ) (b c : ℕ × ℕ) → b ≡ c → (by ≡ 0 → ⊥)
    → late d b.0 (b.1 + by) ≡ (let q : ℕ × Draft = if nat_eq by 0 then (x, d) else late d c.0 (c.1 + by) in q)
same d x by b c e ne = ap (λ (a : ℕ × ℕ). late d a.0 (a.1 + by)) e
    ∙ sym (ap (λ t. let q : ℕ × Draft = if t then (x, d) else late d c.0 (c.1 + by) in q) (differ by 0 ne))

pub returns-clause-value : goal.returns-clause-value
returns-clause-value c =
    subst (λ (q : ℕ × Draft). IfOk c.late.result (λ id. (let r : ℕ × Draft = (id, c.late.new.builder) in r) ≡ q))
    (same c.args.builder.now c.args.x c.args.by c.base-from.result (base (so_far c.args.builder.now) c.args.room c.args.x) c.base-from.ensures.value
    c.if-by-eq0.false) c.late.ensures.value
