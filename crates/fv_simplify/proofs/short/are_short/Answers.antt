use Rattle.std.proofs.Common.{rules, ◌≡◌, ◌<◌, ℕ, length, get_or, refl, sym, ap, ◌∙◌, subst, arith, inl, inr, pos}
use Rattle.std.proofs.lemmas.Bool.{cases_lt}
use Rattle.std.proofs.lemmas.List.{get_or_read}
use Rattle.fv_signal.specs.declared.signal.Signal.TheVariants.{Const, Delay}
use Rattle.fv_simplify.specs.Nodes.{node}
use Rattle.fv_simplify.specs.Reducible.{limit}
use Rattle.fv_simplify.proofs.short.are_short.Goals as goal

pub returns-then-is_longer : goal.returns-then-is_longer
returns-then-is_longer c =
    let g = c.args.graph.now in
    let place = c.loop-place.place in
    let here : place < length g.signals = omega arith in
    let signal = c.signal.result in
    let is : signal ≡ node g place = get_or_read g.signals place signal here
    (subst (λ n. signal ≡ get_or g.signals n signal) c.new.ensures c.signal.ensures.node) (Const (pos 0)) in
    let r : (x : ℕ) × (by : ℕ) × (most : ℕ) × (signal ≡ Delay x by most) × (limit < most) = c.if-is_longer.ensures.longer (search rules) in
    let over = r.4 in
    (search rules, λ short. absurd (let most = short place r.0 r.1 r.2 (record { within = here; is = sym is ∙ r.3 }) in omega (arith, most, over)))

pub loop-place-preserved : goal.loop-place-preserved
loop-place-preserved c =
    let g = c.args.graph.now in
    let place = c.loop-place.place in
    let here : place < length g.signals = omega arith in
    let signal = c.signal.result in
    let is : signal ≡ node g place = get_or_read g.signals place signal here
    (subst (λ n. signal ≡ get_or g.signals n signal) c.new.ensures c.signal.ensures.node) (Const (pos 0)) in
    λ s x by most l e. elim (cases_lt s place) [
      | inl b ↦ c.loop-place.invariant s x by most b e
      | inr b ↦ let at : place ≡ s = omega (arith, b, l) in c.if-is_longer.ensures.short refl x by most (is ∙ ap (node g) at ∙ e)
    ]
