-- Walks, one after another.
use Rattle.std.proofs.Common.{ℕ, zero, suc, refl, sym, subst}
use Rattle.fv_components.specs.headline.Reach.{Links, Leads, Walk, Reaches}

walk_on : (next : Links) (a b c m n : ℕ) → Walk next a b m → Walk next b c n → Reaches next a c
walk_on next a b c zero n p q = record { steps = n; walk = subst (λ x. Walk next x c n) (sym p) q }
walk_on next a b c (suc m) n p q =
    let r = walk_on next p.0 b c m n p.2 q in
    record { steps = suc r.steps; walk = (p.0, p.1, r.walk) }

pub reaches_trans : {next : Links} {a b c : ℕ} → Reaches next a b → Reaches next b c → Reaches next a c
reaches_trans {next} {a} {b} {c} p q = walk_on next a b c p.steps q.steps p.walk q.walk

pub reaches_self : (next : Links) (a : ℕ) → Reaches next a a
reaches_self next a = record { steps = 0; walk = refl }

pub reaches_step : {next : Links} {a b : ℕ} → Leads next a b → Reaches next a b
reaches_step {next} {a} {b} l = record { steps = 1; walk = (b, l, refl) }
