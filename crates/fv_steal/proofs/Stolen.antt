-- What holds took, one look after another.
use Rattle.std.proofs.Common.{◌≡◌, ℕ, ◌+◌, ◌==◌, refl, ap, ◌∙◌, false, Option, Some, None}
use Rattle.std.specs.Option.{is_some}
use Rattle.std.specs.Global.{Vec}
use Rattle.fv_outside.specs.headline.Tasks.{bit}
use Rattle.fv_steal.specs.declared.handles.Victim.{Victim}
use Rattle.fv_steal.specs.inner.Turns.{HasStolen}

pub none_stolen : (a : Vec Victim) → HasStolen None a a
none_stolen a = record { taken = λ x. refl; same = refl; count = refl }

-- where nothing was found before
pub stolen_then : (r : Option ℕ) (a b c : Vec Victim) → HasStolen None a b → HasStolen r b c → HasStolen r a c
stolen_then None a b c h k = record { taken = λ x. k.taken x ∙ h.taken x; same = k.same ∙ h.same; count = k.count ∙ h.count }
stolen_then (Some t) a b c h k = record {
  taken = λ x. k.taken x ∙ ap (λ n. n + bit (t == x)) (h.taken x);
  same = k.same ∙ h.same;
  count = k.count ∙ h.count;
}

-- nothing was found
pub found_nothing : (r : Option ℕ) (a b : Vec Victim) → is_some r ≡ false → HasStolen r a b → HasStolen None a b
found_nothing None a b e h = h
found_nothing (Some t) a b e h = absurd (cc)
