-- The ways outward that look-ups have gone (this project's profile).
use Rattle.std.specs.Prelude.{◌≡◌, ℕ, List, Some, slice_get}
use Rattle.fv_parse.specs.Trees.{Parsed}
use Rattle.fv_eval_scopes.specs.declared.value.Scope as code_scope
use Rattle.fv_eval_scopes.specs.declared.slots.Shortcut.{Shortcut}
use Rattle.fv_eval_scopes.specs.Outward.{SkipsTo}

-- The ways that look-ups have gone are true of a text and these scopes.
abbrev pub AreSlots : Parsed → List code_scope.Scope → List Shortcut → Type 0
AreSlots p scopes slots = (i : ℕ) (x : Shortcut) → slice_get slots i ≡ Some x → SkipsTo p scopes x.name x.from x.to
