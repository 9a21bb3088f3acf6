-- What is remembered of ways outward (this project's profile).
use Rattle.std.specs.Prelude.{List}
use Rattle.fv_parse.specs.Trees.{Parsed}
use Rattle.fv_eval_scopes.specs.declared.value.Scope as code_scope
use Rattle.fv_eval_scopes.specs.Slots.{AreSlots}
use Rattle.fv_eval_lookup.specs.declared.shortcuts.Shortcuts.{Shortcuts}
use Rattle.fv_eval_lookup.specs.Around.{AreAround}

-- What is remembered of ways outward is true of a text and these scopes.
abbrev pub AreShortcuts : Parsed → List code_scope.Scope → Shortcuts → Type 0
AreShortcuts p scopes s = AreSlots p scopes s.slots × AreAround p scopes s.around
