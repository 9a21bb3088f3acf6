use Rattle.std.proofs.Common.{◌∙◌, List, sym, ap}
use Rattle.std.specs.Prelude.{slice_get}
use Rattle.std.proofs.lemmas.Option.{none-some}
use Rattle.fv_eval_scopes.specs.declared.slots.Shortcut.{Shortcut}
use Rattle.fv_eval_lookup.proofs.shortcuts.Shortcuts.new.Goals as goal

pub returns : goal.returns
returns c = λ p scopes. (
  λ i x e. absurd (none-some x (ap (λ (ys : List Shortcut). slice_get ys i) (sym c.new.ensures) ∙ e)),
  c.new-2.ensures p scopes,
)
