-- Blocks of worked examples.
use Rattle.std.specs.Prelude.{◌≡◌, refl, List, [], ◌∷◌, pos}
use Rattle.fv_control.specs.declared.script.Change.{Change}
use Rattle.fv_engine_render.specs.headline.Blocks.{block_at}

abbrev gains : List Change
gains = record { frame = 2; control = 0; value = pos 3 } ∷ record { frame = 3; control = 0; value = pos 0 } ∷ []

-- five frames in blocks of four, with changes at 2 and 3
lengths : (block_at 4 5 gains 0 ≡ 2) × (block_at 4 5 gains 2 ≡ 1) × (block_at 4 5 gains 3 ≡ 2)
lengths = (refl, refl, refl)
