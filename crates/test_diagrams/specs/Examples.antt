-- Small runs, which hold by computing.
use Rattle.std.specs.Prelude.{◌≡◌, refl, [], ◌∷◌, pos}
use Rattle.fv_diagram.specs.Primitive.TheVariants.{Wire, Mem}
use Rattle.fv_diagram.specs.headline.Diagram.{Primitive, Control, Par}
use Rattle.fv_control.specs.headline.Streams.{control_streams}
use Rattle.fv_diagram.specs.headline.Samples.{answer_on}

-- of two channels the second comes a frame later
one_later : answer_on (Par (Primitive Wire) (Primitive Mem)) (control_streams [] []) 2 (pos 5 ∷ pos 3 ∷ pos 1 ∷ pos 2 ∷ []) ≡ pos 5 ∷ pos 0 ∷ pos 1 ∷ pos 3 ∷ []
one_later = refl

-- a control keeps its number
keeps : answer_on (Control 0) (control_streams [] (pos 7 ∷ [])) 3 [] ≡ pos 7 ∷ pos 7 ∷ pos 7 ∷ []
keeps = refl

-- until it changes
changes : answer_on (Control 0) (control_streams (record { frame = 1; control = 0; value = pos 9 } ∷ []) (pos 7 ∷ [])) 3 [] ≡ pos 7 ∷ pos 9 ∷ pos 9 ∷ []
changes = refl
