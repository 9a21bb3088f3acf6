-- The definitions, computed on small scripts.
use Rattle.std.specs.Prelude.{◌≡◌, List, [], ◌∷◌, ◌++◌, Some, None, Ok, Err, pos, negsuc, codes, refl}
use Rattle.fv_diagram.specs.declared.control.ControlInfo.{ControlInfo}
use Rattle.fv_diagram.specs.declared.control.ControlKind.TheVariants.{HSlider}
use Rattle.fv_control.specs.declared.refusal.ScriptRefusal.TheVariants.{ControlLine, ControlUnknown, ControlRange, ControlOrder}
use Rattle.fv_control.specs.headline.Script.{script, line_says, request_of, value_of}
use Rattle.fv_control.specs.headline.Streams.{control_streams}

-- a control of the range 0 to 10
abbrev gain : List ControlInfo
gain = record { kind = HSlider; label = codes "g"; init = pos 1; min = pos 0; max = pos 10 } ∷ []

two : script gain (codes "2 g 3" ++ 10 ∷ codes "3 g 0" ++ 13 ∷ 10 ∷ [])
    ≡ Ok (record { frame = 2; control = 0; value = pos 3 } ∷ record { frame = 3; control = 0; value = pos 0 } ∷ [])
unfolding script line_says
two = refl

comments : script gain (codes "# none" ++ 10 ∷ 13 ∷ 10 ∷ 10 ∷ codes "1 g 10") ≡ Ok (record { frame = 1; control = 0; value = pos 10 } ∷ [])
unfolding script line_says
comments = refl

no_form : script gain (codes "x g 1") ≡ Err (ControlLine 1)
unfolding script line_says
no_form = refl

unknown : script gain (codes "0 h 1") ≡ Err (ControlUnknown 1)
unfolding script line_says
unknown = refl

outside : script gain (codes "0 g 11") ≡ Err (ControlRange 1)
unfolding script line_says
outside = refl

falls : script gain (codes "3 g 1" ++ 10 ∷ codes "2 g 1") ≡ Err (ControlOrder 2)
unfolding script line_says
falls = refl

spaced : request_of (codes "0  g 1") ≡ Some (record { frame = 0; label = codes " g"; value = pos 1 })
spaced = refl

long_label : request_of (codes "0 my gain 3") ≡ Some (record { frame = 0; label = codes "my gain"; value = pos 3 })
long_label = refl

one_space : request_of (codes "0 1") ≡ None
one_space = refl

no_label : request_of (codes "0  1") ≡ None
no_label = refl

least : value_of (codes "-2147483648") ≡ Some (negsuc 2147483647)
least = refl

zero_below : value_of (codes "-0") ≡ Some (pos 0)
zero_below = refl

too_great : value_of (codes "2147483648") ≡ None
too_great = refl

-- the last of several changes at one frame counts
last_counts : control_streams (record { frame = 2; control = 0; value = pos 3 } ∷ record { frame = 2; control = 0; value = pos 4 } ∷ [])
    (pos 1 ∷ []) 0 2 ≡ pos 4
last_counts = refl
