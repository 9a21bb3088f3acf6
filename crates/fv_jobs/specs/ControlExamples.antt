-- The definitions, computed on small jobs.
use Rattle.std.specs.Prelude.{◌≡◌, ℕ, List, [], ◌∷◌, Some, codes, pos, refl}
use Rattle.std.specs.Fmt.{digits}
use Rattle.fv_diagram.specs.declared.control.ControlInfo.{ControlInfo}
use Rattle.fv_diagram.specs.declared.control.ControlKind.TheVariants.{HSlider}
use Rattle.fv_jobs.specs.headline.Labels.{controls_of, label_of}
use Rattle.fv_jobs.specs.Labels.{labelled_so}
use Rattle.fv_jobs.specs.headline.Changes.{controls_before}
use Rattle.fv_jobs.specs.headline.Changes.{changes_of}

-- a control of the range 0 to 10
abbrev pub slider : List ℕ → ControlInfo
slider label = record { kind = HSlider; label = label; init = pos 1; min = pos 0; max = pos 10 }

abbrev jobs : List (List ControlInfo)
jobs = (slider (codes "g") ∷ slider (codes "h") ∷ []) ∷ [] ∷ (slider (codes "g") ∷ []) ∷ []

labels : (controls_of jobs ≡ slider (codes "0/g") ∷ slider (codes "0/h") ∷ slider (codes "2/g") ∷ []) × (label_of 11 (codes "g") ≡ codes "11/g")
unfolding digits
labels = (refl, refl)

found : (labelled_so (controls_of jobs) (codes "2/g") ≡ Some 2) × (controls_before jobs 2 ≡ 2)
unfolding digits
found = (refl, refl)

-- the first job hears of 0 and 1, the last of 2
heard : (changes_of 0 2 (record { frame = 5; control = 2; value = pos 3 } ∷ record { frame = 6; control = 1; value = pos 4 } ∷ [])
    ≡ record { frame = 6; control = 1; value = pos 4 } ∷ [])
    × (changes_of 2 1 (record { frame = 5; control = 2; value = pos 3 } ∷ record { frame = 6; control = 1; value = pos 4 } ∷ [])
    ≡ record { frame = 5; control = 0; value = pos 3 } ∷ [])
heard = (refl, refl)
