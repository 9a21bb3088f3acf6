-- The changes of a script.
use Rattle.std.proofs.Common.{◌<◌, List, [], ◌∷◌, length}
use Rattle.std.specs.List.{AllByRecursion}
use Rattle.fv_diagram.specs.declared.control.ControlInfo.{ControlInfo}
use Rattle.fv_control.specs.declared.script.Change.{Change}
use Rattle.fv_control.specs.Laws.{IsOfControls}

-- changes of controls that are there
pub named_all : (controls : List ControlInfo) (cs : List Change) → AllByRecursion (IsOfControls controls) cs
    → AllByRecursion (λ c. c.control < length controls) cs
named_all controls [] h = tt
named_all controls (c ∷ cs) h = (h.0.there, named_all controls cs h.1)
