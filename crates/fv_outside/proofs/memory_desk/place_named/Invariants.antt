use Rattle.std.proofs.Common.{◌≡◌, ◌<◌, take, Some, None, MatchOption}
use Rattle.fv_outside.specs.headline.Desk.{file_named}
use Rattle.fv_outside.specs.Drawer.{bytes_at}
use Rattle.fv_outside.proofs.memory_desk.place_named.Given as goal

abbrev pub invariant-loop-i : goal.invariant-loop-i
invariant-loop-i l =
    MatchOption l.found (file_named l.name (take l.i l.files) ≡ None)
    (λ k. (k < l.i) × (file_named l.name (take l.i l.files) ≡ Some (bytes_at l.files k)))
