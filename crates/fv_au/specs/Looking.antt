-- A desk that looks ahead at the input, over another (this project's profile).
use Rattle.std.specs.Prelude.{ℕ, List, ◌++◌, Some}
use Rattle.std.specs.Borrow.{GName}
use Rattle.fv_base.specs.declared.role.Role.{Role}
use Rattle.fv_base.specs.declared.role.Role.TheVariants.{Program, Input, Controls, Output, Report}
use Rattle.fv_outside.specs.headline.Desk.{DeskState}
use Rattle.fv_au.specs.declared.ahead.Ahead.{Ahead}

-- the bytes that are left of each role, where these of the input are kept and stand before those that are left beneath
abbrev pub left_behind : (kept : List ℕ) → (Role → List ℕ) → Role → List ℕ
left_behind kept left Program = left Program
left_behind kept left Input = kept ++ left Input
left_behind kept left Controls = left Controls
left_behind kept left Output = left Output
left_behind kept left Report = left Report

-- what the desk beneath means, but for the bytes that are kept
abbrev pub ahead_of : GName → (kept : List ℕ) → DeskState → DeskState
ahead_of name kept desk = record desk { left = left_behind kept desk.left; beneath = Some name }

-- what a desk that looks ahead means
abbrev pub ahead_state : {D : Type 0} → (state : D → DeskState) → Ahead D → DeskState
ahead_state state a = ahead_of a.desk.ghost_name a.kept (state a.desk.now)
