-- What a desk is asked to begin (this project's profile).
use Rattle.std.specs.Prelude.{ℕ, List}
use Rattle.fv_base.specs.declared.role.Role.{Role}

-- to read a file of this name for the role, or to write one
pub data Request : Type 0 where
  to_read : Role → (name : List ℕ) → Request
  to_write : Role → (name : List ℕ) → Request
