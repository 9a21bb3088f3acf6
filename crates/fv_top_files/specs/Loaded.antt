-- What was read of an input before its samples are.
use Rattle.std.specs.Prelude.{◌≡◌, ℕ, List, length, Option, option_map}
use Rattle.std.specs.Option.{ForSome}
use Rattle.fv_top_files.specs.declared.input.Loaded.{Loaded}

-- the bytes of its samples, if they were read
abbrev pub held_in : Loaded → Option (List ℕ)
held_in l = option_map (λ v. v.items) l.held

-- they are as many as its head counts
abbrev pub HoldsAll : Loaded → Type 0
HoldsAll l = ForSome l.head (λ h. ForSome l.held (λ v. h.data_bytes ≡ length v.items))
