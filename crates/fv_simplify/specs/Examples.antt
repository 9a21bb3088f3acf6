-- Worked examples, which compute.
use Rattle.std.specs.Prelude.{◌≡◌, refl, ℕ, List, [], ◌∷◌, Bool, true, Option, None, Some, pos, slice_index_or, replicate}
use Rattle.std.specs.Int.{int_wrap}
use Rattle.fv_num.specs.declared.op.Op.TheVariants.{Add, Mul, Div}
use Rattle.fv_signal.specs.declared.signal.Signal.TheVariants.{Input, Const, Point, Delay, Back, Member}
use Rattle.fv_signal.specs.headline.Value.{Graph}
use Rattle.fv_simplify.specs.Reducible.{reach}
use Rattle.fv_simplify.specs.Runs.{rebuilt}

abbrev all : List Bool
all = replicate 16 true

abbrev no_room : ℕ → Option ℕ
no_room x = None

abbrev some : List (Option ℕ) → ℕ → Option ℕ
some rooms x = slice_index_or rooms x None

-- process = _ : @(2) : @(3);
abbrev chain : Graph
chain = record {
  signals = Const (pos 0) ∷ Input 0 ∷ Const (pos 2) ∷ Delay 1 2 2 ∷ Const (pos 3) ∷ Delay 3 4 3 ∷ [];
  groups = [];
  tables = [];
  outputs = 5 ∷ [];
}

folded_chain : rebuilt chain all [] no_room ≡ chain
folded_chain = refl

joined_chain : rebuilt chain all [] (some (Some 0 ∷ Some 2 ∷ Some 0 ∷ Some 3 ∷ [])) ≡ record {
  signals = Const (pos 0) ∷ Input 0 ∷ Const (pos 2) ∷ Delay 1 2 2 ∷ Const (pos 3) ∷ Const (pos 5) ∷ Delay 1 5 5 ∷ [];
  groups = [];
  tables = [];
  outputs = 6 ∷ [];
}
joined_chain = refl

reaches : (reach chain ≡ 5) × (reach (rebuilt chain all [] (some (Some 0 ∷ Some 2 ∷ Some 0 ∷ Some 3 ∷ []))) ≡ 5)
reaches = (refl, refl)

-- process = 2147483647 * 2 / 2;
abbrev wrapped : Graph
wrapped = record {
  signals = Const (pos 0) ∷ Const (pos 2147483647) ∷ Const (pos 2) ∷ Point Mul (1 ∷ 2 ∷ 1 ∷ 1 ∷ []) ∷ Point Div (3 ∷ 2 ∷ 3 ∷ 3 ∷ []) ∷ [];
  groups = [];
  tables = [];
  outputs = 4 ∷ [];
}

folded_wrapped : (rebuilt wrapped all [] no_room).outputs ≡ 4 ∷ []
unfolding int_wrap
folded_wrapped = refl

-- a running sum, after its member: + ~ _, and 0 more
abbrev running : Graph
running = record {
  signals = Const (pos 0) ∷ Input 0 ∷ Back 0 0 ∷ Point Add (2 ∷ 1 ∷ 2 ∷ 2 ∷ []) ∷ Member 0 0 ∷ Point Add (4 ∷ 0 ∷ 4 ∷ 4 ∷ []) ∷ [];
  groups = (3 ∷ []) ∷ [];
  tables = [];
  outputs = 5 ∷ [];
}

folded_running : rebuilt running all (1 ∷ []) no_room ≡ record
    { signals = Const (pos 0) ∷ Input 0 ∷ Back 0 0 ∷ Point Add (2 ∷ 1 ∷ 2 ∷ 2 ∷ []) ∷ []; groups = (3 ∷ []) ∷ []; tables = []; outputs = 3 ∷ [] }
folded_running = refl
