-- What is made, worked.
use Rattle.std.specs.Prelude.{◌≡◌, [], ◌∷◌, ◌++◌, codes, pos, negsuc, refl}
use Rattle.std.specs.Int.{int_wrap}
use Rattle.std.specs.Fmt.{digits}
use Rattle.fv_top_make.specs.headline.Made.{next_state, noise_of, sum_of, text_of}

-- the first three states of one voice
states : (next_state (pos 1) ≡ pos 1103527590) × (next_state (pos 1103527590) ≡ negsuc 1770082072) × (next_state (negsuc 1770082072) ≡ pos 662824084)
unfolding int_wrap
states = (refl, refl, refl)

noise : noise_of 1 3 ≡ pos 16838 ∷ negsuc 27009 ∷ pos 10113 ∷ []
unfolding int_wrap
noise = refl

sums : (sum_of (pos 16838 ∷ negsuc 27009 ∷ pos 16427 ∷ []) ≡ pos 6255) × (sum_of (pos 2147483647 ∷ pos 1 ∷ []) ≡ negsuc 2147483647)
unfolding int_wrap
sums = (refl, refl)

-- two lines, each ended by a line feed
sixteen : text_of 16 ≡ codes "v(i) = + ~ (@(i*37+1) : *(i+3) : /(8));" ++ 10 ∷ [] ++ codes "process = _ <: par(i,16,v(i)) :> _;" ++ 10 ∷ []
unfolding digits
sixteen = refl
