-- What calls say beside `headline/Pieces`: the words after the command word, cut into names and options (this project's profile).
use Rattle.std.specs.Prelude.{◌≡◌, ◌≢◌, ℕ, true, false, not, List, []}
use Rattle.std.specs.Prelude.{◌∷◌, ◌++◌, map, Some, None, codes}
use Rattle.std.specs.List.{list_all}
use Rattle.fv_top_words.specs.headline.Pieces.{Piece, is_dashed, is_equals, cut, Given, Plain}

-- ---- what that means

-- the name of an option: a dash and more, without `=`, and not `--`
pub record IsOption (name : List ℕ) : Type 0 where
  pub dashed : is_dashed name ≡ true
  pub whole : list_all (λ b. not (is_equals b)) name ≡ true
  pub no_end : name ≢ codes "--"

-- Options stand anywhere before `--`, as a name and a value apart, or joined by `=`; a value may be any word. All others are
-- plain: those before `--` do not begin with a dash, or are one.
pub data Cuts : List (List ℕ) → List Piece → Type 0 where
  nothing : Cuts [] []
  plain : (w : List ℕ) (ws : List (List ℕ)) (ps : List Piece) → is_dashed w ≡ false → Cuts ws ps → Cuts (w ∷ ws) (Plain w ∷ ps)
  apart : (name value : List ℕ) (ws : List (List ℕ)) (ps : List Piece) → IsOption name → Cuts ws ps → Cuts (name ∷ value ∷ ws) (Given name value ∷ ps)
  joined : (name value : List ℕ) (ws : List (List ℕ)) (ps : List Piece) → list_all (λ b. not (is_equals b)) name ≡ true
      → is_dashed (name ++ 61 ∷ value) ≡ true → Cuts ws ps → Cuts ((name ++ 61 ∷ value) ∷ ws) (Given name value ∷ ps)
  ended : (ws : List (List ℕ)) → Cuts (codes "--" ∷ ws) (map Plain ws)

-- Words are cut into just these pieces.
abbrev pub AreCut : Type 0
AreCut = (ws : List (List ℕ)) (ps : List Piece) → (cut None ws ≡ Some ps → Cuts ws ps) × (Cuts ws ps → cut None ws ≡ Some ps)
