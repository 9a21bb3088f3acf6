-- Words are cut into the pieces that the rules of options give.
use Rattle.std.proofs.Common.{◌≡◌, ℕ, suc, ◌+◌, ◌<◌, Bool, true, false, cond, not, List, [], ◌∷◌, ◌++◌}
use Rattle.std.proofs.Common.{Option, Some, None, length, map, take, drop, get_or, refl, sym, ◌∙◌, ap, subst, arith, length-append}
use Rattle.std.specs.Prelude.{◌&&◌, nat_lt, bytes_eq, codes, option_map, if◌then◌else◌}
use Rattle.std.specs.List.{list_all, position_or_len}
use Rattle.std.proofs.Math.Seq.{take-append_seam, drop-append-add}
use Rattle.std.proofs.lemmas.List.{append-nil}
use Rattle.std.proofs.lemmas.Bool.{eqb-true}
use Rattle.std.proofs.lemmas.Bool.Decides.{nat_tests}
use Rattle.std.proofs.lemmas.Slice.Eq.{bytes_eq-Decides}
use Rattle.std.proofs.lemmas.List.Sums.{split_at_first, passes_at_first}
use Rattle.fv_top_words.specs.headline.Pieces.{Piece, Plain, Given, is_dashed, is_equals, in_front, cut}
use Rattle.fv_top_words.specs.inner.Reader.{Kind, Bare, Ends, Apart, Joined, kind_of, State, Any, Value}
use Rattle.fv_top_words.specs.inner.Reader.{Names, after_kind, state_after, kind_piece, piece_of, with_piece, pieces_from}
use Rattle.fv_top_words.specs.Pieces.{IsOption, Cuts, nothing, plain, apart, joined, ended, AreCut}

abbrev differs : ℕ → Bool
differs b = not (is_equals b)

abbrev place : List ℕ → ℕ
place w = position_or_len is_equals w

-- ---- where a word has its first `=`

-- one byte more
one_more : (b : ℕ) (w : List ℕ) (t : Bool) → is_equals b ≡ t → place (b ∷ w) ≡ cond (not t) (suc (place w)) 0
one_more b w t e = ap (λ u. cond (not u) (1 + place w) 0) e ∙ ap (λ n. cond (not t) n 0) (omega arith)

-- before its first `=` a word has none
before_by : (b : ℕ) (w : List ℕ) (t : Bool) → list_all differs (take (place w) w) ≡ true → is_equals b ≡ t →
    list_all differs (take (place (b ∷ w)) (b ∷ w)) ≡ true
before_by b w true rest e = rw (one_more b w true e) refl
before_by b w false rest e = rw (one_more b w false e) (ap (λ t. not t && list_all differs (take (place w) w)) e ∙ rest)

before_lacks : (w : List ℕ) → list_all differs (take (place w) w) ≡ true
before_lacks [] = refl
before_lacks (b ∷ w) = before_by b w (is_equals b) (before_lacks w) refl

-- a word that has none before its end has none
lacks_by : (b : ℕ) (w : List ℕ) (t : Bool) → (nat_lt (place w) (length w) ≡ false → list_all differs w ≡ true) → is_equals b ≡ t →
    nat_lt (place (b ∷ w)) (suc (length w)) ≡ false
    → list_all differs (b ∷ w) ≡ true
lacks_by b w true rest e h = let k = rw (one_more b w true e) at h in absurd (grind (arith, nat_tests))
lacks_by b w false rest e h = let k = rw (one_more b w false e) at h in ap (λ t. not t && list_all differs w) e ∙ rest (grind (arith, nat_tests))

lacks : (w : List ℕ) → nat_lt (place w) (length w) ≡ false → list_all differs w ≡ true
lacks [] h = refl
lacks (b ∷ w) h = lacks_by b w (is_equals b) (lacks w) refl h

-- its place after bytes that are none
behind_by : (b : ℕ) (n w : List ℕ) (t : Bool) → (list_all differs n ≡ true → place (n ++ w) ≡ length n + place w) → is_equals b ≡ t →
    list_all differs (b ∷ n) ≡ true
    → place (b ∷ (n ++ w)) ≡ suc (length n) + place w
behind_by b n w true rest e h = let k = ap (λ t. not t && list_all differs n) (sym e) ∙ h in absurd cc
behind_by b n w false rest e h =
    let k = rest (ap (λ t. not t && list_all differs n) (sym e) ∙ h) in
    one_more b (n ++ w) false e ∙ omega (arith, k)

place_behind : (n w : List ℕ) → list_all differs n ≡ true → place (n ++ w) ≡ length n + place w
place_behind [] w h = omega arith
place_behind (b ∷ n) w h = behind_by b n w (is_equals b) (place_behind n w) refl h

-- a name before `=` is what stands before the first one
place_joined : (name value : List ℕ) → list_all differs name ≡ true → place (name ++ 61 ∷ value) ≡ length name
place_joined name value h = place_behind name (61 ∷ value) h ∙ omega arith

place_whole : (name : List ℕ) → list_all differs name ≡ true → place name ≡ length name
place_whole [] h = refl
place_whole (b ∷ n) h = ap place (sym (append-nil (b ∷ n))) ∙ place_behind (b ∷ n) [] h ∙ omega arith

-- ---- one word

-- an option and its value in one word
pub record IsJoined (name value word : List ℕ) : Type 0 where
  pub is : word ≡ name ++ 61 ∷ value
  pub whole : list_all differs name ≡ true
  pub dashed : is_dashed word ≡ true

-- what a word of each kind is
abbrev Is : Kind → List ℕ → Type 0
Is Bare w = is_dashed w ≡ false
Is Ends w = w ≡ codes "--"
Is Apart w = IsOption w
Is (Joined name value) w = IsJoined name value w

-- cut at its first `=`
cut_at : (w : List ℕ) → nat_lt (place w) (length w) ≡ true → w ≡ take (place w) w ++ 61 ∷ drop (place w + 1) w
cut_at w h =
    let within : place w < length w = grind (arith, nat_tests) in
    let byte : get_or w (place w) 0 ≡ 61 = eqb-true (get_or w (place w) 0) 61 (passes_at_first is_equals w 0 within) in
    split_at_first is_equals w 0 within ∙ ap (λ b. take (place w) w ++ b ∷ drop (place w + 1) w) byte

abbrev tested : (d b l : Bool) → (before after : List ℕ) → Kind
tested d b l before after = if d then (if b then Ends else (if l then Joined before after else Apart)) else Bare

kind_by : (w : List ℕ) (d b l : Bool) → is_dashed w ≡ d → bytes_eq w (codes "--") ≡ b → nat_lt (place w) (length w) ≡ l →
    Is (tested d b l (take (place w) w) (drop (place w + 1) w)) w
kind_by w false b l hd hb hl = hd
kind_by w true true l hd hb hl = (bytes_eq-Decides w (codes "--")).0 hb
kind_by w true false true hd hb hl = record { is = cut_at w hl; whole = before_lacks w; dashed = hd }
kind_by w true false false hd hb hl =
    record { dashed = hd; whole = lacks w hl; no_end = λ is. let k = sym hb ∙ (bytes_eq-Decides w (codes "--")).1 is in cc }

kind_is : (w : List ℕ) → Is (kind_of w) w
kind_is w = kind_by w _ _ _ refl refl refl

-- no joined option is `--`
not_end : (name value : List ℕ) → list_all differs name ≡ true → name ++ 61 ∷ value ≡ codes "--" → ⊥
not_end name value whole is =
    let at : place (name ++ 61 ∷ value) ≡ 2 = ap place is in
    let long : length (name ++ 61 ∷ value) ≡ 2 = ap length is in
    omega (arith, place_joined name value whole, length-append name (61 ∷ value))

untrue : (t : Bool) → (t ≡ true → ⊥) → t ≡ false
untrue true h = absurd (h refl)
untrue false h = refl

tests_are : (w : List ℕ) (b l : Bool) → is_dashed w ≡ true → bytes_eq w (codes "--") ≡ b → nat_lt (place w) (length w) ≡ l →
    kind_of w ≡ tested true b l (take (place w) w) (drop (place w + 1) w)
tests_are w b l hd hb hl =
    ap (λ t. tested t (bytes_eq w (codes "--")) (nat_lt (place w) (length w)) (take (place w) w) (drop (place w + 1) w)) hd
    ∙ ap (λ t. tested true t (nat_lt (place w) (length w)) (take (place w) w) (drop (place w + 1) w)) hb
    ∙ ap (λ t. tested true b t (take (place w) w) (drop (place w + 1) w)) hl

kind_joined : (name value : List ℕ) → list_all differs name ≡ true → is_dashed (name ++ 61 ∷ value) ≡ true → kind_of (name ++ 61 ∷ value) ≡ Joined name value
kind_joined name value whole dashed =
    let w = name ++ 61 ∷ value in
    let at = place_joined name value whole in
    let other : bytes_eq w (codes "--") ≡ false = untrue (bytes_eq w (codes "--")) (λ t. not_end name value whole ((bytes_eq-Decides w (codes "--")).0 t)) in
    let long = length-append name (61 ∷ value) in
    let inside : nat_lt (place w) (length w) ≡ true = grind (arith, nat_tests) in
    tests_are w false true dashed other inside
    ∙ ap (λ n. Joined (take n w) (drop (n + 1) w)) at
    ∙ ap (λ v. Joined v (drop (length name + 1) w)) (take-append_seam name (61 ∷ value))
    ∙ ap (λ v. Joined name v) (drop-append-add name (61 ∷ value) 1)

-- and a word that is so is of this kind
is_kind : (k : Kind) (w : List ℕ) → Is k w → kind_of w ≡ k
is_kind Bare w h = ap (λ t. tested t (bytes_eq w (codes "--")) (nat_lt (place w) (length w)) (take (place w) w) (drop (place w + 1) w)) h
is_kind Ends w h = ap kind_of h
is_kind Apart w h =
    let at = place_whole w h.whole in
    let outside : nat_lt (place w) (length w) ≡ false = grind (arith, nat_tests) in
    tests_are w false false h.dashed (untrue (bytes_eq w (codes "--")) (λ t. h.no_end ((bytes_eq-Decides w (codes "--")).0 t))) outside
is_kind (Joined name value) w h = ap kind_of h.is ∙ kind_joined name value h.whole (subst (λ (v : List ℕ). is_dashed v ≡ true) h.is h.dashed)

-- ---- all of them

-- the value of an option stands first
pub record HasValue (name : List ℕ) (ws : List (List ℕ)) (ps : List Piece) : Type 0 where
  pub value : List ℕ
  pub rest : List (List ℕ)
  pub pieces : List Piece
  pub words : ws ≡ value ∷ rest
  pub given : ps ≡ Given name value ∷ pieces
  pub cuts : Cuts rest pieces

-- what the pieces are in each state
abbrev Holds : State → List (List ℕ) → List Piece → Type 0
Holds Any ws ps = Cuts ws ps
Holds (Value name) ws ps = HasValue name ws ps
Holds Names ws ps = ps ≡ map Plain ws

mapped : (f : List Piece → List Piece) (o : Option (List Piece)) (ps : List Piece) → option_map f o ≡ Some ps →
    (qs : List Piece) × (o ≡ Some qs) × (ps ≡ f qs)
mapped f None ps e = absurd cc
mapped f (Some qs) ps e = (qs, refl, cc)

-- the first word is of this kind
first_is : (k : Kind) (w : List ℕ) (ws : List (List ℕ)) (qs : List Piece) → Is k w → Holds (after_kind k w) ws qs →
    Cuts (w ∷ ws) (with_piece (kind_piece k w) qs)
first_is Bare w ws qs is h = plain w ws qs is h
first_is Ends w ws qs is h = subst (λ (v : List ℕ). Cuts (v ∷ ws) qs) (sym is) (subst (Cuts (codes "--" ∷ ws)) (sym h) (ended ws))
first_is Apart w ws qs is h = subst (λ (v : List (List ℕ)). Cuts (w ∷ v) qs) (sym h.words) (subst (Cuts (w ∷ h.value ∷ h.rest)) (sym h.given) (apart w
    h.value h.rest h.pieces is h.cuts))
first_is (Joined name value) w ws qs is h =
    subst (λ (v : List ℕ). Cuts (v ∷ ws) (Given name value ∷ qs)) (sym is.is) (joined name value ws qs is.whole (subst (λ (v : List ℕ). is_dashed v ≡ true)
    is.is is.dashed) h)

next_is : (s : State) (w : List ℕ) (ws : List (List ℕ)) (qs : List Piece) → Holds (state_after s w) ws qs → Holds s (w ∷ ws) (with_piece (piece_of s w) qs)
next_is Any w ws qs h = first_is (kind_of w) w ws qs (kind_is w) h
next_is (Value name) w ws qs h = record { value = w; rest = ws; pieces = qs; words = refl; given = refl; cuts = h }
next_is Names w ws qs h = ap (λ rest. Plain w ∷ rest) h

holds_none : (s : State) (ps : List Piece) → pieces_from s [] ≡ Some ps → Holds s [] ps
holds_none Any ps e = let none : [] ≡ ps = cc in subst (Cuts []) none nothing
holds_none (Value name) ps e = absurd cc
holds_none Names ps e = let none : [] ≡ ps = cc in sym none

holds : (s : State) (ws : List (List ℕ)) (ps : List Piece) → pieces_from s ws ≡ Some ps → Holds s ws ps
holds s [] ps e = holds_none s ps e
holds s (w ∷ ws) ps e =
    let m = mapped (with_piece (piece_of s w)) (pieces_from (state_after s w) ws) ps e in
    subst (Holds s (w ∷ ws)) (sym m.2) (next_is s w ws m.0 (holds (state_after s w) ws m.0 m.1))

-- and words with such pieces are cut into them
cut_names : (ws : List (List ℕ)) → pieces_from Names ws ≡ Some (map Plain ws)
cut_names [] = refl
cut_names (w ∷ ws) = ap (option_map (with_piece (Some (Plain w)))) (cut_names ws)

cut_first : (k : Kind) (w : List ℕ) (ws : List (List ℕ)) (qs : List Piece) → Is k w → pieces_from (after_kind k w) ws ≡ Some qs →
    pieces_from Any (w ∷ ws) ≡ Some (with_piece (kind_piece k w) qs)
cut_first k w ws qs is e =
    ap (λ t. option_map (with_piece (kind_piece t w)) (pieces_from (after_kind t w) ws)) (is_kind k w is) ∙ ap (option_map (with_piece (kind_piece k w))) e

cuts : (ws : List (List ℕ)) (ps : List Piece) → Cuts ws ps → pieces_from Any ws ≡ Some ps
cuts ws ps nothing = refl
cuts ws ps (plain w rest qs is h) = cut_first Bare w rest qs is (cuts rest qs h)
cuts ws ps (apart name value rest qs is h) = cut_first Apart name (value ∷ rest) (Given name value ∷ qs) is (ap (option_map (with_piece (Some (Given name
    value)))) (cuts rest qs h))
cuts ws ps (joined name value rest qs whole dashed h) = cut_first (Joined name value) (name ++ 61 ∷ value) rest qs (record {
  is = refl;
  whole = whole;
  dashed
      = dashed;
}) (cuts rest qs h)
cuts ws ps (ended rest) = cut_first Ends (codes "--") rest (map Plain rest) refl (cut_names rest)

-- ---- read one after another, words are cut into the same

-- what may stand next
abbrev waits : Option (List ℕ) → State
waits None = Any
waits (Some name) = Value name

-- no piece changes none
unchanged : (o : Option (List Piece)) → option_map (with_piece None) o ≡ o
unchanged None = refl
unchanged (Some ps) = refl

-- by what a first word is
cut_by : (d b l : Bool) (w before after : List ℕ) (ws : List (List ℕ)) → ((o : Option (List ℕ)) → pieces_from (waits o) ws ≡ cut o ws) →
    option_map (with_piece (kind_piece (tested d b l before after) w)) (pieces_from (after_kind (tested d b l before after) w) ws)
    ≡ (if d then (if b then Some (map Plain ws) else (if l then in_front (Given before after) (cut None ws) else cut (Some w) ws))
    else in_front (Plain w) (cut None ws))
cut_by false b l w before after ws rest = ap (option_map (with_piece (Some (Plain w)))) (rest None)
cut_by true true l w before after ws rest = ap (option_map (with_piece None)) (cut_names ws)
cut_by true false true w before after ws rest = ap (option_map (with_piece (Some (Given before after)))) (rest None)
cut_by true false false w before after ws rest = unchanged (pieces_from (Value w) ws) ∙ rest (Some w)

pub cut_is : (o : Option (List ℕ)) (ws : List (List ℕ)) → pieces_from (waits o) ws ≡ cut o ws
cut_is None [] = refl
cut_is (Some name) [] = refl
cut_is (Some name) (w ∷ ws) = ap (option_map (with_piece (Some (Given name w)))) (cut_is None ws)
cut_is None (w ∷ ws) =
    cut_by (is_dashed w) (bytes_eq w (codes "--")) (nat_lt (place w) (length w)) w (take (place w) w) (drop (place w + 1) w) ws (λ o. cut_is o ws)

pub are_cut : AreCut
are_cut ws ps = (λ e. holds Any ws ps (cut_is None ws ∙ e), λ h. sym (cut_is None ws) ∙ cuts ws ps h)
