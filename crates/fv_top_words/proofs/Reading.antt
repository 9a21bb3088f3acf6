-- Reading one word after another.
use Rattle.std.proofs.Common.{◌≡◌, ℕ, ◌<◌, List, ◌∷◌, Option, Some, None, length, map, drop, get_or, suc, refl, sym, ◌∙◌, ap, Global}
use Rattle.std.specs.Prelude.{String, string_bytes, option_map, option_and_then}
use Rattle.std.proofs.Math.Seq.{drop-cons}
use Rattle.fv_top_words.specs.headline.Pieces.{Piece}
use Rattle.fv_top_words.specs.inner.Reader.{with_piece, piece_of, state_after, pieces_from}
use Rattle.fv_top_words.specs.headline.Texts.{Texts, take_piece, gathered}
use Rattle.fv_top_words.specs.declared.texts.Reader.{Reader}
use Rattle.fv_top_words.specs.Views.{Read, read_in, with_read, read_more, finished}

no_answer : (o : Option Texts) → option_and_then (λ (t : Texts). let none : Option Texts = None in none) o ≡ None
no_answer None = refl
no_answer (Some t) = refl

and_then_map : {A B C : Type 0} (f : A → B) (g : B → Option C) (o : Option A) → option_and_then (λ x. g (f x)) o ≡ option_and_then g (option_map f o)
and_then_map f g None = refl
and_then_map f g (Some x) = refl

-- what pieces make of the texts, the first one taken
gathered_more : (p : Option Piece) (t : Texts) (c : Option (List Piece)) →
    option_and_then (gathered t) (option_map (with_piece p) c) ≡ option_and_then (λ u. option_and_then (gathered u) c) (with_read p t)
gathered_more None t None = refl
gathered_more None t (Some ps) = refl
gathered_more (Some q) t None = sym (no_answer (take_piece q t))
gathered_more (Some q) t (Some ps) = refl

-- what the words make of those before, the first one read
finished_more : (r : Read) (w : List ℕ) (ws : List (List ℕ)) → finished r (w ∷ ws) ≡ option_and_then (λ u. finished u ws) (read_more r w)
finished_more r w ws =
    gathered_more (piece_of r.state w) r.texts (pieces_from (state_after r.state w) ws)
    ∙ and_then_map (λ (t : Texts). record { state = state_after r.state w; texts = t }) (λ (u : Read). finished u ws) (with_read (piece_of r.state w)
    r.texts)

-- and that of a list of words from a place on, where the word there was read
finished_at : (r : Read) (ws : List (String Global)) (i : ℕ) (w : String Global) (b : List ℕ) (answer : Option Reader) → i < length ws → w ≡ get_or ws i w →
    b ≡ string_bytes w →
    option_map read_in answer ≡ read_more r b →
    finished r (map string_bytes (drop i ws)) ≡ option_and_then (λ u. finished u (map string_bytes (drop (suc i) ws))) (option_map read_in answer)
finished_at r ws i w b answer h is bytes read =
    ap (λ (v : List (String Global)). finished r (map string_bytes v)) (drop-cons ws i w h)
    ∙ finished_more r (string_bytes (get_or ws i w)) (map string_bytes (drop (suc i) ws))
    ∙ ap (λ (v : List ℕ). option_and_then (λ (u : Read). finished u (map string_bytes (drop (suc i) ws))) (read_more r v)) (ap string_bytes (sym is)
    ∙ sym bytes)
    ∙ ap (λ (o : Option Read). option_and_then (λ (u : Read). finished u (map string_bytes (drop (suc i) ws))) o) (sym read)

-- the words are of no form
pub stopped_at : (r : Read) (ws : List (String Global)) (i : ℕ) (w : String Global) (b : List ℕ) (answer : Option Reader) (all : Option Texts) →
    i < length ws → w ≡ get_or ws i w → b ≡ string_bytes w →
    option_map read_in answer ≡ read_more r b → finished r (map string_bytes (drop i ws)) ≡ all → answer ≡ None → None ≡ all
stopped_at r ws i w b answer all h is bytes read kept none =
    sym (finished_at r ws i w b answer h is bytes read
    ∙ ap (λ (o : Option Reader). option_and_then (λ (u : Read). finished u (map string_bytes (drop (suc i) ws))) (option_map read_in o)) none) ∙ kept

-- one word more was read
pub went_on : (r : Read) (ws : List (String Global)) (i : ℕ) (w : String Global) (b : List ℕ) (answer : Option Reader) (next : Reader) (all : Option Texts) →
    i < length ws → w ≡ get_or ws i w → b ≡ string_bytes w →
    option_map read_in answer ≡ read_more r b → finished r (map string_bytes (drop i ws)) ≡ all → answer ≡ Some next → finished (read_in next) (map
    string_bytes (drop (suc i) ws)) ≡ all
went_on r ws i w b answer next all h is bytes read kept some =
    sym (finished_at r ws i w b answer h is bytes read
    ∙ ap (λ (o : Option Reader). option_and_then (λ (u : Read). finished u (map string_bytes (drop (suc i) ws))) (option_map read_in o)) some) ∙ kept
