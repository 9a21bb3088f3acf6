-- Canonical numbers.
use Rattle.std.proofs.Common.{◌≡◌, ℕ, zero, suc, min, ◌+◌, ◌<◌, ◌≤◌, Bool, true, false, cond, List, [], ◌∷◌, ◌++◌, length, take, map, get_or, Option, Some}
use Rattle.std.proofs.Common.{None, inl, inr, refl, sym, ap, ap₂, subst, ◌∙◌, arith}
use Rattle.std.specs.Prelude.{unwrap_or, option_map}
use Rattle.std.specs.Option.{option_or}
use Rattle.std.specs.Str.{bytes_eq}
use Rattle.std.proofs.lemmas.List.{take_more, take_all, map_push, get_or_append_left, get_or_push, get_or_past, get_or-map, length_push, length-take-le}
use Rattle.std.proofs.lemmas.List.{length-map}
use Rattle.std.proofs.lemmas.Bool.{cases_lt}
use Rattle.std.proofs.lemmas.Option.{unwrap_or-slice_get}
use Rattle.std.proofs.lemmas.Slice.Eq.{bytes_eq-Decides}
use Rattle.fv_lex.specs.headline.Token.{Token, Lexed, texts_of}
use Rattle.fv_parse.specs.headline.Trees.{text_of}
use Rattle.fv_parse.specs.Trees.{first_with, first_named, canonical_of}
use Rattle.fv_parse.specs.Laws.{SameNumbersSameBytes, NumbersAreOfTheBytes}

bytes_self : (t : List ℕ) → bytes_eq t t ≡ true
bytes_self t = (bytes_eq-Decides t t).1 refl

-- ---- the laws
at_first : (t text : List ℕ) (ts : List (List ℕ)) (n : ℕ) (b : Bool)
    → bytes_eq t text ≡ b → get_or ts n [] ≡ text → get_or (t ∷ ts) (cond b 0 (suc n)) [] ≡ text
at_first t text ts n true e h = (bytes_eq-Decides t text).0 e
at_first t text ts n false e h = h

-- the first text with the bytes of one of the texts has these bytes
first_is_of : (texts : List (List ℕ)) (i : ℕ) → get_or texts (first_with texts (get_or texts i [])) [] ≡ get_or texts i []
first_is_of [] i = refl
first_is_of (t ∷ ts) zero = rw (bytes_self t) refl
first_is_of (t ∷ ts) (suc i) = let text = get_or ts i [] in at_first t text ts (first_with ts text) (bytes_eq t text) refl (first_is_of ts i)

text_is : (l : Lexed) (n : ℕ) → text_of l n ≡ get_or (texts_of l.tokens) n []
text_is l n = unwrap_or-slice_get (texts_of l.tokens) n []

pub numbers_are_of : NumbersAreOfTheBytes
numbers_are_of l a =
    text_is l (first_named l a) ∙ ap (λ t. get_or (texts_of l.tokens) (first_with (texts_of l.tokens) t) []) (text_is l a)
    ∙ first_is_of (texts_of l.tokens) a ∙ sym (text_is l a)

pub same_numbers : SameNumbersSameBytes
same_numbers l a b = (λ e. sym (numbers_are_of l a) ∙ ap (text_of l) e ∙ numbers_are_of l b, λ e. ap (first_with (texts_of l.tokens)) e)

-- ---- texts that were seen
-- the number of the first of these texts with these bytes, if there is one
abbrev pub seen_in : List (List ℕ) → List ℕ → Option ℕ
seen_in [] text = None
seen_in (t ∷ ts) text = cond (bytes_eq t text) (Some 0) (option_map suc (seen_in ts text))

later : (s : Option ℕ) (n : ℕ) → unwrap_or (option_map suc s) (suc n) ≡ suc (unwrap_or s n)
later None n = refl
later (Some k) n = refl

first_seen : (ts : List (List ℕ)) (text : List ℕ) → first_with ts text ≡ unwrap_or (seen_in ts text) (length ts)
first_seen [] text = refl
first_seen (t ∷ ts) text = go (bytes_eq t text) (first_seen ts text)
  where
    go : (b : Bool) → first_with ts text ≡ unwrap_or (seen_in ts text) (length ts)
        → cond b 0 (suc (first_with ts text)) ≡ unwrap_or (cond b (Some 0) (option_map suc (seen_in ts text))) (suc (length ts))
    go true e = refl
    go false e = ap suc e ∙ sym (later (seen_in ts text) (length ts))

pub seen_push : (xs : List (List ℕ)) (x text : List ℕ)
    → seen_in (xs ++ x ∷ []) text ≡ option_or (seen_in xs text) (cond (bytes_eq x text) (Some (length xs)) None)
seen_push [] x text = refl
seen_push (y ∷ ys) x text =
    ap (λ o. cond (bytes_eq y text) (Some 0) (option_map suc o)) (seen_push ys x text) ∙ go (bytes_eq y text) (seen_in ys text) (bytes_eq x text)
  where
    go : (b : Bool) (s : Option ℕ) (c : Bool) → cond b (Some 0) (option_map suc (option_or s (cond c (Some (length ys)) None)))
        ≡ option_or (cond b (Some 0) (option_map suc s)) (cond c (Some (suc (length ys))) None)
    go true s c = refl
    go false (Some k) c = refl
    go false None true = refl
    go false None false = refl

seen_here : (ts : List (List ℕ)) (i : ℕ) (d : List ℕ) → i < length ts → seen_in ts (get_or ts i d) ≡ Some (unwrap_or (seen_in (take i ts) (get_or ts i d)) i)
seen_here [] i d h = absurd (omega arith)
seen_here (t ∷ ts) zero d h = rw (bytes_self t) refl
seen_here (t ∷ ts) (suc i) d h = go (get_or ts i d) (seen_here ts i d (omega arith)) (bytes_eq t (get_or ts i d))
  where
    go : (x : List ℕ) → seen_in ts x ≡ Some (unwrap_or (seen_in (take i ts) x) i) → (b : Bool)
        → cond b (Some 0) (option_map suc (seen_in ts x)) ≡ Some (unwrap_or (cond b (Some 0) (option_map suc (seen_in (take i ts) x))) (suc i))
    go x e true = refl
    go x e false = ap (option_map suc) e ∙ ap Some (sym (later (seen_in (take i ts) x) i))

-- ---- the loop, a step at a time
-- past text i
module _ (ts : List (List ℕ)) (i : ℕ) (text : List ℕ) (inside : i < length ts) (is : text ≡ get_or ts i []) where
  pub number_is : (found : Option ℕ) → found ≡ seen_in (take i ts) text → unwrap_or found i ≡ first_with ts text
  number_is found seen =
      let here : seen_in ts text ≡ Some (unwrap_or (seen_in (take i ts) text) i) =
      subst (λ x. seen_in ts x ≡ Some (unwrap_or (seen_in (take i ts) x) i)) (sym is) (seen_here ts i [] inside) in
      ap (λ o. unwrap_or o i) seen ∙ ap (λ o. unwrap_or o (length ts)) (sym here) ∙ sym (first_seen ts text)

  pub numbers_on : (numbers all : List ℕ) (number : ℕ) → number ≡ first_with ts text → all ≡ numbers ++ number ∷ []
      → numbers ≡ map (first_with ts) (take i ts) → all ≡ map (first_with ts) (take (i + 1) ts)
  numbers_on numbers all number first grown so_far =
      grown ∙ ap₂ (λ ns n. ns ++ n ∷ []) so_far (first ∙ ap (first_with ts) is)
      ∙ sym (map_push (first_with ts) (take i ts) (get_or ts i [])) ∙ ap (map (first_with ts)) (sym (take_more ts i [] inside))

  pub seen_on : (cs : List ℕ) → option_or (seen_in (take i ts) cs) (cond (bytes_eq text cs) (Some i) None) ≡ seen_in (take (i + 1) ts) cs
  seen_on cs =
      let len : length (take i ts) ≡ i = length-take-le i ts (omega arith) in
      ap₂ (λ t n. option_or (seen_in (take i ts) cs) (cond (bytes_eq t cs) (Some n) None)) is (sym len)
      ∙ sym (seen_push (take i ts) (get_or ts i []) cs) ∙ ap (λ l. seen_in l cs) (sym (take_more ts i [] inside))

pub numbers_end : (l : Lexed) (i : ℕ) (numbers all : List ℕ) (found : Option ℕ)
    → length (texts_of l.tokens) ≤ i → all ≡ numbers ++ unwrap_or found (length (texts_of l.tokens)) ∷ []
    → found ≡ seen_in (take i (texts_of l.tokens)) [] → numbers ≡ map (first_with (texts_of l.tokens)) (take i (texts_of l.tokens)) → all ≡ canonical_of l
numbers_end l i numbers all found h grown seen so_far =
    let ts = texts_of l.tokens in
    let whole : take i ts ≡ ts = take_all i ts h in
    let last : unwrap_or found (length ts) ≡ first_with ts [] =
    ap (λ o. unwrap_or o (length ts)) (seen ∙ ap (λ us. seen_in us []) whole) ∙ sym (first_seen ts []) in
    grown ∙ ap₂ (λ ns n. ns ++ n ∷ []) (so_far ∙ ap (map (first_with ts)) whole) last ∙ sym (map_push (first_with ts) ts [])

-- ---- one number, of its token or of no bytes
pub length_canonical : (l : Lexed) → length (canonical_of l) ≡ length l.tokens + 1
length_canonical l =
    omega (
      arith,
      length-map (texts_of l.tokens ++ [] ∷ []) (first_with (texts_of l.tokens)),
      length_push (texts_of l.tokens) [],
      length-map l.tokens (λ (t : Token). t.text),
    )

pub name_is : (l : Lexed) (n i d : ℕ) → i ≡ min n (length l.tokens) → get_or (canonical_of l) i d ≡ first_named l n
name_is l n i d is =
    let ts = texts_of l.tokens in
    let len : length ts ≡ length l.tokens = length-map l.tokens (λ (t : Token). t.text) in
    let text : get_or (ts ++ [] ∷ []) i [] ≡ get_or ts n [] = elim (cases_lt n (length ts)) [
      | inl lt ↦ let same : i ≡ n = omega arith in ap (λ k. get_or (ts ++ [] ∷ []) k []) same ∙ get_or_append_left ts ([] ∷ []) [] n lt
      | inr ge ↦ get_or_push ts [] [] i (omega arith) ∙ sym (get_or_past ts n [] ge)
    ] in
    get_or-map (first_with ts) (ts ++ [] ∷ []) i [] d (omega (arith, length_push ts [])) ∙ ap (first_with ts) (text ∙ sym (text_is l n))
