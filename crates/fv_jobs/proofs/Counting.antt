-- The jobs of lines, one line after another.
use Rattle.std.proofs.Common.{◌≡◌, ℕ, ◌+◌, ◌≤◌, Bool, true, false, List, [], ◌∷◌, ◌++◌, length, drop, refl, sym, ap, ◌∙◌, arith, append_assoc, append-nil}
use Rattle.std.specs.Prelude.{if◌then◌else◌}
use Rattle.std.proofs.lemmas.List.{drop_all}
use Rattle.fv_jobs.specs.headline.Jobs.{lines_in, is_separator, in_front, jobs_of, jobs_in}

-- there is a first text
pub record HasFirst (texts : List (List ℕ)) : Type 0 where
  pub first : List ℕ
  pub more : List (List ℕ)
  pub is : texts ≡ first ∷ more

front_first : (l : List ℕ) (texts : List (List ℕ)) → HasFirst texts → HasFirst (in_front l texts)
front_first l texts h = record { first = l ++ h.first; more = h.more; is = ap (in_front l) h.is }

chosen : (P : List (List ℕ) → Type 0) (b : Bool) (xs ys : List (List ℕ)) → P xs → P ys → P (if b then xs else ys)
chosen P true xs ys p q = p
chosen P false xs ys p q = q

pub has_first : (ls : List (List ℕ)) → HasFirst (jobs_of ls)
has_first [] = record { first = []; more = []; is = refl }
has_first (l ∷ ls) =
    chosen HasFirst (is_separator l) ([] ∷ jobs_of ls) (in_front l (jobs_of ls)) (record { first = []; more = jobs_of ls; is = refl })
    (front_first l (jobs_of ls) (has_first ls))

-- a line that separates, and one that does not
pub jobs_ended : (l : List ℕ) (ls : List (List ℕ)) → is_separator l ≡ true → jobs_of (l ∷ ls) ≡ [] ∷ jobs_of ls
jobs_ended l ls e = rw e refl

pub jobs_longer : (l : List ℕ) (ls : List (List ℕ)) → is_separator l ≡ false → jobs_of (l ∷ ls) ≡ in_front l (jobs_of ls)
jobs_longer l ls e = rw e refl

pub front_none : (ls : List (List ℕ)) → in_front [] (jobs_of ls) ≡ jobs_of ls
front_none ls = let h = has_first ls in ap (in_front []) h.is ∙ sym h.is

pub front_both : (a b : List ℕ) (texts : List (List ℕ)) → in_front a (in_front b texts) ≡ in_front (a ++ b) texts
front_both a b [] = refl
front_both a b (t ∷ ts) = ap (λ x. x ∷ ts) (sym (append_assoc a b t))

length_front : (l : List ℕ) (texts : List (List ℕ)) → HasFirst texts → length (in_front l texts) ≡ length texts
length_front l texts h = ap (λ xs. length (in_front l xs)) h.is ∙ ap length (sym h.is)

-- ---- how many
module _ (bytes line : List ℕ) (at n : ℕ) (lines : lines_in (drop at bytes) ≡ line ∷ lines_in (drop (at + length line) bytes))
    (so_far : n + length (jobs_of (lines_in (drop at bytes))) ≡ length (jobs_in bytes)) where
  abbrev behind : List (List ℕ)
  behind = lines_in (drop (at + length line) bytes)

  pub one_more : is_separator line ≡ true → n + 1 + length (jobs_of (lines_in (drop (at + length line) bytes))) ≡ length (jobs_in bytes)
  one_more e =
      let here : length (jobs_of (lines_in (drop at bytes))) ≡ length ([] ∷ jobs_of behind)
      = ap (λ ls. length (jobs_of ls)) lines ∙ ap length (jobs_ended line behind e) in
      omega arith

  pub no_more : is_separator line ≡ false → n + length (jobs_of (lines_in (drop (at + length line) bytes))) ≡ length (jobs_in bytes)
  no_more e =
      let here : length (jobs_of (lines_in (drop at bytes))) ≡ length (jobs_of (lines_in (drop (at + length line) bytes)))
      = ap (λ ls. length (jobs_of ls)) lines ∙ ap length (jobs_longer line behind e) ∙ length_front line (jobs_of behind) (has_first behind) in
      omega arith

pub all_counted : (bytes : List ℕ) (at n : ℕ) → length bytes ≤ at → n + length (jobs_of (lines_in (drop at bytes))) ≡ length (jobs_in bytes)
    → n + 1 ≡ length (jobs_in bytes)
all_counted bytes at n h e = let none = drop_all at bytes h in let s = ap (λ (r : List ℕ). length (jobs_of (lines_in r))) none in omega arith

-- ---- which
-- the texts so far, and the front of the one that a line may go on
abbrev pub so_far : (texts : List (List ℕ)) (front : List ℕ) (ls : List (List ℕ)) → List (List ℕ)
so_far texts front ls = texts ++ in_front front (jobs_of ls)

pub text_ended : (texts : List (List ℕ)) (front line : List ℕ) (ls : List (List ℕ)) → is_separator line ≡ true
    → so_far texts front (line ∷ ls) ≡ so_far (texts ++ front ∷ []) [] ls
text_ended texts front line ls e =
    ap (λ js. texts ++ in_front front js) (jobs_ended line ls e)
    ∙ ap (λ (t : List ℕ). texts ++ (t ∷ jobs_of ls)) (append-nil front)
    ∙ sym (append_assoc texts (front ∷ []) (jobs_of ls))
    ∙ ap (λ js. (texts ++ front ∷ []) ++ js) (sym (front_none ls))

pub text_longer : (texts : List (List ℕ)) (front line : List ℕ) (ls : List (List ℕ)) → is_separator line ≡ false
    → so_far texts front (line ∷ ls) ≡ so_far texts (front ++ line) ls
text_longer texts front line ls e =
    ap (λ js. texts ++ in_front front js) (jobs_longer line ls e) ∙ ap (λ js. texts ++ js) (front_both front line (jobs_of ls))

pub text_last : (texts : List (List ℕ)) (front : List ℕ) → so_far texts front [] ≡ texts ++ front ∷ []
text_last texts front = ap (λ (t : List ℕ). texts ++ t ∷ []) (append-nil front)
