-- The lines of a script, one after another.
use Rattle.std.proofs.Common.{◌≡◌, ℕ, suc, ◌+◌, ◌<◌, ◌≤◌, ◌==◌, Bool, true, false, List, [], ◌∷◌, ◌++◌, length, drop, take, refl, ap}
use Rattle.std.proofs.Common.{sym, ◌-◌, ◌∙◌, arith, append_assoc, append-nil, length-drop, Ok, Err, Result, Option, ⊎_elim}
use Rattle.std.specs.List.{position_or_len, slice_split}
use Rattle.std.proofs.lemmas.Bool.{cases_lt, le-leb, lt-leb}
use Rattle.std.proofs.lemmas.List.{take_all}
use Rattle.std.proofs.lemmas.List.Splits.{slice_split_first}
use Rattle.fv_base.specs.declared.limits.TheConstants.{LONGEST_TEXT}
use Rattle.fv_diagram.specs.declared.control.ControlInfo.{ControlInfo}
use Rattle.fv_control.specs.declared.script.Change.{Change}
use Rattle.fv_control.specs.declared.refusal.ScriptRefusal.{ScriptRefusal}
use Rattle.fv_control.specs.headline.Script.{◌>>=◌, script, lines_say, line_says, lines_of, listed, least_behind}
use Rattle.fv_base.specs.declared.role.Role.TheVariants.{Controls}
use Rattle.fv_control.specs.declared.refusal.ScriptRefusal.TheVariants.{TextTooLong}

abbrev pub is_end : ℕ → Bool
is_end b = b == 10

-- without a byte 10 all is one line
last_at : (p : ℕ → Bool) (x : ℕ) (xs : List ℕ) (b : Bool) → p x ≡ b → (position_or_len p xs ≡ length xs → slice_split p xs ≡ xs ∷ [])
    → position_or_len p (x ∷ xs) ≡ suc (length xs)
    → slice_split p (x ∷ xs) ≡ (x ∷ xs) ∷ []
last_at p x xs true t ih e = let z = rw t at e in absurd (omega arith)
last_at p x xs false t ih e = let z = rw t at e in let r = ih (omega arith) in rw (t, r) refl

pub split_last : (p : ℕ → Bool) (xs : List ℕ) → position_or_len p xs ≡ length xs → slice_split p xs ≡ xs ∷ []
split_last p [] e = refl
split_last p (x ∷ xs) e = last_at p x xs (p x) refl (split_last p xs) e

-- the first line, and those after it
pub first_line : (rest : List ℕ) (e : ℕ) → e ≡ position_or_len is_end rest → e ≤ length rest → (more : List (List ℕ)) × (lines_of rest ≡ take e rest ∷ more)
first_line rest e p h =
    ⊎_elim (λ (w : e < length rest). (lines_of (drop (e + 1) rest), rw p (slice_split_first is_end rest 0 (omega arith))))
    (λ (w : length rest ≤ e). ([], split_last is_end rest (omega arith) ∙ ap (λ (xs : List ℕ). xs ∷ []) (sym (take_all e rest w)))) (cases_lt e (length rest))

-- changes in front of what is said, and in front of that
fronts : (m : Result (List Change) ScriptRefusal) (a b : List Change) →
    ((m >>= λ ys. Ok (b ++ ys)) >>= λ x. Ok (a ++ x)) ≡ (m >>= λ x. Ok ((a ++ b) ++ x))
fronts (Ok ys) a b = ap Ok (sym (append_assoc a b ys))
fronts (Err e) a b = refl

-- What is left begins with a line of e bytes, which says m. All lines say the changes in front, and then what is left says.
pub record IsLine (cs : List ControlInfo) (least n : ℕ) (front : List Change) (whole : Result (List Change) ScriptRefusal) (rest : List ℕ) (e : ℕ)
    (m : Result (Option Change) ScriptRefusal) : Type 0 where
  pub said : whole ≡ (lines_say cs least n (lines_of rest) >>= λ x. Ok (front ++ x))
  pub place : e ≡ position_or_len is_end rest
  pub within : e ≤ length rest
  pub line : line_says cs least n (take e rest) ≡ m

module _ {cs : List ControlInfo} {least n : ℕ} {front : List Change} {whole : Result (List Change) ScriptRefusal} {rest : List ℕ} {e : ℕ} where
  -- a line that is refused
  pub refused : (r : ScriptRefusal) → IsLine cs least n front whole rest e (Err r) → whole ≡ Err r
  refused r l =
      let f = first_line rest e l.place l.within in
      l.said ∙ ap (λ ls. lines_say cs least n ls >>= λ x. Ok (front ++ x)) f.1
      ∙ ap (λ m. (m >>= λ c. lines_say cs (least_behind least c) (n + 1) f.0 >>= λ ys. Ok (listed c ++ ys)) >>= λ x. Ok (front ++ x)) l.line

  module _ (c : Option Change) (l : IsLine cs least n front whole rest e (Ok c)) where
    -- the last line
    pub ended : e ≡ length rest → whole ≡ Ok (front ++ listed c)
    ended last =
        let one : lines_of rest ≡ take e rest ∷ [] = split_last is_end rest (sym l.place ∙ last)
        ∙ ap (λ (xs : List ℕ). xs ∷ []) (sym (take_all e rest (omega arith))) in
        l.said ∙ ap (λ ls. lines_say cs least n ls >>= λ x. Ok (front ++ x)) one
        ∙ ap (λ m. (m >>= λ d. lines_say cs (least_behind least d) (n + 1) [] >>= λ ys. Ok (listed d ++ ys)) >>= λ x. Ok (front ++ x)) l.line
        ∙ ap (λ ys. Ok (front ++ ys)) (append-nil (listed c))

    -- the lines after it
    abbrev behind : List (List ℕ)
    behind = lines_of (drop (e + 1) rest)

    -- a line, and then those after it
    pub goes_on : e < length rest → whole ≡ (lines_say cs (least_behind least c) (n + 1) behind >>= λ x. Ok ((front ++ listed c) ++ x))
    goes_on before =
        let p = l.place in
        let cut : lines_of rest ≡ take e rest ∷ behind = rw p (slice_split_first is_end rest 0 (omega arith)) in
        l.said ∙ ap (λ ls. lines_say cs least n ls >>= λ x. Ok (front ++ x)) cut
        ∙ ap (λ m. (m >>= λ d. lines_say cs (least_behind least d) (n + 1) behind >>= λ ys. Ok (listed d ++ ys)) >>= λ x. Ok (front ++ x)) l.line
        ∙ fronts (lines_say cs (least_behind least c) (n + 1) behind) front (listed c)

module _ (bytes : List ℕ) (at : ℕ) where
  -- what a text has from a place on
  abbrev rest : List ℕ
  rest = take (length bytes - at) (drop at bytes)

  pub all_rest : rest ≡ drop at bytes
  all_rest = take_all _ _ (omega (arith, length-drop at bytes))

  module _ {cs : List ControlInfo} {least n : ℕ} {front : List Change} {whole : Result (List Change) ScriptRefusal} {e : ℕ}
      {m : Result (Option Change) ScriptRefusal} where
    -- the line that begins there
    pub line_at : whole ≡ (lines_say cs least n (lines_of (drop at bytes)) >>= λ x. Ok (front ++ x)) → e ≡ position_or_len is_end rest → e ≤ length rest
        → line_says cs least n (take e rest) ≡ m → IsLine cs least n front whole rest e m
    line_at said place within line = record {
      said = said ∙ ap (λ (r : List ℕ). lines_say cs least n (lines_of r) >>= λ x. Ok (front ++ x)) (sym all_rest);
      place = place;
      within = within;
      line = line;
    }

-- a script of lawful length is its lines
pub script_is : (cs : List ControlInfo) (bytes : List ℕ) → length bytes ≤ LONGEST_TEXT → script cs bytes ≡ lines_say cs 0 1 (lines_of bytes)
unfolding script
script_is cs bytes h = let t = le-leb (length bytes) LONGEST_TEXT h in rw t refl

pub script_long : (cs : List ControlInfo) (bytes : List ℕ) → LONGEST_TEXT < length bytes → script cs bytes ≡ Err (TextTooLong Controls)
unfolding script
script_long cs bytes h = let t = lt-leb (length bytes) LONGEST_TEXT h in rw t refl
