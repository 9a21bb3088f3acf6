-- The jobs of a file are its texts between separating lines.
use Rattle.std.proofs.Common.{◌≡◌, ℕ, Bool, true, false, List, [], ◌∷◌, ◌++◌, refl, sym, ap, ◌∙◌, inl, inr, ◌⊎◌, subst, append_assoc, append-nil}
use Rattle.std.specs.Prelude.{if◌then◌else◌}
use Rattle.std.specs.List.{AllByRecursion, concat, onto_first}
use Rattle.fv_jobs.specs.headline.Jobs.{is_feed, lines_in, is_separator, in_front, jobs_of, jobs_in}
use Rattle.fv_jobs.specs.Between.{IsOneJob, IsEnded, IsCut, HasJobs, AreBetween}
use Rattle.std.proofs.lemmas.Bool.{eqb-true}
use Rattle.fv_jobs.proofs.Counting.{HasFirst, has_first, jobs_ended, jobs_longer}
use Rattle.fv_jobs.proofs.Separators.{separator_line}

-- ---- lines

-- an ended line, in front of whatever
record IsLine (l : List ℕ) : Type 0 where
  ended : IsEnded l
  first : (rest : List ℕ) → lines_in (l ++ rest) ≡ l ∷ lines_in rest

feed_line : (b : ℕ) → is_feed b ≡ true → IsLine (b ∷ [])
feed_line b t = record {
  ended = record { front = []; is = ap (λ (x : ℕ). x ∷ []) (eqb-true b 10 t) };
  first = λ rest. rw t refl;
}

longer_line : (b : ℕ) (l : List ℕ) → is_feed b ≡ false → IsLine l → IsLine (b ∷ l)
longer_line b l t h = record {
  ended = record { front = b ∷ h.ended.front; is = ap (λ xs. b ∷ xs) h.ended.is };
  first = λ rest. rw t (ap (onto_first b) (h.first rest));
}

-- the lines of a file begin with l, and those after it are ls: they are those of a rest, or there are none
record Ended (bytes l : List ℕ) (ls : List (List ℕ)) : Type 0 where
  rest : List ℕ
  is : bytes ≡ l ++ rest
  line : IsLine l
  behind : lines_in rest ≡ ls

record Last (bytes l : List ℕ) (ls : List (List ℕ)) : Type 0 where
  is : bytes ≡ l
  none : ls ≡ []

no_lines : (bytes : List ℕ) → lines_in bytes ≡ [] → bytes ≡ []
no_lines [] e = refl
no_lines (b ∷ bs) e = absurd (go (is_feed b) (lines_in bs) e)
  where
    go : (t : Bool) (ls : List (List ℕ)) → (if t then (b ∷ []) ∷ ls else onto_first b ls) ≡ [] → ⊥
    go true ls e = cc
    go false [] e = cc
    go false (l ∷ ls) e = cc

module _ (b : ℕ) (bs : List ℕ) where
  one_more : (l : List ℕ) (ls ms : List (List ℕ)) → is_feed b ≡ false → lines_in bs ≡ ms → onto_first b ms ≡ l ∷ ls
      → ((m : List ℕ) (more : List (List ℕ)) → lines_in bs ≡ m ∷ more → Ended bs m more ⊎ Last bs m more) → Ended (b ∷ bs) l ls ⊎ Last (b ∷ bs) l ls
  one_more l ls [] t e f ih =
      let first : b ∷ [] ≡ l = cc in let none : [] ≡ ls = cc in
      inr (record { is = ap (λ xs. b ∷ xs) (no_lines bs e) ∙ first; none = sym none })
  one_more l ls (m ∷ ms) t e f ih =
      let first : b ∷ m ≡ l = cc in let same : ms ≡ ls = cc in
      elim (ih m ms e) as (λ _. Ended (b ∷ bs) l ls ⊎ Last (b ∷ bs) l ls) [
        | inl h ↦ inl (record {
          rest = h.rest;
          is = ap (λ xs. b ∷ xs) h.is ∙ ap (λ (xs : List ℕ). xs ++ h.rest) first;
          line = subst IsLine first (longer_line b m t h.line);
          behind = h.behind ∙ same;
        })
        | inr h ↦ inr (record { is = ap (λ xs. b ∷ xs) h.is ∙ first; none = sym same ∙ h.none })
      ]

first_of : (bytes l : List ℕ) (ls : List (List ℕ)) → lines_in bytes ≡ l ∷ ls → Ended bytes l ls ⊎ Last bytes l ls
first_of [] l ls e = absurd cc
first_of (b ∷ bs) l ls e = go (is_feed b) refl e (first_of bs)
  where
    go : (t : Bool) → is_feed b ≡ t → (if t then (b ∷ []) ∷ lines_in bs else onto_first b (lines_in bs)) ≡ l ∷ ls
        → ((m : List ℕ) (more : List (List ℕ)) → lines_in bs ≡ m ∷ more → Ended bs m more ⊎ Last bs m more) → Ended (b ∷ bs) l ls ⊎ Last (b ∷ bs) l ls
    go true t e ih =
        let first : b ∷ [] ≡ l = cc in let same : lines_in bs ≡ ls = cc in
        inl (record { rest = bs; is = ap (λ (xs : List ℕ). xs ++ bs) first; line = subst IsLine first (feed_line b t); behind = same })
    go false t e ih = one_more b bs l ls (lines_in bs) t refl e ih

-- ---- the jobs are between

one_job : (l rest : List ℕ) → IsLine l → is_separator l ≡ false → IsOneJob rest → IsOneJob (l ++ rest)
one_job l rest h s one = subst (AllByRecursion (λ l. is_separator l ≡ false)) (sym (h.first rest)) (s, one)

whole_text : (l text : List ℕ) → IsEnded l → (text ≡ []) ⊎ IsEnded text → IsEnded (l ++ text)
whole_text l text h (inl e) = subst IsEnded (sym (append-nil l) ∙ ap (λ (t : List ℕ). l ++ t) (sym e)) h
whole_text l text h (inr t) = record { front = l ++ t.front; is = ap (λ (t : List ℕ). l ++ t) t.is ∙ sym (append_assoc l t.front (10 ∷ [])) }

-- a line in front of the first of them
grown : (bytes l rest : List ℕ) (texts : List (List ℕ)) → bytes ≡ l ++ rest → IsLine l → is_separator l ≡ false → HasJobs rest texts
    → HasJobs bytes (in_front l texts)
grown bytes l rest [] e h s j = absurd j
grown bytes l rest (t ∷ []) e h s j = (e ∙ ap (λ (r : List ℕ). l ++ r) j.0, one_job l t h s j.1)
grown bytes l rest (t ∷ u ∷ us) e h s j =
    let cut = j.1 in (
      j.0,
      record {
        line = cut.line;
        is = e ∙ ap (λ (r : List ℕ). l ++ r) cut.is
            ∙ sym (append_assoc l (t ++ cut.line) j.0)
            ∙ ap (λ (r : List ℕ). r ++ j.0) (sym (append_assoc l t cut.line));
        whole = inr (whole_text l t h.ended cut.whole);
        job = one_job l t h s cut.job;
        separates = cut.separates;
        ended = cut.ended;
      },
      j.2,
    )

-- a separating line in front of others
ended_text : (bytes l rest : List ℕ) (texts : List (List ℕ)) → bytes ≡ l ++ rest → IsEnded l ⊎ (rest ≡ []) → is_separator l ≡ true → HasFirst texts
    → HasJobs rest texts → HasJobs bytes ([] ∷ texts)
ended_text bytes l rest texts e ended s f j =
    let cut : IsCut bytes [] rest = record { line = l; is = e; whole = inl refl; job = tt; separates = s; ended = ended } in
    subst (λ ts. HasJobs bytes ([] ∷ ts)) (sym f.is) (rest, cut, subst (HasJobs rest) f.is j)

choice : (P : List (List ℕ) → Type 0) (b : Bool) (x y : List (List ℕ)) → (b ≡ true → P x) → (b ≡ false → P y) → P (if b then x else y)
choice P true x y f g = f refl
choice P false x y f g = g refl

-- the last line
last_job : (bytes l : List ℕ) → bytes ≡ l → lines_in bytes ≡ l ∷ [] → HasJobs bytes (jobs_of (l ∷ []))
last_job bytes l e lines =
    choice (HasJobs bytes) (is_separator l) ([] ∷ [] ∷ []) ((l ++ []) ∷ [])
    (λ s. ended_text bytes l [] ([] ∷ []) (e ∙ sym (append-nil l)) (inr refl) s (record { first = []; more = []; is = refl }) (refl, tt))
    (λ s.
    let one : IsOneJob l = subst (AllByRecursion (λ l. is_separator l ≡ false)) (sym (ap lines_in (sym e) ∙ lines)) (s, tt) in
    (e ∙ sym (append-nil l), subst IsOneJob (sym (append-nil l)) one))

has_jobs : (ls : List (List ℕ)) (bytes : List ℕ) → lines_in bytes ≡ ls → HasJobs bytes (jobs_of ls)
has_jobs [] bytes e = (no_lines bytes e, tt)
has_jobs (l ∷ ls) bytes e =
    elim (first_of bytes l ls e) as (λ _. HasJobs bytes (jobs_of (l ∷ ls))) [
      | inl h ↦
          let behind = has_jobs ls h.rest h.behind in
          choice (HasJobs bytes) (is_separator l) ([] ∷ jobs_of ls) (in_front l (jobs_of ls))
          (λ s. ended_text bytes l h.rest (jobs_of ls) h.is (inl h.line.ended) s (has_first ls) behind)
          (λ s. grown bytes l h.rest (jobs_of ls) h.is h.line s behind)
      | inr h ↦ subst (λ ls. HasJobs bytes (jobs_of (l ∷ ls))) (sym h.none) (last_job bytes l h.is (e ∙ ap (λ ls. l ∷ ls) h.none))
    ]

-- ---- and nothing else is

joined_first : (b : ℕ) (ls : List (List ℕ)) → concat (onto_first b ls) ≡ b ∷ concat ls
joined_first b [] = refl
joined_first b (l ∷ ls) = refl

-- the lines, one after another, are the file
joined : (bytes : List ℕ) → concat (lines_in bytes) ≡ bytes
joined [] = refl
joined (b ∷ bs) = go (is_feed b) (joined bs)
  where
    go : (t : Bool) → concat (lines_in bs) ≡ bs → concat (if t then (b ∷ []) ∷ lines_in bs else onto_first b (lines_in bs)) ≡ b ∷ bs
    go true ih = ap (λ xs. b ∷ xs) ih
    go false ih = joined_first b (lines_in bs) ∙ ap (λ xs. b ∷ xs) ih

-- lines that separate nothing are one text, also in front of a line that separates
one_text : (ls : List (List ℕ)) → AllByRecursion (λ l. is_separator l ≡ false) ls → jobs_of ls ≡ concat ls ∷ []
one_text [] h = refl
one_text (l ∷ ls) h = jobs_longer l ls h.0 ∙ ap (in_front l) (one_text ls h.1)

first_text : (ls ms : List (List ℕ)) (m : List ℕ) → AllByRecursion (λ l. is_separator l ≡ false) ls → is_separator m ≡ true
    → jobs_of (ls ++ m ∷ ms) ≡ concat ls ∷ jobs_of ms
first_text [] ms m h s = jobs_ended m ms s
first_text (l ∷ ls) ms m h s = jobs_longer l (ls ++ m ∷ ms) h.0 ∙ ap (in_front l) (first_text ls ms m h.1 s)

some_line : (b : ℕ) (bs : List ℕ) → HasFirst (lines_in (b ∷ bs))
some_line b bs = go (is_feed b) (lines_in bs)
  where
    go : (t : Bool) (ls : List (List ℕ)) → HasFirst (if t then (b ∷ []) ∷ ls else onto_first b ls)
    go true ls = record { first = b ∷ []; more = ls; is = refl }
    go false [] = record { first = b ∷ []; more = []; is = refl }
    go false (l ∷ ls) = record { first = b ∷ l; more = ls; is = refl }

some_front : (front : List ℕ) → HasFirst (lines_in (front ++ 10 ∷ []))
some_front [] = some_line 10 []
some_front (b ∷ bs) = some_line b (bs ++ 10 ∷ [])

onto_both : (b : ℕ) (ls ms : List (List ℕ)) → HasFirst ls → onto_first b (ls ++ ms) ≡ onto_first b ls ++ ms
onto_both b ls ms h = ap (λ ls. onto_first b (ls ++ ms)) h.is ∙ sym (ap (λ ls. onto_first b ls ++ ms) h.is)

-- whole lines, and those after them
lines_both : (front rest : List ℕ) → lines_in ((front ++ 10 ∷ []) ++ rest) ≡ lines_in (front ++ 10 ∷ []) ++ lines_in rest
lines_both [] rest = refl
lines_both (b ∷ bs) rest = go (is_feed b) (lines_both bs rest)
  where
    go : (t : Bool) → lines_in ((bs ++ 10 ∷ []) ++ rest) ≡ lines_in (bs ++ 10 ∷ []) ++ lines_in rest
        → (if t then (b ∷ []) ∷ lines_in ((bs ++ 10 ∷ []) ++ rest) else onto_first b (lines_in ((bs ++ 10 ∷ []) ++ rest)))
        ≡ (if t then (b ∷ []) ∷ lines_in (bs ++ 10 ∷ []) else onto_first b (lines_in (bs ++ 10 ∷ []))) ++ lines_in rest
    go true ih = ap (λ ls. (b ∷ []) ∷ ls) ih
    go false ih = ap (onto_first b) ih ∙ onto_both b (lines_in (bs ++ 10 ∷ [])) (lines_in rest) (some_front bs)

lines_behind : (text rest : List ℕ) → (text ≡ []) ⊎ IsEnded text → lines_in (text ++ rest) ≡ lines_in text ++ lines_in rest
lines_behind text rest (inl e) = subst (λ (t : List ℕ). lines_in (t ++ rest) ≡ lines_in t ++ lines_in rest) (sym e) refl
lines_behind text rest (inr h) = subst (λ (t : List ℕ). lines_in (t ++ rest) ≡ lines_in t ++ lines_in rest) (sym h.is) (lines_both h.front rest)

cut_off : (file text rest : List ℕ) → IsCut file text rest → jobs_in file ≡ text ∷ jobs_in rest
cut_off file text rest c =
    ap jobs_in (c.is ∙ append_assoc text c.line rest)
    ∙ ap jobs_of (lines_behind text (c.line ++ rest) c.whole ∙ ap (λ ls. lines_in text ++ ls) (separator_line c.line rest c.separates c.ended))
    ∙ first_text (lines_in text) (lines_in rest) c.line c.job c.separates
    ∙ ap (λ (t : List ℕ). t ∷ jobs_in rest) (joined text)

no_others : (texts : List (List ℕ)) (file : List ℕ) → HasJobs file texts → texts ≡ jobs_in file
no_others [] file j = absurd j
no_others (t ∷ []) file j =
    sym (ap jobs_in j.0 ∙ one_text (lines_in t) j.1 ∙ ap (λ (t : List ℕ). t ∷ []) (joined t))
no_others (t ∷ u ∷ us) file j = ap (λ ts. t ∷ ts) (no_others (u ∷ us) j.0 j.2) ∙ sym (cut_off file t j.0 j.1)

pub between : AreBetween
between file = (has_jobs (lines_in file) file refl, λ texts j. no_others texts file j)
