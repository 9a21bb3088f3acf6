-- The numbers that words spell (this project's profile).
use Rattle.std.specs.Prelude.{ℕ, List, Option, Some, None, Result, Ok, Err, codes}
use Rattle.fv_base.specs.headline.Digits.{decimal_of}
use Rattle.fv_top_words.specs.declared.cause.Cause.{Cause}
use Rattle.fv_top_words.specs.declared.cause.Cause.TheVariants.{Number}
use Rattle.fv_top_words.specs.headline.Texts.{Options, value_of}

-- what follows from an answer
infixl 10 ◌>>=◌
abbrev pub ◌>>=◌ : {A B : Type 0} → Result A Cause → (A → Result B Cause) → Result B Cause
(Ok x) >>= f = f x
(Err e) >>= f = Err e

-- a word that has to spell a number
abbrev pub number_in : List ℕ → Result ℕ Cause
number_in w = elim (decimal_of w) [ None ↦ Err Number | Some n ↦ Ok n ]

-- the number of an option, where it is given
abbrev pub number_if : Option (List ℕ) → Result (Option ℕ) Cause
number_if None = Ok None
number_if (Some w) = number_in w >>= λ n. Ok (Some n)

-- the numbers of the options that are given
pub record Numbers : Type 0 where
  pub block : Option ℕ
  pub vector : Option ℕ
  pub workers : Option ℕ
  pub bits : Option ℕ
  pub frames : Option ℕ
  pub rate : Option ℕ

-- the numbers that the values of the options spell, if each spells one
abbrev pub numbers_of : Options → Result Numbers Cause
numbers_of os = do
  block ← number_if (value_of (codes "--block") os)
  vector ← number_if (value_of (codes "--vector") os)
  workers ← number_if (value_of (codes "--workers") os)
  bits ← number_if (value_of (codes "--bits") os)
  frames ← number_if (value_of (codes "--frames") os)
  rate ← number_if (value_of (codes "--rate") os)
  Ok (record { block = block; vector = vector; workers = workers; bits = bits; frames = frames; rate = rate })
