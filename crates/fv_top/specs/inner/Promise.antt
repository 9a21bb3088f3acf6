-- What no call says beside `headline/Promise`: what a run promises.
use Rattle.std.specs.Prelude.{ℕ, IsTrue, List}
use Rattle.fv_top_words.specs.headline.Commands.{Job}
use Rattle.fv_top_report.specs.declared.refusal.Refusal.{Refusal}
use Rattle.fv_top_report.specs.headline.Lines.{row_of}
use Rattle.fv_top.specs.headline.Promise.{Asks, is_of_script}

-- a fact of all words that ask for this
abbrev pub OfWords : Job → (List (List ℕ) → Type 0) → Type 0
OfWords job P = (words : List (List ℕ)) → Asks words job → P words

-- ---- the stages of a run, in order

-- the refusal is one of a script
abbrev pub IsScriptRefusal : Refusal → Type 0
IsScriptRefusal refusal = IsTrue (is_of_script (row_of refusal).number)
