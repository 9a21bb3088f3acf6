-- A script of which no more than one byte past its limit was read.
use Rattle.std.proofs.Common.{◌≡◌, ◌⊎◌, ℕ, ◌≤◌, ◌<◌, List, [], length, take, ◌∙◌, ap, arith, refl, inl, inr, ⊎_elim}
use Rattle.std.specs.Prelude.{Result, Ok, Some, None}
use Rattle.std.proofs.lemmas.Bool.{cases_lt, lt-leb}
use Rattle.std.proofs.lemmas.List.{take_all, length-take}
use Rattle.fv_outside.specs.headline.Desk.{File, file_named}
use Rattle.fv_diagram.specs.declared.control.ControlInfo.{ControlInfo}
use Rattle.fv_control.specs.declared.script.Change.{Change}
use Rattle.fv_control.specs.declared.refusal.ScriptRefusal.{ScriptRefusal}
use Rattle.fv_control.specs.declared.refusal.ScriptRefusal.TheVariants as lines
use Rattle.fv_control.specs.headline.Script.{script, line_says}
use Rattle.fv_control.specs.Script.{IsOfScript}
use Rattle.fv_top_report.specs.declared.refusal.Refusal.{Refusal}
use Rattle.fv_top_report.specs.declared.refusal.Refusal.TheVariants.{NoMemory}
use Rattle.fv_top_report.specs.headline.Layers.{of_script}
use Rattle.fv_top_files.specs.headline.Sources.{scripted}
use Rattle.fv_top_files.specs.headline.Loading.{HasScript}
use Rattle.fv_top.specs.inner.Promise.{IsScriptRefusal}

-- what its first bytes spell, the whole script does
pub whole_script : (controls : List ControlInfo) (text bytes : List ℕ) → bytes ≡ take 1048577 text → script controls text ≡ script controls bytes
unfolding script
whole_script controls text bytes e =
    ⊎_elim
    (λ (w : 1048576 < length text).
    let long = lt-leb (length text) 1048576 w in
    let cut : 1048576 < length bytes = omega (arith, ap length e ∙ length-take 1048577 text) in
    let too = lt-leb (length bytes) 1048576 cut in
    rw (long, too) refl)
    (λ (w : length text ≤ 1048576).
    let same : bytes ≡ text = e ∙ take_all 1048577 text (omega arith) in
    rw same refl)
    (cases_lt 1048576 (length text))

-- an empty script changes nothing
pub no_script : (controls : List ControlInfo) → script controls [] ≡ Ok []
unfolding script line_says
no_script controls = refl

-- what was read of a file spells what its script does
pub script_is : (name : List ℕ) (files : List File) (controls : List ControlInfo) (text bytes : List ℕ) (r : Result (List Change) ScriptRefusal)
    → file_named name files ≡ Some text →
    bytes ≡ take 1048577 text → script controls bytes ≡ r → HasScript (Some name) files controls (scripted r)
script_is name files controls text bytes r file e is = record {
  bytes = Some text;
  file = rw file refl;
  is = ap scripted (whole_script controls text bytes e ∙ is);
}

pub script_none : (files : List File) (controls : List ControlInfo) → HasScript None files controls (Ok [])
script_none files controls = record { bytes = None; file = refl; is = refl }

-- the refusals of scripts are those of their stage, but want of memory
pub script_refused : (e : ScriptRefusal) (r : Refusal) (Q : Type 0) → r ≡ of_script e → (IsOfScript e → Q) → (r ≡ NoMemory) ⊎ (IsScriptRefusal r × Q)
script_refused (lines.TextTooLong role) r Q is q = rw is (inr (refl, q tt))
script_refused (lines.ControlLine line) r Q is q = rw is (inr (refl, q tt))
script_refused (lines.ControlUnknown line) r Q is q = rw is (inr (refl, q tt))
script_refused (lines.ControlRange line) r Q is q = rw is (inr (refl, q tt))
script_refused (lines.ControlOrder line) r Q is q = rw is (inr (refl, q tt))
script_refused lines.NoMemory r Q is q = inl is
