-- What calls say beside `headline/Script`: scripts: the changes that the lines of a control script spell (this project's profile).
use Rattle.fv_control.specs.declared.refusal.ScriptRefusal.{ScriptRefusal}
use Rattle.fv_control.specs.declared.refusal.ScriptRefusal.TheVariants.{NoMemory}

-- ---- all lines

-- the refusal speaks of the script, and not of memory
abbrev pub IsOfScript : ScriptRefusal → Type 0
IsOfScript NoMemory = ⊥
IsOfScript e = Unit {0}
