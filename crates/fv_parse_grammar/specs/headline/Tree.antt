-- The trees that the grammar spells.
use Rattle.std.specs.Prelude.{ℕ, List, [], ◌∷◌}
use Rattle.fv_num.specs.declared.primitive.Primitive.{Primitive as Operation}
use Rattle.fv_parse_grammar.specs.declared.form.Operator.{Operator}
use Rattle.fv_parse_grammar.specs.declared.form.Literal.{Literal}
use Rattle.fv_lex.specs.declared.form.Iteration.{Iteration as Repetition}
use Rattle.fv_lex.specs.declared.form.Side.{Side}
use Rattle.fv_lex.specs.declared.form.Switch.{Switch as SwitchKind}
use Rattle.fv_lex.specs.declared.form.Slider.{Slider as SliderKind}
use Rattle.fv_lex.specs.declared.form.Panel.{Panel as PanelKind}

-- A tree. Each form begins with its place: how many tokens there are from its first one to the end of the text.
-- A name or a label is the number of its token. A list of trees is `More first rest`, ended by `End`.
pub data Tree : Type 0 where
  Number : ℕ → ℕ → Tree
  Negative : ℕ → ℕ → Tree
  Named : ℕ → ℕ → Tree
  MinusNamed : ℕ → ℕ → Tree
  Primitive : ℕ → Operation → Tree
  Group : ℕ → Tree → Tree
  Abstraction : ℕ → List ℕ → Tree → Tree
  Case : ℕ → Tree → Tree
  Waveform : ℕ → List Literal → Tree
  Iteration : ℕ → Repetition → ℕ → Tree → Tree → Tree
  Ports : ℕ → Side → Tree → Tree
  Switch : ℕ → SwitchKind → ℕ → Tree
  Slider : ℕ → SliderKind → ℕ → Tree → Tree → Tree → Tree → Tree
  Panel : ℕ → PanelKind → ℕ → Tree → Tree
  Delayed : ℕ → Tree → Tree
  Apply : ℕ → Tree → Tree → Tree
  Binary : ℕ → Operator → Tree → Tree → Tree
  Where : ℕ → Tree → Tree → Tree
  Rule : ℕ → Tree → Tree → Tree
  Constant : ℕ → ℕ → Tree → Tree
  Function : ℕ → ℕ → Tree → Tree → Tree
  End : Tree
  More : Tree → Tree → Tree

-- the trees of a list (this project's profile)
abbrev pub items : Tree → List Tree
items (More x y) = x ∷ items y
items x = []

-- How many tokens there are from a tree's first one to the end of the text. A list starts where its first item does, an empty
-- one at the end (this project's profile).
abbrev pub start_of : Tree → ℕ
start_of (Number s n) = s
start_of (Negative s n) = s
start_of (Named s n) = s
start_of (MinusNamed s n) = s
start_of (Primitive s p) = s
start_of (Group s x) = s
start_of (Abstraction s ns x) = s
start_of (Case s rs) = s
start_of (Waveform s xs) = s
start_of (Iteration s i n x y) = s
start_of (Ports s k x) = s
start_of (Switch s k n) = s
start_of (Slider s k n x0 x1 x2 x3) = s
start_of (Panel s k n x) = s
start_of (Delayed s x) = s
start_of (Apply s x ys) = s
start_of (Binary s o x y) = s
start_of (Where s x ds) = s
start_of (Rule s ps x) = s
start_of (Constant s n x) = s
start_of (Function s n ps x) = s
start_of (More x y) = start_of x
start_of End = 0
