-- The signs, the reserved words, and what the grammar sees of a token. Source: Faust manual, cut down by this project's profile.
use Rattle.std.specs.Prelude.{ℕ, ◌+◌, ◌-◌, ◌*◌, Bool, ◌||◌, nat_eq, codes, List, [], ◌∷◌, Option, Some, None, unwrap_or, if◌then◌else◌}
use Rattle.std.specs.List.{list_any}
use Rattle.std.specs.Str.{bytes_eq}
use Rattle.fv_base.specs.headline.Digits.{decimal_after}
use Rattle.fv_lex.specs.declared.token.Kind.{Kind}
use Rattle.fv_lex.specs.declared.token.Kind.TheVariants as kinds
use Rattle.fv_lex.specs.declared.token.Symbol.{Symbol}
use Rattle.fv_lex.specs.declared.token.Symbol.TheVariants as symbols
use Rattle.fv_lex.specs.declared.token.Symbol.TheVariants.{Primitive, Iteration, Ports, Switch, Slider, Panel}
use Rattle.fv_lex.specs.declared.form.Iteration.TheVariants as iterations
use Rattle.fv_lex.specs.declared.form.Side.TheVariants as sides
use Rattle.fv_lex.specs.declared.form.Switch.TheVariants as switches
use Rattle.fv_lex.specs.declared.form.Slider.TheVariants as sliders
use Rattle.fv_lex.specs.declared.form.Panel.TheVariants as panels
use Rattle.fv_num.specs.declared.op.Op.{Op}
use Rattle.fv_num.specs.declared.op.Op.TheVariants as ops
use Rattle.fv_num.specs.declared.primitive.Primitive.TheVariants as primitives
use Rattle.fv_lex.specs.headline.Bytes.{open_bracket, close_bracket, star, plus, minus, dot, slash, less, equals, greater, underscore, open_brace, close_brace}

-- what stands beside a byte in a table
abbrev pub at_byte : {A : Type 0} → List (ℕ × A) → ℕ → Option A
at_byte [] b = None
at_byte (e ∷ es) b = if nat_eq b e.0 then Some e.1 else at_byte es b

-- what stands beside a text in a table
abbrev pub at_word : {A : Type 0} → List (List ℕ × A) → List ℕ → Option A
at_word [] word = None
at_word (e ∷ es) word = if bytes_eq word e.0 then Some e.1 else at_word es word

-- the symbol of an operation
abbrev pub operation : Op → Symbol
operation o = Primitive (primitives.Point o)

-- the signs of one byte: _ ! , : ~ + - * / % & | < > @ ' ( ) { } = ; . \ ^
abbrev pub singles : List (ℕ × Symbol)
singles =
    (underscore, Primitive primitives.Wire) ∷ (33, Primitive primitives.Cut) ∷ (44, symbols.Comma) ∷ (58, symbols.Colon) ∷
    (126, symbols.Tilde) ∷
    (plus, symbols.Plus) ∷ (minus, symbols.Minus) ∷ (star, operation ops.Mul) ∷ (slash, operation ops.Div) ∷ (37, operation ops.Rem) ∷
    (38, operation ops.And) ∷ (124, operation ops.Or) ∷ (less, operation ops.Lt) ∷ (greater, operation ops.Gt) ∷ (64, Primitive primitives.Delay) ∷
    (39, symbols.Tick) ∷ (open_bracket, symbols.Open) ∷ (close_bracket, symbols.Close) ∷ (open_brace, symbols.OpenBrace) ∷ (close_brace, symbols.CloseBrace) ∷
    (equals, symbols.Equals) ∷ (59, symbols.Semicolon) ∷ (dot, symbols.Dot) ∷ (92, symbols.Backslash) ∷ (94, symbols.Caret) ∷ []

-- the second bytes of signs that begin with `<`: <: << <=
abbrev pub after_less : List (ℕ × Symbol)
after_less = (58, symbols.Split) ∷ (less, operation ops.Shl) ∷ (equals, operation ops.Le) ∷ []

-- the second bytes of signs that begin with `>`: >> >=
abbrev pub after_greater : List (ℕ × Symbol)
after_greater = (greater, operation ops.Shr) ∷ (equals, operation ops.Ge) ∷ []

-- the second bytes of signs that begin with `=`: == =>
abbrev pub after_equals : List (ℕ × Symbol)
after_equals = (equals, operation ops.Eq) ∷ (greater, symbols.Arrow) ∷ []

-- the sign of two bytes, if it is one: those that begin with `<`, `>` or `=`, and :> and !=
abbrev pub double : ℕ → ℕ → Option Symbol
double b c =
    if nat_eq b less then at_byte after_less c
    else (if nat_eq b greater then at_byte after_greater c
    else (if nat_eq b equals then at_byte after_equals c
    else (if nat_eq b 58 then at_byte ((greater, symbols.Merge) ∷ []) c
    else (if nat_eq b 33 then at_byte ((equals, operation ops.Ne) ∷ []) c
    else None))))

-- the sign that these bytes are
abbrev pub sign : List ℕ → Option Symbol
sign [] = None
sign (b ∷ []) = at_byte singles b
sign (b ∷ c ∷ []) = double b c
sign (b ∷ c ∷ d ∷ bs) = None

-- words that stand for primitives
abbrev pub primitive_words : List (List ℕ × Symbol)
primitive_words =
    (codes "xor", operation ops.Xor) ∷ (codes "mem", Primitive primitives.Mem) ∷ (codes "prefix", Primitive primitives.Prefix) ∷
    (codes "int", Primitive primitives.Int) ∷ (codes "attach", Primitive primitives.Attach) ∷ (codes "select2", operation ops.Select2) ∷
    (codes "select3", operation ops.Select3) ∷ (codes "min", operation ops.Min) ∷ (codes "max", operation ops.Max) ∷ (codes "abs", operation ops.Abs) ∷
    (codes "rdtable", Primitive primitives.ReadTable) ∷ (codes "rwtable", Primitive primitives.WriteTable) ∷ []

-- words that begin a form of the grammar
abbrev pub form_words : List (List ℕ × Symbol)
form_words =
    (codes "par", Iteration iterations.Parallel) ∷ (codes "seq", Iteration iterations.Sequence) ∷
    (codes "sum", Iteration iterations.Sum) ∷ (codes "prod", Iteration iterations.Product) ∷
    (codes "inputs", Ports sides.Inputs) ∷ (codes "outputs", Ports sides.Outputs) ∷ (codes "case", symbols.Case) ∷
    (codes "with", symbols.With) ∷ (codes "declare", symbols.Declare) ∷ (codes "waveform", symbols.Waveform) ∷ []

-- words of controls and groups
abbrev pub control_words : List (List ℕ × Symbol)
control_words =
    (codes "button", Switch switches.Button) ∷ (codes "checkbox", Switch switches.Checkbox) ∷
    (codes "hslider", Slider sliders.Horizontal) ∷ (codes "vslider", Slider sliders.Vertical) ∷ (codes "nentry", Slider sliders.Number) ∷
    (codes "hgroup", Panel panels.Horizontal) ∷
    (codes "vgroup", Panel panels.Vertical) ∷ (codes "tgroup", Panel panels.Tabs) ∷ []

-- words of Faust's programs that are not supported
abbrev pub unsupported_forms : List (List ℕ)
unsupported_forms =
    codes "import" ∷ codes "library" ∷ codes "component" ∷ codes "environment" ∷ codes "letrec" ∷ codes "route" ∷
    codes "soundfile" ∷ codes "hbargraph" ∷ codes "vbargraph" ∷ codes "ffunction" ∷ codes "fconstant" ∷
    codes "fvariable" ∷ []

-- words of real numbers
abbrev pub real_words : List (List ℕ)
real_words =
    codes "float" ∷ codes "sin" ∷ codes "cos" ∷ codes "tan" ∷ codes "asin" ∷ codes "acos" ∷ codes "atan" ∷ codes "atan2" ∷
    codes "exp" ∷ codes "exp10" ∷ codes "log" ∷ codes "log10" ∷ codes "pow" ∷ codes "sqrt" ∷ codes "fmod" ∷
    codes "remainder" ∷ codes "floor" ∷ codes "ceil" ∷ codes "rint" ∷ []

-- a word of Faust that this profile has not (this project's profile)
abbrev pub is_unsupported : List ℕ → Bool
is_unsupported word = list_any (bytes_eq word) unsupported_forms || list_any (bytes_eq word) real_words

-- the symbol of token n, which is a name with these bytes
abbrev pub word_symbol : ℕ → List ℕ → Symbol
word_symbol n word =
    unwrap_or (at_word primitive_words word)
    (unwrap_or (at_word form_words word)
    (unwrap_or (at_word control_words word)
    (if is_unsupported word then symbols.Unsupported n else symbols.Name n)))

-- the number that digits are (this project's profile)
abbrev pub value : List ℕ → ℕ
value digits = decimal_after 0 digits

-- what the grammar sees of token n, of this kind and with these bytes
abbrev pub symbol_of : ℕ → Kind → List ℕ → Symbol
symbol_of n kinds.Name bytes = word_symbol n bytes
symbol_of n kinds.Integer bytes = symbols.Integer (value bytes)
symbol_of n kinds.Text bytes = symbols.Text n
symbol_of n kinds.Sign bytes = unwrap_or (sign bytes) (symbols.Unsupported n)
