-- A text is cut into pieces, and has one list of tokens or one first refusal.
use Rattle.std.specs.Prelude.{ℕ, suc, ◌+◌, ◌-◌, ◌<◌, ◌≤◌, nat_eq, List, [], ◌∷◌, ◌++◌, length, Option, Some, None, Result, Ok, Err, if◌then◌else◌}
use Rattle.fv_base.specs.declared.role.Role.TheVariants.{Program}
use Rattle.fv_lex.specs.declared.token.Kind.{Kind}
use Rattle.fv_lex.specs.declared.token.Place.{Place}
use Rattle.fv_lex.specs.declared.refusal.Fault.{Fault}
use Rattle.fv_lex.specs.declared.refusal.Fault.TheVariants as faults
use Rattle.fv_base.specs.declared.limits.TheConstants.{LONGEST_TEXT, DEEPEST_NESTING}
use Rattle.fv_lex.specs.declared.refusal.LexRefusal.{LexRefusal}
use Rattle.fv_lex.specs.declared.refusal.LexRefusal.TheVariants as refusals
use Rattle.fv_lex.specs.headline.Token.{Token, Lexed}
use Rattle.fv_lex.specs.headline.Symbols.{symbol_of}
use Rattle.fv_lex.specs.headline.Pieces.{IsPiece, IsFault}
use Rattle.fv_lex.specs.headline.Bytes.{line_feed, open_bracket, close_bracket, open_brace, close_brace}

-- ---- brackets

-- How many brackets are open after a piece: one more after `(` or `{`, one less, but not below 0, after `)` or `}`.
abbrev pub depth_after : ℕ → List ℕ → ℕ
depth_after depth [] = depth
depth_after depth (b ∷ []) =
    if nat_eq b open_bracket then suc depth
    else (if nat_eq b open_brace then suc depth
    else (if nat_eq b close_bracket then depth - 1
    else (if nat_eq b close_brace then depth - 1 else depth)))
depth_after depth (b ∷ c ∷ bs) = depth

-- ---- cuts

-- a piece: its bytes, and its kind where it is a token
pub record Cut : Type 0 where
  pub bytes : List ℕ
  pub kind : Option Kind

-- `Cuts text depth pieces rest end`: the text, where `depth` brackets are open, is these pieces and then the rest, where `end` are
-- open.
pub data Cuts : List ℕ → ℕ → List Cut → List ℕ → ℕ → Type 0 where
  nothing_more : {rest : List ℕ} {depth : ℕ} → Cuts rest depth [] rest depth
  piece_first : {bytes rest end : List ℕ} {kind : Option Kind} {cuts : List Cut} {depth deep : ℕ}
      → IsPiece bytes rest kind → depth_after depth bytes ≤ DEEPEST_NESTING → Cuts rest (depth_after depth bytes) cuts end deep
      → Cuts (bytes ++ rest) depth (record { bytes = bytes; kind = kind } ∷ cuts) end deep

-- Why a cut ends there: the text ends, or no piece begins, or a bracket too many does.
pub data Ends : List ℕ → ℕ → Option Fault → Type 0 where
  whole : {depth : ℕ} → Ends [] depth None
  faulty : {rest : List ℕ} {depth : ℕ} {fault : Fault} → IsFault rest fault → Ends rest depth (Some fault)
  too_deep : {bytes rest : List ℕ} {depth : ℕ} {kind : Option Kind}
      → IsPiece bytes rest kind → DEEPEST_NESTING < depth_after depth bytes → Ends (bytes ++ rest) depth (Some faults.Nesting)

-- ---- places and tokens

-- where a text begins: lines and columns count from 1 (this project's profile)
abbrev pub first_place : Place
first_place = record { line = 1; column = 1 }

-- A line ends after a line feed, and a column is one byte.
abbrev pub next_place : Place → ℕ → Place
next_place place b = if nat_eq b line_feed then record { line = place.line + 1; column = 1 } else record { line = place.line; column = place.column + 1 }

-- the place after these bytes, from a place on (this project's profile)
abbrev pub place_after : Place → List ℕ → Place
place_after place [] = place
place_after place (b ∷ bs) = place_after (next_place place b) bs

-- the token of a piece, as number n and at that place
abbrev pub token_of : ℕ → Place → List ℕ → Option Kind → List Token
token_of n place bytes None = []
token_of n place bytes (Some kind) = record { symbol = symbol_of n kind bytes; kind = kind; text = bytes; place = place } ∷ []

-- the tokens of a cut, from a number and a place on (this project's profile)
abbrev pub tokens_of : ℕ → Place → List Cut → List Token
tokens_of n place [] = []
tokens_of n place (c ∷ cuts) = token_of n place c.bytes c.kind ++ tokens_of (n + length (token_of n place c.bytes c.kind)) (place_after place c.bytes) cuts

-- the place after a cut, from a place on (this project's profile)
abbrev pub end_of : Place → List Cut → Place
end_of place [] = place
end_of place (c ∷ cuts) = end_of (place_after place c.bytes) cuts

-- ---- answers

-- what refuses a text that has a fault at a place (this project's profile)
abbrev pub refusal_at : Place → Fault → LexRefusal
refusal_at place faults.BadByte = refusals.BadByte place.line place.column
refusal_at place faults.Unclosed = refusals.Unclosed place.line place.column
refusal_at place faults.RealLiteral = refusals.RealLiteral place.line place.column
refusal_at place faults.LiteralTooLarge = refusals.LiteralTooLarge place.line place.column
refusal_at place faults.Nesting = refusals.Nesting place.line place.column

-- the tokens of a whole cut, or the refusal after one
abbrev pub answer_of : List Cut → Option Fault → Result Lexed LexRefusal
answer_of cuts None = Ok (record { tokens = tokens_of 0 first_place cuts; end = end_of first_place cuts })
answer_of cuts (Some fault) = Err (refusal_at (end_of first_place cuts) fault)

-- What a text has: its tokens, or the first refusal.
pub data Has : List ℕ → Result Lexed LexRefusal → Type 0 where
  too_long : {text : List ℕ} → LONGEST_TEXT < length text → Has text (Err (refusals.TextTooLong Program))
  cut : {text rest : List ℕ} {cuts : List Cut} {depth : ℕ} {fault : Option Fault}
      → length text ≤ LONGEST_TEXT → Cuts text 0 cuts rest depth → Ends rest depth fault → Has text (answer_of cuts fault)
