-- Scripts: the changes that the lines of a control script spell (this project's profile).
use Rattle.std.specs.Prelude.{ℕ, ◌+◌, ◌-◌, ◌^◌, Bool, true, false, not, ◌&&◌, ◌||◌, ◌==◌, nat_le, List, [], ◌∷◌, ◌++◌, length, take, drop, Option, Some}
use Rattle.std.specs.Prelude.{None, Result, Ok, Err, ℤ, pos, neg_ℤ, int_le, position, bytes_eq, slice_index, slice_index_or, if◌then◌else◌}
use Rattle.std.specs.List.{slice_split, before_first, after_first}
use Rattle.std.specs.Str.Lines.{strip_carriage_return}
pub use Rattle.fv_base.specs.headline.Digits.{is_digit, is_decimal, decimal_after}
use Rattle.fv_base.specs.declared.limits.TheConstants.{LONGEST_TEXT}
use Rattle.fv_base.specs.declared.role.Role.TheVariants.{Controls}
use Rattle.fv_diagram.specs.declared.control.ControlInfo.{ControlInfo}
use Rattle.fv_diagram.specs.declared.control.ControlKind.TheVariants.{Button}
use Rattle.fv_control.specs.declared.script.Change.{Change}
use Rattle.fv_control.specs.declared.refusal.ScriptRefusal.{ScriptRefusal}
use Rattle.fv_control.specs.declared.refusal.ScriptRefusal.TheVariants.{TextTooLong, ControlLine, ControlUnknown, ControlRange, ControlOrder}

-- ---- one line

-- a space
abbrev pub is_space : ℕ → Bool
is_space b = b == 32

-- the place of the last space
abbrev pub one_more : Option ℕ → Option ℕ → Option ℕ
one_more (Some i) here = Some (i + 1)
one_more None here = here

-- the place of the last space of these bytes, if there is one
abbrev pub last_space : List ℕ → Option ℕ
last_space [] = None
last_space (b ∷ bs) = one_more (last_space bs) (if is_space b then Some 0 else None)

-- the number that one to ten digits write, if it is not above this
abbrev pub natural_to : ℕ → List ℕ → Option ℕ
natural_to most ds = if is_decimal ds && nat_le (decimal_after 0 ds) most then Some (decimal_after 0 ds) else None

-- the number of a frame, of 32 bits
abbrev pub frame_of : List ℕ → Option ℕ
frame_of ds = natural_to (2 ^ 32 - 1) ds

-- a number below zero, or one that is not
abbrev pub signed : Bool → Option ℕ → Option ℤ
signed minus None = None
signed minus (Some n) = Some (if minus then neg_ℤ (pos n) else pos n)

-- an optional sign, and digits, within 32 bits
abbrev pub value_of : List ℕ → Option ℤ
value_of [] = None
value_of (b ∷ bs) = if b == 45 then signed true (natural_to (2 ^ 31) bs) else signed false (natural_to (2 ^ 31 - 1) (b ∷ bs))

-- what a line asks for
pub record Request : Type 0 where
  pub frame : ℕ
  pub label : List ℕ
  pub value : ℤ

-- what a line asks for, if its frame and its value are numbers in their ranges
abbrev pub requested : Option ℕ → List ℕ → Option ℤ → Option Request
requested (Some frame) label (Some value) = Some (record { frame = frame; label = label; value = value })
requested _ label _ = None

-- cut at the last space of what follows the first one
abbrev pub request_at : (frame rest : List ℕ) → Option ℕ → Option Request
request_at frame rest None = None
request_at frame rest (Some i) = if i == 0 then None else requested (frame_of frame) (take i rest) (value_of (drop (i + 1) rest))

-- A frame, one space, a label that is not empty, one space, a value: the label stands between the first space and the last one.
abbrev pub request_of : List ℕ → Option Request
request_of line = request_at (before_first is_space line) (after_first is_space line) (last_space (after_first is_space line))

-- an empty line, and one that begins with `#`, says nothing
abbrev pub is_silent : List ℕ → Bool
is_silent line = (length line == 0) || (slice_index line 0 == 35)

-- no control
abbrev pub no_control : ControlInfo
no_control = record { kind = Button; label = []; init = pos 0; min = pos 0; max = pos 0 }

-- a value within a control's range
abbrev pub is_within : ControlInfo → ℤ → Bool
is_within c value = int_le c.min value && int_le value c.max

-- what is asked of control k, where no frame may be below the least
abbrev pub change_of : ControlInfo → (least number k : ℕ) → Request → Result (Option Change) ScriptRefusal
change_of c least number k r =
    if not (is_within c r.value) then Err (ControlRange number)
    else if nat_le least r.frame then Ok (Some (record { frame = r.frame; control = k; value = r.value })) else Err (ControlOrder number)

-- what is asked of the control that a label names, if it names one
abbrev pub asked : List ControlInfo → (least number : ℕ) → Request → Option ℕ → Result (Option Change) ScriptRefusal
asked controls least number r None = Err (ControlUnknown number)
asked controls least number r (Some k) = change_of (slice_index_or controls k no_control) least number k r

-- what a line asks for, or that it is no line of a script
abbrev pub heard : List ControlInfo → (least number : ℕ) → Option Request → Result (Option Change) ScriptRefusal
heard controls least number None = Err (ControlLine number)
heard controls least number (Some r) = asked controls least number r (position (λ c. bytes_eq c.label r.label) controls)

-- What a line says: nothing, or a change; or why it is refused.
unfoldable pub line_says : List ControlInfo → (least number : ℕ) → List ℕ → Result (Option Change) ScriptRefusal
line_says controls least number line =
    let bare = strip_carriage_return line in
    if is_silent bare then Ok None else heard controls least number (request_of bare)

-- ---- all lines

-- what follows an answer, or its refusal
infixl 10 ◌>>=◌
abbrev pub ◌>>=◌ : {A B : Type 0} → Result A ScriptRefusal → (A → Result B ScriptRefusal) → Result B ScriptRefusal
◌>>=◌ (Ok x) f = f x
◌>>=◌ (Err e) f = Err e

-- a change that there may be, as a list
abbrev pub listed : Option Change → List Change
listed None = []
listed (Some c) = c ∷ []

-- the least frame after a line
abbrev pub least_behind : ℕ → Option Change → ℕ
least_behind least None = least
least_behind least (Some c) = c.frame

-- the changes of these lines, the first of which has this number
abbrev pub lines_say : List ControlInfo → (least number : ℕ) → List (List ℕ) → Result (List Change) ScriptRefusal
lines_say controls least number [] = Ok []
lines_say controls least number (l ∷ ls) =
    line_says controls least number l >>= λ c. lines_say controls (least_behind least c) (number + 1) ls >>= λ cs. Ok (listed c ++ cs)

-- the lines, which end with byte 10 but for the last one
abbrev pub lines_of : List ℕ → List (List ℕ)
lines_of bytes = slice_split (λ b. b == 10) bytes

-- The changes that a script spells, or why it is refused: for its length, or for its first bad line.
unfoldable pub script : List ControlInfo → List ℕ → Result (List Change) ScriptRefusal
script controls bytes = if nat_le (length bytes) LONGEST_TEXT then lines_say controls 0 1 (lines_of bytes) else Err (TextTooLong Controls)
