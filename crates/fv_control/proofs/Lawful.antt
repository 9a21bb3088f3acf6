-- What a script spells is in order, and of its controls.
use Rattle.std.proofs.Common.{◌≡◌, ℕ, ◌+◌, ◌<◌, ◌≤◌, Bool, true, false, List, [], ◌∷◌, ◌++◌, length, refl, arith, Ok, Err, Result, Option, Some, None, subst}
use Rattle.std.specs.Prelude.{if◌then◌else◌, not, nat_le, nat_lt, position, bytes_eq, slice_index_or}
use Rattle.std.specs.List.{AllByRecursion, position_or_len}
use Rattle.std.specs.Str.Lines.{strip_carriage_return}
use Rattle.std.proofs.lemmas.Bool.{leb-true, ltb-true}
use Rattle.fv_base.specs.declared.limits.TheConstants.{LONGEST_TEXT}
use Rattle.fv_diagram.specs.declared.control.ControlInfo.{ControlInfo}
use Rattle.fv_control.specs.declared.script.Change.{Change}
use Rattle.fv_control.specs.declared.refusal.ScriptRefusal.{ScriptRefusal}
use Rattle.fv_control.specs.declared.refusal.ScriptRefusal.TheVariants.{ControlRange, ControlOrder, TextTooLong}
use Rattle.fv_base.specs.declared.role.Role.TheVariants.{Controls}
use Rattle.fv_control.specs.headline.Script.{Request, ◌>>=◌, script, lines_say, line_says, lines_of, listed, least_behind, is_silent}
use Rattle.fv_control.specs.headline.Script.{is_within, no_control, change_of, asked, heard, request_of}
use Rattle.fv_control.specs.Laws.{NeverFall, IsOfControls, IsLawful}

-- a change that a line may say
record Says (controls : List ControlInfo) (least : ℕ) (c : Change) : Type 0 where
  later : least ≤ c.frame
  known : IsOfControls controls c

abbrev Good : List ControlInfo → ℕ → Result (Option Change) ScriptRefusal → Type 0
Good controls least (Ok None) = Unit {0}
Good controls least (Ok (Some c)) = Says controls least c
Good controls least (Err e) = Unit {0}

-- a choice, with the test at hand
choice : (P : Result (Option Change) ScriptRefusal → Type 0) (b : Bool) (x y : Result (Option Change) ScriptRefusal) → (b ≡ true → P x) → (b ≡ false → P y)
    → P (if b then x else y)
choice P true x y f g = f refl
choice P false x y f g = g refl

not_false : (b : Bool) → not b ≡ false → b ≡ true
not_false true e = refl
not_false false e = absurd (cc)

good_change : (controls : List ControlInfo) (least n k : ℕ) (r : Request) → k < length controls
    → Good controls least (change_of (slice_index_or controls k no_control) least n k r)
good_change controls least n k r h =
    choice (Good controls least) (not (is_within (slice_index_or controls k no_control) r.value)) (Err (ControlRange n)) _ (λ e. tt)
    (λ e. choice (Good controls least) (nat_le least r.frame) (Ok (Some (record { frame = r.frame; control = k; value = r.value }))) (Err (ControlOrder n))
    (λ t. record {
      later = leb-true least r.frame t;
      known = record { there = h; within = not_false (is_within (slice_index_or controls k no_control) r.value) e };
    }) (λ t. tt))

-- a place is within the list
place_within : (n m : ℕ) (b : Bool) (k : ℕ) → nat_lt n m ≡ b → (if b then Some n else None) ≡ Some k → k < m
place_within n m true k t e = let f : n ≡ k = cc in let l = ltb-true n m t in omega arith
place_within n m false k t e = absurd (cc)

good_asked : (controls : List ControlInfo) (least n : ℕ) (r : Request) (o : Option ℕ) → position (λ c. bytes_eq c.label r.label) controls ≡ o
    → Good controls least (asked controls least n r o)
good_asked controls least n r None e = tt
good_asked controls least n r (Some k) e =
    good_change controls least n k r (place_within (position_or_len (λ c. bytes_eq c.label r.label) controls) (length controls) _ k refl e)

good_heard : (controls : List ControlInfo) (least n : ℕ) (o : Option Request) → Good controls least (heard controls least n o)
good_heard controls least n None = tt
good_heard controls least n (Some r) = good_asked controls least n r (position (λ c. bytes_eq c.label r.label) controls) refl

good_line : (controls : List ControlInfo) (least n : ℕ) (line : List ℕ) → Good controls least (line_says controls least n line)
unfolding line_says
good_line controls least n line =
    choice (Good controls least) (is_silent (strip_carriage_return line)) (Ok None) (heard controls least n (request_of (strip_carriage_return line))) (λ t. tt)
    (λ t. good_heard controls least n (request_of (strip_carriage_return line)))

-- all that lines say
record Lawful (controls : List ControlInfo) (least : ℕ) (cs : List Change) : Type 0 where
  order : NeverFall least cs
  known : AllByRecursion (IsOfControls controls) cs

abbrev AllGood : List ControlInfo → ℕ → Result (List Change) ScriptRefusal → Type 0
AllGood controls least (Ok cs) = Lawful controls least cs
AllGood controls least (Err e) = Unit {0}

joined : (controls : List ControlInfo) (least : ℕ) (c : Option Change) (m : Result (List Change) ScriptRefusal) → Good controls least (Ok c)
    → AllGood controls (least_behind least c) m
    → AllGood controls least (m >>= λ cs. Ok (listed c ++ cs))
joined controls least c (Err e) g a = tt
joined controls least None (Ok cs) g a = a
joined controls least (Some c) (Ok cs) g a = record { order = (g.later, a.order); known = (g.known, a.known) }

first : (controls : List ControlInfo) (least : ℕ) (m : Result (Option Change) ScriptRefusal) (f : Option Change → Result (List Change) ScriptRefusal)
    → Good controls least m
    → ((c : Option Change) → AllGood controls (least_behind least c) (f c)) → AllGood controls least (m >>= λ c. f c >>= λ cs. Ok (listed c ++ cs))
first controls least (Err e) f g a = tt
first controls least (Ok c) f g a = joined controls least c (f c) g (a c)

good_lines : (controls : List ControlInfo) (least n : ℕ) (ls : List (List ℕ)) → AllGood controls least (lines_say controls least n ls)
good_lines controls least n [] = record { order = tt; known = tt }
good_lines controls least n (l ∷ ls) =
    first controls least (line_says controls least n l) (λ c. lines_say controls (least_behind least c) (n + 1) ls) (good_line controls least n l)
    (λ c. good_lines controls (least_behind least c) (n + 1) ls)

chosen : (P : Result (List Change) ScriptRefusal → Type 0) (b : Bool) (x y : Result (List Change) ScriptRefusal) → P x → P y → P (if b then x else y)
chosen P true x y f g = f
chosen P false x y f g = g

good_script : (controls : List ControlInfo) (bytes : List ℕ) → AllGood controls 0 (script controls bytes)
unfolding script
good_script controls bytes = chosen (AllGood controls 0) (nat_le (length bytes) LONGEST_TEXT) (lines_say controls 0 1 (lines_of bytes))
    (Err (TextTooLong Controls))
    (good_lines controls 0 1 (lines_of bytes)) tt

pub lawful : IsLawful
lawful controls bytes changes e = let g : Lawful controls 0 changes = subst (AllGood controls 0) e (good_script controls bytes) in (g.order, g.known)
