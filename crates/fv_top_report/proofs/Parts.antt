-- Parts from the front of what is written piece by piece.
use Rattle.std.proofs.Common.{◌≡◌, ◌≤◌, ◌+◌, ℕ, List, [], ◌++◌, length, sym, ◌∙◌, ap, subst, append_assoc}
use Rattle.std.specs.Prelude.{codes, decimal, IsTrue, IsOk, OnErr, Result}
use Rattle.fv_outside.specs.Role.{Role}
use Rattle.fv_outside.specs.Role.TheVariants.{Report}
use Rattle.fv_outside.specs.declared.desk.Failed.{Failed}
use Rattle.fv_outside.specs.headline.Desk.{DeskState, IsUnfailing}
use Rattle.fv_outside.specs.Desk.{Appends}
use Rattle.fv_outside.proofs.lemmas.States.{appends_then, appends_nothing}
use Rattle.fv_top_report.specs.headline.Lines.{Row, spaced, row_line}
use Rattle.fv_top_report.specs.Parts.{AppendsPart}

-- a part of the first piece is one of the whole
pub part_before : {role : Role} {xs : List ℕ} {a b : DeskState} (ys : List ℕ) → AppendsPart role xs a b → AppendsPart role (xs ++ ys) a b
part_before ys p = (p.0, record { rest = p.1.rest ++ ys; is = ap (λ w. w ++ ys) p.1.is ∙ append_assoc p.0 p.1.rest ys }, p.2)

-- and so is the first piece with a part of the second
pub part_behind : {role : Role} {xs ys : List ℕ} {a b c : DeskState} → Appends role xs a b → AppendsPart role ys b c → AppendsPart role (xs ++ ys) a c
part_behind {xs = xs} p q = (xs ++ q.0, record { rest = q.1.rest; is = ap (λ w. xs ++ w) q.1.is ∙ sym (append_assoc xs q.0 q.1.rest) }, appends_then p q.2)

-- nothing after the last piece
pub last_piece : {role : Role} {xs : List ℕ} {a b : DeskState} → Appends role xs a b → Appends role (xs ++ []) a b
last_piece {role} {b = b} p = appends_then p (appends_nothing role b)

-- the line of a row, in three pieces
pub line_pieces : (r : Row) → (codes "refused " ++ decimal r.number ++ codes " " ++ r.name) ++ (spaced r.fields ++ codes "\n") ≡ row_line r
line_pieces r = simp append_assoc

-- ---- what is told of pieces is told of the line that they are

pub err_as : (r : Result (Unit {0}) Failed) {xs ys : List ℕ} (a b : DeskState) → xs ≡ ys → OnErr r (AppendsPart Report xs a b)
    → OnErr r (AppendsPart Report ys a b)
err_as r a b is h = subst (λ (w : List ℕ). OnErr r (AppendsPart Report w a b)) is h

-- a report of these bytes is answered where no call fails and there is room
abbrev pub IsAnsweredWith : Result (Unit {0}) Failed → DeskState → List ℕ → Type 0
IsAnsweredWith r a w = IsTrue a.tells → IsUnfailing Report a → length (a.written Report) + length w ≤ a.room Report → IsOk r

pub answers_as : (r : Result (Unit {0}) Failed) {xs ys : List ℕ} (a : DeskState) → xs ≡ ys → IsAnsweredWith r a xs → IsAnsweredWith r a ys
answers_as r a is h = subst (IsAnsweredWith r a) is h
