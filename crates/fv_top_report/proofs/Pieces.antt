-- The lines of the report, piece by piece.
use Rattle.std.proofs.Common.{◌≡◌, ℕ, ℤ, List, [], ◌++◌, ◌∙◌, ap, append_assoc, to_z, of_z, to_z-of_z, SFits, w32}
use Rattle.std.specs.Prelude.{codes, decimal}
use Rattle.std.specs.Fmt.{signed_decimal}
use Rattle.std.proofs.lemmas.List.{append-nil}
use Rattle.fv_top_report.specs.headline.Lines.{check_line, made_line}

-- the line of a program that was checked
pub numbers_line : (i o n s d : ℕ) {p1 p2 p3 p4 p5 p6 p7 p8 p9 p10 p11 : List ℕ} → p1 ≡ codes "inputs " → p2 ≡ decimal i
    → p3 ≡ codes " outputs " → p4 ≡ decimal o → p5 ≡ codes " controls " → p6 ≡ decimal n
    → p7 ≡ codes " size " → p8 ≡ decimal s → p9 ≡ codes " delays " → p10 ≡ decimal d → p11 ≡ codes "\n"
    → p1 ++ (p2 ++ (p3 ++ (p4 ++ (p5 ++ (p6 ++ (p7 ++ (p8 ++ (p9 ++ (p10 ++ (p11 ++ [])))))))))) ≡ check_line i o n s d
numbers_line i o n s d e1 e2 e3 e4 e5 e6 e7 e8 e9 e10 e11 = rw (e1, e2, e3, e4, e5, e6, e7, e8, e9, e10, e11) (simp (append_assoc, append-nil))

-- that of a program that was made; the sum comes back from its 32 bits
pub made_pieces : (v f : ℕ) (s : ℤ) → SFits w32 s → {p1 p2 p3 p4 p5 p6 p7 : List ℕ} → p1 ≡ codes "made " → p2 ≡ decimal v → p3 ≡ codes " voices, "
    → p4 ≡ decimal f
    → p5 ≡ codes " frames, sum " → p6 ≡ signed_decimal (to_z w32 (of_z w32 s)) → p7 ≡ codes "\n"
    → p1 ++ (p2 ++ (p3 ++ (p4 ++ (p5 ++ (p6 ++ (p7 ++ [])))))) ≡ made_line v f s
made_pieces v f s fits e1 e2 e3 e4 e5 e6 e7 =
    let e : _ ≡ signed_decimal s = e6 ∙ ap signed_decimal (to_z-of_z fits) in
    rw (e1, e2, e3, e4, e5, e, e7) (simp (append_assoc, append-nil))
