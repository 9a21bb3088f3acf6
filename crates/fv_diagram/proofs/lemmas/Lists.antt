-- Frames side by side, and the last frame.
use Rattle.std.proofs.Common.{◌≡◌, suc, List, [], ◌∷◌, ◌++◌, length, refl, ap, arith, Result, Ok, Err, OnOk}
use Rattle.fv_diagram.specs.headline.Streams.{Frame, beside, last}
pub use Rattle.fv_base.proofs.lemmas.Lists.{snoc_induction, length_snoc, table_same, length_table, map_table, get_or_table}

pub last_snoc : (X : List Frame) (x : Frame) → last (X ++ x ∷ []) ≡ x
last_snoc [] x = refl
last_snoc (y ∷ []) x = refl
last_snoc (y ∷ z ∷ X) x = last_snoc (z ∷ X) x

pub beside_snoc : (X Y : List Frame) (x y : Frame) → length X ≡ length Y → beside (X ++ x ∷ []) (Y ++ y ∷ []) ≡ beside X Y ++ (x ++ y) ∷ []
beside_snoc [] [] x y e = refl
beside_snoc [] (z ∷ Y) x y e = absurd (omega arith)
beside_snoc (z ∷ X) [] x y e = absurd (omega arith)
beside_snoc (u ∷ X) (v ∷ Y) x y e = ap (λ Z. (u ++ v) ∷ Z) (beside_snoc X Y x y (omega arith))

pub length_beside : (X Y : List Frame) → length X ≡ length Y → length (beside X Y) ≡ length X
length_beside [] Y e = refl
length_beside (x ∷ X) [] e = absurd (omega arith)
length_beside (x ∷ X) (y ∷ Y) e = ap suc (length_beside X Y (omega arith))

-- what holds in any case holds where all went well
pub on_ok_always : {A E : Type 0} (r : Result A E) (P : Type 0) → P → OnOk r P
on_ok_always (Ok x) P p = p
on_ok_always (Err e) P p = tt
