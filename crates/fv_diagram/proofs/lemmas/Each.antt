-- What holds of each frame of an answer.
use Rattle.std.proofs.Common.{◌≡◌, ℕ, zero, suc, ◌<◌, ◌≤◌, List, [], ◌∷◌, ◌++◌, length, map, reverse, take, replicate, sym, ap, ◌∙◌, subst, arith, All, pos}
use Rattle.std.proofs.lemmas.List.{length-map, length-reverse}
use Rattle.std.proofs.lemmas.List.Elements.{All-nil, All-cons, All-head, All-tail, All-push}
use mathlib.Core.List.{reverse-cons}
use Rattle.fv_diagram.specs.headline.Streams.{Frame, table, beside, last, fed_back, feedback}
use Rattle.fv_diagram.proofs.lemmas.Lists.{length_beside}
use Rattle.fv_diagram.proofs.lemmas.Causality.{length_feedback}

pub each_table : {A : Type 0} (P : A → Type 0) (n : ℕ) (f : ℕ → A) → ((t : ℕ) → t < n → P (f t)) → All P (table n f)
each_table P zero f h = All-nil P
each_table P (suc n) f h = All-push P (table n f) (f n) (each_table P n f (λ t l. h t (omega arith))) (h n (omega arith))

pub each_map : (P Q : Frame → Type 0) (f : Frame → Frame) (X : List Frame) → ((x : Frame) → P x → Q (f x)) → All P X → All Q (map f X)
each_map P Q f [] h w = All-nil Q
each_map P Q f (x ∷ X) h w = All-cons Q (f x) (map f X) (h x (All-head P x X w)) (each_map P Q f X h (All-tail P x X w))

pub each_beside : (P Q R : Frame → Type 0) (X Y : List Frame) → ((x y : Frame) → P x → Q y → R (x ++ y)) → All P X → All Q Y → All R (beside X Y)
each_beside P Q R [] Y h p q = All-nil R
each_beside P Q R (x ∷ X) [] h p q = All-nil R
each_beside P Q R (x ∷ X) (y ∷ Y) h p q =
    All-cons R (x ++ y) (beside X Y) (h x y (All-head P x X p) (All-head Q y Y q)) (each_beside P Q R X Y h (All-tail P x X p) (All-tail Q y Y q))

pub each_reverse : (P : Frame → Type 0) (X : List Frame) → All P X → All P (reverse X)
each_reverse P [] w = w
each_reverse P (x ∷ X) w = subst (All P) (sym (reverse-cons x X)) (All-push P (reverse X) x (each_reverse P X (All-tail P x X w)) (All-head P x X w))

pub each_last : (P : Frame → Type 0) (X : List Frame) → 0 < length X → All P X → P (last X)
each_last P [] l w = absurd (omega arith)
each_last P (x ∷ []) l w = All-head P x [] w
each_last P (x ∷ y ∷ X) l w = each_last P (y ∷ X) (omega arith) (All-tail P x (y ∷ X) w)

-- feedback on at most m frames, where A takes frames of Both and gives ones of Out, and B takes ones of Fed and gives ones of Back
pub each_feedback : (A B : List Frame → List Frame) (n m : ℕ) (In Out Fed Back Both : Frame → Type 0) → Fed (replicate n (pos 0)) →
    ((y : Frame) → Out y → Fed (take n y)) →
    ((x y : Frame) → Back x → In y → Both (x ++ y)) → ((Z : List Frame) → length (A Z) ≡ length Z) → ((Z : List Frame) → length (B Z) ≡ length Z) →
    ((Z : List Frame) → length Z ≤ m → All Both Z → All Out (A Z)) → ((Z : List Frame) → length Z ≤ m → All Fed Z → All Back (B Z)) → (X : List Frame) →
    length X ≤ m → All In X → All Out (feedback A B n X)
each_feedback A B n m In Out Fed Back Both first fed joins ka kb p q [] l w = All-nil Out
each_feedback A B n m In Out Fed Back Both first fed joins ka kb p q (x ∷ X) l w =
    let Y = feedback A B n X in
    let G = fed_back n Y in
    let F = B G in
    let R = reverse (x ∷ X) in
    let y : All Out Y = each_feedback A B n m In Out Fed Back Both first fed joins ka kb p q X (omega arith) (All-tail In x X w) in
    let f : All Fed G = All-cons Fed (replicate n (pos 0)) (map (take n) Y) first (each_map Out Fed (take n) Y fed y) in
    let g : length G ≡ suc (length X) = ap suc (length-map Y (take n) ∙ length_feedback A B n X) in
    let r : length R ≡ suc (length X) = length-reverse (x ∷ X) in
    let s : length (beside F R) ≡ length F = length_beside F R (kb G ∙ g ∙ sym r) in
    let z : All Both (beside F R) = each_beside Back In Both F R joins (q G (omega (arith, g)) f) (each_reverse In (x ∷ X) w) in
    All-push Out Y (last (A (beside F R))) y
    (each_last Out (A (beside F R)) (omega (arith, ka (beside F R), s, kb G, g)) (p (beside F R) (omega (arith, s, kb G, g)) z))
