-- What was played up to a frame, and a block more.
use Rattle.std.proofs.Common.{◌≡◌, ℕ, zero, suc, ◌+◌, ◌-◌, ◌*◌, ◌<◌, ◌≤◌, List, [], ◌∷◌, ◌++◌, length, take, drop}
use Rattle.std.proofs.Common.{get_or, refl, sym, ap, subst, ◌∙◌, arith, append_assoc, append-nil, ℤ, pos}
use Rattle.std.proofs.lemmas.List.{get_or-take, get_or-drop, get_or_append_left}
use Rattle.std.specs.Prelude.{slice_index_or}
use Rattle.fv_num.specs.headline.Words.{argument}
use Rattle.fv_num.specs.headline.Frames.{Frame, Stream, column, table, rows}
use Rattle.fv_base.proofs.lemmas.Lists.{table_same, length_table}
use Rattle.fv_signal.specs.headline.Value.{Graph, value}
use Rattle.fv_signal.specs.Value.{ValuesLookBack}
use Rattle.fv_split_plan.specs.headline.Plans.{PlanStands}
use Rattle.fv_split_plan.specs.headline.Fits.{Names}
use Rattle.fv_split_plan.specs.headline.View.{PlanView}
use Rattle.fv_engine.specs.Stands.{AreGiven, EngineView, GoesOn, SameParts, StandsFor, played}

table_add : {A : Type 0} (n m : ℕ) (g : ℕ → A) → table (n + m) g ≡ table n g ++ table m (λ u. g (n + u))
table_add n zero g = let e : n + 0 ≡ n = omega arith in ap (λ k. table k g) e ∙ sym (append-nil (table n g))
table_add n (suc m) g =
    let e : n + suc m ≡ suc (n + m) = omega arith in
    ap (λ k. table k g) e ∙ ap (λ xs. xs ++ g (n + m) ∷ []) (table_add n m g) ∙ append_assoc (table n g) (table m (λ u. g (n + u))) (g (n + m) ∷ [])

-- rows that are there end in the list
row_end : (f n t w : ℕ) → f + n ≤ t → f * w + n * w ≤ t * w
row_end f n t w h = let e : f + n + (t - (f + n)) ≡ t = omega (arith, h) in subst (λ (x : ℕ). f * w + n * w ≤ x * w) e (omega arith)

row_in : (t f w i : ℕ) → t < f → i < w → t * w + i < f * w
row_in t f w i l m = let k = row_end t 1 f w (omega (arith, l)) in omega (arith, k, m)

-- rows that are equal cell by cell
pub cells_same : (n w : ℕ) (a b : ℕ → ℕ → ℤ) → ((t i : ℕ) → t < n → i < w → a t i ≡ b t i) → table n (λ t. table w (a t)) ≡ table n (λ t. table w (b t))
cells_same n w a b h = table_same n (λ t. table w (a t)) (λ t. table w (b t)) (λ t l. table_same w (a t) (b t) (λ i m. h t i l m))

rows_take : (w f : ℕ) (xs : List ℤ) → rows w f xs ≡ rows w f (take (f * w) xs)
rows_take w f xs = cells_same f w _ _ (λ t i l m. sym (get_or-take (f * w) xs (t * w + i) (pos 0) (row_in t f w i l m)))

-- rows depend on their cells alone
pub rows_alike : (w f : ℕ) (xs ys : List ℤ) → take (f * w) xs ≡ take (f * w) ys → rows w f xs ≡ rows w f ys
rows_alike w f xs ys e = rows_take w f xs ∙ ap (rows w f) e ∙ sym (rows_take w f ys)

-- rows, and those after them
rows_add : (w f n : ℕ) (xs : List ℤ) → rows w (f + n) xs ≡ rows w f xs ++ rows w n (take (n * w) (drop (f * w) xs))
rows_add w f n xs =
    let rest = drop (f * w) xs in
    let behind : table n (λ u. table w (λ i. argument xs ((f + u) * w + i))) ≡ rows w n (take (n * w) rest) =
    cells_same n w _ _ (λ u i l m.
    let e : (f + u) * w + i ≡ f * w + (u * w + i) = omega arith in
    ap (argument xs) e ∙ sym (get_or-take (n * w) rest (u * w + i) (pos 0) (row_in u n w i l m) ∙ get_or-drop (f * w) xs (u * w + i) (pos 0))) in
    table_add f n (λ t. table w (λ i. argument xs (t * w + i))) ∙ ap (λ z. rows w f xs ++ z) behind

-- what was played stays as frames follow
played_stays : (g : Graph) → ValuesLookBack g → (X Y : List Frame) (c : ℕ → Stream) (f : ℕ) → length X ≡ f → played g X c 0 f ≡ played g (X ++ Y) c 0 f
played_stays g look X Y c f e =
    let same : (i v : ℕ) → v < f → column X i v ≡ column (X ++ Y) i v =
    λ i v k. ap (λ (r : Frame). get_or r i (pos 0)) (sym (get_or_append_left X Y [] v (omega (arith, k, e)))) in
    cells_same f (length g.outputs) _ _ (λ u j l m. look X (X ++ Y) c c f same (λ k v q. refl) (slice_index_or g.outputs j 0) (0 + u) (omega (arith, l)))

played_add : (g : Graph) (X : List Frame) (c : ℕ → Stream) (f n : ℕ) → played g X c 0 (f + n) ≡ played g X c 0 f ++ played g X c f n
played_add g X c f n =
    let at : ℕ → Frame = λ t. table (length g.outputs) (λ j. value g (slice_index_or g.outputs j 0) X c t) in
    let behind : table n (λ u. at (0 + (f + u))) ≡ played g X c f n = table_same n _ _ (λ u l. let e : 0 + (f + u) ≡ f + u = omega arith in ap at e) in
    table_add f n (λ u. at (0 + u)) ∙ ap (λ z. played g X c 0 f ++ z) behind

-- Up to frame f, the output is that of each graph for which the engine stood at the beginning, and it stands for all of it.
abbrev pub PlayedSo : (e now : EngineView) (c : ℕ → Stream) (f : ℕ) (input output : List ℤ) → Type 0
PlayedSo e now c f input output =
    (g : Graph) (s : PlanStands g e.plan) → StandsFor e g s.names [] c
    → StandsFor now g s.names (rows e.channels f input) c × (rows (length g.outputs) f output ≡ played g (rows e.channels f input) c 0 f)

-- an engine goes on from the frames X, by these names of its plan
record GoesFrom (now next : EngineView) (n : ℕ) (input output : List ℤ) (g : Graph) (names : Names) (X : List Frame) (c : ℕ → Stream) : Type 0 where
  pub plays : rows (length g.outputs) n output ≡ played g (X ++ rows now.channels n input) c (length X) n
  pub stands : StandsFor next g names (X ++ rows now.channels n input) c

-- n frames more from frame f on, where a frame of the output has w numbers
pub record PlaysMore (e now next : EngineView) (c : ℕ → Stream) (f n w : ℕ) (input controls old new : List ℤ) : Type 0 where
  pub look : (g : Graph) → ValuesLookBack g
  pub same : SameParts e now
  pub width : (g : Graph) → PlanStands g e.plan → length g.outputs ≡ w
  pub on : GoesOn now next n (take (n * e.channels) (drop (f * e.channels) input)) controls (take (n * w) (drop (f * w) new))
  pub given : AreGiven controls c f n
  pub before : take (f * w) new ≡ take (f * w) old

-- an engine with the plan of an earlier one goes on, in the names of that
goes : (e now next : EngineView) → SameParts e now → (n : ℕ) (input controls output : List ℤ) → GoesOn now next n input controls output
    → (g : Graph) (s : PlanStands g e.plan) (X : List Frame) (c : ℕ → Stream) → StandsFor now g s.names X c → AreGiven controls c (length X) n
    → GoesFrom now next n input output g s.names X c
goes e now next same n input controls output on g =
    let P : PlanView → Type 0 = λ p. (s : PlanStands g p) (X : List Frame) (c : ℕ → Stream) → StandsFor now g s.names X c
    → AreGiven controls c (length X) n → GoesFrom now next n input output g s.names X c in
    subst P (ap (λ (v : EngineView). v.plan) same) (λ s X c stands given. let r = on g s X c stands given in record { plays = r.0; stands = r.1 })

pub played_more : {e now next : EngineView} {c : ℕ → Stream} {f n w : ℕ} {input controls old new : List ℤ} → PlaysMore e now next c f n w input controls old new
    → PlayedSo e now c f input old → PlayedSo e next c (f + n) input new
played_more {e} {now} {next} {c} {f} {n} {w} {input} {controls} {old} {new} more so g s st =
    let ch = e.channels in
    let X = rows ch f input in
    let all = rows ch (f + n) input in
    let part = take (n * ch) (drop (f * ch) input) in
    let out = take (n * w) (drop (f * w) new) in
    let long : length X ≡ f = length_table f (λ t. table ch (λ i. argument input (t * ch + i))) in
    let wide = more.width g s in
    let r = goes e now next more.same n part controls out more.on g s X c (so g s st).0 (subst (λ t. AreGiven controls c t n) (sym long) more.given) in
    let is_all : X ++ rows now.channels n part ≡ all =
    ap (λ (v : EngineView). X ++ rows v.channels n part) more.same ∙ sym (rows_add ch f n input) in
    let first : rows w f new ≡ played g all c 0 f =
    rows_alike w f new old more.before ∙ ap (λ k. rows k f old) (sym wide) ∙ (so g s st).1
    ∙ played_stays g (more.look g) X (rows now.channels n part) c f long ∙ ap (λ Y. played g Y c 0 f) is_all in
    let last : rows w n out ≡ played g all c f n =
    ap (λ k. rows k n out) (sym wide) ∙ r.plays ∙ ap (λ Y. played g Y c (length X) n) is_all ∙ ap (λ t. played g all c t n) long in (
      subst (λ Y. StandsFor next g s.names Y c) is_all r.stands,
      ap (λ k. rows k (f + n) new) wide ∙ rows_add w f n new ∙ ap (λ z. z ++ rows w n out) first ∙ ap (λ z. played g all c 0 f ++ z) last
          ∙ sym (played_add g all c f n),
    )
