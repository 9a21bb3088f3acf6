-- The values of the controls while their changes come.
use Rattle.std.proofs.Common.{◌≡◌, ℕ, zero, suc, ◌+◌, ◌<◌, ◌≤◌, List, [], ◌∷◌, ◌++◌, length, take}
use Rattle.std.proofs.Common.{drop, get_or, ℤ, pos, sym, ◌∙◌, ap, arith, refl, length-set, subst}
use Rattle.std.specs.Prelude.{slice_set}
use Rattle.std.specs.List.{AllByRecursion}
use Rattle.std.proofs.lemmas.List.{take_more}
use Rattle.fv_base.proofs.lemmas.Lists.{table_items, table_same}
use Rattle.fv_diagram.specs.Frames.{Frame, table}
use Rattle.fv_control.specs.declared.script.Change.{Change}
use Rattle.fv_control.specs.Laws.{NeverFall, Held, applied}
use Rattle.fv_control.specs.headline.Streams.{control_streams}

applied_push : (values : List ℤ) (cs : List Change) (c : Change) → applied values (cs ++ c ∷ []) ≡ slice_set (applied values cs) c.control c.value
applied_push values [] c = refl
applied_push values (b ∷ cs) c = applied_push (slice_set values b.control b.value) cs c

-- the values after one change more
pub applied_more : (values : List ℤ) (cs : List Change) (n : ℕ) (d : Change) → n < length cs →
    applied values (take (n + 1) cs) ≡ slice_set (applied values (take n cs)) (get_or cs n d).control (get_or cs n d).value
applied_more values cs n d h = ap (applied values) (take_more cs n d h) ∙ applied_push values (take n cs) (get_or cs n d)

pub length-applied : (values : List ℤ) (cs : List Change) → length (applied values cs) ≡ length values
length-applied values [] = refl
length-applied values (c ∷ cs) = length-applied (slice_set values c.control c.value) cs ∙ length-set values c.control c.value

-- ---- facts of all changes
all_push : (P : Change → Type 0) (cs : List Change) (c : Change) → AllByRecursion P cs → P c → AllByRecursion P (cs ++ c ∷ [])
all_push P [] c h p = (p, tt)
all_push P (b ∷ cs) c h p = (h.0, all_push P cs c h.1 p)

pub all_more : (P : Change → Type 0) (cs : List Change) (n : ℕ) (d : Change) → n < length cs → AllByRecursion P (take n cs) → P (get_or cs n d) →
    AllByRecursion P (take (n + 1) cs)
all_more P cs n d h all p = subst (AllByRecursion P) (sym (take_more cs n d h)) (all_push P (take n cs) (get_or cs n d) all p)

-- what has come by a frame has come by the next one
pub come_later : (f : ℕ) (cs : List Change) → AllByRecursion (λ c. c.frame ≤ f) cs → AllByRecursion (λ c. c.frame ≤ f + 1) cs
come_later f [] h = tt
come_later f (c ∷ cs) h = (let le = h.0 in omega arith, come_later f cs h.1)

never_below : (least f : ℕ) (cs : List Change) → f < least → NeverFall least cs → AllByRecursion (λ c. f < c.frame) cs
never_below least f [] h n = tt
never_below least f (c ∷ cs) h n =
    let here : f < c.frame = let le = n.0 in omega arith in
    (here, never_below c.frame f cs here n.1)

-- where frames never fall, all changes after one that has not come have not
pub all_behind : (least f n : ℕ) (cs : List Change) (c : Change) → NeverFall least cs → (n < length cs → f < (get_or cs n c).frame) →
    AllByRecursion (λ b. f < b.frame) (drop n cs)
all_behind least f zero [] c k h = tt
all_behind least f zero (b ∷ cs) c k h = let here : f < b.frame = h (omega arith) in (here, never_below b.frame f cs here k.1)
all_behind least f (suc n) [] c k h = tt
all_behind least f (suc n) (b ∷ cs) c k h = all_behind b.frame f n cs c k.1 (λ l. h (omega arith))

-- ---- the values at a frame
-- those of the streams
abbrev pub heard_at : List Change → (initial : List ℤ) → ℕ → Frame
heard_at changes initial t = table (length initial) (λ k. control_streams changes initial k t)

pub values_are : (changes : List Change) (initial : List ℤ) (n f : ℕ) → Held → AllByRecursion (λ c. c.frame ≤ f) (take n changes) →
    AllByRecursion (λ c. f < c.frame) (drop n changes) →
    applied initial (take n changes) ≡ heard_at changes initial f
values_are changes initial n f held come behind =
    let values = applied initial (take n changes) in
    sym (table_items values (pos 0)) ∙ ap (λ (m : ℕ). table m (λ i. get_or values i (pos 0))) (length-applied initial (take n changes))
    ∙ table_same (length initial) (λ i. get_or values i (pos 0)) (λ k. control_streams changes initial k f) (λ k h. held changes initial n f k h come behind)
