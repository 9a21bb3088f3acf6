-- Lists of histories.
use Rattle.std.proofs.Common.{◌≡◌, ℕ, zero, suc, ◌+◌, ◌<◌, ◌≤◌, List, [], ◌∷◌, length, get_or, set, sym, ap, ap₂, ◌∙◌, subst, arith, ℤ, inl, inr}
use Rattle.std.proofs.lemmas.Bool.{cases_lt}
use Rattle.std.proofs.lemmas.List.{get_or-map, get_or-set_other, get_or-set_same, length-map}
use Rattle.fv_base.proofs.lemmas.Lists.{table_same, table_items}
use Rattle.fv_num.specs.headline.Words.{argument}
use Rattle.fv_num.specs.headline.Frames.{table}
use Rattle.fv_diagram_runner.specs.declared.step.Change.{Change}
use Rattle.fv_diagram_runner.specs.declared.step.Change.TheVariants as change
use Rattle.fv_diagram_runner.specs.History.{Numbers, numbers_of, HasRoom}
use Rattle.fv_num.specs.headline.Tables.{read_at, written}
use Rattle.fv_diagram_runner.specs.declared.step.Step.TheVariants as step
use Rattle.fv_diagram_runner.specs.Steps.{recalled, in_lists, changed, lists_after}

-- a history that has the same numbers, in the place of another
pub numbers_set : (hs : List Numbers) (i : ℕ) (h d : Numbers) → i < length hs → h.numbers ≡ (get_or hs i d).numbers → numbers_of (set hs i h) ≡ numbers_of hs
numbers_set [] i h d l e = absurd (omega arith)
numbers_set (x ∷ hs) zero h d l e = ap (λ ys. ys ∷ numbers_of hs) e
numbers_set (x ∷ hs) (suc i) h d l e = ap (λ yss. x.numbers ∷ yss) (numbers_set hs i h d (omega arith) e)

-- each of the first i histories that grow has room
abbrev pub HaveRoom : List Change → List Numbers → ℕ → Type 0
HaveRoom changes hs i = (k : ℕ) (d : Numbers) → k < i → HasRoom (get_or changes k (change.Append 0)) (get_or hs k d)

-- one history more has room
pub room_more : (changes : List Change) (hs : List Numbers) (i : ℕ) (h : Numbers) (a : Change) → i < length hs → HaveRoom changes hs i
    → get_or changes i (change.Append 0) ≡ a → HasRoom a h → HaveRoom changes (set hs i h) (i + 1)
room_more changes hs i h a l before e here k d m = elim (cases_lt k i) [
  | inl b ↦ subst (HasRoom (get_or changes k (change.Append 0))) (sym (get_or-set_other hs i k h d (λ e. absurd (omega arith)))) (before k d b)
  | inr b ↦
      let at : i ≡ k = omega arith in
      subst (λ k. HasRoom (get_or changes k (change.Append 0)) (get_or (set hs i h) k d)) at
      (subst (HasRoom (get_or changes i (change.Append 0))) (sym (get_or-set_same hs i h d l)) (subst (λ b. HasRoom b h) (sym e) here))
]

-- all lists have changed
pub changed_all : (r : ℕ → ℤ) (changes : List Change) (hs old : List Numbers) (i : ℕ) → length hs ≡ length old → length old ≡ length changes →
    length changes ≤ i →
    ((k : ℕ) (d : Numbers) → k < i → (get_or hs k d).numbers ≡ changed r (get_or changes k (change.Append 0)) (get_or (numbers_of old) k [])) →
    numbers_of hs ≡ lists_after r changes (numbers_of old)
changed_all r changes hs old i n m l each =
    let none : Numbers = record { numbers = []; room = 0 } in
    let long : length (numbers_of hs) ≡ length hs = length-map hs (λ h. h.numbers) in
    let long' : length (numbers_of old) ≡ length old = length-map old (λ h. h.numbers) in
    sym (table_items (numbers_of hs) []) ∙ ap (λ k. table k (λ j. get_or (numbers_of hs) j [])) (long ∙ n ∙ sym long')
    ∙ table_same (length (numbers_of old)) _ _ (λ k b. get_or-map (λ h. h.numbers) hs k none [] (omega (arith, long')) ∙ each k none (omega (arith, long')))

-- what a list recalls
pub back_value : (lists : List Numbers) (regs : List ℤ) (x d list : ℕ) (h : Numbers) (now ago : ℤ) → list < length lists → h ≡ get_or lists list h →
    now ≡ argument regs x → ago ≡ argument regs d →
    recalled h.numbers now ago ≡ in_lists (numbers_of lists) (argument regs) (step.Back x d list)
back_value lists regs x d list h now ago l e f g =
    ap₂ (recalled h.numbers) f g
    ∙ ap (λ ys. recalled ys (argument regs x) (argument regs d)) (ap (λ z. z.numbers) e ∙ sym (get_or-map (λ h. h.numbers) lists list h [] l))

pub read_value : (lists : List Numbers) (regs : List ℤ) (r list : ℕ) (h : Numbers) (index : ℤ) → list < length lists → h ≡ get_or lists list h →
    index ≡ argument regs r → read_at h.numbers index ≡ in_lists (numbers_of lists) (argument regs) (step.Read r list)
read_value lists regs r list h index l e f =
    ap (read_at h.numbers) f ∙ ap (λ ys. read_at ys (argument regs r)) (ap (λ z. z.numbers) e ∙ sym (get_or-map (λ h. h.numbers) lists list h [] l))

pub write_value : (lists : List Numbers) (regs : List ℤ) (w x r list : ℕ) (h : Numbers) (place number index : ℤ) → list < length lists
    → h ≡ get_or lists list h → place ≡ argument regs w → number ≡ argument regs x → index ≡ argument regs r
    → read_at (written h.numbers place number) index ≡ in_lists (numbers_of lists) (argument regs) (step.Write w x r list)
write_value lists regs w x r list h place number index l e f g k =
    ap (λ z. read_at (written h.numbers z number) index) f ∙ ap₂ (λ y z. read_at (written h.numbers (argument regs w) y) z) g k
    ∙ ap (λ ys. read_at (written ys (argument regs w) (argument regs x)) (argument regs r))
    (ap (λ z. z.numbers) e ∙ sym (get_or-map (λ h. h.numbers) lists list h [] l))
