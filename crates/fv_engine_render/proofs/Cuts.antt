-- The way to the next change.
use Rattle.std.proofs.Common.{◌≡◌, inl, inr, ℕ, zero, suc, ◌+◌, ◌-◌, ◌<◌, ◌≤◌, List, [], ◌∷◌, ◌++◌, length, min, nat_lt, take, drop, get_or, refl, sym, ap}
use Rattle.std.proofs.Common.{subst, ◌∙◌, arith, lt-ltb, if◌then◌else◌}
use Rattle.std.specs.List.{AllByRecursion}
use Rattle.std.proofs.Math.Seq.{drop-cons}
use Rattle.std.proofs.lemmas.List.{drop_all}
use Rattle.std.proofs.lemmas.Bool.{cases_lt, le-ltb, cond-true, cond-false}
use Rattle.fv_control.specs.declared.script.Change.{Change}
use Rattle.fv_control.specs.Laws.{NeverFall, NoneBetween}
use Rattle.fv_engine_render.specs.headline.Blocks.{AreBlocks, block_at, to_change}
use Rattle.fv_engine_render.specs.Blocks.{AreNext}

-- the bound after a change: the way to it, where it is ahead and nearer
abbrev nearer : Change → (f most : ℕ) → ℕ
nearer c f most = if nat_lt f c.frame then min most (c.frame - f) else most

nearer_ahead : (c : Change) (f most : ℕ) → f < c.frame → nearer c f most ≡ min most (c.frame - f)
nearer_ahead c f most l = cond-true (nat_lt f c.frame) (min most (c.frame - f)) most (lt-ltb f c.frame l)

nearer_come : (c : Change) (f most : ℕ) → c.frame ≤ f → nearer c f most ≡ most
nearer_come c f most l = cond-false (nat_lt f c.frame) (min most (c.frame - f)) most (le-ltb f c.frame l)

-- changes that are no nearer than the bound leave it
far : (cs : List Change) (f most least : ℕ) → NeverFall least cs → f + most ≤ least → to_change cs f most ≡ most
far [] f most least h l = refl
far (c ∷ cs) f most least h l =
    let near = h.0 in
    let rest = far cs f most c.frame h.1 (omega (arith, l, near)) in
    elim (cases_lt f c.frame) [
      | inl k ↦ ap (to_change cs f) (nearer_ahead c f most k ∙ omega (arith, l, near, k)) ∙ rest
      | inr k ↦ ap (to_change cs f) (nearer_come c f most k) ∙ rest
    ]

-- changes that have come do not count
pub come_gone : (cs : List Change) (f n most : ℕ) → AllByRecursion (λ (c : Change). c.frame ≤ f) (take n cs)
    → to_change cs f most ≡ to_change (drop n cs) f most
come_gone cs f zero most h = refl
come_gone [] f (suc n) most h = refl
come_gone (c ∷ cs) f (suc n) most h =
    ap (to_change cs f) (nearer_come c f most h.0) ∙ come_gone cs f n most h.1

-- the changes after a place never fall
pub order_behind : (cs : List Change) (least n : ℕ) → NeverFall least cs → (low : ℕ) × NeverFall low (drop n cs)
order_behind cs least zero h = (least, h)
order_behind [] least (suc n) h = (0, tt)
order_behind (c ∷ cs) least (suc n) h = order_behind cs c.frame n h.1

-- the first of those that have not come is the next one
pub next_is : (c : Change) (cs : List Change) (f most low : ℕ) → f < c.frame → NeverFall low (c ∷ cs) → to_change (c ∷ cs) f most ≡ min most (c.frame - f)
next_is c cs f most low ahead order =
    ap (to_change cs f) (nearer_ahead c f most ahead) ∙ far cs f (min most (c.frame - f)) c.frame order.1 (omega (arith, ahead))

-- one block more
pub one_more : (block total : ℕ) (changes : List Change) (f g : ℕ) (ns : List ℕ) → AreBlocks block total changes f g ns → g < total
    → AreBlocks block total changes f (g + block_at block total changes g) (ns ++ block_at block total changes g ∷ [])
one_more block total changes f g [] h l = (omega (arith, h, l), ap (block_at block total changes) (sym h), ap (λ x. x + block_at block total changes g) h)
one_more block total changes f g (n ∷ ns) h l = (h.0, h.1, one_more block total changes (f + n) g ns h.2 l)

-- ---- the place of the next change

rest_at : (cs : List Change) (n : ℕ) (x : Change) → n < length cs → x ≡ get_or cs n x → drop n cs ≡ x ∷ drop (suc n) cs
rest_at cs n x l e = drop-cons cs n x l ∙ ap (λ (y : Change). y ∷ drop (suc n) cs) (sym e)

-- it has not come
pub ahead : (cs : List Change) (f n : ℕ) (x : Change) → AreNext cs f n → n < length cs → x ≡ get_or cs n x → f < x.frame
ahead cs f n x h l e = (subst (λ (ys : List Change). AllByRecursion (λ (c : Change). f < c.frame) ys) (rest_at cs n x l e) h.behind).0

-- and a block ends there
pub cut_here : (cs : List Change) (f n most : ℕ) (x : Change) → AreNext cs f n → n < length cs → x ≡ get_or cs n x
    → to_change cs f most ≡ min most (x.frame - f)
cut_here cs f n most x h l e =
    let rest = rest_at cs n x l e in
    let o = order_behind cs 0 n h.order in
    come_gone cs f n most h.come ∙ ap (λ (ys : List Change). to_change ys f most) rest
    ∙ next_is x (drop (suc n) cs) f most o.0 (ahead cs f n x h l e) (subst (λ (ys : List Change). NeverFall o.0 ys) rest o.1)

-- there is none
pub cut_nowhere : (cs : List Change) (f n most : ℕ) → AreNext cs f n → length cs ≤ n → to_change cs f most ≡ most
cut_nowhere cs f n most h l = come_gone cs f n most h.come ∙ ap (λ (ys : List Change). to_change ys f most) (drop_all n cs l)

-- ---- no change within a block

to_change_le : (cs : List Change) (f most : ℕ) → to_change cs f most ≤ most
to_change_le [] f most = omega arith
to_change_le (c ∷ cs) f most =
    let k = to_change_le cs f (nearer c f most) in
    elim (cases_lt f c.frame) [
      | inl l ↦ let e = nearer_ahead c f most l in omega (arith, k, e)
      | inr l ↦ let e = nearer_come c f most l in omega (arith, k, e)
    ]

pub none_between : (cs : List Change) (f most u : ℕ) → u < to_change cs f most → NoneBetween f (f + u) cs
none_between [] f most u l = tt
none_between (c ∷ cs) f most u l =
    let k = to_change_le cs f (nearer c f most) in (
      λ h. let e = nearer_ahead c f most h in omega (arith, k, e, l, h),
      none_between cs f (nearer c f most) u l,
    )

-- changes that have come at a frame have come at a later one
pub come_later : (cs : List Change) (f g : ℕ) → f ≤ g → AllByRecursion (λ (c : Change). c.frame ≤ f) cs → AllByRecursion (λ (c : Change). c.frame ≤ g) cs
come_later [] f g l h = tt
come_later (c ∷ cs) f g l h = let k = h.0 in (omega (arith, k, l), come_later cs f g l h.1)
