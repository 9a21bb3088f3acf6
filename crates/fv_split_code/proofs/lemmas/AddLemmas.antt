-- Code with one signal more.
use Rattle.std.proofs.Common.{◌≡◌, ◌≢◌, ◌⊎◌, inl, inr, ℕ, zero, suc, ◌<◌, ◌≤◌, List, [], ◌∷◌, ◌++◌, length, get_or, set, refl, sym, ap, ◌∙◌, subst, arith}
use Rattle.std.proofs.Common.{Bool, true, false}
use Rattle.std.specs.Prelude.{◌&&◌, ◌||◌, nat_lt, nat_eq, Vec, Option, None, Some}
use Rattle.std.specs.declared.alloc.Global.{Global}
use Rattle.std.proofs.lemmas.List.{get_or-set_same, get_or-set_other}
use Rattle.std.proofs.lemmas.Bool.{and_right, cases_lt, cases_eq, eq-eqb, ne_eqb, le-ltb}
use Rattle.fv_signal.specs.declared.signal.Signal.{Signal}
use Rattle.fv_signal.specs.headline.Value.{Graph}
use Rattle.fv_split_plan.specs.Reach.{at}
use Rattle.fv_loopcode.specs.declared.step.Step.{Step}
use Rattle.fv_loopcode.specs.declared.step.Step.TheVariants as step
use Rattle.fv_loopcode.specs.headline.Obeys.{Roles, Place, OfLane, OfCells, nothing, with_place}
use Rattle.fv_split_code.specs.declared.kind.Kind.{Kind}
use Rattle.fv_split_code.specs.declared.kind.Kind.TheVariants as kind
use Rattle.fv_analysis.specs.headline.Stands.{StandsAt}
use Rattle.fv_split_plan.specs.headline.Fits.{Names}
use Rattle.fv_split_plan.specs.Fits.{Mean, Value, mean_at}
use Rattle.fv_split_code.specs.Emits.{Serves, KindFits, IsKnown, IsLoaded, kind_of, owned_by, MeansNow}
use Rattle.fv_split_code.proofs.StepLemmas.{serves_push, fits_whole}
use Rattle.fv_split_code.specs.declared.survey.Survey.{Survey}
use Rattle.fv_split_plan.specs.headline.Separated.{IsComputed}
use Rattle.fv_split_plan.specs.Separated.{lane_at, cells_at}
use Rattle.fv_split_code.specs.Emitted.{EndedAre, signal_of, with_cells, known_at, IsBase, Suits, ComputesAt, OwnNow, ServesUpTo, with_append, AddsNow}
use Rattle.fv_split_code.specs.Emitted.{code_in, AllServe, AreCodes}
use Rattle.fv_split_code.proofs.ComputeLemmas.{known_yes, known_not}

-- what it says that a signal is known
pub data Knowing (homes : List ℕ) (j s q : ℕ) : Type 0 where
  Yes : q < s → at homes q ≡ j → known_at homes j s q ≡ true → Knowing homes j s q
  Later : s ≤ q → known_at homes j s q ≡ false → Knowing homes j s q
  Elsewhere : at homes q ≢ j → known_at homes j s q ≡ false → Knowing homes j s q

pub knowing : (homes : List ℕ) (j s q : ℕ) → Knowing homes j s q
knowing homes j s q = elim (cases_eq (at homes q) j) [
  | inl e ↦ elim (cases_lt q s) [
    | inl l ↦ Yes l e (known_yes homes j s q l e)
    | inr l ↦ Later (omega arith) (ap (λ b. b && nat_eq (at homes q) j) (not_lower (omega arith)))
  ]
  | inr e ↦ Elsewhere e (and_right (nat_lt q s) (nat_eq (at homes q) j) (ne_eqb (at homes q) j e))
]
  where
    not_lower : s ≤ q → nat_lt q s ≡ false
    not_lower l = le-ltb q s l

-- one signal more changes what is known of itself alone
pub known_more : (homes : List ℕ) (j s q : ℕ) → (q ≢ s) ⊎ (at homes s ≢ j) → known_at homes j (suc s) q ≡ known_at homes j s q
known_more homes j s q h = elim (knowing homes j s q) [
  | Yes l e y ↦ known_yes homes j (suc s) q (omega arith) e ∙ sym y
  | Later l n ↦ elim (knowing homes j (suc s) q) [
    | Yes m e y ↦ absurd (elim h [ inl d ↦ d (omega arith) | inr d ↦ (let z : q ≡ s = omega arith in d (ap (at homes) (sym z) ∙ e)) ])
    | Later m k ↦ k ∙ sym n
    | Elsewhere e k ↦ k ∙ sym n
  ]
  | Elsewhere d n ↦ elim (knowing homes j (suc s) q) [
    | Yes m e y ↦ absurd (d e)
    | Later m k ↦ k ∙ sym n
    | Elsewhere e k ↦ k ∙ sym n
  ]
]

-- a register that is written, of a signal that was not known
pub serves_more : (g : Graph) (p : Names) (r : Roles) (homes regs : List ℕ) (j s w : ℕ) (steps : List Step) (means : List Mean) (ended : Place → Bool) →
    s < length regs →
    (at homes s ≡ j → (w < length means) × (mean_at means w ≡ Value s)) →
    Serves g p r (known_at homes j s) regs steps means ended → Serves g p r (known_at homes j (suc s)) (set regs s w) steps means ended
serves_more g p r homes regs j s w steps means ended l here h = record { fits = h.fits; there = there }
  where
    old : (q : ℕ) → q ≢ s → known_at homes j s q ≡ true → (at (set regs s w) q < length means) × (mean_at means (at (set regs s w) q) ≡ Value q)
    old q n y = subst (λ v. (v < length means) × (mean_at means v ≡ Value q)) (sym (get_or-set_other regs s q w 0 n)) (h.there q y)

    new : (q : ℕ) → q ≡ s → at homes q ≡ j → (at (set regs s w) q < length means) × (mean_at means (at (set regs s w) q) ≡ Value q)
    new q e y =
        let z : at (set regs s w) q ≡ w = ap (at (set regs s w)) e ∙ get_or-set_same regs s w 0 l in
        let k = here (ap (at homes) (sym e) ∙ y) in
        subst (λ v. (v < length means) × (mean_at means v ≡ Value q)) (sym z) (k.0, k.1 ∙ ap Value (sym e))

    there : (q : ℕ) → known_at homes j (suc s) q ≡ true → (at (set regs s w) q < length means) × (mean_at means (at (set regs s w) q) ≡ Value q)
    there q y = elim (knowing homes j (suc s) q) [
      | Yes m e k ↦ elim (cases_eq q s) [
        | inl z ↦ new q z e
        | inr z ↦ old q z (known_yes homes j s q (omega arith) e)
      ]
      | Later m k ↦ absurd (let z = sym k ∙ y in cc)
      | Elsewhere e k ↦ absurd (let z = sym k ∙ y in cc)
    ]

-- a signal of another loop
pub serves_other : (g : Graph) (p : Names) (r : Roles) (t : Survey) (regs : List ℕ) (j s w : ℕ) (steps : List Step) → s < length regs → at t.homes.items s ≢ j →
    ServesUpTo g p r t j s regs steps → ServesUpTo g p r t j (suc s) (set regs s w) steps
serves_other g p r t regs j s w steps l n h = (
  h.0,
  h.1,
  serves_more g p r t.homes.items regs j s w steps h.0 h.1 l (λ e. absurd (n e)) h.2,
  λ q o. h.3 q o ∙ sym (known_more t.homes.items j s (signal_of p q) (inr n)),
)

-- a signal that is at home in no loop
pub serves_none : (g : Graph) (p : Names) (r : Roles) (t : Survey) (regs : List ℕ) (j s : ℕ) (steps : List Step) → at t.homes.items s ≢ j →
    ServesUpTo g p r t j s regs steps → ServesUpTo g p r t j (suc s) regs steps
serves_none g p r t regs j s steps n h = (
  h.0,
  h.1,
  record { fits = h.2.fits; there = λ q y. h.2.there q (sym (known_more t.homes.items j s q (inr n)) ∙ y) },
  λ q o. h.3 q o ∙ sym (known_more t.homes.items j s (signal_of p q) (inr n)),
)

some_same : {l m : ℕ} → Some l ≡ Some m → l ≡ m
some_same {l} {m} e = cc

-- ---- which places were changed

-- whether the place of a number was changed, where that of this number is changed too, if it is one
abbrev pub marked : Option ℕ → (l : ℕ) → Bool → Bool
marked None l was = was
marked (Some m) l was = nat_eq l m || was

-- One signal more: of the places of one kind, just that of the signal is changed, if it has one.
module _ (homes : List ℕ) (j s : ℕ) (home : at homes s ≡ j) (places : ℕ → Option ℕ) (name : ℕ → ℕ) where
  -- whether place l was changed
  record IsPlace (l : ℕ) (was : Bool) : Type 0 where
    has : places (name l) ≡ Some l
    same : was ≡ known_at homes j s (name l)
    here : (m : ℕ) → places s ≡ Some m → name m ≡ s

  marked_more : (k : Option ℕ) (l : ℕ) (was : Bool) → k ≡ places s → IsPlace l was → marked k l was ≡ known_at homes j (suc s) (name l)
  marked_more None l was e h =
      h.same ∙ sym (known_more homes j s (name l) (inl (λ z. let y = e ∙ ap places (sym z) ∙ h.has in cc)))
  marked_more (Some m) l was e h = elim (cases_eq l m) [
    | inl z ↦
        ap (λ b. b || was) (eq-eqb l m z)
        ∙ sym (ap (known_at homes j (suc s)) (ap name z ∙ h.here m (sym e)) ∙ known_yes homes j (suc s) s (omega arith) home)
    | inr z ↦
        ap (λ b. b || was) (ne_eqb l m z) ∙ h.same
        ∙ sym (known_more homes j s (name l) (inl (λ y. z (some_same (sym h.has ∙ ap places y ∙ sym e)))))
  ]

-- the places after a signal's own step, and after its append
abbrev pub with_lane : Option ℕ → (Place → Bool) → Place → Bool
with_lane None ended = ended
with_lane (Some l) ended = with_place (OfLane l) ended

lane_marked : (k c : Option ℕ) (ended : Place → Bool) (l : ℕ) → with_lane k (with_cells c ended) (OfLane l) ≡ marked k l (ended (OfLane l))
lane_marked None None ended l = refl
lane_marked None (Some c) ended l = refl
lane_marked (Some m) None ended l = refl
lane_marked (Some m) (Some c) ended l = refl

cells_marked : (k c : Option ℕ) (ended : Place → Bool) (n : ℕ) → with_lane k (with_cells c ended) (OfCells n) ≡ marked c n (ended (OfCells n))
cells_marked None None ended n = refl
cells_marked None (Some c) ended n = refl
cells_marked (Some m) None ended n = refl
cells_marked (Some m) (Some c) ended n = refl

ended_more : (g : Graph) (p : Names) (r : Roles) (t : Survey) (j s : ℕ) (u : Suits g p r t j) (k : Option ℕ) (ended : Place → Bool) →
    s < length g.signals → at t.homes.items s ≡ j → k ≡ lane_at t.lanes.items s →
    EndedAre p r (known_at t.homes.items j s) ended →
    EndedAre p r (known_at t.homes.items j (suc s)) (with_lane k (with_cells (cells_at t.cells.items s) ended))
ended_more g p r t j s u k ended l home ek h (OfLane m) o =
    lane_marked k (cells_at t.cells.items s) ended m
    ∙ marked_more t.homes.items j s home (lane_at t.lanes.items) p.lane k m (ended (OfLane m)) ek (record {
      has = (u.lanes m o).1;
      same = h (OfLane m) o;
      here = λ q e. (u.lanes_here s q l home e).1;
    })
ended_more g p r t j s u k ended l home ek h (OfCells m) o =
    cells_marked k (cells_at t.cells.items s) ended m
    ∙ marked_more t.homes.items j s home (cells_at t.cells.items) p.cells (cells_at t.cells.items s) m (ended (OfCells m)) refl (record {
      has = (u.cells.own m o).1;
      same = h (OfCells m) o;
      here = λ q e. (u.cells.here s q l home e).1;
    })

-- a lane that is of no known signal was not changed
lane_waits : (c : Option ℕ) (ended : Place → Bool) (l : ℕ) → ended (OfLane l) ≡ false → with_cells c ended (OfLane l) ≡ false
lane_waits None ended l e = e
lane_waits (Some c) ended l e = e

-- a signal's own step, and then its append where it has a lane
pub adds : (t : Survey) (j s : ℕ) (n : Signal) (old_regs new_regs : List ℕ) (old mid new : List Step) (w : ℕ) (k : Option ℕ) → k ≡ lane_at t.lanes.items s →
    OwnNow t old_regs j s old mid n w → new_regs ≡ set old_regs s w → new ≡ with_append mid k w → AddsNow t j s n old_regs old new_regs new
adds t j s n old_regs new_regs old mid new w k ek own er en = ((w, er), λ g p r u n home l h. serve g p r u n home l h)
  where
    serve : (g : Graph) (p : Names) (r : Roles) → Suits g p r t j → StandsAt g s n → at t.homes.items s ≡ j → s < length old_regs →
        ServesUpTo g p r t j s old_regs old → ServesUpTo g p r t j (suc s) new_regs new
    serve g p r u n home l h = subst (λ rs. ServesUpTo g p r t j (suc s) rs new) (sym er) (go k refl)
      where
        changed : Place → Bool
        changed = with_cells (cells_at t.cells.items s) h.1

        x : (more : List Mean) × Serves g p r (known_at t.homes.items j s) old_regs mid (h.0 ++ more) changed × (mean_at (h.0 ++ more) w ≡ Value s)
            × (w < length (h.0 ++ more))
        x = own g p r u n home h.0 h.1 h.2 h.3

        one : Serves g p r (known_at t.homes.items j (suc s)) (set old_regs s w) mid (h.0 ++ x.0) changed
        one = serves_more g p r t.homes.items old_regs j s w mid (h.0 ++ x.0) changed l (λ e. (x.3, x.2)) x.1

        after : (q : Option ℕ) → k ≡ q → EndedAre p r (known_at t.homes.items j (suc s)) (with_lane q changed)
        after q e = ended_more g p r t j s u q h.1 n.within home (sym e ∙ ek) h.3

        go : (q : Option ℕ) → k ≡ q → ServesUpTo g p r t j (suc s) (set old_regs s w) new
        go None e =
            subst (ServesUpTo g p r t j (suc s) (set old_regs s w)) (sym (en ∙ ap (λ a. with_append mid a w) e)) (h.0 ++ x.0, changed, one, after None e)
        go (Some m) e =
            let here = u.lanes_here s m n.within home (sym ek ∙ e) in
            let is : p.lane m ≡ s = here.1 in
            let fresh = h.3 (OfLane m) here.0 ∙ ap (known_at t.homes.items j s) is ∙ known_not t.homes.items j s in
            subst (ServesUpTo g p r t j (suc s) (set old_regs s w)) (sym (en ∙ ap (λ a. with_append mid a w) e)) (
              (h.0 ++ x.0) ++ Value (p.lane m) ∷ [],
              with_place (OfLane m) changed,
              serves_push g p r (known_at t.homes.items j (suc s)) (set old_regs s w) mid (h.0 ++ x.0) changed (step.Append m w) (Value (p.lane m)) one
                  (here.0, lane_waits (cells_at t.cells.items s) h.1 m fresh, x.2 ∙ ap Value (sym is), refl),
              after (Some m) e,
            )

-- the own step of a signal that is computed, and of another one
pub own_computed : (t : Survey) (regs : List ℕ) (j s : ℕ) (old new : List Step) (n : Signal) (w : ℕ) → kind_of t.bases.items s ≡ kind.Inner →
    ComputesAt t regs j s old new n w → OwnNow t regs j s old new n w
own_computed t regs j s old new n w e c g p r u is home = c g p r u is home (subst IsComputed is.is (u.computed s is.within home e))

pub own_other : (t : Survey) (regs : List ℕ) (j s : ℕ) (old new : List Step) (n : Signal) (w : ℕ) (k : Kind) → k ≡ kind_of t.bases.items s → k ≢ kind.Inner →
    MeansNow regs old new s w k (owned_by t.owners.items j) → OwnNow t regs j s old new n w
own_other t regs j s old new n w k e d c g p r u is home means ended h en =
    let x = c g p r (known_at t.homes.items j s) means ended u.own (subst (IsLoaded r) (sym e) (u.base_loaded s is.within home))
    (subst (λ a. KindFits g p a s) (sym e) (u.bases s is.within).0) (go k refl) h in
    (x.0, subst (Serves g p r (known_at t.homes.items j s) regs new (means ++ x.0)) (uncelled (cells_at t.cells.items s) refl) x.1, x.2, x.3)
  where
    uncelled : (o : Option ℕ) → cells_at t.cells.items s ≡ o → ended ≡ with_cells (cells_at t.cells.items s) ended
    uncelled None z = ap (λ o. with_cells o ended) (sym z)
    uncelled (Some m) z = absurd (d (e ∙ (u.cells.only s m is.within z).1))

    go : (q : Kind) → k ≡ q → IsKnown r (known_at t.homes.items j s) k s
    go (kind.Number a) z = subst (λ a. IsKnown r (known_at t.homes.items j s) a s) (sym z) tt
    go (kind.Held a) z = subst (λ a. IsKnown r (known_at t.homes.items j s) a s) (sym z) tt
    go (kind.Lane a) z = absurd (subst IsBase (sym e ∙ z) (u.bases s is.within).1)
    go (kind.Input a) z = subst (λ a. IsKnown r (known_at t.homes.items j s) a s) (sym z) tt
    go (kind.Back a) z = subst (λ a. IsKnown r (known_at t.homes.items j s) a s) (sym z) tt
    go kind.Inner z = absurd (d z)

-- ---- all loops

pub code_set_same : (codes : List (Vec Step Global)) (j : ℕ) (v : Vec Step Global) → j < length codes → code_in (set codes j v) j ≡ v.items
code_set_same [] j v l = absurd (omega arith)
code_set_same (c ∷ cs) zero v l = refl
code_set_same (c ∷ cs) (suc j) v l = code_set_same cs j v (omega arith)

pub code_set_other : (codes : List (Vec Step Global)) (j i : ℕ) (v : Vec Step Global) → i ≢ j → code_in (set codes j v) i ≡ code_in codes i
code_set_other [] j i v n = refl
code_set_other (c ∷ cs) zero zero v n = absurd (n refl)
code_set_other (c ∷ cs) zero (suc i) v n = refl
code_set_other (c ∷ cs) (suc j) zero v n = refl
code_set_other (c ∷ cs) (suc j) (suc i) v n = code_set_other cs j i v (λ e. n (ap suc e))

pub code_read : (codes : List (Vec Step Global)) (j : ℕ) (v : Vec Step Global) → j < length codes → v ≡ get_or codes j v → v.items ≡ code_in codes j
code_read [] j v l e = absurd (omega arith)
code_read (c ∷ cs) zero v l e = ap (λ x. x.items) e
code_read (c ∷ cs) (suc j) v l e = code_read cs j v (omega arith) e

pub all_serve_more : (g : Graph) (t : Survey) (loops s j : ℕ) (regs new_regs : List ℕ) (codes : List (Vec Step Global)) (v : Vec Step Global) (n : Signal) →
    j < loops → length codes ≡ loops → StandsAt g s n → length regs ≡ length g.signals → j ≡ at t.homes.items s →
    AddsNow t j s n regs (code_in codes j) new_regs v.items → AllServe g t loops s regs codes → AllServe g t loops (suc s) new_regs (set codes j v)
all_serve_more g t loops s j regs new_regs codes v n lj lc stands lr ej adds h i li p r u =
    subst (λ rs. ServesUpTo g p r t i (suc s) rs (code_in (set codes j v) i)) (sym adds.0.1) (elim (cases_eq i j) [
      | inl e ↦ subst (λ y. ServesUpTo g p r t y (suc s) (set regs s adds.0.0) (code_in (set codes j v) y)) (sym e) (here (subst (Suits g p r t) e u))
      | inr e ↦
          subst (ServesUpTo g p r t i (suc s) (set regs s adds.0.0)) (sym (code_set_other codes j i v e))
          (serves_other g p r t regs i s adds.0.0 (code_in codes i) below (λ z. e (sym z ∙ sym ej)) (h i li p r u))
    ])
  where
    below : s < length regs
    below = let l = stands.within in omega (arith, lr)

    here : Suits g p r t j → ServesUpTo g p r t j (suc s) (set regs s adds.0.0) (code_in (set codes j v) j)
    here k =
        subst (ServesUpTo g p r t j (suc s) (set regs s adds.0.0)) (sym (code_set_same codes j v (omega (arith, lc))))
        (subst (λ rs. ServesUpTo g p r t j (suc s) rs v.items) adds.0.1 (adds.1 g p r k stands (sym ej) below (h j lj p r k)))

pub all_serve_none : (g : Graph) (t : Survey) (loops s : ℕ) (regs : List ℕ) (codes : List (Vec Step Global)) → loops ≤ at t.homes.items s →
    AllServe g t loops s regs codes → AllServe g t loops (suc s) regs codes
all_serve_none g t loops s regs codes l h j lj p r u = serves_none g p r t regs j s (code_in codes j) (λ e. absurd (omega arith)) (h j lj p r u)

pub all_serve_begins : (g : Graph) (t : Survey) (loops : ℕ) (regs : List ℕ) (codes : List (Vec Step Global)) → ((j : ℕ) → code_in codes j ≡ []) →
    AllServe g t loops 0 regs codes
all_serve_begins g t loops regs codes e j lj p r u = subst (ServesUpTo g p r t j 0 regs) (sym (e j)) (
  [],
  nothing,
  record { fits = (refl, refl); there = λ q y. absurd (let z = none q in let w = sym z ∙ y in cc) },
  λ q o. sym (none (signal_of p q)),
)
  where
    none : (q : ℕ) → known_at t.homes.items j 0 q ≡ false
    none q = elim (knowing t.homes.items j 0 q) [ Yes l e k ↦ absurd (omega arith) | Later l k ↦ k | Elsewhere d k ↦ k ]

-- the signal of each of the loop's own places is at home in it
own_home : (g : Graph) (p : Names) (r : Roles) (t : Survey) (j : ℕ) → Suits g p r t j → (q : Place) → r.own q ≡ true →
    (signal_of p q < length g.signals) × (at t.homes.items (signal_of p q) ≡ j)
own_home g p r t j u (OfLane l) o = let h = u.lanes l o in (h.0, h.2)
own_home g p r t j u (OfCells k) o = let h = u.cells.own k o in (h.0, h.2)

pub all_serve_ends : (g : Graph) (t : Survey) (loops n : ℕ) (regs : List ℕ) (codes : List (Vec Step Global)) → n ≡ length g.signals → length codes ≡ loops →
    AllServe g t loops n regs codes → AreCodes g t loops codes
all_serve_ends g t loops n regs codes en lc h = record {
  long = lc;
  fit = λ j lj p r u.
      let k = h j lj p r u in
      fits_whole g p r nothing [] (code_in codes j) k.0 k.1 k.2.fits
      (λ q o. let h = own_home g p r t j u q o in k.3 q o ∙ known_yes t.homes.items j n (signal_of p q) (omega (arith, en, h.0)) h.1);
}
