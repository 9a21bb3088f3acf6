-- Rows of what each signal leads to and reads.
use Rattle.std.proofs.Common.{◌≡◌, inl, inr, ℕ, zero, suc, ◌+◌, ◌<◌, ◌≤◌, List, [], ◌∷◌, ◌++◌, length, take, map, replicate, get_or, refl, sym, ap, ◌∙◌, subst}
use Rattle.std.proofs.Common.{arith, pos}
use Rattle.std.specs.Prelude.{nat_lt, ◌↔◌}
use Rattle.std.proofs.lemmas.Bool.{cases_lt, cond-true, cond-false, lt-ltb, le-ltb}
use Rattle.std.proofs.lemmas.List.{length-map, length_push, get_or_push, get_or_append_left, get_or_past, get_or_default}
use Rattle.std.proofs.lemmas.List.Elements.{All-get_or, All-take}
use mathlib.Core.Path.{fun_ext}
use Rattle.fv_signal.specs.Words.{inputs_of}
use Rattle.fv_signal.specs.declared.signal.Signal.{Signal}
use Rattle.fv_signal.specs.declared.signal.Signal.TheVariants as signal
use Rattle.fv_signal.specs.headline.Value.{Graph, definition, IsOrdered, IsGraph, OperandsBelow, NamesWithin}
use Rattle.fv_components.specs.headline.Reach.{Links, at, Leads, Walk, Reaches}
use Rattle.fv_components.specs.Reach.{next_of, AreLinks}
use Rattle.fv_components.proofs.lemmas.Walks.{reaches_self, reaches_trans, reaches_step}
use Rattle.fv_analysis.specs.headline.Stands.{node, stand}
use Rattle.fv_analysis.proofs.lemmas.StandLemmas.{standing, Itself, Another, stands_well}
use Rattle.fv_split_plan.specs.headline.Separated.{operands, found_from, links_of, ReadsSignal}
use Rattle.fv_split_plan.proofs.lemmas.FitsLemmas.{map_get}
use Rattle.fv_split_lanes.specs.inner.Rows.{reads_of, AreRows}

-- ---- lists

-- each is the same
pub each_same : {A : Type 0} (n s : ℕ) (a : A) → get_or (replicate n a) s a ≡ a
each_same zero s a = refl
each_same (suc n) zero a = refl
each_same (suc n) (suc s) a = each_same n s a

-- ---- one row more

pub rows_none : (f : Links) → AreRows f 0 []
rows_none f = record { long = refl; each = λ s l. absurd (omega arith) }

pub rows_more : (f : Links) (n : ℕ) (rows new : List (List ℕ)) (row : List ℕ) → AreRows f n rows → new ≡ rows ++ row ∷ [] → row ≡ f n → AreRows f (n + 1) new
rows_more f n rows new row h e is = subst (AreRows f (n + 1)) (sym e) record {
  long = omega (arith, length_push rows row, h.long);
  each = λ s l. elim (cases_lt s n) [
    | inl m ↦ get_or_append_left rows (row ∷ []) [] s (omega (arith, h.long)) ∙ h.each s m
    | inr m ↦ let z : s ≡ n = omega arith in get_or_push rows row [] s (h.long ∙ sym z) ∙ is ∙ ap f (sym z)
  ];
}

-- all rows are those of f, which has none after them
pub rows_are : (f : Links) (n : ℕ) (rows : List (List ℕ)) → AreRows f n rows → ((s : ℕ) → n ≤ s → f s ≡ []) → next_of rows ≡ f
rows_are f n rows h none = fun_ext (λ s. elim (cases_lt s n) [
  | inl l ↦ h.each s l
  | inr l ↦ get_or_past rows s [] (omega (arith, h.long)) ∙ sym (none s l)
])

-- ---- links

pub links_are : (g : Graph) (s : ℕ) → s < length g.signals → links_of g s ≡ found_from g (node g s)
links_are g s l = cond-true (nat_lt s (length g.signals)) (found_from g (node g s)) [] (lt-ltb s (length g.signals) l)

pub links_none : (g : Graph) (s : ℕ) → length g.signals ≤ s → links_of g s ≡ []
links_none g s l = cond-false (nat_lt s (length g.signals)) (found_from g (node g s)) [] (le-ltb s (length g.signals) l)

pub reads_are : (g : Graph) (s : ℕ) → s < length g.signals → reads_of g s ≡ map (stand g) (operands (node g s))
reads_are g s l = cond-true (nat_lt s (length g.signals)) (map (stand g) (operands (node g s))) [] (lt-ltb s (length g.signals) l)

pub reads_none : (g : Graph) (s : ℕ) → length g.signals ≤ s → reads_of g s ≡ []
reads_none g s l = cond-false (nat_lt s (length g.signals)) (map (stand g) (operands (node g s))) [] (le-ltb s (length g.signals) l)

-- operands are lower
pub operand_below : (g : Graph) (n : Signal) (q k : ℕ) → OperandsBelow g q n → k < length (operands n) → at (operands n) k < q
operand_below g (signal.Input i) q k b l = absurd (omega arith)
operand_below g (signal.Const i) q k b l = absurd (omega arith)
operand_below g (signal.Control i) q k b l = absurd (omega arith)
operand_below g (signal.Point op args) q k b l = All-get_or (λ a. a < q) (take (inputs_of op) args) k 0 l (All-take (λ a. a < q) (inputs_of op) args b)
operand_below g (signal.Delay x d max) q zero b l = b.0
operand_below g (signal.Delay x d max) q (suc zero) b l = b.1
operand_below g (signal.Delay x d max) q (suc (suc k)) b l = absurd (omega arith)
operand_below g (signal.Back group i) q k b l = absurd (omega arith)
operand_below g (signal.Member group i) q k b l = absurd (omega arith)
operand_below g (signal.Read table r) q zero b l = b
operand_below g (signal.Read table r) q (suc k) b l = absurd (omega arith)
operand_below g (signal.Write table w x r) q zero b l = b.0
operand_below g (signal.Write table w x r) q (suc zero) b l = b.1
operand_below g (signal.Write table w x r) q (suc (suc zero)) b l = b.2
operand_below g (signal.Write table w x r) q (suc (suc (suc k))) b l = absurd (omega arith)

-- what a row leads to is what its signal reads
pub leads_read : (g : Graph) (q s : ℕ) → (Leads (reads_of g) q s) ↔ ReadsSignal g q s
leads_read g q s = (to, of)
  where
    at_place : (k : ℕ) → k < length (operands (node g q)) → at (map (stand g) (operands (node g q))) k ≡ stand g (at (operands (node g q)) k)
    at_place k l =
        get_or_default (map (stand g) (operands (node g q))) k 0 (stand g 0) (omega (arith, length-map (operands (node g q)) (stand g)))
        ∙ map_get (stand g) (operands (node g q)) k 0

    to : Leads (reads_of g) q s → ReadsSignal g q s
    to h = elim (cases_lt q (length g.signals)) [
      | inl l ↦
          let e = reads_are g q l in
          let w : h.place < length (operands (node g q)) = omega (arith, h.within, ap length e, length-map (operands (node g q)) (stand g)) in
          record { within = l; place = h.place; is_operand = w; is = sym (at_place h.place w) ∙ sym (ap (λ xs. at xs h.place) e) ∙ h.is }
      | inr l ↦ let w = subst (λ xs. h.place < length xs) (reads_none g q l) h.within in absurd (omega arith)
    ]

    of : ReadsSignal g q s → Leads (reads_of g) q s
    of h =
        let e = reads_are g q h.within in
        record {
          place = h.place;
          within = let w = h.is_operand in omega (arith, w, ap length e, length-map (operands (node g q)) (stand g));
          is = ap (λ xs. at xs h.place) e ∙ at_place h.place h.is_operand ∙ h.is;
        }

-- what a signal reads is lower, and so there
pub read_lower : (g : Graph) → IsOrdered g → (q s : ℕ) → ReadsSignal g q s → s < q
read_lower g ordered q s h =
    let b = operand_below g (node g q) q h.place (ordered q (signal.Const (pos 0)) h.within) h.is_operand in
    let w = h.within in
    let l = (stands_well g ordered (length g.signals) (at (operands (node g q)) h.place) (omega arith) (omega (arith, b, w))).below in
    omega (arith, b, l, h.is)

-- what is found from a signal is there
pub found_within : (g : Graph) (n : Signal) (s : ℕ) → s < length g.signals → OperandsBelow g s n → NamesWithin g n → (k : ℕ) → k < length (found_from g n) →
    at (found_from g n) k < length g.signals
found_within g (signal.Input i) s l b w k m = absurd (omega arith)
found_within g (signal.Const i) s l b w k m = absurd (omega arith)
found_within g (signal.Control i) s l b w k m = absurd (omega arith)
found_within g (signal.Point op args) s l b w k m = let h = operand_below g (signal.Point op args) s k b m in omega (arith, h)
found_within g (signal.Delay x d max) s l b w k m = let h = operand_below g (signal.Delay x d max) s k b m in omega (arith, h)
found_within g (signal.Back group i) s l b w zero m = w.2
found_within g (signal.Back group i) s l b w (suc k) m = absurd (omega arith)
found_within g (signal.Member group i) s l b w zero m = w.2
found_within g (signal.Member group i) s l b w (suc k) m = absurd (omega arith)
found_within g (signal.Read table r) s l b w k m = let h = operand_below g (signal.Read table r) s k b m in omega (arith, h)
found_within g (signal.Write table a x r) s l b w k m = let h = operand_below g (signal.Write table a x r) s k b m in omega (arith, h)

pub links_within : (g : Graph) → IsGraph g → AreLinks (links_of g) (length g.signals)
links_within g h a b l step =
    let e = links_are g a l in
    let m = found_within g (node g a) a l (h.ordered a (signal.Const (pos 0)) l) (h.closed a (signal.Const (pos 0)) l) step.place (subst
    (λ xs. step.place < length xs) e step.within) in
    omega (arith, m, ap (λ xs. at xs step.place) e, step.is)

pub reach_within : (next : Links) (n : ℕ) → AreLinks next n → (a b : ℕ) → a < n → Reaches next a b → b < n
reach_within next n links a b l r = along r.steps a l r.walk
  where
    along : (k a : ℕ) → a < n → Walk next a b k → b < n
    along zero a l w = omega (arith, w)
    along (suc k) a l w = along k w.0 (links a w.0 l w.1) w.2

-- ---- what a signal reads, it reaches

-- what stands among the links
found : (g : Graph) (s k x : ℕ) → s < length g.signals → k < length (found_from g (node g s)) → at (found_from g (node g s)) k ≡ x → Leads (links_of g) s x
found g s k x l m e = record { place = k; within = subst (λ xs. k < length xs) (sym (links_are g s l)) m; is = ap (λ xs. at xs k) (links_are g s l) ∙ e }

-- a signal reaches what it stands for
pub stand_reached : (g : Graph) → IsOrdered g → (n s : ℕ) → n ≤ length g.signals → s < n → Reaches (links_of g) s (stand g s)
stand_reached g ordered zero s m l = absurd (omega arith)
stand_reached g ordered (suc n) s m l = elim (cases_lt s n) [
  | inl k ↦ stand_reached g ordered n s (omega arith) k
  | inr k ↦ let z : n ≡ s = omega arith in subst (λ x. Reaches (links_of g) x (stand g x)) z (elim (standing g ordered n (omega arith)) [
    | Itself k e ↦ subst (Reaches (links_of g) n) (sym e) (reaches_self (links_of g) n)
    | Another group i e b f ↦
        let step = found g n 0 (definition g group i) (omega arith) (subst (λ y. 0 < length (found_from g y)) (sym e) (omega arith)) (ap (λ y. at
        (found_from g y) 0) e) in
        subst (Reaches (links_of g) n) (sym f) (reaches_trans (reaches_step step) (stand_reached g ordered n (definition g group i) (omega arith) b))
  ])
]

-- an operand is found in one step
operand_found : (g : Graph) (n : Signal) (k : ℕ) → k < length (operands n) → (k < length (found_from g n)) × (at (found_from g n) k ≡ at (operands n) k)
operand_found g (signal.Input i) k l = absurd (omega arith)
operand_found g (signal.Const i) k l = absurd (omega arith)
operand_found g (signal.Control i) k l = absurd (omega arith)
operand_found g (signal.Point op args) k l = (l, refl)
operand_found g (signal.Delay x d max) k l = (l, refl)
operand_found g (signal.Back group i) k l = absurd (omega arith)
operand_found g (signal.Member group i) k l = absurd (omega arith)
operand_found g (signal.Read table r) k l = (l, refl)
operand_found g (signal.Write table w x r) k l = (l, refl)

pub reads_reach : (g : Graph) → IsOrdered g → (q s : ℕ) → ReadsSignal g q s → Reaches (links_of g) q s
reads_reach g ordered q s r =
    let f = operand_found g (node g q) r.place r.is_operand in
    let o = at (operands (node g q)) r.place in
    let b = operand_below g (node g q) q r.place (ordered q (signal.Const (pos 0)) r.within) r.is_operand in
    let w = r.within in
    subst (Reaches (links_of g) q) r.is
    (reaches_trans (reaches_step (found g q r.place o r.within f.0 f.1)) (stand_reached g ordered (length g.signals) o (omega arith) (omega (arith, b))))

-- a walk over what is read is a walk over links
pub all_reach : (g : Graph) → IsOrdered g → (q s : ℕ) → Reaches (reads_of g) q s → Reaches (links_of g) q s
all_reach g ordered q s r = along r.steps q r.walk
  where
    along : (n q : ℕ) → Walk (reads_of g) q s n → Reaches (links_of g) q s
    along zero q w = subst (Reaches (links_of g) q) w (reaches_self (links_of g) q)
    along (suc n) q w = reaches_trans (reads_reach g ordered q w.0 ((leads_read g q w.0).0 w.1)) (along n w.0 w.2)

-- a Back reaches what its definition stands for
pub back_reaches : (g : Graph) → IsGraph g → (s group i : ℕ) → s < length g.signals → node g s ≡ signal.Back group i →
    Reaches (links_of g) s (stand g (definition g group i))
back_reaches g h s group i l e =
    let w = subst (NamesWithin g) e (h.closed s (signal.Const (pos 0)) l) in
    let step = found g s 0 (definition g group i) l (subst (λ y. 0 < length (found_from g y)) (sym e) (omega arith)) (ap (λ y. at (found_from g y) 0) e) in
    reaches_trans (reaches_step step) (stand_reached g h.ordered (length g.signals) (definition g group i) (omega arith) w.2)
