-- What holds of all drafts stays so.
use Rattle.std.proofs.Common.{◌≡◌, inl, inr, ℕ, ◌+◌, ◌<◌, ◌≤◌, List, [], ◌∷◌, ◌++◌, length, get_or, zero, suc}
use Rattle.std.proofs.Common.{refl, sym, ap, ◌∙◌, subst, arith, All, true, false, ℤ, w32, FitsSigned}
use Rattle.std.specs.Prelude.{slice_set}
use Rattle.std.proofs.lemmas.Bool.{cases_lt, cases_eq}
use Rattle.std.proofs.lemmas.List.{length_push, get_or_push, get_or_append_left, length-set, get_or-set_same, get_or-set_other}
use Rattle.std.proofs.lemmas.Int.{ints}
use Rattle.std.proofs.lemmas.List.Elements.{All-get_or, All-head, All-tail}
use Rattle.indexmap.specs.IndexSet.{insert_key}
use Rattle.fv_signal.specs.declared.signal.Signal.{Signal}
use Rattle.fv_signal.specs.declared.signal.Signal.TheVariants.{Input, Const, Control, Point, Delay, Back, Member, Read, Write}
use Rattle.fv_signal.specs.headline.Value.{OperandsBelow, NamesWithin, HasNumber, HaveNumbers, IsGraph}
use Rattle.fv_num.specs.headline.Words.{argument}
use Rattle.fv_share.specs.Drafts.{Draft, graph_of, IsShut, IsPending, AreClosed, NamesSoFar, OperandsThere, CanPut}
use Rattle.fv_share.specs.Drafts.{BacksWithin, IsDraft, same, put, with_group, with_members, with_table}
use Rattle.fv_share.proofs.lemmas.Puts.{inserted}

-- ---- one signal more

-- operands and names are a matter of the groups alone
below_same : (d : Draft) (ss : List Signal) (i : ℕ) (s : Signal) → OperandsBelow (graph_of d []) i s
    → OperandsBelow (graph_of (record d { signals = ss }) []) i s
below_same d ss i (Member group k) h = h
below_same d ss i s h = h

names_same : (d : Draft) (ss : List Signal) (s : Signal) → NamesSoFar d s → NamesSoFar (record d { signals = ss }) s
names_same d ss (Member group k) h = h
names_same d ss s h = h

below_there : (d : Draft) (s : Signal) → IsDraft d → CanPut d s → OperandsBelow (graph_of d []) (length d.signals) s
below_there d (Input k) h p = tt
below_there d (Const n) h p = tt
below_there d (Control k) h p = tt
below_there d (Point op args) h p = p.operands
below_there d (Delay x back max) h p = p.operands
below_there d (Back group k) h p = tt
below_there d (Member group k) h p = h.defined group k p.names.0.0 p.names.1
below_there d (Read table r) h p = p.operands
below_there d (Write table w x r) h p = p.operands

pushed_keeps : (d : Draft) (s : Signal) → IsDraft d → CanPut d s → HasNumber s → (ss : List Signal) → ss ≡ d.signals ++ s ∷ [] →
    ((i j : ℕ) (x : Signal) → i < length ss → j < length ss → get_or ss i x ≡ get_or ss j x → i ≡ j) → IsDraft (record d { signals = ss })
pushed_keeps d s h p fits ss e distinct = record {
  distinct = distinct;
  ordered = λ i x l. elim (cases_lt i (length d.signals)) [
    | inl m ↦ subst (OperandsBelow (graph_of (record d { signals = ss }) []) i) (sym (old i x m)) (below_same d ss i _ (h.ordered i x m))
    | inr m ↦ subst (OperandsBelow (graph_of (record d { signals = ss }) []) i) (sym (last i x (at i l m)))
        (below_same d ss i s (subst (λ k. OperandsBelow (graph_of d []) k s) (sym (at i l m)) (below_there d s h p)))
  ];
  named = λ i x l. elim (cases_lt i (length d.signals)) [
    | inl m ↦ subst (NamesSoFar (record d { signals = ss })) (sym (old i x m)) (names_same d ss _ (h.named i x m))
    | inr m ↦ subst (NamesSoFar (record d { signals = ss })) (sym (last i x (at i l m))) (names_same d ss s p.names)
  ];
  defined = λ group i l m. omega (arith, h.defined group i l m, more);
  marked = h.marked;
  numbers = λ i x l. elim (cases_lt i (length d.signals)) [
    | inl m ↦ subst HasNumber (sym (old i x m)) (h.numbers i x m)
    | inr m ↦ subst HasNumber (sym (last i x (at i l m))) fits
  ];
  tables = h.tables;
}
  where
    more : length ss ≡ length d.signals + 1
    more = ap length e ∙ length_push d.signals s

    at : (i : ℕ) → i < length ss → length d.signals ≤ i → i ≡ length d.signals
    at i l m = omega (arith, more)

    old : (i : ℕ) (x : Signal) → i < length d.signals → get_or ss i x ≡ get_or d.signals i x
    old i x m = ap (λ l. get_or l i x) e ∙ get_or_append_left d.signals (s ∷ []) x i m

    last : (i : ℕ) (x : Signal) → i ≡ length d.signals → get_or ss i x ≡ s
    last i x m = ap (λ l. get_or l i x) e ∙ get_or_push d.signals s x i (sym m)

pub put_keeps : (d : Draft) (s : Signal) → IsDraft d → CanPut d s → HasNumber s → IsDraft (put d s).1
put_keeps d s h p fits =
    let r = inserted d.signals s h.distinct in elim r.1 [
      | inl e ↦ subst (λ ss. IsDraft (record d { signals = ss })) (sym e) h
      | inr e ↦ pushed_keeps d s h p fits (insert_key same d.signals s) e r.0
    ]

-- ---- a group more

pub names_group : (d : Draft) (s : Signal) (g k : ℕ) → NamesSoFar d s → s ≡ Back g k → g < length d.groups
names_group d (Back h j) g k n e = let same : h ≡ g = cc in subst (λ i. i < length d.groups) same n.0
names_group d s g k n e = absurd cc

-- no Back names a group that is still to come
pub fresh_group : (d : Draft) → IsDraft d → BacksWithin d (length d.groups) 0
fresh_group d h s k x l e = let there = names_group d (get_or d.signals s x) (length d.groups) k (h.named s x l) e in absurd (omega (arith, there))

-- and it waits for its members
pub pending_group : (d : Draft) → IsDraft d → IsPending (with_group d).1 (length d.groups)
pending_group d h = (omega (arith, length_push d.groups []), get_or_push d.closed false false (length d.groups) h.marked)

-- ---- a group gets its members

module _ (d : Draft) (group : ℕ) (members : List ℕ) (h : IsDraft d) (pending : IsPending d group) where
  not_shut : IsShut d group → ⊥
  not_shut p = let a = p.1 in let b = pending.1 in absurd cc

  other_members : (k : ℕ) → (k ≡ group → ⊥) → get_or (slice_set d.groups group members) k [] ≡ get_or d.groups k []
  other_members k ne = get_or-set_other d.groups group k members [] ne

  its_members : get_or (slice_set d.groups group members) group [] ≡ members
  its_members = get_or-set_same d.groups group members [] pending.0

  shut_before : (k : ℕ) → (k ≡ group → ⊥) → IsShut (with_members d group members) k → IsShut d k
  shut_before k ne p = (omega (arith, p.0, length-set d.groups group members), sym (get_or-set_other d.closed group k true false ne) ∙ p.1)

  shut_after : (k : ℕ) → (k ≡ group → ⊥) → IsShut d k → IsShut (with_members d group members) k
  shut_after k ne p = (omega (arith, p.0, length-set d.groups group members), get_or-set_other d.closed group k true false ne ∙ p.1)

  closed_below : (i : ℕ) (s : Signal) → NamesSoFar d s → OperandsBelow (graph_of d []) i s → OperandsBelow (graph_of (with_members d group members) []) i s
  closed_below i (Member g k) n b = elim (cases_eq g group) [
    | inl e ↦ absurd (not_shut (subst (IsShut d) e n.0))
    | inr ne ↦ subst (λ ms. get_or ms k 0 < i) (sym (other_members g ne)) b
  ]
  closed_below i s n b = b

  closed_names : (s : Signal) → ((k : ℕ) → s ≡ Back group k → k < length members) → NamesSoFar d s → NamesSoFar (with_members d group members) s
  closed_names (Back g k) backs n = (
    omega (arith, n.0, length-set d.groups group members),
    λ p. elim (cases_eq g group) [
      | inl e ↦ subst (λ ms. k < length ms) (sym (ap (λ j. get_or (slice_set d.groups group members) j []) e ∙ its_members)) (backs k (ap (λ j. Back j k) e))
      | inr ne ↦ subst (λ ms. k < length ms) (sym (other_members g ne)) (n.1 (shut_before g ne p))
    ],
  )
  closed_names (Member g k) backs n = elim (cases_eq g group) [
    | inl e ↦ absurd (not_shut (subst (IsShut d) e n.0))
    | inr ne ↦ (shut_after g ne n.0, subst (λ ms. k < length ms) (sym (other_members g ne)) n.1)
  ]
  closed_names s backs n = n

  pub members_keep : All (λ s. s < length d.signals) members → BacksWithin d group (length members) → IsDraft (with_members d group members)
  members_keep there backs = record {
    distinct = h.distinct;
    ordered = λ i x l. closed_below i _ (h.named i x l) (h.ordered i x l);
    named = λ i x l. closed_names _ (λ k e. backs i k x l e) (h.named i x l);
    defined = λ g i l m. elim (cases_eq g group) [
      | inl e ↦
          let at : get_or (slice_set d.groups group members) g [] ≡ members = ap (λ j. get_or (slice_set d.groups group members) j []) e ∙ its_members in
          subst (λ ms. get_or ms i 0 < length d.signals) (sym at) (All-get_or (λ s. s < length d.signals) members i 0 (omega (arith, m, ap length at)) there)
      | inr ne ↦
          subst (λ ms. get_or ms i 0 < length d.signals) (sym (other_members g ne))
          (h.defined g i (omega (arith, l, length-set d.groups group members)) (omega (arith, m, ap length (other_members g ne))))
    ];
    marked = length-set d.closed group true ∙ h.marked ∙ sym (length-set d.groups group members);
    numbers = h.numbers;
    tables = h.tables;
  }

-- ---- a table more

-- a table that is there stays where more come after it
pub tables_stay : (xs ys : List (List ℤ)) (t : ℕ) → 0 < length (get_or xs t []) → get_or (xs ++ ys) t [] ≡ get_or xs t []
tables_stay [] ys t l = absurd (omega arith)
tables_stay (x ∷ xs) ys zero l = refl
tables_stay (x ∷ xs) ys (suc t) l = tables_stay xs ys t l

item_fits : (T : List ℤ) (i : ℕ) → All (λ n. FitsSigned w32 n) T → FitsSigned w32 (argument T i)
item_fits [] i h = omega (arith, ints)
item_fits (x ∷ xs) zero h = All-head (λ n. FitsSigned w32 n) x xs h
item_fits (x ∷ xs) (suc i) h = item_fits xs i (All-tail (λ n. FitsSigned w32 n) x xs h)

one_fits : (T : List ℤ) → All (λ n. FitsSigned w32 n) T → HaveNumbers (T ∷ [])
one_fits T h zero i = item_fits T i h
one_fits T h (suc t) i = omega (arith, ints)

both_fit : (xs ys : List (List ℤ)) → HaveNumbers xs → HaveNumbers ys → HaveNumbers (xs ++ ys)
both_fit [] ys h k t i = k t i
both_fit (x ∷ xs) ys h k zero i = h 0 i
both_fit (x ∷ xs) ys h k (suc t) i = both_fit xs ys (λ u. h (suc u)) k t i

table_names : (d : Draft) (T : List ℤ) (s : Signal) → NamesSoFar d s → NamesSoFar (with_table d T) s
table_names d T (Read table r) n = subst (λ xs. 0 < length xs) (sym (tables_stay d.tables (T ∷ []) table n)) n
table_names d T (Write table w x r) n = subst (λ xs. 0 < length xs) (sym (tables_stay d.tables (T ∷ []) table n)) n
table_names d T (Member group k) n = n
table_names d T s n = n

table_below : (d : Draft) (T : List ℤ) (i : ℕ) (s : Signal) → OperandsBelow (graph_of d []) i s → OperandsBelow (graph_of (with_table d T) []) i s
table_below d T i (Member group k) h = h
table_below d T i s h = h

pub table_keeps : (d : Draft) (T : List ℤ) → IsDraft d → All (λ n. FitsSigned w32 n) T → IsDraft (with_table d T)
table_keeps d T h fits = record {
  distinct = h.distinct;
  ordered = λ i x l. table_below d T i _ (h.ordered i x l);
  named = λ i x l. table_names d T _ (h.named i x l);
  defined = h.defined;
  marked = h.marked;
  numbers = h.numbers;
  tables = both_fit d.tables (T ∷ []) h.tables (one_fits T fits);
}

-- ---- a graph

graph_names : (d : Draft) (outs : List ℕ) (s : Signal) → IsDraft d → AreClosed d → NamesSoFar d s → NamesWithin (graph_of d outs) s
graph_names d outs (Back g k) h shut n = let m = n.1 (n.0, shut g n.0) in (n.0, m, h.defined g k n.0 m)
graph_names d outs (Member g k) h shut n = (n.0.0, n.1, h.defined g k n.0.0 n.1)
graph_names d outs (Read table r) h shut n = n
graph_names d outs (Write table w x r) h shut n = n
graph_names d outs s h shut n = tt

graph_below : (d : Draft) (outs : List ℕ) (i : ℕ) (s : Signal) → OperandsBelow (graph_of d []) i s → OperandsBelow (graph_of d outs) i s
graph_below d outs i (Member group k) h = h
graph_below d outs i s h = h

pub finished : (d : Draft) (outs : List ℕ) → IsDraft d → AreClosed d → All (λ s. s < length d.signals) outs → IsGraph (graph_of d outs)
finished d outs h shut there = record {
  ordered = λ i x l. graph_below d outs i _ (h.ordered i x l);
  closed = λ i x l. graph_names d outs _ h shut (h.named i x l);
  defined = h.defined;
  outputs = λ j l. All-get_or (λ s. s < length d.signals) outs j 0 l there;
  numbers = h.numbers;
  tables = h.tables;
}

-- a group that was given its members is shut
pub shut_group : (d : Draft) (group : ℕ) (members : List ℕ) → IsDraft d → IsPending d group → IsShut (with_members d group members) group
shut_group d group members h p = (
  omega (arith, p.0, length-set d.groups group members),
  get_or-set_same d.closed group true false (omega (arith, h.marked, p.0)),
)

-- the operands of a signal that was put are earlier ones
pub earlier : (d : Draft) (i : ℕ) (s : Signal) → OperandsBelow (graph_of d []) i s → OperandsThere i s
earlier d i (Input k) h = tt
earlier d i (Const n) h = tt
earlier d i (Control k) h = tt
earlier d i (Point op args) h = h
earlier d i (Delay x back max) h = h
earlier d i (Back group k) h = tt
earlier d i (Member group k) h = tt
earlier d i (Read table r) h = h
earlier d i (Write table w x r) h = h
