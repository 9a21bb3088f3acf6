-- A graph that is put after others: its groups, which are opened before and closed after it.
use Rattle.std.proofs.Common.{◌≡◌, inl, inr, ℕ, zero, suc, ◌+◌, ◌-◌, ◌<◌, ◌≤◌, ◌^◌, List, [], ◌∷◌, ◌++◌, length}
use Rattle.std.proofs.Common.{map, get_or, All, refl, sym, ap, ap₂, ◌∙◌, subst, arith, pos, true, false, ℤ}
use Rattle.std.proofs.lemmas.Bool.{cases_lt}
use Rattle.std.proofs.lemmas.List.{get_or_append_left, get_or-append_right, get_or_push, length_push, get_or-map, get_or_default, length-map, length-set}
use Rattle.std.proofs.lemmas.List.Elements.{All-get_or, All-from_get_or, All-map}
use Rattle.fv_base.specs.headline.Lists.{IsPrefixOf}
use Rattle.fv_base.specs.headline.Lists.{at}
use Rattle.fv_analysis.specs.headline.Stands.{node}
use Rattle.fv_signal.specs.declared.signal.Signal.{Signal}
use Rattle.fv_signal.specs.declared.signal.Signal.TheVariants.{Input, Const, Control, Point, Delay, Back, Member, Read, Write}
use Rattle.fv_signal.specs.headline.Value.{Graph, members, definition, NamesWithin, IsGraph}
use Rattle.fv_share.specs.Drafts.{Draft, AreClosed, AreOpened, AreShut, BacksWithin, CanClose, IsPending}
use Rattle.fv_share.specs.Drafts.{with_groups, with_tables, with_members, with_all_members}
use Rattle.fv_share.proofs.lemmas.Groups.{groups_stay}
use Rattle.fv_compile.specs.declared.graph_copy.Offsets.{Offsets}
use Rattle.fv_compile.specs.Jobs.{NamesBelow, ReadsWithin}
use Rattle.fv_compile.specs.inner.Copied.{renumbered, definitions_of, offsets_behind, NumbersFit, HaveRoom}
use Rattle.fv_compile.specs.inner.Copied.{AreListed, IsAppended, IsImage, IsOneOf, IsValid, IsUnderWay}
use Rattle.fv_compile.proofs.Images.{at_prefix}

-- ---- numbers

-- a list that has a number is there
listed_there : (tables : List (List ℤ)) (t : ℕ) → 0 < length (get_or tables t []) → t < length tables
listed_there [] t l = absurd (omega (arith, l))
listed_there (T ∷ tables) zero l = omega arith
listed_there (T ∷ tables) (suc t) l = omega (arith, listed_there tables t l)

numbers_fit : (g : Graph) (o : Offsets) (inputs controls : ℕ) (m : Signal) → NamesBelow inputs controls m → NamesWithin g m → o.inputs + inputs < 2 ^ 32
    → o.controls + controls < 2 ^ 32 → o.groups + length g.groups < 2 ^ 64 → o.tables + length g.tables < 2 ^ 64 → NumbersFit o m
numbers_fit g o inputs controls (Input k) b w i c n t = omega (arith, b, i)
numbers_fit g o inputs controls (Const z) b w i c n t = tt
numbers_fit g o inputs controls (Control k) b w i c n t = omega (arith, b, c)
numbers_fit g o inputs controls (Point op args) b w i c n t = tt
numbers_fit g o inputs controls (Delay x d max) b w i c n t = tt
numbers_fit g o inputs controls (Back group k) b w i c n t = let l = w.0 in omega (arith, l, n)
numbers_fit g o inputs controls (Member group k) b w i c n t = let l = w.0 in omega (arith, l, n)
numbers_fit g o inputs controls (Read table r) b w i c n t = let l = listed_there g.tables table w in omega (arith, l, t)
numbers_fit g o inputs controls (Write table a x r) b w i c n t = let l = listed_there g.tables table w in omega (arith, l, t)

pub have_room : (g : Graph) (o : Offsets) (inputs controls : ℕ) → IsGraph g → ReadsWithin inputs controls g → o.inputs + inputs < 2 ^ 32
    → o.controls + controls < 2 ^ 32 → o.groups + length g.groups < 2 ^ 64 → o.tables + length g.tables < 2 ^ 64 → HaveRoom o g
have_room g o inputs controls whole reads i c n t s d l =
    numbers_fit g o inputs controls (get_or g.signals s d) (reads s d l) (whole.closed s d l) i c n t

-- ---- groups that are opened

opened_marked : (d : Draft) → IsValid d → (n : ℕ) → length (with_groups d n).closed ≡ length (with_groups d n).groups
opened_marked d h zero = h.marked
opened_marked d h (suc n) = let q = with_groups d n in omega (arith, length_push q.closed false, length_push q.groups [], opened_marked d h n)

opened : (d : Draft) → IsValid d → (n : ℕ) → AreOpened d (with_groups d n) n
opened d h zero = record {
  long = omega arith;
  signals = refl;
  pending = λ g l. absurd (omega (arith, l));
  fresh = λ g l. absurd (omega (arith, l));
  groups = λ g l. refl;
  closed = λ g l. refl;
}
opened d h (suc n) = let p = opened d h n in let q = with_groups d n in record {
  long = omega (arith, length_push q.groups [], p.long);
  signals = p.signals;
  pending = λ g l. elim (cases_lt g n) [
    | inl m ↦ let r = p.pending g m in (
      omega (arith, length_push q.groups [], r.0),
      get_or_append_left q.closed (false ∷ []) false (length d.groups + g) (omega (arith, opened_marked d h n, r.0)) ∙ r.1,
    )
    | inr m ↦
        let z : length q.closed ≡ length d.groups + g = omega (arith, opened_marked d h n, p.long, l, m) in
        (omega (arith, length_push q.groups [], p.long, l), get_or_push q.closed false false (length d.groups + g) z)
  ];
  fresh = λ g l s k x w e. h.fresh (length d.groups + g) (omega arith) s k x (omega (arith, ap length p.signals, w))
      (ap (λ ss. get_or ss s x) (sym p.signals) ∙ e);
  groups = λ g l. get_or_append_left q.groups ([] ∷ []) [] g (omega (arith, p.long, l)) ∙ p.groups g l;
  closed = λ g l. get_or_append_left q.closed (false ∷ []) false g (omega (arith, opened_marked d h n, p.long, l)) ∙ p.closed g l;
}

closed_marked : (d : Draft) (first : ℕ) (lists : List (List ℕ)) → length d.closed ≡ length d.groups
    → length (with_all_members d first lists).closed ≡ length (with_all_members d first lists).groups
closed_marked d first [] h = h
closed_marked d first (ms ∷ lists) h = closed_marked (with_members d first ms) (suc first) lists
    (length-set d.closed first true ∙ h ∙ sym (length-set d.groups first ms))

-- a draft with these groups more, by their number, and these tables
abbrev pub begun_with : Draft → (groups : ℕ) → List (List ℤ) → Draft
begun_with d n tables = with_tables (with_groups d n) tables

-- the groups that are opened wait, and their numbers are those after the groups before
pub opened_wait : (d new : Draft) (first n : ℕ) (ts : List (List ℤ)) → IsValid d → first ≡ length d.groups → new ≡ begun_with d n ts → (k : ℕ) → k < n
    → IsPending new (first + k)
opened_wait d new first n ts h f e k l =
    subst (λ (q : Draft). IsPending q (first + k)) (sym e)
    (subst (λ a. IsPending (begun_with d n ts) (a + k)) (sym f) ((opened d h n).pending k l))

pub groups_tables : (d : Draft) (n : ℕ) → (with_groups d n).tables ≡ d.tables
groups_tables d zero = refl
groups_tables d (suc n) = groups_tables d n

members_tables : (d : Draft) (first : ℕ) (lists : List (List ℕ)) → (with_all_members d first lists).tables ≡ d.tables
members_tables d first [] = refl
members_tables d first (ms ∷ lists) = members_tables (with_members d first ms) (suc first) lists

-- the tables of a graph after others
pub begun_tables : (d : Draft) (n : ℕ) (ts : List (List ℤ)) → (begun_with d n ts).tables ≡ d.tables ++ ts
begun_tables d n ts = ap (λ us. us ++ ts) (groups_tables d n)

behind_tables : (us ts : List (List ℤ)) (t : ℕ) → get_or (us ++ ts) (length us + t) [] ≡ get_or ts t []
behind_tables us ts t =
    let at_t : (length us + t) - length us ≡ t = omega arith in
    get_or-append_right us ts (length us) (length us + t) [] refl (omega arith) ∙ ap (λ k. get_or ts k []) at_t

pub begun_listed : (g : Graph) (d new : Draft) (first n : ℕ) → first ≡ length d.tables → new ≡ begun_with d n g.tables → AreListed g first new.tables
begun_listed g d new first n f e t l =
    ap (λ (q : Draft). get_or q.tables (first + t) []) e ∙ ap (λ us. get_or us (first + t) []) (begun_tables d n g.tables)
    ∙ ap (λ k. get_or (d.tables ++ g.tables) (k + t) []) f ∙ behind_tables d.tables g.tables t

pub opened_long : (d new : Draft) (first n : ℕ) (ts : List (List ℤ)) → IsValid d → first ≡ length d.groups → new ≡ begun_with d n ts
    → length new.groups ≡ first + n
opened_long d new first n ts h f e = ap (λ (q : Draft). length q.groups) e ∙ (opened d h n).long ∙ ap (λ a. a + n) (sym f)

-- ---- Backs

-- a Back that a signal is renumbered to
back_named : (p : ℕ → ℕ) (o : Offsets) (m : Signal) (group k : ℕ) → renumbered p o m ≡ Back group k → (own : ℕ) × (o.groups + own ≡ group) × (m ≡ Back own k)
back_named p o (Back own j) group k e =
    let a : o.groups + own ≡ group = cc in
    let b : j ≡ k = cc in (own, a, ap (Back own) b)
back_named p o (Input j) group k e = absurd cc
back_named p o (Const j) group k e = absurd cc
back_named p o (Control j) group k e = absurd cc
back_named p o (Point op args) group k e = absurd cc
back_named p o (Delay x d max) group k e = absurd cc
back_named p o (Member own j) group k e = absurd cc
back_named p o (Read table r) group k e = absurd cc
back_named p o (Write table w x r) group k e = absurd cc

-- the group and the member that it names are there
back_within : (g : Graph) (o : Offsets) (m : Signal) (group k : ℕ) → IsGraph g → IsOneOf g o (length g.signals) m → m ≡ Back group k
    → (own : ℕ) × (o.groups + own ≡ group) × (own < length g.groups) × (k < length (members g own))
back_within g o m group k whole h e =
    let b = back_named h.images o (node g h.place) group k (sym h.is ∙ e) in
    let w = subst (NamesWithin g) b.2 (whole.closed h.place (Const (pos 0)) h.within) in
    (b.0, b.1, w.0, w.1)

module _ (g : Graph) (o : Offsets) (old d : Draft) (images : List ℕ) (valid : IsValid old) (first : o.groups ≡ length old.groups)
    (first_table : o.tables ≡ length old.tables)
    (h : IsUnderWay g o (length g.signals) (begun_with old (length g.groups) g.tables) d images) where
  abbrev count : ℕ
  count = length g.groups

  abbrev begun : Draft
  begun = begun_with old count g.tables

  abbrev lists : List (List ℕ)
  lists = definitions_of g (at images)

  abbrev new : Draft
  new = with_all_members d o.groups lists

  opens : AreOpened old begun count
  opens = let p = opened old valid count in
      record { long = p.long; signals = p.signals; pending = p.pending; fresh = p.fresh; groups = p.groups; closed = p.closed }

  lists_long : length lists ≡ count
  lists_long = length-map g.groups (λ ms. map (at images) ms)

  list_is : (k : ℕ) → k < count → get_or lists k [] ≡ map (at images) (members g k)
  list_is k l = get_or-map (λ ms. map (at images) ms) g.groups k [] [] l

  image_there : (s : ℕ) → s < length g.signals → at images s < length d.signals
  image_there s l = All-get_or (λ a. a < length d.signals) images s 0 (omega (arith, l, h.long)) h.there

  old_first : (x : Signal) (s : ℕ) → s < length old.signals → get_or d.signals s x ≡ get_or old.signals s x
  old_first x s l = at_prefix begun.signals d.signals s x h.grows (omega (arith, l, ap length opens.signals)) ∙ ap (λ ss. get_or ss s x) opens.signals

  pending : (k : ℕ) → k < count → IsPending d (o.groups + k)
  pending k l =
      let p = subst (λ a. IsPending begun (a + k)) (sym first) (opens.pending k l) in
      (subst (λ gs. o.groups + k < length gs) (sym h.groups) p.0, ap (λ cs. get_or cs (o.groups + k) false) h.closed ∙ p.1)

  backs : (k : ℕ) → k < count → BacksWithin d (o.groups + k) (length (members g k))
  backs k l s j x m e = elim (cases_lt s (length old.signals)) [
    | inl a ↦ absurd (
        let none = valid.fresh (o.groups + k) (omega (arith, first)) s j x a (sym (old_first x s a) ∙ e) in
        omega (arith, none)
        )
    | inr a ↦
        let one = h.made s (omega (arith, a, ap length opens.signals)) m in
        let b = back_within g o (get_or d.signals s (Const (pos 0))) (o.groups + k) j h.whole one (get_or_default d.signals s (Const (pos 0)) x m ∙ e) in
        let same : b.0 ≡ k = let z = b.1 in omega (arith, z) in
        subst (λ i. j < length (members g i)) same b.3
  ]

  pub can_close : CanClose d o.groups lists
  can_close = record {
    pending = λ k l. pending k (omega (arith, l, lists_long));
    members = λ k l. let m : k < count = omega (arith, l, lists_long) in
        subst (All (λ s. s < length d.signals)) (sym (list_is k m))
        (All-map (λ s. s < length d.signals) (at images) (members g k)
        (All-from_get_or (λ s. at images s < length d.signals) (members g k) 0 (λ i n. image_there (definition g k i) (h.whole.defined k i m n))));
    backs = λ k l. let m : k < count = omega (arith, l, lists_long) in
        subst (λ ms. BacksWithin d (o.groups + k) (length ms)) (sym (list_is k m))
        (subst (BacksWithin d (o.groups + k)) (sym (length-map (members g k) (at images))) (backs k m));
  }

  marked : length d.closed ≡ length d.groups
  marked = ap length h.closed ∙ opened_marked old valid count ∙ sym (ap length h.groups)

  shut : AreShut d new o.groups lists
  shut = (groups_stay d).1 marked o.groups lists (λ k l. pending k (omega (arith, l, lists_long)))

  signals_are : new.signals ≡ d.signals
  signals_are = shut.signals

  many : length new.groups ≡ length old.groups + count
  many = shut.long ∙ ap length h.groups ∙ opens.long

  -- the groups before stay
  before : (k : ℕ) → k < length old.groups → (j : ℕ) → j < length lists → k ≡ o.groups + j → ⊥
  before k l j m e = omega (arith, l, e, first)

  groups_before : (k : ℕ) → k < length old.groups → get_or new.groups k [] ≡ get_or old.groups k []
  groups_before k l = shut.groups k (before k l) ∙ ap (λ gs. get_or gs k []) h.groups ∙ opens.groups k l

  closed_now : AreClosed old → AreClosed new
  closed_now was k l = elim (cases_lt k (length old.groups)) [
    | inl a ↦ shut.closed k (before k a) ∙ ap (λ cs. get_or cs k false) h.closed ∙ opens.closed k a ∙ was k a
    | inr a ↦
        let j = k - o.groups in
        let at_k : o.groups + j ≡ k = omega (arith, a, first) in
        let s = shut.shut j (omega (arith, at_k, l, many, first, lists_long)) in
        subst (λ i. get_or new.closed i false ≡ true) at_k s.1
  ]

  grown : IsPrefixOf old.signals new.signals
  grown = subst (IsPrefixOf old.signals) (sym signals_are) (subst (λ ss. IsPrefixOf ss d.signals) opens.signals h.grows)

  made : (i : ℕ) → length old.signals ≤ i → i < length new.signals → IsOneOf g o (length g.signals) (get_or new.signals i (Const (pos 0)))
  made i l w =
      subst (λ (ss : List Signal). IsOneOf g o (length g.signals) (get_or ss i (Const (pos 0)))) (sym signals_are)
      (h.made i (omega (arith, l, ap length opens.signals)) (omega (arith, w, ap length signals_are)))

  valid_now : IsValid new
  valid_now = record {
    marked = closed_marked d o.groups lists marked;
    fresh = λ k l s j x m e. elim (cases_lt s (length old.signals)) [
      | inl a ↦ valid.fresh k (omega (arith, l, many)) s j x a (sym (at_prefix old.signals new.signals s x grown a) ∙ e)
      | inr a ↦ absurd (
          let b = back_within g o (get_or new.signals s (Const (pos 0))) k j h.whole (made s a m) (get_or_default new.signals s (Const (pos 0)) x m ∙ e) in
          let z = b.1 in
          let y = b.2 in
          omega (arith, z, y, l, many, first)
          )
    ];
  }

  tables_now : new.tables ≡ old.tables ++ g.tables
  tables_now = members_tables d o.groups lists ∙ h.tables ∙ begun_tables old count g.tables

  pub appended : IsAppended g o.inputs o.controls old new (map (at images) g.outputs)
  appended = record {
    whole = h.whole;
    grows = grown;
    more = omega (arith, many);
    groups = groups_before;
    tables = tables_now;
    closed = closed_now;
    valid = valid_now;
    images = at images;
    outputs = refl;
    copied = record {
      there = λ s l. subst (λ ss. at images s < length ss) (sym signals_are) (image_there s l);
      copies = λ s l. subst (λ ss. IsImage g ss (at images) at_first (node g s) (at images s)) (sym signals_are)
          (subst (λ (q : Offsets). IsImage g d.signals (at images) q (node g s) (at images s)) offsets_are (h.copies s l));
      groups = λ k l. omega (arith, l, many);
      definitions = λ group k l m.
          ap (λ a. get_or (get_or new.groups (a + group) []) k 0) (sym first)
          ∙ ap (λ ms. get_or ms k 0) (shut.its group (omega (arith, l, lists_long)) ∙ list_is group l)
          ∙ get_or-map (at images) (members g group) k 0 0 m;
      tables = λ t l. ap (λ ts. get_or ts (length old.tables + t) []) tables_now ∙ behind_tables old.tables g.tables t;
    };
    made = λ i l w. subst (λ (q : Offsets). IsOneOf g q (length g.signals) (get_or new.signals i (Const (pos 0)))) offsets_are (made i l w);
  }
    where
      at_first : Offsets
      at_first = offsets_behind o.inputs o.controls old

      offsets_are : o ≡ at_first
      offsets_are = ap₂ (λ k t. let q : Offsets = record { inputs = o.inputs; controls = o.controls; groups = k; tables = t } in q) first first_table
