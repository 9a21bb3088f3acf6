-- Cells, signal by signal, and tables that are copied.
use Rattle.std.proofs.Common.{◌≡◌, inl, inr, ℕ, zero, suc, ◌+◌, ◌<◌, ◌≤◌, List, [], ◌∷◌, ◌++◌, length, take, get_or, refl, sym, ap, ◌∙◌, subst, arith, ℤ}
use Rattle.std.specs.Prelude.{Option, None, Some, Vec}
use Rattle.std.specs.declared.alloc.Global.{Global}
use Rattle.std.proofs.lemmas.Bool.{cases_lt}
use Rattle.std.proofs.lemmas.List.{length_push, get_or_push, get_or_append_left, map_push, take_more}
use Rattle.fv_signal.specs.declared.signal.Signal.{Signal}
use Rattle.fv_signal.specs.declared.signal.Signal.TheVariants as signal
use Rattle.fv_signal.specs.headline.Value.{Graph}
use Rattle.fv_components.specs.headline.Reach.{at}
use Rattle.fv_analysis.specs.headline.Stands.{node}
use Rattle.fv_split_plan.specs.declared.lane.CellsInfo.{CellsInfo}
use Rattle.fv_split_plan.specs.Separated.{IsWritten, cells_at}
use Rattle.fv_split_plan.specs.Rows.{lists_of}
use Rattle.fv_split.specs.declared.cells.Cells.{Cells}
use Rattle.fv_split.specs.inner.Cells.{table_written, AddsCells, info_at, AreOf, AreCells}

-- a node that writes this table
written_table : (n : Signal) (table : ℕ) → table_written n ≡ Some table → (w x r : ℕ) × (n ≡ signal.Write table w x r)
written_table (signal.Input i) table e = absurd cc
written_table (signal.Const i) table e = absurd cc
written_table (signal.Control i) table e = absurd cc
written_table (signal.Point op args) table e = absurd cc
written_table (signal.Delay x d max) table e = absurd cc
written_table (signal.Back group i) table e = absurd cc
written_table (signal.Member group i) table e = absurd cc
written_table (signal.Read t r) table e = absurd cc
written_table (signal.Write t w x r) table e = (w, x, r, ap (λ t. signal.Write t w x r) (let z : t ≡ table = cc in z))

-- one that writes none
not_written : (n : Signal) → table_written n ≡ None → IsWritten n → ⊥
not_written (signal.Input i) e h = h
not_written (signal.Const i) e h = h
not_written (signal.Control i) e h = h
not_written (signal.Point op args) e h = h
not_written (signal.Delay x d max) e h = h
not_written (signal.Back group i) e h = h
not_written (signal.Member group i) e h = h
not_written (signal.Read t r) e h = h
not_written (signal.Write t w x r) e h = cc

some_is : {a b : ℕ} → Some a ≡ Some b → a ≡ b
some_is {a} {b} e = cc

pub cells_begin : (g : Graph) (homes : List ℕ) (cells : Cells) → cells.numbers.items ≡ [] → cells.infos.items ≡ [] → AreCells g homes 0 cells
cells_begin g homes cells en ei = record {
  signals = [];
  long = ap length en;
  counted = ap length ei;
  has = λ s k e. absurd (let z = sym (ap (λ xs. cells_at xs s) en) ∙ e in cc);
  named = λ k l. absurd (omega arith);
  all = λ s l w. absurd (omega arith);
  are = λ k l. absurd (omega arith);
}

module _ (g : Graph) (homes : List ℕ) (n : ℕ) (old new : Cells) (h : AreCells g homes n old) where
  abbrev numbers : List (Option ℕ)
  numbers = old.numbers.items

  -- the number of an earlier signal, of the next one, and of none
  module _ (o : Option ℕ) (e : new.numbers.items ≡ numbers ++ o ∷ []) where
    earlier : (s : ℕ) → s < n → cells_at new.numbers.items s ≡ cells_at numbers s
    earlier s l = ap (λ xs. cells_at xs s) e ∙ get_or_append_left numbers (o ∷ []) None s (omega (arith, h.long))

    last : cells_at new.numbers.items n ≡ o
    last = ap (λ xs. cells_at xs n) e ∙ get_or_push numbers o None n h.long

    later : (xs : List (Option ℕ)) (s : ℕ) → length xs ≤ s → cells_at xs s ≡ None
    later [] s l = refl
    later (x ∷ xs) zero l = absurd (omega arith)
    later (x ∷ xs) (suc s) l = later xs s (omega arith)

    longer : length new.numbers.items ≡ n + 1
    longer = omega (arith, ap length e, length_push numbers o, h.long)

    -- which signal has a number
    which : (P : ℕ → Type 0) → P n → ((s : ℕ) → s < n → P s) → ((s : ℕ) → n < s → P s) → (s : ℕ) → P s
    which P here before behind s = elim (cases_lt s n) [
      | inl l ↦ before s l
      | inr l ↦ elim (cases_lt n s) [ inl m ↦ behind s m | inr m ↦ let z : n ≡ s = omega arith in subst P z here ]
    ]

  more_none : table_written (node g n) ≡ None → new.numbers.items ≡ numbers ++ None ∷ [] → new.infos.items ≡ old.infos.items → AreCells g homes (n + 1) new
  more_none w e f = record {
    signals = h.signals;
    long = longer None e;
    counted = ap length f ∙ h.counted;
    has = which None e (λ s. (k : ℕ) → cells_at new.numbers.items s ≡ Some k → (k < length h.signals) × (at h.signals k ≡ s))
        (λ k z. absurd (let y = sym (last None e) ∙ z in cc))
        (λ s l k z. h.has s k (sym (earlier None e s l) ∙ z))
        (λ s l k z. absurd (let y = sym (later None e new.numbers.items s (omega (arith, longer None e))) ∙ z in cc));
    named = λ k l. let z = h.named k l in (omega (arith, z.0), earlier None e (at h.signals k) z.0 ∙ z.1);
    all = λ s l is. elim (cases_lt s n) [
      | inl m ↦ let z = h.all s m is in (z.0, earlier None e s m ∙ z.1)
      | inr m ↦ let z : s ≡ n = omega arith in absurd (not_written (node g n) w (subst (λ q. IsWritten (node g q)) z is))
    ];
    are = λ k l. subst (λ xs. AreOf g homes (at h.signals k) (info_at xs k)) (sym f) (h.are k l);
  }

  more_own : (table owner : ℕ) → table_written (node g n) ≡ Some table → owner ≡ at homes n →
      new.numbers.items ≡ numbers ++ Some (length old.infos.items) ∷ [] →
      new.infos.items ≡ old.infos.items ++ record { owner = owner; table = table } ∷ [] → AreCells g homes (n + 1) new
  more_own table owner w eo e f = record {
    signals = signals;
    long = longer own e;
    counted = omega (arith, ap length f, length_push old.infos.items (record { owner = owner; table = table }), length_push h.signals n, h.counted);
    has = which own e (λ s. (k : ℕ) → cells_at new.numbers.items s ≡ Some k → (k < length signals) × (at signals k ≡ s))
        (λ k z. let y : length old.infos.items ≡ k = some_is (sym (last own e) ∙ z) in
        (omega (arith, y, h.counted, length_push h.signals n), get_or_push h.signals n 0 k (sym h.counted ∙ y)))
        (λ s l k z. let y = h.has s k (sym (earlier own e s l) ∙ z) in
        (omega (arith, y.0, length_push h.signals n), front k y.0 ∙ y.1))
        (λ s l k z. absurd (let y = sym (later own e new.numbers.items s (omega (arith, longer own e))) ∙ z in cc));
    named = λ k l. elim (cases_lt k (length h.signals)) [
      | inl m ↦ let z = h.named k m in
          (omega (arith, z.0, front k m), ap (cells_at new.numbers.items) (front k m) ∙ earlier own e (at h.signals k) z.0 ∙ z.1)
      | inr m ↦ let y : k ≡ length h.signals = omega (arith, length_push h.signals n) in
          let z : at signals k ≡ n = get_or_push h.signals n 0 k (sym y) in
          (omega (arith, z), ap (cells_at new.numbers.items) z ∙ last own e ∙ ap Some (h.counted ∙ sym y))
    ];
    all = λ s l is. elim (cases_lt s n) [
      | inl m ↦ let z = h.all s m is in (z.0, earlier own e s m ∙ z.1)
      | inr m ↦ let z : s ≡ n = omega arith in (length old.infos.items, ap (cells_at new.numbers.items) z ∙ last own e)
    ];
    are = λ k l. elim (cases_lt k (length h.signals)) [
      | inl m ↦ subst (λ s. AreOf g homes s (info_at new.infos.items k)) (sym (front k m)) (subst (AreOf g homes (at h.signals k))
          (sym (ap (λ xs. info_at xs k) f ∙ get_or_append_left old.infos.items (info ∷ []) (record { owner = 0; table = 0 }) k (omega (arith, h.counted))))
          (h.are k m))
      | inr m ↦ let y : k ≡ length h.signals = omega (arith, length_push h.signals n) in
          subst (λ s. AreOf g homes s (info_at new.infos.items k)) (sym (get_or_push h.signals n 0 k (sym y))) (subst (AreOf g homes n)
          (sym (ap (λ xs. info_at xs k) f ∙ get_or_push old.infos.items info (record { owner = 0; table = 0 }) k (h.counted ∙ sym y)))
          (record { owner = eo; writes = written_table (node g n) table w }))
    ];
  }
    where
      signals : List ℕ
      signals = h.signals ++ n ∷ []

      own : Option ℕ
      own = Some (length old.infos.items)

      info : CellsInfo
      info = record { owner = owner; table = table }

      front : (k : ℕ) → k < length h.signals → at signals k ≡ at h.signals k
      front k m = get_or_append_left h.signals (n ∷ []) 0 k m

  -- one signal more
  pub cells_more : (table : Option ℕ) (owner : ℕ) → table ≡ table_written (node g n) → owner ≡ at homes n → AddsCells old table owner new →
      AreCells g homes (n + 1) new
  cells_more None owner w eo a = more_none (sym w) a.numbers a.infos
  cells_more (Some table) owner w eo a = more_own table owner (sym w) eo a.numbers a.infos

-- one list more
pub lists_more : (rows new : List (Vec ℤ Global)) (v : Vec ℤ Global) (lists : List (List ℤ)) (n : ℕ) → lists_of rows ≡ take n lists → new ≡ rows ++ v ∷ [] →
    n < length lists → v.items ≡ get_or lists n [] → lists_of new ≡ take (n + 1) lists
lists_more rows new v lists n h e l is =
    ap lists_of e ∙ map_push (λ (row : Vec ℤ Global). row.items) rows v ∙ ap (λ xs. xs ++ v.items ∷ []) h
    ∙ ap (λ x. take n lists ++ x ∷ []) is ∙ sym (take_more lists n [] l)
