-- Lists of cells, while they change places with those of their loops.
use Rattle.std.proofs.Common.{◌≡◌, ◌≢◌, inl, inr, ℕ, ◌+◌, ◌<◌, ◌≤◌, List, [], length, map, set, get_or, refl, sym, ap, ◌∙◌, subst, arith, ℤ}
use Rattle.std.specs.Prelude.{slice_index, Vec}
use Rattle.std.specs.declared.alloc.Global.{Global}
use Rattle.std.specs.Global.{Box}
use Rattle.std.proofs.lemmas.Bool.{cases_eq}
use Rattle.std.proofs.lemmas.List.{length-map, length-set, map-set, get_or-map, get_or-set_same, get_or-set_other}
use Rattle.fv_graph.proofs.lemmas.Counts.{get_set}
use Rattle.fv_loopcode_machine.specs.State.{list_at}
use Rattle.fv_split_plan.specs.headline.View.{PlanView, cells_info}
use Rattle.fv_split_plan.specs.Rows.{lists_of}
use Rattle.fv_engine_codes.specs.Cells.{ArePlaced}
use Rattle.fv_engine_crew.specs.declared.content.Writers.{Writers}
use Rattle.fv_engine_crew.specs.Swapped.{SameButCells, AreSwapped, cells_in, slot}

same_self : (w : Writers) → SameButCells w w
same_self w = record { own = refl; seen = refl; plan = refl; places = refl; loop_no = refl; count = refl; scratch = refl; lists = refl }

same_then : (u v w : Writers) → SameButCells u v → SameButCells v w → SameButCells u w
same_then u v w a b = record {
  own = b.own ∙ a.own;
  seen = b.seen ∙ a.seen;
  plan = b.plan ∙ a.plan;
  places = b.places ∙ a.places;
  loop_no = b.loop_no ∙ a.loop_no;
  count = b.count ∙ a.count;
  scratch = b.scratch ∙ a.scratch;
  lists = b.lists ∙ a.lists;
}

abbrev items_of : Vec ℤ Global → List ℤ
items_of row = row.items

module _ (p : PlanView) (places : List ℕ) where
  abbrev owner : ℕ → ℕ
  owner k = (cells_info p k).owner

  abbrev place : ℕ → ℕ
  place k = slice_index places k

  -- the first n have changed places
  pub record AreSwappedSoFar (n : ℕ) (before lists : List (Vec ℤ Global)) (old new : List (Box Writers)) : Type 0 where
    pub lists_count : length lists ≡ length before
    pub count : length new ≡ length old
    pub taken : (k : ℕ) → k < n → list_at (lists_of lists) k ≡ slot p places old k
    pub given : (k : ℕ) → k < n → slot p places new k ≡ list_at (lists_of before) k
    pub left : (k : ℕ) → n ≤ k → k < length p.cells → list_at (lists_of lists) k ≡ list_at (lists_of before) k
    pub kept : (k : ℕ) → n ≤ k → k < length p.cells → slot p places new k ≡ slot p places old k
    pub rest : (j : ℕ) (d : Box Writers) → j < length old → SameButCells (get_or old j d).value (get_or new j d).value

  pub none_swapped : (before : List (Vec ℤ Global)) (old : List (Box Writers)) → AreSwappedSoFar 0 before before old old
  none_swapped before old = record {
    lists_count = refl;
    count = refl;
    taken = λ k l. absurd (omega arith);
    given = λ k l. absurd (omega arith);
    left = λ k l m. refl;
    kept = λ k l m. refl;
    rest = λ j d l. same_self (get_or old j d).value;
  }

  pub all_swapped : (n : ℕ) (before lists : List (Vec ℤ Global)) (old new : List (Box Writers)) → n ≡ length p.cells
      → AreSwappedSoFar n before lists old new → AreSwapped p places before lists old new
  all_swapped n before lists old new e s = record {
    lists = s.lists_count;
    count = s.count;
    taken = λ k l. s.taken k (omega (arith, l, e));
    given = λ k l. s.given k (omega (arith, l, e));
    rest = s.rest;
  }

  -- one more
  pub record IsOne (n : ℕ) (lists : List (Vec ℤ Global)) (ws : List (Box Writers)) (row : Vec ℤ Global) (w : Box Writers) : Type 0 where
    pub inside : n < length p.cells
    pub there : owner n < length ws
    pub low : n < length lists
    pub room : (d : Box Writers) → place n < length (get_or ws (owner n) d).value.lanes.cells.lists.items
    pub row_is : (d : Box Writers) (e : Vec ℤ Global) → row ≡ get_or (get_or ws (owner n) d).value.lanes.cells.lists.items (place n) e
    pub lists_are : (d : Box Writers) (e : Vec ℤ Global)
        → w.value.lanes.cells.lists.items ≡ set (get_or ws (owner n) d).value.lanes.cells.lists.items (place n) (get_or lists n e)
    pub same : (d : Box Writers) → SameButCells (get_or ws (owner n) d).value w.value

  module _ (counts : List ℕ) (placed : ArePlaced p places counts) (n : ℕ) (lists : List (Vec ℤ Global)) (ws : List (Box Writers))
      (row : Vec ℤ Global) (w : Box Writers) (one : IsOne n lists ws row w) where
    abbrev given_lists : List (Vec ℤ Global)
    given_lists = set lists n row

    abbrev given_writers : List (Box Writers)
    given_writers = set ws (owner n) w

    cells_at : (us : List (Box Writers)) (j : ℕ) (d : Box Writers) → j < length us → get_or (map cells_in us) j [] ≡ cells_in (get_or us j d)
    cells_at us j d l = get_or-map cells_in us j d [] l

    owner_cells : get_or (map cells_in given_writers) (owner n) [] ≡ cells_in w
    owner_cells =
        ap (λ (xs : List (List (List ℤ))). get_or xs (owner n) []) (map-set cells_in ws (owner n) w)
        ∙ get_or-set_same (map cells_in ws) (owner n) (cells_in w) [] (omega (arith, one.there, length-map ws cells_in))

    other_cells : (j : ℕ) → j ≢ owner n → get_or (map cells_in given_writers) j [] ≡ get_or (map cells_in ws) j []
    other_cells j m =
        ap (λ (xs : List (List (List ℤ))). get_or xs j []) (map-set cells_in ws (owner n) w)
        ∙ get_or-set_other (map cells_in ws) (owner n) j (cells_in w) [] m

    -- the lists of its loop
    w_cells : (e : Vec ℤ Global) → cells_in w ≡ set (get_or (map cells_in ws) (owner n) []) (place n) (get_or lists n e).items
    w_cells e =
        ap lists_of (one.lists_are w e)
        ∙ map-set items_of (get_or ws (owner n) w).value.lanes.cells.lists.items (place n) (get_or lists n e)
        ∙ ap (λ (xs : List (List ℤ)). set xs (place n) (get_or lists n e).items) (sym (cells_at ws (owner n) w one.there))

    place_inside : place n < length (get_or (map cells_in ws) (owner n) [])
    place_inside =
        let a = ap length (cells_at ws (owner n) w one.there) in
        let b = length-map (get_or ws (owner n) w).value.lanes.cells.lists.items items_of in
        omega (arith, one.room w, a, b)

    -- its slot has its list
    slot_here : slot p places given_writers n ≡ list_at (lists_of lists) n
    slot_here =
        let d : Vec ℤ Global = row in
        ap (λ (xs : List (List ℤ)). list_at xs (place n)) (owner_cells ∙ w_cells d)
        ∙ get_or-set_same (get_or (map cells_in ws) (owner n) []) (place n) (get_or lists n d).items [] place_inside
        ∙ sym (get_or-map items_of lists n d [] one.low)

    -- other slots stay
    slot_other : (k : ℕ) → k < length p.cells → k ≢ n → slot p places given_writers k ≡ slot p places ws k
    slot_other k l m = elim (cases_eq (owner k) (owner n)) [
      | inl e ↦
          let d : Vec ℤ Global = row in
          let apart : place k ≢ place n = λ q. m (placed.apart k n l one.inside e q) in
          ap (λ (j : ℕ). list_at (get_or (map cells_in given_writers) j []) (place k)) e
          ∙ ap (λ (xs : List (List ℤ)). list_at xs (place k)) (owner_cells ∙ w_cells d)
          ∙ get_or-set_other (get_or (map cells_in ws) (owner n) []) (place n) (place k) (get_or lists n d).items [] apart
          ∙ sym (ap (λ (j : ℕ). list_at (get_or (map cells_in ws) j []) (place k)) e)
      | inr o ↦ ap (λ (xs : List (List ℤ)). list_at xs (place k)) (other_cells (owner k) o)
    ]

    -- the list that was in its slot
    list_here : list_at (lists_of given_lists) n ≡ slot p places ws n
    list_here =
        ap (λ (xs : List (List ℤ)). list_at xs n) (map-set items_of lists n row)
        ∙ get_or-set_same (map items_of lists) n row.items [] (omega (arith, one.low, length-map lists items_of))
        ∙ ap items_of (one.row_is w row)
        ∙ sym (ap (λ (xs : List (List ℤ)). list_at xs (place n)) (cells_at ws (owner n) w one.there)
        ∙ get_or-map items_of (get_or ws (owner n) w).value.lanes.cells.lists.items (place n) row [] (one.room w))

    list_other : (k : ℕ) → k ≢ n → list_at (lists_of given_lists) k ≡ list_at (lists_of lists) k
    list_other k m =
        ap (λ (xs : List (List ℤ)). list_at xs k) (map-set items_of lists n row) ∙ get_or-set_other (map items_of lists) n k row.items [] m

    pub one_swapped : (before : List (Vec ℤ Global)) (old : List (Box Writers)) → AreSwappedSoFar n before lists old ws
        → AreSwappedSoFar (n + 1) before given_lists old given_writers
    one_swapped before old s = record {
      lists_count = length-set lists n row ∙ s.lists_count;
      count = length-set ws (owner n) w ∙ s.count;
      taken = λ k l. elim (cases_eq k n) [
        | inl e ↦ ap (list_at (lists_of given_lists)) e ∙ list_here ∙ s.kept n (omega arith) one.inside ∙ sym (ap (slot p places old) e)
        | inr m ↦ list_other k m ∙ s.taken k (omega (arith, l, m))
      ];
      given = λ k l. elim (cases_eq k n) [
        | inl e ↦ ap (slot p places given_writers) e ∙ slot_here ∙ s.left n (omega arith) one.inside ∙ sym (ap (list_at (lists_of before)) e)
        | inr m ↦ slot_other k (omega (arith, l, one.inside)) m ∙ s.given k (omega (arith, l, m))
      ];
      left = λ k l m. list_other k (λ e. omega (arith, l, e)) ∙ s.left k (omega (arith, l)) m;
      kept = λ k l m. slot_other k m (λ e. omega (arith, l, e)) ∙ s.kept k (omega (arith, l)) m;
      rest = λ j d l.
          get_set (λ (b : Box Writers). SameButCells (get_or old j d).value b.value) ws (owner n) j w d one.there
          (λ same. same_then (get_or old j d).value (get_or ws j d).value w.value (s.rest j d l)
          (subst (λ (i : ℕ). SameButCells (get_or ws i d).value w.value) (sym same) (one.same d)))
          (λ other. s.rest j d l);
    }
