-- What holds of all code, as it grows.
use Rattle.std.proofs.Common.{◌≡◌, ℕ, suc, ◌+◌, ◌<◌, ◌≤◌, List, [], ◌∷◌, ◌++◌, length, sym, ap, ap₂, ◌∙◌, subst, arith, append_assoc, All, pos, inl, inr}
use Rattle.std.specs.Prelude.{slice_set}
use Rattle.std.proofs.lemmas.Bool.{cases_lt}
use Rattle.std.proofs.lemmas.List.{get_or_append_left, get_or_push, length-append}
use Rattle.std.proofs.lemmas.List.Elements.{All-nil, All-cons, All-head, All-tail, All-push, All-weaker, All-set, All-get_or}
use Rattle.fv_num.specs.headline.Frames.{table}
use Rattle.fv_base.proofs.lemmas.Lists.{length_snoc, length_table}
use Rattle.fv_diagram_runner.specs.declared.step.Step.{Step}
use Rattle.fv_diagram_runner.specs.declared.step.Step.TheVariants as step
use Rattle.fv_diagram_runner.specs.declared.step.Change.{Change}
use Rattle.fv_diagram_runner.specs.declared.draft.Loop.{Loop}
use Rattle.std.proofs.Common.{get_or, ℤ, refl}
use Rattle.fv_diagram_runner.specs.declared.step.Change.TheVariants as change
use Rattle.fv_diagram_runner.specs.Steps.{OperandsBelow, ReadsWithin, IsKept, IsBegun, ChangesBelow}
use Rattle.fv_diagram_runner.specs.inner.Code.{Code, IsCode, input_code, put_cell, with_step, with_list, with_cells, written}
use Rattle.fv_diagram.proofs.lemmas.Each.{each_table}

-- the registers of a change, among more
below_more : (n m : ℕ) → n ≤ m → (a : Change) → ChangesBelow n a → ChangesBelow m a
below_more n m l (change.Append w) h = omega (arith, l, h)
below_more n m l change.Keep h = tt
below_more n m l (change.Put w x) h = (omega (arith, l, h.0), omega (arith, l, h.1))

-- one step more
pub code_step : (p : Code) (a : Step) → IsCode p → OperandsBelow (length p.steps) a → ReadsWithin p.controls p.ins (length p.sources) (length p.changes) a →
    IsKept p.changes a → IsBegun p.lists a → IsCode (with_step p a)
code_step p a h o w k b =
    let long = length_snoc p.steps a in record {
      ordered = λ i d l. elim (cases_lt i (length p.steps)) [
        | inl m ↦ subst (OperandsBelow i) (sym (get_or_append_left p.steps (a ∷ []) d i m)) (h.ordered i d m)
        | inr m ↦
            let e : length p.steps ≡ i = omega (arith, long) in
            subst (OperandsBelow i) (sym (get_or_push p.steps a d i e)) (subst (λ i. OperandsBelow i a) e o)
      ];
      within = All-push (ReadsWithin p.controls p.ins (length p.sources) (length p.changes)) p.steps a h.within w;
      kept = All-push (IsKept p.changes) p.steps a h.kept k;
      begun = All-push (IsBegun p.lists) p.steps a h.begun b;
      listed = h.listed;
      sources = All-weaker (λ w. w < length p.steps) (λ w. w < length (p.steps ++ a ∷ [])) (λ w l. omega (arith, long)) p.sources h.sources;
      changes = All-weaker (ChangesBelow (length p.steps)) (ChangesBelow (length (p.steps ++ a ∷ [])))
          (below_more (length p.steps) (length (p.steps ++ a ∷ [])) (omega (arith, long))) p.changes h.changes;
      loops = h.loops;
      some = omega (arith, long);
    }

pub code_put : (p m : Code) (a : Step) (ss : List Step) → p ≡ m → IsCode p → OperandsBelow (length m.steps) a →
    ReadsWithin m.controls m.ins (length m.sources) (length m.changes) a → IsKept m.changes a → IsBegun m.lists a →
    ss ≡ p.steps ++ a ∷ [] → IsCode (record p { steps = ss })
code_put p m a ss e h o w k b f =
    subst (λ ss. IsCode (record p { steps = ss })) (sym f)
    (code_step p a h (subst (λ m. OperandsBelow (length m.steps) a) (sym e) o)
    (subst (λ m. ReadsWithin m.controls m.ins (length m.sources) (length m.changes) a) (sym e) w)
    (subst (λ m. IsKept m.changes a) (sym e) k) (subst (λ m. IsBegun m.lists a) (sym e) b))

-- one list more
kept_more : (controls ins cells : ℕ) (changes : List Change) (a : Change) (s : Step) → ReadsWithin controls ins cells (length changes) s
    → IsKept changes s → IsKept (changes ++ a ∷ []) s
kept_more controls ins cells changes a (step.Number n) w k = tt
kept_more controls ins cells changes a (step.Control i) w k = tt
kept_more controls ins cells changes a (step.Input i) w k = tt
kept_more controls ins cells changes a (step.Point op args) w k = tt
kept_more controls ins cells changes a (step.Cell i) w k = tt
kept_more controls ins cells changes a (step.Back x d list) w k = get_or_append_left changes (a ∷ []) (change.Append x) list w ∙ k
kept_more controls ins cells changes a (step.Read r list) w k = get_or_append_left changes (a ∷ []) change.Keep list w ∙ k
kept_more controls ins cells changes a (step.Write p x r list) w k = get_or_append_left changes (a ∷ []) (change.Put p x) list w ∙ k

begun_more : (controls ins cells : ℕ) (lists : List (List ℤ)) (T : List ℤ) (s : Step) → ReadsWithin controls ins cells (length lists) s
    → IsBegun lists s → IsBegun (lists ++ T ∷ []) s
begun_more controls ins cells lists T (step.Number n) w k = tt
begun_more controls ins cells lists T (step.Control i) w k = tt
begun_more controls ins cells lists T (step.Input i) w k = tt
begun_more controls ins cells lists T (step.Point op args) w k = tt
begun_more controls ins cells lists T (step.Cell i) w k = tt
begun_more controls ins cells lists T (step.Back x d list) w k = get_or_append_left lists (T ∷ []) [] list w ∙ k
begun_more controls ins cells lists T (step.Read r list) w k = tt
begun_more controls ins cells lists T (step.Write p x r list) w k = subst (λ l. 1 ≤ length l) (sym (get_or_append_left lists (T ∷ []) [] list w)) k

within_more : (controls ins cells n m : ℕ) → n ≤ m → (s : Step) → ReadsWithin controls ins cells n s → ReadsWithin controls ins cells m s
within_more controls ins cells n m l (step.Number k) w = tt
within_more controls ins cells n m l (step.Control i) w = w
within_more controls ins cells n m l (step.Input i) w = w
within_more controls ins cells n m l (step.Point op args) w = w
within_more controls ins cells n m l (step.Cell i) w = w
within_more controls ins cells n m l (step.Back x d list) w = omega (arith, l, w)
within_more controls ins cells n m l (step.Read r list) w = omega (arith, l, w)
within_more controls ins cells n m l (step.Write p x r list) w = omega (arith, l, w)

pub code_listed : (p : Code) (a : Change) (T : List ℤ) → IsCode p → ChangesBelow (length p.steps) a → IsCode (with_list p a T)
code_listed p a T h b =
    let long = length_snoc p.changes a in
    let more : length p.changes ≤ length (p.changes ++ a ∷ []) = omega (arith, long) in
    let Within : Step → Type 0 = ReadsWithin p.controls p.ins (length p.sources) (length p.changes) in record {
      ordered = h.ordered;
      within = All-weaker Within (ReadsWithin p.controls p.ins (length p.sources) (length (p.changes ++ a ∷ [])))
          (within_more p.controls p.ins (length p.sources) (length p.changes) (length (p.changes ++ a ∷ [])) more) p.steps h.within;
      kept = λ k d l. kept_more p.controls p.ins (length p.sources) p.changes a (get_or p.steps k d) (h.within k d l) (h.kept k d l);
      begun = λ k d l. begun_more p.controls p.ins (length p.sources) p.lists T (get_or p.steps k d)
          (subst (λ n. ReadsWithin p.controls p.ins (length p.sources) n (get_or p.steps k d)) (sym h.listed) (h.within k d l)) (h.begun k d l);
      listed = length_snoc p.lists T ∙ ap suc h.listed ∙ sym long;
      sources = h.sources;
      changes = All-push (ChangesBelow (length p.steps)) p.changes a h.changes b;
      loops = h.loops;
      some = h.some;
    }

pub code_lists : (p m : Code) (a : Change) (T : List ℤ) (changes : List Change) (lists : List (List ℤ)) → p ≡ m → IsCode p
    → ChangesBelow (length m.steps) a → changes ≡ p.changes ++ a ∷ [] → lists ≡ p.lists ++ T ∷ [] → IsCode (record p { changes = changes; lists = lists })
code_lists p m a T changes lists e h b f g =
    subst (λ cs. IsCode (record p { changes = cs; lists = lists })) (sym f)
    (subst (λ ls. IsCode (record p { changes = p.changes ++ a ∷ []; lists = ls })) (sym g)
    (code_listed p a T h (subst (λ m. ChangesBelow (length m.steps) a) (sym e) b)))

-- the code of the inputs
pub input_code_is : (n : ℕ) → IsCode (input_code n)
input_code_is n =
    let first = step.Number (pos 0) in
    let all = (first ∷ []) ++ table n step.Input in
    let P : Step → Type 0 = λ s. (i : ℕ) → OperandsBelow i s in
    let below : All P all = All-cons P first (table n step.Input) (λ i. tt) (each_table P n step.Input (λ k l i. tt)) in record {
      ordered = λ i d l. All-get_or P all i d l below i;
      within = All-cons (ReadsWithin 0 n 0 0) first (table n step.Input) tt (each_table (ReadsWithin 0 n 0 0) n step.Input (λ k l. l));
      kept = All-cons (IsKept []) first (table n step.Input) tt (each_table (IsKept []) n step.Input (λ k l. tt));
      begun = All-cons (IsBegun []) first (table n step.Input) tt (each_table (IsBegun []) n step.Input (λ k l. tt));
      listed = refl;
      sources = All-nil (λ w. w < length all);
      changes = All-nil (ChangesBelow (length all));
      loops = All-nil (λ (l : Loop). l.first + l.count ≤ 0);
      some = omega arith;
    }

pub input_code_of : (n i : ℕ) (ss : List Step) (sources : List ℕ) (changes : List Change) (lists : List (List ℤ)) (loops : List Loop) → i ≡ n
    → ss ≡ (input_code i).steps → sources ≡ [] → changes ≡ [] → lists ≡ [] → loops ≡ [] →
    IsCode (record { steps = ss; sources = sources; changes = changes; lists = lists; loops = loops; controls = 0; ins = n })
input_code_of n i ss sources changes lists loops k e f g m h =
    subst (λ ss. IsCode (record { steps = ss; sources = sources; changes = changes; lists = lists; loops = loops; controls = 0; ins = n }))
    (sym (e ∙ ap (λ i. (input_code i).steps) k))
    (subst (λ ws. IsCode (record (input_code n) { sources = ws; changes = changes; lists = lists; loops = loops })) (sym f)
    (subst (λ bs. IsCode (record (input_code n) { changes = bs; lists = lists; loops = loops })) (sym g)
    (subst (λ cs. IsCode (record (input_code n) { lists = cs; loops = loops })) (sym m)
    (subst (λ ls. IsCode (record (input_code n) { loops = ls })) (sym h) (input_code_is n)))))

-- ---- cells

pub steps_long : (n : ℕ) (s : Code) → length (with_cells n s).steps ≡ length s.steps + n
steps_long n s = length-append s.steps (table n (λ i. step.Cell (length s.sources + i)))
    ∙ ap (λ m. length s.steps + m) (length_table n (λ i. step.Cell (length s.sources + i)))

sources_long : (n : ℕ) (s : Code) → length (with_cells n s).sources ≡ length s.sources + n
sources_long n s = length-append s.sources (table n (λ i. 0)) ∙ ap (λ m. length s.sources + m) (length_table n (λ (i : ℕ). 0))

-- one cell more
pub cells_more : (s q q' : Code) (n r : ℕ) (all all' : List ℕ) → all ≡ table n (λ i. length s.steps + i) → q ≡ with_cells n s → (r, q') ≡ put_cell q 0 →
    all' ≡ all ++ r ∷ [] →
    (all' ≡ table (n + 1) (λ i. length s.steps + i)) × (q' ≡ with_cells (n + 1) s)
cells_more s q q' n r all all' e f g h =
    let k : (r, q') ≡ put_cell (with_cells n s) 0 = g ∙ ap (λ z. put_cell z 0) f in
    let cells = table n (λ i. step.Cell (length s.sources + i)) in
    let one : suc n ≡ n + 1 = omega arith in
    subst (λ m. (all' ≡ table m (λ i. length s.steps + i)) × (q' ≡ with_cells m s)) one (
      h ∙ ap₂ (λ x y. x ++ y ∷ []) e (ap (λ z. z.0) k ∙ steps_long n s),
      ap (λ z. z.1) k ∙ ap₂ (λ (x : List ℕ) y. record s { steps = y; sources = x }) (append_assoc s.sources (table n (λ i. 0)) (0 ∷ []))
          (ap (λ m. (s.steps ++ cells) ++ step.Cell m ∷ []) (sources_long n s) ∙ append_assoc s.steps cells (step.Cell (length s.sources + n) ∷ [])),
    )

-- the registers of the cells
pub late_registers : (n a m : ℕ) (all : List ℕ) → all ≡ table n (λ i. a + i) → a + n ≤ m → All (λ w. w < m) all
late_registers n a m all e l = subst (All (λ w. w < m)) (sym e) (each_table (λ w. w < m) n (λ i. a + i) (λ i b. omega arith))

-- ---- feedbacks

-- one that is open more
pub code_opens : (p q : Code) (ls : List Loop) (l : Loop) → q ≡ p → IsCode q → ls ≡ l ∷ q.loops → l.first + l.count ≤ length p.sources →
    IsCode (record q { loops = ls })
code_opens p q ls l e h f b = record {
  ordered = h.ordered;
  within = h.within;
  kept = h.kept;
  begun = h.begun;
  listed = h.listed;
  sources = h.sources;
  changes = h.changes;
  loops =
      subst (All (λ l. l.first + l.count ≤ length q.sources)) (sym f)
      (All-cons (λ l. l.first + l.count ≤ length q.sources) l q.loops (omega (arith, b, ap (λ z. length z.sources) e)) h.loops);
  some = h.some;
}

written_holds : (P : ℕ → Type 0) (i : ℕ) (ws xs : List ℕ) → All P ws → All P xs → All P (written i ws xs)
written_holds P i [] xs w h = h
written_holds P i (y ∷ ws) xs w h = written_holds P (suc i) ws (slice_set xs i y) (All-tail P y ws w) (All-set P xs i y (All-head P y ws w) h)

-- and one that is closed
pub code_shuts : (p : Code) (ls : List Loop) (l : Loop) (sources outs : List ℕ) → IsCode p → p.loops ≡ l ∷ ls → length sources ≡ length p.sources →
    sources ≡ written l.first outs p.sources →
    All (λ w. w < length p.steps) outs → IsCode (record p { sources = sources; loops = ls })
code_shuts p ls l sources outs h e n f o = record {
  ordered = h.ordered;
  within = subst (λ m. All (ReadsWithin p.controls p.ins m (length p.changes)) p.steps) (sym n) h.within;
  kept = h.kept;
  begun = h.begun;
  listed = h.listed;
  sources = subst (All (λ w. w < length p.steps)) (sym f) (written_holds (λ w. w < length p.steps) l.first outs p.sources o h.sources);
  changes = h.changes;
  loops =
      subst (λ m. All (λ l. l.first + l.count ≤ m) ls) (sym n)
      (All-tail (λ l. l.first + l.count ≤ length p.sources) l ls (subst (All (λ l. l.first + l.count ≤ length p.sources)) e h.loops));
  some = h.some;
}
