-- What a board that is closed holds.
use Rattle.std.proofs.Common.{◌≡◌, ℕ, zero, suc, ◌+◌, ◌-◌, ◌*◌, ◌/◌, ◌%◌, ◌<◌, ◌≤◌, true, inl, List, []}
use Rattle.std.proofs.Common.{◌∷◌, length, slice_index, refl, sym, ap, ◌∙◌, subst, arith, ◌==◌, Option, Some, lt-ltb, le-leb, div-add-mod', mod-lt}
use Rattle.std.specs.Cmp.Derive.{both_true}
use mathlib.Core.Option.{some, some-injective, some-ne-none}
use lib.ListN.{get_elem?}
use Rattle.atomic_table.specs.Table.{Final, Seen}
use Rattle.fv_graph.specs.Tasks.{Tasks, bit}
use Rattle.fv_graph.specs.TasksBeside.{times, task_count}
use Rattle.fv_graph.specs.Net.{Net}
use Rattle.fv_graph.specs.Graph.{Graph, IsGraph, edges_of, stride, is_exit, reader_of, net_of}
use Rattle.fv_graph.specs.Wires.{IsWires}
use Rattle.fv_graph.proofs.lemmas.Counts.{bit_one}
use Rattle.fv_graph.proofs.lemmas.Graphs.{is_wires, unique, further, reader_chain}
use Rattle.fv_ready.specs.Wired.{graph_wires}
use Rattle.fv_ready.specs.declared.view.Deed.{Deed}
use Rattle.fv_ready.specs.declared.view.About.{About}
use Rattle.fv_ready.specs.declared.view.View.{View}
use Rattle.fv_ready.specs.Rule.{claim_word, wins, finishes, done_by, all}
use Rattle.fv_ready.specs.Whole.{IsWhole}
use Rattle.fv_ready.specs.Promised.{Tells}
use Rattle.fv_ready.proofs.lemmas.Closing.{whole_is, tells, all_finished, finished_all}
use Rattle.fv_ready.specs.declared.board.Board.{Board}
use Rattle.fv_ready.specs.declared.seat.WorkerSeat.{WorkerSeat}
use Rattle.fv_ready.specs.Boards.{about_of, tasks_of}
use Rattle.fv_ready.specs.Counted.{told_by, having, HaveAll}
use Rattle.fv_ready.specs.Closed.{AreSlots, AreParcels, HasParcel, Ended}

word_is : (ws : List ℕ) (i x : ℕ) → get_elem? ws i ≡ some x → slice_index ws i ≡ x
word_is [] i x e = absurd (some-ne-none x (sym e))
word_is (y ∷ ys) zero x e = some-injective y x e
word_is (y ∷ ys) (suc i) x e = word_is ys i x e

word_at : (ws : List ℕ) (i : ℕ) → i < length ws → get_elem? ws i ≡ some (slice_index ws i)
word_at [] i l = absurd (omega arith)
word_at (y ∷ ys) zero l = refl
word_at (y ∷ ys) (suc i) l = word_at ys i (omega arith)

tells_like : (net : Net) (m n : (Deed → ℕ) → ℕ) → ((f : Deed → ℕ) → m f ≡ n f) → Tells net m → Tells net n
tells_like net m n e t = subst (λ (k : (Deed → ℕ) → ℕ). Tells net k) (λ i f. e f i) t

some_some : {C : Type 0} (x y : C) → some (Some x) ≡ some (Some y) → x ≡ y
some_some x y e = cc

pub are_parcels : {C Key : Type 0} (edge_of : C → ℕ) (key_of : C → Key) (a : About C) (slots : List (Option C)) (k : ℕ) (ps : List C) →
    ((e : ℕ) → k ≤ e → e < k + length ps → HasParcel edge_of key_of a slots e) → AreSlots slots k ps → AreParcels edge_of key_of a k ps
are_parcels edge_of key_of a slots k [] have are = tt
are_parcels edge_of key_of a slots k (p ∷ ps) have are = let q = have k (omega arith) (omega arith) in
    let z : q.parcel ≡ p = some_some q.parcel p (sym q.at ∙ are.0) in (
      (ap edge_of (sym z) ∙ q.edge, ap key_of (sym z) ∙ q.key),
      are_parcels edge_of key_of a slots (suc k) ps
          (λ e l m. have e (omega arith) (omega arith)) are.1,
    )

module _ {C Key : Type 0} (edge_of : C → ℕ) (key_of : C → Key) (a : About C) (graph : IsGraph a.tasks.value.tasks) (id : ℕ) (v : View C)
    (words : List ℕ) (slots : List (Option C))
    (end : Final (Seen {S = Option C} (λ s. IsWhole graph_wires edge_of key_of a s) id v) words slots)
    (numbers : (k : ℕ) → k < a.workers → 0 < times k v.numbers) (lists : (Deed → ℕ) → ℕ) (same : (f : Deed → ℕ) → done_by f v ≡ lists f) where
  abbrev g : Tasks
  g = a.tasks.value.tasks

  abbrev h : IsWhole graph_wires edge_of key_of a end.0
  h = end.1.0

  ws : IsWires (graph_wires a.tasks.value)
  ws = is_wires g graph

  is : (f : Deed → ℕ) → all f end.0.views ≡ lists f
  is f = whole_is graph_wires edge_of key_of a end.0 end.1.0 id v end.1.1 numbers f ∙ same f

  word : (i w : ℕ) → get_elem? words i ≡ some w → slice_index end.0.words i ≡ w
  word i w at = ap (λ l. slice_index l i) end.2 ∙ word_is words i w at

  exit_is : (e : ℕ) → edges_of g - g.loops ≤ e → e < edges_of g → is_exit g e ≡ true
  exit_is e l m = both_true (le-leb (g.vectors * stride g) e (omega arith)) (lt-ltb e (edges_of g) m)

  -- an entry edge goes into a task
  entry_reader : (e : ℕ) → e < g.loops → reader_of g e < task_count g
  entry_reader e l =
      let s = graph.some_loop in
      let z : 0 * stride g + e ≡ e = omega arith in
      let u = unique (e / stride g) (e % stride g) 0 e (stride g) (mod-lt e (omega arith)) (omega arith) (div-add-mod' e (stride g) ∙ sym z) in
      let r = reader_chain g graph e (subst (λ k. k < g.loops) (sym u.1) l) in
      let f = further 0 g.vectors g.loops graph.some_vector in
      let q = ap (λ k. k * g.loops) u.0 in let y = u.1 in omega arith

  ended_here : Ended edge_of key_of a g words slots lists
  ended_here = record {
    told = tells_like (net_of g) (λ f. done_by f v) lists same (tells graph_wires edge_of key_of a end.0 end.1.0 id v end.1.1 numbers);
    finished = λ w at e t there. sym (is (finishes t)) ∙ all_finished graph_wires edge_of key_of a end.0 end.1.0 id v end.1.1 numbers (word 0 w at ∙ e) t there;
    stamps_of = λ w at d. sym (word 0 w at) ∙ finished_all graph_wires edge_of key_of a end.0 end.1.0 id v end.1.1 numbers
        (λ t there. is (finishes t) ∙ d t there);
    untaken = λ t there at. sym (is (wins t)) ∙ sym (h.kept.claimed t there) ∙ word (claim_word (task_count g) t) 0 at;
    claim_of = λ t there none'. word_at words (claim_word (task_count g) t) (let l = h.kept.words_long in let q = ap length end.2 in omega arith)
        ∙ ap some (ap (λ l. slice_index l (claim_word (task_count g) t)) (sym end.2) ∙ h.kept.claimed t there ∙ is (wins t) ∙ none');
    exits = λ d e l m. let x = exit_is e l m in
        let q = h.kept.exit_slots e x (is (finishes ((net_of g).source e)) ∙ d ((net_of g).source e) (ws.exits_from e x)) in let f = q.2 in
        record { parcel = f.0; at = end.4 e (Some f.0) (q.1 ∙ ap (λ (y : Option C). some (some y)) f.1); edge = f.2; key = f.3 };
    entries = λ d e l. let q = h.kept.full_slots e (inl (lt-ltb e g.loops l))
        (is (wins ((net_of g).reader e)) ∙ d ((net_of g).reader e) (entry_reader e l)) in let f = q.2 in
        record { parcel = f.0; at = end.4 e (Some f.0) (q.1 ∙ ap (λ (y : Option C). some (some y)) f.1); edge = f.2; key = f.3 };
  }

-- the same where the lists are those of seats
module _ {C Key : Type 0} (edge_of : C → ℕ) (key_of : C → Key) (a : About C) (graph : IsGraph a.tasks.value.tasks) (id : ℕ) (v : View C)
    (words : List ℕ) (slots : List (Option C))
    (end : Final (Seen {S = Option C} (λ s. IsWhole graph_wires edge_of key_of a s) id v) words slots) (seats : List (WorkerSeat C))
    (lists : (f : Deed → ℕ) → done_by f v ≡ told_by f seats) (numbers : (k : ℕ) → times k v.numbers ≡ having k seats)
    (all : HaveAll a.workers seats) where
  pub ended : Ended edge_of key_of a a.tasks.value.tasks words slots (λ f. told_by f seats)
  ended = ended_here edge_of key_of a graph id v words slots end
      (λ k l. let h = all.1 k l in let n = numbers k in omega arith) (λ f. told_by f seats) lists

-- the same of the board's tasks by the name that the code has for them
pub ended_as : {C Key : Type 0} (edge_of : C → ℕ) (key_of : C → Key) (b : Board C Key) (words : List ℕ) (slots : List (Option C))
    (lists : (Deed → ℕ) → ℕ) → Ended edge_of key_of (about_of b) (about_of b).tasks.value.tasks words slots lists →
    Ended edge_of key_of (about_of b) (tasks_of b) words slots lists
ended_as edge_of key_of b words slots lists e = subst (λ (k : Graph). Ended edge_of key_of (about_of b) k.tasks words slots lists) b.told e

-- no task was taken, where no claim word is set
pub none_taken : {C Key : Type 0} (edge_of : C → ℕ) (key_of : C → Key) (a : About C) (g : Tasks) (words : List ℕ) (slots : List (Option C))
    (lists : (Deed → ℕ) → ℕ) (n : ℕ) → Ended edge_of key_of a g words slots lists → n ≡ task_count g →
    ((t : ℕ) → t < n → get_elem? words (claim_word n t) ≡ some 0) → (t : ℕ) → t < task_count g → lists (wins t) ≡ 0
none_taken edge_of key_of a g words slots lists n e is unset t l =
    e.untaken t l (subst (λ k. (t : ℕ) → t < k → get_elem? words (claim_word k t) ≡ some 0) is unset t l)

pub some_seats : {C : Type 0} (seats : List (WorkerSeat C)) → having 0 seats ≡ 1 → 0 < length seats
some_seats [] h = absurd (omega arith)
some_seats (s ∷ ss) h = omega arith

-- there is a task
pub some_task : (g : Tasks) → IsGraph g → 0 < task_count g
some_task g h = let f = further 0 g.vectors g.loops h.some_vector in let l = h.some_loop in omega arith

-- where a task is done, it was taken
pub done_taken : (net : Net) (n : (Deed → ℕ) → ℕ) (t : ℕ) → Tells net n → n (finishes t) ≡ 1 → n (wins t) ≡ 0 → ⊥
done_taken net n t h done none' = let a = h.started_won t in let b = h.finished_started t in absurd (omega arith)

pub equal_by : (a b : ℕ) → (a == b) ≡ true → a ≡ b
equal_by a b e = bit_one a b (subst (λ x. 0 < bit x) (sym e) (omega arith))
