-- The lines of all workers, sorted by their starts, are the ordered journal.
use Rattle.std.proofs.Common.{◌≡◌, ◌≢◌, ℕ, zero, suc, ◌+◌, ◌*◌, ◌<◌, ◌≤◌, Bool, true, false, not, ◌&&◌, ⊎_elim, List, [], ◌∷◌, map, length}
use Rattle.std.proofs.Common.{get_or, All, Contains, refl, sym, ap, ◌∙◌, subst, arith, ◌==◌, eq-eqb, ltb, ltb-true}
use Rattle.std.specs.List.{sum_by, flat_map}
use Rattle.std.specs.List.Sorted.{IsPermutation, IsNonDecreasingBy}
use Rattle.std.proofs.lemmas.List.{length-map}
use Rattle.std.proofs.lemmas.List.Concat.{flat_map-cons}
use Rattle.std.proofs.lemmas.List.Elements.{Contains-append_cases}
use Rattle.std.proofs.lemmas.List.Sorted.{sum_by-IsPermutation, IsPermutation-sym, Contains-permutation}
use Rattle.std.proofs.lemmas.List.Sums.{sum_by-cons}
use Rattle.std.proofs.lemmas.Nat.{mod-mul-add, div-mul-add}
use mathlib.Core.Logic.{dite}
use native.Mathlib.Decide.{ℕ_discrete}
use Rattle.fv_outside.specs.headline.Tasks.{Tasks, bit, total, reads_task}
use Rattle.fv_outside.specs.Tasks.{times, task_count}
use Rattle.fv_outside.specs.headline.Journal.{is_line_of, stamped, IsOrdered}
use Rattle.fv_outside.specs.declared.tasks.Task.{Task}
use Rattle.fv_outside.specs.declared.gate.Line.{Line}
use Rattle.fv_graph.specs.Words.{passing}
use Rattle.fv_graph.specs.Reads.{ReadsLaw}
use Rattle.fv_graph.specs.Graph.{task_at, task_of, source_of, needs_of}
use Rattle.fv_graph.proofs.lemmas.Graphs.{further}
use Rattle.fv_graph.proofs.lemmas.Counts.{bit_le, bit_true, bit_same, bit_apart, bit_swap, bits_agree, both_true, both_of, eq_of}
use Rattle.fv_graph.proofs.lemmas.Counts.{total_append, total_add, total_at, total_none, times_passing}
use Rattle.fv_graph.specs.Core.{numbers}
use Rattle.fv_ready.specs.declared.view.Deed.{Deed}
use Rattle.fv_ready.specs.declared.view.Deed.TheVariants.{Stamped, Arrived, Saw, Claimed}
use Rattle.fv_ready.specs.Rule.{done_by, wins, stamps, finishes}
use Rattle.fv_ready.specs.Whole.{starts_at, finishes_at}
use Rattle.fv_ready.proofs.lemmas.Claim.{total_ext}
use Rattle.fv_ready.proofs.lemmas.Numbers.{long_numbers}
use Rattle.fv_ready.specs.declared.seat.WorkerSeat.{WorkerSeat}
use Rattle.fv_ready.specs.Seats.{view_of}
use Rattle.fv_ready.specs.Counted.{told_by}
use Rattle.fv_steal.specs.declared.worker.Worker.{Worker}
use Rattle.fv_steal.specs.Crews.{did, seat_of, lines_of, number_in, IsLineOf, IsJournalOf}
use Rattle.fv_steal.specs.Journals.{AreThrough}
use Rattle.fv_steal.proofs.Drainings.{total_map}
use Rattle.fv_steal.proofs.Sums.{total_each}

-- ---- totals
total_sum : {X : Type 0} (f : X → ℕ) (xs : List X) → total f xs ≡ sum_by f xs
total_sum f [] = refl
total_sum f (x ∷ xs) = ap (λ n. f x + n) (total_sum f xs) ∙ sym (sum_by-cons f x xs)

permuted : {X : Type 0} (f : X → ℕ) (xs ys : List X) → IsPermutation xs ys → total f ys ≡ total f xs
permuted f xs ys p = total_sum f ys ∙ sum_by-IsPermutation f xs ys p ∙ sym (total_sum f xs)

total_least : {X : Type 0} (f g : X → ℕ) → ((x : X) → f x ≤ g x) → (xs : List X) → total f xs ≤ total g xs
total_least f g least [] = omega arith
total_least f g least (x ∷ xs) = let a = least x in let r = total_least f g least xs in omega arith

two_each : (f : ℕ → ℕ) → ((x : ℕ) → f x ≤ 2) → (xs : List ℕ) → total f xs ≤ 2 * length xs
two_each f most [] = omega arith
two_each f most (x ∷ xs) = let a = most x in let r = two_each f most xs in omega arith

bit_second : (x y : Bool) → bit (x && y) ≤ bit y
bit_second true y = omega arith
bit_second false y = omega arith

-- a finish with a stamp draws the stamp
finish_stamps : (k t : ℕ) (d : Deed) → finishes_at k t d ≤ stamps k d
finish_stamps k t (Stamped l u b) = bit_second (not b && (u == t)) (l == k)
finish_stamps k t (Arrived e c) = omega arith
finish_stamps k t (Saw u c) = omega arith
finish_stamps k t (Claimed u b) = omega arith

two_at : {X : Type 0} (f : X → ℕ) (xs : List X) (j k : ℕ) (d : X) → j < k → k < length xs → f (get_or xs j d) + f (get_or xs k d) ≤ total f xs
two_at f [] j k d l h = absurd (omega arith)
two_at f (x ∷ xs) zero zero d l h = absurd (omega arith)
two_at f (x ∷ xs) zero (suc k) d l h = let a = total_at f xs k d (omega arith) in omega arith
two_at f (x ∷ xs) (suc j) zero d l h = absurd (omega arith)
two_at f (x ∷ xs) (suc j) (suc k) d l h = let a = two_at f xs j k d (omega arith) (omega arith) in omega arith

total_flat : {X Y : Type 0} (f : Y → ℕ) (m : X → List Y) (xs : List X) → total f (flat_map m xs) ≡ total (λ x. total f (m x)) xs
total_flat f m [] = refl
total_flat f m (x ∷ xs) = let r = total_flat f m xs in let a = total_append f (m x) (flat_map m xs) in ap (total f) (flat_map-cons m x xs) ∙ omega arith

-- totals of a sum that is at most another one
at_most : {X : Type 0} (f g h : X → ℕ) → ((x : X) → f x + g x ≤ h x) → (xs : List X) → total f xs + total g xs ≤ total h xs
at_most f g h each [] = omega arith
at_most f g h each (x ∷ xs) = let a = each x in let r = at_most f g h each xs in omega arith

-- where each number below n stands once, and no other, the list has n numbers
ones : (f : ℕ → ℕ) (from k : ℕ) → ((t : ℕ) → t < from + k → f t ≡ 1) → total f (passing (λ _. true) from k) ≡ k
ones f from zero h = refl
ones f from (suc k) h = let a = h from (omega arith) in let r = ones f (suc from) k (λ t l. h t (omega arith)) in omega arith

counted : (n : ℕ) (xs : List ℕ) → All (λ x. x < n) xs → total (λ t. times t xs) (numbers n) ≡ length xs
counted n [] h = total_none (numbers n)
counted n (x ∷ xs) h =
    let a = total_add (λ t. bit (x == t)) (λ t. times t xs) (numbers n) in let r = counted n xs (λ k d l. h (suc k) d (omega arith)) in
    let s = total_ext (λ t. bit (x == t)) (λ t. bit (t == x)) (λ t. bit_swap x t) (numbers n) in
    let o = times_passing (λ _. true) 0 n x (omega arith) (let q = h 0 x (omega arith) in omega arith) in omega arith

-- ---- a task is finished at one stamp
two_bits : (x : Bool) (l k m : ℕ) → k ≢ m → bit (x && (l == k)) + bit (x && (l == m)) ≤ bit x
two_bits false l k m ne = omega arith
two_bits true l k m ne = dite (ℕ_discrete l k) (λ e. let a = bit_le (l == k) in let b = bit_apart l m (λ q. ne (sym e ∙ q)) in omega arith)
    (λ n. let a = bit_apart l k n in let b = bit_le (l == m) in omega arith)

two_finishes : (t k m : ℕ) → k ≢ m → (d : Deed) → finishes_at k t d + finishes_at m t d ≤ finishes t d
two_finishes t k m ne (Stamped l u b) = two_bits (not b && (u == t)) l k m ne
two_finishes t k m ne (Arrived e c) = omega arith
two_finishes t k m ne (Saw u c) = omega arith
two_finishes t k m ne (Claimed u b) = omega arith

-- ---- tasks and their numbers
module _ (g : Tasks) where
  task_again : (t : Task) → t.loop_no < g.loops → task_of g (task_at g t.loop_no t.vector) ≡ t
  task_again t low = λ i. record { loop_no = mod-mul-add t.vector g.loops t.loop_no low i; vector = div-mul-add t.vector g.loops t.loop_no low i }

  number_low : (t : Task) → (t.loop_no < g.loops) × (t.vector < g.vectors) → task_at g t.loop_no t.vector < task_count g
  number_low t there = let f = further t.vector g.vectors g.loops there.1 in let l = there.0 in omega arith

  same_line : (t : Task) (line : Line) → t.loop_no < g.loops → line.task.loop_no < g.loops
      → bit (is_line_of t line) ≡ bit (number_in g line == task_at g t.loop_no t.vector)
  same_line t line low there = bits_agree (is_line_of t line) (number_in g line == task_at g t.loop_no t.vector)
      (λ p. let q = both_true (line.task.loop_no == t.loop_no) (line.task.vector == t.vector) p in
      eq-eqb (number_in g line) (task_at g t.loop_no t.vector)
      (λ i. task_at g (eq_of line.task.loop_no t.loop_no q.0 i) (eq_of line.task.vector t.vector q.1 i)))
      (λ p. let e : line.task ≡ t = sym (task_again line.task there)
      ∙ ap (task_of g) (eq_of (number_in g line) (task_at g t.loop_no t.vector) p) ∙ task_again t low in
      both_of (line.task.loop_no == t.loop_no) (line.task.vector == t.vector)
      (eq-eqb line.task.loop_no t.loop_no (ap (λ (k : Task). k.loop_no) e)) (eq-eqb line.task.vector t.vector (ap (λ (k : Task). k.vector) e)))

-- ---- lines of the workers
module _ {C : Type 0} (g : Tasks) where
  -- how often something stands in the lists of all workers' seats
  abbrev said : (Deed → ℕ) → List (Worker C) → ℕ
  said f ws = total (λ w. done_by f (did w)) ws

  -- what is known of a line of theirs
  record IsFound (ws : List (Worker C)) (line : Line) : Type 0 where
    pub there : (line.task.loop_no < g.loops) × (line.task.vector < g.vectors)
    pub start : 0 < said (starts_at line.start (number_in g line)) ws
    pub finish : 0 < said (finishes_at line.finish (number_in g line)) ws
    pub spans : line.start < line.finish

  found : (ws : List (Worker C)) → All (λ w. IsJournalOf g w.number (did w) (lines_of w)) ws → (line : Line) → Contains (flat_map lines_of ws) line
      → IsFound ws line
  found [] h line c = absurd (let l = c.1 in omega arith)
  found (w ∷ ws) h line c = ⊎_elim
      (λ (k : Contains (lines_of w) line).
      let j : IsLineOf g w.number (did w) line = subst (IsLineOf g w.number (did w)) k.2 ((h 0 w (omega arith)).each_line k.0 line k.1) in
      record { there = j.there; start = let s = j.start in omega arith; finish = let s = j.finish in omega arith; spans = j.spans })
      (λ (k : Contains (flat_map lines_of ws) line). let r = found ws (λ i d l. h (suc i) d (omega arith)) line k in
      record { there = r.there; start = let s = r.start in omega arith; finish = let s = r.finish in omega arith; spans = r.spans })
      (Contains-append_cases (lines_of w) (flat_map lines_of ws) line (subst (λ ls. Contains ls line) (flat_map-cons lines_of w ws) c))

  module _ (ws : List (Worker C)) (lines : List Line) (h : AreThrough g ws) (same : IsPermutation (flat_map lines_of ws) lines) where
    -- the same count of the seats and of the workers
    told_is : (f : Deed → ℕ) → told_by f (map seat_of ws) ≡ said f ws
    told_is f = total_map (λ (s : WorkerSeat C). done_by f (view_of s)) (λ (w : Worker C). w.seat) ws

    of_line : (line : Line) → Contains lines line → IsFound ws line
    of_line line c = found ws h.journals line
        (Contains-permutation lines (flat_map lines_of ws) line (IsPermutation-sym (flat_map lines_of ws) lines same) c)

    -- of each task there is one line
    once : (t : ℕ) → t < task_count g → times t (map (number_in g) lines) ≡ 1
    once t there =
        let m = total_map (λ y. bit (y == t)) (number_in g) lines in
        let p = permuted (λ (line : Line). bit (number_in g line == t)) (flat_map lines_of ws) lines same in
        let f = total_flat (λ (line : Line). bit (number_in g line == t)) (lines_of {C = C}) ws in
        let e = total_each (λ (w : Worker C). total (λ (line : Line). bit (number_in g line == t)) (lines_of w)) (λ w. done_by (wins t) (did w)) ws
        (λ k d l. sym (total_map (λ y. bit (y == t)) (number_in g) (lines_of (get_or ws k d))) ∙ (h.journals k d l).each t) in
        let s = told_is (wins t) in let o = h.tells.won_once t in let d = h.done t there in let fs = h.tells.finished_started t in
        let sw = h.tells.started_won t in omega arith

    each_line : (t : Task) (ls : List Line) → t.loop_no < g.loops → ((k : ℕ) (d : Line) → k < length ls → (get_or ls k d).task.loop_no < g.loops)
        → total (λ line. bit (is_line_of t line)) ls ≡ times (task_at g t.loop_no t.vector) (map (number_in g) ls)
    each_line t [] low all = refl
    each_line t (x ∷ xs) low all = let a = same_line g t x low (all 0 x (omega arith)) in
        let r = each_line t xs low (λ k d l. all (suc k) d (omega arith)) in omega arith

    at_place : (k : ℕ) (d : Line) → k < length lines → IsFound ws (get_or lines k d)
    at_place k d l = of_line (get_or lines k d) (Rattle.std.proofs.lemmas.List.Elements.Contains-get_or lines k d l)

    -- no stamp stands twice
    stamps_once : (n : ℕ) → stamped n lines ≤ 1
    stamps_once n =
        let p = permuted (λ (line : Line). bit (line.start == n) + bit (line.finish == n)) (flat_map lines_of ws) lines same in
        let f = total_flat (λ (line : Line). bit (line.start == n) + bit (line.finish == n)) (lines_of {C = C}) ws in
        let e = total_each (λ (w : Worker C). stamped n (lines_of w)) (λ w. done_by (stamps n) (did w)) ws (λ k d l. (h.journals k d l).stamps n) in
        let s = told_is (stamps n) in
        let o : told_by (stamps n) (map seat_of ws) ≤ 1 = subst (λ k. k ≤ 1) (sym (h.tells.stamped n)) (bit_le _) in omega arith

    -- a task's finish has one stamp
    finish_is : (t k m : ℕ) → t < task_count g → 0 < said (finishes_at k t) ws → 0 < said (finishes_at m t) ws → k ≡ m
    finish_is t k m there a b = dite (ℕ_discrete k m) (λ e. e) (λ ne. absurd (
        let q = at_most (λ (w : Worker C). done_by (finishes_at k t) (did w)) (λ w. done_by (finishes_at m t) (did w)) (λ w. done_by (finishes t) (did w))
        (λ w. at_most (finishes_at k t) (finishes_at m t) (finishes t) (two_finishes t k m ne) (did w).deeds) ws in
        let d = h.done t there in let s = told_is (finishes t) in omega arith))

    numbers_low : All (λ x. x < task_count g) (map (number_in g) lines)
    numbers_low = Rattle.fv_steal.proofs.Drainings.all_map (λ x. x < task_count g) (number_in g) lines
        (λ k d l. number_low g (get_or lines k d).task (at_place k d l).there)

    -- so there are as many as tasks
    pub as_many : length lines ≡ task_count g
    as_many = sym (length-map lines (number_in g)) ∙ sym (counted (task_count g) (map (number_in g) lines) numbers_low)
        ∙ ones (λ t. times t (map (number_in g) lines)) 0 (task_count g) (λ t l. once t (omega arith))

    -- there are no more stamps than two for each task
    drawn : ℕ
    drawn = total (λ t. told_by (Rattle.fv_ready.specs.Rule.starts t) (map seat_of ws) + told_by (finishes t) (map seat_of ws)) (numbers (task_count g))

    drawn_few : drawn ≤ 2 * task_count g
    unfolding drawn
    drawn_few = let l = long_numbers 0 (task_count g) in
        let t = two_each (λ t. told_by (Rattle.fv_ready.specs.Rule.starts t) (map seat_of ws) + told_by (finishes t) (map seat_of ws))
        (λ t. let o = h.tells.won_once t in let s = h.tells.started_won t in let f = h.tells.finished_started t in omega arith)
        (numbers (task_count g)) in omega arith

    -- so a line's finish is below twice the number of lines
    finish_low : (line : Line) → IsFound ws line → line.finish < 2 * length lines
    unfolding drawn
    finish_low line found =
        let n = line.finish in
        let m = total_least (λ (w : Worker C). done_by (finishes_at n (number_in g line)) (did w)) (λ w. done_by (stamps n) (did w))
        (λ w. total_least (finishes_at n (number_in g line)) (stamps n) (finish_stamps n (number_in g line)) (did w).deeds) ws in
        let s = told_is (stamps n) in let f = found.finish in
        let b : 0 < bit (ltb n drawn) = subst (λ k. 0 < k) (h.tells.stamped n) (omega arith) in
        let l = ltb-true n drawn (bit_true (ltb n drawn) b) in let few = drawn_few in let c = as_many in omega arith

    -- a line of a task starts after those of the tasks that it reads
    after : (reads : (t : ℕ) → t < task_count g → ReadsLaw g t) → (a b : Line) → IsFound ws a → IsFound ws b → reads_task g b.task a.task ≡ true →
        a.finish < b.start
    after reads a b fa fb r =
        let t = number_in g b in let s = number_in g a in let tl = number_low g b.task fb.there in let sl = number_low g a.task fa.there in
        let law = (reads t tl).reads s sl in
        let e : reads_task g (task_of g t) (task_of g s) ≡ true = ap (λ (p : Task × Task). reads_task g p.0 p.1)
        (λ i. (task_again g b.task fb.there.0 i, task_again g a.task fa.there.0 i)) ∙ r in
        let one = ap bit e in
        let from = edge_from (needs_of g t) (source_of g) s (omega arith) in
        let w = h.tells.after_reads b.start t from.0 tl (let k = told_is (starts_at b.start t) in let p = fb.start in omega arith) from.2 in
        let m = finish_is s w.0 a.finish sl
        (subst (λ u. 0 < said (finishes_at w.0 u) ws) from.1 (let k = told_is (finishes_at w.0 (source_of g from.0)) in let p = w.2 in
        omega arith)) fa.finish in
        let l = w.1 in omega arith
      where
        edge_from : (es : List ℕ) (f : ℕ → ℕ) (s : ℕ) → 0 < times s (map f es) → (e : ℕ) × (f e ≡ s) × (0 < times e es)
        edge_from [] f s pos = absurd (omega arith)
        edge_from (e ∷ es) f s pos = dite (ℕ_discrete (f e) s) (λ is. (e, is, (let b = bit_same e e refl in omega arith)))
            (λ n. let b = bit_apart (f e) s n in let r = edge_from es f s (omega arith) in (r.0, r.1, (let k = r.2 in omega arith)))

    pub ordered : ((t : ℕ) → t < task_count g → ReadsLaw g t) → IsNonDecreasingBy (λ (line : Line). line.start) lines
        → IsOrdered g lines × (length lines ≡ task_count g)
    ordered reads starts = (
      record {
        each_once = λ t l v. each_line t lines l (λ k d j. (at_place k d j).there.0) ∙ once (task_at g t.loop_no t.vector) (number_low g t (l, v));
        no_other = λ line c. (of_line line c).there;
        stamps = stamps_once;
        from_zero = λ line c. finish_low line (of_line line c);
        spans = λ line c. (of_line line c).spans;
        after_reads = λ a b c d r. after reads a b (of_line a c) (of_line b d) r;
        starts = λ i j d l k. dite (ℕ_discrete (get_or lines i d).start (get_or lines j d).start)
            (λ e. absurd (
            let n = (get_or lines j d).start in let q = two_at (λ (line : Line). bit (line.start == n) + bit (line.finish == n)) lines i j d l k in
            let a = bit_same (get_or lines i d).start n e in let b = bit_same (get_or lines j d).start n refl in let s = stamps_once n in omega arith))
            (λ ne. let q = starts i j d (omega arith) k in omega arith);
      },
      as_many,
    )
