-- A crew that is through with its block.
use Rattle.std.proofs.Common.{◌≡◌, ℕ, suc, ◌<◌, ◌≤◌, List, [], ◌∷◌, length, map, get_or, sym, ap, ◌∙◌, subst, arith}
use Rattle.std.specs.Prelude.{All}
use Rattle.std.proofs.lemmas.List.{length-map, get_or-map}
use Rattle.std.proofs.lemmas.List.Elements.{All-append}
use Rattle.std.specs.List.{flat_map}
use Rattle.std.specs.List.Sorted.{IsPermutation, IsNonDecreasingBy}
use Rattle.fv_outside.specs.headline.Tasks.{Tasks}
use Rattle.fv_outside.specs.Tasks.{task_count}
use Rattle.fv_outside.specs.declared.gate.Line.{Line}
use Rattle.fv_graph.specs.Graph.{Graph, IsGraph, net_of}
use Rattle.fv_ready.specs.Rule.{finishes}
use Rattle.fv_ready.specs.Promised.{Tells}
use Rattle.fv_ready.specs.declared.board.Board.{Board}
use Rattle.fv_ready.specs.declared.seat.WorkerSeat.{WorkerSeat}
use Rattle.fv_ready.specs.Boards.{about_of, graph_of, tasks_of}
use Rattle.fv_ready.specs.Counted.{told_by, NothingLeft}
use Rattle.fv_steal.specs.declared.worker.Worker.{Worker}
use Rattle.fv_steal.specs.Crews.{did, number_of, seat_of, lines_of, IsWorkerOf, IsJournalOf}
use Rattle.fv_steal.specs.Journals.{AreThrough, AreSortedLines, CountLaw}

-- what is known of a board that was worked by a crew, whose seats are then given back
pub record Worked {C Key : Type 0} (edge_of : C → ℕ) (key_of : C → Key) (b : Board C Key) (g : Graph) (ws : List (Worker C)) (seats : List (WorkerSeat C))
    : Type 0 where
  pub graph : graph_of b ≡ g
  pub told : (about_of b).tasks.value ≡ g
  pub seats_are : seats ≡ map seat_of ws
  pub workers : All (λ w. IsWorkerOf edge_of key_of b w) ws

-- the lines of workers with numbers below n
lines_by : {C : Type 0} {tasks : Tasks} (n : ℕ) (ws : List (Worker C)) → All (λ w. number_of w < n) ws
    → All (λ w. IsJournalOf tasks (number_of w) (did w) (lines_of w)) ws → All (λ (line : Line). line.worker < n) (flat_map lines_of ws)
lines_by n [] few journals = λ i d l. absurd (omega (arith, l))
lines_by n (w ∷ ws) few journals =
    All-append (λ (line : Line). line.worker < n) (lines_of w) (flat_map lines_of ws)
    (λ i d l. let who = ((journals 0 w (omega arith)).each_line i d l).who in let low = few 0 w (omega arith) in omega (arith, who, low))
    (lines_by n ws (λ i d l. few (suc i) d (omega (arith, l))) (λ i d l. journals (suc i) d (omega (arith, l))))

-- the workers of a crew have numbers below their count, and keep them
pub numbers_below : {C : Type 0} (n : ℕ) (old new : List (Worker C)) → map number_of new ≡ map number_of old → length old ≡ n
    → ((i : ℕ) (d : Worker C) → i < length old → number_of (get_or old i d) ≡ i) → All (λ w. number_of w < n) new
numbers_below n old new same long each i d l =
    let many : length new ≡ length old = sym (length-map new number_of) ∙ ap length same ∙ length-map old number_of in
    let inside : i < length old = omega (arith, l, many) in
    let is : number_of (get_or new i d) ≡ number_of (get_or old i d) =
    sym (get_or-map number_of new i d 0 l) ∙ ap (λ (xs : List ℕ). get_or xs i 0) same ∙ get_or-map number_of old i d 0 inside in
    omega (arith, is, each i d inside, inside, long)

module _ {C Key : Type 0} {edge_of : C → ℕ} {key_of : C → Key} {b : Board C Key} {g : Graph} {ws : List (Worker C)} {seats : List (WorkerSeat C)}
    (h : Worked edge_of key_of b g ws seats) where
  pub left_of_board : NothingLeft (net_of g.tasks) (map seat_of ws) → NothingLeft (net_of (tasks_of b)) seats
  left_of_board l = subst (λ (x : Graph). NothingLeft (net_of x.tasks) seats) (sym h.graph)
      (subst (λ (ss : List (WorkerSeat C)). NothingLeft (net_of g.tasks) ss) (sym h.seats_are) l)

  pub through : Tells (net_of (tasks_of b)) (λ f. told_by f seats) → ((t : ℕ) → t < task_count (tasks_of b) → told_by (finishes t) seats ≡ 1)
      → AreThrough g.tasks ws
  through tells done = record {
    tells = subst (λ (ss : List (WorkerSeat C)). Tells (net_of g.tasks) (λ f. told_by f ss)) h.seats_are
        (subst (λ (x : Graph). Tells (net_of x.tasks) (λ f. told_by f seats)) h.graph tells);
    done = λ t l. subst (λ (ss : List (WorkerSeat C)). told_by (finishes t) ss ≡ 1) h.seats_are
        (done t (subst (λ (x : Graph). t < task_count x.tasks) (sym h.graph) l));
    journals = λ i d l. subst (λ (x : Graph). IsJournalOf x.tasks (number_of (get_or ws i d)) (did (get_or ws i d)) (lines_of (get_or ws i d))) h.told
        (h.workers i d l).journal;
  }

  -- each line is of a worker of the crew
  pub who : (n : ℕ) → All (λ w. number_of w < n) ws → AreThrough g.tasks ws → All (λ (line : Line). line.worker < n) (flat_map lines_of ws)
  who n few t = lines_by n ws few t.journals

  -- the copied lines, sorted
  pub sorted : CountLaw C → IsGraph g.tasks → AreThrough g.tasks ws → (room : ℕ) → task_count g.tasks ≤ room → (copied lines : List Line)
      → (length (flat_map lines_of ws) ≤ room → copied ≡ flat_map lines_of ws) → IsPermutation copied lines
      → IsNonDecreasingBy (λ (line : Line). line.start) lines → AreSortedLines ws lines
  sorted law graph t room fits copied lines copies same starts = record {
    permutation = subst (λ (xs : List Line). IsPermutation xs lines) (copies (omega (arith, law g.tasks ws graph t, fits))) same;
    starts = starts;
  }
