-- Parts of a crew and its seats, put together, are a crew.
use Rattle.std.proofs.Common.{◌≡◌, ℕ, ◌-◌, ◌<◌, List, [], ◌∷◌, length, map, reverse, replicate, get_or, vec_capacity}
use Rattle.std.proofs.Common.{refl, sym, ap, ◌∙◌, subst, arith}
use Rattle.std.proofs.lemmas.List.{get_or-reverse, length-map, length-replicate}
use Rattle.atomic_table.specs.Seated.{TableId}
use Rattle.fv_outside.specs.headline.Tasks.{Tasks}
use Rattle.fv_outside.specs.Tasks.{task_count}
use Rattle.fv_graph.specs.Graph.{Graph}
use Rattle.fv_ready.specs.declared.view.About.{About}
use Rattle.fv_ready.specs.declared.seat.WorkerSeat.{WorkerSeat}
use Rattle.fv_steal.specs.declared.handles.TaskDeque.{TaskDeque}
use Rattle.fv_steal.specs.Deques.{account_of}
use Rattle.fv_steal.specs.declared.part.Part.{Part}
use Rattle.fv_steal.specs.declared.worker.Worker.{Worker}
use Rattle.fv_steal.specs.Crews.{seat_of, AreFreshSeats, IsCrew}
use Rattle.fv_steal.specs.inner.Made.{puts_of, rest_of}
use Rattle.fv_steal.specs.inner.Assembled.{IsPart, AreFrom, AreCrewParts}
use Rattle.fv_steal.proofs.Crewing.{IsMade, crew_made, map_two}

map_self : {X : Type 0} (xs : List X) → map (λ x. x) xs ≡ xs
map_self [] = refl
map_self (x ∷ xs) = ap (λ ys. x ∷ ys) (map_self xs)

abbrev as_part : {C : Type 0} → Worker C → Part C
as_part w = record { deque = w.deque; victims = w.victims; parcels = w.parcels; lines = w.lines }

module _ {C : Type 0} (g : Tasks) (n : ℕ) (ps : List (Part C)) (seats : List (WorkerSeat C)) (ws : List (Worker C))
    (parts : AreCrewParts g n ps) (many : length seats ≡ length ps) (h : AreFrom ps (reverse seats) 0 ws) where
  -- the seat of each worker
  seat_there : (i : ℕ) (d : Worker C) (e : WorkerSeat C) → i < length ws → (get_or ws i d).seat ≡ get_or seats i e
  seat_there i d e l = let f = h.each i d l in let o = h.long in
      f.seat e ∙ get_or-reverse seats (length ps - 1 - i) e (omega arith) ∙ ap (λ j. get_or seats j e) (omega arith)

  pub made_at : (i : ℕ) (d : Worker C) → i < length ws → IsMade g seats parts.deques parts.victims i (get_or ws i d)
  made_at i d l =
      let w = get_or ws i d in let f = h.each i d l in let o = h.long in let q = parts.parts.long in
      let e = f.part (as_part w) in
      let is : length parts.deques - 1 - (length ps - 1 - i) ≡ i = omega arith in
      let p : IsPart (task_count g) parts.most parts.deques parts.victims i (get_or ps (length ps - 1 - i) (as_part w)) =
      subst (λ j. IsPart (task_count g) parts.most parts.deques parts.victims j (get_or ps (length ps - 1 - i) (as_part w))) is
      (parts.parts.each (length ps - 1 - i) (as_part w) (omega arith)) in record {
        number = f.number;
        seat = λ s. seat_there i d s l;
        deque = λ t. ap (λ (k : Part C). k.deque) e ∙ p.deque t;
        holds = λ v. ap (λ (k : Part C). k.victims) e ∙ p.holds v;
        no_lines = ap (λ (k : Part C). k.lines.items) e ∙ p.no_lines;
        lines_room = let r = ap (λ (k : Part C). vec_capacity k.lines) e in let m = p.lines_room in omega arith;
        no_parcels = ap (λ (k : Part C). k.parcels.items) e ∙ p.no_parcels;
        parcels_room = λ t there. let r = ap (λ (k : Part C). vec_capacity k.parcels) e in let m = p.parcels_room in let b = parts.edges t there in
            let b0 = b.0 in let b1 = b.1 in (omega arith, omega arith);
      }

  pub seats_are : map seat_of ws ≡ seats
  seats_are = let o = h.long in map_two seat_of (λ s. s) ws seats (omega arith) seat_there ∙ map_self seats

-- n deques have n parts
pub long_puts : (ds : List TaskDeque) (n : ℕ) → puts_of ds ≡ replicate n [] → length ds ≡ n
long_puts ds n is = sym (length-map ds (λ (d : TaskDeque). (account_of d).put)) ∙ ap length is ∙ length-replicate n []

pub long_parts : {C : Type 0} (g : Tasks) (n : ℕ) (ps : List (Part C)) → AreCrewParts g n ps → length ps ≡ n
long_parts g n ps h = let l = h.parts.long in let c = h.lent.count in
    let r = sym (length-map h.dealt_to rest_of) ∙ ap length h.rests ∙ length-replicate n (task_count g, 0, []) in omega arith

-- of a board whose seats are fresh
pub crew_is : {C Key : Type 0} (edge_of : C → ℕ) (key_of : C → Key) (g : Graph) (id : TableId) (a : About C) (n : ℕ) (ps : List (Part C))
    (seats : List (WorkerSeat C)) (ws : List (Worker C)) → 0 < n → length seats ≡ n → AreCrewParts g.tasks n ps → length ps ≡ n
    → AreFrom ps (reverse seats) 0 ws → AreFreshSeats edge_of key_of g id a seats → IsCrew edge_of key_of id a ws
crew_is {C} edge_of key_of g id a n ps seats ws some many parts long h fresh =
    let p : AreCrewParts a.tasks.value.tasks n ps = subst (λ (k : Graph). AreCrewParts k.tasks n ps) (sym fresh.0) parts in
    crew_made edge_of key_of id a n seats p.dealt_to p.deques p.victims ws fresh.2 (fresh.1 ∙ many) many p.puts p.rests p.lent
    (let o = h.long in omega arith) (made_at a.tasks.value.tasks n ps seats ws p (many ∙ sym long) h) some
