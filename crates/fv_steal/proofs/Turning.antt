-- What a turn leaves of a worker: its list, its slots, its journal.
use Rattle.std.proofs.Common.{◌≡◌, ◌≢◌, ℕ, zero, suc, ◌+◌, ◌*◌, ◌/◌, ◌%◌, ◌<◌, ◌≤◌, Bool, true, false, ◌&&◌, ◌==◌, ltb, List, [], ◌∷◌, ◌++◌, length, map, refl}
use Rattle.std.proofs.Common.{sym, ap, ◌∙◌, arith, true≢false, All, div-add-mod'}
use Rattle.std.proofs.lemmas.List.{map_push}
use Rattle.std.proofs.lemmas.List.Elements.{All-push}
use Rattle.fv_outside.specs.headline.Tasks.{Tasks, bit}
use Rattle.fv_outside.specs.Tasks.{times, task_count}
use Rattle.fv_outside.specs.declared.gate.Line.{Line}
use Rattle.fv_graph.specs.Graph.{net_of, feeds_of, task_of, task_at}
use Rattle.fv_graph.specs.Wires.{IsWires, wires_of}
use Rattle.fv_graph.proofs.lemmas.Counts.{bit_le, bit_same, bit_apart, bit_left, eq_of, total_append}
use Rattle.fv_graph.proofs.lemmas.Few.{fewer}
use Rattle.fv_ready.specs.declared.view.Deed.{Deed}
use Rattle.fv_ready.specs.declared.view.Deed.TheVariants.{Stamped, Arrived, Saw, Claimed}
use Rattle.fv_ready.specs.declared.view.View.{View}
use Rattle.fv_ready.specs.Rule.{done_by, noted, wins, claims, arrives, finishes, stamps, zeroes}
use Rattle.fv_ready.specs.Whole.{starts_at, finishes_at}
use Rattle.fv_ready.proofs.lemmas.Hands.{done_noted}
use Rattle.fv_steal.specs.inner.Steps.{Looked, HasArrived, PutBetween}
use Rattle.fv_steal.specs.Crews.{number_in, IsLineOf, IsJournalOf}

gone : (i : Bool) (fo fn left ao an fed : ℕ) (same : Bool) → ao ≡ bit (i && ltb 0 fo) → left + an ≡ bit (i && ltb 0 fn) → an ≡ ao + fed
    → fed ≡ bit (i && same) → (same ≡ true → fo ≡ 0) → (same ≡ false → fn ≡ fo) → left ≡ 0
gone false fo fn left ao an fed same a b c d z q = omega arith
gone true fo fn left ao an fed true a b c d z q = let l = bit_le (ltb 0 fn) in omega arith
gone true fo fn left ao an fed false a b c d z q = let e : bit (ltb 0 fn) ≡ bit (ltb 0 fo) = ap (λ k. bit (ltb 0 k)) (q refl) in omega arith

-- a turn in which the task was won: looks, the claim, both stamps, and the arrivals
pub record IsTurn {C : Type 0} (g : Tasks) (t s f : ℕ) (old saw new : View C) : Type 0 where
  pub looked : Looked old saw
  pub arrived : HasArrived (feeds_of g t) (noted (noted (noted saw (Claimed t true)) (Stamped s t true)) (Stamped f t false)) new

module _ {C : Type 0} (g : Tasks) (t s f : ℕ) (old saw new : View C) (h : IsTurn g t s f old saw new) where
  -- what the list gained, of anything but looks and arrivals
  pub gained : (p : Deed → ℕ) → ((u c : ℕ) → p (Saw u c) ≡ 0) → ((e c : ℕ) → p (Arrived e c) ≡ 0)
      → done_by p new ≡ done_by p old + p (Claimed t true) + p (Stamped s t true) + p (Stamped f t false)
  gained p none none' =
      let a = h.arrived.others p none' in let l = h.looked p none in
      let x = done_noted p saw (Claimed t true) in let y = done_noted p (noted saw (Claimed t true)) (Stamped s t true) in
      let z = done_noted p (noted (noted saw (Claimed t true)) (Stamped s t true)) (Stamped f t false) in omega arith

  pub wins_more : (x : ℕ) → done_by (wins x) new ≡ done_by (wins x) old + bit (t == x)
  wins_more x = let p = gained (wins x) (λ u c. refl) (λ e c. refl) in omega arith

  pub claims_more : (x : ℕ) → done_by (claims x) new ≡ done_by (claims x) old + bit (t == x)
  claims_more x = let p = gained (claims x) (λ u c. refl) (λ e c. refl) in omega arith

  pub finishes_more : (x : ℕ) → done_by (finishes x) new ≡ done_by (finishes x) old + bit (t == x)
  finishes_more x = let p = gained (finishes x) (λ u c. refl) (λ e c. refl) in omega arith

  pub stamps_more : (n : ℕ) → done_by (stamps n) new ≡ done_by (stamps n) old + bit (s == n) + bit (f == n)
  stamps_more n = let p = gained (stamps n) (λ u c. refl) (λ e c. refl) in omega arith

  pub starts_more : (k x : ℕ) → done_by (starts_at k x) new ≡ done_by (starts_at k x) old + bit ((t == x) && (s == k))
  starts_more k x = let p = gained (starts_at k x) (λ u c. refl) (λ e c. refl) in omega arith

  pub ends_more : (k x : ℕ) → done_by (finishes_at k x) new ≡ done_by (finishes_at k x) old + bit ((t == x) && (f == k))
  ends_more k x = let p = gained (finishes_at k x) (λ u c. refl) (λ e c. refl) in omega arith

  pub arrives_more : (e : ℕ) → done_by (arrives e) new ≡ done_by (arrives e) old + times e (feeds_of g t)
  arrives_more e = let a = h.arrived.arrived e in let l = h.looked (arrives e) (λ u c. refl) in
      let x = done_noted (arrives e) saw (Claimed t true) in let y = done_noted (arrives e) (noted saw (Claimed t true)) (Stamped s t true) in
      let z = done_noted (arrives e) (noted (noted saw (Claimed t true)) (Stamped s t true)) (Stamped f t false) in omega arith

  -- what was put is what was dealt and what became ready
  pub put_after : (put put' dealt : List ℕ) → ((x : ℕ) → times x put ≡ times x dealt + done_by (zeroes (net_of g) x) old)
      → PutBetween (net_of g) (noted (noted (noted saw (Claimed t true)) (Stamped s t true)) (Stamped f t false)) new put put'
      → (x : ℕ) → times x put' ≡ times x dealt + done_by (zeroes (net_of g) x) new
  put_after put put' dealt was b x =
      let p = b x in let w = was x in let n = net_of g in let l = h.looked (zeroes n x) (λ u c. refl) in
      let i = done_noted (zeroes n x) saw (Claimed t true) in let j = done_noted (zeroes n x) (noted saw (Claimed t true)) (Stamped s t true) in
      let k = done_noted (zeroes n x) (noted (noted saw (Claimed t true)) (Stamped s t true)) (Stamped f t false) in omega arith

  -- each edge out of a finished task has arrived, so no slot is left
  pub none_owed : IsWires (wires_of g) → t < task_count g → done_by (finishes t) old ≡ 0
      → ((e : ℕ) → done_by (arrives e) old ≡ bit ((net_of g).is_inner e && ltb 0 (done_by (finishes ((net_of g).source e)) old)))
      → (left : List ℕ) → ((e : ℕ) → times e left + done_by (arrives e) new ≡ bit ((net_of g).is_inner e && ltb 0 (done_by (finishes
      ((net_of g).source e)) new)))
      → (e : ℕ) → times e left ≡ 0
  none_owed ws there fresh was left now e =
      let src = (net_of g).source e in let fin = finishes_more src in
      gone ((net_of g).is_inner e) (done_by (finishes src) old) (done_by (finishes src) new) (times e left) (done_by (arrives e) old)
      (done_by (arrives e) new) (times e (feeds_of g t)) (src == t) (was e) (now e) (arrives_more e) (ws.is_net.feeds_once t e there)
      (λ q. ap (λ k. done_by (finishes k) old) (eq_of src t q) ∙ fresh)
      (λ q. let b = bit_apart t src (λ r. true≢false (sym (Rattle.std.proofs.Common.eq-eqb src t (sym r)) ∙ q)) in omega arith)

-- ---- the journal
pub number_is : (g : Tasks) (t : ℕ) (line : Line) → line.task ≡ task_of g t → number_in g line ≡ t
number_is g t line is = ap (λ (k : Rattle.fv_outside.specs.declared.tasks.Task.Task). task_at g k.loop_no k.vector) is ∙ div-add-mod' t g.loops

module _ {C : Type 0} (g : Tasks) (worker : ℕ) where
  pub stays : (v w : View C) → ((k x : ℕ) → done_by (starts_at k x) v ≤ done_by (starts_at k x) w)
      → ((k x : ℕ) → done_by (finishes_at k x) v ≤ done_by (finishes_at k x) w) → (lines : List Line) → All (IsLineOf g worker v) lines
      → All (IsLineOf g worker w) lines
  stays v w a b lines h k d l = let r = h k d l in record {
    there = r.there;
    who = r.who;
    start = let p = a (Rattle.std.proofs.Common.get_or lines k d).start (number_in g (Rattle.std.proofs.Common.get_or lines k d)) in let q = r.start in
        omega arith;
    finish = let p = b (Rattle.std.proofs.Common.get_or lines k d).finish (number_in g (Rattle.std.proofs.Common.get_or lines k d)) in let q = r.finish in
        omega arith;
    spans = r.spans;
  }

  pub journal_more : (t : ℕ) (old saw new : View C) (lines : List Line) (line : Line) → IsTurn g t line.start line.finish old saw new
      → line.task ≡ task_of g t → line.worker ≡ worker → line.start < line.finish → (line.task.loop_no < g.loops) × (line.task.vector < g.vectors)
      → IsJournalOf g worker old lines → IsJournalOf g worker new (lines ++ line ∷ [])
  journal_more t old saw new lines line h is who spans there j =
      let s = line.start in let f = line.finish in
      let n : number_in g line ≡ t = number_is g t line is in
      let b = bit_same t (number_in g line) (sym n) in record {
        each = λ x. let m = ap (times x) (map_push (number_in g) lines line) in let a = total_append (λ y. bit (y == x)) (map (number_in g) lines)
            (number_in g line ∷ []) in
            let e = j.each x in let w = wins_more g t s f old saw new h x in let q : bit (number_in g line == x) ≡ bit (t == x) = ap (λ k. bit (k == x)) n in
            omega arith;
        stamps = λ k. let a = total_append (λ (l : Line). bit (l.start == k) + bit (l.finish == k)) lines (line ∷ []) in let e = j.stamps k in
            let w = stamps_more g t s f old saw new h k in omega arith;
        each_line = All-push (IsLineOf g worker new) lines line
            (stays old new (λ k x. let p = starts_more g t s f old saw new h k x in omega arith) (λ k x. let p = ends_more g t s f old saw new h k x in
            omega arith) lines j.each_line)
            (record {
              there = there;
              who = who;
              start = let p = starts_more g t s f old saw new h s (number_in g line) in
                  let c = bit_left (t == number_in g line) (s == s) (Rattle.std.proofs.Common.eq-eqb t (number_in g line) (sym n)) in
                  let o = bit_same s s refl in omega arith;
              finish = let p = ends_more g t s f old saw new h f (number_in g line) in
                  let c = bit_left (t == number_in g line) (f == f) (Rattle.std.proofs.Common.eq-eqb t (number_in g line) (sym n)) in
                  let o = bit_same f f refl in omega arith;
              spans = spans;
            });
      }

-- there is room for the line: its task was not won before
pub line_room : {C : Type 0} (g : Tasks) (worker t : ℕ) (v : View C) (lines : List Line) → IsJournalOf g worker v lines → ((x : ℕ) → done_by (wins x) v < 2)
    → ((x : ℕ) → task_count g ≤ x → done_by (wins x) v ≡ 0) → t < task_count g → done_by (wins t) v ≡ 0 → length lines < task_count g
line_room g worker t v lines j once within there fresh =
    let l = Rattle.std.proofs.lemmas.List.length-map lines (number_in g) in
    let f = fewer (task_count g) t (map (number_in g) lines) (λ x. let e = j.each x in let o = once x in omega arith)
    (λ x m. j.each x ∙ within x m) there (j.each t ∙ fresh) in omega arith
