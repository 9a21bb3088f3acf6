-- The law of the steps, from what each of them keeps and shows.
use Rattle.std.proofs.Common.{◌≡◌, ◌≢◌, ℕ, ◌+◌, ◌-◌, ◌%◌, ◌^◌, ◌<◌, ◌⊎◌, ⊎_elim, Bool, true, false, cond, List, [], ◌∷◌}
use Rattle.std.proofs.Common.{length, set, slice_index, refl, sym, ap, ◌∙◌, subst, arith, ◌==◌, Option, Some, None, MatchBool, get_or-set_same}
use Rattle.std.proofs.lemmas.List.{set-get_or}
use mathlib.Core.Option.{some, none}
use mathlib.Core.Logic.{dite}
use native.Mathlib.Decide.{ℕ_discrete}
use lib.ListN.{get_elem?}
use Rattle.atomic_table.specs.Table.{State, Me, Act, homes_after, carried_after, stepped}
use Rattle.fv_graph.specs.Tasks.{Tasks, bit}
use Rattle.fv_graph.specs.TasksBeside.{task_count}
use Rattle.fv_graph.specs.Net.{Net}
use Rattle.fv_graph.specs.Graph.{IsGraph, net_of, edges_of}
use Rattle.fv_graph.specs.Wires.{IsWires}
use Rattle.fv_graph.proofs.lemmas.Graphs.{is_wires}
use Rattle.fv_graph.proofs.lemmas.Counts.{bit_same, bit_apart, bit_one, get_set}
use Rattle.fv_graph.specs.Core.{Now}
use Rattle.fv_graph.specs.Lean.{lean_after}
use Rattle.fv_graph.specs.declared.event.Event.TheVariants.{Take, Finish, Arrive}
use Rattle.fv_ready.specs.declared.view.Deed.{Deed}
use Rattle.fv_ready.specs.declared.view.Deed.TheVariants.{Stamped, Arrived, Saw, Claimed}
use Rattle.fv_ready.specs.declared.view.About.{About}
use Rattle.fv_ready.specs.declared.view.View.{View}
use Rattle.fv_ready.specs.Wired.{graph_wires}
use Rattle.fv_ready.specs.Rule.{count_word, claim_word, wins, sees, finishes, arrives, done_by, all, noted, together, Took, IsFresh, Each}
use Rattle.fv_ready.specs.Shown.{worker_of, OwesNothing}
use Rattle.fv_ready.specs.Carried.{IsFree, IsBusy, AreHanded, IsMine, HasKey}
use Rattle.fv_ready.specs.Steps.{ShowsNow, Changes, cut_at, joined_at, AreAsBefore, Meets, Steps, StepLaw}
use Rattle.fv_ready.specs.Whole.{AllKnow}
use Rattle.atomic_table.proofs.Lists.{set_else, set_again}
use Rattle.fv_ready.proofs.lemmas.Splits.{all_cut, had_cut, each_cut, whole_cut, shows_cut}
use Rattle.fv_ready.proofs.Joined.{all_joined, had_joined}
use Rattle.fv_ready.proofs.lemmas.Closing.{whole_joins, gives_back}
use Rattle.fv_ready.proofs.lemmas.Claim.{tell, all_at}
use Rattle.fv_ready.proofs.Back.{all_gap}
use Rattle.fv_ready.proofs.lemmas.Claims.{claims_whole}
use Rattle.fv_ready.proofs.Shows.{IsTake, may_take, shows_taken}
use Rattle.fv_ready.proofs.Finishes.{IsFinish, shows_same, shows_finished, may_finish}
use Rattle.fv_ready.proofs.Arrives.{IsArrival, shows_arrived, may_arrive}
use Rattle.fv_ready.proofs.WholeSteps.{shows_words}
use Rattle.fv_ready.proofs.lemmas.Load.{looks}
use Rattle.fv_ready.proofs.lemmas.Starting.{starting}
use Rattle.fv_ready.proofs.lemmas.Numbers.{behind}
use Rattle.fv_ready.proofs.Arrive.{one_less}
use Rattle.fv_ready.proofs.lemmas.Arriving.{arriving}
use Rattle.fv_ready.proofs.lemmas.Leaving.{leads, parts, leaving, dropped}
use Rattle.fv_ready.proofs.lemmas.Hands.{free_owes, free_mine, claim_busy, busy_won, busy_mine, exchange_busy, is_owed, finish_free}

module _ {C Key : Type 0} (edge_of : C → ℕ) (key_of : C → Key) (a : About C) (graph : IsGraph a.tasks.value.tasks)
    (few : task_count a.tasks.value.tasks < 2 ^ 62) (id : ℕ) (v : View C) (c : List (ℕ × Option C)) (ab : v.board ≡ Some a) where
  abbrev g : Tasks
  g = a.tasks.value.tasks

  abbrev n : Net
  n = net_of g

  ws : IsWires (graph_wires a.tasks.value)
  ws = is_wires g graph

  -- what is shown, with the words and slots after the step
  shown_at : (s : State (Option C) (View C)) (z : Now) (d : Deed) (words' : List ℕ) (act : Act (Option C)) (w : View C) → w ≡ noted v d →
      ShowsNow a record { words = words'; homes = s.homes; views = set s.views id (noted v d) } z
      → ShowsNow a record { words = words'; homes = homes_after s.homes c act; views = set s.views id w } z
  shown_at s z d words' act w e sh = subst (λ (u : View C). ShowsNow a record
      { words = words'; homes = homes_after s.homes c act; views = set s.views id u } z) (sym e)
      (shows_words {C = C} {S = Option C} n a.workers record { words = words'; homes = s.homes; views = set s.views id (noted v d) } z sh
      words' (homes_after s.homes c act) (λ x l. refl))

  stays : (s : State (Option C) (View C)) → get_elem? s.views id ≡ some v → (d : Deed) → ((x : ℕ) → wins x d ≡ 0) →
      ((x : ℕ) → finishes x d ≡ 0) → ((x : ℕ) → arrives x d ≡ 0) → (i m : ℕ) (act : Act (Option C)) (w : View C) → w ≡ noted v d
      → ((x : ℕ) → x < n.tasks → slice_index (set s.words i m) (count_word x) ≡ slice_index s.words (count_word x)) → Changes a s
      (stepped s i m id c w act) None
  stays s at d no_win no_finish no_arrival i m act w e same z sh = shown_at s z d (set s.words i m) act w e
      (shows_same {C = C} {S = Option C} n a.workers s z sh {id = id} {v = v} {d = d} {words' = set s.words i m} record
      { at = at; no_win = no_win; no_finish = no_finish; no_arrival = no_arrival; word_is = same })

  law_look : (t : ℕ) → Steps edge_of key_of a id (v, c) (count_word t) (λ k. k) (λ _. None) (λ k me. me ≡ (noted v (Saw t k), c))
  law_look t s h at wide =
      let k = slice_index s.words (count_word t) in
      let r = looks graph_wires edge_of key_of a (v, c) t id (edges_of g) (count_word t) ab refl s h h.kept.homes_long at wide in
      let e : r.0 ≡ noted v (Saw t k) = r.4.0 ∙ ap (λ u. noted v (Saw u k)) (let q : count_word t - 1 ≡ t = omega arith in q) in (
        r.0,
        r.1,
        r.2,
        r.3,
        stays s at (Saw t k) (λ x. refl) (λ x. refl) (λ x. refl) (count_word t) k r.1 r.0 e
            (λ x l. ap (λ ks. slice_index ks (count_word x)) (set-get_or s.words (count_word t) 0)),
        (λ i. (e i, r.4.1 i)),
      )

  law_claim : (t : ℕ) → t < n.tasks → 0 < done_by (sees t) v → IsFree graph_wires edge_of key_of a v c → c ≡ []
      → Steps edge_of key_of a id (v, c) (claim_word n.tasks t) (λ _. 1) (λ k. cond (k == 0) (Some (Take (worker_of v) t)) None)
      (λ k me. (me.0 ≡ noted v (Claimed t (k == 0))) × MatchBool (k == 0) (IsBusy graph_wires edge_of key_of a t false me.0 me.1) (me.1 ≡ []))
  law_claim t there saw free none' s h at wide =
      let cw = claim_word n.tasks t in
      let k = slice_index s.words cw in
      let owes : OwesNothing n v = free_owes graph_wires edge_of key_of a v (subst (λ l. IsFree graph_wires edge_of key_of a v l) none' free) in
      let r = claims_whole graph_wires edge_of key_of a (v, c) t id ab ws there saw owes s h h.kept.homes_long at wide in
      let told = tell graph_wires edge_of key_of a (v, c) (r.0, carried_after c r.1) (edges_of g) n.tasks t k ab refl r.4 in
      let inw : cw < length s.words = let l = h.kept.words_long in omega arith in
      let counts : (x : ℕ) → x < n.tasks → slice_index (set s.words cw 1) (count_word x) ≡ slice_index s.words (count_word x) = λ x l.
      get_set (λ m. m ≡ slice_index s.words (count_word x)) s.words cw (count_word x) 1 0 inw (λ q. absurd (omega arith)) (λ _. refl) in
      let ready : slice_index s.words (count_word t) ≡ 0 = h.kept.seen t there (let b = all_at (sees t) s.views id v at in omega arith) in
      let shown : (b : Bool) → (k == 0) ≡ b → r.0 ≡ noted v (Claimed t b) → Changes a s (stepped s cw 1 id c r.0 r.1)
      (cond b (Some (Take (worker_of v) t)) None) =
      λ b. elim b as (λ b. (k == 0) ≡ b → r.0 ≡ noted v (Claimed t b) → Changes a s (stepped s cw 1 id c r.0 r.1) (cond b (Some (Take (worker_of v) t)) None)) [
        | true ↦ (λ is e z sh. let first : all (wins t) s.views ≡ 0 = (let m = h.kept.claimed t there in
            let q = bit_one k 0 (subst (λ b. 0 < bit b) (sym is) (omega arith)) in omega arith) in
            let take : IsTake {C = C} {S = Option C} n s id t v = record { at = at; there = there; ready = ready; first = first; owes = owes } in (
              may_take {C = C} {S = Option C} n a.workers s z sh take,
              subst (λ (u : View C). ShowsNow a record {
                words = set s.words cw 1;
                homes = homes_after s.homes c r.1;
                views = set s.views id u;
              } (lean_after n z (Take (worker_of v) t))) (sym e)
                  (shows_words {C = C} {S = Option C} n a.workers record {
                    words = s.words;
                    homes = s.homes;
                    views = set s.views id
                        (noted v (Claimed t true));
                  } (lean_after n z (Take (worker_of v) t))
                  (shows_taken {C = C} {S = Option C} n a.workers s z sh take)
                  (set s.words cw 1) (homes_after s.homes c r.1) counts),
            ))
        | false ↦ (λ is e. stays s at (Claimed t false) (λ x. refl) (λ x. refl) (λ x. refl) cw 1 r.1 r.0 e counts)
      ] in
      let won : (b : Bool) → r.0 ≡ noted v (Claimed t b) → MatchBool b (Took graph_wires edge_of key_of a
      ((graph_wires a.tasks.value).inward t) ((graph_wires a.tasks.value).outward t) c (carried_after c r.1) × IsFresh t v) (carried_after c r.1 ≡ c)
      → MatchBool b (IsBusy graph_wires edge_of key_of a t false r.0 (carried_after c r.1)) (carried_after c r.1 ≡ []) =
      λ b. elim b as (λ b. r.0 ≡ noted v (Claimed t b) → MatchBool b (Took graph_wires edge_of key_of a
      ((graph_wires a.tasks.value).inward t) ((graph_wires a.tasks.value).outward t) c (carried_after c r.1) × IsFresh t v) (carried_after c r.1 ≡ c)
      → MatchBool b (IsBusy graph_wires edge_of key_of a t false r.0 (carried_after c r.1)) (carried_after c r.1 ≡ [])) [
        | true ↦ (λ e m. subst (λ (u : View C). IsBusy graph_wires edge_of key_of a t false u (carried_after c r.1)) (sym e)
            (claim_busy graph_wires edge_of key_of a v (carried_after c r.1) t there owes m.1
            (subst (λ l. Took graph_wires edge_of key_of a ((graph_wires a.tasks.value).inward t)
            ((graph_wires a.tasks.value).outward t) l (carried_after c r.1)) none' m.0)))
        | false ↦ (λ e m. m ∙ none')
      ] in
      (r.0, r.1, r.2, r.3, shown (k == 0) refl told.0, (told.0, won (k == 0) told.0 told.1))

  law_start : (t : ℕ) → IsBusy graph_wires edge_of key_of a t false v c → Steps edge_of key_of a id (v, c) 0 (λ k. (k + 1) % 2 ^ 64)
      (λ _. None) (λ k me. me ≡ (noted v (Stamped k t true), c))
  law_start t busy s h at wide =
      let k = slice_index s.words 0 in
      let r = starting graph_wires edge_of key_of a ws v c t id (edges_of g) ab busy.there
      (let o = busy_won graph_wires edge_of key_of a v c t false busy in omega arith) busy.started busy.last few s h h.kept.homes_long at wide in
      let told = r.4 t busy.last in (
        r.0,
        r.1,
        r.2,
        r.3,
        stays s at (Stamped k t true) (λ x. refl) (λ x. refl) (λ x. refl) 0 ((k + 1) % 2 ^ 64) r.1 r.0 told.0 (λ x l. behind s.words x ((k + 1) % 2 ^ 64)),
        (λ i. (told.0 i, told.1 i)),
      )

  law_finish : (t : ℕ) → IsBusy graph_wires edge_of key_of a t true v c → AreHanded graph_wires edge_of key_of a t c
      → Steps edge_of key_of a id (v, c) 0 (λ k. (k + 1) % 2 ^ 64) (λ _. Some (Finish (worker_of v) t))
      (λ k me. (me.0 ≡ noted v (Stamped k t false)) × IsFree graph_wires edge_of key_of a me.0 me.1)
  law_finish t busy handed s h at wide =
      let k = slice_index s.words 0 in
      let out = leads g t in
      let r = leaving graph_wires edge_of key_of a ws v c t busy handed out id (edges_of g) ab few s h h.kept.homes_long at wide in
      let told = r.4 a ab t busy.last in
      let one = busy_won graph_wires edge_of key_of a v c t true busy in
      let nobody : all (finishes t) s.views ≡ 0 = let q = all_gap (finishes t) (wins t) s.views id v at
      (λ j u e. let o = h.kept.own j u e in let x = o.started_won t in let y = o.finished_started t in omega arith) in
      let w = h.kept.won_once t in let u = busy.unfinished in omega arith in
      let words' = set s.words 0 ((k + 1) % 2 ^ 64) in
      let same : (x : ℕ) → x < n.tasks → slice_index words' (count_word x) ≡ slice_index s.words (count_word x) = λ x l. behind s.words x ((k + 1) % 2 ^ 64) in
      let finish : IsFinish {C = C} {S = Option C} n s id t v words' = record
      { at = at; there = busy.there; won = one; unfinished = busy.unfinished; nobody = nobody; word_is = same } in
      let left : carried_after c r.1 ≡ (parts graph_wires edge_of key_of a ws v c t busy handed out).back = told.1 ∙ dropped graph_wires
      edge_of key_of a ws v c t busy handed out in (
        r.0,
        r.1,
        r.2,
        r.3,
        (λ z sh. (
          may_finish {C = C} {S = Option C} n ws.is_net a.workers s z sh finish k,
          shown_at s (lean_after n z (Finish (worker_of v) t)) (Stamped k t false) words' r.1 r.0 told.0
              (shows_finished {C = C} {S = Option C} n ws.is_net a.workers s z sh finish k),
        )),
        (
          told.0,
          subst (λ (m : Me (Option C) (View C)). IsFree graph_wires edge_of key_of a m.0 m.1) (λ i. (sym told.0 i, sym left i))
              (finish_free graph_wires edge_of key_of a ws v c t true busy handed out.exits out.is k),
        ),
      )

  module _ (e : ℕ) (x : Option C) (tail : List (ℕ × Option C)) (is : c ≡ (e, x) ∷ tail) (free : IsFree graph_wires edge_of key_of a v c) where
    law_arrive : Steps edge_of key_of a id (v, c) (count_word (n.reader e)) (λ k. (k + (2 ^ 64 - 1)) % 2 ^ 64)
        (λ _. Some (Arrive (worker_of v) e)) (λ k me. (me ≡ (noted v (Arrived e (k - 1)), tail)) × (0 < k))
    law_arrive s h at wide =
        let word = count_word (n.reader e) in
        let k = slice_index s.words word in
        let front = subst (λ l. IsFree graph_wires edge_of key_of a v l) is free in
        let o = is_owed graph_wires edge_of key_of a v ((e, x) ∷ tail) e front (let b = bit_same e e refl in omega arith) in
        let r = subst (λ l. Rattle.atomic_table.specs.Table.Allows (λ s. Rattle.fv_ready.specs.Whole.IsWhole graph_wires edge_of key_of a s)
        (edges_of g) id (v, l) word (λ k. (k + (2 ^ 64 - 1)) % 2 ^ 64)
        (Rattle.fv_ready.specs.Rule.Gives graph_wires (Rattle.atomic_table.specs.Table.step (edges_of g) word 1 0 none) (v, l))) (sym is)
        (arriving graph_wires edge_of key_of a ws v e x tail id (edges_of g) word ab o.inner o.done o.new front.full.0 refl) s h h.kept.homes_long at wide in
        let t0 : r.0 ≡ noted v (Arrived e (k - 1)) = r.4.0 ∙ ap (λ l. noted v (Arrived (Rattle.fv_ready.specs.Rule.front_edge l) (k - 1))) is in
        let t1 : carried_after c r.1 ≡ tail = r.4.1 ∙ ap (λ l. Rattle.atomic_table.specs.Table.rest l) is in
        let rise = ws.is_net.rises e o.inner in
        let inw : word < length s.words = let l = h.kept.words_long in let r1 = rise.1 in omega arith in
        let m = (k + (2 ^ 64 - 1)) % 2 ^ 64 in
        let less : m ≡ k - 1 = one_less k r.4.2 wide in
        let words' = set s.words word m in
        let word_is : (t : ℕ) → t < n.tasks → slice_index words' (count_word t) + bit (n.reader e == t) ≡ slice_index s.words
        (count_word t) = λ t l. dite (ℕ_discrete (n.reader e) t)
        (λ q. let b = bit_same (n.reader e) t q in let y = get_or-set_same s.words word m 0 inw in
        let u : slice_index words' (count_word t) ≡ slice_index words' word = ap (λ j. slice_index words' (count_word j)) (sym q) in
        let w : slice_index s.words (count_word t) ≡ k = ap (λ j. slice_index s.words (count_word j)) (sym q) in let p = r.4.2 in omega arith)
        (λ ne. let b = bit_apart (n.reader e) t ne in
        let y = get_set (λ j. j ≡ slice_index s.words (count_word t)) s.words word (count_word t) m 0 inw
        (λ q. absurd (ne (omega arith))) (λ _. refl) in omega arith) in
        let arrival : IsArrival {C = C} {S = Option C} n s id e v words' = record
        { at = at; inner = o.inner; done = o.done; new = o.new; word_is = word_is } in (
          r.0,
          r.1,
          r.2,
          r.3,
          (λ z sh. (
            may_arrive {C = C} {S = Option C} n ws.is_net a.workers s z sh arrival (k - 1),
            shown_at s (lean_after n z (Arrive (worker_of v) e)) (Arrived e (k - 1)) words' r.1 r.0 t0
                (shows_arrived {C = C} {S = Option C} n ws.is_net a.workers s z sh arrival (k - 1)),
          )),
          ((λ i. (t0 i, t1 i)), r.4.2),
        )

  law_leave : IsFree graph_wires edge_of key_of a v c ⊎ ((t : ℕ) × (started : Bool) × IsBusy graph_wires edge_of key_of a t started v c)
      → Steps edge_of key_of a id (v, c) 0 (λ k. k) (λ _. None) (λ k me. me ≡ (v, []))
  law_leave hand s h at wide =
      let k = slice_index s.words 0 in
      let mine : Each (λ e _. IsMine graph_wires edge_of key_of a v e) c × Each (λ _ x. HasKey graph_wires edge_of key_of a v x) c = ⊎_elim
      (λ (free : IsFree graph_wires edge_of key_of a v c). free_mine graph_wires edge_of key_of a ws v c free)
      (λ (b : (t : ℕ) × (started : Bool) × IsBusy graph_wires edge_of key_of a t started v c).
      busy_mine graph_wires edge_of key_of a ws v c b.0 b.1 b.2) hand in
      let r = gives_back graph_wires edge_of key_of a ws (v, c) (edges_of g) id ab mine.0 mine.1 s h h.kept.homes_long at wide in
      let views : s.views ≡ set s.views id r.0 = sym (ap (set s.views id) r.4.0 ∙ set_again s.views id v at) in (
        r.0,
        r.1,
        r.2,
        r.3,
        (λ z sh. subst (λ (us : List (View C)). ShowsNow a record { words = set s.words 0 k; homes = homes_after s.homes c r.1; views = us } z) views
            (shows_words {C = C} {S = Option C} n a.workers s z sh (set s.words 0 k) (homes_after s.homes c r.1)
            (λ x l. ap (λ ks. slice_index ks (count_word x)) (set-get_or s.words 0 0)))),
        (λ i. (r.4.0 i, r.4.1 i)),
      )

  law_split : v.deeds ≡ [] → 1 < length v.numbers → (s : State (Option C) (View C)) → Meets edge_of key_of a s → get_elem? s.views id ≡ some v
      → Meets edge_of key_of a (cut_at s id v) × AreAsBefore s (cut_at s id v) × (AllKnow a s → Changes a s (cut_at s id v) None)
  law_split fresh more s h at = (
    whole_cut graph_wires edge_of key_of a id v ab fresh more s h at,
    record { deeds = λ f. all_cut f s.views id v at; numbers = λ k. had_cut k s.views id v at },
    (λ know. shows_cut graph_wires edge_of key_of a id v ab fresh more s h at (each_cut s.views id v (λ y. y.board ≡ Some a) ab ab know)),
  )

  law_join : (other : ℕ) (w : View C) → other ≢ id → (s : State (Option C) (View C)) → Meets edge_of key_of a s → get_elem? s.views id ≡ some v
      → get_elem? s.views other ≡ some w → Meets edge_of key_of a (joined_at s id v other w) × AreAsBefore s (joined_at s id v other w)
  law_join other w apart s h at there = let at' = set_else s.views id other (together v w) apart ∙ there in (
    whole_joins graph_wires edge_of key_of a id other v w ab s h at apart at',
    record { deeds = λ f. all_joined f s.views id other v w at at'; numbers = λ k. had_joined k s.views id other v w at at' },
  )

  pub steps : StepLaw edge_of key_of a id v c
  steps = record {
    look = law_look;
    claim = law_claim;
    start = law_start;
    finish = law_finish;
    arrive = λ e x tail is free. law_arrive e x tail is free;
    exchange = λ t e started y busy may. exchange_busy graph_wires edge_of key_of a v c t started e y busy may;
    leave = law_leave;
    split = law_split;
    join = law_join;
  }
