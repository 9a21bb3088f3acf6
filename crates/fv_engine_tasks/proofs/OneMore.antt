-- One task more of a block.
use Rattle.std.proofs.Common.{◌≡◌, ◌≢◌, inl, inr, ℕ, zero, suc, ◌+◌, ◌-◌, ◌*◌, ◌<◌, ◌≤◌, Bool, true, false, ◌&&◌}
use Rattle.std.proofs.Common.{◌==◌, List, [], ◌∷◌, ◌++◌, length, refl, sym, ap, ◌∙◌, subst, arith, ltb, lt-ltb, ltb-true, get_or, set}
use Rattle.std.proofs.Common.{nat_eq, not, mod-lt, div-add-mod', length-set}
use Rattle.std.proofs.lemmas.Bool.{cases_eq, cases_lt, cases_Bool, ltb-false, le-ltb, cond-true, cond-false, eq-eqb, ne_eqb}
use Rattle.std.proofs.lemmas.List.{get_or_push, get_or_append_left, length_push, get_or-set_same, get_or-set_other}
use Rattle.fv_outside.specs.headline.Tasks.{Tasks, bit, total, reads_task, reads_loop}
use Rattle.fv_outside.specs.Tasks.{task_count}
use Rattle.fv_outside.specs.headline.Journal.{is_line_of}
use Rattle.fv_outside.specs.declared.tasks.Task.{Task}
use Rattle.fv_outside.specs.declared.gate.Line.{Line}
use Rattle.fv_graph.specs.Graph.{task_at, loop_of, vector_of}
use Rattle.fv_graph.specs.Core.{Now, is_done}
use Rattle.fv_graph.proofs.lemmas.Counts.{total_append, total_set, bit_same, both_of, either_left, either_right}
use Rattle.fv_graph.proofs.lemmas.Graphs.{unique}
use Rattle.fv_graph.proofs.lemmas.Ranges.{quotient_small}
use Rattle.fv_loopcode.specs.headline.State.{State}
use Rattle.fv_loopcode.specs.headline.Code.{ran}
use Rattle.fv_loopcode.specs.Code.{MayRun, frame_of}
use Rattle.fv_loopcode.specs.Obeys.{Content, IsLike}
use Rattle.fv_loopcode.specs.Words.{argument}
use Rattle.fv_loopcode.specs.Blocks.{AreApart, before, one_more, TaskIsFree}
use Rattle.fv_engine_tasks.specs.Block.{Block, ObeysBlock, HoldUpTo, IsReal}
use Rattle.fv_engine_tasks.specs.Events.{IsFree}
use Rattle.fv_engine_tasks.specs.Jobs.{IsJob, left_to_do}
use Rattle.fv_graph.specs.Ready.{TakesReady}
use Rattle.fv_engine_tasks.specs.Underway.{IsTaskIn, IsSoFar, IsUnderway, line_at, no_line}
use Rattle.fv_engine_tasks.specs.inner.Lines.{line_of}
use Rattle.fv_engine_tasks.proofs.lemmas.Numbers.{at, number_is, below, inside, same_step}

more_same : (j : ℕ) (f : ℕ → ℕ) → one_more j f j ≡ suc (f j)
more_same j f = cond-true (nat_eq j j) (suc (f j)) (f j) (eq-eqb j j refl)

more_other : (j k : ℕ) (f : ℕ → ℕ) → k ≢ j → one_more j f k ≡ f k
more_other j k f n = cond-false (nat_eq k j) (suc (f k)) (f k) (ne_eqb k j n)

-- what holds of each line, and of one more
module _ (P : ℕ → Line → Type 0) (lines : List Line) (line : Line) where
  pub at_push : ((k : ℕ) → k < length lines → P k (line_at lines k)) → P (length lines) line
      → (k : ℕ) → k < length (lines ++ line ∷ []) → P k (line_at (lines ++ line ∷ []) k)
  at_push h y k l = elim (cases_lt k (length lines)) [
    | inl i ↦ subst (P k) (sym (get_or_append_left lines (line ∷ []) no_line k i)) (h k i)
    | inr m ↦
        let e : length lines ≡ k = let q = length_push lines line in omega arith in
        subst (P k) (sym (get_or_push lines line no_line k e)) (subst (λ x. P x line) e y)
  ]

-- one task less is left
pub one_less : (g : Tasks) (s : Now) (t : ℕ) → length s.done ≡ task_count g → TakesReady g s t
    → left_to_do (set s.done t true) + 1 ≡ left_to_do s.done
one_less g s t long r =
    let z = total_set (λ d. bit (not d)) s.done t true false (omega (arith, long, r.within)) in
    let o : bit (not (get_or s.done t false)) ≡ 1 = ap (λ d. bit (not d)) r.fresh in omega (arith, z, o)

-- how many frames a block's vector has
abbrev frames_in : Block → (vector : ℕ) → ℕ
frames_in b v = before b.vector b.frames (suc v) - before b.vector b.frames v

-- a task of a block may run over this state
abbrev pub MayRunTask : Block → Task → State → Type 0
MayRunTask b x state =
    MayRun (b.plan.loops.code x.loop_no) (argument b.held) (frame_of b.input b.channels) (before b.vector b.frames x.vector) (frames_in b x.vector) state

-- the state after it
abbrev pub task_ran : Block → Task → State → State
task_ran b x state =
    ran (b.plan.loops.code x.loop_no) (argument b.held) (frame_of b.input b.channels) (before b.vector b.frames x.vector) (frames_in b x.vector) state

-- it may run, and the places then hold what they do after `more` vectors of each loop
abbrev MakesMore : Block → Content → (vectors : ℕ → ℕ) → Task → State → Type 0
MakesMore b f more x state = MayRunTask b x state × IsLike state (task_ran b x state) × HoldUpTo b f more (task_ran b x state)

-- a task that may be taken next, of a block under way
pub record IsNext (g : Tasks) (b : Block) (first : State) (s : Now) (state : State) (lines : List Line) (t : ℕ) : Type 0 where
  pub job : IsJob b g
  pub underway : IsUnderway g b first s state lines
  pub ready : TakesReady g s t

pub is_next : {g : Tasks} {b : Block} {first : State} {s : Now} {state : State} {lines : List Line} {t : ℕ}
    → IsJob b g → IsUnderway g b first s state lines → TakesReady g s t → IsNext g b first s state lines t
is_next job underway ready = record { job = job; underway = underway; ready = ready }

module _ {g : Tasks} {b : Block} {first : State} {s : Now} {state : State} {lines : List Line} {t : ℕ} (next : IsNext g b first s state lines t) where
  abbrev u : IsUnderway g b first s state lines
  u = next.underway

  abbrev j : ℕ
  j = loop_of g t

  abbrev v : ℕ
  v = vector_of g t

  t_is : task_at g j v ≡ t
  t_is = div-add-mod' t g.loops

  j_in : j < g.loops
  j_in = mod-lt t next.job.some

  v_in : v < g.vectors
  v_in = quotient_small t g.vectors g.loops next.ready.within

  reads_done : (i w : ℕ) → i < g.loops → w < g.vectors → reads_task g (at j v) (at i w) ≡ true → w < u.vectors i
  reads_done i w l m h =
      let named = ap (reads_task g (at j v)) (number_is g i w l) ∙ h in
      ltb-true w (u.vectors i) (sym (u.done i w l m) ∙ next.ready.reads (task_at g i w) (below g i w l m) named)

  at_most : u.vectors j ≤ v
  at_most = ltb-false v (u.vectors j) (sym (u.done j v j_in v_in) ∙ ap (is_done s) t_is ∙ next.ready.fresh)

  at_least : (w : ℕ) → w ≡ v → w ≤ u.vectors j
  at_least zero e = omega arith
  at_least (suc w) e =
      let m : w < g.vectors = let z = v_in in omega (arith, e, z) in
      let own = either_left ((j == j) && ((w + 1) == v)) (reads_loop g.reads j j && (w == v))
      (both_of (j == j) ((w + 1) == v) (eq-eqb j j refl) (eq-eqb (w + 1) v (omega (arith, e)))) in
      let q = reads_done j w j_in m own in omega (arith, q)

  in_turn : u.vectors j ≡ v
  in_turn = let a = at_most in let c = at_least v refl in omega (arith, a, c)

  order : (i : ℕ) → reads_loop g.reads j i ≡ true → i ≢ j → u.vectors j < u.vectors i
  order i h n =
      let l : i < g.loops = let z = next.job.lower j i h in let y = j_in in omega (arith, z, y) in
      let other = either_right ((i == j) && ((v + 1) == v)) (reads_loop g.reads j i && (v == v))
      (both_of (reads_loop g.reads j i) (v == v) h (eq-eqb v v refl)) in
      let q = reads_done i v l v_in other in omega (arith, q, in_turn)

  abbrev more : ℕ → ℕ
  more = one_more j u.vectors

  more_at : (w : ℕ) → w ≡ v → ltb w (more j) ≡ true
  more_at w e = lt-ltb w (more j) (omega (arith, more_same j u.vectors, in_turn, e))

  -- a task other than this is done where it was
  others : (k w : ℕ) → (k ≡ j → w ≡ v → ⊥) → ltb w (u.vectors k) ≡ ltb w (more k)
  others k w n = elim (cases_eq k j) [
    | inl e ↦
        let old = ap (λ x. ltb w (u.vectors x)) e ∙ ap (ltb w) in_turn in
        let new = ap (λ x. ltb w (more x)) e ∙ ap (ltb w) (more_same j u.vectors) ∙ ap (λ x. ltb w (suc x)) in_turn in
        old ∙ same_step w v (n e) ∙ sym new
    | inr m ↦ sym (ap (ltb w) (more_other j k u.vectors m))
  ]

  done_more : (k w : ℕ) → k < g.loops → w < g.vectors → get_or (set s.done t true) (task_at g k w) false ≡ ltb w (more k)
  done_more k w l m = elim (cases_eq (task_at g k w) t) [
    | inl e ↦
        let q = unique w k v j g.loops l j_in (e ∙ sym t_is) in
        ap (λ x. get_or (set s.done t true) x false) e ∙ get_or-set_same s.done t true false (omega (arith, u.tasks, next.ready.within))
        ∙ sym (more_at w q.0) ∙ sym (ap (λ x. ltb w (more x)) q.1)
    | inr n ↦
        get_or-set_other s.done t (task_at g k w) true false n ∙ u.done k w l m
        ∙ others k w (λ e f. n (ap (λ x. task_at g x w) e ∙ ap (task_at g j) f ∙ t_is))
  ]

  abbrev line : Line
  line = line_of (at j v) (length lines)

  each_more : (x : Task) → IsTaskIn g x → total (λ y. bit (is_line_of x y)) (lines ++ line ∷ []) ≡ bit (ltb x.vector (more x.loop_no))
  each_more x i =
      let z = total_append (λ y. bit (is_line_of x y)) lines (line ∷ []) in
      let old = u.journal.each x i in
      elim (cases_eq x.loop_no j) [
        | inl e ↦ elim (cases_eq x.vector v) [
          | inl f ↦
              let here = ap (λ k. ltb x.vector (u.vectors k)) e ∙ ap (ltb x.vector) in_turn in
              let one : bit (is_line_of x line) ≡ 1 = ap (λ c. bit (c && (v == x.vector))) (eq-eqb j x.loop_no (sym e)) ∙ bit_same v x.vector (sym f) in
              let none : bit (ltb x.vector (u.vectors x.loop_no)) ≡ 0 = ap bit (here ∙ le-ltb x.vector v (omega (arith, f))) in
              let new : bit (ltb x.vector (more x.loop_no)) ≡ 1 = ap bit (ap (λ k. ltb x.vector (more k)) e ∙ more_at x.vector f) in
              omega (arith, z, old, one, none, new)
          | inr n ↦
              let other = ap (λ c. bit ((j == x.loop_no) && c)) (ne_eqb v x.vector (λ q. n (sym q))) in
              let zer : bit (is_line_of x line) ≡ 0 = other ∙ and_false (j == x.loop_no) in
              let same = ap bit (others x.loop_no x.vector (λ _. n)) in omega (arith, z, old, zer, same)
        ]
        | inr n ↦
            let zer : bit (is_line_of x line) ≡ 0 = ap (λ c. bit (c && (v == x.vector))) (ne_eqb j x.loop_no (λ q. n (sym q))) in
            let same = ap bit (others x.loop_no x.vector (λ e _. n e)) in omega (arith, z, old, zer, same)
      ]
    where
      and_false : (a : Bool) → bit (a && false) ≡ 0
      and_false true = refl
      and_false false = refl

  rises : (k : ℕ) → u.vectors k ≤ more k
  rises k = elim (cases_eq k j) [
    | inl e ↦ let a = ap u.vectors e in let c = ap more e in omega (arith, a, c, more_same j u.vectors)
    | inr n ↦ omega (arith, more_other j k u.vectors n)
  ]

  reads_new : (x : Task) → IsTaskIn g x → reads_task g (at j v) x ≡ true → x.vector < more x.loop_no
  reads_new x i h = let q = reads_done x.loop_no x.vector i.0 i.1 h in let z = rises x.loop_no in omega (arith, q, z)

  -- the task of no line before the m-th reads that of this line
  abbrev IsBehind : ℕ → Line → Type 0
  IsBehind m y = (k : ℕ) → k < m → reads_task g (line_at (lines ++ line ∷ []) k).task y.task ≡ false

  behind_so : (k : ℕ) (y : Line) → k < length lines → reads_task g (line_at lines k).task y.task ≡ false
      → reads_task g (line_at (lines ++ line ∷ []) k).task y.task ≡ false
  behind_so k y l h = subst (λ (x : Line). reads_task g x.task y.task ≡ false) (sym (get_or_append_left lines (line ∷ []) no_line k l)) h

  not_yet : (k : ℕ) → k < length lines → reads_task g (line_at lines k).task (at j v) ≡ false
  not_yet k l = elim (cases_Bool (reads_task g (line_at lines k).task (at j v))) [
    | inl e ↦ absurd (let q = u.journal.reads k (at j v) l (j_in, v_in) e in omega (arith, q, in_turn))
    | inr e ↦ e
  ]

  journal_more : IsSoFar g more (lines ++ line ∷ [])
  journal_more = record {
    each = each_more;
    only = at_push (λ k y. IsTaskIn g y.task) lines line u.journal.only (j_in, v_in);
    starts = at_push (λ k y. y.start ≡ 2 * k) lines line u.journal.starts refl;
    finishes = at_push (λ k y. y.finish ≡ 2 * k + 1) lines line u.journal.finishes refl;
    behind = λ k m l i. at_push IsBehind lines line
        (λ m i k l. behind_so k (line_at lines m) (omega (arith, l, i)) (u.journal.behind k m l i)) (λ k l. behind_so k line l (not_yet k l)) m i k l;
    reads = λ k x l i h. at_push (λ k y. (x : Task) → IsTaskIn g x → reads_task g y.task x ≡ true → x.vector < more x.loop_no) lines line
        (λ k l x i h. let q = u.journal.reads k x l i h in let z = rises x.loop_no in omega (arith, q, z)) reads_new k l x i h;
  }

  -- its vector begins within the frames
  pub begins_inside : v * b.vector < b.frames
  begins_inside = inside b.frames b.vector v next.job.vector (subst (λ n. v < n) next.job.vectors v_in)

  -- its code may run, and what comes of it
  module _ (law : TaskIsFree) where
    makes_more : (f : Content) → ObeysBlock b f → HoldUpTo b f u.vectors state → MakesMore b f more (at j v) state
    makes_more f o h =
        let apart = subst (λ n. AreApart b.plan.loops n (length state.cells)) (sym u.long)
        (subst (AreApart b.plan.loops b.plan.lanes) (sym u.cells) next.job.apart) in
        let made = law b.plan.loops f (argument b.held) (frame_of b.input b.channels) b.vector b.frames j (record { vectors = u.vectors; state = state })
        o.obeys apart h (λ i e n. order i (sym (next.job.same j i) ∙ e) n) in
        subst (λ x. MakesMore b f more (at j x) state) in_turn made

    pub may : IsReal b first → MayRunTask b (at j v) state
    may real = (makes_more real.content real.obeys (u.holds real.content real.obeys real.begins)).0

    pub one_more_done : IsReal b first → (z : Now) → z.done ≡ set s.done t true → IsFree z
        → IsUnderway g b first z (task_ran b (at j v) state) (lines ++ line ∷ [])
    one_more_done real z d a = record {
      vectors = more;
      within = λ k. elim (cases_eq k j) [
        | inl e ↦ let x = ap more e in let y = v_in in omega (arith, x, more_same j u.vectors, in_turn, y)
        | inr n ↦ omega (arith, more_other j k u.vectors n, u.within k)
      ];
      done = λ k w i m. ap (λ xs. get_or xs (task_at g k w) false) d ∙ done_more k w i m;
      tasks = ap length d ∙ length-set s.done t true ∙ u.tasks;
      free = a;
      long = (makes_more real.content real.obeys (u.holds real.content real.obeys real.begins)).1.lanes ∙ u.long;
      cells = (makes_more real.content real.obeys (u.holds real.content real.obeys real.begins)).1.cells ∙ u.cells;
      holds = λ f p h. (makes_more f p (u.holds f p h)).2;
      journal = journal_more;
      counted = let e = ap left_to_do d in let q = one_less g s t u.tasks next.ready in let m = length_push lines line in
          let w = u.counted in omega (arith, e, q, m, w);
    }
