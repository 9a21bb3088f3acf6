-- The graphs of programs as jobs, and the controls of all.
use Rattle.std.proofs.Common.{◌≡◌, ℕ, suc, ◌+◌, ◌<◌, ◌≤◌, List, [], ◌∷◌, ◌++◌, length, map, take, get_or, All}
use Rattle.std.proofs.Common.{refl, sym, ap, ◌∙◌, subst, ⊎_elim, arith, append_assoc}
use Rattle.std.proofs.lemmas.List.{get_or_append_left, get_or-map, length-append, length-map, length-take-le, map-append, take_more}
use Rattle.std.proofs.lemmas.List.Elements.{All-map}
use Rattle.std.proofs.lemmas.List.Sums.{sum_by-le}
use Rattle.std.proofs.Math.Seq.{get_or-append_seam}
use Rattle.std.proofs.lemmas.Bool.{cases_lt}
use Rattle.fv_diagram.specs.Limits.TheConstants.{MOST_CHANNELS}
use Rattle.fv_diagram.specs.declared.control.ControlInfo.{ControlInfo}
use Rattle.fv_diagram.specs.headline.Diagram.{Diagram, inputs}
use Rattle.fv_diagram.specs.Diagram.{control_bound, IsWellFormed}
use Rattle.fv_engine_render.specs.SideBySide.{AreJobsOf, IsJobOf}
use Rattle.fv_engine_render.specs.Controls.{span_of}
use Rattle.fv_jobs.specs.headline.Labels.{controls_from, labelled}
use Rattle.fv_compile.specs.declared.job.Job.{Job}
use Rattle.fv_compile.specs.Jobs.{CanBeJoined, NamesBelow, ReadsWithin}
use Rattle.fv_compile.specs.headline.Parts.{Part}
use Rattle.fv_propagate.proofs.lemmas.Named.{control_below}
use Rattle.fv_propagate.specs.headline.Propagated.{NamesOf}
use Rattle.fv_signal.specs.declared.signal.Signal.{Signal}
use Rattle.fv_signal.specs.declared.signal.Signal.TheVariants.{Input, Const, Control, Point, Delay, Back, Member, Read as ReadTable, Write as WriteTable}
use Rattle.fv_top_program.specs.headline.Compiled.{Compiled}
use Rattle.fv_top_program.specs.Compiled.{CanPlay, compiled_of}
use Rattle.fv_top_program.specs.headline.Racks.{part_of}
use Rattle.fv_top_program.specs.Reads.{IsRead, programs_in}
use Rattle.fv_top_program.specs.declared.programs.Read.{Read}
use Rattle.fv_top_program.proofs.lemmas.Sums.{own}
use Rattle.fv_diagram.specs.Limits.TheConstants.{VISIT_LIMIT}

-- ---- the graph of a program as a job

abbrev of : Read → Compiled
of r = compiled_of r.program

abbrev pub parts_in : List Read → List Part
parts_in rs = map part_of (programs_in rs)

-- it names only inputs and controls of its own
names_below : (d : Diagram) (n m : ℕ) (s : Signal) → NamesOf d s → n ≡ inputs d → control_bound d ≤ m → NamesBelow n m s
names_below d n m (Input k) h i c = subst (λ x. k < x) (sym i) h
names_below d n m (Const z) h i c = tt
names_below d n m (Control k) h i c = let below = control_below d k h in omega (arith, below, c)
names_below d n m (Point op args) h i c = tt
names_below d n m (Delay x by max) h i c = tt
names_below d n m (Back g k) h i c = tt
names_below d n m (Member g k) h i c = tt
names_below d n m (ReadTable table r) h i c = tt
names_below d n m (WriteTable table w x r) h i c = tt

own_names : (c : Compiled) (j : Job) → CanPlay c → IsJobOf j (part_of c) → ReadsWithin j.inputs j.controls j.graph
own_names c j plays of s d l =
    let reads = plays.reads in
    names_below c.diagram j.inputs j.controls _ (of.of.names s d l) of.inputs_are
    (omega (arith, reads, of.controls_are, length-map c.controls span_of))

-- ---- jobs one after another

-- the items of lists that grow at their ends
pushed : {A : Type 0} (xs : List A) (x d : A) (k : ℕ) → k < length xs → get_or (xs ++ x ∷ []) k d ≡ get_or xs k d
pushed xs x d k l = get_or_append_left xs (x ∷ []) d k l

last_of : {A : Type 0} (xs : List A) (x d : A) (k : ℕ) → k ≡ length xs → get_or (xs ++ x ∷ []) k d ≡ x
last_of xs x d k e = ap (λ i. get_or (xs ++ x ∷ []) i d) e ∙ get_or-append_seam xs x [] d

abbrev pub Each : List Job → List Part → Type 0
Each jobs ps = (k : ℕ) (j : Job) (p : Part) → k < length jobs → IsJobOf (get_or jobs k j) (get_or ps k p)

pub one_job_more : (jobs : List Job) (ps : List Part) (job : Job) (part : Part) → length jobs ≡ length ps → Each jobs ps → IsJobOf job part
    → Each (jobs ++ job ∷ []) (ps ++ part ∷ [])
one_job_more jobs ps job part long each is k j p l =
    ⊎_elim
    (λ (m : k < length jobs).
    subst (λ (q : Job). IsJobOf q (get_or (ps ++ part ∷ []) k p)) (sym (pushed jobs job j k m))
    (subst (IsJobOf (get_or jobs k j)) (sym (pushed ps part p k (omega (arith, m, long)))) (each k j p m)))
    (λ (m : length jobs ≤ k).
    let at : k ≡ length jobs = omega (arith, l, m, length-append jobs (job ∷ [])) in
    subst (λ (q : Job). IsJobOf q (get_or (ps ++ part ∷ []) k p)) (sym (last_of jobs job j k at))
    (subst (IsJobOf job) (sym (last_of ps part p k (at ∙ long))) is))
    (cases_lt k (length jobs))

-- the parts of first programs, and one more
pub parts_more : (rs : List Read) (n : ℕ) (r : Read) → n < length rs → r ≡ get_or rs n r
    → parts_in (take n rs) ++ part_of (compiled_of r.program) ∷ [] ≡ parts_in (take (n + 1) rs)
parts_more rs n r l is =
    let at : take (n + 1) rs ≡ take n rs ++ r ∷ [] = take_more rs n r l ∙ ap (λ (x : Read). take n rs ++ x ∷ []) (sym is) in
    sym (ap parts_in at ∙ ap (map part_of) (map-append of (take n rs) (r ∷ [])) ∙ map-append part_of (map of (take n rs)) (of r ∷ []))

pub parts_long : (rs : List Read) → length (parts_in rs) ≡ length rs
parts_long rs = length-map (programs_in rs) part_of ∙ length-map rs of

pub are_jobs : (rs : List Read) (jobs : List Job) → All IsRead rs → length jobs ≡ length rs → Each jobs (parts_in rs) → AreJobsOf jobs (parts_in rs)
are_jobs rs jobs read long each = record {
  long = long ∙ sym (parts_long rs);
  well = All-map (λ (p : Part). IsWellFormed p.diagram) part_of (programs_in rs)
      (All-map (λ (c : Compiled). IsWellFormed c.diagram) of rs (λ k d l. let r = read k d l in r.plays.well));
  each = each;
}

-- ---- all of them can be joined

module _ (rs : List Read) (jobs : List Job) (read : All IsRead rs) (few : length rs ≤ 16) (are : AreJobsOf jobs (parts_in rs)) where
  long_is : length jobs ≡ length rs
  long_is = are.long ∙ parts_long rs

  part_at : (k : ℕ) (d : Read) → k < length rs → get_or (parts_in rs) k (part_of (of d)) ≡ part_of (of (get_or rs k d))
  part_at k d l =
      get_or-map part_of (programs_in rs) k (of d) (part_of (of d)) (omega (arith, l, length-map rs of))
      ∙ ap part_of (get_or-map of rs k d (of d) l)

  -- a read that stands for none
  job_at : (k : ℕ) (j : Job) (d : Read) → (l : k < length jobs) → IsJobOf (get_or jobs k j) (part_of (of (get_or rs k d)))
  job_at k j d l =
      subst (IsJobOf (get_or jobs k j)) (part_at k d (let e = long_is in omega (arith, l, e))) (are.each k j (part_of (of d)) l)

  able : (k : ℕ) (d : Read) → k < length jobs → IsRead (get_or rs k d)
  able k d l = read k d (let e = long_is in omega (arith, l, e))

  pub can_be_joined : (d : Read) → CanBeJoined jobs
  can_be_joined d = record {
    reads = λ k j l. own_names (of (get_or rs k d)) (get_or jobs k j) (able k d l).plays (job_at k j d l);
    inputs =
        let most = sum_by-le (λ (j : Job). j.inputs) MOST_CHANNELS jobs (λ k j l.
        let narrow = (able k d l).plays.narrow in let is = (job_at k j d l).inputs_are in omega (arith, narrow, is)) in
        let e = long_is in omega (arith, most, e, few);
    controls =
        let most = sum_by-le (λ (j : Job). j.controls) VISIT_LIMIT jobs (λ k j l.
        let own = get_or rs k d in
        let count = (able k d l).controls in
        let is = (job_at k j d l).controls_are in omega (arith, count, is, length-map (of own).controls span_of)) in
        let e = long_is in omega (arith, most, e, few);
  }

pub none_joined : CanBeJoined []
none_joined = record { reads = λ k d l. absurd (omega (arith, l)); inputs = omega arith; controls = omega arith }

pub all_joined : (rs : List Read) (jobs : List Job) → All IsRead rs → length rs ≤ 16 → AreJobsOf jobs (parts_in rs) → CanBeJoined jobs
all_joined [] [] read few are = none_joined
all_joined [] (j ∷ jobs) read few are = let e = are.long in absurd (omega (arith, e))
all_joined (r ∷ rs) jobs read few are = can_be_joined (r ∷ rs) jobs read few are r

-- ---- the controls of all

controls_behind : (k : ℕ) (ps qs : List Compiled)
    → controls_from k (map own (ps ++ qs)) ≡ controls_from k (map own ps) ++ controls_from (k + length ps) (map own qs)
controls_behind k [] qs = ap (λ n. controls_from n (map own qs)) (omega arith)
controls_behind k (p ∷ ps) qs =
    ap (λ (cs : List ControlInfo). labelled k p.controls ++ cs)
    (controls_behind (k + 1) ps qs ∙ ap (λ n. controls_from (k + 1) (map own ps) ++ controls_from n (map own qs)) (omega arith))
    ∙ sym (append_assoc (labelled k p.controls) (controls_from (k + 1) (map own ps)) (controls_from (k + suc (length ps)) (map own qs)))

append_none : {A : Type 0} (xs : List A) → xs ++ [] ≡ xs
append_none [] = refl
append_none (x ∷ xs) = ap (λ ys. x ∷ ys) (append_none xs)

pub controls_more : (rs : List Read) (n : ℕ) (r : Read) → n < length rs → r ≡ get_or rs n r
    → controls_from 0 (map own (programs_in (take n rs))) ++ labelled n (compiled_of r.program).controls
    ≡ controls_from 0 (map own (programs_in (take (n + 1) rs)))
controls_more rs n r l is =
    let at : take (n + 1) rs ≡ take n rs ++ r ∷ [] = take_more rs n r l ∙ ap (λ (x : Read). take n rs ++ x ∷ []) (sym is) in
    let before = programs_in (take n rs) in
    let number : 0 + length before ≡ n = omega (arith, length-map (take n rs) of, length-take-le n rs (omega (arith, l))) in
    sym (ap (λ (xs : List Read). controls_from 0 (map own (programs_in xs))) at
    ∙ ap (λ (cs : List Compiled). controls_from 0 (map own cs)) (map-append of (take n rs) (r ∷ []))
    ∙ controls_behind 0 before (of r ∷ [])
    ∙ ap (λ (cs : List ControlInfo). controls_from 0 (map own before) ++ cs)
    (append_none (labelled (0 + length before) (of r).controls) ∙ ap (λ i. labelled i (of r).controls) number))
