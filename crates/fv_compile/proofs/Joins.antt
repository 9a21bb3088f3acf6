-- Graphs that are put one after another.
use Rattle.std.proofs.Common.{◌≡◌, inl, inr, ℕ, ◌+◌, ◌-◌, ◌<◌, ◌≤◌, List, [], ◌∷◌, ◌++◌, ℤ, length, take, get_or, All, refl, sym, ap, ◌∙◌, subst, arith, pos}
use Rattle.std.specs.Prelude.{Result, Ok, Err, IfOk, OnOk}
use Rattle.std.proofs.lemmas.Bool.{cases_lt}
use Rattle.std.proofs.lemmas.List.{get_or_append_left, get_or-append_right, get_or-map, get_or_default}
use Rattle.std.proofs.lemmas.List.{length-append, length-map, append-nil, take_all, take_more}
use Rattle.std.proofs.lemmas.List.Sums.{sum_by_more, sum_by_more_le}
use Rattle.std.proofs.lemmas.List.Elements.{All-append, All-from_get_or, All-map}
use Rattle.std.specs.List.{flat_map}
use Rattle.std.proofs.lemmas.Grind.{flat_map-append}
use Rattle.fv_analysis.specs.headline.Stands.{node, StandsAt}
use Rattle.fv_signal.specs.declared.signal.Signal.{Signal}
use Rattle.fv_signal.specs.declared.signal.Signal.TheVariants.{Input, Const, Control, Point, Delay, Back, Member, Read, Write}
use Rattle.fv_signal.specs.headline.Value.{Graph, value, IsGraph}
use Rattle.fv_share.specs.Drafts.{Draft, AreClosed, graph_of}
use Rattle.fv_share.proofs.lemmas.Kept.{tables_stay}
use Rattle.fv_compile.specs.declared.job.Job.{Job}
use Rattle.fv_compile.specs.declared.graph_copy.Offsets.{Offsets}
use Rattle.fv_compile.specs.Jobs.{CanBeJoined, NamesBelow, ReadsWithin, inputs_of, controls_of, outputs_of}
use Rattle.fv_compile.specs.Joined.{HasDelay, IsJoined, IsNamed, KeepsValues, output}
use Rattle.fv_compile.specs.inner.Copied.{renumbered, IsAppended, IsCopied, IsOneOf, IsValid}
use Rattle.fv_compile.proofs.Images.{all_below, at_prefix, image_stays, prefix_long}
use Rattle.fv_compile.proofs.lemmas.Values.{keeps}

-- one more item
flat_map_snoc : {A B : Type 0} (f : A → List B) (xs : List A) (x : A) → flat_map f (xs ++ x ∷ []) ≡ flat_map f xs ++ f x
flat_map_snoc f xs x = flat_map-append f xs (x ∷ []) ∙ ap (λ ys. flat_map f xs ++ ys) (append-nil (f x))

-- the numbers after those of the jobs before job k
abbrev pub behind : List Job → (k groups tables : ℕ) → Offsets
behind jobs k groups tables = record { inputs = inputs_of (take k jobs); controls = controls_of (take k jobs); groups = groups; tables = tables }

-- the tables of the jobs, one after another
abbrev pub tables_of : List Job → List (List ℤ)
tables_of jobs = flat_map (λ (j : Job). j.graph.tables) jobs

-- the graph of job k stands in a draft, and its outputs among all
pub record Stands (jobs : List Job) (k : ℕ) (job : Job) (d : Draft) (outs : List ℕ) : Type 0 where
  pub whole : IsGraph job.graph
  pub images : ℕ → ℕ
  pub groups : ℕ
  pub tables : ℕ
  pub copied : IsCopied job.graph (graph_of d []) images (behind jobs k groups tables)
  pub room : outputs_of (take k jobs) + length job.graph.outputs ≤ length outs
  pub outputs : (j : ℕ) → j < length job.graph.outputs → get_or outs (outputs_of (take k jobs) + j) 0 ≡ images (output job.graph j)

-- a signal is one of those of the first n jobs
pub record IsOfJob (jobs : List Job) (n : ℕ) (signal : Signal) : Type 0 where
  pub number : ℕ
  pub within : number < n
  pub job : Job
  pub is : (e : Job) → get_or jobs number e ≡ job
  pub groups : ℕ
  pub tables : ℕ
  pub one : IsOneOf job.graph (behind jobs number groups tables) (length job.graph.signals) signal

-- the first n jobs stand in a draft, and nothing else
pub record AreJoined (jobs : List Job) (n : ℕ) (d : Draft) (outs : List ℕ) : Type 0 where
  pub valid : IsValid d
  pub closed : AreClosed d
  pub wide : length outs ≡ outputs_of (take n jobs)
  pub tables : d.tables ≡ tables_of (take n jobs)
  pub there : All (λ s. s < length d.signals) outs
  pub each : (k : ℕ) (e : Job) → k < n → Stands jobs k (get_or jobs k e) d outs
  pub made : (i : ℕ) → i < length d.signals → IsOfJob jobs n (get_or d.signals i (Const (pos 0)))

-- ---- one job more

-- a job's graph stays where it is
stands_on : (jobs : List Job) (k : ℕ) (job : Job) (d new : Draft) (outs more : List ℕ) (g : Graph) (inputs controls : ℕ) → Stands jobs k job d outs
    → IsAppended g inputs controls d new more → Stands jobs k job new (outs ++ more)
stands_on jobs k job d new outs more g inputs controls h a =
    let o = behind jobs k h.groups h.tables in
    let long : length d.signals ≤ length new.signals = prefix_long d.signals new.signals a.grows in record {
      whole = h.whole;
      images = h.images;
      groups = h.groups;
      tables = h.tables;
      copied = record {
        there = λ s l. let t = h.copied.there s l in omega (arith, t, long);
        copies = λ s l.
            image_stays job.graph d.signals new.signals h.images h.images o s (node job.graph s) (h.images s) a.grows (h.copied.there s l)
            (h.whole.ordered s (Const (pos 0)) l) (λ i m. refl) (h.copied.copies s l);
        groups = λ group l. let t = h.copied.groups group l in let m = a.more in omega (arith, t, m);
        definitions = λ group i l m. ap (λ ms. get_or ms i 0) (a.groups (h.groups + group) (h.copied.groups group l)) ∙ h.copied.definitions group i l m;
        tables = λ t l.
            let there = h.copied.tables t l in
            ap (λ ts. get_or ts (h.tables + t) []) a.tables ∙ tables_stay d.tables g.tables (h.tables + t) (omega (arith, ap length there, l)) ∙ there;
      };
      room = let r = h.room in omega (arith, r, length-append outs more);
      outputs = λ j l.
          let r = h.room in
          get_or_append_left outs more 0 (outputs_of (take k jobs) + j) (omega (arith, r, l)) ∙ h.outputs j l;
    }

-- and the next one stands after them
stands_next : (jobs : List Job) (n : ℕ) (job : Job) (d new : Draft) (outs more : List ℕ) → length outs ≡ outputs_of (take n jobs)
    → IsAppended job.graph (inputs_of (take n jobs)) (controls_of (take n jobs)) d new more → Stands jobs n job new (outs ++ more)
stands_next jobs n job d new outs more wide a =
    let many : length more ≡ length job.graph.outputs = ap length a.outputs ∙ length-map job.graph.outputs a.images in record {
      whole = a.whole;
      images = a.images;
      groups = length d.groups;
      tables = length d.tables;
      copied = a.copied;
      room = omega (arith, wide, many, length-append outs more);
      outputs = λ j l.
          let first = outputs_of (take n jobs) in
          let at_j : (first + j) - first ≡ j = omega arith in
          get_or-append_right outs more first (first + j) 0 wide (omega arith)
          ∙ ap (λ i. get_or more i 0) at_j ∙ ap (λ xs. get_or xs j 0) a.outputs ∙ get_or-map a.images job.graph.outputs j 0 0 l;
    }

pub one_job_more : (jobs : List Job) (n : ℕ) (job : Job) (d new : Draft) (outs more : List ℕ) → AreJoined jobs n d outs → n < length jobs
    → ((e : Job) → get_or jobs n e ≡ job) → IsAppended job.graph (inputs_of (take n jobs)) (controls_of (take n jobs)) d new more
    → AreJoined jobs (n + 1) new (outs ++ more)
one_job_more jobs n job d new outs more h l is a =
    let many : length more ≡ length job.graph.outputs = ap length a.outputs ∙ length-map job.graph.outputs a.images in
    let sum = sum_by_more (λ (j : Job). length j.graph.outputs) jobs n job l in
    let own : length (let j = get_or jobs n job in j.graph.outputs) ≡ length job.graph.outputs = ap (λ (j : Job). length j.graph.outputs) (is job) in
    let long : length d.signals ≤ length new.signals = prefix_long d.signals new.signals a.grows in record {
      valid = a.valid;
      closed = a.closed h.closed;
      wide = omega (arith, length-append outs more, h.wide, many, sum, own);
      tables = a.tables ∙ ap (λ ts. ts ++ job.graph.tables) h.tables ∙ sym (flat_map_snoc (λ (j : Job). j.graph.tables) (take n jobs) job)
          ∙ ap tables_of (ap (λ j. take n jobs ++ j ∷ []) (sym (is job)) ∙ sym (take_more jobs n job l));
      there = All-append (λ s. s < length new.signals) outs more (all_below (length d.signals) (length new.signals) outs long h.there)
          (subst (All (λ s. s < length new.signals)) (sym a.outputs)
          (All-map (λ s. s < length new.signals) a.images job.graph.outputs
          (All-from_get_or (λ s. a.images s < length new.signals) job.graph.outputs 0 (λ j m. a.copied.there (output job.graph j) (a.whole.outputs j m)))));
      each = λ k e m. elim (cases_lt k n) [
        | inl b ↦ stands_on jobs k (get_or jobs k e) d new outs more job.graph (inputs_of (take n jobs)) (controls_of (take n jobs)) (h.each k e b) a
        | inr b ↦
            let at_n : n ≡ k = omega (arith, b, m) in
            subst (λ i. Stands jobs i (get_or jobs i e) new (outs ++ more)) at_n
            (subst (λ j. Stands jobs n j new (outs ++ more)) (sym (is e)) (stands_next jobs n job d new outs more h.wide a))
      ];
      made = λ i m. elim (cases_lt i (length d.signals)) [
        | inl b ↦
            let q = h.made i b in
            let w = q.within in record {
              number = q.number;
              within = omega (arith, w);
              job = q.job;
              is = q.is;
              groups = q.groups;
              tables = q.tables;
              one = subst (IsOneOf q.job.graph (behind jobs q.number q.groups q.tables) (length q.job.graph.signals))
                  (sym (at_prefix d.signals new.signals i (Const (pos 0)) a.grows b)) q.one;
            }
        | inr b ↦ record {
          number = n;
          within = omega arith;
          job = job;
          is = is;
          groups = length d.groups;
          tables = length d.tables;
          one = a.made i b m;
        }
      ];
    }

-- ---- all jobs

-- a Delay that a signal is renumbered to
delay_named : (p : ℕ → ℕ) (o : Offsets) (m : Signal) (x by max : ℕ) → Delay x by max ≡ renumbered p o m → (y : ℕ) × (c : ℕ) × (m ≡ Delay y c max)
delay_named p o (Delay y c most) x by max e = let same : max ≡ most = cc in (y, c, ap (λ k. Delay y c k) (sym same))
delay_named p o (Input j) x by max e = absurd cc
delay_named p o (Const j) x by max e = absurd cc
delay_named p o (Control j) x by max e = absurd cc
delay_named p o (Point op args) x by max e = absurd cc
delay_named p o (Back own j) x by max e = absurd cc
delay_named p o (Member own j) x by max e = absurd cc
delay_named p o (Read table r) x by max e = absurd cc
delay_named p o (Write table w y r) x by max e = absurd cc

-- an Input and a Control that a signal is renumbered to
input_named : (p : ℕ → ℕ) (o : Offsets) (m : Signal) (i : ℕ) → Input i ≡ renumbered p o m → (own : ℕ) × (m ≡ Input own) × (i ≡ o.inputs + own)
input_named p o (Input j) i e = (j, refl, cc)
input_named p o (Const j) i e = absurd cc
input_named p o (Control j) i e = absurd cc
input_named p o (Point op args) i e = absurd cc
input_named p o (Delay x by max) i e = absurd cc
input_named p o (Back own j) i e = absurd cc
input_named p o (Member own j) i e = absurd cc
input_named p o (Read table r) i e = absurd cc
input_named p o (Write table w y r) i e = absurd cc

control_named : (p : ℕ → ℕ) (o : Offsets) (m : Signal) (k : ℕ) → Control k ≡ renumbered p o m → (own : ℕ) × (m ≡ Control own) × (k ≡ o.controls + own)
control_named p o (Input j) k e = absurd cc
control_named p o (Const j) k e = absurd cc
control_named p o (Control j) k e = (j, refl, cc)
control_named p o (Point op args) k e = absurd cc
control_named p o (Delay x by max) k e = absurd cc
control_named p o (Back own j) k e = absurd cc
control_named p o (Member own j) k e = absurd cc
control_named p o (Read table r) k e = absurd cc
control_named p o (Write table w y r) k e = absurd cc

-- the numbers that a signal names, after others
names_behind : (p : ℕ → ℕ) (o : Offsets) (m : Signal) (inputs controls more most : ℕ) → NamesBelow inputs controls m → o.inputs + inputs ≤ more
    → o.controls + controls ≤ most → NamesBelow more most (renumbered p o m)
names_behind p o (Input k) inputs controls more most b i c = omega (arith, b, i)
names_behind p o (Const n) inputs controls more most b i c = tt
names_behind p o (Control k) inputs controls more most b i c = omega (arith, b, c)
names_behind p o (Point op args) inputs controls more most b i c = tt
names_behind p o (Delay x d max) inputs controls more most b i c = tt
names_behind p o (Back group k) inputs controls more most b i c = tt
names_behind p o (Member group k) inputs controls more most b i c = tt
names_behind p o (Read table r) inputs controls more most b i c = tt
names_behind p o (Write table w x r) inputs controls more most b i c = tt

module _ (jobs : List Job) (d : Draft) (outs : List ℕ) (h : AreJoined jobs (length jobs) d outs) (can : CanBeJoined jobs)
    (made : IsGraph (graph_of d outs)) where
  abbrev f : Graph
  f = graph_of d outs

  keep_values : KeepsValues jobs f
  keep_values k e l j m X c t =
      let job = get_or jobs k e in
      let s = h.each k e l in
      ap (λ i. value f i X c t) (s.outputs j m)
      ∙ keeps job.graph f s.images (behind jobs k s.groups s.tables) job.inputs job.controls s.whole made
      (record {
        there = s.copied.there;
        copies = s.copied.copies;
        groups = s.copied.groups;
        definitions = s.copied.definitions;
        tables = s.copied.tables;
      }) (can.reads k e l) X c
      (output job.graph j) t (s.whole.outputs j m)

  have_delays : (s x by max : ℕ) → StandsAt f s (Delay x by max) → HasDelay jobs max
  have_delays s x by max stands =
      let q = h.made s stands.within in
      let one = q.one in
      let named = delay_named one.images (behind jobs q.number q.groups q.tables) (node q.job.graph one.place) x by max (sym stands.is ∙ one.is) in record {
        number = q.number;
        within = q.within;
        s = one.place;
        x = named.0;
        by = named.1;
        stands = λ e. subst (λ (j : Job). StandsAt j.graph one.place (Delay named.0 named.1 max)) (sym (q.is e))
            (record { within = one.within; is = named.2 });
      }

  have_inputs : (s i : ℕ) → StandsAt f s (Input i) → IsNamed inputs_of Input jobs i
  have_inputs s i stands =
      let q = h.made s stands.within in
      let one = q.one in
      let named = input_named one.images (behind jobs q.number q.groups q.tables) (node q.job.graph one.place) i (sym stands.is ∙ one.is) in record {
        number = q.number;
        within = q.within;
        own = named.0;
        is = named.2;
        s = one.place;
        stands = λ e. subst (λ (j : Job). StandsAt j.graph one.place (Input named.0)) (sym (q.is e)) (record { within = one.within; is = named.1 });
      }

  have_controls : (s k : ℕ) → StandsAt f s (Control k) → IsNamed controls_of Control jobs k
  have_controls s k stands =
      let q = h.made s stands.within in
      let one = q.one in
      let named = control_named one.images (behind jobs q.number q.groups q.tables) (node q.job.graph one.place) k (sym stands.is ∙ one.is) in record {
        number = q.number;
        within = q.within;
        own = named.0;
        is = named.2;
        s = one.place;
        stands = λ e. subst (λ (j : Job). StandsAt j.graph one.place (Control named.0)) (sym (q.is e)) (record { within = one.within; is = named.1 });
      }

  read_within : ReadsWithin (inputs_of jobs) (controls_of jobs) f
  read_within s e l =
      let q = h.made s l in
      let one = q.one in
      let job = q.job in
      let own = subst (λ (j : Job). ReadsWithin j.inputs j.controls j.graph) (q.is job) (can.reads q.number job q.within) in
      let i = sum_by_more_le (λ (j : Job). j.inputs) jobs q.number job q.within in
      let c = sum_by_more_le (λ (j : Job). j.controls) jobs q.number job q.within in
      let same_i = ap (λ (j : Job). j.inputs) (q.is job) in
      let same_c = ap (λ (j : Job). j.controls) (q.is job) in
      subst (NamesBelow (inputs_of jobs) (controls_of jobs)) (sym one.is ∙ get_or_default d.signals s (Const (pos 0)) e l)
      (names_behind one.images (behind jobs q.number q.groups q.tables) (node job.graph one.place) job.inputs job.controls (inputs_of jobs) (controls_of jobs)
      (own one.place (Const (pos 0)) one.within) (omega (arith, i, same_i)) (omega (arith, c, same_c)))

  joined : IsJoined jobs f
  joined = record {
    finished = made;
    values = keep_values;
    tables = h.tables ∙ ap tables_of (take_all (length jobs) jobs (omega arith));
    width = h.wide ∙ ap outputs_of (take_all (length jobs) jobs (omega arith));
    delays = have_delays;
    reads = read_within;
    inputs = have_inputs;
    controls = have_controls;
  }

pub joined_result : {E : Type 0} (jobs : List Job) (d : Draft) (outs : List ℕ) (r : Result Graph E) → AreJoined jobs (length jobs) d outs → CanBeJoined jobs
    → IfOk r (λ f. f ≡ graph_of d outs) → OnOk r (IsGraph (graph_of d outs)) → IfOk r (IsJoined jobs)
joined_result jobs d outs (Ok f) h can is made = subst (IsJoined jobs) (sym is) (joined jobs d outs h can made)
joined_result jobs d outs (Err e) h can is made = tt

-- ---- no jobs

pub none_joined : (jobs : List Job) → AreJoined jobs 0 (record { signals = []; groups = []; closed = []; tables = [] }) []
none_joined jobs = record {
  valid = record { marked = refl; fresh = λ k l s i x m e. absurd (omega (arith, m)) };
  closed = λ k l. absurd (omega (arith, l));
  wide = refl;
  tables = refl;
  there = λ k d l. absurd (omega (arith, l));
  each = λ k e l. absurd (omega (arith, l));
  made = λ i l. absurd (omega (arith, l));
}
