-- What graphs side by side name, and how many outputs they have.
use Rattle.std.proofs.Common.{◌≡◌, inl, inr, ℕ, zero, suc, ◌+◌, ◌<◌, List, [], ◌∷◌, length, take, get_or, refl, sym, ap, ◌∙◌, subst, arith, pos}
use Rattle.std.specs.List.{sum_by}
use Rattle.std.proofs.lemmas.List.{get_or_default, take_all}
use Rattle.std.proofs.lemmas.List.Sums.{sum_by-cons}
use Rattle.fv_compile.specs.Stands.{StandsAt}
use Rattle.fv_propagate.specs.Signal.{Signal}
use Rattle.fv_propagate.specs.Signal.TheVariants as signal
use Rattle.fv_propagate.specs.Value.{Graph}
use Rattle.fv_diagram.specs.headline.Diagram.{Diagram, Primitive, Constant, Control, Slot, Wave, Table, Bind, Par, Seq, Split, Merge, Rec, inputs, outputs}
use Rattle.fv_propagate.specs.headline.Propagated.{HasControl, NamesOf}
use Rattle.fv_compile.specs.declared.job.Job.{Job}
use Rattle.fv_compile.specs.Jobs as jobs_have
use Rattle.fv_compile.specs.Jobs.{NamesBelow}
use Rattle.fv_compile.specs.Joined.{IsJoined}
use Rattle.fv_compile.specs.OfParts.{AreOfParts, JoinedAreWide, JoinedNames, NameOwn}
use Rattle.fv_compile.specs.headline.Parts.{Part, nothing, shifted, side_by_side}
use Rattle.fv_compile.specs.Parts.{controls_of}
use Rattle.fv_compile.proofs.Propagating.{same_sums}
use Rattle.fv_compile.proofs.Whole.{parts_are_whole}

-- ---- the controls of diagrams side by side

has_shifted : (n : ℕ) (d : Diagram) (j : ℕ) → HasControl d j → HasControl (shifted n d) (n + j)
has_shifted n (Primitive p) j h = absurd h
has_shifted n (Constant z) j h = absurd h
has_shifted n (Control k) j h = ap (λ i. n + i) h
has_shifted n (Slot s) j h = absurd h
has_shifted n (Wave w) j h = absurd h
has_shifted n (Table T writes) j h = absurd h
has_shifted n (Bind s a) j h = has_shifted n a j h
has_shifted n (Par a b) j h = elim h [ inl m ↦ inl (has_shifted n a j m) | inr m ↦ inr (has_shifted n b j m) ]
has_shifted n (Seq a b) j h = elim h [ inl m ↦ inl (has_shifted n a j m) | inr m ↦ inr (has_shifted n b j m) ]
has_shifted n (Split a b) j h = elim h [ inl m ↦ inl (has_shifted n a j m) | inr m ↦ inr (has_shifted n b j m) ]
has_shifted n (Merge a b) j h = elim h [ inl m ↦ inl (has_shifted n a j m) | inr m ↦ inr (has_shifted n b j m) ]
has_shifted n (Rec a b) j h = elim h [ inl m ↦ inl (has_shifted n a j m) | inr m ↦ inr (has_shifted n b j m) ]

-- a part's control, after those of the parts before it
has_part : (ps : List Part) (n k : ℕ) (d : Part) (j : ℕ) → k < length ps → HasControl (let p = get_or ps k d in p.diagram) j
    → HasControl (side_by_side n ps) ((n + controls_of (take k ps)) + j)
has_part [] n k d j l h = absurd (omega (arith, l))
has_part (p ∷ ps) n zero d j l h =
    let e : n + j ≡ (n + 0) + j = omega arith in
    inl (subst (HasControl (shifted n p.diagram)) e (has_shifted n p.diagram j h))
has_part (p ∷ ps) n (suc k) d j l h =
    let e : ((n + length p.spans) + controls_of (take k ps)) + j ≡ (n + controls_of (p ∷ take k ps)) + j =
    omega (arith, sum_by-cons (λ (q : Part). length q.spans) p (take k ps)) in
    inr (subst (HasControl (side_by_side (n + length p.spans) ps)) e (has_part ps (n + length p.spans) k d j (omega (arith, l)) h))

-- ---- jobs and their parts

-- a job and a part, whatever they are
some_job : Job
some_job = record { graph = record { signals = []; groups = []; tables = []; outputs = [] }; inputs = 0; controls = 0 }

some_part : Part
some_part = record { diagram = nothing; spans = [] }

-- what all jobs have is what all parts have
module _ (f : Job → ℕ) (g : Part → ℕ) (jobs : List Job) (ps : List Part) (long : length jobs ≡ length ps)
    (same : (k : ℕ) → k < length jobs → f (get_or jobs k some_job) ≡ g (get_or ps k some_part)) where
  all_sums : sum_by f jobs ≡ sum_by g ps
  all_sums =
      sym (ap (sum_by f) (take_all (length jobs) jobs (omega arith)))
      ∙ same_sums f g jobs ps some_job some_part long same (length jobs) (omega arith)
      ∙ ap (sum_by g) (take_all (length jobs) ps (omega (arith, long)))

pub joined_are_wide : (f : Graph) → JoinedAreWide f
joined_are_wide f jobs ps h joined =
    let whole = parts_are_whole 0 ps in
    joined.width
    ∙ all_sums (λ (j : Job). length j.graph.outputs) (λ (p : Part). outputs p.diagram) jobs ps h.long (λ k l. let a = h.each k some_job some_part l in a.width)
    ∙ sym whole.outputs

module _ (f : Graph) (jobs : List Job) (ps : List Part) (h : AreOfParts jobs ps) (own : NameOwn jobs ps) (joined : IsJoined jobs f) where
  whole_inputs : jobs_have.inputs_of jobs ≡ inputs (side_by_side 0 ps)
  whole_inputs =
      let whole = parts_are_whole 0 ps in
      all_sums (λ (j : Job). j.inputs) (λ (p : Part). inputs p.diagram) jobs ps h.long (λ k l. let a = h.each k some_job some_part l in a.inputs)
      ∙ sym whole.inputs

  -- a control that is named is one of the part's
  has_named : (s k : ℕ) → StandsAt f s (signal.Control k) → HasControl (side_by_side 0 ps) k
  has_named s k stands =
      let q = joined.controls s k stands in
      let within = q.within in
      let at = q.stands some_job in
      let named = own q.number some_job some_part within q.s (signal.Const (pos 0)) at.within in
      let has = subst (NamesOf (let p = get_or ps q.number some_part in p.diagram)) at.is named in
      let before = same_sums (λ (j : Job). j.controls) (λ (p : Part). length p.spans) jobs ps some_job some_part h.long
      (λ n l. let a = h.each n some_job some_part l in a.controls) q.number (omega (arith, within)) in
      let there : q.number < length ps = let long = h.long in omega (arith, within, long) in
      let same : (0 + controls_of (take q.number ps)) + q.own ≡ k = let is = q.is in omega (arith, is, before) in
      subst (HasControl (side_by_side 0 ps)) same (has_part ps 0 q.number some_part q.own there has)

  named : (s : ℕ) (x m : Signal) → s < length f.signals → get_or f.signals s x ≡ m → NamesBelow (jobs_have.inputs_of jobs) (jobs_have.controls_of jobs) m
      → NamesOf (side_by_side 0 ps) m
  named s x (signal.Input i) l e below = subst (λ n. i < n) whole_inputs below
  named s x (signal.Const z) l e below = tt
  named s x (signal.Control k) l e below = has_named s k (record { within = l; is = get_or_default f.signals s (signal.Const (pos 0)) x l ∙ e })
  named s x (signal.Point op args) l e below = tt
  named s x (signal.Delay y by max) l e below = tt
  named s x (signal.Back group i) l e below = tt
  named s x (signal.Member group i) l e below = tt
  named s x (signal.Read table r) l e below = tt
  named s x (signal.Write table w y r) l e below = tt

pub joined_names : (f : Graph) → JoinedNames f
joined_names f jobs ps h own joined s x l = named f jobs ps h own joined s x (get_or f.signals s x) l refl (joined.reads s x l)
