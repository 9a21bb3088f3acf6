-- The laws of stages in order, once for all stages.
use Rattle.std.proofs.Common.{◌≡◌, ◌⊎◌, List, [], ◌∷◌, ◌++◌, refl, inl, inr}
use Rattle.std.specs.Prelude.{IsTrue}
use Rattle.fv_outside.specs.headline.Requests.{Request}
use Rattle.fv_outside.specs.headline.Desk.{DeskState, HasFault}
use Rattle.fv_top_report.specs.declared.refusal.Refusal.{Refusal}
use Rattle.fv_top_report.specs.declared.refusal.Refusal.TheVariants.{NoMemory}
use Rattle.fv_top.specs.headline.Stages.{Rules, Turn, role_of, fault_of, Halts, fault, judged, want_of_memory}
use Rattle.fv_top.specs.headline.Stages.{Ends, here, later, IsQuiet, Stops, at, behind, PassesAll, more}
use Rattle.fv_top.specs.inner.Stages.{IsJudge}

module _ {S : Type 0} (k : Rules S) (old new : DeskState) (judge : IsJudge k) where
  -- a quiet stage has no fault
  quiet_is : (s : S) (t : Turn) → IsQuiet k old new s → k.Takes s t → HasFault (role_of t) old new → (IsTrue old.tells → k.Answers s t → ⊥) → ⊥
  quiet_is s t q takes f unsure = elim (q t takes) [ inl a ↦ unsure a.0 a.1 | inr n ↦ n f ]

  module _ (known : k.Known) where
    -- a quiet stage that refuses halts for that, or out of memory
    halts_for : (s : S) (wanted got : Refusal) → IsQuiet k old new s → k.Refuses s wanted → Halts k old new s got → (got ≡ wanted) ⊎ (got ≡ NoMemory)
    halts_for s wanted got q h (fault t takes f unsure) = absurd (quiet_is s t q takes f unsure)
    halts_for s wanted got q h (judged of r) = inl (judge.once s got wanted (r known) h)
    halts_for s wanted got q h (want_of_memory w) = inr refl

    -- and one that passes out of memory alone
    halts_without : (s : S) (got : Refusal) → IsQuiet k old new s → k.Passes s → Halts k old new s got → got ≡ NoMemory
    halts_without s got q p (fault t takes f unsure) = absurd (quiet_is s t q takes f unsure)
    halts_without s got q p (judged of r) = absurd (judge.apart s got p (r known))
    halts_without s got q p (want_of_memory w) = refl

    -- what stops for something is refused for that, or out of memory
    pub exactly : (steps : List S) (wanted got : Refusal) (asked : List Request) → Stops k old new steps wanted → Ends k old new steps got asked
        → (got ≡ wanted) ⊎ (got ≡ NoMemory)
    exactly [] wanted got asked h e = elim e [ ]
    exactly (s ∷ rest) wanted got asked (at q h) (here e) = halts_for s wanted got q h e
    exactly (s ∷ rest) wanted got asked (at q h) (later p e) = absurd (judge.apart s wanted (p known) h)
    exactly (s ∷ rest) wanted got asked (behind q p h) (here e) = inr (halts_without s got q p e)
    exactly (s ∷ rest) wanted got asked (behind q p h) (later r e) = exactly rest wanted got _ h e

    -- and what passes all is not refused, but for want of memory
    pub completes : (steps : List S) (got : Refusal) (asked : List Request) → PassesAll k old new steps → Ends k old new steps got asked → got ≡ NoMemory
    completes [] got asked h e = elim e [ ]
    completes (s ∷ rest) got asked (more q p h) (here e) = halts_without s got q p e
    completes (s ∷ rest) got asked (more q p h) (later r e) = completes rest got _ h e

  -- where each stage passes, none stops
  pub passes_apart : (steps : List S) (wanted : Refusal) → ((s : S) → k.Passes s) → Stops k old new steps wanted → ⊥
  passes_apart [] wanted p h = elim h [ ]
  passes_apart (s ∷ rest) wanted p (at q h) = judge.apart s wanted (p s) h
  passes_apart (s ∷ rest) wanted p (behind q r h) = passes_apart rest wanted p h

-- ---- in which stage it ends

-- a fact of one of the stages
abbrev pub OfSome : {S : Type 0} → (S → Type 0) → List S → Type 0
OfSome P [] = ⊥
OfSome P (s ∷ rest) = P s ⊎ OfSome P rest

-- the stage judged it
abbrev pub Judges : {S : Type 0} → Rules S → Refusal → S → Type 0
Judges k e s = k.Has s e × (k.Known → k.Refuses s e)

module _ {S : Type 0} (k : Rules S) (old new : DeskState) where
  -- further stages change nothing
  pub ends_more : (steps further : List S) (e : Refusal) (asked : List Request) → Ends k old new steps e asked
      → Ends k old new (steps ++ further) e asked
  ends_more [] further e asked h = elim h [ ]
  ends_more (s ∷ rest) further e asked (here h) = here h
  ends_more (s ∷ rest) further e asked (later p h) = later p (ends_more rest further e _ h)

  judged_by : (s : S) (e : Refusal) → ((t : Turn) → e ≡ fault_of t → ⊥) → (e ≡ NoMemory → ⊥) → Halts k old new s e → Judges k e s
  judged_by s e no_fault memory (fault t takes f unsure) = absurd (no_fault t refl)
  judged_by s e no_fault memory (judged of r) = (of, r)
  judged_by s e no_fault memory (want_of_memory w) = absurd (memory refl)

  -- what is no fault and no want of memory was judged in one of the stages
  pub judged_in : (steps : List S) (e : Refusal) (asked : List Request) → ((t : Turn) → e ≡ fault_of t → ⊥) → (e ≡ NoMemory → ⊥)
      → Ends k old new steps e asked → OfSome (Judges k e) steps
  judged_in [] e asked no_fault memory h = elim h [ ]
  judged_in (s ∷ rest) e asked no_fault memory (here h) = inl (judged_by s e no_fault memory h)
  judged_in (s ∷ rest) e asked no_fault memory (later p h) = inr (judged_in rest e _ no_fault memory h)
