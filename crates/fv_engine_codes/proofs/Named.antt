-- What a loop's code names is there, and its lanes have places.
use Rattle.std.proofs.Common.{◌≡◌, ℕ, zero, suc, ◌<◌, List, [], ◌∷◌, ◌++◌, length, arith, Bool, true, ℤ, pos, inl, inr}
use Rattle.std.specs.Prelude.{All}
use Rattle.fv_loopcode.specs.Words.{argument}
use Rattle.fv_loopcode.specs.Frames.{Frame, Stream, column}
use Rattle.fv_split_plan.specs.Value.{value}
use Rattle.fv_loopcode.specs.declared.step.Step.{Step}
use Rattle.fv_loopcode.specs.declared.step.Step.TheVariants as step
use Rattle.fv_loopcode.specs.headline.State.{Finds}
use Rattle.fv_loopcode.specs.headline.Code.{step_value}
use Rattle.fv_loopcode.specs.declared.counts.Counts.{Counts}
use Rattle.fv_loopcode.specs.Code.{NamesThere}
use Rattle.fv_loopcode.specs.headline.Obeys.{Roles, Place, OfLane, Obeys, StepObeys, done_after, flowing, flowing_next, nothing}
use Rattle.fv_split_plan.specs.headline.Fits.{flows}
use Rattle.fv_split_plan.specs.headline.View.{PlanView, code_of, roles_of}
use Rattle.fv_split_plan.specs.headline.Plans.{PlanReads, LoadsWithin}
use Rattle.fv_split_plan.specs.Plans.{IsPlan}
use Rattle.fv_engine_codes.specs.Renumbered.{renumbered, HasPlace, Places}
use Rattle.fv_engine_codes.proofs.lemmas.CellsSet.{there_of}
use Rattle.fv_engine_codes.proofs.Once.{own_seen}

-- a step loads a lane that the roles name as loaded, and appends one of their own
abbrev pub HasRole : Roles → Step → Type 0
HasRole r (step.Number n) = Unit {0}
HasRole r (step.Held k) = Unit {0}
HasRole r (step.Input i) = Unit {0}
HasRole r (step.Point op args) = Unit {0}
HasRole r (step.Load lane back max) = r.loaded lane ≡ true
HasRole r (step.Append lane value) = r.own (OfLane lane) ≡ true
HasRole r (step.Read table arg) = Unit {0}
HasRole r (step.Write cells args) = Unit {0}

role_of : (r : Roles) (history : ℕ → ℕ) (find : Finds) (next : ℕ → List ℤ) (done : Place → Bool) (register : ℕ → ℤ) (s : Step)
    → StepObeys r history find next done register s → HasRole r s
role_of r history find next done register (step.Number n) o = tt
role_of r history find next done register (step.Held k) o = tt
role_of r history find next done register (step.Input i) o = tt
role_of r history find next done register (step.Point op args) o = tt
role_of r history find next done register (step.Load lane back max) o = o.0
role_of r history find next done register (step.Append lane value) o = o.0
role_of r history find next done register (step.Read table arg) o = tt
role_of r history find next done register (step.Write cells args) o = tt

pub have_roles : (r : Roles) (history : ℕ → ℕ) (find : Finds) (next : ℕ → List ℤ) (held input : ℕ → ℤ) (done : Place → Bool) (now : List ℤ)
    (steps : List Step) → Obeys r history find next held input done now steps → All (HasRole r) steps
have_roles r history find next held input done now [] o = λ k d l. absurd (omega arith)
have_roles r history find next held input done now (s ∷ ss) o = have_more r s ss (role_of r history find next done (argument now) s o.0)
    (have_roles r history find next held input (done_after done s) (now ++ step_value held input find (argument now) s ∷ []) ss o.1)
  where
    have_more : (r : Roles) (s : Step) (ss : List Step) → HasRole r s → All (HasRole r) ss → All (HasRole r) (s ∷ ss)
    have_more r s ss h a zero d l = h
    have_more r s ss h a (suc k) d l = a k d (omega arith)

pub has_place : (p : PlanView) (j : ℕ) → PlanReads p → (s : Step) → HasRole (roles_of p j) s → HasPlace (length p.lanes) s
has_place p j reads (step.Number n) h = tt
has_place p j reads (step.Held k) h = tt
has_place p j reads (step.Input i) h = tt
has_place p j reads (step.Point op args) h = tt
has_place p j reads (step.Load lane back max) h = reads.loaded j lane h
has_place p j reads (step.Append lane value) h = (own_seen p j lane h).0
has_place p j reads (step.Read table arg) h = tt
has_place p j reads (step.Write cells args) h = tt

-- the counts of these lanes, and of all tables and cells of the plan
abbrev pub counts_of : PlanView → (lanes : ℕ) → Counts
counts_of p lanes = record { lanes = lanes; tables = length p.tables; cells = length p.cells }

pub names_placed : (p : PlanView) (r : Roles) (place : ℕ → ℕ) (locals : List ℕ) (own : ℕ) → Places r place locals own → (s : Step) → HasRole r s
    → LoadsWithin p s → NamesThere (counts_of p (length locals)) (renumbered place s)
names_placed p r place locals own pl (step.Number n) h w = tt
names_placed p r place locals own pl (step.Held k) h w = tt
names_placed p r place locals own pl (step.Input i) h w = tt
names_placed p r place locals own pl (step.Point op args) h w = tt
names_placed p r place locals own pl (step.Load lane back max) h w = pl.there lane (inr h)
names_placed p r place locals own pl (step.Append lane value) h w = pl.there lane (inl h)
names_placed p r place locals own pl (step.Read table arg) h w = there_of p.tables table w
names_placed p r place locals own pl (step.Write cells args) h w = w

-- so it is with each step of a plan's code
pub plan_roles : (p : PlanView) (j : ℕ) → IsPlan p → j < p.loops → All (HasRole (roles_of p j)) (code_of p j)
plan_roles p j plan there =
    let names = plan.1.stands.names in
    let none : List Frame = [] in
    let quiet : ℕ → Stream = λ k t. pos 0 in
    have_roles (roles_of p j) names.history (flowing (flows plan.0 names none quiet) 0) (flowing_next (flows plan.0 names none quiet) 0)
    (λ k. value plan.0 (names.held k) none quiet 0)
    (λ i. column none i 0) nothing [] (code_of p j) (plan.1.stands.obeys j there none quiet 0)
