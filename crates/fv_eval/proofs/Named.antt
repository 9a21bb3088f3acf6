-- Where a name goes.
use Rattle.std.proofs.Common.{inr, ◌≡◌, ℕ, List, Ok, Err, refl, sym, ap}
use Rattle.fv_parse.specs.Trees.{Parsed}
use Rattle.fv_rules.specs.declared.refusal.EvalRefusal.TheVariants.{UnknownName}
use Rattle.fv_eval_scopes.specs.declared.value.Value as code_value
use Rattle.fv_eval_scopes.specs.declared.value.Meaning.TheVariants as meaning
use Rattle.fv_rules.specs.headline.Values.{Name, Flat, Abstraction, Rules, Nothing, Plain, Parameters, Cases, Meaning, IsValue, IsDefined, Unknown}
use Rattle.fv_eval_scopes.specs.Shows.{World, ShowsMeaning}
use Rattle.fv_diagram.specs.headline.Diagram.{Slot}
use Rattle.fv_rules.specs.Machine.{Continuation, Ended, begin_name}
use Rattle.fv_eval.specs.declared.continuation.Focus.TheVariants as focus
use Rattle.fv_eval.specs.declared.machine.Machine as code_machine
use Rattle.fv_eval.specs.inner.Continuations.{world, state_of, Keeps, Goes}

pub known_goes : (p : Parsed) (m : code_machine.Machine) (u : code_value.Value) (x : Name) (M : Meaning) (Fs : List Continuation)
    → ShowsMeaning (world p m) (meaning.Known u) M → Keeps p m Fs
    → Goes p m (Ok (focus.Give u)) (begin_name x M Fs (state_of m))
known_goes p m u x (IsValue v) Fs h k = (v, Fs, refl, h, k)
known_goes p m u x (IsDefined (Parameters y ys b) E) Fs h k = (Abstraction y ys b E, Fs, refl, h, k)
known_goes p m u x (IsDefined (Cases s rs) E) Fs h k = (Rules s rs E Nothing, Fs, refl, h, k)
known_goes p m u x (IsDefined (Plain b) E) Fs h k = absurd h
known_goes p m u x Unknown Fs h k = absurd h

-- what is bound to a slot
pub slot_is : (w : World) (k : ℕ) (x : Name) (M : Meaning) → ShowsMeaning w (meaning.Slot k) M → M ≡ IsValue (Flat (Slot k))
slot_is w k x (IsValue v) h = ap IsValue h
slot_is w k x (IsDefined d E) h = absurd h
slot_is w k x Unknown h = absurd h

pub body_goes : (p : Parsed) (m : code_machine.Machine) (id e : ℕ) (x : Name) (M : Meaning) (Fs : List Continuation)
    → ShowsMeaning (world p m) (meaning.Body id e) M → Keeps p m Fs
    → Goes p m (Ok (focus.Visit id e)) (begin_name x M Fs (state_of m))
body_goes p m id e x (IsDefined (Plain b) E) Fs h k = (b, E, Fs, refl, h.0, h.1, k)
body_goes p m id e x (IsDefined (Parameters y ys b) E) Fs h k = absurd h
body_goes p m id e x (IsDefined (Cases s rs) E) Fs h k = absurd h
body_goes p m id e x (IsValue v) Fs h k = absurd h
body_goes p m id e x Unknown Fs h k = absurd h

pub unknown_goes : (p : Parsed) (m : code_machine.Machine) (w x : Name) (M : Meaning) (Fs : List Continuation)
    → ShowsMeaning (world p m) meaning.Unknown M → w ≡ x
    → Goes p m (Err (UnknownName w)) (begin_name x M Fs (state_of m))
unknown_goes p m w x Unknown Fs h e = inr (ap (λ y. Ended (Err (UnknownName y))) (sym e))
unknown_goes p m w x (IsValue v) Fs h e = absurd h
unknown_goes p m w x (IsDefined (Plain b) E) Fs h e = absurd h
unknown_goes p m w x (IsDefined (Parameters y ys b) E) Fs h e = absurd h
unknown_goes p m w x (IsDefined (Cases s rs) E) Fs h e = absurd h
