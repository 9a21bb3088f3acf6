use Rattle.std.proofs.Common.{◌≡◌, ◌++◌, List, length, set, sym, subst, arith}
use Rattle.fv_eval_scopes.specs.declared.value.Binding.{Binding}
use Rattle.fv_eval_patterns.specs.declared.trials.Outcome.TheVariants as outcomes
use Rattle.fv_eval_patterns.specs.declared.trials.Trial.{Trial}
use Rattle.fv_eval_patterns.specs.Trials.{Recalls, Tells}
use Rattle.fv_eval_patterns.proofs.lemmas.LongPatterns.{told_more, told_set, tells_kept}
use Rattle.fv_eval_patterns.proofs.trials.Trials.keep.Goals as goal

pub returns-in_err-extend_from_slice : goal.returns-in_err-extend_from_slice
returns-in_err-extend_from_slice c = λ p a h l b.
    let ts : List Trial = c.self.inside.slots.items in
    subst (λ (kept : List Binding). Recalls p a (record { trials = ts; bindings = kept; survey = c.self.inside.survey }))
    (sym c.in_err-extend_from_slice.ensures.items) (subst (Recalls p a) (sym c.self.view_is) (c.widen.ensures p a (c.make_room.ensures p a h)))

pub returns-in-Some : goal.returns-in-Some
returns-in-Some c = λ p a h l b.
    let ts : List Trial = c.self.inside.slots.items in
    let kept : List Binding = c.self.inside.bindings.items in
    let found = c.args.bound.now in
    let x = c.args.pair.now in
    let o = c.self.inside.bindings.ok.0 in
    let from : length kept ≡ c.len-from.result = omega (arith, o, c.len-from.ensures) in
    let old : Recalls p a (record { trials = ts; bindings = kept; survey = c.self.inside.survey }) =
    subst (Recalls p a) (sym c.self.view_is) (c.widen.ensures p a (c.make_room.ensures p a h)) in
    let all = told_more p a ts kept found old.trials in
    let tells = subst (λ n. Tells p a (kept ++ found) (outcomes.Binds n (length found)) x) from (tells_kept p a kept found x l b) in
    let t : Trial = record { pair = x; outcome = outcomes.Binds c.len-from.result (length found) } in
    subst (λ (bs : List Binding). Recalls p a (record { trials = set ts c.in-Some.i t; bindings = bs; survey = c.self.inside.survey }))
    (sym c.in_ok-extend_from_slice.ensures.items)
    (record { trials = told_set p a ts (kept ++ found) c.in-Some.i t c.in-Some.ensures all tells; survey = old.survey })

pub returns-in_default : goal.returns-in_default
returns-in_default c = λ p a h l b.
    let ts : List Trial = c.self.inside.slots.items in
    let kept : List Binding = c.self.inside.bindings.items in
    let old : Recalls p a (record { trials = ts; bindings = kept; survey = c.self.inside.survey }) =
    subst (Recalls p a) (sym c.self.view_is) (c.widen.ensures p a (c.make_room.ensures p a h)) in
    subst (λ (bs : List Binding). Recalls p a (record { trials = ts; bindings = bs; survey = c.self.inside.survey }))
    (sym c.in_ok-extend_from_slice.ensures.items) (record { trials = told_more p a ts kept c.args.bound.now old.trials; survey = old.survey })
