use Rattle.std.proofs.Common.{◌≡◌, ◌∙◌, ◌++◌, List, ℕ, length, sym, ap, refl, rules}
use Rattle.std.proofs.lemmas.Result.{err_from_is_err_and}
use Rattle.fv_outside.specs.Role.TheVariants.{Input}
use Rattle.fv_outside.proofs.lemmas.States.{told_before}
use Rattle.fv_top_files.proofs.Heads.{au_gives, open_gives, open_refused, au_stops, rest_stops}
use Rattle.fv_top_files.proofs.input.load_au.Goals as goal

pub returns-in_err-head-clause-err : goal.returns-in_err-head-clause-err
returns-in_err-head-clause-err g c =
    let p = err_from_is_err_and c.from_residual.result c.from_residual.ensures.1 in
    rw (p.1, p.2) (au_stops c.in_err-head.field-0.0 _ (c.args.begun.now ++ (g.D.Desk.state c.args.desk.now).left Input) refl c.in_err-head.ensures.err)

pub returns-in-Some-clause-headed : goal.returns-in-Some-clause-headed
returns-in-Some-clause-headed g c = λ t.
    let taken = c.in_ok-head.ensures.taken in
    rw c.au_incoming.ensures (au_gives c.in_ok-head.head c.in-Some.size c.args.begun.now taken.0 _ _ (c.in_ok-head.ensures.head t) c.in-Some.is
    (record { long = taken.1; is = taken.2.taken t }))

pub returns-in_err-bytes-in-None-clause-err : goal.returns-in_err-bytes-in-None-clause-err
returns-in_err-bytes-in-None-clause-err g c =
    let p = err_from_is_err_and c.from_residual-in_err-bytes-in-None.result c.from_residual-in_err-bytes-in-None.ensures.1 in
    let taken = c.in_ok-head.ensures.taken in
    rw (p.1, p.2) (rest_stops c.in_err-bytes-in-None.field-0.0 _ (c.args.begun.now ++ (g.D.Desk.state c.args.desk.now).left Input) refl taken.2
    (λ t many. open_refused c.in_ok-head.head c.args.begun.now taken.0 _ _ (c.in_ok-head.ensures.head t) c.in-None.is
    (record { long = taken.1; is = taken.2.taken t }) many)
    c.in_err-bytes-in-None.ensures.err)

pub returns-in_ok-bytes-in-None-clause-headed : goal.returns-in_ok-bytes-in-None-clause-headed
returns-in_ok-bytes-in-None-clause-headed g c = λ t.
    let taken = c.in_ok-head.ensures.taken in
    let told = c.in_ok-bytes-in-None.ensures.ok.told (told_before taken.2.goes_on t) in
    let held = c.in_ok-bytes-in-None.bytes.items in
    let long : c.len.result ≡ length held = search rules in
    rw (c.au_incoming-in-None.ensures, long) (open_gives c.in_ok-head.head c.args.begun.now taken.0 _ held _ (c.in_ok-head.ensures.head t) c.in-None.is
    (record { long = taken.1; is = taken.2.taken t ∙ ap (λ (ys : List ℕ). taken.0 ++ ys) (sym told.0) }) c.in_ok-bytes-in-None.ensures.few told.1)
