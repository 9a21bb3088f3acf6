use Rattle.std.proofs.Common.{◌≡◌, ◌∙◌, arith, refl, rules, []}
use Rattle.std.proofs.lemmas.Result.{err_from_is_err_and}
use Rattle.fv_outside.proofs.lemmas.States.{takes_nothing, takes_then, some_then, takes_quiet, some_quiet, told_before, unfailing_later}
use Rattle.fv_outside.proofs.lemmas.States.{front_is, all_is, fault_earlier}
use Rattle.fv_outside.proofs.transfer.read_up_to.Goals as goal

pub chunks-init : goal.chunks-init
chunks-init g c =
    let empty : c.new-bytes.result.items ≡ [] = search rules in
    record { taken = rw empty (takes_nothing c.args.role _); steady = λ r. refl; count = search rules; chunk = search rules }

pub returns-in_err-n-clause-quiet : goal.returns-in_err-n-clause-quiet
returns-in_err-n-clause-quiet g c = some_quiet (some_then c.chunks.invariant.taken c.in_err-n.ensures.err)

pub returns-in_err-n-clause-err : goal.returns-in_err-n-clause-err
returns-in_err-n-clause-err g c =
    let p = err_from_is_err_and c.from_residual-in_err-n.result c.from_residual-in_err-n.ensures.1 in
    rw p.1 (some_then c.chunks.invariant.taken c.in_err-n.ensures.err)

pub returns-in_err-n-clause-answers : goal.returns-in_err-n-clause-answers
returns-in_err-n-clause-answers g c = λ t safe is.
    let so_far = c.chunks.invariant.taken.goes_on in
    let p = err_from_is_err_and c.from_residual-in_err-n.result c.from_residual-in_err-n.ensures.1 in
    c.in_err-n.ensures.answers (told_before so_far t) (unfailing_later c.args.role so_far t safe) (cc (p.1, p.2))

pub returns-in_err-n-clause-failed : goal.returns-in_err-n-clause-failed
returns-in_err-n-clause-failed g c = λ is.
    let p = err_from_is_err_and c.from_residual-in_err-n.result c.from_residual-in_err-n.ensures.1 in
    fault_earlier (g.D.Desk.state c.append_next.new.desk) c.args.role c.chunks.invariant.taken.goes_on (c.in_err-n.ensures.failed (cc (p.1, p.2)))

pub returns-in_err-n-clause-steady : goal.returns-in_err-n-clause-steady
returns-in_err-n-clause-steady g c = λ other r.
    let p = err_from_is_err_and c.from_residual-in_err-n.result c.from_residual-in_err-n.ensures.1 in
    c.in_err-n.ensures.steady (λ is. other (cc (p.1, p.2, is))) r ∙ c.chunks.invariant.steady r

pub returns-then-n-want-clause-steady : goal.returns-then-n-want-clause-steady
returns-then-n-want-clause-steady g c = λ other r. c.in_ok-n.ensures.steady (λ is. absurd cc) r ∙ c.chunks.invariant.steady r

pub returns-then-n-want-clause-quiet : goal.returns-then-n-want-clause-quiet
returns-then-n-want-clause-quiet g c = takes_quiet (takes_then c.chunks.invariant.taken c.in_ok-n.ensures.taken.2)

pub returns-then-n-want-clause-takes : goal.returns-then-n-want-clause-takes
returns-then-n-want-clause-takes g c = rw c.in_ok-n.ensures.taken.1 (takes_then c.chunks.invariant.taken c.in_ok-n.ensures.taken.2)

pub returns-then-n-want-clause-taken : goal.returns-then-n-want-clause-taken
returns-then-n-want-clause-taken g c = λ t.
    let so_far = c.chunks.invariant.taken in
    let piece = c.in_ok-n.ensures.taken in
    let all = rw (← piece.1) at ((takes_then so_far piece.2).taken t) in
    all_is _ _ _ _ all (c.in_ok-n.ensures.end c.if-n-want.true (told_before so_far.goes_on t)) (let n = c.in_ok-n.ensures.count in omega arith)

pub chunks-preserved : goal.chunks-preserved
chunks-preserved g c = record {
  taken = rw c.in_ok-n.ensures.taken.1 (takes_then c.chunks.invariant.taken c.in_ok-n.ensures.taken.2);
  steady = λ r. c.in_ok-n.ensures.steady (λ is. absurd cc) r ∙ c.chunks.invariant.steady r;
  count = let n = c.in_ok-n.ensures.count in omega arith;
  chunk = c.chunks.invariant.chunk;
}

pub returns-clause-taken : goal.returns-clause-taken
returns-clause-taken g c = λ t. front_is _ _ _ _ (c.chunks.invariant.taken.taken t) (omega arith)
