use Rattle.std.proofs.Common.{◌≡◌, ◌+◌, ◌-◌, ◌*◌, ◌/◌, ◌%◌, Some, sym, subst, arith}
use Rattle.std.specs.Prelude.{slice_get}
use Rattle.std.proofs.Math.Nat.{div-add-mod}
use Rattle.fv_eval_scopes.specs.declared.scopes.TheConstants.{STRIDE}
use Rattle.fv_eval_scopes.specs.declared.ways.Ways.{Ways}
use Rattle.fv_eval_scopes.specs.Environments.{first_number}
use Rattle.fv_eval_scopes.specs.Ways.{IsWay}
use Rattle.fv_eval_scopes.proofs.ways.Ways.outward.Goals as goal

pub returns-in-Some : goal.returns-in-Some
returns-in-Some c scopes h =
    let w : Ways = c.args.self.now in
    let n = c.number-number.result - 1 in
    let whole : STRIDE * (n / STRIDE) + n % STRIDE ≡ n = div-add-mod n STRIDE in
    let e : first_number (n / STRIDE) ≡ c.args.env = omega (arith, c.number-number.ensures, c.if-number-eq0.false, whole, c.if-before-ne0.false) in
    let got : slice_get w.ways.items (n / STRIDE) ≡ Some c.in-Some.way = sym c.in-Some.ensures in
    subst (λ i. IsWay scopes w.tries i c.in-Some.way) e (h.are (n / STRIDE) c.in-Some.way got)
