use Rattle.std.proofs.Common.{◌≡◌, ◌∙◌, length, take, sym, ap, arith, rules, length-take}
use Rattle.std.specs.Prelude.{true, false, bytes_eq, codes}
use Rattle.std.proofs.lemmas.Result.{IfOk-weaker, IfErr-weaker}
use Rattle.fv_outside.proofs.lemmas.States.{told_before, some_then}
use Rattle.fv_top_files.specs.Loading.{IsHeadRefusal}
use Rattle.fv_top_files.proofs.Heads.{IsBegun, either_au, either_wave, gives_as, stops_earlier}
use Rattle.fv_top_files.proofs.input.load_either.Given.{Over}
use Rattle.fv_top_files.proofs.input.load_either.Goals as goal
use Rattle.fv_top_files.proofs.input.load_either.Goals.{In-Ok}

-- what was taken first
begun : (g : Over) (c : In-Ok g) → IsBegun (take c.in-Ok.n c.fill.new.to) (g.D.Desk.state c.args.desk.now) (g.D.Desk.state c.fill.new.desk)
begun g c =
    let four : length c.fill.new.to ≡ 4 = search rules in
    record {
      takes = c.in-Ok.ensures.taken;
      few = omega (arith, length-take c.in-Ok.n c.fill.new.to, four);
      end = λ w t. c.in-Ok.ensures.end (omega (arith, w, length-take c.in-Ok.n c.fill.new.to, four)) t;
    }

pub returns-then-eq-clause-takes : goal.returns-then-eq-clause-takes
returns-then-eq-clause-takes g c = some_then c.in-Ok.ensures.taken c.load_au.ensures.takes

pub returns-else-eq-clause-takes : goal.returns-else-eq-clause-takes
returns-else-eq-clause-takes g c = some_then c.in-Ok.ensures.taken c.load_wave.ensures.takes

pub returns-then-eq-clause-headed : goal.returns-then-eq-clause-headed
returns-then-eq-clause-headed g c =
    let f = begun g (goal.at.returns-then-eq-clause-headed g c).In-Ok in
    let au : bytes_eq (take c.in-Ok.n c.fill.new.to) (codes ".snd") ≡ true =
    ap (bytes_eq (take c.in-Ok.n c.fill.new.to)) (sym c.as_slice.ensures) ∙ sym c.if-eq.ensures in
    IfOk-weaker c.load_au.result _ _ (λ l p t. gives_as (either_au f au t) (p (told_before f.takes.goes_on t))) c.load_au.ensures.headed

pub returns-then-eq-clause-err : goal.returns-then-eq-clause-err
returns-then-eq-clause-err g c =
    let f = begun g (goal.at.returns-then-eq-clause-err g c).In-Ok in
    let au : bytes_eq (take c.in-Ok.n c.fill.new.to) (codes ".snd") ≡ true =
    ap (bytes_eq (take c.in-Ok.n c.fill.new.to)) (sym c.as_slice.ensures) ∙ sym c.if-eq.ensures in
    IfErr-weaker c.load_au.result _ _ (λ e p. stops_earlier IsHeadRefusal _ _ e f.takes (either_au f au) p) c.load_au.ensures.err

pub returns-else-eq-clause-headed : goal.returns-else-eq-clause-headed
returns-else-eq-clause-headed g c =
    let f = begun g (goal.at.returns-else-eq-clause-headed g c).In-Ok in
    let other : bytes_eq (take c.in-Ok.n c.fill.new.to) (codes ".snd") ≡ false =
    ap (bytes_eq (take c.in-Ok.n c.fill.new.to)) (sym c.as_slice.ensures) ∙ sym c.if-eq.ensures in
    IfOk-weaker c.load_wave.result _ _ (λ l p t. gives_as (either_wave f other t) (p (told_before f.takes.goes_on t))) c.load_wave.ensures.headed

pub returns-else-eq-clause-err : goal.returns-else-eq-clause-err
returns-else-eq-clause-err g c =
    let f = begun g (goal.at.returns-else-eq-clause-err g c).In-Ok in
    let other : bytes_eq (take c.in-Ok.n c.fill.new.to) (codes ".snd") ≡ false =
    ap (bytes_eq (take c.in-Ok.n c.fill.new.to)) (sym c.as_slice.ensures) ∙ sym c.if-eq.ensures in
    IfErr-weaker c.load_wave.result _ _ (λ e p. stops_earlier IsHeadRefusal _ _ e f.takes (either_wave f other) p) c.load_wave.ensures.err
