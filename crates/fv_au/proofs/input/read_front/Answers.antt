use Rattle.std.proofs.Common.{◌≡◌, ◌∙◌, ◌+◌, ◌-◌, ◌≤◌, List, ℕ, length, take, ap, refl, rules, arith, subst}
use Rattle.std.specs.Prelude.{IfOk}
use Rattle.fv_wav.proofs.lemmas.Begun.{filled_behind, front_then}
use Rattle.fv_au.proofs.Fronts.{front_ok, front_err}
use Rattle.fv_au.specs.headline.Reading.{head_of}
use Rattle.fv_au.proofs.input.read_front.Goals as goal

pub returns-clause-ok : goal.returns-clause-ok
returns-clause-ok g c =
    let begun = c.args.begun.now in
    let to = c.fill.new.to in
    let n = c.in_ok-n.n in
    let asked : length to ≡ 24 - length begun = search rules in
    let f = c.in_ok-n.ensures in
    let is =
    ap (take (length begun + n)) (filled_behind 24 begun c.copy_from_slice.new.self _ to c.requires c.copy_from_slice.ensures.after (search rules))
    ∙ front_then begun to (length begun) n refl in
    front_ok begun n to c.judge.result (g.D.Desk.state c.args.desk.now) (g.D.Desk.state c.fill.new.desk)
    (record { asked = omega (arith, asked, c.requires); few = f.count; takes = f.taken; steady = f.steady; end = f.end })
    (c.judge.ensures.head ∙ ap head_of is) (subst (λ (w : List ℕ). IfOk c.judge.result (λ _. 24 ≤ length w)) is c.judge.ensures.long)

pub returns-clause-err : goal.returns-clause-err
returns-clause-err g c =
    let begun = c.args.begun.now in
    let to = c.fill.new.to in
    let n = c.in_ok-n.n in
    let asked : length to ≡ 24 - length begun = search rules in
    let f = c.in_ok-n.ensures in
    let is =
    ap (take (length begun + n)) (filled_behind 24 begun c.copy_from_slice.new.self _ to c.requires c.copy_from_slice.ensures.after (search rules))
    ∙ front_then begun to (length begun) n refl in
    front_err begun n to c.judge.result (g.D.Desk.state c.args.desk.now) (g.D.Desk.state c.fill.new.desk)
    (record { asked = omega (arith, asked, c.requires); few = f.count; takes = f.taken; steady = f.steady; end = f.end })
    (c.judge.ensures.head ∙ ap head_of is) c.judge.ensures.kind
