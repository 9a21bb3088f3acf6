use Rattle.std.proofs.Common.{rules, ◌≡◌, ◌+◌, ◌-◌, ◌<◌, ◌≤◌, length, subst, sym, ◌∙◌, arith}
use Rattle.std.proofs.lemmas.Bool.Decides.{nat_tests}
use Rattle.fv_loopcode.specs.headline.Lanes.{Lane}
use Rattle.fv_loopcode.specs.Lanes.{HasSample}
use Rattle.fv_lines.specs.Solo.{history_at}
use Rattle.fv_lines.proofs.lemmas.Stored.{there_of, lane_is, length_list}
use Rattle.fv_lines.proofs.Reached.{found, reached}
use Rattle.fv_lines.proofs.solo.Solo.has_sample.Goals as goal

pub offset_bounds-self-i : goal.offset_bounds-self-i
offset_bounds-self-i c =
    let there : c.args.lane < length c.args.self.now.begun.now =
    omega (arith, c.requires.valid.begun, there_of c.args.self.now c.args.lane c.requires.there) in
    search rules

pub bounds-self-i : goal.bounds-self-i
bounds-self-i c = omega (arith, c.requires.valid.begun, there_of c.args.self.now c.args.lane c.requires.there)

pub overflow_add-result : goal.overflow_add-result
overflow_add-result c =
    let s = c.args.self.now in
    let i = c.args.lane in
    let there = there_of s i c.requires.there in
    let at = reached s i c.index-self-i.result c.requires.valid there in
    let lane = c.requires.valid.lanes i there in
    let short = (found s i c.index-self-i.result).shape.fits.3 in
    omega (arith, c.from-history.ensures, c.from.ensures, at.history, at.len, at.written, lane.upto, lane.framed, lane.shaped, short)

pub returns-then-back-newest : goal.returns-then-back-newest
returns-then-back-newest c =
    let s = c.args.self.now in
    let i = c.args.lane in
    let there = there_of s i c.requires.there in
    let is = lane_is s i c.requires.there in
    let at = reached s i c.index-self-i.result c.requires.valid there in
    let history : c.from-history.result ≡ history_at s.shapes.now i = c.from-history.ensures ∙ sym at.history in
    let long = length_list s i c.requires.valid there in (
      (λ t. subst (λ (l : Lane). HasSample l c.args.index c.args.back) (sym is) (record {
        not_before = omega (arith, history);
        written =
            let k : c.from-history.result + c.args.index - c.args.back < c.from-history.result + c.from.result = grind (arith, nat_tests, t) in
            omega (arith, k, history, long, at.written, c.from.ensures);
      })),
      (λ h.
          let k = subst (λ (l : Lane). HasSample l c.args.index c.args.back) is h in
          let m : c.from-history.result + c.args.index - c.args.back < c.from-history.result + c.from.result =
          omega (arith, k.not_before, k.written, history, long, at.written, c.from.ensures) in
          grind (arith, nat_tests, m)),
    )

pub returns-else-back-newest : goal.returns-else-back-newest
returns-else-back-newest c =
    let s = c.args.self.now in
    let i = c.args.lane in
    let there = there_of s i c.requires.there in
    let is = lane_is s i c.requires.there in
    let history : c.from-history.result ≡ history_at s.shapes.now i =
    c.from-history.ensures ∙ sym (reached s i c.index-self-i.result c.requires.valid there).history in (
      (λ t. absurd (let k : c.args.back ≤ c.from-history.result + c.args.index = grind (arith, nat_tests, t) in omega arith)),
      (λ h. absurd (let k = subst (λ (l : Lane). HasSample l c.args.index c.args.back) is h in omega (arith, k.not_before, history))),
    )
