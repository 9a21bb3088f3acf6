use Rattle.std.proofs.Common.{rules, sym, ap, ◌∙◌, subst, w32, SFits, to_z-of_z}
use Rattle.fv_loopcode.specs.headline.Lanes.{Lane, sample_at}
use Rattle.fv_loopcode.specs.Lanes.{HasSample}
use Rattle.fv_lines.proofs.lemmas.Stored.{there_of, lane_is}
use Rattle.fv_lines.proofs.solo.Solo.at.Goals as goal

pub read-requires-clause-there : goal.read-requires-clause-there
read-requires-clause-there c = there_of c.args.self.now c.args.lane c.requires.there

pub read-requires-clause-sample : goal.read-requires-clause-sample
read-requires-clause-sample c =
    subst (λ (l : Lane). HasSample l c.args.index c.args.back) (lane_is c.args.self.now c.args.lane c.requires.there) c.requires.sample

pub returns : goal.returns
returns c =
    let f : SFits w32 c.read.result = search rules in
    to_z-of_z f ∙ c.read.ensures ∙ ap (λ (l : Lane). sample_at l c.args.index c.args.back) (sym (lane_is c.args.self.now c.args.lane c.requires.there))
