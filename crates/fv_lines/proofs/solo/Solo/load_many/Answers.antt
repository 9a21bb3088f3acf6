use Rattle.std.proofs.Common.{◌+◌, sym, ap, ◌∙◌, subst}
use Rattle.fv_loopcode.specs.headline.Lanes.{Lane, sample_at}
use Rattle.fv_loopcode.specs.Lanes.{HasSample}
use Rattle.fv_lines.proofs.lemmas.Stored.{there_of, lane_is}
use Rattle.fv_lines.proofs.solo.Solo.load_many.Goals as goal

pub read_many-requires-clause-there : goal.read_many-requires-clause-there
read_many-requires-clause-there c = there_of c.args.self.now c.args.lane c.requires.there

pub read_many-requires-clause-samples : goal.read_many-requires-clause-samples
read_many-requires-clause-samples c k l =
    subst (λ (x : Lane). HasSample x (c.args.index + k) c.args.back) (lane_is c.args.self.now c.args.lane c.requires.there) (c.requires.samples k l)

pub returns-clause-samples : goal.returns-clause-samples
returns-clause-samples c k l =
    c.read_many.ensures.samples k l
    ∙ ap (λ (x : Lane). sample_at x (c.args.index + k) c.args.back) (sym (lane_is c.args.self.now c.args.lane c.requires.there))
