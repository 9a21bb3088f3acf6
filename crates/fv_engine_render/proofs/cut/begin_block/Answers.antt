use Rattle.std.proofs.Common.{◌∙◌}
use Rattle.fv_engine_render.proofs.cut.begin_block.Goals as goal

pub returns-clause-begins : goal.returns-clause-begins
returns-clause-begins c = λ initial changed count. record {
  here = record {
    within = c.listen-next.ensures.within;
    come = c.listen-next.ensures.come c.requires.come;
    behind = c.listen-next.ensures.behind c.requires.order;
    order = c.requires.order;
  };
  is = c.listen-next.ensures.values initial changed;
  long = c.listen-next.auto.values ∙ count;
  cut = c.next_block-frames.ensures.length;
}
