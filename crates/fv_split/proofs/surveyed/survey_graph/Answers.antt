use Rattle.std.proofs.Common.{length, ap, ◌∙◌, subst}
use Rattle.fv_signal.specs.headline.Rates.{rates}
use Rattle.fv_analysis.specs.headline.Stands.{stands_of}
use Rattle.fv_analysis.proofs.lemmas.StandLemmas.{stands_long}
use Rattle.fv_split.specs.inner.Cells.{AreCells}
use Rattle.fv_split.proofs.ListLemmas.{same_bases, same_kinds}
use Rattle.fv_split.proofs.SplitLemmas.{rates_long}
use Rattle.fv_split.proofs.surveyed.survey_graph.Goals as goal

pub cells_of-requires : goal.cells_of-requires
cells_of-requires c = ap length c.deref-7.ensures.value ∙ c.in_ok-places.ensures.homes.long

pub bases-requires-clause-stands : goal.bases-requires-clause-stands
bases-requires-clause-stands c = ap length (c.deref-2.ensures.value ∙ c.in_ok-stands.ensures.stands) ∙ stands_long c.args.graph.now

pub bases-requires-clause-rates : goal.bases-requires-clause-rates
bases-requires-clause-rates c = ap length c.requires.rates ∙ rates_long c.args.graph.now

pub returns : goal.returns
returns c =
    let g = c.args.graph.now in
    let p = c.in_ok-places.places in
    let bases = c.in_ok-bases.bases.items in
    let are_bases = same_bases g c.deref-2.result.now (stands_of g) c.args.rates.now (rates g.signals) c.deref-3.result.now p.lanes.items c.deref-4.result.now
    c.in_ok-values.values.numbers.items (length g.signals) bases (c.deref-2.ensures.value ∙ c.in_ok-stands.ensures.stands) c.requires.rates
    c.deref-3.ensures.value c.deref-4.ensures.value c.in_ok-bases.ensures in
    record {
      numbers = c.in_ok-values.values.numbers.items;
      passes = record {
        graph = c.requires.graph;
        placed = c.in_ok-places.ensures;
        is_stands = c.in_ok-stands.ensures.stands;
        held = c.in_ok-values.ensures.1;
        are_bases = are_bases;
        are_kinds = same_kinds c.deref-5.result.now bases c.deref-6.result.now p.lanes.items (length c.deref-5.result.now) (length g.signals)
            c.in_ok-kinds.kinds.items c.deref-5.ensures.value c.deref-6.ensures.value (ap length c.deref-5.ensures.value ∙ are_bases.long)
            c.in_ok-kinds.ensures;
        are_cells = subst (λ hs. AreCells g hs (length g.signals) c.in_ok-cells.cells) c.deref-7.ensures.value c.in_ok-cells.ensures;
      };
    }
