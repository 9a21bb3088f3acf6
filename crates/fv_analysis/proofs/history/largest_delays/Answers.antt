use Rattle.std.proofs.Common.{◌∙◌, ap, map, ℕ, length, get_or, List, Bool, false}
use Rattle.fv_base.proofs.lemmas.Lists.{length_table}
use Rattle.fv_analysis.specs.headline.History.{history_from, history_of}
use Rattle.fv_analysis.proofs.lemmas.HistoryLemmas.{all_histories}
use Rattle.fv_analysis.proofs.history.largest_delays.Goals as goal

pub returns-clause-histories : goal.returns-clause-histories
returns-clause-histories c =
    let listed = λ (ds : List ℕ) (bs : List Bool) (ss : List ℕ). map (λ (r : ℕ). history_from (get_or ds r 0) (get_or bs r false)) ss in
    c.new.ensures ∙ c.in_ok-all.ensures
    ∙ ap (λ ss. listed c.deref-3.result.now c.deref-4.result.now ss) c.deref-2.ensures.value
    ∙ ap (λ ds. listed ds c.deref-4.result.now c.in_ok-stands.stands.items) c.deref-3.ensures.value
    ∙ ap (λ bs. listed c.tell_all.new.delays.items bs c.in_ok-stands.stands.items) c.deref-4.ensures.value
    ∙ all_histories c.args.graph.now c.in_ok-stands.stands.items c.tell_all.new.delays.items c.tell_all.new.backs.items c.in_ok-stands.ensures.stands
    c.in_ok-stands.ensures.there c.tell_all.ensures

pub returns-clause-long : goal.returns-clause-long
returns-clause-long c =
    ap length (returns-clause-histories c) ∙ length_table (length c.args.graph.now.signals) (history_of c.args.graph.now)
