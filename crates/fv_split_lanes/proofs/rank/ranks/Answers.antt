use Rattle.std.proofs.Common.{◌≡◌, ◌+◌, ◌≤◌, ℕ, length, ◌∙◌, subst, ap}
use Rattle.std.proofs.lemmas.Result.{IfOk-weaker}
use Rattle.fv_components.specs.headline.Reach.{at}
use Rattle.fv_split_lanes.specs.inner.Ranks.{rank_of}
use Rattle.fv_split_lanes.proofs.RankLemmas.{are_ranks}
use Rattle.fv_split_lanes.proofs.rank.ranks.Goals as goal

pub returns : goal.returns
returns c =
    IfOk-weaker c.counts.result _ _
    (λ v h. are_ranks c.args.numbers.now c.args.marked.now c.in_ok-met.met.items v.items c.requires.numbers c.in_ok-met.ensures
    (h.0 ∙ ap (λ xs. length xs + 1) c.deref.ensures.value)
    (subst (λ bs. (k : ℕ) → k ≤ length bs → at v.items k ≡ rank_of bs k) c.deref.ensures.value h.1))
    c.counts.ensures
