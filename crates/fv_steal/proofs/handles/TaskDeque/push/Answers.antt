use Rattle.crossbeam_deque.specs.Handles.{worker_view, worker_index}
use Rattle.fv_steal.proofs.Balances.{puts}
use Rattle.fv_steal.proofs.Pushing.{IsPushed, pushed, is_put, still_owns, index_low, account_after}
use Rattle.fv_steal.proofs.handles.TaskDeque.push.Goals as goal

pub push_as-requires-clause-pushes : goal.push_as-requires-clause-pushes
push_as-requires-clause-pushes c = puts _ _ _ c.args.self.now.owns c.requires.fresh

push_done : (c : goal.After-push_as) → IsPushed c.args.self.now c.args.number (worker_view c.push_as.new.self) (worker_index c.push_as.new.self)
push_done c = pushed c.args.self.now c.args.number (worker_view c.push_as.new.self) (worker_index c.push_as.new.self) c.push_as.result _
    c.push_as.ensures.rule c.push_as.ensures.refused c.requires.below c.requires.fresh

pub invariant_of-self-clause-owns : goal.invariant_of-self-clause-owns
invariant_of-self-clause-owns c = still_owns _ _ _ _ (push_done c) c.requires.below c.requires.fresh

pub invariant_of-self-clause-index : goal.invariant_of-self-clause-index
invariant_of-self-clause-index c = index_low _ _ _ _ (push_done c) c.requires.below c.requires.fresh

pub invariant_of-self-clause-below : goal.invariant_of-self-clause-below
invariant_of-self-clause-below c = (is_put _ _ _ _ (push_done c) c.requires.below c.requires.fresh).below

pub invariant_of-self-clause-once : goal.invariant_of-self-clause-once
invariant_of-self-clause-once c = (is_put _ _ _ _ (push_done c) c.requires.below c.requires.fresh).once

pub returns-clause-account : goal.returns-clause-account
returns-clause-account c = account_after c.args.self.now c.args.number (worker_view c.push_as.new.self) (worker_index c.push_as.new.self)
    (pushed c.args.self.now c.args.number (worker_view c.push_as.new.self) (worker_index c.push_as.new.self) c.push_as.result _
    c.push_as.ensures.rule c.push_as.ensures.refused c.requires.below c.requires.fresh) c.requires.below c.requires.fresh
