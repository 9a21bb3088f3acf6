use Rattle.std.proofs.Common.{◌≡◌, length}
use Rattle.std.specs.Vec.Iter.{into_iter_items, into_iter_len}
use Rattle.fv_share.specs.Drafts.{CanClose, with_all_members, lists_in}
use Rattle.fv_share.proofs.builder.Builder.close_groups.Given as goal

abbrev pub invariant-loop-list : goal.invariant-loop-list
invariant-loop-list l = record {
  rest : CanClose l.self l.group (lists_in (into_iter_items l.list-iterator));
  all : with_all_members l.self l.group (lists_in (into_iter_items l.list-iterator)) ≡ with_all_members l.fn.self l.fn.first (lists_in l.fn.lists.items);
  long : into_iter_len l.list-iterator ≡ length (into_iter_items l.list-iterator);
}
