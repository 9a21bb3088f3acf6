use Rattle.std.proofs.Common.{◌≡◌, ◌≤◌, length}
use Rattle.fv_parse_grammar.specs.Descent.{a_literal, literal_list}
use Rattle.fv_parse_tree.proofs.Progress.{with_items}
use Rattle.fv_parse_tree.proofs.reader.Symbols.literals.Given as goal

abbrev pub invariant-loop-items : goal.invariant-loop-items
invariant-loop-items l = record {
  shorter : length l.self.rest.now ≤ length l.fn.self.rest.now;
  same : with_items a_literal l.items.items (literal_list l.self.rest.now)
      ≡ literal_list l.fn.self.rest.now;
}

abbrev pub decreases-loop-items : goal.decreases-loop-items
decreases-loop-items l = length l.self.rest.now
