use Rattle.std.proofs.Common.{length, ◌+◌, ◌-◌, ◌*◌}
use Rattle.fv_parse_tree.specs.Arena.{tree_at, trees}
use Rattle.fv_parse_tree.specs.Gives.{list_of, in_front}
use Rattle.fv_parse_grammar.specs.Descent.{run, postfix_turn, with_turn, left_turn, phrase, within, chain, item}
use Rattle.fv_parse_grammar.proofs.lemmas.Loops.{all_of}
use Rattle.fv_parse_tree.proofs.Progress.{Goes, Gathers, Leans}
use Rattle.fv_parse_tree.proofs.reader.Reader.+parser.Given as goal

abbrev pub decreases-inside : goal.decreases-inside
decreases-inside l = l.nesting * 64

abbrev pub decreases-enclosed : goal.decreases-enclosed
decreases-enclosed l = l.nesting * 64 + 1

abbrev pub decreases-argument : goal.decreases-argument
decreases-argument l = l.nesting * 64 + 1

abbrev pub decreases-group : goal.decreases-group
decreases-group l = l.nesting * 64 + 2

abbrev pub decreases-abstraction : goal.decreases-abstraction
decreases-abstraction l = l.nesting * 64 + 2

abbrev pub decreases-case_of : goal.decreases-case_of
decreases-case_of l = l.nesting * 64 + 2

abbrev pub decreases-iteration : goal.decreases-iteration
decreases-iteration l = l.nesting * 64 + 2

abbrev pub decreases-ports : goal.decreases-ports
decreases-ports l = l.nesting * 64 + 2

abbrev pub decreases-slider : goal.decreases-slider
decreases-slider l = l.nesting * 64 + 2

abbrev pub decreases-panel : goal.decreases-panel
decreases-panel l = l.nesting * 64 + 2

abbrev pub decreases-applied : goal.decreases-applied
decreases-applied l = l.nesting * 64 + 2

abbrev pub decreases-with_part : goal.decreases-with_part
decreases-with_part l = l.nesting * 64 + 2

abbrev pub decreases-by_first : goal.decreases-by_first
decreases-by_first l = l.nesting * 64 + 3

abbrev pub decreases-atom_by_first : goal.decreases-atom_by_first
decreases-atom_by_first l = l.nesting * 64 + 3

abbrev pub decreases-next_postfix : goal.decreases-next_postfix
decreases-next_postfix l = l.nesting * 64 + 3

abbrev pub decreases-next_with : goal.decreases-next_with
decreases-next_with l = l.nesting * 64 + 3

abbrev pub decreases-primary : goal.decreases-primary
decreases-primary l = l.nesting * 64 + 4

abbrev pub decreases-postfixes : goal.decreases-postfixes
decreases-postfixes l = l.nesting * 64 + 4

abbrev pub decreases-withs : goal.decreases-withs
decreases-withs l = l.nesting * 64 + 4

abbrev pub decreases-postfix : goal.decreases-postfix
decreases-postfix l = l.nesting * 64 + 5

abbrev pub decreases-operand : goal.decreases-operand
decreases-operand l = l.nesting * 64 + 6

abbrev pub decreases-phrase : goal.decreases-phrase
decreases-phrase l = l.nesting * 64 + 7 + 3 * l.precedence

abbrev pub decreases-lefts : goal.decreases-lefts
decreases-lefts l = l.nesting * 64 + 6 + 3 * l.precedence

abbrev pub decreases-rights : goal.decreases-rights
decreases-rights l = l.nesting * 64 + 6 + 3 * l.precedence

abbrev pub decreases-next_left : goal.decreases-next_left
decreases-next_left l = l.nesting * 64 + 5 + 3 * l.precedence

abbrev pub decreases-expression : goal.decreases-expression
decreases-expression l = l.nesting * 64 + 40

abbrev pub decreases-ended : goal.decreases-ended
decreases-ended l = l.nesting * 64 + 41

abbrev pub decreases-function_after : goal.decreases-function_after
decreases-function_after l = l.nesting * 64 + 42

abbrev pub decreases-constant_after : goal.decreases-constant_after
decreases-constant_after l = l.nesting * 64 + 42

abbrev pub decreases-after_name : goal.decreases-after_name
decreases-after_name l = l.nesting * 64 + 43

abbrev pub decreases-one_rule : goal.decreases-one_rule
decreases-one_rule l = l.nesting * 64 + 43

abbrev pub decreases-definition : goal.decreases-definition
decreases-definition l = l.nesting * 64 + 44

abbrev pub decreases-statement : goal.decreases-statement
decreases-statement l = l.nesting * 64 + 45

abbrev pub decreases-inner_definition : goal.decreases-inner_definition
decreases-inner_definition l = l.nesting * 64 + 45

abbrev pub decreases-next_rule : goal.decreases-next_rule
decreases-next_rule l = l.nesting * 64 + 45

abbrev pub decreases-next_part : goal.decreases-next_part
decreases-next_part l = l.nesting * 64 + 45

abbrev pub decreases-first_item : goal.decreases-first_item
decreases-first_item l = l.nesting * 64 + 45

abbrev pub decreases-next_item : goal.decreases-next_item
decreases-next_item l = l.nesting * 64 + 46

abbrev pub decreases-further : goal.decreases-further
decreases-further l = l.nesting * 64 + 47

abbrev pub decreases-listed : goal.decreases-listed
decreases-listed l = l.nesting * 64 + 48

abbrev pub invariant-postfixes-loop-next : goal.invariant-postfixes-loop-next
invariant-postfixes-loop-next l =
    Goes (postfix_turn (within l.nesting) l.start) (trees l.fn.self.arena) (trees l.self.arena) l.tree l.fn.self.symbols.rest.now l.self.symbols.rest.now
    (run (postfix_turn (within l.nesting) l.start) (tree_at (trees l.fn.self.arena) l.fn.first) l.fn.self.symbols.rest.now)

abbrev pub decreases-postfixes-loop-next : goal.decreases-postfixes-loop-next
decreases-postfixes-loop-next l = length l.self.symbols.rest.now

abbrev pub invariant-withs-loop-next : goal.invariant-withs-loop-next
invariant-withs-loop-next l =
    Goes (with_turn (within l.nesting) l.start) (trees l.fn.self.arena) (trees l.self.arena) l.tree l.fn.self.symbols.rest.now l.self.symbols.rest.now
    (run (with_turn (within l.nesting) l.start) (tree_at (trees l.fn.self.arena) l.fn.first) l.fn.self.symbols.rest.now)

abbrev pub decreases-withs-loop-next : goal.decreases-withs-loop-next
decreases-withs-loop-next l = length l.self.symbols.rest.now

abbrev pub invariant-lefts-loop-next : goal.invariant-lefts-loop-next
invariant-lefts-loop-next l =
    Goes (left_turn (phrase (within l.nesting) l.operands l.commas (l.precedence - 1)) l.operands l.commas (l.precedence + 1) l.start)
    (trees l.fn.self.arena) (trees l.self.arena) l.tree l.fn.self.symbols.rest.now l.self.symbols.rest.now
    (run (left_turn (phrase (within l.nesting) l.operands l.commas (l.precedence - 1)) l.operands l.commas (l.precedence + 1) l.start)
    (tree_at (trees l.fn.self.arena) l.fn.first) l.fn.self.symbols.rest.now)

abbrev pub decreases-lefts-loop-next : goal.decreases-lefts-loop-next
decreases-lefts-loop-next l = length l.self.symbols.rest.now

abbrev pub invariant-further-loop-parts : goal.invariant-further-loop-parts
invariant-further-loop-parts l =
    Gathers (trees l.fn.self.arena) (trees l.self.arena) l.parts.items l.fn.self.symbols.rest.now l.self.symbols.rest.now
    (all_of (item (within l.nesting) l.items) l.self.symbols.rest.now)
    (in_front (trees l.fn.self.arena) (list_of l.fn.first) (all_of (item (within l.nesting) l.items) l.fn.self.symbols.rest.now))

abbrev pub decreases-further-loop-parts : goal.decreases-further-loop-parts
decreases-further-loop-parts l = length l.self.symbols.rest.now

abbrev pub invariant-rights-loop-pending : goal.invariant-rights-loop-pending
invariant-rights-loop-pending l = Leans (trees l.fn.self.arena) (trees l.self.arena) l.pending.items l.fn.self.symbols.rest.now l.self.symbols.rest.now
    (chain (phrase (within l.nesting) l.operands l.commas (l.precedence - 1)) l.operands l.commas (l.precedence + 1) l.self.symbols.rest.now)
    (chain (phrase (within l.nesting) l.operands l.commas (l.precedence - 1)) l.operands l.commas (l.precedence + 1) l.fn.self.symbols.rest.now)

abbrev pub decreases-rights-loop-pending : goal.decreases-rights-loop-pending
decreases-rights-loop-pending l = length l.self.symbols.rest.now
