use Rattle.std.proofs.Common.{◌+◌, ◌-◌, arith}
use Rattle.std.proofs.lemmas.Result.{err_from_is_err_and}
use Rattle.fv_parse_grammar.specs.declared.symbol.Inside.TheVariants as insides
use Rattle.fv_parse_grammar.specs.Descent.{within, phrase, item, further}
use Rattle.fv_parse_grammar.specs.declared.symbol.Items.TheVariants.{Definitions}
use Rattle.fv_parse_grammar.proofs.lemmas.Loops.{chain_stop}
use Rattle.fv_parse_tree.specs.Arena.{trees}
use Rattle.fv_parse_tree.proofs.lemmas.Arenas.{inside_more, below_more}
use Rattle.fv_parse_tree.proofs.Progress.{goes_on, goes_done, goes_stop, gathers_on, gathers_end, gathers_fail, leans_on, leans_finish, leans_fail}
use Rattle.fv_parse_tree.proofs.Steps.{no_nesting, descended, of_nothing, phrase_zero, phrase_right, left_fails, left_gives, right_on}
use Rattle.fv_parse_tree.proofs.Steps.{right_off, further_is}
use Rattle.fv_parse_tree.proofs.reader.Reader.+parser.Goals as goal

pub postfixes-returns-in_err-next-clause-is : goal.postfixes-returns-in_err-next-clause-is
postfixes-returns-in_err-next-clause-is t c =
    let p = err_from_is_err_and c.from_residual.result c.from_residual.ensures.1 in
    rw (p.1, p.2) (goes_stop c.loop-next.invariant c.in_err-next.field-0.0 c.next_postfix.new.self.symbols.rest.now c.in_err-next.ensures.is)

pub postfixes-loop-next-preserved : goal.postfixes-loop-next-preserved
postfixes-loop-next-preserved t c = goes_on c.loop-next.invariant (rw c.in-Some.is at c.in_ok-next.ensures.is) (rw c.in-Some.is at c.in_ok-next.ensures.shorter)

pub postfixes-returns-clause-is : goal.postfixes-returns-clause-is
postfixes-returns-clause-is t c = goes_done c.loop-next.invariant (rw c.in_default.is at c.in_ok-next.ensures.is)

pub withs-returns-in_err-next-clause-is : goal.withs-returns-in_err-next-clause-is
withs-returns-in_err-next-clause-is t c =
    let p = err_from_is_err_and c.from_residual.result c.from_residual.ensures.1 in
    rw (p.1, p.2) (goes_stop c.loop-next.invariant c.in_err-next.field-0.0 c.next_with.new.self.symbols.rest.now c.in_err-next.ensures.is)

pub withs-loop-next-preserved : goal.withs-loop-next-preserved
withs-loop-next-preserved t c = goes_on c.loop-next.invariant (rw c.in-Some.is at c.in_ok-next.ensures.is) (rw c.in-Some.is at c.in_ok-next.ensures.shorter)

pub withs-returns-clause-is : goal.withs-returns-clause-is
withs-returns-clause-is t c = goes_done c.loop-next.invariant (rw c.in_default.is at c.in_ok-next.ensures.is)

pub lefts-returns-in_err-next-clause-is : goal.lefts-returns-in_err-next-clause-is
lefts-returns-in_err-next-clause-is t c =
    let p = err_from_is_err_and c.from_residual.result c.from_residual.ensures.1 in
    rw (p.1, p.2) (goes_stop c.loop-next.invariant c.in_err-next.field-0.0 c.next_left.new.self.symbols.rest.now c.in_err-next.ensures.is)

pub lefts-loop-next-preserved : goal.lefts-loop-next-preserved
lefts-loop-next-preserved t c = goes_on c.loop-next.invariant (rw c.in-Some.is at c.in_ok-next.ensures.is) (rw c.in-Some.is at c.in_ok-next.ensures.shorter)

pub lefts-returns-clause-is : goal.lefts-returns-clause-is
lefts-returns-clause-is t c = goes_done c.loop-next.invariant (rw c.in_default.is at c.in_ok-next.ensures.is)

pub inside-returns-then-nesting-eq0-clause-is : goal.inside-returns-then-nesting-eq0-clause-is
inside-returns-then-nesting-eq0-clause-is t c = no_nesting c.args.nesting c.args.what c.args.self.now.symbols.rest.now c.if-nesting-eq0.true

pub inside-returns-in-Expression-clause-is : goal.inside-returns-in-Expression-clause-is
inside-returns-in-Expression-clause-is t c =
    descended c.args.self.now c.expression.new.self c.expression.result c.args.nesting _ insides.Expression c.args.self.now.symbols.rest.now c.in-Expression.is
    (omega arith) c.expression.ensures.is

pub inside-returns-in-Argument-clause-is : goal.inside-returns-in-Argument-clause-is
inside-returns-in-Argument-clause-is t c =
    descended c.args.self.now c.phrase.new.self c.phrase.result c.args.nesting _ insides.Argument c.args.self.now.symbols.rest.now c.in-Argument.is
    (omega arith) c.phrase.ensures.is

pub inside-returns-in-Pattern-clause-is : goal.inside-returns-in-Pattern-clause-is
inside-returns-in-Pattern-clause-is t c =
    descended c.args.self.now c.phrase-in-Pattern.new.self
    c.phrase-in-Pattern.result c.args.nesting _ insides.Pattern c.args.self.now.symbols.rest.now c.in-Pattern.is (omega arith) c.phrase-in-Pattern.ensures.is

pub inside-returns-in-Arguments-clause-is : goal.inside-returns-in-Arguments-clause-is
inside-returns-in-Arguments-clause-is t c =
    descended c.args.self.now c.listed.new.self c.listed.result c.args.nesting _ insides.Arguments c.args.self.now.symbols.rest.now c.in-Arguments.is
    (omega arith) c.listed.ensures.is

pub inside-returns-in-Patterns-clause-is : goal.inside-returns-in-Patterns-clause-is
inside-returns-in-Patterns-clause-is t c =
    descended c.args.self.now c.listed-in-Patterns.new.self c.listed-in-Patterns.result
    c.args.nesting _ insides.Patterns c.args.self.now.symbols.rest.now c.in-Patterns.is (omega arith) c.listed-in-Patterns.ensures.is

pub inside-returns-in-Rules-clause-is : goal.inside-returns-in-Rules-clause-is
inside-returns-in-Rules-clause-is t c =
    descended c.args.self.now c.listed-in-Rules.new.self c.listed-in-Rules.result c.args.nesting _ insides.Rules c.args.self.now.symbols.rest.now c.in-Rules.is
    (omega arith) c.listed-in-Rules.ensures.is

pub inside-returns-in-Definitions-clause-is : goal.inside-returns-in-Definitions-clause-is
inside-returns-in-Definitions-clause-is t c =
    descended c.args.self.now c.further.new.self
    c.further.result c.args.nesting _ insides.Definitions c.args.self.now.symbols.rest.now c.in-Definitions.is (omega arith)
    (of_nothing c.args.self.now c.further.new.self c.further.result
    (trees c.args.self.now.arena) (further (within (c.args.nesting - 1)) Definitions c.args.self.now.symbols.rest.now) c.further.ensures.is)

pub further-returns-in_err-found-clause-is : goal.further-returns-in_err-found-clause-is
further-returns-in_err-found-clause-is t c =
    let p = err_from_is_err_and c.from_residual-in_err-found.result c.from_residual-in_err-found.ensures.1 in
    let read = item (within c.args.nesting) c.args.items in
    let tokens = c.args.self.now.symbols.rest.now in
    rw (p.1, p.2, further_is (within c.args.nesting) c.args.items tokens)
    (gathers_fail read c.loop-parts.invariant c.in_err-found.field-0.0 c.next_item.new.self.symbols.rest.now c.in_err-found.ensures.is)

pub further-loop-parts-preserved : goal.further-loop-parts-preserved
further-loop-parts-preserved t c =
    let read = item (within c.args.nesting) c.args.items in
    gathers_on read c.loop-parts.invariant (trees c.next_item.new.self.arena) _ c.in-Some.found c.next_item.new.self.symbols.rest.now
    (rw c.in-Some.is at c.in_ok-found.ensures.is) c.in_ok-keep.ensures (rw c.in-Some.is at c.in_ok-found.ensures.shorter)

pub further-push-requires : goal.further-push-requires
further-push-requires t c =
    let done = rw c.in_default.is at c.in_ok-found.ensures.is in
    let le = done.keeps.longer in
    below_more _ _ c.loop-parts.parts.items c.loop-parts.invariant.inside le

pub further-returns-clause-is : goal.further-returns-clause-is
further-returns-clause-is t c =
    let done = rw c.in_default.is at c.in_ok-found.ensures.is in
    let read = item (within c.args.nesting) c.args.items in
    let tokens = c.args.self.now.symbols.rest.now in
    rw (further_is (within c.args.nesting) c.args.items tokens)
    (gathers_end read c.loop-parts.invariant (trees c.next_item.new.self.arena) (trees c.push.new.self) c.in_ok-push.field-0
    c.next_item.new.self.symbols.rest.now done c.in_ok-push.ensures.keeps c.in_ok-push.ensures.inside c.in_ok-push.ensures.is)

pub phrase-returns-in_err-first-clause-is : goal.phrase-returns-in_err-first-clause-is
phrase-returns-in_err-first-clause-is t c =
    let p = err_from_is_err_and c.from_residual.result c.from_residual.ensures.1 in
    rw (p.1, p.2) (left_fails (within c.args.nesting) c.args.operands c.args.commas c.args.precedence
    c.args.self.now.symbols.rest.now c.in_err-first.field-0.0 c.phrase.new.self.symbols.rest.now (omega arith) (omega arith) c.in_err-first.ensures.is)

pub phrase-returns-then-precedence-eq0-clause-is : goal.phrase-returns-then-precedence-eq0-clause-is
phrase-returns-then-precedence-eq0-clause-is t c =
    rw (phrase_zero (within c.args.nesting) c.args.operands c.args.commas c.args.precedence c.args.self.now.symbols.rest.now c.if-precedence-eq0.true)
    c.operand.ensures.is

pub phrase-returns-in_ok-first-clause-is : goal.phrase-returns-in_ok-first-clause-is
phrase-returns-in_ok-first-clause-is t c =
    left_gives (within c.args.nesting) c.args.operands c.args.commas c.args.precedence c.args.self.now.symbols.rest.now
    c.args.self.now c.phrase.new.self c.lefts.new.self
    c.in_ok-first.first c.lefts.result (omega arith) (omega arith) c.in_ok-first.ensures.is c.lefts.ensures.is

pub phrase-returns-else-precedence-le-LAST_LEFT-clause-is : goal.phrase-returns-else-precedence-le-LAST_LEFT-clause-is
phrase-returns-else-precedence-le-LAST_LEFT-clause-is t c =
    rw (phrase_right (within c.args.nesting) c.args.operands c.args.commas c.args.precedence c.args.self.now.symbols.rest.now (omega arith)) c.rights.ensures.is

pub rights-returns-in_err-tree-clause-is : goal.rights-returns-in_err-tree-clause-is
rights-returns-in_err-tree-clause-is t c =
    let p = err_from_is_err_and c.from_residual.result c.from_residual.ensures.1 in
    let part = phrase (within c.args.nesting) c.args.operands c.args.commas (c.args.precedence - 1) in
    let rest = c.loop-pending.self.symbols.rest.now in
    rw (p.1, p.2) (leans_fail c.loop-pending.invariant (part rest) c.in_err-tree.field-0.0 c.phrase.new.self.symbols.rest.now c.in_err-tree.ensures.is
    (λ h. chain_stop part c.args.operands c.args.commas (c.args.precedence + 1) rest c.phrase.new.self.symbols.rest.now h))

pub rights-join-requires-clause-parts : goal.rights-join-requires-clause-parts
rights-join-requires-clause-parts t c =
    inside_more (trees c.loop-pending.self.arena)
    (trees c.phrase.new.self.arena) c.loop-pending.pending.items c.loop-pending.invariant.inside c.in_ok-tree.ensures.is.keeps

pub rights-returns-in-None-clause-is : goal.rights-returns-in-None-clause-is
rights-returns-in-None-clause-is t c =
    let part = phrase (within c.args.nesting) c.args.operands c.args.commas (c.args.precedence - 1) in
    rw c.in-None.ensures.1
    (leans_finish c.loop-pending.invariant (trees c.phrase.new.self.arena) (trees c.join.new.arena) c.in_ok-tree.tree c.in_ok-join-in-None.field-0
    c.phrase.new.self.symbols.rest.now c.in_ok-tree.ensures.is.keeps
    (right_off part c.args.operands c.args.commas (c.args.precedence + 1) c.loop-pending.self.symbols.rest.now
    c.phrase.new.self.symbols.rest.now _ c.in_ok-tree.ensures.is.is c.in-None.ensures.0) c.in_ok-join-in-None.ensures)

pub rights-loop-pending-preserved : goal.rights-loop-pending-preserved
rights-loop-pending-preserved t c =
    let part = phrase (within c.args.nesting) c.args.operands c.args.commas (c.args.precedence - 1) in
    let next = c.operator_of.new.self.rest.now in
    let fewer = c.in-Some.ensures.shorter in
    let less = c.in_ok-tree.ensures.shorter in
    leans_on c.loop-pending.invariant (trees c.phrase.new.self.arena) _ _ next _ c.in_ok-tree.ensures.is.keeps
    c.in_ok-tree.ensures.is.inside c.in_ok-push-in-Some.ensures.items (omega (arith, fewer, less))
    (right_on part c.args.operands c.args.commas (c.args.precedence + 1) c.loop-pending.self.symbols.rest.now
    c.phrase.new.self.symbols.rest.now _ c.in_ok-tree.ensures.is.is next c.in-Some.op c.in-Some.ensures (omega (arith, fewer, less)))
