use Rattle.fv_parse.proofs.UnsupportedTokens.{unsupported_here, unsupported_not_here}
use Rattle.fv_parse.proofs.unsupported.first_unsupported.Goals as goal

pub returns-in-Some : goal.returns-in-Some
returns-in-Some c =
    unsupported_here c.loop-i.before c.loop-i.last c.args.tokens.now.tokens c.loop-i.i c.symbol_at-symbol.result c.text.result.now c.in_ok-found.found
    c.symbol_at-symbol.ensures c.text.ensures c.in_ok-found.ensures c.loop-i.invariant c.in-Some.word c.in-Some.is

pub loop-i-preserved : goal.loop-i-preserved
loop-i-preserved c =
    unsupported_not_here c.loop-i.before c.loop-i.last c.args.tokens.now.tokens c.loop-i.i c.symbol_at-symbol.result c.text.result.now c.in_ok-found.found
    c.symbol_at-symbol.ensures c.text.ensures c.in_ok-found.ensures c.loop-i.invariant c.in_default.is
