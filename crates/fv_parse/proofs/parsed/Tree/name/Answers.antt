use Rattle.std.proofs.Common.{◌∙◌, min, get_or, length, ap, arith}
use Rattle.fv_parse.specs.Trees.{Parsed, first_named}
use Rattle.fv_parse.proofs.CanonicalNumbers.{length_canonical, name_is}
use Rattle.fv_parse.proofs.parsed.Tree.name.Goals as goal

pub index-requires : goal.index-requires
index-requires c =
    omega (arith, c.min-i.ensures, c.from-count.ensures, c.len.ensures, ap length c.self.invariant.numbers, length_canonical c.self.inside.tokens.now)

pub returns : goal.returns
returns c =
    let l = c.self.inside.tokens.now in
    c.index.ensures ∙ ap (λ ns. get_or ns c.min-i.result c.index.result.now) c.self.invariant.numbers
    ∙ name_is l c.args.n c.min-i.result c.index.result.now (c.min-i.ensures ∙ ap (min c.args.n) (c.from-count.ensures ∙ c.len.ensures))
    ∙ ap (λ (p : Parsed). first_named p.tokens c.args.n) c.self.view_is
