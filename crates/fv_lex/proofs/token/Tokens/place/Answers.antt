use Rattle.std.proofs.Common.{◌<◌, sym, ap, ◌∙◌, length, slice_get, arith}
use Rattle.fv_lex.specs.headline.Token.{places_of}
use Rattle.fv_lex.proofs.TokenLists.{length-tokens_in, place_read}
use Rattle.fv_lex.proofs.token.Tokens.place.Goals as goal

pub index-requires : goal.index-requires
index-requires c =
    omega (
      arith,
      c.self.inside.spans.ok.0,
      ap (λ l. length l.tokens) c.self.view_is,
      length-tokens_in c.self.inside.text.now c.self.inside.symbols.items c.self.inside.spans.items c.self.invariant.paired,
    )

pub returns : goal.returns
returns c =
    let within : c.args.i < length c.self.inside.spans.items = omega (
      arith,
      ap (λ l. length l.tokens) c.self.view_is,
      length-tokens_in c.self.inside.text.now c.self.inside.symbols.items c.self.inside.spans.items c.self.invariant.paired,
    ) in
    ap (λ l. slice_get (places_of l.tokens) c.args.i) (sym c.self.view_is) ∙ place_read
    c.self.inside.text.now c.self.inside.symbols.items c.self.inside.spans.items c.args.i c.index.result.now c.self.invariant.paired within c.index.ensures
