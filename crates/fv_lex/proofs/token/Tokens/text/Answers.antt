use Rattle.std.proofs.Common.{◌<◌, Some, sym, ap, ◌∙◌, length, slice_get, arith}
use Rattle.std.proofs.lemmas.List.Elements.{All-get_or}
use Rattle.fv_lex.specs.headline.Token.{texts_of}
use Rattle.fv_lex.specs.Spans.{IsWithin}
use Rattle.fv_lex.proofs.TokenLists.{length-tokens_in, text_read}
use Rattle.fv_lex.proofs.token.Tokens.text.Goals as goal

pub index-span-requires : goal.index-span-requires
index-span-requires c =
    omega (
      arith,
      c.self.inside.spans.ok.0,
      ap (λ l. length l.tokens) c.self.view_is,
      length-tokens_in c.self.inside.text.now c.self.inside.symbols.items c.self.inside.spans.items c.self.invariant.paired,
    )

pub part-requires : goal.part-requires
part-requires c =
    let within : c.args.i < length c.self.inside.spans.items = omega (
      arith,
      ap (λ l. length l.tokens) c.self.view_is,
      length-tokens_in c.self.inside.text.now c.self.inside.symbols.items c.self.inside.spans.items c.self.invariant.paired,
    ) in
    let inside = All-get_or (IsWithin c.self.inside.text.now) c.self.inside.spans.items c.args.i c.index-span.result.now within c.self.invariant.within in
    rw c.index-span.ensures inside

pub returns : goal.returns
returns c =
    let within : c.args.i < length c.self.inside.spans.items = omega (
      arith,
      ap (λ l. length l.tokens) c.self.view_is,
      length-tokens_in c.self.inside.text.now c.self.inside.symbols.items c.self.inside.spans.items c.self.invariant.paired,
    ) in
    ap (λ l. slice_get (texts_of l.tokens) c.args.i) (sym c.self.view_is) ∙ text_read c.self.inside.text.now c.self.inside.symbols.items
    c.self.inside.spans.items c.args.i c.index-span.result.now c.self.invariant.paired within c.index-span.ensures ∙ ap (λ b. Some b) (sym c.part.ensures)
