use Rattle.std.proofs.Common.{◌≡◌, ◌<◌, ◌∙◌, [], length, get_or, take, sym, ap, arith}
use Rattle.std.specs.Prelude.{unwrap_or}
use Rattle.std.proofs.lemmas.List.{length-map}
use Rattle.std.proofs.lemmas.Option.{get_or_from_slice_get}
use Rattle.fv_lex.specs.headline.Token.{Token, texts_of}
use Rattle.fv_parse.proofs.Known.{keeps_first}
use Rattle.fv_parse.proofs.CanonicalNumbers.{seen_in, number_is, numbers_on, seen_on, numbers_end}
use Rattle.fv_parse.proofs.names.canonical_numbers.Goals as goal

pub loop-i-preserved : goal.loop-i-preserved
loop-i-preserved c =
    let ts = texts_of c.args.tokens.now.tokens in
    let i = c.loop-i.i in
    let text = c.text-text.result.now in
    let inside : i < length ts = omega (arith, c.loop-i-test.true, c.len-i-end.ensures, length-map c.args.tokens.now.tokens (λ (t : Token). t.text)) in
    let is : text ≡ get_or ts i [] = sym (get_or_from_slice_get ts i text [] c.text-text.ensures) in
    let got = c.copied.ensures ∙ c.get.ensures.value ∙ c.loop-i.invariant.known text in
    let number : c.unwrap_or-number.result ≡ unwrap_or c.copied.result i = c.unwrap_or-number.ensures ∙ ap (unwrap_or c.copied.result) c.from.ensures in
    record {
      so_far = numbers_on ts i text inside is c.loop-i.numbers.items _ c.unwrap_or-number.result
          (number ∙ number_is ts i text inside is c.copied.result got) c.in_ok-push.ensures.items c.loop-i.invariant.so_far;
      known = λ cs. keeps_first c.loop-i.seen c.insert.new.self (seen_in (take i ts)) text c.copied.result i c.loop-i.invariant.known got
          (rw number at c.in_ok-insert.ensures.updates) cs ∙ seen_on ts i text inside is cs;
    }

pub returns : goal.returns
returns c =
    let l = c.args.tokens.now in
    let len = length-map l.tokens (λ (t : Token). t.text) in
    let count : c.from-2.result ≡ length (texts_of l.tokens) = c.from-2.ensures ∙ c.len.ensures ∙ sym len in
    numbers_end l c.loop-i.i c.loop-i.numbers.items _ c.copied-2.result (omega (arith, c.loop-i-test.false, c.len-i-end.ensures, len))
    (rw (c.unwrap_or-last.ensures, count) at c.in_ok-push-2.ensures.items)
    (c.copied-2.ensures ∙ c.get-2.ensures.value ∙ c.loop-i.invariant.known []) c.loop-i.invariant.so_far
