use Rattle.std.proofs.Common.{[], Option, None, map, ◌∙◌, ap, add-one}
use Rattle.std.specs.Prelude.{option_map, option_and_then, string_bytes}
use Rattle.fv_top_words.specs.declared.texts.Texts.{Texts}
use Rattle.fv_top_words.specs.headline.Texts.{Texts as Found, no_options, gathered}
use Rattle.fv_top_words.specs.inner.Reader.{Any, pieces_from}
use Rattle.fv_top_words.specs.Views.{read_in, texts_in}
use Rattle.fv_top_words.proofs.Cutting.{cut_is}
use Rattle.fv_top_words.proofs.Reading.{stopped_at, went_on}
use Rattle.fv_top_words.proofs.texts.texts_of.Goals as goal

pub loop-word-init : goal.loop-word-init
loop-word-init c =
    ap (λ (t : Found). option_and_then (gathered t) (pieces_from Any (map string_bytes c.args.words.now))) c.no_texts.ensures
    ∙ ap (option_and_then (gathered (record { plain = []; options = no_options }))) (cut_is None (map string_bytes c.args.words.now))

pub returns-in_err-reader : goal.returns-in_err-reader
returns-in_err-reader c =
    ap (λ (o : Option Texts). option_map texts_in o) c.from_residual.ensures
    ∙ stopped_at (read_in c.loop-word.reader) c.args.words.now c.loop-word.word-index c.word-item.result c.as_str.result.now c.take.result _
    c.loop-word-test.true c.word-item.is c.as_str.ensures.value
    c.take.ensures c.loop-word.invariant c.in_err-reader.was

pub loop-word-preserved : goal.loop-word-preserved
loop-word-preserved c =
    rw add-one (went_on (read_in c.loop-word.reader) c.args.words.now c.loop-word.word-index c.word-item.result c.as_str.result.now c.take.result
    c.in_ok-reader.reader _ c.loop-word-test.true c.word-item.is
    c.as_str.ensures.value c.take.ensures c.loop-word.invariant c.in_ok-reader.was)
