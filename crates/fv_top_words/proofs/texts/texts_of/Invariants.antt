use Rattle.std.proofs.Common.{◌≡◌, map, drop}
use Rattle.std.specs.Prelude.{string_bytes}
use Rattle.fv_top_words.specs.headline.Texts.{texts_of}
use Rattle.fv_top_words.specs.Views.{read_in, finished}
use Rattle.fv_top_words.proofs.texts.texts_of.Given as goal

-- the words that are left make of those so far what all of them make
abbrev pub invariant-loop-word : goal.invariant-loop-word
invariant-loop-word l = finished (read_in l.reader) (map string_bytes (drop l.word-index l.words)) ≡ texts_of (map string_bytes l.words)
