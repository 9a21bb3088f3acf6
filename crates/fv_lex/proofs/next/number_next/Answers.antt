use Rattle.fv_lex.specs.headline.Bytes.{is_digit}
use Rattle.fv_lex.proofs.lemmas.Runs.{list_all-prefix_len}
use Rattle.fv_lex.proofs.next.number_next.Goals as goal

pub number-requires : goal.number-requires
number-requires c = rw (c.split_at.ensures.front, c.prefix_len-n.ensures.is) (list_all-prefix_len is_digit c.args.text.now)
