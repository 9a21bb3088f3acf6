-- The text of any number of voices is their program, layer by layer.
use Rattle.std.proofs.Common.{◌≡◌, ℕ, suc, ◌-◌, ◌≤◌, List, [], ◌∷◌, ◌++◌, Ok, refl, ap, sym, subst, ◌∙◌, arith, append-nil}
use Rattle.fv_lex.specs.headline.Symbols.{value}
use Rattle.fv_interval.specs.Interval.{full}
use Rattle.fv_parse_grammar.specs.Laws.{ReadsOnlySpelled}
use Rattle.fv_top_program.specs.Outcomes.{IsAccepted}
use Rattle.fv_rules.specs.Values.{LiteralsStay}
use Rattle.fv_interval.specs.headline.Delays.{amounts}
use Rattle.fv_interval.specs.Delays.{AreAccepted}
use Rattle.fv_interval.specs.headline.SpanHooks.{control_span}
use Rattle.fv_top_program.specs.headline.Program.{delays_in, delayed, first_bad}
use Rattle.fv_top_program.specs.Program.{IsProgram}
use Rattle.fv_top_program.proofs.lemmas.Programs.{spelling_is, value_is, program_is}
use Rattle.fv_top_program.proofs.lemmas.Delayed.{delays_pass}
use Rattle.fv_top_make.specs.Voices.{program_of, VoicesAreAProgram}
use Rattle.fv_top_make.proofs.Numerals.{written}
use Rattle.fv_top_make.proofs.Tokens.{text, lexed, has_tokens}
use Rattle.fv_top_make.proofs.Trees.{tree, accepted}
use Rattle.fv_top_make.proofs.Values.{whole, evaluated}
use Rattle.fv_top_make.proofs.Delays as delays

-- its delays are short enough
short : (voices : ℕ) → voices ≤ 64 → delayed (program_of voices) (first_bad (delays_in (program_of voices))) ≡ Ok (program_of voices)
short voices few =
    let k = voices - 1 in
    let same : delays_in (program_of voices) ≡ delays.delays_from 0 k =
    ap (λ ss. ss ++ []) (delays.delays_are 0 k (control_span []) (λ s. full) _) ∙ append-nil (delays.delays_from 0 k) in
    delays_pass (program_of voices) (amounts (delays.delays_from 0 k))
    (subst (λ ss. AreAccepted ss (amounts (delays.delays_from 0 k))) (sym same) (delays.accepted k (omega arith)))

pub are_a_program : ReadsOnlySpelled → LiteralsStay → VoicesAreAProgram
are_a_program only literals voices some few =
    let k = voices - 1 in
    let w = written voices few in
    let digits : List ℕ = w.first ∷ w.others in
    let n : value digits ≡ suc k = w.value_is ∙ omega arith in
    let spells = spelling_is (text digits) (lexed digits) (tree (suc k)) (has_tokens w.first w.others w.are)
    (subst (λ (m : ℕ). IsAccepted (lexed digits) (tree m)) n (accepted only digits)) in
    let value = evaluated literals digits k (omega arith) in
    let worth = value_is (text digits) (record { tokens = lexed digits; tree = tree (suc k) }) (whole k) [] spells value in
    subst (λ (ds : List ℕ). IsProgram (text ds) (program_of voices)) (sym w.is)
    (program_is (text digits) (program_of voices) worth refl (short voices few))
