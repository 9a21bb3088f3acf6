use Rattle.std.proofs.Common.{Ok, inl, inr, ⊎_elim}
use Rattle.std.proofs.lemmas.Result.{err_from_is_err_and}
use Rattle.fv_parse.specs.Trees.{program_of}
use Rattle.fv_top_program.specs.Compiled.{compiled_of}
use Rattle.fv_top_program.specs.headline.Program.{Spelled}
use Rattle.fv_top_program.specs.inner.Layers.{SpellingIs, ValueIs}
use Rattle.fv_top_program.proofs.lemmas.Programs.{bytes_stop, tokens_stop, spelling_is, value_stop, value_is, width_stop, delay_stop, program_is}
use Rattle.fv_top_program.proofs.text.read_program.Goals as goal
use Rattle.fv_top_program.proofs.text.read_program.Goals.{In_ok-tree, In_ok-program}

-- the tree that the text spells
abbrev spelled : In_ok-tree → Spelled
spelled c = record { tokens = c.in_ok-tokens.tokens; tree = program_of c.in_ok-tree.tree }

spelling : (c : In_ok-tree) → SpellingIs c.args.text.now (Ok (spelled c))
spelling c =
    let tree = c.in_ok-tree.ensures.tree in
    spelling_is c.args.text.now c.in_ok-tokens.tokens (program_of c.in_ok-tree.tree) c.in_ok-tokens.ensures.tokens
    (record { supported = tree.supported; spelled = tree.spelled; accepted = tree.accepted })

-- and what it is worth
value : (c : In_ok-program) → SpellingIs c.args.text.now (Ok (record { tokens = c.in_ok-tokens.tokens; tree = program_of c.in_ok-tree.tree }))
    → ValueIs c.args.text.now (Ok (compiled_of c.in_ok-program.program))
value c spells =
    let p = compiled_of c.in_ok-program.program in
    let s : Spelled = record { tokens = c.in_ok-tokens.tokens; tree = program_of c.in_ok-tree.tree } in
    let is = rw c.in_ok-tree.ensures.tree.tokens at c.in_ok-program.ensures.program in
    value_is c.args.text.now s p.diagram p.controls spells is

pub returns-in_err-tokens-clause-refused : goal.returns-in_err-tokens-clause-refused
returns-in_err-tokens-clause-refused c =
    let p = err_from_is_err_and c.from_residual.result c.from_residual.ensures.1 in
    rw p.1 (bytes_stop c.args.text.now _ _ p.2 c.in_err-tokens.ensures.refusal)

pub returns-in_err-tree-clause-refused : goal.returns-in_err-tree-clause-refused
returns-in_err-tree-clause-refused c =
    let p = err_from_is_err_and c.from_residual-in_err-tree.result c.from_residual-in_err-tree.ensures.1 in
    rw p.1 (tokens_stop c.args.text.now _ _ _ c.in_ok-tokens.ensures.tokens p.2 c.in_err-tree.ensures.refusal)

pub returns-in_err-program-clause-refused : goal.returns-in_err-program-clause-refused
returns-in_err-program-clause-refused c =
    let at = (goal.at.returns-in_err-program-clause-refused c).In_ok-tree in
    let q = err_from_is_err_and c.from_residual-in_err-program.result c.from_residual-in_err-program.ensures.1 in
    let is = rw c.in_ok-tree.ensures.tree.tokens at c.in_err-program.ensures.refusal in
    rw q.1 (value_stop c.args.text.now (spelled at) c.in_err-program.field-0.0 _ (spelling at) q.2 is)

pub returns-in_err-check_arity-clause-refused : goal.returns-in_err-check_arity-clause-refused
returns-in_err-check_arity-clause-refused c =
    let at = goal.at.returns-in_err-check_arity-clause-refused c in
    let is = value at.In_ok-program (spelling at.In_ok-tree) in
    let q = err_from_is_err_and c.from_residual-in_err-check_arity.result c.from_residual-in_err-check_arity.ensures.1 in
    let e = c.in_err-check_arity.ensures.err in
    rw (q.1, q.2) (inr (e.0, width_stop c.args.text.now (compiled_of c.in_ok-program.program) _ is e.1))

pub returns-in_err-delays-clause-refused : goal.returns-in_err-delays-clause-refused
returns-in_err-delays-clause-refused c =
    let at = goal.at.returns-in_err-delays-clause-refused c in
    let is = value at.In_ok-program (spelling at.In_ok-tree) in
    let q = err_from_is_err_and c.from_residual-in_err-delays.result c.from_residual-in_err-delays.ensures.1 in
    let p = compiled_of c.in_ok-program.program in
    rw (q.1, q.2) (⊎_elim (λ m. inl m) (λ e. inr (e.0, delay_stop c.args.text.now p _ is c.in_ok-check_arity.ensures.ok e.1)) c.in_err-delays.ensures.err)

pub returns-clause-found : goal.returns-clause-found
returns-clause-found c =
    let at = goal.at.returns-clause-found c in
    let is = value at.In_ok-program (spelling at.In_ok-tree) in
    program_is c.args.text.now (compiled_of c.in_ok-program.program) is c.in_ok-check_arity.ensures.ok c.in_ok-delays.ensures.ok
