-- A whole text.
use Rattle.std.proofs.Common.{◌≡◌, ℕ, ◌<◌, ◌≤◌, List, [], ◌∷◌, length, Ok, Err, refl, arith}
use Rattle.fv_lex.specs.declared.token.Symbol.{Symbol}
use Rattle.fv_parse_grammar.specs.declared.symbol.Items.TheVariants.{Statements}
use Rattle.fv_parse_grammar.specs.headline.Tree.{Tree}
use Rattle.fv_parse_grammar.specs.Descent.{program, further, within}

pub stopped : (n : ℕ) (ts at : List Symbol) → further (within n) Statements ts ≡ Err at → program n ts ≡ Err at
unfolding program
stopped n ts at e = rw e refl

pub ended : (n : ℕ) (ts rest : List Symbol) (x : Tree) → further (within n) Statements ts ≡ Ok (x, rest) → length rest < 1 → program n ts ≡ Ok x
unfolding program
ended n ts [] x e h = rw e refl
ended n ts (t ∷ rest) x e h = absurd (omega arith)

pub went_on : (n : ℕ) (ts rest : List Symbol) (x : Tree) → further (within n) Statements ts ≡ Ok (x, rest) → 1 ≤ length rest → program n ts ≡ Err rest
unfolding program
went_on n ts [] x e h = absurd (omega arith)
went_on n ts (t ∷ rest) x e h = rw e refl
