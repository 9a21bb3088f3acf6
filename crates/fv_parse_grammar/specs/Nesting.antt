-- How many brackets are open at once.
use Rattle.std.specs.Prelude.{ℕ, zero, suc, ◌+◌, ◌≤◌, List, [], ◌∷◌}
use Rattle.fv_lex.specs.declared.token.Symbol.{Symbol}
use Rattle.fv_lex.specs.declared.token.Symbol.TheVariants.{Open, Close, OpenBrace, CloseBrace}

-- one bracket less is open
abbrev pub lowered : ℕ → ℕ
lowered zero = zero
lowered (suc n) = n

-- brackets are never open in a greater number than the limit, where some are open before (this project's profile)
abbrev pub Nests : ℕ → ℕ → List Symbol → Type 0
Nests limit depth [] = Unit {0}
Nests limit depth (Open ∷ ts) = (depth + 1 ≤ limit) × Nests limit (suc depth) ts
Nests limit depth (OpenBrace ∷ ts) = (depth + 1 ≤ limit) × Nests limit (suc depth) ts
Nests limit depth (Close ∷ ts) = Nests limit (lowered depth) ts
Nests limit depth (CloseBrace ∷ ts) = Nests limit (lowered depth) ts
Nests limit depth (t ∷ ts) = Nests limit depth ts
