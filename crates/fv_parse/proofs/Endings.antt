-- A whole program.
use Rattle.std.proofs.Common.{◌≡◌, List, None, Result, Ok, Err, inl, inr, ◌⊎◌, sym, ap, subst}
use Rattle.std.specs.Prelude.{IfOk, IfErr}
use Rattle.fv_lex.specs.declared.token.Symbol.{Symbol}
use Rattle.fv_lex.specs.headline.Token.{Lexed, symbols_of}
use Rattle.fv_parse_grammar.specs.headline.Tree.{Tree as Spelled}
use Rattle.fv_parse_grammar.specs.Nesting.{Nests}
use Rattle.fv_parse_grammar.specs.Descent.{program}
use Rattle.fv_parse_grammar.specs.Grammar.{SpelledOnce}
use Rattle.fv_parse_grammar.specs.Laws.{ReadsOnlySpelled, ReadsAllSpelled}
use Rattle.fv_parse.specs.declared.refusal.ParseRefusal.{ParseRefusal}
use Rattle.fv_parse.specs.declared.refusal.ParseRefusal.TheVariants as refusals
use Rattle.fv_parse.specs.Trees.{Parsed, program_of}
use Rattle.fv_parse.specs.headline.Outcomes.{IsSupported, IsSpelled, IsAccepted, HasRefusal, refused_tree}
use Rattle.fv_parse.specs.Outcomes.{HasTree, IsOneRefusal, IsNotBoth, IsRefusedOrWants}
use Rattle.fv_parse.specs.inner.Outcomes.{Finishes}
use Rattle.fv_parse.specs.headline.StaticErrors.{refused}
use Rattle.fv_base.specs.declared.limits.TheConstants.{DEEPEST_NESTING}

-- ---- no tree
pub no_tree : ReadsAllSpelled → (l : Lexed) (at : List Symbol)
    → Nests DEEPEST_NESTING 0 (symbols_of l.tokens) → program DEEPEST_NESTING (symbols_of l.tokens) ≡ Err at → (x : Spelled) → IsSpelled l x → ⊥
no_tree reads l at nests e x s = let read = reads DEEPEST_NESTING (symbols_of l.tokens) x s nests in cc

-- ---- answers
pub tree_answer : ReadsOnlySpelled → (l : Lexed) (x : Spelled) (r : Result Parsed ParseRefusal)
    → IsSupported l → program DEEPEST_NESTING (symbols_of l.tokens) ≡ Ok x → Finishes l x r → IfOk r (HasTree l)
tree_answer sound l x (Ok p) supported read f = record {
  supported = supported;
  tokens = f.0;
  spelled = subst (λ y. IsSpelled l y) (sym f.1) (sound DEEPEST_NESTING (symbols_of l.tokens) x read);
  accepted = subst (λ y. refused l y ≡ None) (sym f.1) f.2;
}
tree_answer sound l x (Err e) supported read f = tt

pub refusal_answer : ReadsOnlySpelled → (l : Lexed) (x : Spelled) (r : Result Parsed ParseRefusal)
    → IsSupported l → program DEEPEST_NESTING (symbols_of l.tokens) ≡ Ok x → Finishes l x r → IfErr r (λ e. (e ≡ refusals.NoMemory) ⊎ HasRefusal l e)
refusal_answer sound l x (Ok p) supported read f = tt
refusal_answer sound l x (Err e) supported read f = elim f [
  | inl memory ↦ inl memory
  | inr was ↦ inr (refused_tree supported (sound DEEPEST_NESTING (symbols_of l.tokens) x read) was)
]

pub only_answer : SpelledOnce
    → (l : Lexed) (r : Result Parsed ParseRefusal) → IfOk r (HasTree l) → IfOk r (λ p. (x : Spelled) → IsSpelled l x → x ≡ program_of p)
only_answer once l (Ok p) tree = λ x s. once (symbols_of l.tokens) x (program_of p) s tree.spelled
only_answer once l (Err e) tree = tt

-- a tree that is answered is accepted
accepted_is : (l : Lexed) (p : Parsed) → HasTree l p → IsAccepted l (program_of p)
accepted_is l p tree = record { supported = tree.supported; spelled = tree.spelled; accepted = tree.accepted }

pub exact_answer : IsOneRefusal → IsNotBoth → (l : Lexed) (r : Result Parsed ParseRefusal)
    → IfOk r (HasTree l) → IfErr r (λ e. (e ≡ refusals.NoMemory) ⊎ HasRefusal l e) → (e : ParseRefusal) → HasRefusal l e → IsRefusedOrWants r e
exact_answer one apart l (Ok p) tree refusal e has = absurd (apart l (program_of p) e (accepted_is l p tree) has)
exact_answer one apart l (Err f) tree refusal e has = elim refusal [
  | inl memory ↦ inr (ap (λ (g : ParseRefusal). let r : Result Parsed ParseRefusal = Err g in r) memory)
  | inr is ↦ inl (ap (λ (g : ParseRefusal). let r : Result Parsed ParseRefusal = Err g in r) (one l f e is has))
]

pub accepted_answer : IsNotBoth → (l : Lexed) (r : Result Parsed ParseRefusal)
    → IfErr r (λ e. (e ≡ refusals.NoMemory) ⊎ HasRefusal l e) → (x : Spelled) → IsAccepted l x → IfErr r (λ e. e ≡ refusals.NoMemory)
accepted_answer apart l (Ok p) refusal x accepted = tt
accepted_answer apart l (Err f) refusal x accepted = elim refusal [
  | inl memory ↦ memory
  | inr is ↦ absurd (apart l x f accepted is)
]
