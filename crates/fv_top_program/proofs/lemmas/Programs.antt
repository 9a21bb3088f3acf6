-- A text is one program, or it is refused.
use Rattle.std.proofs.Common.{◌≡◌, ◌⊎◌, ℕ, List, Ok, Err, ◌∙◌, sym, ap, inl, inr, refl}
use Rattle.std.specs.Prelude.{Result}
use Rattle.fv_lex.specs.declared.refusal.LexRefusal.{LexRefusal}
use Rattle.fv_lex.specs.declared.refusal.LexRefusal.TheVariants as bytes
use Rattle.fv_lex.specs.headline.Token.{Lexed}
use Rattle.fv_lex.specs.headline.Cuts.{Has}
use Rattle.fv_lex.specs.Cuts.{HasTokens, HasRefusal as HasBytesRefusal, HasAtMostOne, HasAtLeastOne}
use Rattle.fv_parse_grammar.specs.headline.Tree.{Tree}
use Rattle.fv_parse_grammar.specs.Grammar.{SpelledOnce}
use Rattle.fv_parse.specs.declared.refusal.ParseRefusal.{ParseRefusal}
use Rattle.fv_parse.specs.declared.refusal.ParseRefusal.TheVariants as tokens
use Rattle.fv_parse.specs.headline.Outcomes.{IsAccepted, HasRefusal as HasTokensRefusal}
use Rattle.fv_parse.specs.Outcomes.{IsOneRefusal, IsNotBoth, IsOneOrOther as TokensOneOrOther}
use Rattle.fv_interval.specs.Diagram.{Diagram}
use Rattle.fv_eval.specs.EvalRefusal.{EvalRefusal}
use Rattle.fv_eval.specs.EvalRefusal.TheVariants as values
use Rattle.fv_eval.specs.Rules.{program_value}
use Rattle.fv_top_report.specs.declared.refusal.Refusal.{Refusal}
use Rattle.fv_top_report.specs.declared.refusal.Refusal.TheVariants.{NoMemory}
use Rattle.fv_top_program.specs.headline.Answers.{Turned, kept, turned, stops, goes_on}
use Rattle.fv_top_program.specs.Answers.{IsOnce, IsSome, RefusesOthers}
use Rattle.fv_top_program.specs.headline.Compiled.{Compiled}
use Rattle.fv_top_program.specs.headline.Program.{Spelled, Parses, spells, refused, valued, narrow, delayed, delays_in, first_bad, TextIs}
use Rattle.fv_top_program.specs.inner.Layers.{Evaluates, Narrow, Delayed, SpellingIs, ValueIs, WidthIs}
use Rattle.fv_top_program.specs.Program.{IsProgram, IsRefusedText, IsOfText}
use Rattle.fv_top_report.specs.headline.Layers.{of_bytes, of_tokens, of_value}
use Rattle.fv_top_program.proofs.lemmas.AnswerLaws.{then_once, then_some, then_refuses, turned_once, turned_some, kept_is}

-- ---- each layer

parses_once : SpelledOnce → IsOneRefusal → IsNotBoth → IsOnce Parses
parses_once spelled once apart l r s (spells x h) (spells y k) = ap (λ (t : Tree). Ok (record { tokens = l; tree = t })) (spelled _ x y h.spelled k.spelled)
parses_once spelled once apart l r s (spells x h) (refused e k) = absurd (apart l x e h k)
parses_once spelled once apart l r s (refused e h) (spells x k) = absurd (apart l x e k h)
parses_once spelled once apart l r s (refused e h) (refused f k) = ap Err (once l e f h k)

parses_by : (l : Lexed) → ((x : Tree) × IsAccepted l x) ⊎ ((e : ParseRefusal) × HasTokensRefusal l e) → (r : Result Spelled ParseRefusal) × Parses l r
parses_by l (inl a) = (Ok (record { tokens = l; tree = a.0 }), spells a.0 a.1)
parses_by l (inr e) = (Err e.0, refused e.0 e.1)

evaluates_once : IsOnce Evaluates
evaluates_once s r q h k = sym h ∙ k

narrow_once : IsOnce Narrow
narrow_once p r q h k = sym h ∙ k

delayed_once : IsOnce Delayed
delayed_once p r q h k = sym h ∙ k

delayed_by : (p : Compiled) (r : Result Compiled Refusal) → delayed p (first_bad (delays_in p)) ≡ r → ((a : Compiled) → Delayed p (Ok a) → ⊥)
    → (e : Refusal) × Delayed p (Err e)
delayed_by p (Ok a) is none = absurd (none a is)
delayed_by p (Err e) is none = (e, is)

delayed_others : RefusesOthers Delayed
delayed_others p none = delayed_by p _ refl none

-- ---- one after another

pub text_once : HasAtMostOne → SpelledOnce → IsOneRefusal → IsNotBoth → IsOnce TextIs
text_once lexed spelled once apart =
    let parsed = turned_once of_tokens Parses (parses_once spelled once apart) in
    let spelling = then_once (Turned of_bytes Has) (Turned of_tokens Parses) (turned_once of_bytes Has lexed) parsed in
    let value = then_once SpellingIs (Turned of_value Evaluates) spelling (turned_once of_value Evaluates evaluates_once) in
    then_once WidthIs Delayed (then_once ValueIs Narrow value narrow_once) delayed_once

abbrev Any : {X : Type 0} → X → Type 0
Any x = Unit {0}

spelling_some : HasAtLeastOne → TokensOneOrOther → IsSome (λ (text : List ℕ). Unit {0}) SpellingIs
spelling_some some either =
    then_some (λ (text : List ℕ). Unit {0}) (Turned of_bytes Has) (Turned of_tokens Parses)
    (turned_some of_bytes (λ (text : List ℕ). Unit {0}) Has (λ text u. some text)) (λ text l u h.
    turned_some of_tokens (λ (m : Lexed). HasTokens text m) Parses (λ m has. parses_by m (either text m has)) l (kept_is of_bytes Has text l h))

width_some : HasAtLeastOne → TokensOneOrOther → IsSome (λ (text : List ℕ). Unit {0}) WidthIs
width_some some either =
    let value = then_some (λ (text : List ℕ). Unit {0}) SpellingIs (Turned of_value Evaluates) (spelling_some some either)
    (λ text s u h. turned_some of_value (λ (m : Spelled). Unit {0}) Evaluates (λ m w. (valued (program_value m.tokens m.tree), refl)) s tt) in
    then_some (λ (text : List ℕ). Unit {0}) ValueIs Narrow value (λ text p u h. (narrow p, refl))

pub text_some : HasAtLeastOne → TokensOneOrOther → IsSome (λ (text : List ℕ). Unit {0}) TextIs
text_some some either =
    then_some (λ (text : List ℕ). Unit {0}) WidthIs Delayed (width_some some either) (λ text p u h. (delayed p (first_bad (delays_in p)), refl))

pub text_others : HasAtLeastOne → TokensOneOrOther → RefusesOthers TextIs
text_others some either = then_refuses WidthIs Delayed (width_some some either) delayed_others

-- ---- a text that was read

spelling_stops : (text : List ℕ) (e : Refusal) → SpellingIs text (Err e) → IsRefusedText text e
spelling_stops text e h = stops e (stops e (stops e h))

-- refusals of the bytes and of the tokens are of a text, but want of memory
pub bytes_stop : (text : List ℕ) (e : LexRefusal) (refusal : Refusal) → refusal ≡ of_bytes e → (e ≡ bytes.NoMemory) ⊎ HasBytesRefusal text e →
    (refusal ≡ NoMemory) ⊎ (IsOfText refusal × IsRefusedText text refusal)
bytes_stop text e refusal is (inl m) = inl (is ∙ ap of_bytes m)
bytes_stop text (bytes.TextTooLong role) refusal is (inr h) = rw is (inr (refl, spelling_stops text _ (stops _ (turned _ h))))
bytes_stop text (bytes.BadByte line column) refusal is (inr h) = rw is (inr (refl, spelling_stops text _ (stops _ (turned _ h))))
bytes_stop text (bytes.Unclosed line column) refusal is (inr h) = rw is (inr (refl, spelling_stops text _ (stops _ (turned _ h))))
bytes_stop text (bytes.RealLiteral line column) refusal is (inr h) = rw is (inr (refl, spelling_stops text _ (stops _ (turned _ h))))
bytes_stop text (bytes.LiteralTooLarge line column) refusal is (inr h) = rw is (inr (refl, spelling_stops text _ (stops _ (turned _ h))))
bytes_stop text (bytes.Nesting line column) refusal is (inr h) = rw is (inr (refl, spelling_stops text _ (stops _ (turned _ h))))
bytes_stop text bytes.NoMemory refusal is (inr h) = inl is

tokens_refuse : (text : List ℕ) (l : Lexed) (e : ParseRefusal) → HasTokens text l → HasTokensRefusal l e → IsRefusedText text (of_tokens e)
tokens_refuse text l e has h = spelling_stops text (of_tokens e) (goes_on l (Err (of_tokens e)) (kept l has) (turned e (refused e h)))

pub tokens_stop : (text : List ℕ) (l : Lexed) (e : ParseRefusal) (refusal : Refusal) → HasTokens text l → refusal ≡ of_tokens e
    → (e ≡ tokens.NoMemory) ⊎ HasTokensRefusal l e →
    (refusal ≡ NoMemory) ⊎ (IsOfText refusal × IsRefusedText text refusal)
tokens_stop text l e refusal has is (inl m) = inl (is ∙ ap of_tokens m)
tokens_stop text l (tokens.Syntax line column) refusal has is (inr h) = rw is (inr (refl, tokens_refuse text l _ has h))
tokens_stop text l (tokens.Unsupported word) refusal has is (inr h) = rw is (inr (refl, tokens_refuse text l _ has h))
tokens_stop text l (tokens.Redefined name) refusal has is (inr h) = rw is (inr (refl, tokens_refuse text l _ has h))
tokens_stop text l (tokens.RepeatedName name) refusal has is (inr h) = rw is (inr (refl, tokens_refuse text l _ has h))
tokens_stop text l (tokens.RuleWidths line column) refusal has is (inr h) = rw is (inr (refl, tokens_refuse text l _ has h))
tokens_stop text l tokens.NoProcess refusal has is (inr h) = rw is (inr (refl, tokens_refuse text l _ has h))
tokens_stop text l tokens.NoMemory refusal has is (inr h) = inl is

-- what a text spells
pub spelling_is : (text : List ℕ) (l : Lexed) (x : Tree) → HasTokens text l → IsAccepted l x → SpellingIs text (Ok (record { tokens = l; tree = x }))
spelling_is text l x has a = goes_on l (Ok (record { tokens = l; tree = x })) (kept l has) (kept (record { tokens = l; tree = x }) (spells x a))

value_refuse : (text : List ℕ) (s : Spelled) (e : EvalRefusal) → SpellingIs text (Ok s) → program_value s.tokens s.tree ≡ Err e
    → IsRefusedText text (of_value e)
value_refuse text s e h is = stops (of_value e) (stops (of_value e) (goes_on s (Err (of_value e)) h (turned e (ap valued is))))

-- refusals of the value are, but want of memory
pub value_stop : (text : List ℕ) (s : Spelled) (e : EvalRefusal) (refusal : Refusal) → SpellingIs text (Ok s) → refusal ≡ of_value e
    → (e ≡ values.NoMemory) ⊎ (program_value s.tokens s.tree ≡ Err e) →
    (refusal ≡ NoMemory) ⊎ (IsOfText refusal × IsRefusedText text refusal)
value_stop text s e refusal h is (inl m) = inl (is ∙ ap of_value m)
value_stop text s (values.SizeBudget size) refusal h is (inr v) = rw is (inr (refl, value_refuse text s _ h v))
value_stop text s (values.Arity kind left right) refusal h is (inr v) = rw is (inr (refl, value_refuse text s _ h v))
value_stop text s (values.UnknownName name) refusal h is (inr v) = rw is (inr (refl, value_refuse text s _ h v))
value_stop text s (values.NotANumber line column) refusal h is (inr v) = rw is (inr (refl, value_refuse text s _ h v))
value_stop text s (values.IterationCount count) refusal h is (inr v) = rw is (inr (refl, value_refuse text s _ h v))
value_stop text s (values.NoRule line column) refusal h is (inr v) = rw is (inr (refl, value_refuse text s _ h v))
value_stop text s (values.NotADiagram line column) refusal h is (inr v) = rw is (inr (refl, value_refuse text s _ h v))
value_stop text s (values.TooManyArguments given inputs) refusal h is (inr v) = rw is (inr (refl, value_refuse text s _ h v))
value_stop text s values.EvalBudget refusal h is (inr v) = rw is (inr (refl, value_refuse text s _ h v))
value_stop text s (values.ControlClash label) refusal h is (inr v) = rw is (inr (refl, value_refuse text s _ h v))
value_stop text s (values.ControlBounds label) refusal h is (inr v) = rw is (inr (refl, value_refuse text s _ h v))
value_stop text s (values.TableForm cause) refusal h is (inr v) = rw is (inr (refl, value_refuse text s _ h v))
value_stop text s (values.TableBudget sum) refusal h is (inr v) = rw is (inr (refl, value_refuse text s _ h v))
value_stop text s values.NoMemory refusal h is (inr v) = inl is

-- the value of a text
pub value_is : (text : List ℕ) (s : Spelled) (d : Diagram) (cs : _) → SpellingIs text (Ok s) → program_value s.tokens s.tree ≡ Ok (d, cs)
    → ValueIs text (Ok (record { diagram = d; controls = cs }))
value_is text s d cs h is = goes_on s (Ok (record { diagram = d; controls = cs })) h (kept (record { diagram = d; controls = cs }) (ap valued is))

-- its channels are refused
pub width_stop : (text : List ℕ) (p : Compiled) (e : Refusal) → ValueIs text (Ok p) → narrow p ≡ Err e → IsRefusedText text e
width_stop text p e h is = stops e (goes_on p (Err e) h is)

-- or its delays
pub delay_stop : (text : List ℕ) (p : Compiled) (e : Refusal) → ValueIs text (Ok p) → narrow p ≡ Ok p → delayed p (first_bad (delays_in p)) ≡ Err e
    → IsRefusedText text e
delay_stop text p e h wide is = goes_on p (Err e) (goes_on p (Ok p) h wide) is

-- or nothing is
pub program_is : (text : List ℕ) (p : Compiled) → ValueIs text (Ok p) → narrow p ≡ Ok p → delayed p (first_bad (delays_in p)) ≡ Ok p → IsProgram text p
program_is text p h wide is = goes_on p (Ok p) (goes_on p (Ok p) h wide) is
