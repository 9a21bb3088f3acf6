-- A text has an answer.
use Rattle.std.proofs.Common.{◌≡◌, ℕ, zero, suc, ◌<◌, ◌≤◌, List, [], ◌∷◌, ◌++◌, length, take, drop}
use Rattle.std.proofs.Common.{Option, Some, None, Result, Err, refl, sym, subst, arith, ◌⊎◌, inl, inr}
use Rattle.std.proofs.lemmas.Bool.{cases_lt}
use Rattle.std.proofs.lemmas.List.{take-append-drop, length-drop}
use Rattle.fv_base.specs.declared.role.Role.TheVariants.{Program}
use Rattle.fv_lex.specs.declared.token.Kind.{Kind}
use Rattle.fv_lex.specs.declared.refusal.Fault.{Fault}
use Rattle.fv_lex.specs.declared.refusal.Fault.TheVariants as faults
use Rattle.fv_lex.specs.declared.refusal.LexRefusal.{LexRefusal}
use Rattle.fv_lex.specs.declared.refusal.LexRefusal.TheVariants.{TextTooLong}
use Rattle.fv_lex.specs.declared.next.Next.{Next}
use Rattle.fv_lex.specs.declared.next.Next.TheVariants.{End, Found, Refused}
use Rattle.fv_lex.specs.headline.Token.{Lexed}
use Rattle.fv_lex.specs.inner.Steps.{next_piece}
use Rattle.fv_lex.specs.headline.Cuts.{depth_after, Cut, Cuts, nothing_more, piece_first, Ends}
use Rattle.fv_lex.specs.headline.Cuts.{whole, faulty, too_deep, answer_of, Has, too_long, cut}
use Rattle.fv_lex.specs.Cuts.{HasAtLeastOne}
use Rattle.fv_lex.proofs.lemmas.Sound.{At, Told, sound}
use Rattle.fv_base.specs.declared.limits.TheConstants.{DEEPEST_NESTING, LONGEST_TEXT}

-- a cut of a text as far as it goes
record Cutting (text : List ℕ) (depth : ℕ) : Type 0 where
  cuts : List Cut
  rest : List ℕ
  deep : ℕ
  fault : Option Fault
  cut_is : Cuts text depth cuts rest deep
  ends : Ends rest deep fault

stops_here : (text : List ℕ) (depth : ℕ) (fault : Option Fault) → Ends text depth fault → Cutting text depth
stops_here text depth fault e = record { cuts = []; rest = text; deep = depth; fault = fault; cut_is = nothing_more; ends = e }

goes_on : (text : List ℕ) (depth n : ℕ) (kind : Option Kind) → At text n kind → ((d : ℕ) → Cutting (drop n text) d) → Cutting text depth
goes_on text depth n kind at more = go (depth_after depth (take n text)) refl (cases_lt DEEPEST_NESTING (depth_after depth (take n text)))
  where
    go : (after : ℕ) → after ≡ depth_after depth (take n text) → ((DEEPEST_NESTING < after) ⊎ (after ≤ DEEPEST_NESTING)) → Cutting text depth
    go after is (inl over) =
        subst (λ t. Cutting t depth) (take-append-drop n text)
        (stops_here (take n text ++ drop n text) depth (Some faults.Nesting) (too_deep at.piece (subst (λ d. DEEPEST_NESTING < d) is over)))
    go after is (inr fits) =
        let tail = more (depth_after depth (take n text)) in
        subst (λ t. Cutting t depth) (take-append-drop n text)
        (record {
          cuts = record { bytes = take n text; kind = kind } ∷ tail.cuts;
          rest = tail.rest;
          deep = tail.deep;
          fault = tail.fault;
          cut_is = piece_first at.piece (subst (λ d. d ≤ DEEPEST_NESTING) is fits) tail.cut_is;
          ends = tail.ends;
        })

turn : (text : List ℕ) (depth : ℕ) (next : Next) → Told text next → ((n : ℕ) → 0 < n → n ≤ length text → (d : ℕ) → Cutting (drop n text) d) → Cutting text depth
turn text depth End told more = subst (λ t. Cutting t depth) (sym told) (stops_here [] depth None whole)
turn text depth (Refused fault) told more = stops_here text depth (Some fault) (faulty told)
turn text depth (Found n kind) told more = goes_on text depth n kind told (more n told.some told.fits)

cutting : (k : ℕ) (text : List ℕ) (depth : ℕ) → length text ≤ k → Cutting text depth
cutting zero [] depth fits = stops_here [] depth None whole
cutting zero (b ∷ bs) depth fits = absurd (omega arith)
cutting (suc k) text depth fits =
    turn text depth (next_piece text) (sound text) (λ n some within d. cutting k (drop n text) d (omega (arith, length-drop n text)))

pub at_least_one : HasAtLeastOne
at_least_one text = go (cases_lt LONGEST_TEXT (length text))
  where
    go : ((LONGEST_TEXT < length text) ⊎ (length text ≤ LONGEST_TEXT)) → (answer : Result Lexed LexRefusal) × Has text answer
    go (inl over) = (Err (TextTooLong Program), too_long over)
    go (inr fits) = let c = cutting (length text) text 0 (omega arith) in (answer_of c.cuts c.fault, cut fits c.cut_is c.ends)
