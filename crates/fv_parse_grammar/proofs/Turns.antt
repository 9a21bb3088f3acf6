-- Loops of turns: what each turn adds to what was taken.
use Rattle.std.proofs.Common.{◌≡◌, ℕ, zero, suc, Bool, true, false, cond, List, length, Ok, refl}
use Rattle.std.specs.Prelude.{nat_lt}
use Rattle.fv_parse_grammar.specs.Symbol.{Symbol}
use Rattle.fv_parse_grammar.specs.headline.Tree.{Tree}
use Rattle.fv_parse_grammar.specs.Descent.{Step, Turn, Done, Next, Stop, turn, after, turns, run}
use Rattle.fv_parse_grammar.proofs.Plans.{Plan, Spans, Takes, Sticks, took, stuck, stays, by_test, Reads}

-- after all the tokens up to here, a turn takes further ones to the same end, or stops
pub data Turns (p : Plan) (all : List Symbol) : Turn → Type 0 where
  no_turn : Turns p all Done
  one_turn : {x : Tree} {rest : List Symbol} → Takes (Spans p) all rest → Turns p all (Next x rest)
  stop_turn : {at : List Symbol} → Sticks (Spans p) all at → Turns p all (Stop at)

pub turn_of : {p : Plan} {all : List Symbol} {r : Step Tree} (f : Tree → Tree) → Reads p all r → Turns p all (turn r f)
turn_of f (took s) = one_turn s
turn_of f (stuck s) = stop_turn s

pub turn_by_test : (b : Bool) {p : Plan} {all : List Symbol} {u v : Turn} → (b ≡ true → Turns p all u) → (b ≡ false → Turns p all v) → Turns p all (cond b u v)
turn_by_test true f g = f refl
turn_by_test false f g = g refl

after_reads : (p : Plan) (all : List Symbol) (go : Tree → List Symbol → Step Tree)
    → ((x : Tree) (ts : List Symbol) → Takes (Spans p) all ts → Reads p all (go x ts))
    → (x : Tree) (ts : List Symbol) (t : Turn) → Takes (Spans p) all ts → Turns p all t → Reads p all (after go (Ok (x, ts)) t)
after_reads p all go goes x ts t s no_turn = took s
after_reads p all go goes x ts t s (one_turn more) = goes _ _ more
after_reads p all go goes x ts t s (stop_turn more) = stuck more

turns_read : (p : Plan) (all : List Symbol) (body : Tree → List Symbol → Turn)
    → ((x : Tree) (ts : List Symbol) → Takes (Spans p) all ts → Turns p all (body x ts))
    → (k : ℕ) (x : Tree) (ts : List Symbol) → Takes (Spans p) all ts → Reads p all (turns k body x ts)
unfolding turns
turns_read p all body step zero x ts s = stuck (stays s)
turns_read p all body step (suc k) x ts s = by_test (nat_lt (length ts) k)
    (λ _. turns_read p all body step k x ts s)
    (λ _. after_reads p all (turns k body) (turns_read p all body step k) x ts (body x ts) s (step x ts s))

pub run_reads : (p : Plan) (all : List Symbol) (body : Tree → List Symbol → Turn)
    → ((x : Tree) (ts : List Symbol) → Takes (Spans p) all ts → Turns p all (body x ts))
    → (x : Tree) (ts : List Symbol) → Takes (Spans p) all ts → Reads p all (run body x ts)
unfolding run
run_reads p all body step x ts s = turns_read p all body step (suc (length ts)) x ts s
