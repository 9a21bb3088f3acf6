-- The events of one worker.
use Rattle.std.proofs.Common.{◌≡◌, ℕ, zero, suc, arith, ◌==◌, Bool, true, ◌&&◌, not, cond, List, [], ◌∷◌, ◌++◌, length, get_or, set}
use Rattle.std.proofs.Common.{ltb, Option, None, Some, refl, ap, ◌∙◌, eq-eqb, is_none}
use Rattle.std.proofs.lemmas.Bool.{ne_eqb}
use Rattle.std.specs.Prelude.{Result, Ok, Err, is_ok, OnOk}
use Rattle.fv_outside.specs.Tasks.{times}
use Rattle.fv_graph.specs.Ends.{is_empty, without, back_is, back_of}
use Rattle.fv_graph.specs.Net.{Net}
use Rattle.fv_graph.specs.Core.{Now, is_run, deque_of, run_of, owes_of, is_free, is_legal, after}
use Rattle.fv_graph.specs.Law.{AllLeft}
use Rattle.fv_graph.specs.Running.{Running}
use Rattle.fv_graph.specs.declared.event.Event.TheVariants.{Take, Finish, Arrive, Leave}
use Rattle.fv_graph.proofs.lemmas.Counts.{bit_same, both_of}
use Rattle.fv_engine_tasks.specs.Events.{IsFree, Runs, Owes, KeepsCore}

abbrev free : List (Option ℕ) → List (List ℕ) → List Bool → Bool
free runs owes left = not (get_or left 0 true) && is_none (get_or runs 0 None) && is_empty (get_or owes 0 [])

is_free_now : (s : Now) → IsFree s → is_free s 0 ≡ true
is_free_now s h = ap (λ r. free r s.owes s.left) h.runs ∙ ap (λ o. free (None ∷ []) o s.left) h.owes ∙ ap (free (None ∷ []) ([] ∷ [])) h.left

there : (s : Now) (r : Option ℕ) → s.runs ≡ r ∷ [] → ltb 0 (length s.runs) ≡ true
there s r e = ap (λ x. ltb 0 (length x)) e

-- what stands at the back of a deque
at_back : (xs : List ℕ) (t : ℕ) → back_of xs ≡ Some t → back_is xs t ≡ true
at_back [] t e = absurd cc
at_back (x ∷ []) t e = eq-eqb x t cc
at_back (x ∷ y ∷ ys) t e = at_back (y ∷ ys) t e

no_back : (xs : List ℕ) → back_of xs ≡ None → xs ≡ []
no_back [] e = refl
no_back (x ∷ []) e = absurd cc
no_back (x ∷ y ∷ ys) e = absurd (let z = no_back (y ∷ ys) e in cc)

pub may_take : (n : Net) (s : Now) (t : ℕ) → IsFree s → back_of (deque_of s 0) ≡ Some t → is_legal n s (Take 0 t) ≡ true
may_take n s t h b =
    both_of (ltb 0 (length s.runs) && is_free s 0) (back_is (deque_of s 0) t)
    (both_of (ltb 0 (length s.runs)) (is_free s 0) (there s None h.runs) (is_free_now s h)) (at_back (deque_of s 0) t b)

pub took : (n : Net) (s : Now) (t : ℕ) → IsFree s → Runs (after n s (Take 0 t)) t
took n s t h = record { runs = ap (λ x. set x 0 (Some t)) h.runs; owes = h.owes; left = h.left }

pub may_finish : (n : Net) (s : Now) (t : ℕ) → Runs s t → is_legal n s (Finish 0 t) ≡ true
may_finish n s t h =
    both_of (ltb 0 (length s.runs)) (is_run t (run_of s 0)) (there s (Some t) h.runs) (ap (λ x. is_run t (get_or x 0 None)) h.runs ∙ eq-eqb t t refl)

pub finished : (n : Net) (s : Now) (t : ℕ) → Runs s t → Owes (after n s (Finish 0 t)) (n.feeds t)
finished n s t h = record { runs = ap (λ x. set x 0 None) h.runs; owes = ap (λ o. set o 0 (get_or o 0 [] ++ n.feeds t)) h.owes; left = h.left }

pub may_arrive : (n : Net) (s : Now) (e : ℕ) (es : List ℕ) → Owes s (e ∷ es) → is_legal n s (Arrive 0 e) ≡ true
may_arrive n s e es h = both_of (ltb 0 (length s.runs)) (not (times e (owes_of s 0) == 0)) (there s None h.runs)
    (ap (λ o. not (times e (get_or o 0 []) == 0)) h.owes ∙ ap not (ne_eqb (times e (e ∷ es)) 0 (λ z. let o = bit_same e e refl in omega (arith, z, o))))

pub arrived : (n : Net) (s : Now) (e : ℕ) (es : List ℕ) → Owes s (e ∷ es) → Owes (after n s (Arrive 0 e)) es
arrived n s e es h = record {
  runs = h.runs;
  owes = ap (λ o. set o 0 (without e (get_or o 0 []))) h.owes ∙ ap (λ c. cond c es (e ∷ without e es) ∷ []) (eq-eqb e e refl);
  left = h.left;
}

pub may_leave : (n : Net) (s : Now) → IsFree s → back_of (deque_of s 0) ≡ None → is_legal n s (Leave 0) ≡ true
may_leave n s h e =
    both_of (ltb 0 (length s.runs) && is_free s 0) (is_empty (deque_of s 0))
    (both_of (ltb 0 (length s.runs)) (is_free s 0) (there s None h.runs) (is_free_now s h)) (ap is_empty (no_back (deque_of s 0) e))

pub left_all : (n : Net) (s : Now) → IsFree s → AllLeft (after n s (Leave 0)) 1
left_all n s h zero l = ap (λ x. get_or (set x 0 true) 0 true) h.left
left_all n s h (suc w) l = absurd (omega (arith, l))

-- one event after another keeps the core
pub keeps_on : (a b c : Running) → KeepsCore a b → KeepsCore b c → KeepsCore a c
keeps_on a b c p q = q ∙ ap (λ (x : Running). record x { now = c.now }) p

-- what holds where there is no error, where there is none
pub where_ok : {T E : Type 0} (r : Result T E) (P : Type 0) → is_ok r ≡ true → OnOk r P → P
where_ok (Ok x) P e h = h
where_ok (Err x) P e h = absurd cc
