-- What the core allows, event by event, its lean form allows too.
use Rattle.std.proofs.Common.{◌≡◌, ℕ, ◌+◌, ◌<◌, Bool, true, false, cond, ◌&&◌, ◌||◌, not, List, [], ◌∷◌, length}
use Rattle.std.proofs.Common.{Option, Some, None, refl, ap, ◌∙◌, ltb, lt-ltb, ◌==◌, eq-eqb}
use Rattle.fv_graph.specs.Tasks.{bit, total}
use Rattle.fv_graph.specs.Net.{Net, IsNet}
use Rattle.fv_graph.proofs.lemmas.Counts.{both_true, both_of, bit_same}
use Rattle.fv_graph.specs.Core.{Now, is_run, deque_of, is_free, is_done, count_of, is_legal, after, replayed, opening, takes, is_take}
use Rattle.fv_graph.specs.Lean.{is_taken, lean_takes, is_lean_legal, lean_after, lean_replayed}
use Rattle.fv_graph.specs.Ends.{is_empty, back_is, front_is}
use Rattle.fv_graph.specs.declared.event.Event.{Event}
use Rattle.fv_graph.specs.declared.event.Event.TheVariants.{Take, Steal, Finish, Arrive, Leave}
use Rattle.fv_graph.specs.Valid.{Valid}
use Rattle.fv_graph.proofs.lemmas.Opens.{opens}
use Rattle.fv_graph.proofs.Law.{steps, chosen, taken_ready, fresh_taken}

-- the state with other deques
abbrev pub with_deques : Now → List (List ℕ) → Now
with_deques s d = record s { deques = d }

lean_after_is : (n : Net) (s : Now) (d : List (List ℕ)) (e : Event) → lean_after n (with_deques s d) e ≡ with_deques (after n s e) d
lean_after_is n s d (Take w t) = refl
lean_after_is n s d (Steal w v t) = refl
lean_after_is n s d (Finish w t) = refl
lean_after_is n s d (Arrive w e) = refl
lean_after_is n s d (Leave w) = refl

not_taken : (a b : Bool) → a ≡ false → b ≡ true → not (a || not b) ≡ true
not_taken true b p q = absurd (cc)
not_taken false true p q = refl
not_taken false false p q = absurd (cc)

module _ (n : Net) (net : IsNet n) (workers : ℕ) where
  module _ (arrived took : ℕ → ℕ) (amount : ℕ) (s : Now) (i : Valid n workers arrived took amount s) (d : List (List ℕ)) where
    takes_lean : (e : Event) (w t : ℕ) → is_legal n s e ≡ true → takes t e ≡ 1 → ltb w (length s.runs) ≡ true → is_free s w ≡ true
        → lean_takes n (with_deques s d) w t ≡ true
    takes_lean e w t legal one there free =
        let k = taken_ready n net workers arrived took amount s i e legal t one in
        let f = fresh_taken n net workers arrived took amount s i e legal t one in
        both_of (ltb w (length s.runs) && is_free s w && ltb t n.tasks && (count_of s t == 0)) (not (is_taken s t))
        (both_of (ltb w (length s.runs) && is_free s w && ltb t n.tasks) (count_of s t == 0)
        (both_of (ltb w (length s.runs) && is_free s w) (ltb t n.tasks) (both_of (ltb w (length s.runs)) (is_free s w) there free) (lt-ltb t n.tasks k.0))
        (eq-eqb (count_of s t) 0 k.1))
        (not_taken (is_done s t) (total (λ r. bit (is_run t r)) s.runs == 0) f.0 (eq-eqb (total (λ r. bit (is_run t r)) s.runs) 0 f.1))

    legal_lean : (e : Event) → is_legal n s e ≡ true → is_lean_legal n (with_deques s d) e ≡ true
    legal_lean (Take w t) legal =
        let a = both_true (ltb w (length s.runs) && is_free s w) (back_is (deque_of s w) t) legal in
        let b = both_true (ltb w (length s.runs)) (is_free s w) a.0 in takes_lean (Take w t) w t legal (bit_same t t refl) b.0 b.1
    legal_lean (Steal w v t) legal =
        let a = both_true (ltb w (length s.runs) && ltb v (length s.runs) && is_free s w && not (w == v)) (front_is (deque_of s v) t) legal in
        let b = both_true (ltb w (length s.runs) && ltb v (length s.runs) && is_free s w) (not (w == v)) a.0 in
        let c = both_true (ltb w (length s.runs) && ltb v (length s.runs)) (is_free s w) b.0 in
        let k = both_true (ltb w (length s.runs)) (ltb v (length s.runs)) c.0 in
        both_of (ltb v (length s.runs) && not (w == v)) (lean_takes n (with_deques s d) w t) (both_of (ltb v (length s.runs)) (not (w == v)) k.1 b.1)
        (takes_lean (Steal w v t) w t legal (bit_same t t refl) k.0 c.1)
    legal_lean (Finish w t) legal = legal
    legal_lean (Arrive w e) legal = legal
    legal_lean (Leave w) legal = (both_true (ltb w (length s.runs) && is_free s w) (is_empty (deque_of s w)) legal).0

  replays_lean : (es : List Event) (arrived took : ℕ → ℕ) (amount : ℕ) (s z : Now) → Valid n workers arrived took amount s → replayed n s es ≡ Some z
      → (d : List (List ℕ)) → lean_replayed n (with_deques s d) es ≡ Some (with_deques z d)
  replays_lean [] arrived took amount s z i e d = ap (λ (o : Option Now). lean_kept o d) e
    where
      lean_kept : Option Now → List (List ℕ) → Option Now
      lean_kept None d = None
      lean_kept (Some s) d = Some (with_deques s d)
  replays_lean (x ∷ xs) arrived took amount s z i e d =
      let c = chosen n net workers (is_legal n s x) (replayed n (after n s x) xs) z e in
      let m = steps n net workers arrived took amount s x i c.0 in
      let r = replays_lean xs m.0 (λ t. took t + takes t x) (amount + is_take x) (after n s x) z m.1 c.1 d in
      ap (λ b. cond b (lean_replayed n (lean_after n (with_deques s d) x) xs) None) (legal_lean arrived took amount s i d x c.0)
      ∙ ap (λ (q : Now). lean_replayed n q xs) (lean_after_is n s d x) ∙ r

  pub lean_law : (events : List Event) (z : Now) → 0 < workers → replayed n (opening n workers) events ≡ Some z
      → lean_replayed n (opening n workers) events ≡ Some (with_deques z (opening n workers).deques)
  lean_law events z some e = replays_lean events (λ _. 0) (λ _. 0) 0 (opening n workers) z (opens n workers some) e (opening n workers).deques
