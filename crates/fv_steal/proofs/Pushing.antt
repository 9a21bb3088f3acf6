-- A push of a number that was not put before is not refused.
use Rattle.std.proofs.Common.{◌≡◌, ℕ, ◌+◌, ◌<◌, ◌≤◌, List, [], ◌∷◌, ◌++◌, length, sym, ap, ◌∙◌, subst, arith, ◌==◌, true, Result, Ok, Err, MatchResult}
use Rattle.std.proofs.Common.{IfErr, length-append}
use mathlib.Core.Logic.{dite}
use native.Mathlib.Decide.{ℕ_discrete}
use Rattle.fv_graph.specs.Tasks.{bit}
use Rattle.fv_graph.specs.TasksBeside.{times}
use Rattle.fv_graph.proofs.lemmas.Counts.{bit_same, bit_apart, total_append}
use Rattle.fv_graph.proofs.lemmas.Few.{fewer}
use Rattle.fv_steal.specs.declared.rule.Account.{Account}
use Rattle.crossbeam_deque.specs.Handles.{worker_index, worker_capacity}
use Rattle.fv_steal.specs.Balance.{account}
use Rattle.fv_steal.specs.declared.handles.TaskDeque.{TaskDeque}
use Rattle.fv_steal.specs.Deques.{account_of}

-- where a refusal says that a ≤ b, and b < a, there was none
pub accepted : {X Y : Type 0} (r : Result X Y) (P : Type 0) (Q : Y → Type 0) (a b : ℕ) → MatchResult r (λ _. P) Q → IfErr r (λ _. a ≤ b) → b < a → P
accepted (Ok x) P Q a b m r l = m
accepted (Err y) P Q a b m r l = absurd (omega arith)

-- what a deque knows of what was put
pub record IsPut (room : ℕ) (put : List ℕ) : Type 0 where
  pub below : (x : ℕ) → room ≤ x → times x put ≡ 0
  pub once : (x : ℕ) → times x put ≤ 1

pub short : (room x : ℕ) (put : List ℕ) → IsPut room put → x < room → times x put ≡ 0 → length put < room
short room x put h there fresh = fewer room x put h.once h.below there fresh

pub put_more : (room x : ℕ) (put : List ℕ) → IsPut room put → x < room → times x put ≡ 0 → IsPut room (put ++ x ∷ [])
put_more room x put h there fresh = record {
  below = λ y l. let a = total_append (λ k. bit (k == y)) put (x ∷ []) in let b = bit_apart x y (λ e. omega arith) in let z = h.below y l in omega arith;
  once = λ y. let a = total_append (λ k. bit (k == y)) put (x ∷ []) in let o = h.once y in
      dite (ℕ_discrete x y) (λ e. let b = bit_same x y e in let z : times y put ≡ 0 = ap (λ k. times k put) (sym e) ∙ fresh in omega arith)
      (λ ne. let b = bit_apart x y ne in omega arith);
}

pub longer : (put : List ℕ) (x : ℕ) → length (put ++ x ∷ []) ≡ length put + 1
longer put x = let a = length-append put (x ∷ []) in omega arith

-- what a push leaves
module _ (d : TaskDeque) (x : ℕ) (after : Account) (index : ℕ) where
  pub record IsPushed : Type 0 where
    pub account_is : after ≡ account (account_of d).owns (account_of d).lent (account_of d).held ((account_of d).put ++ x ∷ []) (account_of d).taken
    pub index_is : index ≡ worker_index d.worker + 1

  pub pushed : {X Y : Type 0} (r : Result X Y) (Q : Y → Type 0)
      → MatchResult r (λ _. (after ≡ account (account_of d).owns (account_of d).lent (account_of d).held ((account_of d).put ++ x ∷ []) (account_of d).taken)
      × (index ≡ worker_index d.worker + 1)) Q → IfErr r (λ _. worker_capacity d.worker ≤ worker_index d.worker) → x < d.room → times x (account_of d).put ≡ 0
      → IsPushed
  pushed r Q told refused there fresh =
      let p = accepted r _ Q (worker_capacity d.worker) (worker_index d.worker) told refused
      (let s = short d.room x (account_of d).put (record { below = d.below; once = d.once }) there fresh in let o = d.roomy in let i = d.index in
      omega arith) in
      record { account_is = p.0; index_is = p.1 }

  module _ (h : IsPushed) (there : x < d.room) (fresh : times x (account_of d).put ≡ 0) where
    put_is : after.put ≡ (account_of d).put ++ x ∷ []
    put_is = ap (λ (a : Account). a.put) h.account_is

    pub is_put : IsPut d.room after.put
    is_put = subst (IsPut d.room) (sym put_is) (put_more d.room x (account_of d).put (record { below = d.below; once = d.once }) there fresh)

    pub still_owns : after.owns ≡ true
    still_owns = ap (λ (a : Account). a.owns) h.account_is ∙ d.owns

    pub index_low : index ≤ length after.put
    index_low = let i = h.index_is in let l = longer (account_of d).put x in let p = ap (λ (k : List ℕ). length k) put_is in let o = d.index in omega arith

    pub account_after : after ≡ account true (account_of d).lent (account_of d).held ((account_of d).put ++ x ∷ []) (account_of d).taken
    account_after = h.account_is ∙ ap (λ b. account b (account_of d).lent (account_of d).held ((account_of d).put ++ x ∷ []) (account_of d).taken) d.owns
