-- One pair more, and one loop more.
use Rattle.std.proofs.Common.{◌≡◌, ℕ, zero, suc, ◌+◌, ◌<◌, ◌≤◌, List, [], ◌∷◌, ◌++◌, length, get_or, ap, ◌∙◌, arith, ◌==◌, ◌&&◌}
use mathlib.Core.Logic.{dite}
use native.Mathlib.Decide.{ℕ_discrete}
use Rattle.fv_outside.specs.headline.Tasks.{bit, total}
use Rattle.fv_outside.specs.declared.tasks.Reads.{Reads}
use Rattle.fv_graph.specs.Graph.{no_reads}
use Rattle.fv_graph.proofs.lemmas.Counts.{bit_le, bit_apart, bit_false, bit_right, total_append, total_zero}
use Rattle.test_blocks.specs.Pairs.{AreBefore}

-- what holds at each place holds with one more after
each_push : {X : Type 0} (P : X → Type 0) (xs : List X) (y d : X) → ((k : ℕ) → k < length xs → P (get_or xs k d)) → P y → (k : ℕ)
    → k < length (xs ++ y ∷ []) → P (get_or (xs ++ y ∷ []) k d)
each_push P [] y d h p zero l = p
each_push P [] y d h p (suc k) l = absurd (omega arith)
each_push P (x ∷ xs) y d h p zero l = h 0 (omega arith)
each_push P (x ∷ xs) y d h p (suc k) l = each_push P xs y d (λ j m. h (suc j) (omega arith)) p k (omega arith)

-- this pair is not that one
is_other : (r : Reads) (j i : ℕ) → (r.reader ≡ j → r.source ≡ i → ⊥) → bit ((r.reader == j) && (r.source == i)) ≡ 0
is_other r j i h =
    dite (ℕ_discrete r.reader j) (λ p. bit_right (r.reader == j) (r.source == i) (bit_apart r.source i (h p)))
    (λ n. ap (λ b. bit (b && (r.source == i))) (bit_false (r.reader == j) (bit_apart r.reader j n)))

pub none_yet : (loops : ℕ) → AreBefore loops 0 0 []
none_yet loops = record {
  pairs = record { in_order = λ k l. absurd (omega arith); once = λ j i. omega arith };
  lower = λ k l. absurd (omega arith);
  below = λ k l e. absurd (omega arith);
}

module _ (loops reader source : ℕ) (rs : List Reads) (h : AreBefore loops reader source rs) where
  pub passed_by : AreBefore loops reader (source + 1) rs
  passed_by = record { pairs = h.pairs; lower = h.lower; below = λ k l e. let b = h.below k l e in omega arith }

  pub next_reader : AreBefore loops (reader + 1) 0 rs
  next_reader = record {
    pairs = h.pairs;
    lower = λ k l. let b = h.lower k l in omega arith;
    below = λ k l e. let b = h.lower k l in absurd (omega arith);
  }

  module _ (there : reader < loops) (under : source < reader) where
    abbrev new : Reads
    new = record { reader = reader; source = source }

    once : (j i : ℕ) → total (λ r. bit ((r.reader == j) && (r.source == i))) (rs ++ new ∷ []) < 2
    once j i =
        let f : Reads → ℕ = λ r. bit ((r.reader == j) && (r.source == i)) in
        let a = total_append f rs (new ∷ []) in let one = bit_le ((reader == j) && (source == i)) in let o = h.pairs.once j i in
        dite (ℕ_discrete reader j)
        (λ p. dite (ℕ_discrete source i)
        (λ q. let z = total_zero f rs no_reads (λ k l. is_other (get_or rs k no_reads) j i
        (λ e s. let b = h.below k l (e ∙ omega arith) in omega arith)) in omega arith)
        (λ n. let z = is_other new j i (λ e s. n s) in omega arith))
        (λ n. let z = is_other new j i (λ e s. n e) in omega arith)

    pub one_pair : AreBefore loops reader (source + 1) (rs ++ new ∷ [])
    one_pair = record {
      pairs = record {
        in_order = each_push (λ r. (r.source < r.reader) × (r.reader < loops)) rs new no_reads h.pairs.in_order (under, there);
        once = once;
      };
      lower = each_push (λ r. r.reader ≤ reader) rs new no_reads h.lower (omega arith);
      below = each_push (λ r. r.reader ≡ reader → r.source < source + 1) rs new no_reads (λ k l e. let b = h.below k l e in omega arith)
          (λ e. omega arith);
    }
