-- The journal of tasks that run one after another is in order.
use Rattle.std.proofs.Common.{◌≡◌, inl, inr, ℕ, suc, ◌+◌, ◌*◌, ◌<◌, ◌≤◌, true, false, ◌==◌, List, [], ◌∷◌, length, refl}
use Rattle.std.proofs.Common.{sym, ap, ◌∙◌, subst, arith, true≢false, lt-ltb, get_or, Contains}
use Rattle.std.proofs.lemmas.Bool.{cases_eq, cases_lt}
use Rattle.std.proofs.lemmas.List.{get_or_default}
use Rattle.fv_outside.specs.headline.Tasks.{Tasks, bit, reads_task}
use Rattle.fv_outside.specs.headline.Journal.{IsOrdered, stamped}
use Rattle.fv_outside.specs.declared.tasks.Task.{Task}
use Rattle.fv_outside.specs.declared.gate.Line.{Line}
use Rattle.fv_graph.proofs.lemmas.Counts.{bit_le, bit_apart}
use Rattle.fv_engine_tasks.specs.Underway.{line_at, no_line, IsTaskIn, IsSoFar}

-- the stamps of a line at place k
record IsStamped (k : ℕ) (line : Line) : Type 0 where
  pub start : line.start ≡ 2 * k
  pub finish : line.finish ≡ 2 * k + 1

-- lines whose stamps go on from place k
few_stamps : (n k : ℕ) (lines : List Line) → ((m : ℕ) → m < length lines → IsStamped (k + m) (line_at lines m))
    → (stamped n lines ≤ 1) × (n < 2 * k → stamped n lines ≡ 0)
few_stamps n k [] h = (omega arith, λ l. refl)
few_stamps n k (x ∷ xs) h =
    let q = h 0 (omega arith) in
    let r = few_stamps n (suc k) xs (λ m l. let w = h (suc m) (omega arith) in record { start = omega (arith, w.start); finish = omega (arith, w.finish) }) in
    elim (cases_lt n (2 * k)) [
      | inl l ↦
          let a = bit_apart x.start n (λ e. omega (arith, q.start, l, e)) in let b = bit_apart x.finish n (λ e. omega (arith, q.finish, l, e)) in
          let z = r.1 (omega (arith, l)) in (omega (arith, a, b, z), λ m. omega (arith, a, b, z))
      | inr m ↦ (
        elim (cases_lt n (2 * suc k)) [
          | inl l ↦ let z = r.1 l in elim (cases_eq x.start n) [
            | inl e ↦ let a = bit_le (x.start == n) in let b = bit_apart x.finish n (λ f. omega (arith, q.start, q.finish, e, f)) in omega (arith, a, b, z)
            | inr e ↦ let a = bit_apart x.start n e in let b = bit_le (x.finish == n) in omega (arith, a, b, z)
          ]
          | inr o ↦
              let a = bit_apart x.start n (λ e. omega (arith, q.start, o, e)) in let b = bit_apart x.finish n (λ e. omega (arith, q.finish, o, e)) in
              omega (arith, a, b, r.0)
        ],
        λ l. absurd (omega (arith, l, m)),
      )
    ]

-- a journal of all vectors, of tasks none of which reads itself
pub record IsWhole (g : Tasks) (vectors : ℕ → ℕ) (lines : List Line) : Type 0 where
  pub none_self : (t : Task) → reads_task g t t ≡ false
  pub all : (j : ℕ) → j < g.loops → vectors j ≡ g.vectors
  pub so_far : IsSoFar g vectors lines

module _ {g : Tasks} {vectors : ℕ → ℕ} {lines : List Line} (whole : IsWhole g vectors lines) where
  abbrev h : IsSoFar g vectors lines
  h = whole.so_far

  no_matter : (k : ℕ) (d : Line) → k < length lines → line_at lines k ≡ get_or lines k d
  no_matter k d l = get_or_default lines k no_line d l

  there : (line : Line) (c : Contains lines line) → line_at lines c.0 ≡ line
  there line c = no_matter c.0 line c.1 ∙ c.2

  -- what holds of the lines at two places holds of two lines that are there
  of_both : (P : Line → Line → Type 0) (a b : Line) (c : Contains lines a) (d : Contains lines b) → P (line_at lines c.0) (line_at lines d.0) → P a b
  of_both P a b c d p = subst (λ x. P x b) (there a c) (subst (P (line_at lines c.0)) (there b d) p)

  in_order : (i k : ℕ) → i < k → k < length lines → (line_at lines i).start < (line_at lines k).start
  in_order i k l m = omega (arith, h.starts i (omega arith), h.starts k m, l)

  after : (a b : Line) (c : Contains lines a) (d : Contains lines b) → reads_task g b.task a.task ≡ true → a.finish < b.start
  after a b c d r = elim (cases_lt c.0 d.0) [
    | inl l ↦ of_both (λ x y. x.finish < y.start) a b c d (omega (arith, h.finishes c.0 c.1, h.starts d.0 d.1, l))
    | inr l ↦ absurd (elim (cases_eq c.0 d.0) [
      | inl e ↦
          let same = sym (there b d) ∙ sym (ap (line_at lines) e) ∙ there a c in
          true≢false (sym r ∙ subst (λ (x : Line). reads_task g b.task x.task ≡ false) same (whole.none_self b.task))
      | inr n ↦
          let not_read = of_both (λ x y. reads_task g y.task x.task ≡ false) a b c d (h.behind d.0 c.0 (omega (arith, l, n)) c.1) in
          true≢false (sym r ∙ not_read)
    ])
  ]

  pub ordered : IsOrdered g lines
  ordered = record {
    each_once = λ t l m. h.each t (l, m) ∙ ap bit (lt-ltb t.vector (vectors t.loop_no) (omega (arith, whole.all t.loop_no l, m)));
    no_other = λ line c. subst (λ (x : Line). IsTaskIn g x.task) (there line c) (h.only c.0 c.1);
    stamps = λ n. (few_stamps n 0 lines (λ m l. record { start = h.starts m l ∙ (omega arith); finish = h.finishes m l ∙ (omega arith) })).0;
    from_zero = λ line c. subst (λ (x : Line). x.finish < 2 * length lines) (there line c) (let f = h.finishes c.0 c.1 in let l = c.1 in omega arith);
    spans = λ line c. subst (λ (x : Line). x.start < x.finish) (there line c) (omega (arith, h.starts c.0 c.1, h.finishes c.0 c.1));
    after_reads = λ a b c d r. after a b c d r;
    starts = λ i k d l m. subst (λ (x : Line). x.start < (get_or lines k d).start) (no_matter i d (omega arith))
        (subst (λ (y : Line). (line_at lines i).start < y.start) (no_matter k d m) (in_order i k l m));
  }
