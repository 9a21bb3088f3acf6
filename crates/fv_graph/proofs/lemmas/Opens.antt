-- The opening state meets the invariant.
use Rattle.std.proofs.Common.{◌≡◌, ℕ, zero, suc, ◌+◌, ◌%◌, ◌<◌, ◌≤◌, true, false, List, [], ◌∷◌, ◌++◌, map, length, replicate}
use Rattle.std.proofs.Common.{get_or, set, refl, sym, ap, ◌∙◌, arith, true≢false, ◌==◌, None, length-set}
use mathlib.Core.Logic.{dite}
use native.Mathlib.Decide.{dec_le}
use Rattle.fv_graph.specs.Tasks.{bit, total}
use Rattle.fv_graph.specs.TasksBeside.{times}
use Rattle.fv_graph.specs.Words.{passing}
use Rattle.fv_graph.specs.Net.{Net, need_count}
use Rattle.fv_graph.specs.Core.{dealt, ready, numbers, opening}
use Rattle.fv_graph.proofs.lemmas.Counts.{bit_right, total_set, total_append, total_none, times_passing, times_above}
use Rattle.fv_graph.specs.Valid.{Valid, runs_it, runs_some}

module _ {X : Type 0} where
  pub get_out : (xs : List X) (i : ℕ) (d : X) → length xs ≤ i → get_or xs i d ≡ d
  get_out [] i d h = refl
  get_out (x ∷ xs) zero d h = absurd (omega arith)
  get_out (x ∷ xs) (suc i) d h = get_out xs i d (omega arith)

  pub get_same : (n : ℕ) (x : X) (i : ℕ) → get_or (replicate n x) i x ≡ x
  get_same zero x i = refl
  get_same (suc n) x zero = refl
  get_same (suc n) x (suc i) = get_same n x i

  pub get_in : (n : ℕ) (x d : X) (i : ℕ) → i < n → get_or (replicate n x) i d ≡ x
  get_in zero x d i h = absurd (omega arith)
  get_in (suc n) x d zero h = refl
  get_in (suc n) x d (suc i) h = get_in n x d i (omega arith)

  pub length_same : (n : ℕ) (x : X) → length (replicate n x) ≡ n
  length_same zero x = refl
  length_same (suc n) x = ap suc (length_same n x)

  pub total_same : (f : X → ℕ) (n : ℕ) (x : X) → f x ≡ 0 → total f (replicate n x) ≡ 0
  total_same f zero x e = refl
  total_same f (suc n) x e = let r = total_same f n x e in omega arith

pub length_numbers : (from n : ℕ) (f : ℕ → ℕ) → length (map f (passing (λ _. true) from n)) ≡ n
length_numbers from zero f = refl
length_numbers from (suc n) f = ap suc (length_numbers (suc from) n f)

pub get_numbers : (from n : ℕ) (f : ℕ → ℕ) (t d : ℕ) → t < n → get_or (map f (passing (λ _. true) from n)) t d ≡ f (from + t)
get_numbers from zero f t d h = absurd (omega arith)
get_numbers from (suc n) f zero d h = ap f (omega arith)
get_numbers from (suc n) f (suc t) d h = get_numbers (suc from) n f t d (omega arith) ∙ ap f (omega arith)

pub length_dealt : (workers k : ℕ) (ts : List ℕ) (ds : List (List ℕ)) → length (dealt workers k ts ds) ≡ length ds
length_dealt workers k [] ds = refl
length_dealt workers k (t ∷ ts) ds = length_dealt workers (suc k) ts (set ds (k % workers) (get_or ds (k % workers) [] ++ t ∷ []))
    ∙ length-set ds (k % workers) (get_or ds (k % workers) [] ++ t ∷ [])

pub times_dealt : (workers k : ℕ) (ts : List ℕ) (ds : List (List ℕ)) → 0 < workers → length ds ≡ workers → (x : ℕ)
    → total (times x) (dealt workers k ts ds) ≡ total (times x) ds + times x ts
times_dealt workers k [] ds some long x = omega arith
times_dealt workers k (t ∷ ts) ds some long x =
    let j = k % workers in
    let here : j < length ds = omega arith in
    let ys = get_or ds j [] ++ t ∷ [] in
    let r = times_dealt workers (suc k) ts (set ds j ys) some (length-set ds j ys ∙ long) x in
    let a = total_set (times x) ds j ys [] here in
    let b = total_append (λ y. bit (y == x)) (get_or ds j []) (t ∷ []) in omega arith

pub opens : (n : Net) (workers : ℕ) → 0 < workers → Valid n workers (λ _. 0) (λ _. 0) 0 (opening n workers)
opens n workers some =
    let ds = dealt workers 0 (ready n) (replicate workers []) in
    let lie : (x : ℕ) → total (times x) ds ≡ times x (ready n) = λ x. let a = times_dealt workers 0 (ready n) (replicate workers []) some
    (length_same workers []) x in let z = total_same (times x) workers [] refl in omega arith in
    let run : (x : ℕ) → total (runs_it x) (replicate workers None) ≡ 0 = λ x. total_same (runs_it x) workers None refl in
    let undone : (x : ℕ) → bit (get_or (replicate n.tasks false) x false) ≡ 0 = λ x. ap bit (get_same n.tasks false x) in
    record {
      counts_long = length_numbers 0 n.tasks (need_count n);
      done_long = length_same n.tasks false;
      deques_long = length_dealt workers 0 (ready n) (replicate workers []) ∙ length_same workers [];
      runs_long = length_same workers None;
      owes_long = length_same workers [];
      left_long = length_same workers false;
      placed = λ x h. let a = lie x in let b = run x in let c = undone x in
          let d = times_passing (λ t. need_count n t == 0) 0 n.tasks x (omega arith) (omega arith) in
          let e : bit (get_or (map (need_count n) (numbers n.tasks)) x 1 == 0) ≡ bit (need_count n x == 0) = ap (λ k. bit (k == 0))
          (get_numbers 0 n.tasks (need_count n) x 1 h ∙ ap (need_count n) (omega arith)) in omega arith;
      inside = λ x h. let a = lie x in let b = run x in let d = times_above (λ t. need_count n t == 0) 0 n.tasks x (omega arith) in omega arith;
      edges = λ x. let a = total_same (times x) workers [] refl in
          let z = bit_right (n.is_inner x) (get_or (replicate n.tasks false) (n.source x) false) (undone (n.source x)) in omega arith;
      counted = λ x h. let a : get_or (map (need_count n) (numbers n.tasks)) x 1 ≡ need_count n x = get_numbers 0 n.tasks (need_count n) x 1 h
          ∙ ap (need_count n) (omega arith) in let z = total_none (n.needs x) in omega arith;
      away = λ w gone. dite (dec_le workers w)
          (λ out. (
            get_out ds w [] (omega (arith, length_dealt workers 0 (ready n) (replicate workers []), length_same {X = List ℕ} workers [])),
            get_same workers None w,
            get_same workers [] w,
          ))
          (λ here. absurd (true≢false (sym gone ∙ get_in workers false true w (omega arith))));
      told = λ x. let b = run x in let c = undone x in omega arith;
      in_all = let a = total_same runs_some workers None refl in let b = total_same bit n.tasks false refl in omega arith;
    }
