-- The entries' slots and the empty ones after them are those of a new board.
use Rattle.std.proofs.Common.{◌≡◌, ℕ, zero, suc, ◌+◌, ◌-◌, ◌<◌, ◌≤◌, List, [], ◌∷◌, ◌++◌, map, length, replicate}
use Rattle.std.proofs.Common.{slice_index_or, refl, sym, ap, ◌∙◌, subst, arith, Option, Some, None, lt-ltb, ltb-true, true≢false, length-append}
use Rattle.std.proofs.lemmas.List.{length-map}
use mathlib.Core.Option.{some}
use mathlib.Core.Logic.{dite}
use native.Mathlib.Decide.{dec_le}
use lib.ListN.{get_elem?}
use Rattle.atomic_table.specs.Table.{opening}
use Rattle.fv_graph.specs.Graph.{Graph, edges_of, net_of}
use Rattle.fv_graph.proofs.lemmas.Opens.{length_same, length_numbers}
use Rattle.fv_graph.specs.Net.{Net}
use Rattle.fv_graph.specs.Core.{numbers}
use Rattle.fv_graph.specs.Net.{need_count}
use Rattle.fv_ready.specs.Wired.{graph_wires}
use Rattle.fv_ready.specs.declared.view.About.{About}
use Rattle.fv_ready.specs.Whole.{first_words, first_view, IsWhole}
use Rattle.fv_ready.specs.Begun.{first_slots, AreEntries}
use Rattle.fv_ready.proofs.lemmas.Begins.{Laid, begins}

module _ {C : Type 0} where
  entry_at : (es : List C) (ys : List (Option C)) (e : ℕ) → e < length es → (p : C) × (get_elem? (map Some es ++ ys) e ≡ some (Some p)) ×
      ((d : C) → slice_index_or es e d ≡ p)
  entry_at [] ys e h = absurd (omega arith)
  entry_at (x ∷ xs) ys zero h = (x, refl, λ d. refl)
  entry_at (x ∷ xs) ys (suc e) h = entry_at xs ys e (omega arith)

  none_in : (n e : ℕ) → e < n → get_elem? (replicate {A = Option C} n None) e ≡ some None
  none_in zero e h = absurd (omega arith)
  none_in (suc n) zero h = refl
  none_in (suc n) (suc e) h = none_in n e (omega arith)

  none_at : (es : List C) (n e : ℕ) → length es ≤ e → e < length es + n → get_elem? (map Some es ++ replicate n None) e ≡ some None
  none_at [] n e l h = none_in n e (omega arith)
  none_at (x ∷ xs) n zero l h = absurd (omega arith)
  none_at (x ∷ xs) n (suc e) l h = none_at xs n e (omega arith) (omega arith)

  long_first : (es : List C) (n : ℕ) → length es ≤ n → length (first_slots n es) ≡ n
  long_first es n h = let a = length-append (map Some es) (replicate (n - length es) None) in
      let b = length_same {X = Option C} (n - length es) None in let c = length-map es Some in omega arith

pub words_long : (n : Net) → length (first_words n) ≡ 1 + n.tasks + n.tasks
words_long n = omega (
  arith,
  length-append (map (need_count n) (numbers n.tasks)) (replicate n.tasks 0),
  length_same {X = ℕ} n.tasks 0,
  length_numbers 0 n.tasks (need_count n),
)

module _ {C Key : Type 0} (edge_of : C → ℕ) (key_of : C → Key) (a : About C) (g : Graph) (es : List C) (first : C)
    (told : a.tasks.value ≡ g) (some_loop : 0 < g.tasks.loops) (long : length es ≡ g.tasks.loops)
    (are : AreEntries edge_of key_of es) (is_first : first ≡ slice_index_or es 0 first) (sample : a.sample.value ≡ first) where
  fits : length es ≤ edges_of g.tasks
  fits = omega arith

  laid : Laid graph_wires edge_of key_of a (first_slots (edges_of g.tasks) es)
  laid = subst (λ (h : Graph). Laid graph_wires edge_of key_of (record a { tasks = record a.tasks { value = h } })
      (first_slots (edges_of g.tasks) es)) (sym told) (record {
        long = long_first es (edges_of g.tasks) fits;
        full = λ e is. let l = ltb-true e g.tasks.loops is in let p = entry_at es (replicate (edges_of g.tasks - length es) None) e (omega arith) in (
          Some p.0,
          p.1,
          (
            p.0,
            refl,
            ap edge_of (sym (p.2 first)) ∙ are.edges e first (omega arith),
            ap key_of (sym (p.2 first)) ∙ are.keys e first (omega arith) ∙ ap key_of (sym is_first ∙ sym sample),
          ),
        );
        empty = λ e he no. none_at es (edges_of g.tasks - length es) e
            (dite (dec_le (length es) e) (λ l. l) (λ l. absurd (true≢false (sym (lt-ltb e g.tasks.loops (omega arith)) ∙ no))))
            (let f = fits in omega arith);
      })

  pub slots_long : (slots : List (Option C)) → slots ≡ first_slots (edges_of g.tasks) es → length slots ≡ edges_of g.tasks
  slots_long slots e = ap length e ∙ long_first es (edges_of g.tasks) fits

  -- the table that `begin` makes meets the rule
  pub begins_so : (words : List ℕ) (slots : List (Option C)) → words ≡ first_words (net_of g.tasks) → slots ≡ first_slots (edges_of g.tasks) es → 0 < a.workers
      → IsWhole graph_wires edge_of key_of a (opening words slots (first_view a))
  begins_so words slots ew es' some_worker = subst (λ (p : List ℕ × List (Option C)). IsWhole graph_wires edge_of key_of a
      (opening p.0 p.1 (first_view a))) (λ i. (sym (ew ∙ ap (λ (h : Graph). first_words (net_of h.tasks)) (sym told)) i, sym es' i))
      (begins graph_wires edge_of key_of a (first_slots (edges_of g.tasks) es) laid some_worker)

  pub key_is : (k : ℕ) (d : C) → k < length es → key_of (slice_index_or es k d) ≡ key_of a.sample.value
  key_is k d h = let p = entry_at es [] k h in ap key_of (p.2 d ∙ sym (p.2 first)) ∙ are.keys k first h ∙ ap key_of (sym is_first ∙ sym sample)
