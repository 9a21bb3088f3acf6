-- The rule stays where no stamp, count or arrival is new, as where seats are cut or joined.
use Rattle.std.proofs.Common.{◌≡◌, ℕ, ◌+◌, ◌<◌, ◌≤◌, ◌&&◌, ◌⊎◌, inl, inr, ⊎_elim, List, length, slice_index, refl, sym, ap, ◌∙◌, arith, Option, Some, ltb}
use Rattle.std.proofs.Math.Dec.{leb}
use Rattle.std.specs.List.Sorted.{IsStrictlyIncreasing}
use mathlib.Core.Option.{some}
use lib.ListN.{get_elem?}
use Rattle.atomic_table.specs.Table.{State}
use Rattle.fv_graph.specs.Tasks.{bit}
use Rattle.fv_graph.specs.Net.{Net}
use Rattle.fv_graph.specs.Graph.{Graph}
use Rattle.fv_graph.specs.Wires.{Wires}
use Rattle.fv_graph.specs.Core.{numbers}
use Rattle.fv_ready.specs.declared.view.Deed.{Deed}
use Rattle.fv_ready.specs.declared.view.About.{About}
use Rattle.fv_ready.specs.declared.view.View.{View}
use Rattle.fv_ready.specs.Rule.{count_word, wins, loses, sees, arrives, stamps, starts, finishes, all, IsSpent, IsOwn, IsKept, saw, arrives_with}
use Rattle.fv_ready.specs.Shown.{Reached}
use Rattle.fv_ready.specs.Whole.{starts_at, finishes_at, all_having, AllKnow, IsWhole}
use Rattle.fv_ready.proofs.lemmas.Claim.{total_ext}

module _ {C Key : Type 0} (wires : Graph → Wires) (edge_of : C → ℕ) (key_of : C → Key) (a : About C) (s : State (Option C) (View C)) where
  abbrev net : Net
  net = (wires a.tasks.value).net

  -- no stamp, no count and no arrival more
  pub record IsSteady (s' : State (Option C) (View C)) : Type 0 where
    pub starts : (t : ℕ) → all (starts t) s'.views ≡ all (starts t) s.views
    pub finishes : (t : ℕ) → all (finishes t) s'.views ≡ all (finishes t) s.views
    pub starts_at : (k t : ℕ) → all (starts_at k t) s'.views ≡ all (starts_at k t) s.views
    pub finishes_at : (k t : ℕ) → all (finishes_at k t) s'.views ≡ all (finishes_at k t) s.views
    pub arrives_with : (t c : ℕ) → all (arrives_with net t c) s'.views ≡ all (arrives_with net t c) s.views
    pub arrives : (e : ℕ) → all (arrives e) s'.views ≡ all (arrives e) s.views
    pub stamp_word : slice_index s'.words 0 ≡ slice_index s.words 0
    pub count_words : (t : ℕ) → t < net.tasks → slice_index s'.words (count_word t) ≡ slice_index s.words (count_word t)

  -- the other parts of the rule: the words and slots, what the seats have, and what is shown
  pub record HasRest (s' : State (Option C) (View C)) : Type 0 where
    pub kept : IsKept wires edge_of key_of a s'
    pub numbered : (k : ℕ) → all_having k s'.views ≡ bit (ltb k a.workers)
    pub has_one : (id : ℕ) (v : View C) → get_elem? s'.views id ≡ some v → v.board ≡ Some a → 0 < length v.numbers
    pub in_order : AllKnow {C = C} {S = Option C} a s' → (id : ℕ) (v : View C) → get_elem? s'.views id ≡ some v → IsStrictlyIncreasing v.numbers
    pub reached : AllKnow {C = C} {S = Option C} a s' → Reached {C = C} {S = Option C} net a.workers s'

  -- each look found a count that lies between the word and the number of the task's edges
  abbrev pub LookedBetween : State (Option C) (View C) → Type 0
  LookedBetween s' = (t c : ℕ) → t < net.tasks → 0 < all (saw t c) s'.views
      → (slice_index s'.words (count_word t) ≤ c) × (c ≤ length (net.needs t))

  pub whole_steady : (s' : State (Option C) (View C)) → IsWhole wires edge_of key_of a s → IsSteady s' → LookedBetween s' → HasRest s'
      → IsWhole wires edge_of key_of a s'
  whole_steady s' h e looked rest = record {
    kept = rest.kept;
    numbered = rest.numbered;
    has_one = rest.has_one;
    in_order = rest.in_order;
    drawn = e.stamp_word ∙ h.drawn ∙ sym (total_ext (λ t. all (starts t) s'.views + all (finishes t) s'.views)
        (λ t. all (starts t) s.views + all (finishes t) s.views) (λ t. let x = e.starts t in let y = e.finishes t in omega arith) (numbers net.tasks));
    stamped_once = λ t. let x = e.starts t in let y = e.finishes t in let o = h.stamped_once t in (omega arith, omega arith);
    start_below = λ k t pos. let p = h.start_below k t (let x = e.finishes_at k t in omega arith) in
        (p.0, p.1, (let x = e.starts_at p.0 t in let y = p.2 in omega arith));
    counts_once = λ t c there. e.arrives_with t c ∙ h.counts_once t c there
        ∙ ap (λ i. bit (leb i c && ltb c (length (net.needs t)))) (sym (e.count_words t there));
    seen_between = looked;
    arrived_done = λ x. let p = e.arrives x in let q = e.finishes (net.source x) in let o = h.arrived_done x in omega arith;
    after_reads = λ k t x there pos needs. let p = h.after_reads k t x there (let y = e.starts_at k t in omega arith) needs in
        (p.0, p.1, (let y = e.finishes_at p.0 (net.source x) in let z = p.2 in omega arith));
    reached = rest.reached;
  }

module _ {C Key : Type 0} (wires : Graph → Wires) (edge_of : C → ℕ) (key_of : C → Key) (a : About C) (s : State (Option C) (View C))
    (views : List (View C)) (E : (f : Deed → ℕ) → all f views ≡ all f s.views) where
  abbrev n : Net
  n = (wires a.tasks.value).net

  abbrev s' : State (Option C) (View C)
  s' = record { words = s.words; homes = s.homes; views = views }

  -- what the seats say by themselves
  pub record SayTheSame : Type 0 where
    pub same : (id : ℕ) (v : View C) → get_elem? views id ≡ some v → (v.board ≡ Some a) ⊎ IsSpent v
    pub own : (id : ℕ) (v : View C) → get_elem? views id ≡ some v → IsOwn n v

  pub kept_so : IsKept wires edge_of key_of a s → SayTheSame → IsKept wires edge_of key_of a s'
  kept_so k each = record {
    words_long = k.words_long;
    homes_long = k.homes_long;
    same = each.same;
    own = each.own;
    stamped = λ m. E (stamps m) ∙ k.stamped m;
    won_once = λ t. let e = E (wins t) in let p = k.won_once t in omega arith;
    claimed = λ t there. k.claimed t there ∙ sym (E (wins t));
    lost = λ t there pos. k.lost t there (let e = E (loses t) in omega arith);
    counted = λ t there. let r = total_ext (λ e. all (arrives e) views) (λ e. all (arrives e) s.views) (λ e. E (arrives e)) (n.needs t) in
        let p = k.counted t there in omega arith;
    arrived_once = λ e. let r = E (arrives e) in let p = k.arrived_once e in omega arith;
    seen = λ t there pos. k.seen t there (let e = E (sees t) in omega arith);
    empty_slots = λ e he no none. k.empty_slots e he no (sym (E (wins (n.source e))) ∙ none);
    full_slots = λ e come none. k.full_slots e (⊎_elim (λ i. inl i) (λ i. inr (sym (E (arrives e)) ∙ i)) come) (sym (E (wins (n.reader e))) ∙ none);
    exit_slots = λ e is fin. k.exit_slots e is (sym (E (finishes (n.source e))) ∙ fin);
    keyed = k.keyed;
  }

  pub whole_so : IsWhole wires edge_of key_of a s → HasRest wires edge_of key_of a s s' → IsWhole wires edge_of key_of a s'
  whole_so h rest = whole_steady wires edge_of key_of a s s' h record {
    starts = λ t. E (starts t);
    finishes = λ t. E (finishes t);
    starts_at = λ k t. E (starts_at k t);
    finishes_at = λ k t. E (finishes_at k t);
    arrives_with = λ t c. E (arrives_with n t c);
    arrives = λ e. E (arrives e);
    stamp_word = refl;
    count_words = λ t there. refl;
  } (λ t c there pos. h.seen_between t c there (let e = E (saw t c) in omega arith)) rest
