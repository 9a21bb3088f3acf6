-- The steps of a search, with what they keep.
use Rattle.std.proofs.Common.{◌≡◌, ◌≢◌, inl, inr, ℕ, zero, suc, ◌+◌, ◌-◌, ◌<◌, ◌≤◌, List, [], ◌∷◌, ◌++◌, length, get_or}
use Rattle.std.proofs.Common.{set, take, drop, replicate, refl, sym, ap, subst, ◌∙◌, arith}
use Rattle.std.proofs.lemmas.List.{length-replicate, get_or-set_other, get_or-set_same, length_push, length-append}
use Rattle.std.proofs.lemmas.List.{length-take-le, length-drop, get_or-drop, take-append-drop, drop_more, drop_all}
use Rattle.std.proofs.lemmas.Bool.{cases_eq}
use Rattle.fv_components.specs.headline.Reach.{Links, at, Walk}
use Rattle.fv_components.specs.Reach.{AreLinks, AreComponents}
use Rattle.fv_components.specs.declared.search.Mark.{Mark}
use Rattle.fv_components.specs.declared.search.Mark.TheVariants.{New, Open, Done}
use Rattle.fv_components.specs.declared.search.Class.{Class}
use Rattle.fv_components.specs.inner.Search.{State, no_class, mark, class, IsHeld, IsClosed, IsRunning, IsCountUpTo, GoesOn, left, one}
use Rattle.fv_components.specs.inner.Search.{weight, work, none, only, visited, collapsed, closed, IsNumbered}
use Rattle.fv_components.proofs.Weights.{left_met, left_finished, finished_met, length_finished, finished_other, finished_given}
use Rattle.fv_components.proofs.Visits.{visits}
use Rattle.fv_components.proofs.Turns.{popped, held_popped, search_popped, skips, collapses}
use Rattle.fv_components.proofs.Closes.{closes}

-- a node that is met first
pub run_visits : {next : Links} {n : ℕ} {st : State} {w : ℕ} → AreLinks next n → IsHeld next n st w → mark st w ≡ New → IsRunning next n (only w) st
    → GoesOn next n st (work next st) (visited next st w)
run_visits {next} {n} {st} {w} links held fresh r =
    let in_marks : w < length st.marks = subst (λ k. w < k) (sym r.search.marked.long) held.inside in
    let ones : left one 0 (set st.marks w (Open (length st.path))) + 1 ≡ left one 0 st.marks = left_met one 0 st.marks w (length st.path) in_marks fresh in
    let z : 0 + w ≡ w = omega arith in
    let weights : left (weight next) 0 (set st.marks w (Open (length st.path))) + weight next w ≡ left (weight next) 0 st.marks =
    ap (λ x. left (weight next) 0 (set st.marks w (Open (length st.path))) + weight next x) (sym z)
    ∙ left_met (weight next) 0 st.marks w (length st.path) in_marks fresh in
    record {
      running = record { search = visits next n st w links held fresh r.search; few = omega (arith, length_push st.path w, r.few, ones) };
      met = λ s m. met s m in_marks;
      less = omega (arith, weights, length-append st.pending (next w), length_push st.classes (record { first = length st.path; waiting = length st.pending }));
    }
  where
    met : (s : ℕ) → mark st s ≢ New → w < length st.marks → mark (visited next st w) s ≢ New
    met s m l = elim (cases_eq s w) [
      | inl e ↦ absurd (m (ap (mark st) e ∙ fresh))
      | inr e ↦ λ h. m (sym (other s e) ∙ h)
    ]
      where
        other : (s : ℕ) → s ≢ w → mark (visited next st w) s ≡ mark st s
        other s e = get_or-set_other st.marks w s (Open (length st.path)) New e

-- classes that become one
pub run_collapses : {next : Links} {n : ℕ} {st : State} {w i m : ℕ} → mark st w ≡ Open i → IsHeld next n st w → IsCountUpTo st.classes i m
    → IsRunning next n (only w) st → GoesOn next n st (work next st) (collapsed st m)
run_collapses {next} {n} {st} {w} {i} {m} stands held k r = record {
  running = record { search = collapses next n st w i m stands held k r.search; few = r.few };
  met = λ s h. h;
  less = omega (arith, length-take-le m st.classes k.few, k.few);
}

pub run_skips : (next : Links) (n : ℕ) (st : State) (w k : ℕ) → mark st w ≡ Done k → IsRunning next n (only w) st → GoesOn next n st (work next st) st
run_skips next n st w k d r = record { running = record { search = skips next n st w k d r.search; few = r.few }; met = λ s h. h; less = omega arith }

-- a class that is done
module _ {next : Links} {n : ℕ} {st : State} (some : 0 < length st.classes) (r : IsRunning next n none st) where
  abbrev last : Class
  last = class st (length st.classes - 1)

  abbrev front : List Class
  front = take (length st.classes - 1) st.classes

  abbrev ends : List ℕ
  ends = drop last.first st.path

  split : st.classes ≡ front ++ last ∷ []
  split = sym (take-append-drop (length st.classes - 1) st.classes)
      ∙ ap (λ xs. front ++ xs) (drop_more st.classes (length st.classes - 1) no_class (omega arith)
      ∙ ap (λ xs. last ∷ xs) (drop_all (length st.classes - 1 + 1) st.classes (omega arith)))

  pub within : last.first < length st.path
  within = r.search.stacked.firsts (length st.classes - 1) (omega arith)

  long_ends : length ends ≡ length st.path - last.first
  long_ends = length-drop last.first st.path

  at_end : (i : ℕ) → at ends i ≡ at st.path (last.first + i)
  at_end i = get_or-drop last.first st.path i 0

  opened : (i : ℕ) → i < length ends → mark st (at ends i) ≡ Open (last.first + i)
  opened i l = ap (mark st) (at_end i) ∙ r.search.marked.opened (last.first + i) (omega (arith, long_ends, within))

  met_ends : (i : ℕ) → i < length ends → mark st (at ends i) ≢ New
  met_ends i l = λ e. absurd (let o = opened i l in cc)

  is_closed : IsClosed st (closed st) last.first
  is_closed = record {
    path = refl;
    pending = refl;
    count = refl;
    long = length_finished st.marks ends st.count;
    given = given;
    kept = λ s h. finished_other st.marks ends st.count s
        (λ i l e. absurd (let z : last.first + i < last.first = h (last.first + i) (sym (ap (mark st) e) ∙ opened i l) in omega arith));
  }
    where
      given : (s i : ℕ) → mark st s ≡ Open i → last.first ≤ i → mark (closed st) s ≡ Done st.count
      given s i o h =
          let p = r.search.marked.placed s i o in
          let z : last.first + (i - last.first) ≡ i = omega arith in
          let e : at ends (i - last.first) ≡ s = at_end (i - last.first) ∙ ap (at st.path) z ∙ p.1 in
          let q = finished_given st.marks ends st.count (i - last.first) (omega (arith, long_ends, p.0))
          (omega (arith, r.search.marked.long, r.search.marked.inside i p.0, ap (at st.path) z, at_end (i - last.first))) in
          subst (λ x. mark (closed st) x ≡ Done st.count) e q

  pub run_closes : length st.pending ≤ last.waiting → GoesOn next n st (work next st - 1) (closed st)
  run_closes spent = record {
    running = record {
      search = closes next n st (closed st) front last split refl is_closed spent r.search;
      few = omega (arith, r.few, left_finished one st.marks ends st.count met_ends, length-take-le last.first st.path (omega (arith, within)), within);
    };
    met = λ s m. finished_met st.marks ends st.count s m;
    less = omega (arith, left_finished (weight next) st.marks ends st.count met_ends, length-take-le (length st.classes - 1) st.classes (omega arith));
  }

-- a node that waited is taken
module _ {next : Links} {n : ℕ} {st : State} (rest : List ℕ) (w : ℕ) (is : st.pending ≡ rest ++ w ∷ []) (some : 0 < length st.classes)
    (more : (class st (length st.classes - 1)).waiting < length st.pending) (r : IsRunning next n none st) where
  longer : length st.pending ≡ length rest + 1
  longer = ap length is ∙ length_push rest w

  waits : (c : ℕ) → c < length st.classes → (class st c).waiting ≤ length rest
  waits c l = elim (cases_eq c (length st.classes - 1)) [
    | inl e ↦ subst (λ x. (class st x).waiting ≤ length rest) (sym e) (omega (arith, longer))
    | inr e ↦ omega (arith, longer, (r.search.stacked.rising c (length st.classes - 1) (omega arith) (omega arith)).1)
  ]

  pub run_held : IsHeld next n (popped st rest) w
  run_held = held_popped next n st rest w is waits r.search

  pub run_popped : IsRunning next n (only w) (popped st rest)
  run_popped = record { search = search_popped next n st rest w is waits r.search; few = r.few }

  pub run_looked : (new : State) → GoesOn next n (popped st rest) (work next (popped st rest)) new → GoesOn next n st (work next st - 1) new
  run_looked new g = record { running = g.running; met = g.met; less = omega (arith, longer, g.less) }

-- a root, where there is no path
pub root_held : (next : Links) (n : ℕ) (st : State) (w : ℕ) → w < n → length st.classes ≡ 0 → IsHeld next n st w
root_held next n st w l e = record { inside = l; reached = λ c h. absurd (omega arith) }

pub root_running : (next : Links) (n : ℕ) (st : State) (w : ℕ) → IsRunning next n none st → IsRunning next n (only w) st
root_running next n st w r = record {
  search = record {
    marked = r.search.marked;
    stacked = r.search.stacked;
    reaching = r.search.reaching;
    done = r.search.done;
    followed = λ i b l h. inl (elim (r.search.followed i b l h) [ inl f ↦ f | inr f ↦ absurd f ]);
  };
  few = r.few;
}

-- before anything was met
pub starts : (next : Links) (n : ℕ) (st : State) → st.marks ≡ replicate n New → st.path ≡ [] → st.classes ≡ [] → st.pending ≡ [] → st.count ≡ 0
    → IsRunning next n none st
starts next n st m p k q z = record {
  search = record {
    marked = record {
      long = ap length m ∙ length-replicate n New;
      inside = λ i l. absurd (omega (arith, ap length p));
      opened = λ i l. absurd (omega (arith, ap length p));
      placed = λ s i o. absurd (let y = fresh s in cc);
    };
    stacked = record {
      firsts = λ c l. absurd (omega (arith, ap length k));
      waits = λ c l. absurd (omega (arith, ap length k));
      rising = λ b c h l. absurd (omega (arith, ap length k));
      some = λ l. absurd (omega (arith, ap length p));
      bottom = ap (λ xs. (get_or xs 0 no_class).first) k;
      inside = λ i l. absurd (omega (arith, ap length q));
    };
    reaching = record {
      down = λ i j h l. absurd (omega (arith, ap length p));
      up = λ i j h l. absurd (omega (arith, ap length p));
      leads = λ c i l. absurd (omega (arith, ap length k));
    };
    done = record {
      closed = λ s b i d. absurd (let y = fresh s in cc);
      counted = λ s i d. absurd (let y = fresh s in cc);
      alike = λ s r i d. absurd (let y = fresh s in cc);
    };
    followed = λ i b l. absurd (omega (arith, ap length p));
  };
  few = omega (arith, ap length p, ap (left one 0) m, left_new n 0, z);
}
  where
    news : (n s : ℕ) → get_or (replicate n New) s New ≡ New
    news zero s = refl
    news (suc n) zero = refl
    news (suc n) (suc s) = news n s

    fresh : (s : ℕ) → mark st s ≡ New
    fresh s = ap (λ ms. get_or ms s New) m ∙ news n s

    left_new : (n i : ℕ) → left one i (replicate n New) ≡ n
    left_new zero i = refl
    left_new (suc n) i = let h = left_new n (suc i) in omega arith

-- where nothing is left
pub ends_in : (next : Links) (n : ℕ) (st : State) (numbers : List ℕ) → AreLinks next n → IsRunning next n none st → length numbers ≡ n
    → ((s : ℕ) → s < n → mark st s ≡ Done (at numbers s)) → AreComponents next n numbers
ends_in next n st numbers links r long is = record {
  long = long;
  within = λ a l. omega (arith, r.few, r.search.done.counted a (at numbers a) (is a l));
  alike = λ a b l m e. r.search.done.alike a b (at numbers a) (is a l) (is b m ∙ ap Done (sym e));
  ordered = λ a b l h. along h.steps a b l h.walk;
}
  where
    along : (k a b : ℕ) → a < n → Walk next a b k → at numbers b ≤ at numbers a
    along zero a b l w = subst (λ x. at numbers x ≤ at numbers a) w (omega arith)
    along (suc k) a b l w =
        let c = w.0 in
        let m : c < n = links a c l w.1 in
        let p = r.search.done.closed a c (at numbers a) (is a l) w.1 in
        let z : p.0 ≡ at numbers c = done_same (sym p.1 ∙ is c m) in
        omega (arith, along k c b m w.2, p.2, z)
      where
        done_same : {x y : ℕ} → Done x ≡ Done y → x ≡ y
        done_same {x} {y} e = cc

-- the first step from a root
pub root_goes : (next : Links) (n : ℕ) (st : State) (w : ℕ) → AreLinks next n → w < n → length st.classes ≡ 0 → mark st w ≡ New → IsRunning next n none st
    → GoesOn next n st (work next st) (visited next st w)
root_goes next n st w links l e fresh r = run_visits links (root_held next n st w l e) fresh (root_running next n st w r)

pub root_met : (next : Links) (st : State) (w : ℕ) → w < length st.marks → mark (visited next st w) w ≢ New
root_met next st w l = λ h. absurd (let e = get_or-set_same st.marks w (Open (length st.path)) New l in cc)

-- where each node was met and there is no path, each has a number
pub all_numbered : (next : Links) (n : ℕ) (st : State) → IsRunning next n none st → length st.classes ≡ 0 → ((s : ℕ) → s < n → mark st s ≢ New) → (s : ℕ)
    → s < n → IsNumbered st s
all_numbered next n st r e met s l = go (mark st s) refl
  where
    go : (m : Mark) → mark st s ≡ m → IsNumbered st s
    go New h = absurd (met s l h)
    go (Done k) h = (k, h)
    go (Open i) h = absurd (let p = (r.search.marked.placed s i h).0 in let q = r.search.stacked.some (omega arith) in omega arith)
