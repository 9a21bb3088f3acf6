-- One event more is replayed.
use Rattle.std.proofs.Common.{◌≡◌, ℕ, zero, suc, ◌+◌, ◌<◌, ◌≤◌, cond, List, [], ◌∷◌, length, get_or, drop, Some, None, refl, sym, ap, ◌∙◌, arith, drop-cons}
use Rattle.fv_graph.specs.Net.{Net}
use Rattle.fv_graph.specs.Core.{Now, is_legal, after, replayed}
use Rattle.fv_graph.specs.declared.event.Event.{Event}

pub replay_next : (n : Net) (s : Now) (es : List Event) (i : ℕ) (e : Event) → i < length es → e ≡ get_or es i e
    → replayed n s (drop i es) ≡ cond (is_legal n s e) (replayed n (after n s e) (drop (i + 1) es)) None
replay_next n s es i e h is =
    ap (replayed n s) (drop-cons es i e h)
    ∙ ap (λ (x : Event). cond (is_legal n s x) (replayed n (after n s x) (drop (suc i) es)) None) (sym is)
    ∙ ap (λ k. cond (is_legal n s e) (replayed n (after n s e) (drop k es)) None) (let q : suc i ≡ i + 1 = omega arith in q)

pub replay_end : (n : Net) (s : Now) (es : List Event) (i : ℕ) → length es ≤ i → replayed n s (drop i es) ≡ Some s
replay_end n s [] zero h = refl
replay_end n s [] (suc i) h = refl
replay_end n s (e ∷ es) zero h = absurd (omega arith)
replay_end n s (e ∷ es) (suc i) h = replay_end n s es i (omega arith)
