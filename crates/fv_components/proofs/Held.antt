-- What reaches a node that is being looked at.
use Rattle.std.proofs.Common.{inl, inr, ℕ, ◌-◌, ◌<◌, ◌≤◌, length, subst, arith}
use Rattle.std.proofs.lemmas.Bool.{cases_lt, cases_eq}
use Rattle.fv_components.specs.headline.Reach.{Links, at, Reaches}
use Rattle.fv_components.specs.inner.Search.{State, class, IsStacked, IsReaching, IsHeld}
use Rattle.fv_components.proofs.lemmas.Walks.{reaches_trans}

-- no class begins after the last one
pub no_later : (n : ℕ) (st : State) → IsStacked n st → (c : ℕ) → c < length st.classes → (class st c).first ≤ (class st (length st.classes - 1)).first
no_later n st k c m = elim (cases_eq c (length st.classes - 1)) [
  | inl e ↦ subst (λ x. (class st c).first ≤ (class st x).first) e (omega arith)
  | inr e ↦ omega (arith, (k.rising c (length st.classes - 1) (omega arith) (omega arith)).0)
]

-- each place of the path reaches the node
pub to_held : (next : Links) (n : ℕ) (st : State) (w : ℕ) → IsHeld next n st w → IsStacked n st → IsReaching next st → (i : ℕ) → i < length st.path
    → Reaches next (at st.path i) w
to_held next n st w held k r i l =
    let some : 0 < length st.classes = k.some (omega arith) in
    reaches_trans (to_last some) (held.reached (length st.classes - 1) (omega arith))
  where
    to_last : 0 < length st.classes → Reaches next (at st.path i) (at st.path (class st (length st.classes - 1)).first)
    to_last some =
        let last = length st.classes - 1 in
        let in_path = k.firsts last (omega arith) in
        elim (cases_lt i (class st last).first) [
          | inl h ↦ r.down i (class st last).first (omega arith) in_path
          | inr h ↦ r.up (class st last).first i (omega arith) l (λ c m e. no_later n st k c m)
        ]
