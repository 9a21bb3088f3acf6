-- What opening and closing groups leaves as it is.
use Rattle.std.proofs.Common.{◌≡◌, ℕ, zero, suc, ◌+◌, ◌<◌, List, [], ◌∷◌, length, get_or, All, refl, sym, ap, ◌∙◌, subst, arith, inl, inr, true, false}
use Rattle.std.proofs.lemmas.Bool.{cases_lt}
use Rattle.std.proofs.lemmas.List.{length_push, get_or_push, get_or_append_left, length-set, get_or-set_same, get_or-set_other}
use Rattle.fv_share.specs.Drafts.{Draft, IsShut, IsPending, BacksWithin, IsDraft, with_groups, with_members, with_all_members}
use Rattle.fv_share.specs.Drafts.{AreOpened, AreShut, CanClose, GroupsStay}
use Rattle.fv_share.proofs.lemmas.Kept.{names_group}

-- no Back names a group that is still to come
fresh_from : (d : Draft) → IsDraft d → (g : ℕ) → BacksWithin d (length d.groups + g) 0
fresh_from d h g s k x l e = absurd (let there = names_group d (get_or d.signals s x) (length d.groups + g) k (h.named s x l) e in omega (arith, there))

opened : (d : Draft) → IsDraft d → (count : ℕ) → AreOpened d (with_groups d count) count
opened d h zero = record {
  long = omega arith;
  signals = refl;
  pending = λ g l. absurd (omega (arith, l));
  fresh = λ g l. absurd (omega (arith, l));
  groups = λ g l. refl;
  closed = λ g l. refl;
}
opened d h (suc n) = let p = opened d h n in let q = with_groups d n in record {
  long = omega (arith, length_push q.groups [], p.long);
  signals = p.signals;
  pending = λ g l. elim (cases_lt g n) [
    | inl m ↦ let r = p.pending g m in
        (omega (arith, length_push q.groups [], r.0), get_or_append_left q.closed (false ∷ []) false (length d.groups + g) (omega (arith, marked n, r.0)) ∙ r.1)
    | inr m ↦
        let z : length q.closed ≡ length d.groups + g = omega (arith, marked n, p.long, l, m) in
        (omega (arith, length_push q.groups [], p.long, l), get_or_push q.closed false false (length d.groups + g) z)
  ];
  fresh = λ g l s k x w e. fresh_from d h g s k x (omega (arith, ap length p.signals, w)) (ap (λ ss. get_or ss s x) (sym p.signals) ∙ e);
  groups = λ g l. get_or_append_left q.groups ([] ∷ []) [] g (omega (arith, p.long, l)) ∙ p.groups g l;
  closed = λ g l. get_or_append_left q.closed (false ∷ []) false g (omega (arith, marked n, p.long, l)) ∙ p.closed g l;
}
  where
    marked : (n : ℕ) → length (with_groups d n).closed ≡ length (with_groups d n).groups
    marked zero = h.marked
    marked (suc n) = let q = with_groups d n in omega (arith, length_push q.closed false, length_push q.groups [], marked n)

-- ---- groups get their members

module _ (d : Draft) (first : ℕ) (members : List ℕ) where
  abbrev one : Draft
  one = with_members d first members

  one_marked : length d.closed ≡ length d.groups → length one.closed ≡ length one.groups
  one_marked m = length-set d.closed first true ∙ m ∙ sym (length-set d.groups first members)

  one_shut : length d.closed ≡ length d.groups → IsPending d first → IsShut one first
  one_shut m p = (omega (arith, p.0, length-set d.groups first members), get_or-set_same d.closed first true false (omega (arith, m, p.0)))

  -- the groups after it wait as before
  one_pending : (g : ℕ) → IsPending d (first + suc g) → IsPending one (suc first + g)
  one_pending g p =
      let at : first + suc g ≡ suc first + g = omega arith in
      let other : suc first + g ≡ first → ⊥ = λ e. omega (arith, e) in (
        omega (arith, p.0, length-set d.groups first members),
        get_or-set_other d.closed first (suc first + g) true false other ∙ ap (λ k. get_or d.closed k false) (sym at) ∙ p.1,
      )

shut_all : (d : Draft) → length d.closed ≡ length d.groups → (first : ℕ) (lists : List (List ℕ)) → ((g : ℕ) → g < length lists → IsPending d (first + g))
    → AreShut d (with_all_members d first lists) first lists
shut_all d m first [] p = record {
  long = refl;
  signals = refl;
  shut = λ g l. absurd (omega (arith, l));
  its = λ g l. absurd (omega (arith, l));
  groups = λ g n. refl;
  closed = λ g n. refl;
}
shut_all d m first (members ∷ lists) p =
    let zero_at : first + 0 ≡ first = omega arith in
    let e = with_members d first members in
    let now : IsPending d first = subst (IsPending d) zero_at (p 0 (omega arith)) in
    let q = shut_all e (one_marked d first members m) (suc first) lists (λ g l. one_pending d first members g (p (suc g) (omega (arith, l)))) in
    let before : (k : ℕ) → k < length lists → first ≡ suc first + k → ⊥ = λ k l e. omega (arith, e) in
    let here = one_shut d first members m now in
    let shut_here : IsShut (with_all_members e (suc first) lists) first = (omega (arith, here.0, q.long), q.closed first before ∙ here.1) in
    let its_here : get_or (with_all_members e (suc first) lists).groups first [] ≡ members =
    q.groups first before ∙ get_or-set_same d.groups first members [] now.0 in
    record {
      long = q.long ∙ length-set d.groups first members;
      signals = q.signals;
      shut = λ g l. shut_at g l q zero_at shut_here;
      its = λ g l. its_at g l q zero_at its_here;
      groups = λ g n. q.groups g (λ k l i. n (suc k) (omega (arith, l)) (omega (arith, i)))
          ∙ get_or-set_other d.groups first g members [] (λ i. n 0 (omega arith) (i ∙ sym zero_at));
      closed = λ g n. q.closed g (λ k l i. n (suc k) (omega (arith, l)) (omega (arith, i)))
          ∙ get_or-set_other d.closed first g true false (λ i. n 0 (omega arith) (i ∙ sym zero_at));
    }
  where
    new : Draft
    new = with_all_members (with_members d first members) (suc first) lists

    shut_at : (g : ℕ) → g < length (members ∷ lists) → AreShut (with_members d first members) new (suc first) lists → first + 0 ≡ first → IsShut new first
        → IsShut new (first + g)
    shut_at zero l q zero_at h = subst (IsShut new) (sym zero_at) h
    shut_at (suc g) l q zero_at h =
        let at : suc first + g ≡ first + suc g = omega arith in
        subst (IsShut new) at (q.shut g (omega (arith, l)))

    its_at : (g : ℕ) → g < length (members ∷ lists) → AreShut (with_members d first members) new (suc first) lists → first + 0 ≡ first
        → get_or new.groups first [] ≡ members → get_or new.groups (first + g) [] ≡ get_or (members ∷ lists) g []
    its_at zero l q zero_at h = ap (λ k. get_or new.groups k []) zero_at ∙ h
    its_at (suc g) l q zero_at h =
        let at : suc first + g ≡ first + suc g = omega arith in
        ap (λ k. get_or new.groups k []) (sym at) ∙ q.its g (omega (arith, l))

-- what closing asks, of the first group and of those after it
pub close_first : (d : Draft) (first : ℕ) (members : List ℕ) (lists : List (List ℕ)) → CanClose d first (members ∷ lists)
    → IsPending d first × All (λ s. s < length d.signals) members × BacksWithin d first (length members)
close_first d first members lists h =
    let zero_at : first + 0 ≡ first = omega arith in
    let some : 0 < length (members ∷ lists) = omega arith in (
      subst (IsPending d) zero_at (h.pending 0 some),
      h.members 0 some,
      subst (λ k. BacksWithin d k (length members)) zero_at (h.backs 0 some),
    )

pub close_rest : (d : Draft) (first : ℕ) (members : List ℕ) (lists : List (List ℕ)) → CanClose d first (members ∷ lists)
    → CanClose (with_members d first members) (suc first) lists
close_rest d first members lists h = record {
  pending = λ g l. one_pending d first members g (h.pending (suc g) (omega (arith, l)));
  members = λ g l. h.members (suc g) (omega (arith, l));
  backs = λ g l. let at : first + suc g ≡ suc first + g = omega arith in
      subst (λ k. BacksWithin d k (length (get_or lists g []))) at (h.backs (suc g) (omega (arith, l)));
}

pub groups_stay : GroupsStay
groups_stay d = (λ h count. opened d h count, λ m first lists p. shut_all d m first lists p)
