-- Each call keeps the rule of a deque.
use Rattle.std.proofs.Common.{◌≡◌, ℕ, zero, suc, ◌+◌, ◌-◌, ◌<◌, ◌≤◌, true, false, List, [], ◌∷◌, ◌++◌, set, refl, sym, ap, ◌∙◌, subst, arith}
use Rattle.std.proofs.Common.{◌==◌, true≢false, ⊎_elim}
use mathlib.Core.Option.{some, some-injective, some-ne-none}
use mathlib.Core.Logic.{dite}
use native.Mathlib.Decide.{ℕ_discrete}
use lib.ListN.{get_elem?}
use Rattle.crossbeam_deque.specs.Tasks.{Pushes, Takes, Pops, Finds, Forks, Merges}
use Rattle.crossbeam_deque.proofs.Lists.{at_set, at_snoc}
use Rattle.fv_graph.specs.Tasks.{bit, total}
use Rattle.fv_graph.specs.TasksBeside.{times}
use Rattle.fv_graph.proofs.lemmas.Counts.{bit_apart, bit_le, bit_same, bit_false, total_append}
use Rattle.fv_steal.specs.declared.rule.Account.{Account}
use Rattle.fv_steal.specs.Balance.{account, IsIdle, IsBalanced}

change : (f : Account → ℕ) (views : List Account) (port : ℕ) (v w : Account) → get_elem? views port ≡ some v
    → total f (set views port w) + f v ≡ total f views + f w
change f [] port v w at = absurd (some-ne-none v (sym at))
change f (x ∷ xs) zero v w at = let e : f x ≡ f v = ap f (some-injective x v at) in omega arith
change f (x ∷ xs) (suc port) v w at = let r = change f xs port v w at in omega arith

one : (f : Account → ℕ) (views : List Account) (port : ℕ) (v : Account) → get_elem? views port ≡ some v → f v ≤ total f views
one f [] port v at = absurd (some-ne-none v (sym at))
one f (x ∷ xs) zero v at = let e : f x ≡ f v = ap f (some-injective x v at) in omega arith
one f (x ∷ xs) (suc port) v at = let r = one f xs port v at in omega arith

-- where f is 0 of each pass but the owner's, a total is the owner's
of_owner : (f : Account → ℕ) (views : List Account) (port : ℕ) (v : Account) → get_elem? views port ≡ some v → v.owns ≡ true
    → total (λ u. bit u.owns) views ≡ 1 → ((p : ℕ) (u : Account) → get_elem? views p ≡ some u → u.owns ≡ false → f u ≡ 0) → total f views ≡ f v
of_owner f [] port v at own only none = absurd (some-ne-none v (sym at))
of_owner f (y ∷ ys) zero v at own only none =
    let e = some-injective y v at in let b : bit y.owns ≡ 1 = ap (λ (k : Account). bit k.owns) e ∙ ap bit own in let p : f y ≡ f v = ap f e in
    let r = of_none f ys (omega arith) (λ q u k. none (suc q) u k) in omega arith
  where
    of_none : (f : Account → ℕ) (views : List Account) → total (λ u. bit u.owns) views ≡ 0
        → ((p : ℕ) (u : Account) → get_elem? views p ≡ some u → u.owns ≡ false → f u ≡ 0) → total f views ≡ 0
    of_none f [] e none = refl
    of_none f (y ∷ ys) e none = let z = none 0 y refl (bit_false y.owns (omega arith)) in let r = of_none f ys (omega arith) (λ q u k. none (suc q) u k) in
        omega arith
of_owner f (y ∷ ys) (suc port) v at own only none =
    let t = one (λ u. bit u.owns) ys port v at in let b : bit v.owns ≡ 1 = ap bit own in let l = bit_le y.owns in
    let z = none 0 y refl (bit_false y.owns (omega arith)) in
    let r = of_owner f ys port v at own (omega arith) (λ q u k. none (suc q) u k) in omega arith

each_set : (views : List Account) (port : ℕ) (w : Account) → IsIdle w → ((p : ℕ) (u : Account) → get_elem? views p ≡ some u → IsIdle u)
    → (p : ℕ) (u : Account) → get_elem? (set views port w) p ≡ some u → IsIdle u
each_set views port w here others p u e = ⊎_elim (λ (z : (p ≡ port) × (w ≡ u)). subst IsIdle z.1 here) (λ z. others p u z.1) (at_set views port p w u e)

not_both : (v : Account) → v.owns ≡ true → {P : Type 0} → v.owns ≡ false → P
not_both v a b = absurd (true≢false (sym a ∙ b))

-- all that was put is what the owner put
put_by_owner : (items : List ℕ) (views : List Account) (port : ℕ) (v : Account) (x : ℕ) → IsBalanced items views → get_elem? views port ≡ some v → v.owns ≡ true
    → total (λ u. times x u.put) views ≡ times x v.put
put_by_owner items views port v x h at own = of_owner (λ u. times x u.put) views port v at own h.owned (λ p u k o. ap (times x) ((h.idle p u k).put o))

lent_by_owner : (items : List ℕ) (views : List Account) (port : ℕ) (v : Account) → IsBalanced items views → get_elem? views port ≡ some v → v.owns ≡ true
    → total (λ u. u.lent) views ≡ v.lent
lent_by_owner items views port v h at own = of_owner (λ u. u.lent) views port v at own h.owned (λ p u k o. (h.idle p u k).lent o)

-- ---- a new deque
pub opens : IsBalanced [] (account true 0 0 [] [] ∷ [])
opens = record { owned = refl; out = refl; balance = λ x. refl; once = λ x. omega arith; idle = λ port v at. only port v at }
  where
    only : (port : ℕ) (v : Account) → get_elem? (account true 0 0 [] [] ∷ []) port ≡ some v → IsIdle v
    only zero v at = subst IsIdle (some-injective (account true 0 0 [] []) v at)
        (record { put = λ o. absurd (true≢false o); lent = λ o. absurd (true≢false o); taken = λ o. absurd (true≢false o) })
    only (suc port) v at = absurd (some-ne-none v (sym at))

-- ---- the owner puts a number that it has not put before
pub puts : (port : ℕ) (v : Account) (x : ℕ) → v.owns ≡ true → times x v.put ≡ 0
    → Pushes IsBalanced port v (x ∷ []) (λ w. w ≡ account v.owns v.lent v.held (v.put ++ x ∷ []) v.taken)
puts port v x own fresh items views h at =
    let w = account v.owns v.lent v.held (v.put ++ x ∷ []) v.taken in
    let once_after : (y : ℕ) → total (λ u. times y u.put) (set views port w) < 2 =
    λ y. let s = change (λ u. times y u.put) views port v w at in let a = total_append (λ k. bit (k == y)) v.put (x ∷ []) in
    let o = put_by_owner items views port v y h at own in let l = h.once y in
    dite (ℕ_discrete x y) (λ e. let b = bit_same x y e in let z : times y v.put ≡ 0 = ap (λ k. times k v.put) (sym e) ∙ fresh in omega arith)
    (λ ne. let b = bit_apart x y ne in omega arith) in (
      w,
      record {
        owned = let s = change (λ u. bit u.owns) views port v w at in let p = h.owned in omega arith;
        out = let s = change (λ u. u.held) views port v w at in let t = change (λ u. u.lent) views port v w at in let p = h.out in omega arith;
        balance = λ y. let s = change (λ u. times y u.put) views port v w at in let t = change (λ u. times y u.taken) views port v w at in
            let p = h.balance y in
            let a = total_append (λ k. bit (k == y)) v.put (x ∷ []) in let b = total_append (λ k. bit (k == y)) items (x ∷ []) in omega arith;
        once = once_after;
        idle = each_set views port w (record { put = λ o. not_both v own o; lent = λ o. not_both v own o; taken = λ o. not_both v own o }) h.idle;
      },
      refl,
    )

-- ---- a pass takes numbers
took : (port : ℕ) (v : Account) (xs items rest : List ℕ) (views : List Account) → ((x : ℕ) → times x items ≡ times x rest + times x xs)
    → IsIdle (account v.owns v.lent v.held v.put (v.taken ++ xs)) → IsBalanced items views → get_elem? views port ≡ some v
    → IsBalanced rest (set views port (account v.owns v.lent v.held v.put (v.taken ++ xs)))
took port v xs items rest views apart idle h at =
    let w = account v.owns v.lent v.held v.put (v.taken ++ xs) in record {
      owned = let s = change (λ u. bit u.owns) views port v w at in let p = h.owned in omega arith;
      out = let s = change (λ u. u.held) views port v w at in let t = change (λ u. u.lent) views port v w at in let p = h.out in omega arith;
      balance = λ y. let s = change (λ u. times y u.put) views port v w at in let t = change (λ u. times y u.taken) views port v w at in let p = h.balance y in
          let a = total_append (λ k. bit (k == y)) v.taken xs in let b = apart y in omega arith;
      once = λ y. let s = change (λ u. times y u.put) views port v w at in let p = h.once y in omega arith;
      idle = each_set views port w idle h.idle;
    }

pub pops : (port : ℕ) (v : Account) → v.owns ≡ true → Pops IsBalanced port v (λ xs w. w ≡ account v.owns v.lent v.held v.put (v.taken ++ xs))
pops port v own x items views h at = (
  account v.owns v.lent v.held v.put (v.taken ++ x ∷ []),
  took port v (x ∷ []) (items ++ x ∷ []) items views (λ y. total_append (λ k. bit (k == y)) items (x ∷ []))
      (record { put = λ o. not_both v own o; lent = λ o. not_both v own o; taken = λ o. not_both v own o }) h at,
  refl,
)

pub steals : (port : ℕ) (v : Account) → (v.owns ≡ false) × (v.held ≡ 1) → Takes IsBalanced port v 1 (λ xs w. w ≡ account v.owns v.lent v.held v.put
    (v.taken ++ xs))
steals port v out xs items views _ _ h at = (
  account v.owns v.lent v.held v.put (v.taken ++ xs),
  took port v xs (xs ++ items) items views (λ y. let a = total_append (λ k. bit (k == y)) xs items in omega arith)
      (let i = h.idle port v at in record { put = i.put; lent = i.lent; taken = λ o z. absurd (let k = out.1 in omega arith) }) h at,
  refl,
)

-- ---- the owner gives a pass out, and takes one back
pub gives_out : (port : ℕ) (v : Account) → v.owns ≡ true → Forks IsBalanced port v (account v.owns (v.lent + 1) v.held v.put v.taken) (account false 0 1 [] [])
gives_out port v own items views h at =
    let w = account v.owns (v.lent + 1) v.held v.put v.taken in let z = account false 0 1 [] [] in
    let more : (f : Account → ℕ) → total f (set views port w ++ z ∷ []) + f v ≡ total f views + f w + f z =
    λ f. let s = change f views port v w at in let a = total_append f (set views port w) (z ∷ []) in omega arith in record {
      owned = let s = more (λ u. bit u.owns) in let p = h.owned in omega arith;
      out = let s = more (λ u. u.held) in let t = more (λ u. u.lent) in let p = h.out in omega arith;
      balance = λ y. let s = more (λ u. times y u.put) in let t = more (λ u. times y u.taken) in let p = h.balance y in omega arith;
      once = λ y. let s = more (λ u. times y u.put) in let p = h.once y in omega arith;
      idle = λ p u k. ⊎_elim (λ k. each_set views port w
          (record { put = λ o. not_both v own o; lent = λ o. not_both v own o; taken = λ o. not_both v own o }) h.idle p u k)
          (λ (e : z ≡ u). subst IsIdle e (record { put = λ o. refl; lent = λ o. refl; taken = λ o n. refl }))
          (at_snoc (set views port w) z u p k);
    }

pub comes_back : (port : ℕ) (v : Account) (other : ℕ) (w : Account) → v.owns ≡ true → (w.owns ≡ false) × (w.held ≡ 1)
    → Merges IsBalanced port v other w (account v.owns (v.lent - w.held) v.held v.put (v.taken ++ w.taken)) (account false 0 0 [] [])
comes_back port v other w own out items views h at apart at' =
    let b = account v.owns (v.lent - w.held) v.held v.put (v.taken ++ w.taken) in let z = account false 0 0 [] [] in
    let there : get_elem? views other ≡ some w = ⊎_elim (λ (e : (other ≡ port) × (b ≡ w)). absurd (apart e.0)) (λ e. e.1) (at_set views port other b w at') in
    let i = h.idle other w there in
    let move : (f : Account → ℕ) → total f (set (set views port b) other z) + f v + f w ≡ total f views + f b + f z =
    λ f. let s = change f views port v b at in let t = change f (set views port b) other w z at' in omega arith in
    let enough : 1 ≤ v.lent = let l = one (λ u. u.held) views other w there in let o = h.out in let q = lent_by_owner items views port v h at own in
    let k = out.1 in omega arith in
    record {
      owned = let s = move (λ u. bit u.owns) in let p = h.owned in let o : bit w.owns ≡ 0 = ap bit out.0 in omega arith;
      out = let s = move (λ u. u.held) in let t = move (λ u. u.lent) in let p = h.out in let k = out.1 in let l = i.lent out.0 in omega arith;
      balance = λ y. let s = move (λ u. times y u.put) in let t = move (λ u. times y u.taken) in let p = h.balance y in
          let a = total_append (λ k. bit (k == y)) v.taken w.taken in let q : times y w.put ≡ 0 = ap (times y) (i.put out.0) in omega arith;
      once = λ y. let s = move (λ u. times y u.put) in let p = h.once y in let q : times y w.put ≡ 0 = ap (times y) (i.put out.0) in omega arith;
      idle = each_set (set views port b) other z (record { put = λ o. refl; lent = λ o. refl; taken = λ o n. refl })
          (each_set views port b (record { put = λ o. not_both v own o; lent = λ o. not_both v own o; taken = λ o. not_both v own o }) h.idle);
    }

-- ---- where the owner finds nothing and no pass is out, all that was put was taken by it
no_held : (views : List Account) → total (λ u. u.held) views ≡ 0 → (p : ℕ) (u : Account) → get_elem? views p ≡ some u → u.held ≡ 0
no_held views e p u at = let l = one (λ k. k.held) views p u at in omega arith

pub drained : (port : ℕ) (v : Account) → v.owns ≡ true → Finds IsBalanced port v (v.lent ≡ 0 → (x : ℕ) → times x v.put ≡ times x v.taken)
drained port v own views h at in_all x =
    let l = lent_by_owner [] views port v h at own in let o = h.out in
    let t = of_owner (λ u. times x u.taken) views port v at own h.owned (λ p u k n. ap (times x) ((h.idle p u k).taken n (no_held views
    (omega arith) p u k))) in
    let p = put_by_owner [] views port v x h at own in let b = h.balance x in omega arith
