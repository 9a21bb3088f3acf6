-- A tree with one value more.
use Rattle.std.proofs.Common.{◌≡◌, ◌⊎◌, inl, inr, ℕ, zero, suc, ◌+◌, ◌-◌, ◌%◌, ◌/◌, ◌<◌, ◌≤◌, arith, List}
use Rattle.std.proofs.Common.{[], ◌∷◌, ◌++◌, length, Some, refl, sym, ap, subst, ◌∙◌}
use Rattle.std.proofs.Common.{append_assoc, append-nil, length-append}
use Rattle.std.specs.Prelude.{slice_get}
use Rattle.std.proofs.lemmas.List.{length_push}
use Rattle.fv_eval_scopes.specs.declared.tries.Fork.{Fork}
use Rattle.fv_eval_scopes.specs.Tries.{child_of, child, found, AreThere, IsGrown, IsWith}
use Rattle.fv_eval_scopes.proofs.lemmas.Grown.{last_place}

-- ---- nodes stay where they are

get_stays : {A : Type 0} (xs more : List A) (i : ℕ) → i < length xs → slice_get (xs ++ more) i ≡ slice_get xs i
get_stays [] more i l = absurd (omega (arith, l))
get_stays (x ∷ xs) more zero l = refl
get_stays (x ∷ xs) more (suc i) l = get_stays xs more i (omega (arith, l))

child_stays : (xs more : List Fork) (node bit : ℕ) → node ≤ length xs → child (xs ++ more) node bit ≡ child xs node bit
child_stays xs more zero bit l = refl
child_stays xs more (suc i) bit l = ap (λ o. child_of o bit) (get_stays xs more i (omega (arith, l)))

found_stays : (xs more : List Fork) (n node k : ℕ) → AreThere xs n node → found (xs ++ more) n node k ≡ found xs n node k
found_stays xs more zero node k h = refl
found_stays xs more (suc n) node k h =
    ap (λ i. found (xs ++ more) n i (k / 2)) (child_stays xs more node (k % 2) h.0)
    ∙ found_stays xs more n (child xs node (k % 2)) (k / 2) (h.1 (k % 2))

there_stay : (xs more : List Fork) (n node : ℕ) → AreThere xs n node → AreThere (xs ++ more) n node
there_stay xs more zero node h = tt
there_stay xs more (suc n) node h = (
  omega (arith, h.0, length-append xs more),
  λ b. subst (AreThere (xs ++ more) n) (sym (child_stays xs more node b h.0)) (there_stay xs more n (child xs node b) (h.1 b)),
)

-- the same of a list that has grown
pub found_on : (old new : List Fork) (n node k : ℕ) → IsGrown old new → AreThere old n node → found new n node k ≡ found old n node k
found_on old new n node k g h = ap (λ fs. found fs n node k) g.1 ∙ found_stays old g.0 n node k h

pub there_on : (old new : List Fork) (n node : ℕ) → IsGrown old new → AreThere old n node → AreThere new n node
there_on old new n node g h = subst (λ fs. AreThere fs n node) (sym g.1) (there_stay old g.0 n node h)

pub grown_none : (old : List Fork) → IsGrown old old
grown_none old = ([], sym (append-nil old))

pub grown_more : (old mid new : List Fork) (f : Fork) → IsGrown old mid → new ≡ mid ++ f ∷ [] → IsGrown old new
grown_more old mid new f g e = (g.0 ++ f ∷ [], e ∙ ap (λ xs. xs ++ f ∷ []) g.1 ∙ append_assoc old g.0 (f ∷ []))

-- ---- node 0

pub nothing_there : (forks : List Fork) (n : ℕ) → AreThere forks n 0
nothing_there forks zero = tt
nothing_there forks (suc n) = (omega arith, λ b. nothing_there forks n)

pub nothing_found : (forks : List Fork) (n k : ℕ) → found forks n 0 k ≡ 0
nothing_found forks zero k = refl
nothing_found forks (suc n) k = nothing_found forks n (k / 2)

-- ---- one level more

pub with_none : (old : List Fork) (levels root number value : ℕ) → levels ≡ 0 → IsWith old old levels root number value value
with_none old levels root number value e =
    subst (λ n. IsWith old old n root number value value) (sym e) (record { there = tt; leads = λ k. inl refl })

pub either_side : (z o b : ℕ) → (child_of (Some (record { zero = z; one = o })) b ≡ z) ⊎ (child_of (Some (record { zero = z; one = o })) b ≡ o)
either_side z o zero = inl refl
either_side z o (suc b) = inr refl

-- a node over a tree with one value more, and over what stays
pub record Joins (old mid new : List Fork) (levels root number value below with_it : ℕ) (f : Fork) : Type 0 where
  pub grown : IsGrown old mid
  pub is : AreThere old levels (child old root (number % 2)) → IsWith old mid levels (child old root (number % 2)) (number / 2) value below
  pub pushed : new ≡ mid ++ f ∷ []
  pub place : with_it ≡ length mid + 1
  pub there : child_of (Some f) (number % 2) ≡ below
  pub other : child_of (Some f) (1 - number % 2) ≡ child old root (1 - number % 2)
  pub either : (b : ℕ) → (child_of (Some f) b ≡ below) ⊎ (child_of (Some f) b ≡ child old root (1 - number % 2))

-- two bits are the same, or each is the other one
two_bits : (m n : ℕ) → m < 2 → n < 2 → (m ≡ n) ⊎ (m ≡ 1 - n)
two_bits zero zero h g = inl refl
two_bits zero (suc n) h g = inr (omega (arith, g))
two_bits (suc m) zero h g = inr (omega (arith, h))
two_bits (suc m) (suc n) h g = inl (omega (arith, h, g))

pub with_more : {old mid new : List Fork} {levels root number value below with_it : ℕ} {f : Fork}
    → Joins old mid new levels root number value below with_it f → AreThere old (suc levels) root
    → IsWith old new (suc levels) root number value with_it
with_more {old} {mid} {new} {levels} {root} {number} {value} {below} {with_it} {f} j h = record {
  there = (omega (arith, j.place, ap length j.pushed, length_push mid f), λ b. subst (AreThere new levels) (sym (here b)) (side_there b (j.either b)));
  leads = λ k. leads k (two_bits (k % 2) (number % 2) (omega arith) (omega arith));
}
  where
    bit : ℕ
    bit = number % 2

    kept : ℕ
    kept = child old root (1 - bit)

    lower : IsWith old mid levels (child old root bit) (number / 2) value below
    lower = j.is (h.1 bit)

    last : IsGrown mid new
    last = (f ∷ [], j.pushed)

    all : IsGrown old new
    all = grown_more old mid new f j.grown j.pushed

    here : (b : ℕ) → child new with_it b ≡ child_of (Some f) b
    here b =
        let place : with_it ≡ suc (length mid) = omega (arith, j.place) in
        ap (λ n. child new n b) place ∙ ap (λ xs. child_of (slice_get xs (length mid)) b) j.pushed ∙ ap (λ o. child_of o b) (last_place mid f)

    side_there : (b : ℕ) → ((child_of (Some f) b ≡ below) ⊎ (child_of (Some f) b ≡ kept)) → AreThere new levels (child_of (Some f) b)
    side_there b (inl e) = subst (AreThere new levels) (sym e) (there_on mid new levels below last lower.there)
    side_there b (inr e) = subst (AreThere new levels) (sym e) (there_on old new levels kept all (h.1 (1 - bit)))

    Leads : ℕ → Type 0
    Leads k = (found new (suc levels) with_it k ≡ value) ⊎ ((k ≡ number → ⊥) × (found new (suc levels) with_it k ≡ found old (suc levels) root k))

    below_leads : (k : ℕ) → k % 2 ≡ bit
        → ((found mid levels below (k / 2) ≡ value)
        ⊎ ((k / 2 ≡ number / 2 → ⊥) × (found mid levels below (k / 2) ≡ found old levels (child old root bit) (k / 2))))
        → Leads k
    below_leads k e (inl v) =
        inl (ap (λ i. found new levels i (k / 2)) (here (k % 2) ∙ ap (child_of (Some f)) e ∙ j.there)
        ∙ found_on mid new levels below (k / 2) last lower.there ∙ v)
    below_leads k e (inr v) = inr (
      λ q. v.0 (ap (λ n. n / 2) q),
      ap (λ i. found new levels i (k / 2)) (here (k % 2) ∙ ap (child_of (Some f)) e ∙ j.there)
          ∙ found_on mid new levels below (k / 2) last lower.there ∙ v.1
          ∙ ap (λ b. found old levels (child old root b) (k / 2)) (sym e),
    )

    leads : (k : ℕ) → ((k % 2 ≡ bit) ⊎ (k % 2 ≡ 1 - bit)) → Leads k
    leads k (inl e) = below_leads k e (lower.leads (k / 2))
    leads k (inr e) = inr (
      λ q. let same : k % 2 ≡ number % 2 = ap (λ n. n % 2) q in absurd (omega (arith, e, same)),
      ap (λ i. found new levels i (k / 2)) (here (k % 2) ∙ ap (child_of (Some f)) e ∙ j.other)
          ∙ found_on old new levels kept (k / 2) all (h.1 (1 - bit))
          ∙ ap (λ b. found old levels (child old root b) (k / 2)) (sym e),
    )
