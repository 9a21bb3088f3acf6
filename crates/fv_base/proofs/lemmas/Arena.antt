-- The trees of an arena: those that are there stay, and the tree at a place is built of the trees before it.
use Rattle.std.proofs.Common.{◌≡◌, ℕ, zero, suc, ◌+◌, ◌<◌, List, [], ◌∷◌, ◌++◌, length, map, get_or, refl, sym, ap, ap₂, ◌∙◌, subst, arith}
use Rattle.std.proofs.lemmas.List.{get_or_append_left, get_or_push, length_push, map_push}
use Rattle.fv_base.specs.Arena.{trees_from, trees, AreBelowFrom, IsOfParts, KeepsTrees}

pub keeps_refl : {T : Type 0} (free : T) (ts : List T) → KeepsTrees free ts ts
keeps_refl free ts = record { longer = omega arith; same = λ i h. refl }

pub keeps_trans : {T : Type 0} (free : T) (a b c : List T) → KeepsTrees free a b → KeepsTrees free b c → KeepsTrees free a c
keeps_trans free a b c p q = let le = p.longer in record { longer = omega (arith, q.longer); same = λ i h. q.same i (omega arith) ∙ p.same i h }

pub keeps_push : {T : Type 0} (free : T) (ts : List T) (t : T) → KeepsTrees free ts (ts ++ t ∷ [])
keeps_push free ts t = record { longer = omega (arith, length_push ts t); same = λ i h. get_or_append_left ts (t ∷ []) free i h }

module _ {N T : Type 0} (build : List T → N → T) where
  -- one node more
  pub trees_from_snoc : (ts : List T) (ns : List N) (n : N) → trees_from build ts (ns ++ n ∷ []) ≡ trees_from build ts ns ++ build
      (trees_from build ts ns) n ∷ []
  trees_from_snoc ts [] n = refl
  trees_from_snoc ts (m ∷ ns) n = trees_from_snoc (ts ++ build ts m ∷ []) ns n

  pub trees_snoc : (ns : List N) (n : N) → trees build (ns ++ n ∷ []) ≡ trees build ns ++ build (trees build ns) n ∷ []
  trees_snoc ns n = trees_from_snoc [] ns n

  pub length_trees_from : (ts : List T) (ns : List N) → length (trees_from build ts ns) ≡ length ts + length ns
  length_trees_from ts [] = omega arith
  length_trees_from ts (n ∷ ns) = omega (arith, length_trees_from (ts ++ build ts n ∷ []) ns, length_push ts (build ts n))

  pub length_trees : (ns : List N) → length (trees build ns) ≡ length ns
  length_trees ns = omega (arith, length_trees_from [] ns)

  -- the trees that are there stay
  pub trees_keep : (free : T) (ts : List T) (ns : List N) → KeepsTrees free ts (trees_from build ts ns)
  trees_keep free ts [] = keeps_refl free ts
  trees_keep free ts (n ∷ ns) = keeps_trans free ts (ts ++ build ts n ∷ []) _ (keeps_push free ts (build ts n)) (trees_keep free (ts ++ build ts n ∷ []) ns)

  -- the tree of the node that was pushed, and the trees that stay
  pub pushed_tree : (free : T) (ns ms : List N) (n : N) (i : ℕ) → i ≡ length ns → ms ≡ ns ++ n ∷ [] → get_or (trees build ms) i free ≡ build (trees build ns) n
  pushed_tree free ns ms n i p e =
      ap₂ (λ l j. get_or (trees build l) j free) e p ∙ ap (λ ts. get_or ts (length ns) free) (trees_snoc ns n)
      ∙ get_or_push (trees build ns) (build (trees build ns) n) free (length ns) (length_trees ns)

  pub push_keeps : (free : T) (ns ms : List N) (n : N) → ms ≡ ns ++ n ∷ [] → KeepsTrees free (trees build ns) (trees build ms)
  push_keeps free ns ms n e = subst (KeepsTrees free (trees build ns)) (sym (ap (trees build) e ∙ trees_snoc ns n))
      (keeps_push free (trees build ns) (build (trees build ns) n))

  below_from_snoc : (Below : ℕ → N → Type 0) (i : ℕ) (ns : List N) (n : N) → AreBelowFrom Below i ns → Below (i + length ns) n
      → AreBelowFrom Below i (ns ++ n ∷ [])
  below_from_snoc Below i [] n h p = let same : i + 0 ≡ i = omega arith in (subst (λ k. Below k n) same p, tt)
  below_from_snoc Below i (m ∷ ns) n h p =
      let same : i + length (m ∷ ns) ≡ suc i + length ns = omega arith in (h.0, below_from_snoc Below (suc i) ns n h.1 (subst (λ k. Below k n) same p))

  pub below_snoc : (Below : ℕ → N → Type 0) (ns : List N) (n : N) → AreBelowFrom Below 0 ns → Below (length ns) n → AreBelowFrom Below 0 (ns ++ n ∷ [])
  below_snoc Below ns n h p = let same : length ns ≡ 0 + length ns = omega arith in below_from_snoc Below 0 ns n h (subst (λ k. Below k n) same p)

  -- the tree at a place is that of its node, built of the trees of the whole arena
  tree_from : (Below : ℕ → N → Type 0) (free : T) (parts : IsOfParts build Below free) (ts : List T) (ns : List N) (i : ℕ) (d : N)
      → AreBelowFrom Below (length ts) ns → i < length ns
      → get_or (trees_from build ts ns) (length ts + i) free ≡ build (trees_from build ts ns) (get_or ns i d)
  tree_from Below free parts ts [] i d h l = absurd (omega arith)
  tree_from Below free parts ts (n ∷ ns) zero d h l =
      let t = build ts n in
      let all = trees_from build (ts ++ t ∷ []) ns in
      let keeps = keeps_trans free ts (ts ++ t ∷ []) all (keeps_push free ts t) (trees_keep free (ts ++ t ∷ []) ns) in
      let plus : length ts + 0 ≡ length ts = omega arith in
      ap (λ k. get_or all k free) plus ∙ (trees_keep free (ts ++ t ∷ []) ns).same (length ts) (omega (arith, length_push ts t))
      ∙ get_or_push ts t free (length ts) refl
      ∙ parts ts all (length ts) n h.0 (λ j m. sym (keeps.same j m))
  tree_from Below free parts ts (n ∷ ns) (suc i) d h l =
      let t = build ts n in
      let more : length (ts ++ t ∷ []) ≡ suc (length ts) = omega (arith, length_push ts t) in
      let place : length ts + suc i ≡ length (ts ++ t ∷ []) + i = omega (arith, more) in
      ap (λ k. get_or (trees_from build (ts ++ t ∷ []) ns) k free) place
      ∙ tree_from Below free parts (ts ++ t ∷ []) ns i d (subst (λ k. AreBelowFrom Below k ns) (sym more) h.1) (omega arith)

  pub tree_at_place : (Below : ℕ → N → Type 0) (free : T) (parts : IsOfParts build Below free) (ns : List N) (i : ℕ) (d : N)
      → AreBelowFrom Below 0 ns → i < length ns → get_or (trees build ns) i free ≡ build (trees build ns) (get_or ns i d)
  tree_at_place Below free parts ns i d h l =
      let place : i ≡ 0 + i = omega arith in ap (λ k. get_or (trees build ns) k free) place ∙ tree_from Below free parts [] ns i d h l

  -- a table over the arena, one node further: what is known of the first nodes' trees, and of the tree of the next
  pub table_grows : {V : Type 0} (f : T → V) (ns ms : List N) (n : N) (vs : List V) (v : V) → ms ≡ ns ++ n ∷ [] → vs ≡ map f (trees build ns)
      → v ≡ f (build (trees build ns) n)
      → vs ++ v ∷ [] ≡ map f (trees build ms)
  table_grows f ns ms n vs v e all last =
      ap₂ (λ l x. l ++ x ∷ []) all last ∙ sym (map_push f (trees build ns) (build (trees build ns) n)) ∙ ap (map f) (sym (ap (trees build) e ∙ trees_snoc ns n))
