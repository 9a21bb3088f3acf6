-- The parameters of abstractions and definitions by name.
use Rattle.std.proofs.Common.{◌≡◌, ◌⊎◌, inl, inr, ℕ, zero, suc, ◌+◌, ◌<◌, ◌≤◌, arith, List, [], ◌∷◌, ◌++◌, length, Option, Some, None}
use Rattle.std.proofs.Common.{refl, sym, ap, subst, ◌∙◌, append_assoc}
use Rattle.std.specs.Prelude.{slice_get}
use Rattle.std.proofs.lemmas.Bool.{cases_lt}
use Rattle.std.proofs.lemmas.List.{length_push}
use Rattle.std.proofs.lemmas.Option.{none-some, same_Some, slice_get_within}
use Rattle.fv_parse.specs.Token.{Lexed, texts_of}
use Rattle.fv_parse.specs.headline.Trees.{text_of}
use Rattle.fv_parse.specs.Trees.{Parsed, first_named, first_with}
use Rattle.fv_rules.specs.headline.Values.{Name}
use Rattle.fv_eval_scopes.specs.declared.parameter_tries.TheConstants.{NAME_BITS}
use Rattle.fv_eval_scopes.specs.declared.tries.Fork.{Fork}
use Rattle.fv_eval_scopes.specs.Parameters.{ShowsName}
use Rattle.fv_eval_scopes.specs.ParameterTries.{AreTries, HasName, IsEnd, IsTrie, IsTrieOf, names_in}
use Rattle.fv_eval_scopes.specs.Tries.{found, IsGrown, IsWith}
use Rattle.fv_eval_scopes.proofs.lemmas.Forks.{found_on, there_on, nothing_there}

-- a name has one number
one_number : (l : Lexed) (n m : ℕ) (x : Name) → (text_of l n ≡ x) × (first_named l n ≡ n) → (text_of l m ≡ x) × (first_named l m ≡ m) → n ≡ m
one_number l n m x a b = sym a.1 ∙ ap (first_with (texts_of l.tokens)) (a.0 ∙ sym b.0) ∙ b.1

pub grown_on : (old mid new : List Fork) → IsGrown old mid → IsGrown mid new → IsGrown old new
grown_on old mid new g h = (g.0 ++ h.0, h.1 ∙ ap (λ xs. xs ++ h.0) g.1 ∙ append_assoc old g.0 h.0)

-- ---- the trie of a node

pub trie_begins : (p : Parsed) (forks : List Fork) (node : ℕ) → IsTrie p forks node 0 0
trie_begins p forks node = record { there = nothing_there forks NAME_BITS; ends = λ name i l h. absurd (omega (arith, l)) }

-- forks that were added change no trie
pub trie_on : (p : Parsed) (old new : List Fork) (node count root : ℕ) → IsGrown old new → IsTrie p old node count root → IsTrie p new node count root
trie_on p old new node count root g h = record {
  there = there_on old new NAME_BITS root g h.there;
  ends = λ name i l is. subst (λ n. i < n) (sym (found_on old new NAME_BITS root name g h.there)) (h.ends name i l is);
}

-- a place has no name
pub trie_passes : (p : Parsed) (forks : List Fork) (node i end root : ℕ) → end ≡ i + 1
    → ((x : Name) → slice_get (names_in p node) i ≡ Some x → ShowsName p.tokens None (Some x)) → IsTrie p forks node i root
    → IsTrie p forks node end root
trie_passes p forks node i end root e shows h = record { there = h.there; ends = λ name j l is. go name j l is (cases_lt j i) }
  where
    go : (name j : ℕ) → j < end → HasName p node j name → (j < i) ⊎ (i ≤ j) → j < found forks NAME_BITS root name
    go name j l is (inl m) = h.ends name j m is
    go name j l is (inr m) =
        let here : j ≡ i = omega (arith, l, e, m) in
        absurd (shows is.0 (subst (λ k. slice_get (names_in p node) k ≡ Some is.0) here is.1))

-- one name more
pub trie_more : (p : Parsed) (old new : List Fork) (node i end n root with_it : ℕ) → end ≡ i + 1
    → ((x : Name) → slice_get (names_in p node) i ≡ Some x → ShowsName p.tokens (Some n) (Some x)) → IsTrie p old node i root
    → IsWith old new NAME_BITS root n end with_it → IsTrie p new node end with_it
trie_more p old new node i end n root with_it e shows h is = record { there = is.there; ends = λ name j l has. go name j l has (is.leads name) }
  where
    earlier : (name j : ℕ) → j < end → HasName p node j name → (name ≡ n → ⊥) → (j < i) ⊎ (i ≤ j) → j < i
    earlier name j l has apart (inl m) = m
    earlier name j l has apart (inr m) =
        let here : j ≡ i = omega (arith, l, e, m) in
        let shown = shows has.0 (subst (λ k. slice_get (names_in p node) k ≡ Some has.0) here has.1) in
        absurd (apart (one_number p.tokens name n has.0 (has.3, has.2) shown))

    go : (name j : ℕ) → j < end → HasName p node j name
        → (found new NAME_BITS with_it name ≡ end) ⊎ ((name ≡ n → ⊥) × (found new NAME_BITS with_it name ≡ found old NAME_BITS root name))
        → j < found new NAME_BITS with_it name
    go name j l has (inl f) = subst (λ k. j < k) (sym f) l
    go name j l has (inr f) = subst (λ k. j < k) (sym f.1) (h.ends name j (earlier name j l has f.0 (cases_lt j i)) has)

-- all of its parameters were added
pub trie_ends : (p : Parsed) (forks : List Fork) (node count root : ℕ) → (0 < length (names_in p node) → count ≡ length (names_in p node))
    → IsTrie p forks node count root → IsTrieOf p forks node root
trie_ends p forks node count root many h = record {
  there = h.there;
  ends = λ name i l has. let c = many (omega (arith, l)) in h.ends name i (omega (arith, l, c)) has;
}

-- ---- the tries of all nodes

-- what stands in a list with one item more
pushed_at : {A : Type 0} (xs : List A) (x y : A) (i : ℕ) → slice_get (xs ++ x ∷ []) i ≡ Some y → (slice_get xs i ≡ Some y) ⊎ ((i ≡ length xs) × (x ≡ y))
pushed_at [] x y zero e = inr (refl, same_Some x y e)
pushed_at [] x y (suc i) e = absurd (none-some y e)
pushed_at (z ∷ zs) x y zero e = inl e
pushed_at (z ∷ zs) x y (suc i) e = go (pushed_at zs x y i e)
  where
    go : (slice_get zs i ≡ Some y) ⊎ ((i ≡ length zs) × (x ≡ y)) → (slice_get (z ∷ zs) (suc i) ≡ Some y) ⊎ ((suc i ≡ length (z ∷ zs)) × (x ≡ y))
    go (inl h) = inl h
    go (inr h) = inr (ap suc h.0, h.1)

-- the first nodes have their tries
pub record HaveTries (p : Parsed) (forks : List Fork) (roots : List (Option ℕ)) (count : ℕ) : Type 0 where
  pub many : length roots ≡ count
  pub are : AreTries p forks roots

pub tries_more : (p : Parsed) (old new : List Fork) (roots more : List (Option ℕ)) (count : ℕ) (root : Option ℕ) → IsGrown old new
    → more ≡ roots ++ root ∷ [] → ((r : ℕ) → root ≡ Some r → IsTrieOf p new count r) → HaveTries p old roots count → HaveTries p new more (count + 1)
tries_more p old new roots more count root g pushed here h = record {
  many = omega (arith, ap length pushed, h.many, length_push roots root);
  are = λ i r e. go i r (pushed_at roots root (Some r) i (ap (λ xs. slice_get xs i) (sym pushed) ∙ e));
}
  where
    go : (i r : ℕ) → (slice_get roots i ≡ Some (Some r)) ⊎ ((i ≡ length roots) × (root ≡ Some r)) → IsTrieOf p new i r
    go i r (inl e) = trie_on p old new i (length (names_in p i)) r g (h.are i r e)
    go i r (inr e) = subst (λ k. IsTrieOf p new k r) (sym (e.0 ∙ h.many)) (here r e.1)

-- where the trie of a node leads
pub trie_leads : (p : Parsed) (forks : List Fork) (roots : List (Option ℕ)) (node root name end : ℕ) → AreTries p forks roots
    → slice_get roots node ≡ Some (Some root) → end ≡ found forks NAME_BITS root name → IsEnd p node name end
trie_leads p forks roots node root name end h e is i has =
    let l = slice_get_within (names_in p node) i has.0 has.1 in
    subst (λ k. i < k) (sym is) ((h node root e).ends name i l has)
