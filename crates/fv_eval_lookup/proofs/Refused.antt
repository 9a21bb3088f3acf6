-- A rule that wants another key at a position than an argument has there does not match.
use Rattle.std.proofs.Common.{◌≡◌, ℕ, zero, suc, ℤ, pos, neg_ℤ, Bool, true, false, cond, List, [], ◌∷◌, slice_get, Option, Some, None}
use Rattle.std.proofs.Common.{refl, sym, ap, ap₂, ◌∙◌}
use Rattle.std.specs.Ordering.{int_eq}
use Rattle.std.proofs.lemmas.Bool.{eqb-false, false≢true}
use Rattle.std.proofs.lemmas.Bool.Decides.{Decides-int_eq}
use Rattle.std.proofs.lemmas.Option.{none-some, same_Some}
use Rattle.fv_parse.specs.Token.{Lexed}
use Rattle.fv_diagram.specs.Words.{wrap}
use Rattle.fv_diagram.specs.headline.Diagram.{Diagram, Par, Seq, Split, Merge, Rec}
use Rattle.fv_rules.specs.Numbers.{number_of}
use Rattle.fv_parse_grammar.specs.headline.Tree.{Tree}
use Rattle.fv_parse_grammar.specs.headline.Tree as tree
use Rattle.fv_parse_grammar.specs.declared.form.Operator.{Operator}
use Rattle.fv_parse_grammar.specs.declared.form.Operator.TheVariants as operators
use Rattle.fv_parse.specs.Arena.{forest, tree_of}
use Rattle.fv_parse.specs.TreeId.{TreeId}
use Rattle.fv_parse.specs.TreeNode.{TreeNode}
use Rattle.fv_parse.specs.TreeNode.TheVariants as nodes
use Rattle.fv_rules.specs.headline.Values.{Rule, Value, Flat}
use Rattle.fv_rules.specs.headline.Matching.{Bindings, and_then, is_number, parts_without, matched, all_matched}
use Rattle.fv_eval_lookup.specs.declared.paths.Side.{Side}
use Rattle.fv_eval_lookup.specs.declared.paths.Side.TheVariants.{Left, Right}
use Rattle.fv_eval_lookup.specs.declared.paths.Path.{Path}
use Rattle.fv_eval_lookup.specs.Positions.{both_without, diagram_key, diagram_part, key_at, key_in, key_with, number_key, operator_key}
use Rattle.fv_eval_lookup.specs.Positions.{pattern_part, permits, side_of, want_at, wanted}

-- ---- by its key

other : (b : Bool) → (b ≡ true → ⊥) → b ≡ false
other true h = absurd (h refl)
other false h = refl

not_the_number : (k : ℤ) (o : Option ℤ) (d : Diagram) → (key_with o d ≡ number_key k → ⊥) → is_number k o ≡ false
not_the_number k None d h = refl
not_the_number k (Some n) d h = other (int_eq n k) (λ e. h (ap number_key ((Decides-int_eq n k).0 e)))

no_parts : (o : Operator) (n : Option ℤ) (d : Diagram) → (key_with n d ≡ operator_key o → ⊥) → parts_without n o d ≡ None
no_parts o (Some n) d h = refl
no_parts operators.Recursion None (Rec x y) h = absurd (h refl)
no_parts operators.Parallel None (Par x y) h = absurd (h refl)
no_parts operators.Sequence None (Seq x y) h = absurd (h refl)
no_parts operators.Split None (Split x y) h = absurd (h refl)
no_parts operators.Merge None (Merge x y) h = absurd (h refl)
no_parts o None d h = refl

key_refuses : (l : Lexed) (x : Tree) (k : ℕ) (d : Diagram) → wanted x ≡ Some k → (diagram_key d ≡ k → ⊥) → (bs : Bindings)
    → matched l x (Flat d) bs ≡ None
key_refuses l (tree.Number s n) k d e h bs =
    ap (λ b. cond b (Some bs) None) (not_the_number (wrap (pos n)) (number_of d) d (λ q. h (q ∙ same_Some _ _ e)))
key_refuses l (tree.Negative s n) k d e h bs =
    ap (λ b. cond b (Some bs) None) (not_the_number (wrap (neg_ℤ (pos n))) (number_of d) d (λ q. h (q ∙ same_Some _ _ e)))
key_refuses l (tree.Binary s o p q) k d e h bs =
    ap (λ ps. and_then ps (λ xy. and_then (matched l p (Flat xy.0) bs) (λ cs. matched l q (Flat xy.1) cs)))
    (no_parts o (number_of d) d (λ i. h (i ∙ same_Some _ _ e)))
key_refuses l x k d e h bs = absurd (none-some k e)

-- ---- by a part

parts_are : (o : Operator) (n : Option ℤ) (d : Diagram) (xy : Diagram × Diagram) → parts_without n o d ≡ Some xy → both_without n d ≡ Some xy
parts_are o (Some n) d xy e = absurd (none-some xy e)
parts_are operators.Recursion None (Rec x y) xy e = e
parts_are operators.Parallel None (Par x y) xy e = e
parts_are operators.Sequence None (Seq x y) xy e = e
parts_are operators.Split None (Split x y) xy e = e
parts_are operators.Merge None (Merge x y) xy e = e
parts_are o None d xy e = absurd (none-some xy e)

then_none : {A B : Type 0} (o : Option A) (f : A → Option B) → ((x : A) → f x ≡ None) → and_then o f ≡ None
then_none None f h = refl
then_none (Some x) f h = h x

left_refuses : (l : Lexed) (n : ℕ) (o : Operator) (p q : Tree) (ss : List Side) (d e : Diagram) → diagram_part (Left ∷ ss) d ≡ Some e
    → ((a : Diagram) → diagram_part ss a ≡ Some e → (bs : Bindings) → matched l p (Flat a) bs ≡ None)
    → (bs : Bindings) → matched l (tree.Binary n o p q) (Flat d) bs ≡ None
left_refuses l n o p q ss d e there h bs = go (parts_without (number_of d) o d) refl
  where
    go : (ps : Option (Diagram × Diagram)) → parts_without (number_of d) o d ≡ ps
        → and_then (parts_without (number_of d) o d) (λ xy. and_then (matched l p (Flat xy.0) bs) (λ cs. matched l q (Flat xy.1) cs)) ≡ None
    go None is = ap (λ ps. and_then ps (λ xy. and_then (matched l p (Flat xy.0) bs) (λ cs. matched l q (Flat xy.1) cs))) is
    go (Some xy) is =
        let part : diagram_part ss xy.0 ≡ Some e =
        sym (ap (λ ps. and_then ps (λ ab. diagram_part ss ab.0)) (parts_are o (number_of d) d xy is)) ∙ there in
        ap (λ ps. and_then ps (λ ab. and_then (matched l p (Flat ab.0) bs) (λ cs. matched l q (Flat ab.1) cs))) is
        ∙ ap (λ r. and_then r (λ cs. matched l q (Flat xy.1) cs)) (h xy.0 part bs)

right_refuses : (l : Lexed) (n : ℕ) (o : Operator) (p q : Tree) (ss : List Side) (d e : Diagram) → diagram_part (Right ∷ ss) d ≡ Some e
    → ((a : Diagram) → diagram_part ss a ≡ Some e → (bs : Bindings) → matched l q (Flat a) bs ≡ None)
    → (bs : Bindings) → matched l (tree.Binary n o p q) (Flat d) bs ≡ None
right_refuses l n o p q ss d e there h bs = go (parts_without (number_of d) o d) refl
  where
    go : (ps : Option (Diagram × Diagram)) → parts_without (number_of d) o d ≡ ps
        → and_then (parts_without (number_of d) o d) (λ xy. and_then (matched l p (Flat xy.0) bs) (λ cs. matched l q (Flat xy.1) cs)) ≡ None
    go None is = ap (λ ps. and_then ps (λ xy. and_then (matched l p (Flat xy.0) bs) (λ cs. matched l q (Flat xy.1) cs))) is
    go (Some xy) is =
        let part : diagram_part ss xy.1 ≡ Some e =
        sym (ap (λ ps. and_then ps (λ ab. diagram_part ss ab.1)) (parts_are o (number_of d) d xy is)) ∙ there in
        ap (λ ps. and_then ps (λ ab. and_then (matched l p (Flat ab.0) bs) (λ cs. matched l q (Flat ab.1) cs))) is
        ∙ then_none (matched l p (Flat xy.0) bs) (λ cs. matched l q (Flat xy.1) cs) (λ cs. h xy.1 part cs)

part_refuses : (l : Lexed) (ss : List Side) (x y : Tree) (d e : Diagram) → pattern_part ss x ≡ Some y → diagram_part ss d ≡ Some e
    → ((bs : Bindings) → matched l y (Flat e) bs ≡ None) → (bs : Bindings) → matched l x (Flat d) bs ≡ None
part_refuses l [] x y d e p q h bs = ap₂ (λ u v. matched l u (Flat v) bs) (same_Some x y p) (same_Some d e q) ∙ h bs
part_refuses l (Left ∷ ss) (tree.Binary n o u v) y d e p q h bs =
    left_refuses l n o u v ss d e q (λ a r. part_refuses l ss u y a e p r h) bs
part_refuses l (Right ∷ ss) (tree.Binary n o u v) y d e p q h bs =
    right_refuses l n o u v ss d e q (λ a r. part_refuses l ss v y a e p r h) bs
part_refuses l (s ∷ ss) x y d e p q h bs = absurd (none-some y p)

-- ---- a rule

one_refuses : (l : Lexed) (ts : List Tree) (vs : List Value) (i : ℕ) (t : Tree) (v : Value) → slice_get ts i ≡ Some t → slice_get vs i ≡ Some v
    → ((bs : Bindings) → matched l t v bs ≡ None) → (bs : Bindings) → all_matched l ts vs bs ≡ None
one_refuses l [] vs i t v e f h bs = absurd (none-some t e)
one_refuses l (x ∷ xs) [] i t v e f h bs = refl
one_refuses l (x ∷ xs) (u ∷ us) zero t v e f h bs =
    ap (λ o. and_then o (λ cs. all_matched l xs us cs)) (ap₂ (λ y w. matched l y w bs) (same_Some x t e) (same_Some u v f) ∙ h bs)
one_refuses l (x ∷ xs) (u ∷ us) (suc i) t v e f h bs =
    then_none (matched l x u bs) (λ cs. all_matched l xs us cs) (λ cs. one_refuses l xs us i t v e f h cs)

then_some : {A B : Type 0} (o : Option A) (f : A → Option B) (b : B) → and_then o f ≡ Some b → (a : A) × (o ≡ Some a) × (f a ≡ Some b)
then_some None f b e = absurd (none-some b e)
then_some (Some a) f b e = (a, refl, e)

key_is : (ss : List Side) (o : Option Value) (key : ℕ) → key_in ss o ≡ Some key
    → (d : Diagram) × (e : Diagram) × (o ≡ Some (Flat d)) × (diagram_part ss d ≡ Some e) × (diagram_key e ≡ key)
key_is ss (Some (Flat d)) key h =
    let part = then_some (diagram_part ss d) (λ e. Some (diagram_key e)) key h in (d, part.0, refl, part.1, same_Some _ _ part.2)
key_is ss (Some v) key h = absurd (none-some key h)
key_is ss None key h = absurd (none-some key h)

wants_another : (l : Lexed) (x : Path) (r : Rule) (vs : List Value) (k key : ℕ) → want_at x r ≡ Some k → key_at x vs ≡ Some key → (key ≡ k → ⊥)
    → all_matched l r.patterns vs [] ≡ None
wants_another l x r vs k key want is apart =
    let pattern = then_some (slice_get r.patterns x.argument) (λ t. and_then (pattern_part x.sides.items t) wanted) k want in
    let part = then_some (pattern_part x.sides.items pattern.0) wanted k pattern.2 in
    let at = key_is x.sides.items (slice_get vs x.argument) key is in
    one_refuses l r.patterns vs x.argument pattern.0 (Flat at.0) pattern.1 at.2
    (part_refuses l x.sides.items pattern.0 part.0 at.0 at.1 part.1 at.3
    (key_refuses l part.0 k at.1 part.2 (λ e. apart (sym at.4 ∙ e)))) []

-- a key that is not enough
pub not_enough : (l : Lexed) (x : Path) (r : Rule) (vs : List Value) (key : ℕ) → permits key (want_at x r) ≡ false → key_at x vs ≡ Some key
    → all_matched l r.patterns vs [] ≡ None
not_enough l x r vs key h is = go (want_at x r) refl h
  where
    go : (o : Option ℕ) → want_at x r ≡ o → permits key o ≡ false → all_matched l r.patterns vs [] ≡ None
    go None e f = absurd (false≢true (sym f))
    go (Some k) e f = wants_another l x r vs k key e is (λ q. eqb-false k key f (sym q))

-- ---- what a node is

-- a pattern that wants nothing
pub no_want : (ts : List Tree) (node : TreeNode) (start : ℕ) → ((n : ℕ) → node ≡ nodes.Number n → ⊥) → ((n : ℕ) → node ≡ nodes.Negative n → ⊥)
    → ((o : Operator) (p q : TreeId) → node ≡ nodes.Binary o p q → ⊥) → wanted (tree_of ts node start) ≡ None
no_want ts (nodes.Number n) start c d e = absurd (c n refl)
no_want ts (nodes.Negative n) start c d e = absurd (d n refl)
no_want ts (nodes.Binary o p q) start c d e = absurd (e o p q refl)
no_want ts (nodes.List ids) start c d e = none ids.items
  where
    none : (is : List TreeId) → wanted (forest ts is tree.End) ≡ None
    none [] = refl
    none (i ∷ is) = refl
no_want ts node start c d e = refl

-- a pattern without parts
pub no_part : (ts : List Tree) (node : TreeNode) (start : ℕ) (s : Side) (ss : List Side) → ((o : Operator) (p q : TreeId) → node ≡ nodes.Binary o p q → ⊥)
    → pattern_part (s ∷ ss) (tree_of ts node start) ≡ None
no_part ts (nodes.Binary o p q) start s ss e = absurd (e o p q refl)
no_part ts (nodes.List ids) start s ss e = none ids.items
  where
    none : (is : List TreeId) → pattern_part (s ∷ ss) (forest ts is tree.End) ≡ None
    none [] = refl
    none (i ∷ is) = refl
no_part ts node start s ss e = refl

-- the part of a composition on one side
pub side_part : (ss more : List Side) (s : Side) (n : ℕ) (o : Operator) (x p q y : Tree) → ss ≡ s ∷ more → x ≡ tree.Binary n o p q → side_of s p q ≡ y
    → pattern_part more y ≡ pattern_part ss x
side_part ss more s n o x p q y e is at = ap (pattern_part more) (sym at) ∙ sym (ap₂ pattern_part e is)

-- no part of a diagram that has a number, or is no composition, is told by a side
pub no_diagram_part : (ss more : List Side) (s : Side) (d : Diagram) → ss ≡ s ∷ more → both_without (number_of d) d ≡ None → diagram_part ss d ≡ None
no_diagram_part ss more s d e none =
    ap (λ ts. diagram_part ts d) e ∙ ap (λ ps. and_then ps (λ xy. diagram_part more (side_of s xy.0 xy.1))) none

pub next_diagram_part : (ss more : List Side) (s : Side) (d : Diagram) (xy : Diagram × Diagram) → ss ≡ s ∷ more → both_without (number_of d) d ≡ Some xy
    → diagram_part more (side_of s xy.0 xy.1) ≡ diagram_part ss d
next_diagram_part ss more s d xy e some =
    sym (ap (λ ts. diagram_part ts d) e ∙ ap (λ ps. and_then ps (λ ab. diagram_part more (side_of s ab.0 ab.1))) some)
