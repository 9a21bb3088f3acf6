-- The definitions of a list, by name.
use Rattle.std.proofs.Common.{◌≡◌, ◌⊎◌, ℕ, ◌+◌, ◌<◌, ◌≤◌, arith, Bool, true, false, cond, List, [], ◌∷◌, ◌++◌, length, map, take}
use Rattle.std.proofs.Common.{get_or, Option, Some, None, inl, inr, refl, sym, ap, ap₂, subst, ◌∙◌, All}
use Rattle.std.specs.Prelude.{filter, nat_eq}
use Rattle.std.specs.List.Sorted.{IsPermutation}
use Rattle.std.specs.Str.{bytes_eq}
use Rattle.std.specs.List.{cons_option}
use Rattle.std.proofs.lemmas.Bool.{eq-eqb, eqb-true, cases_lt}
use Rattle.std.proofs.lemmas.List.Elements.{All-nil, All-cons, All-tail, filter-append, filter_map-append, All-filter}
use Rattle.std.proofs.lemmas.List.{take_more, get_or_push, get_or_append_left, length_push}
use Rattle.std.proofs.lemmas.List.Sorted.{All-permutation}
use Rattle.std.proofs.lemmas.Slice.Eq.{bytes_eq-Decides}
use Rattle.fv_parse.specs.Token.{Lexed}
use Rattle.fv_parse_grammar.specs.headline.Tree.{Tree, Constant, Function, End, items}
use Rattle.fv_parse.specs.headline.Trees.{text_of}
use Rattle.fv_parse.specs.Trees.{Parsed, size_of, tree_in, first_named}
use Rattle.fv_parse.specs.Laws.{SameNumbersSameBytes}
use Rattle.fv_parse.specs.Arena.{tree_of, forest}
use Rattle.fv_parse.specs.TreeId.{TreeId}
use Rattle.fv_parse.specs.TreeNode.{TreeNode}
use Rattle.fv_parse.specs.TreeNode.TheVariants as nodes
use Rattle.fv_eval_lookup.specs.declared.by_name.Defined.{Defined}
use Rattle.fv_rules.specs.headline.Values.{is_of}
use Rattle.fv_eval_lookup.proofs.RuleNodes.{IsNoFunction, AreOfName}
use Rattle.fv_eval_lookup.specs.ByName.{is_called, defined_name, called, defined_in, AreDefined, AreIndexed}
use Rattle.fv_eval_lookup.specs.Around.{HasNone}

-- ---- a tree is of a name exactly where its canonical number is that

same_bool : (a b : Bool) → (a ≡ true → b ≡ true) → (b ≡ true → a ≡ true) → a ≡ b
same_bool true b f g = sym (f refl)
same_bool false true f g = g refl
same_bool false false f g = refl

same_test : SameNumbersSameBytes → (l : Lexed) (a n : ℕ) → bytes_eq (text_of l a) (text_of l n) ≡ nat_eq (first_named l a) (first_named l n)
same_test s l a n =
    same_bool (bytes_eq (text_of l a) (text_of l n)) (nat_eq (first_named l a) (first_named l n))
    (λ e. eq-eqb (first_named l a) (first_named l n) ((s l a n).1 ((bytes_eq-Decides (text_of l a) (text_of l n)).0 e)))
    (λ e. (bytes_eq-Decides (text_of l a) (text_of l n)).1 ((s l a n).0 (eqb-true (first_named l a) (first_named l n) e)))

-- a number that is there, and is this one
abbrev is_this : Option ℕ → ℕ → Bool
is_this None m = false
is_this (Some k) m = nat_eq k m

is_of_same : SameNumbersSameBytes → (l : Lexed) (n : ℕ) (t : Tree) → is_of l (text_of l n) t ≡ is_this (defined_name l t) (first_named l n)
is_of_same s l n (Constant b a x) = same_test s l a n
is_of_same s l n (Function b a ps x) = same_test s l a n
is_of_same s l n t = refl

-- ---- the definitions among nodes

-- the trees of the definitions of a name
abbrev trees_of : Parsed → ℕ → List Defined → List Tree
trees_of p n ds = map (λ (d : Defined). tree_in p d.node) (filter (is_called (first_named p.tokens n)) ds)

pub found_among : SameNumbersSameBytes → (p : Parsed) (n : ℕ) (ids : List TreeId)
    → trees_of p n (defined_in p ids) ≡ filter (is_of p.tokens (text_of p.tokens n)) (map (tree_in p) ids)
found_among s p n [] = refl
found_among s p n (id ∷ ids) =
    let t = tree_in p id in
    go (defined_in p ids) (filter (is_of p.tokens (text_of p.tokens n)) (map (tree_in p) ids)) (found_among s p n ids)
    (defined_name p.tokens t) (is_of p.tokens (text_of p.tokens n) t) (is_of_same s p.tokens n t)
  where
    is_here : Defined → Bool
    is_here = is_called (first_named p.tokens n)

    here : (more : List Defined) (ts : List Tree) → trees_of p n more ≡ ts → (d : Defined) (c b : Bool) → tree_in p d.node ≡ tree_in p id → b ≡ c
        → map (λ (e : Defined). tree_in p e.node) (cond c (d ∷ filter is_here more) (filter is_here more)) ≡ cond b (tree_in p id ∷ ts) ts
    here more ts h d true true e q = ap₂ (λ x xs. x ∷ xs) e h
    here more ts h d false false e q = h
    here more ts h d true false e q = cc
    here more ts h d false true e q = cc

    go : (more : List Defined) (ts : List Tree) → trees_of p n more ≡ ts → (o : Option ℕ) (b : Bool) → b ≡ is_this o (first_named p.tokens n)
        → trees_of p n (cons_option (called id o) more) ≡ cond b (tree_in p id ∷ ts) ts
    go more ts h None b e = h ∙ ap (λ c. cond c (tree_in p id ∷ ts) ts) (sym e)
    go more ts h (Some k) b e = here more ts h (record { name = k; node = id }) (nat_eq k (first_named p.tokens n)) b refl e

-- the nodes of definitions are there
abbrev pub AreThere : Parsed → List Defined → Type 0
AreThere p ds = All (λ (d : Defined). d.node < size_of p) ds

pub there_among : (p : Parsed) (i : ℕ) (ids : List TreeId) → i ≤ size_of p → All (λ (id : TreeId). id < i) ids → AreThere p (defined_in p ids)
there_among p i [] h a = All-nil (λ (d : Defined). d.node < size_of p)
there_among p i (id ∷ ids) h a =
    let q = a 0 id (omega arith) in
    let others = there_among p i ids h (All-tail (λ (x : TreeId). x < i) id ids a) in
    go (defined_in p ids) (omega (arith, q, h)) others (defined_name p.tokens (tree_in p id))
  where
    go : (more : List Defined) → id < size_of p → AreThere p more → (o : Option ℕ) → AreThere p (cons_option (called id o) more)
    go more l h None = h
    go more l h (Some k) = All-cons (λ (d : Defined). d.node < size_of p) (record { name = k; node = id }) more l h

-- one node more
pub defined_more : (p : Parsed) (ids : List TreeId) (i : ℕ) (id : TreeId) (ds es : List Defined) → i < length ids → id ≡ get_or ids i id
    → ds ≡ defined_in p (take i ids) → es ≡ ds ++ cons_option (called id (defined_name p.tokens (tree_in p id))) [] → es ≡ defined_in p (take (i + 1) ids)
defined_more p ids i id ds es l here so grown =
    grown ∙ ap (λ xs. xs ++ cons_option (called id (defined_name p.tokens (tree_in p id))) []) so
    ∙ sym (filter_map-append (λ x. called x (defined_name p.tokens (tree_in p x))) (take i ids) (id ∷ []))
    ∙ ap (defined_in p) (ap (λ x. take i ids ++ x ∷ []) here ∙ sym (take_more ids i id l))

-- the definitions of a list, before they are sorted
pub are_defined : SameNumbersSameBytes → (p : Parsed) (list : ℕ) (ids : List TreeId) (ds : List Defined) → map (tree_in p) ids ≡ items (tree_in p list)
    → list ≤ size_of p → All (λ (id : TreeId). id < list) ids → ds ≡ defined_in p ids → AreDefined p list ds
are_defined s p list ids ds e h a q =
    subst (AreDefined p list) (sym q)
    (record { found = λ n. found_among s p n ids ∙ ap (filter (is_of p.tokens (text_of p.tokens n))) e; there = there_among p list ids h a })

-- and after it
pub still_defined : (p : Parsed) (list : ℕ) (ds es : List Defined) → AreDefined p list ds → ((n : ℕ) → filter (is_called n) es ≡ filter (is_called n) ds)
    → IsPermutation ds es → AreDefined p list es
still_defined p list ds es h same moved =
    record {
      found = λ n. ap (map (λ (d : Defined). tree_in p d.node)) (same (first_named p.tokens n)) ∙ h.found n;
      there = All-permutation (λ (d : Defined). d.node < size_of p) ds es moved h.there;
    }

-- what a node defines
pub other_form : (l : Lexed) (ts : List Tree) (node : TreeNode) (start : ℕ) → ((n : ℕ) (x : TreeId) → node ≡ nodes.Constant n x → ⊥)
    → IsNoFunction node → defined_name l (tree_of ts node start) ≡ None
other_form l ts (nodes.Constant n x) start c f = absurd (c n x refl)
other_form l ts (nodes.Function n ps x) start c f = absurd (f n ps x refl)
other_form l ts (nodes.List ids) start c f = none ids.items
  where
    none : (is : List TreeId) → defined_name l (forest ts is End) ≡ None
    none [] = refl
    none (i ∷ is) = refl
other_form l ts node start c f = refl

-- ---- all lists

-- the lists below a number are indexed
pub record AreSorted (p : Parsed) (lists : List (List Defined)) (i : ℕ) : Type 0 where
  pub many : length lists ≡ i
  pub each : (j : ℕ) (d : List Defined) → j < i → AreDefined p j (get_or lists j d)

pub sorted_more : (p : Parsed) (lists more : List (List Defined)) (i : ℕ) (list : List Defined) → AreSorted p lists i → AreDefined p i list
    → more ≡ lists ++ list ∷ [] → AreSorted p more (i + 1)
sorted_more p lists more i list h one pushed = record {
  many = ap length pushed ∙ length_push lists list ∙ ap (λ n. n + 1) h.many;
  each = λ j d l. subst (λ ls. AreDefined p j (get_or ls j d)) (sym pushed) (go j d l (cases_lt j i));
}
  where
    go : (j : ℕ) (d : List Defined) → j < i + 1 → (j < i) ⊎ (i ≤ j) → AreDefined p j (get_or (lists ++ list ∷ []) j d)
    go j d l (inl lt) = subst (AreDefined p j) (sym (get_or_append_left lists (list ∷ []) d j (let e = h.many in omega arith))) (h.each j d lt)
    go j d l (inr ge) =
        let same : i ≡ j = omega arith in
        subst (λ k. AreDefined p k (get_or (lists ++ list ∷ []) k d)) same (subst (AreDefined p i) (sym (get_or_push lists list d i h.many)) one)

-- what an indexed list has under a name
pub record IsCalled (p : Parsed) (list name : ℕ) (found : List Defined) : Type 0 where
  pub trees : AreOfName p list name found
  pub there : AreThere p found

pub called_in : {p q : Parsed} {lists : List (List Defined)} {list i name : ℕ} {ds found : List Defined} → p ≡ q → AreIndexed p lists → i < length lists
    → i ≡ list → ds ≡ get_or lists i ds → found ≡ filter (is_called name) ds → IsCalled q list name found
called_in {p} {lists = lists} {list = list} {i = i} {name = name} {ds = ds} {found = found} view h l same here is =
    subst (λ (r : Parsed). IsCalled r list name found) view (record {
      trees = λ n e.
          ap (map (λ (d : Defined). tree_in p d.node)) (is ∙ ap (λ m. filter (is_called m) ds) (sym e))
          ∙ at.found n ∙ ap (λ k. filter (is_of p.tokens (text_of p.tokens n)) (items (tree_in p k))) same;
      there = subst (AreThere p) (sym is) (All-filter (is_called name) (λ (d : Defined). d.node < size_of p) ds at.there);
    })
  where
    at : AreDefined p i ds
    at = subst (AreDefined p i) (sym here) (h.each i ds l)

-- ---- a name of which a list has nothing

pub listed_none : (p q : Parsed) (lists : List (List Defined)) (list i name : ℕ) (ds : List Defined) → p ≡ q → AreIndexed p lists → i ≡ list
    → ds ≡ get_or lists i ds → filter (is_called name) ds ≡ [] → HasNone q list name
listed_none p q lists list i name ds view h same here none =
    subst (λ (r : Parsed). HasNone r list name) view (λ n inside e.
    let l : i < length lists = omega (arith, inside, h.whole, same) in
    let at : AreDefined p list ds = subst (λ k. AreDefined p k ds) same (subst (AreDefined p i) (sym here) (h.each i ds l)) in
    sym (at.found n)
    ∙ ap (λ m. map (λ (d : Defined). tree_in p d.node) (filter (is_called m) ds)) e
    ∙ ap (map (λ (d : Defined). tree_in p d.node)) none)

-- one definition more, which is of no name that has none
pub no_more : (n : ℕ) (ds : List Defined) (i : ℕ) (d : Defined) → i < length ds → filter (is_called n) (take i ds) ≡ [] → nat_eq (get_or ds i d).name n ≡ false
    → filter (is_called n) (take (i + 1) ds) ≡ []
no_more n ds i d l none other =
    ap (filter (is_called n)) (take_more ds i d l) ∙ filter-append (is_called n) (take i ds) (get_or ds i d ∷ [])
    ∙ ap₂ (λ xs ys. xs ++ ys) none (ap (λ b. cond b (get_or ds i d ∷ []) []) other)
