-- The parameters of abstractions and definitions, by their places.
use Rattle.std.proofs.Common.{◌≡◌, ℕ, zero, suc, ◌<◌, List, [], ◌∷◌, length, map, get_or, Option, Some, None, Vec, refl, sym, ap, subst, ◌∙◌, arith}
use Rattle.std.specs.declared.alloc.Global.{Global}
use Rattle.std.specs.Prelude.{slice_get, option_map}
use Rattle.std.proofs.lemmas.Option.{none-some}
use Rattle.fv_parse.specs.Token.{Lexed}
use Rattle.fv_parse_grammar.specs.headline.Tree.{Tree, End}
use Rattle.fv_parse_grammar.specs.headline.Tree as tree
use Rattle.fv_rules.specs.headline.Values.{Name, with_name, names_of}
use Rattle.fv_eval_scopes.specs.Shows.{given_names, parameters_in}
use Rattle.fv_parse.specs.TreeId.{TreeId}
use Rattle.fv_parse.specs.TreeNode.{TreeNode}
use Rattle.fv_parse.specs.TreeNode.TheVariants as nodes
use Rattle.fv_parse.specs.Arena.{tree_of, forest}
use Rattle.fv_parse.specs.Trees.{Parsed, tree_in, node_tree}
use Rattle.fv_eval_scopes.specs.Parameters.{ShowsName, name_of}

-- the pattern at a place, and the name at the same one
abbrev pub NameAt : Lexed → Option Tree → Option Name → Type 0
NameAt l None None = Unit {0}
NameAt l (Some t) (Some x) = name_of l t ≡ Some x
NameAt l o q = ⊥

-- a list of names with one in front
front : (x : Name) (o : Option (List Name)) (xs : List Name) → with_name x o ≡ Some xs → (rest : List Name) × (o ≡ Some rest) × (xs ≡ x ∷ rest)
front x None xs e = absurd (none-some xs e)
front x (Some rest) xs e = (rest, refl, let h : x ∷ rest ≡ xs = cc in sym h)

-- patterns that are all names have their names at the same places
pub names_at : (l : Lexed) (ts : List Tree) (xs : List Name) → names_of l ts ≡ Some xs → (i : ℕ) → NameAt l (slice_get ts i) (slice_get xs i)
names_at l [] xs e i = let h : [] ≡ xs = cc in subst (λ (ys : List Name). NameAt l None (slice_get ys i)) h tt
names_at l (tree.Named s n ∷ ts) xs e zero =
    let f = front _ (names_of l ts) xs e in subst (λ (ys : List Name). NameAt l (Some (tree.Named s n)) (slice_get ys 0)) (sym f.2) refl
names_at l (tree.Named s n ∷ ts) xs e (suc i) =
    let f = front _ (names_of l ts) xs e in subst (λ (ys : List Name). NameAt l (slice_get ts i) (slice_get ys (suc i))) (sym f.2) (names_at l ts f.0 f.1 i)
names_at l (t ∷ ts) xs e i = absurd (none-some xs e)

-- there are as many
pub names_count : (l : Lexed) (ts : List Tree) (xs : List Name) → names_of l ts ≡ Some xs → length ts ≡ length xs
names_count l [] xs e = let h : [] ≡ xs = cc in ap length h
names_count l (tree.Named s n ∷ ts) xs e = let f = front _ (names_of l ts) xs e in let h = names_count l ts f.0 f.1 in omega (arith, ap length f.2)
names_count l (t ∷ ts) xs e = absurd (none-some xs e)

-- some names were given
pub all_names : (o : Option (List Name)) → 0 < length (given_names o) → o ≡ Some (given_names o)
all_names None h = absurd (omega (arith, h))
all_names (Some xs) h = refl

pub get_map : {A B : Type 0} (f : A → B) (xs : List A) (i : ℕ) → slice_get (map f xs) i ≡ option_map f (slice_get xs i)
get_map f [] i = refl
get_map f (x ∷ xs) zero = refl
get_map f (x ∷ xs) (suc i) = get_map f xs i

-- ---- a place that was read

shown_at : (l : Lexed) (t : Tree) (r : Option ℕ) (o : Option Name)
    → ((x : Name) → name_of l t ≡ Some x → ShowsName l r (Some x)) → NameAt l (Some t) o → ShowsName l r o
shown_at l t r (Some x) h n = h x n
shown_at l t r None h n = absurd n

none_at : (l : Lexed) (o : Option Name) → NameAt l None o → ShowsName l None o
none_at l None n = tt
none_at l (Some x) n = absurd n

pub parameter_named : (l : Lexed) (ts : List Tree) (f : ℕ → Tree) (ids : List ℕ) (i id : ℕ) (r : Option ℕ) → map f ids ≡ ts → slice_get ids i ≡ Some id
    → ((x : Name) → name_of l (f id) ≡ Some x → ShowsName l r (Some x))
    → 0 < length (given_names (names_of l ts)) → ShowsName l r (slice_get (given_names (names_of l ts)) i)
parameter_named l ts f ids i id r e g h some =
    let at : slice_get ts i ≡ Some (f id) = ap (λ us. slice_get us i) (sym e) ∙ get_map f ids i ∙ ap (option_map f) g in
    shown_at l (f id) r (slice_get (given_names (names_of l ts)) i) h
    (subst (λ (o : Option Tree). NameAt l o (slice_get (given_names (names_of l ts)) i)) at
    (names_at l ts (given_names (names_of l ts)) (all_names (names_of l ts) some) i))

pub parameter_none : (l : Lexed) (ts : List Tree) (f : ℕ → Tree) (ids : List ℕ) (i : ℕ) → map f ids ≡ ts → slice_get ids i ≡ None
    → 0 < length (given_names (names_of l ts)) → ShowsName l None (slice_get (given_names (names_of l ts)) i)
parameter_none l ts f ids i e g some =
    let at : slice_get ts i ≡ None = ap (λ us. slice_get us i) (sym e) ∙ get_map f ids i ∙ ap (option_map f) g in
    none_at l (slice_get (given_names (names_of l ts)) i)
    (subst (λ (o : Option Tree). NameAt l o (slice_get (given_names (names_of l ts)) i)) at
    (names_at l ts (given_names (names_of l ts)) (all_names (names_of l ts) some) i))

map_length : (f : ℕ → Tree) (ids : List ℕ) → length (map f ids) ≡ length ids
map_length f [] = refl
map_length f (i ∷ ids) = ap suc (map_length f ids)

pub parameter_count : (l : Lexed) (ts : List Tree) (f : ℕ → Tree) (ids : List ℕ)
    → map f ids ≡ ts → 0 < length (given_names (names_of l ts)) → length ids ≡ length (given_names (names_of l ts))
parameter_count l ts f ids e some =
    let n = names_count l ts (given_names (names_of l ts)) (all_names (names_of l ts) some) in omega (arith, n, ap length e, map_length f ids)

-- ---- nodes

-- what is said of a node's tree is said by its form
pub at_node : (p : Parsed) (id start : ℕ) (node form : TreeNode) (P : Tree → Type 0)
    → tree_in p id ≡ node_tree p node start → node ≡ form → P (node_tree p form start) → P (tree_in p id)
at_node p id start node form P t e h = subst P (sym (t ∙ ap (λ n. node_tree p n start) e)) h

-- what is read at a place
pub get_within : {A : Type 0} (xs : List A) (i : ℕ) (x : A) → i < length xs → x ≡ get_or xs i x → slice_get xs i ≡ Some x
get_within [] i x l e = absurd (omega arith)
get_within (y ∷ ys) zero x l e = ap Some (sym e)
get_within (y ∷ ys) (suc i) x l e = get_within ys i x (omega arith) e

pub no_parameters : (l : Lexed) (ts : List Tree) (node : TreeNode) (start : ℕ) → ((ns : Vec ℕ Global) (x : TreeId) → node ≡ nodes.Abstraction ns x → ⊥)
    → ((n : ℕ) (ps x : TreeId) → node ≡ nodes.Function n ps x → ⊥) → parameters_in l (tree_of ts node start) ≡ []
no_parameters l ts (nodes.Abstraction ns x) start a b = absurd (a ns x refl)
no_parameters l ts (nodes.Function n ps x) start a b = absurd (b n ps x refl)
no_parameters l ts (nodes.List ids) start a b = other ids.items
  where
    other : (is : List TreeId) → parameters_in l (forest ts is End) ≡ []
    other [] = refl
    other (i ∷ is) = refl
no_parameters l ts node start a b = refl

pub no_name : (l : Lexed) (ts : List Tree) (node : TreeNode) (start : ℕ) → ((n : ℕ) → node ≡ nodes.Named n → ⊥) → name_of l (tree_of ts node start) ≡ None
no_name l ts (nodes.Named n) start a = absurd (a n refl)
no_name l ts (nodes.List ids) start a = other ids.items
  where
    other : (is : List TreeId) → name_of l (forest ts is End) ≡ None
    other [] = refl
    other (i ∷ is) = refl
no_name l ts node start a = refl
