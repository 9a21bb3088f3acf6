-- The trees of an arena.
use Rattle.std.proofs.Common.{◌≡◌, ℕ, zero, suc, ◌+◌, ◌*◌, ◌<◌, ◌≤◌, List, [], ◌∷◌, ◌++◌, length, get_or}
use Rattle.std.proofs.Common.{refl, sym, ap, ap₂, ◌∙◌, subst, arith, ℤ, pos, inl, inr, All, true, false, Bool}
use Rattle.std.proofs.lemmas.List.Elements.{All-head, All-tail, All-push, All-weaker}
use Rattle.std.proofs.lemmas.Bool.{cases_lt}
use Rattle.std.proofs.lemmas.List.{get_or_append_left, get_or_push, get_or-map, length-map, map_push}
use Rattle.fv_base.specs.Arena as arena
use Rattle.fv_base.proofs.lemmas.Arena.{tree_at_place, below_snoc, push_keeps, pushed_tree, length_trees}
use Rattle.fv_base.proofs.lemmas.Lists.{length_snoc}
use Rattle.fv_diagram.specs.declared.node.Node.{Node}
use Rattle.fv_diagram.specs.declared.node.Node.TheVariants as node
use Rattle.fv_diagram.specs.declared.arena.Entry.{Entry}
use Rattle.fv_num.specs.declared.op.Op.{Op}
use Rattle.fv_num.specs.declared.op.Op.TheVariants as op
use Rattle.fv_num.specs.headline.Words.{inputs_of}
use Rattle.fv_num.specs.declared.primitive.Primitive.{Primitive as Prim}
use Rattle.fv_num.specs.declared.primitive.Primitive.TheVariants as prim
use Rattle.fv_diagram.specs.headline.Diagram.{Diagram, Primitive, Constant, Control, Slot, Wave, Table, Bind, Par, Seq, Split, Merge}
use Rattle.fv_diagram.specs.headline.Diagram.{Rec, primitive_inputs, primitive_outputs, table_inputs, inputs, outputs, size}
use Rattle.fv_diagram.specs.Diagram.{HasNumbers, AreNumbers}
use Rattle.fv_diagram.specs.Arena.{subtree, tree_in, trees, tree_of, tree_with, Arena, count_of, with_node, ChildrenBelow, IsEntry}
use Rattle.fv_diagram.specs.inner.Arena.{HasNumber}
use Rattle.fv_diagram.specs.Arena.{AreEntries, nodes, arena_of, list_at, with_list, NamesLists}

-- a node's tree depends on the trees of its children alone
tree_in_same : (lists : List (List ℤ)) (ts us : List Diagram) (i : ℕ) (n : Node) → ChildrenBelow i n
    → ((j : ℕ) → j < i → subtree ts j ≡ subtree us j) → tree_in lists ts n ≡ tree_in lists us n
tree_in_same lists ts us i (node.Prim p) h g = refl
tree_in_same lists ts us i (node.Number n) h g = refl
tree_in_same lists ts us i (node.Control k) h g = refl
tree_in_same lists ts us i (node.Slot s) h g = refl
tree_in_same lists ts us i (node.Wave t) h g = refl
tree_in_same lists ts us i (node.Table t writes) h g = refl
tree_in_same lists ts us i (node.Bind s a) h g = ap (Bind s) (g a h)
tree_in_same lists ts us i (node.Par a b) h g = ap₂ Par (g a h.0) (g b h.1)
tree_in_same lists ts us i (node.Seq a b) h g = ap₂ Seq (g a h.0) (g b h.1)
tree_in_same lists ts us i (node.Split a b) h g = ap₂ Split (g a h.0) (g b h.1)
tree_in_same lists ts us i (node.Merge a b) h g = ap₂ Merge (g a h.0) (g b h.1)
tree_in_same lists ts us i (node.Rec a b) h g = ap₂ Rec (g a h.0) (g b h.1)

-- and on the list that it names
tree_in_listed : (lists more : List (List ℤ)) (ts : List Diagram) (n : Node) → NamesLists (length lists) n
    → ((t : ℕ) → t < length lists → list_at more t ≡ list_at lists t) → tree_in more ts n ≡ tree_in lists ts n
tree_in_listed lists more ts (node.Prim p) h g = refl
tree_in_listed lists more ts (node.Number n) h g = refl
tree_in_listed lists more ts (node.Control k) h g = refl
tree_in_listed lists more ts (node.Slot s) h g = refl
tree_in_listed lists more ts (node.Wave t) h g = ap Wave (g t h)
tree_in_listed lists more ts (node.Table t writes) h g = ap (λ T. Table T writes) (g t h)
tree_in_listed lists more ts (node.Bind s a) h g = refl
tree_in_listed lists more ts (node.Par a b) h g = refl
tree_in_listed lists more ts (node.Seq a b) h g = refl
tree_in_listed lists more ts (node.Split a b) h g = refl
tree_in_listed lists more ts (node.Merge a b) h g = refl
tree_in_listed lists more ts (node.Rec a b) h g = refl

trees_listed : (lists more : List (List ℤ)) (ts : List Diagram) (ns : List Node) → All (NamesLists (length lists)) ns
    → ((t : ℕ) → t < length lists → list_at more t ≡ list_at lists t) → arena.trees_from (tree_in more) ts ns ≡ arena.trees_from (tree_in lists) ts ns
trees_listed lists more ts [] h g = refl
trees_listed lists more ts (n ∷ ns) h g =
    ap (λ d. arena.trees_from (tree_in more) (ts ++ d ∷ []) ns) (tree_in_listed lists more ts n (All-head (NamesLists (length lists)) n ns h) g)
    ∙ trees_listed lists more (ts ++ tree_in lists ts n ∷ []) ns (All-tail (NamesLists (length lists)) n ns h) g

-- a list more changes no tree
pub list_keeps : (lists : List (List ℤ)) (T : List ℤ) (ns : List Node) → All (NamesLists (length lists)) ns
    → trees (lists ++ T ∷ []) ns ≡ trees lists ns
list_keeps lists T ns h = trees_listed lists (lists ++ T ∷ []) [] ns h (λ t l. get_or_append_left lists (T ∷ []) [] t l)

names_more : (n m : ℕ) → n ≤ m → (k : Node) → NamesLists n k → NamesLists m k
names_more n m l (node.Prim p) h = tt
names_more n m l (node.Number z) h = tt
names_more n m l (node.Control k) h = tt
names_more n m l (node.Slot s) h = tt
names_more n m l (node.Wave t) h = omega (arith, l, h)
names_more n m l (node.Table t writes) h = omega (arith, l, h)
names_more n m l (node.Bind s a) h = tt
names_more n m l (node.Par a b) h = tt
names_more n m l (node.Seq a b) h = tt
names_more n m l (node.Split a b) h = tt
names_more n m l (node.Merge a b) h = tt
names_more n m l (node.Rec a b) h = tt

-- the part of a node at a place
below_at : (ns : List Node) (i k : ℕ) (d : Node) → arena.AreBelowFrom ChildrenBelow i ns → k < length ns → ChildrenBelow (i + k) (get_or ns k d)
below_at [] i k d h l = absurd (omega arith)
below_at (n ∷ ns) i zero d h l = let e : i ≡ i + 0 = omega arith in subst (λ j. ChildrenBelow j n) e h.0
below_at (n ∷ ns) i (suc k) d h l = let e : suc i + k ≡ i + suc k = omega arith in subst (λ j. ChildrenBelow j (get_or ns k d)) e
    (below_at ns (suc i) k d h.1 (omega arith))

-- what holds of entry i
pub record EntryAt (a : Arena) (i : ℕ) (e : Entry) : Type 0 where
  pub children : ChildrenBelow i e.node
  pub lists : NamesLists (length a.lists) e.node
  pub tree : tree_of a i ≡ tree_with a e.node
  pub known : IsEntry (tree_of a i) e

entry_at : (es : List Entry) (lists : List (List ℤ)) (i : ℕ) (d : Entry) → AreEntries es lists → i < length es → EntryAt (arena_of es lists) i (get_or es i d)
entry_at es lists i d h l =
    let ns = nodes es in
    let m : i < length ns = omega (arith, length-map es (λ e. e.node)) in
    let at : get_or ns i d.node ≡ (get_or es i d).node = get_or-map (λ e. e.node) es i d d.node l in
    let z : 0 + i ≡ i = omega arith in record {
      children = subst (ChildrenBelow i) at (subst (λ j. ChildrenBelow j (get_or ns i d.node)) z (below_at ns 0 i d.node h.children m));
      lists = subst (NamesLists (length lists)) at (h.named i d.node m);
      tree = tree_at_place (tree_in lists) ChildrenBelow (Constant (pos 0)) (tree_in_same lists) ns i d.node h.children m
          ∙ ap (tree_in lists (trees lists ns)) at;
      known = h.each i d l;
    }

-- the entry that stands at place n
pub entry_known : (a : Arena) (es : List Entry) (lists : List (List ℤ)) (i n : ℕ) (e : Entry) → arena_of es lists ≡ a → AreEntries es lists → i < count_of a
    → n ≡ i → e ≡ get_or es n e → EntryAt a i e
entry_known a es lists i n e v h l p q =
    let m : i < length es = omega (arith, ap count_of v, length-map es (λ e. e.node)) in
    subst (λ a. EntryAt a i e) v (subst (EntryAt (arena_of es lists) i) (ap (λ k. get_or es k e) (sym p) ∙ sym q) (entry_at es lists i e h m))

-- one entry more
entries_snoc : (es : List Entry) (lists : List (List ℤ)) (e : Entry) → AreEntries es lists → ChildrenBelow (length (nodes es)) e.node
    → NamesLists (length lists) e.node → IsEntry (tree_with (arena_of es lists) e.node) e → AreEntries (es ++ e ∷ []) lists
entries_snoc es lists e h c names k =
    let ns = nodes es in
    let ms = nodes (es ++ e ∷ []) in
    let build = tree_in lists in
    let more : ms ≡ ns ++ e.node ∷ [] = map_push (λ e. e.node) es e in
    let long : length ns ≡ length es = length-map es (λ e. e.node) in record {
      children = subst (arena.AreBelowFrom ChildrenBelow 0) (sym more) (below_snoc build ChildrenBelow ns e.node h.children c);
      named = subst (All (NamesLists (length lists))) (sym more) (All-push (NamesLists (length lists)) ns e.node h.named names);
      numbers = h.numbers;
      each = λ i d l. elim (cases_lt i (length es)) [
        | inl m ↦
            let there : get_or es i d ≡ get_or (es ++ e ∷ []) i d = sym (get_or_append_left es (e ∷ []) d i m) in
            let inside : i < length (trees lists ns) = omega (arith, length_trees build ns) in
            let stays : subtree (trees lists ns) i ≡ subtree (trees lists ms) i =
            sym ((push_keeps build (Constant (pos 0)) ns ms e.node more).same i inside) in
            subst (λ t. IsEntry t (get_or (es ++ e ∷ []) i d)) stays (subst (IsEntry (subtree (trees lists ns) i)) there (h.each i d m))
        | inr m ↦
            let at : length es ≡ i = omega (arith, length_snoc es e) in
            let there : e ≡ get_or (es ++ e ∷ []) i d = sym (get_or_push es e d i at) in
            let new : tree_with (arena_of es lists) e.node ≡ subtree (trees lists ms) i = sym
            (pushed_tree build (Constant (pos 0)) ns ms e.node i (sym at ∙ sym long) more) in
            subst (λ t. IsEntry t (get_or (es ++ e ∷ []) i d)) new (subst (IsEntry (tree_with (arena_of es lists) e.node)) there k)
      ];
    }

pub put_keeps : (a : Arena) (es fs : List Entry) (lists : List (List ℤ)) (e : Entry) → arena_of es lists ≡ a → AreEntries es lists
    → ChildrenBelow (count_of a) e.node → NamesLists (length a.lists) e.node → IsEntry (tree_with a e.node) e → fs ≡ es ++ e ∷ [] → AreEntries fs lists
put_keeps a es fs lists e v h c names k p =
    subst (λ fs. AreEntries fs lists) (sym p)
    (entries_snoc es lists e h (subst (λ a. ChildrenBelow (count_of a) e.node) (sym v) c)
    (subst (λ a. NamesLists (length a.lists) e.node) (sym v) names) (subst (λ a. IsEntry (tree_with a e.node) e) (sym v) k))

-- one list more
pub lists_snoc : (es : List Entry) (lists more : List (List ℤ)) (T : List ℤ) → AreEntries es lists → AreNumbers T → more ≡ lists ++ T ∷ []
    → AreEntries es more
lists_snoc es lists more T h k e =
    let long : length lists ≤ length (lists ++ T ∷ []) = omega (arith, length_snoc lists T) in
    subst (AreEntries es) (sym e) record {
      children = h.children;
      named = All-weaker (NamesLists (length lists)) (NamesLists (length (lists ++ T ∷ []))) (names_more (length lists) (length (lists ++ T ∷ [])) long)
          (nodes es) h.named;
      numbers = All-push AreNumbers lists T h.numbers k;
      each = λ i d l. subst (λ ts. IsEntry (subtree ts i) (get_or es i d)) (sym (list_keeps lists T (nodes es) h.named)) (h.each i d l);
    }

-- the arena with one list more
pub listed_arena : (a : Arena) (es : List Entry) (lists more : List (List ℤ)) (T : List ℤ) → arena_of es lists ≡ a → more ≡ lists ++ T ∷ []
    → arena_of es more ≡ with_list a T
listed_arena a es lists more T v e = ap (arena_of es) e ∙ ap (λ a. with_list a T) v

pub listed_trees : (a b : Arena) (es : List Entry) (lists : List (List ℤ)) (T : List ℤ) (i : ℕ) → arena_of es lists ≡ a → AreEntries es lists
    → b ≡ with_list a T → tree_of b i ≡ tree_of a i
listed_trees a b es lists T i v h e =
    ap (λ b. tree_of b i) (e ∙ ap (λ a. with_list a T) (sym v)) ∙ ap (λ ts. subtree ts i) (list_keeps lists T (nodes es) h.named) ∙ ap (λ a. tree_of a i) v

-- the numbers of a list
pub list_known : (a : Arena) (es : List Entry) (lists : List (List ℤ)) (t : ℕ) → arena_of es lists ≡ a → AreEntries es lists → t < length a.lists
    → AreNumbers (list_at a.lists t)
list_known a es lists t v h l =
    subst (λ ls. AreNumbers (list_at ls t)) (ap (λ a. a.lists) v) (h.numbers t [] (omega (arith, l, ap (λ a. length a.lists) v)))

-- the numbers of a node over the trees of the entries
numbers_at : (es : List Entry) (lists : List (List ℤ)) (i : ℕ) → AreEntries es lists → i < length (nodes es) → HasNumbers (subtree (trees lists (nodes es)) i)
numbers_at es lists i h l =
    (h.each i record { node = node.Slot 0; arity = record { inputs = 0; outputs = 0 }; size = 0; primitives = false }
    (omega (arith, length-map es (λ e. e.node)))).numbers

numbers_over : (es : List Entry) (lists : List (List ℤ)) (n : Node) → AreEntries es lists → ChildrenBelow (length (nodes es)) n
    → NamesLists (length lists) n → HasNumber n → HasNumbers (tree_in lists (trees lists (nodes es)) n)
numbers_over es lists (node.Prim p) h c names k = tt
numbers_over es lists (node.Number n) h c names k = k
numbers_over es lists (node.Control i) h c names k = tt
numbers_over es lists (node.Slot s) h c names k = tt
numbers_over es lists (node.Wave t) h c names k = h.numbers t [] names
numbers_over es lists (node.Table t writes) h c names k = h.numbers t [] names
numbers_over es lists (node.Bind s a) h c names k = numbers_at es lists a h c
numbers_over es lists (node.Par a b) h c names k = (numbers_at es lists a h c.0, numbers_at es lists b h c.1)
numbers_over es lists (node.Seq a b) h c names k = (numbers_at es lists a h c.0, numbers_at es lists b h c.1)
numbers_over es lists (node.Split a b) h c names k = (numbers_at es lists a h c.0, numbers_at es lists b h c.1)
numbers_over es lists (node.Merge a b) h c names k = (numbers_at es lists a h c.0, numbers_at es lists b h c.1)
numbers_over es lists (node.Rec a b) h c names k = (numbers_at es lists a h c.0, numbers_at es lists b h c.1)

pub numbers_in : (a : Arena) (es : List Entry) (lists : List (List ℤ)) (n : Node) → arena_of es lists ≡ a → AreEntries es lists
    → ChildrenBelow (count_of a) n → NamesLists (length a.lists) n → HasNumber n → HasNumbers (tree_with a n)
numbers_in a es lists n v h c names k =
    subst (λ a. HasNumbers (tree_with a n)) v (numbers_over es lists n h (subst (λ a. ChildrenBelow (count_of a) n) (sym v) c)
    (subst (λ a. NamesLists (length a.lists) n) (sym v) names) k)

pub nodes_put : (a : Arena) (es fs : List Entry) (lists : List (List ℤ)) (e : Entry) → arena_of es lists ≡ a → fs ≡ es ++ e ∷ []
    → arena_of fs lists ≡ with_node a e.node
nodes_put a es fs lists e v p =
    ap (λ fs. arena_of fs lists) p ∙ ap (λ ns. record { nodes = ns; lists = lists }) (map_push (λ e. e.node) es e) ∙ ap (λ a. with_node a e.node) v

pub place_put : (a : Arena) (es : List Entry) (lists : List (List ℤ)) (i n : ℕ) → arena_of es lists ≡ a → i ≡ n → n ≡ length es → i ≡ count_of a
place_put a es lists i n v p q = p ∙ q ∙ sym (length-map es (λ e. e.node)) ∙ ap count_of v

-- the tree of the node that was put, and the trees that stay
pub put_tree : (a b : Arena) (n : Node) (i : ℕ) → i ≡ count_of a → b ≡ with_node a n → tree_of b i ≡ tree_with a n
put_tree a b n i p e =
    ap (λ b. tree_of b i) e ∙ pushed_tree (tree_in a.lists) (Constant (pos 0)) a.nodes (a.nodes ++ n ∷ []) n i p refl

pub put_tree_keeps : (a b : Arena) (n : Node) (i : ℕ) → b ≡ with_node a n → i < count_of a → tree_of b i ≡ tree_of a i
put_tree_keeps a b n i e l =
    ap (λ b. tree_of b i) e ∙ (push_keeps (tree_in a.lists) (Constant (pos 0)) a.nodes (a.nodes ++ n ∷ []) n refl).same i
    (omega (arith, length_trees (tree_in a.lists) a.nodes))

pub operation_takes : (o : Op) → inputs_of o ≤ 4
operation_takes op.Abs = omega arith
operation_takes op.Select2 = omega arith
operation_takes op.Select3 = omega arith
operation_takes _ = omega arith

-- a node takes at most five streams and gives at most two
primitive_takes : (p : Prim) → primitive_inputs p ≤ 5
primitive_takes prim.Wire = omega arith
primitive_takes prim.Cut = omega arith
primitive_takes prim.Mem = omega arith
primitive_takes prim.Prefix = omega arith
primitive_takes prim.Delay = omega arith
primitive_takes prim.Int = omega arith
primitive_takes prim.Attach = omega arith
primitive_takes (prim.Point o) = omega (arith, operation_takes o)
primitive_takes prim.ReadTable = omega arith
primitive_takes prim.WriteTable = omega arith

table_takes : (writes : Bool) → table_inputs writes ≤ 5
table_takes true = omega arith
table_takes false = omega arith

primitive_gives : (p : Prim) → primitive_outputs p ≤ 1
primitive_gives prim.Cut = omega arith
primitive_gives _ = omega arith

pub outputs_within : (d : Diagram) → outputs d ≤ 2 * size d
outputs_within (Primitive p) = omega (arith, primitive_gives p)
outputs_within (Constant n) = omega arith
outputs_within (Control k) = omega arith
outputs_within (Slot s) = omega arith
outputs_within (Wave w) = omega arith
outputs_within (Table T writes) = omega arith
outputs_within (Bind s a) = omega (arith, outputs_within a)
outputs_within (Par a b) = omega (arith, outputs_within a, outputs_within b)
outputs_within (Seq a b) = omega (arith, outputs_within b)
outputs_within (Split a b) = omega (arith, outputs_within b)
outputs_within (Merge a b) = omega (arith, outputs_within b)
outputs_within (Rec a b) = omega (arith, outputs_within a)

pub inputs_within : (d : Diagram) → inputs d ≤ 5 * size d
inputs_within (Primitive p) = primitive_takes p
inputs_within (Constant n) = omega arith
inputs_within (Control k) = omega arith
inputs_within (Slot s) = omega arith
inputs_within (Wave w) = omega arith
inputs_within (Table T writes) = table_takes writes
inputs_within (Bind s a) = omega (arith, inputs_within a)
inputs_within (Par a b) = omega (arith, inputs_within a, inputs_within b)
inputs_within (Seq a b) = omega (arith, inputs_within a)
inputs_within (Split a b) = omega (arith, inputs_within a)
inputs_within (Merge a b) = omega (arith, inputs_within a)
inputs_within (Rec a b) = omega (arith, inputs_within a)
