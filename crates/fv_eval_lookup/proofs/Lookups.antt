-- The steps of a look-up.
use Rattle.std.proofs.Common.{◌≡◌, inl, inr, ℕ, zero, suc, ◌<◌, ◌≤◌, arith, Bool, true, false, List, [], ◌∷◌, length, map, get_or, cond}
use Rattle.std.proofs.Common.{Option, Some, None, refl}
use Rattle.std.proofs.Common.{sym, ap, subst, ◌∙◌, All}
use Rattle.std.specs.Prelude.{filter, slice_get}
use Rattle.std.proofs.lemmas.List.{length-map}
use Rattle.std.proofs.lemmas.List.Folds.{list_all_at}
use Rattle.std.specs.List.{list_all}
use Rattle.std.specs.Str.{bytes_eq}
use Rattle.std.proofs.lemmas.Bool.{and_parts, false≢true}
use Rattle.std.proofs.lemmas.List.Elements.{filter_passes}
use Rattle.std.proofs.lemmas.Option.{none-some, same_Some, slice_get_within}
use Rattle.std.proofs.lemmas.Slice.Eq.{bytes_eq-Decides}
use Rattle.fv_parse.specs.Token.{Lexed, texts_of}
use Rattle.fv_parse_grammar.specs.headline.Tree.{Tree, items, start_of}
use Rattle.fv_parse_grammar.specs.headline.Tree as tree
use Rattle.fv_parse.specs.headline.Trees.{text_of}
use Rattle.fv_parse.specs.Trees.{Parsed, size_of, tree_in, first_named, first_with}
use Rattle.fv_parse.specs.Arena.{forest, tree_of}
use Rattle.fv_parse.specs.TreeId.{TreeId}
use Rattle.fv_parse.specs.TreeNode.{TreeNode}
use Rattle.fv_parse.specs.TreeNode.TheVariants as nodes
use Rattle.fv_eval_lookup.specs.declared.by_name.Defined.{Defined}
use Rattle.fv_eval_scopes.specs.declared.value.Value.TheVariants as value
use Rattle.fv_eval_scopes.specs.declared.value.Value as code_value
use Rattle.fv_eval_scopes.specs.declared.value.Scope as code_scope
use Rattle.fv_eval_scopes.specs.declared.value.Scope.TheVariants as scope
use Rattle.fv_eval_scopes.specs.declared.value.Ruled.TheVariants as ruled
use Rattle.fv_eval_scopes.specs.declared.value.Meaning as code_meaning
use Rattle.fv_eval_scopes.specs.declared.value.Meaning.TheVariants as meaning
use Rattle.fv_eval_scopes.specs.Environments.{scope_in, outer_number}
use Rattle.fv_rules.specs.headline.Values.{Name, Rule, Env, Outermost, Bound, Scope, Nothing, Cases, Definition, Meaning, rule_of, is_of, names_of, with_name}
use Rattle.fv_rules.specs.headline.Values.{of_one, definition_of, or_else, lookup, IsValue, Value, Flat}
use Rattle.fv_diagram.specs.headline.Diagram.{Slot}
use Rattle.fv_eval_scopes.specs.Shows.{World, IsNamed, IsFunction, IsInside, given_names, parameters_in, body_in, name_in, rules_in, begins_in, ShowsEnv}
use Rattle.fv_eval_scopes.specs.Shows.{ShowsTaken, ShowsMeaning, ShowsValue}
use Rattle.fv_eval_scopes.specs.declared.value.Ruled.{Ruled}
use Rattle.fv_eval_lookup.proofs.RuleNodes.{IsNoFunction, AreOfName}
use Rattle.fv_eval_scopes.specs.Outward.{HasNothing, outer}
use Rattle.fv_eval_lookup.specs.inner.Lookup.{SaysOrPasses, IsMade, TellsParameter, is_name, are_names}
use Rattle.fv_eval_scopes.specs.Parameters.{ShowsName}

-- ---- what definitions make of a name

-- the first one that passes
first_passes : {X : Type 0} (p : X → Bool) (xs more : List X) (x : X) → filter p xs ≡ x ∷ more → p x ≡ true
first_passes p xs more x e =
    let h : All (λ y. p y ≡ true) (x ∷ more) = subst (All (λ y. p y ≡ true)) e (filter_passes p xs) in h 0 x (omega arith)

-- a definition by patterns has the name that it was found by
same_name : (l : Lexed) (x : Name) (n : ℕ) → bytes_eq (text_of l n) x ≡ true → text_of l n ≡ x
same_name l x n e = (bytes_eq-Decides (text_of l n) x).0 e

-- patterns that are names have their names
names_given : (l : Lexed) (ts : List Tree) → list_all is_name ts ≡ true → (xs : List Name) × (names_of l ts ≡ Some xs) × (length xs ≡ length ts)
names_given l [] e = ([], refl, refl)
names_given l (tree.Named s n ∷ ts) e =
    let r = names_given l ts e in
    (text_of l n ∷ r.0, ap (with_name (text_of l n)) r.1, ap suc r.2)
names_given l (t ∷ ts) e = absurd (false≢true (and_parts (is_name t) (list_all is_name ts) e).0)

-- the node is a definition with patterns
pub record HasPatterns (p : Parsed) (first : ℕ) (ps body : TreeId) : Type 0 where
  pub start : ℕ
  pub name : ℕ
  pub is : tree_in p first ≡ tree.Function start name (tree_in p ps) (tree_in p body)
  pub inside : first < size_of p

-- a definition whose patterns are names is an abstraction
pub abstraction_made : {p : Parsed} {first : ℕ} {ps body : TreeId} (list count env : ℕ) → HasPatterns p first ps body → count ≡ 1
    → are_names (items (tree_in p ps)) ≡ true → IsMade p list first count env (meaning.Known (value.Abstraction first 0 env))
abstraction_made {p} {first} {ps} {body} list count env has one names w x E [] other same i h e c = go patterns refl names
  where
    l : Lexed
    l = p.tokens

    patterns : List Tree
    patterns = items (tree_in p ps)

    Shows : Option Definition → Type 0
    Shows o = ShowsMeaning w (meaning.Known (value.Abstraction first 0 env)) (or_else o E other)

    Shown : List Name → Parsed → Type 0
    Shown ys v =
        (first < size_of v) × (parameters_in v.tokens (tree_in v first) ≡ ys) × (body_in (tree_in v first) ≡ tree_in p body) × ShowsEnv w env E

    with_names : (y : Name) (zs : List Name) → names_of l patterns ≡ Some (y ∷ zs) → Shows (definition_of l (tree_in p first ∷ []))
    with_names y zs given =
        let shown : Shown (y ∷ zs) p = (has.inside, ap (parameters_in l) has.is ∙ ap given_names given, ap body_in has.is, h) in
        subst (λ t. Shows (definition_of l (t ∷ []))) (sym has.is)
        (subst (λ o. Shows (Some (of_one o has.start patterns (tree_in p body)))) (sym given) (subst (Shown (y ∷ zs)) (sym same) shown))

    named : (ts : List Tree) (ys : List Name) → names_of l patterns ≡ Some ys → length ys ≡ suc (length ts) → Shows (definition_of l (tree_in p first ∷ []))
    named ts [] given long = absurd (omega arith)
    named ts (y ∷ zs) given long = with_names y zs given

    go : (ts : List Tree) → patterns ≡ ts → are_names ts ≡ true → Shows (definition_of l (tree_in p first ∷ []))
    go [] e k = absurd (false≢true k)
    go (t ∷ ts) e k = let g = names_given l (t ∷ ts) k in named ts g.0 (ap (names_of l) e ∙ g.1) g.2
abstraction_made list count env has one names w x E (t ∷ more) other same i h e c = absurd (omega (arith, one, c))

-- patterns of which one is no name have no names, and neither have none
not_names : (l : Lexed) (ts : List Tree) → list_all is_name ts ≡ false → names_of l ts ≡ None
not_names l [] e = absurd (false≢true (sym e))
not_names l (tree.Named s n ∷ ts) e = ap (with_name (text_of l n)) (not_names l ts e)
not_names l (t ∷ ts) e = refl

one_rule : (l : Lexed) (ts : List Tree) (s : ℕ) (b : Tree) → are_names ts ≡ false
    → of_one (names_of l ts) s ts b ≡ Cases s (record { patterns = ts; body = b } ∷ [])
one_rule l [] s b e = refl
one_rule l (t ∷ ts) s b e = ap (λ o. of_one o s (t ∷ ts) b) (not_names l (t ∷ ts) e)

-- else definitions by patterns are rules
pub rules_made : {p : Parsed} {first : ℕ} {ps body : TreeId} (list count env : ℕ) → HasPatterns p first ps body
    → (count ≡ 1 → are_names (items (tree_in p ps)) ≡ false)
    → IsMade p list first count env (meaning.Known (value.Rules (ruled.Definitions list first) env 0 0))
rules_made {p} {first} {ps} {body} list count env has other_form w x E more other same i h e c =
    subst (λ t. Shows (definition_of l (t ∷ more))) (sym has.is)
    (subst Shows (sym (cases more (λ z. other_form (c ∙ ap suc (ap length z))))) (subst Shown (sym same) shown))
  where
    l : Lexed
    l = p.tokens

    r : Ruled
    r = ruled.Definitions list first

    f : Tree
    f = tree.Function has.start has.name (tree_in p ps) (tree_in p body)

    rs : List Rule
    rs = map rule_of (f ∷ more)

    Shows : Option Definition → Type 0
    Shows o = ShowsMeaning w (meaning.Known (value.Rules r env 0 0)) (or_else o E other)

    Shown : Parsed → Type 0
    Shown v = IsInside v r × (begins_in v r ≡ has.start) × (rules_in v r ≡ rs) × ShowsEnv w env E × ShowsTaken w 0 0 Nothing

    cases : (ms : List Tree) → (ms ≡ [] → are_names (items (tree_in p ps)) ≡ false)
        → definition_of l (f ∷ ms) ≡ Some (Cases has.start (rule_of f ∷ map rule_of ms))
    cases [] k = ap Some (one_rule l (items (tree_in p ps)) has.start (tree_in p body) (k refl))
    cases (m ∷ ms) k = refl

    passes : is_of l x f ≡ true
    passes = ap (is_of l x) (sym has.is) ∙ first_passes (is_of l x) (items (tree_in p list)) more (tree_in p first) e

    name : name_in l (tree_in p first) ≡ x
    name = ap (name_in l) has.is ∙ same_name l x has.name passes

    are : rules_in p r ≡ rs
    are = ap (λ y. map rule_of (filter (is_of l y) (items (tree_in p list)))) name ∙ ap (map rule_of) e ∙ ap (λ t. map rule_of (t ∷ more)) has.is

    shown : Shown p
    shown = ((i, has.inside, subst IsFunction (sym has.is) tt), ap start_of has.is, are, h, refl)

-- what is no definition was not found by a name
pub nothing_made : (p : Parsed) (list first count env : ℕ) (made : code_meaning.Meaning) → ((x : Name) → is_of p.tokens x (tree_in p first) ≡ false)
    → IsMade p list first count env made
nothing_made p list first count env made none w x E more other same i h e c =
    absurd (false≢true (sym (none x) ∙ first_passes (is_of p.tokens x) (items (tree_in p list)) more (tree_in p first) e))

pub not_a_definition : (l : Lexed) (x : Name) (ts : List Tree) (node : TreeNode) (start : ℕ) → ((n : ℕ) (y : TreeId) → node ≡ nodes.Constant n y → ⊥)
    → IsNoFunction node → is_of l x (tree_of ts node start) ≡ false
not_a_definition l x ts (nodes.Constant n y) start c f = absurd (c n y refl)
not_a_definition l x ts (nodes.Function n ps y) start c f = absurd (f n ps y refl)
not_a_definition l x ts (nodes.List ids) start c f = none ids.items
  where
    none : (is : List TreeId) → is_of l x (forest ts is tree.End) ≡ false
    none [] = refl
    none (i ∷ is) = refl
not_a_definition l x ts node start c f = refl

-- a pattern that is no name
pub not_all_names : (ts : List Tree) (i : ℕ) (d : Tree) → i < length ts → is_name (get_or ts i d) ≡ false → are_names ts ≡ false
not_all_names [] i d l e = absurd (omega arith)
not_all_names (t ∷ ts) i d l e = list_all_at is_name (t ∷ ts) i d l e

pub not_a_name : (ts : List Tree) (node : TreeNode) (start : ℕ) → ((n : ℕ) → node ≡ nodes.Named n → ⊥)
    → is_name (tree_of ts node start) ≡ false
not_a_name ts (nodes.Named n) start c = absurd (c n refl)
not_a_name ts (nodes.List ids) start c = none ids.items
  where
    none : (is : List TreeId) → is_name (forest ts is tree.End) ≡ false
    none [] = refl
    none (i ∷ is) = refl
not_a_name ts node start c = refl

-- ---- one scope

-- what the definitions of a list make of a name
abbrev pub listed : Parsed → Name → ℕ → Env → Meaning → Meaning
listed p x list E m = or_else (definition_of p.tokens (filter (is_of p.tokens x) (items (tree_in p list)))) E m

-- a scope of definitions
pub definitions_say : (w : World) (id o env : ℕ) (found : Option code_meaning.Meaning) (x : Name) (E : Env)
    → scope_in w.scopes env ≡ Some (scope.Definitions id o) → ShowsEnv w env E
    → ((m : Meaning) → id < size_of w.tree → SaysOrPasses w found (listed w.tree x id E m) m)
    → SaysOrPasses w found (lookup w.tree.tokens E x) (lookup w.tree.tokens (outer E) x)
definitions_say w id o zero found x E h m f = absurd (none-some _ h)
definitions_say w id o (suc i) found x Outermost h m f = let z : suc i ≡ 0 = m in absurd (omega (arith, z))
definitions_say w id o (suc i) found x (Bound y v E) h (j, l, k, inl m) f =
    let q : scope.Bound m.0 m.1 j ≡ scope.Definitions id o = same_Some _ _ (sym m.2 ∙ h) in cc
definitions_say w id o (suc i) found x (Bound y v E) h (j, l, k, inr m) f =
    let q : scope.Slots m.node m.parameter m.slot j ≡ scope.Definitions id o = same_Some _ _ (sym m.kept ∙ h) in cc
definitions_say w id o (suc i) found x (Scope ds E) h m f =
    let q : scope.Definitions m.0 m.1 ≡ scope.Definitions id o = same_Some _ _ (sym m.2 ∙ h) in
    let a : m.0 ≡ id = cc in
    let t : tree_in w.tree id ≡ ds = ap (tree_in w.tree) (sym a) ∙ m.4.1 in
    let l = w.tree.tokens in
    let beyond = lookup l E x in
    subst (λ z. SaysOrPasses w found (or_else (definition_of l (filter (is_of l x) (items z))) (Scope ds E) beyond) beyond) t
    (f beyond (subst (λ z. z < size_of w.tree) a m.4.0))

-- the environment around a scope
pub outer_shows : (w : World) (s : code_scope.Scope) (env : ℕ) (E : Env) → scope_in w.scopes env ≡ Some s → ShowsEnv w env E
    → (outer_number s < env) × ShowsEnv w (outer_number s) (outer E)
outer_shows w s zero E h m = absurd (none-some _ h)
outer_shows w s (suc i) Outermost h m = let z : suc i ≡ 0 = m in absurd (omega (arith, z))
outer_shows w s (suc i) (Bound y v E) h (j, l, k, inl m) =
    let q : j ≡ outer_number s = ap outer_number (same_Some _ _ (sym m.2 ∙ h)) in (omega (arith, l, q), subst (λ z. ShowsEnv w z E) q k)
outer_shows w s (suc i) (Bound y v E) h (j, l, k, inr m) =
    let q : j ≡ outer_number s = ap outer_number (same_Some _ _ (sym m.kept ∙ h)) in (omega (arith, l, q), subst (λ z. ShowsEnv w z E) q k)
outer_shows w s (suc i) (Scope ds E) h m =
    let q : m.1 ≡ outer_number s = ap outer_number (same_Some _ _ (sym m.2 ∙ h)) in (omega (arith, m.3, q), subst (λ z. ShowsEnv w z E) q m.5)

-- where there is no scope, the environment is the outermost one
pub no_scope : (w : World) (env : ℕ) (E : Env) → scope_in w.scopes env ≡ None → ShowsEnv w env E → E ≡ Outermost
no_scope w env Outermost h m = refl
no_scope w env (Bound y v E) h (j, l, k, inl m) = absurd (none-some _ (sym h ∙ m.2))
no_scope w env (Bound y v E) h (j, l, k, inr m) = absurd (none-some _ (sym h ∙ m.kept))
no_scope w env (Scope ds E) h m = absurd (none-some _ (sym h ∙ m.2))

-- ---- the loop: what the name stands for is what it stands for from a further environment

-- The name stands for the same in a further environment.
pub record StillReaches (p : Parsed) (scopes : List code_scope.Scope) (name env at : ℕ) : Type 0 where
  pub further : (w : World) (x : Name) (E : Env) → w.tree ≡ p → w.scopes ≡ scopes → IsNamed w name x → ShowsEnv w env E
      → (F : Env) × ShowsEnv w at F × (lookup p.tokens E x ≡ lookup p.tokens F x)

pub look_begins : (p : Parsed) (scopes : List code_scope.Scope) (name env : ℕ) → StillReaches p scopes name env env
look_begins p scopes name env = record { further = λ w x E same there named shown. (E, shown, refl) }

-- ---- the steps, over the tree that an index has

abbrev pub Says : Parsed → List code_scope.Scope → (name at : ℕ) → code_scope.Scope → Option code_meaning.Meaning → Type 0
Says p scopes name at s found =
    (w : World) (x : Name) (E : Env) → w.tree ≡ p → scope_in w.scopes at ≡ Some s → IsNamed w name x → ShowsEnv w at E
    → SaysOrPasses w found (lookup p.tokens E x) (lookup p.tokens (outer E) x)

pub definitions_say_in : (p : Parsed) (scopes : List code_scope.Scope) (id o env name : ℕ) (found : Option code_meaning.Meaning)
    → ((w : World) (x : Name) (E : Env) (m : Meaning) → w.tree ≡ p → id < size_of w.tree → IsNamed w name x → ShowsEnv w env E
    → SaysOrPasses w found (listed p x id E m) m)
    → Says p scopes name env (scope.Definitions id o) found
definitions_say_in p scopes id o env name found f w x E same h k m =
    subst (λ (q : Parsed). SaysOrPasses w found (lookup q.tokens E x) (lookup q.tokens (outer E) x)) same
    (definitions_say w id o env found x E h m (λ n inside.
    subst (λ (q : Parsed). SaysOrPasses w found (listed q x id E n) n) (sym same) (f w x E n same inside k m)))

-- what a list has under the number of a name
pub record IsFound (p : Parsed) (w : World) (x : Name) (list name : ℕ) (found : List Defined) : Type 0 where
  pub same : w.tree ≡ p
  pub inside : list < size_of w.tree
  pub named : IsNamed w name x
  pub are : list < size_of p → AreOfName p list name found

found_are : {p : Parsed} {w : World} {x : Name} {list name : ℕ} {found : List Defined} → IsFound p w x list name found
    → map (λ (d : Defined). tree_in p d.node) found ≡ filter (is_of p.tokens x) (items (tree_in p list))
found_are {p} {x = x} {list = list} {name = name} is =
    let i : list < size_of p = subst (λ (q : Parsed). list < size_of q) is.same is.inside in
    let n = subst (λ (q : Parsed). (text_of q.tokens name ≡ x) × (first_named q.tokens name ≡ name)) is.same is.named in
    is.are i name n.1 ∙ ap (λ t. filter (is_of p.tokens t) (items (tree_in p list))) n.0

-- what the definitions that were found make of the name
pub defined_says : {p : Parsed} {w : World} {x : Name} {list name : ℕ} {found : List Defined} (E : Env) (m : Meaning) (env count : ℕ) (d : Defined)
    (made : code_meaning.Meaning) → IsFound p w x list name found → ShowsEnv w env E → Some d ≡ slice_get found 0 → count ≡ length found
    → IsMade p list d.node count env made → ShowsMeaning w made (listed p x list E m)
defined_says {found = []} E m env count d made is shown first many makes = absurd (none-some d (sym first))
defined_says {p} {w} {x} {list} {found = y ∷ ys} E m env count d made is shown first many makes =
    let i : list < size_of p = subst (λ (q : Parsed). list < size_of q) is.same is.inside in
    let tr : Defined → Tree = λ e. tree_in p e.node in
    let f : filter (is_of p.tokens x) (items (tree_in p list)) ≡ tr d ∷ map tr ys =
    sym (found_are is) ∙ ap (λ e. tr e ∷ map tr ys) (sym (same_Some d y first)) in
    let long : count ≡ suc (length (map tr ys)) = omega (arith, many, length-map ys tr) in
    subst (λ ts. ShowsMeaning w made (or_else (definition_of p.tokens ts) E m)) (sym f) (makes w x E (map tr ys) m is.same i shown f long)

-- this is what the name stands for
abbrev pub Finds : Parsed → List code_scope.Scope → (name env : ℕ) → code_meaning.Meaning → Type 0
Finds p scopes name env m =
    (w : World) (x : Name) (E : Env) → w.tree ≡ p → w.scopes ≡ scopes → IsNamed w name x → ShowsEnv w env E → ShowsMeaning w m (lookup p.tokens E x)

-- a scope says it
pub look_finds : {p : Parsed} {scopes : List code_scope.Scope} {name env at : ℕ} {s : code_scope.Scope} (m : code_meaning.Meaning)
    → StillReaches p scopes name env at → Some s ≡ scope_in scopes at → Says p scopes name at s (Some m) → Finds p scopes name env m
look_finds {at = at} m reaches is says w x E same there named shown =
    let r = reaches.further w x E same there named shown in
    subst (ShowsMeaning w m) (sym r.2) (says w x r.0 same (ap (λ ss. scope_in ss at) there ∙ sym is) named r.1)

-- a scope passes it on
pub look_goes_on : {p : Parsed} {scopes : List code_scope.Scope} {name env at next : ℕ} {s : code_scope.Scope} → StillReaches p scopes name env at
    → Some s ≡ scope_in scopes at → Says p scopes name at s None → next ≡ outer_number s → StillReaches p scopes name env next
look_goes_on {at = at} {s = s} reaches is says out = record {
  further = λ w x E same there named shown.
      let r = reaches.further w x E same there named shown in
      let e = ap (λ ss. scope_in ss at) there ∙ sym is in
      (outer r.0, subst (λ n. ShowsEnv w n (outer r.0)) (sym out) (outer_shows w s at r.0 e r.1).1, r.2 ∙ says w x r.0 same e named r.1);
}

-- from there on further
pub look_further : {p : Parsed} {scopes : List code_scope.Scope} {name env at next : ℕ} → StillReaches p scopes name env at
    → StillReaches p scopes name at next → StillReaches p scopes name env next
look_further near far = record {
  further = λ w x E same there named shown.
      let r = near.further w x E same there named shown in
      let q = far.further w x r.0 same there named r.1 in
      (q.0, q.1, r.2 ∙ q.2);
}

-- a name has one number
one_number : (l : Lexed) (n m : ℕ) (x : Name) → (text_of l n ≡ x) × (first_named l n ≡ n) → (text_of l m ≡ x) × (first_named l m ≡ m) → n ≡ m
one_number l n m x a b =
    sym a.1 ∙ ap (first_with (texts_of l.tokens)) (a.0 ∙ sym b.0) ∙ b.1

-- a test of names that fails passes them on
passes : (b : Bool) (p q : Meaning) → (b ≡ true → ⊥) → cond b p q ≡ q
passes true p q h = absurd (h refl)
passes false p q h = refl

-- a scope that binds another name
other_name : (w : World) (n name o at : ℕ) (u : code_value.Value) (x : Name) (F : Env) → scope_in w.scopes at ≡ Some (scope.Bound n u o)
    → (n ≡ name → ⊥) → IsNamed w name x → ShowsEnv w at F → lookup w.tree.tokens F x ≡ lookup w.tree.tokens (outer F) x
other_name w n name o zero u x F h other named m = absurd (none-some _ h)
other_name w n name o (suc i) u x Outermost h other named m = refl
other_name w n name o (suc i) u x (Scope ds E) h other named m =
    let q : scope.Definitions m.0 m.1 ≡ scope.Bound n u o = same_Some _ _ (sym m.2 ∙ h) in absurd (cc)
other_name w n name o (suc i) u x (Bound y v E) h other named (j, l, k, inl m) =
    let q : scope.Bound m.0 m.1 j ≡ scope.Bound n u o = same_Some _ _ (sym m.2 ∙ h) in
    let a : m.0 ≡ n = cc in
    passes (bytes_eq y x) _ _ (λ t. other (sym a ∙ one_number w.tree.tokens m.0 name x (m.3.0 ∙ (bytes_eq-Decides y x).0 t, m.3.1) named))
other_name w n name o (suc i) u x (Bound y v E) h other named (j, l, k, inr m) =
    let q : scope.Slots m.node m.parameter m.slot j ≡ scope.Bound n u o = same_Some _ _ (sym m.kept ∙ h) in absurd (cc)

-- a scope that binds the name
pub bound_says : (w : World) (n o env : ℕ) (u : code_value.Value) (x : Name) (E : Env) → scope_in w.scopes env ≡ Some (scope.Bound n u o)
    → IsNamed w n x → ShowsEnv w env E → ShowsMeaning w (meaning.Known u) (lookup w.tree.tokens E x)
bound_says w n o env u x Outermost h named m =
    absurd (none-some _ (subst (λ i. scope_in w.scopes i ≡ Some (scope.Bound n u o)) (let z : env ≡ 0 = m in z) h))
bound_says w n o env u x (Scope ds E) h named m =
    let q : scope.Definitions m.0 m.1 ≡ scope.Bound n u o = same_Some _ _ (sym m.2 ∙ h) in absurd (cc)
bound_says w n o env u x (Bound y v E) h named (j, l, k, inl m) =
    let q : scope.Bound m.0 m.1 j ≡ scope.Bound n u o = same_Some _ _ (sym m.2 ∙ h) in
    let a : m.0 ≡ n = cc in
    let b : m.1 ≡ u = cc in
    let same : y ≡ x = sym m.3.0 ∙ ap (text_of w.tree.tokens) a ∙ named.0 in
    subst (λ t. ShowsMeaning w (meaning.Known u) (cond t (IsValue v) (lookup w.tree.tokens E x))) (sym ((bytes_eq-Decides y x).1 same))
    (subst (λ z. ShowsValue w z v) b m.4)
bound_says w n o env u x (Bound y v E) h named (j, l, k, inr m) =
    let q : scope.Slots m.node m.parameter m.slot j ≡ scope.Bound n u o = same_Some _ _ (sym m.kept ∙ h) in absurd (cc)

-- ---- a scope that binds a parameter to a slot

-- the environment begins with a parameter that is bound to this slot
record IsOnSlot (p : Parsed) (f k slot : ℕ) (E : Env) : Type 0 where
  pub name : Name
  pub value : Value
  pub around : Env
  pub is : E ≡ Bound name value around
  pub inside : f < size_of p
  pub named : slice_get (parameters_in p.tokens (tree_in p f)) k ≡ Some name
  pub slot_is : value ≡ Flat (Slot slot)

on_slot : (w : World) (f k slot o env : ℕ) (E : Env) → scope_in w.scopes env ≡ Some (scope.Slots f k slot o) → ShowsEnv w env E
    → IsOnSlot w.tree f k slot E
on_slot w f k slot o env Outermost h m =
    absurd (none-some _ (subst (λ i. scope_in w.scopes i ≡ Some (scope.Slots f k slot o)) (let z : env ≡ 0 = m in z) h))
on_slot w f k slot o env (Scope ds E) h m =
    let q : scope.Definitions m.0 m.1 ≡ scope.Slots f k slot o = same_Some _ _ (sym m.2 ∙ h) in absurd (cc)
on_slot w f k slot o env (Bound y v E) h (j, l, s, inl m) =
    let q : scope.Bound m.0 m.1 j ≡ scope.Slots f k slot o = same_Some _ _ (sym m.2 ∙ h) in absurd (cc)
on_slot w f k slot o env (Bound y v E) h (j, l, s, inr m) =
    let q : scope.Slots m.node m.parameter m.slot j ≡ scope.Slots f k slot o = same_Some _ _ (sym m.kept ∙ h) in
    let a : m.node ≡ f = cc in
    let b : m.parameter ≡ k = cc in
    let c : m.slot ≡ slot = cc in
    record {
      name = y;
      value = v;
      around = E;
      is = refl;
      inside = subst (λ n. n < size_of w.tree) a m.inside;
      named = subst (λ n. slice_get (parameters_in w.tree.tokens (tree_in w.tree n)) k ≡ Some y) a
          (subst (λ n. slice_get (parameters_in w.tree.tokens (tree_in w.tree m.node)) n ≡ Some y) b m.name);
      slot_is = m.value ∙ ap (λ n. Flat (Slot n)) c;
    }

-- it has the name
pub slot_says : (w : World) (f k slot o env name : ℕ) (x : Name) (E : Env) → scope_in w.scopes env ≡ Some (scope.Slots f k slot o)
    → TellsParameter w.tree f k name true → IsNamed w name x → ShowsEnv w env E → ShowsMeaning w (meaning.Slot slot) (lookup w.tree.tokens E x)
slot_says w f k slot o env name x E h tells named shown =
    let l = w.tree.tokens in
    let s = on_slot w f k slot o env E h shown in
    let same : s.name ≡ x = sym (tells s.name s.inside s.named named.1) ∙ named.0 in
    subst (λ F. ShowsMeaning w (meaning.Slot slot) (lookup l F x)) (sym s.is)
    (subst (λ t. ShowsMeaning w (meaning.Slot slot) (cond t (IsValue s.value) (lookup l s.around x))) (sym ((bytes_eq-Decides s.name x).1 same)) s.slot_is)

-- it has another one
pub slot_passes : (w : World) (f k slot o env name : ℕ) (x : Name) (E : Env) → scope_in w.scopes env ≡ Some (scope.Slots f k slot o)
    → TellsParameter w.tree f k name false → IsNamed w name x → ShowsEnv w env E
    → lookup w.tree.tokens E x ≡ lookup w.tree.tokens (outer E) x
slot_passes w f k slot o env name x E h tells named shown =
    let l = w.tree.tokens in
    let s = on_slot w f k slot o env E h shown in
    let apart = tells s.name s.inside s.named named.1 in
    subst (λ F. lookup l F x ≡ lookup l (outer F) x) (sym s.is)
    (passes (bytes_eq s.name x) _ _ (λ t. apart (named.0 ∙ sym ((bytes_eq-Decides s.name x).0 t))))

-- whether it has the name, by the number of its own
pub parameter_tells : (p : Parsed) (f k name n : ℕ)
    → (0 < length (parameters_in p.tokens (tree_in p f)) → ShowsName p.tokens (Some n) (slice_get (parameters_in p.tokens (tree_in p f)) k))
    → (n ≡ name → TellsParameter p f k name true) × ((n ≡ name → ⊥) → TellsParameter p f k name false)
parameter_tells p f k name n shows = (
  λ e x l at first. let s = named x at in ap (text_of p.tokens) (sym e) ∙ s.0,
  λ apart x l at first text. let s = named x at in apart (one_number p.tokens n name x s (text, first)),
)
  where
    named : (x : Name) → slice_get (parameters_in p.tokens (tree_in p f)) k ≡ Some x → (text_of p.tokens n ≡ x) × (first_named p.tokens n ≡ n)
    named x at =
        let names = parameters_in p.tokens (tree_in p f) in
        let some : 0 < length names = omega (arith, slice_get_within names k x at) in
        subst (ShowsName p.tokens (Some n)) at (shows some)

-- where there is no parameter with this number, none has it
pub no_parameter_tells : (p : Parsed) (f k name : ℕ)
    → (0 < length (parameters_in p.tokens (tree_in p f)) → ShowsName p.tokens None (slice_get (parameters_in p.tokens (tree_in p f)) k))
    → TellsParameter p f k name false
no_parameter_tells p f k name shows x l at first =
    let names = parameters_in p.tokens (tree_in p f) in
    let some : 0 < length names = omega (arith, slice_get_within names k x at) in
    absurd (subst (ShowsName p.tokens None) at (shows some))

-- a scope that binds another name has nothing of this one
pub another_bound : (p : Parsed) (name env n o : ℕ) (u : code_value.Value) → (n ≡ name → ⊥) → HasNothing p name env (scope.Bound n u o)
another_bound p name env n o u other w x E same is named shown =
    subst (λ (q : Parsed). lookup q.tokens E x ≡ lookup q.tokens (outer E) x) same (other_name w n name o env u x E is other named shown)

-- no environment stands around itself
pub look_stops : {p : Parsed} {scopes : List code_scope.Scope} {name env at next : ℕ} {s : code_scope.Scope} (m : code_meaning.Meaning)
    → StillReaches p scopes name env at → Some s ≡ scope_in scopes at → next ≡ outer_number s → at ≤ next → Finds p scopes name env m
look_stops {at = at} {s = s} m reaches is out far w x E same there named shown =
    let r = reaches.further w x E same there named shown in
    let l = (outer_shows w s at r.0 (ap (λ ss. scope_in ss at) there ∙ sym is) r.1).0 in absurd (omega (arith, l, out, far))

-- the outermost environment has nothing
pub look_ends : {p : Parsed} {scopes : List code_scope.Scope} {name env at : ℕ} → StillReaches p scopes name env at → None ≡ scope_in scopes at
    → Finds p scopes name env meaning.Unknown
look_ends {p} {at = at} reaches is w x E same there named shown =
    let r = reaches.further w x E same there named shown in
    let o = no_scope w at r.0 (ap (λ ss. scope_in ss at) there ∙ sym is) r.1 in
    subst (ShowsMeaning w meaning.Unknown) (sym (r.2 ∙ ap (λ F. lookup p.tokens F x) o)) tt
