-- The groups and the graph at the end of a pass.
use Rattle.std.proofs.Common.{◌≡◌, ℕ, zero, suc, ◌+◌, ◌<◌, ◌≤◌, List, [], ◌∷◌, ◌++◌, length, take, map, get_or}
use Rattle.std.proofs.Common.{refl, sym, ap, ap₂, ◌∙◌, subst, arith, inl, inr, pos, All, Bool, false}
use Rattle.std.proofs.Common.{Vec, Global}
use Rattle.std.specs.Prelude.{Option, Result, Ok, Err, IfOk, OnOk}
use Rattle.std.proofs.lemmas.Bool.{cases_lt}
use Rattle.std.proofs.lemmas.List.{length_push, get_or_push, get_or_append_left, length-append, length-map, length-take, map_push}
use Rattle.std.proofs.lemmas.List.Elements.{All-get_or, All-from_get_or, All-map, All-take}
use Rattle.fv_base.specs.headline.Lists.{table}
use Rattle.fv_base.proofs.lemmas.Lists.{length_table, get_or_table}
use Rattle.fv_signal.specs.declared.signal.Signal.{Signal}
use Rattle.fv_signal.specs.declared.signal.Signal.TheVariants.{Const}
use Rattle.fv_signal.specs.headline.Value.{Graph, members, definition, IsGraph}
use Rattle.fv_share.specs.Drafts.{AreClosed, AreShut, BacksWithin, CanClose, graph_of, lists_in, with_groups, with_tables, with_all_members}
use Rattle.fv_share.proofs.lemmas.Groups.{groups_stay}
use Rattle.fv_share.proofs.lemmas.Puts.{put_stands}
use Rattle.fv_simplify.specs.Rebuilt.{IsMarked, IsRebuilt}
use Rattle.fv_simplify.specs.Runs.{Pass, step, steps, definitions, nothing, begun, passed, rebuilt, AreGood}
use Rattle.fv_simplify.proofs.Along.{steps_grow, steps_long}
use Rattle.fv_simplify.proofs.Rest.{are_marked, are_pending, groups_long, steps_backs, begun_backs}
use Rattle.fv_simplify.proofs.Whole.{list_at, rebuilt_is}

-- one list more
pub lists_push : (rows : List (Vec ℕ Global)) (row : Vec ℕ Global) (f : ℕ → List ℕ) (n : ℕ) → lists_in rows ≡ table n f → row.items ≡ f n
    → lists_in (rows ++ row ∷ []) ≡ table (n + 1) f
lists_push rows row f n e i =
    let more : suc n ≡ n + 1 = omega arith in
    map_push (λ (r : Vec ℕ Global). r.items) rows row ∙ ap₂ (λ (ls : List (List ℕ)) l. ls ++ l ∷ []) e i ∙ ap (λ k. table k f) more

-- one item more, where there are no fewer places
pub all_push : (n m : ℕ) (xs : List ℕ) (x : ℕ) → n ≤ m → All (λ a. a < n) xs → x < m → All (λ a. a < m) (xs ++ x ∷ [])
all_push n m xs x h all l k d b = elim (cases_lt k (length xs)) [
  | inl a ↦ subst (λ i. i < m) (sym (get_or_append_left xs (x ∷ []) d k a)) (let o = all k d a in omega (arith, o, h))
  | inr a ↦
      let at : length xs ≡ k = omega (arith, a, b, length_push xs x) in
      subst (λ i. i < m) (sym (get_or_push xs x d k at)) l
]

-- what follows from both clauses of an answer
pub both_ok : {A E : Type 0} (r : Result A E) (P : A → Type 0) (Q : Type 0) (R : A → Type 0) → ((x : A) → P x → Q → R x) → IfOk r P → OnOk r Q → IfOk r R
both_ok (Ok x) P Q R f p q = f x p q
both_ok (Err e) P Q R f p q = tt

module _ (g : Graph) (marks : List Bool) (room : ℕ → Option ℕ) where
  steps_suc : (s : Pass) (ns : List Signal) (n : ℕ) → n < length ns
      → steps g marks room s (take (suc n) ns) ≡ step g marks room (steps g marks room s (take n ns)) (get_or ns n (Const (pos 0)))
  steps_suc s [] n l = absurd (omega (arith, l))
  steps_suc s (x ∷ ns) zero l = refl
  steps_suc s (x ∷ ns) (suc n) l = steps_suc (step g marks room s x) ns n (omega (arith, l))

  -- one signal more
  pub steps_more : (s : Pass) (ns : List Signal) (n : ℕ) → n < length ns
      → steps g marks room s (take (n + 1) ns) ≡ step g marks room (steps g marks room s (take n ns)) (get_or ns n (Const (pos 0)))
  steps_more s ns n l = let more : n + 1 ≡ suc n = omega arith in ap (λ k. steps g marks room s (take k ns)) more ∙ steps_suc s ns n l

  -- as many images as signals, and some signals
  pub images_long : (n : ℕ) → n ≤ length g.signals → length (steps g marks room (begun g) (take n g.signals)).images ≡ n
  images_long n l = omega (arith, l, steps_long g marks room (begun g) (take n g.signals), length-take n g.signals)

  pub some_signals : (ns : List Signal) → 0 < length (steps g marks room (begun g) ns).draft.signals
  some_signals ns =
      let grow = (steps_grow g marks room (begun g) ns).0 in
      let first = (put_stands (with_tables (with_groups nothing (length g.groups)) g.tables) (Const (pos 0))).within in
      omega (arith, first, ap length grow.is ∙ length-append (begun g).draft.signals grow.rest)

  pub passed_long : length (passed g marks room).images ≡ length g.signals
  passed_long = let e = steps_long g marks room (begun g) g.signals in let z : 0 + length g.signals ≡ length g.signals = omega arith in e ∙ z

  module _ (widths : List ℕ) (whole : IsGraph g) (good : AreGood g marks widths) (p : Pass) (is : passed g marks room ≡ p) where
    abbrev lists : List (List ℕ)
    lists = definitions g widths p.images

    list_is : (k : ℕ) → k < length g.groups → get_or lists k [] ≡ list_at g widths p.images k
    list_is k l = get_or_table (length g.groups) (list_at g widths p.images) k [] l

    lists_long : length lists ≡ length g.groups
    lists_long = length_table (length g.groups) (list_at g widths p.images)

    long : length p.images ≡ length g.signals
    long = ap (λ (q : Pass). length q.images) (sym is) ∙ passed_long

    backs : (k : ℕ) → k < length g.groups → BacksWithin p.draft k (length (list_at g widths p.images k))
    backs k l =
        let ms = members g k in
        let wide : length (list_at g widths p.images k) ≡ length (take (get_or widths k 0) ms) =
        length-map (take (get_or widths k 0) ms) (λ r. get_or p.images r 0) in
        subst (λ (q : Pass). BacksWithin q.draft k (length (list_at g widths p.images k))) is
        (steps_backs k (length (list_at g widths p.images k)) g marks room (begun g) g.signals
        (λ i j m marked e. let at : 0 + i ≡ i = omega arith in
        let n = good.named i k j m (subst (IsMarked marks) at marked) e in
        let b = n.1 in
        let a = n.2 in
        omega (arith, a, b, wide, length-take (get_or widths k 0) ms))
        (begun_backs k (length (list_at g widths p.images k)) g marks room))

    -- what closing the groups asks
    pub can_close : All (λ a. a < length p.draft.signals) p.images → CanClose p.draft 0 lists
    can_close there = record {
      pending = λ k l. subst (λ (q : Pass). (0 + k < length q.draft.groups) × (get_or q.draft.closed (0 + k) false ≡ false)) is
          (are_pending g marks room g.signals (0 + k) (omega (arith, l, lists_long)));
      members = λ k l. let m : k < length g.groups = omega (arith, l, lists_long) in
          subst (All (λ s. s < length p.draft.signals)) (sym (list_is k m))
          (All-map (λ s. s < length p.draft.signals) (λ r. get_or p.images r 0) (take (get_or widths k 0) (members g k))
          (All-take (λ r. get_or p.images r 0 < length p.draft.signals) (get_or widths k 0) (members g k)
          (All-from_get_or (λ r. get_or p.images r 0 < length p.draft.signals) (members g k) 0
          (λ i n. All-get_or (λ a. a < length p.draft.signals) p.images (definition g k i) 0
          (let d = whole.defined k i m n in omega (arith, d, long)) there))));
      backs = λ k l. let m : k < length g.groups = omega (arith, l, lists_long) in
          let at : k ≡ 0 + k = omega arith in
          subst (λ j. BacksWithin p.draft j (length (get_or lists k []))) at
          (subst (λ ms. BacksWithin p.draft k (length ms)) (sym (list_is k m)) (backs k m));
    }

    shut : AreShut p.draft (with_all_members p.draft 0 lists) 0 lists
    shut =
        let q : length p.draft.closed ≡ length p.draft.groups =
        subst (λ (q : Pass). length q.draft.closed ≡ length q.draft.groups) is (are_marked g marks room g.signals) in
        (groups_stay p.draft).1 q 0 lists
        (λ k l. subst (λ (q : Pass). (0 + k < length q.draft.groups) × (get_or q.draft.closed (0 + k) false ≡ false)) is
        (are_pending g marks room g.signals (0 + k) (omega (arith, l, lists_long))))

    -- all groups are closed then, and no signal comes
    pub all_closed : AreClosed (with_all_members p.draft 0 lists)
    all_closed k l =
        let at : 0 + k ≡ k = omega arith in
        let many : length p.draft.groups ≡ length g.groups = ap (λ (q : Pass). length q.draft.groups) (sym is) ∙ groups_long g marks room g.signals in
        let s = shut.shut k (omega (arith, l, shut.long, many, lists_long)) in
        ap (λ j. get_or (with_all_members p.draft 0 lists).closed j false) (sym at) ∙ s.1

    pub same_signals : (with_all_members p.draft 0 lists).signals ≡ p.draft.signals
    same_signals = shut.signals

    -- what is made then
    pub is_rebuilt : (h : Graph) → h ≡ graph_of (with_all_members p.draft 0 lists) (map (λ r. get_or p.images r 0) g.outputs) → IsGraph h
        → (q : ℕ → ℕ) × IsRebuilt g h q room (IsMarked marks)
    is_rebuilt h e made =
        let same : h ≡ rebuilt g marks widths room =
        e ∙ ap (λ (q : Pass). graph_of (with_all_members q.draft 0 (definitions g widths q.images)) (map (λ r. get_or q.images r 0) g.outputs)) (sym is) in
        let r = rebuilt_is g marks widths room whole good (subst IsGraph same made) in
        let p = λ (a : ℕ). get_or (passed g marks room).images a 0 in
        (p, subst (λ f. IsRebuilt g f p room (IsMarked marks)) (sym same) r)
