-- A pass over a whole graph rebuilds it.
use Rattle.std.proofs.Common.{◌≡◌, ◌⊎◌, ℕ, zero, suc, ◌+◌, ◌<◌, ◌≤◌, List, [], ◌∷◌, length, take, map, get_or, refl, sym, ap, ◌∙◌, subst, arith, inl, inr, ℤ}
use Rattle.std.proofs.Common.{pos, Bool}
use Rattle.std.specs.Prelude.{Option}
use Rattle.std.proofs.lemmas.List.{get_or-map, get_or-take, length-take}
use Rattle.fv_base.specs.headline.Lists.{IsPrefixOf}
use Rattle.fv_base.proofs.lemmas.Lists.{prefix_refl}
use Rattle.fv_signal.specs.declared.signal.Signal.{Signal}
use Rattle.fv_signal.specs.declared.signal.Signal.TheVariants.{Const, Back}
use Rattle.fv_signal.specs.headline.Value.{Graph, members, definition, IsGraph}
use Rattle.fv_base.proofs.lemmas.Lists.{length_table, get_or_table}
use Rattle.fv_share.specs.Drafts.{Draft, with_groups, with_tables, with_members, with_all_members, AreShut}
use Rattle.fv_share.proofs.lemmas.Groups.{groups_stay}
use Rattle.fv_share.proofs.lemmas.Puts.{put_stands}
use Rattle.fv_simplify.specs.Nodes.{node}
use Rattle.fv_simplify.specs.Rebuilt.{IsImage, IsMarked, IsRebuilt}
use Rattle.fv_simplify.specs.Passing.{so_far}
use Rattle.fv_simplify.specs.Runs.{Pass, definitions, nothing, begun, passed, rebuilt, AreGood}
use Rattle.fv_simplify.proofs.Along.{steps_long, along, there_all}
use Rattle.fv_simplify.proofs.Made.{made_all}
use Rattle.fv_simplify.proofs.Rest.{are_marked, are_pending, are_tabled}

members_tables : (d : Draft) (first : ℕ) (lists : List (List ℕ)) → (with_all_members d first lists).tables ≡ d.tables
members_tables d first [] = refl
members_tables d first (list ∷ lists) = members_tables (with_members d first list) (suc first) lists

opened_signals : (n : ℕ) → (with_groups nothing n).signals ≡ []
opened_signals zero = refl
opened_signals (suc n) = opened_signals n

-- the images of a group's members
abbrev pub list_at : Graph → (widths images : List ℕ) → ℕ → List ℕ
list_at g widths images n = map (λ r. get_or images r 0) (take (get_or widths n 0) (members g n))

-- ---- all of it

module _ (g : Graph) (marks : List Bool) (widths : List ℕ) (room : ℕ → Option ℕ) (whole : IsGraph g) (good : AreGood g marks widths)
    (made : IsGraph (rebuilt g marks widths room)) where
  abbrev f : Graph
  f = rebuilt g marks widths room

  abbrev end : Pass
  end = passed g marks room

  images_long : length end.images ≡ length g.signals
  images_long = let e = steps_long g marks room (begun g) g.signals in let z : 0 + length g.signals ≡ length g.signals = omega arith in e ∙ z

  abbrev lists : List (List ℕ)
  lists = definitions g widths end.images

  shut : AreShut end.draft (with_all_members end.draft 0 lists) 0 lists
  shut =
      (groups_stay end.draft).1 (are_marked g marks room g.signals) 0 lists
      (λ k l. are_pending g marks room g.signals (0 + k) (omega (arith, l, length_table (length g.groups) (list_at g widths end.images))))

  signals_are : f.signals ≡ end.draft.signals
  signals_are = shut.signals

  list_is : (group : ℕ) → group < length g.groups → members f group ≡ list_at g widths end.images group
  list_is group l =
      let at : group ≡ 0 + group = omega arith in
      ap (λ k. get_or f.groups k []) at ∙ shut.its group (omega (arith, l, length_table (length g.groups) (list_at g widths end.images)))
      ∙ get_or_table (length g.groups) (list_at g widths end.images) group [] l

  definition_is : (group k : ℕ) → group < length g.groups → k < get_or widths group 0 → k < length (members g group)
      → definition f group k ≡ get_or end.images (definition g group k) 0
  definition_is group k l m n =
      ap (λ ms. get_or ms k 0) (list_is group l)
      ∙ get_or-map (λ r. get_or end.images r 0) (take (get_or widths group 0) (members g group)) k 0 0
      (omega (arith, m, n, length-take (get_or widths group 0) (members g group)))
      ∙ ap (λ r. get_or end.images r 0) (get_or-take (get_or widths group 0) (members g group) k 0 m)

  backs : (s group k : ℕ) → s < length g.signals → IsMarked marks s → node g s ≡ Back group k
      → definition f group k ≡ get_or end.images (definition g group k) 0
  backs s group k l m e = let w = good.named s group k l m e in definition_is group k w.0 w.1 w.2

  begun_some : 0 < length (begun g).draft.signals
  begun_some = let p = put_stands (with_tables (with_groups nothing (length g.groups)) g.tables) (Const (pos 0)) in let w = p.within in omega (arith, w)

  all_signals : (s : ℕ) → 0 + s ≡ s
  all_signals s = omega arith

  has : IsPrefixOf end.draft.signals f.signals
  has = subst (IsPrefixOf end.draft.signals) (sym signals_are) (prefix_refl end.draft.signals)

  image_at : (s : ℕ) → s < length g.signals → IsMarked marks s → IsImage g f (λ a. get_or end.images a 0) room (node g s) (get_or end.images s 0)
  image_at s l m =
      let z = all_signals s in
      subst (λ k. IsImage g f (λ a. get_or end.images a 0) room (node g s) (get_or end.images k 0)) z
      (along g marks room f made.ordered whole good.wide end.images backs (begun g) g.signals (refl, has) begun_some (λ a b. absurd (omega (arith, b)))
      (all_signals (length g.signals))
      (λ i b. ap (node g) (sym (all_signals i))) s l (subst (IsMarked marks) (sym z) m))

  -- the signals that are there from the beginning
  first_made : (j : ℕ) → j < length (begun g).draft.signals
      → ((z : ℤ) × (node (so_far (begun g).draft) j ≡ Const z)) ⊎ ((k : ℕ) × (k < 0) × IsMarked marks k × (0 ≡ j))
  first_made j l =
      let d = with_tables (with_groups nothing (length g.groups)) g.tables in
      let p = put_stands d (Const (pos 0)) in
      let none : length d.signals ≤ j = omega (arith, ap (λ (ss : List Signal). length ss) (opened_signals (length g.groups))) in
      inl (pos 0, ap (λ i. get_or (begun g).draft.signals i (Const (pos 0))) (p.alone j l none) ∙ p.stands (Const (pos 0)))

  made_at : (i : ℕ) → i < length f.signals → ((n : ℤ) × (node f i ≡ Const n)) ⊎ ((s : ℕ) × (s < length g.signals) × IsMarked marks s
      × (get_or end.images s 0 ≡ i))
  made_at i l = elim (made_all g marks room (begun g) g.signals start i (subst (λ ss. i < length ss) signals_are l)) [
    | inl a ↦ inl (a.0, ap (λ ss. get_or ss i (Const (pos 0))) signals_are ∙ a.1)
    | inr a ↦ let b = a.1 in inr (a.0, omega (arith, b, images_long), a.2, a.3)
  ]
    where
      start : (j : ℕ) → j < length (begun g).draft.signals
          → ((z : ℤ) × (node (so_far (begun g).draft) j ≡ Const z)) ⊎ ((k : ℕ) × (k < length (begun g).images) × IsMarked marks k
          × (get_or (begun g).images k 0 ≡ j))
      start j l = elim (first_made j l) [ inl a ↦ inl a | inr a ↦ (let b = a.1 in absurd (omega (arith, b))) ]

  there : (s : ℕ) → s < length g.signals → get_or end.images s 0 < length f.signals
  there s l =
      subst (λ ss. get_or end.images s 0 < length ss) (sym signals_are)
      (there_all g marks room f made.ordered whole good.wide end.images backs (begun g) g.signals has begun_some (λ a b. absurd (omega (arith, b)))
      (all_signals (length g.signals))
      (λ i b. ap (node g) (sym (all_signals i))) s (omega (arith, l, images_long)))

  pub rebuilt_is : IsRebuilt g f (λ a. get_or end.images a 0) room (IsMarked marks)
  rebuilt_is = record {
    graph = made;
    closed = good.reads;
    there = λ s l m. there s l;
    images = image_at;
    made = made_at;
    outputs = refl;
    tables = members_tables end.draft 0 lists ∙ are_tabled g marks room g.signals;
    needed = good.outputs;
  }
