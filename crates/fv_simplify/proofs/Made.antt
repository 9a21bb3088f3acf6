-- Each signal that a pass puts is a number, or the image of a marked signal.
use Rattle.std.proofs.Common.{◌≡◌, ◌⊎◌, ℕ, ◌+◌, ◌<◌, ◌≤◌, List, [], ◌∷◌, length, take, map, get_or, refl, sym, ap, ◌∙◌, subst, arith, inl, inr, ℤ, pos, Some}
use Rattle.std.proofs.Common.{None, true, false, Bool, if◌then◌else◌, nat_eq}
use Rattle.std.specs.Prelude.{Option}
use Rattle.std.proofs.lemmas.Bool.{cases_lt}
use Rattle.std.proofs.lemmas.List.{get_or_append_left, get_or_push, length_push}
use Rattle.fv_num.specs.declared.op.Op.{Op}
use Rattle.fv_num.specs.headline.Words.{apply_of, inputs_of}
use Rattle.fv_signal.specs.declared.signal.Signal.{Signal}
use Rattle.fv_signal.specs.declared.signal.Signal.TheVariants.{Input, Const, Control, Point, Delay, Back, Member, Read, Write}
use Rattle.fv_signal.specs.headline.Value.{Graph, definition, back_by}
use Rattle.fv_share.specs.Drafts.{Draft, put, IsPut}
use Rattle.fv_share.proofs.lemmas.Puts.{put_stands}
use Rattle.fv_simplify.specs.Choices.{choice}
use Rattle.fv_simplify.specs.Nodes.{node, number_at, known, numbers}
use Rattle.fv_simplify.specs.Rebuilt.{base, IsMarked}
use Rattle.fv_simplify.specs.Passing.{so_far, is_zero, put_late, late, delayed_by, chosen, folded, image_of}
use Rattle.fv_simplify.specs.Runs.{Pass, step, steps}
use Rattle.fv_simplify.proofs.Along.{Steps, stepped}

-- a number, or the one that is answered, or one that was there
abbrev Fresh : Draft → ℕ × Draft → Type 0
Fresh d r = (j : ℕ) → j < length r.1.signals → (j < length d.signals) ⊎ ((z : ℤ) × (node (so_far r.1) j ≡ Const z)) ⊎ (j ≡ r.0)

old_only : (d : Draft) (i : ℕ) → Fresh d (i, d)
old_only d i j l = inl l

fresh_put : (d : Draft) (n : Signal) → Fresh d (put d n)
fresh_put d n j l = elim (cases_lt j (length d.signals)) [ inl a ↦ inl a | inr a ↦ inr (inr ((put_stands d n).alone j l a)) ]

fresh_late : (d : Draft) (x by : ℕ) (b : Bool) → Fresh d (if b then (x, d) else put_late d x by)
fresh_late d x by true = old_only d x
fresh_late d x by false = go (put d (Const (pos by))) (put_stands d (Const (pos by)))
  where
    go : (one : ℕ × Draft) → IsPut d (Const (pos by)) one → Fresh d (put one.1 (Delay x one.0 by))
    go one p j l = elim (cases_lt j (length one.1.signals)) [
      | inr a ↦ inr (inr ((put_stands one.1 (Delay x one.0 by)).alone j l a))
      | inl a ↦ elim (cases_lt j (length d.signals)) [
        | inl b ↦ inl b
        | inr b ↦
            let k = (put_stands one.1 (Delay x one.0 by)).keeps in
            let e = p.alone j a b in
            inr (inl (
              pos by,
              ap (λ ss. get_or ss j (Const (pos 0))) k.is ∙ get_or_append_left one.1.signals k.rest (Const (pos 0)) j a
                  ∙ ap (λ i. get_or one.1.signals i (Const (pos 0))) e ∙ p.stands (Const (pos 0)),
            ))
      ]
    ]

fresh_number : (d : Draft) (room : Option ℕ) (x by : ℕ) (b : Bool)
    → Fresh d (if b then (x, d) else late d (base (so_far d) room x).0 ((base (so_far d) room x).1 + by))
fresh_number d room x by true = old_only d x
fresh_number d room x by false = let b = base (so_far d) room x in fresh_late d b.0 (b.1 + by) (is_zero (number_at (so_far d) b.0))

fresh_delay : (d : Draft) (room : Option ℕ) (x by most : ℕ) (k : Option ℤ) → Fresh d (delayed_by d room x by most k)
fresh_delay d room x by most (Some c) = fresh_number d room x (back_by most c) (nat_eq (back_by most c) 0)
fresh_delay d room x by most None = go (is_zero (number_at (so_far d) x))
  where
    go : (b : Bool) → Fresh d (if b then (x, d) else put d (Delay x by most))
    go true = old_only d x
    go false = fresh_put d (Delay x by most)

fresh_chosen : (d : Draft) (op : Op) (args : List ℕ) (k : Option ℕ) → Fresh d (chosen d op args k)
fresh_chosen d op args (Some i) = old_only d (get_or args i 0)
fresh_chosen d op args None = fresh_put d (Point op args)

fresh_operation : (d : Draft) (op : Op) (args : List ℕ) (k : Option (List ℤ)) → Fresh d (folded d op args k)
fresh_operation d op args (Some ns) = fresh_put d (Const (apply_of op ns))
fresh_operation d op args None = fresh_chosen d op args (choice op (known (so_far d) (take (inputs_of op) args)))

fresh_image : (g : Graph) (images : List ℕ) (room : ℕ → Option ℕ) (d : Draft) (n : Signal) → Fresh d (image_of g images room d n)
fresh_image g images room d (Input k) = fresh_put d (Input k)
fresh_image g images room d (Const k) = fresh_put d (Const k)
fresh_image g images room d (Control k) = fresh_put d (Control k)
fresh_image g images room d (Back group k) = fresh_put d (Back group k)
fresh_image g images room d (Member group k) = old_only d (get_or images (definition g group k) 0)
fresh_image g images room d (Read table r) = fresh_put d (Read table (get_or images r 0))
fresh_image g images room d (Write table w x r) = fresh_put d (Write table (get_or images w 0) (get_or images x 0) (get_or images r 0))
fresh_image g images room d (Delay x by most) = fresh_delay d (room x) (get_or images x 0) (get_or images by 0) most (number_at (so_far d) (get_or images by 0))
fresh_image g images room d (Point op args) = let ws = map (λ a. get_or images a 0) args in
    fresh_operation d op ws (numbers (so_far d) (take (inputs_of op) ws))

module _ (g : Graph) (marks : List Bool) (room : ℕ → Option ℕ) where
  -- each signal so far is a number, or the image of a marked signal so far
  abbrev pub AreMade : Pass → Type 0
  AreMade s = (j : ℕ) → j < length s.draft.signals
      → ((z : ℤ) × (node (so_far s.draft) j ≡ Const z)) ⊎ ((k : ℕ) × (k < length s.images) × IsMarked marks k × (get_or s.images k 0 ≡ j))

  made_next : (s t : Pass) (n : Signal) → Steps g marks room s n t → AreMade s → AreMade t
  made_next s t n r h j l = elim (cases_lt j (length s.draft.signals)) [
    | inl a ↦ elim (h j a) [
      | inl q ↦ inl (q.0, ap (λ ss. get_or ss j (Const (pos 0))) r.grows.is ∙ get_or_append_left s.draft.signals r.grows.rest (Const (pos 0)) j a ∙ q.1)
      | inr q ↦
          let b = q.1 in
          inr (
            q.0,
            omega (arith, b, ap length r.images ∙ length_push s.images r.image),
            q.2,
            ap (λ xs. get_or xs q.0 0) r.images
                ∙ get_or_append_left s.images (r.image ∷ []) 0 q.0 b ∙ q.3,
          )
    ]
    | inr a ↦ new (get_or marks (length s.images) false) refl a
  ]
    where
      new : (b : Bool) → get_or marks (length s.images) false ≡ b → length s.draft.signals ≤ j
          → ((z : ℤ) × (node (so_far t.draft) j ≡ Const z)) ⊎ ((k : ℕ) × (k < length t.images) × IsMarked marks k × (get_or t.images k 0 ≡ j))
      new false e a =
          let z = r.left (λ m. let w = sym e ∙ m in absurd cc) in
          let same : length t.draft.signals ≡ length s.draft.signals = ap (λ (d : Draft). length d.signals) z.1 in
          absurd (omega (arith, same, l, a))
      new true e a =
          let f : Fresh s.draft (r.image, t.draft) = subst (Fresh s.draft) (sym (r.marked e)) (fresh_image g s.images room s.draft n) in
          elim (f j l) [
            | inl b ↦ absurd (omega (arith, a, b))
            | inr b ↦ elim b [
              | inl q ↦ inl q
              | inr q ↦
                  inr (
                    length s.images,
                    omega (arith, ap length r.images ∙ length_push s.images r.image),
                    e,
                    ap (λ xs. get_or xs (length s.images) 0) r.images
                        ∙ get_or_push s.images r.image 0 (length s.images) refl ∙ sym q,
                  )
            ]
          ]

  pub made_all : (s : Pass) (ns : List Signal) → AreMade s → AreMade (steps g marks room s ns)
  made_all s [] h = h
  made_all s (n ∷ ns) h = made_all (step g marks room s n) ns (made_next s (step g marks room s n) n (stepped g marks room s n) h)
