-- The images that a pass makes, all along a graph.
use Rattle.std.proofs.Common.{◌≡◌, ℕ, zero, suc, ◌+◌, ◌<◌, List, [], ◌∷◌, ◌++◌, length, take, map, get_or, refl, sym, ap, ap₂, ◌∙◌, subst, arith, inl, inr, ℤ}
use Rattle.std.proofs.Common.{pos, All, Some, None, true, false, Bool, if◌then◌else◌, nat_eq}
use Rattle.std.specs.Prelude.{Option}
use Rattle.std.proofs.lemmas.Bool.{cases_lt}
use Rattle.std.proofs.lemmas.List.{get_or_append_left, get_or_push, get_or_past, length_push, length-append, append_assoc}
use Rattle.std.proofs.lemmas.List.Elements.{All-head, All-tail, All-get_or, All-from_get_or, All-map}
use Rattle.fv_base.specs.headline.Lists.{IsPrefixOf}
use Rattle.fv_base.proofs.lemmas.Lists.{prefix_refl, prefix_trans}
use Rattle.fv_num.specs.declared.op.Op.{Op}
use Rattle.fv_num.specs.headline.Words.{apply_of, inputs_of}
use Rattle.fv_signal.specs.declared.signal.Signal.{Signal}
use Rattle.fv_signal.specs.declared.signal.Signal.TheVariants.{Input, Const, Control, Point, Delay, Back, Member, Read, Write}
use Rattle.fv_signal.specs.headline.Value.{Graph, definition, OperandsBelow, IsOrdered, IsGraph, back_by}
use Rattle.fv_share.specs.Drafts.{Draft, put}
use Rattle.fv_share.proofs.lemmas.Puts.{put_stands}
use Rattle.fv_simplify.specs.Choices.{choice}
use Rattle.fv_simplify.specs.Nodes.{node, number_at, known, numbers}
use Rattle.fv_simplify.specs.Rebuilt.{base, IsPointImage, IsDelayImage, IsImage, IsMarked}
use Rattle.fv_simplify.specs.Passing.{HasWidth, so_far, is_zero, put_late, late, delayed_by, chosen, folded, image_of}
use Rattle.fv_simplify.specs.Runs.{Pass, step, steps}
use Rattle.fv_simplify.proofs.lemmas.Origins.{Taken, Itself, Over, base_cases}
use Rattle.fv_simplify.proofs.Images.{image_is, put_at}

map_alike : (k : ℕ) (p q : ℕ → ℕ) (args : List ℕ) → All (λ a. a < k) args → ((a : ℕ) → a < k → p a ≡ q a) → map p args ≡ map q args
map_alike k p q [] o e = refl
map_alike k p q (a ∷ args) o e = ap₂ (λ x xs. x ∷ xs) (e a (All-head (λ a. a < k) a args o)) (map_alike k p q args (All-tail (λ a. a < k) a args o) e)

-- ---- drafts grow

after_put : (d : Draft) (n : Signal) → IsPrefixOf d.signals (put d n).1.signals
after_put d n = (put_stands d n).keeps

after_late : (d : Draft) (x by : ℕ) (b : Bool) → IsPrefixOf d.signals (let r : ℕ × Draft = if b then (x, d) else put_late d x by in r.1.signals)
after_late d x by true = prefix_refl d.signals
after_late d x by false = let one = put d (Const (pos by)) in
    prefix_trans d.signals one.1.signals (put one.1 (Delay x one.0 by)).1.signals (after_put d (Const (pos by))) (after_put one.1 (Delay x one.0 by))

after_number : (d : Draft) (room : Option ℕ) (x by : ℕ) (b : Bool) →
    IsPrefixOf d.signals (let r : ℕ × Draft = if b then (x, d) else late d (base (so_far d) room x).0 ((base (so_far d) room x).1 + by) in r.1.signals)
after_number d room x by true = prefix_refl d.signals
after_number d room x by false = let b = base (so_far d) room x in after_late d b.0 (b.1 + by) (is_zero (number_at (so_far d) b.0))

after_delay : (d : Draft) (room : Option ℕ) (x by most : ℕ) (k : Option ℤ) → IsPrefixOf d.signals (delayed_by d room x by most k).1.signals
after_delay d room x by most (Some c) = after_number d room x (back_by most c) (nat_eq (back_by most c) 0)
after_delay d room x by most None = go (is_zero (number_at (so_far d) x))
  where
    go : (b : Bool) → IsPrefixOf d.signals (let r : ℕ × Draft = if b then (x, d) else put d (Delay x by most) in r.1.signals)
    go true = prefix_refl d.signals
    go false = after_put d (Delay x by most)

after_operation : (d : Draft) (op : Op) (args : List ℕ) (k : Option (List ℤ)) → IsPrefixOf d.signals (folded d op args k).1.signals
after_operation d op args (Some ns) = after_put d (Const (apply_of op ns))
after_operation d op args None = go (choice op (known (so_far d) (take (inputs_of op) args)))
  where
    go : (c : Option ℕ) → IsPrefixOf d.signals (chosen d op args c).1.signals
    go (Some i) = prefix_refl d.signals
    go None = after_put d (Point op args)

after_image : (g : Graph) (images : List ℕ) (room : ℕ → Option ℕ) (d : Draft) (n : Signal) → IsPrefixOf d.signals (image_of g images room d n).1.signals
after_image g images room d (Input k) = after_put d (Input k)
after_image g images room d (Const z) = after_put d (Const z)
after_image g images room d (Control k) = after_put d (Control k)
after_image g images room d (Back group k) = after_put d (Back group k)
after_image g images room d (Member group k) = prefix_refl d.signals
after_image g images room d (Read table r) = after_put d (Read table (get_or images r 0))
after_image g images room d (Write table w x r) = after_put d (Write table (get_or images w 0) (get_or images x 0) (get_or images r 0))
after_image g images room d (Delay x by most) = after_delay d (room x) (get_or images x 0) (get_or images by 0) most (number_at (so_far d) (get_or images by 0))
after_image g images room d (Point op args) =
    let ws = map (λ a. get_or images a 0) args in after_operation d op ws (numbers (so_far d) (take (inputs_of op) ws))

-- ---- what is put is there

-- a delay's first operand is earlier
abbrev DelaysBelow : Draft → Type 0
DelaysBelow d = (x s by m : ℕ) → x < length d.signals → node (so_far d) x ≡ Delay s by m → s < x

within_put : (d : Draft) (n : Signal) → (put d n).0 < length (put d n).1.signals
within_put d n = (put_stands d n).within

within_late : (d : Draft) (x by : ℕ) (b : Bool) → x < length d.signals → (let r : ℕ × Draft = if b then (x, d) else put_late d x by in r.0 < length r.1.signals)
within_late d x by true l = l
within_late d x by false l = let one = put d (Const (pos by)) in within_put one.1 (Delay x one.0 by)

base_within : (d : Draft) (room : Option ℕ) (x : ℕ) → DelaysBelow d → x < length d.signals → Taken (so_far d) room x
    → (base (so_far d) room x).0 < length d.signals
base_within d room x o l (Itself e) = subst (λ (b : ℕ × ℕ). b.0 < length d.signals) (sym e) l
base_within d room x o l (Over s by m c q e k a b w) =
    let first = o x s by m l e in
    subst (λ (b : ℕ × ℕ). b.0 < length d.signals) (sym w) (omega (arith, first, l))

within_number : (d : Draft) (room : Option ℕ) (x by : ℕ) (b : Bool) → DelaysBelow d → x < length d.signals →
    (let r : ℕ × Draft = if b then (x, d) else late d (base (so_far d) room x).0 ((base (so_far d) room x).1 + by) in r.0 < length r.1.signals)
within_number d room x by true o l = l
within_number d room x by false o l =
    let b = base (so_far d) room x in within_late d b.0 (b.1 + by) (is_zero (number_at (so_far d) b.0))
    (base_within d room x o l (base_cases (so_far d) room x (node (so_far d) x) refl))

within_delay : (d : Draft) (room : Option ℕ) (x by most : ℕ) (k : Option ℤ) → DelaysBelow d → x < length d.signals
    → (delayed_by d room x by most k).0 < length (delayed_by d room x by most k).1.signals
within_delay d room x by most (Some c) o l = within_number d room x (back_by most c) (nat_eq (back_by most c) 0) o l
within_delay d room x by most None o l = go (is_zero (number_at (so_far d) x))
  where
    go : (b : Bool) → (let r : ℕ × Draft = if b then (x, d) else put d (Delay x by most) in r.0 < length r.1.signals)
    go true = l
    go false = within_put d (Delay x by most)

within_chosen : (d : Draft) (op : Op) (args : List ℕ) (k : Option ℕ) → 0 < length d.signals → All (λ a. a < length d.signals) args
    → (chosen d op args k).0 < length (chosen d op args k).1.signals
within_chosen d op args None z a = within_put d (Point op args)
within_chosen d op args (Some i) z a = elim (cases_lt i (length args)) [
  | inl l ↦ All-get_or (λ a. a < length d.signals) args i 0 l a
  | inr l ↦ subst (λ k. k < length d.signals) (sym (get_or_past args i 0 l)) z
]

within_operation : (d : Draft) (op : Op) (args : List ℕ) (k : Option (List ℤ)) → 0 < length d.signals → All (λ a. a < length d.signals) args
    → (folded d op args k).0 < length (folded d op args k).1.signals
within_operation d op args (Some ns) z a = within_put d (Const (apply_of op ns))
within_operation d op args None z a = within_chosen d op args (choice op (known (so_far d) (take (inputs_of op) args))) z a

within_image : (g : Graph) (images : List ℕ) (room : ℕ → Option ℕ) (d : Draft) (n : Signal) → DelaysBelow d → 0 < length d.signals
    → OperandsBelow g (length images) n →
    ((a : ℕ) → a < length images → get_or images a 0 < length d.signals) → (image_of g images room d n).0 < length (image_of g images room d n).1.signals
within_image g images room d (Input k) w z o t = within_put d (Input k)
within_image g images room d (Const k) w z o t = within_put d (Const k)
within_image g images room d (Control k) w z o t = within_put d (Control k)
within_image g images room d (Back group k) w z o t = within_put d (Back group k)
within_image g images room d (Member group k) w z o t = t (definition g group k) o
within_image g images room d (Read table r) w z o t = within_put d (Read table (get_or images r 0))
within_image g images room d (Write table k x r) w z o t = within_put d (Write table (get_or images k 0) (get_or images x 0) (get_or images r 0))
within_image g images room d (Delay x by most) w z o t =
    within_delay d (room x) (get_or images x 0) (get_or images by 0) most (number_at (so_far d) (get_or images by 0)) w (t x o.0)
within_image g images room d (Point op args) w z o t =
    let ws = map (λ a. get_or images a 0) args in
    within_operation d op ws (numbers (so_far d) (take (inputs_of op) ws)) z
    (All-map (λ a. a < length d.signals) (λ a. get_or images a 0) args
    (All-from_get_or (λ a. get_or images a 0 < length d.signals) args 0 (λ i l. t (get_or args i 0) (All-get_or (λ a. a < length images) args i 0 l o))))

-- ---- a step

module _ (g : Graph) (marks : List Bool) (room : ℕ → Option ℕ) where
  abbrev Marked : ℕ → Type 0
  Marked s = IsMarked marks s

  -- what a step does: the image, and the draft after it
  pub record Steps (s : Pass) (n : Signal) (t : Pass) : Type 0 where
    pub image : ℕ
    pub images : t.images ≡ s.images ++ image ∷ []
    pub grows : IsPrefixOf s.draft.signals t.draft.signals
    pub marked : Marked (length s.images) → (image, t.draft) ≡ image_of g s.images room s.draft n
    pub left : (Marked (length s.images) → ⊥) → (image ≡ 0) × (t.draft ≡ s.draft)

  step_is : (s : Pass) (n : Signal) (b : Bool) → get_or marks (length s.images) false ≡ b → Steps s n (step g marks room s n)
  step_is s n true e =
      let r = image_of g s.images room s.draft n in
      let t : Pass = record { draft = r.1; images = s.images ++ r.0 ∷ [] } in
      let u : Pass = record { draft = s.draft; images = s.images ++ 0 ∷ [] } in
      subst (Steps s n) (sym (ap (λ b. if b then t else u) e))
      (record { image = r.0; images = refl; grows = after_image g s.images room s.draft n; marked = λ m. refl; left = λ m. absurd (m e) })
  step_is s n false e =
      let r = image_of g s.images room s.draft n in
      let t : Pass = record { draft = r.1; images = s.images ++ r.0 ∷ [] } in
      let u : Pass = record { draft = s.draft; images = s.images ++ 0 ∷ [] } in
      subst (Steps s n) (sym (ap (λ b. if b then t else u) e))
      (record { image = 0; images = refl; grows = prefix_refl s.draft.signals; marked = λ m. (let w = sym e ∙ m in absurd cc); left = λ m. (refl, refl) })

  pub stepped : (s : Pass) (n : Signal) → Steps s n (step g marks room s n)
  stepped s n = step_is s n (get_or marks (length s.images) false) refl

  -- all steps grow both
  pub steps_grow : (s : Pass) (ns : List Signal) → IsPrefixOf s.draft.signals (steps g marks room s ns).draft.signals
      × IsPrefixOf s.images (steps g marks room s ns).images
  steps_grow s [] = (prefix_refl s.draft.signals, prefix_refl s.images)
  steps_grow s (n ∷ ns) =
      let t = step g marks room s n in
      let r = stepped s n in
      let more = steps_grow t ns in
      let last = steps g marks room t ns in (
        prefix_trans s.draft.signals t.draft.signals last.draft.signals r.grows more.0,
        prefix_trans s.images t.images last.images (record { rest = r.image ∷ []; is = r.images }) more.1,
      )

  pub steps_long : (s : Pass) (ns : List Signal) → length (steps g marks room s ns).images ≡ length s.images + length ns
  steps_long s [] = omega arith
  steps_long s (n ∷ ns) = let r = stepped s n in omega (arith, steps_long (step g marks room s n) ns, ap length r.images ∙ length_push s.images r.image)

  -- ---- the images at the end

  same_image : (f : Graph) (p q : ℕ → ℕ) (k : ℕ) (n : Signal) (i : ℕ) → OperandsBelow g k n → ((a : ℕ) → a < k → p a ≡ q a)
      → ((group j : ℕ) → n ≡ Back group j → ⊥) → IsImage g f p room n i → IsImage g f q room n i
  same_image f p q k (Input j) i o e not_back h = h
  same_image f p q k (Const z) i o e not_back h = h
  same_image f p q k (Control j) i o e not_back h = h
  same_image f p q k (Back group j) i o e not_back h = absurd (not_back group j refl)
  same_image f p q k (Member group j) i o e not_back h = h ∙ e (definition g group j) o
  same_image f p q k (Read table r) i o e not_back h = h ∙ ap (Read table) (e r o)
  same_image f p q k (Write table w x r) i o e not_back h =
      h ∙ ap (λ a. Write table a (p x) (p r)) (e w o.0) ∙ ap₂ (λ a b. Write table (q w) a b) (e x o.1) (e r o.2)
  same_image f p q k (Point op args) i o e not_back h = (h.0, subst (λ ws. IsPointImage f op ws i) (map_alike k p q args o e) h.1)
  same_image f p q k (Delay x d most) i o e not_back h =
      subst (λ (w : ℕ × ℕ). IsDelayImage f (room x) w.0 w.1 most i) (ap₂ (λ a b. let w : ℕ × ℕ = (a, b) in w) (e x o.0) (e d o.1)) h

  module _ (f : Graph) (ordered : IsOrdered f) (whole : IsGraph g) (wide : (s : ℕ) → s < length g.signals → HasWidth (node g s)) (L : List ℕ)
      (backs : (s group k : ℕ) → s < length g.signals → Marked s → node g s ≡ Back group k → definition f group k ≡ get_or L (definition g group k) 0) where
    abbrev p : ℕ → ℕ
    p a = get_or L a 0

    abbrev AreThere : Pass → Type 0
    AreThere s = (a : ℕ) → a < length s.images → get_or s.images a 0 < length s.draft.signals

    -- one marked signal after a state whose images are those
    one : (s t : Pass) (n : Signal) (k : ℕ) → k ≡ length s.images → k < length g.signals → node g k ≡ n → Steps s n t → IsPrefixOf t.images L
        → IsPrefixOf t.draft.signals f.signals →
        ((a : ℕ) → a < length s.images → get_or s.images a 0 < length s.draft.signals) → Marked k → IsImage g f p room n (p k)
    one s t n k at l e r more has there m = go n refl (stand n e)
      where
        m' : Marked (length s.images)
        m' = subst Marked at m

        below : OperandsBelow g (length s.images) n
        below = subst (λ i. OperandsBelow g i n) at (subst (OperandsBelow g k) e (whole.ordered k (Const (pos 0)) l))

        same : (a : ℕ) → a < length s.images → get_or s.images a 0 ≡ p a
        same a b =
            sym (ap (λ xs. get_or xs a 0) (more.is ∙ ap (λ xs. xs ++ more.rest) r.images ∙ append_assoc s.images (r.image ∷ []) more.rest)
            ∙ get_or_append_left s.images (r.image ∷ [] ++ more.rest) 0 a b)

        here : p k ≡ r.image
        here =
            ap p at ∙ ap (λ xs. get_or xs (length s.images) 0) more.is
            ∙ get_or_append_left t.images more.rest 0 (length s.images) (omega (arith, ap length r.images ∙ length_push s.images r.image))
            ∙ ap (λ xs. get_or xs (length s.images) 0) r.images ∙ get_or_push s.images r.image 0 (length s.images) refl

        put_is : r.image ≡ (image_of g s.images room s.draft n).0
        put_is = ap (λ (x : ℕ × Draft). x.0) (r.marked m')

        has_put : IsPrefixOf (image_of g s.images room s.draft n).1.signals f.signals
        has_put = subst (λ (x : ℕ × Draft). IsPrefixOf x.1.signals f.signals) (r.marked m') has

        stand : (n' : Signal) → node g k ≡ n' → HasWidth n'
        stand n' q = subst HasWidth q (wide k l)

        other : (n' : Signal) → n ≡ n' → HasWidth n' → ((group j : ℕ) → n' ≡ Back group j → ⊥) → IsImage g f p room n' (p k)
        other n' q w not_back =
            let i = image_is f ordered g s.images room s.draft n' (subst (OperandsBelow g (length s.images)) q below) there
            (subst (λ x. IsPrefixOf (image_of g s.images room s.draft x).1.signals f.signals) q has_put) w
            (λ group j b. absurd (not_back group j b)) in
            subst (IsImage g f p room n') (sym (here ∙ put_is ∙ ap (λ x. (image_of g s.images room s.draft x).0) q))
            (same_image f (λ a. get_or s.images a 0) p (length s.images) n' (image_of g s.images room s.draft n').0
            (subst (OperandsBelow g (length s.images)) q below) same not_back i)

        go : (n' : Signal) → n ≡ n' → HasWidth n' → IsImage g f p room n' (p k)
        go (Back group j) q w = (
          ap (node f) (here ∙ put_is ∙ ap (λ x. (image_of g s.images room s.draft x).0) q)
              ∙ put_at f ordered s.draft (Back group j) (subst (λ x. IsPrefixOf (image_of g s.images room s.draft x).1.signals f.signals) q has_put),
          backs k group j l m (e ∙ q),
        )
        go (Input j) q w = other (Input j) q w (λ group j b. absurd cc)
        go (Const j) q w = other (Const j) q w (λ group j b. absurd cc)
        go (Control j) q w = other (Control j) q w (λ group j b. absurd cc)
        go (Point op args) q w = other (Point op args) q w (λ group j b. absurd cc)
        go (Delay x d most) q w = other (Delay x d most) q w (λ group j b. absurd cc)
        go (Member grp j) q w = other (Member grp j) q w (λ group j b. absurd cc)
        go (Read table j) q w = other (Read table j) q w (λ group j b. absurd cc)
        go (Write table a x j) q w = other (Write table a x j) q w (λ group j b. absurd cc)

    -- each of the images is there
    there_after : (s t : Pass) (n : Signal) → Steps s n t → OperandsBelow g (length s.images) n
        → (Marked (length s.images) → (image_of g s.images room s.draft n).0 < length (image_of g s.images room s.draft n).1.signals) →
        0 < length s.draft.signals → AreThere s → AreThere t
    there_after s t n r o put_there some h a l = elim (cases_lt a (length s.images)) [
      | inl b ↦
          let old = h a b in
          let same : get_or t.images a 0 ≡ get_or s.images a 0 = ap (λ xs. get_or xs a 0) r.images ∙ get_or_append_left s.images (r.image ∷ []) 0 a b in
          omega (arith, same, old, ap length r.grows.is ∙ length-append s.draft.signals r.grows.rest)
      | inr b ↦
          let at : a ≡ length s.images = omega (arith, b, l, ap length r.images ∙ length_push s.images r.image) in
          let same : get_or t.images a 0 ≡ r.image = ap (λ xs. get_or xs a 0) r.images ∙ get_or_push s.images r.image 0 a (sym at) in
          omega (arith, same, last)
    ]
      where
        choose : (b : Bool) → get_or marks (length s.images) false ≡ b → r.image < length t.draft.signals
        choose true e = subst (λ (x : ℕ × Draft). x.0 < length x.1.signals) (sym (r.marked e)) (put_there e)
        choose false e =
            let z = r.left (λ m. let w = sym e ∙ m in absurd cc) in
            let zero_is = z.0 in
            let grown = ap length r.grows.is ∙ length-append s.draft.signals r.grows.rest in
            omega (arith, zero_is, grown, some)

        last : r.image < length t.draft.signals
        last = choose (get_or marks (length s.images) false) refl

    delays_below : (d : Draft) → IsPrefixOf d.signals f.signals → DelaysBelow d
    delays_below d h x s by m l e =
        let same = sym (ap (λ ss. get_or ss x (Const (pos 0))) h.is ∙ get_or_append_left d.signals h.rest (Const (pos 0)) x l) in
        let long = ap length h.is ∙ length-append d.signals h.rest in
        let below = subst (OperandsBelow f x) (sym same ∙ e) (ordered x (Const (pos 0)) (omega (arith, long, l))) in below.0

    -- all marked signals after a state
    abbrev Final : Pass → List Signal → Type 0
    Final s ns = ((steps g marks room s ns).images ≡ L) × IsPrefixOf (steps g marks room s ns).draft.signals f.signals

    next_there : (s : Pass) (n : Signal) → OperandsBelow g (length s.images) n → 0 < length s.draft.signals → IsPrefixOf s.draft.signals f.signals
        → AreThere s → AreThere (step g marks room s n)
    next_there s n o z h a =
        there_after s (step g marks room s n) n (stepped s n) o (λ m. within_image g s.images room s.draft n (delays_below s.draft h) z o a) z a

    pub along : (s : Pass) (ns : List Signal) → Final s ns → 0 < length s.draft.signals → AreThere s → length s.images + length ns ≡ length g.signals →
        ((i : ℕ) → i < length ns → get_or ns i (Const (pos 0)) ≡ node g (length s.images + i)) → (i : ℕ) → i < length ns → Marked (length s.images + i) →
        IsImage g f p room (get_or ns i (Const (pos 0))) (p (length s.images + i))
    along s [] fin z a long at i l m = absurd (omega (arith, l))
    along s (n ∷ ns) fin z a long at i l m =
        let t = step g marks room s n in
        let r = stepped s n in
        let grow = steps_grow t ns in
        let last = steps g marks room t ns in
        let h : IsPrefixOf t.draft.signals f.signals = prefix_trans t.draft.signals last.draft.signals f.signals grow.0 fin.1 in
        let h0 : IsPrefixOf s.draft.signals f.signals = prefix_trans s.draft.signals t.draft.signals f.signals r.grows h in
        let more : IsPrefixOf t.images L = subst (IsPrefixOf t.images) fin.0 grow.1 in
        let zero_at : length s.images + 0 ≡ length s.images = omega arith in
        let first : n ≡ node g (length s.images) = at 0 (omega arith) ∙ ap (node g) zero_at in
        let here : length s.images < length g.signals = omega (arith, long) in
        let o : OperandsBelow g (length s.images) n =
        subst (OperandsBelow g (length s.images)) (sym first) (whole.ordered (length s.images) (Const (pos 0)) here) in
        let len : length t.images ≡ length s.images + 1 = ap length r.images ∙ length_push s.images r.image in
        let more_signals : 0 < length t.draft.signals = omega (arith, z, ap length r.grows.is ∙ length-append s.draft.signals r.grows.rest) in
        let behind : (j : ℕ) → j < length ns → Marked (length t.images + j)
        → IsImage g f p room (get_or ns j (Const (pos 0))) (p (length t.images + j)) =
        λ j lj mj. along t ns fin more_signals (next_there s n o z h0 a) (omega (arith, len, long))
        (λ k b. at (suc k) (omega (arith, b)) ∙ ap (node g) (let e : length s.images + suc k ≡ length t.images + k = omega (arith, len) in e)) j lj mj in
        choose i l m behind r h more zero_at first here len
      where
        choose : (i : ℕ) → i < length (n ∷ ns) → Marked (length s.images + i) →
            ((j : ℕ) → j < length ns → Marked (length (step g marks room s n).images + j)
            → IsImage g f p room (get_or ns j (Const (pos 0))) (p (length (step g marks room s n).images + j))) →
            Steps s n (step g marks room s n) → IsPrefixOf (step g marks room s n).draft.signals f.signals → IsPrefixOf (step g marks room s n).images L
            → length s.images + 0 ≡ length s.images →
            n ≡ node g (length s.images) → length s.images < length g.signals → length (step g marks room s n).images ≡ length s.images + 1 →
            IsImage g f p room (get_or (n ∷ ns) i (Const (pos 0))) (p (length s.images + i))
        choose zero l m behind r h more zero_at first here len =
            subst (λ k. IsImage g f p room n (p k)) (sym zero_at)
            (one s (step g marks room s n) n (length s.images) refl here (sym first) r more h a (subst Marked zero_at m))
        choose (suc j) l m behind r h more zero_at first here len =
            let shift : length (step g marks room s n).images + j ≡ length s.images + suc j = omega (arith, len) in
            subst (λ k. IsImage g f p room (get_or ns j (Const (pos 0))) (p k)) shift (behind j (omega (arith, l)) (subst Marked (sym shift) m))

    -- all images are there at the end
    pub there_all : (s : Pass) (ns : List Signal) → IsPrefixOf (steps g marks room s ns).draft.signals f.signals → 0 < length s.draft.signals → AreThere s
        → length s.images + length ns ≡ length g.signals →
        ((i : ℕ) → i < length ns → get_or ns i (Const (pos 0)) ≡ node g (length s.images + i)) → AreThere (steps g marks room s ns)
    there_all s [] fin z a long at = a
    there_all s (n ∷ ns) fin z a long at =
        let t = step g marks room s n in
        let r = stepped s n in
        let grow = steps_grow t ns in
        let last = steps g marks room t ns in
        let h0 : IsPrefixOf s.draft.signals f.signals =
        prefix_trans s.draft.signals t.draft.signals f.signals r.grows (prefix_trans t.draft.signals last.draft.signals f.signals grow.0 fin) in
        let zero_at : length s.images + 0 ≡ length s.images = omega arith in
        let first : n ≡ node g (length s.images) = at 0 (omega arith) ∙ ap (node g) zero_at in
        let here : length s.images < length g.signals = omega (arith, long) in
        let o : OperandsBelow g (length s.images) n =
        subst (OperandsBelow g (length s.images)) (sym first) (whole.ordered (length s.images) (Const (pos 0)) here) in
        let len : length t.images ≡ length s.images + 1 = ap length r.images ∙ length_push s.images r.image in
        let some : 0 < length t.draft.signals = omega (arith, z, ap length r.grows.is ∙ length-append s.draft.signals r.grows.rest) in
        there_all t ns fin some (next_there s n o z h0 a) (omega (arith, len, long))
        (λ k b. at (suc k) (omega (arith, b)) ∙ ap (node g) (let e : length s.images + suc k ≡ length t.images + k = omega (arith, len) in e))
