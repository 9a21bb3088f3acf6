-- What a pass puts for a signal is its image, in every graph that has all of the draft.
use Rattle.std.proofs.Common.{◌≡◌, ℕ, zero, suc, ◌+◌, ◌<◌, ◌≤◌, List, [], ◌∷◌, ◌++◌, length, take, map, get_or, refl, sym, ap, ap₂, ◌∙◌, subst, arith, ℤ, pos}
use Rattle.std.proofs.Common.{All, Some, None, true, false, Bool, if◌then◌else◌, nat_eq}
use Rattle.std.specs.Prelude.{Option}
use Rattle.std.proofs.lemmas.Bool.{eqb-true, eq-eqb}
use Rattle.std.proofs.lemmas.Bool.Decides.{Decides-int_eq}
use Rattle.std.proofs.lemmas.List.{get_or_append_left, length-append, append_assoc}
use Rattle.std.proofs.lemmas.List.Elements.{All-head, All-tail, All-take, All-map, All-get_or, All-from_get_or}
use Rattle.fv_base.specs.headline.Lists.{IsPrefixOf}
use Rattle.fv_num.specs.declared.op.Op.{Op}
use Rattle.fv_num.specs.headline.Words.{apply_of, inputs_of}
use Rattle.fv_signal.specs.declared.signal.Signal.{Signal}
use Rattle.fv_signal.specs.declared.signal.Signal.TheVariants.{Input, Const, Control, Point, Delay, Back, Member, Read, Write}
use Rattle.fv_signal.specs.headline.Value.{Graph, definition, OperandsBelow, IsOrdered, back_by}
use Rattle.fv_share.specs.Drafts.{Draft, put}
use Rattle.fv_share.proofs.lemmas.Puts.{put_stands}
use Rattle.fv_simplify.specs.Choices.{choice}
use Rattle.fv_simplify.specs.Nodes.{node, number, number_at, known, before, numbers}
use Rattle.fv_simplify.specs.Rebuilt.{taken, base_of, base, IsPointImage, AsNumber, AsOperand, AsItself, IsDelayImage, AtOnce, LateNothing}
use Rattle.fv_simplify.specs.Rebuilt.{Late, Nothing, Varying, IsImage}
use Rattle.fv_simplify.specs.Passing.{HasWidth, so_far, is_zero, put_late, late, delayed_by, chosen, folded, image_of}
use Rattle.fv_simplify.proofs.lemmas.Origins.{number_node, Taken, Itself, Over, base_cases}
use Rattle.fv_simplify.proofs.lemmas.Chains.{choice_same}

module _ (f : Graph) (ordered : IsOrdered f) where
  -- f has the draft's signals in front
  abbrev pub Has : Draft → Type 0
  Has d = IsPrefixOf d.signals f.signals

  pub has_before : (d : Draft) (n : Signal) → Has (put d n).1 → Has d
  has_before d n h =
      let k = (put_stands d n).keeps in
      record { rest = k.rest ++ h.rest; is = h.is ∙ ap (λ ss. ss ++ h.rest) k.is ∙ append_assoc d.signals k.rest h.rest }

  has_long : (d : Draft) → Has d → length d.signals ≤ length f.signals
  has_long d h = omega (arith, ap length h.is ∙ length-append d.signals h.rest)

  node_in : (d : Draft) (i : ℕ) → Has d → i < length d.signals → node (so_far d) i ≡ node f i
  node_in d i h l = sym (ap (λ ss. get_or ss i (Const (pos 0))) h.is ∙ get_or_append_left d.signals h.rest (Const (pos 0)) i l)

  pub number_in : (d : Draft) (i : ℕ) → Has d → i < length d.signals → number_at (so_far d) i ≡ number_at f i
  number_in d i h l = ap number (node_in d i h l)

  known_in : (d : Draft) (ws : List ℕ) (i : ℕ) → Has d → All (λ a. a < length d.signals) ws → known (so_far d) ws i ≡ known f ws i
  known_in d [] i h a = refl
  known_in d (w ∷ ws) zero h a = number_in d w h (All-head (λ a. a < length d.signals) w ws a)
  known_in d (w ∷ ws) (suc i) h a = known_in d ws i h (All-tail (λ a. a < length d.signals) w ws a)

  numbers_in : (d : Draft) (ws : List ℕ) → Has d → All (λ a. a < length d.signals) ws → numbers (so_far d) ws ≡ numbers f ws
  numbers_in d [] h a = refl
  numbers_in d (w ∷ ws) h a = ap₂ before (number_in d w h (All-head (λ a. a < length d.signals) w ws a))
      (numbers_in d ws h (All-tail (λ a. a < length d.signals) w ws a))

  -- the base is the same
  base_in : (d : Draft) (r : Option ℕ) (x : ℕ) → Has d → x < length d.signals → base (so_far d) r x ≡ base f r x
  base_in d r x h l =
      ap (base_of (so_far d) r x) (node_in d x h l)
      ∙ go (node f x) (subst (λ n. n) refl (ordered x (Const (pos 0)) (let m = has_long d h in omega (arith, l, m))))
    where
      go : (n : Signal) → OperandsBelow f x n → base_of (so_far d) r x n ≡ base_of f r x n
      go (Delay s by m) o = ap (λ k. taken x s m k r) (number_in d by h (let b = o.1 in omega (arith, b, l)))
      go (Input k) o = refl
      go (Const k) o = refl
      go (Control k) o = refl
      go (Point op args) o = refl
      go (Back group k) o = refl
      go (Member group k) o = refl
      go (Read table k) o = refl
      go (Write table w y k) o = refl

  -- what is put stands there
  pub put_at : (d : Draft) (n : Signal) → Has (put d n).1 → node f (put d n).0 ≡ n
  put_at d n h = let p = put_stands d n in sym (node_in (put d n).1 (put d n).0 h p.within) ∙ p.stands (Const (pos 0))

  -- ---- delays

  zero_yes : (k : Option ℤ) → is_zero k ≡ true → k ≡ Some (pos 0)
  zero_yes None e = absurd cc
  zero_yes (Some n) e = ap Some ((Decides-int_eq n (pos 0)).0 e)

  zero_no : (k : Option ℤ) → is_zero k ≡ false → k ≡ Some (pos 0) → ⊥
  zero_no None e q = absurd cc
  zero_no (Some n) e q = let z : n ≡ pos 0 = cc in let t = (Decides-int_eq n (pos 0)).1 z in absurd (let both = sym t ∙ e in cc)

  data IsLate (x by image : ℕ) : Type 0 where
    OfNothing : node f x ≡ Const (pos 0) → image ≡ x → IsLate x by image
    OfSome : (e : ℕ) → (node f x ≡ Const (pos 0) → ⊥) → node f e ≡ Const (pos by) → node f image ≡ Delay x e by → IsLate x by image

  late_is : (d : Draft) (x by : ℕ) (b : Bool) → is_zero (number_at (so_far d) x) ≡ b → x < length d.signals → (r : ℕ × Draft)
      → r ≡ (if b then (x, d) else put_late d x by) → Has r.1 → IsLate x by r.0
  late_is d x by true e l r q h =
      let has : Has d = subst (λ (z : ℕ × Draft). Has z.1) q h in
      OfNothing (number_node (node f x) (pos 0) (sym (number_in d x has l) ∙ zero_yes (number_at (so_far d) x) e)) (ap (λ (z : ℕ × Draft). z.0) q)
  late_is d x by false e l r q h =
      let n = Const (pos by) in
      let one = put d n in
      let m = Delay x one.0 by in
      let h2 : Has (put one.1 m).1 = subst (λ (z : ℕ × Draft). Has z.1) q h in
      let h1 = has_before one.1 m h2 in
      let has = has_before d n h1 in
      OfSome one.0
      (λ z. zero_no (number_at (so_far d) x) e (number_in d x has l ∙ ap number z))
      (put_at d n h1)
      (ap (λ (z : ℕ × Draft). node f z.0) q ∙ put_at one.1 m h2)

  has_late : (d : Draft) (x by : ℕ) (b : Bool) → Has (let r : ℕ × Draft = if b then (x, d) else put_late d x by in r.1) → Has d
  has_late d x by true h = h
  has_late d x by false h =
      let one = put d (Const (pos by)) in has_before d (Const (pos by)) (has_before one.1 (Delay x one.0 by) h)

  base_there : (x : ℕ) (r : Option ℕ) (n : ℕ) → x < n → n ≤ length f.signals → Taken f r x → (base f r x).0 < n
  base_there x r n l m (Itself e) = subst (λ (b : ℕ × ℕ). b.0 < n) (sym e) l
  base_there x r n l m (Over s by q c k e a b w i) =
      let below = subst (OperandsBelow f x) e (ordered x (Const (pos 0)) (omega (arith, l, m))) in
      let first = below.0 in
      subst (λ (b : ℕ × ℕ). b.0 < n) (sym i) (omega (arith, first, l))

  no_number : (d : Draft) (x by most : ℕ) (room : Option ℕ) (b : Bool) → is_zero (number_at (so_far d) x) ≡ b → number_at (so_far d) by ≡ None
      → x < length d.signals → by < length d.signals →
      (r : ℕ × Draft) → r ≡ (if b then (x, d) else put d (Delay x by most)) → Has r.1 → IsDelayImage f room x by most r.0
  no_number d x by most room true e k l m r q h =
      let has : Has d = subst (λ (z : ℕ × Draft). Has z.1) q h in
      Nothing (sym (number_in d by has m) ∙ k) (number_node (node f x) (pos 0) (sym (number_in d x has l) ∙ zero_yes (number_at (so_far d) x) e))
      (ap (λ (z : ℕ × Draft). z.0) q)
  no_number d x by most room false e k l m r q h =
      let n = Delay x by most in
      let h1 : Has (put d n).1 = subst (λ (z : ℕ × Draft). Has z.1) q h in
      let has = has_before d n h1 in
      Varying (sym (number_in d by has m) ∙ k) (λ z. zero_no (number_at (so_far d) x) e (number_in d x has l ∙ ap number z))
      (ap (λ (z : ℕ × Draft). node f z.0) q ∙ put_at d n h1)

  positive : (n : ℕ) → (n ≡ 0 → ⊥) → 0 < n
  positive zero ne = absurd (ne refl)
  positive (suc n) ne = omega arith

  with_number : (d : Draft) (x by most : ℕ) (room : Option ℕ) (c : ℤ) (b : Bool) → nat_eq (back_by most c) 0 ≡ b → number_at (so_far d) by ≡ Some c
      → x < length d.signals → by < length d.signals →
      (r : ℕ × Draft) → r ≡ (if b then (x, d) else late d (base (so_far d) room x).0 ((base (so_far d) room x).1 + back_by most c)) → Has r.1
      → IsDelayImage f room x by most r.0
  with_number d x by most room c true e k l m r q h =
      let has : Has d = subst (λ (z : ℕ × Draft). Has z.1) q h in
      AtOnce c (sym (number_in d by has m) ∙ k) (eqb-true (back_by most c) 0 e) (ap (λ (z : ℕ × Draft). z.0) q)
  with_number d x by most room c false e k l m r q h =
      let b = base (so_far d) room x in
      let n = b.1 + back_by most c in
      let t = is_zero (number_at (so_far d) b.0) in
      let h1 : Has (late d b.0 n).1 = subst (λ (z : ℕ × Draft). Has z.1) q h in
      let has = has_late d b.0 n t h1 in
      let same = base_in d room x has l in
      let there : b.0 < length d.signals = subst (λ (z : ℕ × ℕ). z.0 < length d.signals) (sym same)
      (base_there x room (length d.signals) l (has_long d has) (base_cases f room x (node f x) refl)) in
      let some = sym (number_in d by has m) ∙ k in
      let more : 0 < back_by most c = positive (back_by most c) (λ z. let w = sym (eq-eqb (back_by most c) 0 z) ∙ e in absurd cc) in
      go same some more (late_is d b.0 n t refl there r q h)
    where
      go : base (so_far d) room x ≡ base f room x → number_at f by ≡ Some c → 0 < back_by most c
          → IsLate (base (so_far d) room x).0 ((base (so_far d) room x).1 + back_by most c) r.0 → IsDelayImage f room x by most r.0
      go same some more (OfNothing z i) = LateNothing c some more (ap (λ (b : ℕ × ℕ). node f b.0) (sym same) ∙ z) (i ∙ ap (λ (b : ℕ × ℕ). b.0) same)
      go same some more (OfSome j ne u i) =
          Late c j some more (λ z. ne (ap (λ (b : ℕ × ℕ). node f b.0) same ∙ z)) (u ∙ ap (λ (b : ℕ × ℕ). Const (pos (b.1 + back_by most c))) same)
          (i ∙ ap (λ (b : ℕ × ℕ). Delay b.0 j (b.1 + back_by most c)) same)

  delay_is : (d : Draft) (room : Option ℕ) (x by most : ℕ) (k : Option ℤ) → number_at (so_far d) by ≡ k → x < length d.signals → by < length d.signals
      → Has (delayed_by d room x by most k).1 →
      IsDelayImage f room x by most (delayed_by d room x by most k).0
  delay_is d room x by most None e l m h = no_number d x by most room (is_zero (number_at (so_far d) x)) refl e l m (delayed_by d room x by most None) refl h
  delay_is d room x by most (Some c) e l m h =
      with_number d x by most room c (nat_eq (back_by most c) 0) refl e l m (delayed_by d room x by most (Some c)) refl h

  -- ---- operations

  chosen_is : (d : Draft) (op : Op) (args : List ℕ) (k : Option ℕ) → choice op (known (so_far d) (take (inputs_of op) args)) ≡ k
      → numbers (so_far d) (take (inputs_of op) args) ≡ None →
      All (λ a. a < length d.signals) args → Has (chosen d op args k).1 → IsPointImage f op args (chosen d op args k).0
  chosen_is d op args (Some i) e n a h = AsOperand i (sym (same_choice d op args a h) ∙ e) refl
    where
      same_choice : (d : Draft) (op : Op) (args : List ℕ) → All (λ a. a < length d.signals) args → Has d
          → choice op (known (so_far d) (take (inputs_of op) args)) ≡ choice op (known f (take (inputs_of op) args))
      same_choice d op args a h =
          let ws = take (inputs_of op) args in
          let b = All-take (λ a. a < length d.signals) (inputs_of op) args a in
          choice_same op (known (so_far d) ws) (known f ws) (known_in d ws 0 h b) (known_in d ws 1 h b)
  chosen_is d op args None e n a h =
      let has = has_before d (Point op args) h in
      let ws = take (inputs_of op) args in
      let b = All-take (λ a. a < length d.signals) (inputs_of op) args a in
      AsItself (sym (numbers_in d ws has b) ∙ n) (sym (choice_same op (known (so_far d) ws) (known f ws) (known_in d ws 0 has b) (known_in d ws 1 has b)) ∙ e)
      (put_at d (Point op args) h)

  operation_is : (d : Draft) (op : Op) (args : List ℕ) (k : Option (List ℤ)) → numbers (so_far d) (take (inputs_of op) args) ≡ k
      → All (λ a. a < length d.signals) args →
      Has (folded d op args k).1 → IsPointImage f op args (folded d op args k).0
  operation_is d op args (Some ns) e a h =
      let n = Const (apply_of op ns) in
      let has = has_before d n h in
      AsNumber ns (sym (numbers_in d (take (inputs_of op) args) has (All-take (λ a. a < length d.signals) (inputs_of op) args a)) ∙ e) (put_at d n h)
  operation_is d op args None e a h = chosen_is d op args (choice op (known (so_far d) (take (inputs_of op) args))) refl e a h

  -- ---- any signal

  images_there : (images args : List ℕ) (n : ℕ) → ((a : ℕ) → a < length images → get_or images a 0 < n) → All (λ a. a < length images) args
      → All (λ a. a < n) (map (λ a. get_or images a 0) args)
  images_there images args n h a = All-map (λ a. a < n) (λ a. get_or images a 0) args
      (All-from_get_or (λ a. get_or images a 0 < n) args 0 (λ i l. h (get_or args i 0) (All-get_or (λ a. a < length images) args i 0 l a)))

  pub image_is : (g : Graph) (images : List ℕ) (room : ℕ → Option ℕ) (d : Draft) (n : Signal) → OperandsBelow g (length images) n
      → ((a : ℕ) → a < length images → get_or images a 0 < length d.signals) →
      Has (image_of g images room d n).1 → HasWidth n → ((group k : ℕ) → n ≡ Back group k → definition f group k ≡ get_or images (definition g group k) 0) →
      IsImage g f (λ a. get_or images a 0) room n (image_of g images room d n).0
  image_is g images room d (Input k) o there h w back = put_at d (Input k) h
  image_is g images room d (Const z) o there h w back = put_at d (Const z) h
  image_is g images room d (Control k) o there h w back = put_at d (Control k) h
  image_is g images room d (Back group k) o there h w back = (put_at d (Back group k) h, back group k refl)
  image_is g images room d (Member group k) o there h w back = refl
  image_is g images room d (Read table r) o there h w back = put_at d (Read table (get_or images r 0)) h
  image_is g images room d (Write table k x r) o there h w back = put_at d (Write table (get_or images k 0) (get_or images x 0) (get_or images r 0)) h
  image_is g images room d (Delay x by most) o there h w back =
      delay_is d (room x) (get_or images x 0) (get_or images by 0) most (number_at (so_far d) (get_or images by 0)) refl (there x o.0) (there by o.1) h
  image_is g images room d (Point op args) o there h w back =
      let ws = map (λ a. get_or images a 0) args in
      (w, operation_is d op ws (numbers (so_far d) (take (inputs_of op) ws)) refl (images_there images args (length d.signals) there o) h)
