-- A graph's signals that are put one after another.
use Rattle.std.proofs.Common.{◌≡◌, inl, inr, ℕ, ◌+◌, ◌<◌, ◌≤◌, List, [], ◌∷◌, ◌++◌, length, map, get_or, All, refl, sym, ap, ap₂, ◌∙◌, subst, arith, pos}
use Rattle.std.proofs.lemmas.Bool.{cases_lt}
use Rattle.std.proofs.lemmas.List.{get_or_append_left, get_or_push, length_push, length-append}
use Rattle.std.proofs.lemmas.List.Elements.{All-head, All-tail, All-get_or, All-from_get_or, All-map, All-push}
use Rattle.fv_base.specs.headline.Lists.{IsPrefixOf}
use Rattle.fv_base.specs.headline.Lists.{at}
use Rattle.fv_base.proofs.lemmas.Lists.{prefix_refl, prefix_trans}
use Rattle.fv_analysis.specs.headline.Stands.{node}
use Rattle.fv_signal.specs.declared.signal.Signal.{Signal}
use Rattle.fv_signal.specs.declared.signal.Signal.TheVariants.{Input, Const, Control, Point, Delay, Back, Member, Read, Write}
use Rattle.fv_signal.specs.headline.Value.{Graph, definition, OperandsBelow, NamesWithin}
use Rattle.fv_share.specs.Drafts.{Draft, CanPut, IsPending, IsPut, IsShut, NamesSoFar, OperandsThere, put}
use Rattle.fv_share.proofs.lemmas.Puts.{put_stands}
use Rattle.fv_compile.specs.declared.graph_copy.Offsets.{Offsets}
use Rattle.fv_compile.specs.inner.Copied.{renumbered, copy_of, AreListed, IsImage, IsOneOf, IsUnderWay}

-- ---- lists that grow

pub at_prefix : {A : Type 0} (xs ys : List A) (i : ℕ) (d : A) → IsPrefixOf xs ys → i < length xs → get_or ys i d ≡ get_or xs i d
at_prefix xs ys i d h l = ap (λ zs. get_or zs i d) h.is ∙ get_or_append_left xs h.rest d i l

pub prefix_long : {A : Type 0} (xs ys : List A) → IsPrefixOf xs ys → length xs ≤ length ys
prefix_long xs ys h = omega (arith, ap length h.is ∙ length-append xs h.rest)

pub all_below : (n m : ℕ) (xs : List ℕ) → n ≤ m → All (λ a. a < n) xs → All (λ a. a < m) xs
all_below n m xs h all k d l = let b = all k d l in omega (arith, b, h)

-- ---- images

map_alike : (k : ℕ) (p q : ℕ → ℕ) (args : List ℕ) → All (λ a. a < k) args → ((a : ℕ) → a < k → p a ≡ q a) → map p args ≡ map q args
map_alike k p q [] o e = refl
map_alike k p q (a ∷ args) o e = ap₂ (λ x xs. x ∷ xs) (e a (All-head (λ a. a < k) a args o)) (map_alike k p q args (All-tail (λ a. a < k) a args o) e)

-- an image stays one, where the list grows and the earlier signals keep their images
pub image_stays : (g : Graph) (ss tt : List Signal) (p q : ℕ → ℕ) (o : Offsets) (s : ℕ) (m : Signal) (i : ℕ) → IsPrefixOf ss tt → i < length ss
    → OperandsBelow g s m → ((a : ℕ) → a < s → p a ≡ q a) → IsImage g ss p o m i → IsImage g tt q o m i
image_stays g ss tt p q o s (Input k) i grows l b e h = at_prefix ss tt i (Const (pos 0)) grows l ∙ h
image_stays g ss tt p q o s (Const n) i grows l b e h = at_prefix ss tt i (Const (pos 0)) grows l ∙ h
image_stays g ss tt p q o s (Control k) i grows l b e h = at_prefix ss tt i (Const (pos 0)) grows l ∙ h
image_stays g ss tt p q o s (Point op args) i grows l b e h =
    at_prefix ss tt i (Const (pos 0)) grows l ∙ h ∙ ap (Point op) (map_alike s p q args b e)
image_stays g ss tt p q o s (Delay x d max) i grows l b e h =
    at_prefix ss tt i (Const (pos 0)) grows l ∙ h ∙ ap₂ (λ y c. Delay y c max) (e x b.0) (e d b.1)
image_stays g ss tt p q o s (Back group k) i grows l b e h = at_prefix ss tt i (Const (pos 0)) grows l ∙ h
image_stays g ss tt p q o s (Member group k) i grows l b e h = h ∙ e (definition g group k) b
image_stays g ss tt p q o s (Read table r) i grows l b e h = at_prefix ss tt i (Const (pos 0)) grows l ∙ h ∙ ap (Read (o.tables + table)) (e r b)
image_stays g ss tt p q o s (Write table w x r) i grows l b e h =
    at_prefix ss tt i (Const (pos 0)) grows l ∙ h ∙ ap (λ a. Write (o.tables + table) a (p x) (p r)) (e w b.0)
    ∙ ap₂ (λ a c. Write (o.tables + table) (q w) a c) (e x b.1) (e r b.2)

-- ---- one signal

-- a signal is put renumbered, and then stands there as its image; or it is a member, whose definition has an image
pub data CopyCases (g : Graph) (p : ℕ → ℕ) (o : Offsets) (d : Draft) (m : Signal) : Type 0 where
  AsSignal : copy_of g p o d m ≡ put d (renumbered p o m) → ((ss : List Signal) (i : ℕ) → get_or ss i (Const (pos 0)) ≡ renumbered p o m → IsImage g ss p o m i)
      → CopyCases g p o d m
  AsMember : (group k : ℕ) → m ≡ Member group k → CopyCases g p o d m

pub copy_cases : (g : Graph) (p : ℕ → ℕ) (o : Offsets) (d : Draft) (m : Signal) → CopyCases g p o d m
copy_cases g p o d (Input k) = AsSignal refl (λ ss i e. e)
copy_cases g p o d (Const n) = AsSignal refl (λ ss i e. e)
copy_cases g p o d (Control k) = AsSignal refl (λ ss i e. e)
copy_cases g p o d (Point op args) = AsSignal refl (λ ss i e. e)
copy_cases g p o d (Delay x y max) = AsSignal refl (λ ss i e. e)
copy_cases g p o d (Back group k) = AsSignal refl (λ ss i e. e)
copy_cases g p o d (Member group k) = AsMember group k refl
copy_cases g p o d (Read table r) = AsSignal refl (λ ss i e. e)
copy_cases g p o d (Write table w x r) = AsSignal refl (λ ss i e. e)

module _ (g : Graph) (o : Offsets) (n : ℕ) (old d : Draft) (images : List ℕ) (h : IsUnderWay g o n old d images) (here : n < length g.signals) where
  abbrev p : ℕ → ℕ
  p = at images

  abbrev m : Signal
  m = node g n

  below : OperandsBelow g n m
  below = h.whole.ordered n (Const (pos 0)) here

  -- what has come to the draft, and the image
  record Comes (r : ℕ × Draft) : Type 0 where
    pub grows : IsPrefixOf d.signals r.1.signals
    pub groups : r.1.groups ≡ d.groups
    pub closed : r.1.closed ≡ d.closed
    pub tables : r.1.tables ≡ d.tables
    pub within : r.0 < length r.1.signals
    pub copy : IsImage g r.1.signals p o m r.0
    pub made : (i : ℕ) → length d.signals ≤ i → i < length r.1.signals → IsOneOf g o (n + 1) (get_or r.1.signals i (Const (pos 0)))

  comes : (r : ℕ × Draft) → r ≡ copy_of g p o d m → Comes r
  comes r e = go (copy_cases g p o d m)
    where
      go : CopyCases g p o d m → Comes r
      go (AsSignal is stands) =
          let q : IsPut d (renumbered p o m) (put d (renumbered p o m)) = put_stands d (renumbered p o m) in
          subst Comes (sym (e ∙ is)) (record {
            grows = q.keeps;
            groups = refl;
            closed = refl;
            tables = refl;
            within = q.within;
            copy = stands (put d (renumbered p o m)).1.signals (put d (renumbered p o m)).0 (q.stands (Const (pos 0)));
            made = λ i l w. record {
              place = n;
              within = omega arith;
              images = p;
              is = ap (λ k. get_or (put d (renumbered p o m)).1.signals k (Const (pos 0))) (q.alone i w l) ∙ q.stands (Const (pos 0));
            };
          })
      go (AsMember group k is) =
          let z : copy_of g p o d m ≡ (p (definition g group k), d) = ap (copy_of g p o d) is in
          let first : definition g group k < n = subst (OperandsBelow g n) is below in
          subst Comes (sym (e ∙ z)) (record {
            grows = prefix_refl d.signals;
            groups = refl;
            closed = refl;
            tables = refl;
            within = All-get_or (λ a. a < length d.signals) images (definition g group k) 0 (omega (arith, first, h.long)) h.there;
            copy = subst (λ s. IsImage g d.signals p o s (p (definition g group k))) (sym is) refl;
            made = λ i l w. absurd (omega (arith, l, w));
          })

  pub one_more : (id : ℕ) (new : Draft) → (id, new) ≡ copy_of g p o d m → IsUnderWay g o (n + 1) old new (images ++ id ∷ [])
  one_more id new e =
      let c : Comes (id, new) = comes (id, new) e in
      let more : length d.signals ≤ length new.signals = prefix_long d.signals new.signals c.grows in
      let agree : (a : ℕ) → a < n → p a ≡ at (images ++ id ∷ []) a = λ a l. sym (get_or_append_left images (id ∷ []) 0 a (omega (arith, l, h.long))) in
      let last : at (images ++ id ∷ []) n ≡ id = get_or_push images id 0 n h.long in record {
        whole = h.whole;
        long = omega (arith, length_push images id, h.long);
        grows = prefix_trans old.signals d.signals new.signals h.grows c.grows;
        groups = c.groups ∙ h.groups;
        closed = c.closed ∙ h.closed;
        tables = c.tables ∙ h.tables;
        there = All-push (λ a. a < length new.signals) images id (all_below (length d.signals) (length new.signals) images more h.there) c.within;
        copies = λ s l. elim (cases_lt s n) [
          | inl a ↦
              let b : OperandsBelow g s (node g s) = h.whole.ordered s (Const (pos 0)) (omega (arith, a, here)) in
              let there : at images s < length d.signals = All-get_or (λ a. a < length d.signals) images s 0 (omega (arith, a, h.long)) h.there in
              subst (λ i. IsImage g new.signals (at (images ++ id ∷ [])) o (node g s) i) (agree s a)
              (image_stays g d.signals new.signals p (at (images ++ id ∷ [])) o s (node g s) (at images s) c.grows there b
              (λ k j. agree k (omega (arith, a, j))) (h.copies s a))
          | inr a ↦
              let is : n ≡ s = omega (arith, a, l) in
              subst (λ k. IsImage g new.signals (at (images ++ id ∷ [])) o (node g k) (at (images ++ id ∷ []) k)) is
              (subst (λ i. IsImage g new.signals (at (images ++ id ∷ [])) o m i) (sym last)
              (image_stays g new.signals new.signals p (at (images ++ id ∷ [])) o n m id (prefix_refl new.signals) c.within below agree c.copy))
        ];
        made = λ i l w. elim (cases_lt i (length d.signals)) [
          | inl a ↦
              let q = h.made i l a in
              let w = q.within in record {
                place = q.place;
                within = omega (arith, w);
                images = q.images;
                is = at_prefix d.signals new.signals i (Const (pos 0)) c.grows a ∙ q.is;
              }
          | inr a ↦ c.made i a w
        ];
      }

-- ---- what is put can be put

module _ (g : Graph) (o : Offsets) (d : Draft) (images : List ℕ) (there : All (λ a. a < length d.signals) images)
    (waiting : (k : ℕ) → k < length g.groups → IsPending d (o.groups + k)) (listed : AreListed g o.tables d.tables) where
  image_there : (a : ℕ) → a < length images → at images a < length d.signals
  image_there a l = All-get_or (λ a. a < length d.signals) images a 0 l there

  operands_there : (m : Signal) → OperandsBelow g (length images) m → OperandsThere (length d.signals) (renumbered (at images) o m)
  operands_there (Input k) b = tt
  operands_there (Const z) b = tt
  operands_there (Control k) b = tt
  operands_there (Point op args) b =
      All-map (λ a. a < length d.signals) (at images) args
      (All-from_get_or (λ a. at images a < length d.signals) args 0 (λ i l. image_there (get_or args i 0) (All-get_or (λ a. a < length images) args i 0 l b)))
  operands_there (Delay x y max) b = (image_there x b.0, image_there y b.1)
  operands_there (Back group k) b = tt
  operands_there (Member group k) b = tt
  operands_there (Read table r) b = image_there r b
  operands_there (Write table w x r) b = (image_there w b.0, image_there x b.1, image_there r b.2)

  not_shut : (k : ℕ) → IsPending d k → IsShut d k → ⊥
  not_shut k a b = let x = a.1 in let y = b.1 in absurd cc

  names_there : (m : Signal) → NamesWithin g m → ((group k : ℕ) → m ≡ Member group k → ⊥) → NamesSoFar d (renumbered (at images) o m)
  names_there (Input k) w never = tt
  names_there (Const z) w never = tt
  names_there (Control k) w never = tt
  names_there (Point op args) w never = tt
  names_there (Delay x y max) w never = tt
  names_there (Back group k) w never = let q = waiting group w.0 in (q.0, λ shut. absurd (not_shut (o.groups + group) q shut))
  names_there (Member group k) w never = absurd (never group k refl)
  names_there (Read table r) w never = subst (λ T. 0 < length T) (sym (listed table w)) w
  names_there (Write table a x r) w never = subst (λ T. 0 < length T) (sym (listed table w)) w

  pub can_put : (m : Signal) → OperandsBelow g (length images) m → NamesWithin g m → ((group k : ℕ) → m ≡ Member group k → ⊥)
      → CanPut d (renumbered (at images) o m)
  can_put m below names never = record { operands = operands_there m below; names = names_there m names never }
