-- Code that fits obeys the values of the signals of its lanes and cells.
use Rattle.std.proofs.Common.{◌≡◌, ℕ, zero, suc, ◌-◌, ◌<◌, ◌≤◌, List, [], ◌∷◌, ◌++◌, length, take, get_or, map, refl, sym, ap, ap₂, ◌∙◌, subst, arith, inl, inr}
use Rattle.std.proofs.Common.{All, ℤ, pos, negsuc, Bool, true, false, nat_le, if◌then◌else◌}
use Rattle.std.proofs.lemmas.List.{map-append, length-set}
use Rattle.std.proofs.lemmas.List.Elements.{All-head, All-tail, All-take}
use Rattle.std.proofs.lemmas.Bool.{cond-true, le-leb}
use Rattle.std.proofs.lemmas.Int.{ints}
use Rattle.fv_num.specs.headline.Words.{argument, apply_of, inputs_of}
use Rattle.std.specs.Int.{int_max}
use Rattle.fv_num.specs.declared.op.Op.{Op}
use Rattle.fv_num.specs.headline.Frames.{Frame, Stream, column, back, delayed}
use Rattle.fv_num.specs.headline.Tables.{place, read_at, written_at, written, after}
use Rattle.fv_num.proofs.lemmas.Tables.{lists_the_last}
use Rattle.fv_signal.specs.declared.signal.Signal.{Signal}
use Rattle.fv_signal.specs.declared.signal.Signal.TheVariants as signal
use Rattle.fv_signal.specs.headline.Value.{Graph, definition, table_of, signal_at, value, IsOrdered}
use Rattle.fv_signal.proofs.lemmas.Values.{values_are_given}
use Rattle.fv_loopcode.specs.declared.step.Step.{Step}
use Rattle.fv_loopcode.specs.declared.step.Step.TheVariants as step
use Rattle.fv_loopcode.specs.headline.Lanes.{back_by}
use Rattle.fv_loopcode.specs.headline.State.{Finds}
use Rattle.fv_loopcode.specs.headline.Code.{step_value}
use Rattle.fv_loopcode.specs.headline.Obeys.{Roles, Place, nothing, done_after, flowing, flowing_next, StepObeys, Obeys}
use Rattle.fv_analysis.specs.headline.Stands.{node, stand, StandsAt}
use Rattle.fv_split_plan.specs.headline.Fits.{Names, flows, written_by}
use Rattle.fv_split_plan.specs.Fits.{Mean, Value, Literal, mean_at, LoadFits, OfDelay, OfBack, OfNow, PointFits, OfPoint, OfStill}
use Rattle.fv_split_plan.specs.Fits.{ReadFits, WriteFits, StepFits, CodeFits, CodesObey}
use Rattle.fv_analysis.proofs.lemmas.StandLemmas.{stands_alike}

back_now : (x : Stream) (t : ℕ) → back x t (pos 0) ≡ x t
back_now x t = cond-true (nat_le 0 t) _ _ (le-leb 0 t (omega arith)) ∙ (let e : t - 0 ≡ t = omega arith in ap x e)

back_one : (x : Stream) (t : ℕ) → back x t (pos 1) ≡ delayed x t
back_one x zero = refl
back_one x (suc t) = cond-true (nat_le 1 (suc t)) _ _ (le-leb 1 (suc t) (omega arith)) ∙ (let e : suc t - 1 ≡ t = omega arith in ap x e)

pub map_get : {A B : Type 0} (f : A → B) (xs : List A) (i : ℕ) (d : A) → get_or (map f xs) i (f d) ≡ f (get_or xs i d)
map_get f [] i d = refl
map_get f (x ∷ xs) zero d = refl
map_get f (x ∷ xs) (suc i) d = map_get f xs i d

pub map_take : {A B : Type 0} (n : ℕ) (f : A → B) (ws : List A) → take n (map f ws) ≡ map f (take n ws)
map_take zero f ws = refl
map_take (suc n) f [] = refl
map_take (suc n) f (w ∷ ws) = ap (λ x. f w ∷ x) (map_take n f ws)

pub map_map : {A B C : Type 0} (f : B → C) (h : A → B) (ws : List A) → map f (map h ws) ≡ map (λ w. f (h w)) ws
map_map f h [] = refl
map_map f h (w ∷ ws) = ap (λ x. f (h w) ∷ x) (map_map f h ws)

map_all : {A : Type 0} (P : A → Type 0) (f h : A → ℤ) (ws : List A) → All P ws → ((w : A) → P w → f w ≡ h w) → map f ws ≡ map h ws
map_all P f h [] a e = refl
map_all P f h (w ∷ ws) a e = ap₂ (λ x y. x ∷ y) (e w (All-head P w ws a)) (map_all P f h ws (All-tail P w ws a) e)

-- a table that was written has as many numbers as before
long_after : (T : List ℤ) (w x : Stream) (t : ℕ) → length (after T w x t) ≡ length T
long_after T w x zero = refl
long_after T w x (suc t) = length-set (after T w x t) (place (length (after T w x t)) (w t)) (x t) ∙ long_after T w x t

place_within : (n : ℕ) (z : ℤ) → 0 < n → place n z < n
place_within n (pos i) l = omega arith
place_within n (negsuc i) l = l

-- what is read of a table after the write of a time
read_after : (T : List ℤ) (w x : Stream) (t : ℕ) (z : ℤ) → 0 < length T → read_at (after T w x (suc t)) z ≡ written_at T w x t z
read_after T w x t z l =
    ap (λ n. argument (after T w x (suc t)) (place n z)) (long_after T w x (suc t))
    ∙ lists_the_last T w x (place (length T) z) t (place_within (length T) z l)

module _ (g : Graph) (ordered : IsOrdered g) (p : Names) (r : Roles) (X : List Frame) (c : ℕ → Stream) (t : ℕ) where
  abbrev v : ℕ → Stream
  v s u = value g s X c u

  abbrev find : Finds
  find = flowing (flows g p X c) t

  abbrev next : ℕ → List ℤ
  next = flowing_next (flows g p X c) t

  abbrev held : ℕ → ℤ
  held k = v (p.held k) t

  abbrev input : ℕ → ℤ
  input i = column X i t

  meant : Mean → ℤ
  meant (Value s) = v s t
  meant (Literal n) = n

  node_is : (s : ℕ) (n : Signal) → StandsAt g s n → (u : ℕ) → v s u ≡ signal_at g X c v n u
  node_is s n h u = values_are_given g ordered X c s (signal.Const (pos 0)) u h.within ∙ ap (λ y. signal_at g X c v y u) h.is

  stands : (s : ℕ) → s < length g.signals → (u : ℕ) → v (stand g s) u ≡ v s u
  stands s l u = stands_alike g ordered s l X c u

  -- a register has what it means
  register : (ms : List Mean) (w : ℕ) → argument (map meant ms) w ≡ meant (mean_at ms w)
  unfolding meant
  register ms w = map_get meant ms w (Literal (pos 0))

  same_stream : (x y : ℕ) → ((u : ℕ) → v x u ≡ v y u) → (b : ℕ) → back (v x) t (pos b) ≡ back (v y) t (pos b)
  same_stream x y e b =
      elim (nat_le b t) as (λ q. (if q then v x (t - b) else pos 0) ≡ (if q then v y (t - b) else pos 0)) [ true ↦ e (t - b) | false ↦ refl ]

  -- what a step that fits gives, and that it obeys
  record StepGives (done : Place → Bool) (ms : List Mean) (s : Step) (m : Mean) : Type 0 where
    obeys : StepObeys r p.history find next done (argument (map meant ms)) s
    gives : step_value held input find (argument (map meant ms)) s ≡ meant m

  load_gives : (done : Place → Bool) (ms : List Mean) (l b max : ℕ) (m : Mean) → r.loaded l ≡ true → LoadFits g p r done ms l b max m →
      StepGives done ms (step.Load l b max) m
  unfolding meant
  load_gives done ms l b max m o (OfDelay s x d n lx ld ex ed few own e) =
      let q : argument (map meant ms) b ≡ v d t = register ms b ∙ ap meant ed ∙ stands d ld t in
      record {
        obeys = (o, le_back max (argument (map meant ms) b) (p.history l) few, λ h. inl (own h));
        gives =
            ap (λ z. back (v (p.lane l)) t (pos (back_by max z))) q
            ∙ sym (ap (λ y. back (v y) t (pos (back_by max (v d t)))) ex)
            ∙ same_stream (stand g x) x (stands x lx) (back_by max (v d t))
            ∙ sym (node_is s (signal.Delay x d max) n t)
            ∙ sym (ap meant e);
      }
    where
      le_back : (max : ℕ) (z : ℤ) (h : ℕ) → max ≤ h → back_by max z ≤ h
      le_back max (pos k) h e = omega arith
      le_back max (negsuc k) h e = omega arith
  load_gives done ms l b max m o (OfBack s group i n lx ex eb one few e) =
      let q : back_by max (argument (map meant ms) b) ≡ 1 = ap (back_by max) (register ms b ∙ ap meant eb) ∙ ap (λ k. back_by k (pos 1)) one in
      record {
        obeys = (o, omega (arith, q), λ h. inr (omega (arith, q)));
        gives =
            ap (λ k. back (v (p.lane l)) t (pos k)) q
            ∙ sym (ap (λ y. back (v y) t (pos 1)) ex)
            ∙ same_stream (stand g (definition g group i)) (definition g group i) (stands (definition g group i) lx) 1
            ∙ back_one (v (definition g group i)) t
            ∙ sym (node_is s (signal.Back group i) n t)
            ∙ sym (ap meant e);
      }
  load_gives done ms l b max m o (OfNow there eb none own e) =
      let q : back_by max (argument (map meant ms) b) ≡ 0 = ap (back_by max) (register ms b ∙ ap meant eb) ∙ ap (λ k. back_by k (pos 0)) none in
      record {
        obeys = (o, omega (arith, q), λ h. absurd cc);
        gives = ap (λ k. back (v (p.lane l)) t (pos k)) q ∙ back_now (v (p.lane l)) t ∙ sym (ap meant e);
      }

  map_same_register : (ms : List Mean) (ws : List ℕ) → map (argument (map meant ms)) ws ≡ map (λ w. meant (mean_at ms w)) ws
  map_same_register ms [] = refl
  map_same_register ms (w ∷ ws) = ap₂ (λ x y. x ∷ y) (register ms w) (map_same_register ms ws)

  -- an operation's step
  point_gives : (ms : List Mean) (op : Op) (args : List ℕ) (m : Mean) → PointFits g ms op args m →
      apply_of op (take (inputs_of op) (map (argument (map meant ms)) args)) ≡ meant m
  unfolding meant
  point_gives ms op args m (OfPoint s os n within there same e) =
      let one : map (argument (map meant ms)) (take (inputs_of op) args) ≡ map (λ o. v o t) (take (inputs_of op) os) =
      map_same_register ms (take (inputs_of op) args) ∙ sym (map_map meant (mean_at ms) (take (inputs_of op) args)) ∙ ap (map meant) same
      ∙ map_map meant (λ o. Value (stand g o)) (take (inputs_of op) os)
      ∙ map_all (λ o. o < length g.signals) (λ o. v (stand g o) t) (λ o. v o t) (take (inputs_of op) os) (All-take (λ o. o < length g.signals)
      (inputs_of op) os within) (λ o l. stands o l t) in
      ap (apply_of op) (map_take (inputs_of op) (argument (map meant ms)) args ∙ one ∙ sym (map_take (inputs_of op) (λ o. v o t) os))
      ∙ sym (node_is s (signal.Point op os) n t) ∙ sym (ap meant e)
  point_gives ms op args m (OfStill s x d w n lx eo ea ew e) =
      let q : argument (map meant ms) w ≡ v x t = register ms w ∙ ap meant ew ∙ stands x lx t in
      let z : back_by 0 (v d t) ≡ 0 = still (v d t) in
      ap (λ xs. apply_of op (take (inputs_of op) (map (argument (map meant ms)) xs))) ea
      ∙ ap (λ o. apply_of o (take (inputs_of o) (map (argument (map meant ms)) (w ∷ w ∷ w ∷ w ∷ [])))) eo
      ∙ greater (argument (map meant ms) w)
      ∙ q ∙ sym (node_is s (signal.Delay x d 0) n t ∙ ap (λ b. back (v x) t (pos b)) z ∙ back_now (v x) t)
      ∙ sym (ap meant e)
    where
      still : (z : ℤ) → back_by 0 z ≡ 0
      still (pos k) = omega arith
      still (negsuc k) = refl

      greater : (y : ℤ) → int_max y y ≡ y
      greater y = grind (arith, ints)

  -- a read's step
  read_gives : (done : Place → Bool) (ms : List Mean) (table arg : ℕ) (m : Mean) → ReadFits g ms table arg m → StepGives done ms (step.Read table arg) m
  unfolding meant
  read_gives done ms table arg m h =
      let q : argument (map meant ms) arg ≡ v h.place t = register ms arg ∙ ap meant h.operand ∙ stands h.place h.within t in
      record {
        obeys = h.items;
        gives = ap (read_at (table_of g table)) q ∙ sym (node_is h.reader (signal.Read table h.place) h.stands t) ∙ sym (ap meant h.is);
      }

  -- a write's step
  write_gives : (done : Place → Bool) (ms : List Mean) (cells : ℕ) (args : List ℕ) (m : Mean) → WriteFits g p r done ms cells args m →
      StepGives done ms (step.Write cells args) m
  unfolding meant
  write_gives done ms cells args m h =
      let T = table_of g h.table in
      let xs : map (argument (map meant ms)) args ≡ v h.w t ∷ v h.x t ∷ v h.place t ∷ [] =
      map_same_register ms args ∙ sym (map_map meant (mean_at ms) args) ∙ ap (map meant) h.operands
      ∙ ap₂ (λ a b. a ∷ b) (stands h.w h.w_within t) (ap₂ (λ a b. a ∷ b ∷ []) (stands h.x h.x_within t) (stands h.place h.place_within t)) in
      let here : (u : ℕ) → written_by g X c (node g (p.cells cells)) u ≡ after T (v h.w) (v h.x) u = λ u. ap (λ n. written_by g X c n u) h.stands.is in
      record {
        obeys = (
          h.own,
          h.waits,
          subst (λ n. 0 < n) (sym (ap length (here t) ∙ long_after T (v h.w) (v h.x) t)) h.items,
          here (suc t) ∙ sym (ap₂ (λ ys zs. written ys (argument zs 0) (argument zs 1)) (here t) xs),
        );
        gives =
            ap₂ (λ ys zs. read_at (written ys (argument zs 0) (argument zs 1)) (argument zs 2)) (here t) xs
            ∙ read_after T (v h.w) (v h.x) t (v h.place t) h.items
            ∙ sym (node_is (p.cells cells) (signal.Write h.table h.w h.x h.place) h.stands t)
            ∙ sym (ap meant h.is);
      }

  step_gives : (done : Place → Bool) (ms : List Mean) (s : Step) (m : Mean) → StepFits g p r done ms s m → StepGives done ms s m
  unfolding meant
  step_gives done ms (step.Number n) m (inl h) = record { obeys = tt; gives = sym (ap meant h) }
  step_gives done ms (step.Number n) m (inr h) = record { obeys = tt; gives = sym (h.1 X c t) ∙ sym (ap meant h.2) }
  step_gives done ms (step.Held k) m h = record { obeys = tt; gives = sym (ap meant h.1) }
  step_gives done ms (step.Input i) m h = record { obeys = tt; gives = sym (node_is h.0 (signal.Input i) h.1 t) ∙ sym (ap meant h.2) }
  step_gives done ms (step.Point op args) m h = record { obeys = tt; gives = point_gives ms op args m h }
  step_gives done ms (step.Load l b max) m h = load_gives done ms l b max m h.0 h.1
  step_gives done ms (step.Append l a) m h =
      let q : argument (map meant ms) a ≡ v (p.lane l) t = register ms a ∙ ap meant h.2 in
      record { obeys = (h.0, h.1, back_now (v (p.lane l)) t ∙ sym q); gives = q ∙ sym (ap meant h.3) }
  step_gives done ms (step.Read table arg) m h = read_gives done ms table arg m h
  step_gives done ms (step.Write cells args) m h = write_gives done ms cells args m h

  code_obeys : (done : Place → Bool) (ms : List Mean) (steps : List Step) →
      CodeFits g p r done ms steps → Obeys r p.history find next held input done (map meant ms) steps
  code_obeys done ms [] h = h
  code_obeys done ms (s ∷ ss) h =
      let q = step_gives done ms s h.0 h.1 in (
        q.obeys,
        subst (λ now. Obeys r p.history find next held input (done_after done s) now ss) (map-append meant ms (h.0 ∷ [])
            ∙ ap (λ z. map meant ms ++ z ∷ []) (sym q.gives)) (code_obeys (done_after done s) (ms ++ h.0 ∷ []) ss h.2),
      )

pub codes_obey : (g : Graph) → CodesObey g
codes_obey g ordered p r steps h X c t = code_obeys g ordered p r X c t nothing [] steps h
