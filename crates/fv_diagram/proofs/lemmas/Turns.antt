-- What a turn of the walk does.
use Rattle.std.proofs.Common.{◌≡◌, ℕ, ◌+◌, ◌-◌, ◌%◌, ◌<◌, ◌≤◌, List, [], ◌∷◌, ◌++◌, zero, suc, Bool, true, false, if◌then◌else◌, nat_eq}
use Rattle.std.proofs.Common.{length, take, drop, get_or, refl, sym, ap, ◌∙◌, subst, arith, All, Global, inl, inr, length-append}
use Rattle.std.specs.declared.collections.VecDeque.{VecDeque}
use Rattle.std.proofs.lemmas.List.Elements.{All-weaker, All-cons, All-head, All-tail, All-nil, All-take, All-drop, All-append}
use Rattle.std.proofs.lemmas.List.{length-take-le, length-drop}
use Rattle.std.proofs.lemmas.Bool.{cases_lt}
use Rattle.std.proofs.Math.Nat.{mod-eq_of_lt}
use Rattle.fv_base.proofs.lemmas.Lists.{length_table}
use Rattle.fv_diagram.specs.headline.Diagram.{Diagram, Primitive, Constant, Control, Slot, Wave, Table}
use Rattle.fv_diagram.specs.headline.Diagram.{Bind, Par, Seq, Split, Merge, Rec, inputs, outputs, size}
use Rattle.fv_diagram.specs.Diagram.{IsWellFormed}
use Rattle.fv_diagram.specs.headline.Streams.{dealt}
use Rattle.fv_diagram.specs.Arena.{count_of, tree_of}
use Rattle.fv_diagram.specs.declared.pending.Task.{Task}
use Rattle.fv_diagram.specs.declared.pending.Task.TheVariants as task
use Rattle.fv_diagram.specs.declared.pending.Plug.{Plug}
use Rattle.fv_diagram.specs.Hooks.{Keeps}
use Rattle.fv_diagram.specs.Walked.{walked, summed}
use Rattle.fv_diagram.specs.inner.Pending.{slots_of, finished, stage, kept, AreReady, AreKept, weight, Rules, Gives, IsReady, Advances}

pub some_size : (d : Diagram) → 1 ≤ size d
some_size (Primitive p) = omega arith
some_size (Constant n) = omega arith
some_size (Control k) = omega arith
some_size (Slot s) = omega arith
some_size (Wave w) = omega arith
some_size (Table T writes) = omega arith
some_size (Bind s a) = omega arith
some_size (Par a b) = omega arith
some_size (Seq a b) = omega arith
some_size (Split a b) = omega arith
some_size (Merge a b) = omega arith
some_size (Rec a b) = omega arith

-- a number that another divides is not below it
pub not_below : (n m : ℕ) → 1 ≤ n → n % m ≡ 0 → m ≤ n
not_below n m l e = elim (cases_lt n m) [ inl g ↦ absurd (omega (arith, mod-eq_of_lt g)) | inr g ↦ g ]

-- wires that are kept, under a weaker condition
pub kept_in : {W : Type 0} (P Q : W → Type 0) → Keeps P Q → (ts : List (Task W)) → AreKept P ts → AreKept Q ts
kept_in P Q k [] a = tt
kept_in P Q k (t ∷ ts) a = (All-weaker P Q k (kept t) a.0, kept_in P Q k ts a.1)

if_holds : {W : Type 0} (P : W → Type 0) (b : Bool) (x y : W) → P x → P y → P (if b then x else y)
if_holds P true x y p q = p
if_holds P false x y p q = q

slot_holds : {W : Type 0} (P : W → Type 0) (free : W) (plugs : List (Plug W)) (k : ℕ) → P free → All (λ a. P a.wire) plugs → P (slots_of free plugs k)
slot_holds P free [] k f h = f
slot_holds P free (a ∷ plugs) k f h =
    if_holds P (nat_eq k a.slot) a.wire (slots_of free plugs k) (All-head (λ a. P a.wire) a plugs h)
    (slot_holds P free plugs k f (All-tail (λ a. P a.wire) a plugs h))

-- an item, or the other
get_holds : {W : Type 0} (P : W → Type 0) (xs : List W) (i : ℕ) (d : W) → P d → All P xs → P (get_or xs i d)
get_holds P [] i d p h = p
get_holds P (x ∷ xs) zero d p h = All-head P x xs h
get_holds P (x ∷ xs) (suc i) d p h = get_holds P xs i d p (All-tail P x xs h)

dealt_holds : {W : Type 0} (P : W → Type 0) (d : W) (m : ℕ) (xs : List W) → P d → All P xs → All P (dealt d m xs)
dealt_holds P d zero xs p h = All-nil P
dealt_holds P d (suc m) xs p h = All-append P (dealt d m xs) _ (dealt_holds P d m xs p h)
    (All-cons P (get_or xs (m % length xs) d) [] (get_holds P xs (m % length xs) d p h) (All-nil P))

module _ {W S : Type 0} (R : Rules W S) where
  -- the stage p is ready
  abbrev Ready : List (Task W) → List (Plug W) → List W → S → Type 0
  Ready ts plugs now s = IsReady R (stage ts plugs now s)

  abbrev Goes : (ts us : List (Task W)) (plugs plugs' : List (Plug W)) (now now' : List W) (s q : S) → Type 0
  Goes ts us plugs plugs' now now' s q = Advances R (stage ts plugs now s) (stage us plugs' now' q)

  -- a turn, by what holds after it
  pub put_advances : (t : Task W) (ts us : List (Task W)) (plugs plugs' : List (Plug W)) (now now' : List W) (s q : S) → Ready (t ∷ ts) plugs now s →
      Keeps (R.is_wire s) (R.is_wire q) →
      finished R.hooks R.free R.arena us plugs' now' q ≡ finished R.hooks R.free R.arena (t ∷ ts) plugs now s → AreReady R.arena us (R.fed q) (length now') →
      All (R.is_wire q) now' → AreKept (R.is_wire q) us → All (λ a. R.is_wire q a.wire) plugs' → weight R.arena us < weight R.arena (t ∷ ts) →
      Goes (t ∷ ts) us plugs plugs' now now' s q
  put_advances t ts us plugs plugs' now now' s q r k e a o u b w = record {
    same = e;
    ready = record { tasks = a; now = o; kept = u; plugs = b; default = k R.free r.default };
    smaller = w;
  }

  -- the wires of the tasks after, and of the binds, in later signals
  pub tail_kept : (t : Task W) (ts : List (Task W)) (plugs : List (Plug W)) (now : List W) (s q : S) → Ready (t ∷ ts) plugs now s →
      Keeps (R.is_wire s) (R.is_wire q) → AreKept (R.is_wire q) ts
  tail_kept t ts plugs now s q r k = kept_in _ _ k ts r.kept.1

  pub plugs_kept : (ts : List (Task W)) (plugs : List (Plug W)) (now : List W) (s q : S) → Ready ts plugs now s → Keeps (R.is_wire s) (R.is_wire q) →
      All (λ a. R.is_wire q a.wire) plugs
  plugs_kept ts plugs now s q r k = All-weaker _ _ (λ p. k p.wire) plugs r.plugs

  -- a task that is done at once
  pub done_advances : (t : Task W) (ts : List (Task W)) (plugs : List (Plug W)) (now outs : List W) (s q : S) (expected : List W × S) (n : ℕ) →
      finished R.hooks R.free R.arena (t ∷ ts) plugs now s ≡ finished R.hooks R.free R.arena ts plugs expected.0 expected.1 → AreReady R.arena ts (R.fed s) n →
      weight R.arena ts < weight R.arena (t ∷ ts) → Ready (t ∷ ts) plugs now s → Gives R.is_wire R.fed s q expected outs n →
      Goes (t ∷ ts) ts plugs plugs now outs s q
  done_advances t ts plugs now outs s q expected n e a w r g =
      put_advances t ts ts plugs plugs now outs s q r g.keeps (ap (λ x. finished R.hooks R.free R.arena ts plugs x.0 x.1) g.same ∙ sym e)
      (subst (λ f. AreReady R.arena ts f (length outs)) (sym g.held) (subst (AreReady R.arena ts (R.fed s)) (sym g.width) a))
      g.wires (tail_kept t ts plugs now s q r g.keeps) (plugs_kept (t ∷ ts) plugs now s q r g.keeps) w

  -- a diagram with no parts
  pub leaf_advances : (ts : List (Task W)) (plugs : List (Plug W)) (now outs : List W) (s q : S) (id : ℕ) (d : Diagram) → tree_of R.arena id ≡ d →
      Ready (task.Visit id ∷ ts) plugs now s →
      Gives R.is_wire R.fed s q (walked R.hooks R.free d (slots_of R.free plugs) now s) outs (outputs d) → Goes (task.Visit id ∷ ts) ts plugs plugs now outs s q
  leaf_advances ts plugs now outs s q id d e r g =
      done_advances (task.Visit id) ts plugs now outs s q (walked R.hooks R.free d (slots_of R.free plugs) now s) (outputs d)
      (ap (λ d. finished R.hooks R.free R.arena ts plugs (walked R.hooks R.free d (slots_of R.free plugs) now s).0
      (walked R.hooks R.free d (slots_of R.free plugs) now s).1) e)
      (subst (AreReady R.arena ts (R.fed s)) (ap outputs e) r.tasks.3) (omega (arith, some_size (tree_of R.arena id))) r g

  -- ---- tasks in the place of a diagram

  -- what the tasks in its place make is what the diagram makes
  as_tree : (ts : List (Task W)) (plugs : List (Plug W)) (now : List W) (s : S) (id : ℕ) (d : Diagram) → tree_of R.arena id ≡ d →
      (let r = walked R.hooks R.free d (slots_of R.free plugs) now s in finished R.hooks R.free R.arena ts plugs r.0 r.1) ≡ finished R.hooks R.free R.arena
      (task.Visit id ∷ ts) plugs now s
  as_tree ts plugs now s id d e = ap (λ d. finished R.hooks R.free R.arena ts plugs (walked R.hooks R.free d (slots_of R.free plugs) now s).0
      (walked R.hooks R.free d (slots_of R.free plugs) now s).1) (sym e)

  same : (s : S) → Keeps (R.is_wire s) (R.is_wire s)
  same s w x = x

  pub seq_advances : (ts us : List (Task W)) (plugs : List (Plug W)) (now : List W) (s : S) (id l r : ℕ) →
      tree_of R.arena id ≡ Seq (tree_of R.arena l) (tree_of R.arena r) → l < count_of R.arena → r < count_of R.arena →
      us ≡ task.Visit l ∷ task.Visit r ∷ ts → Ready (task.Visit id ∷ ts) plugs now s → Goes (task.Visit id ∷ ts) us plugs plugs now now s s
  seq_advances ts us plugs now s id l r e il ir f p =
      let t = task.Visit id in
      let wf = subst IsWellFormed e p.tasks.1 in
      subst (λ us. Goes (t ∷ ts) us plugs plugs now now s s) (sym f)
      (put_advances t ts (task.Visit l ∷ task.Visit r ∷ ts) plugs plugs now now s s p (same s) (as_tree ts plugs now s id _ e)
      (il, wf.0, p.tasks.2 ∙ ap inputs e, (ir, wf.1, wf.2, subst (AreReady R.arena ts (R.fed s)) (ap outputs e) p.tasks.3))
      p.now (All-nil (R.is_wire s), (All-nil (R.is_wire s), (tail_kept t ts plugs now s s p (same s)))) p.plugs (omega (arith, ap size e)))

  pub par_advances : (ts us : List (Task W)) (plugs : List (Plug W)) (now first : List W) (rest : VecDeque W Global) (s : S) (id l r : ℕ) →
      tree_of R.arena id ≡ Par (tree_of R.arena l) (tree_of R.arena r) → l < count_of R.arena → r < count_of R.arena →
      first ≡ take (inputs (tree_of R.arena l)) now → rest.items ≡ drop (inputs (tree_of R.arena l)) now → us ≡ task.Visit l ∷ task.Right r rest ∷ ts →
      Ready (task.Visit id ∷ ts) plugs now s → Goes (task.Visit id ∷ ts) us plugs plugs now first s s
  par_advances ts us plugs now first rest s id l r e il ir ef er f p =
      let t = task.Visit id in
      let n = inputs (tree_of R.arena l) in
      let wf = subst IsWellFormed e p.tasks.1 in
      let i : length now ≡ n + inputs (tree_of R.arena r) = p.tasks.2 ∙ ap inputs e in
      subst (λ us. Goes (t ∷ ts) us plugs plugs now first s s) (sym f)
      (put_advances t ts (task.Visit l ∷ task.Right r rest ∷ ts) plugs plugs now first s s p (same s)
      (ap (λ x. finished R.hooks R.free R.arena (task.Visit l ∷ task.Right r rest ∷ ts) plugs x s) ef
      ∙ ap (λ x. let a = walked R.hooks R.free (tree_of R.arena l) (slots_of R.free plugs) (take n now) s in
      let b = walked R.hooks R.free (tree_of R.arena r) (slots_of R.free plugs) x a.1 in finished R.hooks R.free R.arena ts plugs (a.0 ++ b.0) b.1) er
      ∙ as_tree ts plugs now s id _ e) (
        il,
        wf.0,
        ap length ef ∙ length-take-le n now (omega (arith, i)),
        (ir, wf.1, ap length er ∙ length-drop n now ∙ omega (arith, i), subst (AreReady R.arena ts (R.fed s)) (ap outputs e) p.tasks.3),
      )
      (subst (All (R.is_wire s)) (sym ef) (All-take (R.is_wire s) n now p.now))
      (All-nil (R.is_wire s), (subst (All (R.is_wire s)) (sym er) (All-drop (R.is_wire s) n now p.now), (tail_kept t ts plugs now s s p (same s)))) p.plugs
      (omega (arith, ap size e)))

  pub split_advances : (ts us : List (Task W)) (plugs : List (Plug W)) (now : List W) (s : S) (id l r m : ℕ) →
      tree_of R.arena id ≡ Split (tree_of R.arena l) (tree_of R.arena r) → l < count_of R.arena → r < count_of R.arena → m ≡ inputs (tree_of R.arena r) →
      us ≡ task.Visit l ∷ task.Deal m ∷ task.Visit r ∷ ts → Ready (task.Visit id ∷ ts) plugs now s → Goes (task.Visit id ∷ ts) us plugs plugs now now s s
  split_advances ts us plugs now s id l r m e il ir em f p =
      let t = task.Visit id in
      let wf = subst IsWellFormed e p.tasks.1 in
      let some : 1 ≤ outputs (tree_of R.arena l) = wf.2 in
      let vs = task.Visit l ∷ task.Deal (inputs (tree_of R.arena r)) ∷ task.Visit r ∷ ts in
      subst (λ us. Goes (t ∷ ts) us plugs plugs now now s s) (sym (f ∙ ap (λ m. task.Visit l ∷ task.Deal m ∷ task.Visit r ∷ ts) em))
      (put_advances t ts vs plugs plugs now now s s p (same s) (as_tree ts plugs now s id _ e)
      (il, wf.0, p.tasks.2 ∙ ap inputs e, ((λ k. some), (ir, wf.1, refl, subst (AreReady R.arena ts (R.fed s)) (ap outputs e) p.tasks.3)))
      p.now (All-nil (R.is_wire s), (All-nil (R.is_wire s), (All-nil (R.is_wire s), (tail_kept t ts plugs now s s p (same s))))) p.plugs
      (omega (arith, ap size e)))

  pub merge_advances : (ts us : List (Task W)) (plugs : List (Plug W)) (now : List W) (s : S) (id l r m : ℕ) →
      tree_of R.arena id ≡ Merge (tree_of R.arena l) (tree_of R.arena r) → l < count_of R.arena → r < count_of R.arena → m ≡ inputs (tree_of R.arena r) →
      us ≡ task.Visit l ∷ task.Sum m ∷ task.Visit r ∷ ts → Ready (task.Visit id ∷ ts) plugs now s → Goes (task.Visit id ∷ ts) us plugs plugs now now s s
  merge_advances ts us plugs now s id l r m e il ir em f p =
      let t = task.Visit id in
      let wf = subst IsWellFormed e p.tasks.1 in
      let some : 1 ≤ inputs (tree_of R.arena r) = wf.3 in
      let vs = task.Visit l ∷ task.Sum (inputs (tree_of R.arena r)) ∷ task.Visit r ∷ ts in
      subst (λ us. Goes (t ∷ ts) us plugs plugs now now s s) (sym (f ∙ ap (λ m. task.Visit l ∷ task.Sum m ∷ task.Visit r ∷ ts) em))
      (put_advances t ts vs plugs plugs now now s s p (same s) (as_tree ts plugs now s id _ e) (
        il,
        wf.0,
        p.tasks.2 ∙ ap inputs e,
        (
          some,
          not_below (outputs (tree_of R.arena l)) (inputs (tree_of R.arena r)) wf.2 wf.4,
          (ir, wf.1, refl, subst (AreReady R.arena ts (R.fed s)) (ap outputs e) p.tasks.3),
        ),
      )
      p.now (All-nil (R.is_wire s), (All-nil (R.is_wire s), (All-nil (R.is_wire s), (tail_kept t ts plugs now s s p (same s))))) p.plugs
      (omega (arith, ap size e)))

  pub rec_advances : (ts us : List (Task W)) (plugs : List (Plug W)) (now late : List W) (ins : VecDeque W Global) (s q : S) (id l r n : ℕ) →
      tree_of R.arena id ≡ Rec (tree_of R.arena l) (tree_of R.arena r) → l < count_of R.arena → r < count_of R.arena →
      n ≡ inputs (tree_of R.arena r) → ins.items ≡ now → (late, q) ≡ R.hooks.opened n s → length late ≡ n → All (R.is_wire q) late →
      Keeps (R.is_wire s) (R.is_wire q) → R.fed q ≡ n ∷ R.fed s →
      us ≡ task.Visit r ∷ task.Before ins ∷ task.Visit l ∷ task.Close ∷ ts → Ready (task.Visit id ∷ ts) plugs now s →
      Goes (task.Visit id ∷ ts) us plugs plugs now late s q
  rec_advances ts us plugs now late ins s q id l r n e il ir en ei eo wide wires keeps held f p =
      let t = task.Visit id in
      let a = tree_of R.arena l in
      let b = tree_of R.arena r in
      let wf = subst IsWellFormed e p.tasks.1 in
      let i : length now ≡ inputs a - outputs b = p.tasks.2 ∙ ap inputs e in
      let back : inputs b ≤ outputs a = wf.2 in
      let taken : outputs b ≤ inputs a = wf.3 in
      let vs = task.Visit r ∷ task.Before ins ∷ task.Visit l ∷ task.Close ∷ ts in
      subst (λ us. Goes (t ∷ ts) us plugs plugs now late s q) (sym f)
      (put_advances t ts vs plugs plugs now late s q p keeps
      (ap (λ x. finished R.hooks R.free R.arena vs plugs x.0 x.1) (eo ∙ ap (λ k. R.hooks.opened k s) en)
      ∙ ap (λ x. let o = R.hooks.opened (inputs b) s in let y = walked R.hooks R.free b (slots_of R.free plugs) o.0 o.1 in let z = walked R.hooks R.free a
      (slots_of R.free plugs) (y.0 ++ x) y.1 in let c = R.hooks.closed z.0 z.1 in finished R.hooks R.free R.arena ts plugs c.0 c.1) ei
      ∙ as_tree ts plugs now s id _ e) (
        ir,
        wf.1,
        wide ∙ en,
        (
          il,
          wf.0,
          omega (arith, ap length ei, i, taken),
          (n, R.fed s, held, omega (arith, en, back), subst (AreReady R.arena ts (R.fed s)) (ap outputs e) p.tasks.3),
        ),
      )
      wires (
        All-nil (R.is_wire q),
        (
          subst (All (R.is_wire q)) (sym ei) (All-weaker _ _ keeps now p.now),
          (All-nil (R.is_wire q), (All-nil (R.is_wire q), (tail_kept t ts plugs now s q p keeps))),
        ),
      )
      (plugs_kept (t ∷ ts) plugs now s q p keeps) (omega (arith, ap size e)))

  pub bind_advances : (ts us : List (Task W)) (plugs plugs' : List (Plug W)) (now rest : List W) (s : S) (id k body : ℕ) (w : W) →
      tree_of R.arena id ≡ Bind k (tree_of R.arena body) → body < count_of R.arena →
      w ≡ get_or now 0 R.free → rest ≡ drop 1 now → plugs' ≡ record { slot = k; wire = w } ∷ plugs → us ≡ task.Visit body ∷ task.Unplug ∷ ts →
      Ready (task.Visit id ∷ ts) plugs now s → Goes (task.Visit id ∷ ts) us plugs plugs' now rest s s
  bind_advances ts us plugs plugs' now rest s id k body w e ib ew er ep f p =
      let t = task.Visit id in
      let wf = subst IsWellFormed e p.tasks.1 in
      let w' : W = get_or now 0 R.free in
      let qs : List (Plug W) = record { slot = k; wire = w' } ∷ plugs in
      let vs : List (Task W) = task.Visit body ∷ task.Unplug ∷ ts in
      subst (λ us. Goes (t ∷ ts) us plugs plugs' now rest s s) (sym f)
      (subst (λ qs. Goes (t ∷ ts) vs plugs qs now rest s s) (sym (ep ∙ ap (λ w. record { slot = k; wire = w } ∷ plugs) ew))
      (subst (λ r. Goes (t ∷ ts) vs plugs qs now r s s) (sym er)
      (put_advances t ts vs plugs qs now (drop 1 now) s s p (same s) (as_tree ts plugs now s id (Bind k (tree_of R.arena body)) e)
      (ib, wf, length-drop 1 now ∙ omega (arith, p.tasks.2, ap inputs e), subst (AreReady R.arena ts (R.fed s)) (ap outputs e) p.tasks.3)
      (All-drop (R.is_wire s) 1 now p.now) (All-nil (R.is_wire s), (All-nil (R.is_wire s), (tail_kept t ts plugs now s s p (same s))))
      (All-cons (λ a. R.is_wire s a.wire) record { slot = k; wire = w' } plugs (get_holds (R.is_wire s) now 0 R.free p.default p.now) p.plugs)
      (omega (arith, ap size e)))))

  -- a task that only hands wires on
  pub pure_advances : (t : Task W) (ts : List (Task W)) (plugs : List (Plug W)) (now outs expected : List W) (s : S) →
      finished R.hooks R.free R.arena (t ∷ ts) plugs now s ≡ finished R.hooks R.free R.arena ts plugs expected s →
      AreReady R.arena ts (R.fed s) (length expected) → weight R.arena ts < weight R.arena (t ∷ ts) → All (R.is_wire s) expected → outs ≡ expected →
      Ready (t ∷ ts) plugs now s → Goes (t ∷ ts) ts plugs plugs now outs s s
  pure_advances t ts plugs now outs expected s e a w o f p =
      subst (λ outs. Goes (t ∷ ts) ts plugs plugs now outs s s) (sym f)
      (put_advances t ts ts plugs plugs now expected s s p (same s) (sym e) a o (tail_kept t ts plugs now s s p (same s)) p.plugs w)

  pub slot_advances : (ts : List (Task W)) (plugs : List (Plug W)) (now outs : List W) (s : S) (id k : ℕ) → tree_of R.arena id ≡ Slot k →
      outs ≡ slots_of R.free plugs k ∷ [] → Ready (task.Visit id ∷ ts) plugs now s →
      Goes (task.Visit id ∷ ts) ts plugs plugs now outs s s
  slot_advances ts plugs now outs s id k e f p =
      pure_advances (task.Visit id) ts plugs now outs (slots_of R.free plugs k ∷ []) s (sym (as_tree ts plugs now s id (Slot k) e))
      (subst (AreReady R.arena ts (R.fed s)) (ap outputs e) p.tasks.3) (omega (arith, some_size (tree_of R.arena id)))
      (All-cons (R.is_wire s) (slots_of R.free plugs k) [] (slot_holds (R.is_wire s) R.free plugs k p.default p.plugs) (All-nil (R.is_wire s))) f p

  pub right_advances : (ts us : List (Task W)) (plugs : List (Plug W)) (left rest : VecDeque W Global) (s : S) (id : ℕ) →
      us ≡ task.Visit id ∷ task.Join left ∷ ts → Ready (task.Right id rest ∷ ts) plugs left.items s →
      Goes (task.Right id rest ∷ ts) us plugs plugs left.items rest.items s s
  right_advances ts us plugs left rest s id f p =
      let t = task.Right id rest in
      subst (λ us. Goes (t ∷ ts) us plugs plugs left.items rest.items s s) (sym f)
      (put_advances t ts (task.Visit id ∷ task.Join left ∷ ts) plugs plugs left.items rest.items s s p (same s) refl
      (p.tasks.0, p.tasks.1, p.tasks.2, p.tasks.3)
      p.kept.0 (All-nil (R.is_wire s), (p.now, p.kept.1)) p.plugs (omega arith))

  pub close_advances : (ts : List (Task W)) (plugs : List (Plug W)) (now outs : List W) (s q : S) (n : ℕ) → (outs, q) ≡ R.hooks.closed now s →
      length outs ≡ length now → All (R.is_wire q) outs → Keeps (R.is_wire s) (R.is_wire q) → R.fed s ≡ n ∷ R.fed q →
      Ready (task.Close ∷ ts) plugs now s → Goes (task.Close ∷ ts) ts plugs plugs now outs s q
  close_advances ts plugs now outs s q n e l o k f p =
      let a = p.tasks in
      let rest : a.1 ≡ R.fed q = ap (drop 1) (sym a.2 ∙ f) in
      put_advances task.Close ts ts plugs plugs now outs s q p k (ap (λ x. finished R.hooks R.free R.arena ts plugs x.0 x.1) e)
      (subst (λ r. AreReady R.arena ts r (length outs)) rest (subst (AreReady R.arena ts a.1) (sym l) a.4)) o (tail_kept task.Close ts plugs now s q p k)
      (plugs_kept (task.Close ∷ ts) plugs now s q p k) (omega arith)

  pub unplug_advances : (ts : List (Task W)) (plugs plugs' : List (Plug W)) (now : List W) (s : S) → plugs' ≡ drop 1 plugs →
      Ready (task.Unplug ∷ ts) plugs now s → Goes (task.Unplug ∷ ts) ts plugs plugs' now now s s
  unplug_advances ts plugs plugs' now s e p =
      subst (λ ps. Goes (task.Unplug ∷ ts) ts plugs ps now now s s) (sym e)
      (put_advances task.Unplug ts ts plugs (drop 1 plugs) now now s s p (same s) refl p.tasks p.now p.kept.1
      (All-drop (λ a. R.is_wire s a.wire) 1 plugs p.plugs) (omega arith))

  pub deal_advances : (ts : List (Task W)) (plugs : List (Plug W)) (now outs : List W) (s : S) (m : ℕ) → outs ≡ dealt R.free m now →
      Ready (task.Deal m ∷ ts) plugs now s → Goes (task.Deal m ∷ ts) ts plugs plugs now outs s s
  deal_advances ts plugs now outs s m f p =
      pure_advances (task.Deal m) ts plugs now outs (dealt R.free m now) s refl
      (subst (AreReady R.arena ts (R.fed s)) (sym (length_table m (λ i. get_or now (i % length now) R.free))) p.tasks.1) (omega arith)
      (dealt_holds (R.is_wire s) R.free m now p.default p.now) f p

  pub join_advances : (ts : List (Task W)) (plugs : List (Plug W)) (now outs : List W) (left : VecDeque W Global) (s : S) → outs ≡ left.items ++ now →
      Ready (task.Join left ∷ ts) plugs now s → Goes (task.Join left ∷ ts) ts plugs plugs now outs s s
  join_advances ts plugs now outs left s f p =
      pure_advances (task.Join left) ts plugs now outs (left.items ++ now) s refl
      (subst (AreReady R.arena ts (R.fed s)) (sym (length-append left.items now)) p.tasks) (omega arith)
      (All-append (R.is_wire s) left.items now p.kept.0 p.now) f p

  pub before_advances : (ts : List (Task W)) (plugs : List (Plug W)) (now outs : List W) (ins : VecDeque W Global) (s : S) → outs ≡ now ++ ins.items →
      Ready (task.Before ins ∷ ts) plugs now s → Goes (task.Before ins ∷ ts) ts plugs plugs now outs s s
  before_advances ts plugs now outs ins s f p =
      pure_advances (task.Before ins) ts plugs now outs (now ++ ins.items) s refl
      (subst (AreReady R.arena ts (R.fed s)) (sym (length-append now ins.items)) p.tasks) (omega arith)
      (All-append (R.is_wire s) now ins.items p.now p.kept.0) f p

  pub sum_advances : (ts : List (Task W)) (plugs : List (Plug W)) (now outs : List W) (s q : S) (m : ℕ) → Ready (task.Sum m ∷ ts) plugs now s →
      Gives R.is_wire R.fed s q (summed R.hooks R.free m now s) outs m → Goes (task.Sum m ∷ ts) ts plugs plugs now outs s q
  sum_advances ts plugs now outs s q m p g = done_advances (task.Sum m) ts plugs now outs s q (summed R.hooks R.free m now s) m refl p.tasks.2 (omega arith) p g

  -- a task under another name
  pub by_task : (t t' : Task W) (ts us : List (Task W)) (plugs plugs' : List (Plug W)) (now now' : List W) (s q : S) → t ≡ t' →
      (Ready (t' ∷ ts) plugs now s → Goes (t' ∷ ts) us plugs plugs' now now' s q) →
      Ready (t ∷ ts) plugs now s → Goes (t ∷ ts) us plugs plugs' now now' s q
  by_task t t' ts us plugs plugs' now now' s q e f = subst (λ t. Ready (t ∷ ts) plugs now s → Goes (t ∷ ts) us plugs plugs' now now' s q) (sym e) f
