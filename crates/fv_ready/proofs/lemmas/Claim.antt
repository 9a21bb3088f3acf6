-- A claim keeps the rule.
use Rattle.std.proofs.Common.{◌≡◌, ◌≢◌, ℕ, zero, suc, ◌+◌, ◌-◌, ◌<◌, ◌≤◌, Bool, true, false, not, ◌&&◌, ◌||◌}
use Rattle.std.proofs.Common.{◌⊎◌, inl, inr, ⊎_elim, List, [], ◌∷◌, ◌++◌, length, set, slice_index, refl, sym, ap, ◌∙◌}
use Rattle.std.proofs.Common.{subst, arith, ◌==◌, length-set, eq-eqb, ne_eqb, true≢false, Option, Some, None, MatchBool, ltb, get_or-set_same, append_assoc}
use mathlib.Core.Option.{some, none, some-injective, some-ne-none}
use mathlib.Core.Logic.{dite}
use native.Mathlib.Decide.{ℕ_discrete}
use lib.ListN.{get_elem?}
use Rattle.atomic_table.specs.Table.{State, Me, step, keeps, Allows, carried_after, homes_after}
use Rattle.atomic_table.proofs.Lists.{at_set}
use Rattle.fv_graph.specs.Tasks.{bit, total}
use Rattle.fv_graph.specs.TasksBeside.{times}
use Rattle.fv_graph.proofs.lemmas.Counts.{bit_same, bit_apart, bit_one, bit_true, bit_le, both_true, total_append, full, get_set}
use Rattle.fv_graph.proofs.lemmas.Counts.{bit_left, bit_right}
use Rattle.fv_graph.specs.Wires.{Wires, IsWires}
use Rattle.fv_graph.specs.Graph.{Graph}
use Rattle.fv_ready.specs.declared.view.Deed.{Deed}
use Rattle.fv_ready.specs.declared.view.Deed.TheVariants.{Claimed}
use Rattle.fv_ready.specs.declared.view.About.{About}
use Rattle.fv_ready.specs.declared.view.View.{View}
use Rattle.fv_ready.specs.Rule.{count_word, claim_word, wins, loses, sees, arrives, stamps, starts, finishes}
use Rattle.fv_ready.specs.Rule.{done_by, all, noted, IsSpent, IsOwn, Fits, IsKept, Took, Claims}
use Rattle.fv_ready.specs.Rule.{places, Each, IsFresh}
use Rattle.fv_ready.proofs.lemmas.Taking.{rev, onto_rev, places_append, times_rev, lie_rev, take_all, onto}
use Rattle.fv_ready.proofs.lemmas.Taking.{AllLie, carried_all, length_all, stays_home, was_home, valid_all}

module _ {C : Type 0} where
  pub all_set : (f : Deed → ℕ) (views : List (View C)) (id : ℕ) (v w : View C) → get_elem? views id ≡ some v → all f (set views id w) +
      done_by f v ≡ all f views + done_by f w
  all_set f [] id v w at = absurd (some-ne-none v (sym at))
  all_set f (x ∷ xs) zero v w at = let e : total f x.deeds ≡ total f v.deeds = ap (λ (y : View C). total f y.deeds) (some-injective x v at) in omega arith
  all_set f (x ∷ xs) (suc id) v w at = let r = all_set f xs id v w at in omega arith

  pub all_noted : (f : Deed → ℕ) (views : List (View C)) (id : ℕ) (v : View C) (d : Deed) → get_elem? views id ≡ some v → all f
      (set views id (noted v d)) ≡ all f views + f d
  all_noted f views id v d at = let a = all_set f views id v (noted v d) at in let b = total_append f v.deeds (d ∷ []) in omega arith

  pub all_at : (f : Deed → ℕ) (views : List (View C)) (id : ℕ) (v : View C) → get_elem? views id ≡ some v → done_by f v ≤ all f views
  all_at f [] id v at = absurd (some-ne-none v (sym at))
  all_at f (x ∷ xs) zero v at = let e : total f x.deeds ≡ total f v.deeds = ap (λ (y : View C). total f y.deeds) (some-injective x v at) in omega arith
  all_at f (x ∷ xs) (suc id) v at = let r = all_at f xs id v at in omega arith

  pub all_le : (f g : Deed → ℕ) (views : List (View C)) → ((id : ℕ) (v : View C) → get_elem? views id ≡ some v → done_by f v ≤ done_by g v)
      → all f views ≤ all g views
  all_le f g [] h = omega arith
  all_le f g (x ∷ xs) h = let a = h 0 x refl in let r = all_le f g xs (λ id v at. h (suc id) v at) in omega arith

pub total_ext : (f g : ℕ → ℕ) → ((x : ℕ) → f x ≡ g x) → (xs : List ℕ) → total f xs ≡ total g xs
total_ext f g e [] = refl
total_ext f g e (x ∷ xs) = let a = e x in let r = total_ext f g e xs in omega arith

or_true : (a b : Bool) → (a || b) ≡ true → (a ≡ true) ⊎ (b ≡ true)
or_true true b e = inl refl
or_true false b e = inr e

same_board : {C : Type 0} (a b : About C) → Some a ≡ Some b → a ≡ b
same_board a b e = cc

wide_or : (a b c : Bool) → (a || c) ≡ true → (a || b || c) ≡ true
wide_or true b c e = refl
wide_or false true c e = refl
wide_or false false c e = e

not_is : (b : Bool) → (b ≡ true → ⊥) → b ≡ false
not_is true f = absurd (f refl)
not_is false f = refl

none_placed : {S : Type 0} (xs : List (ℕ × S)) → places xs ≡ [] → xs ≡ []
none_placed [] e = refl
none_placed (x ∷ xs) e = absurd (cc)

module _ {C Key : Type 0} (wires : Graph → Wires) (edge_of : C → ℕ) (key_of : C → Key) where
  abbrev pub Kept : About C → State (Option C) (View C) → Type 0
  Kept a s = IsKept wires edge_of key_of a s

  module _ (a : About C) (hs : List (mathlib.Core.Option.Option (Option C))) where
    -- what lies at these edges, of which the first are full and the others empty
    record Drawn (es fs : List ℕ) : Type 0 where
      pub ins : List (ℕ × Option C)
      pub outs : List (ℕ × Option C)
      pub ins_at : places ins ≡ es
      pub outs_at : places outs ≡ fs
      pub fit : Each (λ e x. Fits wires edge_of key_of a e x) ins
      pub empty : Each (λ e x. x ≡ None) outs
      pub lie : AllLie hs (ins ++ outs)

    draws : (es fs : List ℕ) → ((e : ℕ) → 0 < times e es → (x : Option C) × (get_elem? hs e ≡ some (some x)) × Fits wires edge_of key_of a
        e x) → ((e : ℕ) → 0 < times e fs → get_elem? hs e ≡ some (some None)) → Drawn es fs
    draws [] [] full empty = record { ins = []; outs = []; ins_at = refl; outs_at = refl; fit = tt; empty = tt; lie = tt }
    draws [] (f ∷ fs) full empty = let r = draws [] fs full (λ e h. empty e (omega arith)) in let o = bit_same f f refl in
        record {
          ins = [];
          outs = (f, None) ∷ r.outs;
          ins_at = refl;
          outs_at = ap (λ l. f ∷ l) r.outs_at;
          fit = tt;
          empty = (refl, r.empty);
          lie = (empty f (omega arith), (let q : r.ins ≡ [] = none_placed r.ins r.ins_at in subst (λ l. AllLie hs (l ++ r.outs)) q r.lie));
        }
    draws (e ∷ es) fs full empty = let r = draws es fs (λ d h. full d (omega arith)) empty in let o = bit_same e e refl in let p = full e (omega arith) in
        record {
          ins = (e, p.0) ∷ r.ins;
          outs = r.outs;
          ins_at = ap (λ l. e ∷ l) r.ins_at;
          outs_at = r.outs_at;
          fit = (p.2, r.fit);
          empty =
              r.empty;
          lie = (p.1, r.lie);
        }

    -- they are taken from the back
    pub record Picked (es fs : List ℕ) : Type 0 where
      pub xs : List (ℕ × Option C)
      pub at : (e : ℕ) → times e (places xs) ≡ times e (es ++ fs)
      pub lie : AllLie hs xs
      pub took : (c : List (ℕ × Option C)) → Took wires edge_of key_of a es fs c (onto xs c)

    pub picks : (es fs : List ℕ) → ((e : ℕ) → 0 < times e es → (x : Option C) × (get_elem? hs e ≡ some (some x)) × Fits wires edge_of
        key_of a e x) → ((e : ℕ) → 0 < times e fs → get_elem? hs e ≡ some (some None)) → Picked es fs
    picks es fs full empty = let d = draws es fs full empty in record {
      xs = rev (d.ins ++ d.outs);
      at = λ e. times_rev e (d.ins ++ d.outs) ∙ ap (times e) (places_append d.ins d.outs ∙ (λ i. d.ins_at i ++ d.outs_at i));
      lie = lie_rev hs (d.ins ++ d.outs) d.lie;
      took = λ c. (d.ins, d.outs, onto_rev (d.ins ++ d.outs) c ∙ append_assoc d.ins d.outs c, d.ins_at, d.outs_at, d.fit, d.empty);
    }

  module _ (a : About C) (ws : IsWires (wires a.tasks.value)) (s : State (Option C) (View C)) (h : Kept a s) (id : ℕ) (v : View C)
      (at : get_elem? s.views id ≡ some v) (ab : v.board ≡ Some a)
      (t u : ℕ) (q : u ≡ t) (there : t < (wires a.tasks.value).net.tasks) (saw : 0 < done_by (sees t) v) where
    ready : slice_index s.words (count_word t) ≡ 0
    ready = let b = all_at (sees t) s.views id v at in h.seen t there (omega arith)

    came : (e : ℕ) → 0 < times e ((wires a.tasks.value).net.needs t) → all (arrives e) s.views ≡ 1
    came e pos = let c = h.counted t there in let r = ready in
        full (λ x. all (arrives x) s.views) (λ x. let o = h.arrived_once x in omega arith) ((wires a.tasks.value).net.needs t) (omega arith) e pos

    -- the source of an arrived edge was taken
    pub sent : (e : ℕ) → all (arrives e) s.views ≤ all (wins ((wires a.tasks.value).net.source e)) s.views
    sent e = all_le (arrives e) (wins ((wires a.tasks.value).net.source e)) s.views (λ j y k. (h.own j y k).arrived_won e)

    done_sent : (x : ℕ) → all (finishes x) s.views ≤ all (wins x) s.views
    done_sent x = all_le (finishes x) (wins x) s.views (λ j y k. let o = (h.own j y k).finished_started x in let r = (h.own j y k).started_won x in omega arith)

    -- an edge into t that is no entry edge has arrived
    pub inner_in : (e : ℕ) → 0 < times e ((wires a.tasks.value).inward t) → ((wires a.tasks.value).is_entry e ≡ true) ⊎ (all (arrives e) s.views ≡ 1)
    inner_in e pos = let w = wires a.tasks.value in let o = ws.inward_once t e there in
        let b = both_true (w.net.is_inner e || w.is_entry e) (w.net.reader e == t)
        (bit_true ((w.net.is_inner e || w.is_entry e) && (w.net.reader e == t)) (omega arith)) in
        ⊎_elim (λ (i : w.net.is_inner e ≡ true). inr (came e (let k = ws.is_net.needs_once t e there in
        let z : bit (w.net.is_inner e && (w.net.reader e == t)) ≡ 1 = ap (λ (c : Bool). bit (c && (w.net.reader e == t))) i ∙ ap bit b.1 in omega arith)))
        (λ (i : w.is_entry e ≡ true). inl i) (or_true (w.net.is_inner e) (w.is_entry e) b.0)

    pub into : (e : ℕ) → 0 < times e ((wires a.tasks.value).inward t) → (wires a.tasks.value).net.reader e ≡ t
    into e pos = let w = wires a.tasks.value in let o = ws.inward_once t e there in
        let b = both_true (w.net.is_inner e || w.is_entry e) (w.net.reader e == t)
        (bit_true ((w.net.is_inner e || w.is_entry e) && (w.net.reader e == t)) (omega arith)) in
        bit_one (w.net.reader e) t (let z : bit (w.net.reader e == t) ≡ 1 = ap bit b.1 in omega arith)

    pub out_of : (e : ℕ) → 0 < times e ((wires a.tasks.value).outward t) → ((wires a.tasks.value).net.source e ≡ t) ×
        (((wires a.tasks.value).net.is_inner e || (wires a.tasks.value).is_exit e) ≡ true)
    out_of e pos = let w = wires a.tasks.value in let o = ws.outward_once t e there in
        let b = both_true (w.net.is_inner e || w.is_exit e) (w.net.source e == t)
        (bit_true ((w.net.is_inner e || w.is_exit e) && (w.net.source e == t)) (omega arith)) in
        (bit_one (w.net.source e) t (let z : bit (w.net.source e == t) ≡ 1 = ap bit b.1 in omega arith), b.0)

    -- the edges that a claim takes
    abbrev mine : List ℕ
    mine = (wires a.tasks.value).inward t ++ (wires a.tasks.value).outward t

    no_entry : (e : ℕ) → (wires a.tasks.value).is_entry e ≡ true → ((wires a.tasks.value).net.is_inner e || (wires a.tasks.value).is_exit e) ≡ true → ⊥
    no_entry e is other = let w = wires a.tasks.value in let p = ws.apart e in let z : bit (w.is_entry e) ≡ 1 = ap bit is in
        ⊎_elim (λ i. let y : bit (w.net.is_inner e) ≡ 1 = ap bit i in omega arith) (λ i. let y : bit (w.is_exit e) ≡ 1 = ap bit i in
        omega arith) (or_true (w.net.is_inner e) (w.is_exit e) other)

    mine_once : (e : ℕ) → times e mine < 2
    mine_once e = let w = wires a.tasks.value in let p = total_append (λ y. bit (y == e)) (w.inward t) (w.outward t) in
        let i = ws.inward_once t e there in let o = ws.outward_once t e there in
        let bi = bit_le ((w.net.is_inner e || w.is_entry e) && (w.net.reader e == t)) in
        let bo = bit_le ((w.net.is_inner e || w.is_exit e) && (w.net.source e == t)) in
        dite (ℕ_discrete (times e (w.inward t)) 0) (λ z. omega arith)
        (λ n. dite (ℕ_discrete (times e (w.outward t)) 0) (λ z. omega arith)
        (λ n'. let r = into e (omega arith) in let x = out_of e (omega arith) in
        let b = both_true (w.net.is_inner e || w.is_entry e) (w.net.reader e == t)
        (bit_true ((w.net.is_inner e || w.is_entry e) && (w.net.reader e == t)) (omega arith)) in
        ⊎_elim (λ k. let up = ws.is_net.rises e k in absurd (omega arith)) (λ k. absurd (no_entry e k x.1)) (or_true (w.net.is_inner e) (w.is_entry e) b.0)))

    abbrev cw : ℕ
    cw = claim_word (wires a.tasks.value).net.tasks t

    in_words : cw < length s.words
    in_words = let l = h.words_long in omega arith

    word_here : slice_index (set s.words cw 1) cw ≡ 1
    word_here = get_or-set_same s.words cw 1 0 in_words

    word_else : (j : ℕ) → j ≢ cw → slice_index (set s.words cw 1) j ≡ slice_index s.words j
    word_else j ne = get_set (λ k. k ≡ slice_index s.words j) s.words cw j 1 0 in_words (λ e. absurd (ne e)) (λ _. refl)

    gains : (b : Bool) (x : ℕ) → 0 < bit (b && (u == x)) → (b ≡ true) × (x ≡ t)
    gains b x pos = let p = both_true b (u == x) (bit_true (b && (u == x)) pos) in
        (p.0, sym (bit_one u x (let z : bit (u == x) ≡ 1 = ap bit p.1 in omega arith)) ∙ q)

    own_after : (b : Bool) → IsOwn (wires a.tasks.value).net (noted v (Claimed u b))
    own_after b = let o = h.own id v at in let d = Claimed u b in record {
      won_seen = λ x pos. let k = total_append (wins x) v.deeds (d ∷ []) in let l = total_append (sees x) v.deeds (d ∷ []) in
          dite (ℕ_discrete (done_by (wins x) v) 0)
          (λ z. let g = gains b x (omega arith) in let r : done_by (sees x) v ≡ done_by (sees t) v = ap (λ k. done_by (sees k) v) g.1 in omega arith)
          (λ nz. let r = o.won_seen x (omega arith) in omega arith);
      arrived_won = λ e. let k = total_append (wins ((wires a.tasks.value).net.source e)) v.deeds (d ∷ []) in
          let l = total_append (arrives e) v.deeds (d ∷ []) in let r = o.arrived_won e in omega arith;
      started_won = λ x. let k = total_append (wins x) v.deeds (d ∷ []) in let l = total_append (starts x) v.deeds (d ∷ []) in
          let r = o.started_won x in omega arith;
      finished_started = λ x. let k = total_append (finishes x) v.deeds (d ∷ []) in let l = total_append (starts x) v.deeds (d ∷ []) in
          let r = o.finished_started x in omega arith;
    }

    each : (b : Bool) (P : View C → Type 0) → P (noted v (Claimed u b)) → ((j : ℕ) (y : View C) → get_elem? s.views j ≡ some y → P y) →
        (j : ℕ) (y : View C) → get_elem? (set s.views id (noted v (Claimed u b))) j ≡ some y → P y
    each b P here others j y e = ⊎_elim (λ (z : (j ≡ id) × (noted v (Claimed u b) ≡ y)). subst P z.1 here) (λ z. others j y z.1)
        (at_set s.views id j (noted v (Claimed u b)) y e)

    bit_zero : (b : Bool) (x : ℕ) → x ≢ t → bit (b && (u == x)) ≡ 0
    bit_zero b x ne = bit_right b (u == x) (bit_apart u x (λ e. ne (sym e ∙ q)))

    bit_full : (b : Bool) (x : ℕ) → b ≡ true → x ≡ t → bit (b && (u == x)) ≡ 1
    bit_full b x is e = bit_left b (u == x) is ∙ bit_same u x (q ∙ sym e)

    won_all : (b : Bool) → (b ≡ true → slice_index s.words cw ≡ 0) → (b ≡ false → slice_index s.words cw ≢ 0) → {n k : ℕ} → n ≡ k + bit
        (b && (u == t)) → slice_index s.words cw ≡ k → k < 2 → 1 ≡ n
    won_all true won lost e c l = let z = won refl in let o = bit_same u t q in omega arith
    won_all false won lost e c l = let z = lost refl in omega arith

    pub no_exit : (e : ℕ) → (wires a.tasks.value).is_exit e ≡ true → 0 < times e ((wires a.tasks.value).inward t) → ⊥
    no_exit e is pos = let w = wires a.tasks.value in let p = ws.apart e in let z : bit (w.is_exit e) ≡ 1 = ap bit is in let o = ws.inward_once t e there in
        let b = both_true (w.net.is_inner e || w.is_entry e) (w.net.reader e == t)
        (bit_true ((w.net.is_inner e || w.is_entry e) && (w.net.reader e == t)) (omega arith)) in
        ⊎_elim (λ i. let y : bit (w.net.is_inner e) ≡ 1 = ap bit i in omega arith) (λ i. let y : bit (w.is_entry e) ≡ 1 = ap bit i in
        omega arith) (or_true (w.net.is_inner e) (w.is_entry e) b.0)

    -- the rule after the claim: `homes` are the slots then
    kept_after : (b : Bool) → (b ≡ true → slice_index s.words cw ≡ 0) → (b ≡ false → slice_index s.words cw ≢ 0)
        → (homes : List (mathlib.Core.Option.Option (Option C))) → length homes ≡ length s.homes
        → ((e : ℕ) → (b ≡ true → times e mine ≡ 0) → get_elem? homes e ≡ get_elem? s.homes e)
        → ((e : ℕ) (y : Option C) → get_elem? homes e ≡ some (some y) → get_elem? s.homes e ≡ some (some y))
        → Kept a record { words = set s.words cw 1; homes = homes; views = set s.views id (noted v (Claimed u b)) }
    kept_after b won lost homes long stays was =
        let w = wires a.tasks.value in
        let d = Claimed u b in
        let W : (x : ℕ) → all (wins x) (set s.views id (noted v d)) ≡ all (wins x) s.views + bit (b && (u == x)) = λ x. all_noted (wins x) s.views id v d at in
        let A : (x : ℕ) → all (arrives x) (set s.views id (noted v d)) ≡ all (arrives x) s.views = λ x. let r = all_noted (arrives x)
        s.views id v d at in omega arith in
        let F : (x : ℕ) → all (finishes x) (set s.views id (noted v d)) ≡ all (finishes x) s.views = λ x. let r = all_noted (finishes x)
        s.views id v d at in omega arith in
        let split : (e : ℕ) → times e (w.inward t ++ w.outward t) ≡ times e (w.inward t) + times e (w.outward t) = λ e. total_append
        (λ y. bit (y == e)) (w.inward t) (w.outward t) in
        let first : b ≡ true → all (wins t) s.views ≡ 0 = λ is. let c = h.claimed t there in let z = won is in omega arith in
        let free : (e : ℕ) → (0 < times e (w.inward t) → ⊥) → (0 < times e (w.outward t) → ⊥) → times e (w.inward t ++ w.outward t) ≡ 0 =
        λ e no no'. let p = split e in
        dite (ℕ_discrete (times e (w.inward t)) 0) (λ z. dite (ℕ_discrete (times e (w.outward t)) 0) (λ z'. omega arith)
        (λ n. absurd (no' (omega arith)))) (λ n. absurd (no (omega arith))) in
        record {
          words_long = length-set s.words cw 1 ∙ h.words_long;
          homes_long = long ∙ h.homes_long;
          same = each b (λ y. (y.board ≡ Some a) ⊎ IsSpent y) (inl ab) h.same;
          own = each b (λ y. IsOwn w.net y) (own_after b) h.own;
          stamped = λ k. let r = all_noted (stamps k) s.views id v d at in let p = h.stamped k in
              let z = ap (λ (n : ℕ). bit (ltb k n)) (word_else 0 (λ e. omega arith)) in omega arith;
          won_once = λ x. let r = W x in let p = h.won_once x in dite (ℕ_discrete (bit (b && (u == x))) 0) (λ z. omega arith)
              (λ n. let g = gains b x (omega arith) in let f = first g.0 in
              let z : all (wins x) s.views ≡ all (wins t) s.views = ap (λ k. all (wins k) s.views) g.1 in let l = bit_le (b && (u == x)) in omega arith);
          claimed = λ x hx. let r = W x in let p = h.claimed x hx in dite (ℕ_discrete x t)
              (λ e. subst (λ k. slice_index (set s.words cw 1) (claim_word w.net.tasks k) ≡ all (wins k) (set s.views id (noted v d))) (sym e)
              (word_here ∙ won_all b won lost (W t) (h.claimed t there) (h.won_once t)))
              (λ ne. word_else (claim_word w.net.tasks x) (λ e. ne (omega arith)) ∙ (let z = bit_zero b x ne in omega arith));
          lost = λ x hx pos. dite (ℕ_discrete x t)
              (λ e. subst (λ k. slice_index (set s.words cw 1) (claim_word w.net.tasks k) ≡ 1) (sym e) word_here)
              (λ ne. word_else (claim_word w.net.tasks x) (λ e. ne (omega arith)) ∙ h.lost x hx
              (let r = all_noted (loses x) s.views id v d at in let z = bit_zero (not b) x ne in omega arith));
          counted = λ x hx. let p = h.counted x hx in let z = word_else (count_word x) (λ e. omega arith) in
              let r = total_ext (λ e. all (arrives e) (set s.views id (noted v d))) (λ e. all (arrives e) s.views) A (w.net.needs x) in omega arith;
          arrived_once = λ e. let r = A e in let p = h.arrived_once e in omega arith;
          seen = λ x hx pos. word_else (count_word x) (λ e. omega arith) ∙ h.seen x hx (let r = all_noted (sees x) s.views id v d at in omega arith);
          empty_slots = λ e he no none'. let r = W (w.net.source e) in
              stays e (λ is. free e
              (λ pos. ⊎_elim (λ (i : w.is_entry e ≡ true). absurd (true≢false (sym i ∙ no)))
              (λ (i : all (arrives e) s.views ≡ 1). let k = sent e in absurd (omega arith)) (inner_in e pos))
              (λ pos. let o = out_of e pos in let z : bit (b && (u == w.net.source e)) ≡ 1 = bit_full b (w.net.source e) is o.0 in absurd (omega arith)))
              ∙ h.empty_slots e he no (omega arith);
          full_slots = λ e come none'. let r = W (w.net.reader e) in let k = A e in
              let old : (w.is_entry e ≡ true) ⊎ (all (arrives e) s.views ≡ 1) = ⊎_elim (λ i. inl i) (λ i. inr (sym k ∙ i)) come in
              let p = h.full_slots e old (omega arith) in (
                p.0,
                stays e (λ is. free e
                    (λ pos. let z = bit_full b (w.net.reader e) is (into e pos) in absurd (omega arith))
                    (λ pos. let o = out_of e pos in let f = first is in ⊎_elim
                    (λ (i : w.is_entry e ≡ true). absurd (no_entry e i o.1))
                    (λ (i : all (arrives e) s.views ≡ 1). let g = sent e in
                    let z : all (wins (w.net.source e)) s.views ≡ all (wins t) s.views = ap (λ k. all (wins k) s.views) o.0 in
                    absurd (omega arith)) old)) ∙ p.1,
                p.2,
              );
          exit_slots = λ e is_out fin. let k = F (w.net.source e) in let p = h.exit_slots e is_out (omega arith) in (
            p.0,
            stays e (λ is. free e
                (λ pos. absurd (no_exit e is_out pos))
                (λ pos. let o = out_of e pos in let f = first is in let g = done_sent (w.net.source e) in
                let z : all (wins (w.net.source e)) s.views ≡ all (wins t) s.views = ap (λ k. all (wins k) s.views) o.0 in absurd (omega arith))) ∙ p.1,
            p.2,
          );
          keyed = λ e p is. h.keyed e p (was e (Some p) is);
        }

  pub claims : (a : About C) (m : Me (Option C) (View C)) (t id : ℕ) → m.0.board ≡ Some a → IsWires (wires a.tasks.value) → t <
      (wires a.tasks.value).net.tasks → 0 < done_by (sees t) m.0
      → Allows (Kept a) (wires a.tasks.value).edges id m (claim_word (wires a.tasks.value).net.tasks t) (λ _. 1)
      (Claims wires edge_of key_of (step (wires a.tasks.value).edges (claim_word (wires a.tasks.value).net.tasks t) 1 0 none) m)
  claims a m t id ab ws there saw s h long at wide =
      let w = wires a.tasks.value in
      let n = slice_index s.words (claim_word w.net.tasks t) in
      let u = claim_word w.net.tasks t - (1 + w.net.tasks) in
      let q : u ≡ t = omega arith in
      dite (ℕ_discrete n 0)
      (λ z. let is : (n == 0) ≡ true = eq-eqb n 0 z in
      let none' : all (wins t) s.views ≡ 0 = let c = h.claimed t there in omega arith in
      let few : done_by (wins t) m.0 ≡ 0 = let b = all_at (wins t) s.views id m.0 at in omega arith in
      let fresh : IsFresh u m.0 = subst (λ k. IsFresh k m.0) (sym q) (
        few,
        (let o = h.own id m.0 at in let x = o.started_won t in omega arith),
      ) in
      let pk = picks a s.homes (w.inward t) (w.outward t)
      (λ e pos. h.full_slots e (inner_in a ws s h id m.0 at ab t u q there saw e pos)
      (ap (λ k. all (wins k) s.views) (into a ws s h id m.0 at ab t u q there saw e pos) ∙ none'))
      (λ e pos. let o = out_of a ws s h id m.0 at ab t u q there saw e pos in
      h.empty_slots e (ws.in_range e (wide_or (w.net.is_inner e) (w.is_entry e) (w.is_exit e) o.1))
      (not_is (w.is_entry e) (λ i. no_entry a ws s h id m.0 at ab t u q there saw e i o.1)) (ap (λ k. all (wins k) s.views) o.0 ∙ none')) in (
        noted m.0 (Claimed u (n == 0)),
        take_all pk.xs,
        valid_all pk.xs m.1 s.homes (λ e. let k = pk.at e in let r = mine_once a ws s h id m.0 at ab t u q there saw e in omega arith) pk.lie,
        kept_after a ws s h id m.0 at ab t u q there saw (n == 0) (λ _. z) (λ f. absurd (true≢false (sym is ∙ f)))
            (homes_after s.homes m.1 (take_all pk.xs)) (length_all pk.xs m.1 s.homes)
            (λ e f. stays_home pk.xs m.1 s.homes e (pk.at e ∙ f is)) (λ e y k. was_home pk.xs m.1 s.homes e y k),
        λ a' is'. subst (λ (y : About C). let w = wires y.tasks.value in let u = claim_word (wires a.tasks.value).net.tasks t - (1 + w.net.tasks) in
            (noted m.0 (Claimed (claim_word (wires a.tasks.value).net.tasks t - (1 + (wires a.tasks.value).net.tasks)) (n == 0)) ≡ noted
            m.0 (Claimed u (n == 0)))
            × MatchBool (n == 0) (Took wires edge_of key_of y (w.inward u) (w.outward u) m.1 (carried_after m.1 (take_all pk.xs)) × IsFresh
            u m.0) (carried_after m.1 (take_all pk.xs) ≡ m.1)) (same_board a a' (sym ab ∙ is')) (
              refl,
              subst (λ b. MatchBool b (Took wires edge_of key_of a (w.inward u) (w.outward u) m.1 (carried_after m.1 (take_all pk.xs)) ×
                  IsFresh u m.0) (carried_after m.1 (take_all pk.xs) ≡ m.1)) (sym is) (
                    (subst (λ k. Took wires edge_of key_of a (w.inward k) (w.outward k) m.1 (carried_after m.1 (take_all pk.xs))) (sym q)
                        (subst (λ l. Took wires edge_of key_of a (w.inward t) (w.outward t) m.1 l) (sym (carried_all pk.xs m.1)) (pk.took m.1))),
                    fresh,
                  ),
            ),
      ))
      (λ ne. let is : (n == 0) ≡ false = ne_eqb n 0 ne in (
        noted m.0 (Claimed u (n == 0)),
        keeps,
        tt,
        kept_after a ws s h id m.0 at ab t u q there saw (n == 0) (λ f. absurd (true≢false (sym f ∙ is))) (λ _. ne) s.homes refl (λ e f. refl) (λ e y k. k),
        λ a' is'. subst (λ (y : About C). let w = wires y.tasks.value in let u = claim_word (wires a.tasks.value).net.tasks t - (1 + w.net.tasks) in
            (noted m.0 (Claimed (claim_word (wires a.tasks.value).net.tasks t - (1 + (wires a.tasks.value).net.tasks)) (n == 0)) ≡ noted
            m.0 (Claimed u (n == 0)))
            × MatchBool (n == 0) (Took wires edge_of key_of y (w.inward u) (w.outward u) m.1 m.1 × IsFresh u m.0) (m.1 ≡ m.1)) (same_board a a' (sym ab ∙ is'))
            (refl, subst (λ b. MatchBool b (Took wires edge_of key_of a (w.inward u) (w.outward u) m.1 m.1 × IsFresh u m.0) (m.1 ≡ m.1)) (sym is) refl),
      ))

  -- the same where the slots and the word go by other names
  pub claims_at : (m : Me (Option C) (View C)) (t id : ℕ) (a : About C) → m.0.board ≡ Some a → (slots word : ℕ) → slots ≡
      (wires a.tasks.value).edges → word ≡ claim_word (wires a.tasks.value).net.tasks t
      → IsWires (wires a.tasks.value) → t < (wires a.tasks.value).net.tasks → 0 < done_by (sees t) m.0
      → Allows (Kept a) slots id m word (λ _. 1) (Claims wires edge_of key_of (step slots word 1 0 none) m)
  claims_at m t id a ab slots word es ew ws there saw =
      subst (λ (z : ℕ × ℕ). Allows (Kept a) z.0 id m z.1 (λ _. 1) (Claims wires edge_of key_of (step z.0 z.1 1 0 none) m))
      (λ i. (sym es i, sym ew i)) (claims a m t id ab ws there saw)

  -- what a claim told, of the task by its number
  pub tell : (a : About C) (m k : Me (Option C) (View C)) (slots tasks t n : ℕ) → m.0.board ≡ Some a → tasks ≡
      (wires a.tasks.value).net.tasks → Claims wires edge_of key_of (step slots (1 + tasks + t) 1 0 none) m n k
      → (k.0 ≡ noted m.0 (Claimed t (n == 0))) × MatchBool (n == 0) (Took wires edge_of key_of a ((wires a.tasks.value).inward t)
      ((wires a.tasks.value).outward t) m.1 k.1 × IsFresh t m.0) (k.1 ≡ m.1)
  tell a m k slots tasks t n ab e h = subst (λ u. (k.0 ≡ noted m.0 (Claimed u (n == 0))) × MatchBool (n == 0)
      (Took wires edge_of key_of a ((wires a.tasks.value).inward u) ((wires a.tasks.value).outward u) m.1 k.1 × IsFresh u m.0) (k.1 ≡ m.1))
      (let q : 1 + tasks + t - (1 + (wires a.tasks.value).net.tasks) ≡ t = omega arith in q) (h a ab)
