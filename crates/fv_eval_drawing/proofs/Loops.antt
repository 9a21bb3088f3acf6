-- What the loops keep.
use Rattle.std.proofs.Common.{◌≡◌, ℕ, suc, ◌+◌, ◌-◌, ◌<◌, List, [], ◌∷◌, ◌++◌, length, Ok, Err, refl, sym, ap, subst, ◌∙◌, arith, append_assoc}
use Rattle.std.proofs.lemmas.List.{map-append, get_or_append_left, get_or_push, length_push}
use Rattle.std.proofs.lemmas.List.Elements.{All-head}
use Rattle.fv_num.specs.declared.op.Op.{Op}
use Rattle.fv_diagram.specs.Primitive.TheVariants as prim
use Rattle.fv_diagram.specs.headline.Diagram.{Diagram, Bind}
use Rattle.fv_diagram.specs.Arena.{count_of, tree_of}
use Rattle.fv_rules.specs.declared.refusal.EvalRefusal.{EvalRefusal}
use Rattle.fv_rules.specs.headline.Steps.{State, after, ◌>>=◌, put}
use Rattle.fv_rules.specs.headline.Rules.{bind_all, from_left, operated}
use Rattle.fv_eval_drawing.specs.declared.lists.Link.{Link}
use Rattle.fv_eval_drawing.specs.Makes.{AreThere, Becomes, Canvas, Extends, Makes, trees_of}
use Rattle.fv_eval_drawing.specs.Lists.{all_from_right, linked}
use Rattle.fv_eval_drawing.proofs.Evals.{given_then, refused_then}
use Rattle.fv_eval_drawing.proofs.Arenas.{extends_on}
use Rattle.fv_eval_drawing.proofs.Turns.{right_turn, bind_turn}
use Rattle.fv_eval_drawing.proofs.Kept.{Binds, Links, Operates}

-- ---- binds

bind_so : (slot left inner : ℕ) (d : Diagram) (s : State)
    → 0 < left → slot + (left - 1) ≡ inner → bind_all slot left d s ≡ after (put (Bind inner d) s) (λ b. bind_all slot (left - 1) b)
bind_so slot left inner d s p e =
    let l : left ≡ suc (left - 1) = omega (arith, p) in
    ap (λ n. bind_all slot n d s) l ∙ bind_turn slot (left - 1) d s ∙ ap (λ n. after (put (Bind n d) s) (λ b. bind_all slot (left - 1) b)) e

pub binds_on : (a0 a b : Canvas) (slot slots left inner body whole id : ℕ) → Binds a0 a slot slots left body whole → 0 < left
    → slot + (left - 1) ≡ inner
    → Makes a b (put (Bind inner (tree_of a.diagrams whole))) (Ok id) → Extends a b → Binds a0 b slot slots (left - 1) body id
binds_on a0 a b slot slots left inner body whole id inv p e m k = record {
  keeps = extends_on a0 a b inv.keeps k;
  there = m.0;
  most = let most = inv.most in omega (arith, most);
  same = given_then a0 a b (put (Bind inner (tree_of a.diagrams whole))) (tree_of b.diagrams id)
      (bind_all slot slots (tree_of a0.diagrams body)) (λ d. bind_all slot (left - 1) d)
      (λ s. inv.same s ∙ bind_so slot left inner (tree_of a.diagrams whole) (record s { tables = a.tables }) p e) m.1;
}

pub binds_refused : (a0 a b : Canvas) (slot slots left inner body whole : ℕ) (r : EvalRefusal)
    → Binds a0 a slot slots left body whole → 0 < left → slot + (left - 1) ≡ inner
    → Makes a b (put (Bind inner (tree_of a.diagrams whole))) (Err r) → Makes a0 b (bind_all slot slots (tree_of a0.diagrams body)) (Err r)
binds_refused a0 a b slot slots left inner body whole r inv p e m =
    refused_then a0 a b r (put (Bind inner (tree_of a.diagrams whole))) (bind_all slot slots (tree_of a0.diagrams body))
    (λ d. bind_all slot (left - 1) d)
    (λ s. inv.same s ∙ bind_so slot left inner (tree_of a.diagrams whole) (record s { tables = a.tables }) p e) m

-- ---- from the right

front : (a : Canvas) (xs : List ℕ) (y : ℕ) → AreThere a.diagrams (xs ++ y ∷ []) → AreThere a.diagrams xs
front a xs y h k d l = let e = get_or_append_left xs (y ∷ []) d k l in let p = h k d (omega (arith, length_push xs y)) in omega (arith, e, p)

back : (a : Canvas) (xs : List ℕ) (y : ℕ) → AreThere a.diagrams (xs ++ y ∷ []) → y < count_of a.diagrams
back a xs y h = let e = get_or_push xs y 0 (length xs) refl in let p = h (length xs) 0 (omega (arith, length_push xs y)) in omega (arith, e, p)

link_so : (a0 a : Canvas) (link : Link) (all parts rest : List ℕ) (part whole : ℕ) → Links a0 a link all parts whole
    → parts ≡ rest ++ part ∷ []
    → Becomes a0 a (all_from_right (linked link) (trees_of a0.diagrams all))
    (put (linked link (tree_of a.diagrams part) (tree_of a.diagrams whole)) >>= λ r. all_from_right (linked link)
    (trees_of a0.diagrams rest ++ r ∷ []))
link_so a0 a link all parts rest part whole inv e s =
    let there = subst (AreThere a0.diagrams) e inv.waiting in
    let t : State = record s { tables = a.tables } in
    inv.same s
    ∙ ap (λ is. all_from_right (linked link) (trees_of a0.diagrams is ++ tree_of a.diagrams whole ∷ []) t) e
    ∙ ap (λ ds. all_from_right (linked link) (ds ++ tree_of a.diagrams whole ∷ []) t) (map-append (tree_of a0.diagrams) rest (part ∷ []))
    ∙ ap (λ ds. all_from_right (linked link) ds t)
    (append_assoc (trees_of a0.diagrams rest) (tree_of a0.diagrams part ∷ []) (tree_of a.diagrams whole ∷ []))
    ∙ right_turn (linked link) (trees_of a0.diagrams rest) (tree_of a0.diagrams part) (tree_of a.diagrams whole) t
    ∙ ap (λ d. after (put (linked link d (tree_of a.diagrams whole)) t)
    (λ r. all_from_right (linked link) (trees_of a0.diagrams rest ++ r ∷ [])))
    (sym (inv.keeps.trees part (back a0 rest part there)))

pub links_on : (a0 a b : Canvas) (link : Link) (all parts rest : List ℕ) (part whole id : ℕ) → Links a0 a link all parts whole
    → parts ≡ rest ++ part ∷ []
    → Makes a b (put (linked link (tree_of a.diagrams part) (tree_of a.diagrams whole))) (Ok id) → Extends a b → Links a0 b link all rest id
links_on a0 a b link all parts rest part whole id inv e m k = record {
  keeps = extends_on a0 a b inv.keeps k;
  there = m.0;
  waiting = front a0 rest part (subst (AreThere a0.diagrams) e inv.waiting);
  same = given_then a0 a b (put (linked link (tree_of a.diagrams part) (tree_of a.diagrams whole))) (tree_of b.diagrams id)
      (all_from_right (linked link) (trees_of a0.diagrams all))
      (λ r. all_from_right (linked link) (trees_of a0.diagrams rest ++ r ∷ [])) (link_so a0 a link all parts rest part whole inv e) m.1;
}

pub links_refused : (a0 a b : Canvas) (link : Link) (all parts rest : List ℕ) (part whole : ℕ) (r : EvalRefusal)
    → Links a0 a link all parts whole → parts ≡ rest ++ part ∷ []
    → Makes a b (put (linked link (tree_of a.diagrams part) (tree_of a.diagrams whole))) (Err r)
    → Makes a0 b (all_from_right (linked link) (trees_of a0.diagrams all)) (Err r)
links_refused a0 a b link all parts rest part whole r inv e m =
    refused_then a0 a b r (put (linked link (tree_of a.diagrams part) (tree_of a.diagrams whole)))
    (all_from_right (linked link) (trees_of a0.diagrams all))
    (λ d. all_from_right (linked link) (trees_of a0.diagrams rest ++ d ∷ [])) (link_so a0 a link all parts rest part whole inv e) m

-- ---- from the left

pub operates_on : (a0 a b : Canvas) (op : Op) (first : ℕ) (others left rest : List ℕ) (part whole id : ℕ)
    → Operates a0 a op first others left whole → left ≡ part ∷ rest
    → AreThere a0.diagrams left → Makes a b (operated (prim.Point op) (tree_of a.diagrams whole) (tree_of a.diagrams part)) (Ok id)
    → Extends a b → Operates a0 b op first others rest id
operates_on a0 a b op first others left rest part whole id inv e h m k =
    let p = prim.Point op in
    let here = All-head (λ i. i < count_of a0.diagrams) part rest (subst (AreThere a0.diagrams) e h) in
    record {
      keeps = extends_on a0 a b inv.keeps k;
      there = m.0;
      same =
          given_then a0 a b (operated p (tree_of a.diagrams whole) (tree_of a.diagrams part))
          (tree_of b.diagrams id) (from_left p (tree_of a0.diagrams first) (trees_of a0.diagrams others))
          (λ r. from_left p r (trees_of a0.diagrams rest))
          (λ s. inv.same s ∙ ap (λ is. from_left p (tree_of a.diagrams whole) (trees_of a0.diagrams is) (record s { tables = a.tables })) e
          ∙ ap (λ d. after (operated p (tree_of a.diagrams whole) d (record s { tables = a.tables }))
          (λ r. from_left p r (trees_of a0.diagrams rest)))
          (sym (inv.keeps.trees part here))) m.1;
    }
