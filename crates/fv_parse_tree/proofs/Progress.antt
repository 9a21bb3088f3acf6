-- What the reader's loops keep, a step at a time.
use Rattle.std.proofs.Common.{◌≡◌, ℕ, ◌<◌, ◌≤◌, List, [], ◌∷◌, ◌++◌, length, drop, true, false, Option, Some}
use Rattle.std.proofs.Common.{None, Result, Ok, Err, refl, sym, ap, subst, ◌∙◌, arith, append_assoc}
use Rattle.std.proofs.lemmas.List.{append-nil}
use Rattle.std.proofs.lemmas.List.Elements.{All-nil, All-push, All-pop}
use Rattle.fv_base.proofs.lemmas.Arena.{keeps_refl, keeps_trans}
use Rattle.fv_lex.specs.declared.token.Symbol.{Symbol}
use Rattle.fv_parse_grammar.specs.declared.form.Operator.{Operator}
use Rattle.fv_parse_tree.specs.declared.node.TreeId.{TreeId}
use Rattle.fv_parse_tree.specs.declared.reader.Stop.{Stop}
use Rattle.fv_parse_tree.specs.declared.reader.Stop.TheVariants as stops
use Rattle.fv_parse_tree.specs.declared.pending.Pending.{Pending}
use Rattle.fv_parse_grammar.specs.headline.Tree.{Tree, End, Binary}
use Rattle.fv_parse_grammar.specs.Descent.{Step, ◌>>=◌, Turn, Done, Item, Nothing, run, all_separated, at_comma, Stop as Halts, Fault as Refused}
use Rattle.fv_parse_grammar.proofs.lemmas.Loops.{run_next, run_done, run_stop, separated_step, separated_end, separated_stop}
use Rattle.fv_parse_grammar.proofs.lemmas.Loops.{with_first, before, all_of, many_one, many_skip, many_done, many_stop}
use Rattle.fv_parse_tree.specs.Arena.{tree_at, Keeps, forest, AreInside, lean, Joins, AllBelow}
use Rattle.fv_parse_tree.specs.Gives.{Fails, Found, Turned, Ended, Stays, Itemized, Refuses, list_of, in_front}
use Rattle.fv_parse_tree.proofs.lemmas.Arenas.{Under, Waits, forest_append, forest_keeps, below_more, lean_push, lean_keeps, inside_more}

-- an error of a part is the error of the whole
pub fails_by : {A B : Type 0} (e : Stop) (at : List Symbol) (r : Result A (List Symbol)) (s : Result B (List Symbol))
    → Fails e at r → (r ≡ Err at → s ≡ Err at) → Fails e at s
fails_by stops.NoMemory at r s f by = tt
fails_by stops.Syntax at r s f by = by f

stops_by : {B : Type 0} (e : Stop) (at : List Symbol) (t : Turn) (s : Result B (List Symbol)) → Stays e at t → (t ≡ Halts at → s ≡ Err at) → Fails e at s
stops_by stops.NoMemory at t s f by = tt
stops_by stops.Syntax at t s f by = by f

refuses_by : {B : Type 0} (e : Stop) (at : List Symbol) (i : Item) (s : Result B (List Symbol)) → Refuses e at i → (i ≡ Refused at → s ≡ Err at) → Fails e at s
refuses_by stops.NoMemory at i s f by = tt
refuses_by stops.Syntax at i s f by = by f

-- ---- turns
pub record Goes (body : Tree → List Symbol → Turn) (old new : List Tree) (id : TreeId) (tokens rest : List Symbol) (whole : Step Tree) : Type 0 where
  pub keeps : Keeps old new
  pub inside : id < length new
  pub shorter : length rest ≤ length tokens
  pub same : run body (tree_at new id) rest ≡ whole

-- where a loop of turns goes from there
module _ {body : Tree → List Symbol → Turn} {old mid : List Tree} {id : TreeId} {tokens rest : List Symbol} {whole : Step Tree}
    (g : Goes body old mid id tokens rest whole) where
  pub goes_on : {new : List Tree} {next : TreeId} {after : List Symbol} → Turned mid new next after (body (tree_at mid id) rest)
      → length after < length rest → Goes body old new next tokens after whole
  goes_on {new = new} {next = next} {after = after} t h =
      let before_it = g.shorter in
      record {
        keeps = keeps_trans End old mid new g.keeps t.keeps;
        inside = t.inside;
        shorter = omega arith;
        same = sym (run_next body (tree_at mid id) rest (tree_at new next) after t.is h) ∙ g.same;
      }

  pub goes_done : {new : List Tree} {end : List Symbol} → Ended mid new rest end Done (body (tree_at mid id) rest) → Found old new id end whole
  goes_done {new = new} d =
      let inside = g.inside in
      let k = d.keeps in
      let le = k.longer in
      subst (λ l. Found old new id l whole) (sym d.same) (record {
        keeps = keeps_trans End old mid new g.keeps k;
        inside = omega arith;
        is = sym g.same ∙ run_done body (tree_at mid id) rest d.is ∙ ap (λ (x : Tree). let r : Step Tree = Ok (x, rest) in r) (sym (k.same id inside));
      })

  pub goes_stop : (e : Stop) (at : List Symbol) → Stays e at (body (tree_at mid id) rest) → Fails e at whole
  goes_stop e at s = stops_by e at (body (tree_at mid id) rest) whole s (λ f. sym g.same ∙ run_stop body (tree_at mid id) rest at f)

-- ---- what commas separate
module _ {A : Type 0} (item : List Symbol → Step A) where
  abbrev pub with_items : List A → Step (List A) → Step (List A)
  with_items xs read = read >>= λ ys. Ok (xs ++ ys.0, ys.1)

  items_regroup : (xs : List A) (x : A) (read : Step (List A)) → with_items xs (with_first x read) ≡ with_items (xs ++ x ∷ []) read
  items_regroup xs x (Ok y) = ap (λ (ys : List A). let r : Step (List A) = Ok (ys, y.1) in r) (sym (append_assoc xs (x ∷ []) y.0))
  items_regroup xs x (Err e) = refl

  -- after an item of a list
  module _ (xs all : List A) (ts : List Symbol) (x : A) (rest : List Symbol) (whole : Step (List A)) (is_read : item ts ≡ Ok (x, rest))
      (grown : all ≡ xs ++ x ∷ []) (so_far : with_items xs (all_separated item ts) ≡ whole) where
    pub items_on : (next : List Symbol) → at_comma rest ≡ true → next ≡ drop 1 rest → length next < length ts → with_items all (all_separated item next) ≡ whole
    items_on next on is h =
        let fewer : length (drop 1 rest) < length ts = subst (λ l. length l < length ts) is h in
        rw (grown, is) (sym (items_regroup xs x (all_separated item (drop 1 rest))))
        ∙ sym (ap (λ r. with_items xs r) (separated_step item ts x rest is_read on fewer)) ∙ so_far

    pub items_finish : (end : List Symbol) → at_comma rest ≡ false → end ≡ rest → whole ≡ Ok (all, end)
    items_finish end off is =
        sym so_far ∙ ap (λ r. with_items xs r) (separated_end item ts x rest is_read off)
        ∙ ap (λ (ys : List A). let r : Step (List A) = Ok (ys, rest) in r) (sym grown)
        ∙ ap (λ (l : List Symbol). let r : Step (List A) = Ok (all, l) in r) (sym is)

  pub items_fail : (xs : List A) (ts at : List Symbol) (whole : Step (List A)) (e : Stop)
      → Fails e at (item ts) → with_items xs (all_separated item ts) ≡ whole → Fails e at whole
  items_fail xs ts at whole e f so_far = fails_by e at (item ts) whole f (λ g. sym so_far ∙ ap (λ r. with_items xs r) (separated_stop item ts at g))

-- ---- lists of trees
pub record Gathers (old new : List Tree) (ids : List TreeId) (tokens rest : List Symbol) (read whole : Step Tree) : Type 0 where
  pub keeps : Keeps old new
  pub inside : AllBelow (length new) ids
  pub shorter : length rest ≤ length tokens
  pub same : in_front new ids read ≡ whole

front_keeps : (old new : List Tree) (ids : List TreeId) (read : Step Tree)
    → AllBelow (length old) ids → Keeps old new → in_front new ids read ≡ in_front old ids read
front_keeps old new ids (Ok x) h k = ap (λ (t : Tree). let r : Step Tree = Ok (t, x.1) in r) (forest_keeps old new ids x.0 h k)
front_keeps old new ids (Err e) h k = refl

front_push : (ts : List Tree) (ids : List TreeId) (id : TreeId) (read : Step Tree)
    → in_front ts (ids ++ id ∷ []) read ≡ in_front ts ids (before (tree_at ts id) read)
front_push ts ids id (Ok x) = ap (λ (t : Tree). let r : Step Tree = Ok (t, x.1) in r) (forest_append ts ids (id ∷ []) x.0)
front_push ts ids id (Err e) = refl

pub gathers_start : (ts : List Tree) (ids all : List TreeId) (tokens : List Symbol) (read : Step Tree)
    → AllBelow (length ts) ids → all ≡ ids → Gathers ts ts all tokens tokens read (in_front ts ids read)
gathers_start ts ids all tokens read h grown =
    subst (λ l. Gathers ts ts l tokens tokens read (in_front ts ids read))
    (sym grown) (record { keeps = keeps_refl End ts; inside = h; shorter = omega arith; same = refl })

-- what the next item does to a list that was gathered
module _ (next_item : List Symbol → Item) {old mid : List Tree} {ids : List TreeId} {tokens rest : List Symbol} {whole : Step Tree}
    (g : Gathers old mid ids tokens rest (all_of next_item rest) whole) where
  -- what was found makes the list longer, or leaves it
  pub gathers_on : (new : List Tree) (all : List TreeId) (found : Option TreeId) (next : List Symbol) → Itemized mid new found next (next_item rest)
      → all ≡ ids ++ list_of found → length next < length rest → Gathers old new all tokens next (all_of next_item next) whole
  gathers_on new all None next i grown h =
      let same_ids : all ≡ ids = grown ∙ append-nil ids in
      let k = i.keeps in
      let le = k.longer in
      let before_it = g.shorter in
      subst (λ l. Gathers old new l tokens next (all_of next_item next) whole) (sym same_ids) (record {
        keeps = keeps_trans End old mid new g.keeps k;
        inside = below_more (length mid) (length new) ids g.inside le;
        shorter = omega arith;
        same = front_keeps mid new ids (all_of next_item next) g.inside k ∙ ap (λ r. in_front mid ids r) (sym (many_skip next_item rest next i.is h)) ∙ g.same;
      })
  gathers_on new all (Some id) next i grown h =
      let k = i.keeps in
      let le = k.longer in
      let before_it = g.shorter in
      let read : all_of next_item rest ≡ before (tree_at new id) (all_of next_item next) = many_one next_item rest (tree_at new id) next i.is.1 h in
      let kept = below_more (length mid) (length new) ids g.inside le in
      subst (λ l. Gathers old new l tokens next (all_of next_item next) whole) (sym grown) (record {
        keeps = keeps_trans End old mid new g.keeps k;
        inside = All-push (Under (length new)) ids id kept i.is.0;
        shorter = omega arith;
        same = front_push new ids id (all_of next_item next)
            ∙ ap (λ r. in_front new ids r) (sym read) ∙ front_keeps mid new ids (all_of next_item rest) g.inside k ∙ g.same;
      })

  -- the list is a node of its own
  pub gathers_end : (ended new : List Tree) (id : TreeId) (end : List Symbol) → Ended mid ended rest end Nothing (next_item rest)
      → Keeps ended new → id < length new → tree_at new id ≡ forest ended ids End → Found old new id end whole
  gathers_end ended new id end d l inside is =
      subst (λ ts. Found old new id ts whole) (sym d.same) (record {
        keeps = keeps_trans End old ended new (keeps_trans End old mid ended g.keeps d.keeps) l;
        inside = inside;
        is = sym g.same ∙ ap (λ r. in_front mid ids r) (many_done next_item rest d.is)
            ∙ ap (λ (t : Tree). let r : Step Tree = Ok (t, rest) in r) (sym (forest_keeps mid ended ids End g.inside d.keeps) ∙ sym is);
      })

  pub gathers_fail : (e : Stop) (at : List Symbol) → Refuses e at (next_item rest) → Fails e at whole
  gathers_fail e at f = refuses_by e at (next_item rest) whole f (λ h. sym g.same ∙ ap (λ r. in_front mid ids r) (many_stop next_item rest at h))

-- ---- parts that wait
abbrev pub leaning : List Tree → List Pending → Step Tree → Step Tree
leaning ts ps read = read >>= λ y. Ok (lean ts ps y.0, y.1)

pub record Leans (old new : List Tree) (ps : List Pending) (tokens rest : List Symbol) (read whole : Step Tree) : Type 0 where
  pub keeps : Keeps old new
  pub inside : AreInside new ps
  pub shorter : length rest ≤ length tokens
  pub same : leaning new ps read ≡ whole

pub leans_start : (ts : List Tree) (tokens : List Symbol) (read : Step Tree) → Leans ts ts [] tokens tokens read read
leans_start ts tokens read = record { keeps = keeps_refl End ts; inside = All-nil (Waits (length ts)); shorter = omega arith; same = start read }
  where
    start : (r : Step Tree) → leaning ts [] r ≡ r
    start (Ok x) = refl
    start (Err e) = refl

leaning_keeps : (old new : List Tree) (ps : List Pending) (read : Step Tree) → AreInside old ps → Keeps old new → leaning new ps read ≡ leaning old ps read
leaning_keeps old new ps (Ok x) h k = ap (λ (t : Tree). let r : Step Tree = Ok (t, x.1) in r) (lean_keeps old new ps x.0 h k)
leaning_keeps old new ps (Err e) h k = refl

abbrev pub by_operator : ℕ → Operator → Tree → Step Tree → Step Tree
by_operator start o x read = read >>= λ y. Ok (Binary start o x y.0, y.1)

leaning_push : (ts : List Tree) (ps : List Pending) (p : Pending) (read : Step Tree)
    → leaning ts (ps ++ p ∷ []) read ≡ leaning ts ps (by_operator p.start p.op (tree_at ts p.left) read)
leaning_push ts ps p (Ok x) = ap (λ (t : Tree). let r : Step Tree = Ok (t, x.1) in r) (lean_push ts ps p x.0)
leaning_push ts ps p (Err e) = refl

-- what the next part does to those that wait
module _ {old mid : List Tree} {ps : List Pending} {tokens rest : List Symbol} {read whole : Step Tree} (g : Leans old mid ps tokens rest read whole) where
  pub leans_on : (new : List Tree) (all : List Pending) (p : Pending) (next : List Symbol) (after : Step Tree) → Keeps mid new → p.left < length new
      → all ≡ ps ++ p ∷ [] → length next ≤ length rest → read ≡ by_operator p.start p.op (tree_at new p.left) after
      → Leans old new all tokens next after whole
  leans_on new all p next after k lt grown h e =
      let before_it = g.shorter in
      record {
        keeps = keeps_trans End old mid new g.keeps k;
        inside = subst (λ l. AreInside new l) (sym grown) (All-push (Waits (length new)) ps p (inside_more mid new ps g.inside k) lt);
        shorter = omega arith;
        same = ap (λ l. leaning new l after) grown
            ∙ leaning_push new ps p after ∙ ap (λ r. leaning new ps r) (sym e) ∙ leaning_keeps mid new ps read g.inside k ∙ g.same;
      }

  pub leans_finish : (new end : List Tree) (last id : TreeId) (after : List Symbol) → Keeps mid new → read ≡ Ok (tree_at new last, after)
      → Joins new end ps last id → Found old end id after whole
  leans_finish new end last id after k e j = record {
    keeps = keeps_trans End old new end (keeps_trans End old mid new g.keeps k) j.keeps;
    inside = j.inside;
    is = sym g.same ∙ sym (leaning_keeps mid new ps read g.inside k)
        ∙ ap (λ r. leaning new ps r) e ∙ ap (λ (t : Tree). let r : Step Tree = Ok (t, after) in r) (sym j.is);
  }

  pub leans_fail : (part : Step Tree) (e : Stop) (at : List Symbol) → Fails e at part → (part ≡ Err at → read ≡ Err at) → Fails e at whole
  leans_fail part e at f by = fails_by e at part whole f (λ h. sym g.same ∙ ap (λ r. leaning mid ps r) (by h))

-- ---- joining them
pub record Folds (old new : List Tree) (ps : List Pending) (id : TreeId) (whole : Tree) : Type 0 where
  pub keeps : Keeps old new
  pub parts : AreInside new ps
  pub inside : id < length new
  pub same : lean new ps (tree_at new id) ≡ whole

pub folds_on : (old mid new : List Tree) (ps front : List Pending) (p : Pending) (id next : TreeId) (whole : Tree)
    → Folds old mid ps id whole → ps ≡ front ++ p ∷ []
    → Keeps mid new → next < length new → tree_at new next ≡ Binary p.start p.op (tree_at mid p.left) (tree_at mid id) → Folds old new front next whole
folds_on old mid new ps front p id next whole f cut k lt is =
    let both = All-pop (Waits (length mid)) ps front (Some p) cut f.parts in
    record {
      keeps = keeps_trans End old mid new f.keeps k;
      parts = inside_more mid new front both.0 k;
      inside = lt;
      same = lean_keeps mid new front (tree_at new next) both.0 k
          ∙ ap (λ t. lean mid front t) is ∙ sym (lean_push mid front p (tree_at mid id)) ∙ ap (λ l. lean mid l (tree_at mid id)) (sym cut) ∙ f.same;
    }
