use Rattle.std.proofs.Common.{◌≡◌, ℕ, zero, suc, ◌+◌, ◌<◌, List, [], ◌∷◌, ◌++◌, map, length, get_or, All, sym, ap, ◌∙◌, subst, arith}
use Rattle.std.specs.Global.{Vec}
use Rattle.std.proofs.lemmas.List.{get_or_default}
use Rattle.std.proofs.lemmas.List.Elements.{All-append, All-map}
use Rattle.fv_graph.specs.inner.Lists.{AreFirst, first_list, group_of}
use Rattle.fv_graph.proofs.lemmas.Counts.{get_map}
use Rattle.fv_graph.proofs.ListsLemmas.{first_next}
use Rattle.fv_graph.proofs.lists.first_lists.Goals as goal

pub append_list-requires : goal.append_list-requires
append_list-requires c = λ i l.
    let own = c.loop-own.own in let g = c.requires.groups in
    let same : c.deref.result.now ≡ group_of c.args.groups.now own = c.deref.ensures.value ∙ ap (λ (v : Vec ℕ). v.items) c.index-groups-own.is
    ∙ sym (get_map (λ (v : Vec ℕ). v.items) c.args.groups.now own c.index-groups-own.result [] (let t = c.loop-own-test.true in omega arith)) in
    let p = c.requires.pairs own i c.loop-own-test.true (subst (λ xs. i < length xs) same l) in
    let q = ap (λ xs. get_or xs i 0) same in let s = c.requires.small in omega arith

all_cons : (P : ℕ → Type 0) (x : ℕ) (xs : List ℕ) → P x → All P xs → All P (x ∷ xs)
all_cons P x xs p h zero d l = p
all_cons P x xs p h (suc k) d l = h k d (omega arith)

pub loop-own-preserved : goal.loop-own-preserved
loop-own-preserved c =
    let own = c.loop-own.own in let g = c.requires.groups in let low = c.loop-own-test.true in
    let loops = c.args.loops in let edges = c.loop-own.edges.items in let begins = c.loop-own.begins.items in let xs = c.deref.result.now in
    let same : xs ≡ group_of c.args.groups.now own = c.deref.ensures.value ∙ ap (λ (v : Vec ℕ). v.items) c.index-groups-own.is
    ∙ sym (get_map (λ (v : Vec ℕ). v.items) c.args.groups.now own c.index-groups-own.result [] (omega arith)) in
    let more : List ℕ = (own + c.args.ahead) ∷ map (λ k. loops + k) xs in
    let grown : c.append_list.new.edges.items ≡ edges ++ more = c.in_ok-append_list.ensures in
    let long : c.len.result ≡ length (edges ++ more) = let a = ap length grown in let o = c.append_list.new.edges.ok.0 in let n = c.len.ensures in
    omega arith in
    let placed : c.push-in-loop-own.new.self.items ≡ begins ++ length (edges ++ more) ∷ [] =
    c.in_ok-push-2.ensures.items ∙ ap (λ n. begins ++ n ∷ []) long in
    record {
      lists = subst (λ (p : List ℕ × List ℕ). AreFirst (first_list loops c.args.ahead c.args.groups.now) (own + 1) p.0 p.1)
          (λ i. (sym placed i, sym grown i))
          (first_next (first_list loops c.args.ahead c.args.groups.now) own begins edges more c.loop-own.invariant.lists
          (ap (λ ys. (own + c.args.ahead) ∷ map (λ k. loops + k) ys) same));
      small = subst (λ ys. All (λ e. e < loops + c.args.stride) ys) (sym grown)
          (All-append (λ e. e < loops + c.args.stride) edges more c.loop-own.invariant.small
          (all_cons (λ e. e < loops + c.args.stride) (own + c.args.ahead) (map (λ k. loops + k) xs) (let s = c.requires.step in omega arith)
          (All-map (λ e. e < loops + c.args.stride) (λ k. loops + k) xs (λ k d l.
          let e = get_or_default xs k d 0 l in let q = ap (λ ys. get_or ys k 0) same in
          let p = c.requires.pairs own k low (subst (λ ys. k < length ys) same l) in omega arith))));
    }
