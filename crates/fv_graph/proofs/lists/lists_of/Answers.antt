use Rattle.std.proofs.Common.{◌≡◌, ℕ, suc, ◌+◌, ◌*◌, ◌^◌, ◌<◌, List, ◌++◌, map, length, take, All, sym, ap, ◌∙◌, subst, arith}
use Rattle.fv_graph.specs.inner.Lists.{AreFirst, AreLists, again, first_list, edges_at}
use Rattle.fv_graph.proofs.lemmas.Graphs.{further}
use Rattle.fv_graph.proofs.ListsLemmas.{again_long, take_again, lists_made}
use Rattle.fv_graph.proofs.lists.lists_of.Goals as goal

pub append_again-requires-clause-there : goal.append_again-requires-clause-there
append_again-requires-clause-there c =
    let a = c.loop-vector.auto.vector in let l = again_long c.reserve_exact.new.self.items c.args.stride c.loop-vector.vector (omega arith) in
    let n = ap length c.in_ok-reserve_exact.ensures.items in let i = ap length c.loop-vector.invariant.edges in let w = c.in_ok-lists.ensures.wide in
    let o = c.in_ok-lists.lists.edges.ok.0 in let p = c.loop-vector.lists.edges.ok.0 in omega arith

pub append_again-requires-clause-small : goal.append_again-requires-clause-small
append_again-requires-clause-small c =
    let v = c.loop-vector.vector in let now = c.reserve_exact.new.self.items in let edges = c.loop-vector.lists.edges.items in
    let a = c.loop-vector.auto.vector in let w = c.in_ok-lists.ensures.wide in let o = c.in_ok-lists.lists.edges.ok.0 in
    let kept = c.in_ok-reserve_exact.ensures.items in
    let wide : c.in_ok-lists.lists.wide ≡ length now = let n = ap length kept in omega arith in
    let taken : take c.in_ok-lists.lists.wide edges ≡ c.in_ok-lists.lists.edges.items =
    ap (λ n. take n edges) wide ∙ ap (take (length now)) c.loop-vector.invariant.edges ∙ take_again now c.args.stride v (omega arith) ∙ kept in
    subst (λ ys. All (λ e. v * c.args.stride + e < 2 ^ 64) ys) (sym taken) (λ k d l.
    let s = c.in_ok-lists.ensures.small k d l in let f = further v c.args.vectors c.args.stride c.loop-vector-test.true in
    let r = c.requires.small in omega arith)

pub loop-vector-preserved : goal.loop-vector-preserved
loop-vector-preserved c =
    let v = c.loop-vector.vector in let now = c.reserve_exact.new.self.items in let edges = c.loop-vector.lists.edges.items in
    let a = c.loop-vector.auto.vector in let w = c.in_ok-lists.ensures.wide in let o = c.in_ok-lists.lists.edges.ok.0 in
    let s = c.args.stride in
    let wide : c.in_ok-lists.lists.wide ≡ length now = let n = ap length c.in_ok-reserve_exact.ensures.items in omega arith in
    let was : edges ≡ again now s v = c.loop-vector.invariant.edges in
    let taken : take c.in_ok-lists.lists.wide edges ≡ now =
    ap (λ n. take n edges) wide ∙ ap (take (length now)) was ∙ take_again now s v (omega arith) in
    record {
      edges = c.in_ok-append_again.ensures ∙ ap (λ ys. edges ++ map (λ e. v * s + e) ys) taken ∙ ap (λ ys. ys ++ map (λ e. v * s + e) now) was
          ∙ ap (again now s) (let e : suc v ≡ v + 1 = omega arith in e);
      begins = c.loop-vector.invariant.begins;
      wide = c.loop-vector.invariant.wide;
    }

pub returns : goal.returns
returns c =
    let now = c.reserve_exact.new.self.items in let s = c.args.stride in let m = c.args.vectors in
    let made = c.in_ok-lists.lists in let kept = c.in_ok-reserve_exact.ensures.items in
    let list : ℕ → List ℕ = first_list c.args.loops c.args.ahead c.args.groups.now in
    let first : AreFirst list c.args.loops made.begins.items now =
    subst (λ ys. AreFirst list c.args.loops made.begins.items ys) (sym kept) c.in_ok-lists.ensures.lists in
    let at_end : c.loop-vector.vector ≡ m = let e = c.loop-vector.auto.vector-end (let p = c.requires.some_vector in omega arith) in
    let t = c.loop-vector-test.false in omega arith in
    let w = c.in_ok-lists.ensures.wide in let o = made.edges.ok.0 in
    let wide : c.loop-vector.lists.wide ≡ length now = let n = ap length kept in let i = c.loop-vector.invariant.wide in omega arith in
    let begins : c.loop-vector.lists.begins.items ≡ made.begins.items = ap (λ v. v.items) c.loop-vector.invariant.begins in
    let edges : c.loop-vector.lists.edges.items ≡ again now s m = c.loop-vector.invariant.edges ∙ ap (again now s) at_end in
    subst (λ (p : ℕ × List ℕ × List ℕ). AreLists (edges_at c.args.loops s c.args.ahead c.args.groups.now) m c.args.loops p.0 p.1 p.2)
    (λ i. (sym wide i, sym begins i, sym edges i)) (lists_made list c.args.loops m s made.begins.items now first)
