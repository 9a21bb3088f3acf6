use Rattle.std.proofs.Common.{◌≡◌, ℕ, suc, ◌+◌, ◌<◌, List, [], ◌∷◌, length, All, Vec, Global, sym, ap, ◌∙◌, subst, arith}
use Rattle.std.proofs.lemmas.List.{nil_from_length, length-map}
use Rattle.std.specs.Vec.Iter.{into_iter_items}
use Rattle.fv_share.specs.Drafts.{Draft, CanClose, IsDraft, IsPending, IsShut, BacksWithin, with_all_members, lists_in}
use Rattle.fv_share.proofs.lemmas.Groups.{close_first, close_rest, groups_stay}
use Rattle.fv_share.proofs.builder.Builder.close_groups.Goals as goal

-- what closing asks of the list that comes first
asked : (d : Draft) (group : ℕ) (all rest : List (Vec ℕ Global)) (list : Vec ℕ Global) → all ≡ list ∷ rest → CanClose d group (lists_in all)
    → IsPending d group × All (λ s. s < length d.signals) list.items × BacksWithin d group (length list.items)
asked d group all rest list e h = close_first d group list.items (lists_in rest) (subst (λ xs. CanClose d group (lists_in xs)) e h)

pub shut-requires-clause-pending : goal.shut-requires-clause-pending
shut-requires-clause-pending c =
    let at = c.loop-list in
    (asked at.self at.group (into_iter_items at.list-iterator) (into_iter_items c.next.new.self) c.in-Some.list c.in-Some.ensures.steps.0 at.invariant.rest).0

pub shut-requires-clause-members : goal.shut-requires-clause-members
shut-requires-clause-members c =
    let at = c.loop-list in
    (asked at.self at.group (into_iter_items at.list-iterator) (into_iter_items c.next.new.self) c.in-Some.list c.in-Some.ensures.steps.0 at.invariant.rest).1

pub shut-requires-clause-backs : goal.shut-requires-clause-backs
shut-requires-clause-backs c =
    let at = c.loop-list in
    (asked at.self at.group (into_iter_items at.list-iterator) (into_iter_items c.next.new.self) c.in-Some.list c.in-Some.ensures.steps.0 at.invariant.rest).2

pub loop-list-preserved : goal.loop-list-preserved
loop-list-preserved c =
    let at = c.loop-list in
    let list = c.in-Some.list in
    let rest = lists_in (into_iter_items c.next.new.self) in
    let steps : into_iter_items at.list-iterator ≡ list ∷ into_iter_items c.next.new.self = c.in-Some.ensures.steps.0 in
    let now = subst (λ xs. CanClose at.self at.group (lists_in xs)) steps at.invariant.rest in
    let more : suc at.group ≡ at.group + 1 = omega arith in
    record {
      rest = subst (λ (d : Draft). CanClose d (at.group + 1) rest) (sym c.shut.ensures.all)
          (subst (λ g. CanClose (with_all_members at.self at.group (list.items ∷ [])) g rest) more (close_rest at.self at.group list.items rest now));
      all = ap (λ (d : Draft). with_all_members d (at.group + 1) rest) c.shut.ensures.all
          ∙ ap (λ g. with_all_members (with_all_members at.self at.group (list.items ∷ [])) g rest) (sym more)
          ∙ ap (λ xs. with_all_members at.self at.group (lists_in xs)) (sym steps) ∙ at.invariant.all;
      long = let was = at.invariant.long in let gone = c.in-Some.ensures.steps.1 in let short = ap length steps in omega arith;
    }

pub returns-clause-shut : goal.returns-clause-shut
returns-clause-shut c =
    let at = c.loop-list in
    let lists = lists_in c.args.lists.items in
    let empty : into_iter_items at.list-iterator ≡ [] = nil_from_length _ (sym at.invariant.long ∙ c.in-None.ensures.steps.0) in
    let all : at.self ≡ with_all_members c.args.self.now c.args.first lists =
    ap (λ xs. with_all_members at.self at.group (lists_in xs)) (sym empty) ∙ at.invariant.all in
    let whole : IsDraft c.args.self.now = subst IsDraft c.self.view_is c.self.invariant in
    let law = (groups_stay c.args.self.now).1 whole.marked c.args.first lists c.requires.pending in
    λ g l. subst (λ (d : Draft). IsShut d (c.args.first + g)) (sym all)
    (law.shut g (omega (arith, l, length-map c.args.lists.items (λ (row : Vec ℕ Global). row.items))))
