use Rattle.std.proofs.Common.{ℕ, List, Vec, Global, sym, ap, ◌∙◌, subst, true}
use Rattle.std.proofs.lemmas.List.{map-set}
use Rattle.std.specs.Prelude.{slice_set}
use Rattle.fv_share.specs.Drafts.{Draft, IsDraft, IsShut, with_members, lists_in}
use Rattle.fv_share.proofs.lemmas.Kept.{members_keep, shut_group}
use Rattle.fv_share.proofs.builder.Builder.shut.Goals as goal

pub returns-clause-all : goal.returns-clause-all
returns-clause-all c =
    ap (λ (gs : List (List ℕ)). let d : Draft =
    record {
      signals = c.self.inside.signals.keys;
      groups = gs;
      closed = slice_set c.self.inside.closed.items c.args.group true;
      tables = lists_in c.self.inside.tables.items;
    } in d)
    (map-set (λ (row : Vec ℕ Global). row.items) c.self.inside.groups.items c.args.group c.args.members)
    ∙ ap (λ (d : Draft). with_members d c.args.group c.args.members.items) c.self.view_is

pub invariant_of-self : goal.invariant_of-self
invariant_of-self c =
    let d = c.args.self.now in
    subst IsDraft (sym (returns-clause-all c))
    (members_keep d c.args.group c.args.members.items (subst IsDraft c.self.view_is c.self.invariant) c.requires.pending c.requires.members c.requires.backs)

pub returns-clause-shut : goal.returns-clause-shut
returns-clause-shut c =
    let d = c.args.self.now in
    subst (λ (e : Draft). IsShut e c.args.group) (sym (returns-clause-all c))
    (shut_group d c.args.group c.args.members.items (subst IsDraft c.self.view_is c.self.invariant) c.requires.pending)
