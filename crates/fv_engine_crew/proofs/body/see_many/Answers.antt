use Rattle.std.proofs.Common.{◌≡◌, ℕ, ◌≤◌, ◌++◌, ◌∷◌, [], List, length, subst, ap, ◌∙◌, sym, arith, vec_capacity}
use Rattle.std.specs.Prelude.{option_to_list}
use Rattle.std.specs.Global.{Vec}
use Rattle.std.proofs.lemmas.List.{length-append}
use Rattle.fv_lines.specs.declared.seen.Seen.{Seen}
use Rattle.fv_engine_crew.specs.Contents.{list_room, AreRoomy}
use Rattle.fv_engine_crew.proofs.lemmas.Handing.{Taken, taken, many_room}
use Rattle.fv_engine_crew.proofs.body.see_many.Goals as goal
use Rattle.fv_engine_crew.proofs.body.see_many.Goals.{After-unwrap-list}

-- what the lists say of the one that was taken
module _ (c : After-unwrap-list) where
  abbrev room : ℕ
  room = list_room (length c.args.own.now)

  items : c.args.lists.now.items ≡ c.pop.new.self.items ++ c.unwrap-list.result ∷ []
  items = c.pop.ensures.items ∙ ap (λ o. c.pop.new.self.items ++ option_to_list o) c.unwrap-list.ensures

  one : Taken c.pop.new.self.items c.unwrap-list.result room
  one = taken c.pop.new.self.items c.unwrap-list.result room (subst (λ (ls : List (Vec Seen)). AreRoomy ls room) items c.requires.roomy)

pub unwrap-list-requires : goal.unwrap-list-requires
unwrap-list-requires c = c.pop.ensures.variant.1 (omega (arith, c.requires.some, c.args.lists.now.ok))

pub see_in-requires : goal.see_in-requires
see_in-requires c =
    let d = (goal.at.see_in-requires c).After-unwrap-list in
    ((one d).empty, subst (λ (n : ℕ). n ≤ vec_capacity c.unwrap-list.result) (many_room (length c.args.own.now) c.requires.many) (one d).roomy)

pub returns-clause-lists : goal.returns-clause-lists
returns-clause-lists c =
    let d = (goal.at.returns-clause-lists c).After-unwrap-list in
    omega (arith, ap length (items d), length-append c.pop.new.self.items (c.unwrap-list.result ∷ []))

pub returns-clause-roomy : goal.returns-clause-roomy
returns-clause-roomy c = (one (goal.at.returns-clause-roomy c).After-unwrap-list).others
