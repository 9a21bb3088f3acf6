use Rattle.std.proofs.Common.{◌∙◌, length, Some, refl, ap, sym, arith, option_map}
use Rattle.std.proofs.lemmas.Option.{slice_get_read}
use Rattle.fv_diagram.specs.Arena.{tree_of}
use Rattle.fv_eval_lookup.specs.Positions.{diagram_part}
use Rattle.fv_eval_lookup.proofs.Wanting.{IsFound, key_found}
use Rattle.fv_eval_lookup.proofs.positions.Position.key.Goals as goal

pub returns-clause-key : goal.returns-clause-key
returns-clause-key c =
    let us = c.args.subjects.now.values.now in
    let a = c.args.diagrams.now in
    let x = c.args.self.now.path in
    let found : IsFound x us a c.in-Diagram.id c.in-Some.part c.in_ok-key.key = record {
      got = slice_get_read us (length us) x.argument c.index-values-i.result refl (omega (arith, c.if-i-values.false)) c.index-values-i.is
          ∙ ap (λ v. Some v) c.in-Diagram.is;
      part_is = ap (λ ss. diagram_part ss (tree_of a c.in-Diagram.id)) (sym c.as_slice-sides.ensures.value)
          ∙ sym c.in_ok-part.ensures.part ∙ ap (option_map (tree_of a)) c.in-Some.is;
      key_is = c.in_ok-key.ensures.key;
    } in
    key_found found
