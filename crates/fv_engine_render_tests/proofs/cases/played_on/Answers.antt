use Rattle.std.proofs.Common.{All, List, sym, subst}
use Rattle.fv_diagram.specs.Arena.{tree_of}
use Rattle.fv_diagram.specs.Controls.{IsBounded}
use Rattle.fv_diagram.specs.declared.control.ControlInfo.{ControlInfo}
use Rattle.fv_eval.specs.Evaluated.{Evaluated}
use Rattle.fv_engine_render.specs.Stops.{IsSetFor}
use Rattle.fv_engine_render_tests.proofs.cases.played_on.Goals as goal

pub render_tape-requires-clause-bounded : goal.render_tape-requires-clause-bounded
render_tape-requires-clause-bounded g c κs within = subst (All IsBounded) (sym c.as_slice.ensures) c.program.invariant.1.bounded

pub render_tape-requires-clause-ready : goal.render_tape-requires-clause-ready
render_tape-requires-clause-ready g c κs within =
    let p = c.program.inside in
    let arity = c.arity-arity.ensures.arity in
    let sizes = c.args.sizes.now in
    let own = subst (λ (w : Evaluated). IsSetFor (tree_of w.diagrams w.root) w.controls sizes c.args.ready) (sym c.program.view_is) c.requires.ready in (
      tree_of p.diagrams p.root,
      record {
        well = c.program.invariant.1.well;
        inputs_are = arity.0;
        outputs_are = arity.1;
        set = subst (λ (ks : List ControlInfo). IsSetFor (tree_of p.diagrams p.root) ks sizes c.args.ready) (sym c.as_slice.ensures) own;
      },
    )
