use Rattle.std.proofs.Common.{All, List, sym, subst, ◌∙◌}
use Rattle.fv_diagram.specs.Arena.{tree_of}
use Rattle.fv_diagram.specs.Controls.{IsBounded}
use Rattle.fv_num.specs.declared.span.Span.{Span}
use Rattle.fv_interval.specs.headline.Delays.{delays_of}
use Rattle.fv_interval.specs.Delays.{AreAccepted}
use Rattle.fv_engine_render_tests.proofs.cases.ready_of.Goals as goal

pub invariant_of-source : goal.invariant_of-source
invariant_of-source c =
    let own = c.program.invariant in
    record {
      there = own.0;
      well = own.1.well;
      closed = own.1.closed;
      bounded = subst (All IsBounded) (sym c.as_slice-controls.ensures) own.1.bounded;
      accepted = subst (λ (xs : List Span). AreAccepted (delays_of (tree_of c.program.inside.diagrams c.program.inside.root) xs) c.in-Ok.delays)
          (c.deref.ensures.value ∙ c.in_ok-bounds.ensures) c.in-Ok.ensures.ok;
    }
