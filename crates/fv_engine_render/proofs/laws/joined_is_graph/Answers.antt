use Rattle.std.proofs.Common.{[]}
use Rattle.fv_compile.specs.declared.job.Job.{Job}
use Rattle.fv_compile.specs.OfParts.{AreOfParts}
use Rattle.fv_compile.specs.headline.Parts.{Part, nothing}
use Rattle.fv_engine_render.proofs.laws.joined_is_graph.Goals as goal

-- a job and a part, whatever they are
some_job : Job
some_job = record { graph = record { signals = []; groups = []; tables = []; outputs = [] }; inputs = 0; controls = 0 }

some_part : Part
some_part = record { diagram = nothing; spans = [] }

pub returns : goal.returns
returns c = λ f jobs ps h joined.
    let of : AreOfParts jobs ps = record {
      long = h.long;
      well = h.well;
      each = λ k j p l. let a = h.each k j p l in record {
        inputs = a.inputs_are;
        controls = a.controls_are;
        width = a.of.width;
        propagates = a.of.gives;
      };
    } in
    record {
      finished = joined.finished;
      gives = c.joined_propagates.ensures f jobs ps of joined;
      width = c.joined_are_wide.ensures f jobs ps of joined;
      names = c.joined_names.ensures f jobs ps of (λ k j p l. let a = h.each k j p l in a.of.names) joined;
      short = λ s x by most at.
          let q = joined.delays s x by most at in
          let a = h.each q.number some_job some_part q.within in a.of.short q.s q.x q.by most (q.stands some_job);
    }
