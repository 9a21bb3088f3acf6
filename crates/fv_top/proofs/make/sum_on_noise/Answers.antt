use Rattle.std.proofs.Common.{◌≡◌, ℕ, ℤ, List, [], ◌*◌, length, arith, sym, ◌∙◌, ap, ap₂, subst, refl, pos, to_z, to_z-of_z, SFits, w32, rules}
use Rattle.std.specs.Prelude.{All}
use Rattle.std.proofs.lemmas.Int.{to_z_pos}
use Rattle.fv_diagram.specs.Controls.{IsBounded}
use Rattle.fv_diagram.specs.headline.Diagram.{inputs}
use Rattle.fv_diagram.specs.declared.control.ControlInfo.{ControlInfo}
use Rattle.fv_engine_render.specs.headline.Render.{initial_of}
use Rattle.fv_engine_render.specs.Render.{CanBePlayed, RanWhole}
use Rattle.fv_top_make.specs.headline.Made.{sum_of, noise_of}
use Rattle.fv_engine_render.specs.declared.blocks.RunSizes.{RunSizes}
use Rattle.fv_control.specs.headline.Streams.{control_streams}
use Rattle.fv_diagram.specs.headline.Samples.{answer_on}
use Rattle.fv_top.proofs.Making.{answer_alike, noise_heard}
use Rattle.fv_top.proofs.Ran.{can_be_played, set_to_play}
use Rattle.fv_top.proofs.make.sum_on_noise.Goals as goal

pub make_ready_graph-requires-clause-of : goal.make_ready_graph-requires-clause-of
make_ready_graph-requires-clause-of g c =
    let m = c.requires.playable in
    let p = c.args.playable.now in
    (m.0.diagram, subst (CanBePlayed m.0.diagram p.graph p.inputs) (sym c.deref.ensures.value) (can_be_played m.0 p m.1))

pub render_tape-requires-clause-bounded : goal.render_tape-requires-clause-bounded
render_tape-requires-clause-bounded g c = λ κs lives.
    let m = c.requires.playable in
    subst (All IsBounded) (sym (c.deref-2.ensures.value ∙ m.1.controls)) m.1.plays.bounded

pub render_tape-requires-clause-ready : goal.render_tape-requires-clause-ready
render_tape-requires-clause-ready g c = λ κs lives.
    let m = c.requires.playable in (
      m.0.diagram,
      set_to_play m.0 c.args.playable.now c.deref.result.now _ _ _ m.1 c.deref.ensures.value refl refl c.deref-2.ensures.value
          c.in_ok-ready.ensures,
    )

pub render_tape-requires-clause-ears : goal.render_tape-requires-clause-ears
render_tape-requires-clause-ears g c = λ κs lives. sym c.requires.one

pub returns-clause-sum : goal.returns-clause-sum
returns-clause-sum g c = λ m h.
    let p = c.args.playable.now in
    let v = c.args.voices in
    let f = c.args.frames in
    let set = set_to_play m p c.deref.result.now _ _ _ h c.deref.ensures.value refl refl c.deref-2.ensures.value c.in_ok-ready.ensures in
    let k = c.in-Ok.ensures.samples m.diagram set in
    let one : inputs m.diagram ≡ 1 = sym h.inputs ∙ c.requires.one in
    let frames : c.make_sizes-sizes.result.frames ≡ f = ap (λ (s : RunSizes). s.frames) c.make_sizes-sizes.ensures in
    let long : length k.0 ≡ f = k.1 ∙ ap₂ (λ n i. n * i) frames one ∙ omega arith in
    let few = c.requires.voices in
    let state : to_z w32 v ≡ pos v = to_z_pos w32 v (omega (arith, few)) in
    let made = noise_heard v f c.sums_add_up.ensures k.2 long state refl in
    let fits : SFits w32 c.render_tape.new.world.sum = search rules in
    let own = ap initial_of (c.deref-2.ensures.value ∙ h.controls) in
    let answered = answer_alike m.diagram (initial_of c.deref-2.result.now) (initial_of m.controls) f k.0 (noise_of v f) own made.0 in
    let sum : ℕ → ℤ = λ n. sum_of (answer_on m.diagram (control_streams [] (initial_of c.deref-2.result.now)) n k.0) in
    to_z-of_z fits ∙ made.1 ∙ ap sum frames ∙ ap sum_of answered

pub returns-clause-ran : goal.returns-clause-ran
returns-clause-ran g c = λ m h.
    let p = c.args.playable.now in
    let set = set_to_play m p c.deref.result.now _ _ _ h c.deref.ensures.value refl refl c.deref-2.ensures.value c.in_ok-ready.ensures in
    let before = g.G.Gate.told c.args.gate.now in
    let after = g.G.Gate.told c.render_tape.new.gate in
    subst (λ (s : RunSizes). RanWhole m.diagram m.controls [] s c.in-Ok.ran before after) c.make_sizes-sizes.ensures
    (subst (λ (ks : List ControlInfo). RanWhole m.diagram ks [] c.make_sizes-sizes.result c.in-Ok.ran before after) (c.deref-2.ensures.value ∙ h.controls)
    (c.in-Ok.ensures.ran m.diagram set))
