use Rattle.std.proofs.Common.{◌≡◌, ℕ, ◌+◌, ◌*◌, ◌<◌, [], ◌++◌, length, take, drop, refl, sym, ap, subst, ◌∙◌, arith, rules, length-append, ◌≤◌, List, ℤ}
use Rattle.std.proofs.Common.{length-drop}
use Rattle.std.specs.List.{AllByRecursion}
use Rattle.std.proofs.Math.Seq.{length-take-le}
use Rattle.std.proofs.lemmas.Option.{IfSome_then}
use Rattle.fv_control.specs.declared.script.Change.{Change}
use Rattle.fv_control.specs.headline.Streams.{control_streams}
use Rattle.fv_outside.specs.Acts.{Hearing, Saying}
use Rattle.fv_split_plan.specs.Code.{NamesHeld}
use Rattle.fv_engine.specs.Stands.{EngineView}
use Rattle.fv_engine_render.specs.inner.Runs.{BlockBegins, PlaysAll}
use Rattle.fv_engine_render.specs.declared.blocks.Ran.{Ran}
use Rattle.fv_engine_render.proofs.Cuts.{come_later}
use Rattle.fv_engine_render.proofs.Playing.{given}
use Rattle.fv_engine_render.proofs.Stopping.{stops_first, stops, stopped_from}
use Rattle.fv_engine_render.proofs.Streaming.{Block, Come, Start, Streamed, block_more, streamed_none, rows_fit}
use Rattle.fv_engine_render.proofs.Told.{still_told}
use Rattle.fv_engine_render.proofs.stream.play_tape.Goals as goal

pub returns-in-Err-clause-stops : goal.returns-in-Err-clause-stops
returns-in-Err-clause-stops g c =
    stops_first c.args.ready.now.engine c.args.course.now.sizes c.args.course.now.changes.now c.args.ready.now.values.items
    (g.G.Gate.told c.args.gate.now) _ c.in-Err.ensures.err

pub playing-init : goal.playing-init
playing-init g c =
    let b = c.begin.ensures in
    let most = c.requires.most in let most_is = b.most in
    let left = c.requires.left in let left_is = b.left in
    record {
      listened = record { there = omega arith; come = tt; changed = refl; count = refl };
      heard_room = ap length c.as_mut_slice-heard.ensures.value ∙ c.requires.heard;
      said_room = ap length c.as_mut_slice-said.ensures.value ∙ c.requires.said;
      valid = b.valid;
      ears = b.ears ∙ c.requires.ears;
      mouth = b.mouth ∙ c.requires.mouth;
      most = omega (arith, most, most_is);
      left = omega (arith, left, left_is);
      heard = [];
      all = [];
      went = c.in-Ok.ensures.ok;
      streamed = streamed_none _ (λ h s st. st);
    }

pub begin_block-behind-requires-clause-named : goal.begin_block-behind-requires-clause-named
begin_block-behind-requires-clause-named g c =
    subst (λ (n : ℕ). AllByRecursion (λ (x : Change). x.control < n) c.args.course.now.changes.now)
    (sym (c.playing.invariant.listened.count ∙ ap length c.as_mut_slice-values.ensures.value)) c.requires.named

-- the numbers of a block's frames lie within the room for the longest block
within_room : (n block width : ℕ) (xs : List ℤ) → n ≤ block → length xs ≡ block * width → n * width ≤ length xs
within_room n block width xs short room = let fit = rows_fit n block width short in omega (arith, fit, room)

-- The first n frames of a block's list are as long as n frames are wide.
taken_long : (n block width : ℕ) (xs : List ℤ) → n ≤ block → length xs ≡ block * width → length (take (n * width) xs) ≡ n * width
taken_long n block width xs short room = length-take-le (n * width) xs (within_room n block width xs short room)

pub slice_bounds-input-end : goal.slice_bounds-input-end
slice_bounds-input-end g c =
    within_room c.begin_block-behind.result.1 c.args.course.now.sizes.block c.args.course.now.plan.channels c.playing.heard c.begin_block-behind.ensures.short
    c.playing.invariant.heard_room

pub slice_bounds-input-end-in-playing : goal.slice_bounds-input-end-in-playing
slice_bounds-input-end-in-playing g c =
    sym (taken_long c.begin_block-behind.result.1 c.args.course.now.sizes.block c.args.course.now.plan.channels c.playing.heard
    c.begin_block-behind.ensures.short c.playing.invariant.heard_room)

pub hear-requires-clause-room : goal.hear-requires-clause-room
hear-requires-clause-room g c =
    let n = c.begin_block-behind.result.1 in
    taken_long n c.args.course.now.sizes.block c.args.course.now.plan.channels c.playing.heard c.begin_block-behind.ensures.short c.playing.invariant.heard_room
    ∙ ap (λ (k : ℕ). n * k) (sym c.playing.invariant.ears)

pub slice_bounds-output-end : goal.slice_bounds-output-end
slice_bounds-output-end g c =
    within_room c.begin_block-behind.result.1 c.args.course.now.sizes.block c.args.course.now.plan.outputs c.playing.said c.begin_block-behind.ensures.short
    c.playing.invariant.said_room

pub slice_bounds-output-end-in-playing : goal.slice_bounds-output-end-in-playing
slice_bounds-output-end-in-playing g c =
    sym (taken_long c.begin_block-behind.result.1 c.args.course.now.sizes.block c.args.course.now.plan.outputs c.playing.said c.begin_block-behind.ensures.short
    c.playing.invariant.said_room)

pub run_block-report-requires-clause-frames : goal.run_block-report-requires-clause-frames
run_block-report-requires-clause-frames g c κs within =
    let short = c.begin_block-behind.ensures.short in
    let same = ap (λ (v : EngineView). v.block) c.playing.invariant.streamed.same in
    let block = c.requires.sizes.0 in (c.begin_block-behind.ensures.some, omega (arith, short, same, block))

pub run_block-report-requires-clause-input : goal.run_block-report-requires-clause-input
run_block-report-requires-clause-input g c κs within =
    let n = c.begin_block-behind.result.1 in
    c.hear.auto.to
    ∙ taken_long n c.args.course.now.sizes.block c.args.course.now.plan.channels c.playing.heard c.begin_block-behind.ensures.short
    c.playing.invariant.heard_room
    ∙ ap (λ (k : ℕ). n * k) (c.requires.plan.channels ∙ sym (ap (λ (v : EngineView). v.channels) c.playing.invariant.streamed.same))

pub run_block-report-requires-clause-output : goal.run_block-report-requires-clause-output
run_block-report-requires-clause-output g c κs within =
    let n = c.begin_block-behind.result.1 in
    taken_long n c.args.course.now.sizes.block c.args.course.now.plan.outputs c.playing.said c.begin_block-behind.ensures.short c.playing.invariant.said_room
    ∙ ap (λ (k : ℕ). n * k) (c.requires.plan.outputs ∙ sym (ap (λ (v : EngineView). length v.plan.outputs) c.playing.invariant.streamed.same))

pub say-requires-clause-room : goal.say-requires-clause-room
say-requires-clause-room g c =
    let n = c.begin_block-behind.result.1 in
    c.run_block-report.auto.output
    ∙ taken_long n c.args.course.now.sizes.block c.args.course.now.plan.outputs c.playing.said c.begin_block-behind.ensures.short c.playing.invariant.said_room
    ∙ ap (λ (k : ℕ). n * k) (sym (c.hear.ensures.mouth ∙ c.playing.invariant.mouth))

pub run_block-report-requires-clause-controls : goal.run_block-report-requires-clause-controls
run_block-report-requires-clause-controls g c κs within =
    let i = c.playing.invariant in
    let begins = c.begin_block-behind.ensures.begins c.as_mut_slice-values.result.now i.listened.changed i.listened.count in
    λ k h. subst (λ n. k < n) (sym (begins.long ∙ ap length c.as_mut_slice-values.ensures.value))
    (c.requires.controls k (subst (λ (x : EngineView). NamesHeld x.plan.held k) i.streamed.same h))

pub returns-in-Err-hear-clause-stops : goal.returns-in-Err-hear-clause-stops
returns-in-Err-hear-clause-stops g c =
    let i = c.playing.invariant in
    let n = c.begin_block-behind.result.1 in
    let begins = c.begin_block-behind.ensures.begins c.as_mut_slice-values.result.now i.listened.changed i.listened.count in
    stopped_from c.as_mut_slice-values.ensures.value
    (stops i.streamed c.requires.plan.outputs _ i.all (Hearing n) (c.playing-test.true, begins.cut, refl)
    (c.in-Err-hear.ensures.err c.args.tape.now c.args.world.now i.heard i.all i.went))

pub returns-in-Err-say-clause-stops : goal.returns-in-Err-say-clause-stops
returns-in-Err-say-clause-stops g c =
    let i = c.playing.invariant in
    let told = g.G.Gate.told in
    let n = c.begin_block-behind.result.1 in
    let f = c.playing.frame in let cs = c.args.course.now.changes.now in let start = c.as_mut_slice-values.result.now in let sizes = c.args.course.now.sizes in
    let piece = c.hear.new.to in let out = c.run_block-report.new.output in let values = c.begin_block-behind.new.values in
    let ch = c.args.course.now.plan.channels in let w = c.args.course.now.plan.outputs in
    let short = c.begin_block-behind.ensures.short in
    let begins : BlockBegins cs start values f n c.begin_block-behind.result.0 sizes.block sizes.frames =
    c.begin_block-behind.ensures.begins start i.listened.changed i.listened.count in
    let b : Start = record { engine = c.args.ready.now.engine; sizes = sizes; outputs = w; changes = cs; initial = start; told = told c.args.gate.now } in
    let r : Come = record { engine = c.playing.engine; frame = f; ran = c.playing.ran; told = told c.playing.gate; heard = i.heard; all = i.all } in
    let block : Block b r c.run_block-report.new.self (told c.run_block-report.new.gate) n c.run_block-report.result.tasks piece values out = record {
      look = c.values_look_back.ensures;
      outputs = c.requires.plan.outputs;
      vector = c.requires.sizes.1;
      workers = c.requires.sizes.2;
      here = c.playing-test.true;
      cut = begins.cut;
      some = c.begin_block-behind.ensures.some;
      inside = c.begin_block-behind.ensures.inside;
      part = c.hear.auto.to ∙ taken_long n sizes.block ch c.playing.heard short i.heard_room ∙ ap (λ (k : ℕ). n * k) c.requires.plan.channels;
      fit = c.numbers_fit.ensures;
      wide = c.run_block-report.auto.output ∙ taken_long n sizes.block w c.playing.said short i.said_room;
      same = c.run_block-report.ensures.same;
      on = c.run_block-report.ensures.goes_on;
      given = given c.values_held.ensures c.controls_hold.ensures begins;
      told = IfSome_then (told c.run_block-report.new.gate) c.run_block-report.ensures.told (λ t h. (h.0, h.1, h.2, h.3, h.4, h.5));
      room = c.run_block-report.ensures.room;
      count = c.run_block-report.ensures.tasks;
      small = search rules;
    } in
    stopped_from c.as_mut_slice-values.ensures.value
    (stops (block_more c.args.course.now.plan.loops c.requires.plan.loops i.streamed block) c.requires.plan.outputs _ i.all (Saying out) refl
    (c.in-Err-say.ensures.err c.args.tape.now c.args.world.now (i.heard ++ piece) i.all
    (c.in-Ok-hear.ensures.ok c.args.tape.now c.args.world.now i.heard i.all i.went)))

pub playing-preserved : goal.playing-preserved
playing-preserved g c =
    let i = c.playing.invariant in
    let told = g.G.Gate.told in
    let n = c.begin_block-behind.result.1 in
    let f = c.playing.frame in let cs = c.args.course.now.changes.now in let start = c.as_mut_slice-values.result.now in let sizes = c.args.course.now.sizes in
    let piece = c.hear.new.to in let out = c.run_block-report.new.output in let values = c.begin_block-behind.new.values in
    let heard_long = i.heard_room in let said_long = i.said_room in
    let ch = c.args.course.now.plan.channels in let w = c.args.course.now.plan.outputs in
    let short = c.begin_block-behind.ensures.short in
    let fit = rows_fit n sizes.block ch short in
    let wit = rows_fit n sizes.block w short in
    let piece_long : length piece ≡ n * ch = c.hear.auto.to ∙ taken_long n sizes.block ch c.playing.heard short heard_long in
    let out_long : length out ≡ n * w = c.run_block-report.auto.output ∙ taken_long n sizes.block w c.playing.said short said_long in
    let begins : BlockBegins cs start values f n c.begin_block-behind.result.0 sizes.block sizes.frames =
    c.begin_block-behind.ensures.begins start i.listened.changed i.listened.count in
    let b : Start = record { engine = c.args.ready.now.engine; sizes = sizes; outputs = w; changes = cs; initial = start; told = told c.args.gate.now } in
    let r : Come = record { engine = c.playing.engine; frame = f; ran = c.playing.ran; told = told c.playing.gate; heard = i.heard; all = i.all } in
    let block : Block b r c.run_block-report.new.self (told c.run_block-report.new.gate) n c.run_block-report.result.tasks piece values out = record {
      look = c.values_look_back.ensures;
      outputs = c.requires.plan.outputs;
      vector = c.requires.sizes.1;
      workers = c.requires.sizes.2;
      here = c.playing-test.true;
      cut = begins.cut;
      some = c.begin_block-behind.ensures.some;
      inside = c.begin_block-behind.ensures.inside;
      part = piece_long ∙ ap (λ (k : ℕ). n * k) c.requires.plan.channels;
      fit = c.numbers_fit.ensures;
      wide = out_long;
      same = c.run_block-report.ensures.same;
      on = c.run_block-report.ensures.goes_on;
      given = given c.values_held.ensures c.controls_hold.ensures begins;
      told = IfSome_then (told c.run_block-report.new.gate) c.run_block-report.ensures.told (λ t h. (h.0, h.1, h.2, h.3, h.4, h.5));
      room = c.run_block-report.ensures.room;
      count = c.run_block-report.ensures.tasks;
      small = search rules;
    } in
    let a = c.hear.ensures in let d = c.say.ensures in
    let heard_rest = length-drop (n * ch) c.playing.heard in let said_rest = length-drop (n * w) c.playing.said in
    let heard_all = length-append piece (drop (n * ch) c.playing.heard) in let said_all = length-append out (drop (n * w) c.playing.said) in
    let most = i.most in let most_heard = a.most in let most_said = d.most in
    let left = i.left in let left_heard = c.in-Ok-hear.ensures.left in let left_said = d.left in
    record {
      listened = record {
        there = begins.here.within;
        come = come_later (take c.begin_block-behind.result.0 cs) f (f + n) (omega arith) begins.here.come;
        changed = begins.is;
        count = begins.long;
      };
      heard_room = omega (arith, heard_all, heard_rest, piece_long, fit, heard_long);
      said_room = omega (arith, said_all, said_rest, out_long, wit, said_long);
      valid = d.valid;
      ears = d.ears ∙ a.ears ∙ i.ears;
      mouth = d.mouth ∙ a.mouth ∙ i.mouth;
      most = omega (arith, most, most_heard, most_said);
      left = omega (arith, left, left_heard, left_said);
      heard = i.heard ++ piece;
      all = i.all ++ out;
      went = c.in-Ok-say.ensures.ok c.args.tape.now c.args.world.now (i.heard ++ piece) i.all
          (c.in-Ok-hear.ensures.ok c.args.tape.now c.args.world.now i.heard i.all i.went);
      streamed = subst (λ (x : Ran). Streamed b (record {
        engine = c.run_block-report.new.self;
        frame = f + n;
        ran = x;
        told = told c.run_block-report.new.gate;
        heard = i.heard ++ piece;
        all = i.all ++ out;
      })) (sym c.and_block-ran.ensures) (block_more c.args.course.now.plan.loops c.requires.plan.loops i.streamed block);
    }

pub returns-clause-samples : goal.returns-clause-samples
returns-clause-samples g c =
    let i = c.playing.invariant in
    let s = i.streamed in
    let within = s.within in let t = c.playing-test.false in
    let total = c.args.course.now.sizes.frames in
    let same : c.playing.frame ≡ total = omega (arith, within, t) in (
      i.heard,
      i.all,
      s.long ∙ ap (λ (k : ℕ). k * c.args.ready.now.engine.channels) same ∙ ap (λ (k : ℕ). total * k) (sym c.requires.plan.channels),
      s.fit,
      s.width ∙ ap (λ (k : ℕ). k * c.args.course.now.plan.outputs) same,
      subst (λ (vs : List ℤ). PlaysAll c.args.ready.now.engine (control_streams c.args.course.now.changes.now vs) total i.heard i.all)
          c.as_mut_slice-values.ensures.value
          (subst (λ (k : ℕ). PlaysAll c.args.ready.now.engine (control_streams c.args.course.now.changes.now c.as_mut_slice-values.result.now) k i.heard i.all)
          same (λ h p st. (s.so h p st).1)),
      i.went,
    )

pub returns-clause-room : goal.returns-clause-room
returns-clause-room g c =
    let told = g.G.Gate.told in
    still_told (length c.args.ready.now.engine.plan.reads) c.playing.ran.blocks c.playing.ran.loop_runs (told c.args.gate.now) (told c.playing.gate)
    c.playing.invariant.streamed.room
