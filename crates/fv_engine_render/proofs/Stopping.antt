-- How a run over a tape stops, from what holds as it goes on.
use Rattle.std.proofs.Common.{◌≡◌, ℕ, ◌*◌, List, [], length, ℤ, Option, refl, ap, subst, ◌∙◌, arith}
use Rattle.fv_outside.specs.headline.Journal.{Told}
use Rattle.fv_outside.specs.Acts.{Act, Beginning}
use Rattle.fv_control.specs.declared.script.Change.{Change}
use Rattle.fv_engine.specs.Stands.{EngineView}
use Rattle.fv_engine_render.specs.Stops.{IsAct}
use Rattle.fv_engine_render.specs.inner.Stopping.{HasStopped}
use Rattle.fv_engine_render.specs.declared.blocks.RunSizes.{RunSizes}
use Rattle.fv_engine_render.proofs.Streaming.{Start, Come, Streamed, fit_none}
use Rattle.fv_engine_render.proofs.Told.{ran_none, room_none, still_told}

-- before its first block
pub stops_first : (e : EngineView) (s : RunSizes) (changes : List Change) (initial : List ℤ) (told : Option Told)
    (Stopped : (heard said : List ℤ) → Act → Type 0)
    → Stopped [] [] Beginning → HasStopped e s changes initial told told Stopped
stops_first e s changes initial told Stopped stopped = record {
  frame = 0;
  ran = record { blocks = 0; loops = 0; loop_runs = 0 };
  run = record {
    lengths = [];
    cut = refl;
    told = ran_none s.workers e.plan.loops e.plan.reads s.vector told;
    blocks_are = refl;
    loops_are = refl;
    runs_are = refl;
  };
  room = still_told (length e.plan.reads) 0 0 told told (room_none (length e.plan.reads) told);
  heard = [];
  long = omega arith;
  fit = fit_none;
  all = [];
  count = omega arith;
  plays = λ g st stands. refl;
  said = [];
  act = Beginning;
  is = (refl, refl, refl);
  stopped = stopped;
}

-- after some of them
pub stops : {b : Start} {r : Come} → Streamed b r → b.outputs ≡ length b.engine.plan.outputs → (Stopped : (heard said : List ℤ) → Act → Type 0)
    (said : List ℤ) (act : Act) → IsAct b.sizes.block b.sizes.frames b.changes r.frame said r.all act → Stopped r.heard said act
    → HasStopped b.engine b.sizes b.changes b.initial b.told r.told Stopped
stops {b} {r} i outputs Stopped said act is stopped = record {
  frame = r.frame;
  ran = r.ran;
  run = i.run;
  room = still_told (length b.engine.plan.reads) r.ran.blocks r.ran.loop_runs b.told r.told i.room;
  heard = r.heard;
  long = i.long;
  fit = i.fit;
  all = r.all;
  count = i.width ∙ ap (λ (w : ℕ). r.frame * w) outputs;
  plays = λ g s st. (i.so g s st).1;
  said = said;
  act = act;
  is = is;
  stopped = stopped;
}

-- the same where the values with which the controls begin go by another name
pub stopped_from : {e : EngineView} {s : RunSizes} {cs : List Change} {vs ws : List ℤ} {old new : Option Told}
    {Stopped : (heard said : List ℤ) → Act → Type 0} → vs ≡ ws → HasStopped e s cs vs old new Stopped → HasStopped e s cs ws old new Stopped
stopped_from {e} {s} {cs} {vs} {ws} {old} {new} {Stopped} same h = subst (λ (xs : List ℤ). HasStopped e s cs xs old new Stopped) same h
