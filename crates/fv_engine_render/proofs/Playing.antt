-- What holds where a block begins.
use Rattle.std.proofs.Common.{◌≡◌, ℕ, ◌+◌, ◌-◌, min, ◌≤◌, List, sym, ap, ◌∙◌, arith, ℤ, nat_lt, lt-ltb}
use Rattle.std.proofs.lemmas.Bool.{cond-true}
use Rattle.fv_num.specs.headline.Words.{argument}
use Rattle.fv_control.specs.declared.script.Change.{Change}
use Rattle.fv_control.specs.Laws.{Held, Hold}
use Rattle.fv_control.specs.headline.Streams.{control_streams}
use Rattle.fv_engine.specs.Stands.{AreGiven, EngineView, SameParts}
use Rattle.fv_engine_render.specs.headline.Runs.{loops_in}
use Rattle.fv_engine_render.specs.inner.Runs.{BlockBegins}
use Rattle.fv_engine_render.proofs.Cuts.{none_between}

-- the controls have these numbers in it
pub given : {changes : List Change} {initial values : List ℤ} {f n next block total : ℕ} → Held → Hold
    → BlockBegins changes initial values f n next block total → AreGiven values (control_streams changes initial) f n
given {changes} {initial} {values} {f} {n} {next} {block} {total} held hold b k u l m =
    hold changes initial k f (f + u) (omega arith) (none_between changes f (min block (total - f)) u (omega (arith, m, b.cut)))
    ∙ sym (held changes initial next f k (omega (arith, l, b.long)) b.here.come b.here.behind) ∙ ap (λ (vs : List ℤ). argument vs k) (sym b.is)

pub same_still : (e now next : EngineView) → SameParts e now → SameParts now next → SameParts e next
same_still e now next p q = q ∙ ap (λ (v : EngineView). record v { region = next.region; starts = next.starts; cells = next.cells }) p

-- some blocks have the plan's loops
pub loops_some : (blocks loops : ℕ) → 1 ≤ blocks → loops_in blocks loops ≡ loops
loops_some blocks loops some = cond-true (nat_lt 0 blocks) loops 0 (lt-ltb 0 blocks (omega (arith, some)))
