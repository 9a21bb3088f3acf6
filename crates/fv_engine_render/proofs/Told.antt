-- One block more is told and counted.
use Rattle.std.proofs.Common.{◌≡◌, ℕ, ◌+◌, ◌*◌, ◌<◌, length, arith, List, [], ◌∷◌, ◌++◌, Option, Some, None, refl, sym, ap, subst, ◌∙◌}
use Rattle.std.proofs.Common.{append_assoc, append-nil, true≢false}
use Rattle.std.specs.Prelude.{All, IfSome, IsSome, unwrap_or}
use Rattle.std.proofs.lemmas.List.Sums.{sum_by_push, sum-map}
use Rattle.std.proofs.Math.Nat.{mul_comm}
use Rattle.fv_outside.specs.declared.tasks.Reads.{Reads}
use Rattle.fv_outside.specs.headline.Tasks.{Tasks}
use Rattle.fv_outside.specs.Tasks.{task_count}
use Rattle.fv_outside.specs.declared.gate.Line.{Line}
use Rattle.fv_outside.specs.headline.Journal.{BlockEntry, Room, Told, IsOrdered}
use Rattle.fv_outside.specs.Journal.{room_after}
use Rattle.fv_engine.specs.Block.{vectors_of}
use Rattle.fv_engine.specs.Stands.{EngineView, SameParts}
use Rattle.fv_engine.specs.Told.{IsEntry, HasRoomForBlock, tasks_told}
use Rattle.fv_engine_render.specs.headline.Blocks.{AreEntries, HasRoomForRun, RanBlocks, StillTells, loop_runs_of}

-- what is told of a block
abbrev pub TellsBlock : EngineView → (n : ℕ) → (old new : Option Told) → Type 0
TellsBlock now n old new =
    IfSome new (λ t. (before : Told) × (old ≡ Some before) × (entry : BlockEntry) × IsEntry now n entry
    × (t.entries ≡ before.entries ++ entry ∷ []) × (t.room ≡ room_after before.room entry))

-- each line is of one of these workers
abbrev AreBy : ℕ → List Line → Type 0
AreBy workers lines = All (λ (line : Line). line.worker < workers) lines

entries_more : (workers loops : ℕ) (reads : List Reads) (vector : ℕ) (ns : List ℕ) (es : List BlockEntry) (n : ℕ) (e : BlockEntry)
    → AreEntries workers loops reads vector ns es → e.tasks ≡ record { loops = loops; vectors = vectors_of n vector; reads = reads }
    → IsOrdered e.tasks e.lines → AreBy workers e.lines → AreEntries workers loops reads vector (ns ++ n ∷ []) (es ++ e ∷ [])
entries_more workers loops reads vector [] [] n e h t o w = (t, o, w, tt)
entries_more workers loops reads vector [] (x ∷ es) n e h t o w = absurd h
entries_more workers loops reads vector (m ∷ ns) [] n e h t o w = absurd h
entries_more workers loops reads vector (m ∷ ns) (x ∷ es) n e h t o w =
    (h.0, h.1, h.2, entries_more workers loops reads vector ns es n e h.3 t o w)

-- nothing is told of no blocks
pub ran_none : (workers loops : ℕ) (reads : List Reads) (vector : ℕ) (told : Option Told) → RanBlocks workers loops reads vector [] told told
ran_none workers loops reads vector None = tt
ran_none workers loops reads vector (Some t) = (t, refl, [], tt, sym (append-nil t.entries))

-- one block more
pub ran_more : (e now : EngineView) (ns : List ℕ) (n : ℕ) (old mid new : Option Told) → SameParts e now
    → RanBlocks e.workers e.plan.loops e.plan.reads e.vector ns old mid → TellsBlock now n mid new
    → RanBlocks e.workers e.plan.loops e.plan.reads e.vector (ns ++ n ∷ []) old new
ran_more e now ns n old mid None same h k = tt
ran_more e now ns n old mid (Some t) same h k =
    let b = subst (λ (o : Option Told). RanBlocks e.workers e.plan.loops e.plan.reads e.vector ns old o) k.1 h in (
      b.0,
      b.1,
      b.2 ++ k.2 ∷ [],
      entries_more e.workers e.plan.loops e.plan.reads e.vector ns b.2 n k.2 b.3 (k.3.tasks ∙ ap (λ (v : EngineView). tasks_told v n) same) k.3.ordered
          (subst (λ w. AreBy w k.2.lines) (ap (λ (v : EngineView). v.workers) same) k.3.who),
      k.4 ∙ ap (λ xs. xs ++ k.2 ∷ []) b.4 ∙ append_assoc b.0.entries b.2 (k.2 ∷ []),
    )

pub runs_more : (loops vector : ℕ) (ns : List ℕ) (n : ℕ) → loop_runs_of loops vector (ns ++ n ∷ []) ≡ loop_runs_of loops vector ns + loops * vectors_of n vector
runs_more loops vector ns n =
    let f : ℕ → ℕ = λ m. loops * vectors_of m vector in
    sum-map f (ns ++ n ∷ []) ∙ sum_by_push f ns n ∙ ap (λ x. x + f n) (sym (sum-map f ns))

-- ---- room

-- What a gate that told its list tells: the room that it had is less by these blocks, runs and pairs.
pub record KeepsTelling (before : Told) (blocks runs told : ℕ) (new : Option Told) : Type 0 where
  pub after : Told
  pub is : new ≡ Some after
  pub calls : after.room.calls + blocks ≡ before.room.calls
  pub lines : after.room.lines + runs ≡ before.room.lines
  pub pairs : after.room.pairs + told ≡ before.room.pairs

-- with room for what ran so far, it still tells
abbrev pub RoomSoFar : (reads blocks runs : ℕ) → (old new : Option Told) → Type 0
RoomSoFar reads blocks runs old new =
    IfSome old (λ t. HasRoomForRun t.room blocks runs (blocks * reads) → KeepsTelling t blocks runs (blocks * reads) new)

-- at first
pub room_none : (reads : ℕ) (told : Option Told) → RoomSoFar reads 0 0 told told
room_none reads None = tt
room_none reads (Some t) = λ h. record { after = t; is = refl; calls = omega arith; lines = omega arith; pairs = omega arith }

-- a block with room is told
abbrev pub RoomForBlock : EngineView → (n : ℕ) → (old new : Option Told) → Type 0
RoomForBlock now n old new = IfSome old (λ t. HasRoomForBlock t.room (tasks_told now n) → IsSome new)

some_of : {X : Type 0} (a b : X) → Some a ≡ Some b → a ≡ b
some_of a b e = ap (λ o. unwrap_or o a) e

one_told : (now : EngineView) (n : ℕ) (mid new : Option Told) (m : Told) → mid ≡ Some m → TellsBlock now n mid new → RoomForBlock now n mid new
    → HasRoomForBlock m.room (tasks_told now n) → KeepsTelling m 1 (task_count (tasks_told now n)) (length now.plan.reads) new
one_told now n mid None m e told room fits = absurd (true≢false (sym (subst (λ (o : Option Told). RoomForBlock now n o None) e room fits)))
one_told now n mid (Some t) m e told room fits =
    let entry = told.2 in
    let same : told.0 ≡ m = some_of told.0 m (sym told.1 ∙ e) in
    let left : t.room ≡ room_after m.room entry = told.5 ∙ ap (λ (b : Told). room_after b.room entry) same in
    let count : length entry.lines ≡ task_count (tasks_told now n) = told.3.counted ∙ ap task_count told.3.tasks in
    let reads : length entry.tasks.reads ≡ length now.plan.reads = ap (λ (x : Tasks). length x.reads) told.3.tasks in
    let a = fits.calls in let b = fits.lines in let d = fits.pairs in
    record {
      after = t;
      is = refl;
      calls = let k = ap (λ (r : Room). r.calls) left in omega (arith, k, a);
      lines = let k = ap (λ (r : Room). r.lines) left in omega (arith, k, b, count);
      pairs = let k = ap (λ (r : Room). r.pairs) left in omega (arith, k, d, reads);
    }

-- and one block more
pub room_more : (e now : EngineView) (n blocks runs : ℕ) (old mid new : Option Told) → SameParts e now → RoomSoFar (length e.plan.reads) blocks runs old mid
    → TellsBlock now n mid new → RoomForBlock now n mid new
    → RoomSoFar (length e.plan.reads) (blocks + 1) (runs + e.plan.loops * vectors_of n e.vector) old new
room_more e now n blocks runs None mid new same so told room = tt
room_more e now n blocks runs (Some t) mid new same so told room = λ h.
    let reads = length e.plan.reads in
    let tasks : task_count (tasks_told now n) ≡ e.plan.loops * vectors_of n e.vector =
    ap (λ (v : EngineView). vectors_of n v.vector * v.plan.loops) same ∙ mul_comm (vectors_of n e.vector) e.plan.loops in
    let pairs : length now.plan.reads ≡ reads = ap (λ (v : EngineView). length v.plan.reads) same in
    let more : (blocks + 1) * reads ≡ blocks * reads + reads = omega arith in
    let a = h.calls in let b = h.lines in let d = h.pairs in
    let k = so (record { calls = omega (arith, a); lines = omega (arith, b); pairs = omega (arith, d, more) }) in
    let ka = k.calls in let kb = k.lines in let kd = k.pairs in
    let fits : HasRoomForBlock k.after.room (tasks_told now n) = record {
      calls = omega (arith, a, ka);
      lines = omega (arith, b, kb, tasks);
      pairs = omega (arith, d, kd, more, pairs);
    } in
    let q = one_told now n mid new k.after k.is told room fits in
    let qa = q.calls in let qb = q.lines in let qd = q.pairs in
    record {
      after = q.after;
      is = q.is;
      calls = omega (arith, qa, ka);
      lines = omega (arith, qb, kb, tasks);
      pairs = omega (arith, qd, kd, more, pairs);
    }

pub still_told : (reads blocks runs : ℕ) (old new : Option Told) → RoomSoFar reads blocks runs old new
    → StillTells blocks runs (blocks * reads) old new
still_told reads blocks runs None new so = tt
still_told reads blocks runs (Some t) new so = λ h. let k = so h in subst (λ (o : Option Told). IsSome o) (sym k.is) refl
