-- A block that runs over the lanes of one worker.
use Rattle.std.proofs.Common.{◌≡◌, ℕ, ◌+◌, ◌<◌, ℤ, List, [], length, drop, sym, ap, ap₂, ◌∙◌, subst, arith}
use Rattle.fv_base.proofs.lemmas.Lists.{length_table}
use Rattle.fv_outside.specs.headline.Tasks.{Tasks}
use Rattle.fv_outside.specs.declared.gate.Line.{Line}
use Rattle.fv_graph.specs.Graph.{net_of}
use Rattle.fv_graph.specs.Core.{Now, opening}
use Rattle.fv_loopcode.specs.headline.Lanes.{Lane, lane_of}
use Rattle.fv_loopcode.specs.headline.State.{State}
use Rattle.fv_lines.specs.Solo.{lanes_of, lane_at, held_at, history_at, lengths_in, shapes_in, cells_in, frames_in, opening_lanes, IsSolo, AreFull}
use Rattle.fv_lines.specs.declared.solo.Solo.{Solo}
use Rattle.fv_lines.specs.declared.shape.LaneShape.{LaneShape}
use Rattle.fv_lines.specs.declared.shape.LaneState.{LaneState}
use Rattle.fv_lines.proofs.lemmas.Stored.{lane_is, length_list, there_of}
use Rattle.fv_engine_tasks.specs.Block.{Block}
use Rattle.fv_engine_tasks.specs.Underway.{IsUnderway}
use Rattle.fv_engine_tasks.proofs.lemmas.Opening.{opens}
use Rattle.std.specs.Global.{Vec}
use Rattle.fv_split_plan.specs.headline.View.{PlanView}
use Rattle.fv_engine.specs.inner.Kept.{state_of}

-- as many opening lanes as parts
pub opening_long : (lengths : List ℕ) (shapes : List LaneShape) (states : List LaneState) (frames : ℕ) (cells : List ℤ)
    → length (opening_lanes lengths shapes states frames cells) ≡ length lengths
opening_long lengths shapes states frames cells =
    length_table (length lengths) (λ i. record { history = history_at shapes i; items = held_at lengths states (history_at shapes i) i cells; room = frames })

-- the opening state, as many opening lanes and cells as the block has, and no lines
pub record IsOpening (g : Tasks) (b : Block) (first : State) (s : Now) (now : State) (lines : List Line) : Type 0 where
  pub long : length first.lanes ≡ b.plan.lanes
  pub cells : length first.cells ≡ b.plan.cells
  pub state : s ≡ opening (net_of g) 1
  pub places_are : now ≡ first
  pub none : lines ≡ []

-- what one worker's block works on, where the plan, the lanes and the lists are the same
pub state_same : {L : Type 0} (lanes : L → List Lane) {p q : PlanView} {l m : L} {ls ms : List (Vec ℤ)} → p ≡ q → m ≡ l → ms ≡ ls
    → state_of p (lanes l) ls ≡ state_of q (lanes m) ms
state_same lanes {p} {q} {l} {m} {ls} {ms} e f h =
    ap (λ (x : PlanView). state_of x (lanes l) ls) e ∙ ap (λ x. state_of q (lanes x) ls) (sym f) ∙ ap (λ (xs : List (Vec ℤ)). state_of q (lanes m) xs) (sym h)

-- they are under way
pub starts : {g : Tasks} {b : Block} {first : State} {s : Now} {now : State} {lines : List Line} → IsOpening g b first s now lines
    → IsUnderway g b first s now lines
starts {g} {b} {first} {s} {now} {lines} o =
    subst (λ x. IsUnderway g b first x now lines) (sym o.state) (subst (λ y. IsUnderway g b first (opening (net_of g) 1) y lines) (sym o.places_are)
    (subst (λ z. IsUnderway g b first (opening (net_of g) 1) first z) (sym o.none) (opens g b first o.long o.cells)))

-- Where each lane's list is its history and the samples of a block, no lane takes one more.
pub are_full : (s : Solo) (frames : ℕ) → IsSolo s → frames_in s ≡ frames
    → ((i : ℕ) → i < length (lanes_of s) → length (lane_of (lanes_of s) i).items ≡ (lane_of (lanes_of s) i).history + frames) → AreFull (lanes_of s)
are_full s frames valid e full = λ i l.
    let is = lane_is s i l in let there = there_of s i l in
    let long = length_list s i valid there in
    let f = sym (ap (λ (x : Lane). length x.items) is) ∙ full i l ∙ ap (λ (x : Lane). x.history + frames) is in
    ap (λ (x : Lane). x.room) is ∙ omega (arith, long, f, e)

-- a lane for each part
pub there_in : (s : Solo) (i : ℕ) → i < length (lengths_in s) → i < length (lanes_of s)
there_in s i l = let q = length_table (length (lengths_in s)) (lane_at s) in omega (arith, q, l)

-- what the lanes of one worker lie over, and what its end leaves
pub record LiesOver (s : Solo) (lengths : List ℕ) (shapes : List LaneShape) (frames : ℕ) (states exit : List LaneState) (cells : List ℤ) : Type 0 where
  pub lengths_are : lengths_in s ≡ lengths
  pub shapes_are : shapes_in s ≡ shapes
  pub frames_are : frames_in s ≡ frames
  pub states_are : states ≡ exit
  pub cells_are : cells ≡ cells_in s

-- what the states and the cells hold after the end
pub holds_next : {s : Solo} {lengths : List ℕ} {shapes : List LaneShape} {frames : ℕ} {states exit : List LaneState} {cells : List ℤ}
    → LiesOver s lengths shapes frames states exit cells → (i : ℕ)
    → held_at (lengths_in s) exit (history_at (shapes_in s) i) i (cells_in s) ≡ drop (frames_in s) (lane_of (lanes_of s) i).items
    → held_at lengths states (history_at shapes i) i cells ≡ drop frames (lane_of (lanes_of s) i).items
holds_next {s} {lengths} {shapes} {frames} {states} {exit} {cells} over i held =
    ap₂ (λ (st : List LaneState) (xs : List ℤ). held_at lengths st (history_at shapes i) i xs) over.states_are over.cells_are
    ∙ ap₂ (λ (ks : List ℕ) (ss : List LaneShape). held_at ks exit (history_at ss i) i (cells_in s)) (sym over.lengths_are) (sym over.shapes_are)
    ∙ held ∙ ap (λ n. drop n (lane_of (lanes_of s) i).items) over.frames_are
