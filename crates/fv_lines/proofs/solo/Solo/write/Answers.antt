use Rattle.std.proofs.Common.{◌≡◌, ◌+◌, ◌-◌, ◌++◌, [], ◌∷◌, ℕ, ℤ, List, take, set, sym, ap, ap₂, ◌∙◌, arith, to_z-of_z}
use Rattle.fv_lines.specs.Hold.{from_start}
use Rattle.fv_lines.specs.declared.begun_lane.BegunLane.{BegunLane}
use Rattle.fv_lines.specs.declared.solo.Solo.{Solo}
use Rattle.fv_lines.proofs.Reached.{found, cells_found, reached}
use Rattle.fv_lines.proofs.Written.{IsWritten, HaveMore, have_more, lanes_written, cells_long, places_stay, lanes_stay}
use Rattle.fv_lines.proofs.solo.Solo.write.Goals as goal

pub slice_bounds-put-end : goal.slice_bounds-put-end
slice_bounds-put-end c = (reached c.args.self.now c.args.lane c.index-self-i.result c.requires.valid c.requires.there).ends

pub put-requires-clause-begun : goal.put-requires-clause-begun
put-requires-clause-begun c = (reached c.args.self.now c.args.lane c.index-self-i.result c.requires.valid c.requires.there).begun

pub put-requires-clause-room : goal.put-requires-clause-room
put-requires-clause-room c =
    let at = reached c.args.self.now c.args.lane c.index-self-i.result c.requires.valid c.requires.there in
    let lane = c.requires.valid.lanes c.args.lane c.requires.there in
    omega (arith, c.from-index.ensures, at.written, at.history, at.len, lane.shaped, lane.framed, c.requires.room)

-- what was written
wrote : (c : goal.After-index-self-i-3)
    → IsWritten c.args.self.now c.args.lane (found c.args.self.now c.args.lane c.index-self-i.result) c.put.new.cells (c.args.value ∷ [])
wrote c =
    let s : Solo = c.args.self.now in
    let x : BegunLane = found s c.args.lane c.index-self-i.result in
    let h : ℕ = x.shape.history in
    let o : ℕ = x.origin - h in
    let index : x.written ≡ c.from-index.result = sym c.from-index.ensures in
    record {
      valid = c.requires.valid;
      there = c.requires.there;
      at = reached s c.args.lane c.index-self-i.result c.requires.valid c.requires.there;
      fits = omega (arith, c.requires.room);
      size = c.put.ensures.len;
      list = ap (λ (k : ℕ). take (h + k + 1) (from_start o c.put.new.cells)) index ∙ c.put.ensures.list
          ∙ ap₂ (λ (k : ℕ) (v : ℤ). take (h + k) (from_start o (cells_found s x)) ++ v ∷ []) (sym index) (to_z-of_z c.ranges.value);
    }

-- the records then
abbrev after : goal.After-index-self-i-3 → List BegunLane
after c = set c.args.self.now.begun.now c.args.lane (record {
  shape = (found c.args.self.now c.args.lane c.index-self-i-3.result).shape;
  place = (found c.args.self.now c.args.lane c.index-self-i-3.result).place;
  origin = (found c.args.self.now c.args.lane c.index-self-i-3.result).origin;
  written = (found c.args.self.now c.args.lane c.index-self-i-2.result).written + 1;
})

more : (c : goal.After-index-self-i-3) → HaveMore c.args.self.now c.args.lane (1) (after c)
more c =
    have_more c.args.self.now c.args.lane (1) c.index-self-i-3.result c.index-self-i-2.result c.requires.valid c.requires.there

pub returns-clause-lanes : goal.returns-clause-lanes
returns-clause-lanes c = lanes_written (wrote c) (after c) (more c)

pub returns-clause-valid : goal.returns-clause-valid
returns-clause-valid c =
    let w = wrote c in
    let have = more c in
    record {
      shapes = c.requires.valid.shapes;
      states = c.requires.valid.states;
      begun = have.count ∙ c.requires.valid.begun;
      fits = omega (arith, c.requires.valid.fits, cells_long w);
      same = have.shapes ∙ c.requires.valid.same;
      places = places_stay w (after c) have;
      lanes = lanes_stay w (after c) have;
    }
