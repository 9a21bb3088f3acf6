use Rattle.std.proofs.Common.{rules, ◌+◌, ◌-◌, ◌<◌, ℕ, ℤ, pos, List, get_or, sym, ap, ap₂, ◌∙◌, arith, w32, SFits, to_z-of_z}
use Rattle.std.proofs.lemmas.List.{get_or-take, length-take}
use Rattle.std.specs.Prelude.{slice_index}
use Rattle.fv_pool.specs.Layout.{part}
use Rattle.fv_lines.specs.Hold.{from_start}
use Rattle.fv_lines.specs.Solo.{history_at, first_at, lengths_in, shapes_in, cells_in, origins_in, written_in}
use Rattle.fv_lines.specs.declared.begun_lane.BegunLane.{BegunLane}
use Rattle.fv_lines.specs.declared.solo.Solo.{Solo}
use Rattle.fv_lines.proofs.lemmas.Stored.{length_list}
use Rattle.fv_lines.proofs.Reached.{found, reached}
use Rattle.fv_lines.proofs.solo.Solo.read.Goals as goal

pub slice_bounds-get-end : goal.slice_bounds-get-end
slice_bounds-get-end c =
    (reached c.args.self.now c.args.lane c.index-self-i.result c.requires.valid c.requires.there).ends

pub get-requires-clause-begun : goal.get-requires-clause-begun
get-requires-clause-begun c =
    (reached c.args.self.now c.args.lane c.index-self-i.result c.requires.valid c.requires.there).begun

pub get-requires-clause-there : goal.get-requires-clause-there
get-requires-clause-there c =
    let at = reached c.args.self.now c.args.lane c.index-self-i.result c.requires.valid c.requires.there in
    omega (arith, c.requires.sample.not_before, at.history)

pub get-requires-clause-room : goal.get-requires-clause-room
get-requires-clause-room c =
    let s : Solo = c.args.self.now in
    let at = reached s c.args.lane c.index-self-i.result c.requires.valid c.requires.there in
    let lane = c.requires.valid.lanes c.args.lane c.requires.there in
    let long = length_list s c.args.lane c.requires.valid c.requires.there in
    omega (arith, c.requires.sample.written, long, lane.upto, lane.framed, lane.shaped, at.history, at.len)

pub returns : goal.returns
returns c =
    let f : SFits w32 c.get.result = search rules in
    let s : Solo = c.args.self.now in
    let i : ℕ = c.args.lane in
    let at = reached s i c.index-self-i.result c.requires.valid c.requires.there in
    let x : BegunLane = found s i c.index-self-i.result in
    let h : ℕ = x.shape.history in
    let ring : List ℤ = from_start (first_at (shapes_in s) (origins_in s) i) (part (lengths_in s) i (cells_in s)) in
    let k : ℕ = history_at (shapes_in s) i + slice_index (written_in s) i in
    let n : ℕ = history_at (shapes_in s) i + c.args.index - c.args.back in
    let there : n < k = omega (arith, c.requires.sample.written, c.requires.sample.not_before, length-take k ring) in
    to_z-of_z f ∙ c.get.ensures
    ∙ ap₂ (λ (a : ℕ) (xs : List ℤ). get_or (from_start a xs) (h + c.args.index - c.args.back) (pos 0)) (sym at.first) at.cells
    ∙ ap (λ (m : ℕ). get_or ring (m + c.args.index - c.args.back) (pos 0)) (sym at.history)
    ∙ sym (get_or-take k ring n (pos 0) there)
