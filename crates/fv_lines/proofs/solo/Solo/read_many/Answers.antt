use Rattle.std.proofs.Common.{rules, ◌≡◌, ◌+◌, ◌-◌, ◌<◌, ℕ, ℤ, pos, List, length, drop, get_or, sym, ap, ap₂, ◌∙◌, arith}
use Rattle.std.proofs.lemmas.List.{get_or-take, get_or-drop, length-take}
use Rattle.std.specs.Prelude.{slice_index}
use Rattle.fv_pool.specs.Layout.{part}
use Rattle.fv_lines.specs.Hold.{from_start}
use Rattle.fv_lines.specs.Solo.{history_at, first_at, lengths_in, shapes_in, cells_in, origins_in, written_in}
use Rattle.fv_lines.specs.declared.begun_lane.BegunLane.{BegunLane}
use Rattle.fv_lines.specs.declared.solo.Solo.{Solo}
use Rattle.fv_lines.proofs.lemmas.Stored.{length_list}
use Rattle.fv_lines.proofs.Reached.{found, cells_found, reached}
use Rattle.fv_lines.proofs.solo.Solo.read_many.Goals as goal

pub slice_bounds-get_many-end : goal.slice_bounds-get_many-end
slice_bounds-get_many-end c =
    (reached c.args.self.now c.args.lane c.index-self-i.result c.requires.valid c.requires.there).ends

pub get_many-requires-clause-begun : goal.get_many-requires-clause-begun
get_many-requires-clause-begun c =
    (reached c.args.self.now c.args.lane c.index-self-i.result c.requires.valid c.requires.there).begun

pub get_many-requires-clause-there : goal.get_many-requires-clause-there
get_many-requires-clause-there c =
    let at = reached c.args.self.now c.args.lane c.index-self-i.result c.requires.valid c.requires.there in
    let some : 0 < length c.args.to.now = search (rules, c.if-is_empty.false, c.is_empty.ensures) in
    omega (arith, (c.requires.samples 0 some).not_before, at.history)

pub get_many-requires-clause-room : goal.get_many-requires-clause-room
get_many-requires-clause-room c =
    let s : Solo = c.args.self.now in
    let at = reached s c.args.lane c.index-self-i.result c.requires.valid c.requires.there in
    let some : 0 < length c.args.to.now = search (rules, c.if-is_empty.false, c.is_empty.ensures) in
    let last = c.requires.samples (length c.args.to.now - 1) (omega (arith, some)) in
    let lane = c.requires.valid.lanes c.args.lane c.requires.there in
    let long = length_list s c.args.lane c.requires.valid c.requires.there in
    omega (arith, some, last.written, long, lane.upto, lane.framed, lane.shaped, at.history, at.len)

pub returns-clause-samples : goal.returns-clause-samples
returns-clause-samples c k l =
    let s : Solo = c.args.self.now in
    let i : ℕ = c.args.lane in
    let n : ℕ = length c.args.to.now in
    let at = reached s i c.index-self-i.result c.requires.valid c.requires.there in
    let x : BegunLane = found s i c.index-self-i.result in
    let h : ℕ = x.shape.history in
    let ring : List ℤ = from_start (first_at (shapes_in s) (origins_in s) i) (part (lengths_in s) i (cells_in s)) in
    let upto : ℕ = history_at (shapes_in s) i + slice_index (written_in s) i in
    let sample = c.requires.samples k l in
    let one : ℕ = history_at (shapes_in s) i + (c.args.index + k) - c.args.back in
    let there : one < upto = omega (arith, sample.written, sample.not_before, length-take upto ring) in
    let first = (c.requires.samples 0 (omega (arith, l))).not_before in
    let place : h + c.args.index - c.args.back + k ≡ one = omega (arith, at.history, first) in
    ap (λ (xs : List ℤ). get_or xs k (pos 0)) c.get_many.ensures.samples
    ∙ get_or-take n (drop (h + c.args.index - c.args.back) (from_start (x.origin - h) (cells_found s x))) k (pos 0) l
    ∙ get_or-drop (h + c.args.index - c.args.back) (from_start (x.origin - h) (cells_found s x)) k (pos 0)
    ∙ ap₂ (λ (o : ℕ) (xs : List ℤ). get_or (from_start o xs) (h + c.args.index - c.args.back + k) (pos 0)) (sym at.first) at.cells
    ∙ ap (λ (m : ℕ). get_or ring m (pos 0)) place
    ∙ sym (get_or-take upto ring one (pos 0) there)
