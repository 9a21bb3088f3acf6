use Rattle.std.proofs.Common.{◌≡◌, ◌+◌, length, drop, ap, ◌∙◌, arith}
use Rattle.std.specs.Prelude.{slice_range}
use Rattle.fv_components.specs.Reach.{next_of}
use Rattle.fv_components.specs.Packed.{end_of}
use Rattle.fv_components.proofs.Packs.{IsRow, starts_of, row_read}
use Rattle.fv_components.proofs.packed.Rows.row.Goals as goal

pub index-requires : goal.index-requires
index-requires c = let l = starts_of c.self.inside.starts.items c.self.inside.numbers.items c.args.self.now c.args.i c.self.view_is c.requires in omega arith

pub overflow_add-i : goal.overflow_add-i
overflow_add-i c = let l = starts_of c.self.inside.starts.items c.self.inside.numbers.items c.args.self.now c.args.i c.self.view_is c.requires in omega arith

read : (c : goal.After-deref-2) → IsRow c.self.inside.starts.items c.self.inside.numbers.items c.args.i c.index.result.now c.end_of-end.result
read c =
    let starts = c.self.inside.starts.items in
    let numbers = c.self.inside.numbers.items in
    let all : c.len.result ≡ length numbers = omega arith in
    let there = starts_of starts numbers c.args.self.now c.args.i c.self.view_is c.requires in
    row_read starts numbers c.args.i c.index.result.now c.end_of-end.result c.self.invariant there c.index.ensures (c.end_of-end.ensures
    ∙ ap (λ xs. end_of (drop (c.args.i + 1) xs) c.len.result) c.deref.ensures.value ∙ ap (end_of (drop (c.args.i + 1) starts)) all)

pub offset_bounds-deref-start : goal.offset_bounds-deref-start
offset_bounds-deref-start c = let r = read c in omega arith

pub slice_bounds-result-count : goal.slice_bounds-result-count
slice_bounds-result-count c = (read c).rises

pub slice_bounds-result-start : goal.slice_bounds-result-start
slice_bounds-result-start c = let r = read c in omega arith

pub slice_bounds-result-end : goal.slice_bounds-result-end
slice_bounds-result-end c = let r = read c in omega arith

pub returns : goal.returns
returns c =
    let starts = c.self.inside.starts.items in
    let numbers = c.self.inside.numbers.items in
    let all : c.len.result ≡ length numbers = omega arith in
    let there = starts_of starts numbers c.args.self.now c.args.i c.self.view_is c.requires in
    let row = row_read starts numbers c.args.i c.index.result.now c.end_of-end.result c.self.invariant there c.index.ensures (c.end_of-end.ensures
    ∙ ap (λ xs. end_of (drop (c.args.i + 1) xs) c.len.result) c.deref.ensures.value ∙ ap (end_of (drop (c.args.i + 1) starts)) all) in
    ap (λ xs. slice_range xs c.index.result.now c.end_of-end.result) c.deref-2.ensures.value ∙ row.is ∙ ap (λ rows. next_of rows c.args.i) c.self.view_is
