use Rattle.std.proofs.Common.{◌≡◌, ◌+◌, ◌-◌, ◌++◌, ℕ, ℤ, List, length, take, drop, ap, ap₂, ◌∙◌, arith}
use Rattle.std.proofs.lemmas.Bool.{cases_lt}
use Rattle.std.proofs.lemmas.List.{drop-drop, take_all, length-drop}
use mathlib.Core.Logic.{inl, inr}
use borrow.Rule.Slice.PartMut.{put_mid}
use Rattle.fv_lines.specs.Hold.{from_start}
use Rattle.fv_lines.proofs.Pieces.{MayWrite, written, written_two, first_is, at_of}
use Rattle.fv_lines.proofs.lemmas.Parts.{replaced}
use Rattle.fv_lines.proofs.flat.put_many.Goals as goal

pub returns-clause-list : goal.returns-clause-list
returns-clause-list c =
    let cells : List ℤ = c.args.cells.now in
    let values : List ℤ = c.args.values.now in
    let h : ℕ = c.args.shape.now.history in
    let s : ℕ = c.args.origin - h in
    let cell : ℕ = c.cell-first.result in
    let b : ℕ = c.min-before.result in
    let size : length cells ≡ c.args.shape.now.len = c.requires.begun.0 in
    let placed = c.requires.begun.1 in
    let sum : c.args.origin + c.args.index ≡ s + (h + c.args.index) = omega (arith, placed.behind) in
    let may : MayWrite cells values s (h + c.args.index) cell b = record {
      inside = elim (cases_lt 16 h) [
        | inl large ↦ omega (arith, placed.ring large, placed.behind, size)
        | inr small ↦ omega (arith, placed.copied small)
      ];
      fits = omega (arith, c.requires.room, size);
      at = at_of h (length cells) s (h + c.args.index) (c.args.origin + c.args.index) cell sum
          (λ small. (c.cell-first.ensures.copied small, omega (arith, c.requires.room, placed.copied small, size)))
          (λ large. elim (c.cell-first.ensures.ring large) [ inl p ↦ inl (p.0, omega (arith, p.1, size)) | inr p ↦ inr (omega (arith, p, size)) ]);
      cut = first_is (length values) (length cells - cell) b c.min-before.ensures;
    } in
    let one : c.copy_from_slice.new.self ≡ take b values = c.copy_from_slice.ensures.after in
    let two : c.copy_if_some.new.to ≡ drop b values =
    c.copy_if_some.ensures ∙ take_all (length values - b) (drop b values) (omega (arith, length-drop b values)) in
    let until : cell + (cell + b - cell) ≡ cell + b = omega arith in
    let once : put_mid cell (cell + b - cell) cells c.copy_from_slice.new.self ≡ replaced cells cell (cell + b) (take b values) =
    ap₂ (λ (xs r : List ℤ). take cell cells ++ (xs ++ r)) one (drop-drop (cell + b - cell) cell cells ∙ ap (λ (k : ℕ). drop k cells) until) in
    let new : c.copy_if_some.new.to ++ drop (length values - b) (put_mid cell (cell + b - cell) cells c.copy_from_slice.new.self)
    ≡ written cells values cell b =
    ap₂ (λ (xs r : List ℤ). xs ++ drop (length values - b) r) two once in
    ap (λ (xs : List ℤ). take (h + c.args.index + length values) (from_start s xs)) new ∙ written_two cells values s (h + c.args.index) cell b may
