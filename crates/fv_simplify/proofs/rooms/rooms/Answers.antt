use Rattle.std.proofs.Common.{◌≡◌, ◌+◌, ◌<◌, ℕ, length, get_or, sym, ap, ◌∙◌, subst, arith, pos, false, Vec, Global}
use Rattle.std.specs.Prelude.{Option}
use Rattle.std.proofs.lemmas.List.{with_items_is}
use Rattle.fv_signal.specs.declared.signal.Signal.TheVariants.{Const}
use Rattle.fv_signal.specs.headline.Value.{OperandsBelow}
use Rattle.fv_simplify.specs.Nodes.{node}
use Rattle.fv_simplify.specs.Rebuilt.{IsRoom}
use Rattle.fv_simplify.specs.Passing.{room_in}
use Rattle.fv_simplify.specs.inner.Rooms.{rooms_after}
use Rattle.fv_simplify.proofs.RoomLemmas.{Before, same_rooms, next_rooms, all_rooms}
use Rattle.fv_simplify.proofs.rooms.rooms.Goals as goal
use Rattle.fv_simplify.proofs.rooms.rooms.Goals.{then-marks-place, else-marks-place}

pub loop-place-preserved : goal.loop-place-preserved
loop-place-preserved c =
    let at = c.loop-place in
    let g = c.args.graph.now in
    let marks = c.args.marks.now in
    let here : at.place < length g.signals = omega arith in
    let long = at.invariant.long in
    elim c.if-marks-place.branch [
      | then-marks-place w ↦
          let items : c.if-marks-place.rooms.items ≡ w.note.new.rooms =
          ap (λ (v : Vec (Option ℕ) Global). v.items) w.rooms-is ∙ with_items_is at.rooms w.note.new.rooms (w.note.ensures.long ∙ w.deref_mut.ensures.len) in
          let are : c.if-marks-place.rooms.items ≡ rooms_after g at.rooms.items (node g at.place) =
          items ∙ w.note.ensures.rooms
          ∙ ap (λ rs. rooms_after g rs (node g w.new.result)) w.deref_mut.ensures.value ∙ ap (λ k. rooms_after g at.rooms.items (node g k)) w.new.ensures in
          let made = next_rooms g marks at.place here at.rooms.items w.if-marks-place.true
          (λ x d most e. let below = subst (OperandsBelow g at.place) e (c.requires.graph.ordered at.place (Const (pos 0)) here) in
          let first = below.0 in omega (arith, first, here, long))
          at.invariant.are in
          record {
            long = ap length items ∙ w.note.ensures.long ∙ ap length w.deref_mut.ensures.value ∙ long;
            are = subst (λ rs. IsRoom g (Before marks (at.place + 1)) (room_in rs)) (sym are) made;
          }
      | else-marks-place w ↦
          record {
            long = ap (λ (v : Vec (Option ℕ) Global). length v.items) w.rooms-is ∙ long;
            are = subst (λ (v : Vec (Option ℕ) Global). IsRoom g (Before marks (at.place + 1)) (room_in v.items)) (sym w.rooms-is)
                (same_rooms g marks at.place here (room_in at.rooms.items)
                (λ x d most m e. let no : get_or marks at.place false ≡ false = w.if-marks-place.false in let both = sym m ∙ no in absurd cc) at.invariant.are);
          }
    ]

pub returns : goal.returns
returns c =
    let at = c.loop-place in
    let g = c.args.graph.now in
    let all : at.place ≡ length g.signals = omega arith in
    all_rooms g c.args.marks.now (room_in at.rooms.items)
    (subst (λ n. IsRoom g (Before c.args.marks.now n) (room_in at.rooms.items)) all at.invariant.are)
