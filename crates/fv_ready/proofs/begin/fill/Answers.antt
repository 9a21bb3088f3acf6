use Rattle.std.proofs.Common.{Some, vec_len, sym, ◌∙◌, refl, subst, arith, slice_set}
use Rattle.fv_ready.proofs.lemmas.Moving.{Moved, moved_start, moved_one}
use Rattle.fv_ready.proofs.begin.fill.Goals as goal

pub loop-parcel-init : goal.loop-parcel-init
loop-parcel-init g c = (
  moved_start c.args.entries.now.items (vec_len c.args.slots.now) c.args.slots.now.items
      (omega (arith, c.requires.room, c.args.entries.now.ok.0)) c.requires.none,
  refl,
  refl,
  c.requires.room,
)

pub loop-parcel-preserved : goal.loop-parcel-preserved
loop-parcel-preserved g c = (
  subst (λ k. Moved c.args.entries.now.items c.pop.new.self.items (vec_len c.args.slots.now)
      (slice_set c.loop-parcel.slots.items k (Some c.in-Some.parcel))) (sym (c.len-place.ensures ∙ c.pop.new.self.ok.0))
      (moved_one c.args.entries.now.items c.loop-parcel.entries.items c.pop.new.self.items (vec_len c.args.slots.now)
      c.loop-parcel.slots.items c.in-Some.parcel c.loop-parcel.invariant.0 c.in-Some.ensures.items),
  c.pop.ensures.capacity ∙ c.loop-parcel.invariant.1,
  c.loop-parcel.invariant.2,
  omega (arith, c.in-Some.ensures.len, c.loop-parcel.invariant.3),
)
