use Rattle.std.proofs.Common.{◌≡◌, ◌++◌, List, [], ◌∷◌, drop, refl, sym, ap, subst, ◌∙◌, arith, ℤ}
use Rattle.std.specs.List.{flat_map}
use base.Fml.{GName}
use Rattle.fv_pool.specs.declared.loan.Halves.{Halves}
use Rattle.fv_lines.specs.Hold.{held, Holds}
use Rattle.fv_lines.specs.Writer.{content_of, outer_of, shape_of, frames_of, written_by, list_of}
use Rattle.fv_lines.specs.declared.writer.LaneWriter.{LaneWriter}
use Rattle.fv_lines.specs.Cut.{IsChain, HoldsEnd}
use Rattle.fv_lines.proofs.Chains.{Popped, chain_pop, contents_pop}
use Rattle.fv_lines.proofs.States.{AreLeft, all_left, one_fewer, last_left}
use Rattle.fv_lines.proofs.lane_ends.end_lanes.Goals as goal

pub loop-writer-init : goal.loop-writer-init
loop-writer-init c = record { left = all_left HoldsEnd c.args.all.items c.args.states.now c.requires.count; names = λ γ h. h; last = refl }

pub close-part-requires : goal.close-part-requires
close-part-requires c =
    last_left HoldsEnd c.args.all.items (λ (w : LaneWriter). written_by w ≡ frames_of w) c.pop.new.self.items c.in-Some.writer c.loop-writer.states
    (subst (λ (ws : List LaneWriter). AreLeft HoldsEnd c.args.all.items ws c.loop-writer.states) c.in-Some.ensures.items c.loop-writer.invariant.left)
    c.requires.full

pub end-ended-requires : goal.end-ended-requires
end-ended-requires c =
    let w : LaneWriter = c.in-Some.writer in
    let γ : GName = c.requires.chain.0 in
    let chain : IsChain γ c.loop-writer.ended.name (c.pop.new.self.items ++ w ∷ []) =
    subst (IsChain γ c.loop-writer.ended.name) c.in-Some.ensures.items (c.loop-writer.invariant.names γ c.requires.chain.1) in
    let p : Popped γ c.loop-writer.ended.name c.pop.new.self.items w = chain_pop c.pop.new.self.items w γ c.loop-writer.ended.name chain in
    (sym c.close-part.ensures.outer.1, sym p.last ∙ sym (ap (λ (h : Halves). h.high) c.close-part.ensures.outer.0))

pub loop-writer-preserved : goal.loop-writer-preserved
loop-writer-preserved c =
    let w : LaneWriter = c.in-Some.writer in
    let ws : List LaneWriter = c.pop.new.self.items in
    let e = c.close-part.ensures in
    let whole : c.end-ended.result.name ≡ (outer_of w).whole = c.end-ended.ensures.0 ∙ ap (λ (h : Halves). h.whole) e.outer.0 in
    let last : c.end-ended.result.last ≡ content_of w ++ c.loop-writer.ended.last =
    c.end-ended.ensures.1 ∙ ap (λ (xs : List ℤ). xs ++ c.loop-writer.ended.last) e.ended.1 in
    record {
      left = one_fewer HoldsEnd c.args.all.items ws w c.loop-writer.states c.len.result c.close-part.result.1 (omega (arith, c.len.ensures, c.pop.new.self.ok))
          (subst (λ (us : List LaneWriter). AreLeft HoldsEnd c.args.all.items us c.loop-writer.states) c.in-Some.ensures.items c.loop-writer.invariant.left)
          (record {
            held_is = subst (λ (xs : List ℤ). held (shape_of w) c.close-part.result.1.start xs ≡ drop (frames_of w) (list_of w)) e.ended.1 e.held;
            holds = subst (λ (xs : List ℤ). Holds (shape_of w) c.close-part.result.1.start xs) e.ended.1 e.holds;
          });
      names = λ γ first.
          let chain : IsChain γ c.loop-writer.ended.name (ws ++ w ∷ []) =
          subst (IsChain γ c.loop-writer.ended.name) c.in-Some.ensures.items (c.loop-writer.invariant.names γ first) in
          subst (λ (δ : GName). IsChain γ δ ws) (sym whole) (chain_pop ws w γ c.loop-writer.ended.name chain).others;
      last = c.loop-writer.invariant.last ∙ ap (λ (xs : List LaneWriter). flat_map content_of xs ++ c.loop-writer.ended.last) c.in-Some.ensures.items
          ∙ contents_pop ws w c.loop-writer.ended.last ∙ ap (λ (xs : List ℤ). flat_map content_of ws ++ xs) (sym last);
    }
