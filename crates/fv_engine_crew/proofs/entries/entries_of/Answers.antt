use Rattle.std.proofs.Common.{◌≡◌, ℕ, List, [], ◌∷◌, ◌++◌, length, sym, ap, ◌∙◌, subst, append_assoc, arith}
use Rattle.std.specs.Global.{Box}
use Rattle.std.specs.Vec.Iter.{into_iter_items}
use Rattle.std.proofs.lemmas.List.{length_push}
use Rattle.fv_engine_crew.specs.declared.start.Start.{Start}
use Rattle.fv_engine_crew.specs.declared.content.Writers.{Writers}
use Rattle.fv_engine_crew.specs.declared.parcel.LoopParcel.{LoopParcel}
use Rattle.fv_steal.specs.Parcels.{AreParcelsFrom}
use Rattle.fv_engine_crew.specs.Entries.{AreEntered}
use Rattle.fv_engine_crew.proofs.Entering.{entered_next, parcels_push}
use Rattle.fv_engine_crew.proofs.entries.entries_of.Goals as goal

pub new-requires : goal.new-requires
new-requires c =
    let at = c.loop-one in
    let one : Box Writers = c.in-Some.one in
    let whole = ap (λ (xs : List (Box Writers)). at.yielded ++ xs) (sym c.in-Some.ensures.steps.0) ∙ at.invariant.all
    ∙ c.into_iter-one-iterator.ensures.into_iter_gives.0 in
    let edge : c.len-edge.result ≡ length at.yielded = omega (arith, c.len-edge.ensures, at.invariant.entries.count) in
    entered_next c.args.start.now at.yielded (into_iter_items c.next.new.self) one c.len-edge.result edge
    (subst (AreEntered c.args.start.now) (sym whole) c.requires.entered)

pub loop-one-preserved : goal.loop-one-preserved
loop-one-preserved c =
    let at = c.loop-one in
    let one : Box Writers = c.in-Some.one in
    let k : Start = c.args.start.now in
    let steps : into_iter_items at.one-iterator ≡ one ∷ into_iter_items c.next.new.self = c.in-Some.ensures.steps.0 in
    let whole = ap (λ (xs : List (Box Writers)). at.yielded ++ xs) (sym steps) ∙ at.invariant.all in
    let edge : c.len-edge.result ≡ length at.yielded = omega (arith, c.len-edge.ensures, at.invariant.entries.count) in
    let pushed = parcels_push k (length at.yielded) at.entries.items c.new.result (c.new.ensures.0 ∙ edge) c.new.ensures.1 at.invariant.entries in
    record {
      all = append_assoc at.yielded (one ∷ []) _ ∙ whole;
      entries = subst (λ (ps : List LoopParcel). AreParcelsFrom (λ (q : LoopParcel). q.edge) (λ (q : LoopParcel). q.start.value) k 0
          (length (at.yielded ++ one ∷ [])) ps) (sym c.push_reserved.ensures.items)
          (subst (λ (n : ℕ). AreParcelsFrom (λ (q : LoopParcel). q.edge) (λ (q : LoopParcel). q.start.value) k 0 n
          (at.entries.items ++ c.new.result ∷ [])) (sym (length_push at.yielded one)) pushed);
      long = let was = at.invariant.long in let gone = c.in-Some.ensures.steps.1 in let short = ap length steps in omega arith;
      room = omega (arith, c.push_reserved.ensures.capacity, at.invariant.room);
    }
