-- Two rebuildings, with a graph between them in which equal signals are read as one, make a graph that can not be made simpler.
use Rattle.std.proofs.Common.{◌≡◌, ℕ, length, ap, ◌∙◌, arith}
use Rattle.std.proofs.lemmas.List.{length-map}
use Rattle.fv_signal.specs.headline.Value.{Graph}
use Rattle.fv_simplify.specs.Reducible.{IsSimpler}
use Rattle.fv_simplify.specs.Rebuilt.{IsMarked, RoomIsSafe}
use Rattle.fv_simplify.specs.Simpler.{no_room}
use Rattle.fv_simplify.proofs.Values.{same_outputs}
use Rattle.fv_simplify.proofs.Stays.{inputs_kept, controls_kept, within_kept}
use Rattle.fv_simplify.proofs.lemmas.Reaches.{short_kept, reach_kept}
use Rattle.fv_simplify.proofs.lemmas.Chains.{folded, no_more}
use Rattle.fv_simplify.specs.Kept.{KeepsAll}
use Rattle.fv_simplify.specs.inner.Once.{Folds, Joins}

safe_none : (g : Graph) (P : ℕ → Type 0) → RoomIsSafe g P no_room
safe_none g P x q s d most e a o = absurd cc

pub simpler_through : (g f e h : Graph) → Folds g f → KeepsAll f e → Joins e h → IsSimpler g h
simpler_through g f e h a k b =
    let p = a.images in let q = b.images in let P = IsMarked a.marks in let Q = IsMarked b.marks in
    let wide : length f.outputs ≡ length g.outputs = ap length a.rebuilt.outputs ∙ length-map g.outputs p in
    let wide_e : length e.outputs ≡ length g.outputs = k.width ∙ wide in
    let safe = safe_none g P in
    record {
      width = ap length b.rebuilt.outputs ∙ length-map e.outputs q ∙ wide_e;
      values = λ X c small j t l. same_outputs e h q b.rooms Q k.graph b.rebuilt X c small j t (omega (arith, l, wide_e))
          ∙ k.values X c j t (omega (arith, l, wide)) ∙ same_outputs g f p no_room P a.graph a.rebuilt X c small j t l;
      done = no_more e h q b.rooms Q k.graph b.rebuilt (k.folded b.marks (folded g f p no_room P a.graph a.rebuilt Q)) b.joined;
      reach =
          let x = reach_kept e h q b.rooms Q k.graph b.rebuilt b.joined.safe in
          let y = reach_kept g f p no_room P a.graph a.rebuilt safe in
          let z = k.reach in omega (arith, x, y, z);
      within = λ X c small stays. within_kept e h q b.rooms Q k.graph b.rebuilt X c small
          (k.within X c (within_kept g f p no_room P a.graph a.rebuilt X c small stays));
      short = λ s. short_kept e h q b.rooms Q k.graph b.rebuilt b.joined.safe (k.short (short_kept g f p no_room P a.graph a.rebuilt safe s));
      inputs = λ s n i. let x = inputs_kept e h q b.rooms Q k.graph b.rebuilt s n i in
          inputs_kept g f p no_room P a.graph a.rebuilt x.0 n (k.inputs x.0 n x.1);
      tables = b.rebuilt.tables ∙ k.tables ∙ a.rebuilt.tables;
      controls = λ s n i. let x = controls_kept e h q b.rooms Q k.graph b.rebuilt s n i in
          controls_kept g f p no_room P a.graph a.rebuilt x.0 n (k.controls x.0 n x.1);
    }
