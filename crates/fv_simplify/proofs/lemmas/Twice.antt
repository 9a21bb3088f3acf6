-- Two rebuildings make a graph that can not be made simpler.
use Rattle.std.proofs.Common.{◌≡◌, ℕ, length, ap, ◌∙◌, arith}
use Rattle.std.specs.Prelude.{Option}
use Rattle.std.proofs.lemmas.List.{length-map}
use Rattle.fv_signal.specs.headline.Value.{Graph, IsGraph}
use Rattle.fv_simplify.specs.Reducible.{IsSimpler}
use Rattle.fv_simplify.specs.Rebuilt.{IsRebuilt, IsRoom, RoomIsSafe}
use Rattle.fv_simplify.specs.Simpler.{no_room}
use Rattle.fv_simplify.proofs.Values.{same_outputs}
use Rattle.fv_simplify.proofs.Stays.{inputs_kept, controls_kept, within_kept}
use Rattle.fv_simplify.proofs.lemmas.Reaches.{short_kept, reach_kept}
use Rattle.fv_simplify.proofs.lemmas.Chains.{folded, no_more}

safe_none : (g : Graph) (P : ℕ → Type 0) → RoomIsSafe g P no_room
safe_none g P x q s d most e a o = absurd cc

pub simpler : (g f h : Graph) (p q : ℕ → ℕ) (room : ℕ → Option ℕ) (P Q : ℕ → Type 0) → IsGraph g → IsRebuilt g f p no_room P → IsRebuilt f h q room Q
    → IsRoom f Q room → IsSimpler g h
simpler g f h p q room P Q whole a b r =
    let once = a.graph in
    let wide : length f.outputs ≡ length g.outputs = ap length a.outputs ∙ length-map g.outputs p in
    let safe = safe_none g P in
    record {
      width = ap length b.outputs ∙ length-map f.outputs q ∙ wide;
      values = λ X c small j t l. same_outputs f h q room Q once b X c small j t (omega (arith, l, wide))
          ∙ same_outputs g f p no_room P whole a X c small j t l;
      done = no_more f h q room Q once b (folded g f p no_room P whole a Q) r;
      reach = let x = reach_kept f h q room Q once b r.safe in let y = reach_kept g f p no_room P whole a safe in omega (arith, x, y);
      within = λ X c small stays. within_kept f h q room Q once b X c small (within_kept g f p no_room P whole a X c small stays);
      short = λ s. short_kept f h q room Q once b r.safe (short_kept g f p no_room P whole a safe s);
      inputs = λ s k i. let x = inputs_kept f h q room Q once b s k i in inputs_kept g f p no_room P whole a x.0 k x.1;
      tables = b.tables ∙ a.tables;
      controls = λ s k i. let x = controls_kept f h q room Q once b s k i in controls_kept g f p no_room P whole a x.0 k x.1;
    }
