use Rattle.std.proofs.Common.{◌≡◌, ◌∙◌, ◌-◌, ◌*◌, ◌/◌, ◌<◌, ◌++◌, [], ◌∷◌, ℤ, ℕ, List, sym, ap, arith, rules}
use Rattle.std.proofs.Common.{length, take, drop, length-drop, add-one, w32, SFits, to_z, of_z}
use Rattle.std.proofs.lemmas.List.{take_more_set, take_all}
use Rattle.std.proofs.lemmas.Int.{to_z-of_z}
use Rattle.fv_num.specs.headline.Frames.{table}
use Rattle.fv_pcm.specs.headline.Coded.{sample_of, sample_at}
use Rattle.fv_pcm.proofs.decoder.decode.Goals as goal

pub loop-i-preserved : goal.loop-i-preserved
unfolding sample_at
loop-i-preserved c =
    let i = c.loop-i.i in
    let bytes = c.args.bytes.now in
    let bits = c.args.bits in
    let f : SFits w32 c.sample.result = search rules in
    let passed : to_z w32 (of_z w32 c.sample.result) ≡ c.sample.result = to_z-of_z w32 c.sample.result f in
    let whole : take (length bytes - i * (bits / 8)) (drop (i * (bits / 8)) bytes) ≡ drop (i * (bits / 8)) bytes =
    take_all _ _ (omega (arith, length-drop (i * (bits / 8)) bytes)) in
    let here : to_z w32 (of_z w32 c.sample.result) ≡ sample_of c.args.coding bits (drop (i * (bits / 8)) bytes) =
    passed ∙ c.sample.ensures ∙ ap (sample_of c.args.coding bits) whole in
    let lt : i < length c.loop-i.to = let h = c.loop-i-test.true in let e = c.loop-i.auto.to in omega arith in
    take_more_set c.loop-i.to i (to_z w32 (of_z w32 c.sample.result)) lt
    ∙ ap (λ (x : ℤ). take i c.loop-i.to ++ x ∷ []) here
    ∙ ap (λ (w : List ℤ). w ++ sample_of c.args.coding bits (drop (i * (bits / 8)) bytes) ∷ []) c.loop-i.invariant
    ∙ sym (ap (λ (n : ℕ). table n (sample_at c.args.coding bits bytes)) (add-one i))
