use Rattle.std.proofs.Common.{◌≡◌, ◌∙◌, ◌+◌, ◌-◌, ◌*◌, ◌/◌, ◌≤◌, ◌++◌, ℤ, ℕ, List, sym, ap, arith, rules, length}
use Rattle.std.proofs.Common.{take, drop, get_or, pos, length-append, w32, SFits, to_z, of_z}
use Rattle.std.specs.Prelude.{flat_map}
use borrow.Rule.Slice.PartMut.{put_mid}
use Rattle.std.proofs.lemmas.List.{take_at}
use Rattle.std.proofs.lemmas.Int.{to_z-of_z}
use Rattle.std.proofs.Math.Nat.{mul-le-mul_right}
use Rattle.fv_pcm.specs.headline.Coded.{sample_bytes}
use Rattle.fv_outside.proofs.lemmas.States.{part_front}
use Rattle.fv_pcm.proofs.lemmas.Samples.{length_sample, sample_more}
use Rattle.fv_pcm.proofs.encoder.encode_all.Goals as goal

pub loop-i-preserved : goal.loop-i-preserved
loop-i-preserved c =
    let i = c.loop-i.i in
    let bits = c.args.bits in
    let k = bits / 8 in
    let f : SFits w32 c.number_at.result = search rules in
    let x = get_or c.args.samples.now i (pos 0) in
    let passed : to_z w32 (of_z w32 c.number_at.result) ≡ x = to_z-of_z w32 c.number_at.result f ∙ c.number_at.ensures in
    let rest = drop k (take (length c.loop-i.bytes - i * k) (drop (i * k) c.loop-i.bytes)) in
    let to : c.put_sample.new.to ≡ sample_bytes c.args.coding bits x ++ rest =
    c.put_sample.ensures ∙ ap (λ (y : ℤ). sample_bytes c.args.coding bits y ++ rest) passed in
    let long : length (sample_bytes c.args.coding bits x) ≡ k = length_sample c.args.coding bits x c.requires.bits in
    let room : k ≤ length c.put_sample.new.to = omega (arith, ap length to, length-append (sample_bytes c.args.coding bits x) rest, long) in
    let few : i * k ≤ length c.args.samples.now * k = mul-le-mul_right k (let h = c.loop-i-test.true in omega arith) in
    let start : i * k ≤ length c.loop-i.bytes = let e = c.loop-i.auto.bytes in let r = c.requires.room in omega arith in
    let at : (i + 1) * k ≡ i * k + k = omega arith in
    ap (λ (n : ℕ). take n (put_mid (i * k) (length c.loop-i.bytes - i * k) c.loop-i.bytes c.put_sample.new.to)) at
    ∙ part_front c.loop-i.bytes c.put_sample.new.to (i * k) k (length c.loop-i.bytes - i * k) start room
    ∙ ap (λ (w : List ℕ). w ++ take k c.put_sample.new.to) c.loop-i.invariant
    ∙ ap (λ (w : List ℕ). flat_map (sample_bytes c.args.coding bits) (take i c.args.samples.now) ++ w)
    (ap (take k) to ∙ take_at (sample_bytes c.args.coding bits x) rest k long)
    ∙ sym (sample_more c.args.coding bits i c.args.samples.now (pos 0) c.loop-i-test.true)
