use Rattle.std.proofs.Common.{◌≡◌, ℕ, ◌+◌, ◌-◌, ◌*◌, ◌/◌, length, take, drop, ap, ◌∙◌, arith}
use Rattle.fv_pcm.proofs.lemmas.Samples.{samples_first}
use Rattle.fv_pcm.specs.Coded.{samples_in}
use Rattle.fv_file_tape.proofs.samples.decode_behind.Goals as goal

pub returns : goal.returns
returns c =
    let i = c.args.input.now in
    let n = length c.decode.new.to in
    let m : n ≡ length c.args.to.now = c.decode.auto.to in
    let start = c.args.frames * c.frame_size.result in
    let bytes = c.args.bytes.now in
    let size = i.bits / 8 in
    let wide : n * size ≡ length c.args.to.now * size = ap (λ (k : ℕ). k * size) m in
    let cut : (start + length c.args.to.now * size) - start ≡ n * size = omega (arith, wide) in
    c.decode.ensures ∙ samples_first i.coding i.bits n _ (drop start bytes) c.requires.input.bits (ap (λ (k : ℕ). take k (drop start bytes)) cut)
    ∙ ap (λ (k : ℕ). samples_in i.coding i.bits n (drop (c.args.frames * k) bytes)) c.frame_size.ensures.size
