use Rattle.std.proofs.Common.{◌≡◌, ◌+◌, ◌-◌, ◌*◌, ◌≤◌, length, take, drop, ◌∙◌, ap, arith}
use Rattle.std.proofs.Math.Nat.{mul-le-mul_left}
use Rattle.fv_num.proofs.lemmas.Parts.{part_is}
use Rattle.test_diagrams.proofs.player.frame_of.Goals as goal

pub returns : goal.returns
returns c =
    let i = c.args.i in
    let w = c.args.width in
    let xs = c.args.samples.now in
    let next : i + 1 ≤ c.args.frames = let h = c.requires.there in omega arith in
    let within : i * w + w ≤ length xs = let long = c.requires.samples in omega (arith, mul-le-mul_left w next) in
    let wide : (i + 1) * w - i * w ≡ w = omega arith in
    ap (λ k. take k (drop (i * w) xs)) wide ∙ part_is xs (i * w) w within
