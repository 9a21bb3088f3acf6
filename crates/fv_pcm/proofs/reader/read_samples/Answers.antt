use Rattle.std.proofs.Common.{◌≡◌, ◌*◌, ◌/◌, ◌++◌, length, sym, ap, ◌∙◌, arith, take, ℕ, List, take_all, refl}
use Rattle.std.proofs.lemmas.List.{length-take-le}
use Rattle.fv_base.specs.declared.role.Role.TheVariants.{Input}
use Rattle.fv_outside.proofs.lemmas.States.{front_is}
use Rattle.fv_pcm.proofs.lemmas.Samples.{samples_first}
use Rattle.fv_pcm.proofs.reader.read_samples.Goals as goal

pub returns-then-n-bytes-clause-read : goal.returns-then-n-bytes-clause-read
returns-then-n-bytes-clause-read g c =
    let filled = c.in_ok-n.ensures in
    let n : length c.fill.new.to ≡ length c.args.to.now * (c.args.bits / 8) = c.fill.auto.to ∙ c.requires.room in
    record {
      bytes = take c.in_ok-n.n c.fill.new.to;
      long = length-take-le c.in_ok-n.n c.fill.new.to filled.count;
      takes = filled.taken;
      steady = filled.steady;
      whole = λ e t. absurd (omega (arith, e, n));
      short = λ l t. filled.end (omega (arith, l, n)) t;
    }

pub returns-clause-read : goal.returns-clause-read
returns-clause-read g c =
    let left = (g.D.Desk.state c.args.desk.now).left Input in
    let filled = c.in_ok-n.ensures in
    let n : length c.fill.new.to ≡ length c.args.to.now * (c.args.bits / 8) = c.fill.auto.to ∙ c.requires.room in
    let m : length c.decode.new.to ≡ length c.args.to.now = c.decode.auto.to in
    let all : take c.in_ok-n.n c.fill.new.to ≡ c.fill.new.to = take_all c.in_ok-n.n c.fill.new.to (omega (arith, filled.count)) in
    let long : length c.fill.new.to ≡ length c.decode.new.to * (c.args.bits / 8) = n ∙ ap (λ (k : ℕ). k * (c.args.bits / 8)) (sym m) in
    record {
      bytes = take c.in_ok-n.n c.fill.new.to;
      long = length-take-le c.in_ok-n.n c.fill.new.to filled.count;
      takes = filled.taken;
      steady = filled.steady;
      whole = λ e t.
          let rest = (g.D.Desk.state c.fill.new.desk).left Input in
          let split = filled.taken.taken t ∙ ap (λ (xs : List ℕ). xs ++ rest) all in
          let front = front_is left c.fill.new.to rest (length c.fill.new.to) split refl in
          c.decode.ensures ∙ samples_first c.args.coding c.args.bits (length c.decode.new.to) c.fill.new.to left c.requires.bits
          (front.0 ∙ ap (λ (k : ℕ). take k left) long);
      short = λ l t. absurd (omega (arith, l, long));
    }
