use Rattle.std.proofs.Common.{◌≡◌, ℕ, ◌<◌, [], ◌∷◌, ap, ◌∙◌, arith, pos, w32, FitsSigned, to_z}
use Rattle.std.proofs.lemmas.Int.{ints, to_z_pos}
use Rattle.fv_num.specs.declared.op.Op.TheVariants.{Add, Rem}
use Rattle.fv_signal.specs.declared.signal.Signal.TheVariants.{Const, Point}
use Rattle.fv_diagram.specs.Hooks.{padded}
use Rattle.fv_propagate.specs.inner.Progress.{Progress, put}
use Rattle.fv_propagate.proofs.Kept.{grown_put}
use Rattle.fv_propagate.proofs.progress.Progress.put_next.Goals as goal

-- a count is a number of 32 bits
number_is : (n : ℕ) → FitsSigned w32 (pos n) → to_z w32 n ≡ pos n
number_is n h = let l : n < 2147483648 = omega (arith, ints, h) in to_z_pos w32 n l

many_is : (s p : Progress) (n many : ℕ) → FitsSigned w32 (pos n) → (many, p) ≡ put s (Const (to_z w32 n)) → (many, p) ≡ put s (Const (pos n))
many_is s p n many h e = e ∙ ap (λ z. put s (Const z)) (number_is n h)

pub put_pair-requires-clause-a : goal.put_pair-requires-clause-a
put_pair-requires-clause-a c =
    let first = grown_put c.args.self.now c.put.new.self (Const (pos 1)) c.in_ok-one.one c.in_ok-one.ensures in omega (arith, first.longer, c.requires.x)

pub put_pair-requires-clause-b : goal.put_pair-requires-clause-b
put_pair-requires-clause-b c = (grown_put c.args.self.now c.put.new.self (Const (pos 1)) c.in_ok-one.one c.in_ok-one.ensures).there

pub put_pair-requires-2-clause-a : goal.put_pair-requires-2-clause-a
put_pair-requires-2-clause-a c =
    let add = Point Add (padded (c.args.x ∷ c.in_ok-one.one ∷ [])) in
    let second = grown_put c.put.new.self c.put_pair.new.self add c.in_ok-sum.sum c.in_ok-sum.ensures in
    let third = grown_put c.put_pair.new.self c.put-2.new.self (Const (pos c.args.count)) c.in_ok-many.many
    (many_is c.put_pair.new.self c.put-2.new.self c.args.count c.in_ok-many.many c.requires.counted c.in_ok-many.ensures) in
    omega (arith, second.there, third.longer)

pub put_pair-requires-2-clause-b : goal.put_pair-requires-2-clause-b
put_pair-requires-2-clause-b c = (grown_put c.put_pair.new.self c.put-2.new.self (Const (pos c.args.count)) c.in_ok-many.many
    (many_is c.put_pair.new.self c.put-2.new.self c.args.count c.in_ok-many.many c.requires.counted c.in_ok-many.ensures)).there

pub returns : goal.returns
returns c =
    let x = c.args.x in
    let n = c.args.count in
    let next : Progress → ℕ → ℕ → ℕ × Progress = λ p a b. put p (Point Rem (padded (a ∷ b ∷ []))) in
    c.in_ok-id.ensures ∙ ap (λ (m : ℕ × Progress). next m.1 c.in_ok-sum.sum m.0)
    (many_is c.put_pair.new.self c.put-2.new.self n c.in_ok-many.many c.requires.counted c.in_ok-many.ensures)
    ∙ ap (λ (u : ℕ × Progress). let m = put u.1 (Const (pos n)) in next m.1 u.0 m.0) c.in_ok-sum.ensures
    ∙ ap (λ (o : ℕ × Progress). let u = put o.1 (Point Add (padded (x ∷ o.0 ∷ []))) in let m = put u.1 (Const (pos n)) in next m.1 u.0 m.0) c.in_ok-one.ensures
