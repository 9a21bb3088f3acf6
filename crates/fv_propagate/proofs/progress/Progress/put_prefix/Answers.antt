use Rattle.std.proofs.Common.{ℕ, [], ◌∷◌, ap, ◌∙◌, arith, pos}
use Rattle.std.proofs.lemmas.List.Elements.{All-cons, All-nil}
use Rattle.fv_num.specs.declared.op.Op.TheVariants.{Select2}
use Rattle.fv_signal.specs.declared.signal.Signal.TheVariants.{Const, Point}
use Rattle.fv_propagate.specs.inner.Progress.{Progress, put, put_mem, IsThere}
use Rattle.fv_propagate.proofs.Kept.{grown_put, grown_mem}
use Rattle.fv_propagate.proofs.progress.Progress.put_prefix.Goals as goal

pub put_mem-requires : goal.put_mem-requires
put_mem-requires c = (grown_put c.args.self.now c.put.new.self (Const (pos 1)) c.in_ok-one.one c.in_ok-one.ensures).there

pub put_mem-requires-2 : goal.put_mem-requires-2
put_mem-requires-2 c =
    let first = grown_put c.args.self.now c.put.new.self (Const (pos 1)) c.in_ok-one.one c.in_ok-one.ensures in
    let second = grown_mem c.put.new.self c.put_mem.new.self c.in_ok-one.one c.in_ok-begun.begun c.in_ok-begun.ensures in
    let y = c.requires.y in
    omega (arith, first.longer, second.longer, y)

pub put-requires-2-clause-can : goal.put-requires-2-clause-can
put-requires-2-clause-can c =
    let first = grown_put c.args.self.now c.put.new.self (Const (pos 1)) c.in_ok-one.one c.in_ok-one.ensures in
    let second = grown_mem c.put.new.self c.put_mem.new.self c.in_ok-one.one c.in_ok-begun.begun c.in_ok-begun.ensures in
    let third = grown_mem c.put_mem.new.self c.put_mem-2.new.self c.args.y c.in_ok-late.late c.in_ok-late.ensures in
    let P : ℕ → Type 0 = IsThere c.put_mem-2.new.self in
    let x : P c.args.x = omega (arith, first.longer, second.longer, third.longer, c.requires.x) in
    let begun : P c.in_ok-begun.begun = omega (arith, second.there, third.longer) in
    let b = c.in_ok-begun.begun in
    let l = c.in_ok-late.late in record {
      operands = All-cons P b (c.args.x ∷ l ∷ b ∷ []) begun
          (All-cons P c.args.x (l ∷ b ∷ []) x (All-cons P l (b ∷ []) third.there (All-cons P b [] begun (All-nil P))));
      names = tt;
    }

pub returns : goal.returns
returns c =
    let x = c.args.x in
    let y = c.args.y in
    c.in_ok-id.ensures ∙ ap (λ (l : ℕ × Progress). put l.1 (Point Select2 (c.in_ok-begun.begun ∷ x ∷ l.0 ∷ c.in_ok-begun.begun ∷ []))) c.in_ok-late.ensures
    ∙ ap (λ (b : ℕ × Progress). let l = put_mem b.1 y in put l.1 (Point Select2 (b.0 ∷ x ∷ l.0 ∷ b.0 ∷ []))) c.in_ok-begun.ensures
    ∙ ap (λ (o : ℕ × Progress). let b = put_mem o.1 o.0 in let l = put_mem b.1 y in put l.1 (Point Select2 (b.0 ∷ x ∷ l.0 ∷ b.0 ∷ []))) c.in_ok-one.ensures
