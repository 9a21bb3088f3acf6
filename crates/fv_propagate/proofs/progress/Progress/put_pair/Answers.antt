use Rattle.std.proofs.Common.{ℕ, [], ◌∷◌}
use Rattle.std.proofs.lemmas.List.Elements.{All-cons, All-nil}
use Rattle.fv_propagate.specs.inner.Progress.{IsThere}
use Rattle.fv_propagate.proofs.progress.Progress.put_pair.Goals as goal

pub put-requires-clause-can : goal.put-requires-clause-can
put-requires-clause-can c =
    let P : ℕ → Type 0 = IsThere c.args.self.now in
    let a = c.args.a in
    let b = c.args.b in
    record {
      operands = All-cons P a (b ∷ a ∷ a ∷ []) c.requires.a
          (All-cons P b (a ∷ a ∷ []) c.requires.b (All-cons P a (a ∷ []) c.requires.a (All-cons P a [] c.requires.a (All-nil P))));
      names = tt;
    }
