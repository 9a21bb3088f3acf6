use Rattle.std.proofs.Common.{rules, ◌≡◌, ◌+◌, ◌-◌, ◌<◌, ◌++◌, ℕ, ℤ, pos, List, length, drop, get_or, ap, ◌∙◌, arith}
use Rattle.std.proofs.lemmas.List.{get_or-take, get_or-drop, length-append}
use Rattle.fv_lines.proofs.seen.Seen.samples.Goals as goal

pub copy_pieces-requires : goal.copy_pieces-requires
copy_pieces-requires c =
    let some : 0 < length c.args.to.now = search (rules, c.if-is_empty.false, c.is_empty.ensures) in
    let first = c.requires.samples 0 some in
    let last = c.requires.samples (length c.args.to.now - 1) (omega (arith, some)) in
    omega (arith, some, first.not_before, last.written, length-append c.args.self.now.older.now c.args.self.now.newer.now)

pub returns-clause-samples : goal.returns-clause-samples
returns-clause-samples c k l =
    let all : List ℤ = c.args.self.now.older.now ++ c.args.self.now.newer.now in
    let first : ℕ = c.from.result + c.args.index - c.args.back in
    let there = (c.requires.samples 0 (omega (arith, l))).not_before in
    let place : first + k ≡ c.args.self.now.history + (c.args.index + k) - c.args.back = omega (arith, there, c.from.ensures) in
    ap (λ (xs : List ℤ). get_or xs k (pos 0)) c.copy_pieces.ensures.samples
    ∙ get_or-take (length c.args.to.now) (drop first all) k (pos 0) l
    ∙ get_or-drop first all k (pos 0)
    ∙ ap (λ (m : ℕ). get_or all m (pos 0)) place
