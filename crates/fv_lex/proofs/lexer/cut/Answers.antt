use Rattle.std.proofs.Common.{ℕ, ◌+◌, ◌-◌, ◌≤◌, length, sym, ap, ◌∙◌, arith, inr}
use Rattle.fv_lex.proofs.Carrying.{carried_more}
use Rattle.fv_lex.proofs.Loop.{reads_start, reads_end, reads_fault, reads_deep, front_of, found_fits, has_symbol, reads_more, paired_more, few_more}
use Rattle.fv_lex.proofs.Loop.{within_more, behind_none, behind_more, bare_next}
use Rattle.fv_lex.proofs.lexer.cut.Goals as goal

pub loop-symbols-init : goal.loop-symbols-init
loop-symbols-init c = record {
  line = omega arith;
  column = omega arith;
  shallow = omega arith;
  bare = λ more. absurd (omega arith);
  paired = ap length c.new-symbols.ensures.items ∙ sym (ap length c.new-spans.ensures.items);
  few = omega (arith, ap length c.new-spans.ensures.items);
  within = rw c.new-spans.ensures.items (λ k d less. absurd (omega arith));
  carried = rw c.new-symbols.ensures.items (λ i s e. absurd cc);
  behind = behind_none c.args.text.now;
  so_far = rw (c.new-symbols.ensures.items) (reads_start c.args.text.now);
}

pub invariant_of-result : goal.invariant_of-result
invariant_of-result c = record {
  cut = reads_end c.args.text.now
      c.loop-symbols.rest.now c.loop-symbols.place c.loop-symbols.depth _ c.requires c.loop-symbols.invariant.so_far (sym c.in-End.ensures);
  paired = c.loop-symbols.invariant.paired;
  few = omega (arith, c.loop-symbols.invariant.few, c.requires);
  within = c.loop-symbols.invariant.within;
  carried = c.loop-symbols.invariant.carried;
}

pub returns-in-End-clause-tokens : goal.returns-in-End-clause-tokens
returns-in-End-clause-tokens c =
    reads_end c.args.text.now c.loop-symbols.rest.now
    c.loop-symbols.place c.loop-symbols.depth _ c.requires c.loop-symbols.invariant.so_far (sym c.in-End.ensures)

pub returns-in-Refused-clause-refusal : goal.returns-in-Refused-clause-refusal
returns-in-Refused-clause-refusal c =
    rw c.refusal_at.ensures (inr (reads_fault c.args.text.now c.loop-symbols.rest.now
    c.loop-symbols.place c.loop-symbols.depth _ c.in-Refused.fault c.requires c.loop-symbols.invariant.so_far (sym c.in-Refused.ensures)))

pub split_at-requires : goal.split_at-requires
split_at-requires c = found_fits c.loop-symbols.rest.now c.in-Found.count c.in-Found.kind (sym c.in-Found.ensures)

pub returns-then-inside-gt-DEEPEST_NESTING-clause-refusal : goal.returns-then-inside-gt-DEEPEST_NESTING-clause-refusal
returns-then-inside-gt-DEEPEST_NESTING-clause-refusal c =
    let front = front_of c.loop-symbols.rest.now c.split_at.result.0.now c.split_at.result.1.now c.in-Found.count c.in-Found.kind
    (sym c.in-Found.ensures) c.split_at.ensures.front c.split_at.ensures.back in
    rw c.refusal_at-then-inside-gt-DEEPEST_NESTING.ensures
    (inr (reads_deep c.args.text.now c.loop-symbols.rest.now c.split_at.result.0.now c.split_at.result.1.now c.loop-symbols.place
    c.loop-symbols.depth _ c.in-Found.kind c.requires c.loop-symbols.invariant.so_far front (omega (arith, c.depth_after-inside.ensures))))

pub push_piece-requires-clause-token : goal.push_piece-requires-clause-token
push_piece-requires-clause-token c =
    let front = front_of c.loop-symbols.rest.now c.split_at.result.0.now c.split_at.result.1.now c.in-Found.count c.in-Found.kind
    (sym c.in-Found.ensures) c.split_at.ensures.front c.split_at.ensures.back in
    has_symbol c.split_at.result.0.now c.split_at.result.1.now c.in-Found.kind front.piece

pub loop-symbols-smaller : goal.loop-symbols-smaller
loop-symbols-smaller c =
    let front = front_of c.loop-symbols.rest.now c.split_at.result.0.now c.split_at.result.1.now c.in-Found.count c.in-Found.kind
    (sym c.in-Found.ensures) c.split_at.ensures.front c.split_at.ensures.back in
    let some = front.some in
    omega (arith, c.split_at.ensures.front_len, c.split_at.ensures.back_len)

pub loop-symbols-preserved : goal.loop-symbols-preserved
loop-symbols-preserved c =
    let found = sym c.in-Found.ensures in
    let front = front_of c.loop-symbols.rest.now
    c.split_at.result.0.now c.split_at.result.1.now c.in-Found.count c.in-Found.kind found c.split_at.ensures.front c.split_at.ensures.back in
    let some = front.some in
    let fits = found_fits c.loop-symbols.rest.now c.in-Found.count c.in-Found.kind found in
    let start : ℕ = length c.args.text.now - length c.loop-symbols.rest.now in
    let whole = c.loop-symbols.invariant.few in
    let inside : start + length c.split_at.result.0.now ≤ length c.args.text.now = omega (arith, c.split_at.ensures.front_len) in
    record {
      line = omega (arith, c.place_after-place.ensures.near.0, c.split_at.ensures.front_len, c.split_at.ensures.back_len);
      column = omega (arith, c.place_after-place.ensures.near.1, c.split_at.ensures.front_len, c.split_at.ensures.back_len);
      shallow = omega arith;
      bare = rw c.saturating_sub-known.ensures (bare_next c.loop-symbols.rest.now c.split_at.result.1.now
          c.in-Found.count c.bare_underscores-bare.result c.in-Found.kind c.bare_underscores-bare.ensures found c.split_at.ensures.back);
      paired = rw (c.in_ok-push_piece-in-Found.ensures.symbols, c.in_ok-push_piece-in-Found.ensures.spans) (paired_more c.loop-symbols.symbols.items
          c.loop-symbols.spans.items _ c.in-Found.kind c.split_at.result.0.now start c.loop-symbols.place c.loop-symbols.invariant.paired);
      few = rw c.in_ok-push_piece-in-Found.ensures.spans
          (omega (
            arith,
            few_more c.loop-symbols.spans.items c.in-Found.kind c.split_at.result.0.now start c.loop-symbols.place some,
            c.split_at.ensures.front_len,
            c.split_at.ensures.back_len,
          ));
      within = rw c.in_ok-push_piece-in-Found.ensures.spans (within_more c.args.text.now
          c.loop-symbols.spans.items c.in-Found.kind c.split_at.result.0.now start c.loop-symbols.place inside c.loop-symbols.invariant.within);
      carried = rw c.in_ok-push_piece-in-Found.ensures.symbols (carried_more c.loop-symbols.symbols.items
          c.loop-symbols.spans.items _ c.in-Found.kind c.split_at.result.0.now c.loop-symbols.invariant.paired c.loop-symbols.spans.ok.0
          (has_symbol c.split_at.result.0.now c.split_at.result.1.now c.in-Found.kind front.piece) c.loop-symbols.invariant.carried);
      behind = behind_more c.args.text.now
          c.loop-symbols.rest.now c.split_at.result.1.now c.in-Found.count c.loop-symbols.invariant.behind c.split_at.ensures.back (omega arith) fits;
      so_far =
          reads_more c.args.text.now c.loop-symbols.rest.now
          c.split_at.result.0.now c.split_at.result.1.now c.loop-symbols.place c.place_after-place.result c.loop-symbols.depth c.depth_after-inside.result
          c.loop-symbols.symbols.items c.push_piece.new.symbols.items c.loop-symbols.spans.items c.push_piece.new.spans.items c.in-Found.kind _ start
          c.loop-symbols.invariant.so_far front c.depth_after-inside.ensures (omega arith) c.place_after-place.ensures.is c.loop-symbols.invariant.paired
          c.loop-symbols.spans.ok.0 c.loop-symbols.invariant.behind c.in_ok-push_piece-in-Found.ensures.symbols c.in_ok-push_piece-in-Found.ensures.spans;
    }
