use Rattle.std.proofs.Common.{◌≡◌, ◌+◌, ◌<◌, ◌≤◌, ℕ, length, get_or, sym, ap, ◌∙◌, subst, arith, inl, inr, pos, false, Vec, Global}
use Rattle.std.proofs.lemmas.Bool.{cases_lt}
use Rattle.std.proofs.lemmas.List.{get_or_read, with_items_is}
use Rattle.fv_signal.specs.declared.signal.Signal.TheVariants.{Const}
use Rattle.fv_signal.specs.headline.Value.{NamesWithin}
use Rattle.fv_simplify.specs.Nodes.{node}
use Rattle.fv_simplify.specs.Passing.{HasWidth}
use Rattle.fv_simplify.specs.Runs.{AreNamed}
use Rattle.fv_simplify.proofs.WidthLemmas.{named_more}
use Rattle.fv_simplify.proofs.widths.widths.Goals as goal
use Rattle.fv_simplify.proofs.widths.widths.Goals.{then-marks-place, else-marks-place}

pub loop-place-preserved : goal.loop-place-preserved
loop-place-preserved c =
    let at = c.loop-place in
    let g = c.args.graph.now in
    let marks = c.args.marks.now in
    let here : at.place < length g.signals = omega arith in
    let signal = c.signal-signal.result in
    let is : signal ≡ node g at.place = get_or_read g.signals at.place signal here
    (subst (λ n. signal ≡ get_or g.signals n signal) c.new.ensures c.signal-signal.ensures.node) (Const (pos 0)) in
    let wide : (s : ℕ) → s < at.place + 1 → HasWidth (node g s) = λ s l. elim (cases_lt s at.place) [
      | inl b ↦ at.invariant.wide s b
      | inr b ↦ let same : at.place ≡ s = omega (arith, b, l) in subst HasWidth (is ∙ ap (node g) same) c.has_width.ensures
    ] in
    elim c.if-marks-place.branch [
      | then-marks-place w ↦
          let items : c.if-marks-place.widths.items ≡ w.name.new.widths =
          ap (λ (v : Vec ℕ Global). v.items) w.widths-is ∙ with_items_is at.widths w.name.new.widths (w.name.ensures.long ∙ w.deref_mut.ensures.len) in
          record {
            long = ap length items ∙ w.name.ensures.long ∙ ap length w.deref_mut.ensures.value ∙ at.invariant.long;
            named = subst (λ ws. AreNamed g marks ws (at.place + 1)) (sym items)
                (named_more g marks at.widths.items w.name.new.widths at.place at.invariant.named
                (λ k. subst (λ ws. get_or ws k 0 ≤ get_or w.name.new.widths k 0) w.deref_mut.ensures.value (w.name.ensures.more k))
                (λ m group k e. let there = subst (NamesWithin g) (is ∙ e) c.signal-signal.ensures.names in
                (there.0, w.name.ensures.named group k (is ∙ e), there.1)));
            wide = wide;
          }
      | else-marks-place w ↦
          let items : c.if-marks-place.widths.items ≡ at.widths.items = ap (λ (v : Vec ℕ Global). v.items) w.widths-is in
          record {
            long = ap length items ∙ at.invariant.long;
            named = subst (λ ws. AreNamed g marks ws (at.place + 1)) (sym items)
                (named_more g marks at.widths.items at.widths.items at.place at.invariant.named (λ k. omega arith)
                (λ m group k e. let no : get_or marks at.place false ≡ false = w.if-marks-place.false in let both = sym m ∙ no in absurd cc));
            wide = wide;
          }
    ]
