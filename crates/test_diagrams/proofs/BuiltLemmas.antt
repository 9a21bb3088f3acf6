-- Each diagram that is put can run.
use Rattle.std.proofs.Common.{◌≡◌, ◌∙◌, ◌⊎◌, ℕ, ◌<◌, max, refl, sym, ap, subst, arith, inl, inr}
use Rattle.std.proofs.lemmas.Bool.{cases_lt, or_from}
use Rattle.std.proofs.lemmas.List.{length_push}
use Rattle.fv_diagram.specs.declared.node.Node.{Node}
use Rattle.fv_diagram.specs.declared.node.Node.TheVariants as node
use Rattle.fv_diagram.specs.headline.Diagram.{Diagram, has_table_primitive}
use Rattle.fv_diagram.specs.Diagram.{control_bound, IsFree}
use Rattle.std.specs.Prelude.{◌||◌, length}
use Rattle.fv_diagram.specs.Composed.{IsComposed}
use Rattle.fv_diagram.proofs.lemmas.Composed.{composed_is_well}
use Rattle.fv_diagram.specs.Arena.{Arena, count_of, with_node, tree_of, tree_with}
use Rattle.fv_arity.specs.Compositions.{HasComposedParts}
use Rattle.test_diagrams.specs.Built.{CanRun, AllCanRun, IsAllowed}

-- two diagrams that can run, put together
of_both : {b c d : Diagram} → CanRun b → CanRun c → IsComposed d → ((s : ℕ) → IsFree s d → IsFree s b ⊎ IsFree s c)
    → control_bound d ≡ max (control_bound b) (control_bound c) → has_table_primitive d ≡ (has_table_primitive b || has_table_primitive c) → CanRun d
of_both {b} {c} {d} x y composed free bound both =
    let plain = both ∙ or_from (has_table_primitive b) (has_table_primitive c) x.plain y.plain in record {
      composed = composed;
      plain = plain;
      well = composed_is_well d composed plain;
      closed = λ s f. elim (free s f) [ inl g ↦ x.closed s g | inr g ↦ y.closed s g ];
      reads = omega (arith, x.reads, y.reads, bound);
    }

node_can_run : (ns : Arena) (n : Node) → AllCanRun ns → IsAllowed (count_of ns) (length ns.lists) n
    → (HasComposedParts (tree_with ns n) → IsComposed (tree_with ns n))
    → CanRun (tree_with ns n)
node_can_run ns (node.Prim p) h a w = record { composed = tt; plain = a; well = a; closed = λ s f. f; reads = omega arith }
node_can_run ns (node.Number n) h a w = record { composed = tt; plain = refl; well = tt; closed = λ s f. f; reads = omega arith }
node_can_run ns (node.Control k) h a w = record { composed = tt; plain = refl; well = tt; closed = λ s f. f; reads = omega arith }
node_can_run ns (node.Slot s) h a w = absurd a
node_can_run ns (node.Wave t) h a w = record { composed = tt; plain = refl; well = tt; closed = λ s f. f; reads = omega arith }
node_can_run ns (node.Table t writes) h a w = record { composed = tt; plain = refl; well = tt; closed = λ s f. f; reads = omega arith }
node_can_run ns (node.Bind s b) h a w =
    let x = h b a in
    let well = composed_is_well (tree_with ns (node.Bind s b)) (w x.composed) x.plain in
    record { composed = w x.composed; plain = x.plain; well = well; closed = λ t f. x.closed t f.0; reads = x.reads }
node_can_run ns (node.Par b c) h a w =
    let x = h b a.0 in let y = h c a.1 in of_both x y (w (x.composed, y.composed)) (λ s f. f) refl refl
node_can_run ns (node.Seq b c) h a w =
    let x = h b a.0 in let y = h c a.1 in of_both x y (w (x.composed, y.composed)) (λ s f. f) refl refl
node_can_run ns (node.Split b c) h a w =
    let x = h b a.0 in let y = h c a.1 in of_both x y (w (x.composed, y.composed)) (λ s f. f) refl refl
node_can_run ns (node.Merge b c) h a w =
    let x = h b a.0 in let y = h c a.1 in of_both x y (w (x.composed, y.composed)) (λ s f. f) refl refl
node_can_run ns (node.Rec b c) h a w =
    let x = h b a.0 in let y = h c a.1 in of_both x y (w (x.composed, y.composed)) (λ s f. f) refl refl

-- one node more
pub all_can_run : (ns ms : Arena) (n : Node) (id : ℕ) → AllCanRun ns → IsAllowed (count_of ns) (length ns.lists) n
    → (HasComposedParts (tree_with ns n) → IsComposed (tree_with ns n)) → id ≡ count_of ns → ms ≡ with_node ns n
    → tree_of ms id ≡ tree_with ns n → ((i : ℕ) → i < count_of ns → tree_of ms i ≡ tree_of ns i) → AllCanRun ms
all_can_run ns ms n id h a w p e t keep i l = elim (cases_lt i (count_of ns)) [
  | inl m ↦ subst CanRun (sym (keep i m)) (h i m)
  | inr m ↦
      let at : id ≡ i = omega (arith, ap count_of e, length_push ns.nodes n) in
      subst (λ j. CanRun (tree_of ms j)) at (subst CanRun (sym t) (node_can_run ns n h a w))
]

-- one list more
pub still_can_run : (ns ms : Arena) → AllCanRun ns → count_of ms ≡ count_of ns → ((i : ℕ) → i < count_of ns → tree_of ms i ≡ tree_of ns i) → AllCanRun ms
still_can_run ns ms h e keep i l = let m : i < count_of ns = omega (arith, l, e) in subst CanRun (sym (keep i m)) (h i m)
