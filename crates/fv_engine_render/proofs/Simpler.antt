-- A simpler graph of a diagram's graph is one of the diagram too.
use Rattle.std.proofs.Common.{◌≡◌, ℕ, ◌<◌, List, length, get_or, refl, ◌∙◌, subst, arith, pos, ℤ, w32, FitsSigned}
use Rattle.std.proofs.lemmas.Int.{ints}
use Rattle.std.proofs.lemmas.List.{get_or_default}
use Rattle.fv_base.specs.declared.limits.TheConstants.{DELAY_LIMIT, DELAY_BUDGET}
use Rattle.fv_num.specs.headline.Interval.{Interval}
use Rattle.fv_num.specs.headline.Frames.{Frame, Stream}
use Rattle.fv_diagram.specs.headline.Diagram.{Diagram}
use Rattle.fv_signal.specs.declared.signal.Signal.{Signal}
use Rattle.fv_signal.specs.declared.signal.Signal.TheVariants.{Input, Const, Control, Point, Delay, Back, Member, Read, Write}
use Rattle.fv_signal.specs.headline.Value.{Graph, StandsAt, AreAtMost, IsGraph}
use Rattle.fv_interval.specs.headline.SpanHooks.{control_span}
use Rattle.fv_interval.specs.headline.Laws.{IsOf}
use Rattle.fv_propagate.specs.headline.Propagated.{AreTaken, NamesOf, NamesWithin}
use Rattle.fv_simplify.specs.Reducible.{AreSmall, IsSimpler}
use Rattle.fv_engine_render.specs.headline.Plans.{IsGraphOf}

-- no delay of a diagram's graph is longer than an engine keeps
pub short_graph : (g : Graph) → AreAtMost DELAY_LIMIT g → AreAtMost DELAY_BUDGET g
short_graph g h s x by most a = let k = h s x by most a in omega (arith, k)

fits : (s : Interval) (z : ℤ) → IsOf s z → FitsSigned w32 z
fits s z h = omega (arith, ints, h.0.lo_fits, h.0.hi_fits, h.1.above, h.1.below)

module _ (d : Diagram) (spans : List Interval) (g h : Graph) (is : IsGraphOf d spans g) (s : IsSimpler g h) where
  small : (X : List Frame) (c : ℕ → Stream) → AreTaken d spans X c → AreSmall X c
  small X c taken = record { frames = taken.small; controls = λ k t. fits (control_span spans k) (c k t) (taken.controls k t) }

  -- it names only what the diagram has
  names : NamesWithin d h
  names i x l = go (get_or h.signals i x) refl
    where
      stands : (n : Signal) → get_or h.signals i x ≡ n → StandsAt h i n
      stands n e = record { within = l; is = get_or_default h.signals i (Const (pos 0)) x l ∙ e }

      go : (n : Signal) → get_or h.signals i x ≡ n → NamesOf d n
      go (Input k) e = let r = s.inputs i k (stands (Input k) e) in let at = r.1 in subst (NamesOf d) at.is (is.names r.0 (Const (pos 0)) at.within)
      go (Control k) e = let r = s.controls i k (stands (Control k) e) in let at = r.1 in subst (NamesOf d) at.is (is.names r.0 (Const (pos 0)) at.within)
      go (Const n) e = tt
      go (Point op args) e = tt
      go (Delay y by most) e = tt
      go (Back group k) e = tt
      go (Member group k) e = tt
      go (Read table r) e = tt
      go (Write table w y r) e = tt

  pub simpler_of : IsGraph h → IsGraphOf d spans h
  simpler_of whole = record {
    finished = whole;
    gives = λ X c e taken j t l m. let w = s.width in
        let k : j < length g.outputs = omega (arith, l, w) in s.values X c (small X c taken) j t k ∙ is.gives X c e taken j t k m;
    width = s.width ∙ is.width;
    names = names;
    short = s.short is.short;
  }
