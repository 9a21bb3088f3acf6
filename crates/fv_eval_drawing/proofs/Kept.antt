-- What stays true in the loops: what is left around what is put is the whole.
use Rattle.std.proofs.Common.{◌<◌, ◌≤◌, ◌++◌, ◌∷◌, [], ℕ, List}
use Rattle.fv_num.specs.declared.op.Op.{Op}
use Rattle.fv_diagram.specs.Primitive.TheVariants as prim
use Rattle.fv_diagram.specs.Arena.{count_of, tree_of}
use Rattle.fv_rules.specs.headline.Rules.{bind_all, from_left}
use Rattle.fv_eval_drawing.specs.declared.lists.Link.{Link}
use Rattle.fv_eval_drawing.specs.Makes.{AreThere, Becomes, Canvas, Extends, trees_of}
use Rattle.fv_eval_drawing.specs.Lists.{all_from_right, linked}

-- Binding what is left around what is bound is the whole.
pub record Binds (a0 a : Canvas) (slot slots left body whole : ℕ) : Type 0 where
  pub keeps : Extends a0 a
  pub there : whole < count_of a.diagrams
  pub most : left ≤ slots
  pub same : Becomes a0 a (bind_all slot slots (tree_of a0.diagrams body)) (bind_all slot left (tree_of a.diagrams whole))

-- Putting together what is left and what is put is the whole.
pub record Links (a0 a : Canvas) (link : Link) (all parts : List ℕ) (whole : ℕ) : Type 0 where
  pub keeps : Extends a0 a
  pub there : whole < count_of a.diagrams
  pub waiting : AreThere a0.diagrams parts
  pub same : Becomes a0 a (all_from_right (linked link) (trees_of a0.diagrams all))
      (all_from_right (linked link) (trees_of a0.diagrams parts ++ tree_of a.diagrams whole ∷ []))

-- Putting what is left after what is put is the whole.
pub record Operates (a0 a : Canvas) (op : Op) (first : ℕ) (others left : List ℕ) (whole : ℕ) : Type 0 where
  pub keeps : Extends a0 a
  pub there : whole < count_of a.diagrams
  pub same : Becomes a0 a (from_left (prim.Point op) (tree_of a0.diagrams first) (trees_of a0.diagrams others))
      (from_left (prim.Point op) (tree_of a.diagrams whole) (trees_of a0.diagrams left))
