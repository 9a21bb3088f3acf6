-- Compositions of whole lists of diagrams.
use Rattle.std.specs.Prelude.{◌≡◌, ◌⊎◌, ℕ, ◌-◌, ◌&&◌, nat_eq, List, [], ◌∷◌, ◌++◌, pos, Result, Ok, Err, Vec, if◌then◌else◌}
use Rattle.std.specs.declared.alloc.Global.{Global}
use Rattle.fv_num.specs.declared.op.Op.{Op}
use Rattle.fv_diagram.specs.Primitive.TheVariants as prim
use Rattle.fv_diagram.specs.headline.Diagram.{Diagram, Primitive, Par, Seq, inputs}
use Rattle.fv_rules.specs.declared.refusal.EvalRefusal.{EvalRefusal}
use Rattle.fv_rules.specs.declared.refusal.EvalRefusal.TheVariants.{IterationCount, NoMemory}
use Rattle.fv_rules.specs.headline.Steps.{Eval, ◌>>=◌, put, refuse}
use Rattle.fv_rules.specs.headline.Rules.{from_right, from_left, takes_the_right, wires}
use Rattle.fv_eval_drawing.specs.Makes.{AreThere, Becomes, Canvas, trees_of}
use Rattle.fv_eval_drawing.specs.declared.lists.Link.{Link}
use Rattle.fv_eval_drawing.specs.declared.lists.Link.TheVariants as link

-- the composition that puts parts side by side, or after one another
abbrev pub linked : Link → Diagram → Diagram → Diagram
linked link.Parallel a b = Par a b
linked link.Sequence a b = Seq a b

-- a list put from the right; none of no diagrams
abbrev pub all_from_right : (Diagram → Diagram → Diagram) → List Diagram → Eval Diagram
all_from_right compose [] = refuse (IterationCount (pos 0))
all_from_right compose (d ∷ ds) = from_right compose d ds

-- a list put from the left; none of no diagrams
abbrev pub all_from_left : Op → List Diagram → Eval Diagram
all_from_left op [] = refuse (IterationCount (pos 0))
all_from_left op (d ∷ ds) = from_left (prim.Point op) d ds

-- What a diagram is fed with, where k of its inputs are given by arguments: the arguments, with wires for the others. A
-- primitive of two inputs takes one argument as its second input.
abbrev pub filled : ℕ → Diagram → List Diagram → List Diagram
filled k f ds = if takes_the_right f && nat_eq k 1 then Primitive prim.Wire ∷ ds else ds ++ wires (inputs f - k)

-- side by side, and then a function
abbrev pub feeding : Diagram → List Diagram → Eval Diagram
feeding f ds = all_from_right Par ds >>= λ p. put (Seq p f)

-- Putting the diagrams with these numbers side by side is putting those side by side, which may be more: one of the former may
-- be many wires. Or that is refused so, or memory ran out.
abbrev pub Sides : (old new : Canvas) → List Diagram → Result (Vec ℕ Global) EvalRefusal → Type 0
Sides old new ds (Ok v) = AreThere new.diagrams v.items × Becomes old new (all_from_right Par ds) (all_from_right Par (trees_of new.diagrams v.items))
Sides old new ds (Err e) = (e ≡ NoMemory) ⊎ Becomes old new (all_from_right Par ds) (refuse e)
