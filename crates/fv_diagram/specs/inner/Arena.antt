-- What no call says beside `headline/Arena`: the trees of a list of nodes, whose children are numbers of earlier nodes (this project's profile).
use Rattle.std.specs.Prelude.{FitsSigned}
use Rattle.std.specs.Int.{w32}
use Rattle.fv_diagram.specs.declared.node.Node.{Node}
use Rattle.fv_diagram.specs.declared.node.Node.TheVariants as node

-- a node that is a number has 32 bits
abbrev pub HasNumber : Node → Type 0
HasNumber (node.Number n) = FitsSigned w32 n
HasNumber _ = Unit {0}
