-- A plan as its loops see it (this project's profile).
use Rattle.std.specs.Prelude.{◌≡◌, ℕ, List, ◌++◌, length, map, ◌==◌}
use Rattle.std.specs.List.{flat_map}
use Rattle.fv_split_plan.specs.TasksBeside.{Tasks}
use Rattle.fv_graph.specs.Words.{passing}
use Rattle.fv_graph.specs.Graph.{pair_at}
use Rattle.fv_loopcode.specs.declared.step.Step.{Step}
use Rattle.fv_split_plan.specs.headline.View.{PlanView, lane_info, code_of, roles_of}
use Rattle.fv_engine_codes.specs.Renumbered.{renumbered, Places}

-- the lanes of a loop, in their order
abbrev pub own_lanes : PlanView → ℕ → List ℕ
own_lanes p j = passing (λ l. (lane_info p l).owner == j) 0 (length p.lanes)

-- the loops whose lanes a loop reads, in the order of the edges into its tasks
abbrev pub sources_of : Tasks → ℕ → List ℕ
sources_of g j = map (λ k. (pair_at g k).source) (passing (λ k. (pair_at g k).reader == j) 0 (length g.reads))

-- how many other loops read a loop's lanes
abbrev pub readers_of : Tasks → ℕ → ℕ
readers_of g j = length (passing (λ k. (pair_at g k).source == j) 0 (length g.reads))

-- all lanes of these loops
abbrev pub lanes_of_all : PlanView → List ℕ → List ℕ
lanes_of_all p is = flat_map (own_lanes p) is

-- the lanes that a loop's code sees, by their new numbers
abbrev pub locals_of : PlanView → Tasks → ℕ → List ℕ
locals_of p g j = own_lanes p j ++ lanes_of_all p (sources_of g j)

-- a code is that of loop j, over the lanes that the loop sees, which are numbered anew
pub record IsLocalCode (p : PlanView) (g : Tasks) (j : ℕ) (code : List Step) : Type 0 where
  pub place : ℕ → ℕ
  pub places : Places (roles_of p j) place (locals_of p g j) (length (own_lanes p j))
  pub is : code ≡ map (renumbered place) (code_of p j)
