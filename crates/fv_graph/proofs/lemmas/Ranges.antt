-- A task of fewer vectors is one of more.
use Rattle.std.proofs.Common.{◌≡◌, ℕ, ◌*◌, ◌<◌, ◌≤◌, sym, subst, arith, mul-le-mul_right, ◌/◌, div-add-mod'}
use mathlib.Core.Logic.{dite}
use native.Mathlib.Decide.{dec_le}
use Rattle.fv_outside.specs.Tasks.{task_count}
use Rattle.fv_graph.specs.Graph.{Graph}

pub more_tasks : (t v m l : ℕ) → t < v * l → v ≤ m → t < m * l
more_tasks t v m l h le = let a : v * l ≤ m * l = mul-le-mul_right l le in omega arith

pub task_in : (g h : Graph) (t : ℕ) → g ≡ h → t < task_count h.tasks → t < task_count g.tasks
task_in g h t e = subst (λ (k : Graph). t < task_count k.tasks) (sym e)

pub quotient_small : (t v l : ℕ) → t < v * l → t / l < v
quotient_small t v l h = dite (dec_le v (t / l)) (λ le. let m : v * l ≤ t / l * l = mul-le-mul_right l le in let p = div-add-mod' t l in absurd (omega arith))
    (λ n. omega arith)
