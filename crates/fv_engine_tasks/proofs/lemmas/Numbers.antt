-- Tasks by their numbers.
use Rattle.std.proofs.Common.{◌≡◌, inl, inr, ℕ, suc, ◌+◌, ◌-◌, ◌*◌, ◌/◌, ◌<◌, ◌≤◌, ltb, sym, ap, ◌∙◌, arith, lt-ltb}
use Rattle.std.proofs.Common.{mul-le-mul_right, suc-mul, div-add-mod', mod-lt}
use Rattle.std.proofs.lemmas.Bool.{cases_lt, le-ltb}
use Rattle.fv_outside.specs.headline.Tasks.{Tasks}
use Rattle.fv_outside.specs.Tasks.{task_count}
use Rattle.fv_outside.specs.declared.tasks.Task.{Task}
use Rattle.fv_graph.specs.Graph.{task_at, task_of, loop_of, vector_of}
use Rattle.fv_graph.proofs.lemmas.Graphs.{unique}

abbrev pub at : ℕ → ℕ → Task
at j v = record { loop_no = j; vector = v }

pub parts : (g : Tasks) (j v : ℕ) → j < g.loops → (vector_of g (task_at g j v) ≡ v) × (loop_of g (task_at g j v) ≡ j)
parts g j v l =
    let t = task_at g j v in unique (vector_of g t) (loop_of g t) v j g.loops (mod-lt t (omega arith)) l (div-add-mod' t g.loops)

pub number_is : (g : Tasks) (j v : ℕ) → j < g.loops → task_of g (task_at g j v) ≡ at j v
number_is g j v l = let p = parts g j v l in ap (λ x. at x (vector_of g (task_at g j v))) p.1 ∙ ap (at j) p.0

pub below : (g : Tasks) (j v : ℕ) → j < g.loops → v < g.vectors → task_at g j v < task_count g
below g j v l m = let q : suc v * g.loops ≤ g.vectors * g.loops = mul-le-mul_right g.loops m in let r = suc-mul v g.loops in omega (arith, q, r)

-- a number other than v is below v where it is below the next one
pub same_step : (w v : ℕ) → (w ≡ v → ⊥) → ltb w v ≡ ltb w (suc v)
same_step w v n = elim (cases_lt w v) [
  | inl l ↦ lt-ltb w v l ∙ sym (lt-ltb w (suc v) (omega arith))
  | inr m ↦ le-ltb w v m ∙ sym (le-ltb w (suc v) (omega (arith, n)))
]

-- a vector that is there begins within the frames
pub inside : (n k v : ℕ) → 1 ≤ k → v < (n + (k - 1)) / k → v * k < n
inside n k v some l =
    let q : suc v * k ≤ (n + (k - 1)) / k * k = mul-le-mul_right k l in
    let r = suc-mul v k in let p = div-add-mod' (n + (k - 1)) k in omega (arith, q, r, p)

-- all vectors together reach the frames' end
pub enough : (n k : ℕ) → 1 ≤ k → n ≤ (n + (k - 1)) / k * k
enough n k some = let p = div-add-mod' (n + (k - 1)) k in let r = mod-lt (n + (k - 1)) some in omega (arith, p, r)
