-- The lines that one worker writes (this project's profile).
use Rattle.std.specs.Prelude.{ℕ, ◌+◌, ◌*◌}
use Rattle.fv_outside.specs.declared.tasks.Task.{Task}
use Rattle.fv_outside.specs.declared.gate.Line.{Line}

-- the line of a task that worker 0 ran, after n others
abbrev pub line_of : Task → (n : ℕ) → Line
line_of x n = record { task = x; worker = 0; start = 2 * n; finish = 2 * n + 1 }
