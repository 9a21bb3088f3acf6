-- What calls say beside `headline/Tasks`: the tasks of a block: one for each loop and vector, and what each of them reads (this project's profile).
use Rattle.std.specs.Prelude.{ℕ, ◌*◌, ◌==◌, List, refl}
use Rattle.std.specs.Coded.{Coded, code_by, coded×, coded_ℕ, coded_list}
use Rattle.fv_outside.specs.declared.tasks.Reads.{Reads}
use Rattle.fv_outside.specs.headline.Tasks.{Tasks, bit, total}

-- as a tuple of its fields
abbrev pub coded_reads : Coded Reads
coded_reads = code_by (ℕ × ℕ) (coded× coded_ℕ coded_ℕ) (λ r. (r.reader, r.source)) (λ p. record { reader = p.0; source = p.1 }) (λ _. refl)

-- as a tuple of its fields
abbrev pub coded_tasks : Coded Tasks
coded_tasks =
    code_by (ℕ × (ℕ × List Reads)) (coded× coded_ℕ (coded× coded_ℕ (coded_list coded_reads))) (λ t. (t.loops, (t.vectors, t.reads)))
    (λ p. record { loops = p.0; vectors = p.1.0; reads = p.1.1 }) (λ _. refl)

-- how many tasks there are
abbrev pub task_count : Tasks → ℕ
task_count ts = ts.vectors * ts.loops

-- how often x stands in the list
abbrev pub times : ℕ → List ℕ → ℕ
times x xs = total (λ y. bit (y == x)) xs
