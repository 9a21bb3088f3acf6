-- The lean core: the core without its deques (this project's profile).
use Rattle.std.specs.Prelude.{ℕ, ltb, Bool, cond, ◌&&◌, ◌||◌, not, List, [], ◌∷◌, length, Option, Some, None, ◌==◌}
use Rattle.fv_graph.specs.Tasks.{bit, total}
use Rattle.fv_graph.specs.Net.{Net}
use Rattle.fv_graph.specs.Core.{Now, is_run, is_free, is_done, count_of, is_legal, after}
use Rattle.fv_graph.specs.declared.event.Event.{Event}
use Rattle.fv_graph.specs.declared.event.Event.TheVariants.{Take, Steal, Finish, Arrive, Leave}

-- the task is done or run
abbrev pub is_taken : Now → ℕ → Bool
is_taken s t = is_done s t || not (total (λ r. bit (is_run t r)) s.runs == 0)

-- a free worker may take a task that waits for none and was not taken
abbrev pub lean_takes : Net → Now → ℕ → ℕ → Bool
lean_takes n s w t = ltb w (length s.runs) && is_free s w && ltb t n.tasks && (count_of s t == 0) && not (is_taken s t)

-- there is such an event in the lean core in this state
abbrev pub is_lean_legal : Net → Now → Event → Bool
is_lean_legal n s (Take w t) = lean_takes n s w t
is_lean_legal n s (Steal w v t) = ltb v (length s.runs) && not (w == v) && lean_takes n s w t
is_lean_legal n s (Finish w t) = is_legal n s (Finish w t)
is_lean_legal n s (Arrive w e) = is_legal n s (Arrive w e)
is_lean_legal n s (Leave w) = ltb w (length s.runs) && is_free s w

-- the state of the lean core after an event: the deques are left as they are
abbrev pub lean_after : Net → Now → Event → Now
lean_after n s e = record (after n s e) { deques = s.deques }

-- the state of the lean core after these events, if each is legal there where it stands
abbrev pub lean_replayed : Net → Now → List Event → Option Now
lean_replayed n s [] = Some s
lean_replayed n s (e ∷ es) = cond (is_lean_legal n s e) (lean_replayed n (lean_after n s e) es) None
