-- The definitions of a desk, computed on small examples.
use Rattle.std.specs.Prelude.{◌≡◌, true, List, [], ◌∷◌, Some, None, refl, codes}
use Rattle.fv_outside.specs.headline.Requests.{to_read, to_write}
use Rattle.fv_outside.specs.headline.Desk.{File, file_named, last_count}
use Rattle.fv_outside.specs.Desk.{raised, fails_next}
use Rattle.fv_outside.specs.Memory.{no_memory, empty_memory, memory_after, memory_state, asked, is_failing, is_full, after_fail, after_fault}
use Rattle.fv_outside.specs.Memory.{after_begin_read, after_read, after_write}
use Rattle.fv_outside.specs.Tasks.{task_count}
use Rattle.fv_outside.specs.headline.Journal.{BlockEntry, Told}
use Rattle.fv_outside.specs.Journal.{told_after}
use Rattle.fv_base.specs.declared.role.Role.TheVariants.{Output, Report}

-- three files, of two names
abbrev files : List File
files =
    record { name = codes "x"; bytes = 1 ∷ [] } ∷ record { name = codes "y"; bytes = 2 ∷ [] } ∷ record { name = codes "x"; bytes = 3 ∷ [] } ∷ []

-- the last of a name stands for those before it
last_of_name : file_named (codes "x") files ≡ Some (3 ∷ [])
last_of_name = refl

no_such_name : file_named (codes "z") files ≡ None
no_such_name = refl

-- a fault is counted of its role alone
fault_of_output : (memory_state (memory_after empty_memory Output after_fault)).faults Output ≡ 1
fault_of_output = refl

no_fault_of_report : (memory_state (memory_after empty_memory Output after_fault)).faults Report ≡ 0
no_fault_of_report = refl

-- a count stops at its last value
last_stays : raised last_count ≡ last_count
last_stays = refl

-- what is read is taken from the front
read_one : (after_read 1 (after_begin_read (1 ∷ 2 ∷ 3 ∷ []) no_memory)).left ≡ 2 ∷ 3 ∷ []
read_one = refl

-- call 1 fails, where it was told to
second_fails : is_failing (after_write [] (after_fail 1 no_memory)) ≡ true
second_fails = refl

-- a request is told whether it could be met or not
asked_in_order : (memory_state (asked (to_write Output (codes "o")) (asked (to_read Report (codes "x")) empty_memory))).requests ≡ to_read Report
    (codes "x") ∷ to_write Output (codes "o") ∷ []
asked_in_order = refl

-- the third call of a role fails, where its number is told
third_fails : fails_next Output (memory_state (memory_after empty_memory Output (λ d. after_write [] (after_write [] (after_fail 2 d))))) ≡ true
third_fails = refl

-- of a room of one block with two lines and pairs, a block with a pair and a line leaves this; a second one is too many
no_room : Told
no_room = record { entries = []; room = record { calls = 1; lines = 2; pairs = 2 } }

block : BlockEntry
block = record {
  tasks = record { loops = 2; vectors = 3; reads = record { reader = 1; source = 0 } ∷ [] };
  lines = record { task = record { loop_no = 0; vector = 0 }; worker = 0; start = 0; finish = 1 } ∷ [];
}

one_block : told_after (Some no_room) block ≡ Some (record { entries = block ∷ []; room = record { calls = 0; lines = 1; pairs = 1 } })
unfolding no_room block
one_block = refl

two_blocks : told_after (told_after (Some no_room) block) block ≡ None
unfolding no_room block
two_blocks = refl

-- two loops over three vectors
six_tasks : task_count block.tasks ≡ 6
unfolding block
six_tasks = refl

-- without room nothing can be written
full_at_first : is_full no_memory ≡ true
full_at_first = refl
