-- The rule of one worker's deque (this project's profile; Letz, Orlarey, Fober 2010).
use Rattle.std.specs.Prelude.{◌≡◌, ℕ, ◌+◌, ◌<◌, Bool, false, List, []}
use mathlib.Core.Option.{some}
use lib.ListN.{get_elem?}
use Rattle.fv_graph.specs.Tasks.{bit, total}
use Rattle.fv_graph.specs.TasksBeside.{times}
use Rattle.fv_steal.specs.declared.rule.Account.{Account}

-- an account by its parts
abbrev pub account : Bool → ℕ → ℕ → List ℕ → List ℕ → Account
account owns lent held put taken = record { owns = owns; lent = lent; held = held; put = put; taken = taken }

-- a pass that is not the owner's has put nothing and given nothing out, and where it is not out it has taken nothing
pub record IsIdle (v : Account) : Type 0 where
  pub put : v.owns ≡ false → v.put ≡ []
  pub lent : v.owns ≡ false → v.lent ≡ 0
  pub taken : v.owns ≡ false → v.held ≡ 0 → v.taken ≡ []

-- One pass is the owner's, which knows how many are out. The numbers put are those that lie in the deque and those that the passes
-- took, each once.
pub record IsBalanced (items : List ℕ) (views : List Account) : Type 0 where
  pub owned : total (λ v. bit v.owns) views ≡ 1
  pub out : total (λ v. v.held) views ≡ total (λ v. v.lent) views
  pub balance : (x : ℕ) → total (λ v. times x v.put) views ≡ total (λ v. times x v.taken) views + times x items
  pub once : (x : ℕ) → total (λ v. times x v.put) views < 2
  pub idle : (port : ℕ) (v : Account) → get_elem? views port ≡ some v → IsIdle v
