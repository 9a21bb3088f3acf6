-- Valid diagrams, values, environments and states, and evaluations that keep them so.
use Rattle.std.proofs.Common.{ℕ, ◌+◌, ◌≤◌, Bool, true, false, List, [], ◌∷◌, ◌++◌, length, Ok, Err, arith}
use Rattle.std.specs.Prelude.{All, if◌then◌else◌}
use Rattle.fv_diagram.specs.headline.Diagram.{Diagram, size}
use Rattle.fv_diagram.specs.Diagram.{control_bound, IsFree}
use Rattle.fv_diagram.specs.Composed.{IsComposed}
use Rattle.fv_rules.specs.declared.refusal.EvalRefusal.{EvalRefusal}
use Rattle.fv_rules.specs.declared.refusal.EvalRefusal.TheVariants.{NoMemory}
use Rattle.fv_rules.specs.headline.Values.{Value, Flat, Abstraction, Rules, Env, Outermost, Bound, Scope, Taken, Nothing, And}
use Rattle.fv_rules.specs.headline.Steps.{State, Outcome, Eval, after, ◌>>=◌, give, refuse}
use Rattle.fv_diagram.specs.Controls.{IsBounded}
use Rattle.fv_base.specs.declared.limits.TheConstants.{SIZE_LIMIT}

-- ---- diagrams, values, environments and states

pub record IsValid (S : ℕ → Type 0) (k : ℕ) (d : Diagram) : Type 0 where
  pub composed : IsComposed d
  pub within : size d ≤ SIZE_LIMIT
  pub free : (s : ℕ) → IsFree s d → S s
  pub reads : control_bound d ≤ k

abbrev mutual
  pub ValidValue : (ℕ → Type 0) → ℕ → Value → Type 0
  ValidValue S k (Flat d) = IsValid S k d
  ValidValue S k (Abstraction x xs body env) = ValidEnv S k env
  ValidValue S k (Rules s rs env taken) = ValidEnv S k env × ValidTaken S k taken

  pub ValidEnv : (ℕ → Type 0) → ℕ → Env → Type 0
  ValidEnv S k Outermost = Unit {0}
  ValidEnv S k (Bound x v env) = ValidValue S k v × ValidEnv S k env
  ValidEnv S k (Scope ds env) = ValidEnv S k env

  pub ValidTaken : (ℕ → Type 0) → ℕ → Taken → Type 0
  ValidTaken S k Nothing = Unit {0}
  ValidTaken S k (And v before) = ValidValue S k v × ValidTaken S k before

abbrev pub ValidState : State → Type 0
ValidState s = All IsBounded s.controls

-- more slots and more controls
pub valid_grows : (S T : ℕ → Type 0) (k n : ℕ) (d : Diagram) → ((s : ℕ) → S s → T s) → k ≤ n → IsValid S k d → IsValid T n d
valid_grows S T k n d f h g = let r = g.reads in record { composed = g.composed; within = g.within; free = λ s i. f s (g.free s i); reads = omega arith }

mutual
  pub value_grows : (S T : ℕ → Type 0) (k n : ℕ) → ((s : ℕ) → S s → T s) → k ≤ n → (v : Value) → ValidValue S k v → ValidValue T n v
  value_grows S T k n f h (Flat d) g = valid_grows S T k n d f h g
  value_grows S T k n f h (Abstraction x xs body env) g = env_grows S T k n f h env g
  value_grows S T k n f h (Rules s rs env taken) g = (env_grows S T k n f h env g.0, taken_grows S T k n f h taken g.1)

  pub env_grows : (S T : ℕ → Type 0) (k n : ℕ) → ((s : ℕ) → S s → T s) → k ≤ n → (env : Env) → ValidEnv S k env → ValidEnv T n env
  env_grows S T k n f h Outermost g = tt
  env_grows S T k n f h (Bound x v env) g = (value_grows S T k n f h v g.0, env_grows S T k n f h env g.1)
  env_grows S T k n f h (Scope ds env) g = env_grows S T k n f h env g

  pub taken_grows : (S T : ℕ → Type 0) (k n : ℕ) → ((s : ℕ) → S s → T s) → k ≤ n → (t : Taken) → ValidTaken S k t → ValidTaken T n t
  taken_grows S T k n f h Nothing g = tt
  taken_grows S T k n f h (And v before) g = (value_grows S T k n f h v g.0, taken_grows S T k n f h before g.1)

-- the same slots
pub keep : (S : ℕ → Type 0) (k n : ℕ) (d : Diagram) → k ≤ n → IsValid S k d → IsValid S n d
keep S k n d h g = valid_grows S S k n d (λ s i. i) h g

pub keep_value : (S : ℕ → Type 0) (k n : ℕ) (v : Value) → k ≤ n → ValidValue S k v → ValidValue S n v
keep_value S k n v h g = value_grows S S k n (λ s i. i) h v g

pub keep_env : (S : ℕ → Type 0) (k n : ℕ) (env : Env) → k ≤ n → ValidEnv S k env → ValidEnv S n env
keep_env S k n env h g = env_grows S S k n (λ s i. i) h env g

-- lists of them
abbrev pub AllValid : (ℕ → Type 0) → ℕ → List Diagram → Type 0
AllValid S k [] = Unit {0}
AllValid S k (d ∷ ds) = IsValid S k d × AllValid S k ds

abbrev pub AllValues : (ℕ → Type 0) → ℕ → List Value → Type 0
AllValues S k [] = Unit {0}
AllValues S k (v ∷ vs) = ValidValue S k v × AllValues S k vs

pub keep_all : (S : ℕ → Type 0) (k n : ℕ) (ds : List Diagram) → k ≤ n → AllValid S k ds → AllValid S n ds
keep_all S k n [] h g = tt
keep_all S k n (d ∷ ds) h g = (keep S k n d h g.0, keep_all S k n ds h g.1)

pub keep_values : (S : ℕ → Type 0) (k n : ℕ) (vs : List Value) → k ≤ n → AllValues S k vs → AllValues S n vs
keep_values S k n [] h g = tt
keep_values S k n (v ∷ vs) h g = (keep_value S k n v h g.0, keep_values S k n vs h g.1)

pub all_snoc : (S : ℕ → Type 0) (k : ℕ) (ds : List Diagram) (d : Diagram) → AllValid S k ds → IsValid S k d → AllValid S k (ds ++ d ∷ [])
all_snoc S k [] d g h = (h, tt)
all_snoc S k (e ∷ ds) d g h = (g.0, all_snoc S k ds d g.1 h)

pub all_append : (S : ℕ → Type 0) (k : ℕ) (ds es : List Diagram) → AllValid S k ds → AllValid S k es → AllValid S k (ds ++ es)
all_append S k [] es g h = h
all_append S k (d ∷ ds) es g h = (g.0, all_append S k ds es g.1 h)

pub values_snoc : (S : ℕ → Type 0) (k : ℕ) (vs : List Value) (v : Value) → AllValues S k vs → ValidValue S k v → AllValues S k (vs ++ v ∷ [])
values_snoc S k [] v g h = (h, tt)
values_snoc S k (w ∷ vs) v g h = (g.0, values_snoc S k vs v g.1 h)

-- every refusal of a rule has a cause: none is want of memory
abbrev pub IsCause : EvalRefusal → Type 0
IsCause NoMemory = ⊥
IsCause r = Unit {0}

-- ---- evaluations: controls only grow, visits and controls together do not (but for a credit), and the result has a property

-- visits and controls together
abbrev pub spare : State → ℕ
spare s = s.visits + length s.controls

abbrev pub Stays : {A : Type 0} → (ℕ → A → Type 0) → ℕ → State → Outcome A → Type 0
Stays P c s (Ok x) = (length s.controls ≤ length x.1.controls) × (spare x.1 ≤ spare s + c) × ValidState x.1 × P (length x.1.controls) x.0
Stays P c s (Err r) = IsCause r

pub record Does {A : Type 0} (P : ℕ → A → Type 0) (c k : ℕ) (m : Eval A) : Type 0 where
  pub stays : (s : State) → k ≤ length s.controls → ValidState s → Stays P c s (m s)

passes : {A : Type 0} (P : ℕ → A → Type 0) (c : ℕ) (s t : State) (r : Outcome A) → length s.controls ≤ length t.controls → spare t ≤ spare s + 0
    → Stays P c t r → Stays P c s r
passes P c s t (Ok x) h g a = let u = a.0 in let v = a.1 in (omega arith, omega arith, a.2, a.3)
passes P c s t (Err r) h g a = a

then_stays : {A B : Type 0} (P : ℕ → A → Type 0) (Q : ℕ → B → Type 0) (c k : ℕ) (s : State) (r : Outcome A) (f : A → Eval B)
    → k ≤ length s.controls → Stays P 0 s r → ((x : A) (n : ℕ) → k ≤ n → P n x → Does Q c n (f x)) → Stays Q c s (after r f)
then_stays P Q c k s (Ok x) f h a g =
    let u = a.0 in
    passes Q c s x.1 (f x.0 x.1) a.0 a.1 ((g x.0 (length x.1.controls) (omega arith) a.3).stays x.1 (omega arith) a.2)
then_stays P Q c k s (Err r) f h a g = a

pub bind_does : {A B : Type 0} {P : ℕ → A → Type 0} {Q : ℕ → B → Type 0} {c k : ℕ} {m : Eval A} {f : A → Eval B} → Does P 0 k m
    → ((x : A) (n : ℕ) → k ≤ n → P n x → Does Q c n (f x)) → Does Q c k (m >>= f)
bind_does {P = P} {Q = Q} {c = c} {k = k} {m = m} {f = f} a g = record { stays = λ s h b. then_stays P Q c k s (m s) f h (a.stays s h b) g }

pub give_does : {A : Type 0} {P : ℕ → A → Type 0} {c k : ℕ} {x : A} → ((n : ℕ) → k ≤ n → P n x) → Does P c k (give x)
give_does g = record { stays = λ s h b. (omega arith, omega arith, b, g (length s.controls) h) }

pub refuse_does : {A : Type 0} {P : ℕ → A → Type 0} {c k : ℕ} (r : EvalRefusal) → IsCause r → Does P c k (refuse r)
refuse_does r i = record { stays = λ s h b. i }

-- a credit may be had, and more controls known
lends : {A : Type 0} (P : ℕ → A → Type 0) (s : State) (r : Outcome A) → Stays P 0 s r → Stays P 1 s r
lends P s (Ok x) a = let v = a.1 in (a.0, omega arith, a.2, a.3)
lends P s (Err r) a = a

pub lend : {A : Type 0} {P : ℕ → A → Type 0} {k : ℕ} {m : Eval A} → Does P 0 k m → Does P 1 k m
lend {P = P} {m = m} a = record { stays = λ s h b. lends P s (m s) (a.stays s h b) }

pub choice : {A : Type 0} {P : ℕ → A → Type 0} {c k : ℕ} {m n : Eval A} (b : Bool) → Does P c k m → Does P c k n → Does P c k (if b then m else n)
choice true p q = p
choice false p q = q
