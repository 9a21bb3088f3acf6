-- A search along one path, whose nodes are gathered into classes that reach one another (path-based search, Gabow 2000).
use Rattle.std.specs.Prelude.{◌≡◌, ◌≢◌, ◌⊎◌, ℕ, suc, ◌+◌, ◌-◌, ◌<◌, ◌≤◌, List, [], ◌∷◌, ◌++◌, length, take, drop, slice_index_or, slice_set}
use Rattle.fv_components.specs.headline.Reach.{Links, at, Leads, Reaches}
use Rattle.fv_components.specs.declared.search.Mark.{Mark}
use Rattle.fv_components.specs.declared.search.Mark.TheVariants.{New, Open, Done}
use Rattle.fv_components.specs.declared.search.Class.{Class}
use Rattle.fv_components.specs.declared.search.Search.{Search}

-- The marks of the nodes, the path, the classes on it, the nodes that wait to be looked at, and how many classes are done.
pub record State : Type 0 where
  pub marks : List Mark
  pub path : List ℕ
  pub classes : List Class
  pub pending : List ℕ
  pub count : ℕ

-- what a search holds
abbrev pub state_of : Search → State
state_of s = record { marks = s.marks.items; path = s.path.items; classes = s.classes.items; pending = s.pending.items; count = s.count }

-- a node's mark
abbrev pub mark : State → ℕ → Mark
mark st s = slice_index_or st.marks s New

-- what stands for a class where there is none
abbrev pub no_class : Class
no_class = record { first = 0; waiting = 0 }

-- a class of the path
abbrev pub class : State → ℕ → Class
class st c = slice_index_or st.classes c no_class

-- no class begins after place a, up to place b
abbrev pub Together : State → ℕ → ℕ → Type 0
Together st a b = (c : ℕ) → c < length st.classes → (class st c).first ≤ b → (class st c).first ≤ a

-- A node to which place i of the path leads is done, or stands on the path where no class begins between, or waits with i's class.
pub data Followed (st : State) (i b : ℕ) : Type 0 where
  Finished : (k : ℕ) → mark st b ≡ Done k → Followed st i b
  Before : (p : ℕ) → mark st b ≡ Open p → Together st p i → Followed st i b
  Waiting : (k : ℕ) → k < length st.pending → at st.pending k ≡ b → ((c : ℕ) → c < length st.classes → (class st c).first ≤ i → (class st c).waiting ≤ k)
      → Followed st i b

-- the marks are those of the path
pub record IsMarked (n : ℕ) (st : State) : Type 0 where
  pub long : length st.marks ≡ n
  pub inside : (i : ℕ) → i < length st.path → at st.path i < n
  pub opened : (i : ℕ) → i < length st.path → mark st (at st.path i) ≡ Open i
  pub placed : (s i : ℕ) → mark st s ≡ Open i → (i < length st.path) × (at st.path i ≡ s)

-- the classes stand in order on the path
pub record IsStacked (n : ℕ) (st : State) : Type 0 where
  pub firsts : (c : ℕ) → c < length st.classes → (class st c).first < length st.path
  pub waits : (c : ℕ) → c < length st.classes → (class st c).waiting ≤ length st.pending
  pub rising : (b c : ℕ) → b < c → c < length st.classes → ((class st b).first < (class st c).first) × ((class st b).waiting ≤ (class st c).waiting)
  pub some : 0 < length st.path → 0 < length st.classes
  pub bottom : (class st 0).first ≡ 0
  pub inside : (k : ℕ) → k < length st.pending → at st.pending k < n

-- each place reaches the later ones, those of one class reach one another, and each class reaches what waits with it and with later ones
pub record IsReaching (next : Links) (st : State) : Type 0 where
  pub down : (i j : ℕ) → i ≤ j → j < length st.path → Reaches next (at st.path i) (at st.path j)
  pub up : (i j : ℕ) → i ≤ j → j < length st.path → Together st i j → Reaches next (at st.path j) (at st.path i)
  pub leads : (c k : ℕ) → c < length st.classes → (class st c).waiting ≤ k → k < length st.pending
      → Reaches next (at st.path (class st c).first) (at st.pending k)

-- what is done leads to what is done, with no greater number, and equal numbers reach one another
pub record IsDone (next : Links) (n : ℕ) (st : State) : Type 0 where
  pub closed : (s b k : ℕ) → mark st s ≡ Done k → Leads next s b → (m : ℕ) × (mark st b ≡ Done m) × (m ≤ k)
  pub counted : (s k : ℕ) → mark st s ≡ Done k → k < st.count
  pub alike : (s r k : ℕ) → mark st s ≡ Done k → mark st r ≡ Done k → Reaches next s r

-- each step from the path is followed, but for those to nodes that are let off
abbrev pub AreFollowed : Links → (ℕ → Type 0) → State → Type 0
AreFollowed next off st = (i b : ℕ) → i < length st.path → Leads next (at st.path i) b → Followed st i b ⊎ off b

-- what a search keeps, but for the steps to nodes that are let off
pub record IsSearch (next : Links) (n : ℕ) (off : ℕ → Type 0) (st : State) : Type 0 where
  pub marked : IsMarked n st
  pub stacked : IsStacked n st
  pub reaching : IsReaching next st
  pub done : IsDone next n st
  pub followed : AreFollowed next off st

-- a node that is being looked at, which each class reaches
pub record IsHeld (next : Links) (n : ℕ) (st : State) (w : ℕ) : Type 0 where
  pub inside : w < n
  pub reached : (c : ℕ) → c < length st.classes → Reaches next (at st.path (class st c).first) w

-- node w is put at the end of the path, as a class of its own
abbrev pub visited : Links → State → ℕ → State
visited next st w = record {
  marks = slice_set st.marks w (Open (length st.path));
  path = st.path ++ w ∷ [];
  classes = st.classes ++ record { first = length st.path; waiting = length st.pending } ∷ [];
  pending = st.pending ++ next w;
  count = st.count;
}

-- the last class, which begins at place first, is done: its nodes get the next number
pub record IsClosed (st new : State) (first : ℕ) : Type 0 where
  pub path : new.path ≡ take first st.path
  pub pending : new.pending ≡ st.pending
  pub count : new.count ≡ st.count + 1
  pub long : length new.marks ≡ length st.marks
  pub given : (s i : ℕ) → mark st s ≡ Open i → first ≤ i → mark new s ≡ Done st.count
  pub kept : (s : ℕ) → ((i : ℕ) → mark st s ≡ Open i → i < first) → mark new s ≡ mark st s

-- the weights of the new nodes, where the first mark is that of node i
abbrev pub left : (ℕ → ℕ) → ℕ → List Mark → ℕ
left f i [] = 0
left f i (New ∷ ms) = f i + left f (suc i) ms
left f i (Open p ∷ ms) = left f (suc i) ms
left f i (Done k ∷ ms) = left f (suc i) ms

-- each node counts once
abbrev pub one : ℕ → ℕ
one s = 1

-- what a node that is new adds to the work: its links, its class and itself
abbrev pub weight : Links → ℕ → ℕ
weight next s = length (next s) + 2

-- the work that remains
abbrev pub work : Links → State → ℕ
work next st = left (weight next) 0 st.marks + length st.pending + length st.classes

-- a search that has met no node twice
pub record IsRunning (next : Links) (n : ℕ) (off : ℕ → Type 0) (st : State) : Type 0 where
  pub search : IsSearch next n off st
  pub few : st.count + length st.path + left one 0 st.marks ≤ n

-- what was met stays so
abbrev pub StaysMet : State → State → Type 0
StaysMet old new = (s : ℕ) → mark old s ≢ New → mark new s ≢ New

-- no node is let off
abbrev pub none : ℕ → Type 0
none b = ⊥

-- one node is let off
abbrev pub only : ℕ → ℕ → Type 0
only w b = b ≡ w

-- A search that goes on, with what was met, and with no more work than a bound.
pub record GoesOn (next : Links) (n : ℕ) (old : State) (bound : ℕ) (new : State) : Type 0 where
  pub running : IsRunning next n none new
  pub met : StaysMet old new
  pub less : work next new ≤ bound

-- a search that has met a node, and has no path again
pub record IsWalked (next : Links) (n : ℕ) (old : State) (root : ℕ) (new : State) : Type 0 where
  pub running : IsRunning next n none new
  pub empty : length new.classes ≡ 0
  pub met : StaysMet old new
  pub root_met : mark new root ≢ New

-- a node has a number
abbrev pub IsNumbered : State → ℕ → Type 0
IsNumbered st s = (k : ℕ) × (mark st s ≡ Done k)

-- the numbers of all nodes
pub record AreNumbers (st : State) (numbers : List ℕ) : Type 0 where
  pub long : length numbers ≡ length st.marks
  pub each : (s : ℕ) → s < length st.marks → mark st s ≡ Done (at numbers s)

-- the first m classes begin no later than a place, and where they are not all, the next one begins after it
pub record IsCountUpTo (classes : List Class) (place m : ℕ) : Type 0 where
  pub few : m ≤ length classes
  pub behind : (c : ℕ) (d : Class) → m ≤ c → c < length classes → place < (slice_index_or classes c d).first
  pub last : (d : Class) → 0 < m → (slice_index_or classes (m - 1) d).first ≤ place

-- the first m classes stay, and those after become one with the last of them
abbrev pub collapsed : State → ℕ → State
collapsed st m = record st { classes = take m st.classes }

-- the nodes are marked with a number
abbrev pub finished : List Mark → List ℕ → ℕ → List Mark
finished marks [] k = marks
finished marks (s ∷ ss) k = finished (slice_set marks s (Done k)) ss k

-- the last class, which begins at place first, is done
abbrev pub closed_at : State → ℕ → State
closed_at st first = record {
  marks = finished st.marks (drop first st.path) st.count;
  path = take first st.path;
  classes = take (length st.classes - 1) st.classes;
  pending = st.pending;
  count = st.count + 1;
}

-- the last class, wherever it begins, is done
abbrev pub closed : State → State
closed st = closed_at st (class st (length st.classes - 1)).first
