-- A job's own changes.
use Rattle.std.proofs.Common.{◌≡◌, ℕ, ◌+◌, ◌-◌, ◌<◌, ◌≤◌, ◌&&◌, Bool, true, false, List, [], ◌∷◌, length, drop, refl, sym, ap, ◌∙◌, arith, Some, None, ℤ, pos}
use Rattle.std.specs.Prelude.{if◌then◌else◌, nat_le, nat_lt, slice_index_or, ◌==◌}
use Rattle.std.specs.List.{cons_option, AllByRecursion}
use Rattle.std.proofs.lemmas.Bool.{leb-true, ltb-true, le-leb, lt-ltb, eqb-true, eq-eqb}
use Rattle.std.proofs.lemmas.List.{get_or-take, get_or-drop}
use Rattle.fv_diagram.specs.Words.{argument}
use Rattle.fv_diagram.specs.declared.control.ControlInfo.{ControlInfo}
use Rattle.fv_control.specs.declared.script.Change.{Change}
use Rattle.fv_control.specs.headline.Script.{is_within, no_control}
use Rattle.fv_control.specs.headline.Streams.{value_after}
use Rattle.fv_control.specs.Laws.{NeverFall, IsOfControls}
use Rattle.fv_jobs.specs.headline.Labels.{controls_of}
use Rattle.fv_jobs.specs.headline.Changes.{controls_before}
use Rattle.fv_jobs.specs.Changes.{JobsHear, AreInOrder, AreOfControls}
use Rattle.fv_jobs.specs.headline.Changes.{changes_of}
use Rattle.fv_jobs.proofs.Found.{control_from}

both_true : (b c : Bool) → (b && c) ≡ true → (b ≡ true) × (c ≡ true)
both_true true c e = (refl, e)
both_true false c e = absurd cc

same_tests : (b c : Bool) → (b ≡ true → c ≡ true) → (c ≡ true → b ≡ true) → b ≡ c
same_tests true c f g = sym (f refl)
same_tests false true f g = g refl
same_tests false false f g = refl

not_true : (b : Bool) → (b ≡ true → ⊥) → b ≡ false
not_true true f = absurd (f refl)
not_true false f = refl

-- whether a control is among the n after the first ones
abbrev is_own : (first n i : ℕ) → Bool
is_own first n i = nat_le first i && nat_lt i (first + n)

record Own (first n i : ℕ) : Type 0 where
  above : first ≤ i
  below : i < first + n

own_is : (first n i : ℕ) → is_own first n i ≡ true → Own first n i
own_is first n i e =
    let both = both_true (nat_le first i) (nat_lt i (first + n)) e in
    record { above = leb-true first i both.0; below = ltb-true i (first + n) both.1 }

is_own_of : (first n k : ℕ) → k < n → is_own first n (first + k) ≡ true
is_own_of first n k h = let a = le-leb first (first + k) (omega arith) in let b = lt-ltb (first + k) (first + n) (omega arith) in rw (a, b) refl

-- the test of an own change is that of its own number; another change is none of this control
own_number : (first i k : ℕ) → first ≤ i → (i == (first + k)) ≡ ((i - first) == k)
own_number first i k h =
    same_tests (i == (first + k)) ((i - first) == k)
    (λ e. let s = eqb-true i (first + k) e in eq-eqb (i - first) k (omega arith))
    (λ e. let s = eqb-true (i - first) k e in eq-eqb i (first + k) (omega arith))

other_number : (first n i k : ℕ) → k < n → is_own first n i ≡ false → (i == (first + k)) ≡ false
other_number first n i k h none =
    not_true (i == (first + k))
    (λ e. let own : is_own first n i ≡ true = ap (is_own first n) (eqb-true i (first + k) e) ∙ is_own_of first n k h in absurd cc)

-- one change more, by whether it is an own one
hears_one : (first n k t : ℕ) → k < n → (c : Change) (cs : List Change) (v : ℤ) (b : Bool) → is_own first n c.control ≡ b
    → ((v : ℤ) → value_after cs v (first + k) t ≡ value_after (changes_of first n cs) v k t)
    → value_after cs (if (c.control == (first + k)) && nat_le c.frame t then c.value else v) (first + k) t
    ≡ value_after (cons_option (if b then Some (record c { control = c.control - first }) else None) (changes_of first n cs)) v k t
hears_one first n k t h c cs v true e ih =
    let o = own_is first n c.control e in
    ih (if (c.control == (first + k)) && nat_le c.frame t then c.value else v)
    ∙ ap (λ (b : Bool). value_after (changes_of first n cs) (if b && nat_le c.frame t then c.value else v) k t) (own_number first c.control k o.above)
hears_one first n k t h c cs v false e ih =
    ap (λ (b : Bool). value_after cs (if b && nat_le c.frame t then c.value else v) (first + k) t) (other_number first n c.control k h e)
    ∙ ih v

hears : (first n k t : ℕ) → k < n → (changes : List Change) (v : ℤ) → value_after changes v (first + k) t ≡ value_after (changes_of first n changes) v k t
hears first n k t h [] v = refl
hears first n k t h (c ∷ cs) v = hears_one first n k t h c cs v (is_own first n c.control) refl (hears first n k t h cs)

pub hear : JobsHear
hear changes initial first n k t h =
    hears first n k t h changes (argument initial (first + k))
    ∙ ap (λ (v : ℤ). value_after (changes_of first n changes) v k t)
    (sym (get_or-take n (drop first initial) k (pos 0) h ∙ get_or-drop first initial k (pos 0)))

-- ---- order

sooner : (changes : List Change) (l m : ℕ) → l ≤ m → NeverFall m changes → NeverFall l changes
sooner [] l m h f = tt
sooner (c ∷ cs) l m h f = let a = f.0 in (omega arith, f.1)

order_one : (first n least : ℕ) (c : Change) (cs : List Change) (b : Bool) → least ≤ c.frame → NeverFall c.frame (changes_of first n cs)
    → NeverFall least (cons_option (if b then Some (record c { control = c.control - first }) else None) (changes_of first n cs))
order_one first n least c cs true l rest = (l, rest)
order_one first n least c cs false l rest = sooner (changes_of first n cs) least c.frame l rest

pub order : AreInOrder
order [] first n least f = tt
order (c ∷ cs) first n least f = order_one first n least c cs (is_own first n c.control) f.0 (order cs first n c.frame f.1)

-- ---- controls

-- the controls of job k
abbrev own : List (List ControlInfo) → ℕ → List ControlInfo
own jobs k = slice_index_or jobs k []

-- a job's control has the range that it has alone
own_range : (jobs : List (List ControlInfo)) (k i : ℕ) (v : ℤ) → k < length jobs → Own (controls_before jobs k) (length (own jobs k)) i →
    is_within (slice_index_or (controls_of jobs) i no_control) v ≡ is_within (slice_index_or (own jobs k) (i - controls_before jobs k) no_control) v
own_range jobs k i v h o =
    let before = controls_before jobs k in
    let a = o.above in let b = o.below in
    let there : i ≡ before + (i - before) = omega arith in
    ap (λ (n : ℕ). is_within (slice_index_or (controls_of jobs) n no_control) v) there
    ∙ ap (λ (c : ControlInfo). is_within c v) (control_from jobs 0 k (i - before) no_control no_control h (omega arith))

own_one : (jobs : List (List ControlInfo)) (k : ℕ) → k < length jobs → (c : Change) (cs : List Change) (b : Bool)
    → is_own (controls_before jobs k) (length (own jobs k)) c.control ≡ b → IsOfControls (controls_of jobs) c
    → AllByRecursion (IsOfControls (own jobs k)) (changes_of (controls_before jobs k) (length (own jobs k)) cs)
    → AllByRecursion (IsOfControls (own jobs k))
    (cons_option (if b then Some (record c { control = c.control - controls_before jobs k }) else None)
    (changes_of (controls_before jobs k) (length (own jobs k)) cs))
own_one jobs k h c cs true e is rest =
    let o = own_is (controls_before jobs k) (length (own jobs k)) c.control e in
    let a = o.above in let b = o.below in
    (record { there = omega arith; within = sym (own_range jobs k c.control c.value h o) ∙ is.within }, rest)
own_one jobs k h c cs false e is rest = rest

pub of_controls : AreOfControls
of_controls jobs k [] h all = tt
of_controls jobs k (c ∷ cs) h all =
    own_one jobs k h c cs (is_own (controls_before jobs k) (length (own jobs k)) c.control) refl all.0 (of_controls jobs k cs h all.1)
