-- Which control has a label.
use Rattle.std.proofs.Common.{◌≡◌, ℕ, zero, suc, ◌+◌, ◌<◌, ◌≤◌, ◌-◌, ◌^◌, Bool, true, false, List, [], ◌∷◌, length, take, get_or}
use Rattle.std.proofs.Common.{refl, sym, ap, ◌∙◌, arith, Option, Some, None, length-append}
use Rattle.std.specs.Prelude.{decimal, bytes_eq, ◌==◌, slice_index_or}
use Rattle.std.specs.Option.{option_map}
use Rattle.std.specs.Int.{IsInRange}
use Rattle.std.specs.List.{position_or_len}
use Rattle.std.proofs.lemmas.Fmt.{decimal_injective, digits_decimal}
use Rattle.std.proofs.lemmas.Str.Parse.{numerals_by_value, tells_by_index}
use Rattle.std.proofs.lemmas.List.Sums.{position_or_len_is, sum_by-cons}
use Rattle.std.proofs.lemmas.Bool.{ne_eqb}
use Rattle.std.proofs.lemmas.List.{get_or_append_left, get_or-map}
use Rattle.std.proofs.Math.Seq.{get_or-append_seam, get_or-append_right}
use Rattle.std.proofs.lemmas.Slice.Eq.{bytes_eq-Decides}
use Rattle.fv_base.proofs.lemmas.Lists.{same_front, same_back}
use Rattle.fv_diagram.specs.declared.control.ControlInfo.{ControlInfo}
use Rattle.fv_jobs.specs.headline.Labels.{label_of, renamed, labelled, controls_from}
use Rattle.fv_jobs.specs.Labels.{labelled_so, LabelsAreFound, OthersAreNot}
use Rattle.fv_jobs.specs.headline.Changes.{controls_before}
use Rattle.fv_jobs.proofs.Positions.{either, position-append, position-map, position_none}

-- ---- labels differ

abbrev is_slash : ℕ → Bool
is_slash b = b == 47

digit_is : (b : ℕ) → IsInRange 48 57 b → is_slash b ≡ false
digit_is b h = let low = h.0 in ne_eqb b 47 (λ e. omega arith)

digit_at : (k : ℕ) → k < 2 ^ 64 → (i : ℕ) → i < length (decimal k) → IsInRange 48 57 (get_or (decimal k) i 0)
digit_at k h = digits_decimal (numerals_by_value _ tells_by_index) k h

-- the number stands in front of the first `/`
slash_at : (k : ℕ) (own : List ℕ) → k < 2 ^ 64 → position_or_len is_slash (label_of k own) ≡ length (decimal k)
slash_at k own h =
    position_or_len_is is_slash (label_of k own) (length (decimal k)) 0 (omega (arith, length-append (decimal k) (47 ∷ own)))
    (λ i l. ap is_slash (get_or_append_left (decimal k) (47 ∷ own) 0 i l) ∙ digit_is (get_or (decimal k) i 0) (digit_at k h i l))
    (λ _. ap is_slash (get_or-append_seam (decimal k) 47 own 0))

same_number : (m n : ℕ) (a b : List ℕ) → m < 2 ^ 64 → n < 2 ^ 64 → label_of m a ≡ label_of n b → m ≡ n
same_number m n a b hm hn e =
    decimal_injective m n hm hn
    (same_front (decimal m) (decimal n) (47 ∷ a) (47 ∷ b) (sym (slash_at m a hm) ∙ ap (position_or_len is_slash) e ∙ slash_at n b hn) e)

same_label : (k : ℕ) (a b : List ℕ) → label_of k a ≡ label_of k b → a ≡ b
same_label k a b e = let same = same_back (decimal k) (decimal k) (47 ∷ a) (47 ∷ b) refl e in cc

same_tests : (b c : Bool) → (b ≡ true → c ≡ true) → (c ≡ true → b ≡ true) → b ≡ c
same_tests true c f g = sym (f refl)
same_tests false true f g = g refl
same_tests false false f g = refl

not_true : (b : Bool) → (b ≡ true → ⊥) → b ≡ false
not_true true f = absurd (f refl)
not_true false f = refl

-- a job's label fits where its own does; one of another job does not
own_test : (k : ℕ) (a b : List ℕ) → bytes_eq (label_of k a) (label_of k b) ≡ bytes_eq a b
own_test k a b =
    let long = bytes_eq-Decides (label_of k a) (label_of k b) in
    let short = bytes_eq-Decides a b in
    same_tests (bytes_eq (label_of k a) (label_of k b)) (bytes_eq a b) (λ e. short.1 (same_label k a b (long.0 e))) (λ e. long.1 (ap (label_of k) (short.0 e)))

other_test : (m n : ℕ) (a b : List ℕ) → m < 2 ^ 64 → n < 2 ^ 64 → (m ≡ n → ⊥) → bytes_eq (label_of m a) (label_of n b) ≡ false
other_test m n a b hm hn ne =
    not_true (bytes_eq (label_of m a) (label_of n b)) (λ e. ne (same_number m n a b hm hn ((bytes_eq-Decides (label_of m a) (label_of n b)).0 e)))

-- ---- which has one

abbrev has_label : List ℕ → ControlInfo → Bool
has_label label c = bytes_eq c.label label

in_job : (k : ℕ) (label : List ℕ) (cs : List ControlInfo) → labelled_so (labelled k cs) (label_of k label) ≡ labelled_so cs label
in_job k label cs = position-map (has_label (label_of k label)) (has_label label) (renamed k) (λ c. own_test k c.label label) cs

in_other : (m n : ℕ) (label : List ℕ) → m < 2 ^ 64 → n < 2 ^ 64 → (m ≡ n → ⊥) → (cs : List ControlInfo) → labelled_so (labelled m cs) (label_of n label) ≡ None
in_other m n label hm hn ne cs = position_none (has_label (label_of n label)) (renamed m) (λ c. other_test m n c.label label hm hn ne) cs

-- one job more in front
more_jobs : (j : ℕ) (cs : List ControlInfo) (jobs : List (List ControlInfo)) (label : List ℕ) (first behind : Option ℕ)
    → labelled_so (labelled j cs) label ≡ first → labelled_so (controls_from (j + 1) jobs) label ≡ behind
    → labelled_so (controls_from j (cs ∷ jobs)) label ≡ either first (option_map (λ i. length (labelled j cs) + i) behind)
more_jobs j cs jobs label first behind e f =
    position-append (has_label label) (labelled j cs) (controls_from (j + 1) jobs)
    ∙ ap (λ o. either o (option_map (λ i. length (labelled j cs) + i) (labelled_so (controls_from (j + 1) jobs) label))) e
    ∙ ap (λ o. either first (option_map (λ i. length (labelled j cs) + i) o)) f

-- the jobs after a job have none of its labels
none_behind : (jobs : List (List ControlInfo)) (j k : ℕ) (label : List ℕ) → k < j → j + length jobs ≤ 2 ^ 64
    → labelled_so (controls_from j jobs) (label_of k label) ≡ None
none_behind [] j k label h few = refl
none_behind (cs ∷ jobs) j k label h few =
    more_jobs j cs jobs (label_of k label) None None (in_other j k label (omega arith) (omega arith) (λ e. omega arith) cs)
    (none_behind jobs (j + 1) k label (omega arith) (omega arith))

either_none : (o : Option ℕ) (n : ℕ) → either o (option_map (λ i. n + i) None) ≡ option_map (λ i. 0 + i) o
either_none None n = refl
either_none (Some i) n = ap Some (omega arith)

further_on : (n m : ℕ) (o : Option ℕ) → option_map (λ i. n + i) (option_map (λ i. m + i) o) ≡ option_map (λ i. n + m + i) o
further_on n m None = refl
further_on n m (Some i) = ap Some (omega arith)

length_labelled : (k : ℕ) (cs : List ControlInfo) → length (labelled k cs) ≡ length cs
length_labelled k [] = refl
length_labelled k (c ∷ cs) = ap suc (length_labelled k cs)

-- the controls before a job, with one job more in front
before_more : (cs : List ControlInfo) (jobs : List (List ControlInfo)) (k : ℕ) → controls_before (cs ∷ jobs) (suc k) ≡ length cs + controls_before jobs k
before_more cs jobs k = sum_by-cons length cs (take k jobs)

found_from : (jobs : List (List ControlInfo)) (j k : ℕ) (label : List ℕ) → j + length jobs ≤ 2 ^ 64 → k < length jobs →
    labelled_so (controls_from j jobs) (label_of (j + k) label) ≡ option_map (λ i. controls_before jobs k + i) (labelled_so (slice_index_or jobs k []) label)
found_from [] j k label few h = absurd (omega arith)
found_from (cs ∷ jobs) j zero label few h =
    let here : j + 0 ≡ j = omega arith in
    ap (λ (n : ℕ). labelled_so (controls_from j (cs ∷ jobs)) (label_of n label)) here
    ∙ more_jobs j cs jobs (label_of j label) (labelled_so cs label) None (in_job j label cs) (none_behind jobs (j + 1) j label (omega arith) (omega arith))
    ∙ either_none (labelled_so cs label) (length (labelled j cs))
found_from (cs ∷ jobs) j (suc k) label few h =
    let there : j + suc k ≡ j + 1 + k = omega arith in
    let behind = found_from jobs (j + 1) k label (omega arith) (omega arith) in
    let own = labelled_so (slice_index_or jobs k []) label in
    let far : length (labelled j cs) + controls_before jobs k ≡ controls_before (cs ∷ jobs) (suc k) =
    omega (arith, length_labelled j cs, before_more cs jobs k) in
    ap (λ (n : ℕ). labelled_so (controls_from j (cs ∷ jobs)) (label_of n label)) there
    ∙ more_jobs j cs jobs (label_of (j + 1 + k) label) None (option_map (λ i. controls_before jobs k + i) own)
    (in_other j (j + 1 + k) label (omega arith) (omega arith) (λ e. omega arith) cs) behind
    ∙ further_on (length (labelled j cs)) (controls_before jobs k) own
    ∙ ap (λ (n : ℕ). option_map (λ i. n + i) own) far

pub found : LabelsAreFound
found jobs k label few h =
    let here : 0 + k ≡ k = omega arith in
    ap (λ (n : ℕ). labelled_so (controls_from 0 jobs) (label_of n label)) (sym here) ∙ found_from jobs 0 k label (omega arith) h

others_from : (jobs : List (List ControlInfo)) (j : ℕ) (label : List ℕ) → ((k : ℕ) (own : List ℕ) → k < length jobs → label ≡ label_of (j + k) own → ⊥)
    → labelled_so (controls_from j jobs) label ≡ None
others_from [] j label none = refl
others_from (cs ∷ jobs) j label none =
    more_jobs j cs jobs label None None
    (position_none (has_label label) (renamed j)
    (λ c. not_true (bytes_eq (label_of j c.label) label)
    (λ e. none 0 c.label (omega arith)
    (sym ((bytes_eq-Decides (label_of j c.label) label).0 e) ∙ (let here : j ≡ j + 0 = omega arith in ap (λ (n : ℕ). label_of n c.label) here)))) cs)
    (others_from jobs (j + 1) label
    (λ k own h e. none (suc k) own (omega arith) (e ∙ (let there : j + 1 + k ≡ j + suc k = omega arith in ap (λ (n : ℕ). label_of n own) there))))

pub others : OthersAreNot
others jobs label none =
    others_from jobs 0 label (λ k own h e. none k own h (e ∙ (let here : 0 + k ≡ k = omega arith in ap (λ (n : ℕ). label_of n own) here)))

-- ---- the control itself

pub control_from : (jobs : List (List ControlInfo)) (j k i : ℕ) (d e : ControlInfo) → k < length jobs → i < length (slice_index_or jobs k []) →
    get_or (controls_from j jobs) (controls_before jobs k + i) d ≡ renamed (j + k) (get_or (slice_index_or jobs k []) i e)
control_from [] j k i d e h l = absurd (omega arith)
control_from (cs ∷ jobs) j zero i d e h l =
    let here : 0 + i ≡ i = omega arith in
    let same : j ≡ j + 0 = omega arith in
    ap (λ (n : ℕ). get_or (controls_from j (cs ∷ jobs)) n d) here
    ∙ get_or_append_left (labelled j cs) (controls_from (j + 1) jobs) d i (omega (arith, length_labelled j cs))
    ∙ get_or-map (renamed j) cs i e d l
    ∙ ap (λ (n : ℕ). renamed n (get_or cs i e)) same
control_from (cs ∷ jobs) j (suc k) i d e h l =
    let there : j + 1 + k ≡ j + suc k = omega arith in
    let n = controls_before (cs ∷ jobs) (suc k) + i in
    let more = before_more cs jobs k in
    let long = length_labelled j cs in
    let far : n - length (labelled j cs) ≡ controls_before jobs k + i = omega arith in
    get_or-append_right (labelled j cs) (controls_from (j + 1) jobs) n d (omega arith)
    ∙ ap (λ (n : ℕ). get_or (controls_from (j + 1) jobs) n d) far
    ∙ control_from jobs (j + 1) k i d e (omega arith) l
    ∙ ap (λ (n : ℕ). renamed n (get_or (slice_index_or jobs k []) i e)) there
