-- What a change of one drawer, and one more file, do.
use Rattle.std.proofs.Common.{◌≡◌, ◌≢◌, ℕ, zero, suc, ◌+◌, ◌<◌, ◌≤◌, List, [], ◌∷◌, ◌++◌, length, get_or, set, take, refl, sym, ap, ◌∙◌, arith, subst}
use Rattle.std.proofs.Common.{Some, None, Option, Bool, true, false, is_none, is_err, Result, Ok, Err, MatchOption, OnOk, unwrap_or, ◌||◌}
use Rattle.std.proofs.Common.{length-set, bytes_eq, if◌then◌else◌}
use Rattle.std.proofs.lemmas.List.{take_more, get_or_default, set-get_or}
use Rattle.std.proofs.lemmas.List.Elements.{All-get_or, All-set}
use Rattle.std.proofs.lemmas.Slice.Eq.{bytes_eq-Decides}
use Rattle.std.proofs.lemmas.Bool.{false_from_ne_true}
use Rattle.fv_outside.specs.headline.Desk.{File, GoesOn, newest, file_named}
use Rattle.fv_outside.specs.Drawer.{Kept, ReadsWithin, DrawerGoesOn, nothing_kept, called, bytes_at}
use Rattle.fv_outside.specs.declared.desk.Failed.{Failed}
use Rattle.fv_outside.specs.headline.Requests.{Request}
use Rattle.fv_outside.specs.Requests.{place_of}
use Rattle.fv_outside.specs.Memory.{Memory, RoleMemory, memory_of, memory_state, with_memory, memory_after, asked, after_begin_read}
use Rattle.fv_outside.specs.Stored.{IsStored, shown, shown_at, memory_with}
use Rattle.fv_base.specs.declared.role.Role.{Role}
use Rattle.fv_base.specs.declared.role.Role.TheVariants.{Program, Input, Controls, Output, Report}

-- the drawer at i is replaced by one that reads within the files where the old one did
pub IsStored-set : (files : List File) (ks : List Kept) (i : ℕ) (d new : Kept) → IsStored files ks → i < 5
    → (ReadsWithin (length files) (get_or ks i d) → ReadsWithin (length files) new) → IsStored files (set ks i new)
IsStored-set files ks i d new s lt keeps =
    let at : ReadsWithin (length files) (get_or ks i d) = All-get_or (ReadsWithin (length files)) ks i d (omega (arith, s.five)) s.within in
    record {
      five = length-set ks i new ∙ s.five;
      within = All-set (ReadsWithin (length files)) ks i new (keeps at) s.within;
    }

-- where f is no less of the new drawer, it is no less of any
rise-set : (f : Kept → ℕ) (ks : List Kept) (i j : ℕ) (d e new : Kept) → i < length ks → f (get_or ks i d) ≤ f new
    → f (get_or ks j e) ≤ f (get_or (set ks i new) j e)
rise-set f [] i j d e new lt le = absurd (omega arith)
rise-set f (k ∷ ks) zero zero d e new lt le = le
rise-set f (k ∷ ks) zero (suc j) d e new lt le = omega arith
rise-set f (k ∷ ks) (suc i) zero d e new lt le = omega arith
rise-set f (k ∷ ks) (suc i) (suc j) d e new lt le = rise-set f ks i j d e new (omega arith) le

-- where g is the same of the new drawer, it is the same of each
same-set : {A : Type 0} (g : Kept → A) (ks : List Kept) (i j : ℕ) (d e new : Kept) → i < length ks → g new ≡ g (get_or ks i d)
    → g (get_or (set ks i new) j e) ≡ g (get_or ks j e)
same-set g [] i j d e new lt eq = absurd (omega arith)
same-set g (k ∷ ks) zero zero d e new lt eq = eq
same-set g (k ∷ ks) zero (suc j) d e new lt eq = refl
same-set g (k ∷ ks) (suc i) zero d e new lt eq = refl
same-set g (k ∷ ks) (suc i) (suc j) d e new lt eq = same-set g ks i j d e new (omega arith) eq

-- what is kept of a role is what its drawer means
role_shown : (files : List File) (ks : List Kept) (qs : List Request) (r : Role) → memory_of (memory_with files ks qs) r ≡ shown_at files ks (place_of r)
role_shown files ks qs Program = refl
role_shown files ks qs Input = refl
role_shown files ks qs Controls = refl
role_shown files ks qs Output = refl
role_shown files ks qs Report = refl

-- the same, of a desk that these files and drawers mean
pub memory_shown : (files : List File) (ks : List Kept) (qs : List Request) (r : Role) (i : ℕ) (d : Kept) (m : Memory) → memory_with files ks qs ≡ m
    → i ≡ place_of r → IsStored files ks → i < 5 → memory_of m r ≡ shown files (get_or ks i d)
memory_shown files ks qs r i d m is place stored lt =
    rw (← is, get_or_default ks i d nothing_kept (omega (arith, stored.five)), place) (role_shown files ks qs r)

-- where a role's drawer is replaced, what is kept of the role is what the new one means
shown-set : (files : List File) (ks : List Kept) (qs : List Request) (r : Role) (new : Kept) → length ks ≡ 5
    → memory_with files (set ks (place_of r) new) qs ≡ with_memory (memory_with files ks qs) r (shown files new)
shown-set files (a ∷ b ∷ c ∷ d ∷ e ∷ []) qs Program new five = refl
shown-set files (a ∷ b ∷ c ∷ d ∷ e ∷ []) qs Input new five = refl
shown-set files (a ∷ b ∷ c ∷ d ∷ e ∷ []) qs Controls new five = refl
shown-set files (a ∷ b ∷ c ∷ d ∷ e ∷ []) qs Output new five = refl
shown-set files (a ∷ b ∷ c ∷ d ∷ e ∷ []) qs Report new five = refl
shown-set files [] qs r new five = absurd (omega arith)
shown-set files (a ∷ []) qs r new five = absurd (omega arith)
shown-set files (a ∷ b ∷ []) qs r new five = absurd (omega arith)
shown-set files (a ∷ b ∷ c ∷ []) qs r new five = absurd (omega arith)
shown-set files (a ∷ b ∷ c ∷ d ∷ []) qs r new five = absurd (omega arith)
shown-set files (a ∷ b ∷ c ∷ d ∷ e ∷ f ∷ ks) qs r new five = absurd (omega arith)

-- a role's drawer is replaced by one that means what f makes of what the old one meant
pub memory-set : (files : List File) (ks : List Kept) (qs : List Request) (r : Role) (i : ℕ) (d new : Kept) (m : Memory) (f : RoleMemory → RoleMemory)
    → memory_with files ks qs ≡ m → i ≡ place_of r → IsStored files ks → i < 5 → shown files new ≡ f (shown files (get_or ks i d))
    → memory_with files (set ks i new) qs ≡ memory_after m r f
memory-set files ks qs r i d new m f is place stored lt means =
    let old = memory_shown files ks qs r i d m is place stored lt in
    let one : memory_with files (set ks i new) qs ≡ with_memory m r (shown files new) = rw (place, ← is) (shown-set files ks qs r new stored.five) in
    one ∙ ap (with_memory m r) (means ∙ sym (ap f old))

-- a drawer is replaced by itself
pub memory-same : (files : List File) (ks : List Kept) (qs : List Request) (i : ℕ) (d new : Kept) (m : Memory) → memory_with files ks qs ≡ m
    → new ≡ get_or ks i d → memory_with files (set ks i new) qs ≡ m
memory-same files ks qs i d new m is same = rw (same, set-get_or) is

-- one more request, and what is kept of a role
asked_after : (m : Memory) (r : Role) (f : RoleMemory → RoleMemory) (q : Request) → memory_after (asked q m) r f ≡ asked q (memory_after m r f)
asked_after m Program f q = refl
asked_after m Input f q = refl
asked_after m Controls f q = refl
asked_after m Output f q = refl
asked_after m Report f q = refl

-- and the desk was asked for one more thing
pub asked-set : (files : List File) (ks : List Kept) (qs rs : List Request) (q : Request) (r : Role) (i : ℕ) (d new : Kept) (m : Memory)
    (f : RoleMemory → RoleMemory) → memory_with files ks qs ≡ m → i ≡ place_of r → IsStored files ks → i < 5 → rs ≡ qs ++ q ∷ []
    → shown files new ≡ f (shown files (get_or ks i d)) → memory_with files (set ks i new) rs ≡ asked q (memory_after m r f)
asked-set files ks qs rs q r i d new m f is place stored lt asks means =
    memory-set files ks rs r i d new (asked q m) f (rw (asks, ← is) refl) place stored lt means ∙ asked_after m r f q

-- a drawer is replaced by one that goes on from it
pub GoesOn-set : (files : List File) (ks : List Kept) (i : ℕ) (d new : Kept) (qs rs : List Request) (m : Memory) → memory_with files ks qs ≡ m
    → IsStored files ks → i < 5
    → DrawerGoesOn (get_or ks i d) new → GoesOn (memory_state m) (memory_state (memory_with files (set ks i new) rs))
GoesOn-set files ks i d new qs rs m is stored lt on =
    let l : i < length ks = omega (arith, stored.five) in
    let old = role_shown files ks qs in
    let now = role_shown files (set ks i new) rs in
    subst (λ (m : Memory). GoesOn (memory_state m) (memory_state (memory_with files (set ks i new) rs))) is (record {
      tells = refl;
      beneath = refl;
      files = λ _. refl;
      room = λ _ r. ap (λ (k : RoleMemory). k.room) (now r) ∙ same-set (λ k. k.room) ks i (place_of r) d nothing_kept new l on.room
          ∙ sym (ap (λ (k : RoleMemory). k.room) (old r));
      failing = λ _ r. ap (λ (k : RoleMemory). k.failing) (now r) ∙ same-set (λ k. k.failing) ks i (place_of r) d nothing_kept new l on.failing
          ∙ sym (ap (λ (k : RoleMemory). k.failing) (old r));
      calls = λ _ r.
          let a = ap (λ (k : RoleMemory). k.calls) (old r) in
          let b = ap (λ (k : RoleMemory). k.calls) (now r) in
          omega (arith, rise-set (λ k. k.calls) ks i (place_of r) d nothing_kept new l on.calls);
      faults = λ r.
          let a = ap (λ (k : RoleMemory). k.faults) (old r) in
          let b = ap (λ (k : RoleMemory). k.faults) (now r) in
          omega (arith, rise-set (λ k. k.faults) ks i (place_of r) d nothing_kept new l on.faults);
    })

-- the place that was found is that of the last file of the name
abbrev pub IsPlaceOf : List File → List ℕ → Option ℕ → Type 0
IsPlaceOf files name found = MatchOption found (file_named name files ≡ None) (λ i. (i < length files) × (file_named name files ≡ Some (bytes_at files i)))

-- there is none where there is no such file
pub none_found : (files : List File) (name : List ℕ) (found : Option ℕ) → IsPlaceOf files name found → is_none found ≡ is_none (file_named name files)
none_found files name None h = rw h refl
none_found files name (Some i) h = rw h.1 refl

-- and a drawer that begins to read there means that the bytes of that file, which the desk has, are left
pub begun_means : (files theirs : List File) (name : List ℕ) (found : Option ℕ) (old new : Kept) (result : Result (Unit {0}) Failed) (fails : Bool)
    → files ≡ theirs → IsPlaceOf files name found → is_err result ≡ (fails || is_none found)
    → OnOk result ((f : ℕ) → found ≡ Some f → new ≡ record (called old) { reading = Some (record { file = f; taken = 0 }) })
    → OnOk result (shown files new ≡ after_begin_read (unwrap_or (file_named name theirs) []) (shown files old))
begun_means files theirs name found old new (Err e) fails same at t ok = tt
begun_means files theirs name None old new (Ok v) true same at t ok = absurd cc
begun_means files theirs name None old new (Ok v) false same at t ok = absurd cc
begun_means files theirs name (Some i) old new (Ok v) fails same at t ok = rw (ok i refl, ← same, at.1) refl

-- one more file
newest-push : (name : List ℕ) (found : Option (List ℕ)) (fs : List File) (f : File)
    → newest name found (fs ++ f ∷ []) ≡ (if bytes_eq f.name name then Some f.bytes else newest name found fs)
newest-push name found [] f = refl
newest-push name found (g ∷ gs) f = newest-push name (if bytes_eq g.name name then Some g.bytes else found) gs f

-- the file that was added is the one of its name
pub file_named-push_same : (fs : List File) (name bytes : List ℕ) → file_named name (fs ++ record { name = name; bytes = bytes } ∷ []) ≡ Some bytes
file_named-push_same fs name bytes =
    newest-push name None fs (record { name = name; bytes = bytes }) ∙ rw (bytes_eq-Decides name name).1 refl

-- those of other names stay
pub file_named-push_other : (fs : List File) (name bytes n : List ℕ) → n ≢ name
    → file_named n (fs ++ record { name = name; bytes = bytes } ∷ []) ≡ file_named n fs
file_named-push_other fs name bytes n ne =
    newest-push n None fs (record { name = name; bytes = bytes })
    ∙ rw (false_from_ne_true (bytes_eq name n) (λ e. ne (sym ((bytes_eq-Decides name n).0 e)))) refl

-- the loop over the files, one file further
pub file_named-take_more : (files : List File) (name : List ℕ) (i : ℕ) (d : File) → i < length files
    → file_named name (take (i + 1) files) ≡ (if bytes_eq (get_or files i d).name name then Some (get_or files i d).bytes else file_named name (take i files))
file_named-take_more files name i d lt = rw (take_more files i d lt) (newest-push name None (take i files) (get_or files i d))
