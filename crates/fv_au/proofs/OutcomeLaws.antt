-- Each AU file has one outcome.
use Rattle.std.proofs.Common.{◌≡◌, ℕ, ◌<◌, ◌≤◌, true, false, List, length, refl, sym, arith, subst, ⊎_elim, inl, inr, Ok, Err}
use Rattle.std.specs.Prelude.{Result, ◌⊎◌, nat_le, ◌&&◌}
use Rattle.std.proofs.lemmas.Bool.{cases_lt, le-ltb, lt-ltb, le-leb, lt-leb}
use Rattle.fv_base.specs.declared.limits.TheConstants.{MOST_CHANNELS}
use Rattle.fv_au.specs.headline.Reading.{au, field}
use Rattle.fv_au.specs.Cases.{HasBytes, HasOffset, IsEncoding, HasEncoding, AreChannels, HasChannels, fields_of, IsAuOutcome, HasOneAuOutcome}
use Rattle.fv_au.specs.Cases.{AuEndsAtItsLength, no_offset, low_offset, no_encoding, other_encoding, no_channels, other_channels, cut_gap, samples}
use Rattle.fv_au.specs.declared.head.AuHead.{AuHead}
use Rattle.fv_au.specs.declared.refusal.AuRefusal.{AuRefusal}
use Rattle.fv_au.specs.declared.refusal.AuRefusal.TheVariants.{ReadFault, AuFormat, AuTruncated, NoMemory}

-- a number is between two others, or it is not
between_yes : (low high n : ℕ) → (low ≤ n) × (n ≤ high) → (nat_le low n && nat_le n high) ≡ true
between_yes low high n h = rw (le-leb low n h.0, le-leb n high h.1) refl

between_no : (low high n : ℕ) → ((low ≤ n) × (n ≤ high) → ⊥) → (nat_le low n && nat_le n high) ≡ false
between_no low high n never =
    ⊎_elim (λ (w : n < low). rw (lt-leb low n w) refl)
    (λ (v : low ≤ n). ⊎_elim (λ (w : high < n). rw (le-leb low n v, lt-leb n high w) refl) (λ (w : n ≤ high). absurd (never (v, w))) (cases_lt high n))
    (cases_lt n low)

-- ---- what each case makes of a file

is_no_offset : (bytes : List ℕ) → length bytes < 8 → au bytes ≡ Err (AuTruncated (length bytes))
is_no_offset bytes h = rw (lt-ltb (length bytes) 8 h) refl

is_low_offset : (bytes : List ℕ) → HasBytes 8 bytes → field 4 bytes < 24 → au bytes ≡ Err (AuFormat 4)
is_low_offset bytes h l = rw (le-ltb (length bytes) 8 h, lt-ltb (field 4 bytes) 24 l) refl

is_no_encoding : (bytes : List ℕ) → HasOffset bytes → length bytes < 16 → au bytes ≡ Err (AuTruncated (length bytes))
is_no_encoding bytes o h = rw (le-ltb (length bytes) 8 o.there, le-ltb (field 4 bytes) 24 o.high, lt-ltb (length bytes) 16 h) refl

is_other_encoding : (bytes : List ℕ) → HasOffset bytes → HasBytes 16 bytes → (IsEncoding (field 12 bytes) → ⊥) → au bytes ≡ Err (AuFormat 12)
is_other_encoding bytes o h never =
    rw (
      le-ltb (length bytes) 8 o.there,
      le-ltb (field 4 bytes) 24 o.high,
      le-ltb (length bytes) 16 h,
      between_no 2 5 (field 12 bytes) never,
    ) refl

is_no_channels : (bytes : List ℕ) → HasEncoding bytes → length bytes < 24 → au bytes ≡ Err (AuTruncated (length bytes))
is_no_channels bytes e h =
    rw (
      le-ltb (length bytes) 8 e.offset.there,
      le-ltb (field 4 bytes) 24 e.offset.high,
      le-ltb (length bytes) 16 e.there,
      between_yes 2 5 (field 12 bytes) e.is,
      lt-ltb (length bytes) 24 h,
    ) refl

is_other_channels : (bytes : List ℕ) → HasEncoding bytes → HasBytes 24 bytes → (AreChannels (field 20 bytes) → ⊥) → au bytes ≡ Err (AuFormat 20)
is_other_channels bytes e h never =
    rw (
      le-ltb (length bytes) 8 e.offset.there,
      le-ltb (field 4 bytes) 24 e.offset.high,
      le-ltb (length bytes) 16 e.there,
      between_yes 2 5 (field 12 bytes) e.is,
      le-ltb (length bytes) 24 h,
      between_no 1 MOST_CHANNELS (field 20 bytes) never,
    ) refl

is_cut_gap : (bytes : List ℕ) → HasChannels bytes → length bytes < field 4 bytes → au bytes ≡ Err (AuTruncated (length bytes))
is_cut_gap bytes c h =
    rw (
      le-ltb (length bytes) 8 c.encoding.offset.there,
      le-ltb (field 4 bytes) 24 c.encoding.offset.high,
      le-ltb (length bytes) 16 c.encoding.there,
      between_yes 2 5 (field 12 bytes) c.encoding.is,
      le-ltb (length bytes) 24 c.there,
      between_yes 1 MOST_CHANNELS (field 20 bytes) c.are,
      lt-ltb (length bytes) (field 4 bytes) h,
    ) refl

is_samples : (bytes : List ℕ) → HasChannels bytes → HasBytes (field 4 bytes) bytes → au bytes ≡ Ok (fields_of bytes)
is_samples bytes c h =
    rw (
      le-ltb (length bytes) 8 c.encoding.offset.there,
      le-ltb (field 4 bytes) 24 c.encoding.offset.high,
      le-ltb (length bytes) 16 c.encoding.there,
      between_yes 2 5 (field 12 bytes) c.encoding.is,
      le-ltb (length bytes) 24 c.there,
      between_yes 1 MOST_CHANNELS (field 20 bytes) c.are,
      le-ltb (length bytes) (field 4 bytes) h,
    ) refl

the_one : (bytes : List ℕ) (outcome : Result AuHead AuRefusal) → IsAuOutcome bytes outcome → outcome ≡ au bytes
the_one bytes outcome (no_offset h) = sym (is_no_offset bytes h)
the_one bytes outcome (low_offset h l) = sym (is_low_offset bytes h l)
the_one bytes outcome (no_encoding o h) = sym (is_no_encoding bytes o h)
the_one bytes outcome (other_encoding o h never) = sym (is_other_encoding bytes o h never)
the_one bytes outcome (no_channels e h) = sym (is_no_channels bytes e h)
the_one bytes outcome (other_channels e h never) = sym (is_other_channels bytes e h never)
the_one bytes outcome (cut_gap c h) = sym (is_cut_gap bytes c h)
the_one bytes outcome (samples c h) = sym (is_samples bytes c h)

-- ---- a file has some case

-- a number is between two others or it is not
between : (low high n : ℕ) → ((low ≤ n) × (n ≤ high)) ⊎ ((low ≤ n) × (n ≤ high) → ⊥)
between low high n =
    ⊎_elim (λ (w : n < low). inr (λ h. let k : low ≤ n = h.0 in absurd (omega arith)))
    (λ (v : low ≤ n). ⊎_elim (λ (w : high < n). inr (λ h. let k : n ≤ high = h.1 in absurd (omega arith))) (λ (w : n ≤ high). inl (v, w)) (cases_lt high n))
    (cases_lt n low)

-- an outcome is that of the file
abbrev HasCase : List ℕ → Type 0
HasCase bytes = (outcome : Result AuHead AuRefusal) × IsAuOutcome bytes outcome

behind_channels : (bytes : List ℕ) → HasChannels bytes → HasCase bytes
behind_channels bytes c =
    ⊎_elim (λ (w : length bytes < field 4 bytes). (Err (AuTruncated (length bytes)), cut_gap c w))
    (λ (w : field 4 bytes ≤ length bytes). (Ok (fields_of bytes), samples c w)) (cases_lt (length bytes) (field 4 bytes))

behind_encoding : (bytes : List ℕ) → HasEncoding bytes → HasCase bytes
behind_encoding bytes e =
    ⊎_elim (λ (w : length bytes < 24). (Err (AuTruncated (length bytes)), no_channels e w))
    (λ (w : 24 ≤ length bytes).
    ⊎_elim (λ (k : AreChannels (field 20 bytes)). behind_channels bytes (record { encoding = e; there = w; are = k }))
    (λ (k : AreChannels (field 20 bytes) → ⊥). (Err (AuFormat 20), other_channels e w k)) (between 1 MOST_CHANNELS (field 20 bytes)))
    (cases_lt (length bytes) 24)

behind_offset : (bytes : List ℕ) → HasOffset bytes → HasCase bytes
behind_offset bytes o =
    ⊎_elim (λ (w : length bytes < 16). (Err (AuTruncated (length bytes)), no_encoding o w))
    (λ (w : 16 ≤ length bytes).
    ⊎_elim (λ (k : IsEncoding (field 12 bytes)). behind_encoding bytes (record { offset = o; there = w; is = k }))
    (λ (k : IsEncoding (field 12 bytes) → ⊥). (Err (AuFormat 12), other_encoding o w k)) (between 2 5 (field 12 bytes)))
    (cases_lt (length bytes) 16)

some_case : (bytes : List ℕ) → HasCase bytes
some_case bytes =
    ⊎_elim (λ (w : length bytes < 8). (Err (AuTruncated (length bytes)), no_offset w))
    (λ (w : 8 ≤ length bytes).
    ⊎_elim (λ (k : field 4 bytes < 24). (Err (AuFormat 4), low_offset w k))
    (λ (k : 24 ≤ field 4 bytes). behind_offset bytes (record { there = w; high = k })) (cases_lt (field 4 bytes) 24))
    (cases_lt (length bytes) 8)

-- its outcome is what is read of it
its_case : (bytes : List ℕ) → IsAuOutcome bytes (au bytes)
its_case bytes =
    let s = some_case bytes in
    subst (λ (r : Result AuHead AuRefusal). IsAuOutcome bytes r) (the_one bytes s.0 s.1) s.1

pub one_au_outcome : HasOneAuOutcome
one_au_outcome bytes = (its_case bytes, λ outcome h. the_one bytes outcome h)

-- ---- where it ends

-- a truncation is at the file's length
abbrev IsCutAt : ℕ → Result AuHead AuRefusal → Type 0
IsCutAt n (Ok head) = Unit {0}
IsCutAt n (Err (ReadFault role)) = Unit {0}
IsCutAt n (Err (AuFormat place)) = Unit {0}
IsCutAt n (Err (AuTruncated place)) = place ≡ n
IsCutAt n (Err NoMemory) = Unit {0}

cut_at : (bytes : List ℕ) (outcome : Result AuHead AuRefusal) → IsAuOutcome bytes outcome → IsCutAt (length bytes) outcome
cut_at bytes outcome (no_offset h) = refl
cut_at bytes outcome (low_offset h l) = tt
cut_at bytes outcome (no_encoding o h) = refl
cut_at bytes outcome (other_encoding o h never) = tt
cut_at bytes outcome (no_channels e h) = refl
cut_at bytes outcome (other_channels e h never) = tt
cut_at bytes outcome (cut_gap c h) = refl
cut_at bytes outcome (samples c h) = tt

pub au_ends : AuEndsAtItsLength
au_ends bytes place h = subst (λ (r : Result AuHead AuRefusal). IsCutAt (length bytes) r) h (cut_at bytes (au bytes) (its_case bytes))
