-- The settings of a run keep their ranges.
use Rattle.std.proofs.Common.{◌≡◌, ℕ, ◌-◌, ◌^◌, ◌<◌, ◌≤◌, Bool, true, false, Option, Some, None, refl, subst, arith}
use Rattle.std.specs.Prelude.{◌&&◌, nat_le, nat_lt, Result, Ok, Err, IfSome, if◌then◌else◌}
use Rattle.std.proofs.lemmas.Bool.Decides.{nat_tests}
use Rattle.fv_base.specs.declared.limits.TheConstants.{MOST_BLOCK, MOST_WORKERS, MOST_VECTORS}
use Rattle.fv_top_words.specs.declared.cause.Cause.{Cause}
use Rattle.fv_top_words.specs.declared.cause.Cause.TheVariants.{Range, Vectors}
use Rattle.fv_top_words.specs.headline.Numbers.{◌>>=◌, Numbers}
use Rattle.fv_top_words.specs.headline.Runs.{within, within_or, is_width, width, default_vector, vectors_in, Settings, checked}
use Rattle.fv_top_words.specs.Runs.{AreValid, KeepRanges}

-- what came before an answer
bound : {A B : Type 0} (r : Result A Cause) (f : A → Result B Cause) (y : B) → r >>= f ≡ Ok y → (x : A) × (r ≡ Ok x) × (f x ≡ Ok y)
bound (Ok x) f y e = (x, refl, e)
bound (Err c) f y e = absurd cc

-- a test that passed
chosen : {A : Type 0} (b : Bool) (x y : A) (c : Cause) → (if b then Ok x else Err c) ≡ Ok y → (b ≡ true) × (x ≡ y)
chosen true x y c e = (refl, cc)
chosen false x y c e = absurd cc

within_or_is : (least most default x : ℕ) (n : Option ℕ) → least ≤ default → default ≤ most → within_or least most default n ≡ Ok x → (least ≤ x) × (x ≤ most)
within_or_is least most default x None low high e = let same : default ≡ x = cc in (omega arith, omega arith)
within_or_is least most default x (Some n) low high e =
    let p = chosen (nat_le least n && nat_le n most) n x Range e in
    let in_range = p.0 in
    let same = p.1 in
    (grind (arith, nat_tests), grind (arith, nat_tests))

within_is : (least most : ℕ) (n x : Option ℕ) → within least most n ≡ Ok x → IfSome x (λ k. (least ≤ k) × (k ≤ most))
within_is least most None x e = let same : None ≡ x = cc in subst (λ (o : Option ℕ). IfSome o (λ k. (least ≤ k) × (k ≤ most))) same tt
within_is least most (Some n) x e =
    let p = chosen (nat_le least n && nat_le n most) (Some n) x Range e in
    let in_range = p.0 in
    subst (λ (o : Option ℕ). IfSome o (λ k. (least ≤ k) × (k ≤ most))) p.1 (grind (arith, nat_tests), grind (arith, nat_tests))

width_is : (n x : Option ℕ) → width n ≡ Ok x → IfSome x (λ k. is_width k ≡ true)
width_is None x e = let same : None ≡ x = cc in subst (λ (o : Option ℕ). IfSome o (λ k. is_width k ≡ true)) same tt
width_is (Some n) x e = let p = chosen (is_width n) (Some n) x Range e in subst (λ (o : Option ℕ). IfSome o (λ k. is_width k ≡ true)) p.1 p.0

default_is : (block : ℕ) → 1 ≤ block → block ≤ MOST_BLOCK → (1 ≤ default_vector block) × (default_vector block ≤ block)
default_is block low high = (grind (arith, nat_tests), grind (arith, nat_tests))

passed_by : {A : Type 0} (b : Bool) (x y : A) → (if b then Err Vectors else Ok x) ≡ Ok y → (b ≡ false) × (x ≡ y)
passed_by true x y e = absurd cc
passed_by false x y e = (refl, cc)

few : (s t : Settings) → checked s ≡ Ok t → (vectors_in s.block s.vector ≤ MOST_VECTORS) × (s ≡ t)
few s t e =
    let p = passed_by (nat_lt MOST_VECTORS (vectors_in s.block s.vector)) s t e in
    let passed = p.0 in
    (grind (arith, nat_tests), p.1)

below : (o : Option ℕ) → IfSome o (λ k. (0 ≤ k) × (k ≤ 2 ^ 32 - 1)) → IfSome o (λ k. k < 2 ^ 32)
below None h = tt
below (Some k) h = let most = h.1 in omega arith

between : (o : Option ℕ) → IfSome o (λ k. (1 ≤ k) × (k ≤ 2 ^ 32 - 1)) → IfSome o (λ k. (1 ≤ k) × (k < 2 ^ 32))
between None h = tt
between (Some k) h = let most = h.1 in (h.0, omega arith)

-- ---- one number after another

abbrev after_rate : (block vector workers : ℕ) (bits frames rate : Option ℕ) → Result Settings Cause
after_rate block vector workers bits frames rate = checked (record
    { block = block; vector = vector; workers = workers; bits = bits; frames = frames; rate = rate })

abbrev after_frames : Numbers → (block vector workers : ℕ) (bits frames : Option ℕ) → Result Settings Cause
after_frames n block vector workers bits frames = within 1 (2 ^ 32 - 1) n.rate >>= after_rate block vector workers bits frames

abbrev after_bits : Numbers → (block vector workers : ℕ) (bits : Option ℕ) → Result Settings Cause
after_bits n block vector workers bits = within 0 (2 ^ 32 - 1) n.frames >>= after_frames n block vector workers bits

abbrev after_workers : Numbers → (block vector workers : ℕ) → Result Settings Cause
after_workers n block vector workers = width n.bits >>= after_bits n block vector workers

abbrev after_vector : Numbers → (block vector : ℕ) → Result Settings Cause
after_vector n block vector = within_or 1 MOST_WORKERS 1 n.workers >>= after_workers n block vector

abbrev after_block : Numbers → (block : ℕ) → Result Settings Cause
after_block n block = within_or 1 block (default_vector block) n.vector >>= after_vector n block

pub keep_ranges : KeepRanges
keep_ranges n s e =
    let b = bound (within_or 1 MOST_BLOCK 512 n.block) (after_block n) s e in
    let block = within_or_is 1 MOST_BLOCK 512 b.0 n.block (omega arith) (omega arith) b.1 in
    let v = bound (within_or 1 b.0 (default_vector b.0) n.vector) (after_vector n b.0) s b.2 in
    let usual = default_is b.0 block.0 block.1 in
    let vector = within_or_is 1 b.0 (default_vector b.0) v.0 n.vector usual.0 usual.1 v.1 in
    let w = bound (within_or 1 MOST_WORKERS 1 n.workers) (after_workers n b.0 v.0) s v.2 in
    let workers = within_or_is 1 MOST_WORKERS 1 w.0 n.workers (omega arith) (omega arith) w.1 in
    let i = bound (width n.bits) (after_bits n b.0 v.0 w.0) s w.2 in
    let f = bound (within 0 (2 ^ 32 - 1) n.frames) (after_frames n b.0 v.0 w.0 i.0) s i.2 in
    let r = bound (within 1 (2 ^ 32 - 1) n.rate) (after_rate b.0 v.0 w.0 i.0 f.0) s f.2 in
    let made : Settings = record { block = b.0; vector = v.0; workers = w.0; bits = i.0; frames = f.0; rate = r.0 } in
    let last = few made s r.2 in
    subst AreValid last.1 (record {
      block_least = block.0;
      block_most = block.1;
      vector_least = vector.0;
      vector_most = vector.1;
      vectors = last.0;
      workers_least = workers.0;
      workers_most = workers.1;
      bits = width_is n.bits i.0 i.1;
      frames = below f.0 (within_is 0 (2 ^ 32 - 1) n.frames f.0 f.1);
      rate = between r.0 (within_is 1 (2 ^ 32 - 1) n.rate r.0 r.1);
    })
