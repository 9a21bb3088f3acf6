-- What was heard of an input, as frames.
use Rattle.std.proofs.Common.{◌≡◌, ℕ, ◌+◌, ◌-◌, ◌*◌, ◌/◌, ◌≤◌, List, [], length, take, drop, ℤ, Option, Some, None}
use Rattle.std.proofs.Common.{refl, sym, ap, subst, ◌∙◌}
use Rattle.std.proofs.Common.{arith, length-take}
use Rattle.std.specs.Option.{ForSome}
use Rattle.std.proofs.Math.Nat.{mul_assoc, mul_comm, div-le_of_le-mul}
use Rattle.std.proofs.lemmas.List.{take_at}
use Rattle.fv_base.proofs.lemmas.Lists.{length_table}
use Rattle.fv_diagram.specs.Frames.{Frame, table, rows}
use Rattle.fv_pcm.specs.Coded.{samples_in}
use Rattle.fv_pcm.specs.headline.Sizes.{frame_size, stated_frames, whole_bytes, present}
use Rattle.fv_pcm.specs.Sizes.{SamplesFollow, frames_in}
use Rattle.fv_file_tape.specs.headline.Tapes.{layout_of}
use Rattle.fv_file_tape.specs.Tapes.{IsInput, AreTaken, AreHeard, channels_of}
use Rattle.fv_file_tape.specs.declared.incoming.Incoming.{Incoming}
use Rattle.fv_file_tape.proofs.lemmas.Heard.{rows_fit, table_add}
use Rattle.fv_engine_render.specs.Files.{AreTakenOf, bare, frames_at}

-- ---- frames of no samples

take_table : {A : Type 0} (n all : ℕ) (g : ℕ → A) → n ≤ all → take n (table all g) ≡ table n g
take_table n all g h =
    let e : n + (all - n) ≡ all = omega (arith, h) in
    ap (λ k. take n (table k g)) (sym e) ∙ ap (take n) (table_add n (all - n) g)
    ∙ take_at (table n g) (table (all - n) (λ u. g (n + u))) n (length_table n g)

-- ---- numbers

-- The frames in these bytes are as many as whole frames fit into them.
pub frames_count : (i : Incoming) (bytes : List ℕ)
    → length (frames_in i.coding (bare i) bytes) ≡ length (present (bare i) bytes) / frame_size i.channels i.bits
frames_count i bytes = length_table _ _

-- no more than are stated
whole_few : (i : Incoming) (bytes : List ℕ) → IsInput i → length (frames_in i.coding (bare i) bytes) ≤ stated_frames (layout_of i)
whole_few i bytes r =
    let size = frame_size i.channels i.bits in
    let got = length-take (whole_bytes (bare i)) bytes in
    let count = frames_count i bytes in
    let turned : stated_frames (layout_of i) * size ≡ size * stated_frames (layout_of i) = mul_comm (stated_frames (layout_of i)) size in
    let less : length (present (bare i) bytes) / size ≤ stated_frames (layout_of i) = div-le_of_le-mul size (omega (arith, got, turned)) in
    omega (arith, count, less)

-- ---- the first frames that are there

left_frames : SamplesFollow → (i : Incoming) (bytes after : List ℕ) (h : List ℤ) (f : ℕ) → IsInput i → AreTaken i.coding i.bits h bytes after
    → length h ≡ f * i.channels → f ≤ stated_frames (layout_of i) → rows i.channels f h ≡ take f (frames_in i.coding (bare i) bytes)
left_frames law i bytes after h f r t long few =
    let frame = frame_size i.channels i.bits in
    let there = t.there in
    let z : 0 + 0 * frame ≡ 0 = omega arith in
    let flat : length h * (i.bits / 8) ≡ f * frame = ap (λ k. k * (i.bits / 8)) long ∙ mul_assoc f i.channels (i.bits / 8) in
    let whole = rows_fit f (stated_frames (layout_of i)) frame few in
    let got = length-take (whole_bytes (bare i)) bytes in
    let same : (0 + f) * frame ≡ f * frame = ap (λ k. k * frame) (omega arith) in
    let part : (0 + f) * frame ≤ length (present (bare i) bytes) = omega (arith, there, flat, whole, got, same) in
    let said : h ≡ samples_in i.coding i.bits (f * i.channels) (drop (0 + 0 * frame) bytes) =
    t.are ∙ ap (λ k. samples_in i.coding i.bits k bytes) long ∙ ap (λ k. samples_in i.coding i.bits (f * i.channels) (drop k bytes)) (sym z) in
    ap (rows i.channels f) said ∙ law i.coding (bare i) bytes 0 f r.some r.bits part

pub heard_frames : SamplesFollow → (o : Option Incoming) (held : Option (List ℕ)) (stated f : ℕ) (h : List ℤ) (before after : List ℕ) → ForSome o IsInput
    → ForSome o (λ i. stated ≡ stated_frames (layout_of i)) → AreHeard o held h before after → length h ≡ f * channels_of o → f ≤ stated
    → rows (channels_of o) f h ≡ take f (frames_at o held stated before)
heard_frames law None held stated f h before after r s a long few = sym (take_table {A = Frame} f stated (λ t. []) few)
heard_frames law (Some i) None stated f h before after r s a long few =
    left_frames law i before after h f (r i refl) a long (subst (λ (n : ℕ). f ≤ n) (s i refl) few)
heard_frames law (Some i) (Some bytes) stated f h before after r s a long few =
    left_frames law i bytes _ h f (r i refl) a.0 long (subst (λ (n : ℕ). f ≤ n) (s i refl) few)

-- there are no more than are stated
pub frames_few : (o : Option Incoming) (held : Option (List ℕ)) (stated : ℕ) (left : List ℕ) → ForSome o IsInput
    → ForSome o (λ i. stated ≡ stated_frames (layout_of i)) → length (frames_at o held stated left) ≤ stated
frames_few None held stated left r s = let e = length_table {A = Frame} stated (λ t. []) in omega (arith, e)
frames_few (Some i) None stated left r s = subst (λ (n : ℕ). length (frames_in i.coding (bare i) left) ≤ n) (sym (s i refl)) (whole_few i left (r i refl))
frames_few (Some i) (Some bytes) stated left r s =
    subst (λ (n : ℕ). length (frames_in i.coding (bare i) bytes) ≤ n) (sym (s i refl)) (whole_few i bytes (r i refl))

-- of the bytes that are left, just those of the frames were taken
pub frames_taken : (o : Option Incoming) (held : Option (List ℕ)) (f : ℕ) (h : List ℤ) (before after : List ℕ) → AreHeard o held h before after
    → length h ≡ f * channels_of o → AreTakenOf o held f before after
frames_taken None held f h before after a long = a.1
frames_taken (Some i) None f h before after a long =
    a.rest ∙ ap (λ (n : ℕ). drop n before) (ap (λ k. k * (i.bits / 8)) long ∙ mul_assoc f i.channels (i.bits / 8))
frames_taken (Some i) (Some bytes) f h before after a long = a.1
