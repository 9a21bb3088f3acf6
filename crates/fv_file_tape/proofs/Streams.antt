-- What was heard and said goes on by one part more, or stops.
use Rattle.std.proofs.Common.{◌≡◌, ◌≢◌, ◌^◌, ℕ, ◌+◌, ◌-◌, ◌*◌, ◌/◌, ◌<◌, ◌≤◌, List, [], ◌∷◌, ◌++◌, length, drop, refl, sym, ap, subst, ◌∙◌, arith}
use Rattle.std.proofs.Common.{append_assoc, length-append, length-drop, inl, inr, ⊎_elim, ℤ}
use Rattle.std.specs.Prelude.{IsTrue, Option, Some, None, flat_map}
use Rattle.std.proofs.Math.Nat.{add-mul, mul_assoc, div-mul-le_self}
use Rattle.std.proofs.lemmas.List.{append-nil}
use Rattle.std.proofs.lemmas.Grind.{flat_map-append}
use Rattle.fv_base.specs.declared.role.Role.{Role}
use Rattle.fv_base.specs.declared.role.Role.TheVariants.{Input, Output}
use Rattle.fv_base.specs.headline.Lists.{IsPrefixOf}
use Rattle.fv_outside.specs.headline.Requests.{to_write}
use Rattle.fv_outside.specs.headline.Desk.{DeskState, GoesOn, HasFault, KeepsFaults, IsUnfailing}
use Rattle.fv_outside.specs.Desk.{KeepsFaultsBut, KeepsLeft, KeepsWrittenBut, KeepsBytes, Appends, Takes}
use Rattle.fv_outside.proofs.lemmas.States.{told_before, goes_on_then, fault_earlier, unfailing_later}
use Rattle.fv_pcm.specs.headline.Coded.{sample_bytes}
use Rattle.fv_pcm.specs.Coded.{samples_in}
use Rattle.fv_pcm.specs.headline.Sizes.{frame_size, stated_frames, whole_bytes}
use Rattle.fv_wav.specs.Stopping.{Passes}
use Rattle.fv_file_tape.specs.headline.Tapes.{layout_of, HasBegun}
use Rattle.fv_file_tape.specs.Tapes.{IsInput, IsTape, AreTaken, AreHeard, Streams, Streamed, CannotBegin, CannotHear, CannotGoOn}
use Rattle.fv_file_tape.specs.inner.Tapes.{Misses}
use Rattle.fv_file_tape.specs.Tapes.{Files, channels_of, head_of, front}
use Rattle.fv_file_tape.specs.declared.incoming.Incoming.{Incoming}
use Rattle.fv_file_tape.specs.declared.file_tape.FileTape.{FileTape}
use Rattle.fv_file_tape.specs.declared.file_tape.Stop.{Stop}
use Rattle.fv_file_tape.proofs.lemmas.Heard.{taken_more, taken_next, taken_nothing, rows_fit, no_samples}

-- reading from the input leaves the rest as it was
streams_heard : {name : List ℕ} {a b c : DeskState} {bytes : List ℕ} → Streams name a b → Takes Input bytes b c → Streams name a c
streams_heard p q = record {
  goes_on = goes_on_then p.goes_on q.goes_on;
  requests = q.requests ∙ p.requests;
  begins = λ r n. q.begins r ∙ p.begins r n;
  left = λ t r n. q.others (told_before p.goes_on t) r n ∙ p.left t r n;
  written = λ t r n. q.written (told_before p.goes_on t) r ∙ p.written t r n;
}

-- and so does writing to the output
streams_said : {name : List ℕ} {a b c : DeskState} {bytes : List ℕ} → Streams name a b → Appends Output bytes b c → Streams name a c
streams_said p q = record {
  goes_on = goes_on_then p.goes_on q.goes_on;
  requests = q.requests ∙ p.requests;
  begins = λ r n. q.begins r ∙ p.begins r n;
  left = λ t r n. q.left (told_before p.goes_on t) r ∙ p.left t r n;
  written = λ t r n. q.others (told_before p.goes_on t) r n ∙ p.written t r n;
}

-- the bytes of more samples stand after those of the first
front_more : (t : Files) (s more : List ℤ) → front t (s ++ more) ≡ front t s ++ flat_map (sample_bytes t.head.coding t.head.bits) more
front_more t s more =
    let head = head_of t.head in
    ap (λ v. head ++ v) (flat_map-append (sample_bytes t.head.coding t.head.bits) s more)
    ∙ sym (append_assoc head (flat_map (sample_bytes t.head.coding t.head.bits) s) (flat_map (sample_bytes t.head.coding t.head.bits) more))

front_none : (t : Files) → front t [] ≡ head_of t.head
front_none t = append-nil (head_of t.head)

module _ (t : Files) (done : ℕ) (a b c : DeskState) (h s : List ℤ) (w : Streamed t done a b h s) where
  tells : IsTrue a.tells → IsTrue b.tells
  tells x = told_before w.streams.goes_on x

  -- samples more were said
  pub said_on : (more : List ℤ) → Appends Output (flat_map (sample_bytes t.head.coding t.head.bits) more) b c → KeepsFaults b c
      → Streamed t done a c h (s ++ more)
  said_on more p steady = record {
    streams = streams_said w.streams p;
    begun = p.begins Output ∙ w.begun;
    faults = λ r. steady r ∙ w.faults r;
    long = w.long;
    heard = λ x. subst (λ (l : List ℕ). AreHeard t.input t.held h (a.left Input) l) (sym (p.left (tells x) Input)) (w.heard x);
    said = λ x. p.appended (tells x) ∙ ap (λ v. v ++ flat_map (sample_bytes t.head.coding t.head.bits) more) (w.said x) ∙ sym (front_more t s more);
  }

  -- they could not be
  pub said_stops : (more : List ℤ) → (part : List ℕ) × IsPrefixOf part (flat_map (sample_bytes t.head.coding t.head.bits) more) × Appends Output part b c
      → HasFault Output b c
      → (IsTrue b.tells → IsUnfailing Output b
      → length (b.written Output) + length (flat_map (sample_bytes t.head.coding t.head.bits) more) ≤ b.room Output → ⊥)
      → CannotGoOn t a c h s more
  said_stops more p fault unsure = record {
    streams = streams_said w.streams p.2;
    begun = p.2.begins Output ∙ w.begun;
    cannot = record {
      fault = fault_earlier c Output w.streams.goes_on fault;
      others = λ r n. p.2.other_faults r n ∙ w.faults r;
      unsure = λ x safe fits.
          let written = ap length (w.said x) in
          let all : length (front t (s ++ more)) ≡ length (front t s) + length (flat_map (sample_bytes t.head.coding t.head.bits) more) =
          ap length (front_more t s more) ∙ length-append (front t s) (flat_map (sample_bytes t.head.coding t.head.bits) more) in
          let room = w.streams.goes_on.room x Output in
          unsure (tells x) (unfailing_later Output w.streams.goes_on x safe) (omega (arith, written, all, room, fits));
    };
    heard = λ x. subst (λ (l : List ℕ). AreHeard t.input t.held h (a.left Input) l) (sym (p.2.left (tells x) Input)) (w.heard x);
    said = λ x. (p.0, p.1, p.2.appended (tells x) ∙ ap (λ v. v ++ p.0) (w.said x));
  }

-- where there is no input, frames of no samples are heard
pub nothing_heard : (t : Files) (done : ℕ) (a b : DeskState) (h s : List ℤ) → Streamed t done a b h s → t.input ≡ None → (n : ℕ) (to : List ℤ)
    → length to ≡ n * channels_of t.input → Streamed t (done + n) a b (h ++ to) s
nothing_heard t done a b h s w none n to long =
    let none_is : channels_of t.input ≡ 0 = ap channels_of none in
    let empty : to ≡ [] = no_samples to (long ∙ ap (λ k. n * k) none_is ∙ omega arith) in
    let same : h ++ to ≡ h = ap (λ xs. h ++ xs) empty ∙ append-nil h in
    record {
      streams = w.streams;
      begun = w.begun;
      faults = w.faults;
      long = let x = w.long in let y = ap length same in let z = add-mul done n (channels_of t.input) in
          let o : n * channels_of t.input ≡ 0 = ap (λ k. n * k) none_is ∙ omega arith in
          omega (arith, x, y, z, o);
      heard = λ x. subst (λ xs. AreHeard t.input t.held xs (a.left Input) (b.left Input)) (sym same) (w.heard x);
      said = w.said;
    }

-- bytes of an input that is left to read were taken, or could not be
module _ (t : Files) (done : ℕ) (i : Incoming) (is : t.input ≡ Some i) (fresh : t.held ≡ None) (a b c : DeskState) (h s : List ℤ)
    (w : Streamed t done a b h s) where
  told_by : IsTrue a.tells → IsTrue b.tells
  told_by x = told_before w.streams.goes_on x

  taken_by : IsTrue a.tells → AreTaken i.coding i.bits h (a.left Input) (b.left Input)
  taken_by x =
      subst (λ (o : Option (List ℕ)). AreHeard (Some i) o h (a.left Input) (b.left Input)) fresh
      (subst (λ (o : Option Incoming). AreHeard o t.held h (a.left Input) (b.left Input)) is (w.heard x))

  heard_by : (xs : List ℤ) → AreTaken i.coding i.bits xs (a.left Input) (c.left Input) → AreHeard t.input t.held xs (a.left Input) (c.left Input)
  heard_by xs p =
      subst (λ (o : Option Incoming). AreHeard o t.held xs (a.left Input) (c.left Input)) (sym is)
      (subst (λ (o : Option (List ℕ)). AreHeard (Some i) o xs (a.left Input) (c.left Input)) (sym fresh) p)

  wide : channels_of t.input ≡ i.channels
  wide = ap channels_of is

  -- frames more were heard
  pub heard_on : (n : ℕ) (piece : List ℤ) → length piece ≡ n * i.channels
      → Passes (length piece * (i.bits / 8)) (piece ≡ samples_in i.coding i.bits (length piece) (b.left Input)) b c
      → Streamed t (done + n) a c (h ++ piece) s
  heard_on n piece long p = record {
    streams = streams_heard w.streams p.takes;
    begun = p.takes.begins Output ∙ w.begun;
    faults = λ r. p.steady r ∙ w.faults r;
    long = let x = w.long in let y = length-append h piece in let z = add-mul done n (channels_of t.input) in
        let o : n * channels_of t.input ≡ n * i.channels = ap (λ k. n * k) wide in
        omega (arith, x, y, z, o, long);
    heard = λ x. heard_by (h ++ piece) (taken_more p.bytes (taken_by x) (p.takes.taken (told_by x)) p.long (p.told (told_by x)));
    said = λ x. p.takes.written (told_by x) Output ∙ w.said x;
  }

  -- what is there is less than was asked for
  short : (n place end : ℕ) → place ≡ i.place + done * frame_size i.channels i.bits → IsTrue a.tells
      → length (b.left Input) < n * i.channels * (i.bits / 8) → end ≡ place + length (b.left Input)
      → (length (a.left Input) < length h * (i.bits / 8) + n * frame_size i.channels i.bits) × (end ≡ i.place + length (a.left Input))
  short n place end at x less is_end =
      let k = taken_by x in
      let size = i.bits / 8 in
      let left : length (b.left Input) ≡ length (a.left Input) - length h * size = ap length k.rest ∙ length-drop (length h * size) (a.left Input) in
      let there = k.there in
      let asked : n * i.channels * size ≡ n * frame_size i.channels i.bits = mul_assoc n i.channels size in
      let past : length h * size ≡ done * frame_size i.channels i.bits =
      ap (λ m. m * size) (w.long ∙ ap (λ m. done * m) wide) ∙ mul_assoc done i.channels size in
      (omega (arith, less, left, there, asked), omega (arith, is_end, at, left, there, past))

  -- the input could not be heard
  pub heard_stops : (n place : ℕ) (e : Stop) → place ≡ i.place + done * frame_size i.channels i.bits
      → Misses (n * i.channels * (i.bits / 8)) place b c e → CannotHear t i a c h s n e
  heard_stops n place e at q = record {
    streams = streams_heard w.streams q.some.takes;
    begun = q.some.takes.begins Output ∙ w.begun;
    said = λ x. q.some.takes.written (told_by x) Output ∙ w.said x;
    heard = λ x. let k = taken_by x in record { are = k.are; there = k.there; rest = refl };
    cause = ⊎_elim
        (λ f. inl (
          f.0,
          record {
            counted = fault_earlier c Input w.streams.goes_on f.1.counted;
            due = λ x safe. f.1.due (told_by x) (unfailing_later Input w.streams.goes_on x safe);
          },
          λ r m. q.some.takes.other_faults r m ∙ w.faults r,
        ))
        (λ f. inr (f.0, f.1, λ r. f.2 r ∙ w.faults r, λ x. let y = f.3 (told_by x) in let z = short n place f.0 at x y.0 y.2 in (z.0, y.1, z.1))) q.cause;
  }

-- frames more were heard of bytes that were read before
pub held_on : (t : Files) (done : ℕ) (i : Incoming) (held : List ℕ) (a b : DeskState) (h s : List ℤ) → t.input ≡ Some i → t.held ≡ Some held
    → Streamed t done a b h s → (n : ℕ) (piece : List ℤ) → length piece ≡ n * i.channels
    → done * frame_size i.channels i.bits + length piece * (i.bits / 8) ≤ length held
    → piece ≡ samples_in i.coding i.bits (length piece) (drop (done * frame_size i.channels i.bits) held)
    → Streamed t (done + n) a b (h ++ piece) s
held_on t done i held a b h s is kept w n piece long there are = record {
  streams = w.streams;
  begun = w.begun;
  faults = w.faults;
  long = let x = w.long in let y = length-append h piece in let z = add-mul done n (channels_of t.input) in
      let o : n * channels_of t.input ≡ n * i.channels = ap (λ k. n * k) (ap channels_of is) in
      omega (arith, x, y, z, o, long);
  heard = λ x.
      let p : AreHeard (Some i) (Some held) h (a.left Input) (b.left Input) =
      subst (λ (o : Option (List ℕ)). AreHeard (Some i) o h (a.left Input) (b.left Input)) kept
      (subst (λ (o : Option Incoming). AreHeard o t.held h (a.left Input) (b.left Input)) is (w.heard x)) in
      let past : length h * (i.bits / 8) ≡ done * frame_size i.channels i.bits =
      ap (λ m. m * (i.bits / 8)) (w.long ∙ ap (λ m. done * m) (ap channels_of is)) ∙ mul_assoc done i.channels (i.bits / 8) in
      let more = taken_next p.0 (omega (arith, past, there)) (are ∙ ap (λ m. samples_in i.coding i.bits (length piece) (drop m held)) (sym past)) in
      subst (λ (o : Option Incoming). AreHeard o t.held (h ++ piece) (a.left Input) (b.left Input)) (sym is)
      (subst (λ (o : Option (List ℕ)). AreHeard (Some i) o (h ++ piece) (a.left Input) (b.left Input)) (sym kept) (more, p.1));
  said = w.said;
}

-- ---- the output is begun

-- from a, the output of this name was asked for, and begun, with no bytes, by b
pub record BeginsOutput (name : List ℕ) (a b : DeskState) : Type 0 where
  pub goes_on : GoesOn a b
  pub asked : b.requests ≡ a.requests ++ to_write Output name ∷ []
  pub begun : HasBegun a b
  pub others : (r : Role) → r ≢ Output → b.begins r ≡ a.begins r
  pub left : KeepsLeft a b
  pub written : KeepsWrittenBut Output a b
  pub empty : IsTrue a.tells → b.written Output ≡ []
  pub steady : KeepsFaults a b

module _ (t : Files) (a b c : DeskState) (w : BeginsOutput t.output a b) where
  streams_begun : {bytes : List ℕ} → Appends Output bytes b c → Streams t.output a c
  streams_begun p = record {
    goes_on = goes_on_then w.goes_on p.goes_on;
    requests = p.requests ∙ w.asked;
    begins = λ r n. p.begins r ∙ w.others r n;
    left = λ x r n. p.left (told_before w.goes_on x) r ∙ w.left x r;
    written = λ x r n. p.others (told_before w.goes_on x) r n ∙ w.written x r n;
  }

  pub begun_is : Appends Output (head_of t.head) b c → KeepsFaults b c → Streamed t 0 a c [] []
  begun_is p steady = record {
    streams = streams_begun p;
    begun = p.begins Output ∙ w.begun;
    faults = λ r. steady r ∙ w.steady r;
    long = let z : 0 * channels_of t.input ≡ 0 = omega arith in sym z;
    heard = λ x. none_heard t.input t.held (a.left Input) (c.left Input) (p.left (told_before w.goes_on x) Input ∙ w.left x Input);
    said = λ x. p.appended (told_before w.goes_on x) ∙ ap (λ v. v ++ head_of t.head) (w.empty x) ∙ sym (front_none t);
  } where
    none_heard : (o : Option Incoming) (held : Option (List ℕ)) (before after : List ℕ) → after ≡ before → AreHeard o held [] before after
    none_heard None held before after same = (refl, same)
    none_heard (Some i) None before after same = taken_nothing i.coding i.bits before after same
    none_heard (Some i) (Some bytes) before after same =
        let z : 0 * (i.bits / 8) ≡ 0 = omega arith in
        (taken_nothing i.coding i.bits bytes (drop (0 * (i.bits / 8)) bytes) (ap (λ k. drop k bytes) z), same)

  -- and its head could not be written
  pub head_stops : (part : List ℕ) × IsPrefixOf part (head_of t.head) × Appends Output part b c → HasFault Output b c
      → (IsTrue b.tells → IsUnfailing Output b
      → length (b.written Output) + length (head_of t.head) ≤ b.room Output → ⊥)
      → CannotBegin t a c
  head_stops p fault unsure = record {
    streams = streams_begun p.2;
    cannot = record {
      fault = fault_earlier c Output w.goes_on fault;
      others = λ r n. p.2.other_faults r n ∙ w.steady r;
      unsure = λ x safe fits.
          let none : length (b.written Output) ≡ 0 = ap length (w.empty x) in
          let all = ap length (front_none t) in
          let room = w.goes_on.room x Output in
          unsure (told_before w.goes_on x) (unfailing_later Output w.goes_on x safe) (omega (arith, none, all, room, fits));
    };
    left = λ x. p.2.left (told_before w.goes_on x) Input ∙ w.left x Input;
    output = inr (
      p.2.begins Output ∙ w.begun,
      λ x.
          let part = p.2.appended (told_before w.goes_on x) ∙ ap (λ v. v ++ p.0) (w.empty x) in
          record { rest = p.1.rest; is = front_none t ∙ p.1.is ∙ ap (λ v. v ++ p.1.rest) (sym part) },
    );
  }

-- it could not be begun
pub begin_stops : (t : Files) (a b : DeskState) → GoesOn a b → b.requests ≡ a.requests ++ to_write Output t.output ∷ [] → KeepsBytes a b
    → KeepsFaultsBut Output a b → HasFault Output a b → (IsTrue a.tells → IsUnfailing Output a → ⊥) → CannotBegin t a b
begin_stops t a b on asked kept others fault unsure = record {
  streams = record {
    goes_on = on;
    requests = asked;
    begins = λ r n. kept.begins r;
    left = λ x r n. kept.left x r;
    written = λ x r n. kept.written x r;
  };
  cannot = record { fault = fault; others = others; unsure = λ x safe fits. unsure x safe };
  left = λ x. kept.left x Input;
  output = inl (record { begins = kept.begins Output; written = λ x. kept.written x Output });
}

-- ---- numbers

-- all frames that are stated are within the bytes that are
pub behind_fits : (t : FileTape) (i : Incoming) → IsTape t → t.input ≡ Some i → t.done * frame_size i.channels i.bits < 2 ^ 32
behind_fits t i v is =
    let frame = frame_size i.channels i.bits in
    let stated : t.stated ≡ stated_frames (layout_of i) = v.stated i is in
    let all : t.stated * frame ≤ i.data_bytes = subst (λ k. k * frame ≤ i.data_bytes) (sym stated) (div-mul-le_self i.data_bytes frame) in
    let done = rows_fit t.done t.stated frame v.done in
    let ranges : IsInput i = v.input i is in
    let size : i.data_bytes < 2 ^ 32 = ranges.size in
    omega (arith, all, done, size)

pub asked_within : (t : FileTape) (i : Incoming) → IsTape t → t.input ≡ Some i → (n long : ℕ) → n ≤ t.stated - t.done → long ≡ n * i.channels
    → t.done * frame_size i.channels i.bits + long * (i.bits / 8) ≤ whole_bytes (layout_of i)
asked_within t i v is n long there long_is =
    let frame = frame_size i.channels i.bits in
    let done = v.done in
    let fit = rows_fit (t.done + n) t.stated frame (omega (arith, there, done)) in
    let sum = add-mul t.done n frame in
    let part : long * (i.bits / 8) ≡ n * frame = ap (λ k. k * (i.bits / 8)) long_is ∙ mul_assoc n i.channels (i.bits / 8) in
    let whole : t.stated * frame ≡ whole_bytes (layout_of i) = ap (λ k. k * frame) (v.stated i is) in
    omega (arith, fit, sum, part, whole)
