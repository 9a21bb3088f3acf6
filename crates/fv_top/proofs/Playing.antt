-- What is played of an input's file, and what is made of it.
use Rattle.std.proofs.Common.{◌≡◌, ℕ, ◌+◌, ◌-◌, ◌*◌, ◌/◌, ◌<◌, ◌≤◌, ◌==◌, true, false, List, [], ◌++◌, length, take, drop, Option, Some, None, sym, ◌∙◌, ap}
use Rattle.std.proofs.Common.{refl, subst, arith, inl, inr, ⊎_elim, append_assoc, length-append, length-drop, length-take, take_all}
use Rattle.std.specs.Prelude.{IsTrue, IsSome, option_map, flat_map, if◌then◌else◌}
use Rattle.std.specs.Option.{ForSome}
use Rattle.std.proofs.Math.Nat.{mul-pos, mul-div_cancel, mul_assoc, mul-le-mul_left}
use Rattle.std.proofs.lemmas.Bool.{cases_lt, eq-eqb, ne_eqb}
use Rattle.std.proofs.lemmas.List.{append-nil, drop_all, drop-drop}
use Rattle.fv_base.specs.headline.Lists.{IsPrefixOf}
use Rattle.fv_base.proofs.lemmas.Lists.{length_table, prefix_trans}
use Rattle.fv_base.specs.declared.role.Role.TheVariants.{Input, Output}
use Rattle.fv_diagram.specs.Frames.{Frame, Stream}
use Rattle.fv_outside.specs.headline.Desk.{DeskState, HasFault, KeepsFaults, IsUnfailing}
use Rattle.fv_outside.specs.Desk.{Appends}
use Rattle.fv_outside.proofs.lemmas.States.{goes_on_then, told_before, fault_earlier, unfailing_later}
use Rattle.fv_pcm.specs.headline.Coded.{frame_bytes}
use Rattle.fv_diagram.specs.Words.{is_sample_width}
use Rattle.fv_pcm.specs.headline.Sizes.{frame_size, data_size}
use Rattle.fv_pcm.proofs.lemmas.Widths.{at_width}
use Rattle.fv_diagram.specs.headline.Diagram.{Diagram, outputs}
use Rattle.fv_diagram.specs.headline.Streams.{run}
use Rattle.fv_diagram.specs.headline.Samples.{no_slots}
use Rattle.fv_control.specs.headline.Streams.{control_streams}
use Rattle.fv_engine_render.specs.headline.Render.{initial_of}
use Rattle.fv_engine_render.specs.Files.{AreTakenOf, HasTaken, HasPlayed, StopsAt, IsStopFor, answered, answered_to, output_of, frames_at}
use Rattle.fv_file_tape.specs.headline.Tapes.{head_in}
use Rattle.fv_file_tape.specs.Tapes.{IsInput, Streams, CannotSay, channels_of, files_of}
use Rattle.fv_file_tape.specs.declared.incoming.Incoming.{Incoming}
use Rattle.fv_file_tape.specs.declared.file_tape.OutputHead.{OutputHead}
use Rattle.fv_file_tape.specs.declared.file_tape.Stop.{Stop}
use Rattle.fv_file_tape.specs.declared.file_tape.Stop.TheVariants as stop
use Rattle.fv_top_report.specs.Parts.{AppendsPart}
use Rattle.fv_top_files.specs.declared.format.OutputFormat.{OutputFormat as Made}
use Rattle.fv_top.specs.declared.prepare.Prepared.{Prepared}
use Rattle.fv_top_files.specs.headline.Inputs.{stated_frames, whole_bytes, truncated, coding_in}
use Rattle.fv_top_files.specs.headline.Sources.{Source, frames_of, data_of}
use Rattle.fv_top_files.specs.headline.Output.{OutputFormat, channels_in, present_in, cut_in, pad_in, output_file}
use Rattle.fv_top_files.specs.headline.Loading.{IsRest, IsWithin}
use Rattle.fv_top_files.specs.Loading.{IsLeft}
use Rattle.fv_top_files.specs.Formats.{format_in}
use Rattle.fv_top.specs.inner.Prepared.{CanRun, HasRun, IsEndFor, EndsAt, output_head, coding_heard, frames_there, file_on, file_to, file_there}
use Rattle.fv_top_program.specs.headline.Compiled.{Compiled}

-- ---- the frames of a file

-- the whole frames that are there of what is left, or was read, are those that are present in the file
pub frames_are : (head : Option Incoming) (held : Option (List ℕ)) (bytes left : List ℕ) (stated : ℕ) → IsLeft head held bytes left
    → frames_at head held stated left ≡ frames_of stated head (data_of head bytes)
frames_are None held bytes left stated l = refl
frames_are (Some h) None bytes left stated l = ap (λ w. frames_of stated (Some h) (take (whole_bytes h) w)) l.1
frames_are (Some h) (Some held) bytes left stated l = ap (λ w. frames_of stated (Some h) (take (whole_bytes h) w)) l.1

-- how the samples of a file are stored
pub coding_is : (head : Option Incoming) → coding_heard head ≡ coding_in head
coding_is None = refl
coding_is (Some h) = refl

-- where the bytes of a file end whose samples are left to read
pub end_is : (head : Option Incoming) (held : Option (List ℕ)) (bytes left : List ℕ) (i : Incoming) → IsLeft head held bytes left
    → head ≡ Some i → held ≡ None → i.place + length left ≡ length bytes
end_is None held bytes left i l is fresh = absurd cc
end_is (Some h) None bytes left i l is fresh =
    let same : h ≡ i = cc in
    let long : length left ≡ length bytes - h.place = ap length l.1 ∙ length-drop h.place bytes in
    let place = l.2 in
    subst (λ (j : Incoming). j.place + length left ≡ length bytes) same (omega (arith, long, place))
end_is (Some h) (Some held) bytes left i l is fresh = absurd cc

-- how many a frame has
pub channels_are : (head : Option Incoming) → channels_of head ≡ channels_in head
channels_are None = refl
channels_are (Some h) = refl

-- room for a frame is room for a block of them
pub room_is : (n c k frame long : ℕ) → c * k ≤ frame → long ≡ n * frame → n * c * k ≤ long
room_is n c k frame long few is =
    let flat : n * c * k ≡ n * (c * k) = mul_assoc n c k in
    let more : n * (c * k) ≤ n * frame = mul-le-mul_left n few in
    omega (arith, flat, more, is)

-- ---- how far it is read

-- no bytes are taken where there is no input
pub taken_none : (o : Option Incoming) (held : Option (List ℕ)) (n : ℕ) (before after : List ℕ) → (IsSome o → ⊥) → AreTakenOf o held n before after
    → after ≡ before
taken_none None held n before after none t = t
taken_none (Some i) held n before after none t = absurd (none refl)

rows_few : (n m w : ℕ) → n ≤ m → n * w ≤ m * w
rows_few n m w h = let e : n + (m - n) ≡ m = omega (arith, h) in subst (λ (x : ℕ). n * w ≤ x * w) e (omega arith)

-- What is taken lies within the frames that a head states, where n is at most their number.
pub taken_within : (head : Option Incoming) (held : Option (List ℕ)) (bytes left new : List ℕ) (n : ℕ) → IsLeft head held bytes left
    → ForSome head (λ h. n ≤ stated_frames h) → AreTakenOf head held n left new → IsWithin head bytes new
taken_within None held bytes left new n l few t = tt
taken_within (Some h) None bytes left new n l few t =
    let closed = l.0 in
    let size = frame_size h.channels h.bits in
    rw closed (n * size, rows_few n (stated_frames h) size (few h refl), t ∙ ap (drop (n * size)) l.1 ∙ drop-drop (n * size) h.place bytes)
taken_within (Some h) (Some held) bytes left new n l few t =
    let opened = l.0 in
    let all : length bytes ≤ h.place + h.data_bytes = omega (arith, ap length l.1, length-drop h.place bytes, l.2, l.3) in
    rw opened (h.data_bytes, omega arith, t ∙ l.4 ∙ sym (drop_all (h.place + h.data_bytes) bytes all))

-- and of all of them just these
pub taken_all : (head : Option Incoming) (held : Option (List ℕ)) (bytes left new : List ℕ) (n : ℕ) → IsLeft head held bytes left
    → ForSome head (λ h. n ≡ stated_frames h) → AreTakenOf head held n left new → IsRest head bytes new
taken_all None held bytes left new n l is t = tt
taken_all (Some h) None bytes left new n l is t =
    let closed = l.0 in
    let size = frame_size h.channels h.bits in
    rw closed (t ∙ ap (λ k. drop (k * size) left) (is h refl) ∙ ap (drop (whole_bytes h)) l.1 ∙ drop-drop (whole_bytes h) h.place bytes)
taken_all (Some h) (Some held) bytes left new n l is t =
    let opened = l.0 in
    let all : length bytes ≤ h.place + h.data_bytes = omega (arith, ap length l.1, length-drop h.place bytes, l.2, l.3) in
    rw opened (t ∙ l.4 ∙ sym (drop_all (h.place + h.data_bytes) bytes all))

-- a frame has some bytes
width_some : (bits : ℕ) → is_sample_width bits ≡ true → 1 ≤ bits / 8
width_some bits h = at_width (λ b. 1 ≤ b / 8) bits h (omega arith) (omega arith) (omega arith) (omega arith)

pub frame_some : (o head : Option Incoming) → o ≡ head → ForSome o IsInput → ForSome head (λ h. 0 < frame_size h.channels h.bits)
frame_some o head is range h named =
    let i = range h (is ∙ named) in
    mul-pos i.some (width_some h.bits i.bits)

-- a file that ends within its whole frames has no byte after them
pub end_rest : (head : Option Incoming) (bytes new : List ℕ) (n : ℕ) → ForSome head (λ h. n ≡ stated_frames h)
    → ForSome head (λ h. 0 < frame_size h.channels h.bits) → ForSome head (λ h. h.is_open ≡ false) → length (frames_of n head (data_of head bytes)) < n
    → new ≡ [] → IsRest head bytes new
end_rest None bytes new n is some closed short none = tt
end_rest (Some h) bytes new n is some closed short none =
    let shut = closed h refl in
    let size = frame_size h.channels h.bits in
    let there = take (whole_bytes h) (drop h.place bytes) in
    let count : length (frames_of n (Some h) there) ≡ length there / size = length_table _ _ in
    let all : length bytes ≤ h.place + whole_bytes h =
    ⊎_elim
    (λ (more : h.place + whole_bytes h < length bytes).
    let full : length there ≡ stated_frames h * size = omega (arith, more, length-take (whole_bytes h) (drop h.place bytes), length-drop h.place bytes) in
    let whole : length there / size ≡ stated_frames h = ap (λ k. k / size) full ∙ mul-div_cancel (stated_frames h) (some h refl) in
    let same = is h refl in
    absurd (omega (arith, short, count, whole, same)))
    (λ (less : length bytes ≤ h.place + whole_bytes h). less)
    (cases_lt (h.place + whole_bytes h) (length bytes)) in
    rw shut (none ∙ sym (drop_all (h.place + whole_bytes h) bytes all))

-- a file whose samples were not read before states how many they are
pub left_closed : (head : Option Incoming) (held : Option (List ℕ)) (bytes left : List ℕ) → IsLeft head held bytes left → held ≡ None
    → ForSome head (λ h. h.is_open ≡ false)
left_closed None held bytes left l fresh h named = absurd cc
left_closed (Some k) None bytes left l fresh h named = let same : k ≡ h = cc in subst (λ (j : Incoming). j.is_open ≡ false) same l.0
left_closed (Some k) (Some held) bytes left l fresh h named = absurd cc

-- ---- an input that is cut short, or whole

not_all : (n m : ℕ) → n < m → (n == m) ≡ false
not_all n m h = ne_eqb n m (λ (e : n ≡ m). absurd (omega (arith, h, e)))

pub cut_is : (format : OutputFormat) (source : Source) → length (present_in format source) < format.frames
    → cut_in format source ≡ Some (truncated (coding_in source.head) (length source.bytes))
cut_is format source short =
    let other : (length (present_in format source) == format.frames) ≡ false = not_all (length (present_in format source)) format.frames short in
    rw other refl

pub whole_is : (format : OutputFormat) (source : Source) → length (present_in format source) ≡ format.frames → cut_in format source ≡ None
whole_is format source all =
    let same : (length (present_in format source) == format.frames) ≡ true = eq-eqb _ _ all in
    rw same refl

-- ---- the bytes of the output

-- the bytes of its frames
abbrev pub size_in : Diagram → Made → ℕ
size_in d f = data_size (outputs d) f.bits f.frames

-- the head of an output states them
pub record IsSized (d : Diagram) (f : Made) (h : OutputHead) : Type 0 where
  pub size : f.size ≡ size_in d f
  pub head : h ≡ output_head (outputs d) f

module _ (d : Diagram) (c : ℕ → Stream) (f : Made) (head : OutputHead) (s : IsSized d f head) (X : List Frame) where
  -- what is answered, after a head of this size
  abbrev answer : (size : ℕ) → List ℕ
  answer size = output_of (record { coding = f.coding; channels = outputs d; rate = f.rate; bits = f.bits; size = size }) d c X

  answer_is : output_of head d c X ≡ answer (size_in d f)
  answer_is = ap (λ (h : OutputHead). output_of h d c X) s.head ∙ ap answer s.size

  abbrev front : List ℕ
  front = head_in f.coding (outputs d) f.rate f.bits (size_in d f)

  abbrev bytes : List ℕ
  bytes = flat_map (frame_bytes f.coding f.bits) (run d c no_slots X)

  -- where all frames are there, with what follows their bytes
  pub file_whole : length X ≡ f.frames → output_of head d c X ++ pad_in f.coding f.size ≡ output_file d c (format_in f) X
  file_whole all =
      let same : (length X == f.frames) ≡ true = eq-eqb (length X) f.frames all in
      ap (λ w. w ++ pad_in f.coding f.size) answer_is ∙ ap (λ n. answer (size_in d f) ++ pad_in f.coding n) s.size
      ∙ append_assoc front bytes (pad_in f.coding (size_in d f)) ∙ rw same refl

  -- where some are missing, with none
  pub file_short : length X < f.frames → output_of head d c X ≡ output_file d c (format_in f) X
  file_short short =
      let other : (length X == f.frames) ≡ false = not_all (length X) f.frames short in
      answer_is ∙ rw other (ap (λ w. front ++ w) (sym (append-nil bytes)))

  -- and in each case it begins with the bytes of those that are there
  pub file_begins : IsPrefixOf (output_of head d c X) (output_file d c (format_in f) X)
  file_begins =
      let pad : List ℕ = if length X == f.frames then pad_in f.coding (size_in d f) else [] in
      record { rest = pad; is = sym (append_assoc front bytes pad) ∙ ap (λ w. w ++ pad) (sym answer_is) }

-- ---- what is ready is played

streams_then : {name ys : List ℕ} {a b e : DeskState} → Streams name a b → Appends Output ys b e → Streams name a e
streams_then k q = record {
  goes_on = goes_on_then k.goes_on q.goes_on;
  requests = q.requests ∙ k.requests;
  begins = λ r n. q.begins r ∙ k.begins r n;
  left = λ t r n. q.left (told_before k.goes_on t) r ∙ k.left t r n;
  written = λ t r n. q.others (told_before k.goes_on t) r n ∙ k.written t r n;
}

prefix_long : {xs ys : List ℕ} → IsPrefixOf xs ys → length xs ≤ length ys
prefix_long {xs} p = let e = ap length p.is ∙ length-append xs p.rest in omega (arith, e)

-- under which streams of the controls it is played, and what follows the samples
abbrev pub controls_in : Compiled → Prepared → ℕ → Stream
controls_in m p = control_streams p.script (initial_of m.controls)

abbrev pub pad_of : Prepared → List ℕ
pad_of p = pad_in p.format.coding p.format.size

abbrev answer_of : Compiled → Prepared → DeskState → List ℕ
answer_of m p a = answered m.diagram (controls_in m p) (files_of p.tape) a

module _ (m : Compiled) (p : Prepared) (can : CanRun m p) where
  sized : IsSized m.diagram p.format p.tape.head
  sized = record { size = can.size; head = can.head }

  begins_with : (a : DeskState) → IsPrefixOf (answer_of m p a) (file_there m p (a.left Input))
  begins_with a = file_begins m.diagram (controls_in m p) p.format p.tape.head sized (frames_there p (a.left Input))

  begins_to : (a : DeskState) (g : ℕ) → IsPrefixOf (answered_to m.diagram (controls_in m p) (files_of p.tape) g a) (file_to m p g (a.left Input))
  begins_to a g = file_begins m.diagram (controls_in m p) p.format p.tape.head sized (take g (frames_there p (a.left Input)))

  -- all frames were played
  module _ {a b : DeskState} (k : HasPlayed m.diagram (controls_in m p) (files_of p.tape) a b) where
    there_all : IsTrue a.tells → length (frames_there p (a.left Input)) ≡ p.sizes.frames
    there_all t = k.there t ∙ can.stated

    whole : IsTrue a.tells → answer_of m p a ++ pad_of p ≡ file_there m p (a.left Input)
    whole t =
        file_whole m.diagram (controls_in m p) p.format p.tape.head sized (frames_there p (a.left Input)) (there_all t ∙ sym can.frames)

    taken_then : {ys : List ℕ} {e : DeskState} → Appends Output ys b e → IsTrue a.tells → HasTaken (files_of p.tape) p.sizes.frames a e
    taken_then {e = e} q t =
        let held = (files_of p.tape).held in
        subst (λ n. AreTakenOf p.tape.input held n (a.left Input) (e.left Input)) can.stated
        (subst (λ l. AreTakenOf p.tape.input held p.tape.stated (a.left Input) l) (sym (q.left (told_before k.streams.goes_on t) Input)) (k.taken t))

    -- and what follows them was written
    pub run_whole : {e : DeskState} → Appends Output (pad_of p) b e → KeepsFaults b e → HasRun m p a e
    run_whole q steady = record {
      streams = streams_then k.streams q;
      begun = q.begins Output ∙ k.begun;
      faults = λ r. steady r ∙ k.faults r;
      there = there_all;
      taken = taken_then q;
      written = λ t. q.appended (told_before k.streams.goes_on t) ∙ ap (λ w. w ++ pad_of p) (k.written t) ∙ whole t;
    }

    -- or a part of it was
    pub pad_stops : {e : DeskState} → AppendsPart Output (pad_of p) b e → HasFault Output b e
        → (IsTrue b.tells → IsUnfailing Output b → length (b.written Output) + length (pad_of p) ≤ b.room Output → ⊥)
        → EndsAt m p p.sizes.frames a e stop.Write
    pad_stops {e} q failed unanswered =
        let on = k.streams.goes_on in
        let all = answer_of m p a in
        let cannot : CannotSay (file_there m p (a.left Input)) a e = record {
          fault = fault_earlier e Output on failed;
          others = λ r n. q.2.other_faults r n ∙ k.faults r;
          unsure = λ t safe fits.
              let said = ap length (k.written t) in
              let long = ap length (whole t) in
              let room = on.room t Output in
              unanswered (told_before on t) (unfailing_later Output on t safe) (omega (arith, said, long, room, fits, length-append all (pad_of p)));
        } in
        let part : IsTrue a.tells → IsPrefixOf (e.written Output) (file_there m p (a.left Input)) = λ t. record {
          rest = q.1.rest;
          is = sym (whole t) ∙ ap (λ w. all ++ w) q.1.is ∙ sym (append_assoc all q.0 q.1.rest)
              ∙ ap (λ w. w ++ q.1.rest) (sym (q.2.appended (told_before on t) ∙ ap (λ w. w ++ q.0) (k.written t)));
        } in
        let part_to : IsTrue a.tells → IsPrefixOf (e.written Output) (file_to m p p.sizes.frames (a.left Input)) = λ t.
        let X = frames_there p (a.left Input) in
        let count = there_all t in
        let same : take p.sizes.frames X ≡ X = take_all p.sizes.frames X (omega (arith, count)) in
        subst (λ Y. IsPrefixOf (e.written Output) (file_on m p Y)) (sym same) (part t) in
        record {
          streams = streams_then k.streams q.2;
          output = inr (q.2.begins Output ∙ k.begun, part);
          cause = (cannot, λ t. (p.sizes.frames, omega arith, taken_then q.2 t), inr part_to);
        }

  -- it stopped before
  cause_of : (a b : DeskState) (g : ℕ) → g ≤ p.tape.stated → (e : Stop)
      → IsStopFor m.diagram (controls_in m p) p.script p.sizes (files_of p.tape) g a b e → IsEndFor m p g a b e
  cause_of a b g few stop.Read h = (
    h.0,
    h.1,
    h.2,
    h.3,
    h.4,
    λ t.
        let y = h.5 t in
        let X = frames_there p (a.left Input) in
        let ahead = y.0 in
        let stated = can.stated in
        let frames = can.frames in
        let most = length-take g X in
        let part : length (take g X) < p.format.frames = omega (arith, ahead, stated, frames, most) in
        y.1 ∙ file_short m.diagram (controls_in m p) p.format p.tape.head sized (take g X) part,
  )
  cause_of a b g few (stop.End place) h = (
    h.0,
    h.1,
    h.2,
    h.3,
    h.4,
    λ t.
        let y = h.5 t in
        let X = frames_there p (a.left Input) in
        let short = y.short in
        let frames = can.frames in
        let most = length-take g X in
        let part : length (take g X) < p.format.frames = omega (arith, short, frames, most) in
        record {
          cut = y.cut;
          short = y.short;
          place_is = y.place_is;
          taken = y.taken;
          written = y.written ∙ file_short m.diagram (controls_in m p) p.format p.tape.head sized (take g X) part;
        },
  )
  cause_of a b g few stop.Write h = (
    record {
      fault = h.0.fault;
      others = h.0.others;
      unsure = λ t safe fits. let long = prefix_long (begins_with a) in h.0.unsure t safe (omega (arith, long, fits));
    },
    λ t. (g, (let same = can.stated in omega (arith, few, same)), h.1 t),
    ⊎_elim inl (λ o. inr (λ t. prefix_trans _ _ _ (o t) (begins_to a g))) h.2,
  )

  pub files_stop : {a b : DeskState} (g : ℕ) (e : Stop) → StopsAt m.diagram (controls_in m p) p.script p.sizes (files_of p.tape) g a b e → EndsAt m p g a b e
  files_stop {a} {b} g e k = record {
    streams = k.streams;
    output = ⊎_elim inl (λ o. inr (o.0, λ t. prefix_trans _ _ _ (o.1 t) (begins_with a))) k.output;
    cause = cause_of a b g k.few e k.cause;
  }
