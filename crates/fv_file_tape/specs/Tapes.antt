-- What calls say beside `headline/Tapes`: what was heard of an input and said to an output, and how that stops (RIFF WAVE 1991; Sun audio;
-- this project's profile).
use Rattle.std.specs.Prelude.{◌≡◌, ◌≢◌, ◌⊎◌, ℕ, true, ◌+◌, ◌*◌, ◌/◌, ◌^◌, ◌<◌, ◌≤◌, IsTrue, List, []}
use Rattle.std.specs.Prelude.{◌∷◌, ◌++◌, length, drop, flat_map, ℤ, Option, Some, None, option_map}
use Rattle.std.specs.Option.{ForSome}
use Rattle.fv_base.specs.declared.limits.TheConstants.{MOST_CHANNELS}
use Rattle.fv_base.specs.declared.role.Role.{Role}
use Rattle.fv_base.specs.declared.role.Role.TheVariants.{Input, Output}
use Rattle.fv_base.specs.headline.Lists.{IsPrefixOf}
use Rattle.fv_pcm.specs.Words.{is_sample_width}
use Rattle.fv_outside.specs.headline.Requests.{to_write}
use Rattle.fv_outside.specs.headline.Desk.{DeskState, GoesOn, HasFault, KeepsFaults, IsUnfailing}
use Rattle.fv_outside.specs.Desk.{KeepsFaultsBut}
use Rattle.fv_outside.specs.Acts.{Act, Beginning, Hearing, Saying}
use Rattle.fv_pcm.specs.declared.coding.Coding.{Coding}
use Rattle.fv_pcm.specs.headline.Coded.{sample_bytes}
use Rattle.fv_pcm.specs.Coded.{samples_in}
use Rattle.fv_pcm.specs.headline.Sizes.{frame_size, stated_frames, whole_bytes, data_limit}
use Rattle.fv_wav.specs.Stopping.{IsFaultOfInput}
use Rattle.fv_file_tape.specs.declared.incoming.Incoming.{Incoming}
use Rattle.fv_file_tape.specs.declared.file_tape.OutputHead.{OutputHead}
use Rattle.fv_file_tape.specs.declared.file_tape.FileTape.{FileTape}
use Rattle.fv_file_tape.specs.declared.file_tape.Stop.{Stop}
use Rattle.fv_file_tape.specs.declared.file_tape.Stop.TheVariants as stop
use Rattle.fv_file_tape.specs.headline.Tapes.{layout_of, head_in, HasBegun, KeepsOutput}

-- how many samples a frame of the input has: none where there is no input
abbrev pub channels_of : Option Incoming → ℕ
channels_of None = 0
channels_of (Some i) = i.channels

abbrev pub head_of : OutputHead → List ℕ
head_of head = head_in head.coding head.channels head.rate head.bits head.size

-- the ranges of an input's numbers
pub record IsInput (i : Incoming) : Type 0 where
  pub some : 1 ≤ i.channels
  pub few : i.channels ≤ MOST_CHANNELS
  pub bits : is_sample_width i.bits ≡ true
  pub size : i.data_bytes < 2 ^ 32
  pub low : i.place < 2 ^ 45

-- What a tape hears of and says to: the output's name and head; the input, the bytes of its samples, where they were read before,
-- and how many frames there are to hear.
pub record Files : Type 0 where
  pub output : List ℕ
  pub head : OutputHead
  pub input : Option Incoming
  pub held : Option (List ℕ)
  pub stated : ℕ

abbrev pub files_of : FileTape → Files
files_of t = record { output = t.output.now; head = t.head; input = t.input; held = option_map (λ v. v.items) t.held; stated = t.stated }

-- the numbers of a tape fit together: there is room for the bytes of the most frames each way
pub record IsTape (t : FileTape) : Type 0 where
  pub input : ForSome t.input IsInput
  pub stated : ForSome t.input (λ i. t.stated ≡ stated_frames (layout_of i))
  pub held : ForSome t.input (λ i. ForSome t.held (λ v. whole_bytes (layout_of i) ≤ length v.items))
  pub done : t.done ≤ t.stated
  pub some : 1 ≤ t.head.channels
  pub few : t.head.channels ≤ MOST_CHANNELS
  pub bits : is_sample_width t.head.bits ≡ true
  pub size : t.head.size ≤ data_limit
  pub ears : ForSome t.input (λ i. t.most * i.channels * (i.bits / 8) ≤ length t.bytes.items)
  pub mouth : t.most * t.head.channels * (t.head.bits / 8) ≤ length t.bytes.items

-- the bytes of an output that begins with these samples
abbrev pub front : Files → (said : List ℤ) → List ℕ
front f s = head_of f.head ++ flat_map (sample_bytes f.head.coding f.head.bits) s

-- From start to now, writing of the output of this name was asked for. Beside it nothing changed but the bytes left of the input,
-- and counts.
pub record Streams (name : List ℕ) (start now : DeskState) : Type 0 where
  pub goes_on : GoesOn start now
  pub requests : now.requests ≡ start.requests ++ to_write Output name ∷ []
  pub begins : (r : Role) → r ≢ Output → now.begins r ≡ start.begins r
  pub left : IsTrue start.tells → (r : Role) → r ≢ Input → now.left r ≡ start.left r
  pub written : IsTrue start.tells → (r : Role) → r ≢ Output → now.written r ≡ start.written r

-- these samples were taken from the front of the bytes
pub record AreTaken (c : Coding) (bits : ℕ) (h : List ℤ) (before after : List ℕ) : Type 0 where
  pub are : h ≡ samples_in c bits (length h) before
  pub there : length h * (bits / 8) ≤ length before
  pub rest : after ≡ drop (length h * (bits / 8)) before

-- these samples of the input were heard, if there is one: from the bytes that were left of it, or from those that were read before
abbrev pub AreHeard : Option Incoming → (held : Option (List ℕ)) → List ℤ → (before after : List ℕ) → Type 0
AreHeard None held h before after = (h ≡ []) × (after ≡ before)
AreHeard (Some i) None h before after = AreTaken i.coding i.bits h before after
AreHeard (Some i) (Some bytes) h before after = AreTaken i.coding i.bits h bytes (drop (length h * (i.bits / 8)) bytes) × (after ≡ before)

-- These samples were heard and said, and no fault was counted.
pub record Streamed (f : Files) (done : ℕ) (start now : DeskState) (h s : List ℤ) : Type 0 where
  pub streams : Streams f.output start now
  pub begun : HasBegun start now
  pub faults : KeepsFaults start now
  pub long : length h ≡ done * channels_of f.input
  pub heard : IsTrue start.tells → AreHeard f.input f.held h (start.left Input) (now.left Input)
  pub said : IsTrue start.tells → now.written Output ≡ front f s

-- A fault of the output was counted, and none of another role. Before that, a call of it was to fail, or there was no room for
-- these bytes.
pub record CannotSay (bytes : List ℕ) (start now : DeskState) : Type 0 where
  pub fault : HasFault Output start now
  pub others : KeepsFaultsBut Output start now
  pub unsure : IsTrue start.tells → IsUnfailing Output start → length bytes ≤ start.room Output → ⊥

-- The output did not begin; it is as it was, or has a part of its head from its front.
pub record CannotBegin (f : Files) (start now : DeskState) : Type 0 where
  pub streams : Streams f.output start now
  pub cannot : CannotSay (front f []) start now
  pub left : IsTrue start.tells → now.left Input ≡ start.left Input
  pub output : KeepsOutput start now ⊎ (HasBegun start now × (IsTrue start.tells → IsPrefixOf (now.written Output) (front f [])))

-- a fault of the input was counted
abbrev pub InputFails : (start now : DeskState) → Stop → Type 0
InputFails start now e = (e ≡ stop.Read) × IsFaultOfInput start now × KeepsFaultsBut Input start now

-- The input ends before this many frames after h, where it is known to. All of it was taken, and no fault was counted.
abbrev pub InputEnds : Incoming → (start now : DeskState) → (h : List ℤ) (frames : ℕ) → Stop → Type 0
InputEnds i start now h frames e =
    (end : ℕ) × (e ≡ stop.End end) × KeepsFaults start now
    × (IsTrue start.tells → (length (start.left Input) < length h * (i.bits / 8) + frames * frame_size i.channels i.bits)
    × (now.left Input ≡ []) × (end ≡ i.place + length (start.left Input)))

-- These frames of an input that is left to read could not be heard after h.
pub record CannotHear (f : Files) (i : Incoming) (start now : DeskState) (h s : List ℤ) (frames : ℕ) (e : Stop) : Type 0 where
  pub streams : Streams f.output start now
  pub begun : HasBegun start now
  pub said : IsTrue start.tells → now.written Output ≡ front f s
  pub heard : IsTrue start.tells → AreTaken i.coding i.bits h (start.left Input) (drop (length h * (i.bits / 8)) (start.left Input))
  pub cause : InputFails start now e ⊎ InputEnds i start now h frames e

-- These samples could not be said after s: a part of them was, from their front.
pub record CannotGoOn (f : Files) (start now : DeskState) (h s more : List ℤ) : Type 0 where
  pub streams : Streams f.output start now
  pub begun : HasBegun start now
  pub cannot : CannotSay (front f (s ++ more)) start now
  pub heard : IsTrue start.tells → AreHeard f.input f.held h (start.left Input) (now.left Input)
  pub said : IsTrue start.tells → (part : List ℕ) × IsPrefixOf part (flat_map (sample_bytes f.head.coding f.head.bits) more)
      × (now.written Output ≡ front f s ++ part)

-- what stands where it stopped in this act
abbrev pub StopsIn : (f : Files) (start now : DeskState) (h s : List ℤ) → Act → Stop → Type 0
StopsIn f start now h s Beginning e = (e ≡ stop.Write) × CannotBegin f start now
StopsIn f start now h s (Hearing n) e = (i : Incoming) × (f.input ≡ Some i) × (f.held ≡ None) × CannotHear f i start now h s n e
StopsIn f start now h s (Saying more) e = (e ≡ stop.Write) × CannotGoOn f start now h s more
