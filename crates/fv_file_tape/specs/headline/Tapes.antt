-- What was heard of an input and said to an output, and how that stops (RIFF WAVE 1991; Sun audio; this project's profile).
use Rattle.std.specs.Prelude.{◌≡◌, ℕ, ◌+◌, ◌%◌, ◌^◌, IsTrue, List}
use Rattle.fv_base.specs.declared.role.Role.TheVariants.{Output}
use Rattle.fv_outside.specs.headline.Desk.{DeskState}
use Rattle.fv_pcm.specs.declared.coding.Coding.{Coding}
use Rattle.fv_pcm.specs.declared.coding.Coding.TheVariants as coding
use Rattle.fv_pcm.specs.headline.Sizes.{Layout}
use Rattle.fv_wav.specs.headline.Samples.{head_bytes}
use Rattle.fv_au.specs.headline.Reading.{head_bytes as au_head_bytes}
use Rattle.fv_file_tape.specs.declared.incoming.Incoming.{Incoming}

-- where an input's samples lie in its file
abbrev pub layout_of : Incoming → Layout
layout_of h = record { channels = h.channels; bits = h.bits; size = h.data_bytes; place = h.place }

-- the bytes of a head
abbrev pub head_in : Coding → (channels rate bits size : ℕ) → List ℕ
head_in coding.Wave channels rate bits size = head_bytes channels rate bits size
head_in coding.Au channels rate bits size = au_head_bytes channels rate bits size

-- writing of the output began once
abbrev pub HasBegun : (start now : DeskState) → Type 0
HasBegun start now = now.begins Output ≡ (start.begins Output + 1) % 2 ^ 64

-- the output was not begun, and is as it was
pub record KeepsOutput (start now : DeskState) : Type 0 where
  pub begins : now.begins Output ≡ start.begins Output
  pub written : IsTrue start.tells → now.written Output ≡ start.written Output
