-- What calls say beside `headline/Inputs`: inputs of either kind: what their heads say, and the samples after them (RIFF WAVE 1991; Sun
-- audio; this project's profile).
use Rattle.std.specs.Prelude.{◌≡◌, ◌^◌, ◌<◌, ◌≤◌, true}
use Rattle.fv_diagram.specs.Limits.TheConstants.{MOST_CHANNELS}
use Rattle.fv_diagram.specs.Words.{is_sample_width}
use Rattle.fv_file_tape.specs.declared.incoming.Incoming.{Incoming}

-- the ranges of what a head says
pub record IsIncoming (h : Incoming) : Type 0 where
  pub some : 1 ≤ h.channels
  pub few : h.channels ≤ MOST_CHANNELS
  pub bits : is_sample_width h.bits ≡ true
  pub size : h.data_bytes < 2 ^ 32
