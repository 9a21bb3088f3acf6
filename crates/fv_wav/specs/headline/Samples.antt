-- Samples and frames as bytes in a WAV file (RIFF WAVE 1991).
use Rattle.std.specs.Prelude.{ℕ, ◌+◌, ◌*◌, ◌%◌, ◌^◌, List, ◌++◌, replicate, codes}
use Rattle.byteorder.specs.Endian.{little_bytes}
pub use Rattle.fv_pcm.specs.headline.Sizes.{data_limit, data_size}
pub use Rattle.fv_pcm.specs.Sizes.{rows, data_length_of}
use Rattle.fv_wav.specs.headline.Reading.{frame_size}

-- ---- writing

-- the 44 bytes that stand before size bytes of samples
abbrev pub head_bytes : (channels rate bits size : ℕ) → List ℕ
head_bytes channels rate bits size =
    codes "RIFF" ++ little_bytes 4 (36 + size + size % 2) ++ codes "WAVEfmt " ++ little_bytes 4 16 ++ little_bytes 2 1
    ++ little_bytes 2 channels ++ little_bytes 4 rate ++ little_bytes 4 ((rate * frame_size channels bits) % 2 ^ 32)
    ++ little_bytes 2 (frame_size channels bits) ++ little_bytes 2 bits ++ codes "data" ++ little_bytes 4 size

-- one zero byte after an odd number of bytes
abbrev pub pad_bytes : ℕ → List ℕ
pad_bytes size = replicate (size % 2) 0
