-- How large things may be (this project's profile).
use Rattle.std.specs.Prelude.{◌≡◌}
use Rattle.fv_base.specs.declared.limits.TheConstants.{LONGEST_TEXT, GREATEST_LITERAL, DEEPEST_NESTING, SIZE_LIMIT, VISIT_LIMIT}
use Rattle.fv_base.specs.declared.limits.TheConstants.{MOST_DIAGRAMS, MOST_SCOPES, TABLE_LIMIT, DELAY_LIMIT, DELAY_BUDGET}
use Rattle.fv_base.specs.declared.limits.TheConstants.{MOST_CHANNELS, MOST_BLOCK, MOST_VECTORS, MOST_WORKERS, MOST_JOBS}
use Rattle.fv_base.specs.declared.limits.TheConstants.{MOST_VOICES, MOST_MADE, DATA_LIMIT, MOST_CHUNKS}

-- each limit is this number
abbrev pub LimitsAre : Type 0
LimitsAre =
    (LONGEST_TEXT ≡ 1048576)
    × (GREATEST_LITERAL ≡ 2147483647)
    × (DEEPEST_NESTING ≡ 128)
    × (SIZE_LIMIT ≡ 16384)
    × (VISIT_LIMIT ≡ 1000000)
    × (MOST_DIAGRAMS ≡ 8388608)
    × (MOST_SCOPES ≡ 2097152)
    × (TABLE_LIMIT ≡ 16777216)
    × (DELAY_LIMIT ≡ 1048575)
    × (DELAY_BUDGET ≡ 16777216)
    × (MOST_CHANNELS ≡ 256)
    × (MOST_BLOCK ≡ 4096)
    × (MOST_VECTORS ≡ 64)
    × (MOST_WORKERS ≡ 16)
    × (MOST_JOBS ≡ 16)
    × (MOST_VOICES ≡ 64)
    × (MOST_MADE ≡ 262144)
    × (DATA_LIMIT ≡ 4294967258)
    × (MOST_CHUNKS ≡ 4096)
