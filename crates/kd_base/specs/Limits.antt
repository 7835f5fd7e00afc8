-- How long texts and contents are at most, and how far the clock and the job numbers go.
use Rattle.std.specs.Prelude.{ℕ}

-- the longest text that is read, in bytes
abbrev pub longest_text : ℕ
longest_text = 16777216

-- the longest content of an area, a message or a literal, in bytes
abbrev pub longest_content : ℕ
longest_content = 32767

-- the greatest clock, in ticks
abbrev pub last_clock : ℕ
last_clock = 999999999999

-- the greatest next job number
abbrev pub last_next_job : ℕ
last_next_job = 1000000000000
