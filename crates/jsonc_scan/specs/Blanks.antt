-- Blanks of one byte.
use Rattle.std.specs.Prelude.{ℕ, Bool, not, ◌==◌, ◌||◌, ◌&&◌, nat_lt}

-- a blank of ASCII
abbrev pub is_narrow_blank : ℕ → Bool
is_narrow_blank c = (nat_lt 0x08 c && nat_lt c 0x0E) || c == 0x20

-- any other byte
abbrev pub is_no_narrow_blank : ℕ → Bool
is_no_narrow_blank c = not (is_narrow_blank c)
