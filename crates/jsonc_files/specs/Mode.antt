-- The mode of a file that takes another's place.
use Rattle.std.specs.Prelude.{ℕ, ◌+◌, ◌*◌, ◌/◌, ◌%◌, Bool, true, false, bit_and}

-- what both the group and the others may do
abbrev pub shared : ℕ → ℕ
shared mode = bit_and mode (mode / 8) % 8

-- The mode of the old file, where the new one has its owner and its group. Else no bit that runs it as another user or
-- group, and where the group is another one, the group and the others may do what both could.
abbrev pub fitting : ℕ → Bool → Bool → ℕ
fitting mode true true = bit_and mode 0o7777
fitting mode false true = bit_and mode 0o777
fitting mode _ false = bit_and mode 0o700 + shared mode * 8 + shared mode
