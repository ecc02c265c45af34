-- Whether the text of a string is one of JSON, character by character (RFC 8259, 7).
use Rattle.std.specs.Prelude.{ℕ, ◌&&◌, ◌==◌, Bool, not, true, false, List, [], ◌∷◌, nat_lt}
use Rattle.jsonc_text.specs.Strings.{meaning}
use Rattle.jsonc_text.specs.string.Escapes.{is_plain}

-- the character may stand there, behind a backslash or not
abbrev pub may_stand : Bool → ℕ → Bool
may_stand true c = is_plain (meaning 0x22 c)
may_stand false c = nat_lt 0x1F c

-- each character may; whether a backslash comes before the first
abbrev pub plain_from : Bool → List ℕ → Bool
plain_from escaped [] = true
plain_from escaped (c ∷ r) = may_stand escaped c && plain_from (not escaped && c == 0x5C) r

-- and its quotes are double
abbrev pub is_json : List ℕ → Bool
is_json [] = false
is_json (c ∷ r) = c == 0x22 && plain_from false r
