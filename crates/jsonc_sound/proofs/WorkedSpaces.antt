-- The worked stretches.
use Rattle.std.proofs.Common.{◌≡◌, ap, refl, [], ◌∷◌, Some, codes, rules}
use Rattle.std.proofs.lemmas.Str.{chars-IsAscii}
use Rattle.jsonc_text.specs.Text.{next}
use Rattle.jsonc_tree.specs.Content.{Content}
use Rattle.jsonc_tree.specs.OrderedTree.{none, more, leaves}
use Rattle.jsonc_sound.specs.Adjacent.{first_char}
use Rattle.jsonc_sound.specs.Spaces.{space_then, spaced}
use Rattle.jsonc_sound.specs.WorkedSpaces.{one, quoted_a, three_and_end, true_and_end}

first_one : first_char (Content.number (codes "1")) ≡ Some 0x31
first_one = ap next (chars-IsAscii (codes "1") (search rules))

first_three : first_char (Content.number (codes "3")) ≡ Some 0x33
first_three = ap next (chars-IsAscii (codes "3") (search rules))

first_nine : first_char (Content.number (codes "9")) ≡ Some 0x39
first_nine = ap next (chars-IsAscii (codes "9") (search rules))

first_quote : first_char (Content.string (codes "\"a\"")) ≡ Some 0x22
first_quote = ap next (chars-IsAscii (codes "\"a\"") (search rules))

first_space : first_char (Content.whitespace (0x20 ∷ [])) ≡ Some 0x20
first_space = ap next (chars-IsAscii (0x20 ∷ []) (search rules))

pub left_out : spaced (leaves one) none (leaves three_and_end) ≡ space_then none
left_out = rw (first_one, first_three, first_space) refl

pub given_way : spaced (leaves one) (more (Content.number (codes "9")) none none) (leaves three_and_end) ≡ space_then (more (Content.number (codes "9")) none (space_then none))
given_way = rw (first_one, first_nine, first_space, first_nine, first_three) refl

pub quoted : spaced (leaves quoted_a) none (leaves true_and_end) ≡ none
quoted = rw first_quote refl
