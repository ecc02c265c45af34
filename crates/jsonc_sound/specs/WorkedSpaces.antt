-- Worked stretches: what comes where one leaves `[1[2]3]`, is replaced in it, or leaves `["a"[1]true]`.
use Rattle.std.specs.Prelude.{◌≡◌, codes, true}
use Rattle.jsonc_tree.specs.Content.{Content}
use Rattle.jsonc_tree.specs.OrderedTree.{OrderedTree, none, more, leaves}
use Rattle.jsonc_sound.specs.Shape.{token_then}
use Rattle.jsonc_sound.specs.Spaces.{space_then, spaced}

abbrev pub one : OrderedTree
one = more (Content.number (codes "1")) none none

abbrev pub quoted_a : OrderedTree
quoted_a = more (Content.string (codes "\"a\"")) none none

abbrev pub three_and_end : OrderedTree
three_and_end = more (Content.number (codes "3")) none (token_then 0x5D none)

abbrev pub true_and_end : OrderedTree
true_and_end = more (Content.boolean true) none (token_then 0x5D none)

-- `[1 3]`, `[1 9 3]` and `["a"true]`
abbrev pub WorkedSpaces : Type 0
WorkedSpaces =
    (spaced (leaves one) none (leaves three_and_end) ≡ space_then none)
    × (spaced (leaves one) (more (Content.number (codes "9")) none none) (leaves three_and_end)
    ≡ space_then (more (Content.number (codes "9")) none (space_then none)))
    × (spaced (leaves quoted_a) none (leaves true_and_end) ≡ none)
