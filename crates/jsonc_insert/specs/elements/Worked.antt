-- Worked rows: elements that come into `[1]`, and into an array of two lines with a trailing comma.
use Rattle.std.specs.Prelude.{ℕ, List, codes}
use Rattle.jsonc_text.specs.Options.{Options, all_on}
use Rattle.jsonc_tree.specs.Content as content
use Rattle.jsonc_tree.specs.Content.{Content, newline, whitespace}
use Rattle.jsonc_tree.specs.OrderedTree.{OrderedTree, Top, none, more}
use Rattle.jsonc_tree.specs.declared.node.CstNewlineKind.TheVariants.{LineFeed}
use Rattle.jsonc_sound.specs.Shape.{token_then}
use Rattle.jsonc_insert.specs.elements.Coming.{ElementInserted}

-- numbers, spaces and ends of lines, and then a row
abbrev pub number_then : List ℕ → OrderedTree → OrderedTree
number_then s row = more (content.number s) none row

abbrev pub blank_then : List ℕ → OrderedTree → OrderedTree
blank_then s row = more (whitespace s) none row

abbrev pub line_then : OrderedTree → OrderedTree
line_then row = more (newline LineFeed) none row

abbrev pub two : Top
two = record { content = content.number (codes "2"); below = none }

-- `1` becomes `1, 2`, whatever the options
abbrev pub ComesBehind : Options → Type 0
ComesBehind o =
    ElementInserted o two 1 (number_then (codes "1") none)
    (number_then (codes "1") (token_then 0x2C (blank_then (codes " ") (number_then (codes "2") none))))

-- `1` becomes `2, 1`
abbrev pub ComesFirst : Options → Type 0
ComesFirst o =
    ElementInserted o two 0 (number_then (codes "1") none)
    (number_then (codes "2") (token_then 0x2C (blank_then (codes " ") (number_then (codes "1") none))))

-- `1,` and the end of a line become `1,` and, on a line of its own, `2,` and the end of that
abbrev pub ComesOnALine : Type 0
ComesOnALine =
    ElementInserted all_on two 1 (number_then (codes "1") (token_then 0x2C (line_then none)))
    (number_then (codes "1") (token_then 0x2C (line_then (blank_then (codes "  ") (number_then (codes "2") (token_then 0x2C (line_then none)))))))
