-- Blank lines directly inside the brackets of a container, and its row without them. A row is a list of nodes by their numbers, the brackets among them.
use Rattle.std.specs.Prelude.{ℕ, ◌+◌, ◌-◌, Bool, not, List, ◌++◌, length, take, drop, reverse, slice_range, nat_lt, if◌then◌else◌}
use Rattle.std.specs.List.{take_while}
use Rattle.jsonc_tree.specs.Tree.{Node}
use Rattle.jsonc_layout.specs.nodes.Kinds.{is_blank_at, is_whitespace_at}
use Rattle.jsonc_insert.specs.declared.trim.Stretch.{Stretch}

-- how many nodes at the front of a row are blank, and how many are whitespace
abbrev pub blanks : List Node → List ℕ → ℕ
blanks ns row = length (take_while (is_blank_at ns) row)

abbrev pub spaces : List Node → List ℕ → ℕ
spaces ns row = length (take_while (is_whitespace_at ns) row)

-- the same at its end
abbrev pub last_blanks : List Node → List ℕ → ℕ
last_blanks ns row = blanks ns (reverse row)

abbrev pub last_spaces : List Node → List ℕ → ℕ
last_spaces ns row = spaces ns (reverse row)

-- a stretch of a row of which nothing leaves
abbrev pub nothing_at : ℕ → Stretch
nothing_at place = record { from = place; to = place }

-- of blanks at this place the nodes behind the first line's end, through the last one
abbrev pub behind_first_line : List Node → ℕ → List ℕ → Stretch
behind_first_line ns place run =
    if nat_lt (spaces ns run) (length run) then record { from = place + spaces ns run + 1; to = place + length run - last_spaces ns run } else nothing_at place

-- and those from the first line's end on, up to the last one
abbrev pub before_last_line : List Node → ℕ → List ℕ → Stretch
before_last_line ns place run =
    if nat_lt (spaces ns run) (length run) then record { from = place + spaces ns run; to = place + length run - last_spaces ns run - 1 } else nothing_at place

-- what stands between the brackets of a row
abbrev pub inside : List ℕ → List ℕ
inside row = slice_range row 1 (length row - 1)

-- the blank lines that leave behind the first bracket
abbrev pub first_gone : List Node → List ℕ → Stretch
first_gone ns row = behind_first_line ns 1 (slice_range (inside row) 0 (blanks ns (inside row)))

-- and those before the last one, unless nothing else stands between the brackets
abbrev pub last_gone_from : List Node → List ℕ → ℕ → Stretch
last_gone_from ns row place = before_last_line ns place (slice_range row place (length row - 1))

abbrev pub last_gone : List Node → List ℕ → Stretch
last_gone ns row =
    if nat_lt (blanks ns (inside row)) (length (inside row)) then last_gone_from ns row (length row - 1 - last_blanks ns (inside row))
    else nothing_at (length row - 1)

-- a row without a stretch
abbrev pub without : Stretch → List ℕ → List ℕ
without s row = take s.from row ++ drop s.to row

-- a row as it is when these have left
abbrev pub trimmed : List Node → List ℕ → List ℕ
trimmed ns row = without (first_gone ns row) (without (last_gone ns row) row)

-- a row with others at a place
abbrev pub with_at : {A : Type 0} → ℕ → List A → List A → List A
with_at place xs row = take place row ++ xs ++ drop place row

-- the node is no blank
abbrev pub is_no_blank_at : List Node → ℕ → Bool
is_no_blank_at ns n = not (is_blank_at ns n)
