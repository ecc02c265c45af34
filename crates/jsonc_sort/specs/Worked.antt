-- Worked rows: what arrays and objects print once their elements come in another order. The children between the brackets have the numbers 0, 1 and so on.
use Rattle.std.specs.Prelude.{◌≡◌, ℕ, Bool, true, false, List, [], ◌∷◌, length, Some, codes, slice_index_or}
use Rattle.std.specs.List.{range_with_len}
use Rattle.jsonc_tree.specs.Content as content
use Rattle.jsonc_tree.specs.Content.{Content, null}
use Rattle.jsonc_tree.specs.OrderedTree.{OrderedTree, Top, none, more, printed}
use Rattle.jsonc_tree.specs.declared.node.CstNewlineKind.TheVariants.{LineFeed}
use Rattle.jsonc_tree.specs.Tree.{Node}
use Rattle.jsonc_edit.specs.Changes.{top_at}
use Rattle.jsonc_edit.specs.multiline.Worked.{commented_array, object_nodes, open_array}
use Rattle.jsonc_sort.specs.Rearranged.{moves, row_sorted}
use Rattle.jsonc_sort.specs.Slots.{Slot, row_in}
use Rattle.jsonc_sort.specs.Sorting.{Headers, sorted}

abbrev pub leaf : Content → Top
leaf content = record { content = content; below = none }

-- the child of a number
abbrev pub child_of : List Top → ℕ → Top
child_of tops n = slice_index_or tops n (leaf null)

-- what such a row prints, with its elements in this order
abbrev pub text_of_slots : List Top → List Slot → List ℕ
text_of_slots tops slots = printed (row_in (child_of tops) slots)

abbrev pub slots_sorted : Headers → List Top → List ℕ → List Slot
slots_sorted h tops order = sorted (λ n. (child_of tops n).content) LineFeed h (range_with_len 0 (length tops)) order

abbrev pub text_sorted : Headers → List Top → List ℕ → List ℕ
text_sorted h tops order = text_of_slots tops (slots_sorted h tops order)

-- by no rule, and by one that answers these numbers
abbrev pub no_rule : Bool → Headers
no_rule groups = record { pinned = []; groups = groups }

abbrev pub pinning : ℕ → ℕ → Headers
pinning first second = record { pinned = Some first ∷ Some second ∷ []; groups = false }

-- leaves by their texts
abbrev pub a_number : List ℕ → Top
a_number s = leaf (content.number s)

abbrev pub blank : Top
blank = leaf (content.whitespace (codes " "))

abbrev pub indent : Top
indent = leaf (content.whitespace (codes "  "))

abbrev pub remark : List ℕ → Top
remark s = leaf (content.comment s)

abbrev pub lf : Top
lf = leaf (content.newline LineFeed)

abbrev pub comma : Top
comma = leaf (content.token 0x2C)

abbrev pub one : Top
one = a_number (codes "1")

abbrev pub two : Top
two = a_number (codes "2")

abbrev pub three : Top
three = a_number (codes "3")

abbrev pub nought : Top
nought = a_number (codes "0")

-- a property
abbrev pub property_row : List ℕ → Top → OrderedTree
property_row name value = more (content.string name) none (more (content.token 0x3A) none (more blank.content none (more value.content value.below none)))

abbrev pub property : List ℕ → Top → Top
property name value = record { content = content.property; below = property_row name value }

abbrev pub name_a : List ℕ
name_a = codes "\"a\""

abbrev pub name_b : List ℕ
name_b = codes "\"b\""

-- `{"b": 1, // one` and on the next line ` "a": 2}`: the comment goes with its property
abbrev pub trailing : List Top
trailing = property name_b one ∷ comma ∷ blank ∷ remark (codes "// one") ∷ lf ∷ blank ∷ property name_a two ∷ []

-- `[11, 0, 10]` by the first character
abbrev pub tied : List Top
tied = a_number (codes "11") ∷ comma ∷ blank ∷ nought ∷ comma ∷ blank ∷ a_number (codes "10") ∷ []

-- `[`, a line `  // h`, a line `  // x`, a line `  2,`, a line `  1`, `]`
abbrev pub headed_twice : List Top
headed_twice =
    lf ∷ indent ∷ remark (codes "// h") ∷ lf ∷ indent ∷ remark (codes "// x") ∷ lf ∷ indent ∷ two ∷ comma ∷ lf ∷ indent ∷ one ∷ lf ∷ []

-- `[2,`, a blank line, ` 1]`
abbrev pub apart : List Top
apart = two ∷ comma ∷ lf ∷ lf ∷ blank ∷ one ∷ []

-- `[2, `, ` 1 // c`, `]`; and what it is sorted to
abbrev pub loose : List Top
loose = two ∷ comma ∷ blank ∷ lf ∷ blank ∷ one ∷ blank ∷ remark (codes "// c") ∷ lf ∷ []

abbrev pub loose_sorted : List Top
loose_sorted = one ∷ comma ∷ blank ∷ remark (codes "// c") ∷ blank ∷ lf ∷ blank ∷ two ∷ lf ∷ []

-- `{`, a line `  // h`, a blank line, a line `  "b": 1,`, a line `  // x`, a line `  "a": 2`, `}`
abbrev pub headed : List Top
headed =
    lf ∷ indent ∷ remark (codes "// h") ∷ lf ∷ lf ∷ indent ∷ property name_b one ∷ comma ∷ lf
    ∷ indent ∷ remark (codes "// x") ∷ lf ∷ indent ∷ property name_a two ∷ lf ∷ []

-- `[3, 1,`, a blank line, ` 2, 0]`
abbrev pub grouped : List Top
grouped = three ∷ comma ∷ blank ∷ one ∷ comma ∷ lf ∷ lf ∷ blank ∷ two ∷ comma ∷ blank ∷ nought ∷ []

-- `[2[1]3]`, where commas are missing: each element but the last gets one
abbrev pub an_array : Top
an_array = record { content = content.array; below = more (content.token 0x5B) none (more one.content none (more (content.token 0x5D) none none)) }

abbrev pub bare : List Top
bare = two ∷ an_array ∷ three ∷ []

abbrev pub swapped : List ℕ
swapped = 1 ∷ 0 ∷ []

pub record WorkedHeaders : Type 0 where
  pub one : text_sorted (pinning 1 1) headed_twice swapped ≡ codes "\n  // h\n  1,\n  // x\n  2\n"
  pub all : text_sorted (pinning 9 9) headed_twice swapped ≡ codes "\n  // h\n  // x\n  1,\n  2\n"
  pub none : text_sorted (pinning 0 0) headed_twice swapped ≡ codes "\n  1,\n  // h\n  // x\n  2\n"
  pub travels : text_sorted (no_rule false) headed swapped ≡ codes "\n  // x\n  \"a\": 2,\n  // h\n\n  \"b\": 1\n"
  pub stays : text_sorted (pinning 1 0) headed swapped ≡ codes "\n  // h\n\n  // x\n  \"a\": 2,\n  \"b\": 1\n"

pub record WorkedSorts : Type 0 where
  pub comment : text_sorted (no_rule false) trailing swapped ≡ codes "\"a\": 2,\n \"b\": 1 // one\n"
  pub ties : text_sorted (no_rule false) tied (1 ∷ 0 ∷ 2 ∷ []) ≡ codes "0, 11, 10"
  pub blank_line : text_sorted (no_rule false) apart swapped ≡ codes "1,\n 2"
  pub loosely : text_sorted (no_rule false) loose swapped ≡ codes "1, // c \n 2\n"
  pub again : text_sorted (no_rule false) loose_sorted (0 ∷ 1 ∷ []) ≡ codes "1, // c \n 2\n"
  pub groups : text_sorted (no_rule true) grouped (1 ∷ 0 ∷ 3 ∷ 2 ∷ []) ≡ codes "1, 3,\n\n 0, 2"
  pub commas : text_sorted (no_rule false) bare (0 ∷ 2 ∷ 1 ∷ []) ≡ codes "2,3,[1]"

-- what stands between the brackets of a container once its elements come in an order, by no rule
abbrev pub text_rearranged : List Node → ℕ → List ℕ → List ℕ
text_rearranged ns c order = printed (row_in (top_at ns) (row_sorted ns c (no_rule false) order))

-- `{"a":1, "b":[2]}`, `[/*a*/ 1 /*b*/,2, ]`, and `[1`, whose last bracket was taken out
pub record WorkedDocuments : Type 0 where
  pub object : text_rearranged object_nodes 1 swapped ≡ codes "\"b\":[2], \"a\":1"
  pub comments : text_rearranged commented_array 1 swapped ≡ codes "2,/*a*/ 1 /*b*/, "
  pub same : moves object_nodes 1 (0 ∷ 1 ∷ []) ≡ false
  pub other : moves object_nodes 1 swapped ≡ true
  pub open_row : moves open_array 1 (0 ∷ []) ≡ false
