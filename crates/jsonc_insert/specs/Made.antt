-- New leaves, made to come into a row: detached yet.
use Rattle.std.specs.Prelude.{ℕ, Bool, true, false, List, [], ◌∷◌, Option, is_some}
use Rattle.jsonc_tree.specs.Building.{Builds}
use Rattle.jsonc_tree.specs.Content.{Content, newline, token, whitespace}
use Rattle.jsonc_tree.specs.OrderedTree.{Top}
use Rattle.jsonc_tree.specs.Tree.{Node}
use Rattle.jsonc_tree.specs.declared.node.CstNewlineKind.{CstNewlineKind}
use Rattle.jsonc_insert.specs.declared.plan.Gap.{Gap}
use Rattle.jsonc_insert.specs.declared.plan.Gap.TheVariants.{Nothing, Space, Line}

-- what is written for a gap: nothing, one space, or the end of a line and an indent, which is a leaf even where it is empty
abbrev pub gap_leaves : CstNewlineKind → List ℕ → Gap → List Content
gap_leaves kind indent Nothing = []
gap_leaves kind indent Space = whitespace (0x20 ∷ []) ∷ []
gap_leaves kind indent Line = newline kind ∷ whitespace indent ∷ []

-- for a comma that is wanted
abbrev pub comma_leaf : Bool → List Content
comma_leaf true = token 0x2C ∷ []
comma_leaf false = []

-- where such a place is told
abbrev pub comma_at : Option ℕ → List Content
comma_at place = comma_leaf (is_some place)

-- this top was built as the node m, which stands alone
abbrev pub BuildsTop : List Node → List Node → ℕ → Top → Type 0
BuildsTop old now m top = Builds old now m top.content top.below
