-- What was taken of nodes with all of their members.
use Rattle.std.specs.Prelude.{ℕ, List, Option}
use Rattle.std.specs.declared.string.String.{String}
use Rattle.jsonc_text.specs.Plain.{Plain}
use Rattle.jsonc_tree.specs.Tree.{Node, content_at, children_at}
use Rattle.jsonc_tree.specs.OrderedTree.{OrderedTree, Shows}
use Rattle.jsonc_layout.specs.declared.input.value.CstInputValue.{CstInputValue}
use Rattle.jsonc_layout.specs.input.Views.{items_plain, members_plain}
use Rattle.jsonc_layout.specs.to_input.Given.{GivesItems, GivesMembers, GivesMember}

-- the child of an object of this number gives a name with a value, or nothing
abbrev pub GivesMemberAt : List Node → ℕ → Option (List ℕ × Plain) → Type 0
GivesMemberAt ns n found = (row : OrderedTree) → Shows ns (children_at ns n) row → GivesMember (content_at ns n) row found

module _ {A : Type 0} where
  -- the row gives these values
  abbrev pub RowGives : List Node → List ℕ → List (CstInputValue A) → Type 0
  RowGives ns row taken = (tree : OrderedTree) → Shows ns row tree → GivesItems tree (items_plain taken)

  -- the row gives these names and values
  abbrev pub RowGivesMembers : List Node → List ℕ → List (String A × CstInputValue A) → Type 0
  RowGivesMembers ns row taken = (tree : OrderedTree) → Shows ns row tree → GivesMembers tree (members_plain taken)

  -- the children of the node give them
  abbrev pub ElementsGive : List Node → ℕ → List (CstInputValue A) → Type 0
  ElementsGive ns n taken = RowGives ns (children_at ns n) taken

  abbrev pub MembersGive : List Node → ℕ → List (String A × CstInputValue A) → Type 0
  MembersGive ns n taken = RowGivesMembers ns (children_at ns n) taken
