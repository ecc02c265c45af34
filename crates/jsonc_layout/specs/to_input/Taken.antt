-- What was taken of the nodes of a tree, as values for edits.
use Rattle.std.specs.Prelude.{ℕ, ◌≡◌, List, Option, option_map}
use Rattle.std.specs.declared.string.String.{String}
use Rattle.std.specs.String.{string_eq}
use Rattle.indexmap.specs.IndexMap.{insert_entry}
use Rattle.jsonc_text.specs.Plain.{Plain, Items, Members, collapse, collapse_items, collapse_members}
use Rattle.jsonc_tree.specs.Content.{Content}
use Rattle.jsonc_tree.specs.Tree.{Node, content_at, children_at}
use Rattle.jsonc_tree.specs.OrderedTree.{OrderedTree, none, more, Shows}
use Rattle.jsonc_layout.specs.declared.input.value.CstInputValue.{CstInputValue}
use Rattle.jsonc_layout.specs.input.Views.{plain, named, items_plain, members_plain}
use Rattle.jsonc_layout.specs.to_input.Given.{Gives, GivesItems, GivesMembers, GivesMember}

-- the tree is a node that gives the value, or none
abbrev pub TreeGives : OrderedTree → Option Plain → Type 0
TreeGives tree found = (content : Content) × (below : OrderedTree) × (tree ≡ more content below none) × Gives content below found

-- the same, where the node is known by its number
abbrev pub GivesAt : List Node → ℕ → Option Plain → Type 0
GivesAt ns n found = (row : OrderedTree) → Shows ns (children_at ns n) row → Gives (content_at ns n) row found

-- a name with its value, of equal names in the value the last at the first place
abbrev pub collapse_member : List ℕ × Plain → List ℕ × Plain
collapse_member p = (p.0, collapse p.1)

module _ {A : Type 0} where
  -- the names and values with one more, or with another value of a name that is there
  abbrev pub inserted : List (String A × CstInputValue A) → String A → CstInputValue A → List (String A × CstInputValue A)
  inserted ps name value = insert_entry string_eq ps name value

  -- what was taken stands for what the tree gives, of equal names the last at the first place
  pub record IsTaken (tree : OrderedTree) (taken : Option (CstInputValue A)) : Type 0 where
    pub given : Option Plain
    pub gives : TreeGives tree given
    pub collapsed : option_map plain taken ≡ option_map collapse given

  -- the same of the node of a number
  pub record IsTakenAt (ns : List Node) (n : ℕ) (taken : Option (CstInputValue A)) : Type 0 where
    pub given : Option Plain
    pub gives : GivesAt ns n given
    pub collapsed : option_map plain taken ≡ option_map collapse given

  -- of a row of children of an array
  pub record AreTaken (ns : List Node) (row : List ℕ) (taken : List (CstInputValue A)) : Type 0 where
    pub items : Items
    pub gives : (tree : OrderedTree) → Shows ns row tree → GivesItems tree items
    pub collapsed : items_plain taken ≡ collapse_items items

  -- of a child of an object
  pub record IsMemberTaken (ns : List Node) (n : ℕ) (taken : Option (String A × CstInputValue A)) : Type 0 where
    pub given : Option (List ℕ × Plain)
    pub gives : (row : OrderedTree) → Shows ns (children_at ns n) row → GivesMember (content_at ns n) row given
    pub collapsed : option_map named taken ≡ option_map collapse_member given

  -- of a row of them
  pub record AreMembersTaken (ns : List Node) (row : List ℕ) (taken : List (String A × CstInputValue A)) : Type 0 where
    pub members : Members
    pub gives : (tree : OrderedTree) → Shows ns row tree → GivesMembers tree members
    pub collapsed : members_plain taken ≡ collapse_members members

  -- of all of a node's children
  abbrev pub ElementsTaken : List Node → ℕ → List (CstInputValue A) → Type 0
  ElementsTaken ns n taken = AreTaken ns (children_at ns n) taken

  abbrev pub MembersTaken : List Node → ℕ → List (String A × CstInputValue A) → Type 0
  MembersTaken ns n taken = AreMembersTaken ns (children_at ns n) taken
