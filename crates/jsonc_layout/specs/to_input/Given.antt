-- What a node gives as a value for edits: its plain value, by the kinds of its nodes and the texts of its leaves, where what has none is passed over.
use Rattle.std.specs.Prelude.{ℕ, ◌≡◌, ◌&&◌, Bool, true, false, List, Option, Some, None, IsTrue, chars, if◌then◌else◌}
use Rattle.jsonc_text.specs.Plain.{Plain, Items, no_items, item, Members, no_members, member}
use Rattle.jsonc_tree.specs.Content.{Content}
use Rattle.jsonc_tree.specs.OrderedTree.{OrderedTree, none, more}
use Rattle.jsonc_tree.specs.Values.{is_passed_over}
use Rattle.jsonc_layout.specs.nodes.Kinds.{is_element, is_property, is_colon}
use Rattle.jsonc_layout.specs.nodes.Properties.{is_name}
use Rattle.jsonc_layout.specs.nodes.Names.{StandsFor, Names}

-- a word, whitespace, a newline, a comment or a token
abbrev pub gives_nothing : Content → Bool
gives_nothing (Content.word s) = true
gives_nothing content = is_passed_over content

-- the root or a property, which gives what the node that is its value gives
abbrev pub holds_value : Content → Bool
holds_value Content.root = true
holds_value Content.property = true
holds_value _ = false

-- the name of a property over this row: its first string or word
abbrev pub name_leaf : OrderedTree → Option Content
name_leaf none = None
name_leaf (more content below after) = if is_name content then Some content else name_leaf after

-- what stands in the row behind its first node that passes a test: nothing where none does
abbrev pub row_behind : (Content → Bool) → OrderedTree → OrderedTree
row_behind test none = none
row_behind test (more content below after) = if test content then after else row_behind test after

-- what stands behind the first colon behind the name
abbrev pub behind_colon : OrderedTree → OrderedTree
behind_colon row = row_behind is_colon (row_behind is_name row)

-- a property over this row has this name
abbrev pub RowHasName : OrderedTree → List ℕ → Type 0
RowHasName row name = (leaf : Content) × (name_leaf row ≡ Some leaf) × Names leaf name

mutual
  -- a node of this content, with these below it, gives the value, or none
  pub data Gives : Content → OrderedTree → Option Plain → Type 0 where
    string : {s v : List ℕ} {below : OrderedTree} → StandsFor s v → Gives (Content.string s) below (Some (Plain.string v))
    undecoded : {s : List ℕ} {below : OrderedTree} → ((v : List ℕ) → StandsFor s v → ⊥) → Gives (Content.string s) below None
    number : {s : List ℕ} {below : OrderedTree} → Gives (Content.number s) below (Some (Plain.number (chars s)))
    boolean : {b : Bool} {below : OrderedTree} → Gives (Content.boolean b) below (Some (Plain.boolean b))
    null : {below : OrderedTree} → Gives Content.null below (Some Plain.null)
    array : {below : OrderedTree} {vs : Items} → GivesItems below vs → Gives Content.array below (Some (Plain.array vs))
    object : {below : OrderedTree} {ms : Members} → GivesMembers below ms → Gives Content.object below (Some (Plain.object ms))
    property : {below : OrderedTree} {found : Option Plain} → FirstGives (behind_colon below) found → Gives Content.property below found
    root : {below : OrderedTree} {found : Option Plain} → FirstGives below found → Gives Content.root below found
    nothing : {content : Content} {below : OrderedTree} → IsTrue (gives_nothing content) → Gives content below None

  -- the first element of the row gives the value, or none
  pub data FirstGives : OrderedTree → Option Plain → Type 0 where
    no_element : FirstGives none None
    pass_to_element : {content : Content} {below after : OrderedTree} {found : Option Plain}
        → IsTrue (is_passed_over content) → FirstGives after found → FirstGives (more content below after) found
    first_element : {content : Content} {below after : OrderedTree} {found : Option Plain} → IsTrue (is_element content)
        → Gives content below found → FirstGives (more content below after) found

  -- the values that the row gives, in order
  pub data GivesItems : OrderedTree → Items → Type 0 where
    no_more_items : GivesItems none no_items
    pass_to_items : {content : Content} {below after : OrderedTree} {vs : Items} → Gives content below None
        → GivesItems after vs → GivesItems (more content below after) vs
    one_item : {content : Content} {below after : OrderedTree} {v : Plain} {vs : Items} → Gives content below (Some v)
        → GivesItems after vs → GivesItems (more content below after) (item v vs)

  -- the names and values that the row gives, in order
  pub data GivesMembers : OrderedTree → Members → Type 0 where
    no_more_members : GivesMembers none no_members
    pass_to_members : {content : Content} {below after : OrderedTree} {ms : Members} → GivesMember content below None
        → GivesMembers after ms → GivesMembers (more content below after) ms
    one_member : {content : Content} {below after : OrderedTree} {name : List ℕ} {v : Plain} {ms : Members}
        → GivesMember content below (Some (name, v)) → GivesMembers after ms
        → GivesMembers (more content below after) (member name v ms)

  -- a child of an object gives a name with a value, or nothing: where it is no property, or has no name that decodes, or no value
  pub data GivesMember : Content → OrderedTree → Option (List ℕ × Plain) → Type 0 where
    named_value : {below : OrderedTree} {name : List ℕ} {v : Plain} → RowHasName below name
        → Gives Content.property below (Some v) → GivesMember Content.property below (Some (name, v))
    nameless : {below : OrderedTree} → ((name : List ℕ) → RowHasName below name → ⊥) → GivesMember Content.property below None
    valueless : {below : OrderedTree} → Gives Content.property below None → GivesMember Content.property below None
    no_property : {content : Content} {below : OrderedTree} → is_property content ≡ false → GivesMember content below None

-- a colon stands in the row before its first element
abbrev pub colon_first : OrderedTree → Bool
colon_first none = false
colon_first (more content below after) = if is_colon content then true else (if is_element content then false else colon_first after)

-- the first element of the row is a string or a word, and a colon stands between it and the next
abbrev pub name_first : OrderedTree → Bool
name_first none = false
name_first (more content below after) = if is_element content then is_name content && colon_first after else name_first after

-- a property has its name, and its colon behind it
abbrev pub HasColon : Content → OrderedTree → Type 0
HasColon Content.property below = IsTrue (name_first below)
HasColon _ below = Unit {0}

-- so it is in each property of the row and below it
abbrev pub HaveColons : OrderedTree → Type 0
HaveColons none = Unit {0}
HaveColons (more content below after) = HasColon content below × HaveColons below × HaveColons after
