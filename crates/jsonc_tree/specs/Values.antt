-- The plain value of an ordered tree, by the kinds of its nodes and the texts of its leaves.
-- Passed over: whitespace, newlines, comments and tokens, wherever they stand.
use Rattle.std.specs.Prelude.{ℕ, ◌≡◌, Bool, true, false, List, [], Option, Some, None, IsTrue, chars}
use Rattle.jsonc_text.specs.Options.{Options}
use Rattle.jsonc_text.specs.Strings.{IsString}
use Rattle.jsonc_text.specs.Plain.{Plain, Items, no_items, item, Members, no_members, member}
use Rattle.jsonc_tree.specs.Content.{Content, text_of}
use Rattle.jsonc_tree.specs.OrderedTree.{OrderedTree, none, more}

abbrev pub is_passed_over : Content → Bool
is_passed_over (Content.whitespace s) = true
is_passed_over (Content.newline k) = true
is_passed_over (Content.comment s) = true
is_passed_over (Content.token c) = true
is_passed_over _ = false

-- a word, number, `true`, `false` or `null`, which names a property by its text
abbrev pub is_loose_name : Content → Bool
is_loose_name (Content.word s) = true
is_loose_name (Content.number s) = true
is_loose_name (Content.boolean b) = true
is_loose_name Content.null = true
is_loose_name _ = false

-- the bytes are a string between quotes that stands for v
abbrev pub IsStringText : Options → List ℕ → List ℕ → Type 0
IsStringText o bytes v = IsString o (chars bytes) v []

-- a leaf of this content is this name
abbrev pub IsNameLeaf : Options → Content → List ℕ → Type 0
IsNameLeaf o (Content.string s) name = IsStringText o s name
IsNameLeaf o content name = IsTrue (is_loose_name content) × (name ≡ chars (text_of content))

-- nothing in the row has a value
pub data HasNoValue : OrderedTree → Type 0 where
  end : HasNoValue none
  pass : {content : Content} {below after : OrderedTree} → IsTrue (is_passed_over content) → HasNoValue after → HasNoValue (more content below after)

mutual
  -- a node of this content, with these below it, has the value
  pub data ValueOf (o : Options) : Content → OrderedTree → Plain → Type 0 where
    string : {s v : List ℕ} → IsStringText o s v → ValueOf o (Content.string s) none (Plain.string v)
    number : {s : List ℕ} → ValueOf o (Content.number s) none (Plain.number (chars s))
    boolean : {b : Bool} → ValueOf o (Content.boolean b) none (Plain.boolean b)
    null : ValueOf o Content.null none Plain.null
    array : {below : OrderedTree} {vs : Items} → ItemsOf o below vs → ValueOf o Content.array below (Plain.array vs)
    object : {below : OrderedTree} {ms : Members} → MembersOf o below ms → ValueOf o Content.object below (Plain.object ms)

  -- the values of a row, in order
  pub data ItemsOf (o : Options) : OrderedTree → Items → Type 0 where
    no_more_items : ItemsOf o none no_items
    pass_to_items : {content : Content} {below after : OrderedTree} {vs : Items} → IsTrue (is_passed_over content)
        → ItemsOf o after vs → ItemsOf o (more content below after) vs
    one_item : {content : Content} {below after : OrderedTree} {v : Plain} {vs : Items} → ValueOf o content below v
        → ItemsOf o after vs → ItemsOf o (more content below after) (item v vs)

  -- the properties of a row, in order
  pub data MembersOf (o : Options) : OrderedTree → Members → Type 0 where
    no_more_members : MembersOf o none no_members
    pass_to_members : {content : Content} {below after : OrderedTree} {ms : Members} → IsTrue (is_passed_over content)
        → MembersOf o after ms → MembersOf o (more content below after) ms
    one_member : {below after : OrderedTree} {name : List ℕ} {v : Plain} {ms : Members} → PropertyOf o below name v
        → MembersOf o after ms → MembersOf o (more Content.property below after) (member name v ms)

  -- the row is a name, and then one value
  pub data PropertyOf (o : Options) : OrderedTree → List ℕ → Plain → Type 0 where
    pass_to_name : {content : Content} {below after : OrderedTree} {name : List ℕ} {v : Plain}
        → IsTrue (is_passed_over content) → PropertyOf o after name v → PropertyOf o (more content below after) name v
    name_of : {content : Content} {after : OrderedTree} {name : List ℕ} {v : Plain} → IsNameLeaf o content name
        → HoldsValue o after v → PropertyOf o (more content none after) name v

  -- one value stands in the row
  pub data HoldsValue (o : Options) : OrderedTree → Plain → Type 0 where
    pass_to_value : {content : Content} {below after : OrderedTree} {v : Plain} → IsTrue (is_passed_over content)
        → HoldsValue o after v → HoldsValue o (more content below after) v
    value_of : {content : Content} {below after : OrderedTree} {v : Plain} → ValueOf o content below v
        → HasNoValue after → HoldsValue o (more content below after) v

-- no value stands in the row, or one
abbrev pub HoldsAtMostOne : Options → OrderedTree → Option Plain → Type 0
HoldsAtMostOne o row None = HasNoValue row
HoldsAtMostOne o row (Some v) = HoldsValue o row v

-- the tree is a root, below which stands no value, or one
abbrev pub DocumentValueOf : Options → OrderedTree → Option Plain → Type 0
DocumentValueOf o tree w = (below : OrderedTree) × (tree ≡ more Content.root below none) × HoldsAtMostOne o below w
