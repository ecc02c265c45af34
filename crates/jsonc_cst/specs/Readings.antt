-- What the readings of a document answer: those of its tree, with typed nodes for numbers.
use Rattle.std.specs.Prelude.{◌≡◌, ℕ, Bool, List, length, map, filter, Option, Some, None, option_map, chars, if◌then◌else◌}
use Rattle.std.specs.List.{find}
use Rattle.jsonc_text.specs.declared.errors.ParseStringErrorKind.{ParseStringErrorKind}
use Rattle.jsonc_tree.specs.Content.{text_of}
use Rattle.jsonc_tree.specs.Order.{in_order}
use Rattle.jsonc_tree.specs.Tree.{Node, content_at, children_at}
use Rattle.jsonc_layout.specs.nodes.Kinds.{is_property}
use Rattle.jsonc_layout.specs.nodes.Names.{FirstNamed, IsNoString, StandsFor}
use Rattle.jsonc_layout.specs.nodes.Properties.{name_at, value_at}
use Rattle.jsonc_layout.specs.nodes.Siblings.{siblings_after, siblings_before, root_above, elements_at, element_index_at}
use Rattle.jsonc_cst.specs.declared.cst.CstRootNode.{CstRootNode}
use Rattle.jsonc_cst.specs.declared.cst.node.CstRoot.{CstRoot}
use Rattle.jsonc_cst.specs.declared.cst.node.CstArray.{CstArray}
use Rattle.jsonc_cst.specs.declared.cst.node.CstObject.{CstObject}
use Rattle.jsonc_cst.specs.declared.cst.node.CstObjectProp.{CstObjectProp}
use Rattle.jsonc_cst.specs.declared.cst.node.CstStringLit.{CstStringLit}
use Rattle.jsonc_cst.specs.declared.cst.node.CstToken.{CstToken}
use Rattle.jsonc_cst.specs.declared.cst.node.CstComment.{CstComment}
use Rattle.jsonc_cst.specs.declared.cst.node.CstContainerNode.{CstContainerNode}
use Rattle.jsonc_cst.specs.declared.cst.node.CstNode.{CstNode}
use Rattle.jsonc_cst.specs.declared.cst.node.ObjectPropName.{ObjectPropName}
use Rattle.jsonc_cst.specs.declared.cst.node.CstContainerNode.TheVariants.{Array, Object}
use Rattle.jsonc_cst.specs.declared.cst.node.CstLeafNode.TheVariants.{StringLit, WordLit}
use Rattle.jsonc_cst.specs.declared.cst.node.CstNode.TheVariants.{Container, Leaf}
use Rattle.jsonc_cst.specs.declared.cst.node.ObjectPropName.TheVariants.{String, Word}
use Rattle.jsonc_cst.specs.Document.{content_of, nodes_of, parent_of}
use Rattle.jsonc_cst.specs.Nodes.{number_of, object_prop_node, string_lit_node, word_lit_node, is_element_node, typed_at}

-- a node of one kind, by its number
abbrev pub root_under : ℕ → CstRoot
root_under n = record { number = n }

abbrev pub property_under : ℕ → CstObjectProp
property_under n = record { number = n }

abbrev pub token_under : ℕ → CstToken
token_under n = record { number = n }

abbrev pub comment_under : ℕ → CstComment
comment_under n = record { number = n }

-- the nodes of these numbers
abbrev pub typed_all : List Node → List ℕ → List CstNode
typed_all ns row = map (typed_at ns) row

-- the node of this number, if there is one
abbrev pub typed_if : List Node → Option ℕ → Option CstNode
typed_if ns found = option_map (typed_at ns) found

-- the node, if there is one and it is of this kind
abbrev pub object_if : Option CstNode → Option CstObject
object_if (Some (Container (Object x))) = Some x
object_if _ = None

abbrev pub array_if : Option CstNode → Option CstArray
array_if (Some (Container (Array x))) = Some x
array_if _ = None

abbrev pub name_if : Option CstNode → Option ObjectPropName
name_if (Some (Leaf (StringLit x))) = Some (String x)
name_if (Some (Leaf (WordLit x))) = Some (Word x)
name_if _ = None

abbrev pub is_property_at : List Node → ℕ → Bool
is_property_at ns n = is_property (content_at ns n)

-- the properties in a list of children
abbrev pub properties_among : List Node → List ℕ → List CstObjectProp
properties_among ns row = map property_under (filter (is_property_at ns) row)

-- the first of them
abbrev pub first_property : List Node → List ℕ → Option CstObjectProp
first_property ns row = option_map property_under (find (is_property_at ns) row)

-- an index where the parent is an array, and none elsewhere
abbrev pub index_in_array : Option CstContainerNode → Option ℕ → Option ℕ
index_in_array (Some (Array x)) index = index
index_in_array _ index = None

-- an index where the parent is an object, and 0 elsewhere
abbrev pub index_in_object : Option CstContainerNode → ℕ → ℕ
index_in_object (Some (Object x)) index = index
index_in_object _ index = 0

module _ {A : Type 0} where
  -- the node and all below it, in the order of the document
  abbrev pub descendants_of : CstRootNode A → CstNode → List CstNode
  descendants_of d node = typed_all (nodes_of d) (in_order (nodes_of d) (number_of node))

  -- the siblings of a node, nearest first
  abbrev pub next_siblings_of : CstRootNode A → CstNode → List CstNode
  next_siblings_of d node = typed_all (nodes_of d) (siblings_after (nodes_of d) (number_of node))

  abbrev pub previous_siblings_of : CstRootNode A → CstNode → List CstNode
  previous_siblings_of d node = typed_all (nodes_of d) (siblings_before (nodes_of d) (number_of node))

  -- the root, where it is above the node
  abbrev pub root_above_of : CstRootNode A → CstNode → Option CstRoot
  root_above_of d node = option_map root_under (root_above (nodes_of d) (number_of node))

  -- a node's children but trivia and tokens, in order
  abbrev pub elements_of : CstRootNode A → CstNode → List CstNode
  elements_of d node = typed_all (nodes_of d) (elements_at (nodes_of d) (number_of node))

  -- the place of an element of an array among its elements
  abbrev pub element_index_of : CstRootNode A → CstNode → Option ℕ
  element_index_of d node = if is_element_node node then index_in_array (parent_of d node) (element_index_at (nodes_of d) (number_of node)) else None

  -- an object's properties, in order
  abbrev pub properties_of : CstRootNode A → CstObject → List CstObjectProp
  properties_of d object = properties_among (nodes_of d) (children_at (nodes_of d) object.number)

  -- the nearest property before and after a property
  abbrev pub previous_property_of : CstRootNode A → CstObjectProp → Option CstObjectProp
  previous_property_of d property = first_property (nodes_of d) (siblings_before (nodes_of d) property.number)

  abbrev pub next_property_of : CstRootNode A → CstObjectProp → Option CstObjectProp
  next_property_of d property = first_property (nodes_of d) (siblings_after (nodes_of d) property.number)

  -- the place of a property among those of its object, or 0 where it is in none
  abbrev pub property_index_of : CstRootNode A → CstObjectProp → ℕ
  property_index_of d property
      = index_in_object (parent_of d (object_prop_node property)) (length (filter (is_property_at (nodes_of d)) (siblings_before (nodes_of d) property.number)))

  -- the value of the root or of a property
  abbrev pub value_under : CstRootNode A → ℕ → Option CstNode
  value_under d n = typed_if (nodes_of d) (value_at (nodes_of d) n)

  -- the value of a property, if there is one
  abbrev pub value_if : CstRootNode A → Option CstObjectProp → Option CstNode
  value_if d None = None
  value_if d (Some property) = value_under d property.number

  -- the name of a property: its first string or word
  abbrev pub name_of : CstRootNode A → CstObjectProp → Option ObjectPropName
  name_of d property = name_if (typed_if (nodes_of d) (name_at (nodes_of d) property.number))

  -- the first property of a name in an object, if there is one
  abbrev pub IsFirstNamed : CstRootNode A → CstObject → List ℕ → Option CstObjectProp → Type 0
  IsFirstNamed d object name found = FirstNamed (nodes_of d) name (children_at (nodes_of d) object.number) (option_map (λ p. p.number) found)

  -- a string represents these characters, whatever follows it in its leaf
  abbrev pub LeafRepresents : CstRootNode A → CstStringLit → List ℕ → Type 0
  LeafRepresents d string v = StandsFor (text_of (content_of d (string_lit_node string))) v

  -- no string is at the front of its leaf, and the kind of fault is true of that
  abbrev pub LeafIsNoString : CstRootNode A → CstStringLit → ParseStringErrorKind → Type 0
  LeafIsNoString d string kind = IsNoString (text_of (content_of d (string_lit_node string))) kind

  -- a name represents these characters: a string decoded, a word by its text
  abbrev pub NameRepresents : CstRootNode A → ObjectPropName → List ℕ → Type 0
  NameRepresents d (String x) v = LeafRepresents d x v
  NameRepresents d (Word x) v = v ≡ chars (text_of (content_of d (word_lit_node x)))

  -- it is a string, which represents nothing, and the kind of fault is true of that
  abbrev pub NameIsNoString : CstRootNode A → ObjectPropName → ParseStringErrorKind → Type 0
  NameIsNoString d (String x) kind = LeafIsNoString d x kind
  NameIsNoString d (Word x) kind = ⊥
