-- The nodes that a caller holds: the number of each, and the kind that it says.
use Rattle.std.specs.Prelude.{◌≡◌, ◌↔◌, ℕ, ◌<◌, Bool, true, false, not, List, length, map, Option, Some, option_map}
use Rattle.jsonc_tree.specs.Content.{Content}
use Rattle.jsonc_tree.specs.Tree.{Node, content_at, parent_at, children_at}
use Rattle.jsonc_tree.specs.Order.{upward}
use Rattle.jsonc_cst.specs.declared.cst.node.CstRoot.{CstRoot}
use Rattle.jsonc_cst.specs.declared.cst.node.CstArray.{CstArray}
use Rattle.jsonc_cst.specs.declared.cst.node.CstObject.{CstObject}
use Rattle.jsonc_cst.specs.declared.cst.node.CstObjectProp.{CstObjectProp}
use Rattle.jsonc_cst.specs.declared.cst.node.CstBooleanLit.{CstBooleanLit}
use Rattle.jsonc_cst.specs.declared.cst.node.CstNullKeyword.{CstNullKeyword}
use Rattle.jsonc_cst.specs.declared.cst.node.CstNumberLit.{CstNumberLit}
use Rattle.jsonc_cst.specs.declared.cst.node.CstStringLit.{CstStringLit}
use Rattle.jsonc_cst.specs.declared.cst.node.CstWordLit.{CstWordLit}
use Rattle.jsonc_cst.specs.declared.cst.node.CstToken.{CstToken}
use Rattle.jsonc_cst.specs.declared.cst.node.CstWhitespace.{CstWhitespace}
use Rattle.jsonc_cst.specs.declared.cst.node.CstNewline.{CstNewline}
use Rattle.jsonc_cst.specs.declared.cst.node.CstComment.{CstComment}
use Rattle.jsonc_cst.specs.declared.cst.node.CstContainerNode.{CstContainerNode}
use Rattle.jsonc_cst.specs.declared.cst.node.CstLeafNode.{CstLeafNode}
use Rattle.jsonc_cst.specs.declared.cst.node.CstNode.{CstNode}
use Rattle.jsonc_cst.specs.declared.cst.node.ObjectPropName.{ObjectPropName}
use Rattle.jsonc_cst.specs.declared.cst.node.CstContainerNode.TheVariants.{Root, Array, Object, ObjectProp}
use Rattle.jsonc_cst.specs.declared.cst.node.CstLeafNode.TheVariants.{BooleanLit, NullKeyword, NumberLit, StringLit, WordLit, Token, Whitespace, Newline, Comment}
use Rattle.jsonc_cst.specs.declared.cst.node.CstNode.TheVariants.{Container, Leaf}
use Rattle.jsonc_cst.specs.declared.cst.node.ObjectPropName.TheVariants.{String, Word}

-- the number of a node
abbrev pub container_number : CstContainerNode → ℕ
container_number (Root x) = x.number
container_number (Array x) = x.number
container_number (Object x) = x.number
container_number (ObjectProp x) = x.number

abbrev pub leaf_number : CstLeafNode → ℕ
leaf_number (BooleanLit x) = x.number
leaf_number (NullKeyword x) = x.number
leaf_number (NumberLit x) = x.number
leaf_number (StringLit x) = x.number
leaf_number (WordLit x) = x.number
leaf_number (Token x) = x.number
leaf_number (Whitespace x) = x.number
leaf_number (Newline x) = x.number
leaf_number (Comment x) = x.number

abbrev pub number_of : CstNode → ℕ
number_of (Container c) = container_number c
number_of (Leaf l) = leaf_number l

-- a node of each kind
abbrev pub root_node : CstRoot → CstNode
root_node x = Container (Root x)

abbrev pub array_node : CstArray → CstNode
array_node x = Container (Array x)

abbrev pub object_node : CstObject → CstNode
object_node x = Container (Object x)

abbrev pub object_prop_node : CstObjectProp → CstNode
object_prop_node x = Container (ObjectProp x)

abbrev pub boolean_lit_node : CstBooleanLit → CstNode
boolean_lit_node x = Leaf (BooleanLit x)

abbrev pub null_keyword_node : CstNullKeyword → CstNode
null_keyword_node x = Leaf (NullKeyword x)

abbrev pub number_lit_node : CstNumberLit → CstNode
number_lit_node x = Leaf (NumberLit x)

abbrev pub string_lit_node : CstStringLit → CstNode
string_lit_node x = Leaf (StringLit x)

abbrev pub word_lit_node : CstWordLit → CstNode
word_lit_node x = Leaf (WordLit x)

abbrev pub token_node : CstToken → CstNode
token_node x = Leaf (Token x)

abbrev pub whitespace_node : CstWhitespace → CstNode
whitespace_node x = Leaf (Whitespace x)

abbrev pub newline_node : CstNewline → CstNode
newline_node x = Leaf (Newline x)

abbrev pub comment_node : CstComment → CstNode
comment_node x = Leaf (Comment x)

abbrev pub name_node : ObjectPropName → CstNode
name_node (String x) = string_lit_node x
name_node (Word x) = word_lit_node x

-- blanks within a line, the end of a line, or a comment
abbrev pub is_trivia_node : CstNode → Bool
is_trivia_node (Leaf (Whitespace x)) = true
is_trivia_node (Leaf (Newline x)) = true
is_trivia_node (Leaf (Comment x)) = true
is_trivia_node _ = false

-- neither trivia nor a token
abbrev pub is_element_node : CstNode → Bool
is_element_node (Leaf (Token x)) = false
is_element_node node = not (is_trivia_node node)

-- what follows speaks of one kind of node, or of content, by what makes it
module _ {T N : Type 0} (kind : T → N) where
  -- the node is of this kind
  abbrev pub IsOf : N → Type 0
  IsOf node = (x : T) × (node ≡ kind x)

  -- the result is what a node of this kind is made of, and None of another node
  abbrev pub IsAs : N → Option T → Type 0
  IsAs node result = (x : T) → (result ≡ Some x) ↔ (node ≡ kind x)

-- the node of this number, by what it is
abbrev pub typed : Content → ℕ → CstNode
typed Content.root n = root_node (record { number = n })
typed Content.array n = array_node (record { number = n })
typed Content.object n = object_node (record { number = n })
typed Content.property n = object_prop_node (record { number = n })
typed (Content.boolean b) n = boolean_lit_node (record { number = n })
typed Content.null n = null_keyword_node (record { number = n })
typed (Content.number s) n = number_lit_node (record { number = n })
typed (Content.string s) n = string_lit_node (record { number = n })
typed (Content.word s) n = word_lit_node (record { number = n })
typed (Content.token c) n = token_node (record { number = n })
typed (Content.whitespace s) n = whitespace_node (record { number = n })
typed (Content.newline k) n = newline_node (record { number = n })
typed (Content.comment s) n = comment_node (record { number = n })

abbrev pub typed_at : List Node → ℕ → CstNode
typed_at ns n = typed (content_at ns n) n

-- there is a node of this number, and it is of this kind
abbrev pub IsNodeOf : List Node → CstNode → Type 0
IsNodeOf ns node = (number_of node < length ns) × (typed_at ns (number_of node) ≡ node)

-- the container of this number, by what it is; no clause asks for that of a leaf
abbrev pub typed_container : Content → ℕ → CstContainerNode
typed_container Content.array n = Array (record { number = n })
typed_container Content.object n = Object (record { number = n })
typed_container Content.property n = ObjectProp (record { number = n })
typed_container _ n = Root (record { number = n })

abbrev pub container_of : List Node → ℕ → CstContainerNode
container_of ns n = typed_container (content_at ns n) n

-- the container that a node is a child of
abbrev pub parent_node : List Node → ℕ → Option CstContainerNode
parent_node ns n = option_map (container_of ns) (parent_at ns n)

-- the containers above a node, nearest first
abbrev pub nodes_above : List Node → ℕ → List CstContainerNode
nodes_above ns n = map (container_of ns) (upward ns (parent_at ns n))

-- a node's children, in order
abbrev pub child_nodes : List Node → ℕ → List CstNode
child_nodes ns n = map (typed_at ns) (children_at ns n)
