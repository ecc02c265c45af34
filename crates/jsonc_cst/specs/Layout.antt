-- How a document is laid out: the readings of its tree, with typed nodes for numbers.
use Rattle.std.specs.Prelude.{ℕ, Bool, List, map, Option, option_map}
use Rattle.jsonc_layout.specs.nodes.Comments.{leading_comments, trailing_comments}
use Rattle.jsonc_layout.specs.lines.Breadth.{uses_trailing_commas_at}
use Rattle.jsonc_layout.specs.lines.Lines.{indent_at, single_indent_of}
use Rattle.jsonc_layout.specs.lines.Siblings.{trailing_comma_at}
use Rattle.jsonc_cst.specs.declared.cst.CstRootNode.{CstRootNode}
use Rattle.jsonc_cst.specs.declared.cst.node.CstToken.{CstToken}
use Rattle.jsonc_cst.specs.declared.cst.node.CstComment.{CstComment}
use Rattle.jsonc_cst.specs.declared.cst.node.CstNode.{CstNode}
use Rattle.jsonc_cst.specs.Document.{nodes_of}
use Rattle.jsonc_cst.specs.Nodes.{number_of}
use Rattle.jsonc_cst.specs.Readings.{comment_under, token_under}

module _ {A : Type 0} where
  -- the whitespace that a node's line begins with, if nothing but trivia is before it there
  abbrev pub indent_of : CstRootNode A → CstNode → Option (List ℕ)
  indent_of d node = indent_at (nodes_of d) (number_of node)

  -- the indent of one level
  abbrev pub level_indent : CstRootNode A → Option (List ℕ)
  level_indent d = single_indent_of (nodes_of d)

  -- a comma is after the last element of the first array or object, breadth first, with whitespace and an element
  abbrev pub uses_trailing_commas_of : CstRootNode A → CstNode → Bool
  uses_trailing_commas_of d node = uses_trailing_commas_at (nodes_of d) (number_of node)

  -- the comma after a node, with nothing but trivia between
  abbrev pub trailing_comma_of : CstRootNode A → CstNode → Option CstToken
  trailing_comma_of d node = option_map token_under (trailing_comma_at (nodes_of d) (number_of node))

  -- the comments beside a node on its line
  abbrev pub leading_comments_of : CstRootNode A → CstNode → List CstComment
  leading_comments_of d node = map comment_under (leading_comments (nodes_of d) (number_of node))

  abbrev pub trailing_comments_of : CstRootNode A → CstNode → List CstComment
  trailing_comments_of d node = map comment_under (trailing_comments (nodes_of d) (number_of node))
