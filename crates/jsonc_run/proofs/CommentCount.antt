-- The comments of a document, by nodes and by marks: there are as many.
use Rattle.std.proofs.Common.{◌≡◌, length, filter, sym, ap, ◌∙◌, List}
use Rattle.jsonc_tree.specs.Order.{in_order}
use Rattle.jsonc_tree.specs.OrderedTree.{ordered_tree}
use Rattle.jsonc_tree.specs.Tree.{Node, IsTree}
use Rattle.jsonc_layout.specs.nodes.Kinds.{is_comment_at}
use Rattle.jsonc_sound.specs.Marks.{marks_of, comments_of}
use Rattle.jsonc_edit.proofs.CommentOrder as ahead
use Rattle.jsonc_edit.proofs.InOrder.{leaves_in_order}
use Rattle.jsonc_run.specs.Named.{comment_count}

pub comments_counted : (ns : List Node) → IsTree ns → length (filter (is_comment_at ns) (in_order ns 0)) ≡ comment_count (ordered_tree ns 0)
comments_counted ns tree = sym (ap (λ l. length (comments_of (marks_of l))) (leaves_in_order ns tree) ∙ ahead.comments_counted ns (in_order ns 0))
