-- Comments, by what they hold.
use Rattle.std.specs.Prelude.{ℕ, List}
use Rattle.std.specs.Borrow.{Bor}
use Rattle.jsonc_text.specs.declared.common.Range.{Range}
use Rattle.jsonc_walk.specs.declared.comment.Comment.{Comment}
use Rattle.jsonc_walk.specs.declared.comment.Comment.TheVariants.{Line, Block}
use Rattle.jsonc_walk.specs.declared.comment.CommentKind.{CommentKind}
use Rattle.jsonc_walk.specs.declared.comment.CommentKind.TheVariants as kind

-- what stands inside its marks, what these are, and the place of the whole
abbrev pub comment_text : Comment → Bor (List ℕ)
comment_text (Line c) = c.text
comment_text (Block c) = c.text

abbrev pub comment_kind : Comment → CommentKind
comment_kind (Line c) = kind.Line
comment_kind (Block c) = kind.Block

abbrev pub comment_range : Comment → Range
comment_range (Line c) = c.range
comment_range (Block c) = c.range
