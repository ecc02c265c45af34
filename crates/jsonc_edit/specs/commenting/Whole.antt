-- Texts that are one comment (JSON5, 7), and nothing before or behind it.
use Rattle.std.specs.Prelude.{ℕ, Bool, true, false, List, []}
use Rattle.jsonc_text.specs.Gaps.{LineComment, BlockComment}
use Rattle.jsonc_edit.specs.declared.commenting.whole.CommentKind.{CommentKind}
use Rattle.jsonc_edit.specs.declared.commenting.whole.CommentKind.TheVariants.{Line, Block}

-- the whole text is a comment of this kind
abbrev pub IsWhole : CommentKind → List ℕ → Type 0
IsWhole Line t = LineComment t []
IsWhole Block t = BlockComment t []

-- it goes to the end of its line
abbrev pub is_line : CommentKind → Bool
is_line Line = true
is_line Block = false
