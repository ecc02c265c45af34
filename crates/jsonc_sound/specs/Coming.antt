-- A root's row that had no value gets one.
use Rattle.std.specs.Prelude.{Bool, true, false, not, List, [], ◌∷◌, ◌++◌, IsTrue, if◌then◌else◌}
use Rattle.jsonc_text.specs.Text.{starts}
use Rattle.jsonc_tree.specs.Content.{Content, newline}
use Rattle.jsonc_tree.specs.declared.node.CstNewlineKind.{CstNewlineKind}
use Rattle.jsonc_tree.specs.OrderedTree.{OrderedTree, none}
use Rattle.jsonc_layout.specs.nodes.Kinds.{is_comment, is_newline}
use Rattle.jsonc_tree.specs.OrderedTree.{Top}
use Rattle.jsonc_sound.specs.Adjacent.{first_char}
use Rattle.jsonc_sound.specs.TriviaChanges.{AreTrivia, leaves_then}
use Rattle.jsonc_sound.specs.Leaving.{among}

-- each of these leaves is a line's end
abbrev pub AreLineEnds : List Content → Type 0
AreLineEnds [] = Unit {0}
AreLineEnds (content ∷ rest) = IsTrue (is_newline content) × AreLineEnds rest

-- a leaf has a character
abbrev pub has_text : Content → Bool
has_text content = starts (λ c. true) (first_char content)

-- the last of these leaves that has a character is a comment; `before`: so it is of those that stand before them
abbrev pub ends_in_comment : (before : Bool) → List Content → Bool
ends_in_comment before [] = before
ends_in_comment before (content ∷ rest) = ends_in_comment (if has_text content then is_comment content else before) rest

-- the first of them is a line's end
abbrev pub begins_in_line_end : List Content → Bool
begins_in_line_end [] = false
begins_in_line_end (content ∷ rest) = is_newline content

-- before the value comes the end of a line, where a comment stands there, or nothing
pub data Leads : List Content → List Content → Type 0 where
  behind_comment : {front : List Content} {k : CstNewlineKind} → IsTrue (ends_in_comment false front) → Leads front (newline k ∷ [])
  at_once : {front : List Content} → Leads front []

-- behind it stands one end of a line alone: it comes with the value, or stood last
pub data EndsLine : List Content → List Content → Type 0 where
  comes_with : {k : CstNewlineKind} → EndsLine (newline k ∷ []) []
  stood_last : {k : CstNewlineKind} → EndsLine [] (newline k ∷ [])

-- the second row is the first, of trivia alone, but that the value has come behind all of it, or before the line's end that is last in it, with ends of lines
-- before and behind it: it stands behind no comment, and a line ends behind it
pub data ValueInserted (top : Top) : OrderedTree → OrderedTree → Type 0 where
  value_comes : (front back before behind : List Content) → AreTrivia front → AreTrivia back → AreLineEnds before → AreLineEnds behind
      → IsTrue (not (ends_in_comment false (front ++ before))) → IsTrue (begins_in_line_end (behind ++ back)) → Leads front before → EndsLine behind back
      → ValueInserted top (leaves_then (front ++ back) none) (leaves_then (front ++ before) (among [] top [] (leaves_then (behind ++ back) none)))
