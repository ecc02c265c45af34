-- What a node is, and the bytes that it prints itself.
use Rattle.std.specs.Prelude.{ℕ, Bool, true, false, List, [], ◌∷◌, Option, Some, None, codes, encode_utf8}
use Rattle.jsonc_tree.specs.declared.node.CstNewlineKind.{CstNewlineKind}
use Rattle.jsonc_tree.specs.declared.node.CstNewlineKind.TheVariants.{LineFeed, CarriageReturnLineFeed, CarriageReturn}

-- what a node is, a leaf with its text
pub data Content : Type 0 where
  root : Content
  object : Content
  array : Content
  property : Content
  string : List ℕ → Content
  word : List ℕ → Content
  number : List ℕ → Content
  boolean : Bool → Content
  null : Content
  token : ℕ → Content
  whitespace : List ℕ → Content
  newline : CstNewlineKind → Content
  comment : List ℕ → Content

-- a container may have children, a leaf has none
abbrev pub is_container : Content → Bool
is_container root = true
is_container object = true
is_container array = true
is_container property = true
is_container _ = false

-- the end of a line
abbrev pub is_newline : Content → Bool
is_newline (newline k) = true
is_newline _ = false

-- the bytes of a line's end
abbrev pub newline_text : CstNewlineKind → List ℕ
newline_text LineFeed = 10 ∷ []
newline_text CarriageReturnLineFeed = 13 ∷ 10 ∷ []
newline_text CarriageReturn = 13 ∷ []

-- the bytes that a node prints itself, which is nothing for a container
abbrev pub text_of : Content → List ℕ
text_of root = []
text_of object = []
text_of array = []
text_of property = []
text_of (string s) = s
text_of (word s) = s
text_of (number s) = s
text_of (boolean true) = codes "true"
text_of (boolean false) = codes "false"
text_of null = codes "null"
text_of (token c) = encode_utf8 c
text_of (whitespace s) = s
text_of (newline k) = newline_text k
text_of (comment s) = s

-- the text that a leaf keeps of its own, if it keeps one
abbrev pub kept_text : Content → Option (List ℕ)
kept_text (string s) = Some s
kept_text (word s) = Some s
kept_text (number s) = Some s
kept_text (whitespace s) = Some s
kept_text (comment s) = Some s
kept_text _ = None
