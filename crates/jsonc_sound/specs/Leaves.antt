-- The leaves of a text between values: commas and colons, comments, line ends and blanks.
use Rattle.std.specs.Prelude.{ℕ, ◌≡◌, Bool, not, ◌&&◌, ◌==◌, List, ◌∷◌, ◌++◌, IsTrue, ◌<◌, IsCharBoundary, encode_utf8_all}
use Rattle.jsonc_text.specs.Text.{next, no, rest, AllOf, is_line_end}
use Rattle.jsonc_text.specs.Gaps.{is_blank, IsComment}
use Rattle.jsonc_tree.specs.Content.{Content, token, whitespace, newline, comment}
use Rattle.jsonc_tree.specs.OrderedTree.{OrderedTree, none, more}
use Rattle.jsonc_tree.specs.declared.node.CstNewlineKind.TheVariants.{LineFeed, CarriageReturnLineFeed, CarriageReturn}
use Rattle.jsonc_sound.specs.Filling.{is_separator}

-- a blank that is no part of a line end
abbrev pub is_inner_blank : ℕ → Bool
is_inner_blank c = is_blank c && not (is_line_end c)

-- t is a leaf of this content, and then r: an LF, a CR LF or a CR; blanks, as many as stand there; a comment with its marks; a comma or colon
pub data GapLeaf : Content → List ℕ → List ℕ → Type 0 where
  line_feed : {r : List ℕ} → GapLeaf (newline LineFeed) (0x0A ∷ r) r
  cr_lf : {r : List ℕ} → GapLeaf (newline CarriageReturnLineFeed) (0x0D ∷ 0x0A ∷ r) r
  cr : {r : List ℕ} → IsTrue (no (λ c. c == 0x0A) (next r)) → GapLeaf (newline CarriageReturn) (0x0D ∷ r) r
  blanks : {t r bytes : List ℕ} (s : List ℕ) → bytes ≡ encode_utf8_all s → AllOf is_inner_blank t r → t ≡ s ++ r → GapLeaf (whitespace bytes) t r
  a_comment : {t r bytes : List ℕ} (s : List ℕ) → bytes ≡ encode_utf8_all s → IsComment t r → t ≡ s ++ r → GapLeaf (comment bytes) t r
  mark : {c : ℕ} {r : List ℕ} → IsTrue (is_separator c) → GapLeaf (token c) (c ∷ r) r

-- t is the leaves of the row, in order, and then r
pub data Fills : List ℕ → OrderedTree → List ℕ → Type 0 where
  end : {r : List ℕ} → Fills r none r
  leaf : {content : Content} {t u r : List ℕ} {after : OrderedTree} → GapLeaf content t u → Fills u after r → Fills t (more content none after) r

-- a leaf stands in a text from the place i up to the place j
pub record LeafAt (bytes : List ℕ) (content : Content) (i j : ℕ) : Type 0 where
  pub order : i < j
  pub boundary : IsCharBoundary bytes j
  pub leaf : GapLeaf content (rest bytes i) (rest bytes j)
