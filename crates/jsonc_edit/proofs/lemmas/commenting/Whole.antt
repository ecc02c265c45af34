-- A text that is one comment, by its places.
use Rattle.std.proofs.Common.{◌≡◌, ◌∙◌, ℕ, ◌+◌, ◌<◌, ◌≤◌, false, encode_utf8_all, refl, List, [], ◌∷◌, ◌++◌, length, IsUtf8, IsCharBoundary, chars, slice_range, sym, ap, subst, arith}
use Rattle.std.proofs.lemmas.List.{drop_all}
use Rattle.std.proofs.lemmas.Str.{chars-nil, encodes-chars}
use lib.Utf8.{encode}
use Rattle.jsonc_text.specs.Comments.{HoldsBlock}
use Rattle.jsonc_text.specs.Gaps.{line, LineComment, BlockComment, IsComment}
use Rattle.jsonc_text.specs.Text.{rest, Many, Spans}
use Rattle.jsonc_text.specs.string.Between.{Reaches, LacksAt, is_neither}
use Rattle.jsonc_text.proofs.BlockComments.{block_of}
use Rattle.jsonc_text.proofs.Cuts.{chars_between, end_place}
use Rattle.jsonc_text.proofs.UniqueGaps.{comment_unique}
use Rattle.jsonc_tree.specs.Content.{Content}
use Rattle.jsonc_sound.specs.Lines.{is_line_comment}

module _ (bytes : List ℕ) where
  pub nothing_left : (j : ℕ) → length bytes ≤ j → rest bytes j ≡ []
  nothing_left j h = ap chars (drop_all j bytes h) ∙ chars-nil

  -- a comment that ends before the text does is not all of it
  pub not_whole : IsUtf8 bytes → (j : ℕ) → IsCharBoundary bytes j → j < length bytes → IsComment (chars bytes) (rest bytes j) → IsComment (chars bytes) [] → ⊥
  not_whole utf8 j b less part all = let e : rest bytes j ≡ [] = comment_unique part all in omega (arith, end_place bytes j utf8 b e, less)

  pub line_there : (j : ℕ) → chars bytes ≡ 0x2F ∷ 0x2F ∷ rest bytes 2 → Reaches (Many (is_neither 0x0A 0x0D)) bytes 2 j → LacksAt (is_neither 0x0A 0x0D) bytes j → LineComment (chars bytes) (rest bytes j)
  line_there j front m n = subst (λ t. LineComment t (rest bytes j)) (sym front) (line m.piece n)

  pub block_there : IsUtf8 bytes → IsCharBoundary bytes 2 → (j : ℕ) → chars bytes ≡ 0x2F ∷ 0x2A ∷ rest bytes 2 → HoldsBlock bytes 2 j → BlockComment (chars bytes) (rest bytes (j + 2))
  block_there utf8 b j front h =
      let spans : Spans bytes 2 j = record { from = b; to = h.boundary; order = h.order } in
      let text : List ℕ = chars (slice_range bytes 2 j) in
      let closing : rest bytes j ≡ 0x2A ∷ 0x2F ∷ rest bytes (j + 2) = h.star.0 ∙ ap (λ t. 0x2A ∷ t) h.slash.0 in
      let parts : rest bytes 2 ≡ text ++ 0x2A ∷ 0x2F ∷ rest bytes (j + 2) = chars_between bytes 2 j utf8 spans ∙ ap (λ t. text ++ t) closing in
      subst (λ t. BlockComment t (rest bytes (j + 2))) (sym (front ∙ ap (λ t. 0x2F ∷ 0x2A ∷ t) parts)) (block_of text (rest bytes (j + 2)) h.text)

-- a comment that begins with `/*` is no line comment
pub begins_block : (s : List ℕ) {t : List ℕ} → IsUtf8 s → chars s ≡ 0x2F ∷ 0x2A ∷ t → is_line_comment (Content.comment s) ≡ false
unfolding encode
begins_block s {t} u e = subst (λ b. is_line_comment (Content.comment b) ≡ false) (ap encode_utf8_all (sym e) ∙ encodes-chars s u) refl
