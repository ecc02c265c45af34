-- Comments between values: their marks and their end.
use Rattle.std.proofs.Common.{ℕ, ◌+◌, ◌≡◌, ◌∙◌, ap, inl, inr, List, ◌∷◌, ◌++◌, arith, IsUtf8, IsCharBoundary, chars, slice_range}
use Rattle.jsonc_text.specs.Text.{rest, Many, Spans}
use Rattle.jsonc_text.specs.Chars.{Steps}
use Rattle.jsonc_text.specs.Comments.{HoldsBlock}
use Rattle.jsonc_text.specs.Gaps.{line, UpToBlockEnd, block, BlockComment, IsComment}
use Rattle.jsonc_text.specs.string.Between.{Between, Reaches, LacksAt, is_neither}
use Rattle.jsonc_text.proofs.BlockComments.{block_of}
use Rattle.jsonc_text.proofs.Cuts.{chars_between}

module _ (bytes : List ℕ) (i : ℕ) (utf8 : IsUtf8 bytes) (slash : Steps bytes i 0x2F (i + 1)) where
  -- the text after two marks
  two_marks : (c : ℕ) → Steps bytes (i + 1) c (i + 1 + 1) → IsCharBoundary bytes (i + 2) × (rest bytes i ≡ 0x2F ∷ c ∷ rest bytes (i + 2))
  two_marks c d =
      let two : i + 1 + 1 ≡ i + 2 = omega arith in
      let mark = rw two at d in
      (mark.1, slash.0 ∙ ap (λ t. 0x2F ∷ t) mark.0)

  pub line_here : (j : ℕ) → Steps bytes (i + 1) 0x2F (i + 1 + 1) → Reaches (Many (is_neither 0x0A 0x0D)) bytes (i + 2) j → LacksAt (is_neither 0x0A 0x0D) bytes j → Between IsComment bytes i j
  line_here j d m n = record {
    boundary = m.boundary;
    order = omega (arith, m.order);
    piece = rw (two_marks 0x2F d).1 (inl (line m.piece n));
  }

  -- a block comment's text and its end, found by its bytes
  block_found : (j : ℕ) → IsCharBoundary bytes (i + 2) → HoldsBlock bytes (i + 2) j → UpToBlockEnd (rest bytes (i + 2)) (rest bytes (j + 2))
  block_found j b h =
      let spans : Spans bytes (i + 2) j = record { from = b; to = h.boundary; order = h.order } in
      let text = chars (slice_range bytes (i + 2) j) in
      let closing : rest bytes j ≡ 0x2A ∷ 0x2F ∷ rest bytes (j + 2) = h.star.0 ∙ ap (λ t. 0x2A ∷ t) h.slash.0 in
      let parts : rest bytes (i + 2) ≡ text ++ 0x2A ∷ 0x2F ∷ rest bytes (j + 2) = chars_between bytes (i + 2) j utf8 spans ∙ ap (λ t. text ++ t) closing in
      rw parts (inside (block_of text (rest bytes (j + 2)) h.text))
    where
      inside : {t r : List ℕ} → BlockComment (0x2F ∷ 0x2A ∷ t) r → UpToBlockEnd t r
      inside (block g) = g

  pub block_here : (j : ℕ) → Steps bytes (i + 1) 0x2A (i + 1 + 1) → HoldsBlock bytes (i + 2) j → Between IsComment bytes i (j + 2)
  block_here j d h = let marks = two_marks 0x2A d in record {
    boundary = h.slash.1;
    order = omega (arith, h.order);
    piece = rw marks.1 (inr (block (block_found j marks.0 h)));
  }
