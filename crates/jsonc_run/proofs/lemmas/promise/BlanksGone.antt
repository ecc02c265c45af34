-- Which blanks are removed from a text with a comment, and what stands before them.
use Rattle.std.proofs.Common.{ℕ, ◌≡◌, ◌∙◌, sym, ap, subst, refl, inl, inr, Bool, true, false, ◌||◌, List, [], ◌∷◌, ◌++◌, IsTrue, IsUtf8, chars}
use Rattle.std.proofs.lemmas.List.{append_assoc}
use Rattle.std.proofs.lemmas.Str.{chars-nil}
use Rattle.jsonc_text.specs.Options.{Options}
use Rattle.jsonc_text.specs.Text as many
use Rattle.jsonc_text.specs.Gaps.{IsComment}
use Rattle.jsonc_tree.specs.Content as content
use Rattle.jsonc_tree.specs.Content.{Content, text_of}
use Rattle.jsonc_layout.specs.nodes.Kinds.{is_trivia, is_whitespace, is_newline}
use Rattle.jsonc_sound.specs.Lines.{is_line_comment}
use Rattle.jsonc_sound.specs.Spaces as trees
use Rattle.jsonc_sound.proofs.Pieces.{Piece, a_literal, a_name, a_trivia, LinesFlat, ends_line}
use Rattle.jsonc_edit.specs.SeamLaws as seams
use Rattle.jsonc_edit.specs.SeamLaws.{AreWhitespace, EndInNoBlank, BlanksRemoved}
use Rattle.jsonc_run.specs.texts.Leaving.{EndsInNoBlank, RemovedBefore, a_block, on_line, with_line_end}
use Rattle.jsonc_run.specs.texts.Stretches.{AreSpaces}
use Rattle.jsonc_run.specs.promise.PlaceLaws.{text_of_leaves}
use Rattle.jsonc_run.proofs.lemmas.promise.Bare.{AllSpelled, EndsBare, spelled_second}
use Rattle.jsonc_run.proofs.lemmas.promise.Joined.{Good, good_first, good_second}
use Rattle.jsonc_run.proofs.lemmas.promise.LeafEnds.{LastIs, no_gap_there, no_blank_there, gap_blank, last_also, last_behind, last_is, leaf_last, comment_last, comment_is_block, comment_is_line, flat_behind, text_last}
use Rattle.jsonc_run.proofs.lemmas.promise.Leaves.{text_joined}
use Rattle.jsonc_run.proofs.lemmas.promise.Trivia.{end_text, first_text, many_joined, piece_trivia}

module _ (o : Options) where
  -- a leaf that is neither whitespace, a newline nor a line comment does not end with a blank
  solid_last : (leaf : Content) → Piece o leaf → (is_whitespace leaf || is_newline leaf) ≡ false → is_line_comment leaf ≡ false → (trees.is_bare leaf ≡ true → EndsBare (chars (text_of leaf))) → LastIs no_blank_there (chars (text_of leaf))
  solid_last leaf p solid no_line bare = by (is_trivia leaf) refl
    where
      block_text : (leaf : Content) → Piece o leaf → is_trivia leaf ≡ true → (is_whitespace leaf || is_newline leaf) ≡ false → is_line_comment leaf ≡ false → LastIs no_blank_there (chars (text_of leaf))
      block_text (content.comment s) (a_trivia h) t solid no_line = comment_last (comment_is_block s h.1.0 h.1.1 no_line)
      block_text (content.comment s) (a_literal h) t solid no_line = absurd h
      block_text (content.comment s) (a_name h) t solid no_line = absurd h
      block_text (content.whitespace s) p t solid no_line = cc
      block_text (content.newline k) p t solid no_line = cc
      block_text leaf p t solid no_line = cc

      by : (b : Bool) → is_trivia leaf ≡ b → LastIs no_blank_there (chars (text_of leaf))
      by true t = block_text leaf p t solid no_line
      by false t = last_also no_gap_there no_blank_there gap_blank (leaf_last o leaf p t bare)

  spaces_text : (ls : List Content) → AreWhitespace ls → Good o ls → AreSpaces (text_of_leaves ls)
  spaces_text [] h g = subst AreSpaces (sym chars-nil) many.stop
  spaces_text (content.whitespace s ∷ ls) h g =
      let t = piece_trivia o (content.whitespace s) refl g.pieces.0 in
      subst AreSpaces (sym (first_text (content.whitespace s) ls t.0)) (many_joined t.1 refl (spaces_text ls h.1 (good_second o (content.whitespace s ∷ []) ls g)))
  spaces_text (c ∷ ls) h g = cc

  -- a line comment ends with its line, so a comment on its line is none
  no_line_before : (leaf : Content) (blanks : List Content) (s : List ℕ) (behind : List Content) → AreWhitespace blanks → (IsTrue (is_line_comment leaf) → IsTrue (ends_line (blanks ++ content.comment s ∷ behind))) → is_line_comment leaf ≡ false
  no_line_before leaf blanks s behind w f = by (is_line_comment leaf) f
    where
      never : (blanks : List Content) → AreWhitespace blanks → IsTrue (ends_line (blanks ++ content.comment s ∷ behind)) → ⊥
      never [] w e = let wrong : false ≡ true = e in cc
      never (content.whitespace x ∷ blanks) w e = never blanks w.1 e
      never (c ∷ blanks) w e = cc

      by : (b : Bool) → (IsTrue b → IsTrue (ends_line (blanks ++ content.comment s ∷ behind))) → b ≡ false
      by true f = absurd (never blanks w (f refl))
      by false f = refl

  front_ends : (front blanks : List Content) (s : List ℕ) (behind : List Content) → LinesFlat (front ++ (blanks ++ content.comment s ∷ behind)) → AllSpelled front → Good o front → AreWhitespace blanks → EndInNoBlank front → EndsInNoBlank (text_of_leaves front)
  front_ends front blanks s behind flat words good w (inl e) = subst EndsInNoBlank (sym (ap text_of_leaves e ∙ chars-nil)) (λ t c is. absurd (none_there t c is))
    where
      none_there : (t : List ℕ) (c : ℕ) → [] ≡ t ++ c ∷ [] → ⊥
      none_there [] c e = cc
      none_there (d ∷ t) c e = cc
  front_ends front blanks s behind flat words good w (inr (f, leaf, e, h)) =
      let parts : front ++ (blanks ++ content.comment s ∷ behind) ≡ f ++ (leaf ∷ (blanks ++ content.comment s ∷ behind)) = ap (λ l. l ++ (blanks ++ content.comment s ∷ behind)) e ∙ append_assoc f (leaf ∷ []) (blanks ++ content.comment s ∷ behind) in
      let lines = flat_behind f (leaf ∷ (blanks ++ content.comment s ∷ behind)) (subst LinesFlat parts flat) in
      let own : Good o (f ++ leaf ∷ []) = subst (Good o) e good in
      let last : Good o (leaf ∷ []) = good_second o f (leaf ∷ []) own in
      let bare = (spelled_second f (leaf ∷ []) (subst AllSpelled e words)).0 in
      let ends = solid_last leaf last.pieces.0 h (no_line_before leaf blanks s behind w lines.0) (λ b. (bare b).ends) in
      let text : text_of_leaves front ≡ text_of_leaves f ++ chars (text_of leaf) = ap text_of_leaves e ∙ text_last o f leaf own in
      last_is no_blank_there (subst (LastIs no_blank_there) (sym text) (last_behind (text_of_leaves f) ends))

  -- the blanks of a comment in the leaves are those in the text
  pub removed_before : (front blanks : List Content) (s : List ℕ) (behind : List Content) → LinesFlat (front ++ (blanks ++ content.comment s ∷ behind)) → AllSpelled front → Good o front → Good o blanks → IsUtf8 s → IsComment (chars s) []
      → BlanksRemoved front (is_line_comment (content.comment s)) blanks → RemovedBefore (text_of_leaves front) (chars s) (text_of_leaves blanks)
  removed_before front _ s behind flat words good gone utf8 c (seams.before_block e) = subst (RemovedBefore (text_of_leaves front) (chars s)) (sym chars-nil) (a_block (comment_is_block s utf8 c e))
  removed_before front blanks s behind flat words good gone utf8 c (seams.on_line e w ends) = on_line (comment_is_line s utf8 c e) (spaces_text blanks w gone) (front_ends front blanks s behind flat words good w ends)
  removed_before front _ s behind flat words good gone utf8 c (seams.with_newline {blanks = blanks} end e h w) =
      let own = good_first o (end ∷ []) blanks gone in
      let text : text_of_leaves (end ∷ blanks) ≡ text_of_leaves (end ∷ []) ++ text_of_leaves blanks = text_joined (end ∷ []) blanks own.utf8 in
      subst (RemovedBefore (text_of_leaves front) (chars s)) (sym text) (with_line_end (comment_is_line s utf8 c e) (end_text end h) (spaces_text blanks w (good_second o (end ∷ []) blanks gone)))
