-- Where a comment ends the text of leaves of trivia in the root's row.
use Rattle.std.proofs.Common.{ℕ, ◌≡◌, ◌∙◌, ◌⊎◌, sym, ap, subst, refl, inl, inr, Bool, true, false, cond, ◌||◌, ◌==◌, List, [], ◌∷◌, ◌++◌, Option, Some, None, IsTrue, chars}
use Rattle.std.proofs.lemmas.List.{append-nil}
use Rattle.std.proofs.lemmas.Str.{chars-nil}
use Rattle.jsonc_text.specs.Options.{Options}
use Rattle.jsonc_text.specs.Text.{next, no, starts, Many, stop, step}
use Rattle.jsonc_text.specs.Gaps as gaps
use Rattle.jsonc_text.specs.Gaps.{Gap, IsComment, is_blank, is_in_line}
use Rattle.jsonc_text.proofs.Gaps.{gap_append}
use Rattle.jsonc_text.proofs.UniqueGaps.{comment_begins, comment_no_blank, comment_unique}
use Rattle.jsonc_tree.specs.Content.{Content, newline, text_of}
use Rattle.jsonc_tree.specs.OrderedTree.{OrderedTree}
use Rattle.jsonc_layout.specs.nodes.Kinds.{is_comment, is_newline, is_whitespace}
use Rattle.jsonc_sound.specs.Coming.{ends_in_comment, has_text}
use Rattle.jsonc_sound.specs.Lines.{ends_loosely, LinesEndLoosely}
use Rattle.jsonc_sound.specs.Shape.{IsTrivia}
use Rattle.jsonc_sound.specs.TriviaChanges.{AreTriviaOf, leaves_then}
use Rattle.jsonc_sound.proofs.Pieces.{a_trivia}
use Rattle.jsonc_sound.proofs.ShapeTexts.{comment_before, leaf_gap, newline_no_line, trivia_utf8}
use Rattle.jsonc_run.specs.texts.Stretches.{EndsInComment}
use Rattle.jsonc_run.specs.promise.PlaceLaws.{text_of_leaves}
use Rattle.jsonc_run.proofs.lemmas.promise.CommentTexts.{blanks_text}
use Rattle.jsonc_run.proofs.lemmas.promise.Trivia.{first_text}

-- a leaf without a character
without_text : (s : List ℕ) → starts (λ c. true) (next s) ≡ false → s ≡ []
without_text [] e = refl
without_text (c ∷ s) e = cc

no_more_text : (s t : List ℕ) → s ++ t ≡ [] → (s ≡ []) × (t ≡ [])
no_more_text [] t e = (refl, e)
no_more_text (c ∷ s) t e = cc

no_comment : {t : List ℕ} → IsComment [] t → ⊥
no_comment k = let wrong = comment_begins k in cc

one_comment : (o : Options) (content : Content) → IsTrivia o content → IsTrue (is_comment content) → IsComment (chars (text_of content)) []
one_comment o (Content.comment s) t h = t.1.1
one_comment o content t h = cc

module _ (o : Options) (old : OrderedTree) where
  -- line comments end with their lines
  abbrev Lines : List Content → Type 0
  Lines ls = LinesEndLoosely false true (leaves_then ls old)

  text_then : (content : Content) (ls : List Content) → IsTrivia o content → text_of_leaves (content ∷ ls) ≡ chars (text_of content) ++ text_of_leaves ls
  text_then content ls t = first_text content ls (trivia_utf8 o content t)

  line_ended : (ls : List Content) → IsTrue (ends_loosely false true (leaves_then ls old)) → IsTrue (no is_in_line (next (text_of_leaves ls)))
  line_ended [] h = subst (λ x. IsTrue (no is_in_line (next x))) (sym chars-nil) refl
  line_ended (newline k ∷ ls) h = subst (λ x. IsTrue (no is_in_line (next x))) (sym (text_then (newline k) ls tt)) (newline_no_line k (text_of_leaves ls))
  line_ended (content ∷ ls) h = cc

  whole : (s : List ℕ) (ls : List Content) → IsTrivia o (Content.comment s) → Lines (Content.comment s ∷ ls) → IsComment (chars s ++ text_of_leaves ls) (text_of_leaves ls)
  whole s ls t l = comment_before o s (text_of_leaves ls) t.1.0 t.1.1 (λ k. line_ended ls (l.0 k))

  one_gap : (content : Content) (ls : List Content) → IsTrivia o content → Lines (content ∷ ls) → Gap o (text_of_leaves (content ∷ ls)) (text_of_leaves ls)
  one_gap content ls t l = subst (λ x. Gap o x (text_of_leaves ls)) (sym (text_then content ls t)) (leaf_gap o content (text_of_leaves ls) t (λ k. line_ended ls (l.0 k)))

  -- where it is the last of the leaves that have a character
  pub comment_ends : (before : Bool) (ls : List Content) → AreTriviaOf o ls → Lines ls → IsTrue (ends_in_comment before ls) → EndsInComment o (text_of_leaves ls) ⊎ (IsTrue before × (text_of_leaves ls ≡ []))
  comment_ends before [] t l h = inr (h, chars-nil)
  comment_ends before (content ∷ ls) t l h = by (comment_ends (cond (has_text content) (is_comment content) before) ls t.1 l.2 h)
    where
      last : (b : Bool) → has_text content ≡ b → IsTrue (cond (has_text content) (is_comment content) before) → text_of_leaves ls ≡ []
          → EndsInComment o (text_of_leaves (content ∷ ls)) ⊎ (IsTrue before × (text_of_leaves (content ∷ ls) ≡ []))
      last true e k none =
          let is : text_of_leaves (content ∷ ls) ≡ chars (text_of content) = text_then content ls t.0 ∙ ap (λ x. chars (text_of content) ++ x) none ∙ append-nil (chars (text_of content)) in
          inl (text_of_leaves (content ∷ ls), gaps.none, subst (λ x. IsComment x []) (sym is) (one_comment o content t.0 (subst (λ b. IsTrue (cond b (is_comment content) before)) e k)))
      last false e k none =
          inr (subst (λ b. IsTrue (cond b (is_comment content) before)) e k, text_then content ls t.0 ∙ ap (λ x. x ++ text_of_leaves ls) (without_text (chars (text_of content)) e) ∙ none)

      by : EndsInComment o (text_of_leaves ls) ⊎ (IsTrue (cond (has_text content) (is_comment content) before) × (text_of_leaves ls ≡ []))
          → EndsInComment o (text_of_leaves (content ∷ ls)) ⊎ (IsTrue before × (text_of_leaves (content ∷ ls) ≡ []))
      by (inl (x, g, k)) = inl (x, gap_append (one_gap content ls t.0 l) g, k)
      by (inr (k, none)) = last (has_text content) refl k none

  -- leaves without a character change nothing
  none_said : (before : Bool) (ls : List Content) → AreTriviaOf o ls → text_of_leaves ls ≡ [] → ends_in_comment before ls ≡ before
  none_said before [] t e = refl
  none_said before (content ∷ ls) t e =
      let both = no_more_text (chars (text_of content)) (text_of_leaves ls) (sym (text_then content ls t.0) ∙ e) in
      let bare : has_text content ≡ false = ap (λ x. starts (λ c. true) (next x)) both.0 in
      none_said (cond (has_text content) (is_comment content) before) ls t.1 both.1 ∙ ap (λ b. cond b (is_comment content) before) bare

  behind_blanks : {s r x : List ℕ} → Many is_blank s r → r ≡ [] → EndsInComment o (s ++ x) → EndsInComment o x
  behind_blanks {x = x} stop e h = subst (λ y. EndsInComment o (y ++ x)) e h
  behind_blanks (step b m) e (_, gaps.none, k) = absurd (comment_no_blank k b)
  behind_blanks (step b m) e (t, gaps.blank h g, k) = behind_blanks m e (t, g, k)
  behind_blanks (step b m) e (t, gaps.comment h i g, k) = absurd (comment_no_blank i b)

  blank_leaf : (content : Content) (ls : List Content) → IsTrivia o content → IsTrue (is_whitespace content || is_newline content) → EndsInComment o (text_of_leaves (content ∷ ls)) → EndsInComment o (text_of_leaves ls)
  blank_leaf content ls t b h =
      let is : text_of_leaves (content ∷ []) ≡ chars (text_of content) = text_then content [] t ∙ ap (λ x. chars (text_of content) ++ x) chars-nil ∙ append-nil (chars (text_of content)) in
      behind_blanks (subst (λ x. Many is_blank x []) is (blanks_text o (content ∷ []) (b, tt) (a_trivia t, tt))) refl (subst (EndsInComment o) (text_then content ls t) h)

  -- past one comment
  past_one : {y r : List ℕ} → IsComment y r → EndsInComment o y → (r ≡ []) ⊎ EndsInComment o r
  past_one here (_, gaps.none, k) = inl (comment_unique here k)
  past_one here (x, gaps.blank b g, k) = absurd (comment_no_blank here b)
  past_one here (x, gaps.comment h i g, k) = inr (x, subst (λ y. Gap o y x) (comment_unique i here) g, k)

  past_comment : (s : List ℕ) (ls : List Content) → IsTrivia o (Content.comment s) → Lines (Content.comment s ∷ ls) → EndsInComment o (text_of_leaves (Content.comment s ∷ ls)) → (text_of_leaves ls ≡ []) ⊎ EndsInComment o (text_of_leaves ls)
  past_comment s ls t l h = past_one (whole s ls t l) (subst (EndsInComment o) (text_then (Content.comment s) ls t) h)

  comment_prints : (s : List ℕ) → IsTrivia o (Content.comment s) → has_text (Content.comment s) ≡ true
  comment_prints s t = by_first (next (chars s)) (comment_begins t.1.1)
    where
      by_first : (n : Option ℕ) → IsTrue (starts (λ c. c == 0x2F) n) → starts (λ c. true) n ≡ true
      by_first None h = cc
      by_first (Some c) h = refl

  no_comment_left : {x y : List ℕ} → Gap o [] x → IsComment x y → ⊥
  no_comment_left gaps.none k = no_comment k
  no_comment_left (gaps.comment h i g) k = no_comment i

  -- so it is where one ends the text
  pub comment_last : (before : Bool) (ls : List Content) → AreTriviaOf o ls → Lines ls → EndsInComment o (text_of_leaves ls) → IsTrue (ends_in_comment before ls)
  comment_last before [] t l (x, g, k) = absurd (no_comment_left (subst (λ y. Gap o y x) chars-nil g) k)
  comment_last before (Content.whitespace s ∷ ls) t l h = comment_last (cond (has_text (Content.whitespace s)) false before) ls t.1 l.2 (blank_leaf (Content.whitespace s) ls t.0 refl h)
  comment_last before (newline k ∷ ls) t l h = comment_last (cond (has_text (newline k)) false before) ls t.1 l.2 (blank_leaf (newline k) ls t.0 refl h)
  comment_last before (Content.comment s ∷ ls) t l h =
      elim (past_comment s ls t.0 l h) [
        | inl e ↦ none_said (cond (has_text (Content.comment s)) true before) ls t.1 e ∙ ap (λ b. cond b true before) (comment_prints s t.0)
        | inr k ↦ comment_last (cond (has_text (Content.comment s)) true before) ls t.1 l.2 k
      ]
  comment_last before (content ∷ ls) t l h = absurd t.0
