-- Where no comma leaf follows on the line, none follows in the text.
use Rattle.std.proofs.Common.{ℕ, ◌≡◌, ◌∙◌, sym, ap, subst, refl, Bool, true, false, not, ◌==◌, ◌||◌, inl, inr, List, [], ◌∷◌, ◌++◌, IsTrue, chars}
use Rattle.std.proofs.Common.{rules}
use Rattle.std.proofs.lemmas.Bool.{false≢true}
use Rattle.std.proofs.lemmas.List.{append-nil}
use Rattle.std.proofs.lemmas.Str.{chars-nil, chars-IsAscii}
use Rattle.jsonc_text.specs.Options.{Options}
use Rattle.jsonc_text.specs.Text.{Many, stop, step, next, no, starts, is_line_end}
use Rattle.jsonc_text.specs.Gaps.{is_blank, is_in_line, BlockComment, IsComment, UpToBlockEnd, here, later, line, block}
use Rattle.jsonc_text.specs.Lexemes.{LexemeKind, Lexeme, is_punctuation}
use Rattle.jsonc_text.specs.Grammar.{may_name}
use Rattle.jsonc_text.proofs.Basics.{and_both, apart, clash, or_cases, or_left, starts_front, tails, test_eq}
use Rattle.jsonc_text.proofs.Begins.{begins_literal, lexeme_begins}
use Rattle.jsonc_text.proofs.UniqueGaps.{block_end_unique, comment_no_blank}
use Rattle.jsonc_tree.specs.Content.{Content, newline_text, text_of}
use Rattle.jsonc_tree.specs.declared.node.CstNewlineKind.{CstNewlineKind}
use Rattle.jsonc_tree.specs.declared.node.CstNewlineKind.TheVariants.{LineFeed, CarriageReturnLineFeed, CarriageReturn}
use Rattle.jsonc_layout.specs.nodes.Kinds.{is_comma, is_trivia}
use Rattle.jsonc_sound.specs.Leaves.{is_inner_blank}
use Rattle.jsonc_sound.specs.Shape.{IsLiteralBefore, IsNameBefore, IsTrivia}
use Rattle.jsonc_sound.proofs.Pieces.{Piece, a_literal, a_name, a_token, a_trivia}
use Rattle.jsonc_sound.proofs.ShapeValues.{Mark, colon_mark, bracket_mark, close_bracket_mark, brace_mark, close_brace_mark}
use Rattle.jsonc_run.specs.promise.PlaceLaws.{text_of_leaves}
use Rattle.jsonc_run.proofs.lemmas.promise.Joined.{Good, good_first, good_second, one_token}
use Rattle.jsonc_run.proofs.lemmas.promise.Leaves.{text_joined}
use Rattle.jsonc_run.proofs.lemmas.promise.Trivia.{first_text, newline_chars, piece_trivia}
use Rattle.jsonc_run.specs.texts.Commenting as lines
use Rattle.jsonc_run.specs.texts.Commenting.{CommaFollows, OnLine}
use Rattle.jsonc_edit.specs.commenting.Laws.{comma_follows}

-- a comma follows the text on its line
abbrev pub LeadsOn : List ℕ → List ℕ → Type 0
LeadsOn t r = OnLine t (0x2C ∷ r)

is_space_blank : (c : ℕ) → IsTrue (is_inner_blank c) → IsTrue (is_blank c)
is_space_blank c h = (and_both (is_blank c) (not (is_line_end c)) h).0

-- what neither a blank on the line nor a comment begins
abbrev pub begins_other : ℕ → Bool
begins_other c = not (is_inner_blank c || c == 0x2F)

past_blank : {c : ℕ} {t z : List ℕ} → OnLine (c ∷ t) z → IsTrue (starts begins_other (next z)) → IsTrue (is_inner_blank c) → OnLine t z
past_blank {c = c} lines.there h b = absurd (clash (is_inner_blank c || c == 0x2F) h (or_left (is_inner_blank c) (c == 0x2F) b))
past_blank (lines.past_blank k g) h b = g
past_blank {c = c} (lines.past_comment k g) h b = absurd (comment_no_blank k (is_space_blank c b))

pub past_blanks : {s e z : List ℕ} (t : List ℕ) → Many is_inner_blank s e → e ≡ [] → IsTrue (starts begins_other (next z)) → OnLine (s ++ t) z → OnLine t z
past_blanks {z = z} t stop e h g = subst (λ x. OnLine (x ++ t) z) e g
past_blanks t (step b m) e h g = past_blanks t m e h (past_blank g h b)

-- behind a line comment the line ends, or the text
none_behind_line : {u r : List ℕ} → LeadsOn u r → IsTrue (no is_in_line (next u)) → ⊥
none_behind_line lines.there h = false≢true h
none_behind_line (lines.past_blank {c = c} b g) h = clash (is_in_line c) h (and_both (is_blank c) (is_in_line c) b).1
none_behind_line (lines.past_comment (inl (line m a)) g) h = false≢true h
none_behind_line (lines.past_comment (inr (block q)) g) h = false≢true h

block_more : {t r : List ℕ} (y : List ℕ) → UpToBlockEnd t r → UpToBlockEnd (t ++ y) (r ++ y)
block_more y here = here
block_more y (later h here) = later h here
block_more y (later h (later k g)) = later h (block_more y (later k g))

pub past_block : {x s t z : List ℕ} → OnLine x z → IsTrue (starts begins_other (next z)) → x ≡ s ++ t → BlockComment s [] → OnLine t z
past_block lines.there h e (block p) = absurd (false≢true (subst (λ x. IsTrue (starts begins_other (next x))) e h))
past_block (lines.past_blank {c = c} b g) h e (block p) = absurd (false≢true (sym (ap (λ x. starts is_blank (next x)) e) ∙ (and_both (is_blank c) (is_in_line c) b).0))
past_block (lines.past_comment (inl (line n a)) g) h e (block p) = absurd (apart refl (tails e))
past_block {t = t} {z = z} (lines.past_comment {u = u} (inr (block q)) g) h e (block p) =
    subst (λ x. OnLine x z) (block_end_unique (subst (λ x. UpToBlockEnd x u) (tails (tails e)) q) (block_more t p)) g

past_comment : {x s t r : List ℕ} → LeadsOn x r → x ≡ s ++ t → IsComment s [] → LeadsOn t r
past_comment g e (inr b) = past_block g refl e b
past_comment lines.there e (inl (line m a)) = absurd (apart refl e)
past_comment (lines.past_blank {c = c} b g) e (inl (line m a)) = absurd (false≢true (sym (ap (λ x. starts is_blank (next x)) e) ∙ (and_both (is_blank c) (is_in_line c) b).0))
past_comment (lines.past_comment (inl (line n a)) g) e (inl k) = absurd (none_behind_line g a)
past_comment (lines.past_comment (inr (block q)) g) e (inl (line m a)) = absurd (apart refl (tails e))

none_at_end : {c : ℕ} {t r : List ℕ} → LeadsOn (c ∷ t) r → IsTrue (is_line_end c) → ⊥
none_at_end lines.there h = false≢true h
none_at_end (lines.past_blank {c = c} b g) h = clash (is_line_end c) (and_both (is_blank c) (not (is_line_end c)) b).1 h
none_at_end (lines.past_comment (inl (line m a)) g) h = false≢true h
none_at_end (lines.past_comment (inr (block q)) g) h = false≢true h

-- none of the first two, and no mark
neither : (x y z : Bool) → IsTrue (not ((x || y) || z)) → IsTrue (not x)
neither true y z h = cc
neither false y z h = refl

none_at_literal : {t r : List ℕ} → LeadsOn t r → IsTrue (starts begins_literal (next t)) → ⊥
none_at_literal lines.there h = false≢true h
none_at_literal (lines.past_blank {c = c} b g) h = clash (is_blank c) (neither (is_blank c) (c == 0x2F) (is_punctuation c) h) (and_both (is_blank c) (is_in_line c) b).0
none_at_literal (lines.past_comment (inl (line m a)) g) h = false≢true h
none_at_literal (lines.past_comment (inr (block q)) g) h = false≢true h

none_at_nothing : {t r : List ℕ} → LeadsOn t r → t ≡ [] → ⊥
none_at_nothing lines.there e = absurd (false≢true (sym (ap (λ x. starts (λ c. true) (next x)) e)))
none_at_nothing (lines.past_blank b g) e = absurd (false≢true (sym (ap (λ x. starts (λ c. true) (next x)) e)))
none_at_nothing (lines.past_comment (inl (line m a)) g) e = absurd (false≢true (sym (ap (λ x. starts (λ c. true) (next x)) e)))
none_at_nothing (lines.past_comment (inr (block q)) g) e = absurd (false≢true (sym (ap (λ x. starts (λ c. true) (next x)) e)))

-- nor at a mark that is no comma
none_at_mark : (c : ℕ) {t x r : List ℕ} → x ≡ c ∷ t → LeadsOn x r → IsTrue (not (c == 0x2C)) → IsTrue (not (is_blank c)) → IsTrue (not (c == 0x2F)) → ⊥
none_at_mark c e lines.there h b s = clash (c == 0x2C) h (subst (λ k. IsTrue (starts (λ d. d == 0x2C) (next k))) e refl)
none_at_mark c e (lines.past_blank {c = d} k g) h b s = clash (is_blank c) b (subst (λ y. IsTrue (starts is_blank (next y))) e (and_both (is_blank d) (is_in_line d) k).0)
none_at_mark c e (lines.past_comment (inl (line m a)) g) h b s = clash (c == 0x2F) s (subst (λ k. IsTrue (starts (λ d. d == 0x2F) (next k))) e refl)
none_at_mark c e (lines.past_comment (inr (block q)) g) h b s = clash (c == 0x2F) s (subst (λ k. IsTrue (starts (λ d. d == 0x2F) (next k))) e refl)

none_at_token : (c : ℕ) (t : List ℕ) {x r : List ℕ} → IsTrue (is_punctuation c) → (c == 0x2C) ≡ false → x ≡ text_of_leaves (Content.token c ∷ []) ++ t → LeadsOn x r → ⊥
none_at_token c t p h e g =
    elim (or_cases _ (c == 0x3A) p) [
      | inr k ↦ at 0x3A (test_eq c 0x3A k) colon_mark refl refl refl
      | inl p ↦
          elim (or_cases _ (c == 0x2C) p) [
            | inr k ↦ absurd (false≢true (sym h ∙ k))
            | inl p ↦
                elim (or_cases _ (c == 0x5D) p) [
                  | inr k ↦ at 0x5D (test_eq c 0x5D k) close_bracket_mark refl refl refl
                  | inl p ↦
                      elim (or_cases _ (c == 0x5B) p) [
                        | inr k ↦ at 0x5B (test_eq c 0x5B k) bracket_mark refl refl refl
                        | inl p ↦
                            elim (or_cases (c == 0x7B) (c == 0x7D) p) [
                              | inl k ↦ at 0x7B (test_eq c 0x7B k) brace_mark refl refl refl
                              | inr k ↦ at 0x7D (test_eq c 0x7D k) close_brace_mark refl refl refl
                            ]
                      ]
                ]
          ]
    ]
  where
    at : (d : ℕ) → c ≡ d → Mark d → IsTrue (not (d == 0x2C)) → IsTrue (not (is_blank d)) → IsTrue (not (d == 0x2F)) → ⊥
    at d k m f b s = none_at_mark d (e ∙ ap (λ y. text_of_leaves (Content.token y ∷ []) ++ t) k ∙ ap (λ y. y ++ t) (one_token m)) g f b s

module _ (o : Options) where
  pub literal_begins : (content : Content) → IsLiteralBefore o content [] → IsTrue (starts begins_literal (next (chars (text_of content))))
  literal_begins (Content.string s) (v, (u, l)) = subst (λ t. IsTrue (starts begins_literal (next t))) (append-nil (chars s)) (lexeme_begins o (LexemeKind.string v) (chars s ++ []) [] tt l)
  literal_begins (Content.number s) (u, l) = subst (λ t. IsTrue (starts begins_literal (next t))) (append-nil (chars s)) (lexeme_begins o (LexemeKind.number (chars s)) (chars s ++ []) [] tt l)
  literal_begins (Content.boolean true) h = subst (λ t. IsTrue (starts begins_literal (next t))) (sym (chars-IsAscii (text_of (Content.boolean true)) (search rules))) refl
  literal_begins (Content.boolean false) h = subst (λ t. IsTrue (starts begins_literal (next t))) (sym (chars-IsAscii (text_of (Content.boolean false)) (search rules))) refl
  literal_begins Content.null h = subst (λ t. IsTrue (starts begins_literal (next t))) (sym (chars-IsAscii (text_of Content.null) (search rules))) refl
  literal_begins content h = absurd h

  word_begins : (s : List ℕ) → IsNameBefore o (Content.word s) [] → IsTrue (starts begins_literal (next (chars s)))
  word_begins s (u, (a, e, k, m, l)) = subst (λ t. IsTrue (starts begins_literal (next t))) (append-nil (chars s)) (by k m l)
    where
      by : (k : LexemeKind) → IsTrue (may_name k) → Lexeme o k (chars s ++ []) [] → IsTrue (starts begins_literal (next (chars s ++ [])))
      by (LexemeKind.string v) m l = lexeme_begins o (LexemeKind.string v) (chars s ++ []) [] tt l
      by (LexemeKind.number v) m l = lexeme_begins o (LexemeKind.number v) (chars s ++ []) [] tt l
      by (LexemeKind.word v) m l = lexeme_begins o (LexemeKind.word v) (chars s ++ []) [] tt l
      by (LexemeKind.keyword v) m l = lexeme_begins o (LexemeKind.keyword v) (chars s ++ []) [] tt l
      by (LexemeKind.punctuation c) m l = absurd (false≢true m)

  pub name_begins : (content : Content) → IsNameBefore o content [] → IsTrue (starts begins_literal (next (chars (text_of content))))
  name_begins (Content.string s) h = literal_begins (Content.string s) h
  name_begins (Content.word s) h = word_begins s h
  name_begins content h = absurd h

  is_one : (content : Content) → IsTrivia o content → IsTrue (is_trivia content)
  is_one (Content.whitespace s) h = refl
  is_one (Content.newline k) h = refl
  is_one (Content.comment s) h = refl
  is_one content h = absurd h

  none_at_leaf : (content : Content) (ls : List Content) → is_comma content ≡ false → is_trivia content ≡ false → Piece o content → Good o (content ∷ ls) → (r : List ℕ) → LeadsOn (text_of_leaves (content ∷ ls)) r → ⊥
  none_at_leaf content ls e n (a_literal h) g r k =
      none_at_literal k (starts_front begins_literal (chars (text_of content)) (text_of_leaves ls) (first_text content ls g.utf8.0) (literal_begins content h))
  none_at_leaf content ls e n (a_name h) g r k =
      none_at_literal k (starts_front begins_literal (chars (text_of content)) (text_of_leaves ls) (first_text content ls g.utf8.0) (name_begins content h))
  none_at_leaf _ ls e n (a_token {c = c} p) g r k = none_at_token c (text_of_leaves ls) p e (text_joined (Content.token c ∷ []) ls (good_first o (Content.token c ∷ []) ls g).utf8) k
  none_at_leaf content ls e n (a_trivia h) g r k = false≢true (sym n ∙ is_one content h)

  none_at_newline : (k : CstNewlineKind) (t x : List ℕ) {r : List ℕ} → x ≡ newline_text k ++ t → LeadsOn x r → ⊥
  none_at_newline LineFeed t x {r} e h = none_at_end (subst (λ y. LeadsOn y r) e h) refl
  none_at_newline CarriageReturnLineFeed t x {r} e h = none_at_end (subst (λ y. LeadsOn y r) e h) refl
  none_at_newline CarriageReturn t x {r} e h = none_at_end (subst (λ y. LeadsOn y r) e h) refl

  none_comes : (ls : List Content) → comma_follows ls ≡ false → Good o ls → (r : List ℕ) → LeadsOn (text_of_leaves ls) r → ⊥
  none_comes [] e g r k = none_at_nothing k chars-nil
  none_comes (Content.whitespace s ∷ ls) e g r k =
      let t = piece_trivia o (Content.whitespace s) refl g.pieces.0 in
      none_comes ls e (good_second o (Content.whitespace s ∷ []) ls g) r (past_blanks (text_of_leaves ls) t.1 refl refl (subst (λ x. LeadsOn x r) (first_text (Content.whitespace s) ls t.0) k))
  none_comes (Content.comment s ∷ ls) e g r k =
      let t = piece_trivia o (Content.comment s) refl g.pieces.0 in
      none_comes ls e (good_second o (Content.comment s ∷ []) ls g) r (past_comment k (first_text (Content.comment s) ls t.1.0) t.1.1)
  none_comes (Content.newline k ∷ ls) e g r h =
      none_at_newline k (text_of_leaves ls) (text_of_leaves (Content.newline k ∷ ls)) (first_text (Content.newline k) ls g.utf8.0 ∙ ap (λ x. x ++ text_of_leaves ls) (newline_chars k)) h
  none_comes (content ∷ ls) e g r k = none_at_leaf content ls e refl g.pieces.0 g r k

  pub none_follows : (ls : List Content) → comma_follows ls ≡ false → Good o ls → CommaFollows (text_of_leaves ls) → ⊥
  none_follows ls e g (r, k) = none_comes ls e g r k
