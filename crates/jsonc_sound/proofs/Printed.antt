-- A sound tree prints a text that has the marks of its leaves, and so has each stretch of them.
use Rattle.std.proofs.Common.{ℕ, ◌≡◌, ◌<◌, ◌∙◌, sym, ap, subst, refl, Bool, true, false, inl, inr, List, [], ◌∷◌, ◌++◌, Some, None, IsTrue, IsUtf8, chars, encode_utf8, encode_utf8_all, arith, rules}
use Rattle.std.specs.List.{flat_map, cons_option}
use Rattle.std.proofs.lemmas.List.{append_assoc, append-nil}
use Rattle.std.proofs.lemmas.Str.{chars-nil, chars-append, chars-IsAscii, chars-encodes, encodes-chars, IsUtf8-from_ascii}
use Rattle.std.proofs.Math.Utf8.{low_scalar, scalars}
use lib.Utf8.{encode}
use Rattle.jsonc_text.specs.Options.{Options}
use Rattle.jsonc_text.specs.Text.{next, no, Many, stop, step}
use Rattle.jsonc_text.specs.Gaps.{is_blank, is_in_line, LineComment, line, BlockComment, IsComment}
use Rattle.jsonc_text.specs.Grammar.{may_name}
use Rattle.jsonc_text.specs.Words.{Keyword, keyword_text}
use Rattle.jsonc_text.specs.Lexemes.{LexemeKind, lexeme, line_comment, block_comment, IsScanned, is_punctuation}
use Rattle.jsonc_text.proofs.LexemesAlone.{scanned_before}
use Rattle.jsonc_text.proofs.Basics.{and_both}
use Rattle.jsonc_text.proofs.BlockComments.{block_inside}
use Rattle.jsonc_text.proofs.CharacterSteps.{many_append}
use Rattle.jsonc_text.proofs.UniqueWords.{many_more}
use Rattle.jsonc_tree.specs.Content.{Content, text_of, newline_text}
use Rattle.jsonc_tree.specs.declared.node.CstNewlineKind.{CstNewlineKind}
use Rattle.jsonc_tree.specs.declared.node.CstNewlineKind.TheVariants.{LineFeed, CarriageReturnLineFeed, CarriageReturn}
use Rattle.jsonc_tree.specs.OrderedTree.{OrderedTree, leaves}
use Rattle.jsonc_sound.specs.Leaves.{is_inner_blank}
use Rattle.jsonc_sound.specs.Lines.{is_line_comment}
use Rattle.jsonc_sound.specs.Shape.{IsTrivia, IsLiteralBefore, IsNameBefore, printed_text}
use Rattle.jsonc_sound.proofs.ShapeTexts.{trivia_utf8}
use Rattle.jsonc_sound.specs.ChangeLaws.{DiffersIn}
use Rattle.jsonc_sound.specs.Adjacent.{EndsBefore, follower, LeavesEnd}
use Rattle.jsonc_sound.specs.SoundTrees.{SoundTree}
use Rattle.jsonc_sound.proofs.NodesAlone.{document_alone, document_leaves}
use Rattle.jsonc_sound.proofs.Ends.{literal_there, name_there}
use Rattle.jsonc_sound.proofs.Texts.{AllUtf8, text_follower}
use Rattle.jsonc_sound.specs.Marks.{Mark, comment_mark, mark_of, AreMarks, MarksTo, no_more, blank, one, mark_of_leaf, marks_of, marks}
use Rattle.jsonc_sound.specs.MarkChanges.{MarksDifferIn}
use Rattle.jsonc_sound.proofs.ReplacedStretches.{marks_differ}
use Rattle.jsonc_sound.proofs.OneList.{marks_unique}
use Rattle.jsonc_sound.proofs.Pieces.{Piece, a_literal, a_name, a_token, a_trivia, Pieces, ends_line, LinesFlat, document_pieces, document_flat}
use Rattle.jsonc_sound.proofs.TrimmedTexts.{blanks_left_out}

-- the characters that leaves print
abbrev pub text_of_leaves : List Content → List ℕ
text_of_leaves contents = chars (flat_map text_of contents)

-- the texts of leaves
boolean_utf8 : (b : Bool) → IsUtf8 (text_of (Content.boolean b))
boolean_utf8 true = IsUtf8-from_ascii _ (search rules)
boolean_utf8 false = IsUtf8-from_ascii _ (search rules)

boolean_text : (b : Bool) → chars (text_of (Content.boolean b)) ≡ keyword_text (Keyword.boolean b)
boolean_text true = chars-IsAscii _ (search rules)
boolean_text false = chars-IsAscii _ (search rules)

null_utf8 : IsUtf8 (text_of Content.null)
null_utf8 = IsUtf8-from_ascii _ (search rules)

null_text : chars (text_of Content.null) ≡ keyword_text Keyword.null
null_text = chars-IsAscii _ (search rules)

newline_text_is : (k : CstNewlineKind) → chars (newline_text k) ≡ newline_text k
newline_text_is LineFeed = chars-IsAscii (10 ∷ []) (search rules)
newline_text_is CarriageReturnLineFeed = chars-IsAscii (13 ∷ 10 ∷ []) (search rules)
newline_text_is CarriageReturn = chars-IsAscii (13 ∷ []) (search rules)

punctuation_low : (c : ℕ) → IsTrue (is_punctuation c) → c < 55296
punctuation_low c h = grind arith

one_scalar : (c : ℕ) → IsTrue (is_punctuation c) → scalars (c ∷ []) ≡ true
one_scalar c h = rw (low_scalar c (punctuation_low c h)) refl

one_code : (c : ℕ) → encode_utf8_all (c ∷ []) ≡ encode_utf8 c
one_code c = append-nil (encode_utf8 c)

token_utf8 : (c : ℕ) → IsTrue (is_punctuation c) → IsUtf8 (text_of (Content.token c))
token_utf8 c h = (c ∷ [], (one_scalar c h, one_code c))

token_text : (c : ℕ) → IsTrue (is_punctuation c) → chars (text_of (Content.token c)) ≡ c ∷ []
token_text c h = ap chars (sym (one_code c)) ∙ chars-encodes (c ∷ []) (one_scalar c h)

module _ (o : Options) where
  literal_utf8 : (content : Content) → IsLiteralBefore o content [] → IsUtf8 (text_of content)
  literal_utf8 (Content.string s) h = h.1.0
  literal_utf8 (Content.number s) h = h.0
  literal_utf8 (Content.boolean b) h = boolean_utf8 b
  literal_utf8 Content.null h = null_utf8
  literal_utf8 content h = absurd h

  name_utf8 : (content : Content) → IsNameBefore o content [] → IsUtf8 (text_of content)
  name_utf8 (Content.string s) h = h.1.0
  name_utf8 (Content.word s) h = h.0
  name_utf8 content h = absurd h

  piece_utf8 : {content : Content} → Piece o content → IsUtf8 (text_of content)
  piece_utf8 (a_literal {content = content} h) = literal_utf8 content h
  piece_utf8 (a_name {content = content} h) = name_utf8 content h
  piece_utf8 (a_token {c = c} h) = token_utf8 c h
  piece_utf8 (a_trivia {content = content} h) = trivia_utf8 o content h

  pieces_utf8 : (contents : List Content) → Pieces o contents → AllUtf8 contents
  pieces_utf8 [] h = tt
  pieces_utf8 (content ∷ rest) h = (piece_utf8 h.0, pieces_utf8 rest h.1)

  -- a leaf and those behind it
  leaf_text : (content : Content) (rest : List Content) → IsUtf8 (text_of content) → text_of_leaves (content ∷ rest) ≡ chars (text_of content) ++ text_of_leaves rest
  leaf_text content rest u = chars-append (text_of content) (flat_map text_of rest) u

-- up to a place
module _ (o : Options) (there : List ℕ) where
  -- a leaf's mark before those of a text
  abbrev MarksWith : Content → List ℕ → List Mark → Type 0
  MarksWith content t ms = MarksTo o there (chars (text_of content) ++ t) (cons_option (mark_of_leaf content) ms)

  keyword_marks : (k : Keyword) (text t : List ℕ) (ms : List Mark) → text ≡ keyword_text k → IsScanned o (lexeme (LexemeKind.keyword k)) (keyword_text k ++ t) t → MarksTo o there t ms
      → MarksTo o there (text ++ t) (Mark.literal (keyword_text k) ∷ ms)
  keyword_marks k text t ms e h g = subst (λ x. MarksTo o there (x ++ t) (Mark.literal (keyword_text k) ∷ ms)) (sym e) (one (lexeme (LexemeKind.keyword k)) (keyword_text k) h refl g)

  literal_marks : (content : Content) (t : List ℕ) (ms : List Mark) → IsLiteralBefore o content t → MarksTo o there t ms → MarksWith content t ms
  literal_marks (Content.string s) t ms (v, (u, h)) g = one (lexeme (LexemeKind.string v)) (chars s) h refl g
  literal_marks (Content.number s) t ms (u, h) g = one (lexeme (LexemeKind.number (chars s))) (chars s) h refl g
  literal_marks (Content.boolean b) t ms h g = keyword_marks (Keyword.boolean b) (chars (text_of (Content.boolean b))) t ms (boolean_text b) (refl, h) g
  literal_marks Content.null t ms h g = keyword_marks Keyword.null (chars (text_of Content.null)) t ms null_text (refl, h) g
  literal_marks content t ms h g = absurd h

  named_mark : (k : LexemeKind) (s : List ℕ) → IsTrue (may_name k) → mark_of (lexeme k) s ≡ Some (Mark.literal s)
  named_mark (LexemeKind.string v) s h = refl
  named_mark (LexemeKind.number n) s h = refl
  named_mark (LexemeKind.word n) s h = refl
  named_mark (LexemeKind.keyword k) s h = refl
  named_mark (LexemeKind.punctuation c) s h = cc

  name_marks : (content : Content) (t : List ℕ) (ms : List Mark) → IsNameBefore o content t → MarksTo o there t ms → MarksWith content t ms
  name_marks (Content.string s) t ms h g = literal_marks (Content.string s) t ms h g
  name_marks (Content.word s) t ms (u, h) g = subst (λ m. MarksTo o there (chars s ++ t) (cons_option m ms)) (named_mark h.2 (chars s) h.3) (one (lexeme h.2) (chars s) h.4 refl g)
  name_marks content t ms h g = absurd h

  token_marks : (c : ℕ) (t : List ℕ) (ms : List Mark) → IsTrue (is_punctuation c) → MarksTo o there t ms → MarksWith (Content.token c) t ms
  token_marks c t ms h g = subst (λ x. MarksTo o there (x ++ t) ms) (sym (token_text c h)) (one (lexeme (LexemeKind.punctuation c)) (c ∷ []) (h, refl) refl g)

  -- blanks and line ends
  blanks_marks : {s r : List ℕ} (t : List ℕ) (ms : List Mark) → Many is_inner_blank s r → r ≡ [] → MarksTo o there t ms → MarksTo o there (s ++ t) ms
  blanks_marks t ms stop e g = subst (λ x. MarksTo o there (x ++ t) ms) (sym e) g
  blanks_marks t ms (step {c = c} h k) e g = blank (and_both (is_blank c) _ h).0 (blanks_marks t ms k e g)

  newline_marks : (k : CstNewlineKind) (t : List ℕ) (ms : List Mark) → MarksTo o there t ms → MarksTo o there (chars (newline_text k) ++ t) ms
  newline_marks k t ms g = subst (λ x. MarksTo o there (x ++ t) ms) (sym (newline_text_is k)) (by k)
    where
      by : (k : CstNewlineKind) → MarksTo o there (newline_text k ++ t) ms
      by LineFeed = blank refl g
      by CarriageReturnLineFeed = blank refl (blank refl g)
      by CarriageReturn = blank refl g

  newline_ends : (k : CstNewlineKind) (t : List ℕ) → IsTrue (no is_in_line (next (chars (newline_text k) ++ t)))
  newline_ends k t = subst (λ x. IsTrue (no is_in_line (next (x ++ t)))) (sym (newline_text_is k)) (by k)
    where
      by : (k : CstNewlineKind) → IsTrue (no is_in_line (next (newline_text k ++ t)))
      by LineFeed = refl
      by CarriageReturnLineFeed = refl
      by CarriageReturn = refl

  -- comments
  block_marks : (s t : List ℕ) (ms : List Mark) → BlockComment s [] → MarksTo o there t ms → MarksTo o there (s ++ t) (comment_mark s ∷ ms)
  block_marks s t ms b g =
      let inside = block_inside b in
      one (block_comment inside.0) s (scanned_before o (block_comment inside.0) s t (b, inside.1) tt) refl g

  -- what is left behind the blanks of a line
  record LineEnd (t : List ℕ) (ms : List Mark) : Type 0 where
    blanks : List ℕ
    rest : List ℕ
    split : t ≡ blanks ++ rest
    inner : Many is_inner_blank blanks []
    ends : IsTrue (no is_in_line (next rest))
    behind : MarksTo o there rest ms

  in_line : {s r : List ℕ} → Many is_inner_blank s r → Many is_in_line s r
  in_line stop = stop
  in_line (step {c = c} h k) = step (and_both (is_blank c) _ h).1 (in_line k)

  are_blank : {s r : List ℕ} → Many is_inner_blank s r → Many is_blank s r
  are_blank stop = stop
  are_blank (step {c = c} h k) = step (and_both (is_blank c) _ h).0 (are_blank k)

  -- a line comment takes the blanks behind it
  line_taken : (s blanks t : List ℕ) → LineComment s [] → Many is_inner_blank blanks [] → IsTrue (no is_in_line (next t)) → (c : List ℕ) × IsScanned o (line_comment c) ((s ++ blanks) ++ t) t
  line_taken _ blanks t (line {t = x} m n) b e =
      let whole : Many is_in_line ((x ++ blanks) ++ t) t = many_more (many_append (many_more m blanks) (in_line b)) t in
      (x ++ blanks, (line whole e, refl))

  line_marks : (s t : List ℕ) (ms : List Mark) → LineComment s [] → LineEnd t ms → MarksTo o there (s ++ t) (comment_mark s ∷ ms)
  line_marks s t ms l k =
      let taken = line_taken s k.blanks k.rest l k.inner k.ends in
      let text : s ++ t ≡ (s ++ k.blanks) ++ k.rest = ap (λ x. s ++ x) k.split ∙ sym (append_assoc s k.blanks k.rest) in
      let same : comment_mark (s ++ k.blanks) ≡ comment_mark s = ap Mark.comment (blanks_left_out s k.blanks (are_blank k.inner)) in
      subst (λ x. MarksTo o there x (comment_mark s ∷ ms)) (sym text) (subst (λ m. MarksTo o there ((s ++ k.blanks) ++ k.rest) (m ∷ ms)) same (one (line_comment taken.0) (s ++ k.blanks) taken.1 refl k.behind))

  begins_line : (s : List ℕ) {t : List ℕ} → IsUtf8 s → chars s ≡ 0x2F ∷ 0x2F ∷ t → IsTrue (is_line_comment (Content.comment s))
  unfolding encode
  begins_line s {t} u e = subst (λ b. IsTrue (is_line_comment (Content.comment b))) (ap encode_utf8_all (sym e) ∙ encodes-chars s u) refl

  is_line : (s x : List ℕ) → IsUtf8 s → chars s ≡ x → LineComment x [] → IsTrue (is_line_comment (Content.comment s))
  is_line s _ u e (line m n) = begins_line s u e

  comment_marks : (s t : List ℕ) (ms : List Mark) → IsUtf8 s → IsComment (chars s) [] → MarksTo o there t ms → (IsTrue (is_line_comment (Content.comment s)) → LineEnd t ms) → MarksWith (Content.comment s) t ms
  comment_marks s t ms u (inl l) g f = line_marks (chars s) t ms l (f (is_line s (chars s) u refl l))
  comment_marks s t ms u (inr b) g f = block_marks (chars s) t ms b g

  trivia_marks : (content : Content) (t : List ℕ) (ms : List Mark) → IsTrivia o content → MarksTo o there t ms → (IsTrue (is_line_comment content) → LineEnd t ms) → MarksWith content t ms
  trivia_marks (Content.whitespace s) t ms h g f = blanks_marks t ms h.1 refl g
  trivia_marks (Content.newline k) t ms h g f = newline_marks k t ms g
  trivia_marks (Content.comment s) t ms h g f = comment_marks s t ms h.1.0 h.1.1 g f
  trivia_marks content t ms h g f = absurd h

  -- each leaf, by what follows it
  piece_marks : {content : Content} (rest : List Content) (ms : List Mark) → Piece o content → AllUtf8 rest → EndsBefore o content (follower rest None) → MarksTo o there (text_of_leaves rest) ms
      → (IsTrue (is_line_comment content) → LineEnd (text_of_leaves rest) ms) → MarksWith content (text_of_leaves rest) ms
  piece_marks rest ms (a_literal {content = content} h) u e g f =
      literal_marks content (text_of_leaves rest) ms (literal_there o content (text_of_leaves rest) h (subst (EndsBefore o content) (sym (text_follower rest u)) e)) g
  piece_marks rest ms (a_name {content = content} h) u e g f =
      name_marks content (text_of_leaves rest) ms (name_there o content (text_of_leaves rest) h (subst (EndsBefore o content) (sym (text_follower rest u)) e)) g
  piece_marks rest ms (a_token {c = c} h) u e g f = token_marks c (text_of_leaves rest) ms h g
  piece_marks rest ms (a_trivia {content = content} h) u e g f = trivia_marks content (text_of_leaves rest) ms h g f

  first_marks : (content : Content) (rest : List Content) (ms : List Mark) → Piece o content → MarksWith content (text_of_leaves rest) ms → MarksTo o there (text_of_leaves (content ∷ rest)) (cons_option (mark_of_leaf content) ms)
  first_marks content rest ms p g = subst (λ x. MarksTo o there x (cons_option (mark_of_leaf content) ms)) (sym (leaf_text o content rest (piece_utf8 o p))) g

  -- behind a line comment, past whitespace
  end_at_newline : (k : CstNewlineKind) (rest : List Content) (ms : List Mark) → Piece o (Content.newline k) → MarksTo o there (text_of_leaves rest) ms → LineEnd (text_of_leaves (Content.newline k ∷ rest)) ms
  end_at_newline k rest ms p g = record {
    blanks = [];
    rest = chars (newline_text k) ++ text_of_leaves rest;
    split = leaf_text o (Content.newline k) rest (piece_utf8 o p);
    inner = stop;
    ends = newline_ends k (text_of_leaves rest);
    behind = newline_marks k (text_of_leaves rest) ms g;
  }

  end_past_blanks : (s : List ℕ) (rest : List Content) (ms : List Mark) → IsTrivia o (Content.whitespace s) → LineEnd (text_of_leaves rest) ms → LineEnd (text_of_leaves (Content.whitespace s ∷ rest)) ms
  end_past_blanks s rest ms h k = record {
    blanks = chars s ++ k.blanks;
    rest = k.rest;
    split = leaf_text o (Content.whitespace s) rest h.0 ∙ ap (λ x. chars s ++ x) k.split ∙ sym (append_assoc (chars s) k.blanks k.rest);
    inner = many_append (many_more h.1 k.blanks) k.inner;
    ends = k.ends;
    behind = k.behind;
  }

  whitespace_piece : (s : List ℕ) → Piece o (Content.whitespace s) → IsTrivia o (Content.whitespace s)
  whitespace_piece s (a_literal h) = absurd h
  whitespace_piece s (a_name h) = absurd h
  whitespace_piece s (a_trivia h) = h

-- up to leaves before which a line that is open ends at once
abbrev pub EndsAtOnce : List Content → Type 0
EndsAtOnce behind = IsTrue (ends_line behind) → IsTrue (no is_in_line (next (text_of_leaves behind)))

module _ (o : Options) (behind : List Content) (at_once : EndsAtOnce behind) where
  abbrev there : List ℕ
  there = text_of_leaves behind

  mutual
    pub leaves_marks : (contents : List Content) → Pieces o (contents ++ behind) → LeavesEnd o (contents ++ behind) None → LinesFlat (contents ++ behind) → MarksTo o there (text_of_leaves (contents ++ behind)) (marks_of contents)
    leaves_marks [] p e l = no_more
    leaves_marks (content ∷ rest) p e l =
        first_marks o there content (rest ++ behind) (marks_of rest) p.0
        (piece_marks o there (rest ++ behind) (marks_of rest) p.0 (pieces_utf8 o (rest ++ behind) p.1) e.0 (leaves_marks rest p.1 e.1 l.1) (λ k. line_end rest p.1 e.1 l.1 (l.0 k)))

    line_end : (contents : List Content) → Pieces o (contents ++ behind) → LeavesEnd o (contents ++ behind) None → LinesFlat (contents ++ behind) → IsTrue (ends_line (contents ++ behind))
        → LineEnd o there (text_of_leaves (contents ++ behind)) (marks_of contents)
    line_end [] p e l h = record { blanks = []; rest = there; split = refl; inner = stop; ends = at_once h; behind = no_more }
    line_end (Content.newline k ∷ rest) p e l h = end_at_newline o there k (rest ++ behind) (marks_of rest) p.0 (leaves_marks rest p.1 e.1 l.1)
    line_end (Content.whitespace s ∷ rest) p e l h = end_past_blanks o there s (rest ++ behind) (marks_of rest) (whitespace_piece o there s p.0) (line_end rest p.1 e.1 l.1 h)
    line_end (content ∷ rest) p e l h = cc

module _ (o : Options) where
  -- leaves that end a sound tree
  last_marks : (first last : List Content) → Pieces o (first ++ last) → LeavesEnd o (first ++ last) None → LinesFlat (first ++ last) → AreMarks o (text_of_leaves last) (marks_of last)
  last_marks [] last p e l =
      let all : last ≡ last ++ [] = sym (append-nil last) in
      let marked = leaves_marks o [] (λ h. subst (λ z. IsTrue (no is_in_line (next z))) (sym chars-nil) refl) last (subst (Pieces o) all p) (subst (λ ls. LeavesEnd o ls None) all e) (subst LinesFlat all l) in
      subst (λ z. MarksTo o z (text_of_leaves last) (marks_of last)) chars-nil (subst (λ ls. MarksTo o (text_of_leaves []) (text_of_leaves ls) (marks_of last)) (sym all) marked)
  last_marks (content ∷ first) last p e l = last_marks first last p.1 e.1 l.1

  module _ (t : OrderedTree) (s : SoundTree o t) (first last : List Content) (parts : leaves t ≡ first ++ last) where
    pieces : Pieces o (first ++ last)
    pieces = subst (Pieces o) parts (document_pieces o (document_alone o s.shaped))

    ends : LeavesEnd o (first ++ last) None
    ends = subst (λ ls. LeavesEnd o ls None) parts (document_leaves o s.shaped)

    flat : LinesFlat (first ++ last)
    flat = subst LinesFlat parts (document_flat o (document_alone o s.shaped) s.lines)

    -- the marks of the leaves that begin a sound tree, up to the others, and those of the others
    pub prints_first_marks : EndsAtOnce last → MarksTo o (text_of_leaves last) (printed_text t) (marks_of first)
    prints_first_marks at_once = subst (λ ls. MarksTo o (text_of_leaves last) (text_of_leaves ls) (marks_of first)) (sym parts) (leaves_marks o last at_once first pieces ends flat)

    pub prints_last_marks : AreMarks o (text_of_leaves last) (marks_of last)
    prints_last_marks = last_marks first last pieces ends flat

  pub prints_its_marks : (t : OrderedTree) → SoundTree o t → AreMarks o (printed_text t) (marks t)
  prints_its_marks t s = prints_last_marks t s [] (leaves t) refl

  -- so with what two trees print
  pub printed_give_way : (t u : OrderedTree) → SoundTree o t → SoundTree o u → (was now : List Content) → DiffersIn was now (leaves t) (leaves u)
      → (ms ns : List Mark) → AreMarks o (printed_text t) ms → AreMarks o (printed_text u) ns → MarksDifferIn (marks_of was) (marks_of now) ms ns
  printed_give_way t u s r was now d ms ns g h =
      subst (λ xs. MarksDifferIn (marks_of was) (marks_of now) xs ns) (marks_unique (prints_its_marks t s) g)
      (subst (MarksDifferIn (marks_of was) (marks_of now) (marks t)) (marks_unique (prints_its_marks u r) h) (marks_differ was now (leaves t) (leaves u) d))
