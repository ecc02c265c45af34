-- What the rows of a document's shape print.
use Rattle.std.proofs.Common.{ℕ, ◌<◌, ◌≡◌, ◌∙◌, sym, ap, subst, refl, inl, inr, List, [], ◌∷◌, ◌++◌, length, arith, rules, IsTrue, IsUtf8, chars, encode_utf8_all, length-append}
use Rattle.std.proofs.lemmas.List.{append_assoc}
use Rattle.std.proofs.lemmas.Str.{chars-append, chars-IsAscii, IsUtf8-append, IsUtf8-from_ascii, encodes-chars}
use lib.Utf8.{encode}
use Rattle.jsonc_text.specs.Options.{Options}
use Rattle.jsonc_text.specs.Text.{next, no, Many, stop, step}
use Rattle.jsonc_text.specs.Gaps as gaps
use Rattle.jsonc_text.specs.Gaps.{Gap, is_blank, is_in_line, LineComment, line, BlockComment, IsComment}
use Rattle.jsonc_text.specs.Plain.{Plain, Items, Members}
use Rattle.jsonc_text.specs.Lexemes.{line_comment, block_comment}
use Rattle.jsonc_text.proofs.LexemesAlone.{scanned_before}
use Rattle.jsonc_text.proofs.Basics.{and_both}
use Rattle.jsonc_text.proofs.BlockComments.{block_inside}
use Rattle.jsonc_text.proofs.Cuts.{many_split}
use Rattle.jsonc_tree.specs.Content.{Content, text_of, newline_text}
use Rattle.jsonc_tree.specs.declared.node.CstNewlineKind.{CstNewlineKind}
use Rattle.jsonc_tree.specs.declared.node.CstNewlineKind.TheVariants.{LineFeed, CarriageReturnLineFeed, CarriageReturn}
use Rattle.jsonc_tree.specs.OrderedTree.{OrderedTree, none, more, printed}
use Rattle.jsonc_tree.proofs.OrderedTrees.{printed-more}
use Rattle.jsonc_tree.specs.Values as values
use Rattle.jsonc_tree.specs.Values.{is_passed_over, HasNoValue, ItemsOf, MembersOf, HoldsValue}
use Rattle.jsonc_sound.specs.Leaves.{is_inner_blank}
use Rattle.jsonc_sound.specs.Lines.{is_line_comment}
use Rattle.jsonc_sound.specs.Shape.{IsTrivia, Trivia, nothing, trivia, printed_text}

-- the text of a row is that of its first node, and then that of those after it
pub text_more : (content : Content) (below after : OrderedTree) → IsUtf8 (text_of content ++ printed below) → printed_text (more content below after) ≡ chars (text_of content ++ printed below) ++ printed_text after
text_more content below after u =
    ap chars (printed-more content below after ∙ sym (append_assoc (text_of content) (printed below) (printed after))) ∙ chars-append (text_of content ++ printed below) (printed after) u

pub text_leaf : (content : Content) (after : OrderedTree) → IsUtf8 (text_of content) → printed_text (more content none after) ≡ chars (text_of content) ++ printed_text after
text_leaf content after u = ap chars (printed-more content none after) ∙ chars-append (text_of content) (printed after) u

newline_utf8 : (k : CstNewlineKind) → IsUtf8 (newline_text k)
newline_utf8 LineFeed = IsUtf8-from_ascii (10 ∷ []) (search rules)
newline_utf8 CarriageReturnLineFeed = IsUtf8-from_ascii (13 ∷ 10 ∷ []) (search rules)
newline_utf8 CarriageReturn = IsUtf8-from_ascii (13 ∷ []) (search rules)

newline_chars : (k : CstNewlineKind) → chars (newline_text k) ≡ newline_text k
newline_chars LineFeed = chars-IsAscii (10 ∷ []) (search rules)
newline_chars CarriageReturnLineFeed = chars-IsAscii (13 ∷ 10 ∷ []) (search rules)
newline_chars CarriageReturn = chars-IsAscii (13 ∷ []) (search rules)

newline_ends : (k : CstNewlineKind) (t : List ℕ) → IsTrue (no is_in_line (next (newline_text k ++ t)))
newline_ends LineFeed t = refl
newline_ends CarriageReturnLineFeed t = refl
newline_ends CarriageReturn t = refl

pub newline_no_line : (k : CstNewlineKind) (t : List ℕ) → IsTrue (no is_in_line (next (chars (text_of (Content.newline k)) ++ t)))
newline_no_line k t = subst (λ x. IsTrue (no is_in_line (next (x ++ t)))) (sym (newline_chars k)) (newline_ends k t)

newline_gap : (o : Options) (k : CstNewlineKind) (t : List ℕ) → Gap o (newline_text k ++ t) t
newline_gap o LineFeed t = gaps.blank refl gaps.none
newline_gap o CarriageReturnLineFeed t = gaps.blank refl (gaps.blank refl gaps.none)
newline_gap o CarriageReturn t = gaps.blank refl gaps.none

pub trivia_utf8 : (o : Options) (content : Content) → IsTrivia o content → IsUtf8 (text_of content)
trivia_utf8 o (Content.whitespace s) h = h.0
trivia_utf8 o (Content.newline k) h = newline_utf8 k
trivia_utf8 o (Content.comment s) h = h.1.0
trivia_utf8 o Content.root h = absurd h
trivia_utf8 o Content.object h = absurd h
trivia_utf8 o Content.array h = absurd h
trivia_utf8 o Content.property h = absurd h
trivia_utf8 o (Content.string s) h = absurd h
trivia_utf8 o (Content.word s) h = absurd h
trivia_utf8 o (Content.number s) h = absurd h
trivia_utf8 o (Content.boolean b) h = absurd h
trivia_utf8 o Content.null h = absurd h
trivia_utf8 o (Content.token c) h = absurd h

-- blanks before a text are a gap
blanks_gap : {o : Options} {s u : List ℕ} (t : List ℕ) → Many is_inner_blank s u → u ≡ [] → Gap o (s ++ t) t
blanks_gap t stop e = rw e gaps.none
blanks_gap t (step {c = c} h g) e = gaps.blank (and_both (is_blank c) _ h).0 (blanks_gap t g e)

-- a comment alone is one before a text that ends its line, if it is a line comment
pub begins_line : (s : List ℕ) {t : List ℕ} → IsUtf8 s → chars s ≡ 0x2F ∷ 0x2F ∷ t → IsTrue (is_line_comment (Content.comment s))
unfolding encode
begins_line s {t} u e = subst (λ b. IsTrue (is_line_comment (Content.comment b))) (ap encode_utf8_all (sym e) ∙ encodes-chars s u) refl

pub comment_before : (o : Options) (s t : List ℕ) → IsUtf8 s → IsComment (chars s) [] → (IsTrue (is_line_comment (Content.comment s)) → IsTrue (no is_in_line (next t))) → IsComment (chars s ++ t) t
comment_before o s t u k ends = by (chars s) refl k
  where
    by : (x : List ℕ) → chars s ≡ x → IsComment x [] → IsComment (chars s ++ t) t
    by _ e (inl (line {t = x} m n)) =
        let part = many_split is_in_line m in
        let text : chars s ≡ (0x2F ∷ 0x2F ∷ part.0) ++ [] = e ∙ ap (λ x. 0x2F ∷ 0x2F ∷ x) part.1 in
        inl (scanned_before o (line_comment part.0) (chars s) t (subst (λ x. LineComment x []) (sym e) (line m n), text) (ends (begins_line s u e))).0
    by x e (inr b) =
        let inside = block_inside b in
        inr (scanned_before o (block_comment inside.0) (chars s) t (subst (λ x. BlockComment x []) (sym e) b, e ∙ inside.1) tt).0

-- leaves of trivia are gaps, and have no value
pub leaf_gap : (o : Options) (content : Content) (x : List ℕ) → IsTrivia o content → (IsTrue (is_line_comment content) → IsTrue (no is_in_line (next x))) → Gap o (chars (text_of content) ++ x) x
leaf_gap o (Content.whitespace s) x h f = blanks_gap x h.1 refl
leaf_gap o (Content.newline k) x h f = subst (λ t. Gap o (t ++ x) x) (sym (newline_chars k)) (newline_gap o k x)
leaf_gap o (Content.comment s) x h f = gaps.comment h.0 (comment_before o s x h.1.0 h.1.1 f) gaps.none
leaf_gap o Content.root x h f = absurd h
leaf_gap o Content.object x h f = absurd h
leaf_gap o Content.array x h f = absurd h
leaf_gap o Content.property x h f = absurd h
leaf_gap o (Content.string s) x h f = absurd h
leaf_gap o (Content.word s) x h f = absurd h
leaf_gap o (Content.number s) x h f = absurd h
leaf_gap o (Content.boolean b) x h f = absurd h
leaf_gap o Content.null x h f = absurd h
leaf_gap o (Content.token c) x h f = absurd h

passed_over : (o : Options) (content : Content) → IsTrivia o content → IsTrue (is_passed_over content)
passed_over o (Content.whitespace s) h = refl
passed_over o (Content.newline k) h = refl
passed_over o (Content.comment s) h = refl
passed_over o Content.root h = absurd h
passed_over o Content.object h = absurd h
passed_over o Content.array h = absurd h
passed_over o Content.property h = absurd h
passed_over o (Content.string s) h = absurd h
passed_over o (Content.word s) h = absurd h
passed_over o (Content.number s) h = absurd h
passed_over o (Content.boolean b) h = absurd h
passed_over o Content.null h = absurd h
passed_over o (Content.token c) h = absurd h

module _ (o : Options) where
  pub trivia_items : {t r : OrderedTree} {vs : Items} → Trivia o t r → ItemsOf o r vs → ItemsOf o t vs
  trivia_items nothing h = h
  trivia_items (trivia {content = content} x g) h = values.pass_to_items (passed_over o content x) (trivia_items g h)

  pub trivia_members : {t r : OrderedTree} {ms : Members} → Trivia o t r → MembersOf o r ms → MembersOf o t ms
  trivia_members nothing h = h
  trivia_members (trivia {content = content} x g) h = values.pass_to_members (passed_over o content x) (trivia_members g h)

  pub trivia_value : {t r : OrderedTree} {v : Plain} → Trivia o t r → HoldsValue o r v → HoldsValue o t v
  trivia_value nothing h = h
  trivia_value (trivia {content = content} x g) h = values.pass_to_value (passed_over o content x) (trivia_value g h)

  pub trivia_none : {t : OrderedTree} → Trivia o t none → HasNoValue t
  trivia_none nothing = values.end
  trivia_none (trivia {content = content} x g) = values.pass (passed_over o content x) (trivia_none g)

  pub trivia_row_utf8 : {t r : OrderedTree} → Trivia o t r → IsUtf8 (printed r) → IsUtf8 (printed t)
  trivia_row_utf8 nothing u = u
  trivia_row_utf8 (trivia {content = content} {t = t} x g) u =
      subst IsUtf8 (sym (printed-more content none t)) (IsUtf8-append (text_of content) (printed t) (trivia_utf8 o content x) (trivia_row_utf8 g u))

  pub trivia_some : {t r : OrderedTree} → Trivia o t r → 0 < length (printed_text r) → 0 < length (printed_text t)
  trivia_some nothing l = l
  trivia_some (trivia {content = content} {t = t} x g) l =
      let others = trivia_some g l in
      omega (arith, others, ap length (text_leaf content t (trivia_utf8 o content x)), length-append (chars (text_of content)) (printed_text t))
