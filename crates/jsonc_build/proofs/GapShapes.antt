-- The leaves that stand where a gap does are trivia.
use Rattle.std.proofs.Common.{ℕ, ◌+◌, ◌<◌, ◌≤◌, ◌≡◌, ◌∙◌, sym, ap, subst, refl, inl, inr, List, [], ◌∷◌, ◌++◌, ◌==◌, length, arith, IsTrue, Bool, true, false, not, IsUtf8, IsCharBoundary, chars, encode_utf8_all}
use Rattle.std.proofs.lemmas.Str.{IsUtf8-between}
use Rattle.jsonc_text.specs.Options.{Options}
use Rattle.jsonc_text.specs.Text.{rest, next, no, starts, byte_length, Many, stop, step, all_of}
use Rattle.jsonc_text.specs.Gaps as gaps
use Rattle.jsonc_text.specs.Gaps.{Gap, is_blank, is_in_line, LineComment, line, BlockComment, block, UpToBlockEnd, here, later, IsComment}
use Rattle.jsonc_text.specs.Lexemes.{line_comment, block_comment}
use Rattle.jsonc_text.proofs.LexemesAlone.{scanned_alone}
use Rattle.jsonc_text.proofs.Basics.{clash, and_both, or_cases, test_eq, front_same, tails}
use Rattle.jsonc_text.proofs.BlockComments.{block_inside}
use Rattle.jsonc_text.proofs.Cuts.{rest_past, slice_encodes, slice_chars, spans, many_split}
use Rattle.jsonc_text.proofs.NumberFrames.{many_cut}
use Rattle.jsonc_text.proofs.UniqueGaps.{comment_begins, comment_no_blank, comment_unique}
use Rattle.jsonc_tree.specs.Content.{Content, token}
use Rattle.jsonc_tree.specs.OrderedTree.{OrderedTree, followed_by}
use Rattle.jsonc_sound.specs.Filling.{is_separator}
use Rattle.jsonc_sound.specs.Leaves.{GapLeaf, line_feed, cr_lf, cr, blanks, a_comment, mark, Fills, end, leaf, is_inner_blank}
use Rattle.jsonc_sound.specs.Shape.{IsText, IsTrivia, Trivia, nothing, trivia, token_then}
use Rattle.jsonc_build.proofs.GapLeaves.{leaf_text}
use Rattle.jsonc_sound.proofs.LexemeEnds.{many_length}
use Rattle.jsonc_build.proofs.Stretches.{separator_no_slash}

-- what stands at the front of a text, alone
many_alone : {p : ℕ → Bool} {t r : List ℕ} (s : List ℕ) → Many p t r → t ≡ s ++ r → Many p s []
many_alone {r = r} s g e =
    let k = many_cut [] r g refl in
    let same : s ≡ k.text = front_same refl (sym e ∙ k.split) in
    rw same k.here

comment_alone : (o : Options) {t r : List ℕ} (s : List ℕ) → IsComment t r → t ≡ s ++ r → IsComment s []
comment_alone o {r = r} s (inl (line m n)) e =
    let part = many_split is_in_line m in
    inl (scanned_alone o (line_comment part.0) s r (subst (λ x. LineComment x r) e (line m n), sym e ∙ ap (λ x. 0x2F ∷ 0x2F ∷ x) part.1)).0.0
comment_alone o {r = r} s (inr b) e =
    let inside = block_inside b in
    inr (scanned_alone o (block_comment inside.0) s r (subst (λ x. BlockComment x r) e b, sym e ∙ inside.1)).0.0

-- a leaf takes at least one character
block_length : {t r : List ℕ} → UpToBlockEnd t r → length r ≤ length t
block_length here = omega arith
block_length (later h g) = omega (arith, block_length g)

leaf_length : {content : Content} {t r : List ℕ} → GapLeaf content t r → length r < length t
leaf_length line_feed = omega arith
leaf_length cr_lf = omega arith
leaf_length (cr h) = omega arith
leaf_length (blanks s e (all_of h m last) split) = omega (arith, many_length m)
leaf_length (a_comment s e (inl (line m n)) split) = omega (arith, many_length m)
leaf_length (a_comment s e (inr (block g)) split) = omega (arith, block_length g)
leaf_length (mark h) = omega arith

fills_length : {t r : List ℕ} {row : OrderedTree} → Fills t row r → length r ≤ length t
fills_length end = omega arith
fills_length (leaf one tail) = omega (arith, leaf_length one, fills_length tail)

separator_no_blank : (c : ℕ) → IsTrue (is_separator c) → IsTrue (is_blank c) → ⊥
separator_no_blank c h b = elim (or_cases (c == 0x2C) (c == 0x3A) h) [
  | inl e ↦ (let wrong : false ≡ true = sym (ap is_blank (test_eq c 0x2C e)) ∙ b in cc)
  | inr e ↦ (let wrong : false ≡ true = sym (ap is_blank (test_eq c 0x3A e)) ∙ b in cc)
]

separator_starts : (c : ℕ) → IsTrue (is_separator c) → IsTrue (not (is_blank c))
separator_starts c h = elim (or_cases (c == 0x2C) (c == 0x3A) h) [
  | inl e ↦ ap (λ d. not (is_blank d)) (test_eq c 0x2C e)
  | inr e ↦ ap (λ d. not (is_blank d)) (test_eq c 0x3A e)
]

module _ (o : Options) where
  gap_length : {t r : List ℕ} → Gap o t r → length r ≤ length t
  gap_length gaps.none = omega arith
  gap_length (gaps.blank h g) = omega (arith, gap_length g)
  gap_length (gaps.comment a (inl (line m n)) g) = omega (arith, many_length m, gap_length g)
  gap_length (gaps.comment a (inr (block k)) g) = omega (arith, block_length k, gap_length g)

  -- the gap goes on after a blank
  gap_past_blank : {c : ℕ} {v r : List ℕ} → IsTrue (is_blank c) → IsTrue (no is_blank (next r)) → Gap o (c ∷ v) r → Gap o v r
  gap_past_blank {c} b n gaps.none = absurd (clash (is_blank c) n b)
  gap_past_blank b n (gaps.blank h g) = g
  gap_past_blank b n (gaps.comment a k g) = absurd (comment_no_blank k b)

  gap_past_blanks : {t u r : List ℕ} → Many is_inner_blank t u → IsTrue (no is_blank (next r)) → Gap o t r → Gap o u r
  gap_past_blanks stop n g = g
  gap_past_blanks (step {c = c} h m) n g = gap_past_blanks m n (gap_past_blank (and_both (is_blank c) _ h).0 n g)

  module _ (bytes : List ℕ) (utf8 : IsUtf8 bytes) where
    -- t stands in the text up to its end
    pub record Stands (t : List ℕ) : Type 0 where
      pub place : ℕ
      pub boundary : IsCharBoundary bytes place
      pub in_tree : rest bytes place ≡ t

    stands_past : {t u : List ℕ} (s : List ℕ) → Stands t → t ≡ s ++ u → Stands u
    stands_past {u = u} s x e =
        let past = rest_past bytes s u x.place utf8 x.boundary (x.in_tree ∙ e) in
        record { place = x.place + byte_length s; boundary = past.1; in_tree = past.0 }

    -- so the front of it is a text
    is_text : (R : List ℕ → List ℕ → Type 0) {t b : List ℕ} (s u : List ℕ) → Stands t → t ≡ s ++ u → b ≡ encode_utf8_all s → R s [] → IsText R b
    is_text R s u x e same h =
        let y = stands_past s x e in
        let split : rest bytes x.place ≡ s ++ rest bytes y.place = x.in_tree ∙ e ∙ ap (λ v. s ++ v) (sym y.in_tree) in
        let encodes = slice_encodes bytes s x.place y.place utf8 x.boundary y.boundary split in
        let known = slice_chars bytes s x.place y.place utf8 x.boundary y.boundary split in
        let order = (spans bytes s x.place y.place utf8 x.boundary y.boundary split).order in
        let b_slice = encodes ∙ sym same in
        (subst IsUtf8 b_slice (IsUtf8-between bytes x.place y.place utf8 order x.boundary y.boundary), subst (λ v. R v []) (sym known ∙ ap chars b_slice) h)

    -- where a leaf and a gap begin, the leaf is trivia and the gap goes on after it, or the gap ends
    data Peeled (content : Content) (t u r : List ℕ) : Type 0 where
      goes_on : IsTrivia o content → Gap o u r → Peeled content t u r
      at_end : t ≡ r → Peeled content t u r

    peel : {content : Content} {t u r : List ℕ} → GapLeaf content t u → Stands t → Gap o t r → IsTrue (no is_blank (next r)) → Peeled content t u r
    peel one x gaps.none n = at_end refl
    peel line_feed x (gaps.blank h g) n = goes_on tt g
    peel line_feed x (gaps.comment a k g) n = absurd (comment_no_blank k refl)
    peel cr_lf x (gaps.blank h g) n = goes_on tt (gap_past_blank refl n g)
    peel cr_lf x (gaps.comment a k g) n = absurd (comment_no_blank k refl)
    peel (cr d) x (gaps.blank h g) n = goes_on tt g
    peel (cr d) x (gaps.comment a k g) n = absurd (comment_no_blank k refl)
    peel {u = u} (blanks s e (all_of h m last) split) x (gaps.blank k g) n = goes_on (is_text (Many is_inner_blank) s u x split e (many_alone s (step h m) split)) (gap_past_blanks m n g)
    peel (blanks s e (all_of {c = c} h m last) split) x (gaps.comment a k g) n = absurd (comment_no_blank k (and_both (is_blank c) _ h).0)
    peel (a_comment s e k split) x (gaps.blank h g) n = absurd (comment_no_blank k h)
    peel {u = u} {r = r} (a_comment s e k split) x (gaps.comment a l g) n = goes_on (a, is_text IsComment s u x split e (comment_alone o s k split)) (subst (λ v. Gap o v r) (comment_unique l k) g)
    peel (mark {c = c} h) x (gaps.blank k g) n = absurd (separator_no_blank c h k)
    peel (mark {c = c} h) x (gaps.comment a k g) n = absurd (separator_no_slash c h (comment_begins k))

    -- the leaves of a gap
    pub gap_trivia : {t r : List ℕ} {row : OrderedTree} (after : OrderedTree) → Fills t row r → Stands t → Gap o t r → IsTrue (no is_blank (next r)) → Trivia o (followed_by row after) after
    gap_trivia after end x g n = nothing
    gap_trivia {t} {r} after (leaf {u = u} one tail) x g n = elim (peel one x g n) [
      | goes_on h k ↦ (let s = leaf_text one in trivia h (gap_trivia after tail (stands_past s.0 x s.1) k n))
      | at_end e ↦ absurd (omega (arith, leaf_length one, fills_length tail, ap length e))
    ]

    -- a comma or colon stands after no gap but before the mark's own leaf
    mark_here : {content : Content} {c : ℕ} {t u w : List ℕ} → GapLeaf content t u → t ≡ c ∷ w → IsTrue (is_separator c) → (content ≡ token c) × (u ≡ w)
    mark_here {c = c} line_feed e h = absurd (separator_no_blank c h (let same : 0x0A ≡ c = cc in rw (sym same) refl))
    mark_here {c = c} cr_lf e h = absurd (separator_no_blank c h (let same : 0x0D ≡ c = cc in rw (sym same) refl))
    mark_here {c = c} (cr d) e h = absurd (separator_no_blank c h (let same : 0x0D ≡ c = cc in rw (sym same) refl))
    mark_here {c = c} (blanks s e (all_of {c = d} b m last) split) f h = absurd (separator_no_blank c h (let same : d ≡ c = cc in subst (λ v. IsTrue (is_blank v)) same (and_both (is_blank d) _ b).0))
    mark_here {c = c} (a_comment s e k split) f h = absurd (separator_no_slash c h (subst (λ v. IsTrue (starts (λ d. d == 0x2F) (next v))) f (comment_begins k)))
    mark_here (mark {c = d} b) e h = (let same : d ≡ _ = cc in ap token same, tails e)

    -- the leaves of a gap, a comma or colon, and a gap
    pub gap_mark : {t w r : List ℕ} {row : OrderedTree} (c : ℕ) (after : OrderedTree) → IsTrue (is_separator c) → Fills t row r → Stands t → Gap o t (c ∷ w) → Gap o w r → IsTrue (no is_blank (next r))
        → (u : OrderedTree) × Trivia o (followed_by row after) (token_then c u) × Trivia o u after
    gap_mark c after h end x g k n = absurd (omega (arith, gap_length g, gap_length k))
    gap_mark {w = w} {r = r} c after h (leaf {content = content} {u = u} {after = row} one tail) x g k n =
        let s = leaf_text one in
        let y = stands_past s.0 x s.1 in
        elim (peel one x g (separator_starts c h)) [
          | goes_on i j ↦ (let more = gap_mark c after h tail y j k n in (more.0, trivia i more.1, more.2))
          | at_end e ↦ (let same = mark_here one e h in (followed_by row after, rw same.0 nothing, gap_trivia after tail y (subst (λ v. Gap o v r) (sym same.1) k) n))
        ]
