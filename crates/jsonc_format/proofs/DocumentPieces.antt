-- A document has pieces.
use Rattle.std.proofs.Common.{ℕ, ◌≡◌, ap, refl, List, [], ◌∷◌, ◌++◌, IsTrue, Bool, true, false, ◌||◌, ◌==◌, Option, Some, None, inl, inr}
use Rattle.jsonc_text.specs.Options.{Options}
use Rattle.jsonc_text.specs.Text.{stop, step}
use Rattle.jsonc_text.specs.Gaps.{is_blank, is_in_line, Gap, IsComment, line, block, UpToBlockEnd, here, later}
use Rattle.jsonc_text.specs.Places.{is_comment}
use Rattle.jsonc_text.specs.Lexemes.{LexemeKind, Scanned, lexeme, line_comment, block_comment, is_punctuation, IsScanned}
use Rattle.jsonc_text.specs.Grammar.{literal_value, IsValue, AreElements, AreProperties, IsProperty, IsName, IsDocument, Separates, Closes}
use Rattle.jsonc_text.specs.Plain.{Plain, Items, Members}
use Rattle.jsonc_text.proofs.LexemesAlone.{own_text}
use Rattle.jsonc_text.proofs.Cuts.{many_split}
use Rattle.jsonc_format.specs.Format.{Piece, IsPieces, no_more, piece, mark}

pub block_text : {t r : List ℕ} → UpToBlockEnd t r → (s : List ℕ) × (t ≡ s ++ 0x2A ∷ 0x2F ∷ r)
block_text here = ([], refl)
block_text (later {c = c} h g) = let more = block_text g in (c ∷ more.0, ap (λ t. c ∷ t) more.1)

abbrev pub comment_scanned : (o : Options) {t u : List ℕ} → IsComment t u → (w : Scanned) × IsScanned o w t u
comment_scanned o (inl (line {t = t} {r = r} g n)) =
    let part = many_split is_in_line g in (line_comment part.0, (line g n, ap (λ s. 0x2F ∷ 0x2F ∷ s) part.1))
comment_scanned o (inr (block {t = t} {r = r} g)) =
    let part = block_text g in (block_comment part.0, (block g, ap (λ s. 0x2F ∷ 0x2A ∷ s) part.1))

-- a piece without a gap
abbrev bare : Scanned → List ℕ → Piece
bare w s = record { gap = []; what = w; text = s }

-- the next piece is a comment or a colon
abbrev pub names_next : List Piece → Bool
names_next [] = false
names_next (p ∷ ps) = is_comment p.what || mark p.what == 0x3A

-- a word names a property
abbrev pub word_named : Scanned → List Piece → Bool
word_named (lexeme (LexemeKind.word s)) ps = names_next ps
word_named w ps = true

abbrev pub Named : List Piece → Type 0
Named [] = Unit {0}
Named (p ∷ ps) = IsTrue (word_named p.what ps) × Named ps

module _ (o : Options) where
  record Has (t : List ℕ) : Type 0 where
    tail : List ℕ
    pieces : List Piece
    parts : IsPieces o tail t pieces
    named : Named pieces

  after_blank : {c : ℕ} {t tail : List ℕ} {ps : List Piece} → IsTrue (is_blank c) → IsPieces o tail t ps → Named ps → Has (c ∷ t)
  after_blank {c} {t} h (no_more g) n = record { tail = c ∷ t; pieces = []; parts = no_more (step h g); named = tt }
  after_blank {c} {t} {tail} h (piece p {ps = ps} g x e l) n =
      let q : Piece = record p { gap = c ∷ p.gap } in
      record { tail = tail; pieces = q ∷ ps; parts = piece q (step h g) x (ap (λ s. c ∷ s) e) l; named = n }

  after_scanned : (w : Scanned) {t u : List ℕ} → IsScanned o w t u → (h : Has u) → IsTrue (word_named w h.pieces) → Has t
  after_scanned w {t} {u} x h k =
      let s = own_text o w t u x in
      record { tail = h.tail; pieces = bare w s.0 ∷ h.pieces; parts = piece (bare w s.0) stop (rw s.1 at x) s.1 h.parts; named = (k, h.named) }

  comment_named : {t u : List ℕ} (c : IsComment t u) (ps : List Piece) → IsTrue (word_named (comment_scanned o c).0 ps)
  comment_named (inl (line g n)) ps = refl
  comment_named (inr (block g)) ps = refl

  after_gap : {t u : List ℕ} → Gap o t u → Has u → Has t
  after_gap Gap.none h = h
  after_gap (Gap.blank c g) h = let k = after_gap g h in after_blank c k.parts k.named
  after_gap (Gap.comment a c g) h = let w = comment_scanned o c in let k = after_gap g h in after_scanned w.0 w.1 k (comment_named c k.pieces)

  after_mark : (c : ℕ) {r : List ℕ} → IsTrue (is_punctuation c) → Has r → Has (c ∷ r)
  after_mark c {r} h k = after_scanned (lexeme (LexemeKind.punctuation c)) (h, refl) k refl

  blank_named : (c : ℕ) {t tail : List ℕ} {ps : List Piece} (b : IsTrue (is_blank c)) (p : IsPieces o tail t ps) (n : Named ps) → IsTrue (names_next ps) → IsTrue (names_next (after_blank {c = c} b p n).pieces)
  unfolding after_blank
  blank_named c b (no_more g) n h = h
  blank_named c b (piece p g x e l) n h = h

  pub comment_next : {t u : List ℕ} (c : IsComment t u) → IsTrue (is_comment (comment_scanned o c).0)
  comment_next (inl (line g n)) = refl
  comment_next (inr (block g)) = refl

  or_true : (a b : Bool) → IsTrue a → IsTrue (a || b)
  or_true true b h = refl
  or_true false b h = cc

  gap_named : {t u : List ℕ} (g : Gap o t u) (h : Has u) → IsTrue (names_next h.pieces) → IsTrue (names_next (after_gap g h).pieces)
  unfolding after_gap after_scanned
  gap_named Gap.none h n = n
  gap_named (Gap.blank {c = d} b g) h n = let k = after_gap g h in blank_named d b k.parts k.named (gap_named g h n)
  gap_named (Gap.comment a c g) h n = or_true (is_comment (comment_scanned o c).0) _ (comment_next c)

  colon_named : {r : List ℕ} (h : Has r) → IsTrue (names_next (after_mark 0x3A refl h).pieces)
  unfolding after_mark after_scanned
  colon_named h = refl

  after_separator : {t r : List ℕ} → Separates o t r → Has r → Has t
  after_separator (Separates.comma g k) h = after_gap g (after_mark 0x2C refl (after_gap k h))
  after_separator (Separates.no_comma p g) h = after_gap g h

  after_close : (b : ℕ) {t r : List ℕ} → IsTrue (is_punctuation b) → Closes o b t r → Has r → Has t
  after_close b q (Closes.plain g) h = after_gap g (after_mark b q h)
  after_close b q (Closes.trailing_comma p g k) h = after_gap g (after_mark 0x2C refl (after_gap k (after_mark b q h)))

  lexeme_named : (k : LexemeKind) (ps : List Piece) → IsTrue (names_next ps) → IsTrue (word_named (lexeme k) ps)
  lexeme_named (LexemeKind.string v) ps h = refl
  lexeme_named (LexemeKind.number n) ps h = refl
  lexeme_named (LexemeKind.word n) ps h = h
  lexeme_named (LexemeKind.keyword k) ps h = refl
  lexeme_named (LexemeKind.punctuation c) ps h = refl

  after_name : {t name u : List ℕ} → IsName o t name u → (h : Has u) → IsTrue (names_next h.pieces) → Has t
  after_name {name = name} (inl x) h n = after_scanned (lexeme (LexemeKind.string name)) x h refl
  after_name (inr (a, e, k, b, x)) h n = after_scanned (lexeme k) x h (lexeme_named k h.pieces n)

  value_named : (k : LexemeKind) (v : Plain) (ps : List Piece) → literal_value k ≡ Some v → IsTrue (word_named (lexeme k) ps)
  value_named (LexemeKind.string s) v ps e = refl
  value_named (LexemeKind.number n) v ps e = refl
  value_named (LexemeKind.word n) v ps e = cc
  value_named (LexemeKind.keyword k) v ps e = refl
  value_named (LexemeKind.punctuation c) v ps e = refl

  mutual
    after_value : {t r : List ℕ} {v : Plain} → IsValue o t v r → Has r → Has t
    after_value {v = v} (IsValue.literal k x e) h = after_scanned (lexeme k) x h (value_named k v h.pieces e)
    after_value (IsValue.empty_array g) h = after_mark 0x5B refl (after_gap g (after_mark 0x5D refl h))
    after_value (IsValue.array g x) h = after_mark 0x5B refl (after_gap g (after_elements x h))
    after_value (IsValue.empty_object g) h = after_mark 0x7B refl (after_gap g (after_mark 0x7D refl h))
    after_value (IsValue.object g x) h = after_mark 0x7B refl (after_gap g (after_properties x h))

    after_elements : {t r : List ℕ} {vs : Items} → AreElements o t vs r → Has r → Has t
    after_elements (AreElements.last_element x c) h = after_value x (after_close 0x5D refl c h)
    after_elements (AreElements.element x s y) h = after_value x (after_separator s (after_elements y h))

    after_properties : {t r : List ℕ} {ms : Members} → AreProperties o t ms r → Has r → Has t
    after_properties (AreProperties.last_property x c) h = after_property x (after_close 0x7D refl c h)
    after_properties (AreProperties.property x s y) h = after_property x (after_separator s (after_properties y h))

    after_property : {t name r : List ℕ} {v : Plain} → IsProperty o t name v r → Has r → Has t
    after_property (IsProperty.named n g k x) h =
        let more = after_gap k (after_value x h) in
        let colon = after_mark 0x3A refl more in
        after_name n (after_gap g colon) (gap_named g colon (colon_named more))

  none_after : Has []
  none_after = record { tail = []; pieces = []; parts = no_more stop; named = tt }

  document_has : (t : List ℕ) (v : Option Plain) → IsDocument o t v → Has t
  document_has t None g = after_gap g none_after
  document_has t (Some v) (u, r, g, x, k) = after_gap g (after_value x (after_gap k none_after))

pub document_pieces : (o : Options) (t : List ℕ) (v : Option Plain) → IsDocument o t v → (tail : List ℕ) × (ps : List Piece) × IsPieces o tail t ps × Named ps
document_pieces o t v d = let h = document_has o t v d in (h.tail, h.pieces, h.parts, h.named)
