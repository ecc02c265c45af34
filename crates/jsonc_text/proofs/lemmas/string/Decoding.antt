-- Strings, piece by piece.
use Rattle.std.proofs.Common.{ℕ, ◌+◌, ◌-◌, ◌<◌, ◌≤◌, ◌≡◌, ◌≢◌, ◌∙◌, sym, ap, refl, List, [], ◌∷◌, ◌++◌, arith, IsUtf8, encode_utf8, encode_utf8_all, IsTrue, Bool, true, false, not, IsCharBoundary, chars, slice_range, ◌==◌, ◌||◌, ◌⊎◌, inl, inr, append_assoc, Option}
use Rattle.std.proofs.lemmas.List.{append-nil}
use Rattle.std.proofs.lemmas.Str.{chars-nil, chars-append, chars_past_char, IsUtf8-past_char}
use Rattle.jsonc_text.specs.Options.{Options, all_on}
use Rattle.jsonc_text.specs.Text.{rest, next, no, Many, stop, step, Spans}
use Rattle.jsonc_text.specs.Chars.{Steps}
use Rattle.jsonc_text.specs.Strings.{Piece, itself, Pieces, done, piece, IsQuote}
use Rattle.jsonc_text.proofs.Basics.{heads, tails, clash, no_starts, front_same, eq_test}
use Rattle.jsonc_text.proofs.Cuts.{chars_between, many_spans}
use Rattle.jsonc_text.proofs.StringFrames.{pieces_of_decodes, pieces_decode}
use Rattle.jsonc_text.proofs.UniqueStrings.{piece_unique, no_piece, no_backslash}
use Rattle.jsonc_text.specs.string.Between.{Between, Reaches, LacksAt, is_neither}
use Rattle.jsonc_text.specs.string.Escapes.{escapes, IsPiece, NoPiece, given, IsQuoted, NoQuoted, HoldsBackslash}

pub pieces_append : {o : Options} {q : ℕ} {t v u w r : List ℕ} → Pieces o q t v u → Pieces o q u w r → Pieces o q t (v ++ w) r
pieces_append done p = p
pieces_append {w = w} (piece {p = x} {v = y} k g e) p = piece k (pieces_append g p) (ap (λ z. z ++ w) e ∙ append_assoc x y w)

-- characters that are neither the quote nor a backslash stand for themselves
neither : (c q : ℕ) → IsTrue (is_neither q 0x5C c) → (c ≢ q) × (c ≢ 0x5C)
neither c q h = (λ e. let k = rw e at h in grind arith, λ e. let k = rw e at h in grind arith)

run_pieces : {o : Options} {q : ℕ} {t r : List ℕ} → Many (is_neither q 0x5C) t r → (s : List ℕ) × (t ≡ s ++ r) × Pieces o q t s r
run_pieces stop = ([], refl, done)
run_pieces {q = q} (step {c = c} h m) =
    let more = run_pieces m in
    let both = neither c q h in
    (c ∷ more.0, ap (λ t. c ∷ t) more.1, piece (itself both.0 both.1) more.2 refl)

-- the rest of pieces that were read so far
pub pieces_go_on : {o : Options} {q : ℕ} {t v u w x r : List ℕ} → q ≢ 0x5C → Pieces o q t v u → Pieces o q t w x → x ≡ q ∷ r → (y : List ℕ) × Pieces o q u y x
pieces_go_on {w = w} n done g e = (w, g)
pieces_go_on n (piece k g a) done e = absurd (no_piece n (rw e at k))
pieces_go_on n (piece k g a) (piece l h b) e = pieces_go_on n g (rw (sym (piece_unique k l).1) at h) e

-- what was decoded of a string, whose text begins at a place, up to another, and the run of other characters after that
pub record Decoding (taken : Bool) (q : ℕ) (bytes : List ℕ) (first from place : ℕ) (copy : List ℕ) : Type 0 where
  pub boundary : IsCharBoundary bytes from
  pub order : first ≤ from
  pub so_far : Pieces (escapes taken) q (rest bytes first) (chars copy) (rest bytes from)
  pub run : Reaches (Many (is_neither q 0x5C)) bytes from place
  pub stops : LacksAt (is_neither q 0x5C) bytes place

-- the bytes of a text without those of the characters at its front
utf8_after : (cs ys : List ℕ) → IsUtf8 (encode_utf8_all cs ++ ys) → IsUtf8 ys
utf8_after [] ys u = u
utf8_after (c ∷ cs) ys u =
    utf8_after cs ys (IsUtf8-past_char (encode_utf8_all (c ∷ cs) ++ ys) (encode_utf8_all cs ++ ys) c u (append_assoc (encode_utf8 c) (encode_utf8_all cs) ys))

-- a character that was appended
char_appended : (xs new : List ℕ) (c : ℕ) → IsUtf8 xs → IsUtf8 new → new ≡ xs ++ encode_utf8 c → chars new ≡ chars xs ++ c ∷ []
char_appended xs new c u v e =
    let whole : IsUtf8 (encode_utf8_all u.0 ++ encode_utf8 c) = rw u.1.1 (rw e at v) in
    let last : IsUtf8 (encode_utf8 c) = utf8_after u.0 (encode_utf8 c) whole in
    let one : chars (encode_utf8 c) ≡ c ∷ [] = chars_past_char (encode_utf8 c) [] c last (sym (append-nil (encode_utf8 c))) ∙ ap (λ t. c ∷ t) chars-nil in
    ap chars e ∙ chars-append xs (encode_utf8 c) u ∙ ap (λ t. chars xs ++ t) one

pub part_appended : (old new front : List ℕ) → IsUtf8 old → new ≡ old ++ front → chars new ≡ (chars old ++ chars front) ++ []
part_appended old new front u e = ap chars e ∙ chars-append old front u ∙ sym (append-nil (chars old ++ chars front))

pub both_appended : (old mid new front : List ℕ) (c : ℕ) → IsUtf8 old → IsUtf8 mid → IsUtf8 new → mid ≡ old ++ front → new ≡ mid ++ encode_utf8 c → chars new ≡ (chars old ++ chars front) ++ c ∷ []
both_appended old mid new front c u v w e f =
    char_appended mid new c v w f ∙ ap (λ t. t ++ c ∷ []) (ap chars e ∙ chars-append old front u)

-- the run of other characters is decoded too
pub decoded_run : (taken : Bool) (q : ℕ) (bytes copy front : List ℕ) (first from place : ℕ) → IsUtf8 bytes → Decoding taken q bytes first from place copy → front ≡ slice_range bytes from place → Pieces (escapes taken) q (rest bytes first) (chars copy ++ chars front) (rest bytes place)
decoded_run taken q bytes copy front first from place u d e =
    let spans : Spans bytes from place = record { from = d.boundary; to = d.run.boundary; order = d.run.order } in
    let part = run_pieces d.run.piece in
    let same : chars (slice_range bytes from place) ≡ part.0 = front_same refl (sym (chars_between bytes from place u spans) ∙ part.1) in
    pieces_append d.so_far (rw (e, same) part.2)

pub decoding_start : (taken : Bool) (q : ℕ) (bytes copy : List ℕ) (first place : ℕ) → IsCharBoundary bytes first → copy ≡ [] → Reaches (Many (is_neither q 0x5C)) bytes first place → Steps bytes place 0x5C (place + 1) → Decoding taken q bytes first first place copy
decoding_start taken q bytes copy first place b e run s =
    let none : chars copy ≡ [] = ap chars e ∙ chars-nil in
    record { boundary = b; order = omega arith; so_far = rw none done; run = run; stops = rw s.0 (backslash_stops q) }
  where
    backslash_stops : (q : ℕ) → IsTrue (not (is_neither q 0x5C 0x5C))
    backslash_stops q = grind arith

pub decoding_more : (taken : Bool) (q : ℕ) (bytes copy front new : List ℕ) (c : Option ℕ) (first from place end after : ℕ) → IsUtf8 bytes → Decoding taken q bytes first from place copy → front ≡ slice_range bytes from place → Between (IsPiece taken q (given c)) bytes place end
    → chars new ≡ (chars copy ++ chars front) ++ given c → Reaches (Many (is_neither q 0x5C)) bytes end after → LacksAt (is_neither q 0x5C) bytes after → Decoding taken q bytes first end after new
decoding_more taken q bytes copy front new c first from place end after u d e escape f run stops =
    let last : Pieces (escapes taken) q (rest bytes place) (given c) (rest bytes end) = piece escape.piece done (sym (append-nil (given c))) in
    record {
      boundary = escape.boundary;
      order = omega (arith, d.order, d.run.order, escape.order);
      so_far = rw f (pieces_append (decoded_run taken q bytes copy front first from place u d e) last);
      run = run;
      stops = stops;
    }

-- the string between its quotes
pub quoted : (taken : Bool) (q : ℕ) (bytes v : List ℕ) (start place : ℕ) → Steps bytes start q (start + 1) → start < place → Steps bytes place q (place + 1) → Pieces (escapes taken) q (rest bytes (start + 1)) v (rest bytes place) → Between (IsQuoted taken q v) bytes start (place + 1)
quoted taken q bytes v start place s l t p =
    let part = pieces_decode (rw t.0 at p) in
    record { boundary = t.1; order = omega arith; piece = (part.0, s.0 ∙ ap (λ x. q ∷ x) part.1, part.2) }

-- where pieces were read up to a place, and neither a piece nor the quote stands there
pub no_quoted : (taken : Bool) (q : ℕ) (bytes v : List ℕ) (start place : ℕ) → IsQuote all_on q → Steps bytes start q (start + 1) → Pieces (escapes taken) q (rest bytes (start + 1)) v (rest bytes place) → NoPiece taken q bytes place → LacksAt (λ c. c == q) bytes place → NoQuoted taken q bytes start
no_quoted taken q bytes v start place quote s so_far none lacks w r (inside, e, d) =
    let same : inside ++ q ∷ r ≡ rest bytes (start + 1) = tails (sym e ∙ s.0) in
    let all : Pieces (escapes taken) q (rest bytes (start + 1)) w (q ∷ r) = rw same at (pieces_of_decodes inside r d) in
    let more = pieces_go_on (no_backslash all_on quote) so_far all refl in
    stuck more.1 refl
  where
    stuck : {y x : List ℕ} → Pieces (escapes taken) q (rest bytes place) y x → x ≡ q ∷ r → ⊥
    stuck done g = no_starts (λ c. c == q) (next (rest bytes place)) lacks (rw g (eq_test q q refl))
    stuck (piece k g a) h = none _ _ k

pub no_piece_at_end : {o : Options} {q : ℕ} {t p r : List ℕ} → t ≡ [] → Piece o q t p r → ⊥
no_piece_at_end e (itself a b) = cc
no_piece_at_end e (Piece.plain h) = cc
no_piece_at_end e (Piece.unit h k) = cc
no_piece_at_end e (Piece.pair h k i l) = cc
no_piece_at_end e (Piece.other h k) = cc
no_piece_at_end e (Piece.zero h k) = cc
no_piece_at_end e (Piece.byte h k) = cc
no_piece_at_end e (Piece.line h k) = cc
no_piece_at_end e (Piece.lone_cr h k) = cc
no_piece_at_end e (Piece.cr_lf h) = cc

-- where neither the quote, a backslash nor another character stands, the text ends
pub run_ends : (q : ℕ) (t : List ℕ) → IsTrue (no (is_neither q 0x5C) (next t)) → IsTrue (no (λ c. c == q) (next t)) → IsTrue (no (λ c. c == 0x5C) (next t)) → t ≡ []
run_ends q [] a b d = refl
run_ends q (c ∷ t) a b d = absurd (neither_left (c == q) (c == 0x5C) a b d)
  where
    neither_left : (x y : Bool) → IsTrue (not (not (x || y))) → IsTrue (not x) → IsTrue (not y) → ⊥
    neither_left true y a b d = cc
    neither_left false true a b d = cc
    neither_left false false a b d = cc

pub no_end : (taken : Bool) (q : ℕ) (bytes v : List ℕ) (start place : ℕ) → IsQuote all_on q → Steps bytes start q (start + 1) → Pieces (escapes taken) q (rest bytes (start + 1)) v (rest bytes place) → LacksAt (is_neither q 0x5C) bytes place → LacksAt (λ c. c == q) bytes place → LacksAt (λ c. c == 0x5C) bytes place → NoQuoted taken q bytes start
no_end taken q bytes v start place quote s so_far stops lacks none =
    let end : rest bytes place ≡ [] = run_ends q (rest bytes place) stops lacks none in
    no_quoted taken q bytes v start place quote s so_far (λ p r k. no_piece_at_end end k) lacks

pub plain_run : (taken : Bool) (q : ℕ) (bytes : List ℕ) (first place : ℕ) → Reaches (Many (is_neither q 0x5C)) bytes first place → (v : List ℕ) × Pieces (escapes taken) q (rest bytes first) v (rest bytes place)
plain_run taken q bytes first place run = let part = run_pieces run.piece in (part.0, part.2)

-- the backslash is no quote
pub backslash_no_quote : (q : ℕ) (bytes : List ℕ) (place : ℕ) → IsQuote all_on q → Steps bytes place 0x5C (place + 1) → LacksAt (λ c. c == q) bytes place
backslash_no_quote q bytes place quote s = rw s.0 (other q quote)
  where
    other : (q : ℕ) → IsQuote all_on q → IsTrue (not (0x5C == q))
    other q h = grind arith

pub quoted_copy : (taken : Bool) (q : ℕ) (bytes copy front new : List ℕ) (start from place : ℕ) → IsUtf8 bytes → Steps bytes start q (start + 1) → Decoding taken q bytes (start + 1) from place copy → front ≡ slice_range bytes from place → chars new ≡ (chars copy ++ chars front) ++ [] → Steps bytes place q (place + 1) → Between (IsQuoted taken q (chars new)) bytes start (place + 1)
quoted_copy taken q bytes copy front new start from place u s d e f t =
    quoted taken q bytes (chars new) start place s (omega (arith, d.order, d.run.order)) t (rw (f, append-nil) (decoded_run taken q bytes copy front (start + 1) from place u d e))

pub no_escape : (taken : Bool) (q : ℕ) (bytes copy : List ℕ) (start from place : ℕ) → IsUtf8 bytes → IsQuote all_on q → Steps bytes start q (start + 1) → Decoding taken q bytes (start + 1) from place copy → Steps bytes place 0x5C (place + 1) → NoPiece taken q bytes place → NoQuoted taken q bytes start
no_escape taken q bytes copy start from place u quote s d t none =
    no_quoted taken q bytes _ start place quote s (decoded_run taken q bytes copy (slice_range bytes from place) (start + 1) from place u d refl) none (backslash_no_quote q bytes place quote t)

pub no_close : (taken : Bool) (q : ℕ) (bytes copy : List ℕ) (start from place : ℕ) → IsUtf8 bytes → IsQuote all_on q → Steps bytes start q (start + 1) → Decoding taken q bytes (start + 1) from place copy → LacksAt (λ c. c == q) bytes place → LacksAt (λ c. c == 0x5C) bytes place → NoQuoted taken q bytes start
no_close taken q bytes copy start from place u quote s d lacks none =
    no_end taken q bytes _ start place quote s (decoded_run taken q bytes copy (slice_range bytes from place) (start + 1) from place u d refl) d.stops lacks none

-- a string without a backslash
pub quoted_run : (taken : Bool) (q : ℕ) (bytes front : List ℕ) (start place : ℕ) → IsUtf8 bytes → Steps bytes start q (start + 1) → Reaches (Many (is_neither q 0x5C)) bytes (start + 1) place → front ≡ slice_range bytes (start + 1) place → Steps bytes place q (place + 1) → Between (IsQuoted taken q (chars front)) bytes start (place + 1)
quoted_run taken q bytes front start place u s run e t =
    let spans : Spans bytes (start + 1) place = record { from = s.1; to = run.boundary; order = run.order } in
    let part = run_pieces run.piece in
    let same : chars (slice_range bytes (start + 1) place) ≡ part.0 = front_same refl (sym (chars_between bytes (start + 1) place u spans) ∙ part.1) in
    quoted taken q bytes (chars front) start place s (omega (arith, run.order)) t (rw (e, same) part.2)

pub no_close_run : (taken : Bool) (q : ℕ) (bytes : List ℕ) (start place : ℕ) → IsQuote all_on q → Steps bytes start q (start + 1) → Reaches (Many (is_neither q 0x5C)) bytes (start + 1) place → LacksAt (is_neither q 0x5C) bytes place → LacksAt (λ c. c == q) bytes place → LacksAt (λ c. c == 0x5C) bytes place → NoQuoted taken q bytes start
no_close_run taken q bytes start place quote s run stops lacks none =
    let part = run_pieces run.piece in
    no_end taken q bytes part.0 start place quote s part.2 stops lacks none

-- two runs from one place: one of them goes on where the other stops
runs_meet : {p q : ℕ → Bool} {t u v : List ℕ} → Many p t u → Many q t v → Many p v u ⊎ Many q u v
runs_meet stop m = inr m
runs_meet (step h m) stop = inl (step h m)
runs_meet (step h m) (step k n) = runs_meet m n

abbrev any : ℕ → Bool
any c = true

any_run : (s : List ℕ) {t r : List ℕ} → t ≡ s ++ r → Many any t r
any_run [] e = rw e stop
any_run (c ∷ s) e = rw e (step refl (any_run s refl))

no_run : (p : ℕ → Bool) (c : ℕ) {u t r : List ℕ} → t ≡ c ∷ u → IsTrue (not (p c)) → Many p t r → t ≡ r
no_run p c e f stop = refl
no_run p c e f (step {c = d} h m) = let same : d ≡ c = heads e in absurd (clash (p c) f (rw same at h))

-- no backslash stands in a run up to the closing quote
pub run_holds_none : (q : ℕ) (bytes : List ℕ) (start place : ℕ) → IsUtf8 bytes → IsQuote all_on q → Steps bytes start q (start + 1) → Reaches (Many (is_neither q 0x5C)) bytes (start + 1) place → Steps bytes place q (place + 1) → HoldsBackslash bytes start (place + 1) → ⊥
run_holds_none q bytes start place u quote s run t h = go (runs_meet run.piece before)
  where
    no_backslash_quote : q ≢ 0x5C
    no_backslash_quote = no_backslash all_on quote

    before : Many any (rest bytes (start + 1)) (rest bytes h.place)
    before =
        let after : start + 1 ≤ h.place = omega (arith, h.after) in
        any_run (chars (slice_range bytes (start + 1) h.place)) (chars_between bytes (start + 1) h.place u (record { from = s.1; to = h.boundary; order = after }))

    clashes : rest bytes h.place ≡ rest bytes place → ⊥
    clashes e = no_backslash_quote (heads (sym t.0 ∙ sym e ∙ h.backslash.0))

    fails : (q : ℕ) → IsTrue (not (is_neither q 0x5C 0x5C))
    fails q = grind arith

    go : Many (is_neither q 0x5C) (rest bytes h.place) (rest bytes place) ⊎ Many any (rest bytes place) (rest bytes h.place) → ⊥
    go (inl m) = clashes (no_run (is_neither q 0x5C) 0x5C h.backslash.0 (fails q) m)
    go (inr m) =
        let order = (many_spans any bytes place h.place u run.boundary h.boundary m).order in
        let same : h.place ≡ place = omega (arith, h.before, order) in
        clashes (ap (λ n. rest bytes n) same)

-- the place of the closing quote, by the place after it
pub before_quote : (bytes w : List ℕ) (i j : ℕ) → w ≡ slice_range bytes i j → w ≡ slice_range bytes i (j + 1 - 1)
before_quote bytes w i j e = let same : j ≡ j + 1 - 1 = omega arith in e ∙ ap (λ n. slice_range bytes i n) same
