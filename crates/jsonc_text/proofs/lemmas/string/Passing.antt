-- Strings that are passed and not decoded.
use Rattle.std.proofs.Common.{ℕ, ◌+◌, ◌-◌, ◌≡◌, ◌==◌, ◌<◌, sym, refl, List, ◌++◌, arith, IsUtf8, IsTrue, Bool, not, IsCharBoundary, slice_range, chars}
use Rattle.jsonc_text.specs.Options.{all_on}
use Rattle.jsonc_text.specs.Text.{rest, Many}
use Rattle.jsonc_text.specs.Chars.{Steps}
use Rattle.jsonc_text.specs.Strings.{Pieces, piece, IsQuote}
use Rattle.jsonc_text.specs.StringValue.{string_value}
use Rattle.jsonc_text.specs.string.Between.{Between, Reaches, LacksAt, is_neither}
use Rattle.jsonc_text.specs.string.Escapes.{escapes, IsPiece, NoPiece, IsQuoted, NoQuoted}
use Rattle.jsonc_text.specs.string.Faults.{ReadTo}
use Rattle.jsonc_text.proofs.lemmas.string.Decoding.{pieces_append, plain_run, quoted, no_quoted, no_end, backslash_no_quote, quoted_run, before_quote}
use Rattle.jsonc_text.proofs.lemmas.string.Values.{quoted_as_computed, value_stands}

-- from one place to another stand pieces, and then the quote, a backslash or the end
pub record Passing (taken : Bool) (q : ℕ) (bytes : List ℕ) (first place : ℕ) : Type 0 where
  pub value : List ℕ
  pub pieces : Pieces (escapes taken) q (rest bytes first) value (rest bytes place)
  pub boundary : IsCharBoundary bytes place
  pub stops : LacksAt (is_neither q 0x5C) bytes place

backslash_stops : (q : ℕ) → IsTrue (not (is_neither q 0x5C 0x5C))
backslash_stops q = grind arith

pub passing_start : (taken : Bool) (q : ℕ) (bytes : List ℕ) (first place : ℕ) → Reaches (Many (is_neither q 0x5C)) bytes first place → Steps bytes place 0x5C (place + 1) → Passing taken q bytes first place
passing_start taken q bytes first place run s =
    let part = plain_run taken q bytes first place run in
    record { value = part.0; pieces = part.1; boundary = run.boundary; stops = rw s.0 (backslash_stops q) }

pub passing_more : (taken : Bool) (q : ℕ) (bytes p : List ℕ) (first place end after : ℕ) → Passing taken q bytes first place → Between (IsPiece taken q p) bytes place end → Reaches (Many (is_neither q 0x5C)) bytes end after → LacksAt (is_neither q 0x5C) bytes after → Passing taken q bytes first after
passing_more taken q bytes p first place end after d escape run stops =
    let more = plain_run taken q bytes end after run in
    record { value = d.value ++ (p ++ more.0); pieces = pieces_append d.pieces (piece escape.piece more.1 refl); boundary = run.boundary; stops = stops }

pub read_passing : (taken : Bool) (q : ℕ) (bytes : List ℕ) (start place : ℕ) → IsQuote all_on q → Steps bytes start q (start + 1) → Passing taken q bytes (start + 1) place → ReadTo taken q bytes start place
read_passing taken q bytes start place quote s d = (rest bytes (start + 1), d.value, quote, s.0, d.pieces)

pub passed_quoted : (taken : Bool) (q : ℕ) (bytes : List ℕ) (start place : ℕ) → IsUtf8 bytes → IsCharBoundary bytes start → IsQuote all_on q → Steps bytes start q (start + 1) → Passing taken q bytes (start + 1) place → start < place → Steps bytes place q (place + 1) → Between (IsQuoted taken q (string_value bytes start (place + 1))) bytes start (place + 1)
passed_quoted taken q bytes start place u b quote s d l t =
    quoted_as_computed taken q bytes d.value start (place + 1) u b quote (quoted taken q bytes d.value start place s l t d.pieces)

pub no_escape_passed : (taken : Bool) (q : ℕ) (bytes : List ℕ) (start place : ℕ) → IsQuote all_on q → Steps bytes start q (start + 1) → Passing taken q bytes (start + 1) place → Steps bytes place 0x5C (place + 1) → NoPiece taken q bytes place → NoQuoted taken q bytes start
no_escape_passed taken q bytes start place quote s d t none =
    no_quoted taken q bytes d.value start place quote s d.pieces none (backslash_no_quote q bytes place quote t)

pub no_close_passed : (taken : Bool) (q : ℕ) (bytes : List ℕ) (start place : ℕ) → IsQuote all_on q → Steps bytes start q (start + 1) → Passing taken q bytes (start + 1) place → LacksAt (λ c. c == q) bytes place → LacksAt (λ c. c == 0x5C) bytes place → NoQuoted taken q bytes start
no_close_passed taken q bytes start place quote s d lacks none = no_end taken q bytes d.value start place quote s d.pieces d.stops lacks none

-- a string without a backslash
pub passed_run : (taken : Bool) (q : ℕ) (bytes : List ℕ) (start place : ℕ) → IsUtf8 bytes → IsCharBoundary bytes start → IsQuote all_on q → Steps bytes start q (start + 1) → Reaches (Many (is_neither q 0x5C)) bytes (start + 1) place → Steps bytes place q (place + 1) → Between (IsQuoted taken q (string_value bytes start (place + 1))) bytes start (place + 1)
passed_run taken q bytes start place u b quote s run t =
    quoted_as_computed taken q bytes _ start (place + 1) u b quote (quoted_run taken q bytes (slice_range bytes (start + 1) place) start place u s run refl t)

pub value_of_run : (taken : Bool) (q : ℕ) (bytes : List ℕ) (start place : ℕ) → IsUtf8 bytes → IsCharBoundary bytes start → IsQuote all_on q → Steps bytes start q (start + 1) → Reaches (Many (is_neither q 0x5C)) bytes (start + 1) place → Steps bytes place q (place + 1) → string_value bytes start (place + 1) ≡ chars (slice_range bytes (start + 1) (place + 1 - 1))
value_of_run taken q bytes start place u b quote s run t =
    let front = slice_range bytes (start + 1) (place + 1 - 1) in
    let same : front ≡ slice_range bytes (start + 1) place = sym (before_quote bytes (slice_range bytes (start + 1) place) (start + 1) place refl) in
    value_stands taken q bytes (chars front) start (place + 1) u b quote (quoted_run taken q bytes front start place u s run same t)
