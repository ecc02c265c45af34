-- What the kind of a string's fault says of the text that it is told of.
use Rattle.std.specs.Prelude.{ℕ, ◌+◌, ◌≡◌, ◌≢◌, ◌<◌, Bool, not, ◌==◌, ◌||◌, List, [], ◌∷◌, IsTrue}
use Rattle.jsonc_text.specs.declared.string.escape.StringFault.{StringFault}
use Rattle.jsonc_text.specs.declared.errors.SurrogateFault.{SurrogateFault}
use Rattle.jsonc_text.specs.declared.errors.SurrogateFault.TheVariants as surrogate
use Rattle.jsonc_text.specs.declared.errors.ParseStringErrorKind.{ParseStringErrorKind}
use Rattle.jsonc_text.specs.declared.errors.ParseStringErrorKind.TheVariants as kind
use Rattle.jsonc_text.specs.Options.{all_on}
use Rattle.jsonc_text.specs.Text.{rest, next, no, starts, is_digit, is_hex_digit}
use Rattle.jsonc_text.specs.Strings.{meaning, refused, AreHex4, hex4, is_high_surrogate, is_low_surrogate, IsQuote}
use Rattle.jsonc_text.specs.string.Escapes.{is_plain, ArePieces, IsQuoted}

-- what follows the first character, or the end where the text is at its end
abbrev pub past : List ℕ → List ℕ
past [] = []
past (c ∷ r) = r

-- no character that passes the test begins t; r is what follows the one that stands there, or the end
abbrev pub Stops : (ℕ → Bool) → List ℕ → List ℕ → Type 0
Stops p t r = IsTrue (no p (next t)) × (r ≡ past t)

-- t is fewer than n hex digits, then a character that is none, or the end, and then r
pub data FewDigits : ℕ → List ℕ → List ℕ → Type 0 where
  missing : {n : ℕ} {t r : List ℕ} → 0 < n → Stops is_hex_digit t r → FewDigits n t r
  digit : {n m c : ℕ} {t r : List ℕ} → n ≡ m + 1 → IsTrue (is_hex_digit c) → FewDigits m t r → FewDigits n (c ∷ t) r

-- t is `\u` and these four hex digits, which write a number that passes the test, and then r
pub data Writes (p : ℕ → Bool) : List ℕ → List ℕ → List ℕ → Type 0 where
  writes : {a b c d : ℕ} {r : List ℕ} → AreHex4 a b c d → IsTrue (p (hex4 a b c d)) → Writes p (a ∷ b ∷ c ∷ d ∷ []) (0x5C ∷ 0x75 ∷ a ∷ b ∷ c ∷ d ∷ r) r

-- `\u`, alone or after a high surrogate, lacks some of its digits
pub data LacksFour : List ℕ → List ℕ → Type 0 where
  of_one : {t r : List ℕ} → FewDigits 4 t r → LacksFour (0x5C ∷ 0x75 ∷ t) r
  of_second : {ds t u r : List ℕ} → Writes is_high_surrogate ds t (0x5C ∷ 0x75 ∷ u) → FewDigits 4 u r → LacksFour t r

-- `\x`, an extended escape, lacks some of its digits
pub data LacksTwo (taken : Bool) : List ℕ → List ℕ → Type 0 where
  of_byte : {t r : List ℕ} → IsTrue taken → FewDigits 2 t r → LacksTwo taken (0x5C ∷ 0x78 ∷ t) r

-- t does not begin with `\u`; r is what follows the first character that differs
pub data LacksUnit : List ℕ → List ℕ → Type 0 where
  no_backslash : {t r : List ℕ} → Stops (λ c. c == 0x5C) t r → LacksUnit t r
  no_u : {t r : List ℕ} → Stops (λ c. c == 0x75) t r → LacksUnit (0x5C ∷ t) r

-- t is `\u` and these digits, those of a surrogate without its other half for this reason, and r is what follows the character where that shows
abbrev pub IsLone : SurrogateFault → List ℕ → List ℕ → List ℕ → Type 0
IsLone surrogate.UnpairedLowSurrogate ds t r = Writes is_low_surrogate ds t r
IsLone surrogate.UnpairedHighSurrogate ds t r = (u : List ℕ) × Writes is_high_surrogate ds t u × LacksUnit u r
IsLone surrogate.HighSurrogateNotFollowedByLowSurrogate ds t r
    = (u es : List ℕ) × Writes is_high_surrogate ds t u × Writes (λ n. not (is_low_surrogate n)) es u r

-- a backslash before a character that it may not stand before
pub data IsNoEscape (taken : Bool) (q : ℕ) : List ℕ → List ℕ → Type 0 where
  -- where extended escapes are not taken: one that JSON has no escape for, and no quote
  unknown : {c : ℕ} {r : List ℕ} → IsTrue (not taken) → IsTrue (not (is_plain (meaning q c)))
      → IsTrue (not (c == 0x22 || c == 0x27)) → IsNoEscape taken q (0x5C ∷ c ∷ r) r
  -- where they are taken: a digit other than `0`, or a `0` that a digit follows
  decimal : {c : ℕ} {r : List ℕ} → IsTrue taken → meaning q c ≡ refused → IsNoEscape taken q (0x5C ∷ c ∷ r) r
  octal : {r : List ℕ} → IsTrue taken → IsTrue (starts is_digit (next r)) → IsNoEscape taken q (0x5C ∷ 0x30 ∷ r) r

-- the backslash at the front of t, between quotes q, begins no escape; r is what follows the character where that shows
abbrev pub EscapeFaultAt : Bool → ℕ → ParseStringErrorKind → List ℕ → List ℕ → Type 0
EscapeFaultAt taken q kind.InvalidEscapeInSingleQuoteString t r = IsTrue (not taken) × (q ≡ 0x27) × (t ≡ 0x5C ∷ 0x22 ∷ r)
EscapeFaultAt taken q kind.InvalidEscapeInDoubleQuoteString t r = IsTrue (not taken) × (q ≡ 0x22) × (t ≡ 0x5C ∷ 0x27 ∷ r)
EscapeFaultAt taken q kind.ExpectedFourHexDigits t r = LacksFour t r
EscapeFaultAt taken q kind.ExpectedTwoHexDigits t r = LacksTwo taken t r
EscapeFaultAt taken q (kind.InvalidUnicodeEscapeSequence ds reason) t r = IsLone reason ds t r
EscapeFaultAt taken q kind.InvalidEscape t r = IsNoEscape taken q t r
EscapeFaultAt taken q kind.UnterminatedStringLiteral t r = ⊥
EscapeFaultAt taken q kind.OutOfMemory t r = ⊥

-- the text ends here, or within an escape: after its backslash, or after `\0` or a CR, which more may belong to
pub data Ends (taken : Bool) : List ℕ → Type 0 where
  at_once : Ends taken []
  within : Ends taken (0x5C ∷ [])
  within_longer : {c : ℕ} → IsTrue taken → IsTrue (c == 0x30 || c == 0x0D) → Ends taken (0x5C ∷ c ∷ [])

-- the string in quotes q whose opening quote begins s has a fault of this kind, told from where t begins to where r does
pub data StringFaultAt (taken : Bool) (q : ℕ) : ParseStringErrorKind → List ℕ → List ℕ → List ℕ → Type 0 where
  -- an escape after pieces that can be read
  escape : {k : ParseStringErrorKind} {v s t r : List ℕ} → ArePieces taken q v s t → EscapeFaultAt taken q k t r → StringFaultAt taken q k (q ∷ s) t r
  -- the whole string, since the text ends after pieces that can be read
  unterminated : {v s t : List ℕ} → ArePieces taken q v s t → Ends taken t → StringFaultAt taken q kind.UnterminatedStringLiteral (q ∷ s) (q ∷ s) []

-- the fault of a string in quotes q that begins at a place is told truly, or it is allocation failure
abbrev pub IsStringFault : Bool → ℕ → List ℕ → ℕ → StringFault → Type 0
IsStringFault taken q bytes start fault = fault.kind ≢ kind.OutOfMemory
    → StringFaultAt taken q fault.kind (rest bytes start) (rest bytes fault.range.start) (rest bytes fault.range.end)

-- the string at the front of s has a fault of this kind, told from where t begins; or no quote begins s, and that is told as a string that does not end
pub data StringErrorAt (taken : Bool) : ParseStringErrorKind → List ℕ → List ℕ → Type 0 where
  of_string : {q : ℕ} {k : ParseStringErrorKind} {s t r : List ℕ} → IsQuote all_on q → StringFaultAt taken q k s t r → StringErrorAt taken k s t
  no_quote : {s : List ℕ} → IsTrue (no (λ c. c == 0x22 || c == 0x27) (next s)) → StringErrorAt taken kind.UnterminatedStringLiteral s s

-- of the string at the front of s no two faults are told, nor one of two ranges
abbrev pub HasOneFault : Bool → ℕ → List ℕ → Type 0
HasOneFault taken q s = (k l : ParseStringErrorKind) (t u r w : List ℕ) → StringFaultAt taken q k s t r → StringFaultAt taken q l s u w → (k ≡ l) × (t ≡ u) × (r ≡ w)

-- where a fault is told, no string stands
abbrev pub HasNoStringToo : Bool → ℕ → List ℕ → Type 0
HasNoStringToo taken q s = (k : ParseStringErrorKind) (t r v u : List ℕ) → StringFaultAt taken q k s t r → IsQuoted taken q v s u → ⊥

-- a string in quotes q begins at one place, and pieces of it stand up to another
abbrev pub ReadTo : Bool → ℕ → List ℕ → ℕ → ℕ → Type 0
ReadTo taken q bytes start place = (s v : List ℕ) × IsQuote all_on q × (rest bytes start ≡ q ∷ s) × ArePieces taken q v s (rest bytes place)

-- the fault of a string that was read up to a place is told truly
abbrev pub IsStringFaultOnceRead : Bool → ℕ → List ℕ → ℕ → ℕ → StringFault → Type 0
IsStringFaultOnceRead taken q bytes start place fault = ReadTo taken q bytes start place → IsStringFault taken q bytes start fault

-- `\u` and these four hex digits, which write the number n, stand at a place
abbrev pub IsWritten : List ℕ → ℕ → List ℕ → ℕ → Type 0
IsWritten ds n bytes place = Writes (λ m. m == n) ds (rest bytes place) (rest bytes (place + 6))

-- fewer than n hex digits stand at a place, and the character at another is none, or the text ends there
abbrev pub LacksDigits : ℕ → List ℕ → ℕ → ℕ → Type 0
LacksDigits n bytes place stop = FewDigits n (rest bytes place) (past (rest bytes stop))

-- the fault of the escape at a place is told truly
pub record IsEscapeFault (taken : Bool) (q : ℕ) (bytes : List ℕ) (place : ℕ) (fault : StringFault) : Type 0 where
  pub start : fault.range.start ≡ place
  pub tells : EscapeFaultAt taken q fault.kind (rest bytes place) (rest bytes fault.range.end)

-- the same, whichever quotes enclose it, and whether extended escapes are taken or not
abbrev pub IsStringFaultAnyhow : List ℕ → ℕ → StringFault → Type 0
IsStringFaultAnyhow bytes place fault = (taken : Bool) (q : ℕ) → IsEscapeFault taken q bytes place fault
