-- What a scanner has before it.
use Rattle.std.specs.Prelude.{ℕ, ◌+◌, ◌-◌, ◌≡◌, ◌≤◌, ◌<◌, List, Option, Some, None, option_map, length, IsTrue, chars, slice_range}
use Rattle.jsonc_scan.specs.declared.scanner.Scanner.{Scanner}
use Rattle.jsonc_scan.specs.declared.found.TokenContent.{TokenContent}
use Rattle.jsonc_scan.specs.declared.found.TokenKind.{TokenKind}
use Rattle.jsonc_scan.specs.declared.found.TokenKind.TheVariants as kind
use Rattle.jsonc_scan.specs.Found.{token_held}
use Rattle.jsonc_text.specs.declared.errors.ParseError.{ParseError}
use Rattle.jsonc_text.specs.declared.tokens.Token.{Token}
use Rattle.jsonc_text.specs.Options.{Options}
use Rattle.jsonc_text.specs.OptionsOf.{parse_options}
use Rattle.jsonc_text.specs.Text.{rest, next, no, Many}
use Rattle.jsonc_text.specs.Gaps.{is_blank}
use Rattle.jsonc_text.specs.Chars.{Steps}
use Rattle.jsonc_text.specs.Lexemes.{Scanned, IsScanned, lexeme, punctuation, string}
use Rattle.jsonc_text.specs.StringValue.{string_value}
use Rattle.jsonc_text.specs.Tokens.{scanned_of}
use Rattle.jsonc_scan.specs.Reads.{NothingAt}
use Rattle.jsonc_scan.specs.Faults.{IsTrueOf}
use Rattle.jsonc_text.specs.string.Escapes.{HoldsBackslash, IsLentUnescaped, StringHoldsBackslash}
use Rattle.jsonc_text.specs.declared.tokens.Token.TheVariants.{String}

module _ {A : Type 0} where
  -- the bytes of the whole text
  abbrev pub text_of : Scanner A → List ℕ
  text_of s = s.file_text.now

  -- the place where the last token ended: what comes after it is still to be scanned
  abbrev pub end_of : Scanner A → ℕ
  end_of s = s.byte_index

  -- the place where the last token began
  abbrev pub start_of : Scanner A → ℕ
  start_of s = s.token_start

  abbrev pub options_of : Scanner A → Options
  options_of s = parse_options s.options

  -- the last token, or none at the end of the text and before the first
  abbrev pub token_of : Scanner A → Option Scanned
  token_of s = option_map scanned_of s.current_token

  -- the same as it is kept: a string lent by the text, or copied
  abbrev pub last_token : Scanner A → Option (Token A)
  last_token s = s.current_token

  -- what is still to be scanned
  abbrev pub left : Scanner A → List ℕ
  left s = rest (text_of s) (end_of s)

  -- the text and the options stay, and the scanner passes blanks to where its token begins
  pub record PassesBlanks (old new : Scanner A) : Type 0 where
    pub text : text_of new ≡ text_of old
    pub options : options_of new ≡ options_of old
    pub blanks : Many is_blank (left old) (rest (text_of new) (start_of new))
    pub order : (end_of old ≤ start_of new) × (start_of new ≤ end_of new)

  -- this lexeme or comment stands where the scanner's token begins, and ends where the scanner is; or there is none, at the end of the text
  abbrev pub IsThere : Scanner A → Option Scanned → Type 0
  IsThere s None = (start_of s ≡ length (text_of s)) × (end_of s ≡ length (text_of s))
  IsThere s (Some what) = (start_of s < end_of s) × IsScanned (options_of s) what (rest (text_of s) (start_of s)) (left s)

  -- and so does this token
  abbrev pub StandsAt : Scanner A → Option (Token A) → Type 0
  StandsAt s t = IsThere s (option_map scanned_of t)

  -- what a token of this kind is: a string that was passed is what its literal stands for, without a backslash what is between its quotes
  abbrev pub scanned_seen : Scanner A → TokenContent A → TokenKind → Scanned
  scanned_seen s x kind.Plain = lexeme (string (chars (slice_range (text_of s) (start_of s + 1) (end_of s - 1))))
  scanned_seen s x kind.Passed = lexeme (string (string_value (text_of s) (start_of s) (end_of s)))
  scanned_seen s x k = scanned_of (token_held k x)

  -- what was found, or none
  abbrev pub seen : Scanner A → TokenContent A → Option TokenKind → Option Scanned
  seen s x = option_map (scanned_seen s x)

  -- no token stands where the scanner's token would begin
  abbrev pub NothingStands : Scanner A → Type 0
  NothingStands s = NothingAt (options_of s) (text_of s) (start_of s)

  -- what the fault's kind says of the lexeme where the scanner's token would begin, and of the fault's range, is true
  abbrev pub IsTrueThere : Scanner A → ParseError → Type 0
  IsTrueThere s e = IsTrueOf (options_of s) (text_of s) (start_of s) e

  -- a string token is lent by the text exactly where its literal holds no backslash
  abbrev pub IsLent : Scanner A → Option (Token A) → Type 0
  IsLent s (Some (String v)) = IsLentUnescaped (text_of s) (start_of s) (end_of s) v
  IsLent s _ = Unit {0}

  -- and a string that was passed holds one, or none, as its kind says
  abbrev pub IsLentSeen : Scanner A → TokenContent A → TokenKind → Type 0
  IsLentSeen s x kind.Plain = HoldsBackslash (text_of s) (start_of s) (end_of s) → ⊥
  IsLentSeen s x kind.Passed = HoldsBackslash (text_of s) (start_of s) (end_of s)
  IsLentSeen s x k = IsLent s (Some (token_held k x))

  -- and so is the last token that the scanner keeps, where it is that string
  abbrev pub KeepsLent : Scanner A → Type 0
  KeepsLent s = IsLent s (last_token s)

  -- where the scanner's token would begin stands the opening quote of a string with a backslash in it
  abbrev pub HoldsEscape : Scanner A → Type 0
  HoldsEscape s = StringHoldsBackslash (text_of s) (start_of s)

  -- the text goes on where the scanner's token would begin, and not with a blank
  pub record GoesOn (s : Scanner A) : Type 0 where
    pub inside : start_of s < length (text_of s)
    pub no_blank : IsTrue (no is_blank (next (rest (text_of s) (start_of s))))

  -- this character of one byte comes next
  abbrev pub ComesNext : Scanner A → ℕ → Type 0
  ComesNext s c = Steps (text_of s) (end_of s) c (end_of s + 1)

  -- this punctuation stands where the scanner's token begins, and ends where the scanner is
  abbrev pub IsMarkHere : Scanner A → ℕ → Type 0
  IsMarkHere s c = (start_of s < end_of s) × IsScanned (options_of s) (lexeme (punctuation c)) (rest (text_of s) (start_of s)) (left s)
