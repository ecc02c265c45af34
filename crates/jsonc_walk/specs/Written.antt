-- How strings and names stand in their text.
use Rattle.std.specs.Prelude.{ℕ, ◌≡◌, List, Option, Some, IfSome, chars}
use Rattle.std.specs.List.{All}
use Rattle.std.specs.Cow.{cow_str_bytes}
use Rattle.jsonc_text.specs.Lexemes.{LexemeKind, Lexeme, lexeme, string}
use Rattle.jsonc_text.specs.Options.{Options}
use Rattle.jsonc_text.specs.string.Escapes.{IsLentUnescaped}
use Rattle.jsonc_scan.specs.declared.found.TokenKind.{TokenKind}
use Rattle.jsonc_walk.specs.declared.name.ObjectPropName.{ObjectPropName}
use Rattle.jsonc_walk.specs.declared.name.ObjectPropName.TheVariants.{String, Word}
use Rattle.jsonc_walk.specs.Located.{In}
use Rattle.jsonc_walk.specs.declared.context.Context.{Context}
use Rattle.jsonc_walk.specs.Context.{text_in, options_in}
use Rattle.jsonc_scan.specs.Scanner.{IsLentSeen}
use Rattle.jsonc_walk.specs.Scanned.{loose_text}

module _ {A : Type 0} where
  -- a string stands in its range in quotes, and is lent by the text exactly where no backslash is in it; what has no
  -- quotes is a word, a number, or `true`, `false` or `null`
  abbrev pub IsWritten : Options → List ℕ → ObjectPropName A → Type 0
  IsWritten o bytes (String s) = In bytes (Lexeme o (string (chars (cow_str_bytes s.value)))) s.range × IsLentUnescaped bytes s.range.start s.range.end s.value
  IsWritten o bytes (Word w) = (k : LexemeKind) × In bytes (Lexeme o k) w.range × (loose_text (lexeme k) ≡ Some (chars w.value.now))

  -- each of these stands so
  abbrev pub AreWritten : Options → List ℕ → List (ObjectPropName A) → Type 0
  AreWritten o bytes = All (IsWritten o bytes)

  -- the last token, if it is a string, is lent by the text exactly where no backslash is in it
  abbrev pub IsLentHere : Context A → Option TokenKind → Type 0
  IsLentHere c found = IfSome found (IsLentSeen c.scanner c.content)

  -- strings and names stand so in the text that a parser reads
  abbrev pub AreWrittenIn : Context A → List (ObjectPropName A) → Type 0
  AreWrittenIn c = AreWritten (options_in c) (text_in c)
