-- What a token may be.
use Rattle.std.specs.Prelude.{ℕ, List, Bool, true, false, ◌||◌, ◌==◌, Option, None, Some, if◌then◌else◌}
use Rattle.jsonc_text.specs.declared.errors.ParseErrorKind.{ParseErrorKind}
use Rattle.jsonc_text.specs.declared.errors.ParseErrorKind.TheVariants as kind
use Rattle.jsonc_text.specs.Lexemes.{Scanned, lexeme, line_comment, block_comment, LexemeKind}
use Rattle.jsonc_text.specs.Words.{keyword_text}
use Rattle.jsonc_text.specs.Plain.{Plain}
use Rattle.jsonc_text.specs.Grammar.{literal_value}

-- the value of a token that is one
abbrev pub leaf_value : Scanned → Option Plain
leaf_value (lexeme k) = literal_value k
leaf_value (line_comment s) = None
leaf_value (block_comment s) = None

-- a value may begin with it
abbrev pub begins_value : Scanned → Bool
begins_value (lexeme (LexemeKind.string v)) = true
begins_value (lexeme (LexemeKind.number s)) = true
begins_value (lexeme (LexemeKind.keyword k)) = true
begins_value (lexeme (LexemeKind.word s)) = false
begins_value (lexeme (LexemeKind.punctuation c)) = c == 0x5B || c == 0x7B
begins_value (line_comment s) = false
begins_value (block_comment s) = false

-- it may be a name, where the options allow it
abbrev pub begins_name : Scanned → Bool
begins_name (lexeme (LexemeKind.string v)) = true
begins_name (lexeme (LexemeKind.number s)) = true
begins_name (lexeme (LexemeKind.keyword k)) = true
begins_name (lexeme (LexemeKind.word s)) = true
begins_name (lexeme (LexemeKind.punctuation c)) = false
begins_name (line_comment s) = false
begins_name (block_comment s) = false

-- what is wrong with it where a value must stand
abbrev pub unexpected_kind : Scanned → ParseErrorKind
unexpected_kind (lexeme (LexemeKind.word s)) = kind.UnexpectedWord
unexpected_kind (lexeme (LexemeKind.punctuation c)) =
    if c == 0x5D then kind.UnexpectedCloseBracket
    else (if c == 0x7D then kind.UnexpectedCloseBrace
    else (if c == 0x2C then kind.UnexpectedComma
    else (if c == 0x3A then kind.UnexpectedColon
    else kind.UnexpectedToken)))
unexpected_kind (lexeme (LexemeKind.string v)) = kind.UnexpectedToken
unexpected_kind (lexeme (LexemeKind.number s)) = kind.UnexpectedToken
unexpected_kind (lexeme (LexemeKind.keyword k)) = kind.UnexpectedToken
unexpected_kind (line_comment s) = kind.UnexpectedToken
unexpected_kind (block_comment s) = kind.UnexpectedToken

-- the text of a token that may be a name without quotes
abbrev pub loose_text : Scanned → Option (List ℕ)
loose_text (lexeme (LexemeKind.word s)) = Some s
loose_text (lexeme (LexemeKind.number s)) = Some s
loose_text (lexeme (LexemeKind.keyword k)) = Some (keyword_text k)
loose_text (lexeme (LexemeKind.string v)) = None
loose_text (lexeme (LexemeKind.punctuation c)) = None
loose_text (line_comment s) = None
loose_text (block_comment s) = None
