-- The string that was passed, read anew.
use Rattle.std.proofs.Common.{ℕ, ◌≡◌, refl, List}
use Rattle.jsonc_text.specs.declared.common.Range.{Range}
use Rattle.jsonc_text.specs.Lexemes.{LexemeKind}
use Rattle.jsonc_text.specs.Options.{Options}
use Rattle.jsonc_text.specs.Text.{rest}
use Rattle.jsonc_text.specs.string.Between.{Between}
use Rattle.jsonc_text.specs.string.Escapes.{IsQuoted, NoQuoted}
use Rattle.jsonc_text.specs.string.Quotes.{OpensNoString, OpensString}
use Rattle.jsonc_text.proofs.UniqueLexemes.{lexeme_unique}
use Rattle.jsonc_text.proofs.lemmas.string.QuotedStrings.{no_string, quoted_of_string, scanned_of_quoted}
use Rattle.jsonc_walk.specs.Handed.{HasLexeme}

same_string : (v w : List ℕ) → LexemeKind.string v ≡ LexemeKind.string w → v ≡ w
same_string v w e = cc

module _ (o : Options) (bytes v : List ℕ) (r : Range) (there : HasLexeme (record { bytes = bytes; options = o }) (LexemeKind.string v) r) where
  pub quote_there : OpensNoString o bytes r.start → ⊥
  quote_there n = no_string o n there.stands

  module _ (q : ℕ) (opens : OpensString o bytes r.start q) where
    pub same_value : (w : List ℕ) (end : ℕ) → Between (IsQuoted o.extended_escapes q w) bytes r.start end → w ≡ v
    same_value w end read =
        let found = scanned_of_quoted o q bytes w w r.start end opens.allowed read refl in
        same_string w v (lexeme_unique o (LexemeKind.string w) (LexemeKind.string v) (rest bytes r.start) (rest bytes end) (rest bytes r.end) found.piece there.stands).0

    pub quoted_there : NoQuoted o.extended_escapes q bytes r.start → ⊥
    quoted_there n = n v (rest bytes r.end) (quoted_of_string o opens.here.0 there.stands)
