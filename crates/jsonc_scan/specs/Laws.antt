-- Laws of the faults: what is said of each text.
use Rattle.std.specs.Prelude.{◌≡◌, List, ℕ}
use Rattle.jsonc_text.specs.declared.errors.ParseErrorKind.{ParseErrorKind}
use Rattle.jsonc_text.specs.Lexemes.{Scanned, IsScanned}
use Rattle.jsonc_text.specs.Options.{Options}
use Rattle.jsonc_scan.specs.Faults.{LexemeFault}

-- of the lexeme at the front of s no two faults are told, nor one of two ranges
abbrev pub HasOneFault : Options → List ℕ → Type 0
HasOneFault o s = (k l : ParseErrorKind) (t u r v : List ℕ) → LexemeFault o k s t r → LexemeFault o l s u v → (k ≡ l) × (t ≡ u) × (r ≡ v)

-- where a fault is told, no lexeme and no comment stands
abbrev pub HasNoLexemeToo : Options → List ℕ → Type 0
HasNoLexemeToo o s = (k : ParseErrorKind) (t r u : List ℕ) (what : Scanned) → LexemeFault o k s t r → IsScanned o what s u → ⊥
