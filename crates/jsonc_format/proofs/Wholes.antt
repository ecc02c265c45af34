-- A text of pieces is formatted as it is wished.
use Rattle.std.proofs.Common.{ℕ, ◌≡◌, ◌∙◌, Bool, true, List, IsUtf8, chars}
use Rattle.jsonc_text.specs.declared.errors.ParseError.{ParseError}
use Rattle.jsonc_text.specs.Faults.{IsFault, IsOutOfMemory}
use Rattle.jsonc_text.proofs.FaultLemmas.{out_of_memory_is_fault}
use Rattle.jsonc_check.specs.Checker.{HasValueWithin}
use Rattle.jsonc_text.specs.Options.{Options}
use Rattle.jsonc_format.specs.Format.{Style, Piece, IsPieces}
use Rattle.jsonc_format.specs.Styles.{Wish}
use Rattle.jsonc_format.specs.Wishes.{IsLayoutOf}
use Rattle.jsonc_format.specs.Pieces.{AreFlagsOf}
use Rattle.jsonc_format.specs.Printing.{IsPrinted, FormatsPieces}
use Rattle.jsonc_format.proofs.DocumentPieces.{document_pieces}

pub whole : (o : Options) (wish : Wish) (y : Style) (bytes : List ℕ) (flat row : List Bool) (out : List ℕ) → AreFlagsOf o bytes flat → row ≡ flat → IsLayoutOf o bytes wish y → IsPrinted o y bytes row out
    → FormatsPieces o wish (chars bytes) out
whole o wish y bytes flat row out f e l p tail ps h = record {
  pieces = ps;
  tail = tail;
  parts = h;
  style = y;
  fits = l tail ps h;
  same = p tail ps h (e ∙ f tail ps h);
}

-- a text that is accepted has pieces
pub pieces_given : (o : Options) (t : List ℕ) → HasValueWithin true o t → (tail : List ℕ) × (ps : List Piece) × IsPieces o tail t ps
pieces_given o t h = let d = document_pieces o t h.0 h.1 in (d.0, d.1, d.2)

pub memory_fault : (bytes : List ℕ) → IsUtf8 bytes → (e : ParseError) → IsOutOfMemory e → IsFault bytes e
memory_fault bytes u e m = out_of_memory_is_fault bytes e u m
