-- Why an input is not laid out.
use Rattle.std.proofs.Common.{◌≡◌, ◌⊎◌, inl, inr, ℕ, List, Some, subst}
use Rattle.jsonc_text.specs.Options.{Options}
use Rattle.jsonc_text.specs.declared.edit.TrailingCommaMode.{TrailingCommaMode}
use Rattle.jsonc_format.specs.Wishes.{wish_of}
use Rattle.jsonc_program.specs.Formatting.{AreCommasOf, IsFormattedText, IsNotLaidOut, formatted, given, set}
use Rattle.jsonc_program.specs.declared.edit.fault.EditFault.{EditFault}
use Rattle.jsonc_program.specs.declared.layout.Layout.{Layout}
use Rattle.jsonc_program.specs.edit.Faults.{IsFaultOfInput, IsForMemory}

module _ (A : Type 0) {B : Type 0} (o : Options) (layout : Layout) (input : List ℕ) (fault : EditFault B) where
  -- for a fault of the input
  pub input_refused : (rest : List ℕ) → rest ≡ input → IsFaultOfInput o rest fault → IsNotLaidOut A o layout input fault
  input_refused rest e f = inr (input, given, subst (λ r. IsFaultOfInput o r fault) e f)

  -- for a fault of the formatted text, or for memory
  pub formatted_refused : (text : List ℕ) → IsFormattedText o (wish_of layout.style) input text → IsFaultOfInput o text fault ⊎ IsForMemory fault → IsNotLaidOut A o layout input fault
  formatted_refused text h (inl f) = inr (text, formatted text h, f)
  formatted_refused text h (inr m) = inl m

  -- for a fault of the text with its commas set
  pub set_refused : (mode : TrailingCommaMode) (text output bytes : List ℕ) → IsFormattedText o (wish_of layout.style) input text → layout.trailing_commas ≡ Some mode → AreCommasOf A o mode text output
      → bytes ≡ output → IsFaultOfInput o bytes fault → IsNotLaidOut A o layout input fault
  set_refused mode text output bytes h m c e f = inr (output, set mode text output h m c, subst (λ b. IsFaultOfInput o b fault) e f)
