-- What calls make of what a JSON Pointer leads to, and why they make nothing of it.
use Rattle.std.specs.Prelude.{◌≡◌, ℕ, List, Err, Ok, Some, chars}
use Rattle.jsonc_text.specs.Options.{Options}
use Rattle.jsonc_text.specs.Plain.{Plain, string}
use Rattle.jsonc_text.specs.declared.edit.EditError.{EditError}
use Rattle.jsonc_sound.specs.Documents.{ShowsText}
use Rattle.jsonc_edit.specs.Paths.{IsAt}
use Rattle.jsonc_cst.specs.Document.{printed_of, tree_of}
use Rattle.jsonc_cst.specs.declared.cst.CstRootNode.{CstRootNode}
use Rattle.jsonc_cst.specs.declared.cst.node.CstNode.{CstNode}
use Rattle.jsonc_cst.specs.typed.Calls.{IsEntryRemoval}
use Rattle.jsonc_parser.specs.patch.Found.{IsOfShown, RefersToNode}
use Rattle.jsonc_parser.specs.patch.Pointer.{pointer_text}
use Rattle.jsonc_parser.specs.patch.PutCalls.{FindsEntry, HasNoEntry}
use Rattle.jsonc_parser.specs.patch.References.{RefersTo}
use Rattle.jsonc_c.specs.Patches.{IsUnfound, IsUnopened, OfPointer}
use Rattle.jsonc_c.specs.Told.{edit_status, no_fault}
use Rattle.jsonc_c.specs.declared.fault.JsoncFault.{JsoncFault}

-- the path leads to the value that the pointer refers to (RFC 6901, 4)
abbrev pub IsPathOf : Options → List ℕ → List ℕ → List ℕ → Type 0
IsPathOf o pointer text path = OfPointer o pointer text (λ d ns tokens. (n : ℕ) × RefersToNode d ns tokens n × IsAt ns path n)

-- the pointer refers to a string, and what is made are its characters, its escapes decoded
abbrev pub IsStringAt : Options → List ℕ → List ℕ → List ℕ → Type 0
IsStringAt o pointer text made = OfPointer o pointer text (λ d ns tokens. RefersTo d.value tokens (string (chars made)))

-- why no string is found: nothing is found; or it is a value of another kind
pub data IsNoStringAt (o : Options) (pointer text : List ℕ) (status : ℕ) (f : JsoncFault) : Type 0 where
  for_value : IsUnfound o pointer text status f → IsNoStringAt o pointer text status f
  for_kind : status ≡ 29 → f ≡ no_fault → OfPointer o pointer text (λ d ns tokens. (v : Plain) × RefersTo d.value tokens v × ((s : List ℕ) → v ≡ string s → ⊥))
      → IsNoStringAt o pointer text status f

-- This is so of a document that the text is, and of the tokens of the pointer.
abbrev pub OfEntry : (A : Type 0) → Options → List ℕ → List ℕ → (CstRootNode A → List (List ℕ) → Type 0) → Type 0
OfEntry A o pointer text is_so = (old : CstRootNode A) × (tokens : List (List ℕ)) × ShowsText o (chars text) (tree_of old) × (pointer_text tokens ≡ chars pointer) × is_so old tokens

-- what is made is the text of the document after the element or property to which the pointer leads was removed with the comments that belong to it
abbrev pub IsClearedOf : Type 0 → Options → List ℕ → List ℕ → List ℕ → Type 0
IsClearedOf A o pointer text made = OfEntry A o pointer text
    (λ old tokens. (new : CstRootNode A) × (node : CstNode) × IsOfShown old (FindsEntry old tokens (Some node)) × IsEntryRemoval old new node (Ok tt) × (made ≡ printed_of new))

-- Why nothing was removed: there is no pointer, or no document; the pointer leads to no element or property; or the removal was refused.
pub data IsUncleared (A : Type 0) (o : Options) (pointer text : List ℕ) (status : ℕ) (f : JsoncFault) : Type 0 where
  for_memory : status ≡ 1 → f ≡ no_fault → IsUncleared A o pointer text status f
  for_words : IsUnopened o pointer text status f → IsUncleared A o pointer text status f
  for_entry : status ≡ 20 → f ≡ no_fault → OfEntry A o pointer text (λ old tokens. IsOfShown old (λ d. HasNoEntry d tokens)) → IsUncleared A o pointer text status f
  for_removal : (why : EditError) → status ≡ edit_status why → f ≡ no_fault
      → OfEntry A o pointer text (λ old tokens. (new : CstRootNode A) × (node : CstNode) × IsOfShown old (FindsEntry old tokens (Some node)) × IsEntryRemoval old new node (Err why))
      → IsUncleared A o pointer text status f
