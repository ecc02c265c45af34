-- What calls of pointers and patches make of a text, and why they make nothing of it.
use Rattle.std.specs.Prelude.{◌≡◌, ◌⊎◌, ℕ, List, None, IsUtf8, String, chars, map, string_bytes}
use Rattle.jsonc_text.specs.Documents.{Document}
use Rattle.jsonc_text.specs.Grammar.{IsDocument}
use Rattle.jsonc_text.specs.Options.{Options}
use Rattle.jsonc_text.specs.Plain.{Plain}
use Rattle.jsonc_text.specs.declared.errors.ParseError.{ParseError}
use Rattle.jsonc_tree.specs.OrderedTree.{ordered_tree, printed}
use Rattle.jsonc_tree.specs.Tree.{Node}
use Rattle.jsonc_sound.specs.Documents.{Shows}
use Rattle.jsonc_engine.specs.Input.{IsRefusalOf}
use Rattle.jsonc_parser.specs.patch.Applied.{IsPatched, IsStopped}
use Rattle.jsonc_parser.specs.patch.Asked.{asked}
use Rattle.jsonc_parser.specs.patch.Found.{RefersToNode, RefersToNothing}
use Rattle.jsonc_parser.specs.patch.Merged.{IsMerged, IsMergeFault}
use Rattle.jsonc_parser.specs.patch.MergeTexts.{IsMergePatch, OfValue}
use Rattle.jsonc_parser.specs.patch.PatchFaults.{IsFaultOfPatch, RepeatsName}
use Rattle.jsonc_parser.specs.patch.PatchTexts.{IsPatch}
use Rattle.jsonc_parser.specs.patch.Pointer.{IsPointerFault, pointer_text}
use Rattle.jsonc_parser.specs.patch.References.{FailsAt}
use Rattle.jsonc_parser.specs.declared.patch.apply.PatchFault.{PatchFault}
use Rattle.jsonc_parser.specs.declared.patch.merging.MergeFault.TheVariants.{RepeatedName}
use Rattle.jsonc_parser.specs.declared.patch.operation.Operation.{Operation}
use Rattle.jsonc_parser.specs.declared.patch.pointer.PointerError.{PointerError}
use Rattle.jsonc_parser.specs.declared.patch.reading.PatchError.{PatchError}
use Rattle.jsonc_c.specs.PatchTold.{IsToldOfName, IsToldOfOperation, IsToldOfPatch, IsToldOfPointer, cause_status}
use Rattle.jsonc_c.specs.Told.{IsToldOf, no_fault}
use Rattle.jsonc_c.specs.declared.fault.JsoncFault.{JsoncFault}

-- this is so of the document of the options that the text is, and of its nodes
abbrev pub OfDocument : Options → List ℕ → (Document → List Node → Type 0) → Type 0
OfDocument o text is_so = (d : Document) × (ns : List Node) × (d.options ≡ o) × (d.text ≡ chars text) × Shows d (ordered_tree ns 0) × is_so d ns

-- and of the tokens of the pointer (RFC 6901, 3)
abbrev pub OfPointer : Options → List ℕ → List ℕ → (Document → List Node → List (List ℕ) → Type 0) → Type 0
OfPointer o pointer text is_so = (tokens : List (List ℕ)) × (pointer_text tokens ≡ chars pointer) × OfDocument o text (λ d ns. is_so d ns tokens)

-- what is made is the value that the pointer refers to (RFC 6901, 4), as it is written
abbrev pub IsFound : Options → List ℕ → List ℕ → List ℕ → Type 0
IsFound o pointer text made = OfPointer o pointer text (λ d ns tokens. (n : ℕ) × RefersToNode d ns tokens n × (made ≡ printed (ordered_tree ns n)))

-- what is made is the text of the document that the patch leads to (RFC 6902, 5), which is a text of the options
abbrev pub IsPatchedBy : Type 0 → Options → List ℕ → List ℕ → List ℕ → Type 0
IsPatchedBy A o patch text made = (operations : List (Operation A)) × IsPatch o (chars patch) (map asked operations)
    × OfDocument o text (λ d ns. (e : Document) × (e.text ≡ chars made) × IsPatched d operations e)

-- the same of a merge patch (RFC 7396, 2)
abbrev pub IsMergedBy : Options → List ℕ → List ℕ → List ℕ → Type 0
IsMergedBy o patch text made = (p : Plain) × IsMergePatch o (chars patch) p × OfDocument o text (λ d ns. (e : Document) × (e.text ≡ chars made) × IsMerged d p e)

-- an error of parsing is told, and of no operations
abbrev pub IsToldAlone : ParseError → JsoncFault → Type 0
IsToldAlone e f = IsToldOf e f × (f.made ≡ 0)

-- Why bytes are no document of the options: an allocation failed; they are not UTF-8; or their text is refused.
pub data IsNoDocument (o : Options) (text : List ℕ) (status : ℕ) (f : JsoncFault) : Type 0 where
  for_memory : status ≡ 1 → f ≡ no_fault → IsNoDocument o text status f
  for_bytes : status ≡ 3 → f ≡ no_fault → ¬ (IsUtf8 text) → IsNoDocument o text status f
  for_text : (e : ParseError) → status ≡ 4 → IsToldAlone e f → IsRefusalOf o text e → IsNoDocument o text status f

-- why they are no pointer
pub data IsNoPointer (pointer : List ℕ) (status : ℕ) (f : JsoncFault) : Type 0 where
  for_memory : status ≡ 1 → f ≡ no_fault → IsNoPointer pointer status f
  for_bytes : status ≡ 2 → f ≡ no_fault → ¬ (IsUtf8 pointer) → IsNoPointer pointer status f
  for_pointer : (e : PointerError) → status ≡ 19 → IsToldOfPointer e f → IsPointerFault (chars pointer) e → IsNoPointer pointer status f

-- why they are no patch of the options
pub data IsNoPatch (A : Type 0) (o : Options) (patch : List ℕ) (status : ℕ) (f : JsoncFault) : Type 0 where
  for_memory : status ≡ 1 → f ≡ no_fault → IsNoPatch A o patch status f
  for_bytes : status ≡ 2 → f ≡ no_fault → ¬ (IsUtf8 patch) → IsNoPatch A o patch status f
  for_text : (e : ParseError) → status ≡ 7 → IsToldAlone e f → IsRefusalOf o patch e → IsNoPatch A o patch status f
  for_patch : (e : PatchError A) → status ≡ 22 → IsToldOfPatch e f → IsFaultOfPatch o patch e → IsNoPatch A o patch status f

-- why they are no merge patch of the options
pub data IsNoMergePatch (o : Options) (patch : List ℕ) (status : ℕ) (f : JsoncFault) : Type 0 where
  for_memory : status ≡ 1 → f ≡ no_fault → IsNoMergePatch o patch status f
  for_bytes : status ≡ 2 → f ≡ no_fault → ¬ (IsUtf8 patch) → IsNoMergePatch o patch status f
  for_text : (e : ParseError) → status ≡ 7 → IsToldAlone e f → IsRefusalOf o patch e → IsNoMergePatch o patch status f
  for_value : status ≡ 8 → f ≡ no_fault → IsDocument o (chars patch) None → IsNoMergePatch o patch status f
  for_name : (name : List ℕ) → status ≡ 21 → IsToldOfName name f → OfValue o patch (RepeatsName (chars name)) → IsNoMergePatch o patch status f

-- there is no pointer, or no document
abbrev pub IsUnopened : Options → List ℕ → List ℕ → ℕ → JsoncFault → Type 0
IsUnopened o pointer text status f = IsNoPointer pointer status f ⊎ IsNoDocument o text status f

-- Why nothing is found: there is no pointer, or no document; it refers to nothing; or on its way this name stands twice in its object.
pub data IsUnfound (o : Options) (pointer text : List ℕ) (status : ℕ) (f : JsoncFault) : Type 0 where
  for_memory : status ≡ 1 → f ≡ no_fault → IsUnfound o pointer text status f
  for_pointer : IsNoPointer pointer status f → IsUnfound o pointer text status f
  for_document : IsNoDocument o text status f → IsUnfound o pointer text status f
  for_value : status ≡ 20 → f ≡ no_fault → OfPointer o pointer text (λ d ns tokens. RefersToNothing d tokens) → IsUnfound o pointer text status f
  for_name : (name : List ℕ) → status ≡ 21 → IsToldOfName name f → OfPointer o pointer text (λ d ns tokens. FailsAt d.value tokens (chars name)) → IsUnfound o pointer text status f

-- Why a patch is not made: there is none, or no document; or an operation stops it.
pub data IsUnpatched (A : Type 0) (o : Options) (patch text : List ℕ) (status : ℕ) (f : JsoncFault) : Type 0 where
  for_memory : status ≡ 1 → f ≡ no_fault → IsUnpatched A o patch text status f
  for_patch : IsNoPatch A o patch status f → IsUnpatched A o patch text status f
  for_document : IsNoDocument o text status f → IsUnpatched A o patch text status f
  for_operation : (operations : List (Operation A)) (stopped : PatchFault A) → status ≡ cause_status stopped.cause → IsToldOfOperation stopped f
      → IsPatch o (chars patch) (map asked operations) → OfDocument o text (λ d ns. IsStopped d operations stopped) → IsUnpatched A o patch text status f

-- Why a merge patch is not merged: there is none, or no document; or where a name of the patch is looked up it stands twice; or a value would be nested too deep.
pub data IsUnmerged (A : Type 0) (o : Options) (patch text : List ℕ) (status : ℕ) (f : JsoncFault) : Type 0 where
  for_memory : status ≡ 1 → f ≡ no_fault → IsUnmerged A o patch text status f
  for_patch : IsNoMergePatch o patch status f → IsUnmerged A o patch text status f
  for_document : IsNoDocument o text status f → IsUnmerged A o patch text status f
  for_depth : status ≡ 28 → f ≡ no_fault → IsUnmerged A o patch text status f
  for_name : (p : Plain) (name : String A) → status ≡ 21 → IsToldOfName (string_bytes name) f → IsMergePatch o (chars patch) p
      → OfDocument o text (λ d ns. IsMergeFault p d (RepeatedName name)) → IsUnmerged A o patch text status f
