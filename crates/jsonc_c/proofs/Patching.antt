-- What calls of pointers and patches make of a text, and why they make nothing of it.
use Rattle.std.proofs.Common.{◌≡◌, ◌≤◌, ◌<◌, ◌⊎◌, ◌∙◌, ℕ, true, List, String, Some, None, ap, arith, chars, inl, inr, refl, string_bytes, subst, sym}
use Rattle.std.proofs.lemmas.List.Elements.{All-take}
use Rattle.std.specs.List.{All}
use Rattle.jsonc_text.specs.Documents.{Document}
use Rattle.jsonc_text.specs.Options.{Options}
use Rattle.jsonc_text.specs.Plain.{Plain}
use Rattle.jsonc_edit.specs.Writing.{IsOfNumbers}
use Rattle.jsonc_tree.specs.OrderedTree.{ordered_tree, printed}
use Rattle.jsonc_sound.specs.Documents.{Shows, ShowsText}
use Rattle.jsonc_cst.specs.declared.cst.CstRootNode.{CstRootNode}
use Rattle.jsonc_cst.specs.declared.cst.node.CstNode.{CstNode}
use Rattle.jsonc_cst.specs.Document.{nodes_of, printed_of, tree_of}
use Rattle.jsonc_cst.specs.Nodes.{number_of}
use Rattle.jsonc_engine.specs.Input.{IsRefusalOf}
use Rattle.jsonc_engine.specs.Parser.{IsFault, ParseError, ParseFault, RefusesText}
use Rattle.jsonc_text.specs.declared.edit.EditError.TheVariants.{NestingDepthExceeded}
use Rattle.jsonc_parser.specs.patch.Applied.{PatchesWhatShown, StopsWhatShown}
use Rattle.jsonc_parser.specs.patch.Asked.{FitsIn}
use Rattle.jsonc_parser.specs.patch.Found.{FindFails, Finds, IsOfShown}
use Rattle.jsonc_parser.specs.patch.Merged.{MergesWhatShown, MergeStopsWhatShown}
use Rattle.jsonc_parser.specs.patch.MergeTexts.{IsMergePatch, IsFaultOfMergePatch}
use Rattle.jsonc_parser.specs.patch.PatchFaults.{IsFaultOfPatch}
use Rattle.jsonc_parser.specs.patch.PatchTexts.{IsPatch}
use Rattle.jsonc_parser.specs.patch.Patches.{operations_in, operations_of}
use Rattle.jsonc_parser.specs.patch.Pointer.{IsPointerFault, pointer_text}
use Rattle.jsonc_parser.specs.declared.patch.apply.PatchFault.{PatchFault}
use Rattle.jsonc_parser.specs.declared.patch.making.PatchCause.{PatchCause}
use Rattle.jsonc_parser.specs.declared.patch.making.PatchCause.TheVariants as cause
use Rattle.jsonc_parser.specs.declared.patch.merge_text.MergePatchError.TheVariants as merge_text
use Rattle.jsonc_parser.specs.declared.patch.merging.MergeFault.TheVariants as merging
use Rattle.jsonc_parser.specs.declared.patch.pointer.PointerError.{PointerError}
use Rattle.jsonc_parser.specs.declared.patch.reading.Patch.{Patch}
use Rattle.jsonc_parser.specs.declared.patch.reading.PatchError.{PatchError}
use Rattle.jsonc_parser.specs.declared.patch.reading.PatchError.TheVariants as patch
use Rattle.jsonc_parser.specs.declared.patch.reference.FindError.TheVariants as finding
use Rattle.jsonc_c.specs.PatchTold.{IsToldOfName, IsToldOfOperation, IsToldOfPatch, IsToldOfPointer, TellsOfPatches, cause_status}
use Rattle.jsonc_c.specs.Patches.{IsFound, IsMergedBy, IsNoDocument, IsNoMergePatch, IsNoPatch, IsNoPointer, IsPatchedBy, IsToldAlone, IsUnfound, IsUnmerged, IsUnopened, IsUnpatched}
use Rattle.jsonc_c.specs.Told.{IsToldOf, no_fault}
use Rattle.jsonc_c.specs.declared.fault.JsoncFault.{JsoncFault}

-- an error of parsing is told alone
told_alone : (e : ParseError) (old f : JsoncFault) → old ≡ no_fault → f.made ≡ old.made → IsToldOf e f → IsToldAlone e f
told_alone e old f none made told = (told, made ∙ ap (λ (g : JsoncFault). g.made) none)

-- nothing is told with the status of memory
untold : (k status : ℕ) (old f : JsoncFault) → old ≡ no_fault → (¬ (status ≡ k) → f ≡ old) → status ≡ 1 → 2 ≤ k → f ≡ no_fault
untold k status old f none same one past = same (λ is. omega (arith, one, is, past)) ∙ none

module _ (o : Options) (bytes text : List ℕ) (read : text ≡ bytes) (old f : JsoncFault) (none : old ≡ no_fault) where
  -- what parsing tells of the text is true of the bytes
  refusal : (e : ParseError) → RefusesText o text e → IsFault text e → ParseFault o text true e → IsRefusalOf o bytes e
  refusal e refused fault error = subst (λ (b : List ℕ). IsRefusalOf o b e) read (record { fault = fault; refused = refused; error = error })

  -- the text is refused
  pub no_document : (e : ParseError) (status : ℕ) → RefusesText o text e → IsFault text e → ParseFault o text true e → (status ≡ 1) ⊎ ((status ≡ 4) × IsToldOf e f) → (¬ (status ≡ 4) → f ≡ old) → f.made ≡ old.made
      → IsNoDocument o bytes status f
  no_document e status refused fault error (inl one) same made = IsNoDocument.for_memory one (untold 4 status old f none same one (omega arith))
  no_document e status refused fault error (inr told) same made = IsNoDocument.for_text e told.0 (told_alone e old f none made told.1) (refusal e refused fault error)

  -- or that of a patch
  pub no_patch_text : {A : Type 0} (e : ParseError) (status : ℕ) → IsFaultOfPatch {A = A} o text (patch.Parse e) → (status ≡ 1) ⊎ ((status ≡ 7) × IsToldOf e f) → (¬ (status ≡ 7) → f ≡ old) → f.made ≡ old.made
      → IsNoPatch A o bytes status f
  no_patch_text e status why (inl one) same made = IsNoPatch.for_memory one (untold 7 status old f none same one (omega arith))
  no_patch_text e status why (inr told) same made = IsNoPatch.for_text e told.0 (told_alone e old f none made told.1) (refusal e why.0 why.1 why.2)

  pub no_merge_text : (A : Type 0) (e : ParseError) (status : ℕ) → IsFaultOfMergePatch {A = A} o text (merge_text.Parse e) → (status ≡ 1) ⊎ ((status ≡ 7) × IsToldOf e f) → (¬ (status ≡ 7) → f ≡ old) → f.made ≡ old.made
      → IsNoMergePatch o bytes status f
  no_merge_text A e status why (inl one) same made = IsNoMergePatch.for_memory one (untold 7 status old f none same one (omega arith))
  no_merge_text A e status why (inr told) same made = IsNoMergePatch.for_text e told.0 (told_alone e old f none made told.1) (refusal e why.0 why.1 why.2)

  -- a text is no patch
  pub no_patch : {A : Type 0} (e : PatchError A) (status : ℕ) → IsFaultOfPatch o text e → (status ≡ 1) ⊎ ((status ≡ 22) × IsToldOfPatch e f) → (status ≡ 1 → f ≡ old) → IsNoPatch A o bytes status f
  no_patch e status why (inl one) same = IsNoPatch.for_memory one (same one ∙ none)
  no_patch e status why (inr told) same = IsNoPatch.for_patch e told.0 told.1 (subst (λ (b : List ℕ). IsFaultOfPatch o b e) read why)

  -- that of a merge patch has no value
  pub no_merge_value : (A : Type 0) (status : ℕ) → status ≡ 8 → IsFaultOfMergePatch {A = A} o text merge_text.NoValue → IsNoMergePatch o bytes status old
  no_merge_value A status is why = IsNoMergePatch.for_value is none (subst (λ (b : List ℕ). IsFaultOfMergePatch {A = A} o b merge_text.NoValue) read why)

  -- a name stands twice in it
  pub no_merge_name : {A : Type 0} (name : String A) (status : ℕ) → IsFaultOfMergePatch {A = A} o text (merge_text.RepeatedName name) → (status ≡ 1) ⊎ ((status ≡ 21) × IsToldOfName (string_bytes name) f) → (status ≡ 1 → f ≡ old)
      → IsNoMergePatch o bytes status f
  no_merge_name {A = A} name status why (inl one) same = IsNoMergePatch.for_memory one (same one ∙ none)
  no_merge_name {A = A} name status why (inr told) same = IsNoMergePatch.for_name (string_bytes name) told.0 told.1 (subst (λ (b : List ℕ). IsFaultOfMergePatch {A = A} o b (merge_text.RepeatedName name)) read why)

-- a text is no pointer
pub no_pointer : (bytes text : List ℕ) → text ≡ bytes → (e : PointerError) (status : ℕ) (old f : JsoncFault) → old ≡ no_fault → IsPointerFault (chars text) e → (status ≡ 1) ⊎ ((status ≡ 19) × IsToldOfPointer e f) → (status ≡ 1 → f ≡ old)
    → IsNoPointer bytes status f
no_pointer bytes text read e status old f none why (inl one) same = IsNoPointer.for_memory one (same one ∙ none)
no_pointer bytes text read e status old f none why (inr told) same = IsNoPointer.for_pointer e told.0 told.1 (subst (λ (b : List ℕ). IsPointerFault (chars b) e) read why)

-- the text of a document that is shown
text_of_shown : {A : Type 0} (e : Document) (new : CstRootNode A) (made : List ℕ) → Shows e (tree_of new) → made ≡ printed_of new → e.text ≡ chars made
text_of_shown e new made shown prints = ap (λ d. d.text) shown.is ∙ ap chars (sym prints)

-- without a pointer or a document nothing is found
pub unopened_finds_none : {o : Options} {pointer text : List ℕ} {status : ℕ} {f : JsoncFault} → IsUnopened o pointer text status f → IsUnfound o pointer text status f
unopened_finds_none (inl why) = IsUnfound.for_pointer why
unopened_finds_none (inr why) = IsUnfound.for_document why

module _ {A : Type 0} (o : Options) (words text : List ℕ) (doc : CstRootNode A) (shown : ShowsText o (chars text) (tree_of doc)) (old f : JsoncFault) (none : old ≡ no_fault) where
  module _ (tokens : List (List ℕ)) (is : pointer_text tokens ≡ chars words) where
    pub found_there : (node : CstNode) (made : List ℕ) → IsOfShown doc (λ d. Finds d doc tokens (Some node)) → made ≡ printed (ordered_tree (nodes_of doc) (number_of node)) → IsFound o words text made
    found_there node made h prints = (tokens, is, (shown.0, nodes_of doc, shown.1, shown.2, shown.3, (number_of node, h shown.0 shown.3, prints)))

    pub nothing_there : (status : ℕ) → status ≡ 20 → IsOfShown doc (λ d. Finds d doc tokens None) → IsUnfound o words text status old
    nothing_there status none_there h = IsUnfound.for_value none_there none (tokens, is, (shown.0, nodes_of doc, shown.1, shown.2, shown.3, h shown.0 shown.3))

    pub repeated_there : (name : String A) (status : ℕ) → IsOfShown doc (λ d. FindFails d doc tokens (finding.RepeatedName name)) → (status ≡ 1) ⊎ ((status ≡ 21) × IsToldOfName (string_bytes name) f) → (status ≡ 1 → f ≡ old)
        → IsUnfound o words text status f
    repeated_there name status h (inl one) same = IsUnfound.for_memory one (same one ∙ none)
    repeated_there name status h (inr told) same = IsUnfound.for_name (string_bytes name) told.0 told.1 (tokens, is, (shown.0, nodes_of doc, shown.1, shown.2, shown.3, h shown.0 shown.3))

  module _ (patch : Patch A) (is : IsPatch o (chars words) (operations_of patch)) (fits : All (FitsIn o) (operations_in patch)) where
    fit : All (FitsIn shown.0.options) (operations_in patch)
    fit = subst (λ (q : Options). All (FitsIn q) (operations_in patch)) (sym shown.1) fits

    pub patched_so : (new : CstRootNode A) (made : List ℕ) → PatchesWhatShown doc (operations_in patch) new → made ≡ printed_of new → IsPatchedBy A o words text made
    patched_so new made h prints =
        let e = h shown.0 shown.3 fit in
        (operations_in patch, is, (shown.0, nodes_of doc, shown.1, shown.2, shown.3, (e.0, text_of_shown e.0 new made e.1 prints, e.2)))

    pub stopped_so : (stopped : PatchFault A) (status : ℕ) → StopsWhatShown doc (operations_in patch) stopped → (status ≡ 1) ⊎ ((status ≡ cause_status stopped.cause) × IsToldOfOperation stopped f) → (status ≡ 1 → f ≡ old)
        → IsUnpatched A o words text status f
    stopped_so stopped status h (inl one) same = IsUnpatched.for_memory one (same one ∙ none)
    stopped_so stopped status h (inr told) same =
        IsUnpatched.for_operation (operations_in patch) stopped told.0 told.1 is
        (shown.0, nodes_of doc, shown.1, shown.2, shown.3, h shown.0 shown.3 (All-take (FitsIn shown.0.options) stopped.operation (operations_in patch) fit))

  module _ (p : Plain) (is : IsMergePatch o (chars words) p) (fits : IsOfNumbers o p) where
    numbers : IsOfNumbers shown.0.options p
    numbers = subst (λ (q : Options). IsOfNumbers q p) (sym shown.1) fits

    pub merged_so : (new : CstRootNode A) (made : List ℕ) → MergesWhatShown doc p new → made ≡ printed_of new → IsMergedBy o words text made
    merged_so new made h prints =
        let e = h shown.0 shown.3 numbers in
        (p, is, (shown.0, nodes_of doc, shown.1, shown.2, shown.3, (e.0, text_of_shown e.0 new made e.1 prints, e.2)))

    pub repeated_so : (name : String A) (status : ℕ) → MergeStopsWhatShown doc p (merging.RepeatedName name) → (status ≡ 1) ⊎ ((status ≡ 21) × IsToldOfName (string_bytes name) f) → (status ≡ 1 → f ≡ old)
        → IsUnmerged A o words text status f
    repeated_so name status h (inl one) same = IsUnmerged.for_memory one (same one ∙ none)
    repeated_so name status h (inr told) same = IsUnmerged.for_name p name told.0 told.1 is (shown.0, nodes_of doc, shown.1, shown.2, shown.3, h shown.0 shown.3 numbers)

-- no success and no want of room, and nothing is told where there is nothing to tell
abbrev pub Ends : ℕ → JsoncFault → Type 0
Ends status f = (1 ≤ status) × ¬ (status ≡ 17) × TellsOfPatches status f

pub ends_untold : (k status : ℕ) (f : JsoncFault) → status ≡ k → 1 ≤ k → k < 17 → f ≡ no_fault → Ends status f
ends_untold k status f is some below none = (omega (arith, is, some), λ e. omega (arith, is, below, e), λ four seven past. none)

pub ends_past : (k status : ℕ) (f : JsoncFault) → status ≡ k → 19 ≤ k → Ends status f
ends_past k status f is past = (omega (arith, is, past), λ e. omega (arith, is, past, e), λ four seven below. absurd (omega (arith, is, past, below)))

ends_text : (status : ℕ) (f : JsoncFault) → status ≡ 4 → Ends status f
ends_text status f is = (omega (arith, is), λ e. omega (arith, is, e), λ four seven below. absurd (four is))

ends_json : (status : ℕ) (f : JsoncFault) → status ≡ 7 → Ends status f
ends_json status f is = (omega (arith, is), λ e. omega (arith, is, e), λ four seven below. absurd (seven is))

pub no_document_ends : {o : Options} {text : List ℕ} {status : ℕ} {f : JsoncFault} → IsNoDocument o text status f → Ends status f
no_document_ends {status = s} {f = f} (IsNoDocument.for_memory is none) = ends_untold 1 s f is (omega arith) (omega arith) none
no_document_ends {status = s} {f = f} (IsNoDocument.for_bytes is none other) = ends_untold 3 s f is (omega arith) (omega arith) none
no_document_ends {status = s} {f = f} (IsNoDocument.for_text e is told refused) = ends_text s f is

pub no_pointer_ends : {pointer : List ℕ} {status : ℕ} {f : JsoncFault} → IsNoPointer pointer status f → Ends status f
no_pointer_ends {status = s} {f = f} (IsNoPointer.for_memory is none) = ends_untold 1 s f is (omega arith) (omega arith) none
no_pointer_ends {status = s} {f = f} (IsNoPointer.for_bytes is none other) = ends_untold 2 s f is (omega arith) (omega arith) none
no_pointer_ends {status = s} {f = f} (IsNoPointer.for_pointer e is told why) = ends_past 19 s f is (omega arith)

no_patch_ends : {A : Type 0} {o : Options} {patch : List ℕ} {status : ℕ} {f : JsoncFault} → IsNoPatch A o patch status f → Ends status f
no_patch_ends {status = s} {f = f} (IsNoPatch.for_memory is none) = ends_untold 1 s f is (omega arith) (omega arith) none
no_patch_ends {status = s} {f = f} (IsNoPatch.for_bytes is none other) = ends_untold 2 s f is (omega arith) (omega arith) none
no_patch_ends {status = s} {f = f} (IsNoPatch.for_text e is told refused) = ends_json s f is
no_patch_ends {status = s} {f = f} (IsNoPatch.for_patch e is told why) = ends_past 22 s f is (omega arith)

no_merge_ends : {o : Options} {patch : List ℕ} {status : ℕ} {f : JsoncFault} → IsNoMergePatch o patch status f → Ends status f
no_merge_ends {status = s} {f = f} (IsNoMergePatch.for_memory is none) = ends_untold 1 s f is (omega arith) (omega arith) none
no_merge_ends {status = s} {f = f} (IsNoMergePatch.for_bytes is none other) = ends_untold 2 s f is (omega arith) (omega arith) none
no_merge_ends {status = s} {f = f} (IsNoMergePatch.for_text e is told refused) = ends_json s f is
no_merge_ends {status = s} {f = f} (IsNoMergePatch.for_value is none empty) = ends_untold 8 s f is (omega arith) (omega arith) none
no_merge_ends {status = s} {f = f} (IsNoMergePatch.for_name name is told twice) = ends_past 21 s f is (omega arith)

pub unfound_ends : {o : Options} {pointer text : List ℕ} {status : ℕ} {f : JsoncFault} → IsUnfound o pointer text status f → Ends status f
unfound_ends {status = s} {f = f} (IsUnfound.for_memory is none) = ends_untold 1 s f is (omega arith) (omega arith) none
unfound_ends (IsUnfound.for_pointer why) = no_pointer_ends why
unfound_ends (IsUnfound.for_document why) = no_document_ends why
unfound_ends {status = s} {f = f} (IsUnfound.for_value is none nothing) = ends_past 20 s f is (omega arith)
unfound_ends {status = s} {f = f} (IsUnfound.for_name name is told fails) = ends_past 21 s f is (omega arith)

cause_past : {A : Type 0} (c : PatchCause A) → ¬ (cause_status c ≡ 1) → 19 ≤ cause_status c
cause_past cause.NoTarget other = omega arith
cause_past (cause.RepeatedName name) other = omega arith
cause_past cause.IntoItself other = omega arith
cause_past cause.NotEqual other = omega arith
cause_past cause.TooLarge other = absurd (other refl)
cause_past (cause.Edit NestingDepthExceeded) other = omega arith
cause_past (cause.Edit why) other = absurd (other refl)

pub unpatched_ends : {A : Type 0} {o : Options} {patch text : List ℕ} {status : ℕ} {f : JsoncFault} → IsUnpatched A o patch text status f → Ends status f
unpatched_ends {status = s} {f = f} (IsUnpatched.for_memory is none) = ends_untold 1 s f is (omega arith) (omega arith) none
unpatched_ends (IsUnpatched.for_patch why) = no_patch_ends why
unpatched_ends (IsUnpatched.for_document why) = no_document_ends why
unpatched_ends {status = s} {f = f} (IsUnpatched.for_operation operations stopped is told read stops) = ends_past (cause_status stopped.cause) s f is (cause_past stopped.cause told.0)

pub unmerged_ends : {A : Type 0} {o : Options} {patch text : List ℕ} {status : ℕ} {f : JsoncFault} → IsUnmerged A o patch text status f → Ends status f
unmerged_ends {status = s} {f = f} (IsUnmerged.for_memory is none) = ends_untold 1 s f is (omega arith) (omega arith) none
unmerged_ends (IsUnmerged.for_patch why) = no_merge_ends why
unmerged_ends (IsUnmerged.for_document why) = no_document_ends why
unmerged_ends {status = s} {f = f} (IsUnmerged.for_depth is none) = ends_past 28 s f is (omega arith)
unmerged_ends {status = s} {f = f} (IsUnmerged.for_name p name is told read fails) = ends_past 21 s f is (omega arith)
