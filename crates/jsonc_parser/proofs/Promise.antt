-- From a text that is parsed to the text after edits.
use Rattle.std.proofs.Common.{◌≡◌, ◌∙◌, ℕ, List, Option, Some, inl, inr, chars, length, take, sym, ap, subst}
use Rattle.std.specs.List.{slice_get, All}
use Rattle.std.proofs.lemmas.Option.{slice_get_within}
use Rattle.jsonc_text.specs.Documents.{Document}
use Rattle.jsonc_text.specs.Grammar.{IsDocument}
use Rattle.jsonc_text.specs.Options.{Options}
use Rattle.jsonc_text.specs.Plain.{Plain}
use Rattle.jsonc_tree.specs.OrderedTree.{OrderedTree, printed}
use Rattle.jsonc_walk.specs.Refusals.{IsWithin}
use Rattle.jsonc_sound.specs.Documents.{ShowsText}
use Rattle.jsonc_text.specs.declared.edit.EditError.{EditError}
use Rattle.jsonc_text.specs.declared.edit.EditError.TheVariants.{OutOfMemory}
use Rattle.jsonc_run.specs.declared.edit.Edit.{Edit}
use Rattle.jsonc_run.specs.Edits.{Fits}
use Rattle.jsonc_run.specs.promise.Asked.{EditsTheText, StopsInText}
use Rattle.jsonc_run.proofs.lemmas.promise.Leads.{shown_are_documents}
use Rattle.jsonc_parser.specs.Promise.{IsEditedText, StopsText}

module _ {A : Type 0} (o : Options) (text : List ℕ) (t : OrderedTree) (edits : List (Edit A)) where
  -- the text of the document that a tree shows is what it prints
  pub text_edited : (u : OrderedTree) (edited : List ℕ) → ((w : Option Plain) → IsDocument o text w → IsWithin w) → ShowsText o text t → EditsTheText t edits u → printed u ≡ edited
      → IsEditedText o text edits (chars edited)
  text_edited u edited within (d, options, is, shown) leads same = (
    d,
    options,
    is,
    shown_are_documents t d shown,
    λ fit.
        let lead = leads d shown (subst (λ p. All (Fits p) edits) (sym options) fit) in
        let e : Document = lead.0 in
        let first : IsWithin d.value = within d.value (subst (λ p. IsDocument p text d.value) options (subst (λ s. IsDocument d.options s d.value) is (shown_are_documents t d shown).says)) in
        (e, ap (λ (x : Document). x.text) lead.1.is ∙ ap chars same, lead.2, lead.3 first),
  )

  pub text_stops : (u : OrderedTree) (k : ℕ) (why : EditError) {next : Edit A} → ShowsText o text t → slice_get edits k ≡ Some next → StopsInText t edits k why u → StopsText o text edits k why
  text_stops u k why (d, options, is, shown) next stops = (
    d,
    options,
    is,
    shown_are_documents t d shown,
    inr (
      slice_get_within edits k _ next,
      λ fit.
          let stop = stops d shown (subst (λ p. All (Fits p) (take k edits)) (sym options) fit) in
          (stop.0, stop.2),
    ),
  )

  -- all were made, and allocation failed for the text
  pub text_wants_memory : (k : ℕ) (why : EditError) → ShowsText o text t → k ≡ length edits → why ≡ OutOfMemory → StopsText o text edits k why
  text_wants_memory k why (d, options, is, shown) all memory = (d, options, is, shown_are_documents t d shown, inl (all, memory))
