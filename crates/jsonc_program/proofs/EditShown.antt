-- From the document of an input to the text that is written.
use Rattle.std.proofs.Common.{◌≡◌, ◌∙◌, ◌++◌, ℕ, List, [], ◌∷◌, Option, IsUtf8, Err, IfErr, IfOk, Ok, Result, chars, inl, inr, refl, sym, ap, subst}
use Rattle.std.proofs.lemmas.Str.{IsUtf8-append, IsUtf8-nil}
use Rattle.std.specs.List.{flat_map}
use Rattle.std.specs.Prelude.{string_bytes}
use Rattle.std.specs.declared.string.String.{String}
use Rattle.jsonc_text.specs.Documents.{Document}
use Rattle.jsonc_text.specs.Grammar.{IsDocument}
use Rattle.jsonc_text.specs.Options.{Options}
use Rattle.jsonc_text.specs.Plain.{Plain}
use Rattle.jsonc_tree.specs.Content.{Content, text_of}
use Rattle.jsonc_tree.specs.OrderedTree.{OrderedTree, leaves, printed}
use Rattle.jsonc_sound.specs.Documents.{Shows, ShowsText}
use Rattle.jsonc_sound.proofs.Texts.{AllUtf8}
use Rattle.jsonc_run.proofs.lemmas.promise.Leaves.{document_utf8}
use Rattle.jsonc_sound.specs.Shape.{printed_text}
use Rattle.jsonc_edit.proofs.SoundValues.{prints_value}
use Rattle.jsonc_cst.specs.declared.cst.CstRootNode.{CstRootNode}
use Rattle.jsonc_cst.specs.Document.{HasNoDeeperValue, IsWithin, nodes_of, printed_of, tree_of}
use Rattle.jsonc_engine.specs.Input.{IsInputOf}
use Rattle.jsonc_engine.specs.Patched.{IsTextOf, OfDocument}
use Rattle.jsonc_program.specs.declared.edit.fault.EditFault.{EditFault}
use Rattle.jsonc_program.specs.declared.edit.task.Edit.{Edit}
use Rattle.jsonc_program.specs.edit.Asked.{Asked, MayBeWritten}
use Rattle.jsonc_program.specs.edit.Editing.{IsEdited}
use Rattle.jsonc_program.specs.edit.Faults.{FailsWhatShown, IsCause, IsFaultOfDocument, IsWhyNot}
use Rattle.jsonc_program.specs.edit.Making.{IsMadeIn, Makes, MakesWhatShown}
use Rattle.jsonc_program.specs.edit.Words.{IsAskedBy}

-- what leaves of characters print is characters
utf8_all : (row : List Content) → AllUtf8 row → IsUtf8 (flat_map text_of row)
utf8_all [] u = IsUtf8-nil
utf8_all (content ∷ rest) u = IsUtf8-append (text_of content) (flat_map text_of rest) u.0 (utf8_all rest u.1)

-- what a tree prints that shows a document within the depth is accepted
accepts : (o : Options) (t : OrderedTree) (e : Document) → Shows e t → e.options ≡ o → IsWithin e.value → IsInputOf o (printed t)
accepts o t e shown options within = record {
  utf8 = utf8_all (leaves t) (document_utf8 e.options shown.sound.shaped);
  value = e.value;
  document = subst (λ (p : Options). IsDocument p (chars (printed t)) e.value) options (prints_value e.options t e.value shown.sound shown.value);
  within = within;
}

module _ {A : Type 0} (o : Options) (input : List ℕ) (old : CstRootNode A) (shows : ShowsText o (chars input) (tree_of old)) where
  of_it : (is_so : Document → Type 0) → is_so shows.0 → OfDocument o input is_so
  of_it is_so h = record { document = shows.0; options = shows.1; text = shows.2; so = h }

  -- the input is within the depth
  within_old : HasNoDeeperValue o input → IsWithin shows.0.value
  within_old small =
      let s = shows.3 in
      let says : IsDocument shows.0.options (printed_text (tree_of old)) shows.0.value = prints_value shows.0.options (tree_of old) shows.0.value s.sound s.value in
      let text : printed_text (tree_of old) ≡ chars input = sym (ap (λ d. d.text) s.is) ∙ shows.2 in
      small shows.0.value (subst (λ (p : Options). IsDocument p (chars input) shows.0.value) shows.1 (subst (λ t. IsDocument shows.0.options t shows.0.value) text says))

  module _ (edit : Edit) (asked : Asked) (is : IsAskedBy o edit asked) where
    -- what was made of the document is what the output is the text of
    pub edited : HasNoDeeperValue o input → MayBeWritten o asked → (new : CstRootNode A) → MakesWhatShown asked old new → (output : List ℕ) → output ≡ printed_of new → IsEdited o edit input output
    edited small may new makes output prints =
        let m = makes shows.0 shows.3 (subst (λ p. MayBeWritten p asked) (sym shows.1) may) in
        let accepted : IsInputOf o (printed_of new) = accepts o (tree_of new) m.0 m.1 (m.2.options ∙ shows.1) (m.2.within (within_old small)) in
        let text : IsTextOf o (printed_of new) (Makes asked shows.0) = record { document = m.0; bytes = accepted.utf8; text = ap (λ d. d.text) m.1.is; so = m.2.makes; accepted = accepted } in
        (asked, is, of_it _ (subst (λ b. IsTextOf o b (Makes asked shows.0)) (sym prints) text))

    pub edited_if : HasNoDeeperValue o input → MayBeWritten o asked → (new : CstRootNode A) → MakesWhatShown asked old new → {B E : Type 0} (r : Result (String B) E) → IfOk r (λ text. string_bytes text ≡ printed_of new)
        → IfOk r (λ text. IsEdited o edit input (string_bytes text))
    edited_if small may new makes (Ok text) prints = edited small may new makes (string_bytes text) prints
    edited_if small may new makes (Err e) prints = tt

    -- why nothing was
    pub told : (fault : EditFault A) → FailsWhatShown asked old fault → IsCause o edit input fault
    told fault fails = inr (inr (asked, is, of_it (IsWhyNot asked fault) (fails shows.0 shows.3)))
