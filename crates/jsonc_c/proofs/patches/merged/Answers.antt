use Rattle.std.proofs.Common.{chars, subst}
use Rattle.jsonc_text.specs.Options.{Options}
use Rattle.jsonc_sound.specs.Documents.{ShowsText}
use Rattle.jsonc_cst.specs.Document.{tree_of}
use Rattle.jsonc_edit.specs.Writing.{IsOfNumbers}
use Rattle.jsonc_layout.specs.input.Views.{plain}
use Rattle.jsonc_parser.specs.patch.MergeTexts.{IsMergePatch}
use Rattle.jsonc_c.specs.Options.{options_of}
use Rattle.jsonc_c.specs.Patches.{IsNoDocument, IsNoMergePatch, IsUnmerged}
use Rattle.jsonc_c.proofs.patches.merged.Goals as goal

pub returns-in-Err-clause-refused : goal.returns-in-Err-clause-refused
returns-in-Err-clause-refused c = IsUnmerged.for_patch (subst (λ (o : Options). IsNoMergePatch o c.args.patch.now c.in-Err.status c.merge_patch_of.new.fault) c.options_of-options.ensures c.in-Err.ensures.refused)

pub returns-in-Err-document_of-clause-refused : goal.returns-in-Err-document_of-clause-refused
returns-in-Err-document_of-clause-refused c =
    IsUnmerged.for_document (subst (λ (o : Options). IsNoDocument o c.args.text.now c.in-Err-document_of.status c.document_of.new.fault) c.options_of-options.ensures c.in-Err-document_of.ensures.refused)

pub returns-clause-merged : goal.returns-clause-merged
returns-clause-merged c =
    c.text_with.ensures.merged (options_of c.args.options) c.args.patch.now c.args.text.now
    (subst (λ (o : Options). IsMergePatch o (chars c.args.patch.now) (plain c.in-Ok.patch)) c.options_of-options.ensures c.in-Ok.ensures.read)
    (subst (λ (o : Options). IsOfNumbers o (plain c.in-Ok.patch)) c.options_of-options.ensures c.in-Ok.ensures.fits)
    (subst (λ (o : Options). ShowsText o (chars c.args.text.now) (tree_of c.in-Ok-document_of.document)) c.options_of-options.ensures c.in-Ok-document_of.ensures.shown)

pub returns-clause-refused : goal.returns-clause-refused
returns-clause-refused c =
    c.text_with.ensures.refused (options_of c.args.options) c.args.patch.now c.args.text.now
    (subst (λ (o : Options). IsMergePatch o (chars c.args.patch.now) (plain c.in-Ok.patch)) c.options_of-options.ensures c.in-Ok.ensures.read)
    (subst (λ (o : Options). IsOfNumbers o (plain c.in-Ok.patch)) c.options_of-options.ensures c.in-Ok.ensures.fits)
    (subst (λ (o : Options). ShowsText o (chars c.args.text.now) (tree_of c.in-Ok-document_of.document)) c.options_of-options.ensures c.in-Ok-document_of.ensures.shown)
