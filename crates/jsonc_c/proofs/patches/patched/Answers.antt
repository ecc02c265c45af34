use Rattle.std.proofs.Common.{chars, subst}
use Rattle.std.specs.List.{All}
use Rattle.std.specs.declared.alloc.Global.{Global}
use Rattle.jsonc_text.specs.Options.{Options}
use Rattle.jsonc_sound.specs.Documents.{ShowsText}
use Rattle.jsonc_cst.specs.Document.{tree_of}
use Rattle.jsonc_parser.specs.patch.Asked.{FitsIn}
use Rattle.jsonc_parser.specs.patch.PatchTexts.{IsPatch}
use Rattle.jsonc_parser.specs.patch.Patches.{operations_in, operations_of}
use Rattle.jsonc_c.specs.Options.{options_of}
use Rattle.jsonc_c.specs.Patches.{IsNoDocument, IsNoPatch, IsUnpatched}
use Rattle.jsonc_c.proofs.patches.patched.Goals as goal

pub returns-in-Err-clause-refused : goal.returns-in-Err-clause-refused
returns-in-Err-clause-refused c = IsUnpatched.for_patch (subst (λ (o : Options). IsNoPatch Global o c.args.patch.now c.in-Err.status c.patch_of.new.fault) c.options_of-options.ensures c.in-Err.ensures.refused)

pub returns-in-Err-document_of-clause-refused : goal.returns-in-Err-document_of-clause-refused
returns-in-Err-document_of-clause-refused c =
    IsUnpatched.for_document (subst (λ (o : Options). IsNoDocument o c.args.text.now c.in-Err-document_of.status c.document_of.new.fault) c.options_of-options.ensures c.in-Err-document_of.ensures.refused)

pub returns-clause-patched : goal.returns-clause-patched
returns-clause-patched c =
    c.text_by.ensures.patched (options_of c.args.options) c.args.patch.now c.args.text.now
    (subst (λ (o : Options). IsPatch o (chars c.args.patch.now) (operations_of c.in-Ok.patch)) c.options_of-options.ensures c.in-Ok.ensures.read)
    (subst (λ (o : Options). All (FitsIn o) (operations_in c.in-Ok.patch)) c.options_of-options.ensures c.in-Ok.ensures.fits)
    (subst (λ (o : Options). ShowsText o (chars c.args.text.now) (tree_of c.in-Ok-document_of.document)) c.options_of-options.ensures c.in-Ok-document_of.ensures.shown)

pub returns-clause-refused : goal.returns-clause-refused
returns-clause-refused c =
    c.text_by.ensures.refused (options_of c.args.options) c.args.patch.now c.args.text.now
    (subst (λ (o : Options). IsPatch o (chars c.args.patch.now) (operations_of c.in-Ok.patch)) c.options_of-options.ensures c.in-Ok.ensures.read)
    (subst (λ (o : Options). All (FitsIn o) (operations_in c.in-Ok.patch)) c.options_of-options.ensures c.in-Ok.ensures.fits)
    (subst (λ (o : Options). ShowsText o (chars c.args.text.now) (tree_of c.in-Ok-document_of.document)) c.options_of-options.ensures c.in-Ok-document_of.ensures.shown)
