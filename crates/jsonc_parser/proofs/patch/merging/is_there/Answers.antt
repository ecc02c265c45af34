use Rattle.std.proofs.Common.{Option, subst}
use Rattle.jsonc_layout.specs.declared.input.value.CstInputValue.{CstInputValue}
use Rattle.jsonc_layout.specs.input.Views.{plain}
use Rattle.jsonc_parser.specs.patch.Found.{IsOfShown, Reads}
use Rattle.jsonc_parser.specs.patch.Pointer.{tokens_of}
use Rattle.jsonc_parser.proofs.lemmas.patch.MergeChains.{none_read, one_read}
use Rattle.jsonc_parser.proofs.patch.merging.is_there.Goals as goal

pub returns-in-Ok-clause-decided : goal.returns-in-Ok-clause-decided
returns-in-Ok-clause-decided g c =
    let doc = c.args.doc.now in
    let taken = subst (λ (o : Option (CstInputValue g.row.A.Denot)). IsOfShown doc (λ d. Reads d (tokens_of c.args.pointer.now) o)) c.in-Ok-Some.field-0-is c.in-Ok-Some.ensures.read in
    one_read doc (tokens_of c.args.pointer.now) (plain c.args.value.now) c.in-Ok-Some.there c.in-Ok.equal taken c.in-Ok.ensures

pub returns-in-Ok-None-clause-decided : goal.returns-in-Ok-None-clause-decided
returns-in-Ok-None-clause-decided g c =
    let doc = c.args.doc.now in
    none_read doc (tokens_of c.args.pointer.now) (plain c.args.value.now)
    (subst (λ (o : Option (CstInputValue g.row.A.Denot)). IsOfShown doc (λ d. Reads d (tokens_of c.args.pointer.now) o)) c.in-Ok-None.field-0-is c.in-Ok-None.ensures.read)
