use Rattle.std.proofs.Common.{ℕ, ◌≡◌, ◌∙◌, ap, sym, subst, List, length, option_map, true}
use Rattle.jsonc_build.specs.declared.maker.DocumentMaker.{DocumentMaker}
use Rattle.jsonc_text.specs.Faults.{IsFault}
use Rattle.jsonc_text.specs.Options.{Options}
use Rattle.jsonc_text.specs.OptionsOf.{parse_options}
use Rattle.jsonc_tree.specs.OrderedTree.{ordered_tree}
use Rattle.jsonc_walk.specs.Located.{value_at}
use Rattle.jsonc_walk.specs.Faults.{ParseFault}
use Rattle.jsonc_walk.specs.Handed.{Source, source_of}
use Rattle.jsonc_walk.specs.Refusals.{RefusesText}
use Rattle.jsonc_walk.proofs.lemmas.Grammar.{located_document}
use Rattle.jsonc_walk.proofs.lemmas.Refusals.{err_of}
use Rattle.jsonc_walk.proofs.lemmas.Scans.{moved}
use Rattle.jsonc_build.specs.Making.{source_in, IsAt}
use Rattle.jsonc_build.proofs.Documents.{HasRead, has_read}
use Rattle.jsonc_build.proofs.Lines.{document_lines}
use Rattle.jsonc_build.proofs.Meanings.{document_prints, document_value}
use Rattle.jsonc_build.proofs.Shapes.{document_shaped}
use Rattle.jsonc_build.proofs.parse.parse_tree.Goals as goal

same_source : (s : Source) (o : Options) (b : List ℕ) (t : Source) → s.bytes ≡ b → s.options ≡ o → t ≡ record { bytes = b; options = o } → s ≡ t
same_source s o b t e f g = ap (λ x. record { bytes = x; options = s.options }) e ∙ ap (λ x. record { bytes = b; options = x }) f ∙ sym g

-- the place after the text
at_end : {A : Type 0} (old new : DocumentMaker A) (text : List ℕ) (o : Options) {i : ℕ} → source_in old ≡ record { bytes = text; options = o } → i ≡ length text → IsAt new i → IsAt new (length old.text.now)
at_end old new text o source e at = subst (IsAt new) (e ∙ ap length (sym (ap (λ s. s.bytes) source))) at

pub returns-in_err-read_document-clause-refused : goal.returns-in_err-read_document-clause-refused
returns-in_err-read_document-clause-refused g c =
    let start = c.of_places-context.ensures in
    let e = c.in_err-read_document.field-0.0 in
    err_of (RefusesText (parse_options c.args.options.now) c.args.text.now) e c.from_residual.result c.from_residual.ensures.1 (moved (λ p b. RefusesText p b e) start.options start.text c.in_err-read_document.ensures.refused)

pub returns-in_err-read_document-clause-error : goal.returns-in_err-read_document-clause-error
returns-in_err-read_document-clause-error g c =
    let start = c.of_places-context.ensures in
    let e = c.in_err-read_document.field-0.0 in
    err_of (ParseFault (parse_options c.args.options.now) c.args.text.now true) e c.from_residual.result c.from_residual.ensures.1 (moved (λ p b. ParseFault p b true e) start.options start.text c.in_err-read_document.ensures.error)

pub returns-in_err-read_document-clause-fault : goal.returns-in_err-read_document-clause-fault
returns-in_err-read_document-clause-fault g c =
    let e = c.in_err-read_document.field-0.0 in
    err_of (IsFault c.args.text.now) e c.from_residual.result c.from_residual.ensures.1 (subst (λ b. IsFault b e) c.of_places-context.ensures.text c.in_err-read_document.ensures.fault)

pub finish-requires : goal.finish-requires
finish-requires g c = subst (IsAt c.read_document.new.to) (sym c.in_ok-read_document.ensures.reached.place) c.in_ok-read_document.ensures.reached

pub returns-clause-laid : goal.returns-clause-laid
returns-clause-laid g c =
    let o : Options = parse_options c.args.options.now in
    let to = c.in-Ok.ensures in
    let start = c.of_places-context.ensures in
    let read = c.in_ok-read_document.ensures in
    let h : HasRead o c.args.text.now (ordered_tree c.finish.result.nodes 0) = has_read o c.args.text.now (source_of c.of_places-context.result) c.in-Ok.to c.read_document.new.to to.source (same_source (source_of c.of_places-context.result) o c.args.text.now (source_in c.in-Ok.to) start.text start.options to.source) to.reached
    (at_end c.in-Ok.to c.read_document.new.to c.args.text.now o to.source (read.end.1 ∙ ap length (read.kept.text ∙ start.text)) read.reached) c.in_ok-read_document.field-0 read.found read.none c.finish.result.nodes to.root to.one to.bare c.finish.result.tree c.finish.ensures in
    (h.value, h.located, h.laid)

pub returns-clause-printed : goal.returns-clause-printed
returns-clause-printed g c =
    let o : Options = parse_options c.args.options.now in
    let to = c.in-Ok.ensures in
    let start = c.of_places-context.ensures in
    let read = c.in_ok-read_document.ensures in
    let h : HasRead o c.args.text.now (ordered_tree c.finish.result.nodes 0) = has_read o c.args.text.now (source_of c.of_places-context.result) c.in-Ok.to c.read_document.new.to to.source (same_source (source_of c.of_places-context.result) o c.args.text.now (source_in c.in-Ok.to) start.text start.options to.source) to.reached
    (at_end c.in-Ok.to c.read_document.new.to c.args.text.now o to.source (read.end.1 ∙ ap length (read.kept.text ∙ start.text)) read.reached) c.in_ok-read_document.field-0 read.found read.none c.finish.result.nodes to.root to.one to.bare c.finish.result.tree c.finish.ensures in
    document_prints o c.args.text.now c.utf8.text h.value (ordered_tree c.finish.result.nodes 0) h.laid h.located

pub returns-clause-value : goal.returns-clause-value
returns-clause-value g c =
    let o : Options = parse_options c.args.options.now in
    let to = c.in-Ok.ensures in
    let start = c.of_places-context.ensures in
    let read = c.in_ok-read_document.ensures in
    let h : HasRead o c.args.text.now (ordered_tree c.finish.result.nodes 0) = has_read o c.args.text.now (source_of c.of_places-context.result) c.in-Ok.to c.read_document.new.to to.source (same_source (source_of c.of_places-context.result) o c.args.text.now (source_in c.in-Ok.to) start.text start.options to.source) to.reached
    (at_end c.in-Ok.to c.read_document.new.to c.args.text.now o to.source (read.end.1 ∙ ap length (read.kept.text ∙ start.text)) read.reached) c.in_ok-read_document.field-0 read.found read.none c.finish.result.nodes to.root to.one to.bare c.finish.result.tree c.finish.ensures in
    (option_map value_at h.value, located_document o c.args.text.now h.value h.located, h.fits, document_value o c.args.text.now c.utf8.text h.value (ordered_tree c.finish.result.nodes 0) h.laid h.located)

pub returns-clause-shaped : goal.returns-clause-shaped
returns-clause-shaped g c =
    let o : Options = parse_options c.args.options.now in
    let to = c.in-Ok.ensures in
    let start = c.of_places-context.ensures in
    let read = c.in_ok-read_document.ensures in
    let h : HasRead o c.args.text.now (ordered_tree c.finish.result.nodes 0) = has_read o c.args.text.now (source_of c.of_places-context.result) c.in-Ok.to c.read_document.new.to to.source (same_source (source_of c.of_places-context.result) o c.args.text.now (source_in c.in-Ok.to) start.text start.options to.source) to.reached
    (at_end c.in-Ok.to c.read_document.new.to c.args.text.now o to.source (read.end.1 ∙ ap length (read.kept.text ∙ start.text)) read.reached) c.in_ok-read_document.field-0 read.found read.none c.finish.result.nodes to.root to.one to.bare c.finish.result.tree c.finish.ensures in
    document_shaped o c.args.text.now c.utf8.text h.value (ordered_tree c.finish.result.nodes 0) h.laid h.located

pub returns-clause-lines : goal.returns-clause-lines
returns-clause-lines g c =
    let o : Options = parse_options c.args.options.now in
    let to = c.in-Ok.ensures in
    let start = c.of_places-context.ensures in
    let read = c.in_ok-read_document.ensures in
    let h : HasRead o c.args.text.now (ordered_tree c.finish.result.nodes 0) = has_read o c.args.text.now (source_of c.of_places-context.result) c.in-Ok.to c.read_document.new.to to.source (same_source (source_of c.of_places-context.result) o c.args.text.now (source_in c.in-Ok.to) start.text start.options to.source) to.reached
    (at_end c.in-Ok.to c.read_document.new.to c.args.text.now o to.source (read.end.1 ∙ ap length (read.kept.text ∙ start.text)) read.reached) c.in_ok-read_document.field-0 read.found read.none c.finish.result.nodes to.root to.one to.bare c.finish.result.tree c.finish.ensures in
    document_lines o c.args.text.now h.value (ordered_tree c.finish.result.nodes 0) h.laid h.located
