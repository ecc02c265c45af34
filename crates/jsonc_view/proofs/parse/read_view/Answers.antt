use Rattle.std.proofs.Common.{chars, false, IfOk, IfErr}
use Rattle.jsonc_text.specs.Faults.{IsFault}
use Rattle.jsonc_walk.specs.Faults.{ParseFault}
use Rattle.jsonc_walk.specs.Handed.{source_of}
use Rattle.jsonc_walk.specs.Refusals.{Refuses}
use Rattle.jsonc_walk.proofs.lemmas.Refusals.{ok_of}
use Rattle.jsonc_walk.proofs.lemmas.Scans.{moved}
use Rattle.jsonc_view.specs.Reads.{IsViewOf}
use Rattle.jsonc_view.proofs.Making.{accepted_of, refused_of, root_made}
use Rattle.jsonc_view.proofs.parse.read_view.Goals as goal

pub viewed-requires : goal.viewed-requires
viewed-requires g c = ok_of c.read_document-read.result (λ f h. let made = root_made c.new-to.result c.read_document-read.new.to (source_of c.new-context.result) f h in (made.value, made.shown)) c.read_document-read.ensures.found

pub returns-clause-accepted : goal.returns-clause-accepted
returns-clause-accepted g c =
    let start = c.new-context.ensures in
    moved (λ o b. IfOk c.viewed.result (IsViewOf o (chars b))) start.options start.text
    (accepted_of c.read_document-read.new.to (source_of c.new-context.result) c.read_document-read.result c.viewed.result c.viewed.ensures
    (ok_of c.read_document-read.result (λ f h. root_made c.new-to.result c.read_document-read.new.to (source_of c.new-context.result) f h) c.read_document-read.ensures.found))

pub returns-clause-refused : goal.returns-clause-refused
returns-clause-refused g c =
    let start = c.new-context.ensures in
    moved (λ o b. IfErr c.viewed.result (Refuses o false b)) start.options start.text (refused_of c.read_document-read.new.to.rows _ c.read_document-read.result c.viewed.result c.viewed.ensures c.read_document-read.ensures.refused)

pub returns-clause-fault : goal.returns-clause-fault
returns-clause-fault g c =
    let start = c.new-context.ensures in
    moved (λ o b. IfErr c.viewed.result (IsFault b)) start.options start.text (refused_of c.read_document-read.new.to.rows _ c.read_document-read.result c.viewed.result c.viewed.ensures c.read_document-read.ensures.fault)

pub returns-clause-error : goal.returns-clause-error
returns-clause-error g c =
    let start = c.new-context.ensures in
    moved (λ o b. IfErr c.viewed.result (ParseFault o b false)) start.options start.text (refused_of c.read_document-read.new.to.rows _ c.read_document-read.result c.viewed.result c.viewed.ensures c.read_document-read.ensures.error)
