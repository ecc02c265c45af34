use Rattle.jsonc_tolerant.proofs.Inserted.{decides_inserted, not_inserted}
use Rattle.jsonc_tolerant.proofs.mended.MendedDocument.is_inserted.Goals as goal

pub returns-in-Some : goal.returns-in-Some
returns-in-Some g c =
    let r = c.args.self.now in
    λ o bytes u h. decides_inserted r c.args.node c.in-Some.range.start c.in-Some.range.end c.is_written.result c.in-Some.ensures.range (c.is_written.ensures o bytes u h.mends)

pub returns-in-None : goal.returns-in-None
returns-in-None g c =
    λ o bytes u h. not_inserted o bytes c.args.self.now c.args.node h c.in-None.ensures.none
