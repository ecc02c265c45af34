use Rattle.std.proofs.Common.{◌∙◌, sym, ap}
use Rattle.std.proofs.lemmas.Result.{IfOk-weaker}
use Rattle.jsonc_tree.specs.Stored.{content_of}
use Rattle.jsonc_cst.proofs.RepeatedNames.{property_lent}
use Rattle.jsonc_cst.proofs.cst.repeats.name_lent.Goals as goal

pub returns-in-Property : goal.returns-in-Property
returns-in-Property g c =
    IfOk-weaker c.name_read.result _ _ (property_lent c.args.tree.now.nodes c.args.node (sym c.kind.ensures ∙ ap content_of c.in-Property.is)) c.name_read.ensures.read
