use Rattle.jsonc_build.specs.Laid.{string_leaf}
use Rattle.jsonc_build.proofs.Building.{leaf_added, ok_of}
use Rattle.jsonc_build.proofs.maker.DocumentMakerReceiverString.passed.Goals as goal

pub returns-clause-made : goal.returns-clause-made
returns-clause-made g c = ok_of c.leaf.result (λ put i. leaf_added c.args.self.now c.leaf.new.self _ _ put (string_leaf c.requires.stands.stands.spans c.in_ok-text.ensures)) c.leaf.ensures.put
