use Rattle.jsonc_parser.specs.patch.Patches.{operations_in}
use Rattle.jsonc_engine.proofs.Patches.{applied, told_of}
use Rattle.jsonc_engine.proofs.patching.patched.Goals as goal

pub returns-in-Ok-clause-made : goal.returns-in-Ok-clause-made
returns-in-Ok-clause-made g c = λ o text read sound small.
    applied o c.args.document sound text (operations_in c.args.patch.now) read small c.args.most c.apply_within.new.doc c.in-Ok.ensures.patched c.in-Ok.ensures.within

pub returns-in-Err-clause-refused : goal.returns-in-Err-clause-refused
returns-in-Err-clause-refused g c = λ o text read sound.
    told_of o c.args.document sound text (operations_in c.args.patch.now) read c.args.most c.in-Err.fault c.fault_of.result c.in-Err.ensures.stops c.fault_of.ensures
