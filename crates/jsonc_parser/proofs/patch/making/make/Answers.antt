use Rattle.std.proofs.Common.{refl}
use Rattle.jsonc_layout.specs.input.Views.{plain}
use Rattle.jsonc_cst.specs.Document.{nodes_of}
use Rattle.jsonc_parser.specs.patch.Pointer.{tokens_of}
use Rattle.jsonc_parser.specs.declared.patch.operation.Operation.TheVariants.{Add, Remove, Replace, Move, Copy, Test}
use Rattle.jsonc_parser.proofs.lemmas.patch.Chains.{as_asked, fails_asked, kept_anyhow, moves_anyhow, tested, unchanged_kept}
use Rattle.jsonc_parser.proofs.lemmas.patch.Contents.{contents_unchanged}
use Rattle.jsonc_parser.proofs.patch.making.make.Goals as goal

pub returns-in-Add-clause-made : goal.returns-in-Add-clause-made
returns-in-Add-clause-made g c = as_asked c.args.doc.now c.add.new.doc c.add.result c.args.operation.now (Add c.in-Add.path c.in-Add.value) c.in-Add.is c.add.ensures.made

pub returns-in-Add-clause-kept : goal.returns-in-Add-clause-kept
returns-in-Add-clause-kept g c = kept_anyhow c.args.doc.now c.add.new.doc c.add.result c.args.operation.now c.add.ensures.kept

pub returns-in-Add-clause-fails : goal.returns-in-Add-clause-fails
returns-in-Add-clause-fails g c = fails_asked c.args.doc.now c.add.new.doc c.add.result c.args.operation.now (Add c.in-Add.path c.in-Add.value) c.in-Add.is c.add.ensures.fails

pub returns-in-Remove-clause-made : goal.returns-in-Remove-clause-made
returns-in-Remove-clause-made g c = as_asked c.args.doc.now c.remove.new.doc c.remove.result c.args.operation.now (Remove c.in-Remove.path) c.in-Remove.is c.remove.ensures.made

pub returns-in-Remove-clause-kept : goal.returns-in-Remove-clause-kept
returns-in-Remove-clause-kept g c = kept_anyhow c.args.doc.now c.remove.new.doc c.remove.result c.args.operation.now c.remove.ensures.kept

pub returns-in-Remove-clause-fails : goal.returns-in-Remove-clause-fails
returns-in-Remove-clause-fails g c = fails_asked c.args.doc.now c.remove.new.doc c.remove.result c.args.operation.now (Remove c.in-Remove.path) c.in-Remove.is c.remove.ensures.fails

pub returns-in-Replace-clause-made : goal.returns-in-Replace-clause-made
returns-in-Replace-clause-made g c = as_asked c.args.doc.now c.replace.new.doc c.replace.result c.args.operation.now (Replace c.in-Replace.path c.in-Replace.value) c.in-Replace.is c.replace.ensures.made

pub returns-in-Replace-clause-kept : goal.returns-in-Replace-clause-kept
returns-in-Replace-clause-kept g c = kept_anyhow c.args.doc.now c.replace.new.doc c.replace.result c.args.operation.now c.replace.ensures.kept

pub returns-in-Replace-clause-fails : goal.returns-in-Replace-clause-fails
returns-in-Replace-clause-fails g c = fails_asked c.args.doc.now c.replace.new.doc c.replace.result c.args.operation.now (Replace c.in-Replace.path c.in-Replace.value) c.in-Replace.is c.replace.ensures.fails

pub returns-in-Move-clause-made : goal.returns-in-Move-clause-made
returns-in-Move-clause-made g c = as_asked c.args.doc.now c.move_value.new.doc c.move_value.result c.args.operation.now (Move c.in-Move.from c.in-Move.path) c.in-Move.is c.move_value.ensures.made

pub returns-in-Move-clause-kept : goal.returns-in-Move-clause-kept
returns-in-Move-clause-kept g c = moves_anyhow c.args.doc.now c.move_value.new.doc c.move_value.result c.args.operation.now c.in-Move.from c.in-Move.path c.in-Move.is

pub returns-in-Move-clause-fails : goal.returns-in-Move-clause-fails
returns-in-Move-clause-fails g c = fails_asked c.args.doc.now c.move_value.new.doc c.move_value.result c.args.operation.now (Move c.in-Move.from c.in-Move.path) c.in-Move.is c.move_value.ensures.fails

pub returns-in-Copy-clause-made : goal.returns-in-Copy-clause-made
returns-in-Copy-clause-made g c = as_asked c.args.doc.now c.copy_value.new.doc c.copy_value.result c.args.operation.now (Copy c.in-Copy.from c.in-Copy.path) c.in-Copy.is c.copy_value.ensures.made

pub returns-in-Copy-clause-kept : goal.returns-in-Copy-clause-kept
returns-in-Copy-clause-kept g c = kept_anyhow c.args.doc.now c.copy_value.new.doc c.copy_value.result c.args.operation.now c.copy_value.ensures.kept

pub returns-in-Copy-clause-fails : goal.returns-in-Copy-clause-fails
returns-in-Copy-clause-fails g c = fails_asked c.args.doc.now c.copy_value.new.doc c.copy_value.result c.args.operation.now (Copy c.in-Copy.from c.in-Copy.path) c.in-Copy.is c.copy_value.ensures.fails

pub returns-in-Test-clause-made : goal.returns-in-Test-clause-made
returns-in-Test-clause-made g c =
    let doc = c.args.doc.now in
    let v = c.in-Test.value in
    as_asked doc doc c.test.result c.args.operation.now (Test c.in-Test.path v) c.in-Test.is (tested doc doc c.test.result (tokens_of c.in-Test.path) (plain v) (λ o. Unit {0}) refl c.test.ensures.tests)

pub returns-in-Test-clause-kept : goal.returns-in-Test-clause-kept
returns-in-Test-clause-kept g c = unchanged_kept c.args.doc.now c.test.result c.args.operation.now

pub returns-in-Test-clause-fails : goal.returns-in-Test-clause-fails
returns-in-Test-clause-fails g c = fails_asked c.args.doc.now c.args.doc.now c.test.result c.args.operation.now (Test c.in-Test.path c.in-Test.value) c.in-Test.is c.test.ensures.fails

pub returns-in-Test-clause-contents : goal.returns-in-Test-clause-contents
returns-in-Test-clause-contents g c = contents_unchanged (nodes_of c.args.doc.now) c.test.result
