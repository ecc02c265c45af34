use Rattle.jsonc_layout.specs.input.Views.{plain}
use Rattle.jsonc_layout.specs.nodes.Properties.{value_at}
use Rattle.jsonc_run.specs.Edits.{set_root}
use Rattle.jsonc_cst.specs.Document.{nodes_of}
use Rattle.jsonc_parser.proofs.lemmas.patch.Contents.{root_contents}
use Rattle.jsonc_parser.proofs.lemmas.patch.Edited.{kept_there, whole_so}
use Rattle.jsonc_parser.proofs.lemmas.patch.Failing.{unset}
use Rattle.jsonc_parser.proofs.patch.making.add_whole.Goals as goal

pub returns-in-Ok-clause-made : goal.returns-in-Ok-clause-made
returns-in-Ok-clause-made g c = whole_so c.args.doc.now c.set_root_there.new.self c.args.doc.now.tree.tree c.set_root_there.new.self.tree.tree c.args.value.now c.in-Ok.ensures.set

pub returns-in-Ok-clause-contents : goal.returns-in-Ok-clause-contents
returns-in-Ok-clause-contents g c = root_contents _ _ (plain c.args.value.now) (value_at (nodes_of c.args.doc.now) 0) c.in-Ok.ensures.set.made

pub returns-in-Err-clause-kept : goal.returns-in-Err-clause-kept
returns-in-Err-clause-kept g c = kept_there _ _ 0 (set_root (plain c.args.value.now)) _ c.in-Err.ensures.set

pub returns-in-Err-clause-fails : goal.returns-in-Err-clause-fails
returns-in-Err-clause-fails g c = unset c.args.doc.now c.args.doc.now.tree.tree (plain c.args.value.now) c.in-Err.error c.in-Err.ensures.error c.in-Err.ensures.set.error
