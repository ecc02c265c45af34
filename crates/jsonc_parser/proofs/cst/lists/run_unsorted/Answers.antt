use Rattle.jsonc_parser.proofs.Lists.{unsorted_err, unsorted_ok}
use Rattle.jsonc_parser.proofs.cst.lists.run_unsorted.Goals as goal

pub returns-clause-made : goal.returns-clause-made
returns-clause-made g c = unsorted_ok _ _ _ c.args.doc.now c.make_all.new.doc c.deref.result.now c.args.edits.items c.make_all.result c.deref.ensures.value c.make_all.ensures.made

pub returns-clause-stopped : goal.returns-clause-stopped
returns-clause-stopped g c = unsorted_err _ _ _ c.args.doc.now c.make_all.new.doc c.deref.result.now c.args.edits.items c.make_all.result c.deref.ensures.value c.make_all.ensures.stopped
