use Rattle.std.proofs.Common.{codes, rules}
use Rattle.jsonc_parser.proofs.lemmas.patch.PatchReads.{no_kind, text_is}
use Rattle.jsonc_parser.proofs.patch.reading.kind_of.Goals as goal

pub returns-in-add-clause-some : goal.returns-in-add-clause-some
returns-in-add-clause-some c = text_is c.args.name.now (codes "add") c.in-add.is (search rules)

pub returns-in-remove-clause-some : goal.returns-in-remove-clause-some
returns-in-remove-clause-some c = text_is c.args.name.now (codes "remove") c.in-remove.is (search rules)

pub returns-in-replace-clause-some : goal.returns-in-replace-clause-some
returns-in-replace-clause-some c = text_is c.args.name.now (codes "replace") c.in-replace.is (search rules)

pub returns-in-move-clause-some : goal.returns-in-move-clause-some
returns-in-move-clause-some c = text_is c.args.name.now (codes "move") c.in-move.is (search rules)

pub returns-in-copy-clause-some : goal.returns-in-copy-clause-some
returns-in-copy-clause-some c = text_is c.args.name.now (codes "copy") c.in-copy.is (search rules)

pub returns-in-test-clause-some : goal.returns-in-test-clause-some
returns-in-test-clause-some c = text_is c.args.name.now (codes "test") c.in-test.is (search rules)

pub returns-in_default-clause-none : goal.returns-in_default-clause-none
returns-in_default-clause-none c =
    no_kind c.args.name.now c.utf8.name c.in_default.not-add c.in_default.not-remove c.in_default.not-replace c.in_default.not-move c.in_default.not-copy c.in_default.not-test
