use Rattle.jsonc_parser.proofs.lemmas.paths.AtPaths.{finds_first, property_holds, root_holds}
use Rattle.jsonc_parser.proofs.paths.laws.what_is_read_stands_at_paths.Goals as goal

pub returns-clause-root : goal.returns-clause-root
returns-clause-root c = root_holds

pub returns-clause-property : goal.returns-clause-property
returns-clause-property c = property_holds

pub returns-clause-named : goal.returns-clause-named
returns-clause-named c = finds_first
