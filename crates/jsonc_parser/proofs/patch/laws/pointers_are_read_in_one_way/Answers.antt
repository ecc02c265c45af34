use Rattle.jsonc_parser.proofs.lemmas.patch.Texts.{no_slash, no_tilde, not_both, one_tilde, pointer_once}
use Rattle.jsonc_parser.proofs.patch.laws.pointers_are_read_in_one_way.Goals as goal

pub returns-clause-tokens : goal.returns-clause-tokens
returns-clause-tokens c = pointer_once

pub returns-clause-slash : goal.returns-clause-slash
returns-clause-slash c = no_slash

pub returns-clause-tilde : goal.returns-clause-tilde
returns-clause-tilde c = no_tilde

pub returns-clause-either : goal.returns-clause-either
returns-clause-either c = not_both

pub returns-clause-first : goal.returns-clause-first
returns-clause-first c = one_tilde
