use Rattle.jsonc_layout.proofs.lemmas.from_input.Rows.{no_comma}
use Rattle.jsonc_layout.proofs.from_input.lines.push_comma_if.Goals as goal

pub returns-then-not-wanted-clause-added : goal.returns-then-not-wanted-clause-added
returns-then-not-wanted-clause-added g c = no_comma c.args.wanted c.if-not-wanted.true c.requires
