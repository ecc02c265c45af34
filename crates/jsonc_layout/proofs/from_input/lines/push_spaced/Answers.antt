use Rattle.std.proofs.Common.{ap}
use Rattle.jsonc_tree.specs.Stored.{content_of}
use Rattle.jsonc_layout.proofs.lemmas.from_input.Extending.{on_ok, extends_same, extends_then}
use Rattle.jsonc_layout.proofs.from_input.lines.push_spaced.Goals as goal

pub returns-clause-added : goal.returns-clause-added
returns-clause-added g c = on_ok c.push_blanks.result (λ added. extends_then (extends_same (ap content_of c.token.ensures) c.in_ok-push_leaf.ensures.added) added) c.push_blanks.ensures.added
