use Rattle.jsonc_layout.proofs.lemmas.from_input.Extending.{extends_pushes}
use Rattle.jsonc_layout.proofs.from_input.lines.push_leaf.Goals as goal

pub returns-clause-added : goal.returns-clause-added
returns-clause-added g c = extends_pushes c.requires c.in_ok-push_child.ensures.pushes c.push_child.new.self.tree
