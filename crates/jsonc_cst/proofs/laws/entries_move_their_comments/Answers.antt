use Rattle.jsonc_cst.specs.Nodes.{number_of}
use Rattle.jsonc_cst.proofs.lemmas.comments.Entries.{entries_kept}
use Rattle.jsonc_cst.proofs.laws.entries_move_their_comments.Goals as goal

pub returns : goal.returns
returns g c = λ d node array closed. entries_kept d.tree.nodes d.tree.tree (number_of node) array closed
