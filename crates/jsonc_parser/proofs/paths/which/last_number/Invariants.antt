use Rattle.std.proofs.Common.{chars, Option, ℕ}
use Rattle.jsonc_tree.specs.Tree.{children_at}
use Rattle.jsonc_layout.specs.nodes.Siblings.{AreThere, IsThere}
use Rattle.jsonc_layout.proofs.lemmas.nodes.NodeNames.{AnyEscaped}
use Rattle.jsonc_cst.specs.Document.{nodes_of}
use Rattle.jsonc_parser.specs.paths.Which.{LastNamed}
use Rattle.jsonc_parser.proofs.lemmas.paths.LastNames.{LastFrom}
use Rattle.jsonc_parser.proofs.paths.which.last_number.Given as goal

abbrev pub invariant-loop-child : goal.invariant-loop-child
invariant-loop-child g l =
    let ns = nodes_of l.doc in
    record {
      in_tree : AreThere ns l.child-iterator;
      held : IsThere ns l.found;
      determined : (last : Option ℕ) → LastFrom ns (chars l.name) l.found l.child-iterator last → LastNamed ns (chars l.name) (children_at ns l.object) last;
      escaped : AnyEscaped ns l.child-iterator → AnyEscaped ns (children_at ns l.object);
    }
