use Rattle.std.proofs.Common.{ℕ, Option, chars}
use Rattle.jsonc_tree.specs.Tree.{children_at}
use Rattle.jsonc_layout.specs.nodes.Names.{FirstNamed}
use Rattle.jsonc_layout.specs.nodes.Siblings.{AreThere}
use Rattle.jsonc_layout.proofs.lemmas.nodes.NodeNames.{AnyEscaped}
use Rattle.jsonc_layout.proofs.nodes.names.get.Given as goal

abbrev pub invariant-loop-child : goal.invariant-loop-child
invariant-loop-child g l =
    let ns = l.tree.nodes in
    record {
      in_tree : AreThere ns l.child-iterator;
      first : (found : Option ℕ) → FirstNamed ns (chars l.name) l.child-iterator found → FirstNamed ns (chars l.name) (children_at ns l.object) found;
      escaped : AnyEscaped ns l.child-iterator → AnyEscaped ns (children_at ns l.object);
    }
