use Rattle.std.proofs.Common.{chars}
use Rattle.jsonc_tree.specs.Tree.{children_at}
use Rattle.jsonc_layout.specs.nodes.Siblings.{AreThere, IsThere}
use Rattle.jsonc_layout.proofs.lemmas.nodes.NodeNames.{AnyEscaped}
use Rattle.jsonc_cst.specs.Document.{nodes_of}
use Rattle.jsonc_parser.specs.patch.Lookups.{IsLookedUp}
use Rattle.jsonc_parser.specs.declared.patch.reference.Lookup.{Lookup}
use Rattle.jsonc_parser.proofs.lemmas.patch.Named.{IsLookedFurther}
use Rattle.jsonc_parser.proofs.patch.reference.look_up.Given as goal

abbrev pub invariant-loop-child : goal.invariant-loop-child
invariant-loop-child g l =
    let ns = nodes_of l.doc in
    record {
      in_tree : AreThere ns l.child-iterator;
      held : IsThere ns l.found;
      determined : (lookup : Lookup) → IsLookedFurther ns (chars l.name) l.found l.child-iterator lookup → IsLookedUp ns (chars l.name) (children_at ns l.object) lookup;
      escaped : AnyEscaped ns l.child-iterator → AnyEscaped ns (children_at ns l.object);
    }
