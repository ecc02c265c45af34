-- Which values take memory where they are taken of a node.
use Rattle.jsonc_tree.specs.Content.{Content, array, number, object, property, root, string}
use Rattle.jsonc_layout.specs.nodes.Names.{HoldsString}

-- memory may be wanted to take the value of a node: it is a string that decodes, a number, or a node that may have children
abbrev pub MayTakeMemory : Content → Type 0
MayTakeMemory (string s) = HoldsString s
MayTakeMemory (number s) = Unit {0}
MayTakeMemory root = Unit {0}
MayTakeMemory object = Unit {0}
MayTakeMemory array = Unit {0}
MayTakeMemory property = Unit {0}
MayTakeMemory _ = ⊥
