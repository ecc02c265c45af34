-- What a sort reads of an array or object: the nodes that its closures are asked of, and the groups.
use Rattle.std.specs.Prelude.{ℕ, Bool, List, [], map, Option, Some, None, if◌then◌else◌}
use Rattle.jsonc_sort.specs.Above.{leads_read}
use Rattle.jsonc_sort.specs.declared.above.LeadRead.{LeadRead}
use Rattle.jsonc_sort.specs.ordering.Groups.{group_starts}
use Rattle.jsonc_cst.specs.declared.cst.CstRootNode.{CstRootNode}
use Rattle.jsonc_cst.specs.declared.cst.node.CstNode.{CstNode}
use Rattle.jsonc_cst.specs.declared.cst.node.CstObjectProp.{CstObjectProp}
use Rattle.jsonc_cst.specs.declared.cst.node.CstContainerNode.TheVariants.{ObjectProp}
use Rattle.jsonc_cst.specs.declared.cst.node.CstNode.TheVariants.{Container}
use Rattle.jsonc_cst.specs.Document.{nodes_of}
use Rattle.jsonc_cst.specs.Nodes.{number_of}
use Rattle.jsonc_cst.specs.Readings.{elements_of}

-- the property, if the node is one
abbrev pub property_if : CstNode → Option CstObjectProp
property_if (Container (ObjectProp x)) = Some x
property_if _ = None

-- a blank line is before the element
abbrev pub is_separated : LeadRead → Bool
is_separated lead = lead.blank_line

module _ {A : Type 0} where
  -- the elements of an array
  abbrev pub elements_asked : CstRootNode A → CstNode → List (Option CstNode)
  elements_asked d node = map Some (elements_of d node)

  -- the properties of an object, where nothing else is in it; of what else is, nothing is asked
  abbrev pub properties_asked : CstRootNode A → CstNode → List (Option CstObjectProp)
  properties_asked d node = map property_if (elements_of d node)

  -- for each element the place at which its group begins, where blank lines begin groups; else all are one group
  abbrev pub starts_of : CstRootNode A → CstNode → Bool → List ℕ
  starts_of d node groups = if groups then group_starts (map is_separated (leads_read (nodes_of d) (number_of node))) else []
