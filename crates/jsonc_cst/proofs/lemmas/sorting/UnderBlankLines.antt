-- The rules of headers but that of a caller's pin comments only where a blank line stands before an element.
use Rattle.std.proofs.Common.{◌≡◌, ℕ, Bool, true, false, List, [], map, Option, sym, subst}
use Rattle.jsonc_tree.specs.Tree.{Node, content_at}
use Rattle.jsonc_sort.specs.Above.{PinUnderBlankLines, above, leads_at}
use Rattle.jsonc_sort.specs.Leads.{comments}
use Rattle.jsonc_sort.proofs.Pins.{all_pinned, by_blank_line, by_header, none_pinned}
use Rattle.jsonc_cst.specs.declared.cst.CstRootNode.{CstRootNode}
use Rattle.jsonc_cst.specs.declared.cst.node.CstNode.{CstNode}
use Rattle.jsonc_cst.specs.Document.{nodes_of}
use Rattle.jsonc_cst.specs.Nodes.{number_of}
use Rattle.jsonc_cst.specs.sorting.Pins.{blank_line_pin, header_pin, kept_headers, leads_of, pins_where}

module _ {A : Type 0} (d : CstRootNode A) (node : CstNode) where
  abbrev ns : List Node
  ns = nodes_of d

  abbrev pub Under : List (Option ℕ) → Type 0
  Under pins = PinUnderBlankLines (content_at ns) pins (leads_at ns (number_of node))

  -- no rule
  pub none_under : (pins : List (Option ℕ)) → pins ≡ [] → Under pins
  none_under pins e = subst Under (sym e) (none_pinned (content_at ns) (leads_at ns (number_of node)))

  -- all comments above an element before which a blank line is, where they are to be pinned
  lines_under : Under (map blank_line_pin (leads_of d node))
  lines_under = all_pinned (content_at ns) blank_line_pin (λ lead. by_blank_line (content_at ns) (comments (content_at ns) (above (content_at ns) lead)) lead) (leads_at ns (number_of node))

  pub where_under : (pin : Bool) → Under (pins_where d node pin)
  where_under true = lines_under
  where_under false = none_pinned (content_at ns) (leads_at ns (number_of node))

  -- those above the last blank line
  pub kept_under : (pins : List (Option ℕ)) → pins ≡ kept_headers d node → Under pins
  kept_under pins e = subst Under (sym e) (all_pinned (content_at ns) header_pin (by_header (content_at ns)) (leads_at ns (number_of node)))
