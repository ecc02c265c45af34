use Rattle.jsonc_cst.specs.declared.cst.node.CstNode.{CstNode}
use Rattle.jsonc_cst.specs.declared.cst.node.CstObjectProp.{CstObjectProp}
use Rattle.jsonc_cst.specs.sorting.Pins.{kept_headers}
use Rattle.std.proofs.Common.{◌≡◌, ℕ, List, [], Option, rules}
use Rattle.jsonc_cst.proofs.lemmas.sorting.UnderBlankLines.{none_under}
use Rattle.jsonc_program.proofs.EditObjects.{sorted_by_names}
use Rattle.jsonc_program.proofs.edit.sort.sort_plainly.Goals as goal

pub returns-in-Ok-clause-sorted : goal.returns-in-Ok-clause-sorted
returns-in-Ok-clause-sorted g c =
    sorted_by_names _ _ c.args.document.now c.by.new.doc c.args.object (λ (n : CstNode) (xs : List (Option CstObjectProp)) (pins : List (Option ℕ)). pins ≡ []) (λ n xs pins e. none_under c.args.document.now n pins e) c.sort_properties.result.container c.sort_properties.result.groups c.args.document.now.tree.tree c.sort_properties.ensures.container c.sort_properties.ensures.groups
    c.in-Ok.ensures.sorted (λ d p q r at hp hq post. search rules)
