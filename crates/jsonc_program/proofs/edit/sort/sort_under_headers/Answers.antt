use Rattle.jsonc_cst.specs.declared.cst.node.CstNode.{CstNode}
use Rattle.jsonc_cst.specs.declared.cst.node.CstObjectProp.{CstObjectProp}
use Rattle.jsonc_cst.specs.sorting.Pins.{kept_headers}
use Rattle.std.proofs.Common.{◌≡◌, ℕ, List, [], Option, rules, ◌∙◌}
use Rattle.jsonc_cst.proofs.lemmas.sorting.UnderBlankLines.{kept_under}
use Rattle.jsonc_program.proofs.EditObjects.{sorted_by_names}
use Rattle.jsonc_program.proofs.edit.sort.sort_under_headers.Goals as goal

pub returns-in-Ok-clause-sorted : goal.returns-in-Ok-clause-sorted
returns-in-Ok-clause-sorted g c =
    sorted_by_names _ _ c.args.document.now c.by.new.doc c.args.object (λ (n : CstNode) (xs : List (Option CstObjectProp)) (pins : List (Option ℕ)). pins ≡ kept_headers c.args.document.now n) (λ n xs pins e. kept_under c.args.document.now n pins e) c.keep_headers.result.container c.keep_headers.result.groups c.args.document.now.tree.tree (c.keep_headers.ensures.container ∙ c.sort_properties.ensures.container)
    (c.keep_headers.ensures.groups ∙ c.sort_properties.ensures.groups) c.in-Ok.ensures.sorted (λ d p q r at hp hq post. search rules)
