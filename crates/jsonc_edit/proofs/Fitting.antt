-- The layout that is read from a document fits its options.
use Rattle.std.proofs.Common.{◌≡◌, ◌≢◌, ℕ, List, Some, None, sym, subst, ◌∙◌}
use Rattle.std.proofs.lemmas.Bool.{cond_both}
use Rattle.jsonc_text.specs.Options.{Options}
use Rattle.jsonc_tree.specs.Tree.{Node, content_at, parent_at, IsTree, IsOver}
use Rattle.jsonc_tree.specs.OrderedTree.{ordered_tree}
use Rattle.jsonc_tree.proofs.Order.{over_step}
use Rattle.jsonc_sound.specs.Shape.{DocumentShaped}
use Rattle.jsonc_layout.specs.nodes.Kinds.{is_property}
use Rattle.jsonc_edit.specs.Reading.{layout_for, commas_told_by}
use Rattle.jsonc_edit.specs.Writing.{FitsLayout}
use Rattle.jsonc_edit.proofs.FittingCommas.{commas_fit}
use Rattle.jsonc_edit.proofs.FittingIndents.{indents_fit}

-- what has a parent is not the root
not_root : (ns : List Node) → IsTree ns → (n c : ℕ) → parent_at ns n ≡ Some c → n ≢ 0
not_root ns tree n c said e = let wrong : None ≡ Some c = sym tree.root_alone ∙ subst (λ m. parent_at ns m ≡ Some c) e said in cc

-- the layout for what replaces a node of the document
pub layout_fits : (o : Options) (ns : List Node) (c n : ℕ) → IsTree ns → DocumentShaped o (ordered_tree ns 0) → IsOver ns 0 n → parent_at ns n ≡ Some c → FitsLayout o (layout_for ns c n)
layout_fits o ns c n tree shaped over said =
    let outer : IsOver ns 0 c = over_step ns tree 0 n c over (not_root ns tree n c said) said in
    let indents = indents_fit ns tree o shaped c outer in
    let told : IsOver ns 0 (commas_told_by ns c n) = cond_both (is_property (content_at ns c)) n c (IsOver ns 0) (λ e. over) (λ e. outer) in
    record { current = indents.0; single = indents.1; commas = commas_fit ns tree o shaped (commas_told_by ns c n) told }
