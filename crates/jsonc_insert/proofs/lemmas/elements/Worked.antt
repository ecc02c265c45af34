-- The worked rows.
use Rattle.std.proofs.Common.{[], ◌∷◌, refl, codes}
use Rattle.jsonc_text.specs.Options.{Options}
use Rattle.jsonc_tree.specs.Content as content
use Rattle.jsonc_tree.specs.Content.{whitespace}
use Rattle.jsonc_tree.specs.OrderedTree.{Top, none}
use Rattle.jsonc_tree.specs.declared.node.CstNewlineKind.TheVariants.{LineFeed}
use Rattle.jsonc_sound.specs.Shape.{token_then}
use Rattle.jsonc_insert.specs.elements.Coming.{none_comes, one_comes, comes, nothing, a_space, a_line, elements_follow, none_follow, comma_last, behind_bracket, behind_comma, behind_comments}
use Rattle.jsonc_insert.specs.elements.Worked.{blank_then, line_then, number_then, ComesBehind, ComesFirst, ComesOnALine}
use Rattle.jsonc_insert.proofs.lemmas.elements.KeptTrees.{two_spaces}

one : Top
one = record { content = content.number (codes "1"); below = none }

pub comes_behind : (o : Options) → ComesBehind o
unfolding one
comes_behind o = comes (number_then (codes "1") none) none (number_then (codes "1") (token_then 0x2C none)) none (whitespace (0x20 ∷ []) ∷ []) (one_comes none one [] refl tt) refl refl a_space (none_follow [] nothing refl)
    (behind_comma (number_then (codes "1") none) refl refl) (λ e. cc)

pub comes_first : (o : Options) → ComesFirst o
comes_first o =
    comes none (number_then (codes "1") none) none (token_then 0x2C (blank_then (codes " ") (number_then (codes "1") none))) [] none_comes refl refl nothing
    (elements_follow (whitespace (0x20 ∷ []) ∷ []) a_space (λ e. cc)) (behind_bracket refl) (λ e. cc)

pub comes_on_a_line : ComesOnALine
comes_on_a_line =
    comes (number_then (codes "1") (token_then 0x2C none)) (line_then none) (number_then (codes "1") (token_then 0x2C none)) (token_then 0x2C (line_then none)) (content.newline LineFeed ∷ whitespace (0x20 ∷ 0x20 ∷ []) ∷ [])
    none_comes refl refl (a_line two_spaces) (comma_last refl (a_line two_spaces) refl)
    (behind_comments (a_line two_spaces) (number_then (codes "1") none) none [] [] LineFeed tt tt tt refl refl) (λ e. cc)
