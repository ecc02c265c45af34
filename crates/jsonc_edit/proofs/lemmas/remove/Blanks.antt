-- Rows in which blanks alone stand.
use Rattle.std.proofs.Common.{◌≡◌, ℕ, Bool, true, false, ◌&&◌, ◌||◌, List, ◌∷◌, Option, Some, None, ap, ◌∙◌}
use Rattle.jsonc_tree.specs.Tree.{Node}
use Rattle.jsonc_edit.specs.remove.Leaving.{comes_to}
use Rattle.jsonc_layout.specs.nodes.Kinds.{is_blank_at}
use Rattle.jsonc_edit.specs.remove.Removed.{is_node}

module _ (ns : List Node) where
  -- a step along a row
  module _ (m : ℕ) (s rest : List ℕ) (is : s ≡ m ∷ rest) where
    pub comes_here : (last : Option ℕ) → is_node last m ≡ true → comes_to ns last s ≡ true
    comes_here None e = let wrong : false ≡ true = e in cc
    comes_here (Some n) e = ap (comes_to ns (Some n)) is ∙ ap (λ b. b || (is_blank_at ns m && comes_to ns (Some n) rest)) e

    -- by whether the node is a blank
    comes_by : (last : Option ℕ) (blank : Bool) → is_node last m ≡ false → is_blank_at ns m ≡ blank → comes_to ns last s ≡ blank && comes_to ns last rest
    comes_by None blank e h = ap (comes_to ns None) is ∙ ap (λ b. b && comes_to ns None rest) h
    comes_by (Some n) blank e h =
        ap (comes_to ns (Some n)) is ∙ ap (λ b. b || (is_blank_at ns m && comes_to ns (Some n) rest)) e ∙ ap (λ b. b && comes_to ns (Some n) rest) h

    pub comes_stops : (last : Option ℕ) → is_node last m ≡ false → is_blank_at ns m ≡ false → comes_to ns last s ≡ false
    comes_stops last e h = comes_by last false e h

    pub comes_on : (last : Option ℕ) → is_node last m ≡ false → is_blank_at ns m ≡ true → comes_to ns last s ≡ comes_to ns last rest
    comes_on last e h = comes_by last true e h
