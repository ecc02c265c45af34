-- The nodes between two elements, read one after another.
use Rattle.std.proofs.Common.{◌≡◌, ◌∙◌, refl, ap, arith, ℕ, suc, ◌+◌, Bool, true, false, not, List, [], ◌∷◌}
use Rattle.std.specs.List.{prefix_len, take_while}
use Rattle.jsonc_tree.specs.Tree.{Node}
use Rattle.jsonc_layout.specs.nodes.Kinds.{is_element_at}

module _ (ns : List Node) where
  abbrev pub no_element : ℕ → Bool
  no_element m = not (is_element_at ns m)

  pub gap_ends : (row rest : List ℕ) (n : ℕ) → row ≡ n ∷ rest → is_element_at ns n ≡ true → take_while no_element row ≡ []
  gap_ends row rest n e f = ap (take_while no_element) e ∙ (let here : take_while no_element (n ∷ rest) ≡ [] = rw f refl in here)

  pub gap_more : (row rest : List ℕ) (n : ℕ) → row ≡ n ∷ rest → is_element_at ns n ≡ false → take_while no_element row ≡ n ∷ take_while no_element rest
  gap_more row rest n e f =
      let one : 1 + prefix_len no_element rest ≡ suc (prefix_len no_element rest) = omega arith in
      ap (take_while no_element) e ∙ (let here : take_while no_element (n ∷ rest) ≡ n ∷ take_while no_element rest = rw (f, one) refl in here)
