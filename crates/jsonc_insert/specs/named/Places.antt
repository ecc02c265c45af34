-- The property that a path leads to.
use Rattle.std.specs.Prelude.{◌≡◌, ℕ, List, [], ◌∷◌, ◌++◌}
use Rattle.jsonc_tree.specs.Content.{object, property}
use Rattle.jsonc_tree.specs.Tree.{Node, content_at}
use Rattle.jsonc_edit.specs.Paths.{IsAt, IsElementOf}

-- the property at this place in an object; what it holds may be missing
pub record IsPropertyOf (ns : List Node) (c i r : ℕ) : Type 0 where
  pub of_object : content_at ns c ≡ object
  pub element : IsElementOf ns c i r
  pub is : content_at ns r ≡ property

-- the property that a path leads to: its front leads to an object, and its last step to a property of that
pub data IsPropertyAt (ns : List Node) : List ℕ → ℕ → Type 0 where
  a_property : (front : List ℕ) (c i : ℕ) {r : ℕ} → IsAt ns front c → IsPropertyOf ns c i r → IsPropertyAt ns (front ++ i ∷ []) r
