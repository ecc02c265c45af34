-- How many bytes may be added to a document before its text can have more than are allowed.
use Rattle.std.specs.Prelude.{◌≡◌, ◌<◌, ◌≤◌, ◌+◌, ℕ, zero, suc, List, length, Option, IfSome}
use Rattle.jsonc_tree.specs.Order.{text_at}
use Rattle.jsonc_tree.specs.Tree.{Node, content_at}

-- each node that was there is what it was; there may be new ones
pub record KeepsContents (old new : List Node) : Type 0 where
  pub len : length old ≤ length new
  pub content : (n : ℕ) → n < length old → content_at new n ≡ content_at old n

-- how many bytes the first nodes, so many, print themselves, those that were taken out too
abbrev pub bytes_of_first : ℕ → List Node → ℕ
bytes_of_first zero ns = 0
bytes_of_first (suc n) ns = bytes_of_first n ns + length (text_at ns n)

-- how many all nodes print themselves
abbrev pub bytes_of_all : List Node → ℕ
bytes_of_all ns = bytes_of_first (length ns) ns

-- if it is known how many bytes may be added, those of all nodes and these are as many as are allowed
abbrev pub HasRoom : ℕ → List Node → Option ℕ → Type 0
HasRoom bytes ns room = IfSome room (λ left. bytes_of_all ns + left ≡ bytes)
