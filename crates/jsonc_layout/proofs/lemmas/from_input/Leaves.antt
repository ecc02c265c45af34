-- Nodes that are answered alone.
use Rattle.std.proofs.Common.{◌≡◌, ℕ, List, length, Result, Ok, Err, IfOk, OnOk, sym, ap, subst, encode_utf8_all}
use Rattle.jsonc_text.specs.Plain.{Plain}
use Rattle.jsonc_tree.specs.Content.{Content, string, number}
use Rattle.jsonc_tree.specs.Changes.{Adds}
use Rattle.jsonc_tree.specs.Tree.{Node, IsTree}
use Rattle.jsonc_tree.proofs.Builder.{Builds-adds}
use Rattle.jsonc_text.specs.Spelling.{spelled}
use Rattle.jsonc_layout.specs.from_input.Layout.{Layout}
use Rattle.jsonc_layout.specs.from_input.Extending.{BuildsNode}
use Rattle.jsonc_layout.specs.from_input.Laid.{leaf, string_leaf, number_leaf, laid}

module _ {E : Type 0} (a b : List Node) where
  -- a leaf of this content, or another that is the same
  pub leaf_built : (content other : Content) (r : Result ℕ E) → content ≡ other → IsTree b → IfOk r (λ n. n ≡ length a) → OnOk r (Adds a b content) → IfOk r (λ n. BuildsNode a b n (leaf other))
  leaf_built content other (Ok n) e tree first added =
      subst (λ m. BuildsNode a b m (leaf other)) (sym first) (Builds-adds a b other tree (subst (Adds a b) e added))
  leaf_built content other (Err x) e tree first added = tt

  pub string_built : (s v : List ℕ) (r : Result ℕ E) → s ≡ encode_utf8_all (spelled v) → IsTree b → IfOk r (λ n. n ≡ length a) → OnOk r (Adds a b (string s)) → IfOk r (λ n. BuildsNode a b n (leaf (string_leaf v)))
  string_built s v r e tree first added = leaf_built (string s) (string_leaf v) r (ap string e) tree first added

  pub number_built : (s v : List ℕ) (r : Result ℕ E) → s ≡ encode_utf8_all v → IsTree b → IfOk r (λ n. n ≡ length a) → OnOk r (Adds a b (number s)) → IfOk r (λ n. BuildsNode a b n (leaf (number_leaf v)))
  number_built s v r e tree first added = leaf_built (number s) (number_leaf v) r (ap number e) tree first added

  -- the value of a node is said otherwise
  pub built_as : (layout : Layout) {v w : Plain} (r : Result ℕ E) → v ≡ w → IfOk r (λ n. BuildsNode a b n (laid layout v)) → IfOk r (λ n. BuildsNode a b n (laid layout w))
  built_as layout r e built = subst (λ u. IfOk r (λ n. BuildsNode a b n (laid layout u))) e built
