-- What the shape of a document tells of each node of it.
use Rattle.std.proofs.Common.{◌≡◌, ℕ, zero, suc, ◌<◌, List, All, length, slice_index, Some, sym, subst, arith}
use Rattle.std.proofs.lemmas.List.{get_or_default}
use Rattle.jsonc_text.specs.Options.{Options}
use Rattle.jsonc_tree.specs.Content.{Content}
use Rattle.jsonc_tree.specs.Tree.{Node, content_at, parent_at, children_at, place_at, IsTree, IsOver}
use Rattle.jsonc_tree.specs.OrderedTree.{OrderedTree, none, more, Shows, shows_none, shows_more, ordered_tree}
use Rattle.jsonc_tree.proofs.Order.{parent_there}
use Rattle.jsonc_tree.proofs.OrderedTrees.{Shows-unique}
use Rattle.jsonc_sound.specs.Shape.{IsTrivia, IsNameBefore, Trivia, nothing, trivia, Separated, comma, no_comma, Closed, plain, trailing_comma, token_then, printed_text, ValueShaped, ElementsShaped, PropertiesShaped, PropertyShaped, DocumentShaped, no_value, a_value}
use Rattle.jsonc_edit.specs.Changes.{row_below}
use Rattle.jsonc_edit.proofs.ChangesUpward.{Shows-row_below, document_is}

-- P holds of each node of a row and below it, with the row below that one
pub data Everywhere (P : Content → OrderedTree → Type 0) : OrderedTree → Type 0 where
  ended : Everywhere P none
  and_after : {content : Content} {below after : OrderedTree} → P content below → Everywhere P below → Everywhere P after → Everywhere P (more content below after)

-- P follows from what the shape says of a node
pub record FollowsFromShape (o : Options) (P : Content → OrderedTree → Type 0) : Type 0 where
  pub of_trivia : (content : Content) → IsTrivia o content → P content none
  pub of_token : (c : ℕ) → P (Content.token c) none
  pub of_name : (content : Content) (r : List ℕ) → IsNameBefore o content r → P content none
  pub of_value : (content : Content) (below : OrderedTree) (r : List ℕ) → ValueShaped o content below r → P content below
  pub of_property : (below : OrderedTree) → P Content.property below
  pub of_root : (below : OrderedTree) → P Content.root below

module _ (o : Options) (P : Content → OrderedTree → Type 0) (follows : FollowsFromShape o P) where
  in_trivia : {t r : OrderedTree} → Trivia o t r → Everywhere P r → Everywhere P t
  in_trivia nothing e = e
  in_trivia (trivia {content = content} h rest) e = and_after (follows.of_trivia content h) ended (in_trivia rest e)

  in_token : (c : ℕ) (t : OrderedTree) → Everywhere P t → Everywhere P (token_then c t)
  in_token c t e = and_after (follows.of_token c) ended e

  in_separated : {t r : OrderedTree} → Separated o t r → Everywhere P r → Everywhere P t
  in_separated (comma {u = u} a b) e = in_trivia a (in_token 0x2C u (in_trivia b e))
  in_separated (no_comma h a) e = in_trivia a e

  in_closed : {t : OrderedTree} (c : ℕ) → Closed o c t → Everywhere P t
  in_closed c (plain a) = in_trivia a (in_token c none ended)
  in_closed c (trailing_comma {u = u} h a b) = in_trivia a (in_token 0x2C u (in_trivia b (in_token c none ended)))

  mutual
    in_value : {content : Content} {below : OrderedTree} {r : List ℕ} → ValueShaped o content below r → Everywhere P below
    in_value (ValueShaped.literal h) = ended
    in_value (ValueShaped.empty_array {t = t} a) = in_token 0x5B t (in_trivia a (in_token 0x5D none ended))
    in_value (ValueShaped.array {t = t} a es) = in_token 0x5B t (in_trivia a (in_elements es))
    in_value (ValueShaped.empty_object {t = t} a) = in_token 0x7B t (in_trivia a (in_token 0x7D none ended))
    in_value (ValueShaped.object {t = t} a ps) = in_token 0x7B t (in_trivia a (in_properties ps))

    in_elements : {row : OrderedTree} → ElementsShaped o row → Everywhere P row
    in_elements (ElementsShaped.last_element {content = content} {below = below} {after = after} v c) = and_after (follows.of_value content below (printed_text after) v) (in_value v) (in_closed 0x5D c)
    in_elements (ElementsShaped.element {content = content} {below = below} {after = after} v s rest) = and_after (follows.of_value content below (printed_text after) v) (in_value v) (in_separated s (in_elements rest))

    in_properties : {row : OrderedTree} → PropertiesShaped o row → Everywhere P row
    in_properties (PropertiesShaped.last_property {below = below} p c) = and_after (follows.of_property below) (in_property p) (in_closed 0x7D c)
    in_properties (PropertiesShaped.property {below = below} p s rest) = and_after (follows.of_property below) (in_property p) (in_separated s (in_properties rest))

    in_property : {row : OrderedTree} {r : List ℕ} → PropertyShaped o row r → Everywhere P row
    in_property (PropertyShaped.named {name = name} {content = content} {below = below} {after = after} {u = u} {r = r} n a b v) =
        and_after (follows.of_name name (printed_text after) n) ended (in_trivia a (in_token 0x3A u (in_trivia b (and_after (follows.of_value content below r v) (in_value v) ended))))

  in_root : {row : OrderedTree} → DocumentShaped o (more Content.root row none) → Everywhere P row
  in_root (no_value a) = in_trivia a ended
  in_root (a_value {content = content} {below = below} {after = after} a v b) =
      in_trivia a (and_after (follows.of_value content below (printed_text after) v) (in_value v) (in_trivia b ended))

module _ (P : Content → OrderedTree → Type 0) (ns : List Node) (tree : IsTree ns) where
  -- P holds of the node, and of each node below it
  abbrev HoldsFrom : ℕ → Type 0
  HoldsFrom n = P (content_at ns n) (row_below ns n) × Everywhere P (row_below ns n)

  holds_among : (cs : List ℕ) (row : OrderedTree) (k : ℕ) → Shows ns cs row → Everywhere P row → ((e : ℕ) → e < length cs → slice_index cs e < length ns) → k < length cs → HoldsFrom (slice_index cs k)
  holds_among _ _ k shows_none e there h = absurd (omega arith)
  holds_among _ _ zero (shows_more {n = n} {below = b} p q) (and_after here below after) there h =
      let same : b ≡ row_below ns n = Shows-unique ns (children_at ns n) b (row_below ns n) p (Shows-row_below ns tree n (there 0 h)) in
      (subst (P (content_at ns n)) same here, subst (Everywhere P) same below)
  holds_among _ _ (suc k) (shows_more {rest = rest} {after = a} p q) (and_after here below after) there h =
      holds_among rest a k q after (λ e l. there (suc e) (omega arith)) (omega arith)

  holds_of_child : (n p : ℕ) → parent_at ns n ≡ Some p → Everywhere P (row_below ns p) → HoldsFrom n
  holds_of_child n p said all =
      subst HoldsFrom (tree.found n p said)
      (holds_among (children_at ns p) (row_below ns p) (place_at ns n) (Shows-row_below ns tree p (parent_there ns tree n p said).1) all (λ e h. tree.in_tree p e h) (tree.within n p said))

  pub holds_from_root : P (content_at ns 0) (row_below ns 0) → Everywhere P (row_below ns 0) → (n : ℕ) → IsOver ns 0 n → HoldsFrom n
  holds_from_root first all _ IsOver.itself = (first, all)
  holds_from_root first all n (IsOver.above {c = p} said rest) = holds_of_child n p said (holds_from_root first all p rest).1

-- what follows from the shape holds of each node of the document
pub holds_of_each : (o : Options) (P : Content → OrderedTree → Type 0) → FollowsFromShape o P → (ns : List Node) → IsTree ns → DocumentShaped o (ordered_tree ns 0) → (n : ℕ) → IsOver ns 0 n → P (content_at ns n) (row_below ns n)
holds_of_each o P follows ns tree shaped n over =
    let row : OrderedTree = row_below ns 0 in
    let shape : DocumentShaped o (more Content.root row none) = subst (DocumentShaped o) (sym (document_is ns tree row (Shows-row_below ns tree 0 tree.first))) shaped in
    (holds_from_root P ns tree (subst (λ (w : Content). P w row) (sym tree.root_first) (follows.of_root row)) (in_root o P follows shape) n over).0

module _ (ns : List Node) (tree : IsTree ns) where
  -- a node of the document is there
  pub over_there : (n : ℕ) → IsOver ns 0 n → n < length ns
  over_there _ IsOver.itself = tree.first
  over_there n (IsOver.above {c = p} said rest) = (parent_there ns tree n p said).0

  -- the children of a node of the document are in it
  pub children_over : (p : ℕ) → IsOver ns 0 p → All (IsOver ns 0) (children_at ns p)
  children_over p over k d h = subst (IsOver ns 0) (get_or_default (children_at ns p) k 0 d h) (IsOver.above (tree.named p k h) over)
