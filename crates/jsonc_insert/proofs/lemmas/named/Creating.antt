-- A property with an empty value that has come into an object: which node that value is.
use Rattle.std.proofs.Common.{◌≡◌, ℕ, ◌<◌, Bool, true, cond, List, ◌∷◌, length, Some, refl, ap, subst, ◌∙◌, arith}
use Rattle.std.specs.List.{find}
use Rattle.jsonc_text.specs.Options.{all_on}
use Rattle.jsonc_tree.specs.Content as content
use Rattle.jsonc_tree.specs.Content.{Content, property, token, whitespace}
use Rattle.jsonc_tree.specs.OrderedTree.{OrderedTree, none, more, Shows, Top}
use Rattle.jsonc_tree.specs.Tree.{Node, content_at, children_at, IsTree}
use Rattle.jsonc_tree.proofs.Order.{parent_there}
use Rattle.jsonc_layout.specs.nodes.Kinds.{is_colon, is_colon_at, is_element, is_element_at}
use Rattle.jsonc_layout.specs.nodes.Properties.{behind_first, is_name, is_name_at, value_at}
use Rattle.jsonc_layout.specs.nodes.Siblings.{elements_at}
use Rattle.jsonc_layout.proofs.lemmas.nodes.PropertyValues.{held_in, value_is_held}
use Rattle.jsonc_layout.specs.from_input.Laid.{laid, laid_property}
use Rattle.jsonc_layout.specs.from_input.Layout.{Layout}
use Rattle.jsonc_edit.specs.Changes.{row_below, top_at}
use Rattle.jsonc_edit.proofs.FittingFinds.{passes, fails}
use Rattle.jsonc_edit.proofs.Uniqueness.{element_parent}
use Rattle.jsonc_edit.proofs.ChangesUpward.{Shows-row_below}
use Rattle.jsonc_insert.specs.Planned.{has_brackets}
use Rattle.jsonc_insert.specs.members.Inserted.{PropertyPut}
use Rattle.jsonc_insert.specs.Settings.{layout_inside}
use Rattle.jsonc_insert.proofs.lemmas.members.Changing.{is_property}
use Rattle.jsonc_insert.proofs.lemmas.members.Numbering.{takes_number}
use Rattle.jsonc_insert.proofs.lemmas.members.PastTheEnd.{past_the_end}
use Rattle.jsonc_text.specs.declared.edit.Shape.{Shape}
use Rattle.jsonc_edit.specs.set.Shapes.{is_of, empty_of}
use Rattle.jsonc_edit.proofs.lemmas.set.Shaped.{empty_laid}
use Rattle.jsonc_insert.proofs.lemmas.named.PropertyValues.{first_shown}

module _ (ns : List Node) where
  begins : (test : ℕ → Bool) (n : ℕ) (rest : List ℕ) → test n ≡ true → behind_first test (n ∷ rest) ≡ rest
  begins test n rest h = ap (λ b. cond b rest (behind_first test rest)) h

  -- what a row holds that is a name, a colon, a space and a value
  record HoldsLast (xs : List ℕ) (value : Content) : Type 0 where
    node : ℕ
    held : held_in ns xs ≡ Some node
    kind : content_at ns node ≡ value

  -- step by step, from the value back
  last_value : (xs : List ℕ) (value : Content) (below : OrderedTree) → is_element value ≡ true → Shows ns xs (more value below none) → (n : ℕ) × (find (is_element_at ns) xs ≡ Some n) × (content_at ns n ≡ value)
  last_value xs value below is p =
      let d = first_shown all_on ns xs (more value below none) p value below none refl in
      (d.node, ap (find (is_element_at ns)) d.is ∙ passes (is_element_at ns) d.node d.rest (ap is_element d.kind ∙ is), d.kind)

  behind_space : (xs : List ℕ) (space : List ℕ) (value : Content) (below : OrderedTree) → is_element value ≡ true → Shows ns xs (more (whitespace space) none (more value below none)) → (n : ℕ) × (find (is_element_at ns) xs ≡ Some n) × (content_at ns n ≡ value)
  behind_space xs space value below is p =
      let c = first_shown all_on ns xs (more (whitespace space) none (more value below none)) p (whitespace space) none (more value below none) refl in
      let d = last_value c.rest value below is c.shown in
      (d.0, ap (find (is_element_at ns)) c.is ∙ fails (is_element_at ns) c.node c.rest (ap is_element c.kind) ∙ d.1, d.2)

  behind_colon_too : (xs : List ℕ) (space : List ℕ) (value : Content) (below : OrderedTree) → is_element value ≡ true → Shows ns xs (more (token 0x3A) none (more (whitespace space) none (more value below none)))
      → (n : ℕ) × (find (is_element_at ns) (behind_first (is_colon_at ns) xs) ≡ Some n) × (content_at ns n ≡ value)
  behind_colon_too xs space value below is p =
      let rest : OrderedTree = more (whitespace space) none (more value below none) in
      let b = first_shown all_on ns xs (more (token 0x3A) none rest) p (token 0x3A) none rest refl in
      let d = behind_space b.rest space value below is b.shown in
      let past : behind_first (is_colon_at ns) xs ≡ b.rest = ap (behind_first (is_colon_at ns)) b.is ∙ begins (is_colon_at ns) b.node b.rest (ap is_colon b.kind) in
      (d.0, ap (find (is_element_at ns)) past ∙ d.1, d.2)

  holds_last : (xs : List ℕ) (name : List ℕ) (space : List ℕ) (value : Content) (below : OrderedTree) → is_element value ≡ true
      → Shows ns xs (more (content.string name) none (more (token 0x3A) none (more (whitespace space) none (more value below none)))) → HoldsLast xs value
  holds_last xs name space value below is p =
      let rest : OrderedTree = more (token 0x3A) none (more (whitespace space) none (more value below none)) in
      let a = first_shown all_on ns xs (more (content.string name) none rest) p (content.string name) none rest refl in
      let d = behind_colon_too a.rest space value below is a.shown in
      let past : behind_first (is_name_at ns) xs ≡ a.rest = ap (behind_first (is_name_at ns)) a.is ∙ begins (is_name_at ns) a.node a.rest (ap is_name a.kind) in
      record { node = d.0; held = ap (λ l. find (is_element_at ns) (behind_first (is_colon_at ns) l)) past ∙ d.1; kind = d.2 }

-- the property that has come at the number of the children holds its value
pub record HoldsEmpty (new : List Node) (p : ℕ) (shape : Shape) : Type 0 where
  pub value : ℕ
  pub holds : value_at new p ≡ Some value
  pub shaped : is_of shape (content_at new value) ≡ true

module _ (old new : List Node) (c i : ℕ) (name : List ℕ) (shape : Shape) (p : ℕ) (tree : IsTree old) (there : c < length old) (brackets : has_brackets old (children_at old c) ≡ true) (e : PropertyPut old new c i name (empty_of shape) p) where
  pub property_there : p < length new
  property_there = (parent_there new e.tree p c (element_parent new e.tree c _ p (takes_number old new c i name (empty_of shape) p tree there brackets e))).0

  abbrev layout : Layout
  layout = layout_inside e.made.kept c

  is : top_at new p ≡ laid_property layout name (empty_of shape)
  is = is_property old new c i name (empty_of shape) p tree there e

  pub holds_empty : HoldsEmpty new p shape
  holds_empty =
      let value : Top = laid layout (empty_of shape) in
      let empty = empty_laid layout shape in
      let kind : content_at new p ≡ property = ap (λ (t : Top). t.content) is in
      let below : row_below new p ≡ (laid_property layout name (empty_of shape)).below = ap (λ (t : Top). t.below) is in
      let shown = subst (λ t. Shows new (children_at new p) t) below (Shows-row_below new e.tree p property_there) in
      let last = holds_last new (children_at new p) _ _ value.content value.below empty.0 shown in
      record {
        value = last.node;
        holds = value_is_held new p kind ∙ last.held;
        shaped = ap (is_of shape) last.kind ∙ empty.1;
      }

  pub put_last : length (elements_at old c) < i → PropertyPut old new c (length (elements_at old c)) name (empty_of shape) p
  put_last at =
      past_the_end old new c i (length (elements_at old c)) name (empty_of shape) p tree there brackets
      (omega (arith, at)) (omega arith) e
