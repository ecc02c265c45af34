-- In a document of the grammar's shape each property has its colon between name and value; so what is taken of it is its value.
use Rattle.std.proofs.Common.{◌≡◌, Option, option_map, List, ℕ, IsTrue, refl, ap, sym, subst, ◌∙◌}
use Rattle.jsonc_text.specs.Options.{Options}
use Rattle.jsonc_text.specs.Plain.{Plain, collapse}
use Rattle.jsonc_tree.specs.Content.{Content}
use Rattle.jsonc_tree.specs.OrderedTree.{OrderedTree, none, more}
use Rattle.jsonc_tree.specs.Values.{DocumentValueOf}
use Rattle.jsonc_sound.specs.Shape.{IsTrivia, IsLiteralBefore, IsNameBefore, Trivia, Separated, Closed, ValueShaped, ElementsShaped, PropertiesShaped, PropertyShaped, DocumentShaped}
use Rattle.jsonc_layout.specs.input.Views.{plain}
use Rattle.jsonc_layout.specs.declared.input.value.CstInputValue.{CstInputValue}
use Rattle.jsonc_layout.specs.to_input.Given.{Gives, HasColon, HaveColons, colon_first, name_first}
use Rattle.jsonc_layout.specs.to_input.Taken.{IsTaken}
use Rattle.jsonc_layout.proofs.lemmas.to_input.ReadValues.{document_gives}
use Rattle.jsonc_layout.proofs.lemmas.to_input.OneValue.{gives_once}

-- what is no property needs no colon
no_property_colon : (content : Content) (below : OrderedTree) → (content ≡ Content.property → ⊥) → HasColon content below
no_property_colon Content.property below other = absurd (other refl)
no_property_colon Content.root below other = tt
no_property_colon Content.object below other = tt
no_property_colon Content.array below other = tt
no_property_colon (Content.string s) below other = tt
no_property_colon (Content.word s) below other = tt
no_property_colon (Content.number s) below other = tt
no_property_colon (Content.boolean b) below other = tt
no_property_colon Content.null below other = tt
no_property_colon (Content.token c) below other = tt
no_property_colon (Content.whitespace s) below other = tt
no_property_colon (Content.newline k) below other = tt
no_property_colon (Content.comment s) below other = tt

module _ (o : Options) where
  -- trivia are no elements, and no colon
  trivia_passed : (content : Content) (after : OrderedTree) → IsTrivia o content → colon_first (more content none after) ≡ colon_first after
  trivia_passed (Content.whitespace s) after h = refl
  trivia_passed (Content.newline k) after h = refl
  trivia_passed (Content.comment s) after h = refl
  trivia_passed Content.property after h = absurd h
  trivia_passed Content.root after h = absurd h
  trivia_passed Content.object after h = absurd h
  trivia_passed Content.array after h = absurd h
  trivia_passed (Content.string s) after h = absurd h
  trivia_passed (Content.word s) after h = absurd h
  trivia_passed (Content.number s) after h = absurd h
  trivia_passed (Content.boolean b) after h = absurd h
  trivia_passed Content.null after h = absurd h
  trivia_passed (Content.token c) after h = absurd h

  -- a name is the first element
  name_comes : (content : Content) (after : OrderedTree) (r : List ℕ) → IsNameBefore o content r → name_first (more content none after) ≡ colon_first after
  name_comes (Content.string s) after r h = refl
  name_comes (Content.word s) after r h = refl
  name_comes (Content.whitespace s) after r h = absurd h
  name_comes (Content.newline k) after r h = absurd h
  name_comes (Content.comment s) after r h = absurd h
  name_comes Content.property after r h = absurd h
  name_comes Content.root after r h = absurd h
  name_comes Content.object after r h = absurd h
  name_comes Content.array after r h = absurd h
  name_comes (Content.number s) after r h = absurd h
  name_comes (Content.boolean b) after r h = absurd h
  name_comes Content.null after r h = absurd h
  name_comes (Content.token c) after r h = absurd h

  colon_comes : {t r : OrderedTree} → Trivia o t r → IsTrue (colon_first r) → IsTrue (colon_first t)
  colon_comes Trivia.nothing h = h
  colon_comes (Trivia.trivia {content = content} {t = t} is rest) h = trivia_passed content t is ∙ colon_comes rest h

  trivia_colons : {t r : OrderedTree} → Trivia o t r → HaveColons r → HaveColons t
  trivia_colons Trivia.nothing h = h
  trivia_colons (Trivia.trivia {content = content} is rest) h = (no_property_colon content none (λ e. subst (IsTrivia o) e is), tt, trivia_colons rest h)

  separated_colons : {t r : OrderedTree} → Separated o t r → HaveColons r → HaveColons t
  separated_colons (Separated.comma before after) h = trivia_colons before (tt, tt, trivia_colons after h)
  separated_colons (Separated.no_comma allowed between) h = trivia_colons between h

  closed_colons : {bracket : ℕ} {t : OrderedTree} → Closed o bracket t → HaveColons t
  closed_colons (Closed.plain before) = trivia_colons before (tt, tt, tt)
  closed_colons (Closed.trailing_comma allowed before after) = trivia_colons before (tt, tt, trivia_colons after (tt, tt, tt))

  value_colon : {content : Content} {below : OrderedTree} {r : List ℕ} → ValueShaped o content below r → HasColon content below
  value_colon (ValueShaped.literal {content = content} {r = r} is) = no_property_colon content none (λ e. subst (λ (what : Content). IsLiteralBefore o what r) e is)
  value_colon (ValueShaped.empty_array h) = tt
  value_colon (ValueShaped.array h elements) = tt
  value_colon (ValueShaped.empty_object h) = tt
  value_colon (ValueShaped.object h properties) = tt

  property_colon : {row : OrderedTree} {r : List ℕ} → PropertyShaped o row r → IsTrue (name_first row)
  property_colon (PropertyShaped.named {name = name} {after = after} is before between value) = name_comes name after _ is ∙ colon_comes before refl

  name_colon : (content : Content) (r : List ℕ) → IsNameBefore o content r → HasColon content none
  name_colon content r is = no_property_colon content none (λ e. subst (λ (what : Content). IsNameBefore o what r) e is)

  mutual
    pub value_colons : {content : Content} {below : OrderedTree} {r : List ℕ} → ValueShaped o content below r → HaveColons below
    value_colons (ValueShaped.literal is) = tt
    value_colons (ValueShaped.empty_array h) = (tt, tt, trivia_colons h (tt, tt, tt))
    value_colons (ValueShaped.array h elements) = (tt, tt, trivia_colons h (elements_colons elements))
    value_colons (ValueShaped.empty_object h) = (tt, tt, trivia_colons h (tt, tt, tt))
    value_colons (ValueShaped.object h properties) = (tt, tt, trivia_colons h (properties_colons properties))

    elements_colons : {row : OrderedTree} → ElementsShaped o row → HaveColons row
    elements_colons (ElementsShaped.last_element value closed) = (value_colon value, value_colons value, closed_colons closed)
    elements_colons (ElementsShaped.element value separated rest) = (value_colon value, value_colons value, separated_colons separated (elements_colons rest))

    properties_colons : {row : OrderedTree} → PropertiesShaped o row → HaveColons row
    properties_colons (PropertiesShaped.last_property property closed) = (property_colon property, property_colons property, closed_colons closed)
    properties_colons (PropertiesShaped.property property separated rest) = (property_colon property, property_colons property, separated_colons separated (properties_colons rest))

    property_colons : {row : OrderedTree} {r : List ℕ} → PropertyShaped o row r → HaveColons row
    property_colons (PropertyShaped.named is before between value) = (name_colon _ _ is, tt, trivia_colons before (tt, tt, trivia_colons between (value_colon value, value_colons value, tt)))

  document_colons : {tree : OrderedTree} → DocumentShaped o tree → HaveColons tree
  document_colons (DocumentShaped.no_value trivia) = (tt, trivia_colons trivia tt, tt)
  document_colons (DocumentShaped.a_value before value after) = (tt, trivia_colons before (value_colon value, value_colons value, trivia_colons after tt), tt)

-- the first node among children, and what is below it
abbrev first_content : OrderedTree → Content
first_content none = Content.null
first_content (more content below after) = content

abbrev first_below : OrderedTree → OrderedTree
first_below none = none
first_below (more content below after) = below

-- what is taken of a document of the grammar's shape represents its value
pub taken_is_the_value : {A : Type 0} (o : Options) (tree : OrderedTree) (found : Option Plain) (taken : Option (CstInputValue A)) → DocumentShaped o tree → DocumentValueOf o tree found → IsTaken tree taken
    → option_map plain taken ≡ option_map collapse found
taken_is_the_value o tree found taken shaped value is =
    let mine = document_gives o tree found value (document_colons o shaped) in
    let theirs = is.gives in
    let same_tree : more theirs.0 theirs.1 none ≡ more mine.0 mine.1 none = sym theirs.2 ∙ mine.2 in
    let over : Gives mine.0 theirs.1 is.given = subst (λ (what : Content). Gives what theirs.1 is.given) (ap first_content same_tree) theirs.3 in
    let here : Gives mine.0 mine.1 is.given = subst (λ (row : OrderedTree). Gives mine.0 row is.given) (ap first_below same_tree) over in
    is.collapsed ∙ ap (option_map collapse) (gives_once here mine.3)
