-- The value of a property of a sound document stands at the property's path.
use Rattle.std.proofs.Common.{◌≡◌, ℕ, Bool, true, false, not, ◌||◌, cond, List, [], ◌∷◌, filter, slice_get, Some, None, inl, inr, refl, sym, ap, subst, ◌∙◌}
use Rattle.std.proofs.lemmas.Bool.{cases_Bool}
use Rattle.std.specs.List.{find, list_any}
use Rattle.jsonc_text.specs.Options.{Options}
use Rattle.jsonc_tree.specs.Content.{Content, token}
use Rattle.jsonc_tree.specs.OrderedTree.{OrderedTree, none, more, Shows, shows_none, shows_more, ordered_tree}
use Rattle.jsonc_tree.specs.Tree.{Node, content_at, children_at, IsTree}
use Rattle.jsonc_sound.specs.Shape as shape
use Rattle.jsonc_sound.specs.Shape.{IsTrivia, Trivia, nothing, trivia, token_then}
use Rattle.jsonc_layout.specs.nodes.Kinds.{is_colon_at, is_element, is_element_at}
use Rattle.jsonc_layout.specs.nodes.Properties.{behind_colon, behind_first, behind_name, lacks_name_at, value_at}
use Rattle.jsonc_layout.proofs.lemmas.nodes.PropertyValues.{held_in, value_is_held}
use Rattle.jsonc_sound.specs.Alone as alone
use Rattle.jsonc_sound.specs.Alone.{ValueAlone, RowAlone, PropertyAlone}
use Rattle.jsonc_sound.specs.Rows as rows
use Rattle.jsonc_sound.specs.SoundTrees.{SoundTree}
use Rattle.jsonc_sound.specs.TreeChanges.{IsElement}
use Rattle.jsonc_sound.proofs.NodesAlone.{value_alone}
use Rattle.jsonc_sound.proofs.FirstNodes.{name_element, trivia_over, value_element}
use Rattle.jsonc_sound.proofs.HeldValues.{document_held}
use Rattle.jsonc_sound.proofs.SeamStretches.{parted_row}
use Rattle.jsonc_edit.specs.Changes.{row_below, top_at}
use Rattle.jsonc_edit.specs.Paths.{IsAt, StepsTo}
use Rattle.jsonc_edit.proofs.Elements.{taken, left}
use Rattle.jsonc_edit.proofs.ShapedProperties.{second_is_held}
use Rattle.jsonc_edit.proofs.ShapedPlaces.{at_further}
use Rattle.jsonc_edit.proofs.Uniqueness.{element_parent}
use Rattle.jsonc_edit.proofs.ChangesUpward.{Shows-row_below}
use Rattle.jsonc_tree.proofs.Order.{parent_there}
use Rattle.jsonc_edit.proofs.lemmas.set.PropertyRows.{parted, object_row, inside_of}
use Rattle.jsonc_edit.proofs.lemmas.set.WrittenBoolean.{property_part}
use Rattle.jsonc_insert.specs.named.Places.{IsPropertyOf, IsPropertyAt, a_property}
use Rattle.jsonc_insert.proofs.lemmas.named.PathValues.{gives_way_to_itself}
use Rattle.jsonc_insert.proofs.BlankRuns.{blank_not}

-- a value is an element
alone_element : {o : Options} {content : Content} {below : OrderedTree} → ValueAlone o content below → IsElement content
alone_element (alone.literal l) = value_element (shape.literal l)
alone_element (alone.an_array g) = refl
alone_element (alone.an_object g) = refl

module _ (o : Options) (ns : List Node) where
  -- the first node of a row
  pub record First (xs : List ℕ) (content : Content) (after : OrderedTree) : Type 0 where
    pub node : ℕ
    pub rest : List ℕ
    pub is : xs ≡ node ∷ rest
    pub kind : content_at ns node ≡ content
    pub shown : Shows ns rest after

  pub first_shown : (xs : List ℕ) (t : OrderedTree) → Shows ns xs t → (content : Content) (below after : OrderedTree) → t ≡ more content below after → First xs content after
  first_shown _ _ shows_none content below after e = cc
  first_shown _ _ (shows_more {n = n} {rest = rest} {below = b} {after = a} p q) content below after e =
      let kind : content_at ns n ≡ content = cc in
      let same : a ≡ after = cc in
      record { node = n; rest = rest; is = refl; kind = kind; shown = subst (λ t. Shows ns rest t) same q }

  -- past trivia stand the same elements
  record Past (xs : List ℕ) (r : OrderedTree) : Type 0 where
    rest : List ℕ
    shown : Shows ns rest r
    kept : filter (is_element_at ns) xs ≡ filter (is_element_at ns) rest

  past_one : (n : ℕ) (xs : List ℕ) (r : OrderedTree) → IsTrivia o (content_at ns n) → Past xs r → Past (n ∷ xs) r
  past_one n xs r is p =
      let passed : is_element_at ns n ≡ false = ap not (trivia_over o (content_at ns n) is) in
      record {
        rest = p.rest;
        shown = p.shown;
        kept = left (is_element_at ns) n xs passed ∙ p.kept;
      }

  past_trivia : (xs : List ℕ) (t r : OrderedTree) → Shows ns xs t → Trivia o t r → Past xs r
  past_trivia xs _ _ p nothing = record { rest = xs; shown = p; kept = refl }
  past_trivia xs _ r p (trivia {content = content} {t = t} is g) =
      let one = first_shown xs (more content none t) p content none t refl in
      subst (λ l. Past l r) (sym one.is) (past_one one.node one.rest r (subst (IsTrivia o) (sym one.kind) is) (past_trivia one.rest t r one.shown g))

  -- a property's value is the element behind its name
  record HoldsOne (xs : List ℕ) : Type 0 where
    value : ℕ
    held : held_in ns xs ≡ Some value
    second : slice_get (filter (is_element_at ns) xs) 1 ≡ Some value

  second_one : {name content : Content} {below after u : OrderedTree} (xs : List ℕ) (first : First xs name after) (before : Past first.rest (token_then 0x3A u)) (colon : First before.rest (token 0x3A) u)
      (behind : Past colon.rest (more content below none)) (last : First behind.rest content none) → IsElement name → IsElement content → slice_get (filter (is_element_at ns) xs) 1 ≡ Some last.node
  second_one xs first before colon behind last named valued =
      let test : ℕ → Bool = is_element_at ns in
      let passed : test colon.node ≡ false = ap is_element colon.kind in
      let others : filter test first.rest ≡ last.node ∷ filter test last.rest =
      before.kept ∙ ap (filter test) colon.is ∙ left test colon.node colon.rest passed ∙ behind.kept ∙ ap (filter test) last.is ∙ taken test last.node last.rest (ap is_element last.kind ∙ valued) in
      ap (λ l. slice_get (filter test l) 1) first.is ∙ ap (λ l. slice_get l 1) (taken test first.node first.rest (ap is_element first.kind ∙ named)) ∙ ap (λ l. slice_get l 0) others

  holds_one : (xs : List ℕ) (row : OrderedTree) → Shows ns xs row → PropertyAlone o row → HoldsOne xs
  holds_one xs _ p (alone.named {name = name} {content = content} {below = below} {after = after} {u = u} k g h v) =
      let first = first_shown xs (more name none after) p name none after refl in
      let before = past_trivia first.rest after (token_then 0x3A u) first.shown g in
      let colon = first_shown before.rest (token_then 0x3A u) before.shown (token 0x3A) none u refl in
      let behind = past_trivia colon.rest u (more content below none) colon.shown h in
      let last = first_shown behind.rest (more content below none) behind.shown content below none refl in
      let second = second_one xs first before colon behind last (name_element o name [] k) (alone_element v) in
      record { value = last.node; held = second_is_held ns o xs name after u [] p k g ∙ second; second = second }

  -- the property at a path holds a value, which stands at the path
  pub record ValueHeld (path : List ℕ) (r : ℕ) : Type 0 where
    pub value : ℕ
    pub holds : value_at ns r ≡ Some value
    pub at : IsAt ns path value

  module _ (tree : IsTree ns) (sound : SoundTree o (ordered_tree ns 0)) where
    pub property_row : (front : List ℕ) (c i r : ℕ) → IsAt ns front c → IsPropertyOf ns c i r → PropertyAlone o (row_below ns r)
    property_row front c i r at inside =
        let row = object_row o inside.of_object (value_alone o (document_held o (gives_way_to_itself ns tree front c at) sound.shaped).1) in
        let near = parted ns tree r c (element_parent ns tree c i r inside.element) in
        let kind : IsElement (content_at ns r) = subst IsElement (sym inside.is) refl in
        let within = inside_of near.front (top_at ns r) near.back row.row kind (sym near.is ∙ row.is) in
        property_part inside.is (parted_row o rows.of_properties within.front (subst (RowAlone o rows.of_properties rows.nothing_yet) within.joined row.alone)).2

    pub value_held : (path : List ℕ) (r : ℕ) → IsPropertyAt ns path r → ValueHeld path r
    value_held _ r (a_property front c i at inside) =
        let there = (parent_there ns tree r c (element_parent ns tree c i r inside.element)).0 in
        let one = holds_one (children_at ns r) (row_below ns r) (Shows-row_below ns tree r there) (property_row front c i r at inside) in
        let holds = value_is_held ns r inside.is ∙ one.held in
        record { value = one.value; holds = holds; at = at_further ns c i one.value front at (StepsTo.in_object {r = r} inside.of_object inside.element (inside.is, one.second, holds)) }

-- behind the first node that passes stands nothing where none passes
none_behind : (test : ℕ → Bool) (xs : List ℕ) → list_any test xs ≡ false → behind_first test xs ≡ []
none_behind test [] e = refl
none_behind test (x ∷ xs) e =
    elim (cases_Bool (test x)) [
      | inl h ↦ absurd (let wrong : true ≡ false = sym (ap (λ b. b || list_any test xs) h) ∙ e in cc)
      | inr h ↦ ap (λ b. cond b xs (behind_first test xs)) h ∙ none_behind test xs (sym (ap (λ b. b || list_any test xs) h) ∙ e)
    ]

module _ (ns : List Node) where
  -- a property that holds a value has its name and its colon
  pub held_by_name : (n v : ℕ) → find (is_element_at ns) (behind_colon ns n) ≡ Some v → lacks_name_at ns n ≡ true → ⊥
  held_by_name n v held lacks =
      let none : behind_colon ns n ≡ [] = none_behind (is_colon_at ns) (behind_name ns n) (blank_not (list_any (is_colon_at ns) (behind_name ns n)) lacks) in
      let wrong : None ≡ Some v = sym (ap (find (is_element_at ns)) none) ∙ held in cc
