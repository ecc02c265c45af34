-- A node that has a value gives it.
use Rattle.std.proofs.Common.{◌≡◌, ℕ, ◌&&◌, List, [], Bool, true, false, Option, None, Some, IsTrue, refl, sym, subst, ◌∙◌, arith, ◌⊎◌, inl, inr}
use Rattle.std.proofs.lemmas.Bool.{false≢true}
use Rattle.jsonc_text.specs.Options.{Options, all_on}
use Rattle.jsonc_text.specs.Strings.{IsQuote, Piece, Pieces}
use Rattle.jsonc_text.specs.Plain.{Plain, Items, Members}
use Rattle.jsonc_tree.specs.Content.{Content}
use Rattle.jsonc_tree.specs.OrderedTree.{OrderedTree, none, more}
use Rattle.jsonc_tree.specs.Values.{is_passed_over, IsStringText, IsNameLeaf, HasNoValue, ValueOf, ItemsOf, MembersOf, PropertyOf, HoldsValue, DocumentValueOf}
use Rattle.jsonc_tree.specs.Values as values
use Rattle.jsonc_layout.specs.nodes.Kinds.{is_element, is_colon, is_property}
use Rattle.jsonc_layout.specs.nodes.Properties.{is_name}
use Rattle.jsonc_layout.specs.nodes.Names.{Names, StandsFor}
use Rattle.jsonc_layout.specs.to_input.Given.{Gives, FirstGives, GivesItems, GivesMembers, RowHasName, gives_nothing, behind_colon, row_behind, name_leaf, colon_first, name_first, HaveColons, no_element, pass_to_element, first_element, no_more_items, pass_to_items, one_item, no_more_members, pass_to_members, one_member, named_value, no_property}
use Rattle.jsonc_layout.specs.to_input.Taken.{TreeGives}

not_so : {X : Type 0} → false ≡ true → X
not_so h = absurd (false≢true h)

-- a string of some options is one of all
piece_wider : {o : Options} {q : ℕ} {t p r : List ℕ} → Piece o q t p r → Piece all_on q t p r
piece_wider (Piece.itself a b) = Piece.itself a b
piece_wider (Piece.plain e) = Piece.plain e
piece_wider (Piece.unit a b) = Piece.unit a b
piece_wider (Piece.pair a b c d) = Piece.pair a b c d
piece_wider (Piece.other h e) = Piece.other refl e
piece_wider (Piece.zero h e) = Piece.zero refl e
piece_wider (Piece.byte h e) = Piece.byte refl e
piece_wider (Piece.line h e) = Piece.line refl e
piece_wider (Piece.lone_cr h e) = Piece.lone_cr refl e
piece_wider (Piece.cr_lf h) = Piece.cr_lf refl

pieces_wider : {o : Options} {q : ℕ} {t v r : List ℕ} → Pieces o q t v r → Pieces all_on q t v r
pieces_wider Pieces.done = Pieces.done
pieces_wider (Pieces.piece p ps e) = Pieces.piece (piece_wider p) (pieces_wider ps) e

quote_wider : (o : Options) (q : ℕ) → IsQuote o q → IsQuote all_on q
quote_wider o q h = grind arith

pub stands_for : (o : Options) (s v : List ℕ) → IsStringText o s v → StandsFor s v
stands_for o s v (q, t, quote, e, pieces) = ([], (q, t, quote_wider o q quote, e, pieces_wider pieces))

-- what is passed over gives nothing, and is no property
passed_gives : (content : Content) → IsTrue (is_passed_over content) → IsTrue (gives_nothing content)
passed_gives (Content.word s) h = refl
passed_gives (Content.whitespace s) h = refl
passed_gives (Content.newline k) h = refl
passed_gives (Content.comment s) h = refl
passed_gives (Content.token c) h = refl
passed_gives Content.root h = not_so h
passed_gives Content.object h = not_so h
passed_gives Content.array h = not_so h
passed_gives Content.property h = not_so h
passed_gives (Content.string s) h = not_so h
passed_gives (Content.number s) h = not_so h
passed_gives (Content.boolean b) h = not_so h
passed_gives Content.null h = not_so h

passed_property : (content : Content) → IsTrue (is_passed_over content) → is_property content ≡ false
passed_property Content.property h = not_so h
passed_property Content.root h = refl
passed_property Content.object h = refl
passed_property Content.array h = refl
passed_property (Content.string s) h = refl
passed_property (Content.word s) h = refl
passed_property (Content.number s) h = refl
passed_property (Content.boolean b) h = refl
passed_property Content.null h = refl
passed_property (Content.token c) h = refl
passed_property (Content.whitespace s) h = refl
passed_property (Content.newline k) h = refl
passed_property (Content.comment s) h = refl

-- an element is no colon
record IsElement (content : Content) : Type 0 where
  element : is_element content ≡ true
  colon : is_colon content ≡ false

-- a leaf that is a name: where it is a string or a word, it is read as that name
record IsNameRead (content : Content) (name : List ℕ) : Type 0 where
  element : is_element content ≡ true
  named : is_name content ≡ true → Names content name

name_leaf_is : (o : Options) (content : Content) (name : List ℕ) → IsNameLeaf o content name → IsNameRead content name
name_leaf_is o (Content.string s) name h = record { element = refl; named = λ n. stands_for o s name h }
name_leaf_is o (Content.word s) name h = record { element = refl; named = λ n. h.1 }
name_leaf_is o (Content.number s) name h = record { element = refl; named = not_so }
name_leaf_is o (Content.boolean b) name h = record { element = refl; named = not_so }
name_leaf_is o Content.null name h = record { element = refl; named = not_so }
name_leaf_is o Content.root name h = not_so h.0
name_leaf_is o Content.object name h = not_so h.0
name_leaf_is o Content.array name h = not_so h.0
name_leaf_is o Content.property name h = not_so h.0
name_leaf_is o (Content.token c) name h = not_so h.0
name_leaf_is o (Content.whitespace s) name h = not_so h.0
name_leaf_is o (Content.newline k) name h = not_so h.0
name_leaf_is o (Content.comment s) name h = not_so h.0

value_is : {o : Options} {content : Content} {below : OrderedTree} {v : Plain} → ValueOf o content below v → IsElement content
value_is (values.string h) = record { element = refl; colon = refl }
value_is values.number = record { element = refl; colon = refl }
value_is values.boolean = record { element = refl; colon = refl }
value_is values.null = record { element = refl; colon = refl }
value_is (values.array h) = record { element = refl; colon = refl }
value_is (values.object h) = record { element = refl; colon = refl }

-- what is passed over is no name
passed_no_name : (content : Content) → IsTrue (is_passed_over content) → is_name content ≡ false
passed_no_name (Content.string s) h = not_so h
passed_no_name (Content.word s) h = not_so h
passed_no_name (Content.whitespace s) h = refl
passed_no_name (Content.newline k) h = refl
passed_no_name (Content.comment s) h = refl
passed_no_name (Content.token c) h = refl
passed_no_name Content.root h = refl
passed_no_name Content.object h = refl
passed_no_name Content.array h = refl
passed_no_name Content.property h = refl
passed_no_name (Content.number s) h = refl
passed_no_name (Content.boolean b) h = refl
passed_no_name Content.null h = refl

-- how the row goes on where what it begins with is passed over
passed_name : (content : Content) (below after : OrderedTree) → is_name content ≡ false → name_leaf (more content below after) ≡ name_leaf after
passed_name content below after n = rw n refl

passed_behind : (content : Content) (below after : OrderedTree) → is_name content ≡ false → behind_colon (more content below after) ≡ behind_colon after
passed_behind content below after n = rw n refl

passed_first : (content : Content) (below after : OrderedTree) → is_passed_over content ≡ true → name_first (more content below after) ≡ name_first after
passed_first content below after p = rw p refl

passed_colon : (content : Content) (below after : OrderedTree) → is_passed_over content ≡ true → is_colon content ≡ false → colon_first (more content below after) ≡ colon_first after
passed_colon content below after p q = rw (p, q) refl

element_first : (content : Content) (below after : OrderedTree) → IsElement content → colon_first (more content below after) ≡ false
element_first content below after is = rw (is.colon, is.element) refl

-- or where it is the name, or the colon
named_here : (content : Content) (below after : OrderedTree) → is_name content ≡ true → name_leaf (more content below after) ≡ Some content
named_here content below after n = rw n refl

behind_here : (content : Content) (below after : OrderedTree) → is_name content ≡ true → behind_colon (more content below after) ≡ row_behind is_colon after
behind_here content below after n = rw n refl

colon_here : (content : Content) (below after : OrderedTree) → is_colon content ≡ true → row_behind is_colon (more content below after) ≡ after
colon_here content below after q = rw q refl

colon_later : (content : Content) (below after : OrderedTree) → is_colon content ≡ false → row_behind is_colon (more content below after) ≡ row_behind is_colon after
colon_later content below after q = rw q refl

colon_or_not : (content : Content) → (is_colon content ≡ true) ⊎ (is_colon content ≡ false)
colon_or_not content = go (is_colon content)
  where
    go : (b : Bool) → (b ≡ true) ⊎ (b ≡ false)
    go true = inl refl
    go false = inr refl

-- the first element is a name, and a colon stands before the next
first_named : (content : Content) (below after : OrderedTree) → is_element content ≡ true → IsTrue (name_first (more content below after)) → (is_name content ≡ true) × IsTrue (colon_first after)
first_named content below after is h = go (is_name content) (colon_first after) (sym (here) ∙ h)
  where
    here : name_first (more content below after) ≡ (is_name content && colon_first after)
    here = rw is refl

    go : (n c : Bool) → (n && c) ≡ true → (n ≡ true) × (c ≡ true)
    go true c k = (refl, k)
    go false c k = not_so k

-- a property with a name has it, where its first element is a string or a word
property_name : {o : Options} {row : OrderedTree} {name : List ℕ} {v : Plain} → PropertyOf o row name v → IsTrue (name_first row) → RowHasName row name
property_name (values.pass_to_name {content = content} {below = below} {after = after} p h) e =
    let rest = property_name h (sym (passed_first content below after p) ∙ e) in
    (rest.0, passed_name content below after (passed_no_name content p) ∙ rest.1, rest.2)
property_name {o = o} {name = name} (values.name_of {content = content} {after = after} n h) e =
    let is = name_leaf_is o content name n in
    let named = (first_named content none after is.element e).0 in
    (content, named_here content none after named, is.named named)

mutual
  pub value_gives : {o : Options} {content : Content} {below : OrderedTree} {v : Plain} → ValueOf o content below v → HaveColons below → Gives content below (Some v)
  value_gives {o = o} (values.string {s = s} {v = v} h) c = Gives.string (stands_for o s v h)
  value_gives values.number c = Gives.number
  value_gives values.boolean c = Gives.boolean
  value_gives values.null c = Gives.null
  value_gives (values.array h) c = Gives.array (items_given h c)
  value_gives (values.object h) c = Gives.object (members_given h c)

  items_given : {o : Options} {row : OrderedTree} {vs : Items} → ItemsOf o row vs → HaveColons row → GivesItems row vs
  items_given values.no_more_items c = no_more_items
  items_given (values.pass_to_items {content = content} p h) c = pass_to_items (Gives.nothing (passed_gives content p)) (items_given h c.2)
  items_given (values.one_item h r) c = one_item (value_gives h c.1) (items_given r c.2)

  members_given : {o : Options} {row : OrderedTree} {ms : Members} → MembersOf o row ms → HaveColons row → GivesMembers row ms
  members_given values.no_more_members c = no_more_members
  members_given (values.pass_to_members {content = content} p h) c = pass_to_members (no_property (passed_property content p)) (members_given h c.2)
  members_given (values.one_member h r) c = one_member (named_value (property_name h c.0) (Gives.property (property_value h c.0 c.1))) (members_given r c.2)

  property_value : {o : Options} {row : OrderedTree} {name : List ℕ} {v : Plain} → PropertyOf o row name v → IsTrue (name_first row) → HaveColons row → FirstGives (behind_colon row) (Some v)
  property_value {v = v} (values.pass_to_name {content = content} {below = below} {after = after} p h) e c =
      subst (λ (r : OrderedTree). FirstGives r (Some v)) (sym (passed_behind content below after (passed_no_name content p))) (property_value h (sym (passed_first content below after p) ∙ e) c.2)
  property_value {o = o} {name = name} {v = v} (values.name_of {content = content} {after = after} n h) e c =
      let is = first_named content none after (name_leaf_is o content name n).element e in
      subst (λ (r : OrderedTree). FirstGives r (Some v)) (sym (behind_here content none after is.0)) (after_name h is.1 c.2)

  -- after the name a colon stands before the next element
  after_name : {o : Options} {row : OrderedTree} {v : Plain} → HoldsValue o row v → IsTrue (colon_first row) → HaveColons row → FirstGives (row_behind is_colon row) (Some v)
  after_name {v = v} (values.pass_to_value {content = content} {below = below} {after = after} p h) e c =
      elim (colon_or_not content) [
        | inl q ↦ subst (λ (r : OrderedTree). FirstGives r (Some v)) (sym (colon_here content below after q)) (holds_given h c.2)
        | inr q ↦ subst (λ (r : OrderedTree). FirstGives r (Some v)) (sym (colon_later content below after q)) (after_name h (sym (passed_colon content below after p q) ∙ e) c.2)
      ]
  after_name (values.value_of {content = content} {below = below} {after = after} h r) e c = not_so (sym (element_first content below after (value_is h)) ∙ e)

  holds_given : {o : Options} {row : OrderedTree} {v : Plain} → HoldsValue o row v → HaveColons row → FirstGives row (Some v)
  holds_given (values.pass_to_value p h) c = pass_to_element p (holds_given h c.2)
  holds_given (values.value_of h r) c = first_element (value_is h).element (value_gives h c.1)

nothing_given : {row : OrderedTree} → HasNoValue row → FirstGives row None
nothing_given values.end = no_element
nothing_given (values.pass p h) = pass_to_element p (nothing_given h)

-- a document gives its value, or none
pub document_gives : (o : Options) (tree : OrderedTree) (found : Option Plain) → DocumentValueOf o tree found → HaveColons tree → TreeGives tree found
document_gives o tree None (below, e, h) colons = (Content.root, below, e, Gives.root (nothing_given h))
document_gives o tree (Some v) (below, e, h) colons =
    let inner : HaveColons below = (subst HaveColons e colons).1 in
    (Content.root, below, e, Gives.root (holds_given h inner))
