-- The shape of a document is that of its nodes, each alone, and of its leaves side by side.
use Rattle.std.proofs.Common.{ℕ, ◌≡◌, ◌⊎◌, inl, inr, sym, subst, refl, Bool, true, false, List, [], ◌∷◌, ◌++◌, Option, None, IsTrue, append-nil}
use Rattle.std.proofs.lemmas.List.{append_assoc}
use Rattle.jsonc_text.specs.Options.{Options}
use Rattle.jsonc_text.specs.Text.{next}
use Rattle.jsonc_tree.specs.Content.{Content}
use Rattle.jsonc_tree.specs.OrderedTree.{OrderedTree, none, more, own_leaf, leaves}
use Rattle.jsonc_sound.specs.Shape as shape
use Rattle.jsonc_sound.specs.Shape.{IsTrivia, Trivia, Separated, Closed, ValueShaped, ElementsShaped, PropertiesShaped, PropertyShaped, DocumentShaped, token_then, printed_text}
use Rattle.jsonc_sound.specs.Rows as rows
use Rattle.jsonc_sound.specs.Rows.{RowKind, closing, Last, may_end}
use Rattle.jsonc_sound.specs.Adjacent.{EndsBefore, follower, LeavesEnd}
use Rattle.jsonc_sound.specs.Alone as alone
use Rattle.jsonc_sound.specs.Alone.{may_stand, ValueAlone, PartAlone, RowAlone, PropertyAlone, RootAlone, DocumentAlone}
use Rattle.jsonc_sound.proofs.Ends.{literal_alone, literal_ends, literal_there, name_alone, name_ends, name_there}
use Rattle.jsonc_sound.proofs.Leaves.{joined_leaves, parted_leaves}
use Rattle.jsonc_sound.proofs.Texts.{trivia_leaf, literal_leaf, name_leaf, row_first, behind_name, trivia_all, text_follower}

module _ (o : Options) where
  -- from the shape to each node alone
  over_trivia : {kind : RowKind} {last : Last} {t r : OrderedTree} → Trivia o t r → RowAlone o kind last r → RowAlone o kind last t
  over_trivia shape.nothing g = g
  over_trivia (shape.trivia h t) g = alone.trivia h (over_trivia t g)

  separated_row : {kind : RowKind} {t r : OrderedTree} → Separated o t r → ((last : Last) → IsTrue (may_stand o last) → RowAlone o kind last r) → RowAlone o kind rows.an_element t
  separated_row (shape.comma g h) f = over_trivia g (alone.comma (over_trivia h (f rows.a_comma refl)))
  separated_row (shape.no_comma x g) f = over_trivia g (f rows.an_element x)

  closed_row : {kind : RowKind} {t : OrderedTree} → Closed o (closing kind) t → RowAlone o kind rows.an_element t
  closed_row (shape.plain g) = over_trivia g (alone.closes refl)
  closed_row (shape.trailing_comma x g h) = over_trivia g (alone.comma (over_trivia h (alone.closes x)))

  mutual
    pub value_alone : {content : Content} {below : OrderedTree} {r : List ℕ} → ValueShaped o content below r → ValueAlone o content below
    value_alone {r = r} (shape.literal {content = content} h) = alone.literal (literal_alone o content r h)
    value_alone (shape.empty_array g) = alone.an_array (over_trivia g (alone.closes refl))
    value_alone (shape.array g es) = alone.an_array (over_trivia g (elements_alone rows.nothing_yet refl es))
    value_alone (shape.empty_object g) = alone.an_object (over_trivia g (alone.closes refl))
    value_alone (shape.object g ps) = alone.an_object (over_trivia g (properties_alone rows.nothing_yet refl ps))

    elements_alone : {row : OrderedTree} (last : Last) → IsTrue (may_stand o last) → ElementsShaped o row → RowAlone o rows.of_values last row
    elements_alone last m (shape.last_element v c) = alone.element m (alone.a_value (value_alone v)) (closed_row c)
    elements_alone last m (shape.element v s es) = alone.element m (alone.a_value (value_alone v)) (separated_row s (λ l k. elements_alone l k es))

    properties_alone : {row : OrderedTree} (last : Last) → IsTrue (may_stand o last) → PropertiesShaped o row → RowAlone o rows.of_properties last row
    properties_alone last m (shape.last_property p c) = alone.element m (alone.a_property (property_alone p)) (closed_row c)
    properties_alone last m (shape.property p s ps) = alone.element m (alone.a_property (property_alone p)) (separated_row s (λ l k. properties_alone l k ps))

    pub property_alone : {row : OrderedTree} {r : List ℕ} → PropertyShaped o row r → PropertyAlone o row
    property_alone (shape.named {name = name} {after = after} n g h v) = alone.named (name_alone o name (printed_text after) n) g h (value_alone v)

  -- and to the leaves side by side
  leaf_ends : {content : Content} (after : List Content) (n : Option ℕ) → own_leaf content ≡ content ∷ [] → EndsBefore o content (follower after n) → LeavesEnd o after n → LeavesEnd o (own_leaf content ++ after) n
  leaf_ends after n e h k = subst (λ l. LeavesEnd o (l ++ after) n) (sym e) (h, k)

  node_ends : (a b c : List Content) (n : Option ℕ) → LeavesEnd o (a ++ b) (follower c n) → LeavesEnd o c n → LeavesEnd o (a ++ (b ++ c)) n
  node_ends a b c n h k = subst (λ l. LeavesEnd o l n) (append_assoc a b c) (joined_leaves o (a ++ b) c n h k)

  pub trivia_any : (content : Content) (n : Option ℕ) → IsTrivia o content → EndsBefore o content n
  trivia_any (Content.whitespace s) n h = tt
  trivia_any (Content.newline k) n h = tt
  trivia_any (Content.comment s) n h = tt
  trivia_any content n h = absurd h

  trivia_leaves : {t r : OrderedTree} (n : Option ℕ) → Trivia o t r → LeavesEnd o (leaves r) n → LeavesEnd o (leaves t) n
  trivia_leaves n shape.nothing k = k
  trivia_leaves n (shape.trivia {content = content} {t = t} h g) k = leaf_ends (leaves t) n (trivia_leaf o content h) (trivia_any content (follower (leaves t) n) h) (trivia_leaves n g k)

  separated_leaves : {t r : OrderedTree} (n : Option ℕ) → Separated o t r → LeavesEnd o (leaves r) n → LeavesEnd o (leaves t) n
  separated_leaves n (shape.comma g h) k = trivia_leaves n g (tt, trivia_leaves n h k)
  separated_leaves n (shape.no_comma x g) k = trivia_leaves n g k

  closed_leaves : {b : ℕ} {t : OrderedTree} (n : Option ℕ) → Closed o b t → LeavesEnd o (leaves t) n
  closed_leaves n (shape.plain g) = trivia_leaves n g (tt, tt)
  closed_leaves n (shape.trailing_comma x g h) = trivia_leaves n g (tt, trivia_leaves n h (tt, tt))

  mutual
    pub value_leaves : {content : Content} {below : OrderedTree} {r : List ℕ} → ValueShaped o content below r → LeavesEnd o (own_leaf content ++ leaves below) (next r)
    value_leaves {r = r} (shape.literal {content = content} h) = leaf_ends [] (next r) (literal_leaf o content r h) (literal_ends o content r h) tt
    value_leaves {r = r} (shape.empty_array g) = (tt, trivia_leaves (next r) g (tt, tt))
    value_leaves {r = r} (shape.array g es) = (tt, trivia_leaves (next r) g (elements_leaves (next r) es))
    value_leaves {r = r} (shape.empty_object g) = (tt, trivia_leaves (next r) g (tt, tt))
    value_leaves {r = r} (shape.object g ps) = (tt, trivia_leaves (next r) g (properties_leaves (next r) ps))

    elements_leaves : {row : OrderedTree} (n : Option ℕ) → ElementsShaped o row → LeavesEnd o (leaves row) n
    elements_leaves n (shape.last_element {content = content} {below = below} {after = after} v c) =
        let rest : RowAlone o rows.of_values rows.an_element after = closed_row c in
        node_ends (own_leaf content) (leaves below) (leaves after) n (subst (LeavesEnd o (own_leaf content ++ leaves below)) (row_first o rest n) (value_leaves v)) (closed_leaves n c)
    elements_leaves n (shape.element {content = content} {below = below} {after = after} v s es) =
        let rest : RowAlone o rows.of_values rows.an_element after = separated_row s (λ l k. elements_alone l k es) in
        node_ends (own_leaf content) (leaves below) (leaves after) n (subst (LeavesEnd o (own_leaf content ++ leaves below)) (row_first o rest n) (value_leaves v)) (separated_leaves n s (elements_leaves n es))

    properties_leaves : {row : OrderedTree} (n : Option ℕ) → PropertiesShaped o row → LeavesEnd o (leaves row) n
    properties_leaves n (shape.last_property {below = below} {after = after} p c) =
        let rest : RowAlone o rows.of_properties rows.an_element after = closed_row c in
        joined_leaves o (leaves below) (leaves after) n (subst (LeavesEnd o (leaves below)) (row_first o rest n) (property_leaves p)) (closed_leaves n c)
    properties_leaves n (shape.property {below = below} {after = after} p s ps) =
        let rest : RowAlone o rows.of_properties rows.an_element after = separated_row s (λ l k. properties_alone l k ps) in
        joined_leaves o (leaves below) (leaves after) n (subst (LeavesEnd o (leaves below)) (row_first o rest n) (property_leaves p)) (separated_leaves n s (properties_leaves n ps))

    pub property_leaves : {row : OrderedTree} {r : List ℕ} → PropertyShaped o row r → LeavesEnd o (leaves row) (next r)
    property_leaves {r = r} (shape.named {name = name} {content = content} {below = below} {after = after} n g h v) =
        leaf_ends (leaves after) (next r) (name_leaf o name (printed_text after) n) (subst (EndsBefore o name) (behind_name o g h (value_alone v) (next r)) (name_ends o name (printed_text after) n))
        (trivia_leaves (next r) g (tt, trivia_leaves (next r) h (node_ends (own_leaf content) (leaves below) [] (next r) (value_leaves v) tt)))

  -- and back: one or more elements and the last bracket, and the rest of a row by what stood last
  abbrev PartsShaped : RowKind → OrderedTree → Type 0
  PartsShaped rows.of_values row = ElementsShaped o row
  PartsShaped rows.of_properties row = PropertiesShaped o row

  abbrev Rest : RowKind → Last → OrderedTree → Type 0
  Rest kind rows.nothing_yet row = Trivia o row (token_then (closing kind) none) ⊎ ((u : OrderedTree) × Trivia o row u × PartsShaped kind u)
  Rest kind rows.an_element row = Closed o (closing kind) row ⊎ ((u : OrderedTree) × Separated o row u × PartsShaped kind u)
  Rest kind rows.a_comma row = (IsTrue o.trailing_commas × Trivia o row (token_then (closing kind) none)) ⊎ ((u : OrderedTree) × Trivia o row u × PartsShaped kind u)

  trivia_separated : {content : Content} {t r : OrderedTree} → IsTrivia o content → Separated o t r → Separated o (more content none t) r
  trivia_separated h (shape.comma g k) = shape.comma (shape.trivia h g) k
  trivia_separated h (shape.no_comma x g) = shape.no_comma x (shape.trivia h g)

  trivia_closed : {content : Content} {b : ℕ} {t : OrderedTree} → IsTrivia o content → Closed o b t → Closed o b (more content none t)
  trivia_closed h (shape.plain g) = shape.plain (shape.trivia h g)
  trivia_closed h (shape.trailing_comma x g k) = shape.trailing_comma x (shape.trivia h g) k

  closed_rest : (kind : RowKind) (last : Last) → IsTrue (may_end o last) → Rest kind last (token_then (closing kind) none)
  closed_rest kind rows.nothing_yet m = inl shape.nothing
  closed_rest kind rows.an_element m = inl (shape.plain shape.nothing)
  closed_rest kind rows.a_comma m = inl (m, shape.nothing)

  trivia_rest : (kind : RowKind) (last : Last) (content : Content) (after : OrderedTree) → IsTrivia o content → Rest kind last after → Rest kind last (more content none after)
  trivia_rest kind rows.nothing_yet content after h (inl g) = inl (shape.trivia h g)
  trivia_rest kind rows.nothing_yet content after h (inr k) = inr (k.0, shape.trivia h k.1, k.2)
  trivia_rest kind rows.an_element content after h (inl c) = inl (trivia_closed h c)
  trivia_rest kind rows.an_element content after h (inr k) = inr (k.0, trivia_separated h k.1, k.2)
  trivia_rest kind rows.a_comma content after h (inl g) = inl (g.0, shape.trivia h g.1)
  trivia_rest kind rows.a_comma content after h (inr k) = inr (k.0, shape.trivia h k.1, k.2)

  begun_rest : (kind : RowKind) (last : Last) (row : OrderedTree) → IsTrue (may_stand o last) → PartsShaped kind row → Rest kind last row
  begun_rest kind rows.nothing_yet row m p = inr (row, shape.nothing, p)
  begun_rest kind rows.an_element row m p = inr (row, shape.no_comma m shape.nothing, p)
  begun_rest kind rows.a_comma row m p = inr (row, shape.nothing, p)

  comma_rest : (kind : RowKind) (after : OrderedTree) → Rest kind rows.a_comma after → Rest kind rows.an_element (token_then 0x2C after)
  comma_rest kind after (inl g) = inl (shape.trailing_comma g.0 shape.nothing g.1)
  comma_rest kind after (inr k) = inr (k.0, shape.comma shape.nothing k.1, k.2)

  one_element : (content : Content) (below after : OrderedTree) → ValueShaped o content below (printed_text after) → Rest rows.of_values rows.an_element after → ElementsShaped o (more content below after)
  one_element content below after v (inl c) = shape.last_element v c
  one_element content below after v (inr k) = shape.element v k.1 k.2

  one_property : (below after : OrderedTree) → PropertyShaped o below (printed_text after) → Rest rows.of_properties rows.an_element after → PropertiesShaped o (more Content.property below after)
  one_property below after p (inl c) = shape.last_property p c
  one_property below after p (inr k) = shape.property p k.1 k.2

  -- the leaves of a node, and of those after it
  own_part : {kind : RowKind} {last : Last} (a b : List Content) (after : OrderedTree) (n : Option ℕ) → RowAlone o kind last after → LeavesEnd o (a ++ (b ++ leaves after)) n → LeavesEnd o (a ++ b) (next (printed_text after)) × LeavesEnd o (leaves after) n
  own_part a b after n g e =
      let k = parted_leaves o (a ++ b) (leaves after) n (subst (λ l. LeavesEnd o l n) (sym (append_assoc a b (leaves after))) e) in
      (subst (LeavesEnd o (a ++ b)) (sym (row_first o g n)) k.0, k.1)

  leaf_parted : {content : Content} (after : List Content) (n : Option ℕ) → own_leaf content ≡ content ∷ [] → LeavesEnd o (own_leaf content ++ after) n → EndsBefore o content (follower after n) × LeavesEnd o after n
  leaf_parted after n e h = subst (λ l. LeavesEnd o (l ++ after) n) e h

  behind_trivia : {t r : OrderedTree} (n : Option ℕ) → Trivia o t r → LeavesEnd o (leaves t) n → LeavesEnd o (leaves r) n
  behind_trivia n shape.nothing k = k
  behind_trivia n (shape.trivia {content = content} {t = t} h g) k = behind_trivia n g (leaf_parted (leaves t) n (trivia_leaf o content h) k).1

  mutual
    pub value_shaped : {content : Content} {below : OrderedTree} (r : List ℕ) → ValueAlone o content below → LeavesEnd o (own_leaf content ++ leaves below) (next r) → ValueShaped o content below r
    value_shaped r (alone.literal {content = content} h) e = shape.literal (literal_there o content r h (leaf_parted [] (next r) (literal_leaf o content [] h) e).0)
    value_shaped r (alone.an_array g) e = elim (row_rest (next r) g e.1) [ inl k ↦ shape.empty_array k | inr k ↦ shape.array k.1 k.2 ]
    value_shaped r (alone.an_object g) e = elim (row_rest (next r) g e.1) [ inl k ↦ shape.empty_object k | inr k ↦ shape.object k.1 k.2 ]

    one_part : {kind : RowKind} {content : Content} {below : OrderedTree} (after : OrderedTree) → PartAlone o kind content below → LeavesEnd o (own_leaf content ++ leaves below) (next (printed_text after)) → Rest kind rows.an_element after
        → PartsShaped kind (more content below after)
    one_part after (alone.a_value {content = content} {below = below} v) e k = one_element content below after (value_shaped (printed_text after) v e) k
    one_part after (alone.a_property {below = below} p) e k = one_property below after (property_shaped (printed_text after) p e) k

    row_rest : {kind : RowKind} {last : Last} {row : OrderedTree} (n : Option ℕ) → RowAlone o kind last row → LeavesEnd o (leaves row) n → Rest kind last row
    row_rest {kind} n (alone.closes {last = last} m) e = closed_rest kind last m
    row_rest {kind} n (alone.trivia {last = last} {content = content} {after = after} h g) e = trivia_rest kind last content after h (row_rest n g (leaf_parted (leaves after) n (trivia_leaf o content h) e).1)
    row_rest {kind} n (alone.element {last = last} {content = content} {below = below} {after = after} m p g) e =
        let k = own_part (own_leaf content) (leaves below) after n g e in
        begun_rest kind last (more content below after) m (one_part after p k.0 (row_rest n g k.1))
    row_rest {kind} n (alone.comma {after = after} g) e = comma_rest kind after (row_rest n g e.1)

    property_shaped : {row : OrderedTree} (r : List ℕ) → PropertyAlone o row → LeavesEnd o (leaves row) (next r) → PropertyShaped o row r
    property_shaped r (alone.named {name = name} {content = content} {below = below} {after = after} n g h v) e =
        let k = leaf_parted (leaves after) (next r) (name_leaf o name [] n) e in
        let behind = behind_trivia (next r) h (behind_trivia (next r) g k.1).1 in
        let own = subst (λ l. LeavesEnd o (own_leaf content ++ l) (next r)) (append-nil (leaves below)) behind in
        shape.named (name_there o name (printed_text after) n (subst (EndsBefore o name) (sym (behind_name o g h v (next r))) k.0)) g h (value_shaped r v own)

  -- the root's row
  root_over_trivia : {stood : Bool} {t r : OrderedTree} → Trivia o t r → RootAlone o stood r → RootAlone o stood t
  root_over_trivia shape.nothing g = g
  root_over_trivia (shape.trivia h t) g = alone.root_trivia h (root_over_trivia t g)

  pub document_alone : {tree : OrderedTree} → DocumentShaped o tree → DocumentAlone o tree
  document_alone (shape.no_value {row = row} g) = (row, refl, root_over_trivia g alone.root_ends)
  document_alone (shape.a_value {row = row} g v h) = (row, refl, root_over_trivia g (alone.root_value (value_alone v) (root_over_trivia h alone.root_ends)))

  trivia_first : {row : OrderedTree} → Trivia o row none → next (printed_text row) ≡ follower (leaves row) None
  trivia_first {row} g = text_follower (leaves row) (trivia_all o g tt)

  pub document_leaves : {tree : OrderedTree} → DocumentShaped o tree → LeavesEnd o (leaves tree) None
  document_leaves (shape.no_value {row = row} g) = subst (λ l. LeavesEnd o l None) (sym (append-nil (leaves row))) (trivia_leaves None g tt)
  document_leaves (shape.a_value {content = content} {row = row} {below = below} {after = after} g v h) =
      let value = node_ends (own_leaf content) (leaves below) (leaves after) None (subst (LeavesEnd o (own_leaf content ++ leaves below)) (trivia_first h) (value_leaves v)) (trivia_leaves None h tt) in
      subst (λ l. LeavesEnd o l None) (sym (append-nil (leaves row))) (trivia_leaves None g value)

  -- trivia, a value and trivia
  record AroundValue (row : OrderedTree) : Type 0 where
    content : Content
    below : OrderedTree
    after : OrderedTree
    before_it : Trivia o row (more content below after)
    value : ValueShaped o content below (printed_text after)
    behind_it : Trivia o after none

  abbrev RootRest : Bool → OrderedTree → Type 0
  RootRest true row = Trivia o row none
  RootRest false row = Trivia o row none ⊎ AroundValue row

  root_trivia_rest : (stood : Bool) (content : Content) (after : OrderedTree) → IsTrivia o content → RootRest stood after → RootRest stood (more content none after)
  root_trivia_rest true content after h g = shape.trivia h g
  root_trivia_rest false content after h (inl g) = inl (shape.trivia h g)
  root_trivia_rest false content after h (inr k) = inr (record { content = k.content; below = k.below; after = k.after; before_it = shape.trivia h k.before_it; value = k.value; behind_it = k.behind_it })

  root_end_rest : (stood : Bool) → RootRest stood none
  root_end_rest true = shape.nothing
  root_end_rest false = inl shape.nothing

  root_rest : {stood : Bool} {row : OrderedTree} → RootAlone o stood row → LeavesEnd o (leaves row) None → RootRest stood row
  root_rest (alone.root_ends {stood = stood}) e = root_end_rest stood
  root_rest (alone.root_trivia {stood = stood} {content = content} {after = after} h g) e = root_trivia_rest stood content after h (root_rest g (leaf_parted (leaves after) None (trivia_leaf o content h) e).1)
  root_rest (alone.root_value {content = content} {below = below} {after = after} v g) e =
      let k = parted_leaves o (own_leaf content ++ leaves below) (leaves after) None (subst (λ l. LeavesEnd o l None) (sym (append_assoc (own_leaf content) (leaves below) (leaves after))) e) in
      let behind = root_rest g k.1 in
      inr (record { content = content; below = below; after = after; before_it = shape.nothing; value = value_shaped (printed_text after) v (subst (LeavesEnd o (own_leaf content ++ leaves below)) (sym (trivia_first behind)) k.0); behind_it = behind })

  pub document_shaped : {tree : OrderedTree} → DocumentAlone o tree → LeavesEnd o (leaves tree) None → DocumentShaped o tree
  document_shaped {tree} (row, same, g) e =
      let own = subst (λ l. LeavesEnd o l None) (append-nil (leaves row)) (subst (λ t. LeavesEnd o (leaves t) None) same e) in
      subst (DocumentShaped o) (sym same) (elim (root_rest g own) [ inl k ↦ shape.no_value k | inr k ↦ shape.a_value k.before_it k.value k.behind_it ])
