-- Rows of a document: each child is whole, a leaf, a value or a property.
use Rattle.std.proofs.Common.{◌≡◌, refl, subst, Bool, false, List}
use Rattle.jsonc_text.specs.Options.{Options}
use Rattle.jsonc_tree.specs.Content.{Content, root, property, is_container}
use Rattle.jsonc_tree.specs.OrderedTree.{OrderedTree, none, more, followed_by}
use Rattle.jsonc_sound.specs.Shape as shape
use Rattle.jsonc_sound.specs.Shape.{IsTrivia, Trivia, token_then}
use Rattle.jsonc_sound.specs.Rows.{RowKind, Last}
use Rattle.jsonc_sound.specs.Alone as alone
use Rattle.jsonc_sound.specs.Alone.{ValueAlone, PartAlone, RowAlone, PropertyAlone, StretchAlone, RootAlone, DocumentAlone}
use Rattle.jsonc_sound.proofs.RowsWithin.{Within, here, deeper, later, no_row}
use Rattle.jsonc_edit.proofs.LeafKinds.{name_leaf}

-- a leaf with nothing below it, a value, or a property
pub data IsWhole (o : Options) : Content → OrderedTree → Type 0 where
  whole_leaf : {content : Content} → is_container content ≡ false → IsWhole o content none
  whole_value : {content : Content} {below : OrderedTree} → ValueAlone o content below → IsWhole o content below
  whole_property : {below : OrderedTree} → PropertyAlone o below → IsWhole o property below

-- each of a row is
pub data Whole (o : Options) : OrderedTree → Type 0 where
  none_whole : Whole o none
  more_whole : {content : Content} {below after : OrderedTree} → IsWhole o content below → Whole o after → Whole o (more content below after)

trivia_leaf : (o : Options) (content : Content) → IsTrivia o content → is_container content ≡ false
trivia_leaf o (Content.whitespace s) h = refl
trivia_leaf o (Content.newline k) h = refl
trivia_leaf o (Content.comment s) h = refl
trivia_leaf o content h = absurd h

module _ (o : Options) where
  -- so with a part of the row, and two parts
  more_front : {content : Content} {below after : OrderedTree} → Whole o (more content below after) → IsWhole o content below
  more_front (more_whole w r) = w

  more_back : {content : Content} {below after : OrderedTree} → Whole o (more content below after) → Whole o after
  more_back (more_whole w r) = r

  pub whole_before : (t u : OrderedTree) → Whole o (followed_by t u) → Whole o t
  whole_before none u w = none_whole
  whole_before (more content below after) u w = more_whole (more_front w) (whole_before after u (more_back w))

  pub whole_behind : (t u : OrderedTree) → Whole o (followed_by t u) → Whole o u
  whole_behind none u w = w
  whole_behind (more content below after) u w = whole_behind after u (more_back w)

  -- rows of containers, of properties and of the root
  trivia_whole : {t r : OrderedTree} → Trivia o t r → Whole o r → Whole o t
  trivia_whole shape.nothing w = w
  trivia_whole (shape.trivia {content = content} h g) w = more_whole (whole_leaf (trivia_leaf o content h)) (trivia_whole g w)

  pub part_whole : {kind : RowKind} {content : Content} {below : OrderedTree} → PartAlone o kind content below → IsWhole o content below
  part_whole (alone.a_value v) = whole_value v
  part_whole (alone.a_property p) = whole_property p

  pub row_whole : {kind : RowKind} {last : Last} {row : OrderedTree} → RowAlone o kind last row → Whole o row
  row_whole (alone.closes m) = more_whole (whole_leaf refl) none_whole
  row_whole (alone.trivia {content = content} h g) = more_whole (whole_leaf (trivia_leaf o content h)) (row_whole g)
  row_whole (alone.element m p g) = more_whole (part_whole p) (row_whole g)
  row_whole (alone.comma g) = more_whole (whole_leaf refl) (row_whole g)

  pub stretch_whole : {kind : RowKind} {last to : Last} {stretch : OrderedTree} → StretchAlone o kind last stretch to → Whole o stretch
  stretch_whole alone.stays = none_whole
  stretch_whole (alone.past_trivia {content = content} h g) = more_whole (whole_leaf (trivia_leaf o content h)) (stretch_whole g)
  stretch_whole (alone.past_element m p g) = more_whole (part_whole p) (stretch_whole g)
  stretch_whole (alone.past_comma g) = more_whole (whole_leaf refl) (stretch_whole g)

  pub value_row_whole : {content : Content} {below : OrderedTree} → ValueAlone o content below → Whole o below
  value_row_whole (alone.literal h) = none_whole
  value_row_whole (alone.an_array g) = more_whole (whole_leaf refl) (row_whole g)
  value_row_whole (alone.an_object g) = more_whole (whole_leaf refl) (row_whole g)

  pub property_whole : {row : OrderedTree} → PropertyAlone o row → Whole o row
  property_whole (alone.named {name = name} n g h v) = more_whole (whole_leaf (name_leaf o name n)) (trivia_whole g (more_whole (whole_leaf refl) (trivia_whole h (more_whole (whole_value v) none_whole))))

  part_row_whole : {kind : RowKind} {content : Content} {below : OrderedTree} → PartAlone o kind content below → Whole o below
  part_row_whole (alone.a_value v) = value_row_whole v
  part_row_whole (alone.a_property p) = property_whole p

  pub root_whole : {stood : Bool} {row : OrderedTree} → RootAlone o stood row → Whole o row
  root_whole alone.root_ends = none_whole
  root_whole (alone.root_trivia {content = content} h g) = more_whole (whole_leaf (trivia_leaf o content h)) (root_whole g)
  root_whole (alone.root_value v g) = more_whole (whole_value v) (root_whole g)

  -- and each row below them
  trivia_in : {t r x : OrderedTree} {f b : List Content} → Trivia o t r → ((g c : List Content) → Within x g c r → Whole o x) → Within x f b t → Whole o x
  trivia_in {f = f} {b = b} shape.nothing k w = k f b w
  trivia_in (shape.trivia h g) k here = none_whole
  trivia_in (shape.trivia h g) k (deeper w) = absurd (no_row w)
  trivia_in (shape.trivia h g) k (later w) = trivia_in g k w

  at_value : {content : Content} {below x : OrderedTree} {f b : List Content} → ValueAlone o content below → ((e c : List Content) → Within x e c below → Whole o x) → Within x f b (more content below none) → Whole o x
  at_value v inside here = value_row_whole v
  at_value v inside (deeper {f = f} {b = b} w) = inside f b w
  at_value v inside (later w) = absurd (no_row w)

  behind_colon : {content : Content} {below u x : OrderedTree} {f b : List Content} → Trivia o u (more content below none) → ValueAlone o content below → ((e c : List Content) → Within x e c below → Whole o x) → Within x f b (token_then 0x3A u) → Whole o x
  behind_colon h v inside here = none_whole
  behind_colon h v inside (deeper w) = absurd (no_row w)
  behind_colon h v inside (later w) = trivia_in h (λ e c k. at_value v inside k) w

  mutual
    value_in : {content : Content} {below x : OrderedTree} {f b : List Content} → ValueAlone o content below → Within x f b below → Whole o x
    value_in (alone.literal h) w = absurd (no_row w)
    value_in (alone.an_array g) here = none_whole
    value_in (alone.an_array g) (deeper w) = absurd (no_row w)
    value_in (alone.an_array g) (later w) = row_in g w
    value_in (alone.an_object g) here = none_whole
    value_in (alone.an_object g) (deeper w) = absurd (no_row w)
    value_in (alone.an_object g) (later w) = row_in g w

    part_in : {kind : RowKind} {content : Content} {below x : OrderedTree} {f b : List Content} → PartAlone o kind content below → Within x f b below → Whole o x
    part_in (alone.a_value v) w = value_in v w
    part_in (alone.a_property p) w = property_in p w

    row_in : {kind : RowKind} {last : Last} {row x : OrderedTree} {f b : List Content} → RowAlone o kind last row → Within x f b row → Whole o x
    row_in (alone.closes m) here = none_whole
    row_in (alone.closes m) (deeper w) = absurd (no_row w)
    row_in (alone.closes m) (later w) = absurd (no_row w)
    row_in (alone.trivia h g) here = none_whole
    row_in (alone.trivia h g) (deeper w) = absurd (no_row w)
    row_in (alone.trivia h g) (later w) = row_in g w
    row_in (alone.element m p g) here = part_row_whole p
    row_in (alone.element m p g) (deeper w) = part_in p w
    row_in (alone.element m p g) (later w) = row_in g w
    row_in (alone.comma g) here = none_whole
    row_in (alone.comma g) (deeper w) = absurd (no_row w)
    row_in (alone.comma g) (later w) = row_in g w

    property_in : {row x : OrderedTree} {f b : List Content} → PropertyAlone o row → Within x f b row → Whole o x
    property_in (alone.named n g h v) here = none_whole
    property_in (alone.named n g h v) (deeper w) = absurd (no_row w)
    property_in (alone.named n g h v) (later w) = trivia_in g (λ e c k. behind_colon h v (λ i j l. value_in v l) k) w

  root_in : {stood : Bool} {row x : OrderedTree} {f b : List Content} → RootAlone o stood row → Within x f b row → Whole o x
  root_in alone.root_ends w = absurd (no_row w)
  root_in (alone.root_trivia h g) here = none_whole
  root_in (alone.root_trivia h g) (deeper w) = absurd (no_row w)
  root_in (alone.root_trivia h g) (later w) = root_in g w
  root_in (alone.root_value v g) here = value_row_whole v
  root_in (alone.root_value v g) (deeper w) = value_in v w
  root_in (alone.root_value v g) (later w) = root_in g w

  pub whole_within : {t x : OrderedTree} {f b : List Content} → DocumentAlone o t → Within x f b t → Whole o x
  whole_within {t} {x} {f} {b} (row, e, g) w = by row g (subst (Within x f b) e w)
    where
      by : (row : OrderedTree) → RootAlone o false row → {h c : List Content} → Within x h c (more root row none) → Whole o x
      by row g here = root_whole g
      by row g (deeper k) = root_in g k
      by row g (later k) = absurd (no_row k)
