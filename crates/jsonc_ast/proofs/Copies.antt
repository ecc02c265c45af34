-- Copies, level by level.
use Rattle.std.proofs.Common.{◌≡◌, ◌≢◌, ◌∙◌, ℕ, ◌+◌, ◌<◌, ◌≤◌, Bool, List, [], ◌∷◌, ◌++◌, Vec, map, take, get_or, length, chars, sym, ap, rules, arith}
use Rattle.std.proofs.lemmas.List.{map_push, take_all, take_more}
use Rattle.std.specs.Cow.{cow_str_bytes}
use Rattle.std.specs.List.{flat_map}
use denote.Param.Weighed.{most, at_most}
use Rattle.jsonc_text.specs.declared.common.Range.{Range}
use Rattle.jsonc_text.specs.Plain.{string}
use Rattle.jsonc_walk.specs.Located.{Located, LocatedName, leaf_at, array_at, object_at, LocatedMember, items_of, members_of}
use Rattle.jsonc_ast.specs.Views.{located, object_located, member_of}
use Rattle.jsonc_walk.specs.Name.{name_at, in_quotes}
use Rattle.jsonc_ast.specs.Copies.{array_located, quotes, quotes_in_array, quotes_in_object, quotes_in_property}
use Rattle.jsonc_ast.specs.declared.ast.Value.{Value, size-Value, the_lemmas}
use Rattle.jsonc_ast.specs.declared.ast.Value as value
use Rattle.jsonc_walk.specs.declared.name.StringLit.{StringLit}
use Rattle.jsonc_walk.specs.declared.name.ObjectPropName.{ObjectPropName}
use Rattle.jsonc_ast.specs.declared.ast.Array.{Array, roll-Array, size-Array}
use Rattle.jsonc_ast.specs.declared.ast.Object.{Object, roll-Object, size-Object}
use Rattle.jsonc_ast.specs.declared.ast.Object as object_parts
use Rattle.jsonc_ast.specs.declared.ast.ObjectProp.{ObjectProp, roll-ObjectProp, size-ObjectProp}

-- the first of these are copied, with the names in them
pub record AreCopied {X Y : Type 0} (placed : X → Y) (names : X → List Bool) (copies : List X) (i : ℕ) (xs : List X) : Type 0 where
  pub values : map placed copies ≡ map placed (take i xs)
  pub quotes : map names copies ≡ map names (take i xs)

one_more : {X Y : Type 0} (f : X → Y) (xs copies new : List X) (i : ℕ) (x copy : X)
    → map f copies ≡ map f (take i xs) → i < length xs → x ≡ get_or xs i x → f copy ≡ f x → new ≡ copies ++ copy ∷ []
    → map f new ≡ map f (take (i + 1) xs)
one_more f xs copies new i x copy so_far within at same pushed =
    ap (map f) pushed ∙ map_push f copies copy ∙ (λ j. so_far j ++ same j ∷ []) ∙ ap (λ y. map f (take i xs) ++ f y ∷ []) at
    ∙ sym (map_push f (take i xs) (get_or xs i x)) ∙ ap (map f) (sym (take_more xs i x within))

pub one_copied : {X Y : Type 0} (placed : X → Y) (names : X → List Bool) (xs copies new : List X) (i : ℕ) (x copy : X)
    → AreCopied placed names copies i xs → i < length xs → x ≡ get_or xs i x → placed copy ≡ placed x → names copy ≡ names x → new ≡ copies ++ copy ∷ []
    → AreCopied placed names new (i + 1) xs
one_copied placed names xs copies new i x copy so_far within at same_value same_names pushed = record {
  values = one_more placed xs copies new i x copy so_far.values within at same_value pushed;
  quotes = one_more names xs copies new i x copy so_far.quotes within at same_names pushed;
}

module _ {A : Type 0} where
  pub located-Array : (a : Array A) → located (value.Array a) ≡ array_located a
  located-Array a = search (rules, the_lemmas)

  pub located-Object : (o : Object A) → located (value.Object o) ≡ object_located o
  located-Object o = search (rules, the_lemmas)

  pub quotes-Array : (a : Array A) → quotes (value.Array a) ≡ quotes_in_array a
  quotes-Array a = search (rules, the_lemmas)

  pub quotes-Object : (o : Object A) → quotes (value.Object o) ≡ quotes_in_object o
  quotes-Object o = search (rules, the_lemmas)

-- none are copied yet
pub none_copied : {X Y : Type 0} (placed : X → Y) (names : X → List Bool) (xs copies : List X) → copies ≡ [] → AreCopied placed names copies 0 xs
none_copied placed names xs copies e = record { values = ap (map placed) e; quotes = ap (map names) e }

-- all are copied
pub all_copied : {X Y : Type 0} (f : X → Y) (xs copies : List X) (i : ℕ) → length xs ≤ i → map f copies ≡ map f (take i xs) → map f copies ≡ map f xs
all_copied f xs copies i h e = e ∙ ap (map f) (take_all i xs h)

abbrev member : Range → LocatedName → Located → LocatedMember
member r n x = record { range = r; name = n; value = x }

module _ {A : Type 0} where
  view-Array : (a : Array A) → array_located a ≡ array_at a.range (items_of (map located a.elements.items))
  view-Array a = search (rules, the_lemmas)

  view-quotes-Array : (a : Array A) → quotes_in_array a ≡ flat_map (λ names. names) (map quotes a.elements.items)
  view-quotes-Array a = search (rules, the_lemmas)

  pub array_copied : (a : Array A) (elements : Vec (Value A) A) → map located elements.items ≡ map located a.elements.items
      → array_located (roll-Array A record { range = a.range; elements = elements }) ≡ array_located a
  array_copied a elements e = view-Array (roll-Array A record { range = a.range; elements = elements }) ∙ ap (λ xs. array_at a.range (items_of xs)) e ∙ sym (view-Array a)

  pub array_quotes_copied : (a : Array A) (elements : Vec (Value A) A) → map quotes elements.items ≡ map quotes a.elements.items
      → quotes_in_array (roll-Array A record { range = a.range; elements = elements }) ≡ quotes_in_array a
  array_quotes_copied a elements e = view-quotes-Array (roll-Array A record { range = a.range; elements = elements }) ∙ ap (flat_map (λ names. names)) e ∙ sym (view-quotes-Array a)

  view-Object : (o : Object A) → object_located o ≡ object_at (object_parts.out-Object A o).range (members_of (map member_of (object_parts.out-Object A o).properties.items))
  view-Object o = search (rules, the_lemmas)

  view-new-Object : (r : Range) (properties : Vec (ObjectProp A) A) → object_located (roll-Object A record { range = r; properties = properties }) ≡ object_at r (members_of (map member_of properties.items))
  view-new-Object r properties = search (rules, the_lemmas)

  view-quotes-Object : (o : Object A) → quotes_in_object o ≡ flat_map (λ names. names) (map quotes_in_property (object_parts.out-Object A o).properties.items)
  view-quotes-Object o = search (rules, the_lemmas)

  view-quotes-new-Object : (r : Range) (properties : Vec (ObjectProp A) A) → quotes_in_object (roll-Object A record { range = r; properties = properties }) ≡ flat_map (λ names. names) (map quotes_in_property properties.items)
  view-quotes-new-Object r properties = search (rules, the_lemmas)

  pub object_copied : (o : Object A) (properties : Vec (ObjectProp A) A) → map member_of properties.items ≡ map member_of (object_parts.out-Object A o).properties.items
      → object_located (roll-Object A record { range = (object_parts.out-Object A o).range; properties = properties }) ≡ object_located o
  object_copied o properties e = view-new-Object (object_parts.out-Object A o).range properties ∙ ap (λ ms. object_at (object_parts.out-Object A o).range (members_of ms)) e ∙ sym (view-Object o)

  pub object_quotes_copied : (o : Object A) (properties : Vec (ObjectProp A) A) → map quotes_in_property properties.items ≡ map quotes_in_property (object_parts.out-Object A o).properties.items
      → quotes_in_object (roll-Object A record { range = (object_parts.out-Object A o).range; properties = properties }) ≡ quotes_in_object o
  object_quotes_copied o properties e = view-quotes-new-Object (object_parts.out-Object A o).range properties ∙ ap (flat_map (λ names. names)) e ∙ sym (view-quotes-Object o)

  view-property : (p : ObjectProp A) → member_of p ≡ record { range = p.range; name = name_at p.name; value = located p.value }
  view-property p = search (rules, the_lemmas)

  view-quotes-property : (p : ObjectProp A) → quotes_in_property p ≡ in_quotes p.name ∷ quotes p.value
  view-quotes-property p = search (rules, the_lemmas)

  pub property_copied : (p : ObjectProp A) (name : ObjectPropName A) (v : Value A) → name_at name ≡ name_at p.name → located v ≡ located p.value
      → member_of (roll-ObjectProp A record { range = p.range; name = name; value = v }) ≡ member_of p
  property_copied p name v n e = view-property (roll-ObjectProp A record { range = p.range; name = name; value = v }) ∙ (λ j. member p.range (n j) (e j)) ∙ sym (view-property p)

  pub property_quotes_copied : (p : ObjectProp A) (name : ObjectPropName A) (v : Value A) → in_quotes name ≡ in_quotes p.name → quotes v ≡ quotes p.value
      → quotes_in_property (roll-ObjectProp A record { range = p.range; name = name; value = v }) ≡ quotes_in_property p
  property_quotes_copied p name v n e = view-quotes-property (roll-ObjectProp A record { range = p.range; name = name; value = v }) ∙ (λ j. n j ∷ e j) ∙ sym (view-quotes-property p)

  view-StringLit : (s : StringLit A) → located (value.StringLit s) ≡ leaf_at s.range (string (chars (cow_str_bytes s.value)))
  view-StringLit s = search (rules, the_lemmas)

  pub string_copied : (s copy : StringLit A) → copy.range ≡ s.range → cow_str_bytes copy.value ≡ cow_str_bytes s.value → located (value.StringLit copy) ≡ located (value.StringLit s)
  string_copied s copy r e = view-StringLit copy ∙ (λ j. leaf_at (r j) (string (chars (e j)))) ∙ sym (view-StringLit s)

  view-quotes-StringLit : (s : StringLit A) → quotes (value.StringLit s) ≡ []
  view-quotes-StringLit s = search (rules, the_lemmas)

  pub string_quotes_copied : (s copy : StringLit A) → quotes (value.StringLit copy) ≡ quotes (value.StringLit s)
  string_quotes_copied s copy = view-quotes-StringLit copy ∙ sym (view-quotes-StringLit s)

-- what is inside is less deep
pub size-in-array : (A : Type 0) (a : Array A) → most (λ x. size-Value A x) a.elements.items < size-Array A a
size-in-array A a = search (rules, the_lemmas)

pub size-of-array : (A : Type 0) (a : Array A) → size-Array A a < size-Value A (value.Array a)
size-of-array A a = search (rules, the_lemmas)

pub size-in-object : (A : Type 0) (o : Object A) → most (λ x. size-ObjectProp A x) (object_parts.out-Object A o).properties.items < size-Object A o
size-in-object A o = search (rules, the_lemmas)

pub size-of-object : (A : Type 0) (o : Object A) → size-Object A o < size-Value A (value.Object o)
size-of-object A o = search (rules, the_lemmas)

pub size-in-property : (A : Type 0) (p : ObjectProp A) → size-Value A p.value < size-ObjectProp A p
size-in-property A p = search (rules, the_lemmas)

pub size-element : (A : Type 0) (vs : List (Value A)) (i : ℕ) (v : Value A) → i < length vs → v ≡ get_or vs i v → size-Value A v ≤ most (λ x. size-Value A x) vs
size-element A vs i v h e = let within = at_most (λ x. size-Value A x) vs i v h in omega (arith, within, ap (λ x. size-Value A x) e)

pub size-member : (A : Type 0) (ps : List (ObjectProp A)) (i : ℕ) (p : ObjectProp A) → i < length ps → p ≡ get_or ps i p → size-ObjectProp A p ≤ most (λ x. size-ObjectProp A x) ps
size-member A ps i p h e = let within = at_most (λ x. size-ObjectProp A x) ps i p h in omega (arith, within, ap (λ x. size-ObjectProp A x) e)

-- what has an element is not empty
pub not_empty : {X : Type 0} (xs : List X) (i : ℕ) → i < length xs → xs ≢ []
not_empty xs i within = λ none. omega (arith, within, ap length none)
