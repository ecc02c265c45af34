-- Values of a view, taken as values: how large they are, and what is made of them one after another.
use Rattle.std.proofs.Common.{◌≡◌, ◌≤◌, ◌+◌, ◌∙◌, ℕ, zero, suc, List, [], ◌∷◌, ◌++◌, length, map, take, Option, Some, None, slice_get, refl, sym, ap, subst, arith, add-one, IsUtf8}
use Rattle.std.proofs.lemmas.List.{map_push, take_all}
use Rattle.std.specs.Cow.{cow_str_bytes}
use Rattle.std.specs.declared.borrow.CowStr.{CowStr}
use Rattle.indexmap.specs.IndexMap.{insert_all}
use Rattle.jsonc_text.specs.Plain.{Plain, null, boolean, number, string, array, object, Items, no_items, item, Members, no_members, member, collapse, collapse_items, collapse_members}
use Rattle.jsonc_text.proofs.Collapse.{push, put, collapse_push}
use Rattle.jsonc_value.specs.declared.value.JsonValue.{JsonValue}
use Rattle.jsonc_value.specs.to_value.Made.{AreTexts}
use Rattle.jsonc_value.specs.to_value.Views.{name_of, items_of, items_plain, members_plain, same_name}
use Rattle.jsonc_value.specs.to_value.Views as values
use Rattle.jsonc_value.proofs.lemmas.to_value.Insertions.{insert_puts, insert_texts}
use Rattle.jsonc_view.specs.Lists.{list_of, pairs_of}
use Rattle.jsonc_view.proofs.Collapsed.{append, append_none, append_push}
use Rattle.jsonc_view.proofs.Reading.{take_step}

-- how large a value is
abbrev mutual
  pub size : Plain → ℕ
  size null = zero
  size (boolean b) = zero
  size (number s) = zero
  size (string s) = zero
  size (array vs) = suc (items_size vs)
  size (object ms) = suc (members_size ms)

  pub items_size : Items → ℕ
  items_size no_items = zero
  items_size (item v vs) = size v + items_size vs

  pub members_size : Members → ℕ
  members_size no_members = zero
  members_size (member n v ms) = size v + members_size ms

pub item_is_smaller : (vs : Items) (i : ℕ) (v : Plain) → slice_get (list_of vs) i ≡ Some v → size v ≤ items_size vs
item_is_smaller no_items i v e = let never : ⊥ = cc in absurd never
item_is_smaller (item w vs) zero v e = let same : w ≡ v = cc in omega (arith, ap size same)
item_is_smaller (item w vs) (suc i) v e = omega (arith, item_is_smaller vs i v e)

pub member_is_smaller : (ms : Members) (i : ℕ) (p : List ℕ × Plain) → slice_get (pairs_of ms) i ≡ Some p → size p.1 ≤ members_size ms
member_is_smaller no_members i p e = let never : ⊥ = cc in absurd never
member_is_smaller (member n w ms) zero p e = let same : (n, w) ≡ p = cc in omega (arith, ap (λ (q : List ℕ × Plain). size q.1) same)
member_is_smaller (member n w ms) (suc i) p e = omega (arith, member_is_smaller ms i p e)

-- a name with its value, collapsed
abbrev pub collapsed : List ℕ × Plain → List ℕ × Plain
collapsed p = (p.0, collapse p.1)

items_collapsed : (vs : Items) → items_of (map collapse (list_of vs)) ≡ collapse_items vs
items_collapsed no_items = refl
items_collapsed (item v vs) = ap (item (collapse v)) (items_collapsed vs)

-- each member is put in turn
abbrev put_all : List (List ℕ × Plain) → Members → Members
put_all [] ms = ms
put_all (p ∷ ps) ms = put_all ps (put p.0 p.1 ms)

all_put : (done rest : Members) → put_all (map collapsed (pairs_of rest)) (collapse_members done) ≡ collapse_members (append done rest)
all_put done no_members = ap collapse_members (sym (append_none done))
all_put done (member n v rest) = ap (put_all (map collapsed (pairs_of rest))) (sym (collapse_push done n v)) ∙ all_put (push done n v) rest ∙ ap collapse_members (append_push done n v rest)

module _ {A : Type 0} where
  -- a name with its plain value
  abbrev pub named : CowStr A × JsonValue A → List ℕ × Plain
  named p = (name_of p.0, values.plain p.1)

  all_inserted : (done ps : List (CowStr A × JsonValue A)) → AreTexts done → AreTexts ps → members_plain (insert_all same_name done ps) ≡ put_all (map named ps) (members_plain done)
  all_inserted done [] h k = refl
  all_inserted done (p ∷ ps) h k =
      all_inserted (values.inserted done p.0 p.1) ps (insert_texts done p.0 p.1 h k.0) k.1 ∙ ap (put_all (map named ps)) (insert_puts done p.0 p.1 h k.0)

  -- one element more is made
  pub element_made : (vs new : List (JsonValue A)) (v : JsonValue A) (ws : Items) (i : ℕ) (w : Plain) → map values.plain vs ≡ map collapse (take i (list_of ws)) → slice_get (list_of ws) i ≡ Some w → values.plain v ≡ collapse w
      → new ≡ vs ++ v ∷ [] → map values.plain new ≡ map collapse (take (i + 1) (list_of ws))
  element_made vs new v ws i w h at made pushed =
      ap (map values.plain) pushed ∙ map_push values.plain vs v ∙ (λ j. h j ++ made j ∷ []) ∙ sym (map_push collapse (take i (list_of ws)) w)
      ∙ ap (map collapse) (sym (take_step (list_of ws) i w at)) ∙ ap (λ k. map collapse (take k (list_of ws))) (sym (add-one i))

  pub elements_made : (vs : List (JsonValue A)) (ws : Items) (i : ℕ) → map values.plain vs ≡ map collapse (take i (list_of ws)) → length (list_of ws) ≤ i → items_plain vs ≡ collapse_items ws
  elements_made vs ws i h all = ap items_of (h ∙ ap (map collapse) (take_all i (list_of ws) all)) ∙ items_collapsed ws

  -- one property more is
  pub property_made : (ps new : List (CowStr A × JsonValue A)) (k : CowStr A) (v : JsonValue A) (ms : Members) (i : ℕ) (n : List ℕ) (w : Plain) → map named ps ≡ map collapsed (take i (pairs_of ms))
      → slice_get (pairs_of ms) i ≡ Some (n, w) → name_of k ≡ n → values.plain v ≡ collapse w → new ≡ ps ++ (k, v) ∷ [] → map named new ≡ map collapsed (take (i + 1) (pairs_of ms))
  property_made ps new k v ms i n w h at name made pushed =
      ap (map named) pushed ∙ map_push named ps (k, v) ∙ (λ j. h j ++ (name j, made j) ∷ []) ∙ sym (map_push collapsed (take i (pairs_of ms)) (n, w))
      ∙ ap (map collapsed) (sym (take_step (pairs_of ms) i (n, w) at)) ∙ ap (λ m. map collapsed (take m (pairs_of ms))) (sym (add-one i))

  pub texts_made : (ps new : List (CowStr A × JsonValue A)) (k : CowStr A) (v : JsonValue A) → AreTexts ps → IsUtf8 (cow_str_bytes k) → new ≡ ps ++ (k, v) ∷ [] → AreTexts new
  texts_made ps new k v h u pushed = subst AreTexts (sym pushed) (all_texts ps h)
    where
      all_texts : (ps : List (CowStr A × JsonValue A)) → AreTexts ps → AreTexts (ps ++ (k, v) ∷ [])
      all_texts [] h = (u, tt)
      all_texts (p ∷ ps) h = (h.0, all_texts ps h.1)

  pub properties_made : (ps : List (CowStr A × JsonValue A)) (ms : Members) (i : ℕ) → AreTexts ps → map named ps ≡ map collapsed (take i (pairs_of ms)) → length (pairs_of ms) ≤ i
      → members_plain (insert_all same_name [] ps) ≡ collapse_members ms
  properties_made ps ms i texts h all =
      all_inserted [] ps tt texts ∙ ap (λ l. put_all l no_members) (h ∙ ap (map collapsed) (take_all i (pairs_of ms) all)) ∙ all_put no_members ms
