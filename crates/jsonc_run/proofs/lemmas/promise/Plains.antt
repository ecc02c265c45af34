-- Changes of plain values, by entries.
use Rattle.std.proofs.Common.{ℕ, suc, ◌≡◌, ap, subst, refl, sym, List, [], ◌∷◌, ◌++◌, length, Option, Some, None}
use Rattle.jsonc_text.specs.Plain as plain
use Rattle.jsonc_text.specs.Plain.{Plain, Items, no_items, item, Members, no_members, member}
use Rattle.jsonc_sound.specs.Changes as changes
use Rattle.jsonc_sound.specs.Changes.{ItemChanged, MemberChanged}
use Rattle.jsonc_run.specs.Named.{StandsAt}
use Rattle.jsonc_run.specs.texts.Paths.{Kind, an_array, an_object}
use Rattle.jsonc_run.specs.texts.Entries.{Named, items, members, of, Changed, itself, inside}

abbrev pub entry_of : List ℕ → Plain → Named
entry_of n v = record { name = n; value = v }

abbrev pub list_of_items : Items → List Named
list_of_items no_items = []
list_of_items (item v vs) = entry_of [] v ∷ list_of_items vs

pub same_items : (vs : Items) → items (list_of_items vs) ≡ vs
same_items no_items = refl
same_items (item v vs) = ap (item v) (same_items vs)

abbrev pub list_of_members : Members → List Named
list_of_members no_members = []
list_of_members (member n v ms) = entry_of n v ∷ list_of_members ms

pub same_members : (ms : Members) → members (list_of_members ms) ≡ ms
same_members no_members = refl
same_members (member n v ms) = ap (member n v) (same_members ms)

abbrev pub items_of : Plain → Items
items_of (plain.array vs) = vs
items_of p = no_items

abbrev pub members_of : Plain → Members
members_of (plain.object ms) = ms
members_of p = no_members

-- the front and the back of a changed list
record Parts (kind : Kind) (was now : Plain) (i : ℕ) (x y : Plain) : Type 0 where
  front : List Named
  back : List Named
  name : List ℕ
  place : length front ≡ i
  before : of kind (front ++ record { name = name; value = was } ∷ back) ≡ x
  after : of kind (front ++ record { name = name; value = now } ∷ back) ≡ y

item_parts : {was now : Plain} {i : ℕ} {vs ws : Items} → ItemChanged was now i vs ws → Parts an_array was now i (plain.array vs) (plain.array ws)
item_parts {was} {now} (changes.this_item {vs = vs}) = record { front = []; back = list_of_items vs; name = []; place = refl; before = ap (λ l. plain.array (item was l)) (same_items vs); after = ap (λ l. plain.array (item now l)) (same_items vs) }
item_parts {was} {now} (changes.later_item {i = i} {v = v} {vs = vs} {ws = ws} k) =
    let m = item_parts k in
    record {
      front = record { name = []; value = v } ∷ m.front;
      back = m.back;
      name = m.name;
      place = ap suc m.place;
      before = ap (λ p. plain.array (item v (items_of p))) m.before;
      after = ap (λ p. plain.array (item v (items_of p))) m.after;
    }

member_parts : {was now : Plain} {i : ℕ} {ms ns : Members} → MemberChanged was now i ms ns → Parts an_object was now i (plain.object ms) (plain.object ns)
member_parts {was} {now} (changes.this_member {name = name} {ms = ms}) = record { front = []; back = list_of_members ms; name = name; place = refl; before = ap (λ l. plain.object (member name was l)) (same_members ms); after = ap (λ l. plain.object (member name now l)) (same_members ms) }
member_parts {was} {now} (changes.later_member {i = i} {name = name} {v = v} {ms = ms} {ns = ns} k) =
    let m = member_parts k in
    record {
      front = record { name = name; value = v } ∷ m.front;
      back = m.back;
      name = m.name;
      place = ap suc m.place;
      before = ap (λ p. plain.object (member name v (members_of p))) m.before;
      after = ap (λ p. plain.object (member name v (members_of p))) m.after;
    }

step : {was now a b x y : Plain} {i : ℕ} {path : List ℕ} (kind : Kind) → Parts kind a b i x y → Changed was now path a b → Changed was now (i ∷ path) x y
step {was} {now} {b = b} {x = x} {y = y} {i = i} {path = path} kind p h =
    let here = inside kind p.front p.back p.name h in
    let first = subst (λ z. Changed was now (length p.front ∷ path) z (of kind (p.front ++ record { name = p.name; value = b } ∷ p.back))) p.before here in
    let second = subst (λ z. Changed was now (length p.front ∷ path) x z) p.after first in
    subst (λ j. Changed was now (j ∷ path) x y) p.place second

pub changed : {was now : Plain} {path : List ℕ} {x y : Plain} → changes.Changed was now path x y → Changed was now path x y
changed changes.itself = itself
changed (changes.in_array k h) = step an_array (item_parts k) (changed h)
changed (changes.in_object k h) = step an_object (member_parts k) (changed h)

-- and the other way
item_changed : (front back : List Named) (name : List ℕ) (x y : Plain) → ItemChanged x y (length front) (items (front ++ entry_of name x ∷ back)) (items (front ++ entry_of name y ∷ back))
item_changed [] back name x y = changes.this_item
item_changed (e ∷ front) back name x y = changes.later_item (item_changed front back name x y)

member_changed : (front back : List Named) (name : List ℕ) (x y : Plain) → MemberChanged x y (length front) (members (front ++ entry_of name x ∷ back)) (members (front ++ entry_of name y ∷ back))
member_changed [] back name x y = changes.this_member
member_changed (e ∷ front) back name x y = changes.later_member (member_changed front back name x y)

changed_by_steps : {was now : Plain} {path : List ℕ} {x y : Plain} → Changed was now path x y → changes.Changed was now path x y
changed_by_steps itself = changes.itself
changed_by_steps (inside an_array front back name {x = x} {y = y} h) = changes.in_array (item_changed front back name x y) (changed_by_steps h)
changed_by_steps (inside an_object front back name {x = x} {y = y} h) = changes.in_object (member_changed front back name x y) (changed_by_steps h)

-- so what stands at a path may be replaced there by itself
pub stands_there : {v : Plain} {path : List ℕ} {w : Option Plain} (x : Plain) → w ≡ Some x → changes.Changed v v path x x → StandsAt v path w
stands_there {v} {path} x is h = let here : StandsAt v path (Some x) = changed h in subst (StandsAt v path) (sym is) here

pub what_stands : {v : Plain} {path : List ℕ} (w : Option Plain) → StandsAt v path w → (x : Plain) × (w ≡ Some x) × changes.Changed v v path x x
what_stands (Some x) h = (x, refl, changed_by_steps h)
what_stands None h = absurd h
