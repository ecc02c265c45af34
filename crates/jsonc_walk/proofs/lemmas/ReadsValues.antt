-- Reading goes through a whole value.
use Rattle.std.proofs.Common.{ℕ, suc, ◌+◌, ◌≤◌, ◌≡◌, refl, Bool, true, false, List, ◌∷◌, length, Some, arith, nat_lt}
use Rattle.jsonc_text.specs.Gaps.{Gap}
use Rattle.jsonc_text.specs.Grammar.{IsValue, AreElements, AreProperties, IsProperty, literal_value, literal, empty_array, array, empty_object, object, last_element, element, last_property, property, named, Separates, Closes}
use Rattle.jsonc_text.specs.Lexemes.{LexemeKind, punctuation}
use Rattle.jsonc_text.specs.Options.{Options}
use Rattle.jsonc_text.specs.Plain.{Plain, Items, no_items, item, Members, no_members, member, items_depth, members_depth, items_around, members_around}
use Rattle.jsonc_walk.specs.declared.container.Container.{Container}
use Rattle.jsonc_walk.specs.declared.container.Container.TheVariants.{Array, Object}
use Rattle.jsonc_walk.specs.Containers.{opening, closing}
use Rattle.jsonc_walk.specs.Reached.{Opened, container, Due, comma, Place, at, ItemMayCome, first_item, further_item, without_comma, ValueMayCome, of_array, of_property, empty, after_item, after_comma, Step, takes_literal, opens, closes, takes_comma, takes_name, takes_colon, ComesTo, here, on, after_value, count, size, is_deep, is_opening, containers}

pub leads_on : {o : Options} {whole : Bool} {p n r : Place} → ComesTo o whole p n → ComesTo o whole n r → ComesTo o whole p r
leads_on here g = g
leads_on (on x f) g = on x (leads_on f g)

pub one_step : {o : Options} {whole : Bool} {p n : Place} → Step o whole p n → ComesTo o whole p n
one_step x = on x here

pub not_past : (n m : ℕ) → m ≤ n → nat_lt n m ≡ false
not_past n m h = grind arith

literal_opens_none : (l : LexemeKind) {v : Plain} → literal_value l ≡ Some v → is_opening l ≡ false
literal_opens_none (LexemeKind.string s) e = refl
literal_opens_none (LexemeKind.number s) e = refl
literal_opens_none (LexemeKind.word s) e = refl
literal_opens_none (LexemeKind.keyword s) e = refl
literal_opens_none (LexemeKind.punctuation d) e = cc

literal_fits : (whole : Bool) (q : List Opened) (l : LexemeKind) (v : Plain) → literal_value l ≡ Some v → size whole v + count whole q ≤ 512 → is_deep whole q l ≡ false
literal_fits true q l v e h = not_past 512 (length q) (omega (arith, h))
literal_fits false q l v e h = rw (literal_opens_none l e) refl

-- how much the parts of a container count
abbrev pub parts_size : Bool → (around depth : ℕ) → ℕ
parts_size true a d = a
parts_size false a d = suc d

opening_fits : (whole : Bool) (q : List Opened) (k : Container) (a d : ℕ) → parts_size whole a d + count whole q ≤ 512 → is_deep whole q (punctuation (opening k)) ≡ false
opening_fits true q k a d h = not_past 512 (length q) (omega (arith, h))
opening_fits false q Array a d h = not_past 511 (containers q) (omega (arith, h))
opening_fits false q Object a d h = not_past 511 (containers q) (omega (arith, h))

array_size : (whole : Bool) (vs : Items) (q : List Opened) → size whole (Plain.array vs) + count whole q ≤ 512 → parts_size whole (items_around vs) (items_depth vs) + count whole q ≤ 512
array_size true vs q h = h
array_size false vs q h = h

object_size : (whole : Bool) (ms : Members) (q : List Opened) → size whole (Plain.object ms) + count whole q ≤ 512 → parts_size whole (members_around ms) (members_depth ms) + count whole q ≤ 512
object_size true ms q h = h
object_size false ms q h = h

element_fits : (whole : Bool) (v : Plain) (vs : Items) (q : List Opened) (a : List ℕ) → parts_size whole (items_around (item v vs)) (items_depth (item v vs)) + count whole q ≤ 512 → size whole v + count whole (container Array a ∷ q) ≤ 512
element_fits true v vs q a h = omega (arith, h)
element_fits false v vs q a h = omega (arith, h)

elements_fit : (whole : Bool) (v : Plain) (vs : Items) (q : List Opened) → parts_size whole (items_around (item v vs)) (items_depth (item v vs)) + count whole q ≤ 512 → parts_size whole (items_around vs) (items_depth vs) + count whole q ≤ 512
elements_fit true v vs q h = omega (arith, h)
elements_fit false v vs q h = omega (arith, h)

property_fits : (whole : Bool) (n : List ℕ) (v : Plain) (ms : Members) (q : List Opened) (a b : List ℕ) → parts_size whole (members_around (member n v ms)) (members_depth (member n v ms)) + count whole q ≤ 512 → size whole v + count whole (Opened.property b ∷ container Object a ∷ q) ≤ 512
property_fits true n v ms q a b h = omega (arith, h)
property_fits false n v ms q a b h = omega (arith, h)

properties_fit : (whole : Bool) (n : List ℕ) (v : Plain) (ms : Members) (q : List Opened) → parts_size whole (members_around (member n v ms)) (members_depth (member n v ms)) + count whole q ≤ 512 → parts_size whole (members_around ms) (members_depth ms) + count whole q ≤ 512
properties_fit true n v ms q h = omega (arith, h)
properties_fit false n v ms q h = omega (arith, h)

module _ (o : Options) (whole : Bool) where
  close_reads : (k : Container) {q : List Opened} {a u r : List ℕ} → Closes o (closing k) u r → ComesTo o whole (at (container k a ∷ q) (comma k u) u) (after_value q r)
  close_reads k (Closes.plain g) = one_step (closes k after_item g)
  close_reads k (Closes.trailing_comma f g h) = on (takes_comma k g) (one_step (closes k (after_comma f) h))

  mutual
    -- a whole value is read
    pub value_reads : {q : List Opened} {d : Due} {v : Plain} {t u r : List ℕ} → ValueMayCome o d → Gap o t u → IsValue o u v r → size whole v + count whole q ≤ 512 → ComesTo o whole (at q d t) (after_value q r)
    value_reads {q} {v = v} {r = r} m g (literal k l e) n = one_step (takes_literal k r m (literal_fits whole q k v e n) g l e)
    value_reads {q} m g (empty_array h) n = on (opens Array m (opening_fits whole q Array 0 0 (array_size whole no_items q n)) g) (one_step (closes Array empty h))
    value_reads {q} m g (array {vs = vs} h e) n =
        let s = array_size whole vs q n in
        on (opens Array m (opening_fits whole q Array (items_around vs) (items_depth vs) s) g) (elements_read first_item h e s)
    value_reads {q} m g (empty_object h) n = on (opens Object m (opening_fits whole q Object 0 0 (object_size whole no_members q n)) g) (one_step (closes Object empty h))
    value_reads {q} m g (object {ms = ms} h e) n =
        let s = object_size whole ms q n in
        on (opens Object m (opening_fits whole q Object (members_around ms) (members_depth ms) s) g) (properties_read first_item h e s)

    elements_read : {q : List Opened} {d : Due} {vs : Items} {a t u r : List ℕ} → ItemMayCome o Array d → Gap o t u → AreElements o u vs r → parts_size whole (items_around vs) (items_depth vs) + count whole q ≤ 512 → ComesTo o whole (at (container Array a ∷ q) d t) (after_value q r)
    elements_read {q} {a = a} m g (last_element {v = v} x c) n = leads_on (value_reads (of_array m) g x (element_fits whole v no_items q a n)) (close_reads Array c)
    elements_read {q} {a = a} m g (element {v = v} {vs = vs} x (Separates.comma h k) e) n =
        leads_on (value_reads (of_array m) g x (element_fits whole v vs q a n)) (on (takes_comma Array h) (elements_read further_item k e (elements_fit whole v vs q n)))
    elements_read {q} {a = a} m g (element {v = v} {vs = vs} x (Separates.no_comma f k) e) n =
        leads_on (value_reads (of_array m) g x (element_fits whole v vs q a n)) (elements_read (without_comma f) k e (elements_fit whole v vs q n))

    pub property_reads : {q : List Opened} {d : Due} {name : List ℕ} {v : Plain} {a t u r : List ℕ} → ItemMayCome o Object d → Gap o t u → IsProperty o u name v r → size whole v + count whole (Opened.property u ∷ container Object a ∷ q) ≤ 512 → ComesTo o whole (at (container Object a ∷ q) d t) (at (container Object a ∷ q) (comma Object r) r)
    property_reads m g (named n c h x) s = on (takes_name m g n) (on (takes_colon c) (value_reads of_property h x s))

    properties_read : {q : List Opened} {d : Due} {ms : Members} {a t u r : List ℕ} → ItemMayCome o Object d → Gap o t u → AreProperties o u ms r → parts_size whole (members_around ms) (members_depth ms) + count whole q ≤ 512 → ComesTo o whole (at (container Object a ∷ q) d t) (after_value q r)
    properties_read {q} {a = a} {u = u} m g (last_property {name = n} {v = v} x c) s = leads_on (property_reads m g x (property_fits whole n v no_members q a u s)) (close_reads Object c)
    properties_read {q} {a = a} {u = u} m g (property {name = n} {v = v} {ms = ms} x (Separates.comma h k) e) s =
        leads_on (property_reads m g x (property_fits whole n v ms q a u s)) (on (takes_comma Object h) (properties_read further_item k e (properties_fit whole n v ms q s)))
    properties_read {q} {a = a} {u = u} m g (property {name = n} {v = v} {ms = ms} x (Separates.no_comma f k) e) s =
        leads_on (property_reads m g x (property_fits whole n v ms q a u s)) (properties_read (without_comma f) k e (properties_fit whole n v ms q s))
