-- A located value stands for its plain value.
use Rattle.std.proofs.Common.{ℕ, ◌+◌, ◌≡◌, ◌∙◌, sym, ap, arith, List, [], ◌∷◌, Option, Some, None, option_map, length, chars}
use Rattle.std.proofs.Math.ListN.{drop_of_length-le}
use Rattle.std.proofs.lemmas.Str.{chars-nil}
use Rattle.jsonc_text.specs.declared.common.Range.{Range}
use Rattle.jsonc_text.specs.Options.{Options}
use Rattle.jsonc_text.specs.Text.{rest}
use Rattle.jsonc_text.specs.Plain.{Plain, item, member}
use Rattle.jsonc_text.specs.Grammar.{IsValue, literal, empty_array, array, empty_object, object, AreElements, last_element, element, AreProperties, last_property, property, IsProperty, named, IsDocument}
use Rattle.jsonc_walk.specs.Located.{Located, leaf_at, array_at, object_at, LocatedItems, no_items_at, item_at, LocatedMembers, no_members_at, member_at, LocatedName, range_at, value_at, items_at, members_at, IsLocated, AreItems, AreFurtherItems, AreMembers, AreFurtherMembers, IsNamed, IsLocatedDocument}

module _ (o : Options) (bytes : List ℕ) where
  -- a property whose value stands there
  pub is_property : (n : LocatedName) (r v : Range) (w : Plain) → IsNamed o bytes n r v → IsValue o (rest bytes v.start) w (rest bytes v.end) → IsProperty o (rest bytes r.start) n.name w (rest bytes r.end)
  is_property n r v w h value =
      rw (sym h.begins, sym h.ends) (named h.name.stands h.colon.stands.1 h.colon.stands.2 value)

  mutual
    pub located_value : (x : Located) → IsLocated o bytes x → IsValue o (rest bytes (range_at x).start) (value_at x) (rest bytes (range_at x).end)
    located_value (leaf_at r v) h = literal h.stands.0 h.stands.1 h.stands.2
    located_value (array_at r xs) h = rw (h.0.opens.stands) (located_items xs (r.start + 1) r.end h.1)
    located_value (object_at r ms) h = rw (h.0.opens.stands) (located_members ms (r.start + 1) r.end h.1)

    pub located_items : (xs : LocatedItems) (i j : ℕ) → AreItems o bytes i xs j → IsValue o (0x5B ∷ rest bytes i) (Plain.array (items_at xs)) (rest bytes j)
    located_items no_items_at i j h = empty_array h.stands
    located_items (item_at x xs) i j h = array h.0.stands (further_items xs (range_at x).end j (rest bytes (range_at x).start) (value_at x) (located_value x h.1) h.2)

    further_items : (xs : LocatedItems) (i j : ℕ) (t : List ℕ) (v : Plain) → IsValue o t v (rest bytes i) → AreFurtherItems o bytes i xs j → AreElements o t (item v (items_at xs)) (rest bytes j)
    further_items no_items_at i j t v value h = last_element value h.stands
    further_items (item_at x xs) i j t v value h = element value h.0.stands (further_items xs (range_at x).end j (rest bytes (range_at x).start) (value_at x) (located_value x h.1) h.2)

    pub located_members : (ms : LocatedMembers) (i j : ℕ) → AreMembers o bytes i ms j → IsValue o (0x7B ∷ rest bytes i) (Plain.object (members_at ms)) (rest bytes j)
    located_members no_members_at i j h = empty_object h.stands
    located_members (member_at r n x ms) i j h = object h.0.stands (further_members ms r.end j (rest bytes r.start) n.name (value_at x) (is_property n r (range_at x) (value_at x) h.1 (located_value x h.2)) h.3)

    further_members : (ms : LocatedMembers) (i j : ℕ) (t name : List ℕ) (v : Plain) → IsProperty o t name v (rest bytes i) → AreFurtherMembers o bytes i ms j → AreProperties o t (member name v (members_at ms)) (rest bytes j)
    further_members no_members_at i j t name v prop h = last_property prop h.stands
    further_members (member_at r n x ms) i j t name v prop h = property prop h.0.stands (further_members ms r.end j (rest bytes r.start) n.name (value_at x) (is_property n r (range_at x) (value_at x) h.1 (located_value x h.2)) h.3)

at_end : (bytes : List ℕ) → rest bytes (length bytes) ≡ []
at_end bytes = ap chars (drop_of_length-le bytes (omega arith)) ∙ chars-nil

pub located_document : (o : Options) (bytes : List ℕ) (x : Option Located) → IsLocatedDocument o bytes x → IsDocument o (chars bytes) (option_map value_at x)
located_document o bytes None h = rw (at_end bytes) at h.stands
located_document o bytes (Some x) h = (rest bytes (range_at x).start, rest bytes (range_at x).end, h.0.stands, located_value o bytes x h.1, rw (at_end bytes) at h.2.stands)
