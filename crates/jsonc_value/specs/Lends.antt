-- What a map ends as, once a value of it is no longer lent.
use Rattle.std.specs.Prelude.{◌≡◌, ℕ, Bool, List, Option, Result}
use Rattle.std.specs.Borrow.{Fml, RattleType, MutBor, Lends, LendsIf, LendsIfOk, RestsIfErr}
use Rattle.indexmap.specs.IndexMap.{insert_entry}
use Rattle.indexmap.specs.Layout.{set_value_at}
use Rattle.std.specs.HashMap.Lent.{HashMembers}
use Rattle.std.specs.Map.{set_value}
use Rattle.std.specs.declared.alloc.Allocator as alloc
use Rattle.std.specs.declared.alloc.AllocFailed.{AllocFailed}
use Rattle.jsonc_value.specs.declared.map.lends.Entry.{Entry}
use Rattle.jsonc_value.specs.contracts.map.Map.{the_row}

module _ (K V A : RattleType) (key : HashMembers K.Denot) (heap : alloc.Ghosts A.Denot) where
  -- the map's type, as the logic holds it
  abbrev pub map_row : RattleType
  map_row = the_row K V A (record { eq = key.eq }) (record { hash_input = key.hash_input }) heap

  -- the value at this place ends as the last one written through r
  abbrev pub lends_at : MutBor (List (K.Denot × V.Denot)) → ℕ → MutBor V.Denot → Fml
  lends_at m i r = Lends map_row V m r (set_value_at m.now i)

  -- the key that passes the test gets the last value written through r; at `None` the map stays
  abbrev pub lends_value : MutBor (List (K.Denot × V.Denot)) → (K.Denot → Bool) → Option (MutBor V.Denot) → Fml
  lends_value m test r = LendsIf map_row V m r (set_value test m.now) m.now

  -- where the entry is refused, the map ends as it was
  abbrev pub rests_if_refused : MutBor (List (K.Denot × V.Denot)) → Result (Entry K.Denot V.Denot A.Denot) (AllocFailed K.Denot) → Fml
  rests_if_refused m r = RestsIfErr map_row m (λ e. e.map.ghost_name) r (λ n. n ≡ m.now)

  -- the map ends with the last value written through r inserted at the entry's key, and where r is refused as it was
  abbrev pub entry_lends : Entry K.Denot V.Denot A.Denot → Result (MutBor V.Denot) (AllocFailed V.Denot) → Fml
  entry_lends e r = LendsIfOk map_row V e.map r (insert_entry key.eq e.map.now e.key) e.map.now
