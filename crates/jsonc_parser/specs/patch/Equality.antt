-- When two values are equal (RFC 6902, 4.6), by what is said of two texts of numbers.
use Rattle.std.specs.Prelude.{◌≡◌, ℕ, Bool, List}
use Rattle.jsonc_text.specs.Plain.{Plain, null, boolean, number, string, array, object, Items, no_items, item, Members, no_members, member}
use Rattle.jsonc_insert.specs.elements.Members.{member_count}
use Rattle.jsonc_insert.specs.named.Members.{LacksMember}

-- one member of this name has this value
pub data HasMember (name : List ℕ) (v : Plain) : Members → Type 0 where
  this_has : {ms : Members} → HasMember name v (member name v ms)
  later_has : {n : List ℕ} {w : Plain} {ms : Members} → HasMember name v ms → HasMember name v (member n w ms)

mutual
  -- no name occurs twice in an object of the value
  pub data HasUniqueNames : Plain → Type 0 where
    unique_null : HasUniqueNames null
    unique_boolean : {b : Bool} → HasUniqueNames (boolean b)
    unique_number : {s : List ℕ} → HasUniqueNames (number s)
    unique_string : {s : List ℕ} → HasUniqueNames (string s)
    unique_array : {vs : Items} → ItemsHaveUniqueNames vs → HasUniqueNames (array vs)
    unique_object : {ms : Members} → MembersHaveUniqueNames ms → HasUniqueNames (object ms)

  pub data ItemsHaveUniqueNames : Items → Type 0 where
    unique_end : ItemsHaveUniqueNames no_items
    unique_item : {v : Plain} {vs : Items} → HasUniqueNames v → ItemsHaveUniqueNames vs → ItemsHaveUniqueNames (item v vs)

  pub data MembersHaveUniqueNames : Members → Type 0 where
    unique_last : MembersHaveUniqueNames no_members
    unique_member : {name : List ℕ} {v : Plain} {ms : Members} → LacksMember name ms → HasUniqueNames v → MembersHaveUniqueNames ms → MembersHaveUniqueNames (member name v ms)

module _ (Same : List ℕ → List ℕ → Type 0) where
  mutual
    -- Strings have the same characters, arrays as many elements, each equal to the other's at its place, and objects as many members, each equal to one of the other.
    pub data AreEqual : Plain → Plain → Type 0 where
      nulls : AreEqual null null
      booleans : {b : Bool} → AreEqual (boolean b) (boolean b)
      numbers : {s t : List ℕ} → Same s t → AreEqual (number s) (number t)
      strings : {s : List ℕ} → AreEqual (string s) (string s)
      arrays : {vs ws : Items} → AreItemsEqual vs ws → AreEqual (array vs) (array ws)
      objects : {ms ns : Members} → member_count ms ≡ member_count ns → AreMembersIn ns ms → AreEqual (object ms) (object ns)

    pub data AreItemsEqual : Items → Items → Type 0 where
      no_more : AreItemsEqual no_items no_items
      both : {v w : Plain} {vs ws : Items} → AreEqual v w → AreItemsEqual vs ws → AreItemsEqual (item v vs) (item w ws)

    -- each of the second members is equal to one of the first: it has its name, and a value that is equal
    pub data AreMembersIn : Members → Members → Type 0 where
      none : {ns : Members} → AreMembersIn ns no_members
      one : {ns : Members} {name : List ℕ} {v w : Plain} {ms : Members} → HasMember name w ns → AreEqual v w → AreMembersIn ns ms → AreMembersIn ns (member name v ms)
