-- Values that are the same but for how their numbers are written.
use Rattle.std.specs.Prelude.{ℕ, Bool, List}
use Rattle.jsonc_text.specs.Plain.{Plain, Items, no_items, item, Members, no_members, member}
use Rattle.jsonc_parser.specs.patch.Numbers.{SameNumber}

mutual
  pub data SameValue : Plain → Plain → Type 0 where
    null : SameValue Plain.null Plain.null
    boolean : (b : Bool) → SameValue (Plain.boolean b) (Plain.boolean b)
    -- numbers of one value
    number : {s t : List ℕ} → SameNumber s t → SameValue (Plain.number s) (Plain.number t)
    string : (s : List ℕ) → SameValue (Plain.string s) (Plain.string s)
    array : {vs ws : Items} → SameItems vs ws → SameValue (Plain.array vs) (Plain.array ws)
    object : {ms ns : Members} → SameMembers ms ns → SameValue (Plain.object ms) (Plain.object ns)

  pub data SameItems : Items → Items → Type 0 where
    end_items : SameItems no_items no_items
    next_item : {v w : Plain} {vs ws : Items} → SameValue v w → SameItems vs ws → SameItems (item v vs) (item w ws)

  -- names stay, in their order, as often as they stand
  pub data SameMembers : Members → Members → Type 0 where
    end_members : SameMembers no_members no_members
    next_member : (name : List ℕ) {v w : Plain} {ms ns : Members} → SameValue v w → SameMembers ms ns
        → SameMembers (member name v ms) (member name w ns)
