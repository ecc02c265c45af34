-- Laws of stretches that follow one another in a row.
use Rattle.std.specs.Prelude.{◌≡◌, ◌↔◌, Bool}
use Rattle.jsonc_text.specs.Options.{Options}
use Rattle.jsonc_text.specs.Plain.{Items, no_items, item, Members, no_members, member}
use Rattle.jsonc_tree.specs.OrderedTree.{OrderedTree, followed_by}
use Rattle.jsonc_tree.specs.Values.{ItemsOf, MembersOf}
use Rattle.jsonc_sound.specs.Lines.{ends_line, LinesEnd}

-- the items of one row, and then those of another
abbrev pub items_then : Items → Items → Items
items_then no_items ws = ws
items_then (item v vs) ws = item v (items_then vs ws)

-- the members of one row, and then those of another
abbrev pub members_then : Members → Members → Members
members_then no_members ns = ns
members_then (member name v ms) ns = member name v (members_then ms ns)

-- two stretches have these values exactly where the first has the front ones and the second the others
abbrev pub ItemsComeApart : Options → OrderedTree → OrderedTree → Items → Type 0
ItemsComeApart o first second us
    = ItemsOf o (followed_by first second) us
    ↔ ((vs ws : Items) × ItemsOf o first vs × ItemsOf o second ws × (us ≡ items_then vs ws))

-- and so with properties
abbrev pub MembersComeApart : Options → OrderedTree → OrderedTree → Members → Type 0
MembersComeApart o first second ls
    = MembersOf o (followed_by first second) ls
    ↔ ((ms ns : Members) × MembersOf o first ms × MembersOf o second ns × (ls ≡ members_then ms ns))

-- the line comments of two stretches end with their lines exactly where those of each do, where a newline first in the second serves the first
abbrev pub LinesComeApart : Bool → OrderedTree → OrderedTree → Type 0
LinesComeApart at_end first second = LinesEnd at_end (followed_by first second) ↔ LinesEnd (ends_line at_end second) first × LinesEnd at_end second
