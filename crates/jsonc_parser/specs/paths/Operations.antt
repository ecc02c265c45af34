-- Edits over plain values, the operations that they ask for, and what these make of values: words of the crates below.
pub use Rattle.jsonc_sound.specs.Changes.{ItemChanged, MemberChanged, this_member, later_member, Changed, itself, in_array, in_object}
pub use Rattle.jsonc_sound.specs.Values.{ItemRemoved, MemberRemoved}
pub use Rattle.jsonc_sound.specs.EntryLaws.{LosesEntry, loses_item, loses_member}
pub use Rattle.jsonc_insert.specs.elements.Members.{MemberInserted, member_count, InsertsMemberAt}
pub use Rattle.jsonc_insert.specs.named.Values.{ReplacesHeld}
pub use Rattle.jsonc_insert.specs.named.Members.{LacksMember, no_more, other_name, IsFirstMember, first_is, first_later}
pub use Rattle.jsonc_run.specs.Edits.{PlainEdit, append_property, remove, replace, set_root, set_value}
pub use Rattle.jsonc_run.specs.Written.{IsChanged, by_value, by_first, by_inserting_member, by_entry, by_all}
pub use Rattle.jsonc_run.specs.Named.{Asks, StandsAt, HasValueAt, HasObjectAt, HasPropertyAt, IsNamed}
pub use Rattle.jsonc_run.specs.texts.Edits.{Operation}
