-- The event that a call is.
use Rattle.jsonc_files.specs.Calls as event
use Rattle.jsonc_files.specs.declared.record.Call.{Call}
use Rattle.jsonc_files.specs.declared.record.Call.TheVariants as call

abbrev pub event_of : Call → event.Event
event_of call.OpenedFolder = event.opened_folder
event_of (call.Opened is_regular) = event.opened is_regular
event_of call.Locked = event.locked
event_of (call.Found same) = event.found same
event_of (call.Read bytes) = event.was_read bytes.now
event_of (call.Created mode) = event.created mode
event_of (call.Wrote bytes) = event.wrote bytes.now
event_of (call.FoundMode mode) = event.found_mode mode
event_of (call.SetOwner owner group) = event.set_owner owner group
event_of (call.SetMode mode) = event.set_mode mode
event_of call.Synced = event.synced
event_of (call.Compared same) = event.compared same
event_of call.Renamed = event.renamed
event_of call.Removed = event.removed
event_of call.SyncedFolder = event.synced_folder
event_of (call.Failed step) = event.failed step
