-- What a `HostFolder` shows.
use Rattle.std.specs.Prelude.{List}
use Rattle.jsonc_files.specs.Calls.{Event}
use Rattle.jsonc_host.specs.declared.host.HostFolder.{HostFolder}

-- its member `calls`
abbrev pub calls_of : HostFolder → List Event
calls_of host = host.made.calls
