-- Why a call did not do what was asked.
use Rattle.std.specs.Prelude.{◌⊎◌, ℕ, List, IsUtf8}
use Rattle.std.specs.declared.alloc.Global.{Global}
use Rattle.jsonc_text.specs.Options.{Options}
use Rattle.jsonc_engine.specs.Command.{Request, append, drop, get, print, put, remove, set, sort}
use Rattle.jsonc_engine.specs.Fault.{IsCause}
use Rattle.jsonc_engine.specs.declared.fault.Fault.{Fault}
use Rattle.jsonc_c.specs.Told.{IsTold}
use Rattle.jsonc_c.specs.declared.asked.Asked.{Asked}
use Rattle.jsonc_c.specs.declared.asked.Asked.TheVariants as words
use Rattle.jsonc_c.specs.declared.fault.JsoncFault.{JsoncFault}

-- what the status and the fault tell is true of the command's words, or of the bytes of the text
abbrev pub IsRefused : Options → Request → List ℕ → ℕ → JsoncFault → Type 0
IsRefused o request text status f = (told : Fault Global) × IsCause o request text told × IsTold told status f

-- what is asked for, with the bytes of its words
abbrev pub asked_of : Asked → Request
asked_of words.Print = print
asked_of (words.Set name json) = set name.now json.now
asked_of (words.Append json) = append json.now
asked_of (words.Remove name) = remove name.now
asked_of words.Sort = sort
asked_of (words.Get path) = get path.now
asked_of (words.Put path json) = put path.now json.now
asked_of (words.Drop path) = drop path.now

-- one of its words is no text
abbrev pub HasNoText : Request → Type 0
HasNoText (set name json) = ¬ (IsUtf8 name) ⊎ ¬ (IsUtf8 json)
HasNoText (append json) = ¬ (IsUtf8 json)
HasNoText (remove name) = ¬ (IsUtf8 name)
HasNoText (get path) = ¬ (IsUtf8 path)
HasNoText (put path json) = ¬ (IsUtf8 path) ⊎ ¬ (IsUtf8 json)
HasNoText (drop path) = ¬ (IsUtf8 path)
HasNoText request = ⊥
