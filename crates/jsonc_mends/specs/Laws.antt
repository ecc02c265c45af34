-- When a text has no fault.
use Rattle.std.specs.Prelude.{ℕ, ◌↔◌, ◌≡◌, true, List, [], chars}
use Rattle.jsonc_text.specs.Options.{Options}
use Rattle.jsonc_check.specs.Checker.{HasValueWithin}
use Rattle.jsonc_mends.specs.Mends.{IsMended}
use Rattle.jsonc_mends.specs.declared.mends.Mends.{Mends}

-- there is no mend exactly where the text is a document, within the depth
abbrev pub NoneOfDocument : {A : Type 0} → Options → List ℕ → Mends A → Type 0
NoneOfDocument o bytes r = IsMended o bytes r → (r.list.items ≡ []) ↔ HasValueWithin true o (chars bytes)
