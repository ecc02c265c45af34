use Rattle.std.proofs.Common.{refl}
use Rattle.jsonc_text.proofs.lemmas.string.QuotedStrings.{scanned_of_quoted}
use Rattle.jsonc_scan.proofs.string.escaped_end.Goals as goal

pub returns-in-Ok-clause-stands : goal.returns-in-Ok-clause-stands
returns-in-Ok-clause-stands c = scanned_of_quoted _ _ _ _ _ _ _ refl c.in-Ok.ensures.found refl
