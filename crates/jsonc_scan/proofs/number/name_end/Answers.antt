use Rattle.jsonc_scan.proofs.NumberParts.{infinity, nan}
use Rattle.std.proofs.Common.{refl}
use Rattle.jsonc_scan.proofs.NoLexemes.{lacks_names}
use Rattle.jsonc_scan.proofs.number.name_end.Goals as goal

pub returns-then-not-has_either-clause-none : goal.returns-then-not-has_either-clause-none
returns-then-not-has_either-clause-none c = lacks_names c.args.text.now c.args.start (c.if-not-has_either.ensures.other refl)

pub returns-in-Some-clause-found : goal.returns-in-Some-clause-found
returns-in-Some-clause-found c = infinity _ _ _ c.in-Some.ensures.found

pub returns-clause-found : goal.returns-clause-found
returns-clause-found c = nan _ _ _ c.in-Some-keyword_end.ensures.found
