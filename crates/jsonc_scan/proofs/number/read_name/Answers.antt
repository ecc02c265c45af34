use Rattle.jsonc_scan.proofs.Reading.{number_read, infinity_whole, nan_whole}
use Rattle.jsonc_scan.proofs.number.read_name.Goals as goal

pub returns-in-Some-clause-found : goal.returns-in-Some-clause-found
returns-in-Some-clause-found c = λ o a.
    number_read o _ _ _ _ c.utf8.text c.requires c.range.ensures.value (infinity_whole _ _ _ c.in-Some.ensures.found o a)

pub returns-clause-found : goal.returns-clause-found
returns-clause-found c = λ o a.
    number_read o _ _ _ _ c.utf8.text c.requires c.range-2.ensures.value (nan_whole _ _ _ c.in-Some-whole_end.ensures.found o a)
