use Rattle.jsonc_scan.proofs.reads.read_name_or_word.Goals as goal

pub returns-in-Some-clause-found : goal.returns-in-Some-clause-found
returns-in-Some-clause-found c = c.in-Some.ensures.found _ c.if-not-options.false
