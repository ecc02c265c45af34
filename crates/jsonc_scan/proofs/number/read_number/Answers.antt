use Rattle.jsonc_scan.proofs.number.read_number.Goals as goal

pub returns-clause-found : goal.returns-clause-found
returns-clause-found c = c.in-Some.ensures _
