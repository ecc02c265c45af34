use Rattle.jsonc_layout.proofs.nodes.names.front_string.Goals as goal

pub returns-in_default-clause-read : goal.returns-in_default-clause-read
returns-in_default-clause-read g c = λ v h. c.in-Err.ensures.fault.none c.in_default.not-OutOfMemory v h.0 h.1
