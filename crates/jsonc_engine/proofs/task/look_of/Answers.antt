use Rattle.jsonc_engine.specs.Argument.{of_text}
use Rattle.jsonc_engine.proofs.Arguments.{names_fault, names_work, pointer_fault, pointer_work}
use Rattle.jsonc_engine.proofs.task.look_of.Goals as goal

pub returns-in-Ok-clause-work : goal.returns-in-Ok-clause-work
returns-in-Ok-clause-work g c = λ o. names_work o c.args.place c.in-Names.path c.in-Ok.names c.in-Names.is c.in-Ok.ensures.names

pub returns-in-Err-clause-refused : goal.returns-in-Err-clause-refused
returns-in-Err-clause-refused g c = λ o. names_fault o c.args.place c.in-Names.path c.in-Err.fault c.in-Names.is c.in-Err.ensures.refused

pub returns-in-Ok-pointer_of-clause-work : goal.returns-in-Ok-pointer_of-clause-work
returns-in-Ok-pointer_of-clause-work g c = λ o. pointer_work o c.args.place c.in-Pointer.text c.in-Ok-pointer_of.pointer c.in-Pointer.is c.in-Ok-pointer_of.ensures.parsed

pub returns-in-Err-pointer_of-clause-refused : goal.returns-in-Err-pointer_of-clause-refused
returns-in-Err-pointer_of-clause-refused g c = λ o. pointer_fault o c.args.place c.in-Pointer.text c.in-Err-pointer_of.fault c.in-Pointer.is (of_text (c.in-Err-pointer_of.ensures.refused o))
