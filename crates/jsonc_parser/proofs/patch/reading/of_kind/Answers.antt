use Rattle.std.proofs.Common.{arith, codes, refl, subst}
use Rattle.jsonc_parser.proofs.lemmas.patch.PatchReads.{needs_source, needs_value}
use Rattle.jsonc_parser.specs.patch.PatchReading.{kind_name, said}
use Rattle.jsonc_parser.specs.patch.PatchTexts.{IsNamed}
use Rattle.jsonc_parser.proofs.patch.reading.of_kind.Goals as goal

pub returns-in-Err-operand-clause-fault : goal.returns-in-Err-operand-clause-fault
returns-in-Err-operand-clause-fault g c =
    c.in-Err-operand.ensures.fault (needs_value (said c.args.members.now) 0 (codes "add") (omega arith) refl (subst (λ k. IsNamed (kind_name k) (said c.args.members.now)) c.in-Add.is c.requires))

pub returns-in-Err-operand-2-clause-fault : goal.returns-in-Err-operand-2-clause-fault
returns-in-Err-operand-2-clause-fault g c =
    c.in-Err-operand-2.ensures.fault (needs_value (said c.args.members.now) 1 (codes "replace") (omega arith) refl (subst (λ k. IsNamed (kind_name k) (said c.args.members.now)) c.in-Replace.is c.requires))

pub returns-in-Err-member_pointer-clause-fault : goal.returns-in-Err-member_pointer-clause-fault
returns-in-Err-member_pointer-clause-fault g c =
    c.in-Err-member_pointer.ensures.fault (needs_source (said c.args.members.now) 0 (codes "move") (omega arith) refl (subst (λ k. IsNamed (kind_name k) (said c.args.members.now)) c.in-Move.is c.requires))

pub returns-in-Err-member_pointer-2-clause-fault : goal.returns-in-Err-member_pointer-2-clause-fault
returns-in-Err-member_pointer-2-clause-fault g c =
    c.in-Err-member_pointer-2.ensures.fault (needs_source (said c.args.members.now) 1 (codes "copy") (omega arith) refl (subst (λ k. IsNamed (kind_name k) (said c.args.members.now)) c.in-Copy.is c.requires))

pub returns-in-Err-operand-3-clause-fault : goal.returns-in-Err-operand-3-clause-fault
returns-in-Err-operand-3-clause-fault g c =
    c.in-Err-operand-3.ensures.fault (needs_value (said c.args.members.now) 2 (codes "test") (omega arith) refl (subst (λ k. IsNamed (kind_name k) (said c.args.members.now)) c.in-Test.is c.requires))
