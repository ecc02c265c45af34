use Rattle.std.proofs.Common.{inl, inr, subst}
use Rattle.jsonc_text.specs.Options.{Options}
use Rattle.jsonc_c.specs.Patches.{IsNoDocument}
use Rattle.jsonc_c.proofs.patches.opened.Goals as goal

pub returns-in-Err-clause-refused : goal.returns-in-Err-clause-refused
returns-in-Err-clause-refused c = inl c.in-Err.ensures.refused

pub returns-in-Err-document_of-clause-refused : goal.returns-in-Err-document_of-clause-refused
returns-in-Err-document_of-clause-refused c =
    inr (subst (λ (o : Options). IsNoDocument o c.args.text.now c.in-Err-document_of.status c.document_of.new.fault) c.options_of.ensures c.in-Err-document_of.ensures.refused)
