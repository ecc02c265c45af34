use Rattle.std.proofs.Common.{ap, inl, sym, subst, ◌∙◌}
use Rattle.jsonc_text.specs.Faults.{IsFault}
use Rattle.jsonc_scan.specs.Scanner.{text_of}
use Rattle.jsonc_walk.proofs.lemmas.Scans.{decoding_asks, noting_asks}
use Rattle.jsonc_walk.proofs.context.Context.pass_comment.Goals as goal

pub returns-in_default-clause-fault : goal.returns-in_default-clause-fault
returns-in_default-clause-fault g c = record {
  of_text = subst (λ b. IsFault b c.stop_for_memory.new.self.fault) (ap text_of c.note.ensures.scanner) c.stop_for_memory.ensures.fault;
  memory = λ m. inl (noting_asks c.args.self.now c.in_default.ensures.memory);
}

pub returns-in_default-collect-clause-fault : goal.returns-in_default-collect-clause-fault
returns-in_default-collect-clause-fault g c = record {
  of_text = subst (λ b. IsFault b c.stop_for_memory-in_default-collect.new.self.fault) (ap text_of (c.collect.ensures.scanner ∙ c.note.ensures.scanner)) c.stop_for_memory-in_default-collect.ensures.fault;
  memory = λ m. inl (decoding_asks c.args.self.now (sym c.note.ensures.decodes ∙ c.in_default-collect.ensures.memory));
}
