use Rattle.std.proofs.lemmas.Str.{IsUtf8-from_is_utf8}
use Rattle.jsonc_text.proofs.FaultLemmas.{out_of_memory_is_fault}
use Rattle.jsonc_walk.specs.Context.{text_in}
use Rattle.jsonc_walk.proofs.context.Context.out_of_memory.Goals as goal

pub returns-clause-fault : goal.returns-clause-fault
returns-clause-fault g c =
    let text = text_in c.args.self.now in
    out_of_memory_is_fault text c.out_of_memory.result (IsUtf8-from_is_utf8 text c.args.self.now.utf8) c.out_of_memory.ensures
