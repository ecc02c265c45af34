use Rattle.std.proofs.Common.{chars, string_bytes}
use Rattle.std.proofs.lemmas.Str.{IsUtf8-string_bytes}
use Rattle.jsonc_mends.proofs.Apart.{if_none, written_there}
use Rattle.jsonc_mends.proofs.mends.Mends.new_text.Goals as goal

pub returns-clause-none : goal.returns-clause-none
returns-clause-none g c =
    let r = c.args.self.now in
    λ o bytes h. if_none c.part_of.result (λ f. absurd (f (written_there (string_bytes r.text) (chars bytes) r.list.items c.deref.result.now c.args.number c.in_ok-mend.mend.now c.as_str.result.now
    (IsUtf8-string_bytes r.text) h.changes c.deref.ensures.value c.in_ok-mend.ensures.lookup.3.0 c.in_ok-mend.ensures.lookup.1 c.as_str.ensures.value))) c.part_of.ensures.none
