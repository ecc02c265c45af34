use Rattle.std.proofs.Common.{ℕ, List, ◌++◌, ap, sym, subst, chars, take, string_bytes}
use Rattle.std.proofs.lemmas.Str.{IsUtf8-string_bytes}
use Rattle.jsonc_mend.specs.Changes.{Changes}
use Rattle.jsonc_mend.proofs.Rewriting.{copied, when_ok}
use Rattle.jsonc_mend.proofs.changes.copy.Goals as goal

pub returns : goal.returns
returns g c =
    let out : List ℕ = string_bytes c.args.changed.now.text in
    let P : List ℕ → Type 0 = λ t. Changes (chars (take c.args.to c.args.text.now)) c.args.changed.now.list.items (chars t) in
    when_ok c.push_str.result (out ++ c.range.result.now) out (string_bytes c.push_str.new.self) P c.push_str.ensures.bytes
    (subst P (ap (λ s. out ++ s) (sym c.range.ensures.value)) (copied c.args.text.now out c.args.changed.now.list.items c.args.from c.args.to c.utf8.text (IsUtf8-string_bytes c.args.changed.now.text) c.requires.span c.requires.made))
