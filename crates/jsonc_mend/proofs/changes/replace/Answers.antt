use Rattle.std.proofs.Common.{◌∙◌, string_bytes}
use Rattle.std.proofs.lemmas.Str.{IsUtf8-string_bytes}
use Rattle.jsonc_mend.proofs.Rewriting.{replaced_as}
use Rattle.jsonc_mend.proofs.changes.replace.Goals as goal

pub returns : goal.returns
returns g c =
    replaced_as c.args.text.now (string_bytes c.args.changed.now.text) c.args.new.now (string_bytes c.push_str.new.self) c.args.changed.now.list.items c.push.new.self.items
    c.args.range c.len-start.result c.len.result c.utf8.text (IsUtf8-string_bytes c.args.changed.now.text) c.utf8.new c.requires.span
    c.in_ok-push_str.ensures.bytes (c.len-start.ensures ∙ c.args.changed.now.text.bytes.ok.0) (c.len.ensures ∙ c.push_str.new.self.bytes.ok.0) c.in_ok-push.ensures.items c.requires.made
