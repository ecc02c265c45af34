use Rattle.std.proofs.Common.{string_bytes, length}
use Rattle.std.proofs.lemmas.Str.{IsUtf8-string_bytes}
use Rattle.jsonc_mends.proofs.Apart.{apart_back, decides_in}
use Rattle.jsonc_mends.proofs.mends.Mends.is_written.Goals as goal

pub returns : goal.returns
returns g c =
    let r = c.args.self.now in
    λ o bytes u h. decides_in r.list.items c.as_slice.result.now (length (string_bytes r.text)) (length bytes) c.args.range.start c.args.range.end c.lies_in.result
    c.as_slice.ensures.value (apart_back bytes (string_bytes r.text) r.list.items u (IsUtf8-string_bytes r.text) h.changes) c.lies_in.ensures
