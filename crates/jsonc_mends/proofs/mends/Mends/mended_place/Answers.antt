use Rattle.std.proofs.Common.{◌∙◌, string_bytes, length}
use Rattle.std.proofs.lemmas.Str.{IsUtf8-string_bytes}
use Rattle.jsonc_mends.specs.declared.places.Side.TheVariants.{Text}
use Rattle.jsonc_mends.proofs.Apart.{apart_in, goes_in}
use Rattle.jsonc_mends.proofs.mends.Mends.mended_place.Goals as goal

pub returns : goal.returns
returns g c =
    let r = c.args.self.now in
    λ o bytes u h l. goes_in Text r.list.items c.as_slice.result.now (length bytes) (length (string_bytes r.text)) c.len.result c.args.place c.place_in.result
    c.as_slice.ensures.value (c.len.ensures ∙ r.text.bytes.ok.0) (apart_in bytes (string_bytes r.text) r.list.items u (IsUtf8-string_bytes r.text) h.changes) l c.place_in.ensures
