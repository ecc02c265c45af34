use Rattle.std.proofs.Common.{arith, drop, false, refl}
use Rattle.std.proofs.lemmas.Bool.{false≢true}
use Rattle.std.proofs.lemmas.Str.{IsUtf8-drop}
use Rattle.std.proofs.lemmas.Str.Pattern.{ends_char, starts_char}
use Rattle.jsonc_parser.proofs.ChangesOutside.{cr_and_lf, no_cr}
use Rattle.jsonc_parser.proofs.change.is_inside_cr_lf.Goals as goal

pub returns-then-not-ends_with : goal.returns-then-not-ends_with
returns-then-not-ends_with c = (
  λ wrong. absurd (false≢true wrong),
  no_cr c.args.text.now c.range.result.now (drop c.args.place c.args.text.now) c.args.place c.range.ensures.value refl c.requires c.range.utf8 (IsUtf8-drop c.args.text.now c.args.place c.utf8.text c.requires) c.ends_with.result false (ends_char 0x0D c.range.result.now c.ends_with.result c.ends_with.ensures.cases (omega arith)) c.if-not-ends_with.true,
)

pub returns : goal.returns
returns c =
    cr_and_lf c.args.text.now c.range.result.now c.range_from.result.now c.args.place c.range.ensures.value c.range_from.ensures.value c.requires c.range.utf8 c.range_from.utf8 c.ends_with.result c.starts_with.result
    (ends_char 0x0D c.range.result.now c.ends_with.result c.ends_with.ensures.cases (omega arith)) c.if-not-ends_with.false (starts_char 0x0A c.range_from.result.now c.starts_with.result c.starts_with.ensures.cases (omega arith) (omega arith))
