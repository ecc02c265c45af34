-- What lines in memory are.
use Rattle.std.specs.Prelude.{string_bytes}
use Rattle.jsonc_edit.specs.multiline.Lines as lines
use Rattle.jsonc_edit.specs.declared.multiline.lines.Lines.{Lines}

module _ {A : Type 0} where
  abbrev pub lines_of : Lines A → lines.Lines
  lines_of l = record { newline = l.newline; inner = string_bytes l.inner; outer = string_bytes l.outer }
