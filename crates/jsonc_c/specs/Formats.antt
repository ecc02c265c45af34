-- Texts that are formatted in a style of numbers.
use Rattle.std.specs.Prelude.{ℕ, ◌≡◌, ◌⊎◌, List, IsUtf8, Option, Some, None, chars, min, nat_eq, if◌then◌else◌}
use Rattle.jsonc_text.specs.Options.{Options}
use Rattle.jsonc_text.specs.declared.errors.ParseError.{ParseError}
use Rattle.jsonc_engine.specs.Input.{IsRefusalOf}
use Rattle.jsonc_format.specs.Styles.{IsFormattedAs}
use Rattle.jsonc_format.specs.Wishes.{wish_of}
use Rattle.jsonc_format.specs.declared.style.Level.{Level}
use Rattle.jsonc_format.specs.declared.style.Level.TheVariants as level
use Rattle.jsonc_format.specs.declared.style.LineEnd.{LineEnd}
use Rattle.jsonc_format.specs.declared.style.LineEnd.TheVariants as end
use Rattle.jsonc_format.specs.declared.style.Style.{Style}
use Rattle.jsonc_c.specs.Told.{IsToldOf}
use Rattle.jsonc_c.specs.declared.fault.JsoncFault.{JsoncFault}
use Rattle.jsonc_c.specs.declared.format.JsoncStyle.{JsoncStyle}

-- LF, CR LF or CR; with any other number what the text tells
abbrev pub line_end_of : ℕ → Option LineEnd
line_end_of n = if nat_eq n 1 then Some end.Lf else (if nat_eq n 2 then Some end.CrLf else (if nat_eq n 3 then Some end.Cr else None))

-- so many spaces, eight at most, or a tab; with any other number what the text tells
abbrev pub level_of : ℕ → ℕ → Option Level
level_of n spaces = if nat_eq n 1 then Some (level.Spaces (min spaces 8)) else (if nat_eq n 2 then Some level.Tab else None)

abbrev pub style_of : JsoncStyle → Style
style_of s = record { line_end = line_end_of s.line_end; level = level_of s.level s.spaces; expand = s.expand }

-- the one text is the other, formatted
abbrev pub IsFormattedBy : Options → JsoncStyle → List ℕ → List ℕ → Type 0
IsFormattedBy o s text out = IsFormattedAs o (wish_of (style_of s)) (chars text) (chars out)

-- an allocation failed, the text is not UTF-8, or it is no document and the fault tells why
abbrev pub IsUnformatted : Options → List ℕ → ℕ → JsoncFault → Type 0
IsUnformatted o text status f = (status ≡ 1) ⊎ (((status ≡ 3) × ¬ (IsUtf8 text)) ⊎ ((status ≡ 4) × (e : ParseError) × IsRefusalOf o text e × IsToldOf e f))
