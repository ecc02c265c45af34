-- Numbers that each parser takes.
use Rattle.jsonc_text.specs.Options.{Options}
use Rattle.jsonc_text.specs.Plain.{Plain, number}
use Rattle.jsonc_text.specs.Numbers.{NumberLit}

-- a number whose text is one, whole, under all options
abbrev pub IsAlwaysNumber : Plain → Type 0
IsAlwaysNumber (number s) = (o : Options) → NumberLit o s
IsAlwaysNumber _ = ⊥
