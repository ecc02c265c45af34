-- The mends of a text, in numbers.
use Rattle.std.specs.Prelude.{ℕ, ◌≡◌, List, map}
use Rattle.jsonc_text.specs.Options.{Options}
use Rattle.jsonc_mends.specs.Mends.{IsMended, mended_text}
use Rattle.jsonc_mends.specs.declared.told.Mend.{Mend}
use Rattle.jsonc_mends.specs.declared.mends.Mends.{Mends}
use Rattle.jsonc_c.specs.Told.{kind_number}
use Rattle.jsonc_c.specs.declared.mends.JsoncMend.{JsoncMend}

-- a mend in numbers
abbrev pub numbers_of : Mend → JsoncMend
numbers_of m = record {
  kind = kind_number m.fault.kind;
  fault_start = m.fault.range.start;
  fault_end = m.fault.range.end;
  line = m.at.line;
  column = m.at.column;
  start = m.range.start;
  end = m.range.end;
  written_start = m.written.start;
  written_end = m.written.end;
}

-- this is the mended text, and these are the mends in numbers
abbrev pub IsMendedBy : (A : Type 0) → Options → List ℕ → List ℕ → List JsoncMend → Type 0
IsMendedBy A o bytes new list = (r : Mends A) × IsMended o bytes r × (mended_text r ≡ new) × (list ≡ map numbers_of r.list.items)
