-- Want of memory is a fault of every text.
use Rattle.std.proofs.Common.{ℕ, List, [], refl, arith, IsUtf8, chars}
use Rattle.std.proofs.lemmas.Str.{IsCharBoundary-start}
use Rattle.jsonc_text.specs.declared.errors.ParseError.{ParseError}
use Rattle.jsonc_text.specs.Faults.{IsFault, IsOutOfMemory}
use Rattle.jsonc_text.specs.Places.{LineColumn}

pub first_place : (t : List ℕ) → LineColumn t 0 1 1
first_place t = record { before = []; after = t; split = refl; at = refl; position = refl }

pub out_of_memory_is_fault : (bytes : List ℕ) (e : ParseError) → IsUtf8 bytes → IsOutOfMemory e → IsFault bytes e
out_of_memory_is_fault bytes e u m =
    let start = IsCharBoundary-start bytes u in
    record {
      range = rw m.range (record { from = start; to = start; order = omega arith });
      place = rw (m.range, m.line, m.column) (first_place (chars bytes));
      memory = λ k. m;
    }
