-- The value of a document.
use Rattle.std.proofs.Common.{ap, refl, false, ℕ, List, Option, None, Some, chars}
use Rattle.jsonc_text.specs.Options.{Options}
use Rattle.jsonc_walk.specs.Located.{Located, value_at}
use Rattle.jsonc_walk.specs.Handed.{IsDocumentMade}
use Rattle.jsonc_walk.proofs.lemmas.Grammar.{located_document}
use Rattle.jsonc_value.specs.declared.value.JsonValue.{JsonValue}
use Rattle.jsonc_value.specs.to_value.Made.{IsCollapsed}
use Rattle.jsonc_value.specs.to_value.Reads.{IsValueOf}

pub document_made : {A : Type 0} (o : Options) (bytes : List ℕ) (found : Option (JsonValue A)) {made : JsonValue A → Located → Type 0} → ((v : JsonValue A) (x : Located) → made v x → IsCollapsed v x)
    → IsDocumentMade (record { bytes = bytes; options = o }) false made found → IsValueOf o (chars bytes) found
document_made o bytes None means h = (None, located_document o bytes None h, tt, refl)
document_made o bytes (Some v) means (x, document, small, made) = (Some (value_at x), located_document o bytes (Some x) document, small, ap Some (means v x made))
