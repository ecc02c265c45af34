-- What a check accepts.
use Rattle.std.proofs.Common.{ℕ, Bool, ◌≡◌, ◌||◌, ◌⊎◌, inl, inr, true, false, IsTrue, List, Option, None, Some, chars}
use Rattle.std.specs.declared.convert.Infallible.{Infallible}
use Rattle.jsonc_text.specs.Options.{Options}
use Rattle.jsonc_walk.specs.Located.{Located, value_at}
use Rattle.jsonc_walk.specs.Handed.{IsDocumentMade}
use Rattle.jsonc_walk.proofs.lemmas.Grammar.{located_document}
use Rattle.jsonc_check.specs.Checker.{HasValueWithin}

pub value_within : {I : Type 0} (makes : I → Located → Type 0) (whole : Bool) (o : Options) (bytes : List ℕ) (found : Option I) → IsDocumentMade (record { bytes = bytes; options = o }) whole makes found → HasValueWithin whole o (chars bytes)
value_within makes whole o bytes None h = (None, located_document o bytes None h, tt)
value_within makes whole o bytes (Some i) (x, document, small, made) = (Some (value_at x), located_document o bytes (Some x) document, small)

-- neither condition holds, and there has been no failure without a value
pub neither : (b d : Bool) → b ≡ false → d ≡ false → IsTrue (b || d) ⊎ Infallible → ⊥
neither true d e f asks = let apart : true ≡ false = e in cc
neither false true e f asks = let apart : true ≡ false = f in cc
neither false false e f (inl asks) = let apart : false ≡ true = asks in cc
neither false false e f (inr never) = elim never [ ]
