-- What a parse tells of the bytes of a text.
use Rattle.std.proofs.Common.{◌≡◌, ◌⊎◌, ℕ, List, arith, inl, inr, subst}
use Rattle.jsonc_text.specs.Options.{Options}
use Rattle.jsonc_text.specs.declared.errors.ParseError.{ParseError}
use Rattle.jsonc_engine.specs.Input.{IsInputOf, IsRefusalOf}
use Rattle.jsonc_c.specs.Told.{IsToldOf}
use Rattle.jsonc_c.specs.declared.fault.JsoncFault.{JsoncFault}

module _ (o p : Options) (bytes text : List ℕ) (same : o ≡ p) (read : text ≡ bytes) where
  -- they are those of a document of the options that were read from bits
  pub is_input : IsInputOf o text → IsInputOf p bytes
  is_input it = subst (λ (b : List ℕ). IsInputOf p b) read (subst (λ (q : Options). IsInputOf q text) same it)

  -- they are not, and the fault tells why
  pub is_told : (e : ParseError) (status : ℕ) (f : JsoncFault) → IsRefusalOf o text e → (status ≡ 1) ⊎ ((status ≡ 4) × IsToldOf e f) → status ≡ 4 → (e : ParseError) × IsRefusalOf p bytes e × IsToldOf e f
  is_told e status f it (inl one) four = absurd (omega (arith, one, four))
  is_told e status f it (inr told) four = (e, subst (λ (b : List ℕ). IsRefusalOf p b e) read (subst (λ (q : Options). IsRefusalOf q text e) same it), told.1)
