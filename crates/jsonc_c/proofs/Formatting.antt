-- Formatted texts, by options and styles that are read from numbers.
use Rattle.std.proofs.Common.{ℕ, ◌≡◌, ◌≤◌, ◌⊎◌, inl, inr, subst, List, chars, arith}
use Rattle.jsonc_text.specs.Options.{Options}
use Rattle.jsonc_text.specs.declared.errors.ParseError.{ParseError}
use Rattle.jsonc_engine.specs.Input.{IsRefusalOf}
use Rattle.jsonc_format.specs.Styles.{IsFormattedAs}
use Rattle.jsonc_format.specs.Wishes.{wish_of}
use Rattle.jsonc_format.specs.declared.style.Style.{Style}
use Rattle.jsonc_c.specs.Formats.{IsUnformatted}
use Rattle.jsonc_c.specs.Told.{IsToldOf}
use Rattle.jsonc_c.specs.declared.fault.JsoncFault.{JsoncFault}

module _ (o p : Options) (bytes text : List ℕ) (same : o ≡ p) (read : text ≡ bytes) where
  -- what is formatted of the text is formatted of the bytes that it was read from
  pub formatted_by : (s t : Style) (out : List ℕ) → s ≡ t → IsFormattedAs o (wish_of s) (chars text) out → IsFormattedAs p (wish_of t) (chars bytes) out
  formatted_by s t out e h =
      subst (λ (q : Options). IsFormattedAs q (wish_of t) (chars bytes) out) same
      (subst (λ (b : List ℕ). IsFormattedAs o (wish_of t) (chars b) out) read
      (subst (λ (x : Style). IsFormattedAs o (wish_of x) (chars text) out) e h))

  -- it is refused, and the fault tells why
  pub unformatted : (e : ParseError) (status : ℕ) (f : JsoncFault) → IsRefusalOf o text e → (status ≡ 1) ⊎ ((status ≡ 4) × IsToldOf e f) → IsUnformatted p bytes status f
  unformatted e status f it (inl one) = inl one
  unformatted e status f it (inr told) =
      inr (inr (told.0, e, subst (λ (b : List ℕ). IsRefusalOf p b e) read (subst (λ (q : Options). IsRefusalOf q text e) same it), told.1))

-- such a status is none of success, and none of a small buffer
pub unformatted_is : (o : Options) (bytes : List ℕ) (status : ℕ) (f : JsoncFault) → IsUnformatted o bytes status f → (1 ≤ status) × (status ≤ 4)
unformatted_is o bytes status f (inl one) = (omega (arith, one), omega (arith, one))
unformatted_is o bytes status f (inr (inl three)) = (omega (arith, three.0), omega (arith, three.0))
unformatted_is o bytes status f (inr (inr four)) = (omega (arith, four.0), omega (arith, four.0))
