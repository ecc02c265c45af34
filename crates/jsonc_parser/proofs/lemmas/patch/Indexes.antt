-- The indexes that tokens are, and the elements there.
use Rattle.std.proofs.Common.{ℕ, ◌≡◌, ◌<◌, ◌≤◌, ◌^◌, ◌∙◌, ◌↔◌, sym, ap, subst, refl, inl, inr, Bool, true, false, not, IsTrue, List, [], ◌∷◌, Option, Some, None, length, slice_get, slice_index, chars, arith}
use Rattle.std.proofs.lemmas.Bool.{cases_lt, false≢true}
use Rattle.std.proofs.lemmas.Fmt.{IsAscii-from_digits}
use Rattle.std.proofs.lemmas.List.Filters.{length-filter_both}
use Rattle.std.proofs.lemmas.Option.{slice_get_within}
use Rattle.std.proofs.lemmas.Str.{chars-IsAscii, encodes-chars, encodes-IsAscii}
use Rattle.std.specs.Str.{IsUtf8}
use Rattle.std.specs.Str.Parse.{IsNumeral, digits_value}
use Rattle.jsonc_text.specs.Text.{next}
use Rattle.jsonc_tree.specs.Tree.{Node, children_at, IsTree}
use Rattle.jsonc_tree.proofs.AgreeingLinks.{row_short}
use Rattle.jsonc_layout.specs.nodes.Kinds.{is_element_at}
use Rattle.jsonc_layout.specs.nodes.Siblings.{elements_at}
use Rattle.jsonc_edit.specs.Paths.{IsElementOf}
use Rattle.jsonc_parser.specs.patch.Lookups.{IsElementBy}
use Rattle.jsonc_parser.specs.patch.References.{IsIndex}
use Rattle.jsonc_parser.proofs.lemmas.patch.Evaluation.{index_once}

-- digits are the same as bytes and as characters
pub digits_are_chars : (bytes : List ℕ) → IsNumeral 10 bytes → chars bytes ≡ bytes
digits_are_chars bytes n = chars-IsAscii bytes (IsAscii-from_digits bytes n.1)

chars_are_digits : (bytes : List ℕ) → IsUtf8 bytes → IsNumeral 10 (chars bytes) → chars bytes ≡ bytes
chars_are_digits bytes utf8 n = sym (encodes-IsAscii (chars bytes) (IsAscii-from_digits (chars bytes) n.1)) ∙ encodes-chars bytes utf8

-- an index is written by bytes too
pub by_bytes : (bytes : List ℕ) (i : ℕ) → IsUtf8 bytes → IsIndex (chars bytes) i → IsIndex bytes i
by_bytes bytes i utf8 x = subst (λ l. IsIndex l i) (chars_are_digits bytes utf8 x.digits) x

abbrev pub IsPadded : List ℕ → Type 0
IsPadded bytes = (1 < length bytes) × (slice_index bytes 0 ≡ 0x30)

pub leading : (bytes : List ℕ) → (IsPadded bytes → ⊥) → next bytes ≡ Some 0x30 → length bytes ≡ 1
leading [] free e = cc
leading (c ∷ []) free e = refl
leading (c ∷ d ∷ r) free e = absurd (free (omega arith, (let same : c ≡ 0x30 = cc in same)))

begins_so : (bytes : List ℕ) → IsPadded bytes → next bytes ≡ Some 0x30
begins_so [] p = absurd (omega (arith, p.0))
begins_so (c ∷ r) p = ap (λ k. Some k) p.1

pub index_there : (bytes : List ℕ) (i : ℕ) (b : Bool) → IsNumeral 10 bytes × (digits_value 10 bytes < 2 ^ 64) → i ≡ digits_value 10 bytes → (IsTrue b ↔ IsPadded bytes) → b ≡ false → IsIndex (chars bytes) i
index_there bytes i b n is padded not =
    subst (λ l. IsIndex l i) (sym (digits_are_chars bytes n.0))
    (record { digits = n.0; leading = leading bytes (λ p. false≢true (sym not ∙ padded.1 p)); is = sym is })

pub index_large : (bytes : List ℕ) (limit : ℕ) → IsUtf8 bytes → limit < 2 ^ 64 → (IsNumeral 10 bytes × (digits_value 10 bytes < 2 ^ 64) → ⊥) → (i : ℕ) → IsIndex (chars bytes) i → limit ≤ i
index_large bytes limit utf8 fits none i x =
    let y = by_bytes bytes i utf8 x in
    elim (cases_lt (digits_value 10 bytes) (2 ^ 64)) [
      | inl l ↦ absurd (none (y.digits, l))
      | inr l ↦ (let value = y.is in omega (arith, l, value, fits))
    ]

pub index_padded : (bytes : List ℕ) (limit : ℕ) (b : Bool) → IsUtf8 bytes → (IsTrue b ↔ IsPadded bytes) → b ≡ true → (i : ℕ) → IsIndex (chars bytes) i → limit ≤ i
index_padded bytes limit b utf8 padded is i x =
    let p = padded.0 is in
    let one = (by_bytes bytes i utf8 x).leading (begins_so bytes p) in
    absurd (omega (arith, one, p.0))

pub index_beyond : (bytes : List ℕ) (limit index : ℕ) → IsUtf8 bytes → index ≡ digits_value 10 bytes → limit ≤ index → (i : ℕ) → IsIndex (chars bytes) i → limit ≤ i
index_beyond bytes limit index utf8 is beyond i x = let value = (by_bytes bytes i utf8 x).is in omega (arith, value, is, beyond)

-- elements are no more than nodes
pub element_beyond : (ns : List Node) → IsTree ns → (n i q : ℕ) → length ns ≤ i → IsElementOf ns n i q → ⊥
element_beyond ns tree n i q beyond is =
    let within = slice_get_within (elements_at ns n) i q is in
    let fewer = length-filter_both (is_element_at ns) (λ x. not (is_element_at ns x)) (λ x. refl) (children_at ns n) in
    let short = row_short ns tree n in
    omega (arith, within, fewer, short, beyond)

no_element : (q : ℕ) → None ≡ Some q → ⊥
no_element q wrong = cc

pub element_told : (ns : List Node) (n index : ℕ) (token : List ℕ) (found : Option ℕ) → found ≡ slice_get (elements_at ns n) index → IsIndex token index → IsElementBy ns n token found
element_told ns n index token None e x = λ i q y is. no_element q (e ∙ ap (λ k. slice_get (elements_at ns n) k) (index_once x y) ∙ is)
element_told ns n index token (Some q) e x = (index, x, sym e)
