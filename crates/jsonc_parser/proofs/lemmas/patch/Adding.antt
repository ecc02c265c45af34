-- Where an element is to be inserted.
use Rattle.std.proofs.Common.{ℕ, zero, suc, ◌≡◌, ◌≢◌, ◌<◌, ◌≤◌, ◌-◌, ◌∙◌, sym, ap, subst, refl, inl, inr, List, [], ◌∷◌, Option, Some, None, length, slice_get, chars, arith}
use Rattle.std.proofs.lemmas.List.Filters.{length-filter_both}
use Rattle.std.proofs.lemmas.Option.{slice_get_cases, slice_get_within}
use Rattle.std.proofs.lemmas.Str.{chars_from_encodes, encodes-chars}
use Rattle.std.specs.Str.{IsUtf8}
use Rattle.jsonc_tree.specs.Tree.{Node, children_at, IsTree}
use Rattle.jsonc_tree.proofs.AgreeingLinks.{row_shorter}
use Rattle.jsonc_layout.specs.nodes.Kinds.{is_element_at}
use Rattle.jsonc_layout.specs.nodes.Siblings.{elements_at}
use Rattle.jsonc_parser.specs.patch.Applied.{IsPlaceBy}
use Rattle.jsonc_parser.specs.patch.References.{IsIndex}
use Rattle.jsonc_parser.proofs.lemmas.patch.Evaluation.{index_once}
use Rattle.std.proofs.Common.{not, encode_utf8_all, is_some, true, false, Bool}
use Rattle.std.specs.Bool.{Decides}
use Rattle.std.specs.Str.{bytes_eq}
use Rattle.std.proofs.lemmas.Bool.{false≢true}
use Rattle.std.proofs.lemmas.Slice.Eq.{bytes_eq-Decides}

-- a token that is a hyphen, in bytes and in characters
one_byte : encode_utf8_all (0x2D ∷ []) ≡ 0x2D ∷ []
unfolding lib.Utf8.encode
one_byte = refl

hyphen : (bytes : List ℕ) → IsUtf8 bytes → bytes ≡ 0x2D ∷ [] → chars bytes ≡ 0x2D ∷ []
hyphen bytes utf8 is = sym (chars_from_encodes (0x2D ∷ []) bytes utf8 (one_byte ∙ sym is))

pub hyphen_told : (bytes : List ℕ) → IsUtf8 bytes → (b : Bool) → b ≡ bytes_eq bytes (0x2D ∷ []) → Decides b (chars bytes ≡ 0x2D ∷ [])
hyphen_told bytes utf8 b is =
    let reported = bytes_eq-Decides bytes (0x2D ∷ []) in
    (λ e. hyphen bytes utf8 (reported.0 (sym is ∙ e)), λ same. is ∙ reported.1 (sym (encodes-chars bytes utf8) ∙ ap encode_utf8_all same ∙ one_byte))

pub none_of : (o : Option ℕ) → is_some o ≡ false → o ≡ None
none_of None e = refl
none_of (Some q) e = absurd (false≢true (sym e))

pub some_of : (o : Option ℕ) → is_some o ≡ true → (q : ℕ) × (o ≡ Some q)
some_of (Some q) e = (q, refl)
some_of None e = absurd (false≢true e)

positive : (index : ℕ) → (index ≡ 0 → ⊥) → 0 < index
positive zero some = absurd (some refl)
positive (suc k) some = omega arith

no_some : (q : ℕ) → Some q ≡ None → ⊥
no_some q e = cc

module _ (ns : List Node) (tree : IsTree ns) (n : ℕ) (token : List ℕ) where
  -- elements are fewer than nodes
  pub beyond_all : (i : ℕ) → length ns ≤ i → length (elements_at ns n) < i
  beyond_all i far =
      let fewer = length-filter_both (is_element_at ns) (λ x. not (is_element_at ns x)) (λ x. refl) (children_at ns n) in
      let short = row_shorter ns tree n in
      omega (arith, fewer, short, far)

  pub no_index : token ≢ 0x2D ∷ [] → ((i : ℕ) → IsIndex token i → length ns ≤ i) → IsPlaceBy ns n token None
  no_index other far = (other, λ i index. beyond_all i (far i index))

  -- the element before it is there, or not
  pub first_place : (index : ℕ) → IsIndex token index → index ≡ 0 → IsPlaceBy ns n token (Some (Some index))
  first_place index is zero_so = (is, omega (arith, zero_so))

  pub next_place : (index q : ℕ) → IsIndex token index → slice_get (elements_at ns n) (index - 1) ≡ Some q → IsPlaceBy ns n token (Some (Some index))
  next_place index q is there = let within = slice_get_within (elements_at ns n) (index - 1) q there in (is, omega (arith, within))

  pub past_place : (index : ℕ) → token ≢ 0x2D ∷ [] → IsIndex token index → (index ≡ 0 → ⊥) → slice_get (elements_at ns n) (index - 1) ≡ None → IsPlaceBy ns n token None
  past_place index other is some missing = (
    other,
    λ i x. (let same = index_once x is in
        let above = positive index some in
        elim (slice_get_cases (elements_at ns n) (index - 1)).1 [
          | inl there ↦ absurd (no_some there.0 (sym there.2 ∙ missing))
          | inr past ↦ omega (arith, same, past.0, above)
        ]),
  )
