-- Whether a token may be an index, read off its bytes, and the first of some tokens that may be one.
use Rattle.std.proofs.Common.{ℕ, suc, ◌≡◌, ◌≤◌, ◌<◌, ◌+◌, ◌++◌, ◌∙◌, ◌==◌, ◌&&◌, ◌↔◌, sym, ap, subst, refl, inl, inr, Bool, true, false, IsTrue, List, [], ◌∷◌, length, take, drop, get_or, chars, arith}
use Rattle.std.proofs.lemmas.Bool.{eqb-true, false≢true}
use Rattle.std.proofs.lemmas.List.{length-map, length-take-le, take_all}
use Rattle.std.proofs.lemmas.List.Elements.{All-append, All-cons, All-nil}
use Rattle.std.proofs.lemmas.Str.Parse.{numerals_by_value, tells_all_ascii_digits, IsNumeralModel}
use Rattle.std.specs.Bool.{Decides}
use Rattle.std.specs.Char.{is_ascii_digit}
use Rattle.std.specs.List.{All, list_all}
use Rattle.std.specs.Str.{all_ascii_digits, IsUtf8}
use Rattle.std.specs.Str.Parse.{IsNumeral, digits_value}
use Rattle.std.specs.declared.string.String.{String}
use Rattle.jsonc_layout.specs.input.Views.{chars_of}
use Rattle.jsonc_parser.specs.paths.Found.{names_of}
use Rattle.jsonc_parser.specs.patch.Putting.{MayBeIndex}
use Rattle.jsonc_parser.specs.patch.PutSteps.{IsFirstIndex}
use Rattle.jsonc_parser.specs.patch.References.{IsIndex}
use Rattle.jsonc_parser.proofs.lemmas.paths.Found.{one_more, split_at}
use Rattle.jsonc_parser.proofs.lemmas.patch.Indexes.{by_bytes, digits_are_chars, index_padded, leading, IsPadded}

decides_yes : {P : Type 0} → P → Decides true P
decides_yes p = (λ _. p, λ _. refl)

decides_no : {P : Type 0} → ¬ P → Decides false P
decides_no never = (λ e. absurd (false≢true e), λ p. absurd (never p))

-- digits alone
all_same : (ds : List ℕ) → list_all is_ascii_digit ds ≡ all_ascii_digits ds
all_same [] = refl
all_same (c ∷ cs) = ap (λ b. is_ascii_digit c && b) (all_same cs)

read : IsNumeralModel (λ ds. all_ascii_digits ds ≡ true) (digits_value 10)
read = numerals_by_value (λ ds. all_ascii_digits ds ≡ true) tells_all_ascii_digits

some_bytes : (bytes : List ℕ) → (length bytes == 0) ≡ false → 0 < length bytes
some_bytes [] e = absurd (false≢true (sym e))
some_bytes (c ∷ cs) e = omega arith

module _ (bytes : List ℕ) (utf8 : IsUtf8 bytes) where
  pub no_index_empty : (length bytes == 0) ≡ true → Decides false ((i : ℕ) × IsIndex (chars bytes) i)
  no_index_empty e = decides_no (λ x.
      (let none = eqb-true (length bytes) 0 e in
      let some = (by_bytes bytes x.0 utf8 x.1).digits.0 in
      omega (arith, none, some)))

  module _ (b : Bool) (padded : IsTrue b ↔ IsPadded bytes) where
    pub no_index_padded : b ≡ true → Decides false ((i : ℕ) × IsIndex (chars bytes) i)
    no_index_padded is = decides_no (λ x. (let large = index_padded bytes (suc x.0) b utf8 padded is x.0 x.1 in omega (arith, large)))

    pub index_by_digits : (length bytes == 0) ≡ false → b ≡ false → (d : Bool) → d ≡ list_all is_ascii_digit bytes → Decides d ((i : ℕ) × IsIndex (chars bytes) i)
    index_by_digits some not d is = (
      λ e.
          (let n : IsNumeral 10 bytes = (some_bytes bytes some, read.to bytes (sym (all_same bytes) ∙ sym is ∙ e)) in
          let x : IsIndex bytes (digits_value 10 bytes) = record { digits = n; leading = leading bytes (λ p. false≢true (sym not ∙ padded.1 p)); is = refl } in
          (digits_value 10 bytes, subst (λ l. IsIndex l (digits_value 10 bytes)) (sym (digits_are_chars bytes n)) x)),
      λ x. is ∙ all_same bytes ∙ read.from bytes (by_bytes bytes x.0 utf8 x.1).digits.1,
    )

-- an index, or a hyphen
module _ (token : List ℕ) where
  pub may_by_hyphen : (b : Bool) → Decides b (token ≡ 0x2D ∷ []) → b ≡ true → Decides true (MayBeIndex token)
  may_by_hyphen b hyphen e = decides_yes (inr (hyphen.0 e))

  pub may_by_index : (b d : Bool) → Decides b (token ≡ 0x2D ∷ []) → b ≡ false → Decides d ((i : ℕ) × IsIndex token i) → Decides d (MayBeIndex token)
  may_by_index b d hyphen not index = (λ e. inl (index.0 e), λ may. elim may [ inl x ↦ index.1 x | inr h ↦ absurd (false≢true (sym not ∙ hyphen.1 h)) ])

-- the first of some tokens
abbrev pub AreNames : List (List ℕ) → Type 0
AreNames tokens = All (λ name. ¬ (MayBeIndex name)) tokens

names_more : (xs : List (List ℕ)) (x : List ℕ) → AreNames xs → ¬ (MayBeIndex x) → AreNames (xs ++ x ∷ [])
names_more xs x all one = All-append (λ name. ¬ (MayBeIndex name)) xs (x ∷ []) all (All-cons (λ name. ¬ (MayBeIndex name)) x [] one (All-nil (λ name. ¬ (MayBeIndex name))))

module _ {A : Type 0} (tokens : List (String A)) where
  pub names_begin : AreNames (names_of (take 0 tokens))
  names_begin = All-nil (λ name. ¬ (MayBeIndex name))

  module _ (k : ℕ) (so_far : AreNames (names_of (take k tokens))) where
    pub names_all : length tokens ≤ k → AreNames (names_of tokens)
    names_all h = subst (λ (l : List (String A)). AreNames (names_of l)) (take_all k tokens h) so_far

    module _ (s : String A) (h : k < length tokens) (b : Bool) (told : Decides b (MayBeIndex (chars_of (get_or tokens k s)))) where
      pub names_on : b ≡ false → AreNames (names_of (take (k + 1) tokens))
      names_on not = subst AreNames (sym (one_more tokens k s h)) (names_more (names_of (take k tokens)) (chars_of (get_or tokens k s)) so_far (λ may. false≢true (sym not ∙ told.1 may)))

      pub first_found : b ≡ true → IsFirstIndex (names_of tokens) k
      first_found is = (
        names_of (take k tokens),
        chars_of (get_or tokens k s),
        names_of (drop (k + 1) tokens),
        split_at tokens k s h,
        so_far,
        told.0 is,
        sym (length-map (take k tokens) chars_of ∙ length-take-le k tokens (omega (arith, h))),
      )
