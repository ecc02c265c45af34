-- What a value stands for has only texts in it.
use Rattle.std.proofs.Common.{List, [], ◌∷◌, string_bytes, sym, subst, map}
use Rattle.std.proofs.lemmas.Str.{scalars-chars, IsUtf8-string_bytes}
use Rattle.std.specs.declared.string.String.{String}
use Rattle.jsonc_text.specs.Plain.{Plain}
use Rattle.jsonc_layout.specs.input.Views.{plain, value_step, items_of, members_of, chars_of}
use Rattle.jsonc_layout.specs.declared.input.value.CstInputValue.{CstInputValue, map-CstInputValue}
use Rattle.jsonc_layout.specs.declared.input.value.CstInputValue.TheOpen.{CstInputValue-F}
use Rattle.jsonc_layout.specs.declared.input.value.CstInputValue.TheFolds.{fold-roll-CstInputValue, ind-CstInputValue}
use Rattle.jsonc_layout.specs.from_input.Texts.{IsCharacters, IsOfTexts, AreOfTexts, AreNamedOfTexts}

-- a value inside, for which it holds
abbrev ValueOfTexts : Type 0 → Type 0
ValueOfTexts A = (v : CstInputValue A) × IsOfTexts (plain v)

module _ {A : Type 0} where
  string_of_characters : (s : String A) → IsCharacters (chars_of s)
  string_of_characters s = scalars-chars (string_bytes s) (IsUtf8-string_bytes s)

  items_of_texts : (vs : List (ValueOfTexts A)) → AreOfTexts (items_of (map plain (map (λ (e : ValueOfTexts A). e.0) vs)))
  items_of_texts [] = tt
  items_of_texts (e ∷ vs) = (e.1, items_of_texts vs)

  members_of_texts : (ps : List (String A × ValueOfTexts A)) → AreNamedOfTexts (members_of (map (λ (p : String A × CstInputValue A). (p.0, plain p.1)) (map (λ (p : String A × ValueOfTexts A). (p.0, p.1.0)) ps)))
  members_of_texts [] = tt
  members_of_texts (p ∷ ps) = (string_of_characters p.0, p.1.1, members_of_texts ps)

  layer_of_texts : (y : CstInputValue-F A (ValueOfTexts A)) → IsOfTexts (value_step (map-CstInputValue A (CstInputValue A) Plain plain (map-CstInputValue A (ValueOfTexts A) (CstInputValue A) (λ (e : ValueOfTexts A). e.0) y)))
  layer_of_texts CstInputValue-F.Null = tt
  layer_of_texts (CstInputValue-F.Bool b) = tt
  layer_of_texts (CstInputValue-F.Number s) = string_of_characters s
  layer_of_texts (CstInputValue-F.String s) = string_of_characters s
  layer_of_texts (CstInputValue-F.Array vs) = items_of_texts vs.items
  layer_of_texts (CstInputValue-F.Object ps) = members_of_texts ps.items

pub of_texts : (A : Type 0) (v : CstInputValue A) → IsOfTexts (plain v)
of_texts A = ind-CstInputValue A (λ v. IsOfTexts (plain v)) (λ x y is.
    subst IsOfTexts (sym (fold-roll-CstInputValue A Plain value_step x))
    (subst (λ (z : CstInputValue-F A (CstInputValue A)). IsOfTexts (value_step (map-CstInputValue A (CstInputValue A) Plain plain z))) is (layer_of_texts y)))
