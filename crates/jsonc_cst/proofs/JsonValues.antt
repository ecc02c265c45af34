-- The value of a JSON text, whose numbers are numbers.
use Rattle.std.proofs.Common.{◌≡◌, ℕ, Bool, true, false, cond, List, chars, Option, Some, None, IfSome, option_map, sym, subst}
use Rattle.std.specs.Str.{bytes_eq}
use Rattle.jsonc_text.specs.Options.{Options}
use Rattle.jsonc_text.specs.Plain.{Plain, Items, no_items, item, Members, no_members, member, collapse, collapse_items, collapse_members, last_of, without}
use Rattle.jsonc_text.specs.Words.{Keyword}
use Rattle.jsonc_text.specs.Lexemes.{LexemeKind, Lexeme}
use Rattle.jsonc_text.specs.Numbers.{Number}
use Rattle.jsonc_text.specs.Grammar as grammar
use Rattle.jsonc_text.specs.Grammar.{IsValue, AreElements, AreProperties, IsProperty, IsDocument, literal_value}
use Rattle.jsonc_text.proofs.NumberFrames.{number_whole}
use Rattle.jsonc_layout.specs.input.Views.{plain}
use Rattle.jsonc_layout.specs.declared.input.value.CstInputValue.{CstInputValue}
use Rattle.jsonc_layout.proofs.lemmas.from_input.Texts.{of_texts}
use Rattle.jsonc_edit.specs.Writing.{IsOfNumbers, AreOfNumbers, AreNamedOfNumbers, IsWritable}
use Rattle.jsonc_input.specs.Reads.{IsValueOfText}

module _ (o : Options) where
  -- a literal's number is one
  literal_numbers : (k : LexemeKind) (t r : List ℕ) (v : Plain) → Lexeme o k t r → literal_value k ≡ Some v → IsOfNumbers o v
  literal_numbers (LexemeKind.string s) t r v l e = let same : Plain.string s ≡ v = cc in subst (IsOfNumbers o) same tt
  literal_numbers (LexemeKind.number s) t r v l e =
      let same : Plain.number s ≡ v = cc in subst (IsOfNumbers o) same (number_whole s r (subst (λ (x : List ℕ). Number o x r) l.0 l.1))
  literal_numbers (LexemeKind.keyword (Keyword.boolean b)) t r v l e = let same : Plain.boolean b ≡ v = cc in subst (IsOfNumbers o) same tt
  literal_numbers (LexemeKind.keyword Keyword.null) t r v l e = let same : Plain.null ≡ v = cc in subst (IsOfNumbers o) same tt
  literal_numbers (LexemeKind.word s) t r v l e = cc
  literal_numbers (LexemeKind.punctuation c) t r v l e = cc

  -- each number in the value of a text is one
  mutual
    value_numbers : {v : Plain} {t r : List ℕ} → IsValue o t v r → IsOfNumbers o v
    value_numbers {v} {t} {r} (grammar.literal k l e) = literal_numbers k t r v l e
    value_numbers (grammar.empty_array g) = tt
    value_numbers (grammar.array g e) = elements_numbers e
    value_numbers (grammar.empty_object g) = tt
    value_numbers (grammar.object g e) = properties_numbers e

    elements_numbers : {vs : Items} {t r : List ℕ} → AreElements o t vs r → AreOfNumbers o vs
    elements_numbers (grammar.last_element v c) = (value_numbers v, tt)
    elements_numbers (grammar.element v s e) = (value_numbers v, elements_numbers e)

    properties_numbers : {ms : Members} {t r : List ℕ} → AreProperties o t ms r → AreNamedOfNumbers o ms
    properties_numbers (grammar.last_property p c) = (property_numbers p, tt)
    properties_numbers (grammar.property p s e) = (property_numbers p, properties_numbers e)

    property_numbers : {name : List ℕ} {v : Plain} {t r : List ℕ} → IsProperty o t name v r → IsOfNumbers o v
    property_numbers (grammar.named n g h v) = value_numbers v

  -- so it is where of equal names the last value is at the first place
  one_of : (b : Bool) (v w : Plain) → IsOfNumbers o v → IsOfNumbers o w → IsOfNumbers o (cond b v w)
  one_of true v w h g = h
  one_of false v w h g = g

  one_list : (b : Bool) (ms ns : Members) → AreNamedOfNumbers o ms → AreNamedOfNumbers o ns → AreNamedOfNumbers o (cond b ms ns)
  one_list true ms ns h g = h
  one_list false ms ns h g = g

  last_numbers : (name : List ℕ) (v : Plain) (ms : Members) → IsOfNumbers o v → AreNamedOfNumbers o ms → IsOfNumbers o (last_of name v ms)
  last_numbers name v no_members h g = h
  last_numbers name v (member n w ms) h g = last_numbers name (cond (bytes_eq n name) w v) ms (one_of (bytes_eq n name) w v g.0 h) g.1

  without_numbers : (name : List ℕ) (ms : Members) → AreNamedOfNumbers o ms → AreNamedOfNumbers o (without name ms)
  without_numbers name no_members g = tt
  without_numbers name (member n w ms) g =
      let rest = without_numbers name ms g.1 in
      one_list (bytes_eq n name) (without name ms) (member n w (without name ms)) rest (g.0, rest)

  mutual
    pub collapsed_numbers : (v : Plain) → IsOfNumbers o v → IsOfNumbers o (collapse v)
    collapsed_numbers Plain.null h = tt
    collapsed_numbers (Plain.boolean b) h = tt
    collapsed_numbers (Plain.number s) h = h
    collapsed_numbers (Plain.string s) h = tt
    collapsed_numbers (Plain.array vs) h = collapsed_items vs h
    collapsed_numbers (Plain.object ms) h = collapsed_members ms h

    collapsed_items : (vs : Items) → AreOfNumbers o vs → AreOfNumbers o (collapse_items vs)
    collapsed_items no_items h = tt
    collapsed_items (item v vs) h = (collapsed_numbers v h.0, collapsed_items vs h.1)

    collapsed_members : (ms : Members) → AreNamedOfNumbers o ms → AreNamedOfNumbers o (collapse_members ms)
    collapsed_members no_members h = tt
    collapsed_members (member name v ms) h =
        let rest = collapsed_members ms h.1 in
        (last_numbers name (collapse v) (collapse_members ms) (collapsed_numbers v h.0) rest, without_numbers name (collapse_members ms) rest)

  pub document_numbers : (t : List ℕ) (v : Plain) → IsDocument o t (Some v) → IsOfNumbers o v
  document_numbers t v d = value_numbers d.3

  -- what was read of a text may be written
  pub value_may_be_written : {A : Type 0} (text : List ℕ) (found : Option (CstInputValue A)) → IsValueOfText o text (option_map plain found) → IfSome found (λ v. IsWritable o (plain v))
  value_may_be_written {A} text found read = go found read.value read.document read.collapsed
    where
      go : (found : Option (CstInputValue A)) (w : Option Plain) → IsDocument o (chars text) w → option_map plain found ≡ option_map collapse w → IfSome found (λ v. IsWritable o (plain v))
      go None w d e = tt
      go (Some v) None d e = cc
      go (Some v) (Some x) d e =
          let same : plain v ≡ collapse x = cc in
          record { texts = of_texts A v; numbers = subst (IsOfNumbers o) (sym same) (collapsed_numbers x (document_numbers (chars text) x d)) }
