-- What is a document is one of the same value under options that allow more around the same lexemes.
use Rattle.std.proofs.Common.{ℕ, refl, Bool, false, List, Option, Some, None, IsTrue, inl, inr}
use Rattle.jsonc_text.specs.Options.{Options, AllowsMore, with_commas}
use Rattle.jsonc_text.specs.Gaps.{Gap, none, blank, comment}
use Rattle.jsonc_text.specs.Plain.{Plain, Items, Members}
use Rattle.jsonc_text.specs.Lexemes.{LexemeKind}
use Rattle.jsonc_text.specs.Grammar.{IsValue, AreElements, AreProperties, IsProperty, IsName, IsDocument, literal, empty_array, array, empty_object, object, last_element, element, last_property, property, named, Separates, comma, no_comma, Closes, plain, trailing_comma}
use Rattle.jsonc_text.proofs.SameOptions.{lexeme_same}

gap_wider : {o p : Options} {t r : List ℕ} → AllowsMore o p → Gap o t r → Gap p t r
gap_wider m none = none
gap_wider m (blank h g) = blank h (gap_wider m g)
gap_wider m (comment h k g) = comment (m.comments h) k (gap_wider m g)

separates_wider : {o p : Options} {t r : List ℕ} → AllowsMore o p → Separates o t r → Separates p t r
separates_wider m (comma g h) = comma (gap_wider m g) (gap_wider m h)
separates_wider m (no_comma k g) = no_comma (m.missing_commas k) (gap_wider m g)

closes_wider : {o p : Options} {c : ℕ} {t r : List ℕ} → AllowsMore o p → Closes o c t r → Closes p c t r
closes_wider m (plain g) = plain (gap_wider m g)
closes_wider m (trailing_comma k g h) = trailing_comma (m.trailing_commas k) (gap_wider m g) (gap_wider m h)

name_wider : {o p : Options} {name t r : List ℕ} → AllowsMore o p → IsName o t name r → IsName p t name r
name_wider {name = name} {t = t} {r = r} m (inl l) = inl (lexeme_same m.lexemes (LexemeKind.string name) t r l)
name_wider {t = t} {r = r} m (inr l) = inr (m.loose_names l.0, l.1, l.2, l.3, lexeme_same m.lexemes l.2 t r l.4)

mutual
  value_wider : {o p : Options} {v : Plain} {t r : List ℕ} → AllowsMore o p → IsValue o t v r → IsValue p t v r
  value_wider m (literal k {t = t} {r = r} l e) = literal k (lexeme_same m.lexemes k t r l) e
  value_wider m (empty_array g) = empty_array (gap_wider m g)
  value_wider m (array g e) = array (gap_wider m g) (elements_wider m e)
  value_wider m (empty_object g) = empty_object (gap_wider m g)
  value_wider m (object g e) = object (gap_wider m g) (properties_wider m e)

  elements_wider : {o p : Options} {vs : Items} {t r : List ℕ} → AllowsMore o p → AreElements o t vs r → AreElements p t vs r
  elements_wider m (last_element v c) = last_element (value_wider m v) (closes_wider m c)
  elements_wider m (element v s e) = element (value_wider m v) (separates_wider m s) (elements_wider m e)

  properties_wider : {o p : Options} {ms : Members} {t r : List ℕ} → AllowsMore o p → AreProperties o t ms r → AreProperties p t ms r
  properties_wider m (last_property x c) = last_property (property_wider m x) (closes_wider m c)
  properties_wider m (property x s e) = property (property_wider m x) (separates_wider m s) (properties_wider m e)

  property_wider : {o p : Options} {name : List ℕ} {v : Plain} {t r : List ℕ} → AllowsMore o p → IsProperty o t name v r → IsProperty p t name v r
  property_wider m (named n g h v) = named (name_wider m n) (gap_wider m g) (gap_wider m h) (value_wider m v)

pub document_wider : {o p : Options} (t : List ℕ) (v : Option Plain) → AllowsMore o p → IsDocument o t v → IsDocument p t v
document_wider t None m g = gap_wider m g
document_wider t (Some v) m (u, r, g, x, h) = (u, r, gap_wider m g, value_wider m x, gap_wider m h)

pub commas_allow_less : (o : Options) → AllowsMore (with_commas o) o
commas_allow_less o = record {
  lexemes = record { single_quoted_strings = refl; hexadecimal_numbers = refl; unary_plus_numbers = refl; bare_decimal_points = refl; non_finite_numbers = refl; extended_escapes = refl };
  comments = λ h. h;
  loose_names = λ h. h;
  trailing_commas = λ h. h;
  missing_commas = λ h. never h;
}
  where
    never : {b : Bool} → IsTrue false → IsTrue b
    never h = cc
