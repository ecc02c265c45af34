-- A document's tree is one under options that allow more around the same lexemes.
use Rattle.std.proofs.Common.{ℕ, ◌++◌, refl, true, List, chars, IsTrue}
use Rattle.jsonc_text.specs.Options.{Options, AgreeOnLexemes, AllowsMore}
use Rattle.jsonc_text.specs.Lexemes.{LexemeKind}
use Rattle.jsonc_text.proofs.SameOptions.{lexeme_same}
use Rattle.jsonc_tree.specs.Content.{Content}
use Rattle.jsonc_tree.specs.OrderedTree.{OrderedTree}
use Rattle.jsonc_sound.specs.Shape as shape
use Rattle.jsonc_sound.specs.Shape.{IsTrivia, IsLexemeBefore, IsLiteralBefore, IsNameBefore, Trivia, Separated, Closed, ValueShaped, ElementsShaped, PropertiesShaped, PropertyShaped, DocumentShaped}
use Rattle.jsonc_sound.specs.SoundTrees.{SoundTree}

-- leaves, and trivia, look at no commas
module _ {o p : Options} (lexemes : AgreeOnLexemes o p) (comments : IsTrue o.comments → IsTrue p.comments) (loose_names : IsTrue o.loose_names → IsTrue p.loose_names) where
  pub trivia_leaf : (content : Content) → IsTrivia o content → IsTrivia p content
  trivia_leaf (Content.whitespace s) h = h
  trivia_leaf (Content.newline k) h = h
  trivia_leaf (Content.comment s) h = (comments h.0, h.1)
  trivia_leaf content h = absurd h

  lexeme_before : (k : LexemeKind) (s r : List ℕ) → IsLexemeBefore o k s r → IsLexemeBefore p k s r
  lexeme_before k s r h = (h.0, lexeme_same lexemes k (chars s ++ r) r h.1)

  pub literal_before : (content : Content) (r : List ℕ) → IsLiteralBefore o content r → IsLiteralBefore p content r
  literal_before (Content.string s) r h = (h.0, lexeme_before (LexemeKind.string h.0) s r h.1)
  literal_before (Content.number s) r h = lexeme_before (LexemeKind.number (chars s)) s r h
  literal_before (Content.boolean b) r h = h
  literal_before Content.null r h = h
  literal_before content r h = absurd h

  pub name_before : (content : Content) (r : List ℕ) → IsNameBefore o content r → IsNameBefore p content r
  name_before (Content.string s) r h = literal_before (Content.string s) r h
  name_before (Content.word s) r h = (h.0, (loose_names h.1.0, h.1.1, h.1.2, h.1.3, lexeme_same lexemes h.1.2 (chars s ++ r) r h.1.4))
  name_before content r h = absurd h

  pub trivia : {t r : OrderedTree} → Trivia o t r → Trivia p t r
  trivia shape.nothing = shape.nothing
  trivia (shape.trivia {content = content} h t) = shape.trivia (trivia_leaf content h) (trivia t)

module _ {o p : Options} (m : AllowsMore o p) where
  abbrev gap : {t r : OrderedTree} → Trivia o t r → Trivia p t r
  gap a = trivia m.lexemes m.comments m.loose_names a

  separated : {t r : OrderedTree} → Separated o t r → Separated p t r
  separated (shape.comma a b) = shape.comma (gap a) (gap b)
  separated (shape.no_comma h a) = shape.no_comma (m.missing_commas h) (gap a)

  closed : {bracket : ℕ} {t : OrderedTree} → Closed o bracket t → Closed p bracket t
  closed (shape.plain a) = shape.plain (gap a)
  closed (shape.trailing_comma h a b) = shape.trailing_comma (m.trailing_commas h) (gap a) (gap b)

  mutual
    value : {content : Content} {below : OrderedTree} {r : List ℕ} → ValueShaped o content below r → ValueShaped p content below r
    value (shape.literal {content = content} {r = r} h) = shape.literal (literal_before m.lexemes m.comments m.loose_names content r h)
    value (shape.empty_array a) = shape.empty_array (gap a)
    value (shape.array a e) = shape.array (gap a) (elements e)
    value (shape.empty_object a) = shape.empty_object (gap a)
    value (shape.object a e) = shape.object (gap a) (properties e)

    elements : {row : OrderedTree} → ElementsShaped o row → ElementsShaped p row
    elements (shape.last_element v c) = shape.last_element (value v) (closed c)
    elements (shape.element v s e) = shape.element (value v) (separated s) (elements e)

    properties : {row : OrderedTree} → PropertiesShaped o row → PropertiesShaped p row
    properties (shape.last_property x c) = shape.last_property (property x) (closed c)
    properties (shape.property x s e) = shape.property (property x) (separated s) (properties e)

    property : {row : OrderedTree} {r : List ℕ} → PropertyShaped o row r → PropertyShaped p row r
    property (shape.named {name = name} {after = after} n a b v) = shape.named (name_before m.lexemes m.comments m.loose_names name (shape.printed_text after) n) (gap a) (gap b) (value v)

  document : {tree : OrderedTree} → DocumentShaped o tree → DocumentShaped p tree
  document (shape.no_value a) = shape.no_value (gap a)
  document (shape.a_value a v b) = shape.a_value (gap a) (value v) (gap b)

  pub sound_wider : (tree : OrderedTree) → SoundTree o tree → SoundTree p tree
  sound_wider tree s = record { shaped = document s.shaped; lines = s.lines }

-- with trailing commas allowed
pub with_trailing : (o : Options) → AllowsMore o (record o { trailing_commas = true })
with_trailing o = record {
  lexemes = record { single_quoted_strings = refl; hexadecimal_numbers = refl; unary_plus_numbers = refl; bare_decimal_points = refl; non_finite_numbers = refl; extended_escapes = refl };
  comments = λ h. h;
  loose_names = λ h. h;
  trailing_commas = λ h. refl;
  missing_commas = λ h. h;
}

pub as_allowed : (o : Options) → AllowsMore o o
as_allowed o = record {
  lexemes = record { single_quoted_strings = refl; hexadecimal_numbers = refl; unary_plus_numbers = refl; bare_decimal_points = refl; non_finite_numbers = refl; extended_escapes = refl };
  comments = λ h. h;
  loose_names = λ h. h;
  trailing_commas = λ h. h;
  missing_commas = λ h. h;
}
