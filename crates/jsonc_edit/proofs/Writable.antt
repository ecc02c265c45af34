-- What a writable value is laid out as may stand in a document.
use Rattle.std.proofs.Common.{◌≡◌, ◌∙◌, ℕ, List, [], ◌++◌, chars, encode_utf8_all, refl, sym, subst}
use Rattle.std.proofs.lemmas.List.{append-nil}
use Rattle.std.proofs.lemmas.Str.{chars-encodes}
use Rattle.jsonc_text.specs.Options.{Options}
use Rattle.jsonc_text.specs.Lexemes.{LexemeKind}
use Rattle.jsonc_text.specs.Numbers.{Number, NumberLit}
use Rattle.jsonc_text.specs.Strings.{IsString}
use Rattle.jsonc_text.specs.Plain.{Plain, Items, no_items, item, Members, no_members, member}
use Rattle.jsonc_tree.specs.Content.{Content}
use Rattle.jsonc_sound.specs.Shape as shape
use Rattle.jsonc_sound.specs.Shape.{IsLexemeBefore, IsLiteralBefore, ValueShaped, token_then}
use Rattle.jsonc_layout.specs.input.Numbers.{IsAlwaysNumber}
use Rattle.jsonc_text.specs.Spelling.{spelled}
use Rattle.jsonc_layout.proofs.lemmas.input.Spelled.{spelled_string}
use Rattle.jsonc_layout.specs.from_input.Layout.{Layout, deeper}
use Rattle.jsonc_tree.specs.OrderedTree.{Top}
use Rattle.jsonc_layout.specs.from_input.Laid.{laid, laid_items, laid_members, laid_property, leaf, property_of, number_leaf, string_leaf, holds_filled}
use Rattle.jsonc_layout.specs.from_input.Texts.{IsCharacters, IsOfTexts, AreOfTexts, AreNamedOfTexts}
use Rattle.jsonc_layout.proofs.lemmas.from_input.Meanings.{laid_value, laid_pair}
use Rattle.jsonc_layout.proofs.lemmas.from_input.SpelledTexts.{spelled_characters}
use Rattle.jsonc_sound.specs.Sound.{IsNewValue}
use Rattle.jsonc_sound.proofs.Followers.{value_ends}
use Rattle.jsonc_sound.specs.Properties.{IsNewProperty}
use Rattle.jsonc_edit.specs.Writing.{FitsLayout, IsOfNumbers, AreOfNumbers, AreNamedOfNumbers, IsWritable}
use Rattle.jsonc_edit.proofs.WrittenRows.{EachNode, one_of_rows, IsValueNode, IsPropertyNode, deeper_fits, space_is_trivia, line_is_trivia, array_of_lines, object_of_lines, elements_on_line}
use Rattle.jsonc_edit.proofs.WrittenLines.{pair_ends}
use Rattle.jsonc_edit.proofs.WrittenLines as lines

-- leaves that are values
literal_stands : (o : Options) (content : Content) → IsLiteralBefore o content [] → IsValueNode o (leaf content)
literal_stands o content h = λ r e. value_ends o r e (shape.literal {content = content} {r = []} h)

number_before : (o : Options) (s : List ℕ) → IsCharacters s → NumberLit o s → IsLiteralBefore o (number_leaf s) []
number_before o s h n =
    let bytes : List ℕ = encode_utf8_all s in
    let same : s ≡ chars bytes ++ [] = sym (append-nil (chars bytes) ∙ chars-encodes s h) in
    ((s, (h, refl)), (refl, subst (λ t. Number o t []) same n))

pub string_before : (o : Options) (s : List ℕ) → IsCharacters s → (r : List ℕ) → IsLexemeBefore o (LexemeKind.string s) (encode_utf8_all (spelled s)) r
string_before o s h r =
    let known = spelled_characters s h in
    ((spelled s, (known, refl)), subst (λ t. IsString o (t ++ r) s r) (sym (chars-encodes (spelled s) known)) (spelled_string o s r))

-- a name with a value
property_stands : (o : Options) (name : List ℕ) (value : Top) → IsCharacters name → IsValueNode o value → IsPropertyNode o (property_of name value)
property_stands o name value h v = (
  refl,
  λ r e. shape.named {name = string_leaf name} (name, string_before o name h _) shape.nothing (shape.trivia (space_is_trivia o) shape.nothing) (v r e),
)

-- each node of a value is one before whatever ends literals
mutual
  value_stands : (o : Options) (layout : Layout) → FitsLayout o layout → (v : Plain) → IsOfTexts v → IsOfNumbers o v → IsValueNode o (laid layout v)
  value_stands o layout f Plain.null t n = literal_stands o Content.null refl
  value_stands o layout f (Plain.boolean b) t n = literal_stands o (Content.boolean b) refl
  value_stands o layout f (Plain.number s) t n = literal_stands o (number_leaf s) (number_before o s t n)
  value_stands o layout f (Plain.string s) t n = literal_stands o (string_leaf s) (s, string_before o s t [])
  value_stands o layout f (Plain.array no_items) t n = λ r e. shape.empty_array shape.nothing
  value_stands o layout f (Plain.array (item v vs)) t n =
      λ r e.
      one_of_rows (λ x. ValueShaped o Content.array (token_then 0x5B x) r) (holds_filled (item v vs)) _ _
      (array_of_lines o (deeper layout) (deeper_fits o layout f) _ (line_is_trivia o layout f shape.nothing) _ _ (items_stand o (deeper layout) (deeper_fits o layout f) (item v vs) t n) r)
      (shape.array shape.nothing (elements_on_line o _ _ (items_stand o layout f (item v vs) t n)))
  value_stands o layout f (Plain.object no_members) t n = λ r e. shape.empty_object shape.nothing
  value_stands o layout f (Plain.object (member name v ms)) t n =
      λ r e. object_of_lines o (deeper layout) (deeper_fits o layout f) _ (line_is_trivia o layout f shape.nothing) _ _ (members_stand o (deeper layout) (deeper_fits o layout f) (member name v ms) t n) r

  items_stand : (o : Options) (layout : Layout) → FitsLayout o layout → (vs : Items) → AreOfTexts vs → AreOfNumbers o vs → EachNode (IsValueNode o) (laid_items layout vs)
  items_stand o layout f no_items t n = tt
  items_stand o layout f (item v vs) t n = (value_stands o layout f v t.0 n.0, items_stand o layout f vs t.1 n.1)

  members_stand : (o : Options) (layout : Layout) → FitsLayout o layout → (ms : Members) → AreNamedOfTexts ms → AreNamedOfNumbers o ms → EachNode (IsPropertyNode o) (laid_members layout ms)
  members_stand o layout f no_members t n = tt
  members_stand o layout f (member name v ms) t n = (property_stands o name (laid layout v) t.0 (value_stands o layout f v t.1 n.0), members_stand o layout f ms t.2 n.1)

pub value_may_stand : (o : Options) (layout : Layout) (v : Plain) → FitsLayout o layout → IsWritable o v → IsNewValue o (laid layout v) v
value_may_stand o layout v f w =
    record { shaped = value_stands o layout f v w.texts w.numbers [] refl; value = laid_value o layout v w.texts; lines = (lines.value_ends layout v).below }

pub property_may_stand : (o : Options) (layout : Layout) (name : List ℕ) (v : Plain) → FitsLayout o layout → IsCharacters name → IsWritable o v → IsNewProperty o (laid_property layout name v).below name v
property_may_stand o layout name v f h w =
    record {
      shaped = (property_stands o name (laid layout v) h (value_stands o layout f v w.texts w.numbers)).1;
      value = laid_pair o layout name v h w.texts;
      lines = (pair_ends layout name v).below;
    }

-- what is always a number is of numbers
pub always_of_numbers : (o : Options) (v : Plain) → IsAlwaysNumber v → IsOfNumbers o v
always_of_numbers o (Plain.number s) h = h o
always_of_numbers o Plain.null h = absurd h
always_of_numbers o (Plain.boolean b) h = absurd h
always_of_numbers o (Plain.string s) h = absurd h
always_of_numbers o (Plain.array vs) h = absurd h
always_of_numbers o (Plain.object ms) h = absurd h
