-- What rows print first, leaf by leaf.
use Rattle.std.proofs.Common.{ℕ, ◌≡◌, ◌∙◌, sym, ap, subst, refl, Bool, true, false, List, [], ◌∷◌, ◌++◌, Option, Some, None, rules, IsUtf8, chars, append-nil}
use Rattle.std.specs.List.{flat_map}
use Rattle.std.proofs.lemmas.List.{append_assoc}
use Rattle.std.proofs.lemmas.Str.{chars-nil, chars-append, chars-IsAscii, IsUtf8-from_ascii}
use lib.Utf8.{encode}
use Rattle.jsonc_text.specs.Options.{Options}
use Rattle.jsonc_text.specs.Text.{next}
use Rattle.jsonc_tree.specs.Content.{Content, text_of}
use Rattle.jsonc_tree.specs.OrderedTree.{OrderedTree, none, more, own_leaf, leaves}
use Rattle.jsonc_sound.specs.Shape as shape
use Rattle.jsonc_sound.specs.Shape.{IsTrivia, Trivia, IsLiteralBefore, IsNameBefore, token_then, printed_text}
use Rattle.jsonc_sound.proofs.ShapeTexts.{trivia_utf8}
use Rattle.jsonc_sound.proofs.ShapeValues.{Mark, comma_mark, colon_mark, close_bracket_mark, close_brace_mark, mark_text}
use Rattle.jsonc_sound.specs.Rows as rows
use Rattle.jsonc_sound.specs.Rows.{RowKind, opening, closing, Last}
use Rattle.jsonc_sound.specs.Adjacent.{first_char, or_else, follower}
use Rattle.jsonc_sound.specs.Alone as alone
use Rattle.jsonc_sound.specs.Alone.{ValueAlone, PartAlone, RowAlone, PropertyAlone}
use Rattle.jsonc_sound.proofs.Leaves.{follower_append}

-- a leaf is its own only leaf
pub trivia_leaf : (o : Options) (content : Content) → IsTrivia o content → own_leaf content ≡ content ∷ []
trivia_leaf o (Content.whitespace s) h = refl
trivia_leaf o (Content.newline k) h = refl
trivia_leaf o (Content.comment s) h = refl
trivia_leaf o content h = absurd h

pub literal_leaf : (o : Options) (content : Content) (r : List ℕ) → IsLiteralBefore o content r → own_leaf content ≡ content ∷ []
literal_leaf o (Content.string s) r h = refl
literal_leaf o (Content.number s) r h = refl
literal_leaf o (Content.boolean b) r h = refl
literal_leaf o Content.null r h = refl
literal_leaf o content r h = absurd h

pub name_leaf : (o : Options) (content : Content) (r : List ℕ) → IsNameBefore o content r → own_leaf content ≡ content ∷ []
name_leaf o (Content.string s) r h = refl
name_leaf o (Content.word s) r h = refl
name_leaf o content r h = absurd h

-- their texts
boolean_utf8 : (b : Bool) → IsUtf8 (text_of (Content.boolean b))
boolean_utf8 true = IsUtf8-from_ascii _ (search rules)
boolean_utf8 false = IsUtf8-from_ascii _ (search rules)

null_utf8 : IsUtf8 (text_of Content.null)
null_utf8 = IsUtf8-from_ascii _ (search rules)

literal_utf8 : (o : Options) (content : Content) (r : List ℕ) → IsLiteralBefore o content r → IsUtf8 (text_of content)
literal_utf8 o (Content.string s) r h = h.1.0
literal_utf8 o (Content.number s) r h = h.0
literal_utf8 o (Content.boolean b) r h = boolean_utf8 b
literal_utf8 o Content.null r h = null_utf8
literal_utf8 o content r h = absurd h

name_utf8 : (o : Options) (content : Content) (r : List ℕ) → IsNameBefore o content r → IsUtf8 (text_of content)
name_utf8 o (Content.string s) r h = h.1.0
name_utf8 o (Content.word s) r h = h.0
name_utf8 o content r h = absurd h

comma_utf8 : IsUtf8 (text_of (Content.token 0x2C))
unfolding encode
comma_utf8 = IsUtf8-from_ascii (0x2C ∷ []) (search rules)

colon_utf8 : IsUtf8 (text_of (Content.token 0x3A))
unfolding encode
colon_utf8 = IsUtf8-from_ascii (0x3A ∷ []) (search rules)

bracket_utf8 : IsUtf8 (text_of (Content.token 0x5B))
unfolding encode
bracket_utf8 = IsUtf8-from_ascii (0x5B ∷ []) (search rules)

brace_utf8 : IsUtf8 (text_of (Content.token 0x7B))
unfolding encode
brace_utf8 = IsUtf8-from_ascii (0x7B ∷ []) (search rules)

closing_utf8 : (kind : RowKind) → IsUtf8 (text_of (Content.token (closing kind)))
unfolding encode
closing_utf8 rows.of_values = IsUtf8-from_ascii (0x5D ∷ []) (search rules)
closing_utf8 rows.of_properties = IsUtf8-from_ascii (0x7D ∷ []) (search rules)

mark_first : {c : ℕ} → Mark c → first_char (Content.token c) ≡ Some c
mark_first {c} m = ap (λ t. next (chars t)) (sym (append-nil (text_of (Content.token c)))) ∙ ap next (mark_text m none)

pub comma_first : first_char (Content.token 0x2C) ≡ Some 0x2C
comma_first = mark_first comma_mark

pub colon_first : first_char (Content.token 0x3A) ≡ Some 0x3A
colon_first = mark_first colon_mark

pub closing_first : (kind : RowKind) → first_char (Content.token (closing kind)) ≡ Some (closing kind)
closing_first rows.of_values = mark_first close_bracket_mark
closing_first rows.of_properties = mark_first close_brace_mark

pub opening_first : (kind : RowKind) → first_char (Content.token (opening kind)) ≡ Some (opening kind)
unfolding encode
opening_first rows.of_values = ap next (chars-IsAscii (0x5B ∷ []) (search rules))
opening_first rows.of_properties = ap next (chars-IsAscii (0x7B ∷ []) (search rules))

-- each leaf's text is one
abbrev pub AllUtf8 : List Content → Type 0
AllUtf8 [] = Unit {0}
AllUtf8 (content ∷ rest) = IsUtf8 (text_of content) × AllUtf8 rest

joined_utf8 : (first second : List Content) → AllUtf8 first → AllUtf8 second → AllUtf8 (first ++ second)
joined_utf8 [] second h k = k
joined_utf8 (content ∷ rest) second h k = (h.0, joined_utf8 rest second h.1 k)

pub leaf_utf8 : {content : Content} (after : List Content) → own_leaf content ≡ content ∷ [] → IsUtf8 (text_of content) → AllUtf8 after → AllUtf8 (own_leaf content ++ after)
leaf_utf8 after e u h = subst (λ l. AllUtf8 (l ++ after)) (sym e) (u, h)

node_utf8 : (a b c : List Content) → AllUtf8 (a ++ b) → AllUtf8 c → AllUtf8 (a ++ (b ++ c))
node_utf8 a b c h k = subst AllUtf8 (append_assoc a b c) (joined_utf8 (a ++ b) c h k)

-- then what they print begins as leaf by leaf
next_joined : (s t : List ℕ) → next (s ++ t) ≡ or_else (next s) (next t)
next_joined [] t = refl
next_joined (c ∷ s) t = refl

pub text_follower : (ls : List Content) → AllUtf8 ls → next (chars (flat_map text_of ls)) ≡ follower ls None
text_follower [] u = ap next chars-nil
text_follower (content ∷ rest) u =
    ap next (chars-append (text_of content) (flat_map text_of rest) u.0) ∙ next_joined (chars (text_of content)) (chars (flat_map text_of rest)) ∙ ap (or_else (first_char content)) (text_follower rest u.1)

module _ (o : Options) where
  pub trivia_all : {t r : OrderedTree} → Trivia o t r → AllUtf8 (leaves r) → AllUtf8 (leaves t)
  trivia_all shape.nothing u = u
  trivia_all (shape.trivia {content = content} {t = t} h g) u = leaf_utf8 (leaves t) (trivia_leaf o content h) (trivia_utf8 o content h) (trivia_all g u)

  mutual
    pub value_all : {content : Content} {below : OrderedTree} → ValueAlone o content below → AllUtf8 (own_leaf content ++ leaves below)
    value_all (alone.literal {content = content} h) = leaf_utf8 [] (literal_leaf o content [] h) (literal_utf8 o content [] h) tt
    value_all (alone.an_array g) = (bracket_utf8, row_all g)
    value_all (alone.an_object g) = (brace_utf8, row_all g)

    part_all : {kind : RowKind} {content : Content} {below : OrderedTree} → PartAlone o kind content below → AllUtf8 (own_leaf content ++ leaves below)
    part_all (alone.a_value v) = value_all v
    part_all (alone.a_property p) = property_all p

    pub row_all : {kind : RowKind} {last : Last} {row : OrderedTree} → RowAlone o kind last row → AllUtf8 (leaves row)
    row_all {kind} (alone.closes m) = (closing_utf8 kind, tt)
    row_all (alone.trivia {content = content} {after = after} h g) = leaf_utf8 (leaves after) (trivia_leaf o content h) (trivia_utf8 o content h) (row_all g)
    row_all (alone.element {content = content} {below = below} {after = after} m p g) = node_utf8 (own_leaf content) (leaves below) (leaves after) (part_all p) (row_all g)
    row_all (alone.comma g) = (comma_utf8, row_all g)

    pub property_all : {row : OrderedTree} → PropertyAlone o row → AllUtf8 (leaves row)
    property_all (alone.named {name = name} {content = content} {below = below} {after = after} n g h v) =
        leaf_utf8 (leaves after) (name_leaf o name [] n) (name_utf8 o name [] n) (trivia_all g (colon_utf8, trivia_all h (node_utf8 (own_leaf content) (leaves below) [] (value_all v) tt)))

  -- what follows a colon or a row is not looked at
  abbrev pub HidesTheRest : OrderedTree → Type 0
  HidesTheRest row = (n m : Option ℕ) → follower (leaves row) n ≡ follower (leaves row) m

  pub behind_leaf : (content : Content) (after : OrderedTree) → HidesTheRest after → HidesTheRest (more content none after)
  behind_leaf content after f n m =
      follower_append (own_leaf content) (leaves after) n ∙ ap (follower (own_leaf content)) (f n m) ∙ sym (follower_append (own_leaf content) (leaves after) m)

  behind_node : (content : Content) (below after : OrderedTree) → HidesTheRest after → HidesTheRest (more content below after)
  behind_node content below after f n m =
      follower_append (own_leaf content) (leaves below ++ leaves after) n
      ∙ ap (follower (own_leaf content)) (follower_append (leaves below) (leaves after) n ∙ ap (follower (leaves below)) (f n m) ∙ sym (follower_append (leaves below) (leaves after) m))
      ∙ sym (follower_append (own_leaf content) (leaves below ++ leaves after) m)

  mark_hides : (c d : ℕ) (row : OrderedTree) → first_char (Content.token c) ≡ Some d → HidesTheRest (token_then c row)
  mark_hides c d row e n m = ap (λ x. or_else x (follower (leaves row) n)) e ∙ sym (ap (λ x. or_else x (follower (leaves row) m)) e)

  pub trivia_hides : {t r : OrderedTree} → Trivia o t r → HidesTheRest r → HidesTheRest t
  trivia_hides shape.nothing f = f
  trivia_hides (shape.trivia {content = content} {t = t} h g) f = behind_leaf content t (trivia_hides g f)

  pub colon_hides : (row : OrderedTree) → HidesTheRest (token_then 0x3A row)
  colon_hides row = mark_hides 0x3A 0x3A row colon_first

  pub row_hides : {kind : RowKind} {last : Last} {row : OrderedTree} → RowAlone o kind last row → HidesTheRest row
  row_hides {kind} (alone.closes m) = mark_hides (closing kind) (closing kind) none (closing_first kind)
  row_hides (alone.trivia {content = content} {after = after} h g) = behind_leaf content after (row_hides g)
  row_hides (alone.element {content = content} {below = below} {after = after} m p g) = behind_node content below after (row_hides g)
  row_hides (alone.comma {after = after} g) = behind_leaf (Content.token 0x2C) after (row_hides g)

  -- so what a row prints first is known leaf by leaf
  pub row_first : {kind : RowKind} {last : Last} {row : OrderedTree} → RowAlone o kind last row → (n : Option ℕ) → next (printed_text row) ≡ follower (leaves row) n
  row_first {row = row} g n = text_follower (leaves row) (row_all g) ∙ row_hides g None n

  pub behind_name : {t u : OrderedTree} {content : Content} {below : OrderedTree} → Trivia o t (token_then 0x3A u) → Trivia o u (more content below none) → ValueAlone o content below → (n : Option ℕ) → next (printed_text t) ≡ follower (leaves t) n
  behind_name {t} {u} {content} {below} g h v n =
      text_follower (leaves t) (trivia_all g (colon_utf8, trivia_all h (node_utf8 (own_leaf content) (leaves below) [] (value_all v) tt))) ∙ trivia_hides g (colon_hides u) None n
