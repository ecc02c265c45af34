-- The shape of a document's tree, by the options: what each leaf is, and how the nodes of a row follow one another, in the order of the grammar.
use Rattle.std.specs.Prelude.{ℕ, Option, List, [], ◌++◌, IsTrue, IsUtf8, chars}
use Rattle.jsonc_text.specs.Options.{Options}
use Rattle.jsonc_text.specs.Text.{next, Many}
use Rattle.jsonc_text.specs.Gaps.{IsComment}
use Rattle.jsonc_text.specs.Words.{EndsThere}
use Rattle.jsonc_text.specs.Lexemes.{LexemeKind, Lexeme}
use Rattle.jsonc_text.specs.Plain.{Plain}
use Rattle.jsonc_text.specs.Grammar.{IsLooseName, IsDocument}
use Rattle.jsonc_tree.specs.Content.{Content, token}
use Rattle.jsonc_tree.specs.OrderedTree.{OrderedTree, none, more, printed}
use Rattle.jsonc_tree.specs.Values.{DocumentValueOf}
use Rattle.jsonc_sound.specs.Leaves.{is_inner_blank}

-- the bytes are a text, the whole of which is what R says
abbrev pub IsText : (List ℕ → List ℕ → Type 0) → List ℕ → Type 0
IsText R bytes = IsUtf8 bytes × R (chars bytes) []

-- a leaf of trivia: blanks without LF and CR, or none at all, as an indent of no blanks; a line's end; or, where o allows it, a comment
abbrev pub IsTrivia : Options → Content → Type 0
IsTrivia o (Content.whitespace s) = IsText (Many is_inner_blank) s
IsTrivia o (Content.newline k) = Unit {0}
IsTrivia o (Content.comment s) = IsTrue o.comments × IsText IsComment s
IsTrivia o _ = ⊥

-- the bytes are a lexeme of this kind where the text r follows
abbrev pub IsLexemeBefore : Options → LexemeKind → List ℕ → List ℕ → Type 0
IsLexemeBefore o k bytes r = IsUtf8 bytes × Lexeme o k (chars bytes ++ r) r

-- a leaf that is a value where r follows: a string between quotes, a number, `true`, `false` or `null`
abbrev pub IsLiteralBefore : Options → Content → List ℕ → Type 0
IsLiteralBefore o (Content.string s) r = (v : List ℕ) × IsLexemeBefore o (LexemeKind.string v) s r
IsLiteralBefore o (Content.number s) r = IsLexemeBefore o (LexemeKind.number (chars s)) s r
IsLiteralBefore o (Content.boolean b) r = EndsThere (next r)
IsLiteralBefore o Content.null r = EndsThere (next r)
IsLiteralBefore o _ r = ⊥

-- a leaf that is a name where r follows: a string, or a word leaf with a text that may name a property
abbrev pub IsNameBefore : Options → Content → List ℕ → Type 0
IsNameBefore o (Content.string s) r = IsLiteralBefore o (Content.string s) r
IsNameBefore o (Content.word s) r = IsUtf8 s × IsLooseName o (chars s ++ r) (chars s) r
IsNameBefore o _ r = ⊥

-- a token leaf, and then the row
abbrev pub token_then : ℕ → OrderedTree → OrderedTree
token_then c row = more (token c) none row

-- the row is any number of leaves of trivia, and then the row r
pub data Trivia (o : Options) : OrderedTree → OrderedTree → Type 0 where
  nothing : {r : OrderedTree} → Trivia o r r
  trivia : {content : Content} {t r : OrderedTree} → IsTrivia o content → Trivia o t r → Trivia o (more content none t) r

-- between two neighbours: trivia, a comma and trivia, or nothing but trivia where o allows it
pub data Separated (o : Options) : OrderedTree → OrderedTree → Type 0 where
  comma : {t u r : OrderedTree} → Trivia o t (token_then 0x2C u) → Trivia o u r → Separated o t r
  no_comma : {t r : OrderedTree} → IsTrue o.missing_commas → Trivia o t r → Separated o t r

-- after the last: trivia and the closing bracket, before it a comma and trivia where o allows it
pub data Closed (o : Options) (bracket : ℕ) : OrderedTree → Type 0 where
  plain : {t : OrderedTree} → Trivia o t (token_then bracket none) → Closed o bracket t
  trailing_comma : {t u : OrderedTree} → IsTrue o.trailing_commas → Trivia o t (token_then 0x2C u) → Trivia o u (token_then bracket none) → Closed o bracket t

-- the characters that a row prints
abbrev pub printed_text : OrderedTree → List ℕ
printed_text row = chars (printed row)

mutual
  -- a node of this content, with the row below it, is a value where the text r follows: a literal, or a container with its brackets first and last
  pub data ValueShaped (o : Options) : Content → OrderedTree → List ℕ → Type 0 where
    literal : {content : Content} {r : List ℕ} → IsLiteralBefore o content r → ValueShaped o content none r
    empty_array : {t : OrderedTree} {r : List ℕ} → Trivia o t (token_then 0x5D none) → ValueShaped o Content.array (token_then 0x5B t) r
    array : {t u : OrderedTree} {r : List ℕ} → Trivia o t u → ElementsShaped o u → ValueShaped o Content.array (token_then 0x5B t) r
    empty_object : {t : OrderedTree} {r : List ℕ} → Trivia o t (token_then 0x7D none) → ValueShaped o Content.object (token_then 0x7B t) r
    object : {t u : OrderedTree} {r : List ℕ} → Trivia o t u → PropertiesShaped o u → ValueShaped o Content.object (token_then 0x7B t) r

  -- the row is one or more elements, what stands between them, and the `]`
  pub data ElementsShaped (o : Options) : OrderedTree → Type 0 where
    last_element : {content : Content} {below after : OrderedTree} → ValueShaped o content below (printed_text after)
        → Closed o 0x5D after → ElementsShaped o (more content below after)
    element : {content : Content} {below after u : OrderedTree} → ValueShaped o content below (printed_text after)
        → Separated o after u → ElementsShaped o u → ElementsShaped o (more content below after)

  -- the row is one or more properties, what stands between them, and the `}`
  pub data PropertiesShaped (o : Options) : OrderedTree → Type 0 where
    last_property : {below after : OrderedTree} → PropertyShaped o below (printed_text after) → Closed o 0x7D after
        → PropertiesShaped o (more Content.property below after)
    property : {below after u : OrderedTree} → PropertyShaped o below (printed_text after) → Separated o after u
        → PropertiesShaped o u → PropertiesShaped o (more Content.property below after)

  -- the row, where the text r follows, is a name, trivia, a colon, trivia and a value
  pub data PropertyShaped (o : Options) : OrderedTree → List ℕ → Type 0 where
    named : {name content : Content} {below after u : OrderedTree} {r : List ℕ}
        → IsNameBefore o name (printed_text after) → Trivia o after (token_then 0x3A u)
        → Trivia o u (more content below none) → ValueShaped o content below r
        → PropertyShaped o (more name none after) r

-- a root, and below it trivia; or trivia, a value and trivia
pub data DocumentShaped (o : Options) : OrderedTree → Type 0 where
  no_value : {row : OrderedTree} → Trivia o row none → DocumentShaped o (more Content.root row none)
  a_value : {content : Content} {row below after : OrderedTree} → Trivia o row (more content below after)
      → ValueShaped o content below (printed_text after) → Trivia o after none
      → DocumentShaped o (more Content.root row none)

-- the tree prints a text of the grammar, and has the value of that text
abbrev pub PrintsDocument : Options → OrderedTree → Type 0
PrintsDocument o tree = (w : Option Plain) × IsDocument o (printed_text tree) w × DocumentValueOf o tree w
