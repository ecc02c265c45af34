-- Laws of the definitions: what is said of each text, option or piece.
use Rattle.std.specs.Prelude.{ℕ, ◌≡◌, ◌↔◌, List, [], ◌∷◌, ◌++◌, Option}
use Rattle.jsonc_text.specs.Options.{Options}
use Rattle.jsonc_text.specs.Strings.{Pieces, Decodes}
use Rattle.jsonc_text.specs.Lexemes.{LexemeKind, Lexeme, Scanned, IsScanned, CanEndBefore}
use Rattle.jsonc_text.specs.Plain.{Plain}
use Rattle.jsonc_text.specs.Grammar.{IsDocument}
use Rattle.jsonc_text.specs.Places.{Placed, AreTokens, CommentGap, Gaps}

-- a text has no two values
abbrev pub HasOneValue : Options → List ℕ → Type 0
HasOneValue o t = (v w : Option Plain) → IsDocument o t v → IsDocument o t w → v ≡ w

-- at the front of t stand no two lexemes or comments, nor one that ends at two places
abbrev pub BeginsWithOneLexeme : Options → List ℕ → Type 0
BeginsWithOneLexeme o t = (w x : Scanned) (r s : List ℕ) → IsScanned o w t r → IsScanned o x t s → (w ≡ x) × (r ≡ s)

-- a text has no two lists of lexemes and comments with their places
abbrev pub HasOneTokenList : Options → List ℕ → Type 0
HasOneTokenList o t = (ts us : List Placed) → AreTokens o 0 t ts → AreTokens o 0 t us → ts ≡ us

-- nor two lists of gaps with comments
abbrev pub HasOneGapList : Options → List ℕ → Type 0
HasOneGapList o t = (gs hs : List CommentGap) → Gaps o t gs → Gaps o t hs → gs ≡ hs

-- every lexeme and comment of o is one of p
abbrev pub HasLexemesOf : Options → Options → Type 0
HasLexemesOf p o = (w : Scanned) (t r : List ℕ) → IsScanned o w t r → IsScanned p w t r

-- every document of o is one of p, of the same value
abbrev pub HasDocumentsOf : Options → Options → Type 0
HasDocumentsOf p o = (t : List ℕ) (v : Option Plain) → IsDocument o t v → IsDocument p t v

-- this lexeme or comment does not stand at the front of t
abbrev pub BeginsWithNo : Options → LexemeKind → List ℕ → Type 0
BeginsWithNo o k t = (r : List ℕ) → Lexeme o k t r → ⊥

-- s before r is this lexeme or comment exactly where s is one by itself that ends there
abbrev pub StandsAlone : Options → Scanned → List ℕ → List ℕ → Type 0
StandsAlone o w s r = IsScanned o w (s ++ r) r ↔ IsScanned o w s [] × CanEndBefore w s r

-- this lexeme or comment at the front of t holds at least one character of it
abbrev pub HoldsSome : Options → Scanned → List ℕ → Type 0
HoldsSome o w t = (r : List ℕ) → IsScanned o w t r → (c : ℕ) × (s : List ℕ) × (t ≡ (c ∷ s) ++ r)

-- the text s between quotes q stands for no two strings
abbrev pub DecodesToOne : Options → ℕ → List ℕ → Type 0
DecodesToOne o q s = (v w : List ℕ) → Decodes o q s v → Decodes o q s w → v ≡ w

-- `/*`, s, `*/`, and then r
abbrev pub in_block : List ℕ → List ℕ → List ℕ
in_block s r = (0x2F ∷ 0x2A ∷ s) ++ 0x2A ∷ 0x2F ∷ r

-- the text s between quotes q stands for v whatever follows the second
abbrev pub DecodesAnywhere : Options → ℕ → List ℕ → List ℕ → Type 0
DecodesAnywhere o q s v = (r : List ℕ) → Decodes o q s v ↔ Pieces o q (s ++ q ∷ r) v (q ∷ r)

-- pieces before a quote are a text between quotes that stands for the same string
abbrev pub AreDecodedText : Options → ℕ → List ℕ → List ℕ → Type 0
AreDecodedText o q t v = (r : List ℕ) → Pieces o q t v (q ∷ r) → (s : List ℕ) × (t ≡ s ++ q ∷ r) × Decodes o q s v
