-- String tokens that are lent by their text, and copies of them.
use Rattle.std.proofs.Common.{ℕ, ◌≡◌, ◌∙◌, ◌++◌, sym, ap, subst, refl, List, [], ◌∷◌, map, Option, None, Some, Vec, chars}
use Rattle.std.specs.List.{All}
use Rattle.std.specs.Cow.{cow_str_bytes}
use Rattle.std.specs.declared.borrow.CowStr.{CowStr}
use Rattle.std.specs.declared.borrow.CowStr.TheVariants.{Borrowed, Owned}
use Rattle.std.proofs.lemmas.List.Elements.{All-append, All-nil, All-cons}
use Rattle.jsonc_text.specs.declared.common.Range.{Range}
use Rattle.jsonc_text.specs.declared.tokens.Token.{Token}
use Rattle.jsonc_text.specs.declared.tokens.Token.TheVariants.{OpenBrace, CloseBrace, OpenBracket, CloseBracket, Comma, Colon, String, Word, Boolean, Number, Null, CommentLine, CommentBlock}
use Rattle.jsonc_text.specs.declared.tokens.TokenAndRange.{TokenAndRange}
use Rattle.jsonc_text.specs.Lexemes.{lexeme, string}
use Rattle.jsonc_text.specs.Tokens.{scanned_of, lent_bytes}
use Rattle.jsonc_text.specs.string.Escapes.{IsLentUnescaped}
use Rattle.jsonc_scan.specs.declared.scanner.Scanner.{Scanner}
use Rattle.jsonc_scan.specs.Scanner.{text_of, start_of, end_of, IsLent}
use Rattle.jsonc_walk.specs.Collected.{placed_of, all_placed}
use Rattle.jsonc_walk.specs.Lent.{IsLentIn, AreLentIn}

some_same : (a b : List ℕ) → Some a ≡ Some b → a ≡ b
some_same a b e = cc

none_some : (a : List ℕ) → None ≡ Some a → ⊥
none_some a e = cc

module _ {A : Type 0} where
  -- a token that is a string
  string_of : (t : Token A) (x : List ℕ) → scanned_of t ≡ lexeme (string x) → (w : CowStr A) × (t ≡ String w)
  string_of (String w) x e = (w, refl)
  string_of OpenBrace x e = cc
  string_of CloseBrace x e = cc
  string_of OpenBracket x e = cc
  string_of CloseBracket x e = cc
  string_of Comma x e = cc
  string_of Colon x e = cc
  string_of (Word s) x e = cc
  string_of (Boolean b) x e = cc
  string_of (Number s) x e = cc
  string_of Null x e = cc
  string_of (CommentLine s) x e = cc
  string_of (CommentBlock s) x e = cc

  -- what is lent the same bytes, or none, as a string that is lent where it may be
  same_string : (bytes : List ℕ) (i j : ℕ) (v w : CowStr A) → lent_bytes (String v) ≡ lent_bytes (String w) → IsLentUnescaped bytes i j w → IsLentUnescaped bytes i j v
  same_string bytes i j (Borrowed a) (Borrowed b) e h = record { copied = h.copied; slice = λ x. some_same a.now b.now e ∙ h.slice x }
  same_string bytes i j (Borrowed a) (Owned s) e h = absurd (none_some a.now (sym e))
  same_string bytes i j (Owned s) (Borrowed b) e h = absurd (none_some b.now e)
  same_string bytes i j (Owned s) (Owned r) e h = record { copied = h.copied; slice = λ x. absurd x }

  -- a copy of the scanner's token is lent as that is
  copy_lent : (s : Scanner A) (t copy : Token A) → IsLent s (Some t) → scanned_of copy ≡ scanned_of t → lent_bytes copy ≡ lent_bytes t
      → IsLentIn (text_of s) (record { range = record { start = start_of s; end = end_of s }; token = copy })
  copy_lent s t copy h same lent v is =
      let w = string_of t (chars (cow_str_bytes v)) (sym same ∙ ap scanned_of is) in
      same_string (text_of s) (start_of s) (end_of s) v w.0 (ap lent_bytes (sym is) ∙ lent ∙ ap lent_bytes w.1) (subst (λ x. IsLent s (Some x)) w.1 h)

  -- the tokens collected, and a copy of the scanner's token after them
  pub copy_collected : (s : Scanner A) (t copy : Token A) (r : Range) (found : Option (Vec (TokenAndRange A) A)) (tokens : Vec (TokenAndRange A) A) (more : List (TokenAndRange A)) → found ≡ Some tokens
      → r ≡ record { start = start_of s; end = end_of s } → scanned_of copy ≡ scanned_of t → lent_bytes copy ≡ lent_bytes t → more ≡ tokens.items ++ record { range = r; token = copy } ∷ []
      → IsLent s (Some t) → AreLentIn (text_of s) found → All (IsLentIn (text_of s)) more
  copy_collected s t copy r found tokens more some range same lent grown here so_far =
      let P = IsLentIn {A = A} (text_of s) in
      let last : P (record { range = r; token = copy }) = subst (λ x. P (record { range = x; token = copy })) (sym range) (copy_lent s t copy here same lent) in
      subst (All P) (sym grown) (All-append P tokens.items (record { range = r; token = copy } ∷ []) (subst (AreLentIn (text_of s)) some so_far) (All-cons P (record { range = r; token = copy }) [] last (All-nil P)))

  -- where none is collected, each is lent
  pub none_lent : (bytes : List ℕ) (found : Option (Vec (TokenAndRange A) A)) → all_placed found ≡ [] → AreLentIn bytes found
  none_lent bytes None e = tt
  none_lent bytes (Some tokens) e = nothing tokens.items e
    where
      nothing : (ts : List (TokenAndRange A)) → map placed_of ts ≡ [] → All (IsLentIn bytes) ts
      nothing [] e = All-nil (IsLentIn bytes)
      nothing (t ∷ ts) e = cc
