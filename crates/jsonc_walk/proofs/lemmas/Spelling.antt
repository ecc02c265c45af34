-- Strings and names, as they are kept.
use Rattle.std.proofs.Common.{ℕ, ◌≡◌, sym, subst, refl, List, Some, None, chars}
use Rattle.std.specs.declared.borrow.CowStr.{CowStr}
use Rattle.jsonc_text.specs.declared.common.Range.{Range}
use Rattle.std.specs.Cow.{cow_str_bytes}
use Rattle.jsonc_text.specs.string.Escapes.{IsLentUnescaped}
use Rattle.jsonc_text.specs.Lexemes.{Scanned, lexeme, line_comment, block_comment, LexemeKind, string, Lexeme, IsScanned}
use Rattle.jsonc_text.specs.Options.{Options}
use Rattle.jsonc_scan.specs.Scanner.{start_of, end_of}
use Rattle.jsonc_walk.specs.declared.name.WordLit.{WordLit}
use Rattle.jsonc_walk.specs.declared.name.ObjectPropName.TheVariants.{String, Word}
use Rattle.jsonc_walk.specs.Located.{Between, In}
use Rattle.jsonc_walk.specs.declared.context.Context.{Context}
use Rattle.jsonc_walk.specs.Context.{text_in, options_in, token_range, IsToken}
use Rattle.jsonc_walk.specs.Scanned.{loose_text}
use Rattle.jsonc_walk.specs.Written.{IsWritten}
use Rattle.jsonc_walk.proofs.lemmas.Gaps.{stands}

none_same : (a : List ℕ) → None ≡ Some a → ⊥
none_same a e = cc

-- what may be a name without quotes is a lexeme
loose_lexeme : (o : Options) (bytes : List ℕ) (i j : ℕ) (w : Scanned) (name : List ℕ) → loose_text w ≡ Some name → Between bytes (IsScanned o w) i j → (k : LexemeKind) × Between bytes (Lexeme o k) i j × (loose_text (lexeme k) ≡ Some name)
loose_lexeme o bytes i j (lexeme k) name e h = (k, h, e)
loose_lexeme o bytes i j (line_comment s) name e h = absurd (none_same name e)
loose_lexeme o bytes i j (block_comment s) name e h = absurd (none_same name e)

module _ {A : Type 0} where
  here : (c : Context A) (t : Scanned) → IsToken c t → Between (text_in c) (IsScanned (options_in c) t) (start_of c.scanner) (end_of c.scanner)
  here c t at = stands (text_in c) (options_in c) c.scanner t refl refl at

  -- the last token, kept as a name without quotes
  pub word_written : (c : Context A) (t : Scanned) (w : WordLit) → IsToken c t → loose_text t ≡ Some (chars w.value.now) → w.range ≡ token_range c → IsWritten {A = A} (options_in c) (text_in c) (Word w)
  word_written c t w at e r =
      let found = loose_lexeme (options_in c) (text_in c) (start_of c.scanner) (end_of c.scanner) t (chars w.value.now) e (here c t at) in
      (found.0, subst (In (text_in c) (Lexeme (options_in c) found.0)) (sym r) found.1, found.2)

  -- a string token, kept as a string
  pub string_written : (c : Context A) (v : CowStr A) (r : Range) → IsToken c (lexeme (string (chars (cow_str_bytes v)))) → r ≡ token_range c → IsLentUnescaped (text_in c) (start_of c.scanner) (end_of c.scanner) v → IsWritten (options_in c) (text_in c) (String (record { range = r; value = v }))
  string_written c v r at e lent =
      let written : IsWritten (options_in c) (text_in c) (String (record { range = token_range c; value = v })) = (here c (lexeme (string (chars (cow_str_bytes v)))) at, lent) in
      subst (λ r. IsWritten (options_in c) (text_in c) (String (record { range = r; value = v }))) (sym e) written
