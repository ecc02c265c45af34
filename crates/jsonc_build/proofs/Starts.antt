-- Where a value or a property begins stands no blank.
use Rattle.std.proofs.Common.{ℕ, subst, refl, inl, inr, List, Option, Some, None, IsTrue}
use Rattle.jsonc_text.specs.declared.common.Range.{Range}
use Rattle.jsonc_text.specs.Options.{Options}
use Rattle.jsonc_text.specs.Text.{rest, next, no, starts}
use Rattle.jsonc_text.specs.Gaps.{is_blank}
use Rattle.jsonc_text.specs.Grammar.{IsName}
use Rattle.jsonc_text.specs.Lexemes.{LexemeKind, lexeme}
use Rattle.jsonc_text.proofs.UniqueTokens.{not_blank, scanned_no_blank}
use Rattle.jsonc_walk.specs.Located.{Located, LocatedName, leaf_at, array_at, object_at, range_at, IsLocated, IsNamed}

-- something stands at a place, and no blank
abbrev pub StartsAt : List ℕ → ℕ → Type 0
StartsAt bytes i = IsTrue (starts not_blank (next (rest bytes i)))

pub no_blank : (n : Option ℕ) → IsTrue (starts not_blank n) → IsTrue (no is_blank n)
no_blank None h = cc
no_blank (Some c) h = h

module _ (o : Options) (bytes : List ℕ) where
  pub value_starts : (x : Located) → IsLocated o bytes x → StartsAt bytes (range_at x).start
  value_starts (leaf_at r v) h = scanned_no_blank o (lexeme h.stands.0) (rest bytes r.start) (rest bytes r.end) h.stands.1
  value_starts (array_at r xs) h = rw h.0.opens.stands refl
  value_starts (object_at r ms) h = rw h.0.opens.stands refl

  name_starts : (t name r : List ℕ) → IsName o t name r → IsTrue (starts not_blank (next t))
  name_starts t name r (inl h) = scanned_no_blank o (lexeme (LexemeKind.string name)) t r h
  name_starts t name r (inr h) = scanned_no_blank o (lexeme h.2) t r h.4

  pub property_starts : {n : LocatedName} {r v : Range} → IsNamed o bytes n r v → StartsAt bytes r.start
  property_starts {n} named = subst (StartsAt bytes) named.begins (name_starts (rest bytes n.range.start) n.name (rest bytes n.range.end) named.name.stands)
