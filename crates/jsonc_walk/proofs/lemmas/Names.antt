-- Names without quotes.
use Rattle.std.proofs.Common.{ℕ, ◌≡◌, ◌∙◌, ◌++◌, sym, ap, subst, refl, true, List, Some, None, IsTrue, chars, inl, inr, codes, rules}
use Rattle.std.proofs.lemmas.Str.{chars-IsAscii}
use Rattle.jsonc_text.specs.Options.{Options}
use Rattle.jsonc_text.specs.Grammar.{IsName, IsLooseName}
use Rattle.jsonc_text.specs.Lexemes.{Scanned, lexeme, line_comment, block_comment, LexemeKind, string, IsScanned}
use Rattle.jsonc_scan.specs.Scanner.{start_of, end_of}
use Rattle.jsonc_walk.specs.declared.context.Context.{Context}
use Rattle.jsonc_walk.specs.Context.{text_in, options_in, token_range, IsToken}
use Rattle.jsonc_walk.specs.Located.{Between, In}
use Rattle.jsonc_walk.specs.Scanned.{loose_text}
use Rattle.jsonc_walk.proofs.lemmas.Gaps.{change, stands}

some_same : (a b : List ℕ) → Some a ≡ Some b → a ≡ b
some_same a b e = cc

none_same : (a : List ℕ) → None ≡ Some a → ⊥
none_same a e = cc

loose : (o : Options) (w : Scanned) (name t r : List ℕ) → IsTrue o.loose_names → loose_text w ≡ Some name → IsScanned o w t r → IsLooseName o t name r
loose o (lexeme (LexemeKind.word s)) name t r allowed e h = (allowed, h.0 ∙ ap (λ x. x ++ r) (some_same s name e), LexemeKind.word s, refl, h)
loose o (lexeme (LexemeKind.number s)) name t r allowed e h = (allowed, h.0 ∙ ap (λ x. x ++ r) (some_same s name e), LexemeKind.number s, refl, h)
loose o (lexeme (LexemeKind.keyword k)) name t r allowed e h = (allowed, h.0 ∙ ap (λ x. x ++ r) (some_same _ name e), LexemeKind.keyword k, refl, h)
loose o (lexeme (LexemeKind.string v)) name t r allowed e h = absurd (none_same name e)
loose o (lexeme (LexemeKind.punctuation c)) name t r allowed e h = absurd (none_same name e)
loose o (line_comment s) name t r allowed e h = absurd (none_same name e)
loose o (block_comment s) name t r allowed e h = absurd (none_same name e)

module _ {A : Type 0} (c : Context A) (t : Scanned) (at : IsToken c t) (name : List ℕ) where
  here : Between (text_in c) (IsScanned (options_in c) t) (start_of c.scanner) (end_of c.scanner)
  here = stands (text_in c) (options_in c) c.scanner t refl refl at

  pub loose_name_here : c.options.allow_loose_object_property_names ≡ true → loose_text t ≡ Some name → In (text_in c) (λ t r. IsName (options_in c) t name r) (token_range c)
  loose_name_here allowed e =
      let may : IsTrue (options_in c).loose_names = ap (λ p. p.loose_names) (sym c.same) ∙ allowed in
      change (λ t r. IsName (options_in c) t name r) (λ u r k. inr (loose (options_in c) t name u r may e k)) here

  pub string_name_here : t ≡ lexeme (string name) → In (text_in c) (λ t r. IsName (options_in c) t name r) (token_range c)
  string_name_here e =
      change (λ t r. IsName (options_in c) t name r) (λ u r k. inl k) (subst (λ w. Between (text_in c) (IsScanned (options_in c) w) (start_of c.scanner) (end_of c.scanner)) e here)

pub true_chars : chars (codes "true") ≡ codes "true"
true_chars = chars-IsAscii (codes "true") (search rules)

pub false_chars : chars (codes "false") ≡ codes "false"
false_chars = chars-IsAscii (codes "false") (search rules)

pub null_chars : chars (codes "null") ≡ codes "null"
null_chars = chars-IsAscii (codes "null") (search rules)
