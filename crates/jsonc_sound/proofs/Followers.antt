-- Values before another text, and what rows begin with.
use Rattle.std.proofs.Common.{ℕ, ◌≡◌, sym, ap, subst, refl, Bool, ◌==◌, List, [], ◌∷◌, ◌++◌, Option, Some, None, IsTrue, chars, rules}
use Rattle.std.proofs.lemmas.Str.{chars-IsAscii}
use Rattle.jsonc_text.specs.Options.{Options}
use Rattle.jsonc_text.specs.Text.{next, starts, end_or, Many, stop, step}
use Rattle.jsonc_text.specs.Gaps.{is_blank}
use Rattle.jsonc_text.specs.Words.{goes_on}
use Rattle.jsonc_text.specs.Lexemes as lexemes
use Rattle.jsonc_text.specs.Lexemes.{LexemeKind, Lexeme, lexeme, CanEndBefore}
use Rattle.jsonc_text.proofs.LexemesAlone.{scanned_alone, scanned_before}
use Rattle.jsonc_text.proofs.Basics.{and_both, or_left, test_eq}
use Rattle.jsonc_text.proofs.UniqueGaps.{comment_begins}
use Rattle.jsonc_tree.specs.Content.{Content, text_of}
use Rattle.jsonc_tree.specs.declared.node.CstNewlineKind.TheVariants.{LineFeed, CarriageReturnLineFeed, CarriageReturn}
use Rattle.jsonc_tree.specs.OrderedTree.{OrderedTree, none}
use Rattle.jsonc_sound.specs.Leaves.{is_inner_blank}
use Rattle.jsonc_sound.specs.Shape as shape
use Rattle.jsonc_sound.specs.Shape.{IsTrivia, Trivia, IsLiteralBefore, ValueShaped, Closed, token_then, printed_text}
use Rattle.jsonc_sound.proofs.ShapeTexts.{text_leaf, trivia_utf8}
use Rattle.jsonc_sound.proofs.ShapeValues.{Mark, comma_mark, mark_text}
use Rattle.jsonc_sound.specs.Followers.{ends_literals, EndsLiterals}
use Rattle.jsonc_sound.proofs.Characters.{goes_on_apart}
use Rattle.jsonc_sound.proofs.NumberEnds.{alike_ends, may_follow_swapped}

-- a lexeme before another text before which it can end
lexeme_moved : (o : Options) (k : LexemeKind) (s r z : List ℕ) → (CanEndBefore (lexeme k) s r → CanEndBefore (lexeme k) s z) → Lexeme o k (s ++ r) r → Lexeme o k (s ++ z) z
lexeme_moved o k s r z f h = let alone = scanned_alone o (lexeme k) s r h in scanned_before o (lexeme k) s z alone.0 (f alone.1)

module _ (o : Options) where
  literal_ends : (content : Content) (r z : List ℕ) → EndsLiterals z → IsLiteralBefore o content r → IsLiteralBefore o content z
  literal_ends (Content.string s) r z e (v, (u, h)) = (v, (u, lexeme_moved o (lexemes.string v) (chars s) r z (λ y. y) h))
  literal_ends (Content.number s) r z e (u, h) = (u, lexeme_moved o (lexemes.number (chars s)) (chars s) r z (may_follow_swapped r z (alike_ends r z e) (chars s)) h)
  literal_ends (Content.boolean b) r z e h = alike_ends r z e goes_on goes_on_apart h
  literal_ends Content.null r z e h = alike_ends r z e goes_on goes_on_apart h
  literal_ends Content.root r z e h = absurd h
  literal_ends Content.object r z e h = absurd h
  literal_ends Content.array r z e h = absurd h
  literal_ends Content.property r z e h = absurd h
  literal_ends (Content.word s) r z e h = absurd h
  literal_ends (Content.token c) r z e h = absurd h
  literal_ends (Content.whitespace s) r z e h = absurd h
  literal_ends (Content.newline k) r z e h = absurd h
  literal_ends (Content.comment s) r z e h = absurd h

  -- a value before what ends literals
  pub value_ends : {content : Content} {below : OrderedTree} {r : List ℕ} (z : List ℕ) → EndsLiterals z → ValueShaped o content below r → ValueShaped o content below z
  value_ends z e (shape.literal {content = content} {r = r} h) = shape.literal (literal_ends content r z e h)
  value_ends z e (shape.empty_array g) = shape.empty_array g
  value_ends z e (shape.array g h) = shape.array g h
  value_ends z e (shape.empty_object g) = shape.empty_object g
  value_ends z e (shape.object g h) = shape.object g h

-- one text and then another
end_append : (p : ℕ → Bool) (s r : List ℕ) → IsTrue (end_or p (next s)) → IsTrue (end_or p (next r)) → IsTrue (end_or p (next (s ++ r)))
end_append p [] r h k = k
end_append p (c ∷ s) r h k = h

-- leaves of trivia end literals, if they are no empty texts
blank_ends : {t r : List ℕ} → Many is_inner_blank t r → r ≡ [] → EndsLiterals t
blank_ends stop e = rw e refl
blank_ends (step {c = c} h g) e = or_left (is_blank c) _ (and_both (is_blank c) _ h).0

slash_ends : (n : Option ℕ) → IsTrue (starts (λ c. c == 0x2F) n) → IsTrue (end_or ends_literals n)
slash_ends None h = refl
slash_ends (Some c) h = rw (test_eq c 0x2F h) refl

pub leaf_ends : (o : Options) (content : Content) → IsTrivia o content → EndsLiterals (chars (text_of content))
leaf_ends o (Content.whitespace s) h = blank_ends h.1 refl
leaf_ends o (Content.newline LineFeed) h = subst EndsLiterals (sym (chars-IsAscii (10 ∷ []) (search rules))) refl
leaf_ends o (Content.newline CarriageReturnLineFeed) h = subst EndsLiterals (sym (chars-IsAscii (13 ∷ 10 ∷ []) (search rules))) refl
leaf_ends o (Content.newline CarriageReturn) h = subst EndsLiterals (sym (chars-IsAscii (13 ∷ []) (search rules))) refl
leaf_ends o (Content.comment s) h = slash_ends (next (chars s)) (comment_begins h.1.1)
leaf_ends o Content.root h = absurd h
leaf_ends o Content.object h = absurd h
leaf_ends o Content.array h = absurd h
leaf_ends o Content.property h = absurd h
leaf_ends o (Content.string s) h = absurd h
leaf_ends o (Content.word s) h = absurd h
leaf_ends o (Content.number s) h = absurd h
leaf_ends o (Content.boolean b) h = absurd h
leaf_ends o Content.null h = absurd h
leaf_ends o (Content.token c) h = absurd h

pub mark_next : {c : ℕ} → Mark c → (row : OrderedTree) → next (printed_text (token_then c row)) ≡ Some c
mark_next m row = ap next (mark_text m row)

mark_ends : {c : ℕ} → Mark c → IsTrue (ends_literals c) → (row : OrderedTree) → EndsLiterals (printed_text (token_then c row))
mark_ends m h row = subst (λ n. IsTrue (end_or ends_literals n)) (sym (mark_next m row)) h

module _ (o : Options) where
  pub trivia_ends : {t r : OrderedTree} → Trivia o t r → EndsLiterals (printed_text r) → EndsLiterals (printed_text t)
  trivia_ends shape.nothing e = e
  trivia_ends (shape.trivia {content = content} {t = t} h g) e =
      subst EndsLiterals (sym (text_leaf content t (trivia_utf8 o content h))) (end_append ends_literals (chars (text_of content)) (printed_text t) (leaf_ends o content h) (trivia_ends g e))

  pub closed_ends : {b : ℕ} {t : OrderedTree} → Mark b → IsTrue (ends_literals b) → Closed o b t → EndsLiterals (printed_text t)
  closed_ends m h (shape.plain g) = trivia_ends g (mark_ends m h none)
  closed_ends m h (shape.trailing_comma {u = u} x g k) = trivia_ends g (mark_ends comma_mark refl u)
