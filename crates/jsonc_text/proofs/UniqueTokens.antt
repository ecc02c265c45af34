-- A text has at most one list of lexemes and comments with their places, and so of gaps.
use Rattle.std.proofs.Common.{ℕ, ◌≡◌, ◌∙◌, sym, ap, Bool, true, false, not, cond, ◌||◌, ◌==◌, refl, List, [], ◌∷◌, IsTrue, inl, inr}
use Rattle.jsonc_text.specs.Options.{Options}
use Rattle.jsonc_text.specs.Text.{next, starts, byte_length}
use Rattle.jsonc_text.specs.Gaps.{is_blank}
use Rattle.jsonc_text.specs.Lexemes.{LexemeKind, Lexeme, Scanned, lexeme, line_comment, block_comment, IsScanned, is_punctuation}
use Rattle.jsonc_text.specs.Places.{Placed, placed_at, AreTokens, no_more, blank, one, CommentGap, Gaps, gaps_of}
use Rattle.jsonc_text.proofs.Basics.{clash, or_cases, test_eq, starts_also, text_same}
use Rattle.jsonc_text.proofs.UniqueGaps.{comment_begins}
use Rattle.jsonc_text.proofs.Begins.{begins_literal, lexeme_begins}
use Rattle.jsonc_text.proofs.UniqueLexemes.{scanned_unique}

abbrev pub not_blank : ℕ → Bool
not_blank c = not (is_blank c)

literal_no_blank : (c : ℕ) → IsTrue (begins_literal c) → IsTrue (not_blank c)
literal_no_blank c h = each (is_blank c) (c == 0x2F) (is_punctuation c) h
  where
    each : (x y z : Bool) → IsTrue (not ((x || y) || z)) → IsTrue (not x)
    each true y z h = cc
    each false y z h = refl

mark_no_blank : (c : ℕ) → IsTrue (is_punctuation c) → IsTrue (not_blank c)
mark_no_blank c h =
    elim (or_cases _ (c == 0x3A) h) [
      | inr e ↦ rw (test_eq c 0x3A e) refl
      | inl h ↦
          elim (or_cases _ (c == 0x2C) h) [
            | inr e ↦ rw (test_eq c 0x2C e) refl
            | inl h ↦
                elim (or_cases _ (c == 0x5D) h) [
                  | inr e ↦ rw (test_eq c 0x5D e) refl
                  | inl h ↦
                      elim (or_cases _ (c == 0x5B) h) [
                        | inr e ↦ rw (test_eq c 0x5B e) refl
                        | inl h ↦
                            elim (or_cases (c == 0x7B) (c == 0x7D) h) [ inr e ↦ rw (test_eq c 0x7D e) refl | inl e ↦ rw (test_eq c 0x7B e) refl ]
                      ]
                ]
          ]
    ]

slash_no_blank : (c : ℕ) → IsTrue (c == 0x2F) → IsTrue (not_blank c)
slash_no_blank c h = rw (test_eq c 0x2F h) refl

lexeme_no_blank : (o : Options) (k : LexemeKind) (t r : List ℕ) → Lexeme o k t r → IsTrue (starts not_blank (next t))
lexeme_no_blank o (LexemeKind.punctuation c) t r x = rw x.1 (mark_no_blank c x.0)
lexeme_no_blank o (LexemeKind.string v) t r x = starts_also begins_literal not_blank literal_no_blank (next t) (lexeme_begins o (LexemeKind.string v) t r tt x)
lexeme_no_blank o (LexemeKind.number v) t r x = starts_also begins_literal not_blank literal_no_blank (next t) (lexeme_begins o (LexemeKind.number v) t r tt x)
lexeme_no_blank o (LexemeKind.word v) t r x = starts_also begins_literal not_blank literal_no_blank (next t) (lexeme_begins o (LexemeKind.word v) t r tt x)
lexeme_no_blank o (LexemeKind.keyword v) t r x = starts_also begins_literal not_blank literal_no_blank (next t) (lexeme_begins o (LexemeKind.keyword v) t r tt x)

pub scanned_no_blank : (o : Options) (w : Scanned) (t r : List ℕ) → IsScanned o w t r → IsTrue (starts not_blank (next t))
scanned_no_blank o (lexeme k) t r x = lexeme_no_blank o k t r x
scanned_no_blank o (line_comment s) t r (c, e) = starts_also (λ c. c == 0x2F) not_blank slash_no_blank (next t) (comment_begins (inl c))
scanned_no_blank o (block_comment s) t r (c, e) = starts_also (λ c. c == 0x2F) not_blank slash_no_blank (next t) (comment_begins (inr c))

placed_same : {w x : Scanned} {s u : List ℕ} {ts us : List Placed} (at : ℕ) → w ≡ x → s ≡ u → ts ≡ us → placed_at w at s ∷ ts ≡ placed_at x at u ∷ us
placed_same at p q e = cc

pub tokens_unique : {o : Options} {at : ℕ} {t : List ℕ} {ts us : List Placed} → AreTokens o at t ts → AreTokens o at t us → ts ≡ us
tokens_unique no_more no_more = refl
tokens_unique {o} no_more (one w s {r = r} x e g) = absurd (clash true (scanned_no_blank o w [] r x) refl)
tokens_unique {o} (one w s {r = r} x e g) no_more = absurd (clash true (scanned_no_blank o w [] r x) refl)
tokens_unique (blank h g) (blank k l) = tokens_unique g l
tokens_unique {o} (blank {c = c} {t = t} h g) (one w s {r = r} x e l) = absurd (clash (is_blank c) (scanned_no_blank o w (c ∷ t) r x) h)
tokens_unique {o} (one w s {r = r} x e l) (blank {c = c} {t = t} h g) = absurd (clash (is_blank c) (scanned_no_blank o w (c ∷ t) r x) h)
tokens_unique {o} (one w s {at = at} {t = t} {r = r} x e g) (one v u {r = k} y f l) =
    let p = scanned_unique o w v t r k x y in
    let q : s ≡ u = text_same e f p.1 in
    placed_same at p.0 q (tokens_unique g (rw (← q, ← p.1) at l))

pub gaps_unique : (o : Options) (t : List ℕ) (gs hs : List CommentGap) → Gaps o t gs → Gaps o t hs → gs ≡ hs
gaps_unique o t gs hs (ts, g, e) (us, h, f) = let p = tokens_unique g h in e ∙ ap (λ x. cond o.comments (gaps_of (byte_length t) 0 [] x) []) p ∙ sym f
