-- What a scanner passes, as gaps between places.
use Rattle.std.proofs.Common.{ℕ, ◌≡◌, ◌∙◌, subst, inl, inr, refl, arith, true, List, IsTrue, Some, IsCharBoundary}
use Rattle.jsonc_scan.specs.declared.scanner.Scanner.{Scanner}
use Rattle.jsonc_text.specs.Options.{Options}
use Rattle.jsonc_text.specs.Text.{rest, Many, Spans}
use Rattle.jsonc_text.specs.Gaps.{Gap, none, comment, is_blank}
use Rattle.jsonc_text.specs.Lexemes.{Scanned, lexeme, line_comment, block_comment, IsScanned}
use Rattle.jsonc_text.specs.Places.{is_comment}
pub use Rattle.jsonc_text.proofs.Gaps.{blanks_gap, gap_append}
use Rattle.jsonc_scan.specs.Scanner.{text_of, start_of, end_of, options_of, PassesBlanks, left}
use Rattle.jsonc_scan.specs.Scanner.{IsThere}
use Rattle.jsonc_walk.specs.Located.{Between}

pub comment_gap : (o p : Options) (w : Scanned) (t r : List ℕ) → is_comment w ≡ true → IsTrue o.comments → IsScanned p w t r → Gap o t r
comment_gap o p (lexeme k) t r e allowed h = cc
comment_gap o p (line_comment s) t r e allowed h = comment allowed (inl h.0) none
comment_gap o p (block_comment s) t r e allowed h = comment allowed (inr h.0) none

-- what stands between two places and a third
pub join : {bytes : List ℕ} {R S : List ℕ → List ℕ → Type 0} {i j k : ℕ} (Q : List ℕ → List ℕ → Type 0) → ((t u r : List ℕ) → R t u → S u r → Q t r) → Between bytes R i j → Between bytes S j k → Between bytes Q i k
join Q f a b = record {
  spans = record { from = a.spans.from; to = b.spans.to; order = omega (arith, a.spans.order, b.spans.order) };
  stands = f _ _ _ a.stands b.stands;
}

pub change : {bytes : List ℕ} {R : List ℕ → List ℕ → Type 0} {i j : ℕ} (Q : List ℕ → List ℕ → Type 0) → ((t r : List ℕ) → R t r → Q t r) → Between bytes R i j → Between bytes Q i j
change Q f a = record { spans = a.spans; stands = f _ _ a.stands }

-- no bytes
pub nothing : (bytes : List ℕ) (R : List ℕ → List ℕ → Type 0) (i : ℕ) → IsCharBoundary bytes i → R (rest bytes i) (rest bytes i) → Between bytes R i i
nothing bytes R i b h = record { spans = record { from = b; to = b; order = omega arith }; stands = h }

module _ {A : Type 0} where
  pub token_spans : (s : Scanner A) → Spans (text_of s) (start_of s) (end_of s)
  token_spans s = record { from = s.starts_at_place; to = s.at_place; order = s.order }

  pub passed : (o : Options) (old new : Scanner A) → PassesBlanks old new → Between (text_of old) (Gap o) (end_of old) (start_of new)
  passed o old new h = record {
    spans = record { from = old.at_place; to = subst (λ x. IsCharBoundary x (start_of new)) h.text new.starts_at_place; order = h.order.0 };
    stands = blanks_gap (subst (λ x. Many is_blank (left old) (rest x (start_of new))) h.text h.blanks);
  }

  -- a token that stands where a scanner of the text is
  pub stands : (bytes : List ℕ) (o : Options) (s : Scanner A) (t : Scanned) → text_of s ≡ bytes → options_of s ≡ o → IsThere s (Some t) → Between bytes (IsScanned o t) (start_of s) (end_of s)
  stands bytes o s t e f h =
      subst (λ x. Between x (IsScanned o t) (start_of s) (end_of s)) e
      (subst (λ p. Between (text_of s) (IsScanned p t) (start_of s) (end_of s)) f (record { spans = token_spans s; stands = h.1 }))

  -- a comment is passed
  pub comment_passed : (bytes : List ℕ) (o : Options) (i : ℕ) (old new : Scanner A) (t : Scanned) → text_of old ≡ bytes → options_of old ≡ o → PassesBlanks old new
      → Between bytes (Gap o) i (end_of old) → IsThere new (Some t) → is_comment t ≡ true → IsTrue o.comments → Between bytes (Gap o) i (end_of new)
  comment_passed bytes o i old new t e f h before at is allowed =
      let blanks = subst (λ x. Between x (Gap o) (end_of old) (start_of new)) e (passed o old new h) in
      let here = stands bytes (options_of new) new t (h.text ∙ e) refl at in
      join (Gap o) (λ t u r. gap_append) before (join (Gap o) (λ t u r. gap_append) blanks (change (Gap o) (λ u r c. comment_gap o (options_of new) t u r is allowed c) here))
