-- The tokens that a parser finds.
use Rattle.std.proofs.Common.{ℕ, ◌≡◌, ◌≢◌, ◌∙◌, ap, subst, refl, Bool, true, false, ◌||◌, ◌==◌, Option, Some, None, inl, Result, Ok, Err, IfOk, IfSome}
use Rattle.jsonc_text.specs.declared.errors.ParseError.{ParseError}
use Rattle.jsonc_text.specs.Gaps.{Gap}
use Rattle.jsonc_text.specs.Lexemes.{Scanned, lexeme, line_comment, block_comment, LexemeKind, punctuation, Lexeme, IsScanned}
use Rattle.jsonc_text.specs.Places.{is_comment}
use Rattle.jsonc_text.specs.Words.{Keyword}
use Rattle.jsonc_text.proofs.Basics.{test_eq}
use Rattle.jsonc_scan.specs.Scanner.{IsThere}
use Rattle.jsonc_walk.specs.Located.{Between, Ends}
use Rattle.jsonc_walk.specs.declared.container.Container.{Container}
use Rattle.jsonc_walk.specs.declared.context.Context.{Context}
use Rattle.jsonc_walk.specs.Containers.{closing}
use Rattle.jsonc_walk.specs.Context.{text_in, options_in, LeadsAfterComma, token_start, token_end, Keeps, Finds, IsNoComment, AtEnd, AfterComma, ClosesNone, Comes}
use Rattle.jsonc_walk.specs.Refusals.{IsOpen}
use Rattle.jsonc_walk.specs.Scanned.{begins_value, leaf_value}
use Rattle.jsonc_walk.proofs.lemmas.Gaps.{join, stands}
use Rattle.jsonc_walk.proofs.lemmas.Scans.{moved, mark_passed}

-- the lexeme that is no comment
lexeme_of : (w : Scanned) → is_comment w ≡ false → (l : LexemeKind) × (w ≡ lexeme l)
lexeme_of (lexeme l) n = (l, refl)
lexeme_of (line_comment s) n = cc
lexeme_of (block_comment s) n = cc

pub lexeme_same : (l m : LexemeKind) → lexeme l ≡ lexeme m → l ≡ m
lexeme_same l m e = cc

-- a lexeme that is neither a value nor an opening bracket
pub begins_none : (l : LexemeKind) → leaf_value (lexeme l) ≡ None → l ≢ punctuation 0x5B → l ≢ punctuation 0x7B → begins_value (lexeme l) ≡ false
begins_none (LexemeKind.string v) e a b = cc
begins_none (LexemeKind.number v) e a b = cc
begins_none (LexemeKind.word v) e a b = refl
begins_none (LexemeKind.keyword (Keyword.boolean v)) e a b = cc
begins_none (LexemeKind.keyword Keyword.null) e a b = cc
begins_none (LexemeKind.punctuation c) e a b = go (c == 0x5B) (c == 0x7B) refl refl
  where
    go : (x y : Bool) → (c == 0x5B) ≡ x → (c == 0x7B) ≡ y → (x || y) ≡ false
    go true y f g = absurd (a (ap punctuation (test_eq c 0x5B f)))
    go false true f g = absurd (b (ap punctuation (test_eq c 0x7B g)))
    go false false f g = refl

module _ {A : Type 0} where
  pub open_before : (old new : Context A) (k : Container) (start : Option ℕ) (e : ParseError) → Keeps old new → IsOpen k (text_in new) start e → IsOpen k (text_in old) start e
  open_before old new k start e kept h = subst (λ b. IsOpen k b start e) kept.text h

  module _ (old new : Context A) (f : Option Scanned) (kept : Keeps old new) (found : Finds (Gap (options_in old)) old new f) (no_comment : IsNoComment f) where
    -- the end was found
    pub end_here : f ≡ None → AtEnd new
    end_here is = let h = subst (IsThere new.scanner) is found.1 in (h.0, h.1)

    module _ (t : Scanned) (is : f ≡ Some t) where
      -- a lexeme was
      pub lexeme_found : (l : LexemeKind) × (t ≡ lexeme l)
      lexeme_found = lexeme_of t (subst IsNoComment is no_comment)

      pub lexeme_stands : (l : LexemeKind) → t ≡ lexeme l → Between (text_in old) (Lexeme (options_in old) l) (token_start new) (token_end new)
      lexeme_stands l e =
          subst (λ w. Between (text_in old) (IsScanned (options_in old) w) (token_start new) (token_end new)) e
          (stands (text_in old) (options_in old) new.scanner t kept.text kept.options (subst (IsThere new.scanner) is found.1))

      -- it does not close the container
      pub closes_none : (k : Container) → (t ≡ lexeme (punctuation (closing k)) → ⊥) → ClosesNone k t
      closes_none k n = let l = lexeme_found in (l.0, l.1, λ e. n (l.1 ∙ ap lexeme e))

      -- a token after a comma
      comes_after : (k : Container) (last : Context A) (u : Scanned) → t ≡ lexeme (punctuation 0x2C) → LeadsAfterComma k new last (Some u) → Comes old last u
      comes_after k last u mark h =
          let before = mark_passed old new f t 0x2C kept found is (Ends (options_in old) 0x2C) (λ t r g. g) mark in
          inl (join (AfterComma (options_in old)) (λ t u r g k. (u, g, k)) before (moved (λ p b. Between b (Gap p) (token_end new) (token_start last)) kept.options kept.text h.0))

      pub comes_after_ok : (k : Container) (last : Context A) {E : Type 0} (r : Result (Option Scanned) E) → t ≡ lexeme (punctuation 0x2C) → IfOk r (LeadsAfterComma k new last) → IfOk r (λ f. IfSome f (Comes old last))
      comes_after_ok k last (Err x) mark h = tt
      comes_after_ok k last (Ok None) mark h = tt
      comes_after_ok k last (Ok (Some u)) mark h = comes_after k last u mark h
