-- A word and a keyword end at one place, and no word is a keyword.
use Rattle.std.proofs.Common.{ℕ, ◌≡◌, ◌∙◌, ◌<◌, sym, ap, Bool, true, false, not, ◌||◌, ◌&&◌, ◌==◌, refl, List, [], ◌∷◌, ◌++◌, append_assoc, Option, Some, None, IsTrue, arith, inl, inr, nat_lt}
use Rattle.jsonc_text.specs.Options.{Options}
use Rattle.jsonc_text.specs.Text.{next, no, Many, stop, step}
use Rattle.jsonc_text.specs.Gaps.{is_blank}
use Rattle.jsonc_text.specs.Letters.{is_wide_letter}
use Rattle.jsonc_text.specs.Words.{Keyword, IsKeyword, WordLit, EndsWord, is_in_word, goes_on, keyword_text, boolean, null}
use Rattle.jsonc_text.proofs.Basics.{clash, or_cases, and_both, test_eq, apart, tails, text_same, no_front}
use Rattle.jsonc_text.proofs.UniqueGaps.{many_unique}
use Rattle.jsonc_text.proofs.WideBlanks.{blank_not_wide}

wide_outside : (c : ℕ) → 0x7F < c → IsTrue (not (is_wide_letter c)) → IsTrue (not (is_in_word c))
wide_outside c l w = grind arith

above : (c : ℕ) → IsTrue (nat_lt 0x7F c) → 0x7F < c
above c h = grind arith

follower_outside : (c : ℕ) → IsTrue (c == 0x3A || c == 0x20 || c == 0x09 || c == 0x0A || c == 0x0C || c == 0x0D || (nat_lt 0x7F c && is_blank c)) → IsTrue (not (is_in_word c))
unfolding is_wide_letter
follower_outside c b =
    elim (or_cases _ (nat_lt 0x7F c && is_blank c) b) [
      | inr e ↦ past c (and_both (nat_lt 0x7F c) (is_blank c) e)
      | inl b ↦
          elim (or_cases _ (c == 0x0D) b) [
            | inr e ↦ rw (test_eq c 0x0D e) refl
            | inl b ↦
                elim (or_cases _ (c == 0x0C) b) [
                  | inr e ↦ rw (test_eq c 0x0C e) refl
                  | inl b ↦
                      elim (or_cases _ (c == 0x0A) b) [
                        | inr e ↦ rw (test_eq c 0x0A e) refl
                        | inl b ↦
                            elim (or_cases _ (c == 0x09) b) [
                              | inr e ↦ rw (test_eq c 0x09 e) refl
                              | inl b ↦
                                  elim (or_cases (c == 0x3A) (c == 0x20) b) [ inr e ↦ rw (test_eq c 0x20 e) refl | inl e ↦ rw (test_eq c 0x3A e) refl ]
                            ]
                      ]
                ]
          ]
    ]
  where
    past : (c : ℕ) → IsTrue (nat_lt 0x7F c) × IsTrue (is_blank c) → IsTrue (not (is_in_word c))
    past c h = wide_outside c (above c h.0) (blank_not_wide c h.1)

-- what may follow a word is in no word
pub ends_word : (n : Option ℕ) → EndsWord n → IsTrue (no is_in_word n)
ends_word None h = refl
ends_word (Some c) h = follower_outside c h

pub many_more : {p : ℕ → Bool} {t u : List ℕ} → Many p t u → (r : List ℕ) → Many p (t ++ r) (u ++ r)
many_more stop r = stop
many_more (step h g) r = step h (many_more g r)

-- the run that a word is, in the text that it begins
pub word_run : {o : Options} {s r t : List ℕ} → t ≡ s ++ r → WordLit o s (next r) → Many is_in_word t r
word_run {r = r} e w = rw e (many_more w.goes_on r)

pub word_unique : {o : Options} {s u t r x : List ℕ} → t ≡ s ++ r → t ≡ u ++ x → WordLit o s (next r) → WordLit o u (next x) → r ≡ x
word_unique {r = r} {x = x} e f a b = many_unique (word_run e a) (word_run f b) (ends_word (next r) a.ends) (ends_word (next x) b.ends)

pub keyword_unique : {k l : Keyword} {t r s : List ℕ} → IsKeyword k t r → IsKeyword l t s → (k ≡ l) × (r ≡ s)
keyword_unique {k = boolean true} {l = boolean true} a b = (refl, tails (tails (tails (tails (sym a.0 ∙ b.0)))))
keyword_unique {k = boolean true} {l = boolean false} a b = absurd (apart refl (sym a.0 ∙ b.0))
keyword_unique {k = boolean true} {l = null} a b = absurd (apart refl (sym a.0 ∙ b.0))
keyword_unique {k = boolean false} {l = boolean true} a b = absurd (apart refl (sym a.0 ∙ b.0))
keyword_unique {k = boolean false} {l = boolean false} a b = (refl, tails (tails (tails (tails (tails (sym a.0 ∙ b.0))))))
keyword_unique {k = boolean false} {l = null} a b = absurd (apart refl (sym a.0 ∙ b.0))
keyword_unique {k = null} {l = boolean true} a b = absurd (apart refl (sym a.0 ∙ b.0))
keyword_unique {k = null} {l = boolean false} a b = absurd (apart refl (sym a.0 ∙ b.0))
keyword_unique {k = null} {l = null} a b = (refl, tails (tails (tails (tails (sym a.0 ∙ b.0)))))

many_text : {p : ℕ → Bool} {t r : List ℕ} → Many p t r → (y : List ℕ) × (t ≡ y ++ r)
many_text stop = ([], refl)
many_text (step {c = c} h g) = let k = many_text g in (c ∷ k.0, ap (λ x. c ∷ x) k.1)

-- a run ends where no longer one does, or before
many_within : {p : ℕ → Bool} {t r s : List ℕ} → Many p t s → Many p t r → IsTrue (no p (next r)) → (y : List ℕ) × (s ≡ y ++ r)
many_within stop g n = many_text g
many_within {p} (step {c = c} h g) stop n = absurd (clash (p c) n h)
many_within (step h g) (step k l) n = many_within g l n

keyword_run : (k : Keyword) (r : List ℕ) → Many is_in_word (keyword_text k ++ r) r
keyword_run (boolean true) r = step refl (step refl (step refl (step refl stop)))
keyword_run (boolean false) r = step refl (step refl (step refl (step refl (step refl stop))))
keyword_run null r = step refl (step refl (step refl (step refl stop)))

-- where a word stands, no keyword ends there
pub word_no_keyword : {o : Options} {s t : List ℕ} (k : Keyword) (r u : List ℕ) → t ≡ s ++ r → WordLit o s (next r) → IsKeyword k t u → ⊥
word_no_keyword {s = s} {t = t} k r u e w h =
    let y = many_within (rw h.0 (keyword_run k u)) (word_run e w) (ends_word (next r) w.ends) in
    let f : t ≡ (keyword_text k ++ y.0) ++ r = h.0 ∙ ap (λ x. keyword_text k ++ x) y.1 ∙ sym (append_assoc (keyword_text k) y.0 r) in
    w.no_keyword k y.0 (text_same e f refl, no_front goes_on y.0 r y.1 h.1)
