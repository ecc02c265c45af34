-- What is shown for names has no character that is not seen.
use Rattle.std.proofs.Common.{◌≡◌, ◌/◌, ◌%◌, ◌<◌, ◌==◌, ◌∷◌, [], ℕ, zero, suc, List, All, true, false, arith, flat_map, inl, inr, refl, if◌then◌else◌}
use Rattle.std.proofs.lemmas.Bool.{cases_Bool}
use Rattle.std.proofs.lemmas.Bool.Decides.{nat_tests}
use Rattle.std.proofs.lemmas.List.Elements.{All-append, All-cons, All-nil}
use Rattle.std.specs.Fmt.{digit_glyph}
use Rattle.jsonc_parser.specs.patch.Quoting.{code_escape, is_unseen, shown_char, shown_inside}

abbrev IsSeen : ℕ → Type 0
IsSeen c = is_unseen c ≡ false

glyph_seen : (n : ℕ) → n < 16 → is_unseen (digit_glyph false n) ≡ false
glyph_seen zero h = refl
glyph_seen (suc zero) h = refl
glyph_seen (suc (suc zero)) h = refl
glyph_seen (suc (suc (suc zero))) h = refl
glyph_seen (suc (suc (suc (suc zero)))) h = refl
glyph_seen (suc (suc (suc (suc (suc zero))))) h = refl
glyph_seen (suc (suc (suc (suc (suc (suc zero)))))) h = refl
glyph_seen (suc (suc (suc (suc (suc (suc (suc zero))))))) h = refl
glyph_seen (suc (suc (suc (suc (suc (suc (suc (suc zero)))))))) h = refl
glyph_seen (suc (suc (suc (suc (suc (suc (suc (suc (suc zero))))))))) h = refl
glyph_seen (suc (suc (suc (suc (suc (suc (suc (suc (suc (suc zero)))))))))) h = refl
glyph_seen (suc (suc (suc (suc (suc (suc (suc (suc (suc (suc (suc zero))))))))))) h = refl
glyph_seen (suc (suc (suc (suc (suc (suc (suc (suc (suc (suc (suc (suc zero)))))))))))) h = refl
glyph_seen (suc (suc (suc (suc (suc (suc (suc (suc (suc (suc (suc (suc (suc zero))))))))))))) h = refl
glyph_seen (suc (suc (suc (suc (suc (suc (suc (suc (suc (suc (suc (suc (suc (suc zero)))))))))))))) h = refl
glyph_seen (suc (suc (suc (suc (suc (suc (suc (suc (suc (suc (suc (suc (suc (suc (suc zero))))))))))))))) h = refl
glyph_seen (suc (suc (suc (suc (suc (suc (suc (suc (suc (suc (suc (suc (suc (suc (suc (suc n)))))))))))))))) h = absurd (omega (arith, h))

pair_seen : (d : ℕ) → is_unseen d ≡ false → All IsSeen (0x5C ∷ d ∷ [])
pair_seen d h = All-cons IsSeen 0x5C (d ∷ []) refl (All-cons IsSeen d [] h (All-nil IsSeen))

small_code : (c : ℕ) → is_unseen c ≡ true → c < 65536
small_code c h = grind (arith, nat_tests, h)

six_seen : (a b d e f g : ℕ) → IsSeen a → IsSeen b → IsSeen d → IsSeen e → IsSeen f → IsSeen g → All IsSeen (a ∷ b ∷ d ∷ e ∷ f ∷ g ∷ [])
six_seen a b d e f g p q r s t u =
    All-cons IsSeen a (b ∷ d ∷ e ∷ f ∷ g ∷ []) p
    (All-cons IsSeen b (d ∷ e ∷ f ∷ g ∷ []) q
    (All-cons IsSeen d (e ∷ f ∷ g ∷ []) r (All-cons IsSeen e (f ∷ g ∷ []) s (All-cons IsSeen f (g ∷ []) t (All-cons IsSeen g [] u (All-nil IsSeen))))))

code_seen : (c : ℕ) → c < 65536 → All IsSeen (code_escape c)
code_seen c h =
    six_seen 0x5C 0x75 (digit_glyph false (c / 4096)) (digit_glyph false (c / 256 % 16)) (digit_glyph false (c / 16 % 16)) (digit_glyph false (c % 16)) refl refl
    (glyph_seen (c / 4096) (omega arith)) (glyph_seen (c / 256 % 16) (omega arith)) (glyph_seen (c / 16 % 16) (omega arith)) (glyph_seen (c % 16) (omega arith))

plain_seen : (c : ℕ) → All IsSeen (if is_unseen c then code_escape c else c ∷ [])
plain_seen c =
    elim (cases_Bool (is_unseen c)) [
      | inl p ↦ rw p (code_seen c (small_code c p))
      | inr p ↦ rw p (All-cons IsSeen c [] p (All-nil IsSeen))
    ]

char_seen : (c : ℕ) → All IsSeen (shown_char c)
char_seen c =
    elim (cases_Bool (c == 0x22)) [
      | inl p ↦ rw p (pair_seen 0x22 refl)
      | inr p ↦ elim (cases_Bool (c == 0x5C)) [
        | inl q ↦ rw (p, q) (pair_seen 0x5C refl)
        | inr q ↦ elim (cases_Bool (c == 0x08)) [
          | inl r ↦ rw (p, q, r) (pair_seen 0x62 refl)
          | inr r ↦ elim (cases_Bool (c == 0x0C)) [
            | inl s ↦ rw (p, q, r, s) (pair_seen 0x66 refl)
            | inr s ↦ elim (cases_Bool (c == 0x0A)) [
              | inl t ↦ rw (p, q, r, s, t) (pair_seen 0x6E refl)
              | inr t ↦ elim (cases_Bool (c == 0x0D)) [
                | inl u ↦ rw (p, q, r, s, t, u) (pair_seen 0x72 refl)
                | inr u ↦ elim (cases_Bool (c == 0x09)) [
                  | inl v ↦ rw (p, q, r, s, t, u, v) (pair_seen 0x74 refl)
                  | inr v ↦ rw (p, q, r, s, t, u, v) (plain_seen c)
                ]
              ]
            ]
          ]
        ]
      ]
    ]

chars_seen : (cs : List ℕ) → All IsSeen (flat_map shown_char cs)
chars_seen [] = All-nil IsSeen
chars_seen (c ∷ cs) = All-append IsSeen (shown_char c) (flat_map shown_char cs) (char_seen c) (chars_seen cs)

pub all_seen : (cs : List ℕ) → All (λ c. is_unseen c ≡ false) (shown_inside cs)
all_seen cs = All-cons IsSeen 0x22 (flat_map shown_char cs) refl (chars_seen cs)
