-- Texts without the blanks at their ends.
use Rattle.std.proofs.Common.{ℕ, ◌≡◌, ◌∙◌, ◌+◌, ◌-◌, sym, ap, refl, false, cond, List, [], ◌∷◌, ◌++◌, length, take, IsTrue, arith, length-append}
use Rattle.std.specs.List.{prefix_len, suffix_len}
use Rattle.std.proofs.lemmas.List.{append_assoc, append-nil, reverse-append, take-append-le, take_all}
use Rattle.jsonc_text.specs.Text.{Many, stop, step}
use Rattle.jsonc_text.specs.Gaps.{is_blank, BlockComment}
use Rattle.jsonc_text.proofs.BlockComments.{block_inside}
use Rattle.jsonc_sound.specs.Marks.{trimmed}

-- how many blanks end a text with one more character
one_behind : (s : List ℕ) (c : ℕ) → suffix_len is_blank (s ++ c ∷ []) ≡ cond (is_blank c) (1 + suffix_len is_blank s) 0
one_behind s c = ap (prefix_len is_blank) (reverse-append s (c ∷ []))

one_blank : (s : List ℕ) (c : ℕ) → IsTrue (is_blank c) → trimmed (s ++ c ∷ []) ≡ trimmed s
one_blank s c h =
    let more : suffix_len is_blank (s ++ c ∷ []) ≡ 1 + suffix_len is_blank s = one_behind s c ∙ ap (λ b. cond b (1 + suffix_len is_blank s) 0) h in
    let long : length (s ++ c ∷ []) - suffix_len is_blank (s ++ c ∷ []) ≡ length s - suffix_len is_blank s = omega (arith, more, length-append s (c ∷ [])) in
    ap (λ n. take n (s ++ c ∷ [])) long ∙ take-append-le (length s - suffix_len is_blank s) s (c ∷ []) (omega arith)

blanks_behind : {b r : List ℕ} (s : List ℕ) → Many is_blank b r → r ≡ [] → trimmed (s ++ b) ≡ trimmed s
blanks_behind s stop e = ap (λ x. trimmed (s ++ x)) e ∙ ap trimmed (append-nil s)
blanks_behind s (step {c = c} {t = t} h g) e = ap trimmed (sym (append_assoc s (c ∷ []) t)) ∙ blanks_behind (s ++ c ∷ []) g e ∙ one_blank s c h

pub blanks_left_out : (s b : List ℕ) → Many is_blank b [] → trimmed (s ++ b) ≡ trimmed s
blanks_left_out s b g = blanks_behind s g refl

-- a text that ends with another character
no_blank_behind : (s : List ℕ) (c : ℕ) → is_blank c ≡ false → trimmed (s ++ c ∷ []) ≡ s ++ c ∷ []
no_blank_behind s c h =
    let no_more : suffix_len is_blank (s ++ c ∷ []) ≡ 0 = one_behind s c ∙ ap (λ b. cond b (1 + suffix_len is_blank s) 0) h in
    take_all (length (s ++ c ∷ []) - suffix_len is_blank (s ++ c ∷ [])) (s ++ c ∷ []) (omega (arith, no_more))

pub block_whole : (s : List ℕ) → BlockComment s [] → trimmed s ≡ s
block_whole s b =
    let inside = block_inside b in
    let text : s ≡ ((0x2F ∷ 0x2A ∷ inside.0) ++ 0x2A ∷ []) ++ 0x2F ∷ [] = inside.1 ∙ sym (append_assoc (0x2F ∷ 0x2A ∷ inside.0) (0x2A ∷ []) (0x2F ∷ [])) in
    ap trimmed text ∙ no_blank_behind ((0x2F ∷ 0x2A ∷ inside.0) ++ 0x2A ∷ []) 0x2F refl ∙ sym text
