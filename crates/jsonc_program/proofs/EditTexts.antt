-- The line ends at the end of a text.
use Rattle.std.proofs.Common.{Err, IfOk, Ok, Result, ◌≡◌, ◌∙◌, ◌++◌, ◌<◌, ℕ, zero, suc, List, [], ◌∷◌, ap, append-nil, arith, get_or, length, refl, subst, sym}
use Rattle.std.proofs.lemmas.List.{append_assoc}
use Rattle.std.specs.List.{All}
use Rattle.std.specs.Prelude.{IsTrue, string_bytes}
use Rattle.std.specs.declared.string.String.{String}
use Rattle.jsonc_text.specs.Text.{is_line_end}
use Rattle.jsonc_program.specs.edit.Words.{IsCommentOf, IsWithoutEnd}

all_none : (P : ℕ → Type 0) → All P []
all_none P k d low = absurd (omega (arith, low))

all_more : (P : ℕ → Type 0) (x : ℕ) (xs : List ℕ) → P x → All P xs → All P (x ∷ xs)
all_more P x xs h all zero d low = h
all_more P x xs h all (suc k) d low = all k d (omega (arith, low))

all_both : (P : ℕ → Type 0) (xs ys : List ℕ) → All P xs → All P ys → All P (xs ++ ys)
all_both P [] ys h k = k
all_both P (x ∷ xs) ys h k = all_more P x (xs ++ ys) (h 0 x (omega arith)) (all_both P xs ys (λ j d low. h (suc j) d (omega (arith, low))) k)

abbrev ends_line : ℕ → Type 0
ends_line x = IsTrue (is_line_end x)

pub stays : (text : List ℕ) → IsWithoutEnd text text
stays text = ([], sym (append-nil text), all_none ends_line)

pub loses : (text rest : List ℕ) (c : ℕ) → IsTrue (is_line_end c) → text ≡ rest ++ c ∷ [] → IsWithoutEnd text rest
loses text rest c is e = (c ∷ [], e, all_more ends_line c [] is (all_none ends_line))

pub loses_more : (text rest s : List ℕ) (c : ℕ) → IsTrue (is_line_end c) → text ≡ rest ++ c ∷ [] → IsWithoutEnd rest s → IsWithoutEnd text s
loses_more text rest s c is e (ends, more, all) =
    (ends ++ c ∷ [], e ∙ ap (λ l. l ++ c ∷ []) more ∙ append_assoc s ends (c ∷ []), all_both ends_line ends (c ∷ []) all (all_more ends_line c [] is (all_none ends_line)))

-- a text that was made is the comment
pub by_text : {A E : Type 0} (text : List ℕ) (r : Result (String A) E) (s : List ℕ) → IfOk r (λ made. string_bytes made ≡ s) → IsCommentOf text s → IfOk r (λ made. IsCommentOf text (string_bytes made))
by_text text (Ok made) s is comment = subst (IsCommentOf text) (sym is) comment
by_text text (Err e) s is comment = tt
