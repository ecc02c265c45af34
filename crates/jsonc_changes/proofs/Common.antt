-- What two texts have in common, as far as it is read.
use Rattle.std.proofs.Common.{ℕ, ◌+◌, ◌≡◌, ◌∙◌, sym, ap, refl, subst, List, [], ◌∷◌, ◌++◌, IsTrue, IsCharBoundary, append_assoc, add-zero, arith}
use Rattle.std.specs.Char.{len_utf8}
use Rattle.jsonc_text.specs.Chars.{Steps}
use Rattle.jsonc_text.specs.Text.{Many, stop, step, rest}
use Rattle.jsonc_changes.specs.Changes.{is_no_blank}

-- so many bytes are the same, and no blanks
pub record Common (old : List ℕ) (from : ℕ) (new : List ℕ) (at len : ℕ) : Type 0 where
  pub old_end : IsCharBoundary old (from + len)
  pub new_end : IsCharBoundary new (at + len)
  pub piece : List ℕ
  pub unblank : Many is_no_blank piece []
  pub old_piece : rest old from ≡ piece ++ rest old (from + len)
  pub new_piece : rest new at ≡ piece ++ rest new (at + len)

pub nothing_common : (old new : List ℕ) (from at : ℕ) → IsCharBoundary old from → IsCharBoundary new at → Common old from new at 0
nothing_common old new from at b d = record {
  old_end = subst (IsCharBoundary old) (sym (add-zero from)) b;
  new_end = subst (IsCharBoundary new) (sym (add-zero at)) d;
  piece = [];
  unblank = stop;
  old_piece = ap (rest old) (sym (add-zero from));
  new_piece = ap (rest new) (sym (add-zero at));
}

many_then : (c : ℕ) {s e : List ℕ} → Many is_no_blank s e → e ≡ [] → IsTrue (is_no_blank c) → Many is_no_blank (s ++ c ∷ []) []
many_then c stop e h = rw e (step h stop)
many_then c (step k m) e h = step k (many_then c m e h)

longer : (bytes piece : List ℕ) (i j k n c : ℕ) → rest bytes i ≡ piece ++ rest bytes j → Steps bytes j c k → k ≡ n → rest bytes i ≡ (piece ++ c ∷ []) ++ rest bytes n
longer bytes piece i j k n c e s p =
    e ∙ ap (λ t. piece ++ t) s.0 ∙ sym (append_assoc piece (c ∷ []) (rest bytes k)) ∙ ap (λ m. (piece ++ c ∷ []) ++ rest bytes m) p

-- one character more
pub more_common : (old new : List ℕ) (from at len c : ℕ) → Common old from new at len → Steps old (from + len) c (from + len + len_utf8 c)
    → Steps new (at + len) c (at + len + len_utf8 c) → IsTrue (is_no_blank c) → Common old from new at (len + len_utf8 c)
more_common old new from at len c h s t k =
    let p : from + len + len_utf8 c ≡ from + (len + len_utf8 c) = omega arith in
    let q : at + len + len_utf8 c ≡ at + (len + len_utf8 c) = omega arith in
    record {
      old_end = subst (IsCharBoundary old) p s.1;
      new_end = subst (IsCharBoundary new) q t.1;
      piece = h.piece ++ c ∷ [];
      unblank = many_then c h.unblank refl k;
      old_piece = longer old h.piece from (from + len) (from + len + len_utf8 c) (from + (len + len_utf8 c)) c h.old_piece s p;
      new_piece = longer new h.piece at (at + len) (at + len + len_utf8 c) (at + (len + len_utf8 c)) c h.new_piece t q;
    }
