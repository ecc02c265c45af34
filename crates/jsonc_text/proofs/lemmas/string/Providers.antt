-- Passing the characters of a text.
use Rattle.std.proofs.Common.{ℕ, ◌<◌, ◌≤◌, ◌≡◌, ◌∙◌, sym, refl, List, [], ◌∷◌, ◌++◌, length, arith, IsUtf8, IsCharBoundary, chars, slice_range}
use Rattle.std.proofs.lemmas.Str.{len_utf8_bounds}
use Rattle.jsonc_text.specs.Text.{rest, Spans}
use Rattle.jsonc_text.specs.Chars.{Steps}
use Rattle.jsonc_text.proofs.Basics.{tails}
use Rattle.jsonc_text.proofs.Cuts.{chars_between, end_place, same_place, spans, step_place}
use Rattle.jsonc_text.specs.string.Parsed.{PassesChar}

-- where the character at a place ends
pub char_spans : (bytes : List ℕ) (i j : ℕ) → IsUtf8 bytes → IsCharBoundary bytes i → IsCharBoundary bytes j → (rest bytes i ≡ [] → j ≡ i) → ((c : ℕ) (r : List ℕ) → rest bytes i ≡ c ∷ r → Steps bytes i c j) → Spans bytes i j
char_spans bytes i j u b d end past = record { from = b; to = d; order = go (rest bytes i) refl }
  where
    go : (t : List ℕ) → rest bytes i ≡ t → i ≤ j
    go [] e = omega (arith, end e)
    go (c ∷ t) e = omega (arith, step_place bytes i c j u b (past c t e))

-- the provider's place, on the way to another
pub record OnWay (bytes : List ℕ) (place end : ℕ) : Type 0 where
  pub boundary : IsCharBoundary bytes place
  pub order : place ≤ end

-- a character is passed, and the place is not
pub record Nearer (bytes : List ℕ) (i j end : ℕ) : Type 0 where
  pub on : i < j
  pub way : OnWay bytes j end

pub nearer : (bytes : List ℕ) (i j end : ℕ) → IsUtf8 bytes → IsCharBoundary bytes end → OnWay bytes i end → i < end → PassesChar bytes i j → Nearer bytes i j end
nearer bytes i j end u b way l p = go (rest bytes i) refl
  where
    between : rest bytes i ≡ chars (slice_range bytes i end) ++ rest bytes end
    between = chars_between bytes i end u (record { from = way.boundary; to = b; order = way.order })

    reaches : (s : List ℕ) (c : ℕ) → Steps bytes i c j → rest bytes i ≡ s ++ rest bytes end → j ≤ end
    reaches [] c s e = let same : i ≡ end = same_place bytes i end u way.boundary b e in absurd (omega arith)
    reaches (d ∷ s) c t e = (spans bytes s j end u t.1 b (tails (sym t.0 ∙ e))).order

    go : (t : List ℕ) → rest bytes i ≡ t → Nearer bytes i j end
    go [] e = let same : i ≡ length bytes = end_place bytes i u way.boundary e in absurd (omega (arith, b.0))
    go (c ∷ t) e =
        let s = p.steps c t e in
        record {
          on = omega (arith, step_place bytes i c j u way.boundary s, len_utf8_bounds c);
          way = record { boundary = s.1; order = reaches (chars (slice_range bytes i end)) c s between };
        }

-- the same, where the provider's text is that text
pub nearer_in : (bytes text : List ℕ) (i j end : ℕ) → bytes ≡ text → IsUtf8 text → IsCharBoundary text end → OnWay text i end → i < end → PassesChar bytes i j → Nearer text i j end
nearer_in bytes text i j end e u b way l p = nearer text i j end u b way l (rw e at p)
