-- Walks over a text, and the places that they come to.
use Rattle.std.proofs.Common.{ℕ, ◌+◌, ◌≡◌, ◌∙◌, sym, ap, List, [], ◌++◌, arith, IsUtf8, chars, subst, drop, Bool}
use Rattle.std.proofs.lemmas.Str.{IsCharBoundary-start}
use Rattle.std.proofs.lemmas.List.{append-nil}
use Rattle.jsonc_text.specs.Text.{rest, byte_length}
use Rattle.jsonc_text.specs.Places.{ends_line, walked, LineColumn}
use Rattle.jsonc_text.proofs.Cuts.{place_after, rest_past}
use Rattle.jsonc_text.proofs.Lines.{Walks, walks_start}
use Rattle.jsonc_mend.specs.declared.places.Known.{Known}
use Rattle.jsonc_mend.specs.Places.{IsKnown}

-- a walk goes on from a known place
pub walks_from : (bytes : List ℕ) (k : Known) → IsUtf8 bytes → IsKnown bytes k → Walks bytes [] k.place k.line k.column
walks_from bytes k u h =
    let p = h.position in
    let past = rest_past bytes p.before p.after 0 u (IsCharBoundary-start bytes u) p.split in
    let here : rest bytes k.place ≡ p.after = subst (λ n. rest bytes n ≡ p.after) (omega (arith, p.at)) past.0 in
    record {
      boundary = h.boundary;
      passed = p.before;
      split = p.split ∙ ap (λ t. p.before ++ t) (sym here);
      position = p.position ∙ ap (walked 1 1 p.before) (sym (append-nil (rest bytes k.place) ∙ here));
      few = (h.line, h.column);
    }

-- the place that a walk has reached is known
pub known_from : (bytes : List ℕ) (k : Known) → IsUtf8 bytes → Walks bytes [] k.place k.line k.column → IsKnown bytes k
known_from bytes k u w =
    let after : k.place ≡ 0 + byte_length w.passed = place_after bytes w.passed 0 k.place u (IsCharBoundary-start bytes u) w.boundary w.split in
    let place : LineColumn (chars bytes) k.place k.line k.column = record {
      before = w.passed;
      after = rest bytes k.place;
      split = w.split;
      at = omega (arith, after);
      position = w.position ∙ ap (walked 1 1 w.passed) (append-nil (rest bytes k.place));
    } in
    record { boundary = w.boundary; position = place; line = w.few.0; column = w.few.1 }

-- whether a character ends a line, by what is read after it
pub ends_there : (c : ℕ) (bytes r : List ℕ) (i : ℕ) (test answer : Bool) → r ≡ drop i bytes → test ≡ ends_line c (chars r) → test ≡ answer → ends_line c (rest bytes i ++ []) ≡ answer
ends_there c bytes r i test answer v e h = ap (ends_line c) (append-nil (rest bytes i)) ∙ ap (λ t. ends_line c (chars t)) (sym v) ∙ sym e ∙ h

-- the start of a text
pub known_start : (bytes : List ℕ) (k : Known) → IsUtf8 bytes → k.place ≡ 0 → k.line ≡ 1 → k.column ≡ 1 → IsKnown bytes k
known_start bytes k u p l c =
    let W : ℕ → ℕ → ℕ → Type 0 = Walks bytes [] in
    known_from bytes k u (subst (λ n. W n k.line k.column) (sym p) (subst (λ n. W 0 n k.column) (sym l) (subst (λ n. W 0 1 n) (sym c) (walks_start bytes [] u))))
