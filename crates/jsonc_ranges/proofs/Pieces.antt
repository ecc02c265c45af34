-- Pieces of two texts, one after another.
use Rattle.std.proofs.Common.{ℕ, ◌+◌, ◌-◌, ◌≤◌, ◌≡◌, ◌∙◌, sym, ap, refl, subst, inl, inr, List, [], ◌∷◌, ◌++◌, length, take, slice_range, All, arith}
use Rattle.std.proofs.Math.Seq.{take-add}
use Rattle.std.proofs.lemmas.List.{length-take-le}
use Rattle.std.proofs.lemmas.List.Elements.{All-append, All-cons}
use Rattle.jsonc_text.specs.declared.common.Range.{Range}
use Rattle.jsonc_text.specs.Text.{Spans}
use Rattle.jsonc_mends.specs.declared.mends.TextChange.{TextChange}
use Rattle.jsonc_changes.specs.Changes.{Changes, kept, changed, Puts, Replaces}

-- the bytes before the place j are those before i, and those between the two
taken : (bytes : List ℕ) (i j : ℕ) → i ≤ j → take j bytes ≡ take i bytes ++ slice_range bytes i j
taken bytes i j h =
    let e : i + (j - i) ≡ j = omega (arith, h) in
    ap (λ n. take n bytes) (sym e) ∙ take-add i (j - i) bytes

along : {a b c d : List ℕ} {cs ds : List TextChange} → a ≡ b → cs ≡ ds → c ≡ d → Changes a cs c → Changes b ds d
along {b = b} {c = c} {cs = cs} {ds = ds} e g f h = subst (λ t. Changes b ds t) f (subst (λ l. Changes b l c) g (subst (λ t. Changes t cs c) e h))

-- what both texts have between two places
pub kept_on : (old new : List ℕ) (cs : List TextChange) (i j p q : ℕ) → i ≤ j → p ≤ q → slice_range old i j ≡ slice_range new p q
    → Changes (take i old) cs (take p new) → Changes (take j old) cs (take q new)
kept_on old new cs i j p q g l e h =
    along {cs = cs} {ds = cs} (sym (taken old i j g)) refl (ap (λ t. take p new ++ t) e ∙ sym (taken new p q l)) (kept (slice_range old i j) h)

-- what is replaced, or is the same
pub put_on : (old new : List ℕ) (range written : Range) (cs ds : List TextChange) → Spans old range.start range.end → Spans new written.start written.end
    → Puts old range new written cs ds → Changes (take range.start old) cs (take written.start new) → Changes (take range.end old) ds (take written.end new)
put_on old new range written cs ds s t (inl k) h =
    along {cs = cs} {ds = ds} refl (sym k.1) refl (kept_on old new cs range.start range.end written.start written.end s.order t.order k.0 h)
put_on old new range written cs ds s t (inr k) h =
    let c : TextChange = k.0 in
    let r : Replaces old range new written c = k.1 in
    let start : length (take range.start old) ≡ range.start = length-take-le range.start old s.from.0 in
    let end : length (take range.end old) ≡ range.end = length-take-le range.end old s.to.0 in
    let here : c.range.start ≡ length (take range.start old) = ap (λ (x : Range). x.start) r.range_is ∙ sym start in
    let there : c.range.end ≡ length (take range.start old ++ slice_range old range.start range.end) =
    ap (λ (x : Range). x.end) r.range_is ∙ sym end ∙ ap length (taken old range.start range.end s.order) in
    along {cs = cs ++ c ∷ []} {ds = ds} (sym (taken old range.start range.end s.order)) (sym k.2)
    (ap (λ u. take written.start new ++ u) r.text ∙ sym (taken new written.start written.end t.order))
    (changed (slice_range old range.start range.end) c here there h)

-- what holds of each change, and of one that is added
pub put_all : (P : TextChange → Type 0) (old new : List ℕ) (range written : Range) (cs ds : List TextChange) → Puts old range new written cs ds
    → ((c : TextChange) → Replaces old range new written c → P c) → All P cs → All P ds
put_all P old new range written cs ds (inl k) h a = subst (All P) (sym k.1) a
put_all P old new range written cs ds (inr k) h a =
    subst (All P) (sym k.2) (All-append P cs (k.0 ∷ []) a (All-cons P k.0 [] (h k.0 k.1) (λ n d l. absurd (omega (arith, l)))))
