-- Where a block comment ends, by its bytes.
use Rattle.std.proofs.Common.{drop, ℕ, ◌+◌, ◌-◌, ◌<◌, ◌≤◌, ◌≡◌, ◌∙◌, sym, ap, refl, Bool, true, false, ◌||◌, List, [], ◌∷◌, ◌++◌, length, get_or, arith, IsUtf8, IsTrue, IsCharBoundary, chars, encode_utf8, encode_utf8_all, slice_range, ◌==◌, ◌&&◌, inl, inr, length-append, length-drop, append_assoc}
use Rattle.std.proofs.lemmas.Bool.{cases_lt}
use Rattle.std.proofs.lemmas.List.{get_or-append-add}
use Rattle.std.proofs.Math.Seq.{get_or-append_seam}
use Rattle.std.proofs.lemmas.List.Edits.{get_or-between, length-between}
use Rattle.std.proofs.lemmas.Str.{encode_ascii, encodes-append, length-le-encodes, IsCharBoundary-before_ascii}
use Rattle.jsonc_text.specs.Text.{rest, Spans}
use Rattle.jsonc_text.specs.Chars.{Steps}
use Rattle.jsonc_text.specs.Runs.{RunsTo}
use Rattle.jsonc_text.specs.string.Between.{NoneFrom, is_neither}
use Rattle.jsonc_text.specs.Comments.{HoldsBlock}
use Rattle.jsonc_text.specs.Gaps.{HasNoEndInside}
use Rattle.jsonc_text.proofs.CharacterSteps.{steps_ascii}
use Rattle.std.proofs.lemmas.List.{get_or-drop}
use Rattle.jsonc_text.specs.Gaps.{UpToBlockEnd, block}
use Rattle.jsonc_text.proofs.Basics.{and_both, clash, test_eq, tails}
use Rattle.jsonc_text.proofs.BlockComments.{block_inside}
use Rattle.jsonc_text.proofs.Cuts.{chars_between, slice_encodes, rest_encodes}

-- no `*/` begins from one place to another
record NoClose (bytes : List ℕ) (start place : ℕ) : Type 0 where
  pub order : start ≤ place
  pub within : place ≤ length bytes
  pub none : (k : ℕ) → start ≤ k → k < place → get_or bytes k 0 ≡ 0x2A → get_or bytes (k + 1) 0 ≡ 0x2F → ⊥

close_none : (bytes : List ℕ) (i : ℕ) → IsCharBoundary bytes i → NoClose bytes i i
close_none bytes i b = record { order = omega arith; within = b.0; none = λ k h l x y. absurd (omega arith) }

-- a byte of ASCII that is known
pub step_known : (bytes : List ℕ) (j c : ℕ) → IsUtf8 bytes → j < length bytes → c < 128 → get_or bytes j 0 ≡ c → Steps bytes j c (j + 1)
step_known bytes j c u l h e = rw e at (steps_ascii bytes j u l (rw e h))

marks : (t : List ℕ) → encode_utf8_all (0x2A ∷ 0x2F ∷ t) ≡ 0x2A ∷ 0x2F ∷ encode_utf8_all t
marks t =
    ap (λ x. x ++ (encode_utf8 0x2F ++ encode_utf8_all t)) (encode_ascii 0x2A (omega arith)) ∙ ap (λ x. 0x2A ∷ (x ++ encode_utf8_all t)) (encode_ascii 0x2F (omega arith))

-- two bytes where another `*/` would end before the one at j
inner_close : (bytes a b : List ℕ) (i j c : ℕ) → j + 2 ≤ length bytes → i ≤ j → NoClose bytes i j → slice_range bytes i (j + 2) ≡ encode_utf8_all a ++ 0x2A ∷ 0x2F ∷ encode_utf8_all (c ∷ b) → ⊥
inner_close bytes a b i j c l order held e =
    let k = length (encode_utf8_all a) in
    let tail = encode_utf8_all (c ∷ b) in
    let some : 1 ≤ length tail = omega (arith, length-le-encodes (c ∷ b)) in
    let count : j + 2 - i ≡ k + (2 + length tail) = omega (arith, sym (length-between bytes i (j + 2) l) ∙ ap length e ∙ length-append (encode_utf8_all a) (0x2A ∷ 0x2F ∷ tail)) in
    let star : get_or bytes (i + k) 0 ≡ 0x2A = sym (get_or-between bytes i (j + 2) k 0 (omega arith)) ∙ ap (λ s. get_or s k 0) e ∙ get_or-append_seam (encode_utf8_all a) 0x2A (0x2F ∷ tail) 0 in
    let slash : get_or bytes (i + (k + 1)) 0 ≡ 0x2F = sym (get_or-between bytes i (j + 2) (k + 1) 0 (omega arith)) ∙ ap (λ s. get_or s (k + 1) 0) e ∙ get_or-append-add (encode_utf8_all a) (0x2A ∷ 0x2F ∷ tail) 1 0 in
    let next : i + (k + 1) ≡ (i + k) + 1 = omega arith in
    held.none (i + k) (omega arith) (omega arith) star (ap (λ n. get_or bytes n 0) (sym next) ∙ slash)

block_found : (bytes : List ℕ) (i j : ℕ) → IsUtf8 bytes → IsCharBoundary bytes i → NoClose bytes i j → 1 < length bytes - j → IsTrue (get_or bytes j 0 == 0x2A && get_or bytes (j + 1) 0 == 0x2F) → HoldsBlock bytes i j
block_found bytes i j u b held l h =
    let both = and_both (get_or bytes j 0 == 0x2A) (get_or bytes (j + 1) 0 == 0x2F) h in
    let at_star : get_or bytes j 0 ≡ 0x2A = test_eq (get_or bytes j 0) 0x2A both.0 in
    let star : Steps bytes j 0x2A (j + 1) = step_known bytes j 0x2A u (omega arith) (omega arith) at_star in
    let two : (j + 1) + 1 ≡ j + 2 = omega arith in
    let slash : Steps bytes (j + 1) 0x2F (j + 2) = rw two at (step_known bytes (j + 1) 0x2F u (omega arith) (omega arith) (test_eq (get_or bytes (j + 1) 0) 0x2F both.1)) in
    let d : IsCharBoundary bytes j = IsCharBoundary-before_ascii bytes j (omega arith) (rw at_star (omega arith)) in
    record { boundary = d; order = held.order; text = inside d star slash; star = star; slash = slash }
  where
    inside : IsCharBoundary bytes j → Steps bytes j 0x2A (j + 1) → Steps bytes (j + 1) 0x2F (j + 2) → HasNoEndInside (chars (slice_range bytes i j))
    inside d star slash a [] e = refl
    inside d star slash a (c ∷ x) e =
        let s = chars (slice_range bytes i j) in
        let spans : Spans bytes i j = record { from = b; to = d; order = held.order } in
        let parts : rest bytes i ≡ (s ++ 0x2A ∷ 0x2F ∷ []) ++ rest bytes (j + 2) =
        chars_between bytes i j u spans ∙ ap (λ t. s ++ t) (star.0 ∙ ap (λ t. 0x2A ∷ t) slash.0) ∙ sym (append_assoc s (0x2A ∷ 0x2F ∷ []) (rest bytes (j + 2))) in
        let piece : slice_range bytes i (j + 2) ≡ encode_utf8_all a ++ 0x2A ∷ 0x2F ∷ encode_utf8_all (c ∷ x) =
        slice_encodes bytes (s ++ 0x2A ∷ 0x2F ∷ []) i (j + 2) u b slash.1 parts ∙ ap encode_utf8_all e ∙ encodes-append a (0x2A ∷ 0x2F ∷ c ∷ x) ∙ ap (λ t. encode_utf8_all a ++ t) (marks (c ∷ x)) in
        absurd (inner_close bytes a x i j c slash.1.0 held.order held piece)

-- no `*/` stands before the last byte
no_block : (bytes : List ℕ) (i j : ℕ) → IsUtf8 bytes → IsCharBoundary bytes i → NoClose bytes i j → length bytes - j ≤ 1 → NoneFrom UpToBlockEnd bytes i
no_block bytes i j u b held l r h =
    let inside = block_inside (block h) in
    let parts : rest bytes i ≡ inside.0 ++ 0x2A ∷ 0x2F ∷ r = tails (tails inside.1) in
    let a = encode_utf8_all inside.0 in
    let tail = encode_utf8_all r in
    let k = length a in
    let all : drop i bytes ≡ a ++ 0x2A ∷ 0x2F ∷ tail =
    sym (rest_encodes bytes i u b) ∙ ap encode_utf8_all parts ∙ encodes-append inside.0 (0x2A ∷ 0x2F ∷ r) ∙ ap (λ t. a ++ t) (marks r) in
    let count : length bytes - i ≡ k + (2 + length tail) = omega (arith, sym (length-drop i bytes) ∙ ap length all ∙ length-append a (0x2A ∷ 0x2F ∷ tail)) in
    let star : get_or bytes (i + k) 0 ≡ 0x2A = sym (get_or-drop i bytes k 0) ∙ ap (λ t. get_or t k 0) all ∙ get_or-append_seam a 0x2A (0x2F ∷ tail) 0 in
    let slash : get_or bytes (i + (k + 1)) 0 ≡ 0x2F = sym (get_or-drop i bytes (k + 1) 0) ∙ ap (λ t. get_or t (k + 1) 0) all ∙ get_or-append-add a (0x2A ∷ 0x2F ∷ tail) 1 0 in
    let next : i + (k + 1) ≡ (i + k) + 1 = omega arith in
    held.none (i + k) (omega arith) (omega (arith, held.within)) star (ap (λ n. get_or bytes n 0) (sym next) ∙ slash)

-- no `*/` ends before a place, up to which there may be a `/`
pub record NoCloseBy (bytes : List ℕ) (start slash : ℕ) : Type 0 where
  pub order : start ≤ slash
  pub within : slash ≤ length bytes
  pub none : (k : ℕ) → start ≤ k → k + 1 < slash → get_or bytes k 0 ≡ 0x2A → get_or bytes (k + 1) 0 ≡ 0x2F → ⊥

pub by_none : (bytes : List ℕ) (i : ℕ) → IsCharBoundary bytes i → NoCloseBy bytes i i
by_none bytes i b = record { order = omega arith; within = b.0; none = λ k h l x y. absurd (omega arith) }

both_true : (x y : Bool) → IsTrue x → IsTrue y → IsTrue (x && y)
both_true true y p q = q
both_true false y p q = cc

no_slash : (c : ℕ) → IsTrue (is_neither 0x2F 0x2F c) → c ≡ 0x2F → ⊥
no_slash c h e = clash (0x2F == 0x2F || 0x2F == 0x2F) (rw e at h) refl

-- a run without `/` ends none
pub by_run : (bytes : List ℕ) (i a b : ℕ) → NoCloseBy bytes i a → RunsTo (is_neither 0x2F 0x2F) bytes a b → NoCloseBy bytes i b
by_run bytes i a b held run = record {
  order = omega (arith, held.order, run.order);
  within = run.within;
  none = λ k h l x y. elim (cases_lt (k + 1) a) [
    | inl before ↦ held.none k h before x y
    | inr after ↦ no_slash (get_or bytes (k + 1) 0) (run.pass (k + 1) after l) y
  ];
}

-- nor does a `/` behind another byte
pub by_slash : (bytes : List ℕ) (i j : ℕ) → NoCloseBy bytes i j → j < length bytes → (i < j → get_or bytes (j - 1) 0 ≡ 0x2A → ⊥) → NoCloseBy bytes i (j + 1)
by_slash bytes i j held l f = record {
  order = omega (arith, held.order);
  within = omega arith;
  none = λ k h m x y. elim (cases_lt (k + 1) j) [
    | inl before ↦ held.none k h before x y
    | inr at ↦ let e : k ≡ j - 1 = omega arith in f (omega arith) (rw e at x)
  ];
}

-- the first `*/` ends at the `/` of a place
pub block_by_slash : (bytes : List ℕ) (i j : ℕ) → IsUtf8 bytes → IsCharBoundary bytes i → NoCloseBy bytes i j → j < length bytes → i < j → get_or bytes (j - 1) 0 ≡ 0x2A → get_or bytes j 0 ≡ 0x2F → HoldsBlock bytes i (j - 1)
block_by_slash bytes i j u b held l after star slash =
    let here : j - 1 + 1 ≡ j = omega arith in
    let none : NoClose bytes i (j - 1) = record { order = omega arith; within = omega arith; none = λ k h m x y. held.none k h (omega arith) x y } in
    block_found bytes i (j - 1) u b none (omega arith) (both_true (get_or bytes (j - 1) 0 == 0x2A) (get_or bytes (j - 1 + 1) 0 == 0x2F) (rw star refl) (rw (here, slash) refl))

-- no `*/` ends before the end of the text
pub no_block_by : (bytes : List ℕ) (i j : ℕ) → IsUtf8 bytes → IsCharBoundary bytes i → NoCloseBy bytes i j → length bytes ≤ j → NoneFrom UpToBlockEnd bytes i
no_block_by bytes i j u b held l = elim (cases_lt i (length bytes)) [
  | inl more ↦ no_block bytes i (length bytes - 1) u b (record { order = omega arith; within = omega arith; none = λ k h m x y. held.none k h (omega arith) x y }) (omega arith)
  | inr past ↦ no_block bytes i i u b (close_none bytes i b) (omega arith)
]

pub slash_of : (c : ℕ) → is_neither 0x2F 0x2F c ≡ false → c ≡ 0x2F
slash_of c h = grind arith
