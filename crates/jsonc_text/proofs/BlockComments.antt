-- A block comment ends at the first `*/` after its opening.
use Rattle.std.proofs.Common.{ℕ, ◌≡◌, ap, Bool, true, false, not, ◌&&◌, ◌==◌, refl, List, [], ◌∷◌, ◌++◌, length, length-append, IsTrue, arith}
use Rattle.jsonc_text.specs.Gaps.{ends_block, UpToBlockEnd, here, later, BlockComment, block, HasNoEndInside}
use Rattle.jsonc_text.proofs.Basics.{clash, and_both, test_eq, heads, tails, front_same}

no_more : (b : List ℕ) → length b ≡ 0 → b ≡ []
no_more [] e = refl
no_more (c ∷ b) e = absurd (omega arith)

nothing_inside : HasNoEndInside []
nothing_inside a b e = no_more b (omega (arith, ap length e, length-append a (0x2A ∷ 0x2F ∷ b)))

-- `*/` is at the front where these two stand there
front_ends : (c : ℕ) (s b r : List ℕ) → c ≡ 0x2A → s ++ 0x2A ∷ 0x2F ∷ [] ≡ 0x2F ∷ b → IsTrue (ends_block (c ∷ (s ++ 0x2A ∷ 0x2F ∷ r)))
front_ends c [] b r e f = cc
front_ends c (d ∷ s) b r e f = rw (e, heads f) refl

inside_later : (c : ℕ) (s r : List ℕ) → IsTrue (not (ends_block (c ∷ (s ++ 0x2A ∷ 0x2F ∷ r)))) → HasNoEndInside s → HasNoEndInside (c ∷ s)
inside_later c s r h n [] b e = absurd (clash (ends_block (c ∷ (s ++ 0x2A ∷ 0x2F ∷ r))) h (front_ends c s b r (heads e) (tails e)))
inside_later c s r h n (d ∷ a) b e = n a b (tails e)

-- the text before the first `*/`
pub record InsideBlock (t r : List ℕ) : Type 0 where
  pub text : List ℕ
  pub split : t ≡ text ++ 0x2A ∷ 0x2F ∷ r
  pub first : HasNoEndInside text

one_inside : (c : ℕ) {t r : List ℕ} → IsTrue (not (ends_block (c ∷ t))) → InsideBlock t r → InsideBlock (c ∷ t) r
one_inside c {r = r} h i = record { text = c ∷ i.text; split = ap (λ x. c ∷ x) i.split; first = inside_later c i.text r (rw i.split at h) i.first }

inside_of : {t r : List ℕ} → UpToBlockEnd t r → InsideBlock t r
inside_of here = record { text = []; split = refl; first = nothing_inside }
inside_of (later {c = c} h g) = one_inside c h (inside_of g)

pub block_inside : {t r : List ℕ} → BlockComment t r → (s : List ℕ) × (t ≡ (0x2F ∷ 0x2A ∷ s) ++ 0x2A ∷ 0x2F ∷ r) × HasNoEndInside s
block_inside (block g) = let i = inside_of g in (i.text, ap (λ x. 0x2F ∷ 0x2A ∷ x) i.split, i.first)

pub first_end : (s r : List ℕ) → BlockComment ((0x2F ∷ 0x2A ∷ s) ++ 0x2A ∷ 0x2F ∷ r) r → HasNoEndInside s
first_end s r b = let i = block_inside b in let e : s ≡ i.0 = front_same refl (tails (tails i.1)) in rw e i.2

-- two characters that would be a `*/` inside
no_front_end : (c : ℕ) (s r : List ℕ) → HasNoEndInside (c ∷ s) → IsTrue (not (ends_block (c ∷ (s ++ 0x2A ∷ 0x2F ∷ r))))
no_front_end c [] r n = grind arith
no_front_end c (d ∷ s) r n = decide (c == 0x2A && d == 0x2F) (λ h. let k = and_both (c == 0x2A) (d == 0x2F) h in ends (test_eq c 0x2A k.0) (test_eq d 0x2F k.1))
  where
    decide : (b : Bool) → (IsTrue b → ⊥) → IsTrue (not b)
    decide true f = absurd (f refl)
    decide false f = refl

    ends : c ≡ 0x2A → d ≡ 0x2F → ⊥
    ends e f =
        let k : c ∷ d ∷ (s ++ 0x2A ∷ 0x2F ∷ []) ≡ 0x2A ∷ 0x2F ∷ (s ++ 0x2A ∷ 0x2F ∷ []) = cc in
        let g : s ++ 0x2A ∷ 0x2F ∷ [] ≡ [] = n [] (s ++ 0x2A ∷ 0x2F ∷ []) k in
        omega (arith, ap length g, length-append s (0x2A ∷ 0x2F ∷ []))

up_to : (s r : List ℕ) → HasNoEndInside s → UpToBlockEnd (s ++ 0x2A ∷ 0x2F ∷ r) r
up_to [] r n = here
up_to (c ∷ s) r n = later (no_front_end c s r n) (up_to s r (λ a b e. n (c ∷ a) b (ap (λ x. c ∷ x) e)))

pub block_of : (s r : List ℕ) → HasNoEndInside s → BlockComment ((0x2F ∷ 0x2A ∷ s) ++ 0x2A ∷ 0x2F ∷ r) r
block_of s r n = block (up_to s r n)
