-- A run of characters, a comment and a gap end at one place.
use Rattle.std.proofs.Common.{ℕ, ◌≡◌, Bool, true, not, ◌||◌, ◌==◌, refl, List, ◌∷◌, IsTrue, arith, inl, inr}
use Rattle.jsonc_text.specs.Options.{Options}
use Rattle.jsonc_text.specs.Text.{next, no, starts, Many, stop, step, AllOf, all_of}
use Rattle.jsonc_text.specs.Gaps.{is_blank, UpToBlockEnd, here, later, LineComment, line, BlockComment, block, IsComment, Gap, none, blank, comment}
use Rattle.jsonc_text.proofs.Basics.{clash}

pub many_unique : {p : ℕ → Bool} {t r s : List ℕ} → Many p t r → Many p t s → IsTrue (no p (next r)) → IsTrue (no p (next s)) → r ≡ s
many_unique stop stop a b = refl
many_unique {p} stop (step {c} h g) a b = absurd (clash (p c) a h)
many_unique {p} (step {c} h g) stop a b = absurd (clash (p c) b h)
many_unique (step h g) (step k l) a b = many_unique g l a b

pub all_unique : {p : ℕ → Bool} {t r s : List ℕ} → AllOf p t r → AllOf p t s → r ≡ s
all_unique (all_of h g a) (all_of k l b) = many_unique g l a b

pub all_starts : {p : ℕ → Bool} {t r : List ℕ} → AllOf p t r → IsTrue (starts p (next t))
all_starts (all_of h g a) = h

pub block_end_unique : {t r s : List ℕ} → UpToBlockEnd t r → UpToBlockEnd t s → r ≡ s
block_end_unique here here = refl
block_end_unique here (later h g) = absurd (clash true h refl)
block_end_unique (later h g) here = absurd (clash true h refl)
block_end_unique (later h g) (later k l) = block_end_unique g l

pub line_no_block : {t r s : List ℕ} → LineComment t r → BlockComment t s → ⊥
line_no_block (line g a) k = elim k [ ]

pub comment_unique : {t r s : List ℕ} → IsComment t r → IsComment t s → r ≡ s
comment_unique (inl (line g a)) (inl (line h b)) = many_unique g h a b
comment_unique (inr (block g)) (inr (block h)) = block_end_unique g h
comment_unique (inl l) (inr k) = absurd (line_no_block l k)
comment_unique (inr k) (inl l) = absurd (line_no_block l k)

-- begins a blank or a comment
abbrev pub begins_gap : ℕ → Bool
begins_gap c = is_blank c || c == 0x2F

pub comment_begins : {t u : List ℕ} → IsComment t u → IsTrue (starts (λ c. c == 0x2F) (next t))
comment_begins (inl (line g a)) = refl
comment_begins (inr (block g)) = refl

comment_no_start : {t u : List ℕ} → IsComment t u → IsTrue (no begins_gap (next t)) → ⊥
comment_no_start (inl (line g a)) e = cc
comment_no_start (inr (block g)) e = cc

blank_starts : (c : ℕ) → IsTrue (is_blank c) → IsTrue (not (begins_gap c)) → ⊥
blank_starts c b e = grind arith

pub comment_no_blank : {c : ℕ} {t u : List ℕ} → IsComment (c ∷ t) u → IsTrue (is_blank c) → ⊥
comment_no_blank (inl (line g a)) e = cc
comment_no_blank (inr (block g)) e = cc

pub gap_unique : {o : Options} {t r s : List ℕ} → Gap o t r → Gap o t s → IsTrue (no begins_gap (next r)) → IsTrue (no begins_gap (next s)) → r ≡ s
gap_unique none none a b = refl
gap_unique none (blank {c} h g) a b = absurd (blank_starts c h a)
gap_unique none (comment h k g) a b = absurd (comment_no_start k a)
gap_unique (blank {c} h g) none a b = absurd (blank_starts c h b)
gap_unique (comment h k g) none a b = absurd (comment_no_start k b)
gap_unique (blank h g) (blank i l) a b = gap_unique g l a b
gap_unique (blank h g) (comment i k l) a b = absurd (comment_no_blank k h)
gap_unique (comment i k l) (blank h g) a b = absurd (comment_no_blank k h)
gap_unique {o} {s = s} (comment i k g) (comment j m l) a b = gap_unique g (rw (comment_unique k m) l) a b
