-- Leaves one after another.
use Rattle.std.proofs.Common.{ℕ, ◌≡◌, sym, ap, subst, refl, true, List, [], ◌∷◌, ◌++◌, Option, Some, None, if◌then◌else◌}
use Rattle.jsonc_text.specs.Options.{Options}
use Rattle.jsonc_text.specs.Text.{starts}
use Rattle.jsonc_tree.specs.Content.{Content}
use Rattle.jsonc_sound.specs.ChangeLaws.{DiffersIn}
use Rattle.jsonc_sound.specs.Adjacent.{EndsBefore, first_char, or_else, follower, LeavesEnd, last_printed, MayEndBefore, LastEnds}
use Rattle.jsonc_sound.proofs.Ends.{unprinted_ends}

pub follower_append : (first second : List Content) (n : Option ℕ) → follower (first ++ second) n ≡ follower first (follower second n)
follower_append [] second n = refl
follower_append (content ∷ rest) second n = ap (or_else (first_char content)) (follower_append rest second n)

pub joined_leaves : (o : Options) (first second : List Content) (n : Option ℕ) → LeavesEnd o first (follower second n) → LeavesEnd o second n → LeavesEnd o (first ++ second) n
joined_leaves o [] second n h k = k
joined_leaves o (content ∷ rest) second n h k = (subst (EndsBefore o content) (sym (follower_append rest second n)) h.0, joined_leaves o rest second n h.1 k)

pub parted_leaves : (o : Options) (first second : List Content) (n : Option ℕ) → LeavesEnd o (first ++ second) n → LeavesEnd o first (follower second n) × LeavesEnd o second n
parted_leaves o [] second n h = (tt, h)
parted_leaves o (content ∷ rest) second n h = let k = parted_leaves o rest second n h.1 in ((subst (EndsBefore o content) (follower_append rest second n) h.0, k.0), k.1)

-- leaves of which none prints something, and others
pub nothing_printed : (leaves : List Content) → last_printed leaves ≡ None → (n : Option ℕ) → follower leaves n ≡ n
nothing_printed [] e n = refl
nothing_printed (content ∷ rest) e n = by (λ p. nothing_printed rest p n) (last_printed rest) refl (first_char content) refl e
  where
    by : (last_printed rest ≡ None → follower rest n ≡ n) → (x : Option Content) → last_printed rest ≡ x → (c : Option ℕ) → first_char content ≡ c → or_else x (if starts (λ d. true) c then Some content else None) ≡ None → or_else c (follower rest n) ≡ n
    by ih (Some d) p c q f = cc
    by ih None p (Some c) q f = cc
    by ih None p None q f = ih p

something_printed : (leaves : List Content) (content : Content) → last_printed leaves ≡ Some content → (n m : Option ℕ) → follower leaves n ≡ follower leaves m
something_printed [] content e n m = cc
something_printed (first ∷ rest) content e n m = by (λ d p. something_printed rest d p n m) (last_printed rest) refl (first_char first) refl e
  where
    by : ((d : Content) → last_printed rest ≡ Some d → follower rest n ≡ follower rest m) → (x : Option Content) → last_printed rest ≡ x → (c : Option ℕ) → first_char first ≡ c → or_else x (if starts (λ d. true) c then Some first else None) ≡ Some content → or_else c (follower rest n) ≡ or_else c (follower rest m)
    by ih (Some d) p c q f = ap (or_else c) (ih d p)
    by ih None p (Some c) q f = refl
    by ih None p None q f = cc

pub last_serves : (o : Options) (leaves : List Content) (n m : Option ℕ) → LeavesEnd o leaves n → LastEnds o leaves m → LeavesEnd o leaves m
last_serves o [] n m h k = tt
last_serves o (content ∷ rest) n m h k = by (last_serves o rest n m h.1) (last_printed rest) refl (first_char content) refl k
  where
    by : (LastEnds o rest m → LeavesEnd o rest m) → (x : Option Content) → last_printed rest ≡ x → (c : Option ℕ) → first_char content ≡ c → MayEndBefore o (or_else x (if starts (λ d. true) c then Some content else None)) m
        → EndsBefore o content (follower rest m) × LeavesEnd o rest m
    by ih (Some d) p c q f = (subst (EndsBefore o content) (something_printed rest d p n m) h.0, ih (subst (λ x. MayEndBefore o x m) (sym p) f))
    by ih None p (Some c) q f = (subst (EndsBefore o content) (sym (nothing_printed rest p m)) f, ih (subst (λ x. MayEndBefore o x m) (sym p) tt))
    by ih None p None q f = (unprinted_ends o content (follower rest n) (follower rest m) q h.0, ih (subst (λ x. MayEndBefore o x m) (sym p) tt))

-- a stretch of leaves is replaced by another
pub seams_serve : (o : Options) (was now x y : List Content) → LeavesEnd o x None → (d : DiffersIn was now x y) → LastEnds o d.front (follower (now ++ d.back) None) → LeavesEnd o now (follower d.back None) → LeavesEnd o y None
seams_serve o was now x y h d l k =
    let whole = parted_leaves o d.front (was ++ d.back) None (subst (λ s. LeavesEnd o s None) d.before h) in
    let back = (parted_leaves o was d.back None whole.1).1 in
    let front = last_serves o d.front (follower (was ++ d.back) None) (follower (now ++ d.back) None) whole.0 l in
    subst (λ s. LeavesEnd o s None) (sym d.after) (joined_leaves o d.front (now ++ d.back) None front (joined_leaves o now d.back None k back))
