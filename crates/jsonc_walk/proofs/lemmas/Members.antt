-- The properties of an object so far, and what is still to come.
use Rattle.std.proofs.Common.{ℕ, Bool, true, false, suc, max, ◌+◌, ◌≡◌, ◌∙◌, sym, ap, subst, refl, arith, List, [], ◌∷◌, ◌++◌}
use Rattle.jsonc_text.specs.Options.{Options}
use Rattle.jsonc_text.specs.Gaps.{Gap}
use Rattle.jsonc_text.specs.Grammar.{Separates, Closes}
use Rattle.jsonc_text.specs.Plain.{object, around, depth, members_around, members_depth}
use Rattle.jsonc_walk.specs.Located.{LocatedMembers, no_members_at, member_at, range_at, value_at, members_at, Between, IsNamed, IsLocated, AreMembers, AreFurtherMembers, LocatedMember, members_of}
use Rattle.jsonc_walk.specs.Reached.{size, per_property}

-- the property m before others
abbrev pub before : LocatedMember → LocatedMembers → LocatedMembers
before m ms = member_at m.range m.name m.value ms

-- the properties so far, before those that follow
abbrev pub prepend : List LocatedMember → LocatedMembers → LocatedMembers
prepend [] ys = ys
prepend (m ∷ ms) ys = before m (prepend ms ys)

prepend_push : (ms : List LocatedMember) (m : LocatedMember) (ys : LocatedMembers) → prepend (ms ++ m ∷ []) ys ≡ prepend ms (before m ys)
prepend_push [] m ys = refl
prepend_push (z ∷ ms) m ys = ap (before z) (prepend_push ms m ys)

prepend_none : (ms : List LocatedMember) → prepend ms no_members_at ≡ members_of ms
prepend_none [] = refl
prepend_none (m ∷ ms) = ap (before m) (prepend_none ms)

push_around : (ms : List LocatedMember) (m : LocatedMember) → members_around (members_at (members_of (ms ++ m ∷ []))) ≡ max (members_around (members_at (members_of ms))) (suc (suc (around (value_at m.value))))
push_around [] m = omega arith
push_around (z ∷ ms) m = omega (arith, push_around ms m)

push_depth : (ms : List LocatedMember) (m : LocatedMember) → members_depth (members_at (members_of (ms ++ m ∷ []))) ≡ max (members_depth (members_at (members_of ms))) (depth (value_at m.value))
push_depth [] m = omega arith
push_depth (z ∷ ms) m = omega (arith, push_depth ms m)

-- what counts of one property more
pub push_size : (whole : Bool) (ms : List LocatedMember) (m : LocatedMember)
    → size whole (object (members_at (members_of (ms ++ m ∷ [])))) ≡ max (size whole (object (members_at (members_of ms)))) (suc (size whole (value_at m.value) + per_property whole))
push_size true ms m = let most = push_around ms m in omega (arith, most)
push_size false ms m = let most = push_depth ms m in omega (arith, most)

-- a property in its range
pub record IsProperty (o : Options) (bytes : List ℕ) (m : LocatedMember) : Type 0 where
  pub named : IsNamed o bytes m.name m.range (range_at m.value)
  pub value : IsLocated o bytes m.value

module _ (o : Options) (bytes : List ℕ) (i : ℕ) where
  -- a property from the place on, and what follows it, make the whole
  abbrev pub Open : List LocatedMember → ℕ → Type 0
  Open ms at = (m : LocatedMember) (ys : LocatedMembers) (j : ℕ) → m.range.start ≡ at → IsProperty o bytes m → AreFurtherMembers o bytes m.range.end ys j → AreMembers o bytes i (prepend ms (before m ys)) j

  -- the properties are the whole, up to the place
  abbrev pub Whole : List LocatedMember → ℕ → Type 0
  Whole ms j = AreMembers o bytes i (members_of ms) j

pub first_open : (o : Options) (bytes : List ℕ) (i at : ℕ) → Between bytes (Gap o) i at → Open o bytes i [] at
first_open o bytes i at gap m ys j e property more = (subst (λ k. Between bytes (Gap o) i k) (sym e) gap, property.named, property.value, more)

module _ (o : Options) (bytes : List ℕ) (i at k : ℕ) (ms : List LocatedMember) (m : LocatedMember) (held : Open o bytes i ms at) (starts : m.range.start ≡ at) (property : IsProperty o bytes m) (ends : m.range.end ≡ k) where
  pub next_open : (next : ℕ) → Between bytes (Separates o) k next → Open o bytes i (ms ++ m ∷ []) next
  next_open next parts n ys j e further more =
      let here = subst (λ a. Between bytes (Separates o) a n.range.start) (sym ends) (subst (λ b. Between bytes (Separates o) k b) (sym e) parts) in
      subst (λ zs. AreMembers o bytes i zs j) (sym (prepend_push ms m (before n ys))) (held m (before n ys) j starts property (here, further.named, further.value, more))

  pub next_whole : (j : ℕ) → Between bytes (Closes o 0x7D) k j → Whole o bytes i (ms ++ m ∷ []) j
  next_whole j closes =
      let here = subst (λ a. Between bytes (Closes o 0x7D) a j) (sym ends) closes in
      subst (λ zs. AreMembers o bytes i zs j) (sym (prepend_push ms m no_members_at) ∙ prepend_none (ms ++ m ∷ [])) (held m no_members_at j starts property here)
