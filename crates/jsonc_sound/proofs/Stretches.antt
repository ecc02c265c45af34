-- How the change of a stretch of leaves meets the first node of a row, and the trivia in front of it.
use Rattle.std.proofs.Common.{ℕ, ◌≡◌, ◌≢◌, sym, subst, refl, Bool, true, false, not, List, [], ◌∷◌, IsTrue, inl, inr, ◌⊎◌}
use Rattle.jsonc_text.specs.Options.{Options}
use Rattle.jsonc_text.proofs.Basics.{clash}
use Rattle.jsonc_tree.specs.Content.{Content}
use Rattle.jsonc_tree.specs.OrderedTree.{OrderedTree, none, more, followed_by}
use Rattle.jsonc_layout.specs.nodes.Kinds.{is_trivia}
use Rattle.jsonc_sound.specs.Shape as shape
use Rattle.jsonc_sound.specs.Shape.{Trivia, token_then}
use Rattle.jsonc_sound.specs.TreeChanges.{IsElement}
use Rattle.jsonc_sound.specs.TriviaChanges.{AreTrivia, AreTriviaOf, leaves_then, LeavesChanged, given_way, come, later, deeper}

-- a stretch may stand at the end of its row, if there is one or where it may come
abbrev pub Fits : List Content → Bool → OrderedTree → Type 0
Fits was at_end none = was ≡ [] → at_end ≡ true
Fits was at_end (more content below after) = Unit {0}

-- the rows differ in a stretch that may be their front, or in a row below
pub data Open (was now : List Content) (at_end : Bool) : OrderedTree → OrderedTree → Type 0 where
  front : (back : OrderedTree) → Fits was at_end back → Open was now at_end (leaves_then was back) (leaves_then now back)
  over : {content : Content} {below x y : OrderedTree} → Open was now at_end x y → Open was now at_end (more content below x) (more content below y)
  under : {content : Content} {x y after : OrderedTree} → LeavesChanged was now x y → Open was now at_end (more content x after) (more content y after)

-- they begin with the same node, but for what is below it
pub data Behind (was now : List Content) (at_end : Bool) : OrderedTree → OrderedTree → Type 0 where
  later_on : {content : Content} {below x y : OrderedTree} → Open was now at_end x y → Behind was now at_end (more content below x) (more content below y)
  below_it : {content : Content} {x y after : OrderedTree} → LeavesChanged was now x y → Behind was now at_end (more content x after) (more content y after)

-- nothing stands behind the last node
pub none_behind : {was now : List Content} {at_end : Bool} {new : OrderedTree} → Behind was now at_end none new → ⊥
none_behind e = elim e [ ]

-- the stretch is the front of both rows
pub record AtFront (was now : List Content) (at_end : Bool) (row new : OrderedTree) : Type 0 where
  pub back : OrderedTree
  pub fits : Fits was at_end back
  pub old_is : row ≡ leaves_then was back
  pub new_is : new ≡ leaves_then now back

pub at_front_or_behind : {was now : List Content} {at_end : Bool} {row new : OrderedTree} → Open was now at_end row new → AtFront was now at_end row new ⊎ Behind was now at_end row new
at_front_or_behind (front b f) = inl (record { back = b; fits = f; old_is = refl; new_is = refl })
at_front_or_behind (over h) = inr (later_on h)
at_front_or_behind (under h) = inr (below_it h)

none_fits : (was : List Content) (back : OrderedTree) → Fits was false back → none ≡ leaves_then was back → ⊥
none_fits [] none f e = let wrong : false ≡ true = f refl in cc
none_fits [] (more content below after) f e = cc
none_fits (c ∷ cs) back f e = cc

pub none_open : {was now : List Content} {new : OrderedTree} → Open was now false none new → ⊥
none_open {was} h = elim (at_front_or_behind h) [ inl f ↦ none_fits was f.back f.fits f.old_is | inr b ↦ none_behind b ]

given_fits : {was : List Content} (at_end : Bool) (back : OrderedTree) → was ≢ [] → Fits was at_end back
given_fits at_end none ne = λ e. absurd (ne e)
given_fits at_end (more content below after) ne = tt

come_open : {was now : List Content} (at_end : Bool) (last : Content) (under_it back : OrderedTree) → was ≡ [] → Open was now at_end (more last under_it back) (leaves_then now (more last under_it back))
come_open {was} {now} at_end last under_it back e = subst (λ cs. Open was now at_end (leaves_then cs (more last under_it back)) (leaves_then now (more last under_it back))) e (front (more last under_it back) tt)

pub leaves_open : {was now : List Content} {row new : OrderedTree} (at_end : Bool) → LeavesChanged was now row new → Open was now at_end row new
leaves_open at_end (given_way back ne) = front back (given_fits at_end back ne)
leaves_open at_end (come last under_it back e) = over (come_open at_end last under_it back e)
leaves_open at_end (later h) = over (leaves_open at_end h)
leaves_open at_end (deeper h) = under h

-- nothing is below a leaf
pub none_changed : {was now : List Content} {new : OrderedTree} → LeavesChanged was now none new → ⊥
none_changed h = none_open (leaves_open false h)

pub open_after : {was now : List Content} {at_end : Bool} (row back : OrderedTree) → Fits was at_end back → Open was now at_end (followed_by row (leaves_then was back)) (followed_by row (leaves_then now back))
open_after none back f = front back f
open_after (more content below after) back f = over (open_after after back f)

pub any_fits : (was : List Content) (back : OrderedTree) → Fits was true back
any_fits was none = λ e. refl
any_fits was (more content below after) = tt

-- the row begins with no trivia
abbrev pub Solid : OrderedTree → Type 0
Solid none = Unit {0}
Solid (more content below after) = IsTrue (not (is_trivia content))

pub solid_element : (content : Content) → IsElement content → IsTrue (not (is_trivia content))
solid_element (Content.whitespace s) h = h
solid_element (Content.newline k) h = h
solid_element (Content.comment s) h = h
solid_element content h = refl

no_front : (was : List Content) (back : OrderedTree) → AreTrivia was → was ≢ [] → Solid (leaves_then was back) → ⊥
no_front [] back h ne s = ne refl
no_front (c ∷ cs) back h ne s = clash (is_trivia c) s h.0

-- so no trivia leaves from its front
pub behind_solid : {was now : List Content} {row new : OrderedTree} → AreTrivia was → Solid row → LeavesChanged was now row new → Behind was now false row new
behind_solid {was} h s (given_way back ne) = absurd (no_front was back h ne s)
behind_solid h s (come last under_it back e) = later_on (come_open false last under_it back e)
behind_solid h s (later k) = later_on (leaves_open false k)
behind_solid h s (deeper k) = below_it k

-- trivia that stands in front of trivia
pub put_front : {o : Options} {t r : OrderedTree} (cs : List Content) → AreTriviaOf o cs → Trivia o t r → Trivia o (leaves_then cs t) r
put_front [] h g = g
put_front (c ∷ cs) h g = shape.trivia h.0 (put_front cs h.1 g)

-- and trivia that is taken from there
pub taken_front : {o : Options} {t r back : OrderedTree} (cs : List Content) → AreTrivia cs → Trivia o t r → Solid r → t ≡ leaves_then cs back → Trivia o back r
taken_front {o} {r = r} [] h g s e = subst (λ x. Trivia o x r) e g
taken_front (c ∷ cs) h shape.nothing s e = absurd (clash (is_trivia c) (subst Solid e s) h.0)
taken_front {back = back} (c ∷ cs) h (shape.trivia {t = t} k g) s e = let rest : t ≡ leaves_then cs back = cc in taken_front cs h.1 g s rest

-- What is said of each pair of rows that differ, by the old and the new one.
pub record Carried (N : OrderedTree → OrderedTree → Type 0) : Type 1 where
  pub over_it : {content : Content} {below x y : OrderedTree} → N (more content below x) (more content below y) → N x y
  pub under_it : {content : Content} {x y after : OrderedTree} → N (more content x after) (more content y after) → N x y

-- the stretch was in front of r, or it stands further on
abbrev pub Passed : List Content → List Content → Bool → (OrderedTree → OrderedTree → Type 0) → (OrderedTree → OrderedTree → Type 0) → OrderedTree → OrderedTree → Type 0
Passed was now at_end N R r new = R new r ⊎ ((s : OrderedTree) × R new s × Behind was now at_end r s × N r s)

-- behind a leaf
pub leaf_behind : {was now : List Content} {at_end : Bool} {content : Content} {after new : OrderedTree} → Behind was now at_end (more content none after) new → (rest : OrderedTree) × (new ≡ more content none rest) × Open was now at_end after rest
leaf_behind (later_on {y = y} h) = (y, refl, h)
leaf_behind (below_it h) = absurd (none_changed h)

-- at the last node of a row
pub only_node : {was now : List Content} {content : Content} {below new : OrderedTree} → Behind was now false (more content below none) new → (rest : OrderedTree) × (new ≡ more content rest none) × LeavesChanged was now below rest
only_node (later_on h) = absurd (none_open h)
only_node (below_it {y = y} h) = (y, refl, h)

module _ (o : Options) (was now : List Content) (old : AreTrivia was) (allowed : AreTriviaOf o now) (N : OrderedTree → OrderedTree → Type 0) (carried : Carried N) where
  front_changed : {at_end : Bool} {t r new : OrderedTree} → Trivia o t r → Solid r → AtFront was now at_end t new → Trivia o new r
  front_changed {r = r} g s f = subst (λ x. Trivia o x r) (sym f.new_is) (put_front now allowed (taken_front was old g s f.old_is))

  pub trivia_passed : {at_end : Bool} {t r new : OrderedTree} → Trivia o t r → Solid r → Open was now at_end t new → N t new → Passed was now at_end N (Trivia o) r new
  trivia_passed {new = new} shape.nothing s h n = elim (at_front_or_behind h) [ inl f ↦ inl (front_changed shape.nothing s f) | inr b ↦ inr (new, shape.nothing, b, n) ]
  trivia_passed {r = r} {new = new} (shape.trivia {content = content} {t = t} k g) s h n =
      elim (at_front_or_behind h) [
        | inl f ↦ inl (front_changed (shape.trivia k g) s f)
        | inr b ↦
            let rest = leaf_behind b in
            elim (trivia_passed g s rest.2 (carried.over_it (subst (N (more content none t)) rest.1 n))) [
              | inl i ↦ inl (subst (λ x. Trivia o x r) (sym rest.1) (shape.trivia k i))
              | inr m ↦ inr (m.0, subst (λ x. Trivia o x m.0) (sym rest.1) (shape.trivia k m.1), m.2, m.3)
            ]
      ]

  -- trivia before a mark
  pub marked_passed : {at_end : Bool} {c : ℕ} {t u new : OrderedTree} → Trivia o t (token_then c u) → Open was now at_end t new → N t new → Trivia o new (token_then c u) ⊎ ((s : OrderedTree) × Trivia o new (token_then c s) × Open was now at_end u s × N u s)
  marked_passed {c = c} {u = u} {new = new} g h n =
      elim (trivia_passed g refl h n) [
        | inl i ↦ inl i
        | inr m ↦ (let rest = leaf_behind m.2 in inr (rest.0, subst (Trivia o new) rest.1 m.1, rest.2, carried.over_it (subst (N (token_then c u)) rest.1 m.3)))
      ]
