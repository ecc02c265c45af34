-- What is known of containers while it is found out which are on one line.
use Rattle.std.specs.Prelude.{◌≡◌, ◌<◌, ◌+◌, Bool, true, false, not, ◌||◌, List, [], ◌∷◌, ◌++◌, take, drop, length, reverse, option_to_list, if◌then◌else◌}
use Rattle.jsonc_format.specs.declared.class.Class.{Class}
use Rattle.jsonc_format.specs.declared.plan.Pending.{Pending}
use Rattle.jsonc_format.specs.declared.plan.Plan.{Plan}
use Rattle.jsonc_format.specs.Classes.{opens_by, closes_by}

-- a line ends in the innermost open container, or none does
abbrev pub marked : Bool → List Pending → List Pending
marked broken [] = []
marked broken (o ∷ os) = record { number = o.number; broken = o.broken || broken } ∷ os

-- of two open containers the inner one has the greater number, and each number is of a container that is not known to be on one line
abbrev pub AreOrdered : List Bool → List Pending → Type 0
AreOrdered flat [] = Unit {0}
AreOrdered flat (o ∷ os) = (o.number < length flat) × (drop o.number flat ≡ false ∷ drop (o.number + 1) flat) × AreOrdered (take o.number flat) os

-- where the last piece opened a container, no line has ended in it
abbrev pub IsFresh : Bool → List Pending → Type 0
IsFresh false os = Unit {0}
IsFresh true [] = ⊥
IsFresh true (o ∷ os) = o.broken ≡ false

-- what is known once the innermost container is closed, and of the others
abbrev pub closed_flat : Bool → List Bool → List Pending → List Bool
closed_flat bare flat [] = flat
closed_flat bare flat (o ∷ os) = take o.number flat ++ (bare || not o.broken) ∷ drop (o.number + 1) flat

abbrev pub closed_open : List Pending → List Pending
closed_open [] = []
closed_open (o ∷ os) = marked o.broken os

module _ {A : Type 0} where
  -- the open containers, the innermost first
  abbrev pub pending : Plan A → List Pending
  pending p = option_to_list p.inner ++ reverse p.outer.items

  pub record IsReady (p : Plan A) : Type 0 where
    pub ordered : AreOrdered p.flat.items (pending p)

  pub record IsClosed (old new : Plan A) : Type 0 where
    pub flat : new.flat.items ≡ closed_flat old.bare old.flat.items (pending old)
    pub open_ones : pending new ≡ closed_open (pending old)
    pub bare : new.bare ≡ false

  -- a piece of this class is passed, up to the end of which no line has ended, or one has
  pub record Passes (class : Class) (in_line : Bool) (old new : Plan A) : Type 0 where
    pub flat : new.flat.items ≡ (if opens_by class then old.flat.items ++ false ∷ [] else (if closes_by class then closed_flat old.bare old.flat.items (marked (not in_line) (pending old)) else old.flat.items))
    pub open_ones : pending new ≡ (if opens_by class then record { number = length old.flat.items; broken = false } ∷ marked (not in_line) (pending old)
        else (if closes_by class then closed_open (marked (not in_line) (pending old)) else marked (not in_line) (pending old)))
    pub bare : new.bare ≡ opens_by class
