-- Spaces that come before nodes.
use Rattle.std.specs.Prelude.{◌≡◌, ◌<◌, ℕ, List, [], ◌∷◌, ◌++◌, length, Option, Some, None}
use Rattle.std.specs.List.{All}
use Rattle.jsonc_tree.specs.Building.{Keeps}
use Rattle.jsonc_tree.specs.Changes.{Splices}
use Rattle.jsonc_tree.specs.Content.{Content, whitespace}
use Rattle.jsonc_tree.specs.Tree.{Node, content_at, parent_at, place_at, IsTree}
use Rattle.jsonc_edit.specs.declared.put.Space.{Space}
use Rattle.jsonc_edit.specs.declared.put.Spaces.{Spaces}

-- a leaf of one space
abbrev pub a_space : Content
a_space = whitespace (0x20 ∷ [])

-- a leaf of one space that is detached
pub record IsFreeSpace (ns : List Node) (leaf : ℕ) : Type 0 where
  pub in_tree : leaf < length ns
  pub is : content_at ns leaf ≡ a_space
  pub alone : parent_at ns leaf ≡ None

-- it stands directly before this node now
pub record StandsBefore (old new : List Node) (n leaf : ℕ) : Type 0 where
  pub container : ℕ
  pub parent : parent_at old n ≡ Some container
  pub was : IsFreeSpace old leaf
  pub put : Splices old new container (place_at old n) (place_at old n) (leaf ∷ [])
  pub tree : IsTree new

-- before each of these nodes, in turn, a space has come
abbrev pub AreSpaced : List Node → List ℕ → List Node → Type 0
AreSpaced old [] new = new ≡ old
AreSpaced old (n ∷ rest) new = (now : List Node) × (leaf : ℕ) × StandsBefore old now n leaf × AreSpaced now rest new

-- nothing that was there has changed; there may be new nodes
pub record Extends (old new : List Node) : Type 0 where
  pub keeps : Keeps (length old) old new
  pub tree : IsTree new

-- the nodes before which spaces are to stand
abbrev pub node_of : Option Space → List ℕ
node_of None = []
node_of (Some s) = s.node ∷ []

abbrev pub nodes_of : Spaces → List ℕ
nodes_of spaces = node_of spaces.before ++ node_of spaces.behind

-- the space, if there is one, is detached
abbrev pub IsFree : List Node → Option Space → Type 0
IsFree ns None = Unit {0}
IsFree ns (Some s) = IsFreeSpace ns s.leaf

-- the space, if there is one, stands before its node now
abbrev pub IsPut : List Node → Option Space → List Node → Type 0
IsPut old None new = new ≡ old
IsPut old (Some s) new = StandsBefore old new s.node s.leaf

-- no leaf is there twice: the later one was made later
abbrev pub AreTwo : Option Space → Option Space → Type 0
AreTwo None t = Unit {0}
AreTwo (Some s) None = Unit {0}
AreTwo (Some s) (Some t) = s.leaf < t.leaf

-- spaces are at hand for these nodes, detached
pub record AreAtHand (ns : List Node) (due : List ℕ) (spaces : Spaces) : Type 0 where
  pub are : nodes_of spaces ≡ due
  pub before : IsFree ns spaces.before
  pub behind : IsFree ns spaces.behind
  pub two : AreTwo spaces.before spaces.behind

-- each of these nodes is somebody's child
abbrev pub AreChildren : List Node → List ℕ → Type 0
AreChildren ns xs = All (λ n. (c : ℕ) × (parent_at ns n ≡ Some c)) xs

-- a space is due before one of these
abbrev pub IfDue : Option ℕ → Type 0
IfDue None = ⊥
IfDue (Some n) = Unit {0}

abbrev pub AreDue : Option ℕ → Option ℕ → Type 0
AreDue None o = IfDue o
AreDue (Some n) o = Unit {0}
