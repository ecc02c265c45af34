-- What a receiver has made of a text, where that is the tree of a document.
use Rattle.std.specs.Prelude.{ℕ, ◌+◌, ◌-◌, ◌≡◌, List, ◌++◌, length, true, Option, option_map}
use Rattle.std.specs.Rc.{rc_str_bytes}
use Rattle.jsonc_text.specs.declared.common.Range.{Range}
use Rattle.jsonc_text.specs.Options.{Options}
use Rattle.jsonc_text.specs.OptionsOf.{parse_options}
use Rattle.jsonc_text.specs.Text.{Spans}
use Rattle.jsonc_tree.specs.Changes.{Pushes}
use Rattle.jsonc_tree.specs.Content.{Content, array, object, property, token}
use Rattle.jsonc_tree.specs.OrderedTree.{OrderedTree, none, more, followed_by}
use Rattle.jsonc_tree.specs.Growing.{IsGrowing, container_of, nodes_so_far}
use Rattle.jsonc_tree.specs.Tree.{Node}
use Rattle.jsonc_walk.specs.Located.{Located, LocatedName, range_at, value_at, IsLocatedDocument, LocatedMember, items_of, members_of}
use Rattle.jsonc_walk.specs.Handed.{Source}
use Rattle.jsonc_walk.specs.Reached.{FitsIn}
use Rattle.jsonc_build.specs.declared.maker.DocumentMaker.{DocumentMaker}
use Rattle.jsonc_build.specs.Growth.{Grows}
use Rattle.jsonc_build.specs.Laid.{FillsBetween, ItemsLaid, Laid, MembersLaid, NameLaid, RootLaid}

-- a container has got the leaves of the text between two places, and behind them a new node
pub record Puts (old new : List Node) (c : ℕ) (text : List ℕ) (i j : ℕ) (content : Content) (n : ℕ) : Type 0 where
  pub filled : List Node
  pub fill : OrderedTree
  pub grows : Grows old filled c fill
  pub fills : FillsBetween text i j fill
  pub pushes : Pushes filled new c content
  pub number : n ≡ length filled

-- leaves that go on from the place j go on from the place i, where the row stands before them
abbrev pub LeadsOn : List ℕ → ℕ → ℕ → OrderedTree → Type 0
LeadsOn text i j row = (k : ℕ) (next : OrderedTree) → FillsBetween text j k next → FillsBetween text i k (followed_by row next)

-- the row is these elements, and the leaves before each: with those that follow in another one it is all of them
abbrev pub HasElements : List ℕ → ℕ → List Located → ℕ → OrderedTree → Type 0
HasElements bytes i xs j row = (ys : List Located) (k : ℕ) (rest : OrderedTree) → ItemsLaid bytes j (items_of ys) k rest → ItemsLaid bytes i (items_of (xs ++ ys)) k (followed_by row rest)

abbrev pub HasProperties : List ℕ → ℕ → List LocatedMember → ℕ → OrderedTree → Type 0
HasProperties bytes i ms j row = (ns : List LocatedMember) (k : ℕ) (rest : OrderedTree) → MembersLaid bytes j (members_of ns) k rest → MembersLaid bytes i (members_of (ms ++ ns)) k (followed_by row rest)

module _ {A : Type 0} where
  abbrev pub source_in : DocumentMaker A → Source
  source_in m = record { bytes = m.text.now; options = parse_options m.options }

  abbrev pub nodes_in : DocumentMaker A → List Node
  nodes_in m = nodes_so_far m.tree

  -- what the next node goes into
  abbrev pub container_in : DocumentMaker A → ℕ
  container_in m = container_of m.tree

  -- the tree has the text up to the place
  pub record IsAt (m : DocumentMaker A) (i : ℕ) : Type 0 where
    pub place : m.place ≡ i
    pub whole : rc_str_bytes m.whole ≡ m.text.now
    pub growing : IsGrowing m.tree

  -- from the one state to the other the text stays, and in both the tree can grow
  pub record Stays (old new : DocumentMaker A) : Type 0 where
    pub source : source_in new ≡ source_in old
    pub whole : rc_str_bytes new.whole ≡ new.text.now
    pub before : IsGrowing old.tree
    pub growing : IsGrowing new.tree

  -- the leaves of a gap have been added, and the mark before it
  pub record Passes (old new : DocumentMaker A) : Type 0 where
    pub stays : Stays old new
    pub same : container_in new ≡ container_in old
    pub fill : OrderedTree
    pub grows : Grows (nodes_in old) (nodes_in new) (container_in old) fill
    pub fills : FillsBetween old.text.now old.place new.place fill

  -- a value that is a leaf has been added, and the leaves before it
  pub record PutsLeaf (old new : DocumentMaker A) (r : Range) (content : Content) : Type 0 where
    pub stays : Stays old new
    pub same : container_in new ≡ container_in old
    pub place : new.place ≡ r.end
    pub fill : OrderedTree
    pub grows : Grows (nodes_in old) (nodes_in new) (container_in old) (followed_by fill (more content none none))
    pub fills : FillsBetween old.text.now old.place r.start fill

  -- the container at hand has got the leaves up to the place, and behind them a new node
  pub record Opens (old new : DocumentMaker A) (start : ℕ) (content : Content) : Type 0 where
    pub stays : Stays old new
    pub filled : List Node
    pub pushed : List Node
    pub fill : OrderedTree
    pub grows : Grows (nodes_in old) filled (container_in old) fill
    pub fills : FillsBetween old.text.now old.place start fill
    pub pushes : Pushes filled pushed (container_in old) content

  -- a value has been added, and the leaves before it
  pub record Adds (old new : DocumentMaker A) (x : Located) : Type 0 where
    pub stays : Stays old new
    pub same : container_in new ≡ container_in old
    pub place : new.place ≡ (range_at x).end
    pub fill : OrderedTree
    pub content : Content
    pub below : OrderedTree
    pub grows : Grows (nodes_in old) (nodes_in new) (container_in old) (followed_by fill (more content below none))
    pub fills : FillsBetween old.text.now old.place (range_at x).start fill
    pub laid : Laid old.text.now x content below

  -- a property is open, and has its name and the leaves behind that; the container around it is this one
  pub record Names (old new : DocumentMaker A) (around : ℕ) (n : LocatedName) : Type 0 where
    pub opens : Opens old new n.range.start property
    pub is : around ≡ container_in old
    pub same : container_in new ≡ length opens.filled
    pub name : Content
    pub behind : OrderedTree
    pub has : Grows opens.pushed (nodes_in new) (container_in new) (more name none behind)
    pub leads : LeadsOn old.text.now n.range.end new.place behind
    pub spans : Spans old.text.now n.range.start n.range.end
    pub laid : NameLaid old.text.now n.range name

  -- an array or an object is open that began at the place, and behind its bracket has the row
  pub record Holds (old new : DocumentMaker A) (around start : ℕ) (content : Content) (bracket : ℕ) (row : OrderedTree) : Type 0 where
    pub opens : Opens old new start content
    pub is : around ≡ container_in old
    pub same : container_in new ≡ length opens.filled
    pub opened : List Node
    pub bracketed : Pushes opens.pushed opened (container_in new) (token bracket)
    pub has : Grows opened (nodes_in new) (container_in new) row

  -- the leaves up to its closing bracket have been added, the bracket behind them, and the container around it is at hand again
  pub record Closes (old new : DocumentMaker A) (around : ℕ) (r : Range) (bracket : ℕ) : Type 0 where
    pub stays : Stays old new
    pub same : container_in new ≡ around
    pub place : new.place ≡ r.end
    pub filled : List Node
    pub fill : OrderedTree
    pub grows : Grows (nodes_in old) filled (container_in old) fill
    pub fills : FillsBetween old.text.now old.place (r.end - 1) fill
    pub pushes : Pushes filled (nodes_in new) (container_in old) (token bracket)

  -- an array is open that has these elements, or an object that has these properties
  abbrev pub HoldsElements : DocumentMaker A → DocumentMaker A → ℕ → ℕ → List Located → Type 0
  HoldsElements old new around start xs = (row : OrderedTree) × Holds old new around start array 0x5B row × HasElements old.text.now (start + 1) xs new.place row

  abbrev pub HoldsProperties : DocumentMaker A → DocumentMaker A → ℕ → ℕ → List LocatedMember → Type 0
  HoldsProperties old new around start ms = (row : OrderedTree) × Holds old new around start object 0x7B row × HasProperties old.text.now (start + 1) ms new.place row

  -- all is made of the text
  pub record Ends (o : Options) (old new : DocumentMaker A) : Type 0 where
    pub value : Option Located
    pub located : IsLocatedDocument o old.text.now value
    pub fits : FitsIn true (option_map value_at value)
    pub row : OrderedTree
    pub grows : Grows (nodes_in old) (nodes_in new) (container_in old) row
    pub laid : RootLaid old.text.now value row
