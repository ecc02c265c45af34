-- Keys of the nodes of a row, which a closure gives that reads something lent, a document.
use Rattle.std.specs.Prelude.{◌≡◌, ℕ, ◌<◌, ◌≤◌, List, length, Option, Some, None}
use Rattle.std.specs.declared.result.Result.{Result}
use Rattle.std.specs.declared.result.Result.TheVariants.{Ok, Err}
use denote.Ref.{Bor}
use denote.Param.Members.{Shared}
use Rattle.jsonc_sort.specs.ordering.Order.{node_in}
use Rattle.jsonc_sort.specs.declared.ordering.keys.KeysError.{KeysError}
use Rattle.jsonc_sort.specs.declared.ordering.keys.KeysError.TheVariants.{OutOfMemory, Refused}

module _ {F D N K E : Type 0} (g : Shared F (Bor D × (N × Unit {0})) (Result K E)) (key : F) (doc : D) where
  -- it may be asked of this document and such nodes
  pub record MayTellKey (Held : N → Type 0) : Type 0 where
    pub at : (d : Bor D) (x : N) → d.now ≡ doc → Held x → g.pre key (d, (x, tt))

  -- asked of the document and a node it has answered this
  abbrev pub Answers : N → Result K E → Type 0
  Answers x r = (d : Bor D) × (d.now ≡ doc) × g.post key (d, (x, tt)) r

  -- the key of a node is one that was answered; where no node stands there is none
  abbrev pub IsKeyOf : Option N → Option K → Type 0
  IsKeyOf None k = k ≡ None
  IsKeyOf (Some x) k = (told : K) × (k ≡ Some told) × Answers x (Ok told)

  pub record AreKeys (nodes : List (Option N)) (keys : List (Option K)) : Type 0 where
    pub count : length keys ≡ length nodes
    pub at : (i : ℕ) → i < length nodes → IsKeyOf (node_in nodes i) (node_in keys i)

  -- the key of the node at a place was refused, and none before it
  pub record IsFirstRefused (nodes : List (Option N)) (e : E) : Type 0 where
    pub place : ℕ
    pub node : N
    pub in_tree : node_in nodes place ≡ Some node
    pub error : Answers node (Err e)
    pub before : (i : ℕ) → i < place → (k : Option K) × IsKeyOf (node_in nodes i) k

  -- allocation failed for the key of a place, which was told, as were all before it
  pub record WantsMemory (nodes : List (Option N)) : Type 0 where
    pub place : ℕ
    pub in_tree : place < length nodes
    pub keys : (i : ℕ) → i ≤ place → (k : Option K) × IsKeyOf (node_in nodes i) k

  -- why there are no keys: allocation failed, or the first that was refused
  abbrev pub WhyNone : List (Option N) → KeysError E → Type 0
  WhyNone nodes OutOfMemory = WantsMemory nodes
  WhyNone nodes (Refused e) = IsFirstRefused nodes e
