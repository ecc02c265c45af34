-- A tree under way, which grows at the end of one container.
use Rattle.std.specs.Prelude.{ℕ, ◌<◌, ◌-◌, List, [], ◌∷◌, ◌++◌, length, Option, None, Some, vec_len, vec_capacity, IsTrue}
use Rattle.jsonc_tree.specs.Content.{Content, is_newline}
use Rattle.jsonc_tree.specs.Tree.{Node, is_container_at}
use Rattle.jsonc_tree.specs.Stored.{LinkedNode, bare, nodes_of, ahead_set, back_set, counted_in, IsStored}
use Rattle.jsonc_tree.specs.declared.growing.Growing.{Growing}

-- the nodes, and one more of this number behind a container's last child, which leads on to it, and counted there
abbrev pub child_behind : List LinkedNode → ℕ → Option ℕ → Content → ℕ → List LinkedNode
child_behind ls c last content number = counted_in (ahead_set (ls ++ record (bare content) { parent = Some c; previous = last } ∷ []) c last (Some number)) c (is_newline content)

module _ {A : Type 0} where
  -- what nodes there are, with the last child of the container at hand in its place
  abbrev pub nodes_so_far : Growing A → List Node
  nodes_so_far g = nodes_of (back_set g.nodes.items g.container None g.last)

  -- the container at hand
  abbrev pub container_of : Growing A → ℕ
  container_of g = g.container

  -- how many more nodes there is memory for
  abbrev pub room_of : Growing A → ℕ
  room_of g = vec_capacity g.nodes - vec_len g.nodes

  -- they are a tree, and the container at hand is one of them
  pub record IsGrowing (g : Growing A) : Type 0 where
    pub stored : IsStored (back_set g.nodes.items g.container None g.last)
    pub in_tree : container_of g < length (nodes_so_far g)
    pub holds : IsTrue (is_container_at (nodes_so_far g) (container_of g))
