-- A worked document: `{a:[1,_]}`, with a node in the place of the `_`.
use Rattle.std.specs.Prelude.{[], ◌∷◌, codes}
use Rattle.jsonc_tree.specs.Content.{root, object, array, property, word, number}
use Rattle.jsonc_tree.specs.OrderedTree.{OrderedTree, none, more, Top}
use Rattle.jsonc_sound.specs.Shape.{token_then}
use Rattle.jsonc_sound.specs.TreeChanges.{IsElement, DocumentChanged}

-- the row of its array
abbrev pub one_and : Top → OrderedTree
one_and top = token_then 0x5B (more (number (codes "1")) none (token_then 0x2C (more top.content top.below (token_then 0x5D none))))

-- the row of its object
abbrev pub named_one_and : Top → OrderedTree
named_one_and top = token_then 0x7B (more property (more (word (codes "a")) none (token_then 0x3A (more array (one_and top) none))) (token_then 0x7D none))

-- the whole
abbrev pub document_with : Top → OrderedTree
document_with top = more root (more object (named_one_and top) none) none

-- neither node is trivia or a token
abbrev pub AreElements : Top → Top → Type 0
AreElements was now = IsElement was.content × IsElement now.content

-- in it one node is replaced by another at the path 0, 1
abbrev pub IsWorkedChange : Top → Top → Type 0
IsWorkedChange was now = DocumentChanged was now (0 ∷ 1 ∷ []) (document_with was) (document_with now)
