-- Spaces that have come into a document.
use Rattle.jsonc_tree.specs.OrderedTree.{OrderedTree}
use Rattle.jsonc_sound.specs.InRows.{SpacePut}

-- one after another, each before an element and behind another node; and nothing else has
pub data SpacesPut : OrderedTree → OrderedTree → Type 0 where
  none_put : {t : OrderedTree} → SpacesPut t t
  one_put : {t s u : OrderedTree} → SpacePut t s → SpacesPut s u → SpacesPut t u
