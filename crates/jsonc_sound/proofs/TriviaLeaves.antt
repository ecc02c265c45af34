-- The leaves before and after a stretch that is replaced stay.
use Rattle.std.proofs.Common.{◌≡◌, ◌∙◌, ap, subst, refl, List, [], ◌∷◌, ◌++◌, IsTrue}
use Rattle.std.proofs.lemmas.List.{append-nil}
use Rattle.jsonc_tree.specs.Content.{Content}
use Rattle.jsonc_tree.specs.OrderedTree.{OrderedTree, none, more, own_leaf, leaves, followed_by}
use Rattle.jsonc_layout.specs.nodes.Kinds.{is_trivia}
use Rattle.jsonc_sound.specs.ChangeLaws.{DiffersIn}
use Rattle.jsonc_sound.specs.TriviaChanges.{AreTrivia, leaves_then, LeavesChanged, given_way, come, later, deeper, StretchChanged, in_root, inside}
use Rattle.jsonc_sound.proofs.LeavesAround.{after_node, within, differs_as}

own_trivia : (content : Content) → IsTrue (is_trivia content) → own_leaf content ≡ content ∷ []
own_trivia (Content.whitespace s) h = refl
own_trivia (Content.newline k) h = refl
own_trivia (Content.comment s) h = refl
own_trivia content h = cc

pub front_leaves : (cs : List Content) (back : OrderedTree) → AreTrivia cs → leaves (leaves_then cs back) ≡ cs ++ leaves back
front_leaves [] back h = refl
front_leaves (c ∷ cs) back h = ap (λ l. l ++ leaves (leaves_then cs back)) (own_trivia c h.0) ∙ ap (λ l. c ∷ l) (front_leaves cs back h.1)

module _ (was now : List Content) (old : AreTrivia was) (new_ones : AreTrivia now) where
  front_differs : (back : OrderedTree) → DiffersIn was now (leaves (leaves_then was back)) (leaves (leaves_then now back))
  front_differs back = record { front = []; back = leaves back; before = front_leaves was back old; after = front_leaves now back new_ones }

  row_differs : {row new : OrderedTree} → LeavesChanged was now row new → DiffersIn was now (leaves row) (leaves new)
  row_differs (given_way back ne) = front_differs back
  row_differs (come {first = first} {below = below} last under back e) =
      after_node (own_leaf first) (leaves below) (subst (λ cs. DiffersIn was now (leaves (leaves_then cs (more last under back))) (leaves (leaves_then now (more last under back)))) e (front_differs (more last under back)))
  row_differs (later {content = content} {below = below} h) = after_node (own_leaf content) (leaves below) (row_differs h)
  row_differs (deeper {content = content} {after = after} h) = within (record { front = own_leaf content; back = leaves after; before = refl; after = refl }) (row_differs h)

  root_differs : (row back : OrderedTree) → DiffersIn was now (leaves (followed_by row (leaves_then was back))) (leaves (followed_by row (leaves_then now back)))
  root_differs none back = front_differs back
  root_differs (more content below after) back = after_node (own_leaf content) (leaves below) (root_differs after back)

  pub document_differs : {t u : OrderedTree} → StretchChanged was now t u → DiffersIn was now (leaves t) (leaves u)
  document_differs (in_root row back) = differs_as (append-nil (leaves (followed_by row (leaves_then was back)))) (append-nil (leaves (followed_by row (leaves_then now back)))) (root_differs row back)
  document_differs (inside {row = row} {new = new} h) = differs_as (append-nil (leaves row)) (append-nil (leaves new)) (row_differs h)
