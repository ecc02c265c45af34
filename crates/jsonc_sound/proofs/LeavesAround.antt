-- The leaves before and after what is replaced stay.
use Rattle.std.proofs.Common.{ℕ, ◌≡◌, ◌∙◌, sym, ap, List, [], ◌++◌}
use Rattle.std.proofs.lemmas.List.{append_assoc, append-nil}
use Rattle.jsonc_tree.specs.Content.{Content}
use Rattle.jsonc_tree.specs.OrderedTree.{OrderedTree, more, own_leaf, leaves, Top}
use Rattle.jsonc_sound.specs.ChangeLaws.{DiffersIn}
use Rattle.jsonc_sound.specs.TreeChanges.{leaves_of, ElementChanged, this_element, passed, later_element, ValueChanged, itself, in_array, in_object, DocumentChanged, in_root}

node_assoc : (a b f s t : List Content) → a ++ (b ++ (f ++ (s ++ t))) ≡ (a ++ (b ++ f)) ++ (s ++ t)
node_assoc a b f s t = ap (λ l. a ++ l) (sym (append_assoc b f (s ++ t))) ∙ sym (append_assoc a (b ++ f) (s ++ t))

-- a stretch with more before it
pub after_node : {was now x y : List Content} (a b : List Content) → DiffersIn was now x y → DiffersIn was now (a ++ (b ++ x)) (a ++ (b ++ y))
after_node {was} {now} a b d = record {
  front = a ++ (b ++ d.front);
  back = d.back;
  before = ap (λ l. a ++ (b ++ l)) d.before ∙ node_assoc a b d.front was d.back;
  after = ap (λ l. a ++ (b ++ l)) d.after ∙ node_assoc a b d.front now d.back;
}

inside_of : (f g s c b : List Content) → f ++ ((g ++ (s ++ c)) ++ b) ≡ (f ++ g) ++ (s ++ (c ++ b))
inside_of f g s c b = ap (λ l. f ++ l) (append_assoc g (s ++ c) b ∙ ap (λ l. g ++ l) (append_assoc s c b)) ∙ sym (append_assoc f g (s ++ (c ++ b)))

-- a stretch of a stretch
pub within : {was now x y s t : List Content} → DiffersIn x y s t → DiffersIn was now x y → DiffersIn was now s t
within {was} {now} d k = record {
  front = d.front ++ k.front;
  back = k.back ++ d.back;
  before = d.before ∙ ap (λ l. d.front ++ (l ++ d.back)) k.before ∙ inside_of d.front k.front was k.back d.back;
  after = d.after ∙ ap (λ l. d.front ++ (l ++ d.back)) k.after ∙ inside_of d.front k.front now k.back d.back;
}

-- the same stretch of equal lists
pub differs_as : {was now x y s t : List Content} → s ≡ x → t ≡ y → DiffersIn was now x y → DiffersIn was now s t
differs_as e f d = record { front = d.front; back = d.back; before = e ∙ d.before; after = f ∙ d.after }

first_node : (top : Top) (after : OrderedTree) → leaves (more top.content top.below after) ≡ [] ++ (leaves_of top ++ leaves after)
first_node top after = sym (append_assoc (own_leaf top.content) (leaves top.below) (leaves after))

row_differs : {was now : Top} {i : ℕ} {row new : OrderedTree} → ElementChanged was now i row new → DiffersIn (leaves_of was) (leaves_of now) (leaves row) (leaves new)
row_differs {was} {now} (this_element {after = after} p q) = record { front = []; back = leaves after; before = first_node was after; after = first_node now after }
row_differs (passed {content = content} {below = below} h k) = after_node (own_leaf content) (leaves below) (row_differs k)
row_differs (later_element {content = content} {below = below} h k) = after_node (own_leaf content) (leaves below) (row_differs k)

value_differs : {was now : Top} {path : List ℕ} {x y : Top} → ValueChanged was now path x y → DiffersIn (leaves_of was) (leaves_of now) (leaves_of x) (leaves_of y)
value_differs {was} {now} itself = record { front = []; back = []; before = sym (append-nil (leaves_of was)); after = sym (append-nil (leaves_of now)) }
value_differs (in_array e h) = within (row_differs e) (value_differs h)
value_differs (in_object e g h) = within (row_differs e) (within (row_differs g) (value_differs h))

pub document_differs : {was now : Top} {path : List ℕ} {t u : OrderedTree} → DocumentChanged was now path t u → DiffersIn (leaves_of was) (leaves_of now) (leaves t) (leaves u)
document_differs (in_root {row = row} {new = new} e h) = differs_as (append-nil (leaves row)) (append-nil (leaves new)) (within (row_differs e) (value_differs h))
