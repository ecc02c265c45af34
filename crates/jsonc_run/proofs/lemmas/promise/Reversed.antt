-- A change the other way round.
use Rattle.std.proofs.Common.{ℕ, ◌≡◌, ◌∙◌, ap, refl, List, ◌++◌}
use Rattle.jsonc_tree.specs.Content.{Content}
use Rattle.jsonc_tree.specs.OrderedTree.{OrderedTree, own_leaf, leaves, Top}
use Rattle.jsonc_sound.specs.TreeChanges.{ElementChanged, this_element, passed, later_element, ValueChanged, itself, in_array, in_object, DocumentChanged, in_root}
use Rattle.jsonc_run.proofs.lemmas.promise.Leaves.{row_front, row_back, value_front, value_back, front_of, back_of}

abbrev pub flip_row : {was now : Top} {i : ℕ} {x y : OrderedTree} → ElementChanged was now i x y → ElementChanged now was i y x
flip_row (this_element p q) = this_element q p
flip_row (passed h e) = passed h (flip_row e)
flip_row (later_element h e) = later_element h (flip_row e)

abbrev pub flip_value : {was now : Top} {path : List ℕ} {x y : Top} → ValueChanged was now path x y → ValueChanged now was path y x
flip_value itself = itself
flip_value (in_array e h) = in_array (flip_row e) (flip_value h)
flip_value (in_object e g h) = in_object (flip_row e) (flip_row g) (flip_value h)

abbrev pub flip : {was now : Top} {path : List ℕ} {t u : OrderedTree} → DocumentChanged was now path t u → DocumentChanged now was path u t
flip (in_root e h) = in_root (flip_row e) (flip_value h)

row_front_same : {was now : Top} {i : ℕ} {x y : OrderedTree} (e : ElementChanged was now i x y) → row_front (flip_row e) ≡ row_front e
row_front_same (this_element p q) = refl
row_front_same (passed {content = content} {below = below} h e) = ap (λ l. own_leaf content ++ (leaves below ++ l)) (row_front_same e)
row_front_same (later_element {content = content} {below = below} h e) = ap (λ l. own_leaf content ++ (leaves below ++ l)) (row_front_same e)

row_back_same : {was now : Top} {i : ℕ} {x y : OrderedTree} (e : ElementChanged was now i x y) → row_back (flip_row e) ≡ row_back e
row_back_same (this_element p q) = refl
row_back_same (passed h e) = row_back_same e
row_back_same (later_element h e) = row_back_same e

pub both : {a b c d : List Content} → a ≡ b → c ≡ d → a ++ c ≡ b ++ d
both {b = b} {c = c} e f = ap (λ l. l ++ c) e ∙ ap (λ l. b ++ l) f

value_front_same : {was now : Top} {path : List ℕ} {x y : Top} (h : ValueChanged was now path x y) → value_front (flip_value h) ≡ value_front h
value_front_same itself = refl
value_front_same (in_array e h) = both (row_front_same e) (value_front_same h)
value_front_same (in_object e g h) = both (row_front_same e) (both (row_front_same g) (value_front_same h))

value_back_same : {was now : Top} {path : List ℕ} {x y : Top} (h : ValueChanged was now path x y) → value_back (flip_value h) ≡ value_back h
value_back_same itself = refl
value_back_same (in_array e h) = both (value_back_same h) (row_back_same e)
value_back_same (in_object e g h) = both (both (value_back_same h) (row_back_same g)) (row_back_same e)

pub front_same : {was now : Top} {path : List ℕ} {t u : OrderedTree} (d : DocumentChanged was now path t u) → front_of (flip d) ≡ front_of d
front_same (in_root e h) = both (row_front_same e) (value_front_same h)

pub back_same : {was now : Top} {path : List ℕ} {t u : OrderedTree} (d : DocumentChanged was now path t u) → back_of (flip d) ≡ back_of d
back_same (in_root e h) = both (value_back_same h) (row_back_same e)
