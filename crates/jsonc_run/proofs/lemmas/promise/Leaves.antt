-- The leaves before and behind what is replaced, and what they print.
use Rattle.std.proofs.Common.{ℕ, ◌≡◌, ◌∙◌, sym, ap, subst, refl, List, [], ◌∷◌, ◌++◌, chars}
use Rattle.std.specs.List.{flat_map}
use Rattle.std.proofs.lemmas.List.{append_assoc, append-nil}
use Rattle.std.proofs.lemmas.Str.{chars-nil, chars-append}
use Rattle.jsonc_text.specs.Options.{Options}
use Rattle.jsonc_tree.specs.Content.{Content, text_of}
use Rattle.jsonc_tree.specs.OrderedTree.{OrderedTree, more, own_leaf, leaves, Top}
use Rattle.jsonc_sound.specs.Shape as shape
use Rattle.jsonc_sound.specs.Shape.{DocumentShaped}
use Rattle.jsonc_sound.specs.ChangeLaws.{DiffersIn}
use Rattle.jsonc_sound.specs.TreeChanges.{leaves_of, ElementChanged, this_element, passed, later_element, ValueChanged, itself, in_array, in_object, DocumentChanged, in_root}
use Rattle.jsonc_sound.proofs.NodesAlone.{value_alone}
use Rattle.jsonc_sound.proofs.Texts.{AllUtf8, trivia_all, value_all}
use Rattle.jsonc_edit.proofs.lemmas.remove.PartedTrivia.{around}
use Rattle.jsonc_run.specs.promise.PlaceLaws.{text_of_leaves}

-- the leaves before the element that is replaced in a row, and behind it
abbrev pub row_front : {was now : Top} {i : ℕ} {row new : OrderedTree} → ElementChanged was now i row new → List Content
row_front (this_element p q) = []
row_front (passed {content = content} {below = below} h k) = own_leaf content ++ (leaves below ++ row_front k)
row_front (later_element {content = content} {below = below} h k) = own_leaf content ++ (leaves below ++ row_front k)

abbrev pub row_back : {was now : Top} {i : ℕ} {row new : OrderedTree} → ElementChanged was now i row new → List Content
row_back (this_element {after = after} p q) = leaves after
row_back (passed h k) = row_back k
row_back (later_element h k) = row_back k

-- so before the value at a path, and behind it
abbrev pub value_front : {was now : Top} {path : List ℕ} {x y : Top} → ValueChanged was now path x y → List Content
value_front itself = []
value_front (in_array e h) = row_front e ++ value_front h
value_front (in_object e g h) = row_front e ++ (row_front g ++ value_front h)

abbrev pub value_back : {was now : Top} {path : List ℕ} {x y : Top} → ValueChanged was now path x y → List Content
value_back itself = []
value_back (in_array e h) = value_back h ++ row_back e
value_back (in_object e g h) = (value_back h ++ row_back g) ++ row_back e

abbrev pub front_of : {was now : Top} {path : List ℕ} {t u : OrderedTree} → DocumentChanged was now path t u → List Content
front_of (in_root e h) = row_front e ++ value_front h

abbrev pub back_of : {was now : Top} {path : List ℕ} {t u : OrderedTree} → DocumentChanged was now path t u → List Content
back_of (in_root e h) = value_back h ++ row_back e

node_assoc : (a b f s t : List Content) → a ++ (b ++ (f ++ (s ++ t))) ≡ (a ++ (b ++ f)) ++ (s ++ t)
node_assoc a b f s t = ap (λ l. a ++ l) (sym (append_assoc b f (s ++ t))) ∙ sym (append_assoc a (b ++ f) (s ++ t))

first_node : (top : Top) (after : OrderedTree) → leaves (more top.content top.below after) ≡ [] ++ (leaves_of top ++ leaves after)
first_node top after = sym (append_assoc (own_leaf top.content) (leaves top.below) (leaves after))

row_parts : {was now : Top} {i : ℕ} {row new : OrderedTree} (e : ElementChanged was now i row new) → leaves row ≡ row_front e ++ (leaves_of was ++ row_back e)
row_parts {was} (this_element {after = after} p q) = first_node was after
row_parts {was} (passed {content = content} {below = below} h k) = ap (λ l. own_leaf content ++ (leaves below ++ l)) (row_parts k) ∙ node_assoc (own_leaf content) (leaves below) (row_front k) (leaves_of was) (row_back k)
row_parts {was} (later_element {content = content} {below = below} h k) = ap (λ l. own_leaf content ++ (leaves below ++ l)) (row_parts k) ∙ node_assoc (own_leaf content) (leaves below) (row_front k) (leaves_of was) (row_back k)

row_parts_then : {was now : Top} {i : ℕ} {row new : OrderedTree} (e : ElementChanged was now i row new) → leaves new ≡ row_front e ++ (leaves_of now ++ row_back e)
row_parts_then {now = now} (this_element {after = after} p q) = first_node now after
row_parts_then {now = now} (passed {content = content} {below = below} h k) = ap (λ l. own_leaf content ++ (leaves below ++ l)) (row_parts_then k) ∙ node_assoc (own_leaf content) (leaves below) (row_front k) (leaves_of now) (row_back k)
row_parts_then {now = now} (later_element {content = content} {below = below} h k) = ap (λ l. own_leaf content ++ (leaves below ++ l)) (row_parts_then k) ∙ node_assoc (own_leaf content) (leaves below) (row_front k) (leaves_of now) (row_back k)

-- a stretch of a stretch
within : (x s f b was g c : List Content) → s ≡ f ++ (x ++ b) → x ≡ g ++ (was ++ c) → s ≡ (f ++ g) ++ (was ++ (c ++ b))
within x s f b was g c e k = e ∙ ap (λ l. f ++ (l ++ b)) k ∙ around f g was c b

value_parts : {was now : Top} {path : List ℕ} {x y : Top} (h : ValueChanged was now path x y) → leaves_of x ≡ value_front h ++ (leaves_of was ++ value_back h)
value_parts {was} itself = sym (append-nil (leaves_of was))
value_parts {was} (in_array {x = x} {row = row} e h) = within (leaves_of x) (leaves row) (row_front e) (row_back e) (leaves_of was) (value_front h) (value_back h) (row_parts e) (value_parts h)
value_parts {was} (in_object {x = x} {held = held} {row = row} e g h) =
    within (leaves held) (leaves row) (row_front e) (row_back e) (leaves_of was) (row_front g ++ value_front h) (value_back h ++ row_back g) (row_parts e)
    (within (leaves_of x) (leaves held) (row_front g) (row_back g) (leaves_of was) (value_front h) (value_back h) (row_parts g) (value_parts h))

value_parts_then : {was now : Top} {path : List ℕ} {x y : Top} (h : ValueChanged was now path x y) → leaves_of y ≡ value_front h ++ (leaves_of now ++ value_back h)
value_parts_then {now = now} itself = sym (append-nil (leaves_of now))
value_parts_then {now = now} (in_array {y = y} {new = new} e h) = within (leaves_of y) (leaves new) (row_front e) (row_back e) (leaves_of now) (value_front h) (value_back h) (row_parts_then e) (value_parts_then h)
value_parts_then {now = now} (in_object {y = y} {given = given} {new = new} e g h) =
    within (leaves given) (leaves new) (row_front e) (row_back e) (leaves_of now) (row_front g ++ value_front h) (value_back h ++ row_back g) (row_parts_then e)
    (within (leaves_of y) (leaves given) (row_front g) (row_back g) (leaves_of now) (value_front h) (value_back h) (row_parts_then g) (value_parts_then h))

pub document_parts : {was now : Top} {path : List ℕ} {t u : OrderedTree} (d : DocumentChanged was now path t u) → leaves t ≡ front_of d ++ (leaves_of was ++ back_of d)
document_parts {was} (in_root {x = x} {row = row} e h) = append-nil (leaves row) ∙ within (leaves_of x) (leaves row) (row_front e) (row_back e) (leaves_of was) (value_front h) (value_back h) (row_parts e) (value_parts h)

pub document_parts_then : {was now : Top} {path : List ℕ} {t u : OrderedTree} (d : DocumentChanged was now path t u) → leaves u ≡ front_of d ++ (leaves_of now ++ back_of d)
document_parts_then {now = now} (in_root {y = y} {new = new} e h) = append-nil (leaves new) ∙ within (leaves_of y) (leaves new) (row_front e) (row_back e) (leaves_of now) (value_front h) (value_back h) (row_parts_then e) (value_parts_then h)

pub document_differs : {was now : Top} {path : List ℕ} {t u : OrderedTree} (d : DocumentChanged was now path t u) → DiffersIn (leaves_of was) (leaves_of now) (leaves t) (leaves u)
document_differs d = record { front = front_of d; back = back_of d; before = document_parts d; after = document_parts_then d }

-- what leaves print, one row after another
pub text_joined : (first second : List Content) → AllUtf8 first → text_of_leaves (first ++ second) ≡ text_of_leaves first ++ text_of_leaves second
text_joined [] second u = sym (ap (λ l. l ++ text_of_leaves second) chars-nil)
text_joined (content ∷ rest) second u =
    chars-append (text_of content) (flat_map text_of (rest ++ second)) u.0
    ∙ ap (λ l. chars (text_of content) ++ l) (text_joined rest second u.1)
    ∙ sym (append_assoc (chars (text_of content)) (text_of_leaves rest) (text_of_leaves second))
    ∙ ap (λ l. l ++ text_of_leaves second) (sym (chars-append (text_of content) (flat_map text_of rest) u.0))

pub utf8_first : (first second : List Content) → AllUtf8 (first ++ second) → AllUtf8 first
utf8_first [] second u = tt
utf8_first (content ∷ rest) second u = (u.0, utf8_first rest second u.1)

pub utf8_second : (first second : List Content) → AllUtf8 (first ++ second) → AllUtf8 second
utf8_second [] second u = u
utf8_second (content ∷ rest) second u = utf8_second rest second u.1

pub utf8_joined : (first second : List Content) → AllUtf8 first → AllUtf8 second → AllUtf8 (first ++ second)
utf8_joined [] second u v = v
utf8_joined (content ∷ rest) second u v = (u.0, utf8_joined rest second u.1 v)

-- all that a document of the shape prints is characters
pub document_utf8 : (o : Options) {t : OrderedTree} → DocumentShaped o t → AllUtf8 (leaves t)
document_utf8 o (shape.no_value {row = row} g) = subst AllUtf8 (sym (append-nil (leaves row))) (trivia_all o g tt)
document_utf8 o (shape.a_value {content = content} {row = row} {below = below} {after = after} g v h) =
    let behind = trivia_all o h tt in
    let value = value_all o (value_alone o v) in
    let whole : AllUtf8 (leaves (more content below after)) = subst AllUtf8 (append_assoc (own_leaf content) (leaves below) (leaves after)) (utf8_joined (own_leaf content ++ leaves below) (leaves after) value behind) in
    subst AllUtf8 (sym (append-nil (leaves row))) (trivia_all o g whole)

-- a node's leaves print what it prints
pub node_prints : (top : Top) → text_of_leaves (leaves_of top) ≡ chars (flat_map text_of (own_leaf top.content ++ leaves top.below))
node_prints top = refl
