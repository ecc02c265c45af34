-- Where trailing commas have come, what each node was before.
use Rattle.std.proofs.Common.{ℕ, ◌≡◌, ◌⊎◌, sym, subst, refl, inl, inr, Bool, true, false, List, ◌∷◌, IsTrue}
use Rattle.jsonc_tree.specs.Content.{Content, token}
use Rattle.jsonc_tree.specs.OrderedTree.{OrderedTree, Top}
use Rattle.jsonc_tree.specs.Values.{is_passed_over}
use Rattle.jsonc_layout.specs.nodes.Kinds.{is_element}
use Rattle.jsonc_sound.specs.Shape.{token_then}
use Rattle.jsonc_sound.specs.TreeChanges.{ElementChanged, this_element, passed, later_element, ValueChanged, itself, in_array, in_object, DocumentChanged, in_root, property_of}
use Rattle.jsonc_sound.proofs.FirstNodes.{no_element}
use Rattle.jsonc_edit.specs.commas.Laws.{GainsCommas, ends, stays, comes}
use Rattle.jsonc_edit.specs.multiline.Reflows.{has_newline}

-- the row behind an element
abbrev pub row_after : {was now : Top} {i : ℕ} {row new : OrderedTree} → ElementChanged was now i row new → OrderedTree
row_after (this_element {after = after} p q) = after
row_after (passed h e) = row_after e
row_after (later_element h e) = row_after e

-- below a node of these contents commas have come
abbrev pub Gained : Top → Top → Type 0
Gained x y = (x.content ≡ y.content) × GainsCommas (has_newline x.below) x.below y.below

-- an element of the new row was one of the old row: behind it the row stays, but for commas in it, or a comma has come directly behind it
pub record ElementWas (line : Bool) (row : OrderedTree) (i : ℕ) (y : Top) (behind : OrderedTree) : Type 0 where
  pub was : Top
  pub at : ElementChanged was was i row row
  pub gained : Gained was y
  pub after : GainsCommas line (row_after at) behind ⊎ ((line ≡ true) × (rest : OrderedTree) × (behind ≡ token_then 0x2C rest))

pub element_over : (content : Content) → IsTrue (is_element content) → IsTrue (is_passed_over content) → ⊥
element_over (Content.whitespace s) h k = cc
element_over (Content.newline n) h k = cc
element_over (Content.comment s) h k = cc
element_over (Content.token c) h k = cc
element_over content h k = cc

pub element_was : {line : Bool} {row new other : OrderedTree} {y z : Top} {i : ℕ} → GainsCommas line row new → (e : ElementChanged y z i new other) → ElementWas line row i y (row_after e)
element_was ends e = elim e [ ]
element_was (stays {content = content} {below = below} p q) (this_element h k) =
    record { was = record { content = content; below = below }; at = this_element h h; gained = (refl, p); after = inl q }
element_was (stays p q) (passed h e) = let m = element_was q e in record { was = m.was; at = passed h m.at; gained = m.gained; after = m.after }
element_was (stays p q) (later_element h e) = let m = element_was q e in record { was = m.was; at = later_element h m.at; gained = m.gained; after = m.after }
element_was (comes {content = content} {below = below} {rest = rest} f c p q) (this_element h k) =
    record { was = record { content = content; below = below }; at = this_element h h; gained = (refl, p); after = inr (refl, rest, refl) }
element_was (comes f c p q) (passed {content = content} h e) = absurd (element_over content f h)
element_was (comes f c p q) (later_element h (passed k e)) = let m = element_was q e in record { was = m.was; at = later_element h m.at; gained = m.gained; after = m.after }
element_was (comes f c p q) (later_element h (this_element k l)) = absurd (no_element (token 0x2C) k refl)
element_was (comes f c p q) (later_element h (later_element k e)) = absurd (no_element (token 0x2C) k refl)

-- so of a value, and of a document
pub record ValueWas (path : List ℕ) (x : Top) (y : Top) : Type 0 where
  pub was : Top
  pub at : ValueChanged was was path x x
  pub gained : Gained was y

same_kind : (x : Top) (c : Content) (path : List ℕ) (y : Top) → x.content ≡ c → ValueChanged y y path (record { content = c; below = x.below }) (record { content = c; below = x.below }) → ValueChanged y y path x x
same_kind x c path y e h = subst (λ k. ValueChanged y y path (record { content = k; below = x.below }) (record { content = k; below = x.below })) (sym e) h

in_array_was : (x : Top) {w y : Top} {i : ℕ} {path : List ℕ} {behind : OrderedTree} → x.content ≡ Content.array → (m : ElementWas (has_newline x.below) x.below i w behind) → ValueWas path m.was y → ValueWas (i ∷ path) x y
in_array_was x {i = i} {path = path} e m n = record { was = n.was; at = same_kind x Content.array (i ∷ path) n.was e (in_array m.at n.at); gained = n.gained }

in_object_was : (x : Top) {w v y : Top} {i : ℕ} {path : List ℕ} {behind rest : OrderedTree} → x.content ≡ Content.object → (m : ElementWas (has_newline x.below) x.below i w behind) → m.was.content ≡ Content.property
    → (k : ElementWas (has_newline m.was.below) m.was.below 1 v rest) → ValueWas path k.was y → ValueWas (i ∷ path) x y
in_object_was x {i = i} {path = path} e m f k n =
    let at : ElementChanged (property_of m.was.below) (property_of m.was.below) i x.below x.below =
    subst (λ c. ElementChanged (record { content = c; below = m.was.below }) (record { content = c; below = m.was.below }) i x.below x.below) f m.at in
    record { was = n.was; at = same_kind x Content.object (i ∷ path) n.was e (in_object at k.at n.at); gained = n.gained }

pub value_was : {y v z w x : Top} {path : List ℕ} → Gained x z → ValueChanged y v path z w → ValueWas path x y
value_was {x = x} g itself = record { was = x; at = itself; gained = g }
value_was {x = x} g (in_array e h) = let m = element_was g.1 e in in_array_was x g.0 m (value_was m.gained h)
value_was {x = x} g (in_object e k h) =
    let m = element_was g.1 e in
    let inner = element_was m.gained.1 k in
    in_object_was x g.0 m m.gained.0 inner (value_was inner.gained h)

pub document_was : {t u w : OrderedTree} {y v : Top} {path : List ℕ} → GainsCommas false t u → DocumentChanged y v path u w → (x : Top) × DocumentChanged x x path t t × Gained x y
document_was ends e = elim e [ ]
document_was (stays p (stays q r)) e = elim e [ ]
document_was (stays p ends) (in_root e h) =
    let m = element_was p e in
    let n = value_was m.gained h in
    (n.was, in_root m.at n.at, n.gained)
