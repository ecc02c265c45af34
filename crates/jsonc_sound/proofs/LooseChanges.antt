-- Line comments that end loosely, in rows that change.
use Rattle.std.proofs.Common.{ℕ, ◌≡◌, ap, subst, refl, Bool, true, false, ◌&&◌, List, IsTrue}
use Rattle.jsonc_tree.specs.Content.{Content}
use Rattle.jsonc_tree.specs.OrderedTree.{OrderedTree, none, more, followed_by, Top}
use Rattle.jsonc_sound.specs.Lines.{is_loose, ends_loosely, LinesEndLoosely, DocumentLinesEndLoosely}
use Rattle.jsonc_sound.specs.TreeChanges.{IsElement, ElementChanged, this_element, passed, later_element, ValueChanged, itself, in_array, in_object, DocumentChanged, in_root}
use Rattle.jsonc_sound.proofs.FirstNodes.{no_element, line_comment_over}

-- two stretches
pub ends_joined : (loose at_end : Bool) (s t : OrderedTree) → ends_loosely loose at_end (followed_by s t) ≡ ends_loosely loose (ends_loosely loose at_end t) s
ends_joined loose at_end none t = refl
ends_joined loose at_end (more (Content.newline k) below after) t = refl
ends_joined loose at_end (more (Content.whitespace k) below after) t = ap (λ b. loose && b) (ends_joined loose at_end after t)
ends_joined loose at_end (more content below after) t = refl

pub joined_loosely : (loose at_end : Bool) (s t : OrderedTree) → LinesEndLoosely loose (ends_loosely loose at_end t) s → LinesEndLoosely loose at_end t → LinesEndLoosely loose at_end (followed_by s t)
joined_loosely loose at_end none t l m = m
joined_loosely loose at_end (more content below s) t l m = (λ h. subst (λ b. IsTrue b) (flip (ends_joined loose at_end s t)) (l.0 h), l.1, joined_loosely loose at_end s t l.2 m)
  where
    flip : {a b : Bool} → a ≡ b → b ≡ a
    flip {a} e = subst (λ x. x ≡ a) e refl

pub parted_loosely : (loose at_end : Bool) (s t : OrderedTree) → LinesEndLoosely loose at_end (followed_by s t) → LinesEndLoosely loose (ends_loosely loose at_end t) s × LinesEndLoosely loose at_end t
parted_loosely loose at_end none t l = (tt, l)
parted_loosely loose at_end (more content below s) t l = let d = parted_loosely loose at_end s t l.2 in ((λ h. subst (λ b. IsTrue b) (ends_joined loose at_end s t) (l.0 h), l.1, d.0), d.1)

-- a value is replaced
pub element_no_end : (loose at_end : Bool) (content : Content) (below after : OrderedTree) → IsElement content → IsTrue (ends_loosely loose at_end (more content below after)) → ⊥
element_no_end loose at_end (Content.newline k) below after e h = cc
element_no_end loose at_end (Content.whitespace s) below after e h = cc
element_no_end loose at_end content below after e h = cc

end_kept : {x y : Top} {i : ℕ} {row new : OrderedTree} (loose at_end : Bool) → ElementChanged x y i row new → IsTrue (ends_loosely loose at_end row) → IsTrue (ends_loosely loose at_end new)
end_kept {x} loose at_end (this_element {after = after} p q) h = absurd (element_no_end loose at_end x.content x.below after p h)
end_kept loose at_end (passed {content = content} {below = below} {x = s} {y = t} p k) h = by content (end_kept loose at_end k) h
  where
    both : (a b c : Bool) → (IsTrue b → IsTrue c) → IsTrue (a && b) → IsTrue (a && c)
    both true b c f g = f g
    both false b c f g = g

    by : (c : Content) → (IsTrue (ends_loosely loose at_end s) → IsTrue (ends_loosely loose at_end t)) → IsTrue (ends_loosely loose at_end (more c below s)) → IsTrue (ends_loosely loose at_end (more c below t))
    by (Content.newline n) f g = refl
    by (Content.whitespace w) f g = both loose (ends_loosely loose at_end s) (ends_loosely loose at_end t) f g
    by c f g = cc
end_kept loose at_end (later_element {content = content} {below = below} {x = s} p k) h = absurd (element_no_end loose at_end content below s p h)

row_loose : {x y : Top} {i : ℕ} {row new : OrderedTree} (loose at_end : Bool) → (LinesEndLoosely (is_loose x.content) false x.below → LinesEndLoosely (is_loose y.content) false y.below) → ElementChanged x y i row new → LinesEndLoosely loose at_end row → LinesEndLoosely loose at_end new
row_loose {y = y} loose at_end f (this_element p q) l = (λ h. absurd (no_element y.content q (line_comment_over y.content h)), f l.1, l.2)
row_loose loose at_end f (passed p k) l = (λ h. end_kept loose at_end k (l.0 h), l.1, row_loose loose at_end f k l.2)
row_loose loose at_end f (later_element p k) l = (λ h. end_kept loose at_end k (l.0 h), l.1, row_loose loose at_end f k l.2)

value_loose : {was now : Top} {path : List ℕ} {x y : Top} → LinesEndLoosely (is_loose now.content) false now.below → ValueChanged was now path x y → LinesEndLoosely (is_loose x.content) false x.below → LinesEndLoosely (is_loose y.content) false y.below
value_loose n itself = λ l. n
value_loose n (in_array e h) = row_loose true false (value_loose n h) e
value_loose n (in_object e g h) = row_loose true false (row_loose false false (value_loose n h) g) e

pub document_loose : {was now : Top} {path : List ℕ} {t u : OrderedTree} → LinesEndLoosely (is_loose now.content) false now.below → DocumentChanged was now path t u → DocumentLinesEndLoosely t → DocumentLinesEndLoosely u
document_loose n (in_root {row = row} {new = new} e h) (below, same, l) =
    let first : below ≡ row = cc in
    (new, refl, row_loose false true (value_loose n h) e (subst (LinesEndLoosely false true) first l))
