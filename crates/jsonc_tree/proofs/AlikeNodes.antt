-- What a kind keeps of a row, and nodes that are linked alike.
use Rattle.std.proofs.Common.{◌≡◌, ◌<◌, ℕ, true, false, List, length, Option, None, refl, sym, ap, ◌∙◌}
use Rattle.std.proofs.lemmas.Bool.{false≢true}
use Rattle.jsonc_tree.specs.Content.{is_container}
use Rattle.jsonc_tree.specs.Tree.{is_container_at}
use Rattle.jsonc_tree.specs.Stored.{LinkedNode, content_of, first_end, last_end, link_at, nodes_of, ahead_set}
use Rattle.jsonc_tree.specs.declared.node.Kind.{Kind}
use Rattle.jsonc_tree.specs.declared.node.Kind.TheVariants.{Root, Object, Array, Property, String, Word, Number, Boolean, Null, Token, Whitespace, Newline, Comment, StringPart, WordPart, NumberPart, WhitespacePart, CommentPart}
use Rattle.jsonc_tree.proofs.AgreeingLinks.{content_shown}
use Rattle.jsonc_tree.proofs.Written.{ahead_set_keeps}

not_so : {X : Type 0} → true ≡ false → X
not_so e = absurd (false≢true (sym e))

-- a leaf has no row
pub leaf_ends : {A : Type 0} (k : Kind A) → is_container (content_of k) ≡ false → (first_end k ≡ None) × (last_end k ≡ None)
leaf_ends (Root ends) e = not_so e
leaf_ends (Object ends) e = not_so e
leaf_ends (Array ends) e = not_so e
leaf_ends (Property ends) e = not_so e
leaf_ends (String s) e = (refl, refl)
leaf_ends (Word s) e = (refl, refl)
leaf_ends (Number s) e = (refl, refl)
leaf_ends (Boolean b) e = (refl, refl)
leaf_ends Null e = (refl, refl)
leaf_ends (Token c) e = (refl, refl)
leaf_ends (Whitespace s) e = (refl, refl)
leaf_ends (Newline k) e = (refl, refl)
leaf_ends (Comment s) e = (refl, refl)
leaf_ends (StringPart s) e = (refl, refl)
leaf_ends (WordPart s) e = (refl, refl)
leaf_ends (NumberPart s) e = (refl, refl)
leaf_ends (WhitespacePart s) e = (refl, refl)
leaf_ends (CommentPart s) e = (refl, refl)

-- nodes whose parts are the same are the same
pub linked_same : (m n : LinkedNode) → m.content ≡ n.content → m.parent ≡ n.parent → m.previous ≡ n.previous → m.next ≡ n.next → m.first ≡ n.first → m.last ≡ n.last → m.lines ≡ n.lines → m ≡ n
linked_same m n a b c d e f g =
    ap (λ x. record m { content = x }) a
    ∙ ap (λ x. record m { content = n.content; parent = x }) b
    ∙ ap (λ x. record m { content = n.content; parent = n.parent; previous = x }) c
    ∙ ap (λ x. record n { next = x; first = m.first; last = m.last; lines = m.lines }) d
    ∙ ap (λ x. record n { first = x; last = m.last; lines = m.lines }) e
    ∙ ap (λ x. record n { last = x; lines = m.lines }) f
    ∙ ap (λ x. record n { lines = x }) g

-- a container is linked as one
pub container_linked : (ls : List LinkedNode) (c : ℕ) → c < length ls → is_container_at (nodes_of ls) c ≡ true → is_container (link_at ls c).content ≡ true
container_linked ls c there holds = ap is_container (content_shown ls c there) ∙ holds

-- and stays one where a link changes
pub container_ahead : (ls ms : List LinkedNode) (c : ℕ) (o t : Option ℕ) → ms ≡ ahead_set ls c o t → is_container (link_at ls c).content ≡ true → is_container (link_at ms c).content ≡ true
container_ahead ls ms c o t is holds =
    ap (λ (l : List LinkedNode). is_container (link_at l c).content) is
    ∙ ap is_container (ahead_set_keeps (λ n. n.content) ls c c t o (λ n. refl) (λ n. refl))
    ∙ holds
