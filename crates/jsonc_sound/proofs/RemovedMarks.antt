-- The marks of a document where an element has left one of its containers.
use Rattle.std.proofs.Common.{ℕ, ◌≡◌, ◌∙◌, sym, ap, subst, refl, List, [], ◌∷◌, ◌++◌}
use Rattle.std.proofs.lemmas.List.{append_assoc}
use Rattle.std.proofs.lemmas.List.Elements.{filter-append}
use Rattle.jsonc_tree.specs.Content.{Content, token}
use Rattle.jsonc_tree.specs.OrderedTree.{OrderedTree, none, more, own_leaf, leaves, followed_by}
use Rattle.jsonc_tree.proofs.OrderedTrees.{leaves-followed_by}
use Rattle.jsonc_sound.specs.Rows.{RowKind, of_values, of_properties, container_of}
use Rattle.jsonc_tree.specs.OrderedTree.{Top}
use Rattle.jsonc_sound.specs.TreeChanges.{leaves_of, DocumentChanged}
use Rattle.jsonc_sound.specs.TriviaChanges.{leaves_then}
use Rattle.jsonc_sound.specs.Marks.{Mark, marks_of, marks, is_comment, comments_of}
use Rattle.jsonc_sound.specs.MarkChanges.{MarksDifferIn, marks_under}
use Rattle.jsonc_sound.proofs.ReplacedStretches.{marks_join, values_marks, trivia_has_comments, blanks_unmarked}
use Rattle.jsonc_sound.specs.EntryLaws.{AreComments, LosesMarks}
use Rattle.jsonc_sound.specs.Leaving.{AreInlineTrivia, among, ElementRemoved, with_comma_behind, with_comma_before, with_no_comma, ClosesUp, stays, closes_up}
use Rattle.jsonc_sound.proofs.RowParts.{beside_trivia, rest_trivia, between_trivia, line_trivia}

-- marks of rows, one after another
row_marks : (front back : OrderedTree) → marks (followed_by front back) ≡ marks front ++ marks back
row_marks front back = ap marks_of (leaves-followed_by front back) ∙ marks_join (leaves front) (leaves back)

-- a container has no mark of its own
leaf_marks : (content : Content) (rest : List Content) → marks_of (own_leaf content ++ rest) ≡ marks_of (content ∷ rest)
leaf_marks Content.root rest = refl
leaf_marks Content.object rest = refl
leaf_marks Content.array rest = refl
leaf_marks Content.property rest = refl
leaf_marks (Content.string s) rest = refl
leaf_marks (Content.word s) rest = refl
leaf_marks (Content.number s) rest = refl
leaf_marks (Content.boolean b) rest = refl
leaf_marks Content.null rest = refl
leaf_marks (Content.token c) rest = refl
leaf_marks (Content.whitespace s) rest = refl
leaf_marks (Content.newline k) rest = refl
leaf_marks (Content.comment s) rest = refl

stretch_marks : (cs : List Content) (back : OrderedTree) → marks (leaves_then cs back) ≡ marks_of cs ++ marks back
stretch_marks [] back = refl
stretch_marks (c ∷ cs) back =
    leaf_marks c (leaves (leaves_then cs back)) ∙ marks_join (c ∷ []) (leaves (leaves_then cs back)) ∙ ap (λ ms. marks_of (c ∷ []) ++ ms) (stretch_marks cs back)
    ∙ sym (append_assoc (marks_of (c ∷ [])) (marks_of cs) (marks back)) ∙ ap (λ ms. ms ++ marks back) (sym (marks_join (c ∷ []) cs))

node_marks : (top : Top) (back : OrderedTree) → marks (more top.content top.below back) ≡ marks_under top ++ marks back
node_marks top back = ap marks_of (sym (append_assoc (own_leaf top.content) (leaves top.below) (leaves back))) ∙ marks_join (leaves_of top) (leaves back)

among_marks : (before line : List Content) (top : Top) (back : OrderedTree) → marks (among before top line back) ≡ marks_of before ++ (marks_under top ++ (marks_of line ++ marks back))
among_marks before line top back =
    stretch_marks before (more top.content top.below (leaves_then line back))
    ∙ ap (λ ms. marks_of before ++ ms) (node_marks top (leaves_then line back) ∙ ap (λ ms. marks_under top ++ ms) (stretch_marks line back))

-- marks in the middle
middle : (front leading own trailing back : List Mark) → front ++ (leading ++ (own ++ (trailing ++ back))) ≡ front ++ ((leading ++ (own ++ trailing)) ++ back)
middle front leading own trailing back = ap (λ ms. front ++ ms) (ap (λ ms. leading ++ ms) (sym (append_assoc own trailing back)) ∙ sym (append_assoc leading (own ++ trailing) back))

go : (top : Top) (front leading trailing back x y : List Mark) → AreComments leading → AreComments trailing
    → x ≡ front ++ (leading ++ (marks_under top ++ (trailing ++ back))) → y ≡ front ++ back → LosesMarks top x y
go top front leading trailing back x y l t e f = record {
  leading = leading;
  trailing = trailing;
  comments_before = l;
  comments_behind = t;
  gone = record { front = front; back = back; before = e ∙ middle front leading (marks_under top) trailing back; after = f };
}

comments_join : (first second : List Mark) → AreComments first → AreComments second → AreComments (first ++ second)
comments_join first second e f = filter-append is_comment first second ∙ ap (λ ms. ms ++ comments_of second) e ∙ ap (λ ms. first ++ ms) f

beside_comments : (cs : List Content) → AreInlineTrivia cs → AreComments (marks_of cs)
beside_comments cs h = trivia_has_comments cs (beside_trivia cs h)

row_loses : (top : Top) (i : ℕ) (row left : OrderedTree) → ElementRemoved top i row left → LosesMarks top (marks row) (marks left)
row_loses top i row left (with_comma_behind front back before between line e b l m) =
    let rest : OrderedTree = more (token 0x2C) none (leaves_then line back) in
    let behind : marks_of between ++ marks rest ≡ (marks_of between ++ marks_of line) ++ marks back =
    ap (λ ms. marks_of between ++ ms) (stretch_marks line back) ∙ sym (append_assoc (marks_of between) (marks_of line) (marks back)) in
    go top (marks front) (marks_of before) (marks_of between ++ marks_of line) (marks back) (marks row) (marks left)
    (beside_comments before b)
    (comments_join (marks_of between) (marks_of line) (trivia_has_comments between (between_trivia l)) (trivia_has_comments line (line_trivia l)))
    (row_marks front (among before top between rest) ∙ ap (λ ms. marks front ++ ms) (among_marks before between top rest ∙ ap (λ ms. marks_of before ++ (marks_under top ++ ms)) behind))
    (row_marks front back)
row_loses top i row left (with_comma_before front mid back before line e c b l n m k) =
    let inner : OrderedTree = among before top line back in
    go top (marks front ++ marks mid) (marks_of before) (marks_of line) (marks back) (marks row) (marks left)
    (beside_comments before b)
    (trivia_has_comments line (rest_trivia line l))
    (row_marks front (more (token 0x2C) none (followed_by mid inner))
    ∙ ap (λ ms. marks front ++ ms) (row_marks mid inner)
    ∙ sym (append_assoc (marks front) (marks mid) (marks inner))
    ∙ ap (λ ms. (marks front ++ marks mid) ++ ms) (among_marks before line top back))
    (row_marks front (followed_by mid back) ∙ ap (λ ms. marks front ++ ms) (row_marks mid back) ∙ sym (append_assoc (marks front) (marks mid) (marks back)))
row_loses top i row left (with_no_comma front back before line e c b l n m) =
    go top (marks front) (marks_of before) (marks_of line) (marks back) (marks row) (marks left)
    (beside_comments before b)
    (trivia_has_comments line (rest_trivia line l))
    (row_marks front (among before top line back) ∙ ap (λ ms. marks front ++ ms) (among_marks before line top back))
    (row_marks front back)

closed_marks : {left new : OrderedTree} → ClosesUp left new → marks left ≡ marks new
closed_marks stays = refl
closed_marks (closes_up blanks {c = c} h) = stretch_marks blanks (more (token c) none none) ∙ ap (λ ms. ms ++ marks (more (token c) none none)) (blanks_unmarked blanks h)

-- a change in a stretch that has changed
inside_of : (f g s c b : List Mark) → f ++ ((g ++ (s ++ c)) ++ b) ≡ (f ++ g) ++ (s ++ (c ++ b))
inside_of f g s c b = ap (λ l. f ++ l) (append_assoc g (s ++ c) b ∙ ap (λ l. g ++ l) (append_assoc s c b)) ∙ sym (append_assoc f g (s ++ (c ++ b)))

within : {was now x y s t : List Mark} → MarksDifferIn x y s t → MarksDifferIn was now x y → MarksDifferIn was now s t
within {was} {now} d k = record {
  front = d.front ++ k.front;
  back = k.back ++ d.back;
  before = d.before ∙ ap (λ l. d.front ++ (l ++ d.back)) k.before ∙ inside_of d.front k.front was k.back d.back;
  after = d.after ∙ ap (λ l. d.front ++ (l ++ d.back)) k.after ∙ inside_of d.front k.front now k.back d.back;
}

all_lose : (top : Top) (x y s t : List Mark) → MarksDifferIn x y s t → LosesMarks top x y → LosesMarks top s t
all_lose top x y s t d k = record { leading = k.leading; trailing = k.trailing; comments_before = k.comments_before; comments_behind = k.comments_behind; gone = within d k.gone }

-- brackets have no marks
container_marks : (kind : RowKind) (row : OrderedTree) → marks_under (container_of kind row) ≡ marks row
container_marks of_values row = refl
container_marks of_properties row = refl

pub document_loses_marks : (t : OrderedTree) (kind : RowKind) (top : Top) (i : ℕ) (row left new : OrderedTree) (path : List ℕ) (u : OrderedTree)
    → DocumentChanged (container_of kind row) (container_of kind new) path t u → ElementRemoved top i row left → ClosesUp left new → LosesMarks top (marks t) (marks u)
document_loses_marks t kind top i row left new path u d e c =
    let outer = values_marks t (container_of kind row) (container_of kind new) path u d in
    let rows : MarksDifferIn (marks row) (marks new) (marks t) (marks u) =
    subst (λ ms. MarksDifferIn ms (marks new) (marks t) (marks u)) (container_marks kind row)
    (subst (λ ms. MarksDifferIn (marks_under (container_of kind row)) ms (marks t) (marks u)) (container_marks kind new) outer) in
    all_lose top (marks row) (marks new) (marks t) (marks u) rows (subst (λ ms. LosesMarks top (marks row) ms) (closed_marks c) (row_loses top i row left e))
