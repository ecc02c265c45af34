-- Line comments of rows that are parted.
use Rattle.std.proofs.Common.{ℕ, ◌≡◌, subst, refl, Bool, true, false, not, ◌&&◌, List, [], ◌∷◌, IsTrue}
use Rattle.jsonc_tree.specs.Content.{Content}
use Rattle.jsonc_tree.specs.OrderedTree.{OrderedTree, none, more}
use Rattle.jsonc_layout.specs.nodes.Kinds.{is_inline_trivia}
use Rattle.jsonc_sound.specs.Lines.{is_line_comment}
use Rattle.jsonc_sound.specs.Shape.{token_then}
use Rattle.jsonc_sound.specs.Rows as rows
use Rattle.jsonc_sound.specs.Rows.{RowKind, container_of}
use Rattle.jsonc_tree.specs.OrderedTree.{Top}
use Rattle.jsonc_sound.specs.TreeChanges.{ElementChanged, this_element, passed, later_element, ValueChanged, itself, in_array, in_object, DocumentChanged, in_root}
use Rattle.jsonc_sound.specs.TriviaChanges.{leaves_then}
use Rattle.jsonc_sound.specs.Lines.{is_loose, ends_loosely, LinesEndLoosely, DocumentLinesEndLoosely}
use Rattle.jsonc_sound.specs.Leaving.{ends_apart, among}

-- behind leaves, and behind a node among them
pub lines_past : (loose at_end : Bool) (ls : List Content) (r : OrderedTree) → LinesEndLoosely loose at_end (leaves_then ls r) → LinesEndLoosely loose at_end r
lines_past loose at_end [] r l = l
lines_past loose at_end (content ∷ rest) r l = lines_past loose at_end rest r l.2

pub lines_among : (loose at_end : Bool) (before : List Content) (top : Top) (behind : List Content) (r : OrderedTree) → LinesEndLoosely loose at_end (among before top behind r) → LinesEndLoosely loose at_end r
lines_among loose at_end before top behind r l = lines_past loose at_end behind r (lines_past loose at_end before (more top.content top.below (leaves_then behind r)) l).2

-- where the row's own end does not serve, line comments end whatever comes
both : (a b c : Bool) → (IsTrue b → IsTrue c) → IsTrue (a && b) → IsTrue (a && c)
both true b c f h = f h
both false b c f h = h

first_more : (loose at_end : Bool) (row : OrderedTree) → IsTrue (ends_loosely loose false row) → IsTrue (ends_loosely loose at_end row)
first_more loose at_end none h = cc
first_more loose at_end (more (Content.newline k) below after) h = refl
first_more loose at_end (more (Content.whitespace s) below after) h = both loose (ends_loosely loose false after) (ends_loosely loose at_end after) (first_more loose at_end after) h
first_more loose at_end (more content below after) h = cc

pub lines_more : (loose at_end : Bool) (row : OrderedTree) → LinesEndLoosely loose false row → LinesEndLoosely loose at_end row
lines_more loose at_end none l = tt
lines_more loose at_end (more content below after) l = (λ h. first_more loose at_end after (l.0 h), l.1, lines_more loose at_end after l.2)

-- so it is where what is last is neither whitespace nor a comment
line_beside : (content : Content) → IsTrue (is_line_comment content) → IsTrue (not (is_inline_trivia content)) → ⊥
line_beside (Content.comment s) h k = cc
line_beside content h k = cc

first_apart : (loose one other : Bool) (content : Content) (below after : OrderedTree) → IsTrue (ends_apart (more content below after)) → IsTrue (ends_loosely loose one (more content below after)) → IsTrue (ends_loosely loose other (more content below after))
first_apart loose one other (Content.newline k) below after e h = refl
first_apart loose one other (Content.whitespace s) below none e h = cc
first_apart loose one other (Content.whitespace s) below (more next under after) e h =
    both loose (ends_loosely loose one (more next under after)) (ends_loosely loose other (more next under after)) (first_apart loose one other next under after e) h
first_apart loose one other content below after e h = cc

pub lines_apart : (loose one other : Bool) (row : OrderedTree) → IsTrue (ends_apart row) → LinesEndLoosely loose one row → LinesEndLoosely loose other row
lines_apart loose one other none e l = tt
lines_apart loose one other (more content below none) e l = (λ h. absurd (line_beside content h e), l.1, tt)
lines_apart loose one other (more content below (more next under after)) e l = (λ h. first_apart loose one other next under after e (l.0 h), l.1, lines_apart loose one other (more next under after) e l.2)

-- behind a token
pub apart_behind : (c : ℕ) (row : OrderedTree) → IsTrue (ends_apart (token_then c row)) → IsTrue (ends_apart row)
apart_behind c none e = refl
apart_behind c (more content below after) e = e

-- those of what is replaced
row_held : {x y : Top} {i : ℕ} {row new : OrderedTree} (loose at_end : Bool) → ElementChanged x y i row new → LinesEndLoosely loose at_end row → LinesEndLoosely (is_loose x.content) false x.below
row_held loose at_end (this_element p q) l = l.1
row_held loose at_end (passed p k) l = row_held loose at_end k l.2
row_held loose at_end (later_element p k) l = row_held loose at_end k l.2

value_held : {was now : Top} {path : List ℕ} {x y : Top} → ValueChanged was now path x y → LinesEndLoosely (is_loose x.content) false x.below → LinesEndLoosely (is_loose was.content) false was.below
value_held itself l = l
value_held (in_array e h) l = value_held h (row_held true false e l)
value_held (in_object e g h) l = value_held h (row_held false false g (row_held true false e l))

document_held : {was now : Top} {path : List ℕ} {t u : OrderedTree} → DocumentChanged was now path t u → DocumentLinesEndLoosely t → LinesEndLoosely (is_loose was.content) false was.below
document_held (in_root {row = row} e h) (below, same, l) =
    let first : below ≡ row = cc in
    value_held h (row_held false true e (subst (LinesEndLoosely false true) first l))

container_lines : (kind : RowKind) (row : OrderedTree) → LinesEndLoosely (is_loose (container_of kind row).content) false (container_of kind row).below → LinesEndLoosely true false row
container_lines rows.of_values row l = l.2
container_lines rows.of_properties row l = l.2

pub row_lines : {now : Top} {path : List ℕ} {t u : OrderedTree} (kind : RowKind) (row : OrderedTree) → DocumentChanged (container_of kind row) now path t u → DocumentLinesEndLoosely t → LinesEndLoosely true false row
row_lines kind row c l = container_lines kind row (document_held c l)
