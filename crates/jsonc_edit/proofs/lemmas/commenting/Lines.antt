-- Line comments of a row into which leaves come.
use Rattle.std.proofs.Common.{◌≡◌, ◌∙◌, ℕ, Bool, true, false, List, [], ◌∷◌, IsTrue, refl, sym, subst}
use Rattle.jsonc_tree.specs.Content.{Content, comment}
use Rattle.jsonc_tree.specs.OrderedTree.{OrderedTree, none, more, followed_by}
use Rattle.jsonc_tree.specs.declared.node.CstNewlineKind.{CstNewlineKind}
use Rattle.jsonc_layout.specs.nodes.Kinds.{is_whitespace}
use Rattle.jsonc_sound.specs.Lines.{is_line_comment, ends_loosely, LinesEndLoosely}
use Rattle.jsonc_sound.specs.TriviaChanges.{leaves_then}
use Rattle.jsonc_sound.proofs.LooseChanges.{joined_loosely, parted_loosely}
use Rattle.jsonc_sound.proofs.LinesLeft.{lines_more}
use Rattle.jsonc_edit.specs.commenting.Above.{new_line, own_line}
use Rattle.jsonc_edit.specs.Put.{a_space}
use Rattle.jsonc_edit.proofs.lemmas.remove.PartedTrivia.{both}

-- what ends a line before no end ends it before any
end_any : (loose b : Bool) (row : OrderedTree) → IsTrue (ends_loosely loose false row) → IsTrue (ends_loosely loose b row)
end_any loose b none h = cc
end_any loose b (more (Content.newline k) below after) h = refl
end_any loose b (more (Content.whitespace s) below after) h = both loose (ends_loosely loose false after) (ends_loosely loose b after) (end_any loose b after) h
end_any loose b (more content below after) h = cc

pub never : (b : Bool) → (IsTrue b → ⊥) → b ≡ false
never true f = absurd (f refl)
never false f = refl

-- where what stands behind the place ends no line, a line comment before it has ended before
pub lines_before : (loose at_end : Bool) (front back now : OrderedTree) → ends_loosely loose at_end back ≡ false → (LinesEndLoosely loose at_end back → LinesEndLoosely loose at_end now)
    → LinesEndLoosely loose at_end (followed_by front back) → LinesEndLoosely loose at_end (followed_by front now)
lines_before loose at_end front back now none_ends k l =
    let parts = parted_loosely loose at_end front back l in
    joined_loosely loose at_end front now (lines_more loose (ends_loosely loose at_end now) front (subst (λ b. LinesEndLoosely loose b front) none_ends parts.0)) (k parts.1)

-- each node of the row is whitespace
abbrev pub AllBlank : OrderedTree → Type 0
AllBlank none = Unit {0}
AllBlank (more content below after) = IsTrue (is_whitespace content) × (below ≡ none) × AllBlank after

blank_no_line : (content : Content) → IsTrue (is_whitespace content) → IsTrue (is_line_comment content) → ⊥
blank_no_line (Content.whitespace s) h l = cc
blank_no_line content h l = cc

blanks_any : (loose a b : Bool) (row : OrderedTree) → AllBlank row → LinesEndLoosely loose a row → LinesEndLoosely loose b row
blanks_any loose a b none h l = tt
blanks_any loose a b (more content below after) h l = (λ k. absurd (blank_no_line content h.0 k), l.1, blanks_any loose a b after h.2 l.2)

-- a node that ends no line, and is no line comment
pub record Solid (content : Content) : Type 0 where
  pub no_end : (loose at_end : Bool) (below after : OrderedTree) → ends_loosely loose at_end (more content below after) ≡ false
  pub no_line : IsTrue (is_line_comment content) → ⊥

-- behind such a node and whitespace no line comment waits for its end
pub lines_behind : (loose a b : Bool) (front : OrderedTree) (content : Content) (below blanks : OrderedTree) → Solid content → AllBlank blanks
    → LinesEndLoosely loose a (followed_by front (more content below blanks)) → LinesEndLoosely loose b (followed_by front (more content below blanks))
lines_behind loose a b front content below blanks solid h l =
    let parts = parted_loosely loose a front (more content below blanks) l in
    let same : ends_loosely loose a (more content below blanks) ≡ ends_loosely loose b (more content below blanks) = solid.no_end loose a below blanks ∙ sym (solid.no_end loose b below blanks) in
    joined_loosely loose b front (more content below blanks) (subst (λ e. LinesEndLoosely loose e front) same parts.0) (λ k. absurd (solid.no_line k), parts.1.1, blanks_any loose a b blanks h parts.1.2)

pub lines_past : (loose at_end : Bool) (front : OrderedTree) (content : Content) (below blanks back now : OrderedTree) → Solid content → AllBlank blanks → (LinesEndLoosely loose at_end back → LinesEndLoosely loose at_end now)
    → LinesEndLoosely loose at_end (followed_by (followed_by front (more content below blanks)) back) → LinesEndLoosely loose at_end (followed_by (followed_by front (more content below blanks)) now)
lines_past loose at_end front content below blanks back now solid h k l =
    let parts = parted_loosely loose at_end (followed_by front (more content below blanks)) back l in
    joined_loosely loose at_end (followed_by front (more content below blanks)) now (lines_behind loose (ends_loosely loose at_end back) (ends_loosely loose at_end now) front content below blanks solid h parts.0) (k parts.1)

-- the comment's own line ends
pub own_line_ends : (loose at_end : Bool) (kind : CstNewlineKind) (text indent : List ℕ) (back : OrderedTree) → LinesEndLoosely loose at_end back → LinesEndLoosely loose at_end (leaves_then (own_line kind text indent) back)
own_line_ends loose at_end kind text indent back l = (λ h. refl, tt, (λ h. cc, tt, (λ h. cc, tt, l)))

pub new_line_ends : (loose at_end : Bool) (kind : CstNewlineKind) (indent text rest : List ℕ) (back : OrderedTree) → LinesEndLoosely loose at_end back
    → LinesEndLoosely loose at_end (leaves_then (new_line kind indent (own_line kind text rest)) back)
new_line_ends loose at_end kind indent text rest back l = (λ h. cc, tt, (λ h. cc, tt, own_line_ends loose at_end kind text rest back l))

-- and a comment behind a space ends where its line does
pub space_line_ends : (loose at_end : Bool) (text : List ℕ) (back : OrderedTree) → (IsTrue (is_line_comment (comment text)) → IsTrue (ends_loosely loose at_end back)) → LinesEndLoosely loose at_end back
    → LinesEndLoosely loose at_end (leaves_then (a_space ∷ comment text ∷ []) back)
space_line_ends loose at_end text back f l = (λ h. cc, tt, (f, tt, l))
