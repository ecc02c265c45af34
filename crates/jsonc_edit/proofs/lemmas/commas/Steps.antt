-- The comma of one array or object of a sound document is set: what both kinds of steps rest on.
use Rattle.std.proofs.Common.{◌≡◌, ◌∙◌, sym, ap, refl, ℕ, ◌<◌, true, false, List, [], ◌∷◌, ◌++◌, length, IsTrue}
use Rattle.std.proofs.lemmas.Bool.{false≢true}
use Rattle.jsonc_text.specs.Options.{Options}
use Rattle.jsonc_tree.specs.Content.{Content, is_container, token}
use Rattle.jsonc_tree.specs.OrderedTree.{OrderedTree, Top, none, more, followed_by, leaves, ordered_tree}
use Rattle.jsonc_tree.specs.Tree.{Node, content_at, children_at, IsTree, IsOver}
use Rattle.jsonc_tree.proofs.OrderedTrees.{leaves-followed_by}
use Rattle.jsonc_layout.specs.nodes.Kinds.{is_element, is_element_at}
use Rattle.jsonc_sound.specs.Shape.{IsTrivia, token_then}
use Rattle.jsonc_sound.specs.Marks.{marks, marks_of}
use Rattle.jsonc_sound.specs.MarkChanges.{marks_under}
use Rattle.jsonc_sound.specs.Rows as rows
use Rattle.jsonc_sound.specs.Rows.{RowKind, container_of, holder, opening}
use Rattle.jsonc_sound.specs.SoundTrees.{SoundTree}
use Rattle.jsonc_sound.specs.TreeChanges.{DocumentChanged}
use Rattle.jsonc_sound.proofs.ReplacedStretches.{marks_join, values_marks}
use Rattle.jsonc_edit.specs.Changes.{row_below}
use Rattle.jsonc_edit.specs.Paths.{IsAt}
use Rattle.jsonc_edit.proofs.FittingNodes.{over_there}
use Rattle.jsonc_edit.specs.commas.InTurn.{holds_at}
use Rattle.jsonc_edit.specs.commas.Laws.{OnlyCommas, closes_bare, closes_next}
use Rattle.jsonc_text.specs.declared.edit.TrailingCommaMode.{TrailingCommaMode}
use Rattle.jsonc_text.proofs.Basics.{heads}
use Rattle.jsonc_edit.proofs.lemmas.commas.CommaRows.{comma_first, Closing, bracket, behind}
use Rattle.jsonc_edit.proofs.lemmas.commas.Holders.{held, holder_path, value_at_path, Held}
use Rattle.jsonc_edit.proofs.Standing.{row_stands, standing}

pub comma_leaf : (w : Content) → w ≡ token 0x2C → is_container w ≡ false
comma_leaf w e = ap is_container e

-- no comma comes first where the row closes
pub closing_lacks : (o : Options) (kind : RowKind) {row : OrderedTree} → Closing o kind row → comma_first row ≡ false
closing_lacks o kind bracket = by kind
  where
    by : (k : RowKind) → comma_first (token_then (rows.closing k) none) ≡ false
    by rows.of_values = refl
    by rows.of_properties = refl
closing_lacks o kind (behind {content = content} {after = after} t c) = by content t (closing_lacks o kind c)
  where
    by : (w : Content) → IsTrivia o w → comma_first after ≡ false → comma_first (more w none after) ≡ false
    by (Content.whitespace s) h e = e
    by (Content.newline k) h e = e
    by (Content.comment s) h e = e
    by w h e = absurd h

-- past trivia it comes to its last bracket
pub closing_next : (o : Options) (kind : RowKind) {row : OrderedTree} → Closing o kind row → IsTrue (closes_next row)
closing_next o kind bracket = by kind
  where
    by : (k : RowKind) → IsTrue (closes_next (token_then (rows.closing k) none))
    by rows.of_values = refl
    by rows.of_properties = refl
closing_next o kind (behind {content = content} {after = after} t c) = by content after t (closing_next o kind c)
  where
    by : (w : Content) (a : OrderedTree) → IsTrivia o w → IsTrue (closes_next a) → IsTrue (closes_next (more w none a))
    by w none h e = cc
    by (Content.whitespace s) (more x y z) h e = e
    by (Content.newline k) (more x y z) h e = e
    by (Content.comment s) (more x y z) h e = e
    by w (more x y z) h e = absurd h

pub closing_bare : (o : Options) (kind : RowKind) {row : OrderedTree} → Closing o kind row → IsTrue (closes_bare row)
closing_bare o kind bracket = by kind
  where
    by : (k : RowKind) → IsTrue (closes_bare (token_then (rows.closing k) none))
    by rows.of_values = refl
    by rows.of_properties = refl
closing_bare o kind (behind {content = content} {after = after} t c) = by content after t (closing_bare o kind c)
  where
    by : (w : Content) (a : OrderedTree) → IsTrivia o w → IsTrue (closes_bare a) → IsTrue (closes_bare (more w none a))
    by w none h e = cc
    by (Content.whitespace s) (more x y z) h e = e
    by (Content.newline k) (more x y z) h e = e
    by (Content.comment s) (more x y z) h e = e
    by w (more x y z) h e = absurd h

-- a comma has no mark
pub marks_comma : (front back : OrderedTree) → marks (followed_by front (token_then 0x2C back)) ≡ marks (followed_by front back)
marks_comma front back =
    ap marks_of (leaves-followed_by front (token_then 0x2C back)) ∙ marks_join (leaves front) (token 0x2C ∷ leaves back)
    ∙ sym (ap marks_of (leaves-followed_by front back) ∙ marks_join (leaves front) (leaves back))

pub under_bracket : (kind : RowKind) (row : OrderedTree) → marks_under (container_of kind row) ≡ marks row
under_bracket rows.of_values row = refl
under_bracket rows.of_properties row = refl

pub same_marks : {was now : Top} {path : List ℕ} (t u : OrderedTree) → DocumentChanged was now path t u → marks_under now ≡ marks_under was → marks u ≡ marks t
same_marks {was} {now} {path} t u changed same =
    let d = values_marks t was now path u changed in
    d.after ∙ ap (λ ms. d.front ++ (ms ++ d.back)) same ∙ sym d.before

-- what a step makes of the document
pub record Step (mode : TrailingCommaMode) (o : Options) (t u : OrderedTree) : Type 0 where
  pub sound : SoundTree o u
  pub marks : marks u ≡ marks t
  pub commas : OnlyCommas mode t u

open_no_element : (kind : RowKind) (w : Content) → w ≡ token (opening kind) → is_element w ≡ true → ⊥
open_no_element kind w e h = false≢true (sym (ap is_element e) ∙ h)

-- the row of an array or object behind its first bracket
pub record Inside (o : Options) (ns : List Node) (c : ℕ) : Type 0 where
  pub kind : RowKind
  pub open_with : ℕ
  pub rest : List ℕ
  pub is : content_at ns c ≡ holder kind
  pub children : children_at ns c ≡ open_with ∷ rest
  pub opens : content_at ns open_with ≡ token (opening kind)
  pub bare : row_below ns open_with ≡ none

module _ (o : Options) (ns : List Node) (tree : IsTree ns) (sound : SoundTree o (ordered_tree ns 0)) (c : ℕ) (over : IsOver ns 0 c) (holds : IsTrue (holds_at ns c)) where
  pub path : (path : List ℕ) × IsAt ns path c
  path = holder_path o ns tree sound c over holds

  there : c < length ns
  there = over_there ns tree c over

  h : Held o (content_at ns c) (row_below ns c)
  h = held o holds (value_at_path o ns tree sound path.0 c path.1)

  pub inside : Inside o ns c
  inside = by (children_at ns c) refl (sym (row_stands ns tree c there) ∙ h.under)
    where
      by : (kids : List ℕ) → children_at ns c ≡ kids → standing ns (children_at ns c) ≡ token_then (opening h.kind) h.row → Inside o ns c
      by [] e same = absurd (let wrong : none ≡ token_then (opening h.kind) h.row = sym (ap (standing ns) e) ∙ same in cc)
      by (x ∷ rest) e same =
          let whole : more (content_at ns x) (row_below ns x) (standing ns rest) ≡ token_then (opening h.kind) h.row = sym (ap (standing ns) e) ∙ same in
          record {
            kind = h.kind;
            open_with = x;
            rest = rest;
            is = h.is;
            children = e;
            opens = (let one : content_at ns x ≡ token (opening h.kind) = cc in one);
            bare = (let two : row_below ns x ≡ none = cc in two);
          }

-- which is not an element, so it stands before each
pub record BracketFirst (x : ℕ) (front : List ℕ) : Type 0 where
  pub rest : List ℕ
  pub is : front ≡ x ∷ rest

pub bracket_first : (o : Options) (ns : List Node) (c n : ℕ) (front back : List ℕ) (i : Inside o ns c) → is_element_at ns n ≡ true → children_at ns c ≡ front ++ n ∷ back → BracketFirst i.open_with front
bracket_first o ns c n [] back i e are =
    let same : i.open_with ≡ n = heads (sym i.children ∙ are) in
    absurd (open_no_element i.kind (content_at ns n) (ap (content_at ns) (sym same) ∙ i.opens) e)
bracket_first o ns c n (x ∷ front) back i e are = record { rest = front; is = ap (λ y. y ∷ front) (sym (heads (sym i.children ∙ are))) }
