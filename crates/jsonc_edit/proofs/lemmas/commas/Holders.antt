-- An array or object of a sound document: its path, and its row.
use Rattle.std.proofs.Common.{◌≡◌, ◌≢◌, ◌∙◌, sym, ap, subst, refl, ℕ, zero, suc, ◌<◌, true, false, cond, List, [], ◌∷◌, ◌++◌, length, filter, get_or, slice_get, Some, IsTrue, arith}
use Rattle.std.proofs.lemmas.Bool.{false≢true}
use Rattle.jsonc_text.specs.Options.{Options}
use Rattle.jsonc_tree.specs.Content.{Content, array, object, property, token}
use Rattle.jsonc_tree.specs.OrderedTree.{OrderedTree, none, more, followed_by, ordered_tree}
use Rattle.jsonc_tree.specs.Tree.{Node, content_at, children_at, parent_at, place_at, IsTree, IsOver}
use Rattle.jsonc_tree.specs.Values.{is_passed_over}
use Rattle.jsonc_tree.proofs.Order.{over_step, parent_there}
use Rattle.jsonc_layout.specs.nodes.Kinds.{is_element, is_element_at}
use Rattle.jsonc_layout.specs.lines.Kinds.{is_array_or_object}
use Rattle.jsonc_sound.specs.Shape.{IsLiteralBefore, IsNameBefore, IsTrivia, token_then}
use Rattle.jsonc_sound.specs.Alone as alone
use Rattle.jsonc_sound.specs.Alone.{PartAlone, PropertyAlone, RowAlone, ValueAlone}
use Rattle.jsonc_sound.specs.Rows as rows
use Rattle.jsonc_sound.specs.Rows.{RowKind, of_values, of_properties, closing, holder, Last, opening}
use Rattle.jsonc_sound.specs.SoundTrees.{SoundTree}
use Rattle.jsonc_sound.specs.TreeChanges.{IsElement, DocumentChanged}
use Rattle.jsonc_sound.proofs.NodesAlone.{value_alone}
use Rattle.jsonc_sound.proofs.HeldValues.{document_held}
use Rattle.jsonc_sound.proofs.SeamStretches.{parted_row}
use Rattle.jsonc_edit.specs.Changes.{row_below, top_at}
use Rattle.jsonc_edit.specs.Paths.{IsAt, IsElementOf, as_root, as_value, as_property, as_name, between}
use Rattle.jsonc_edit.proofs.ShapedPlaces.{all_stand}
use Rattle.jsonc_edit.proofs.Uniqueness.{element_parent}
use Rattle.jsonc_edit.proofs.ChangesUpward.{changed_over}
use Rattle.jsonc_edit.specs.commas.InTurn.{holds_at}
use Rattle.jsonc_edit.proofs.Standing.{row_stands, standing, standing_then}

-- nothing has changed
pub same_document : (ns : List Node) → IsTree ns → (path : List ℕ) (c : ℕ) → IsAt ns path c → DocumentChanged (top_at ns c) (top_at ns c) path (ordered_tree ns 0) (ordered_tree ns 0)
same_document ns tree path c at = changed_over ns ns c (record { tree = tree; content = λ n ne. refl; children = λ n ne. refl }) tree refl c IsOver.itself (λ e. e) path at

-- a value at a path is one alone
pub value_at_path : (o : Options) (ns : List Node) → IsTree ns → SoundTree o (ordered_tree ns 0) → (path : List ℕ) (c : ℕ) → IsAt ns path c → ValueAlone o (content_at ns c) (row_below ns c)
value_at_path o ns tree sound path c at = value_alone o (document_held o (same_document ns tree path c at) sound.shaped).1

no_property : (o : Options) {content : Content} {below : OrderedTree} → ValueAlone o content below → content ≡ property → ⊥
no_property o (alone.literal {content = content} l) e = subst (λ c. IsLiteralBefore o c []) e l
no_property o (alone.an_array g) e = cc
no_property o (alone.an_object g) e = cc

-- what is a container, and the row behind its first bracket
pub record Held (o : Options) (content : Content) (below : OrderedTree) : Type 0 where
  pub kind : RowKind
  pub row : OrderedTree
  pub is : content ≡ holder kind
  pub under : below ≡ token_then (opening kind) row
  pub alone : RowAlone o kind rows.nothing_yet row

pub no_literal : (o : Options) (content : Content) → IsTrue (is_array_or_object content) → IsLiteralBefore o content [] → ⊥
no_literal o array h l = l
no_literal o object h l = l
no_literal o content h l = cc

pub held : (o : Options) {content : Content} {below : OrderedTree} → IsTrue (is_array_or_object content) → ValueAlone o content below → Held o content below
held o h (alone.literal {content = content} l) = absurd (no_literal o content h l)
held o h (alone.an_array {row = row} g) = record { kind = of_values; row = row; is = refl; under = refl; alone = g }
held o h (alone.an_object {row = row} g) = record { kind = of_properties; row = row; is = refl; under = refl; alone = g }

-- the first of a row, where it is an element

module _ (o : Options) (kind : RowKind) where
  element_no_trivia : (content : Content) → IsElement content → IsTrivia o content → ⊥
  element_no_trivia (Content.whitespace s) e t = cc
  element_no_trivia (Content.newline k) e t = cc
  element_no_trivia (Content.comment s) e t = cc
  element_no_trivia content e t = t

  first_part : {last : Last} {row : OrderedTree} (content : Content) (below after : OrderedTree) → IsElement content → row ≡ more content below after → RowAlone o kind last row → PartAlone o kind content below
  first_part content below after e same (alone.closes m) = let is : token (closing kind) ≡ content = cc in let wrong : IsElement (token (closing kind)) = subst IsElement (sym is) e in cc
  first_part content below after e same (alone.trivia {content = c} t g) = let is : c ≡ content = cc in absurd (element_no_trivia content e (subst (IsTrivia o) is t))
  first_part content below after e same (alone.element {content = c} {below = b} m p g) =
      let is : c ≡ content = cc in
      let under : b ≡ below = cc in
      subst (λ t. PartAlone o kind content t) under (subst (λ w. PartAlone o kind w b) is p)
  first_part content below after e same (alone.comma g) = let is : token 0x2C ≡ content = cc in let wrong : IsElement (token 0x2C) = subst IsElement (sym is) e in cc

the_property : (o : Options) {kind : RowKind} {content : Content} {below : OrderedTree} → PartAlone o kind content below → content ≡ property → PropertyAlone o below
the_property o (alone.a_value v) e = absurd (no_property o v e)
the_property o (alone.a_property p) e = p

-- the first of a property's row is its name, which is no container
no_name_holds : (o : Options) (content : Content) → IsNameBefore o content [] → is_array_or_object content ≡ false
no_name_holds o (Content.string s) h = refl
no_name_holds o (Content.word s) h = refl
no_name_holds o content h = absurd h

name_element : (o : Options) (content : Content) → IsNameBefore o content [] → is_element content ≡ true
name_element o (Content.string s) h = refl
name_element o (Content.word s) h = refl
name_element o content h = absurd h

record NameFirst (o : Options) (row : OrderedTree) : Type 0 where
  name : Content
  after : OrderedTree
  are : row ≡ more name none after
  named : IsNameBefore o name []

name_first : (o : Options) {row : OrderedTree} → PropertyAlone o row → NameFirst o row
name_first o (alone.named {name = name} {after = after} n t u v) = record { name = name; after = after; are = refl; named = n }

first_element : (o : Options) (ns : List Node) (xs : List ℕ) (n : ℕ) → NameFirst o (standing ns xs) → slice_get (filter (is_element_at ns) xs) 0 ≡ Some n → IsNameBefore o (content_at ns n) []
first_element o ns [] n f e = let wrong : none ≡ more f.name none f.after = f.are in cc
first_element o ns (x ∷ xs) n f e =
    let is : content_at ns x ≡ f.name = (let whole : more (content_at ns x) (row_below ns x) (standing ns xs) ≡ more f.name none f.after = f.are in cc) in
    let one : is_element_at ns x ≡ true = ap is_element is ∙ name_element o f.name f.named in
    let same : Some x ≡ Some n = ap (λ b. slice_get (cond b (x ∷ filter (is_element_at ns) xs) (filter (is_element_at ns) xs)) 0) (sym one) ∙ e in
    let it : x ≡ n = cc in
    subst (λ c. IsNameBefore o c []) (sym is ∙ ap (content_at ns) it) f.named

-- a child splits its row
pub child_split : (xs : List ℕ) (k n : ℕ) → k < length xs → get_or xs k 0 ≡ n → (front : List ℕ) × (back : List ℕ) × (xs ≡ front ++ n ∷ back)
child_split [] k n h e = absurd (omega arith)
child_split (x ∷ xs) zero n h e = ([], xs, ap (λ y. y ∷ xs) e)
child_split (x ∷ xs) (suc k) n h e = let r = child_split xs k n (omega arith) e in (x ∷ r.0, r.1, ap (λ l. x ∷ l) r.2)

pub more_inside : (c d : Content) (x y a b : OrderedTree) → more c x a ≡ more d y b → (c ≡ d) × (a ≡ b)
more_inside c d x y a b e = ((let one : c ≡ d = cc in one), (let two : a ≡ b = cc in two))

no_holder_root : (content : Content) → content ≡ Content.root → IsTrue (is_array_or_object content) → ⊥
no_holder_root content e h = false≢true (sym (ap is_array_or_object e) ∙ h)

module _ (o : Options) (ns : List Node) (tree : IsTree ns) (sound : SoundTree o (ordered_tree ns 0)) where
  -- a child of an array or object at a path that is a property is one alone
  pub property_alone : (path : List ℕ) (p r : ℕ) → IsAt ns path p → IsTrue (holds_at ns p) → parent_at ns r ≡ Some p → content_at ns r ≡ property → PropertyAlone o (row_below ns r)
  property_alone path p r at holds said is =
      let there : p < length ns = (parent_there ns tree r p said).1 in
      let h : Held o (content_at ns p) (row_below ns p) = held o holds (value_at_path o ns tree sound path p at) in
      let split = child_split (children_at ns p) (place_at ns r) r (tree.within r p said) (tree.found r p said) in
      let whole : followed_by (standing ns split.0) (more (content_at ns r) (row_below ns r) (standing ns split.1)) ≡ token_then (opening h.kind) h.row =
      sym (row_stands ns tree p there ∙ ap (standing ns) split.2 ∙ standing_then ns split.0 (r ∷ split.1)) ∙ h.under in
      by split.0 h (standing ns split.1) whole
    where
      by : (front : List ℕ) (h : Held o (content_at ns p) (row_below ns p)) (back : OrderedTree) → followed_by (standing ns front) (more (content_at ns r) (row_below ns r) back) ≡ token_then (opening h.kind) h.row → PropertyAlone o (row_below ns r)
      by [] h back whole =
          let wrong : property ≡ token (opening h.kind) = sym is ∙ (more_inside (content_at ns r) (token (opening h.kind)) (row_below ns r) none back h.row whole).0 in cc
      by (x ∷ front) h back whole =
          let after : OrderedTree = followed_by (standing ns front) (more (content_at ns r) (row_below ns r) back) in
          let same : after ≡ h.row = (more_inside (content_at ns x) (token (opening h.kind)) (row_below ns x) none after h.row whole).1 in
          let parts = parted_row o h.kind (standing ns front) (subst (RowAlone o h.kind rows.nothing_yet) (sym same) h.alone) in
          let element : IsElement (content_at ns r) = subst IsElement (sym is) refl in
          the_property o (first_part o h.kind (content_at ns r) (row_below ns r) back element refl parts.2) is

  -- the first element of a property is its name
  pub name_is : (r n : ℕ) → IsOver ns 0 r → content_at ns r ≡ property → IsElementOf ns r 0 n → IsNameBefore o (content_at ns n) []
  name_is _ n IsOver.itself is element = absurd (let wrong : property ≡ Content.root = sym is ∙ tree.root_first in cc)
  name_is r n (IsOver.above {c = q} up rest) is element =
      elim (all_stand o ns tree sound.shaped r (IsOver.above up rest)) [
        | as_root e ↦ absurd (let wrong : property ≡ Content.root = sym is ∙ ap (content_at ns) e ∙ tree.root_first in cc)
        | as_value {path = path} at ↦ absurd (no_property o (value_at_path o ns tree sound path r at) is)
        | as_property {path = path} {p = p} i at outer element2 is2 ↦
            let said = element_parent ns tree p i r element2 in
            let alone = property_alone path p r at (ap is_array_or_object outer) said is in
            let row : row_below ns r ≡ standing ns (children_at ns r) = row_stands ns tree r (parent_there ns tree r p said).0 in
            first_element o ns (children_at ns r) n (name_first o (subst (PropertyAlone o) row alone)) element
        | as_name r2 is2 element2 ↦
            let same : Some r2 ≡ Some q = sym (element_parent ns tree r2 0 r element2) ∙ up in
            let it : r2 ≡ q = cc in
            let named : IsNameBefore o (content_at ns r) [] = name_is q r rest (ap (content_at ns) (sym it) ∙ is2) (subst (λ k. IsElementOf ns k 0 r) it element2) in
            absurd (subst (λ c. IsNameBefore o c []) is named)
        | between h ↦ absurd (let wrong : IsTrue (is_passed_over property) = subst (λ c. IsTrue (is_passed_over c)) is h in cc)
      ]

  not_named : (r n : ℕ) → IsOver ns 0 r → content_at ns r ≡ property → IsElementOf ns r 0 n → IsTrue (holds_at ns n) → ⊥
  not_named r n over is element holds = false≢true (sym (no_name_holds o (content_at ns n) (name_is r n over is element)) ∙ holds)

  -- an array or object of the document has a path
  pub holder_path : (n : ℕ) → IsOver ns 0 n → IsTrue (holds_at ns n) → (path : List ℕ) × IsAt ns path n
  holder_path n over holds =
      elim (all_stand o ns tree sound.shaped n over) [
        | as_root e ↦ absurd (no_holder_root (content_at ns n) (ap (content_at ns) e ∙ tree.root_first) holds)
        | as_value {path = path} at ↦ (path, at)
        | as_property i at outer element is ↦ absurd (false≢true (sym (ap is_array_or_object is) ∙ holds))
        | as_name r is element ↦
            let said = element_parent ns tree r 0 n element in
            let apart : n ≢ 0 = λ e. no_holder_root (content_at ns n) (ap (content_at ns) e ∙ tree.root_first) holds in
            absurd (not_named r n (over_step ns tree 0 n r over apart said) is element holds)
        | between h ↦ absurd (no_passed (content_at ns n) holds h)
      ]
    where
      no_passed : (c : Content) → IsTrue (is_array_or_object c) → IsTrue (is_passed_over c) → ⊥
      no_passed array h k = cc
      no_passed object h k = cc
      no_passed c h k = cc
