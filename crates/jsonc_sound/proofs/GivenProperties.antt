-- A property of an object is replaced by another.
use Rattle.std.proofs.Common.{ℕ, suc, ◌≡◌, ◌∙◌, sym, ap, subst, refl, Bool, true, false, not, List, [], ◌∷◌, ◌++◌, None, IsTrue, append-nil, if◌then◌else◌}
use Rattle.jsonc_text.specs.Options.{Options}
use Rattle.jsonc_text.specs.Plain.{Plain, Members, member}
use Rattle.jsonc_tree.specs.Content.{Content, token, property}
use Rattle.jsonc_tree.specs.OrderedTree.{OrderedTree, none, more, leaves}
use Rattle.jsonc_tree.specs.Values as values
use Rattle.jsonc_tree.specs.Values.{is_passed_over, ValueOf, MembersOf, PropertyOf, DocumentValueOf}
use Rattle.jsonc_tree.proofs.OrderedTrees.{leaves-followed_by}
use Rattle.jsonc_layout.specs.nodes.Kinds.{is_element}
use Rattle.jsonc_sound.specs.Shape.{IsTrivia, token_then}
use Rattle.jsonc_sound.specs.ChangeLaws.{DiffersIn}
use Rattle.jsonc_sound.specs.Changes.{Changed}
use Rattle.jsonc_sound.specs.Rows as rows
use Rattle.jsonc_sound.specs.Rows.{RowKind, closing, Last, may_end, container_of}
use Rattle.jsonc_sound.specs.Rows.{last_behind}
use Rattle.jsonc_sound.specs.Sound.{HasValue}
use Rattle.jsonc_tree.specs.OrderedTree.{Top}
use Rattle.jsonc_sound.specs.TreeChanges.{IsElement, leaves_of, property_of, ElementChanged, this_element, passed, later_element, ValueChanged, itself, in_array, in_object, DocumentChanged, in_root}
use Rattle.jsonc_sound.proofs.FirstNodes.{no_element, trivia_over}
use Rattle.jsonc_sound.proofs.HeldValues.{document_held}
use Rattle.jsonc_sound.proofs.LeavesAround.{document_differs, within}
use Rattle.jsonc_sound.specs.Adjacent.{LeavesEnd}
use Rattle.jsonc_sound.specs.Alone as alone
use Rattle.jsonc_sound.specs.Alone.{may_stand, may_come, RowAlone, StretchAlone}
use Rattle.jsonc_sound.specs.Lines.{is_loose, LinesEndLoosely, DocumentLinesEndLoosely}
use Rattle.jsonc_sound.specs.Spaces.{meet}
use Rattle.jsonc_sound.proofs.NodesAlone.{value_alone, property_alone, property_leaves}
use Rattle.jsonc_sound.proofs.Changed.{part_element}
use Rattle.jsonc_sound.proofs.LooseChanges.{joined_loosely, parted_loosely}
use Rattle.jsonc_sound.proofs.SeamRows.{row_of}
use Rattle.jsonc_sound.proofs.SoundTrees.{kept_where_none_meet}
use Rattle.jsonc_sound.proofs.SeamStretches.{parted_row, last_is}
use Rattle.jsonc_sound.proofs.ReplacedStretches.{marks_differ}
use Rattle.jsonc_sound.specs.Leaving.{element_count}
use Rattle.jsonc_sound.specs.Properties.{among_properties, object_of, ReplacesMember, SoundWithProperty, MembersWithProperty, ValueWithProperty, MarksWithProperty}
use Rattle.jsonc_sound.specs.Values as changes
use Rattle.jsonc_sound.specs.Values.{MemberReplaced}
use Rattle.jsonc_sound.proofs.ThroughNull.{value_given}
use Rattle.jsonc_sound.proofs.RootRows.{loosened}

-- line comments of what is replaced
row_lines_held : {x y : Top} {i : ℕ} {row new : OrderedTree} (loose at_end : Bool) → ElementChanged x y i row new → LinesEndLoosely loose at_end row → LinesEndLoosely (is_loose x.content) false x.below
row_lines_held loose at_end (this_element p q) l = l.1
row_lines_held loose at_end (passed p k) l = row_lines_held loose at_end k l.2
row_lines_held loose at_end (later_element p k) l = row_lines_held loose at_end k l.2

value_lines_held : {was now : Top} {path : List ℕ} {x y : Top} → ValueChanged was now path x y → LinesEndLoosely (is_loose x.content) false x.below → LinesEndLoosely (is_loose was.content) false was.below
value_lines_held itself l = l
value_lines_held (in_array e h) l = value_lines_held h (row_lines_held true false e l)
value_lines_held (in_object e g h) l = value_lines_held h (row_lines_held false false g (row_lines_held true false e l))

pub lines_held : {was now : Top} {path : List ℕ} {t u : OrderedTree} → DocumentChanged was now path t u → DocumentLinesEndLoosely t → LinesEndLoosely (is_loose was.content) false was.below
lines_held (in_root {row = row} e h) (below, same, l) =
    let first : below ≡ row = cc in
    value_lines_held h (row_lines_held false true e (subst (LinesEndLoosely false true) first l))

-- what may come where a row goes on
trivia_may : (o : Options) (last : Last) (content : Content) (after : OrderedTree) → IsTrivia o content → IsTrue (may_come o last after) → IsTrue (may_come o last (more content none after))
trivia_may o last (Content.whitespace s) after h k = k
trivia_may o last (Content.newline n) after h k = k
trivia_may o last (Content.comment s) after h k = k
trivia_may o last content after h k = absurd h

element_may : (o : Options) (last : Last) (content : Content) (below after : OrderedTree) → IsElement content → IsTrue (may_stand o last) → IsTrue (may_come o last (more content below after))
element_may o last (Content.whitespace s) below after h k = cc
element_may o last (Content.newline n) below after h k = cc
element_may o last (Content.comment s) below after h k = cc
element_may o last (Content.token c) below after h k = cc
element_may o last content below after h k = k

bracket_may : (o : Options) (kind : RowKind) (last : Last) → IsTrue (may_end o last) → IsTrue (may_come o last (token_then (closing kind) none))
bracket_may o rows.of_values last h = h
bracket_may o rows.of_properties last h = h

module _ (o : Options) where
  pub goes_on_there : {kind : RowKind} {last : Last} {row : OrderedTree} → RowAlone o kind last row → IsTrue (may_come o last row)
  goes_on_there {kind} (alone.closes {last = last} m) = bracket_may o kind last m
  goes_on_there (alone.trivia {last = last} {content = content} {after = after} h g) = trivia_may o last content after h (goes_on_there g)
  goes_on_there (alone.element {last = last} {content = content} {below = below} {after = after} m p g) = element_may o last content below after (part_element o p) m
  goes_on_there (alone.comma g) = refl

  element_here : {kind : RowKind} {last : Last} {content : Content} {below after : OrderedTree} → IsElement content → RowAlone o kind last (more content below after) → IsTrue (may_stand o last) × RowAlone o kind rows.an_element after
  element_here p (alone.closes m) = cc
  element_here p (alone.trivia {content = content} h g) = absurd (no_element content p (trivia_over o content h))
  element_here p (alone.element m q g) = (m, g)
  element_here p (alone.comma g) = cc

  -- the row around a property
  record Around (front back : OrderedTree) : Type 0 where
    stands : IsTrue (may_stand o (last_behind rows.nothing_yet front))
    comes : IsTrue (may_come o rows.an_element back)

  around : (front was back : OrderedTree) → RowAlone o rows.of_properties rows.nothing_yet (among_properties front was back) → Around front back
  around front was back g =
      let parts = parted_row o rows.of_properties front g in
      let here = element_here {content = property} refl parts.2 in
      record { stands = subst (λ l. IsTrue (may_stand o l)) (last_is o rows.of_properties parts.1) here.0; comes = goes_on_there here.1 }

  -- lines of the new row
  given_lines : (front was now back : OrderedTree) → LinesEndLoosely false false now → LinesEndLoosely true false (among_properties front was back) → LinesEndLoosely true false (among_properties front now back)
  given_lines front was now back n l =
      let parts = parted_loosely true false front (more property was back) l in
      joined_loosely true false front (more property now back) parts.0 ((λ h. cc), n, parts.1.2)

  pub sound_with_property : (t : OrderedTree) → SoundWithProperty o t
  sound_with_property t s front was now back name v path u c n before behind =
      let object_alone = value_alone o (document_held o c s.shaped).1 in
      let a = around front was back (row_of o rows.of_properties (among_properties front was back) object_alone) in
      let shaped = n.shaped [] refl in
      let stretch : StretchAlone o rows.of_properties (last_behind rows.nothing_yet front) (more property now none) rows.an_element = alone.past_element a.stands (alone.a_property (property_alone o shaped)) alone.stays in
      let same : leaves now ++ [] ≡ leaves now = append-nil (leaves now) in
      let ends : LeavesEnd o (leaves (more property now none)) None = subst (λ l. LeavesEnd o l None) (sym same) (property_leaves o shaped) in
      let lines = given_lines front was now back (loosened property now n.lines) (lines_held c s.lines).2 in
      kept_where_none_meet o t s rows.of_properties front (more property was none) (more property now none) back path u c rows.an_element stretch a.comes lines ends before (ap (λ l. meet l (leaves back)) same ∙ behind)

  -- the value
  counted : (content : Content) (n : ℕ) → IsTrue (is_passed_over content) → (if is_element content then suc n else n) ≡ n
  counted content n h = ap (λ b. if not b then suc n else n) h

  pub members_with_property : (name : List ℕ) (v : Plain) → MembersWithProperty o name v
  members_with_property name v none was now back ms (values.pass_to_members q g) p = cc
  members_with_property name v none was now back ms (values.one_member {ms = rest} w g) p = (member name v rest, changes.this_member, values.one_member p g)
  members_with_property name v (more c b front) was now back ms (values.pass_to_members q g) p =
      let d = members_with_property name v front was now back ms g p in
      (d.0, subst (λ i. MemberReplaced name v i ms d.0) (sym (counted c (element_count front) q)) d.1, values.pass_to_members q d.2)
  members_with_property name v (more c b front) was now back ms (values.one_member {name = n} {v = x} {ms = rest} w g) p =
      let d = members_with_property name v front was now back rest g p in
      (member n x d.0, changes.later_member d.1, values.one_member w d.2)

  -- an object's value by its properties
  record Given (name : List ℕ) (v : Plain) (i : ℕ) (a b : Plain) : Type 0 where
    old : Members
    new : Members
    was : a ≡ Plain.object old
    now : b ≡ Plain.object new
    replaced : MemberReplaced name v i old new

  object_members : {row : OrderedTree} {ms : Members} → MembersOf o (token_then 0x7B row) ms → MembersOf o row ms
  object_members (values.pass_to_members q g) = g

  object_given : (name : List ℕ) (v : Plain) (front was now back : OrderedTree) → PropertyOf o now name v → (a : Plain) → HasValue o (object_of front was back) a
      → (b : Plain) × Given name v (element_count front) a b × HasValue o (object_of front now back) b
  object_given name v front was now back p a (values.object {ms = ms} g) =
      let d = members_with_property name v front was now back ms (object_members g) p in
      (Plain.object d.0, record { old = ms; new = d.0; was = refl; now = refl; replaced = d.1 }, values.object (values.pass_to_members refl d.2))

  gained : (name : List ℕ) (v : Plain) (i : ℕ) (path : List ℕ) (a b x y : Plain) → Given name v i a b → Changed a b path x y → ReplacesMember path i name v x y
  gained name v i path a b x y g c = record {
    old = g.old;
    new = g.new;
    replaced = g.replaced;
    changed = subst (λ w. Changed w (Plain.object g.new) path x y) g.was (subst (λ w. Changed a w path x y) g.now c);
  }

  pub value_with_property : (t : OrderedTree) (x : Plain) → ValueWithProperty o t x
  value_with_property t x h front was now back name v path u c p =
      let d = value_given o (Given name v (element_count front)) x (object_given name v front was now back p) c h in
      (d.y, d.value, gained name v (element_count front) path d.was d.now x d.y d.related d.changed)

-- the marks
property_differs : (front was now back : OrderedTree)
    → DiffersIn (leaves_of (property_of was)) (leaves_of (property_of now)) (leaves_of (object_of front was back)) (leaves_of (object_of front now back))
property_differs front was now back = record {
  front = token 0x7B ∷ leaves front;
  back = leaves back;
  before = ap (λ l. token 0x7B ∷ l) (leaves-followed_by front (more property was back));
  after = ap (λ l. token 0x7B ∷ l) (leaves-followed_by front (more property now back));
}

pub marks_with_property : (t : OrderedTree) → MarksWithProperty t
marks_with_property t front was now back path u c =
    marks_differ (leaves_of (property_of was)) (leaves_of (property_of now)) (leaves t) (leaves u) (within (document_differs c) (property_differs front was now back))
