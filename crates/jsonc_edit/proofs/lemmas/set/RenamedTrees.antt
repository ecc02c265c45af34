-- The name of a property of an object is replaced by another, between quotes: what becomes of the document, by its tree alone.
use Rattle.std.proofs.Common.{◌≡◌, ◌∙◌, ℕ, suc, true, false, not, List, [], ◌∷◌, ◌++◌, Option, Some, None, IsTrue, encode_utf8_all, if◌then◌else◌, refl, sym, ap, subst}
use Rattle.std.proofs.lemmas.List.{append-nil, append_assoc}
use Rattle.std.proofs.lemmas.Str.{chars-encodes}
use Rattle.jsonc_text.specs.Options.{Options}
use Rattle.jsonc_text.specs.Plain.{Plain, Members, member}
use Rattle.jsonc_text.specs.Spelling.{spelled}
use Rattle.jsonc_text.specs.Strings.{IsString}
use Rattle.jsonc_text.specs.Text.{next, starts}
use Rattle.jsonc_tree.specs.Content.{Content, property, token}
use Rattle.jsonc_tree.specs.OrderedTree.{OrderedTree, none, more, own_leaf, leaves, Top}
use Rattle.jsonc_tree.specs.Values as values
use Rattle.jsonc_tree.specs.Values.{is_passed_over, IsStringText, MembersOf, PropertyOf, DocumentValueOf}
use Rattle.jsonc_tree.proofs.OrderedTrees.{leaves-followed_by}
use Rattle.jsonc_layout.specs.from_input.Laid.{string_leaf}
use Rattle.jsonc_layout.specs.from_input.Texts.{IsCharacters}
use Rattle.jsonc_layout.specs.nodes.Kinds.{is_element}
use Rattle.jsonc_layout.proofs.lemmas.from_input.SpelledTexts.{spelled_characters}
use Rattle.jsonc_layout.proofs.lemmas.input.Spelled.{spelled_string}
use Rattle.jsonc_sound.specs.Adjacent.{first_char, or_else, follower, LeavesEnd, last_printed, LastEnds}
use Rattle.jsonc_sound.specs.Alone as alone
use Rattle.jsonc_sound.specs.Alone.{may_stand, RowAlone, PropertyAlone, StretchAlone, ValueAlone}
use Rattle.jsonc_sound.specs.ChangeLaws.{DiffersIn}
use Rattle.jsonc_sound.specs.Changes.{Changed}
use Rattle.jsonc_sound.specs.InRows.{row_around}
use Rattle.jsonc_sound.specs.Leaving.{element_count}
use Rattle.jsonc_sound.specs.Lines.{LinesEndLoosely}
use Rattle.jsonc_sound.specs.Properties.{among_properties, object_of, PropertyChanged}
use Rattle.jsonc_sound.specs.Rows as rows
use Rattle.jsonc_sound.specs.Rows.{Last}
use Rattle.jsonc_sound.specs.Shape.{IsNameBefore, token_then}
use Rattle.jsonc_sound.specs.Sound.{HasValue}
use Rattle.jsonc_sound.specs.SoundTrees.{SoundTree}
use Rattle.jsonc_sound.specs.TreeChanges.{IsElement, leaves_of, ElementChanged, this_element, passed, later_element}
use Rattle.jsonc_sound.proofs.Changed.{document_changed}
use Rattle.jsonc_sound.proofs.FirstNodes.{no_element, trivia_over, name_element}
use Rattle.jsonc_sound.proofs.GivenProperties.{lines_held}
use Rattle.jsonc_sound.proofs.Leaves.{parted_leaves, seams_serve}
use Rattle.jsonc_sound.proofs.LeavesAround.{document_differs}
use Rattle.jsonc_sound.proofs.LooseChanges.{document_loose, joined_loosely, parted_loosely}
use Rattle.jsonc_sound.proofs.HeldValues.{document_held}
use Rattle.jsonc_sound.proofs.NodesAlone.{document_alone, document_leaves, document_shaped, value_alone}
use Rattle.jsonc_sound.proofs.SeamRows.{row_of}
use Rattle.jsonc_sound.proofs.SeamStretches.{joined_row, parted_row}
use Rattle.jsonc_sound.proofs.Spaces.{Ends, NoWord, last_append, last_of, serves_unless, stretch_no_word}
use Rattle.jsonc_sound.proofs.Texts.{name_leaf, opening_first}
use Rattle.jsonc_sound.proofs.ThroughNull.{value_given}
use Rattle.jsonc_edit.specs.set.Names.{MemberRenamed, this_member, later_member, RenamesMember}
use Rattle.jsonc_edit.proofs.Writable.{string_before}

-- as many elements stand in a row with one more node before it
more_elements : (content : Content) (n : ℕ) → IsElement content → (if is_element content then suc n else n) ≡ suc n
more_elements content n h = ap (λ b. if b then suc n else n) h

same_elements : (content : Content) (n : ℕ) → IsTrue (is_passed_over content) → (if is_element content then suc n else n) ≡ n
same_elements content n h = ap (λ b. if not b then suc n else n) h

-- rows that differ in an element are the same around it
pub record Around (was now : Top) (i : ℕ) (row new : OrderedTree) : Type 0 where
  pub front : OrderedTree
  pub back : OrderedTree
  pub old_is : row ≡ row_around front was back
  pub new_is : new ≡ row_around front now back
  pub count : element_count front ≡ i

pub element_around : {was now : Top} {i : ℕ} {row new : OrderedTree} → ElementChanged was now i row new → Around was now i row new
element_around (this_element {after = after} p q) = record { front = none; back = after; old_is = refl; new_is = refl; count = refl }
element_around (passed {content = content} {below = below} h k) =
    let d = element_around k in
    record { front = more content below d.front; back = d.back; old_is = ap (more content below) d.old_is; new_is = ap (more content below) d.new_is; count = same_elements content (element_count d.front) h ∙ d.count }
element_around (later_element {content = content} {below = below} h k) =
    let d = element_around k in
    record { front = more content below d.front; back = d.back; old_is = ap (more content below) d.old_is; new_is = ap (more content below) d.new_is; count = more_elements content (element_count d.front) h ∙ ap suc d.count }

-- a property in the row of an object
pub record Here (o : Options) (last : Last) (below after : OrderedTree) : Type 0 where
  pub stands : IsTrue (may_stand o last)
  pub alone : PropertyAlone o below
  pub rest : RowAlone o rows.of_properties rows.an_element after

pub property_there : {o : Options} {last : Last} {content : Content} {below after : OrderedTree} → IsElement content → RowAlone o rows.of_properties last (more content below after) → Here o last below after
property_there h (alone.closes m) = cc
property_there {o} h (alone.trivia {content = content} k g) = absurd (no_element content h (trivia_over o content k))
property_there h (alone.element m (alone.a_property p) g) = record { stands = m; alone = p; rest = g }
property_there h (alone.comma g) = cc

-- its name stands first
pub record NameFirst (o : Options) (below : OrderedTree) : Type 0 where
  pub name : Content
  pub rest : OrderedTree
  pub is : below ≡ more name none rest
  pub named : IsNameBefore o name []

pub name_first : {o : Options} {below : OrderedTree} → PropertyAlone o below → NameFirst o below
name_first (alone.named {name = name} {after = after} k g h v) = record { name = name; rest = after; is = refl; named = k }

-- leaves around a leaf
leaf_within : (f g s c b : List Content) → f ++ ((g ++ (s ++ c)) ++ b) ≡ (f ++ g) ++ (s ++ (c ++ b))
leaf_within f g s c b = ap (λ l. f ++ l) (append_assoc g (s ++ c) b ∙ ap (λ l. g ++ l) (append_assoc s c b)) ∙ sym (append_assoc f g (s ++ (c ++ b)))

-- the leaves of an object around the name of one of its properties
object_leaves : (front rest back : OrderedTree) (name : Content) → own_leaf name ≡ name ∷ [] → leaves_of (object_of front (more name none rest) back) ≡ (token 0x7B ∷ leaves front) ++ (name ∷ (leaves rest ++ leaves back))
object_leaves front rest back name e =
    ap (λ l. token 0x7B ∷ l)
    (leaves-followed_by front (more property (more name none rest) back) ∙ ap (λ l. leaves front ++ ((l ++ leaves rest) ++ leaves back)) e)

-- The property of an object has the name `was`, and this is replaced by the new one.
module _ (o : Options) (t u front rest back : OrderedTree) (was : Content) (name path : List ℕ) (named : IsNameBefore o was []) (texts : IsCharacters name) (sound : SoundTree o t)
    (changed : PropertyChanged front (more was none rest) (more (string_leaf name) none rest) back path t u) where
  abbrev before : OrderedTree
  before = more was none rest

  abbrev after : OrderedTree
  after = more (string_leaf name) none rest

  new_name : IsNameBefore o (string_leaf name) []
  new_name = (name, string_before o name texts [])

  own : own_leaf was ≡ was ∷ []
  own = name_leaf o was [] named

  -- each node is what it is alone
  renamed_alone : PropertyAlone o before → PropertyAlone o after
  renamed_alone (alone.named k g h v) = alone.named new_name g h v

  renamed_row : RowAlone o rows.of_properties rows.nothing_yet (among_properties front before back) → RowAlone o rows.of_properties rows.nothing_yet (among_properties front after back)
  renamed_row g =
      let parts = parted_row o rows.of_properties front g in
      let here = property_there {content = property} refl parts.2 in
      joined_row o rows.of_properties parts.1 (alone.element here.stands (alone.a_property (renamed_alone here.alone)) here.rest)

  renamed_object : ValueAlone o Content.object (token_then 0x7B (among_properties front before back)) → ValueAlone o Content.object (token_then 0x7B (among_properties front after back))
  renamed_object g = alone.an_object (renamed_row (row_of o rows.of_properties (among_properties front before back) g))

  -- of the leaves that name alone is another
  abbrev ahead : List Content
  ahead = (document_differs changed).front ++ (token 0x7B ∷ leaves front)

  abbrev behind : List Content
  behind = (leaves rest ++ leaves back) ++ (document_differs changed).back

  old_leaves : leaves t ≡ ahead ++ (was ∷ behind)
  old_leaves =
      let d = document_differs changed in
      d.before ∙ ap (λ l. d.front ++ (l ++ d.back)) (object_leaves front rest back was own) ∙ leaf_within d.front (token 0x7B ∷ leaves front) (was ∷ []) (leaves rest ++ leaves back) d.back

  new_leaves : leaves u ≡ ahead ++ (string_leaf name ∷ behind)
  new_leaves =
      let d = document_differs changed in
      d.after ∙ ap (λ l. d.front ++ (l ++ d.back)) (object_leaves front rest back (string_leaf name) refl)
      ∙ leaf_within d.front (token 0x7B ∷ leaves front) (string_leaf name ∷ []) (leaves rest ++ leaves back) d.back

  -- a quote ends whatever stands before it
  quote_first : first_char (string_leaf name) ≡ Some 0x22
  quote_first = ap next (chars-encodes (spelled name) (spelled_characters name texts))

  quote_ends : Ends (follower (string_leaf name ∷ behind) None)
  quote_ends = subst (λ c. Ends (or_else c (follower behind None))) (sym quote_first) refl

  held : RowAlone o rows.of_properties rows.nothing_yet (among_properties front before back)
  held = row_of o rows.of_properties (among_properties front before back) (value_alone o (document_held o changed sound.shaped).1)

  no_word : NoWord (last_printed ahead)
  no_word =
      subst NoWord (sym (last_append (document_differs changed).front (token 0x7B ∷ leaves front)))
      (by (last_printed (leaves front)) (stretch_no_word o (parted_row o rows.of_properties front held).1))
    where
      by : (x : Option Content) → NoWord x → NoWord (or_else (or_else x (if starts (λ c. true) (first_char (token 0x7B)) then Some (token 0x7B) else None)) (last_printed (document_differs changed).front))
      by (Some d) h = h
      by None h =
          subst (λ c. NoWord (or_else (or_else None (if starts (λ d. true) c then Some (token 0x7B) else None)) (last_printed (document_differs changed).front)))
          (sym (opening_first rows.of_properties)) tt

  leaves_end : LeavesEnd o (leaves u) None
  leaves_end =
      let d : DiffersIn (was ∷ []) (string_leaf name ∷ []) (leaves t) (leaves u) = record { front = ahead; back = behind; before = old_leaves; after = new_leaves } in
      let whole = parted_leaves o ahead (was ∷ behind) None (subst (λ l. LeavesEnd o l None) old_leaves (document_leaves o sound.shaped)) in
      let last : LastEnds o ahead (follower (string_leaf name ∷ behind) None) =
      serves_unless o (last_printed ahead) (follower (was ∷ behind) None) (follower (string_leaf name ∷ behind) None) no_word (λ b. quote_ends)
      (last_of o ahead (follower (was ∷ behind) None) whole.0) in
      seams_serve o (was ∷ []) (string_leaf name ∷ []) (leaves t) (leaves u) (document_leaves o sound.shaped) d last (tt, tt)

  -- line comments end as they did
  lines_now : LinesEndLoosely true false (token_then 0x7B (among_properties front after back))
  lines_now =
      let parts = parted_loosely true false front (more property before back) (lines_held changed sound.lines).2 in
      ((λ h. cc), tt, joined_loosely true false front (more property after back) parts.0 ((λ h. cc), ((λ h. cc), tt, parts.1.1.2), parts.1.2))

  pub sound_renamed : SoundTree o u
  sound_renamed = record { shaped = document_shaped o (document_changed o renamed_object changed (document_alone o sound.shaped)) leaves_end; lines = document_loose lines_now changed sound.lines }

  -- the value
  renamed_leaf : IsStringText o (encode_utf8_all (spelled name)) name
  renamed_leaf =
      subst (λ s. IsString o s name []) (sym (chars-encodes (spelled name) (spelled_characters name texts) ∙ sym (append-nil (spelled name)))) (spelled_string o name [])

  renamed_pair : (n : List ℕ) (v : Plain) → PropertyOf o before n v → PropertyOf o after name v
  renamed_pair n v (values.pass_to_name q g) = absurd (no_element was (name_element o was [] named) q)
  renamed_pair n v (values.name_of k h) = values.name_of renamed_leaf h

  renamed_members : (f : OrderedTree) (ms : Members) → MembersOf o (among_properties f before back) ms
      → (ns : Members) × MemberRenamed name (element_count f) ms ns × MembersOf o (among_properties f after back) ns
  renamed_members none ms (values.pass_to_members q g) = cc
  renamed_members none ms (values.one_member {name = n} {v = v} {ms = others} w g) = (member name v others, this_member, values.one_member (renamed_pair n v w) g)
  renamed_members (more c b f) ms (values.pass_to_members q g) =
      let d = renamed_members f ms g in
      (d.0, subst (λ i. MemberRenamed name i ms d.0) (sym (same_elements c (element_count f) q)) d.1, values.pass_to_members q d.2)
  renamed_members (more c b f) ms (values.one_member {name = n} {v = x} {ms = others} w g) =
      let d = renamed_members f others g in
      (member n x d.0, later_member d.1, values.one_member w d.2)

  -- an object's value by its properties
  record GivenName (a b : Plain) : Type 0 where
    old : Members
    new : Members
    was_is : a ≡ Plain.object old
    now_is : b ≡ Plain.object new
    renamed : MemberRenamed name (element_count front) old new

  object_members : {row : OrderedTree} {ms : Members} → MembersOf o (token_then 0x7B row) ms → MembersOf o row ms
  object_members (values.pass_to_members q g) = g

  given_name : (a : Plain) → HasValue o (object_of front before back) a → (b : Plain) × GivenName a b × HasValue o (object_of front after back) b
  given_name a (values.object {ms = ms} g) =
      let d = renamed_members front ms (object_members g) in
      (Plain.object d.0, record { old = ms; new = d.0; was_is = refl; now_is = refl; renamed = d.1 }, values.object (values.pass_to_members refl d.2))

  pub value_renamed : (x : Plain) → DocumentValueOf o t (Some x) → (y : Plain) × DocumentValueOf o u (Some y) × RenamesMember path (element_count front) name x y
  value_renamed x h =
      let d = value_given o GivenName x given_name changed h in
      let g = d.related in (
        d.y,
        d.value,
        record {
          old = g.old;
          new = g.new;
          renamed = g.renamed;
          changed = subst (λ w. Changed w (Plain.object g.new) path x d.y) g.was_is (subst (λ w. Changed d.was w path x d.y) g.now_is d.changed);
        },
      )
