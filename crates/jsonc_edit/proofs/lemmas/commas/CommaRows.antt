-- A sound document stays sound where the comma behind the last element of a row leaves, or comes where options allow it.
use Rattle.std.proofs.Common.{◌≡◌, ◌∙◌, ℕ, sym, ap, subst, refl, Bool, true, false, not, ◌==◌, List, [], ◌∷◌, Some, None, IsTrue, if◌then◌else◌}
use Rattle.std.proofs.lemmas.Bool.{false≢true}
use Rattle.jsonc_text.specs.Options.{Options}
use Rattle.jsonc_text.specs.Text.{starts}
use Rattle.jsonc_tree.specs.Content.{Content, token}
use Rattle.jsonc_tree.specs.OrderedTree.{OrderedTree, none, more, leaves, followed_by}
use Rattle.jsonc_tree.specs.Values as values
use Rattle.jsonc_tree.specs.Values.{HasNoValue}
use Rattle.jsonc_layout.specs.nodes.Kinds.{is_comma}
use Rattle.jsonc_sound.specs.Lines.{ends_loosely, is_line_comment, LinesEndLoosely}
use Rattle.jsonc_sound.specs.Shape.{IsTrivia, token_then}
use Rattle.jsonc_sound.specs.Adjacent.{first_char, last_printed}
use Rattle.jsonc_sound.specs.Alone as alone
use Rattle.jsonc_sound.specs.Alone.{may_come, RowAlone, StretchAlone}
use Rattle.jsonc_sound.specs.Rows as rows
use Rattle.jsonc_sound.specs.Rows.{RowKind, closing, container_of, Last, last_after, last_behind, may_end}
use Rattle.jsonc_sound.specs.SoundTrees.{SoundTree}
use Rattle.jsonc_sound.specs.Spaces.{first_printed, is_bare_leaf}
use Rattle.jsonc_sound.specs.TreeChanges.{IsElement, DocumentChanged}
use Rattle.jsonc_sound.proofs.NodesAlone.{value_alone}
use Rattle.jsonc_sound.proofs.Changed.{part_element}
use Rattle.jsonc_sound.proofs.FirstNodes.{line_comment_over, no_element}
use Rattle.jsonc_sound.proofs.HeldValues.{document_held}
use Rattle.jsonc_sound.proofs.LinesLeft.{lines_more, row_lines}
use Rattle.jsonc_sound.proofs.LooseChanges.{joined_loosely, parted_loosely}
use Rattle.jsonc_sound.proofs.SeamRows.{row_of}
use Rattle.jsonc_sound.proofs.SeamStretches.{followed_joined, last_is, parted_row}
use Rattle.jsonc_sound.proofs.SoundTrees.{kept_where_none_meet}
use Rattle.jsonc_sound.proofs.Commas.{and_false, false_and}
use Rattle.jsonc_edit.proofs.LeafKinds.{first_not_bare}

-- the first of a row past trivia is a comma
abbrev pub comma_first : OrderedTree → Bool
comma_first none = false
comma_first (more (Content.whitespace s) below after) = comma_first after
comma_first (more (Content.newline k) below after) = comma_first after
comma_first (more (Content.comment s) below after) = comma_first after
comma_first (more (Content.token c) below after) = c == 0x2C
comma_first (more content below after) = false

pub trivia_comma : (o : Options) (content : Content) (below after : OrderedTree) → IsTrivia o content → comma_first (more content below after) ≡ comma_first after
trivia_comma o (Content.whitespace s) below after h = refl
trivia_comma o (Content.newline k) below after h = refl
trivia_comma o (Content.comment s) below after h = refl
trivia_comma o content below after h = absurd h

trivia_may_come : (o : Options) (last : Last) (content : Content) (below after : OrderedTree) → IsTrivia o content → may_come o last (more content below after) ≡ may_come o last after
trivia_may_come o last (Content.whitespace s) below after h = refl
trivia_may_come o last (Content.newline k) below after h = refl
trivia_may_come o last (Content.comment s) below after h = refl
trivia_may_come o last content below after h = absurd h

trivia_last : (o : Options) (last : Last) (content : Content) → IsTrivia o content → last_after last content ≡ last
trivia_last o last (Content.whitespace s) h = refl
trivia_last o last (Content.newline k) h = refl
trivia_last o last (Content.comment s) h = refl
trivia_last o last content h = absurd h

element_last : (last : Last) (content : Content) → IsElement content → last_after last content ≡ rows.an_element
element_last last (Content.whitespace s) h = cc
element_last last (Content.newline k) h = cc
element_last last (Content.comment s) h = cc
element_last last (Content.token c) h = cc
element_last last content h = refl

pub last_joined : (last : Last) (s t : OrderedTree) → last_behind last (followed_by s t) ≡ last_behind (last_behind last s) t
last_joined last none t = refl
last_joined last (more content below after) t = last_joined (last_after last content) after t

-- trivia, and then the last bracket
pub data Closing (o : Options) (kind : RowKind) : OrderedTree → Type 0 where
  bracket : Closing o kind (token_then (closing kind) none)
  behind : {content : Content} {after : OrderedTree} → IsTrivia o content → Closing o kind after → Closing o kind (more content none after)

token_last_not_bare : (c : ℕ) → is_bare_leaf (last_printed (token c ∷ [])) ≡ false
token_last_not_bare c = by (starts (λ b. true) (first_char (token c)))
  where
    by : (b : Bool) → is_bare_leaf (if b then Some (token c) else None) ≡ false
    by true = refl
    by false = refl

module _ (o : Options) (kind : RowKind) where
  closing_comes : (last : Last) {row : OrderedTree} → IsTrue (may_end o last) → Closing o kind row → IsTrue (may_come o last row)
  closing_comes last h bracket = by kind
    where
      by : (k : RowKind) → IsTrue (may_come o last (token_then (closing k) none))
      by rows.of_values = h
      by rows.of_properties = h
  closing_comes last h (behind {content = content} {after = after} t c) = subst IsTrue (sym (trivia_may_come o last content none after t)) (closing_comes last h c)

  trivia_first : (content : Content) (after : OrderedTree) → IsTrivia o content → is_bare_leaf (first_printed (leaves after)) ≡ false → is_bare_leaf (first_printed (leaves (more content none after))) ≡ false
  trivia_first (Content.whitespace s) after h e = first_not_bare (Content.whitespace s) (leaves after) refl e
  trivia_first (Content.newline k) after h e = first_not_bare (Content.newline k) (leaves after) refl e
  trivia_first (Content.comment s) after h e = first_not_bare (Content.comment s) (leaves after) refl e
  trivia_first content after h e = absurd h

  closing_not_bare : {row : OrderedTree} → Closing o kind row → is_bare_leaf (first_printed (leaves row)) ≡ false
  closing_not_bare bracket = first_not_bare (token (closing kind)) [] refl refl
  closing_not_bare (behind {content = content} {after = after} t c) = trivia_first content after t (closing_not_bare c)

  no_comma_behind : {last : Last} → last ≡ rows.a_comma → last ≡ rows.an_element → ⊥
  no_comma_behind e f = let wrong : rows.a_comma ≡ rows.an_element = sym e ∙ f in cc

  -- behind the comma of the last element
  pub closes_behind_comma : {last : Last} {row : OrderedTree} → RowAlone o kind last row → last ≡ rows.a_comma → HasNoValue row → Closing o kind row
  closes_behind_comma (alone.closes m) e n = bracket
  closes_behind_comma (alone.trivia t g) e (values.pass p n) = behind t (closes_behind_comma g e n)
  closes_behind_comma (alone.element {content = content} m p g) e (values.pass q n) = absurd (no_element content (part_element o p) q)
  closes_behind_comma (alone.comma g) e n = absurd (no_comma_behind e refl)

  -- and behind the last element, where no comma is
  pub closes_behind_element : {last : Last} {row : OrderedTree} → RowAlone o kind last row → IsTrue (not (comma_first row)) → HasNoValue row → Closing o kind row
  closes_behind_element (alone.closes m) h n = bracket
  closes_behind_element (alone.trivia {content = content} {after = after} t g) h (values.pass p n) =
      behind t (closes_behind_element g (subst (λ b. IsTrue (not b)) (trivia_comma o content none after t) h) n)
  closes_behind_element (alone.element {content = content} m p g) h (values.pass q n) = absurd (no_element content (part_element o p) q)
  closes_behind_element (alone.comma g) h n = cc

  -- a whole row ends with a token
  row_last : {last : Last} {row : OrderedTree} → RowAlone o kind last row → last_behind last row ≡ rows.a_comma
  row_last (alone.closes m) = refl
  row_last (alone.trivia {last = last} {content = content} {after = after} t g) = ap (λ l. last_behind l after) (trivia_last o last content t) ∙ row_last g
  row_last (alone.element {last = last} {content = content} {after = after} m p g) = ap (λ l. last_behind l after) (element_last last content (part_element o p)) ∙ row_last g
  row_last (alone.comma g) = row_last g

  -- what a row goes on with at a comma
  record AtComma (last : Last) (after : OrderedTree) : Type 0 where
    element : last ≡ rows.an_element
    rest : RowAlone o kind rows.a_comma after

  closing_no_comma : (k : RowKind) → token (closing k) ≡ token 0x2C → ⊥
  closing_no_comma rows.of_values e = false≢true (ap is_comma e)
  closing_no_comma rows.of_properties e = false≢true (ap is_comma e)

  meets_comma : {last : Last} {row : OrderedTree} (after : OrderedTree) → row ≡ token_then 0x2C after → RowAlone o kind last row → AtComma last after
  meets_comma after e (alone.closes m) = let same : token (closing kind) ≡ token 0x2C = cc in absurd (closing_no_comma kind same)
  meets_comma after e (alone.trivia {content = content} t g) = let same : content ≡ token 0x2C = cc in absurd (subst (IsTrivia o) same t)
  meets_comma after e (alone.element {content = content} m p g) = let same : content ≡ token 0x2C = cc in let wrong : IsElement (token 0x2C) = subst IsElement same (part_element o p) in cc
  meets_comma after e (alone.comma {after = rest} g) = let same : rest ≡ after = cc in record { element = refl; rest = subst (RowAlone o kind rows.a_comma) same g }

-- the comma behind the last element leaves
module _ (o : Options) (kind : RowKind) (front back : OrderedTree) (path : List ℕ) (t u : OrderedTree) (sound : SoundTree o t) (last : HasNoValue back)
    (changed : DocumentChanged (container_of kind (followed_by front (token_then 0x2C back))) (container_of kind (followed_by front back)) path t u) where
  abbrev row : OrderedTree
  row = followed_by front (token_then 0x2C back)

  whole : RowAlone o kind rows.nothing_yet row
  whole = row_of o kind row (value_alone o (document_held o changed sound.shaped).1)

  parts : (mid : Last) × StretchAlone o kind rows.nothing_yet front mid × RowAlone o kind mid (token_then 0x2C back)
  parts = parted_row o kind front whole

  at_comma : AtComma o kind parts.0 back
  at_comma = meets_comma o kind back refl parts.2

  pub closes : Closing o kind back
  closes = closes_behind_comma o kind at_comma.rest refl last

  ends_front : last_behind rows.nothing_yet front ≡ rows.an_element
  ends_front = sym (last_is o kind parts.1) ∙ at_comma.element

  lines : LinesEndLoosely true false (followed_by front back)
  lines =
      let l = parted_loosely true false front (token_then 0x2C back) (row_lines kind row changed sound.lines) in
      joined_loosely true false front back (lines_more true (ends_loosely true false back) front l.0) l.1.2

  pub sound_without : SoundTree o u
  sound_without =
      kept_where_none_meet o t sound kind front (token_then 0x2C none) none back path u changed rows.an_element
      (subst (λ l. StretchAlone o kind l none rows.an_element) (sym ends_front) alone.stays)
      (closing_comes o kind rows.an_element refl closes) lines tt
      (and_false (is_bare_leaf (last_printed (leaves front))) (is_bare_leaf (first_printed (leaves back))) (closing_not_bare o kind closes))
      (and_false false (is_bare_leaf (first_printed (leaves back))) (closing_not_bare o kind closes))

-- a comma comes behind the last element, which had none
module _ (o : Options) (allowed : IsTrue o.trailing_commas) (kind : RowKind) (front : OrderedTree) (content : Content) (below back : OrderedTree) (path : List ℕ) (t u : OrderedTree) (sound : SoundTree o t)
    (element : IsElement content) (last : HasNoValue back) (lacks : IsTrue (not (comma_first back)))
    (changed : DocumentChanged (container_of kind (followed_by (followed_by front (more content below none)) back)) (container_of kind (followed_by (followed_by front (more content below none)) (token_then 0x2C back))) path t u) where
  abbrev before : OrderedTree
  before = followed_by front (more content below none)

  abbrev old_row : OrderedTree
  old_row = followed_by before back

  abbrev a_comma : OrderedTree
  a_comma = token_then 0x2C none

  old_whole : RowAlone o kind rows.nothing_yet old_row
  old_whole = row_of o kind old_row (value_alone o (document_held o changed sound.shaped).1)

  ends_before : last_behind rows.nothing_yet before ≡ rows.an_element
  ends_before = last_joined rows.nothing_yet front (more content below none) ∙ element_last (last_behind rows.nothing_yet front) content element

  nothing_after : (s : OrderedTree) → followed_by s none ≡ s
  nothing_after none = refl
  nothing_after (more c b a) = ap (more c b) (nothing_after a)

  closing_rest : (rest : OrderedTree) → RowAlone o kind rows.nothing_yet (followed_by before rest) → HasNoValue rest → IsTrue (not (comma_first rest)) → Closing o kind rest
  closing_rest none g n h =
      let wrong : rows.a_comma ≡ rows.an_element = sym (row_last o kind g) ∙ ap (last_behind rows.nothing_yet) (nothing_after before) ∙ ends_before in cc
  closing_rest (more c b a) g n h = closes_behind_element o kind (parted_row o kind before g).2 h n

  pub closes_yet : Closing o kind back
  closes_yet = closing_rest back old_whole last lacks

  same_row : (rest : OrderedTree) → followed_by front (more content below rest) ≡ followed_by before rest
  same_row rest = followed_joined front (more content below none) rest

  no_line : IsTrue (is_line_comment content) → ⊥
  no_line h = no_element content element (line_comment_over content h)

  element_ends : (rest other : OrderedTree) → ends_loosely true false (more content below rest) ≡ ends_loosely true false (more content below other)
  element_ends rest other = by content element
    where
      by : (c : Content) → IsElement c → ends_loosely true false (more c below rest) ≡ ends_loosely true false (more c below other)
      by (Content.newline k) h = cc
      by (Content.whitespace s) h = cc
      by c h = refl

  lines_now : LinesEndLoosely true false (followed_by before (followed_by a_comma back))
  lines_now =
      let was : LinesEndLoosely true false (followed_by front (more content below back)) = subst (LinesEndLoosely true false) (sym (same_row back)) (row_lines kind old_row changed sound.lines) in
      let l = parted_loosely true false front (more content below back) was in
      let now : LinesEndLoosely true false (more content below (token_then 0x2C back)) = (λ h. absurd (no_line h), l.1.1, (λ h. cc, tt, l.1.2)) in
      subst (LinesEndLoosely true false) (same_row (token_then 0x2C back))
      (joined_loosely true false front (more content below (token_then 0x2C back)) (subst (λ b. LinesEndLoosely true b front) (element_ends back (token_then 0x2C back)) l.0) now)

  pub sound_with : SoundTree o u
  sound_with =
      kept_where_none_meet o t sound kind before none a_comma back path u changed rows.a_comma
      (subst (λ l. StretchAlone o kind l a_comma rows.a_comma) (sym ends_before) (alone.past_comma alone.stays))
      (closing_comes o kind rows.a_comma allowed closes_yet) lines_now (tt, tt)
      (and_false (is_bare_leaf (last_printed (leaves before))) (is_bare_leaf (first_printed (leaves (followed_by a_comma back)))) (first_not_bare (token 0x2C) (leaves back) refl (closing_not_bare o kind closes_yet)))
      (false_and (is_bare_leaf (last_printed (leaves a_comma))) (is_bare_leaf (first_printed (leaves back))) (token_last_not_bare 0x2C))
