-- A stretch with spaces where two literals without quotes would meet.
use Rattle.std.proofs.Common.{ℕ, ◌≡◌, ◌∙◌, sym, ap, subst, refl, Bool, true, false, ◌&&◌, ◌==◌, List, [], ◌∷◌, ◌++◌, Option, Some, None, IsTrue, chars, rules, if◌then◌else◌}
use Rattle.std.proofs.lemmas.Str.{chars-IsAscii, IsUtf8-from_ascii}
use Rattle.jsonc_text.specs.Options.{Options}
use Rattle.jsonc_text.specs.Text.{next, starts, Many, stop, step}
use Rattle.jsonc_text.proofs.UniqueGaps.{comment_begins}
use Rattle.jsonc_tree.specs.Content.{Content}
use Rattle.jsonc_tree.specs.OrderedTree.{OrderedTree, none, more, own_leaf, leaves, followed_by}
use Rattle.jsonc_tree.proofs.OrderedTrees.{leaves-followed_by}
use Rattle.jsonc_sound.specs.Leaves.{is_inner_blank}
use Rattle.jsonc_sound.specs.Lines.{is_line_comment, ends_line, LinesEnd}
use Rattle.jsonc_sound.specs.Shape.{IsTrivia, DocumentShaped}
use Rattle.jsonc_sound.specs.Rows as rows
use Rattle.jsonc_sound.specs.Rows.{RowKind, Last, container_of, last_behind}
use Rattle.jsonc_sound.specs.Sound.{Sound}
use Rattle.jsonc_sound.specs.TreeChanges.{DocumentChanged}
use Rattle.jsonc_sound.proofs.FirstNodes.{no_element, line_comment_over, line_end_same}
use Rattle.jsonc_sound.proofs.HeldValues.{document_held}
use Rattle.jsonc_sound.proofs.Lines.{document_lines}
use Rattle.jsonc_sound.proofs.JoinedRows.{joined_lines, parted_lines}
use Rattle.jsonc_sound.specs.Adjacent.{first_char, or_else, LeavesEnd, last_printed}
use Rattle.jsonc_sound.specs.Alone as alone
use Rattle.jsonc_sound.specs.Alone.{may_come, StretchAlone}
use Rattle.jsonc_sound.specs.Spaces.{is_bare_leaf, first_printed, meet, space_then, spaced_before, spaced_behind, spaced}
use Rattle.jsonc_sound.proofs.NodesAlone.{value_alone}
use Rattle.jsonc_sound.proofs.Changed.{part_element}
use Rattle.jsonc_sound.proofs.Leaves.{joined_leaves}
use Rattle.jsonc_sound.proofs.SeamRows.{row_of}
use Rattle.jsonc_sound.proofs.Spaces.{own_last, last_append, first_append, space_serves, shaped_where_none_meet}
use Rattle.jsonc_sound.proofs.SeamStretches.{followed_joined, joined_stretch, gives_way}

-- the space itself
space : Content
space = Content.whitespace (0x20 ∷ [])

space_text : chars (0x20 ∷ []) ≡ 0x20 ∷ []
space_text = chars-IsAscii (0x20 ∷ []) (search rules)

pub space_first : first_char (Content.whitespace (0x20 ∷ [])) ≡ Some 0x20
space_first = ap next space_text

pub space_trivia : (o : Options) → IsTrivia o (Content.whitespace (0x20 ∷ []))
space_trivia o = (IsUtf8-from_ascii (0x20 ∷ []) (search rules), subst (λ t. Many is_inner_blank t []) (sym space_text) (step refl stop))

space_last : own_last (Content.whitespace (0x20 ∷ [])) ≡ Some (Content.whitespace (0x20 ∷ []))
space_last = ap (λ x. if starts (λ d. true) x then Some (Content.whitespace (0x20 ∷ [])) else None) space_first

-- nothing meets across it
not_first : (ls : List Content) → is_bare_leaf (first_printed (Content.whitespace (0x20 ∷ []) ∷ ls)) ≡ false
not_first ls = ap (λ x. is_bare_leaf (if starts (λ d. true) x then Some (Content.whitespace (0x20 ∷ [])) else first_printed ls)) space_first

not_last : (ls : List Content) → is_bare_leaf (last_printed (ls ++ (Content.whitespace (0x20 ∷ []) ∷ []))) ≡ false
not_last ls = ap is_bare_leaf (last_append ls (Content.whitespace (0x20 ∷ []) ∷ []) ∙ ap (λ x. or_else x (last_printed ls)) space_last)

and_false : (a b : Bool) → b ≡ false → a && b ≡ false
and_false true b e = e
and_false false b e = refl

false_and : (a b : Bool) → a ≡ false → a && b ≡ false
false_and true b e = cc
false_and false b e = refl

no_meeting_before : (before ls : List Content) → meet before (Content.whitespace (0x20 ∷ []) ∷ ls) ≡ false
no_meeting_before before ls = and_false (is_bare_leaf (last_printed before)) _ (not_first ls)

no_meeting_behind : (ls behind : List Content) → meet (ls ++ (Content.whitespace (0x20 ∷ []) ∷ [])) behind ≡ false
no_meeting_behind ls behind = false_and _ (is_bare_leaf (first_printed behind)) (not_last ls)

left_of : (a b : Bool) → a && b ≡ true → a ≡ true
left_of true b k = refl
left_of false b k = cc

-- what prints something begins with something
none_printed : (ls : List Content) → first_printed ls ≡ None → last_printed ls ≡ None
none_printed [] e = refl
none_printed (content ∷ rest) e = by (none_printed rest) (first_char content) e
  where
    by : (first_printed rest ≡ None → last_printed rest ≡ None) → (x : Option ℕ) → (if starts (λ c. true) x then Some content else first_printed rest) ≡ None → or_else (last_printed rest) (if starts (λ c. true) x then Some content else None) ≡ None
    by ih None p = ap (λ y. or_else y None) (ih p)
    by ih (Some c) p = cc

same_first : (ls x y : List Content) → is_bare_leaf (last_printed ls) ≡ true → first_printed (ls ++ x) ≡ first_printed (ls ++ y)
same_first ls x y e = first_append ls x ∙ by (first_printed ls) refl ∙ sym (first_append ls y)
  where
    by : (f : Option Content) → first_printed ls ≡ f → or_else f (first_printed x) ≡ or_else f (first_printed y)
    by None p = let wrong : false ≡ true = ap is_bare_leaf (sym (none_printed ls p)) ∙ e in cc
    by (Some c) p = refl

-- line comments before a space
abbrev NoLine : Option Content → Type 0
NoLine None = Unit {0}
NoLine (Some content) = IsTrue (is_line_comment content) → ⊥

bare_no_line : (x : Option Content) → is_bare_leaf x ≡ true → NoLine x
bare_no_line None e = tt
bare_no_line (Some (Content.comment s)) e = cc
bare_no_line (Some content) e = λ h. cc

printed_comment : (n : Option ℕ) (x : Content) → IsTrue (starts (λ c. c == 0x2F) n) → (if starts (λ c. true) n then Some x else None) ≡ Some x
printed_comment None x h = cc
printed_comment (Some c) x h = refl

-- a line comment of a row prints itself
line_printed : (o : Options) (content : Content) → IsTrivia o content → IsTrue (is_line_comment content) → last_printed (own_leaf content) ≡ Some content
line_printed o (Content.comment s) h k = printed_comment (first_char (Content.comment s)) (Content.comment s) (comment_begins h.1.1)
line_printed o content h k = cc

same_line_end : (b c : Bool) (content : Content) (below after : OrderedTree) → ends_line b (more content below after) ≡ ends_line c (more content below after)
same_line_end b c (Content.newline k) below after = refl
same_line_end b c content below after = refl

last_no_line : (first second : List Content) → NoLine (last_printed (first ++ second)) → NoLine (last_printed second)
last_no_line first second h = by (last_printed second) (subst NoLine (last_append first second) h)
  where
    by : (x : Option Content) → NoLine (or_else x (last_printed first)) → NoLine x
    by None k = tt
    by (Some d) k = k

module _ (o : Options) (kind : RowKind) where
  -- the first node of a stretch, and the rest
  data Meets (last : Last) (content : Content) (below after : OrderedTree) (to : Last) : Type 0 where
    a_leaf : IsTrivia o content → below ≡ none → StretchAlone o kind last after to → Meets last content below after to
    no_leaf : (IsTrue (is_line_comment content) → ⊥) → (from : Last) → StretchAlone o kind from after to → Meets last content below after to

  meets_stretch : {last to : Last} {content : Content} {below after : OrderedTree} → StretchAlone o kind last (more content below after) to → Meets last content below after to
  meets_stretch (alone.past_trivia h g) = a_leaf h refl g
  meets_stretch (alone.past_element {content = content} m p g) = no_leaf (λ h. no_element content (part_element o p) (line_comment_over content h)) rows.an_element g
  meets_stretch (alone.past_comma g) = no_leaf (λ h. cc) rows.a_comma g

  ends_inside : (b : Bool) (s : OrderedTree) {last to : Last} → StretchAlone o kind last s to → LinesEnd b s → NoLine (last_printed (leaves s)) → LinesEnd false s
  ends_inside b none g l n = tt
  ends_inside b (more content below none) g l n = (
    λ h. elim (meets_stretch g) [
      | a_leaf t e k ↦ absurd (subst NoLine (ap (λ x. last_printed (own_leaf content ++ (leaves x ++ []))) e ∙ last_append (own_leaf content) [] ∙ line_printed o content t h) n h)
      | no_leaf f from k ↦ absurd (f h)
    ],
    l.1,
    tt,
  )
  ends_inside b (more content below (more c x after)) g l n =
      let own = last_no_line (own_leaf content) (leaves below ++ leaves (more c x after)) n in
      let rest = last_no_line (leaves below) (leaves (more c x after)) own in
      let behind : LinesEnd false (more c x after) =
      elim (meets_stretch g) [
        | a_leaf t e k ↦ ends_inside b (more c x after) k l.2 rest
        | no_leaf f from k ↦ ends_inside b (more c x after) k l.2 rest
      ] in
      (λ h. subst IsTrue (same_line_end b false c x after) (l.0 h), l.1, behind)

  -- the stretch with its spaces
  record IsSpaced (front now back : OrderedTree) (last to : Last) : Type 0 where
    stretch : StretchAlone o kind last now to
    ends : LeavesEnd o (leaves now) None
    before : meet (leaves front) (leaves (followed_by now back)) ≡ false

  with_space_before : (front now back : OrderedTree) {last to : Last} → StretchAlone o kind last now to → LeavesEnd o (leaves now) None → IsSpaced front (spaced_before (leaves front) now (leaves back)) back last to
  with_space_before front now back {last} {to} g e = by (meet (leaves front) (leaves now ++ leaves back)) refl
    where
      by : (b : Bool) → meet (leaves front) (leaves now ++ leaves back) ≡ b → IsSpaced front (if b then space_then now else now) back last to
      by false p = record { stretch = g; ends = e; before = ap (meet (leaves front)) (leaves-followed_by now back) ∙ p }
      by true p = record { stretch = alone.past_trivia (space_trivia o) g; ends = (tt, e); before = no_meeting_before (leaves front) (leaves (followed_by now back)) }

  -- with the space behind too
  pub record IsSpacedBoth (front now back : OrderedTree) (last to : Last) : Type 0 where
    pub stretch : StretchAlone o kind last now to
    pub ends : LeavesEnd o (leaves now) None
    pub before : meet (leaves front) (leaves (followed_by now back)) ≡ false
    pub behind : meet (leaves now) (leaves back) ≡ false

  with_space_behind : (front now back : OrderedTree) {last to : Last} → IsSpaced front now back last to → IsSpacedBoth front (spaced_behind now (leaves back)) back last to
  with_space_behind front now back {last} {to} s = by (meet (leaves now) (leaves back)) refl
    where
      by : (b : Bool) → meet (leaves now) (leaves back) ≡ b → IsSpacedBoth front (if b then followed_by now (space_then none) else now) back last to
      by false p = record { stretch = s.stretch; ends = s.ends; before = s.before; behind = p }
      by true p =
          let bare = left_of (is_bare_leaf (last_printed (leaves now))) _ p in
          let regrouped : followed_by now (space_then back) ≡ followed_by (followed_by now (space_then none)) back = followed_joined now (space_then none) back in
          let listed : leaves (followed_by now (space_then none)) ≡ leaves now ++ (Content.whitespace (0x20 ∷ []) ∷ []) = leaves-followed_by now (space_then none) in
          let begins : first_printed (leaves (followed_by now back)) ≡ first_printed (leaves (followed_by now (space_then back))) =
          ap first_printed (leaves-followed_by now back) ∙ same_first (leaves now) (leaves back) (leaves (space_then back)) bare ∙ ap first_printed (sym (leaves-followed_by now (space_then back))) in
          record {
            stretch = joined_stretch o kind s.stretch (alone.past_trivia (space_trivia o) alone.stays);
            ends = subst (λ l. LeavesEnd o l None) (sym listed) (joined_leaves o (leaves now) (Content.whitespace (0x20 ∷ []) ∷ []) None (subst (LeavesEnd o (leaves now)) (sym (ap (λ x. or_else x None) space_first)) (space_serves o (leaves now) None s.ends)) (tt, tt));
            before = subst (λ r. meet (leaves front) (leaves r) ≡ false) regrouped (ap (λ x. is_bare_leaf (last_printed (leaves front)) && is_bare_leaf x) (sym begins) ∙ s.before);
            behind = ap (λ l. meet l (leaves back)) listed ∙ no_meeting_behind (leaves now) (leaves back);
          }

  spaced_both : (front now back : OrderedTree) {last to : Last} → StretchAlone o kind last now to → LeavesEnd o (leaves now) None → IsSpacedBoth front (spaced (leaves front) now (leaves back)) back last to
  spaced_both front now back g e = with_space_behind front (spaced_before (leaves front) now (leaves back)) back (with_space_before front now back g e)

  -- its lines
  lines_before : (front now back : OrderedTree) {from to : Last} → StretchAlone o kind from front to → LinesEnd false (followed_by front (followed_by now back)) → LinesEnd false (followed_by front (followed_by (spaced_before (leaves front) now (leaves back)) back))
  lines_before front now back f l = by (meet (leaves front) (leaves now ++ leaves back)) refl
    where
      by : (b : Bool) → meet (leaves front) (leaves now ++ leaves back) ≡ b → LinesEnd false (followed_by front (followed_by (if b then space_then now else now) back))
      by false p = l
      by true p =
          let parts = parted_lines false front (followed_by now back) l in
          let bare = left_of (is_bare_leaf (last_printed (leaves front))) _ p in
          joined_lines false front (space_then (followed_by now back)) (ends_inside (ends_line false (followed_by now back)) front f parts.0 (bare_no_line (last_printed (leaves front)) bare)) (λ h. cc, tt, parts.1)

  some_first : (s : OrderedTree) (b : Bool) (x y : OrderedTree) → is_bare_leaf (last_printed (leaves s)) ≡ true → ends_line b (followed_by s x) ≡ ends_line b (followed_by s y)
  some_first none b x y e = cc
  some_first (more content below after) b x y e = line_end_same b content below (followed_by after x) (followed_by after y)

  lines_behind : (front now back : OrderedTree) {from to : Last} → StretchAlone o kind from now to → LinesEnd false (followed_by front (followed_by now back)) → LinesEnd false (followed_by front (followed_by (spaced_behind now (leaves back)) back))
  lines_behind front now back g l = by (meet (leaves now) (leaves back)) refl
    where
      by : (b : Bool) → meet (leaves now) (leaves back) ≡ b → LinesEnd false (followed_by front (followed_by (if b then followed_by now (space_then none) else now) back))
      by false p = l
      by true p =
          let bare = left_of (is_bare_leaf (last_printed (leaves now))) _ p in
          let parts = parted_lines false front (followed_by now back) l in
          let inner = parted_lines false now back parts.1 in
          let inside = joined_lines false now (space_then back) (ends_inside (ends_line false back) now g inner.0 (bare_no_line (last_printed (leaves now)) bare)) (λ h. cc, tt, inner.1) in
          let first = subst (λ e. LinesEnd e front) (some_first now false back (space_then back) bare) parts.0 in
          subst (λ r. LinesEnd false (followed_by front r)) (followed_joined now (space_then none) back) (joined_lines false front (followed_by now (space_then back)) first inside)

  pub shaped_with_space : (t : OrderedTree) → DocumentShaped o t → (front was now back : OrderedTree) (path : List ℕ) (u : OrderedTree)
      → DocumentChanged (container_of kind (followed_by front (followed_by was back))) (container_of kind (followed_by front (followed_by (spaced (leaves front) now (leaves back)) back))) path t u
      → (to : Last) → StretchAlone o kind (last_behind rows.nothing_yet front) now to → IsTrue (may_come o to back)
      → LeavesEnd o (leaves now) None
      → DocumentShaped o u
  shaped_with_space t s front was now back path u c to k h e =
      let both = spaced_both front now back k e in
      shaped_where_none_meet o t s kind front was (spaced (leaves front) now (leaves back)) back path u c to both.stretch h both.ends both.before both.behind

  pub sound_with_space : (t : OrderedTree) → Sound o t → (front was now back : OrderedTree) (path : List ℕ) (u : OrderedTree)
      → DocumentChanged (container_of kind (followed_by front (followed_by was back))) (container_of kind (followed_by front (followed_by (spaced (leaves front) now (leaves back)) back))) path t u
      → (to : Last) → StretchAlone o kind (last_behind rows.nothing_yet front) now to → IsTrue (may_come o to back)
      → LinesEnd false (followed_by front (followed_by now back)) → LeavesEnd o (leaves now) None
      → Sound o u
  sound_with_space t s front was now back path u c to k h l e =
      let way = gives_way o kind front was now back (row_of o kind (followed_by front (followed_by was back)) (value_alone o (document_held o c s.shaped).1)) to k h in
      let first = spaced_before (leaves front) now (leaves back) in
      let lines = lines_behind front first back (with_space_before front now back k e).stretch (lines_before front now back way.before l) in
      record { shaped = shaped_with_space t s.shaped front was now back path u c to k h e; lines = document_lines (λ x. cc, tt, lines) c s.lines }

pub sound_with_spaces : (o : Options) (t : OrderedTree) → Sound o t → (kind : RowKind) (front was now back : OrderedTree) (path : List ℕ) (u : OrderedTree)
    → DocumentChanged (container_of kind (followed_by front (followed_by was back))) (container_of kind (followed_by front (followed_by (spaced (leaves front) now (leaves back)) back))) path t u
    → (to : Last) → StretchAlone o kind (last_behind rows.nothing_yet front) now to → IsTrue (may_come o to back)
    → LinesEnd false (followed_by front (followed_by now back)) → LeavesEnd o (leaves now) None
    → Sound o u
sound_with_spaces o t s kind = sound_with_space o kind t s
