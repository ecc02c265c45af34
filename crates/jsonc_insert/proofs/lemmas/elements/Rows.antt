-- The row of an array stays one where blank lines leave it, and where an element comes into it.
use Rattle.std.proofs.Common.{◌≡◌, ◌∙◌, ℕ, Bool, true, false, not, ◌||◌, inl, inr, List, [], ◌∷◌, ◌++◌, Option, None, IsTrue, refl, sym, ap, subst, append-nil}
use Rattle.std.proofs.lemmas.Bool.{cases_Bool}
use Rattle.jsonc_text.specs.Options.{Options}
use Rattle.jsonc_text.proofs.Basics.{or_right}
use Rattle.jsonc_tree.specs.Content.{Content, newline}
use Rattle.jsonc_tree.specs.OrderedTree.{OrderedTree, Top, none, more, followed_by, leaves, own_leaf}
use Rattle.jsonc_tree.proofs.OrderedTrees.{leaves-followed_by}
use Rattle.jsonc_layout.specs.nodes.Kinds.{is_newline, is_whitespace}
use Rattle.jsonc_sound.specs.Lines.{ends_loosely, is_loose, LinesEndLoosely}
use Rattle.jsonc_sound.specs.Shape.{token_then}
use Rattle.jsonc_sound.specs.Adjacent.{follower, LeavesEnd, last_printed}
use Rattle.jsonc_sound.specs.Alone as alone
use Rattle.jsonc_sound.specs.Alone.{may_stand, PartAlone, StretchAlone}
use Rattle.jsonc_sound.specs.Leaving.{comma_comes}
use Rattle.jsonc_sound.specs.MarkChanges.{AreBlanks}
use Rattle.jsonc_sound.specs.Rows.{RowKind, Last, nothing_yet, an_element, a_comma, may_end}
use Rattle.jsonc_sound.specs.Spaces.{is_bare_leaf, first_printed}
use Rattle.jsonc_sound.specs.TreeChanges.{IsElement, leaves_of}
use Rattle.jsonc_sound.specs.TriviaChanges.{AreTrivia, leaves_then}
use Rattle.jsonc_sound.proofs.Changed.{part_element}
use Rattle.jsonc_sound.proofs.Commas.{stretches_join}
use Rattle.jsonc_sound.proofs.Entries.{blanks_trivia}
use Rattle.jsonc_sound.proofs.FirstNodes.{line_comment_over, no_element}
use Rattle.jsonc_sound.proofs.Leaves.{joined_leaves, last_serves, parted_leaves}
use Rattle.jsonc_sound.proofs.LinesLeft.{lines_more, lines_past}
use Rattle.jsonc_sound.proofs.LooseChanges.{joined_loosely, parted_loosely}
use Rattle.jsonc_sound.proofs.RowParts.{beside_trivia, leaves_followed}
use Rattle.jsonc_sound.proofs.SeamStretches.{followed_joined, joined_stretch, last_is, parted_stretch}
use Rattle.jsonc_sound.proofs.Spaces.{Ends, last_of, serves_unless, stretch_no_word}
use Rattle.jsonc_edit.specs.multiline.Reflows.{has_newline}
use Rattle.jsonc_edit.proofs.lemmas.multiline.Reflow.{newline_ends}
use Rattle.jsonc_edit.proofs.lemmas.multiline.SoundRows.{IsRow}
use Rattle.jsonc_insert.specs.elements.Coming.{FirstLinesLeave, none_first, leave_first, LastLinesLeave, none_last, leave_last, BlankLinesLeave, Gap, nothing, a_space, a_line, CommaInserted, none_comes, one_comes, takes_element, GoesOn, elements_follow, none_follow, comma_last, ElementInserted, comes}
use Rattle.jsonc_insert.proofs.lemmas.elements.Stretches.{and_false, behind_comma, ends_not_bare, false_and, first_comma, first_part, gap_ends, gap_first, gap_stretch, stretch_without, takes_stands, trivia_anywhere, trivia_first, without_elements}

-- what may come into the row of a sound array or object
pub record IsPart (o : Options) (kind : RowKind) (top : Top) : Type 0 where
  pub part : PartAlone o kind top.content top.below
  pub lines : LinesEndLoosely (is_loose top.content) false top.below
  pub ends : LeavesEnd o (leaves_of top) None

-- blanks before a row
blanks_lines : (e : Bool) (blanks : List Content) (row : OrderedTree) → AreBlanks blanks → LinesEndLoosely true e row → LinesEndLoosely true e (leaves_then blanks row)
blanks_lines e [] row h l = l
blanks_lines e (content ∷ blanks) row h l = by content h.0 (blanks_lines e blanks row h.1 l)
  where
    by : (c : Content) → IsTrue (is_whitespace c || is_newline c) → LinesEndLoosely true e (leaves_then blanks row) → LinesEndLoosely true e (more c none (leaves_then blanks row))
    by (Content.whitespace s) k r = (λ h. cc, tt, r)
    by (Content.newline n) k r = (λ h. cc, tt, r)
    by c k r = cc

blanks_end : (o : Options) (n : Option ℕ) (blanks : List Content) (row : OrderedTree) → AreBlanks blanks → LeavesEnd o (leaves row) n → LeavesEnd o (leaves (leaves_then blanks row)) n
blanks_end o n [] row h l = l
blanks_end o n (content ∷ blanks) row h l = by content h.0 (blanks_end o n blanks row h.1 l)
  where
    by : (c : Content) → IsTrue (is_whitespace c || is_newline c) → LeavesEnd o (leaves (leaves_then blanks row)) n → LeavesEnd o (leaves (more c none (leaves_then blanks row))) n
    by (Content.whitespace s) k r = (tt, r)
    by (Content.newline m) k r = (tt, r)
    by c k r = cc

blanks_past : (o : Options) (n : Option ℕ) (blanks : List Content) (row : OrderedTree) → AreBlanks blanks → LeavesEnd o (leaves (leaves_then blanks row)) n → LeavesEnd o (leaves row) n
blanks_past o n [] row h l = l
blanks_past o n (content ∷ blanks) row h l = blanks_past o n blanks row h.1 (by content h.0 l)
  where
    by : (c : Content) → IsTrue (is_whitespace c || is_newline c) → LeavesEnd o (leaves (more c none (leaves_then blanks row))) n → LeavesEnd o (leaves (leaves_then blanks row)) n
    by (Content.whitespace s) k r = r.1
    by (Content.newline m) k r = r.1
    by c k r = cc

lines_any : (e : Bool) (row : OrderedTree) → LinesEndLoosely true e row → LinesEndLoosely true true row
lines_any true row l = l
lines_any false row l = lines_more true true row l

ends_newline : (row : OrderedTree) → ends_loosely true false row ≡ true → IsTrue (has_newline row)
ends_newline none h = cc
ends_newline (more (Content.newline k) below after) h = refl
ends_newline (more (Content.whitespace s) below after) h = ends_newline after h
ends_newline (more content below after) h = cc

newline_behind : (front back : OrderedTree) → IsTrue (has_newline back) → IsTrue (has_newline (followed_by front back))
newline_behind none back h = h
newline_behind (more content below front) back h = or_right (is_newline content) (has_newline (followed_by front back)) (newline_behind front back h)

ends_element : (e : Bool) (content : Content) (below after : OrderedTree) → IsElement content → ends_loosely true e (more content below after) ≡ false
ends_element e (Content.newline k) below after h = cc
ends_element e (Content.whitespace s) below after h = cc
ends_element e content below after h = refl

-- an element, and then a row
element_lines : (e : Bool) (content : Content) (below after : OrderedTree) → IsElement content → LinesEndLoosely (is_loose content) false below → LinesEndLoosely true e after → LinesEndLoosely true e (more content below after)
element_lines e content below after h l r = (λ k. absurd (no_element content h (line_comment_over content k)), l, r)

comma_lines : (e : Bool) (after : OrderedTree) → LinesEndLoosely true e after → LinesEndLoosely true e (token_then 0x2C after)
comma_lines e after r = (λ h. cc, tt, r)

gap_lines : {b : Bool} {gap : List Content} (e : Bool) (row : OrderedTree) → Gap b gap → LinesEndLoosely true e row → LinesEndLoosely true e (leaves_then gap row)
gap_lines e row nothing l = l
gap_lines e row a_space l = (λ h. cc, tt, l)
gap_lines e row (a_line i) l = (λ h. cc, tt, (λ h. cc, tt, l))

line_gap : {gap : List Content} (row : OrderedTree) → Gap true gap → ends_loosely true false (leaves_then gap row) ≡ true
line_gap row (a_line i) = refl

module _ (o : Options) (kind : RowKind) where
  -- leaves that end before something end before the end, and before what ends names
  to_end : {last to : Last} {s : OrderedTree} (n : Option ℕ) → StretchAlone o kind last s to → LeavesEnd o (leaves s) n → LeavesEnd o (leaves s) None
  to_end {s = s} n g h = last_serves o (leaves s) n None h (serves_unless o (last_printed (leaves s)) n None (stretch_no_word o g) (λ b. refl) (last_of o (leaves s) n h))

  to_name_end : {last to : Last} {s : OrderedTree} (n m : Option ℕ) → Ends m → StretchAlone o kind last s to → LeavesEnd o (leaves s) n → LeavesEnd o (leaves s) m
  to_name_end {s = s} n m e g h = last_serves o (leaves s) n m h (serves_unless o (last_printed (leaves s)) n m (stretch_no_word o g) (λ b. e) (last_of o (leaves s) n h))

  first_row : {row kept : OrderedTree} → FirstLinesLeave row kept → IsRow o kind row → IsRow o kind kept
  first_row none_first r = r
  first_row (leave_first spaces gone k row h g) r =
      let line : OrderedTree = more (newline k) none none in
      let same = λ (x : OrderedTree). leaves_followed spaces line x in
      let was : StretchAlone o kind nothing_yet (followed_by (leaves_then spaces line) (leaves_then gone row)) r.to = subst (λ s. StretchAlone o kind nothing_yet s r.to) (sym (same (leaves_then gone row))) r.stretch in
      let lines : LinesEndLoosely true false row = lines_past true false gone row (lines_past true false spaces (more (newline k) none (leaves_then gone row)) r.lines).2 in
      let ends : LeavesEnd o (leaves row) None = blanks_past o None gone row g (blanks_past o None spaces (more (newline k) none (leaves_then gone row)) h r.ends).1 in
      record {
        to = r.to;
        stretch = subst (λ s. StretchAlone o kind nothing_yet s r.to) (same row) (stretch_without o kind (leaves_then spaces line) row gone (blanks_trivia gone g) was);
        may = r.may;
        lines = blanks_lines false spaces (more (newline k) none row) h (λ n. cc, tt, lines);
        ends = blanks_end o None spaces (more (newline k) none row) h (tt, ends);
      }

  last_row : {row kept : OrderedTree} → LastLinesLeave row kept → IsRow o kind row → IsRow o kind kept
  last_row none_last r = r
  last_row (leave_last front gone spaces k g h) r =
      let back : OrderedTree = more (newline k) none (leaves_then spaces none) in
      let parts = parted_stretch o kind front (leaves_then gone back) r.stretch in
      let lines = parted_loosely true false front (leaves_then gone back) r.lines in
      let ends = parted_leaves o (leaves front) (leaves (leaves_then gone back)) None (subst (λ l. LeavesEnd o l None) (leaves-followed_by front (leaves_then gone back)) r.ends) in
      let first : LeavesEnd o (leaves front) (follower (leaves back) None) = to_name_end (follower (leaves (leaves_then gone back)) None) (follower (leaves back) None) (newline_ends k (follower (leaves (leaves_then spaces none)) None)) parts.1 ends.0 in
      record {
        to = r.to;
        stretch = stretch_without o kind front back gone (blanks_trivia gone g) r.stretch;
        may = r.may;
        lines = joined_loosely true false front back (lines_any (ends_loosely true false (leaves_then gone back)) front lines.0) (lines_past true false gone back lines.1);
        ends = subst (λ l. LeavesEnd o l None) (sym (leaves-followed_by front back)) (joined_leaves o (leaves front) (leaves back) None first (blanks_past o None gone back g ends.1));
      }

  pub kept_row : {row kept : OrderedTree} → BlankLinesLeave row kept → IsRow o kind row → IsRow o kind kept
  kept_row b r = first_row b.first (last_row b.last r)

  -- a stretch that stands first, with its comma
  record Leads (e : Bool) (led : OrderedTree) : Type 0 where
    to : Last
    stretch : StretchAlone o kind nothing_yet led to
    lines : LinesEndLoosely true e led
    ends : LeavesEnd o (leaves led) None

  leads : (e : Bool) {front led : OrderedTree} {mid : Last} → CommaInserted front led → StretchAlone o kind nothing_yet front mid → LinesEndLoosely true e front → LeavesEnd o (leaves front) None → Leads e led
  leads e {mid = mid} none_comes g l h = record { to = mid; stretch = g; lines = l; ends = h }
  leads e (one_comes front last beside el be) g l h =
      let rest : OrderedTree = leaves_then beside none in
      let trivia : AreTrivia beside = beside_trivia beside be in
      let parts = parted_stretch o kind front (more last.content last.below rest) g in
      let first = first_part o kind el parts.2 in
      let one : OrderedTree = followed_by front (more last.content last.below none) in
      let one_stretch : StretchAlone o kind nothing_yet one an_element = joined_stretch o kind parts.1 (alone.past_element first.may first.part alone.stays) in
      let comma : StretchAlone o kind an_element (token_then 0x2C rest) a_comma = alone.past_comma (trivia_anywhere o kind beside trivia first.rest a_comma) in
      let whole = λ (x : OrderedTree). followed_joined front (more last.content last.below none) x in
      let ends = parted_leaves o (leaves one) (leaves rest) None (subst (λ s. LeavesEnd o s None) (ap leaves (whole rest) ∙ leaves-followed_by one rest) h) in
      let lines = parted_loosely true e front (more last.content last.below rest) l in
      let same = λ (x y : OrderedTree). ends_element e last.content last.below x el ∙ sym (ends_element e last.content last.below y el) in
      record {
        to = a_comma;
        stretch = subst (λ s. StretchAlone o kind nothing_yet s a_comma) (sym (whole (token_then 0x2C rest))) (joined_stretch o kind one_stretch comma);
        lines = joined_loosely true e front (more last.content last.below (token_then 0x2C rest)) (subst (λ b. LinesEndLoosely true b front) (same rest (token_then 0x2C rest)) lines.0)
            (element_lines e last.content last.below (token_then 0x2C rest) el lines.1.1 (comma_lines e rest lines.1.2));
        ends = subst (λ s. LeavesEnd o (leaves s) None) (sym (whole (token_then 0x2C rest)))
            (stretches_join o kind one (token_then 0x2C rest) one_stretch comma (to_end (follower (leaves rest) None) one_stretch ends.0) (tt, ends.1)
            (and_false (is_bare_leaf (last_printed (leaves one))) _ (first_comma (leaves rest))));
      }

  -- what stands behind the new element
  record Behind (e : Bool) (behind : OrderedTree) : Type 0 where
    to : Last
    stretch : StretchAlone o kind an_element behind to
    may : IsTrue (may_end o to)
    lines : LinesEndLoosely true e behind
    ends : LeavesEnd o (leaves behind) None
    first : is_bare_leaf (first_printed (leaves behind)) ≡ false

  goes_behind : {before : List Content} {rest behind : OrderedTree} {last to : Last} → GoesOn o before rest behind → IsTrue (not (comma_comes rest)) → StretchAlone o kind last rest to → IsTrue (may_end o to) → LinesEndLoosely true false rest → LeavesEnd o (leaves rest) None → Behind false behind
  goes_behind {rest = rest} {to = to} (elements_follow gap w n) c g m l h = record {
    to = to;
    stretch = alone.past_comma (gap_stretch o kind w (behind_comma o kind g c n));
    may = m;
    lines = comma_lines false (leaves_then gap rest) (gap_lines false rest w l);
    ends = (tt, gap_ends o rest None w h);
    first = first_comma (leaves (leaves_then gap rest));
  }
  goes_behind {rest = rest} (none_follow gap w n) c g m l h = record {
    to = an_element;
    stretch = gap_stretch o kind w (without_elements o kind g c n an_element);
    may = refl;
    lines = gap_lines false rest w l;
    ends = gap_ends o rest None w h;
    first = gap_first rest w (trivia_first o kind g c n);
  }
  goes_behind {rest = rest} (comma_last t b n) c g m l h = record {
    to = a_comma;
    stretch = alone.past_comma (without_elements o kind g c n a_comma);
    may = t;
    lines = comma_lines false rest l;
    ends = (tt, h);
    first = first_comma (leaves rest);
  }

  module _ (top : Top) (whole : IsPart o kind top) where
    abbrev one : OrderedTree
    one = more top.content top.below none

    one_stretch : (last : Last) → IsTrue (may_stand o last) → StretchAlone o kind last one an_element
    one_stretch last h = alone.past_element h whole.part alone.stays

    one_ends : LeavesEnd o (leaves one) None
    one_ends = subst (λ l. LeavesEnd o (own_leaf top.content ++ l) None) (sym (append-nil (leaves top.below))) whole.ends

    pub new_row : {i : ℕ} {row new : OrderedTree} → ElementInserted o top i row new → IsRow o kind row → IsRow o kind new
    new_row (comes front back led behind gap c t n w g q e) r =
        let parts = parted_stretch o kind front back r.stretch in
        let lines = parted_loosely true false front back r.lines in
        let ends = parted_leaves o (leaves front) (leaves back) None (subst (λ l. LeavesEnd o l None) (leaves-followed_by front back) r.ends) in
        let l = leads (ends_loosely true false back) c parts.1 lines.0 (to_end (follower (leaves back) None) parts.1 ends.0) in
        let b = goes_behind g n parts.2 r.may lines.1 ends.1 in
        let rest : OrderedTree = more top.content top.below behind in
        let takes : IsTrue (takes_element l.to) = subst (λ x. IsTrue (takes_element x)) (sym (last_is o kind l.stretch)) t in
        let stands : IsTrue (may_stand o l.to) = takes_stands o kind l.to takes in
        let rest_stretch : StretchAlone o kind l.to rest b.to = joined_stretch o kind (one_stretch l.to stands) b.stretch in
        let rest_ends : LeavesEnd o (leaves rest) None =
        stretches_join o kind one behind (one_stretch l.to stands) b.stretch one_ends b.ends (and_false (is_bare_leaf (last_printed (leaves one))) _ b.first) in
        let rest_lines : LinesEndLoosely true false (leaves_then gap rest) = gap_lines false rest w (element_lines false top.content top.below behind (part_element o whole.part) whole.lines b.lines) in
        let led_lines : LinesEndLoosely true (ends_loosely true false (leaves_then gap rest)) led =
        elim (cases_Bool (ends_loosely true false back)) [
          | inl ends ↦
              let line : has_newline (followed_by front back) ≡ true = newline_behind front back (ends_newline back ends) in
              subst (λ e. LinesEndLoosely true e led) (sym (line_gap rest (subst (λ e. Gap e gap) line w))) (lines_any (ends_loosely true false back) led l.lines)
          | inr open_end ↦ lines_more true (ends_loosely true false (leaves_then gap rest)) led (subst (λ e. LinesEndLoosely true e led) open_end l.lines)
        ] in
        record {
          to = b.to;
          stretch = joined_stretch o kind l.stretch (gap_stretch o kind w rest_stretch);
          may = b.may;
          lines = joined_loosely true false led (leaves_then gap rest) led_lines rest_lines;
          ends = stretches_join o kind led (leaves_then gap rest) l.stretch (gap_stretch o kind w rest_stretch) l.ends (gap_ends o rest None w rest_ends) (false_and _ (is_bare_leaf (first_printed (leaves (leaves_then gap rest)))) (ends_not_bare o kind l.to takes l.stretch));
        }
