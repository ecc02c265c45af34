-- A sound document in which an element has left a container.
use Rattle.std.proofs.Common.{ℕ, ◌≡◌, ◌∙◌, sym, ap, subst, refl, true, false, not, ◌||◌, List, [], ◌∷◌, Option, None, IsTrue}
use Rattle.jsonc_text.specs.Options.{Options}
use Rattle.jsonc_text.specs.Text.{next}
use Rattle.jsonc_tree.specs.Content.{Content}
use Rattle.jsonc_tree.specs.OrderedTree.{OrderedTree, none, more, leaves, followed_by}
use Rattle.jsonc_tree.proofs.OrderedTrees.{leaves-followed_by}
use Rattle.jsonc_layout.specs.nodes.Kinds.{is_trivia, is_whitespace, is_newline}
use Rattle.jsonc_sound.specs.Shape.{token_then}
use Rattle.jsonc_sound.specs.Rows as rows
use Rattle.jsonc_sound.specs.Rows.{RowKind, opening, closing, Last, container_of}
use Rattle.jsonc_sound.specs.Rows.{last_behind}
use Rattle.jsonc_tree.specs.OrderedTree.{Top}
use Rattle.jsonc_sound.specs.TreeChanges.{IsElement, DocumentChanged}
use Rattle.jsonc_sound.specs.TriviaChanges.{AreTrivia, leaves_then}
use Rattle.jsonc_sound.proofs.HeldValues.{document_held}
use Rattle.jsonc_sound.specs.Adjacent.{follower, LeavesEnd, last_printed}
use Rattle.jsonc_sound.specs.Alone as alone
use Rattle.jsonc_sound.specs.Alone.{may_stand, may_come, RowAlone, StretchAlone}
use Rattle.jsonc_sound.specs.Lines.{ends_loosely, LinesEndLoosely}
use Rattle.jsonc_sound.specs.SoundTrees.{SoundTree}
use Rattle.jsonc_sound.specs.Spaces.{meet}
use Rattle.jsonc_sound.proofs.NodesAlone.{value_alone, value_leaves}
use Rattle.jsonc_sound.proofs.Leaves.{parted_leaves, last_serves}
use Rattle.jsonc_sound.proofs.LooseChanges.{parted_loosely, joined_loosely}
use Rattle.jsonc_sound.proofs.SeamRows.{container_leaves, row_of}
use Rattle.jsonc_sound.proofs.SoundTrees.{kept_where_none_meet}
use Rattle.jsonc_sound.proofs.Spaces.{last_of, serves_unless, stretch_no_word}
use Rattle.jsonc_sound.proofs.SeamStretches.{gives_way, last_is, parted_row}
use Rattle.jsonc_sound.specs.MarkChanges.{AreBlanks}
use Rattle.jsonc_sound.specs.EntryLaws.{SoundWithoutElement}
use Rattle.jsonc_sound.specs.Leaving.{AreInlineTrivia, ends_apart, has_no_comma, comma_comes, among, ElementRemoved, with_comma_behind, with_comma_before, with_no_comma, ClosesUp, closes_up}
use Rattle.jsonc_sound.proofs.LinesLeft.{lines_past, lines_among, lines_more, lines_apart, apart_behind, row_lines}
use Rattle.jsonc_sound.proofs.RowParts.{beside_trivia, rest_trivia, between_trivia, line_trivia, leaves_followed, among_followed, past_leaves, at_comma, parted_at, row_comes, comma_gone, element_gone, no_comma_behind, leads_on, before_bracket, one_token, NoComma}

-- blanks are trivia
blanks_trivia : (ls : List Content) → AreBlanks ls → AreTrivia ls
blanks_trivia [] h = tt
blanks_trivia (content ∷ rest) h = (by content h.0, blanks_trivia rest h.1)
  where
    by : (c : Content) → IsTrue (is_whitespace c || is_newline c) → IsTrue (is_trivia c)
    by (Content.whitespace s) k = refl
    by (Content.newline n) k = refl
    by c k = cc

-- an element with a comma behind it
abbrev with_comma : List Content → Top → List Content → List Content → OrderedTree → OrderedTree
with_comma before top between line back = among before top between (token_then 0x2C (leaves_then line back))

-- the leaves of a stretch between two end before something
middle_leaves : (o : Options) (front mid back : OrderedTree) (n : Option ℕ) → LeavesEnd o (leaves (followed_by front (token_then 0x2C (followed_by mid back)))) n → LeavesEnd o (leaves mid) (follower (leaves back) n)
middle_leaves o front mid back n h =
    let rest = (parted_leaves o (leaves front) (leaves (token_then 0x2C (followed_by mid back))) n (subst (λ ls. LeavesEnd o ls n) (leaves-followed_by front (token_then 0x2C (followed_by mid back))) h)).1 in
    (parted_leaves o (leaves mid) (leaves back) n (subst (λ ls. LeavesEnd o ls n) (leaves-followed_by mid back) rest.1)).0

module _ (o : Options) (kind : RowKind) where
  -- a stretch that ends before something ends before the end
  stretch_last : {last to : Last} {s : OrderedTree} (n : Option ℕ) → StretchAlone o kind last s to → LeavesEnd o (leaves s) n → LeavesEnd o (leaves s) None
  stretch_last {s = s} n g h = last_serves o (leaves s) n None h (serves_unless o (last_printed (leaves s)) n None (stretch_no_word o g) (λ b. refl) (last_of o (leaves s) n h))

  -- what a stretch of the row has to show that is replaced by another
  record Left (row left : OrderedTree) : Type 0 where
    front : OrderedTree
    was : OrderedTree
    now : OrderedTree
    back : OrderedTree
    to : Last
    old : row ≡ followed_by front (followed_by was back)
    new : left ≡ followed_by front (followed_by now back)
    stretch : StretchAlone o kind (last_behind rows.nothing_yet front) now to
    comes : IsTrue (may_come o to back)
    lines : LinesEndLoosely true false (followed_by front (followed_by now back))
    ends : LeavesEnd o (leaves now) None
    before : meet (leaves front) (leaves (followed_by now back)) ≡ false
    behind : meet (leaves now) (leaves back) ≡ false

  -- where nothing comes in the stretch's place
  gone : (front was back : OrderedTree) {row : OrderedTree} → row ≡ followed_by front (followed_by was back) → IsTrue (may_come o (last_behind rows.nothing_yet front) back) → LinesEndLoosely true false (followed_by front back)
      → meet (leaves front) (leaves back) ≡ false → Left row (followed_by front back)
  gone front was back old comes lines meets = record {
    front = front;
    was = was;
    now = none;
    back = back;
    to = last_behind rows.nothing_yet front;
    old = old;
    new = refl;
    stretch = alone.stays;
    comes = comes;
    lines = lines;
    ends = tt;
    before = meets;
    behind = refl;
  }

  comma_behind : (top : Top) (front back : OrderedTree) (before between line : List Content) → IsElement top.content → IsTrue (ends_apart front) → AreInlineTrivia before → AreTrivia between → AreTrivia line → meet (leaves front) (leaves back) ≡ false
      → RowAlone o kind rows.nothing_yet (followed_by front (with_comma before top between line back)) → LinesEndLoosely true false (followed_by front (with_comma before top between line back))
      → Left (followed_by front (with_comma before top between line back)) (followed_by front back)
  comma_behind top front back before between line e a b t u m g l =
      let parts = parted_at o kind front before top between (token_then 0x2C (leaves_then line back)) (beside_trivia before b) t e g in
      let rest = past_leaves o kind line u (at_comma o kind parts.behind).1 in
      let stood = last_is o kind parts.before in
      let may = subst (λ s. IsTrue (may_stand o s)) stood parts.may in
      let ls = parted_loosely true false front (with_comma before top between line back) l in
      let behind = lines_past true false line back (lines_among true false before top between (token_then 0x2C (leaves_then line back)) ls.1).2 in
      let first = lines_apart true (ends_loosely true false (with_comma before top between line back)) (ends_loosely true false back) front a ls.0 in
      let was = with_comma before top between line none in
      let whole = among_followed before top between (token_then 0x2C (leaves_then line none)) back ∙ ap (λ x. among before top between (token_then 0x2C x)) (leaves_followed line none back) in
      gone front was back (ap (followed_by front) (sym whole)) (comma_gone o kind (last_behind rows.nothing_yet front) may rest) (joined_loosely true false front back first behind) m

  no_comma : (top : Top) (front back : OrderedTree) (before line : List Content) → IsElement top.content → IsTrue (ends_apart front) → IsTrue (has_no_comma front) → AreInlineTrivia before → AreTrivia line → IsTrue (not (comma_comes back)) → meet (leaves front) (leaves back) ≡ false
      → RowAlone o kind rows.nothing_yet (followed_by front (among before top line back)) → LinesEndLoosely true false (followed_by front (among before top line back))
      → Left (followed_by front (among before top line back)) (followed_by front back)
  no_comma top front back before line e a f b u k m g l =
      let parts = parted_at o kind front before top line back (beside_trivia before b) u e g in
      let stood = last_is o kind parts.before in
      let may = subst (λ s. IsTrue (may_stand o s)) stood parts.may in
      let free = subst NoComma stood (no_comma_behind o kind tt f parts.before) in
      let ls = parted_loosely true false front (among before top line back) l in
      let first = lines_apart true (ends_loosely true false (among before top line back)) (ends_loosely true false back) front a ls.0 in
      let whole = among_followed before top line none back in
      gone front (among before top line none) back (ap (followed_by front) (sym whole)) (element_gone o kind (last_behind rows.nothing_yet front) free may k parts.behind)
      (joined_loosely true false front back first (lines_among true false before top line back ls.1)) m

  comma_before : (top : Top) (front mid back : OrderedTree) (before line : List Content) (n : Option ℕ) → IsElement top.content → IsTrue (ends_apart (token_then 0x2C mid)) → IsTrue (has_no_comma mid) → AreInlineTrivia before → AreTrivia line
      → meet (leaves front) (leaves (followed_by mid back)) ≡ false → meet (leaves mid) (leaves back) ≡ false
      → RowAlone o kind rows.nothing_yet (followed_by front (token_then 0x2C (followed_by mid (among before top line back)))) → LinesEndLoosely true false (followed_by front (token_then 0x2C (followed_by mid (among before top line back))))
      → LeavesEnd o (leaves (followed_by front (token_then 0x2C (followed_by mid (among before top line back))))) n
      → Left (followed_by front (token_then 0x2C (followed_by mid (among before top line back)))) (followed_by front (followed_by mid back))
  comma_before top front mid back before line n e a f b u m q g l h =
      let split = parted_row o kind front g in
      let comma = at_comma o kind split.2 in
      let parts = parted_at o kind mid before top line back (beside_trivia before b) u e comma.1 in
      let leads = leads_on o kind f parts.may parts.before in
      let stood = sym comma.0 ∙ last_is o kind split.1 in
      let ls = parted_loosely true false front (token_then 0x2C (followed_by mid (among before top line back))) l in
      let inner = parted_loosely true false mid (among before top line back) ls.1.2 in
      let middle = lines_apart true (ends_loosely true false (among before top line back)) (ends_loosely true false back) mid (apart_behind 0x2C mid a) inner.0 in
      let rest = joined_loosely true false mid back middle (lines_among true false before top line back inner.1) in
      record {
        front = front;
        was = token_then 0x2C (followed_by mid (among before top line none));
        now = mid;
        back = back;
        to = rows.an_element;
        old = ap (λ x. followed_by front (token_then 0x2C x)) (followed_whole mid back before top line);
        new = refl;
        stretch = subst (λ s. StretchAlone o kind s mid rows.an_element) stood leads;
        comes = row_comes o kind parts.behind;
        lines = joined_loosely true false front (followed_by mid back) (lines_more true (ends_loosely true false (followed_by mid back)) front ls.0) rest;
        ends = stretch_last (follower (leaves (among before top line back)) n) leads (middle_leaves o front mid (among before top line back) n h);
        before = m;
        behind = q;
      }
    where
      followed_whole : (mid back : OrderedTree) (before : List Content) (top : Top) (line : List Content) → followed_by mid (among before top line back) ≡ followed_by (followed_by mid (among before top line none)) back
      followed_whole none back before top line = sym (among_followed before top line none back)
      followed_whole (more content below mid) back before top line = ap (more content below) (followed_whole mid back before top line)

  left_by : {top : Top} {i : ℕ} {row left : OrderedTree} (n : Option ℕ) → IsElement top.content → ElementRemoved top i row left → RowAlone o kind rows.nothing_yet row → LinesEndLoosely true false row → LeavesEnd o (leaves row) n → Left row left
  left_by {top} n e (with_comma_behind front back before between line a b u m) g l h = comma_behind top front back before between line e a b (between_trivia u) (line_trivia u) m g l
  left_by {top} n e (with_comma_before front mid back before line a f b u k m q) g l h = comma_before top front mid back before line n e a f b (rest_trivia line u) m q g l h
  left_by {top} n e (with_no_comma front back before line a f b u k m) g l h = no_comma top front back before line e a f b (rest_trivia line u) k m g l

  -- the row that is left is one alone
  left_alone : {row left : OrderedTree} → Left row left → RowAlone o kind rows.nothing_yet row → RowAlone o kind rows.nothing_yet left
  left_alone d g =
      let way = gives_way o kind d.front d.was d.now d.back (subst (RowAlone o kind rows.nothing_yet) d.old g) d.to d.stretch d.comes in
      subst (RowAlone o kind rows.nothing_yet) (sym d.new) way.new

  -- all before the last bracket may leave
  bracket_left : {row : OrderedTree} → RowAlone o kind rows.nothing_yet row → Left row (token_then (closing kind) none)
  bracket_left g =
      let d = before_bracket o kind g in
      let bracket : RowAlone o kind rows.nothing_yet (token_then (closing kind) none) = alone.closes refl in
      gone none d.0 (token_then (closing kind) none) d.1 (row_comes o kind bracket) (λ h. cc, tt, tt) refl

  closed : {row left new : OrderedTree} → ClosesUp left new → Left row left → RowAlone o kind rows.nothing_yet row → Left row new
  closed ClosesUp.stays d g = d
  closed {row} (closes_up blanks {c = c} h) d g =
      let same = one_token o kind c refl (past_leaves o kind blanks (blanks_trivia blanks h) (left_alone d g)) in
      subst (λ x. Left row (more x none none)) (sym same) (bracket_left g)

  kept : {row left : OrderedTree} (t : OrderedTree) → SoundTree o t → (path : List ℕ) (u : OrderedTree) → Left row left → DocumentChanged (container_of kind row) (container_of kind left) path t u → SoundTree o u
  kept {row} {left} t s path u d c =
      let old = subst (λ x. DocumentChanged (container_of kind x) (container_of kind left) path t u) d.old c in
      let both = subst (λ x. DocumentChanged (container_of kind (followed_by d.front (followed_by d.was d.back))) (container_of kind x) path t u) d.new old in
      kept_where_none_meet o t s kind d.front d.was d.now d.back path u both d.to d.stretch d.comes d.lines d.ends d.before d.behind

pub sound_without_element : (o : Options) (t : OrderedTree) → SoundWithoutElement o t
sound_without_element o t s kind top i row left new path u c e w z =
    let v = document_held o c s.shaped in
    let g = row_of o kind row (value_alone o v.1) in
    let h = (subst (λ a. LeavesEnd o a (next v.0)) (container_leaves kind row) (value_leaves o v.1)).1 in
    let d = left_by o kind (next v.0) e w g (row_lines kind row c s.lines) h in
    kept o kind t s path u (closed o kind z d g) c
