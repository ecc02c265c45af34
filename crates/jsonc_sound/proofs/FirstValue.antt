-- A first value in a root's row of trivia.
use Rattle.std.proofs.Common.{ℕ, ◌≡◌, ◌∙◌, sym, ap, subst, refl, Bool, true, false, not, cond, List, [], ◌∷◌, ◌++◌, Option, Some, None, ◌==◌, IsTrue, append-nil, rules}
use Rattle.std.proofs.lemmas.List.{append_assoc}
use Rattle.std.proofs.lemmas.Str.{chars-IsAscii}
use Rattle.jsonc_text.specs.Options.{Options}
use Rattle.jsonc_text.specs.Text.{next, starts}
use Rattle.jsonc_text.proofs.UniqueGaps.{comment_begins}
use Rattle.jsonc_text.specs.Plain.{Plain}
use Rattle.jsonc_tree.specs.Content.{Content}
use Rattle.jsonc_tree.specs.declared.node.CstNewlineKind.{CstNewlineKind}
use Rattle.jsonc_tree.specs.declared.node.CstNewlineKind.TheVariants.{LineFeed, CarriageReturnLineFeed, CarriageReturn}
use Rattle.jsonc_tree.specs.OrderedTree.{OrderedTree, none, more, own_leaf, leaves}
use Rattle.jsonc_tree.specs.Values as values
use Rattle.jsonc_tree.specs.Values.{HasNoValue, HoldsValue}
use Rattle.jsonc_layout.specs.nodes.Kinds.{is_comment, is_newline}
use Rattle.jsonc_sound.specs.Lines.{is_line_comment}
use Rattle.jsonc_sound.specs.Shape.{IsTrivia}
use Rattle.jsonc_sound.specs.Sound.{IsValueBefore}
use Rattle.jsonc_tree.specs.OrderedTree.{Top}
use Rattle.jsonc_sound.specs.TreeChanges.{leaves_of}
use Rattle.jsonc_sound.specs.TriviaChanges.{AreTrivia, AreTriviaOf, leaves_then}
use Rattle.jsonc_sound.proofs.FirstNodes.{no_element, line_comment_over}
use Rattle.jsonc_sound.proofs.TriviaLeaves.{front_leaves}
use Rattle.jsonc_sound.specs.Adjacent.{first_char, or_else, follower, LeavesEnd, last_printed}
use Rattle.jsonc_sound.specs.Alone as alone
use Rattle.jsonc_sound.specs.Alone.{RootAlone}
use Rattle.jsonc_sound.specs.Lines.{ends_loosely, LinesEndLoosely}
use Rattle.jsonc_sound.specs.SoundTrees.{SoundTree}
use Rattle.jsonc_sound.proofs.NodesAlone.{value_alone, value_leaves}
use Rattle.jsonc_sound.proofs.Leaves.{joined_leaves, last_serves}
use Rattle.jsonc_sound.proofs.Spaces.{Ends, last_of, serves_unless, value_no_word}
use Rattle.jsonc_sound.specs.MarkChanges.{AreBlanks, marks_under}
use Rattle.jsonc_sound.specs.Marks.{marks, marks_of}
use Rattle.jsonc_sound.proofs.ReplacedStretches.{marks_join, blanks_unmarked}
use Rattle.jsonc_sound.specs.Coming as coming
use Rattle.jsonc_sound.specs.Coming.{AreLineEnds, has_text, ends_in_comment, begins_in_line_end}
use Rattle.jsonc_sound.specs.EntryLaws.{root_with, SoundWithFirstValue, HasFirstValue, MarksWithFirstValue}
use Rattle.jsonc_sound.proofs.RootRows.{trivia_passed, line_ends_trivia, joined_trivia, leaves_then_joined, lines_behind, root_lines, root_marks, loosened, root_alone, root_sound, behind_trivia, trivia_of, trivia_before, line_ends_of, leaves_led}

-- lines of a strict row go by the first node behind
ends_by_first : (a b : Bool) (content : Content) (after rest : OrderedTree) → ends_loosely false a (more content none after) ≡ ends_loosely false b (more content none rest)
ends_by_first a b (Content.newline k) after rest = refl
ends_by_first a b (Content.whitespace s) after rest = refl
ends_by_first a b content after rest = refl

newline_no_comment : (content : Content) → IsTrue (is_newline content) → IsTrue (is_line_comment content) → ⊥
newline_no_comment (Content.newline k) h l = cc
newline_no_comment content h l = cc

newline_serves : (a : Bool) (content : Content) (after : OrderedTree) → IsTrue (is_newline content) → IsTrue (ends_loosely false a (more content none after))
newline_serves a (Content.newline k) after h = refl
newline_serves a content after h = cc

slash_begins : (n : Option ℕ) → IsTrue (starts (λ c. c == 0x2F) n) → starts (λ c. true) n ≡ true
slash_begins None h = cc
slash_begins (Some c) h = refl

no_line_comment : (o : Options) (so_far : Bool) (content : Content) → IsTrivia o content → IsTrue (not (ends_in_comment so_far (content ∷ []))) → IsTrue (is_line_comment content) → ⊥
no_line_comment o so_far (Content.comment s) t h l = let e = slash_begins (first_char (Content.comment s)) (comment_begins t.1.1) in cc
no_line_comment o so_far content t h l = cc

newlines_led : (cs : List Content) (rest : OrderedTree) → AreLineEnds cs → LinesEndLoosely false true rest → LinesEndLoosely false true (leaves_then cs rest)
newlines_led [] rest h l = l
newlines_led (c ∷ cs) rest h l = (λ k. absurd (newline_no_comment c h.0 k), tt, newlines_led cs rest h.1 l)

-- behind trivia, where no comment stands last before it
lines_led : (o : Options) (so_far : Bool) (front before : List Content) (old rest : OrderedTree) → AreTriviaOf o front → AreLineEnds before → IsTrue (not (ends_in_comment so_far (front ++ before)))
    → LinesEndLoosely false true (leaves_then front old) → LinesEndLoosely false true rest → LinesEndLoosely false true (leaves_then (front ++ before) rest)
lines_led o so_far [] before old rest t n h l m = newlines_led before rest n m
lines_led o so_far (c ∷ []) [] old rest t n h l m = (λ k. absurd (no_line_comment o so_far c t.0 h k), tt, m)
lines_led o so_far (c ∷ []) (b ∷ before) old rest t n h l m = (λ k. newline_serves true b (leaves_then before rest) n.0, tt, newlines_led (b ∷ before) rest n m)
lines_led o so_far (c ∷ d ∷ front) before old rest t n h l m = (
  λ k. subst IsTrue (ends_by_first true true d (leaves_then front old) (leaves_then (front ++ before) rest)) (l.0 k),
  tt,
  lines_led o (cond (has_text c) (is_comment c) so_far) (d ∷ front) before old rest t.1 n h l.2 m,
)

-- a line's end ends each literal
newline_ends : (k : CstNewlineKind) (n : Option ℕ) → Ends (or_else (first_char (Content.newline k)) n)
newline_ends LineFeed n = subst (λ t. Ends (or_else (next t) n)) (sym (chars-IsAscii (10 ∷ []) (search rules))) refl
newline_ends CarriageReturnLineFeed n = subst (λ t. Ends (or_else (next t) n)) (sym (chars-IsAscii (13 ∷ 10 ∷ []) (search rules))) refl
newline_ends CarriageReturn n = subst (λ t. Ends (or_else (next t) n)) (sym (chars-IsAscii (13 ∷ []) (search rules))) refl

tail_ends : (cs : List Content) → IsTrue (begins_in_line_end cs) → Ends (follower (leaves (leaves_then cs none)) None)
tail_ends [] h = cc
tail_ends (Content.newline k ∷ cs) h = newline_ends k (follower (leaves (leaves_then cs none)) None)
tail_ends (content ∷ cs) h = cc

module _ (o : Options) where
  value_ends : (top : Top) (n : Option ℕ) → IsValueBefore o top [] → Ends n → LeavesEnd o (leaves_of top) n
  value_ends top n v h =
      let whole : LeavesEnd o (leaves_of top) None = value_leaves o v in
      last_serves o (leaves_of top) None n whole (serves_unless o (last_printed (leaves_of top)) None n (value_no_word o (value_alone o v)) (λ b. h) (last_of o (leaves_of top) None whole))

  tail_alone : (behind back : List Content) → AreLineEnds behind → AreTriviaOf o back → RootAlone o true (leaves_then (behind ++ back) none)
  tail_alone behind back h k =
      subst (RootAlone o true) (sym (leaves_then_joined behind back none)) (trivia_before o behind (leaves_then back none) (line_ends_of o behind h) (trivia_before o back none k alone.root_ends))

  head_alone : (front before : List Content) (rest : OrderedTree) → AreTriviaOf o front → AreLineEnds before → RootAlone o false rest → RootAlone o false (leaves_then (front ++ before) rest)
  head_alone front before rest h k g =
      subst (RootAlone o false) (sym (leaves_then_joined front before rest)) (trivia_before o front (leaves_then before rest) h (trivia_before o before rest (line_ends_of o before k) g))

  tail_leaves : (behind back : List Content) → AreLineEnds behind → AreTriviaOf o back → LeavesEnd o (leaves (leaves_then (behind ++ back) none)) None
  tail_leaves behind back h k =
      subst (λ t. LeavesEnd o (leaves t) None) (sym (leaves_then_joined behind back none)) (leaves_led o behind (leaves_then back none) None (line_ends_of o behind h) (leaves_led o back none None k tt))

  head_leaves : (front before : List Content) (rest : OrderedTree) → AreTriviaOf o front → AreLineEnds before → LeavesEnd o (leaves rest) None → LeavesEnd o (leaves (leaves_then (front ++ before) rest)) None
  head_leaves front before rest h k e =
      subst (λ t. LeavesEnd o (leaves t) None) (sym (leaves_then_joined front before rest)) (leaves_led o front (leaves_then before rest) None h (leaves_led o before rest None (line_ends_of o before k) e))

  node_leaves : (top : Top) (tail : OrderedTree) → IsValueBefore o top [] → Ends (follower (leaves tail) None) → LeavesEnd o (leaves tail) None → LeavesEnd o (leaves (more top.content top.below tail)) None
  node_leaves top tail v h e =
      subst (λ l. LeavesEnd o l None) (append_assoc (own_leaf top.content) (leaves top.below) (leaves tail))
      (joined_leaves o (leaves_of top) (leaves tail) None (value_ends top (follower (leaves tail) None) v h) e)

  -- the old row
  record OldRow (front back : List Content) : Type 0 where
    before : AreTriviaOf o front
    behind : AreTriviaOf o back
    whole : LinesEndLoosely false true (leaves_then front (leaves_then back none))

  old_row : (front back : List Content) → AreTrivia front → AreTrivia back → SoundTree o (root_with (leaves_then (front ++ back) none)) → OldRow front back
  old_row front back h k s =
      let g = subst (RootAlone o false) (leaves_then_joined front back none) (root_alone o (leaves_then (front ++ back) none) s) in
      record {
        before = trivia_of o front (leaves_then back none) h g;
        behind = trivia_of o back none k (behind_trivia o front (leaves_then back none) h g);
        whole = subst (LinesEndLoosely false true) (leaves_then_joined front back none) (root_lines s.lines);
      }

  tail_lines : (front behind back : List Content) → AreLineEnds behind → LinesEndLoosely false true (leaves_then front (leaves_then back none)) → LinesEndLoosely false true (leaves_then (behind ++ back) none)
  tail_lines front behind back h l =
      subst (LinesEndLoosely false true) (sym (leaves_then_joined behind back none)) (newlines_led behind (leaves_then back none) h (lines_behind false true front (leaves_then back none) l))

  pub sound_with_first : (top : Top) (v : Plain) (row new : OrderedTree) → SoundWithFirstValue o top v row new
  sound_with_first top v row new s n p (coming.value_comes front back before behind ht hb nb nh led starts leads ends) =
      let old = old_row front back ht hb s in
      let tail : OrderedTree = leaves_then (behind ++ back) none in
      let node : OrderedTree = more top.content top.below tail in
      let node_alone : RootAlone o false node = alone.root_value (value_alone o n.shaped) (tail_alone behind back nh old.behind) in
      let node_ends = node_leaves top tail n.shaped (tail_ends (behind ++ back) starts) (tail_leaves behind back nh old.behind) in
      let node_lines : LinesEndLoosely false true node = (λ k. absurd (no_element top.content p (line_comment_over top.content k)), loosened top.content top.below n.lines, tail_lines front behind back nh old.whole) in
      root_sound o (leaves_then (front ++ before) node) (head_alone front before node old.before nb node_alone) (head_leaves front before node old.before nb node_ends)
      (lines_led o false front before (leaves_then back none) node old.before nb led old.whole node_lines)

  -- the value
  no_value_led : (cs : List Content) (rest : OrderedTree) → AreTrivia cs → HasNoValue rest → HasNoValue (leaves_then cs rest)
  no_value_led [] rest h k = k
  no_value_led (c ∷ cs) rest h k = values.pass (trivia_passed c h.0) (no_value_led cs rest h.1 k)

  held_led : (cs : List Content) (rest : OrderedTree) (x : Plain) → AreTrivia cs → HoldsValue o rest x → HoldsValue o (leaves_then cs rest) x
  held_led [] rest x h k = k
  held_led (c ∷ cs) rest x h k = values.pass_to_value (trivia_passed c h.0) (held_led cs rest x h.1 k)

  pub has_first : (top : Top) (v : Plain) (row new : OrderedTree) → HasFirstValue o top v row new
  has_first top v row new w p (coming.value_comes front back before behind ht hb nb nh led starts leads ends) =
      let tail : OrderedTree = leaves_then (behind ++ back) none in
      let tail_none : HasNoValue tail = no_value_led (behind ++ back) none (joined_trivia behind back (line_ends_trivia behind nh) hb) values.end in
      let node : OrderedTree = more top.content top.below tail in (
        (leaves_then (front ++ back) none, refl, no_value_led (front ++ back) none (joined_trivia front back ht hb) values.end),
        (leaves_then (front ++ before) node, refl, held_led (front ++ before) node v (joined_trivia front before ht (line_ends_trivia before nb)) (values.value_of w tail_none)),
      )

-- the marks
newline_blanks : (cs : List Content) → AreLineEnds cs → AreBlanks cs
newline_blanks [] h = tt
newline_blanks (Content.newline k ∷ cs) h = (refl, newline_blanks cs h.1)
newline_blanks (content ∷ cs) h = cc

unmarked_behind : (a b : List Content) → AreLineEnds b → marks_of (a ++ b) ≡ marks_of a
unmarked_behind a b h = marks_join a b ∙ ap (λ m. marks_of a ++ m) (blanks_unmarked b (newline_blanks b h)) ∙ append-nil (marks_of a)

unmarked_before : (a b : List Content) → AreLineEnds a → marks_of (a ++ b) ≡ marks_of b
unmarked_before a b h = marks_join a b ∙ ap (λ m. m ++ marks_of b) (blanks_unmarked a (newline_blanks a h))

row_marks : (cs : List Content) → AreTrivia cs → marks (leaves_then cs none) ≡ marks_of cs
row_marks cs h = ap marks_of (front_leaves cs none h ∙ append-nil cs)

marks_around : (first last : List Content) (top : Top) → AreTrivia first → AreTrivia last → marks (leaves_then first (more top.content top.below (leaves_then last none))) ≡ marks_of first ++ (marks_under top ++ marks_of last)
marks_around first last top h k =
    ap marks_of (front_leaves first (more top.content top.below (leaves_then last none)) h ∙ ap (λ l. first ++ l) (sym (append_assoc (own_leaf top.content) (leaves top.below) (leaves (leaves_then last none)))))
    ∙ marks_join first (leaves_of top ++ leaves (leaves_then last none))
    ∙ ap (λ m. marks_of first ++ m) (marks_join (leaves_of top) (leaves (leaves_then last none)) ∙ ap (λ m. marks_under top ++ m) (row_marks last k))

pub marks_with_first : (top : Top) (row new : OrderedTree) → MarksWithFirstValue top row new
marks_with_first top row new (coming.value_comes front back before behind ht hb nb nh led starts leads ends) =
    let first = joined_trivia front before ht (line_ends_trivia before nb) in
    let last = joined_trivia behind back (line_ends_trivia behind nh) hb in
    let tail : OrderedTree = leaves_then (behind ++ back) none in
    record {
      front = marks_of front;
      back = marks_of back;
      before = root_marks (leaves_then (front ++ back) none) ∙ row_marks (front ++ back) (joined_trivia front back ht hb) ∙ marks_join front back;
      after = root_marks (leaves_then (front ++ before) (more top.content top.below tail)) ∙ marks_around (front ++ before) (behind ++ back) top first last
          ∙ ap (λ m. m ++ (marks_under top ++ marks_of (behind ++ back))) (unmarked_behind front before nb)
          ∙ ap (λ m. marks_of front ++ (marks_under top ++ m)) (unmarked_before behind back nh);
    }
