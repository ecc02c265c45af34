-- A root's row without its value.
use Rattle.std.proofs.Common.{◌≡◌, ◌∙◌, sym, ap, subst, refl, Bool, true, false, not, List, [], ◌∷◌, ◌++◌, None, IsTrue, append-nil}
use Rattle.std.proofs.lemmas.List.{append_assoc}
use Rattle.jsonc_text.specs.Options.{Options}
use Rattle.jsonc_text.specs.Plain.{Plain}
use Rattle.jsonc_tree.specs.Content.{Content}
use Rattle.jsonc_tree.specs.OrderedTree.{OrderedTree, none, more, own_leaf, leaves, followed_by}
use Rattle.jsonc_tree.specs.Values as values
use Rattle.jsonc_tree.specs.Values.{is_passed_over, HasNoValue, HoldsValue, DocumentValueOf}
use Rattle.jsonc_tree.proofs.OrderedTrees.{leaves-followed_by}
use Rattle.jsonc_layout.specs.nodes.Kinds.{is_inline_trivia}
use Rattle.jsonc_sound.specs.Lines.{is_line_comment}
use Rattle.jsonc_tree.specs.OrderedTree.{Top}
use Rattle.jsonc_sound.specs.TreeChanges.{IsElement, leaves_of}
use Rattle.jsonc_sound.specs.TriviaChanges.{AreTrivia, leaves_then}
use Rattle.jsonc_sound.proofs.FirstNodes.{no_element, value_of_element}
use Rattle.jsonc_sound.proofs.TriviaLeaves.{front_leaves}
use Rattle.jsonc_sound.specs.Alone as alone
use Rattle.jsonc_sound.specs.Alone.{RootAlone}
use Rattle.jsonc_sound.specs.Lines.{ends_loosely, LinesEndLoosely}
use Rattle.jsonc_sound.specs.SoundTrees.{SoundTree}
use Rattle.jsonc_sound.proofs.LooseChanges.{joined_loosely, parted_loosely}
use Rattle.jsonc_sound.specs.MarkChanges.{AreBlanks, marks_under}
use Rattle.jsonc_sound.specs.Marks.{marks, marks_of}
use Rattle.jsonc_sound.proofs.ReplacedStretches.{marks_join, trivia_has_comments, blanks_unmarked}
use Rattle.jsonc_sound.specs.Leaving as leaving
use Rattle.jsonc_sound.specs.Leaving.{ends_apart, among, ValueRemoved, Empties}
use Rattle.jsonc_sound.specs.EntryLaws.{root_with, SoundWithoutValue, NoValueWithoutValue, MarksWithoutValue}
use Rattle.jsonc_sound.proofs.RowParts.{beside_trivia, rest_trivia}
use Rattle.jsonc_sound.proofs.RootRows.{trivia_passed, lines_behind, root_lines, root_marks, root_alone, root_sound, value_first, behind_trivia, row_ends, any_stood}

-- the lines of a strict row that ends with no comment end whatever follows
ends_alike : (a b : Bool) (content : Content) (below after : OrderedTree) → ends_loosely false a (more content below after) ≡ ends_loosely false b (more content below after)
ends_alike a b (Content.newline k) below after = refl
ends_alike a b (Content.whitespace s) below after = refl
ends_alike a b content below after = refl

no_comment_apart : (content : Content) → IsTrue (not (is_inline_trivia content)) → IsTrue (is_line_comment content) → ⊥
no_comment_apart (Content.comment s) h l = cc
no_comment_apart content h l = cc

lines_apart : (a b : Bool) (front : OrderedTree) → IsTrue (ends_apart front) → LinesEndLoosely false a front → LinesEndLoosely false b front
lines_apart a b none h l = tt
lines_apart a b (more content below none) h l = (λ c. absurd (no_comment_apart content h c), l.1, tt)
lines_apart a b (more content below (more next under after)) h l = (λ c. subst IsTrue (ends_alike a b next under after) (l.0 c), l.1, lines_apart a b (more next under after) h l.2)

lines_without : (front back : OrderedTree) (before line : List Content) (top : Top) → IsTrue (ends_apart front) → LinesEndLoosely false true (followed_by front (among before top line back)) → LinesEndLoosely false true (followed_by front back)
lines_without front back before line top h l =
    let parts = parted_loosely false true front (among before top line back) l in
    let rest = lines_behind false true before (more top.content top.below (leaves_then line back)) parts.1 in
    let behind = lines_behind false true line back rest.2 in
    joined_loosely false true front back (lines_apart (ends_loosely false true (among before top line back)) (ends_loosely false true back) front h parts.0) behind

module _ (o : Options) where
  -- no second value stands behind one
  second_value : (front : OrderedTree) (before : List Content) (content : Content) (below after : OrderedTree) → IsElement content → AreTrivia before → RootAlone o true (followed_by front (leaves_then before (more content below after))) → ⊥
  second_value none before content below after p h g = let wrong : true ≡ false = (value_first o p (behind_trivia o before (more content below after) h g)).0 in cc
  second_value (more c b front) before content below after p h (alone.root_trivia t g) = second_value front before content below after p h g

  alone_without : (front back : OrderedTree) (before line : List Content) (top : Top) → IsElement top.content → AreTrivia before → AreTrivia line → RootAlone o false (followed_by front (among before top line back)) → RootAlone o true (followed_by front back)
  alone_without none back before line top p h k g = behind_trivia o line back k (value_first o p (behind_trivia o before (more top.content top.below (leaves_then line back)) h g)).2
  alone_without (more c b front) back before line top p h k (alone.root_trivia t g) = alone.root_trivia t (alone_without front back before line top p h k g)
  alone_without (more c b front) back before line top p h k (alone.root_value v g) = absurd (second_value front before top.content top.below (leaves_then line back) p h g)

  emptied_sound : {left new : OrderedTree} → Empties left new → SoundTree o (root_with left) → SoundTree o (root_with new)
  emptied_sound Empties.stays s = s
  emptied_sound (Empties.empties blanks h) s = root_sound o none alone.root_ends tt tt

  pub sound_without : (top : Top) (row left new : OrderedTree) → SoundWithoutValue o top row left new
  sound_without top row left new s p (leaving.value_leaves front back before line a b k) e =
      let left_alone = alone_without front back before line top p (beside_trivia before b) (rest_trivia line k) (root_alone o (followed_by front (among before top line back)) s) in
      let left_lines = lines_without front back before line top a (root_lines s.lines) in
      emptied_sound e (root_sound o (followed_by front back) (any_stood o left_alone) (row_ends o None left_alone) left_lines)

  -- the value
  no_value_behind : (cs : List Content) (back : OrderedTree) → HasNoValue (leaves_then cs back) → HasNoValue back
  no_value_behind [] back h = h
  no_value_behind (c ∷ cs) back (values.pass p h) = no_value_behind cs back h

  no_value_after : (front back : OrderedTree) → HasNoValue (followed_by front back) → HasNoValue back
  no_value_after none back h = h
  no_value_after (more c b front) back (values.pass p h) = no_value_after front back h

  no_value_first : {content : Content} {below after : OrderedTree} → HasNoValue (more content below after) → IsTrue (is_passed_over content)
  no_value_first (values.pass p h) = p

  held_behind : (cs : List Content) (back : OrderedTree) {x : Plain} → AreTrivia cs → HoldsValue o (leaves_then cs back) x → HoldsValue o back x
  held_behind [] back h k = k
  held_behind (c ∷ cs) back h (values.pass_to_value q k) = held_behind cs back h.1 k
  held_behind (c ∷ cs) back h (values.value_of v k) = absurd (no_element c (value_of_element v) (trivia_passed c h.0))

  held_element : {content : Content} {below after : OrderedTree} {x : Plain} → IsElement content → HoldsValue o (more content below after) x → HasNoValue after
  held_element p (values.pass_to_value {content = content} q k) = absurd (no_element content p q)
  held_element p (values.value_of v k) = k

  value_without : (front back : OrderedTree) (before line : List Content) (top : Top) {x : Plain} → IsElement top.content → AreTrivia before → HoldsValue o (followed_by front (among before top line back)) x → HasNoValue (followed_by front back)
  value_without none back before line top p h k = no_value_behind line back (held_element p (held_behind before (more top.content top.below (leaves_then line back)) h k))
  value_without (more c b front) back before line top p h (values.pass_to_value q k) = values.pass q (value_without front back before line top p h k)
  value_without (more c b front) back before line top p h (values.value_of v k) =
      let rest = no_value_after front (among before top line back) k in
      absurd (no_element top.content p (no_value_first (no_value_behind before (more top.content top.below (leaves_then line back)) rest)))

  emptied_value : {left new : OrderedTree} → Empties left new → HasNoValue left → HasNoValue new
  emptied_value Empties.stays h = h
  emptied_value (Empties.empties blanks k) h = values.end

  row_value : {row : OrderedTree} {x : Plain} → (below : OrderedTree) × (root_with row ≡ root_with below) × HoldsValue o below x → HoldsValue o row x
  row_value {row} {x} (below, same, h) =
      let first : below ≡ row = cc in
      subst (λ t. HoldsValue o t x) first h

  pub none_without : (top : Top) (row left new : OrderedTree) → NoValueWithoutValue o top row left new
  none_without top row left new x d p (leaving.value_leaves front back before line a b k) e =
      (new, refl, emptied_value e (value_without front back before line top p (beside_trivia before b) (row_value d)))

-- the marks
blank_trivia : (cs : List Content) → AreBlanks cs → AreTrivia cs
blank_trivia [] h = tt
blank_trivia (Content.whitespace s ∷ cs) h = (refl, blank_trivia cs h.1)
blank_trivia (Content.newline k ∷ cs) h = (refl, blank_trivia cs h.1)
blank_trivia (content ∷ cs) h = cc

emptied_marks : {left new : OrderedTree} → Empties left new → marks new ≡ marks left
emptied_marks Empties.stays = refl
emptied_marks (Empties.empties blanks h) = sym (ap marks_of (front_leaves blanks none (blank_trivia blanks h) ∙ append-nil blanks) ∙ blanks_unmarked blanks h)

pub among_leaves : (before : List Content) (top : Top) (line : List Content) (back : OrderedTree) → AreTrivia before → AreTrivia line → leaves (among before top line back) ≡ before ++ (leaves_of top ++ (line ++ leaves back))
among_leaves before top line back h k =
    front_leaves before (more top.content top.below (leaves_then line back)) h
    ∙ ap (λ l. before ++ l) (sym (append_assoc (own_leaf top.content) (leaves top.below) (leaves (leaves_then line back))) ∙ ap (λ l. leaves_of top ++ l) (front_leaves line back k))

marks_with : (front back : OrderedTree) (before line : List Content) (top : Top) → AreTrivia before → AreTrivia line
    → marks (followed_by front (among before top line back)) ≡ marks front ++ ((marks_of before ++ (marks_under top ++ marks_of line)) ++ marks back)
marks_with front back before line top h k =
    ap marks_of (leaves-followed_by front (among before top line back) ∙ ap (λ l. leaves front ++ l) (among_leaves before top line back h k))
    ∙ marks_join (leaves front) (before ++ (leaves_of top ++ (line ++ leaves back)))
    ∙ ap (λ m. marks front ++ m) (parts (leaves back))
  where
    parts : (back : List Content) → marks_of (before ++ (leaves_of top ++ (line ++ back))) ≡ (marks_of before ++ (marks_under top ++ marks_of line)) ++ marks_of back
    parts back =
        marks_join before (leaves_of top ++ (line ++ back))
        ∙ ap (λ m. marks_of before ++ m) (marks_join (leaves_of top) (line ++ back) ∙ ap (λ m. marks_under top ++ m) (marks_join line back) ∙ sym (append_assoc (marks_under top) (marks_of line) (marks_of back)))
        ∙ sym (append_assoc (marks_of before) (marks_under top ++ marks_of line) (marks_of back))

marks_left : (front back : OrderedTree) → marks (followed_by front back) ≡ marks front ++ marks back
marks_left front back = ap marks_of (leaves-followed_by front back) ∙ marks_join (leaves front) (leaves back)

pub marks_without : (top : Top) (row left new : OrderedTree) → MarksWithoutValue top row left new
marks_without top row left new (leaving.value_leaves front back before line a b k) e = record {
  leading = marks_of before;
  trailing = marks_of line;
  comments_before = trivia_has_comments before (beside_trivia before b);
  comments_behind = trivia_has_comments line (rest_trivia line k);
  gone = record {
    front = marks front;
    back = marks back;
    before = root_marks (followed_by front (among before top line back)) ∙ marks_with front back before line top (beside_trivia before b) (rest_trivia line k);
    after = root_marks new ∙ emptied_marks e ∙ marks_left front back;
  };
}
