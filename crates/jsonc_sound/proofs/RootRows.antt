-- The row of a root: its nodes alone, and the trivia in it.
use Rattle.std.proofs.Common.{ℕ, ◌≡◌, sym, ap, subst, refl, Bool, true, false, List, [], ◌∷◌, ◌++◌, Option, None, IsTrue, append-nil}
use Rattle.jsonc_text.specs.Options.{Options}
use Rattle.jsonc_tree.specs.Content.{Content}
use Rattle.jsonc_tree.specs.OrderedTree.{OrderedTree, none, more, leaves}
use Rattle.jsonc_tree.specs.Values.{is_passed_over}
use Rattle.jsonc_layout.specs.nodes.Kinds.{is_trivia, is_newline}
use Rattle.jsonc_sound.specs.Lines.{LinesEnd}
use Rattle.jsonc_sound.specs.Shape.{IsTrivia}
use Rattle.jsonc_sound.specs.TreeChanges.{IsElement}
use Rattle.jsonc_sound.specs.TriviaChanges.{AreTrivia, AreTriviaOf, leaves_then}
use Rattle.jsonc_sound.proofs.FirstNodes.{no_element, trivia_over}
use Rattle.jsonc_sound.specs.Adjacent.{follower, LeavesEnd}
use Rattle.jsonc_sound.specs.Alone as alone
use Rattle.jsonc_sound.specs.Alone.{ValueAlone, RootAlone, DocumentAlone}
use Rattle.jsonc_sound.specs.Lines.{is_loose, LinesEndLoosely, DocumentLinesEndLoosely}
use Rattle.jsonc_sound.specs.SoundTrees.{SoundTree}
use Rattle.jsonc_sound.proofs.NodesAlone.{trivia_any, document_alone, document_shaped}
use Rattle.jsonc_sound.proofs.Changed.{alone_element}
use Rattle.jsonc_sound.proofs.LooseLines.{document_loosens}
use Rattle.jsonc_sound.proofs.Texts.{trivia_leaf}
use Rattle.jsonc_sound.specs.Marks.{marks, marks_of}
use Rattle.jsonc_sound.specs.Coming.{AreLineEnds}
use Rattle.jsonc_sound.specs.EntryLaws.{root_with}

-- kinds of trivia
pub trivia_passed : (content : Content) → IsTrue (is_trivia content) → IsTrue (is_passed_over content)
trivia_passed (Content.whitespace s) h = refl
trivia_passed (Content.newline k) h = refl
trivia_passed (Content.comment s) h = refl
trivia_passed content h = cc

line_end_one : (content : Content) → IsTrue (is_newline content) → IsTrue (is_trivia content)
line_end_one (Content.newline k) h = refl
line_end_one content h = cc

pub line_ends_trivia : (cs : List Content) → AreLineEnds cs → AreTrivia cs
line_ends_trivia [] h = tt
line_ends_trivia (c ∷ cs) h = (line_end_one c h.0, line_ends_trivia cs h.1)

pub joined_trivia : (a b : List Content) → AreTrivia a → AreTrivia b → AreTrivia (a ++ b)
joined_trivia [] b h k = k
joined_trivia (c ∷ a) b h k = (h.0, joined_trivia a b h.1 k)

-- leaves and then leaves
pub leaves_then_joined : (a b : List Content) (row : OrderedTree) → leaves_then (a ++ b) row ≡ leaves_then a (leaves_then b row)
leaves_then_joined [] b row = refl
leaves_then_joined (c ∷ a) b row = ap (more c none) (leaves_then_joined a b row)

pub lines_behind : (loose at_end : Bool) (cs : List Content) (back : OrderedTree) → LinesEndLoosely loose at_end (leaves_then cs back) → LinesEndLoosely loose at_end back
lines_behind loose at_end [] back l = l
lines_behind loose at_end (c ∷ cs) back l = lines_behind loose at_end cs back l.2

-- what is strict is loose
pub root_lines : {row : OrderedTree} → DocumentLinesEndLoosely (root_with row) → LinesEndLoosely false true row
root_lines {row} (below, same, l) =
    let first : below ≡ row = cc in
    subst (LinesEndLoosely false true) first l

pub loosened : (content : Content) (below : OrderedTree) → LinesEnd false below → LinesEndLoosely (is_loose content) false below
loosened content below l = (root_lines {row = more content below none} (document_loosens (more content below none, refl, ((λ h. refl), l, tt)))).1

pub root_marks : (row : OrderedTree) → marks (root_with row) ≡ marks row
root_marks row = ap marks_of (append-nil (leaves row))

module _ (o : Options) where
  pub row_alone : {row : OrderedTree} → DocumentAlone o (root_with row) → RootAlone o false row
  row_alone {row} (below, same, g) =
      let first : below ≡ row = cc in
      subst (RootAlone o false) first g

  pub root_alone : (row : OrderedTree) → SoundTree o (root_with row) → RootAlone o false row
  root_alone row s = row_alone (document_alone o s.shaped)

  pub root_sound : (row : OrderedTree) → RootAlone o false row → LeavesEnd o (leaves row) None → LinesEndLoosely false true row → SoundTree o (root_with row)
  root_sound row g e l = record { shaped = document_shaped o (row, refl, g) (subst (λ ls. LeavesEnd o ls None) (sym (append-nil (leaves row))) e); lines = (row, refl, l) }

  -- the first node
  pub passed_first : {stood : Bool} {content : Content} {below after : OrderedTree} → IsTrue (is_passed_over content) → RootAlone o stood (more content below after) → IsTrivia o content × RootAlone o stood after
  passed_first p (alone.root_trivia h g) = (h, g)
  passed_first p (alone.root_value {content = content} v g) = absurd (no_element content (alone_element o v) p)

  pub value_first : {stood : Bool} {content : Content} {below after : OrderedTree} → IsElement content → RootAlone o stood (more content below after) → (stood ≡ false) × ValueAlone o content below × RootAlone o true after
  value_first p (alone.root_trivia {content = content} h g) = absurd (no_element content p (trivia_over o content h))
  value_first p (alone.root_value v g) = (refl, v, g)

  -- trivia in front
  pub behind_trivia : {stood : Bool} (cs : List Content) (back : OrderedTree) → AreTrivia cs → RootAlone o stood (leaves_then cs back) → RootAlone o stood back
  behind_trivia [] back h g = g
  behind_trivia (c ∷ cs) back h g = behind_trivia cs back h.1 (passed_first (trivia_passed c h.0) g).1

  pub trivia_of : {stood : Bool} (cs : List Content) (back : OrderedTree) → AreTrivia cs → RootAlone o stood (leaves_then cs back) → AreTriviaOf o cs
  trivia_of [] back h g = tt
  trivia_of (c ∷ cs) back h g = let k = passed_first (trivia_passed c h.0) g in (k.0, trivia_of cs back h.1 k.1)

  pub trivia_before : {stood : Bool} (cs : List Content) (back : OrderedTree) → AreTriviaOf o cs → RootAlone o stood back → RootAlone o stood (leaves_then cs back)
  trivia_before [] back h g = g
  trivia_before (c ∷ cs) back h g = alone.root_trivia h.0 (trivia_before cs back h.1 g)

  line_end_of : (content : Content) → IsTrue (is_newline content) → IsTrivia o content
  line_end_of (Content.newline k) h = tt
  line_end_of content h = cc

  pub line_ends_of : (cs : List Content) → AreLineEnds cs → AreTriviaOf o cs
  line_ends_of [] h = tt
  line_ends_of (c ∷ cs) h = (line_end_of c h.0, line_ends_of cs h.1)

  -- trivia ends whatever follows
  pub leaves_led : (cs : List Content) (back : OrderedTree) (n : Option ℕ) → AreTriviaOf o cs → LeavesEnd o (leaves back) n → LeavesEnd o (leaves (leaves_then cs back)) n
  leaves_led [] back n h e = e
  leaves_led (c ∷ cs) back n h e =
      let rest = leaves_led cs back n h.1 e in
      subst (λ l. LeavesEnd o (l ++ leaves (leaves_then cs back)) n) (sym (trivia_leaf o c h.0)) (trivia_any o c (follower (leaves (leaves_then cs back)) n) h.0, rest)

  -- a row that has its value is trivia
  pub row_ends : {row : OrderedTree} (n : Option ℕ) → RootAlone o true row → LeavesEnd o (leaves row) n
  row_ends n alone.root_ends = tt
  row_ends n (alone.root_trivia {content = content} {after = after} h g) =
      subst (λ l. LeavesEnd o (l ++ leaves after) n) (sym (trivia_leaf o content h)) (trivia_any o content (follower (leaves after) n) h, row_ends n g)

  pub any_stood : {row : OrderedTree} → RootAlone o true row → RootAlone o false row
  any_stood alone.root_ends = alone.root_ends
  any_stood (alone.root_trivia h g) = alone.root_trivia h (any_stood g)
