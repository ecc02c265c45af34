-- A comment of a sound document is removed with blanks beside it: what that makes of the text.
use Rattle.std.proofs.Common.{◌≡◌, ℕ, ◌+◌, ◌-◌, ◌<◌, ◌≤◌, ◌||◌, cond, List, [], ◌∷◌, ◌++◌, chars, drop, filter, length, map, slice_range, take, Option, Some, IsTrue, refl, sym, ap, subst, ◌∙◌}
use Rattle.std.proofs.lemmas.List.{append_assoc, map-append}
use Rattle.std.proofs.lemmas.List.Concat.{flat_map-append}
use Rattle.std.proofs.lemmas.List.Elements.{All-drop, All-take, filter-append}
use Rattle.std.proofs.lemmas.Str.{chars-nil}
use Rattle.std.specs.List.{flat_map, slice_get}
use Rattle.jsonc_text.specs.Options.{Options}
use Rattle.jsonc_text.specs.Plain.{Plain}
use Rattle.jsonc_text.specs.Text.{Many}
use Rattle.jsonc_text.specs.Text as many
use Rattle.jsonc_text.specs.Marks as texts
use Rattle.jsonc_tree.specs.Changes.{Splices}
use Rattle.jsonc_tree.specs.Content.{Content}
use Rattle.jsonc_tree.specs.Content as content
use Rattle.jsonc_tree.specs.declared.node.CstNewlineKind.{CstNewlineKind}
use Rattle.jsonc_tree.specs.Order.{in_order}
use Rattle.jsonc_tree.specs.OrderedTree.{OrderedTree, leaves, ordered_tree, own_leaf}
use Rattle.jsonc_tree.specs.Tree.{Node, content_at, parent_at, children_at, IsOver, IsTree}
use Rattle.jsonc_tree.proofs.Order.{parent_there}
use Rattle.jsonc_layout.specs.nodes.Kinds.{is_comment, is_comment_at, is_newline, is_trivia, is_whitespace}
use Rattle.jsonc_layout.specs.nodes.Siblings.{AreThere}
use Rattle.jsonc_layout.proofs.lemmas.nodes.InTree.{children_there}
use Rattle.jsonc_sound.specs.Documents.{document_of}
use Rattle.jsonc_sound.specs.Leaves.{is_inner_blank}
use Rattle.jsonc_sound.specs.MarkChanges.{AreBlanks}
use Rattle.jsonc_sound.specs.Marks as tree_marks
use Rattle.jsonc_sound.specs.Shape.{printed_text}
use Rattle.jsonc_sound.specs.SoundTrees.{SoundTree}
use Rattle.jsonc_sound.specs.TriviaChanges.{AreTrivia}
use Rattle.jsonc_sound.proofs.NodesAlone.{document_alone}
use Rattle.jsonc_sound.proofs.Pieces.{Pieces, document_pieces}
use Rattle.jsonc_sound.proofs.Texts.{AllUtf8}
use Rattle.jsonc_sound.proofs.Entries.{blanks_trivia}
use Rattle.jsonc_edit.specs.Comments.{comment_at}
use Rattle.jsonc_edit.proofs.CommentOrder.{blanks_uncounted, comments_counted, trivia_in_order, trivia_leaves}
use Rattle.jsonc_edit.proofs.InOrder.{leaf_at, leaves_in_order, spliced_order, SplicedOrder}
use Rattle.jsonc_run.specs.texts.Stretches.{AreSpaces}
use Rattle.jsonc_run.specs.promise.PlaceLaws.{text_of_leaves}
use Rattle.jsonc_run.proofs.lemmas.promise.Commenting as commenting
use Rattle.jsonc_run.proofs.lemmas.promise.Leaves.{document_utf8, text_joined, utf8_first, utf8_second}
use Rattle.jsonc_run.proofs.lemmas.promise.ReplacedTexts.{is_one}
use Rattle.jsonc_run.proofs.lemmas.promise.Stretches.{blanks_behind_unmarked, marks_in, marks_in_both, parted, pieces_first, pieces_second}
use Rattle.jsonc_run.proofs.lemmas.promise.Trivia.{first_text, line_end_text, piece_trivia}
use Rattle.jsonc_cst.specs.typed.Clearing.{RemovesComment, WithItsLine, shares_its_line, whole_line}

-- what is after as many as are before it
after_all : (xs ys : List ℕ) (n : ℕ) → slice_get (xs ++ n ∷ ys) (length xs) ≡ Some n
after_all [] ys n = refl
after_all (x ∷ xs) ys n = after_all xs ys n

-- whitespace alone
abbrev pub AreWhite : List Content → Type 0
AreWhite [] = Unit {0}
AreWhite (c ∷ rest) = IsTrue (is_whitespace c) × AreWhite rest

white_blank : (c : Content) → IsTrue (is_whitespace c) → IsTrue (is_whitespace c || is_newline c)
white_blank c h = ap (λ b. b || is_newline c) h

pub white_blanks : (ls : List Content) → AreWhite ls → AreBlanks ls
white_blanks [] h = tt
white_blanks (c ∷ ls) h = (white_blank c h.0, white_blanks ls h.1)

blanks_both : (a b : List Content) → AreBlanks a → AreBlanks b → AreBlanks (a ++ b)
blanks_both [] b h k = k
blanks_both (c ∷ a) b h k = (h.0, blanks_both a b h.1 k)

white_newline : (k : CstNewlineKind) → AreBlanks (content.newline k ∷ [])
white_newline k = (refl, tt)

more_spaces : {s r t : List ℕ} → Many is_inner_blank s r → r ≡ [] → AreSpaces t → AreSpaces (s ++ t)
more_spaces {t = t} many.stop e h = subst (λ x. AreSpaces (x ++ t)) (sym e) h
more_spaces (many.step {c = c} b m) e h = many.step b (more_spaces m e h)

-- what is removed with a comment, in leaves
pub data Beside (front before : List Content) : List Content → Type 0 where
  shares : AreWhite before → Beside front before []
  alone : (rest after : List Content) (end line : CstNewlineKind) → front ≡ rest ++ content.newline end ∷ [] → AreWhite before → AreWhite after → Beside front before (after ++ content.newline line ∷ [])

white_of : {f b a : List Content} → Beside f b a → AreWhite b
white_of (shares w) = w
white_of (alone rest after end line e w v) = w

blanks_of : {f b a : List Content} → Beside f b a → AreBlanks a
blanks_of (shares w) = tt
blanks_of (alone rest after end line e w v) = blanks_both after (content.newline line ∷ []) (white_blanks after v) (white_newline line)

module _ (o : Options) where
  spaces_text : (ls : List Content) → AreWhite ls → Pieces o ls → AreSpaces (text_of_leaves ls)
  spaces_text [] h p = subst AreSpaces (sym chars-nil) many.stop
  spaces_text (content.whitespace s ∷ ls) h p =
      let t = piece_trivia o (content.whitespace s) refl p.0 in
      subst AreSpaces (sym (first_text (content.whitespace s) ls t.0)) (more_spaces t.1 refl (spaces_text ls h.1 p.1))
  spaces_text (c ∷ ls) h p = cc

  beside_text : {front before after : List Content} → Beside front before after → AllUtf8 front → AllUtf8 after → Pieces o before → Pieces o after
      → WithItsLine (text_of_leaves front) (text_of_leaves before) (text_of_leaves after)
  beside_text {front} {before} (shares w) u v p q = subst (WithItsLine (text_of_leaves front) (text_of_leaves before)) (sym chars-nil) (shares_its_line (spaces_text before w p))
  beside_text {front} {before} (alone rest after end line e w a) u v p q =
      let f = subst AllUtf8 e u in
      subst (WithItsLine (text_of_leaves front) (text_of_leaves before)) (sym (text_joined after (content.newline line ∷ []) (utf8_first after (content.newline line ∷ []) v)))
      (whole_line (text_of_leaves rest) (text_of_leaves (content.newline end ∷ [])) (text_of_leaves after) (text_of_leaves (content.newline line ∷ [])) (ap text_of_leaves e ∙ text_joined rest (content.newline end ∷ []) (utf8_first rest (content.newline end ∷ []) f)) (line_end_text end) (spaces_text before w p)
      (spaces_text after a (pieces_first o after (content.newline line ∷ []) q)) (line_end_text line))

  -- where a sound tree is left without these leaves, its text loses a comment
  module _ {t u : OrderedTree} (s : SoundTree o t) (r : SoundTree o u) (front before after back : List Content) (text : List ℕ) (beside : Beside front before after)
      (was : leaves t ≡ front ++ (before ++ (content.comment text ∷ (after ++ back)))) (is : leaves u ≡ front ++ back) where
    abbrev own : List Content
    own = content.comment text ∷ []

    utf8 : AllUtf8 (front ++ (before ++ (content.comment text ∷ (after ++ back))))
    utf8 = subst AllUtf8 was (document_utf8 o s.shaped)

    utf8_own : AllUtf8 (content.comment text ∷ (after ++ back))
    utf8_own = utf8_second before (content.comment text ∷ (after ++ back)) (utf8_second front (before ++ (content.comment text ∷ (after ++ back))) utf8)

    pieces : Pieces o (before ++ (content.comment text ∷ (after ++ back)))
    pieces = pieces_second o front (before ++ (content.comment text ∷ (after ++ back))) (subst (Pieces o) was (document_pieces o (document_alone o s.shaped)))

    pieces_own : Pieces o (content.comment text ∷ (after ++ back))
    pieces_own = pieces_second o before (content.comment text ∷ (after ++ back)) pieces

    after_is : text_of_leaves (after ++ back) ≡ text_of_leaves after ++ text_of_leaves back
    after_is = text_joined after back (utf8_first after back utf8_own.1)

    own_is : text_of_leaves (own ++ (after ++ back)) ≡ chars text ++ (text_of_leaves after ++ text_of_leaves back)
    own_is = first_text (content.comment text) (after ++ back) utf8_own.0 ∙ ap (λ l. chars text ++ l) after_is

    text_was : printed_text t ≡ text_of_leaves front ++ (text_of_leaves before ++ (chars text ++ (text_of_leaves after ++ text_of_leaves back)))
    text_was =
        ap text_of_leaves was ∙ text_joined front (before ++ (content.comment text ∷ (after ++ back))) (utf8_first front (before ++ (content.comment text ∷ (after ++ back))) utf8)
        ∙ ap (λ l. text_of_leaves front ++ l) (text_joined before (content.comment text ∷ (after ++ back)) (utf8_first before (content.comment text ∷ (after ++ back)) (utf8_second front (before ++ (content.comment text ∷ (after ++ back))) utf8))
        ∙ ap (λ l. text_of_leaves before ++ l) own_is)

    text_is : printed_text u ≡ text_of_leaves front ++ text_of_leaves back
    text_is = ap text_of_leaves is ∙ text_joined front back (utf8_first front (before ++ (content.comment text ∷ (after ++ back))) utf8)

    blanks_before : AreBlanks before
    blanks_before = white_blanks before (white_of beside)

    parts : leaves t ≡ (front ++ before) ++ (own ++ (after ++ back))
    parts = was ∙ sym (append_assoc front before (own ++ (after ++ back)))

    unmarked : marks_in (front ++ before) ≡ marks_in front
    unmarked = blanks_behind_unmarked front before blanks_before

    after_unmarked : marks_in (after ++ back) ≡ marks_in back
    after_unmarked = marks_in_both after back ∙ ap (λ l. l ++ marks_in back) (blanks_behind_unmarked [] after (blanks_of beside))

    marks_is : marks_in (leaves u) ≡ marks_in (front ++ before) ++ marks_in (after ++ back)
    marks_is = ap marks_in is ∙ marks_in_both front back ∙ ap (λ l. l ++ marks_in back) (sym unmarked) ∙ ap (λ l. marks_in (front ++ before) ++ l) (sym after_unmarked)

    counted : length (texts.comments_of (marks_in (front ++ before))) ≡ length (tree_marks.comments_of (tree_marks.marks_of front))
    counted = ap (λ l. length (texts.comments_of l)) unmarked ∙ commenting.comments_counted (tree_marks.marks_of front)

    pub text_removed : (w : Option Plain) → RemovesComment (length (tree_marks.comments_of (tree_marks.marks_of front))) (document_of o t w) (document_of o u w)
    text_removed w = (
      text_of_leaves front,
      text_of_leaves before,
      chars text,
      text_of_leaves after,
      text_of_leaves back,
      text_was,
      text_is,
      beside_text beside (utf8_first front (before ++ (content.comment text ∷ (after ++ back))) utf8) (utf8_first after back utf8_own.1)
          (pieces_first o before (content.comment text ∷ (after ++ back)) pieces) (pieces_first o after back pieces_own.1),
      (piece_trivia o (content.comment text) refl pieces_own.0).1.1,
      refl,
      refl,
      marks_in (front ++ before),
      marks_in (after ++ back),
      tree_marks.trimmed (chars text),
      parted o s w (front ++ before) own (after ++ back) parts refl own_is after_is,
      marks_is,
      counted,
    )

trivia_both : (a b : List Content) → AreTrivia a → AreTrivia b → AreTrivia (a ++ b)
trivia_both [] b h k = k
trivia_both (c ∷ a) b h k = (h.0, trivia_both a b h.1 k)

comment_trivia : (c : Content) → IsTrue (is_comment c) → IsTrue (is_trivia c)
comment_trivia (content.comment s) h = refl
comment_trivia c h = cc

pub comment_text : (c : Content) → IsTrue (is_comment c) → (s : List ℕ) × (c ≡ content.comment s)
comment_text (content.comment s) h = (s, refl)
comment_text c h = cc

-- a stretch in parts, with what is before and after it
stretch_parts : {X : Type 0} (f x b a k : List X) (m : X) → f ++ ((x ++ (b ++ m ∷ a)) ++ k) ≡ (f ++ x) ++ (b ++ (m ∷ (a ++ k)))
stretch_parts f x b a k m =
    ap (λ l. f ++ l) (append_assoc x (b ++ m ∷ a) k ∙ ap (λ l. x ++ l) (append_assoc b (m ∷ a) k)) ∙ sym (append_assoc f x (b ++ (m ∷ (a ++ k))))

-- where a stretch of leaves is removed but for what it begins with, these leaves of the document are
module _ (old new : List Node) (tree : IsTree old) (later : IsTree new) (c n : ℕ) (said : parent_at old n ≡ Some c) (over : IsOver old 0 c) (is_one : IsTrue (is_comment_at old n)) (i j : ℕ) (le : i ≤ j) (xs before after : List ℕ)
    (s : Splices old new c i j xs) (split : slice_range (children_at old c) i j ≡ xs ++ (before ++ n ∷ after)) (there_xs : AreThere new xs) (blank_xs : AreBlanks (map (content_at old) xs)) (new_xs : AreBlanks (map (content_at new) xs))
    (blank_before : AreBlanks (map (content_at old) before)) (blank_after : AreBlanks (map (content_at old) after)) where
  abbrev stretch : List ℕ
  stretch = xs ++ (before ++ n ∷ after)

  abbrev at : ℕ → Content
  at = content_at old

  order : SplicedOrder old new tree later c i j xs s
  order = spliced_order old new tree later c i j xs s (parent_there old tree n c said).1 over le

  abbrev leaves_of_all : List ℕ → List Content
  leaves_of_all = flat_map (leaf_at old)

  pub front_leaves : List Content
  front_leaves = leaves_of_all order.front ++ map at xs

  pub back_leaves : List Content
  back_leaves = leaves_of_all order.behind

  mapped : map at stretch ≡ map at xs ++ (map at before ++ at n ∷ map at after)
  mapped = map-append at xs (before ++ n ∷ after) ∙ ap (λ l. map at xs ++ l) (map-append at before (n ∷ after))

  trivia : AreTrivia (map at stretch)
  trivia =
      let behind : AreTrivia (map at before ++ at n ∷ map at after) =
      trivia_both (map at before) (at n ∷ map at after) (blanks_trivia (map at before) blank_before) (comment_trivia (at n) is_one, blanks_trivia (map at after) blank_after) in
      subst AreTrivia (sym mapped) (trivia_both (map at xs) (map at before ++ at n ∷ map at after) (blanks_trivia (map at xs) blank_xs) behind)

  stretch_there : AreThere old stretch
  stretch_there = subst (AreThere old) split (All-take (λ m. m < length old) (j - i) (drop i (children_at old c)) (All-drop (λ m. m < length old) i (children_at old c) (children_there old tree c)))

  was : in_order old 0 ≡ order.front ++ (stretch ++ order.behind)
  was = order.was ∙ ap (λ l. order.front ++ (flat_map (in_order old) l ++ order.behind)) split ∙ ap (λ l. order.front ++ (l ++ order.behind)) (trivia_in_order old tree stretch stretch_there trivia)

  is : in_order new 0 ≡ order.front ++ (xs ++ order.behind)
  is = order.is ∙ ap (λ l. order.front ++ (l ++ order.behind)) (trivia_in_order new later xs there_xs (blanks_trivia (map (content_at new) xs) new_xs))

  pub front_ends : (rest : List Content) × (front_leaves ≡ rest ++ map at xs)
  unfolding front_leaves
  front_ends = (leaves_of_all order.front, refl)

  some_leaves : (f m b : List ℕ) → AreTrivia (map at m) → leaves_of_all (f ++ (m ++ b)) ≡ leaves_of_all f ++ (map at m ++ leaves_of_all b)
  some_leaves f m b h =
      flat_map-append (leaf_at old) f (m ++ b) ∙ ap (λ l. leaves_of_all f ++ l) (flat_map-append (leaf_at old) m b ∙ ap (λ l. l ++ leaves_of_all b) (trivia_leaves old tree m h))

  pub leaves_was : leaves (ordered_tree old 0) ≡ front_leaves ++ (map at before ++ (at n ∷ (map at after ++ back_leaves)))
  unfolding front_leaves back_leaves
  leaves_was =
      leaves_in_order old tree ∙ ap leaves_of_all was ∙ some_leaves order.front stretch order.behind trivia ∙ ap (λ l. leaves_of_all order.front ++ (l ++ leaves_of_all order.behind)) mapped
      ∙ stretch_parts (leaves_of_all order.front) (map at xs) (map at before) (map at after) (leaves_of_all order.behind) (at n)

  same_leaves : (ks : List ℕ) → flat_map (leaf_at new) ks ≡ flat_map (leaf_at old) ks
  same_leaves [] = refl
  same_leaves (k ∷ ks) = ap (λ l. l ++ flat_map (leaf_at new) ks) (ap own_leaf (s.content k)) ∙ ap (λ l. leaf_at old k ++ l) (same_leaves ks)

  pub leaves_is : leaves (ordered_tree new 0) ≡ front_leaves ++ back_leaves
  unfolding front_leaves back_leaves
  leaves_is =
      leaves_in_order new later ∙ same_leaves (in_order new 0) ∙ ap leaves_of_all is
      ∙ some_leaves order.front xs order.behind (blanks_trivia (map at xs) blank_xs) ∙ sym (append_assoc (leaves_of_all order.front) (map at xs) (leaves_of_all order.behind))

  abbrev number : ℕ
  number = length (tree_marks.comments_of (tree_marks.marks_of front_leaves))

  number_is : number ≡ length (filter (is_comment_at old) (order.front ++ xs))
  unfolding front_leaves
  number_is =
      ap (λ l. length (tree_marks.comments_of (tree_marks.marks_of l))) (ap (λ l. leaves_of_all order.front ++ l) (sym (trivia_leaves old tree xs (blanks_trivia (map at xs) blank_xs))) ∙ sym (flat_map-append (leaf_at old) order.front xs))
      ∙ comments_counted old (order.front ++ xs)

  comments_are : filter (is_comment_at old) (in_order old 0) ≡ filter (is_comment_at old) (order.front ++ xs) ++ n ∷ filter (is_comment_at old) (after ++ order.behind)
  comments_are =
      ap (filter (is_comment_at old)) (was ∙ stretch_parts order.front xs before after order.behind n) ∙ filter-append (is_comment_at old) (order.front ++ xs) (before ++ (n ∷ (after ++ order.behind)))
      ∙ ap (λ l. filter (is_comment_at old) (order.front ++ xs) ++ l) (filter-append (is_comment_at old) before (n ∷ (after ++ order.behind)) ∙ ap (λ l. l ++ filter (is_comment_at old) (n ∷ (after ++ order.behind))) (blanks_uncounted old before blank_before)
      ∙ ap (λ b. cond b (n ∷ filter (is_comment_at old) (after ++ order.behind)) (filter (is_comment_at old) (after ++ order.behind))) is_one)

  numbered : comment_at old number ≡ Some n
  numbered =
      ap (slice_get (filter (is_comment_at old) (in_order old 0))) number_is ∙ ap (λ l. slice_get l (length (filter (is_comment_at old) (order.front ++ xs)))) comments_are
      ∙ after_all (filter (is_comment_at old) (order.front ++ xs)) (filter (is_comment_at old) (after ++ order.behind)) n

  -- so a document loses the comment of that number
  pub comment_gone : (o : Options) → SoundTree o (ordered_tree old 0) → SoundTree o (ordered_tree new 0) → Beside front_leaves (map at before) (map at after) → (w : Option Plain)
      → (k : ℕ) × (comment_at old k ≡ Some n) × RemovesComment k (document_of o (ordered_tree old 0) w) (document_of o (ordered_tree new 0) w)
  comment_gone o sound still beside w =
      let text = comment_text (at n) is_one in (
        number,
        numbered,
        text_removed o sound still front_leaves (map at before) (map at after) back_leaves text.0 beside (leaves_was ∙ ap (λ x. front_leaves ++ (map at before ++ (x ∷ (map at after ++ back_leaves)))) text.1) leaves_is w,
      )
