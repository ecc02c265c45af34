-- Where a stretch of leaves is replaced by another, its marks do.
use Rattle.std.proofs.Common.{◌≡◌, ◌∙◌, ◌||◌, sym, ap, refl, ℕ, List, [], ◌∷◌, ◌++◌, IsTrue, chars}
use Rattle.std.proofs.lemmas.List.Elements.{filter_map-append, filter-append}
use Rattle.jsonc_tree.specs.Content.{Content}
use Rattle.jsonc_tree.specs.OrderedTree.{OrderedTree, leaves, Top}
use Rattle.jsonc_layout.specs.nodes.Kinds.{is_trivia, is_whitespace, is_newline}
use Rattle.jsonc_sound.specs.ChangeLaws.{DiffersIn}
use Rattle.jsonc_sound.specs.TreeChanges.{leaves_of, DocumentChanged}
use Rattle.jsonc_sound.specs.Lines.{is_line_comment}
use Rattle.jsonc_sound.specs.TriviaChanges.{AreTrivia, StretchChanged, EndsInComment, one_comment, line_comment}
use Rattle.jsonc_sound.proofs.LeavesAround as around
use Rattle.jsonc_sound.proofs.TriviaLeaves as trivia
use Rattle.jsonc_sound.specs.InRows.{SpacePut}
use Rattle.jsonc_sound.proofs.SpacePut.{document_put}
use Rattle.jsonc_sound.specs.Marks.{Mark, trimmed, comment_mark, mark_of_leaf, marks_of, marks, is_comment, comments_of}
use Rattle.jsonc_sound.specs.MarkChanges.{MarksDifferIn, AreBlanks, marks_under}

pub marks_join : (first second : List Content) → marks_of (first ++ second) ≡ marks_of first ++ marks_of second
marks_join first second = filter_map-append mark_of_leaf first second

-- three stretches, one after another
marks_parted : (front stretch back : List Content) → marks_of (front ++ (stretch ++ back)) ≡ marks_of front ++ (marks_of stretch ++ marks_of back)
marks_parted front stretch back = marks_join front (stretch ++ back) ∙ ap (λ ms. marks_of front ++ ms) (marks_join stretch back)

pub marks_follow : (was now x y : List Content) (d : DiffersIn was now x y) → (m : MarksDifferIn (marks_of was) (marks_of now) (marks_of x) (marks_of y)) × (m.front ≡ marks_of d.front) × (m.back ≡ marks_of d.back)
marks_follow was now x y d = (
  record {
    front = marks_of d.front;
    back = marks_of d.back;
    before = ap marks_of d.before ∙ marks_parted d.front was d.back;
    after = ap marks_of d.after ∙ marks_parted d.front now d.back;
  },
  refl,
  refl,
)

pub marks_differ : (was now x y : List Content) → DiffersIn was now x y → MarksDifferIn (marks_of was) (marks_of now) (marks_of x) (marks_of y)
marks_differ was now x y d = (marks_follow was now x y d).0

pub values_marks : (t : OrderedTree) (was now : Top) (path : List ℕ) (u : OrderedTree) → DocumentChanged was now path t u → MarksDifferIn (marks_under was) (marks_under now) (marks t) (marks u)
values_marks t was now path u k = marks_differ (leaves_of was) (leaves_of now) (leaves t) (leaves u) (around.document_differs k)

pub trivias_marks : (t : OrderedTree) (was now : List Content) (u : OrderedTree) → StretchChanged was now t u → AreTrivia was → AreTrivia now → MarksDifferIn (marks_of was) (marks_of now) (marks t) (marks u)
trivias_marks t was now u k old new = marks_differ was now (leaves t) (leaves u) (trivia.document_differs was now old new k)

-- trivia has comments alone
trivia_comments : (content : Content) (rest : List Content) → IsTrue (is_trivia content) → comments_of (marks_of rest) ≡ marks_of rest → comments_of (marks_of (content ∷ rest)) ≡ marks_of (content ∷ rest)
trivia_comments (Content.whitespace s) rest h e = e
trivia_comments (Content.newline k) rest h e = e
trivia_comments (Content.comment s) rest h e = ap (λ ms. comment_mark (chars s) ∷ ms) e
trivia_comments content rest h e = cc

pub trivia_has_comments : (contents : List Content) → AreTrivia contents → comments_of (marks_of contents) ≡ marks_of contents
trivia_has_comments [] h = refl
trivia_has_comments (content ∷ rest) h = trivia_comments content rest h.0 (trivia_has_comments rest h.1)

comment_last : (front : List Content) (content : Content) → IsTrue (is_line_comment content) → (ms : List Mark) × (s : List ℕ) × (marks_of (front ++ content ∷ []) ≡ ms ++ Mark.comment s ∷ [])
comment_last front (Content.comment s) h = (marks_of front, trimmed (chars s), marks_join front (Content.comment s ∷ []))
comment_last front content h = cc

pub last_is_comment : (contents : List Content) → EndsInComment contents → (ms : List Mark) × (s : List ℕ) × (marks_of contents ≡ ms ++ Mark.comment s ∷ [])
last_is_comment contents (one_comment {s = s}) = ([], trimmed (chars s), refl)
last_is_comment contents (line_comment front content h) = comment_last front content h

-- blanks have no marks
blank_first : (content : Content) (rest : List Content) → IsTrue (is_whitespace content || is_newline content) → marks_of (content ∷ rest) ≡ marks_of rest
blank_first (Content.whitespace s) rest h = refl
blank_first (Content.newline k) rest h = refl
blank_first content rest h = cc

pub blanks_unmarked : (contents : List Content) → AreBlanks contents → marks_of contents ≡ []
blanks_unmarked [] h = refl
blanks_unmarked (content ∷ rest) h = blank_first content rest h.0 ∙ blanks_unmarked rest h.1

pub one_mark_leaves : (blanks : List Content) (s : List ℕ) (x y : List Content) → AreBlanks blanks → (d : DiffersIn (blanks ++ Content.comment s ∷ []) [] x y)
    → (m : MarksDifferIn (comment_mark (chars s) ∷ []) [] (marks_of x) (marks_of y)) × (m.front ≡ marks_of d.front) × (m.back ≡ marks_of d.back)
one_mark_leaves blanks s x y h d =
    let one : marks_of (blanks ++ Content.comment s ∷ []) ≡ comment_mark (chars s) ∷ [] = marks_join blanks (Content.comment s ∷ []) ∙ ap (λ ms. ms ++ comment_mark (chars s) ∷ []) (blanks_unmarked blanks h) in
    let m = marks_follow (blanks ++ Content.comment s ∷ []) [] x y d in
    (record { front = m.0.front; back = m.0.back; before = m.0.before ∙ ap (λ ms. m.0.front ++ (ms ++ m.0.back)) one; after = m.0.after }, m.1, m.2)

pub blanks_keep_marks : (was now x y : List Content) → AreBlanks was → AreBlanks now → DiffersIn was now x y → marks_of y ≡ marks_of x
blanks_keep_marks was now x y h k d =
    ap marks_of d.after ∙ marks_parted d.front now d.back ∙ ap (λ ms. marks_of d.front ++ (ms ++ marks_of d.back)) (blanks_unmarked now k ∙ sym (blanks_unmarked was h))
    ∙ sym (ap marks_of d.before ∙ marks_parted d.front was d.back)

pub space_keeps_marks : (t u : OrderedTree) → SpacePut t u → marks u ≡ marks t
space_keeps_marks t u k = blanks_keep_marks [] (Content.whitespace (0x20 ∷ []) ∷ []) (leaves t) (leaves u) tt (refl, tt) (trivia.document_differs [] (Content.whitespace (0x20 ∷ []) ∷ []) tt (refl, tt) (document_put k))

-- comments among marks
comments_parted : (front stretch back : List Mark) → comments_of (front ++ (stretch ++ back)) ≡ comments_of front ++ (comments_of stretch ++ comments_of back)
comments_parted front stretch back = filter-append is_comment front (stretch ++ back) ∙ ap (λ ms. comments_of front ++ ms) (filter-append is_comment stretch back)

pub other_comments : (was now x y : List Mark) (d : MarksDifferIn was now x y)
    → (comments_of x ≡ comments_of d.front ++ (comments_of was ++ comments_of d.back)) × (comments_of y ≡ comments_of d.front ++ (comments_of now ++ comments_of d.back))
other_comments was now x y d = (ap comments_of d.before ∙ comments_parted d.front was d.back, ap comments_of d.after ∙ comments_parted d.front now d.back)

pub others_alone : (was now x y : List Mark) (d : MarksDifferIn was now x y) → comments_of now ≡ [] → comments_of y ≡ comments_of d.front ++ comments_of d.back
others_alone was now x y d e = (other_comments was now x y d).1 ∙ ap (λ ms. comments_of d.front ++ (ms ++ comments_of d.back)) e
