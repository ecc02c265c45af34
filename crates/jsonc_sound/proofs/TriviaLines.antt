-- Line comments still end with their lines where a stretch that ends in a comment leaves.
use Rattle.std.proofs.Common.{◌≡◌, subst, refl, Bool, true, false, List, [], IsTrue, ◌∷◌, ◌++◌}
use Rattle.jsonc_tree.specs.Content.{Content}
use Rattle.jsonc_tree.specs.OrderedTree.{OrderedTree, none, more, followed_by}
use Rattle.jsonc_sound.specs.Lines.{is_line_comment, ends_line, LinesEnd, DocumentLinesEnd}
use Rattle.jsonc_sound.specs.TriviaChanges.{leaves_then, LeavesChanged, given_way, come, later, deeper, StretchChanged, in_root, inside, EndsInComment, one_comment, line_comment}
use Rattle.jsonc_sound.proofs.FirstNodes.{line_end_same}

-- what follows a stretch that ends in a line comment
lines_taken : (at_end : Bool) (cs : List Content) (back : OrderedTree) → LinesEnd at_end (leaves_then cs back) → LinesEnd at_end back
lines_taken at_end [] back l = l
lines_taken at_end (c ∷ cs) back l = lines_taken at_end cs back l.2

line_behind : (at_end : Bool) (front : List Content) (c : Content) (back : OrderedTree) → IsTrue (is_line_comment c) → LinesEnd at_end (leaves_then (front ++ c ∷ []) back) → IsTrue (ends_line at_end back)
line_behind at_end [] c back h l = l.0 h
line_behind at_end (d ∷ front) c back h l = line_behind at_end front c back h l.2

-- where the stretch leaves, a line that ended before it ends
front_lines : (at_end : Bool) {was : List Content} (back : OrderedTree) → EndsInComment was → LinesEnd at_end (leaves_then was back) → LinesEnd at_end back × (IsTrue (ends_line at_end (leaves_then was back)) → IsTrue (ends_line at_end back))
front_lines at_end back one_comment l = (l.2, λ h. cc)
front_lines at_end back (line_comment front c h) l = (lines_taken at_end (front ++ c ∷ []) back l, λ e. line_behind at_end front c back h l)

-- the lines of the one row end, and the other begins with a line's end if the one does
abbrev LinesKept : Bool → OrderedTree → OrderedTree → Type 0
LinesKept at_end row new = LinesEnd at_end new × (IsTrue (ends_line at_end row) → IsTrue (ends_line at_end new))

over_lines : (at_end : Bool) (content : Content) (below x y : OrderedTree) → LinesEnd at_end (more content below x) → LinesKept at_end x y → LinesKept at_end (more content below x) (more content below y)
over_lines at_end content below x y l k = ((λ h. k.1 (l.0 h), l.1, k.0), λ h. subst IsTrue (line_end_same at_end content below x y) h)

below_same : (at_end : Bool) (content : Content) (below other after : OrderedTree) → ends_line at_end (more content below after) ≡ ends_line at_end (more content other after)
below_same at_end (Content.newline k) below other after = refl
below_same at_end content below other after = refl

module _ {was : List Content} (ends : EndsInComment was) where
  row_lines : (at_end : Bool) {row new : OrderedTree} → LeavesChanged was [] row new → LinesEnd at_end row → LinesKept at_end row new
  row_lines at_end (given_way back ne) l = front_lines at_end back ends l
  row_lines at_end (come last under back e) l = (l, λ h. h)
  row_lines at_end (later {content = content} {below = below} {x = x} {y = y} h) l = over_lines at_end content below x y l (row_lines at_end h l.2)
  row_lines at_end (deeper {content = content} {x = x} {y = y} {after = after} h) l = ((l.0, (row_lines false h l.1).0, l.2), λ e. subst IsTrue (below_same at_end content x y after) e)

  root_lines : (row back : OrderedTree) → LinesEnd true (followed_by row (leaves_then was back)) → LinesKept true (followed_by row (leaves_then was back)) (followed_by row back)
  root_lines none back l = front_lines true back ends l
  root_lines (more content below after) back l = over_lines true content below _ _ l (root_lines after back l.2)

  pub document_lines : {t u : OrderedTree} → StretchChanged was [] t u → DocumentLinesEnd t → DocumentLinesEnd u
  document_lines (in_root row back) (below, same, l) =
      let first : below ≡ followed_by row (leaves_then was back) = cc in
      (followed_by row back, refl, (root_lines row back (subst (LinesEnd true) first l)).0)
  document_lines (inside {row = row} {new = new} h) (below, same, l) =
      let first : below ≡ row = cc in
      (new, refl, (row_lines true h (subst (LinesEnd true) first l)).0)
