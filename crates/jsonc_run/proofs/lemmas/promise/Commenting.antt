-- Where a comment leaves a sound tree with a space in its place, it leaves the text so.
use Rattle.std.proofs.Common.{suc, ◌≡◌, ◌∙◌, sym, ap, subst, refl, inl, List, [], ◌∷◌, ◌++◌, length, chars, Option}
use Rattle.std.proofs.lemmas.List.{append-nil, append_assoc}
use Rattle.std.proofs.lemmas.Str.{chars-nil}
use Rattle.jsonc_text.specs.Options.{Options}
use Rattle.jsonc_text.specs.Plain.{Plain}
use Rattle.jsonc_tree.specs.Content as content
use Rattle.jsonc_tree.specs.Content.{Content}
use Rattle.jsonc_tree.specs.OrderedTree.{OrderedTree, leaves}
use Rattle.jsonc_sound.specs.Shape.{printed_text}
use Rattle.jsonc_sound.specs.Marks as tree_marks
use Rattle.jsonc_sound.specs.SoundTrees.{SoundTree}
use Rattle.jsonc_sound.proofs.NodesAlone.{document_alone}
use Rattle.jsonc_sound.proofs.Pieces.{LinesFlat, Pieces, document_flat, document_pieces}
use Rattle.jsonc_sound.proofs.Texts.{AllUtf8}
use Rattle.jsonc_edit.specs.SeamLaws.{comments_before, LosesWithSeam}
use Rattle.jsonc_edit.specs.Seams.{space_if}
use Rattle.jsonc_text.specs.Marks as texts
use Rattle.jsonc_run.specs.texts.Leaving.{LosesComment}
use Rattle.jsonc_run.specs.texts.Stretches.{IsSeam}
use Rattle.jsonc_run.specs.promise.PlaceLaws.{text_of_leaves}
use Rattle.jsonc_run.proofs.lemmas.promise.BlanksGone.{removed_before}
use Rattle.jsonc_run.proofs.lemmas.promise.Joined.{Good, good_as, good_first, good_second, good_tree}
use Rattle.jsonc_run.proofs.lemmas.promise.Leaves.{document_utf8, text_joined, utf8_first, utf8_second}
use Rattle.jsonc_sound.specs.Documents.{all_marks}
use Rattle.jsonc_run.proofs.lemmas.promise.RemovedTexts.{pieces_first, pieces_second}
use Rattle.jsonc_sound.specs.Documents.{document_of}
use Rattle.jsonc_run.proofs.lemmas.promise.Stretches.{blanks_behind_unmarked, marks_in, marks_in_both, parted, seam_unmarked}
use Rattle.jsonc_run.proofs.lemmas.promise.Trivia.{first_text, piece_trivia}
use Rattle.jsonc_run.proofs.lemmas.promise.Places.{silent_then, seam_if, seam_then}
use Rattle.jsonc_run.proofs.lemmas.promise.Bare.{AllSpelled, BeginsBare, EndsBare, begins_so, ends_so, meets, seam_due, spelled, spelled_first, spelled_second}

pub comments_counted : (ms : List tree_marks.Mark) → length (texts.comments_of (all_marks ms)) ≡ length (tree_marks.comments_of ms)
comments_counted [] = refl
comments_counted (tree_marks.literal s ∷ ms) = comments_counted ms
comments_counted (tree_marks.comment s ∷ ms) = ap suc (comments_counted ms)

module _ (o : Options) {t u : OrderedTree} (s : SoundTree o t) (r : SoundTree o u) (g : LosesWithSeam t u) where
  abbrev own : List Content
  own = content.comment g.text ∷ []

  abbrev behind_old : List Content
  behind_old = g.quiet ++ g.rest

  abbrev behind_new : List Content
  behind_new = g.quiet ++ (space_if g.behind ++ g.rest)

  utf8 : AllUtf8 (g.front ++ ((g.blanks ++ own) ++ behind_old))
  utf8 = subst AllUtf8 g.before (document_utf8 o s.shaped)

  both : AllUtf8 (g.blanks ++ own)
  both = utf8_first (g.blanks ++ own) behind_old (utf8_second g.front ((g.blanks ++ own) ++ behind_old) utf8)

  pieces : Pieces o (g.blanks ++ own)
  pieces = pieces_first o (g.blanks ++ own) behind_old (pieces_second o g.front ((g.blanks ++ own) ++ behind_old) (subst (Pieces o) g.before (document_pieces o (document_alone o s.shaped))))

  utf8_new : AllUtf8 (g.front ++ behind_new)
  utf8_new = subst AllUtf8 g.after (document_utf8 o r.shaped)

  old_behind : AllUtf8 behind_old
  old_behind = utf8_second (g.blanks ++ own) behind_old (utf8_second g.front ((g.blanks ++ own) ++ behind_old) utf8)

  old_back : text_of_leaves behind_old ≡ text_of_leaves g.rest
  old_back = silent_then g.quiet g.rest g.silent old_behind

  all_spelled : AllSpelled (g.front ++ ((g.blanks ++ own) ++ behind_old))
  all_spelled = subst AllSpelled g.before (spelled o s)

  -- the space is due where the comment stood between two literals without quotes
  seam : IsSeam (text_of_leaves g.front ++ ([] ++ [])) (text_of_leaves g.rest) (seam_if g.behind)
  seam = seam_due g.behind (λ e.
      let parts = g.parts o s e in
      let ends = ends_so g.front (utf8_first g.front ((g.blanks ++ own) ++ behind_old) utf8) (spelled_first g.front ((g.blanks ++ own) ++ behind_old) all_spelled) parts.0 in
      let begins = begins_so behind_old old_behind (spelled_second (g.blanks ++ own) behind_old (spelled_second g.front ((g.blanks ++ own) ++ behind_old) all_spelled)) parts.1 in
      meets (subst EndsBare (sym (append-nil (text_of_leaves g.front))) ends) (subst BeginsBare old_back begins))

  pub comment_leaves : (w : Option Plain) → LosesComment (comments_before g) (document_of o t w) (document_of o u w)
  comment_leaves w =
      let comment = piece_trivia o (content.comment g.text) refl (pieces_second o g.blanks own pieces).0 in
      let written : text_of_leaves own ≡ chars g.text = first_text (content.comment g.text) [] comment.1.0 ∙ ap (λ l. chars g.text ++ l) chars-nil ∙ append-nil (chars g.text) in
      let later : AllUtf8 behind_new = utf8_second g.front behind_new utf8_new in
      let new_back : text_of_leaves behind_new ≡ seam_if g.behind ++ text_of_leaves g.rest = seam_then g.quiet g.rest g.behind g.silent later in
      let old : printed_text t ≡ text_of_leaves g.front ++ ((text_of_leaves g.blanks ++ chars g.text) ++ text_of_leaves g.rest) =
      ap text_of_leaves g.before ∙ text_joined g.front ((g.blanks ++ own) ++ behind_old) (utf8_first g.front ((g.blanks ++ own) ++ behind_old) utf8)
      ∙ ap (λ l. text_of_leaves g.front ++ l) (text_joined (g.blanks ++ own) behind_old both ∙ ap (λ l. text_of_leaves (g.blanks ++ own) ++ l) old_back
      ∙ ap (λ l. l ++ text_of_leaves g.rest) (text_joined g.blanks own (utf8_first g.blanks own both) ∙ ap (λ l. text_of_leaves g.blanks ++ l) written)) in
      let ahead : List Content = g.front ++ g.blanks in
      let good : Good o (g.front ++ ((g.blanks ++ own) ++ behind_old)) = good_as o g.before (good_tree o s) in
      let lines : LinesFlat (g.front ++ (g.blanks ++ (own ++ behind_old))) = subst LinesFlat (g.before ∙ ap (λ l. g.front ++ l) (append_assoc g.blanks own behind_old)) (document_flat o (document_alone o s.shaped) s.lines) in
      let parts : leaves t ≡ ahead ++ (own ++ behind_old) = g.before ∙ ap (λ l. g.front ++ l) (append_assoc g.blanks own behind_old) ∙ sym (append_assoc g.front g.blanks (own ++ behind_old)) in
      let from : text_of_leaves (own ++ behind_old) ≡ chars g.text ++ text_of_leaves g.rest =
      text_joined own behind_old (utf8_second g.blanks own both) ∙ ap (λ l. l ++ text_of_leaves behind_old) written ∙ ap (λ l. chars g.text ++ l) old_back in
      let unmarked : marks_in ahead ≡ marks_in g.front = blanks_behind_unmarked g.front g.blanks g.are_blanks in
      let marks : marks_in (leaves u) ≡ marks_in ahead ++ marks_in behind_old =
      ap marks_in g.after ∙ marks_in_both g.front behind_new ∙ ap (λ l. marks_in g.front ++ l) (seam_unmarked g.quiet g.behind g.rest) ∙ ap (λ l. l ++ marks_in behind_old) (sym unmarked) in
      let count : length (texts.comments_of (marks_in ahead)) ≡ comments_before g = ap (λ l. length (texts.comments_of l)) unmarked ∙ comments_counted (tree_marks.marks_of g.front) in
      let new : printed_text u ≡ text_of_leaves g.front ++ (seam_if g.behind ++ text_of_leaves g.rest) = ap text_of_leaves g.after ∙ text_joined g.front behind_new (utf8_first g.front behind_new utf8_new) ∙ ap (λ l. text_of_leaves g.front ++ l) new_back in (
        text_of_leaves g.front,
        text_of_leaves g.blanks,
        chars g.text,
        [],
        seam_if g.behind,
        text_of_leaves g.rest,
        record { before = old; after = new; sides = (inl refl, seam) },
        removed_before o g.front g.blanks g.text behind_old lines (spelled_first g.front ((g.blanks ++ own) ++ behind_old) all_spelled) (good_first o g.front ((g.blanks ++ own) ++ behind_old) good)
            (good_first o g.blanks own (good_first o (g.blanks ++ own) behind_old (good_second o g.front ((g.blanks ++ own) ++ behind_old) good))) comment.1.0 comment.1.1 (g.blanks_are o s),
        refl,
        marks_in ahead,
        marks_in behind_old,
        tree_marks.trimmed (chars g.text),
        parted o s w ahead own behind_old parts refl from old_back,
        marks,
        count,
      )
