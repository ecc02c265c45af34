-- Which indent comes at the seam above an entry: that of its container, or what of this the whitespace before the entry lacks.
use Rattle.std.proofs.Common.{◌≡◌, ℕ, Bool, List, Option, Some, None, refl, sym, ◌∙◌}
use Rattle.std.specs.Prelude.{option_and_then}
use Rattle.jsonc_text.specs.Text.{Many}
use Rattle.jsonc_tree.specs.Content as content
use Rattle.jsonc_tree.specs.Siblings.{first, siblings_before}
use Rattle.jsonc_tree.specs.Tree.{Node, content_at, parent_at, place_at, IsOver, IsTree}
use Rattle.jsonc_layout.specs.lines.Kinds.{blank_at}
use Rattle.jsonc_sound.specs.Shape.{IsText}
use Rattle.jsonc_edit.specs.commenting.Above.{indent_in, seam_at, seam_behind, seam_by, without_end, Seam}
use Rattle.jsonc_edit.proofs.RowEnds.{before_is, previous_at}
use Rattle.jsonc_edit.proofs.lemmas.commenting.Above.{is_blank_text}
use Rattle.jsonc_edit.proofs.lemmas.commenting.Indents.{ahead_fits}

module _ (p : ℕ → Bool) (old : List Node) (tree : IsTree old) (n c : ℕ) (said : parent_at old n ≡ Some c) (over : IsOver old 0 c) (whole : IsText (Many p) (indent_in old c))
    (blanks : (m : ℕ) (s : List ℕ) → IsOver old 0 m → content_at old m ≡ content.whitespace s → IsText (Many p) s) where
  abbrev So : Seam → Type 0
  So seam = IsText (Many p) seam.indent

  by_rest : (m : ℕ) (s : List ℕ) → IsText (Many p) s → (t : Option (List ℕ)) → without_end (indent_in old c) s ≡ t → So (seam_by n m (indent_in old c) t)
  by_rest m s b None split = whole
  by_rest m s b (Some rest) split = ahead_fits (indent_in old c) s rest whole b split

  by_blank : (m : ℕ) → IsOver old 0 m → (t : Option (List ℕ)) → blank_at old m ≡ t → So (seam_by n m (indent_in old c) (option_and_then (without_end (indent_in old c)) t))
  by_blank m there None none_there = whole
  by_blank m there (Some s) there_is = by_rest m s (blanks m s there (is_blank_text (content_at old m) s there_is)) (without_end (indent_in old c) s) refl

  by_sibling : (m : Option ℕ) → first (siblings_before old n) ≡ m → So (seam_behind old n (indent_in old c) m)
  by_sibling None is = whole
  by_sibling (Some m) is = by_blank m (IsOver.above (before_is old tree c (place_at old n) m (sym (previous_at old tree c n said) ∙ is)).0 over) (blank_at old m) refl

  pub seam_so : IsText (Many p) (seam_at old n (indent_in old c)).indent
  seam_so = by_sibling (first (siblings_before old n)) refl
