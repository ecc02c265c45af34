-- Entries that are sorted or put on several lines, and comments that come above them, bring no blank.
use Rattle.std.proofs.Common.{ap, ℕ, ◌≡◌, ◌∙◌, Bool, List, [], ◌++◌, Some, IsTrue, chars, refl, sym, subst}
use Rattle.std.proofs.lemmas.Bool.{cond_both}
use Rattle.jsonc_text.specs.Options.{Options}
use Rattle.jsonc_text.specs.Text.{Many}
use Rattle.jsonc_tree.specs.Content.{Content, newline, token}
use Rattle.jsonc_tree.specs.OrderedTree.{ordered_tree}
use Rattle.jsonc_tree.specs.Tree.{Node, content_at, parent_at, IsOver, IsTree}
use Rattle.jsonc_layout.specs.lines.Breadth.{newline_kind_at}
use Rattle.jsonc_layout.specs.lines.Indents.{indents_at}
use Rattle.jsonc_layout.specs.lines.Kinds.{is_array_or_object}
use Rattle.jsonc_sound.specs.Shape.{printed_text, IsText}
use Rattle.jsonc_sound.specs.SoundTrees.{SoundTree}
use Rattle.jsonc_edit.specs.Paths.{IsAt}
use Rattle.jsonc_edit.specs.Seams.{StandsBetween}
use Rattle.jsonc_edit.specs.commenting.Above.{indent_in, ComesAbove}
use Rattle.jsonc_edit.specs.multiline.Multiline.{MadeMultiline}
use Rattle.jsonc_edit.proofs.Uniqueness.{over_at}
use Rattle.jsonc_edit.proofs.lemmas.commenting.Documents.{above_told}
use Rattle.jsonc_edit.proofs.lemmas.commenting.SeamIndents.{seam_so}
use Rattle.jsonc_edit.proofs.lemmas.multiline.Documents.{spread_told}
use Rattle.jsonc_sort.specs.Rearranged.{IsOrderIn, Rearranged}
use Rattle.jsonc_sort.specs.Sorting.{Headers}
use Rattle.jsonc_sort.proofs.AtPaths.{sort_told}
use Rattle.jsonc_text.specs.declared.edit.Place.TheVariants.{Above}
use Rattle.jsonc_run.specs.Written.{PrintsNoBlank}
use Rattle.jsonc_run.specs.texts.Edits as texts
use Rattle.jsonc_run.specs.texts.Edits.{is_odd_blank}
use Rattle.jsonc_run.proofs.lemmas.promise.BlanksCome.{Lacks, differs, lacks_first}
use Rattle.jsonc_run.proofs.lemmas.promise.BlanksLeaves.{TextLacks, prints_no_blank}
use Rattle.jsonc_run.proofs.lemmas.promise.BlanksTold.{blank_told, indents_lack, inner_told, is_other, line_end_lacks, none_told, own_told, text_told}
use Rattle.jsonc_sound.proofs.ShapeValues.{comma_mark}
use Rattle.jsonc_run.proofs.lemmas.promise.Trivia.{newline_chars}

module _ (o : Options) (old new : List Node) (tree : IsTree old) (s : SoundTree o (ordered_tree old 0)) (r : SoundTree o (ordered_tree new 0)) where
  module _ (c : ℕ) (odd : IsTrue (is_odd_blank c)) (h : Lacks c (printed_text (ordered_tree old 0))) where
    line_lacks : (n : ℕ) → TextLacks c (newline (newline_kind_at old n))
    line_lacks n = subst (Lacks c) (sym (newline_chars (newline_kind_at old n))) (line_end_lacks c odd o old tree s h n)

    pub comma_lacks : TextLacks c (token 0x2C)
    comma_lacks = subst (Lacks c) (sym (ap chars comma_mark.bytes ∙ comma_mark.text)) (differs c odd 0x2C refl, tt)

    inner_lacks : (n : ℕ) → IsOver old 0 n → Lacks c (chars ((indents_at old n).current ++ (indents_at old n).single))
    inner_lacks n over = text_told c odd o old tree s h _ (inner_told c odd o old tree s h n over)

    indent_told : (n : ℕ) → IsOver old 0 n → IsText (Many (is_other c)) (indent_in old n)
    indent_told n over =
        cond_both (is_array_or_object (content_at old n)) ((indents_at old n).current ++ (indents_at old n).single) [] (IsText (Many (is_other c))) (λ e. inner_told c odd o old tree s h n over) (λ e. none_told c odd o old tree s h)

  -- a sort
  pub sort_brings_none : (by_blank_lines : Bool) (path : List ℕ) (n : ℕ) (headers : Headers) (order : List ℕ) → IsTree new → IsAt old path n → IsTrue (is_array_or_object (content_at old n)) → IsOrderIn old n order → Rearranged old new n headers order
      → PrintsNoBlank (texts.rearrange by_blank_lines path order) (ordered_tree old 0) (ordered_tree new 0)
  sort_brings_none by_blank_lines path n headers order after at holds perm made =
      prints_no_blank o (ordered_tree old 0) (ordered_tree new 0) (texts.rearrange by_blank_lines path order) s r (λ c odd h all w. sort_told o old new path n headers order tree after s at holds perm (TextLacks c) all (comma_lacks c odd h) (line_lacks c odd h n) made)

  -- several lines
  pub lines_bring_none : (path : List ℕ) (n : ℕ) → IsAt old path n → IsTrue (is_array_or_object (content_at old n)) → MadeMultiline old new n → PrintsNoBlank (texts.ensure_multiline path) (ordered_tree old 0) (ordered_tree new 0)
  lines_bring_none path n at holds made =
      let over : IsOver old 0 n = over_at old tree path n at in
      prints_no_blank o (ordered_tree old 0) (ordered_tree new 0) (texts.ensure_multiline path) s r (λ c odd h all w. spread_told o old new path n tree s at holds (TextLacks c) all (line_lacks c odd h n) (inner_lacks c odd h n over) (indents_lack c odd o old tree s h n over).0 made)

  -- a comment above an entry
  pub comment_brings_none : (path : List ℕ) (n c : ℕ) (text : List ℕ) → parent_at old n ≡ Some c → IsOver old 0 c → IsOver old 0 n → (front back : List Content) → StandsBetween old n front back → ComesAbove old new n text
      → PrintsNoBlank (texts.insert_comment path Above (chars text)) (ordered_tree old 0) (ordered_tree new 0)
  comment_brings_none path n c text said over below front back stands comes =
      prints_no_blank o (ordered_tree old 0) (ordered_tree new 0) (texts.insert_comment path Above (chars text)) s r (λ x odd h all w.
      let whole = indent_told x odd h c over in
      above_told old new n text tree c said front back stands (TextLacks x) all (line_lacks x odd h c) (lacks_first x (chars text) [] w) (text_told x odd o old tree s h _ (own_told x odd o old tree s h n below)) (text_told x odd o old tree s h _ whole)
      (text_told x odd o old tree s h _ (seam_so (is_other x) old tree n c said over whole (blank_told x odd o old tree s h))) comes)
