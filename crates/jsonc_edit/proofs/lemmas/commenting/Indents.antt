-- The indents that come with a comment are indents.
use Rattle.std.proofs.Common.{◌≡◌, ◌∙◌, ℕ, ◌-◌, Bool, true, false, cond, List, [], ◌∷◌, ◌++◌, length, take, drop, Some, None, nat_eq, IsUtf8, chars, refl, sym, ap, subst, arith}
use Rattle.std.specs.List.{ends_with}
use Rattle.std.proofs.lemmas.Bool.{cond_both}
use Rattle.std.proofs.lemmas.List.{take-append-drop}
use Rattle.std.proofs.lemmas.Str.{IsCharBoundary-from_drop, IsUtf8-take, chars-append}
use Rattle.std.specs.Cmp.Lexicographic.{same_text}
use Rattle.jsonc_text.specs.Options.{Options}
use Rattle.jsonc_text.specs.Text.{Many, stop, step}
use Rattle.jsonc_tree.specs.OrderedTree.{ordered_tree}
use Rattle.jsonc_tree.specs.Tree.{Node, content_at, IsOver, IsTree}
use Rattle.jsonc_layout.specs.lines.Indents.{indents_at}
use Rattle.jsonc_layout.specs.lines.Kinds.{is_array_or_object}
use Rattle.jsonc_layout.specs.lines.Lines.{indent_at}
use Rattle.jsonc_sound.specs.Shape.{DocumentShaped, IsText}
use Rattle.jsonc_edit.specs.Writing.{IsIndent}
use Rattle.jsonc_edit.specs.commenting.Above.{indent_in, own_indent, without_end}
use Rattle.jsonc_edit.specs.multiline.Lines.{lines_for}
use Rattle.jsonc_edit.proofs.FittingIndents.{indent_empty, indent_joined, indents_fit, line_indent, unwrap_kept}

module _ (o : Options) (ns : List Node) (tree : IsTree ns) (shaped : DocumentShaped o (ordered_tree ns 0)) where
  pub own_fits : (n : ℕ) → IsOver ns 0 n → IsIndent (own_indent ns n)
  own_fits n over = unwrap_kept IsIndent (indent_at ns n) [] (line_indent ns tree o shaped n over) indent_empty

  pub indent_fits : (c : ℕ) → IsOver ns 0 c → IsIndent (indent_in ns c)
  indent_fits c over =
      let two = indents_fit ns tree o shaped c over in
      cond_both (is_array_or_object (content_at ns c)) (lines_for ns c).inner [] IsIndent (λ e. indent_joined (indents_at ns c).current (indents_at ns c).single two.0 two.1) (λ e. indent_empty)

-- what stands before the end of an indent
many_ahead : {p : ℕ → Bool} (s t : List ℕ) → Many p (s ++ t) [] → Many p s []
many_ahead [] t m = stop
many_ahead (c ∷ s) t (step h m) = step h (many_ahead s t m)

module _ {p : ℕ → Bool} (text last rest : List ℕ) (a : IsText (Many p) text) (b : IsText (Many p) last) where
  abbrev at : ℕ
  at = length text - length last

  told : (h : Bool) → ends_with nat_eq text last ≡ h → cond h (Some (take at text)) None ≡ Some rest → IsText (Many p) rest
  told true h k =
      let same : take at text ≡ rest = (let both : Some (take at text) ≡ Some rest = k in cc) in
      let back : last ≡ drop at text = same_text last (drop at text) (sym h) in
      let utf8 : IsUtf8 (take at text) = IsUtf8-take text at a.0 (IsCharBoundary-from_drop text at (omega arith) (subst IsUtf8 back b.0)) in
      let parts : chars text ≡ chars (take at text) ++ chars (drop at text) = ap chars (sym (take-append-drop at text)) ∙ chars-append (take at text) (drop at text) utf8 in
      subst (IsText (Many p)) same (utf8, many_ahead (chars (take at text)) (chars (drop at text)) (subst (λ l. Many p l []) parts a.1))
  told false h k = absurd (let wrong : None ≡ Some rest = k in cc)

  by_end : (h : Bool) → ends_with nat_eq text last ≡ h → without_end text last ≡ Some rest → IsText (Many p) rest
  by_end h is k = told h is (sym (ap (λ x. cond x (Some (take at text)) None) is) ∙ k)

  pub ahead_fits : without_end text last ≡ Some rest → IsText (Many p) rest
  ahead_fits e = by_end (ends_with nat_eq text last) refl e
