-- The indents that are read from a document are indents: blanks within a line.
use Rattle.std.proofs.Common.{◌≡◌, ℕ, List, [], ◌++◌, Option, IfSome, refl, subst}
use Rattle.jsonc_text.specs.Options.{Options}
use Rattle.jsonc_tree.specs.Content.{Content}
use Rattle.jsonc_tree.specs.Tree.{Node, content_at, IsTree, IsOver}
use Rattle.jsonc_tree.specs.OrderedTree.{OrderedTree, ordered_tree}
use Rattle.jsonc_sound.specs.Leaves.{is_inner_blank}
use Rattle.jsonc_sound.specs.Shape.{IsTrivia, IsLiteralBefore, IsNameBefore, ValueShaped, DocumentShaped}
use Rattle.jsonc_layout.specs.lines.Lines.{indent_at}
use Rattle.jsonc_layout.specs.lines.Indents.{IndentTexts, indents_at}
use Rattle.jsonc_edit.specs.Changes.{row_below}
use Rattle.jsonc_edit.specs.Writing.{IsIndent}
use Rattle.jsonc_edit.proofs.FittingNodes.{FollowsFromShape, holds_of_each}
use Rattle.jsonc_edit.proofs.IndentsTold as told
pub use Rattle.jsonc_edit.proofs.IndentsTold.{unwrap_kept}

-- no blanks are an indent, and so is one indent after another
pub indent_empty : IsIndent []
indent_empty = told.indent_empty is_inner_blank refl

pub indent_joined : (s t : List ℕ) → IsIndent s → IsIndent t → IsIndent (s ++ t)
indent_joined s t a b = told.indent_joined is_inner_blank refl s t a b

-- an indent, if there is one
abbrev pub MayIndent : Option (List ℕ) → Type 0
MayIndent r = IfSome r IsIndent

-- both are indents
abbrev pub AreIndents : IndentTexts → Type 0
AreIndents texts = IsIndent texts.current × IsIndent texts.single

-- what a leaf of whitespace holds is an indent
abbrev IndentIfBlank : Content → OrderedTree → Type 0
IndentIfBlank (Content.whitespace s) below = IsIndent s
IndentIfBlank _ below = Unit {0}

trivia_indent : (o : Options) (content : Content) → IsTrivia o content → IndentIfBlank content OrderedTree.none
trivia_indent o (Content.whitespace s) h = h
trivia_indent o _ h = tt

name_indent : (o : Options) (content : Content) (r : List ℕ) → IsNameBefore o content r → IndentIfBlank content OrderedTree.none
name_indent o (Content.whitespace s) r h = absurd h
name_indent o _ r h = tt

literal_indent : (o : Options) (content : Content) (r : List ℕ) → IsLiteralBefore o content r → IndentIfBlank content OrderedTree.none
literal_indent o (Content.whitespace s) r h = absurd h
literal_indent o _ r h = tt

value_indent : (o : Options) (content : Content) (below : OrderedTree) (r : List ℕ) → ValueShaped o content below r → IndentIfBlank content below
value_indent o content _ r (ValueShaped.literal h) = literal_indent o content r h
value_indent o _ _ r (ValueShaped.empty_array a) = tt
value_indent o _ _ r (ValueShaped.array a es) = tt
value_indent o _ _ r (ValueShaped.empty_object a) = tt
value_indent o _ _ r (ValueShaped.object a ps) = tt

blanks_indent : (o : Options) → FollowsFromShape o IndentIfBlank
blanks_indent o = record {
  of_trivia = trivia_indent o;
  of_token = λ c. tt;
  of_name = name_indent o;
  of_value = value_indent o;
  of_property = λ below. tt;
  of_root = λ below. tt;
}

module _ (ns : List Node) (tree : IsTree ns) (o : Options) (shaped : DocumentShaped o (ordered_tree ns 0)) where
  -- what a leaf of whitespace holds is an indent
  pub trivia_blank : (n : ℕ) (s : List ℕ) → IsOver ns 0 n → content_at ns n ≡ Content.whitespace s → IsIndent s
  trivia_blank n s over e = subst (λ (w : Content). IndentIfBlank w (row_below ns n)) e (holds_of_each o IndentIfBlank (blanks_indent o) ns tree shaped n over)

  -- and so are the indent of a node of the document, and the indents at one
  pub line_indent : (n : ℕ) → IsOver ns 0 n → MayIndent (indent_at ns n)
  line_indent n over = told.line_indent is_inner_blank refl ns tree trivia_blank n over

  pub indents_fit : (n : ℕ) → IsOver ns 0 n → AreIndents (indents_at ns n)
  indents_fit n over = told.indents_fit is_inner_blank refl ns tree trivia_blank n over
