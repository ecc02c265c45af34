-- An array or object at a path of a sound document has its brackets, and a row that may stand between them.
use Rattle.std.proofs.Common.{◌≡◌, ◌∙◌, ◌<◌, ◌-◌, ◌+◌, ◌&&◌, inl, inr, ℕ, suc, Bool, true, false, cond, List, [], ◌∷◌, ◌++◌, length, nat_lt, slice_index, ap, arith, length-append}
use Rattle.std.proofs.lemmas.Bool.{cases_Bool, ltb-true}
use Rattle.std.proofs.lemmas.List.{get_or-append-add}
use Rattle.jsonc_text.specs.Options.{Options}
use Rattle.jsonc_tree.specs.OrderedTree.{ordered_tree}
use Rattle.jsonc_tree.specs.Tree.{Node, children_at, content_at, IsTree, IsOver}
use Rattle.jsonc_layout.specs.nodes.Kinds.{is_token}
use Rattle.jsonc_sound.specs.Rows.{RowKind, of_values, holder}
use Rattle.jsonc_sound.specs.SoundTrees.{SoundTree}
use Rattle.jsonc_edit.specs.Paths.{IsAt}
use Rattle.jsonc_text.specs.declared.edit.EditError.TheVariants.{OutOfMemory, MissingBrackets}
use Rattle.jsonc_edit.proofs.FittingNodes.{over_there}
use Rattle.jsonc_edit.proofs.Standing.{standing}
use Rattle.jsonc_edit.proofs.Uniqueness.{over_at}
use Rattle.jsonc_edit.proofs.lemmas.multiline.BracketedRows.{bracketed_as, row_stays, BracketedRow}
use Rattle.jsonc_insert.specs.Planned.{has_brackets}
use Rattle.jsonc_insert.specs.elements.Laws.{HasItsBrackets, OnlyOutOfMemory}
use Rattle.jsonc_edit.proofs.lemmas.multiline.SoundRows.{row_in_document, IsRow}

-- a row of two tokens and what stands between them
pub both_true : (a b : Bool) → a ≡ true → b ≡ true → (a && b) ≡ true
both_true a b e f = ap (λ v. v && b) e ∙ f

module _ (ns : List Node) (x y : ℕ) (inner : List ℕ) where
  abbrev row : List ℕ
  row = x ∷ (inner ++ y ∷ [])

  long : length row ≡ length inner + 2
  long = omega (arith, length-append inner (y ∷ []))

  not_short : nat_lt (length row) 2 ≡ false
  not_short = elim (cases_Bool (nat_lt (length row) 2)) [ inl so ↦ absurd (let less = ltb-true (length row) 2 so in omega (arith, less, long)) | inr off ↦ off ]

  last_is : slice_index row (length row - 1) ≡ y
  last_is = ap (slice_index row) (let z : length row - 1 ≡ suc (length inner + 0) = omega (arith, long) in z) ∙ get_or-append-add inner (y ∷ []) 0 0

  bracketed_row : is_token (content_at ns x) ≡ true → is_token (content_at ns y) ≡ true → has_brackets ns row ≡ true
  bracketed_row e f =
      ap (λ v. cond v false (is_token (content_at ns x) && is_token (content_at ns (slice_index row (length row - 1))))) not_short
      ∙ both_true (is_token (content_at ns x)) (is_token (content_at ns (slice_index row (length row - 1)))) e (ap (λ n. is_token (content_at ns n)) last_is ∙ f)

module _ (o : Options) (kind : RowKind) (ns : List Node) (path : List ℕ) (c : ℕ) (tree : IsTree ns) (sound : SoundTree o (ordered_tree ns 0)) (at : IsAt ns path c) (is : content_at ns c ≡ holder kind) where
  pub over : IsOver ns 0 c
  over = over_at ns tree path c at

  pub there : c < length ns
  there = over_there ns tree c over

  pub container_row : BracketedRow ns c kind
  container_row = bracketed_as o ns path c tree sound at kind is

  pub is_row : (b : BracketedRow ns c kind) → IsRow o kind (standing ns b.inner)
  is_row b = row_in_document o kind (standing ns b.inner) sound (row_stays ns tree c there b path at)

  pub has : has_brackets ns (children_at ns c) ≡ true
  has = let b = container_row in ap (has_brackets ns) b.children ∙ bracketed_row ns b.open_with b.last b.inner (ap is_token b.opens) (ap is_token b.closes)

pub has_its_brackets : (o : Options) (ns : List Node) (path : List ℕ) (c : ℕ) → HasItsBrackets o ns path c
has_its_brackets o ns path c tree sound at is = has o of_values ns path c tree sound at is

pub wants_memory_alone : (o : Options) (ns : List Node) (path : List ℕ) (c : ℕ) → OnlyOutOfMemory o ns path c
wants_memory_alone o ns path c tree sound at is = ap (λ v. cond v OutOfMemory MissingBrackets) (has o of_values ns path c tree sound at is)
