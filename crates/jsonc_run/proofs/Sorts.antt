-- Entries at a path that come in an order, and commas that are set there: what becomes of a document.
use Rattle.std.proofs.Common.{inr, ℕ, List}
use Rattle.jsonc_text.specs.Options.{Options}
use Rattle.jsonc_tree.specs.OrderedTree.{ordered_tree}
use Rattle.jsonc_tree.specs.Tree.{Node, content_at, IsTree}
use Rattle.jsonc_sound.specs.SoundTrees.{SoundTree}
use Rattle.jsonc_edit.specs.commas.InTurn.{holders, AreSetInPart, AreSetInTurn}
use Rattle.jsonc_edit.specs.commas.Laws.{IsAsSaid, IsInSound, SaysTheSame}
use Rattle.jsonc_edit.proofs.lemmas.commas.Documents.{keeps_document, keeps_in_part}
use Rattle.jsonc_edit.proofs.lemmas.commas.InsideAlone.{stays_outside, stays_outside_in_part}
use Rattle.jsonc_edit.specs.Changes.{row_below, top_at}
use Rattle.jsonc_edit.proofs.lemmas.commas.NoneLeft.{leaves_none}
use Rattle.jsonc_edit.proofs.lemmas.commas.NoneMissing.{leaves_all}
use Rattle.jsonc_text.specs.declared.edit.TrailingCommaMode.{TrailingCommaMode}
use Rattle.jsonc_text.specs.declared.edit.TrailingCommaMode.TheVariants.{Never, IfMultiline}
use Rattle.jsonc_edit.proofs.Uniqueness.{over_at}
use Rattle.jsonc_run.specs.Places.{IsContainerAt}
use Rattle.jsonc_run.specs.Written.{IsChangedAt}
use Rattle.jsonc_sort.specs.Above.{PinsUnderBlankLines}
use Rattle.jsonc_sort.specs.Paths.{KeepsOutside, PinsIn, SaysSorted, SortedAt}
use Rattle.jsonc_sort.specs.Rearranged.{IsOrderIn, Rearranged}
use Rattle.jsonc_sort.specs.Sorting.{Headers}
use Rattle.jsonc_sort.proofs.AtPaths.{sorts_at}
use Rattle.jsonc_sort.proofs.SortedDocuments.{keeps_outside, sorts_document}

module _ (o : Options) (old new : List Node) (path : List ℕ) (n : ℕ) (tree : IsTree old) (sound : SoundTree o (ordered_tree old 0)) (at : IsContainerAt old path n) where
  in_sound : IsInSound o old n
  in_sound = record { tree = tree; over = over_at old tree path n at.0; sound = sound }

  -- commas that are set, all or some
  pub commas_say : (mode : TrailingCommaMode) → AreSetInTurn mode old (holders old n) new → SaysTheSame mode o (ordered_tree old 0) (ordered_tree new 0)
  commas_say mode set = keeps_document mode o old n in_sound new set

  pub some_commas_say : (mode : TrailingCommaMode) → AreSetInPart mode old (holders old n) new → SaysTheSame mode o (ordered_tree old 0) (ordered_tree new 0)
  some_commas_say mode part = keeps_in_part mode o old n in_sound new part

  -- what stands there is as the mode says
  commas_as_said : (mode : TrailingCommaMode) → AreSetInTurn mode old (holders old n) new → IsAsSaid mode o (content_at new n) (row_below new n)
  commas_as_said Never set = leaves_none o old n new in_sound at.1 set
  commas_as_said IfMultiline set = leaves_all o old n new in_sound (inr at.1) set

  -- and nothing outside of the array or object changes
  pub commas_placed : (mode : TrailingCommaMode) → AreSetInTurn mode old (holders old n) new
      → (at : IsChangedAt path (ordered_tree old 0) (ordered_tree new 0)) × IsAsSaid mode o at.1.content at.1.below
  commas_placed mode set = ((top_at old n, top_at new n, stays_outside mode old n path new tree in_sound.over at.1 at.0 set), commas_as_said mode set)

  pub some_commas_within : (mode : TrailingCommaMode) → AreSetInPart mode old (holders old n) new → IsChangedAt path (ordered_tree old 0) (ordered_tree new 0)
  some_commas_within mode part = (top_at old n, top_at new n, stays_outside_in_part mode old n path new tree in_sound.over at.1 at.0 part)

  -- entries that come in an order
  pub sorted_at : (headers : Headers) (order : List ℕ) → IsTree new → IsOrderIn old n order → Rearranged old new n headers order
      → (s : SortedAt path order (ordered_tree old 0) (ordered_tree new 0)) × (PinsUnderBlankLines old n headers → PinsIn s)
  sorted_at headers order after all made = sorts_at o old new path n headers order tree after sound at.0 at.1 all made

-- what that says of the document
pub sorted_outside : (path order : List ℕ) (old new : List Node) (s : SortedAt path order (ordered_tree old 0) (ordered_tree new 0)) → KeepsOutside s
sorted_outside path order old new s = keeps_outside s

pub sorted_says : (o : Options) (path order : List ℕ) (old new : List Node) → SoundTree o (ordered_tree old 0) → SortedAt path order (ordered_tree old 0) (ordered_tree new 0) → SaysSorted o path order (ordered_tree old 0) (ordered_tree new 0)
sorted_says o path order old new sound s = sorts_document o (ordered_tree old 0) (ordered_tree new 0) path order sound s
