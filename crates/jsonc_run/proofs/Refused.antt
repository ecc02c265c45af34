-- In a sound document no edit is refused for a bracket or a name: arrays and objects have their brackets, and properties their names.
use Rattle.std.proofs.Common.{◌≡◌, ◌<◌, ℕ, true, not, IsTrue, List, [], Option, Some, Result, Ok, Err, IfErr, refl, sym, ap, subst, ◌∙◌}
use Rattle.std.proofs.lemmas.Bool.{false≢true}
use Rattle.jsonc_text.specs.Options.{Options}
use Rattle.jsonc_text.proofs.Basics.{and_both}
use Rattle.jsonc_text.specs.Plain.{Plain}
use Rattle.jsonc_tree.specs.Content.{comment}
use Rattle.jsonc_sound.specs.Lines.{is_line_comment}
use Rattle.jsonc_text.specs.declared.edit.Place.{Place}
use Rattle.jsonc_text.specs.declared.edit.Place.TheVariants.{Above, After}
use Rattle.jsonc_edit.specs.commenting.Behind.{may_end_line}
use Rattle.jsonc_edit.specs.commenting.Inserting.{runs_on}
use Rattle.jsonc_tree.specs.OrderedTree.{ordered_tree}
use Rattle.jsonc_tree.specs.Tree.{Node, content_at, IsTree}
use Rattle.jsonc_tree.specs.Values.{DocumentValueOf}
use Rattle.jsonc_layout.specs.nodes.Properties.{lacks_name_at, value_by}
use Rattle.jsonc_layout.specs.lines.Kinds.{is_array_or_object}
use Rattle.jsonc_sound.specs.SoundTrees.{SoundTree}
use Rattle.jsonc_text.specs.declared.edit.Over.{Over}
use Rattle.jsonc_text.specs.declared.edit.Shape.{Shape}
use Rattle.jsonc_text.specs.declared.edit.EditError.{EditError}
use Rattle.jsonc_text.specs.declared.edit.EditError.TheVariants.{OutOfMemory, MissingBrackets, MissingName, NoSuchPlace, LineContinues, NestingDepthExceeded}
use Rattle.jsonc_edit.specs.Paths as paths
use Rattle.jsonc_edit.specs.Paths.{IsAt, IsElementOf, LeadsTo}
use Rattle.jsonc_edit.proofs.Uniqueness.{element_parent}
use Rattle.jsonc_edit.specs.remove.Removed.{has_brackets, IsKeptFor}
use Rattle.jsonc_edit.specs.multiline.Multiline.{IsUnspread}
use Rattle.jsonc_edit.specs.set.Names.{RenameError}
use Rattle.jsonc_edit.proofs.lemmas.multiline.LineEnds.{has_its_brackets}
use Rattle.jsonc_insert.proofs.lemmas.named.Writing as named_laws
use Rattle.jsonc_run.specs.Edits.{PlainEdit, insert_comment, place_of, EditSteps, none_made, first_made}
use Rattle.jsonc_insert.specs.Inserted.{refusal}
use Rattle.jsonc_insert.specs.named.Named.{EnsureError}
use Rattle.jsonc_insert.proofs.lemmas.elements.Containers.{wants_memory_alone}
use Rattle.jsonc_insert.proofs.lemmas.members.SpreadObjects as objects
use Rattle.jsonc_insert.specs.named.Places.{IsPropertyAt, a_property}
use Rattle.jsonc_run.specs.Places.{IsArrayAt, IsContainerAt, IsEntryAt, IsObjectAt, an_entry, in_array, in_object, the_value, AtPlace}
use Rattle.jsonc_run.specs.Refusals.{CommentError, FailsWith, IsUnset, RefusedAt, MayFailWith}
use Rattle.jsonc_insert.proofs.lemmas.named.PropertyValues.{held_by_name, value_held}
use Rattle.jsonc_run.proofs.lemmas.depth.Needed.{needs_so}

-- a comment that would take the rest of a line ends with it
line_after : (ns : List Node) (w : Option Plain) (path : List ℕ) (n : ℕ) (place : Place) (text : List ℕ) → IsTrue (runs_on place ns n text) → MayFailWith w (insert_comment path place text) LineContinues
line_after ns w path n Above text k = false≢true k
line_after ns w path n After text k = (and_both (is_line_comment (comment text)) (not (may_end_line ns n)) k).0

comment_may : (ns : List Node) (w : Option Plain) (path : List ℕ) (n : ℕ) (place : Place) (text : List ℕ) (why : EditError) → CommentError place ns n text why → MayFailWith w (insert_comment path place text) why
comment_may ns w path n place text OutOfMemory k = tt
comment_may ns w path n place text NoSuchPlace k = tt
comment_may ns w path n place text NestingDepthExceeded k = absurd k
comment_may ns w path n place text LineContinues k = line_after ns w path n place text k
comment_may ns w path n place text why k = k

-- and an edit may be refused for memory
memory_may : (w : Option Plain) (e : PlainEdit) (why : EditError) → why ≡ OutOfMemory → MayFailWith w e why
memory_may w e why is = subst (MayFailWith w e) (sym is) tt

module _ (o : Options) (ns : List Node) (tree : IsTree ns) (sound : SoundTree o (ordered_tree ns 0)) where
  -- an entry of an array or object at a path stands between brackets
  between_brackets : (front : List ℕ) (c i n : ℕ) → IsAt ns front c → IsTrue (is_array_or_object (content_at ns c)) → IsElementOf ns c i n → IsKeptFor ns n MissingBrackets → ⊥
  between_brackets front c i n at holds e (k, said, held, lacks) =
      let same : c ≡ k = let both : Some c ≡ Some k = sym (element_parent ns tree c i n e) ∙ said in cc in
      let has : IsTrue (has_brackets ns k) = subst (λ j. IsTrue (has_brackets ns j)) same (has_its_brackets o ns front c tree sound at holds) in
      false≢true (sym (ap not has) ∙ lacks)

  -- the document's value stands in the root, which wants none
  in_root : (n v : ℕ) → IsElementOf ns 0 0 v → LeadsTo ns n v [] → IsKeptFor ns n MissingBrackets → ⊥
  in_root n _ e paths.itself (k, said, held, lacks) =
      let same : 0 ≡ k = let both : Some 0 ≡ Some k = sym (element_parent ns tree 0 0 n e) ∙ said in cc in
      false≢true (sym (ap is_array_or_object (ap (content_at ns) (sym same) ∙ tree.root_first)) ∙ held)

  entry_kept : (path : List ℕ) (n : ℕ) → IsEntryAt ns path n → IsKeptFor ns n MissingBrackets → ⊥
  entry_kept _ n (the_value at) k = in_root n at.0 at.1 at.2 k
  entry_kept _ n (an_entry front c i at (in_array is e)) k = between_brackets front c i n at (ap is_array_or_object is) e k
  entry_kept _ n (an_entry front c i at (in_object p)) k = between_brackets front c i n at (ap is_array_or_object p.of_object) p.element k

  lines_kept : (path : List ℕ) (n : ℕ) → IsContainerAt ns path n → IsUnspread ns n MissingBrackets → ⊥
  lines_kept path n at lacks = false≢true (sym (ap not (has_its_brackets o ns path n tree sound at.0 at.1)) ∙ lacks)

  name_there : (path : List ℕ) (n : ℕ) → IsPropertyAt ns path n → lacks_name_at ns n ≡ true → ⊥
  name_there _ n (a_property front c i at inside) lacks =
      let held = value_held o ns tree sound _ n (a_property front c i at inside) in
      held_by_name ns n held.value (sym (ap (λ w. value_by w ns n) inside.is) ∙ held.holds) lacks

  -- Of each kind of refusal nothing else is told: of an entry that is to leave,
  entry_memory : (path : List ℕ) (n : ℕ) → IsEntryAt ns path n → (why : EditError) → IsKeptFor ns n why → why ≡ OutOfMemory
  entry_memory path n at OutOfMemory k = refl
  entry_memory path n at MissingBrackets k = absurd (entry_kept path n at k)
  entry_memory path n at why k = absurd k

  -- of an array or object that is to be on several lines,
  lines_memory : (path : List ℕ) (n : ℕ) → IsContainerAt ns path n → (why : EditError) → IsUnspread ns n why → why ≡ OutOfMemory
  lines_memory path n at OutOfMemory k = refl
  lines_memory path n at MissingBrackets k = absurd (lines_kept path n at k)
  lines_memory path n at why k = absurd k

  -- of a property whose value is to be of a shape, or that is to have another name,
  value_memory : (path : List ℕ) (n : ℕ) (shape : Shape) → IsPropertyAt ns path n → (why : EditError) → IsUnset shape ns n why → why ≡ OutOfMemory
  value_memory path n shape at OutOfMemory k = refl
  value_memory path n shape at MissingName k = absurd (name_there path n at k)
  value_memory path n shape at why k = absurd k

  name_memory : (path : List ℕ) (n : ℕ) → IsPropertyAt ns path n → (why : EditError) → RenameError ns n why → why ≡ OutOfMemory
  name_memory path n at OutOfMemory k = refl
  name_memory path n at MissingName k = absurd (name_there path n at k)
  name_memory path n at why k = absurd k

  -- and of an array or object that a value or a property is to come into.
  array_memory : (path : List ℕ) (n : ℕ) → IsArrayAt ns path n → (why : EditError) → why ≡ refusal ns n → why ≡ OutOfMemory
  array_memory path n at why k = k ∙ wants_memory_alone o ns path n tree sound at.0 at.1

  object_memory : (path : List ℕ) (n : ℕ) → IsObjectAt ns path n → (why : EditError) → why ≡ refusal ns n → why ≡ OutOfMemory
  object_memory path n at why k = k ∙ (objects.wants_memory_alone o ns path n tree sound at.0 at.1).1

  named_memory : (path : List ℕ) (n : ℕ) (name : List ℕ) (shape : Shape) (how : Over) → IsObjectAt ns path n → (why : EditError) → EnsureError shape how ns n name why → why ≡ OutOfMemory
  named_memory path n name shape how at why k = named_laws.wants_memory o ns path n name shape how why tree sound at.0 at.1 k

  ruleset refusals = (entry_memory, lines_memory, value_memory, name_memory, array_memory, object_memory, named_memory)

  module _ (w : Option Plain) (value : DocumentValueOf o (ordered_tree ns 0) w) where
    -- what has its place is refused for memory alone, or it is a comment
    may_fail : (e : PlainEdit) (why : EditError) → AtPlace ns (place_of e) (λ n. RefusedAt ns n e why) → MayFailWith w e why
    may_fail (insert_comment path place text) why (n, at, k) = comment_may ns w path n place text why k
    may_fail e why k = memory_may w e why (search refusals)

    -- so it may be, or it has no place, or what it writes would be nested too deep
    pub refused_so : (e : PlainEdit) (why : EditError) → FailsWith ns e why → MayFailWith w e why
    refused_so e NoSuchPlace k = tt
    refused_so e NestingDepthExceeded k = needs_so o ns tree w value e (λ n. 512 < n) k
    refused_so e why k = may_fail e why k

    pub answer_refused : {T : Type 0} (e : PlainEdit) (r : Result T EditError) → IfErr r (FailsWith ns e) → IfErr r (MayFailWith w e)
    answer_refused e (Ok x) k = tt
    answer_refused e (Err why) k = refused_so e why k

-- what edits that were made leave is a tree
pub made_tree : {old new : List Node} {es : List PlainEdit} → IsTree old → EditSteps old es new → IsTree new
made_tree tree none_made = tree
made_tree tree (first_made is after rest) = made_tree after rest
