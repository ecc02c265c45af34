-- What stands at names in a document that nodes show, what was put there, and what was dropped.
use Rattle.std.proofs.Common.{◌≡◌, ◌⊎◌, ◌++◌, ◌∷◌, [], ℕ, Bool, true, false, List, Option, Some, None, inl, inr, refl, sym, ap, subst}
use Rattle.jsonc_text.specs.Documents.{Document}
use Rattle.jsonc_text.specs.Grammar.{IsDocument}
use Rattle.jsonc_text.specs.Options.{Options}
use Rattle.jsonc_text.specs.Plain.{Plain}
use Rattle.jsonc_tree.specs.OrderedTree.{ordered_tree, printed}
use Rattle.jsonc_tree.specs.Tree.{Node}
use Rattle.jsonc_tree.specs.Values.{DocumentValueOf}
use Rattle.jsonc_sound.specs.Shape.{printed_text}
use Rattle.jsonc_sound.proofs.ShapeValues.{document_printed}
use Rattle.jsonc_sound.specs.Documents.{Shows, document_of}
use Rattle.jsonc_sound.specs.SoundTrees.{SoundTree}
use Rattle.jsonc_text.specs.declared.edit.EditError.{EditError}
use Rattle.jsonc_text.specs.declared.edit.EditError.TheVariants.{NestingDepthExceeded, OutOfMemory}
use Rattle.jsonc_cst.specs.declared.cst.CstRootNode.{CstRootNode}
use Rattle.jsonc_cst.specs.declared.cst.node.CstNode.{CstNode}
use Rattle.jsonc_cst.specs.Document.{nodes_of, tree_of}
use Rattle.jsonc_cst.specs.Nodes.{number_of}
use Rattle.jsonc_text.specs.declared.edit.Over.TheVariants.{Keep}
use Rattle.jsonc_parser.specs.declared.paths.which.Which.TheVariants.{First}
use Rattle.jsonc_parser.specs.paths.Calls.{DropsWhatShown, FailsToPut, FitsAt, PutsWhatShown, WantsMemory}
use Rattle.jsonc_parser.specs.paths.Found.{FindsWhatShown}
use Rattle.jsonc_parser.specs.paths.Laws.{MustStay}
use Rattle.jsonc_parser.specs.paths.Memory.{PassesEscaped, SomethingAt, WantsForSomething, WantsToLookUp, WantsToPut}
use Rattle.jsonc_engine.specs.Fault.{EndsDropping, EndsGetting, EndsPutting}
use Rattle.jsonc_engine.specs.Settings.{DropsSetting, HasInTheWay, HasNothingAt, IsForPutting, IsForSomething, IsShownAt, LooksUpEscaped, PutsSetting, ShowsOne}
use Rattle.jsonc_engine.specs.declared.fault.Fault.TheVariants.{Edit}

module _ (o : Options) (ns : List Node) (sound : SoundTree o (ordered_tree ns 0)) where
  text : (w : Option Plain) × IsDocument o (printed_text (ordered_tree ns 0)) w × DocumentValueOf o (ordered_tree ns 0) w
  text = document_printed o (ordered_tree ns 0) sound.shaped sound.lines

  abbrev d : Document
  d = document_of o (ordered_tree ns 0) text.0

  shown : Shows d (ordered_tree ns 0)
  shown = record { sound = sound; value = text.2; is = refl }

  abbrev one : ShowsOne o ns
  one = record { document = d; options = refl; shown = shown }

  pub puts_setting : (v : Plain) (names : List (List ℕ)) (new : List Node) → FitsAt names v → PutsWhatShown First v Keep names ns new true → PutsSetting o v names ns new
  puts_setting v names new fits puts = record { fits = fits; one = one; puts = puts d shown }

  pub in_the_way : (v : Plain) (names : List (List ℕ)) (new : List Node) → PutsWhatShown First v Keep names ns new false → HasInTheWay o (printed (ordered_tree ns 0)) names
  in_the_way v names new puts = (text.0, text.1, (puts d shown).1.1)

  pub stays_so : (v : Plain) (names : List (List ℕ)) (new : List Node) → PutsWhatShown First v Keep names ns new false → ordered_tree new 0 ≡ ordered_tree ns 0
  stays_so v names new puts = ap (λ (l : List Node). ordered_tree l 0) (puts d shown).0

  pub drops_setting : (names : List (List ℕ)) (new : List Node) (done : Bool) → DropsWhatShown names ns new done → DropsSetting o names ns new
  drops_setting names new done drops = record { one = one; done = done; drops = drops d shown }

  -- for what allocation failed
  looks_up : (names : List (List ℕ)) → PassesEscaped First d ns names → LooksUpEscaped o (printed (ordered_tree ns 0)) names
  looks_up names passes = record { nodes = ns; reads = refl; one = one; passes = passes }

  for_something : (names : List (List ℕ)) → PassesEscaped First d ns names ⊎ SomethingAt d.value names → IsForSomething o (printed (ordered_tree ns 0)) names
  for_something names (inl passes) = inl (looks_up names passes)
  for_something names (inr something) = inr (text.0, text.1, something)

  for_putting : (names : List (List ℕ)) → PassesEscaped First d ns names ⊎ ¬ (MustStay Keep d.value names) → IsForPutting o (printed (ordered_tree ns 0)) names
  for_putting names (inl passes) = inl (looks_up names passes)
  for_putting names (inr free) = inr (text.0, text.1, λ stands. free (refl, stands))

  pub refused_putting : (A : Type 0) (names : List (List ℕ)) (v : Plain) (e : EditError) → FailsToPut ns names v e → (e ≡ OutOfMemory → WantsToPut First Keep ns names) → EndsPutting {A = A} o (printed (ordered_tree ns 0)) names v (Edit e)
  refused_putting A names v OutOfMemory told wants = for_putting names (wants refl d shown)
  refused_putting A names v NestingDepthExceeded told wants = told d shown
  refused_putting A names v e told wants = absurd (told d shown)

  pub memory_dropping : (A : Type 0) (names : List (List ℕ)) (e : EditError) → WantsMemory ns e → WantsForSomething ns names → EndsDropping {A = A} o (printed (ordered_tree ns 0)) names (Edit e)
  memory_dropping A names e told wants = subst (λ (x : EditError). EndsDropping {A = A} o (printed (ordered_tree ns 0)) names (Edit x)) (sym (told d shown)) (for_something names (wants d shown))

  pub memory_getting : (A : Type 0) (names : List (List ℕ)) (e : EditError) → e ≡ OutOfMemory → WantsToLookUp First ns names → EndsGetting {A = A} o (printed (ordered_tree ns 0)) names (Edit e)
  memory_getting A names e is wants = subst (λ (x : EditError). EndsGetting {A = A} o (printed (ordered_tree ns 0)) names (Edit x)) (sym is) (inl (looks_up names (wants d shown)))

module _ {A : Type 0} (o : Options) (doc : CstRootNode A) (sound : SoundTree o (tree_of doc)) (names : List (List ℕ)) where
  pub nothing_there : FindsWhatShown doc names None → HasNothingAt o (printed (tree_of doc)) names
  nothing_there finds =
      let t = text o (nodes_of doc) sound in
      (t.0, t.1, finds (d o (nodes_of doc) sound) (shown o (nodes_of doc) sound))

  pub shown_there : (node : CstNode) (output : List ℕ) → FindsWhatShown doc names (Some node) → output ≡ printed (ordered_tree (nodes_of doc) (number_of node)) ++ 0x0A ∷ [] → IsShownAt o names (nodes_of doc) output
  shown_there node output finds prints = record {
    one = one o (nodes_of doc) sound;
    node = number_of node;
    there = finds (d o (nodes_of doc) sound) (shown o (nodes_of doc) sound);
    prints = prints;
  }

  pub memory_showing : (node : CstNode) → FindsWhatShown doc names (Some node) → EndsGetting {A = A} o (printed (tree_of doc)) names (Edit OutOfMemory)
  memory_showing node finds =
      let t = text o (nodes_of doc) sound in
      let w = finds (d o (nodes_of doc) sound) (shown o (nodes_of doc) sound) in
      inr (t.0, t.1, (w.v, w.there))
