-- What a patch made of the document of the input that was read.
use Rattle.std.proofs.Common.{◌≡◌, ◌≢◌, ◌∙◌, ◌⊎◌, ◌≤◌, ℕ, List, [], String, ap, chars, inl, inr, length, refl, subst, sym}
use Rattle.std.proofs.lemmas.List.Elements.{All-take}
use Rattle.std.specs.List.{All}
use Rattle.jsonc_text.specs.Documents.{Document}
use Rattle.jsonc_text.specs.Grammar.{IsDocument}
use Rattle.jsonc_text.specs.Options.{Options}
use Rattle.jsonc_text.specs.Plain.{Plain, Items, Members}
use Rattle.jsonc_edit.specs.Writing.{IsOfNumbers}
use Rattle.jsonc_layout.specs.input.Views.{chars_of}
use Rattle.jsonc_sound.specs.Documents.{Shows, ShowsText}
use Rattle.jsonc_sound.specs.Shape.{printed_text}
use Rattle.jsonc_sound.specs.SoundTrees.{SoundTree}
use Rattle.jsonc_edit.proofs.SoundValues.{prints_value}
use Rattle.jsonc_cst.specs.declared.cst.CstRootNode.{CstRootNode}
use Rattle.jsonc_cst.specs.Document.{nodes_of, printed_of, tree_of, HasNoDeeperValue, IsWithin}
use Rattle.jsonc_text.specs.declared.edit.EditError.TheVariants.{NestingDepthExceeded, OutOfMemory}
use Rattle.jsonc_insert.specs.named.Members.{LacksMember, other_name, IsFirstMember, first_is, first_later}
use Rattle.jsonc_parser.specs.patch.Applied.{FailsWhatShown, IsPatched, IsStopped, PatchesWhatShown, StopsWhatShown}
use Rattle.jsonc_parser.specs.patch.Asked.{asked, FitsIn}
use Rattle.jsonc_parser.specs.patch.Equality.{HasMember, this_has, later_has, HasUniqueNames, ItemsHaveUniqueNames, MembersHaveUniqueNames, unique_array, unique_object, unique_item, unique_member}
use Rattle.jsonc_parser.specs.patch.Merged.{IsMerged, MergesWhatShown, MergeStopsWhatShown}
use Rattle.jsonc_parser.specs.patch.Merging.{Stops}
use Rattle.jsonc_parser.specs.patch.PatchFaults.{RepeatsName, repeats_here, repeats_in_member, repeats_in_element}
use Rattle.jsonc_parser.specs.patch.Within.{none_made, one_made, FailsWithin, StaysWithin, StopsWithin}
use Rattle.jsonc_parser.proofs.lemmas.patch.Within.{patches_within}
use Rattle.jsonc_parser.specs.declared.patch.making.PatchCause.{PatchCause}
use Rattle.jsonc_parser.specs.patch.References.{IsItem, this_item, later_item, IsRepeated, this_again, later_again}
use Rattle.jsonc_parser.specs.declared.patch.apply.PatchFault.{PatchFault}
use Rattle.jsonc_parser.specs.declared.patch.making.PatchCause.TheVariants as cause
use Rattle.jsonc_parser.specs.declared.patch.merging.MergeFault.TheVariants as merging
use Rattle.jsonc_parser.specs.declared.patch.operation.Operation.{Operation}
use Rattle.jsonc_engine.specs.Command.{merge, patch as patching}
use Rattle.jsonc_engine.specs.Fault.{IsFaultOn}
use Rattle.jsonc_engine.specs.Input.{IsInputOf}
use Rattle.jsonc_engine.specs.Patched.{GrowsBeyond, IsApplied, IsMergedInto, IsMergePatchOf, IsNotForMemory, IsOne, IsPatchOf, IsTextOf, IsToldFor, MeetsTwice, OfDocument, StopsOn}
use Rattle.jsonc_engine.proofs.Finding.{shows_text}
use Rattle.jsonc_engine.proofs.Nesting.{accepts}
use Rattle.jsonc_engine.specs.declared.fault.Fault.{Fault}
use Rattle.jsonc_engine.specs.declared.fault.Fault.TheVariants as told

first_lacks : {name : List ℕ} {i : ℕ} {ms : Members} → IsFirstMember name i ms → LacksMember name ms → ⊥
first_lacks first_is (other_name ne l) = ne refl
first_lacks (first_later ne f) (other_name other l) = first_lacks f l

-- where no name stands twice, none does
repeated_not : {name : List ℕ} (ms : Members) → MembersHaveUniqueNames ms → IsRepeated name ms → ⊥
repeated_not Members.no_members h r = elim r [ ]
repeated_not (Members.member n v ms) (unique_member lacks h k) (this_again first) = first_lacks first lacks
repeated_not (Members.member n v ms) (unique_member lacks h k) (later_again ne r) = repeated_not ms k r

mutual
  pub no_repeat : {name : List ℕ} (p : Plain) → HasUniqueNames p → RepeatsName name p → ⊥
  no_repeat Plain.null h r = elim r [ ]
  no_repeat (Plain.boolean b) h r = elim r [ ]
  no_repeat (Plain.number s) h r = elim r [ ]
  no_repeat (Plain.string s) h r = elim r [ ]
  no_repeat (Plain.object ms) (unique_object h) (repeats_here r) = repeated_not ms h r
  no_repeat (Plain.object ms) (unique_object h) (repeats_in_member m r) = no_repeat_in ms h m r
  no_repeat (Plain.array vs) (unique_array h) (repeats_in_element i r) = no_repeat_at vs h i r

  no_repeat_in : {name n : List ℕ} {v : Plain} (ms : Members) → MembersHaveUniqueNames ms → HasMember n v ms → RepeatsName name v → ⊥
  no_repeat_in Members.no_members h m r = elim m [ ]
  no_repeat_in (Members.member n v ms) (unique_member lacks h k) this_has r = no_repeat v h r
  no_repeat_in (Members.member n v ms) (unique_member lacks h k) (later_has m) r = no_repeat_in ms k m r

  no_repeat_at : {name : List ℕ} {i : ℕ} {v : Plain} (vs : Items) → ItemsHaveUniqueNames vs → IsItem v i vs → RepeatsName name v → ⊥
  no_repeat_at Items.no_items h i r = elim i [ ]
  no_repeat_at (Items.item v vs) (unique_item h k) this_item r = no_repeat v h r
  no_repeat_at (Items.item v vs) (unique_item h k) (later_item i) r = no_repeat_at vs k i r

module _ {A : Type 0} (most : ℕ) where
  -- the last document has at most so many bytes
  ends_after : {mid new : CstRootNode A} {ops : List (Operation A)} → StaysWithin most mid ops new → length (printed_of mid) ≤ most → length (printed_of new) ≤ most
  ends_after none_made small = small
  ends_after (one_made first less more) small = ends_after more less

  ends_within : {old new : CstRootNode A} {ops : List (Operation A)} → StaysWithin most old ops new → ops ≢ [] → length (printed_of new) ≤ most
  ends_within none_made some = absurd (some refl)
  ends_within (one_made first less more) some = ends_after more less

  -- an operation that is not made under a bound, for another cause than that, is not made without
  fails_alike : (old : CstRootNode A) (o : Operation A) (c : PatchCause A) → FailsWithin most old o c → c ≢ cause.TooLarge → FailsWhatShown old (asked o) c
  fails_alike old o cause.TooLarge fails other = absurd (other refl)
  fails_alike old o cause.NoTarget fails other = fails
  fails_alike old o (cause.RepeatedName name) fails other = fails
  fails_alike old o cause.IntoItself fails other = fails
  fails_alike old o cause.NotEqual fails other = fails
  fails_alike old o (cause.Edit why) fails other = fails

  stops_anyhow : (old : CstRootNode A) (ops : List (Operation A)) (fault : PatchFault A) → StopsWithin most old ops fault → fault.cause ≢ cause.TooLarge → StopsWhatShown old ops fault
  stops_anyhow old ops fault h other = λ d shown fit.
      let e = patches_within most h.before d shown fit in
      record {
        next = h.next;
        is_next = h.is_next;
        value = e.0.value;
        made = e.2.made;
        cause = fails_alike h.reached h.next fault.cause h.cause other e.0 e.1;
      }

module _ {A : Type 0} (o : Options) (doc : CstRootNode A) (sound : SoundTree o (tree_of doc)) where
  abbrev input : List ℕ
  input = printed_of doc

  shows : ShowsText o (chars input) (tree_of doc)
  shows = shows_text o doc sound

  of_it : (is_so : Document → Type 0) → is_so shows.0 → OfDocument o input is_so
  of_it is_so h = record { document = shows.0; options = shows.1; text = shows.2; so = h }

  -- the input is a document
  is_one : IsOne o input
  is_one =
      let s = shows.3 in
      let says : IsDocument shows.0.options (printed_text (tree_of doc)) shows.0.value = prints_value shows.0.options (tree_of doc) shows.0.value s.sound s.value in
      (shows.0.value, subst (λ (p : Options). IsDocument p (printed_text (tree_of doc)) shows.0.value) shows.1 says)

  -- it is within the depth, and a text of a document that stays so is accepted
  module _ (small : HasNoDeeperValue o input) where
    within_old : IsWithin shows.0.value
    unfolding shows is_one
    within_old = let one = is_one in small one.0 one.1

    text_of_new : (new : CstRootNode A) (is_so : Document → Type 0) (e : Document) → Shows e (tree_of new) → is_so e → e.options ≡ shows.0.options → (IsWithin shows.0.value → IsWithin e.value)
        → IsTextOf o (printed_of new) is_so
    text_of_new new is_so e s h options stays =
        let is : IsInputOf o (printed_of new) = accepts o (nodes_of new) (record { e = e; shown = s; options = options ∙ shows.1; within = stays within_old }) in
        record { document = e; bytes = is.utf8; text = ap (λ d. d.text) s.is; so = h; accepted = is }

  module _ (words : List ℕ) (ops : List (Operation A)) (patch : IsPatchOf o words ops) where
    fits : All (FitsIn shows.0.options) ops
    fits = subst (λ o. All (FitsIn o) ops) (sym shows.1) patch.1

    pub applied : HasNoDeeperValue o input → (most : ℕ) (new : CstRootNode A) → PatchesWhatShown doc ops new → StaysWithin most doc ops new → IsApplied A o words most input (printed_of new)
    applied small most new h within =
        let e = h shows.0 shows.3 fits in
        record {
          operations = ops;
          patch = patch.0;
          made = of_it _ (text_of_new small new (λ e. IsPatched shows.0 ops e) e.0 e.1 e.2 e.2.options e.2.within);
          within = λ some. ends_within most within some;
        }

    stopped : (fault : PatchFault A) → StopsWhatShown doc ops fault → IsNotForMemory fault → StopsOn o words input fault
    stopped fault h another =
        let fit = All-take (FitsIn shows.0.options) fault.operation ops fits in
        record { operations = ops; patch = patch.0; stopped = of_it (λ d. IsStopped d ops fault) (h shows.0 shows.3 fit); cause = another }

    grown : (most : ℕ) (fault : PatchFault A) (operation : ℕ) → StopsWithin most doc ops fault → fault ≡ record { operation = operation; cause = cause.TooLarge } → GrowsBeyond A o words most input operation
    grown most fault operation h is = record {
      operations = ops;
      patch = patch.0;
      grown = of_it _ (doc, shows.3, subst (StopsWithin most doc ops) is h);
    }

    module _ (most : ℕ) where
      pub told_of : (fault : PatchFault A) (f : Fault A) → StopsWithin most doc ops fault → IsToldFor most fault f → IsFaultOn o (patching words most) input f
      told_of fault (told.Operation g) h t = subst (λ x. StopsOn o words input x) (sym t.0) (stopped fault (stops_anyhow most doc ops fault h t.2) t.1)
      told_of fault (told.TooLarge operation bytes) h t = (t.0, grown most fault operation h t.1)
      told_of fault (told.Edit OutOfMemory) h t = is_one
      told_of fault _ h t = absurd t

  module _ (words : List ℕ) (p : Plain) (patch : IsMergePatchOf o words p) where
    numbers : IsOfNumbers shows.0.options p
    numbers = subst (λ o. IsOfNumbers o p) (sym shows.1) patch.1

    pub merged : HasNoDeeperValue o input → (new : CstRootNode A) → MergesWhatShown doc p new → IsMergedInto o words input (printed_of new)
    merged small new h =
        let e = h shows.0 shows.3 numbers in
        record { value = p; patch = patch.0; made = of_it _ (text_of_new small new (λ e. IsMerged shows.0 p e) e.0 e.1 e.2 e.2.options e.2.within) }

    pub met_twice : (name : String A) → MergeStopsWhatShown doc p (merging.RepeatedName name) → IsFaultOn {A = A} o (merge words) input (told.RepeatedName name)
    met_twice name h = go (h shows.0 shows.3 numbers)
      where
        go : RepeatsName (chars_of name) p ⊎ Stops (chars_of name) [] p shows.0.value → MeetsTwice o words input (chars_of name)
        go (inl r) = absurd (no_repeat p patch.0.1 r)
        go (inr s) = record { value = p; patch = patch.0; stops = of_it _ s }

    pub merge_deep : IsFaultOn {A = A} o (merge words) input (told.Edit NestingDepthExceeded)
    merge_deep = is_one

    pub merge_memory : IsFaultOn {A = A} o (merge words) input (told.Edit OutOfMemory)
    merge_memory = is_one
