-- Steps of a merge, one after another, in a document that a tree shows.
use Rattle.std.proofs.Common.{ℕ, zero, suc, ◌≡◌, ◌≢◌, ◌<◌, ◌≤◌, ◌+◌, ◌*◌, ◌∙◌, ◌++◌, ◌⊎◌, inl, inr, sym, ap, subst, refl, Bool, true, false, List, [], ◌∷◌, length, take, drop, map, get_or, Option, Some, None, is_some, arith}
use denote.Param.Weighed.{most, at_most}
use Rattle.std.specs.Bool.{Decides}
use Rattle.std.proofs.lemmas.Bool.{false≢true, true≢false}
use Rattle.std.proofs.lemmas.List.{take-append-drop, take_all, take_more}
use Rattle.std.specs.declared.string.String.{String}
use Rattle.jsonc_text.specs.Documents.{Document}
use Rattle.jsonc_text.specs.Options.{Options}
use Rattle.jsonc_text.specs.Plain.{Plain, null, object, collapse, Members, no_members, member}
use Rattle.jsonc_tree.specs.Content as content
use Rattle.jsonc_tree.specs.OrderedTree.{ordered_tree}
use Rattle.jsonc_tree.specs.Tree.{content_at, IsTree}
use Rattle.jsonc_edit.specs.Changes.{row_below, top_at}
use Rattle.jsonc_edit.specs.Writing.{IsOfNumbers, AreNamedOfNumbers}
use Rattle.jsonc_layout.specs.declared.input.value.CstInputValue.{CstInputValue}
use Rattle.jsonc_layout.specs.input.Views.{chars_of, members_plain, plain}
use Rattle.jsonc_sound.specs.Documents.{Shows}
use Rattle.jsonc_sound.specs.Sound.{HasValue}
use Rattle.jsonc_run.specs.texts.Entries.{members, Named}
use Rattle.jsonc_cst.specs.declared.cst.CstRootNode.{CstRootNode}
use Rattle.jsonc_cst.specs.declared.cst.node.CstNode.{CstNode}
use Rattle.jsonc_cst.specs.declared.cst.node.CstObject.{CstObject}
use Rattle.jsonc_cst.specs.Document.{nodes_of, tree_of, HasNode}
use Rattle.jsonc_cst.specs.Nodes.{number_of, object_node, IsAs}
use Rattle.jsonc_parser.specs.paths.Found.{names_of}
use Rattle.jsonc_parser.specs.patch.Applied.{FailsWhatShown, HasCause, IsCause, IsMade, MakesWhatShown}
use Rattle.jsonc_parser.specs.patch.Equality.{AreEqual, HasUniqueNames}
use Rattle.jsonc_parser.specs.patch.Failing.{ReferToNothing}
use Rattle.jsonc_parser.specs.patch.Found.{FindFails, Finds, IsOfShown, ReadFails, Reads, RefersToNode, RefersToNothing}
use Rattle.jsonc_parser.specs.patch.Merged.{IsMergeFault, MembersMergeIn, MergesIn, MergesWhatShown, MergeStopsWhatShown}
use Rattle.jsonc_parser.specs.patch.MergeSteps.{at_root, Drops, FailsToMerge, FailsToMergeAll, FailsToSet, HasNameTwice, IsMergeCause, IsPlace, IsReached, IsReportedAs, IsStop, IsTwice, MergesNamed, ReachesWhatShown, RefersToObject, Sets}
use Rattle.jsonc_parser.specs.patch.Merging.{inside, made_of, members_made, GoesInto, IsThere, MembersMerge, Stops}
use Rattle.jsonc_parser.specs.patch.Merging as merging
use Rattle.jsonc_parser.specs.patch.Operations as value
use Rattle.jsonc_parser.specs.patch.References.{FailsAt, Refers, RefersTo}
use Rattle.jsonc_parser.specs.declared.patch.making.PatchCause.{PatchCause}
use Rattle.jsonc_parser.specs.declared.patch.making.PatchCause.TheVariants as causes
use Rattle.jsonc_parser.specs.declared.patch.merging.MergeFault.{MergeFault}
use Rattle.jsonc_parser.specs.declared.patch.merging.MergeFault.TheVariants as fault
use Rattle.jsonc_parser.specs.declared.patch.reference.FindError.{FindError}
use Rattle.jsonc_parser.specs.declared.patch.reference.FindError.TheVariants as errors
use Rattle.jsonc_text.specs.declared.edit.EditError.TheVariants.{NestingDepthExceeded, OutOfMemory}
use Rattle.jsonc_parser.proofs.lemmas.patch.Evaluation.{refers_to_one}
use Rattle.jsonc_parser.proofs.lemmas.patch.Exclusive.{fails_whole}
use Rattle.jsonc_parser.proofs.lemmas.patch.Merges.{and_none, and_then, goes_nowhere, has_place, is_put, made_then, members_merge_value_of, merge_more, merges_value_of, named_member, no_object_there, nothing_there, number_made, numbers_before, numbers_behind, one_kept, one_left_out, place_after, stands_there, stops_at, there_told}
use Rattle.jsonc_parser.proofs.lemmas.patch.Nodes.{its, object_content}
use Rattle.jsonc_parser.proofs.lemmas.patch.Steps.{no_object_by, object_by}

-- a lead to other documents, and nothing at all
module _ {A : Type 0} (old new : CstRootNode A) where
  pub reached_as : (Fit Other : Options → Type 0) (Leads More : Document → Document → Type 0) → ReachesWhatShown old Fit Leads new → ((o : Options) → Other o → Fit o) → ((d : Document) → Shows d (tree_of old) → (e : Document) → Leads d e → More d e)
      → ReachesWhatShown old Other More new
  reached_as Fit Other Leads More reached fits leads d shown fit =
      let r = reached d shown (fits d.options fit) in (r.0, r.1, record { options = r.2.options; leads = leads d shown r.0 r.2.leads; within = r.2.within })

  pub reached_same : (Fit : Options → Type 0) (Leads : Document → Document → Type 0) → tree_of new ≡ tree_of old → ((d : Document) → Shows d (tree_of old) → Leads d d) → ReachesWhatShown old Fit Leads new
  reached_same Fit Leads same leads d shown fit = (d, subst (Shows d) (sym same) shown, record { options = refl; leads = leads d shown; within = λ h. h })

  pub reached_by : (operation : value.Operation) (Fit Other : Options → Type 0) (Leads : Document → Document → Type 0) → MakesWhatShown old operation Fit new → ((o : Options) → Other o → Fit o)
      → ((d : Document) → Shows d (tree_of old) → (e : Document) → IsMade operation d e → Leads d e) → ReachesWhatShown old Other Leads new
  reached_by operation Fit Other Leads made fits leads d shown fit =
      let m = made d shown (fits d.options fit) in (m.0, m.1, record { options = m.2.options; leads = leads d shown m.0 m.2; within = m.2.within })

  pub merges_shown : (p : Plain) → ReachesWhatShown old (λ o. IsOfNumbers o p) (MergesIn [] p) new → MergesWhatShown old p new
  merges_shown p reached d shown fit = let r = reached d shown fit in (r.0, r.1, record { steps = r.2.leads; options = r.2.options; merged = merges_value_of r.2.leads; within = r.2.within })

-- so many members are merged
module _ {A : Type 0} where
  abbrev pub entry_of : String A × CstInputValue A → Named
  entry_of q = record { name = chars_of q.0; value = plain q.1 }

  pub as_entries : (ps : List (String A × CstInputValue A)) → members (map entry_of ps) ≡ members_plain ps
  as_entries [] = refl
  as_entries (p ∷ ps) = ap (member (chars_of p.0) (plain p.1)) (as_entries ps)

  pub plain_then : (ps qs : List (String A × CstInputValue A)) → members_plain (ps ++ qs) ≡ and_then (members_plain ps) (members_plain qs)
  plain_then [] qs = refl
  plain_then (p ∷ ps) qs = ap (member (chars_of p.0) (plain p.1)) (plain_then ps qs)

  pub plain_more : (ps : List (String A × CstInputValue A)) (k : ℕ) (q : String A × CstInputValue A) → k < length ps → q ≡ get_or ps k q
      → members_plain (take (k + 1) ps) ≡ and_then (members_plain (take k ps)) (member (chars_of q.0) (plain q.1) no_members)
  plain_more ps k q h is =
      ap (λ (l : List (String A × CstInputValue A)). members_plain l) (take_more ps k q h) ∙ plain_then (take k ps) (get_or ps k q ∷ []) ∙ ap (λ (x : String A × CstInputValue A). and_then (members_plain (take k ps)) (member (chars_of x.0) (plain x.1) no_members)) (sym is)

  -- one more is left out of what merging makes, or is in it
  module _ (ps : List (String A × CstInputValue A)) (k : ℕ) (q : String A × CstInputValue A) (h : k < length ps) (is : q ≡ get_or ps k q) where
    made_apart : members_made (members_plain (take (k + 1) ps)) ≡ and_then (members_made (members_plain (take k ps))) (members_made (member (chars_of q.0) (plain q.1) no_members))
    made_apart = ap members_made (plain_more ps k q h is) ∙ made_then (members_plain (take k ps)) (member (chars_of q.0) (plain q.1) no_members)

    pub made_less : (made : List (String A × CstInputValue A)) → members_plain made ≡ members_made (members_plain (take k ps)) → plain q.1 ≡ null → members_plain made ≡ members_made (members_plain (take (k + 1) ps))
    made_less made so_far none =
        so_far ∙ sym (made_apart ∙ ap (λ ms. and_then (members_made (members_plain (take k ps))) ms) (one_left_out (chars_of q.0) (plain q.1) none) ∙ and_none (members_made (members_plain (take k ps))))

    pub made_more : (made new : List (String A × CstInputValue A)) (r : String A × CstInputValue A) → members_plain made ≡ members_made (members_plain (take k ps)) → plain q.1 ≢ null → chars_of r.0 ≡ chars_of q.0 → plain r.1 ≡ made_of (plain q.1)
        → new ≡ made ++ r ∷ [] → members_plain new ≡ members_made (members_plain (take (k + 1) ps))
    made_more made new r so_far some name value pushed =
        ap (λ (l : List (String A × CstInputValue A)). members_plain l) pushed ∙ plain_then made (r ∷ []) ∙ (λ i. and_then (so_far i) (member (name i) (value i) no_members))
        ∙ sym (made_apart ∙ ap (λ ms. and_then (members_made (members_plain (take k ps))) ms) (one_kept (chars_of q.0) (plain q.1) some))

  -- the list about one of its pairs
  about : (ps : List (String A × CstInputValue A)) (k : ℕ) (q : String A × CstInputValue A) → k < length ps → q ≡ get_or ps k q → ps ≡ take k ps ++ q ∷ drop (suc k) ps
  about [] k q h is = absurd (omega (arith, h))
  about (p ∷ ps) zero q h is = ap (λ x. x ∷ ps) (sym is)
  about (p ∷ ps) (suc k) q h is = ap (λ l. p ∷ l) (about ps k q (omega (arith, h)) is)

  entries_about : (ps qs : List (String A × CstInputValue A)) (q : String A × CstInputValue A) → members (map entry_of ps ++ entry_of q ∷ map entry_of qs) ≡ members_plain (ps ++ q ∷ qs)
  entries_about [] qs q = ap (member (chars_of q.0) (plain q.1)) (as_entries qs)
  entries_about (p ∷ ps) qs q = ap (member (chars_of p.0) (plain p.1)) (entries_about ps qs q)

  module _ (old : CstRootNode A) (tokens : List (List ℕ)) (ps : List (String A × CstInputValue A)) where
    abbrev pub MergedSoFar : ℕ → CstRootNode A → Type 0
    MergedSoFar k now = ReachesWhatShown old (λ o. AreNamedOfNumbers o (members_plain (take k ps))) (MembersMergeIn tokens (members_plain (take k ps))) now

    pub merged_none : MergedSoFar 0 old
    merged_none = reached_same old old (λ o. AreNamedOfNumbers o no_members) (MembersMergeIn tokens no_members) refl (λ d shown. merging.no_more)

    pub merged_all : (k : ℕ) (now : CstRootNode A) → length ps ≤ k → MergedSoFar k now → ReachesWhatShown old (λ o. AreNamedOfNumbers o (members_plain ps)) (MembersMergeIn tokens (members_plain ps)) now
    merged_all k now h so_far = subst (λ (l : List (String A × CstInputValue A)). ReachesWhatShown old (λ o. AreNamedOfNumbers o (members_plain l)) (MembersMergeIn tokens (members_plain l)) now) (take_all k ps h) so_far

    module _ (k : ℕ) (now : CstRootNode A) (so_far : MergedSoFar k now) (q : String A × CstInputValue A) (h : k < length ps) (is : q ≡ get_or ps k q) where
      abbrev one : Members
      one = member (chars_of q.0) (plain q.1) no_members

      pub merged_more : (new : CstRootNode A) → ReachesWhatShown now (λ o. IsOfNumbers o (plain q.1)) (MembersMergeIn tokens one) new → MergedSoFar (k + 1) new
      merged_more new step d shown fit =
          let more = plain_more ps k q h is in
          let all : AreNamedOfNumbers d.options (and_then (members_plain (take k ps)) one) = subst (AreNamedOfNumbers d.options) more fit in
          let f = so_far d shown (numbers_before d.options (members_plain (take k ps)) one all) in
          let last : IsOfNumbers d.options (plain q.1) = (numbers_behind d.options (members_plain (take k ps)) one all).0 in
          let s = step f.0 f.1 (subst (λ o. IsOfNumbers o (plain q.1)) (sym f.2.options) last) in (
            s.0,
            s.1,
            record {
              within = λ h. s.2.within (f.2.within h);
              options = s.2.options ∙ f.2.options;
              leads = subst (λ ms. MembersMergeIn tokens ms d s.0) (sym more) (merge_more one f.2.leads s.2.leads);
            },
          )

      whole : members (map entry_of (take k ps) ++ entry_of q ∷ map entry_of (drop (suc k) ps)) ≡ members_plain ps
      whole = entries_about (take k ps) (drop (suc k) ps) q ∙ ap (λ (l : List (String A × CstInputValue A)). members_plain l) (sym (about ps k q h is))

      numbers_there : (o : Options) → AreNamedOfNumbers o (members_plain ps) → AreNamedOfNumbers o (members_plain (take k ps)) × IsOfNumbers o (plain q.1)
      numbers_there o all =
          let split : members_plain ps ≡ and_then (members_plain (take k ps)) (members_plain (q ∷ drop (suc k) ps)) = ap (λ (l : List (String A × CstInputValue A)). members_plain l) (about ps k q h is) ∙ plain_then (take k ps) (q ∷ drop (suc k) ps) in
          let parts : AreNamedOfNumbers o (and_then (members_plain (take k ps)) (members_plain (q ∷ drop (suc k) ps))) = subst (AreNamedOfNumbers o) split all in
          (numbers_before o (members_plain (take k ps)) (members_plain (q ∷ drop (suc k) ps)) parts, (numbers_behind o (members_plain (take k ps)) (members_plain (q ∷ drop (suc k) ps)) parts).0)

      -- the next stops
      pub stopped_there : (cause : PatchCause A) → FailsToMerge now (tokens ++ chars_of q.0 ∷ []) (plain q.1) cause → FailsToMergeAll old tokens (members_plain ps) cause
      stopped_there cause fails d shown fit o =
          (let n = numbers_there d.options fit in
          let f = so_far d shown n.0 in
          let m : MembersMerge tokens (members (map entry_of (take k ps))) d.value f.0.value = subst (λ ms. MembersMerge tokens ms d.value f.0.value) (sym (as_entries (take k ps))) (members_merge_value_of f.2.leads) in
          let place : IsPlace f.0.value (tokens ++ chars_of q.0 ∷ []) = place_after [] tokens (map entry_of (take k ps)) (map entry_of (drop (suc k) ps)) (entry_of q) d.value f.0.value o m in
          go cause f.0.value m (fails f.0 f.1 (subst (λ p. IsOfNumbers p (plain q.1)) (sym f.2.options) n.1) place))
        where
          go : (cause : PatchCause A) (u : Option Plain) → MembersMerge tokens (members (map entry_of (take k ps))) d.value u → IsMergeCause (tokens ++ chars_of q.0 ∷ []) (plain q.1) u cause → IsStop tokens (object (members_plain ps)) d.value cause
          go (causes.RepeatedName name) u m is = subst (λ ms. Stops (chars_of name) tokens (object ms) d.value) whole (stops_at (chars_of name) tokens (map entry_of (take k ps)) (map entry_of (drop (suc k) ps)) (entry_of q) d.value u o m is)
          go (causes.Edit why) u m is = is
          go causes.NoTarget u m is = absurd is
          go causes.IntoItself u m is = absurd is
          go causes.NotEqual u m is = absurd is
          go causes.TooLarge u m is = absurd is

-- causes
module _ {A : Type 0} where
  pub twice_stops : (tokens : List (List ℕ)) (p : Plain) (w : Option Plain) (cause : PatchCause A) → IsTwice w tokens cause → IsMergeCause tokens p w cause
  twice_stops tokens p w (causes.RepeatedName name) is = inl is
  twice_stops tokens p w (causes.Edit why) is = is
  twice_stops tokens p w causes.NoTarget is = absurd is
  twice_stops tokens p w causes.IntoItself is = absurd is
  twice_stops tokens p w causes.NotEqual is = absurd is
  twice_stops tokens p w causes.TooLarge is = absurd is

  pub stop_inside : (tokens : List (List ℕ)) (p : Plain) (w : Option Plain) (cause : PatchCause A) → IsStop tokens p w cause → IsMergeCause tokens p w cause
  stop_inside tokens p w (causes.RepeatedName name) is = inr is
  stop_inside tokens p w (causes.Edit why) is = is
  stop_inside tokens p w causes.NoTarget is = absurd is
  stop_inside tokens p w causes.IntoItself is = absurd is
  stop_inside tokens p w causes.NotEqual is = absurd is
  stop_inside tokens p w causes.TooLarge is = absurd is

  pub set_not : (doc : CstRootNode A) (tokens : List (List ℕ)) (p : Plain) (cause : PatchCause A) → FailsToSet doc tokens cause → FailsToMerge doc tokens p cause
  set_not doc tokens p cause fails d shown fit place = twice_stops tokens p d.value cause (fails d shown place)

  pub twice_not : (doc : CstRootNode A) (tokens : List (List ℕ)) (p : Plain) (cause : PatchCause A) → IsOfShown doc (λ d. IsTwice d.value tokens cause) → FailsToMerge doc tokens p cause
  twice_not doc tokens p cause fails d shown fit place = twice_stops tokens p d.value cause (fails d shown)

  -- evaluation that failed
  module _ (doc : CstRootNode A) (tokens : List (List ℕ)) where
    pub found_twice : (e : FindError A) (c : PatchCause A) → HasCause e c → IsOfShown doc (λ d. FindFails d doc tokens e) → IsOfShown doc (λ d. IsTwice d.value tokens c)
    found_twice (errors.RepeatedName name) c is fails d shown = subst (IsTwice d.value tokens) (sym is) (fails d shown)
    found_twice errors.OutOfMemory c is fails d shown = subst (IsTwice d.value tokens) (sym is) tt

    pub read_twice : (e : FindError A) (c : PatchCause A) → HasCause e c → IsOfShown doc (λ d. ReadFails d doc tokens e) → IsOfShown doc (λ d. IsTwice d.value tokens c)
    read_twice (errors.RepeatedName name) c is fails d shown = subst (IsTwice d.value tokens) (sym is) (fails d shown)
    read_twice errors.OutOfMemory c is fails d shown = subst (IsTwice d.value tokens) (sym is) tt

    -- what is added has a place
    pub added_not : (v : Plain) (c : PatchCause A) → FailsWhatShown doc (value.add tokens v) c → FailsToSet doc tokens c
    added_not v (causes.RepeatedName name) fails d shown place = fails d shown
    added_not v (causes.Edit why) fails d shown place = fails d shown
    added_not v causes.NoTarget fails d shown place = has_place d.value tokens place (fails d shown)
    added_not v causes.IntoItself fails d shown place = fails d shown
    added_not v causes.NotEqual fails d shown place = fails d shown
    added_not v causes.TooLarge fails d shown place = fails d shown

    pub removed_not : (c : PatchCause A) → (c ≡ causes.NoTarget → ⊥) → FailsWhatShown doc (value.remove tokens) c → IsOfShown doc (λ d. IsTwice d.value tokens c)
    removed_not (causes.RepeatedName name) other fails d shown = fails d shown
    removed_not (causes.Edit why) other fails d shown = fails d shown
    removed_not causes.NoTarget other fails d shown = absurd (other refl)
    removed_not causes.IntoItself other fails d shown = fails d shown
    removed_not causes.NotEqual other fails d shown = fails d shown
    removed_not causes.TooLarge other fails d shown = fails d shown

    -- whether they refer to an object
    pub no_node : IsOfShown doc (λ d. Finds d doc tokens None) → IsOfShown doc (λ d. Decides false (RefersToObject d.value tokens))
    no_node none d shown = no_object_there tokens d.value (none d shown).nothing

    pub none_read : (v : Plain) → IsOfShown doc (λ d. Reads {A = A} d tokens None) → IsOfShown doc (λ d. Decides false (IsThere v tokens d.value))
    none_read v none d shown = nothing_there v tokens d.value (none d shown).nothing

    pub one_read : (v : Plain) (taken : CstInputValue A) (b : Bool) → IsOfShown doc (λ d. Reads d tokens (Some taken)) → (HasUniqueNames (plain taken) → Decides b (AreEqual (λ s t. s ≡ t) v (plain taken))) → IsOfShown doc (λ d. Decides b (IsThere v tokens d.value))
    one_read v taken b read reported d shown = let r = read d shown in there_told v (plain taken) tokens d.value b r.0 r.1 r.2 reported

  module _ (doc : CstRootNode A) (tree : IsTree (nodes_of doc)) (tokens : List (List ℕ)) (node : CstNode) (held : HasNode doc node) (o : Option CstObject) (as_object : IsAs object_node node o) where
    pub object_told : (b : Bool) → b ≡ is_some o → IsOfShown doc (λ d. Finds d doc tokens (Some node)) → IsOfShown doc (λ d. Decides b (RefersToObject d.value tokens))
    object_told true is found d shown =
        let w = found d shown in
        let kind = object_by doc tree node held o as_object (sym is) in
        let m = its d (nodes_of doc) tree shown tokens (number_of node) w [] kind in
        (λ e. (m.0, (w.value, w.is, w.path, subst (λ x. Refers w.value tokens w.path x) m.1 w.refers)), λ h. refl)
    object_told false is found d shown =
        let w = found d shown in (
          λ e. absurd (false≢true e),
          λ h. absurd (let same : object h.0 ≡ w.v = refers_to_one d.value tokens (object h.0) w.v h.1 (w.value, w.is, w.path, w.refers) in
              no_object_by doc tree node held o as_object (sym is) (object_content d.options (content_at (nodes_of doc) (number_of node)) (row_below (nodes_of doc) (number_of node)) h.0 (subst (HasValue d.options (top_at (nodes_of doc) (number_of node))) (sym same) w.has))),
        )

-- the patch is merged
module _ {A : Type 0} (old new : CstRootNode A) (tokens : List (List ℕ)) where
  pub merged_inside : (ms : Members) → IsOfShown old (λ d. RefersToObject d.value tokens) → ReachesWhatShown old (λ o. AreNamedOfNumbers o ms) (MembersMergeIn tokens ms) new → ReachesWhatShown old (λ o. IsOfNumbers o (object ms)) (MergesIn tokens (object ms)) new
  merged_inside ms at reached = reached_as old new (λ o. AreNamedOfNumbers o ms) (λ o. IsOfNumbers o (object ms)) (MembersMergeIn tokens ms) (MergesIn tokens (object ms)) reached (λ o fit. fit) (λ d shown e m. inside (at d shown).1 m)

  pub stopped_inside : (ms : Members) (cause : PatchCause A) → IsOfShown old (λ d. RefersToObject d.value tokens) → FailsToMergeAll old tokens ms cause → FailsToMerge old tokens (object ms) cause
  stopped_inside ms cause at fails d shown fit place = stop_inside tokens (object ms) d.value cause (fails d shown fit (at d shown))

  pub merged_set : (p : Plain) → IsOfShown old (λ d. ¬ (GoesInto p tokens d.value)) → ReachesWhatShown old (λ o. IsOfNumbers o p) (Sets tokens p) new → ReachesWhatShown old (λ o. IsOfNumbers o p) (MergesIn tokens p) new
  merged_set p none reached = reached_as old new (λ o. IsOfNumbers o p) (λ o. IsOfNumbers o p) (Sets tokens p) (MergesIn tokens p) reached (λ o fit. fit) (λ d shown e m. m (none d shown))

  pub set_same : (p : Plain) → tree_of new ≡ tree_of old → IsOfShown old (λ d. IsThere (made_of p) tokens d.value) → ReachesWhatShown old (λ o. IsOfNumbers o p) (Sets tokens p) new
  set_same p same there = reached_same old new (λ o. IsOfNumbers o p) (Sets tokens p) same (λ d shown. stands_there tokens p d (there d shown))

  pub set_other : (p v : Plain) → v ≡ made_of p → IsOfShown old (λ d. ¬ (IsThere (made_of p) tokens d.value)) → MakesWhatShown old (value.add tokens v) (λ o. IsOfNumbers o v) new → ReachesWhatShown old (λ o. IsOfNumbers o p) (Sets tokens p) new
  set_other p v is other made =
      reached_by old new (value.add tokens v) (λ o. IsOfNumbers o v) (λ o. IsOfNumbers o p) (Sets tokens p) made (λ o fit. subst (IsOfNumbers o) (sym is) (number_made o p fit))
      (λ d shown e adds. is_put tokens p d e (other d shown) (subst (λ q. IsMade (value.add tokens q) d e) is adds))

  pub drops_one : MakesWhatShown old (value.remove tokens) (λ o. Unit {0}) new → ReachesWhatShown old (λ o. Unit {0}) (Drops tokens) new
  drops_one made = reached_by old new (value.remove tokens) (λ o. Unit {0}) (λ o. Unit {0}) (Drops tokens) made (λ o fit. fit) (λ d shown e r. inl r)

  pub drops_none : tree_of new ≡ tree_of old → FailsWhatShown old (value.remove tokens) causes.NoTarget → ReachesWhatShown old (λ o. Unit {0}) (Drops tokens) new
  drops_none same fails = reached_same old new (λ o. Unit {0}) (Drops tokens) same (λ d shown. inr (fails d shown, refl))

  pub named_null : (p : Plain) → p ≡ null → ReachesWhatShown old (λ o. Unit {0}) (Drops tokens) new → ReachesWhatShown old (λ o. IsOfNumbers o p) (MergesNamed tokens p) new
  named_null p is reached = reached_as old new (λ o. Unit {0}) (λ o. IsOfNumbers o p) (Drops tokens) (MergesNamed tokens p) reached (λ o fit. tt) (λ d shown e drops. (λ nothing. drops, λ ne. absurd (ne is)))

  pub named_other : (p : Plain) → p ≢ null → ReachesWhatShown old (λ o. IsOfNumbers o p) (MergesIn tokens p) new → ReachesWhatShown old (λ o. IsOfNumbers o p) (MergesNamed tokens p) new
  named_other p other reached = reached_as old new (λ o. IsOfNumbers o p) (λ o. IsOfNumbers o p) (MergesIn tokens p) (MergesNamed tokens p) reached (λ o fit. fit) (λ d shown e m. (λ nothing. absurd (other nothing), λ ne. m))

  pub one_member : (name : List ℕ) (p : Plain) → ReachesWhatShown old (λ o. IsOfNumbers o p) (MergesNamed (tokens ++ name ∷ []) p) new → ReachesWhatShown old (λ o. IsOfNumbers o p) (MembersMergeIn tokens (member name p no_members)) new
  one_member name p reached = reached_as old new (λ o. IsOfNumbers o p) (λ o. IsOfNumbers o p) (MergesNamed (tokens ++ name ∷ []) p) (MembersMergeIn tokens (member name p no_members)) reached (λ o fit. fit) (λ d shown e m. named_member tokens name p d e m)

  -- of the value that the patch is
  pub merged_value : (p q : Plain) → p ≡ q → ReachesWhatShown old (λ o. IsOfNumbers o q) (MergesIn tokens q) new → ReachesWhatShown old (λ o. IsOfNumbers o p) (MergesIn tokens p) new
  merged_value p q is reached = subst (λ k. ReachesWhatShown old (λ o. IsOfNumbers o k) (MergesIn tokens k) new) (sym is) reached

  pub failed_value : (p q : Plain) (cause : PatchCause A) → p ≡ q → FailsToMerge old tokens q cause → FailsToMerge old tokens p cause
  failed_value p q cause is fails = subst (λ k. FailsToMerge old tokens k cause) (sym is) fails

-- what was answered of the tokens
module _ {A : Type 0} (doc : CstRootNode A) (names tokens : List (List ℕ)) (same : names ≡ tokens) (b : Bool) (reported : IsOfShown doc (λ d. Decides b (RefersToObject d.value names))) where
  pub object_so : b ≡ true → IsOfShown doc (λ d. RefersToObject d.value tokens)
  object_so e d shown = subst (RefersToObject d.value) same ((reported d shown).0 e)

  pub no_object_so : (p : Plain) → b ≡ false → IsOfShown doc (λ d. ¬ (GoesInto p tokens d.value))
  no_object_so p e d shown = goes_nowhere p tokens d.value (λ h. false≢true (sym e ∙ (reported d shown).1 (subst (RefersToObject d.value) (sym same) h)))

-- what was answered of the value that is to be put, of what is made of the patch
module _ {A : Type 0} (doc : CstRootNode A) (tokens : List (List ℕ)) (p v : Plain) (is : v ≡ made_of p) (b : Bool) (reported : IsOfShown doc (λ d. Decides b (IsThere v tokens d.value))) where
  pub there_so : b ≡ true → IsOfShown doc (λ d. IsThere (made_of p) tokens d.value)
  there_so e d shown = subst (λ q. IsThere q tokens d.value) is ((reported d shown).0 e)

  pub not_there : b ≡ false → IsOfShown doc (λ d. ¬ (IsThere (made_of p) tokens d.value))
  not_there e d shown h = false≢true (sym e ∙ (reported d shown).1 (subst (λ q. IsThere q tokens d.value) (sym is) h))

pub twice_in_patch : {A : Type 0} (p : Plain) (d : Document) (reported : MergeFault A) → HasNameTwice p reported → IsMergeFault p d reported
twice_in_patch p d (fault.RepeatedName name) h = inl h
twice_in_patch p d fault.OutOfMemory h = tt
twice_in_patch p d fault.NestingDepthExceeded h = tt

-- the fault of a document's merge
pub stops_shown : {A : Type 0} (old : CstRootNode A) (p : Plain) (cause : PatchCause A) (reported : MergeFault A) → IsReportedAs cause reported → FailsToMerge old [] p cause → MergeStopsWhatShown old p reported
stops_shown old p (causes.RepeatedName name) reported is fails d shown fit =
    subst (λ f. IsMergeFault p d f) (sym is)
    (elim (fails d shown fit at_root) [
      | inl twice ↦ absurd (fails_whole d.value (chars_of name) twice)
      | inr stops ↦ inr stops
    ])
stops_shown old p (causes.Edit NestingDepthExceeded) reported is fails d shown fit = subst (λ f. IsMergeFault p d f) (sym is) tt
stops_shown old p (causes.Edit why) reported is fails d shown fit = subst (λ f. IsMergeFault p d f) (sym is) tt
stops_shown old p causes.NoTarget reported is fails d shown fit = absurd (fails d shown fit at_root)
stops_shown old p causes.IntoItself reported is fails d shown fit = absurd (fails d shown fit at_root)
stops_shown old p causes.NotEqual reported is fails d shown fit = absurd (fails d shown fit at_root)
stops_shown old p causes.TooLarge reported is fails d shown fit = absurd (fails d shown fit at_root)

-- of a copy, of the document
module _ {A : Type 0} (old copy new : CstRootNode A) (same : nodes_of copy ≡ nodes_of old) (p : Plain) where
  trees : tree_of old ≡ tree_of copy
  trees = ap (λ ns. ordered_tree ns 0) (sym same)

  pub merged_by_copy : MergesWhatShown copy p new → MergesWhatShown old p new
  merged_by_copy merged d shown fit = merged d (subst (Shows d) trees shown) fit

  pub stopped_by_copy : (reported : MergeFault A) → MergeStopsWhatShown copy p reported → MergeStopsWhatShown old p reported
  stopped_by_copy reported stops d shown fit = stops d (subst (Shows d) trees shown) fit

-- a member is smaller than the members
pub member_smaller : {P : Type 0} (size : P → ℕ) (xs : List P) (i : ℕ) (p : P) (n t r s : ℕ) → 5 * most size xs + r ≡ t → s < r → i < length xs → p ≡ get_or xs i p → n ≤ size p → 5 * n + s < t
member_smaller size xs i p n t r s whole less within at part =
    let bound : size (get_or xs i p) ≤ most size xs = at_most size xs i p within in
    let same : size p ≡ size (get_or xs i p) = ap size at in
    omega arith
