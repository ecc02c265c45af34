-- What memory is needed for at a path of names, and what is in their way.
use Rattle.std.proofs.Common.{ℕ, ◌≡◌, ◌<◌, ◌≤◌, ◌+◌, ◌++◌, ◌∙◌, true, false, Bool, List, [], ◌∷◌, Option, Some, None, Result, Ok, Err, IfOk, OnErr, sym, ap, subst, refl, inl, inr, drop, take, length, get_or}
use Rattle.std.proofs.lemmas.Bool.{false≢true}
use Rattle.std.proofs.lemmas.List.{take_all}
use Rattle.std.specs.Bool.{Decides}
use Rattle.std.specs.declared.string.String.{String}
use Rattle.jsonc_text.specs.Documents.{Document}
use Rattle.jsonc_text.specs.Plain.{Plain, Members}
use Rattle.jsonc_text.specs.Plain as plain
use Rattle.jsonc_layout.specs.input.Views.{chars_of}
use Rattle.jsonc_layout.specs.nodes.Names.{HoldsEscapedName}
use Rattle.jsonc_tree.specs.Tree.{Node, IsTree}
use Rattle.jsonc_text.specs.declared.edit.Over.{Over}
use Rattle.jsonc_text.specs.declared.edit.Over.TheVariants.{Keep, Replace}
use Rattle.jsonc_insert.specs.named.Members.{LacksMember}
use Rattle.jsonc_cst.specs.declared.cst.CstRootNode.{CstRootNode}
use Rattle.jsonc_cst.specs.declared.cst.node.CstNode.{CstNode}
use Rattle.jsonc_cst.specs.declared.cst.node.CstObject.{CstObject}
use Rattle.jsonc_cst.specs.Document.{nodes_of}
use Rattle.jsonc_cst.specs.Nodes.{number_of, object_node}
use Rattle.jsonc_cst.specs.Readings.{value_under}
use Rattle.jsonc_parser.specs.paths.Found.{names_of, FindsWhatShown}
use Rattle.jsonc_parser.specs.paths.Memory.{DecidesInTheWay, DecidesMustStay, WantsForSomething, WantsToLookUp, WantsToPut}
use Rattle.jsonc_parser.specs.paths.Positions.{appends, Leads}
use Rattle.jsonc_parser.specs.paths.Reach.{StepsWhatShown}
use Rattle.jsonc_parser.specs.paths.Settings.{IsInTheWay, IsNoObject}
use Rattle.jsonc_parser.specs.paths.NamedNodes.{NamesNode}
use Rattle.jsonc_parser.specs.paths.Which.{seen, seen_if}
use Rattle.jsonc_parser.specs.declared.paths.which.Which.{Which}
use Rattle.jsonc_parser.specs.declared.paths.which.Which.TheVariants.{First}
use Rattle.jsonc_parser.proofs.lemmas.paths.Chosen.{seen_none, seen_some}
use Rattle.jsonc_parser.specs.declared.paths.reached.Step.TheVariants.{On, Missing, Another}
use Rattle.jsonc_parser.proofs.lemmas.paths.Found.{one_more, split_at, NamesWhatShown}
use Rattle.jsonc_parser.proofs.lemmas.paths.Paths.{blocked_none, keep_no_replace}
use Rattle.jsonc_parser.proofs.lemmas.paths.LongestPrefix.{in_the_way, led_all, put_is_free}
use Rattle.jsonc_parser.proofs.lemmas.paths.Routes.{reached_nothing}

decides_yes : {P : Type 0} → P → Decides true P
decides_yes p = (λ _. p, λ _. refl)

decides_no : {P : Type 0} → ¬ P → Decides false P
decides_no never = (λ e. absurd (false≢true e), λ p. absurd (never p))

-- what is true of any refusal

err_always : {T E P : Type 0} (r : Result T E) → P → OnErr r P
err_always (Ok x) h = tt
err_always (Err e) h = h

module _ {A : Type 0} (which : Which) (doc : CstRootNode A) where
  pub way_without_value : IsTree (nodes_of doc) → None ≡ value_under doc 0 → (names : List (List ℕ)) → DecidesInTheWay which (nodes_of doc) names false
  way_without_value tree e names d shown = decides_no (λ s. blocked_none s (ap (seen_if which) (reached_nothing which doc tree e d shown) ∙ seen_none which))

  module _ (names : List (String A)) (k : ℕ) (node : CstNode) (so_far : NamesWhatShown which doc (names_of (take k names)) node) where
    module _ (s : String A) (h : k < length names) where
      -- where the names so far lead to an object that has a name with a backslash
      pub passes : HoldsEscapedName (nodes_of doc) (number_of node) → WantsToLookUp which (nodes_of doc) (names_of names)
      passes escaped d shown = record {
        front = names_of (take k names);
        name = chars_of (get_or names k s);
        rest = names_of (drop (k + 1) names);
        split = split_at names k s h;
        object = number_of node;
        leads = so_far d shown;
        escaped = escaped;
      }

      -- the next one leads on as the step says
      pub leads_further : (name : List ℕ) → name ≡ chars_of (get_or names k s) → (index : ℕ) (inner : CstNode) → StepsWhatShown which doc node name (On index inner) → NamesWhatShown which doc (names_of (take (k + 1) names)) inner
      leads_further name item index inner step d shown =
          (let all : names_of (take (k + 1) names) ≡ names_of (take k names) ++ name ∷ [] = one_more names k s h ∙ ap (λ n. names_of (take k names) ++ n ∷ []) (sym item) in
          subst (λ (l : List (List ℕ)). NamesNode which d (nodes_of doc) l (number_of inner)) (sym all) (step d (names_of (take k names)) shown (so_far d shown)).0)

      -- where they lead to a value of another kind it is in the way
      stands_here : (d : Document) (w : NamesNode which d (nodes_of doc) (names_of (take k names)) (number_of node)) → IsNoObject w.v → IsInTheWay (seen_if which d.value) (names_of names)
      stands_here d w non =
          subst (λ (v : Option Plain). IsInTheWay (seen_if which v) (names_of names)) (sym w.is)
          (subst (λ (l : List (List ℕ)). IsInTheWay (seen_if which (Some w.value)) l) (sym (split_at names k s h)) (subst (λ (v : Option Plain). IsInTheWay v (names_of (take k names) ++ chars_of (get_or names k s) ∷ names_of (drop (k + 1) names))) (sym (seen_some which w.value)) (in_the_way (chars_of (get_or names k s)) (names_of (drop (k + 1) names)) w.leads non)))

      pub way_is_barred : (name : List ℕ) → StepsWhatShown which doc node name Another → DecidesInTheWay which (nodes_of doc) (names_of names) true
      way_is_barred name step d shown = (let w = so_far d shown in decides_yes (stands_here d w (step d (names_of (take k names)) shown w)))

      -- and where they lead to an object without the next name none does
      free_here : (d : Document) (w : NamesNode which d (nodes_of doc) (names_of (take k names)) (number_of node)) (ms : Members) → w.v ≡ plain.object ms → LacksMember (chars_of (get_or names k s)) ms
          → ¬ (IsInTheWay (seen_if which d.value) (names_of names))
      free_here d w ms is lacks stands =
          put_is_free {v = w.v} {over = Keep} (appends (names_of (take k names)) (names_of (drop (k + 1) names)) (subst (λ (v : Plain). Leads which (names_of (take k names)) w.path w.value v) is w.leads) lacks) refl
          (subst (λ (l : List (List ℕ)). IsInTheWay (seen_if which (Some w.value)) l) (split_at names k s h) (subst (λ (v : Option Plain). IsInTheWay (seen_if which v) (names_of names)) w.is stands))

      pub way_is_missing : (name : List ℕ) → name ≡ chars_of (get_or names k s) → StepsWhatShown which doc node name Missing → DecidesInTheWay which (nodes_of doc) (names_of names) false
      way_is_missing name item step d shown =
          (let w = so_far d shown in
          let m = step d (names_of (take k names)) shown w in
          decides_no (free_here d w m.0 m.1 (subst (λ (n : List ℕ). LacksMember n m.0) item m.2)))

    -- nor where they all lead to a value
    pub way_is_free : length names ≤ k → DecidesInTheWay which (nodes_of doc) (names_of names) false
    way_is_free h d shown =
        (let w = so_far d shown in
        decides_no (λ stands. led_all w.leads
        (subst (λ (l : List (String A)). IsInTheWay (Some (seen which w.value)) (names_of l)) (sym (take_all k names h))
        (subst (λ (v : Option Plain). IsInTheWay v (names_of names)) (seen_some which w.value) (subst (λ (v : Option Plain). IsInTheWay (seen_if which v) (names_of names)) w.is stands)))))

module _ {A : Type 0} (doc : CstRootNode A) where
  pub escaped_here : (node : CstNode) (x : CstObject) → node ≡ object_node x → HoldsEscapedName (nodes_of doc) x.number → HoldsEscapedName (nodes_of doc) (number_of node)
  escaped_here node x is h = subst (λ (k : CstNode). HoldsEscapedName (nodes_of doc) (number_of k)) (sym is) h

  -- what is at names where they lead to a node
  pub something_found : (names : List (List ℕ)) (node : CstNode) → FindsWhatShown doc names (Some node) → WantsForSomething (nodes_of doc) names
  something_found names node found d shown = (let w = found d shown in inr (w.v, w.there))

  pub something_wanted : {T E : Type 0} (names : List (List ℕ)) (node : CstNode) (r : Result T E) → FindsWhatShown doc names (Some node) → OnErr r (WantsForSomething (nodes_of doc) names)
  something_wanted names node r found = err_always r (something_found names node found)

module _ (ns : List Node) (names : List (List ℕ)) where
  -- memory that is needed to look up a name is needed in any case
  pub looked_up : WantsToLookUp First ns names → WantsForSomething ns names
  looked_up wants d shown = inl (wants d shown)

  pub looked_up_first : (which : Which) (over : Over) → WantsToLookUp which ns names → WantsToPut which over ns names
  looked_up_first which over wants d shown = inl (wants d shown)

  -- after that nothing is to stay
  pub put_freely : (which : Which) (over : Over) (b : Bool) → DecidesMustStay which over ns names b → b ≡ false → WantsToPut which over ns names
  put_freely which over b tells none d shown = inr (λ stays. false≢true (sym none ∙ (tells d shown).1 stays))

  -- what is in the way is to stay, where it is to be kept
  pub kept_stays : {E : Type 0} (which : Which) (over : Over) (r : Result Bool E) → over ≡ Keep → IfOk r (DecidesInTheWay which ns names) → IfOk r (DecidesMustStay which over ns names)
  kept_stays which over (Ok b) keep tells = λ d shown. (λ yes. (keep, (tells d shown).0 yes), λ stays. (tells d shown).1 stays.1)
  kept_stays which over (Err e) keep tells = tt

  pub replaced_goes : (which : Which) (over : Over) → over ≡ Replace → DecidesMustStay which over ns names false
  replaced_goes which over how d shown = decides_no (λ stays. keep_no_replace over stays.0 how)
