-- Along a list of names, with the path of the positions.
use Rattle.std.proofs.Common.{ℕ, ◌≡◌, ◌<◌, ◌≤◌, ◌+◌, ◌++◌, ◌∙◌, List, [], ◌∷◌, Option, Some, None, sym, ap, subst, refl, drop, take, length, get_or, option_map}
use Rattle.std.proofs.lemmas.List.{drop_more, drop-map, take-map, take_all}
use Rattle.std.specs.declared.string.String.{String}
use Rattle.jsonc_text.specs.Documents.{Document}
use Rattle.jsonc_text.specs.Plain as plain
use Rattle.jsonc_text.specs.Plain.{Plain, Members}
use Rattle.jsonc_layout.specs.input.Views.{chars_of}
use Rattle.jsonc_tree.specs.Tree.{IsTree}
use Rattle.jsonc_layout.specs.nodes.Properties.{value_at}
use Rattle.jsonc_sound.specs.Documents.{Shows}
use Rattle.jsonc_insert.specs.named.Members.{LacksMember}
use Rattle.jsonc_cst.specs.declared.cst.CstRootNode.{CstRootNode}
use Rattle.jsonc_cst.specs.declared.cst.node.CstNode.{CstNode}
use Rattle.jsonc_cst.specs.Document.{nodes_of, tree_of}
use Rattle.jsonc_cst.specs.Nodes.{number_of, typed_at}
use Rattle.jsonc_cst.specs.Readings.{value_under}
use Rattle.jsonc_parser.specs.paths.Found.{names_of}
use Rattle.jsonc_parser.specs.paths.Settings.{IsNoObject}
use Rattle.jsonc_parser.specs.paths.Positions.{Leads}
use Rattle.jsonc_parser.specs.paths.Reach.{ReachesTo, StepsWhatShown}
use Rattle.jsonc_parser.specs.paths.NamedNodes.{NamesNode}
use Rattle.jsonc_parser.specs.declared.paths.which.Which.{Which}
use Rattle.jsonc_parser.specs.declared.paths.reached.Step.TheVariants.{On, Missing, Another}
use Rattle.jsonc_parser.proofs.lemmas.paths.Found.{one_more, value_found}
use Rattle.jsonc_parser.proofs.lemmas.paths.Leading.{no_path}
use Rattle.jsonc_parser.proofs.lemmas.paths.NodesAtNames.{begins_there}

module _ {A : Type 0} (which : Which) (doc : CstRootNode A) where
  -- so far the names lead over this path to this node
  abbrev pub LeadsSoFar : Document → List (List ℕ) → List ℕ → CstNode → Type 0
  LeadsSoFar d names path node = (w : NamesNode which d (nodes_of doc) names (number_of node)) × (w.path ≡ path)

  abbrev pub LeadsWhatShown : List (List ℕ) → List ℕ → CstNode → Type 0
  LeadsWhatShown names path node = (d : Document) → Shows d (tree_of doc) → LeadsSoFar d names path node

  pub reached_nothing : IsTree (nodes_of doc) → None ≡ value_under doc 0 → (d : Document) → Shows d (tree_of doc) → d.value ≡ None
  reached_nothing tree e d shown = go (value_at (nodes_of doc) 0) refl e
    where
      go : (q : Option ℕ) → value_at (nodes_of doc) 0 ≡ q → None ≡ option_map (typed_at (nodes_of doc)) q → d.value ≡ None
      go None is same = (begins_there which d (nodes_of doc) tree shown).none is
      go (Some q) is same = cc

  pub leads_begin : (node : CstNode) (path : List ℕ) → path ≡ [] → IsTree (nodes_of doc) → Some node ≡ value_under doc 0 → LeadsWhatShown [] path node
  leads_begin node path empty tree e d shown = (let w = value_found which doc tree node e d shown in (w, no_path w.leads refl ∙ sym empty))

  module _ (names : List (String A)) (k : ℕ) (s : String A) (h : k < length names) (path : List ℕ) (node : CstNode) (name : List ℕ) (item : name ≡ chars_of (get_or names k s)) (so_far : LeadsWhatShown (names_of (take k names)) path node) where
    pub leads_more : (more : List ℕ) (index : ℕ) (inner : CstNode) → more ≡ path ++ index ∷ [] → StepsWhatShown which doc node name (On index inner) → LeadsWhatShown (names_of (take (k + 1) names)) more inner
    leads_more more index inner pushed step d shown =
        (let all : names_of (take (k + 1) names) ≡ names_of (take k names) ++ name ∷ [] = one_more names k s h ∙ ap (λ n. names_of (take k names) ++ n ∷ []) (sym item) in
        let f = so_far d shown in
        let t = step d (names_of (take k names)) shown f.0 in
        let made : LeadsSoFar d (names_of (take k names) ++ name ∷ []) more inner = (t.0, t.1 ∙ ap (λ p. p ++ index ∷ []) f.1 ∙ sym pushed) in
        subst (λ front. LeadsSoFar d front more inner) (sym all) made)

    to : (d : Document) (x v : Plain) → d.value ≡ Some x → Leads which (names_of (take k names)) path x v → ReachesTo which d (names_of names) path k v
    to d x v is leads =
        record {
          x = x;
          is = is;
          leads = subst (λ l. Leads which l path x v) (sym (take-map chars_of k names)) leads;
          name = name;
          next = drop-map chars_of k names ∙ ap names_of (drop_more names k s h) ∙ ap (λ n. n ∷ names_of (drop (k + 1) names)) (sym item) ∙ ap (λ l. name ∷ l) (sym (drop-map chars_of (k + 1) names));
        }

    pub reached_missing : StepsWhatShown which doc node name Missing → (d : Document) → Shows d (tree_of doc) → (ms : Members) × (there : ReachesTo which d (names_of names) path k (plain.object ms)) × LacksMember there.name ms
    unfolding to
    reached_missing step d shown =
        let f = so_far d shown in
        let m = step d (names_of (take k names)) shown f.0 in
        let leads = subst (λ v. Leads which (names_of (take k names)) path f.0.value v) m.1 (subst (λ p. Leads which (names_of (take k names)) p f.0.value f.0.v) f.1 f.0.leads) in
        (m.0, to d f.0.value (plain.object m.0) f.0.is leads, m.2)

    pub reached_another : StepsWhatShown which doc node name Another → (d : Document) → Shows d (tree_of doc) → (v : Plain) × ReachesTo which d (names_of names) path k v × IsNoObject v
    reached_another step d shown =
        let f = so_far d shown in
        (f.0.v, to d f.0.value f.0.v f.0.is (subst (λ p. Leads which (names_of (take k names)) p f.0.value f.0.v) f.1 f.0.leads), step d (names_of (take k names)) shown f.0)

  pub reached_value : (names : List (String A)) (k : ℕ) (path : List ℕ) (node : CstNode) → length names ≤ k → LeadsWhatShown (names_of (take k names)) path node → (d : Document) → Shows d (tree_of doc)
      → (x v : Plain) × (d.value ≡ Some x) × Leads which (names_of names) path x v
  reached_value names k path node h so_far d shown =
      let f = so_far d shown in
      (f.0.value, f.0.v, f.0.is, subst (λ p. Leads which (names_of names) p f.0.value f.0.v) f.1 (subst (λ (l : List (String A)). Leads which (names_of l) f.0.path f.0.value f.0.v) (take_all k names h) f.0.leads))
