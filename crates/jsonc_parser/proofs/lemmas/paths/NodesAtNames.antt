-- What is at names in a document that a tree shows: the value's node, and that of a first property's value.
use Rattle.std.proofs.Common.{ℕ, ◌≡◌, ◌∙◌, ◌++◌, sym, ap, subst, refl, not, List, [], ◌∷◌, Option, Some, None}
use Rattle.std.specs.List.{find}
use Rattle.jsonc_text.specs.Documents.{Document}
use Rattle.jsonc_text.specs.Grammar.{IsDocument}
use Rattle.jsonc_text.specs.Options.{Options}
use Rattle.jsonc_text.specs.Plain as plain
use Rattle.jsonc_text.specs.Plain.{Plain, Members, no_members, member}
use Rattle.jsonc_text.proofs.UniqueValues.{document_unique}
use Rattle.jsonc_tree.specs.Content as content
use Rattle.jsonc_tree.specs.Content.{Content, root, property}
use Rattle.jsonc_tree.specs.OrderedTree as trees
use Rattle.jsonc_tree.specs.OrderedTree.{OrderedTree, none, more, shows_none, shows_more, ordered_tree}
use Rattle.jsonc_tree.specs.Tree.{Node, content_at, children_at, IsTree}
use Rattle.jsonc_tree.specs.Values as values
use Rattle.jsonc_tree.specs.Values.{DocumentValueOf, HoldsValue, MembersOf, ValueOf}
use Rattle.jsonc_sound.specs.Shape.{printed_text}
use Rattle.jsonc_layout.specs.nodes.Kinds.{is_element_at}
use Rattle.jsonc_layout.specs.nodes.Properties.{value_at, value_by}
use Rattle.jsonc_layout.proofs.lemmas.nodes.PropertyValues.{first_kept}
use Rattle.jsonc_sound.specs.Sound.{HasValue}
use Rattle.jsonc_sound.specs.Documents.{Shows}
use Rattle.jsonc_sound.proofs.FirstNodes.{value_of_element}
use Rattle.jsonc_edit.specs.Changes.{row_below, top_at}
use Rattle.jsonc_edit.specs.Paths as paths
use Rattle.jsonc_edit.specs.Paths.{IsAt, IsElementOf}
use Rattle.jsonc_edit.proofs.FittingFinds.{passes, fails, none_is_some}
use Rattle.jsonc_edit.proofs.ChangesUpward.{Shows-row_below, document_is}
use Rattle.jsonc_edit.proofs.SoundValues.{some_value_of, prints_value}
use Rattle.jsonc_insert.specs.named.Members.{LacksMember}
use Rattle.jsonc_insert.specs.named.Places.{IsPropertyOf, IsPropertyAt, a_property}
use Rattle.jsonc_insert.proofs.lemmas.named.PathValues.{gives_way_to_itself, value_at_path}
use Rattle.jsonc_insert.proofs.lemmas.named.PropertyValues.{value_held}
use Rattle.jsonc_parser.specs.paths.Settings.{At, IsNoObject}
use Rattle.jsonc_parser.specs.paths.Positions.{Leads, leads_nowhere, leads_on}
use Rattle.jsonc_parser.specs.paths.Which.{IsChosenAt, IsChosenIn, seen, seen_if}
use Rattle.jsonc_parser.specs.declared.paths.which.Which.{Which}
use Rattle.jsonc_parser.proofs.lemmas.paths.Chosen.{chosen_first, seen_lacks, seen_object, seen_other, seen_some}
use Rattle.jsonc_parser.proofs.lemmas.paths.ChosenNodes.{ChosenAmong, chosen_among, chosen_named}
use Rattle.jsonc_parser.proofs.lemmas.paths.Leading.{leads_at, leads_value}
use Rattle.jsonc_parser.proofs.lemmas.paths.Members.{first_once}
use Rattle.jsonc_parser.proofs.lemmas.paths.Paths.{in_members, no_object_inside}
use Rattle.jsonc_parser.proofs.lemmas.paths.LongestPrefix.{lacking}
use Rattle.jsonc_parser.specs.paths.NamedNodes.{NamesNode, NamesNothing, BeginsThere, StopsThere, LeadsOn}

-- names lead further
leads_further : {which : Which} {front : List (List ℕ)} {path : List ℕ} {x y : Plain} (name : List ℕ) (i : ℕ) {ms : Members} → Leads which front path x (plain.object ms) → IsChosenAt which name y i ms
    → Leads which (front ++ name ∷ []) (path ++ i ∷ []) x y
leads_further name i leads_nowhere f = leads_on f leads_nowhere
leads_further name i (leads_on g l) f = leads_on g (leads_further name i l f)

-- what is after the names that lead to a value is at the others in it
pub behind : {which : Which} {front : List (List ℕ)} {path : List ℕ} {x v u : Plain} (rest : List (List ℕ)) → Leads which front path x v → At (Some (seen which x)) (front ++ rest) u
    → At (Some (seen which v)) rest u
behind rest leads_nowhere a = a
behind {which} {u = u} rest (leads_on {name = name} {names = names} {i = k} {ms = ms} {x = x} f l) a =
    let i = in_members (subst (λ y. At (Some y) (name ∷ names ++ rest) u) (seen_object which ms) a) in
    behind rest l (subst (λ y. At (Some y) (names ++ rest) u) (first_once i.1 (chosen_first which name x k ms f)) i.2)

-- an object's node has an object's value
object_members : {o : Options} {c : Content} {below : OrderedTree} {v : Plain} → c ≡ content.object → ValueOf o c below v → (ms : Members) × (v ≡ plain.object ms) × MembersOf o below ms
object_members e (values.object {ms = ms} h) = (ms, refl, h)
object_members e (values.string h) = cc
object_members e values.number = cc
object_members e values.boolean = cc
object_members e values.null = cc
object_members e (values.array h) = cc

module _ (which : Which) (d : Document) (ns : List Node) (tree : IsTree ns) (shown : Shows d (ordered_tree ns 0)) where
  says : IsDocument d.options (printed_text (ordered_tree ns 0)) d.value
  says = prints_value d.options (ordered_tree ns 0) d.value shown.sound shown.value

  some_same : (x y : Plain) → Some x ≡ Some y → x ≡ y
  some_same x y e = cc

  -- the value that the text is said to have is the document's
  pub value_once : (x : Plain) → IsDocument d.options (printed_text (ordered_tree ns 0)) (Some x) → d.value ≡ Some x
  value_once x text = document_unique d.options (printed_text (ordered_tree ns 0)) d.value (Some x) says text

  -- a node at positions that names lead over is what they name
  named : (names : List (List ℕ)) (path : List ℕ) (n : ℕ) → IsAt ns path n → (x v : Plain) → d.value ≡ Some x → Leads which names path x v → NamesNode which d ns names n
  named names path n at x v is leads =
      let held = value_at_path d.options ns tree path n at x (subst (DocumentValueOf d.options (ordered_tree ns 0)) is shown.value) in
      let same : held.value ≡ v = sym (leads_value leads held.at) in
      record {
        value = x;
        is = is;
        v = v;
        path = path;
        leads = leads;
        there = subst (λ (w : Option Plain). At (seen_if which w) names (seen which v)) (sym is) (subst (λ (w : Option Plain). At w names (seen which v)) (sym (seen_some which x)) (leads_at leads));
        at = at;
        has = subst (HasValue d.options (top_at ns n)) same held.has;
      }

  -- no name leads to the document's value
  pub begins : (n : ℕ) → value_at ns 0 ≡ Some n → NamesNode which d ns [] n
  begins n e =
      let found : find (is_element_at ns) (children_at ns 0) ≡ Some n = sym (ap (λ w. value_by w ns 0) tree.root_first) ∙ e in
      let at : IsAt ns [] n = (n, first_kept (is_element_at ns) (children_at ns 0) ∙ found, paths.itself) in
      let some = some_value_of d.options (gives_way_to_itself ns tree [] n at) d.value shown.value in
      named [] [] n at some.0 some.0 (value_once some.0 (prints_value d.options (ordered_tree ns 0) (Some some.0) shown.sound some.1)) leads_nowhere

  -- where children hold a value, an element is among them
  holds_one : (x : Plain) (xs : List ℕ) (row : OrderedTree) → trees.Shows ns xs row → HoldsValue d.options row x → find (is_element_at ns) xs ≡ None → ⊥
  holds_one x _ _ shows_none h e = elim h [ ]
  holds_one x _ _ (shows_more {n = k} {rest = rest} {after = after} p q) (values.pass_to_value h g) e = holds_one x rest after q g (sym (fails (is_element_at ns) k rest (ap not h)) ∙ e)
  holds_one x _ _ (shows_more {n = k} {rest = rest} p q) (values.value_of v g) e = none_is_some k (sym e ∙ passes (is_element_at ns) k rest (value_of_element v))

  -- a document without a value's node has none
  pub nothing : value_at ns 0 ≡ None → (w : Option Plain) → d.value ≡ w → w ≡ None
  nothing e None is = refl
  nothing e (Some x) is = absurd (no_value (subst (DocumentValueOf d.options (ordered_tree ns 0)) is shown.value))
    where
      no_value : DocumentValueOf d.options (ordered_tree ns 0) (Some x) → ⊥
      no_value (below, same, h) =
          let both : more root below none ≡ more root (row_below ns 0) none = sym same ∙ sym (document_is ns tree (row_below ns 0) (Shows-row_below ns tree 0 tree.first)) in
          let row : below ≡ row_below ns 0 = cc in
          holds_one x (children_at ns 0) (row_below ns 0) (Shows-row_below ns tree 0 tree.first) (subst (λ t. HoldsValue d.options t x) row h) (sym (ap (λ w. value_by w ns 0) tree.root_first) ∙ e)

  -- from here on of a node that names name
  module _ (names : List (List ℕ)) (n : ℕ) (w : NamesNode which d ns names n) where
    -- nothing is after names whose value has nothing at the others
    none_behind : (rest : List (List ℕ)) → ((u : Plain) → At (Some (seen which w.v)) rest u → ⊥) → NamesNothing which d (names ++ rest)
    none_behind rest non u a =
        non u (behind rest w.leads (subst (λ (k : Option Plain). At k (names ++ rest) u) (seen_some which w.value) (subst (λ (k : Option Plain). At (seen_if which k) (names ++ rest) u) w.is a)))

    -- a node that is no object has no such value
    no_object : (content_at ns n ≡ content.object → ⊥) → IsNoObject w.v
    no_object other ms e = other (object_content (content_at ns n) (row_below ns n) (subst (HasValue d.options (top_at ns n)) e w.has))
      where
        object_content : (c : Content) (below : OrderedTree) → ValueOf d.options c below (plain.object ms) → c ≡ content.object
        object_content _ _ (values.object h) = refl

    pub stops_here : (content_at ns n ≡ content.object → ⊥) → (name : List ℕ) (rest : List (List ℕ)) → NamesNothing which d (names ++ name ∷ rest)
    stops_here other name rest = none_behind (name ∷ rest) (λ u a. no_object_inside (seen_other which (no_object other)) a)

    -- the object's properties, and what was found among them
    module _ (is : content_at ns n ≡ content.object) (name : List ℕ) where
      -- the object's properties
      its_members : (ms : Members) × (w.v ≡ plain.object ms) × MembersOf d.options (row_below ns n) ms
      its_members = object_members is w.has

      among : (found : Option ℕ) → IsChosenIn which ns n name found → ChosenAmong ns n name which found its_members.0
      among found = chosen_among d.options ns w.path n tree shown.sound w.at is its_members.0 its_members.2 name which found

      pub lacks : IsChosenIn which ns n name None → (ms : Members) × (w.v ≡ plain.object ms) × LacksMember name ms
      lacks missing = (its_members.0, its_members.1, among None missing)

      pub misses : IsChosenIn which ns n name None → (rest : List (List ℕ)) → NamesNothing which d (names ++ name ∷ rest)
      misses first rest =
          let l = lacks first in
          none_behind (name ∷ rest) (λ u a.
          (let i = in_members (subst (λ k. At (Some k) (name ∷ rest) u) (seen_object which l.0) (subst (λ k. At (Some (seen which k)) (name ∷ rest) u) l.1 a)) in lacking (seen_lacks which l.2) i.1))

      -- the property of the name, its number and its value
      pub record Chosen (r : ℕ) : Type 0 where
        pub number : ℕ
        pub ms : Members
        pub its : w.v ≡ plain.object ms
        pub v : Plain
        pub first : IsChosenAt which name v number ms
        pub there : IsPropertyAt ns (w.path ++ number ∷ []) r
        pub inside : IsPropertyOf ns n number r

      pub chosen_here : (r : ℕ) → IsChosenIn which ns n name (Some r) → Chosen r
      chosen_here r first =
          let f = among (Some r) first in
          let inside : IsPropertyOf ns n f.0 r = record { of_object = is; element = f.1; is = (chosen_named which ns n name r first).0 } in
          record {
            number = f.0;
            ms = its_members.0;
            its = its_members.1;
            v = f.2;
            first = f.3;
            there = a_property w.path n f.0 w.at inside;
            inside = inside;
          }

      pub leads_inside : (r q : ℕ) → IsChosenIn which ns n name (Some r) → value_at ns r ≡ Some q
          → (i : ℕ) × IsElementOf ns n i r × (further : NamesNode which d ns (names ++ name ∷ []) q) × (further.path ≡ w.path ++ i ∷ [])
      unfolding named
      leads_inside r q first e =
          let f = chosen_here r first in
          let held = value_held d.options ns tree shown.sound (w.path ++ f.number ∷ []) r f.there in
          let both : Some held.value ≡ Some q = sym held.holds ∙ e in
          let same : held.value ≡ q = cc in
          let further = named (names ++ name ∷ []) (w.path ++ f.number ∷ []) q (subst (IsAt ns (w.path ++ f.number ∷ [])) same held.at) w.value f.v w.is
          (leads_further name f.number (subst (Leads which names w.path w.value) f.its w.leads) f.first) in
          (f.number, f.inside.element, further, refl)

      pub holds_some : (r : ℕ) → IsChosenIn which ns n name (Some r) → value_at ns r ≡ None → ⊥
      holds_some r first e =
          let f = chosen_here r first in
          let held = value_held d.options ns tree shown.sound (w.path ++ f.number ∷ []) r f.there in
          let wrong : Some held.value ≡ None = sym held.holds ∙ e in cc

pub begins_there : (which : Which) (d : Document) (ns : List Node) → BeginsThere which d ns
begins_there which d ns tree shown = record { some = begins which d ns tree shown; none = λ e. nothing which d ns tree shown e d.value refl }

pub stops_there : (which : Which) (d : Document) (ns : List Node) (names : List (List ℕ)) (n : ℕ) → StopsThere which d ns names n
stops_there which d ns names n tree shown w other = record { another = no_object which d ns tree shown names n w other; nothing = stops_here which d ns tree shown names n w other }

pub leads_on_there : (which : Which) (d : Document) (ns : List Node) (names : List (List ℕ)) (n : ℕ) (name : List ℕ) → LeadsOn which d ns names n name
leads_on_there which d ns names n name tree shown w is =
    record {
      lacks = lacks which d ns tree shown names n w is name;
      nothing = misses which d ns tree shown names n w is name;
      holds = holds_some which d ns tree shown names n w is name;
      leads = leads_inside which d ns tree shown names n w is name;
    }
