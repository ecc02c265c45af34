-- How far tokens lead in a document, one after another, where of equal names the first leads on.
use Rattle.std.proofs.Common.{ℕ, suc, ◌≡◌, ◌<◌, ◌≤◌, ◌+◌, ◌++◌, ◌∙◌, sym, ap, subst, refl, inl, inr, Bool, true, false, is_some, List, [], ◌∷◌, Option, Some, None, length, take, drop, get_or, option_map, arith}
use Rattle.std.proofs.lemmas.List.{append_assoc, length-map, length-take-le, take_all}
use Rattle.std.proofs.lemmas.Bool.{false≢true}
use Rattle.std.proofs.lemmas.Str.Parse.{digit_at}
use Rattle.std.specs.Bool.{Decides}
use Rattle.std.specs.declared.string.String.{String}
use Rattle.jsonc_text.specs.Documents.{Document}
use Rattle.jsonc_text.specs.Plain.{Plain, Items, Members, array, object}
use Rattle.jsonc_tree.specs.Content as content
use Rattle.jsonc_tree.specs.OrderedTree.{ordered_tree}
use Rattle.jsonc_tree.specs.Tree.{content_at, IsTree}
use Rattle.jsonc_layout.specs.input.Views.{chars_of}
use Rattle.jsonc_layout.specs.nodes.Names.{FirstInObject, HoldsEscapedName}
use Rattle.jsonc_layout.specs.nodes.Properties.{value_at}
use Rattle.jsonc_sound.specs.Documents.{Shows}
use Rattle.jsonc_insert.specs.elements.Laws.{item_count}
use Rattle.jsonc_insert.specs.named.Members.{LacksMember}
use Rattle.jsonc_cst.specs.declared.cst.CstRootNode.{CstRootNode}
use Rattle.jsonc_cst.specs.declared.cst.node.CstNode.{CstNode}
use Rattle.jsonc_cst.specs.declared.cst.node.CstObject.{CstObject}
use Rattle.jsonc_cst.specs.declared.cst.node.CstObjectProp.{CstObjectProp}
use Rattle.jsonc_cst.specs.Document.{nodes_of, HasNode}
use Rattle.jsonc_cst.specs.Nodes.{number_of, object_node, object_prop_node, typed_at}
use Rattle.jsonc_cst.specs.Readings.{value_under}
use Rattle.jsonc_cst.proofs.Family.{number_of-typed}
use Rattle.jsonc_parser.specs.declared.paths.which.Which.TheVariants.{First}
use Rattle.jsonc_parser.specs.paths.Found.{names_of}
use Rattle.jsonc_parser.specs.paths.Which.{IsChosenNamed}
use Rattle.jsonc_parser.specs.paths.Settings.{FirstAt}
use Rattle.jsonc_parser.specs.patch.Applied.{IsPlaceBy}
use Rattle.jsonc_parser.specs.patch.Found.{IsOfShown}
use Rattle.jsonc_parser.specs.patch.Lookups.{IsElementBy}
use Rattle.jsonc_parser.specs.patch.References.{IsIndex, IsItem}
use Rattle.jsonc_parser.specs.patch.Putting.{LeadsFirst, to_itself, by_name, by_index, LeadsAlong, IsAfterLast, MayBeIndex, Stops}
use Rattle.jsonc_parser.specs.patch.PutCalls.{FindsEntry, HasNoEntry, LeadsToNode, PassesEscaped}
use Rattle.jsonc_parser.specs.patch.PutSteps.{Enters, EntersAt, IsLed, StepsTo, StopsAtNode}
use Rattle.jsonc_parser.specs.declared.patch.entry.Entry.TheVariants as entries
use Rattle.jsonc_parser.specs.declared.patch.entry.Led.TheVariants as led
use Rattle.jsonc_parser.specs.declared.patch.entry.Stop.{Stop}
use Rattle.jsonc_parser.specs.declared.patch.entry.Stop.TheVariants.{AfterLast, NoMember, OtherKind, PastEnd}
use Rattle.jsonc_parser.proofs.lemmas.paths.Chosen.{at_first}
use Rattle.jsonc_parser.proofs.lemmas.paths.Found.{is_object, one_more, split_at}
use Rattle.jsonc_parser.proofs.lemmas.paths.LongestPrefix.{lacking}
use Rattle.jsonc_parser.proofs.lemmas.paths.Members.{first_once}
use Rattle.jsonc_parser.proofs.lemmas.paths.Routes.{reached_nothing}
use Rattle.jsonc_parser.proofs.lemmas.patch.Evaluation.{index_once, item_once}
use Rattle.jsonc_parser.proofs.lemmas.patch.Nodes.{item_within}
use Rattle.jsonc_parser.proofs.lemmas.patch.FirstNodes.{after_last, enters_element, enters_member, first_begins, leads_element, leads_member, no_index, no_member, other_here, past_end}

-- what the first token leads to
record InObject (token : List ℕ) (tokens : List (List ℕ)) (ms : Members) (v : Plain) : Type 0 where
  i : ℕ
  x : Plain
  path : List ℕ
  at : FirstAt token x i ms
  leads : LeadsFirst x tokens path v

record InArray (token : List ℕ) (tokens : List (List ℕ)) (vs : Items) (v : Plain) : Type 0 where
  i : ℕ
  x : Plain
  path : List ℕ
  index : IsIndex token i
  item : IsItem x i vs
  leads : LeadsFirst x tokens path v

in_object : {token : List ℕ} {tokens : List (List ℕ)} {ms : Members} {path : List ℕ} {v : Plain} → LeadsFirst (object ms) (token ∷ tokens) path v → InObject token tokens ms v
in_object (by_name {i = i} {path = path} {x = x} f l) = record { i = i; x = x; path = path; at = f; leads = l }

in_array : {token : List ℕ} {tokens : List (List ℕ)} {vs : Items} {path : List ℕ} {v : Plain} → LeadsFirst (array vs) (token ∷ tokens) path v → InArray token tokens vs v
in_array (by_index {i = i} {path = path} {x = x} k p l) = record { i = i; x = x; path = path; index = k; item = p; leads = l }

-- what all tokens lead to the others lead to in what the first lead to
pub first_behind : {x v u : Plain} {tokens : List (List ℕ)} {path all : List ℕ} (rest : List (List ℕ)) → LeadsFirst x tokens path v → LeadsFirst x (tokens ++ rest) all u → (q : List ℕ) × LeadsFirst v rest q u
first_behind {all = q} rest to_itself a = (q, a)
first_behind {u = u} rest (by_name {tokens = tokens} f l) a =
    let i = in_object a in
    first_behind rest l (subst (λ k. LeadsFirst k (tokens ++ rest) i.path u) (first_once (at_first i.at) (at_first f)) i.leads)
first_behind {u = u} rest (by_index {tokens = tokens} {vs = vs} k p l) a =
    let i = in_array a in
    let same : IsItem i.x _ vs = subst (λ n. IsItem i.x n vs) (index_once i.index k) i.item in
    first_behind rest l (subst (λ y. LeadsFirst y (tokens ++ rest) i.path u) (item_once same p) i.leads)

-- a token that stops leads to nothing
no_hyphen : {token : List ℕ} {i : ℕ} → token ≡ 0x2D ∷ [] → IsIndex token i → ⊥
no_hyphen {token} {i} is index =
    let digits : IsIndex (0x2D ∷ []) i = subst (λ l. IsIndex l i) is index in
    let range = digit_at (0x2D ∷ []) 0 digits.digits.1 (omega arith) in
    absurd (omega (arith, range.0))

past_last : {token : List ℕ} {vs : Items} {x : Plain} {i : ℕ} → IsAfterLast token (item_count vs) → IsIndex token i → IsItem x i vs → ⊥
past_last (inl last) index item = let same = index_once last index in let within = item_within item in omega (arith, same, within)
past_last (inr hyphen) index item = no_hyphen hyphen index

pub stops_there : (stop : Stop) (token : List ℕ) (x : Plain) → Stops stop token x → {rest : List (List ℕ)} {path : List ℕ} {v : Plain} → LeadsFirst x (token ∷ rest) path v → ⊥
stops_there NoMember token x (ms, is, lacks) {rest} {path} {v} l = lacking lacks (at_first (in_object (subst (λ k. LeadsFirst k (token ∷ rest) path v) is l)).at)
stops_there AfterLast token x (vs, is, last) {rest} {path} {v} l = let i = in_array (subst (λ k. LeadsFirst k (token ∷ rest) path v) is l) in past_last last i.index i.item
stops_there PastEnd token x (vs, is, i, index, beyond) {rest} {path} {v} l =
    let a = in_array (subst (λ k. LeadsFirst k (token ∷ rest) path v) is l) in
    let same = index_once index a.index in
    let within = item_within a.item in
    omega (arith, same, within, beyond)
stops_there OtherKind token x (other, no_index) {rest} l = go x other no_index l refl refl
  where
    go : (y : Plain) → ((ms : Members) → x ≡ object ms → ⊥) → ((vs : Items) → x ≡ array vs → ¬ (MayBeIndex token)) → {tokens : List (List ℕ)} {path : List ℕ} {v : Plain} → LeadsFirst y tokens path v → y ≡ x → tokens ≡ token ∷ rest → ⊥
    go _ other no_index to_itself same e = cc
    go _ other no_index (by_name {ms = ms} f l) same e = other ms (sym same)
    go _ other no_index (by_index {token = t} {i = i} {vs = vs} k p l) same e = no_index vs (sym same) (inl (i, subst (λ s. IsIndex s i) (let one : t ≡ token = cc in one) k))

some_same : (x y : Plain) → Some x ≡ Some y → x ≡ y
some_same x y e = cc

-- so far the tokens lead to this node
abbrev pub LeadsWhatShown : {A : Type 0} → CstRootNode A → List (List ℕ) → CstNode → Type 0
LeadsWhatShown doc tokens node = IsOfShown doc (λ d. LeadsToNode d (nodes_of doc) tokens (number_of node))

module _ {A : Type 0} (doc : CstRootNode A) (tree : IsTree (nodes_of doc)) where
  pub begins_first : (node : CstNode) → Some node ≡ value_under doc 0 → LeadsWhatShown doc [] node
  begins_first node e d shown = go (value_at (nodes_of doc) 0) refl e
    where
      go : (q : Option ℕ) → value_at (nodes_of doc) 0 ≡ q → Some node ≡ option_map (typed_at (nodes_of doc)) q → LeadsToNode d (nodes_of doc) [] (number_of node)
      go None is same = cc
      go (Some q) is same =
          let typed_so : typed_at (nodes_of doc) q ≡ node = cc in
          let n : q ≡ number_of node = sym (number_of-typed (content_at (nodes_of doc) q) q) ∙ ap number_of typed_so in
          subst (LeadsToNode d (nodes_of doc) []) n (first_begins d (nodes_of doc) tree shown q is)

  pub begins_nothing : None ≡ value_under doc 0 → (tokens : List (List ℕ)) → IsOfShown doc (IsLed doc tokens led.Nothing)
  begins_nothing e tokens d shown = reached_nothing First doc tree e d shown

  module _ (node : CstNode) (token : List ℕ) where
    number_same : (q : ℕ) (inner : CstNode) → inner ≡ typed_at (nodes_of doc) q → q ≡ number_of inner
    number_same q inner typed_so = sym (number_of-typed (content_at (nodes_of doc) q) q) ∙ ap number_of (sym typed_so)

    pub enter_other : (content_at (nodes_of doc) (number_of node) ≡ content.object → ⊥) → (content_at (nodes_of doc) (number_of node) ≡ content.array → ⊥) → Enters doc node token (entries.Stops OtherKind)
    enter_other no_object no_array d tokens shown w = other_here d (nodes_of doc) tree shown tokens (number_of node) w token no_object no_array

    module _ (is : content_at (nodes_of doc) (number_of node) ≡ content.array) where
      pub enter_element : (q : ℕ) → IsElementBy (nodes_of doc) (number_of node) token (Some q) → (inner : CstNode) → inner ≡ typed_at (nodes_of doc) q → Enters doc node token (entries.There inner)
      enter_element q element inner typed_so d tokens shown w =
          subst (EntersAt (nodes_of doc) (number_of node) w.v token) (number_same q inner typed_so) (enters_element d (nodes_of doc) tree shown tokens (number_of node) w token is element.0 q element.1 element.2)

      pub enter_after : IsElementBy (nodes_of doc) (number_of node) token None → (place : Option ℕ) → IsPlaceBy (nodes_of doc) (number_of node) token (Some place) → Enters doc node token (entries.Stops AfterLast)
      enter_after none place at d tokens shown w = after_last d (nodes_of doc) tree shown tokens (number_of node) w token is none place at

      pub enter_past : IsPlaceBy (nodes_of doc) (number_of node) token None → (i : ℕ) × IsIndex token i → Enters doc node token (entries.Stops PastEnd)
      enter_past at index d tokens shown w = past_end d (nodes_of doc) tree shown tokens (number_of node) w token is at index

      pub enter_no_index : IsPlaceBy (nodes_of doc) (number_of node) token None → ¬ ((i : ℕ) × IsIndex token i) → Enters doc node token (entries.Stops OtherKind)
      enter_no_index at other d tokens shown w = no_index d (nodes_of doc) tree shown tokens (number_of node) w token is at other

    module _ (is : content_at (nodes_of doc) (number_of node) ≡ content.object) where
      pub enter_member : (property : CstNode) → FirstInObject (nodes_of doc) (number_of node) token (Some (number_of property)) → Enters doc node token (entries.There property)
      enter_member property first d tokens shown w = enters_member d (nodes_of doc) tree shown tokens (number_of node) w token is (number_of property) first

      pub enter_missing : FirstInObject (nodes_of doc) (number_of node) token None → Enters doc node token (entries.Stops NoMember)
      enter_missing first d tokens shown w = no_member d (nodes_of doc) tree shown tokens (number_of node) w token is first

    -- the value there
    pub step_element : (entry : CstNode) → (content_at (nodes_of doc) (number_of node) ≡ content.object → ⊥) → Enters doc node token (entries.There entry) → StepsTo doc node token (entries.There entry)
    step_element entry other enters d tokens shown w = leads_element d (nodes_of doc) tree shown tokens (number_of node) w token (number_of entry) (enters d tokens shown w) other

    module _ (entry : CstNode) (is : content_at (nodes_of doc) (number_of node) ≡ content.object) (enters : Enters doc node token (entries.There entry)) where
      pub step_member : (inner : CstNode) → Some inner ≡ value_under doc (number_of entry) → StepsTo doc node token (entries.There inner)
      step_member inner value d tokens shown w =
          (let m = leads_member d (nodes_of doc) tree shown tokens (number_of node) w token (number_of entry) (enters d tokens shown w) is in
          let both : Some inner ≡ Some (typed_at (nodes_of doc) m.0) = value ∙ ap (option_map (typed_at (nodes_of doc))) m.1 in
          subst (LeadsToNode d (nodes_of doc) (tokens ++ token ∷ [])) (number_same m.0 inner (let typed_so : inner ≡ typed_at (nodes_of doc) m.0 = cc in typed_so)) m.2)

      pub step_valueless : None ≡ value_under doc (number_of entry) → StepsTo doc node token (entries.Stops OtherKind)
      step_valueless value d tokens shown w =
          (let m = leads_member d (nodes_of doc) tree shown tokens (number_of node) w token (number_of entry) (enters d tokens shown w) is in
          let both : None ≡ Some (typed_at (nodes_of doc) m.0) = value ∙ ap (option_map (typed_at (nodes_of doc))) m.1 in
          absurd (no_some both))
        where
          no_some : {n : CstNode} → None ≡ Some n → ⊥
          no_some e = cc

  -- so many tokens lead to a node
  module _ (names : List (String A)) (k : ℕ) (node : CstNode) (so_far : LeadsWhatShown doc (names_of (take k names)) node) where
    pub all_led : length names ≤ k → IsOfShown doc (IsLed doc (names_of names) (led.To node))
    all_led h = subst (λ (l : List (String A)). LeadsWhatShown doc (names_of l) node) (take_all k names h) so_far

    module _ (s : String A) (h : k < length names) where
      pub one_led : (inner : CstNode) → StepsTo doc node (chars_of (get_or names k s)) (entries.There inner) → LeadsWhatShown doc (names_of (take (k + 1) names)) inner
      one_led inner step d shown =
          subst (λ (l : List (List ℕ)). LeadsToNode d (nodes_of doc) l (number_of inner)) (sym (one_more names k s h)) (step d (names_of (take k names)) shown (so_far d shown))

      pub stops_led : (stop : Stop) → StepsTo doc node (chars_of (get_or names k s)) (entries.Stops stop) → IsOfShown doc (IsLed doc (names_of names) (led.Stops node k stop))
      stops_led stop step d shown = record {
        front = names_of (take k names);
        token = chars_of (get_or names k s);
        rest = names_of (drop (k + 1) names);
        split = split_at names k s h;
        is = so_many;
        leads = so_far d shown;
        stops = step d (names_of (take k names)) shown (so_far d shown);
      }
        where
          so_many : k ≡ length (names_of (take k names))
          so_many = sym (length-map (take k names) chars_of ∙ length-take-le k names (omega (arith, h)))

      pub escaped_led : HoldsEscapedName (nodes_of doc) (number_of node) → IsOfShown doc (λ d. PassesEscaped d (nodes_of doc) (names_of names))
      escaped_led escaped d shown = record {
        front = names_of (take k names);
        token = chars_of (get_or names k s);
        rest = names_of (drop (k + 1) names);
        split = split_at names k s h;
        object = number_of node;
        leads = so_far d shown;
        escaped = escaped;
      }

  -- the entry at the last token
  module _ (all front : List (List ℕ)) (last : List ℕ) (split : all ≡ front ++ last ∷ []) where
    module _ (container : CstNode) (to : LeadsWhatShown doc front container) where
      pub entry_found : (entry : CstNode) → Enters doc container last (entries.There entry) → IsOfShown doc (FindsEntry doc all (Some entry))
      entry_found entry enters d shown =
          let w = to d shown in
          let e = enters d front shown w in
          record { front = front; last = last; split = split; container = number_of container; to = w; place = e.place; v = e.v; leads = e.leads; is = e.is }

      pub entry_missing : (stop : Stop) → Enters doc container last (entries.Stops stop) → IsOfShown doc (FindsEntry doc all None)
      entry_missing stop enters d shown path v (x, is, l) =
          let w = to d shown in
          let top : x ≡ w.value = some_same x w.value (sym is ∙ w.is) in
          let rest = first_behind (last ∷ []) w.leads (subst (λ k. LeadsFirst k (front ++ last ∷ []) path v) top (subst (λ k. LeadsFirst x k path v) split l)) in
          absurd (stops_there stop last w.v (enters d front shown w) rest.1)

      pub escaped_last : HoldsEscapedName (nodes_of doc) (number_of container) → IsOfShown doc (λ d. PassesEscaped d (nodes_of doc) all)
      escaped_last escaped d shown = record { front = front; token = last; rest = []; split = split; object = number_of container; leads = to d shown; escaped = escaped }

    pub escaped_front : IsOfShown doc (λ d. PassesEscaped d (nodes_of doc) front) → IsOfShown doc (λ d. PassesEscaped d (nodes_of doc) all)
    escaped_front passes d shown =
        let p = passes d shown in
        record { front = p.front; token = p.token; rest = p.rest ++ last ∷ []; split = split ∙ ap (λ l. l ++ last ∷ []) p.split ∙ append_assoc p.front (p.token ∷ p.rest) (last ∷ []); object = p.object; leads = p.leads; escaped = p.escaped }

    pub front_missing : IsOfShown doc (IsLed doc front led.Nothing) → IsOfShown doc (FindsEntry doc all None)
    front_missing none d shown path v (x, is, l) = let wrong : None ≡ Some x = sym (none d shown) ∙ is in absurd (no_value wrong)
      where
        no_value : {y : Plain} → None ≡ Some y → ⊥
        no_value e = cc

    pub front_stops : (node : CstNode) (number : ℕ) (stop : Stop) → IsOfShown doc (IsLed doc front (led.Stops node number stop)) → IsOfShown doc (FindsEntry doc all None)
    front_stops node number stop stops d shown path v (x, is, l) =
        let s = stops d shown in
        let top : x ≡ s.leads.value = some_same x s.leads.value (sym is ∙ s.leads.is) in
        let whole : all ≡ s.front ++ (s.token ∷ s.rest ++ last ∷ []) = split ∙ ap (λ k. k ++ last ∷ []) s.split ∙ append_assoc s.front (s.token ∷ s.rest) (last ∷ []) in
        let rest = first_behind (s.token ∷ s.rest ++ last ∷ []) s.leads.leads (subst (λ k. LeadsFirst k (s.front ++ (s.token ∷ s.rest ++ last ∷ [])) path v) top (subst (λ k. LeadsFirst x k path v) whole l)) in
        absurd (stops_there stop s.token s.leads.v s.stops rest.1)

-- where no element is the one of the token, by the place that was found for another
module _ {A : Type 0} (doc : CstRootNode A) (tree : IsTree (nodes_of doc)) (node : CstNode) (token : List ℕ) (is : content_at (nodes_of doc) (number_of node) ≡ content.array) where
  pub enter_after_some : IsElementBy (nodes_of doc) (number_of node) token None → (o : Option (Option ℕ)) → IsPlaceBy (nodes_of doc) (number_of node) token o → is_some o ≡ true → Enters doc node token (entries.Stops AfterLast)
  enter_after_some none None at e = absurd (false≢true e)
  enter_after_some none (Some place) at e = enter_after doc tree node token is none place at

  pub enter_past_none : (o : Option (Option ℕ)) → IsPlaceBy (nodes_of doc) (number_of node) token o → is_some o ≡ false → (b : Bool) → Decides b ((i : ℕ) × IsIndex token i) → b ≡ true → Enters doc node token (entries.Stops PastEnd)
  enter_past_none (Some place) at e b index so = absurd (false≢true (sym e))
  enter_past_none None at e b index so = enter_past doc tree node token is at (index.0 so)

  pub enter_no_index_none : (o : Option (Option ℕ)) → IsPlaceBy (nodes_of doc) (number_of node) token o → is_some o ≡ false → (b : Bool) → Decides b ((i : ℕ) × IsIndex token i) → b ≡ false → Enters doc node token (entries.Stops OtherKind)
  enter_no_index_none (Some place) at e b index so = absurd (false≢true (sym e))
  enter_no_index_none None at e b index so = enter_no_index doc tree node token is at (λ x. false≢true (sym so ∙ index.1 x))

-- what an object's look-up found
module _ {A : Type 0} (doc : CstRootNode A) (tree : IsTree (nodes_of doc)) (node : CstNode) (token : List ℕ) (object : CstObject) (held : HasNode doc node) (is : node ≡ object_node object) where
  content_so : content_at (nodes_of doc) (number_of (object_node object)) ≡ content.object
  content_so = is_object doc tree object (subst (HasNode doc) is held)

  pub enter_got : (p : CstObjectProp) → IsChosenNamed First doc object token (Some p) → (entry : CstNode) → entry ≡ object_prop_node p → Enters doc node token (entries.There entry)
  enter_got p first entry same =
      subst (λ k. Enters doc k token (entries.There entry)) (sym is)
      (subst (λ e. Enters doc (object_node object) token (entries.There e)) (sym same) (enter_member doc tree (object_node object) token content_so (object_prop_node p) first))

  pub enter_got_none : IsChosenNamed First doc object token None → Enters doc node token (entries.Stops NoMember)
  enter_got_none first = subst (λ k. Enters doc k token (entries.Stops NoMember)) (sym is) (enter_missing doc tree (object_node object) token content_so first)
