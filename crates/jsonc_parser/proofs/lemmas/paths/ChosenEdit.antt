-- The one edit that is chosen puts the value.
use Rattle.std.proofs.Common.{ℕ, ◌≡◌, ◌≢◌, ◌<◌, ◌+◌, ◌-◌, ◌++◌, ◌∙◌, ◌==◌, true, false, List, [], ◌∷◌, Option, Some, None, Result, Ok, Err, IfOk, sym, ap, subst, refl, drop, take, length, get_or, arith}
use Rattle.std.proofs.lemmas.Bool.{eqb-true}
use Rattle.std.proofs.lemmas.List.{drop_more, drop-map, take-append-drop, take_rest}
use Rattle.std.specs.declared.string.String.{String}
use Rattle.std.specs.declared.vec.Vec.{Vec}
use Rattle.jsonc_text.specs.Documents.{Document}
use Rattle.jsonc_text.specs.Plain as plains
use Rattle.jsonc_text.specs.Plain.{Plain, Members}
use Rattle.jsonc_layout.specs.input.Views.{chars_of, plain}
use Rattle.jsonc_layout.specs.declared.input.value.CstInputValue.{CstInputValue}
use Rattle.jsonc_sound.specs.Documents.{Shows}
use Rattle.jsonc_text.specs.declared.edit.Over.{Over}
use Rattle.jsonc_text.specs.declared.edit.Over.TheVariants.{Keep, Replace}
use Rattle.jsonc_insert.specs.named.Members.{LacksMember}
use Rattle.jsonc_run.specs.declared.edit.Edit.{Edit}
use Rattle.jsonc_run.specs.declared.edit.Edit.TheVariants as edits
use Rattle.jsonc_run.specs.Edits.{PlainEdit, append_property, replace, set_root, set_value}
use Rattle.jsonc_cst.specs.declared.cst.CstRootNode.{CstRootNode}
use Rattle.jsonc_cst.specs.Document.{tree_of}
use Rattle.jsonc_parser.specs.paths.Choices.{Chooses, IsAppending}
use Rattle.jsonc_parser.specs.paths.Found.{names_of}
use Rattle.jsonc_parser.specs.paths.Positions.{Leads, IsPutBy, sets_root, sets_first, sets_value, appends, replaces}
use Rattle.jsonc_parser.specs.paths.Reach.{ReachesTo}
use Rattle.jsonc_parser.specs.paths.Settings.{At, nest, IsNoObject, IsInTheWay}
use Rattle.jsonc_parser.specs.paths.NamedNodes.{NamesNothing}
use Rattle.jsonc_parser.specs.paths.Which.{seen, seen_if}
use Rattle.jsonc_parser.specs.declared.paths.which.Which.{Which}
use Rattle.jsonc_parser.specs.declared.paths.which.Which.TheVariants.{First}
use Rattle.jsonc_parser.proofs.lemmas.paths.Chosen.{seen_some}
use Rattle.jsonc_parser.proofs.lemmas.paths.Paths.{in_members, no_object_inside}
use Rattle.jsonc_parser.proofs.lemmas.paths.LongestPrefix.{in_the_way, lacking}
use Rattle.jsonc_parser.proofs.lemmas.paths.NodesAtNames.{behind}

-- the names as those before the one of this number, it, and the rest
pub split_to : (which : Which) (d : Document) (names : List (List ℕ)) (path : List ℕ) (count : ℕ) (z : Plain) (to : ReachesTo which d names path count z) → take count names ++ to.name ∷ drop (count + 1) names ≡ names
split_to which d names path count z to = ap (λ l. take count names ++ l) (sym to.next) ∙ take-append-drop count names

module _ (which : Which) (v : Plain) (over : Over) where
  first_by : (w : Option Plain) (names : List (List ℕ)) → w ≡ None → IsPutBy which v over w names (set_root (nest names v))
  first_by w [] e = sets_root
  first_by w (name ∷ names) e = subst (λ (k : Option Plain). IsPutBy which v over k (name ∷ names) (set_root (nest (name ∷ names) v))) (sym e) sets_first

  value_by : (w : Option Plain) (names : List (List ℕ)) (path : List ℕ) (x was : Plain) → names ≢ [] → w ≡ Some x → Leads which names path x was → IsPutBy which v over w names (set_value path v)
  value_by w [] path x was some e l = absurd (some refl)
  value_by w (name ∷ names) path x was some e l = subst (λ (k : Option Plain). IsPutBy which v over k (name ∷ names) (set_value path v)) (sym e) (sets_value l)

  appends_by : (d : Document) (names : List (List ℕ)) (path : List ℕ) (count : ℕ) (ms : Members) (to : ReachesTo which d names path count (plains.object ms)) → LacksMember to.name ms
      → IsPutBy which v over d.value names (append_property path to.name (nest (drop (count + 1) names) v))
  appends_by d names path count ms to lacks =
      let op : PlainEdit = append_property path to.name (nest (drop (count + 1) names) v) in
      subst (λ (k : Option Plain). IsPutBy which v over k names op) (sym to.is)
      (subst (λ (l : List (List ℕ)). IsPutBy which v over (Some to.x) l op) (split_to which d names path count (plains.object ms) to) (appends (take count names) (drop (count + 1) names) to.leads lacks))

  replaces_by : (d : Document) (names : List (List ℕ)) (path : List ℕ) (count : ℕ) (z : Plain) → ReachesTo which d names path count z → IsNoObject z → over ≡ Replace
      → IsPutBy which v over d.value names (replace path (nest (drop count names) v))
  replaces_by d names path count z to non how =
      let op : PlainEdit = replace path (nest (to.name ∷ drop (count + 1) names) v) in
      subst (λ (l : List (List ℕ)). IsPutBy which v over d.value names (replace path (nest l v))) (sym to.next)
      (subst (λ (k : Option Plain). IsPutBy which v over k names op) (sym to.is)
      (subst (λ (l : List (List ℕ)). IsPutBy which v over (Some to.x) l op) (split_to which d names path count z to) (replaces (take count names) (drop (count + 1) names) to.leads non how)))

  kept_by : (d : Document) (names : List (List ℕ)) (path : List ℕ) (count : ℕ) (z : Plain) → ReachesTo which d names path count z → IsNoObject z → IsInTheWay (seen_if which d.value) names
  kept_by d names path count z to non =
      subst (λ (k : Option Plain). IsInTheWay (seen_if which k) names) (sym to.is)
      (subst (λ (k : Option Plain). IsInTheWay k names) (sym (seen_some which to.x))
      (subst (λ (l : List (List ℕ)). IsInTheWay (Some (seen which to.x)) l) (split_to which d names path count z to) (in_the_way to.name (drop (count + 1) names) to.leads non)))

module _ {A : Type 0} (which : Which) (doc : CstRootNode A) (v : Plain) (over : Over) (names : List (List ℕ)) where
  pub chosen_first : (new : CstInputValue A) → plain new ≡ nest names v → ((d : Document) → Shows d (tree_of doc) → d.value ≡ None) → Chooses which doc v over names (Some (edits.SetRoot new))
  chosen_first new same nothing = (refl, λ d shown. subst (λ (p : Plain). IsPutBy which v over d.value names (set_root p)) (sym same) (first_by which v over d.value names (nothing d shown)))

  pub chosen_root : (new : CstInputValue A) → plain new ≡ v → names ≡ [] → Chooses which doc v over names (Some (edits.SetRoot new))
  chosen_root new same empty =
      (refl, λ d shown. subst (λ (p : Plain). IsPutBy which v over d.value names (set_root p)) (sym same) (subst (λ (l : List (List ℕ)). IsPutBy which v over d.value l (set_root v)) (sym empty) sets_root))

  pub chosen_value : (path : Vec ℕ A) (new : CstInputValue A) → plain new ≡ v → names ≢ [] → ((d : Document) → Shows d (tree_of doc) → (x was : Plain) × (d.value ≡ Some x) × Leads which names path.items x was)
      → Chooses which doc v over names (Some (edits.SetValue path new))
  chosen_value path new same some reached =
      (refl, λ d shown. (let r = reached d shown in subst (λ (p : Plain). IsPutBy which v over d.value names (set_value path.items p)) (sym same) (value_by which v over d.value names path.items r.0 r.1 some r.2 r.3)))

  pub chosen_append : (path : List ℕ) (count : ℕ) (r : Option (Edit A)) → IsAppending path names count v r
      → ((d : Document) → Shows d (tree_of doc) → (ms : Members) × (to : ReachesTo which d names path count (plains.object ms)) × LacksMember to.name ms) → Chooses which doc v over names r
  chosen_append path count None appending reached = absurd appending
  chosen_append path count (Some edit) appending reached = (
    appending.0,
    λ d shown. (let r = reached d shown in
        subst (λ (op : PlainEdit). IsPutBy which v over d.value names op) (sym (appending.1 r.1.name r.1.next)) (appends_by which v over d names path count r.0 r.1 r.2)),
  )

  pub chosen_kept : (path : List ℕ) (count : ℕ) → over ≡ Keep → ((d : Document) → Shows d (tree_of doc) → (z : Plain) × ReachesTo which d names path count z × IsNoObject z) → Chooses which doc v over names None
  chosen_kept path count keep reached d shown = let r = reached d shown in (keep, kept_by which v over d names path count r.0 r.1 r.2)

  pub chosen_replace : (path : Vec ℕ A) (count : ℕ) (new : CstInputValue A) → plain new ≡ nest (drop count names) v → over ≡ Replace
      → ((d : Document) → Shows d (tree_of doc) → (z : Plain) × ReachesTo which d names path.items count z × IsNoObject z) → Chooses which doc v over names (Some (edits.Replace path new))
  chosen_replace path count new same how reached =
      (refl, λ d shown. (let r = reached d shown in subst (λ (p : Plain). IsPutBy which v over d.value names (replace path.items p)) (sym same) (replaces_by which v over d names path.items count r.0 r.1 r.2 how)))

module _ {A : Type 0} (names : List (String A)) (count : ℕ) (s : String A) (h : count < length names) where
  -- the name of this number, and the rest
  pub here : drop count (names_of names) ≡ chars_of (get_or names count s) ∷ names_of (drop (count + 1) names)
  here = drop-map chars_of count names ∙ ap names_of (drop_more names count s h)

  pub appends_so : (path : Vec ℕ A) (name : String A) (new : CstInputValue A) (v : Plain) → chars_of name ≡ chars_of (get_or names count s) → plain new ≡ nest (names_of (drop (count + 1) names)) v
      → IsAppending path.items (names_of names) count v (Some (edits.AppendProperty path name new))
  appends_so path name new v same nested = (
    refl,
    λ n next.
        (let both : chars_of (get_or names count s) ∷ names_of (drop (count + 1) names) ≡ n ∷ drop (count + 1) (names_of names) = sym here ∙ next in
        let one : chars_of (get_or names count s) ≡ n = cc in
        let rest : names_of (drop (count + 1) names) ≡ drop (count + 1) (names_of names) = cc in
        ap (λ m. append_property path.items m (plain new)) (same ∙ one) ∙ ap (λ p. append_property path.items n p) (nested ∙ ap (λ l. nest l v) rest)),
  )

-- there are no names, or some
pub no_names : {A : Type 0} (names : List (String A)) → (length names == 0) ≡ true → names_of names ≡ []
no_names [] e = refl
no_names (s ∷ ss) e = let none : length (s ∷ ss) ≡ 0 = eqb-true (length (s ∷ ss)) 0 e in absurd (omega (arith, none))

pub some_names : {A : Type 0} (names : List (String A)) → (length names == 0) ≡ false → names_of names ≢ []
some_names [] e is = let wrong : true ≡ false = e in cc
some_names (s ∷ ss) e is = cc

-- what was answered
pub chosen_result : {A E : Type 0} (which : Which) (doc : CstRootNode A) (v : Plain) (over : Over) (names : List (List ℕ)) (path : List ℕ) (count : ℕ) (r : Result (Option (Edit A)) E) → IfOk r (IsAppending path names count v)
    → ((d : Document) → Shows d (tree_of doc) → (ms : Members) × (to : ReachesTo which d names path count (plains.object ms)) × LacksMember to.name ms) → IfOk r (Chooses which doc v over names)
chosen_result which doc v over names path count (Ok x) appending reached = chosen_append which doc v over names path count x appending reached
chosen_result which doc v over names path count (Err e) appending reached = tt

-- the names from one of them on, as a slice takes them
pub sliced : {A : Type 0} (names : List (String A)) (k : ℕ) (w v : Plain) → w ≡ nest (names_of (take (length names - k) (drop k names))) v → w ≡ nest (names_of (drop k names)) v
sliced {A} names k w v h = h ∙ ap (λ (l : List (String A)). nest (names_of l) v) (take_rest names k)

-- what is nested of the rest of the names
pub nested_rest : {A : Type 0} (names : List (String A)) (count : ℕ) (w v : Plain) → w ≡ nest (names_of (drop count names)) v → w ≡ nest (drop count (names_of names)) v
nested_rest names count w v h = h ∙ ap (λ (l : List (List ℕ)). nest l v) (sym (drop-map chars_of count names))

-- nothing is at names that lead to an object without the next of them, or to another value
module _ (d : Document) (names : List (List ℕ)) (path : List ℕ) (count : ℕ) where
  behind_reached : (z : Plain) (to : ReachesTo First d names path count z) (u : Plain) → At d.value names u → At (Some z) (to.name ∷ drop (count + 1) names) u
  behind_reached z to u a =
      behind (to.name ∷ drop (count + 1) names) to.leads
      (subst (λ (l : List (List ℕ)). At (Some to.x) l u) (sym (split_to First d names path count z to)) (subst (λ (w : Option Plain). At w names u) to.is a))

  pub nothing_missing : (ms : Members) (to : ReachesTo First d names path count (plains.object ms)) → LacksMember to.name ms → NamesNothing First d names
  nothing_missing ms to lacks u a = lacking lacks (in_members (behind_reached (plains.object ms) to u a)).1

  pub nothing_another : (z : Plain) → ReachesTo First d names path count z → IsNoObject z → NamesNothing First d names
  nothing_another z to non u a = no_object_inside non (behind_reached z to u a)
