-- One edit of a node of a sound document: the place of the node, and the step that the edit is.
use Rattle.std.proofs.Common.{◌≡◌, ℕ, zero, suc, ◌<◌, true, false, cond, List, [], ◌∷◌, ◌++◌, length, filter, slice_get, slice_index, Some, None, IsTrue, append-nil, sym, ap, subst, ◌∙◌, arith}
use Rattle.std.proofs.lemmas.Bool.{false≢true}
use Rattle.std.proofs.lemmas.List.{append_assoc}
use Rattle.std.proofs.lemmas.List.Concat.{flat_map-append}
use Rattle.std.proofs.lemmas.List.Elements.{All-nil, All-cons, filter-append}
use Rattle.std.specs.List.{All, flat_map}
use Rattle.jsonc_text.specs.Options.{Options}
use Rattle.jsonc_tree.specs.Content as content
use Rattle.jsonc_tree.specs.Content.{Content}
use Rattle.jsonc_tree.specs.Order.{in_order}
use Rattle.jsonc_tree.specs.OrderedTree.{ordered_tree}
use Rattle.jsonc_tree.specs.Tree.{Node, content_at, parent_at, children_at, place_at, IsTree, IsOver}
use Rattle.jsonc_tree.specs.Values.{is_passed_over}
use Rattle.jsonc_tree.proofs.Order.{in_order_is, parent_there}
use Rattle.jsonc_layout.specs.nodes.Kinds.{is_comment_at}
use Rattle.jsonc_sound.specs.SoundTrees.{SoundTree}
use Rattle.jsonc_edit.specs.Paths.{IsAt, IsElementOf, LeadsTo, StepsTo, itself, step, as_root, as_value, as_property, as_name, between}
use Rattle.jsonc_edit.proofs.ShapedPlaces.{all_stand, at_further}
use Rattle.jsonc_edit.proofs.Uniqueness.{element_parent}
use Rattle.jsonc_insert.specs.named.Places.{IsPropertyAt, a_property}
use Rattle.jsonc_run.specs.Edits.{PlainEdit, none_made, first_made, EditStep, IsOfCharacters, Allows}
use Rattle.jsonc_run.specs.Places.{IsEntryAt, the_value, an_entry, IsEntryOf}
use Rattle.jsonc_run.specs.promise.Steps.{IsCommentAt, IsNoPart, IsStep, IsStepOf}
use Rattle.jsonc_run.specs.promise.Chains.{NamedRun, none_named, one_named}
use Rattle.jsonc_run.specs.Named.{Asks}
use Rattle.jsonc_run.specs.texts.Edits.{Operation, Run}
use Rattle.jsonc_text.specs.Documents.{Document}
use Rattle.jsonc_insert.proofs.Numbering.{at_seam}
use Rattle.jsonc_run.proofs.lemmas.promise.Leads.{edits_lead}

-- a node that is neither the root nor passed over
abbrev pub IsKind : Content → Type 0
IsKind c = (c ≡ content.root → ⊥) × (is_passed_over c ≡ false)

module _ (ns : List Node) (tree : IsTree ns) where
  -- what holds a node of the document is one too
  pub over_parent : (n r : ℕ) → IsOver ns 0 n → parent_at ns n ≡ Some r → IsOver ns 0 r
  over_parent _ r IsOver.itself said = absurd (let wrong : None ≡ Some r = sym tree.root_alone ∙ said in cc)
  over_parent n r (IsOver.above {c = c} parent rest) said = let same : Some c ≡ Some r = sym parent ∙ said in let it : c ≡ r = cc in subst (IsOver ns 0) it rest

  -- what a path leads to, and is no part of a property, is an entry of an array, or the document's value
  entry_from : (n p : ℕ) (front path : List ℕ) → IsAt ns front p → (IsNoPart ns p → IsEntryAt ns front p) → LeadsTo ns n p path → IsNoPart ns n → (q : List ℕ) × IsEntryAt ns q n
  entry_from n _ front _ at entry itself alone = (front, entry alone)
  entry_from n p front _ at entry (step {i = i} {q = q} {path = path} (StepsTo.in_array a e) rest) alone =
      entry_from n q (front ++ i ∷ []) path (at_further ns p i q front at (StepsTo.in_array a e)) (λ no. an_entry front p i at (IsEntryOf.in_array a e)) rest alone
  entry_from n p front _ at entry (step {i = i} {q = q} {path = path} (StepsTo.in_object {r = r} a e h) rest) alone =
      entry_from n q (front ++ i ∷ []) path (at_further ns p i q front at (StepsTo.in_object {r = r} a e h)) (λ no. absurd (no r (element_parent ns tree r 1 q h.1) h.0)) rest alone

  value_entry : (n : ℕ) (path : List ℕ) → IsAt ns path n → IsNoPart ns n → (q : List ℕ) × IsEntryAt ns q n
  value_entry n path (v, e, leads) alone = entry_from n v [] path (v, e, itself) (λ no. the_value (v, e, itself)) leads alone

module _ (o : Options) (ns : List Node) (tree : IsTree ns) (sound : SoundTree o (ordered_tree ns 0)) where
  not_first : (n : ℕ) → IsKind (content_at ns n) → n ≡ 0 → ⊥
  not_first n kind e = kind.0 (ap (content_at ns) e ∙ tree.root_first)

  -- a value has a path
  pub value_place : (n : ℕ) → IsOver ns 0 n → IsKind (content_at ns n) → (content_at ns n ≡ content.property → ⊥)
      → ((r : ℕ) → IsOver ns 0 r → content_at ns r ≡ content.property → IsElementOf ns r 0 n → ⊥) → (path : List ℕ) × IsAt ns path n
  value_place n over kind other unnamed =
      elim (all_stand o ns tree sound.shaped n over) [
        | as_root e ↦ absurd (not_first n kind e)
        | as_value {path = path} at ↦ (path, at)
        | as_property i at outer element is ↦ absurd (other is)
        | as_name r is element ↦ absurd (unnamed r (over_parent ns tree n r over (element_parent ns tree r 0 n element)) is element)
        | between h ↦ absurd (false≢true (sym kind.1 ∙ h))
      ]

  -- and so has a property
  pub property_place : (n : ℕ) → IsOver ns 0 n → content_at ns n ≡ content.property → ((path : List ℕ) → IsAt ns path n → ⊥)
      → ((r : ℕ) → IsOver ns 0 r → content_at ns r ≡ content.property → IsElementOf ns r 0 n → ⊥) → (path : List ℕ) × IsPropertyAt ns path n
  property_place n over is other unnamed =
      elim (all_stand o ns tree sound.shaped n over) [
        | as_root e ↦ absurd (let wrong : content.property ≡ content.root = sym is ∙ ap (content_at ns) e ∙ tree.root_first in cc)
        | as_value {path = path} at ↦ absurd (other path at)
        | as_property {path = path} {p = p} i at outer element named ↦ (path ++ i ∷ [], a_property path p i at (record { of_object = outer; element = element; is = named }))
        | as_name r named element ↦ absurd (unnamed r (over_parent ns tree n r over (element_parent ns tree r 0 n element)) named element)
        | between h ↦ absurd (let wrong : IsTrue (is_passed_over content.property) = subst (λ c. IsTrue (is_passed_over c)) is h in cc)
      ]

  -- an entry of an array or object, or the document's value, has a path
  pub entry_place : (n : ℕ) → IsOver ns 0 n → IsKind (content_at ns n) → IsNoPart ns n → (path : List ℕ) × IsEntryAt ns path n
  entry_place n over kind alone =
      elim (all_stand o ns tree sound.shaped n over) [
        | as_root e ↦ absurd (not_first n kind e)
        | as_value {path = path} at ↦ value_entry ns tree n path at alone
        | as_property {path = path} {p = p} i at outer element named ↦ (path ++ i ∷ [], an_entry path p i at (IsEntryOf.in_object (record { of_object = outer; element = element; is = named })))
        | as_name r named element ↦ absurd (alone r (element_parent ns tree r 0 n element) named)
        | between h ↦ absurd (false≢true (sym kind.1 ∙ h))
      ]

-- a child splits its row
split_at : (xs : List ℕ) (k n : ℕ) → k < length xs → slice_index xs k ≡ n → (front : List ℕ) × (back : List ℕ) × (xs ≡ front ++ n ∷ back)
split_at [] k n h e = absurd (omega arith)
split_at (x ∷ xs) zero n h e = ([], xs, ap (λ y. y ∷ xs) e)
split_at (x ∷ xs) (suc k) n h e = let r = split_at xs k n (omega arith) e in (x ∷ r.0, r.1, ap (λ l. x ∷ l) r.2)

regroup : (f t m d b : List ℕ) (q : ℕ) → f ++ ((q ∷ (t ++ (m ++ d))) ++ b) ≡ (f ++ (q ∷ t)) ++ (m ++ (d ++ b))
regroup f t m d b q = ap (λ (l : List ℕ). f ++ (q ∷ l)) (append_assoc t (m ++ d) b ∙ ap (λ l. t ++ l) (append_assoc m d b)) ∙ sym (append_assoc f (q ∷ t) (m ++ (d ++ b)))

module _ (ns : List Node) (tree : IsTree ns) where
  there : (n : ℕ) → IsOver ns 0 n → n < length ns
  there _ IsOver.itself = tree.first
  there n (IsOver.above {c = p} said rest) = (parent_there ns tree n p said).0

  -- in the order of the document a node of it stands with all below it
  within : (n : ℕ) → IsOver ns 0 n → (front : List ℕ) × (back : List ℕ) × (in_order ns 0 ≡ front ++ (in_order ns n ++ back))
  within _ IsOver.itself = ([], [], sym (append-nil (in_order ns 0)))
  within n (IsOver.above {c = p} said over) =
      let up = within p over in
      let cut = split_at (children_at ns p) (place_at ns n) n (tree.within n p said) (tree.found n p said) in
      let below : in_order ns p ≡ p ∷ (flat_map (in_order ns) cut.0 ++ (in_order ns n ++ flat_map (in_order ns) cut.1)) =
      in_order_is ns tree p (there p over) ∙ ap (λ l. p ∷ flat_map (in_order ns) l) cut.2 ∙ ap (λ (l : List ℕ). p ∷ l) (flat_map-append (in_order ns) cut.0 (n ∷ cut.1)) in
      (up.0 ++ (p ∷ flat_map (in_order ns) cut.0), flat_map (in_order ns) cut.1 ++ up.1, up.2 ∙ ap (λ l. up.0 ++ (l ++ up.1)) below ∙ regroup up.0 (flat_map (in_order ns) cut.0) (in_order ns n) (flat_map (in_order ns) cut.1) up.1 p)

  -- a comment of the document has a number
  pub comment_place : (n : ℕ) → IsOver ns 0 n → is_comment_at ns n ≡ true → (number : ℕ) × IsCommentAt ns number n
  comment_place n over is =
      let w = within n over in
      let rest : List ℕ = flat_map (in_order ns) (children_at ns n) ++ w.1 in
      let order : in_order ns 0 ≡ w.0 ++ n ∷ rest = w.2 ∙ ap (λ l. w.0 ++ (l ++ w.1)) (in_order_is ns tree n (there n over)) in
      let met : filter (is_comment_at ns) (in_order ns 0) ≡ filter (is_comment_at ns) w.0 ++ n ∷ filter (is_comment_at ns) rest =
      ap (filter (is_comment_at ns)) order ∙ filter-append (is_comment_at ns) w.0 (n ∷ rest)
      ∙ ap (λ b. filter (is_comment_at ns) w.0 ++ cond b (n ∷ filter (is_comment_at ns) rest) (filter (is_comment_at ns) rest)) is in
      let number : ℕ = length (filter (is_comment_at ns) w.0) in
      (number, ap (λ l. slice_get l number) met ∙ at_seam (filter (is_comment_at ns) w.0) (filter (is_comment_at ns) rest) n)

-- what is so of one is so of a list of it alone
one_only : {A : Type 0} (P : A → Type 0) (x : A) → P x → All P (x ∷ [])
one_only P x h = All-cons P x [] h (All-nil P)

-- one edit leads by the operation that it asks for
asked_alone : {T : Document → Type 0} (d e : Document) (asked : PlainEdit) (ops : List Operation) → NamedRun d (asked ∷ []) ops e → T e → (f : Document) × T f × (op : Operation) × Asks d.value asked op × Run d (op ∷ []) f
asked_alone d e asked _ (one_named {op = op} named asks run (none_named last)) shown = (e, shown, op, asks, run)

module _ (old new : List Node) (tree : IsTree old) (after : IsTree new) where
  -- an edit that was made is a step
  pub made_leads : (op : PlainEdit) → IsOfCharacters op → EditStep old op new → IsStepOf op old new
  made_leads op characters made = λ d shown fit.
      let lead = edits_lead old new (op ∷ []) tree (first_made made after none_made) (one_only IsOfCharacters op characters) d shown (one_only (Allows d.options) op fit) in
      asked_alone d lead.0 op lead.2 lead.4 lead.1

  -- and of a node that has its place one at that place
  pub made_step : {P : Type 0} (At : List Node → P → ℕ → Type 0) (op : P → PlainEdit) (n : ℕ) → ((p : P) → IsOfCharacters (op p))
      → ((o : Options) → SoundTree o (ordered_tree old 0) → IsOver old 0 n → (p : P) × At old p n) → ((p : P) → IsOver old 0 n → At old p n → EditStep old (op p) new) → IsStep At op old new n
  made_step At op n characters place made = λ over d shown.
      let at = place d.options shown.sound over in
      (at.0, at.1, made_leads (op at.0) (characters at.0) (made at.0 over at.1) d shown)
