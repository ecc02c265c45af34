-- What stands in the rows of a document's shape: trivia and tokens, and behind so many elements a value, a property or a name.
use Rattle.std.proofs.Common.{◌≡◌, ℕ, suc, not, false, List, ◌⊎◌, inl, inr, IsTrue, refl, sym, ap, subst, ◌∙◌}
use Rattle.std.proofs.lemmas.Bool.{false≢true}
use Rattle.jsonc_text.specs.Options.{Options}
use Rattle.jsonc_tree.specs.Content.{Content, is_container}
use Rattle.jsonc_tree.specs.OrderedTree.{OrderedTree, none, more}
use Rattle.jsonc_tree.specs.Values.{is_passed_over}
use Rattle.jsonc_sound.specs.Shape.{IsTrivia, Trivia, nothing, trivia, Separated, comma, no_comma, Closed, plain, trailing_comma, token_then, printed_text, ValueShaped, ElementsShaped, PropertiesShaped, PropertyShaped, DocumentShaped, no_value, a_value}
use Rattle.jsonc_sound.specs.TreeChanges.{IsElement}
use Rattle.jsonc_sound.proofs.FirstNodes.{value_element, name_element}

-- in the row stands, behind so many elements, a node of this content over these
pub data Entry (content : Content) (below : OrderedTree) : ℕ → OrderedTree → Type 0 where
  this : {after : OrderedTree} → Entry content below 0 (more content below after)
  behind_passed : {i : ℕ} {other : Content} {under after : OrderedTree} → IsTrue (is_passed_over other) → Entry content below i after → Entry content below i (more other under after)
  behind_element : {i : ℕ} {other : Content} {under after : OrderedTree} → IsElement other → Entry content below i after → Entry content below (suc i) (more other under after)

abbrev pub Passed : Content → Type 0
Passed content = IsTrue (is_passed_over content)

abbrev pub IsAnyValue : Options → Content → OrderedTree → Type 0
IsAnyValue o content below = (r : List ℕ) × ValueShaped o content below r

abbrev pub IsAnyProperty : Options → OrderedTree → Type 0
IsAnyProperty o below = (r : List ℕ) × PropertyShaped o below r

pub not_both : (content : Content) → Passed content → IsElement content → ⊥
not_both content h k = false≢true (sym (ap not h) ∙ k)

-- what is passed over has no children
pub passed_leaf : (content : Content) → Passed content → is_container content ≡ false
passed_leaf (Content.whitespace s) h = refl
passed_leaf (Content.newline k) h = refl
passed_leaf (Content.comment s) h = refl
passed_leaf (Content.token c) h = refl
passed_leaf Content.root h = absurd (false≢true h)
passed_leaf Content.object h = absurd (false≢true h)
passed_leaf Content.array h = absurd (false≢true h)
passed_leaf Content.property h = absurd (false≢true h)
passed_leaf (Content.string s) h = absurd (false≢true h)
passed_leaf (Content.word s) h = absurd (false≢true h)
passed_leaf (Content.number s) h = absurd (false≢true h)
passed_leaf (Content.boolean b) h = absurd (false≢true h)
passed_leaf Content.null h = absurd (false≢true h)

pub trivia_passed : (o : Options) (content : Content) → IsTrivia o content → Passed content
trivia_passed o (Content.whitespace s) h = refl
trivia_passed o (Content.newline k) h = refl
trivia_passed o (Content.comment s) h = refl
trivia_passed o (Content.token c) h = refl
trivia_passed o Content.root h = absurd h
trivia_passed o Content.object h = absurd h
trivia_passed o Content.array h = absurd h
trivia_passed o Content.property h = absurd h
trivia_passed o (Content.string s) h = absurd h
trivia_passed o (Content.word s) h = absurd h
trivia_passed o (Content.number s) h = absurd h
trivia_passed o (Content.boolean b) h = absurd h
trivia_passed o Content.null h = absurd h

otherwise : {A B C : Type 0} → A ⊎ B → (B → A ⊎ C) → A ⊎ C
otherwise (inl a) f = inl a
otherwise (inr b) f = f b

-- nothing stands in a row of none
pub no_entry : (content : Content) (below : OrderedTree) (i : ℕ) → Entry content below i none → ⊥
no_entry content below i e = elim e [ ]

module _ (o : Options) (content : Content) (below : OrderedTree) where
  entry_none : (i : ℕ) → Entry content below i none → ⊥
  entry_none i e = no_entry content below i e

  -- an entry of a row is its first node, or an entry of what comes after
  entry_passed : (i : ℕ) (first : Content) (under after : OrderedTree) → Passed first → Entry content below i (more first under after) → Passed content ⊎ Entry content below i after
  entry_passed _ _ _ after h this = inl h
  entry_passed i first under after h (behind_passed p e) = inr e
  entry_passed _ first under after h (behind_element q e) = absurd (not_both first h q)

  abbrev IsFirst : ℕ → Content → OrderedTree → Type 0
  IsFirst i first under = (i ≡ 0) × (content ≡ first) × (below ≡ under)

  entry_element : (i : ℕ) (first : Content) (under after : OrderedTree) → IsElement first → Entry content below i (more first under after) → IsFirst i first under ⊎ ((j : ℕ) × (i ≡ suc j) × Entry content below j after)
  entry_element _ _ _ after h this = inl (refl, refl, refl)
  entry_element i first under after h (behind_passed p e) = absurd (not_both first p h)
  entry_element _ first under after h (behind_element {i = j} q e) = inr (j, refl, e)

  entry_trivia : (i : ℕ) (t u : OrderedTree) → Trivia o t u → Entry content below i t → Passed content ⊎ Entry content below i u
  entry_trivia i _ _ nothing e = inr e
  entry_trivia i _ u (trivia {content = first} {t = t} is rest) e =
      otherwise (entry_passed i first none t (trivia_passed o first is) e) (λ f. entry_trivia i t u rest f)

  entry_token : (i c : ℕ) (t : OrderedTree) → Entry content below i (token_then c t) → Passed content ⊎ Entry content below i t
  entry_token i c t e = entry_passed i (Content.token c) none t refl e

  entry_separated : (i : ℕ) (t u : OrderedTree) → Separated o t u → Entry content below i t → Passed content ⊎ Entry content below i u
  entry_separated i _ _ (comma {t = t} {u = u} {r = r} a b) e =
      otherwise (otherwise (entry_trivia i t (token_then 0x2C u) a e) (λ f. entry_token i 0x2C u f)) (λ f. entry_trivia i u r b f)
  entry_separated i _ _ (no_comma {t = t} {r = r} h a) e = entry_trivia i t r a e

  -- only trivia and tokens stand before a closing bracket, and it is one
  entry_last : {B : Type 0} (i c : ℕ) (t : OrderedTree) → Trivia o t (token_then c none) → Entry content below i t → Passed content ⊎ B
  entry_last i c t a e =
      otherwise (otherwise (entry_trivia i t (token_then c none) a e) (λ f. entry_token i c none f)) (λ f. absurd (entry_none i f))

  entry_closed : {B : Type 0} (i c : ℕ) (t : OrderedTree) → Closed o c t → Entry content below i t → Passed content ⊎ B
  entry_closed i c _ (plain {t = t} a) e = entry_last i c t a e
  entry_closed i c _ (trailing_comma {t = t} {u = u} h a b) e =
      otherwise (otherwise (entry_trivia i t (token_then 0x2C u) a e) (λ f. entry_token i 0x2C u f)) (λ f. entry_last i c u b f)

  value_there : (i : ℕ) (first : Content) (under : OrderedTree) (r : List ℕ) → IsFirst i first under → ValueShaped o first under r → IsAnyValue o content below
  value_there i first under r h v =
      (r, subst (λ (w : Content). ValueShaped o w below r) (sym h.1) (subst (λ (t : OrderedTree). ValueShaped o first t r) (sym h.2) v))

  entry_elements : (i : ℕ) (row : OrderedTree) → ElementsShaped o row → Entry content below i row → Passed content ⊎ IsAnyValue o content below
  entry_elements i _ (ElementsShaped.last_element {content = first} {below = under} {after = after} v c) e =
      elim (entry_element i first under after (value_element v) e) [
        | inl h ↦ inr (value_there i first under (printed_text after) h v)
        | inr f ↦ entry_closed f.0 0x5D after c f.2
      ]
  entry_elements i _ (ElementsShaped.element {content = first} {below = under} {after = after} {u = u} v s rest) e =
      elim (entry_element i first under after (value_element v) e) [
        | inl h ↦ inr (value_there i first under (printed_text after) h v)
        | inr f ↦ otherwise (entry_separated f.0 after u s f.2) (λ g. entry_elements f.0 u rest g)
      ]

  abbrev IsAProperty : Type 0
  IsAProperty = (content ≡ Content.property) × IsAnyProperty o below

  property_there : (i : ℕ) (under : OrderedTree) (r : List ℕ) → IsFirst i Content.property under → PropertyShaped o under r → IsAProperty
  property_there i under r h p = (h.1, (r, subst (λ (t : OrderedTree). PropertyShaped o t r) (sym h.2) p))

  entry_properties : (i : ℕ) (row : OrderedTree) → PropertiesShaped o row → Entry content below i row → Passed content ⊎ IsAProperty
  entry_properties i _ (PropertiesShaped.last_property {below = under} {after = after} p c) e =
      elim (entry_element i Content.property under after refl e) [
        | inl h ↦ inr (property_there i under (printed_text after) h p)
        | inr f ↦ entry_closed f.0 0x7D after c f.2
      ]
  entry_properties i _ (PropertiesShaped.property {below = under} {after = after} {u = u} p s rest) e =
      elim (entry_element i Content.property under after refl e) [
        | inl h ↦ inr (property_there i under (printed_text after) h p)
        | inr f ↦ otherwise (entry_separated f.0 after u s f.2) (λ g. entry_properties f.0 u rest g)
      ]

  -- in a property stands a name first, and then a value
  abbrev pub IsHeld : ℕ → Type 0
  IsHeld i = ((i ≡ 0) × (below ≡ none) × IsElement content) ⊎ ((i ≡ 1) × IsAnyValue o content below)

  pub entry_property : (i : ℕ) (row : OrderedTree) (r : List ℕ) → PropertyShaped o row r → Entry content below i row → Passed content ⊎ IsHeld i
  entry_property i _ r (PropertyShaped.named {name = name} {content = first} {below = under} {after = after} {u = u} n a b v) e =
      let is : IsElement name = name_element o name (printed_text after) n in
      elim (entry_element i name none after is e) [
        | inl h ↦ inr (inl (h.0, h.2, subst IsElement (sym h.1) is))
        | inr f ↦
            otherwise (otherwise (otherwise (entry_trivia f.0 after (token_then 0x3A u) a f.2) (λ g. entry_token f.0 0x3A u g)) (λ g. entry_trivia f.0 u (more first under none) b g)) (λ g.
            elim (entry_element f.0 first under none (value_element v) g) [
              | inl h ↦ inr (inr (f.1 ∙ ap suc h.0, value_there f.0 first under r h v))
              | inr k ↦ absurd (entry_none k.0 k.2)
            ])
      ]

  -- in a value stand its values, or its properties
  abbrev pub IsInside : Content → Type 0
  IsInside outer = ((outer ≡ Content.array) × IsAnyValue o content below) ⊎ ((outer ≡ Content.object) × IsAProperty)

  pub entry_value : (i : ℕ) (outer : Content) (row : OrderedTree) (r : List ℕ) → ValueShaped o outer row r → Entry content below i row → Passed content ⊎ IsInside outer
  entry_value i outer _ r (ValueShaped.literal h) e = absurd (entry_none i e)
  entry_value i _ _ r (ValueShaped.empty_array {t = t} a) e = otherwise (entry_token i 0x5B t e) (λ f. entry_last i 0x5D t a f)
  entry_value i _ _ r (ValueShaped.array {t = t} {u = u} a es) e =
      otherwise (otherwise (otherwise (entry_token i 0x5B t e) (λ f. entry_trivia i t u a f)) (λ f. entry_elements i u es f)) (λ v. inr (inl (refl, v)))
  entry_value i _ _ r (ValueShaped.empty_object {t = t} a) e = otherwise (entry_token i 0x7B t e) (λ f. entry_last i 0x7D t a f)
  entry_value i _ _ r (ValueShaped.object {t = t} {u = u} a ps) e =
      otherwise (otherwise (otherwise (entry_token i 0x7B t e) (λ f. entry_trivia i t u a f)) (λ f. entry_properties i u ps f)) (λ p. inr (inr (refl, p)))

  -- in a document stands one value, if any
  pub entry_document : (i : ℕ) (row : OrderedTree) → DocumentShaped o (more Content.root row none) → Entry content below i row → Passed content ⊎ ((i ≡ 0) × IsAnyValue o content below)
  entry_document i row (no_value a) e = otherwise (entry_trivia i row none a e) (λ f. absurd (entry_none i f))
  entry_document i row (a_value {content = first} {below = under} {after = after} a v b) e =
      otherwise (entry_trivia i row (more first under after) a e) (λ f.
      elim (entry_element i first under after (value_element v) f) [
        | inl h ↦ inr (h.0, value_there i first under (printed_text after) h v)
        | inr g ↦ otherwise (entry_trivia g.0 after none b g.2) (λ k. absurd (entry_none g.0 k))
      ])
