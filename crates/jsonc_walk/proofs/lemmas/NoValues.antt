-- Where no value and no property stands.
use Rattle.std.proofs.Common.{ℕ, suc, ◌+◌, ◌<◌, ◌≤◌, ◌≡◌, ◌∙◌, sym, ap, subst, refl, arith, Bool, true, false, not, ◌||◌, ◌==◌, List, [], ◌∷◌, Option, Some, None, option_map, IfSome, IsTrue, chars, inl, inr}
use Rattle.jsonc_text.specs.declared.common.Range.{Range}
use Rattle.jsonc_text.specs.Options.{Options}
use Rattle.jsonc_text.specs.Text.{rest, next}
use Rattle.jsonc_text.specs.Gaps.{Gap}
use Rattle.jsonc_text.specs.Grammar.{literal_value, IsValue, literal, empty_array, array, empty_object, object, AreElements, last_element, element, AreProperties, last_property, property, IsProperty, named, IsName, Separates, Closes}
use Rattle.jsonc_text.specs.Lexemes.{Scanned, lexeme, LexemeKind, punctuation, string, Lexeme}
use Rattle.jsonc_text.specs.Plain as plain
use Rattle.jsonc_text.specs.Plain.{Plain, Items, item, no_items, Members, member}
use Rattle.jsonc_text.proofs.Basics.{tails, apart, starts_also}
use Rattle.jsonc_text.proofs.Begins.{begins_item}
use Rattle.jsonc_text.proofs.UniqueGaps.{begins_gap}
use Rattle.jsonc_text.proofs.UniqueLexemes.{lexeme_unique}
use Rattle.jsonc_text.proofs.UniqueValues.{gap_after, not_gap, no_literal, value_begins, elements_begin, properties_begin, value_unique}
use Rattle.jsonc_walk.specs.declared.container.Container.TheVariants.{Array, Object}
use Rattle.jsonc_walk.specs.declared.context.Context.{Context}
use Rattle.jsonc_walk.specs.Context.{text_in, options_in, token_start, token_end, Keeps, Finds, IsToken, IsNoComment, IsBracket, IsNameHere, PassesColon}
use Rattle.jsonc_walk.specs.Located.{Located, LocatedName, leaf_at, range_at, value_at, LocatedMember}
use Rattle.jsonc_walk.specs.Reached.{size, per_property, least}
use Rattle.jsonc_walk.specs.Reads.{Reads, ReadsMember}
use Rattle.jsonc_walk.specs.Refusals.{AtLexeme, AtItem, may_begin_item, LeadsNowhere, LeadsOnlyTo, NoValue, NoProperty, NoDocument, here, after, NoTokenAfter, NothingFirst, NothingNext, OnlyFirst, OnlyNext, NoColon, NoName, NoLiteral, NoValueHere, NoPropertyHere}
use Rattle.jsonc_walk.specs.Scanned.{leaf_value}
use Rattle.jsonc_walk.proofs.lemmas.Grammar.{located_value, is_property}
use Rattle.jsonc_walk.proofs.lemmas.Refusals.{one_token, only_there, only_here, nothing_at_end, no_lexeme_at_end, lexeme_there}
use Rattle.jsonc_walk.proofs.lemmas.Scans.{moved, kept_on}

-- what an item begins with
may_first : (c : ℕ) → IsTrue (begins_item c) → IsTrue (may_begin_item c)
may_first c h = go (begins_gap c) (c == 0x7D) (c == 0x5D) (c == 0x2C) (c == 0x3A) h
  where
    go : (a b d e f : Bool) → IsTrue (not (a || b || d || e || f)) → IsTrue (not (b || d || e || f))
    go true b d e f h = cc
    go false b d e f h = h

-- what counts of a container is what counts of its first item, and of the others
first_size : (whole : Bool) (v : Plain) (vs : Items) → suc (size whole v) ≤ size whole (plain.array (item v vs))
first_size true v vs = omega arith
first_size false v vs = omega arith

further_size : (whole : Bool) (v : Plain) (vs : Items) → size whole (plain.array vs) ≤ size whole (plain.array (item v vs))
further_size true v vs = omega arith
further_size false v vs = omega arith

first_property_size : (whole : Bool) (name : List ℕ) (v : Plain) (ms : Members) → suc (size whole v) + per_property whole ≤ size whole (plain.object (member name v ms))
first_property_size true name v ms = omega arith
first_property_size false name v ms = omega arith

further_property_size : (whole : Bool) (name : List ℕ) (v : Plain) (ms : Members) → size whole (plain.object ms) ≤ size whole (plain.object (member name v ms))
further_property_size true name v ms = omega arith
further_property_size false name v ms = omega arith

least_size : (whole : Bool) (vs : Items) → least whole ≤ size whole (plain.array vs)
least_size true vs = omega arith
least_size false vs = omega arith

least_object_size : (whole : Bool) (ms : Members) → least whole ≤ size whole (plain.object ms)
least_object_size true ms = omega arith
least_object_size false ms = omega arith

module _ (o : Options) where
  pub value_lexeme : {v : Plain} {t r : List ℕ} → IsValue o t v r → AtLexeme o t
  value_lexeme {r = r} (literal k l e) = (k, r, l)
  value_lexeme (empty_array {t = t} g) = (punctuation 0x5B, t, (refl, refl))
  value_lexeme (array {t = t} g h) = (punctuation 0x5B, t, (refl, refl))
  value_lexeme (empty_object {t = t} g) = (punctuation 0x7B, t, (refl, refl))
  value_lexeme (object {t = t} g h) = (punctuation 0x7B, t, (refl, refl))

  elements_lexeme : {vs : Items} {t r : List ℕ} → AreElements o t vs r → AtLexeme o t
  elements_lexeme (last_element v c) = value_lexeme v
  elements_lexeme (element v s e) = value_lexeme v

  name_lexeme : {name t r : List ℕ} → IsName o t name r → (k : LexemeKind) × Lexeme o k t r
  name_lexeme {name} (inl l) = (string name, l)
  name_lexeme (inr (a, e, k, m, l)) = (k, l)

  property_lexeme : {name : List ℕ} {v : Plain} {t r : List ℕ} → IsProperty o t name v r → AtLexeme o t
  property_lexeme (named {u = u} n g h v) = let k = name_lexeme n in (k.0, u, k.1)

  properties_lexeme : {ms : Members} {t r : List ℕ} → AreProperties o t ms r → AtLexeme o t
  properties_lexeme (last_property p c) = property_lexeme p
  properties_lexeme (property p s e) = property_lexeme p

  pub elements_item : {vs : Items} {t r : List ℕ} → AreElements o t vs r → AtItem o t
  elements_item {t = t} h = record { lexeme = elements_lexeme h; first = starts_also begins_item may_begin_item may_first (next t) (elements_begin o h) }

  pub properties_item : {ms : Members} {t r : List ℕ} → AreProperties o t ms r → AtItem o t
  properties_item {t = t} h = record { lexeme = properties_lexeme h; first = starts_also begins_item may_begin_item may_first (next t) (properties_begin o h) }

  -- a name and a property end at one place
  pub name_end : {n m t r s : List ℕ} → IsName o t n r → IsName o t m s → r ≡ s
  name_end {t = t} {r = r} {s = s} a b = let k = name_lexeme a in let l = name_lexeme b in (lexeme_unique o k.0 l.0 t r s k.1 l.1).1

  pub property_end : {n m : List ℕ} {v w : Plain} {t r s : List ℕ} → IsProperty o t n v r → IsProperty o t m w s → r ≡ s
  property_end {w = b} {s = s} (named {x = x} n g h v) (named {x = y} m k l w) =
      let p = gap_after (tails (gap_after (name_end n m) g k refl refl)) h l (not_gap x (value_begins o v)) (not_gap y (value_begins o w)) in
      (value_unique o v (subst (λ z. IsValue o z b s) (sym p) w)).1

  module _ (whole : Bool) where
    -- no elements stand at the front of t, up to the bracket, that can stand in an array inside of so many of what counts
    abbrev pub NoElements : List ℕ → ℕ → Type 0
    NoElements t count = (vs : Items) (r : List ℕ) → AreElements o t vs r → size whole (plain.array vs) + count ≤ 512 → ⊥

    abbrev pub NoProperties : List ℕ → ℕ → Type 0
    NoProperties t count = (ms : Members) (r : List ℕ) → AreProperties o t ms r → size whole (plain.object ms) + count ≤ 512 → ⊥

    leaf_refused : (t : List ℕ) (count : ℕ) → ((k : LexemeKind) (v : Plain) (r : List ℕ) → Lexeme o k t r → literal_value k ≡ Some v → ⊥) → ((u : List ℕ) → t ≡ 0x5B ∷ u → ⊥) → ((u : List ℕ) → t ≡ 0x7B ∷ u → ⊥) → NoValue o whole t count
    leaf_refused t count n a b v r (literal k l e) small = n k v r l e
    leaf_refused t count n a b v r (empty_array {t = u} g) small = a u refl
    leaf_refused t count n a b v r (array {t = u} g h) small = a u refl
    leaf_refused t count n a b v r (empty_object {t = u} g) small = b u refl
    leaf_refused t count n a b v r (object {t = u} g h) small = b u refl

    array_refused : (t a : List ℕ) (count : ℕ) → t ≡ 0x5B ∷ a → ((r : List ℕ) → Gap o a (0x5D ∷ r) → ⊥) → ((u : List ℕ) → Gap o a u → NoElements u count) → NoValue o whole t count
    array_refused t a count e n m v r (literal k l f) small = no_literal o 0x5B k a r refl (subst (λ x. Lexeme o k x r) e l) f
    array_refused t a count e n m v r (empty_array g) small = n r (subst (λ x. Gap o x (0x5D ∷ r)) (tails e) g)
    array_refused t a count e n m v r (array {vs = vs} {u = u} g h) small = m u (subst (λ x. Gap o x u) (tails e) g) vs r h small
    array_refused t a count e n m v r (empty_object g) small = apart refl e
    array_refused t a count e n m v r (object g h) small = apart refl e

    object_refused : (t a : List ℕ) (count : ℕ) → t ≡ 0x7B ∷ a → ((r : List ℕ) → Gap o a (0x7D ∷ r) → ⊥) → ((u : List ℕ) → Gap o a u → NoProperties u count) → NoValue o whole t count
    object_refused t a count e n m v r (literal k l f) small = no_literal o 0x7B k a r refl (subst (λ x. Lexeme o k x r) e l) f
    object_refused t a count e n m v r (empty_object g) small = n r (subst (λ x. Gap o x (0x7D ∷ r)) (tails e) g)
    object_refused t a count e n m v r (object {ms = ms} {u = u} g h) small = m u (subst (λ x. Gap o x u) (tails e) g) ms r h small
    object_refused t a count e n m v r (empty_array g) small = apart refl e
    object_refused t a count e n m v r (array g h) small = apart refl e

    -- too many are around an empty container already
    array_too_deep : (t a : List ℕ) (count : ℕ) → t ≡ 0x5B ∷ a → 512 < count + least whole → NoValue o whole t count
    array_too_deep t a count e deep v r (literal k l f) small = no_literal o 0x5B k a r refl (subst (λ x. Lexeme o k x r) e l) f
    array_too_deep t a count e deep v r (empty_array g) small = let most = least_size whole no_items in omega (arith, most, deep, small)
    array_too_deep t a count e deep v r (array {vs = vs} g h) small = let most = least_size whole vs in omega (arith, most, deep, small)
    array_too_deep t a count e deep v r (empty_object g) small = apart refl e
    array_too_deep t a count e deep v r (object g h) small = apart refl e

    object_too_deep : (t a : List ℕ) (count : ℕ) → t ≡ 0x7B ∷ a → 512 < count + least whole → NoValue o whole t count
    object_too_deep t a count e deep v r (literal k l f) small = no_literal o 0x7B k a r refl (subst (λ x. Lexeme o k x r) e l) f
    object_too_deep t a count e deep v r (empty_object g) small = let most = least_object_size whole plain.no_members in omega (arith, most, deep, small)
    object_too_deep t a count e deep v r (object {ms = ms} g h) small = let most = least_object_size whole ms in omega (arith, most, deep, small)
    object_too_deep t a count e deep v r (empty_array g) small = apart refl e
    object_too_deep t a count e deep v r (array g h) small = apart refl e

    -- the first of them is refused
    first_element : (t : List ℕ) (count : ℕ) → NoValue o whole t (count + 1) → NoElements t count
    first_element t count n vs r (last_element {v = v} {u = u} h c) small = let most = first_size whole v no_items in n v u h (omega (arith, most, small))
    first_element t count n vs r (element {v = v} {vs = us} {u = u} h s e) small = let most = first_size whole v us in n v u h (omega (arith, most, small))

    first_property : (t : List ℕ) (count : ℕ) → NoProperty o whole t (count + 1) → NoProperties t count
    first_property t count n ms r (last_property {name = k} {v = v} {u = u} h c) small = let most = first_property_size whole k v plain.no_members in n k v u h (omega (arith, most, small))
    first_property t count n ms r (property {name = k} {v = v} {ms = us} {u = u} h s e) small = let most = first_property_size whole k v us in n k v u h (omega (arith, most, small))

    -- what follows the first is refused
    further_elements : (t m : List ℕ) (x : Plain) (count : ℕ) → IsValue o t x m → ((r : List ℕ) → Closes o 0x5D m r → ⊥) → ((w : List ℕ) → Separates o m w → AtItem o w → NoElements w count) → NoElements t count
    further_elements t m x count h n k vs r (last_element v c) small = n r (subst (λ y. Closes o 0x5D y r) (value_unique o v h).1 c)
    further_elements t m x count h n k vs r (element {v = first} {vs = us} {w = w} v s e) small =
        let most = further_size whole first us in
        k w (subst (λ y. Separates o y w) (value_unique o v h).1 s) (elements_item e) us r e (omega (arith, most, small))

    further_properties : (t m name : List ℕ) (x : Plain) (count : ℕ) → IsProperty o t name x m → ((r : List ℕ) → Closes o 0x7D m r → ⊥) → ((w : List ℕ) → Separates o m w → AtItem o w → NoProperties w count) → NoProperties t count
    further_properties t m name x count h n k ms r (last_property p c) small = n r (subst (λ y. Closes o 0x7D y r) (property_end p h) c)
    further_properties t m name x count h n k ms r (property {name = other} {v = first} {ms = us} {w = w} p s e) small =
        let most = further_property_size whole other first us in
        k w (subst (λ y. Separates o y w) (property_end p h) s) (properties_item e) us r e (omega (arith, most, small))

    -- a property whose name, colon or value is refused
    name_no_property : (t : List ℕ) (count : ℕ) → ((name r : List ℕ) → IsName o t name r → ⊥) → NoProperty o whole t count
    name_no_property t count n name v r (named {u = u} k g h x) small = n name u k

    colon_no_property : (t m name : List ℕ) (count : ℕ) → IsName o t name m → ((r : List ℕ) → Gap o m (0x3A ∷ r) → ⊥) → NoProperty o whole t count
    colon_no_property t m name count h n key v r (named {w = w} k g i x) small = n w (subst (λ y. Gap o y (0x3A ∷ w)) (name_end k h) g)

    value_no_property : (t m b name : List ℕ) (count : ℕ) → IsName o t name m → Gap o m (0x3A ∷ b) → ((x : List ℕ) → Gap o b x → NoValue o whole x (count + per_property whole)) → NoProperty o whole t count
    value_no_property t m b name count h colon n key v r (named {w = w} {x = x} k g i value) small =
        let same : w ≡ b = tails (gap_after (name_end k h) g colon refl refl) in
        n x (subst (λ y. Gap o y x) same i) v r value small

  -- too many containers and properties are around the elements, or around a property's value
  deep_elements : (t : List ℕ) (count : ℕ) → 512 < count + 1 → NoElements true t count
  deep_elements t count l vs r (last_element h c) small = omega arith
  deep_elements t count l vs r (element h s e) small = omega arith

  deep_property : (t : List ℕ) (count : ℕ) → 512 < count + 1 → NoProperty o true t count
  deep_property t count l name v r h small = omega arith

pub map_none : {X Y : Type 0} (f : X → Y) (q : Option X) → option_map f q ≡ None → q ≡ None
map_none f None e = refl
map_none f (Some x) e = cc

-- a document
document_refused : (o : Options) (whole : Bool) (t : List ℕ) → (Gap o t [] → ⊥) → ((v : Plain) (u r : List ℕ) → Gap o t u → IsValue o u v r → Gap o r [] → size whole v ≤ 512 → ⊥) → NoDocument o whole t
document_refused o whole t n m None g small = n g
document_refused o whole t n m (Some v) (u, r, g, value, h) small = m v u r g value h small

module _ {A : Type 0} where
  pub no_literal_here : (c : Context A) (t : Scanned) (f : Option Located) (r : Range) → IsToken c t → f ≡ None → f ≡ option_map (leaf_at r) (leaf_value t) → NoLiteral c
  no_literal_here c t f r at none is k v x l e =
      let leaf : leaf_value t ≡ None = map_none (leaf_at r) (leaf_value t) (sym is ∙ none) in
      let both : None ≡ Some v = sym leaf ∙ ap leaf_value (one_token c t at k x l) ∙ e in cc

  -- a token that is neither a value nor the opening of one
  pub leaf_nowhere : (whole : Bool) (c : Context A) (t : Scanned) (count : ℕ) → IsToken c t → (t ≡ lexeme (punctuation 0x5B) → ⊥) → (t ≡ lexeme (punctuation 0x7B) → ⊥) → NoLiteral c → NoValueHere c whole count
  leaf_nowhere whole c t count at a b n =
      leaf_refused (options_in c) whole (here c) count n (λ u e. a (one_token c t at (punctuation 0x5B) u (refl, e))) (λ u e. b (one_token c t at (punctuation 0x7B) u (refl, e)))

  -- a value that was read, and a property
  pub value_read : (now mid : Context A) (x : Located) → Reads now mid x → IsValue (options_in now) (here now) (value_at x) (rest (text_in now) (token_end mid))
  value_read now mid x read =
      let o = options_in now in
      let b = text_in now in
      subst (λ i. IsValue o (rest b i) (value_at x) (rest b (token_end mid))) read.starts (subst (λ j. IsValue o (rest b (range_at x).start) (value_at x) (rest b j)) read.ends (located_value o b x read.value))

  pub property_read : (now mid : Context A) (m : LocatedMember) → ReadsMember now mid m → IsProperty (options_in now) (here now) m.name.name (value_at m.value) (rest (text_in now) (token_end mid))
  property_read now mid m read =
      let o = options_in now in
      let b = text_in now in
      let all = is_property o b m.name m.range (range_at m.value) (value_at m.value) read.named (located_value o b m.value read.value) in
      subst (λ i. IsProperty o (rest b i) m.name.name (value_at m.value) (rest b (token_end mid))) read.starts (subst (λ j. IsProperty o (rest b m.range.start) m.name.name (value_at m.value) (rest b j)) read.ends all)

  module _ (whole : Bool) where
    -- where no elements stand from the token at hand on, the array does not either
    abbrev pub ElementsLeft : Context A → Context A → Option Scanned → ℕ → Type 0
    ElementsLeft old now None count = Unit {0}
    ElementsLeft old now (Some t) count = NoElements (options_in old) whole (rest (text_in old) (token_start now)) count → NoValueHere old whole count

    abbrev pub PropertiesLeft : Context A → Context A → Option Scanned → ℕ → Type 0
    PropertiesLeft old now None count = Unit {0}
    PropertiesLeft old now (Some t) count = NoProperties (options_in old) whole (rest (text_in old) (token_start now)) count → NoValueHere old whole count

    pub elements_left_start : (old now : Context A) (next : Option Scanned) (count : ℕ) → IsBracket 0x5B old → Keeps old now → IfSome next (λ t. OnlyFirst Array old now) → ElementsLeft old now next count
    elements_left_start old now None count opening kept only = tt
    elements_left_start old now (Some t) count opening kept only = λ n.
        let o = options_in old in
        array_refused o whole (here old) (after old) count opening.stands only.no_close
        (λ u g vs r h small. n vs r (subst (λ x. AreElements o x vs r) (only.only u g (elements_item o h) ∙ ap (λ b. rest b (token_start now)) kept.text) h) small)

    pub properties_left_start : (old now : Context A) (next : Option Scanned) (count : ℕ) → IsBracket 0x7B old → Keeps old now → IfSome next (λ t. OnlyFirst Object old now) → PropertiesLeft old now next count
    properties_left_start old now None count opening kept only = tt
    properties_left_start old now (Some t) count opening kept only = λ n.
        let o = options_in old in
        object_refused o whole (here old) (after old) count opening.stands only.no_close
        (λ u g ms r h small. n ms r (subst (λ x. AreProperties o x ms r) (only.only u g (properties_item o h) ∙ ap (λ b. rest b (token_start now)) kept.text) h) small)

    pub nothing_in_array : (old : Context A) (count : ℕ) → IsBracket 0x5B old → NothingFirst Array old → NoValueHere old whole count
    nothing_in_array old count opening n =
        array_refused (options_in old) whole (here old) (after old) count opening.stands n.no_close (λ u g vs r h small. n.no_item u g (elements_item (options_in old) h))

    pub nothing_in_object : (old : Context A) (count : ℕ) → IsBracket 0x7B old → NothingFirst Object old → NoValueHere old whole count
    nothing_in_object old count opening n =
        object_refused (options_in old) whole (here old) (after old) count opening.stands n.no_close (λ u g ms r h small. n.no_item u g (properties_item (options_in old) h))

    pub array_deep : (old : Context A) (count : ℕ) → IsBracket 0x5B old → 512 < count + least whole → NoValueHere old whole count
    array_deep old count opening deep = array_too_deep (options_in old) whole (here old) (after old) count opening.stands deep

    pub object_deep : (old : Context A) (count : ℕ) → IsBracket 0x7B old → 512 < count + least whole → NoValueHere old whole count
    object_deep old count opening deep = object_too_deep (options_in old) whole (here old) (after old) count opening.stands deep

    module _ (old now : Context A) (kept : Keeps old now) (t : Scanned) (count : ℕ) where
      module _ (left : ElementsLeft old now (Some t) count) where
        pub element_refused : NoValueHere now whole (count + 1) → NoValueHere old whole count
        element_refused n = left (first_element (options_in old) whole (rest (text_in old) (token_start now)) count (moved (λ p b. NoValue p whole (rest b (token_start now)) (count + 1)) kept.options kept.text n))

        module _ (mid : Context A) (x : Located) (kept_mid : Keeps now mid) (read : Reads now mid x) where
          value_old : IsValue (options_in old) (rest (text_in old) (token_start now)) (value_at x) (rest (text_in old) (token_end mid))
          value_old = moved (λ p b. IsValue p (rest b (token_start now)) (value_at x) (rest b (token_end mid))) kept.options kept.text (value_read now mid x read)

          pub next_element_refused : NothingNext Array mid → NoValueHere old whole count
          next_element_refused h =
              let both = kept_on old now mid kept kept_mid in
              let n = moved (λ p b. LeadsNowhere p (Separates p) (Closes p 0x5D) (rest b (token_end mid))) both.options both.text h in
              left (further_elements (options_in old) whole (rest (text_in old) (token_start now)) (rest (text_in old) (token_end mid)) (value_at x) count value_old n.no_close (λ u s i vs r g small. n.no_item u s i))

          pub elements_left_turn : (new : Context A) (next : Option Scanned) → Keeps mid new → IfSome next (λ t. OnlyNext Array mid new) → ElementsLeft old new next count
          elements_left_turn new None further only = tt
          elements_left_turn new (Some u) further only = λ m.
              let o = options_in old in
              let both = kept_on old now mid kept kept_mid in
              let all = kept_on old mid new both further in
              let n = moved (λ p b. LeadsOnlyTo p (Separates p) (Closes p 0x5D) (rest b (token_end mid)) (here new)) both.options both.text only in
              left (further_elements o whole (rest (text_in old) (token_start now)) (rest (text_in old) (token_end mid)) (value_at x) count value_old n.no_close
              (λ w s i vs r h small. m vs r (subst (λ y. AreElements o y vs r) (n.only w s i ∙ ap (λ b. rest b (token_start new)) all.text) h) small))

      module _ (left : PropertiesLeft old now (Some t) count) where
        pub property_refused : NoPropertyHere now whole (count + 1) → NoValueHere old whole count
        property_refused n = left (first_property (options_in old) whole (rest (text_in old) (token_start now)) count (moved (λ p b. NoProperty p whole (rest b (token_start now)) (count + 1)) kept.options kept.text n))

        module _ (mid : Context A) (x : LocatedMember) (kept_mid : Keeps now mid) (read : ReadsMember now mid x) where
          property_old : IsProperty (options_in old) (rest (text_in old) (token_start now)) x.name.name (value_at x.value) (rest (text_in old) (token_end mid))
          property_old = moved (λ p b. IsProperty p (rest b (token_start now)) x.name.name (value_at x.value) (rest b (token_end mid))) kept.options kept.text (property_read now mid x read)

          pub next_property_refused : NothingNext Object mid → NoValueHere old whole count
          next_property_refused h =
              let both = kept_on old now mid kept kept_mid in
              let n = moved (λ p b. LeadsNowhere p (Separates p) (Closes p 0x7D) (rest b (token_end mid))) both.options both.text h in
              left (further_properties (options_in old) whole (rest (text_in old) (token_start now)) (rest (text_in old) (token_end mid)) x.name.name (value_at x.value) count property_old n.no_close (λ u s i ms r g small. n.no_item u s i))

          pub properties_left_turn : (new : Context A) (next : Option Scanned) → Keeps mid new → IfSome next (λ t. OnlyNext Object mid new) → PropertiesLeft old new next count
          properties_left_turn new None further only = tt
          properties_left_turn new (Some u) further only = λ m.
              let o = options_in old in
              let both = kept_on old now mid kept kept_mid in
              let all = kept_on old mid new both further in
              let n = moved (λ p b. LeadsOnlyTo p (Separates p) (Closes p 0x7D) (rest b (token_end mid)) (here new)) both.options both.text only in
              left (further_properties o whole (rest (text_in old) (token_start now)) (rest (text_in old) (token_end mid)) x.name.name (value_at x.value) count property_old n.no_close
              (λ w s i ms r h small. m ms r (subst (λ y. AreProperties o y ms r) (n.only w s i ∙ ap (λ b. rest b (token_start new)) all.text) h) small))

    -- a property
    pub name_missing : (c : Context A) (count : ℕ) → NoName c → NoPropertyHere c whole count
    name_missing c count n = name_no_property (options_in c) whole (here c) count n

    pub colon_missing : (c : Context A) (n : LocatedName) (count : ℕ) → IsNameHere c n → NoColon c → NoPropertyHere c whole count
    colon_missing c n count name h = colon_no_property (options_in c) whole (here c) (after c) n.name count name.stands h

    module _ (c d : Context A) (n : LocatedName) (count : ℕ) (name : IsNameHere c n) (kept : Keeps c d) (colon : PassesColon c d) where
      value_missing : ((x : List ℕ) → Gap (options_in d) (after d) x → NoValue (options_in d) whole x (count + per_property whole)) → NoPropertyHere c whole count
      value_missing h =
          value_no_property (options_in c) whole (here c) (after c) (rest (text_in c) (token_end d)) n.name count name.stands colon.stands
          (moved (λ p b. (x : List ℕ) → Gap p (rest b (token_end d)) x → NoValue p whole x (count + per_property whole)) kept.options kept.text h)

      pub no_token_for_value : NoTokenAfter d → NoPropertyHere c whole count
      no_token_for_value h = value_missing (λ x g v r value small. h x g (inr (value_lexeme (options_in d) value)))

      module _ (e : Context A) (f : Option Scanned) (further : Keeps d e) (found : Finds (Gap (options_in d)) d e f) (no_comment : IsNoComment f) where
        pub end_for_value : f ≡ None → NoPropertyHere c whole count
        end_for_value is = value_missing (λ x g v r value small. nothing_at_end d e f further found no_comment is x g (value_lexeme (options_in d) value))

        pub value_refused : NoValueHere e whole (count + per_property whole) → NoPropertyHere c whole count
        value_refused h = value_missing (λ x g v r value small.
            let same = only_here d e f further found no_comment x g (inr (value_lexeme (options_in d) value)) in
            h v r (subst (λ p. IsValue p (here e) v r) (sym further.options) (subst (λ y. IsValue (options_in d) y v r) same value)) small)

  -- too many containers and properties are around an element
  pub nesting_refused : (old now : Context A) (t : Scanned) (count : ℕ) → ElementsLeft true old now (Some t) count → 512 < count + 1 → NoValueHere old true count
  nesting_refused old now t count left l = left (deep_elements (options_in old) (rest (text_in old) (token_start now)) count l)

  pub nesting_in_property : (c : Context A) (count : ℕ) → 512 < count + 1 → NoPropertyHere c true count
  nesting_in_property c count l = deep_property (options_in c) (here c) count l

  module _ (whole : Bool) where
    pub document_no_token : (c : Context A) → NoTokenAfter c → NoDocument (options_in c) whole (after c)
    document_no_token c n = document_refused (options_in c) whole (after c) (λ g. n [] g (inl refl)) (λ v u r g value h small. n u g (inr (value_lexeme (options_in c) value)))

    module _ (c d : Context A) (f : Option Scanned) (kept : Keeps c d) (found : Finds (Gap (options_in c)) c d f) (no_comment : IsNoComment f) (t : Scanned) (is : f ≡ Some t) where
      no_empty_document : Gap (options_in c) (after c) [] → ⊥
      no_empty_document g =
          let same = only_there c d f kept found no_comment [] g (inl refl) in
          no_lexeme_at_end (options_in c) _ (sym same) (lexeme_there c d f kept found no_comment t is)

      value_here : (v : Plain) (u r : List ℕ) → Gap (options_in c) (after c) u → IsValue (options_in c) u v r → IsValue (options_in d) (here d) v r
      value_here v u r g value =
          let same = only_here c d f kept found no_comment u g (inr (value_lexeme (options_in c) value)) in
          subst (λ p. IsValue p (here d) v r) (sym kept.options) (subst (λ y. IsValue (options_in c) y v r) same value)

      pub document_no_value : NoValueHere d whole 0 → NoDocument (options_in c) whole (after c)
      document_no_value n = document_refused (options_in c) whole (after c) no_empty_document (λ v u r g value h small. n v r (value_here v u r g value) (omega arith))

      module _ (m : Context A) (x : Located) (kept_on_value : Keeps d m) (read : Reads d m x) where
        -- what follows the value
        value_followed : (v : Plain) (u r : List ℕ) → Gap (options_in c) (after c) u → IsValue (options_in c) u v r → Gap (options_in c) r [] → Gap (options_in m) (after m) []
        value_followed v u r g value h =
            let last = (value_unique (options_in d) (value_here v u r g value) (value_read d m x read)).1 in
            let all = kept_on c d m kept kept_on_value in
            subst (λ p. Gap p (after m) []) (sym all.options) (subst (λ y. Gap (options_in c) y []) (last ∙ ap (λ b. rest b (token_end m)) (sym kept_on_value.text)) h)

        pub document_no_end : NoTokenAfter m → NoDocument (options_in c) whole (after c)
        document_no_end n = document_refused (options_in c) whole (after c) no_empty_document (λ v u r g value h small. n [] (value_followed v u r g value h) (inl refl))

        token_after_value : (e : Context A) (h : Option Scanned) (next : Scanned) → Keeps m e → Finds (Gap (options_in m)) m e h → IsNoComment h → h ≡ Some next → NoDocument (options_in c) whole (after c)
        token_after_value e h following further after_value token_at some = document_refused (options_in c) whole (after c) no_empty_document (λ v u r g value l small.
            let same = only_there m e h further after_value token_at [] (value_followed v u r g value l) (inl refl) in
            no_lexeme_at_end (options_in m) _ (sym same) (lexeme_there m e h further after_value token_at following some))

        pub document_goes_on : (e : Context A) (h : Option Scanned) → Keeps m e → Finds (Gap (options_in m)) m e h → IsNoComment h → (h ≡ None → ⊥) → NoDocument (options_in c) whole (after c)
        document_goes_on e h further after_value token_at n = go h refl
          where
            go : (q : Option Scanned) → h ≡ q → NoDocument (options_in c) whole (after c)
            go None none = absurd (n none)
            go (Some following) some = token_after_value e h following further after_value token_at some

    pub document_from_start : (c : Context A) (o : Options) (bytes : List ℕ) → token_end c ≡ 0 → text_in c ≡ bytes → options_in c ≡ o → NoDocument (options_in c) whole (after c) → NoDocument o whole (chars bytes)
    document_from_start c o bytes start t e n =
        subst (λ p. NoDocument p whole (chars bytes)) e (subst (λ b. NoDocument (options_in c) whole (chars b)) t (subst (λ i. NoDocument (options_in c) whole (rest (text_in c) i)) start n))
