-- Where commas may not be missing, no space is due where an element leaves, or a comment.
use Rattle.std.proofs.Common.{◌≡◌, ◌∙◌, sym, ap, subst, refl, ℕ, ◌==◌, Bool, true, false, not, ◌&&◌, ◌||◌, cond, inl, inr, List, [], ◌∷◌, ◌++◌, reverse, Option, Some, None, IsTrue}
use Rattle.std.proofs.lemmas.Bool.{cases_Bool}
use Rattle.std.proofs.lemmas.List.{reverse-append, reverse-reverse}
use Rattle.std.proofs.lemmas.List.Folds.{find-append}
use Rattle.std.specs.List.{find}
use Rattle.std.specs.Option.{option_or}
use Rattle.jsonc_text.specs.Options.{Options}
use Rattle.jsonc_tree.specs.Content.{Content, property, token}
use Rattle.jsonc_tree.specs.OrderedTree.{OrderedTree, none, more, Shows, shows_none, shows_more}
use Rattle.jsonc_tree.specs.Tree.{Node, children_at, content_at}
use Rattle.jsonc_layout.specs.nodes.Kinds.{is_element, is_element_at, is_trivia, is_comma}
use Rattle.jsonc_sound.specs.Alone as alone
use Rattle.jsonc_sound.specs.Alone.{may_stand, PartAlone, PropertyAlone, RootAlone, RowAlone, ValueAlone}
use Rattle.jsonc_sound.specs.Rows.{Last, RowKind, nothing_yet, an_element, a_comma}
use Rattle.jsonc_sound.specs.Shape as trivia
use Rattle.jsonc_sound.specs.Shape.{IsLiteralBefore, IsNameBefore, IsTrivia, Trivia}
use Rattle.jsonc_sound.specs.Spaces.{is_bare}
use Rattle.jsonc_sound.specs.TriviaChanges.{AreTrivia}
use Rattle.jsonc_edit.specs.Due.{beginning_in, begins_bare, ends_bare, is_bare_at, nearest, prints, prints_at}
use Rattle.jsonc_edit.proofs.Printing.{unkept_prints}
use Rattle.jsonc_edit.proofs.lemmas.remove.Contents.{no_commas}
use Rattle.jsonc_edit.proofs.lemmas.remove.Stretches.{contents}

-- a token of this character: a comma, or a colon
abbrev pub is_mark : ℕ → Content → Bool
is_mark k (token c) = c == k
is_mark k _ = false

-- an element is the last that stood, trivia aside, and no such token behind it
abbrev pub follows : ℕ → Bool → Content → Bool
follows k b c = is_element c || (b && not (is_mark k c))

not_both : {X : Type 0} {b : Bool} → b ≡ true → b ≡ false → X
not_both e f = absurd (let wrong : true ≡ false = sym e ∙ f in cc)

-- no element stands directly behind another in the row, trivia aside, and none is first where one stood before
abbrev pub Parts : ℕ → Bool → OrderedTree → Type 0
Parts k b none = Unit {0}
Parts k b (more c below after) = (b ≡ true → is_element c ≡ true → ⊥) × Parts k (follows k b c) after

abbrev flag : Last → Bool
flag nothing_yet = false
flag an_element = true
flag a_comma = false

module _ (o : Options) where
  trivia_keeps : (k : ℕ) (b : Bool) (c : Content) → IsTrivia o c → follows k b c ≡ b
  trivia_keeps k true (Content.whitespace s) h = refl
  trivia_keeps k true (Content.newline l) h = refl
  trivia_keeps k true (Content.comment s) h = refl
  trivia_keeps k false (Content.whitespace s) h = refl
  trivia_keeps k false (Content.newline l) h = refl
  trivia_keeps k false (Content.comment s) h = refl
  trivia_keeps k b c h = absurd h

  trivia_none : (c : Content) → IsTrivia o c → is_element c ≡ true → ⊥
  trivia_none (Content.whitespace s) h e = cc
  trivia_none (Content.newline k) h e = cc
  trivia_none (Content.comment s) h e = cc
  trivia_none c h e = h

  literal_element : (c : Content) → IsLiteralBefore o c [] → is_element c ≡ true
  literal_element (Content.string s) h = refl
  literal_element (Content.number s) h = refl
  literal_element (Content.boolean b) h = refl
  literal_element Content.null h = refl
  literal_element c h = absurd h

  pub value_element : {c : Content} {below : OrderedTree} → ValueAlone o c below → is_element c ≡ true
  value_element (alone.literal {content = c} h) = literal_element c h
  value_element (alone.an_array g) = refl
  value_element (alone.an_object g) = refl

  part_element : {kind : RowKind} {c : Content} {below : OrderedTree} → PartAlone o kind c below → is_element c ≡ true
  part_element (alone.a_value v) = value_element v
  part_element (alone.a_property p) = refl

  behind_element : (k : ℕ) (b : Bool) (c : Content) → is_element c ≡ true → follows k b c ≡ true
  behind_element k b c e = ap (λ x. x || (b && not (is_mark k c))) e

  no_second : (last : Last) → o.missing_commas ≡ false → IsTrue (may_stand o last) → flag last ≡ true → ⊥
  no_second nothing_yet commas may e = cc
  no_second an_element commas may e = not_both may commas
  no_second a_comma commas may e = cc

  module _ (commas : o.missing_commas ≡ false) where
    pub row_parts : {kind : RowKind} {last : Last} {row : OrderedTree} → RowAlone o kind last row → Parts 0x2C (flag last) row
    row_parts (alone.closes m) = (λ e f. cc, tt)
    row_parts (alone.trivia {last = last} {content = c} {after = after} t g) = (λ e f. trivia_none c t f, subst (λ b. Parts 0x2C b after) (sym (trivia_keeps 0x2C (flag last) c t)) (row_parts g))
    row_parts (alone.element {last = last} {content = c} {after = after} m p g) =
        (λ e f. no_second last commas m e, subst (λ b. Parts 0x2C b after) (sym (behind_element 0x2C (flag last) c (part_element p))) (row_parts g))
    row_parts (alone.comma g) = (λ e f. cc, row_parts g)

    pub value_parts : {c : Content} {below : OrderedTree} → ValueAlone o c below → Parts 0x2C false below
    value_parts (alone.literal h) = tt
    value_parts (alone.an_array g) = (λ e f. cc, row_parts g)
    value_parts (alone.an_object g) = (λ e f. cc, row_parts g)

  pub root_parts : {stood : Bool} {row : OrderedTree} → RootAlone o stood row → Parts 0x2C stood row
  root_parts (alone.root_ends) = tt
  root_parts (alone.root_trivia {stood = stood} {content = c} {after = after} t g) = (λ e f. trivia_none c t f, subst (λ b. Parts 0x2C b after) (sym (trivia_keeps 0x2C stood c t)) (root_parts g))
  root_parts (alone.root_value {content = c} {after = after} v g) = (λ e f. cc, subst (λ b. Parts 0x2C b after) (sym (behind_element 0x2C false c (value_element v))) (root_parts g))

  -- between the name and the value of a property its colon stands
  trivia_parts : {t r : OrderedTree} (b : Bool) → Trivia o t r → Parts 0x3A b r → Parts 0x3A b t
  trivia_parts b trivia.nothing h = h
  trivia_parts b (trivia.trivia {content = c} {t = t} w g) h = (λ e f. trivia_none c w f, subst (λ d. Parts 0x3A d t) (sym (trivia_keeps 0x3A b c w)) (trivia_parts b g h))

  name_follows : (c : Content) → IsNameBefore o c [] → follows 0x3A false c ≡ true
  name_follows (Content.string s) h = refl
  name_follows (Content.word s) h = refl
  name_follows c h = absurd h

  pub property_parts : {row : OrderedTree} → PropertyAlone o row → Parts 0x3A false row
  property_parts (alone.named {name = name} {after = after} n t u v) =
      (λ e f. cc, subst (λ d. Parts 0x3A d after) (sym (name_follows name n)) (trivia_parts true t (λ e f. cc, trivia_parts false u (λ e f. cc, tt))))

-- what is found in a row turned round
pub none_reversed : (test : ℕ → Bool) (xs : List ℕ) → find test xs ≡ None → find test (reverse xs) ≡ None
none_reversed test [] e = refl
none_reversed test (x ∷ xs) e =
    elim (cases_Bool (test x)) [
      | inl t ↦ absurd (let wrong : Some x ≡ None = sym (ap (λ b. cond b (Some x) (find test xs)) t) ∙ e in cc)
      | inr f ↦
          let rest : find test xs ≡ None = sym (ap (λ b. cond b (Some x) (find test xs)) f) ∙ e in
          ap (find test) (reverse-append (x ∷ []) xs) ∙ find-append test (reverse xs) (x ∷ []) ∙ ap (λ o. option_or o (find test (x ∷ []))) (none_reversed test xs rest) ∙ ap (λ b. cond b (Some x) None) f
    ]

pub none_turned : (test : ℕ → Bool) (xs : List ℕ) → find test (reverse xs) ≡ None → find test xs ≡ None
none_turned test xs e = ap (find test) (sym (reverse-reverse xs)) ∙ none_reversed test (reverse xs) e

bare_is : (c : Content) → is_bare c ≡ true → is_element c ≡ true
bare_is (Content.number s) h = refl
bare_is (Content.word s) h = refl
bare_is (Content.boolean b) h = refl
bare_is Content.null h = refl
bare_is c h = cc

trivia_follows : (k : ℕ) (c : Content) → IsTrue (is_trivia c) → follows k true c ≡ true
trivia_follows k (Content.whitespace s) h = refl
trivia_follows k (Content.newline l) h = refl
trivia_follows k (Content.comment s) h = refl
trivia_follows k c h = cc

quiet_follows : (k : ℕ) (c : Content) → prints c ≡ false → follows k true c ≡ true
quiet_follows k (token x) h = not_both (unkept_prints (token x) refl) h
quiet_follows k c h = refl

free_follows : (c : Content) → is_comma c ≡ false → follows 0x2C true c ≡ true
free_follows (token x) h = ap not h
free_follows c h = refl

both_free : (b d : Bool) → IsTrue (not b && d) → (b ≡ false) × IsTrue d
both_free true d e = cc
both_free false d e = (refl, e)

-- the same of nodes
module _ (k : ℕ) (ns : List Node) where
  abbrev pub Apart : Bool → List ℕ → Type 0
  Apart b [] = Unit {0}
  Apart b (x ∷ xs) = (b ≡ true → is_element_at ns x ≡ true → ⊥) × Apart (follows k b (content_at ns x)) xs

  abbrev pub state : Bool → List ℕ → Bool
  state b [] = b
  state b (x ∷ xs) = state (follows k b (content_at ns x)) xs

  pub shown_apart : (b : Bool) {xs : List ℕ} {row : OrderedTree} → Shows ns xs row → Parts k b row → Apart b xs
  shown_apart b shows_none h = tt
  shown_apart b (shows_more {n = n} p r) h = (h.0, shown_apart (follows k b (content_at ns n)) r h.1)

  pub apart_behind : (b : Bool) (xs ys : List ℕ) → Apart b (xs ++ ys) → Apart (state b xs) ys
  apart_behind b [] ys h = h
  apart_behind b (x ∷ xs) ys h = apart_behind (follows k b (content_at ns x)) xs ys h.1

  trivia_state : (xs : List ℕ) → AreTrivia (contents ns xs) → state true xs ≡ true
  trivia_state [] h = refl
  trivia_state (x ∷ xs) h = ap (λ b. state b xs) (trivia_follows k (content_at ns x) h.0) ∙ trivia_state xs h.1

  quiet_state : (xs : List ℕ) → nearest ns xs ≡ None → state true xs ≡ true
  quiet_state [] e = refl
  quiet_state (x ∷ xs) e =
      elim (cases_Bool (prints_at ns x)) [
        | inl t ↦ absurd (let wrong : Some x ≡ None = sym (ap (λ b. cond b (Some x) (nearest ns xs)) t) ∙ e in cc)
        | inr f ↦ ap (λ b. state b xs) (quiet_follows k (content_at ns x) f) ∙ quiet_state xs (sym (ap (λ b. cond b (Some x) (nearest ns xs)) f) ∙ e)
      ]

  bare_element : (x : ℕ) (row : List ℕ) (c : Content) → content_at ns x ≡ c → is_bare_at ns (beginning_in row x c) ≡ true → is_element c ≡ true
  bare_element x row property e h = refl
  bare_element x row c e h = bare_is c (sym (ap is_bare e) ∙ h)

  ends_element : (x : ℕ) → ends_bare ns (Some x) ≡ true → is_element_at ns x ≡ true
  ends_element x h = bare_element x (reverse (children_at ns x)) (content_at ns x) refl h

  begins_element : (x : ℕ) → begins_bare ns (Some x) ≡ true → is_element_at ns x ≡ true
  begins_element x h = bare_element x (children_at ns x) (content_at ns x) refl h

  after_element : (b : Bool) (x : ℕ) → is_element_at ns x ≡ true → follows k b (content_at ns x) ≡ true
  after_element b x e = ap (λ d. d || (b && not (is_mark k (content_at ns x)))) e

  -- where the nearest before ends with a literal without quotes an element is the last that stood
  found_back : (x : ℕ) (xs : List ℕ) → nearest ns (reverse (x ∷ xs)) ≡ option_or (nearest ns (reverse xs)) (nearest ns (x ∷ []))
  found_back x xs = ap (nearest ns) (reverse-append (x ∷ []) xs) ∙ find-append (prints_at ns) (reverse xs) (x ∷ [])

  first_ends : (b : Bool) (x : ℕ) (xs : List ℕ) → nearest ns (reverse xs) ≡ None → ends_bare ns (nearest ns (x ∷ [])) ≡ true → state (follows k b (content_at ns x)) xs ≡ true
  first_ends b x xs e l =
      elim (cases_Bool (prints_at ns x)) [
        | inl t ↦
            let it : ends_bare ns (Some x) ≡ true = sym (ap (λ d. ends_bare ns (cond d (Some x) None)) t) ∙ l in
            ap (λ d. state d xs) (after_element b x (ends_element x it)) ∙ quiet_state xs (none_turned (prints_at ns) xs e)
        | inr f ↦ absurd (let wrong : false ≡ true = sym (ap (λ d. ends_bare ns (cond d (Some x) None)) f) ∙ l in cc)
      ]

  ends_by : (b : Bool) (x : ℕ) (xs : List ℕ) (o : Option ℕ) → nearest ns (reverse xs) ≡ o → ends_bare ns (option_or o (nearest ns (x ∷ []))) ≡ true → (ends_bare ns (nearest ns (reverse xs)) ≡ true → state (follows k b (content_at ns x)) xs ≡ true)
      → state (follows k b (content_at ns x)) xs ≡ true
  ends_by b x xs (Some m) e l later = later (ap (ends_bare ns) e ∙ l)
  ends_by b x xs None e l later = first_ends b x xs e l

  ends_state : (b : Bool) (xs : List ℕ) → ends_bare ns (nearest ns (reverse xs)) ≡ true → state b xs ≡ true
  ends_state b [] h = absurd (let wrong : false ≡ true = h in cc)
  ends_state b (x ∷ xs) h = ends_by b x xs (nearest ns (reverse xs)) refl (sym (ap (ends_bare ns) (found_back x xs)) ∙ h) (ends_state (follows k b (content_at ns x)) xs)

  pub no_bare_end : (b : Bool) (away near zs : List ℕ) (n : ℕ) → Apart b (away ++ (near ++ n ∷ zs)) → AreTrivia (contents ns near) → is_element_at ns n ≡ true → ends_bare ns (nearest ns (reverse away)) ≡ false
  no_bare_end b away near zs n h t element =
      elim (cases_Bool (ends_bare ns (nearest ns (reverse away)))) [
        | inr f ↦ f
        | inl e ↦
            let from : Apart true (near ++ n ∷ zs) = subst (λ d. Apart d (near ++ n ∷ zs)) (ends_state b away e) (apart_behind b away (near ++ n ∷ zs) h) in
            let at : Apart true (n ∷ zs) = subst (λ d. Apart d (n ∷ zs)) (trivia_state near t) (apart_behind true near (n ∷ zs) from) in
            absurd (at.0 refl element)
      ]

  -- behind an element the nearest begins with none
  pub no_bare_next : (ys : List ℕ) → Apart true ys → begins_bare ns (nearest ns ys) ≡ false
  no_bare_next [] h = refl
  no_bare_next (x ∷ ys) h =
      elim (cases_Bool (prints_at ns x)) [
        | inl t ↦ ap (λ d. begins_bare ns (cond d (Some x) (nearest ns ys))) t ∙ none_first
        | inr f ↦ ap (λ d. begins_bare ns (cond d (Some x) (nearest ns ys))) f ∙ no_bare_next ys (subst (λ d. Apart d ys) (quiet_follows k (content_at ns x) f) h.1)
      ]
    where
      none_first : begins_bare ns (Some x) ≡ false
      none_first = elim (cases_Bool (begins_bare ns (Some x))) [ inl e ↦ absurd (h.0 refl (begins_element x e)) | inr f ↦ f ]

  pub no_bare_begin : (b : Bool) (before line ys : List ℕ) (n : ℕ) → Apart b (before ++ n ∷ (line ++ ys)) → is_element_at ns n ≡ true → AreTrivia (contents ns line) → begins_bare ns (nearest ns ys) ≡ false
  no_bare_begin b before line ys n h element t =
      let at : Apart (state b before) (n ∷ (line ++ ys)) = apart_behind b before (n ∷ (line ++ ys)) h in
      let behind : Apart true (line ++ ys) = subst (λ d. Apart d (line ++ ys)) (after_element (state b before) n element) at.1 in
      no_bare_next ys (subst (λ d. Apart d ys) (trivia_state line t) (apart_behind true line ys behind))

  -- where trivia alone leave, no two of them meet that did not before
  pub no_bare_both : (b : Bool) (away mid ys : List ℕ) → Apart b (away ++ (mid ++ ys)) → AreTrivia (contents ns mid) → (ends_bare ns (nearest ns (reverse away)) && begins_bare ns (nearest ns ys)) ≡ false
  no_bare_both b away mid ys h t =
      elim (cases_Bool (ends_bare ns (nearest ns (reverse away)))) [
        | inr f ↦ ap (λ d. d && begins_bare ns (nearest ns ys)) f
        | inl e ↦
            let from : Apart true (mid ++ ys) = subst (λ d. Apart d (mid ++ ys)) (ends_state b away e) (apart_behind b away (mid ++ ys) h) in
            let at : Apart true ys = subst (λ d. Apart d ys) (trivia_state mid t) (apart_behind true mid ys from) in
            ap (λ d. d && begins_bare ns (nearest ns ys)) e ∙ no_bare_next ys at
      ]

module _ (ns : List Node) where
  free_state : (xs : List ℕ) → IsTrue (no_commas (contents ns xs)) → state 0x2C ns true xs ≡ true
  free_state [] h = refl
  free_state (x ∷ xs) h =
      let two = both_free (is_comma (content_at ns x)) (no_commas (contents ns xs)) h in
      ap (λ b. state 0x2C ns b xs) (free_follows (content_at ns x) two.0) ∙ free_state xs two.1

  -- between a comma and an element no element stands
  pub no_bare_between : (b : Bool) (mid near zs : List ℕ) (n m : ℕ) → Apart 0x2C ns b (mid ++ (near ++ n ∷ zs)) → IsTrue (no_commas (contents ns mid)) → AreTrivia (contents ns near) → is_element_at ns n ≡ true
      → nearest ns mid ≡ Some m → begins_bare ns (Some m) ≡ false
  no_bare_between b [] near zs n m h free t element e = absurd (let wrong : None ≡ Some m = e in cc)
  no_bare_between b (x ∷ mid) near zs n m h free t element e =
      elim (cases_Bool (prints_at ns x)) [
        | inr f ↦ no_bare_between (follows 0x2C b (content_at ns x)) mid near zs n m h.1 (both_free (is_comma (content_at ns x)) (no_commas (contents ns mid)) free).1 t element (sym (ap (λ d. cond d (Some x) (nearest ns mid)) f) ∙ e)
        | inl p ↦
            let it : Some x ≡ Some m = sym (ap (λ d. cond d (Some x) (nearest ns mid)) p) ∙ e in
            ap (begins_bare ns) (sym it) ∙ none_here
      ]
    where
      none_here : begins_bare ns (Some x) ≡ false
      none_here =
          elim (cases_Bool (begins_bare ns (Some x))) [
            | inr f ↦ f
            | inl l ↦
                let behind : Apart 0x2C ns true (mid ++ (near ++ n ∷ zs)) = subst (λ d. Apart 0x2C ns d (mid ++ (near ++ n ∷ zs))) (after_element 0x2C ns b x (begins_element 0x2C ns x l)) h.1 in
                let from : Apart 0x2C ns true (near ++ n ∷ zs) = subst (λ d. Apart 0x2C ns d (near ++ n ∷ zs)) (free_state mid (both_free (is_comma (content_at ns x)) (no_commas (contents ns mid)) free).1) (apart_behind 0x2C ns true mid (near ++ n ∷ zs) behind) in
                let at : Apart 0x2C ns true (n ∷ zs) = subst (λ d. Apart 0x2C ns d (n ∷ zs)) (trivia_state 0x2C ns near t) (apart_behind 0x2C ns true near (n ∷ zs) from) in
                absurd (at.0 refl element)
          ]
