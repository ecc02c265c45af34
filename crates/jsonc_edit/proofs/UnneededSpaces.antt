-- Where the spaces have come that are due around a node, none is due any more.
use Rattle.std.proofs.Common.{◌≡◌, ◌≢◌, ◌⊎◌, ℕ, zero, suc, ◌+◌, ◌<◌, Bool, true, false, cond, List, [], ◌∷◌, ◌++◌, length, get_or, take, drop, reverse, Option, Some, None, IsTrue, inl, inr, refl, sym, ap, subst, ◌∙◌, arith, length-drop}
use Rattle.std.specs.List.{find}
use Rattle.std.specs.Option.{option_and_then, option_or}
use Rattle.std.proofs.lemmas.Bool.{cases_Bool, cases_eq}
use Rattle.std.proofs.lemmas.List.{append_assoc, drop-append-le, drop-drop, drop-take, drop_at, get_or-drop, length-reverse, length-take-le, length_push, reverse-append, take-append-drop, take-append-le, take-take, take_at}
use Rattle.std.proofs.lemmas.List.Folds.{find-append}
use Rattle.jsonc_text.specs.Text.{starts}
use Rattle.jsonc_tree.specs.Content.{Content, property}
use Rattle.jsonc_tree.specs.Order.{with_parent}
use Rattle.jsonc_tree.specs.Tree.{Node, content_at, parent_at, children_at, place_at, place_among, place_under, IsTree, IsOver}
use Rattle.jsonc_tree.specs.Siblings.{first, row_of, siblings_after, siblings_before}
use Rattle.jsonc_tree.proofs.Order.{not_over_parent}
use Rattle.jsonc_sound.specs.Adjacent.{or_else}
use Rattle.jsonc_sound.specs.Spaces.{is_bare}
use Rattle.jsonc_sound.proofs.Spaced.{space_first}
use Rattle.jsonc_edit.specs.Due.{prints, prints_at, nearest, beginning_in, beginning_of, end_of, is_bare_at, begins_bare, ends_bare, seen_before, behind_property, behind_holder, seen_behind, listed, spaces_needed_around}
use Rattle.jsonc_edit.specs.Put.{a_space, StandsBefore, AreSpaced}
use Rattle.jsonc_edit.proofs.InsertedSpaces.{placed_ahead, placed_behind, place_within, space_no_container, contents_kept, parent_kept, children_kept, container_row}
use Rattle.jsonc_edit.proofs.Elements.{Some_same, none_some}

-- tests that agree find the same
find_same : (f g : ℕ → Bool) → ((k : ℕ) → f k ≡ g k) → (xs : List ℕ) → find f xs ≡ find g xs
find_same f g same [] = refl
find_same f g same (x ∷ xs) = ap (λ b. cond b (Some x) (find f xs)) (same x) ∙ ap (λ o. cond (g x) (Some x) o) (find_same f g same xs)

-- what is found stands at a place before which nothing is
module _ (test : ℕ → Bool) where
  abbrev FoundAt : List ℕ → ℕ → Type 0
  FoundAt xs x = (k : ℕ) × (k < length xs) × (get_or xs k 0 ≡ x) × (find test (take k xs) ≡ None)

  found_at : (xs : List ℕ) (x : ℕ) → find test xs ≡ Some x → FoundAt xs x
  found_at [] x e = absurd (none_some e)
  found_at (y ∷ xs) x e =
      elim (cases_Bool (test y)) [
        | inl passes ↦ (0, omega arith, Some_same y x (sym (ap (λ b. cond b (Some y) (find test xs)) passes) ∙ e), refl)
        | inr fails ↦
            let r = found_at xs x (sym (ap (λ b. cond b (Some y) (find test xs)) fails) ∙ e) in
            (suc r.0, omega (arith, r.1), r.2, ap (λ b. cond b (Some y) (find test (take r.0 xs))) fails ∙ r.3)
      ]

-- one that has come into a row
module _ (row : List ℕ) (place x : ℕ) (within : place < length row) where
  pub up_to : length (take place row ++ x ∷ []) ≡ place + 1
  up_to = length_push (take place row) x ∙ ap (λ k. k + 1) (length-take-le place row (omega (arith, within)))

  pub regrouped : take place row ++ x ∷ drop place row ≡ (take place row ++ x ∷ []) ++ drop place row
  regrouped = sym (append_assoc (take place row) (x ∷ []) (drop place row))

  -- stands before the one that it came before
  pub come_back : reverse (take (place + 1) (take place row ++ x ∷ drop place row)) ≡ x ∷ reverse (take place row)
  come_back =
      ap (λ (l : List ℕ). reverse (take (place + 1) l)) regrouped
      ∙ ap (λ (l : List ℕ). reverse l) (take_at (take place row ++ x ∷ []) (drop place row) (place + 1) up_to)
      ∙ reverse-append (take place row) (x ∷ [])

  -- behind which nothing has changed
  pub past_one : drop (place + 1 + 1) (take place row ++ x ∷ drop place row) ≡ drop (place + 1) row
  past_one =
      ap (drop (place + 1 + 1)) regrouped
      ∙ sym (drop-drop 1 (place + 1) ((take place row ++ x ∷ []) ++ drop place row))
      ∙ ap (drop 1) (drop_at (take place row ++ x ∷ []) (drop place row) (place + 1) up_to)
      ∙ drop-drop 1 place row

  -- nor before one further ahead
  ahead_back : (k : ℕ) → k < place → reverse (take k (take place row ++ x ∷ drop place row)) ≡ reverse (take k row)
  ahead_back k low =
      ap (λ (l : List ℕ). reverse l)
      (take-append-le k (take place row) (x ∷ drop place row) (omega (arith, low, length-take-le place row (omega (arith, within))))
      ∙ take-take k place row (omega (arith, low)))

  -- behind that the row is what it was, up to the one that came
  pub ahead_on : (k d : ℕ) → place ≡ k + d → drop k (take place row ++ x ∷ drop place row) ≡ take d (drop k row) ++ x ∷ drop place row
  ahead_on k d e =
      drop-append-le k (take place row) (x ∷ drop place row) (omega (arith, e, length-take-le place row (omega (arith, within))))
      ∙ ap (λ l. l ++ x ∷ drop place row) (ap (λ m. drop k (take m row)) e ∙ drop-take k d row)

  -- it is first, or the first is the same
  first_come : (first (take place row ++ x ∷ drop place row) ≡ Some x) ⊎ (first (take place row ++ x ∷ drop place row) ≡ first row)
  first_come = by row place
    where
      by : (l : List ℕ) (k : ℕ) → (first (take k l ++ x ∷ drop k l) ≡ Some x) ⊎ (first (take k l ++ x ∷ drop k l) ≡ first l)
      by l zero = inl refl
      by [] (suc k) = inl refl
      by (y ∷ l) (suc k) = inr refl

  -- and the last is the same
  first_ahead : (xs ys zs : List ℕ) → 0 < length xs → first (xs ++ ys) ≡ first (xs ++ zs)
  first_ahead [] ys zs h = absurd (omega (arith, h))
  first_ahead (y ∷ xs) ys zs h = refl

  last_come : first (reverse (take place row ++ x ∷ drop place row)) ≡ first (reverse row)
  last_come =
      let back : List ℕ = drop place row in
      let some : 0 < length (reverse back) = omega (arith, length-reverse back, length-drop place row, within) in
      ap (λ (l : List ℕ). first (reverse l)) regrouped
      ∙ ap first (reverse-append (take place row ++ x ∷ []) back)
      ∙ first_ahead (reverse back) (reverse (take place row ++ x ∷ [])) (reverse (take place row)) some
      ∙ ap first (sym (reverse-append (take place row) back))
      ∙ ap (λ (l : List ℕ). first (reverse l)) (take-append-drop place row)

-- what a node begins with depends on the first of its children alone
begins_alike : (xs ys : List ℕ) (n : ℕ) (content : Content) → first xs ≡ first ys → beginning_in xs n content ≡ beginning_in ys n content
begins_alike xs ys n property e = e
begins_alike xs ys n content e = refl

space_prints : prints a_space ≡ true
space_prints = ap (λ o. starts (λ c. true) o) space_first

-- what is seen behind a node is nearest in its row, or behind the property that holds it
pub either_seen : (o p : Option ℕ) (x : ℕ) → or_else o p ≡ Some x → (o ≡ Some x) ⊎ ((o ≡ None) × (p ≡ Some x))
either_seen None p x e = inr (refl, e)
either_seen (Some y) p x e = inl e

-- a property holds n, and x is nearest behind it
pub record Held (ns : List Node) (n x : ℕ) : Type 0 where
  pub holder : ℕ
  pub parent : parent_at ns n ≡ Some holder
  pub is : content_at ns holder ≡ property
  pub near : nearest ns (siblings_after ns holder) ≡ Some x

property_seen : (ns : List Node) (content : Content) (h x : ℕ) → behind_property ns content h ≡ Some x → (content ≡ property) × (nearest ns (siblings_after ns h) ≡ Some x)
property_seen ns property h x e = (refl, e)
property_seen ns content h x e = absurd (none_some e)

pub holder_seen : (ns : List Node) (n x : ℕ) (o : Option ℕ) → parent_at ns n ≡ o → option_and_then (λ p. behind_property ns (content_at ns p) p) o ≡ Some x → Held ns n x
holder_seen ns n x None said e = absurd (none_some e)
holder_seen ns n x (Some h) said e =
    let seen = property_seen ns (content_at ns h) h x e in
    record { holder = h; parent = said; is = seen.0; near = seen.1 }

held_behind : (ns : List Node) (n h : ℕ) → parent_at ns n ≡ Some h → content_at ns h ≡ property → behind_holder ns n ≡ nearest ns (siblings_after ns h)
held_behind ns n h said is = ap (option_and_then (λ p. behind_property ns (content_at ns p) p)) said ∙ ap (λ w. behind_property ns w h) is

-- x is nearest behind m among the children of c: so many stand between them, none of which prints something
pub record Nearest (ns : List Node) (m x c : ℕ) : Type 0 where
  pub between : ℕ
  pub parent : parent_at ns m ≡ Some c
  pub at : place_at ns x ≡ place_at ns m + 1 + between
  pub clear : nearest ns (take between (drop (place_at ns m + 1) (children_at ns c))) ≡ None

pub nearest_in : (ns : List Node) → IsTree ns → (m x c : ℕ) (o : Option ℕ) → parent_at ns x ≡ Some c → parent_at ns m ≡ o → nearest ns (drop (place_at ns m + 1) (with_parent o (children_at ns))) ≡ Some x → Nearest ns m x c
nearest_in ns tree m x c None told said e =
    let f = found_at (prints_at ns) (drop (place_at ns m + 1) []) x e in
    absurd (omega (arith, f.1, length-drop {A = ℕ} (place_at ns m + 1) []))
nearest_in ns tree m x c (Some p) told said e =
    let row : List ℕ = children_at ns p in
    let f = found_at (prints_at ns) (drop (place_at ns m + 1) row) x e in
    let inn : place_at ns m + 1 + f.0 < length row = omega (arith, f.1, length-drop (place_at ns m + 1) row) in
    let is : get_or row (place_at ns m + 1 + f.0) 0 ≡ x = sym (get_or-drop (place_at ns m + 1) row f.0 0) ∙ f.2 in
    let same : p ≡ c = Some_same p c (sym (tree.named p (place_at ns m + 1 + f.0) inn) ∙ ap (parent_at ns) is ∙ told) in
    record {
      between = f.0;
      parent = said ∙ ap Some same;
      at = ap (place_at ns) (sym is) ∙ tree.placed p (place_at ns m + 1 + f.0) inn;
      clear = ap (λ j. nearest ns (take f.0 (drop (place_at ns m + 1) (children_at ns j)))) (sym same) ∙ f.3;
    }

module _ (old new : List Node) (n space : ℕ) (tree : IsTree old) (r : StandsBefore old new n space) where
  abbrev c : ℕ
  c = r.container

  abbrev row : List ℕ
  row = children_at old c

  abbrev place : ℕ
  place = place_at old n

  within : place < length row
  within = place_within old new n space tree r

  contents : (k : ℕ) → content_at new k ≡ content_at old k
  contents = contents_kept old new n space tree r

  -- a node that had a parent is not the space
  no_space : (k p : ℕ) → parent_at old k ≡ Some p → k ≢ space
  no_space k p said e = none_some (sym r.was.alone ∙ ap (parent_at old) (sym e) ∙ said)

  nearest_kept : (xs : List ℕ) → nearest new xs ≡ nearest old xs
  nearest_kept = find_same (prints_at new) (prints_at old) (λ k. ap prints (contents k))

  nearest_space : (xs : List ℕ) → nearest new (space ∷ xs) ≡ Some space
  nearest_space xs = ap (λ b. cond b (Some space) (nearest new xs)) (ap prints (contents space ∙ r.was.is) ∙ space_prints)

  space_quiet : is_bare_at new (Some space) ≡ false
  space_quiet = ap is_bare (contents space ∙ r.was.is)

  bare_kept : (o : Option ℕ) → is_bare_at new o ≡ is_bare_at old o
  bare_kept None = refl
  bare_kept (Some k) = ap is_bare (contents k)

  -- what each node ends with stays
  last_kept : (y : ℕ) → first (reverse (children_at new y)) ≡ first (reverse (children_at old y))
  last_kept y =
      elim (cases_eq y c) [
        | inr ne ↦ ap (λ (l : List ℕ). first (reverse l)) (children_kept old new n space tree r y ne)
        | inl e ↦
            ap (λ k. first (reverse (children_at new k))) e
            ∙ ap (λ (l : List ℕ). first (reverse l)) (container_row old new n space tree r)
            ∙ last_come row place space within
            ∙ ap (λ k. first (reverse (children_at old k))) (sym e)
      ]

  end_kept : (y : ℕ) → end_of new y ≡ end_of old y
  end_kept y =
      ap (beginning_in (reverse (children_at new y)) y) (contents y)
      ∙ begins_alike (reverse (children_at new y)) (reverse (children_at old y)) y (content_at old y) (last_kept y)

  pub ends_kept : (o : Option ℕ) → ends_bare new o ≡ ends_bare old o
  ends_kept None = refl
  ends_kept (Some y) = bare_kept (end_of new y) ∙ ap (is_bare_at old) (end_kept y)

  -- and none begins with a literal without quotes that did not
  first_kept : (y : ℕ) → (first (children_at new y) ≡ Some space) ⊎ (first (children_at new y) ≡ first (children_at old y))
  first_kept y =
      elim (cases_eq y c) [
        | inr ne ↦ inr (ap first (children_kept old new n space tree r y ne))
        | inl e ↦
            let now : first (children_at new y) ≡ first (take place row ++ space ∷ drop place row) = ap (λ k. first (children_at new k)) e ∙ ap first (container_row old new n space tree r) in
            elim (first_come row place space within) [
              | inl is ↦ inl (now ∙ is)
              | inr is ↦ inr (now ∙ is ∙ ap (λ k. first (children_at old k)) (sym e))
            ]
      ]

  begin_quiet : (xs ys : List ℕ) (y : ℕ) (content : Content) → (first xs ≡ Some space) ⊎ (first xs ≡ first ys) → is_bare_at new (beginning_in ys y content) ≡ false → is_bare_at new (beginning_in xs y content) ≡ false
  begin_quiet xs ys y property (inl e) h = ap (is_bare_at new) e ∙ space_quiet
  begin_quiet xs ys y property (inr e) h = ap (is_bare_at new) e ∙ h
  begin_quiet xs ys y content e h = h

  pub begins_quiet : (o : Option ℕ) → begins_bare old o ≡ false → begins_bare new o ≡ false
  begins_quiet None h = refl
  begins_quiet (Some y) h =
      ap (λ w. is_bare_at new (beginning_in (children_at new y) y w)) (contents y)
      ∙ begin_quiet (children_at new y) (children_at old y) y (content_at old y) (first_kept y) (bare_kept (beginning_of old y) ∙ h)

  -- the siblings of a node in another row are what they were
  siblings_kept : (G : ℕ → List ℕ → List ℕ) (m : ℕ) (o : Option ℕ) → parent_at old m ≡ o → m ≢ space → o ≢ Some c → G (place_at new m) (row_of new m) ≡ G (place_at old m) (row_of old m)
  siblings_kept G m None said ne out =
      ap (λ o. G (place_under new m o) (with_parent o (children_at new))) (parent_kept old new n space tree r m ne ∙ said)
      ∙ sym (ap (λ o. G (place_under old m o) (with_parent o (children_at old))) said)
  siblings_kept G m (Some p) said ne out =
      ap (λ o. G (place_under new m o) (with_parent o (children_at new))) (parent_kept old new n space tree r m ne ∙ said)
      ∙ ap (λ l. G (place_among m l) l) (children_kept old new n space tree r p (λ e. out (ap Some e)))
      ∙ sym (ap (λ o. G (place_under old m o) (with_parent o (children_at old))) said)

  after_kept : (m : ℕ) → m ≢ space → parent_at old m ≢ Some c → siblings_after new m ≡ siblings_after old m
  after_kept m ne out = siblings_kept (λ k l. drop (k + 1) l) m (parent_at old m) refl ne out

  before_kept : (m : ℕ) → m ≢ space → parent_at old m ≢ Some c → siblings_before new m ≡ siblings_before old m
  before_kept m ne out = siblings_kept (λ k l. reverse (take k l)) m (parent_at old m) refl ne out

  -- the row of a child of the container
  pub row_new : (m : ℕ) → parent_at old m ≡ Some c → row_of new m ≡ take place row ++ space ∷ drop place row
  row_new m said =
      ap (λ o. with_parent o (children_at new)) (parent_kept old new n space tree r m (no_space m c said) ∙ said)
      ∙ container_row old new n space tree r

  row_old : (m : ℕ) → parent_at old m ≡ Some c → row_of old m ≡ row
  row_old m said = ap (λ o. with_parent o (children_at old)) said

  -- no node is its own parent
  other : (h p : ℕ) → parent_at old h ≡ Some p → h ≢ p
  other h p said e = not_over_parent old tree h p said (subst (λ k. IsOver old h k) e IsOver.itself)

  -- before n the space is seen now
  pub n_placed : place_at new n ≡ place + 1
  n_placed = ap (place_at new) (sym (tree.found n c r.parent)) ∙ placed_behind old new n space tree r place (omega arith) within

  pub space_before : seen_before new n ≡ Some space
  space_before =
      ap (λ k. nearest new (reverse (take k (row_of new n)))) n_placed
      ∙ ap (λ l. nearest new (reverse (take (place + 1) l))) (row_new n r.parent)
      ∙ ap (nearest new) (come_back row place space within)
      ∙ nearest_space (reverse (take place row))

  -- and behind it what was
  after_n : siblings_after new n ≡ siblings_after old n
  after_n =
      ap (λ k. drop (k + 1) (row_of new n)) n_placed
      ∙ ap (drop (place + 1 + 1)) (row_new n r.parent)
      ∙ past_one row place space within
      ∙ ap (drop (place + 1)) (sym (row_old n r.parent))

  behind_kept : (content : Content) (p : ℕ) → p ≢ space → parent_at old p ≢ Some c → behind_property new content p ≡ behind_property old content p
  behind_kept property p ne out = ap (nearest new) (after_kept p ne out) ∙ nearest_kept (siblings_after old p)
  behind_kept content p ne out = refl

  holder_n : behind_holder new n ≡ behind_holder old n
  holder_n =
      let apart : parent_at old c ≢ Some c = λ e. other c c e refl in
      ap (option_and_then (λ p. behind_property new (content_at new p) p)) (parent_kept old new n space tree r n (no_space n c r.parent) ∙ r.parent)
      ∙ ap (λ w. behind_property new w c) (contents c)
      ∙ behind_kept (content_at old c) c (λ e. space_apart e) apart
      ∙ sym (ap (option_and_then (λ p. behind_property old (content_at old p) p)) r.parent)
    where
      space_apart : c ≡ space → ⊥
      space_apart e = space_no_container old new n space tree r (sym e)

  pub behind_n : seen_behind new n ≡ seen_behind old n
  behind_n =
      ap (λ o. or_else o (behind_holder new n)) (ap (nearest new) after_n ∙ nearest_kept (siblings_after old n))
      ∙ ap (or_else (nearest old (siblings_after old n))) holder_n

  -- where n was nearest behind m, the space is now, and before m all is as it was
  module _ (m : ℕ) (near : Nearest old m n c) where
    low : place_at old m < place
    low = omega (arith, near.at)

    pub m_placed : place_at new m ≡ place_at old m
    m_placed = ap (place_at new) (sym (tree.found m c near.parent)) ∙ placed_ahead old new n space tree r (place_at old m) low

    before_m : siblings_before new m ≡ siblings_before old m
    before_m =
        ap (λ k. reverse (take k (row_of new m))) m_placed
        ∙ ap (λ (l : List ℕ). reverse (take (place_at old m) l)) (row_new m near.parent)
        ∙ ahead_back row place space within (place_at old m) low
        ∙ ap (λ (l : List ℕ). reverse (take (place_at old m) l)) (sym (row_old m near.parent))

    after_m : nearest new (siblings_after new m) ≡ Some space
    after_m =
        let ahead : List ℕ = take near.between (drop (place_at old m + 1) row) in
        ap (λ k. nearest new (drop (k + 1) (row_of new m))) m_placed
        ∙ ap (λ l. nearest new (drop (place_at old m + 1) l)) (row_new m near.parent)
        ∙ ap (nearest new) (ahead_on row place space within (place_at old m + 1) near.between near.at)
        ∙ find-append (prints_at new) ahead (space ∷ drop place row)
        ∙ ap (λ o. option_or o (nearest new (space ∷ drop place row))) (nearest_kept ahead ∙ near.clear)
        ∙ nearest_space (drop place row)

  -- so where n was seen behind v
  module _ (v : ℕ) where
    abbrev SpaceSeen : Type 0
    SpaceSeen = (seen_behind new v ≡ Some space) × (seen_before new v ≡ seen_before old v)

    seen_in_row : Nearest old v n c → SpaceSeen
    seen_in_row near = (
      ap (λ o. or_else o (behind_holder new v)) (after_m v near),
      ap (nearest new) (before_m v near) ∙ nearest_kept (siblings_before old v),
    )

    seen_past_holder : nearest old (siblings_after old v) ≡ None → (held : Held old v n) → Nearest old held.holder n c → SpaceSeen
    seen_past_holder nothing held near =
        let apart : v ≢ space = no_space v held.holder held.parent in
        let out : parent_at old v ≢ Some c = λ e. other held.holder c near.parent (Some_same held.holder c (sym held.parent ∙ e)) in
        let mine : nearest new (siblings_after new v) ≡ None = ap (nearest new) (after_kept v apart out) ∙ nearest_kept (siblings_after old v) ∙ nothing in
        let holder : behind_holder new v ≡ Some space =
        held_behind new v held.holder (parent_kept old new n space tree r v apart ∙ held.parent) (contents held.holder ∙ held.is) ∙ after_m held.holder near in (
          ap (λ o. or_else o (behind_holder new v)) mine ∙ holder,
          ap (nearest new) (before_kept v apart out) ∙ nearest_kept (siblings_before old v),
        )

    pub nearest_to : (m : ℕ) → nearest old (siblings_after old m) ≡ Some n → Nearest old m n c
    nearest_to m e = nearest_in old tree m n c (parent_at old m) r.parent refl e

    pub space_behind : seen_behind old v ≡ Some n → SpaceSeen
    space_behind e =
        elim (either_seen (nearest old (siblings_after old v)) (behind_holder old v) n e) [
          | inl near ↦ seen_in_row (nearest_to v near)
          | inr past ↦ let held = holder_seen old v n (parent_at old v) refl past.1 in seen_past_holder past.0 held (nearest_to held.holder held.near)
        ]

-- no space is due around n for a literal without quotes
abbrev pub Quiet : List Node → ℕ → Type 0
Quiet ns n = (ends_bare ns (seen_before ns n) ≡ false) × (begins_bare ns (seen_behind ns n) ≡ false)

module _ (old now : List Node) (tree : IsTree old) where
  -- with a space before n nothing meets it there
  quiet_before : (n space : ℕ) → StandsBefore old now n space → ends_bare now (seen_before now n) ≡ false
  quiet_before n space s = ap (ends_bare now) (space_before old now n space tree s) ∙ ap (is_bare_at now) (end_is (content_at now space) (contents_kept old now n space tree s space ∙ s.was.is)) ∙ space_quiet old now n space tree s
    where
      end_is : (content : Content) → content ≡ a_space → beginning_in (reverse (children_at now space)) space content ≡ Some space
      end_is content e = ap (beginning_in (reverse (children_at now space)) space) e

  quiet_still : (n space : ℕ) → StandsBefore old now n space → begins_bare old (seen_behind old n) ≡ false → begins_bare now (seen_behind now n) ≡ false
  quiet_still n space s h = ap (begins_bare now) (behind_n old now n space tree s) ∙ begins_quiet old now n space tree s (seen_behind old n) h

  -- with a space before what is seen behind it nothing meets it there
  pub quiet_behind : (n x space : ℕ) → StandsBefore old now x space → seen_behind old n ≡ Some x → begins_bare now (seen_behind now n) ≡ false
  quiet_behind n x space s e =
      ap (begins_bare now) (space_behind old now x space tree s n e).0
      ∙ ap (λ w. is_bare_at now (beginning_in (children_at now space) space w)) (contents_kept old now x space tree s space ∙ s.was.is)
      ∙ space_quiet old now x space tree s

  quiet_too : (n x space : ℕ) → StandsBefore old now x space → seen_behind old n ≡ Some x → ends_bare old (seen_before old n) ≡ false → ends_bare now (seen_before now n) ≡ false
  quiet_too n x space s e h = ap (ends_bare now) (space_behind old now x space tree s n e).1 ∙ ends_kept old now x space tree s (seen_before old n) ∙ h

module _ (old new : List Node) (n : ℕ) (tree : IsTree old) where
  none_true : false ≡ true → ⊥
  none_true e = cc

  by : (a b : Bool) (o : Option ℕ) → ends_bare old (seen_before old n) ≡ a → seen_behind old n ≡ o → begins_bare old o ≡ b → AreSpaced old (listed (cond a (Some n) None) ++ listed (cond b o None)) new → Quiet new n
  by false false o before seen behind same = subst (λ ns. Quiet ns n) (sym same) (before, ap (begins_bare old) seen ∙ behind)
  by false true None before seen behind spaced = absurd (none_true behind)
  by false true (Some x) before seen behind (now, space, s, same) =
      subst (λ ns. Quiet ns n) (sym same) (quiet_too old now tree n x space s seen before, quiet_behind old now tree n x space s seen)
  by true false o before seen behind (now, space, s, same) =
      subst (λ ns. Quiet ns n) (sym same) (quiet_before old now tree n space s, quiet_still old now tree n space s (ap (begins_bare old) seen ∙ behind))
  by true true None before seen behind spaced = absurd (none_true behind)
  by true true (Some x) before seen behind (now, space, s, (then, other_space, t, same)) =
      let still : seen_behind now n ≡ Some x = behind_n old now n space tree s ∙ seen in
      subst (λ ns. Quiet ns n) (sym same) (
        quiet_too now then s.tree n x other_space t still (quiet_before old now tree n space s),
        quiet_behind now then s.tree n x other_space t still,
      )

  pub none_due : (content : Content) → AreSpaced old (spaces_needed_around old n content) new → IsTrue (is_bare content) → Quiet new n
  none_due content spaced bare =
      by (ends_bare old (seen_before old n)) (begins_bare old (seen_behind old n)) (seen_behind old n) refl refl refl
      (subst (λ b. AreSpaced old (cond b (listed (cond (ends_bare old (seen_before old n)) (Some n) None) ++ listed (cond (begins_bare old (seen_behind old n)) (seen_behind old n) None)) []) new) bare spaced)
