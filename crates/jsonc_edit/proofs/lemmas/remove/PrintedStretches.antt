-- A stretch of a row with a node in it that prints something prints something; so does an element of a sound row.
use Rattle.std.proofs.Common.{◌≡◌, ℕ, ◌+◌, ◌<◌, ◌≤◌, Bool, true, false, not, ◌||◌, cond, if◌then◌else◌, List, [], ◌∷◌, ◌++◌, length, reverse, get_or, Option, Some, None, IsTrue, inl, inr, refl, sym, ap, subst, ◌∙◌, arith, length-append}
use Rattle.std.proofs.lemmas.Bool.{cases_Bool, ne_eqb}
use Rattle.std.proofs.lemmas.List.{append_assoc, get_or_append_left, get_or-append-add, reverse-append}
use Rattle.std.proofs.lemmas.List.Elements.{All-nil, All-cons, All-head, All-tail, All-from_get_or}
use Rattle.std.proofs.lemmas.List.Folds.{find-append}
use Rattle.std.specs.List.{find, All}
use Rattle.std.specs.Option.{option_or}
use Rattle.jsonc_text.specs.Options.{Options}
use Rattle.jsonc_text.specs.Text.{starts}
use Rattle.jsonc_tree.specs.Content.{Content, is_container}
use Rattle.jsonc_tree.specs.OrderedTree.{OrderedTree, Shows, shows_none, shows_more}
use Rattle.jsonc_tree.specs.Tree.{Node, content_at, children_at, place_at, IsTree}
use Rattle.jsonc_layout.specs.nodes.Kinds.{is_element}
use Rattle.jsonc_layout.proofs.lemmas.nodes.InTree.{All-reverse}
use Rattle.jsonc_sound.specs.Adjacent.{first_char}
use Rattle.jsonc_sound.specs.Alone as alone
use Rattle.jsonc_sound.specs.Alone.{ValueAlone, PartAlone, RowAlone}
use Rattle.jsonc_sound.specs.Rows.{RowKind, Last}
use Rattle.jsonc_sound.proofs.RowsWithin.{LeafPrints, literal_prints}
use Rattle.jsonc_sound.specs.Shape.{IsTrivia}
use Rattle.jsonc_edit.specs.Due.{is_other, nearest, prints, prints_at, prints_within, seen_before}
use Rattle.jsonc_edit.proofs.lemmas.remove.Places.{before_in, some_reversed}
use Rattle.jsonc_edit.proofs.lemmas.remove.RemovedStretches.{Edges}

-- what is found in a list is one of it
pub find_holds : (P : ℕ → Type 0) (test : ℕ → Bool) (xs : List ℕ) (m : ℕ) → All P xs → find test xs ≡ Some m → P m
find_holds P test [] m h e = absurd (let wrong : None ≡ Some m = e in cc)
find_holds P test (x ∷ xs) m h e = by (test x) e (find_holds P test xs m (All-tail P x xs h))
  where
    by : (b : Bool) → (if b then Some x else find test xs) ≡ Some m → (find test xs ≡ Some m → P m) → P m
    by true f rest = let same : x ≡ m = cc in subst P same (All-head P x xs h)
    by false f rest = rest f

module _ (ns : List Node) (tree : IsTree ns) (c : ℕ) (front stretch back : List ℕ) (from to : ℕ) (row : children_at ns c ≡ front ++ (stretch ++ back)) (e : Edges stretch from to) where
  from_row : children_at ns c ≡ front ++ from ∷ (e.tail ++ back)
  from_row = row ∙ ap (λ (l : List ℕ). front ++ (l ++ back)) e.first_is

  to_row : children_at ns c ≡ (front ++ e.init) ++ to ∷ back
  to_row = row ∙ ap (λ (l : List ℕ). front ++ (l ++ back)) e.last_is ∙ ap (λ (l : List ℕ). front ++ l) (append_assoc e.init (to ∷ []) back) ∙ sym (append_assoc front e.init (to ∷ back))

  short_row : children_at ns c ≡ (front ++ e.init) ++ (to ∷ back)
  short_row = to_row

  placed_there : (k : ℕ) → k < length (front ++ e.init) → place_at ns (get_or (front ++ e.init) k 0) ≡ k
  placed_there k h =
      let long : length (children_at ns c) ≡ length (front ++ e.init) + length (to ∷ back) = ap (λ (l : List ℕ). length l) short_row ∙ length-append (front ++ e.init) (to ∷ back) in
      let at : get_or (children_at ns c) k 0 ≡ get_or (front ++ e.init) k 0 = ap (λ l. get_or l k 0) short_row ∙ get_or_append_left (front ++ e.init) (to ∷ back) 0 k h in
      ap (place_at ns) (sym at) ∙ tree.placed c k (omega (arith, h, long))

  all_low : All (λ x. place_at ns x < length front) front
  all_low =
      All-from_get_or (λ x. place_at ns x < length front) front 0 (λ k h.
      let whole : length (front ++ e.init) ≡ length front + length e.init = length-append front e.init in
      let at : get_or (front ++ e.init) k 0 ≡ get_or front k 0 = get_or_append_left front e.init 0 k h in
      omega (arith, h, ap (place_at ns) (sym at) ∙ placed_there k (omega (arith, h, whole))))

  all_high : All (λ x. length front ≤ place_at ns x) e.init
  all_high =
      All-from_get_or (λ x. length front ≤ place_at ns x) e.init 0 (λ k h.
      let whole : length (front ++ e.init) ≡ length front + length e.init = length-append front e.init in
      let at : get_or (front ++ e.init) (length front + k) 0 ≡ get_or e.init k 0 = get_or-append-add front e.init k 0 in
      omega (arith, h, ap (place_at ns) (sym at) ∙ placed_there (length front + k) (omega (arith, h, whole))))

  differ : (m : ℕ) → nearest ns (reverse e.init) ≡ Some m → (o : Option ℕ) → nearest ns (reverse front) ≡ o → is_other (Some m) o ≡ true
  differ m found None seen = refl
  differ m found (Some k) seen =
      let high : length front ≤ place_at ns m = find_holds (λ x. length front ≤ place_at ns x) (prints_at ns) (reverse e.init) m (All-reverse (λ x. length front ≤ place_at ns x) e.init all_high) found in
      let low : place_at ns k < length front = find_holds (λ x. place_at ns x < length front) (prints_at ns) (reverse front) k (All-reverse (λ x. place_at ns x < length front) front all_low) seen in
      ap not (ne_eqb m k (λ same. omega (arith, high, low, ap (place_at ns) same)))

  -- it prints something where one of its nodes does
  pub stretch_prints : (n : ℕ) (near line : List ℕ) → stretch ≡ near ++ n ∷ line → prints_at ns n ≡ true → prints_within ns from to ≡ true
  stretch_prints n near line split shown =
      elim (cases_Bool (prints_at ns to)) [
        | inl last ↦ ap (λ b. b || is_other (seen_before ns to) (seen_before ns from)) last
        | inr blind ↦
            let some = some_reversed (prints_at ns) n line shown in
            let whole : nearest ns (reverse stretch) ≡ Some some.0 =
            ap (λ (l : List ℕ). nearest ns (reverse l)) split ∙ ap (nearest ns) (reverse-append near (n ∷ line)) ∙ find-append (prints_at ns) (reverse (n ∷ line)) (reverse near) ∙ ap (λ o. option_or o (nearest ns (reverse near))) some.1 in
            let parts : nearest ns (reverse stretch) ≡ nearest ns (reverse e.init) =
            ap (λ (l : List ℕ). nearest ns (reverse l)) e.last_is ∙ ap (nearest ns) (reverse-append e.init (to ∷ [])) ∙ ap (λ b. cond b (Some to) (nearest ns (reverse e.init))) blind in
            let found : nearest ns (reverse e.init) ≡ Some some.0 = sym parts ∙ whole in
            let seen_to : seen_before ns to ≡ Some some.0 =
            ap (nearest ns) (before_in ns tree c (front ++ e.init) back to to_row) ∙ ap (nearest ns) (reverse-append front e.init) ∙ find-append (prints_at ns) (reverse e.init) (reverse front)
            ∙ ap (λ o. option_or o (nearest ns (reverse front))) found in
            let seen_from : seen_before ns from ≡ nearest ns (reverse front) = ap (nearest ns) (before_in ns tree c front (e.tail ++ back) from from_row) in
            ap (λ b. b || is_other (seen_before ns to) (seen_before ns from)) blind ∙ ap (λ o. is_other o (seen_before ns from)) seen_to ∙ ap (is_other (Some some.0)) seen_from
            ∙ differ some.0 found (nearest ns (reverse front)) refl
      ]

-- each element of a row prints something
abbrev pub ElementsPrint : OrderedTree → Type 0
ElementsPrint OrderedTree.none = Unit {0}
ElementsPrint (OrderedTree.more content below after) = (IsTrue (is_element content) → prints content ≡ true) × ElementsPrint after

text_prints : (content : Content) → LeafPrints content → prints content ≡ true
text_prints content h = by (is_container content)
  where
    by : (b : Bool) → b || starts (λ c. true) (first_char content) ≡ true
    by true = refl
    by false = h

module _ (o : Options) where
  pub part_prints : {kind : RowKind} {content : Content} {below : OrderedTree} → PartAlone o kind content below → prints content ≡ true
  part_prints (alone.a_value (alone.literal {content = content} h)) = text_prints content (literal_prints o content h)
  part_prints (alone.a_value (alone.an_array g)) = refl
  part_prints (alone.a_value (alone.an_object g)) = refl
  part_prints (alone.a_property p) = refl

  no_element : (content : Content) → IsTrivia o content → IsTrue (is_element content) → prints content ≡ true
  no_element (Content.whitespace s) h e = cc
  no_element (Content.newline k) h e = cc
  no_element (Content.comment s) h e = cc
  no_element content h e = absurd h

  row_prints : {kind : RowKind} {last : Last} {row : OrderedTree} → RowAlone o kind last row → ElementsPrint row
  row_prints (alone.closes m) = (λ e. cc, tt)
  row_prints (alone.trivia {content = content} h g) = (no_element content h, row_prints g)
  row_prints (alone.element m p g) = (λ e. part_prints p, row_prints g)
  row_prints (alone.comma g) = (λ e. cc, row_prints g)

shown_print : (ns : List Node) {xs : List ℕ} {row : OrderedTree} → Shows ns xs row → ElementsPrint row → All (λ x. IsTrue (is_element (content_at ns x)) → prints_at ns x ≡ true) xs
shown_print ns shows_none h = All-nil (λ x. IsTrue (is_element (content_at ns x)) → prints_at ns x ≡ true)
shown_print ns (shows_more {n = n} {rest = rest} p r) h = All-cons (λ x. IsTrue (is_element (content_at ns x)) → prints_at ns x ≡ true) n rest h.0 (shown_print ns r h.1)

pub elements_print : (o : Options) (ns : List Node) {kind : RowKind} {last : Last} {xs : List ℕ} {row : OrderedTree} → Shows ns xs row → RowAlone o kind last row → All (λ x. IsTrue (is_element (content_at ns x)) → prints_at ns x ≡ true) xs
elements_print o ns shows g = shown_print ns shows (row_prints o g)
