-- Where no array or object below a node has a trailing comma, what stands there is a value under options that allow none.
use Rattle.std.proofs.Common.{◌≡◌, ◌∙◌, sym, ap, subst, refl, ℕ, ◌<◌, Bool, true, false, List, [], ◌∷◌, ◌++◌, length, All, None, IsTrue}
use Rattle.std.specs.List.{AllByRecursion}
use Rattle.std.proofs.lemmas.Bool.{false≢true}
use Rattle.std.proofs.lemmas.List.Elements.{All-head, All-tail}
use Rattle.jsonc_text.specs.Options.{Options, AgreeOnLexemes, without_trailing}
use Rattle.jsonc_tree.specs.Content.{Content, token}
use Rattle.jsonc_tree.specs.OrderedTree.{OrderedTree, none, more}
use Rattle.jsonc_tree.specs.Tree.{Node, content_at, children_at, IsTree, IsOver}
use Rattle.jsonc_tree.proofs.Order.{parent_there}
use Rattle.jsonc_layout.specs.nodes.Kinds.{is_element, is_element_at}
use Rattle.jsonc_layout.specs.lines.Kinds.{is_array_or_object}
use Rattle.jsonc_sound.specs.Shape as shape
use Rattle.jsonc_sound.specs.Shape.{IsTrivia, Trivia, token_then}
use Rattle.jsonc_sound.specs.Alone as alone
use Rattle.jsonc_sound.specs.Alone.{PartAlone, PropertyAlone, RootAlone, RowAlone, ValueAlone}
use Rattle.jsonc_sound.specs.Rows as rows
use Rattle.jsonc_sound.specs.Rows.{RowKind, closing, Last, may_end, opening}
use Rattle.jsonc_sound.proofs.Changed.{part_element}
use Rattle.jsonc_edit.specs.Changes.{row_below}
use Rattle.jsonc_edit.specs.commas.Commas.{comma_gone}
use Rattle.jsonc_edit.specs.commas.InTurn.{holds_at}
use Rattle.jsonc_edit.proofs.lemmas.commas.Children.{children_are, IsChild}
use Rattle.jsonc_edit.proofs.lemmas.commas.CommaRows.{comma_first, trivia_comma}
use Rattle.jsonc_edit.proofs.lemmas.commas.Splits.{bare_end, behind_last, empty, without_first, EndsBare, NoneOf}
use Rattle.jsonc_edit.proofs.lemmas.commas.WiderShapes.{literal_before, name_before, trivia, trivia_leaf}
use Rattle.jsonc_edit.proofs.Standing.{row_stands, standing}

pub same_lexemes : (o : Options) → AgreeOnLexemes o (without_trailing o)
same_lexemes o = record { single_quoted_strings = refl; hexadecimal_numbers = refl; unary_plus_numbers = refl; bare_decimal_points = refl; non_finite_numbers = refl; extended_escapes = refl }

no_trivia : (o : Options) (content : Content) → is_element content ≡ true → IsTrivia o content → ⊥
no_trivia o (Content.whitespace s) e t = cc
no_trivia o (Content.newline k) e t = cc
no_trivia o (Content.comment s) e t = cc
no_trivia o content e t = t

no_token : (content : Content) (c : ℕ) → is_element content ≡ true → content ≡ token c → ⊥
no_token content c e is = let wrong : is_element (token c) ≡ true = subst (λ w. is_element w ≡ true) is e in cc

no_comma_stands : rows.an_element ≡ rows.nothing_yet → ⊥
no_comma_stands e = cc

-- rows, by what stands in them
module _ (o : Options) where
  abbrev p : Options
  p = without_trailing o

  pub trivia_leaf_same : (content : Content) → IsTrivia o content → IsTrivia p content
  trivia_leaf_same content t = trivia_leaf (same_lexemes o) (λ h. h) (λ h. h) content t

  gap : {t r : OrderedTree} → Trivia o t r → Trivia p t r
  gap t = trivia (same_lexemes o) (λ h. h) (λ h. h) t

-- and by the numbers of nodes, where none below `top` has a trailing comma
module _ (o : Options) (ns : List Node) (tree : IsTree ns) (top : ℕ) (first : top < length ns) (lacks : (n : ℕ) → IsOver ns top n → IsTrue (holds_at ns n) → comma_gone ns n ≡ None) where
  abbrev q : Options
  q = without_trailing o

  abbrev Below : List ℕ → Type 0
  Below xs = AllByRecursion (IsOver ns top) xs

  there : (n : ℕ) → IsOver ns top n → n < length ns
  there _ IsOver.itself = first
  there n (IsOver.above {c = c} said rest) = (parent_there ns tree n c said).0

  each_over : (n : ℕ) → IsOver ns top n → (xs : List ℕ) → All (IsChild ns n) xs → Below xs
  each_over n over [] h = tt
  each_over n over (x ∷ xs) h = (IsOver.above (All-head (IsChild ns n) x xs h) over, each_over n over xs (All-tail (IsChild ns n) x xs h))

  kids_over : (n : ℕ) → IsOver ns top n → Below (children_at ns n)
  kids_over n over = each_over n over (children_at ns n) (children_are ns tree n)

  stands : (n : ℕ) (over : IsOver ns top n) → row_below ns n ≡ standing ns (children_at ns n)
  stands n over = row_stands ns tree n (there n over)

  -- a row is numbers, and so is what trivia leads to in it
  record Numbers (row : OrderedTree) : Type 0 where
    are : List ℕ
    over : Below are
    same : standing ns are ≡ row

  numbers : (n : ℕ) → IsOver ns top n → {row : OrderedTree} → row_below ns n ≡ row → Numbers row
  numbers n over f = record { are = children_at ns n; over = kids_over n over; same = sym (stands n over) ∙ f }

  record First (content : Content) (below after : OrderedTree) : Type 0 where
    number : ℕ
    over : IsOver ns top number
    is : content_at ns number ≡ content
    under : row_below ns number ≡ below
    rest : Numbers after

  first_of : {content : Content} {below after : OrderedTree} → Numbers (more content below after) → First content below after
  first_of {content} {below} {after} n = by n.are n.over n.same
    where
      by : (xs : List ℕ) → Below xs → standing ns xs ≡ more content below after → First content below after
      by [] h e = let wrong : none ≡ more content below after = e in cc
      by (x ∷ xs) h e = record {
        number = x;
        over = h.0;
        is = (let one : content_at ns x ≡ content = cc in one);
        under = (let two : row_below ns x ≡ below = cc in two);
        rest = record { are = xs; over = h.1; same = (let three : standing ns xs ≡ after = cc in three) };
      }

  past_trivia : {t r : OrderedTree} → Trivia o t r → Numbers t → Numbers r
  past_trivia shape.nothing n = n
  past_trivia (shape.trivia h t) n = past_trivia t (first_of n).rest

  holds_brackets : (kind : RowKind) (n : ℕ) → content_at ns n ≡ rows.holder kind → IsTrue (holds_at ns n)
  holds_brackets rows.of_values n e = ap is_array_or_object e
  holds_brackets rows.of_properties n e = ap is_array_or_object e

  no_bracket : (kind : RowKind) (n : ℕ) → content_at ns n ≡ token (opening kind) → is_element_at ns n ≡ false
  no_bracket kind n e = ap is_element e

  -- the numbers behind the first bracket of an array or object
  record Held (row : OrderedTree) : Type 0 where
    are : List ℕ
    over : Below are
    same : standing ns are ≡ row
    bare : EndsBare ns are

  held : (kind : RowKind) (n : ℕ) → IsOver ns top n → content_at ns n ≡ rows.holder kind → {row : OrderedTree} → row_below ns n ≡ token_then (opening kind) row → Held row
  held kind n over is {row} under = by (children_at ns n) (kids_over n over) (sym (stands n over) ∙ under) (bare_end ns tree n (lacks n over (holds_brackets kind n is)))
    where
      by : (xs : List ℕ) → Below xs → standing ns xs ≡ token_then (opening kind) row → EndsBare ns xs → Held row
      by [] h e b = let wrong : none ≡ token_then (opening kind) row = e in cc
      by (x ∷ xs) h e b =
          let opens : content_at ns x ≡ token (opening kind) = cc in
          record { are = xs; over = h.1; same = (let rest : standing ns xs ≡ row = cc in rest); bare = without_first ns x xs (no_bracket kind x opens) b }

  -- how far a walk along a row has come: no element comes, the last one is still to come, or it has been passed, and no comma comes behind it
  data Walk (last : Last) (xs : List ℕ) : Type 0 where
    none_comes : last ≡ rows.nothing_yet → NoneOf (is_element_at ns) xs → Walk last xs
    last_comes : (front : List ℕ) (n : ℕ) (back : List ℕ) → xs ≡ front ++ n ∷ back → is_element_at ns n ≡ true → NoneOf (is_element_at ns) back → comma_first (standing ns back) ≡ false → Walk last xs
    last_passed : last ≡ rows.an_element → NoneOf (is_element_at ns) xs → comma_first (standing ns xs) ≡ false → Walk last xs

  begun : (xs : List ℕ) → EndsBare ns xs → Walk rows.nothing_yet xs
  begun xs (empty h) = none_comes refl h
  begun xs (behind_last front n back are is past lack) = last_comes front n back are is past lack

  ends : (c : ℕ) (front : List ℕ) (n : ℕ) (back : List ℕ) → is_element_at ns n ≡ true → standing ns (front ++ n ∷ back) ≡ token_then c none → ⊥
  ends c [] n back is e = no_token (content_at ns n) c is (let one : content_at ns n ≡ token c = cc in one)
  ends c (x ∷ []) n back is e = let wrong : more (content_at ns n) (row_below ns n) (standing ns back) ≡ none = cc in cc
  ends c (x ∷ y ∷ front) n back is e = let wrong : more (content_at ns y) (row_below ns y) (standing ns (front ++ n ∷ back)) ≡ none = cc in cc

  at_end : (kind : RowKind) (last : Last) (xs : List ℕ) → Walk last xs → standing ns xs ≡ token_then (closing kind) none → IsTrue (may_end q last)
  at_end kind last xs (none_comes e h) f = subst (λ l. IsTrue (may_end q l)) (sym e) refl
  at_end kind last xs (last_comes front n back are is past lack) f = absurd (ends (closing kind) front n back is (sym (ap (standing ns) are) ∙ f))
  at_end kind last xs (last_passed e h lack) f = subst (λ l. IsTrue (may_end q l)) (sym e) refl

  past_trivium : (last : Last) (x : ℕ) (xs : List ℕ) → IsTrivia o (content_at ns x) → Walk last (x ∷ xs) → Walk last xs
  past_trivium last x xs t (none_comes e h) = none_comes e h.1
  past_trivium last x xs t (last_comes [] n back are is past lack) = let same : x ≡ n = cc in absurd (no_trivia o (content_at ns x) (ap (is_element_at ns) same ∙ is) t)
  past_trivium last x xs t (last_comes (y ∷ front) n back are is past lack) = last_comes front n back (let rest : xs ≡ front ++ n ∷ back = cc in rest) is past lack
  past_trivium last x xs t (last_passed e h lack) = last_passed e h.1 (sym (trivia_comma o (content_at ns x) (row_below ns x) (standing ns xs) t) ∙ lack)

  past_element : (last : Last) (x : ℕ) (xs : List ℕ) → is_element_at ns x ≡ true → Walk last (x ∷ xs) → Walk rows.an_element xs
  past_element last x xs is (none_comes e h) = absurd (false≢true (sym h.0 ∙ is))
  past_element last x xs is (last_comes [] n back are is2 past lack) =
      let rest : back ≡ xs = cc in
      last_passed refl (subst (NoneOf (is_element_at ns)) rest past) (ap (λ l. comma_first (standing ns l)) (sym rest) ∙ lack)
  past_element last x xs is (last_comes (y ∷ front) n back are is2 past lack) = last_comes front n back (let rest : xs ≡ front ++ n ∷ back = cc in rest) is2 past lack
  past_element last x xs is (last_passed e h lack) = absurd (false≢true (sym h.0 ∙ is))

  past_comma : (x : ℕ) (xs : List ℕ) → content_at ns x ≡ token 0x2C → Walk rows.an_element (x ∷ xs) → Walk rows.a_comma xs
  past_comma x xs is (none_comes e h) = absurd (no_comma_stands e)
  past_comma x xs is (last_comes [] n back are is2 past lack) = let same : x ≡ n = cc in absurd (no_token (content_at ns x) 0x2C (ap (is_element_at ns) same ∙ is2) is)
  past_comma x xs is (last_comes (y ∷ front) n back are is2 past lack) = last_comes front n back (let rest : xs ≡ front ++ n ∷ back = cc in rest) is2 past lack
  past_comma x xs is (last_passed e h lack) = absurd (false≢true (sym lack ∙ ap (λ w. comma_first (more w (row_below ns x) (standing ns xs))) is))

  mutual
    value : (n : ℕ) → IsOver ns top n → {content : Content} {below : OrderedTree} → content_at ns n ≡ content → row_below ns n ≡ below → ValueAlone o content below → ValueAlone q content below
    value n over e f (alone.literal {content = content} l) = alone.literal (literal_before (same_lexemes o) (λ h. h) (λ h. h) content [] l)
    value n over e f (alone.an_array g) = let h = held rows.of_values n over e f in alone.an_array (along h.are (begun h.are h.bare) h.over h.same g)
    value n over e f (alone.an_object g) = let h = held rows.of_properties n over e f in alone.an_object (along h.are (begun h.are h.bare) h.over h.same g)

    along : {kind : RowKind} {last : Last} {row : OrderedTree} (xs : List ℕ) → Walk last xs → Below xs → standing ns xs ≡ row → RowAlone o kind last row → RowAlone q kind last row
    along xs w h e (alone.closes {kind = kind} {last = last} m) = alone.closes (at_end kind last xs w e)
    along [] w h e (alone.trivia t g) = cc
    along (x ∷ xs) w h e (alone.trivia {last = last} {content = content} {after = after} t g) =
        let is : content_at ns x ≡ content = cc in
        alone.trivia (trivia_leaf_same o content t) (along xs (past_trivium last x xs (subst (IsTrivia o) (sym is) t) w) h.1 (let rest : standing ns xs ≡ after = cc in rest) g)
    along [] w h e (alone.element m r g) = cc
    along (x ∷ xs) w h e (alone.element {last = last} {content = content} {below = below} {after = after} m r g) =
        let is : content_at ns x ≡ content = cc in
        let under : row_below ns x ≡ below = cc in
        alone.element m (part x h.0 is under r) (along xs (past_element last x xs (ap is_element is ∙ part_element o r) w) h.1 (let rest : standing ns xs ≡ after = cc in rest) g)
    along [] w h e (alone.comma g) = cc
    along (x ∷ xs) w h e (alone.comma {after = after} g) =
        let is : content_at ns x ≡ token 0x2C = cc in
        alone.comma (along xs (past_comma x xs is w) h.1 (let rest : standing ns xs ≡ after = cc in rest) g)

    part : {kind : RowKind} (n : ℕ) → IsOver ns top n → {content : Content} {below : OrderedTree} → content_at ns n ≡ content → row_below ns n ≡ below → PartAlone o kind content below → PartAlone q kind content below
    part n over e f (alone.a_value v) = alone.a_value (value n over e f v)
    part n over e f (alone.a_property r) = alone.a_property (property n over f r)

    property : (n : ℕ) → IsOver ns top n → {below : OrderedTree} → row_below ns n ≡ below → PropertyAlone o below → PropertyAlone q below
    property n over f (alone.named {name = name} t a b v) =
        let it = first_of (past_trivia b (first_of (past_trivia a (first_of (numbers n over f)).rest)).rest) in
        alone.named (name_before (same_lexemes o) (λ h. h) (λ h. h) name [] t) (gap o a) (gap o b) (value it.number it.over it.is it.under v)

  pub value_without : ValueAlone o (content_at ns top) (row_below ns top) → ValueAlone q (content_at ns top) (row_below ns top)
  value_without v = value top IsOver.itself refl refl v

  -- the row of the root
  root_row : {stood : Bool} {row : OrderedTree} → Numbers row → RootAlone o stood row → RootAlone q stood row
  root_row n alone.root_ends = alone.root_ends
  root_row n (alone.root_trivia {content = content} t g) = alone.root_trivia (trivia_leaf_same o content t) (root_row (first_of n).rest g)
  root_row n (alone.root_value v g) = let f = first_of n in alone.root_value (value f.number f.over f.is f.under v) (root_row f.rest g)

  pub root_without : {stood : Bool} → RootAlone o stood (row_below ns top) → RootAlone q stood (row_below ns top)
  root_without g = root_row (numbers top IsOver.itself refl) g
