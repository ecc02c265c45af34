-- Rows of nodes by their parts: who stands where, and what a space that comes makes of them.
use Rattle.std.proofs.Common.{◌≡◌, ℕ, ◌+◌, ◌<◌, Bool, true, false, ◌&&◌, ◌==◌, cond, List, [], ◌∷◌, ◌++◌, length, reverse, slice_index, take, drop, Option, Some, None, IsTrue, inl, inr, if◌then◌else◌, refl, sym, ap, subst, ◌∙◌, arith}
use Rattle.std.proofs.lemmas.Bool.{cases_Bool}
use Rattle.std.proofs.lemmas.List.{append_assoc, drop_at, drop_more, length-append, map-append, reverse-append, take-append-drop, take_at}
use Rattle.std.proofs.lemmas.List.Folds.{find-append}
use Rattle.std.proofs.Math.Seq.{get_or-append_seam}
use Rattle.std.specs.List.{find}
use Rattle.std.specs.Option.{option_or}
use Rattle.jsonc_text.specs.Text.{starts}
use Rattle.jsonc_text.proofs.Basics.{eq_test, test_eq}
use Rattle.jsonc_tree.specs.Content.{Content, array, object}
use Rattle.jsonc_tree.specs.Order.{with_parent}
use Rattle.jsonc_tree.specs.Siblings.{row_of, siblings_after, siblings_before}
use Rattle.jsonc_tree.specs.Tree.{Node, content_at, parent_at, children_at, place_at, IsTree}
use Rattle.jsonc_layout.specs.lines.Kinds.{is_array_or_object}
use Rattle.jsonc_sound.specs.Spaces.{is_bare}
use Rattle.jsonc_sound.proofs.Spaced.{space_first}
use Rattle.jsonc_sound.proofs.Commas.{and_false}
use Rattle.jsonc_edit.specs.Due.{prints, prints_at, nearest, beginning_in, begins_bare, ends_bare, is_bare_at, listed}
use Rattle.jsonc_edit.specs.Put.{a_space, StandsBefore, AreSpaced}
use Rattle.jsonc_edit.proofs.InsertedSpaces.{children_kept, contents_kept, container_row}
use Rattle.jsonc_edit.proofs.UnneededSpaces.{ends_kept}
use Rattle.jsonc_edit.proofs.lemmas.remove.Contents.{Gains, gains_at}
use Rattle.jsonc_edit.proofs.lemmas.remove.Stretches.{contents}
use Rattle.jsonc_edit.proofs.Lists.{both_true}
use Rattle.jsonc_edit.proofs.Elements.{Some_same}

-- a row with a node in it, by what stands before that and behind it
module _ (ns : List Node) (tree : IsTree ns) (c : ℕ) where
  pub row_split : (n : ℕ) → parent_at ns n ≡ Some c → children_at ns c ≡ take (place_at ns n) (children_at ns c) ++ n ∷ drop (place_at ns n + 1) (children_at ns c)
  row_split n said =
      let cs : List ℕ = children_at ns c in
      let k : ℕ = place_at ns n in
      sym (take-append-drop k cs) ∙ ap (λ l. take k cs ++ l) (drop_more cs k 0 (tree.within n c said)) ∙ ap (λ m. take k cs ++ m ∷ drop (k + 1) cs) (tree.found n c said)

  module _ (front back : List ℕ) (x : ℕ) (row : children_at ns c ≡ front ++ x ∷ back) where
    low : length front < length (children_at ns c)
    low = omega (arith, ap length row, length-append front (x ∷ back))

    is_x : slice_index (children_at ns c) (length front) ≡ x
    is_x = ap (λ l. slice_index l (length front)) row ∙ get_or-append_seam front x back 0

    pub parent_in : parent_at ns x ≡ Some c
    parent_in = ap (parent_at ns) (sym is_x) ∙ tree.named c (length front) low

    pub place_in : place_at ns x ≡ length front
    place_in = ap (place_at ns) (sym is_x) ∙ tree.placed c (length front) low

    row_in : row_of ns x ≡ front ++ x ∷ back
    row_in = ap (λ o. with_parent o (children_at ns)) parent_in ∙ row

    pub before_in : siblings_before ns x ≡ reverse front
    before_in = ap (λ k. reverse (take k (row_of ns x))) place_in ∙ ap (λ l. reverse (take (length front) l)) row_in ∙ ap (λ (l : List ℕ). reverse l) (take_at front (x ∷ back) (length front) refl)

    one_on : length (front ++ x ∷ []) ≡ length front + 1
    one_on = length-append front (x ∷ [])

    pub after_in : siblings_after ns x ≡ back
    after_in =
        ap (λ k. drop (k + 1) (row_of ns x)) place_in ∙ ap (λ l. drop (length front + 1) l) (row_in ∙ sym (append_assoc front (x ∷ []) back))
        ∙ drop_at (front ++ x ∷ []) back (length front + 1) one_on

-- the last of a list
abbrev pub final : List ℕ → ℕ
final [] = 0
final (x ∷ []) = x
final (x ∷ y ∷ rest) = final (y ∷ rest)

pub final_last : (xs : List ℕ) (x : ℕ) → final (xs ++ x ∷ []) ≡ x
final_last [] x = refl
final_last (y ∷ []) x = refl
final_last (y ∷ z ∷ xs) x = final_last (z ∷ xs) x

pub final_behind : (xs : List ℕ) (y : ℕ) (ys : List ℕ) → final (xs ++ y ∷ ys) ≡ final (y ∷ ys)
final_behind [] y ys = refl
final_behind (x ∷ []) y ys = refl
final_behind (x ∷ z ∷ xs) y ys = final_behind (z ∷ xs) y ys

pub up_to_final : (y : ℕ) (ys : List ℕ) → (front : List ℕ) × (y ∷ ys ≡ front ++ final (y ∷ ys) ∷ [])
up_to_final y [] = ([], refl)
up_to_final y (z ∷ ys) = let r = up_to_final z ys in (y ∷ r.0, ap (λ (l : List ℕ). y ∷ l) r.1)

-- no two literals without quotes meet between these nodes and those
abbrev pub Quiet : List Node → List ℕ → List ℕ → Type 0
Quiet ns xs ys = (ends_bare ns (nearest ns (reverse xs)) && begins_bare ns (nearest ns ys)) ≡ false

-- The second nodes are the first, but that a space has come directly before the first of them that prints, or none has. One comes where that is a literal
-- without quotes, and so is what prints last ahead of them.
pub data Come (ns : List Node) (ahead : List ℕ) : List ℕ → List ℕ → Type 0 where
  none_come : {xs : List ℕ} → Come ns ahead xs xs
  one_come : (front back : List ℕ) (x leaf : ℕ) → nearest ns front ≡ None → content_at ns leaf ≡ a_space → ends_bare ns (nearest ns (reverse ahead)) ≡ true
      → prints_at ns x ≡ true → begins_bare ns (Some x) ≡ true → Come ns ahead (front ++ x ∷ back) (front ++ leaf ∷ x ∷ back)

-- an array or object begins with itself
holder_itself : (content : Content) → IsTrue (is_array_or_object content) → (children : List ℕ) (x : ℕ) → beginning_in children x content ≡ Some x
holder_itself array h children x = refl
holder_itself object h children x = refl
holder_itself content h children x = cc

-- a part of c's row, B, behind which R stands, where the space has come that was due before what prints first in it
pub record OneSpace (old now : List Node) (c : ℕ) (front part back ahead : List ℕ) : Type 0 where
  pub tree : IsTree now
  pub given : List ℕ
  pub row : children_at now c ≡ front ++ (given ++ back)
  pub gains : Gains (contents now part) (contents now given)
  pub come : Come now ahead part given
  pub quiet : Quiet now ahead given
  pub seen : nearest now (reverse given) ≡ nearest now (reverse part)
  pub last : (xs : List ℕ) (z : ℕ) → part ≡ xs ++ z ∷ [] → (ys : List ℕ) × (given ≡ ys ++ z ∷ [])
  pub content : (k : ℕ) → content_at now k ≡ content_at old k
  pub ends : (o : Option ℕ) → ends_bare now o ≡ ends_bare old o
  pub begins : (o : Option ℕ) → begins_bare now o ≡ begins_bare old o

-- what is found in a list, and what stands before it
record Found (test : ℕ → Bool) (xs : List ℕ) (x : ℕ) : Type 0 where
  front : List ℕ
  back : List ℕ
  split : xs ≡ front ++ x ∷ back
  clear : find test front ≡ None
  passes : test x ≡ true

found_in : (test : ℕ → Bool) (xs : List ℕ) (x : ℕ) → find test xs ≡ Some x → Found test xs x
found_in test [] x e = absurd (let wrong : None ≡ Some x = e in cc)
found_in test (y ∷ ys) x e = by (test y) refl e (found_in test ys x)
  where
    by : (b : Bool) → test y ≡ b → (if b then Some y else find test ys) ≡ Some x → (find test ys ≡ Some x → Found test ys x) → Found test (y ∷ ys) x
    by true t f rest = record { front = []; back = ys; split = ap (λ z. z ∷ ys) (Some_same y x f); clear = refl; passes = ap test (sym (Some_same y x f)) ∙ t }
    by false t f rest =
        let r = rest f in
        record { front = y ∷ r.front; back = r.back; split = ap (λ (l : List ℕ). y ∷ l) r.split; clear = ap (λ b. cond b (Some y) (find test r.front)) t ∙ r.clear; passes = r.passes }

-- from behind too one that passes is found
pub some_reversed : (test : ℕ → Bool) (x : ℕ) (xs : List ℕ) → test x ≡ true → (y : ℕ) × (find test (reverse (x ∷ xs)) ≡ Some y)
some_reversed test x xs h =
    let turned : find test (reverse (x ∷ xs)) ≡ option_or (find test (reverse xs)) (Some x) = ap (find test) (reverse-append (x ∷ []) xs) ∙ find-append test (reverse xs) (x ∷ []) ∙ ap (λ b. option_or (find test (reverse xs)) (cond b (Some x) None)) h in
    by (find test (reverse xs)) turned
  where
    by : (o : Option ℕ) → find test (reverse (x ∷ xs)) ≡ option_or o (Some x) → (y : ℕ) × (find test (reverse (x ∷ xs)) ≡ Some y)
    by None e = (x, e)
    by (Some y) e = (y, e)

space_prints : prints a_space ≡ true
space_prints = ap (λ o. starts (λ c. true) o) space_first

module _ (old : List Node) (tree : IsTree old) (c : ℕ) (front part back ahead : List ℕ) (row : children_at old c ≡ front ++ (part ++ back)) (holds : IsTrue (is_array_or_object (content_at old c))) where
  unspaced : Quiet old ahead part → OneSpace old old c front part back ahead
  unspaced quiet = record {
    tree = tree;
    given = part;
    row = row;
    gains = Gains.same;
    come = none_come;
    quiet = quiet;
    seen = refl;
    last = λ xs z e. (xs, e);
    content = λ k. refl;
    ends = λ o. refl;
    begins = λ o. refl;
  }

  module _ (now : List Node) (x leaf : ℕ) (s : StandsBefore old now x leaf) (f : Found (prints_at old) part x) (bare : (ends_bare old (nearest old (reverse ahead)) && begins_bare old (Some x)) ≡ true) where
    parts : children_at old c ≡ (front ++ f.front) ++ x ∷ (f.back ++ back)
    parts = row ∙ ap (λ l. front ++ (l ++ back)) f.split ∙ ap (λ (l : List ℕ). front ++ l) (append_assoc f.front (x ∷ f.back) back) ∙ sym (append_assoc front f.front (x ∷ (f.back ++ back)))

    is_c : s.container ≡ c
    is_c = Some_same s.container c (sym s.parent ∙ parent_in old tree c (front ++ f.front) (f.back ++ back) x parts)

    place : place_at old x ≡ length (front ++ f.front)
    place = place_in old tree c (front ++ f.front) (f.back ++ back) x parts

    put_row : children_at now c ≡ (front ++ f.front) ++ leaf ∷ x ∷ (f.back ++ back)
    put_row =
        ap (children_at now) (sym is_c) ∙ container_row old now x leaf tree s ∙ ap (λ k. take (place_at old x) (children_at old k) ++ leaf ∷ drop (place_at old x) (children_at old k)) is_c
        ∙ ap (λ l. take (place_at old x) l ++ leaf ∷ drop (place_at old x) l) parts
        ∙ ap (λ k. take k ((front ++ f.front) ++ x ∷ (f.back ++ back)) ++ leaf ∷ drop k ((front ++ f.front) ++ x ∷ (f.back ++ back))) place
        ∙ ap (λ (l : List ℕ). l ++ leaf ∷ drop (length (front ++ f.front)) ((front ++ f.front) ++ x ∷ (f.back ++ back))) (take_at (front ++ f.front) (x ∷ (f.back ++ back)) (length (front ++ f.front)) refl)
        ∙ ap (λ (l : List ℕ). (front ++ f.front) ++ leaf ∷ l) (drop_at (front ++ f.front) (x ∷ (f.back ++ back)) (length (front ++ f.front)) refl)

    abbrev given : List ℕ
    given = f.front ++ leaf ∷ x ∷ f.back

    given_row : children_at now c ≡ front ++ (given ++ back)
    given_row = put_row ∙ append_assoc front f.front (leaf ∷ x ∷ (f.back ++ back)) ∙ ap (λ (l : List ℕ). front ++ l) (sym (append_assoc f.front (leaf ∷ x ∷ f.back) back))

    content : (k : ℕ) → content_at now k ≡ content_at old k
    content = contents_kept old now x leaf tree s

    leaf_is : content_at now leaf ≡ a_space
    leaf_is = content leaf ∙ s.was.is

    gains : Gains (contents now part) (contents now given)
    gains =
        let was : contents now part ≡ contents now f.front ++ content_at now x ∷ contents now f.back = ap (contents now) f.split ∙ map-append (content_at now) f.front (x ∷ f.back) in
        let is : contents now given ≡ contents now f.front ++ a_space ∷ content_at now x ∷ contents now f.back =
        map-append (content_at now) f.front (leaf ∷ x ∷ f.back) ∙ ap (λ w. contents now f.front ++ w ∷ content_at now x ∷ contents now f.back) leaf_is in
        subst (λ l. Gains l (contents now given)) (sym was) (subst (λ l. Gains (contents now f.front ++ content_at now x ∷ contents now f.back) l) (sym is) (gains_at (contents now f.front) (content_at now x) (contents now f.back)))

    find_same : (xs : List ℕ) → nearest now xs ≡ nearest old xs
    find_same [] = refl
    find_same (y ∷ ys) = ap (λ w. cond (prints w) (Some y) (nearest now ys)) (content y) ∙ ap (λ o. cond (prints_at old y) (Some y) o) (find_same ys)

    nearest_is : nearest now given ≡ Some leaf
    nearest_is =
        find-append (prints_at now) f.front (leaf ∷ x ∷ f.back)
        ∙ ap (λ o. option_or o (nearest now (leaf ∷ x ∷ f.back))) (find_same f.front ∙ f.clear)
        ∙ ap (λ b. cond b (Some leaf) (nearest now (x ∷ f.back))) (ap prints leaf_is ∙ space_prints)

    back_found : (y : ℕ) × (nearest now (reverse (x ∷ f.back)) ≡ Some y)
    back_found = some_reversed (prints_at now) x f.back (ap prints (content x) ∙ f.passes)

    behind_is : (xs : List ℕ) → nearest now (reverse (xs ++ x ∷ f.back)) ≡ Some back_found.0
    behind_is xs = ap (nearest now) (reverse-append xs (x ∷ f.back)) ∙ find-append (prints_at now) (reverse (x ∷ f.back)) (reverse xs) ∙ ap (λ o. option_or o (nearest now (reverse xs))) back_found.1

    seen : nearest now (reverse given) ≡ nearest now (reverse part)
    seen =
        ap (λ (l : List ℕ). nearest now (reverse l)) (sym (append_assoc f.front (leaf ∷ []) (x ∷ f.back))) ∙ behind_is (f.front ++ leaf ∷ [])
        ∙ sym (ap (λ (l : List ℕ). nearest now (reverse l)) f.split ∙ behind_is f.front)

    last : (xs : List ℕ) (z : ℕ) → part ≡ xs ++ z ∷ [] → (ys : List ℕ) × (given ≡ ys ++ z ∷ [])
    last xs z e =
        let r = up_to_final x f.back in
        let is : final (x ∷ f.back) ≡ z = sym (final_behind f.front x f.back) ∙ ap final (sym f.split ∙ e) ∙ final_last xs z in (
          f.front ++ leaf ∷ r.0,
          ap (λ (l : List ℕ). f.front ++ leaf ∷ l) (r.1 ∙ ap (λ w. r.0 ++ w ∷ []) is) ∙ sym (append_assoc f.front (leaf ∷ r.0) (z ∷ [])),
        )

    leaf_quiet : begins_bare now (Some leaf) ≡ false
    leaf_quiet = ap (λ w. is_bare_at now (beginning_in (children_at now leaf) leaf w)) leaf_is ∙ ap is_bare leaf_is

    bare_same : (o : Option ℕ) → is_bare_at now o ≡ is_bare_at old o
    bare_same None = refl
    bare_same (Some z) = ap is_bare (content z)

    begins : (o : Option ℕ) → begins_bare now o ≡ begins_bare old o
    begins None = refl
    begins (Some y) =
        ap (λ w. is_bare_at now (beginning_in (children_at now y) y w)) (content y)
        ∙ elim (cases_Bool (y == c)) [
          | inl h ↦
              (let same : y ≡ c = test_eq y c h in
              let holder : IsTrue (is_array_or_object (content_at old y)) = subst (λ k. IsTrue (is_array_or_object (content_at old k))) (sym same) holds in
              ap (is_bare_at now) (holder_itself (content_at old y) holder (children_at now y) y) ∙ bare_same (Some y) ∙ ap (is_bare_at old) (sym (holder_itself (content_at old y) holder (children_at old y) y)))
          | inr h ↦
              (let other : children_at now y ≡ children_at old y = children_kept old now x leaf tree s y (λ e. let wrong : false ≡ true = sym h ∙ eq_test y c (e ∙ is_c) in cc) in
              ap (λ l. is_bare_at now (beginning_in l y (content_at old y))) other ∙ bare_same (beginning_in (children_at old y) y (content_at old y)))
        ]

    due : (ends_bare now (nearest now (reverse ahead)) ≡ true) × (begins_bare now (Some x) ≡ true)
    due =
        let two = both_true (ends_bare old (nearest old (reverse ahead))) (begins_bare old (Some x)) bare in
        (ap (ends_bare now) (find_same (reverse ahead)) ∙ ends_kept old now x leaf tree s (nearest old (reverse ahead)) ∙ two.0, begins (Some x) ∙ two.1)

    one_spaced : OneSpace old now c front part back ahead
    one_spaced = record {
      tree = s.tree;
      given = given;
      row = given_row;
      gains = gains;
      come = subst (λ l. Come now ahead l given) (sym f.split) (one_come f.front f.back x leaf (find_same f.front ∙ f.clear) leaf_is due.0 (ap prints (content x) ∙ f.passes) due.1);
      quiet = and_false (ends_bare now (nearest now (reverse ahead))) (begins_bare now (nearest now given)) (ap (begins_bare now) nearest_is ∙ leaf_quiet);
      seen = seen;
      last = last;
      content = content;
      ends = ends_kept old now x leaf tree s;
      begins = begins;
    }

  -- a space that is due has come, and where none was nothing met
  pub one_space : (due : Bool) → (ends_bare old (nearest old (reverse ahead)) && begins_bare old (nearest old part)) ≡ due → (now : List Node) → AreSpaced old (listed (cond due (nearest old part) None)) now → OneSpace old now c front part back ahead
  one_space due is now put = by due is (nearest old part) refl put
    where
      by : (due : Bool) → (ends_bare old (nearest old (reverse ahead)) && begins_bare old (nearest old part)) ≡ due → (o : Option ℕ) → nearest old part ≡ o → AreSpaced old (listed (cond due o None)) now → OneSpace old now c front part back ahead
      by false is o e same = subst (λ ns. OneSpace old ns c front part back ahead) (sym same) (unspaced is)
      by true is None e same =
          let wrong : false ≡ true = sym (ap (begins_bare old) e) ∙ (both_true (ends_bare old (nearest old (reverse ahead))) (begins_bare old (nearest old part)) is).1 in
          cc
      by true is (Some x) e (later, leaf, s, same) =
          subst (λ ns. OneSpace old ns c front part back ahead) (sym same)
          (one_spaced later x leaf s (found_in (prints_at old) part x e) (ap (λ o. ends_bare old (nearest old (reverse ahead)) && begins_bare old o) (sym e) ∙ is))
