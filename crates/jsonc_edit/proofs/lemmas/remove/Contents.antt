-- Rows of trees, told by the contents of the nodes that stand for them, with a space or without.
use Rattle.std.proofs.Common.{◌≡◌, ◌⊎◌, inl, inr, ℕ, suc, ◌+◌, Bool, true, false, not, ◌&&◌, ◌||◌, List, [], ◌∷◌, ◌++◌, map, IsTrue, if◌then◌else◌, refl, ap, ◌∙◌, arith}
use Rattle.jsonc_tree.specs.Content.{Content, whitespace}
use Rattle.jsonc_tree.specs.OrderedTree.{OrderedTree, Shows, shows_none, shows_more}
use Rattle.jsonc_tree.specs.Tree.{Node, content_at}
use Rattle.jsonc_layout.specs.nodes.Kinds.{is_comma, is_comment, is_element, is_inline_trivia, is_newline, is_trivia, is_whitespace}
use Rattle.jsonc_sound.specs.TriviaChanges.{AreTrivia}
use Rattle.jsonc_sound.specs.Leaving.{AreInlineTrivia, LeavesBehind, ends_apart, has_no_comma, comma_comes, element_count}
use Rattle.jsonc_edit.specs.SeamRemovals.{EndsLine, comment_comes, line_comes}

-- the same of contents as of rows of trees
abbrev pub apart : List Content → Bool
apart [] = true
apart (x ∷ []) = not (is_inline_trivia x)
apart (x ∷ y ∷ rest) = apart (y ∷ rest)

abbrev pub no_commas : List Content → Bool
no_commas [] = true
no_commas (x ∷ rest) = not (is_comma x) && no_commas rest

abbrev pub comma_first : List Content → Bool
comma_first [] = false
comma_first (x ∷ rest) = if is_trivia x then comma_first rest else is_comma x

abbrev pub line_first : List Content → Bool
line_first [] = false
line_first (x ∷ rest) = is_newline x || (is_inline_trivia x && line_first rest)

abbrev pub comment_first : List Content → Bool
comment_first [] = false
comment_first (x ∷ rest) = is_comment x || (is_whitespace x && comment_first rest)

abbrev pub count : List Content → ℕ
count [] = 0
count (x ∷ rest) = if is_element x then suc (count rest) else count rest

-- how a stretch is removed with the comma in it, and with none, and what comes behind that
pub record GoesWith (between line back : List Content) : Type 0 where
  pub leaves : LeavesBehind between line
  pub none_left : AreInlineTrivia between → line ≡ [] → line_first back ≡ false

pub record GoesWithout (line back : List Content) : Type 0 where
  pub no_comma : comma_first back ≡ false
  pub none_left : EndsLine line ⊎ (comment_first back ≡ false)

module _ (ns : List Node) where
  pub apart_shown : {xs : List ℕ} {t : OrderedTree} → Shows ns xs t → ends_apart t ≡ apart (map (content_at ns) xs)
  apart_shown shows_none = refl
  apart_shown (shows_more p shows_none) = refl
  apart_shown (shows_more p (shows_more q r)) = apart_shown (shows_more q r)

  pub commas_shown : {xs : List ℕ} {t : OrderedTree} → Shows ns xs t → has_no_comma t ≡ no_commas (map (content_at ns) xs)
  commas_shown shows_none = refl
  commas_shown (shows_more {n = n} p r) = ap (λ b. not (is_comma (content_at ns n)) && b) (commas_shown r)

  pub first_shown : {xs : List ℕ} {t : OrderedTree} → Shows ns xs t → comma_comes t ≡ comma_first (map (content_at ns) xs)
  first_shown shows_none = refl
  first_shown (shows_more {n = n} p r) = ap (λ b. if is_trivia (content_at ns n) then b else is_comma (content_at ns n)) (first_shown r)

  pub line_shown : {xs : List ℕ} {t : OrderedTree} → Shows ns xs t → line_comes t ≡ line_first (map (content_at ns) xs)
  line_shown shows_none = refl
  line_shown (shows_more {n = n} p r) = ap (λ b. is_newline (content_at ns n) || (is_inline_trivia (content_at ns n) && b)) (line_shown r)

  pub comment_shown : {xs : List ℕ} {t : OrderedTree} → Shows ns xs t → comment_comes t ≡ comment_first (map (content_at ns) xs)
  comment_shown shows_none = refl
  comment_shown (shows_more {n = n} p r) = ap (λ b. is_comment (content_at ns n) || (is_whitespace (content_at ns n) && b)) (comment_shown r)

  pub count_shown : {xs : List ℕ} {t : OrderedTree} → Shows ns xs t → element_count t ≡ count (map (content_at ns) xs)
  count_shown shows_none = refl
  count_shown (shows_more {n = n} p r) = ap (λ k. if is_element (content_at ns n) then suc k else k) (count_shown r)

-- one list and then another
pub apart_last : (xs : List Content) (x : Content) → apart (xs ++ x ∷ []) ≡ not (is_inline_trivia x)
apart_last [] x = refl
apart_last (y ∷ []) x = refl
apart_last (y ∷ z ∷ xs) x = apart_last (z ∷ xs) x

pub apart_behind : (xs : List Content) (y : Content) (ys : List Content) → apart (xs ++ y ∷ ys) ≡ apart (y ∷ ys)
apart_behind [] y ys = refl
apart_behind (x ∷ []) y ys = refl
apart_behind (x ∷ z ∷ xs) y ys = apart_behind (z ∷ xs) y ys

pub apart_rest : (x : Content) (xs : List Content) → IsTrue (apart (x ∷ xs)) → IsTrue (apart xs)
apart_rest x [] h = refl
apart_rest x (y ∷ xs) h = h

pub no_commas_rest : (x : Content) (xs : List Content) → IsTrue (no_commas (x ∷ xs)) → IsTrue (no_commas xs)
no_commas_rest x xs h = by (is_comma x) h
  where
    by : (b : Bool) → IsTrue (not b && no_commas xs) → IsTrue (no_commas xs)
    by true k = absurd (let wrong : false ≡ true = k in cc)
    by false k = k

pub first_past : (xs ys : List Content) → AreTrivia xs → comma_first (xs ++ ys) ≡ comma_first ys
first_past [] ys h = refl
first_past (x ∷ xs) ys h = ap (λ b. if b then comma_first (xs ++ ys) else is_comma x) h.0 ∙ first_past xs ys h.1

pub count_append : (xs ys : List Content) → count (xs ++ ys) ≡ count xs + count ys
count_append [] ys = omega arith
count_append (x ∷ xs) ys = by (is_element x) (count_append xs ys)
  where
    by : (b : Bool) → count (xs ++ ys) ≡ count xs + count ys → (if b then suc (count (xs ++ ys)) else count (xs ++ ys)) ≡ (if b then suc (count xs) else count xs) + count ys
    by true e = omega (arith, e)
    by false e = e

beside_no_element : (x : Content) → IsTrue (is_inline_trivia x) → is_element x ≡ false
beside_no_element (Content.whitespace s) h = refl
beside_no_element (Content.comment s) h = refl
beside_no_element x h = cc

pub count_beside : (xs : List Content) → AreInlineTrivia xs → count xs ≡ 0
count_beside [] h = refl
count_beside (x ∷ xs) h = ap (λ b. if b then suc (count xs) else count xs) (beside_no_element x h.0) ∙ count_beside xs h.1

pub beside_append : (xs ys : List Content) → AreInlineTrivia xs → AreInlineTrivia ys → AreInlineTrivia (xs ++ ys)
beside_append [] ys f g = g
beside_append (x ∷ xs) ys f g = (f.0, beside_append xs ys f.1 g)

-- the second list is the first, or the first with a space before one of its contents
pub data Gains : List Content → List Content → Type 0 where
  same : {xs : List Content} → Gains xs xs
  here : {x : Content} {rest : List Content} → Gains (x ∷ rest) (whitespace (0x20 ∷ []) ∷ x ∷ rest)
  later : {x : Content} {xs ys : List Content} → Gains xs ys → Gains (x ∷ xs) (x ∷ ys)

pub apart_gains : {xs ys : List Content} → Gains xs ys → apart ys ≡ apart xs
apart_gains same = refl
apart_gains here = refl
apart_gains (later same) = refl
apart_gains (later here) = refl
apart_gains (later (later g)) = apart_gains (later g)

pub apart_behind_gains : {xs ys : List Content} (x : Content) → Gains xs ys → apart (x ∷ ys) ≡ apart (x ∷ xs)
apart_behind_gains x g = apart_gains (later g)

pub commas_gains : {xs ys : List Content} → Gains xs ys → no_commas ys ≡ no_commas xs
commas_gains same = refl
commas_gains here = refl
commas_gains (later {x = x} g) = ap (λ b. not (is_comma x) && b) (commas_gains g)

pub first_gains : {xs ys : List Content} → Gains xs ys → comma_first ys ≡ comma_first xs
first_gains same = refl
first_gains here = refl
first_gains (later {x = x} g) = ap (λ b. if is_trivia x then b else is_comma x) (first_gains g)

line_gains : {xs ys : List Content} → Gains xs ys → line_first ys ≡ line_first xs
line_gains same = refl
line_gains here = refl
line_gains (later {x = x} g) = ap (λ b. is_newline x || (is_inline_trivia x && b)) (line_gains g)

comment_gains : {xs ys : List Content} → Gains xs ys → comment_first ys ≡ comment_first xs
comment_gains same = refl
comment_gains here = refl
comment_gains (later {x = x} g) = ap (λ b. is_comment x || (is_whitespace x && b)) (comment_gains g)

-- so it goes where such a space has come
pub goes_with_gains : {between line xs ys : List Content} → Gains xs ys → GoesWith between line xs → GoesWith between line ys
goes_with_gains g w = record { leaves = w.leaves; none_left = λ a b. line_gains g ∙ w.none_left a b }

pub goes_without_gains : {line xs ys : List Content} → Gains xs ys → GoesWithout line xs → GoesWithout line ys
goes_without_gains {line} {xs} {ys} g w = record { no_comma = first_gains g ∙ w.no_comma; none_left = by w.none_left }
  where
    by : EndsLine line ⊎ (comment_first xs ≡ false) → EndsLine line ⊎ (comment_first ys ≡ false)
    by (inl e) = inl e
    by (inr e) = inr (comment_gains g ∙ e)

-- a space before what stands behind these
pub gains_at : (front : List Content) (x : Content) (rest : List Content) → Gains (front ++ x ∷ rest) (front ++ whitespace (0x20 ∷ []) ∷ x ∷ rest)
gains_at [] x rest = here
gains_at (y ∷ front) x rest = later (gains_at front x rest)
