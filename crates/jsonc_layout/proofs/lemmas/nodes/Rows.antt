-- What a chain over a row of nodes answers.
use Rattle.std.proofs.Common.{◌≡◌, ◌≤◌, ◌+◌, ◌∙◌, sym, ap, refl, ℕ, Bool, false, true, cond, List, [], ◌∷◌, drop, length, slice_get, Option, None, Some, IfSome, subst, arith, length-drop, ◌<◌, get_or, take, get_or-drop}
use Rattle.std.proofs.lemmas.List.{drop_all, drop-drop, take_all}
use Rattle.std.specs.List.{FoldsTo, find, list_any}
use Rattle.std.specs.Option.{option_map}
use Rattle.std.specs.Iterator.{Yields, YieldsFirst, FindsItem, ChecksAny}
use Rattle.std.specs.Fn.{Called, CalledAt}
use Rattle.std.proofs.lemmas.Iterator.{YieldsList}
use Rattle.std.proofs.lemmas.Iterator.Consumers.{YieldsList-from_first}
use Rattle.std.proofs.lemmas.Iterator.Search.{any_from_yields_List, find_from_yields_List}
use Rattle.jsonc_tree.specs.Siblings.{first}
use Rattle.jsonc_layout.specs.nodes.Properties.{behind_first}
use Rattle.jsonc_tree.proofs.LinkedRows.{first_drop}
use denote.Param.Members.{Mut}
use denote.Ref.{Bor}

pub option_map_same : (r : Option ℕ) → option_map (λ x. x) r ≡ r
option_map_same None = refl
option_map_same (Some x) = refl

-- an iterator that is seen as the list of what is left yields that list
pub row_yields : {s : List ℕ} (row : List ℕ) → s ≡ row → YieldsList (YieldsFirst (λ rest. rest)) (λ x. x) s row
row_yields row e = YieldsList-from_first (λ x. x) (λ rest. rest) row e

pub find_in : {F : Type 0} {g : Mut F (Bor ℕ × Unit {0}) Bool} {s : List ℕ} (test : ℕ → Bool) (row u : List ℕ) (f : F) (r : Option ℕ) → FindsItem (YieldsFirst (λ rest. rest)) g s f r u → s ≡ row → ((x : ℕ) (b : Bool) (q : F) → CalledAt g f x b q → (q ≡ f) × (b ≡ test x)) → r ≡ find test row
find_in test row u f r ran e k = sym (option_map_same r) ∙ find_from_yields_List test u f r ran (row_yields row e) k

pub any_in : {F : Type 0} {g : Mut F (ℕ × Unit {0}) Bool} {s : List ℕ} (test : ℕ → Bool) (row u : List ℕ) (f : F) (r : Bool) → ChecksAny (YieldsFirst (λ rest. rest)) g s f r u → s ≡ row → ((x : ℕ) (b : Bool) (q : F) → Called g f (x, tt) b q → (q ≡ f) × (b ≡ test x)) → r ≡ list_any test row
any_in test row u f r ran e k = any_from_yields_List test u f r ran (row_yields row e) k

-- what a search for the first that passes a test leaves is what stands behind that
module _ {F : Type 0} {g : Mut F (Bor ℕ × Unit {0}) Bool} (test : ℕ → Bool) (f : F) (k : (x : ℕ) (b : Bool) (q : F) → CalledAt g f x b q → (q ≡ f) × (b ≡ test x)) where
  left_over : (xs s t u : List ℕ) (p h : F) (r : Option ℕ) → p ≡ f → Yields (YieldsFirst (λ rest. rest)) s xs t → YieldsFirst (λ rest. rest) t r u → FoldsTo (λ i x j. CalledAt g i x false j) p xs h → IfSome r (λ x. (q : F) × CalledAt g h x true q) → u ≡ behind_first test s
  left_over [] s t u p h None is same given folds last = given.1 ∙ ap (behind_first test) (sym (same ∙ given.0))
  left_over [] s t u p h (Some x) is same given folds last =
      let called = subst (λ i. CalledAt g i x true last.0) (sym folds ∙ is) last.1 in
      ap (λ b. cond b u (behind_first test u)) (k x true last.0 called).1 ∙ ap (behind_first test) (sym (same ∙ given))
  left_over (y ∷ ys) s t u p h r is (j, first_step, rest) given (q, called, folds) last =
      let told = k y false q (subst (λ i. CalledAt g i y false q) is called) in
      left_over ys j t u q h r told.0 rest given folds last ∙ ap (λ b. cond b j (behind_first test j)) told.1 ∙ ap (behind_first test) (sym first_step)

  pub left_behind : (s row u : List ℕ) (r : Option ℕ) → FindsItem (YieldsFirst (λ rest. rest)) g s f r u → s ≡ row → u ≡ behind_first test row
  left_behind s row u r ran e = left_over ran.0 s ran.2.0 u f ran.1 r refl ran.2.1 ran.2.2 ran.3 ran.4 ∙ ap (behind_first test) e

-- what is asked first is the first of the row
pub first_given : (s u : List ℕ) (r : Option ℕ) → YieldsFirst (λ rest. rest) s r u → r ≡ first s
first_given s u None e = sym (ap first e.0)
first_given s u (Some x) e = sym (ap first e)

pub dropped_first : (k : ℕ) (xs s : List ℕ) → s ≡ drop k xs → first s ≡ slice_get xs k
dropped_first k xs s e = ap first e ∙ first_drop k xs

-- one more of a row passed over
pub dropped_next : (k x : ℕ) (xs s rest : List ℕ) → s ≡ drop k xs → s ≡ x ∷ rest → rest ≡ drop (k + 1) xs
dropped_next k x xs s rest e f = sym (ap (drop 1) f) ∙ ap (drop 1) e ∙ drop-drop 1 k xs ∙ ap (λ n. drop n xs) (omega arith)

-- where nothing is left, nothing is left further on
pub dropped_past : (k n : ℕ) (xs s : List ℕ) → k ≤ n → s ≡ drop k xs → s ≡ [] → drop n xs ≡ []
dropped_past k n xs s h e f = drop_all n xs (omega (arith, ap length e, ap length f, length-drop k xs))

-- what is given after so many of a row stands at that place
pub given_at : (k : ℕ) (xs s : List ℕ) (x : ℕ) (rest : List ℕ) → s ≡ drop k xs → s ≡ x ∷ rest → (k < length xs) × (x ≡ get_or xs k 0) × (rest ≡ drop (k + 1) xs)
given_at k xs s x rest e f =
    let here : get_or (drop k xs) 0 0 ≡ get_or xs (k + 0) 0 = get_or-drop k xs 0 0 in
    (omega (arith, ap length e, ap length f, length-drop k xs), sym (ap (λ l. get_or l 0 0) f) ∙ ap (λ l. get_or l 0 0) e ∙ here ∙ ap (λ n. get_or xs n 0) (omega arith), dropped_next k x xs s rest e f)

pub all_given : (k : ℕ) (xs s : List ℕ) → s ≡ drop k xs → s ≡ [] → take k xs ≡ xs
all_given k xs s e f = take_all k xs (omega (arith, ap length e, ap length f, length-drop k xs))
