-- An element among the children of its container, which has brackets: what is around it.
use Rattle.std.proofs.Common.{◌≡◌, ◌≢◌, ℕ, suc, ◌-◌, ◌<◌, Bool, true, false, List, [], ◌∷◌, ◌++◌, length, take, drop, refl, sym, ap, subst, ◌∙◌, arith, reverse, filter, cond, Option, Some, None}
use Rattle.std.specs.Prelude.{slice_get, slice_index}
use Rattle.std.proofs.lemmas.List.{append_assoc, length-append, reverse-append, reverse-reverse}
use Rattle.std.proofs.Math.Seq.{take-append_seam}
use Rattle.jsonc_tree.specs.Content.{Content}
use Rattle.jsonc_layout.specs.nodes.Kinds.{is_element, is_token}
use Rattle.jsonc_sort.specs.Parts.{parts, with_node}
use Rattle.jsonc_edit.specs.multiline.Lines.{between}
use Rattle.jsonc_sort.proofs.Choices.{Each}
use Rattle.jsonc_cst.proofs.lemmas.comments.Parts.{Apart, elements}

token_alone : (c : Content) → is_token c ≡ true → is_element c ≡ false
token_alone (Content.token k) e = refl
token_alone c e = cc

pub each_from : (P : ℕ → Type 0) (xs : List ℕ) → ((k : ℕ) → k < length xs → P (slice_index xs k)) → Each P xs
each_from P [] h = tt
each_from P (x ∷ xs) h = (h 0 (omega arith), each_from P xs (λ k l. h (suc k) (omega (arith, l))))

pub apart_from : (xs : List ℕ) → ((i j : ℕ) → i < j → j < length xs → slice_index xs i ≢ slice_index xs j) → Apart xs
apart_from [] h = tt
apart_from (x ∷ xs) h = (each_from (λ m. x ≢ m) xs (λ k l. h 0 (suc k) (omega arith) (omega (arith, l))), apart_from xs (λ i j less l. h (suc i) (suc j) (omega (arith, less)) (omega (arith, l))))

module _ (at : ℕ → Content) where
  abbrev pub tok : Option ℕ → Bool
  tok None = false
  tok (Some m) = is_token (at m)

  -- an element between brackets
  pub record Inside (cs : List ℕ) (n : ℕ) : Type 0 where
    pub open_ : ℕ
    pub before : List ℕ
    pub behind : List ℕ
    pub close : ℕ
    pub opens : is_element (at open_) ≡ false
    pub closes : is_element (at close) ≡ false
    pub split : cs ≡ (open_ ∷ before) ++ n ∷ (behind ++ close ∷ [])

  pub inside : (front back cs : List ℕ) (n : ℕ) → cs ≡ front ++ n ∷ back → is_element (at n) ≡ true → tok (slice_get cs 0) ≡ true → tok (slice_get (reverse cs) 0) ≡ true → Inside cs n
  inside [] back cs n e whole first last =
      let yes : is_token (at n) ≡ true = subst (λ l. tok (slice_get l 0) ≡ true) e first in
      let no = token_alone (at n) yes in cc
  inside (o ∷ xs) back cs n e whole first last = by (reverse back) (sym (reverse-reverse back))
    where
      turned : (zs : List ℕ) → back ≡ reverse zs → reverse cs ≡ zs ++ (n ∷ reverse (o ∷ xs))
      turned zs f = ap (λ (l : List ℕ). reverse l) e ∙ reverse-append (o ∷ xs) (n ∷ back) ∙ ap (λ l. l ++ reverse (o ∷ xs)) (reverse-append (n ∷ []) back ∙ ap (λ l. l ++ n ∷ []) (ap (λ (l : List ℕ). reverse l) f ∙ reverse-reverse zs)) ∙ append_assoc zs (n ∷ []) (reverse (o ∷ xs))

      by : (zs : List ℕ) → back ≡ reverse zs → Inside cs n
      by [] f =
          let yes : is_token (at n) ≡ true = subst (λ l. tok (slice_get l 0) ≡ true) (turned [] f) last in
          let no = token_alone (at n) yes in cc
      by (k ∷ zs) f = record {
        open_ = o;
        before = xs;
        behind = reverse zs;
        close = k;
        opens = token_alone (at o) (subst (λ l. tok (slice_get l 0) ≡ true) e first);
        closes = token_alone (at k) (subst (λ l. tok (slice_get l 0) ≡ true) (turned (k ∷ zs) f) last);
        split = e ∙ ap (λ l. (o ∷ xs) ++ n ∷ l) (f ∙ reverse-append (k ∷ []) zs);
      }

  pub between_is : (cs : List ℕ) (n : ℕ) (i : Inside cs n) → between cs ≡ i.before ++ n ∷ i.behind
  between_is cs n i =
      let row : List ℕ = i.before ++ n ∷ i.behind in
      let whole : cs ≡ i.open_ ∷ (row ++ i.close ∷ []) = i.split ∙ ap (λ l. i.open_ ∷ l) (sym (append_assoc i.before (n ∷ i.behind) (i.close ∷ []))) in
      let long : length cs - 1 - 1 ≡ length row = omega (arith, ap length whole, length-append row (i.close ∷ [])) in
      ap (λ k. take k (drop 1 cs)) long ∙ ap (λ l. take (length row) (drop 1 l)) whole ∙ take-append_seam row (i.close ∷ [])

  -- elements are the parts' own
  pub elements_are : (row : List ℕ) → elements (parts at row).rest ≡ filter (λ n. is_element (at n)) row
  elements_are [] = refl
  elements_are (m ∷ row) = by (is_element (at m)) refl (elements_are row)
    where
      by : (a : Bool) → is_element (at m) ≡ a → elements (parts at row).rest ≡ filter (λ n. is_element (at n)) row → elements (with_node at m (parts at row)).rest ≡ filter (λ n. is_element (at n)) (m ∷ row)
      by true f k = rw f (ap (λ l. m ∷ l) k)
      by false f k = rw f k

each_filter : (P : ℕ → Type 0) (p : ℕ → Bool) (xs : List ℕ) → Each P xs → Each P (filter p xs)
each_filter P p [] h = tt
each_filter P p (x ∷ xs) h = by (p x) (each_filter P p xs h.1)
  where
    by : (b : Bool) → Each P (filter p xs) → Each P (cond b (x ∷ filter p xs) (filter p xs))
    by true k = (h.0, k)
    by false k = k

pub apart_filter : (p : ℕ → Bool) (xs : List ℕ) → Apart xs → Apart (filter p xs)
apart_filter p [] h = tt
apart_filter p (x ∷ xs) h = by (p x) (apart_filter p xs h.1)
  where
    by : (b : Bool) → Apart (filter p xs) → Apart (cond b (x ∷ filter p xs) (filter p xs))
    by true k = (each_filter (λ m. x ≢ m) p xs h.0, k)
    by false k = k
