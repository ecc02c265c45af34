-- One splice after another, as one.
use Rattle.std.proofs.Common.{◌≡◌, ◌||◌, Bool, ℕ, zero, suc, ◌+◌, ◌-◌, ◌<◌, ◌≤◌, List, [], ◌∷◌, ◌++◌, length, get_or, take, drop, cond, eqb, true, false, None, Some, inl, inr, slice_range, refl, sym, ap, subst, ◌∙◌, arith, length-append, length-take, length-drop}
use Rattle.std.specs.List.{splice}
use Rattle.std.proofs.lemmas.Bool.{cases_Bool}
use Rattle.std.proofs.lemmas.List.{append_assoc, nil_from_length}
use Rattle.std.proofs.lemmas.List.Folds.{list_any-append}
use Rattle.std.proofs.lemmas.List.Edits.{length-between, between_more}
use Rattle.std.proofs.Common.{get_or-take}
use Rattle.jsonc_tree.specs.Content.{is_container}
use Rattle.jsonc_tree.specs.Tree.{Node, children_at, parent_at, is_in, is_container_at, IsOver, itself, above}
use Rattle.jsonc_tree.specs.Changes.{Splices, CanJoin, CanAppend, EachOnce}
use Rattle.jsonc_tree.proofs.Splicing.{in_at, in_where, out_from}
use Rattle.jsonc_tree.proofs.Over.{over_up}

cond_or : {X : Type 0} (a b : Bool) (x y : X) → cond b x (cond a x y) ≡ cond (a || b) x y
cond_or true true x y = refl
cond_or true false x y = refl
cond_or false b x y = refl

cond_same : {X : Type 0} (b : Bool) (x : X) → cond b x x ≡ x
cond_same true x = refl
cond_same false x = refl

nothing_between : (xs : List ℕ) (k : ℕ) → k ≤ length xs → slice_range xs k k ≡ []
nothing_between xs k h = nil_from_length (slice_range xs k k) (omega (arith, length-between xs k k h))

-- a row in which a stretch was replaced, and then one more
drop_more_one : (xs : List ℕ) (m : ℕ) → drop 1 (drop m xs) ≡ drop (suc m) xs
drop_more_one [] zero = refl
drop_more_one [] (suc m) = refl
drop_more_one (x ∷ xs) zero = refl
drop_more_one (x ∷ xs) (suc m) = drop_more_one xs m

pub gone_more : (xs : List ℕ) (i m : ℕ) → i ≤ m → m < length xs → splice (splice xs i m []) i (suc i) [] ≡ splice xs i (suc m) []
gone_more [] i m le lt = absurd (omega arith)
gone_more (x ∷ xs) zero m le lt = drop_more_one (x ∷ xs) m
gone_more (x ∷ xs) (suc i) zero le lt = absurd (omega arith)
gone_more (x ∷ xs) (suc i) (suc m) le lt = ap (λ l. x ∷ l) (gone_more xs i m (omega arith) (omega arith))

gone_at : (xs : List ℕ) (i m : ℕ) → i ≤ m → m < length xs → get_or (splice xs i m []) i 0 ≡ get_or xs m 0
gone_at [] i m le lt = absurd (omega arith)
gone_at (x ∷ xs) zero zero le lt = refl
gone_at (x ∷ xs) zero (suc m) le lt = gone_at xs zero m (omega arith) (omega arith)
gone_at (x ∷ xs) (suc i) zero le lt = absurd (omega arith)
gone_at (x ∷ xs) (suc i) (suc m) le lt = gone_at xs i m (omega arith) (omega arith)

length_gone : (xs : List ℕ) (i m : ℕ) → i ≤ m → m ≤ length xs → length (splice xs i m []) + (m - i) ≡ length xs
length_gone xs i m le h = simp (length-append, length-take, length-drop) (omega arith)

one_between : (xs : List ℕ) (i : ℕ) → i < length xs → slice_range xs i (suc i) ≡ get_or xs i 0 ∷ []
one_between xs i h = ap (slice_range xs i) (omega arith) ∙ between_more xs i i 0 (omega arith) h ∙ ap (λ l. l ++ get_or xs i 0 ∷ []) (nothing_between xs i (omega arith))

-- one more is replaced
pub Splices-gone : (old cur new : List Node) (c i m : ℕ) → i ≤ m → m < length (children_at old c) → Splices old cur c i m [] → Splices cur new c i (suc i) [] → Splices old new c i (suc m) []
Splices-gone old cur new c i m le lt a b =
    let row : List ℕ = children_at old c in
    let y : ℕ = get_or row m 0 in
    let long = length_gone row i m le (omega arith) in
    let seen : slice_range (children_at cur c) i (suc i) ≡ y ∷ [] = ap (λ l. slice_range l i (suc i)) a.children ∙ one_between (splice row i m []) i (omega (arith, long)) ∙ ap (λ k. k ∷ []) (gone_at row i m le lt) in
    let grown : slice_range row i (suc m) ≡ slice_range row i m ++ y ∷ [] = ap (slice_range row i) (omega arith) ∙ between_more row i m 0 le lt in
    record {
      len = b.len ∙ a.len;
      content = λ n. b.content n ∙ a.content n;
      children = b.children ∙ ap (λ l. splice l i (suc i) []) a.children ∙ gone_more row i m le lt;
      others = λ n ne. b.others n ne ∙ a.others n ne;
      parents = λ n.
          b.parents n
          ∙ ap (λ l. cond (is_in n l) None (parent_at cur n)) seen
          ∙ ap (cond (is_in n (y ∷ [])) None) (a.parents n)
          ∙ cond_or (is_in n (slice_range row i m)) (is_in n (y ∷ [])) None (parent_at old n)
          ∙ ap (λ t. cond t None (parent_at old n)) (sym (list_any-append (eqb n) (slice_range row i m) (y ∷ [])))
          ∙ ap (λ l. cond (is_in n l) None (parent_at old n)) (sym grown);
    }

splice_at : (ls bs ys : List ℕ) (k : ℕ) → k ≡ length ls → splice (ls ++ bs) k k ys ≡ ls ++ (ys ++ bs)
splice_at [] bs ys zero e = refl
splice_at [] bs ys (suc k) e = absurd (omega arith)
splice_at (a ∷ ls) bs ys zero e = absurd (omega arith)
splice_at (a ∷ ls) bs ys (suc k) e = ap (λ l. a ∷ l) (splice_at ls bs ys k (omega arith))

pub row_more : (row xs ys : List ℕ) (i j : ℕ) → i ≤ length row → splice (splice row i j xs) (i + length xs) (i + length xs) ys ≡ splice row i j (xs ++ ys)
row_more row xs ys i j h =
    let front : i + length xs ≡ length (take i row ++ xs) = simp (length-append, length-take) (omega arith) in
    ap (λ l. splice l (i + length xs) (i + length xs) ys) (sym (append_assoc (take i row) xs (drop j row)))
    ∙ splice_at (take i row ++ xs) (drop j row) ys (i + length xs) front
    ∙ append_assoc (take i row) xs (ys ++ drop j row)
    ∙ ap (λ l. take i row ++ l) (sym (append_assoc xs ys (drop j row)))

-- more come behind those that came
pub Splices-more : (old cur new : List Node) (c i j k : ℕ) (xs ys : List ℕ) → i ≤ j → j ≤ length (children_at old c) → k ≡ i + length xs → Splices old cur c i j xs → Splices cur new c k k ys → Splices old new c i j (xs ++ ys)
Splices-more old cur new c i j k xs ys le h at a b =
    let row : List ℕ = children_at old c in
    let long : length (splice row i j xs) ≡ i + (length xs + (length row - j)) = simp (length-append, length-take, length-drop) (omega arith) in
    let none : slice_range (children_at cur c) k k ≡ [] = nothing_between (children_at cur c) k (omega (arith, ap length a.children)) in
    record {
      len = b.len ∙ a.len;
      content = λ n. b.content n ∙ a.content n;
      children = b.children ∙ ap (λ l. splice l k k ys) a.children ∙ ap (λ m. splice (splice row i j xs) m m ys) at ∙ row_more row xs ys i j (omega arith);
      others = λ n ne. b.others n ne ∙ a.others n ne;
      parents = λ n.
          b.parents n
          ∙ ap (λ l. cond (is_in n ys) (Some c) (cond (is_in n l) None (parent_at cur n))) none
          ∙ ap (cond (is_in n ys) (Some c)) (a.parents n)
          ∙ cond_or (is_in n xs) (is_in n ys) (Some c) (cond (is_in n (slice_range row i j)) None (parent_at old n))
          ∙ ap (λ t. cond t (Some c) (cond (is_in n (slice_range row i j)) None (parent_at old n))) (sym (list_any-append (eqb n) xs ys));
    }

splice_none : (xs : List ℕ) (i : ℕ) → splice xs i i [] ≡ xs
splice_none [] zero = refl
splice_none [] (suc i) = refl
splice_none (x ∷ xs) zero = refl
splice_none (x ∷ xs) (suc i) = ap (λ l. x ∷ l) (splice_none xs i)

-- nothing has happened yet
pub Splices-none : (ns : List Node) (c i : ℕ) → i ≤ length (children_at ns c) → Splices ns ns c i i []
Splices-none ns c i h = record {
  len = refl;
  content = λ n. refl;
  children = sym (splice_none (children_at ns c) i);
  others = λ n ne. refl;
  parents = λ n. ap (λ l. cond (is_in n l) None (parent_at ns n)) (sym (nothing_between (children_at ns c) i h));
}

module _ (old cur : List Node) (c i j : ℕ) (xs all : List ℕ) (splices : Splices old cur c i j xs) (join : CanJoin old c i j all) (among : (n : ℕ) → is_in n xs ≡ true → is_in n all ≡ true) where
  gone_parent : (n : ℕ) → is_in n xs ≡ false → is_in n (slice_range (children_at old c) i j) ≡ true → parent_at cur n ≡ None
  gone_parent n e g = splices.parents n ∙ ap (λ b. cond b (Some c) (cond (is_in n (slice_range (children_at old c) i j)) None (parent_at old n))) e ∙ ap (λ b. cond b None (parent_at old n)) g

  other_parent : (n : ℕ) → is_in n xs ≡ false → is_in n (slice_range (children_at old c) i j) ≡ false → parent_at cur n ≡ parent_at old n
  other_parent n e g = splices.parents n ∙ ap (λ b. cond b (Some c) (cond (is_in n (slice_range (children_at old c) i j)) None (parent_at old n))) e ∙ ap (λ b. cond b None (parent_at old n)) g

  not_over_in : (n : ℕ) → is_in n xs ≡ true → IsOver old n c → ⊥
  not_over_in n e over = let w = in_where n all (among n e) in join.not_over w.0 w.1 (subst (λ k. IsOver old k c) (sym w.2) over)

  -- a splice of nodes that are not over the container puts nothing over it
  over_before : (m n : ℕ) → IsOver old n c → IsOver cur m n → IsOver old m n
  over_before m _ high itself = itself
  over_before m n high (above {c = p} said r) =
      elim (cases_Bool (is_in n xs)) [
        | inl e ↦ absurd (not_over_in n e high)
        | inr e ↦ elim (cases_Bool (is_in n (slice_range (children_at old c) i j))) [
          | inl g ↦ let wrong : Some p ≡ None = sym said ∙ gone_parent n e g in cc
          | inr g ↦ let was : parent_at old n ≡ Some p = sym (other_parent n e g) ∙ said in above was (over_before m p (over_up old n p c was high) r)
        ]
      ]

  alone_still : (k : ℕ) → k < length all → is_in (get_or all k 0) xs ≡ false → parent_at cur (get_or all k 0) ≡ None
  alone_still k h out =
      elim (join.free k h) [
        | inl alone ↦
            splices.parents (get_or all k 0)
            ∙ ap (λ b. cond b (Some c) (cond (is_in (get_or all k 0) (slice_range (children_at old c) i j)) None (parent_at old (get_or all k 0)))) out
            ∙ ap (cond (is_in (get_or all k 0) (slice_range (children_at old c) i j)) None) alone
            ∙ cond_same (is_in (get_or all k 0) (slice_range (children_at old c) i j)) None
        | inr gone ↦ gone_parent (get_or all k 0) out gone
      ]

  -- what is still to come can be put in
  pub CanAppend-next : (k : ℕ) → c < length old → is_container_at old c ≡ true → k < length all → is_in (get_or all k 0) xs ≡ false → CanAppend cur c (get_or all k 0)
  CanAppend-next k at holds h out = record {
    container = omega (arith, splices.len);
    holds = ap is_container (splices.content c) ∙ holds;
    node = omega (arith, splices.len, join.in_tree k h);
    not_root = join.not_root k h;
    alone = alone_still k h out;
    not_over = λ over. join.not_over k h (over_before (get_or all k 0) c itself over);
  }

-- once a stretch was replaced, what may take its place stands alone
pub CanJoin-gone : (old cur : List Node) (c i j : ℕ) (all : List ℕ) → Splices old cur c i j [] → CanJoin old c i j all → CanJoin cur c i i all
CanJoin-gone old cur c i j all splices join = record {
  in_tree = λ k h. omega (arith, splices.len, join.in_tree k h);
  not_root = join.not_root;
  once = join.once;
  free = λ k h. inl (alone_still old cur c i j [] all splices join (λ n e. let wrong : false ≡ true = e in cc) k h refl);
  not_over = λ k h over. join.not_over k h (over_before old cur c i j [] all splices join (λ n e. let wrong : false ≡ true = e in cc) (get_or all k 0) c itself over);
}

take_suc : (xs : List ℕ) (k : ℕ) → k < length xs → take (suc k) xs ≡ take k xs ++ get_or xs k 0 ∷ []
take_suc [] k h = absurd (omega arith)
take_suc (x ∷ xs) zero h = refl
take_suc (x ∷ xs) (suc k) h = ap (λ l. x ∷ l) (take_suc xs k (omega arith))

-- the first so many, and the next
pub take_next : (xs : List ℕ) (k : ℕ) → k < length xs → take (k + 1) xs ≡ take k xs ++ get_or xs k 0 ∷ []
take_next xs k h =
    let one : k + 1 ≡ suc k = omega arith in
    ap (λ m. take m xs) one ∙ take_suc xs k h

pub next_out : (xs : List ℕ) (k : ℕ) → EachOnce xs → k < length xs → is_in (get_or xs k 0) (take k xs) ≡ false
next_out xs k once h =
    let long = length-take k xs in
    out_from (get_or xs k 0) (take k xs) (λ m l e. omega (arith, once m k (omega arith) h (sym (get_or-take k xs m 0 (omega arith)) ∙ e)))

pub take_in : (xs : List ℕ) (k n : ℕ) → is_in n (take k xs) ≡ true → is_in n xs ≡ true
take_in xs k n e =
    let w = in_where n (take k xs) e in
    let long = length-take k xs in
    ap (λ m. is_in m xs) (sym (sym (get_or-take k xs w.0 0 (omega (arith, w.1))) ∙ w.2)) ∙ in_at xs w.0 (omega (arith, w.1))
