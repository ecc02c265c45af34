-- Children of a container leave it: what its row is then, and that no other has changed.
use Rattle.std.proofs.Common.{◌≡◌, ◌≢◌, ℕ, suc, ◌+◌, ◌-◌, ◌<◌, false, cond, List, [], ◌∷◌, ◌++◌, length, get_or, slice_index, slice_range, take, drop, Some, None, if◌then◌else◌, refl, sym, ap, ◌∙◌, arith, eq-eqb}
use Rattle.std.proofs.lemmas.Bool.{ne_eqb}
use Rattle.std.proofs.lemmas.List.{append_assoc, drop_at, get_or-append-add, get_or_append_left, length-append, take_at}
use Rattle.std.proofs.lemmas.List.Elements.{All-nil, All-cons, All-head, All-tail}
use Rattle.std.specs.List.{splice, All}
use Rattle.jsonc_tree.specs.Changes.{Splices}
use Rattle.jsonc_tree.specs.Tree.{Node, content_at, parent_at, children_at, place_at, place_among, place_under, is_in, IsTree}
use Rattle.jsonc_tree.proofs.Splicing.{out_from}
use Rattle.jsonc_edit.proofs.ChangesUpward.{ChangedIn}
use Rattle.jsonc_edit.specs.remove.Removed.{LosesChild}
use Rattle.jsonc_edit.proofs.lemmas.remove.Places.{parent_in, place_in}
use Rattle.jsonc_edit.proofs.Lists.{all_front, all_rest}

-- a container has another row, and nothing else has changed
pub record Rewoven (old new : List Node) (c : ℕ) (row : List ℕ) : Type 0 where
  pub len : length new ≡ length old
  pub content : (n : ℕ) → content_at new n ≡ content_at old n
  pub children : (n : ℕ) → n ≢ c → children_at new n ≡ children_at old n
  pub is : children_at new c ≡ row

pub rewoven_next : (old mid new : List Node) (c : ℕ) (row next : List ℕ) → Rewoven old mid c row → Rewoven mid new c next → Rewoven old new c next
rewoven_next old mid new c row next r s = record {
  len = s.len ∙ r.len;
  content = λ n. s.content n ∙ r.content n;
  children = λ n ne. s.children n ne ∙ r.children n ne;
  is = s.is;
}

pub rewoven_changed : (old new : List Node) (c : ℕ) (row : List ℕ) → IsTree old → Rewoven old new c row → ChangedIn old new c
rewoven_changed old new c row tree r = record { tree = tree; content = λ n ne. r.content n; children = r.children }

spliced_row : (front gone back : List ℕ) → splice (front ++ (gone ++ back)) (length front) (length front + length gone) [] ≡ front ++ back
spliced_row front gone back =
    ap (λ (l : List ℕ). l ++ drop (length front + length gone) (front ++ (gone ++ back))) (take_at front (gone ++ back) (length front) refl)
    ∙ ap (λ (l : List ℕ). front ++ drop (length front + length gone) l) (sym (append_assoc front gone back))
    ∙ ap (λ (l : List ℕ). front ++ l) (drop_at (front ++ gone) back (length front + length gone) (length-append front gone))

-- a stretch leaves
pub stretch_out : (old new : List Node) (c i j : ℕ) (front gone back : List ℕ) → children_at old c ≡ front ++ (gone ++ back) → i ≡ length front → j ≡ length front + length gone → Splices old new c i j [] → Rewoven old new c (front ++ back)
stretch_out old new c i j front gone back row e f s = record {
  len = s.len;
  content = s.content;
  children = λ n ne. (s.others n ne);
  is = s.children ∙ ap (λ l. splice l i j []) row ∙ ap (λ k. splice (front ++ (gone ++ back)) k j []) e ∙ ap (λ k. splice (front ++ (gone ++ back)) (length front) k []) f ∙ spliced_row front gone back;
}

-- these are other nodes
abbrev pub Others : ℕ → List ℕ → Type 0
Others k xs = All (λ m. m ≢ k) xs

each_apart : (xs : List ℕ) (k : ℕ) → ((m : ℕ) → m < length xs → get_or xs m 0 ≡ k → ⊥) → Others k xs
each_apart [] k h = All-nil (λ m. m ≢ k)
each_apart (x ∷ xs) k h = All-cons (λ m. m ≢ k) x xs (h 0 (omega arith)) (each_apart xs k (λ m l. h (suc m) (omega (arith, l))))

place_among_at : (xs ys : List ℕ) (k : ℕ) → Others k xs → place_among k (xs ++ k ∷ ys) ≡ length xs
place_among_at [] ys k h = ap (λ b. if b then 0 else suc (place_among k ys)) (eq-eqb k k refl)
place_among_at (x ∷ xs) ys k h =
    ap (λ b. if b then 0 else suc (place_among k (xs ++ k ∷ ys))) (ne_eqb k x (λ e. All-head (λ m. m ≢ k) x xs h (sym e))) ∙ ap suc (place_among_at xs ys k (All-tail (λ m. m ≢ k) x xs h))

none_in : (k : ℕ) (xs : List ℕ) → Others k xs → is_in k xs ≡ false
none_in k xs h = out_from k xs (λ m l. h m 0 l)

module _ (ns : List Node) (tree : IsTree ns) (c : ℕ) (front back : List ℕ) (k : ℕ) (row : children_at ns c ≡ front ++ k ∷ back) where
  -- each child stands once
  pub others_before : Others k front
  others_before = each_apart front k (λ m l e.
      let inn : m < length (children_at ns c) = omega (arith, ap length row, length-append front (k ∷ back), l) in
      let is : slice_index (children_at ns c) m ≡ k = ap (λ r. get_or r m 0) row ∙ in_front front (k ∷ back) m l ∙ e in
      omega (arith, l, sym (tree.placed c m inn) ∙ ap (place_at ns) is ∙ place_in ns tree c front back k row))
    where
      in_front : (xs ys : List ℕ) (m : ℕ) → m < length xs → get_or (xs ++ ys) m 0 ≡ get_or xs m 0
      in_front xs ys m l = get_or_append_left xs ys 0 m l

  pub others_behind : Others k back
  others_behind = each_apart back k (λ m l e.
      let inn : length front + (m + 1) < length (children_at ns c) = omega (arith, ap length row, length-append front (k ∷ back), l) in
      let is : slice_index (children_at ns c) (length front + (m + 1)) ≡ k = ap (λ r. get_or r (length front + (m + 1)) 0) row ∙ get_or-append-add front (k ∷ back) (m + 1) 0 ∙ ap (λ j. get_or (k ∷ back) j 0) (let z : m + 1 ≡ suc m = omega arith in z) ∙ e in
      omega (arith, sym (tree.placed c (length front + (m + 1)) inn) ∙ ap (place_at ns) is ∙ place_in ns tree c front back k row))

-- a comma leaves, once a stretch behind it has left
module _ (old parted : List Node) (tree : IsTree old) (c i j k : ℕ) (front mid gone back : List ℕ) (row : children_at old c ≡ front ++ k ∷ (mid ++ (gone ++ back)))
    (s : Splices old parted c i j []) (e : i ≡ length (front ++ k ∷ mid)) (f : j ≡ length (front ++ k ∷ mid) + length gone) where
  old_row : children_at old c ≡ (front ++ k ∷ mid) ++ (gone ++ back)
  old_row = row ∙ sym (append_assoc front (k ∷ mid) (gone ++ back))

  pub parted_row : Rewoven old parted c ((front ++ k ∷ mid) ++ back)
  parted_row = stretch_out old parted c i j (front ++ k ∷ mid) gone back old_row e f s

  gone_is : slice_range (children_at old c) i j ≡ gone
  gone_is =
      ap (λ l. slice_range l i j) old_row ∙ ap (λ z. slice_range ((front ++ k ∷ mid) ++ (gone ++ back)) z j) e ∙ ap (λ z. slice_range ((front ++ k ∷ mid) ++ (gone ++ back)) (length (front ++ k ∷ mid)) z) f
      ∙ ap (λ l. take (length (front ++ k ∷ mid) + length gone - length (front ++ k ∷ mid)) l) (drop_at (front ++ k ∷ mid) (gone ++ back) (length (front ++ k ∷ mid)) refl)
      ∙ take_at gone back (length (front ++ k ∷ mid) + length gone - length (front ++ k ∷ mid)) (omega arith)

  parent_still : parent_at parted k ≡ Some c
  parent_still =
      s.parents k ∙ ap (λ l. cond (is_in k l) None (parent_at old k)) gone_is
      ∙ ap (λ b. cond b None (parent_at old k)) (none_in k gone (all_front (λ m. m ≢ k) gone back (all_rest (λ m. m ≢ k) mid (gone ++ back) (others_behind old tree c front (mid ++ (gone ++ back)) k row))))
      ∙ parent_in old tree c front (mid ++ (gone ++ back)) k row

  parted_is : children_at parted c ≡ front ++ k ∷ (mid ++ back)
  parted_is = parted_row.is ∙ append_assoc front (k ∷ mid) back

  place_still : place_at parted k ≡ length front
  place_still = ap (place_under parted k) parent_still ∙ ap (place_among k) parted_is ∙ place_among_at front (mid ++ back) k (others_before old tree c front (mid ++ (gone ++ back)) k row)

  pub comma_out : (joined : List Node) → LosesChild parted joined c (Some k) → Rewoven old joined c (front ++ (mid ++ back))
  comma_out joined l =
      rewoven_next old parted joined c ((front ++ k ∷ mid) ++ back) (front ++ (mid ++ back)) parted_row
      (stretch_out parted joined c (place_at parted k) (place_at parted k + 1) front (k ∷ []) (mid ++ back) parted_is place_still (ap (λ z. z + 1) place_still) l)
