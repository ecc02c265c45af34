-- A whole row is planned, entry by entry.
use Rattle.std.proofs.Common.{◌≡◌, ◌==◌, ℕ, zero, suc, ◌+◌, ◌-◌, ◌<◌, ◌≤◌, Bool, true, false, ◌||◌, List, [], ◌∷◌, ◌++◌, All, length, map, drop, reverse, slice_index, refl, sym, ap, subst, ◌∙◌, arith, append-nil, append_assoc, length-drop}
use Rattle.std.specs.Prelude.{nat_lt, slice_index_or, slice_range, zip, IsPermutation}
use Rattle.std.specs.List.{range_with_len}
use Rattle.std.proofs.lemmas.Bool.{le-ltb, lt-ltb, ne_eqb}
use Rattle.std.proofs.lemmas.List.{drop_all, length-map}
use Rattle.std.proofs.lemmas.List.Elements.{All-drop, All-from_get_or, All-take, All-head, All-tail}
use Rattle.std.proofs.lemmas.List.FromFn.{get_or-range_with_len, length-range_with_len}
use Rattle.std.proofs.lemmas.List.Sorted.{All-permutation, length_permutation}
use Rattle.jsonc_tree.specs.Content.{Content, token}
use Rattle.jsonc_tree.specs.Tree.{Node, content_at, IsTree}
use Rattle.jsonc_tree.specs.declared.node.CstNewlineKind.{CstNewlineKind}
use Rattle.jsonc_edit.specs.Put.{Extends}
use Rattle.jsonc_sort.specs.Slots.{Slot, stays, comes, all_stay}
use Rattle.jsonc_sort.specs.Sorting.{Entry, ends_with_comma, entry_at, no_entry, lines_ended, placed, placed_one, rearranged, tail_with, travelling}
use Rattle.jsonc_sort.specs.Places.{IsRead, IsWithin, bare_tail_of, end_after, entry_of, has_comma_of, tail_of}
use Rattle.jsonc_sort.specs.Plans.{Gains, IsReady, Planned, RowPlanned, Stood, entry_by, last_has_comma, tail_by, travels_from}
use Rattle.jsonc_sort.specs.declared.places.Places.{Places}
use Rattle.jsonc_sort.specs.declared.plan.Plan.{Plan}
use Rattle.jsonc_sort.proofs.Choices.{choose_by}
use Rattle.jsonc_sort.proofs.Planning.{gains_then, prepared_then, ready_none}

stay_joined : (xs ys : List ℕ) → all_stay (xs ++ ys) ≡ all_stay xs ++ all_stay ys
stay_joined [] ys = refl
stay_joined (x ∷ xs) ys = ap (λ l. stays x ∷ l) (stay_joined xs ys)

-- slots of a row's nodes stand in the tree
module _ (old : List Node) where
  pub stood_all : (row : List ℕ) → All (λ n. n < length old) row → Stood old (all_stay row)
  stood_all [] h = tt
  stood_all (n ∷ row) h = (All-head (λ m. m < length old) n row h, stood_all row (All-tail (λ m. m < length old) n row h))

  stood_then : (xs ys : List Slot) → Stood old xs → Stood old ys → Stood old (xs ++ ys)
  stood_then [] ys h k = k
  stood_then (stays n ∷ xs) ys h k = (h.0, stood_then xs ys h.1 k)
  stood_then (comes content ∷ xs) ys h k = stood_then xs ys h k

  module _ (row : List ℕ) (there : All (λ n. n < length old) row) where
    pub stood_slice : (i j : ℕ) → Stood old (all_stay (slice_range row i j))
    stood_slice i j = stood_all (slice_range row i j) (All-take (λ n. n < length old) (j - i) (drop i row) (All-drop (λ n. n < length old) i row there))

    stood_tail : (comma : Bool) (q : Places) → Stood old (tail_by row comma q)
    stood_tail true q = choose_by (Stood old) (has_comma_of q) (all_stay (tail_of row q)) (comes (token 0x2C) ∷ all_stay (tail_of row q)) (λ e. stood_slice (q.element + 1) q.end) (λ e. stood_slice (q.element + 1) q.end)
    stood_tail false q =
        choose_by (Stood old) (has_comma_of q) (all_stay (bare_tail_of row q)) (all_stay (tail_of row q))
        (λ e. subst (Stood old) (sym (stay_joined (slice_range row (q.element + 1) q.comma) (slice_range row q.behind q.end))) (stood_then (all_stay (slice_range row (q.element + 1) q.comma)) (all_stay (slice_range row q.behind q.end)) (stood_slice (q.element + 1) q.comma) (stood_slice q.behind q.end)))
        (λ e. stood_slice (q.element + 1) q.end)

    pub stood_entry : (first comma : Bool) (p q : Places) → q.element < length row → Stood old (entry_by row first comma p q)
    stood_entry first comma p q h =
        let front : List Slot = all_stay (slice_range row p.lead p.travels) in
        let travels : List Slot = all_stay (slice_range row (travels_from first q) q.indent) in
        let indent : List Slot = all_stay (slice_range row p.indent p.element) in
        stood_then (front ++ travels ++ indent) (stays (slice_index row q.element) ∷ tail_by row comma q)
        (stood_then (front ++ travels) indent (stood_then front travels (stood_slice p.lead p.travels) (stood_slice (travels_from first q) q.indent)) (stood_slice p.indent p.element))
        (there q.element 0 h, stood_tail comma q)

-- what belongs to an element
module _ (row : List ℕ) (q : Places) where
  pub bare_by : has_comma_of q ≡ true → all_stay (slice_range row (q.element + 1) q.comma) ++ all_stay (slice_range row q.behind q.end) ≡ tail_by row false q
  bare_by e = sym (rw e (stay_joined (slice_range row (q.element + 1) q.comma) (slice_range row q.behind q.end)))

  pub bare_gained : {A : Type 0} (a b d : List Node) (x y z : Plan A) (comma : Bool) → has_comma_of q ≡ true → comma ≡ false → Gains a x b y (all_stay (slice_range row q.behind q.end)) → Gains b y d z (all_stay (slice_range row (q.element + 1) q.comma)) → Gains a x d z (tail_by row comma q)
  bare_gained a b d x y z comma e off f g =
      subst (λ k. Gains a x d z (tail_by row k q)) (sym off)
      (subst (Gains a x d z) (bare_by e) (gains_then a b d x y z (all_stay (slice_range row q.behind q.end)) (all_stay (slice_range row (q.element + 1) q.comma)) f g))

-- an entry is put, its tail first
pub entry_gained : {A : Type 0} (row : List ℕ) (first comma : Bool) (p q : Places) (from : ℕ) (a b d e f g : List Node) (u v w x y z : Plan A) → from ≡ travels_from first q
    → Gains a u b v (tail_by row comma q) → Gains b v d w (stays (slice_index row q.element) ∷ []) → Gains d w e x (all_stay (slice_range row p.indent p.element)) → Gains e x f y (all_stay (slice_range row from q.indent)) → Gains f y g z (all_stay (slice_range row p.lead p.travels))
    → Gains a u g z (entry_by row first comma p q)
entry_gained row first comma p q from a b d e f g u v w x y z is one two three four five =
    let front : List Slot = all_stay (slice_range row p.lead p.travels) in
    let travels : List Slot = all_stay (slice_range row from q.indent) in
    let indent : List Slot = all_stay (slice_range row p.indent p.element) in
    let element : List Slot = stays (slice_index row q.element) ∷ [] in
    let tail : List Slot = tail_by row comma q in
    let all : Gains a u g z (front ++ (travels ++ (indent ++ (element ++ tail)))) =
    gains_then a f g u y z (travels ++ (indent ++ (element ++ tail))) front
    (gains_then a e f u x y (indent ++ (element ++ tail)) travels (gains_then a d e u w x (element ++ tail) indent (gains_then a b d u v w tail element one two) three) four) five in
    let same : front ++ (travels ++ (indent ++ (element ++ tail))) ≡ front ++ travels ++ indent ++ (element ++ tail) =
    sym (append_assoc front travels (indent ++ (element ++ tail))) ∙ sym (append_assoc (front ++ travels) indent (element ++ tail)) in
    subst (Gains a u g z) (same ∙ ap (λ k. front ++ all_stay (slice_range row k q.indent) ++ indent ++ (element ++ tail)) is) all

-- by its places an entry in the place of another is what it is by the row
module _ (at : ℕ → Content) (row : List ℕ) where
  tail_is : (comma : Bool) (q : Places) → IsRead at row q → tail_by row comma q ≡ tail_with at comma (tail_of row q)
  tail_is true q r = rw r.has refl
  tail_is false q r = rw (r.has, r.without) refl

  travels_is : (first : Bool) (q : Places) → IsRead at row q → slice_range row (travels_from first q) q.indent ≡ travelling at first (slice_range row q.travels q.indent)
  travels_is true q r = sym r.solid
  travels_is false q r = refl

  pub entry_is : (first comma : Bool) (p q : Places) → IsRead at row q → entry_by row first comma p q ≡ placed_one at first comma (entry_of row p, entry_of row q)
  entry_is first comma p q r =
      let front : List Slot = all_stay (slice_range row p.lead p.travels) in
      let indent : List Slot = all_stay (slice_range row p.indent p.element) in
      ap (λ l. front ++ all_stay l ++ indent ++ stays (slice_index row q.element) ∷ tail_by row comma q) (travels_is first q r)
      ∙ ap (λ l. front ++ all_stay (travelling at first (slice_range row q.travels q.indent)) ++ indent ++ stays (slice_index row q.element) ∷ l) (tail_is comma q r)

  -- the last of them has a comma
  pub last_is : (ps : List Places) → All (IsRead at row) ps → last_has_comma ps ≡ ends_with_comma at (map (entry_of row) ps)
  last_is [] h = refl
  last_is (p ∷ []) h = sym (All-head (IsRead at row) p [] h).has
  last_is (p ∷ q ∷ ps) h = last_is (q ∷ ps) (All-tail (IsRead at row) p (q ∷ ps) h)

  -- one more is placed
  placed_more : (first commas comma : Bool) (p : Entry × Entry) (rest : List (Entry × Entry)) → (length rest ≡ 0 → comma ≡ commas) → (0 < length rest → comma ≡ true) → placed at first commas (p ∷ rest) ≡ placed_one at first comma p ++ placed at false commas rest
  placed_more first commas comma p [] e f = sym (append-nil (placed_one at first comma p) ∙ ap (λ b. placed_one at first b p) (e refl))
  placed_more first commas comma p (q ∷ rest) e f = sym (ap (λ b. placed_one at first b p ++ placed at false commas (q ∷ rest)) (f (omega arith)))

  abbrev pairs : List Places → List ℕ → List (Entry × Entry)
  pairs ps order = zip (map (entry_of row) ps) (map (entry_at (map (entry_of row) ps)) order)

zip_length : {X Y : Type 0} (xs : List X) (ys : List Y) → length ys ≡ length xs → length (zip xs ys) ≡ length xs
zip_length [] [] e = refl
zip_length [] (y ∷ ys) e = absurd (omega arith)
zip_length (x ∷ xs) [] e = absurd (omega arith)
zip_length (x ∷ xs) (y ∷ ys) e = ap suc (zip_length xs ys (omega arith))

zip_at : {X Y : Type 0} (xs : List X) (ys : List Y) (k : ℕ) (x : X) (y : Y) → k < length xs → k < length ys → drop k (zip xs ys) ≡ (slice_index_or xs k x, slice_index_or ys k y) ∷ drop (k + 1) (zip xs ys)
zip_at [] ys k x y h l = absurd (omega arith)
zip_at (a ∷ xs) [] k x y h l = absurd (omega arith)
zip_at (a ∷ xs) (b ∷ ys) zero x y h l = refl
zip_at (a ∷ xs) (b ∷ ys) (suc k) x y h l =
    let one : suc k + 1 ≡ suc (k + 1) = omega arith in
    zip_at xs ys k x y (omega arith) (omega arith) ∙ ap (λ j. (slice_index_or xs k x, slice_index_or ys k y) ∷ drop j ((a, b) ∷ zip xs ys)) (sym one)

map_at : {X Y : Type 0} (f : X → Y) (xs : List X) (k : ℕ) (x : X) (y : Y) → k < length xs → slice_index_or (map f xs) k y ≡ f (slice_index_or xs k x)
map_at f [] k x y h = absurd (omega arith)
map_at f (a ∷ xs) zero x y h = refl
map_at f (a ∷ xs) (suc k) x y h = map_at f xs k x y (omega arith)

module _ (old : List Node) (kind : CstNewlineKind) (row : List ℕ) (ps : List Places) (order : List ℕ) where
  abbrev at : ℕ → Content
  at = content_at old

  abbrev all : List (Entry × Entry)
  all = pairs at row ps order

  abbrev behind : List Slot
  behind = all_stay (drop (end_after 0 ps) row)

  abbrev pub so_far : Bool → ℕ → List Slot
  so_far commas place = placed at (place == 0) commas (drop place all) ++ behind

  -- the row is planned from the entry of a number on
  pub record SoFar {A : Type 0} (now : List Node) (commas : Bool) (plan : Plan A) (place : ℕ) : Type 0 where
    pub within : place ≤ length ps
    pub planned : Planned old now kind plan (so_far commas place)
    pub prepared : Extends old now

  module _ (there : All (λ n. n < length old) row) (read : All (IsRead at row) ps) (long : length order ≡ length ps) where
    all_length : length all ≡ length ps
    all_length = zip_length (map (entry_of row) ps) (map (entry_at (map (entry_of row) ps)) order) (length-map order (entry_at (map (entry_of row) ps)) ∙ long ∙ sym (length-map ps (entry_of row))) ∙ length-map ps (entry_of row)

    pub started : {A : Type 0} (commas : Bool) (now : List Node) (plan next : Plan A) (place : ℕ) → IsTree old → plan.newline ≡ kind → plan.goes_on ≡ true → plan.nodes.items ≡ [] → Gains old plan now next behind → Extends old now → place ≡ length ps → SoFar now commas next place
    started commas now plan next place tree newline goes nodes gains prepared e =
        let first : Planned old old kind plan [] = record { newline = newline; goes_on = goes; ready = subst (IsReady old old []) (sym (ap reverse nodes)) (ready_none old tree) } in
        let none : drop place all ≡ [] = drop_all place all (omega (arith, e, all_length)) in
        let rest : Planned old now kind next (behind ++ []) = gains old kind [] first (stood_all old (drop (end_after 0 ps) row) (All-drop (λ n. n < length old) (end_after 0 ps) row there)) in
        record {
          within = omega (arith, e);
          planned = subst (Planned old now kind next) (append-nil behind ∙ sym (ap (λ l. placed at (place == 0) commas l ++ behind) none)) rest;
          prepared = prepared;
        }

    pub entry_planned : {A : Type 0} (commas comma : Bool) (now later : List Node) (plan next : Plan A) (place : ℕ) (p q : Places) → SoFar now commas plan place → 0 < place → slice_index order (place - 1) < length ps
        → p ≡ slice_index_or ps (place - 1) p → q ≡ slice_index_or ps (slice_index order (place - 1)) q → comma ≡ (nat_lt place (length ps) || commas)
        → Gains now plan later next (entry_by row (place - 1 == 0) comma p q) → Extends now later → SoFar later commas next (place - 1)
    entry_planned commas comma now later plan next place p q s low chosen is_p is_q is_comma gains prepared =
        let k : ℕ = place - 1 in
        let es : List Entry = map (entry_of row) ps in
        let one : k + 1 ≡ place = omega (arith, low) in
        let i : ℕ = slice_index order k in
        let below : k < length ps = omega (arith, low, s.within) in
        let read_q : IsRead at row q = subst (IsRead at row) (sym is_q) (read i q chosen) in
        let within_q : q.element < length row = omega (arith, read_q.within.element, read_q.within.comma, read_q.within.behind, read_q.within.end) in
        let pair : Entry × Entry = (slice_index_or es k no_entry, slice_index_or (map (entry_at es) order) k no_entry) in
        let parts : drop k all ≡ pair ∷ drop place all =
        zip_at es (map (entry_at es) order) k no_entry no_entry (omega (arith, below, length-map ps (entry_of row))) (omega (arith, below, long, length-map order (entry_at es)))
        ∙ ap (λ j. pair ∷ drop j all) one in
        let first : slice_index_or es k no_entry ≡ entry_of row p = map_at (entry_of row) ps k p no_entry below ∙ ap (entry_of row) (sym is_p) in
        let second : slice_index_or (map (entry_at es) order) k no_entry ≡ entry_of row q =
        map_at (entry_at es) order k 0 no_entry (omega (arith, below, long)) ∙ map_at (entry_of row) ps i q no_entry chosen ∙ ap (entry_of row) (sym is_q) in
        let same : pair ≡ (entry_of row p, entry_of row q) = cc in
        let left : length (drop place all) ≡ length ps - place = length-drop place all ∙ ap (λ n. n - place) all_length in
        let later_place : (place == 0) ≡ false = ne_eqb place 0 (λ e. omega (arith, e, low)) in
        let last : length (drop place all) ≡ 0 → comma ≡ commas = λ e. is_comma ∙ ap (λ b. b || commas) (le-ltb place (length ps) (omega (arith, e, left))) in
        let more : 0 < length (drop place all) → comma ≡ true = λ h. is_comma ∙ ap (λ b. b || commas) (lt-ltb place (length ps) (omega (arith, h, left))) in
        let slots : entry_by row (k == 0) comma p q ++ so_far commas place ≡ so_far commas k =
        sym (append_assoc (entry_by row (k == 0) comma p q) (placed at (place == 0) commas (drop place all)) behind)
        ∙ ap (λ l. l ++ behind)
        (ap (λ b. entry_by row (k == 0) comma p q ++ placed at b commas (drop place all)) later_place
        ∙ ap (λ l. l ++ placed at false commas (drop place all)) (entry_is at row (k == 0) comma p q read_q)
        ∙ sym (placed_more at row (k == 0) commas comma (entry_of row p, entry_of row q) (drop place all) last more)
        ∙ ap (λ x. placed at (k == 0) commas (x ∷ drop place all)) (sym same)
        ∙ ap (placed at (k == 0) commas) (sym parts)) in
        record {
          within = omega (arith, s.within);
          planned = subst (Planned old later kind next) slots (gains old kind (so_far commas place) s.planned (stood_entry old row there (k == 0) comma p q within_q));
          prepared = prepared_then old now later s.prepared prepared;
        }

    pub row_is_planned : {A : Type 0} (commas : Bool) (now : List Node) (plan : Plan A) (place : ℕ) → commas ≡ last_has_comma ps → SoFar now commas plan place → place ≡ 0 → (nodes : List ℕ) → nodes ≡ reverse plan.nodes.items → RowPlanned old now kind row ps order nodes
    row_is_planned commas now plan place is s e nodes f =
        let es : List Entry = map (entry_of row) ps in
        let whole : so_far commas place ≡ rearranged at es order ++ behind =
        ap (so_far commas) e ∙ ap (λ b. placed at true b all ++ behind) (is ∙ last_is at row ps read) in
        subst (λ l. IsReady old now (lines_ended at kind l) nodes) whole (subst (IsReady old now (lines_ended at kind (so_far commas place))) (sym f) s.planned.ready)

-- places and orders within their bounds
pub end_within : (row : List ℕ) (from : ℕ) (ps : List Places) → from ≤ length row → All (IsWithin row) ps → end_after from ps ≤ length row
end_within row from [] h each = h
end_within row from (p ∷ ps) h each = end_within row p.end ps (All-head (IsWithin row) p ps each).end (All-tail (IsWithin row) p ps each)

pub all_within : (at : ℕ → Content) (row : List ℕ) (ps : List Places) → All (IsRead at row) ps → All (IsWithin row) ps
all_within at row ps each k d h = (each k d h).within

module _ (n : ℕ) (order : List ℕ) (perm : IsPermutation (range_with_len 0 n) order) where
  pub order_long : length order ≡ n
  order_long = length_permutation (range_with_len 0 n) order perm ∙ length-range_with_len 0 n

  pub order_below : (k : ℕ) → k < length order → slice_index order k < n
  order_below k h = All-permutation (λ i. i < n) (range_with_len 0 n) order perm (All-from_get_or (λ i. i < n) (range_with_len 0 n) 0 (λ i l. omega (arith, get_or-range_with_len 0 n i 0 (omega (arith, l, length-range_with_len 0 n)), l, length-range_with_len 0 n))) k 0 h
