-- Where what belongs to an entry begins in what stands before it, read backward.
use Rattle.std.proofs.Common.{◌≡◌, ℕ, ◌+◌, ◌-◌, ◌<◌, ◌≤◌, Bool, true, false, not, ◌&&◌, ◌||◌, List, [], ◌∷◌, ◌++◌, length, take, drop, refl, sym, ap, subst, ◌∙◌, arith}
use Rattle.std.specs.Prelude.{if◌then◌else◌, slice_index}
use Rattle.std.specs.List.{list_any}
use Rattle.std.proofs.lemmas.List.{drop_all, drop_more, take-append-drop}
use Rattle.jsonc_tree.specs.Content.{Content}
use Rattle.jsonc_layout.specs.nodes.Kinds.{is_newline, is_whitespace}
use Rattle.jsonc_sort.specs.Leads.{below, has_blank_line, line_ends, own_lead}
use Rattle.jsonc_sort.specs.Parts.{is_newline_at, is_whitespace_at}

newline_no_space : (c : Content) → is_newline c ≡ true → is_whitespace c ≡ false
newline_no_space (Content.newline k) e = refl
newline_no_space c e = cc

module _ (at : ℕ → Content) where
  abbrev nl : ℕ → Bool
  nl = is_newline_at at

  abbrev ws : ℕ → Bool
  ws = is_whitespace_at at

  -- what stands behind a place has no blank line, whether a line's end comes next there, and where what belongs to the entry begins in it
  pub record Passed (lead : List ℕ) (place start : ℕ) (ended : Bool) : Type 0 where
    pub blank : has_blank_line at (drop place lead) ≡ false
    pub ends : ended ≡ line_ends at (drop place lead)
    pub some : list_any nl (drop place lead) ≡ true → drop start lead ≡ below at (drop place lead)
    pub none : list_any nl (drop place lead) ≡ false → start ≡ 0
    pub within : place ≤ length lead
    pub begins : start ≤ length lead

  pub passed_none : (lead : List ℕ) → Passed lead (length lead) 0 false
  passed_none lead =
      let over : drop (length lead) lead ≡ [] = drop_all (length lead) lead (omega arith) in
      record { blank = rw over refl; ends = rw over refl; some = λ e. (let wrong : false ≡ true = rw over at e in cc); none = λ e. refl; within = omega arith; begins = omega arith }

  pub passed_all : (lead : List ℕ) (start : ℕ) (ended : Bool) → Passed lead 0 start ended → drop start lead ≡ own_lead at lead
  passed_all lead start ended p = by (list_any nl lead) refl
    where
      by : (b : Bool) → list_any nl lead ≡ b → drop start lead ≡ (if b then below at lead else lead)
      by true e = p.some e
      by false e = ap (λ k. drop k lead) (p.none e)

  -- a blank line further on
  below_front : (xs row : List ℕ) → has_blank_line at row ≡ true → (has_blank_line at (xs ++ row) ≡ true) × (below at (xs ++ row) ≡ below at row)
  below_front [] row e = (e, refl)
  below_front (m ∷ xs) row e =
      let rest = below_front xs row e in
      (blank (nl m && line_ends at (xs ++ row)) (has_blank_line at (xs ++ row)) rest.0, by (nl m) (has_blank_line at (xs ++ row)) rest.0 ∙ rest.1)
    where
      blank : (a b : Bool) → b ≡ true → a || b ≡ true
      blank true b h = refl
      blank false b h = h

      by : (a b : Bool) → b ≡ true → (if a && not b then xs ++ row else below at (xs ++ row)) ≡ below at (xs ++ row)
      by true true h = refl
      by true false h = cc
      by false b h = refl

  any_front : (xs row : List ℕ) → list_any nl row ≡ true → list_any nl (xs ++ row) ≡ true
  any_front [] row e = e
  any_front (m ∷ xs) row e = by (nl m) (any_front xs row e)
    where
      by : (a : Bool) → list_any nl (xs ++ row) ≡ true → a || list_any nl (xs ++ row) ≡ true
      by true h = refl
      by false h = h

  -- a blank line begins here
  own_here : (lead row : List ℕ) (n j : ℕ) → drop j lead ≡ n ∷ row → nl n ≡ true → line_ends at row ≡ true → has_blank_line at row ≡ false → row ≡ own_lead at lead
  own_here lead row n j e f g h =
      let whole : lead ≡ take j lead ++ n ∷ row = sym (take-append-drop j lead) ∙ ap (λ l. take j lead ++ l) e in
      let blank : has_blank_line at (n ∷ row) ≡ true = rw (f, g) refl in
      let first : below at (n ∷ row) ≡ row = rw (f, h) refl in
      let any : list_any nl lead ≡ true = ap (list_any nl) whole ∙ any_front (take j lead) (n ∷ row) (rw f refl) in
      let own : below at lead ≡ row = ap (below at) whole ∙ (below_front (take j lead) (n ∷ row) blank).1 ∙ first in
      sym own ∙ sym (ap (λ b. if b then below at lead else lead) any)

  pub passed_here : (lead : List ℕ) (j start : ℕ) (ended : Bool) → j < length lead → Passed lead (j + 1) start ended → nl (slice_index lead j) ≡ true → ended ≡ true → drop (j + 1) lead ≡ own_lead at lead
  passed_here lead j start ended less p e f = own_here lead (drop (j + 1) lead) (slice_index lead j) j (drop_more lead j 0 less) e (sym p.ends ∙ f) p.blank

  -- the same of a row that stands there
  abbrev Reads : List ℕ → List ℕ → ℕ → Bool → Type 0
  Reads lead row start ended = (has_blank_line at row ≡ false) × (ended ≡ line_ends at row) × (list_any nl row ≡ true → drop start lead ≡ below at row) × (list_any nl row ≡ false → start ≡ 0)

  reads_more : (lead row : List ℕ) (n j start : ℕ) (ended : Bool) → drop (j + 1) lead ≡ row → Reads lead row start ended → nl n && ended ≡ false → Reads lead (n ∷ row) (if nl n then j + 1 else start) (nl n || (ended && ws n))
  reads_more lead row n j start ended e r h = by (nl n) refl (ws n) refl ended h r
    where
      by : (a : Bool) → nl n ≡ a → (w : Bool) → ws n ≡ w → (d : Bool) → a && d ≡ false → Reads lead row start d → Reads lead (n ∷ row) (if a then j + 1 else start) (a || (d && w))
      by true f true g d h r = let no = newline_no_space (at n) f in cc
      by true f false g true h r = cc
      by true f false g false h r = (
        (let ends : line_ends at row ≡ false = sym r.1 in rw (f, ends) r.0),
        rw (g, f) refl,
        (λ x. let own : below at (n ∷ row) ≡ row = rw (f, r.0) refl in e ∙ sym own),
        (λ x. let wrong : true ≡ false = rw f at x in cc),
      )
      by false f true g true h r = (rw f r.0, rw g r.1, (λ x. let any : list_any nl row ≡ true = rw f at x in let own : below at (n ∷ row) ≡ below at row = rw f refl in r.2 any ∙ sym own), (λ x. let any : list_any nl row ≡ false = rw f at x in r.3 any))
      by false f true g false h r = (rw f r.0, rw g r.1, (λ x. let any : list_any nl row ≡ true = rw f at x in let own : below at (n ∷ row) ≡ below at row = rw f refl in r.2 any ∙ sym own), (λ x. let any : list_any nl row ≡ false = rw f at x in r.3 any))
      by false f false g true h r = (rw f r.0, rw (g, f) refl, (λ x. let any : list_any nl row ≡ true = rw f at x in let own : below at (n ∷ row) ≡ below at row = rw f refl in r.2 any ∙ sym own), (λ x. let any : list_any nl row ≡ false = rw f at x in r.3 any))
      by false f false g false h r = (rw f r.0, rw (g, f) refl, (λ x. let any : list_any nl row ≡ true = rw f at x in let own : below at (n ∷ row) ≡ below at row = rw f refl in r.2 any ∙ sym own), (λ x. let any : list_any nl row ≡ false = rw f at x in r.3 any))

  start_within : (a : Bool) (j start top : ℕ) → j + 1 ≤ top → start ≤ top → (if a then j + 1 else start) ≤ top
  start_within true j start top h k = h
  start_within false j start top h k = k

  -- one node more is passed
  pub passed_more : (lead : List ℕ) (j start : ℕ) (ended : Bool) → j < length lead → Passed lead (j + 1) start ended → nl (slice_index lead j) && ended ≡ false
      → Passed lead j (if nl (slice_index lead j) then j + 1 else start) (nl (slice_index lead j) || (ended && ws (slice_index lead j)))
  passed_more lead j start ended less p e =
      let n : ℕ = slice_index lead j in
      let row : List ℕ = drop (j + 1) lead in
      let r : Reads lead (drop j lead) (if nl n then j + 1 else start) (nl n || (ended && ws n)) =
      subst (λ l. Reads lead l (if nl n then j + 1 else start) (nl n || (ended && ws n))) (sym (drop_more lead j 0 less)) (reads_more lead row n j start ended refl (p.blank, p.ends, p.some, p.none) e) in
      record { blank = r.0; ends = r.1; some = r.2; none = r.3; within = omega (arith, less); begins = start_within (nl n) j start (length lead) (omega (arith, less)) p.begins }

  -- the same by the place behind the node
  pub passed_now : (lead : List ℕ) (place start : ℕ) (ended : Bool) → 0 < place → Passed lead place start ended → nl (slice_index lead (place - 1)) ≡ true → ended ≡ true → drop place lead ≡ own_lead at lead
  passed_now lead place start ended some p e f =
      let k : place ≡ place - 1 + 1 = omega (arith, some) in
      ap (λ i. drop i lead) k ∙ passed_here lead (place - 1) start ended (omega (arith, some, p.within)) (subst (λ i. Passed lead i start ended) k p) e f

  pub passed_on : (lead : List ℕ) (place start : ℕ) (ended : Bool) → 0 < place → Passed lead place start ended → nl (slice_index lead (place - 1)) && ended ≡ false
      → Passed lead (place - 1) (if nl (slice_index lead (place - 1)) then place else start) (nl (slice_index lead (place - 1)) || (ended && ws (slice_index lead (place - 1))))
  passed_on lead place start ended some p e =
      let k : place ≡ place - 1 + 1 = omega (arith, some) in
      subst (λ i. Passed lead (place - 1) (if nl (slice_index lead (place - 1)) then i else start) (nl (slice_index lead (place - 1)) || (ended && ws (slice_index lead (place - 1))))) (sym k)
      (passed_more lead (place - 1) start ended (omega (arith, some, p.within)) (subst (λ i. Passed lead i start ended) k p) e)

  pub both : (a b : Bool) → a && b ≡ true → (a ≡ true) × (b ≡ true)
  both true true e = (refl, refl)
  both true false e = cc
  both false b e = cc

  pub passed_by : (lead : List ℕ) (place start : ℕ) (ended a w : Bool) (next : ℕ) → 0 < place → Passed lead place start ended → a ≡ nl (slice_index lead (place - 1)) → w ≡ ws (slice_index lead (place - 1)) → a && ended ≡ false
      → next ≡ (if a then place else start) → Passed lead (place - 1) next (a || (ended && w))
  passed_by lead place start ended a w next some p e f g h =
      let n : ℕ = slice_index lead (place - 1) in
      subst (λ k. Passed lead (place - 1) k (a || (ended && w))) (sym h)
      (subst (λ b. Passed lead (place - 1) (if a then place else start) (a || (ended && b))) (sym f)
      (subst (λ b. Passed lead (place - 1) (if b then place else start) (b || (ended && ws n))) (sym e) (passed_on lead place start ended some p (ap (λ b. b && ended) (sym e) ∙ g))))
