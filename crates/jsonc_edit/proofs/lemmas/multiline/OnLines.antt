-- A row on several lines is the row, in which ends of lines have come and whitespace has left.
use Rattle.std.proofs.Common.{◌≡◌, ◌∙◌, ℕ, zero, suc, ◌+◌, ◌-◌, ◌<◌, Bool, true, false, ◌||◌, List, [], ◌∷◌, ◌++◌, All, length, map, take, drop, IsTrue, refl, sym, ap, subst, arith, length-drop, get_or-drop, if◌then◌else◌}
use Rattle.std.specs.List.{flat_map, list_any, suffix_len}
use Rattle.std.proofs.lemmas.List.{take-append-drop}
use Rattle.std.proofs.lemmas.List.Elements.{All-from_get_or, All-head, All-tail, All-take}
use Rattle.jsonc_text.proofs.Basics.{or_right}
use Rattle.jsonc_tree.specs.Content.{Content, newline, whitespace}
use Rattle.jsonc_tree.specs.OrderedTree.{OrderedTree, none, more}
use Rattle.jsonc_tree.specs.Tree.{Node, content_at, IsTree}
use Rattle.jsonc_tree.specs.declared.node.CstNewlineKind.{CstNewlineKind}
use Rattle.jsonc_layout.specs.nodes.Kinds.{is_newline, is_newline_at, is_whitespace, is_whitespace_at, is_comma_at}
use Rattle.jsonc_edit.specs.Changes.{row_below}
use Rattle.jsonc_edit.specs.Writing.{IsIndent}
use Rattle.jsonc_edit.specs.multiline.Slots.{Slot, comes, top_in, row_in}
use Rattle.jsonc_edit.specs.multiline.Lines.{Lines, last_line, indent_if_any, on_line, on_lines, parts, without_back, without_front}
use Rattle.jsonc_edit.specs.multiline.Plans.{child_slots, begins_behind}
use Rattle.jsonc_edit.specs.multiline.Reflows.{starts_line, has_newline, Spot, behind, goes_on_lines, is_on_lines, Reflows, ended, kept, gone, line, line_end}
use Rattle.jsonc_edit.proofs.lemmas.multiline.RowByNode.{woven, both_woven}
use Rattle.jsonc_edit.proofs.LeafKinds.{blank_leaf}
use Rattle.jsonc_edit.proofs.Lists.{suffix_passes}
use Rattle.jsonc_edit.proofs.lemmas.multiline.FilledRows.{AllFit, AllHold, IsLeaf, hold_then}
use Rattle.jsonc_edit.proofs.Standing.{bare_below, standing}

-- the end of a line is in the row where it is among the nodes
pub standing_newline : (ns : List Node) (xs : List ℕ) → has_newline (standing ns xs) ≡ list_any (is_newline_at ns) xs
standing_newline ns [] = refl
standing_newline ns (n ∷ xs) = ap (λ b. is_newline_at ns n || b) (standing_newline ns xs)

pub row_newline : (ns : List Node) (k : CstNewlineKind) (rest front : List Slot) → IsTrue (has_newline (row_in ns (front ++ comes (newline k) ∷ rest)))
row_newline ns k rest [] = refl
row_newline ns k rest (slot ∷ front) = or_right (is_newline (top_in ns slot).content) (has_newline (row_in ns (front ++ comes (newline k) ∷ rest))) (row_newline ns k rest front)

blank_gone : (content : Content) (below x y : OrderedTree) → is_whitespace content ≡ true → below ≡ none → IsTrue (starts_line y) → Reflows x y → Reflows (more content below x) y
blank_gone (Content.whitespace s) below x y e f h r = subst (λ b. Reflows (more (Content.whitespace s) b x) y) (sym f) (gone h r)
blank_gone content below x y e f h r = cc

-- behind a node that is no end of a line
indent_then : (content : Content) (below after : OrderedTree) → is_newline content ≡ false → is_whitespace content ≡ false → goes_on_lines Spot.indent (more content below after) ≡ goes_on_lines (behind content) after
indent_then (newline k) below after e f = cc
indent_then (Content.whitespace s) below after e f = cc
indent_then content below after e f = refl

part_then : (content : Content) (below after : OrderedTree) → is_newline content ≡ false → goes_on_lines Spot.part (more content below after) ≡ goes_on_lines (behind content) after
part_then (newline k) below after e = cc
part_then content below after e = refl

both_false : (a b : Bool) → a || b ≡ false → (a ≡ false) × (b ≡ false)
both_false true b e = cc
both_false false b e = (refl, e)

none_taken : (p : ℕ → Bool) (k : ℕ) (row : List ℕ) → list_any p row ≡ false → list_any p (take k row) ≡ false
none_taken p zero row e = refl
none_taken p (suc k) [] e = refl
none_taken p (suc k) (n ∷ row) e =
    let both = both_false (p n) (list_any p row) e in
    ap (λ b. b || list_any p (take k row)) both.0 ∙ none_taken p k row both.1

suffix_all : (p : ℕ → Bool) (row : List ℕ) → All (λ n. p n ≡ true) (drop (length row - suffix_len p row) row)
suffix_all p row =
    let k : ℕ = length row - suffix_len p row in
    All-from_get_or (λ n. p n ≡ true) (drop k row) 0 (λ i h. ap p (get_or-drop k row i 0) ∙ suffix_passes p row (k + i) (omega arith) (omega (arith, h, length-drop k row)))

module _ (old : List Node) (tree : IsTree old) (lines : Lines) (inner : IsIndent lines.inner) (outer : IsIndent lines.outer) where
  -- the row of a part, or of several, and of the last line
  abbrev Then : List Slot → OrderedTree
  Then slots = row_in old (slots ++ last_line lines)

  blank_reflow : (n : ℕ) (x y : OrderedTree) → is_whitespace_at old n ≡ true → IsTrue (starts_line y) → Reflows x y → Reflows (more (content_at old n) (row_below old n) x) y
  blank_reflow n x y e h r = blank_gone (content_at old n) (row_below old n) x y e (bare_below old n (tree.leaf n (blank_leaf (content_at old n) e))) h r

  end_reflows : Reflows none (Then [])
  end_reflows = by lines.outer outer
    where
      by : (s : List ℕ) → IsIndent s → Reflows none (row_in old (comes (newline lines.newline) ∷ map comes (indent_if_any s)))
      by [] h = line_end ended
      by (c ∷ s) h = line h ended

  blanks_reflow : (blanks : List ℕ) → All (λ n. is_whitespace_at old n ≡ true) blanks → Reflows (standing old blanks) (Then [])
  blanks_reflow [] all = end_reflows
  blanks_reflow (n ∷ blanks) all =
      blank_reflow n (standing old blanks) (Then []) (All-head (λ m. is_whitespace_at old m ≡ true) n blanks all) refl (blanks_reflow blanks (All-tail (λ m. is_whitespace_at old m ≡ true) n blanks all))

  -- where a part begins, a line does
  woven_starts : (row : List ℕ) → IsTrue (starts_line (Then (woven lines old true row)))
  woven_starts [] = refl
  woven_starts (n ∷ row) = by (is_whitespace_at old n) (is_comma_at old n) (woven_starts row)
    where
      by : (blank comma : Bool) → IsTrue (starts_line (Then (woven lines old true row))) → IsTrue (starts_line (Then (child_slots lines true blank n ++ woven lines old (begins_behind true blank comma) row)))
      by true comma h = h
      by false comma h = refl

  abbrev Goes : Bool → List ℕ → List ℕ → Type 0
  Goes begins row blanks = Reflows (standing old (row ++ blanks)) (Then (woven lines old begins row))

  woven_reflows : (begins : Bool) (row blanks : List ℕ) → Reflows (standing old blanks) (Then []) → Goes begins row blanks
  woven_reflows begins [] blanks h = h
  woven_reflows begins (n ∷ row) blanks h = by begins (is_whitespace_at old n) (is_comma_at old n) refl (woven_reflows true row blanks h) (woven_reflows false row blanks h)
    where
      by : (begins blank comma : Bool) → is_whitespace_at old n ≡ blank → Goes true row blanks → Goes false row blanks → Reflows (more (content_at old n) (row_below old n) (standing old (row ++ blanks))) (Then (child_slots lines begins blank n ++ woven lines old (begins_behind begins blank comma) row))
      by true true comma e t f = blank_reflow n (standing old (row ++ blanks)) (Then (woven lines old true row)) e (woven_starts row) t
      by true false true e t f = line inner (kept t)
      by true false false e t f = line inner (kept f)
      by false blank true e t f = kept t
      by false blank false e t f = kept f

  pub row_reflows : (row : List ℕ) → Reflows (standing old row) (row_in old (on_lines lines old row))
  row_reflows row =
      let k : ℕ = length row - suffix_len (is_whitespace_at old) row in
      let all : Reflows (standing old (take k row ++ drop k row)) (Then (woven lines old true (take k row))) = woven_reflows true (take k row) (drop k row) (blanks_reflow (drop k row) (suffix_all (is_whitespace_at old) row)) in
      subst (λ (l : List ℕ). Reflows (standing old l) (row_in old (on_lines lines old row))) (take-append-drop k row)
      (subst (λ (l : List Slot). Reflows (standing old (take k row ++ drop k row)) (Then l)) (sym (both_woven lines old (without_back old row)).0) all)

  -- each part begins a line, and so does the last bracket
  abbrev turn : Bool → Spot
  turn begins = if begins then Spot.begins else Spot.part

  last_closes : (begins : Bool) → goes_on_lines (turn begins) (Then []) ≡ true
  last_closes begins = by begins lines.outer
    where
      by : (begins : Bool) (s : List ℕ) → goes_on_lines (turn begins) (row_in old (comes (newline lines.newline) ∷ map comes (indent_if_any s))) ≡ true
      by true [] = refl
      by false [] = refl
      by true (c ∷ s) = refl
      by false (c ∷ s) = refl

  abbrev On : Bool → List ℕ → Type 0
  On begins row = goes_on_lines (turn begins) (Then (woven lines old begins row)) ≡ true

  woven_on_lines : (begins : Bool) (row : List ℕ) → list_any (is_newline_at old) row ≡ false → On begins row
  woven_on_lines begins [] lacking = last_closes begins
  woven_on_lines begins (n ∷ row) lacking =
      by begins (is_whitespace_at old n) (is_comma_at old n) refl refl (woven_on_lines true row lacks.1) (woven_on_lines false row lacks.1)
    where
      lacks : (is_newline_at old n ≡ false) × (list_any (is_newline_at old) row ≡ false)
      lacks = both_false (is_newline_at old n) (list_any (is_newline_at old) row) lacking

      by : (begins blank comma : Bool) → is_whitespace_at old n ≡ blank → is_comma_at old n ≡ comma → On true row → On false row
          → goes_on_lines (turn begins) (Then (child_slots lines begins blank n ++ woven lines old (begins_behind begins blank comma) row)) ≡ true
      by true true comma e f t u = t
      by true false true e f t u = indent_then (content_at old n) (row_below old n) (Then (woven lines old true row)) lacks.0 e ∙ ap (λ b. goes_on_lines (turn b) (Then (woven lines old true row))) f ∙ t
      by true false false e f t u = indent_then (content_at old n) (row_below old n) (Then (woven lines old false row)) lacks.0 e ∙ ap (λ b. goes_on_lines (turn b) (Then (woven lines old false row))) f ∙ u
      by false blank true e f t u = part_then (content_at old n) (row_below old n) (Then (woven lines old true row)) lacks.0 ∙ ap (λ b. goes_on_lines (turn b) (Then (woven lines old true row))) f ∙ t
      by false blank false e f t u = part_then (content_at old n) (row_below old n) (Then (woven lines old false row)) lacks.0 ∙ ap (λ b. goes_on_lines (turn b) (Then (woven lines old false row))) f ∙ u

  pub row_on_lines : (row : List ℕ) → list_any (is_newline_at old) row ≡ false → IsTrue (is_on_lines (row_in old (on_lines lines old row)))
  row_on_lines row lacking =
      subst (λ (l : List Slot). IsTrue (is_on_lines (Then l))) (sym (both_woven lines old (without_back old row)).0)
      (woven_on_lines true (without_back old row) (none_taken (is_newline_at old) (length row - suffix_len (is_whitespace_at old) row) row lacking))

-- a row on several lines is made of children of which this holds, and leaves of which that does
module _ (lines : Lines) (ns : List Node) (P : ℕ → Type 0) (C : Content → Type 0) (line : C (newline lines.newline)) (inner : C (whitespace lines.inner)) (outer : C (whitespace lines.outer)) where
  child_holds : (begins blank : Bool) (n : ℕ) → P n → AllHold P C (child_slots lines begins blank n)
  child_holds true true n h = tt
  child_holds true false n h = (line, (inner, (h, tt)))
  child_holds false blank n h = (h, tt)

  woven_holds : (begins : Bool) (row : List ℕ) → All P row → AllHold P C (woven lines ns begins row)
  woven_holds begins [] all = tt
  woven_holds begins (n ∷ row) all =
      hold_then P C (child_slots lines begins (is_whitespace_at ns n) n) (woven lines ns (begins_behind begins (is_whitespace_at ns n) (is_comma_at ns n)) row) (child_holds begins (is_whitespace_at ns n) n (All-head P n row all))
      (woven_holds (begins_behind begins (is_whitespace_at ns n) (is_comma_at ns n)) row (All-tail P n row all))

  last_holds : AllHold P C (last_line lines)
  last_holds = by lines.outer outer
    where
      by : (s : List ℕ) → C (whitespace s) → AllHold P C (comes (newline lines.newline) ∷ map comes (indent_if_any s))
      by [] w = (line, tt)
      by (c ∷ s) w = (line, (w, tt))

  pub on_lines_hold : (row : List ℕ) → All P row → AllHold P C (on_lines lines ns row)
  on_lines_hold row all =
      let front : List ℕ = without_back ns row in
      let holds : AllHold P C (woven lines ns true front) = woven_holds true front (All-take P (length row - suffix_len (is_whitespace_at ns) row) row all) in
      hold_then P C (flat_map (λ part. on_line lines (without_front ns part)) (parts ns front)) (last_line lines) (subst (AllHold P C) (sym (both_woven lines ns front).0) holds) last_holds

pub on_lines_fit : (lines : Lines) (ns : List Node) (row : List ℕ) → All (λ n. n < length ns) row → AllFit ns (on_lines lines ns row)
on_lines_fit lines ns row all = on_lines_hold lines ns (λ n. n < length ns) IsLeaf refl refl refl row all
