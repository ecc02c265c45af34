-- An array or object that was put on several lines has the end of a line among its children, and has its brackets where its document is sound.
use Rattle.std.proofs.Common.{◌≡◌, ◌∙◌, ℕ, ◌-◌, Bool, true, ◌||◌, ◌&&◌, not, inl, inr, List, [], ◌∷◌, ◌++◌, length, map, take, drop, reverse, IsTrue, refl, sym, ap, subst}
use Rattle.std.specs.List.{flat_map, list_any}
use Rattle.std.proofs.lemmas.Bool.{cases_Bool}
use Rattle.std.proofs.lemmas.List.{reverse-append}
use Rattle.std.proofs.lemmas.List.Folds.{list_any-append}
use Rattle.jsonc_text.specs.Options.{Options}
use Rattle.jsonc_text.proofs.Basics.{or_right}
use Rattle.jsonc_tree.specs.Content.{newline}
use Rattle.jsonc_tree.specs.Siblings.{first}
use Rattle.jsonc_tree.specs.Tree.{Node, content_at, children_at}
use Rattle.jsonc_tree.specs.declared.node.CstNewlineKind.{CstNewlineKind}
use Rattle.jsonc_layout.specs.nodes.Kinds.{is_newline, is_newline_at, is_token}
use Rattle.jsonc_edit.specs.remove.Removed.{has_two, is_token_at}
use Rattle.jsonc_edit.specs.multiline.Laws.{HasLineEnd, StaysSpread, HasItsBrackets}
use Rattle.jsonc_edit.specs.multiline.Lines.{Lines, between, indent_if_any, lines_for, on_line, on_lines, parts, without_back, without_front}
use Rattle.jsonc_edit.specs.multiline.Multiline.{has_line_end, TakesRow}
use Rattle.jsonc_edit.specs.multiline.Slots.{Slot, stays, comes, AreFilled, stayed, came}
use Rattle.jsonc_edit.proofs.FittingNodes.{over_there}
use Rattle.jsonc_edit.proofs.lemmas.remove.Containers.{brackets, held_at}
use Rattle.jsonc_edit.proofs.Uniqueness.{over_at}

or_left : (a b : Bool) → a ≡ true → IsTrue (a || b)
or_left a b e = ap (λ x. x || b) e

-- among nodes that fill places is one that fills the end of a line
filled_end : (old ready : List Node) (k : CstNewlineKind) (rest front : List Slot) {row : List ℕ} → AreFilled old ready (front ++ comes (newline k) ∷ rest) row → IsTrue (list_any (is_newline_at ready) row)
filled_end old ready k rest [] (came {n = n} {row = row} later there is alone r) = or_left (is_newline_at ready n) (list_any (is_newline_at ready) row) (ap is_newline is)
filled_end old ready k rest (stays m ∷ front) (stayed {n = n} {row = row} r) = or_right (is_newline_at ready n) (list_any (is_newline_at ready) row) (filled_end old ready k rest front r)
filled_end old ready k rest (comes w ∷ front) (came {n = n} {row = row} later there is alone r) = or_right (is_newline_at ready n) (list_any (is_newline_at ready) row) (filled_end old ready k rest front r)

ends_kept : (ready new : List Node) → ((n : ℕ) → content_at new n ≡ content_at ready n) → (xs : List ℕ) → list_any (is_newline_at new) xs ≡ list_any (is_newline_at ready) xs
ends_kept ready new same [] = refl
ends_kept ready new same (x ∷ xs) = ap (λ w. is_newline w || list_any (is_newline_at new) xs) (same x) ∙ ap (λ b. is_newline_at ready x || b) (ends_kept ready new same xs)

module _ (old new : List Node) (c : ℕ) where
  taken_end : TakesRow old new c (on_lines (lines_for old c) old (between (children_at old c))) → IsTrue (has_line_end new c)
  taken_end r =
      let lines : Lines = lines_for old c in
      let front : List Slot = flat_map (λ part. on_line lines (without_front old part)) (parts old (without_back old (between (children_at old c)))) in
      let p : ℕ → Bool = is_newline_at new in
      let before : List ℕ = take 1 (children_at r.ready c) in
      let behind : List ℕ = drop (length (children_at old c) - 1) (children_at r.ready c) in
      let inner : IsTrue (list_any p r.row) = ends_kept r.ready new r.put.content r.row ∙ filled_end old r.ready lines.newline (map comes (indent_if_any lines.outer)) front r.filled in
      let rest : IsTrue (list_any p (r.row ++ behind)) = list_any-append p r.row behind ∙ or_left (list_any p r.row) (list_any p behind) inner in
      ap (list_any p) r.put.children ∙ list_any-append p before (r.row ++ behind) ∙ or_right (list_any p before) (list_any p (r.row ++ behind)) rest

  pub has_end : HasLineEnd old new c
  has_end tree made =
      elim (cases_Bool (has_line_end old c)) [
        | inl had ↦ subst (λ ns. IsTrue (has_line_end ns c)) (sym (made.was had)) had
        | inr lacked ↦ taken_end (made.is (ap not lacked))
      ]

pub stays_spread : (old now new : List Node) (c : ℕ) → StaysSpread old now new c
stays_spread old now new c tree made again = again.was (has_end old now c tree made)

pub two_there : (x y : ℕ) (inner : List ℕ) → has_two (x ∷ (inner ++ y ∷ [])) ≡ true
two_there x y [] = refl
two_there x y (m ∷ inner) = refl

last_there : (ns : List Node) (x y : ℕ) (inner : List ℕ) → is_token (content_at ns y) ≡ true → is_token_at ns (first (reverse (x ∷ (inner ++ y ∷ [])))) ≡ true
last_there ns x y inner e = ap (λ l. is_token_at ns (first l)) (reverse-append (x ∷ inner) (y ∷ [])) ∙ e

all_three : (a b c : Bool) → a ≡ true → b ≡ true → c ≡ true → (a && (b && c)) ≡ true
all_three a b c e f g = ap (λ x. x && (b && c)) e ∙ ap (λ x. x && c) f ∙ g

bracketed_row : (ns : List Node) (row : List ℕ) → has_two row ≡ true → is_token_at ns (first row) ≡ true → is_token_at ns (first (reverse row)) ≡ true → (has_two row && (is_token_at ns (first row) && is_token_at ns (first (reverse row)))) ≡ true
bracketed_row ns row e f g = all_three (has_two row) (is_token_at ns (first row)) (is_token_at ns (first (reverse row))) e f g

pub has_its_brackets : (o : Options) (ns : List Node) (path : List ℕ) (c : ℕ) → HasItsBrackets o ns path c
has_its_brackets o ns path c tree sound at holds =
    let held = held_at o ns tree sound path c at holds in
    let b = brackets o ns tree c (over_there ns tree c (over_at ns tree path c at)) held in
    let row : List ℕ = b.open_with ∷ (b.inner ++ b.last ∷ []) in
    let whole : (has_two row && (is_token_at ns (first row) && is_token_at ns (first (reverse row)))) ≡ true = bracketed_row ns row (two_there b.open_with b.last b.inner) (ap is_token b.opens) (last_there ns b.open_with b.last b.inner (ap is_token b.closes)) in
    subst (λ (l : List ℕ). IsTrue (has_two l && (is_token_at ns (first l) && is_token_at ns (first (reverse l))))) (sym b.children) whole
