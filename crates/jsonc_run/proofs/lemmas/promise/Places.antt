-- What stands at a path between leaves stands between what these print; and what spaces print.
use Rattle.std.proofs.Common.{ℕ, ◌≡◌, ◌∙◌, ap, refl, Bool, true, false, List, [], ◌∷◌, ◌++◌, None, chars, rules}
use Rattle.std.specs.List.{flat_map}
use Rattle.std.proofs.lemmas.Str.{chars-nil, chars-append, chars-IsAscii}
use Rattle.jsonc_text.specs.Text.{next}
use Rattle.jsonc_tree.specs.Content.{Content, text_of}
use Rattle.jsonc_tree.specs.OrderedTree.{OrderedTree, own_leaf, leaves, Top}
use Rattle.jsonc_sound.specs.TreeChanges as changes
use Rattle.jsonc_sound.specs.TreeChanges.{ElementChanged, ValueChanged, DocumentChanged}
use Rattle.jsonc_sound.proofs.Texts.{AllUtf8}
use Rattle.jsonc_edit.specs.SeamPlaces.{RowHolds, this_element, past_other, past_element, ValueHolds, itself, in_array, in_object, DocumentHolds, in_root}
use Rattle.jsonc_edit.specs.Seams.{PrintNothing, space_if}
use Rattle.jsonc_run.specs.promise.PlaceLaws.{text_of_leaves}
use Rattle.jsonc_run.proofs.lemmas.promise.Leaves.{row_front, row_back, value_front, value_back, front_of, back_of, text_joined, utf8_first, utf8_second}
use Rattle.jsonc_run.proofs.lemmas.promise.Reversed.{both}

-- a row in which nothing changes
pub record RowItself (top : Top) (i : ℕ) (row : OrderedTree) (f b : List Content) : Type 0 where
  pub changed : ElementChanged top top i row row
  pub first : row_front changed ≡ f
  pub last : row_back changed ≡ b

pub row_itself : {top : Top} {i : ℕ} {row : OrderedTree} {f b : List Content} → RowHolds top i row f b → RowItself top i row f b
row_itself (this_element p) = record { changed = changes.this_element p p; first = refl; last = refl }
row_itself (past_other {content = content} {below = below} p h) =
    let m = row_itself h in
    record { changed = changes.passed p m.changed; first = ap (λ l. own_leaf content ++ (leaves below ++ l)) m.first; last = m.last }
row_itself (past_element {content = content} {below = below} p h) =
    let m = row_itself h in
    record { changed = changes.later_element p m.changed; first = ap (λ l. own_leaf content ++ (leaves below ++ l)) m.first; last = m.last }

record ValueItself (top : Top) (path : List ℕ) (x : Top) (f b : List Content) : Type 0 where
  changed : ValueChanged top top path x x
  first : value_front changed ≡ f
  last : value_back changed ≡ b

value_itself : {top : Top} {path : List ℕ} {x : Top} {f b : List Content} → ValueHolds top path x f b → ValueItself top path x f b
value_itself itself = record { changed = changes.itself; first = refl; last = refl }
value_itself (in_array r h) =
    let e = row_itself r in
    let m = value_itself h in
    record { changed = changes.in_array e.changed m.changed; first = both e.first m.first; last = both m.last e.last }
value_itself (in_object r k h) =
    let e = row_itself r in
    let g = row_itself k in
    let m = value_itself h in
    record { changed = changes.in_object e.changed g.changed m.changed; first = both e.first (both g.first m.first); last = both (both m.last g.last) e.last }

-- a document in which nothing changes at the path
pub record DocumentItself (top : Top) (path : List ℕ) (t : OrderedTree) (f b : List Content) : Type 0 where
  pub changed : DocumentChanged top top path t t
  pub first : front_of changed ≡ f
  pub last : back_of changed ≡ b

pub document_itself : {top : Top} {path : List ℕ} {t : OrderedTree} {f b : List Content} → DocumentHolds top path t f b → DocumentItself top path t f b
document_itself (in_root r h) =
    let e = row_itself r in
    let m = value_itself h in
    record { changed = changes.in_root e.changed m.changed; first = both e.first m.first; last = both m.last e.last }

-- what leaves print that print nothing
nothing_next : (s : List ℕ) → next s ≡ None → s ≡ []
nothing_next [] e = refl
nothing_next (c ∷ s) e = cc

silent_text : (quiet : List Content) → PrintNothing quiet → AllUtf8 quiet → text_of_leaves quiet ≡ []
silent_text [] p u = chars-nil
silent_text (content ∷ quiet) p u =
    chars-append (text_of content) (flat_map text_of quiet) u.0
    ∙ ap (λ l. l ++ text_of_leaves quiet) (nothing_next (chars (text_of content)) p.0)
    ∙ silent_text quiet p.1 u.1

pub silent_then : (quiet rest : List Content) → PrintNothing quiet → AllUtf8 (quiet ++ rest) → text_of_leaves (quiet ++ rest) ≡ text_of_leaves rest
silent_then quiet rest p u = text_joined quiet rest (utf8_first quiet rest u) ∙ ap (λ l. l ++ text_of_leaves rest) (silent_text quiet p (utf8_first quiet rest u))

-- the space, or none
abbrev pub seam_if : Bool → List ℕ
seam_if false = []
seam_if true = 0x20 ∷ []

pub space_text : (b : Bool) → text_of_leaves (space_if b) ≡ seam_if b
space_text false = chars-nil
space_text true = chars-IsAscii (0x20 ∷ []) (search rules)

-- behind what prints nothing
pub seam_then : (quiet rest : List Content) (b : Bool) → PrintNothing quiet → AllUtf8 (quiet ++ (space_if b ++ rest)) → text_of_leaves (quiet ++ (space_if b ++ rest)) ≡ seam_if b ++ text_of_leaves rest
seam_then quiet rest b p u =
    silent_then quiet (space_if b ++ rest) p u
    ∙ text_joined (space_if b) rest (utf8_first (space_if b) rest (utf8_second quiet (space_if b ++ rest) u))
    ∙ ap (λ l. l ++ text_of_leaves rest) (space_text b)
