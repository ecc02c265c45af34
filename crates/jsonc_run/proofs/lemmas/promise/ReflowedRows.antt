-- A row that is put on several lines has elements of the same texts.
use Rattle.std.proofs.Common.{◌≡◌, ◌∙◌, sym, ap, refl, Bool, true, false, ◌∷◌}
use Rattle.jsonc_tree.specs.Content.{whitespace, newline}
use Rattle.jsonc_tree.specs.OrderedTree.{OrderedTree, none, more}
use Rattle.jsonc_tree.specs.Values.{is_passed_over}
use Rattle.jsonc_sound.specs.TreeChanges.{IsElement}
use Rattle.jsonc_edit.specs.multiline.Reflows as reflows
use Rattle.jsonc_edit.specs.multiline.Reflows.{Reflows, SpreadsOut}
use Rattle.jsonc_run.specs.promise.PlaceLaws.{node_chars, texts_of}
use Rattle.jsonc_run.proofs.lemmas.promise.Entries.{element_text, over_text}

pub reflowed_texts : {x y : OrderedTree} → Reflows x y → texts_of x ≡ texts_of y
reflowed_texts reflows.ended = refl
reflowed_texts (reflows.kept {content = c} {below = below} {x = x} {y = y} h) = by (reflowed_texts h) (is_passed_over c) refl
  where
    by : texts_of x ≡ texts_of y → (b : Bool) → is_passed_over c ≡ b → texts_of (more c below x) ≡ texts_of (more c below y)
    by ih true e = over_text c below x e ∙ ih ∙ sym (over_text c below y e)
    by ih false e =
        let element : IsElement c = rw e refl in
        element_text c below x element ∙ ap (λ l. node_chars (record { content = c; below = below }) ∷ l) ih ∙ sym (element_text c below y element)
reflowed_texts (reflows.gone {s = s} {x = x} h k) = over_text (whitespace s) none x refl ∙ reflowed_texts k
reflowed_texts (reflows.line {k = k} {s = s} {y = y} h g) = reflowed_texts g ∙ sym (over_text (newline k) none (more (whitespace s) none y) refl ∙ over_text (whitespace s) none y refl)
reflowed_texts (reflows.line_end {k = k} {y = y} g) = reflowed_texts g ∙ sym (over_text (newline k) none y refl)

pub spread_texts : {x y : OrderedTree} → SpreadsOut x y → texts_of x ≡ texts_of y
spread_texts (reflows.stays h) = refl
spread_texts (reflows.reflows h k g) = reflowed_texts g
