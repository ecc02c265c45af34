-- Where a value comes into an array of a sound tree, it comes into the text.
use Rattle.std.proofs.Common.{ℕ, suc, min, ◌≡◌, ◌∙◌, sym, ap, subst, refl, List, [], ◌∷◌, ◌++◌, length, Some}
use Rattle.jsonc_text.specs.Options.{Options}
use Rattle.jsonc_text.specs.Plain as plain
use Rattle.jsonc_text.specs.Plain.{Plain, Items, no_items, item}
use Rattle.jsonc_tree.specs.OrderedTree.{OrderedTree}
use Rattle.jsonc_layout.specs.from_input.Texts.{IsOfTexts}
use Rattle.jsonc_layout.proofs.lemmas.from_input.Meanings.{laid_value}
use Rattle.jsonc_insert.specs.elements.Laws as laws
use Rattle.jsonc_tree.specs.Values.{DocumentValueOf}
use Rattle.jsonc_sound.specs.Leaving.{element_count}
use Rattle.jsonc_run.proofs.lemmas.promise.Held.{as_many_items}
use Rattle.jsonc_insert.specs.elements.Laws.{ElementInsertedAt, InsertsItem, ItemInserted, item_count}
use Rattle.jsonc_sound.specs.Rows.{of_values}
use Rattle.jsonc_sound.specs.SoundTrees.{SoundTree}
use Rattle.jsonc_sound.proofs.FirstNodes.{value_of_element}
use Rattle.jsonc_run.specs.texts.Paths.{an_array}
use Rattle.jsonc_run.specs.texts.Entries.{Named, items, of, Changed}
use Rattle.jsonc_run.specs.texts.Layout.{IsLaidEntry}
use Rattle.jsonc_run.specs.texts.Entering.{Gains}
use Rattle.jsonc_run.proofs.lemmas.promise.LaidTexts.{is_laid}
use Rattle.jsonc_run.proofs.lemmas.promise.Insides.{kept_texts}
use Rattle.jsonc_run.proofs.lemmas.promise.Arriving.{text_comes}
use Rattle.jsonc_run.proofs.lemmas.promise.Stretches.{laid_literals}
use Rattle.jsonc_insert.proofs.lemmas.elements.Marked.{kept_marks}
use Rattle.jsonc_text.specs.Marks.{literals_of}
use Rattle.jsonc_run.proofs.lemmas.promise.Plains.{changed, entry_of, list_of_items, same_items}
use Rattle.jsonc_sound.specs.Documents.{document_of}

-- the items before and behind the one that has come
pub record ItemGained (v : Plain) (n : ℕ) (vs ws : Items) : Type 0 where
  pub front : List Named
  pub back : List Named
  pub place : length front ≡ n
  pub before : vs ≡ items (front ++ back)
  pub after : ws ≡ items (front ++ entry_of [] v ∷ back)

pub item_gained : {v : Plain} {n : ℕ} {vs ws : Items} → ItemInserted v n vs ws → ItemGained v n vs ws
item_gained {v} (laws.this_item {vs = vs}) = record { front = []; back = list_of_items vs; place = refl; before = sym (same_items vs); after = ap (item v) (sym (same_items vs)) }
item_gained (laws.later_item {w = w} k) =
    let m = item_gained k in
    record { front = entry_of [] w ∷ m.front; back = m.back; place = ap suc m.place; before = ap (item w) m.before; after = ap (item w) m.after }

pub counted : (xs : List Named) → item_count (items xs) ≡ length xs
counted [] = refl
counted (x ∷ xs) = ap suc (counted xs)

module _ (o : Options) {t u : OrderedTree} (s : SoundTree o t) (r : SoundTree o u) {path : List ℕ} {i j : ℕ} {v : Plain} (texts : IsOfTexts v) (c : ElementInsertedAt o path j v t u) {x y : Plain} (h : DocumentValueOf o t (Some x)) (h2 : DocumentValueOf o u (Some y)) (g : InsertsItem path i v x y) where
  pub gained : ItemGained v (min i (item_count g.old)) g.old g.new
  gained = item_gained g.comes

  -- as many values as elements
  same_count : element_count c.row ≡ item_count g.old
  same_count = as_many_items o h h2 of_values c.row c.new c.changed g.changed ∙ sym (counted (list_of_items g.old)) ∙ ap item_count (same_items g.old)

  pub gains_so : (k : ItemGained v (min i (item_count g.old)) g.old g.new) → min j (item_count g.old) ≡ length k.front → Gains an_array path k.front k.back (entry_of [] v) (document_of o t (Some x)) (document_of o u (Some y))
  gains_so k number =
      let comes = text_comes o of_values c.row c.kept c.new s r c.changed (Some x) (Some y) (kept_texts c.leave) (kept_marks c.leave) (value_of_element (laid_value o c.layout v texts)) (literals_of v) (laid_literals c.layout v texts) (IsLaidEntry an_array (entry_of [] v)) (is_laid o c.layout v texts) c.row c.leave (λ w g. (g, refl)) c.comes in (
        subst (λ (p : Items). Changed (of an_array (k.front ++ k.back)) (plain.array p) path x y) k.after (subst (λ (p : Items). Changed (plain.array p) (plain.array g.new) path x y) k.before (changed g.changed)),
        comes.0,
        comes.1,
        comes.2 ∙ ap (λ n. min j n) same_count ∙ number,
        comes.3,
        comes.4,
        comes.5,
        comes.6,
        comes.7,
        comes.8,
        comes.9,
      )

  -- at its number, or behind all
  pub in_place : length gained.front ≡ min i (length (gained.front ++ gained.back))
  in_place = gained.place ∙ ap (λ n. min i n) (ap item_count gained.before ∙ counted (gained.front ++ gained.back))
