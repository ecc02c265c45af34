-- A value on one line is laid out alike by all layouts.
use Rattle.std.proofs.Common.{◌≡◌, false, cond, ◌∷◌, Result, Ok, Err, IfOk, refl, sym, ap, ◌∙◌}
use Rattle.std.proofs.lemmas.Bool.{false≢true}
use Rattle.jsonc_text.specs.Plain.{Plain, Items, no_items, item, no_members, member}
use Rattle.jsonc_tree.specs.Content as content
use Rattle.jsonc_tree.specs.Content.{token}
use Rattle.jsonc_layout.specs.from_input.Laid.{closed, holds_filled, is_filled, laid, laid_items, leaf_then, on_one_line, spread}
use Rattle.jsonc_layout.specs.from_input.Layout.{deeper, Layout}
use Rattle.jsonc_edit.specs.Reading.{is_spread}
use Rattle.jsonc_edit.proofs.Lists.{either_off}

module _ (l k : Layout) where
  single_alike : (v : Plain) → is_filled v ≡ false → laid l v ≡ laid k v
  single_alike Plain.null e = refl
  single_alike (Plain.boolean b) e = refl
  single_alike (Plain.number s) e = refl
  single_alike (Plain.string s) e = refl
  single_alike (Plain.array no_items) e = refl
  single_alike (Plain.array (item v vs)) e = absurd (false≢true (sym e))
  single_alike (Plain.object no_members) e = refl
  single_alike (Plain.object (member name v ms)) e = absurd (false≢true (sym e))

  items_alike : (vs : Items) → holds_filled vs ≡ false → laid_items l vs ≡ laid_items k vs
  items_alike no_items e = refl
  items_alike (item v vs) e =
      let parts = either_off (is_filled v) (holds_filled vs) e in
      ap (λ t. t ∷ laid_items l vs) (single_alike v parts.0) ∙ ap (λ ts. laid k v ∷ ts) (items_alike vs parts.1)

  array_on_line : (m : Layout) (vs : Items) → holds_filled vs ≡ false → laid m (Plain.array vs) ≡ record { content = content.array; below = leaf_then (token 0x5B) (on_one_line (laid_items m vs) (closed 0x5D)) }
  array_on_line m vs e = ap (λ b. record { content = content.array; below = leaf_then (token 0x5B) (cond b (spread m (laid_items (deeper m) vs) (closed 0x5D)) (on_one_line (laid_items m vs) (closed 0x5D))) }) e

  pub laid_alike : (v : Plain) → is_spread v ≡ false → laid l v ≡ laid k v
  laid_alike Plain.null e = refl
  laid_alike (Plain.boolean b) e = refl
  laid_alike (Plain.number s) e = refl
  laid_alike (Plain.string s) e = refl
  laid_alike (Plain.array vs) e =
      array_on_line l vs e
      ∙ ap (λ ts. record { content = content.array; below = leaf_then (token 0x5B) (on_one_line ts (closed 0x5D)) }) (items_alike vs e)
      ∙ sym (array_on_line k vs e)
  laid_alike (Plain.object no_members) e = refl
  laid_alike (Plain.object (member name v ms)) e = absurd (false≢true (sym e))

-- what a layout that is the same lays out
pub alike_by : {E : Type 0} {L : Type 0} (of : L → Layout) (k : Layout) (v : Plain) (r : Result L E) → IfOk r (λ l. of l ≡ k) → IfOk r (λ l. laid (of l) v ≡ laid k v)
alike_by of k v (Ok l) e = ap (λ (m : Layout). laid m v) e
alike_by of k v (Err err) e = tt
