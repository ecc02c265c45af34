-- Where a property comes into an object of a sound tree, it comes into the text.
use Rattle.std.proofs.Common.{ℕ, suc, min, ◌≡◌, ◌∙◌, sym, ap, subst, refl, inl, inr, List, [], ◌∷◌, ◌++◌, length, Option, Some}
use Rattle.jsonc_text.specs.Options.{Options}
use Rattle.jsonc_text.specs.Plain as plain
use Rattle.jsonc_text.specs.Plain.{Plain, Members, no_members, member}
use Rattle.jsonc_tree.specs.OrderedTree.{OrderedTree, leaves}
use Rattle.jsonc_tree.specs.Values.{DocumentValueOf}
use Rattle.jsonc_sound.specs.Changes as trees
use Rattle.jsonc_sound.specs.Leaving.{element_count}
use Rattle.jsonc_run.proofs.lemmas.promise.Held.{as_many_members}
use Rattle.jsonc_insert.specs.elements.Members as laws
use Rattle.jsonc_insert.specs.elements.Members.{PropertyInsertedAt, InsertsMemberAt, MemberInserted, member_count}
use Rattle.jsonc_sound.specs.Rows.{of_properties}
use Rattle.jsonc_sound.specs.SoundTrees.{SoundTree}
use Rattle.jsonc_run.specs.Written.{IsChanged, by_inserting_member}
use Rattle.jsonc_run.specs.texts.Paths.{an_object}
use Rattle.jsonc_run.specs.texts.Entries.{Named, members, of, Changed}
use Rattle.jsonc_run.specs.texts.Stretches.{written}
use Rattle.jsonc_run.specs.texts.Layout.{IsLaidEntry}
use Rattle.jsonc_run.specs.texts.Entering.{Gains}
use Rattle.jsonc_run.proofs.lemmas.promise.LaidTexts.{is_laid_property}
use Rattle.jsonc_run.specs.texts.Edits.{insert, Does}
use Rattle.jsonc_run.proofs.lemmas.promise.Insides.{kept_texts}
use Rattle.jsonc_run.proofs.lemmas.promise.Joined.{Good, spread_good, spread_reflows, with_row}
use Rattle.jsonc_run.proofs.lemmas.promise.Leaves.{back_of, front_of}
use Rattle.jsonc_run.specs.promise.PlaceLaws.{text_of_leaves}
use Rattle.jsonc_run.proofs.lemmas.promise.Arriving.{SpreadsFrom, text_comes}
use Rattle.jsonc_run.proofs.lemmas.promise.LacksLines.{lacks_line}
use Rattle.jsonc_edit.specs.multiline.Reflows as reflows
use Rattle.jsonc_edit.specs.multiline.Reflows.{has_newline, SpreadsOut}
use Rattle.jsonc_run.proofs.lemmas.promise.Stretches.{laid_property_literals}
use Rattle.jsonc_layout.specs.from_input.Texts.{IsCharacters, IsOfTexts}
use Rattle.jsonc_insert.proofs.lemmas.elements.Marked.{kept_marks}
use Rattle.jsonc_insert.proofs.lemmas.elements.SpreadObjects.{spread_marks}
use Rattle.jsonc_run.proofs.lemmas.promise.Plains.{changed, entry_of, list_of_members, same_members}
use Rattle.jsonc_sound.specs.Documents.{document_of}
use Rattle.jsonc_run.proofs.lemmas.promise.ReflowedRows.{spread_texts}

-- the properties before and behind the one that has come
pub record MemberGained (name : List ℕ) (v : Plain) (n : ℕ) (ms ns : Members) : Type 0 where
  pub front : List Named
  pub back : List Named
  pub place : length front ≡ n
  pub before : ms ≡ members (front ++ back)
  pub after : ns ≡ members (front ++ entry_of name v ∷ back)

pub member_gained : {name : List ℕ} {v : Plain} {n : ℕ} {ms ns : Members} → MemberInserted name v n ms ns → MemberGained name v n ms ns
member_gained {name} {v} (laws.this_member {ms = ms}) = record { front = []; back = list_of_members ms; place = refl; before = sym (same_members ms); after = ap (member name v) (sym (same_members ms)) }
member_gained (laws.later_member {n = n} {w = w} k) =
    let m = member_gained k in
    record { front = entry_of n w ∷ m.front; back = m.back; place = ap suc m.place; before = ap (member n w) m.before; after = ap (member n w) m.after }

pub members_counted : (xs : List Named) → member_count (members xs) ≡ length xs
members_counted [] = refl
members_counted (x ∷ xs) = ap suc (members_counted xs)

module _ (o : Options) {t u : OrderedTree} (s : SoundTree o t) (r : SoundTree o u) {path : List ℕ} {j : ℕ} {name : List ℕ} {v : Plain} (f : IsCharacters name × IsOfTexts v) (c : PropertyInsertedAt o path j name v t u) {x y : Plain} (h : DocumentValueOf o t (Some x)) (h2 : DocumentValueOf o u (Some y)) where
  -- as many values as properties
  same_count : {old new : Members} → trees.Changed (plain.object old) (plain.object new) path x y → element_count c.row ≡ member_count old
  same_count {old} g = as_many_members o h h2 of_properties c.row c.new c.changed g ∙ sym (members_counted (list_of_members old)) ∙ ap member_count (same_members old)

  -- the object stays, or no line ended in it and it is put on several
  spread_apart : (w : Option Plain) {row spread : OrderedTree} → SpreadsOut row spread → row ≡ c.row → Good o (leaves row)
      → SpreadsFrom an_object path (document_of o t w) (with_row o of_properties (text_of_leaves (front_of c.changed)) (text_of_leaves (back_of c.changed)) (text_of_leaves (leaves row))) (with_row o of_properties (text_of_leaves (front_of c.changed)) (text_of_leaves (back_of c.changed)) (text_of_leaves (leaves spread)))
  spread_apart w (reflows.stays h) e g = inl refl
  spread_apart w (reflows.reflows h q p) e g =
      inr (lacks_line o of_properties c.row s c.changed (ap has_newline (sym e) ∙ h) w, spread_reflows o of_properties (text_of_leaves (front_of c.changed)) (text_of_leaves (back_of c.changed)) (reflows.reflows h q p) g)

  pub member_gains : {n : ℕ} {old new : Members} → trees.Changed (plain.object old) (plain.object new) path x y → (k : MemberGained name v n old new) → min j (member_count old) ≡ length k.front → Gains an_object path k.front k.back (entry_of name v) (document_of o t (Some x)) (document_of o u (Some y))
  member_gains {old = old} {new = new} g k number =
      let comes = text_comes o of_properties c.row c.kept c.new s r c.changed (Some x) (Some y) (spread_texts c.spreads ∙ kept_texts c.leave) (kept_marks c.leave ∙ spread_marks o c.spreads) refl (written an_object (entry_of name v)) (laid_property_literals c.layout name v f.0 f.1) (IsLaidEntry an_object (entry_of name v)) (is_laid_property o c.layout name v f.0 f.1) c.spread c.leave
      (λ w g. (spread_good o of_properties (text_of_leaves (front_of c.changed)) (text_of_leaves (back_of c.changed)) c.spreads g, spread_apart w c.spreads refl g)) c.comes in (
        subst (λ (p : Members). Changed (of an_object (k.front ++ k.back)) (plain.object p) path x y) k.after (subst (λ (p : Members). Changed (plain.object p) (plain.object new) path x y) k.before (changed g)),
        comes.0,
        comes.1,
        comes.2 ∙ ap (λ n. min j n) (same_count g) ∙ number,
        comes.3,
        comes.4,
        comes.5,
        comes.6,
        comes.7,
        comes.8,
        comes.9,
      )

pub property_inserted : (o : Options) (t u : OrderedTree) (w x : Option Plain) (path : List ℕ) (i : ℕ) (new : Named) → IsCharacters new.name × IsOfTexts new.value → SoundTree o t → SoundTree o u → DocumentValueOf o t w → DocumentValueOf o u x → IsChanged w (insert an_object path i new) x
    → PropertyInsertedAt o path i new.name new.value t u → Does (document_of o t w) (insert an_object path i new) (document_of o u x)
property_inserted o t u _ _ path i new f s r h h2 (by_inserting_member gains) c =
    let k = member_gained gains.comes in
    (k.front, k.back, k.place ∙ ap (λ n. min i n) (ap member_count k.before ∙ members_counted (k.front ++ k.back)), member_gains o s r f c h h2 gains.changed k (sym k.place))
