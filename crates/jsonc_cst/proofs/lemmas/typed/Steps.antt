-- What a call makes of the nodes is one step, of the edit that it is.
use Rattle.std.proofs.Common.{◌≡◌, ◌⊎◌, inl, inr, ℕ, Bool, true, false, List, [], length, Option, Some, None, Result, Ok, Err, OnErr, OnOk, IfOk, refl, sym, ap, subst, IsTrue}
use Rattle.jsonc_text.specs.Options.{Options}
use Rattle.jsonc_text.specs.Plain.{Plain}
use Rattle.jsonc_tree.specs.Content as content
use Rattle.jsonc_tree.specs.Content.{Content}
use Rattle.jsonc_tree.specs.OrderedTree.{ordered_tree}
use Rattle.jsonc_tree.specs.Tree.{Node, content_at, IsTree, IsOver}
use Rattle.jsonc_layout.specs.nodes.Kinds.{is_comment_at}
use Rattle.jsonc_layout.specs.nodes.Properties.{lacks_name_at, value_at}
use Rattle.jsonc_layout.specs.nodes.Siblings.{elements_at}
use Rattle.jsonc_layout.specs.lines.Kinds.{is_array_or_object}
use Rattle.jsonc_sound.specs.SoundTrees.{SoundTree}
use Rattle.jsonc_sound.specs.TreeChanges.{DocumentChanged}
use Rattle.jsonc_layout.specs.from_input.Texts.{IsCharacters, IsOfTexts}
use Rattle.jsonc_edit.proofs.lemmas.commas.InsideAlone.{stays_outside, stays_outside_in_part}
use Rattle.jsonc_edit.proofs.lemmas.commas.Documents.{keeps_document, keeps_in_part}
use Rattle.jsonc_edit.proofs.lemmas.commas.Holders.{holder_path}
use Rattle.jsonc_edit.proofs.lemmas.commas.NoneLeft.{leaves_none, leaves_none_anywhere}
use Rattle.jsonc_edit.proofs.lemmas.commas.NoneMissing.{all_anywhere, leaves_all}
use Rattle.jsonc_edit.specs.commas.InTurn.{holders, AreSetInTurn}
use Rattle.jsonc_edit.specs.Changes.{top_at}
use Rattle.jsonc_edit.specs.Comments.{CommentTaken, TakesOut}
use Rattle.jsonc_edit.specs.Paths.{IsAt}
use Rattle.jsonc_edit.specs.Reading.{IsReplaced}
use Rattle.jsonc_text.specs.declared.edit.TrailingCommaMode.{TrailingCommaMode}
use Rattle.jsonc_text.specs.declared.edit.TrailingCommaMode.TheVariants.{Never, IfMultiline}
use Rattle.jsonc_insert.specs.Inserted.{ElementPut}
use Rattle.jsonc_edit.specs.multiline.Multiline.{MadeMultiline}
use Rattle.jsonc_edit.specs.remove.Removed.{TakesElement}
use Rattle.jsonc_edit.specs.set.Booleans.{is_boolean, BooleanSet}
use Rattle.jsonc_edit.specs.set.Giving.{IsPropertyReplaced}
use Rattle.jsonc_edit.specs.set.Kinds.{FoundOrCreated, FoundOrSet}
use Rattle.jsonc_edit.specs.set.Names.{IsRenamed}
use Rattle.jsonc_edit.specs.set.PropertyValues.{HeldOrSet}
use Rattle.jsonc_text.specs.declared.edit.Over.TheVariants as over
use Rattle.jsonc_text.specs.declared.edit.Shape.{Shape}
use Rattle.jsonc_insert.specs.named.Places.{IsPropertyAt}
use Rattle.jsonc_edit.specs.set.Shapes.{is_of, empty_of}
use Rattle.jsonc_run.specs.Edits.{replace, remove, remove_comment, set_root, clear_root, replace_property, ensure_root, set_value, ensure_value, set_boolean, ensure_multiline, insert_element, append_element, rename_property, PropertyValueSet, RootSet}
use Rattle.jsonc_run.specs.Places.{IsEntryAt}
use Rattle.jsonc_run.specs.Written.{IsChangedAt}
use Rattle.jsonc_run.specs.promise.Steps.{IsCommentAt}
use Rattle.jsonc_run.proofs.lemmas.promise.CommaSteps.{commas_lead, some_commas_lead}
use Rattle.jsonc_run.proofs.lemmas.promise.Lines.{AreSet}
use Rattle.jsonc_run.proofs.lemmas.promise.NoneLeft.{anywhere, at_path}
use Rattle.jsonc_run.proofs.lemmas.promise.NoneMissing as missing
use Rattle.jsonc_run.proofs.lemmas.promise.NodePlaces.{made_leads, made_step}
use Rattle.jsonc_cst.specs.Nodes.{typed, typed_at}
use Rattle.jsonc_cst.specs.typed.Commas.{CommasSet, CommasSetInPart}
use Rattle.jsonc_cst.specs.typed.Removing.{removal_of, IsCleared}
use Rattle.jsonc_cst.specs.typed.Setting.{ValueBecomes}
use Rattle.jsonc_cst.specs.typed.Steps.{IsHolder, IsReplacing, IsReplacingProperty, IsRenamingProperty, IsRemoving, IsSettingBoolean, IsSettingRoot, IsSettingValue, IsEnsuringRoot, IsEnsuringValue, IsSpreading, IsInserting, IsAppending, IsSettingCommas, IsSettingSomeCommas, IsClearing, IsValueIn, IsWholeOrAt}
use Rattle.jsonc_cst.specs.typed.Values.{HeldBecomes}
use Rattle.jsonc_cst.specs.declared.typed.removing.Removal.TheVariants.{OfComment, OfElement}
use Rattle.jsonc_cst.proofs.lemmas.typed.Places.{comment_kind, comment_number, entry_path, holder_at, holder_place, property_path, value_path}

-- a truth value is a value, and so is an array or object
boolean_value : (ns : List Node) (n : ℕ) (c : Content) → content_at ns n ≡ c → is_boolean c ≡ true → IsValueIn ns (typed_at ns n)
boolean_value ns n (content.boolean b) is e = subst (λ c. IsValueIn ns (typed c n)) (sym is) tt
boolean_value ns n c is e = cc

module _ (old new : List Node) (tree : IsTree old) (after : IsTree new) where
  pub replaced_step : (n m : ℕ) (v : Plain) → IsOfTexts v → IsReplaced old new n v m → IsValueIn old (typed_at old n) → IsReplacing old new n v
  replaced_step n m v texts r is =
      made_step old new tree after IsAt (λ path. replace path v) n (λ path. texts) (λ o sound. value_path o old tree sound n is) (λ path over at. (n, at, (m, r)))

  pub property_replaced_step : (n m : ℕ) (name : List ℕ) (v : Plain) → IsCharacters name → IsOfTexts v → IsPropertyReplaced old new n name v m → content_at old n ≡ content.property → IsReplacingProperty old new n name v
  property_replaced_step n m name v named texts r is =
      made_step old new tree after IsPropertyAt (λ path. replace_property path name v) n (λ path. (named, texts)) (λ o sound. property_path o old tree sound n is) (λ path over at. (n, at, (m, r)))

  pub renamed_step : (n m : ℕ) (name : List ℕ) → IsCharacters name → IsRenamed old new n name m → content_at old n ≡ content.property → IsRenamingProperty old new n name
  renamed_step n m name named r is =
      made_step old new tree after IsPropertyAt (λ path. rename_property path name) n (λ path. named) (λ o sound. property_path o old tree sound n is) (λ path over at. (n, at, (m, r)))

  -- what is taken out
  pub element_step : (n : ℕ) → TakesElement old new n → removal_of (typed_at old n) ≡ OfElement → IsRemoving old new OfElement n
  element_step n taken is = λ alone.
      made_step old new tree after IsEntryAt remove n (λ path. tt) (λ o sound. entry_path o old tree sound n is alone) (λ path over at. (n, at, taken))

  comment_taken : (n : ℕ) → TakesOut old new n → IsOver old 0 n → IsTrue (is_comment_at old n) → CommentTaken old new n
  comment_taken _ taken IsOver.itself is = absurd (let wrong : IsTrue (is_comment_at old 0) = is in let root : content_at old 0 ≡ content.root = tree.root_first in cc)
  comment_taken n taken (IsOver.above {c = c} said rest) is =
      record { tree = tree; after = after; below = IsOver.above said rest; comment = is; container = c; parent = said; taken = taken c said }

  pub comment_step : (n : ℕ) → TakesOut old new n → removal_of (typed_at old n) ≡ OfComment → IsRemoving old new OfComment n
  comment_step n taken is =
      made_step old new tree after IsCommentAt remove_comment n (λ number. tt) (λ o sound. comment_number o old tree sound n is) (λ number over at. (n, at, comment_taken n taken over (comment_kind (content_at old n) n is)))

  pub cleared_step : IsCleared old new → IsClearing old new
  cleared_step cleared = made_leads old new tree after clear_root tt cleared

  -- the document's value
  root_becomes : (v : Plain) (o : Option ℕ) (m : ℕ) → ValueBecomes old new v o m → RootSet old new v o
  root_becomes v None m r = (m, r)
  root_becomes v (Some n) m r = (m, r)

  pub root_step : (v : Plain) (m : ℕ) → IsOfTexts v → ValueBecomes old new v (value_at old 0) m → IsSettingRoot old new v
  root_step v m texts r = made_leads old new tree after (set_root v) texts (root_becomes v (value_at old 0) m r)

  pub created_step : (shape : Shape) (answer : Option ℕ) → FoundOrCreated (is_of shape) (empty_of shape) old new (value_at old 0) answer → IsEnsuringRoot old new shape over.Keep
  created_step shape answer r = made_leads old new tree after (ensure_root shape over.Keep) tt (answer, r)

  pub set_step : (shape : Shape) (m : ℕ) → FoundOrSet (is_of shape) (empty_of shape) old new (value_at old 0) m → IsEnsuringRoot old new shape over.Replace
  set_step shape m r = made_leads old new tree after (ensure_root shape over.Replace) tt (m, r)

  -- the value of a property
  held_becomes : (p : ℕ) (v : Plain) (o : Option ℕ) (m : ℕ) → HeldBecomes old new p v o m → PropertyValueSet old new p v o
  held_becomes p v None m r = (m, r)
  held_becomes p v (Some n) m r = (m, r)

  pub held_step : (p : ℕ) (v : Plain) (m : ℕ) → IsOfTexts v → HeldBecomes old new p v (value_at old p) m → content_at old p ≡ content.property → IsSettingValue old new p v
  held_step p v m texts r is =
      made_step old new tree after IsPropertyAt (λ path. set_value path v) p (λ path. texts) (λ o sound. property_path o old tree sound p is) (λ path over at. (p, at, held_becomes p v (value_at old p) m r))

  pub held_shape_step : (p : ℕ) (shape : Shape) (m : ℕ) → lacks_name_at old p ≡ false → HeldOrSet (is_of shape) (empty_of shape) old new p (value_at old p) m → content_at old p ≡ content.property
      → IsEnsuringValue old new p shape
  held_shape_step p shape m named r is =
      made_step old new tree after IsPropertyAt (λ path. ensure_value path shape) p (λ path. tt) (λ o sound. property_path o old tree sound p is) (λ path over at. (p, at, (named, m, r)))

  pub boolean_step : (n : ℕ) (b : Bool) → BooleanSet old new n b → is_boolean (content_at old n) ≡ true → IsSettingBoolean old new n b
  boolean_step n b set is =
      made_step old new tree after IsAt (λ path. set_boolean path b) n (λ path. tt) (λ o sound. value_path o old tree sound n (boolean_value old n (content_at old n) refl is)) (λ path over at. (n, (at, is), set))

  -- an array or object
  pub spread_step : (n : ℕ) → MadeMultiline old new n → IsTrue (is_array_or_object (content_at old n)) → IsSpreading old new n
  spread_step n made holds =
      made_step old new tree after IsAt ensure_multiline n (λ path. tt) (λ o sound over. holder_path o old tree sound n over holds) (λ path over at. (n, (at, holds), made))

  pub inserted_step : (n i m : ℕ) (v : Plain) → IsOfTexts v → ElementPut old new n i v m → content_at old n ≡ content.array → IsInserting old new n i v
  inserted_step n i m v texts put is =
      made_step old new tree after IsAt (λ path. insert_element path i v) n (λ path. texts) (λ o sound over. holder_path o old tree sound n over (ap is_array_or_object is)) (λ path over at. (n, (at, is), (m, put)))

  pub appended_step : (n m : ℕ) (v : Plain) → IsOfTexts v → ElementPut old new n (length (elements_at old n)) v m → content_at old n ≡ content.array → IsAppending old new n v
  appended_step n m v texts put is =
      made_step old new tree after IsAt (λ path. append_element path v) n (λ path. texts) (λ o sound over. holder_path o old tree sound n over (ap is_array_or_object is)) (λ path over at. (n, (at, is), (m, put)))

-- trailing commas
module _ (old new : List Node) (tree : IsTree old) where
  commas_place : (o : Options) → SoundTree o (ordered_tree old 0) → (n : ℕ) → IsHolder (typed_at old n) → IsOver old 0 n → (path : List ℕ) → IsWholeOrAt old path n
      → ((at : IsAt old path n) → IsTrue (is_array_or_object (content_at old n)) → DocumentChanged (top_at old n) (top_at new n) path (ordered_tree old 0) (ordered_tree new 0))
      → (path ≡ []) ⊎ IsChangedAt path (ordered_tree old 0) (ordered_tree new 0)
  commas_place o sound n holder over path place changed =
      elim place [ inl whole ↦ inl whole.1 | inr at ↦ inr (top_at old n, top_at new n, changed at (holder_at o old tree sound n holder path at)) ]

  -- no trailing comma is left or none is missing, in what is at the path or in the whole document
  all_set : (mode : TrailingCommaMode) (n : ℕ) → AreSetInTurn mode old (holders old n) new → IsHolder (typed_at old n) → IsOver old 0 n → (path : List ℕ) → IsWholeOrAt old path n → (o : Options) → SoundTree o (ordered_tree old 0)
      → AreSet mode o path (ordered_tree old 0) (ordered_tree new 0)
  all_set Never n set holder over path (inl (is, whole)) o sound =
      let all : AreSetInTurn Never old (holders old 0) new = subst (λ m. AreSetInTurn Never old (holders old m) new) is set in
      anywhere whole (leaves_none_anywhere o old new (record { tree = tree; over = IsOver.itself; sound = sound }) all)
  all_set Never n set holder over path (inr at) o sound =
      let holds : IsTrue (is_array_or_object (content_at old n)) = holder_at o old tree sound n holder path at in
      at_path (top_at old n, top_at new n, stays_outside Never old n path new tree over holds at set) (leaves_none o old n new (record { tree = tree; over = over; sound = sound }) holds set)
  all_set IfMultiline n set holder over path (inl (is, whole)) o sound =
      let all : AreSetInTurn IfMultiline old (holders old 0) new = subst (λ m. AreSetInTurn IfMultiline old (holders old m) new) is set in
      let row = all_anywhere o old new (record { tree = tree; over = IsOver.itself; sound = sound }) all in
      missing.anywhere row.0 whole row.1 row.2
  all_set IfMultiline n set holder over path (inr at) o sound =
      let holds : IsTrue (is_array_or_object (content_at old n)) = holder_at o old tree sound n holder path at in
      missing.at_path (top_at old n, top_at new n, stays_outside IfMultiline old n path new tree over holds at set) (leaves_all o old n new (record { tree = tree; over = over; sound = sound }) (inr holds) set)

  pub commas_step : (mode : TrailingCommaMode) (n : ℕ) → CommasSet old new mode n → IsHolder (typed_at old n) → IsSettingCommas old new mode n
  commas_step mode n set holder = λ over d shown.
      let place = holder_place d.options old tree shown.sound n holder over in
      let within = commas_place d.options shown.sound n holder over place.0 place.1 (λ at holds. stays_outside mode old n place.0 new tree over holds at set) in
      (place.0, place.1, commas_lead mode old new (λ o sound. keeps_document mode o old n (record { tree = tree; over = over; sound = sound }) new set) place.0 within (all_set mode n set holder over place.0 place.1) d shown)

  pub some_commas_step : (mode : TrailingCommaMode) (n : ℕ) → CommasSetInPart old new mode n → IsHolder (typed_at old n) → IsSettingSomeCommas old new mode n
  some_commas_step mode n part holder = λ over d shown.
      let place = holder_place d.options old tree shown.sound n holder over in
      let within = commas_place d.options shown.sound n holder over place.0 place.1 (λ at holds. stays_outside_in_part mode old n place.0 new tree over holds at part) in
      (place.0, place.1, some_commas_lead mode old new (λ o sound. keeps_in_part mode o old n (record { tree = tree; over = over; sound = sound }) new part) place.0 within d shown)

-- what follows from what is answered is answered
pub ok_then : {T E : Type 0} {P Q : Type 0} (r : Result T E) → (P → Q) → OnOk r P → OnOk r Q
ok_then (Ok x) f h = f h
ok_then (Err e) f h = tt

pub ok_with : {T E : Type 0} {P : T → Type 0} {Q : Type 0} (r : Result T E) → ((x : T) → P x → Q) → IfOk r P → OnOk r Q
ok_with (Ok x) f h = f x h
ok_with (Err e) f h = tt

pub err_then : {T E : Type 0} {P Q : Type 0} (r : Result T E) → (P → Q) → OnErr r P → OnErr r Q
err_then (Ok x) f h = tt
err_then (Err e) f h = f h
