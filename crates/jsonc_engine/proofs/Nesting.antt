-- What a command leaves is a document within the depth of a parse, which `check` accepts.
use Rattle.std.proofs.Common.{◌≡◌, ◌≤◌, ◌∙◌, ◌↔◌, ◌++◌, ℕ, zero, suc, Bool, true, false, List, [], ◌∷◌, Option, Some, None, IsUtf8, chars, refl, sym, ap, subst, arith}
use Rattle.std.proofs.lemmas.Str.{IsUtf8-append, IsUtf8-nil}
use Rattle.std.specs.List.{flat_map}
use Rattle.jsonc_text.specs.Documents.{Document}
use Rattle.jsonc_text.specs.Grammar.{IsDocument}
use Rattle.jsonc_text.specs.Options.{Options, all_on}
use Rattle.jsonc_text.specs.Plain as plain
use Rattle.jsonc_text.specs.Plain.{Plain, Items, no_items, item, Members, no_members, member, array, around}
use Rattle.jsonc_text.specs.declared.edit.Over.TheVariants.{Keep}
use Rattle.jsonc_text.specs.declared.edit.Shape.{Shape}
use Rattle.jsonc_text.specs.declared.edit.Shape.TheVariants as shape
use Rattle.jsonc_tree.specs.Content.{Content, text_of}
use Rattle.jsonc_tree.specs.OrderedTree.{OrderedTree, leaves, ordered_tree, printed}
use Rattle.jsonc_tree.specs.Tree.{Node, IsOver, IsTree}
use Rattle.jsonc_tree.specs.Values.{DocumentValueOf}
use Rattle.jsonc_sound.specs.Documents.{Shows, document_of}
use Rattle.jsonc_sound.specs.SoundTrees.{SoundTree}
use Rattle.jsonc_sound.proofs.ShapeValues.{document_printed}
use Rattle.jsonc_sound.proofs.Texts.{AllUtf8}
use Rattle.jsonc_edit.proofs.SoundValues.{prints_value}
use Rattle.jsonc_edit.proofs.Uniqueness.{element_parent, over_at, path_once}
use Rattle.jsonc_edit.specs.Paths.{IsAt, IsElementOf}
use Rattle.jsonc_edit.specs.Writing.{IsOfNumbers}
use Rattle.jsonc_insert.specs.named.Places.{IsPropertyAt, a_property}
use Rattle.jsonc_sort.specs.Rearranged.{headers_of}
use Rattle.jsonc_sort.specs.Sorting.{Headers}
use Rattle.jsonc_run.specs.Depth.{levels_in, levels_of_item, levels_of_member, needs_in}
use Rattle.jsonc_run.specs.Edits.{PlainEdit, Allows, append_element, append_property, ensure_root, rearrange, remove, set_value}
use Rattle.jsonc_run.specs.Named.{Asks, ensures_root, may_stay}
use Rattle.jsonc_run.specs.Places.{IsEntryAt}
use Rattle.jsonc_run.specs.promise.Steps.{IsStep, LeadsTo}
use Rattle.jsonc_run.specs.texts.Edits.{Operation, Run, options_behind}
use Rattle.jsonc_run.proofs.EnsuredValues.{kept_or_emptied}
use Rattle.jsonc_run.proofs.Roots.{value_stands}
use Rattle.jsonc_run.proofs.lemmas.promise.Leaves.{document_utf8}
use Rattle.jsonc_cst.specs.Document.{HasNoDeeperValue, IsWithin}
use Rattle.jsonc_parser.specs.paths.Calls.{DropsAt, FitsAt}
use Rattle.jsonc_parser.proofs.lemmas.paths.Depths.{run_within}
use Rattle.jsonc_parser.proofs.lemmas.paths.ReadBack.{drop_options, one_led, put_options}
use Rattle.jsonc_engine.specs.Appending.{AppendsLast}
use Rattle.jsonc_engine.specs.Argument.{FitsInArray, IsArgument}
use Rattle.jsonc_engine.specs.Change.{HasNumbersOf, Makes}
use Rattle.jsonc_engine.specs.Command.{Request, append, as_json, check, drop, find, get, merge, patch, print, put, remove as remove_it, set, sort}
use Rattle.jsonc_engine.specs.Input.{IsInput, IsInputOf}
use Rattle.jsonc_engine.specs.Output.{IsAccepted, IsLeft}
use Rattle.jsonc_engine.specs.Removal.{LosesFirst, SettingRemoved}
use Rattle.jsonc_engine.specs.Setting.{SetOrAppended, SetsFirst}
use Rattle.jsonc_engine.specs.Settings.{DropsSetting, PutsSetting}
use Rattle.jsonc_engine.specs.Sorting.{SortsByName}

-- as was decided, a value is nested no deeper than texts are parsed, or it is
pub fits_in_array : (v : Plain) (limit : ℕ) (b : Bool) → limit ≡ 511 → (b ≡ true) ↔ (around v ≤ limit) → b ≡ true → FitsInArray v
fits_in_array v limit b is h e = let small : around v ≤ limit = h.0 e in omega (arith, is, small)

pub too_deep_in_array : (v : Plain) (limit : ℕ) (b : Bool) → limit ≡ 511 → (b ≡ true) ↔ (around v ≤ limit) → b ≡ false → ¬ (FitsInArray v)
too_deep_in_array v limit b is h e = λ (fits : FitsInArray v). (let wrong : false ≡ true = sym e ∙ h.1 (omega (arith, is, fits)) in cc)

pub fits_in_object : (name : List ℕ) (v : Plain) (limit : ℕ) (b : Bool) → limit ≡ 510 → (b ≡ true) ↔ (around v ≤ limit) → b ≡ true → FitsAt (name ∷ []) v
fits_in_object name v limit b is h e = let small : around v ≤ limit = h.0 e in omega (arith, is, small)

pub too_deep_in_object : (name : List ℕ) (v : Plain) (limit : ℕ) (b : Bool) → limit ≡ 510 → (b ≡ true) ↔ (around v ≤ limit) → b ≡ false → ¬ (FitsAt (name ∷ []) v)
too_deep_in_object name v limit b is h e = λ (fits : FitsAt (name ∷ []) v). (let wrong : false ≡ true = sym e ∙ h.1 (omega (arith, is, fits)) in cc)

-- what leaves of characters print is characters
utf8_all : (row : List Content) → AllUtf8 row → IsUtf8 (flat_map text_of row)
utf8_all [] u = IsUtf8-nil
utf8_all (content ∷ rest) u = IsUtf8-append (text_of content) (flat_map text_of rest) u.0 (utf8_all rest u.1)

-- the nodes show a document of the options that is within the depth
pub record IsShown (o : Options) (ns : List Node) : Type 0 where
  pub e : Document
  pub shown : Shows e (ordered_tree ns 0)
  pub options : e.options ≡ o
  pub within : IsWithin e.value

pub accepts : (o : Options) (ns : List Node) → IsShown o ns → IsInputOf o (printed (ordered_tree ns 0))
accepts o ns s = record {
  utf8 = utf8_all (leaves (ordered_tree ns 0)) (document_utf8 s.e.options s.shown.sound.shaped);
  value = s.e.value;
  document = subst (λ (p : Options). IsDocument p (chars (printed (ordered_tree ns 0))) s.e.value) s.options (prints_value s.e.options (ordered_tree ns 0) s.e.value s.shown.sound s.shown.value);
  within = s.within;
}

-- an edit that keeps the options, writes numbers of them, and nothing too deep
record IsFit (o : Options) (w : Option Plain) (asked : PlainEdit) : Type 0 where
  same : (op : Operation) → Asks w asked op → options_behind o op ≡ o
  allows : Allows o asked
  small : needs_in w asked ≤ 512

led : (o : Options) (ns new : List Node) (s : IsShown o ns) (asked : PlainEdit) → IsFit o s.e.value asked → LeadsTo s.e asked new → IsShown o new
led o ns new s asked fit leads =
    let l = leads (subst (λ (p : Options). Allows p asked) (sym s.options) fit.allows) in
    record {
      e = l.0;
      shown = l.1;
      options = one_led l.4 refl ∙ ap (λ (p : Options). options_behind p l.2) s.options ∙ fit.same l.2 l.3;
      within = run_within asked l.3 l.4 fit.small s.within;
    }

by_step : (o : Options) (ns new : List Node) (s : IsShown o ns) {P : Type 0} (At : List Node → P → ℕ → Type 0) (asked : P → PlainEdit) (n : ℕ) → IsOver ns 0 n → IsStep At asked ns new n
    → ((place : P) → At ns place n → IsFit o s.e.value (asked place)) → IsShown o new
by_step o ns new s At asked n over step fit =
    let l = step over s.e s.shown in
    led o ns new s (asked l.0) (fit l.0 l.1) l.2

fit_remove : (o : Options) (w : Option Plain) (path : List ℕ) → IsFit o w (remove path)
fit_remove o w path = record { same = λ op (there, is). ap (options_behind o) is; allows = tt; small = omega arith }

ensured_options : (o : Options) (s : Shape) (path : List ℕ) (stays : Bool) → options_behind o (kept_or_emptied s path stays) ≡ o
ensured_options o s path true = refl
ensured_options o s path false = refl

fit_ensure : (o : Options) (w : Option Plain) (s : Shape) → IsFit o w (ensure_root s Keep)
fit_ensure o None s = record { same = λ op is. ap (options_behind o) is; allows = tt; small = omega arith }
fit_ensure o (Some v) s = record { same = λ op is. ap (options_behind o) is ∙ ensured_options o s [] (may_stay s Keep v); allows = tt; small = omega arith }

-- no container is around a document's value, and at most an object and a property around that of its entries
levels_none : (w : Option Plain) → levels_in [] w ≡ 0
levels_none None = refl
levels_none (Some v) = refl

no_item_levels : (i : ℕ) (vs : Items) → levels_of_item [] i vs ≡ 0
no_item_levels i no_items = refl
no_item_levels zero (item v vs) = refl
no_item_levels (suc i) (item v vs) = no_item_levels i vs

no_member_levels : (i : ℕ) (ms : Members) → levels_of_member [] i ms ≡ 0
no_member_levels i no_members = refl
no_member_levels zero (member name v ms) = refl
no_member_levels (suc i) (member name v ms) = no_member_levels i ms

entry_levels : (i : ℕ) (w : Option Plain) → levels_in (i ∷ []) w ≤ 2
entry_levels i None = omega arith
entry_levels i (Some (array vs)) = omega (arith, no_item_levels i vs)
entry_levels i (Some (plain.object ms)) = omega (arith, no_member_levels i ms)
entry_levels i (Some v) = omega arith

fit_append : (o : Options) (w : Option Plain) (path : List ℕ) (v : Plain) → path ≡ [] → IsOfNumbers o v → FitsInArray v → IsFit o w (append_element path v)
fit_append o w path v is numbers fits =
    let none : levels_in path w ≡ 0 = ap (λ (p : List ℕ). levels_in p w) is ∙ levels_none w in
    let small : around (array (item v no_items)) ≤ 512 = fits in
    record { same = λ op (vs, i, stands, far, is). ap (options_behind o) is; allows = numbers; small = omega (arith, none, small) }

fit_insert : (o : Options) (w : Option Plain) (path name : List ℕ) (v : Plain) → path ≡ [] → IsOfNumbers o v → FitsAt (name ∷ []) v → IsFit o w (append_property path name v)
fit_insert o w path name v is numbers fits =
    let none : levels_in path w ≡ 0 = ap (λ (p : List ℕ). levels_in p w) is ∙ levels_none w in
    let small : around (plain.object (member name v no_members)) ≤ 512 = fits in
    record { same = λ op (ms, i, stands, far, is). ap (options_behind o) is; allows = numbers; small = omega (arith, none, small) }

fit_set : (o : Options) (w : Option Plain) (path : List ℕ) (i : ℕ) (name : List ℕ) (v : Plain) → path ≡ i ∷ [] → IsOfNumbers o v → FitsAt (name ∷ []) v → IsFit o w (set_value path v)
fit_set o w path i name v is numbers fits =
    let same : levels_in path w ≡ levels_in (i ∷ []) w = ap (λ (p : List ℕ). levels_in p w) is in
    let small : around (plain.object (member name v no_members)) ≤ 512 = fits in
    record { same = λ op (there, is). ap (options_behind o) is; allows = numbers; small = omega (arith, same, entry_levels i w, small) }

fit_order : (o : Options) (w : Option Plain) (path : List ℕ) (h : Headers) (order : List ℕ) → IsFit o w (rearrange true path h order)
fit_order o w path h order = record { same = λ op (there, is). ap (options_behind o) is; allows = tt; small = omega arith }

module _ (o : Options) (old new : List Node) where
  -- what was set in the object
  module _ (made : List Node) (tree : IsTree made) (s : IsShown o made) (name : List ℕ) (v : Plain) (numbers : IsOfNumbers o v) (fits : FitsAt (name ∷ []) v) (c : ℕ) (at : IsAt made [] c) where
    path_of : (i p : ℕ) → IsElementOf made c i p → (path : List ℕ) → IsPropertyAt made path p → (k : ℕ) × (path ≡ k ∷ [])
    path_of i p element _ (a_property front a k there inside) =
        let one : Some a ≡ Some c = sym (element_parent made tree a k p inside.element) ∙ element_parent made tree c i p element in
        let it : a ≡ c = cc in
        (k, ap (λ (l : List ℕ). l ++ k ∷ []) (path_once made tree front [] c (subst (IsAt made front) it there) at))

    set_so : (p : Option ℕ) → SetOrAppended name v made new c p → IsShown o new
    set_so (Some p) h =
        by_step o made new s IsPropertyAt (λ path. set_value path v) p (IsOver.above (element_parent made tree c h.i p h.element) (over_at made tree [] c at)) h.step
        (λ path there. (let k = path_of h.i p h.element path there in fit_set o s.e.value path k.0 name v k.1 numbers fits))
    set_so None h =
        by_step o made new s IsAt (λ path. append_property path name v) c (over_at made tree [] c at) h.step
        (λ path there. fit_insert o s.e.value path name v (path_once made tree path [] c there at) numbers fits)

  module _ (before : IsShown o old) where
    sets : (name : List ℕ) (v : Plain) → IsOfNumbers o v → SetsFirst name v old new → IsShown o new
    sets name v numbers h =
        let first : IsShown o h.made = led o old h.made before (ensure_root shape.Object Keep) (fit_ensure o before.e.value shape.Object) (h.first before.e before.shown) in
        set_so h.made h.tree first name v numbers h.fits h.x.number (value_stands h.made h.tree h.x.number h.value) h.property h.set

    appends : (v : Plain) → IsOfNumbers o v → AppendsLast v old new → IsShown o new
    appends v numbers h =
        let first : IsShown o h.made = led o old h.made before (ensure_root shape.Array Keep) (fit_ensure o before.e.value shape.Array) (h.first before.e before.shown) in
        let at : IsAt h.made [] h.x.number = value_stands h.made h.tree h.x.number h.value in
        by_step o h.made new first IsAt (λ path. append_element path v) h.x.number (over_at h.made h.tree [] h.x.number at) h.step
        (λ path there. fit_append o first.e.value path v (path_once h.made h.tree path [] h.x.number there at) numbers h.fits)

    loses_so : IsTree old → (c : ℕ) → IsAt old [] c → (found : Option ℕ) → SettingRemoved old new c found → IsShown o new
    loses_so tree c at None h = subst (IsShown o) (sym h) before
    loses_so tree c at (Some n) h =
        by_step o old new before IsEntryAt remove n (IsOver.above (element_parent old tree c h.i n h.element) (over_at old tree [] c at)) h.step (λ path there. fit_remove o before.e.value path)

    loses : IsTree old → (name : List ℕ) → LosesFirst name old new → IsShown o new
    loses tree name h = loses_so tree h.c (value_stands old tree h.c h.value) h.found h.removed

    sorts : IsTree old → SortsByName old new → IsShown o new
    sorts tree h =
        by_step o old new before IsAt (λ path. rearrange true path (headers_of [] false) h.order) h.c (over_at old tree [] h.c (value_stands old tree h.c h.value)) h.step
        (λ path there. fit_order o before.e.value path (headers_of [] false) h.order)

  -- a document that the old nodes show is within the depth, as the text that they print is
  module _ (small : HasNoDeeperValue o (printed (ordered_tree old 0))) where
    within_old : (d : Document) → d.options ≡ o → Shows d (ordered_tree old 0) → IsWithin d.value
    within_old d is shown =
        small d.value (subst (λ (p : Options). IsDocument p (chars (printed (ordered_tree old 0))) d.value) is (prints_value d.options (ordered_tree old 0) d.value shown.sound shown.value))

    puts : (v : Plain) (names : List (List ℕ)) → IsOfNumbers o v → PutsSetting o v names old new → IsShown o new
    puts v names numbers h =
        let d : Document = h.one.document in
        let l = h.puts.4 (subst (λ (p : Options). IsOfNumbers p v) (sym h.one.options) numbers) in
        record {
          e = l.0;
          shown = l.1;
          options = one_led l.2.edited refl ∙ put_options d.options l.2.op h.puts.2 l.2.asked ∙ h.one.options;
          within = l.2.within h.fits (within_old d h.one.options h.one.shown);
        }

    drops_so : (d : Document) → d.options ≡ o → Shows d (ordered_tree old 0) → (names : List (List ℕ)) (done : Bool) → DropsAt d names old new done → IsShown o new
    drops_so d is shown names true h = record {
      e = h.3;
      shown = h.4;
      options = one_led h.5.edited refl ∙ drop_options d.options h.5.op h.1 h.5.asked ∙ is;
      within = h.5.within (within_old d is shown);
    }
    drops_so d is shown names false h = subst (IsShown o) (sym h.0) (record { e = d; shown = shown; options = is; within = within_old d is shown })

    drops : (names : List (List ℕ)) → DropsSetting o names old new → IsShown o new
    drops names h = drops_so h.one.document h.one.options h.one.shown names h.done h.drops

    module _ (tree : IsTree old) (sound : SoundTree o (ordered_tree old 0)) where
      pub before_it : IsShown o old
      before_it =
          let t = document_printed o (ordered_tree old 0) sound.shaped sound.lines in
          let shown : Shows (document_of o (ordered_tree old 0) t.0) (ordered_tree old 0) = record { sound = sound; value = t.2; is = refl } in
          record { e = document_of o (ordered_tree old 0) t.0; shown = shown; options = refl; within = small t.0 t.1 }

      left_so : (request : Request) → HasNumbersOf o request → Makes o request old new → IsShown o new
      left_so check numbers h = absurd h
      left_so print numbers h = absurd h
      left_so (set name json) numbers (v, argument, h) = sets before_it (chars name) v (numbers json refl v argument) h
      left_so (append json) numbers (v, argument, h) = appends before_it v (numbers json refl v argument) h
      left_so (remove_it name) numbers h = loses before_it tree (chars name) h
      left_so sort numbers h = sorts before_it tree h
      left_so (get path) numbers h = absurd h
      left_so (find pointer) numbers h = absurd h
      left_so (patch text most) numbers h = absurd h
      left_so (merge text) numbers h = absurd h
      left_so as_json numbers h = absurd h
      left_so (put path json) numbers (names, v, is, argument, h) = puts v names (numbers json refl v argument) h
      left_so (drop path) numbers (names, is, h) = drops names h

-- what a command leaves of a sound document within the depth is accepted
pub accepted_after : (o : Options) (old new : List Node) → IsTree old → SoundTree o (ordered_tree old 0) → HasNoDeeperValue o (printed (ordered_tree old 0)) → (request : Request) → Makes o request old new
    → HasNumbersOf o request → IsInputOf o (printed (ordered_tree new 0))
accepted_after o old new tree sound small request makes numbers = accepts o new (left_so o old new small tree sound request numbers makes)

-- the program's options allow all numbers that a command's text has
all_numbers : (request : Request) → HasNumbersOf all_on request
all_numbers request json is v argument = argument.writable.numbers

-- so it is of all that the program writes, but for a value that is got and JSON
pub accepted_again : (A : Type 0) (request : Request) (input text : List ℕ) → IsInput input → IsLeft A all_on request input text → IsAccepted request text
accepted_again A check input text accepted same = subst IsInput (sym same) accepted
accepted_again A print input text accepted same = subst IsInput (sym same) accepted
accepted_again A (get path) input text accepted left = tt
accepted_again A (find pointer) input text accepted left = tt
accepted_again A (patch words most) input text accepted left = left.made.so.accepted
accepted_again A (merge words) input text accepted left = left.made.so.accepted
accepted_again A as_json input text accepted left = tt
accepted_again A (set name json) input text accepted left = left.accepted (all_numbers (set name json))
accepted_again A (append json) input text accepted left = left.accepted (all_numbers (append json))
accepted_again A (remove_it name) input text accepted left = left.accepted (all_numbers (remove_it name))
accepted_again A sort input text accepted left = left.accepted (all_numbers sort)
accepted_again A (put path json) input text accepted left = left.accepted (all_numbers (put path json))
accepted_again A (drop path) input text accepted left = left.accepted (all_numbers (drop path))
