-- What the one edit that puts a value makes of the document's value.
use Rattle.std.proofs.Common.{ℕ, suc, min, ◌≡◌, ◌≤◌, ◌<◌, ◌+◌, ◌∙◌, sym, ap, subst, refl, inl, inr, List, [], ◌∷◌, ◌++◌, Option, Some, None, arith}
use Rattle.std.specs.List.{All}
use Rattle.jsonc_text.specs.Options.{Options}
use Rattle.jsonc_text.specs.Plain.{Plain, Items, Members}
use Rattle.jsonc_text.specs.Plain as plain
use Rattle.jsonc_text.specs.declared.edit.Over.{Over}
use Rattle.jsonc_text.specs.declared.edit.Over.TheVariants.{Replace}
use Rattle.jsonc_sound.specs.Changes as changes
use Rattle.jsonc_sound.specs.Changes.{Changed, ItemChanged}
use Rattle.jsonc_edit.specs.Writing.{IsOfNumbers}
use Rattle.jsonc_insert.specs.elements.Laws.{InsertsItem, ItemInserted, item_count}
use Rattle.jsonc_insert.specs.elements.Members.{MemberInserted, member_count}
use Rattle.jsonc_insert.specs.named.Members.{LacksMember}
use Rattle.jsonc_insert.proofs.lemmas.named.PathValues.{value_once}
use Rattle.jsonc_run.specs.Edits.{PlainEdit, append_element, append_property, replace, set_root, Allows, IsOfCharacters}
use Rattle.jsonc_run.specs.Named as asks
use Rattle.jsonc_run.specs.Named.{Asks, IsNamed, StandsAt}
use Rattle.jsonc_run.specs.Written.{IsChanged, by_inserting}
use Rattle.jsonc_run.specs.texts.Edits as texts
use Rattle.jsonc_run.specs.texts.Edits.{Operation}
use Rattle.jsonc_run.specs.texts.Entries.{Named}
use Rattle.jsonc_run.specs.texts.Paths.{an_array}
use Rattle.jsonc_run.proofs.lemmas.promise.Plains.{stands_there, what_stands}
use Rattle.jsonc_parser.specs.paths.Settings.{FirstAt, FirstBecomes, IsAppended, nest}
use Rattle.jsonc_parser.specs.declared.paths.which.Which.TheVariants.{First}
use Rattle.jsonc_parser.specs.patch.References.{IsIndex, IsItem, this_item, later_item}
use Rattle.jsonc_parser.specs.patch.Putting.{LeadsFirst, to_itself, by_name, by_index, LeadsAlong, IsAfterLast, IsNested, IsOtherKind, Puts, is_there, in_member, in_element, as_member, as_element, as_first, for_other, IsWrittenBy, sets_root, sets_first, replaces, appends_member, appends_element, replaces_other, IsPutBy}
use Rattle.jsonc_parser.proofs.lemmas.paths.Calls.{nest_numbers, IsNoRemark}
use Rattle.jsonc_parser.proofs.lemmas.paths.Chosen.{at_changes, at_itself, chosen_comes}
use Rattle.jsonc_parser.proofs.lemmas.paths.Leading.{appended, least, replaced, root_set, some_same}

-- what tokens lead to is there
item_itself : {v : Plain} {i : ℕ} {vs : Items} → IsItem v i vs → ItemChanged v v i vs vs
item_itself this_item = changes.this_item
item_itself (later_item p) = changes.later_item (item_itself p)

pub first_changed : {x v : Plain} {tokens : List (List ℕ)} {path : List ℕ} → LeadsFirst x tokens path v → Changed v v path x x
first_changed to_itself = changes.itself
first_changed (by_name f l) = changes.in_object (at_itself f) (first_changed l)
first_changed (by_index k p l) = changes.in_array (item_itself p) (first_changed l)

item_changes : {v was now : Plain} {i : ℕ} {vs us : Items} → IsItem v i vs → ItemChanged was now i vs us → v ≡ was
item_changes this_item changes.this_item = refl
item_changes (later_item p) (changes.later_item c) = item_changes p c

-- what is replaced at their positions is what they lead to
pub first_value : {x y v was now : Plain} {tokens : List (List ℕ)} {path : List ℕ} → LeadsFirst x tokens path v → Changed was now path x y → v ≡ was
first_value to_itself changes.itself = refl
first_value {was = was} {now = now} (by_name {path = path} f l) (changes.in_object {y = z} m c) = first_value l (subst (λ k. Changed was now path k z) (sym (at_changes f m).0) c)
first_value {was = was} {now = now} (by_index {path = path} k p l) (changes.in_array {y = z} m c) = first_value l (subst (λ k. Changed was now path k z) (sym (item_changes p m)) c)

-- where what the first tokens lead to has become what has v put at the rest, v is put at all
module _ (v : Plain) (over : Over) (rest : List (List ℕ)) where
  put_inside : {front : List (List ℕ)} {path : List ℕ} {x y z was now : Plain} → LeadsFirst x front path z → Changed was now path x y → Puts v over (Some was) rest (Some now) → Puts v over (Some x) (front ++ rest) (Some y)
  put_inside to_itself changes.itself p = p
  put_inside {was = was} {now = now} (by_name {tokens = tokens} {path = path} f l) (changes.in_object {y = z} m c) p =
      let g = at_changes f m in
      in_member g.1 (subst (λ k. Puts v over (Some k) (tokens ++ rest) (Some z)) g.0 (put_inside l (subst (λ k. Changed was now path k z) (sym g.0) c) p))
  put_inside {was = was} {now = now} (by_index {tokens = tokens} {path = path} k q l) (changes.in_array {y = z} m c) p =
      let g = item_changes q m in
      in_element k m (subst (λ k. Puts v over (Some k) (tokens ++ rest) (Some z)) g (put_inside l (subst (λ k. Changed was now path k z) (sym g) c) p))

put_there : {v x y z was : Plain} {over : Over} {tokens : List (List ℕ)} {path : List ℕ} → LeadsFirst x tokens path z → Changed was v path x y → Puts v over (Some x) tokens (Some y)
put_there to_itself changes.itself = is_there
put_there {v} {was = was} {over = over} (by_name {tokens = tokens} {path = path} f l) (changes.in_object {y = z} m c) =
    let g = at_changes f m in
    in_member g.1 (subst (λ k. Puts v over (Some k) tokens (Some z)) g.0 (put_there l (subst (λ k. Changed was v path k z) (sym g.0) c)))
put_there {v} {was = was} {over = over} (by_index {tokens = tokens} {path = path} k q l) (changes.in_array {y = z} m c) =
    let g = item_changes q m in
    in_element k m (subst (λ k. Puts v over (Some k) tokens (Some z)) g (put_there l (subst (λ k. Changed was v path k z) (sym g) c)))

-- an element that was appended
record ByElement (path : List ℕ) (v : Plain) (w y : Option Plain) : Type 0 where
  old : Plain
  new : Plain
  vs : Items
  us : Items
  is : w ≡ Some old
  now : y ≡ Some new
  comes : ItemInserted v (item_count vs) vs us
  changed : Changed (plain.array vs) (plain.array us) path old new

record Inserted (path : List ℕ) (i : ℕ) (v : Plain) (w y : Option Plain) : Type 0 where
  old : Plain
  new : Plain
  is : w ≡ Some old
  now : y ≡ Some new
  gains : InsertsItem path i v old new

inserted_there : {w y : Option Plain} {op : Operation} → IsChanged w op y → (path : List ℕ) (i : ℕ) (v : Plain) → op ≡ texts.insert an_array path i (asks.entry [] v) → Inserted path i v w y
inserted_there (by_inserting {i = j} {new = new} {x = x} {y = y} {path = p} g) path i v e =
    let a : p ≡ path = cc in
    let b : j ≡ i = cc in
    let c : new ≡ asks.entry [] v = cc in
    record {
      old = x;
      new = y;
      is = refl;
      now = refl;
      gains = subst (λ (k : Named). InsertsItem path i k.value x y) c (subst (λ k. InsertsItem path k new.value x y) b (subst (λ k. InsertsItem k j new.value x y) a g));
    }
inserted_there c path i v e = cc

array_same : (vs us : Items) → plain.array vs ≡ plain.array us → vs ≡ us
array_same vs us e = cc

object_same : (ms ns : Members) → plain.object ms ≡ plain.object ns → ms ≡ ns
object_same ms ns e = cc

element_appended : (path : List ℕ) (v : Plain) {w y : Option Plain} {op : Operation} → Asks w (append_element path v) op → IsChanged w op y → ByElement path v w y
element_appended path v {w} (vs, i, there, far, is) c =
    let m = inserted_there c path i v is in
    let stands = what_stands w there in
    let g = m.gains in
    let same : stands.0 ≡ m.old = some_same stands.0 m.old (sym stands.1 ∙ m.is) in
    let rows : vs ≡ g.old = array_same vs g.old (value_once (subst (λ k. Changed (plain.array vs) (plain.array vs) path k k) same stands.2) g.changed) in
    let behind : item_count g.old ≤ i = subst (λ l. item_count l ≤ i) rows far in
    record {
      old = m.old;
      new = m.new;
      vs = g.old;
      us = g.new;
      is = m.is;
      now = m.now;
      comes = subst (λ k. ItemInserted v k g.old g.new) (least i (item_count g.old) behind) g.comes;
      changed = g.changed;
    }

-- the edit makes what is put
module _ (v : Plain) (over : Over) where
  in_some : {w y : Option Plain} {tokens : List (List ℕ)} {x z : Plain} → w ≡ Some x → y ≡ Some z → Puts v over (Some x) tokens (Some z) → Puts v over w tokens y
  in_some {w} {y} {tokens} {x} {z} a b p = subst (λ k. Puts v over k tokens y) (sym a) (subst (Puts v over (Some x) tokens) (sym b) p)

  put_by_written : {u : Plain} {w : Option Plain} {tokens rest : List (List ℕ)} {e : PlainEdit} → IsNested rest v u → IsWrittenBy u over w tokens rest e → (y : Option Plain) (op : Operation) → Asks w e op → IsChanged w op y
      → Puts v over w tokens y
  put_by_written {u} {w} n sets_root y op a c = subst (Puts v over w []) (sym (root_set w c u a ∙ ap (λ k. Some k) n.1)) is_there
  put_by_written {u} {w} n (sets_first {token = token} {rest = rest} none) y op a c =
      subst (λ k. Puts v over k (token ∷ rest) y) (sym none) (subst (Puts v over None (token ∷ rest)) (sym (root_set w c u a)) (as_first n))
  put_by_written {u} {w} n (replaces {token = token} {rest = rest} {path = path} (x, is, l)) y op a c =
      let b = replaced c path u a.1 in
      let same : b.old ≡ x = some_same b.old x (sym b.is ∙ is) in
      let changed = subst (λ k. Changed b.was k path x b.new) n.1 (subst (λ k. Changed b.was u path k b.new) same b.changed) in
      in_some is b.now (put_there l changed)
  put_by_written {u} {w} n (appends_member front rest {name = name} {path = path} {ms = ms} (x, is, l) lacks) y op a c =
      let b = appended path name u a c in
      let same : b.old ≡ x = some_same b.old x (sym b.is ∙ is) in
      let changed = subst (λ k. Changed (plain.object b.ms) (plain.object b.ns) path k b.new) same b.changed in
      let inner : ms ≡ b.ms = object_same ms b.ms (first_value l changed) in
      in_some is b.now (put_inside v over (name ∷ rest) l changed (as_member n (chosen_comes First refl (subst (LacksMember name) inner lacks) b.comes)))
  put_by_written {u} {w} n (appends_element front rest {token = token} {path = path} {vs = vs} (x, is, l) end) y op a c =
      let b = element_appended path u a c in
      let same : b.old ≡ x = some_same b.old x (sym b.is ∙ is) in
      let changed = subst (λ k. Changed (plain.array b.vs) (plain.array b.us) path k b.new) same b.changed in
      let inner : vs ≡ b.vs = array_same vs b.vs (first_value l changed) in
      in_some is b.now (put_inside v over (token ∷ rest) l changed (as_element n (subst (λ k. IsAfterLast token (item_count k)) inner end) b.comes))
  put_by_written {u} {w} n (replaces_other front rest {token = token} {path = path} {x = other} (x, is, l) kind how) y op a c =
      let b = replaced c path u a.1 in
      let same : b.old ≡ x = some_same b.old x (sym b.is ∙ is) in
      let changed = subst (λ k. Changed b.was u path k b.new) same b.changed in
      let inner : other ≡ b.was = first_value l changed in
      in_some is b.now (put_inside v over (token ∷ rest) l changed (for_other n (subst (IsOtherKind token) inner kind) how))

  pub puts_by : {w : Option Plain} {tokens : List (List ℕ)} {e : PlainEdit} → IsPutBy v over w tokens e → (y : Option Plain) (op : Operation) → Asks w e op → IsChanged w op y → Puts v over w tokens y
  puts_by p y op a c = put_by_written p.nested p.written y op a c

-- it has its place, and writes numbers as v does
stands : {w : Option Plain} {tokens : List (List ℕ)} {path : List ℕ} {x : Plain} → LeadsAlong w tokens path x → StandsAt x path w
stands (x, is, l) = stands_there x is (first_changed l)

pub written_named : {u : Plain} {over : Over} {w : Option Plain} {tokens rest : List (List ℕ)} {e : PlainEdit} (count : ℕ) → IsWrittenBy u over w tokens rest e → IsNamed w count e
written_named count sets_root = tt
written_named count (sets_first none) = tt
written_named count (replaces {x = x} l) = (x, stands l)
written_named count (appends_member front rest {ms = ms} l lacks) = (ms, stands l)
written_named count (appends_element front rest {vs = vs} l end) = (vs, stands l)
written_named count (replaces_other front rest {x = x} l kind how) = (x, stands l)

written_numbers : (o : Options) {u : Plain} {over : Over} {w : Option Plain} {tokens rest : List (List ℕ)} {e : PlainEdit} → IsWrittenBy u over w tokens rest e → IsOfNumbers o u → Allows o e
written_numbers o sets_root m = m
written_numbers o (sets_first none) m = m
written_numbers o (replaces l) m = m
written_numbers o (appends_member front rest l lacks) m = m
written_numbers o (appends_element front rest l end) m = m
written_numbers o (replaces_other front rest l kind how) m = m

pub put_numbers : (o : Options) {v : Plain} {over : Over} {w : Option Plain} {tokens : List (List ℕ)} {e : PlainEdit} → IsPutBy v over w tokens e → IsOfNumbers o v → Allows o e
put_numbers o {v} p m = written_numbers o p.written (subst (IsOfNumbers o) (sym p.nested.1) (nest_numbers o p.rest v m))

pub written_no_remark : {u : Plain} {over : Over} {w : Option Plain} {tokens rest : List (List ℕ)} {e : PlainEdit} → IsWrittenBy u over w tokens rest e → IsNoRemark e
written_no_remark sets_root = (λ h. h, λ h. h)
written_no_remark (sets_first none) = (λ h. h, λ h. h)
written_no_remark (replaces l) = (λ h. h, λ h. h)
written_no_remark (appends_member front rest l lacks) = (λ h. h, λ h. h)
written_no_remark (appends_element front rest l end) = (λ h. h, λ h. h)
written_no_remark (replaces_other front rest l kind how) = (λ h. h, λ h. h)
