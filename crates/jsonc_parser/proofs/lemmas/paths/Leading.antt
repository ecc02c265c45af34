-- What an operation at the positions that names lead over makes of a value.
use Rattle.std.proofs.Common.{ℕ, suc, min, ◌≡◌, ◌≤◌, ◌∙◌, sym, ap, subst, refl, List, [], ◌∷◌, ◌++◌, Option, Some, None, arith}
use Rattle.jsonc_text.specs.Plain.{Plain, Items, Members, no_members, member}
use Rattle.jsonc_text.specs.Plain as plain
use Rattle.jsonc_text.specs.declared.edit.Over.{Over}
use Rattle.jsonc_text.specs.declared.edit.Over.TheVariants.{Replace}
use Rattle.jsonc_parser.specs.paths.Operations.{Changed, itself, in_array, in_object, MemberRemoved, LosesEntry, loses_item, loses_member, MemberInserted, member_count, InsertsMemberAt, LacksMember, Operation, PlainEdit, append_property, Asks, IsChanged, by_value, by_first, by_inserting_member, by_entry, by_all, StandsAt, IsNamed}
use Rattle.jsonc_sound.specs.Values as removed
use Rattle.jsonc_insert.proofs.lemmas.named.PathValues.{value_once}
use Rattle.jsonc_run.specs.Named as asks
use Rattle.jsonc_run.specs.texts.Edits as texts
use Rattle.jsonc_run.specs.texts.Entries.{Named}
use Rattle.jsonc_run.specs.texts.Paths.{an_object}
use Rattle.jsonc_run.proofs.lemmas.promise.Plains.{stands_there, what_stands}
use Rattle.jsonc_parser.specs.paths.Settings as settings
use Rattle.jsonc_parser.specs.paths.Settings.{FirstAt, this_at, later_at, FirstIs, this_one, later_one, FirstBecomes, this_becomes, later_becomes, FirstIsRemoved, this_removed, later_removed, IsAppended, appended_alone, appended_after, At, nest, IsNoObject, Put, is_there, changes_inside, is_appended, is_nested, gives_way, Dropped, value_dropped, property_dropped, dropped_inside}
use Rattle.jsonc_parser.specs.paths.Which.{IsChosenAt, seen, seen_if, seen_members}
use Rattle.jsonc_parser.specs.declared.paths.which.Which.{Which}
use Rattle.jsonc_parser.specs.declared.paths.which.Which.TheVariants.{First}
use Rattle.jsonc_parser.proofs.lemmas.paths.Chosen.{at_changes, chosen_changes, chosen_comes, chosen_first, chosen_itself, chosen_within, seen_nest, seen_none, seen_object, seen_other, seen_some}
use Rattle.jsonc_parser.specs.paths.Positions.{Leads, leads_nowhere, leads_on, IsPutBy, sets_root, sets_first, sets_value, appends, replaces, IsDroppedBy, removes, LeadToWhatIsThere, PutsByIt, DropsByIt}

-- no names lead over no positions
pub no_path : {which : Which} {names : List (List ℕ)} {path : List ℕ} {x v : Plain} → Leads which names path x v → names ≡ [] → path ≡ []
no_path leads_nowhere e = refl
no_path (leads_on {name = name} {names = names} f l) e = cc

-- the property of a number that is the first of its name is what was removed
at_leaves : {name : List ℕ} {v : Plain} {i : ℕ} {ms ns : Members} → FirstAt name v i ms → MemberRemoved i ms ns → FirstIsRemoved name ms ns
at_leaves this_at removed.this_member = this_removed
at_leaves (later_at ne f) (removed.later_member c) = later_removed ne (at_leaves f c)

first_at : {name : List ℕ} {v : Plain} {ms : Members} → FirstIs name v ms → (i : ℕ) × FirstAt name v i ms
first_at this_one = (0, this_at)
first_at (later_one ne f) = let g = first_at f in (suc g.0, later_at ne g.1)

-- what names lead to is there, and the other way round
pub leads_at : {which : Which} {names : List (List ℕ)} {path : List ℕ} {x v : Plain} → Leads which names path x v → At (Some (seen which x)) names (seen which v)
leads_at leads_nowhere = settings.itself
leads_at {which} {v = v} (leads_on {name = name} {names = names} {i = i} {ms = ms} {x = x} f l) =
    subst (λ x. At (Some x) (name ∷ names) (seen which v)) (sym (seen_object which ms)) (settings.in_object (chosen_first which name x i ms f) (leads_at l))

at_leads : {names : List (List ℕ)} {w : Option Plain} {v : Plain} → At w names v → (x : Plain) × (w ≡ Some x) × (path : List ℕ) × Leads First names path x v
at_leads (settings.itself {v = v}) = (v, refl, [], leads_nowhere)
at_leads (settings.in_object {names = names} {ms = ms} {x = x} {v = v} f a) =
    let l = at_leads a in
    let same : l.0 ≡ x = (let e : Some x ≡ Some l.0 = l.1 in cc) in
    let i = first_at f in
    (plain.object ms, refl, i.0 ∷ l.2, leads_on i.1 (subst (λ k. Leads First names l.2 k v) same l.3))

-- at the positions that names lead over is what they lead to
pub leads_changed : {which : Which} {names : List (List ℕ)} {path : List ℕ} {x v : Plain} → Leads which names path x v → Changed v v path x x
leads_changed leads_nowhere = itself
leads_changed {which} (leads_on {name = name} {i = i} {ms = ms} {x = x} f l) = in_object (chosen_itself which name x i ms f) (leads_changed l)

pub leads_value : {which : Which} {names : List (List ℕ)} {path : List ℕ} {x y v was now : Plain} → Leads which names path x v → Changed was now path x y → v ≡ was
leads_value leads_nowhere itself = refl
leads_value {which} {v = v} {was = was} {now = now} (leads_on {path = path} f l) (in_object {y = z} m c) =
    let same = (chosen_changes which f m).0 in
    leads_value l (subst (λ k. Changed was now path k z) (sym same) c)

-- an object in which the one that is chosen has become another, as it is seen
inside_seen : (which : Which) (v : Plain) (over : Over) (name : List ℕ) (names : List (List ℕ)) (ms ns : Members) (x y : Plain) → FirstBecomes name (seen which x) (seen which y) (seen_members which ms) (seen_members which ns)
    → Put v over (Some (seen which x)) names (Some (seen which y)) → Put v over (Some (seen which (plain.object ms))) (name ∷ names) (Some (seen which (plain.object ns)))
inside_seen which v over name names ms ns x y b p =
    subst (λ k. Put v over (Some k) (name ∷ names) (Some (seen which (plain.object ns)))) (sym (seen_object which ms))
    (subst (λ k. Put v over (Some (plain.object (seen_members which ms))) (name ∷ names) (Some k)) (sym (seen_object which ns)) (changes_inside b p))

-- where what they lead to has become what has v put at the rest of the names, v is put at all
module _ (which : Which) (v : Plain) (over : Over) (rest : List (List ℕ)) where
  put_inside : {front : List (List ℕ)} {path : List ℕ} {x y z was now : Plain} → Leads which front path x z → Changed was now path x y → Put v over (Some (seen which was)) rest (Some (seen which now))
      → Put v over (Some (seen which x)) (front ++ rest) (Some (seen which y))
  put_inside leads_nowhere itself p = p
  put_inside {was = was} {now = now} (leads_on {name = name} {names = names} {path = path} {ms = ms} f l) (in_object {x = u} {y = z} {ns = ns} m c) p =
      let g = chosen_changes which f m in
      inside_seen which v over name (names ++ rest) ms ns u z g.1 (subst (λ k. Put v over (Some (seen which k)) (names ++ rest) (Some (seen which z))) g.0 (put_inside l (subst (λ k. Changed was now path k z) (sym g.0) c) p))

module _ (rest : List (List ℕ)) where
  drop_inside : {front : List (List ℕ)} {path : List ℕ} {x y z was now : Plain} → Leads First front path x z → Changed was now path x y → Dropped (Some was) rest (Some now)
      → Dropped (Some x) (front ++ rest) (Some y)
  drop_inside leads_nowhere itself d = d
  drop_inside {was = was} {now = now} (leads_on {names = names} {path = path} f l) (in_object {y = z} m c) d =
      let g = at_changes f m in
      dropped_inside g.1 (subst (λ k. Dropped (Some k) (names ++ rest) (Some z)) g.0 (drop_inside l (subst (λ k. Changed was now path k z) (sym g.0) c) d))

-- the value at the path has become another, where all names lead to it
put_there : {which : Which} {v : Plain} {over : Over} {names : List (List ℕ)} {path : List ℕ} {x y z was : Plain} → Leads which names path x z → Changed was v path x y
    → Put (seen which v) over (Some (seen which x)) names (Some (seen which y))
put_there leads_nowhere itself = is_there
put_there {which} {v} {over} {was = was} (leads_on {name = name} {names = names} {path = path} {ms = ms} f l) (in_object {x = u} {y = z} {ns = ns} m c) =
    let g = chosen_changes which f m in
    inside_seen which (seen which v) over name names ms ns u z g.1 (subst (λ k. Put (seen which v) over (Some (seen which k)) names (Some (seen which z))) g.0 (put_there l (subst (λ k. Changed was v path k z) (sym g.0) c)))

-- the last of the names, where they lead over a path with a last step
record LastName (which : Which) (names : List (List ℕ)) (path : List ℕ) (i : ℕ) (x v : Plain) : Type 0 where
  front : List (List ℕ)
  name : List ℕ
  ms : Members
  is : names ≡ front ++ name ∷ []
  leads : Leads which front path x (plain.object ms)
  at : IsChosenAt which name v i ms

last_name : {which : Which} {names : List (List ℕ)} {all : List ℕ} {x v : Plain} → Leads which names all x v → (path : List ℕ) (i : ℕ) → all ≡ path ++ i ∷ [] → LastName which names path i x v
last_name leads_nowhere [] i e = cc
last_name leads_nowhere (j ∷ path) i e = cc
last_name {which} (leads_on {name = name} {i = k} {ms = ms} {x = x} f leads_nowhere) [] i e =
    let same : k ≡ i = cc in
    record { front = []; name = name; ms = ms; is = refl; leads = leads_nowhere; at = subst (λ j. IsChosenAt which name x j ms) same f }
last_name (leads_on f (leads_on {i = j} {path = q} g l)) [] i e = cc
last_name {which} (leads_on {name = name} {names = names} {i = k} {path = q} {ms = ms} f l) (j ∷ path) i e =
    let same : k ≡ j = cc in
    let rest : q ≡ path ++ i ∷ [] = cc in
    let inner = last_name l path i rest in
    record {
      front = name ∷ inner.front;
      name = inner.name;
      ms = inner.ms;
      is = ap (λ r. name ∷ r) inner.is;
      leads = subst (λ h. Leads which (name ∷ inner.front) (h ∷ path) (plain.object ms) (plain.object inner.ms)) same (leads_on f inner.leads);
      at = inner.at;
    }

-- an entry that names lead to was removed from an object, and is the first of its name
object_no_array : (ms : Members) (vs : Items) → plain.object ms ≡ plain.array vs → ⊥
object_no_array ms vs e = cc

object_same : (ms ns : Members) → plain.object ms ≡ plain.object ns → ms ≡ ns
object_same ms ns e = cc

entry_dropped : {names : List (List ℕ)} {path : List ℕ} {i : ℕ} {x y was : Plain} → LastName First names path i x was → LosesEntry path i x y → Dropped (Some x) names (Some y)
entry_dropped n (loses_item {vs = vs} r c) = absurd (object_no_array n.ms vs (leads_value n.leads c))
entry_dropped {x = x} {y = y} {was = was} n (loses_member {ms = ms} {ns = ns} r c) =
    let same : n.ms ≡ ms = object_same n.ms ms (leads_value n.leads c) in
    let left = at_leaves (subst (λ k. FirstAt n.name was _ k) same n.at) r in
    subst (λ k. Dropped (Some x) k (Some y)) (sym n.is) (drop_inside (n.name ∷ []) n.leads c (property_dropped left))

-- what an operation made, by its kind
pub record ByValue (path : List ℕ) (v : Plain) (w y : Option Plain) : Type 0 where
  pub old : Plain
  pub new : Plain
  pub was : Plain
  pub is : w ≡ Some old
  pub now : y ≡ Some new
  pub changed : Changed was v path old new

pub replaced : {w y : Option Plain} {op : Operation} → IsChanged w op y → (path : List ℕ) (v : Plain) → op ≡ texts.replace path v → ByValue path v w y
replaced (by_value {given_up = was} {v = u} {x = x} {y = y} {path = p} c) path v e =
    let a : p ≡ path = cc in
    let b : u ≡ v = cc in
    record { old = x; new = y; was = was; is = refl; now = refl; changed = subst (λ k. Changed was k path x y) b (subst (λ k. Changed was u k x y) a c) }
replaced c path v e = cc

whole : {was now : Plain} {path : List ℕ} {x y : Plain} → Changed was now path x y → path ≡ [] → y ≡ now
whole itself e = refl
whole (in_array h c) e = cc
whole (in_object h c) e = cc

pub first_set : {w y : Option Plain} {op : Operation} → IsChanged w op y → (v : Plain) → op ≡ texts.come_first v → y ≡ Some v
first_set (by_first {v = u}) v e = let b : u ≡ v = cc in ap Some b
first_set c v e = cc

pub root_set : (w : Option Plain) {y : Option Plain} {op : Operation} → IsChanged w op y → (v : Plain) → op ≡ asks.sets_root w v → y ≡ Some v
root_set None c v e = first_set c v e
root_set (Some x) c v e = let b = replaced c [] v e in b.now ∙ ap Some (whole b.changed refl)

pub record ByMember (path name : List ℕ) (v : Plain) (w y : Option Plain) : Type 0 where
  pub old : Plain
  pub new : Plain
  pub ms : Members
  pub ns : Members
  pub is : w ≡ Some old
  pub now : y ≡ Some new
  pub comes : MemberInserted name v (member_count ms) ms ns
  pub changed : Changed (plain.object ms) (plain.object ns) path old new

pub least : (i n : ℕ) → n ≤ i → min i n ≡ n
least i n h = omega (arith, h)

record Inserted (path : List ℕ) (i : ℕ) (name : List ℕ) (v : Plain) (w y : Option Plain) : Type 0 where
  old : Plain
  new : Plain
  is : w ≡ Some old
  now : y ≡ Some new
  gains : InsertsMemberAt path i name v old new

inserted_there : {w y : Option Plain} {op : Operation} → IsChanged w op y → (path : List ℕ) (i : ℕ) (name : List ℕ) (v : Plain) → op ≡ texts.insert an_object path i (asks.entry name v) → Inserted path i name v w y
inserted_there (by_inserting_member {i = j} {new = new} {x = x} {y = y} {path = p} g) path i name v e =
    let a : p ≡ path = cc in
    let b : j ≡ i = cc in
    let c : new ≡ asks.entry name v = cc in
    record {
      old = x;
      new = y;
      is = refl;
      now = refl;
      gains = subst (λ (k : Named). InsertsMemberAt path i k.name k.value x y) c (subst (λ k. InsertsMemberAt path k new.name new.value x y) b (subst (λ k. InsertsMemberAt k j new.name new.value x y) a g));
    }
inserted_there c path i name v e = cc

pub some_same : (x y : Plain) → Some x ≡ Some y → x ≡ y
some_same x y e = cc

pub appended : (path name : List ℕ) (v : Plain) {w y : Option Plain} {op : Operation} → Asks w (append_property path name v) op → IsChanged w op y → ByMember path name v w y
appended path name v {w} (ms, i, there, far, is) c =
    let m = inserted_there c path i name v is in
    let stands = what_stands w there in
    let g = m.gains in
    let same : stands.0 ≡ m.old = some_same stands.0 m.old (sym stands.1 ∙ m.is) in
    let rows : ms ≡ g.old = object_same ms g.old (value_once (subst (λ k. Changed (plain.object ms) (plain.object ms) path k k) same stands.2) g.changed) in
    let behind : member_count g.old ≤ i = subst (λ l. member_count l ≤ i) rows far in
    record {
      old = m.old;
      new = m.new;
      ms = g.old;
      ns = g.new;
      is = m.is;
      now = m.now;
      comes = subst (λ k. MemberInserted name v k g.old g.new) (least i (member_count g.old) behind) g.comes;
      changed = g.changed;
    }

data Removed (path : List ℕ) (w y : Option Plain) : Type 0 where
  value_removed : path ≡ [] → y ≡ None → Removed path w y
  entry_removed : (front : List ℕ) (i : ℕ) (old new : Plain) → path ≡ front ++ i ∷ [] → w ≡ Some old → y ≡ Some new → LosesEntry front i old new → Removed path w y

was_removed : {w y : Option Plain} {op : Operation} → IsChanged w op y → (path : List ℕ) → op ≡ texts.remove path → Removed path w y
was_removed (by_entry p i {x = x} {y = y} l) path e = let a : path ≡ p ++ i ∷ [] = cc in entry_removed p i x y a refl refl l
was_removed by_all path e = let a : path ≡ [] = cc in value_removed a refl
was_removed c path e = cc

no_names : {path : List ℕ} {names : List (List ℕ)} {x v : Plain} → Leads First names path x v → path ≡ [] → names ≡ []
no_names leads_nowhere e = refl
no_names (leads_on {i = i} {path = p} f l) e = cc

-- what each edit asks for makes what is put, as it is seen
module _ (which : Which) (v : Plain) (over : Over) where
  -- what was put into a value that was there
  abbrev IsPut : Plain → List (List ℕ) → Option Plain → Type 0
  IsPut x names y = Put (seen which v) over (seen_if which (Some x)) names (seen_if which y)

  seen_put : (x new : Plain) (names : List (List ℕ)) (y : Option Plain) → y ≡ Some new → Put (seen which v) over (Some (seen which x)) names (Some (seen which new)) → IsPut x names y
  seen_put x new names y now p =
      subst (λ (k : Option Plain). Put (seen which v) over (seen_if which (Some x)) names (seen_if which k)) (sym now)
      (subst (λ (k : Option Plain). Put (seen which v) over k names (seen_if which (Some new))) (sym (seen_some which x))
      (subst (λ (k : Option Plain). Put (seen which v) over (Some (seen which x)) names k) (sym (seen_some which new)) p))

  put_first : (name : List ℕ) (names : List (List ℕ)) (y : Option Plain) → y ≡ Some (nest (name ∷ names) v) → Put (seen which v) over (seen_if which None) (name ∷ names) (seen_if which y)
  put_first name names y now =
      let all : Plain = nest (name ∷ names) v in
      subst (λ (k : Option Plain). Put (seen which v) over (seen_if which None) (name ∷ names) (seen_if which k)) (sym now)
      (subst (λ (k : Option Plain). Put (seen which v) over k (name ∷ names) (seen_if which (Some all))) (sym (seen_none which))
      (subst (λ (k : Option Plain). Put (seen which v) over None (name ∷ names) k) (sym (seen_some which all ∙ ap (λ x. Some x) (seen_nest which (name ∷ names) v))) is_nested))

  put_root : (w y : Option Plain) → y ≡ Some v → Put (seen which v) over (seen_if which w) [] (seen_if which y)
  put_root w y now =
      subst (λ (k : Option Plain). Put (seen which v) over (seen_if which w) [] (seen_if which k)) (sym now)
      (subst (λ (k : Option Plain). Put (seen which v) over (seen_if which w) [] k) (sym (seen_some which v)) is_there)

  -- inside an object that lacks the name, and in the place of another value
  comes_seen : (name : List ℕ) (rest : List (List ℕ)) (ms ns : Members) → LacksMember name ms → MemberInserted name (nest rest v) (member_count ms) ms ns
      → Put (seen which v) over (Some (seen which (plain.object ms))) (name ∷ rest) (Some (seen which (plain.object ns)))
  comes_seen name rest ms ns lacks comes =
      let last = subst (λ x. IsAppended name x (seen_members which ms) (seen_members which ns)) (seen_nest which rest v) (chosen_comes which refl lacks comes) in
      subst (λ (k : Plain). Put (seen which v) over (Some k) (name ∷ rest) (Some (seen which (plain.object ns)))) (sym (seen_object which ms))
      (subst (λ (k : Plain). Put (seen which v) over (Some (plain.object (seen_members which ms))) (name ∷ rest) (Some k)) (sym (seen_object which ns)) (is_appended last))

  gives_seen : (name : List ℕ) (rest : List (List ℕ)) (was : Plain) → IsNoObject was → over ≡ Replace
      → Put (seen which v) over (Some (seen which was)) (name ∷ rest) (Some (seen which (nest (name ∷ rest) v)))
  gives_seen name rest was non how =
      subst (λ (k : Plain). Put (seen which v) over (Some (seen which was)) (name ∷ rest) (Some k)) (sym (seen_nest which (name ∷ rest) v)) (gives_way (seen_other which non) how)

put_by : {which : Which} {v : Plain} {over : Over} {w : Option Plain} {names : List (List ℕ)} {e : PlainEdit} → IsPutBy which v over w names e → (y : Option Plain) (op : Operation) → Asks w e op
    → IsChanged w op y → Put (seen which v) over (seen_if which w) names (seen_if which y)
put_by {which} {v} {over} (sets_root {w = w}) y op a c = put_root which v over w y (root_set w c v a)
put_by {which} {v} {over} (sets_first {name = name} {names = names}) y op a c = put_first which v over name names y (root_set None c (nest (name ∷ names) v) a)
put_by {which} {v} {over} (sets_value {name = name} {names = names} {path = path} {x = x} l) y op a c =
    let b = replaced c path v a.1 in
    let same : b.old ≡ x = sym (some_same x b.old b.is) in
    seen_put which v over x b.new (name ∷ names) y b.now (put_there l (subst (λ k. Changed b.was v path k b.new) same b.changed))
put_by {which} {v} {over} (appends front rest {name = name} {path = path} {x = x} {ms = ms} l lacks) y op a c =
    let b = appended path name (nest rest v) a c in
    let same : b.old ≡ x = sym (some_same x b.old b.is) in
    let changed = subst (λ k. Changed (plain.object b.ms) (plain.object b.ns) path k b.new) same b.changed in
    let inner : ms ≡ b.ms = object_same ms b.ms (leads_value l changed) in
    seen_put which v over x b.new (front ++ name ∷ rest) y b.now (put_inside which (seen which v) over (name ∷ rest) l changed (comes_seen which v over name rest b.ms b.ns (subst (LacksMember name) inner lacks) b.comes))
put_by {which} {v} {over} (replaces front rest {name = name} {path = path} {x = x} {other = other} l non how) y op a c =
    let b = replaced c path (nest (name ∷ rest) v) a.1 in
    let same : b.old ≡ x = sym (some_same x b.old b.is) in
    let changed = subst (λ k. Changed b.was (nest (name ∷ rest) v) path k b.new) same b.changed in
    let inner : other ≡ b.was = leads_value l changed in
    seen_put which v over x b.new (front ++ name ∷ rest) y b.now (put_inside which (seen which v) over (name ∷ rest) l changed (gives_seen which v over name rest b.was (subst IsNoObject inner non) how))

drop_by : {w : Option Plain} {names : List (List ℕ)} {e : PlainEdit} → IsDroppedBy w names e → (y : Option Plain) (op : Operation) → Asks w e op → IsChanged w op y → Dropped w names y
drop_by (removes {names = names} {path = path} {x = x} {was = was} l) y op a c =
    elim (was_removed c path a.1) [
      | value_removed e now ↦ subst (λ k. Dropped (Some x) k y) (sym (no_names l e)) (subst (Dropped (Some x) []) (sym now) value_dropped)
      | entry_removed front i old new e is now loses ↦
          subst (Dropped (Some x) names) (sym now) (entry_dropped (last_name l front i e) (subst (λ k. LosesEntry front i k new) (sym (some_same x old is)) loses))
    ]

-- each has its place
stands : {which : Which} {names : List (List ℕ)} {path : List ℕ} {x v : Plain} → Leads which names path x v → StandsAt v path (Some x)
stands {x = x} l = stands_there x refl (leads_changed l)

last_step : {which : Which} {names : List (List ℕ)} {path : List ℕ} {x v : Plain} → Leads which names path x v → (name : List ℕ) (rest : List (List ℕ)) → names ≡ name ∷ rest → (front : List ℕ) × (i : ℕ) × (path ≡ front ++ i ∷ [])
last_step leads_nowhere name rest e = cc
last_step (leads_on {i = i} f leads_nowhere) name rest e = ([], i, refl)
last_step (leads_on {i = i} f (leads_on {name = n} {names = ns} g l)) name rest e = let inner = last_step (leads_on g l) n ns refl in (i ∷ inner.0, inner.1, ap (λ r. i ∷ r) inner.2)

put_named : {which : Which} {v : Plain} {over : Over} {w : Option Plain} {names : List (List ℕ)} {e : PlainEdit} (count : ℕ) → IsPutBy which v over w names e → IsNamed w count e
put_named count sets_root = tt
put_named count sets_first = tt
put_named {which} count (sets_value {name = name} {names = names} {path = path} {x = x} {was = was} l) =
    let p = last_step l name names refl in
    let n = last_name l p.0 p.1 p.2 in
    (p.0, p.1, n.ms, p.2, stands n.leads, chosen_within which n.name was p.1 n.ms n.at)
put_named count (appends front rest {ms = ms} l lacks) = (ms, stands l)
put_named count (replaces front rest {other = other} l non how) = (other, stands l)

drop_named : {w : Option Plain} {names : List (List ℕ)} {e : PlainEdit} (count : ℕ) → IsDroppedBy w names e → IsNamed w count e
drop_named count (removes {was = was} l) = (was, stands l)

pub puts_by_it : (which : Which) (v : Plain) (over : Over) (w : Option Plain) (names : List (List ℕ)) (e : PlainEdit) → PutsByIt which v over w names e
puts_by_it which v over w names e p = (λ count. put_named count p, λ y op. put_by p y op)

pub drops_by_it : (w : Option Plain) (names : List (List ℕ)) (e : PlainEdit) → DropsByIt w names e
drops_by_it w names e d = (λ count. drop_named count d, λ y op. drop_by d y op)

pub lead_to_what_is_there : (w : Option Plain) (names : List (List ℕ)) (v : Plain) → LeadToWhatIsThere w names v
lead_to_what_is_there w names v a = at_leads a
