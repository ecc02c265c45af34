-- A value and the objects around it: what tokens refer to there, and what a change there leads to.
use Rattle.std.proofs.Common.{ℕ, suc, ◌≡◌, ◌≢◌, ◌∙◌, ◌++◌, ap, sym, subst, refl, List, [], ◌∷◌, length, Option, Some, None}
use Rattle.std.specs.List.{All}
use Rattle.std.proofs.lemmas.List.{append-nil, append_assoc}
use Rattle.std.proofs.lemmas.List.Elements.{All-head, All-tail}
use Rattle.jsonc_text.specs.Plain.{Plain, Items, Members, member, no_members}
use Rattle.jsonc_text.specs.Plain as plain
use Rattle.jsonc_insert.specs.named.Members.{LacksMember, no_more, other_name}
use Rattle.jsonc_run.specs.texts.Entries as entries
use Rattle.jsonc_run.specs.texts.Entries.{of, members, Becomes, Changed, Named}
use Rattle.jsonc_run.specs.texts.Paths.{an_array, an_object}
use Rattle.jsonc_parser.specs.patch.Operations.{RefersAlong}
use Rattle.jsonc_parser.specs.patch.References.{IsOnly, this_only, later_only, Refers, RefersTo, whole, to_member, to_element}
use Rattle.jsonc_parser.proofs.lemmas.patch.Evaluation.{one_value}

-- an object around a value: the members before it, its name, and those after it
pub record Around : Type 0 where
  pub front : List Named
  pub name : List ℕ
  pub back : List Named

abbrev pub entry : List ℕ → Plain → Named
entry name v = record { name = name; value = v }

abbrev pub object_of : Around → Plain → Plain
object_of o v = plain.object (members (o.front ++ entry o.name v ∷ o.back))

-- the value with these objects around it, from the innermost to the outermost
abbrev pub within : List Around → Plain → Plain
within [] v = v
within (o ∷ os) v = within os (object_of o v)

abbrev pub tokens_to : List Around → List (List ℕ)
tokens_to [] = []
tokens_to (o ∷ os) = tokens_to os ++ o.name ∷ []

abbrev pub path_to : List Around → List ℕ
path_to [] = []
path_to (o ∷ os) = path_to os ++ length o.front ∷ []

-- in each of them one member alone has the name
pub record IsAlone (o : Around) : Type 0 where
  pub before : LacksMember o.name (members o.front)
  pub behind : LacksMember o.name (members o.back)

abbrev pub AreAlone : List Around → Type 0
AreAlone [] = Unit {0}
AreAlone (o ∷ os) = IsAlone o × AreAlone os

-- lists of names and values
record SameFirst (f g : Named) (fs gs : List Named) : Type 0 where
  name : f.name ≡ g.name
  value : f.value ≡ g.value
  rest : members fs ≡ members gs

same_first : (f g : Named) (fs gs : List Named) → members (f ∷ fs) ≡ members (g ∷ gs) → SameFirst f g fs gs
same_first f g fs gs e = record { name = cc; value = cc; rest = cc }

same_entry : (f g : Named) → f.name ≡ g.name → f.value ≡ g.value → f ≡ g
same_entry f g a b = ap (λ n. entry n f.value) a ∙ ap (λ v. entry g.name v) b

pub same_members : (fs gs : List Named) → members fs ≡ members gs → fs ≡ gs
same_members [] [] e = refl
same_members [] (g ∷ gs) e = let wrong : no_members ≡ member g.name g.value (members gs) = e in cc
same_members (f ∷ fs) [] e = let wrong : member f.name f.value (members fs) ≡ no_members = e in cc
same_members (f ∷ fs) (g ∷ gs) e =
    let s = same_first f g fs gs e in
    ap (λ h. h ∷ fs) (same_entry f g s.name s.value) ∙ ap (λ l. g ∷ l) (same_members fs gs s.rest)

-- two lists of members with an entry at the same place
pub record SameRows (f g : Named) (xs xs2 ys ys2 : List Named) : Type 0 where
  pub front : xs ≡ xs2
  pub name : f.name ≡ g.name
  pub value : f.value ≡ g.value
  pub back : ys ≡ ys2

pub same_rows : (front front2 : List Named) (f g : Named) (back back2 : List Named) → length front ≡ length front2 → members (front ++ f ∷ back) ≡ members (front2 ++ g ∷ back2)
    → SameRows f g front front2 back back2
same_rows [] [] f g back back2 n e = let s = same_first f g back back2 e in record { front = refl; name = s.name; value = s.value; back = same_members back back2 s.rest }
same_rows [] (k ∷ ks) f g back back2 n e = let wrong : 0 ≡ suc (length ks) = n in cc
same_rows (k ∷ ks) [] f g back back2 n e = let wrong : suc (length ks) ≡ 0 = n in cc
same_rows (k ∷ ks) (l ∷ ls) f g back back2 n e =
    let a : suc (length ks) ≡ suc (length ls) = n in
    let b : length ks ≡ length ls = cc in
    let s = same_first k l (ks ++ f ∷ back) (ls ++ g ∷ back2) e in
    let r = same_rows ks ls f g back back2 b s.rest in
    record { front = ap (λ h. h ∷ ks) (same_entry k l s.name s.value) ∙ ap (λ m. l ∷ m) r.front; name = r.name; value = r.value; back = r.back }

-- names that a list lacks
pub record LacksMore (name n : List ℕ) (ms : Members) : Type 0 where
  pub other : n ≢ name
  pub rest : LacksMember name ms

pub lacks_more : {name : List ℕ} {all : Members} → LacksMember name all → (n : List ℕ) (v : Plain) (ms : Members) → all ≡ member n v ms → LacksMore name n ms
lacks_more no_more n v ms e = let wrong : no_members ≡ member n v ms = e in cc
lacks_more {name} (other_name {n = m} {ms = rest} ne l) n v ms e =
    let a : n ≡ m = cc in
    let b : rest ≡ ms = cc in
    record { other = λ s. ne (sym a ∙ s); rest = subst (LacksMember name) b l }

pub lacks_not : (front : List Named) (name : List ℕ) (v : Plain) (back : List Named) → LacksMember name (members (front ++ entry name v ∷ back)) → ⊥
lacks_not [] name v back l = (lacks_more l name v (members back) refl).other refl
lacks_not (f ∷ fs) name v back l = lacks_not fs name v back (lacks_more l f.name f.value (members (fs ++ entry name v ∷ back)) refl).rest

pub all_lack : (name : List ℕ) (es : List Named) → All (λ e. e.name ≢ name) es → LacksMember name (members es)
all_lack name [] others = no_more
all_lack name (e ∷ es) others = other_name (All-head (λ (e : Named). e.name ≢ name) e es others) (all_lack name es (All-tail (λ (e : Named). e.name ≢ name) e es others))

-- the one member of a name in a list that begins with this one
data OnlyOfMore (name : List ℕ) (v : Plain) (i : ℕ) (n : List ℕ) (w : Plain) (ms : Members) : Type 0 where
  is_first : n ≡ name → w ≡ v → i ≡ 0 → LacksMember name ms → OnlyOfMore name v i n w ms
  is_later : (j : ℕ) → i ≡ suc j → n ≢ name → IsOnly name v j ms → OnlyOfMore name v i n w ms

only_more : {name : List ℕ} {v : Plain} {i : ℕ} {all : Members} → IsOnly name v i all → (n : List ℕ) (w : Plain) (ms : Members) → all ≡ member n w ms → OnlyOfMore name v i n w ms
only_more {name} {v} (this_only {ms = rest} l) n w ms e = let a : n ≡ name = cc in let b : w ≡ v = cc in let c : rest ≡ ms = cc in is_first a b refl (subst (LacksMember name) c l)
only_more {name} {v} (later_only {i = i} {n = m} {w = x} {ms = rest} ne p) n w ms e =
    let a : n ≡ m = cc in
    let b : rest ≡ ms = cc in
    is_later i refl (λ s. ne (sym a ∙ s)) (subst (IsOnly name v i) b p)

pub only_lacks_not : {name : List ℕ} {v : Plain} {i : ℕ} (ms : Members) → IsOnly name v i ms → LacksMember name ms → ⊥
only_lacks_not no_members p l = elim p [ ]
only_lacks_not (member n w ms) p l =
    let m = lacks_more l n w ms refl in
    elim (only_more p n w ms refl) [
      | is_first a b c k ↦ m.other a
      | is_later j e ne q ↦ only_lacks_not ms q m.rest
    ]

record IsThatOne (v x : Plain) (i : ℕ) (front : List Named) : Type 0 where
  value : v ≡ x
  place : i ≡ length front

only_there : (front : List Named) (name : List ℕ) (v : Plain) (back : List Named) {x : Plain} {i : ℕ} → IsOnly name x i (members (front ++ entry name v ∷ back)) → IsThatOne v x i front
only_there [] name v back p =
    elim (only_more p name v (members back) refl) [
      | is_first a b c k ↦ record { value = b; place = c }
      | is_later j e ne q ↦ absurd (ne refl)
    ]
only_there (f ∷ fs) name v back p =
    elim (only_more p f.name f.value (members (fs ++ entry name v ∷ back)) refl) [
      | is_first a b c k ↦ absurd (lacks_not fs name v back k)
      | is_later j e ne q ↦ let r = only_there fs name v back q in record { value = r.value; place = e ∙ ap suc r.place }
    ]

pub only_at : (front : List Named) (name : List ℕ) (v : Plain) (back : List Named) → LacksMember name (members front) → LacksMember name (members back)
    → IsOnly name v (length front) (members (front ++ entry name v ∷ back))
only_at [] name v back before behind = this_only behind
only_at (f ∷ fs) name v back before behind =
    let l = lacks_more before f.name f.value (members fs) refl in later_only l.other (only_at fs name v back l.rest behind)

-- the members around the one member of a name
pub record Split (name : List ℕ) (v : Plain) (i : ℕ) (ms : Members) : Type 0 where
  pub front : List Named
  pub back : List Named
  pub is : ms ≡ members (front ++ entry name v ∷ back)
  pub place : i ≡ length front
  pub before : LacksMember name (members front)
  pub behind : LacksMember name (members back)

pub is_list : (ms : Members) → (es : List Named) × (ms ≡ members es)
is_list no_members = ([], refl)
is_list (member n v ms) = let r = is_list ms in (entry n v ∷ r.0, ap (member n v) r.1)

pub split_only : {name : List ℕ} {v : Plain} {i : ℕ} {ms : Members} → IsOnly name v i ms → Split name v i ms
split_only {name} {v} (this_only {ms = ms} l) =
    let r = is_list ms in
    record { front = []; back = r.0; is = ap (member name v) r.1; place = refl; before = no_more; behind = subst (LacksMember name) r.1 l }
split_only (later_only {n = n} {w = w} ne p) =
    let r = split_only p in
    record { front = entry n w ∷ r.front; back = r.back; is = ap (member n w) r.is; place = ap suc r.place; before = other_name ne r.before; behind = r.behind }

-- what the first token leads to in an object
pub record InMember (token : List ℕ) (tokens : List (List ℕ)) (path : List ℕ) (ms : Members) (v : Plain) : Type 0 where
  pub i : ℕ
  pub x : Plain
  pub rest : List ℕ
  pub is : path ≡ i ∷ rest
  pub only : IsOnly token x i ms
  pub refers : Refers x tokens rest v

pub in_member : {token : List ℕ} {tokens : List (List ℕ)} {ms : Members} {path : List ℕ} {v : Plain} → Refers (plain.object ms) (token ∷ tokens) path v → InMember token tokens path ms v
in_member (to_member {i = i} {path = path} {x = x} p r) = record { i = i; x = x; rest = path; is = refl; only = p; refers = r }

-- what tokens after those to a value refer to
pub record Behind (os : List Around) (v : Plain) (rest : List (List ℕ)) (path : List ℕ) (u : Plain) : Type 0 where
  pub last : List ℕ
  pub is : path ≡ path_to os ++ last
  pub refers : Refers v rest last u

pub behind_tokens : (os : List Around) (v : Plain) (rest : List (List ℕ)) {path : List ℕ} {u : Plain} → Refers (within os v) (tokens_to os ++ rest) path u → Behind os v rest path u
behind_tokens [] v rest {path} r = record { last = path; is = refl; refers = r }
behind_tokens (o ∷ os) v rest {path} {u} r =
    let outer = behind_tokens os (object_of o v) (o.name ∷ rest) (subst (λ l. Refers (within os (object_of o v)) l path u) (append_assoc (tokens_to os) (o.name ∷ []) rest) r) in
    let m = in_member outer.refers in
    let one = only_there o.front o.name v o.back m.only in
    record {
      last = m.rest;
      is = outer.is ∙ ap (λ l. path_to os ++ l) (m.is ∙ ap (λ k. k ∷ m.rest) one.place) ∙ sym (append_assoc (path_to os) (length o.front ∷ []) m.rest);
      refers = subst (λ k. Refers k rest m.rest u) (sym one.value) m.refers;
    }

pub refers_behind : (os : List Around) → AreAlone os → (v : Plain) (rest : List (List ℕ)) (path : List ℕ) (u : Plain) → Refers v rest path u
    → Refers (within os v) (tokens_to os ++ rest) (path_to os ++ path) u
refers_behind [] alone v rest path u r = r
refers_behind (o ∷ os) alone v rest path u r =
    let outer = refers_behind os alone.1 (object_of o v) (o.name ∷ rest) (length o.front ∷ path) u (to_member (only_at o.front o.name v o.back alone.0.before alone.0.behind) r) in
    subst (λ l. Refers (within os (object_of o v)) l ((path_to os ++ length o.front ∷ []) ++ path) u) (sym (append_assoc (tokens_to os) (o.name ∷ []) rest))
    (subst (λ p. Refers (within os (object_of o v)) (tokens_to os ++ (o.name ∷ rest)) p u) (sym (append_assoc (path_to os) (length o.front ∷ []) path)) outer)

-- so it is in a document
same_value : {x y : Plain} {w : Option Plain} → w ≡ Some x → w ≡ Some y → x ≡ y
same_value e f = cc

pub no_path : {x u : Plain} {tokens : List (List ℕ)} {path : List ℕ} → Refers x tokens path u → tokens ≡ [] → path ≡ []
no_path whole e = refl
no_path (to_member {token = t} {tokens = ts} p r) e = let wrong : t ∷ ts ≡ [] = e in cc
no_path (to_element {token = t} {tokens = ts} k p r) e = let wrong : t ∷ ts ≡ [] = e in cc

module _ (os : List Around) (v : Plain) (w : Option Plain) (is : w ≡ Some (within os v)) where
  pub stands_behind : (tokens rest : List (List ℕ)) → tokens ≡ tokens_to os ++ rest → {path : List ℕ} {u : Plain} → RefersAlong w tokens path u → Behind os v rest path u
  stands_behind tokens rest e {path} {u} (x, so, r) =
      behind_tokens os v rest (subst (λ l. Refers (within os v) l path u) e (subst (λ k. Refers k tokens path u) (same_value so is) r))

  -- at the tokens themselves
  pub stands_there : (tokens : List (List ℕ)) → tokens ≡ tokens_to os → {path : List ℕ} {u : Plain} → RefersAlong w tokens path u → (path ≡ path_to os) × (v ≡ u)
  stands_there tokens e s =
      let b = stands_behind tokens [] (e ∙ sym (append-nil (tokens_to os))) s in
      (b.is ∙ ap (λ l. path_to os ++ l) (no_path b.refers refl) ∙ append-nil (path_to os), one_value whole b.refers)

  pub refers_there : (tokens : List (List ℕ)) → tokens ≡ tokens_to os → {u : Plain} → RefersTo w tokens u → v ≡ u
  refers_there tokens e (x, so, path, r) = (stands_there tokens e (x, so, r)).1

  pub is_there : AreAlone os → (tokens : List (List ℕ)) → tokens ≡ tokens_to os → RefersTo w tokens v
  is_there alone tokens e =
      (within os v, is, path_to os ++ [], subst (λ l. Refers (within os v) l (path_to os ++ []) v) (append-nil (tokens_to os) ∙ sym e) (refers_behind os alone v [] [] v whole))

-- what a change there leads to
record MemberBecomes (was now : Plain) (front : List Named) (name : List ℕ) (v : Plain) (back : List Named) (path : List ℕ) (y : Plain) : Type 0 where
  new : Plain
  is : y ≡ plain.object (members (front ++ entry name new ∷ back))
  changed : Changed was now path v new

pub no_array : {vs : Items} {ms : Members} → plain.array vs ≡ plain.object ms → ⊥
no_array e = cc

changed_member : {was now x y : Plain} {p : List ℕ} → Changed was now p x y → (front : List Named) (name : List ℕ) (v : Plain) (back : List Named) (path : List ℕ) → p ≡ length front ∷ path
    → x ≡ plain.object (members (front ++ entry name v ∷ back)) → MemberBecomes was now front name v back path y
changed_member entries.itself front name v back path e f = let wrong : [] ≡ length front ∷ path = e in cc
changed_member (entries.inside an_array front2 back2 name2 {path = q} {x = x} {y = y} c) front name v back path e f = absurd (no_array f)
changed_member {was} {now} (entries.inside an_object front2 back2 name2 {path = q} {x = x} {y = y} c) front name v back path e f =
    let n : length front2 ≡ length front = cc in
    let p : q ≡ path = cc in
    let m : members (front2 ++ entry name2 x ∷ back2) ≡ members (front ++ entry name v ∷ back) = cc in
    let s = same_rows front2 front (entry name2 x) (entry name v) back2 back n m in
    record {
      new = y;
      is = ap (λ l. plain.object (members (l ++ entry name2 y ∷ back2))) s.front ∙ ap (λ k. plain.object (members (front ++ entry k y ∷ back2))) s.name ∙ ap (λ l. plain.object (members (front ++ entry name y ∷ l))) s.back;
      changed = subst (λ k. Changed was now path k y) s.value (subst (λ k. Changed was now k x y) p c);
    }

record BecomesWithin (was now : Plain) (os : List Around) (v : Plain) (path : List ℕ) (y : Plain) : Type 0 where
  new : Plain
  is : y ≡ within os new
  changed : Changed was now path v new

changed_within : {was now y : Plain} (os : List Around) (v : Plain) (path : List ℕ) → Changed was now (path_to os ++ path) (within os v) y → BecomesWithin was now os v path y
changed_within {y = y} [] v path c = record { new = y; is = refl; changed = c }
changed_within {was} {now} {y} (o ∷ os) v path c =
    let outer = changed_within os (object_of o v) (length o.front ∷ path) (subst (λ p. Changed was now p (within os (object_of o v)) y) (append_assoc (path_to os) (length o.front ∷ []) path) c) in
    let inner = changed_member outer.changed o.front o.name v o.back path refl refl in
    record { new = inner.new; is = outer.is ∙ ap (within os) inner.is; changed = inner.changed }

changed_itself : {was now x y : Plain} {path : List ℕ} → Changed was now path x y → path ≡ [] → (x ≡ was) × (y ≡ now)
changed_itself entries.itself e = (refl, refl)
changed_itself (entries.inside kind front back name {path = path} c) e = let wrong : length front ∷ path ≡ [] = e in cc

becomes_some : {was now x : Plain} (w y : Option Plain) (path : List ℕ) → w ≡ Some x → Becomes was now path w y → (z : Plain) × (y ≡ Some z) × Changed was now path x z
becomes_some {was} {now} {x} (Some v) (Some z) path e b = let same : v ≡ x = cc in (z, refl, subst (λ k. Changed was now path k z) same b)
becomes_some (Some v) None path e b = absurd b
becomes_some None y path e b = absurd b

-- the value there becomes another
pub becomes_there : (was now : Plain) (os : List Around) (v : Plain) (w y : Option Plain) (path : List ℕ) → w ≡ Some (within os v) → path ≡ path_to os → Becomes was now path w y
    → (v ≡ was) × (y ≡ Some (within os now))
becomes_there was now os v w y path is e b =
    let s = becomes_some w y path is b in
    let c = changed_within os v [] (subst (λ p. Changed was now p (within os v) s.0) (e ∙ sym (append-nil (path_to os))) s.2) in
    let i = changed_itself c.changed refl in
    (i.0, s.1 ∙ ap Some (c.is ∙ ap (within os) i.1))
