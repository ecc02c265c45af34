-- What is added and removed at tokens through objects.
use Rattle.std.proofs.Common.{ℕ, suc, ◌≡◌, ◌⊎◌, ◌∙◌, ◌++◌, ap, sym, subst, refl, inl, inr, List, [], ◌∷◌, length, Option, Some}
use Rattle.jsonc_text.specs.Plain.{Plain, object, Members, no_members, member, without}
use Rattle.jsonc_insert.specs.named.Members.{LacksMember, no_more, other_name, IsFirstMember, first_is, first_later}
use Rattle.jsonc_run.specs.texts.Leaving as leaving
use Rattle.jsonc_run.specs.texts.Leaving.{Loses}
use Rattle.jsonc_run.specs.texts.Entries.{of, members}
use Rattle.jsonc_run.specs.texts.Paths.{an_array, an_object}
use Rattle.jsonc_parser.specs.patch.Failing.{ReferToNothing}
use Rattle.jsonc_parser.specs.patch.MergePatch.{with_member}
use Rattle.jsonc_parser.specs.patch.Operations.{as_element, as_member, as_whole, in_member, Adds, RefersAlong, Removes}
use Rattle.jsonc_parser.specs.patch.References as references
use Rattle.jsonc_parser.specs.patch.References.{IsOnly, this_only, later_only, IsRepeated, this_again, later_again, RefersTo}
use Rattle.jsonc_parser.proofs.lemmas.patch.Evaluation.{fails_further, member_further}
use Rattle.jsonc_parser.proofs.lemmas.paths.Members.{same_or_not}
use Rattle.jsonc_parser.proofs.lemmas.patch.MergePatchMembers.{row_gains, row_without}
use Rattle.jsonc_parser.proofs.lemmas.patch.MergePatchPlaces as places
use Rattle.jsonc_parser.proofs.lemmas.patch.MergePatchPlaces.{all_lack, becomes_there, entry, is_there, lacks_not, no_array, no_path, object_of, path_to, same_rows, split_only, stands_behind, stands_there, tokens_to, within, AreAlone, Around}

pub no_last : {A : Type 0} (l : List A) (x : A) → l ++ x ∷ [] ≡ [] → ⊥
no_last [] x e = let wrong : x ∷ [] ≡ [] = e in cc
no_last (y ∷ l) x e = let wrong : y ∷ (l ++ x ∷ []) ≡ [] = e in cc

same_heads : {A : Type 0} {x y : A} {l m : List A} → x ∷ l ≡ y ∷ m → (x ≡ y) × (l ≡ m)
same_heads e = (cc, cc)

pub same_last : {A : Type 0} (l m : List A) (x y : A) → l ++ x ∷ [] ≡ m ++ y ∷ [] → (l ≡ m) × (x ≡ y)
same_last [] [] x y e = (refl, (same_heads e).0)
same_last [] (b ∷ m) x y e = absurd (no_last m y (sym (same_heads e).1))
same_last (a ∷ l) [] x y e = absurd (no_last l x (same_heads e).1)
same_last (a ∷ l) (b ∷ m) x y e =
    let h = same_heads e in
    let r = same_last l m x y h.1 in
    (ap (λ k. k ∷ l) h.0 ∙ ap (λ k. b ∷ k) r.0, r.1)

same_members_in : {ms ns : Members} → object ms ≡ object ns → ms ≡ ns
same_members_in e = cc

-- what is added where a value is takes its place
pub adds_there : {v : Plain} {tokens : List (List ℕ)} {w y : Option Plain} → Adds v tokens w y → (os : List Around) (x : Plain) → tokens ≡ tokens_to os → w ≡ Some (within os x) → y ≡ Some (within os v)
adds_there as_whole [] x e is = refl
adds_there as_whole (o ∷ os) x e is = absurd (no_last (tokens_to os) o.name (sym e))
adds_there (as_element {tokens = ts} {token = t} front back stands place b) [] x e is = absurd (no_last ts t e)
adds_there {w = w} (as_element {tokens = ts} {token = t} front back stands place b) (o ∷ os) x e is =
    let s = same_last ts (tokens_to os) t o.name e in
    absurd (no_array (sym (stands_there os (object_of o x) w is ts s.0 stands).1))
adds_there (as_member {tokens = ts} name front stands others b) [] x e is = absurd (no_last ts name e)
adds_there {w = w} (as_member {tokens = ts} name front stands others b) (o ∷ os) x e is =
    let s = same_last ts (tokens_to os) name o.name e in
    let m = same_members_in (stands_there os (object_of o x) w is ts s.0 stands).1 in
    absurd (lacks_not o.front o.name x o.back (subst (LacksMember o.name) (sym m) (subst (λ k. LacksMember k (members front)) s.1 (all_lack name front others))))
adds_there {v} {w = w} {y = y} (in_member {tokens = ts} {place = place} {x = old} name ms stands inner b) os x e is =
    let t = stands_there os x w is (ts ++ name ∷ []) e inner in
    (becomes_there old v os x w y place is t.0 b).1

-- what is added at a name of an object: one member has the name, or the member is appended
pub data AddsMember (v : Plain) (os : List Around) (name : List ℕ) (ns : Members) (u : Option Plain) : Type 0 where
  there : {x : Plain} {i : ℕ} → IsOnly name x i ns → AddsMember v os name ns u
  comes : LacksMember name ns → u ≡ Some (within os (object (with_member name v ns))) → AddsMember v os name ns u

module _ (os : List Around) (name : List ℕ) (ns : Members) where
  pub stands_member : {all : List (List ℕ)} {w : Option Plain} {path : List ℕ} {x : Plain} → RefersAlong w all path x → all ≡ tokens_to os ++ name ∷ [] → w ≡ Some (within os (object ns))
      → (i : ℕ) × (z : Plain) × IsOnly name z i ns × (path ≡ path_to os ++ i ∷ [])
  stands_member {all} {w} stands e is =
      let b = stands_behind os (object ns) w is all (name ∷ []) e stands in
      let m = places.in_member b.refers in
      (m.i, m.x, m.only, b.is ∙ ap (λ l. path_to os ++ l) (m.is ∙ ap (λ r. m.i ∷ r) (no_path m.refers refl)))

  pub adds_member : {v : Plain} {all : List (List ℕ)} {w u : Option Plain} → Adds v all w u → all ≡ tokens_to os ++ name ∷ [] → w ≡ Some (within os (object ns)) → AddsMember v os name ns u
  adds_member as_whole e is = absurd (no_last (tokens_to os) name (sym e))
  adds_member {w = w} (as_element {tokens = ts} {token = t} front back stands place b) e is =
      let s = same_last ts (tokens_to os) t name e in
      absurd (no_array (sym (stands_there os (object ns) w is ts s.0 stands).1))
  adds_member {v} {w = w} {u = u} (as_member {tokens = ts} {path = path} other front stands others b) e is =
      let s = same_last ts (tokens_to os) other name e in
      let t = stands_there os (object ns) w is ts s.0 stands in
      let m : ns ≡ members front = same_members_in t.1 in
      let l : LacksMember name (members front) = subst (λ k. LacksMember k (members front)) s.1 (all_lack other front others) in
      let c = becomes_there (object (members front)) (object (members (front ++ entry other v ∷ []))) os (object ns) w u path is t.0 b in
      comes (subst (LacksMember name) (sym m) l)
      (c.1 ∙ ap (λ k. Some (within os (object k))) (ap (λ n. members (front ++ entry n v ∷ [])) s.1 ∙ sym (row_gains name v front l) ∙ ap (with_member name v) (sym m)))
  adds_member (in_member other ms stands inner b) e is = (let m = stands_member inner e is in there m.2)

  pub refers_member : {all : List (List ℕ)} {w : Option Plain} {x : Plain} → RefersTo w all x → all ≡ tokens_to os ++ name ∷ [] → w ≡ Some (within os (object ns)) → (i : ℕ) × (z : Plain) × IsOnly name z i ns
  refers_member (v, so, path, r) e is = (let m = stands_member (v, so, r) e is in (m.0, m.1, m.2))

  -- the member of the name leaves
  loses_there : {w u : Option Plain} {path : List ℕ} → Loses w u path → (i : ℕ) (x : Plain) → IsOnly name x i ns → path ≡ path_to os ++ i ∷ [] → w ≡ Some (within os (object ns))
      → u ≡ Some (within os (object (without name ns)))
  loses_there (leaving.all none) i x only e is = absurd (no_last (path_to os) i (sym e))
  loses_there {w} {u} (leaving.one an_array front back old path b) i x only e is =
      let s = same_last path (path_to os) (length front) i e in
      absurd (no_array (sym (becomes_there (of an_array (front ++ old ∷ back)) (of an_array (front ++ back)) os (object ns) w u path is s.0 b).0))
  loses_there {w} {u} (leaving.one an_object front back old path b) i x only e is =
      let s = same_last path (path_to os) (length front) i e in
      let t = becomes_there (of an_object (front ++ old ∷ back)) (of an_object (front ++ back)) os (object ns) w u path is s.0 b in
      let m : ns ≡ members (front ++ old ∷ back) = same_members_in t.0 in
      let sp = split_only only in
      let r = same_rows front sp.front old (entry name x) back sp.back (s.1 ∙ sp.place) (sym m ∙ sp.is) in
      t.1 ∙ ap (λ k. Some (within os (object k)))
      (ap (λ l. members (l ++ back)) r.front ∙ ap (λ l. members (sp.front ++ l)) r.back ∙ sym (row_without name x sp.back sp.behind sp.front sp.before) ∙ ap (without name) (sym sp.is))

  pub removes_there : {all : List (List ℕ)} {w u : Option Plain} → Removes all w u → all ≡ tokens_to os ++ name ∷ [] → w ≡ Some (within os (object ns)) → u ≡ Some (within os (object (without name ns)))
  removes_there (path, x, stands, l) e is = (let m = stands_member stands e is in loses_there l m.0 m.1 m.2 m.3 is)

-- how often a name is in a list
data HowOften (name : List ℕ) (ms : Members) : Type 0 where
  never : LacksMember name ms → HowOften name ms
  once : {i : ℕ} {v : Plain} → IsOnly name v i ms → HowOften name ms
  more : IsRepeated name ms → HowOften name ms

first_or_none : (name : List ℕ) (ms : Members) → LacksMember name ms ⊎ ((i : ℕ) × IsFirstMember name i ms)
first_or_none name no_members = inl no_more
first_or_none name (member n v ms) =
    elim (same_or_not n name) [
      | inl is ↦ inr (0, subst (λ k. IsFirstMember name 0 (member k v ms)) (sym is) first_is)
      | inr ne ↦
          elim (first_or_none name ms) [
            | inl l ↦ inl (other_name ne l)
            | inr f ↦ inr (suc f.0, first_later ne f.1)
          ]
    ]

how_often : (name : List ℕ) (ms : Members) → HowOften name ms
how_often name no_members = never no_more
how_often name (member n v ms) =
    elim (same_or_not n name) [
      | inl is ↦
          elim (first_or_none name ms) [
            | inl l ↦ subst (λ k. HowOften name (member k v ms)) (sym is) (once (this_only l))
            | inr f ↦ subst (λ k. HowOften name (member k v ms)) (sym is) (more (this_again f.1))
          ]
      | inr ne ↦
          elim (how_often name ms) [
            | never l ↦ never (other_name ne l)
            | once p ↦ once (later_only ne p)
            | more r ↦ more (later_again ne r)
          ]
    ]

-- where tokens refer to nothing no member has the name
pub lacks_there : (os : List Around) → AreAlone os → (name : List ℕ) (ns : Members) (w : Option Plain) (all : List (List ℕ)) → ReferToNothing w all → all ≡ tokens_to os ++ name ∷ []
    → w ≡ Some (within os (object ns)) → LacksMember name ns
lacks_there os alone name ns w all none e is =
    let top = is_there os (object ns) w is alone (tokens_to os) refl in
    elim (how_often name ns) [
      | never l ↦ l
      | once {i = i} {v = v} p ↦ absurd (none.0 v (top.0, top.1, top.2 ++ i ∷ [], subst (λ t. references.Refers top.0 t (top.2 ++ i ∷ []) v) (sym e) (member_further top.3 refl p)))
      | more r ↦ absurd (none.1 name (top.0, top.1, subst (λ t. references.MeetsRepeated name top.0 t) (sym e) (fails_further (name ∷ []) top.3 (references.here r))))
    ]
