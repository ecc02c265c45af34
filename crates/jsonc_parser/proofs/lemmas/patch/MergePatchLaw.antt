-- Merging, said by places that tokens refer to, is the function of RFC 7396.
use Rattle.std.proofs.Common.{ℕ, ◌≡◌, ◌≢◌, ◌∙◌, ◌++◌, ap, sym, subst, refl, List, [], ◌∷◌, Bool, Option, Some, None}
use Rattle.jsonc_text.specs.Plain.{Plain, null, boolean, number, string, array, object, collapse, Items, Members, no_members, member, without}
use Rattle.jsonc_insert.specs.named.Members.{LacksMember}
use Rattle.jsonc_parser.specs.patch.Equality as equal
use Rattle.jsonc_parser.specs.patch.Equality.{AreEqual, HasUniqueNames, MembersHaveUniqueNames}
use Rattle.jsonc_parser.specs.patch.MergePatch as up
use Rattle.jsonc_parser.specs.patch.MergePatch.{members_in, value_in, with_member, merged, members_merged, IsEqualToMergePatch, IsMergePatch, IsUpToArrays, AreUpToArrays}
use Rattle.jsonc_parser.specs.patch.Merging as merging
use Rattle.jsonc_parser.specs.patch.Merging.{made_of, members_made, Merges, MembersMerge}
use Rattle.jsonc_parser.specs.patch.Operations.{as_element, as_member, as_whole, in_member, Adds}
use Rattle.jsonc_parser.proofs.lemmas.patch.MergePatchMade.{made_anew, made_unique}
use Rattle.jsonc_parser.proofs.lemmas.patch.MergePatchMembers.{lacks_value, lacks_without, merged_more, no_object_up_to, none_in, object_up_to, row_value, row_with, value_up_to, with_up_to, without_up_to, UpTo}
use Rattle.jsonc_parser.proofs.lemmas.patch.MergePatchPlaces.{is_there, object_of, refers_there, split_only, tokens_to, within, AreAlone, Around, IsAlone, Split}
use Rattle.jsonc_parser.proofs.lemmas.patch.MergePatchSteps.{adds_member, adds_there, comes, lacks_there, no_last, refers_member, removes_there, there, AddsMember}
use Rattle.jsonc_parser.proofs.lemmas.patch.MergePatchCollapsed.{collapse_unique, up_equal, SameText}

-- a value that may be missing, and one that is there
some_up_to : (a : Option Plain) (v : Plain) → UpTo a (Some v) → (x : Plain) × (a ≡ Some x) × IsUpToArrays x v
some_up_to (Some x) v h = (x, refl, h)
some_up_to None v h = absurd h

none_up_to : (a : Option Plain) → UpTo a None → a ≡ None
none_up_to None h = refl
none_up_to (Some x) h = absurd h

-- a value equal to a patch that stays
null_stays : (v : Plain) → AreEqual SameText null (collapse v) → v ≡ null
null_stays null h = refl
null_stays (boolean b) h = elim h [ ]
null_stays (number s) h = elim h [ ]
null_stays (string s) h = elim h [ ]
null_stays (array vs) h = elim h [ ]
null_stays (object ms) h = elim h [ ]

boolean_stays : (b : Bool) (v : Plain) → AreEqual SameText (boolean b) (collapse v) → v ≡ boolean b
boolean_stays b null h = elim h [ ]
boolean_stays b (boolean c) equal.booleans = refl
boolean_stays b (number s) h = elim h [ ]
boolean_stays b (string s) h = elim h [ ]
boolean_stays b (array vs) h = elim h [ ]
boolean_stays b (object ms) h = elim h [ ]

number_stays : (s : List ℕ) (v : Plain) → AreEqual SameText (number s) (collapse v) → v ≡ number s
number_stays s null h = elim h [ ]
number_stays s (boolean c) h = elim h [ ]
number_stays s (number t) (equal.numbers e) = ap number (sym e)
number_stays s (string t) h = elim h [ ]
number_stays s (array vs) h = elim h [ ]
number_stays s (object ms) h = elim h [ ]

string_stays : (s : List ℕ) (v : Plain) → AreEqual SameText (string s) (collapse v) → v ≡ string s
string_stays s null h = elim h [ ]
string_stays s (boolean c) h = elim h [ ]
string_stays s (number t) h = elim h [ ]
string_stays s (string t) equal.strings = refl
string_stays s (array vs) h = elim h [ ]
string_stays s (object ms) h = elim h [ ]

array_stays : (vs : Items) (v : Plain) → HasUniqueNames (array vs) → AreEqual SameText (array vs) (collapse v) → IsUpToArrays (array vs) v
array_stays vs null u h = elim h [ ]
array_stays vs (boolean c) u h = elim h [ ]
array_stays vs (number s) u h = elim h [ ]
array_stays vs (string s) u h = elim h [ ]
array_stays vs (array ws) u h = up.equal_arrays (subst (λ k. AreEqual SameText k (collapse (array ws))) (sym (collapse_unique u)) h)
array_stays vs (object ms) u h = elim h [ ]

object_stays : (ms : Members) (v : Plain) → AreEqual SameText (object ms) (collapse v) → (ns : Members) × (v ≡ object ns)
object_stays ms null h = elim h [ ]
object_stays ms (boolean c) h = elim h [ ]
object_stays ms (number s) h = elim h [ ]
object_stays ms (string s) h = elim h [ ]
object_stays ms (array vs) h = elim h [ ]
object_stays ms (object ns) h = (ns, refl)

same_up_to : {x v : Plain} → v ≡ x → IsUpToArrays x v
same_up_to {x} e = subst (IsUpToArrays x) (sym e) up.itself

stays : (a : Option Plain) (p v : Plain) → HasUniqueNames p → AreEqual SameText (made_of p) (collapse v) → ((ms ns : Members) → p ≡ object ms → v ≡ object ns → ⊥) → IsUpToArrays (merged a p) v
stays a null v u h none = same_up_to (null_stays v h)
stays a (boolean b) v u h none = same_up_to (boolean_stays b v h)
stays a (number s) v u h none = same_up_to (number_stays s v h)
stays a (string s) v u h none = same_up_to (string_stays s v h)
stays a (array vs) v u h none = array_stays vs v u h
stays a (object ms) v u h none = (let o = object_stays (members_made ms) v h in absurd (none ms o.0 refl o.1))

-- what a merge makes of a value, and of the members of an object
pub record ValueMerged (os : List Around) (p : Plain) (a y : Option Plain) : Type 0 where
  pub new : Plain
  pub is : y ≡ Some (within os new)
  pub up_to : IsUpToArrays (merged a p) new

record MembersMerged (os : List Around) (ms old : Members) (y : Option Plain) : Type 0 where
  new : Members
  is : y ≡ Some (within os (object new))
  up_to : AreUpToArrays (members_merged old ms) new

pub record OneMerged (os : List Around) (name : List ℕ) (p : Plain) (ns old : Members) (u : Option Plain) : Type 0 where
  pub new : Plain
  pub is : u ≡ Some (within os (object (with_member name new ns)))
  pub up_to : IsUpToArrays (merged (value_in name old) p) new

-- at a name of an object: one member has it, or the value is appended
pub member_place : {all : List (List ℕ)} {p : Plain} {w u : Option Plain} → Merges all p w u → (os : List Around) (name : List ℕ) (ns : Members) → all ≡ tokens_to os ++ name ∷ []
    → w ≡ Some (within os (object ns)) → AddsMember (made_of p) os name ns u
member_place (merging.inside r mm) os name ns e is = (let m = refers_member os name ns r e is in there m.2)
member_place (merging.same not_into (x, r, h)) os name ns e is = (let m = refers_member os name ns r e is in there m.2)
member_place (merging.put not_into another adds) os name ns e is = adds_member os name ns adds e is

-- the value that is appended
pub member_comes : (os : List Around) (name : List ℕ) {p : Plain} (ns old : Members) (u : Option Plain) → HasUniqueNames p → UpTo (value_in name old) None
    → u ≡ Some (within os (object (with_member name (made_of p) ns))) → OneMerged os name p ns old u
member_comes os name {p} ns old u h up_to is = record {
  new = made_of p;
  is = is;
  up_to = subst (λ k. IsUpToArrays k (made_of p)) (sym (ap (λ o. merged o p) (none_up_to (value_in name old) up_to) ∙ made_unique h)) up.itself;
}

-- the one of a member that is there
module _ {name : List ℕ} {x : Plain} {i : ℕ} {ns : Members} (sp : Split name x i ns) where
  abbrev pub around : Around
  around = record { front = sp.front; name = name; back = sp.back }

  pub is_alone : IsAlone around
  is_alone = record { before = sp.before; behind = sp.behind }

  pub value_there : {old : Members} → AreUpToArrays old ns → UpTo (value_in name old) (Some x)
  value_there {old} h = subst (UpTo (value_in name old)) (ap (value_in name) sp.is ∙ row_value name x sp.back sp.front sp.before) (value_up_to name h)

  pub with_it : (v : Plain) → object (with_member name v ns) ≡ object_of around v
  with_it v = ap (λ l. object (with_member name v l)) sp.is ∙ ap object (row_with name x sp.back v sp.front sp.before)

pub is_around : (os : List Around) {name : List ℕ} {x : Plain} {i : ℕ} {ns : Members} {w : Option Plain} (sp : Split name x i ns) → w ≡ Some (within os (object ns)) → w ≡ Some (within (around sp ∷ os) x)
is_around os sp is = is ∙ ap (λ l. Some (within os (object l))) sp.is

pub member_there : (os : List Around) (name : List ℕ) {p x : Plain} {i : ℕ} (ns old : Members) {u : Option Plain} (sp : Split name x i ns) → ValueMerged (around sp ∷ os) p (value_in name old) u → OneMerged os name p ns old u
member_there os name ns old sp m = record { new = m.new; is = m.is ∙ ap (λ k. Some (within os k)) (sym (with_it sp m.new)); up_to = m.up_to }

-- and then those after it
member_then : (os : List Around) (name : List ℕ) {p : Plain} {ms : Members} (ns old : Members) {u y : Option Plain} → AreUpToArrays old ns → p ≢ null → OneMerged os name p ns old u
    → ((now before : Members) → AreUpToArrays before now → u ≡ Some (within os (object now)) → MembersMerged os ms before y) → MembersMerged os (member name p ms) old y
member_then os name {p} {ms} ns old h not_null one rest =
    let m = rest (with_member name one.new ns) (with_member name (merged (value_in name old) p) old) (with_up_to name one.up_to h) one.is in
    record { new = m.new; is = m.is; up_to = subst (λ l. AreUpToArrays l m.new) (sym (merged_more old name p ms not_null)) m.up_to }

pub record UniqueParts (name : List ℕ) (v : Plain) (ms : Members) : Type 0 where
  pub value : HasUniqueNames v
  pub rest : MembersHaveUniqueNames ms

pub unique_parts : {name : List ℕ} {v : Plain} {ms : Members} → MembersHaveUniqueNames (member name v ms) → UniqueParts name v ms
unique_parts (equal.unique_member lacks h k) = record { value = h; rest = k }

pub unique_members : {ms : Members} → HasUniqueNames (object ms) → MembersHaveUniqueNames ms
unique_members (equal.unique_object h) = h

no_members_for : (a : Option Plain) (v : Plain) → UpTo a (Some v) → ((ns : Members) → v ≢ object ns) → members_in a ≡ no_members
no_members_for a v h ne =
    let s = some_up_to a v h in
    none_in a (λ ms e. (let both : Some s.0 ≡ Some (object ms) = sym s.1 ∙ e in let same : s.0 ≡ object ms = cc in no_object_up_to s.2 ne ms same))

mutual
  pub merges_value : {tokens : List (List ℕ)} {p : Plain} {w y : Option Plain} → Merges tokens p w y → (os : List Around) → AreAlone os → (v : Plain) (a : Option Plain) → UpTo a (Some v)
      → tokens ≡ tokens_to os → w ≡ Some (within os v) → HasUniqueNames p → ValueMerged os p a y
  merges_value {tokens} {w = w} (merging.inside {ms = ms} {ns = ns} r mm) os alone v a h e is u =
      let same : v ≡ object ns = refers_there os v w is tokens e r in
      let s = some_up_to a v h in
      let o = object_up_to (subst (IsUpToArrays s.0) same s.2) in
      let m = members_value mm os alone ns o.0 o.2 e (is ∙ ap (λ k. Some (within os k)) same) (unique_members u) in
      record { new = object m.new; is = m.is; up_to = subst (λ k. IsUpToArrays (merged k (object ms)) (object m.new)) (sym (s.1 ∙ ap Some o.1)) (up.objects m.up_to) }
  merges_value {tokens} {p} {w} (merging.same not_into (x, r, h2)) os alone v a h e is u =
      let same : v ≡ x = refers_there os v w is tokens e r in
      record {
        new = v;
        is = is;
        up_to = stays a p v u (subst (λ k. AreEqual SameText (made_of p) (collapse k)) (sym same) h2) (λ ms ns pe ve. not_into (ms, ns, pe, is_there os (object ns) w (is ∙ ap (λ k. Some (within os k)) ve) alone tokens e));
      }
  merges_value {tokens} {p} {w} (merging.put not_into another adds) os alone v a h e is u =
      let none : (ms : Members) → p ≡ object ms → members_in a ≡ no_members =
      λ ms pe. no_members_for a v h (λ ns ve. not_into (ms, ns, pe, is_there os (object ns) w (is ∙ ap (λ k. Some (within os k)) ve) alone tokens e)) in
      record { new = made_of p; is = adds_there adds os v e is; up_to = subst (λ k. IsUpToArrays k (made_of p)) (sym (made_anew a p u none)) up.itself }

  members_value : {tokens : List (List ℕ)} {ms : Members} {w y : Option Plain} → MembersMerge tokens ms w y → (os : List Around) → AreAlone os → (ns old : Members) → AreUpToArrays old ns
      → tokens ≡ tokens_to os → w ≡ Some (within os (object ns)) → MembersHaveUniqueNames ms → MembersMerged os ms old y
  members_value merging.no_more os alone ns old h e is u = record { new = ns; is = is; up_to = h }
  members_value (merging.removed {name = name} removes mm) os alone ns old h e is u =
      let left = removes_there os name ns removes (ap (λ l. l ++ name ∷ []) e) is in
      let m = members_value mm os alone (without name ns) (without name old) (without_up_to name h) e left (unique_parts u).rest in
      record { new = m.new; is = m.is; up_to = m.up_to }
  members_value {w = w} (merging.absent {tokens = tokens} {name = name} none mm) os alone ns old h e is u =
      let l : LacksMember name ns = lacks_there os alone name ns w (tokens ++ name ∷ []) none (ap (λ l. l ++ name ∷ []) e) is in
      let m = members_value mm os alone (without name ns) (without name old) (without_up_to name h) e (is ∙ ap (λ k. Some (within os (object k))) (sym (lacks_without l))) (unique_parts u).rest in
      record { new = m.new; is = m.is; up_to = m.up_to }
  members_value (merging.merged {tokens = tokens} {name = name} {u = u} not_null merges mm) os alone ns old h e is unique =
      let parts = unique_parts unique in
      let further : tokens ++ name ∷ [] ≡ tokens_to os ++ name ∷ [] = ap (λ l. l ++ name ∷ []) e in
      member_then os name ns old h not_null
      (elim (member_place merges os name ns further is) [
        | there only ↦
            let sp = split_only only in
            member_there os name ns old sp (merges_value merges (around sp ∷ os) (is_alone sp, alone) _ (value_in name old) (value_there sp h) further (is_around os sp is) parts.value)
        | comes lacks so ↦ member_comes os name ns old u parts.value (subst (UpTo (value_in name old)) (lacks_value lacks) (value_up_to name h)) so
      ])
      (λ now before k so. members_value mm os alone now before k e so parts.rest)

-- of a document
adds_whole : {v : Plain} {tokens : List (List ℕ)} {w y : Option Plain} → Adds v tokens w y → tokens ≡ [] → y ≡ Some v
adds_whole as_whole e = refl
adds_whole (as_element {tokens = ts} {token = t} front back stands place b) e = absurd (no_last ts t e)
adds_whole (as_member {tokens = ts} name front stands others b) e = absurd (no_last ts name e)
adds_whole (in_member {tokens = ts} name ms stands inner b) e = absurd (no_last ts name e)

no_some : {v : Plain} {w : Option Plain} → w ≡ Some v → w ≡ None → ⊥
no_some e f = cc

pub from_nothing : {tokens : List (List ℕ)} {p : Plain} {w y : Option Plain} → Merges tokens p w y → tokens ≡ [] → w ≡ None → HasUniqueNames p → y ≡ Some (merged None p)
from_nothing (merging.inside r mm) e is u = absurd (no_some r.1 is)
from_nothing (merging.same not_into (x, r, h)) e is u = absurd (no_some r.1 is)
from_nothing (merging.put not_into another adds) e is u = adds_whole adds e ∙ ap Some (sym (made_unique u))

pub merges_document : (p : Plain) (w y : Option Plain) → HasUniqueNames p → Merges [] p w y → IsMergePatch p w y
merges_document p (Some x) y u merges = (let m = merges_value merges [] tt x (Some x) up.itself refl refl u in (m.new, m.is, m.up_to))
merges_document p None y u merges = (merged None p, from_nothing merges refl refl u, up.itself)

pub merges_equal : (p : Plain) (w y : Option Plain) → HasUniqueNames p → Merges [] p w y → IsEqualToMergePatch p w y
merges_equal p w y u merges = (let m = merges_document p w y u merges in (m.0, m.1, up_equal m.2))
