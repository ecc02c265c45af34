-- Where no name occurs twice, merging makes a value.
use Rattle.std.proofs.Common.{ℕ, ◌≡◌, ◌≢◌, ◌⊎◌, ◌∙◌, ◌++◌, ap, sym, subst, refl, inl, inr, List, [], ◌∷◌, Option, Some, None}
use Rattle.jsonc_text.specs.Plain.{Plain, null, boolean, number, string, array, object, collapse, Members, no_members, member, without}
use Rattle.jsonc_insert.specs.named.Members.{LacksMember}
use Rattle.jsonc_parser.specs.patch.Equality as equal
use Rattle.jsonc_parser.specs.patch.Equality.{AreEqual, HasUniqueNames, MembersHaveUniqueNames}
use Rattle.jsonc_parser.specs.patch.MergePatch.{with_member, RepeatsNoName}
use Rattle.jsonc_parser.specs.patch.Merging as merging
use Rattle.jsonc_parser.specs.patch.Merging.{made_of, GoesInto, IsThere, Merges, MembersMerge}
use Rattle.jsonc_parser.specs.patch.Operations.{as_whole, Removes}
use Rattle.jsonc_parser.specs.patch.References.{RefersTo}
use Rattle.jsonc_parser.proofs.lemmas.patch.MergePatchCollapsed.{SameText}
use Rattle.jsonc_parser.proofs.lemmas.patch.MergePatchEqual.{equal_told}
use Rattle.jsonc_parser.proofs.lemmas.patch.MergePatchLaw.{around, is_alone, unique_members, unique_parts, with_it}
use Rattle.jsonc_parser.proofs.lemmas.patch.MergePatchMade.{null_or_not}
use Rattle.jsonc_parser.proofs.lemmas.patch.MergePatchMakes.{adds_at, adds_new, none_there, only_or_lacks, refers_at, removes_at, unique_made, with_unique}
use Rattle.jsonc_parser.proofs.lemmas.patch.MergePatchMembers.{row_without}
use Rattle.jsonc_parser.proofs.lemmas.patch.MergePatchPlaces.{object_of, only_lacks_not, refers_there, split_only, tokens_to, within, AreAlone, Around, Split}
use Rattle.jsonc_parser.proofs.lemmas.patch.MergePatchSteps.{refers_member}
use Rattle.jsonc_parser.proofs.lemmas.patch.Unique.{unique_without}

record ValueMade (os : List Around) (p v : Plain) : Type 0 where
  new : Plain
  merges : Merges (tokens_to os) p (Some (within os v)) (Some (within os new))
  unique : HasUniqueNames new

record MembersMade (os : List Around) (ms ns : Members) : Type 0 where
  new : Members
  merges : MembersMerge (tokens_to os) ms (Some (within os (object ns))) (Some (within os (object new)))
  unique : MembersHaveUniqueNames new

record MemberMade (os : List Around) (name : List ℕ) (p : Plain) (ns : Members) : Type 0 where
  new : Plain
  merges : Merges (tokens_to os ++ name ∷ []) p (Some (within os (object ns))) (Some (within os (object (with_member name new ns))))
  unique : HasUniqueNames new

-- where not both are objects
put_or_same : (os : List Around) → AreAlone os → (p v : Plain) → HasUniqueNames p → HasUniqueNames v → ((ms ns : Members) → p ≡ object ms → v ≡ object ns → ⊥) → ValueMade os p v
put_or_same os alone p v up uv apart =
    (let not_into : ¬ (GoesInto p (tokens_to os) (Some (within os v))) = λ g. apart g.0 g.1 g.2 (refers_there os v (Some (within os v)) refl (tokens_to os) refl g.3) in
    elim (equal_told (made_of p) (collapse v)) [
      | inl same ↦ record { new = v; merges = merging.same not_into (v, refers_at os alone v, same); unique = uv }
      | inr differ ↦
          record {
            new = made_of p;
            merges = merging.put not_into (λ t. differ (another t)) (adds_at os alone v (made_of p));
            unique = unique_made up;
          }
    ])
  where
    another : IsThere (made_of p) (tokens_to os) (Some (within os v)) → AreEqual SameText (made_of p) (collapse v)
    another (x, r, h) = subst (λ k. AreEqual SameText (made_of p) (collapse k)) (sym (refers_there os v (Some (within os v)) refl (tokens_to os) refl r)) h

object_or_not : (v : Plain) → ((ns : Members) × (v ≡ object ns)) ⊎ ((ns : Members) → v ≢ object ns)
object_or_not null = inr (λ ns e. cc)
object_or_not (boolean b) = inr (λ ns e. cc)
object_or_not (number s) = inr (λ ns e. cc)
object_or_not (string s) = inr (λ ns e. cc)
object_or_not (array vs) = inr (λ ns e. cc)
object_or_not (object ns) = inl (ns, refl)

-- where the object has no member of the name
new_member : (os : List Around) → AreAlone os → (name : List ℕ) (p : Plain) (ns : Members) → HasUniqueNames p → LacksMember name ns → MemberMade os name p ns
new_member os alone name p ns up lacks = record {
  new = made_of p;
  merges = merging.put (λ g. nothing g.3) (λ t. nothing t.1) (adds_new os alone name ns lacks (made_of p));
  unique = unique_made up;
}
  where
    nothing : {x : Plain} → RefersTo (Some (within os (object ns))) (tokens_to os ++ name ∷ []) x → ⊥
    nothing r = (let m = refers_member os name ns r refl refl in only_lacks_not ns m.2 lacks)

-- where it has one
module _ (os : List Around) (name : List ℕ) {x : Plain} {i : ℕ} {ns : Members} (sp : Split name x i ns) where
  old_is : object ns ≡ object_of (around sp) x
  old_is = ap object sp.is

  old_member : {p : Plain} → ValueMade (around sp ∷ os) p x → MemberMade os name p ns
  old_member {p} v = record {
    new = v.new;
    merges = subst (λ k. Merges (tokens_to os ++ name ∷ []) p (Some (within os k)) (Some (within os (object (with_member name v.new ns))))) (sym old_is)
        (subst (λ k. Merges (tokens_to os ++ name ∷ []) p (Some (within os (object_of (around sp) x))) (Some (within os k))) (sym (with_it sp v.new)) v.merges);
    unique = v.unique;
  }

  old_leaves : AreAlone os → Removes (tokens_to os ++ name ∷ []) (Some (within os (object ns))) (Some (within os (object (without name ns))))
  old_leaves alone =
      subst (λ k. Removes (tokens_to os ++ name ∷ []) (Some (within os k)) (Some (within os (object (without name ns))))) (sym old_is)
      (subst (λ m. Removes (tokens_to os ++ name ∷ []) (Some (within os (object_of (around sp) x))) (Some (within os (object m))))
      (sym (ap (without name) sp.is ∙ row_without name x sp.back sp.behind sp.front sp.before)) (removes_at (around sp) os (is_alone sp, alone) x))

-- null, and another value
drop_member : (os : List Around) → AreAlone os → (name : List ℕ) (ms ns : Members) → MembersHaveUniqueNames ns → ((now : Members) → MembersHaveUniqueNames now → MembersMade os ms now) → MembersMade os (member name null ms) ns
drop_member os alone name ms ns uns rest =
    elim (only_or_lacks name uns) [
      | inl found ↦ let m = rest (without name ns) (unique_without name uns) in record { new = m.new; merges = merging.removed (old_leaves os name (split_only found.2) alone) m.merges; unique = m.unique }
      | inr lacks ↦ let m = rest ns uns in record { new = m.new; merges = merging.absent (none_there os alone name ns lacks) m.merges; unique = m.unique }
    ]

then_rest : (os : List Around) (name : List ℕ) (p : Plain) (ms ns : Members) → p ≢ null → MembersHaveUniqueNames ns → MemberMade os name p ns → ((now : Members) → MembersHaveUniqueNames now → MembersMade os ms now)
    → MembersMade os (member name p ms) ns
then_rest os name p ms ns not_null uns one rest =
    let m = rest (with_member name one.new ns) (with_unique name one.unique uns) in
    record { new = m.new; merges = merging.merged not_null one.merges m.merges; unique = m.unique }

mutual
  value_made : (p : Plain) → HasUniqueNames p → (os : List Around) → AreAlone os → (v : Plain) → HasUniqueNames v → ValueMade os p v
  value_made null up os alone v uv = put_or_same os alone null v up uv (λ ms ns a b. cc)
  value_made (boolean b) up os alone v uv = put_or_same os alone (boolean b) v up uv (λ ms ns a b. cc)
  value_made (number s) up os alone v uv = put_or_same os alone (number s) v up uv (λ ms ns a b. cc)
  value_made (string s) up os alone v uv = put_or_same os alone (string s) v up uv (λ ms ns a b. cc)
  value_made (array vs) up os alone v uv = put_or_same os alone (array vs) v up uv (λ ms ns a b. cc)
  value_made (object ms) up os alone v uv =
      elim (object_or_not v) [
        | inl o ↦
            let m = members_made_of ms (unique_members up) os alone o.0 (unique_members (subst HasUniqueNames o.1 uv)) in
            subst (ValueMade os (object ms)) (sym o.1) (record { new = object m.new; merges = merging.inside (refers_at os alone (object o.0)) m.merges; unique = equal.unique_object m.unique })
        | inr ne ↦ put_or_same os alone (object ms) v up uv (λ ks ns a b. ne ns b)
      ]

  members_made_of : (ms : Members) → MembersHaveUniqueNames ms → (os : List Around) → AreAlone os → (ns : Members) → MembersHaveUniqueNames ns → MembersMade os ms ns
  members_made_of no_members ums os alone ns uns = record { new = ns; merges = merging.no_more; unique = uns }
  members_made_of (member name p ms) ums os alone ns uns =
      let parts = unique_parts ums in
      let rest : (now : Members) → MembersHaveUniqueNames now → MembersMade os ms now = λ now unow. members_made_of ms parts.rest os alone now unow in
      elim (null_or_not p) [
        | inl is ↦ subst (λ k. MembersMade os (member name k ms) ns) (sym is) (drop_member os alone name ms ns uns rest)
        | inr not_null ↦
            then_rest os name p ms ns not_null uns
            (elim (only_or_lacks name uns) [
              | inl found ↦ let sp = split_only found.2 in old_member os name sp (value_made p parts.value (around sp ∷ os) (is_alone sp, alone) found.1 found.3)
              | inr lacks ↦ new_member os alone name p ns parts.value lacks
            ])
            rest
      ]

-- and of a document
no_some : {v : Plain} → None ≡ Some v → ⊥
no_some e = cc

pub merges_all : (p : Plain) (w : Option Plain) → HasUniqueNames p → RepeatsNoName w → (y : Option Plain) × Merges [] p w y
merges_all p (Some v) up uv = (let m = value_made p up [] tt v uv in (Some m.new, m.merges))
merges_all p None up uv = (Some (made_of p), merging.put (λ g. no_some g.3.1) (λ t. no_some t.1.1) as_whole)
