-- Members of a merge patch, one after another; what merging makes of nothing; and why it stops.
use Rattle.std.proofs.Common.{ℕ, ◌≡◌, ◌≢◌, ◌∙◌, ◌++◌, ◌<◌, ◌⊎◌, inl, inr, sym, ap, subst, refl, Bool, true, false, List, [], ◌∷◌, Option, Some, None}
use Rattle.std.specs.Bool.{Decides}
use Rattle.jsonc_text.specs.Documents.{Document}
use Rattle.jsonc_text.specs.Options.{Options}
use Rattle.jsonc_text.specs.Plain.{Plain, null, boolean, number, string, array, object, collapse, Members, no_members, member}
use Rattle.jsonc_edit.specs.Writing.{IsOfNumbers, AreNamedOfNumbers}
use Rattle.jsonc_run.specs.texts.Entries.{members, of, Named}
use Rattle.jsonc_run.specs.texts.Paths.{an_object}
use Rattle.jsonc_run.proofs.lemmas.promise.Plains.{list_of_members, same_members}
use Rattle.jsonc_parser.specs.patch.Applied.{IsMade}
use Rattle.jsonc_parser.specs.patch.Equality.{AreEqual, HasUniqueNames}
use Rattle.jsonc_parser.specs.patch.Failing.{HasNoPlace, ReferToNothing}
use Rattle.jsonc_parser.specs.patch.MergeSteps.{at_root, in_object, Drops, IsPlace, MergesNamed, RefersToObject, Sets}
use Rattle.jsonc_parser.specs.patch.Merged.{MembersMergeIn, MergesIn}
use Rattle.jsonc_parser.specs.patch.Merging.{here, below, inside, put, same, made_of, members_made, GoesInto, IsThere, Merges, MergesBy, MembersMerge, MembersMergeBy, Stops}
use Rattle.jsonc_parser.specs.patch.Merging as merging
use Rattle.jsonc_parser.specs.patch.Operations.{add, Makes, Operation}
use Rattle.jsonc_parser.specs.patch.References.{FailsAt, Refers, RefersTo}
use Rattle.jsonc_parser.proofs.lemmas.patch.Evaluation.{refers_to_one}
use Rattle.jsonc_parser.proofs.lemmas.patch.Exclusive.{by_name, fails_whole, no_place_whole, place_there, Below}
use Rattle.jsonc_parser.proofs.lemmas.patch.Staying.{still_object}
use Rattle.jsonc_parser.proofs.lemmas.patch.Unique.{unique_collapse}

-- members after members
abbrev pub and_then : Members → Members → Members
and_then no_members ns = ns
and_then (member name v ms) ns = member name v (and_then ms ns)

pub and_none : (ms : Members) → and_then ms no_members ≡ ms
and_none no_members = refl
and_none (member name v ms) = ap (member name v) (and_none ms)

pub merge_more : {S : Type 0} {value_of : S → Option Plain} {Leads : Operation → S → S → Type 0} {tokens : List (List ℕ)} {ms : Members} {w u y : S} (ns : Members) → MembersMergeBy value_of Leads tokens ms w u → MembersMergeBy value_of Leads tokens ns u y
    → MembersMergeBy value_of Leads tokens (and_then ms ns) w y
merge_more ns merging.no_more k = k
merge_more ns (merging.removed r more) k = merging.removed r (merge_more ns more k)
merge_more ns (merging.absent a more) k = merging.absent a (merge_more ns more k)
merge_more ns (merging.merged ne m more) k = merging.merged ne m (merge_more ns more k)

-- what merging makes of any states, it makes of their values
module _ {S : Type 0} (value_of : S → Option Plain) (Leads : Operation → S → S → Type 0) (makes : (o : Operation) (w y : S) → Leads o w y → Makes o (value_of w) (value_of y)) where
  mutual
    merges_value : {tokens : List (List ℕ)} {p : Plain} {w y : S} → MergesBy value_of Leads tokens p w y → Merges tokens p (value_of w) (value_of y)
    merges_value (inside refers m) = inside refers (members_merge_value m)
    merges_value (same none there) = same none there
    merges_value (put none other leads) = put none other (makes _ _ _ leads)

    members_merge_value : {tokens : List (List ℕ)} {ms : Members} {w y : S} → MembersMergeBy value_of Leads tokens ms w y → MembersMerge tokens ms (value_of w) (value_of y)
    members_merge_value merging.no_more = merging.no_more
    members_merge_value (merging.removed leads more) = merging.removed (makes _ _ _ leads) (members_merge_value more)
    members_merge_value (merging.absent none more) = merging.absent none (members_merge_value more)
    members_merge_value (merging.merged some m more) = merging.merged some (merges_value m) (members_merge_value more)

-- of documents
pub merges_value_of : {tokens : List (List ℕ)} {p : Plain} {d e : Document} → MergesIn tokens p d e → Merges tokens p d.value e.value
merges_value_of m = merges_value (λ (x : Document). x.value) IsMade (λ o w y made. made.made) m

pub members_merge_value_of : {tokens : List (List ℕ)} {ms : Members} {d e : Document} → MembersMergeIn tokens ms d e → MembersMerge tokens ms d.value e.value
members_merge_value_of m = members_merge_value (λ (x : Document). x.value) IsMade (λ o w y made. made.made) m

-- numbers of members, and of what is made of them
pub numbers_before : (o : Options) (ms ns : Members) → AreNamedOfNumbers o (and_then ms ns) → AreNamedOfNumbers o ms
numbers_before o no_members ns h = tt
numbers_before o (member name v ms) ns h = (h.0, numbers_before o ms ns h.1)

pub numbers_behind : (o : Options) (ms ns : Members) → AreNamedOfNumbers o (and_then ms ns) → AreNamedOfNumbers o ns
numbers_behind o no_members ns h = h
numbers_behind o (member name v ms) ns h = numbers_behind o ms ns h.1

pub numbers_made : (o : Options) (ms : Members) → AreNamedOfNumbers o ms → AreNamedOfNumbers o (members_made ms)
numbers_made o no_members h = tt
numbers_made o (member name null ms) h = numbers_made o ms h.1
numbers_made o (member name (boolean b) ms) h = (tt, numbers_made o ms h.1)
numbers_made o (member name (number s) ms) h = (h.0, numbers_made o ms h.1)
numbers_made o (member name (string s) ms) h = (tt, numbers_made o ms h.1)
numbers_made o (member name (array vs) ms) h = (h.0, numbers_made o ms h.1)
numbers_made o (member name (object ns) ms) h = (numbers_made o ns h.0, numbers_made o ms h.1)

pub number_made : (o : Options) (p : Plain) → IsOfNumbers o p → IsOfNumbers o (made_of p)
number_made o null h = tt
number_made o (boolean b) h = tt
number_made o (number s) h = h
number_made o (string s) h = tt
number_made o (array vs) h = h
number_made o (object ms) h = numbers_made o ms h

-- what is made of members after members
pub made_then : (ms ns : Members) → members_made (and_then ms ns) ≡ and_then (members_made ms) (members_made ns)
made_then no_members ns = refl
made_then (member name null ms) ns = made_then ms ns
made_then (member name (boolean b) ms) ns = ap (member name (boolean b)) (made_then ms ns)
made_then (member name (number s) ms) ns = ap (member name (number s)) (made_then ms ns)
made_then (member name (string s) ms) ns = ap (member name (string s)) (made_then ms ns)
made_then (member name (array vs) ms) ns = ap (member name (array vs)) (made_then ms ns)
made_then (member name (object ks) ms) ns = ap (member name (object (members_made ks))) (made_then ms ns)

pub one_left_out : (name : List ℕ) (p : Plain) → p ≡ null → members_made (member name p no_members) ≡ no_members
one_left_out name p e = ap (λ q. members_made (member name q no_members)) e

pub one_kept : (name : List ℕ) (p : Plain) → p ≢ null → members_made (member name p no_members) ≡ member name (made_of p) no_members
one_kept name null ne = absurd (ne refl)
one_kept name (boolean b) ne = refl
one_kept name (number s) ne = refl
one_kept name (string s) ne = refl
one_kept name (array vs) ne = refl
one_kept name (object ms) ne = refl

pub made_other : (p : Plain) → ((ms : Members) → p ≡ object ms → ⊥) → made_of p ≡ p
made_other null no_object = refl
made_other (boolean b) no_object = refl
made_other (number s) no_object = refl
made_other (string s) no_object = refl
made_other (array vs) no_object = refl
made_other (object ms) no_object = absurd (no_object ms refl)

-- one member
pub named_member : (tokens : List (List ℕ)) (name : List ℕ) (p : Plain) (d e : Document) → MergesNamed (tokens ++ name ∷ []) p d e → MembersMergeIn tokens (member name p no_members) d e
named_member tokens name null d e m = dropped (m.0 refl)
  where
    dropped : Drops (tokens ++ name ∷ []) d e → MembersMergeIn tokens (member name null no_members) d e
    dropped (inl removes) = merging.removed removes merging.no_more
    dropped (inr stays) = subst (λ k. MembersMergeIn tokens (member name null no_members) d k) (sym stays.1) (merging.absent stays.0 merging.no_more)
named_member tokens name (boolean b) d e m = merging.merged (λ e. cc) (m.1 (λ e. cc)) merging.no_more
named_member tokens name (number s) d e m = merging.merged (λ e. cc) (m.1 (λ e. cc)) merging.no_more
named_member tokens name (string s) d e m = merging.merged (λ e. cc) (m.1 (λ e. cc)) merging.no_more
named_member tokens name (array vs) d e m = merging.merged (λ e. cc) (m.1 (λ e. cc)) merging.no_more
named_member tokens name (object ns) d e m = merging.merged (λ e. cc) (m.1 (λ e. cc)) merging.no_more

-- the patch goes into a value only where both are objects
pub goes_not : (p : Plain) (tokens : List (List ℕ)) (w : Option Plain) → ((ms : Members) → p ≡ object ms → ⊥) → ¬ (GoesInto p tokens w)
goes_not p tokens w no_object (ms, ns, is, refers) = no_object ms is

pub goes_nowhere : (p : Plain) (tokens : List (List ℕ)) (w : Option Plain) → (RefersToObject w tokens → ⊥) → ¬ (GoesInto p tokens w)
goes_nowhere p tokens w none (ms, ns, is, refers) = none (ns, refers)

-- it is there, or is put
pub stands_there : (tokens : List (List ℕ)) (p : Plain) (d : Document) → IsThere (made_of p) tokens d.value → Sets tokens p d d
stands_there tokens p d there none = same none there

pub is_put : (tokens : List (List ℕ)) (p : Plain) (d e : Document) → ¬ (IsThere (made_of p) tokens d.value) → IsMade (add tokens (made_of p)) d e → Sets tokens p d e
is_put tokens p d e other made none = put none other made

-- whether a value that was read is equal to another
module _ (v taken : Plain) (tokens : List (List ℕ)) (w : Option Plain) where
  pub there_told : (b : Bool) → (x : Plain) → RefersTo w tokens x → taken ≡ collapse x → (HasUniqueNames taken → Decides b (AreEqual (λ s t. s ≡ t) v taken)) → Decides b (IsThere v tokens w)
  there_told b x refers is reported =
      let d = reported (subst HasUniqueNames (sym is) (unique_collapse x)) in (
        λ e. (x, refers, subst (AreEqual (λ s t. s ≡ t) v) is (d.0 e)),
        λ h. d.1 (subst (AreEqual (λ s t. s ≡ t) v) (ap collapse (refers_to_one w tokens h.0 x h.1 refers) ∙ sym is) h.2),
      )

pub nothing_there : (v : Plain) (tokens : List (List ℕ)) (w : Option Plain) → ((x : Plain) → RefersTo w tokens x → ⊥) → Decides false (IsThere v tokens w)
nothing_there v tokens w none = (λ e. cc, λ h. absurd (none h.0 h.1))

pub no_object_there : (tokens : List (List ℕ)) (w : Option Plain) → ((x : Plain) → RefersTo w tokens x → ⊥) → Decides false (RefersToObject w tokens)
no_object_there tokens w none = (λ e. cc, λ h. absurd (none (object h.0) h.1))

-- a place is one for every value
standing : (w : Option Plain) (tokens : List (List ℕ)) (name : List ℕ) → RefersToObject w tokens → Below w (tokens ++ name ∷ [])
standing w tokens name (ns, (x, is, path, refers)) = record {
  tokens = tokens;
  token = name;
  path = path;
  kind = an_object;
  es = list_of_members ns;
  is = refl;
  stands = (x, is, subst (λ ms. Refers x tokens path (object ms)) (sym (same_members ns)) refers);
  place = by_name refl;
}

pub has_place : (w : Option Plain) (tokens : List (List ℕ)) → IsPlace w tokens → HasNoPlace w tokens → ⊥
has_place w _ at_root none = no_place_whole w [] none refl
has_place w _ (in_object {tokens = tokens} name o) none = place_there w (tokens ++ name ∷ []) none (standing w tokens name o)

-- a stop in the object of these members, of which the first were merged
module _ (name : List ℕ) (tokens : List (List ℕ)) (front back : List Named) (next : Named) (w u : Option Plain) (o : RefersToObject w tokens) (m : MembersMerge tokens (members front) w u) where
  pub stops_at : FailsAt u (tokens ++ next.name ∷ []) name ⊎ Stops name (tokens ++ next.name ∷ []) next.value u → Stops name tokens (object (members (front ++ next ∷ back))) w
  stops_at (inl fails) = here front back next o.1 m fails
  stops_at (inr stops) = below front back next o.1 m stops

  pub place_after : IsPlace u (tokens ++ next.name ∷ [])
  place_after = in_object next.name (still_object m o)
