-- Names that occur twice in an object of a value.
use Rattle.std.proofs.Common.{◌≡◌, ◌≢◌, ◌∙◌, ℕ, zero, suc, ◌+◌, ◌<◌, ◌≤◌, Bool, true, false, List, [], ◌∷◌, length, get_or, map, take, chars, string_bytes, All, IsUtf8, refl, sym, ap, subst, arith}
use Rattle.std.proofs.lemmas.List.Elements.{All-head, All-more, All-tail}
use Rattle.std.proofs.lemmas.List.{take_all}
use Rattle.std.proofs.lemmas.Bool.{false≢true}
use Rattle.std.proofs.lemmas.Slice.Eq.{bytes_eq-Decides}
use Rattle.std.proofs.lemmas.Str.{IsUtf8-string_bytes}
use Rattle.std.specs.Str.{bytes_eq}
use Rattle.std.specs.declared.string.String.{String}
use Rattle.jsonc_text.specs.Plain.{Plain, array, object, Items, item, Members, member}
use Rattle.jsonc_insert.specs.named.Members as lacks
use Rattle.jsonc_insert.specs.named.Members.{IsFirstMember, LacksMember, first_is, first_later}
use Rattle.jsonc_layout.proofs.lemmas.nodes.NodeNames.{same_text}
use Rattle.jsonc_layout.specs.declared.input.value.CstInputValue.{CstInputValue}
use Rattle.jsonc_layout.specs.input.Views.{chars_of, items_plain, members_plain, plain}
use Rattle.jsonc_parser.proofs.lemmas.patch.Equality.{has_member, name_bytes}
use Rattle.jsonc_parser.proofs.lemmas.patch.SeenNames.{Distinct}
use Rattle.jsonc_parser.specs.patch.Equality as equal
use Rattle.jsonc_parser.specs.patch.Equality.{HasUniqueNames, ItemsHaveUniqueNames, MembersHaveUniqueNames}
use Rattle.jsonc_parser.specs.patch.MergeSteps.{AreNamesTwice, HasNameTwice, ReportsName}
use Rattle.jsonc_parser.specs.patch.PatchFaults.{repeats_here, repeats_in_element, repeats_in_member}
use Rattle.jsonc_parser.specs.patch.PatchTexts.{NamesDiffer}
use Rattle.jsonc_parser.specs.patch.References.{IsItem, this_item, later_item, IsRepeated, this_again, later_again}
use Rattle.jsonc_parser.specs.declared.patch.merging.MergeFault.{MergeFault}
use Rattle.jsonc_parser.specs.declared.patch.merging.MergeFault.TheVariants as fault

module _ {A : Type 0} where
  -- a name that no member has
  lacks_name : (ps : List (String A × CstInputValue A)) (s : String A) → ((j : ℕ) → j < length ps → get_or (map name_bytes ps) j [] ≡ string_bytes s → ⊥) → LacksMember (chars_of s) (members_plain ps)
  lacks_name [] s h = lacks.no_more
  lacks_name (p ∷ ps) s h =
      lacks.other_name
      (λ e. h 0 (omega arith) (same_text (string_bytes p.0) (string_bytes s) (IsUtf8-string_bytes p.0) (IsUtf8-string_bytes s) e))
      (lacks_name ps s (λ j l e. h (suc j) (omega (arith, l)) e))

  pub names_differ : (ps : List (String A × CstInputValue A)) → Distinct (map name_bytes ps) (length ps) → NamesDiffer (members_plain ps)
  names_differ [] h = tt
  names_differ (p ∷ ps) h = (
    lacks_name ps p.0 (λ j l e. h 0 (suc j) (omega arith) (omega (arith, l)) (sym e)),
    names_differ ps (λ j k b l e. h (suc j) (suc k) (omega (arith, b)) (omega (arith, l)) e),
  )

  -- a name that one of them has is that of a first one
  first_named : (ps : List (String A × CstInputValue A)) (s : String A) (i : ℕ) → i < length ps → get_or (map name_bytes ps) i [] ≡ string_bytes s → (k : ℕ) × IsFirstMember (chars_of s) k (members_plain ps)
  first_named [] s i l e = absurd (omega (arith, l))
  first_named (p ∷ ps) s zero l e = (0, subst (λ n. IsFirstMember (chars_of s) 0 (member n (plain p.1) (members_plain ps))) (sym (ap chars e)) first_is)
  first_named (p ∷ ps) s (suc i) l e = by (bytes_eq (string_bytes p.0) (string_bytes s)) refl (first_named ps s i (omega (arith, l)) e)
    where
      by : (b : Bool) → bytes_eq (string_bytes p.0) (string_bytes s) ≡ b → ((k : ℕ) × IsFirstMember (chars_of s) k (members_plain ps)) → (k : ℕ) × IsFirstMember (chars_of s) k (members_plain (p ∷ ps))
      by true f rest =
          let same : string_bytes p.0 ≡ string_bytes s = (bytes_eq-Decides (string_bytes p.0) (string_bytes s)).0 f in
          (0, subst (λ n. IsFirstMember (chars_of s) 0 (member n (plain p.1) (members_plain ps))) (sym (ap chars same)) first_is)
      by false f rest =
          let other : chars_of p.0 ≢ chars_of s = λ g. false≢true (sym f ∙ (bytes_eq-Decides (string_bytes p.0) (string_bytes s)).1 (same_text (string_bytes p.0) (string_bytes s) (IsUtf8-string_bytes p.0) (IsUtf8-string_bytes s) g)) in
          (suc rest.0, first_later other rest.1)

  -- a name that two of them have occurs twice
  pub repeated_name : (ps : List (String A × CstInputValue A)) (s : String A) (j i : ℕ) → j < i → i < length ps → get_or (map name_bytes ps) j [] ≡ string_bytes s → get_or (map name_bytes ps) i [] ≡ string_bytes s
      → IsRepeated (chars_of s) (members_plain ps)
  repeated_name [] s j i b l d e = absurd (omega (arith, l))
  repeated_name (p ∷ ps) s j zero b l d e = absurd (omega (arith, b))
  repeated_name (p ∷ ps) s zero (suc i) b l d e =
      let rest = first_named ps s i (omega (arith, l)) e in
      subst (λ n. IsRepeated (chars_of s) (member n (plain p.1) (members_plain ps))) (sym (ap chars d)) (this_again rest.1)
  repeated_name (p ∷ ps) s (suc j) (suc i) b l d e =
      by (bytes_eq (string_bytes p.0) (string_bytes s)) refl (repeated_name ps s j i (omega (arith, b)) (omega (arith, l)) d e)
    where
      by : (c : Bool) → bytes_eq (string_bytes p.0) (string_bytes s) ≡ c → IsRepeated (chars_of s) (members_plain ps) → IsRepeated (chars_of s) (members_plain (p ∷ ps))
      by true f rest =
          let same : string_bytes p.0 ≡ string_bytes s = (bytes_eq-Decides (string_bytes p.0) (string_bytes s)).0 f in
          let first = first_named ps s i (omega (arith, l)) e in
          subst (λ n. IsRepeated (chars_of s) (member n (plain p.1) (members_plain ps))) (sym (ap chars same)) (this_again first.1)
      by false f rest =
          let other : chars_of p.0 ≢ chars_of s = λ g. false≢true (sym f ∙ (bytes_eq-Decides (string_bytes p.0) (string_bytes s)).1 (same_text (string_bytes p.0) (string_bytes s) (IsUtf8-string_bytes p.0) (IsUtf8-string_bytes s) g)) in
          later_again other rest

  -- a fault that reports a name that occurs twice
  pub reports_repeated : (ms : Members) (name : List ℕ) (e : MergeFault A) → ReportsName name e → IsRepeated name ms → AreNamesTwice ms e
  reports_repeated ms name (fault.RepeatedName s) h r = subst (λ n. IsRepeated n ms) (sym h) r
  reports_repeated ms name fault.OutOfMemory h r = tt
  reports_repeated ms name fault.NestingDepthExceeded h r = absurd h

  -- no name occurs twice in what is inside
  pub items_unique : (vs : List (CstInputValue A)) → All (λ v. HasUniqueNames (plain v)) vs → ItemsHaveUniqueNames (items_plain vs)
  items_unique [] h = equal.unique_end
  items_unique (v ∷ vs) h = equal.unique_item (All-head (λ x. HasUniqueNames (plain x)) v vs h) (items_unique vs (All-tail (λ x. HasUniqueNames (plain x)) v vs h))

  pub members_unique : (ps : List (String A × CstInputValue A)) → NamesDiffer (members_plain ps) → All (λ p. HasUniqueNames (plain p.1)) ps → MembersHaveUniqueNames (members_plain ps)
  members_unique [] d h = equal.unique_last
  members_unique (p ∷ ps) d h = equal.unique_member d.0 (All-head (λ x. HasUniqueNames (plain x.1)) p ps h) (members_unique ps d.1 (All-tail (λ x. HasUniqueNames (plain x.1)) p ps h))

  -- faults of what is inside
  item_there : (vs : List (CstInputValue A)) (i : ℕ) (v : CstInputValue A) → i < length vs → v ≡ get_or vs i v → IsItem (plain v) i (items_plain vs)
  item_there [] i v l e = absurd (omega (arith, l))
  item_there (x ∷ vs) zero v l e = subst (λ w. IsItem (plain w) 0 (items_plain (x ∷ vs))) (sym e) this_item
  item_there (x ∷ vs) (suc i) v l e = later_item (item_there vs i v (omega (arith, l)) e)

  pub twice_in_element : (vs : List (CstInputValue A)) (i : ℕ) (v : CstInputValue A) (e : MergeFault A) → i < length vs → v ≡ get_or vs i v → HasNameTwice (plain v) e → HasNameTwice (array (items_plain vs)) e
  twice_in_element vs i v (fault.RepeatedName name) l is h = repeats_in_element (item_there vs i v l is) h
  twice_in_element vs i v fault.OutOfMemory l is h = tt
  twice_in_element vs i v fault.NestingDepthExceeded l is h = absurd h

  pub twice_in_member : (ps : List (String A × CstInputValue A)) (i : ℕ) (p : String A × CstInputValue A) (e : MergeFault A) → i < length ps → p ≡ get_or ps i p → HasNameTwice (plain p.1) e → HasNameTwice (object (members_plain ps)) e
  twice_in_member ps i p (fault.RepeatedName name) l is h = repeats_in_member (has_member ps i p l is) h
  twice_in_member ps i p fault.OutOfMemory l is h = tt
  twice_in_member ps i p fault.NestingDepthExceeded l is h = absurd h

  pub twice_of_names : (ms : Members) (e : MergeFault A) → AreNamesTwice ms e → HasNameTwice (object ms) e
  twice_of_names ms (fault.RepeatedName name) h = repeats_here h
  twice_of_names ms fault.OutOfMemory h = tt
  twice_of_names ms fault.NestingDepthExceeded h = absurd h

  -- of the value
  pub unique_so : (v : CstInputValue A) (p : Plain) → plain v ≡ p → HasUniqueNames p → HasUniqueNames (plain v)
  unique_so v p e h = subst HasUniqueNames (sym e) h

  pub twice_so : (v : CstInputValue A) (p : Plain) (e : MergeFault A) → plain v ≡ p → HasNameTwice p e → HasNameTwice (plain v) e
  twice_so v p e is h = subst (λ q. HasNameTwice q e) (sym is) h

-- one more holds, and all do
pub one_holds : {Y : Type 0} (P : Y → Type 0) (ys : List Y) (i : ℕ) (y : Y) → All P (take i ys) → i < length ys → y ≡ get_or ys i y → P y → All P (take (i + 1) ys)
one_holds P ys i y so_far l at h = All-more P ys i y l so_far (subst P at h)

pub all_hold : {Y : Type 0} (P : Y → Type 0) (ys : List Y) (i : ℕ) → All P (take i ys) → length ys ≤ i → All P ys
all_hold P ys i so_far past = subst (All P) (take_all i ys past) so_far
