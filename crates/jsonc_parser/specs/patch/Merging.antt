-- What a merge patch makes of the value of a document (RFC 7396, 2), at the place that tokens refer to. It is none itself where the document has no value.
use Rattle.std.specs.Prelude.{◌≡◌, ◌≢◌, ◌++◌, ◌∷◌, [], ℕ, List, Option}
use Rattle.jsonc_text.specs.Plain.{Plain, null, boolean, number, string, array, object, collapse, Members, no_members, member}
use Rattle.jsonc_run.specs.texts.Entries.{members, Named}
use Rattle.jsonc_parser.specs.patch.Equality.{AreEqual}
use Rattle.jsonc_parser.specs.patch.Failing.{ReferToNothing}
use Rattle.jsonc_parser.specs.patch.Operations.{add, remove, Makes, Operation}
use Rattle.jsonc_parser.specs.patch.References.{FailsAt, RefersTo}

-- what merging makes where there is no value: of an object its members, but for those of the value null, and so in their values
abbrev mutual
  pub made_of : Plain → Plain
  made_of null = null
  made_of (boolean b) = boolean b
  made_of (number s) = number s
  made_of (string s) = string s
  made_of (array vs) = array vs
  made_of (object ms) = object (members_made ms)

  pub members_made : Members → Members
  members_made no_members = no_members
  members_made (member name null ms) = members_made ms
  members_made (member name (boolean b) ms) = member name (boolean b) (members_made ms)
  members_made (member name (number s) ms) = member name (number s) (members_made ms)
  members_made (member name (string s) ms) = member name (string s) (members_made ms)
  members_made (member name (array vs) ms) = member name (array vs) (members_made ms)
  members_made (member name (object ns) ms) = member name (object (members_made ns)) (members_made ms)

-- the patch goes into the value that the tokens refer to: both are objects
abbrev pub GoesInto : Plain → List (List ℕ) → Option Plain → Type 0
GoesInto p tokens w = (ms ns : Members) × (p ≡ object ms) × RefersTo w tokens (object ns)

-- the value that the tokens refer to is equal to this one, with the same texts of numbers
abbrev pub IsThere : Plain → List (List ℕ) → Option Plain → Type 0
IsThere v tokens w = (x : Plain) × RefersTo w tokens x × AreEqual (λ s t. s ≡ t) v (collapse x)

-- What merging leads to may be said of values, and of documents: by the value that each of them has, and by what it is for an operation of a patch to lead from one to another.
module _ {S : Type 0} (value_of : S → Option Plain) (Leads : Operation → S → S → Type 0) where
  mutual
    -- A patch goes into an object member by member. Else what it makes of nothing is the value, and nothing changes, or is added in its place.
    pub data MergesBy : List (List ℕ) → Plain → S → S → Type 0 where
      inside : {tokens : List (List ℕ)} {ms ns : Members} {w y : S} → RefersTo (value_of w) tokens (object ns) → MembersMergeBy tokens ms w y → MergesBy tokens (object ms) w y
      same : {tokens : List (List ℕ)} {p : Plain} {w : S} → ¬ (GoesInto p tokens (value_of w)) → IsThere (made_of p) tokens (value_of w) → MergesBy tokens p w w
      put : {tokens : List (List ℕ)} {p : Plain} {w y : S} → ¬ (GoesInto p tokens (value_of w)) → ¬ (IsThere (made_of p) tokens (value_of w)) → Leads (add tokens (made_of p)) w y
          → MergesBy tokens p w y

    -- One after another: for null the member of the name is removed, if there is one; any other value is merged at the name.
    pub data MembersMergeBy : List (List ℕ) → Members → S → S → Type 0 where
      no_more : {tokens : List (List ℕ)} {w : S} → MembersMergeBy tokens no_members w w
      removed : {tokens : List (List ℕ)} {name : List ℕ} {ms : Members} {w u y : S} → Leads (remove (tokens ++ name ∷ [])) w u → MembersMergeBy tokens ms u y
          → MembersMergeBy tokens (member name null ms) w y
      absent : {tokens : List (List ℕ)} {name : List ℕ} {ms : Members} {w y : S} → ReferToNothing (value_of w) (tokens ++ name ∷ []) → MembersMergeBy tokens ms w y
          → MembersMergeBy tokens (member name null ms) w y
      merged : {tokens : List (List ℕ)} {name : List ℕ} {p : Plain} {ms : Members} {w u y : S} → p ≢ null → MergesBy (tokens ++ name ∷ []) p w u → MembersMergeBy tokens ms u y
          → MembersMergeBy tokens (member name p ms) w y

-- of values
abbrev pub Merges : List (List ℕ) → Plain → Option Plain → Option Plain → Type 0
Merges tokens p w y = MergesBy (λ (x : Option Plain). x) Makes tokens p w y

abbrev pub MembersMerge : List (List ℕ) → Members → Option Plain → Option Plain → Type 0
MembersMerge tokens ms w y = MembersMergeBy (λ (x : Option Plain). x) Makes tokens ms w y

-- Behind the members of a patch that were merged, the place of the next fails: its name, the last token, is that of more than one member. Or so it is below it.
pub data Stops (name : List ℕ) : List (List ℕ) → Plain → Option Plain → Type 0 where
  here : {tokens : List (List ℕ)} {ns : Members} {w u : Option Plain} (front back : List Named) (next : Named) → RefersTo w tokens (object ns) → MembersMerge tokens (members front) w u
      → FailsAt u (tokens ++ next.name ∷ []) name → Stops name tokens (object (members (front ++ next ∷ back))) w
  below : {tokens : List (List ℕ)} {ns : Members} {w u : Option Plain} (front back : List Named) (next : Named) → RefersTo w tokens (object ns) → MembersMerge tokens (members front) w u
      → Stops name (tokens ++ next.name ∷ []) next.value u → Stops name tokens (object (members (front ++ next ∷ back))) w
