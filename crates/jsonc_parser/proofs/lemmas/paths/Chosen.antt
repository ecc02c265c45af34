-- The property that is chosen of several of one name, the first or the last: as it is seen it is the first.
use Rattle.std.proofs.Common.{ℕ, ◌≡◌, ◌<◌, ap, refl, List, [], ◌∷◌, Some, None, arith}
use Rattle.jsonc_text.specs.Plain.{Plain, Members, no_members, member, collapse}
use Rattle.jsonc_text.specs.Plain as plain
use Rattle.jsonc_parser.specs.paths.Operations.{MemberChanged, this_member, later_member, MemberInserted, member_count, LacksMember, no_more, other_name}
use Rattle.jsonc_insert.specs.elements.Members as inserted
use Rattle.jsonc_parser.specs.paths.Settings.{FirstAt, this_at, later_at, FirstIs, this_one, later_one, FirstBecomes, this_becomes, later_becomes, IsAppended, appended_alone, appended_after, nest, IsNoObject}
use Rattle.jsonc_parser.specs.paths.Which.{IsChosenAt, LastAt, last_one, last_later, seen, seen_if, seen_members}
use Rattle.jsonc_parser.specs.declared.paths.which.Which.{Which}
use Rattle.jsonc_parser.specs.declared.paths.which.Which.TheVariants.{First, Last}
use Rattle.jsonc_parser.proofs.lemmas.paths.Collapsed.{becomes_alone, becomes_behind, comes_collapsed, first_alone, first_behind, lacks_collapsed}

-- what is seen of an object, of what is nested, of another value and of a document's value
pub seen_object : (which : Which) (ms : Members) → seen which (plain.object ms) ≡ plain.object (seen_members which ms)
seen_object First ms = refl
seen_object Last ms = refl

pub seen_nest : (which : Which) (names : List (List ℕ)) (v : Plain) → seen which (nest names v) ≡ nest names (seen which v)
seen_nest First names v = refl
seen_nest Last [] v = refl
seen_nest Last (name ∷ names) v = ap (λ x. plain.object (member name x no_members)) (seen_nest Last names v)

collapsed_other : (x : Plain) → IsNoObject x → IsNoObject (collapse x)
collapsed_other plain.null non ms e = cc
collapsed_other (plain.boolean b) non ms e = cc
collapsed_other (plain.number s) non ms e = cc
collapsed_other (plain.string s) non ms e = cc
collapsed_other (plain.array vs) non ms e = cc
collapsed_other (plain.object os) non ms e = absurd (non os refl)

pub seen_other : (which : Which) {x : Plain} → IsNoObject x → IsNoObject (seen which x)
seen_other First non = non
seen_other Last {x} non = collapsed_other x non

pub seen_some : (which : Which) (x : Plain) → seen_if which (Some x) ≡ Some (seen which x)
seen_some First x = refl
seen_some Last x = refl

pub seen_none : (which : Which) → seen_if which None ≡ None
seen_none First = refl
seen_none Last = refl

pub seen_lacks : (which : Which) {name : List ℕ} {ms : Members} → LacksMember name ms → LacksMember name (seen_members which ms)
seen_lacks First l = l
seen_lacks Last l = lacks_collapsed l

-- the one that is chosen is the first that is seen
pub at_first : {name : List ℕ} {v : Plain} {i : ℕ} {ms : Members} → FirstAt name v i ms → FirstIs name v ms
at_first this_at = this_one
at_first (later_at ne f) = later_one ne (at_first f)

last_first : {name : List ℕ} {v : Plain} {i : ℕ} {ms : Members} → LastAt name v i ms → FirstIs name (collapse v) (plain.collapse_members ms)
last_first {v = v} (last_one l) = first_alone v l
last_first (last_later {n = n} {w = w} {ms = ms} f) = first_behind n w ms (last_first f)

pub chosen_first : (which : Which) (name : List ℕ) (v : Plain) (i : ℕ) (ms : Members) → IsChosenAt which name v i ms → FirstIs name (seen which v) (seen_members which ms)
chosen_first First name v i ms f = at_first f
chosen_first Last name v i ms f = last_first f

-- where it has become another
pub at_changes : {name : List ℕ} {v was now : Plain} {i : ℕ} {ms ns : Members} → FirstAt name v i ms → MemberChanged was now i ms ns → (v ≡ was) × FirstBecomes name was now ms ns
at_changes this_at this_member = (refl, this_becomes)
at_changes (later_at ne f) (later_member c) = let g = at_changes f c in (g.0, later_becomes ne g.1)

last_changes : {name : List ℕ} {v was now : Plain} {i : ℕ} {ms ns : Members} → LastAt name v i ms → MemberChanged was now i ms ns
    → (v ≡ was) × FirstBecomes name (collapse was) (collapse now) (plain.collapse_members ms) (plain.collapse_members ns)
last_changes {was = was} {now = now} (last_one l) this_member = (refl, becomes_alone was now l)
last_changes (last_later {n = n} {w = w} {ms = ms} f) (later_member {ns = ns} c) = let g = last_changes f c in (g.0, becomes_behind n w ms ns g.1)

pub chosen_changes : (which : Which) {name : List ℕ} {v was now : Plain} {i : ℕ} {ms ns : Members} → IsChosenAt which name v i ms → MemberChanged was now i ms ns
    → (v ≡ was) × FirstBecomes name (seen which was) (seen which now) (seen_members which ms) (seen_members which ns)
chosen_changes First f c = at_changes f c
chosen_changes Last f c = last_changes f c

-- it can become itself, and is one of all
pub at_itself : {name : List ℕ} {v : Plain} {i : ℕ} {ms : Members} → FirstAt name v i ms → MemberChanged v v i ms ms
at_itself this_at = this_member
at_itself (later_at ne f) = later_member (at_itself f)

last_itself : {name : List ℕ} {v : Plain} {i : ℕ} {ms : Members} → LastAt name v i ms → MemberChanged v v i ms ms
last_itself (last_one l) = this_member
last_itself (last_later f) = later_member (last_itself f)

pub chosen_itself : (which : Which) (name : List ℕ) (v : Plain) (i : ℕ) (ms : Members) → IsChosenAt which name v i ms → MemberChanged v v i ms ms
chosen_itself First name v i ms f = at_itself f
chosen_itself Last name v i ms f = last_itself f

at_within : {name : List ℕ} {v : Plain} {i : ℕ} {ms : Members} → FirstAt name v i ms → i < member_count ms
at_within (this_at {ms = ms}) = omega arith
at_within (later_at {i = i} {ms = ms} ne f) = let h = at_within f in omega (arith, h)

last_within : {name : List ℕ} {v : Plain} {i : ℕ} {ms : Members} → LastAt name v i ms → i < member_count ms
last_within (last_one {ms = ms} l) = omega arith
last_within (last_later {i = i} {ms = ms} f) = let h = last_within f in omega (arith, h)

pub chosen_within : (which : Which) (name : List ℕ) (v : Plain) (i : ℕ) (ms : Members) → IsChosenAt which name v i ms → i < member_count ms
chosen_within First name v i ms f = at_within f
chosen_within Last name v i ms f = last_within f

-- one of a name that none had, put after all, is appended
appended_after_all : {name : List ℕ} {v : Plain} {ms ns : Members} {i : ℕ} → i ≡ member_count ms → LacksMember name ms → MemberInserted name v i ms ns → IsAppended name v ms ns
appended_after_all e no_more inserted.this_member = appended_alone
appended_after_all e (other_name {ms = ms} ne l) inserted.this_member = absurd (omega (arith, e))
appended_after_all e (other_name {ms = ms} ne l) (inserted.later_member {i = i} c) = appended_after ne (appended_after_all (omega (arith, e)) l c)

pub chosen_comes : (which : Which) {name : List ℕ} {v : Plain} {ms ns : Members} {i : ℕ} → i ≡ member_count ms → LacksMember name ms → MemberInserted name v i ms ns
    → IsAppended name (seen which v) (seen_members which ms) (seen_members which ns)
chosen_comes First e l c = appended_after_all e l c
chosen_comes Last e l c = comes_collapsed (appended_after_all e l c)
