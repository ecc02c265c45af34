-- How far names lead, and that one operation always puts a value, where none must stay.
use Rattle.std.proofs.Common.{ℕ, suc, ◌≡◌, ◌⊎◌, sym, ap, subst, refl, List, [], ◌∷◌, ◌++◌, Option, Some, None, inl, inr}
use Rattle.jsonc_text.specs.Plain.{Plain, Members, no_members, member}
use Rattle.jsonc_text.specs.Plain as plain
use Rattle.jsonc_text.specs.declared.edit.Over.{Over}
use Rattle.jsonc_text.specs.declared.edit.Over.TheVariants.{Keep, Replace}
use Rattle.jsonc_parser.specs.paths.Operations.{PlainEdit, LacksMember, no_more, other_name, append_property, replace, set_root, set_value}
use Rattle.jsonc_parser.specs.paths.Settings.{FirstAt, this_at, later_at, FirstIs, this_one, later_one, nest, IsNoObject, IsInTheWay, this_in_the_way, inner_in_the_way}
use Rattle.jsonc_parser.specs.paths.Which.{seen, seen_if, seen_members}
use Rattle.jsonc_parser.specs.declared.paths.which.Which.{Which}
use Rattle.jsonc_parser.specs.paths.Positions.{Leads, leads_nowhere, leads_on, sets_root, sets_first, sets_value, appends, replaces, IsPutBy, IsPutByOne, Reaches, to_value, to_missing, to_another}
use Rattle.jsonc_parser.proofs.lemmas.paths.Chosen.{chosen_first, seen_lacks, seen_none, seen_object, seen_other, seen_some}
use Rattle.jsonc_parser.proofs.lemmas.paths.Members.{first_once, same_or_not}
use Rattle.jsonc_parser.proofs.lemmas.paths.Paths.{blocked, blocked_end, blocked_none, keep_no_replace, object_or_not}

first_or_lacks : (name : List ℕ) (ms : Members) → ((v : Plain) × (i : ℕ) × FirstAt name v i ms) ⊎ LacksMember name ms
first_or_lacks name no_members = inr no_more
first_or_lacks name (member n w ms) =
    elim (same_or_not n name) [
      | inl is ↦ inl (w, 0, subst (λ k. FirstAt name w 0 (member k w ms)) (sym is) this_at)
      | inr other ↦
          elim (first_or_lacks name ms) [
            | inl first ↦ inl (first.0, suc first.1, later_at other first.2)
            | inr lacks ↦ inr (other_name other lacks)
          ]
    ]

behind_one : {name : List ℕ} {names : List (List ℕ)} {i : ℕ} {ms : Members} {y : Plain} → FirstAt name y i ms → Reaches y names → Reaches (plain.object ms) (name ∷ names)
behind_one f (to_value l) = to_value (leads_on f l)
behind_one {name} f (to_missing front n rest l lacks) = to_missing (name ∷ front) n rest (leads_on f l) lacks
behind_one {name} f (to_another front n rest l non) = to_another (name ∷ front) n rest (leads_on f l) non

pub reaches : (x : Plain) (names : List (List ℕ)) → Reaches x names
reaches x [] = to_value leads_nowhere
reaches x (name ∷ names) =
    elim (object_or_not x) [
      | inl object ↦
          subst (λ k. Reaches k (name ∷ names)) (sym object.1) (elim (first_or_lacks name object.0) [
            | inl first ↦ behind_one first.2 (reaches first.0 names)
            | inr lacks ↦ to_missing [] name names leads_nowhere lacks
          ])
      | inr non ↦ to_another [] name names leads_nowhere non
    ]

-- a value of another kind that names lead to, before the last, is in the way
pub in_the_way : {which : Which} {front : List (List ℕ)} {path : List ℕ} {x other : Plain} (name : List ℕ) (rest : List (List ℕ)) → Leads which front path x other → IsNoObject other
    → IsInTheWay (Some (seen which x)) (front ++ name ∷ rest)
in_the_way {which} name rest leads_nowhere non = this_in_the_way (seen_other which non)
in_the_way {which} name rest (leads_on {name = n} {names = names} {i = i} {ms = ms} {x = x} f l) non =
    subst (λ k. IsInTheWay (Some k) (n ∷ names ++ name ∷ rest)) (sym (seen_object which ms)) (inner_in_the_way (chosen_first which n x i ms f) (in_the_way name rest l non))

by_reach : (v : Plain) (over : Over) {x : Plain} {names : List (List ℕ)} → Reaches x names → IsPutByOne v over (Some x) names
by_reach v over (to_value leads_nowhere) = inl (set_root v, sets_root)
by_reach v over (to_value (leads_on {i = i} {path = path} f l)) = inl (set_value (i ∷ path) v, sets_value (leads_on f l))
by_reach v over (to_missing front name rest {path = path} l lacks) = inl (append_property path name (nest rest v), appends front rest l lacks)
by_reach v over {x} (to_another front name rest {path = path} l non) = go over refl
  where
    go : (how : Over) → over ≡ how → IsPutByOne v over (Some x) (front ++ name ∷ rest)
    go Keep e = inr (e, in_the_way name rest l non)
    go Replace e = inl (replace path (nest (name ∷ rest) v), replaces front rest l non e)

pub put_by_one : (v : Plain) (over : Over) (w : Option Plain) (names : List (List ℕ)) → IsPutByOne v over w names
put_by_one v over None [] = inl (set_root v, sets_root)
put_by_one v over None (name ∷ names) = inl (set_root (nest (name ∷ names) v), sets_first)
put_by_one v over (Some x) names = by_reach v over (reaches x names)

-- nothing is in the way where an operation puts a value, or it may give way
pub lacking : {name : List ℕ} {v : Plain} {ms : Members} → LacksMember name ms → FirstIs name v ms → ⊥
lacking no_more f = elim f [ ]
lacking (other_name ne l) this_one = ne refl
lacking (other_name ne l) (later_one other f) = lacking l f

pub led_all : {which : Which} {names : List (List ℕ)} {path : List ℕ} {x v : Plain} → Leads which names path x v → IsInTheWay (Some (seen which x)) names → ⊥
led_all leads_nowhere s = blocked_end s refl
led_all {which} (leads_on {name = name} {names = names} {i = i} {ms = ms} {x = x} f l) s =
    let b = blocked s name names (seen_members which ms) refl (ap (λ k. Some k) (seen_object which ms)) in
    led_all l (subst (λ (k : Plain). IsInTheWay (Some k) names) (first_once b.first (chosen_first which name x i ms f)) b.rest)

led_there : {which : Which} {front : List (List ℕ)} {path : List ℕ} {x v : Plain} (rest : List (List ℕ)) → Leads which front path x v → IsInTheWay (Some (seen which x)) (front ++ rest)
    → IsInTheWay (Some (seen which v)) rest
led_there rest leads_nowhere s = s
led_there {which} rest (leads_on {name = name} {names = names} {i = i} {ms = ms} {x = x} f l) s =
    let b = blocked s name (names ++ rest) (seen_members which ms) refl (ap (λ k. Some k) (seen_object which ms)) in
    led_there rest l (subst (λ (k : Plain). IsInTheWay (Some k) (names ++ rest)) (first_once b.first (chosen_first which name x i ms f)) b.rest)

-- in the value of a document
in_value : (which : Which) (x : Plain) (names : List (List ℕ)) → IsInTheWay (seen_if which (Some x)) names → IsInTheWay (Some (seen which x)) names
in_value which x names s = subst (λ (w : Option Plain). IsInTheWay w names) (seen_some which x) s

pub put_is_free : {which : Which} {v : Plain} {over : Over} {w : Option Plain} {names : List (List ℕ)} {e : PlainEdit} → IsPutBy which v over w names e → over ≡ Keep → IsInTheWay (seen_if which w) names → ⊥
put_is_free sets_root keep s = blocked_end s refl
put_is_free {which} sets_first keep s = blocked_none s (seen_none which)
put_is_free {which} (sets_value {name = name} {names = names} {x = x} l) keep s = led_all l (in_value which x (name ∷ names) s)
put_is_free {which} (appends front rest {name = name} {x = x} {ms = ms} l lacks) keep s =
    let b = blocked (led_there (name ∷ rest) l (in_value which x (front ++ name ∷ rest) s)) name rest (seen_members which ms) refl (ap (λ k. Some k) (seen_object which ms)) in
    lacking (seen_lacks which lacks) b.first
put_is_free {over = over} (replaces front rest l non how) keep s = keep_no_replace over keep how
