-- In a value in which of equal names the last is at the first place, no name occurs twice.
use Rattle.std.proofs.Common.{ℕ, ◌≡◌, ◌≢◌, true, false, cond, Bool, List, refl}
use Rattle.std.specs.Str.{bytes_eq}
use Rattle.std.proofs.lemmas.Slice.Eq.{bytes_eq-Decides}
use Rattle.jsonc_text.specs.Plain.{Plain, Items, no_items, item, Members, no_members, member, collapse, collapse_items, collapse_members, last_of, without}
use Rattle.jsonc_text.specs.Plain as plain
use Rattle.jsonc_insert.specs.named.Members.{LacksMember, no_more, other_name}
use Rattle.jsonc_parser.specs.patch.Equality.{HasUniqueNames, unique_null, unique_boolean, unique_number, unique_string, unique_array, unique_object, ItemsHaveUniqueNames, unique_end, unique_item, MembersHaveUniqueNames, unique_last, unique_member}

-- what is left of a list without a name
one_without : (name n : List ℕ) (w : Plain) (b : Bool) (rest : Members) → bytes_eq n name ≡ b → LacksMember name rest → LacksMember name (cond b rest (member n w rest))
one_without name n w true rest e lacks = lacks
one_without name n w false rest e lacks = other_name (λ same. let wrong : bytes_eq n name ≡ true = (bytes_eq-Decides n name).1 same in cc) lacks

without_lacks : (name : List ℕ) (ms : Members) → LacksMember name (without name ms)
without_lacks name no_members = no_more
without_lacks name (member n w ms) = one_without name n w (bytes_eq n name) (without name ms) refl (without_lacks name ms)

one_lacks : (other n : List ℕ) (v : Plain) (b : Bool) (rest : Members) → n ≢ other → LacksMember other rest → LacksMember other (cond b rest (member n v rest))
one_lacks other n v true rest ne lacks = lacks
one_lacks other n v false rest ne lacks = other_name ne lacks

lacks_without : (other name : List ℕ) {ms : Members} → LacksMember other ms → LacksMember other (without name ms)
lacks_without other name no_more = no_more
lacks_without other name (other_name {n = n} {v = v} {ms = ms} ne lacks) = one_lacks other n v (bytes_eq n name) (without name ms) ne (lacks_without other name lacks)

one_unique : (n : List ℕ) (v : Plain) (b : Bool) (rest : Members) → LacksMember n rest → HasUniqueNames v → MembersHaveUniqueNames rest → MembersHaveUniqueNames (cond b rest (member n v rest))
one_unique n v true rest lacks one all = all
one_unique n v false rest lacks one all = unique_member lacks one all

pub unique_without : (name : List ℕ) {ms : Members} → MembersHaveUniqueNames ms → MembersHaveUniqueNames (without name ms)
unique_without name unique_last = unique_last
unique_without name (unique_member {name = n} {v = v} {ms = ms} lacks one rest) = one_unique n v (bytes_eq n name) (without name ms) (lacks_without n name lacks) one (unique_without name rest)

unique_last_of : (name : List ℕ) (v : Plain) {ms : Members} → HasUniqueNames v → MembersHaveUniqueNames ms → HasUniqueNames (last_of name v ms)
unique_last_of name v h unique_last = h
unique_last_of name v h (unique_member {name = n} {v = w} {ms = ms} lacks one rest) = unique_last_of name (cond (bytes_eq n name) w v) (go (bytes_eq n name)) rest
  where
    go : (b : Bool) → HasUniqueNames (cond b w v)
    go true = one
    go false = h

mutual
  pub unique_collapse : (v : Plain) → HasUniqueNames (collapse v)
  unique_collapse plain.null = unique_null
  unique_collapse (plain.boolean b) = unique_boolean
  unique_collapse (plain.number s) = unique_number
  unique_collapse (plain.string s) = unique_string
  unique_collapse (plain.array vs) = unique_array (unique_items vs)
  unique_collapse (plain.object ms) = unique_object (unique_members ms)

  unique_items : (vs : Items) → ItemsHaveUniqueNames (collapse_items vs)
  unique_items no_items = unique_end
  unique_items (item v vs) = unique_item (unique_collapse v) (unique_items vs)

  unique_members : (ms : Members) → MembersHaveUniqueNames (collapse_members ms)
  unique_members no_members = unique_last
  unique_members (member name v ms) =
      let rest = unique_members ms in
      unique_member (without_lacks name (collapse_members ms)) (unique_last_of name (collapse v) (unique_collapse v) rest) (unique_without name rest)
