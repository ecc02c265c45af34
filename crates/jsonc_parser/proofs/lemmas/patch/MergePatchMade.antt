-- What the function of a merge patch makes of nothing.
use Rattle.std.proofs.Common.{ℕ, ◌≡◌, ◌≢◌, ◌⊎◌, ◌∙◌, ap, sym, subst, refl, inl, inr, List, Option, None}
use Rattle.jsonc_text.specs.Plain.{Plain, null, boolean, number, string, array, object, Members, no_members, member}
use Rattle.jsonc_insert.specs.named.Members.{LacksMember, no_more, other_name}
use Rattle.jsonc_parser.specs.patch.Equality as equal
use Rattle.jsonc_parser.specs.patch.Equality.{HasMember, this_has, later_has, HasUniqueNames, MembersHaveUniqueNames}
use Rattle.jsonc_parser.specs.patch.MergePatch.{members_in, with_member, merged, members_merged}
use Rattle.jsonc_parser.specs.patch.Merging.{made_of, members_made}
use Rattle.jsonc_parser.proofs.lemmas.paths.Members.{same_or_not}
use Rattle.jsonc_parser.proofs.lemmas.patch.MergePatchMembers.{lacks_value, lacks_without, made_more, merged_more, with_here, with_past}

-- the members of the first, and then those of the second
abbrev joined : Members → Members → Members
joined no_members ks = ks
joined (member n v ms) ks = member n v (joined ms ks)

joined_none : (ms : Members) → joined ms no_members ≡ ms
joined_none no_members = refl
joined_none (member n v ms) = ap (member n v) (joined_none ms)

-- none of the second names is one of the first
abbrev Apart : Members → Members → Type 0
Apart ns ms = (name : List ℕ) (v : Plain) → HasMember name v ms → LacksMember name ns

with_joined : {name : List ℕ} {ns : Members} → LacksMember name ns → (v : Plain) (ks : Members) → joined (with_member name v ns) ks ≡ joined ns (member name v ks)
with_joined no_more v ks = refl
with_joined {name} (other_name {n = n} {v = w} {ms = ms} ne l) v ks = ap (λ t. joined t ks) (with_past name n v w ms ne) ∙ ap (member n w) (with_joined l v ks)

pub lacks_with : {other : List ℕ} {ns : Members} → LacksMember other ns → (name : List ℕ) (v : Plain) → name ≢ other → LacksMember other (with_member name v ns)
lacks_with no_more name v ne = other_name ne no_more
lacks_with {other} (other_name {n = n} {v = w} {ms = ms} far l) name v ne =
    elim (same_or_not n name) [
      | inl is ↦ subst (λ k. LacksMember other (with_member name v (member k w ms))) (sym is) (subst (LacksMember other) (sym (with_here name v w ms)) (other_name ne l))
      | inr apart ↦ subst (LacksMember other) (sym (with_past name n v w ms apart)) (other_name far (lacks_with l name v ne))
    ]

has_other : {name n : List ℕ} {v : Plain} {ms : Members} → LacksMember name ms → HasMember n v ms → n ≢ name
has_other no_more h = elim h [ ]
has_other (other_name ne l) this_has = ne
has_other (other_name ne l) (later_has h) = has_other l h

pub null_or_not : (v : Plain) → (v ≡ null) ⊎ (v ≢ null)
null_or_not null = inl refl
null_or_not (boolean b) = inr (λ e. cc)
null_or_not (number s) = inr (λ e. cc)
null_or_not (string s) = inr (λ e. cc)
null_or_not (array vs) = inr (λ e. cc)
null_or_not (object ms) = inr (λ e. cc)

mutual
  pub made_unique : {v : Plain} → HasUniqueNames v → merged None v ≡ made_of v
  made_unique equal.unique_null = refl
  made_unique equal.unique_boolean = refl
  made_unique equal.unique_number = refl
  made_unique equal.unique_string = refl
  made_unique (equal.unique_array h) = refl
  made_unique (equal.unique_object h) = ap object (grown h no_members (λ name v has. no_more))

  grown : {ms : Members} → MembersHaveUniqueNames ms → (ns : Members) → Apart ns ms → members_merged ns ms ≡ joined ns (members_made ms)
  grown equal.unique_last ns apart = sym (joined_none ns)
  grown (equal.unique_member {name = name} {v = v} {ms = ms} lacks h k) ns apart =
      let l : LacksMember name ns = apart name v this_has in
      elim (null_or_not v) [
        | inl e ↦
            ap (λ x. members_merged ns (member name x ms)) e ∙ ap (λ t. members_merged t ms) (lacks_without l) ∙ grown k ns (λ n x has. apart n x (later_has has))
            ∙ ap (λ x. joined ns (members_made (member name x ms))) (sym e)
        | inr ne ↦
            merged_more ns name v ms ne ∙ ap (λ o. members_merged (with_member name (merged o v) ns) ms) (lacks_value l)
            ∙ ap (λ x. members_merged (with_member name x ns) ms) (made_unique h)
            ∙ grown k (with_member name (made_of v) ns) (λ n x has. lacks_with (apart n x (later_has has)) name (made_of v) (λ e. has_other lacks has (sym e)))
            ∙ with_joined l (made_of v) (members_made ms) ∙ ap (joined ns) (sym (made_more name v ms ne))
      ]

-- nor of what is no object, or for a patch that is none
pub made_anew : (w : Option Plain) (p : Plain) → HasUniqueNames p → ((ms : Members) → p ≡ object ms → members_in w ≡ no_members) → merged w p ≡ made_of p
made_anew w null h none = refl
made_anew w (boolean b) h none = refl
made_anew w (number s) h none = refl
made_anew w (string s) h none = refl
made_anew w (array vs) h none = refl
made_anew w (object ms) h none = ap (λ l. object (members_merged l ms)) (none ms refl) ∙ made_unique h
