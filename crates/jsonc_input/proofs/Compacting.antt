-- JSON text of values, piece by piece.
use Rattle.std.proofs.Common.{◌≡◌, ℕ, ◌+◌, ◌*◌, ◌<◌, ◌≤◌, Bool, true, false, List, [], ◌∷◌, ◌++◌, length, drop, get_or, ap, sym, refl, Result, Ok, Err, IfOk, if◌then◌else◌, subst, ◌∙◌, encode_utf8_all, string_bytes, arith}
use denote.Param.Weighed.{most, at_most}
use Rattle.std.proofs.lemmas.List.{append_assoc, append-nil, drop_more, drop_all}
use Rattle.std.proofs.lemmas.Str.{encodes-append}
use Rattle.std.specs.Result.{is_ok}
use Rattle.std.specs.declared.string.String.{String}
use Rattle.jsonc_text.specs.Plain.{Items, Members}
use Rattle.jsonc_text.specs.Spelling.{spelled}
use Rattle.jsonc_layout.specs.declared.input.value.CstInputValue.{CstInputValue}
use Rattle.jsonc_layout.specs.input.Views.{plain, chars_of, items_plain, members_plain}
use Rattle.jsonc_input.specs.Compact.{Appends, after_comma, compact, compact_items, compact_members}

-- a comma before the first of two texts
after_comma-apart : (apart : Bool) (xs ys : List ℕ) → after_comma apart (xs ++ ys) ≡ (after_comma apart [] ++ xs) ++ ys
after_comma-apart true xs ys = refl
after_comma-apart false xs ys = refl

-- what an append that succeeds has written
pub on_ok : {X E : Type 0} (r : Result X E) (s t u : List ℕ) (Q : Type 0) → (s ≡ t → Q) → s ≡ (if is_ok r then t else u) → IfOk r (λ x. Q)
on_ok (Ok x) s t u Q f h = f h
on_ok (Err e) s t u Q f h = tt

-- A part of one of the properties is smaller than all of them.
pub part_smaller : {P : Type 0} (size : P → ℕ) (ps : List P) (i : ℕ) (p : P) (n t k m : ℕ)
    → 3 * most size ps + k ≡ t → i < length ps → p ≡ get_or ps i p → 3 * n + m < 3 * size p + k → 3 * n + m < t
part_smaller size ps i p n t k m whole within at part =
    let bound : size (get_or ps i p) ≤ most size ps = at_most size ps i p within in
    let same : size p ≡ size (get_or ps i p) = ap size at in
    omega arith

module _ {A : Type 0} where
  -- nothing has been appended
  pub appends_none : (s : String A) → Appends s s []
  appends_none s = sym (append-nil (string_bytes s))

  -- one text after another
  pub appends_then : (s t u : String A) (xs ys : List ℕ) → Appends s t xs → Appends t u ys → Appends s u (xs ++ ys)
  appends_then s t u xs ys e f =
      f ∙ ap (λ b. b ++ encode_utf8_all ys) e
      ∙ append_assoc (string_bytes s) (encode_utf8_all xs) (encode_utf8_all ys)
      ∙ ap (λ b. string_bytes s ++ b) (sym (encodes-append xs ys))

  -- the texts of what is still to come, from a place on
  abbrev pub items_from : Bool → List (CstInputValue A) → ℕ → List ℕ
  items_from apart vs place = compact_items apart (items_plain (drop place vs))

  abbrev pub members_from : Bool → List (String A × CstInputValue A) → ℕ → List ℕ
  members_from apart ps place = compact_members apart (members_plain (drop place ps))

  -- So much has been appended that it is all with what is still to come.
  pub record Leads (old now : String A) (left all : List ℕ) : Type 0 where
    pub appended : List ℕ
    pub appends : Appends old now appended
    pub whole : appended ++ left ≡ all

  pub leads_start : (s : String A) (all : List ℕ) → Leads s s all all
  leads_start s all = record { appended = []; appends = appends_none s; whole = refl }

  pub leads_more : (old now new : String A) (left piece rest all : List ℕ) → Leads old now left all → left ≡ piece ++ rest → Appends now new piece → Leads old new rest all
  leads_more old now new left piece rest all l e a = record {
    appended = l.appended ++ piece;
    appends = appends_then old now new l.appended piece l.appends a;
    whole = append_assoc l.appended piece rest ∙ ap (λ t. l.appended ++ t) (sym e) ∙ l.whole;
  }

  pub leads_end : (old now : String A) (left all : List ℕ) → Leads old now left all → left ≡ [] → Appends old now all
  leads_end old now left all l e = subst (Appends old now) (sym (append-nil l.appended) ∙ ap (λ t. l.appended ++ t) (sym e) ∙ l.whole) l.appends

  -- an element, and a property
  pub item_at : (apart : Bool) (vs : List (CstInputValue A)) (place : ℕ) (x : CstInputValue A) → place < length vs → x ≡ get_or vs place x
      → items_from apart vs place ≡ (after_comma apart [] ++ compact (plain x)) ++ items_from true vs (place + 1)
  item_at apart vs place x h e =
      ap (λ l. compact_items apart (items_plain l)) (drop_more vs place x h)
      ∙ ap (λ y. after_comma apart (compact (plain y) ++ items_from true vs (place + 1))) (sym e)
      ∙ after_comma-apart apart (compact (plain x)) (items_from true vs (place + 1))

  pub items_end : (apart : Bool) (vs : List (CstInputValue A)) (place : ℕ) → length vs ≤ place → items_from apart vs place ≡ []
  items_end apart vs place h = ap (λ l. compact_items apart (items_plain l)) (drop_all place vs h)

  -- the text of a property
  abbrev pub pair : String A × CstInputValue A → List ℕ
  pair p = spelled (chars_of p.0) ++ (0x3A ∷ compact (plain p.1))

  pub member_at : (apart : Bool) (ps : List (String A × CstInputValue A)) (place : ℕ) (p : String A × CstInputValue A) → place < length ps → p ≡ get_or ps place p
      → members_from apart ps place ≡ (after_comma apart [] ++ pair p) ++ members_from true ps (place + 1)
  member_at apart ps place p h e =
      ap (λ l. compact_members apart (members_plain l)) (drop_more ps place p h)
      ∙ ap (λ q. after_comma apart (pair q ++ members_from true ps (place + 1))) (sym e)
      ∙ after_comma-apart apart (pair p) (members_from true ps (place + 1))

  pub members_end : (apart : Bool) (ps : List (String A × CstInputValue A)) (place : ℕ) → length ps ≤ place → members_from apart ps place ≡ []
  members_end apart ps place h = ap (λ l. compact_members apart (members_plain l)) (drop_all place ps h)
