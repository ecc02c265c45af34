-- Values for edits, made one after another.
use Rattle.std.proofs.Common.{◌≡◌, ◌∙◌, sym, ap, refl, Bool, true, false, cond, ℕ, List, [], ◌∷◌, ◌++◌, Option, None, Some, option_map, string_bytes}
use Rattle.std.specs.Str.{bytes_eq}
use Rattle.std.specs.declared.string.String.{String}
use Rattle.std.proofs.lemmas.Str.{IsUtf8-string_bytes}
use Rattle.jsonc_text.specs.Options.{Options}
use Rattle.jsonc_text.specs.Plain.{Plain, Items, no_items, item, member, collapse, collapse_items, collapse_members}
use Rattle.jsonc_text.proofs.Collapse.{push, put, collapse_push}
use Rattle.jsonc_text.proofs.TokenTexts.{same_bytes}
use Rattle.jsonc_walk.specs.Located.{Located, value_at, items_at, members_at, LocatedMember, items_of, members_of}
use Rattle.jsonc_walk.specs.Handed.{IsDocumentMade}
use Rattle.jsonc_walk.proofs.lemmas.Grammar.{located_document}
use Rattle.jsonc_layout.specs.declared.input.value.CstInputValue.{CstInputValue}
use Rattle.jsonc_layout.specs.input.Views.{plain, chars_of, items_plain, members_plain}
use Rattle.jsonc_layout.specs.to_input.Taken.{inserted}
use Rattle.jsonc_input.specs.Made.{AreElements, AreProperties, IsMade, IsName}
use Rattle.jsonc_input.specs.Reads.{IsValueOfText}

-- the values, and then one more
abbrev push_item : Items → Plain → Items
push_item no_items v = item v no_items
push_item (item w vs) v = item w (push_item vs v)

collapse_items-push : (vs : Items) (v : Plain) → collapse_items (push_item vs v) ≡ push_item (collapse_items vs) (collapse v)
collapse_items-push no_items v = refl
collapse_items-push (item w vs) v = ap (item (collapse w)) (collapse_items-push vs v)

items_at-push : (xs : List Located) (x : Located) → items_at (items_of (xs ++ x ∷ [])) ≡ push_item (items_at (items_of xs)) (value_at x)
items_at-push [] x = refl
items_at-push (y ∷ xs) x = ap (item (value_at y)) (items_at-push xs x)

members_at-push : (ms : List LocatedMember) (m : LocatedMember) → members_at (members_of (ms ++ m ∷ [])) ≡ push (members_at (members_of ms)) m.name.name (value_at m.value)
members_at-push [] m = refl
members_at-push (n ∷ ms) m = ap (member n.name.name (value_at n.value)) (members_at-push ms m)

module _ {A : Type 0} where
  items_plain-push : (vs : List (CstInputValue A)) (v : CstInputValue A) → items_plain (vs ++ v ∷ []) ≡ push_item (items_plain vs) (plain v)
  items_plain-push [] v = refl
  items_plain-push (w ∷ vs) v = ap (item (plain w)) (items_plain-push vs v)

  -- what is inserted is put
  members_plain-inserted : (ps : List (String A × CstInputValue A)) (k : String A) (v : CstInputValue A) → members_plain (inserted ps k v) ≡ put (chars_of k) (plain v) (members_plain ps)
  members_plain-inserted [] k v = refl
  members_plain-inserted (p ∷ ps) k v =
      rw (sym (same_bytes (string_bytes k) (string_bytes p.0) (IsUtf8-string_bytes k) (IsUtf8-string_bytes p.0))) (go (bytes_eq (string_bytes k) (string_bytes p.0)) (members_plain-inserted ps k v))
    where
      go : (b : Bool) → members_plain (inserted ps k v) ≡ put (chars_of k) (plain v) (members_plain ps)
          → members_plain (cond b ((p.0, v) ∷ ps) (p ∷ inserted ps k v)) ≡ cond b (member (chars_of p.0) (plain v) (members_plain ps)) (member (chars_of p.0) (plain p.1) (put (chars_of k) (plain v) (members_plain ps)))
      go true e = refl
      go false e = ap (member (chars_of p.0) (plain p.1)) e

  -- one element more
  pub element_added : (vs ws : List (CstInputValue A)) (v : CstInputValue A) (xs : List Located) (x : Located) → ws ≡ vs ++ v ∷ [] → AreElements vs xs → IsMade v x → AreElements ws (xs ++ x ∷ [])
  element_added vs ws v xs x pushed held made =
      ap items_plain pushed ∙ items_plain-push vs v ∙ ap (λ r. push_item r (plain v)) held ∙ ap (push_item (collapse_items (items_at (items_of xs)))) made
      ∙ sym (collapse_items-push (items_at (items_of xs)) (value_at x)) ∙ ap collapse_items (sym (items_at-push xs x))

  -- one property more, or another value of a name that is there
  pub property_put : (ps qs : List (String A × CstInputValue A)) (k : String A) (v : CstInputValue A) (ms : List LocatedMember) (m : LocatedMember)
      → qs ≡ inserted ps k v → AreProperties ps ms → IsName k m.name → IsMade v m.value → AreProperties qs (ms ++ m ∷ [])
  property_put ps qs k v ms m put_there held named made =
      let rest = members_at (members_of ms) in
      ap members_plain put_there ∙ members_plain-inserted ps k v ∙ ap (put (chars_of k) (plain v)) held
      ∙ ap (λ n. put n (plain v) (collapse_members rest)) named ∙ ap (λ w. put m.name.name w (collapse_members rest)) made
      ∙ sym (collapse_push rest m.name.name (value_at m.value)) ∙ ap collapse_members (sym (members_at-push ms m))

  -- the value of a document
  pub document_read : (o : Options) (text : List ℕ) (found : Option (CstInputValue A)) {made : CstInputValue A → Located → Type 0} → ((v : CstInputValue A) (x : Located) → made v x → IsMade v x)
      → IsDocumentMade (record { bytes = text; options = o }) true made found → IsValueOfText o text (option_map plain found)
  document_read o text None means h = record { value = None; document = located_document o text None h; collapsed = refl }
  document_read o text (Some v) means (x, document, small, made) = record { value = Some (value_at x); document = located_document o text (Some x) document; collapsed = ap Some (means v x made) }
