-- A property that is inserted into a map is put among its members.
use Rattle.std.proofs.Common.{◌≡◌, sym, ap, refl, Bool, true, false, cond, List, [], ◌∷◌, IsUtf8}
use Rattle.std.specs.Cow.{cow_str_bytes}
use Rattle.std.specs.declared.borrow.CowStr.{CowStr}
use Rattle.jsonc_text.specs.Plain.{member}
use Rattle.jsonc_text.proofs.TokenTexts.{same_bytes}
use Rattle.jsonc_value.specs.declared.value.JsonValue.{JsonValue}
use Rattle.jsonc_value.specs.to_value.Made.{AreTexts}
use Rattle.jsonc_value.specs.to_value.Views.{plain, name_of, same_name, inserted, members_plain}
use Rattle.jsonc_text.proofs.Collapse.{put}

module _ {A : Type 0} where
  pub insert_texts : (ps : List (CowStr A × JsonValue A)) (k : CowStr A) (v : JsonValue A) → AreTexts ps → IsUtf8 (cow_str_bytes k) → AreTexts (inserted ps k v)
  insert_texts [] k v h u = (u, tt)
  insert_texts (p ∷ ps) k v h u = go (same_name k p.0) (insert_texts ps k v h.1 u)
    where
      go : (b : Bool) → AreTexts (inserted ps k v) → AreTexts (cond b ((p.0, v) ∷ ps) (p ∷ inserted ps k v))
      go true l = h
      go false l = (h.0, l)

  pub insert_puts : (ps : List (CowStr A × JsonValue A)) (k : CowStr A) (v : JsonValue A) → AreTexts ps → IsUtf8 (cow_str_bytes k) → members_plain (inserted ps k v) ≡ put (name_of k) (plain v) (members_plain ps)
  insert_puts [] k v h u = refl
  insert_puts (p ∷ ps) k v h u =
      rw (sym (same_bytes (cow_str_bytes k) (cow_str_bytes p.0) u h.0)) (go (same_name k p.0) (insert_puts ps k v h.1 u))
    where
      go : (b : Bool) → members_plain (inserted ps k v) ≡ put (name_of k) (plain v) (members_plain ps) → members_plain (cond b ((p.0, v) ∷ ps) (p ∷ inserted ps k v)) ≡ cond b (member (name_of p.0) (plain v) (members_plain ps)) (member (name_of p.0) (plain p.1) (put (name_of k) (plain v) (members_plain ps)))
      go true e = refl
      go false e = ap (member (name_of p.0) (plain p.1)) e
