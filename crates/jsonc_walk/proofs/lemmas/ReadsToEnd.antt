-- A text that reading goes through to its end is a document.
use Rattle.std.proofs.Common.{ℕ, ◌+◌, ◌≤◌, ◌≡◌, refl, Bool, true, false, List, [], ◌∷◌, length, Some, None, IsTrue, arith, nat_lt, inl, inr, ◌⊎◌}
use Rattle.jsonc_text.specs.Gaps.{Gap}
use Rattle.jsonc_text.specs.Grammar.{IsValue, AreElements, AreProperties, IsProperty, literal_value, literal, empty_array, array, empty_object, object, last_element, element, last_property, property, named, Separates, Closes}
use Rattle.jsonc_text.specs.Lexemes.{LexemeKind, punctuation}
use Rattle.jsonc_text.specs.Options.{Options}
use Rattle.jsonc_text.specs.Plain.{Plain, Items, no_items, item, Members, no_members, member, items_depth, members_depth, items_around, members_around}
use Rattle.jsonc_text.specs.Words.{Keyword}
use Rattle.jsonc_walk.specs.declared.container.Container.{Container}
use Rattle.jsonc_walk.specs.declared.container.Container.TheVariants.{Array, Object}
use Rattle.jsonc_walk.specs.Containers.{opening, closing}
use Rattle.jsonc_walk.specs.Reached.{Opened, container, Due, document, end, first, further, comma, colon, value, Place, at, ItemMayCome, first_item, further_item, without_comma, ValueMayCome, of_text, of_array, of_property, CloseMayCome, empty, after_item, after_comma, Step, takes_literal, opens, closes, takes_comma, takes_name, takes_colon, ComesTo, here, on, after_value, count, size, is_deep, containers}
use Rattle.jsonc_walk.specs.Faults.{wrong_end}
use Rattle.jsonc_walk.specs.Laws.{HasValue, ReadsToDocument}
use Rattle.jsonc_walk.proofs.lemmas.ReadsValues.{parts_size}

at_most : (n m : ℕ) → nat_lt n m ≡ false → m ≤ n
at_most n m h = grind arith

-- at most 512 containers are open, where they alone count
abbrev HasRoom : Bool → List Opened → Type 0
HasRoom whole q = whole ≡ false → containers q ≤ 512

literal_size : (whole : Bool) (l : LexemeKind) {v : Plain} → literal_value l ≡ Some v → size whole v ≡ 0
literal_size whole l {v} e = go whole l v e
  where
    go : (whole : Bool) (l : LexemeKind) (v : Plain) → literal_value l ≡ Some v → size whole v ≡ 0
    go true l Plain.null e = refl
    go false l Plain.null e = refl
    go true l (Plain.boolean b) e = refl
    go false l (Plain.boolean b) e = refl
    go true l (Plain.number s) e = refl
    go false l (Plain.number s) e = refl
    go true l (Plain.string s) e = refl
    go false l (Plain.string s) e = refl
    go whole l (Plain.array vs) e = absurd (no_array l vs e)
      where
        no_array : (l : LexemeKind) (vs : Items) → literal_value l ≡ Some (Plain.array vs) → ⊥
        no_array (LexemeKind.string s) vs e = cc
        no_array (LexemeKind.number s) vs e = cc
        no_array (LexemeKind.word s) vs e = cc
        no_array (LexemeKind.keyword (Keyword.boolean b)) vs e = cc
        no_array (LexemeKind.keyword Keyword.null) vs e = cc
        no_array (LexemeKind.punctuation d) vs e = cc
    go whole l (Plain.object ms) e = absurd (no_object l ms e)
      where
        no_object : (l : LexemeKind) (ms : Members) → literal_value l ≡ Some (Plain.object ms) → ⊥
        no_object (LexemeKind.string s) ms e = cc
        no_object (LexemeKind.number s) ms e = cc
        no_object (LexemeKind.word s) ms e = cc
        no_object (LexemeKind.keyword (Keyword.boolean b)) ms e = cc
        no_object (LexemeKind.keyword Keyword.null) ms e = cc
        no_object (LexemeKind.punctuation d) ms e = cc

literal_small : (whole : Bool) (q : List Opened) (l : LexemeKind) (v : Plain) → literal_value l ≡ Some v → is_deep whole q l ≡ false → HasRoom whole q → size whole v + count whole q ≤ 512
literal_small true q l v e n room = let m = at_most 512 (length q) n in omega (arith, m, literal_size true l e)
literal_small false q l v e n room = let m = room refl in omega (arith, m, literal_size false l e)

none_small : (whole : Bool) (q : List Opened) (k : Container) → is_deep whole q (punctuation (opening k)) ≡ false → parts_size whole 0 0 + count whole q ≤ 512
none_small true q k n = let m = at_most 512 (length q) n in omega (arith, m)
none_small false q Array n = let m = at_most 511 (containers q) n in omega (arith, m)
none_small false q Object n = let m = at_most 511 (containers q) n in omega (arith, m)

array_small : (whole : Bool) (vs : Items) (q : List Opened) → parts_size whole (items_around vs) (items_depth vs) + count whole q ≤ 512 → size whole (Plain.array vs) + count whole q ≤ 512
array_small true vs q h = h
array_small false vs q h = h

object_small : (whole : Bool) (ms : Members) (q : List Opened) → parts_size whole (members_around ms) (members_depth ms) + count whole q ≤ 512 → size whole (Plain.object ms) + count whole q ≤ 512
object_small true ms q h = h
object_small false ms q h = h

element_none_small : (whole : Bool) (v : Plain) (q : List Opened) (a : List ℕ) → size whole v + count whole (container Array a ∷ q) ≤ 512 → parts_size whole 0 0 + count whole q ≤ 512
element_none_small true v q a h = omega (arith, h)
element_none_small false v q a h = omega (arith, h)

elements_small : (whole : Bool) (v : Plain) (vs : Items) (q : List Opened) (a : List ℕ) → size whole v + count whole (container Array a ∷ q) ≤ 512 → parts_size whole (items_around vs) (items_depth vs) + count whole q ≤ 512 → parts_size whole (items_around (item v vs)) (items_depth (item v vs)) + count whole q ≤ 512
elements_small true v vs q a h k = omega (arith, h, k)
elements_small false v vs q a h k = omega (arith, h, k)

property_none_small : (whole : Bool) (v : Plain) (q : List Opened) (a b : List ℕ) → size whole v + count whole (Opened.property b ∷ container Object a ∷ q) ≤ 512 → parts_size whole 0 0 + count whole q ≤ 512
property_none_small true v q a b h = omega (arith, h)
property_none_small false v q a b h = omega (arith, h)

properties_small : (whole : Bool) (n : List ℕ) (v : Plain) (ms : Members) (q : List Opened) (a b : List ℕ) → size whole v + count whole (Opened.property b ∷ container Object a ∷ q) ≤ 512 → parts_size whole (members_around ms) (members_depth ms) + count whole q ≤ 512
    → parts_size whole (members_around (member n v ms)) (members_depth (member n v ms)) + count whole q ≤ 512
properties_small true n v ms q a b h k = omega (arith, h, k)
properties_small false n v ms q a b h k = omega (arith, h, k)

-- a value may stand in these
data Holds : List Opened → Type 0 where
  in_text : Holds []
  in_array : {a : List ℕ} {q : List Opened} → Holds q → Holds (container Array a ∷ q)
  in_property : {a b : List ℕ} {q : List Opened} → Holds q → Holds (Opened.property b ∷ container Object a ∷ q)

-- what is due fits what is open
data Sound : Place → Type 0 where
  at_document : {t : List ℕ} → Sound (at [] document t)
  at_end : {t : List ℕ} → Sound (at [] end t)
  at_first : {k : Container} {a t : List ℕ} {q : List Opened} → Holds q → Sound (at (container k a ∷ q) (first k) t)
  at_further : {k : Container} {a c t : List ℕ} {q : List Opened} → Holds q → Sound (at (container k a ∷ q) (further k c) t)
  at_comma : {k : Container} {a e t : List ℕ} {q : List Opened} → Holds q → Sound (at (container k a ∷ q) (comma k e) t)
  at_colon : {a b t : List ℕ} {q : List Opened} → Holds q → Sound (at (Opened.property b ∷ container Object a ∷ q) colon t)
  at_value : {a b t : List ℕ} {q : List Opened} → Holds q → Sound (at (Opened.property b ∷ container Object a ∷ q) value t)

abbrev stack : Place → List Opened
stack (at q d t) = q

after_sound : {q : List Opened} (r : List ℕ) → Holds q → Sound (after_value q r)
after_sound r in_text = at_end
after_sound r (in_array h) = at_comma h
after_sound r (in_property h) = at_comma h

module _ (o : Options) (whole : Bool) where
  value_holds : {q : List Opened} {d : Due} {t : List ℕ} → ValueMayCome o d → Sound (at q d t) → Holds q
  value_holds of_text at_document = in_text
  value_holds (of_array first_item) (at_first h) = in_array h
  value_holds (of_array further_item) (at_further h) = in_array h
  value_holds (of_array (without_comma f)) (at_comma h) = in_array h
  value_holds of_property (at_value h) = in_property h

  close_holds : {k l : Container} {d : Due} {a t : List ℕ} {q : List Opened} → CloseMayCome o l d → Sound (at (container k a ∷ q) d t) → Holds q
  close_holds empty (at_first h) = h
  close_holds after_item (at_comma h) = h
  close_holds (after_comma f) (at_further h) = h

  step_sound : {p n : Place} → Step o whole p n → Sound p → Sound n
  step_sound (takes_literal {q = q} l r m n g x e) s = after_sound r (value_holds m s)
  step_sound (opens k m n g) s = at_first (value_holds m s)
  step_sound (closes {r = r} k m g) s = after_sound r (close_holds m s)
  step_sound (takes_comma k g) (at_comma h) = at_further h
  step_sound (takes_name first_item g n) (at_first h) = at_colon h
  step_sound (takes_name further_item g n) (at_further h) = at_colon h
  step_sound (takes_name (without_comma f) g n) (at_comma h) = at_colon h
  step_sound (takes_colon g) (at_colon h) = at_value h

  after_room : (q : List Opened) (r : List ℕ) → HasRoom whole q → HasRoom whole (stack (after_value q r))
  after_room [] r h = h
  after_room (container k a ∷ q) r h = h
  after_room (Opened.property a ∷ q) r h = h

  open_room : (whole : Bool) (k : Container) (a : List ℕ) (q : List Opened) → is_deep whole q (punctuation (opening k)) ≡ false → HasRoom whole (container k a ∷ q)
  open_room true k a q n e = cc
  open_room false Array a q n e = let m = at_most 511 (containers q) n in omega (arith, m)
  open_room false Object a q n e = let m = at_most 511 (containers q) n in omega (arith, m)

  close_room : (k : Container) (a : List ℕ) (q : List Opened) → HasRoom whole (container k a ∷ q) → HasRoom whole q
  close_room k a q h e = let m = h e in omega (arith, m)

  step_room : {p n : Place} → Step o whole p n → HasRoom whole (stack p) → HasRoom whole (stack n)
  step_room (takes_literal {q = q} l r m n g x e) h = after_room q r h
  step_room (opens {q = q} {r = r} k m n g) h = open_room whole k (opening k ∷ r) q n
  step_room (closes {q = q} {a = a} {r = r} k m g) h = after_room q r (close_room k a q h)
  step_room (takes_comma k g) h = h
  step_room (takes_name m g n) h = h
  step_room (takes_colon g) h = h

  -- t is the items of a container in which so many count, and what closes it, and then r
  abbrev ItemsThere : Container → ℕ → List ℕ → List ℕ → Type 0
  ItemsThere Array n t r = (vs : Items) × AreElements o t vs r × (parts_size whole (items_around vs) (items_depth vs) + n ≤ 512)
  ItemsThere Object n t r = (ms : Members) × AreProperties o t ms r × (parts_size whole (members_around ms) (members_depth ms) + n ≤ 512)

  abbrev ItemsPast : Container → ℕ → List ℕ → List ℕ → Type 0
  ItemsPast k n t r = (u : List ℕ) × Gap o t u × ItemsThere k n u r

  -- the same after an item
  abbrev More : Container → ℕ → List ℕ → List ℕ → Type 0
  More k n t r = Closes o (closing k) t r ⊎ ((u : List ℕ) × Separates o t u × ItemsThere k n u r)

  -- from r on everything that is open is read to its end, and the text ends
  abbrev Rest : List Opened → List ℕ → Type 0
  Rest [] r = Gap o r []
  Rest (container k a ∷ q) r = (s : List ℕ) × More k (count whole q) r s × Rest q s
  Rest (Opened.property a ∷ q) r = Rest q r

  -- a value stands there, and then the rest
  record ValueThere (q : List Opened) (t : List ℕ) : Type 0 where
    begin : List ℕ
    plain : Plain
    stop : List ℕ
    gap : Gap o t begin
    stands : IsValue o begin plain stop
    small : size whole plain + count whole q ≤ 512
    rest : Rest q stop

  -- what is due stands there, and then the rest
  data Parses : Place → Type 0 where
    nothing : {t : List ℕ} → Gap o t [] → Parses (at [] document t)
    text_there : {t : List ℕ} → ValueThere [] t → Parses (at [] document t)
    end_there : {t : List ℕ} → Gap o t [] → Parses (at [] end t)
    first_there : {k : Container} {a t : List ℕ} {q : List Opened} (s : List ℕ) → Gap o t (closing k ∷ s) ⊎ ItemsPast k (count whole q) t s → Rest q s → Parses (at (container k a ∷ q) (first k) t)
    further_there : {k : Container} {a c t : List ℕ} {q : List Opened} (s : List ℕ) → IsTrue o.trailing_commas × Gap o t (closing k ∷ s) ⊎ ItemsPast k (count whole q) t s → Rest q s → Parses (at (container k a ∷ q) (further k c) t)
    more_there : {k : Container} {a e t : List ℕ} {q : List Opened} (s : List ℕ) → More k (count whole q) t s → Rest q s → Parses (at (container k a ∷ q) (comma k e) t)
    colon_there : {a b t w : List ℕ} {q : List Opened} → Gap o t (0x3A ∷ w) → ValueThere (Opened.property b ∷ container Object a ∷ q) w → Parses (at (Opened.property b ∷ container Object a ∷ q) colon t)
    value_there : {a b t : List ℕ} {q : List Opened} → ValueThere (Opened.property b ∷ container Object a ∷ q) t → Parses (at (Opened.property b ∷ container Object a ∷ q) value t)

  rest_after : {q : List Opened} (r : List ℕ) → Holds q → Parses (after_value q r) → Rest q r
  rest_after r in_text (end_there g) = g
  rest_after r (in_array h) (more_there s m e) = (s, m, e)
  rest_after r (in_property h) (more_there s m e) = (s, m, e)

  -- an item that stands there is the first of those that do
  element_there : {q : List Opened} {a t : List ℕ} → ValueThere (container Array a ∷ q) t → (s : List ℕ) × ItemsPast Array (count whole q) t s × Rest q s
  element_there {q} {a} {t} h = go h.rest
    where
      go : Rest (container Array a ∷ q) h.stop → (s : List ℕ) × ItemsPast Array (count whole q) t s × Rest q s
      go (s, inl c, e) = (s, (h.begin, h.gap, (item h.plain no_items, last_element h.stands c, elements_small whole h.plain no_items q a h.small (element_none_small whole h.plain q a h.small))), e)
      go (s, inr (u, m, (vs, x, small)), e) = (s, (h.begin, h.gap, (item h.plain vs, element h.stands m x, elements_small whole h.plain vs q a h.small small)), e)

  property_there : {q : List Opened} {a t u r name : List ℕ} → Gap o t u → ((w v : List ℕ) (x : Plain) → Gap o r (0x3A ∷ w) → ((y : List ℕ) × Gap o w y × IsValue o y x v) → IsProperty o u name x v) → (w : List ℕ) → Gap o r (0x3A ∷ w) → ValueThere (Opened.property u ∷ container Object a ∷ q) w
      → (s : List ℕ) × ItemsPast Object (count whole q) t s × Rest q s
  property_there {q} {a} {t} {u} {name = name} g make w c h = go h.rest
    where
      one : IsProperty o u name h.plain h.stop
      one = make w h.stop h.plain c (h.begin, h.gap, h.stands)

      go : Rest (container Object a ∷ q) h.stop → (s : List ℕ) × ItemsPast Object (count whole q) t s × Rest q s
      go (s, inl k, e) = (s, (u, g, (member name h.plain no_members, last_property one k, properties_small whole name h.plain no_members q a u h.small (property_none_small whole h.plain q a u h.small))), e)
      go (s, inr (x, m, (ms, y, small)), e) = (s, (u, g, (member name h.plain ms, property one m y, properties_small whole name h.plain ms q a u h.small small)), e)

  item_there : {k : Container} {q : List Opened} {d : Due} {a t : List ℕ} → ItemMayCome o k d → ((s : List ℕ) × ItemsPast k (count whole q) t s × Rest q s) → Parses (at (container k a ∷ q) d t)
  item_there first_item (s, h, e) = first_there s (inr h) e
  item_there further_item (s, h, e) = further_there s (inr h) e
  item_there (without_comma f) (s, h, e) = more_there s (inr (h.0, Separates.no_comma f h.1, h.2)) e

  value_place : {q : List Opened} {d : Due} {t : List ℕ} → ValueMayCome o d → Sound (at q d t) → ValueThere q t → Parses (at q d t)
  value_place of_text at_document h = text_there h
  value_place (of_array first_item) (at_first x) h = item_there first_item (element_there h)
  value_place (of_array further_item) (at_further x) h = item_there further_item (element_there h)
  value_place (of_array (without_comma f)) (at_comma x) h = item_there (without_comma f) (element_there h)
  value_place of_property (at_value x) h = value_there h

  opened_there : {q : List Opened} {a t : List ℕ} (k : Container) (r : List ℕ) → is_deep whole q (punctuation (opening k)) ≡ false → Gap o t (opening k ∷ r) → Parses (at (container k a ∷ q) (first k) r) → ValueThere q t
  opened_there {q} Array r n g (first_there s (inl c) e) = record { begin = 0x5B ∷ r; plain = Plain.array no_items; stop = s; gap = g; stands = empty_array c; small = array_small whole no_items q (none_small whole q Array n); rest = e }
  opened_there {q} Array r n g (first_there s (inr (u, c, (vs, x, small))) e) = record { begin = 0x5B ∷ r; plain = Plain.array vs; stop = s; gap = g; stands = array c x; small = array_small whole vs q small; rest = e }
  opened_there {q} Object r n g (first_there s (inl c) e) = record { begin = 0x7B ∷ r; plain = Plain.object no_members; stop = s; gap = g; stands = empty_object c; small = object_small whole no_members q (none_small whole q Object n); rest = e }
  opened_there {q} Object r n g (first_there s (inr (u, c, (ms, x, small))) e) = record { begin = 0x7B ∷ r; plain = Plain.object ms; stop = s; gap = g; stands = object c x; small = object_small whole ms q small; rest = e }

  close_back : {k l : Container} {q : List Opened} {d : Due} {a t r : List ℕ} → CloseMayCome o l d → Sound (at (container k a ∷ q) d t) → Gap o t (closing k ∷ r) → Rest q r → Parses (at (container k a ∷ q) d t)
  close_back {r = r} empty (at_first x) g h = first_there r (inl g) h
  close_back {r = r} after_item (at_comma x) g h = more_there r (inl (Closes.plain g)) h
  close_back {r = r} (after_comma f) (at_further x) g h = further_there r (inl (f, g)) h

  comma_back : {k l : Container} {q : List Opened} {a c e t w : List ℕ} → Gap o t (0x2C ∷ w) → Parses (at (container k a ∷ q) (further l c) w) → Parses (at (container k a ∷ q) (comma l e) t)
  comma_back g (further_there s (inl (f, h)) x) = more_there s (inl (Closes.trailing_comma f g h)) x
  comma_back g (further_there s (inr (u, h, is)) x) = more_there s (inr (u, Separates.comma g h, is)) x

  step_back : {p n : Place} → Step o whole p n → Sound p → HasRoom whole (stack p) → Parses n → Parses p
  step_back (takes_literal {q = q} {v = v} {u = u} l r m n g x e) s room h =
      value_place m s (record { begin = u; plain = v; stop = r; gap = g; stands = literal l x e; small = literal_small whole q l v e n room; rest = rest_after r (value_holds m s) h })
  step_back (opens {r = r} k m n g) s room h = value_place m s (opened_there k r n g h)
  step_back (closes {r = r} k m g) s room h = close_back m s g (rest_after r (close_holds m s) h)
  step_back (takes_comma k g) (at_comma x) room h = comma_back g h
  step_back (takes_name first_item g n) (at_first x) room (colon_there {w = w} c h) = item_there first_item (property_there g (λ w v x c y. named n c y.1 y.2) w c h)
  step_back (takes_name further_item g n) (at_further x) room (colon_there {w = w} c h) = item_there further_item (property_there g (λ w v x c y. named n c y.1 y.2) w c h)
  step_back (takes_name (without_comma f) g n) (at_comma x) room (colon_there {w = w} c h) = item_there (without_comma f) (property_there g (λ w v x c y. named n c y.1 y.2) w c h)
  step_back (takes_colon g) (at_colon x) room (value_there h) = colon_there g h

  goes_back : {p n : Place} → ComesTo o whole p n → Sound p → HasRoom whole (stack p) → (Sound n → Parses n) → Parses p
  goes_back here s room h = h s
  goes_back (on x f) s room h = step_back x s room (goes_back f (step_sound x s) (step_room x room) h)

  last_there : {q : List Opened} {d : Due} {t : List ℕ} → Gap o t [] → wrong_end whole q d ≡ None → Sound (at q d t) → Parses (at q d t)
  last_there g e at_document = nothing g
  last_there g e at_end = end_there g
  last_there g e (at_first h) = cc
  last_there g e (at_further h) = cc
  last_there g e (at_comma h) = cc
  last_there g e (at_colon h) = cc
  last_there g e (at_value h) = cc

  text_small : (whole : Bool) (v : Plain) → size whole v + count whole [] ≤ 512 → size whole v ≤ 512
  text_small true v h = omega (arith, h)
  text_small false v h = omega (arith, h)

  pub reads_to_document : {s : List ℕ} → ReadsToDocument o whole s
  reads_to_document {s} q d t h g e = go (goes_back h at_document (λ e. omega arith) (last_there g e))
    where
      go : Parses (at [] document s) → HasValue o whole s
      go (nothing g) = (None, g, tt)
      go (text_there h) = (Some h.plain, (h.begin, h.stop, h.gap, h.stands, h.rest), text_small whole h.plain h.small)
