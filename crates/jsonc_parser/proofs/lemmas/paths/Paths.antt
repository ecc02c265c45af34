-- Values at paths of names: one is there, it is put, and it is dropped; at other paths all stays.
use Rattle.std.proofs.Common.{ℕ, ◌≡◌, ◌≢◌, ◌⊎◌, ◌∙◌, sym, subst, refl, List, [], ◌∷◌, Option, Some, None, inl, inr}
use Rattle.jsonc_text.specs.Plain.{Plain, Members, no_members, member}
use Rattle.jsonc_text.specs.Plain as plain
use Rattle.jsonc_text.specs.declared.edit.Over.{Over}
use Rattle.jsonc_text.specs.declared.edit.Over.TheVariants.{Keep, Replace}
use Rattle.jsonc_parser.specs.paths.Laws.{MustStay, PutsOrMustStay}
use Rattle.jsonc_parser.specs.paths.Settings.{FirstIs, this_one, FirstBecomes, IsAppended, At, itself, in_object, nest, IsNoObject, IsInTheWay, this_in_the_way, inner_in_the_way, Put, is_there, changes_inside, is_appended, is_nested, gives_way, Dropped, value_dropped, property_dropped, dropped_inside, Differ, differ_here, differ_later}
use Rattle.jsonc_parser.proofs.lemmas.paths.Members.{same_or_not, first_of_more, first_of_none, first_once, first_or_last, first_not_last, first_becomes, first_stays, first_leaves, first_was, first_is_now, leaver_was, last_is_now, others_stay, others_left, others_before}

-- what is at a path that begins with this name, in a document of this value
record Inside (name : List ℕ) (names : List (List ℕ)) (w : Option Plain) (v : Plain) : Type 0 where
  ms : Members
  x : Plain
  is : w ≡ Some (plain.object ms)
  first : FirstIs name x ms
  rest : At (Some x) names v

at_more : {w : Option Plain} {path : List (List ℕ)} {v : Plain} → At w path v → (name : List ℕ) (names : List (List ℕ)) → path ≡ name ∷ names → Inside name names w v
at_more {v = v} itself name names e = cc
at_more (in_object {name = n} {names = ns} {ms = ms} {x = x} {v = v} f a) name names e =
    let p : n ≡ name = cc in
    let q : ns ≡ names = cc in
    record { ms = ms; x = x; is = refl; first = subst (λ k. FirstIs k x ms) p f; rest = subst (λ k. At (Some x) k v) q a }

object_same : (ms ns : Members) → plain.object ms ≡ plain.object ns → ms ≡ ns
object_same ms ns e = cc

some_same : (x y : Plain) → Some x ≡ Some y → x ≡ y
some_same x y e = cc

-- in an object it is the value of the first property of the name
pub in_members : {ms : Members} {name : List ℕ} {names : List (List ℕ)} {v : Plain} → At (Some (plain.object ms)) (name ∷ names) v → (x : Plain) × FirstIs name x ms × At (Some x) names v
in_members {ms} {name} {names} a =
    let i = at_more a name names refl in
    (i.x, subst (FirstIs name i.x) (sym (object_same ms i.ms (some_same _ _ i.is))) i.first, i.rest)

pub at_none : {w : Option Plain} {path : List (List ℕ)} {v : Plain} → At w path v → w ≡ None → ⊥
at_none {v = v} itself e = cc
at_none (in_object {ms = ms} f a) e = cc

at_end : {w : Option Plain} {path : List (List ℕ)} {v : Plain} → At w path v → path ≡ [] → w ≡ Some v
at_end itself e = refl
at_end (in_object {name = n} {names = ns} f a) e = cc

pub no_object_inside : {x : Plain} {name : List ℕ} {names : List (List ℕ)} {v : Plain} → IsNoObject x → At (Some x) (name ∷ names) v → ⊥
no_object_inside {x} {name} {names} non a = let i = at_more a name names refl in non i.ms (some_same _ _ i.is)

-- no two values are at the names
pub at_once : {w : Option Plain} {path : List (List ℕ)} {u v : Plain} → At w path u → At w path v → u ≡ v
at_once {u = u} {v = v} itself b = let e : Some u ≡ Some v = at_end b refl in cc
at_once {v = v} (in_object {name = name} {names = names} {ms = ms} {x = x} f a) b =
    let i = in_members b in
    at_once a (subst (λ k. At (Some k) names v) (first_once i.1 f) i.2)

-- a value is in what it is nested in, and at no path that differs
pub nest_at : (names : List (List ℕ)) (v : Plain) → At (Some (nest names v)) names v
nest_at [] v = itself
nest_at (name ∷ names) v = in_object this_one (nest_at names v)

in_one : {n name : List ℕ} {v x : Plain} → FirstIs name x (member n v no_members) → (n ≡ name) × (v ≡ x)
in_one {n} {name} {v} f =
    elim (first_of_more f n v no_members refl) [
      | inl is ↦ is
      | inr other ↦ absurd (first_of_none other.1 refl)
    ]

pub nest_only : {path names : List (List ℕ)} → Differ path names → (v u : Plain) → At (Some (nest names v)) path u → ⊥
nest_only (differ_here {a = a} {b = b} ne) v u h = let i = in_members h in ne (sym (in_one i.1).0)
nest_only (differ_later {p = p} d) v u h = let i = in_members h in nest_only d v u (subst (λ x. At (Some x) p u) (sym (in_one i.1).1) i.2)

-- what was put is there
pub put_at : {v : Plain} {over : Over} {w x : Option Plain} {names : List (List ℕ)} → Put v over w names x → At x names v
put_at is_there = itself
put_at (changes_inside f p) = in_object (first_is_now f) (put_at p)
put_at {v} (is_appended {names = names} c) = in_object (last_is_now c) (nest_at names v)
put_at {v} (is_nested {name = name} {names = names}) = nest_at (name ∷ names) v
put_at {v} (gives_way {name = name} {names = names} non how) = nest_at (name ∷ names) v

-- what is there is put by no change
pub put_again : {v : Plain} {w : Option Plain} {names : List (List ℕ)} → (over : Over) → At w names v → Put v over w names w
put_again over itself = is_there
put_again over (in_object f a) = changes_inside (first_stays f) (put_again over a)

-- at other paths all stays: the same is there, in either direction
abbrev Same : List (List ℕ) → Plain → Option Plain → Option Plain → Type 0
Same path u x y = (At x path u → At y path u) × (At y path u → At x path u)

-- below a name that leads to others
into : {a : List ℕ} {p : List (List ℕ)} {u : Plain} {ms ns : Members} → ((x : Plain) → FirstIs a x ms → FirstIs a x ns) → At (Some (plain.object ms)) (a ∷ p) u → At (Some (plain.object ns)) (a ∷ p) u
into go h = let i = in_members h in in_object (go i.0 i.1) i.2

-- below the name whose value has become another
under : {a : List ℕ} {p : List (List ℕ)} {u : Plain} {ms ns : Members} {x y : Plain} → FirstIs a x ms → FirstIs a y ns → (At (Some x) p u → At (Some y) p u)
    → At (Some (plain.object ms)) (a ∷ p) u → At (Some (plain.object ns)) (a ∷ p) u
under {p = p} {u = u} f g go h = let i = in_members h in in_object g (go (subst (λ k. At (Some k) p u) (first_once i.1 f) i.2))

inside_same : {name : List ℕ} {ms ns : Members} {x y : Plain} {u : Plain} → FirstBecomes name x y ms ns → (a : List ℕ) (p : List (List ℕ)) → Same p u (Some x) (Some y)
    → Same (a ∷ p) u (Some (plain.object ms)) (Some (plain.object ns))
inside_same {name} {ms} {ns} {x} {y} {u} f a p go =
    elim (same_or_not name a) [
      | inl is ↦
          let old = subst (λ k. FirstIs k x ms) is (first_was f) in
          let new = subst (λ k. FirstIs k y ns) is (first_is_now f) in
          (under old new go.0, under new old go.1)
      | inr other ↦ (into (λ z. (others_stay f a z other).0), into (λ z. (others_stay f a z other).1))
    ]

other_inside : {name : List ℕ} {ms ns : Members} {x y : Plain} (u : Plain) → FirstBecomes name x y ms ns → (a : List ℕ) (p : List (List ℕ)) → name ≢ a
    → Same (a ∷ p) u (Some (plain.object ms)) (Some (plain.object ns))
other_inside u f a p other = (into (λ z. (others_stay f a z other).0), into (λ z. (others_stay f a z other).1))

last_same : {name : List ℕ} {names : List (List ℕ)} (v : Plain) {u : Plain} {ms ns : Members} → IsAppended name (nest names v) ms ns → (path : List (List ℕ)) → Differ path (name ∷ names)
    → Same path u (Some (plain.object ms)) (Some (plain.object ns))
last_same {name} {names} v {u} {ms} {ns} c path d = go d refl
  where
    go : {whole q : List (List ℕ)} → Differ whole q → q ≡ name ∷ names → Same whole u (Some (plain.object ms)) (Some (plain.object ns))
    go (differ_here {a = a} {b = b} ne) e =
        let is : b ≡ name = cc in
        let other : name ≢ a = λ s. ne (sym (is ∙ s)) in
        (into (λ z. (others_before c a z other).0), into (λ z. (others_before c a z other).1))
    go (differ_later {a = a} {b = b} {p = p} {q = q} d) e =
        let rest : q ≡ names = cc in
        elim (same_or_not name a) [
          | inl is ↦ (
            λ h. (let i = in_members h in absurd (first_not_last c (subst (λ k. FirstIs k i.0 ms) (sym is) i.1))),
            λ h. (let i = in_members h in absurd (nest_only (subst (Differ p) rest d) v u
                (subst (λ k. At (Some k) p u) (first_once (subst (λ k. FirstIs k i.0 ns) (sym is) i.1) (last_is_now c)) i.2))),
          )
          | inr other ↦ (into (λ z. (others_before c a z other).0), into (λ z. (others_before c a z other).1))
        ]

-- nothing differs from no names
none_differs : {path names : List (List ℕ)} → Differ path names → names ≡ [] → ⊥
none_differs (differ_here {b = b} {q = q} ne) e = cc
none_differs (differ_later {b = b} {q = q} d) e = cc

-- how a path differs from one that begins with this name
data DiffersFrom (name : List ℕ) (names path : List (List ℕ)) : Type 0 where
  at_once_other : (a : List ℕ) (p : List (List ℕ)) → path ≡ a ∷ p → a ≢ name → DiffersFrom name names path
  later_other : (a : List ℕ) (p : List (List ℕ)) → path ≡ a ∷ p → Differ p names → DiffersFrom name names path

differs_from : {path q : List (List ℕ)} → Differ path q → (name : List ℕ) (names : List (List ℕ)) → q ≡ name ∷ names → DiffersFrom name names path
differs_from (differ_here {a = a} {b = b} {p = p} ne) name names e = let is : b ≡ name = cc in at_once_other a p refl (λ s. ne (s ∙ sym is))
differs_from (differ_later {a = a} {p = p} {q = q} d) name names e = let is : q ≡ names = cc in later_other a p refl (subst (Differ p) is d)

-- where the rest nested takes the place of what had nothing inside
fresh_same : {name : List ℕ} {names path : List (List ℕ)} (v : Plain) {u : Plain} {w : Option Plain} → ((a : List ℕ) (p : List (List ℕ)) → At w (a ∷ p) u → ⊥) → Differ path (name ∷ names)
    → Same path u w (Some (nest (name ∷ names) v))
fresh_same {name} {names} {path} v {u} {w} non d =
    elim (differs_from d name names refl) [
      | at_once_other a p e ne ↦ (λ h. absurd (non a p (subst (λ k. At w k u) e h)), λ h. absurd (nest_only d v u h))
      | later_other a p e k ↦ (λ h. absurd (non a p (subst (λ k. At w k u) e h)), λ h. absurd (nest_only d v u h))
    ]

pub put_same : {v : Plain} {over : Over} {w x : Option Plain} {names : List (List ℕ)} → Put v over w names x → (path : List (List ℕ)) (u : Plain) → Differ path names → Same path u w x
put_same is_there path u d = absurd (none_differs d refl)
put_same (changes_inside {name = name} {names = names} {ms = ms} {ns = ns} {x = x} {y = y} f p) path u d =
    elim (differs_from d name names refl) [
      | at_once_other a q e ne ↦ subst (λ k. Same k u (Some (plain.object ms)) (Some (plain.object ns))) (sym e) (other_inside u f a q (λ s. ne (sym s)))
      | later_other a q e k ↦ subst (λ k. Same k u (Some (plain.object ms)) (Some (plain.object ns))) (sym e) (inside_same f a q (put_same p q u k))
    ]
put_same {v} (is_appended {name = name} {names = names} c) path u d = last_same v c path d
put_same {v} (is_nested {name = name} {names = names}) path u d = fresh_same v (λ a p h. at_none h refl) d
put_same {v} (gives_way {name = name} {names = names} non how) path u d = fresh_same v (λ a p h. no_object_inside non h) d

pub dropped_same : {w x : Option Plain} {names : List (List ℕ)} → Dropped w names x → (path : List (List ℕ)) (u : Plain) → Differ path names → Same path u w x
dropped_same value_dropped path u d = absurd (none_differs d refl)
dropped_same (property_dropped {name = name} {ms = ms} {ns = ns} l) path u d =
    elim (differs_from d name [] refl) [
      | at_once_other a q e ne ↦ subst (λ k. Same k u (Some (plain.object ms)) (Some (plain.object ns))) (sym e)
          (into (λ z. (others_left l a z (λ s. ne (sym s))).0), into (λ z. (others_left l a z (λ s. ne (sym s))).1))
      | later_other a q e k ↦ absurd (none_differs k refl)
    ]
dropped_same (dropped_inside {name = name} {names = names} {ms = ms} {ns = ns} {x = x} {y = y} f p) path u d =
    elim (differs_from d name names refl) [
      | at_once_other a q e ne ↦ subst (λ k. Same k u (Some (plain.object ms)) (Some (plain.object ns))) (sym e) (other_inside u f a q (λ s. ne (sym s)))
      | later_other a q e k ↦ subst (λ k. Same k u (Some (plain.object ms)) (Some (plain.object ns))) (sym e) (inside_same f a q (dropped_same p q u k))
    ]

-- what is dropped was there
pub dropped_at : {w x : Option Plain} {names : List (List ℕ)} → Dropped w names x → (v : Plain) × At w names v
dropped_at (value_dropped {v = v}) = (v, itself)
dropped_at (property_dropped l) = let f = leaver_was l in (f.0, in_object f.1 itself)
dropped_at (dropped_inside f d) = let a = dropped_at d in (a.0, in_object (first_was f) a.1)

-- and what is there can be dropped
inner_drop : {x v : Plain} {name : List ℕ} {names : List (List ℕ)} → At (Some x) (name ∷ names) v → (y : Plain) × Dropped (Some x) (name ∷ names) (Some y)
inner_drop {x} {v} {name} {names} a = go names name x a
  where
    go : (rest : List (List ℕ)) (n : List ℕ) (z : Plain) → At (Some z) (n ∷ rest) v → (y : Plain) × Dropped (Some z) (n ∷ rest) (Some y)
    go [] n z h =
        let i = at_more h n [] refl in
        let l = first_leaves i.first in
        (plain.object l.0, subst (λ k. Dropped k (n ∷ []) (Some (plain.object l.0))) (sym i.is) (property_dropped l.1))
    go (m ∷ rest) n z h =
        let i = at_more h n (m ∷ rest) refl in
        let inner = go rest m i.x i.rest in
        let b = first_becomes i.first inner.0 in
        (plain.object b.0, subst (λ k. Dropped k (n ∷ m ∷ rest) (Some (plain.object b.0))) (sym i.is) (dropped_inside b.1 inner.1))

pub drop_what_is_there : (w : Option Plain) (names : List (List ℕ)) (v : Plain) → At w names v → (x : Option Plain) × Dropped w names x
drop_what_is_there w [] v a = (None, subst (λ k. Dropped k [] None) (sym (at_end a refl)) value_dropped)
drop_what_is_there (Some x) (name ∷ names) v a = let d = inner_drop a in (Some d.0, d.1)
drop_what_is_there None (name ∷ names) v a = absurd (at_none a refl)

-- a value is an object, or not
pub object_or_not : (x : Plain) → ((ms : Members) × (x ≡ plain.object ms)) ⊎ IsNoObject x
object_or_not plain.null = inr (λ ms e. cc)
object_or_not (plain.boolean b) = inr (λ ms e. cc)
object_or_not (plain.number s) = inr (λ ms e. cc)
object_or_not (plain.string s) = inr (λ ms e. cc)
object_or_not (plain.array vs) = inr (λ ms e. cc)
object_or_not (plain.object ms) = inl (ms, refl)

-- it can be put, or something is in the way
module _ (v : Plain) (over : Over) where
  puts_value : (names : List (List ℕ)) (z : Plain) → ((y : Plain) × Put v over (Some z) names (Some y)) ⊎ MustStay over (Some z) names
  puts_value [] z = inl (v, is_there)
  puts_value (name ∷ names) z =
      elim (object_or_not z) [
        | inl object ↦
            elim (first_or_last name (nest names v) object.0) [
              | inl first ↦
                  elim (puts_value names first.0) [
                    | inl put ↦
                        let b = first_becomes first.1 put.0 in
                        inl (plain.object b.0, subst (λ k. Put v over (Some k) (name ∷ names) (Some (plain.object b.0))) (sym object.1) (changes_inside b.1 put.1))
                    | inr stays ↦ inr (stays.0, subst (λ k. IsInTheWay (Some k) (name ∷ names)) (sym object.1) (inner_in_the_way first.1 stays.1))
                  ]
              | inr last ↦ inl (plain.object last.0, subst (λ k. Put v over (Some k) (name ∷ names) (Some (plain.object last.0))) (sym object.1) (is_appended last.1))
            ]
        | inr non ↦ by_how over refl non
      ]
    where
      by_how : (how : Over) → over ≡ how → IsNoObject z → ((y : Plain) × Put v over (Some z) (name ∷ names) (Some y)) ⊎ MustStay over (Some z) (name ∷ names)
      by_how Keep e non = inr (e, this_in_the_way non)
      by_how Replace e non = inl (nest (name ∷ names) v, gives_way non e)

  pub puts : (w : Option Plain) (names : List (List ℕ)) → PutsOrMustStay v over w names
  puts w [] = inl (Some v, is_there)
  puts None (name ∷ names) = inl (Some (nest (name ∷ names) v), is_nested)
  puts (Some x) (name ∷ names) =
      elim (puts_value (name ∷ names) x) [
        | inl put ↦ inl (Some put.0, put.1)
        | inr stays ↦ inr stays
      ]

pub keep_no_replace : (over : Over) → over ≡ Keep → over ≡ Replace → ⊥
keep_no_replace over e f = let wrong : Keep ≡ Replace = sym e ∙ f in cc

-- where something is in the way
pub record WayBlocked (name : List ℕ) (names : List (List ℕ)) (ms : Members) : Type 0 where
  pub x : Plain
  pub first : FirstIs name x ms
  pub rest : IsInTheWay (Some x) names

pub blocked : {w : Option Plain} {path : List (List ℕ)} → IsInTheWay w path → (name : List ℕ) (names : List (List ℕ)) (ms : Members) → path ≡ name ∷ names → w ≡ Some (plain.object ms) → WayBlocked name names ms
blocked (this_in_the_way {x = x} non) name names ms e is = absurd (non ms (some_same _ _ is))
blocked (inner_in_the_way {name = n} {names = ns} {ms = old} {x = x} f s) name names ms e is =
    let p : n ≡ name = cc in
    let q : ns ≡ names = cc in
    let r : old ≡ ms = object_same old ms (some_same _ _ is) in
    record { x = x; first = subst (λ k. FirstIs k x ms) p (subst (FirstIs n x) r f); rest = subst (IsInTheWay (Some x)) q s }

pub blocked_none : {w : Option Plain} {path : List (List ℕ)} → IsInTheWay w path → w ≡ None → ⊥
blocked_none (this_in_the_way {x = x} non) e = cc
blocked_none (inner_in_the_way {ms = ms} f s) e = cc

pub blocked_end : {w : Option Plain} {path : List (List ℕ)} → IsInTheWay w path → path ≡ [] → ⊥
blocked_end (this_in_the_way {name = n} {names = ns} non) e = cc
blocked_end (inner_in_the_way {name = n} {names = ns} f s) e = cc

pub never_both : {v : Plain} {over : Over} {w x : Option Plain} {names : List (List ℕ)} → Put v over w names x → over ≡ Keep → IsInTheWay w names → ⊥
never_both is_there e s = blocked_end s refl
never_both (changes_inside {name = name} {names = names} {ms = ms} f p) e s =
    let b = blocked s name names ms refl refl in
    never_both p e (subst (λ k. IsInTheWay (Some k) names) (first_once b.first (first_was f)) b.rest)
never_both (is_appended {name = name} {names = names} {ms = ms} c) e s = let b = blocked s name names ms refl refl in first_not_last c b.first
never_both is_nested e s = blocked_none s refl
never_both {over = over} (gives_way non how) e s = keep_no_replace over e how
