-- The first property of a name in a list of properties: which it is, what it becomes, and the others, which stay.
use Rattle.std.proofs.Common.{ℕ, ◌≡◌, ◌≢◌, ◌⊎◌, ◌∙◌, sym, subst, refl, true, false, List, inl, inr}
use Rattle.std.proofs.lemmas.Bool.{cases_Bool}
use Rattle.std.specs.Str.{bytes_eq}
use Rattle.std.proofs.lemmas.Slice.Eq.{bytes_eq-Decides}
use Rattle.jsonc_text.specs.Plain.{Plain, Members, no_members, member}
use Rattle.jsonc_parser.specs.paths.Settings.{FirstIs, this_one, later_one, FirstBecomes, this_becomes, later_becomes, FirstIsRemoved, this_removed, later_removed, IsAppended, appended_alone, appended_after}

-- two names are the same, or not
pub same_or_not : (n m : List ℕ) → (n ≡ m) ⊎ (n ≢ m)
same_or_not n m =
    elim (cases_Bool (bytes_eq n m)) [
      | inl is ↦ inl ((bytes_eq-Decides n m).0 is)
      | inr not ↦ inr (λ e. let wrong : true ≡ false = sym ((bytes_eq-Decides n m).1 e) ∙ not in cc)
    ]

-- the first of a name in a list that begins with this property: it, or one after it
pub first_of_more : {name : List ℕ} {v : Plain} {all : Members} → FirstIs name v all → (n : List ℕ) (w : Plain) (ms : Members) → all ≡ member n w ms
    → ((n ≡ name) × (w ≡ v)) ⊎ ((n ≢ name) × FirstIs name v ms)
first_of_more {name} {v} (this_one {ms = rest}) n w ms e = let a : n ≡ name = cc in let b : w ≡ v = cc in inl (a, b)
first_of_more {name} {v} (later_one {n = m} {w = x} {ms = rest} ne f) n w ms e =
    let a : n ≡ m = cc in
    let b : rest ≡ ms = cc in
    inr (λ s. ne (sym a ∙ s), subst (FirstIs name v) b f)

pub first_of_none : {name : List ℕ} {v : Plain} {all : Members} → FirstIs name v all → all ≡ no_members → ⊥
first_of_none {name} {v} (this_one {ms = rest}) e = cc
first_of_none (later_one {n = m} {w = x} {ms = rest} ne f) e = cc

pub first_once : {name : List ℕ} {v w : Plain} {ms : Members} → FirstIs name v ms → FirstIs name w ms → v ≡ w
first_once {name} {v} {w} (this_one {ms = rest}) g =
    elim (first_of_more g name v rest refl) [
      | inl is ↦ is.1
      | inr other ↦ absurd (other.0 refl)
    ]
first_once {name} {v} {w} (later_one {n = m} {w = x} {ms = rest} ne f) g =
    elim (first_of_more g m x rest refl) [
      | inl is ↦ absurd (ne is.0)
      | inr other ↦ first_once f other.1
    ]

-- either a property has the name, or none has
pub first_or_last : (name : List ℕ) (new : Plain) (ms : Members) → ((v : Plain) × FirstIs name v ms) ⊎ ((ns : Members) × IsAppended name new ms ns)
first_or_last name new no_members = inr (member name new no_members, appended_alone)
first_or_last name new (member n w ms) =
    elim (same_or_not n name) [
      | inl is ↦ inl (w, subst (λ k. FirstIs name w (member k w ms)) (sym is) this_one)
      | inr other ↦
          elim (first_or_last name new ms) [
            | inl first ↦ inl (first.0, later_one other first.1)
            | inr last ↦ inr (member n w last.0, appended_after other last.1)
          ]
    ]

pub first_not_last : {name : List ℕ} {v new : Plain} {ms ns : Members} → IsAppended name new ms ns → FirstIs name v ms → ⊥
first_not_last appended_alone f = first_of_none f refl
first_not_last {name} (appended_after {n = n} {w = w} {ms = ms} ne c) f =
    elim (first_of_more f n w ms refl) [
      | inl is ↦ ne is.0
      | inr other ↦ first_not_last c other.1
    ]

-- a property that is the first can become another, and can be removed
pub first_becomes : {name : List ℕ} {x : Plain} {ms : Members} → FirstIs name x ms → (y : Plain) → (ns : Members) × FirstBecomes name x y ms ns
first_becomes {name} {x} (this_one {ms = ms}) y = (member name y ms, this_becomes)
first_becomes (later_one {n = n} {w = w} ne f) y = let g = first_becomes f y in (member n w g.0, later_becomes ne g.1)

pub first_stays : {name : List ℕ} {x : Plain} {ms : Members} → FirstIs name x ms → FirstBecomes name x x ms ms
first_stays this_one = this_becomes
first_stays (later_one ne f) = later_becomes ne (first_stays f)

pub first_leaves : {name : List ℕ} {x : Plain} {ms : Members} → FirstIs name x ms → (ns : Members) × FirstIsRemoved name ms ns
first_leaves (this_one {ms = ms}) = (ms, this_removed)
first_leaves (later_one {n = n} {w = w} ne f) = let g = first_leaves f in (member n w g.0, later_removed ne g.1)

-- what has become another, or was removed, was the first; and it is the other now
pub first_was : {name : List ℕ} {x y : Plain} {ms ns : Members} → FirstBecomes name x y ms ns → FirstIs name x ms
first_was this_becomes = this_one
first_was (later_becomes ne f) = later_one ne (first_was f)

pub first_is_now : {name : List ℕ} {x y : Plain} {ms ns : Members} → FirstBecomes name x y ms ns → FirstIs name y ns
first_is_now this_becomes = this_one
first_is_now (later_becomes ne f) = later_one ne (first_is_now f)

pub leaver_was : {name : List ℕ} {ms ns : Members} → FirstIsRemoved name ms ns → (x : Plain) × FirstIs name x ms
leaver_was (this_removed {w = w}) = (w, this_one)
leaver_was (later_removed ne f) = let g = leaver_was f in (g.0, later_one ne g.1)

pub last_is_now : {name : List ℕ} {new : Plain} {ms ns : Members} → IsAppended name new ms ns → FirstIs name new ns
last_is_now appended_alone = this_one
last_is_now (appended_after ne c) = later_one ne (last_is_now c)

-- the first of another name stays, in either direction
abbrev pub Stays : List ℕ → Plain → Members → Members → Type 0
Stays a u ms ns = (FirstIs a u ms → FirstIs a u ns) × (FirstIs a u ns → FirstIs a u ms)

-- after the same property
behind : {a : List ℕ} {u : Plain} {ms ns : Members} (n : List ℕ) (w : Plain) → (FirstIs a u ms → FirstIs a u ns) → FirstIs a u (member n w ms) → FirstIs a u (member n w ns)
behind {a} {u} {ms} {ns} n w go f =
    elim (first_of_more f n w ms refl) [
      | inl is ↦ subst (λ k. FirstIs a u (member k w ns)) (sym is.0) (subst (λ x. FirstIs a u (member a x ns)) (sym is.1) this_one)
      | inr other ↦ later_one other.0 (go other.1)
    ]

-- past one of another name
past : {a : List ℕ} {u : Plain} (n : List ℕ) (w : Plain) (ms : Members) → n ≢ a → FirstIs a u (member n w ms) → FirstIs a u ms
past {a} {u} n w ms ne f =
    elim (first_of_more f n w ms refl) [
      | inl is ↦ absurd (ne is.0)
      | inr other ↦ other.1
    ]

pub others_stay : {name : List ℕ} {x y : Plain} {ms ns : Members} → FirstBecomes name x y ms ns → (a : List ℕ) (u : Plain) → name ≢ a → Stays a u ms ns
others_stay {name} {x} {y} (this_becomes {ms = ms}) a u ne = (λ f. later_one ne (past name x ms ne f), λ f. later_one ne (past name y ms ne f))
others_stay (later_becomes {n = n} {w = w} m f) a u ne = let g = others_stay f a u ne in (behind n w g.0, behind n w g.1)

pub others_left : {name : List ℕ} {ms ns : Members} → FirstIsRemoved name ms ns → (a : List ℕ) (u : Plain) → name ≢ a → Stays a u ms ns
others_left {name} (this_removed {w = w} {ms = ms}) a u ne = (past name w ms ne, later_one ne)
others_left (later_removed {n = n} {w = w} m f) a u ne = let g = others_left f a u ne in (behind n w g.0, behind n w g.1)

pub others_before : {name : List ℕ} {new : Plain} {ms ns : Members} → IsAppended name new ms ns → (a : List ℕ) (u : Plain) → name ≢ a → Stays a u ms ns
others_before {name} {new} appended_alone a u ne = (λ f. absurd (first_of_none f refl), λ f. absurd (first_of_none (past name new no_members ne f) refl))
others_before (appended_after {n = n} {w = w} m c) a u ne = let g = others_before c a u ne in (behind n w g.0, behind n w g.1)
