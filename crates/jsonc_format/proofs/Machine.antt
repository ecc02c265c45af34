-- How it is found out which containers are on one line.
use Rattle.std.proofs.Common.{ℕ, suc, ◌≡◌, ◌∙◌, ◌<◌, ◌+◌, sym, ap, refl, subst, Bool, true, false, not, ◌&&◌, ◌||◌, List, [], ◌∷◌, ◌++◌, take, drop, length, arith, append_assoc, if◌then◌else◌, length-append}
use Rattle.std.proofs.lemmas.List.{take-append-le, drop-append-le, take-append-drop}
use Rattle.std.proofs.Math.Seq.{take-append_seam, drop-append_seam}
use Rattle.std.proofs.Math.ListN.{drop_of_length-le}
use Rattle.jsonc_format.specs.declared.plan.Pending.{Pending}
use Rattle.jsonc_format.specs.Flags.{flats}
use Rattle.jsonc_format.specs.Format.{Piece, opens, closes, in_line, is_last, left_open, on_one_line, is_flat}
use Rattle.jsonc_format.specs.Plans.{marked, AreOrdered, IsFresh, closed_flat, closed_open}

-- the flags once the open containers are closed, of which the one around n others closes on its line where the look says so, unless a line has ended in it
abbrev settled : Bool → (ℕ → Bool) → List Bool → List Pending → List Bool
settled broken look flat [] = flat
settled broken look flat (o ∷ os) =
    settled (broken || o.broken) (λ k. look (suc k)) (take o.number flat) os ++ (not (broken || o.broken) && look 0) ∷ drop (o.number + 1) flat

-- by the pieces that follow
abbrev pub settled_by : Bool → List Bool → List Pending → List Piece → List Bool
settled_by false flat os ps = settled false (λ k. on_one_line k ps) flat os
settled_by true flat [] ps = flat
settled_by true flat (o ∷ os) ps = settled false (λ k. on_one_line (suc k) ps) (take o.number flat) os ++ is_flat ps ∷ drop (o.number + 1) flat

take_front : (n : ℕ) (flat xs : List Bool) → n < length flat → take n (flat ++ xs) ≡ take n flat
take_front n flat xs h = take-append-le n flat xs (omega (arith, h))

drop_front : (n : ℕ) (flat xs : List Bool) → n < length flat → drop (n + 1) (flat ++ xs) ≡ drop (n + 1) flat ++ xs
drop_front n flat xs h = drop-append-le (n + 1) flat xs (omega (arith, h))

drop_whole : (n : ℕ) (flat xs : List Bool) → n < length flat → drop n (flat ++ xs) ≡ drop n flat ++ xs
drop_whole n flat xs h = drop-append-le n flat xs (omega (arith, h))

settled_more : (b : Bool) (look : ℕ → Bool) (flat xs : List Bool) (os : List Pending) → AreOrdered flat os → settled b look (flat ++ xs) os ≡ settled b look flat os ++ xs
settled_more b look flat xs [] h = refl
settled_more b look flat xs (o ∷ os) h =
    let more = λ (k : ℕ). look (suc k) in
    let rest = (not (b || o.broken) && look 0) ∷ drop (o.number + 1) flat in
    let flag = not (b || o.broken) && look 0 in
    ap (λ s. settled (b || o.broken) more s os ++ flag ∷ drop (o.number + 1) (flat ++ xs)) (take_front o.number flat xs h.0)
    ∙ ap (λ s. settled (b || o.broken) more (take o.number flat) os ++ flag ∷ s) (drop_front o.number flat xs h.0)
    ∙ sym (append_assoc (settled (b || o.broken) more (take o.number flat) os) rest xs)

-- where a line has ended in each
settled_broken : (look other : ℕ → Bool) (flat : List Bool) (os : List Pending) → settled true look flat os ≡ settled true other flat os
settled_broken look other flat [] = refl
settled_broken look other flat (o ∷ os) = ap (λ s. s ++ false ∷ drop (o.number + 1) flat) (settled_broken (λ k. look (suc k)) (λ k. other (suc k)) (take o.number flat) os)

or_assoc : (a b c : Bool) → a || (b || c) ≡ (a || c) || b
or_assoc true b c = refl
or_assoc false true true = refl
or_assoc false true false = refl
or_assoc false false true = refl
or_assoc false false false = refl

settled_marked : (b m : Bool) (look : ℕ → Bool) (flat : List Bool) (os : List Pending) → settled b look flat (marked m os) ≡ settled (b || m) look flat os
settled_marked b m look flat [] = refl
settled_marked b m look flat (o ∷ os) =
    ap (λ x. settled x (λ k. look (suc k)) (take o.number flat) os ++ (not x && look 0) ∷ drop (o.number + 1) flat) (or_assoc b o.broken m)

-- past a piece, up to the end of which no line has ended, or one has
settled_past : (b il : Bool) (look other : ℕ → Bool) (flat : List Bool) (os : List Pending) → ((k : ℕ) → look k ≡ il && other k) → settled b look flat os ≡ settled (b || not il) other flat os
settled_past b il look other flat [] h = refl
settled_past b il look other flat (o ∷ os) h =
    ap (λ s. s ++ (not (b || o.broken) && look 0) ∷ drop (o.number + 1) flat) (settled_past (b || o.broken) il (λ k. look (suc k)) (λ k. other (suc k)) (take o.number flat) os (λ k. h (suc k)))
    ∙ each b o.broken il (look 0) (other 0) (λ x. settled x (λ k. other (suc k)) (take o.number flat) os) (drop (o.number + 1) flat) (h 0)
  where
    each : (b c il x y : Bool) (f : Bool → List Bool) (r : List Bool) → x ≡ il && y → f ((b || c) || not il) ++ (not (b || c) && x) ∷ r ≡ f ((b || not il) || c) ++ (not ((b || not il) || c) && y) ∷ r
    each true c il x y f r e = refl
    each false true true x y f r e = refl
    each false true false x y f r e = refl
    each false false true x y f r e = rw e refl
    each false false false x y f r e = rw e refl

abbrev pub ends_in_line : Piece → Bool
ends_in_line p = in_line p.gap && in_line p.text

and_assoc : (a b c : Bool) → a && (b && c) ≡ (a && b) && c
and_assoc true b c = refl
and_assoc false b c = refl

on_line : (k : ℕ) (op cl : Bool) (p : Piece) (ps : List Piece) → opens p.what ≡ op → closes p.what ≡ cl → on_one_line k (p ∷ ps) ≡ ends_in_line p && (is_last op cl k || on_one_line (left_open op cl k) ps)
on_line k op cl p ps e f =
    ap (λ b. in_line p.gap && (in_line p.text && (is_last b (closes p.what) k || on_one_line (left_open b (closes p.what) k) ps))) e
    ∙ ap (λ b. in_line p.gap && (in_line p.text && (is_last op b k || on_one_line (left_open op b k) ps))) f
    ∙ and_assoc (in_line p.gap) (in_line p.text) (is_last op cl k || on_one_line (left_open op cl k) ps)

-- the state that is known after a piece, of the pieces ps that follow
pub record IsKnown (flat : List Bool) (os : List Pending) (bare : Bool) (ps : List Piece) (all : List Bool) : Type 0 where
  pub same : all ≡ settled_by bare flat os ps ++ flats ps

unbare : (flat : List Bool) (os : List Pending) (bare : Bool) (p : Piece) (ps : List Piece) → IsFresh bare os → closes p.what ≡ false → settled_by bare flat os (p ∷ ps) ≡ settled false (λ k. on_one_line k (p ∷ ps)) flat os
unbare flat os false p ps h e = refl
unbare flat [] true p ps h e = refl
unbare flat (o ∷ os) true p ps h e =
    let before = settled false (λ k. on_one_line (suc k) (p ∷ ps)) (take o.number flat) os in
    let after = drop (o.number + 1) flat in
    ap (λ b. before ++ (b || on_one_line 0 (p ∷ ps)) ∷ after) e
    ∙ sym (ap (λ b. settled b (λ k. on_one_line (suc k) (p ∷ ps)) (take o.number flat) os ++ (not b && on_one_line 0 (p ∷ ps)) ∷ after) h)

flats_kept : (p : Piece) (ps : List Piece) → opens p.what ≡ false → flats (p ∷ ps) ≡ flats ps
flats_kept p ps e = ap (λ b. if b then is_flat ps ∷ flats ps else flats ps) e

flats_more : (p : Piece) (ps : List Piece) → opens p.what ≡ true → flats (p ∷ ps) ≡ is_flat ps ∷ flats ps
flats_more p ps e = ap (λ b. if b then is_flat ps ∷ flats ps else flats ps) e

pub passed_other : (flat all : List Bool) (os : List Pending) (bare il : Bool) (p : Piece) (ps : List Piece) → IsFresh bare os → il ≡ ends_in_line p → opens p.what ≡ false → closes p.what ≡ false
    → IsKnown flat os bare (p ∷ ps) all → IsKnown flat (marked (not il) os) false ps all
passed_other flat all os bare il p ps h i e f k = record {
  same = k.same ∙ ap (λ s. settled_by bare flat os (p ∷ ps) ++ s) (flats_kept p ps e)
      ∙ ap (λ s. s ++ flats ps) (unbare flat os bare p ps h f
      ∙ settled_past false il (λ k. on_one_line k (p ∷ ps)) (λ k. on_one_line k ps) flat os (λ k. on_line k false false p ps e f ∙ ap (λ b. b && on_one_line k ps) (sym i))
      ∙ sym (settled_marked false (not il) (λ k. on_one_line k ps) flat os));
}

ordered_marked : (m : Bool) (flat : List Bool) (os : List Pending) → AreOrdered flat os → AreOrdered flat (marked m os)
ordered_marked m flat [] h = h
ordered_marked m flat (o ∷ os) h = h

ordered_more : (flat xs : List Bool) (os : List Pending) → AreOrdered flat os → AreOrdered (flat ++ xs) os
ordered_more flat xs [] h = h
ordered_more flat xs (o ∷ os) h =
    (omega (arith, h.0, length-append flat xs), drop_whole o.number flat xs h.0 ∙ ap (λ s. s ++ xs) h.1 ∙ ap (λ s. false ∷ s) (sym (drop_front o.number flat xs h.0)), subst (λ s. AreOrdered s os) (sym (take_front o.number flat xs h.0)) h.2)

pub passed_open : (flat all : List Bool) (os : List Pending) (bare il : Bool) (p : Piece) (ps : List Piece) → AreOrdered flat os → IsFresh bare os → il ≡ ends_in_line p → opens p.what ≡ true → closes p.what ≡ false
    → IsKnown flat os bare (p ∷ ps) all → IsKnown (flat ++ false ∷ []) (record { number = length flat; broken = false } ∷ marked (not il) os) true ps all
passed_open flat all os bare il p ps o h i e f k = record {
  same =
      let before = settled false (λ k. on_one_line (suc k) ps) flat (marked (not il) os) in
      let seam : take (length flat) (flat ++ false ∷ []) ≡ flat = take-append_seam flat (false ∷ []) in
      let none : drop (length flat + 1) (flat ++ false ∷ []) ≡ [] = drop_of_length-le (flat ++ false ∷ []) (omega (arith, length-append flat (false ∷ []))) in
      k.same ∙ ap (λ s. settled_by bare flat os (p ∷ ps) ++ s) (flats_more p ps e)
      ∙ ap (λ s. s ++ is_flat ps ∷ flats ps) (unbare flat os bare p ps h f
      ∙ settled_past false il (λ k. on_one_line k (p ∷ ps)) (λ k. on_one_line (suc k) ps) flat os (λ k. on_line k true false p ps e f ∙ ap (λ b. b && on_one_line (suc k) ps) (sym i))
      ∙ sym (settled_marked false (not il) (λ k. on_one_line (suc k) ps) flat os))
      ∙ sym (append_assoc before (is_flat ps ∷ []) (flats ps))
      ∙ ap (λ s. (settled false (λ k. on_one_line (suc k) ps) s (marked (not il) os) ++ is_flat ps ∷ []) ++ flats ps) (sym seam)
      ∙ ap (λ s. (settled false (λ k. on_one_line (suc k) ps) (take (length flat) (flat ++ false ∷ [])) (marked (not il) os) ++ is_flat ps ∷ s) ++ flats ps) (sym none);
}

pub passed_close : (flat all : List Bool) (os : List Pending) (bare il : Bool) (p : Piece) (ps : List Piece) → AreOrdered flat os → IsFresh bare os → il ≡ ends_in_line p → opens p.what ≡ false → closes p.what ≡ true
    → IsKnown flat os bare (p ∷ ps) all → IsKnown (closed_flat bare flat (marked (not il) os)) (closed_open (marked (not il) os)) false ps all
passed_close flat all [] false il p ps o h i e f k = record { same = k.same ∙ ap (λ s. flat ++ s) (flats_kept p ps e) }
passed_close flat all [] true il p ps o h i e f k = absurd h
passed_close flat all (c ∷ os) bare il p ps o h i e f k = record {
  same = k.same ∙ ap (λ s. settled_by bare flat (c ∷ os) (p ∷ ps) ++ s) (flats_kept p ps e) ∙ ap (λ s. s ++ flats ps) (by_bare bare h ∙ sym closed);
}
  where
    closed : settled false (λ k. on_one_line k ps) ((take c.number flat) ++ (bare || not (c.broken || not il)) ∷ drop (c.number + 1) flat) (marked (c.broken || not il) os) ≡ settled (c.broken || not il) (λ k. on_one_line k ps) (take c.number flat) os ++ (bare || not (c.broken || not il)) ∷ drop (c.number + 1) flat
    closed = settled_more false (λ k. on_one_line k ps) (take c.number flat) ((bare || not (c.broken || not il)) ∷ drop (c.number + 1) flat) (marked (c.broken || not il) os) (ordered_marked (c.broken || not il) (take c.number flat) os o.2)
        ∙ ap (λ s. s ++ (bare || not (c.broken || not il)) ∷ drop (c.number + 1) flat) (settled_marked false (c.broken || not il) (λ k. on_one_line k ps) (take c.number flat) os)

    past : (b : Bool) → settled b (λ k. on_one_line (suc k) (p ∷ ps)) (take c.number flat) os ≡ settled (b || not il) (λ k. on_one_line k ps) (take c.number flat) os
    past b = settled_past b il (λ k. on_one_line (suc k) (p ∷ ps)) (λ k. on_one_line k ps) (take c.number flat) os (λ k. on_line (suc k) false true p ps e f ∙ ap (λ b. b && on_one_line k ps) (sym i))

    here : on_one_line 0 (p ∷ ps) ≡ il
    here = on_line 0 false true p ps e f ∙ each (ends_in_line p) ∙ sym i
      where
        each : (b : Bool) → b && true ≡ b
        each true = refl
        each false = refl

    flagged : (b i : Bool) → not b && i ≡ not (b || not i)
    flagged true i = refl
    flagged false true = refl
    flagged false false = refl

    by_bare : (bare : Bool) → IsFresh bare (c ∷ os) → settled_by bare flat (c ∷ os) (p ∷ ps) ≡ settled (c.broken || not il) (λ k. on_one_line k ps) (take c.number flat) os ++ (bare || not (c.broken || not il)) ∷ drop (c.number + 1) flat
    by_bare false h = ap (λ s. s ++ (not c.broken && on_one_line 0 (p ∷ ps)) ∷ drop (c.number + 1) flat) (past c.broken)
        ∙ ap (λ b. settled (c.broken || not il) (λ k. on_one_line k ps) (take c.number flat) os ++ b ∷ drop (c.number + 1) flat) (ap (λ b. not c.broken && b) here ∙ flagged c.broken il)
    by_bare true h =
        ap (λ s. s ++ (closes p.what || on_one_line 0 (p ∷ ps)) ∷ drop (c.number + 1) flat) (past false)
        ∙ ap (λ b. settled (not il) (λ k. on_one_line k ps) (take c.number flat) os ++ (b || on_one_line 0 (p ∷ ps)) ∷ drop (c.number + 1) flat) f
        ∙ sym (ap (λ b. settled (b || not il) (λ k. on_one_line k ps) (take c.number flat) os ++ true ∷ drop (c.number + 1) flat) h)

pub fresh_open : (n : ℕ) (os : List Pending) → IsFresh true (record { number = n; broken = false } ∷ os)
fresh_open n os = refl

pub ordered_open : (flat : List Bool) (os : List Pending) (m : Bool) → AreOrdered flat os → AreOrdered (flat ++ false ∷ []) (record { number = length flat; broken = false } ∷ marked m os)
ordered_open flat os m h =
    let none : drop (length flat + 1) (flat ++ false ∷ []) ≡ [] = drop_of_length-le (flat ++ false ∷ []) (omega (arith, length-append flat (false ∷ []))) in
    (omega (arith, length-append flat (false ∷ [])), drop-append_seam flat (false ∷ []) ∙ ap (λ s. false ∷ s) (sym none), subst (λ s. AreOrdered s (marked m os)) (sym (take-append_seam flat (false ∷ []))) (ordered_marked m flat os h))

pub ordered_close : (bare m : Bool) (flat : List Bool) (os : List Pending) → AreOrdered flat os → AreOrdered (closed_flat bare flat (marked m os)) (closed_open (marked m os))
ordered_close bare m flat [] h = h
ordered_close bare m flat (c ∷ os) h = ordered_more (take c.number flat) _ (marked (c.broken || m) os) (ordered_marked (c.broken || m) (take c.number flat) os h.2)

pub ordered_other : (m : Bool) (flat : List Bool) (os : List Pending) → AreOrdered flat os → AreOrdered flat (marked m os)
ordered_other = ordered_marked

-- what is open at the end of the text stays as it is
settled_end : (b : Bool) (look : ℕ → Bool) (flat : List Bool) (os : List Pending) → ((k : ℕ) → look k ≡ false) → AreOrdered flat os → settled b look flat os ≡ flat
settled_end b look flat [] h o = refl
settled_end b look flat (c ∷ os) h o =
    ap (λ s. s ++ (not (b || c.broken) && look 0) ∷ drop (c.number + 1) flat) (settled_end (b || c.broken) (λ k. look (suc k)) (take c.number flat) os (λ k. h (suc k)) o.2)
    ∙ ap (λ x. take c.number flat ++ x ∷ drop (c.number + 1) flat) (ap (λ x. not (b || c.broken) && x) (h 0) ∙ none (not (b || c.broken)))
    ∙ ap (λ s. take c.number flat ++ s) (sym o.1) ∙ take-append-drop c.number flat
  where
    none : (b : Bool) → b && false ≡ false
    none true = refl
    none false = refl

append_none : (s : List Bool) → s ++ [] ≡ s
append_none [] = refl
append_none (x ∷ s) = ap (λ r. x ∷ r) (append_none s)

-- all pieces are passed
pub known_end : (flat all : List Bool) (os : List Pending) (bare : Bool) → AreOrdered flat os → IsFresh bare os → IsKnown flat os bare [] all → all ≡ flat
known_end flat all os bare o h k = k.same ∙ append_none (settled_by bare flat os []) ∙ by_bare bare os o h
  where
    by_bare : (bare : Bool) (os : List Pending) → AreOrdered flat os → IsFresh bare os → settled_by bare flat os [] ≡ flat
    by_bare false os o h = settled_end false (λ k. on_one_line k []) flat os (λ k. refl) o
    by_bare true [] o h = refl
    by_bare true (c ∷ os) o h =
        ap (λ s. s ++ false ∷ drop (c.number + 1) flat) (settled_end false (λ k. on_one_line (suc k) []) (take c.number flat) os (λ k. refl) o.2)
        ∙ ap (λ s. take c.number flat ++ s) (sym o.1) ∙ take-append-drop c.number flat
