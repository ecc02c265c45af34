-- An object as it is seen with equal names collapsed: the last property of a name there is the first that is seen.
use Rattle.std.proofs.Common.{ℕ, ◌≡◌, ◌≢◌, ◌∙◌, sym, ap, subst, refl, true, false, cond, List, inl, inr}
use Rattle.std.proofs.lemmas.Bool.{cases_Bool}
use Rattle.std.specs.Str.{bytes_eq}
use Rattle.std.proofs.lemmas.Slice.Eq.{bytes_eq-Decides}
use Rattle.jsonc_text.specs.Plain.{Plain, Members, no_members, member, collapse, collapse_members, last_of, without}
use Rattle.jsonc_insert.specs.named.Members.{LacksMember, no_more, other_name}
use Rattle.jsonc_parser.specs.paths.Settings.{FirstIs, this_one, later_one, FirstBecomes, this_becomes, later_becomes, IsAppended, appended_alone, appended_after}
use Rattle.jsonc_parser.proofs.lemmas.paths.Members.{first_is_now, first_of_more, first_of_none, first_was, same_or_not}

-- a test of two names that are the same, or not
pub same_names : (name : List ℕ) → bytes_eq name name ≡ true
same_names name = (bytes_eq-Decides name name).1 refl

pub other_names : (n name : List ℕ) → n ≢ name → bytes_eq n name ≡ false
other_names n name ne =
    elim (cases_Bool (bytes_eq n name)) [
      | inl is ↦ absurd (ne ((bytes_eq-Decides n name).0 is))
      | inr not ↦ not
    ]

-- past a property of another name, and of this one
pub last_past : (name n : List ℕ) (v w : Plain) (ms : Members) → n ≢ name → last_of name v (member n w ms) ≡ last_of name v ms
last_past name n v w ms ne = ap (λ b. last_of name (cond b w v) ms) (other_names n name ne)

pub last_here : (name : List ℕ) (v w : Plain) (ms : Members) → last_of name v (member name w ms) ≡ last_of name w ms
last_here name v w ms = ap (λ b. last_of name (cond b w v) ms) (same_names name)

pub without_past : (name n : List ℕ) (w : Plain) (ms : Members) → n ≢ name → without name (member n w ms) ≡ member n w (without name ms)
without_past name n w ms ne = ap (λ b. cond b (without name ms) (member n w (without name ms))) (other_names n name ne)

pub without_here : (name : List ℕ) (w : Plain) (ms : Members) → without name (member name w ms) ≡ without name ms
without_here name w ms = ap (λ b. cond b (without name ms) (member name w (without name ms))) (same_names name)

-- where none has the name
pub lacks_last : {name : List ℕ} {ms : Members} → LacksMember name ms → (v : Plain) → last_of name v ms ≡ v
lacks_last no_more v = refl
lacks_last {name} (other_name {n = n} {v = w} {ms = ms} ne l) v = last_past name n v w ms ne ∙ lacks_last l v

lacks_without : {name : List ℕ} {ms : Members} → LacksMember name ms → (n : List ℕ) → LacksMember name (without n ms)
lacks_without no_more n = no_more
lacks_without {name} (other_name {n = m} {v = w} {ms = ms} ne l) n =
    elim (same_or_not m n) [
      | inl is ↦ subst (λ k. LacksMember name (without n (member k w ms))) (sym is) (subst (LacksMember name) (sym (without_here n w ms)) (lacks_without l n))
      | inr other ↦ subst (LacksMember name) (sym (without_past n m w ms other)) (other_name ne (lacks_without l n))
    ]

without_lacks : (name : List ℕ) (ms : Members) → LacksMember name (without name ms)
without_lacks name no_members = no_more
without_lacks name (member n w ms) =
    elim (same_or_not n name) [
      | inl is ↦ subst (λ k. LacksMember name (without name (member k w ms))) (sym is) (subst (LacksMember name) (sym (without_here name w ms)) (without_lacks name ms))
      | inr other ↦ subst (LacksMember name) (sym (without_past name n w ms other)) (other_name other (without_lacks name ms))
    ]

pub lacks_collapsed : {name : List ℕ} {ms : Members} → LacksMember name ms → LacksMember name (collapse_members ms)
lacks_collapsed no_more = no_more
lacks_collapsed (other_name {n = n} ne l) = other_name ne (lacks_without (lacks_collapsed l) n)

-- those of another name taken away, the first of this one stays
first_without : {name : List ℕ} {z : Plain} {ms : Members} → FirstIs name z ms → (n : List ℕ) → n ≢ name → FirstIs name z (without n ms)
first_without {name} {z} (this_one {ms = ms}) n ne = subst (FirstIs name z) (sym (without_past n name z ms (λ e. ne (sym e)))) this_one
first_without {name} {z} (later_one {n = m} {w = w} {ms = ms} other f) n ne =
    elim (same_or_not m n) [
      | inl is ↦ subst (λ k. FirstIs name z (without n (member k w ms))) (sym is) (subst (FirstIs name z) (sym (without_here n w ms)) (first_without f n ne))
      | inr apart ↦ subst (FirstIs name z) (sym (without_past n m w ms apart)) (later_one other (first_without f n ne))
    ]

first_within : {name : List ℕ} {z : Plain} (n : List ℕ) (ms : Members) → FirstIs name z (without n ms) → n ≢ name → FirstIs name z ms
first_within n no_members f ne = absurd (first_of_none f refl)
first_within {name} {z} n (member m w ms) f ne =
    elim (same_or_not m n) [
      | inl is ↦ later_one (λ e. ne (sym is ∙ e)) (first_within n ms (subst (FirstIs name z) (without_here n w ms) (subst (λ k. FirstIs name z (without n (member k w ms))) is f)) ne)
      | inr apart ↦
          elim (first_of_more (subst (FirstIs name z) (without_past n m w ms apart) f) m w (without n ms) refl) [
            | inl here ↦ subst (λ k. FirstIs name z (member k w ms)) (sym here.0) (subst (λ x. FirstIs name z (member name x ms)) (sym here.1) this_one)
            | inr later ↦ later_one later.0 (first_within n ms later.1 ne)
          ]
    ]

last_without : (name n : List ℕ) (v : Plain) (ms : Members) → n ≢ name → last_of name v (without n ms) ≡ last_of name v ms
last_without name n v no_members ne = refl
last_without name n v (member m w ms) ne =
    elim (same_or_not m n) [
      | inl is ↦
          ap (λ k. last_of name v (without n (member k w ms))) is ∙ ap (λ t. last_of name v t) (without_here n w ms) ∙ last_without name n v ms ne ∙ sym (last_past name n v w ms ne)
          ∙ ap (λ k. last_of name v (member k w ms)) (sym is)
      | inr apart ↦ ap (λ t. last_of name v t) (without_past n m w ms apart) ∙ last_without name n (cond (bytes_eq m name) w v) ms ne
    ]

-- of equal names collapsed the first is the last
pub collapsed_last : {name : List ℕ} {z : Plain} (ms : Members) → FirstIs name z (collapse_members ms) → (w : Plain) → last_of name w (collapse_members ms) ≡ z
collapsed_last no_members f w = absurd (first_of_none f refl)
collapsed_last {name} {z} (member n v ms) f w =
    let rest : Members = collapse_members ms in
    let here : Plain = last_of n (collapse v) rest in
    elim (first_of_more f n here (without n rest) refl) [
      | inl is ↦
          ap (λ k. last_of k w (member n here (without n rest))) (sym is.0) ∙ last_here n w here (without n rest) ∙ lacks_last (without_lacks n rest) here ∙ is.1
      | inr later ↦ last_past name n w here (without n rest) later.0 ∙ last_without name n w rest later.0 ∙ collapsed_last ms (first_within n rest later.1 later.0) w
    ]

-- where the first of a name becomes another, the others stay
becomes_without : {name : List ℕ} {x y : Plain} {ms ns : Members} → FirstBecomes name x y ms ns → (n : List ℕ) → n ≢ name → FirstBecomes name x y (without n ms) (without n ns)
becomes_without {name} {x} {y} (this_becomes {ms = ms}) n ne =
    let other : name ≢ n = λ e. ne (sym e) in
    subst (λ t. FirstBecomes name x y t (without n (member name y ms))) (sym (without_past n name x ms other))
    (subst (λ t. FirstBecomes name x y (member name x (without n ms)) t) (sym (without_past n name y ms other)) this_becomes)
becomes_without {name} {x} {y} (later_becomes {n = m} {w = w} {ms = ms} {ns = ns} other b) n ne =
    elim (same_or_not m n) [
      | inl is ↦
          subst (λ k. FirstBecomes name x y (without n (member k w ms)) (without n (member k w ns))) (sym is)
          (subst (λ t. FirstBecomes name x y t (without n (member n w ns))) (sym (without_here n w ms)) (subst (λ t. FirstBecomes name x y (without n ms) t) (sym (without_here n w ns)) (becomes_without b n ne)))
      | inr apart ↦
          subst (λ t. FirstBecomes name x y t (without n (member m w ns))) (sym (without_past n m w ms apart))
          (subst (λ t. FirstBecomes name x y (member m w (without n ms)) t) (sym (without_past n m w ns apart)) (later_becomes other (becomes_without b n ne)))
    ]

becomes_rest : {name : List ℕ} {x y : Plain} {ms ns : Members} → FirstBecomes name x y ms ns → without name ms ≡ without name ns
becomes_rest {name} {x} {y} (this_becomes {ms = ms}) = without_here name x ms ∙ sym (without_here name y ms)
becomes_rest {name} (later_becomes {n = m} {w = w} {ms = ms} {ns = ns} other b) = without_past name m w ms other ∙ ap (member m w) (becomes_rest b) ∙ sym (without_past name m w ns other)

becomes_last : {name : List ℕ} {x y : Plain} {ms ns : Members} → FirstBecomes name x y ms ns → (n : List ℕ) → n ≢ name → (v : Plain) → last_of n v ms ≡ last_of n v ns
becomes_last {name} {x} {y} (this_becomes {ms = ms}) n ne v = let other : name ≢ n = λ e. ne (sym e) in last_past n name v x ms other ∙ sym (last_past n name v y ms other)
becomes_last (later_becomes {n = m} {w = w} other b) n ne v = becomes_last b n ne (cond (bytes_eq m n) w v)

-- where one is appended, the others stay
comes_without : {name : List ℕ} {v : Plain} {ms ns : Members} → IsAppended name v ms ns → (n : List ℕ) → n ≢ name → IsAppended name v (without n ms) (without n ns)
comes_without {name} {v} appended_alone n ne = subst (IsAppended name v no_members) (sym (without_past n name v no_members (λ e. ne (sym e)))) appended_alone
comes_without {name} {v} (appended_after {n = m} {w = w} {ms = ms} {ns = ns} other c) n ne =
    elim (same_or_not m n) [
      | inl is ↦
          subst (λ k. IsAppended name v (without n (member k w ms)) (without n (member k w ns))) (sym is)
          (subst (λ t. IsAppended name v t (without n (member n w ns))) (sym (without_here n w ms)) (subst (λ t. IsAppended name v (without n ms) t) (sym (without_here n w ns)) (comes_without c n ne)))
      | inr apart ↦
          subst (λ t. IsAppended name v t (without n (member m w ns))) (sym (without_past n m w ms apart))
          (subst (λ t. IsAppended name v (member m w (without n ms)) t) (sym (without_past n m w ns apart)) (appended_after other (comes_without c n ne)))
    ]

comes_last_of : {name : List ℕ} {v : Plain} {ms ns : Members} → IsAppended name v ms ns → (n : List ℕ) → n ≢ name → (w : Plain) → last_of n w ms ≡ last_of n w ns
comes_last_of {name} {v} appended_alone n ne w = sym (last_past n name w v no_members (λ e. ne (sym e)))
comes_last_of (appended_after {n = m} {w = u} other c) n ne w = comes_last_of c n ne (cond (bytes_eq m n) u w)

pub comes_collapsed : {name : List ℕ} {v : Plain} {ms ns : Members} → IsAppended name v ms ns → IsAppended name (collapse v) (collapse_members ms) (collapse_members ns)
comes_collapsed appended_alone = appended_alone
comes_collapsed {name} {v} (appended_after {n = n} {w = w} {ms = ms} {ns = ns} ne c) =
    let inner = comes_collapsed c in
    subst (λ k. IsAppended name (collapse v) (member n k (without n (collapse_members ms))) (collapse_members (member n w ns))) (sym (comes_last_of inner n ne (collapse w)))
    (appended_after ne (comes_without inner n ne))

-- a property of the name before the last one: the last has its name
pub first_behind : {name : List ℕ} {z : Plain} (n : List ℕ) (w : Plain) (ms : Members) → FirstIs name z (collapse_members ms) → FirstIs name z (collapse_members (member n w ms))
first_behind {name} {z} n w ms f =
    elim (same_or_not n name) [
      | inl is ↦
          subst (λ k. FirstIs name z (member k (last_of k (collapse w) (collapse_members ms)) (without k (collapse_members ms)))) (sym is)
          (subst (λ x. FirstIs name z (member name x (without name (collapse_members ms)))) (sym (collapsed_last ms f (collapse w))) this_one)
      | inr ne ↦ later_one ne (first_without f n ne)
    ]

pub becomes_behind : {name : List ℕ} {x y : Plain} (n : List ℕ) (w : Plain) (ms ns : Members) → FirstBecomes name x y (collapse_members ms) (collapse_members ns)
    → FirstBecomes name x y (collapse_members (member n w ms)) (collapse_members (member n w ns))
becomes_behind {name} {x} {y} n w ms ns b =
    let old : Members = collapse_members ms in
    let new : Members = collapse_members ns in
    elim (same_or_not n name) [
      | inl is ↦
          subst (λ k. FirstBecomes name x y (member k (last_of k (collapse w) old) (without k old)) (member k (last_of k (collapse w) new) (without k new))) (sym is)
          (subst (λ k. FirstBecomes name x y (member name k (without name old)) (member name (last_of name (collapse w) new) (without name new))) (sym (collapsed_last ms (first_was b) (collapse w)))
          (subst (λ k. FirstBecomes name x y (member name x (without name old)) (member name k (without name new))) (sym (collapsed_last ns (first_is_now b) (collapse w)))
          (subst (λ t. FirstBecomes name x y (member name x (without name old)) (member name y t)) (becomes_rest b) this_becomes)))
      | inr ne ↦
          subst (λ k. FirstBecomes name x y (member n (last_of n (collapse w) old) (without n old)) (member n k (without n new))) (becomes_last b n ne (collapse w))
          (later_becomes ne (becomes_without b n ne))
    ]

-- the last of the name, with none after it
pub first_alone : {name : List ℕ} {ms : Members} (v : Plain) → LacksMember name ms → FirstIs name (collapse v) (collapse_members (member name v ms))
first_alone {name} {ms} v l =
    subst (λ x. FirstIs name (collapse v) (member name x (without name (collapse_members ms)))) (sym (lacks_last (lacks_collapsed l) (collapse v))) this_one

pub becomes_alone : {name : List ℕ} {ms : Members} (v w : Plain) → LacksMember name ms → FirstBecomes name (collapse v) (collapse w) (collapse_members (member name v ms)) (collapse_members (member name w ms))
becomes_alone {name} {ms} v w l =
    let rest : Members = without name (collapse_members ms) in
    subst (λ x. FirstBecomes name (collapse v) (collapse w) (member name x rest) (collapse_members (member name w ms))) (sym (lacks_last (lacks_collapsed l) (collapse v)))
    (subst (λ x. FirstBecomes name (collapse v) (collapse w) (member name (collapse v) rest) (member name x rest)) (sym (lacks_last (lacks_collapsed l) (collapse w))) this_becomes)
