-- Which blanks an operation brings: of those that are neither a space nor an LF none but what the old text has, or what is written.
use Rattle.std.proofs.Common.{ℕ, ◌⊎◌, ◌==◌, inl, inr, sym, ap, subst, refl, Bool, true, false, not, List, [], ◌∷◌, ◌++◌, IsTrue}
use Rattle.std.proofs.lemmas.Bool.{cases_eq, eq-eqb, ne_eqb}
use Rattle.jsonc_text.specs.Documents.{Document}
use Rattle.jsonc_text.specs.Marks.{Mark}
use Rattle.jsonc_run.specs.texts.Edits.{Has, NoBlankComes, is_odd_blank, text_of_marks}
use Rattle.jsonc_run.specs.texts.Stretches.{IsSeam, Text}

not_both : (b : Bool) → IsTrue b → IsTrue (not b) → ⊥
not_both true h k = cc
not_both false h k = cc

module _ (c : ℕ) where
  -- the character stands nowhere in the text
  abbrev pub Lacks : List ℕ → Type 0
  Lacks [] = Unit {0}
  Lacks (x ∷ s) = IsTrue (not (x == c)) × Lacks s

  pub lacks_first : (a b : List ℕ) → Lacks (a ++ b) → Lacks a
  lacks_first [] b h = tt
  lacks_first (x ∷ a) b h = (h.0, lacks_first a b h.1)

  pub lacks_second : (a b : List ℕ) → Lacks (a ++ b) → Lacks b
  lacks_second [] b h = h
  lacks_second (x ∷ a) b h = lacks_second a b h.1

  pub lacks_both : (a b : List ℕ) → Lacks a → Lacks b → Lacks (a ++ b)
  lacks_both [] b h k = k
  lacks_both (x ∷ a) b h k = (h.0, lacks_both a b h.1 k)

  -- it stands there or not
  pub stands_or_not : (s : List ℕ) → Has c s ⊎ Lacks s
  stands_or_not [] = inr tt
  stands_or_not (x ∷ s) =
      elim (cases_eq x c) [
        | inl e ↦ inl ([], s, ap (λ y. y ∷ s) e)
        | inr e ↦
            elim (stands_or_not s) [
              | inl h ↦ inl (x ∷ h.0, h.1, ap (λ l. x ∷ l) h.2)
              | inr h ↦ inr (subst (λ b. IsTrue (not b)) (sym (ne_eqb x c e)) refl, h)
            ]
      ]

  same_one : IsTrue (c == c)
  same_one = eq-eqb c c refl

  pub not_there : (s : List ℕ) → Lacks s → Has c s → ⊥
  not_there s h (x, y, e) = not_both (c == c) same_one (lacks_second x (c ∷ y) (subst Lacks e h)).0

module _ (c : ℕ) (odd : IsTrue (is_odd_blank c)) where
  -- another character than such a blank is not that blank
  pub differs : (x : ℕ) → IsTrue (not (is_odd_blank x)) → IsTrue (not (x == c))
  differs x h =
      elim (cases_eq x c) [
        | inl e ↦ absurd (not_both (is_odd_blank c) odd (subst (λ y. IsTrue (not (is_odd_blank y))) e h))
        | inr e ↦ subst (λ b. IsTrue (not b)) (sym (ne_eqb x c e)) refl
      ]

  pub seam_lacks : {front back s : List ℕ} → IsSeam front back s → Lacks c s
  seam_lacks (inl e) = subst (Lacks c) (sym e) tt
  seam_lacks (inr (e, meet)) = subst (Lacks c) (sym e) (differs 0x20 refl, tt)

  -- what is put in the place of something
  pub text_lacks : {front was left now right back : List ℕ} {d e : Document} → Text front was left now right back d e → Lacks c now → Lacks c d.text → Lacks c e.text
  text_lacks {front} {was} {left} {now} {right} {back} t n h =
      let h0 = subst (Lacks c) t.before h in
      let h1 = lacks_second c was back (lacks_second c front (was ++ back) h0) in
      subst (Lacks c) (sym t.after) (lacks_both c front (left ++ (now ++ (right ++ back))) (lacks_first c front (was ++ back) h0)
      (lacks_both c left (now ++ (right ++ back)) (seam_lacks t.sides.0) (lacks_both c now (right ++ back) n (lacks_both c right back (seam_lacks t.sides.1) h1))))

-- so it is said of two documents
pub no_blank_comes : (d : Document) (come : List Mark) (e : Document) → ((c : ℕ) → IsTrue (is_odd_blank c) → Lacks c d.text → Lacks c (text_of_marks come) → Lacks c e.text) → NoBlankComes come d e
no_blank_comes d come e f c odd has =
    elim (stands_or_not c d.text) [
      | inl h ↦ inl h
      | inr h ↦
          elim (stands_or_not c (text_of_marks come)) [
            | inl k ↦ inr k
            | inr k ↦ absurd (not_there c e.text (f c odd h k) has)
          ]
    ]
