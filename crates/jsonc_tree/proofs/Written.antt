-- What a link change leaves of each link.
use Rattle.std.proofs.Common.{◌≡◌, ◌≢◌, ◌⊎◌, ℕ, ◌<◌, List, length, set, Option, None, Some, IfSome, inl, inr, refl, sym, ap, ◌∙◌, arith, length-set}
use Rattle.std.proofs.lemmas.List.{get_or-set_same, get_or-set_other, set_past}
use Rattle.std.proofs.lemmas.Bool.{cases_eq, cases_lt}
use Rattle.jsonc_tree.specs.Stored.{nowhere, link_at, ahead_at, back_at, ahead_set, back_set, place_set, LinkedNode}

-- another gap: of another node, or at the front or end of another container
abbrev pub Apart : ℕ → Option ℕ → ℕ → Option ℕ → Type 0
Apart d p c o = (p ≢ o) ⊎ ((p ≡ None) × (d ≢ c))

-- a write leaves what it does not change
pub kept : {X : Type 0} (f : LinkedNode → X) (ls : List LinkedNode) (n k : ℕ) (e : LinkedNode) → f e ≡ f (link_at ls n) → f (link_at (set ls n e) k) ≡ f (link_at ls k)
kept f ls n k e same =
    elim (cases_eq k n) [
      | inl is ↦ elim (cases_lt n (length ls)) [
        | inl h ↦ ap (λ m. f (link_at (set ls n e) m)) is ∙ ap f (get_or-set_same ls n e nowhere h) ∙ same ∙ ap (λ m. f (link_at ls m)) (sym is)
        | inr h ↦ ap (λ l. f (link_at l k)) (set_past ls n e h)
      ]
      | inr ne ↦ ap f (get_or-set_other ls n k e nowhere ne)
    ]

pub same_here : {X : Type 0} (f : LinkedNode → X) (ls : List LinkedNode) (n : ℕ) (e : LinkedNode) → n < length ls → f (link_at (set ls n e) n) ≡ f e
same_here f ls n e h = ap f (get_or-set_same ls n e nowhere h)

pub same_there : {X : Type 0} (f : LinkedNode → X) (ls : List LinkedNode) (n k : ℕ) (e : LinkedNode) → k ≢ n → f (link_at (set ls n e) k) ≡ f (link_at ls k)
same_there f ls n k e ne = ap f (get_or-set_other ls n k e nowhere ne)

pub length-ahead_set : (ls : List LinkedNode) (c : ℕ) (o t : Option ℕ) → length (ahead_set ls c o t) ≡ length ls
length-ahead_set ls c None t = length-set ls c _
length-ahead_set ls c (Some n) t = length-set ls n _

pub length-back_set : (ls : List LinkedNode) (c : ℕ) (o t : Option ℕ) → length (back_set ls c o t) ≡ length ls
length-back_set ls c None t = length-set ls c _
length-back_set ls c (Some n) t = length-set ls n _

module _ {X : Type 0} (f : LinkedNode → X) (ls : List LinkedNode) (c k : ℕ) (t : Option ℕ) where
  pub ahead_set_keeps : (o : Option ℕ) → ((n : LinkedNode) → f (record n { first = t }) ≡ f n) → ((n : LinkedNode) → f (record n { next = t }) ≡ f n) → f (link_at (ahead_set ls c o t) k) ≡ f (link_at ls k)
  ahead_set_keeps None a b = kept f ls c k (record (link_at ls c) { first = t }) (a (link_at ls c))
  ahead_set_keeps (Some l) a b = kept f ls l k (record (link_at ls l) { next = t }) (b (link_at ls l))

  pub back_set_keeps : (o : Option ℕ) → ((n : LinkedNode) → f (record n { last = t }) ≡ f n) → ((n : LinkedNode) → f (record n { previous = t }) ≡ f n) → f (link_at (back_set ls c o t) k) ≡ f (link_at ls k)
  back_set_keeps None a b = kept f ls c k (record (link_at ls c) { last = t }) (a (link_at ls c))
  back_set_keeps (Some l) a b = kept f ls l k (record (link_at ls l) { previous = t }) (b (link_at ls l))

ahead_set_hit : (ls : List LinkedNode) (c : ℕ) (o t : Option ℕ) → c < length ls → IfSome o (λ n. n < length ls) → ahead_at (ahead_set ls c o t) c o ≡ t
ahead_set_hit ls c None t at there = same_here (λ n. n.first) ls c (record (link_at ls c) { first = t }) at
ahead_set_hit ls c (Some n) t at there = same_here (λ n. n.next) ls n (record (link_at ls n) { next = t }) there

back_set_hit : (ls : List LinkedNode) (c : ℕ) (o t : Option ℕ) → c < length ls → IfSome o (λ n. n < length ls) → back_at (back_set ls c o t) c o ≡ t
back_set_hit ls c None t at there = same_here (λ n. n.last) ls c (record (link_at ls c) { last = t }) at
back_set_hit ls c (Some n) t at there = same_here (λ n. n.previous) ls n (record (link_at ls n) { previous = t }) there

ahead_set_miss : (ls : List LinkedNode) (c : ℕ) (o t : Option ℕ) (d : ℕ) (p : Option ℕ) → Apart d p c o → ahead_at (ahead_set ls c o t) d p ≡ ahead_at ls d p
ahead_set_miss ls c None t d None (inl ne) = absurd (ne refl)
ahead_set_miss ls c None t d None (inr (e, ne)) = same_there (λ n. n.first) ls c d (record (link_at ls c) { first = t }) ne
ahead_set_miss ls c None t d (Some m) apart = kept (λ n. n.next) ls c m (record (link_at ls c) { first = t }) refl
ahead_set_miss ls c (Some l) t d None apart = kept (λ n. n.first) ls l d (record (link_at ls l) { next = t }) refl
ahead_set_miss ls c (Some l) t d (Some m) (inl ne) = same_there (λ n. n.next) ls l m (record (link_at ls l) { next = t }) (λ e. ne (ap Some e))
ahead_set_miss ls c (Some l) t d (Some m) (inr (e, ne)) = let wrong : Some m ≡ None = e in cc

back_set_miss : (ls : List LinkedNode) (c : ℕ) (o t : Option ℕ) (d : ℕ) (p : Option ℕ) → Apart d p c o → back_at (back_set ls c o t) d p ≡ back_at ls d p
back_set_miss ls c None t d None (inl ne) = absurd (ne refl)
back_set_miss ls c None t d None (inr (e, ne)) = same_there (λ n. n.last) ls c d (record (link_at ls c) { last = t }) ne
back_set_miss ls c None t d (Some m) apart = kept (λ n. n.previous) ls c m (record (link_at ls c) { last = t }) refl
back_set_miss ls c (Some l) t d None apart = kept (λ n. n.last) ls l d (record (link_at ls l) { previous = t }) refl
back_set_miss ls c (Some l) t d (Some m) (inl ne) = same_there (λ n. n.previous) ls l m (record (link_at ls l) { previous = t }) (λ e. ne (ap Some e))
back_set_miss ls c (Some l) t d (Some m) (inr (e, ne)) = let wrong : Some m ≡ None = e in cc

ahead_by_back : (ls : List LinkedNode) (c : ℕ) (o t : Option ℕ) (d : ℕ) (p : Option ℕ) → ahead_at (back_set ls c o t) d p ≡ ahead_at ls d p
ahead_by_back ls c o t d None = back_set_keeps (λ n. n.first) ls c d t o (λ n. refl) (λ n. refl)
ahead_by_back ls c o t d (Some m) = back_set_keeps (λ n. n.next) ls c m t o (λ n. refl) (λ n. refl)

back_by_ahead : (ls : List LinkedNode) (c : ℕ) (o t : Option ℕ) (d : ℕ) (p : Option ℕ) → back_at (ahead_set ls c o t) d p ≡ back_at ls d p
back_by_ahead ls c o t d None = ahead_set_keeps (λ n. n.last) ls c d t o (λ n. refl) (λ n. refl)
back_by_ahead ls c o t d (Some m) = ahead_set_keeps (λ n. n.previous) ls c m t o (λ n. refl) (λ n. refl)

ahead_by_place : (ls : List LinkedNode) (x : ℕ) (p q r : Option ℕ) (d : ℕ) (o : Option ℕ) → o ≢ Some x → ahead_at (place_set ls x p q r) d o ≡ ahead_at ls d o
ahead_by_place ls x p q r d None ne = kept (λ n. n.first) ls x d (record (link_at ls x) { parent = p; previous = q; next = r }) refl
ahead_by_place ls x p q r d (Some m) ne = same_there (λ n. n.next) ls x m (record (link_at ls x) { parent = p; previous = q; next = r }) (λ e. ne (ap Some e))

back_by_place : (ls : List LinkedNode) (x : ℕ) (p q r : Option ℕ) (d : ℕ) (o : Option ℕ) → o ≢ Some x → back_at (place_set ls x p q r) d o ≡ back_at ls d o
back_by_place ls x p q r d None ne = kept (λ n. n.last) ls x d (record (link_at ls x) { parent = p; previous = q; next = r }) refl
back_by_place ls x p q r d (Some m) ne = same_there (λ n. n.previous) ls x m (record (link_at ls x) { parent = p; previous = q; next = r }) (λ e. ne (ap Some e))

-- the three writes of a link change: over the gap of b and a in c, ahead and back, and the place of x
abbrev pub relinked : List LinkedNode → ℕ → Option ℕ → Option ℕ → Option ℕ → Option ℕ → ℕ → Option ℕ → Option ℕ → Option ℕ → List LinkedNode
relinked ls c b a s t x p q r = place_set (back_set (ahead_set ls c b s) c a t) x p q r

module _ (ls : List LinkedNode) (c : ℕ) (b a s t : Option ℕ) (x : ℕ) (p q r : Option ℕ) where
  -- no link says what a node is, or how many lines end in a row
  field_stays : {X : Type 0} (f : LinkedNode → X) (k : ℕ) → ((n : LinkedNode) (o : Option ℕ) → f (record n { first = o }) ≡ f n) → ((n : LinkedNode) (o : Option ℕ) → f (record n { next = o }) ≡ f n) → ((n : LinkedNode) (o : Option ℕ) → f (record n { last = o }) ≡ f n) → ((n : LinkedNode) (o : Option ℕ) → f (record n { previous = o }) ≡ f n) → ((n : LinkedNode) → f (record n { parent = p; previous = q; next = r }) ≡ f n) → f (link_at (relinked ls c b a s t x p q r) k) ≡ f (link_at ls k)
  field_stays f k h1 h2 h3 h4 h5 =
      kept f (back_set (ahead_set ls c b s) c a t) x k _ (h5 _)
      ∙ back_set_keeps f (ahead_set ls c b s) c k t a (λ n. h3 n t) (λ n. h4 n t)
      ∙ ahead_set_keeps f ls c k s b (λ n. h1 n s) (λ n. h2 n s)

  pub content_kept : (k : ℕ) → (link_at (relinked ls c b a s t x p q r) k).content ≡ (link_at ls k).content
  content_kept k = field_stays (λ n. n.content) k (λ n o. refl) (λ n o. refl) (λ n o. refl) (λ n o. refl) (λ n. refl)

  pub lines_kept : (k : ℕ) → (link_at (relinked ls c b a s t x p q r) k).lines ≡ (link_at ls k).lines
  lines_kept k = field_stays (λ n. n.lines) k (λ n o. refl) (λ n o. refl) (λ n o. refl) (λ n o. refl) (λ n. refl)

module _ (ls : List LinkedNode) (c : ℕ) (b a s t : Option ℕ) (x : ℕ) (p q r : Option ℕ) (at : c < length ls) (there : x < length ls) (b_there : IfSome b (λ n. n < length ls)) (a_there : IfSome a (λ n. n < length ls)) where
  pub length-relinked : length (relinked ls c b a s t x p q r) ≡ length ls
  length-relinked = length-set (back_set (ahead_set ls c b s) c a t) x _ ∙ length-back_set (ahead_set ls c b s) c a t ∙ length-ahead_set ls c b s

  x_there : x < length (back_set (ahead_set ls c b s) c a t)
  x_there = omega (arith, length-back_set (ahead_set ls c b s) c a t, length-ahead_set ls c b s)

  pub parent_here : (link_at (relinked ls c b a s t x p q r) x).parent ≡ p
  parent_here = same_here (λ n. n.parent) (back_set (ahead_set ls c b s) c a t) x _ x_there

  pub parent_kept : (k : ℕ) → k ≢ x → (link_at (relinked ls c b a s t x p q r) k).parent ≡ (link_at ls k).parent
  parent_kept k ne =
      same_there (λ n. n.parent) (back_set (ahead_set ls c b s) c a t) x k _ ne
      ∙ back_set_keeps (λ n. n.parent) (ahead_set ls c b s) c k t a (λ n. refl) (λ n. refl)
      ∙ ahead_set_keeps (λ n. n.parent) ls c k s b (λ n. refl) (λ n. refl)

  pub next_here : (link_at (relinked ls c b a s t x p q r) x).next ≡ r
  next_here = same_here (λ n. n.next) (back_set (ahead_set ls c b s) c a t) x _ x_there

  pub previous_here : (link_at (relinked ls c b a s t x p q r) x).previous ≡ q
  previous_here = same_here (λ n. n.previous) (back_set (ahead_set ls c b s) c a t) x _ x_there

  pub ahead_hit : b ≢ Some x → ahead_at (relinked ls c b a s t x p q r) c b ≡ s
  ahead_hit ne =
      ahead_by_place (back_set (ahead_set ls c b s) c a t) x p q r c b ne
      ∙ ahead_by_back (ahead_set ls c b s) c a t c b
      ∙ ahead_set_hit ls c b s at b_there

  pub back_hit : a ≢ Some x → back_at (relinked ls c b a s t x p q r) c a ≡ t
  back_hit ne =
      back_by_place (back_set (ahead_set ls c b s) c a t) x p q r c a ne
      ∙ back_set_hit (ahead_set ls c b s) c a t (omega (arith, length-ahead_set ls c b s)) (rw (length-ahead_set ls c b s) a_there)

  pub ahead_miss : (d : ℕ) (o : Option ℕ) → o ≢ Some x → Apart d o c b → ahead_at (relinked ls c b a s t x p q r) d o ≡ ahead_at ls d o
  ahead_miss d o ne apart =
      ahead_by_place (back_set (ahead_set ls c b s) c a t) x p q r d o ne
      ∙ ahead_by_back (ahead_set ls c b s) c a t d o
      ∙ ahead_set_miss ls c b s d o apart

  pub back_miss : (d : ℕ) (o : Option ℕ) → o ≢ Some x → Apart d o c a → back_at (relinked ls c b a s t x p q r) d o ≡ back_at ls d o
  back_miss d o ne apart =
      back_by_place (back_set (ahead_set ls c b s) c a t) x p q r d o ne
      ∙ back_set_miss (ahead_set ls c b s) c a t d o apart
      ∙ back_by_ahead ls c b s d o
