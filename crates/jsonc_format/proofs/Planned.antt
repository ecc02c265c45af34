-- Containers on one line, as far as a text is read.
use Rattle.std.proofs.Common.{ℕ, ◌≡◌, ◌∙◌, sym, ap, refl, subst, Bool, true, false, not, ◌&&◌, List, [], ◌∷◌, ◌++◌, length, IsUtf8, chars, slice_range, append_assoc, None, if◌then◌else◌}
use Rattle.jsonc_text.specs.Options.{Options}
use Rattle.jsonc_text.specs.Text.{rest, is_line_end}
use Rattle.jsonc_text.specs.Lexemes.{Scanned}
use Rattle.jsonc_text.proofs.Cuts.{chars_between, slice_chars}
use Rattle.jsonc_scan.specs.declared.scanner.Scanner.{Scanner}
use Rattle.jsonc_scan.specs.Scanner.{PassesBlanks, IsThere}
use Rattle.jsonc_format.specs.declared.class.Class.{Class}
use Rattle.jsonc_format.specs.declared.class.Class.TheVariants as class
use Rattle.jsonc_format.specs.declared.plan.Pending.{Pending}
use Rattle.jsonc_format.specs.declared.plan.Plan.{Plan}
use Rattle.jsonc_format.specs.Classes.{IsOf, opens_by, closes_by}
use Rattle.jsonc_format.specs.Flags.{flats}
use Rattle.jsonc_format.specs.Format.{Piece, IsPieces, in_line}
use Rattle.jsonc_format.specs.Pieces.{IsReadAt, piece_at, AreFlagsOf}
use Rattle.jsonc_format.specs.Plans.{marked, pending, closed_flat, closed_open, AreOrdered, IsFresh, Passes}
use Rattle.jsonc_format.proofs.Machine.{IsKnown, ends_in_line, passed_other, passed_open, passed_close, ordered_open, ordered_close, ordered_other, known_end}
use Rattle.jsonc_format.proofs.Steps.{read_front}
use Rattle.jsonc_format.proofs.Reading.{IsAt, none_left, moved, moved_three}

in_line_joined : (s t : List ℕ) → in_line (s ++ t) ≡ in_line s && in_line t
in_line_joined [] t = refl
in_line_joined (c ∷ s) t = ap (λ b. not (is_line_end c) && b) (in_line_joined s t) ∙ and_joined (not (is_line_end c)) (in_line s) (in_line t)
  where
    and_joined : (a b c : Bool) → a && (b && c) ≡ (a && b) && c
    and_joined true b c = refl
    and_joined false b c = refl

-- what is read is in one line where the bytes of it and of the blanks before it are
pub read_in_line : (o : Options) (bytes : List ℕ) (from begin end : ℕ) (w : Scanned) → IsUtf8 bytes → IsReadAt o bytes from begin end w
    → in_line (chars (slice_range bytes from end)) ≡ ends_in_line (piece_at bytes from begin end w)
read_in_line o bytes from begin end w u r =
    let g = chars (slice_range bytes from begin) in
    let s = chars (slice_range bytes begin end) in
    let text : rest bytes begin ≡ s ++ rest bytes end = chars_between bytes begin end u r.text in
    let whole : rest bytes from ≡ (g ++ s) ++ rest bytes end = chars_between bytes from begin u r.gap ∙ ap (λ t. g ++ t) text ∙ sym (append_assoc g s (rest bytes end)) in
    ap in_line (slice_chars bytes (g ++ s) from end u r.gap.from r.text.to whole) ∙ in_line_joined g s

pub not_not : {s t : List ℕ} (b : Bool) → b ≡ not (in_line (chars s)) → s ≡ t → not b ≡ in_line (chars t)
not_not {s} {t} b e f = rw (e, f) (each (in_line (chars t)))
  where
    each : (b : Bool) → not (not b) ≡ b
    each true = refl
    each false = refl

-- the pieces that are left, and what is known then
pub record Known (o : Options) (bytes tail : List ℕ) (all : List Bool) (place : ℕ) (flat : List Bool) (os : List Pending) (bare : Bool) : Type 0 where
  pub pieces : List Piece
  pub parts : IsPieces o tail (rest bytes place) pieces
  pub known : IsKnown flat os bare pieces all

pub record PlansTo (o : Options) (bytes : List ℕ) (place : ℕ) (flat : List Bool) (os : List Pending) (bare : Bool) : Type 0 where
  pub ordered : AreOrdered flat os
  pub fresh : IsFresh bare os
  pub goes : (tail : List ℕ) (ps : List Piece) → IsPieces o tail (chars bytes) ps → Known o bytes tail (flats ps) place flat os bare

pub plans_start : (o : Options) (bytes : List ℕ) → PlansTo o bytes 0 [] [] false
plans_start o bytes = record { ordered = tt; fresh = tt; goes = λ tail ps h. record { pieces = ps; parts = h; known = record { same = refl } } }

step_known : (flat all : List Bool) (os : List Pending) (bare il : Bool) (class : Class) (p : Piece) (ps : List Piece) → IsOf class p.what → AreOrdered flat os → IsFresh bare os → il ≡ ends_in_line p
    → IsKnown flat os bare (p ∷ ps) all
    → IsKnown (if opens_by class then flat ++ false ∷ [] else (if closes_by class then closed_flat bare flat (marked (not il) os) else flat))
    (if opens_by class then record { number = length flat; broken = false } ∷ marked (not il) os else (if closes_by class then closed_open (marked (not il) os) else marked (not il) os)) (opens_by class) ps all
step_known flat all os bare il class.OpenArray p ps h o f i k = passed_open flat all os bare il p ps o f i h.opening h.closing k
step_known flat all os bare il class.OpenObject p ps h o f i k = passed_open flat all os bare il p ps o f i h.opening h.closing k
step_known flat all os bare il class.Close p ps h o f i k = passed_close flat all os bare il p ps o f i h.opening h.closing k
step_known flat all os bare il class.Comma p ps h o f i k = passed_other flat all os bare il p ps f i h.opening h.closing k
step_known flat all os bare il class.Colon p ps h o f i k = passed_other flat all os bare il p ps f i h.opening h.closing k
step_known flat all os bare il class.Literal p ps h o f i k = passed_other flat all os bare il p ps f i h.opening h.closing k
step_known flat all os bare il class.BlockComment p ps h o f i k = passed_other flat all os bare il p ps f i h.opening h.closing k
step_known flat all os bare il class.LineComment p ps h o f i k = passed_other flat all os bare il p ps f i h.opening h.closing k

step_ordered : (flat : List Bool) (os : List Pending) (bare il : Bool) (class : Class) → AreOrdered flat os
    → AreOrdered (if opens_by class then flat ++ false ∷ [] else (if closes_by class then closed_flat bare flat (marked (not il) os) else flat))
    (if opens_by class then record { number = length flat; broken = false } ∷ marked (not il) os else (if closes_by class then closed_open (marked (not il) os) else marked (not il) os))
step_ordered flat os bare il class o = by_class (opens_by class) (closes_by class)
  where
    by_class : (op cl : Bool) → AreOrdered (if op then flat ++ false ∷ [] else (if cl then closed_flat bare flat (marked (not il) os) else flat))
        (if op then record { number = length flat; broken = false } ∷ marked (not il) os else (if cl then closed_open (marked (not il) os) else marked (not il) os))
    by_class true cl = ordered_open flat os (not il) o
    by_class false true = ordered_close bare (not il) flat os o
    by_class false false = ordered_other (not il) flat os o

step_fresh : (flat : List Bool) (os : List Pending) (il : Bool) (class : Class)
    → IsFresh (opens_by class) (if opens_by class then record { number = length flat; broken = false } ∷ marked (not il) os else (if closes_by class then closed_open (marked (not il) os) else marked (not il) os))
step_fresh flat os il class = by_class (opens_by class) (closes_by class)
  where
    by_class : (op cl : Bool) → IsFresh op (if op then record { number = length flat; broken = false } ∷ marked (not il) os else (if cl then closed_open (marked (not il) os) else marked (not il) os))
    by_class true cl = refl
    by_class false cl = tt

module _ {A : Type 0} where
  abbrev pub PlansAt : Options → List ℕ → ℕ → Plan A → Type 0
  PlansAt o bytes place p = PlansTo o bytes place p.flat.items (pending p) p.bare

  pub plans_begin : (o : Options) (bytes : List ℕ) (p : Plan A) → p.flat.items ≡ [] → pending p ≡ [] → p.bare ≡ false → PlansAt o bytes 0 p
  plans_begin o bytes p a b e = moved_three (PlansTo o bytes 0) (sym a) (sym b) (sym e) (plans_start o bytes)

  pub plans_next : (o : Options) (bytes : List ℕ) (from begin end : ℕ) (old new : Plan A) (class : Class) (il : Bool) (w : Scanned) → IsUtf8 bytes → PlansAt o bytes from old → IsReadAt o bytes from begin end w
      → IsOf class w → il ≡ in_line (chars (slice_range bytes from end)) → Passes class il old new → PlansAt o bytes end new
  plans_next o bytes from begin end old new class il w u p r c i x =
      let line : il ≡ ends_in_line (piece_at bytes from begin end w) = i ∙ read_in_line o bytes from begin end w u r in
      record {
        ordered = moved AreOrdered (sym x.flat) (sym x.open_ones) (step_ordered old.flat.items (pending old) old.bare il class p.ordered);
        fresh = moved IsFresh (sym x.bare) (sym x.open_ones) (step_fresh old.flat.items (pending old) il class);
        goes = λ tail ps h.
            let k = p.goes tail ps h in
            let front = read_front o bytes from begin end w u r tail k.pieces k.parts in
            let known = step_known old.flat.items (flats ps) (pending old) old.bare il class (piece_at bytes from begin end w) front.others c p.ordered p.fresh line (subst (λ qs. IsKnown old.flat.items (pending old) old.bare qs (flats ps)) front.same k.known) in
            record { pieces = front.others; parts = front.parts; known = moved_three (λ flat os bare. IsKnown flat os bare front.others (flats ps)) (sym x.flat) (sym x.open_ones) (sym x.bare) known };
      }

  pub plans_end : (o : Options) (bytes : List ℕ) (place : ℕ) (p : Plan A) (old new : Scanner A) → PlansAt o bytes place p → IsAt o bytes old place → PassesBlanks old new → IsThere new None
      → AreFlagsOf o bytes p.flat.items
  plans_end o bytes place p old new q a b n tail ps h =
      let k = q.goes tail ps h in
      let none = (none_left o bytes tail old new place k.pieces a b n k.parts).0 in
      sym (known_end p.flat.items (flats ps) (pending p) p.bare q.ordered q.fresh (subst (λ qs. IsKnown p.flat.items (pending p) p.bare qs (flats ps)) none k.known))
