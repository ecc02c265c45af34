-- How deep what is put at names is nested in the document.
use Rattle.std.proofs.Common.{ℕ, suc, ◌≡◌, ◌≤◌, ◌<◌, ◌+◌, ◌-◌, ◌*◌, ◌∙◌, ◌↔◌, Bool, true, false, sym, ap, subst, refl, List, [], ◌∷◌, ◌++◌, length, Option, Some, None, arith}
use Rattle.std.proofs.lemmas.List.{length-map}
use Rattle.std.specs.Bool.{Decides}
use Rattle.std.specs.declared.string.String.{String}
use Rattle.jsonc_text.specs.Documents.{Document}
use Rattle.jsonc_text.specs.Plain.{Plain, Members, no_members, member, around, members_around}
use Rattle.jsonc_text.specs.Plain as plain
use Rattle.jsonc_text.specs.declared.edit.Over.{Over}
use Rattle.jsonc_layout.specs.input.Views.{chars_of}
use Rattle.jsonc_text.specs.declared.edit.EditError.TheVariants.{NestingDepthExceeded}
use Rattle.jsonc_tree.specs.OrderedTree.{ordered_tree}
use Rattle.jsonc_tree.specs.Tree.{Node, IsTree}
use Rattle.jsonc_sound.specs.Documents.{Shows}
use Rattle.jsonc_walk.specs.Refusals.{IsWithin}
use Rattle.jsonc_run.specs.Depth.{around_in, levels, levels_of_member, needs_in}
use Rattle.jsonc_run.specs.Edits.{PlainEdit}
use Rattle.jsonc_run.specs.Named.{Asks}
use Rattle.jsonc_run.specs.Refusals.{FailsWith}
use Rattle.jsonc_run.specs.texts.Edits.{Operation, Run}
use Rattle.jsonc_run.proofs.lemmas.depth.Chains.{run_keeps_depth}
use Rattle.jsonc_run.proofs.lemmas.depth.Needed.{asked_needs, needs_so}
use Rattle.jsonc_parser.specs.paths.Calls.{FitsAt}
use Rattle.jsonc_parser.specs.paths.Found.{names_of}
use Rattle.jsonc_parser.specs.paths.Positions.{IsDroppedBy, removes, IsPutBy, sets_root as root_set, sets_first, sets_value, appends, replaces, Leads, leads_nowhere, leads_on}
use Rattle.jsonc_parser.specs.paths.Settings.{FirstAt, this_at, later_at, nest}
use Rattle.jsonc_parser.specs.paths.Which.{IsChosenAt, LastAt, last_one, last_later}
use Rattle.jsonc_parser.specs.declared.paths.which.Which.{Which}
use Rattle.jsonc_parser.specs.declared.paths.which.Which.TheVariants.{First, Last}

-- values that are within the depth, as numbers
pub within_of : (w : Option Plain) → around_in w ≤ 512 → IsWithin w
within_of None h = tt
within_of (Some v) h = h

pub of_within : (w : Option Plain) → IsWithin w → around_in w ≤ 512
of_within None h = omega arith
of_within (Some v) h = h

-- around a value in an object of one property
pub around_in_one : (name : List ℕ) (v : Plain) → around (plain.object (member name v no_members)) ≡ suc (suc (around v))
around_in_one name v = omega arith

-- around what is nested, where some names go on after others
pub nest_on : (front rest : List (List ℕ)) (v : Plain) → nest (front ++ rest) v ≡ nest front (nest rest v)
nest_on [] rest v = refl
nest_on (name ∷ front) rest v = ap (λ x. plain.object (member name x no_members)) (nest_on front rest v)

-- around the value of a property of this number
first_levels : (name : List ℕ) {x : Plain} {i : ℕ} {ms : Members} (path : List ℕ) → FirstAt name x i ms → levels_of_member path i ms ≡ levels path x
first_levels name path this_at = refl
first_levels name path (later_at ne f) = first_levels name path f

last_levels : (name : List ℕ) {x : Plain} {i : ℕ} {ms : Members} (path : List ℕ) → LastAt name x i ms → levels_of_member path i ms ≡ levels path x
last_levels name path (last_one lacks) = refl
last_levels name path (last_later l) = last_levels name path l

chosen_levels : (which : Which) (name : List ℕ) (x : Plain) (i : ℕ) (ms : Members) (path : List ℕ) → IsChosenAt which name x i ms → levels_of_member path i ms ≡ levels path x
chosen_levels First name x i ms path f = first_levels name path f
chosen_levels Last name x i ms path l = last_levels name path l

-- around a value where names lead is what is around it where it is nested at them
pub leads_levels : {which : Which} {names : List (List ℕ)} {path : List ℕ} {x u : Plain} → Leads which names path x u → (z : Plain) → levels path x + around z ≡ around (nest names z)
leads_levels leads_nowhere z = omega arith
leads_levels {which} (leads_on {name = name} {names = names} {i = i} {path = path} {ms = ms} {x = x} f l) z =
    omega (arith, chosen_levels which name x i ms path f, leads_levels l z, around_in_one name (nest names z))

-- what the edit that puts a value at names writes is nested as the value is that is nested at them
pub put_needs : {which : Which} {v : Plain} {over : Over} {w : Option Plain} {names : List (List ℕ)} {e : PlainEdit} → IsPutBy which v over w names e → needs_in w e ≡ around (nest names v)
put_needs root_set = refl
put_needs sets_first = refl
put_needs {v = v} (sets_value l) = leads_levels l v
put_needs {v = v} (appends front rest {name = name} {path = path} {x = x} l lacks) =
    let inner : Plain = plain.object (member name (nest rest v) no_members) in
    let entered : levels path x + (2 + around (nest rest v)) ≡ levels path x + around inner = omega (arith, around_in_one name (nest rest v)) in
    entered ∙ leads_levels l inner ∙ ap around (sym (nest_on front (name ∷ rest) v))
put_needs {v = v} (replaces front rest {name = name} l non how) = leads_levels l (nest (name ∷ rest) v) ∙ ap around (sym (nest_on front (name ∷ rest) v))

pub put_fits : {which : Which} {v : Plain} {over : Over} {w : Option Plain} {names : List (List ℕ)} {e : PlainEdit} → IsPutBy which v over w names e → FitsAt names v → needs_in w e ≤ 512
put_fits {v = v} {names = names} by fits =
    let small : around (nest names v) ≤ 512 = fits in
    omega (arith, put_needs by, small)

pub drop_fits : {w : Option Plain} {names : List (List ℕ)} {e : PlainEdit} → IsDroppedBy w names e → needs_in w e ≤ 512
drop_fits (removes l) = omega arith

-- around what is nested: two for each name
pub around_nest : (names : List (List ℕ)) (v : Plain) → around (nest names v) ≡ 2 * length names + around v
around_nest [] v = omega arith
around_nest (name ∷ names) v = omega (arith, around_nest names v, around_in_one name (nest names v))

-- more names than 256 have no room
pub too_many : {A : Type 0} (names : List (String A)) (v : Plain) → 256 < length names → Decides false (FitsAt (names_of names) v)
too_many names v many = (
  λ e. cc,
  λ fits.
      let small : around (nest (names_of names) v) ≤ 512 = fits in
      absurd (omega (arith, many, small, around_nest (names_of names) v, length-map names chars_of)),
)

-- and what fits at no more has as much less around it
pub fits_by : {A : Type 0} (names : List (String A)) (v : Plain) (limit : ℕ) (b : Bool) → length names ≤ 256 → limit ≡ 512 - 2 * length names → (b ≡ true) ↔ (around v ≤ limit) → Decides b (FitsAt (names_of names) v)
fits_by names v limit b few is h = (
  λ e. (let small : around v ≤ limit = h.0 e in omega (arith, few, is, small, around_nest (names_of names) v, length-map names chars_of)),
  λ fits. (let small : around (nest (names_of names) v) ≤ 512 = fits in h.1 (omega (arith, few, is, small, around_nest (names_of names) v, length-map names chars_of))),
)

-- what was decided
pub decided : {P : Type 0} (b : Bool) → Decides b P → b ≡ true → P
decided b h e = h.0 e

pub decided_not : {P : Type 0} (b : Bool) → Decides b P → b ≡ false → ¬ P
decided_not b h e = λ p. (let wrong : false ≡ true = sym e ∙ h.1 p in cc)

-- a document that was within the depth is so after one edit that writes nothing too deep
pub run_within : {d e : Document} {op : Operation} (asked : PlainEdit) → Asks d.value asked op → Run d (op ∷ []) e → needs_in d.value asked ≤ 512 → IsWithin d.value → IsWithin e.value
run_within {d} {e} {op} asked asks run small old =
    within_of e.value (run_keeps_depth 512 run (omega (arith, asked_needs d.value asked op asks, small)) (of_within d.value old))

-- such an edit is not refused as too deep
pub refused_deep : (d : Document) (old : List Node) (op : PlainEdit) → IsTree old → Shows d (ordered_tree old 0) → needs_in d.value op ≤ 512 → FailsWith old op NestingDepthExceeded → ⊥
refused_deep d old op tree shown small failed =
    let deep : 512 < needs_in d.value op = needs_so d.options old tree d.value shown.value op (λ k. 512 < k) failed in
    absurd (omega (arith, deep, small))
