-- One edit that was made puts a value at names, or drops what is there.
use Rattle.std.proofs.Common.{ℕ, ◌≡◌, ◌≤◌, ◌∙◌, sym, ap, subst, refl, List, [], ◌∷◌, Option, All}
use Rattle.std.proofs.lemmas.List.Elements.{All-nil, All-cons}
use Rattle.jsonc_text.specs.Documents.{Document}
use Rattle.jsonc_run.specs.texts.Edits.{Operation, options_behind, Run}
use Rattle.jsonc_text.specs.Options.{Options}
use Rattle.jsonc_text.specs.Plain.{Plain}
use Rattle.jsonc_tree.specs.OrderedTree.{OrderedTree, ordered_tree}
use Rattle.jsonc_tree.specs.Tree.{Node, IsTree}
use Rattle.jsonc_sound.specs.Documents.{document_of, Shows}
use Rattle.jsonc_edit.specs.Writing.{IsOfNumbers}
use Rattle.jsonc_text.specs.declared.edit.EditError.{EditError}
use Rattle.jsonc_text.specs.declared.edit.EditError.TheVariants.{OutOfMemory, NoSuchPlace, InvalidComment, LineContinues, NestingDepthExceeded}
use Rattle.jsonc_edit.proofs.OneValue.{document_once}
use Rattle.jsonc_text.specs.declared.edit.Over.{Over}
use Rattle.jsonc_run.specs.Depth.{needs_in}
use Rattle.jsonc_run.specs.Edits.{PlainEdit, EditStep, first_made, none_made, IsOfCharacters, Allows}
use Rattle.jsonc_run.specs.Named.{comment_count, IsNamed, Asks}
use Rattle.jsonc_run.specs.Refusals.{FailsWith, InsertsLineAfter, InsertsNoComment}
use Rattle.jsonc_run.specs.Steps.{Step, Steps, no_step, one_step}
use Rattle.jsonc_run.specs.Written.{options_after, IsChanged}
use Rattle.jsonc_run.proofs.NamedPlaces.{tells_unnamed}
use Rattle.jsonc_run.proofs.Refused.{refused_so}
use Rattle.jsonc_run.proofs.SoundChain.{makes_steps}
use Rattle.jsonc_run.proofs.lemmas.promise.Chains.{steps_are_run}
use Rattle.jsonc_parser.specs.patch.Applied.{IsNoRoom}
use Rattle.jsonc_parser.specs.paths.Calls.{DropsButForMemory, DropsByOneEdit, PutsUnlessOutOfMemory, PutsByOneEdit}
use Rattle.jsonc_parser.specs.paths.Positions.{IsDroppedBy, removes, IsPutBy, sets_root, sets_first, sets_value, appends, replaces}
use Rattle.jsonc_parser.specs.paths.Settings.{nest}
use Rattle.jsonc_parser.specs.declared.paths.which.Which.{Which}
use Rattle.jsonc_parser.proofs.lemmas.paths.Depths.{drop_fits, put_fits, refused_deep, run_within}
use Rattle.jsonc_parser.proofs.lemmas.paths.Leading.{drops_by_it, puts_by_it}
use Rattle.jsonc_parser.proofs.lemmas.paths.Paths.{dropped_same, put_at, put_same}
use Rattle.jsonc_parser.proofs.lemmas.paths.LongestPrefix.{put_is_free}

-- what is nested is of these numbers
pub nest_numbers : (o : Options) (names : List (List ℕ)) (v : Plain) → IsOfNumbers o v → IsOfNumbers o (nest names v)
nest_numbers o [] v h = h
nest_numbers o (name ∷ names) v h = (nest_numbers o names v h, tt)

put_numbers : (o : Options) {which : Which} {v : Plain} {over : Over} {w : Option Plain} {names : List (List ℕ)} {e : PlainEdit} → IsPutBy which v over w names e → IsOfNumbers o v → Allows o e
put_numbers o sets_root m = m
put_numbers o {v} (sets_first {name = name} {names = names}) m = nest_numbers o (name ∷ names) v m
put_numbers o (sets_value l) m = m
put_numbers o {v} (appends front rest {name = name} l lacks) m = nest_numbers o rest v m
put_numbers o {v} (replaces front rest {name = name} l non how) m = nest_numbers o (name ∷ rest) v m

drop_numbers : (o : Options) {w : Option Plain} {names : List (List ℕ)} {e : PlainEdit} → IsDroppedBy w names e → Allows o e
drop_numbers o (removes l) = tt

drop_characters : {w : Option Plain} {names : List (List ℕ)} {e : PlainEdit} → IsDroppedBy w names e → IsOfCharacters e
drop_characters (removes l) = tt

-- it is no comment that is inserted
abbrev pub IsNoRemark : PlainEdit → Type 0
IsNoRemark e = (InsertsNoComment e → ⊥) × (InsertsLineAfter e → ⊥)

put_no_remark : {which : Which} {v : Plain} {over : Over} {w : Option Plain} {names : List (List ℕ)} {e : PlainEdit} → IsPutBy which v over w names e → IsNoRemark e
put_no_remark sets_root = (λ h. h, λ h. h)
put_no_remark sets_first = (λ h. h, λ h. h)
put_no_remark (sets_value l) = (λ h. h, λ h. h)
put_no_remark (appends front rest l lacks) = (λ h. h, λ h. h)
put_no_remark (replaces front rest l non how) = (λ h. h, λ h. h)

drop_no_remark : {w : Option Plain} {names : List (List ℕ)} {e : PlainEdit} → IsDroppedBy w names e → IsNoRemark e
drop_no_remark (removes l) = (λ h. h, λ h. h)

-- What one edit leads to: a document that the new tree shows, and whose value the operation makes that the edit asks for.
pub record LedTo (d : Document) (asked : PlainEdit) (new : List Node) : Type 0 where
  pub e : Document
  pub shown : Shows e (ordered_tree new 0)
  pub op : Operation
  pub asks : Asks d.value asked op
  pub edited : Run d (op ∷ []) e
  pub changed : IsChanged d.value op e.value

one_step_only : {o : Options} {t u : OrderedTree} {w y : Option Plain} {e : PlainEdit} {es : List PlainEdit} {ops : List Operation} → Steps o t w (e ∷ es) ops u y → es ≡ []
    → (op : Operation) × (ops ≡ op ∷ []) × Asks w e op × Step o t w op u y
one_step_only (one_step {op = op} named asks s (no_step says)) e = (op, refl, asks, s)
one_step_only (one_step named asks s (one_step {e = k} {es = ks} n a t rest)) e = let wrong : k ∷ ks ≡ [] = e in cc

module _ (d : Document) (asked : PlainEdit) (old new : List Node) (tree : IsTree old) (after : IsTree new) (shown : Shows d (ordered_tree old 0)) (characters : IsOfCharacters asked) (numbers : Allows d.options asked)
    (made : EditStep old asked new) where
  pub led : LedTo d asked new
  led =
      let t : OrderedTree = ordered_tree old 0 in
      let u : OrderedTree = ordered_tree new 0 in
      let all : All IsOfCharacters (asked ∷ []) = All-cons IsOfCharacters asked [] characters (All-nil IsOfCharacters) in
      let chain = makes_steps d.options old new (asked ∷ []) tree (first_made made after none_made) shown.sound all (All-cons (Allows d.options) asked [] numbers (All-nil (Allows d.options))) in
      let one = one_step_only chain.3 refl in
      let op : Operation = one.0 in
      let step = one.3 in
      let same : d.value ≡ chain.0 = document_once d.options t d.value chain.0 shown.value step.old.value in
      let is : document_of d.options t chain.0 ≡ d = ap (λ w. document_of d.options t w) (sym same) ∙ sym shown.is in
      let e : Document = document_of (options_behind d.options op) u chain.1 in
      let run : Run (document_of d.options t chain.0) (op ∷ []) e =
      subst (λ (ops : List Operation). Run (document_of d.options t chain.0) ops (document_of (options_after d.options ops) u chain.1)) one.1 (steps_are_run d.options t u chain.0 chain.1 (asked ∷ []) chain.2 chain.3 all).0 in
      record {
        e = e;
        shown = record { sound = step.new.sound; value = step.new.value; is = refl };
        op = op;
        asks = subst (λ (w : Option Plain). Asks w asked op) (sym same) one.2;
        edited = subst (λ (x : Document). Run x (op ∷ []) e) is run;
        changed = subst (λ (w : Option Plain). IsChanged w op chain.1) (sym same) step.changed;
      }

pub puts_by_one_edit : (which : Which) (d : Document) (v : Plain) (over : Over) (names : List (List ℕ)) (op : PlainEdit) (old new : List Node) → PutsByOneEdit which d v over names op old new
puts_by_one_edit which d v over names op old new tree after shown by characters made = (
  λ m. put_is_free by m.0 m.1,
  op,
  by,
  made,
  λ numbers.
      let l = led d op old new tree after shown characters (put_numbers d.options by numbers) made in
      let put = (puts_by_it which v over d.value names op by).1 l.e.value l.op l.asks l.changed in (
        l.e,
        l.shown,
        record {
          op = l.op;
          asked = l.asks;
          edited = l.edited;
          put = put;
          there = put_at put;
          elsewhere = λ path u k. put_same put path u k;
          within = λ fits. run_within op l.asks l.edited (put_fits by fits);
        },
      ),
)

pub drops_by_one_edit : (d : Document) (names : List (List ℕ)) (op : PlainEdit) (old new : List Node) → DropsByOneEdit d names op old new
drops_by_one_edit d names op old new tree after shown by made =
    let l = led d op old new tree after shown (drop_characters by) (drop_numbers d.options by) made in
    let dropped = (drops_by_it d.value names op by).1 l.e.value l.op l.asks l.changed in (
      op,
      by,
      made,
      l.e,
      l.shown,
      record {
        op = l.op;
        asked = l.asks;
        edited = l.edited;
        dropped = dropped;
        elsewhere = λ path u k. dropped_same dropped path u k;
        within = run_within op l.asks l.edited (drop_fits by);
      },
    )

-- what is named, and writes nothing that is nested too deep, is refused for memory alone
pub for_memory : (d : Document) (old : List Node) (op : PlainEdit) (why : EditError) → IsTree old → Shows d (ordered_tree old 0) → IsNamed d.value (comment_count (ordered_tree old 0)) op → IsNoRemark op → needs_in d.value op ≤ 512 → FailsWith old op why → why ≡ OutOfMemory
for_memory d old op OutOfMemory tree shown named other small reported = refl
for_memory d old op NoSuchPlace tree shown named other small reported = absurd ((tells_unnamed old d.options tree shown.sound op NoSuchPlace reported d.value shown.value).0 refl named)
for_memory d old op InvalidComment tree shown named other small reported = absurd (other.0 (refused_so d.options old tree shown.sound d.value shown.value op InvalidComment reported))
for_memory d old op LineContinues tree shown named other small reported = absurd (other.1 (refused_so d.options old tree shown.sound d.value shown.value op LineContinues reported))
for_memory d old op NestingDepthExceeded tree shown named other small reported = absurd (refused_deep d old op tree shown small reported)
for_memory d old op why tree shown named other small reported = absurd (refused_so d.options old tree shown.sound d.value shown.value op why reported)

-- what is named is refused for memory, or as nested too deep
pub for_room : (d : Document) (old : List Node) (op : PlainEdit) (why : EditError) → IsTree old → Shows d (ordered_tree old 0) → IsNamed d.value (comment_count (ordered_tree old 0)) op → IsNoRemark op → FailsWith old op why → IsNoRoom why
for_room d old op OutOfMemory tree shown named other reported = tt
for_room d old op NestingDepthExceeded tree shown named other reported = tt
for_room d old op NoSuchPlace tree shown named other reported = absurd ((tells_unnamed old d.options tree shown.sound op NoSuchPlace reported d.value shown.value).0 refl named)
for_room d old op InvalidComment tree shown named other reported = absurd (other.0 (refused_so d.options old tree shown.sound d.value shown.value op InvalidComment reported))
for_room d old op LineContinues tree shown named other reported = absurd (other.1 (refused_so d.options old tree shown.sound d.value shown.value op LineContinues reported))
for_room d old op why tree shown named other reported = absurd (refused_so d.options old tree shown.sound d.value shown.value op why reported)

pub puts_but_for_memory : (which : Which) (d : Document) (v : Plain) (over : Over) (names : List (List ℕ)) (op : PlainEdit) (old : List Node) (why : EditError) → PutsUnlessOutOfMemory which d v over names op old why
puts_but_for_memory which d v over names op old why tree shown fits by =
    for_memory d old op why tree shown ((puts_by_it which v over d.value names op by).0 (comment_count (ordered_tree old 0))) (put_no_remark by) (put_fits by fits)

pub drops_but_for_memory : (d : Document) (names : List (List ℕ)) (op : PlainEdit) (old : List Node) (why : EditError) → DropsButForMemory d names op old why
drops_but_for_memory d names op old why tree shown by =
    for_memory d old op why tree shown ((drops_by_it d.value names op by).0 (comment_count (ordered_tree old 0))) (drop_no_remark by) (drop_fits by)
